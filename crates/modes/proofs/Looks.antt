-- LookingForVarname, LookingForProperty and VarOffset on each way through them, and runs of identifier bytes. Assumes nothing.
use Rattle.std.specs.Prelude.{if◌then◌else◌, ◌⊎◌, Option, Some, None}
use mathlib.Core.Logic.{inl, inr}
use Prim.Native.Nat.{ℕ, suc, ◌+◌, ◌-◌, ◌^◌, ◌<◌, ◌≤◌}
use mathlib.Core.Path.{◌≡◌, sym, ◌∙◌}
use mathlib.Core.Bool.{Bool, true, false, not}
use mathlib.Core.List.{List, [], ◌∷◌}
use native.Mathlib.Omega.{arith}
use native.Mathlib.Numerals.{add-one}
use lib.Dec.{ltb, leb-suc-suc}
use lib.ListN.{length, get_or, drop, length-drop, drop_of_length-le}
use lib.Seq.{drop-drop}
use borrow.Author.Tests.{ne_eqb, lt-ltb, le-ltb, not-true, not-false}
use Rattle.byte.specs.Words.{run}
use Rattle.byte.specs.Bytes.{is_start, is_identifier}
use Rattle.source.specs.Code.{RunEnd}
use Rattle.byte.specs.Refusals.{unexpected_end_of_file, no_property}
use Rattle.byte.proofs.Words.{drop-one}
use Rattle.state.specs.declared.Frame.{Frame}
use Rattle.token.specs.declared.Kind.{Kind}
use Rattle.token.specs.Kinds.{kind_number, identifier, question_arrow, arrow}
use Rattle.outcome.specs.declared.Change.{Change}
use Rattle.outcome.specs.Outcomes.{Outcome, goes, ending}
use Rattle.outcome.specs.Lookings.{named, is_bracketed, varname, looking_for_varname, property, arrow_head, questioned, looking_for_property, var_offset}
use Rattle.byte.specs.declared.Refusal.{Refusal}
use Rattle.plan.specs.declared.Plan.{Plan}
use Rattle.plan.specs.Code.{Here, Plans, copied_draft, goes_plan, one_plan, ending_plan}
use Rattle.plan.proofs.Plans.{token_plans, goes_plans, refused_plans, wait_plans, ending_plans}

-- ---- runs of identifier bytes

pub named_run : (end : Bool) (k : ℕ) (xs : List ℕ)
    → named end k xs ≡ (if ltb (run is_identifier xs) (length xs) then Some (k + run is_identifier xs)
    else if end then Some (k + run is_identifier xs) else None)
unfolding named run
named_run end k [] =
    let z : k + 0 ≡ k = omega arith in
    rw z
named_run end k (b ∷ rest) = go (is_identifier b) (named_run end (suc k) rest)
  where
    go : (t : Bool)
        → named end (suc k) rest ≡ (if ltb (run is_identifier rest) (length rest) then Some (suc k + run is_identifier rest)
        else if end then Some (suc k + run is_identifier rest) else None)
        → (if t then named end (suc k) rest else Some k)
        ≡ (if ltb (if t then suc (run is_identifier rest) else 0) (suc (length rest)) then Some (k + (if t then suc (run is_identifier rest) else 0))
        else if end then Some (k + (if t then suc (run is_identifier rest) else 0)) else None)
    go true e =
        let n : suc k + run is_identifier rest ≡ k + suc (run is_identifier rest) = omega arith in
        e ∙ rw (leb-suc-suc (suc (run is_identifier rest)) (length rest), n)
    go false e =
        let z : k + 0 ≡ k = omega arith in
        rw (lt-ltb 0 (suc (length rest)) (omega arith), z)

module _ (src : List ℕ) (at : ℕ) (end : Bool) (here : Here src at) (n : ℕ) (e : RunEnd is_identifier src at n) where
  count : n - at + 1 ≡ 1 + run is_identifier (drop at src)
  count = omega (arith, e.place)

  pub named_stops : n < length src → Some (n - at + 1) ≡ named end 1 (drop at src)
  named_stops h =
      let inside : run is_identifier (drop at src) < length (drop at src) = rw (length-drop at src) (omega (arith, e.place)) in
      sym (named_run end 1 (drop at src) ∙ rw (lt-ltb (run is_identifier (drop at src)) (length (drop at src)) inside, ← count))

  module _ (h : length src ≤ n) where
    whole : length (drop at src) ≤ run is_identifier (drop at src)
    whole = rw (length-drop at src) (omega (arith, e.place))

    pub named_ends : end ≡ true → Some (n - at + 1) ≡ named end 1 (drop at src)
    named_ends t = sym (named_run end 1 (drop at src) ∙ rw (le-ltb (run is_identifier (drop at src)) (length (drop at src)) whole, t, ← count))

    pub named_waits : end ≡ false → None ≡ named end 1 (drop at src)
    named_waits t = sym (named_run end 1 (drop at src) ∙ rw (le-ltb (run is_identifier (drop at src)) (length (drop at src)) whole, t))

pub ruleset naming = (named_stops, named_ends, named_waits)

named_inside : (end : Bool) (k j : ℕ) (xs : List ℕ) → Some j ≡ named end k xs → j ≤ k + length xs
unfolding named
named_inside end k j [] h = go end h
  where
    go : (t : Bool) → Some j ≡ (if t then Some k else None) → j ≤ k + 0
    go true e = let z : Some j ≡ Some k = e in let y : j ≡ k = cc in omega arith
    go false e = let z : Some j ≡ None = e in absurd (let y : ◌≡◌ {A = ℕ} 0 1 = cc in omega arith)
named_inside end k j (b ∷ rest) h = go (is_identifier b) h (named_inside end (suc k) j rest)
  where
    go : (t : Bool) → Some j ≡ (if t then named end (suc k) rest else Some k)
        → (Some j ≡ named end (suc k) rest → j ≤ suc k + length rest) → j ≤ k + suc (length rest)
    go true e f = omega (arith, f e)
    go false e f = let z : Some j ≡ Some k = e in let y : j ≡ k = cc in omega arith

-- the run after the byte at a place lies within the source
module _ (src : List ℕ) (end : Bool) (at : ℕ) (h : at < length src) (name : Option ℕ) (n : name ≡ named end 1 (drop (at + 1) src)) (k : ℕ)
    (e : name ≡ Some k) where
  pub name_inside : at + k ≤ length src
  name_inside =
      let size : length (drop (at + 1) src) ≡ length src - (at + 1) = length-drop (at + 1) src in
      omega (arith, named_inside end 1 k (drop (at + 1) src) (sym e ∙ n))

  pub name_short : length src ≤ 65536 → at + k ≤ 65536
  name_short s = omega (arith, name_inside)

  pub name_small : length src ≤ 65536 → at + k < 2 ^ 64
  name_small s = omega (arith, name_inside)

module _ (src : List ℕ) (at : ℕ) where
  pub is_bracketed_past : length src ≤ at → false ≡ is_bracketed (drop at src)
  unfolding is_bracketed
  is_bracketed_past h = rw (drop_of_length-le src h)

  module _ (h : at < length src) where
    pub is_bracketed_here : (get_or src at 0 ≡ 91) ⊎ (get_or src at 0 ≡ 125) → true ≡ is_bracketed (drop at src)
    unfolding is_bracketed
    is_bracketed_here (inl b) = rw (drop-one src at h, b)
    is_bracketed_here (inr b) = rw (drop-one src at h, b)

    pub is_bracketed_other : (get_or src at 0 ≡ 91 → ⊥) → (get_or src at 0 ≡ 125 → ⊥) → false ≡ is_bracketed (drop at src)
    unfolding is_bracketed
    is_bracketed_other b c = rw (drop-one src at h, ne_eqb (get_or src at 0) 91 b, ne_eqb (get_or src at 0) 125 c)

pub ruleset bracketed = (is_bracketed_past, is_bracketed_here, is_bracketed_other)

-- ---- LookingForVarname

module _ (src : List ℕ) (end : Bool) (at k : ℕ) (flag : Bool) (f : flag ≡ is_bracketed (drop (at + k) src)) (r : Plan Refusal) where
  pub varname_token : (number : ℕ) → at + k ≤ length src → flag ≡ true
      → r ≡ one_plan (copied_draft number 0 at at (at + k)) (at + k) (Change.Swap Frame.Scripting) → number ≡ identifier
      → Plans src end (varname at (drop at src) (Some k)) r
  unfolding varname
  varname_token number h t e n = rw (drop-drop k at src, ← f, t, e, n) (token_plans src end identifier at k (Change.Swap Frame.Scripting) h)

  pub varname_goes : flag ≡ false → r ≡ goes_plan at (Change.Swap Frame.Scripting)
      → Plans src end (varname at (drop at src) (Some k)) r
  unfolding varname
  varname_goes t e = rw (drop-drop k at src, ← f, t, e) (goes_plans src end at (Change.Swap Frame.Scripting))

pub ruleset varnames = (varname_token, varname_goes)

module _ (src : List ℕ) (end : Bool) (at : ℕ) where
  pub looking_for_varname_past : length src ≤ at → (p r : Plan Refusal) → p ≡ goes_plan at (Change.Swap Frame.Scripting) → r ≡ ending_plan end p
      → Plans src end (looking_for_varname end at (drop at src)) r
  unfolding looking_for_varname
  looking_for_varname_past h p r e f =
      rw (drop_of_length-le src h, f, e)
      (ending_plans src end (goes at (Change.Swap Frame.Scripting)) (goes_plan at (Change.Swap Frame.Scripting))
      (goes_plans src end at (Change.Swap Frame.Scripting)))

  module _ (h : at < length src) (start : Bool) (f : start ≡ is_start (get_or src at 0)) where
    pub looking_for_varname_other : not start ≡ true → (r : Plan Refusal) → r ≡ goes_plan at (Change.Swap Frame.Scripting)
        → Plans src end (looking_for_varname end at (drop at src)) r
    unfolding looking_for_varname
    looking_for_varname_other t r e = rw (drop-one src at h, ← f, not-true start t, e) (goes_plans src end at (Change.Swap Frame.Scripting))

    module _ (t : not start ≡ false) (name : Option ℕ) (n : name ≡ named end 1 (drop (at + 1) src)) where
      pub looking_for_varname_name : (k : ℕ) (r : Plan Refusal) → name ≡ Some k → Plans src end (varname at (drop at src) (Some k)) r
          → Plans src end (looking_for_varname end at (drop at src)) r
      unfolding looking_for_varname
      looking_for_varname_name k r e p = rw (drop-one src at h, ← f, not-false start t, ← n, e) (rw (drop-one src at h) at p)

      pub looking_for_varname_waits : name ≡ None → Plans src end (looking_for_varname end at (drop at src)) Plan.Wait
      unfolding looking_for_varname varname
      looking_for_varname_waits e = rw (drop-one src at h, ← f, not-false start t, ← n, e) (wait_plans src end)

pub ruleset looking_for_varnames = (looking_for_varname_past, looking_for_varname_other, name_inside, looking_for_varname_name, looking_for_varname_waits)

-- ---- LookingForProperty

module _ (src : List ℕ) (end : Bool) (at : ℕ) where
  -- nothing is left
  module _ (p r : Plan Refusal) (e : p ≡ Plan.Refused no_property at) (f : r ≡ ending_plan end p) where
    unproperty : Plans src end (ending end (Outcome.Refused no_property at)) r
    unproperty =
        rw (f, e) (ending_plans src end (Outcome.Refused no_property at) (Plan.Refused no_property at) (refused_plans src end no_property at))

    pub arrow_head_past : (kind : Kind) (k : ℕ) → length src ≤ at + k → Plans src end (arrow_head (kind_number kind) k end at (drop at src) (drop (at + k) src)) r
    unfolding arrow_head
    arrow_head_past kind k h = rw (drop_of_length-le src h) unproperty

    pub questioned_past : length src ≤ at + 1 → Plans src end (questioned end at (drop at src) (drop (at + 1) src)) r
    unfolding questioned
    questioned_past h = rw (drop_of_length-le src h) unproperty

    pub looking_for_property_past : length src ≤ at → Plans src end (looking_for_property end at (drop at src)) r
    unfolding looking_for_property
    looking_for_property_past h = rw (drop_of_length-le src h) unproperty

  module _ (kind : Kind) (k : ℕ) (h : at + k < length src) (r : Plan Refusal) where
    pub arrow_head_token : (number : ℕ) → get_or src (at + k) 0 ≡ 62
        → r ≡ one_plan (copied_draft number 0 at at (at + (k + 1))) (at + (k + 1)) Change.Keep → number ≡ kind_number kind
        → Plans src end (arrow_head (kind_number kind) k end at (drop at src) (drop (at + k) src)) r
    unfolding arrow_head
    arrow_head_token number b e n = rw (drop-one src (at + k) h, b, e, n, add-one k) (token_plans src end (kind_number kind) at (suc k) Change.Keep (omega arith))

    pub arrow_head_other : (get_or src (at + k) 0 ≡ 62 → ⊥) → r ≡ Plan.Refused no_property at
        → Plans src end (arrow_head (kind_number kind) k end at (drop at src) (drop (at + k) src)) r
    unfolding arrow_head
    arrow_head_other b e = rw (drop-one src (at + k) h, ne_eqb (get_or src (at + k) 0) 62 b, e) (refused_plans src end no_property at)

  module _ (h : at + 1 < length src) (r : Plan Refusal) where
    pub questioned_arrow : get_or src (at + 1) 0 ≡ 45
        → Plans src end (arrow_head question_arrow 2 end at (drop at src) (drop (at + 2) src)) r
        → Plans src end (questioned end at (drop at src) (drop (at + 1) src)) r
    unfolding questioned
    questioned_arrow b p =
        let n : at + 1 + 1 ≡ at + 2 = omega arith in
        rw (drop-one src (at + 1) h, b, n) p

    pub questioned_other : (get_or src (at + 1) 0 ≡ 45 → ⊥) → r ≡ Plan.Refused no_property at
        → Plans src end (questioned end at (drop at src) (drop (at + 1) src)) r
    unfolding questioned
    questioned_other b e = rw (drop-one src (at + 1) h, ne_eqb (get_or src (at + 1) 0) 45 b, e) (refused_plans src end no_property at)

  module _ (h : at < length src) (r : Plan Refusal) where
    pub looking_for_property_question : get_or src at 0 ≡ 63 → Plans src end (questioned end at (drop at src) (drop (at + 1) src)) r
        → Plans src end (looking_for_property end at (drop at src)) r
    unfolding looking_for_property
    looking_for_property_question b p = rw (drop-one src at h, b) (rw (drop-one src at h, b) at p)

    pub looking_for_property_arrow : get_or src at 0 ≡ 45 → Plans src end (arrow_head arrow 1 end at (drop at src) (drop (at + 1) src)) r
        → Plans src end (looking_for_property end at (drop at src)) r
    unfolding looking_for_property
    looking_for_property_arrow b p = rw (drop-one src at h, b) (rw (drop-one src at h, b) at p)

  module _ (h : at < length src) (q : get_or src at 0 ≡ 63 → ⊥) (d : get_or src at 0 ≡ 45 → ⊥) (start : Bool) (f : start ≡ is_start (get_or src at 0)) where
    pub looking_for_property_other : not start ≡ true → (r : Plan Refusal) → r ≡ Plan.Refused no_property at
        → Plans src end (looking_for_property end at (drop at src)) r
    unfolding looking_for_property
    looking_for_property_other t r e =
        rw (drop-one src at h, ne_eqb (get_or src at 0) 63 q, ne_eqb (get_or src at 0) 45 d, ← f, not-true start t, e)
        (refused_plans src end no_property at)

    module _ (t : not start ≡ false) (name : Option ℕ) (n : name ≡ named end 1 (drop (at + 1) src)) where
      pub looking_for_property_name : (k : ℕ) (r : Plan Refusal) (number : ℕ) → name ≡ Some k
          → r ≡ one_plan (copied_draft number 0 at at (at + k)) (at + k) Change.Leave → number ≡ identifier
          → Plans src end (looking_for_property end at (drop at src)) r
      unfolding looking_for_property property
      looking_for_property_name k r number e p i =
          rw (drop-one src at h, ne_eqb (get_or src at 0) 63 q, ne_eqb (get_or src at 0) 45 d, ← f, not-false start t, ← n, e, p, i)
          (rw (drop-one src at h) at (token_plans src end identifier at k Change.Leave (name_inside src end at h name n k e)))

      pub looking_for_property_waits : name ≡ None → Plans src end (looking_for_property end at (drop at src)) Plan.Wait
      unfolding looking_for_property property
      looking_for_property_waits e =
          rw (drop-one src at h, ne_eqb (get_or src at 0) 63 q, ne_eqb (get_or src at 0) 45 d, ← f, not-false start t, ← n, e) (wait_plans src end)

pub ruleset arrow_heads = (arrow_head_past, arrow_head_token, arrow_head_other)

pub ruleset questions = (questioned_past, questioned_arrow, questioned_other)

pub ruleset looking_for_properties = (
  looking_for_property_past,
  looking_for_property_question,
  looking_for_property_arrow,
  looking_for_property_other,
  name_short,
  looking_for_property_name,
  looking_for_property_waits,
)

-- ---- VarOffset

module _ (src : List ℕ) (end : Bool) (at : ℕ) (r : Plan Refusal) where
  pub var_offset_past : length src ≤ at → r ≡ ending_plan end (Plan.Refused unexpected_end_of_file at)
      → Plans src end (var_offset end at (drop at src)) r
  unfolding var_offset
  var_offset_past h e =
      rw (drop_of_length-le src h, e)
      (ending_plans src end (Outcome.Refused unexpected_end_of_file at) (Plan.Refused unexpected_end_of_file at) (refused_plans src end unexpected_end_of_file at))

  pub var_offset_closes : at < length src → get_or src at 0 ≡ 93 → r ≡ goes_plan (at + 1) Change.Leave
      → Plans src end (var_offset end at (drop at src)) r
  unfolding var_offset
  var_offset_closes h b e = rw (drop-one src at h, b, e, add-one at) (goes_plans src end (suc at) Change.Leave)

  pub var_offset_on : at < length src → (get_or src at 0 ≡ 93 → ⊥) → r ≡ goes_plan (at + 1) Change.Keep
      → Plans src end (var_offset end at (drop at src)) r
  unfolding var_offset
  var_offset_on h b e = rw (drop-one src at h, ne_eqb (get_or src at 0) 93 b, e, add-one at) (goes_plans src end (suc at) Change.Keep)

pub ruleset var_offsets = (var_offset_past, var_offset_closes, var_offset_on)
