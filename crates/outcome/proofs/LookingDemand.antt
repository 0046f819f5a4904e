-- Demand 3 for runs of identifier bytes and for the modes LookingForVarname, LookingForProperty and VarOffset. Assumes nothing.
--   named_stays, named_cut, named_told                                              a run that is told stays; one that is not goes on after the part; at the end it is told
--   looking_for_varname_demands, looking_for_property_demands, var_offset_demands   the modes, from any position on
use Rattle.std.specs.Prelude.{if◌then◌else◌, Option, Some, None}
use mathlib.Core.Path.{◌≡◌, refl, ap, ◌∙◌}
use mathlib.Core.Bool.{Bool, true, false}
use mathlib.Core.List.{List, [], ◌∷◌, ◌++◌}
use Prim.Native.Nat.{ℕ, suc, ◌+◌, ◌≤◌, ◌<◌}
use native.Mathlib.Omega.{arith}
use lib.ListN.{length, drop, length-drop}
use lib.Seq.{take-append-le, drop-append-le, drop-append_seam}
use Rattle.byte.specs.Words.{◌is◌, every, bytes}
use Rattle.byte.specs.Bytes.{is_start, is_identifier, is_letter, is_digit}
use Rattle.byte.specs.Refusals.{unexpected_end_of_file, no_property}
use Rattle.byte.proofs.Tests.{choice}
use Rattle.state.specs.declared.Frame.{Frame}
use Rattle.token.specs.Kinds.{identifier, arrow, question_arrow}
use Rattle.unit.proofs.Stays.{Stays, clash, if_stays}
use Rattle.unit.proofs.Openings.{one_more}
use Rattle.outcome.specs.declared.Change.{Change}
use Rattle.outcome.specs.Outcomes.{Outcome, goes, limited}
use Rattle.outcome.specs.Lookings.{named, token, is_bracketed, varname, looking_for_varname, property, arrow_head, questioned}
use Rattle.outcome.specs.Lookings.{looking_for_property, var_offset}
use Rattle.outcome.proofs.Demand.{splits, Demands, Answers, if_answers, settled, unseen, answers_demands}
use Rattle.outcome.proofs.Demand.{told_waits, refused_waits, after_apart, pieces_apart, refused_apart}

-- ---- runs

pub over_told : {A : Type 0} {k : ℕ} → Some k ≡ None → A
over_told e = clash cc

pub named_stays : (k : ℕ) (xs more : List ℕ) → Stays None (named false k xs) (named true k (xs ++ more))
unfolding named
named_stays k [] more h = absurd (h refl)
named_stays k (b ∷ xs) more h = if_stays (is_identifier b) (named_stays (suc k) xs more) (λ z. refl) h

pub named_cut : (k : ℕ) (xs : List ℕ) → named false k xs ≡ None
    → (c : List ℕ) → named true k (xs ++ c) ≡ named true (k + length xs) c
unfolding named
named_cut k [] h c = ap (λ i. named true i c) (omega arith)
named_cut k (b ∷ xs) h c = go (is_identifier b) (named_cut (suc k) xs) h
  where
    go : (t : Bool)
        → (named false (suc k) xs ≡ None → (c : List ℕ) → named true (suc k) (xs ++ c) ≡ named true (suc k + length xs) c)
        → (if t then named false (suc k) xs else Some k) ≡ None
        → (if t then named true (suc k) (xs ++ c) else Some k) ≡ named true (k + suc (length xs)) c
    go true ih z =
        let e : suc k + length xs ≡ k + suc (length xs) = omega arith in
        ih z c ∙ ap (λ i. named true i c) e
    go false ih z = over_told z

pub named_told : (k : ℕ) (xs : List ℕ) → named true k xs ≡ None → ⊥
unfolding named
named_told k [] e = over_told e
named_told k (b ∷ xs) e =
    choice (λ r. r ≡ None → ⊥) (is_identifier b) _ _ (λ t. named_told (suc k) xs) (λ t. over_told) e

-- a run that is told ends before the part does
abbrev RunInside : ℕ → Option ℕ → Type 0
RunInside hi (Some k) = k < hi
RunInside hi None = Unit {0}

named_inside : (k hi : ℕ) (xs : List ℕ) → k + length xs ≤ hi → RunInside hi (named false k xs)
unfolding named
named_inside k hi [] h = tt
named_inside k hi (b ∷ xs) h =
    choice (RunInside hi) (is_identifier b) _ _ (λ t. named_inside (suc k) hi xs (omega arith)) (λ t. omega arith)

-- the run from the head of ys on, where all of ys is of it
named_whole : (b : ℕ) (xs : List ℕ) → named false 1 xs ≡ None → (c : List ℕ)
    → named true 1 (xs ++ c) ≡ named true (length (b ∷ xs)) c
named_whole b xs h c =
    let e : 1 + length xs ≡ length (b ∷ xs) = omega arith in
    named_cut 1 xs h c ∙ ap (λ i. named true i c) e

-- ---- LookingForVarname

bracketed_append : (ys rest : List ℕ) → 0 < length ys → is_bracketed (ys ++ rest) ≡ is_bracketed ys
unfolding is_bracketed
bracketed_append [] rest h = absurd (omega arith)
bracketed_append (b ∷ ys) rest h = refl

varname_wait : (n : ℕ) (xs : List ℕ) (r : Option ℕ) → varname n xs r ≡ Outcome.Wait → r ≡ None
unfolding varname
varname_wait n xs (Some k) e =
    choice (λ o. o ≡ Outcome.Wait → Some k ≡ None) (is_bracketed (drop k xs)) _ _ (λ t. told_waits) (λ t. told_waits) e
varname_wait n xs None e = refl

varname_append : (n : ℕ) (part rest : List ℕ) (r : Option ℕ) → RunInside (length part) r → varname n (part ++ rest) r ≡ varname n part r
unfolding varname
varname_append n part rest (Some k) h =
    let a : k ≤ length part = omega arith in
    let b : 0 < length (drop k part) = omega (arith, length-drop k part) in
    rw (drop-append-le k part rest a, bracketed_append (drop k part) rest b, take-append-le k part rest a)
varname_append n part rest None h = refl

-- the name as it stands, or a brace after it
varname_answers : (p n b : ℕ) (xs : List ℕ)
    → Answers p (varname n (b ∷ xs) (named false 1 xs)) (λ c. varname n (b ∷ (xs ++ c)) (named true 1 (xs ++ c)))
unfolding varname named is_bracketed limited every is_identifier is_start is_letter is_digit bytes
varname_answers p n b xs =
    record {
      stays = λ rest k.
          ap (varname n (b ∷ (xs ++ rest))) (named_stays 1 xs rest (λ z. k (ap (varname n (b ∷ xs)) z)))
          ∙ varname_append n (b ∷ xs) rest (named false 1 xs) (named_inside 1 (length (b ∷ xs)) xs (omega arith));
      splits = λ e.
          let h = varname_wait n (b ∷ xs) (named false 1 xs) e in
          splits p (λ c. varname n (b ∷ (xs ++ c)) (named true 1 (xs ++ c))) (bytes "}") (goes n (Change.Swap Frame.Scripting))
          (token identifier n (b ∷ (xs ++ bytes "}")) (length (b ∷ xs)) (Change.Swap Frame.Scripting))
          refl
          (rw (named_whole b xs h [], drop-append_seam xs []))
          (rw (named_whole b xs h (bytes "}"), drop-append_seam xs (bytes "}")))
          pieces_apart;
      told = λ e. named_told 1 (xs ++ []) (varname_wait n (b ∷ (xs ++ [])) _ e);
    }

looking_for_varname_answers : (n p : ℕ) (xs : List ℕ)
    → Answers p (looking_for_varname false n xs) (λ c. looking_for_varname true n (xs ++ c))
unfolding looking_for_varname varname named is_bracketed limited every is_identifier is_start is_letter is_digit bytes
looking_for_varname_answers n p [] =
    unseen p (looking_for_varname true n)
    (splits p (looking_for_varname true n) (bytes "a}") (goes n (Change.Swap Frame.Scripting)) _ refl refl refl pieces_apart)
    told_waits
looking_for_varname_answers n p (b ∷ xs) =
    if_answers p (is_start b) (varname_answers p n b xs) (settled p (goes n (Change.Swap Frame.Scripting)) told_waits)

pub looking_for_varname_demands : (n p : ℕ) → Demands p (λ end. looking_for_varname end n)
looking_for_varname_demands n p = answers_demands p (λ end. looking_for_varname end n) (looking_for_varname_answers n p)

-- ---- LookingForProperty

property_wait : (n : ℕ) (xs : List ℕ) (r : Option ℕ) → property n xs r ≡ Outcome.Wait → r ≡ None
unfolding property
property_wait n xs (Some k) e = told_waits e
property_wait n xs None e = refl

property_append : (n : ℕ) (part rest : List ℕ) (r : Option ℕ) → RunInside (length part) r → property n (part ++ rest) r ≡ property n part r
unfolding property
property_append n part rest (Some k) h =
    let a : k ≤ length part = omega arith in
    rw (take-append-le k part rest a)
property_append n part rest None h = refl

-- the name as it stands, or one byte more
property_answers : (p n b : ℕ) (xs : List ℕ)
    → Answers p (property n (b ∷ xs) (named false 1 xs)) (λ c. property n (b ∷ (xs ++ c)) (named true 1 (xs ++ c)))
unfolding property named limited every is_identifier is_start is_letter is_digit
property_answers p n b xs =
    record {
      stays = λ rest k.
          ap (property n (b ∷ (xs ++ rest))) (named_stays 1 xs rest (λ z. k (ap (property n (b ∷ xs)) z)))
          ∙ property_append n (b ∷ xs) rest (named false 1 xs) (named_inside 1 (length (b ∷ xs)) xs (omega arith));
      splits = λ e.
          let h = property_wait n (b ∷ xs) (named false 1 xs) e in
          splits p (λ c. property n (b ∷ (xs ++ c)) (named true 1 (xs ++ c))) one_more
          (token identifier n (b ∷ (xs ++ [])) (length (b ∷ xs)) Change.Leave)
          (token identifier n (b ∷ (xs ++ one_more)) (suc (length (b ∷ xs))) Change.Leave)
          refl
          (rw (named_whole b xs h []))
          (rw (named_whole b xs h one_more))
          (after_apart (λ (z : n + length (b ∷ xs) ≡ n + suc (length (b ∷ xs))). omega arith));
      told = λ e. named_told 1 (xs ++ []) (property_wait n (b ∷ (xs ++ [])) _ e);
    }

-- a token that the part has
token_answers : (p kind n : ℕ) (xs : List ℕ) (k : ℕ) (change : Change) → k ≤ length xs
    → Answers p (token kind n xs k change) (λ c. token kind n (xs ++ c) k change)
token_answers p kind n xs k change h =
    record { stays = λ rest z. rw (take-append-le k xs rest h); splits = told_waits; told = told_waits }

module _ (n p : ℕ) (xs : List ℕ) where
  -- an arrow stands at the head of the part, up to ys
  arrow_head_answers : (kind k : ℕ) (ys : List ℕ) → k + length ys ≤ length xs
      → Answers p (arrow_head kind k false n xs ys) (λ c. arrow_head kind k true n (xs ++ c) (ys ++ c))
  unfolding arrow_head limited every bytes
  arrow_head_answers kind k [] h =
      unseen p (λ c. arrow_head kind k true n (xs ++ c) c)
      (splits p (λ c. arrow_head kind k true n (xs ++ c) c) (bytes ">") (Outcome.Refused no_property n) _ refl refl refl refused_apart)
      refused_waits
  arrow_head_answers kind k (b ∷ ys) h =
      if_answers p (b is ">") (token_answers p kind n xs (suc k) Change.Keep (omega arith))
      (settled p (Outcome.Refused no_property n) refused_waits)

  questioned_answers : (ys : List ℕ) → 1 + length ys ≤ length xs
      → Answers p (questioned false n xs ys) (λ c. questioned true n (xs ++ c) (ys ++ c))
  unfolding questioned arrow_head limited every bytes
  questioned_answers [] h =
      unseen p (λ c. questioned true n (xs ++ c) c)
      (splits p (λ c. questioned true n (xs ++ c) c) (bytes "->") (Outcome.Refused no_property n) _ refl refl refl refused_apart)
      refused_waits
  questioned_answers (b ∷ ys) h =
      if_answers p (b is "-") (arrow_head_answers question_arrow 2 ys (omega arith))
      (settled p (Outcome.Refused no_property n) refused_waits)

looking_for_property_answers : (n p : ℕ) (xs : List ℕ)
    → Answers p (looking_for_property false n xs) (λ c. looking_for_property true n (xs ++ c))
unfolding looking_for_property property named limited every is_identifier is_start is_letter is_digit bytes
looking_for_property_answers n p [] =
    unseen p (looking_for_property true n)
    (splits p (looking_for_property true n) (bytes "a") (Outcome.Refused no_property n) _ refl refl refl refused_apart)
    refused_waits
looking_for_property_answers n p (b ∷ xs) =
    if_answers p (b is "?") (questioned_answers n p (b ∷ xs) xs (omega arith))
    (if_answers p (b is "-") (arrow_head_answers n p (b ∷ xs) arrow 1 xs (omega arith))
    (if_answers p (is_start b) (property_answers p n b xs) (settled p (Outcome.Refused no_property n) refused_waits)))

pub looking_for_property_demands : (n p : ℕ) → Demands p (λ end. looking_for_property end n)
looking_for_property_demands n p = answers_demands p (λ end. looking_for_property end n) (looking_for_property_answers n p)

-- ---- VarOffset

var_offset_answers : (n p : ℕ) (xs : List ℕ) → Answers p (var_offset false n xs) (λ c. var_offset true n (xs ++ c))
unfolding var_offset limited every
var_offset_answers n p [] =
    unseen p (var_offset true n)
    (splits p (var_offset true n) one_more (Outcome.Refused unexpected_end_of_file n) _ refl refl refl refused_apart)
    refused_waits
var_offset_answers n p (b ∷ xs) = settled p (goes (suc n) (if b is "]" then Change.Leave else Change.Keep)) told_waits

pub var_offset_demands : (n p : ℕ) → Demands p (λ end. var_offset end n)
var_offset_demands n p = answers_demands p (λ end. var_offset end n) (var_offset_answers n p)
