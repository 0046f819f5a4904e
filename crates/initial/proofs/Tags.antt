-- The tag after a `<` and the first tag of a text, on each way through the code. Assumes nothing.
use Rattle.std.specs.Prelude.{if◌then◌else◌, cond, ◌==◌, zip, codes}
use Rattle.std.specs.List.{list_any}
use Rattle.std.specs.Char.{to_ascii_lowercase}
use Prim.Native.Nat.{ℕ, suc, ◌+◌, ◌-◌, ◌<◌, ◌≤◌}
use mathlib.Core.Path.{◌≡◌, refl, sym, ap, ◌∙◌}
use mathlib.Core.Bool.{Bool, true, false, not, ◌&&◌, ◌||◌, false≢true}
use mathlib.Core.List.{List, [], ◌∷◌}
use native.Mathlib.Omega.{arith}
use native.Mathlib.Nat.{add-zero, le_refl}
use native.Mathlib.Numerals.{add-one}
use lib.Dec.{eqb, ltb}
use lib.ListN.{length, get_or, take, drop, drop_of_length-le, length-drop}
use lib.Seq.{drop-drop, take_all, get_or-drop}
use borrow.Author.Tests.{ne_eqb, le-leb, lt-leb, ltb-true, ltb-false, eqb-true}
use Rattle.byte.specs.Bytes.{is_none_of}
use Rattle.byte.specs.Words.{bytes, run}
use Rattle.source.specs.Code.{RunEnd}
use Rattle.byte.proofs.Tests.{choice, none_of}
use Rattle.byte.proofs.Words.{drop-one}
use Rattle.token.specs.declared.Kind.{Kind}
use Rattle.outcome.specs.declared.OpenTagKind.{OpenTagKind}
use Rattle.outcome.specs.declared.Tag.{Tag}
use Rattle.outcome.specs.declared.Tagged.{Tagged}
use Rattle.outcome.specs.Initials.{lower, full_tag, open_tag, tag, or_later, tagged, tag_length}
use Rattle.initial.specs.Code.{is_no_less, LessAt, tag_kind}

-- nothing is left, where a tag would be the short one
abbrev pub last_tag : Bool → Tag
last_tag end = if end then Tag.Open OpenTagKind.Short else Tag.Undecided

pub last_tag_end : (end : Bool) → end ≡ true → Tag.Open OpenTagKind.Short ≡ last_tag end
last_tag_end end e = rw e

pub last_tag_more : (end : Bool) → end ≡ false → Tag.Undecided ≡ last_tag end
last_tag_more end e = rw e

pub ruleset last_tags = (last_tag_end, last_tag_more)

-- what the code asks of a byte and its letter
abbrev differs : ℕ × ℕ → Bool
differs p = not (p.1 == to_ascii_lowercase p.0)

lowered : (b : ℕ) → to_ascii_lowercase b ≡ lower b
unfolding lower
lowered b = go (ltb b 65) (ltb b 91) refl refl
  where
    go : (s t : Bool) → ltb b 65 ≡ s → ltb b 91 ≡ t → cond s b (cond t (b + 32) b) ≡ lower b
    go true t e f = rw (lt-leb 65 b (ltb-true b 65 e))
    go false true e f = rw (le-leb 65 b (ltb-false b 65 e), le-leb b 90 (omega (arith, ltb-true b 91 f)))
    go false false e f = rw (le-leb 65 b (ltb-false b 65 e), lt-leb b 90 (omega (arith, ltb-false b 91 f)))

module _ (end : Bool) where
  letters_other : (letters xs : List ℕ) → list_any differs (zip xs letters) ≡ true → full_tag end letters xs ≡ Tag.Open OpenTagKind.Short
  unfolding full_tag
  letters_other letters [] e = absurd (false≢true e)
  letters_other [] (b ∷ rest) e = absurd (false≢true e)
  letters_other (a ∷ letters) (b ∷ rest) e =
      rw (← lowered b) (go (eqb a (to_ascii_lowercase b)) e (letters_other letters rest))
    where
      go : (t : Bool) → (not t || list_any differs (zip rest letters)) ≡ true
          → (list_any differs (zip rest letters) ≡ true → full_tag end letters rest ≡ Tag.Open OpenTagKind.Short)
          → (if t then full_tag end letters rest else Tag.Open OpenTagKind.Short) ≡ Tag.Open OpenTagKind.Short
      go true f later = later f
      go false f later = refl

  letters_cut : (letters xs : List ℕ) → list_any differs (zip xs letters) ≡ false → length xs < length letters
      → full_tag end letters xs ≡ last_tag end
  unfolding full_tag
  letters_cut [] xs e h = absurd (omega arith)
  letters_cut (a ∷ letters) [] e h = refl
  letters_cut (a ∷ letters) (b ∷ rest) e h =
      rw (← lowered b) (go (eqb a (to_ascii_lowercase b)) e (λ f. letters_cut letters rest f (omega arith)))
    where
      go : (t : Bool) → (not t || list_any differs (zip rest letters)) ≡ false
          → (list_any differs (zip rest letters) ≡ false → full_tag end letters rest ≡ last_tag end)
          → (if t then full_tag end letters rest else Tag.Open OpenTagKind.Short) ≡ last_tag end
      go true f later = later f
      go false f later = absurd (false≢true (sym f))

  letters_whole : (letters xs : List ℕ) → list_any differs (zip xs letters) ≡ false → length letters ≤ length xs
      → full_tag end letters xs ≡ Tag.Open OpenTagKind.Full
  unfolding full_tag
  letters_whole [] xs e h = refl
  letters_whole (a ∷ letters) [] e h = absurd (omega arith)
  letters_whole (a ∷ letters) (b ∷ rest) e h =
      rw (← lowered b) (go (eqb a (to_ascii_lowercase b)) e (λ f. letters_whole letters rest f (omega arith)))
    where
      go : (t : Bool) → (not t || list_any differs (zip rest letters)) ≡ false
          → (list_any differs (zip rest letters) ≡ false → full_tag end letters rest ≡ Tag.Open OpenTagKind.Full)
          → (if t then full_tag end letters rest else Tag.Open OpenTagKind.Short) ≡ Tag.Open OpenTagKind.Full
      go true f later = later f
      go false f later = absurd (false≢true (sym f))

-- by what the code finds in the text after `<?`
module _ (src : List ℕ) (n : ℕ) (end other : Bool)
    (e : other ≡ list_any differs (zip (take (length src - n) (drop n src)) (codes "php"))) where
  whole : take (length src - n) (drop n src) ≡ drop n src
  whole = take_all (length src - n) (drop n src) (omega (arith, length-drop n src))

  pub full_tag-other : other ≡ true → Tag.Open OpenTagKind.Short ≡ full_tag end (bytes "php") (drop n src)
  unfolding bytes
  full_tag-other t = sym (letters_other end (codes "php") (drop n src) (rw whole at (sym e ∙ t)))

  pub full_tag-cut : (r : Tag) → other ≡ false → length (take (length src - n) (drop n src)) < 3 → r ≡ last_tag end
      → r ≡ full_tag end (bytes "php") (drop n src)
  unfolding bytes
  full_tag-cut r t h f = f ∙ sym (letters_cut end (codes "php") (drop n src) (rw whole at (sym e ∙ t)) (rw whole at h))

  pub full_tag-whole : other ≡ false → 3 ≤ length (take (length src - n) (drop n src))
      → Tag.Open OpenTagKind.Full ≡ full_tag end (bytes "php") (drop n src)
  unfolding bytes
  full_tag-whole t h = sym (letters_whole end (codes "php") (drop n src) (rw whole at (sym e ∙ t)) (rw whole at h))

pub ruleset full_tags = (full_tag-other, full_tag-cut, full_tag-whole)

module _ (src : List ℕ) (n : ℕ) (end : Bool) where
  pub open_tag_past : (r : Tag) → length src ≤ n → r ≡ last_tag end → r ≡ open_tag end (drop n src)
  unfolding open_tag
  open_tag_past r past e = rw (drop_of_length-le src past) e

  pub open_tag-echo : n < length src → get_or src n 0 ≡ 61 → Tag.Open OpenTagKind.Echo ≡ open_tag end (drop n src)
  unfolding open_tag
  open_tag-echo h b = rw (drop-one src n h, b)

  pub open_tag-full : (r : Tag) → n < length src → (get_or src n 0 ≡ 61 → ⊥) → r ≡ full_tag end (bytes "php") (drop n src)
      → r ≡ open_tag end (drop n src)
  unfolding open_tag
  open_tag-full r h b e = e ∙ rw (drop-one src n h, ne_eqb (get_or src n 0) 61 b)

  pub tag_end : length src ≤ n → end ≡ true → Tag.None ≡ tag end (drop n src)
  unfolding tag
  tag_end past t = rw (drop_of_length-le src past, t)

  pub tag_more : length src ≤ n → end ≡ false → Tag.Undecided ≡ tag end (drop n src)
  unfolding tag
  tag_more past t = rw (drop_of_length-le src past, t)

  pub tag_open : (r : Tag) → n < length src → get_or src n 0 ≡ 63 → r ≡ open_tag end (drop (n + 1) src) → r ≡ tag end (drop n src)
  unfolding tag
  tag_open r h b e = e ∙ rw (drop-one src n h, b)

  pub tag_none : n < length src → (get_or src n 0 ≡ 63 → ⊥) → Tag.None ≡ tag end (drop n src)
  unfolding tag
  tag_none h b = rw (drop-one src n h, ne_eqb (get_or src n 0) 63 b)

pub ruleset open_tags = (open_tag_past, open_tag-echo, open_tag-full)

pub ruleset tags = (tag_end, tag_more, tag_open, tag_none)

-- a run stops at a byte that fails its test
run_stops : (test : ℕ → Bool) (xs : List ℕ) → run test xs < length xs → test (get_or xs (run test xs) 0) ≡ false
unfolding run
run_stops test [] h = absurd (omega arith)
run_stops test (b ∷ rest) h = go (test b) refl h (run_stops test rest)
  where
    go : (t : Bool) → test b ≡ t → (if t then suc (run test rest) else 0) < suc (length rest)
        → (run test rest < length rest → test (get_or rest (run test rest) 0) ≡ false)
        → test (get_or (b ∷ rest) (if t then suc (run test rest) else 0) 0) ≡ false
    go true e k later = later (omega arith)
    go false e k later = e

less_only : (b : ℕ) → is_no_less b ≡ false → b ≡ 60
unfolding is_none_of
less_only b e = go (eqb b 60) refl e
  where
    go : (t : Bool) → eqb b 60 ≡ t → (not t && not t && not t && not t) ≡ false → b ≡ 60
    go true f g = eqb-true b 60 f
    go false f g = absurd (false≢true (sym g))

-- the first `<` from a place on, where the code finds it
module _ (src : List ℕ) (at n : ℕ) (p : RunEnd is_no_less src at n) where
  pub less_none : length src ≤ n → RunEnd is_no_less src at (length src)
  less_none h = let e : length src ≡ n = omega (arith, p.inside) in rw e p

  pub less_at : n < length src → LessAt src at n
  less_at h =
      let k = run is_no_less (drop at src) in
      let few : k < length (drop at src) = rw length-drop (omega (arith, p.place)) in
      record { first = p; inside = h; less = rw (p.place, ← get_or-drop at src k 0) (less_only (get_or (drop at src) k 0) (run_stops is_no_less (drop at src) few)) }

pub ruleset less = (less_none, less_at)

-- bytes that are no `<` leave it to the rest
module _ (end : Bool) where
  tagged_other : (n b : ℕ) (rest : List ℕ) → is_no_less b ≡ true → tagged end n (b ∷ rest) ≡ tagged end (suc n) rest
  unfolding tagged
  tagged_other n b rest e =
      let h = none_of b 60 60 60 60 e in
      rw h.first

  tagged_run : (n : ℕ) (xs : List ℕ) → tagged end n xs ≡ tagged end (n + run is_no_less xs) (drop (run is_no_less xs) xs)
  unfolding run
  tagged_run n [] = rw (add-zero n)
  tagged_run n (b ∷ rest) =
      choice Passed (is_no_less b) (suc (run is_no_less rest)) 0 (λ e. passed e (tagged_run (suc n) rest)) (λ e. rw (add-zero n))
    where
      Passed : ℕ → Type 0
      Passed j = tagged end n (b ∷ rest) ≡ tagged end (n + j) (drop j (b ∷ rest))

      passed : is_no_less b ≡ true
          → tagged end (suc n) rest ≡ tagged end (suc n + run is_no_less rest) (drop (run is_no_less rest) rest)
          → Passed (suc (run is_no_less rest))
      passed e later =
          let j = run is_no_less rest in
          let p : suc n + j ≡ n + suc j = omega arith in
          tagged_other n b rest e ∙ later ∙ ap (λ (i : ℕ). tagged end i (drop j rest)) p

-- the first tag from `at` on is the first from i on
pub record Finding (src : List ℕ) (end : Bool) (at i : ℕ) : Type 0 where
  pub low : at ≤ i
  pub inside : i ≤ length src
  pub same : tagged end at (drop at src) ≡ tagged end i (drop i src)

module _ (src : List ℕ) (end : Bool) (at : ℕ) where
  finding_run : (i : ℕ) → Finding src end at i → (n : ℕ) → RunEnd is_no_less src i n → Finding src end at n
  finding_run i f n p =
      let size : run is_no_less (drop i src) ≡ n - i = omega (arith, p.place) in
      let place : i + (n - i) ≡ n = omega (arith, p.place) in
      record {
        low = omega (arith, p.place, f.low);
        inside = p.inside;
        same = f.same ∙ tagged_run end i (drop i src) ∙ rw (size, drop-drop (n - i) i src, place);
      }

  pub finding_first : at ≤ length src → Finding src end at at
  finding_first h = record { low = omega arith; inside = h; same = refl }

  module _ (from : ℕ) (f : Finding src end at from) where
    module _ (p : RunEnd is_no_less src from (length src)) where
      done : Finding src end at (length src)
      done = finding_run from f (length src) p

      ended : drop (length src) src ≡ []
      ended = drop_of_length-le src (le_refl (length src))

      pub finding_over : end ≡ true → Tagged.Over ≡ tagged end at (drop at src)
      unfolding tagged
      finding_over t = sym (done.same ∙ rw (ended, t))

      pub finding_more : end ≡ false → Tagged.Undecided ≡ tagged end at (drop at src)
      unfolding tagged
      finding_more t = sym (done.same ∙ rw (ended, t))

    module _ (i : ℕ) (p : LessAt src from i) (t : Tag) (e : t ≡ tag end (drop (i + 1) src)) where
      there : Finding src end at i
      there = finding_run from f i p.first

      turn : tagged end at (drop at src) ≡ or_later t i (tagged end (i + 1) (drop (i + 1) src))
      unfolding tagged
      turn = there.same ∙ rw (drop-one src i p.inside, p.less, e, add-one i)

      pub finding_tag : (kind : OpenTagKind) → t ≡ Tag.Open kind → Tagged.At kind i ≡ tagged end at (drop at src)
      unfolding or_later
      finding_tag kind g = sym (turn ∙ rw g)

      pub finding_undecided : t ≡ Tag.Undecided → Tagged.Undecided ≡ tagged end at (drop at src)
      unfolding or_later
      finding_undecided g = sym (turn ∙ rw g)

      pub finding_on : t ≡ Tag.None → Finding src end at (i + 1)
      unfolding or_later
      finding_on g = record { low = omega (arith, there.low); inside = omega (arith, p.inside); same = turn ∙ rw g }

pub ruleset finding = (finding_first, finding_over, finding_more, finding_tag, finding_undecided, finding_on)

pub tag_kind_arm : (kind arm : OpenTagKind) (r : Kind) → kind ≡ arm → r ≡ tag_kind arm → r ≡ tag_kind kind
tag_kind_arm kind arm r e h = rw e h

pub tag_length_arm : (kind arm : OpenTagKind) (r : ℕ) → kind ≡ arm → r ≡ tag_length arm → r ≡ tag_length kind
tag_length_arm kind arm r e h = rw e h
