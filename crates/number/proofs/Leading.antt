-- Digits at the head of a text, with one `_` between two of them: `leading` and `following` beside the manual's `grouped`
-- and beside the reader's digits. Assumes nothing.
--   leading_lnum                 where a digit stands at the head they are what `grouped` tells
--   leading_begins               a text begins with them
--   leading_run, leading_whole   of digits that are there, and of those that nothing carries on
--   digits_place                 the reader's digits end where they do
use Rattle.std.specs.Prelude.{Some}
use Prim.Native.Nat.{ℕ, suc, ◌+◌, ◌≤◌}
use mathlib.Core.Path.{◌≡◌, refl, sym, ap, ◌∙◌}
use mathlib.Core.Bool.{Bool, true, false, ◌&&◌, ◌||◌, false≢true}
use mathlib.Core.List.{List, [], ◌∷◌, ◌++◌, append-nil}
use native.Mathlib.Omega.{arith}
use lib.ListN.{length, drop, length-append, take-append-drop}
use lib.Seq.{drop-append_seam, take-add}
use Rattle.byte.specs.Words.{◌is◌}
use Rattle.byte.specs.Bytes.{is_digit}
use Rattle.byte.proofs.Tests.{&&-left, &&-right, choice}
use Rattle.number.specs.declared.Base.{Base}
use Rattle.number.specs.Numbers.{is_one, last, digits_more, digits}
use Rattle.number.specs.Code.{place_of}
use Rattle.number.specs.Manual.{grouped, is_lnum, maybe_lnum, Begins, starts_with, leading_more, leading, following}
use Rattle.number.proofs.Values.{either}
use Rattle.number.proofs.Runs.{place_of_before}

-- a text begins with one text, and what follows it with another
pub begins_append : (xs text more : List ℕ) → Begins xs text → Begins (drop (length text) xs) more
    → Begins xs (text ++ more)
begins_append xs text more h k = rw (length-append text more, take-add (length text) (length more) xs, h, k) refl

pub begins_split : (xs text : List ℕ) → Begins xs text → xs ≡ text ++ drop (length text) xs
begins_split xs text h = sym (rw h at (take-append-drop (length text) xs))

module _ (digit : ℕ → Bool) where
  pub grouped_starts : (xs rest : List ℕ) → grouped digit false xs ≡ true → starts_with digit (xs ++ rest) ≡ true
  unfolding grouped starts_with
  grouped_starts [] rest g = absurd (false≢true g)
  grouped_starts (b ∷ xs) rest g = either (digit b) (λ d. d) (λ d. absurd (false≢true (rw d at g)))

  -- with a digit in front, the same in front and after a digit
  grouped_front : (xs : List ℕ) → starts_with digit xs ≡ true → grouped digit true xs ≡ grouped digit false xs
  unfolding grouped starts_with
  grouped_front [] s = absurd (false≢true s)
  grouped_front (b ∷ xs) s = rw s refl

  grouped_more : (xs : List ℕ) → grouped digit false xs ≡ true → grouped digit true xs ≡ true
  grouped_more xs g = grouped_front xs (rw append-nil at (grouped_starts xs [] g)) ∙ g

  leading_more_starts : (xs : List ℕ) → starts_with digit xs ≡ true → starts_with digit (leading_more digit xs) ≡ true
  unfolding starts_with leading_more
  leading_more_starts [] s = s
  leading_more_starts (b ∷ xs) s = rw (s, s) refl

  pub leading_more_grouped : (xs : List ℕ) → grouped digit true (leading_more digit xs) ≡ true
  unfolding grouped leading_more
  leading_more_grouped [] = refl
  leading_more_grouped (b ∷ xs) =
      either (digit b) (λ d. rw (d, d) (leading_more_grouped xs))
      (λ d. either (b is "_" && starts_with digit xs)
      (λ u.
      let starts = leading_more_starts xs (&&-right (b is "_") (starts_with digit xs) u) in
      let more = sym (grouped_front (leading_more digit xs) starts) ∙ leading_more_grouped xs in
      rw (d, u, d, &&-left (b is "_") (starts_with digit xs) u) more)
      (λ u. rw (d, u) refl))

  pub leading_lnum : (xs : List ℕ) → starts_with digit xs ≡ true → grouped digit false (leading digit xs) ≡ true
  unfolding leading
  leading_lnum xs s =
      rw s (sym (grouped_front (leading_more digit xs) (leading_more_starts xs s)) ∙ leading_more_grouped xs)

  pub leading_more_begins : (xs : List ℕ) → Begins xs (leading_more digit xs)
  unfolding leading_more
  leading_more_begins [] = refl
  leading_more_begins (b ∷ xs) =
      choice (λ (text : List ℕ). Begins (b ∷ xs) text) (digit b || (b is "_" && starts_with digit xs)) _ _
      (λ _. ap (λ (text : List ℕ). b ∷ text) (leading_more_begins xs)) (λ _. refl)

  pub leading_begins : (xs : List ℕ) → Begins xs (leading digit xs)
  unfolding leading
  leading_begins xs = choice (Begins xs) (starts_with digit xs) _ _ (λ _. leading_more_begins xs) (λ _. refl)

  -- digits that are there, and whatever follows
  pub leading_more_run : (xs rest : List ℕ) → grouped digit true xs ≡ true
      → leading_more digit (xs ++ rest) ≡ xs ++ leading_more digit rest
  unfolding grouped leading_more
  leading_more_run [] rest g = refl
  leading_more_run (b ∷ xs) rest g =
      either (digit b) (λ d. rw d (ap (λ (text : List ℕ). b ∷ text) (leading_more_run xs rest (rw d at g))))
      (λ d.
      let pair : (b is "_" && grouped digit false xs) ≡ true = rw d at g in
      let front : grouped digit false xs ≡ true = &&-right (b is "_") _ pair in
      rw (d, &&-left (b is "_") _ pair, grouped_starts xs rest front)
      (ap (λ (text : List ℕ). b ∷ text) (leading_more_run xs rest (grouped_more xs front))))

  pub leading_run : (xs rest : List ℕ) → grouped digit false xs ≡ true
      → leading digit (xs ++ rest) ≡ xs ++ leading_more digit rest
  unfolding leading
  leading_run xs rest g = rw (grouped_starts xs rest g) (leading_more_run xs rest (grouped_more xs g))

  pub leading_none : (xs : List ℕ) → starts_with digit xs ≡ false → (leading digit xs ≡ []) × (following digit xs ≡ xs)
  unfolding leading following
  leading_none xs s = (rw s refl, rw s refl)

  -- nothing carries digits on here
  leading_stops : (xs : List ℕ) → leading_more digit xs ≡ [] → leading digit xs ≡ []
  unfolding leading
  leading_stops xs e = choice (λ (text : List ℕ). text ≡ []) (starts_with digit xs) _ _ (λ _. e) (λ _. refl)

-- digits or none, where nothing carries them on
pub leading_whole : (xs rest : List ℕ) → maybe_lnum xs ≡ true → leading_more is_digit rest ≡ []
    → (leading is_digit (xs ++ rest) ≡ xs) × (following is_digit (xs ++ rest) ≡ rest)
unfolding maybe_lnum is_lnum following
leading_whole [] rest g e = let none = leading_stops is_digit rest e in (none, rw none refl)
leading_whole (b ∷ xs) rest g e =
    let all : leading is_digit ((b ∷ xs) ++ rest) ≡ b ∷ xs =
    leading_run is_digit (b ∷ xs) rest g ∙ rw e (append-nil (b ∷ xs)) in
    (all, rw all (drop-append_seam (b ∷ xs) rest))

-- digits or none, and whatever follows
pub leading_covers : (xs rest : List ℕ) → maybe_lnum xs ≡ true → length xs ≤ length (leading is_digit (xs ++ rest))
unfolding maybe_lnum is_lnum
leading_covers [] rest g = omega arith
leading_covers (b ∷ xs) rest g = rw (leading_run is_digit (b ∷ xs) rest g, length-append) (omega arith)

pub leading_maybe : (xs : List ℕ) → maybe_lnum (leading is_digit xs) ≡ true
unfolding maybe_lnum is_lnum
leading_maybe xs =
    either (starts_with is_digit xs) (λ s. go (leading is_digit xs) (leading_lnum is_digit xs s))
    (λ s. rw (leading_none is_digit xs s).0 refl)
  where
    go : (ys : List ℕ) → grouped is_digit false ys ≡ true → maybe_lnum ys ≡ true
    go [] g = refl
    go (b ∷ ys) g = g

module _ (base : Base) where
  digits_more_place : (n : ℕ) (xs : List ℕ)
      → place_of (digits_more base true n xs) ≡ Some (n + length (leading_more (is_one base) xs))
  unfolding digits_more last place_of leading_more starts_with
  digits_more_place n [] = ap Some (omega arith)
  digits_more_place n (b ∷ []) =
      either (is_one base b)
      (λ d. rw (d, place_of_before) (ap Some (omega arith)))
      (λ d. either (b is "_") (λ u. rw (d, u) (ap Some (omega arith)))
      (λ u. rw (d, u) (ap Some (omega arith))))
  digits_more_place n (b ∷ c ∷ xs) =
      either (is_one base b)
      (λ d. rw (d, place_of_before) (digits_more_place (suc n) (c ∷ xs) ∙ ap Some (omega arith)))
      (λ d. either (b is "_" && is_one base c)
      (λ u.
      rw (d, u, place_of_before, &&-right (b is "_") (is_one base c) u)
      (digits_more_place (suc (suc n)) xs ∙ ap Some (omega arith)))
      (λ u. rw (d, u) (ap Some (omega arith))))

  pub digits_place : (n : ℕ) (xs : List ℕ)
      → place_of (digits base true n xs) ≡ Some (n + length (leading (is_one base) xs))
  unfolding digits last place_of leading leading_more starts_with
  digits_place n [] = ap Some (omega arith)
  digits_place n (b ∷ xs) =
      either (is_one base b)
      (λ d. rw (d, place_of_before) (digits_more_place (suc n) xs ∙ ap Some (omega arith)))
      (λ d. rw d (ap Some (omega arith)))
