-- The record file: its two loops, its refusals, and that reading and writing undo each other. Assumes nothing.
use Rattle.std.specs.Prelude.{Result, Ok, Err}
use Prim.Native.Nat.{ℕ, zero, suc, ◌+◌, ◌*◌, ◌/◌, ◌%◌, ◌≤◌, ◌<◌}
use Rattle.byte.specs.declared.Refusal.{Refusal}
use mathlib.Core.Path.{◌≡◌, refl, sym, ap, ◌∙◌}
use mathlib.Core.Bool.{◌&&◌}
use mathlib.Core.List.{List, [], ◌∷◌, ◌++◌, append_assoc, append-nil}
use native.Mathlib.Omega.{arith}
use native.Mathlib.Numerals.{add-one}
use lib.Dec.{leb, eqb}
use lib.ListN.{length, take, drop, set, get_or}
use lib.Seq.{take-length, take-suc, get_or-drop, length-take-le}
use borrow.Author.Tests.{leb-true, eqb-true}
use Rattle.byte.specs.Laid.{laid}
use Rattle.byte.proofs.Tests.{unrefused}
use Rattle.byte.proofs.Laid.{set_laid, Writing, writing_first, writing_on, writing_end}
use Rattle.state.specs.declared.Answer.{Answer}
use Rattle.token.specs.Files.{little_endian, file_of, number_at, list_of, to_list_refusal, file_answer, file_after, Written}

pub file_of_append : (xs ys : List ℕ) → file_of (xs ++ ys) ≡ file_of xs ++ file_of ys
unfolding file_of
file_of_append [] ys = refl
file_of_append (n ∷ xs) ys = rw (file_of_append xs ys, append_assoc (little_endian n) (file_of xs) (file_of ys))

pub length_file_of : (xs : List ℕ) → length (file_of xs) ≡ length xs * 4
unfolding file_of little_endian
length_file_of [] = refl
length_file_of (n ∷ xs) = rw (length_file_of xs) (omega arith)

-- one number more of a list is four bytes more of its file
pub file_of_take : (list : List ℕ) (i : ℕ) → i < length list → file_of (take (i + 1) list) ≡ file_of (take i list) ++ little_endian (get_or list i 0)
unfolding file_of
file_of_take list i h = rw (add-one i, take-suc list i 0 h, file_of_append (take i list) (get_or list i 0 ∷ []), append-nil (little_endian (get_or list i 0)))

-- the loop of `put_numbers`: i numbers of the list are written
abbrev pub Filing : List ℕ → List ℕ → List ℕ → ℕ → Type 0
Filing list old file i = Writing (λ (k : ℕ). file_of (take k list)) (length list) old file i

module _ (list old : List ℕ) (fits : length list * 4 ≤ length old) where
  pub filing_first : Filing list old old 0
  unfolding file_of
  filing_first = writing_first (λ (k : ℕ). file_of (take k list)) (length list) old refl

  module _ (file : List ℕ) (i : ℕ) (f : Filing list old file i) where
    pub filing_room : i < length list → i * 4 + 4 ≤ length file
    filing_room h = omega (arith, f.size)

    pub filing_on : (after : List ℕ) → i < length list → after ≡ laid file (i * 4) (little_endian (get_or list i 0)) → Filing list old after (i + 1)
    unfolding little_endian
    filing_on after h e =
        let n : length (file_of (take i list)) ≡ i * 4 = length_file_of (take i list) ∙ ap (λ (x : ℕ). x * 4) (length-take-le i list f.inside) in
        writing_on (λ (k : ℕ). file_of (take k list)) (length list) old file i f after (i * 4) (little_endian (get_or list i 0)) h (sym n) (omega arith) (file_of_take list i h) e

    pub filing_end : length list ≤ i → file ≡ laid old 0 (file_of list)
    filing_end h = writing_end (λ (k : ℕ). file_of (take k list)) (length list) old file i f h ∙ rw (take-length list)

number_at_drop : (file : List ℕ) (n at : ℕ) → number_at (drop n file) at ≡ number_at file (n + at)
unfolding number_at
number_at_drop file n at =
    let e1 : n + at + 1 ≡ n + (at + 1) = omega arith in
    let e2 : n + at + 2 ≡ n + (at + 2) = omega arith in
    let e3 : n + at + 3 ≡ n + (at + 3) = omega arith in
    rw (e1, e2, e3, get_or-drop n file at 0, get_or-drop n file (at + 1) 0, get_or-drop n file (at + 2) 0, get_or-drop n file (at + 3) 0)

pub length_list_of : (count : ℕ) (file : List ℕ) → length (list_of count file) ≡ count
unfolding list_of
length_list_of zero file = refl
length_list_of (suc count) file = ap suc (length_list_of count (drop 4 file))

-- one number more
list_of_suc : (count : ℕ) (file : List ℕ) → list_of (suc count) file ≡ list_of count file ++ (number_at file (count * 4) ∷ [])
unfolding list_of
list_of_suc zero file = refl
list_of_suc (suc count) file =
    let e : 4 + count * 4 ≡ suc count * 4 = omega arith in
    rw (list_of_suc count (drop 4 file), number_at_drop file 4 (count * 4), e)

-- the loop of `put_list`: i numbers of the file are written
abbrev pub Listing : List ℕ → ℕ → List ℕ → List ℕ → ℕ → Type 0
Listing file count old list i = Writing (λ (k : ℕ). list_of k file) count old list i

module _ (file : List ℕ) (count : ℕ) (old : List ℕ) where
  pub listing_first : Listing file count old old 0
  unfolding list_of
  listing_first = writing_first (λ (k : ℕ). list_of k file) count old refl

  module _ (list : List ℕ) (i : ℕ) (l : Listing file count old list i) where
    pub listing_on : (v : ℕ) → i < count → count ≤ length old → v ≡ number_at file (i * 4) → Listing file count old (set list i v) (i + 1)
    listing_on v h fits e =
        let m : i < length list = omega (arith, l.size) in
        writing_on (λ (k : ℕ). list_of k file) count old list i l _ i (v ∷ []) h (sym (length_list_of i file)) (omega arith) (rw (add-one i, e) (list_of_suc i file)) (set_laid list i v m)

    pub listing_end : count ≤ i → list ≡ laid old 0 (list_of count file)
    listing_end h = writing_end (λ (k : ℕ). list_of k file) count old list i l h

-- an answer that is no refusal
pub file_answer_done : {R : Type 0} (refusal : Result (Unit {0}) R) → Answer.Done ≡ file_answer refusal → refusal ≡ Ok tt
unfolding file_answer
file_answer_done (Ok tt) e = refl
file_answer_done (Err refusal) e = cc

-- two results that meet one statement are equal
pub written_one : {R : Type 0} (refusal : Result (Unit {0}) R) (lent values : List ℕ) (r r' : Answer R) (after after' : List ℕ)
    → Written refusal lent values r after → Written refusal lent values r' after' → (r ≡ r') × (after ≡ after')
written_one refusal lent values r r' after after' f g = (f.answer ∙ sym g.answer, f.holds ∙ sym g.holds)

-- a call that was done has written its values
pub written_values : {R : Type 0} (refusal : Result (Unit {0}) R) (lent values after : List ℕ) → Written refusal lent values Answer.Done after → after ≡ laid lent 0 values
unfolding file_after
written_values refusal lent values after f = rw (file_answer_done refusal f.answer) at f.holds

-- an accepted file is a whole number of numbers
module _ (file list : ℕ) (told : Result (Unit {0}) Refusal) (e : told ≡ to_list_refusal file list) (z : told ≡ Ok tt) where
  lengths : (file % 32 ≡ 0) × (file / 32 ≤ list / 8)
  unfolding to_list_refusal
  lengths =
      let fits = unrefused (leb (file / 32) 65537 && leb (list / 8) 65537) _ _ (sym e ∙ z) in
      let whole = unrefused (eqb (file % 32) 0) _ _ fits.1 in
      let enough = unrefused (leb (file / 32) (list / 8)) _ _ whole.1 in
      (eqb-true (file % 32) 0 whole.0, leb-true (file / 32) (list / 8) enough.0)

  pub to_list_whole : file / 4 * 4 ≡ file
  to_list_whole = omega (arith, lengths.0)
