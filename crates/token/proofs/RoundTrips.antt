-- The record file and the list: reading what was written gives the list again, and writing what was read gives the file again.
--   list_file_list, file_list_file     the two round trips, of the definitions
--   to_file_to_list, to_list_to_file   the same, of two accepted calls
-- A list holds numbers of 32 bits, a file bytes, as every lent list and file does. Assumes nothing.
use Prim.Native.Nat.{ℕ, zero, suc, ◌+◌, ◌*◌, ◌/◌, ◌%◌, ◌<◌}
use mathlib.Core.Path.{◌≡◌, refl, sym, ap, ◌∙◌}
use mathlib.Core.Bool.{Bool, true}
use mathlib.Core.List.{List, [], ◌∷◌}
use native.Mathlib.Omega.{arith}
use native.Mathlib.Nat.{div-div-eq-div-mul}
use lib.Dec.{ltb}
use lib.ListN.{length, take}
use borrow.Author.Tests.{ltb-true}
use Rattle.byte.specs.Words.{every}
use Rattle.byte.specs.Laid.{laid}
use Rattle.byte.specs.Demand.{is_byte}
use Rattle.byte.proofs.Tests.{&&-left, &&-right}
use Rattle.byte.proofs.Laid.{take_laid}
use Rattle.state.specs.declared.Answer.{Answer}
use Rattle.token.specs.Files.{little_endian, file_of, number_at, list_of, ToFile, ToList}
use Rattle.token.proofs.Files.{length_file_of, length_list_of, file_answer_done, written_values, to_list_whole}

abbrev pub is_number : ℕ → Bool
is_number n = ltb n 4294967296

-- the third and the fourth byte of a number, one division after another
third : (n : ℕ) → n / 65536 ≡ n / 256 / 256
third n = sym (div-div-eq-div-mul n 256 256)

fourth : (n : ℕ) → n / 16777216 ≡ n / 256 / 256 / 256
fourth n = sym (ap (λ (q : ℕ). q / 256) (div-div-eq-div-mul n 256 256) ∙ div-div-eq-div-mul n 65536 256)

joined : (n : ℕ) → n < 4294967296 → n % 256 + n / 256 % 256 * 256 + n / 65536 % 256 * 65536 + n / 16777216 % 256 * 16777216 ≡ n
joined n h = rw (third n, fourth n) (omega arith)

module _ (a b c d : ℕ) (ha : a < 256) (hb : b < 256) (hc : c < 256) (hd : d < 256) where
  parted : little_endian (a + b * 256 + c * 65536 + d * 16777216) ≡ a ∷ b ∷ c ∷ d ∷ []
  unfolding little_endian
  parted =
      let n = a + b * 256 + c * 65536 + d * 16777216 in
      let e0 : n % 256 ≡ a = omega arith in
      let q1 : n / 256 ≡ b + c * 256 + d * 65536 = omega arith in
      let q2 : (b + c * 256 + d * 65536) / 256 ≡ c + d * 256 = omega arith in
      let q3 : (c + d * 256) / 256 ≡ d = omega arith in
      let e1 : (b + c * 256 + d * 65536) % 256 ≡ b = omega arith in
      let e2 : (c + d * 256) % 256 ≡ c = omega arith in
      let e3 : d % 256 ≡ d = omega arith in
      rw (e0, third n, fourth n, q1, q2, q3, e1, e2, e3)

pub list_file_list : (list : List ℕ) → every is_number list ≡ true → list_of (length list) (file_of list) ≡ list
unfolding every list_of file_of little_endian number_at
list_file_list [] e = refl
list_file_list (n ∷ rest) e =
    let small = ltb-true n 4294967296 (&&-left (is_number n) (every is_number rest) e) in
    rw (joined n small, list_file_list rest (&&-right (is_number n) (every is_number rest) e))

-- the first byte, and the others
byte : (b : ℕ) (rest : List ℕ) → every is_byte (b ∷ rest) ≡ true → b < 256
unfolding every
byte b rest e = ltb-true b 256 (&&-left (is_byte b) (every is_byte rest) e)

others : (b : ℕ) (rest : List ℕ) → every is_byte (b ∷ rest) ≡ true → every is_byte rest ≡ true
unfolding every
others b rest e = &&-right (is_byte b) (every is_byte rest) e

pub file_list_file : (count : ℕ) (file : List ℕ) → length file ≡ count * 4 → every is_byte file ≡ true → file_of (list_of count file) ≡ file
unfolding list_of file_of number_at
file_list_file zero [] n e = refl
file_list_file zero (a ∷ rest) n e = absurd (omega arith)
file_list_file (suc count) [] n e = absurd (omega arith)
file_list_file (suc count) (a ∷ []) n e = absurd (omega arith)
file_list_file (suc count) (a ∷ b ∷ []) n e = absurd (omega arith)
file_list_file (suc count) (a ∷ b ∷ c ∷ []) n e = absurd (omega arith)
file_list_file (suc count) (a ∷ b ∷ c ∷ d ∷ rest) n e =
    let eb = others a (b ∷ c ∷ d ∷ rest) e in
    let ec = others b (c ∷ d ∷ rest) eb in
    let ed = others c (d ∷ rest) ec in
    rw (parted a b c d (byte a _ e) (byte b _ eb) (byte c _ ec) (byte d _ ed), file_list_file count rest (omega arith) (others d rest ed))

-- a list that was written and read again stands in the new list
pub to_file_to_list : (list file after old new : List ℕ) → every is_number list ≡ true → ToFile list file Answer.Done after → ToList (take (length list * 4) after) old Answer.Done new → new ≡ laid old 0 list
to_file_to_list list file after old new small f l =
    let part : take (length list * 4) after ≡ file_of list = rw (written_values _ _ _ _ f) (take_laid file (file_of list) (length list * 4) (sym (length_file_of list))) in
    let n : length (file_of list) / 4 ≡ length list = rw (length_file_of list) (omega arith) in
    written_values _ _ _ _ l ∙ rw (part, n, list_file_list list small)

-- a file that was read and written again stands in the new file
pub to_list_to_file : (file list after old new : List ℕ) → every is_byte file ≡ true → ToList file list Answer.Done after → ToFile (take (length file / 4) after) old Answer.Done new → new ≡ laid old 0 file
to_list_to_file file list after old new small l f =
    let part : take (length file / 4) after ≡ list_of (length file / 4) file = rw (written_values _ _ _ _ l) (take_laid list (list_of (length file / 4) file) (length file / 4) (sym (length_list_of (length file / 4) file))) in
    let whole = to_list_whole (length file) (length list) _ refl (file_answer_done _ l.answer) in
    written_values _ _ _ _ f ∙ rw (part, file_list_file (length file / 4) file (sym whole) small)
