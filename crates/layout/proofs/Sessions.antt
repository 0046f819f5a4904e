-- A session's numbers on each way through the functions that read and write them. Assumes nothing.
use Prim.Native.Nat.{ℕ, zero, suc, ◌+◌, ◌*◌, ◌-◌, ◌≤◌, ◌<◌}
use mathlib.Core.Path.{◌≡◌, refl, sym, ap, ◌∙◌}
use mathlib.Core.List.{List, [], ◌∷◌, ◌++◌}
use native.Mathlib.Omega.{arith}
use native.Mathlib.Numerals.{add-one}
use native.Mathlib.Nat.{add-zero, add_comm}
use lib.ListN.{length, get_or, take, drop, set, length-set}
use lib.Seq.{get_or-drop, drop-drop, take_all, take-suc-set}
use Rattle.byte.specs.declared.Octal.{Octal}
use Rattle.byte.specs.Laid.{laid}
use Rattle.byte.proofs.Laid.{set_laid, laid_append, laid_rest, length_laid, Writing, writing_first, writing_on, writing_end}
use Rattle.state.specs.declared.Frame.{Frame}
use Rattle.state.specs.declared.Slot.{Slot}
use Rattle.state.specs.declared.Reading.{Reading}
use Rattle.state.specs.declared.Choices.{Choices}
use Rattle.state.specs.declared.Session.{Session}
use Rattle.state.specs.Bounds.{no_slot}
use Rattle.state.specs.Calls.{span_of}
use Rattle.layout.specs.Lent.{place_numbers}
use Rattle.layout.specs.Sessions.{slot_numbers, frames_numbers, reading_flag, octal_flag, choices_number, head_numbers, numbers_of, frame_in, slot_in, frames_in, choices_in, depth_in, session_in}

pub slot_in_at : (numbers : List ℕ) (at : ℕ) (f : Frame) → f ≡ frame_in (get_or numbers at 0) (get_or numbers (at + 1) 0) (get_or numbers (at + 2) 0)
    → record { frame = f } ≡ slot_in (drop at numbers)
slot_in_at numbers at f e =
    let first : get_or (drop at numbers) 0 0 ≡ get_or numbers at 0 = get_or-drop at numbers 0 0 ∙ rw (add-zero at) in
    rw (e, first, get_or-drop at numbers 1 0, get_or-drop at numbers 2 0)

-- one slot more
frames_in_suc : (count : ℕ) (numbers : List ℕ) → frames_in (suc count) numbers ≡ frames_in count numbers ++ (slot_in (drop (count * 3) numbers) ∷ [])
unfolding frames_in
frames_in_suc zero numbers = refl
frames_in_suc (suc count) numbers =
    let e : 3 + count * 3 ≡ suc count * 3 = omega arith in
    rw (frames_in_suc count (drop 3 numbers), drop-drop (count * 3) 3 numbers, e)

pub length_frames_in : (count : ℕ) (numbers : List ℕ) → length (frames_in count numbers) ≡ count
unfolding frames_in
length_frames_in zero numbers = refl
length_frames_in (suc count) numbers = ap suc (length_frames_in count (drop 3 numbers))

-- the loop of `session_in`: i slots are read
pub record Reads (numbers : List ℕ) (slots : List Slot) (i : ℕ) : Type 0 where
  pub inside : i ≤ 64
  pub size : length slots ≡ 64
  pub read : take i slots ≡ frames_in i (drop 7 numbers)

module _ (numbers : List ℕ) where
  pub reads_first : (slots : List Slot) → length slots ≡ 64 → Reads numbers slots 0
  unfolding frames_in
  reads_first slots n = record { inside = omega arith; size = n; read = refl }

  module _ (slots : List Slot) (i : ℕ) (w : Reads numbers slots i) where
    pub reads_inside : i < 64 → 199 ≤ length numbers → 7 + i * 3 + 3 ≤ length numbers
    reads_inside h n = omega arith

    pub reads_on : (slot : Slot) → i < 64 → slot ≡ slot_in (drop (7 + i * 3) numbers) → Reads numbers (set slots i slot) (i + 1)
    reads_on slot h e =
        let m : i < length slots = omega (arith, w.size) in
        let more : take (i + 1) (set slots i slot) ≡ frames_in (i + 1) (drop 7 numbers) =
        rw (add-one i, take-suc-set slots i slot m, w.read, e, frames_in_suc i (drop 7 numbers), drop-drop (i * 3) 7 numbers) in
        record { inside = omega arith; size = length-set slots i slot ∙ w.size; read = more }

    pub reads_end : 64 ≤ i → slots ≡ frames_in 64 (drop 7 numbers)
    reads_end h =
        let all : i ≡ 64 = omega (arith, w.inside) in
        sym (take_all i slots (omega (arith, w.size))) ∙ rw (w.read, all)

    pub reads_session : (depth : ℕ) (choices : Choices) → 64 ≤ i → depth ≡ depth_in (get_or numbers 3 0) (get_or numbers 6 0)
        → choices ≡ choices_in (get_or numbers 6 0)
        → record { position = get_or numbers 0 0; line = get_or numbers 1 0; column = get_or numbers 2 0; depth = depth; tokens = get_or numbers 4 0; bytes = get_or numbers 5 0; frames = slots; choices = choices } ≡ session_in numbers
    reads_session depth choices h d r = rw (reads_end h, d, r)

pub ruleset reads = (reads_first, reads_inside, reads_on, reads_session)

frames_numbers_suc : (count : ℕ) (slots : List Slot)
    → frames_numbers (suc count) slots ≡ frames_numbers count slots ++ slot_numbers (get_or slots count no_slot)
unfolding frames_numbers
frames_numbers_suc zero slots = refl
frames_numbers_suc (suc count) slots =
    rw (frames_numbers_suc count (drop 1 slots), get_or-drop 1 slots count no_slot, add_comm 1 count) (rw (add-one count))

pub length_frames_numbers : (count : ℕ) (slots : List Slot) → length (frames_numbers count slots) ≡ count * 3
unfolding frames_numbers
length_frames_numbers zero slots = refl
length_frames_numbers (suc count) slots = rw (length_frames_numbers count (drop 1 slots)) (omega arith)

-- the loop of `put_frames`: i slots are written
abbrev pub Puts : List Slot → List ℕ → List ℕ → ℕ → Type 0
Puts slots old numbers i = Writing (λ (k : ℕ). frames_numbers k slots) 64 old numbers i

module _ (slots : List Slot) (old : List ℕ) (fits : 192 ≤ length old) where
  pub puts_first : Puts slots old old 0
  unfolding frames_numbers
  puts_first = writing_first (λ (k : ℕ). frames_numbers k slots) 64 old refl

  module _ (numbers : List ℕ) (i : ℕ) (w : Puts slots old numbers i) where
    pub puts_room : i < 64 → i * 3 + 3 ≤ length numbers
    puts_room h = omega (arith, w.size)

    pub puts_on : (after : List ℕ) → i < 64 → after ≡ laid numbers (i * 3) (slot_numbers (get_or slots i no_slot)) → Puts slots old after (i + 1)
    puts_on after h e =
        let n : i * 3 ≡ length (frames_numbers i slots) = sym (length_frames_numbers i slots) in
        writing_on (λ (k : ℕ). frames_numbers k slots) 64 old numbers i w after (i * 3) (slot_numbers (get_or slots i no_slot)) h n (omega arith) (rw (add-one i) (frames_numbers_suc i slots)) e

    pub puts_end : 64 ≤ i → numbers ≡ laid old 0 (frames_numbers 64 slots)
    puts_end h = writing_end (λ (k : ℕ). frames_numbers k slots) 64 old numbers i w h

pub ruleset puts = (puts_first, puts_room, puts_on, puts_end)

-- a flag is 0 or 1
pub reading_flag_small : (reading : Reading) → reading_flag reading < 2
unfolding reading_flag
reading_flag_small Reading.Ported = omega arith
reading_flag_small Reading.Sheet = omega arith

pub octal_flag_small : (octals : Octal) → octal_flag octals < 2
unfolding octal_flag
octal_flag_small Octal.Rust = omega arith
octal_flag_small Octal.Manual = omega arith

-- the choices behind the place
pub head_laid : (l m : List ℕ) (s : Session) (choices : ℕ) → 199 ≤ length l → m ≡ laid l 0 (place_numbers (span_of s) s.depth s.tokens s.bytes)
    → choices ≡ choices_number s.choices → set m 6 choices ≡ laid l 0 (head_numbers s)
head_laid l m s choices h e f =
    let place = place_numbers (span_of s) s.depth s.tokens s.bytes in
    let k : length m ≡ length l = ap length e ∙ length_laid l 0 place (omega arith) in
    set_laid m 6 choices (omega arith) ∙ rw (e, f) (laid_append l 0 6 place (choices_number s.choices ∷ []) refl (omega arith))

-- the head, and the slots in the rest after it
pub session_laid : (l m rest : List ℕ) (s : Session) → 199 ≤ length l → m ≡ laid l 0 (head_numbers s)
    → rest ≡ laid (take (length m - 7) (drop 7 m)) 0 (frames_numbers 64 s.frames)
    → take 7 m ++ (rest ++ drop (length m - 7) (drop 7 m)) ≡ laid l 0 (numbers_of s)
session_laid l m rest s h e f =
    let n : length (frames_numbers 64 s.frames) ≡ 192 = length_frames_numbers 64 s.frames in
    let k : length m ≡ length l = ap length e ∙ length_laid l 0 (head_numbers s) (omega arith) in
    laid_rest m rest 7 (frames_numbers 64 s.frames) (omega arith) f ∙ rw e (laid_append l 0 7 (head_numbers s) (frames_numbers 64 s.frames) refl (omega arith))
