-- What holds of a session over a part of the source holds over a longer source. Assumes nothing.
--   label_bytes_append, is_label_append, is_frame_append, good_append   more text after
--   every_part                                                          a part of a list whose members pass a test
--   top_good                                                            the top frame of a good session is a frame
use Prim.Native.Nat.{ℕ, zero, suc, ◌+◌, ◌-◌, ◌≤◌, ◌<◌}
use mathlib.Core.Path.{◌≡◌, refl}
use mathlib.Core.Bool.{Bool, true, ◌&&◌}
use mathlib.Core.List.{List, [], ◌∷◌, ◌++◌}
use native.Mathlib.Omega.{arith}
use lib.Dec.{leb}
use lib.ListN.{length, get_or, take, drop, length-drop, length-append}
use lib.Seq.{take-append-le, drop-append-le}
use borrow.Author.Tests.{leb-true, le-leb}
use Rattle.byte.specs.Words.{every}
use Rattle.byte.specs.Bytes.{is_identifier}
use Rattle.byte.proofs.Tests.{&&-left, &&-right, &&-both}
use Rattle.state.specs.declared.Label.{Label}
use Rattle.state.specs.declared.Frame.{Frame}
use Rattle.state.specs.declared.Slot.{Slot}
use Rattle.state.specs.declared.Session.{Session}
use Rattle.state.specs.Bounds.{label_bytes, is_label, is_frame, no_slot, is_slot, is_stack, is_good}
use Rattle.state.proofs.Bounds.{within_is_within}
use Rattle.state.proofs.Kept.{good_numbers, good_bottom, good_slots}

-- ---- labels and frames

-- what a label's bounds tell
pub record Labelled (src : List ℕ) (l : Label) : Type 0 where
  pub low : 1 ≤ l.len
  pub high : l.len ≤ 64
  pub inside : l.start + l.len ≤ length src
  pub identifiers : every is_identifier (label_bytes src l) ≡ true

module _ (src : List ℕ) (l : Label) where
  pub is_label_facts : is_label src l ≡ true → Labelled src l
  unfolding is_label
  is_label_facts e =
      let a = leb 1 l.len in
      let b = a && leb l.len 64 in
      let c = b && leb (l.start + l.len) (length src) in
      let ec = &&-left c (every is_identifier (label_bytes src l)) e in
      let eb = &&-left b (leb (l.start + l.len) (length src)) ec in
      record {
        low = leb-true _ _ (&&-left a (leb l.len 64) eb);
        high = leb-true _ _ (&&-right a (leb l.len 64) eb);
        inside = leb-true _ _ (&&-right b (leb (l.start + l.len) (length src)) ec);
        identifiers = &&-right c (every is_identifier (label_bytes src l)) e;
      }

  labelled_is_label : Labelled src l → is_label src l ≡ true
  unfolding is_label
  labelled_is_label f =
      rw (le-leb 1 l.len f.low, le-leb l.len 64 f.high, le-leb (l.start + l.len) (length src) f.inside, f.identifiers)

module _ (part rest : List ℕ) where
  pub label_bytes_append : (l : Label) → is_label part l ≡ true → label_bytes (part ++ rest) l ≡ label_bytes part l
  label_bytes_append l e =
      let f = is_label_facts part l e in
      let a : l.start ≤ length part = omega (arith, f.inside) in
      let b : l.len ≤ length (drop l.start part) = omega (arith, f.inside, length-drop l.start part) in
      rw (drop-append-le l.start part rest a, take-append-le l.len (drop l.start part) rest b)

  pub is_label_append : (l : Label) → is_label part l ≡ true → is_label (part ++ rest) l ≡ true
  is_label_append l e =
      let f = is_label_facts part l e in
      labelled_is_label (part ++ rest) l
      (record {
        low = f.low;
        high = f.high;
        inside = omega (arith, f.inside, length-append part rest);
        identifiers = rw (label_bytes_append l e) f.identifiers;
      })

  pub is_frame_append : (f : Frame) → is_frame part f ≡ true → is_frame (part ++ rest) f ≡ true
  unfolding is_frame
  is_frame_append (Frame.Heredoc l) e = is_label_append l e
  is_frame_append (Frame.Nowdoc l) e = is_label_append l e
  is_frame_append Frame.Initial e = refl
  is_frame_append Frame.Scripting e = refl
  is_frame_append Frame.DoubleQuote e = refl
  is_frame_append Frame.ShellExec e = refl
  is_frame_append Frame.LookingForVarname e = refl
  is_frame_append Frame.LookingForProperty e = refl
  is_frame_append Frame.VarOffset e = refl

  slots_append : (slots : List Slot) → every (is_slot part) slots ≡ true → every (is_slot (part ++ rest)) slots ≡ true
  unfolding every
  slots_append [] e = refl
  slots_append (one ∷ more) e =
      &&-both _ _ (is_frame_append one.frame (&&-left (is_slot part one) (every (is_slot part) more) e))
      (slots_append more (&&-right (is_slot part one) (every (is_slot part) more) e))

  pub good_append : (s : Session) → is_good part s ≡ true → is_good (part ++ rest) s ≡ true
  unfolding is_good is_stack
  good_append s e =
      let w = good_numbers part s e in
      &&-both _ _
      (within_is_within (length (part ++ rest)) s
      (record {
        position = omega (arith, w.position, length-append part rest);
        depth_low = w.depth_low;
        depth_high = w.depth_high;
        line_low = w.line_low;
        line_high = w.line_high;
        column_low = w.column_low;
        column_high = w.column_high;
      }))
      (&&-both _ _ (good_bottom part s e) (slots_append (take s.depth s.frames) (good_slots part s e)))

-- ---- the top frame

every_get_d : {A : Type 0} (test : A → Bool) (none : A) (xs : List A) (n i : ℕ) → test none ≡ true → i < n
    → every test (take n xs) ≡ true → test (get_or xs i none) ≡ true
unfolding every
every_get_d test none [] n i fine h e = fine
every_get_d test none (a ∷ xs) zero i fine h e = absurd (omega arith)
every_get_d test none (a ∷ xs) (suc n) zero fine h e = &&-left (test a) (every test (take n xs)) e
every_get_d test none (a ∷ xs) (suc n) (suc i) fine h e =
    every_get_d test none xs n i fine (omega arith) (&&-right (test a) (every test (take n xs)) e)

pub top_good : (src : List ℕ) (s : Session) → is_good src s ≡ true → is_frame src (get_or s.frames (s.depth - 1) no_slot).frame ≡ true
unfolding is_frame
top_good src s e =
    every_get_d (is_slot src) no_slot s.frames s.depth (s.depth - 1) refl (omega (arith, (good_numbers src s e).depth_low))
    (good_slots src s e)

-- ---- bytes

pub every_part : {A : Type 0} (test : A → Bool) (xs : List A) (m k : ℕ) → every test xs ≡ true → every test (take m (drop k xs)) ≡ true
unfolding every
every_part test [] zero zero e = refl
every_part test [] zero (suc k) e = refl
every_part test [] (suc m) zero e = refl
every_part test [] (suc m) (suc k) e = refl
every_part test (a ∷ xs) zero zero e = refl
every_part test (a ∷ xs) (suc m) zero e =
    &&-both _ _ (&&-left (test a) (every test xs) e) (every_part test xs m zero (&&-right (test a) (every test xs) e))
every_part test (a ∷ xs) m (suc k) e = every_part test xs m k (&&-right (test a) (every test xs) e)
