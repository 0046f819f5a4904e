-- Lent numbers that a walk writes to: what they stand for after each write. Assumes nothing.
--   drop_laid, part_laid, ..   what a write leaves of a list before and after it
--   frames_in_laid             a frame written to a slot is the slot's frame
--   Slotted                    slots were written, the head and what is after the slots were not
--   rewritten                  with the place written over it, the numbers stand for the session
use Prim.Native.Nat.{ℕ, zero, suc, ◌+◌, ◌*◌, ◌-◌, ◌≤◌, ◌<◌}
use mathlib.Core.Path.{◌≡◌, refl, sym, ap, subst, ◌∙◌}
use mathlib.Core.Bool.{Bool, true, false, ◌&&◌}
use mathlib.Core.Logic.{◌⊎◌, inl, inr}
use mathlib.Core.List.{List, [], ◌∷◌, ◌++◌, append_assoc}
use native.Mathlib.Omega.{arith}
use native.Mathlib.Nat.{zero-add}
use lib.Dec.{eqb, leb, ltb}
use lib.ListN.{length, get_or, take, drop, set, length-drop, take-append-drop}
use lib.Seq.{length-take-le, drop_at, drop-append-le, drop-append-add, take-append-le, drop-drop, drop-cons, get_or-take}
use lib.Seq.{get_or-set_same, get_or-set_other}
use borrow.Author.Tests.{le-leb, leb-true, eqb-true, eqb-false, ltb-true, ltb-false}
use Rattle.byte.specs.Words.{every}
use Rattle.byte.specs.Bytes.{is_identifier}
use Rattle.byte.specs.Laid.{laid}
use Rattle.byte.proofs.Laid.{length_laid}
use Rattle.byte.proofs.Tests.{&&-left, &&-right, &&-both}
use Rattle.source.specs.declared.Span.{Span}
use Rattle.state.specs.declared.Label.{Label}
use Rattle.state.specs.declared.Frame.{Frame}
use Rattle.state.specs.declared.Slot.{Slot}
use Rattle.state.specs.declared.Session.{Session}
use Rattle.state.specs.Bounds.{label_bytes, is_label, is_frame, no_slot}
use Rattle.layout.specs.Sessions.{label_of, slot_numbers, slot_in, frames_in, is_label_numbers, are_choices, choices_in}
use Rattle.layout.specs.Sessions.{depth_in, session_in}
use Rattle.layout.specs.Lent.{place_numbers, slot_at, Rewritten}
use Rattle.layout.proofs.Sessions.{length_frames_in}
use Rattle.layout.proofs.Again.{is_held, frame_again, number_again}

-- ---- a write, seen from before it and from after it

module _ (l : List ℕ) (at : ℕ) (vs : List ℕ) (h : at ≤ length l) where
  first : length (take at l) ≡ at
  first = length-take-le at l h

  pub drop_laid : drop at (laid l at vs) ≡ vs ++ drop (at + length vs) l
  unfolding laid
  drop_laid = rw (append_assoc (take at l) vs (drop (at + length vs) l)) (drop_at (take at l) (vs ++ drop (at + length vs) l) at first)

  pub past_laid : (m : ℕ) → at + length vs ≤ m → drop m (laid l at vs) ≡ drop m l
  past_laid m k =
      let a : at + (m - at) ≡ m = omega (arith, k) in
      let b : length vs + (m - at - length vs) ≡ m - at = omega (arith, k) in
      let c : at + length vs + (m - at - length vs) ≡ m = omega (arith, k) in
      ap (λ (n : ℕ). drop n (laid l at vs)) (sym a)
      ∙ sym (drop-drop (m - at) at (laid l at vs))
      ∙ ap (drop (m - at)) drop_laid
      ∙ ap (λ (n : ℕ). drop n (vs ++ drop (at + length vs) l)) (sym b)
      ∙ drop-append-add vs (drop (at + length vs) l) (m - at - length vs)
      ∙ drop-drop (m - at - length vs) (at + length vs) l
      ∙ ap (λ (n : ℕ). drop n l) c

-- a part of the first of two lists
part-append : (xs ys : List ℕ) (m n : ℕ) → m + n ≤ length xs → take n (drop m (xs ++ ys)) ≡ take n (drop m xs)
part-append xs ys m n h =
    let k : n ≤ length (drop m xs) = rw (length-drop m xs) (omega (arith, h)) in
    ap (take n) (drop-append-le m xs ys (omega (arith, h))) ∙ take-append-le n (drop m xs) ys k

pub part_laid : (l : List ℕ) (at : ℕ) (vs : List ℕ) → at ≤ length l → (m n : ℕ) → m + n ≤ at
    → take n (drop m (laid l at vs)) ≡ take n (drop m l)
unfolding laid
part_laid l at vs h m n k =
    let first : length (take at l) ≡ at = length-take-le at l h in
    let fits : m + n ≤ length (take at l) = rw first k in
    ap (λ (x : List ℕ). take n (drop m x)) (append_assoc (take at l) vs (drop (at + length vs) l))
    ∙ part-append (take at l) (vs ++ drop (at + length vs) l) m n fits
    ∙ sym (part-append (take at l) (drop at l) m n fits)
    ∙ ap (λ (x : List ℕ). take n (drop m x)) (take-append-drop at l)

-- ---- a frame in its slot

laid_front : (numbers vs : List ℕ) → laid numbers 0 vs ≡ vs ++ drop (length vs) numbers
unfolding laid
laid_front numbers vs = rw (zero-add (length vs))

-- a write past the first number, and past so many
laid_cons : (a : ℕ) (numbers : List ℕ) (j : ℕ) (vs : List ℕ) → laid (a ∷ numbers) (suc j) vs ≡ a ∷ laid numbers j vs
unfolding laid
laid_cons a numbers j vs =
    let e : suc j + length vs ≡ suc (j + length vs) = omega arith in
    rw e

drop_laid_on : (n : ℕ) (l : List ℕ) (j : ℕ) (vs : List ℕ) → n ≤ length l
    → drop n (laid l (n + j) vs) ≡ laid (drop n l) j vs
drop_laid_on zero l j vs h = rw (zero-add j)
drop_laid_on (suc n) [] j vs h = absurd (omega (arith, h))
drop_laid_on (suc n) (a ∷ l) j vs h =
    let e : suc n + j ≡ suc (n + j) = omega arith in
    ap (λ (k : ℕ). drop (suc n) (laid (a ∷ l) k vs)) e
    ∙ ap (drop (suc n)) (laid_cons a l (n + j) vs)
    ∙ drop_laid_on n l j vs (omega (arith, h))

frames_in_set : (count i : ℕ) (numbers : List ℕ) (slot : Slot) → i < count → count * 3 ≤ length numbers
    → is_held slot ≡ true
    → frames_in count (laid numbers (i * 3) (slot_numbers slot)) ≡ set (frames_in count numbers) i slot
unfolding frames_in is_held
frames_in_set zero i numbers slot h k g = absurd (omega (arith, h))
frames_in_set (suc count) zero numbers slot h k g =
    ap (frames_in (suc count)) (laid_front numbers (slot_numbers slot)) ∙ rw (frame_again slot.frame g)
frames_in_set (suc count) (suc i) [] slot h k g = absurd (omega (arith, k))
frames_in_set (suc count) (suc i) (a ∷ []) slot h k g = absurd (omega (arith, k))
frames_in_set (suc count) (suc i) (a ∷ b ∷ []) slot h k g = absurd (omega (arith, k))
frames_in_set (suc count) (suc i) (a ∷ b ∷ c ∷ numbers) slot h k g =
    let e : suc i * 3 ≡ suc (suc (suc (i * 3))) = omega arith in
    ap (λ (j : ℕ). frames_in (suc count) (laid (a ∷ b ∷ c ∷ numbers) j (slot_numbers slot))) e
    ∙ ap (frames_in (suc count))
    (laid_cons a (b ∷ c ∷ numbers) (suc (suc (i * 3))) (slot_numbers slot)
    ∙ ap (◌∷◌ a)
    (laid_cons b (c ∷ numbers) (suc (i * 3)) (slot_numbers slot)
    ∙ ap (◌∷◌ b) (laid_cons c numbers (i * 3) (slot_numbers slot))))
    ∙ ap (λ (x : List Slot). slot_in (a ∷ b ∷ c ∷ numbers) ∷ x) (frames_in_set count i numbers slot (omega (arith, h)) (omega (arith, k)) g)

-- a frame written to its slot is the slot's frame
pub frames_in_laid : (numbers : List ℕ) (i : ℕ) (slot : Slot) → 199 ≤ length numbers → i < 64 → is_held slot ≡ true
    → frames_in 64 (drop 7 (laid numbers (7 + i * 3) (slot_numbers slot))) ≡ set (frames_in 64 (drop 7 numbers)) i slot
frames_in_laid numbers i slot n h g =
    let k : 64 * 3 ≤ length (drop 7 numbers) = rw (length-drop 7 numbers) (omega (arith, n)) in
    ap (frames_in 64) (drop_laid_on 7 numbers (i * 3) (slot_numbers slot) (omega (arith, n)))
    ∙ frames_in_set 64 i (drop 7 numbers) slot h k g

is_label_held : (src : List ℕ) (l : Label) → length src ≤ 65536 → is_label src l ≡ true
    → is_label_numbers l.start l.len ≡ true
unfolding is_label
is_label_held src l n e =
    let a = leb 1 l.len in
    let b = leb l.len 64 in
    let c = leb (l.start + l.len) (length src) in
    let ec = &&-left (a && b && c) (every is_identifier (label_bytes src l)) e in
    let eb = &&-left (a && b) c ec in
    let some = leb-true 1 l.len (&&-left a b eb) in
    let short = leb-true l.len 64 (&&-right a b eb) in
    let inside = leb-true (l.start + l.len) (length src) (&&-right (a && b) c ec) in
    &&-both _ _ (le-leb l.start 65535 (omega (arith, some, inside, n))) (le-leb l.len 65535 (omega (arith, short)))

-- a frame that the gate lets in has a label's numbers
pub is_frame_held : (src : List ℕ) (f : Frame) → length src ≤ 65536 → is_frame src f ≡ true
    → is_held (record { frame = f }) ≡ true
unfolding is_frame is_held label_of
is_frame_held src (Frame.Heredoc l) n e = is_label_held src l n e
is_frame_held src (Frame.Nowdoc l) n e = is_label_held src l n e
is_frame_held src Frame.Initial n e = refl
is_frame_held src Frame.Scripting n e = refl
is_frame_held src Frame.DoubleQuote n e = refl
is_frame_held src Frame.ShellExec n e = refl
is_frame_held src Frame.LookingForVarname n e = refl
is_frame_held src Frame.LookingForProperty n e = refl
is_frame_held src Frame.VarOffset n e = refl

-- ---- slots written one after the other

pub record Slotted (before numbers : List ℕ) : Type 0 where
  pub size : length numbers ≡ length before
  pub head : take 7 numbers ≡ take 7 before
  pub slots : (i : ℕ) → i < 64
      → (slot_at i numbers ≡ slot_at i before) ⊎ (slot_at i numbers ≡ slot_numbers (get_or (frames_in 64 (drop 7 numbers)) i no_slot))
  pub rest : drop 199 numbers ≡ drop 199 before

pub slotted_first : (numbers : List ℕ) → Slotted numbers numbers
slotted_first numbers = record { size = refl; head = refl; slots = λ i h. inl refl; rest = refl }

module _ (before numbers : List ℕ) (w : Slotted before numbers) (n : 199 ≤ length before) (i : ℕ) (h : i < 64)
    (slot : Slot)
    (g : is_held slot ≡ true) where
  abbrev at : ℕ
  at = 7 + i * 3

  abbrev after : List ℕ
  after = laid numbers at (slot_numbers slot)

  long : 199 ≤ length numbers
  long = rw w.size n

  inside : at ≤ length numbers
  inside = omega (arith, long, h)

  frames : frames_in 64 (drop 7 after) ≡ set (frames_in 64 (drop 7 numbers)) i slot
  frames = frames_in_laid numbers i slot long h g

  abbrev Held : ℕ → Type 0
  Held j = (slot_at j after ≡ slot_at j before) ⊎ (slot_at j after ≡ slot_numbers (get_or (frames_in 64 (drop 7 after)) j no_slot))

  -- the slot that is written, and any other
  slot_same : slot_at i after ≡ slot_numbers (get_or (frames_in 64 (drop 7 after)) i no_slot)
  slot_same =
      let k : i < length (frames_in 64 (drop 7 numbers)) = rw (length_frames_in 64 (drop 7 numbers)) h in
      ap (take 3) (drop_laid numbers at (slot_numbers slot) inside)
      ∙ ap slot_numbers (sym (ap (λ (x : List Slot). get_or x i no_slot) frames ∙ get_or-set_same (frames_in 64 (drop 7 numbers)) i slot no_slot k))

  slot_stays : (j : ℕ) → (j ≡ i → ⊥) → slot_at j after ≡ slot_at j numbers
  slot_stays j e = go (ltb j i) refl
    where
      go : (t : Bool) → ltb j i ≡ t → slot_at j after ≡ slot_at j numbers
      go true t = part_laid numbers at (slot_numbers slot) inside (7 + j * 3) 3 (omega (arith, ltb-true j i t))
      go false t =
          let k : i < j = omega (arith, ltb-false j i t, e) in
          ap (take 3) (past_laid numbers at (slot_numbers slot) inside (7 + j * 3) (omega (arith, k)))

  slot_other : (j : ℕ) → j < 64 → (j ≡ i → ⊥) → Held j
  slot_other j k e = go (w.slots j k)
    where
      read : get_or (frames_in 64 (drop 7 after)) j no_slot ≡ get_or (frames_in 64 (drop 7 numbers)) j no_slot
      read =
          ap (λ (x : List Slot). get_or x j no_slot) frames
          ∙ get_or-set_other (frames_in 64 (drop 7 numbers)) i j slot no_slot e

      go : (slot_at j numbers ≡ slot_at j before) ⊎ (slot_at j numbers ≡ slot_numbers (get_or (frames_in 64 (drop 7 numbers)) j no_slot)) → Held j
      go (inl a) = inl (slot_stays j e ∙ a)
      go (inr a) = inr (slot_stays j e ∙ a ∙ ap slot_numbers (sym read))

  each : (j : ℕ) → j < 64 → Held j
  each j k = go (eqb j i) refl
    where
      go : (t : Bool) → eqb j i ≡ t → Held j
      go true t =
          inr (subst (λ (m : ℕ). slot_at m after ≡ slot_numbers (get_or (frames_in 64 (drop 7 after)) m no_slot))
          (sym (eqb-true j i t)) slot_same)
      go false t = slot_other j k (eqb-false j i t)

  pub slotted_on : Slotted before after
  slotted_on = record {
    size = length_laid numbers at (slot_numbers slot) (omega (arith, long, h)) ∙ w.size;
    head = part_laid numbers at (slot_numbers slot) inside 0 7 (omega arith) ∙ w.head;
    slots = each;
    rest = past_laid numbers at (slot_numbers slot) inside 199 (omega (arith, h)) ∙ w.rest;
  }

-- ---- the place written over it

-- six numbers written, and the choices after them
placed : (numbers : List ℕ) (p : Span) (depth tokens bytes : ℕ) → 199 ≤ length numbers
    → laid numbers 0 (place_numbers p depth tokens bytes) ≡ place_numbers p depth tokens bytes ++ get_or numbers 6 0 ∷ drop 7 numbers
placed numbers p depth tokens bytes h =
    laid_front numbers (place_numbers p depth tokens bytes)
    ∙ ap (◌++◌ (place_numbers p depth tokens bytes)) (drop-cons numbers 6 0 (omega (arith, h)))

module _ (before numbers : List ℕ) (w : Slotted before numbers) (n : 199 ≤ length before) (c : are_choices
    (get_or before 6 0) ≡ true)
    (p : Span) (depth tokens bytes : ℕ) where
  abbrev written : List ℕ
  written = place_numbers p depth tokens bytes ++ get_or before 6 0 ∷ drop 7 numbers

  -- the session that they stand for
  abbrev standing : Session
  standing = record {
    position = p.position;
    line = p.line;
    column = p.column;
    depth = depth;
    tokens = tokens;
    bytes = bytes;
    frames = frames_in 64 (drop 7 numbers);
    choices = choices_in (get_or before 6 0);
  }

  choices_kept : get_or numbers 6 0 ≡ get_or before 6 0
  choices_kept =
      sym (get_or-take 7 numbers 6 0 (omega arith)) ∙ ap (λ (x : List ℕ). get_or x 6 0) w.head
      ∙ get_or-take 7 before 6 0 (omega arith)

  -- what stands after the head
  past : (m : ℕ) → drop (7 + m) written ≡ drop (7 + m) numbers
  past m = sym (drop-drop m 7 written) ∙ drop-drop m 7 numbers

  stands : session_in written ≡ standing
  unfolding depth_in
  stands = rw c

  laid_whole : laid numbers 0 (place_numbers p depth tokens bytes) ≡ written
  laid_whole = placed numbers p depth tokens bytes (rw w.size n) ∙ rw choices_kept

  whole : Rewritten before standing written
  whole = record {
    size =
        sym (ap length laid_whole) ∙ length_laid numbers 0 (place_numbers p depth tokens bytes) (omega (arith, n, w.size)) ∙ w.size;
    reads = stands;
    head = ap (λ (x : ℕ). p.position ∷ p.line ∷ p.column ∷ depth ∷ tokens ∷ bytes ∷ x ∷ []) (sym (number_again (get_or before 6 0) c));
    slots = λ i h. go i (w.slots i h);
    rest = past 192 ∙ w.rest;
  }
    where
      go : (i : ℕ)
          → (slot_at i numbers ≡ slot_at i before) ⊎ (slot_at i numbers ≡ slot_numbers (get_or (frames_in 64 (drop 7 numbers)) i no_slot))
          → (slot_at i written ≡ slot_at i before) ⊎ (slot_at i written ≡ slot_numbers (get_or (frames_in 64 (drop 7 numbers)) i no_slot))
      go i (inl a) = inl (ap (take 3) (past (i * 3)) ∙ a)
      go i (inr a) = inr (ap (take 3) (past (i * 3)) ∙ a)

  pub rewritten : (after : List ℕ) → after ≡ laid numbers 0 (place_numbers p depth tokens bytes)
      → Rewritten before standing after
  rewritten after e = subst (Rewritten before standing) (sym (e ∙ laid_whole)) whole
