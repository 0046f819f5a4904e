-- Laws of a session's bounds, on each way through the functions that check them. Assumes nothing.
use Prim.Native.Nat.{ℕ, zero, suc, ◌+◌, ◌-◌, ◌≤◌, ◌<◌}
use mathlib.Core.Path.{◌≡◌, refl, sym, ap, subst, ◌∙◌}
use mathlib.Core.Bool.{Bool, true, false, ◌&&◌}
use mathlib.Core.List.{List, [], ◌∷◌}
use native.Mathlib.Omega.{arith}
use lib.Dec.{eqb, leb}
use lib.ListN.{length, get_or, take, drop, length-drop}
use lib.Seq.{length-take-le}
use Rattle.std.proofs.lemmas.List.{take_all}
use Rattle.std.proofs.lemmas.List.FromFn.{length-range_with_len, get_or-range_with_len}
use Rattle.std.proofs.lemmas.List.Folds.{list_all_more, list_all_at}
use borrow.Author.Tests.{leb-true, le-leb}
use Rattle.std.specs.List.{list_all, range_with_len}
use Rattle.byte.specs.Words.{every, run}
use Rattle.byte.specs.Bytes.{is_identifier}
use Rattle.source.specs.Code.{RunEnd}
use Rattle.byte.proofs.Tests.{&&-left, &&-right}
use Rattle.byte.proofs.Words.{every_run}
use Rattle.state.specs.declared.Label.{Label}
use Rattle.state.specs.declared.Frame.{Frame}
use Rattle.state.specs.declared.Slot.{Slot}
use Rattle.state.specs.declared.Session.{Session}
use Rattle.state.specs.Bounds.{is_label, is_frame, is_bottom, no_slot, is_slot, is_stack, are_frames, is_within}

-- what the numbers of a good session tell
pub record Within (size : ℕ) (s : Session) : Type 0 where
  pub position : s.position ≤ size
  pub depth_low : 1 ≤ s.depth
  pub depth_high : s.depth ≤ 64
  pub line_low : 1 ≤ s.line
  pub line_high : s.line ≤ s.position + 1
  pub column_low : 1 ≤ s.column
  pub column_high : s.column ≤ s.position + 1

module _ (size : ℕ) (s : Session) where
  pub is_within_facts : is_within size s ≡ true → Within size s
  unfolding is_within
  is_within_facts e =
      let a = leb s.position size in
      let b = a && leb 1 s.depth in
      let c = b && leb s.depth 64 in
      let d = c && leb 1 s.line in
      let f = d && leb s.line (s.position + 1) in
      let g = f && leb 1 s.column in
      let eg = &&-left g (leb s.column (s.position + 1)) e in
      let ef = &&-left f (leb 1 s.column) eg in
      let ed = &&-left d (leb s.line (s.position + 1)) ef in
      let ec = &&-left c (leb 1 s.line) ed in
      let eb = &&-left b (leb s.depth 64) ec in
      record {
        position = leb-true _ _ (&&-left a (leb 1 s.depth) eb);
        depth_low = leb-true _ _ (&&-right a (leb 1 s.depth) eb);
        depth_high = leb-true _ _ (&&-right b (leb s.depth 64) ec);
        line_low = leb-true _ _ (&&-right c (leb 1 s.line) ed);
        line_high = leb-true _ _ (&&-right d (leb s.line (s.position + 1)) ef);
        column_low = leb-true _ _ (&&-right f (leb 1 s.column) eg);
        column_high = leb-true _ _ (&&-right g (leb s.column (s.position + 1)) e);
      }

  pub within_is_within : Within size s → is_within size s ≡ true
  unfolding is_within
  within_is_within w =
      rw (
        le-leb s.position size w.position,
        le-leb 1 s.depth w.depth_low,
        le-leb s.depth 64 w.depth_high,
        le-leb 1 s.line w.line_low,
        le-leb s.line (s.position + 1) w.line_high,
        le-leb 1 s.column w.column_low,
        le-leb s.column (s.position + 1) w.column_high,
      )

  -- the same place at another depth
  pub within_deep : (t : Session) → Within size s → t.position ≡ s.position → t.line ≡ s.line → t.column ≡ s.column → 1 ≤ t.depth → t.depth ≤ 64 → Within size t
  within_deep t w p l c low high =
      record {
        position = rw p w.position;
        depth_low = low;
        depth_high = high;
        line_low = rw l w.line_low;
        line_high = rw (l, p) w.line_high;
        column_low = rw c w.column_low;
        column_high = rw (c, p) w.column_high;
      }

-- a label's numbers are good, and its bytes are looked at
pub is_label_bytes : (src : List ℕ) (l : Label) → 1 ≤ l.len → l.len ≤ 64 → (n e : ℕ) → l.start + l.len ≤ length src → n ≡ l.start + l.len - l.start
    → RunEnd is_identifier (take n (drop l.start src)) 0 e → eqb e l.len ≡ is_label src l
unfolding is_label
is_label_bytes src l some short n e h m r =
    let k : n ≡ l.len = omega arith in
    let z : e ≡ run is_identifier (take n (drop l.start src)) = r.place ∙ omega arith in
    let q : length (take n (drop l.start src)) ≡ l.len = length-take-le n (drop l.start src) (rw (length-drop l.start src) (omega arith)) ∙ k in
    let same : every is_identifier (take l.len (drop l.start src)) ≡ eqb e l.len =
    subst (λ (m : ℕ). every is_identifier (take m (drop l.start src)) ≡ eqb e l.len) k
    (sym (every_run is_identifier (take n (drop l.start src))) ∙ rw (z, q)) in
    rw (le-leb 1 l.len some, le-leb l.len 64 short, le-leb (l.start + l.len) (length src) h, same)

-- frames told by their places, of which the first i are frames
abbrev pub Looked : List ℕ → (ℕ → Frame) → ℕ → ℕ → Type 0
Looked src frame depth i =
    (is_bottom (frame 0) ≡ true) × (list_all (λ k. is_frame src (frame k)) (take i (range_with_len 0 depth)) ≡ true)

module _ (src : List ℕ) (frame : ℕ → Frame) (depth : ℕ) where
  pub looked_bottom : (f : Frame) (flag : Bool) → flag ≡ is_bottom f → f ≡ frame 0 → flag ≡ false → false ≡ are_frames src depth frame
  unfolding are_frames
  looked_bottom f flag e first t = rw (← first, ← e, t)

  pub looked_first : (f : Frame) (flag : Bool) → flag ≡ is_bottom f → f ≡ frame 0 → flag ≡ true → Looked src frame depth 0
  looked_first f flag e first t = (rw (← first, ← e, t), refl)

  module _ (i : ℕ) (so_far : Looked src frame depth i) where
    module _ (h : i < depth) (f : Frame) (flag : Bool) (e : flag ≡ is_frame src f) (here : f ≡ frame i) where
      at : get_or (range_with_len 0 depth) i 0 ≡ i
      at = get_or-range_with_len 0 depth i 0 h ∙ omega arith

      inside : i < length (range_with_len 0 depth)
      inside = rw (length-range_with_len 0 depth) h

      pub looked_on : flag ≡ true → Looked src frame depth (i + 1)
      looked_on t = (so_far.0, list_all_more (λ k. is_frame src (frame k)) (range_with_len 0 depth) i 0 inside ∙ rw (so_far.1, at, ← here, ← e, t))

      pub looked_stop : flag ≡ false → false ≡ are_frames src depth frame
      unfolding are_frames
      looked_stop t = rw (so_far.0, list_all_at (λ k. is_frame src (frame k)) (range_with_len 0 depth) i 0 inside (rw (at, ← here, ← e, t)))

    pub looked_end : depth ≤ i → true ≡ are_frames src depth frame
    unfolding are_frames
    looked_end h =
        let all : take i (range_with_len 0 depth) ≡ range_with_len 0 depth = take_all i (range_with_len 0 depth) (rw (length-range_with_len 0 depth) h) in
        rw (so_far.0, ← all, so_far.1)

-- a session's frames, told by their places
every_none : (test : Slot → Bool) (n : ℕ) → every test (take n []) ≡ true
unfolding every
every_none test zero = refl
every_none test (suc n) = refl

every_told : (test : Slot → Bool) → test no_slot ≡ true → (frame : ℕ → Slot) (frames : List Slot) (a n : ℕ) → ((i : ℕ) → frame (a + i) ≡ get_or frames i no_slot)
    → list_all (λ i. test (frame i)) (range_with_len a n) ≡ every test (take n frames)
unfolding every
every_told test e frame frames a zero h = refl
every_told test e frame [] a (suc n) h =
    let here : frame a ≡ no_slot = ap frame (omega arith) ∙ h 0 in
    rw (here, e, every_told test e frame [] (a + 1) n (λ i. ap frame (omega arith) ∙ h (i + 1)), every_none test n)
every_told test e frame (slot ∷ rest) a (suc n) h =
    let here : frame a ≡ slot = ap frame (omega arith) ∙ h 0 in
    rw (here, every_told test e frame rest (a + 1) n (λ i. ap frame (omega arith) ∙ h (suc i)))

pub frames_stack : (src : List ℕ) (s : Session) → are_frames src s.depth (λ i. (get_or s.frames i no_slot).frame) ≡ is_stack src s
unfolding are_frames is_stack is_frame
frames_stack src s = rw (every_told (is_slot src) refl (λ i. get_or s.frames i no_slot) s.frames 0 s.depth (λ i. ap (λ (k : ℕ). get_or s.frames k no_slot) (omega arith)))
