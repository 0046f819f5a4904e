-- What the walk reads and writes one by one: an answer, the place, a frame. Assumes nothing.
use Prim.Native.Nat.{ℕ, ◌<◌}
use mathlib.Core.Path.{◌≡◌}
use mathlib.Core.List.{List}
use borrow.Author.Tests.{leb-false}
use Rattle.state.specs.declared.Frame.{Frame}
use Rattle.outcome.specs.declared.Change.{Change}
use Rattle.commit.specs.Code.{is_full}
use Rattle.walk.specs.Code.{Changes}

pub changed_place : (numbers : List ℕ) (depth : ℕ) (change : Change) (f : Frame) → Changes numbers depth change
    → change ≡ Change.Enter f
    → depth < 64
unfolding is_full
changed_place numbers depth change f w e = leb-false 64 depth (rw e at w.free)
