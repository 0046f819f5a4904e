-- What is told before anything else: refusal 11, then 12, or neither. (Document 01, "Order".)
--   gate_refusal   of a source and a session, where no tables are lent: skip, push, pop
--   gate_over      the same of a source, a place in it and so many frames, each told by its place
--   lent_refusal   of a source, a session, a list of so many numbers and a pool of so many bytes: step and the readings
use Rattle.std.specs.Prelude.{ℕ, Result, Ok, Err, ◌/◌, Bool, ◌&&◌, List, leb, length, if◌then◌else◌}
use Rattle.source.specs.declared.Span.{Span}
use Rattle.state.specs.declared.Frame.{Frame}
use Rattle.state.specs.declared.Session.{Session}
use Rattle.byte.specs.declared.Refusal.{Refusal}
use Rattle.byte.specs.Refusals.{too_large, bad_session}
use Rattle.state.specs.Bounds.{are_within, are_frames, is_good, fits_tables}

abbrev pub checked : Bool → Bool → Result (Unit {0}) Refusal
checked fits good = if fits then (if good then Ok tt else Err bad_session) else Err too_large

unfoldable pub source_fits : List ℕ → Bool
source_fits src = leb (length src) 65536

unfoldable pub tables_fit : ℕ → ℕ → Bool
tables_fit list pool = leb pool 65536 && leb (list / 8) 65537

unfoldable pub gate_refusal : List ℕ → Session → Result (Unit {0}) Refusal
gate_refusal src s = checked (source_fits src) (is_good src s)

unfoldable pub gate_over : List ℕ → Span → ℕ → (ℕ → Frame) → Result (Unit {0}) Refusal
gate_over src place depth frame = checked (source_fits src) (are_within (length src) place depth && are_frames src depth frame)

unfoldable pub lent_refusal : List ℕ → ℕ → ℕ → Session → Result (Unit {0}) Refusal
lent_refusal src list pool s = checked (tables_fit list pool && source_fits src) (is_good src s && fits_tables list pool s)
