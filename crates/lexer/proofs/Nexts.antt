-- What an outcome comes to, case by case, and that its change of frame finds its place. Assumes nothing.
--   room, written   what room there is for pieces; an answer, and what is written
--   shut_cases      what holds behind an open gate and a shut one holds of both
--   roomy_cases     what holds with room and without it holds of both
--   settled_cases   one walk over the cases of `settled`, for whatever is to be shown of it
--   limited_free    a step that refuses keeps the frame, and one that goes on has passed the limit
use Prim.Native.Nat.{ℕ}
use Rattle.byte.specs.declared.Refusal.{Refusal}
use mathlib.Core.Path.{◌≡◌, refl}
use mathlib.Core.Bool.{Bool, false}
use mathlib.Core.List.{List}
use lib.Dec.{ltb}
use borrow.Author.Tests.{lt-leb, ltb-true}
use Rattle.std.specs.Prelude.{Result, Ok, Err}
use Rattle.byte.specs.Refusals.{wait}
use Rattle.byte.proofs.Tests.{choice}
use Rattle.state.specs.declared.Session.{Session}
use Rattle.state.specs.Calls.{span_of}
use Rattle.outcome.specs.declared.Change.{Change}
use Rattle.outcome.specs.Outcomes.{Piece, Outcome, limited}
use Rattle.commit.specs.declared.Mark.{Mark}
use Rattle.commit.specs.Records.{span_at, Tables, put, room_for, Reached, advances, stays, roomy, reached}
use Rattle.commit.specs.Code.{is_full}
use Rattle.source.specs.Cursor.{origin}
use Rattle.lexer.specs.Calls.{unless_shut}
use Rattle.lexer.specs.Turns.{After, frames_after, depth_after, mark_of, refusing, reaching, settled}

-- what holds behind an open gate and a shut one holds of both
pub shut_cases : (P : After → Type 0) (told : Result (Unit {0}) Refusal) (s : Session) (l q : List ℕ) (a : After)
    → (told ≡ Ok tt → P a) → ((refusal : Refusal) → told ≡ Err refusal → P (refusing refusal origin s l q))
    → P (unless_shut told s l q a)
shut_cases P (Ok tt) s l q a f g = f refl
shut_cases P (Err refusal) s l q a f g = g refusal refl

-- and of two sessions behind one gate
pub shut_both : (P : After → After → Type 0) (told : Result (Unit {0}) Refusal) (s s' : Session) (l q : List ℕ) (a a' : After)
    → (told ≡ Ok tt → P a a')
    → ((refusal : Refusal) → told ≡ Err refusal → P (refusing refusal origin s l q) (refusing refusal origin s' l q))
    → P (unless_shut told s l q a) (unless_shut told s' l q a')
shut_both P (Ok tt) s s' l q a a' f g = f refl
shut_both P (Err refusal) s s' l q a a' f g = g refusal refl

-- what holds with room and without it holds of both
pub roomy_cases : (P : Reached → Type 0) (told : Result (Unit {0}) Refusal) (m : Mark) (t : Tables) (written : Reached)
    → (told ≡ Ok tt → P written)
    → ((refusal : Refusal) → told ≡ Err refusal → P (record { next = stays refusal m.span m; tables = t }))
    → P (roomy told m t written)
roomy_cases P (Ok tt) m t written f g = f refl
roomy_cases P (Err refusal) m t written f g = g refusal refl

module _ (src : List ℕ) (s : Session) (l q : List ℕ) where
  abbrev pub room : List Piece → Result (Unit {0}) Refusal
  room pieces = room_for (mark_of s) (record { list = l; pool = q }) pieces

  abbrev pub written : List Piece → ℕ → Change → Bool → After
  written pieces after change finished =
      reaching s
      (record {
        next = advances src (mark_of s) pieces after change finished;
        tables = put src after (mark_of s) (record { list = l; pool = q }) pieces;
      })

  -- with room, without it, refused, and to be continued
  pub settled_cases : (P : Outcome → After → Type 0)
      → ((pieces : List Piece) (after : ℕ) (change : Change) (finished : Bool) → room pieces ≡ Ok tt
      → P (Outcome.Told pieces after change finished) (written pieces after change finished))
      → ((pieces : List Piece) (after : ℕ) (change : Change) (finished : Bool) (refusal : Refusal) → room pieces ≡ Err refusal
      → P (Outcome.Told pieces after change finished) (refusing refusal (span_of s) s l q))
      → ((refusal : Refusal) (place : ℕ) → P (Outcome.Refused refusal place) (refusing refusal (span_at src (span_of s) place) s l q))
      → P Outcome.Wait (refusing wait (span_of s) s l q)
      → (o : Outcome) → P o (settled src s l q o)
  unfolding reached frames_after depth_after
  settled_cases P told full refused waits (Outcome.Told pieces after change finished) =
      roomy_cases (λ (r : Reached). P (Outcome.Told pieces after change finished) (reaching s r)) (room pieces) _ _ _
      (λ e. told pieces after change finished e) (λ refusal e. full pieces after change finished refusal e)
  settled_cases P told full refused waits (Outcome.Refused refusal place) = refused refusal place
  settled_cases P told full refused waits Outcome.Wait = waits

module _ (src : List ℕ) (m : Mark) (t : Tables) (depth : ℕ) where
  abbrev Free : Reached → Type 0
  Free r = is_full r.next.change depth ≡ false

  told_free : (pieces : List Piece) (after : ℕ) (change : Change) (finished : Bool) → is_full change depth ≡ false
      → Free (reached src m t (Outcome.Told pieces after change finished))
  unfolding is_full reached
  told_free pieces after change finished h = roomy_cases Free (room_for m t pieces) m t _ (λ e. h) (λ refusal e. refl)

  pub limited_free : (n : ℕ) (o : Outcome) → Free (reached src m t (limited depth n o))
  unfolding is_full limited reached
  limited_free n (Outcome.Told pieces after Change.Keep finished) = told_free pieces after Change.Keep finished refl
  limited_free n (Outcome.Told pieces after (Change.Swap f) finished) = told_free pieces after (Change.Swap f) finished refl
  limited_free n (Outcome.Told pieces after (Change.Enter f) finished) =
      choice (λ (p : Outcome). Free (reached src m t p)) (ltb depth 64) _ _
      (λ e. told_free pieces after (Change.Enter f) finished (lt-leb 64 depth (ltb-true depth 64 e)))
      (λ e. refl)
  limited_free n (Outcome.Told pieces after Change.Leave finished) = told_free pieces after Change.Leave finished refl
  limited_free n (Outcome.Refused refusal place) = refl
  limited_free n Outcome.Wait = refl
