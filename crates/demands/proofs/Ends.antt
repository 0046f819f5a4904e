-- Stepping ends: each step that is done leaves less to do, so a walk of twice as many steps as bytes are left, and two more, comes to its
-- end. Assumes nothing.
--   remaining    what is left to do: twice the bytes left, and one where LookingForVarname is on top
--   step_falls   a step that is done leaves less
--   walk_ends    enough steps end, from every sound session
--   cuts_whole   a script in parts gives what the uncut one gives, with enough steps and from a fresh session
--   cuts_same    so two ways to cut a script give the same: a host may leave out a look, and have it at a later part
use Prim.Native.Nat.{ℕ, zero, suc, ◌+◌, ◌-◌, ◌*◌, ◌≤◌, ◌<◌}
use Rattle.byte.specs.declared.Refusal.{Refusal}
use mathlib.Core.Path.{sym, ◌≡◌, refl, ◌∙◌}
use mathlib.Core.Bool.{Bool, true, false}
use mathlib.Core.List.{List, [], ◌∷◌}
use native.Mathlib.Omega.{arith}
use lib.Dec.{eqb}
use lib.ListN.{length, get_or, set}
use Rattle.lexer.proofs.Nexts.{shut_cases}
use Rattle.byte.specs.Words.{every}
use Rattle.byte.specs.Demand.{is_byte}
use Rattle.byte.specs.Refusals.{wait}
use Rattle.source.specs.Cursor.{origin}
use Rattle.source.specs.declared.Span.{Span}
use Rattle.byte.proofs.Tests.{choice}
use Rattle.state.specs.declared.Answer.{Answer}
use Rattle.state.specs.declared.Frame.{Frame}
use Rattle.state.specs.declared.Choices.{Choices}
use Rattle.state.specs.declared.Session.{Session}
use Rattle.state.specs.declared.Slot.{Slot}
use Rattle.state.specs.Bounds.{no_slot}
use Rattle.state.specs.Calls.{span_of, fresh_session}
use Rattle.state.specs.Gates.{lent_refusal, tables_fit}
use Rattle.state.proofs.Kept.{fresh_good}
use Rattle.outcome.specs.declared.Call.{Call}
use Rattle.outcome.specs.declared.Change.{Change}
use Rattle.outcome.specs.Outcomes.{Piece, Outcome, values}
use Rattle.outcome.specs.Insides.{Inside}
use Rattle.outcome.specs.Steps.{top_frame, step_outcome}
use Rattle.outcome.proofs.Ways.{Onward, moves, looks, Progress}
use Rattle.outcome.proofs.StepWays.{call_ways}
use Rattle.commit.specs.Records.{span_at}
use Rattle.lexer.specs.Turns.{After, frames_after, depth_after, changed, refusing, settled}
use Rattle.lexer.specs.Calls.{called, stepped}
use Rattle.lexer.proofs.Nexts.{written, settled_cases}
use Rattle.demands.specs.Walks.{gone_on, walked, joined, fed}
use Rattle.demands.proofs.Kept.{done_told}
use Rattle.demands.proofs.Good.{Sound, call_sound, position_inside, top_sound}
use Rattle.demands.proofs.Rising.{span_place}
use Rattle.demands.proofs.Cuts.{Ended, cuts_fresh}

-- ---- what is left to do

-- LookingForVarname may take a step in which the cursor stays
unfoldable pub owed : Frame → ℕ
owed Frame.LookingForVarname = 1
owed Frame.Initial = 0
owed Frame.Scripting = 0
owed Frame.DoubleQuote = 0
owed Frame.ShellExec = 0
owed (Frame.Heredoc label) = 0
owed (Frame.Nowdoc label) = 0
owed Frame.LookingForProperty = 0
owed Frame.VarOffset = 0

owed_most : (f : Frame) → owed f ≤ 1
unfolding owed
owed_most Frame.LookingForVarname = omega arith
owed_most Frame.Initial = omega arith
owed_most Frame.Scripting = omega arith
owed_most Frame.DoubleQuote = omega arith
owed_most Frame.ShellExec = omega arith
owed_most (Frame.Heredoc label) = omega arith
owed_most (Frame.Nowdoc label) = omega arith
owed_most Frame.LookingForProperty = omega arith
owed_most Frame.VarOffset = omega arith

abbrev pub remaining : List ℕ → Session → ℕ
remaining src s = 2 * (length src - s.position) + owed (top_frame s)

-- Scripting, put in any place of the stack, owes nothing there
scripting_owes : (frames : List Slot) (i : ℕ) → owed (get_or (set frames i (record { frame = Frame.Scripting })) i no_slot).frame ≡ 0
unfolding owed
scripting_owes [] i = refl
scripting_owes (slot ∷ frames) zero = refl
scripting_owes (slot ∷ frames) (suc i) = scripting_owes frames i

-- ---- a step

done_finished : ◌≡◌ {A = Answer Refusal} Answer.Finished Answer.Done → ⊥
done_finished e = let y : ◌≡◌ {A = ℕ} 0 1 = cc in omega arith

module _ (src : List ℕ) (s : Session) (l q : List ℕ) where
  abbrev pub Falls : After → Type 0
  Falls a = a.turn.answer ≡ Answer.Done → remaining src a.turn.session < remaining src s

  refusing_falls : (refusal : Refusal) (span : Span) → Falls (refusing refusal span s l q)
  refusing_falls refusal span e = absurd (done_told (sym e))

  module _ (h : Sound src (length l) (length q) s) where
    swapped_falls : (after tokens bytes : ℕ) → s.position ≤ after → after ≤ length src → top_frame s ≡ Frame.LookingForVarname
        → remaining src (changed s (span_at src (span_of s) after) tokens bytes (Change.Swap Frame.Scripting)) < remaining src s
    unfolding owed frames_after depth_after
    swapped_falls after tokens bytes low high x =
        let there = span_place src (span_of s) after low high in
        let one : owed (top_frame s) ≡ 1 = rw x in
        omega (arith, there, one, scripting_owes s.frames (s.depth - 1))

    -- the session after a step that is done
    changed_falls : (after tokens bytes : ℕ) (change : Change) → s.position ≤ after → after ≤ length src
        → Onward (top_frame s) s.position after change
        → remaining src (changed s (span_at src (span_of s) after) tokens bytes change) < remaining src s
    changed_falls after tokens bytes change low high (moves x) =
        let there = span_place src (span_of s) after low high in
        let most = owed_most (top_frame (changed s (span_at src (span_of s) after) tokens bytes change)) in
        omega (arith, there, most)
    changed_falls after tokens bytes change low high (looks x y) = rw y (swapped_falls after tokens bytes low high x)

    written_falls : (pieces : List Piece) (after : ℕ) (change : Change) (finished : Bool) → s.position ≤ after
        → after ≤ length src → Progress (top_frame s) s.position (Outcome.Told pieces after change finished)
        → Falls (written src s l q pieces after change finished)
    written_falls pieces after change true low high p d = absurd (done_finished d)
    written_falls pieces after change false low high p d =
        changed_falls after (s.tokens + length pieces) (s.bytes + length (values pieces)) change low high p

    settled_falls : (o : Outcome) → Inside s.position (length src) o → Progress (top_frame s) s.position o
        → Falls (settled src s l q o)
    settled_falls =
        settled_cases src s l q (λ o a. Inside s.position (length src) o → Progress (top_frame s) s.position o → Falls a)
        (λ pieces after change finished e i p. written_falls pieces after change finished i.order i.inside p)
        (λ pieces after change finished refusal e i p. refusing_falls refusal (span_of s)) (λ refusal place i p. refusing_falls refusal _)
        (λ i p. refusing_falls wait (span_of s))

    pub step_falls : (end : Bool) → Falls (stepped src end s l q)
    unfolding called
    step_falls end =
        shut_cases Falls (lent_refusal src (length l) (length q) s) s l q _
        (λ e.
        let w = call_ways Call.Step src end s (position_inside src s l q h) in
        settled_falls (step_outcome src end s) w.lies (w.on (top_sound src s l q h)))
        (λ refusal e. refusing_falls refusal origin)

-- ---- many steps

walk_falls : (n : ℕ) (src : List ℕ) (end : Bool) (s : Session) (l q : List ℕ) → Sound src (length l) (length q) s → remaining src s < n
    → Ended (walked n src end s l q).turn.answer
unfolding walked gone_on
walk_falls zero src end s l q h less = absurd (omega arith)
walk_falls (suc n) src end s l q h less =
    let now = stepped src end s l q in
    let sound = call_sound src s l q h Call.Step end in
    go now.turn.answer now (walked n src end now.turn.session now.list now.pool) refl
    (λ d.
    walk_falls n src end now.turn.session now.list now.pool (rw (sound.list, sound.pool) sound.sound)
    (omega (arith, step_falls src s l q h end d)))
  where
    go : (a : Answer Refusal) (now later : After) → now.turn.answer ≡ a → (a ≡ Answer.Done → Ended later.turn.answer)
        → Ended (gone_on a now later).turn.answer
    go Answer.Done now later e ends = ends refl
    go Answer.Finished now later e ends = rw e tt
    go (Answer.Refused refusal span) now later e ends = rw e tt

pub walk_ends : (n : ℕ) (src : List ℕ) (end : Bool) (s : Session) (l q : List ℕ) → Sound src (length l) (length q) s
    → 2 * (length src - s.position) + 1 < n
    → Ended (walked n src end s l q).turn.answer
walk_ends n src end s l q h enough = walk_falls n src end s l q h (omega (arith, owed_most (top_frame s)))

-- ---- a script in parts

pub cuts_whole : (n : ℕ) (parts : List (List ℕ)) (choices : Choices) (l q : List ℕ) → every is_byte (joined [] parts) ≡ true
    → length (joined [] parts) ≤ 65536 → tables_fit (length l) (length q) ≡ true
    → 2 * length (joined [] parts) + 1 < n
    → fed n [] parts (fresh_session choices) l q ≡ walked n (joined [] parts) true (fresh_session choices) l q
cuts_whole n parts choices l q bytes short fit enough =
    cuts_fresh n parts choices l q bytes short fit
    (walk_ends n (joined [] parts) true (fresh_session choices) l q
    (record { good = fresh_good (joined [] parts) choices; tokens = omega arith; bytes = omega arith }) (omega arith))

pub cuts_same : (n : ℕ) (parts others : List (List ℕ)) (choices : Choices) (l q : List ℕ) → joined [] others ≡ joined [] parts
    → every is_byte (joined [] parts) ≡ true → length (joined [] parts) ≤ 65536 → tables_fit (length l) (length q) ≡ true
    → 2 * length (joined [] parts) + 1 < n
    → fed n [] others (fresh_session choices) l q ≡ fed n [] parts (fresh_session choices) l q
cuts_same n parts others choices l q e bytes short fit enough =
    cuts_whole n others choices l q (rw e bytes) (rw e short) fit (rw e enough)
    ∙ rw e (sym (cuts_whole n parts choices l q bytes short fit enough))
