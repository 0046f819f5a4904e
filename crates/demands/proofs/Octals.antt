-- Octal escapes by the session's choice (document 02, P5). Assumes nothing.
--   octal_refused, walk_octal_refused, called_on_octal_refused   3 is answered under the Rust's choice alone
--   call_chosen                                                  where the Rust's choice does not answer 3, the
--                                                                manual's gives the same
--   walk_chosen                                                  so does a walk; calledOn-chosen: a call and the steps
--                                                                after it
--   fed_choices, fed_chosen   a script in parts keeps the choices, and gives the
--                             same
--   calls_done_chosen         as many calls are done
use Rattle.std.specs.Prelude.{if◌then◌else◌}
use Prim.Native.Nat.{ℕ, zero, suc}
use Rattle.byte.specs.declared.Refusal.{Refusal}
use mathlib.Core.Path.{◌≡◌, refl, sym, ap, ◌∙◌}
use mathlib.Core.Bool.{Bool, true, false, ◌||◌, false≢true}
use mathlib.Core.List.{List, [], ◌∷◌, ◌++◌}
use lib.Dec.{eqb}
use lib.ListN.{length}
use Rattle.lexer.proofs.Nexts.{shut_both}
use Rattle.byte.specs.Refusals.{is_same}
use Rattle.byte.specs.declared.Octal.{Octal}
use Rattle.byte.specs.Refusals.{invalid_octal_escape, octal_refusals, is_among}
use Rattle.byte.proofs.Tests.{choice, if_both}
use Rattle.source.specs.declared.Span.{Span}
use Rattle.state.specs.declared.Answer.{Answer}
use Rattle.state.specs.declared.Choices.{Choices}
use Rattle.state.specs.declared.Session.{Session}
use Rattle.state.specs.Bounds.{is_within, is_stack, is_good, fits_tables}
use Rattle.state.specs.Calls.{span_of}
use Rattle.state.specs.Gates.{lent_refusal}
use Rattle.outcome.specs.declared.Call.{Call}
use Rattle.outcome.specs.Outcomes.{Outcome}
use Rattle.outcome.specs.Steps.{call_outcome}
use Rattle.outcome.specs.Octals.{chosen}
use Rattle.outcome.proofs.Octals.{outcome_chosen}
use Rattle.commit.specs.Records.{span_at, reached}
use Rattle.lexer.specs.Turns.{After, settled}
use Rattle.lexer.specs.Calls.{called, stepped}
use Rattle.demands.specs.Refusals.{refusals}
use Rattle.demands.specs.Walks.{gone_on, walked, called_on, counted, steps_done, calls_done, is_wait, fed}
use Rattle.demands.specs.Octals.{chosen_after}
use Rattle.demands.proofs.Kept.{done_told}
use Rattle.demands.proofs.Choices.{call_choices, walk_choices}
use Rattle.demands.proofs.Refusals.{call_refusals, walk_refusals, called_on_refusals}

-- ---- 3 under the Rust's choice alone

among_append : (refusal : Refusal) (refused others : List Refusal) → is_among refusal refused ≡ true
    → is_among refusal (refused ++ others) ≡ true
unfolding is_among
among_append refusal [] others e = absurd (false≢true e)
among_append refusal (n ∷ refused) others e = go (is_same refusal n) e (among_append refusal refused others)
  where
    go : (t : Bool) → (t || is_among refusal refused) ≡ true
        → (is_among refusal refused ≡ true → is_among refusal (refused ++ others) ≡ true)
        → (t || is_among refusal (refused ++ others)) ≡ true
    go true f later = refl
    go false f later = later f

-- under the manual's choice 3 is neither in the call's list nor in the step's
rust_alone : (octals : Octal) (call : Call)
    → is_among invalid_octal_escape (refusals octals call ++ refusals octals Call.Step) ≡ true
    → octals ≡ Octal.Rust
unfolding refusals octal_refusals is_among
rust_alone Octal.Rust call e = refl
rust_alone Octal.Manual Call.Step e = absurd (false≢true e)
rust_alone Octal.Manual Call.Number e = absurd (false≢true e)
rust_alone Octal.Manual Call.Single e = absurd (false≢true e)
rust_alone Octal.Manual Call.Double e = absurd (false≢true e)

module _ (src : List ℕ) (end : Bool) (s : Session) (l q : List ℕ) (span : Span) where
  pub called_on_octal_refused : (call : Call) (n : ℕ)
      → (called_on call n src end s l q).turn.answer ≡ Answer.Refused invalid_octal_escape span
      → s.choices.octals ≡ Octal.Rust
  called_on_octal_refused call n e =
      rust_alone s.choices.octals call ((called_on_refusals call n src end s l q).among invalid_octal_escape span e)

  pub octal_refused : (call : Call)
      → (called call src end s l q).turn.answer ≡ Answer.Refused invalid_octal_escape span
      → s.choices.octals ≡ Octal.Rust
  octal_refused call e =
      rust_alone s.choices.octals call
      (among_append invalid_octal_escape (refusals s.choices.octals call) _
      ((call_refusals call src end s l q).among invalid_octal_escape span e))

  pub walk_octal_refused : (n : ℕ)
      → (walked n src end s l q).turn.answer ≡ Answer.Refused invalid_octal_escape span → s.choices.octals ≡ Octal.Rust
  walk_octal_refused n e =
      rust_alone s.choices.octals Call.Step
      (among_append invalid_octal_escape (refusals s.choices.octals Call.Step) _
      ((walk_refusals n src end s l q).among invalid_octal_escape span e))

-- ---- both choices beside each other

abbrev NotThree : After → Type 0
NotThree a = (span : Span) → a.turn.answer ≡ Answer.Refused invalid_octal_escape span → ⊥

-- b, under the manual's choice, is a, under the Rust's, unless that is refused with 3
abbrev Chosen : After → After → Type 0
Chosen a b = NotThree a → b ≡ chosen_after Octal.Manual a

rust_session : (s : Session) → s.choices.octals ≡ Octal.Rust → chosen Octal.Rust s ≡ s
rust_session s e = ap (λ (o : Octal). chosen o s) (sym e)

module _ (call : Call) (src : List ℕ) (end : Bool) (s : Session) (rust : s.choices.octals ≡ Octal.Rust)
    (l q : List ℕ) where
  -- what an outcome comes to does not hang on the choice
  settled_chosen : (o : Outcome)
      → settled src (chosen Octal.Manual s) l q o ≡ chosen_after Octal.Manual (settled src s l q o)
  settled_chosen o = refl

  outcome_same : NotThree (settled src s l q (call_outcome call src end s))
      → call_outcome call src end (chosen Octal.Manual s) ≡ call_outcome call src end s
  unfolding reached
  outcome_same h =
      let same = rust_session s rust in
      outcome_chosen call src end s
      (λ place e.
      h (span_at src (span_of s) place)
      (ap (λ (o : Outcome). (settled src s l q o).turn.answer)
      (ap (λ (t : Session). call_outcome call src end t) (sym same) ∙ e)))
      ∙ ap (λ (t : Session). call_outcome call src end t) same

  pub call_chosen : NotThree (called call src end s l q)
      → called call src end (chosen Octal.Manual s) l q ≡ chosen_after Octal.Manual (called call src end s l q)
  unfolding called lent_refusal is_good is_within is_stack fits_tables
  call_chosen =
      shut_both Chosen (lent_refusal src (length l) (length q) s) s (chosen Octal.Manual s) l q _ _
      (λ e h.
      ap (settled src (chosen Octal.Manual s) l q) (outcome_same h) ∙ settled_chosen (call_outcome call src end s))
      (λ refusal e h. refl)

-- ---- many steps

abbrev Later : Answer Refusal → After → After → After → Type 0
Later a now later later' =
    NotThree (gone_on a now later)
    → gone_on a (chosen_after Octal.Manual now) later' ≡ chosen_after Octal.Manual (gone_on a now later)

go_on_three : (a : Answer Refusal) (now later : After) → now.turn.answer ≡ a → NotThree (gone_on a now later) → NotThree now
unfolding gone_on
go_on_three Answer.Done now later x h = λ span e. done_told (sym x ∙ e)
go_on_three Answer.Finished now later x h = h
go_on_three (Answer.Refused refusal place) now later x h = h

go_on_chosen : (a : Answer Refusal) (now later later' : After) → Chosen later later' → Later a now later later'
unfolding gone_on
go_on_chosen Answer.Done now later later' x h = x h
go_on_chosen Answer.Finished now later later' x h = refl
go_on_chosen (Answer.Refused refusal span) now later later' x h = refl

-- a call, and what is known of the steps after it
on_chosen : (call : Call) (n : ℕ) (src : List ℕ) (end : Bool) (s : Session) → s.choices.octals ≡ Octal.Rust
    → (l q : List ℕ)
    → (let now = called call src end s l q in
    Chosen (walked n src end now.turn.session now.list now.pool)
    (walked n src end (chosen Octal.Manual now.turn.session) now.list now.pool))
    → Chosen (called_on call (suc n) src end s l q) (called_on call (suc n) src end (chosen Octal.Manual s) l q)
unfolding called_on
on_chosen call n src end s rust l q later h =
    let now = called call src end s l q in
    let after = walked n src end now.turn.session now.list now.pool in
    let first = call_chosen call src end s rust l q (go_on_three now.turn.answer now after refl h) in
    rw first
    (go_on_chosen now.turn.answer now after
    (walked n src end (chosen Octal.Manual now.turn.session) now.list now.pool) later h)

-- after a call under the Rust's choice it is the Rust's
call_rust : (call : Call) (src : List ℕ) (end : Bool) (s : Session) → s.choices.octals ≡ Octal.Rust
    → (l q : List ℕ)
    → (called call src end s l q).turn.session.choices.octals ≡ Octal.Rust
call_rust call src end s rust l q = ap (λ (c : Choices). c.octals) (call_choices call src end s l q) ∙ rust

pub walk_chosen : (n : ℕ) (src : List ℕ) (end : Bool) (s : Session) → s.choices.octals ≡ Octal.Rust → (l q : List ℕ)
    → ((span : Span) → (walked n src end s l q).turn.answer ≡ Answer.Refused invalid_octal_escape span → ⊥)
    → walked n src end (chosen Octal.Manual s) l q ≡ chosen_after Octal.Manual (walked n src end s l q)
unfolding walked called_on
walk_chosen zero src end s rust l q h = refl
walk_chosen (suc n) src end s rust l q h =
    let now = stepped src end s l q in
    on_chosen Call.Step n src end s rust l q
    (walk_chosen n src end now.turn.session (call_rust Call.Step src end s rust l q) now.list now.pool) h

pub called_on_chosen : (call : Call) (n : ℕ) (src : List ℕ) (end : Bool) (s : Session) → s.choices.octals ≡ Octal.Rust
    → (l q : List ℕ)
    → ((span : Span) → (called_on call n src end s l q).turn.answer ≡ Answer.Refused invalid_octal_escape span → ⊥)
    → called_on call n src end (chosen Octal.Manual s) l q ≡ chosen_after Octal.Manual (called_on call n src end s l q)
unfolding called_on lent_refusal is_good is_within is_stack fits_tables
called_on_chosen call zero src end s rust l q =
    shut_both Chosen (lent_refusal src (length l) (length q) s) s (chosen Octal.Manual s) l q _ _ (λ e h. refl) (λ refusal e h. refl)
called_on_chosen call (suc n) src end s rust l q =
    let now = called call src end s l q in
    on_chosen call n src end s rust l q
    (walk_chosen n src end now.turn.session (call_rust call src end s rust l q) now.list now.pool)

-- ---- a script in parts

pub fed_choices : (n : ℕ) (src : List ℕ) (parts : List (List ℕ)) (s : Session) (l q : List ℕ)
    → (fed n src parts s l q).turn.session.choices ≡ s.choices
unfolding fed
fed_choices n src [] s l q = walk_choices n src true s l q
fed_choices n src (part ∷ more) s l q =
    let now = walked n src false s l q in
    let first = walk_choices n src false s l q in
    choice (λ (a : After). a.turn.session.choices ≡ s.choices) (is_wait now.turn.answer)
    (fed n (src ++ part) more now.turn.session now.list now.pool) now
    (λ e. fed_choices n (src ++ part) more now.turn.session now.list now.pool ∙ first) (λ e. first)

-- a wait is no 3
wait_three : (a : Answer Refusal) → is_wait a ≡ true → (span : Span) → a ≡ Answer.Refused invalid_octal_escape span → ⊥
unfolding is_wait
wait_three a w span e = false≢true (sym (ap is_wait e) ∙ w)

pub fed_chosen : (n : ℕ) (src : List ℕ) (parts : List (List ℕ)) (s : Session) → s.choices.octals ≡ Octal.Rust
    → (l q : List ℕ)
    → ((span : Span) → (fed n src parts s l q).turn.answer ≡ Answer.Refused invalid_octal_escape span → ⊥)
    → fed n src parts (chosen Octal.Manual s) l q ≡ chosen_after Octal.Manual (fed n src parts s l q)
unfolding fed
fed_chosen n src [] s rust l q h = walk_chosen n src true s rust l q h
fed_chosen n src (part ∷ more) s rust l q h =
    let now = walked n src false s l q in
    let kept = ap (λ (c : Choices). c.octals) (walk_choices n src false s l q) ∙ rust in
    go now refl (fed_chosen n (src ++ part) more now.turn.session kept now.list now.pool)
    (is_wait now.turn.answer) refl h
  where
    rest : After → After
    rest now = fed n (src ++ part) more now.turn.session now.list now.pool

    rest' : After → After
    rest' now = fed n (src ++ part) more (chosen Octal.Manual now.turn.session) now.list now.pool

    go : (now : After) → walked n src false s l q ≡ now → Chosen (rest now) (rest' now)
        → (t : Bool) → is_wait now.turn.answer ≡ t → NotThree (if t then rest now else now)
        → fed n src (part ∷ more) (chosen Octal.Manual s) l q ≡ chosen_after Octal.Manual (if t then rest now else now)
    go now x later true e k =
        let first = walk_chosen n src false s rust l q (rw x (wait_three now.turn.answer e)) in
        rw (first, x, e) (later k)
    go now x later false e k =
        let first = walk_chosen n src false s rust l q (rw x k) in
        rw (first, x, e)

-- ---- how many are done

counted_chosen : (a : Answer Refusal) (k k' : ℕ) → (a ≡ Answer.Done → k' ≡ k) → counted a k' ≡ counted a k
unfolding counted
counted_chosen Answer.Done k k' x = ap suc (x refl)
counted_chosen Answer.Finished k k' x = refl
counted_chosen (Answer.Refused refusal span) k k' x = refl

-- after a call that is done the walk is no 3 either
go_on_done : (a : Answer Refusal) (now later : After) → a ≡ Answer.Done → NotThree (gone_on a now later) → NotThree later
unfolding gone_on
go_on_done a now later e h = rw e at h

steps_done_chosen : (n : ℕ) (src : List ℕ) (end : Bool) (s : Session) → s.choices.octals ≡ Octal.Rust → (l q : List ℕ)
    → NotThree (walked n src end s l q) → steps_done n src end (chosen Octal.Manual s) l q ≡ steps_done n src end s l q
unfolding walked steps_done
steps_done_chosen zero src end s rust l q h = refl
steps_done_chosen (suc n) src end s rust l q h =
    let now = stepped src end s l q in
    let after = walked n src end now.turn.session now.list now.pool in
    let first = call_chosen Call.Step src end s rust l q (go_on_three now.turn.answer now after refl h) in
    rw first
    (counted_chosen now.turn.answer (steps_done n src end now.turn.session now.list now.pool)
    (steps_done n src end (chosen Octal.Manual now.turn.session) now.list now.pool)
    (λ e.
    steps_done_chosen n src end now.turn.session (call_rust Call.Step src end s rust l q) now.list now.pool
    (go_on_done now.turn.answer now after e h)))

pub calls_done_chosen : (call : Call) (n : ℕ) (src : List ℕ) (end : Bool) (s : Session) → s.choices.octals ≡ Octal.Rust
    → (l q : List ℕ)
    → ((span : Span) → (called_on call n src end s l q).turn.answer ≡ Answer.Refused invalid_octal_escape span → ⊥)
    → calls_done call n src end (chosen Octal.Manual s) l q ≡ calls_done call n src end s l q
unfolding called_on calls_done
calls_done_chosen call zero src end s rust l q h = refl
calls_done_chosen call (suc n) src end s rust l q h =
    let now = called call src end s l q in
    let after = walked n src end now.turn.session now.list now.pool in
    let first = call_chosen call src end s rust l q (go_on_three now.turn.answer now after refl h) in
    rw first
    (counted_chosen now.turn.answer (steps_done n src end now.turn.session now.list now.pool)
    (steps_done n src end (chosen Octal.Manual now.turn.session) now.list now.pool)
    (λ e.
    steps_done_chosen n src end now.turn.session (call_rust call src end s rust l q) now.list now.pool
    (go_on_done now.turn.answer now after e h)))
