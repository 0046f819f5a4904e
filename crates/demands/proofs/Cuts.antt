-- A script that comes in parts gives the records, value bytes, end and answer of the uncut one: `cuts`, for the same tables, and
-- `cuts_fresh`, from a fresh session. Assumes nothing.
--   walk_longer   a walk over a part, with more announced: it is the walk over every longer script, or it waits
--                 somewhere on its way
use Rattle.std.specs.Prelude.{if◌then◌else◌}
use Prim.Native.Nat.{ℕ, zero, suc, ◌+◌, ◌≤◌}
use mathlib.Core.Path.{◌≡◌, refl, sym, ap, subst, ◌∙◌}
use mathlib.Core.Bool.{Bool, true, false, false≢true}
use mathlib.Core.List.{List, [], ◌∷◌, ◌++◌, append-nil, append_assoc}
use native.Mathlib.Omega.{arith}
use native.Mathlib.Nat.{suc-add}
use lib.ListN.{length, length-append}
use lib.Seq.{take-append_seam}
use Rattle.byte.specs.Words.{every}
use Rattle.byte.specs.Demand.{is_byte}
use Rattle.byte.specs.declared.Refusal.{Refusal}
use Rattle.state.specs.declared.Answer.{Answer}
use Rattle.state.specs.declared.Choices.{Choices}
use Rattle.state.specs.declared.Session.{Session}
use Rattle.state.specs.Calls.{fresh_session}
use Rattle.state.specs.Gates.{tables_fit}
use Rattle.state.proofs.Kept.{fresh_good}
use Rattle.state.proofs.Longer.{every_part}
use Rattle.outcome.specs.declared.Call.{Call}
use Rattle.lexer.specs.Turns.{After}
use Rattle.lexer.specs.Calls.{stepped}
use Rattle.demands.specs.Walks.{gone_on, walked, is_wait, joined, fed}
use Rattle.demands.proofs.Kept.{call_kept}
use Rattle.demands.proofs.Good.{Sound, StaysSound, call_sound}
use Rattle.demands.proofs.Longer.{sound_append}
use Rattle.demands.proofs.Waiting.{call_waits_exactly}

-- ---- walks that have ended

-- the walk has come to an end: its last step was not merely done
abbrev pub Ended : Answer Refusal → Type 0
Ended Answer.Done = ⊥
Ended Answer.Finished = Unit {0}
Ended (Answer.Refused refusal span) = Unit {0}

-- with more steps allowed it is the same
pub walk_more : (m k : ℕ) (src : List ℕ) (end : Bool) (s : Session) (l q : List ℕ)
    → Ended (walked m src end s l q).turn.answer
    → walked (m + k) src end s l q ≡ walked m src end s l q
unfolding walked gone_on
walk_more zero k src end s l q e = absurd e
walk_more (suc m) k src end s l q e =
    let now = stepped src end s l q in
    rw (suc-add m k)
    (go now.turn.answer now _ _ (λ f. walk_more m k src end now.turn.session now.list now.pool f) e)
  where
    go : (a : Answer Refusal) (now later later' : After) → (Ended later.turn.answer → later' ≡ later)
        → Ended (gone_on a now later).turn.answer
        → gone_on a now later' ≡ gone_on a now later
    go Answer.Done now later later' same f = same f
    go Answer.Finished now later later' same f = refl
    go (Answer.Refused refusal span) now later later' same f = refl

-- ---- a walk over a part

-- what a walk of n steps over the part comes to, beside the walk over a longer script: the same; or a wait, from which on m of the
-- longer script's steps are left
data Fate (n : ℕ) (part whole : List ℕ) (s : Session) (l q : List ℕ) (w : After) : Type 0 where
  same : is_wait w.turn.answer ≡ false → w ≡ walked n whole true s l q → Fate n part whole s l q w
  waits : is_wait w.turn.answer ≡ true → StaysSound part l q w → (m k : ℕ) → m + k ≡ n
      → walked n whole true s l q ≡ walked m whole true w.turn.session w.list w.pool
      → Fate n part whole s l q w

module _ (n : ℕ) (src : List ℕ) (end : Bool) (s : Session) (l q : List ℕ) where
  pub walked_on : (stepped src end s l q).turn.answer ≡ Answer.Done
      → walked (suc n) src end s l q
      ≡ walked n src end (stepped src end s l q).turn.session (stepped src end s l q).list (stepped src end s l q).pool
  unfolding walked gone_on
  walked_on e = rw e

  pub walked_last : (a : Answer Refusal) → (stepped src end s l q).turn.answer ≡ a → Ended a
      → walked (suc n) src end s l q ≡ stepped src end s l q
  unfolding walked gone_on
  walked_last Answer.Done e f = absurd f
  walked_last Answer.Finished e f = rw e
  walked_last (Answer.Refused refusal span) e f = rw e

wait_refused : (a : Answer Refusal) → is_wait a ≡ true → Ended a
unfolding is_wait
wait_refused Answer.Done e = absurd (false≢true e)
wait_refused Answer.Finished e = tt
wait_refused (Answer.Refused refusal span) e = tt

-- a refusal keeps session, list and pool, so a step more from there is the step again
wait_kept : (a : Answer Refusal) (src : List ℕ) (s : Session) (l q : List ℕ) → (stepped src false s l q).turn.answer ≡ a → is_wait a ≡ true
    → ((stepped src false s l q).turn.session ≡ s) × ((stepped src false s l q).list ≡ l) × ((stepped src false s l q).pool ≡ q)
unfolding is_wait
wait_kept Answer.Done src s l q e f = absurd (false≢true f)
wait_kept Answer.Finished src s l q e f = absurd (false≢true f)
wait_kept (Answer.Refused refusal span) src s l q e f = (call_kept src s l q Call.Step false).back refusal span e

module _ (part rest : List ℕ) (bytes : every is_byte part ≡ true) (short : length (part ++ rest) ≤ 65536) where
  part_short : length part ≤ 65536
  part_short = omega (arith, length-append part rest)

  module _ (n : ℕ) (s : Session) (l q : List ℕ) where
    abbrev partly : After
    partly = stepped part false s l q

    over_fate : (a : Answer Refusal) → partly.turn.answer ≡ a → is_wait a ≡ false → Ended a → stepped (part ++ rest) true s l q ≡ partly
        → Fate (suc n) part (part ++ rest) s l q (walked (suc n) part false s l q)
    over_fate a e f k g =
        same (rw (walked_last n part false s l q a e k, e) f)
        (walked_last n part false s l q a e k
        ∙ sym g
        ∙ sym (walked_last n (part ++ rest) true s l q a (ap (λ (x : After). x.turn.answer) g ∙ e) k))

    -- the step is settled: it is the longer script's, and the walk goes on from there or is over
    settled_fate : (a : Answer Refusal) → partly.turn.answer ≡ a → is_wait a ≡ false → stepped (part ++ rest) true s l q ≡ partly
        → StaysSound part l q partly
        → Fate n part (part ++ rest) partly.turn.session partly.list partly.pool
        (walked n part false partly.turn.session partly.list partly.pool)
        → Fate (suc n) part (part ++ rest) s l q (walked (suc n) part false s l q)
    unfolding is_wait
    settled_fate Answer.Done e f g k ih = go ih
      where
        whole_on : walked (suc n) (part ++ rest) true s l q
            ≡ walked n (part ++ rest) true partly.turn.session partly.list partly.pool
        whole_on =
            walked_on n (part ++ rest) true s l q (ap (λ (x : After). x.turn.answer) g ∙ e)
            ∙ ap (λ (x : After). walked n (part ++ rest) true x.turn.session x.list x.pool) g

        part_on : walked (suc n) part false s l q ≡ walked n part false partly.turn.session partly.list partly.pool
        part_on = walked_on n part false s l q e

        go : Fate n part (part ++ rest) partly.turn.session partly.list partly.pool
            (walked n part false partly.turn.session partly.list partly.pool)
            → Fate (suc n) part (part ++ rest) s l q (walked (suc n) part false s l q)
        go (same x y) = same (rw part_on x) (part_on ∙ y ∙ sym whole_on)
        go (waits x y m i j z) =
            waits (rw part_on x)
            (rw part_on
            (record { sound = rw (sym k.list, sym k.pool) y.sound; list = y.list ∙ k.list; pool = y.pool ∙ k.pool }))
            m (suc i) (omega (arith, j)) (whole_on ∙ z ∙ ap (λ (x : After). walked m (part ++ rest) true x.turn.session x.list x.pool) (sym part_on))
    settled_fate Answer.Finished e f g k ih = over_fate Answer.Finished e f tt g
    settled_fate (Answer.Refused refusal span) e f g k ih = over_fate (Answer.Refused refusal span) e f tt g

    waiting_fate : (a : Answer Refusal) → partly.turn.answer ≡ a → is_wait a ≡ true → StaysSound part l q partly
        → Fate (suc n) part (part ++ rest) s l q (walked (suc n) part false s l q)
    waiting_fate a e f k =
        let last = walked_last n part false s l q a e (wait_refused a f) in
        let kept = wait_kept a part s l q e f in
        waits (rw (last, e) f) (rw last k) (suc n) 0 (omega arith) (rw (last, kept.0, kept.1, kept.2))

  walk_longer : (n : ℕ) (s : Session) (l q : List ℕ) → tables_fit (length l) (length q) ≡ true
      → Sound part (length l) (length q) s
      → Fate n part (part ++ rest) s l q (walked n part false s l q)
  unfolding walked is_wait
  walk_longer zero s l q fit h = same refl refl
  walk_longer (suc n) s l q fit h =
      let now = stepped part false s l q in
      let k = call_sound part s l q h Call.Step false in
      go (is_wait now.turn.answer) refl
      (walk_longer n now.turn.session now.list now.pool (rw (k.list, k.pool) fit) (rw (k.list, k.pool) k.sound))
    where
      go : (t : Bool) → is_wait (stepped part false s l q).turn.answer ≡ t
          → Fate n part (part ++ rest) (stepped part false s l q).turn.session (stepped part false s l q).list (stepped part false s l q).pool
          (walked n part false (stepped part false s l q).turn.session (stepped part false s l q).list (stepped part false s l q).pool)
          → Fate (suc n) part (part ++ rest) s l q (walked (suc n) part false s l q)
      go true e ih = waiting_fate n s l q _ refl e (call_sound part s l q h Call.Step false)
      go false e ih =
          settled_fate n s l q _ refl e
          ((call_waits_exactly Call.Step part s l q bytes part_short fit h).settled e rest short)
          (call_sound part s l q h Call.Step false)
          ih

-- ---- scripts in parts

-- what is still to come
later : List (List ℕ) → List ℕ
later [] = []
later (part ∷ more) = part ++ later more

joined_later : (src : List ℕ) (parts : List (List ℕ)) → joined src parts ≡ src ++ later parts
unfolding joined later
joined_later src [] = sym (append-nil src)
joined_later src (part ∷ more) = joined_later (src ++ part) more ∙ append_assoc src part (later more)

every_front : (test : ℕ → Bool) (xs ys : List ℕ) → every test (xs ++ ys) ≡ true → every test xs ≡ true
every_front test xs ys e = rw (take-append_seam xs ys) at (every_part test (xs ++ ys) (length xs) 0 e)

pub cuts : (n : ℕ) (src : List ℕ) (parts : List (List ℕ)) (s : Session) (l q : List ℕ)
    → every is_byte (joined src parts) ≡ true → length (joined src parts) ≤ 65536 → tables_fit (length l) (length q) ≡ true
    → Sound src (length l) (length q) s
    → Ended (walked n (joined src parts) true s l q).turn.answer
    → fed n src parts s l q ≡ walked n (joined src parts) true s l q
unfolding fed joined
cuts n src [] s l q bytes short fit h e = refl
cuts n src (part ∷ more) s l q bytes short fit h e =
    let whole : joined (src ++ part) more ≡ src ++ (part ++ later more) =
    joined_later (src ++ part) more ∙ append_assoc src part (later more) in
    let front = every_front is_byte src (part ++ later more) (rw whole at bytes) in
    let fate = walk_longer src (part ++ later more) front (rw whole at short) n s l q fit h in
    go (walked n src false s l q) (rw whole fate)
    (λ s' l' q' fit' h' e'. cuts n (src ++ part) more s' l' q' bytes short fit' h' e')
  where
    go : (w : After) → Fate n src (joined (src ++ part) more) s l q w
        → ((s' : Session) (l' q' : List ℕ) → tables_fit (length l') (length q') ≡ true
        → Sound (src ++ part) (length l') (length q') s'
        → Ended (walked n (joined (src ++ part) more) true s' l' q').turn.answer
        → fed n (src ++ part) more s' l' q' ≡ walked n (joined (src ++ part) more) true s' l' q')
        → (if is_wait w.turn.answer then fed n (src ++ part) more w.turn.session w.list w.pool else w)
        ≡ walked n (joined (src ++ part) more) true s l q
    go w (same x y) ih = rw x y
    go w (waits x k m i j z) ih =
        let ended = subst (λ (a : After). Ended a.turn.answer) z e in
        let more-steps = walk_more m i (joined (src ++ part) more) true w.turn.session w.list w.pool ended in
        let there : walked n (joined (src ++ part) more) true w.turn.session w.list w.pool
        ≡ walked m (joined (src ++ part) more) true w.turn.session w.list w.pool = rw j at more-steps in
        rw x
        (ih w.turn.session w.list w.pool (rw (k.list, k.pool) fit)
        (sound_append src part _ _ _ (rw (k.list, k.pool) k.sound))
        (rw there ended)
        ∙ there
        ∙ sym z)

-- from a fresh session
pub cuts_fresh : (n : ℕ) (parts : List (List ℕ)) (choices : Choices) (l q : List ℕ) → every is_byte (joined [] parts) ≡ true
    → length (joined [] parts) ≤ 65536 → tables_fit (length l) (length q) ≡ true
    → Ended (walked n (joined [] parts) true (fresh_session choices) l q).turn.answer
    → fed n [] parts (fresh_session choices) l q ≡ walked n (joined [] parts) true (fresh_session choices) l q
cuts_fresh n parts choices l q bytes short fit e =
    cuts n [] parts (fresh_session choices) l q bytes short fit
    (record { good = fresh_good [] choices; tokens = omega arith; bytes = omega arith }) e
