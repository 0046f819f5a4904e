-- A host may take what was written and empty its tables at any time: what it is handed is the same. Assumes nothing.
--   call_emptied          two sessions that differ in nothing but their marks, each with tables of its own: a call
--                         gives both the same tokens, answer and session, but for the marks
--   walk_emptied          tables that are emptied before each step give what tables give that are not
--   walked_emptied_room   and 16 numbers, with as many bytes as the source has, are room enough for it
--   cuts_emptied          a script in parts, the tables emptied before each part, gives what the uncut script gives
-- All go by way of what is handed without any tables (call_handed, walk_handed, fed_handed).
use Rattle.std.specs.Prelude.{if◌then◌else◌}
use Prim.Native.Nat.{ℕ, zero, suc, ◌+◌, ◌*◌, ◌-◌, ◌≤◌, ◌<◌}
use mathlib.Core.Path.{◌≡◌, refl, sym, ap, ◌∙◌}
use mathlib.Core.Bool.{Bool, true, false, false≢true}
use mathlib.Core.List.{List, [], ◌∷◌, ◌++◌}
use native.Mathlib.Omega.{arith}
use lib.ListN.{length, length-append}
use borrow.Author.Tests.{eqb-true}
use Rattle.byte.proofs.Refusals.{is_same_one}
use Rattle.byte.specs.Refusals.{wait}
use Rattle.byte.specs.Words.{every}
use Rattle.byte.specs.Demand.{is_byte}
use Rattle.byte.proofs.Tests.{choice}
use Rattle.byte.specs.declared.Refusal.{Refusal}
use Rattle.state.specs.declared.Answer.{Answer}
use Rattle.state.specs.declared.Choices.{Choices}
use Rattle.state.specs.declared.Session.{Session}
use Rattle.state.specs.Bounds.{is_good, is_within, is_stack}
use Rattle.state.specs.Calls.{fresh_session}
use Rattle.state.specs.Gates.{tables_fit}
use Rattle.state.proofs.Kept.{fresh_good}
use Rattle.state.proofs.Longer.{good_append}
use Rattle.outcome.specs.declared.Call.{Call}
use Rattle.outcome.specs.Steps.{call_outcome}
use Rattle.lexer.specs.Turns.{After, settled}
use Rattle.lexer.specs.Calls.{called, stepped}
use Rattle.demands.specs.Walks.{gone_on, walked, is_done, is_wait, joined, fed}
use Rattle.demands.specs.Emptied.{emptied, lacks_room, Handed, handed, taking, unmarked, and_then}
use Rattle.demands.specs.Emptied.{walked_emptied, fed_emptied}
use Rattle.demands.proofs.Good.{Sound, StaysSound, call_sound}
use Rattle.demands.proofs.Longer.{gate_open, sound_append}
use Rattle.demands.proofs.Ends.{cuts_whole}
use Rattle.demands.proofs.Room.{empty_room}
use Rattle.demands.proofs.Taken.{wrote_new, wrote_none, wrote_both, handed_of, Hands, hands_taking, settled_hands}

-- ---- a call

call_handed : Call → List ℕ → Bool → Session → Handed
call_handed call src end s = handed_of src s (call_outcome call src end s)

-- what is handed is what a host has, from marks that are 0
hands_handed : {s : Session} {l q : List ℕ} {a : After} {h : Handed} → s.tokens ≡ 0 → Hands s l q a h
    → unmarked (handed a) ≡ h
hands_handed {s} {a = a} z x =
    let all : a.turn.session.tokens - s.tokens ≡ a.turn.session.tokens = omega (arith, z) in
    let tokens = rw (all, z) at (wrote_new x.wrote) in
    rw (tokens, x.answer, x.session)

good_emptied : (src : List ℕ) (s t : Session) → emptied s ≡ emptied t → is_good src t ≡ true → is_good src s ≡ true
unfolding is_good is_within is_stack
good_emptied src s t e g = ap (is_good src) e ∙ g

emptied_sound : (src : List ℕ) (list pool : ℕ) (s : Session) → is_good src s ≡ true → Sound src list pool (emptied s)
unfolding is_good is_within is_stack
emptied_sound src list pool s e = record { good = e; tokens = omega arith; bytes = omega arith }

module _ (call : Call) (src : List ℕ) (end : Bool) (s : Session) (l q : List ℕ) (short : length src ≤ 65536)
    (fit : tables_fit (length l) (length q) ≡ true) (h : Sound src (length l) (length q) s) where
  pub opened : called call src end s l q ≡ settled src s l q (call_outcome call src end s)
  unfolding called
  opened = rw (gate_open src (length l) (length q) s h short fit)

  call_hands : lacks_room (called call src end s l q).turn.answer ≡ false
      → Hands s l q (called call src end s l q) (call_handed call src end (emptied s))
  unfolding call_outcome call_handed
  call_hands room = rw opened (settled_hands src s l q (call_outcome call src end s) (rw opened at room))

pub call_emptied : (call : Call) (src : List ℕ) (end : Bool) (s t : Session) (l q l' q' : List ℕ)
    → emptied s ≡ emptied t → length src ≤ 65536
    → tables_fit (length l) (length q) ≡ true → Sound src (length l) (length q) s
    → tables_fit (length l') (length q') ≡ true → Sound src (length l') (length q') t
    → lacks_room (called call src end s l q).turn.answer ≡ false
    → lacks_room (called call src end t l' q').turn.answer ≡ false
    → taking s (called call src end s l q) ≡ taking t (called call src end t l' q')
call_emptied call src end s t l q l' q' e short fit h fit' h' r r' =
    hands_taking (call_hands call src end s l q short fit h r)
    ∙ ap (call_handed call src end) e
    ∙ sym (hands_taking (call_hands call src end t l' q' short fit' h' r'))

-- ---- what is handed now, and then later

abbrev before : Handed → Handed → Handed
before now later = record { tokens = now.tokens ++ later.tokens; answer = later.answer; session = later.session }

hands_both : {s : Session} {l q : List ℕ} {a b : After} {h h' : Handed} → Hands s l q a h
    → Hands a.turn.session a.list a.pool b h' → Hands s l q b (before h h')
hands_both x y = record { wrote = wrote_both x.wrote y.wrote; answer = y.answer; session = y.session }

before_emptied : {s : Session} {l q : List ℕ} {a : After} {h h' : Handed} → s.tokens ≡ 0 → Hands s l q a h
    → (later : Handed) → unmarked later ≡ h' → unmarked (and_then a later) ≡ before h h'
before_emptied z x later e = rw (sym e, ap (λ (h : Handed). h.tokens) (hands_handed z x))

-- where the answer passes this test, and so does not lack room, what comes later is handed too: in tables that stay,
-- and in tables that are emptied
module _ (test : Answer Refusal → Bool) (roomy : (a : Answer Refusal) → test a ≡ true → lacks_room a ≡ false) (l q : List ℕ)
    (now : After) (h : Handed) (on : Session → Handed) where
  abbrev whole : Handed
  whole = if test h.answer then before h (on h.session) else h

  on_hands : (s : Session) → (lacks_room now.turn.answer ≡ false → Hands s l q now h) → (later : After)
      → (lacks_room later.turn.answer ≡ false
      → Hands now.turn.session now.list now.pool later (on (emptied now.turn.session)))
      → (t : Bool) → test now.turn.answer ≡ t → lacks_room (if t then later else now).turn.answer ≡ false
      → Hands s l q (if t then later else now) whole
  on_hands s first later next true e r =
      let x = first (roomy _ e) in
      rw (ap test (sym x.answer) ∙ e) (hands_both x (rw x.session at (next r)))
  on_hands s first later next false e r = let x = first r in rw (ap test (sym x.answer) ∙ e) x

  on_emptied : (s : Session) → s.tokens ≡ 0 → (lacks_room now.turn.answer ≡ false → Hands s l q now h)
      → (later : Handed) → (lacks_room later.answer ≡ false → unmarked later ≡ on (emptied now.turn.session))
      → (t : Bool) → test now.turn.answer ≡ t
      → lacks_room (if t then and_then now later else handed now).answer ≡ false
      → unmarked (if t then and_then now later else handed now) ≡ whole
  on_emptied s z first later next true e r =
      let x = first (roomy _ e) in
      rw (ap test (sym x.answer) ∙ e) (before_emptied z x later (next r ∙ ap on x.session))
  on_emptied s z first later next false e r = let x = first r in rw (ap test (sym x.answer) ∙ e) (hands_handed z x)

-- ---- many steps

done_room : (a : Answer Refusal) → is_done a ≡ true → lacks_room a ≡ false
unfolding is_done lacks_room
done_room Answer.Done e = refl
done_room Answer.Finished e = refl
done_room (Answer.Refused refusal span) e = absurd (false≢true e)

go_on_done : (a : Answer Refusal) (now later : After) → gone_on a now later ≡ (if is_done a then later else now)
unfolding gone_on is_done
go_on_done Answer.Done now later = refl
go_on_done Answer.Finished now later = refl
go_on_done (Answer.Refused refusal span) now later = refl

walk_handed : ℕ → List ℕ → Bool → Session → Handed
walk_handed zero src end s = record { tokens = []; answer = Answer.Done; session = s }
walk_handed (suc n) src end s =
    let now = call_handed Call.Step src end s in
    if is_done now.answer then before now (walk_handed n src end now.session) else now

-- a walk from a sound session stays sound
module _ (src : List ℕ) (end : Bool) where
  pub walk_sound : (n : ℕ) (s : Session) (l q : List ℕ) → Sound src (length l) (length q) s
      → StaysSound src l q (walked n src end s l q)
  unfolding walked gone_on
  walk_sound zero s l q h = record { sound = h; list = refl; pool = refl }
  walk_sound (suc n) s l q h =
      let now = stepped src end s l q in
      let k = call_sound src s l q h Call.Step end in
      go now.turn.answer now _ k
      (walk_sound n now.turn.session now.list now.pool (rw (k.list, k.pool) k.sound))
    where
      go : (a : Answer Refusal) (now later : After) → StaysSound src l q now → StaysSound src now.list now.pool later
          → StaysSound src l q (gone_on a now later)
      go Answer.Done now later x y =
          record {
            sound = rw (sym x.list, sym x.pool) y.sound;
            list = y.list ∙ x.list;
            pool = y.pool ∙ x.pool;
          }
      go Answer.Finished now later x y = x
      go (Answer.Refused refusal span) now later x y = x

module _ (src : List ℕ) (short : length src ≤ 65536) (end : Bool) where
  walk_hands : (n : ℕ) (s : Session) (l q : List ℕ) → tables_fit (length l) (length q) ≡ true
      → Sound src (length l) (length q) s
      → lacks_room (walked n src end s l q).turn.answer ≡ false
      → Hands s l q (walked n src end s l q) (walk_handed n src end (emptied s))
  unfolding walked walk_handed
  walk_hands zero s l q fit h r = record { wrote = wrote_none s l q Answer.Done; answer = refl; session = refl }
  walk_hands (suc n) s l q fit h r =
      let now = stepped src end s l q in
      let later = walked n src end now.turn.session now.list now.pool in
      let k = call_sound src s l q h Call.Step end in
      let all = go_on_done now.turn.answer now later in
      rw all
      (on_hands is_done done_room l q now (call_handed Call.Step src end (emptied s)) (walk_handed n src end) s
      (call_hands Call.Step src end s l q short fit h) later
      (walk_hands n now.turn.session now.list now.pool (rw (k.list, k.pool) fit)
      (rw (k.list, k.pool) k.sound))
      (is_done now.turn.answer) refl (rw all at r))

  emptied_hands : (n : ℕ) (s : Session) (l q : List ℕ) → tables_fit (length l) (length q) ≡ true → is_good src s ≡ true
      → lacks_room (walked_emptied n src end s l q).answer ≡ false
      → unmarked (walked_emptied n src end s l q) ≡ walk_handed n src end (emptied s)
  unfolding walked_emptied walk_handed
  emptied_hands zero s l q fit g r = refl
  emptied_hands (suc n) s l q fit g r =
      let now = stepped src end (emptied s) l q in
      let h = emptied_sound src (length l) (length q) s g in
      let k = call_sound src (emptied s) l q h Call.Step end in
      on_emptied is_done done_room l q now (call_handed Call.Step src end (emptied s)) (walk_handed n src end) (emptied s)
      refl (call_hands Call.Step src end (emptied s) l q short fit h)
      (walked_emptied n src end now.turn.session now.list now.pool)
      (emptied_hands n now.turn.session now.list now.pool (rw (k.list, k.pool) fit) k.sound.good)
      (is_done now.turn.answer) refl r

  pub walk_emptied : (n : ℕ) (s t : Session) (l q l' q' : List ℕ) → emptied s ≡ emptied t
      → tables_fit (length l) (length q) ≡ true
      → tables_fit (length l') (length q') ≡ true → Sound src (length l') (length q') t
      → lacks_room (walked_emptied n src end s l q).answer ≡ false
      → lacks_room (walked n src end t l' q').turn.answer ≡ false
      → unmarked (walked_emptied n src end s l q) ≡ taking t (walked n src end t l' q')
  walk_emptied n s t l q l' q' e fit fit' h r r' =
      emptied_hands n s l q fit (good_emptied src s t e h.good) r
      ∙ ap (walk_handed n src end) e
      ∙ sym (hands_taking (walk_hands n t l' q' fit' h r'))

  -- and there it never lacks room, in tables of 16 numbers and as many bytes as the source has
  pub walked_emptied_room : (n : ℕ) (s : Session) (l q : List ℕ) → is_good src s ≡ true → 16 ≤ length l
      → length src ≤ length q
      → lacks_room (walked_emptied n src end s l q).answer ≡ false
  unfolding walked_emptied lacks_room
  walked_emptied_room zero s l q g places room = refl
  walked_emptied_room (suc n) s l q g places room =
      let now = stepped src end (emptied s) l q in
      let k = call_sound src (emptied s) l q (emptied_sound src (length l) (length q) s g) Call.Step end in
      choice (λ (h : Handed). lacks_room h.answer ≡ false) (is_done now.turn.answer) _ _
      (λ e.
      walked_emptied_room n now.turn.session now.list now.pool k.sound.good (rw k.list places)
      (rw k.pool room))
      (λ e. empty_room Call.Step src end (emptied s) l q refl refl places room)

-- ---- a script in parts

fed_handed : ℕ → List ℕ → List (List ℕ) → Session → Handed
fed_handed n src [] s = walk_handed n src true s
fed_handed n src (part ∷ more) s =
    let now = walk_handed n src false s in
    if is_wait now.answer then before now (fed_handed n (src ++ part) more now.session) else now

wait_room : (a : Answer Refusal) → is_wait a ≡ true → lacks_room a ≡ false
unfolding is_wait lacks_room
wait_room Answer.Done e = refl
wait_room Answer.Finished e = refl
wait_room (Answer.Refused refusal span) e = rw (is_same_one refusal wait e)

joined_longer : (src : List ℕ) (parts : List (List ℕ)) → length src ≤ length (joined src parts)
unfolding joined
joined_longer src [] = omega arith
joined_longer src (part ∷ more) = omega (arith, joined_longer (src ++ part) more, length-append src part)

fed_hands : (n : ℕ) (src : List ℕ) (parts : List (List ℕ)) (s : Session) (l q : List ℕ)
    → length (joined src parts) ≤ 65536 → tables_fit (length l) (length q) ≡ true → Sound src (length l) (length q) s
    → lacks_room (fed n src parts s l q).turn.answer ≡ false
    → Hands s l q (fed n src parts s l q) (fed_handed n src parts (emptied s))
unfolding fed fed_handed joined
fed_hands n src [] s l q short fit h r = walk_hands src short true n s l q fit h r
fed_hands n src (part ∷ more) s l q short fit h r =
    let now = walked n src false s l q in
    let k = walk_sound src false n s l q h in
    let here : length src ≤ 65536 = omega (arith, joined_longer (src ++ part) more, length-append src part) in
    on_hands is_wait wait_room l q now (walk_handed n src false (emptied s)) (fed_handed n (src ++ part) more) s
    (walk_hands src here false n s l q fit h) (fed n (src ++ part) more now.turn.session now.list now.pool)
    (fed_hands n (src ++ part) more now.turn.session now.list now.pool short (rw (k.list, k.pool) fit)
    (sound_append src part _ _ _ (rw (k.list, k.pool) k.sound)))
    (is_wait now.turn.answer) refl r

fed-emptied : (n : ℕ) (src : List ℕ) (parts : List (List ℕ)) (s : Session) (l q : List ℕ)
    → length (joined src parts) ≤ 65536 → tables_fit (length l) (length q) ≡ true → is_good src s ≡ true
    → lacks_room (fed_emptied n src parts s l q).answer ≡ false
    → unmarked (fed_emptied n src parts s l q) ≡ fed_handed n src parts (emptied s)
unfolding fed_emptied fed_handed joined
fed-emptied n src [] s l q short fit g r =
    let h = emptied_sound src (length l) (length q) s g in
    hands_handed refl (walk_hands src short true n (emptied s) l q fit h r)
fed-emptied n src (part ∷ more) s l q short fit g r =
    let now = walked n src false (emptied s) l q in
    let h = emptied_sound src (length l) (length q) s g in
    let k = walk_sound src false n (emptied s) l q h in
    let here : length src ≤ 65536 = omega (arith, joined_longer (src ++ part) more, length-append src part) in
    on_emptied is_wait wait_room l q now (walk_handed n src false (emptied s)) (fed_handed n (src ++ part) more)
    (emptied s) refl (walk_hands src here false n (emptied s) l q fit h)
    (fed_emptied n (src ++ part) more now.turn.session now.list now.pool)
    (fed-emptied n (src ++ part) more now.turn.session now.list now.pool short (rw (k.list, k.pool) fit)
    (good_append src part _ k.sound.good))
    (is_wait now.turn.answer) refl r

pub cuts_emptied : (n : ℕ) (parts : List (List ℕ)) (choices : Choices) (l q l' q' : List ℕ)
    → every is_byte (joined [] parts) ≡ true → length (joined [] parts) ≤ 65536 → 2 * length (joined [] parts) + 1 < n
    → tables_fit (length l) (length q) ≡ true → tables_fit (length l') (length q') ≡ true
    → lacks_room (fed_emptied n [] parts (fresh_session choices) l q).answer ≡ false
    → lacks_room (walked n (joined [] parts) true (fresh_session choices) l' q').turn.answer ≡ false
    → unmarked (fed_emptied n [] parts (fresh_session choices) l q)
    ≡ taking (fresh_session choices) (walked n (joined [] parts) true (fresh_session choices) l' q')
cuts_emptied n parts choices l q l' q' bytes short enough fit fit' r r' =
    let s = fresh_session choices in
    let same = cuts_whole n parts choices l' q' bytes short fit' enough in
    let g = fresh_good [] choices in
    let h : Sound [] (length l') (length q') s = record { good = g; tokens = omega arith; bytes = omega arith } in
    fed-emptied n [] parts s l q short fit g r
    ∙ sym (hands_taking (fed_hands n [] parts s l' q' short fit' h (rw same r')))
    ∙ ap (taking s) same
