-- The calls of a host on each way through them. Assumes nothing.
use Rattle.std.specs.Prelude.{Result, Ok, Err, Option, None, Some, SomeIff}
use Prim.Native.Nat.{ℕ, ◌≤◌, ◌<◌}
use mathlib.Core.Path.{◌≡◌, refl, sym, ap, ◌∙◌}
use mathlib.Core.Bool.{Bool, true, false, not}
use mathlib.Core.List.{List}
use lib.Dec.{leb}
use lib.ListN.{length}
use borrow.Author.Tests.{le-leb, lt-leb, leb-true, not-true, not-false}
use Rattle.byte.proofs.Tests.{&&-left, &&-right}
use Rattle.byte.specs.Laid.{laid}
use Rattle.byte.specs.declared.Refusal.{Refusal}
use Rattle.byte.specs.Refusals.{out_of_place, bad_session, number_of}
use Rattle.state.specs.declared.Answer.{Answer}
use Rattle.state.specs.declared.Frame.{Frame}
use Rattle.state.specs.declared.Choices.{Choices}
use Rattle.state.specs.declared.Session.{Session}
use Rattle.state.specs.declared.Turn.{Turn}
use Rattle.state.specs.Calls.{fresh_session, skipped, pushed, popped}
use Rattle.token.specs.Files.{file_answer, Written}
use Rattle.layout.specs.Sessions.{numbers_of, frame_in, are_choices, choices_in, session_in}
use Rattle.layout.specs.Answers.{refusal_by, refusal_in, Turned}
use Rattle.layout.proofs.Answers.{session_told}
use Rattle.puretakoi.specs.Told.{told_number, Tells}
use Rattle.puretakoi.specs.Calls.{are_long, Crossed, fresh_refusal, fresh_numbers, Begun, Filed}

-- the refusal in the answer of a record file's call
refusal_file : (told : Result (Unit {0}) Refusal) → refusal_in (file_answer told) ≡ told_number told
unfolding refusal_by file_answer
refusal_file (Ok passes) = refl
refusal_file (Err refusal) = refl

pub filed : (told : Result (Unit {0}) Refusal) (lent values : List ℕ) (a : Answer Refusal) (r : ℕ) (after : List ℕ)
    → Written told lent values a after → r ≡ refusal_in a → Filed told lent values r after
filed told lent values a r after w e = record { number = e ∙ rw w.answer (refusal_file told); holds = w.holds }

not_so : (b : Bool) → (b ≡ true → ⊥) → b ≡ false
not_so true h = absurd (h refl)
not_so false h = refl

-- the two slices of a call
module _ (session answer : List ℕ) (flag : Bool) (e : flag ≡ are_long (length session) (length answer)) where
  module _ (h : not flag ≡ false) where
    pub session_long : 199 ≤ length session
    unfolding are_long
    session_long = leb-true 199 (length session) (&&-left (leb 199 (length session)) (leb 5 (length answer)) (sym e ∙ not-false flag h))

    pub answer_long : 5 ≤ length answer
    unfolding are_long
    answer_long = leb-true 5 (length answer) (&&-right (leb 199 (length session)) (leb 5 (length answer)) (sym e ∙ not-false flag h))

-- a call over the session in a host's numbers
module _ (session answer : List ℕ) (found : Option Session)
    (e : SomeIff found (are_long (length session) (length answer) ≡ true) (session_in session)) where
  pub crossed_short : (r : ℕ) → found ≡ None → r ≡ number_of out_of_place → (t : Turn Refusal) → Crossed t session answer r session answer
  crossed_short r n z t =
      let no : are_long (length session) (length answer) ≡ true → ⊥ = rw n at e in
      let short : are_long (length session) (length answer) ≡ false = not_so _ no in
      record { number = z ∙ rw short; holds = rw short; tells = rw short }

  module _ (s : Session) (n : found ≡ Some s) where
    so : (are_long (length session) (length answer) ≡ true) × (s ≡ session_in session)
    so = rw n at e

    pub crossed_session : 199 ≤ length session
    unfolding are_long
    crossed_session = leb-true 199 (length session) (&&-left (leb 199 (length session)) (leb 5 (length answer)) so.0)

    pub crossed_answer : 5 ≤ length answer
    unfolding are_long
    crossed_answer = leb-true 5 (length answer) (&&-right (leb 199 (length session)) (leb 5 (length answer)) so.0)

    crossed : (t : Turn Refusal) (r : ℕ) (session' answer' : List ℕ) → Turned number_of t session answer r session' answer'
        → Crossed t session answer r session' answer'
    crossed t r session' answer' w =
        record { number = w.number ∙ rw so.0; holds = w.holds ∙ rw (so.0, session_told t session); tells = w.tells ∙ rw so.0 }

    module _ (src : List ℕ) (t : Turn Refusal) (r : ℕ) (session' answer' : List ℕ) (w : Turned number_of t session answer r session' answer') where
      pub skip_done : (count : ℕ) → t ≡ skipped src s count
          → Crossed (skipped src (session_in session) count) session answer r session' answer'
      skip_done count g = crossed (skipped src (session_in session) count) r session' answer' (rw (← so.1, ← g) w)

      pub push_done : (frame : Frame) (number start len : ℕ) → frame ≡ frame_in number start len → t ≡ pushed src s frame
          → Crossed (pushed src (session_in session) (frame_in number start len)) session answer r session' answer'
      push_done frame number start len k g =
          crossed (pushed src (session_in session) (frame_in number start len)) r session' answer' (rw (← so.1, ← k, ← g) w)

      pub pop_done : t ≡ popped src s → Crossed (popped src (session_in session)) session answer r session' answer'
      pop_done g = crossed (popped src (session_in session)) r session' answer' (rw (← so.1, ← g) w)

pub ruleset crossings = (crossed_session, crossed_answer, crossed_short, skip_done, push_done, pop_done)

-- a fresh session
module _ (number : ℕ) (session : List ℕ) where
  abbrev Makes : Result (Unit {0}) Refusal → List ℕ → Type 0
  Makes = Tells (fresh_refusal (length session) number) (fresh_numbers number session) session

  pub begun_short : length session < 199 → Makes (Err out_of_place) session
  unfolding fresh_refusal
  begun_short h =
      let e : fresh_refusal (length session) number ≡ Err out_of_place = rw (lt-leb 199 (length session) h) in
      record { told = sym e; holds = rw e }

  module _ (n : 199 ≤ length session) (flag : Bool) (f : flag ≡ are_choices number) where
    pub begun_none : not flag ≡ true → Makes (Err bad_session) session
    unfolding fresh_refusal
    begun_none h =
        let e : fresh_refusal (length session) number ≡ Err bad_session = rw (le-leb 199 (length session) n, ← f, not-true flag h) in
        record { told = sym e; holds = rw e }

    pub begun_done : (choices : Choices) (s : Session) (session' : List ℕ) → not flag ≡ false → choices ≡ choices_in number → s ≡ fresh_session choices
        → session' ≡ laid session 0 (numbers_of s) → Makes (Ok tt) session'
    unfolding fresh_refusal
    begun_done choices s session' h a b c =
        let e : fresh_refusal (length session) number ≡ Ok tt = rw (le-leb 199 (length session) n, ← f, not-false flag h) in
        record { told = sym e; holds = c ∙ rw (e, b, a) }

pub ruleset begun = (begun_short, begun_none, begun_done)

-- and told as a number
pub fresh_told : (choices : ℕ) (session : List ℕ) (told : Result (Unit {0}) Refusal) (r : ℕ) (session' : List ℕ)
    → Tells (fresh_refusal (length session) choices) (fresh_numbers choices session) session told session'
    → r ≡ told_number told → Begun choices session r session'
fresh_told choices session told r session' t e = record { number = e ∙ ap told_number t.told; holds = t.holds }
