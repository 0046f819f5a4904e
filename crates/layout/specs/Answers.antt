-- An answer and a turn as numbers, for hosts in C and Rust (include/puretakoi.h).
--   answer_by, refusal_by           an answer in five numbers, and its refusal alone, or 0, where refusals have these
--                                   numbers
--   answer_numbers, refusal_in      the same of a host's numbers
--   is_unrefused                    whether a call was not refused
--   unless_refused                  what stands after a call, or where it is refused what stood before
--   session_by, session_after       the session's slice: changed where the number is 0, that is where the call is not
--                                   refused, and then alone
--   Turned                          a turn written back: the refusal or 0, and what the two slices hold
use Rattle.std.specs.Prelude.{ℕ, List, [], ◌∷◌, ◌≡◌, Bool, true, false, eqb, if◌then◌else◌}
use Rattle.byte.specs.Laid.{laid}
use Rattle.byte.specs.Refusals.{number_of}
use Rattle.byte.specs.declared.Refusal.{Refusal}
use Rattle.state.specs.declared.Answer.{Answer}
use Rattle.state.specs.declared.Turn.{Turn}
use Rattle.layout.specs.Sessions.{numbers_of}

-- done, finished or refused; the refusal's number, line, column, position
unfoldable pub answer_by : {R : Type 0} → (R → ℕ) → Answer R → List ℕ
answer_by number Answer.Done = 0 ∷ 0 ∷ 0 ∷ 0 ∷ 0 ∷ []
answer_by number Answer.Finished = 1 ∷ 0 ∷ 0 ∷ 0 ∷ 0 ∷ []
answer_by number (Answer.Refused refusal span) = 2 ∷ number refusal ∷ span.line ∷ span.column ∷ span.position ∷ []

abbrev pub answer_numbers : Answer Refusal → List ℕ
answer_numbers answer = answer_by number_of answer

unfoldable pub refusal_by : {R : Type 0} → (R → ℕ) → Answer R → ℕ
refusal_by number Answer.Done = 0
refusal_by number Answer.Finished = 0
refusal_by number (Answer.Refused refusal span) = number refusal

abbrev pub refusal_in : Answer Refusal → ℕ
refusal_in answer = refusal_by number_of answer

abbrev pub is_unrefused : {R : Type 0} → Answer R → Bool
is_unrefused Answer.Done = true
is_unrefused Answer.Finished = true
is_unrefused (Answer.Refused refusal span) = false

unfoldable pub unless_refused : Answer Refusal → List ℕ → List ℕ → List ℕ
unless_refused Answer.Done after before = after
unless_refused Answer.Finished after before = after
unless_refused (Answer.Refused refusal span) after before = before

abbrev pub session_after : Turn Refusal → List ℕ → List ℕ
session_after t session = unless_refused t.answer (laid session 0 (numbers_of t.session)) session

abbrev pub session_by : {R : Type 0} → (R → ℕ) → Turn R → List ℕ → List ℕ
session_by number t session =
    if eqb (refusal_by number t.answer) 0 then laid session 0 (numbers_of t.session) else session

pub record Turned {R : Type 0} (number_by : R → ℕ) (t : Turn R) (session answer : List ℕ) (r : ℕ) (session' answer' : List ℕ)
    : Type 0 where
  pub number : r ≡ refusal_by number_by t.answer
  pub holds : session' ≡ session_by number_by t session
  pub tells : answer' ≡ laid answer 0 (answer_by number_by t.answer)
