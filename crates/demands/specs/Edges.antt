-- Where the step ended that wrote a record (document 02, P4): the record's eighth number.
--   value_in     a token's value in the pool
--   written_in   the source's bytes from a token's position up to its end
--   IsNew        a record that a call, or a walk, has written: from the mark before it on, before the mark after it
--   Literally    a literal or a comment stands in the source as written, octal escapes read by this choice
--   IsOnward     a token does not end before its position
--   IsStated     none of non-zero length ends at 0
--   NewToken     what holds of each token that a call writes: it ends at the session's position after the call, within
--                the source, and its value stands in the pool before the mark after it; and the three above, by the
--                session's choice, which no call changes
--   Edges        what holds of a session's records in a list that was filled: ends never fall, none is after the
--                cursor, and each is onward and stated
--   StepOf       the step of a walk that wrote a record: the record ends where that step did; and the three above, with
--                list and pool as they are after the walk
use Rattle.std.specs.Prelude.{ℕ, suc, ◌+◌, ◌-◌, ◌≤◌, ◌<◌, Bool, true, List, ◌≡◌, length, take, drop}
use Rattle.byte.specs.declared.Octal.{Octal}
use Rattle.state.specs.declared.Session.{Session}
use Rattle.token.specs.declared.Token.{Token}
use Rattle.token.specs.Records.{token_in}
use Rattle.outcome.specs.declared.Call.{Call}
use Rattle.outcome.specs.Written.{is_literal, AsWritten}
use Rattle.lexer.specs.Turns.{After}
use Rattle.demands.specs.Walks.{walked}

abbrev pub value_in : List ℕ → Token → List ℕ
value_in pool t = take t.len (drop t.start pool)

abbrev pub written_in : List ℕ → Token → List ℕ
written_in src t = take (t.end - t.span.position) (drop t.span.position src)

abbrev pub IsNew : Session → After → ℕ → Type 0
IsNew s a i = (s.tokens ≤ i) × (i < a.turn.session.tokens)

-- a literal or a comment, read alone from the source's bytes, is the token itself
abbrev pub Literally : Call → Octal → List ℕ → List ℕ → Token → Type 0
Literally call octals src pool t =
    is_literal t.kind ≡ true → AsWritten call octals t.kind (value_in pool t) (written_in src t)

abbrev pub IsOnward : Token → Type 0
IsOnward t = t.span.position ≤ t.end

abbrev pub IsStated : Token → Type 0
IsStated t = 0 < t.len → 0 < t.end

pub record NewToken (call : Call) (src : List ℕ) (a : After) (t : Token) : Type 0 where
  pub ends : t.end ≡ a.turn.session.position
  pub within : t.end ≤ length src
  pub inside : t.start + t.len ≤ a.turn.session.bytes
  pub onward : IsOnward t
  pub stated : IsStated t
  pub written : Literally call a.turn.session.choices.octals src a.pool t

pub record Edges (list : List ℕ) (s : Session) : Type 0 where
  pub rising : (i j : ℕ) → i ≤ j → j < s.tokens → (token_in list i).end ≤ (token_in list j).end
  pub last : (i : ℕ) → i < s.tokens → (token_in list i).end ≤ s.position
  pub onward : (i : ℕ) → i < s.tokens → IsOnward (token_in list i)
  pub stated : (i : ℕ) → i < s.tokens → IsStated (token_in list i)

-- of a walk of at most n steps: the step after the first `steps` ones
pub record StepOf (n : ℕ) (src : List ℕ) (end : Bool) (s : Session) (list pool : List ℕ) (i : ℕ) : Type 0 where
  pub steps : ℕ
  pub fewer : steps < n
  pub before : (walked steps src end s list pool).turn.session.tokens ≤ i
  pub within : i < (walked (suc steps) src end s list pool).turn.session.tokens
  pub ends : (token_in (walked n src end s list pool).list i).end
      ≡ (walked (suc steps) src end s list pool).turn.session.position
  pub onward : IsOnward (token_in (walked n src end s list pool).list i)
  pub stated : IsStated (token_in (walked n src end s list pool).list i)
  pub written : Literally Call.Step s.choices.octals src (walked n src end s list pool).pool
      (token_in (walked n src end s list pool).list i)
