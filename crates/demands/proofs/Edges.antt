-- What holds of the records that a call writes: where they end, and what stands in the source up to there. Assumes
-- nothing.
--   call_new   each new record of a step or a reading, on every input
use Prim.Native.Nat.{ℕ, zero, suc, ◌+◌, ◌-◌, ◌*◌, ◌≤◌, ◌<◌}
use mathlib.Core.Path.{◌≡◌, refl, sym, ap, subst, ◌∙◌}
use mathlib.Core.Bool.{Bool, true, not, false≢true}
use mathlib.Core.List.{List, [], ◌∷◌, ◌++◌, append_assoc}
use native.Mathlib.Omega.{arith}
use lib.ListN.{length, take, drop, length-append}
use lib.Seq.{take-append_seam}
use borrow.Author.Tests.{not-true}
use Rattle.std.specs.Prelude.{Ok}
use Rattle.byte.specs.Words.{every}
use Rattle.byte.proofs.Tests.{&&-left, &&-right}
use Rattle.byte.specs.Laid.{laid}
use Rattle.byte.specs.declared.Refusal.{Refusal}
use Rattle.state.specs.declared.Answer.{Answer}
use Rattle.state.specs.declared.Session.{Session}
use Rattle.state.specs.Calls.{span_of}
use Rattle.token.specs.declared.Token.{Token}
use Rattle.token.specs.Records.{token_in}
use Rattle.token.proofs.Tokens.{token_in_drop}
use Rattle.outcome.specs.declared.Call.{Call}
use Rattle.outcome.specs.declared.Change.{Change}
use Rattle.outcome.specs.Outcomes.{Piece, Outcome, values}
use Rattle.outcome.specs.Insides.{AllInside, Inside, ToldInside}
use Rattle.outcome.specs.Steps.{rest, call_outcome}
use Rattle.outcome.specs.Written.{is_literal}
use Rattle.outcome.proofs.StepWays.{call_inside}
use Rattle.outcome.proofs.Written.{PiecesWritten, OutcomeWritten, outcome_written}
use Rattle.commit.specs.declared.Mark.{Mark}
use Rattle.commit.specs.Records.{token_of, past_piece, records}
use Rattle.commit.proofs.Putting.{room_facts, put_laid}
use Rattle.lexer.specs.Turns.{After, mark_of, settled}
use Rattle.lexer.specs.Calls.{called}
use Rattle.lexer.proofs.Nexts.{room, written, settled_cases}
use Rattle.demands.specs.Edges.{IsNew, Literally, IsOnward, IsStated, NewToken}
use Rattle.demands.proofs.Rising.{laid_back, span_place}
use Rattle.demands.proofs.Refusals.{called_cases}

-- ---- the tokens of records

module _ (src : List ℕ) (after : ℕ) (P : Token → Type 0) where
  -- it holds of each piece's token
  abbrev EachToken : Mark → List Piece → Type 0
  EachToken m [] = Unit {0}
  EachToken m (piece ∷ more) = P (token_of src after m piece) × EachToken (past_piece m piece) more

  records_token : (m : Mark) (pieces : List Piece) (more : List ℕ) → EachToken m pieces
      → (j : ℕ) → j < length pieces → P (token_in (records src after m pieces ++ more) j)
  unfolding records
  records_token m [] more e j h = absurd (omega (arith, h))
  records_token m (piece ∷ pieces) more e zero h = e.0
  records_token m (piece ∷ pieces) more e (suc j) h =
      let all = records src after m (piece ∷ pieces) ++ more in
      let later = records_token (past_piece m piece) pieces more e.1 j (omega (arith, h)) in
      let next : 1 + j ≡ suc j = omega arith in
      let there : token_in (records src after (past_piece m piece) pieces ++ more) j ≡ token_in all (suc j) =
      token_in_drop 1 j all ∙ ap (λ (i : ℕ). token_in all i) next in
      subst P there later

-- ---- where they end

-- the numbers of a token of a step that ends at `after`, with the pool's mark then at `bytes`
record Placed (after bytes : ℕ) (t : Token) : Type 0 where
  ends : t.end ≡ after
  onward : IsOnward t
  stated : IsStated t
  inside : t.start + t.len ≤ bytes

pieces_placed : (src : List ℕ) (after bytes : ℕ) (m : Mark) (n : ℕ) (pieces : List Piece) → m.span.position ≤ n
    → after ≤ length src → AllInside n after pieces → length (values pieces) ≤ after
    → m.bytes + length (values pieces) ≤ bytes → EachToken src after (Placed after bytes) m pieces
unfolding values
pieces_placed src after bytes m n [] low high i few room = tt
pieces_placed src after bytes m n (piece ∷ more) low high i few room =
    let all = length-append piece.value (values more) in
    let place = span_place src m.span piece.place (omega (arith, i.0.low)) (omega (arith, i.0.high)) in (
      record {
        ends = refl;
        onward = omega (arith, place, i.0.high);
        stated = λ some. omega (arith, some, few, all);
        inside = omega (arith, room, all);
      },
      pieces_placed src after bytes (past_piece m piece) piece.place more (omega (arith, i.0.low)) high i.1
          (omega (arith, few, all)) (omega (arith, room, all)),
    )

-- ---- what stands there

module _ (call : Call) (src : List ℕ) (s : Session) (q : List ℕ) (after : ℕ) (low : s.position ≤ after)
    (high : after ≤ length src) where
  abbrev pool : List Piece → List ℕ
  pool pieces = laid q s.bytes (values pieces)

  -- the one piece of a literal's step
  only_written : (p : Piece) → s.bytes ≤ length q
      → PiecesWritten call s.choices.octals s.position (rest src s) after (p ∷ [])
      → Literally call s.choices.octals src (pool (p ∷ [])) (token_of src after (mark_of s) p)
  unfolding values
  only_written p room w e =
      let v = p.value in
      let place : p.place ≡ s.position = (w e).0 in
      let there = span_place src (span_of s) p.place (omega (arith, place)) (omega (arith, place, low, high)) in
      let back : drop s.bytes (pool (p ∷ [])) ≡ v ++ ([] ++ drop (s.bytes + length (v ++ [])) q) =
      laid_back q s.bytes (v ++ []) room ∙ append_assoc v [] _ in
      let value : take (length v) (drop s.bytes (pool (p ∷ []))) ≡ v =
      ap (take (length v)) back ∙ take-append_seam v _ in
      rw (value, there, place) (w e).1

  -- pieces that are no literals
  none_written : (m : Mark) (pool' : List ℕ) (pieces : List Piece)
      → every (λ r. not (is_literal r.kind)) pieces ≡ true
      → EachToken src after (Literally call s.choices.octals src pool') m pieces
  unfolding every
  none_written m pool' [] e = tt
  none_written m pool' (p ∷ more) e = (
    λ f. absurd (false≢true (sym (not-true _ (&&-left (not (is_literal p.kind)) _ e)) ∙ f)),
    none_written (past_piece m p) pool' more (&&-right (not (is_literal p.kind)) _ e),
  )

  pieces_written : (pieces : List Piece) → s.bytes ≤ length q
      → PiecesWritten call s.choices.octals s.position (rest src s) after pieces
      → EachToken src after (Literally call s.choices.octals src (pool pieces)) (mark_of s) pieces
  pieces_written [] room w = tt
  pieces_written (p ∷ []) room w = (only_written p room w, tt)
  pieces_written (p ∷ p' ∷ more) room w = none_written (mark_of s) (pool (p ∷ p' ∷ more)) (p ∷ p' ∷ more) w

-- ---- a call

abbrev NewAfter : Call → List ℕ → Session → After → Type 0
NewAfter call src s a = (i : ℕ) → IsNew s a i → NewToken call src a (token_in a.list i)

module _ (call : Call) (src : List ℕ) (s : Session) (l q : List ℕ) where
  written_new : (pieces : List Piece) (after : ℕ) (change : Change) (finished : Bool) → room src s l q pieces ≡ Ok tt
      → ToldInside s.position (length src) pieces after
      → PiecesWritten call s.choices.octals s.position (rest src s) after pieces
      → NewAfter call src s (written src s l q pieces after change finished)
  written_new pieces after change finished e i w k new =
      let fits = room_facts (length l) (length q) s.tokens s.bytes (length pieces) (length (values pieces)) e in
      let put-so = put_laid src after pieces (mark_of s) (record { list = l; pool = q }) fits.0 fits.1 in
      let m = s.tokens * 8 in
      let rs = records src after (mark_of s) pieces in
      let j = k - s.tokens in
      let behind : drop m (laid l m rs) ≡ rs ++ drop (m + length rs) l = laid_back l m rs (omega (arith, fits.0)) in
      let one : s.tokens + j ≡ k = omega (arith, new.0) in
      let here : token_in (rs ++ drop (m + length rs) l) j ≡ token_in (laid l m rs) k =
      ap (λ (zs : List ℕ). token_in zs j) (sym behind)
      ∙ token_in_drop s.tokens j (laid l m rs)
      ∙ ap (λ (n : ℕ). token_in (laid l m rs) n) one in
      let there = span_place src (span_of s) after i.order i.inside in
      let less : j < length pieces = omega (arith, new.0, new.1) in
      let bytes = s.bytes + length (values pieces) in
      let more = drop (m + length rs) l in
      let room : s.bytes ≤ length q = omega (arith, fits.1) in
      let placed = records_token src after (Placed after bytes) (mark_of s) pieces more
      (pieces_placed src after bytes (mark_of s) s.position pieces (omega arith) i.inside i.all
      (omega (arith, i.narrow)) (omega arith)) j less in
      let literal = records_token src after
      (Literally call s.choices.octals src (laid q s.bytes (values pieces))) (mark_of s) pieces
      more
      (pieces_written call src s q after i.order i.inside pieces room w) j less in
      let p = subst (Placed after bytes) here placed in
      let t = subst (Literally call s.choices.octals src (laid q s.bytes (values pieces))) here literal in
      rw (put-so.0, put-so.1)
      (record {
        ends = p.ends ∙ sym there;
        within = omega (arith, p.ends, i.inside);
        inside = p.inside;
        onward = p.onward;
        stated = p.stated;
        written = t;
      })

  none_new : (answer : Answer Refusal)
      → NewAfter call src s (record { turn = record { answer = answer; session = s }; list = l; pool = q })
  none_new answer k new = absurd (omega (arith, new.0, new.1))

  settled_new : (o : Outcome) → Inside s.position (length src) o
      → OutcomeWritten call s.choices.octals s.position (rest src s) o
      → NewAfter call src s (settled src s l q o)
  settled_new =
      settled_cases src s l q
      (λ o a.
      Inside s.position (length src) o → OutcomeWritten call s.choices.octals s.position
      (rest src s) o → NewAfter call src s a)
      (λ pieces after change finished e i w. written_new pieces after change finished e i w)
      (λ pieces after change finished refusal e i w. none_new _) (λ refusal place i w. none_new _) (λ i w. none_new _)

  pub call_new : (end : Bool) → NewAfter call src s (called call src end s l q)
  call_new end =
      called_cases call src end s l q (NewAfter call src s)
      (λ h.
      settled_new (call_outcome call src end s) (call_inside call src end s h)
      (outcome_written call src end s))
      (λ number e. none_new _)
