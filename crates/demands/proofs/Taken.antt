-- What a host takes of the records and bytes that a call wrote is just what the call told. Assumes nothing.
--   taken_in_sum                                         the tokens of records in two parts
--   records_taken                                        the records and values of pieces, wherever they stand, are
--                                                        taken as the pieces
--   Grows                                                what stood before the marks stands there still
--   Wrote                                                so it is, and the new tokens stand between the marks, whatever
--                                                        comes after them
--   written_grows, grows_none, grows_both and wrote-..   of pieces, of nothing, of one call and another
--   handed_of                                            what an outcome gives to a host whose tables have room
--   settled_hands   what it comes to in tables that do not lack room
--   call_taken      so of a call that is not refused
use Prim.Native.Nat.{ℕ, zero, suc, ◌+◌, ◌-◌, ◌*◌, ◌≤◌}
use Rattle.byte.specs.declared.Refusal.{Refusal}
use mathlib.Core.Path.{◌≡◌, refl, sym, ap, ◌∙◌}
use mathlib.Core.Bool.{Bool, true, false, ◌||◌, false≢true}
use mathlib.Core.List.{List, [], ◌∷◌, ◌++◌, append_assoc}
use native.Mathlib.Omega.{arith}
use native.Mathlib.Nat.{zero-add, suc-add}
use lib.Dec.{eqb}
use lib.ListN.{length, take, drop, take-append-drop}
use lib.Seq.{drop-drop, take-take, take-append_seam, drop-append_seam}
use borrow.Author.Tests.{eqb-true}
use Rattle.lexer.proofs.Nexts.{roomy_cases}
use Rattle.std.specs.Prelude.{Ok}
use Rattle.byte.specs.Refusals.{is_same}
use Rattle.byte.specs.Laid.{laid}
use Rattle.byte.specs.Refusals.{wait, list_full, pool_full, is_among}
use Rattle.byte.specs.Words.{every}
use Rattle.byte.proofs.Tests.{choice}
use Rattle.source.specs.declared.Span.{Span}
use Rattle.state.specs.declared.Answer.{Answer}
use Rattle.state.specs.declared.Session.{Session}
use Rattle.state.specs.Calls.{span_of}
use Rattle.outcome.specs.declared.Call.{Call}
use Rattle.outcome.specs.declared.Change.{Change}
use Rattle.outcome.specs.Outcomes.{Piece, Outcome, values}
use Rattle.outcome.specs.Steps.{call_outcome}
use Rattle.byte.proofs.Refusals.{among_every}
use Rattle.commit.specs.declared.Mark.{Mark}
use Rattle.commit.specs.Records.{span_at, past_piece, records, answer_of, Reached, reached}
use Rattle.commit.proofs.Putting.{room_facts, records_length, put_laid}
use Rattle.lexer.specs.Turns.{After, frames_after, depth_after, changed, mark_of, reaching, settled}
use Rattle.lexer.specs.Calls.{called}
use Rattle.lexer.proofs.Nexts.{room, written}
use Rattle.demands.specs.Emptied.{Taken, takens, taken_in, new_in, emptied, lacks_room, Handed, taking}
use Rattle.demands.proofs.Rising.{eight_on, drop-take, laid_front, laid_back}
use Rattle.demands.proofs.Refusals.{called_cases, room_among}

-- ---- records and values

taken_in_sum : (m k : ℕ) (list pool : List ℕ)
    → taken_in (m + k) list pool ≡ taken_in m list pool ++ taken_in k (drop (m * 8) list) pool
unfolding taken_in
taken_in_sum zero k list pool = rw (zero-add k)
taken_in_sum (suc m) k list pool =
    let there : drop (m * 8) (drop 8 list) ≡ drop (suc m * 8) list =
    drop-drop (m * 8) 8 list ∙ ap (λ (i : ℕ). drop i list) (eight_on m) in
    rw (suc-add m k, taken_in_sum m k (drop 8 list) pool, there)

-- the values stand in the pool from the mark on
records_taken : (src : List ℕ) (after : ℕ) (m : Mark) (pieces : List Piece) (more pool rest : List ℕ)
    → drop m.bytes pool ≡ values pieces ++ rest
    → taken_in (length pieces) (records src after m pieces ++ more) pool ≡ takens src after m.span pieces
unfolding taken_in records takens values
records_taken src after m [] more pool rest e = refl
records_taken src after m (piece ∷ pieces) more pool rest e =
    let v = piece.value in
    let start = m.bytes in
    let here : drop start pool ≡ v ++ (values pieces ++ rest) = e ∙ append_assoc v (values pieces) rest in
    let value : take (length v) (drop start pool) ≡ v = ap (take (length v)) here ∙ take-append_seam v _ in
    let later : drop (start + length v) pool ≡ values pieces ++ rest =
    sym (drop-drop (length v) start pool) ∙ ap (drop (length v)) here ∙ drop-append_seam v _ in
    rw (value, records_taken src after (past_piece m piece) pieces more pool rest later)

-- what was written from i on up to n stands so in every list that is the same up to n
laid_again : (l l' : List ℕ) (i n : ℕ) (vs : List ℕ) → i ≤ length l → n ≡ i + length vs
    → take n l' ≡ take n (laid l i vs) → drop i l' ≡ vs ++ drop n l'
laid_again l l' i n vs h e same =
    let front : take (length vs) (drop i l') ≡ vs =
    sym (drop-take i (length vs) l')
    ∙ ap (drop i) (rw e at same)
    ∙ drop-take i (length vs) (laid l i vs)
    ∙ ap (take (length vs)) (laid_back l i vs h)
    ∙ take-append_seam vs _ in
    sym (take-append-drop (length vs) (drop i l'))
    ∙ rw (front, drop-drop (length vs) i l', e)

-- ---- what a call wrote

-- from s with these tables to a
pub record Grows (s : Session) (l q : List ℕ) (a : After) : Type 0 where
  pub tokens : s.tokens ≤ a.turn.session.tokens
  pub bytes : s.bytes ≤ a.turn.session.bytes
  pub list : take (s.tokens * 8) a.list ≡ take (s.tokens * 8) l
  pub pool : take s.bytes a.pool ≡ take s.bytes q

pub record Wrote (s : Session) (l q : List ℕ) (a : After) (ts : List Taken) : Type 0 where
  pub grows : Grows s l q a
  pub new : (l' q' : List ℕ) → take (a.turn.session.tokens * 8) l' ≡ take (a.turn.session.tokens * 8) a.list
      → take a.turn.session.bytes q' ≡ take a.turn.session.bytes a.pool
      → taken_in (a.turn.session.tokens - s.tokens) (drop (s.tokens * 8) l') q' ≡ ts

pub wrote_new : {s : Session} {l q : List ℕ} {a : After} {ts : List Taken} → Wrote s l q a ts → new_in s a ≡ ts
wrote_new {a = a} w = w.new a.list a.pool refl refl

pub grows_none : (s : Session) (l q : List ℕ) (answer : Answer Refusal)
    → Grows s l q (record { turn = record { answer = answer; session = s }; list = l; pool = q })
grows_none s l q answer = record { tokens = omega arith; bytes = omega arith; list = refl; pool = refl }

pub wrote_none : (s : Session) (l q : List ℕ) (answer : Answer Refusal)
    → Wrote s l q (record { turn = record { answer = answer; session = s }; list = l; pool = q }) []
unfolding taken_in
wrote_none s l q answer =
    record {
      grows = grows_none s l q answer;
      new = λ l' q' x y. let none : s.tokens - s.tokens ≡ 0 = omega arith in rw none;
    }

-- lists that are the same up to n are so up to m
pub take_less : (m n : ℕ) (l l' : List ℕ) → m ≤ n → take n l ≡ take n l' → take m l ≡ take m l'
take_less m n l l' h e = sym (take-take m n l h) ∙ ap (take m) e ∙ take-take m n l' h

pub grows_both : {s : Session} {l q : List ℕ} {a b : After} → Grows s l q a
    → Grows a.turn.session a.list a.pool b → Grows s l q b
grows_both {s} {l} {q} {a} {b} v w =
    let marks : s.tokens * 8 ≤ a.turn.session.tokens * 8 = omega (arith, v.tokens) in
    record {
      tokens = omega (arith, v.tokens, w.tokens);
      bytes = omega (arith, v.bytes, w.bytes);
      list = take_less (s.tokens * 8) (a.turn.session.tokens * 8) b.list a.list marks w.list ∙ v.list;
      pool = take_less s.bytes a.turn.session.bytes b.pool a.pool v.bytes w.pool ∙ v.pool;
    }

pub wrote_both : {s : Session} {l q : List ℕ} {a b : After} {ts us : List Taken} → Wrote s l q a ts
    → Wrote a.turn.session a.list a.pool b us → Wrote s l q b (ts ++ us)
wrote_both {s} {l} {q} {a} {b} {ts} {us} v w =
    let k = s.tokens in
    let m = a.turn.session.tokens in
    let n = b.turn.session.tokens in
    let g = v.grows in
    let h = w.grows in
    record {
      grows = grows_both g h;
      new = λ l' q' x y.
          let sum : n - k ≡ (m - k) + (n - m) = omega (arith, g.tokens, h.tokens) in
          let seam : k * 8 + (m - k) * 8 ≡ m * 8 = omega (arith, g.tokens) in
          let first = v.new l' q' (take_less (m * 8) (n * 8) l' b.list (omega (arith, h.tokens)) x ∙ h.list)
          (take_less a.turn.session.bytes b.turn.session.bytes q' b.pool h.bytes y ∙ h.pool) in
          let parts = taken_in_sum (m - k) (n - m) (drop (k * 8) l') q' in
          rw (sum, parts, drop-drop ((m - k) * 8) (k * 8) l', seam, first, w.new l' q' x y);
    }

module _ (src : List ℕ) (s : Session) (l q : List ℕ) where
  pub written_grows : (pieces : List Piece) (after : ℕ) (change : Change) (finished : Bool) → room src s l q pieces ≡ Ok tt
      → Grows s l q (written src s l q pieces after change finished)
  written_grows pieces after change finished e =
      let fits = room_facts (length l) (length q) s.tokens s.bytes (length pieces) (length (values pieces)) e in
      let put-so = put_laid src after pieces (mark_of s) (record { list = l; pool = q }) fits.0 fits.1 in
      record {
        tokens = omega arith;
        bytes = omega arith;
        list = rw put-so.0 (laid_front l (s.tokens * 8) _ (omega (arith, fits.0)));
        pool = rw put-so.1 (laid_front q s.bytes _ (omega (arith, fits.1)));
      }

  wrote_pieces : (pieces : List Piece) (after : ℕ) (change : Change) (finished : Bool) → room src s l q pieces ≡ Ok tt
      → Wrote s l q (written src s l q pieces after change finished) (takens src after (span_of s) pieces)
  wrote_pieces pieces after change finished e =
      let fits = room_facts (length l) (length q) s.tokens s.bytes (length pieces) (length (values pieces)) e in
      let put-so = put_laid src after pieces (mark_of s) (record { list = l; pool = q }) fits.0 fits.1 in
      let m = s.tokens * 8 in
      let rs = records src after (mark_of s) pieces in
      let vs = values pieces in
      let size = records_length src after (mark_of s) pieces in
      let count : s.tokens + length pieces - s.tokens ≡ length pieces = omega arith in
      record {
        grows = written_grows pieces after change finished e;
        new = λ l' q' x y.
            let list = laid_again l l' m ((s.tokens + length pieces) * 8) rs (omega (arith, fits.0))
            (omega (arith, size)) (rw put-so.0 at x) in
            let pool = laid_again q q' s.bytes (s.bytes + length vs) vs (omega (arith, fits.1)) refl
            (rw put-so.1 at y) in
            rw (count, list) (records_taken src after (mark_of s) pieces _ q' _ pool);
      }

-- ---- what an outcome gives

-- from s, whose marks are 0
abbrev pub handed_of : List ℕ → Session → Outcome → Handed
handed_of src s (Outcome.Told pieces after change finished) = record {
  tokens = takens src after (span_of s) pieces;
  answer = answer_of finished;
  session = changed s (span_at src (span_of s) after) 0 0 change;
}
handed_of src s (Outcome.Refused refusal place) =
    record { tokens = []; answer = Answer.Refused refusal (span_at src (span_of s) place); session = s }
handed_of src s Outcome.Wait = record { tokens = []; answer = Answer.Refused wait (span_of s); session = s }

-- a has written, answered and left what is handed
pub record Hands (s : Session) (l q : List ℕ) (a : After) (h : Handed) : Type 0 where
  pub wrote : Wrote s l q a h.tokens
  pub answer : a.turn.answer ≡ h.answer
  pub session : emptied a.turn.session ≡ h.session

-- it is what a host has
pub hands_taking : {s : Session} {l q : List ℕ} {a : After} {h : Handed} → Hands s l q a h → taking s a ≡ h
hands_taking x = rw (wrote_new x.wrote, x.answer, x.session)

full_lacks : (refusal : Refusal) (span : Span) → is_among refusal (list_full ∷ pool_full ∷ []) ≡ true
    → lacks_room (Answer.Refused refusal span) ≡ true
unfolding lacks_room every
full_lacks refusal span e = among_every (λ r. is_same r list_full || is_same r pool_full) (list_full ∷ pool_full ∷ []) refl refusal e

module _ (src : List ℕ) (s : Session) (l q : List ℕ) where
  pub settled_hands : (o : Outcome) → lacks_room (settled src s l q o).turn.answer ≡ false
      → Hands s l q (settled src s l q o) (handed_of src (emptied s) o)
  unfolding reached frames_after depth_after
  settled_hands (Outcome.Told pieces after change finished) =
      let h = handed_of src (emptied s) (Outcome.Told pieces after change finished) in
      roomy_cases
      (λ (r : Reached). lacks_room (reaching s r).turn.answer ≡ false → Hands s l q (reaching s r) h)
      (room src s l q pieces) _ _ _
      (λ e f.
      record {
        wrote = wrote_pieces src s l q pieces after change finished e;
        answer = refl;
        session = refl;
      })
      (λ refusal e f.
      let full = room_among (length l) (length q) s.tokens s.bytes (length pieces) (length (values pieces)) refusal e in
      absurd (false≢true (sym f ∙ full_lacks refusal (span_of s) full)))
  settled_hands (Outcome.Refused refusal place) =
      λ f. record { wrote = wrote_none s l q _; answer = refl; session = refl }
  settled_hands Outcome.Wait = λ f. record { wrote = wrote_none s l q _; answer = refl; session = refl }

-- the answer is no refusal
abbrev pub Answered : Answer Refusal → Type 0
Answered Answer.Done = Unit {0}
Answered Answer.Finished = Unit {0}
Answered (Answer.Refused refusal span) = ⊥

pub answered_room : (a : Answer Refusal) → Answered a → lacks_room a ≡ false
unfolding lacks_room
answered_room Answer.Done r = refl
answered_room Answer.Finished r = refl
answered_room (Answer.Refused refusal span) r = absurd r

module _ (call : Call) (src : List ℕ) (end : Bool) (s : Session) (l q : List ℕ) where
  abbrev outcome : Outcome
  outcome = call_outcome call src end s

  answered_taken : Answered (called call src end s l q).turn.answer
      → new_in s (called call src end s l q) ≡ (handed_of src (emptied s) outcome).tokens
  answered_taken =
      called_cases call src end s l q
      (λ (a : After). Answered a.turn.answer → new_in s a ≡ (handed_of src (emptied s) outcome).tokens)
      (λ h r. wrote_new (settled_hands src s l q outcome (answered_room _ r)).wrote) (λ refusal e r. absurd r)

  pub call_taken : (pieces : List Piece) (after : ℕ) (change : Change) (finished : Bool)
      → call_outcome call src end s ≡ Outcome.Told pieces after change finished
      → Answered (called call src end s l q).turn.answer
      → new_in s (called call src end s l q) ≡ takens src after (span_of s) pieces
  call_taken pieces after change finished e r =
      answered_taken r ∙ ap (λ (o : Outcome). (handed_of src (emptied s) o).tokens) e
