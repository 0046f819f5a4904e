-- Demand 3 for outcomes: what each mode has to show, and what comes of it. Assumes nothing.
--   closed          an outcome where no frame may be entered; the limit of 64 frames leaves apart what is apart so
--   Splits          two continuations get outcomes that are apart so
--   Demands         what is told stays; what is not has two continuations; with the end announced all is told
--   Answers         the same at one part, so that a choice goes way by way
--   limited_waits   a mode's demand 3 at each depth, with the limit of 64 frames
--   waits_along     demand 3 of the rest of a text is demand 3 of the text
use Rattle.std.specs.Prelude.{if◌then◌else◌}
use Rattle.byte.specs.declared.Refusal.{Refusal}
use mathlib.Core.Path.{◌≡◌, refl, sym, ap, ◌∙◌}
use mathlib.Core.Bool.{Bool, true, false}
use mathlib.Core.List.{List, [], ◌∷◌, ◌++◌, append-nil}
use Prim.Native.Nat.{ℕ}
use lib.Dec.{ltb}
use Rattle.byte.specs.Words.{every}
use Rattle.byte.specs.Demand.{is_byte, Apart, Waits}
use Rattle.byte.specs.Refusals.{stack_full}
use Rattle.byte.proofs.Demand.{apart_by, waits}
use Rattle.unit.proofs.Stays.{Stays, clash}
use Rattle.outcome.specs.declared.Change.{Change}
use Rattle.outcome.specs.Outcomes.{Piece, Outcome, limited}

-- ---- any reading

module _ {A : Type 0} (wait : A) (more whole : List ℕ → A) where
  pub waits_along : (more' whole' : List ℕ → A) (xs part : List ℕ) → more' part ≡ more xs
      → ((rest : List ℕ) → whole' (part ++ rest) ≡ whole (xs ++ rest)) → Waits wait more whole xs → Waits wait more' whole' part
  waits_along more' whole' xs part same along w =
      record {
        exactly = (
          λ k. apart_by whole whole' xs part (λ one two e. sym (along one) ∙ e ∙ along two) (w.exactly.0 (sym same ∙ k)),
          λ x. same ∙ w.exactly.1 (apart_by whole' whole part xs (λ one two e. along one ∙ e ∙ sym (along two)) x),
        );
        settled = λ k rest. along rest ∙ w.settled (λ z. k (same ∙ z)) rest ∙ sym same;
      }

-- ---- outcomes

-- each frame that is entered is the 65th, refused at p
abbrev pub closed : ℕ → Outcome → Outcome
closed p o = limited 64 p o

closed_limited : (depth p : ℕ) (o : Outcome) → closed p (limited depth p o) ≡ closed p o
unfolding limited
closed_limited depth p (Outcome.Told pieces after (Change.Enter f) finished) = go (ltb depth 64)
  where
    go : (t : Bool)
        → closed p (if t then Outcome.Told pieces after (Change.Enter f) finished else Outcome.Refused stack_full p)
        ≡ Outcome.Refused stack_full p
    go true = refl
    go false = refl
closed_limited depth p (Outcome.Told pieces after Change.Keep finished) = refl
closed_limited depth p (Outcome.Told pieces after (Change.Swap f) finished) = refl
closed_limited depth p (Outcome.Told pieces after Change.Leave finished) = refl
closed_limited depth p (Outcome.Refused refusal place) = refl
closed_limited depth p Outcome.Wait = refl

pub limited_wait : (depth p : ℕ) (o : Outcome) → limited depth p o ≡ Outcome.Wait → o ≡ Outcome.Wait
unfolding limited
limited_wait depth p (Outcome.Told pieces after (Change.Enter f) finished) e = go (ltb depth 64) e
  where
    go : (t : Bool)
        → (if t then Outcome.Told pieces after (Change.Enter f) finished else Outcome.Refused stack_full p) ≡ Outcome.Wait
        → Outcome.Told pieces after (Change.Enter f) finished ≡ Outcome.Wait
    go true z = z
    go false z = clash cc
limited_wait depth p (Outcome.Told pieces after Change.Keep finished) e = clash cc
limited_wait depth p (Outcome.Told pieces after (Change.Swap f) finished) e = clash cc
limited_wait depth p (Outcome.Told pieces after Change.Leave finished) e = clash cc
limited_wait depth p (Outcome.Refused refusal place) e = clash cc
limited_wait depth p Outcome.Wait e = refl

pub told_waits : {A : Type 0} {pieces : List Piece} {after : ℕ} {change : Change} {finished : Bool}
    → Outcome.Told pieces after change finished ≡ Outcome.Wait → A
told_waits e = clash cc

pub refused_waits : {A : Type 0} {refusal : Refusal} {place : ℕ} → Outcome.Refused refusal place ≡ Outcome.Wait → A
refused_waits e = clash cc

-- outcomes that are not the same
pub pieces_apart : {pieces : List Piece} {one : Piece} {after after' : ℕ} {change change' : Change} {finished finished' : Bool}
    → Outcome.Told [] after change finished ≡ Outcome.Told (one ∷ pieces) after' change' finished' → ⊥
pieces_apart e = clash cc

pub after_apart : {pieces pieces' : List Piece} {after after' : ℕ} {change change' : Change} {finished finished' : Bool}
    → (after ≡ after' → ⊥)
    → Outcome.Told pieces after change finished ≡ Outcome.Told pieces' after' change' finished' → ⊥
after_apart n e = n cc

pub refused_apart : {pieces : List Piece} {refusal : Refusal} {after place : ℕ} {change : Change} {finished : Bool}
    → Outcome.Refused refusal place ≡ Outcome.Told pieces after change finished → ⊥
refused_apart e = clash cc

is-wait : (o : Outcome) → Dec (o ≡ Outcome.Wait)
is-wait (Outcome.Told pieces after change finished) = no told_waits
is-wait (Outcome.Refused refusal place) = no refused_waits
is-wait Outcome.Wait = yes refl

-- two continuations, of which f tells
abbrev pub Splits : ℕ → (List ℕ → Outcome) → Type 0
Splits p f = Apart (λ c. closed p (f c)) []

-- the end, or these bytes
pub splits : (p : ℕ) (f : List ℕ → Outcome) (more : List ℕ) (o o' : Outcome) → every is_byte more ≡ true → f [] ≡ o → f more ≡ o'
    → (closed p o ≡ closed p o' → ⊥) → Splits p f
unfolding every
splits p f more o o' b now later other =
    record {
      one = [];
      two = more;
      one_bytes = refl;
      two_bytes = b;
      apart = λ e. other (sym (ap (closed p) now) ∙ e ∙ ap (closed p) later);
    }

pub record Demands (p : ℕ) (mode : Bool → List ℕ → Outcome) : Type 0 where
  pub stays : (part rest : List ℕ) → Stays Outcome.Wait (mode false part) (mode true (part ++ rest))
  pub splits : (part : List ℕ) → mode false part ≡ Outcome.Wait → Splits p (λ c. mode true (part ++ c))
  pub told : (xs : List ℕ) → mode true xs ≡ Outcome.Wait → ⊥

-- the same at one part: o with more announced, beside what each continuation gets
pub record Answers (p : ℕ) (o : Outcome) (f : List ℕ → Outcome) : Type 0 where
  pub stays : (rest : List ℕ) → Stays Outcome.Wait o (f rest)
  pub splits : o ≡ Outcome.Wait → Splits p f
  pub told : f [] ≡ Outcome.Wait → ⊥

module _ (p : ℕ) where
  pub if_answers : {o u : Outcome} {f g : List ℕ → Outcome} (t : Bool) → Answers p o f → Answers p u g
      → Answers p (if t then o else u) (λ c. if t then f c else g c)
  if_answers true x y = x
  if_answers false x y = y

  -- what is told at once
  pub settled : (o : Outcome) → (o ≡ Outcome.Wait → ⊥) → Answers p o (λ c. o)
  settled o h = record { stays = λ rest k. refl; splits = λ e. absurd (h e); told = h }

  -- what is not told before a byte comes
  pub unseen : (f : List ℕ → Outcome) → Splits p f → (f [] ≡ Outcome.Wait → ⊥) → Answers p Outcome.Wait f
  unseen f x h = record { stays = λ rest k. absurd (k refl); splits = λ e. x; told = h }

  pub demands_answers : (mode : Bool → List ℕ → Outcome) → Demands p mode → (xs : List ℕ)
      → Answers p (mode false xs) (λ c. mode true (xs ++ c))
  demands_answers mode d xs =
      record { stays = λ rest. d.stays xs rest; splits = d.splits xs; told = d.told (xs ++ []) }

  pub answers_demands : (mode : Bool → List ℕ → Outcome)
      → ((xs : List ℕ) → Answers p (mode false xs) (λ c. mode true (xs ++ c))) → Demands p mode
  answers_demands mode a =
      record {
        stays = λ part rest. (a part).stays rest;
        splits = λ part. (a part).splits;
        told = λ xs e. (a xs).told (ap (mode true) (append-nil xs) ∙ e);
      }

module _ (p : ℕ) (mode : Bool → List ℕ → Outcome) (d : Demands p mode) (depth : ℕ) where
  pub limited_stays : (part rest : List ℕ)
      → Stays Outcome.Wait (limited depth p (mode false part)) (limited depth p (mode true (part ++ rest)))
  unfolding limited
  limited_stays part rest k = ap (limited depth p) (d.stays part rest (λ z. k (ap (limited depth p) z)))

  limited_splits : (part : List ℕ) → limited depth p (mode false part) ≡ Outcome.Wait
      → Apart (λ xs. limited depth p (mode true xs)) part
  limited_splits part k =
      apart_by (λ c. closed p (mode true (part ++ c))) (λ xs. limited depth p (mode true xs)) [] part
      (λ one two e.
      sym (closed_limited depth p (mode true (part ++ one))) ∙ ap (closed p) e
      ∙ closed_limited depth p (mode true (part ++ two)))
      (d.splits part (limited_wait depth p _ k))

  pub limited_waits : (part : List ℕ)
      → Waits Outcome.Wait (λ xs. limited depth p (mode false xs)) (λ xs. limited depth p (mode true xs)) part
  limited_waits part =
      waits Outcome.Wait _ _ part (is-wait _) (λ k rest. limited_stays part rest k) (limited_splits part)

  pub limited_told : (xs : List ℕ) → limited depth p (mode true xs) ≡ Outcome.Wait → ⊥
  limited_told xs k = d.told xs (limited_wait depth p _ k)
