-- Demand 3 for the six text readings:
--   text_waits         Labelled m label → Waits Wait (text_at m label false n) (text_at m label true n) part
--   text_never_waits   with the end announced no reading waits
-- From Stays (what is told stays) and Opens (what is not told has two continuations). Two readings are told apart by their
-- endings, the text left out: so neither bytes before a text nor a heredoc's lost break matter. Assumes nothing.
--   text_endings   a wait has two continuations apart by their endings, where each frame that is entered is the 65th,
--                  too
use Rattle.std.specs.Prelude.{if◌then◌else◌}
use Rattle.byte.specs.declared.Refusal.{Refusal}
use mathlib.Core.Path.{◌≡◌, refl, ap, sym, ◌∙◌}
use mathlib.Core.Bool.{Bool, true, false}
use mathlib.Core.List.{List, [], ◌∷◌, ◌++◌, append-nil}
use Prim.Native.Nat.{ℕ, zero, suc, ◌+◌, ◌-◌}
use native.Mathlib.Omega.{arith}
use lib.ListN.{length, length-append}
use Rattle.byte.specs.Words.{every}
use Rattle.byte.specs.Demand.{Apart, Waits}
use Rattle.byte.specs.Refusals.{stack_full}
use Rattle.byte.proofs.Demand.{apart_by, waits}
use Rattle.unit.specs.declared.Follow.{Follow}
use Rattle.unit.specs.declared.Mode.{Mode}
use Rattle.unit.specs.declared.Stop.{Stop}
use Rattle.unit.specs.declared.TextUnit.{TextUnit}
use Rattle.unit.specs.Digits.{utf8}
use Rattle.unit.specs.Labels.{Labelled}
use Rattle.unit.specs.Units.{unit_at}
use Rattle.unit.specs.Readings.{Reading, Text, Refused, Wait, onto, taken, after_of, collected, finished, text_at}
use Rattle.unit.proofs.Stays.{Stays, clash, unit_stays}
use Rattle.unit.proofs.Openings.{Plainly, Quiet, one_more, one_more_quiet, Falls, byte, fault, falls_at, Final, ends}
use Rattle.unit.proofs.Openings.{crooked, Opening, falls, faults, splits, closes, byte_told, point_told, stop_told}
use Rattle.unit.proofs.Openings.{fault_told}
use Rattle.unit.proofs.Opens.{unit_waits}
use Rattle.unit.proofs.Stands.{enters}

-- ---- what is told of a reading stays

onto_wait : (vs : List ℕ) (r : Reading) → r ≡ Wait → onto vs r ≡ Wait
unfolding onto
onto_wait vs r e = rw e

wait_onto : (vs : List ℕ) (r : Reading) → onto vs r ≡ Wait → r ≡ Wait
unfolding onto
wait_onto vs (Text text stop from after) e = clash cc
wait_onto vs (Refused refusal place) e = e
wait_onto vs Wait e = refl

taken_stays : (n : ℕ) (u u' : TextUnit) (r r' : ℕ → Reading) → Stays TextUnit.Undecided u u'
    → ((k : ℕ) → Stays Wait (r k) (r' k))
    → Stays Wait (taken u (r (after_of u - suc n))) (taken u' (r' (after_of u' - suc n)))
unfolding taken after_of
taken_stays n (TextUnit.Byte v a) u' r r' s ih k =
    rw (s byte_told) (ap (onto (v ∷ [])) (ih (a - suc n) (λ z. k (onto_wait (v ∷ []) _ z))))
taken_stays n (TextUnit.Point c a) u' r r' s ih k =
    rw (s point_told) (ap (onto (utf8 c)) (ih (a - suc n) (λ z. k (onto_wait (utf8 c) _ z))))
taken_stays n (TextUnit.Ends stop from after) u' r r' s ih k = rw (s stop_told)
taken_stays n (TextUnit.Fault refusal place) u' r r' s ih k = rw (s fault_told)
taken_stays n TextUnit.Undecided u' r r' s ih k = absurd (k refl)

module _ (m : Mode) (label : List ℕ) (h : Labelled m label) where
  pub collected_stays : (skip n : ℕ) (xs more : List ℕ)
      → Stays Wait (collected m label false skip n xs) (collected m label true skip n (xs ++ more))
  unfolding collected
  collected_stays skip n [] more k = absurd (k refl)
  collected_stays (suc j) n (b ∷ xs) more k = collected_stays j (suc n) xs more k
  collected_stays zero n (b ∷ xs) more k =
      taken_stays n (unit_at m label false n b xs) (unit_at m label true n b (xs ++ more))
      (λ j. collected m label false j (suc n) xs)
      (λ j. collected m label true j (suc n) (xs ++ more))
      (unit_stays m label h n b xs more)
      (λ j. collected_stays j (suc n) xs more)
      k

-- ---- a wait has two continuations apart

-- what a reading comes to where no frame may be entered: a refusal and its place, be it of a 65th frame, at q; of a text nothing else
abbrev pub ending : ℕ → Reading → Reading
ending q (Text text stop from after) = if enters stop then Refused stack_full q else Text [] Stop.Quote 0 0
ending q (Refused refusal place) = Refused refusal place
ending q Wait = Wait

ending_onto : (q : ℕ) (vs : List ℕ) (r : Reading) → ending q (onto vs r) ≡ ending q r
unfolding onto
ending_onto q vs (Text text stop from after) = refl
ending_onto q vs (Refused refusal place) = refl
ending_onto q vs Wait = refl

ending_finished : (q : ℕ) (m : Mode) (r : Reading) → ending q (finished m r) ≡ ending q r
unfolding finished
ending_finished q m (Text text stop from after) = refl
ending_finished q m (Refused refusal place) = refl
ending_finished q m Wait = refl

-- a byte that stands for itself
pub unit-plain : (m : Mode) (label : List ℕ) (end : Bool) (n b : ℕ) (rest : List ℕ) → Plainly b
    → unit_at m label end n b rest ≡ TextUnit.Byte b (suc n)
unfolding unit_at
unit-plain Mode.Single label end n b rest p = rw (p.apostrophe, p.slash)
unit-plain (Mode.Double octals) label end n b rest p = rw (p.quote, p.slash, p.dollar, p.brace)
unit-plain (Mode.DoubleQuote octals) label end n b rest p = rw (p.quote, p.slash, p.dollar, p.brace)
unit-plain Mode.ShellExec label end n b rest p = rw (p.tick, p.dollar, p.brace)
unit-plain (Mode.Heredoc octals) label end n b rest p = rw (p.lf, p.slash, p.dollar, p.brace)
unit-plain Mode.Nowdoc label end n b rest p = rw p.lf

-- a refusal at q
record Lost (r : Reading) (q : ℕ) : Type 0 where
  refusal : Refusal
  refused : r ≡ Refused refusal q

lost_apart : (p : ℕ) (r r' : Reading) (q q' : ℕ) → Lost r q → Lost r' q' → (q ≡ q' → ⊥) → ending p r ≡ ending p r' → ⊥
lost_apart p r r' q q' x y n e =
    let z : Refused x.refusal q ≡ Refused y.refusal q' = sym (ap (ending p) x.refused) ∙ e ∙ ap (ending p) y.refused in
    n cc

taken_falls : (ys : List ℕ) (u : TextUnit) (r : Reading) (q : ℕ) → Falls ys u q → (Quiet ys → r ≡ Refused Refusal.UnexpectedEndOfFile q)
    → Lost (taken u r) q
unfolding taken onto
taken_falls ys u r q (byte {value = v} k) e = record { refusal = Refusal.UnexpectedEndOfFile; refused = ap (onto (v ∷ [])) (e k) }
taken_falls ys u r q (fault {refusal = i}) e = record { refusal = i; refused = refl }

final_apart : (p : ℕ) (u : TextUnit) (r : Reading) (q : ℕ) → Final u → ending p (taken u r) ≡ Refused Refusal.UnexpectedEndOfFile q → ⊥
unfolding taken
final_apart p u r q (ends {stop = s} {from = f} {after = a}) e = go (enters s) e
  where
    go : (t : Bool) → (if t then Refused stack_full p else Text [] Stop.Quote 0 0) ≡ Refused Refusal.UnexpectedEndOfFile q → ⊥
    go true z =
        let y : ◌≡◌ {A = ℕ} 9 1 = cc in
        omega arith
    go false z = clash cc
final_apart p u r q (crooked {place = k}) e =
    let z : Refused Refusal.InvalidDocIndentation k ≡ Refused Refusal.UnexpectedEndOfFile q = e in
    let y : ◌≡◌ {A = ℕ} 4 1 = cc in
    omega arith

follows_apart : (p : ℕ) → Text [] Stop.Quote 0 0 ≡ Refused stack_full p → ⊥
follows_apart p e = clash cc

-- a 65th frame is refused at p
module _ (m : Mode) (label : List ℕ) (p : ℕ) where
  -- the ending of what is read from n on, where so many bytes are to be passed
  abbrev ending_at : ℕ → ℕ → List ℕ → Reading
  ending_at skip n ys = ending p (collected m label true skip n ys)

  quiet_lost : (skip n : ℕ) (ys : List ℕ) → Quiet ys → collected m label true skip n ys ≡ Refused Refusal.UnexpectedEndOfFile (n + length ys)
  unfolding collected taken onto after_of
  quiet_lost skip n [] k = ap (Refused Refusal.UnexpectedEndOfFile) (omega arith)
  quiet_lost (suc j) n (b ∷ ys) k = quiet_lost j (suc n) ys k.1 ∙ ap (Refused Refusal.UnexpectedEndOfFile) (omega arith)
  quiet_lost zero n (b ∷ ys) k =
      rw (unit-plain m label true n b ys k.0)
      (ap (onto (b ∷ [])) (quiet_lost (suc n - suc n) (suc n) ys k.1) ∙ ap (Refused Refusal.UnexpectedEndOfFile) (omega arith))

  falls_lost : (n b : ℕ) (ys : List ℕ) → Falls ys (unit_at m label true n b ys) (suc n + length ys)
      → Lost (collected m label true 0 n (b ∷ ys)) (suc n + length ys)
  unfolding collected
  falls_lost n b ys f = taken_falls ys _ _ _ f (quiet_lost _ (suc n) ys)

  byte_lost : (n b : ℕ) (ys : List ℕ) {value after : ℕ} → unit_at m label true n b ys ≡ TextUnit.Byte value after → Quiet ys
      → collected m label true 0 n (b ∷ ys) ≡ Refused Refusal.UnexpectedEndOfFile (suc n + length ys)
  unfolding collected taken onto after_of
  byte_lost n b ys {value} {after} e k = rw e (ap (onto (value ∷ [])) (quiet_lost (after - suc n) (suc n) ys k))

  stop_read : (n b : ℕ) (ys : List ℕ) (stop : Stop) (from after : ℕ)
      → unit_at m label true n b ys ≡ TextUnit.Ends stop from after
      → collected m label true 0 n (b ∷ ys) ≡ Text [] stop from after
  unfolding collected taken
  stop_read n b ys stop from after e = rw e

  falls_apart : (n b : ℕ) (xs : List ℕ) → Falls xs (unit_at m label true n b xs) (suc n + length xs)
      → Falls (xs ++ one_more) (unit_at m label true n b (xs ++ one_more)) (suc n + suc (length xs))
      → Apart (ending_at 0 n) (b ∷ xs)
  unfolding every
  falls_apart n b xs x y =
      record {
        one = [];
        two = one_more;
        one_bytes = refl;
        two_bytes = refl;
        apart =
            lost_apart p _ _ _ _ (falls_lost n b (xs ++ []) (rw append-nil x))
            (falls_lost n b (xs ++ one_more) (falls_at (omega (arith, length-append xs one_more)) y))
            (λ e. omega (arith, length-append xs one_more, ap length (append-nil xs)));
      }

  opening_apart : (n b : ℕ) (xs : List ℕ) → Opening (suc n) xs (unit_at m label true n b) → Apart (ending_at 0 n) (b ∷ xs)
  unfolding collected every
  opening_apart n b xs (falls x y) = falls_apart n b xs x y
  opening_apart n b xs (faults x) = falls_apart n b xs (rw x.now fault) (rw x.later fault)
  opening_apart n b xs (splits x) =
      record {
        one = [];
        two = x.more;
        one_bytes = refl;
        two_bytes = x.more_bytes;
        apart = λ e.
            let now = stop_read n b (xs ++ []) (Stop.Variable Follow.Other) x.from x.after (rw append-nil x.now) in
            let later = stop_read n b (xs ++ x.more) (Stop.Variable Follow.Property) x.from x.after x.later in
            follows_apart p (sym (ap (ending p) now) ∙ e ∙ ap (ending p) later);
      }
  opening_apart n b xs (closes {value} {after} more k q x y) =
      record {
        one = [];
        two = more;
        one_bytes = refl;
        two_bytes = k;
        apart = λ e.
            let r = byte_lost n b (xs ++ []) {value = value} {after = after} (rw append-nil x) (rw append-nil q) in
            final_apart p _ _ _ y (sym e ∙ ap (ending p) r);
      }

  -- bytes of text before the rest
  onto_apart : (n b : ℕ) (xs vs : List ℕ) (k : ℕ)
      → ((more : List ℕ)
      → collected m label true 0 n (b ∷ (xs ++ more)) ≡ onto vs (collected m label true k (suc n) (xs ++ more)))
      → Apart (ending_at k (suc n)) xs → Apart (ending_at 0 n) (b ∷ xs)
  onto_apart n b xs vs k s x =
      apart_by (ending_at k (suc n)) (ending_at 0 n) xs (b ∷ xs)
      (λ one two e. sym (ap (ending p) (s one) ∙ ending_onto p vs _) ∙ e ∙ ap (ending p) (s two) ∙ ending_onto p vs _)
      x

  end_apart : (skip n : ℕ) → Apart (ending_at skip n) []
  unfolding every
  end_apart skip n =
      record {
        one = [];
        two = one_more;
        one_bytes = refl;
        two_bytes = refl;
        apart =
            lost_apart p _ _ _ _ (record {
              refusal =
                  Refusal.UnexpectedEndOfFile;
              refused =
                  quiet_lost skip n [] tt;
            }) (record { refusal = Refusal.UnexpectedEndOfFile; refused = quiet_lost skip n one_more one_more_quiet })
            (λ e. omega arith);
      }

module _ (m : Mode) (label : List ℕ) (h : Labelled m label) (p : ℕ) where
  collected_waits : (skip n : ℕ) (xs : List ℕ) → collected m label false skip n xs ≡ Wait
      → Apart (ending_at m label p skip n) xs
  unfolding collected taken after_of
  collected_waits skip n [] k = end_apart m label p skip n
  collected_waits (suc j) n (b ∷ xs) k =
      let x = collected_waits j (suc n) xs k in
      record { one = x.one; two = x.two; one_bytes = x.one_bytes; two_bytes = x.two_bytes; apart = x.apart }
  collected_waits zero n (b ∷ xs) k =
      go (unit_at m label false n b xs) (λ more. unit_stays m label h n b xs more) (unit_waits m label h n b xs)
      (λ j. collected_waits j (suc n) xs)
      k
    where
      go : (u : TextUnit) → ((more : List ℕ) → Stays TextUnit.Undecided u (unit_at m label true n b (xs ++ more)))
          → (u ≡ TextUnit.Undecided → Opening (suc n) xs (unit_at m label true n b))
          → ((j : ℕ) → collected m label false j (suc n) xs ≡ Wait → Apart (ending_at m label p j (suc n)) xs)
          → taken u (collected m label false (after_of u - suc n) (suc n) xs) ≡ Wait → Apart (ending_at m label p 0 n) (b ∷ xs)
      go (TextUnit.Byte v a) s o ih z =
          onto_apart m label p n b xs (v ∷ []) (a - suc n) (λ more. rw (s more byte_told))
          (ih (a - suc n) (wait_onto (v ∷ []) _ z))
      go (TextUnit.Point c a) s o ih z =
          onto_apart m label p n b xs (utf8 c) (a - suc n) (λ more. rw (s more point_told))
          (ih (a - suc n) (wait_onto (utf8 c) _ z))
      go (TextUnit.Ends stop from after) s o ih z = clash cc
      go (TextUnit.Fault refusal place) s o ih z = clash cc
      go TextUnit.Undecided s o ih z = opening_apart m label p n b xs (o refl)

is-wait : (r : Reading) → Dec (r ≡ Wait)
is-wait (Text text stop from after) = no (λ (z : Text text stop from after ≡ Wait). clash cc)
is-wait (Refused refusal place) = no (λ (z : Refused refusal place ≡ Wait). clash cc)
is-wait Wait = yes refl

finished_wait : (m : Mode) (r : Reading) → finished m r ≡ Wait → r ≡ Wait
unfolding finished
finished_wait m (Text text stop from after) e = clash cc
finished_wait m (Refused refusal place) e = e
finished_wait m Wait e = refl

module _ (m : Mode) (label : List ℕ) (h : Labelled m label) (n : ℕ) where
  pub text_stays : (part : List ℕ) → (text_at m label false n part ≡ Wait → ⊥) → (rest : List ℕ)
      → text_at m label true n (part ++ rest) ≡ text_at m label false n part
  unfolding text_at finished
  text_stays part k rest = ap (finished m) (collected_stays m label h 0 n part rest (λ z. k (rw z)))

  -- apart by their endings
  pub text_endings : (p : ℕ) (part : List ℕ) → text_at m label false n part ≡ Wait
      → Apart (λ xs. ending p (text_at m label true n xs)) part
  unfolding text_at
  text_endings p part k =
      apart_by _ (λ xs. ending p (text_at m label true n xs)) part part
      (λ one two e. sym (ending_finished p m _) ∙ e ∙ ending_finished p m _)
      (collected_waits m label h p 0 n part (finished_wait m _ k))

  text_apart : (part : List ℕ) → text_at m label false n part ≡ Wait → Apart (text_at m label true n) part
  text_apart part k =
      apart_by (λ xs. ending n (text_at m label true n xs)) (text_at m label true n) part part (λ one two e. ap (ending n) e)
      (text_endings n part k)

  -- demand 3, from the position n on
  pub text_waits : (part : List ℕ) → Waits Wait (text_at m label false n) (text_at m label true n) part
  text_waits part = waits Wait _ _ part (is-wait _) (text_stays part) (text_apart part)

-- ---- with the end announced nothing waits

falls_told : (ys : List ℕ) (u : TextUnit) (q : ℕ) → Falls ys u q → u ≡ TextUnit.Undecided → ⊥
falls_told ys u q (byte k) e = byte_told e
falls_told ys u q fault e = fault_told e

opening_told : (p : ℕ) (xs : List ℕ) (f : List ℕ → TextUnit) → Opening p xs f → f xs ≡ TextUnit.Undecided → ⊥
opening_told p xs f (falls x y) e = falls_told xs (f xs) _ x e
opening_told p xs f (faults x) e = fault_told (sym x.now ∙ e)
opening_told p xs f (splits x) e = stop_told (sym x.now ∙ e)
opening_told p xs f (closes more k q x y) e = byte_told (sym x ∙ e)

is_undecided : (u : TextUnit) → Dec (u ≡ TextUnit.Undecided)
is_undecided (TextUnit.Byte value after) = no byte_told
is_undecided (TextUnit.Point code after) = no point_told
is_undecided (TextUnit.Ends stop from after) = no stop_told
is_undecided (TextUnit.Fault refusal place) = no fault_told
is_undecided TextUnit.Undecided = yes refl

module _ (m : Mode) (label : List ℕ) (h : Labelled m label) where
  pub unit_told : (n b : ℕ) (rest : List ℕ) → unit_at m label true n b rest ≡ TextUnit.Undecided → ⊥
  unit_told n b rest k = go (is_undecided (unit_at m label false n b rest))
    where
      go : Dec (unit_at m label false n b rest ≡ TextUnit.Undecided) → ⊥
      go (yes e) = opening_told (suc n) rest (unit_at m label true n b) (unit_waits m label h n b rest e) k
      go (no e) = e (sym (rw append-nil at (unit_stays m label h n b rest [] e)) ∙ k)

  collected_never_waits : (skip n : ℕ) (xs : List ℕ) → collected m label true skip n xs ≡ Wait → ⊥
  unfolding collected taken
  collected_never_waits skip n [] k = clash cc
  collected_never_waits (suc j) n (b ∷ xs) k = collected_never_waits j (suc n) xs k
  collected_never_waits zero n (b ∷ xs) k =
      go (unit_at m label true n b xs) (unit_told n b xs) (λ j. collected_never_waits j (suc n) xs) k
    where
      go : (u : TextUnit) → (u ≡ TextUnit.Undecided → ⊥) → ((j : ℕ) → collected m label true j (suc n) xs ≡ Wait → ⊥)
          → taken u (collected m label true (after_of u - suc n) (suc n) xs) ≡ Wait → ⊥
      go (TextUnit.Byte v a) s ih z = ih _ (wait_onto (v ∷ []) _ z)
      go (TextUnit.Point c a) s ih z = ih _ (wait_onto (utf8 c) _ z)
      go (TextUnit.Ends stop from after) s ih z = clash cc
      go (TextUnit.Fault refusal place) s ih z = clash cc
      go TextUnit.Undecided s ih z = s refl

  pub text_never_waits : (n : ℕ) (xs : List ℕ) → text_at m label true n xs ≡ Wait → ⊥
  unfolding text_at
  text_never_waits n xs k = collected_never_waits 0 n xs (finished_wait m _ k)
