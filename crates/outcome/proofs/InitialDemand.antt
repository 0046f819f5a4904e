-- Demand 3 for the mode Initial: `initial_demands`, from any position on. Assumes nothing.
-- A wait's two continuations: with no tag in sight the end and one byte more, whose InlineHtml is longer; with a tag that has begun
-- the end, where it is the short one, and its letters, which make it the full one.
use mathlib.Core.Path.{◌≡◌, refl, ap, ◌∙◌}
use mathlib.Core.Bool.{Bool, true, false}
use mathlib.Core.List.{List, [], ◌∷◌, ◌++◌, append-nil}
use Prim.Native.Nat.{ℕ, suc, ◌+◌, ◌-◌, ◌≤◌}
use native.Mathlib.Omega.{arith}
use lib.Dec.{eqb}
use lib.ListN.{length, drop, length-drop, length-append}
use lib.Seq.{take-append-le, drop-append-le}
use Rattle.byte.specs.Words.{◌is◌, every, bytes}
use Rattle.byte.specs.Demand.{is_byte}
use Rattle.byte.proofs.Tests.{choice, &&-left, &&-right}
use Rattle.unit.proofs.Stays.{Stays, clash, if_stays}
use Rattle.unit.proofs.Openings.{one_more, if_waits}
use Rattle.outcome.specs.declared.OpenTagKind.{OpenTagKind}
use Rattle.outcome.specs.declared.Tag.{Tag}
use Rattle.outcome.specs.declared.Tagged.{Tagged}
use Rattle.outcome.specs.Outcomes.{Outcome, limited}
use Rattle.outcome.specs.Initials.{lower, full_tag, open_tag, tag, or_later, tagged, tag_length, inlined, initial}
use Rattle.outcome.proofs.Demand.{Splits, splits, Demands, told_waits, after_apart}

open_told : {A : Type 0} {kind : OpenTagKind} → Tag.Open kind ≡ Tag.Undecided → A
open_told e = clash cc

none_told : {A : Type 0} → Tag.None ≡ Tag.Undecided → A
none_told e = clash cc

at_told : {A : Type 0} {kind : OpenTagKind} {place : ℕ} → Tagged.At kind place ≡ Tagged.Undecided → A
at_told e = clash cc

over_told : {A : Type 0} → Tagged.Over ≡ Tagged.Undecided → A
over_told e = clash cc

-- ---- what is told of a tag stays

abbrev TagStays : Tag → Tag → Type 0
TagStays t t' = Stays Tag.Undecided t t'

full_tag_stays : (letters xs more : List ℕ) → TagStays (full_tag false letters xs) (full_tag true letters (xs ++ more))
unfolding full_tag
full_tag_stays [] xs more k = refl
full_tag_stays (a ∷ letters) [] more k = absurd (k refl)
full_tag_stays (a ∷ letters) (b ∷ xs) more k = if_stays (eqb a (lower b)) (full_tag_stays letters xs more) (λ z. refl) k

open_tag_stays : (xs more : List ℕ) → TagStays (open_tag false xs) (open_tag true (xs ++ more))
unfolding open_tag
open_tag_stays [] more k = absurd (k refl)
open_tag_stays (b ∷ xs) more k = if_stays (b is "=") (λ z. refl) (full_tag_stays (bytes "php") (b ∷ xs) more) k

tag_stays : (xs more : List ℕ) → TagStays (tag false xs) (tag true (xs ++ more))
unfolding tag
tag_stays [] more k = absurd (k refl)
tag_stays (b ∷ xs) more k = if_stays (b is "?") (open_tag_stays xs more) (λ z. refl) k

or_later_stays : (n : ℕ) (t t' : Tag) (l l' : Tagged) → TagStays t t' → Stays Tagged.Undecided l l'
    → Stays Tagged.Undecided (or_later t n l) (or_later t' n l')
unfolding or_later
or_later_stays n (Tag.Open kind) t' l l' s r k = rw (s open_told)
or_later_stays n Tag.None t' l l' s r k = rw (s none_told) (r k)
or_later_stays n Tag.Undecided t' l l' s r k = absurd (k refl)

tagged_stays : (n : ℕ) (xs more : List ℕ) → Stays Tagged.Undecided (tagged false n xs) (tagged true n (xs ++ more))
unfolding tagged
tagged_stays n [] more k = absurd (k refl)
tagged_stays n (b ∷ xs) more k =
    if_stays (b is "<") (or_later_stays n _ _ _ _ (tag_stays xs more) (tagged_stays (suc n) xs more)) (tagged_stays (suc n) xs more) k

-- ---- a tag that is told lies within the part

abbrev TagInside : ℕ → Tag → Type 0
TagInside size (Tag.Open kind) = tag_length kind ≤ size
TagInside size Tag.None = Unit {0}
TagInside size Tag.Undecided = Unit {0}

module _ (end : Bool) (size : ℕ) where
  full_tag_inside : (letters xs : List ℕ) → 2 ≤ size → 5 + length xs ≤ size + length letters → TagInside size (full_tag end letters xs)
  unfolding full_tag tag_length
  full_tag_inside [] xs h s = omega arith
  full_tag_inside (a ∷ letters) [] h s = choice (TagInside size) end _ _ (λ e. h) (λ e. tt)
  full_tag_inside (a ∷ letters) (b ∷ xs) h s =
      choice (TagInside size) (eqb a (lower b)) _ _ (λ e. full_tag_inside letters xs h (omega arith)) (λ e. h)

  open_tag_inside : (xs : List ℕ) → 2 + length xs ≤ size → TagInside size (open_tag end xs)
  unfolding open_tag tag_length bytes
  open_tag_inside [] s = choice (TagInside size) end _ _ (λ e. omega arith) (λ e. tt)
  open_tag_inside (b ∷ xs) s =
      choice (TagInside size) (b is "=") _ _ (λ e. omega arith)
      (λ e. full_tag_inside (bytes "php") (b ∷ xs) (omega arith) (omega arith))

  tag_inside : (xs : List ℕ) → 1 + length xs ≤ size → TagInside size (tag end xs)
  unfolding tag
  tag_inside [] s = choice (TagInside size) end _ _ (λ e. tt) (λ e. tt)
  tag_inside (b ∷ xs) s = choice (TagInside size) (b is "?") _ _ (λ e. open_tag_inside xs (omega arith)) (λ e. tt)

record AtInside (n hi : ℕ) (kind : OpenTagKind) (place : ℕ) : Type 0 where
  low : n ≤ place
  high : place + tag_length kind ≤ hi

-- with more announced, the text is not over
abbrev TaggedInside : ℕ → ℕ → Tagged → Type 0
TaggedInside n hi (Tagged.At kind place) = AtInside n hi kind place
TaggedInside n hi Tagged.Over = ⊥
TaggedInside n hi Tagged.Undecided = Unit {0}

inside_on : (n hi : ℕ) (t : Tagged) → TaggedInside (suc n) hi t → TaggedInside n hi t
inside_on n hi (Tagged.At kind place) x = record { low = omega (arith, x.low); high = x.high }
inside_on n hi Tagged.Over x = x
inside_on n hi Tagged.Undecided x = tt

or_later_inside : (n hi size : ℕ) (t : Tag) (later : Tagged) → n + size ≤ hi → TagInside size t → TaggedInside n hi later
    → TaggedInside n hi (or_later t n later)
unfolding or_later
or_later_inside n hi size (Tag.Open kind) later h x y = record { low = omega arith; high = omega arith }
or_later_inside n hi size Tag.None later h x y = y
or_later_inside n hi size Tag.Undecided later h x y = tt

tagged_inside : (n hi : ℕ) (xs : List ℕ) → n + length xs ≤ hi → TaggedInside n hi (tagged false n xs)
unfolding tagged
tagged_inside n hi [] h = tt
tagged_inside n hi (b ∷ xs) h =
    let later : TaggedInside n hi (tagged false (suc n) xs) =
    inside_on n hi (tagged false (suc n) xs) (tagged_inside (suc n) hi xs (omega arith)) in
    choice (TaggedInside n hi) (b is "<") _ _
    (λ e. or_later_inside n hi (1 + length xs) (tag false xs) _ (omega arith) (tag_inside false (1 + length xs) xs (omega arith)) later)
    (λ e. later)

inlined_append : (n : ℕ) (part rest : List ℕ) (t : Tagged) → TaggedInside n (n + length part) t
    → inlined n (part ++ rest) t ≡ inlined n part t
unfolding inlined
inlined_append n part rest (Tagged.At kind place) x =
    let a : place - n ≤ length part = omega (arith, x.low, x.high) in
    let b : tag_length kind ≤ length (drop (place - n) part) = omega (arith, x.low, x.high, length-drop (place - n) part) in
    rw (take-append-le (place - n) part rest a, drop-append-le (place - n) part rest a, take-append-le (tag_length kind) (drop (place - n) part) rest b)
inlined_append n part rest Tagged.Over x = absurd x
inlined_append n part rest Tagged.Undecided x = refl

-- ---- a tag that is not told has two continuations

-- the short tag, or these bytes make it the full one
record TagSplits (f : List ℕ → Tag) : Type 0 where
  more : List ℕ
  more_bytes : every is_byte more ≡ true
  now : f [] ≡ Tag.Open OpenTagKind.Short
  later : f more ≡ Tag.Open OpenTagKind.Full

-- a letter in lower case, and a byte
abbrev is_letter : ℕ → Bool
is_letter a = eqb a (lower a)

full_tag_whole : (letters : List ℕ) → every is_letter letters ≡ true → full_tag true letters letters ≡ Tag.Open OpenTagKind.Full
unfolding full_tag every
full_tag_whole [] e = refl
full_tag_whole (a ∷ letters) e =
    rw (&&-left (is_letter a) (every is_letter letters) e, full_tag_whole letters (&&-right (is_letter a) (every is_letter letters) e))

full_tag_splits : (letters xs : List ℕ) → every is_letter letters ≡ true → every is_byte letters ≡ true
    → full_tag false letters xs ≡ Tag.Undecided → TagSplits (λ c. full_tag true letters (xs ++ c))
unfolding full_tag every
full_tag_splits [] xs l b k = open_told k
full_tag_splits (a ∷ letters) [] l b k =
    record { more = a ∷ letters; more_bytes = b; now = refl; later = full_tag_whole (a ∷ letters) l }
full_tag_splits (a ∷ letters) (c ∷ xs) l b k =
    if_waits TagSplits (eqb a (lower c))
    (λ e. full_tag_splits letters xs (&&-right (is_letter a) (every is_letter letters) l) (&&-right (is_byte a) (every is_byte letters) b))
    open_told
    k

open_tag_splits : (xs : List ℕ) → open_tag false xs ≡ Tag.Undecided → TagSplits (λ c. open_tag true (xs ++ c))
unfolding open_tag full_tag lower every bytes
open_tag_splits [] k = record { more = bytes "php"; more_bytes = refl; now = refl; later = refl }
open_tag_splits (b ∷ xs) k =
    if_waits TagSplits (b is "=") (λ e. open_told) (full_tag_splits (bytes "php") (b ∷ xs) refl refl) k

-- nothing stands after the `<`, or a tag has begun
data TagOpens (f : List ℕ → Tag) (xs : List ℕ) : Type 0 where
  bare : xs ≡ [] → TagOpens f xs
  begun : TagSplits f → TagOpens f xs

tag_opens : (xs : List ℕ) → tag false xs ≡ Tag.Undecided → TagOpens (λ c. tag true (xs ++ c)) xs
unfolding tag
tag_opens [] k = bare refl
tag_opens (b ∷ xs) k = begun (if_waits TagSplits (b is "?") (λ e. open_tag_splits xs) none_told k)

-- no tag up to the end, nor with one byte more; or a tag as above
data TaggedSplits (f : List ℕ → Tagged) : Type 0 where
  over : f [] ≡ Tagged.Over → f one_more ≡ Tagged.Over → TaggedSplits f
  short : {place : ℕ} (more : List ℕ) → every is_byte more ≡ true → f [] ≡ Tagged.At OpenTagKind.Short place
      → f more ≡ Tagged.At OpenTagKind.Full place → TaggedSplits f

splits_along : (f g : List ℕ → Tagged) → ((c : List ℕ) → g c ≡ f c) → TaggedSplits f → TaggedSplits g
splits_along f g e (over x y) = over (e [] ∙ x) (e one_more ∙ y)
splits_along f g e (short more b x y) = short more b (e [] ∙ x) (e more ∙ y)

or_later_splits : (n : ℕ) (f : List ℕ → Tag) (g : List ℕ → Tagged) (xs : List ℕ) → TagOpens f xs
    → (xs ≡ [] → TaggedSplits (λ c. or_later (f c) n (g c))) → TaggedSplits (λ c. or_later (f c) n (g c))
unfolding or_later
or_later_splits n f g xs (bare e) h = h e
or_later_splits n f g xs (begun x) h = short {place = n} x.more x.more_bytes (rw x.now) (rw x.later)

tagged_splits : (n : ℕ) (xs : List ℕ) → tagged false n xs ≡ Tagged.Undecided → TaggedSplits (λ c. tagged true n (xs ++ c))
unfolding tagged or_later tag
tagged_splits n [] k = over refl refl
tagged_splits n (b ∷ xs) k =
    if_waits TaggedSplits (b is "<")
    (λ e. go (tag false xs) (tag_stays xs) (tag_opens xs) (tagged_splits (suc n) xs))
    (tagged_splits (suc n) xs)
    k
  where
    empty : xs ≡ [] → TaggedSplits (λ c. or_later (tag true (xs ++ c)) n (tagged true (suc n) (xs ++ c)))
    empty e = rw e (over refl refl)

    go : (t : Tag) → ((more : List ℕ) → TagStays t (tag true (xs ++ more)))
        → (t ≡ Tag.Undecided → TagOpens (λ c. tag true (xs ++ c)) xs)
        → (tagged false (suc n) xs ≡ Tagged.Undecided → TaggedSplits (λ c. tagged true (suc n) (xs ++ c)))
        → or_later t n (tagged false (suc n) xs) ≡ Tagged.Undecided
        → TaggedSplits (λ c. or_later (tag true (xs ++ c)) n (tagged true (suc n) (xs ++ c)))
    go (Tag.Open kind) s o ih z = at_told z
    go Tag.None s o ih z =
        splits_along (λ c. tagged true (suc n) (xs ++ c)) _ (λ c. rw (s c none_told)) (ih z)
    go Tag.Undecided s o ih z =
        or_later_splits n (λ c. tag true (xs ++ c)) (λ c. tagged true (suc n) (xs ++ c)) xs (o refl) empty

-- ---- with the end announced all is told

full_tag_told : (letters xs : List ℕ) → full_tag true letters xs ≡ Tag.Undecided → ⊥
unfolding full_tag
full_tag_told [] xs e = open_told e
full_tag_told (a ∷ letters) [] e = open_told e
full_tag_told (a ∷ letters) (b ∷ xs) e =
    choice (λ t. t ≡ Tag.Undecided → ⊥) (eqb a (lower b)) _ _ (λ q. full_tag_told letters xs) (λ q. open_told) e

tag_told : (xs : List ℕ) → tag true xs ≡ Tag.Undecided → ⊥
unfolding tag open_tag
tag_told [] e = none_told e
tag_told (b ∷ []) e = choice (λ t. t ≡ Tag.Undecided → ⊥) (b is "?") _ _ (λ q. open_told) (λ q. none_told) e
tag_told (b ∷ c ∷ xs) e =
    choice (λ t. t ≡ Tag.Undecided → ⊥) (b is "?") _ _
    (λ q. choice (λ t. t ≡ Tag.Undecided → ⊥) (c is "=") _ _ (λ r. open_told) (λ r. full_tag_told (bytes "php") (c ∷ xs)))
    (λ q. none_told)
    e

tagged_told : (n : ℕ) (xs : List ℕ) → tagged true n xs ≡ Tagged.Undecided → ⊥
unfolding tagged or_later
tagged_told n [] e = over_told e
tagged_told n (b ∷ xs) e =
    choice (λ t. t ≡ Tagged.Undecided → ⊥) (b is "<") _ _ (λ q. go (tag true xs) (tag_told xs) (tagged_told (suc n) xs))
    (λ q. tagged_told (suc n) xs)
    e
  where
    go : (t : Tag) → (t ≡ Tag.Undecided → ⊥) → (tagged true (suc n) xs ≡ Tagged.Undecided → ⊥)
        → or_later t n (tagged true (suc n) xs) ≡ Tagged.Undecided → ⊥
    go (Tag.Open kind) s ih z = at_told z
    go Tag.None s ih z = ih z
    go Tag.Undecided s ih z = s refl

-- ---- the mode

inlined_wait : (n : ℕ) (xs : List ℕ) (t : Tagged) → inlined n xs t ≡ Outcome.Wait → t ≡ Tagged.Undecided
unfolding inlined
inlined_wait n xs (Tagged.At kind place) e = told_waits e
inlined_wait n xs Tagged.Over e = told_waits e
inlined_wait n xs Tagged.Undecided e = refl

inlined_splits : (p n : ℕ) (part : List ℕ) → TaggedSplits (λ c. tagged true n (part ++ c))
    → Splits p (λ c. inlined n (part ++ c) (tagged true n (part ++ c)))
unfolding inlined tag_length limited every
inlined_splits p n part (over x y) =
    splits p (λ c. inlined n (part ++ c) (tagged true n (part ++ c))) one_more (inlined n (part ++ []) Tagged.Over)
    (inlined n (part ++ one_more) Tagged.Over)
    refl
    (rw x)
    (rw y)
    (after_apart (λ (e : n + length (part ++ []) ≡ n + length (part ++ one_more)).
    omega (arith, length-append part one_more, ap length (append-nil part))))
inlined_splits p n part (short {place} more b x y) =
    splits p (λ c. inlined n (part ++ c) (tagged true n (part ++ c))) more
    (inlined n (part ++ []) (Tagged.At OpenTagKind.Short place))
    (inlined n (part ++ more) (Tagged.At OpenTagKind.Full place))
    b
    (rw x)
    (rw y)
    (after_apart (λ (e : place + 2 ≡ place + 5). omega arith))

pub initial_demands : (n p : ℕ) → Demands p (λ end. initial end n)
unfolding initial inlined
initial_demands n p =
    record {
      stays = λ part rest k.
          ap (inlined n (part ++ rest)) (tagged_stays n part rest (λ z. k (ap (inlined n part) z)))
          ∙ inlined_append n part rest (tagged false n part) (tagged_inside n (n + length part) part (omega arith));
      splits = λ part k. inlined_splits p n part (tagged_splits n part (inlined_wait n part _ k));
      told = λ xs e. tagged_told n xs (inlined_wait n xs _ e);
    }
