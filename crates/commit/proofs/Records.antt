-- Counting drafts, and writing their records and values one after another. Assumes nothing.
--   Putting   the drafts that are left fit from the marks on: one of them is put, and then the others
--   putting   none, one or two drafts
use Prim.Native.Nat.{ℕ, suc, ◌+◌, ◌*◌, ◌/◌, ◌≤◌}
use mathlib.Core.Path.{◌≡◌, refl, sym, ap, ◌∙◌}
use mathlib.Core.Bool.{Bool}
use mathlib.Core.List.{List, [], ◌∷◌}
use native.Mathlib.Omega.{arith}
use lib.ListN.{length, length-append}
use Rattle.byte.specs.Laid.{laid}
use Rattle.byte.proofs.Laid.{length_laid}
use Rattle.token.specs.Records.{record_of}
use Rattle.outcome.specs.Outcomes.{values}
use Rattle.outcome.specs.Insides.{AllInside}
use Rattle.plan.specs.declared.Draft.{Draft}
use Rattle.plan.specs.declared.Drafts.{Drafts}
use Rattle.plan.specs.Code.{made, piece_of, pieces, pieces_of, drafts_of, AllReady}
use Rattle.commit.specs.declared.Mark.{Mark}
use Rattle.commit.specs.Records.{Tables, put}
use Rattle.commit.specs.Code.{total_of, Marked, draft_token, DraftFits, DraftPut, past_draft, DraftsFit, DraftsPut}

-- ---- how many

-- what pieces are, counted by their drafts
pub length-pieces : (src : List ℕ) (end : Bool) (drafts : List Draft) → length (pieces src end drafts) ≡ length drafts
unfolding pieces
length-pieces src end [] = refl
length-pieces src end (d ∷ more) = ap suc (length-pieces src end more)

pub length-values : (src : List ℕ) (end : Bool) (scratch : List ℕ) (drafts : List Draft)
    → AllReady drafts src end scratch
    → length (values (pieces src end drafts)) ≡ total_of drafts
unfolding pieces total_of values
length-values src end scratch [] r = refl
length-values src end scratch (d ∷ more) r =
    let later = length-values src end scratch more r.1 in
    rw (length-append (made src end d) (values (pieces src end more)), r.0.size, later)

-- ---- one draft

-- a draft's value and record
module _ (src : List ℕ) (end : Bool) (scratch : List ℕ) (after : ℕ) (m : Mark) (d : Draft) (l q : List ℕ)
    (f : DraftFits src end scratch after m d (length l) (length q)) where
  pub draft_put : (l' q' : List ℕ) → q' ≡ laid q m.bytes (made src end d)
      → l' ≡ laid l (m.tokens * 8) (record_of (draft_token src after m d)) → (r : Mark) → r ≡ past_draft m d
      → DraftPut src after m d (piece_of src end d) l q r l' q'
  draft_put l' q' v h r k = record { mark = k; list = h ∙ rw f.ready.size; pool = v }

  module _ (r : Mark) (l' q' : List ℕ) (p : DraftPut src after m d (piece_of src end d) l q r l' q') where
    put_list : length l' ≡ length l
    put_list = ap length p.list ∙ length_laid l (m.tokens * 8) _ f.places

    put_pool : length q' ≡ length q
    put_pool = ap length p.pool ∙ length_laid q m.bytes _ (omega (arith, f.room, f.ready.size))

-- ---- one after another

abbrev tables : List ℕ → List ℕ → Tables
tables l q = record { list = l; pool = q }

-- the drafts that are left fit from the marks on; those before may lie at any place from the cursor on
pub record Putting (src : List ℕ) (end : Bool) (scratch : List ℕ) (after : ℕ) (at : Mark) (rest : List Draft)
    (list pool : ℕ) : Type 0 where
  pub marked : Marked src at list pool
  pub ready : AllReady rest src end scratch
  pub low : ℕ
  pub lower : at.span.position ≤ low
  pub all : AllInside low (length src) (pieces src end rest)
  pub ends : after ≤ length src
  pub narrow : total_of rest ≤ length src
  pub places : at.tokens + length rest ≤ list / 8
  pub room : at.bytes + total_of rest ≤ pool

module _ (src : List ℕ) (end : Bool) (scratch : List ℕ) (after : ℕ) where
  pub putting_first : (m : Mark) (ds : Drafts) (list pool : ℕ) → DraftsFit src end scratch after m ds list pool
      → Putting src end scratch after m (drafts_of ds) list pool
  putting_first m ds list pool f = record {
    marked = f.marked;
    ready = f.ready;
    low = m.span.position;
    lower = omega arith;
    all = f.all;
    ends = f.ends;
    narrow = f.narrow;
    places = f.places;
    room = f.room;
  }

  -- one of them, and the others
  module _ (at : Mark) (d : Draft) (more : List Draft) (l q : List ℕ)
      (g : Putting src end scratch after at (d ∷ more) (length l) (length q)) where
    pub putting_fits : DraftFits src end scratch after at d (length l) (length q)
    unfolding pieces total_of
    putting_fits =
        let a = g.all.0 in
        record {
          drawn = record {
            ahead = record {
              cursor = g.marked.cursor;
              low = omega (arith, g.lower, a.low);
              high = a.high;
            };
            detail = a.detail;
            len = omega (arith, g.narrow);
            end = g.ends;
          };
          ready = g.ready.0;
          places = omega (arith, g.places);
          room = omega (arith, g.room);
          past = record {
            tokens = omega (arith, g.places, g.marked.places);
            bytes = omega (arith, g.room, g.marked.room);
          };
        }

    module _ (r : Mark) (l' q' : List ℕ) (p : DraftPut src after at d (piece_of src end d) l q r l' q') where
      pub putting_on : Putting src end scratch after r more (length l') (length q')
      unfolding pieces total_of
      putting_on =
          let list = put_list src end scratch after at d l q putting_fits r l' q' p in
          let pool = put_pool src end scratch after at d l q putting_fits r l' q' p in
          rw (p.mark, list, pool)
          (record {
            marked = record {
              cursor = g.marked.cursor;
              tokens = omega (arith, g.places);
              bytes = omega (arith, g.room);
              places = g.marked.places;
              room = g.marked.room;
            };
            ready = g.ready.1;
            low = d.place;
            lower = omega (arith, g.lower, g.all.0.low);
            all = g.all.1;
            ends = g.ends;
            narrow = omega (arith, g.narrow);
            places = omega (arith, g.places);
            room = omega (arith, g.room);
          })

      pub putting_same : put src after at (tables l q) (pieces src end (d ∷ more))
          ≡ put src after r (tables l' q') (pieces src end more)
      unfolding put pieces
      putting_same = rw (p.mark, p.list, p.pool, g.ready.0.size)

-- none, one and two drafts
module _ (src : List ℕ) (end : Bool) (scratch : List ℕ) (after : ℕ) (m : Mark) (ds : Drafts) (l q : List ℕ)
    (f : DraftsFit src end scratch after m ds (length l) (length q)) where
  pub put_none : ds ≡ Drafts.None → DraftsPut src after m (pieces_of src end ds) l q l q
  unfolding put pieces
  put_none e = rw e (record { list = refl; pool = refl })

  module _ (d : Draft) (e : ds ≡ Drafts.One d) where
    one_putting : Putting src end scratch after m (d ∷ []) (length l) (length q)
    one_putting = putting_first src end scratch after m (Drafts.One d) (length l) (length q) (rw e at f)

    pub one_fits : DraftFits src end scratch after m d (length l) (length q)
    one_fits = putting_fits src end scratch after m d [] l q one_putting

    pub put_one : (r : Mark) (l' q' : List ℕ) → DraftPut src after m d (piece_of src end d) l q r l' q'
        → DraftsPut src after m (pieces_of src end ds) l q l' q'
    unfolding put pieces
    put_one r l' q' p =
        let same = putting_same src end scratch after m d [] l q one_putting r l' q' p in
        rw e (record { list = ap (λ (t : Tables). t.list) (sym same); pool = ap (λ (t : Tables). t.pool) (sym same) })

  module _ (d d' : Draft) (e : ds ≡ Drafts.Two d d') where
    two_putting : Putting src end scratch after m (d ∷ d' ∷ []) (length l) (length q)
    two_putting = putting_first src end scratch after m (Drafts.Two d d') (length l) (length q) (rw e at f)

    pub two_fits : DraftFits src end scratch after m d (length l) (length q)
    two_fits = putting_fits src end scratch after m d (d' ∷ []) l q two_putting

    module _ (r : Mark) (l' q' : List ℕ) (p : DraftPut src after m d (piece_of src end d) l q r l' q') where
      second_putting : Putting src end scratch after r (d' ∷ []) (length l') (length q')
      second_putting = putting_on src end scratch after m d (d' ∷ []) l q two_putting r l' q' p

      pub second_fits : DraftFits src end scratch after r d' (length l') (length q')
      second_fits = putting_fits src end scratch after r d' [] l' q' second_putting

      pub put_two : (r' : Mark) (l'' q'' : List ℕ) → DraftPut src after r d' (piece_of src end d') l' q' r' l'' q''
          → DraftsPut src after m (pieces_of src end ds) l q l'' q''
      unfolding put pieces
      put_two r' l'' q'' p' =
          let first = putting_same src end scratch after m d (d' ∷ []) l q two_putting r l' q' p in
          let second = putting_same src end scratch after r d' [] l' q' second_putting r' l'' q'' p' in
          let same : put src after m (tables l q) (pieces src end (d ∷ d' ∷ [])) ≡ tables l'' q'' = first ∙ second in
          rw e (record { list = ap (λ (t : Tables). t.list) (sym same); pool = ap (λ (t : Tables). t.pool) (sym same) })

pub ruleset putting = (put_none, one_fits, put_one, two_fits, second_fits, put_two)
