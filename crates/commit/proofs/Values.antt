-- Writing the value of a draft, on each way that it comes about. Assumes nothing.
use Prim.Native.Nat.{ℕ, ◌+◌, ◌-◌, ◌≤◌}
use mathlib.Core.Path.{◌≡◌, sym, ap, subst, ◌∙◌}
use mathlib.Core.Bool.{Bool}
use mathlib.Core.List.{List, [], ◌++◌, append-nil, append_assoc}
use native.Mathlib.Omega.{arith}
use lib.ListN.{length, take, drop, length-take, length-drop, drop_of_length-le}
use lib.Seq.{length-take-le, drop-drop}
use Rattle.byte.specs.Laid.{laid}
use Rattle.byte.proofs.Laid.{laid_rest}
use Rattle.state.specs.declared.Label.{Label}
use Rattle.state.specs.Bounds.{label_bytes}
use Rattle.unit.specs.declared.Mode.{Mode}
use Rattle.unit.specs.Readings.{text_at}
use Rattle.text.specs.declared.Scanned.{Scanned}
use Rattle.text.specs.Code as text
use Rattle.text.proofs.Writes.{value_gathered}
use Rattle.number.specs.Numbers as number
use Rattle.sheet.specs.declared.Indent.{Indent}
use Rattle.sheet.specs.Code.{sheet_of, Left}
use Rattle.sheet.proofs.Parts.{drop-take}
use Rattle.plan.specs.declared.Making.{Making}
use Rattle.plan.specs.declared.Draft.{Draft}
use Rattle.plan.specs.Code.{Named, Range, Block, Kept, Able, made_by, made}
use Rattle.plan.proofs.Plans.{named_short}
use Rattle.commit.specs.Code.{Writes}

-- a pool's free rest
length_free : (q : List ℕ) (mark : ℕ) → length (take (length q - mark) (drop mark q)) ≡ length q - mark
length_free q mark = simp (length-take, length-drop) (omega arith)

-- a part that is filled with as many bytes as it has
filled_part : (q part vs : List ℕ) (mark n : ℕ) → n ≡ length vs → mark + n ≤ length q
    → part ≡ laid (take n (drop mark q)) 0 vs
    → take mark q ++ (part ++ drop n (drop mark q)) ≡ laid q mark vs
unfolding laid
filled_part q part vs mark n e h f =
    let whole : length (take n (drop mark q)) ≡ n = simp (length-take, length-drop) (omega arith) in
    let past : length (take n (drop mark q)) ≤ 0 + length vs = omega (arith, whole, e) in
    let none : drop (0 + length vs) (take n (drop mark q)) ≡ [] = drop_of_length-le (take n (drop mark q)) past in
    rw (f, none, append-nil vs, drop-drop n mark q, e, ← append_assoc (take mark q) vs (drop (mark + length vs) q))

module _ (src : List ℕ) (end : Bool) (scratch : List ℕ) (d : Draft) (q : List ℕ) (mark : ℕ)
    (w : Writes src end scratch d (length q) mark) where
  -- the source's own bytes
  module _ (e : d.making ≡ Making.Copied) where
    copied_range : Range src d.from d.to
    copied_range = (rw e at w).ready.able

    copied_size : d.len ≡ length (take (d.to - d.from) (drop d.from src))
    unfolding made_by
    copied_size = (rw e at w).ready.size

    pub copied_order : d.from ≤ d.to
    copied_order = copied_range.order

    pub copied_inside : d.to ≤ length src
    copied_inside = copied_range.inside

    pub copied_fits : mark + length (take (d.to - d.from) (drop d.from src)) ≤ length q
    copied_fits = rw (← copied_size) w.fits

    pub copied_written : (q' : List ℕ) → q' ≡ laid q mark (take (d.to - d.from) (drop d.from src))
        → q' ≡ laid q mark (made src end d)
    unfolding made_by
    copied_written q' h = rw e h

  -- a text that is held
  module _ (mode : Mode) (label : Label) (e : d.making ≡ Making.Held mode label) where
    held_same : take d.len scratch ≡ made src end d
    held_same =
        let k : Kept src label d.from scratch d.len (made src end d) =
        subst (λ (making : Making). Able making src scratch d.from d.to d.len (made src end d)) e
        w.ready.able in
        k.same

    pub held_inside : d.len ≤ length scratch
    held_inside = omega (arith, w.ready.size ∙ ap length (sym held_same) ∙ length-take d.len scratch)

    pub held_count : length (take d.len scratch) ≡ d.len
    held_count = length-take-le d.len scratch held_inside

    pub held_fits : mark + length (take d.len scratch) ≤ length q
    held_fits = rw held_count w.fits

    pub held_written : (q' : List ℕ) → q' ≡ laid q mark (take d.len scratch) → q' ≡ laid q mark (made src end d)
    held_written q' h = h ∙ ap (laid q mark) held_same

  -- a text that is read again
  module _ (mode : Mode) (label : Label) (e : d.making ≡ Making.Text mode label) where
    text_block : Block src label d.from
    text_block = (rw e at w).ready.able

    text_size : d.len ≡ length (text.value_of (text_at mode (label_bytes src label) end d.from (drop d.from src)))
    unfolding made_by
    text_size = (rw e at w).ready.size

    pub text_named : Named src label
    text_named = text_block.name

    pub text_start : d.from ≤ length src
    text_start = text_block.start

    -- the part that is filled is as long as the value
    pub text_written : (name part : List ℕ) (again : Scanned) → name ≡ label_bytes src label
        → text.Reads mode src name d.from end (take (mark + d.len - mark) (drop mark q)) again part
        → take mark q ++ (part ++ drop (mark + d.len - mark) (drop mark q)) ≡ laid q mark (made src end d)
    unfolding made_by
    text_written name part again h r =
        let k : mark + d.len - mark ≡ d.len = omega arith in
        let all = text.gathered mode (label_bytes src label) end 0 d.from (drop d.from src) in
        let value = text.value_of (text_at mode (label_bytes src label) end d.from (drop d.from src)) in
        let free = take d.len (drop mark q) in
        let held : part ≡ laid free 0 (take (length free) all) = (rw (h, k) at r).held in
        let whole : length free ≡ length value =
        simp (length-take, length-drop) (omega (arith, w.fits, text_size)) in
        let same : take (length value) all ≡ value =
        sym (value_gathered mode (label_bytes src label) end d.from (drop d.from src)) in
        rw (e, k) (filled_part q part value mark d.len text_size w.fits (held ∙ rw (whole, same)))

  -- a number
  module _ (e : d.making ≡ Making.Number) where
    number_range : Range src d.from d.to
    number_range = (rw e at w).ready.able

    number_size : d.len ≡ length (number.value_of src d.from d.to)
    unfolding made_by
    number_size = (rw e at w).ready.size

    pub number_order : d.from ≤ d.to
    number_order = number_range.order

    pub number_inside : d.to ≤ length src
    number_inside = number_range.inside

    pub number_fits : length (number.value_of src d.from d.to) ≤ length (take (length q - mark) (drop mark q))
    number_fits = rw (length_free q mark, ← number_size) (omega (arith, w.fits))

    pub number-written : (rest : List ℕ)
        → rest ≡ laid (take (length q - mark) (drop mark q)) 0 (number.value_of src d.from d.to)
        → take mark q ++ (rest ++ drop (length q - mark) (drop mark q)) ≡ laid q mark (made src end d)
    unfolding made_by
    number-written rest f = rw e (laid_rest q rest mark _ (rw (← number_size) w.fits) f)

  -- a sheet
  module _ (blank width : ℕ) (e : d.making ≡ Making.Sheet blank width) where
    abbrev ind : Indent
    ind = record { blank = blank; width = width }

    sheet_range : Range src d.from d.to
    sheet_range = (rw e at w).ready.able

    pub sheet_inside : d.to ≤ length src
    sheet_inside = sheet_range.inside

    pub sheet_count : length (take d.to src) ≡ d.to
    sheet_count = length-take-le d.to src sheet_inside

    sheet_value : sheet_of ind d.from (drop d.from (take d.to src)) ≡ made src end d
    unfolding made_by
    sheet_value = rw (e, drop-take d.from d.to src)

    pub sheet_left : Left (record { blank = blank; width = width }) (take d.to src) d.from d.len
        (length (take (length q - mark) (drop mark q)))
    sheet_left =
        record {
          start = omega (arith, sheet_count, sheet_range.order);
          short = omega (arith, sheet_count, sheet_inside, w.short);
          size = w.ready.size ∙ rw sheet_value;
          fits = rw (length_free q mark) (omega (arith, w.fits));
        }

    pub sheet_written : (rest : List ℕ)
        → rest ≡ laid (take (length q - mark) (drop mark q)) 0
        (sheet_of (record { blank = blank; width = width }) d.from (drop d.from (take d.to src)))
        → take mark q ++ (rest ++ drop (length q - mark) (drop mark q)) ≡ laid q mark (made src end d)
    sheet_written rest f = laid_rest q rest mark _ (rw (← w.ready.size) w.fits) (f ∙ rw sheet_value)

pub ruleset writing = (
  copied_order,
  copied_inside,
  copied_fits,
  copied_written,
  held_inside,
  held_count,
  held_fits,
  held_written,
  named_short,
  text_named,
  text_start,
  text_written,
  number_order,
  number_inside,
  number_fits,
  number-written,
  sheet_inside,
  sheet_count,
  sheet_left,
  sheet_written,
)
