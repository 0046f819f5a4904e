-- The label of a text block that opens: `opening_label`, 1 to 64 identifier bytes of the source, and the block's break after it, as the row
-- says (proofs/Rows.antt). Assumes nothing.
use Prim.Native.Nat.{ℕ, ◌+◌, ◌-◌, ◌≤◌, ◌<◌}
use mathlib.Core.Path.{◌≡◌, refl, sym, ap, ◌∙◌}
use mathlib.Core.Bool.{Bool, true, false, ◌||◌, false≢true}
use mathlib.Core.List.{List, [], ◌∷◌, ◌++◌}
use mathlib.Core.Logic.{◌⊎◌, inl, inr}
use native.Mathlib.Omega.{arith}
use lib.ListN.{length, take, drop, length-append}
use lib.Seq.{take_at}
use Rattle.byte.specs.Words.{every, bytes}
use Rattle.byte.specs.Bytes.{is_start, is_identifier, is_digit}
use Rattle.byte.proofs.Tests.{&&-left, &&-right, &&-both}
use Rattle.outcome.specs.declared.DocStringKind.{DocStringKind}
use Rattle.outcome.specs.declared.Opening.{Opening}
use Rattle.outcome.specs.Openings.{opening, is_name, quotes, labelled}
use Rattle.outcome.proofs.Rows.{RowAt, opens_row}

-- the label has so many bytes of xs, which starts at n; the block's text starts at `after`
pub record LabelInside (n : ℕ) (xs : List ℕ) (start len after : ℕ) : Type 0 where
  pub low : n ≤ start
  pub some : 1 ≤ len
  pub most : len ≤ 64
  pub behind : start + len < after
  pub inside : after ≤ n + length xs
  pub identifiers : every is_identifier (take len (drop (start - n) xs)) ≡ true

abbrev pub OpeningInside : ℕ → List ℕ → Opening → Type 0
OpeningInside n xs (Opening.Block kind start len after) = LabelInside n xs start len after
OpeningInside n xs Opening.Other = Unit {0}
OpeningInside n xs Opening.Undecided = Unit {0}

start_identifier : (b : ℕ) → is_start b ≡ true → is_identifier b ≡ true
unfolding is_identifier
start_identifier b h = go (is_digit b) h
  where
    go : (t : Bool) → is_start b ≡ true → (t || is_start b) ≡ true
    go true k = refl
    go false k = k

name_identifiers : (label : List ℕ) → is_name label ≡ true → (1 ≤ length label) × (every is_identifier label ≡ true)
unfolding is_name every
name_identifiers [] e = absurd (false≢true e)
name_identifiers (b ∷ label) e = (
  omega arith,
  &&-both (is_identifier b) (every is_identifier label) (start_identifier b (&&-left (is_start b) (every is_identifier label) e))
      (&&-right (is_start b) (every is_identifier label) e),
)

newline_some : (newline : List ℕ) → (newline ≡ bytes "\n") ⊎ (newline ≡ bytes "\r\n") → 1 ≤ length newline
unfolding bytes
newline_some newline (inl e) = rw e (omega arith)
newline_some newline (inr e) = rw e (omega arith)

labelled_drop : (kind : DocStringKind) (label rest : List ℕ) → drop (2 + length (quotes kind)) (labelled kind label rest) ≡ label ++ rest
unfolding quotes bytes
labelled_drop DocStringKind.Heredoc label rest = refl
labelled_drop DocStringKind.Nowdoc label rest = refl

labelled_length : (kind : DocStringKind) (label rest : List ℕ)
    → length (labelled kind label rest) ≡ 2 + length (quotes kind) + length label + length rest
unfolding quotes bytes
labelled_length DocStringKind.Heredoc label rest = omega (arith, length-append label rest)
labelled_length DocStringKind.Nowdoc label rest = omega (arith, length-append label rest)

row_inside : (n : ℕ) (xs : List ℕ) (kind : DocStringKind) (start len after : ℕ) → RowAt n xs kind start len after
    → LabelInside n xs start len after
row_inside n xs kind start len after r =
    let tail = quotes kind ++ (r.newline ++ r.more) in
    let named = name_identifiers r.label r.row.name in
    let size = ap length r.row.text ∙ labelled_length kind r.label tail in
    let there : start - n ≡ 2 + length (quotes kind) = omega (arith, r.place) in
    let label-so : take len (drop (start - n) xs) ≡ r.label =
    rw (there, r.row.text, labelled_drop kind r.label tail) (take_at r.label tail len (sym r.size)) in
    record {
      low = omega (arith, r.place);
      some = omega (arith, r.size, named.0);
      most = omega (arith, r.size, r.row.most);
      behind = omega (arith, r.text, newline_some r.newline r.row.line_end);
      inside = omega (arith, r.text, r.place, r.size, size, length-append (quotes kind) (r.newline ++ r.more), length-append r.newline r.more);
      identifiers = rw label-so named.1;
    }

pub opening_label : (end : Bool) (n : ℕ) (xs : List ℕ) (kind : DocStringKind) (start len after : ℕ)
    → opening end n xs ≡ Opening.Block kind start len after → LabelInside n xs start len after
opening_label end n xs kind start len after e = row_inside n xs kind start len after (opens_row end n xs kind start len after e)

pub opening_inside : (n : ℕ) (xs : List ℕ) (end : Bool) → OpeningInside n xs (opening end n xs)
opening_inside n xs end = go (opening end n xs) refl
  where
    go : (o : Opening) → opening end n xs ≡ o → OpeningInside n xs o
    go (Opening.Block kind start len after) e = opening_label end n xs kind start len after e
    go Opening.Other e = tt
    go Opening.Undecided e = tt
