-- What tells no literal and no comment: the frames but Scripting. Each law is its definition again. Assumes nothing.
--   NoLiteral, TellsNone   no piece is a literal or a comment
--   texted_none, initial_none, looking_for_varname_none, looking_for_property_none, var_offset_none
use Rattle.std.specs.Prelude.{if◌then◌else◌, Option, Some, None}
use Prim.Native.Nat.{ℕ}
use mathlib.Core.Path.{◌≡◌, refl}
use mathlib.Core.Bool.{Bool, true, false, not}
use mathlib.Core.List.{List, [], ◌∷◌, ◌++◌}
use lib.ListN.{drop}
use Rattle.byte.specs.Words.{◌is◌, every}
use Rattle.byte.specs.Bytes.{is_start}
use Rattle.byte.specs.Words.{is_one_of}
use Rattle.byte.proofs.Tests.{choice}
use Rattle.token.specs.Kinds.{inline_html, string_part, question_arrow, arrow}
use Rattle.unit.specs.declared.Indentation.{Indentation}
use Rattle.unit.specs.declared.Mode.{Mode}
use Rattle.unit.specs.declared.Stop.{Stop}
use Rattle.unit.specs.Readings as unit
use Rattle.outcome.specs.declared.OpenTagKind.{OpenTagKind}
use Rattle.outcome.specs.declared.Tagged.{Tagged}
use Rattle.outcome.specs.Outcomes.{Piece, Outcome, unless_empty}
use Rattle.outcome.specs.Initials.{tagged, tag_kind, inlined, initial}
use Rattle.outcome.specs.Texts.{doc_kind, quote_kind, stop_kind, texted}
use Rattle.outcome.specs.Lookings.{named, is_bracketed, varname, looking_for_varname}
use Rattle.outcome.specs.Lookings.{property, arrow_head, questioned, looking_for_property, var_offset}
use Rattle.outcome.specs.Written.{is_literal}

abbrev pub NoLiteral : List Piece → Type 0
NoLiteral pieces = every (λ p. not (is_literal p.kind)) pieces ≡ true

abbrev pub TellsNone : Outcome → Type 0
TellsNone (Outcome.Told pieces after change finished) = NoLiteral pieces
TellsNone (Outcome.Refused refusal place) = Unit {0}
TellsNone Outcome.Wait = Unit {0}

stop_kind_other : (m : Mode) (stop : Stop) → is_literal (stop_kind m stop) ≡ false
unfolding is_literal is_one_of stop_kind quote_kind doc_kind
stop_kind_other Mode.Single Stop.Quote = refl
stop_kind_other (Mode.Double octals) Stop.Quote = refl
stop_kind_other (Mode.DoubleQuote octals) Stop.Quote = refl
stop_kind_other Mode.ShellExec Stop.Quote = refl
stop_kind_other (Mode.Heredoc octals) Stop.Quote = refl
stop_kind_other Mode.Nowdoc Stop.Quote = refl
stop_kind_other m Stop.Interpolation = refl
stop_kind_other m Stop.DollarLeftBrace = refl
stop_kind_other m Stop.LeftBrace = refl
stop_kind_other m (Stop.Variable f) = refl
stop_kind_other m (Stop.Label Indentation.None amount) = refl
stop_kind_other m (Stop.Label Indentation.Space amount) = refl
stop_kind_other m (Stop.Label Indentation.Tab amount) = refl
stop_kind_other m (Stop.Label Indentation.Mixed amount) = refl

tag_kind_other : (kind : OpenTagKind) → is_literal (tag_kind kind) ≡ false
unfolding is_literal is_one_of tag_kind
tag_kind_other OpenTagKind.Full = refl
tag_kind_other OpenTagKind.Echo = refl
tag_kind_other OpenTagKind.Short = refl

if_none : (t : Bool) (o p : Outcome) → TellsNone o → TellsNone p → TellsNone (if t then o else p)
if_none t o p x y = choice TellsNone t o p (λ e. x) (λ e. y)

-- a part that is left out where it is empty, and a piece after it
parted_none : (kind n : ℕ) (value : List ℕ) (p : Piece) → is_literal kind ≡ false → is_literal p.kind ≡ false
    → NoLiteral (unless_empty kind n value ++ p ∷ [])
unfolding unless_empty every
parted_none kind n [] p e f = rw f
parted_none kind n (b ∷ vs) p e f = rw (e, f)

pub texted_none : (m : Mode) (n : ℕ) (xs : List ℕ) (r : unit.Reading) → TellsNone (texted m n xs r)
unfolding texted is_literal is_one_of
texted_none m n xs (unit.Text value stop from after) = parted_none string_part n value _ refl (stop_kind_other m stop)
texted_none m n xs (unit.Refused refusal place) = tt
texted_none m n xs unit.Wait = tt

module _ (end : Bool) (n : ℕ) where
  pub initial_none : (xs : List ℕ) → TellsNone (initial end n xs)
  unfolding initial inlined every is_literal is_one_of
  initial_none xs = go (tagged end n xs)
    where
      go : (t : Tagged) → TellsNone (inlined n xs t)
      go (Tagged.At kind place) = parted_none inline_html n _ _ refl (tag_kind_other kind)
      go Tagged.Over = refl
      go Tagged.Undecided = tt

  varname_none : (xs : List ℕ) (r : Option ℕ) → TellsNone (varname n xs r)
  unfolding varname every is_literal is_one_of
  varname_none xs (Some k) = if_none (is_bracketed (drop k xs)) _ _ refl refl
  varname_none xs None = tt

  pub looking_for_varname_none : (xs : List ℕ) → TellsNone (looking_for_varname end n xs)
  unfolding looking_for_varname every
  looking_for_varname_none [] = if_none end _ _ refl tt
  looking_for_varname_none (b ∷ xs) = if_none (is_start b) _ _ (varname_none (b ∷ xs) (named end 1 xs)) refl

  property_none : (xs : List ℕ) (r : Option ℕ) → TellsNone (property n xs r)
  unfolding property every is_literal is_one_of
  property_none xs (Some k) = refl
  property_none xs None = tt

  arrow_head_none : (kind k : ℕ) → is_literal kind ≡ false → (xs ys : List ℕ) → TellsNone (arrow_head kind k end n xs ys)
  unfolding arrow_head every
  arrow_head_none kind k e xs [] = if_none end _ _ tt tt
  arrow_head_none kind k e xs (b ∷ ys) = if_none (b is ">") _ _ (rw e) tt

  questioned_none : (xs ys : List ℕ) → TellsNone (questioned end n xs ys)
  unfolding questioned is_literal is_one_of
  questioned_none xs [] = if_none end _ _ tt tt
  questioned_none xs (b ∷ ys) = if_none (b is "-") _ _ (arrow_head_none question_arrow 2 refl xs ys) tt

  pub looking_for_property_none : (xs : List ℕ) → TellsNone (looking_for_property end n xs)
  unfolding looking_for_property is_literal is_one_of
  looking_for_property_none [] = if_none end _ _ tt tt
  looking_for_property_none (b ∷ xs) =
      if_none (b is "?") _ _ (questioned_none (b ∷ xs) xs)
      (if_none (b is "-") _ _ (arrow_head_none arrow 1 refl (b ∷ xs) xs)
      (if_none (is_start b) _ _ (property_none (b ∷ xs) (named end 1 xs)) tt))

  pub var_offset_none : (xs : List ℕ) → TellsNone (var_offset end n xs)
  unfolding var_offset every
  var_offset_none [] = if_none end _ _ tt tt
  var_offset_none (b ∷ xs) = refl
