-- Each piece of what a call comes to bears the number of a Kind, whatever is read. Assumes nothing.
--   kind_range                  those numbers are 1 to 21
--   initial_kinds, ..           of each routine
--   framed_kinds                of a step in any frame
--   call_at_kinds, call_kinds   of the step and the three readings; with the limit of 64 frames
use Prim.Native.Nat.{ℕ, suc, ◌≤◌}
use mathlib.Core.Path.{refl}
use mathlib.Core.Bool.{Bool}
use mathlib.Core.List.{List, [], ◌∷◌, ◌++◌}
use native.Mathlib.Omega.{arith}
use Prim.Native.Char.{code}
use lib.ListN.{drop}
use Rattle.std.specs.Prelude.{Option, Some, None, if◌then◌else◌}
use Rattle.byte.specs.declared.Octal.{Octal}
use Rattle.byte.specs.Words.{◌is◌}
use Rattle.byte.specs.Bytes.{is_digit, is_start}
use Rattle.byte.proofs.Tests.{choice}
use Rattle.state.specs.declared.Frame.{Frame}
use Rattle.state.specs.declared.Choices.{Choices}
use Rattle.state.specs.declared.Reading.{Reading}
use Rattle.state.specs.declared.Session.{Session}
use Rattle.state.specs.Bounds.{label_bytes, is_scripting}
use Rattle.token.specs.declared.Kind.{Kind}
use Rattle.token.specs.Kinds.{kind_number, inline_html, string_part}
use Rattle.token.specs.Kinds.{literal_single_quoted_string, literal_double_quoted_string}
use Rattle.unit.specs.declared.Mode.{Mode}
use Rattle.unit.specs.declared.Stop.{Stop}
use Rattle.unit.specs.declared.Indentation.{Indentation}
use Rattle.unit.specs.Readings as unit
use Rattle.number.specs.declared.Literal.{Literal}
use Rattle.number.specs.Numbers as number
use Rattle.sheet.specs.Sheets.{sheet_at}
use Rattle.outcome.specs.declared.Call.{Call}
use Rattle.outcome.specs.declared.OpenTagKind.{OpenTagKind}
use Rattle.outcome.specs.declared.Tagged.{Tagged}
use Rattle.outcome.specs.declared.Opening.{Opening}
use Rattle.outcome.specs.declared.CommentKind.{CommentKind}
use Rattle.outcome.specs.declared.CommentEnd.{CommentEnd}
use Rattle.outcome.specs.Outcomes.{Piece, Outcome, unless_empty}
use Rattle.outcome.specs.PieceKinds.{OfKind, AllOfKinds, OfKinds}
use Rattle.outcome.specs.Initials.{tag_kind, tagged, inlined, initial}
use Rattle.outcome.specs.Texts.{doc_kind, quote_kind, stop_kind, is_left, texted, literal, text_read}
use Rattle.outcome.specs.Texts.{number_kind, numbered}
use Rattle.outcome.specs.Lookings.{is_bracketed, named, varname, looking_for_varname}
use Rattle.outcome.specs.Lookings.{property, arrow_head, questioned, looking_for_property, var_offset}
use Rattle.outcome.specs.Openings.{opening, opened}
use Rattle.outcome.specs.Comments.{is_next, comment_end, endless, commented, slash, hash}
use Rattle.outcome.specs.Scripts.{point, word, close_tag, scripting}
use Rattle.outcome.specs.Steps.{text_mode, nowdoc, framed, top_frame, call_at, rest, call_outcome}
use Rattle.outcome.proofs.StepWays.{limited_either}

pub kind_range : (kind : Kind) → (1 ≤ kind_number kind) × (kind_number kind ≤ 21)
kind_range Kind.InlineHtml = (omega arith, omega arith)
kind_range Kind.OpenTagFull = (omega arith, omega arith)
kind_range Kind.OpenTagEcho = (omega arith, omega arith)
kind_range Kind.OpenTagShort = (omega arith, omega arith)
kind_range Kind.StringPart = (omega arith, omega arith)
kind_range Kind.DollarLeftBrace = (omega arith, omega arith)
kind_range Kind.LeftBrace = (omega arith, omega arith)
kind_range Kind.DoubleQuote = (omega arith, omega arith)
kind_range Kind.Backtick = (omega arith, omega arith)
kind_range Kind.Variable = (omega arith, omega arith)
kind_range Kind.EndDocStringNone = (omega arith, omega arith)
kind_range Kind.EndDocStringSpace = (omega arith, omega arith)
kind_range Kind.EndDocStringTab = (omega arith, omega arith)
kind_range Kind.Identifier = (omega arith, omega arith)
kind_range Kind.QuestionArrow = (omega arith, omega arith)
kind_range Kind.Arrow = (omega arith, omega arith)
kind_range Kind.LiteralSingleQuotedString = (omega arith, omega arith)
kind_range Kind.LiteralDoubleQuotedString = (omega arith, omega arith)
kind_range Kind.LiteralInteger = (omega arith, omega arith)
kind_range Kind.LiteralFloat = (omega arith, omega arith)
kind_range Kind.Comment = (omega arith, omega arith)

of : (kind : Kind) → OfKind (kind_number kind)
of kind = record { kind = kind; same = refl }

if_kinds : (t : Bool) (o p : Outcome) → OfKinds o → OfKinds p → OfKinds (if t then o else p)
if_kinds t o p x y = choice OfKinds t o p (λ e. x) (λ e. y)

parted_kinds : (kind n : ℕ) (value : List ℕ) (more : List Piece) → OfKind kind → AllOfKinds more
    → AllOfKinds (unless_empty kind n value ++ more)
unfolding unless_empty
parted_kinds kind n [] more k a = a
parted_kinds kind n (b ∷ value) more k a = (k, a)

-- ---- inline text, texts, literals, numbers

tag_kinds : (tag : OpenTagKind) → OfKind (tag_kind tag)
unfolding tag_kind
tag_kinds OpenTagKind.Full = of Kind.OpenTagFull
tag_kinds OpenTagKind.Echo = of Kind.OpenTagEcho
tag_kinds OpenTagKind.Short = of Kind.OpenTagShort

pub initial_kinds : (end : Bool) (n : ℕ) (xs : List ℕ) → OfKinds (initial end n xs)
unfolding initial inlined
initial_kinds end n xs = go (tagged end n xs)
  where
    go : (t : Tagged) → OfKinds (inlined n xs t)
    go (Tagged.At tag place) = parted_kinds inline_html n _ _ (of Kind.InlineHtml) (tag_kinds tag, tt)
    go Tagged.Over = (of Kind.InlineHtml, tt)
    go Tagged.Undecided = tt

doc_kinds : (ind : Indentation) → OfKind (doc_kind ind)
unfolding doc_kind
doc_kinds Indentation.None = of Kind.EndDocStringNone
doc_kinds Indentation.Space = of Kind.EndDocStringSpace
doc_kinds Indentation.Tab = of Kind.EndDocStringTab
doc_kinds Indentation.Mixed = of Kind.EndDocStringNone

quote_kinds : (m : Mode) → OfKind (quote_kind m)
unfolding quote_kind
quote_kinds Mode.ShellExec = of Kind.Backtick
quote_kinds Mode.Single = of Kind.DoubleQuote
quote_kinds (Mode.Double octals) = of Kind.DoubleQuote
quote_kinds (Mode.DoubleQuote octals) = of Kind.DoubleQuote
quote_kinds (Mode.Heredoc octals) = of Kind.DoubleQuote
quote_kinds Mode.Nowdoc = of Kind.DoubleQuote

stop_kinds : (m : Mode) (stop : Stop) → OfKind (stop_kind m stop)
unfolding stop_kind
stop_kinds m Stop.Quote = quote_kinds m
stop_kinds m Stop.Interpolation = of Kind.StringPart
stop_kinds m Stop.DollarLeftBrace = of Kind.DollarLeftBrace
stop_kinds m Stop.LeftBrace = of Kind.LeftBrace
stop_kinds m (Stop.Variable f) = of Kind.Variable
stop_kinds m (Stop.Label ind amount) = doc_kinds ind

pub texted_kinds : (m : Mode) (n : ℕ) (xs : List ℕ) (r : unit.Reading) → OfKinds (texted m n xs r)
unfolding texted
texted_kinds m n xs (unit.Text value stop from after) =
    parted_kinds string_part n value _ (of Kind.StringPart) (stop_kinds m stop, tt)
texted_kinds m n xs (unit.Refused refusal place) = tt
texted_kinds m n xs unit.Wait = tt

literal_kinds : (kind : Kind) (place : ℕ) (r : unit.Reading) → OfKinds (literal (kind_number kind) place r)
unfolding literal
literal_kinds kind place (unit.Text value stop from after) =
    if_kinds (is_left stop) _ _ (of Kind.StringPart, tt) (of kind, tt)
literal_kinds kind place (unit.Refused refusal fault) = tt
literal_kinds kind place unit.Wait = tt

single_kinds : (place : ℕ) (r : unit.Reading) → OfKinds (literal literal_single_quoted_string place r)
single_kinds place r = literal_kinds Kind.LiteralSingleQuotedString place r

double_kinds : (place : ℕ) (r : unit.Reading) → OfKinds (literal literal_double_quoted_string place r)
double_kinds place r = literal_kinds Kind.LiteralDoubleQuotedString place r

pub text_read_kinds : (m : Mode) (place n : ℕ) (xs : List ℕ) (r : unit.Reading)
    → OfKinds (text_read m place n xs r)
unfolding text_read
text_read_kinds Mode.Single place n xs r = single_kinds place r
text_read_kinds (Mode.Double octals) place n xs r = double_kinds place r
text_read_kinds (Mode.DoubleQuote octals) place n xs r = texted_kinds _ n xs r
text_read_kinds Mode.ShellExec place n xs r = texted_kinds _ n xs r
text_read_kinds (Mode.Heredoc octals) place n xs r = texted_kinds _ n xs r
text_read_kinds Mode.Nowdoc place n xs r = texted_kinds _ n xs r

number_kinds : (l : Literal) → OfKind (number_kind l)
unfolding number_kind
number_kinds Literal.Integer = of Kind.LiteralInteger
number_kinds Literal.Float = of Kind.LiteralFloat

pub numbered_kinds : (place : ℕ) (r : number.Reading) → OfKinds (numbered place r)
unfolding numbered
numbered_kinds place (number.Reading.Number l value after) = (number_kinds l, tt)
numbered_kinds place number.Reading.Wait = tt

-- ---- text blocks

pub opened_kinds : (n : ℕ) (o : Opening) → OfKinds (opened n o)
unfolding opened
opened_kinds n (Opening.Block kind start len after) = tt
opened_kinds n Opening.Other = tt
opened_kinds n Opening.Undecided = tt

-- ---- the modes that look for a name or an offset

module _ (end : Bool) (n : ℕ) where
  varname_kinds : (xs : List ℕ) (r : Option ℕ) → OfKinds (varname n xs r)
  unfolding varname
  varname_kinds xs (Some k) = if_kinds (is_bracketed (drop k xs)) _ _ (of Kind.Identifier, tt) tt
  varname_kinds xs None = tt

  pub looking_for_varname_kinds : (xs : List ℕ) → OfKinds (looking_for_varname end n xs)
  unfolding looking_for_varname
  looking_for_varname_kinds [] = if_kinds end _ _ tt tt
  looking_for_varname_kinds (b ∷ rest) = if_kinds (is_start b) _ _ (varname_kinds (b ∷ rest) (named end 1 rest)) tt

  property_kinds : (xs : List ℕ) (r : Option ℕ) → OfKinds (property n xs r)
  unfolding property
  property_kinds xs (Some k) = (of Kind.Identifier, tt)
  property_kinds xs None = tt

  arrow_head_kinds : (kind : Kind) (k : ℕ) (xs rest : List ℕ)
      → OfKinds (arrow_head (kind_number kind) k end n xs rest)
  unfolding arrow_head
  arrow_head_kinds kind k xs [] = if_kinds end _ _ tt tt
  arrow_head_kinds kind k xs (b ∷ rest) = if_kinds (b is ">") _ _ (of kind, tt) tt

  questioned_kinds : (xs rest : List ℕ) → OfKinds (questioned end n xs rest)
  unfolding questioned
  questioned_kinds xs [] = if_kinds end _ _ tt tt
  questioned_kinds xs (b ∷ rest) = if_kinds (b is "-") _ _ (arrow_head_kinds Kind.QuestionArrow 2 xs rest) tt

  pub looking_for_property_kinds : (xs : List ℕ) → OfKinds (looking_for_property end n xs)
  unfolding looking_for_property
  looking_for_property_kinds [] = if_kinds end _ _ tt tt
  looking_for_property_kinds (b ∷ rest) =
      if_kinds (b is "?") _ _ (questioned_kinds (b ∷ rest) rest)
      (if_kinds (b is "-") _ _ (arrow_head_kinds Kind.Arrow 1 (b ∷ rest) rest)
      (if_kinds (is_start b) _ _ (property_kinds (b ∷ rest) (named end 1 rest)) tt))

  pub var_offset_kinds : (xs : List ℕ) → OfKinds (var_offset end n xs)
  unfolding var_offset
  var_offset_kinds [] = if_kinds end _ _ tt tt
  var_offset_kinds (b ∷ rest) = tt

  -- ---- comments, Scripting

  commented_kinds : (kind : CommentKind) (xs : List ℕ) (r : CommentEnd) → OfKinds (commented kind n xs r)
  unfolding commented endless
  commented_kinds kind xs (CommentEnd.At k) = (of Kind.Comment, tt)
  commented_kinds CommentKind.SingleLine xs CommentEnd.Over = (of Kind.Comment, tt)
  commented_kinds CommentKind.MultiLine xs CommentEnd.Over = tt
  commented_kinds kind xs CommentEnd.Undecided = tt

  pub slash_kinds : (xs rest : List ℕ) → OfKinds (slash end n xs rest)
  unfolding slash
  slash_kinds xs [] = if_kinds end _ _ tt tt
  slash_kinds xs (b ∷ rest) =
      if_kinds (b is "/") _ _
      (commented_kinds CommentKind.SingleLine xs (comment_end CommentKind.SingleLine end 2 rest))
      (if_kinds (b is "*") _ _
      (commented_kinds CommentKind.MultiLine xs (comment_end CommentKind.MultiLine end 2 rest)) tt)

  pub hash_kinds : (xs rest : List ℕ) → OfKinds (hash end n xs rest)
  unfolding hash
  hash_kinds xs rest =
      if_kinds (is_next (code "[") rest) _ _ tt
      (commented_kinds CommentKind.SingleLine xs (comment_end CommentKind.SingleLine end 1 rest))

  point_kinds : (xs : List ℕ) → OfKinds (point end n xs)
  unfolding point
  point_kinds [] = if_kinds end _ _ tt tt
  point_kinds (b ∷ rest) =
      if_kinds (is_digit b) _ _ (numbered_kinds n (number.number_at end n (code "." ∷ b ∷ rest))) tt

  word_kinds : (r : Option ℕ) → OfKinds (word n r)
  unfolding word
  word_kinds (Some k) = tt
  word_kinds None = tt

  close_tag_kinds : (xs : List ℕ) → OfKinds (close_tag end n xs)
  unfolding close_tag
  close_tag_kinds [] = if_kinds end _ _ tt tt
  close_tag_kinds (b ∷ rest) = if_kinds (b is ">") _ _ tt tt

  pub scripting_kinds : (octals : Octal) (depth : ℕ) (xs : List ℕ) → OfKinds (scripting octals depth end n xs)
  unfolding scripting
  scripting_kinds octals depth [] = if_kinds end _ _ tt tt
  scripting_kinds octals depth (b ∷ rest) =
      if_kinds (b is "'") _ _ (single_kinds n (unit.text_at Mode.Single [] end (suc n) rest))
      (if_kinds (b is "\"") _ _ (double_kinds n (unit.text_at (Mode.Double octals) [] end (suc n) rest))
      (if_kinds (b is "`") _ _ tt
      (if_kinds (is_digit b) _ _ (numbered_kinds n (number.number_at end n (b ∷ rest)))
      (if_kinds (b is ".") _ _ (point_kinds rest)
      (if_kinds (is_start b) _ _ (word_kinds (named end 1 rest))
      (if_kinds (b is "{") _ _ tt
      (if_kinds (b is "}") _ _ tt
      (if_kinds (b is "?") _ _ (close_tag_kinds rest)
      (if_kinds (b is "<") _ _ (opened_kinds n (opening end (suc n) rest))
      (if_kinds (b is "/") _ _ (slash_kinds (b ∷ rest) rest)
      (if_kinds (b is "#") _ _ (hash_kinds (b ∷ rest) rest) tt)))))))))))

  -- ---- any frame, the step and the readings

  pub nowdoc_kinds : (reading : Reading) (label xs : List ℕ) → OfKinds (nowdoc reading label end n xs)
  unfolding nowdoc text_mode
  nowdoc_kinds Reading.Ported label xs = texted_kinds _ n xs (unit.text_at Mode.Nowdoc label end n xs)
  nowdoc_kinds Reading.Sheet label xs = texted_kinds _ n xs (sheet_at label end n xs)

  module _ (src : List ℕ) (choices : Choices) (depth : ℕ) (xs : List ℕ) where
    pub framed_kinds : (f : Frame) → OfKinds (framed f src choices depth end n xs)
    unfolding framed text_mode
    framed_kinds Frame.Initial = initial_kinds end n xs
    framed_kinds Frame.Scripting = scripting_kinds choices.octals depth xs
    framed_kinds Frame.DoubleQuote = texted_kinds _ n xs (unit.text_at (Mode.DoubleQuote choices.octals) [] end n xs)
    framed_kinds Frame.ShellExec = texted_kinds _ n xs (unit.text_at Mode.ShellExec [] end n xs)
    framed_kinds (Frame.Heredoc label) =
        texted_kinds _ n xs (unit.text_at (Mode.Heredoc choices.octals) (label_bytes src label) end n xs)
    framed_kinds (Frame.Nowdoc label) = nowdoc_kinds choices.nowdocs (label_bytes src label) xs
    framed_kinds Frame.LookingForVarname = looking_for_varname_kinds xs
    framed_kinds Frame.LookingForProperty = looking_for_property_kinds xs
    framed_kinds Frame.VarOffset = var_offset_kinds xs

    pub call_at_kinds : (call : Call) (f : Frame) → OfKinds (call_at call f src choices depth end n xs)
    unfolding call_at
    call_at_kinds Call.Step f = framed_kinds f
    call_at_kinds Call.Number f = if_kinds (is_scripting f) _ _ (numbered_kinds n (number.number_at end n xs)) tt
    call_at_kinds Call.Single f =
        if_kinds (is_scripting f) _ _ (single_kinds n (unit.text_at Mode.Single [] end n xs)) tt
    call_at_kinds Call.Double f =
        if_kinds (is_scripting f) _ _ (double_kinds n (unit.text_at (Mode.Double choices.octals) [] end n xs)) tt

pub call_kinds : (call : Call) (src : List ℕ) (end : Bool) (s : Session) → OfKinds (call_outcome call src end s)
unfolding call_outcome
call_kinds call src end s =
    limited_either OfKinds s.depth s.position _ tt
    (λ room. call_at_kinds end s.position src s.choices s.depth (rest src s) call (top_frame s))
