-- The literals and comments of every call stand as they are written: a row of Scripting's table that begins one is the
-- row of that text alone, and the other frames tell none. Assumes nothing.
--   single_row, .., hash_row   the rows that begin a literal or a comment
--   scripting_written          the table, row by row
--   framed_written             any frame
--   call_written               the step and the three readings
--   outcome_written            in a session, with the limit of 64 frames
use Rattle.std.specs.Prelude.{if◌then◌else◌, Option, Some, None}
use Prim.Native.Nat.{ℕ, suc, ◌-◌, ◌≤◌, ◌<◌}
use Prim.Native.Char.{code}
use mathlib.Core.Path.{◌≡◌, refl}
use mathlib.Core.Bool.{Bool, true, false}
use mathlib.Core.List.{List, [], ◌∷◌}
use native.Mathlib.Omega.{arith}
use lib.ListN.{length, take}
use borrow.Author.Tests.{eqb-true}
use Rattle.byte.specs.declared.Octal.{Octal}
use Rattle.byte.specs.Words.{◌is◌}
use Rattle.byte.specs.Bytes.{is_digit, is_start, is_letter}
use Rattle.byte.proofs.Tests.{choice}
use Rattle.state.specs.declared.Choices.{Choices}
use Rattle.state.specs.declared.Frame.{Frame}
use Rattle.state.specs.declared.Reading.{Reading}
use Rattle.state.specs.declared.Session.{Session}
use Rattle.state.specs.Bounds.{label_bytes, is_scripting}
use Rattle.token.specs.Kinds.{literal_single_quoted_string, literal_double_quoted_string}
use Rattle.unit.specs.declared.Mode.{Mode}
use Rattle.unit.specs.Readings as unit
use Rattle.unit.proofs.Openings.{other_byte}
use Rattle.number.specs.Numbers.{number_at}
use Rattle.number.proofs.Values.{number_at_shorter, digit_passes}
use Rattle.sheet.specs.Sheets.{sheet_at}
use Rattle.outcome.specs.declared.Call.{Call}
use Rattle.outcome.specs.declared.CommentKind.{CommentKind}
use Rattle.outcome.specs.declared.Opening.{Opening}
use Rattle.outcome.specs.Outcomes.{Outcome}
use Rattle.outcome.specs.Initials.{initial}
use Rattle.outcome.specs.Openings.{opening, opened}
use Rattle.outcome.specs.Texts.{texted, literal, numbered}
use Rattle.outcome.specs.Lookings.{named, looking_for_varname}
use Rattle.outcome.specs.Lookings.{looking_for_property, var_offset}
use Rattle.outcome.specs.Comments.{is_next, comment_at, slash, hash}
use Rattle.outcome.specs.Scripts.{point, word, close_tag, scripting}
use Rattle.outcome.specs.Steps.{text_mode, nowdoc, framed, top_frame, scripted, call_at, rest, call_outcome}
use Rattle.outcome.specs.Written.{is_quoted}
use Rattle.outcome.proofs.Comments.{is_next_take}
use Rattle.outcome.proofs.StepWays.{limited_either}
use Rattle.outcome.proofs.Others.{TellsNone, texted_none, initial_none, looking_for_varname_none}
use Rattle.outcome.proofs.Others.{looking_for_property_none, var_offset_none}
use Rattle.outcome.proofs.Alone.{others_written, single_as, double_as, single_quoting, double_quoting}
use Rattle.outcome.proofs.Alone.{step_written, reading_written, point_two, numbered_written, comment_written}
pub use Rattle.outcome.proofs.Alone.{PiecesWritten, OutcomeWritten}

-- ---- Scripting

-- the rows of the table that begin a literal or a comment
module _ (octals : Octal) (depth : ℕ) where
  single_row : (ys : List ℕ) → scripting octals depth true 0 (code "'" ∷ ys)
      ≡ literal literal_single_quoted_string 0 (unit.text_at Mode.Single [] true 1 ys)
  unfolding scripting
  single_row ys = refl

  double_row : (ys : List ℕ) → scripting octals depth true 0 (code "\"" ∷ ys)
      ≡ literal literal_double_quoted_string 0 (unit.text_at (Mode.Double octals) [] true 1 ys)
  unfolding scripting
  double_row ys = refl

  digit_row : (b : ℕ) (ys : List ℕ) → is_digit b ≡ true
      → scripting octals depth true 0 (b ∷ ys) ≡ numbered 0 (number_at true 0 (b ∷ ys))
  unfolding scripting is_digit
  digit_row b ys f =
      let single = other_byte is_digit (code "'") b refl f in
      let double = other_byte is_digit (code "\"") b refl f in
      let tick = other_byte is_digit (code "`") b refl f in
      rw (single, double, tick, f)

  point_row : (b : ℕ) (ys : List ℕ) → is_digit b ≡ true
      → scripting octals depth true 0 (code "." ∷ b ∷ ys) ≡ numbered 0 (number_at true 0 (code "." ∷ b ∷ ys))
  unfolding scripting point is_digit
  point_row b ys f = rw f

  line_row : (ys : List ℕ) → scripting octals depth true 0 (code "/" ∷ code "/" ∷ ys)
      ≡ comment_at CommentKind.SingleLine 2 true 0 (code "/" ∷ code "/" ∷ ys) ys
  unfolding scripting slash is_digit is_start is_letter
  line_row ys = refl

  block_row : (ys : List ℕ) → scripting octals depth true 0 (code "/" ∷ code "*" ∷ ys)
      ≡ comment_at CommentKind.MultiLine 2 true 0 (code "/" ∷ code "*" ∷ ys) ys
  unfolding scripting slash is_digit is_start is_letter
  block_row ys = refl

  hash_row : (ys : List ℕ) → is_next (code "[") ys ≡ false
      → scripting octals depth true 0 (code "#" ∷ ys) ≡ comment_at CommentKind.SingleLine 1 true 0 (code "#" ∷ ys) ys
  unfolding scripting hash is_digit is_start is_letter
  hash_row ys e = rw e

module _ (octals : Octal) (end : Bool) (n : ℕ) where
  abbrev Step : List ℕ → Outcome → Type 0
  Step xs o = OutcomeWritten Call.Step octals n xs o

  if_written : (xs : List ℕ) (t : Bool) (o p : Outcome) → Step xs o → Step xs p → Step xs (if t then o else p)
  if_written xs t o p x y = choice (Step xs) t o p (λ e. x) (λ e. y)

  digit_written : (b : ℕ) (rest : List ℕ) → is_digit b ≡ true → Step (b ∷ rest) (numbered n (number_at end n (b ∷ rest)))
  unfolding call_at framed
  digit_written b rest f =
      numbered_written octals Call.Step end n (b ∷ rest)
      (λ literal value after e src nowdocs depth.
      let on : n < after = rw e at (digit_passes end n b rest f) in
      let z : after - n ≡ suc (after - suc n) = omega arith in
      rw z (digit_row octals depth b (take (after - suc n) rest) f))

  point_written : (rest : List ℕ) → Step (code "." ∷ rest) (point end n rest)
  unfolding point call_at framed
  point_written [] = if_written (code "." ∷ []) end _ _ tt tt
  point_written (b ∷ rest) =
      choice (Step (code "." ∷ b ∷ rest)) (is_digit b) _ _
      (λ f. numbered_written octals Call.Step end n (code "." ∷ b ∷ rest)
      (λ literal value after e src nowdocs depth.
      let two : 2 ≤ length value = rw e at (point_two end n b rest f) in
      let shorter = number_at_shorter end n (code "." ∷ b ∷ rest) literal value after e in
      let z : after - n ≡ suc (suc (after - suc (suc n))) = omega arith in
      rw z (point_row octals depth b (take (after - suc (suc n)) rest) f)))
      (λ f. tt)

  word_written : (xs : List ℕ) (r : Option ℕ) → Step xs (word n r)
  unfolding word
  word_written xs (Some k) = tt
  word_written xs None = tt

  close_tag_written : (xs rest : List ℕ) → Step xs (close_tag end n rest)
  unfolding close_tag
  close_tag_written xs [] = if_written xs end _ _ tt tt
  close_tag_written xs (b ∷ rest) = if_written xs (b is ">") _ _ tt tt

  opened_written : (xs : List ℕ) (o : Opening) → Step xs (opened n o)
  unfolding opened
  opened_written xs (Opening.Block kind start len after) = tt
  opened_written xs Opening.Other = tt
  opened_written xs Opening.Undecided = tt

  slash_written : (rest : List ℕ) → Step (code "/" ∷ rest) (slash end n (code "/" ∷ rest) rest)
  unfolding slash
  slash_written [] = if_written (code "/" ∷ []) end _ _ tt tt
  slash_written (b ∷ rest) =
      choice (Step (code "/" ∷ b ∷ rest)) (b is "/") _ _
      (λ e.
      rw (eqb-true b (code "/") e)
      (comment_written octals CommentKind.SingleLine end n (code "/" ∷ code "/" ∷ []) rest
      (λ i depth. line_row octals depth (take i rest))))
      (λ e. choice (Step (code "/" ∷ b ∷ rest)) (b is "*") _ _
      (λ f.
      rw (eqb-true b (code "*") f)
      (comment_written octals CommentKind.MultiLine end n (code "/" ∷ code "*" ∷ []) rest
      (λ i depth. block_row octals depth (take i rest))))
      (λ f. tt))

  hash_written : (rest : List ℕ) → Step (code "#" ∷ rest) (hash end n (code "#" ∷ rest) rest)
  unfolding hash
  hash_written rest =
      choice (Step (code "#" ∷ rest)) (is_next (code "[") rest) _ _ (λ e. tt)
      (λ e. comment_written octals CommentKind.SingleLine end n (code "#" ∷ []) rest
      (λ i depth. hash_row octals depth (take i rest) (is_next_take (code "[") i rest e)))

  scripting_written : (depth : ℕ) (xs : List ℕ) → Step xs (scripting octals depth end n xs)
  unfolding scripting
  scripting_written depth [] = if_written [] end _ _ tt tt
  scripting_written depth (b ∷ rest) =
      choice W (b is "'") _ _
      (λ e. rw (eqb-true b (code "'") e)
      (step_written octals Mode.Single "'" literal_single_quoted_string single_quoting (single_as octals) end n
      (single_row octals)
      rest))
      (λ e. choice W (b is "\"") _ _
      (λ e. rw (eqb-true b (code "\"") e)
      (step_written octals (Mode.Double octals) "\"" literal_double_quoted_string (double_quoting octals)
      (double_as octals) end n
      (double_row octals) rest))
      (λ e. ifs (b is "`") _ _ tt
      (choice W (is_digit b) _ _ (λ f. digit_written b rest f)
      (λ e. choice W (b is ".") _ _ (λ e. rw (eqb-true b (code ".") e) (point_written rest))
      (λ e. ifs (is_start b) _ _ (word_written (b ∷ rest) (named end 1 rest))
      (ifs (b is "{") _ _ tt
      (ifs (b is "}") _ _ tt
      (ifs (b is "?") _ _ (close_tag_written (b ∷ rest) rest)
      (ifs (b is "<") _ _ (opened_written (b ∷ rest) (opening end (suc n) rest))
      (choice W (b is "/") _ _ (λ e. rw (eqb-true b (code "/") e) (slash_written rest))
      (λ e. choice W (b is "#") _ _ (λ e. rw (eqb-true b (code "#") e) (hash_written rest)) (λ e. tt))))))))))))
    where
      W : Outcome → Type 0
      W o = Step (b ∷ rest) o

      ifs : (t : Bool) (o p : Outcome) → Step (b ∷ rest) o → Step (b ∷ rest) p → Step (b ∷ rest) (if t then o else p)
      ifs = if_written (b ∷ rest)

-- ---- every call

framed_written : (f : Frame) (src : List ℕ) (choices : Choices) (depth : ℕ) (end : Bool) (n : ℕ) (xs : List ℕ)
    → OutcomeWritten Call.Step choices.octals n xs (framed f src choices depth end n xs)
unfolding framed text_mode nowdoc
framed_written f src choices depth end n xs = go f
  where
    none : (o : Outcome) → TellsNone o → OutcomeWritten Call.Step choices.octals n xs o
    none o = others_written Call.Step choices.octals n xs o

    text : (m : Mode) (r : unit.Reading) → OutcomeWritten Call.Step choices.octals n xs (texted m n xs r)
    text m r = none (texted m n xs r) (texted_none m n xs r)

    block : (reading : Reading) (label : List ℕ)
        → OutcomeWritten Call.Step choices.octals n xs (nowdoc reading label end n xs)
    block Reading.Ported label = text Mode.Nowdoc (unit.text_at Mode.Nowdoc label end n xs)
    block Reading.Sheet label = text Mode.Nowdoc (sheet_at label end n xs)

    go : (f : Frame) → OutcomeWritten Call.Step choices.octals n xs (framed f src choices depth end n xs)
    go Frame.Initial = none (initial end n xs) (initial_none end n xs)
    go Frame.Scripting = scripting_written choices.octals end n depth xs
    go Frame.DoubleQuote =
        text (Mode.DoubleQuote choices.octals) (unit.text_at (Mode.DoubleQuote choices.octals) [] end n xs)
    go Frame.ShellExec = text Mode.ShellExec (unit.text_at Mode.ShellExec [] end n xs)
    go (Frame.Heredoc label) =
        text (Mode.Heredoc choices.octals)
        (unit.text_at (Mode.Heredoc choices.octals) (label_bytes src label) end n xs)
    go (Frame.Nowdoc label) = block choices.nowdocs (label_bytes src label)
    go Frame.LookingForVarname = none (looking_for_varname end n xs) (looking_for_varname_none end n xs)
    go Frame.LookingForProperty = none (looking_for_property end n xs) (looking_for_property_none end n xs)
    go Frame.VarOffset = none (var_offset end n xs) (var_offset_none end n xs)

scripted_written : (call : Call) (octals : Octal) (f : Frame) (n : ℕ) (xs : List ℕ) (o : Outcome)
    → OutcomeWritten call octals n xs o
    → OutcomeWritten call octals n xs (scripted f n o)
scripted_written call octals f n xs o x =
    choice (OutcomeWritten call octals n xs) (is_scripting f) o _ (λ e. x) (λ e. tt)

pub call_written : (call : Call) (f : Frame) (src : List ℕ) (choices : Choices) (depth : ℕ) (end : Bool) (n : ℕ)
    (xs : List ℕ) → OutcomeWritten call choices.octals n xs (call_at call f src choices depth end n xs)
unfolding call_at is_scripting is_quoted
call_written Call.Step f src choices depth end n xs = framed_written f src choices depth end n xs
call_written Call.Number f src choices depth end n xs =
    scripted_written Call.Number choices.octals f n xs _
    (numbered_written choices.octals Call.Number end n xs (λ literal value after e src nowdocs depth. refl))
call_written Call.Single f src choices depth end n xs =
    scripted_written Call.Single choices.octals f n xs _
    (reading_written choices.octals Mode.Single "'" literal_single_quoted_string single_quoting
    (single_as choices.octals) end n Call.Single
    (λ text. refl) (λ src nowdocs depth text. refl) xs)
call_written Call.Double f src choices depth end n xs =
    scripted_written Call.Double choices.octals f n xs _
    (reading_written choices.octals (Mode.Double choices.octals) "\"" literal_double_quoted_string
    (double_quoting choices.octals) (double_as choices.octals) end n Call.Double
    (λ text. refl) (λ src nowdocs depth text. refl) xs)

pub outcome_written : (call : Call) (src : List ℕ) (end : Bool) (s : Session)
    → OutcomeWritten call s.choices.octals s.position (rest src s) (call_outcome call src end s)
unfolding call_outcome
outcome_written call src end s =
    limited_either (OutcomeWritten call s.choices.octals s.position (rest src s)) s.depth s.position _ tt
    (λ r. call_written call (top_frame s) src s.choices s.depth end s.position (rest src s))
