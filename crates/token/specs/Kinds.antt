-- The kinds of tokens by name (document 01, "Token list", and document 02, P2), as the source has them.
--   kind_number   the number by which a record names a kind
use Rattle.std.specs.Prelude.{ℕ}
use Rattle.token.specs.declared.Kind.{Kind}

abbrev pub inline_html : ℕ
inline_html = 1

abbrev pub open_tag_full : ℕ
open_tag_full = 2

abbrev pub open_tag_echo : ℕ
open_tag_echo = 3

abbrev pub open_tag_short : ℕ
open_tag_short = 4

abbrev pub string_part : ℕ
string_part = 5

abbrev pub dollar_left_brace : ℕ
dollar_left_brace = 6

abbrev pub left_brace : ℕ
left_brace = 7

abbrev pub double_quote : ℕ
double_quote = 8

abbrev pub backtick : ℕ
backtick = 9

abbrev pub variable : ℕ
variable = 10

abbrev pub end_doc_string_none : ℕ
end_doc_string_none = 11

abbrev pub end_doc_string_space : ℕ
end_doc_string_space = 12

abbrev pub end_doc_string_tab : ℕ
end_doc_string_tab = 13

abbrev pub identifier : ℕ
identifier = 14

abbrev pub question_arrow : ℕ
question_arrow = 15

abbrev pub arrow : ℕ
arrow = 16

abbrev pub literal_single_quoted_string : ℕ
literal_single_quoted_string = 17

abbrev pub literal_double_quoted_string : ℕ
literal_double_quoted_string = 18

abbrev pub literal_integer : ℕ
literal_integer = 19

abbrev pub literal_float : ℕ
literal_float = 20

abbrev pub comment : ℕ
comment = 21

abbrev pub kind_number : Kind → ℕ
kind_number Kind.InlineHtml = inline_html
kind_number Kind.OpenTagFull = open_tag_full
kind_number Kind.OpenTagEcho = open_tag_echo
kind_number Kind.OpenTagShort = open_tag_short
kind_number Kind.StringPart = string_part
kind_number Kind.DollarLeftBrace = dollar_left_brace
kind_number Kind.LeftBrace = left_brace
kind_number Kind.DoubleQuote = double_quote
kind_number Kind.Backtick = backtick
kind_number Kind.Variable = variable
kind_number Kind.EndDocStringNone = end_doc_string_none
kind_number Kind.EndDocStringSpace = end_doc_string_space
kind_number Kind.EndDocStringTab = end_doc_string_tab
kind_number Kind.Identifier = identifier
kind_number Kind.QuestionArrow = question_arrow
kind_number Kind.Arrow = arrow
kind_number Kind.LiteralSingleQuotedString = literal_single_quoted_string
kind_number Kind.LiteralDoubleQuotedString = literal_double_quoted_string
kind_number Kind.LiteralInteger = literal_integer
kind_number Kind.LiteralFloat = literal_float
kind_number Kind.Comment = comment
