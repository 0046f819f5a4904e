-- The refusals of document 01 by name, as the source has them.
--   number_of        the number by which a host knows one
--   is_same          whether two are one
--   is_among         whether one stands in a list
--   octal_refusals   what a call may refuse an octal escape with
use Rattle.std.specs.Prelude.{ℕ, Bool, false, ◌||◌, List, [], ◌∷◌, eqb}
use Rattle.byte.specs.declared.Octal.{Octal}
use Rattle.byte.specs.declared.Refusal.{Refusal}

abbrev pub unexpected_end_of_file : Refusal
unexpected_end_of_file = Refusal.UnexpectedEndOfFile

abbrev pub invalid_unicode_escape : Refusal
invalid_unicode_escape = Refusal.InvalidUnicodeEscape

abbrev pub invalid_octal_escape : Refusal
invalid_octal_escape = Refusal.InvalidOctalEscape

abbrev pub invalid_doc_indentation : Refusal
invalid_doc_indentation = Refusal.InvalidDocIndentation

-- `looking_for_property` meets neither arrow nor identifier
abbrev pub no_property : Refusal
no_property = Refusal.NoProperty

abbrev pub wait : Refusal
wait = Refusal.Wait

-- more tokens than places left
abbrev pub list_full : Refusal
list_full = Refusal.ListFull

-- more value bytes than pool left
abbrev pub pool_full : Refusal
pool_full = Refusal.PoolFull

-- a frame would be the 65th
abbrev pub stack_full : Refusal
stack_full = Refusal.StackFull

-- skip past the end, pop at depth 1, pushed label not 1 to 64 identifier bytes of the source, a reading without Scripting on top
abbrev pub out_of_place : Refusal
out_of_place = Refusal.OutOfPlace

-- source or pool over 65,536 bytes, or list over 65,537 tokens
abbrev pub too_large : Refusal
too_large = Refusal.TooLarge

-- session outside its bounds
abbrev pub bad_session : Refusal
bad_session = Refusal.BadSession

-- sheet reading: another byte inside the indentation
abbrev pub stray_indentation : Refusal
stray_indentation = Refusal.StrayIndentation

-- the number that document 01 gives it
abbrev pub number_of : Refusal → ℕ
number_of Refusal.UnexpectedEndOfFile = 1
number_of Refusal.InvalidUnicodeEscape = 2
number_of Refusal.InvalidOctalEscape = 3
number_of Refusal.InvalidDocIndentation = 4
number_of Refusal.NoProperty = 5
number_of Refusal.Wait = 6
number_of Refusal.ListFull = 7
number_of Refusal.PoolFull = 8
number_of Refusal.StackFull = 9
number_of Refusal.OutOfPlace = 10
number_of Refusal.TooLarge = 11
number_of Refusal.BadSession = 12
number_of Refusal.StrayIndentation = 13

abbrev pub is_same : Refusal → Refusal → Bool
is_same a b = eqb (number_of a) (number_of b)

unfoldable pub is_among : Refusal → List Refusal → Bool
is_among refusal [] = false
is_among refusal (r ∷ more) = is_same refusal r || is_among refusal more

-- 3 under the Rust's choice alone
unfoldable pub octal_refusals : Octal → List Refusal
octal_refusals Octal.Rust = invalid_octal_escape ∷ []
octal_refusals Octal.Manual = []
