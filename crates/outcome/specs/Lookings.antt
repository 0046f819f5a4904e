-- The modes LookingForVarname, LookingForProperty and VarOffset (document 01, "Modes", "Step", refusal 5), and runs of identifier bytes.
--   named                  how many identifier bytes come, where so many are passed
--   looking_for_varname    after `${`: a name before `[` or `}` is an Identifier; the top becomes Scripting in any case
--   looking_for_property   after a variable: `?->`, `->`, or a name, with which the frame is left; else 5, at the
--                          cursor
--   var_offset   in `$a[..]`: one byte is passed, and at `]` the frame is left; nothing left is 1
-- n is the position of the text's head, `end` says that the text is all there.
use Rattle.std.specs.Prelude.{ℕ, suc, ◌+◌, Bool, false, ◌||◌, List, [], ◌∷◌, take, drop, if◌then◌else◌, Option, Some, None}
use Rattle.byte.specs.Words.{◌is◌}
use Rattle.byte.specs.Bytes.{is_start, is_identifier}
use Rattle.byte.specs.Refusals.{unexpected_end_of_file, no_property}
use Rattle.state.specs.declared.Frame.{Frame}
use Rattle.token.specs.Kinds.{identifier, question_arrow, arrow}
use Rattle.outcome.specs.declared.Change.{Change}
use Rattle.outcome.specs.Outcomes.{Outcome, piece, goes, ending}

unfoldable pub named : Bool → ℕ → List ℕ → Option ℕ
named end k [] = if end then Some k else None
named end k (b ∷ rest) = if is_identifier b then named end (suc k) rest else Some k

-- the first k bytes of xs, which starts at n, as a token
abbrev pub token : ℕ → ℕ → List ℕ → ℕ → Change → Outcome
token kind n xs k change = Outcome.Told (piece kind n (take k xs) ∷ []) (n + k) change false

unfoldable pub is_bracketed : List ℕ → Bool
is_bracketed [] = false
is_bracketed (b ∷ rest) = b is "[" || b is "}"

unfoldable pub varname : ℕ → List ℕ → Option ℕ → Outcome
varname n xs (Some k) =
    if is_bracketed (drop k xs) then token identifier n xs k (Change.Swap Frame.Scripting) else goes n (Change.Swap Frame.Scripting)
varname n xs None = Outcome.Wait

unfoldable pub looking_for_varname : Bool → ℕ → List ℕ → Outcome
looking_for_varname end n [] = ending end (goes n (Change.Swap Frame.Scripting))
looking_for_varname end n (b ∷ rest) =
    if is_start b then varname n (b ∷ rest) (named end 1 rest) else goes n (Change.Swap Frame.Scripting)

unfoldable pub property : ℕ → List ℕ → Option ℕ → Outcome
property n xs (Some k) = token identifier n xs k Change.Leave
property n xs None = Outcome.Wait

-- the `>` of an arrow of this kind, of which so many bytes stand before it
unfoldable pub arrow_head : ℕ → ℕ → Bool → ℕ → List ℕ → List ℕ → Outcome
arrow_head kind k end n xs [] = ending end (Outcome.Refused no_property n)
arrow_head kind k end n xs (b ∷ rest) =
    if b is ">" then token kind n xs (suc k) Change.Keep else Outcome.Refused no_property n

-- after a `?`
unfoldable pub questioned : Bool → ℕ → List ℕ → List ℕ → Outcome
questioned end n xs [] = ending end (Outcome.Refused no_property n)
questioned end n xs (b ∷ rest) = if b is "-" then arrow_head question_arrow 2 end n xs rest else Outcome.Refused no_property n

unfoldable pub looking_for_property : Bool → ℕ → List ℕ → Outcome
looking_for_property end n [] = ending end (Outcome.Refused no_property n)
looking_for_property end n (b ∷ rest) =
    if b is "?" then questioned end n (b ∷ rest) rest
    else if b is "-" then arrow_head arrow 1 end n (b ∷ rest) rest
    else if is_start b then property n (b ∷ rest) (named end 1 rest)
    else Outcome.Refused no_property n

unfoldable pub var_offset : Bool → ℕ → List ℕ → Outcome
var_offset end n [] = ending end (Outcome.Refused unexpected_end_of_file n)
var_offset end n (b ∷ rest) = goes (suc n) (if b is "]" then Change.Leave else Change.Keep)
