-- The mode Initial (document 01, "Rules easily misread"): inline text up to the first tag. The tags: `<?php` in any letter case, then
-- `<?=`, then `<?`. With no tag left InlineHtml is written even when empty, and the mode stays.
--   full_tag, open_tag, tag   after `<?` and letters of `php`; after `<?`; after `<`
--   tagged                    the first tag from n on
--   initial                   what contracts cite: the text before the tag, if there is some, and the tag with its own
--                             span
-- `end` says that the text is all there.
use Rattle.std.specs.Prelude.{ℕ, suc, ◌+◌, ◌-◌, Bool, true, false, List, [], ◌∷◌, ◌++◌, ◌≡◌, refl, eqb, length, take, drop, if◌then◌else◌}
use Rattle.byte.specs.Words.{◌is◌, ◌from◌to◌, bytes}
use Rattle.state.specs.declared.Frame.{Frame}
use Rattle.token.specs.Kinds.{inline_html, open_tag_full, open_tag_echo, open_tag_short}
use Rattle.outcome.specs.declared.Change.{Change}
use Rattle.outcome.specs.declared.OpenTagKind.{OpenTagKind}
use Rattle.outcome.specs.declared.Tag.{Tag}
use Rattle.outcome.specs.declared.Tagged.{Tagged}
use Rattle.outcome.specs.Outcomes.{Outcome, piece, unless_empty}

-- a letter in lower case
unfoldable pub lower : ℕ → ℕ
lower b = if b from "A" to "Z" then b + 32 else b

-- letters of the full tag that are still to come; where another byte comes, the tag is the short one
unfoldable pub full_tag : Bool → List ℕ → List ℕ → Tag
full_tag end [] xs = Tag.Open OpenTagKind.Full
full_tag end (a ∷ letters) [] = if end then Tag.Open OpenTagKind.Short else Tag.Undecided
full_tag end (a ∷ letters) (b ∷ rest) = if eqb a (lower b) then full_tag end letters rest else Tag.Open OpenTagKind.Short

unfoldable pub open_tag : Bool → List ℕ → Tag
open_tag end [] = if end then Tag.Open OpenTagKind.Short else Tag.Undecided
open_tag end (b ∷ rest) = if b is "=" then Tag.Open OpenTagKind.Echo else full_tag end (bytes "php") (b ∷ rest)

unfoldable pub tag : Bool → List ℕ → Tag
tag end [] = if end then Tag.None else Tag.Undecided
tag end (b ∷ rest) = if b is "?" then open_tag end rest else Tag.None

-- what stands at the `<` at n, or else the first tag after it
unfoldable pub or_later : Tag → ℕ → Tagged → Tagged
or_later (Tag.Open kind) n later = Tagged.At kind n
or_later Tag.None n later = later
or_later Tag.Undecided n later = Tagged.Undecided

unfoldable pub tagged : Bool → ℕ → List ℕ → Tagged
tagged end n [] = if end then Tagged.Over else Tagged.Undecided
tagged end n (b ∷ rest) = if b is "<" then or_later (tag end rest) n (tagged end (suc n) rest) else tagged end (suc n) rest

unfoldable pub tag_kind : OpenTagKind → ℕ
tag_kind OpenTagKind.Full = open_tag_full
tag_kind OpenTagKind.Echo = open_tag_echo
tag_kind OpenTagKind.Short = open_tag_short

unfoldable pub tag_length : OpenTagKind → ℕ
tag_length OpenTagKind.Full = 5
tag_length OpenTagKind.Echo = 3
tag_length OpenTagKind.Short = 2

-- inline text xs from n on, by its first tag
unfoldable pub inlined : ℕ → List ℕ → Tagged → Outcome
inlined n xs (Tagged.At kind place) =
    Outcome.Told
    (unless_empty inline_html n (take (place - n) xs)
    ++ piece (tag_kind kind) place (take (tag_length kind) (drop (place - n) xs)) ∷ [])
    (place + tag_length kind)
    (Change.Swap Frame.Scripting)
    false
inlined n xs Tagged.Over = Outcome.Told (piece inline_html n xs ∷ []) (n + length xs) Change.Keep true
inlined n xs Tagged.Undecided = Outcome.Wait

unfoldable pub initial : Bool → ℕ → List ℕ → Outcome
initial end n xs = inlined n xs (tagged end n xs)

-- worked sheets a, b and c
sheet_a : initial true 0 [] ≡ Outcome.Told (piece inline_html 0 [] ∷ []) 0 Change.Keep true
unfolding initial inlined tagged
sheet_a = refl

sheet_b : initial true 0 (bytes "a<?PHPx")
    ≡ Outcome.Told (piece inline_html 0 (bytes "a") ∷ piece open_tag_full 1 (bytes "<?PHP") ∷ []) 6 (Change.Swap Frame.Scripting) false
unfolding initial inlined unless_empty tag_kind tag_length tagged or_later tag open_tag full_tag lower bytes
sheet_b = refl

sheet_c : (initial false 0 (bytes "<?p") ≡ Outcome.Wait)
    × (initial false 0 (bytes "<?px")
    ≡ Outcome.Told (piece open_tag_short 0 (bytes "<?") ∷ []) 2 (Change.Swap Frame.Scripting) false)
unfolding initial inlined unless_empty tag_kind tag_length tagged or_later tag open_tag full_tag lower bytes
sheet_c = (refl, refl)
