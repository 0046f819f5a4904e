-- The outcomes of inline text and of Scripting's table, row by row: each lies within the source, leaves the stack good
-- and goes on (Ways). Assumes nothing.
use Rattle.std.specs.Prelude.{if◌then◌else◌, Option, Some, None}
use Prim.Native.Nat.{ℕ, suc, ◌+◌, ◌-◌, ◌≤◌, ◌<◌}
use Prim.Native.Char.{code}
use mathlib.Core.Path.{◌≡◌, refl, sym, ap, ◌∙◌}
use mathlib.Core.Bool.{Bool, true, false}
use mathlib.Core.List.{List, [], ◌∷◌}
use native.Mathlib.Omega.{arith}
use lib.Dec.{ltb}
use lib.ListN.{length, take, drop, length-drop}
use lib.Seq.{drop-drop}
use borrow.Author.Tests.{ltb-true, le-leb}
use Rattle.byte.specs.declared.Octal.{Octal}
use Rattle.byte.specs.Refusals.{is_among}
use Rattle.byte.specs.Words.{◌is◌, every}
use Rattle.byte.specs.Bytes.{is_digit, is_start, is_identifier}
use Rattle.byte.proofs.Tests.{choice, &&-both}
use Rattle.state.specs.declared.Frame.{Frame}
use Rattle.state.specs.declared.Label.{Label}
use Rattle.state.specs.Bounds.{is_label, is_frame, is_bottom, is_scripting}
use Rattle.token.specs.Kinds.{inline_html, comment}
use Rattle.unit.specs.declared.Mode.{Mode}
use Rattle.unit.specs.Readings as unit
use Rattle.unit.proofs.Inside as unit-inside
use Rattle.unit.proofs.Stands.{faults}
use Rattle.number.proofs.Values.{digit_passes, point_passes}
use Rattle.outcome.specs.declared.Change.{Change}
use Rattle.outcome.specs.declared.CommentEnd.{CommentEnd}
use Rattle.outcome.specs.declared.CommentKind.{CommentKind}
use Rattle.outcome.specs.declared.DocStringKind.{DocStringKind}
use Rattle.outcome.specs.declared.Opening.{Opening}
use Rattle.outcome.specs.declared.OpenTagKind.{OpenTagKind}
use Rattle.outcome.specs.declared.Tagged.{Tagged}
use Rattle.outcome.specs.Outcomes.{Outcome}
use Rattle.outcome.specs.Initials.{tagged, tag_length, inlined, initial}
use Rattle.outcome.specs.Openings.{opening, doc_frame, opened}
use Rattle.outcome.specs.Texts.{literal}
use Rattle.outcome.specs.Lookings.{named}
use Rattle.outcome.specs.Comments.{is_next, end_taken, comment_end, endless, commented, comment_at, slash, hash}
use Rattle.outcome.specs.Scripts.{point, word, close_tag, scripting}
use Rattle.outcome.proofs.Pieces.{take-length, goes_inside, one_inside, parted_inside, parted_few}
use Rattle.outcome.proofs.Comments.{CommentInside, comment_end_inside}
use Rattle.outcome.proofs.Openings.{LabelInside, OpeningInside, opening_inside}
use Rattle.outcome.proofs.Initials.{TaggedInside, tagged_within}
use Rattle.outcome.proofs.Ways.{Welcome, ChangeGood, Asked, step_refusals, quoted_may, Ways, if_ways, waits, ending_ways}
use Rattle.outcome.proofs.Ways.{fault_ways, told_ways, goes_ways, token_ways, scripting_in, literal_ways}
use Rattle.outcome.proofs.Ways.{numbered_ways, RunInside, named_inside}

tag_some : (kind : OpenTagKind) → 0 < tag_length kind
unfolding tag_length
tag_some OpenTagKind.Full = omega arith
tag_some OpenTagKind.Echo = omega arith
tag_some OpenTagKind.Short = omega arith

module _ (src : List ℕ) where
  doc_in : (top : Frame) → is_scripting top ≡ true → (kind : DocStringKind) (l : Label) → is_label src l ≡ true
      → Welcome src top (doc_frame kind l)
  unfolding is_frame is_bottom is_scripting doc_frame
  doc_in top e DocStringKind.Heredoc l h = record { good = h; bottom = refl; other = rw e }
  doc_in top e DocStringKind.Nowdoc l h = record { good = h; bottom = refl; other = rw e }

  label_good : (m start len after : ℕ) → m ≤ length src → LabelInside m (drop m src) start len after
      → is_label src (record { start = start; len = len }) ≡ true
  unfolding is_label
  label_good m start len after h i =
      &&-both _ _
      (&&-both _ _ (&&-both _ _ (le-leb 1 len i.some) (le-leb len 64 i.most))
      (le-leb (start + len) (length src) (omega (arith, i.behind, i.inside, length-drop m src))))
      identifiers
    where
      identifiers : every is_identifier (take len (drop start src)) ≡ true
      identifiers =
          let z : m + (start - m) ≡ start = omega (arith, i.low) in
          rw (drop-drop, z) at i.identifiers

-- where there are more frames than so many, which is some, one may be left
left_good : (src : List ℕ) (top : Frame) (most depth : ℕ) → 1 ≤ most
    → ChangeGood src top depth (if ltb most depth then Change.Leave else Change.Keep)
left_good src top most depth h =
    choice (ChangeGood src top depth) (ltb most depth) _ _ (λ e. omega (arith, ltb-true most depth e)) (λ e. tt)

module _ {src : List ℕ} {n : ℕ} (a : Asked src n) (end : Bool) where
  pub initial_ways : is_scripting a.top ≡ false → (xs : List ℕ) → n + length xs ≡ length src
      → Ways a (initial end n xs)
  unfolding initial inlined
  initial_ways e xs h = go (tagged end n xs) (rw h at (tagged_within end n xs))
    where
      go : (t : Tagged) → TaggedInside n (length src) t → Ways a (inlined n xs t)
      go (Tagged.At kind place) i =
          told_ways a
          (parted_inside n (length src) inline_html (place + tag_length kind) (take (place - n) xs) _ i.low
          (omega arith) (omega arith)
          (omega (arith, take-length (place - n) xs, take-length (tag_length kind) (drop (place - n) xs), i.low))
          i.high)
          (parted_few inline_html n (take (place - n) xs) _)
          (λ g. scripting_in src a.top e)
          (λ g. omega (arith, i.low, tag_some kind))
      go Tagged.Over i =
          record {
            lies = one_inside n (length src) inline_html (n + length xs) xs (omega arith) (omega arith);
            stack = λ g. tt;
            on = λ g. tt;
            still = refl;
            few = omega arith;
            refusals = tt;
          }
      go Tagged.Undecided i = waits a

module _ {src : List ℕ} {n : ℕ} (a : Asked src n) (top : is_scripting a.top ≡ true)
    (octals : Octal) (step : a.refusals ≡ step_refusals octals) (end : Bool) where
  abbrev Way : Outcome → Type 0
  Way o = Ways a o

  -- one byte is passed
  sign : n < length src → Way (Outcome.Told [] (suc n) Change.Keep false)
  sign h = goes_ways a (omega arith) h (λ g. tt)

  point_ways : (xs : List ℕ) → suc n + length xs ≤ length src → Way (point end n xs)
  unfolding point
  point_ways [] y = ending_ways a end (sign (omega arith))
  point_ways (b ∷ xs) y =
      if_ways a (is_digit b) _ _ (numbered_ways a end (code "." ∷ b ∷ xs) (omega arith) (λ g. point_passes end n b xs))
      (sign (omega arith))

  word_ways : (r : Option ℕ) (size : ℕ) → n + size ≤ length src → RunInside 1 size r → Way (word n r)
  unfolding word
  word_ways (Some k) size y x = goes_ways a (omega (arith, x.0)) (omega (arith, x.1)) (λ g. tt)
  word_ways None size y x = waits a

  close_tag_ways : (xs : List ℕ) → suc n + length xs ≤ length src → Way (close_tag end n xs)
  unfolding close_tag is_frame is_bottom is_scripting
  close_tag_ways [] y = ending_ways a end (sign (omega arith))
  close_tag_ways (b ∷ xs) y =
      if_ways a (b is ">") _ _
      (goes_ways a (omega arith) (omega arith) (λ g. record { good = refl; bottom = refl; other = rw top }))
      (sign (omega arith))

  opened_ways : n < length src → Way (opened n (opening end (suc n) (drop (suc n) src)))
  unfolding opened
  opened_ways h = go (opening end (suc n) (drop (suc n) src)) (opening_inside (suc n) (drop (suc n) src) end)
    where
      go : (o : Opening) → OpeningInside (suc n) (drop (suc n) src) o → Way (opened n o)
      go (Opening.Block kind start len after) i =
          goes_ways a (omega (arith, i.low, i.behind)) (omega (arith, i.inside, length-drop (suc n) src))
          (λ g. doc_in src a.top top kind _ (label_good src (suc n) start len after (omega arith) i))
      go Opening.Other i = sign h
      go Opening.Undecided i = waits a

  -- ---- comments

  comment_at_ways : (kind : CommentKind) (k : ℕ) (xs rest : List ℕ) → 1 ≤ k → k + length rest ≤ length xs
      → n + length xs ≤ length src
      → Way (comment_at kind k end n xs rest)
  unfolding commented endless is_among
  comment_at_ways kind k xs rest s h y =
      go kind (comment_end kind end k rest) (comment_end_inside kind end k (length xs) rest h)
    where
      go : (kind : CommentKind) (r : CommentEnd) → CommentInside kind end k (length xs) r → Way (commented kind n xs r)
      go kind (CommentEnd.At j) x =
          token_ways a comment (j + end_taken kind) xs (omega (arith, x.0)) (omega (arith, x.1)) (λ g. tt)
      go CommentKind.SingleLine CommentEnd.Over x = token_ways a comment (length xs) xs (omega arith) y (λ g. tt)
      go CommentKind.MultiLine CommentEnd.Over x = fault_ways a (rw step refl) (omega arith) y
      go kind CommentEnd.Undecided x = waits a

  pub slash_ways : (xs rest : List ℕ) → 1 + length rest ≤ length xs → n + length xs ≤ length src
      → Way (slash end n xs rest)
  unfolding slash
  slash_ways xs [] h y = ending_ways a end (sign (omega arith))
  slash_ways xs (b ∷ rest) h y =
      if_ways a (b is "/") _ _ (comment_at_ways CommentKind.SingleLine 2 xs rest (omega arith) (omega arith) y)
      (if_ways a (b is "*") _ _ (comment_at_ways CommentKind.MultiLine 2 xs rest (omega arith) (omega arith) y)
      (sign (omega arith)))

  pub hash_ways : (xs rest : List ℕ) → 1 + length rest ≤ length xs → n + length xs ≤ length src
      → Way (hash end n xs rest)
  unfolding hash
  hash_ways xs rest h y =
      if_ways a (is_next (code "[") rest) _ _ (sign (omega arith))
      (comment_at_ways CommentKind.SingleLine 1 xs rest (omega arith) h y)

  -- ---- the table

  quoted_ways : (m : Mode) → every (λ k. is_among k (step_refusals octals)) (faults m) ≡ true → (kind : ℕ) (xs : List ℕ)
      → suc n + length xs ≡ length src
      → Way (literal kind n (unit.text_at m [] end (suc n) xs))
  quoted_ways m may kind xs h =
      literal_ways a top kind (suc n) (faults m) (rw step may) (unit.text_at m [] end (suc n) xs) (omega arith)
      (λ g. omega arith)
      (rw h at (unit-inside.text_inside m [] end (suc n) xs))

  pub scripting_ways : (xs : List ℕ) → drop n src ≡ xs → n + length xs ≡ length src
      → Way (scripting octals a.depth end n xs)
  unfolding scripting is_frame is_bottom is_scripting is_among every
  scripting_ways [] e y =
      ending_ways a end
      (record {
        lies = goes_inside n (length src) n (omega arith) a.inside;
        stack = λ g. tt;
        on = λ g. tt;
        still = refl;
        few = omega arith;
        refusals = tt;
      })
  scripting_ways (b ∷ xs) e y =
      if_ways a (b is "'") _ _ (quoted_ways Mode.Single refl _ xs (omega arith))
      (if_ways a (b is "\"") _ _ (quoted_ways (Mode.Double octals) (quoted_may octals) _ xs (omega arith))
      (if_ways a (b is "`") _ _
      (goes_ways a (omega arith) (omega arith) (λ g. record { good = refl; bottom = refl; other = rw top }))
      (choice Way (is_digit b) _ _ (λ f. numbered_ways a end (b ∷ xs) (omega arith) (λ g. digit_passes end n b xs f))
      (λ f.
      if_ways a (b is ".") _ _ (point_ways xs (omega arith))
      (if_ways a (is_start b) _ _
      (word_ways (named end 1 xs) (suc (length xs)) (omega arith)
      (named_inside end 1 (suc (length xs)) xs (omega arith)))
      (if_ways a (b is "{") _ _ (goes_ways a (omega arith) (omega arith) (λ g. refl))
      (if_ways a (b is "}") _ _ (goes_ways a (omega arith) (omega arith) (λ g. left_good src a.top _ a.depth (omega arith)))
      (if_ways a (b is "?") _ _ (close_tag_ways xs (omega arith))
      (if_ways a (b is "<") _ _ (rw behind at (opened_ways (omega arith)))
      (if_ways a (b is "/") _ _ (slash_ways (b ∷ xs) xs (omega arith) (omega arith))
      (if_ways a (b is "#") _ _ (hash_ways (b ∷ xs) xs (omega arith) (omega arith)) (sign (omega arith)))))))))))))
    where
      behind : drop (suc n) src ≡ xs
      behind =
          let k : suc n ≡ n + 1 = omega arith in
          rw k (sym (drop-drop 1 n src) ∙ ap (drop 1) e)
