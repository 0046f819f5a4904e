-- Demand 3 for the opening of a text block: `opened_demands`, the step at a `<`. Assumes nothing.
-- What is not told is another byte at the end, and a block with the bytes that complete it. In the definitions' order, one law for
-- each look ahead, with `if_looks` for a choice.
use Rattle.std.specs.Prelude.{if◌then◌else◌}
use mathlib.Core.Path.{◌≡◌, refl, sym, ap, ◌∙◌}
use mathlib.Core.Bool.{Bool, true, false}
use mathlib.Core.List.{List, [], ◌∷◌, ◌++◌, append-nil}
use Prim.Native.Nat.{ℕ, suc}
use lib.Dec.{ltb}
use Rattle.byte.specs.Words.{◌is◌, every, bytes}
use Rattle.byte.specs.Bytes.{is_start, is_identifier, is_letter, is_digit}
use Rattle.byte.specs.Demand.{is_byte}
use Rattle.unit.proofs.Stays.{Stays, clash}
use Rattle.outcome.specs.declared.DocStringKind.{DocStringKind}
use Rattle.outcome.specs.declared.Opening.{Opening}
use Rattle.outcome.specs.Outcomes.{Outcome, limited}
use Rattle.outcome.specs.Openings.{longest_label, line_feed, doc_break, doc_quote, doc_end, doc_name, doc_start, doc_label, third_less, opening}
use Rattle.outcome.specs.Openings.{opened}
use Rattle.outcome.proofs.Demand.{Splits, splits, Demands, told_waits}

block_told : {A : Type 0} {kind : DocStringKind} {start len after : ℕ} → Opening.Block kind start len after ≡ Opening.Undecided → A
block_told e = clash cc

other_told : {A : Type 0} → Opening.Other ≡ Opening.Undecided → A
other_told e = clash cc

-- another byte, or these bytes make it a block
record Completes (f : List ℕ → Opening) : Type 0 where
  more : List ℕ
  more_bytes : every is_byte more ≡ true
  kind : DocStringKind
  start : ℕ
  len : ℕ
  after : ℕ
  now : f [] ≡ Opening.Other
  later : f more ≡ Opening.Block kind start len after

-- u with more announced, beside what each continuation gives
record Looks (u : Opening) (f : List ℕ → Opening) : Type 0 where
  stays : (c : List ℕ) → Stays Opening.Undecided u (f c)
  completes : u ≡ Opening.Undecided → Completes f
  told : f [] ≡ Opening.Undecided → ⊥

if_looks : {u v : Opening} {f g : List ℕ → Opening} (t : Bool) → Looks u f → Looks v g
    → Looks (if t then u else v) (λ c. if t then f c else g c)
if_looks true x y = x
if_looks false x y = y

settled : (u : Opening) → (u ≡ Opening.Undecided → ⊥) → Looks u (λ c. u)
settled u h = record { stays = λ c k. refl; completes = λ e. absurd (h e); told = h }

-- at the part's end
unseen : (f : List ℕ → Opening) (more : List ℕ) (kind : DocStringKind) (start len after : ℕ) → every is_byte more ≡ true → f [] ≡ Opening.Other
    → f more ≡ Opening.Block kind start len after → Looks Opening.Undecided f
unseen f more kind start len after b x y =
    record {
      stays = λ c k. absurd (k refl);
      completes = λ e.
          record { more = more; more_bytes = b; kind = kind; start = start; len = len; after = after; now = x; later = y };
      told = λ e. other_told (sym x ∙ e);
    }

module _ (kind : DocStringKind) (start len : ℕ) where
  line_feed_looks : (n : ℕ) (xs : List ℕ)
      → Looks (line_feed kind start len false n xs) (λ c. line_feed kind start len true n (xs ++ c))
  unfolding line_feed every bytes
  line_feed_looks n [] = unseen _ (bytes "\n") kind start len (suc n) refl refl refl
  line_feed_looks n (b ∷ xs) =
      if_looks (b is "\n") (settled (Opening.Block kind start len (suc n)) block_told) (settled Opening.Other other_told)

  doc_break_looks : (n : ℕ) (xs : List ℕ)
      → Looks (doc_break kind start len false n xs) (λ c. doc_break kind start len true n (xs ++ c))
  unfolding doc_break line_feed every bytes
  doc_break_looks n [] = unseen _ (bytes "\n") kind start len (suc n) refl refl refl
  doc_break_looks n (b ∷ xs) = if_looks (b is "\r") (line_feed_looks (suc n) xs) (line_feed_looks n (b ∷ xs))

module _ (start : ℕ) where
  doc_quote_looks : (len n : ℕ) (xs : List ℕ) → Looks (doc_quote start len false n xs) (λ c. doc_quote start len true n (xs ++ c))
  unfolding doc_quote doc_break line_feed every bytes
  doc_quote_looks len n [] = unseen _ (bytes "'\n") DocStringKind.Nowdoc start len (suc (suc n)) refl refl refl
  doc_quote_looks len n (b ∷ xs) =
      if_looks (b is "'") (doc_break_looks DocStringKind.Nowdoc start len (suc n) xs) (settled Opening.Other other_told)

  doc_end_looks : (kind : DocStringKind) (len n : ℕ) (xs : List ℕ)
      → Looks (doc_end kind start len false n xs) (λ c. doc_end kind start len true n (xs ++ c))
  unfolding doc_end
  doc_end_looks DocStringKind.Heredoc len n xs = doc_break_looks DocStringKind.Heredoc start len n xs
  doc_end_looks DocStringKind.Nowdoc len n xs = doc_quote_looks len n xs

  doc_name_end : (kind : DocStringKind) (len n : ℕ) → Looks (doc_name kind start len false n []) (doc_name kind start len true n)
  unfolding doc_name doc_end doc_quote doc_break line_feed every bytes is_identifier is_start is_letter is_digit
  doc_name_end DocStringKind.Heredoc len n = unseen _ (bytes "\n") DocStringKind.Heredoc start len (suc n) refl refl refl
  doc_name_end DocStringKind.Nowdoc len n = unseen _ (bytes "'\n") DocStringKind.Nowdoc start len (suc (suc n)) refl refl refl

  doc_name_looks : (kind : DocStringKind) (len n : ℕ) (xs : List ℕ)
      → Looks (doc_name kind start len false n xs) (λ c. doc_name kind start len true n (xs ++ c))
  unfolding doc_name
  doc_name_looks kind len n [] = doc_name_end kind len n
  doc_name_looks kind len n (b ∷ xs) =
      if_looks (is_identifier b) (if_looks (ltb len longest_label) (doc_name_looks kind (suc len) (suc n) xs) (settled Opening.Other other_told))
      (doc_end_looks kind len n (b ∷ xs))

doc_start_looks : (kind : DocStringKind) (n : ℕ) (xs : List ℕ) → Looks (doc_start kind false n xs) (λ c. doc_start kind true n (xs ++ c))
unfolding doc_start doc_name doc_end doc_quote doc_break line_feed every bytes is_identifier is_start is_letter is_digit
doc_start_looks DocStringKind.Heredoc n [] =
    unseen (doc_start DocStringKind.Heredoc true n) (bytes "a\n") DocStringKind.Heredoc n 1 (suc (suc n)) refl refl refl
doc_start_looks DocStringKind.Nowdoc n [] =
    unseen (doc_start DocStringKind.Nowdoc true n) (bytes "a'\n") DocStringKind.Nowdoc n 1 (suc (suc (suc n))) refl refl refl
doc_start_looks kind n (b ∷ xs) = if_looks (is_start b) (doc_name_looks n kind 1 (suc n) xs) (settled Opening.Other other_told)

doc_label_looks : (n : ℕ) (xs : List ℕ) → Looks (doc_label false n xs) (λ c. doc_label true n (xs ++ c))
unfolding doc_label doc_start doc_name doc_end doc_break line_feed every bytes is_identifier is_start is_letter is_digit
doc_label_looks n [] = unseen (doc_label true n) (bytes "a\n") DocStringKind.Heredoc n 1 (suc (suc n)) refl refl refl
doc_label_looks n (b ∷ xs) =
    if_looks (b is "'") (doc_start_looks DocStringKind.Nowdoc (suc n) xs) (doc_start_looks DocStringKind.Heredoc n (b ∷ xs))

third_less_looks : (n : ℕ) (xs : List ℕ) → Looks (third_less false n xs) (λ c. third_less true n (xs ++ c))
unfolding third_less doc_label doc_start doc_name doc_end doc_break line_feed every bytes is_identifier is_start is_letter is_digit
third_less_looks n [] =
    unseen (third_less true n) (bytes "<a\n") DocStringKind.Heredoc (suc n) 1 (suc (suc (suc n))) refl refl refl
third_less_looks n (b ∷ xs) = if_looks (b is "<") (doc_label_looks (suc n) xs) (settled Opening.Other other_told)

opening_looks : (n : ℕ) (xs : List ℕ) → Looks (opening false n xs) (λ c. opening true n (xs ++ c))
unfolding opening third_less doc_label doc_start doc_name doc_end doc_break line_feed every bytes is_identifier is_start is_letter is_digit
opening_looks n [] =
    unseen (opening true n) (bytes "<<a\n") DocStringKind.Heredoc (suc (suc n)) 1 (suc (suc (suc (suc n)))) refl refl refl
opening_looks n (b ∷ xs) = if_looks (b is "<") (third_less_looks (suc n) xs) (settled Opening.Other other_told)

-- ---- the step

opened_wait : (n : ℕ) (o : Opening) → opened n o ≡ Outcome.Wait → o ≡ Opening.Undecided
unfolding opened
opened_wait n (Opening.Block kind start len after) e = told_waits e
opened_wait n Opening.Other e = told_waits e
opened_wait n Opening.Undecided e = refl

opened_splits : (p n : ℕ) (f : List ℕ → Opening) → Completes f → Splits p (λ c. opened n (f c))
unfolding opened limited
opened_splits p n f x =
    splits p (λ c. opened n (f c)) x.more (opened n Opening.Other) (opened n (Opening.Block x.kind x.start x.len x.after))
    x.more_bytes
    (ap (opened n) x.now)
    (ap (opened n) x.later)
    (λ e. clash cc)

pub opened_demands : (n p : ℕ) → Demands p (λ end xs. opened n (opening end (suc n) xs))
unfolding opened
opened_demands n p =
    record {
      stays = λ part rest k. ap (opened n) ((opening_looks (suc n) part).stays rest (λ z. k (ap (opened n) z)));
      splits = λ part k. opened_splits p n _ ((opening_looks (suc n) part).completes (opened_wait n _ k));
      told = λ xs e.
          (opening_looks (suc n) xs).told (ap (opening true (suc n)) (append-nil xs) ∙ opened_wait n (opening true (suc n) xs) e);
    }
