-- Each look at the opening of a text block, on each way through it. Assumes nothing.
use Prim.Native.Nat.{ℕ, zero, suc, ◌+◌, ◌-◌, ◌<◌, ◌≤◌}
use mathlib.Core.Path.{◌≡◌, refl, sym, ◌∙◌}
use mathlib.Core.Bool.{Bool, true, false, not}
use mathlib.Core.List.{List, [], ◌∷◌}
use native.Mathlib.Omega.{arith}
use native.Mathlib.Numerals.{add-one}
use lib.ListN.{length, get_or, take, drop, drop_of_length-le, length-drop}
use lib.Seq.{take_all, drop-drop}
use lib.Dec.{ltb}
use native.Mathlib.Nat.{add-zero}
use Rattle.std.specs.Prelude.{if◌then◌else◌, position, cond, Option, Some, None}
use Rattle.std.specs.List.{position_or_len}
use borrow.Author.Tests.{ne_eqb, lt-ltb, le-ltb, ltb-true, ltb-false}
use Rattle.std.proofs.Common.{add_comm}
use Rattle.std.proofs.lemmas.Option.{cond_some}
use Rattle.byte.specs.Bytes.{is_start, is_identifier}
use Rattle.byte.proofs.Words.{drop-one}
use Rattle.outcome.specs.declared.DocStringKind.{DocStringKind}
use Rattle.outcome.specs.declared.Opening.{Opening}
use Rattle.outcome.specs.Openings.{last_opening, line_feed, doc_break, doc_quote, doc_end, doc_name, doc_start, doc_label, third_less, opening}

pub last_opening_end : (end : Bool) → end ≡ true → Opening.Other ≡ last_opening end
last_opening_end end e = rw e

pub last_opening_more : (end : Bool) → end ≡ false → Opening.Undecided ≡ last_opening end
last_opening_more end e = rw e

pub ruleset last_openings = (last_opening_end, last_opening_more)

-- after a label of this range
module _ (src : List ℕ) (n : ℕ) (end : Bool) (start len : ℕ) where
  module _ (past : length src ≤ n) (r : Opening) (e : r ≡ last_opening end) where
    pub line_feed_past : (kind : DocStringKind) → r ≡ line_feed kind start len end n (drop n src)
    unfolding line_feed
    line_feed_past kind = rw (drop_of_length-le src past) e

    pub doc_break_past : (kind : DocStringKind) → r ≡ doc_break kind start len end n (drop n src)
    unfolding doc_break
    doc_break_past kind = rw (drop_of_length-le src past) e

    pub doc_quote_past : r ≡ doc_quote start len end n (drop n src)
    unfolding doc_quote
    doc_quote_past = rw (drop_of_length-le src past) e

  module _ (h : n < length src) where
    pub line_feed_here : (kind : DocStringKind) → get_or src n 0 ≡ 10
        → Opening.Block kind start len (n + 1) ≡ line_feed kind start len end n (drop n src)
    unfolding line_feed
    line_feed_here kind b = rw (drop-one src n h, b, add-one n)

    pub line_feed_other : (kind : DocStringKind) → (get_or src n 0 ≡ 10 → ⊥) → Opening.Other ≡ line_feed kind start len end n (drop n src)
    unfolding line_feed
    line_feed_other kind b = rw (drop-one src n h, ne_eqb (get_or src n 0) 10 b)

    pub doc_break_return : (kind : DocStringKind) (r : Opening) → get_or src n 0 ≡ 13
        → r ≡ line_feed kind start len end (n + 1) (drop (n + 1) src) → r ≡ doc_break kind start len end n (drop n src)
    unfolding doc_break
    doc_break_return kind r b e = e ∙ rw (drop-one src n h, b, add-one n)

    pub doc_break_feed : (kind : DocStringKind) (r : Opening) → (get_or src n 0 ≡ 13 → ⊥)
        → r ≡ line_feed kind start len end n (drop n src) → r ≡ doc_break kind start len end n (drop n src)
    unfolding doc_break
    doc_break_feed kind r b e = e ∙ rw (drop-one src n h, ne_eqb (get_or src n 0) 13 b)

    pub doc_quote_here : (r : Opening) → get_or src n 0 ≡ 39
        → r ≡ doc_break DocStringKind.Nowdoc start len end (n + 1) (drop (n + 1) src) → r ≡ doc_quote start len end n (drop n src)
    unfolding doc_quote
    doc_quote_here r b e = e ∙ rw (drop-one src n h, b, add-one n)

    pub doc_quote_other : (get_or src n 0 ≡ 39 → ⊥) → Opening.Other ≡ doc_quote start len end n (drop n src)
    unfolding doc_quote
    doc_quote_other b = rw (drop-one src n h, ne_eqb (get_or src n 0) 39 b)

  pub doc_end_heredoc : (kind : DocStringKind) (r : Opening) → kind ≡ DocStringKind.Heredoc
      → r ≡ doc_break DocStringKind.Heredoc start len end n (drop n src) → r ≡ doc_end kind start len end n (drop n src)
  unfolding doc_end
  doc_end_heredoc kind r k e = rw k e

  pub doc_end_nowdoc : (kind : DocStringKind) (r : Opening) → kind ≡ DocStringKind.Nowdoc
      → r ≡ doc_quote start len end n (drop n src) → r ≡ doc_end kind start len end n (drop n src)
  unfolding doc_end
  doc_end_nowdoc kind r k e = rw k e

pub ruleset line_feeds = (line_feed_past, line_feed_here, line_feed_other)

pub ruleset doc_breaks = (doc_break_past, doc_break_return, doc_break_feed)

pub ruleset doc_quotes = (doc_quote_past, doc_quote_here, doc_quote_other)

pub ruleset doc_ends = (doc_end_heredoc, doc_end_nowdoc)

-- the label from its second byte on, which stands at n: the first byte that ends it decides, of the m + 1 that are looked at
abbrev ends_name : ℕ → Bool
ends_name b = not (is_identifier b)

same_test : (a b : ℕ) → ltb (suc a) (suc b) ≡ ltb a b
same_test a b = grind arith

module _ (kind : DocStringKind) (start : ℕ) (end : Bool) where
  name_ends : (len n m : ℕ) (xs : List ℕ) → len + m ≡ 64 → (k : ℕ) → k ≡ position_or_len ends_name (take (suc m) xs)
      → k < length (take (suc m) xs) → doc_name kind start len end n xs ≡ doc_end kind start (len + k) end (n + k) (drop k xs)
  unfolding doc_name
  name_ends len n m [] h k e l = absurd (omega arith)
  name_ends len n zero (b ∷ rest) h k e l = go (is_identifier b) refl e
    where
      go : (t : Bool) → is_identifier b ≡ t → k ≡ cond (not (not t)) 1 0
          → doc_name kind start len end n (b ∷ rest) ≡ doc_end kind start (len + k) end (n + k) (drop k (b ∷ rest))
      go true f g = absurd (omega arith)
      go false f g = rw (f, g, add-zero len, add-zero n)
  name_ends len n (suc m) (b ∷ rest) h k e l =
      go (is_identifier b) (position_or_len ends_name (take (suc m) rest)) refl e
      (λ g. name_ends (suc len) (suc n) m rest (omega arith) (position_or_len ends_name (take (suc m) rest)) refl g)
    where
      go : (t : Bool) (j : ℕ) → is_identifier b ≡ t → k ≡ cond (not (not t)) (1 + j) 0
          → (j < length (take (suc m) rest)
          → doc_name kind start (suc len) end (suc n) rest ≡ doc_end kind start (suc len + j) end (suc n + j) (drop j rest))
          → doc_name kind start len end n (b ∷ rest) ≡ doc_end kind start (len + k) end (n + k) (drop k (b ∷ rest))
      go true j f g later =
          let more : len + k ≡ suc len + j = omega arith in
          let place : n + k ≡ suc n + j = omega arith in
          let size : k ≡ suc j = omega arith in
          rw (f, lt-ltb len 64 (omega arith), more, place, size) (later (omega arith))
      go false j f g later = rw (f, g, add-zero len, add-zero n)

  name_goes : (len n m : ℕ) (xs : List ℕ) → len + m ≡ 64 → length (take (suc m) xs) ≤ position_or_len ends_name (take (suc m) xs)
      → doc_name kind start len end n xs ≡ (if ltb (length xs) (suc m) then last_opening end else Opening.Other)
  unfolding doc_name
  name_goes len n m [] h l = rw (lt-ltb 0 (suc m) (omega arith))
  name_goes len n zero (b ∷ rest) h l = go (is_identifier b) refl l ∙ rw (le-ltb (length (b ∷ rest)) 1 (omega arith))
    where
      go : (t : Bool) → is_identifier b ≡ t → 1 ≤ cond (not (not t)) 1 0 → doc_name kind start len end n (b ∷ rest) ≡ Opening.Other
      go true f g = rw (f, le-ltb len 64 (omega arith))
      go false f g = absurd (omega arith)
  name_goes len n (suc m) (b ∷ rest) h l =
      rw (same_test (length rest) (suc m))
      (go (is_identifier b) (position_or_len ends_name (take (suc m) rest)) refl l (λ g. name_goes (suc len) (suc n) m rest (omega arith) g))
    where
      go : (t : Bool) (j : ℕ) → is_identifier b ≡ t → suc (length (take (suc m) rest)) ≤ cond (not (not t)) (1 + j) 0
          → (length (take (suc m) rest) ≤ j
          → doc_name kind start (suc len) end (suc n) rest ≡ (if ltb (length rest) (suc m) then last_opening end else Opening.Other))
          → doc_name kind start len end n (b ∷ rest) ≡ (if ltb (length rest) (suc m) then last_opening end else Opening.Other)
      go true j f g later = rw (f, lt-ltb len 64 (omega arith)) (later (omega arith))
      go false j f g later = absurd (omega arith)

-- what a search for a byte says
module _ (test : ℕ → Bool) (xs : List ℕ) where
  found_at : (k : ℕ) → position test xs ≡ Some k → (k ≡ position_or_len test xs) × (k < length xs)
  found_at k e =
      let (t, p) = cond_some (ltb (position_or_len test xs) (length xs)) (position_or_len test xs) k e in
      (sym p, omega (arith, p, ltb-true (position_or_len test xs) (length xs) t))

  found_none : position test xs ≡ None → length xs ≤ position_or_len test xs
  found_none e = go (ltb (position_or_len test xs) (length xs)) refl e
    where
      go : (t : Bool) → ltb (position_or_len test xs) (length xs) ≡ t → cond t (Some (position_or_len test xs)) None ≡ None
          → length xs ≤ position_or_len test xs
      go true f g = absurd cc
      go false f g = ltb-false (position_or_len test xs) (length xs) f

-- by what the code finds
module _ (src : List ℕ) (n : ℕ) (end : Bool) (kind : DocStringKind) (start : ℕ) (found : Option ℕ)
    (e : found ≡ position ends_name (take 64 (take (length src - n) (drop n src)))) where
  whole : take (length src - n) (drop n src) ≡ drop n src
  whole = take_all (length src - n) (drop n src) (omega (arith, length-drop n src))

  pub name_end : (k : ℕ) (r : Opening) → found ≡ Some k → r ≡ doc_end kind start (k + 1) end (n + k) (drop (n + k) src)
      → r ≡ doc_name kind start 1 end n (drop n src)
  name_end k r f g =
      let p = found_at ends_name (take 64 (drop n src)) k (rw whole at (sym e ∙ f)) in
      g ∙ rw (add_comm k 1, ← drop-drop k n src) (sym (name_ends kind start end 1 n 63 (drop n src) refl k p.0 p.1))

  pub name_cut : (r : Opening) → found ≡ None → length (take (length src - n) (drop n src)) < 64 → r ≡ last_opening end
      → r ≡ doc_name kind start 1 end n (drop n src)
  name_cut r f h g =
      let p = found_none ends_name (take 64 (drop n src)) (rw whole at (sym e ∙ f)) in
      let few : ltb (length (drop n src)) 64 ≡ true = lt-ltb (length (drop n src)) 64 (rw whole at h) in
      g ∙ sym (name_goes kind start end 1 n 63 (drop n src) refl p ∙ rw few)

  pub name_long : found ≡ None → 64 ≤ length (take (length src - n) (drop n src)) → Opening.Other ≡ doc_name kind start 1 end n (drop n src)
  name_long f h =
      let p = found_none ends_name (take 64 (drop n src)) (rw whole at (sym e ∙ f)) in
      let many : ltb (length (drop n src)) 64 ≡ false = le-ltb (length (drop n src)) 64 (rw whole at h) in
      sym (name_goes kind start end 1 n 63 (drop n src) refl p ∙ rw many)

pub ruleset names = (name_end, name_cut, name_long)

-- up to the label
module _ (src : List ℕ) (n : ℕ) (end : Bool) where
  module _ (past : length src ≤ n) (r : Opening) (e : r ≡ last_opening end) where
    pub doc_start_past : (kind : DocStringKind) → r ≡ doc_start kind end n (drop n src)
    unfolding doc_start
    doc_start_past kind = rw (drop_of_length-le src past) e

    pub doc_label_past : r ≡ doc_label end n (drop n src)
    unfolding doc_label
    doc_label_past = rw (drop_of_length-le src past) e

    pub third_less_past : r ≡ third_less end n (drop n src)
    unfolding third_less
    third_less_past = rw (drop_of_length-le src past) e

    pub opening_past : r ≡ opening end n (drop n src)
    unfolding opening
    opening_past = rw (drop_of_length-le src past) e

  module _ (h : n < length src) where
    module _ (kind : DocStringKind) (flag : Bool) (f : flag ≡ is_start (get_or src n 0)) where
      pub doc_start_name : (r : Opening) → flag ≡ true → r ≡ doc_name kind n 1 end (n + 1) (drop (n + 1) src)
          → r ≡ doc_start kind end n (drop n src)
      unfolding doc_start
      doc_start_name r t e = e ∙ rw (drop-one src n h, ← f, t, add-one n)

      pub doc_start_other : flag ≡ false → Opening.Other ≡ doc_start kind end n (drop n src)
      unfolding doc_start
      doc_start_other t = rw (drop-one src n h, ← f, t)

    pub doc_label_quote : (r : Opening) → get_or src n 0 ≡ 39 → r ≡ doc_start DocStringKind.Nowdoc end (n + 1) (drop (n + 1) src)
        → r ≡ doc_label end n (drop n src)
    unfolding doc_label
    doc_label_quote r b e = e ∙ rw (drop-one src n h, b, add-one n)

    pub doc_label_plain : (r : Opening) → (get_or src n 0 ≡ 39 → ⊥) → r ≡ doc_start DocStringKind.Heredoc end n (drop n src)
        → r ≡ doc_label end n (drop n src)
    unfolding doc_label
    doc_label_plain r b e = e ∙ rw (drop-one src n h, ne_eqb (get_or src n 0) 39 b)

    pub third_less_on : (r : Opening) → get_or src n 0 ≡ 60 → r ≡ doc_label end (n + 1) (drop (n + 1) src) → r ≡ third_less end n (drop n src)
    unfolding third_less
    third_less_on r b e = e ∙ rw (drop-one src n h, b, add-one n)

    pub third_less_other : (get_or src n 0 ≡ 60 → ⊥) → Opening.Other ≡ third_less end n (drop n src)
    unfolding third_less
    third_less_other b = rw (drop-one src n h, ne_eqb (get_or src n 0) 60 b)

    pub opening_on : (r : Opening) → get_or src n 0 ≡ 60 → r ≡ third_less end (n + 1) (drop (n + 1) src) → r ≡ opening end n (drop n src)
    unfolding opening
    opening_on r b e = e ∙ rw (drop-one src n h, b, add-one n)

    pub opening_other : (get_or src n 0 ≡ 60 → ⊥) → Opening.Other ≡ opening end n (drop n src)
    unfolding opening
    opening_other b = rw (drop-one src n h, ne_eqb (get_or src n 0) 60 b)

pub ruleset doc_starts = (doc_start_past, doc_start_name, doc_start_other)

pub ruleset doc_labels = (doc_label_past, doc_label_quote, doc_label_plain)

pub ruleset third_lesses = (third_less_past, third_less_on, third_less_other)

pub ruleset openings = (opening_past, opening_on, opening_other)
