-- A text block opens exactly at document 01's row: `<<<`, a label of 1 to 64 bytes, in quotes for a nowdoc, and LF or CRLF. Assumes nothing.
--   RowAt         the row in a text that starts at n: where its label stands, and where its text starts
--   row_opens     at such a row a block opens
--   opens_row     where a block opens, there is such a row
--   opening_row   so each is said by the other
use Rattle.std.specs.Prelude.{if◌then◌else◌}
use Prim.Native.Nat.{ℕ, suc, ◌+◌, ◌≤◌}
use mathlib.Core.Path.{◌≡◌, refl, subst, ◌∙◌}
use mathlib.Core.Bool.{Bool, true, false, ◌&&◌, false≢true}
use mathlib.Core.List.{List, [], ◌∷◌, ◌++◌, append_assoc}
use mathlib.Core.Logic.{◌⊎◌, inl, inr, ◌↔◌}
use native.Mathlib.Omega.{arith}
use native.Mathlib.Nat.{zero-add, suc-add}
use lib.Dec.{ltb}
use lib.ListN.{length, length-append}
use borrow.Author.Tests.{eqb-true, ltb-true, lt-ltb}
use Rattle.byte.specs.Words.{◌is◌, every, bytes}
use Rattle.byte.specs.Bytes.{is_start, is_identifier, is_letter, is_digit}
use Rattle.byte.proofs.Words.{every_append}
use Rattle.byte.proofs.Tests.{choice, &&-left, &&-right, &&-both}
use Rattle.outcome.specs.declared.DocStringKind.{DocStringKind}
use Rattle.outcome.specs.declared.Opening.{Opening}
use Rattle.outcome.specs.Openings.{line_feed, doc_break, doc_quote, doc_end, doc_name, doc_start, doc_label, third_less, opening}
use Rattle.outcome.specs.Openings.{longest_label, is_name, quotes, labelled, OpeningRow}

pub record RowAt (n : ℕ) (xs : List ℕ) (kind : DocStringKind) (start len after : ℕ) : Type 0 where
  pub label : List ℕ
  pub newline : List ℕ
  pub more : List ℕ
  pub row : OpeningRow kind label newline more xs
  pub place : start ≡ n + 2 + length (quotes kind)
  pub size : len ≡ length label
  pub text : after ≡ start + len + length (quotes kind) + length newline

-- ---- a row opens a block

-- what follows a label begins with a byte that is of no name
record Begins (ys : List ℕ) : Type 0 where
  first : ℕ
  rest : List ℕ
  whole : ys ≡ first ∷ rest
  other : is_identifier first ≡ false

module _ (kind : DocStringKind) (start : ℕ) (end : Bool) where
  doc_name_passes : (label tail : List ℕ) (len p : ℕ) → every is_identifier label ≡ true → Begins tail → len + length label ≤ 64
      → doc_name kind start len end p (label ++ tail) ≡ doc_end kind start (len + length label) end (p + length label) tail
  unfolding doc_name every
  doc_name_passes [] tail len p e t h =
      let z : len + 0 ≡ len = omega arith in
      let y : p + 0 ≡ p = omega arith in
      rw (z, y, t.whole, t.other)
  doc_name_passes (c ∷ label) tail len p e t h =
      let z : len + suc (length label) ≡ suc len + length label = omega arith in
      let y : p + suc (length label) ≡ suc p + length label = omega arith in
      let here = &&-left (is_identifier c) (every is_identifier label) e in
      let later = doc_name_passes label tail (suc len) (suc p) (&&-right (is_identifier c) (every is_identifier label) e) t (omega (arith, h)) in
      rw (here, lt-ltb len longest_label (omega (arith, h)), z, y) later

  -- after the label: its break, and for a nowdoc the quote before it
  doc_end_opens : (newline more : List ℕ) (len p : ℕ) → (newline ≡ bytes "\n") ⊎ (newline ≡ bytes "\r\n")
      → doc_end kind start len end p (quotes kind ++ (newline ++ more))
      ≡ Opening.Block kind start len (p + length (quotes kind) + length newline)
  unfolding doc_end doc_quote doc_break line_feed quotes bytes
  doc_end_opens newline more len p = go kind
    where
      one : p + 0 + 1 ≡ suc p
      one = omega arith

      two : p + 0 + 2 ≡ suc (suc p)
      two = omega arith

      quoted_one : p + 1 + 1 ≡ suc (suc p)
      quoted_one = omega arith

      quoted_two : p + 1 + 2 ≡ suc (suc (suc p))
      quoted_two = omega arith

      go : (k : DocStringKind) → (newline ≡ bytes "\n") ⊎ (newline ≡ bytes "\r\n")
          → doc_end k start len end p (quotes k ++ (newline ++ more)) ≡ Opening.Block k start len (p + length (quotes k) + length newline)
      go DocStringKind.Heredoc (inl e) = rw (e, one)
      go DocStringKind.Heredoc (inr e) = rw (e, two)
      go DocStringKind.Nowdoc (inl e) = rw (e, quoted_one)
      go DocStringKind.Nowdoc (inr e) = rw (e, quoted_two)

row_begins : (kind : DocStringKind) (newline more : List ℕ) → (newline ≡ bytes "\n") ⊎ (newline ≡ bytes "\r\n")
    → Begins (quotes kind ++ (newline ++ more))
unfolding quotes bytes is_identifier is_start is_letter is_digit
row_begins DocStringKind.Heredoc newline more (inl e) = record { first = 10; rest = more; whole = rw e; other = refl }
row_begins DocStringKind.Heredoc newline more (inr e) = record { first = 13; rest = 10 ∷ more; whole = rw e; other = refl }
row_begins DocStringKind.Nowdoc newline more e = record { first = 39; rest = newline ++ more; whole = refl; other = refl }

-- a name does not begin with a quote
start_unquoted : (b : ℕ) → is_start b ≡ true → b is "'" ≡ false
unfolding is_start is_letter
start_unquoted b h = go (b is "'") refl
  where
    go : (t : Bool) → b is "'" ≡ t → b is "'" ≡ false
    go false e = e
    go true e = absurd (false≢true (rw (eqb-true b 39 e) at h))

module _ (end : Bool) (n : ℕ) where
  name_opens : (kind : DocStringKind) (label newline more : List ℕ) (p : ℕ) → is_name label ≡ true → length label ≤ 64
      → (newline ≡ bytes "\n") ⊎ (newline ≡ bytes "\r\n")
      → doc_start kind end p (label ++ (quotes kind ++ (newline ++ more)))
      ≡ Opening.Block kind p (length label) (p + length label + length (quotes kind) + length newline)
  unfolding doc_start is_name
  name_opens kind [] newline more p e h l = absurd (false≢true e)
  name_opens kind (b ∷ label) newline more p e h l =
      let y : suc p + length label ≡ p + suc (length label) = omega arith in
      let tail = quotes kind ++ (newline ++ more) in
      let start-so = &&-left (is_start b) (every is_identifier label) e in
      let named = doc_name_passes kind p end label tail 1 (suc p) (&&-right (is_start b) (every is_identifier label) e) (row_begins kind newline more l) (omega (arith, h)) in
      let opens = doc_end_opens kind p end newline more (1 + length label) (suc p + length label) l in
      rw start-so (named ∙ opens ∙ rw (y, suc-add 0 (length label), zero-add (length label)))

  label_opens : (kind : DocStringKind) (label newline more : List ℕ) → is_name label ≡ true → length label ≤ 64
      → (newline ≡ bytes "\n") ⊎ (newline ≡ bytes "\r\n")
      → opening end n (labelled kind label (quotes kind ++ (newline ++ more)))
      ≡ Opening.Block kind (n + 2 + length (quotes kind)) (length label)
      (n + 2 + length (quotes kind) + length label + length (quotes kind) + length newline)
  unfolding opening third_less doc_label quotes bytes is_name
  label_opens DocStringKind.Nowdoc label newline more e h l =
      let z : suc (suc (suc n)) ≡ n + 2 + 1 = omega arith in
      rw z (name_opens DocStringKind.Nowdoc label newline more (n + 2 + 1) e h l)
  label_opens DocStringKind.Heredoc [] newline more e h l = absurd (false≢true e)
  label_opens DocStringKind.Heredoc (b ∷ label) newline more e h l =
      let z : suc (suc n) ≡ n + 2 + 0 = omega arith in
      rw (start_unquoted b (&&-left (is_start b) (every is_identifier label) e), z)
      (name_opens DocStringKind.Heredoc (b ∷ label) newline more (n + 2 + 0) e h l)

pub row_opens : (end : Bool) (n : ℕ) (xs : List ℕ) (kind : DocStringKind) (start len after : ℕ) → RowAt n xs kind start len after
    → opening end n xs ≡ Opening.Block kind start len after
row_opens end n xs kind start len after r =
    rw (r.row.text, r.text, r.size, r.place)
    (label_opens end n kind r.label r.newline r.more r.row.name r.row.most r.row.line_end)

-- ---- where a block opens, there is a row

-- a name with one byte more
name_more : (label : List ℕ) (b : ℕ) → is_name label ≡ true → is_identifier b ≡ true → is_name (label ++ (b ∷ [])) ≡ true
unfolding is_name every
name_more [] b e f = absurd (false≢true e)
name_more (a ∷ label) b e f =
    &&-both (is_start a) (every is_identifier (label ++ (b ∷ []))) (&&-left (is_start a) (every is_identifier label) e)
    (every_append is_identifier label (b ∷ [])
    ∙ &&-both (every is_identifier label) (is_identifier b && true) (&&-right (is_start a) (every is_identifier label) e) (&&-both (is_identifier b) true f refl))

module _ (n : ℕ) (xs : List ℕ) where
  abbrev Rowed : Opening → Type 0
  Rowed (Opening.Block kind start len after) = RowAt n xs kind start len after
  Rowed Opening.Other = Unit {0}
  Rowed Opening.Undecided = Unit {0}

  if_rowed : (t : Bool) (o p : Opening) → (t ≡ true → Rowed o) → (t ≡ false → Rowed p) → Rowed (if t then o else p)
  if_rowed t o p x y = choice Rowed t o p x y

  last_rowed : (end : Bool) → Rowed (if end then Opening.Other else Opening.Undecided)
  last_rowed end = if_rowed end _ _ (λ e. tt) (λ e. tt)

  module _ (end : Bool) (kind : DocStringKind) where
    abbrev start : ℕ
    start = n + 2 + length (quotes kind)

    -- a label that was read
    module _ (label : List ℕ) (name : is_name label ≡ true) (most : length label ≤ 64) where
      line_feed_rowed : (p : ℕ) (cr ys : List ℕ) → (cr ≡ []) ⊎ (cr ≡ bytes "\r")
          → p ≡ start + length label + length (quotes kind) + length cr
          → xs ≡ labelled kind label (quotes kind ++ (cr ++ ys)) → Rowed (line_feed kind start (length label) end p ys)
      unfolding line_feed bytes
      line_feed_rowed p cr [] c e t = last_rowed end
      line_feed_rowed p cr (b ∷ ys) c e t =
          if_rowed (b is "\n") _ _
          (λ f.
          record {
            label = label;
            newline = cr ++ (b ∷ []);
            more = ys;
            row = record { text = rw (append_assoc cr (b ∷ []) ys) t; name = name; most = most; line_end = ended (eqb-true b 10 f) c };
            place = refl;
            size = refl;
            text = rw e (omega (arith, length-append cr (b ∷ [])));
          })
          (λ f. tt)
        where
          ended : b ≡ 10 → (cr ≡ []) ⊎ (cr ≡ bytes "\r") → (cr ++ (b ∷ []) ≡ bytes "\n") ⊎ (cr ++ (b ∷ []) ≡ bytes "\r\n")
          ended f (inl z) = inl (rw (z, f))
          ended f (inr z) = inr (rw (z, f))

      doc_break_rowed : (p : ℕ) (ys : List ℕ) → p ≡ start + length label + length (quotes kind)
          → xs ≡ labelled kind label (quotes kind ++ ys) → Rowed (doc_break kind start (length label) end p ys)
      unfolding doc_break bytes
      doc_break_rowed p [] e t = last_rowed end
      doc_break_rowed p (b ∷ ys) e t =
          if_rowed (b is "\r") _ _
          (λ f.
          line_feed_rowed (suc p) (b ∷ []) ys (inr (rw (eqb-true b 13 f))) (omega (arith, e)) t)
          (λ f. line_feed_rowed p [] (b ∷ ys) (inl refl) (omega (arith, e)) t)

  doc_quote_rowed : (end : Bool) (label : List ℕ) → is_name label ≡ true → length label ≤ 64 → (p : ℕ) (ys : List ℕ)
      → p ≡ n + 3 + length label → xs ≡ labelled DocStringKind.Nowdoc label ys
      → Rowed (doc_quote (n + 3) (length label) end p ys)
  unfolding doc_quote quotes bytes
  doc_quote_rowed end label name most p [] e t = last_rowed end
  doc_quote_rowed end label name most p (b ∷ ys) e t =
      let three : n + 2 + 1 ≡ n + 3 = omega arith in
      if_rowed (b is "'") _ _
      (λ f.
      rw three at (doc_break_rowed end DocStringKind.Nowdoc label name most (suc p) ys (omega (arith, e)) (rw (eqb-true b 39 f) at t)))
      (λ f. tt)

  module _ (end : Bool) where
    doc_end_rowed : (kind : DocStringKind) (label : List ℕ) → is_name label ≡ true → length label ≤ 64 → (p : ℕ) (ys : List ℕ)
        → p ≡ start end kind + length label → xs ≡ labelled kind label ys
        → Rowed (doc_end kind (start end kind) (length label) end p ys)
    unfolding doc_end quotes bytes
    doc_end_rowed DocStringKind.Heredoc label name most p ys e t =
        doc_break_rowed end DocStringKind.Heredoc label name most p ys (omega (arith, e)) t
    doc_end_rowed DocStringKind.Nowdoc label name most p ys e t =
        let three : n + 3 ≡ n + 2 + 1 = omega arith in
        rw three at (doc_quote_rowed end label name most p ys (omega (arith, e)) t)

    -- the label so far
    doc_name_rowed : (kind : DocStringKind) (label : List ℕ) → is_name label ≡ true → length label ≤ 64 → (p : ℕ) (ys : List ℕ)
        → p ≡ start end kind + length label → xs ≡ labelled kind label ys
        → Rowed (doc_name kind (start end kind) (length label) end p ys)
    unfolding doc_name
    doc_name_rowed kind label name most p [] e t = last_rowed end
    doc_name_rowed kind label name most p (b ∷ ys) e t =
        if_rowed (is_identifier b) _ _
        (λ f.
        if_rowed (ltb (length label) longest_label) _ _
        (λ g.
        let size : length (label ++ (b ∷ [])) ≡ suc (length label) = length-append label (b ∷ []) ∙ omega arith in
        rw size at
        (doc_name_rowed kind (label ++ (b ∷ [])) (name_more label b name f) (omega (arith, size, ltb-true (length label) longest_label g)) (suc p) ys
        (omega (arith, e, size)) (rw (append_assoc label (b ∷ []) ys) t)))
        (λ g. tt))
        (λ f. doc_end_rowed kind label name most p (b ∷ ys) e t)

    doc_start_rowed : (kind : DocStringKind) (p : ℕ) (ys : List ℕ) → p ≡ start end kind → xs ≡ labelled kind [] ys
        → Rowed (doc_start kind end p ys)
    unfolding doc_start is_name every
    doc_start_rowed kind p [] e t = last_rowed end
    doc_start_rowed kind p (b ∷ ys) e t =
        if_rowed (is_start b) _ _
        (λ f.
        rw e (doc_name_rowed kind (b ∷ []) (&&-both (is_start b) true f refl) (omega arith) (suc (start end kind)) ys (omega arith) t))
        (λ f. tt)

    doc_label_rowed : (p : ℕ) (ys : List ℕ) → p ≡ n + 2 → xs ≡ bytes "<<" ++ ys → Rowed (doc_label end p ys)
    unfolding doc_label quotes bytes
    doc_label_rowed p [] e t = last_rowed end
    doc_label_rowed p (b ∷ ys) e t =
        if_rowed (b is "'") _ _
        (λ f. doc_start_rowed DocStringKind.Nowdoc (suc p) ys (omega (arith, e)) (rw (eqb-true b 39 f) at t))
        (λ f. doc_start_rowed DocStringKind.Heredoc p (b ∷ ys) (omega (arith, e)) t)

    third_less_rowed : (p : ℕ) (ys : List ℕ) → p ≡ n + 1 → xs ≡ bytes "<" ++ ys → Rowed (third_less end p ys)
    unfolding third_less bytes
    third_less_rowed p [] e t = last_rowed end
    third_less_rowed p (b ∷ ys) e t =
        if_rowed (b is "<") _ _ (λ f. doc_label_rowed (suc p) ys (omega (arith, e)) (rw (eqb-true b 60 f) at t)) (λ f. tt)

    opening_rowed : (ys : List ℕ) → xs ≡ ys → Rowed (opening end n ys)
    unfolding opening bytes
    opening_rowed [] t = last_rowed end
    opening_rowed (b ∷ ys) t =
        if_rowed (b is "<") _ _ (λ f. third_less_rowed (suc n) ys (omega arith) (rw (eqb-true b 60 f) at t)) (λ f. tt)

pub opens_row : (end : Bool) (n : ℕ) (xs : List ℕ) (kind : DocStringKind) (start len after : ℕ)
    → opening end n xs ≡ Opening.Block kind start len after → RowAt n xs kind start len after
opens_row end n xs kind start len after e = subst (Rowed n xs) e (opening_rowed n xs end xs refl)

pub opening_row : (end : Bool) (n : ℕ) (xs : List ℕ) (kind : DocStringKind) (start len after : ℕ)
    → (opening end n xs ≡ Opening.Block kind start len after) ↔ RowAt n xs kind start len after
opening_row end n xs kind start len after =
    (opens_row end n xs kind start len after, row_opens end n xs kind start len after)
