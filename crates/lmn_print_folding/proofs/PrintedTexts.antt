-- The text of the events is that of the words of what is printed.
use Rattle.std.proofs.Common.{◌≡◌, ℕ, suc, ◌+◌, ◌-◌, ◌==◌, ◌&&◌, not, Bool, true, false, if◌then◌else◌, List, [], ◌∷◌, ◌++◌, map, Option, Some, None, refl, sym, ap, ◌∙◌, arith}
use Rattle.std.specs.Prelude.{codes}
use Rattle.std.proofs.lemmas.Bool.Decides.{nat_tests}
use Rattle.std.proofs.lemmas.List.{append-nil, append_assoc}
use Rattle.lmn_base.specs.declared.functor.Functor.{Functor}
use Rattle.lmn_congruence.specs.Rules.{Name, Label}
use Rattle.lmn_congruence.specs.Translation.{label_of}
use Rattle.lmn_print_folded.specs.Terms.{FoldedTerm, labelled, FoldedTerms, no_term, term_and}
use Rattle.lmn_print_folded.specs.Words as words
use Rattle.lmn_print_folded.specs.Words.{is_named, term_pieces, terms_pieces, cell_pieces, rest_pieces}
use Rattle.lmn_store_heap.specs.Heap.{Heap, arity_of, functor_of, link_of}
use Rattle.lmn_lexer.specs.declared.token.Kind.TheVariants as kind
use Rattle.lmn_flatten_plain.specs.Words.{Piece, word, space, spaced, text_of, link_name, label_piece, with_commas, parenthesized}
use Rattle.lmn_flatten_plain.specs.Labels.{label_text}
use Rattle.lmn_print_plain.specs.Rows.{in_row}
use Rattle.lmn_print_plain.proofs.LeafLemmas.{label_is}
use Rattle.lmn_print_plain.proofs.RowLemmas.{comma_row}
use Rattle.lmn_print_folding.specs.Marks.{is_item, term_at, argument_count, Event, meets_link, meets_term, leaves}
use Rattle.lmn_print_folding.specs.Events.{is_functor_named, prints_as_cell, is_nil, is_rest_port, is_rest, is_listed, functor_label_text, opening, before_argument, behind_arguments, events_text}
use Rattle.lmn_print_folding.specs.Printed.{PrintsArgument, as_link, as_term, PrintsAll, none, more}
use Rattle.lmn_print_folding.proofs.WalkLemmas.{arguments_of_term}
use Rattle.lmn_print_folding.proofs.PrintedWalks.{term_is, events, events_all}
use Rattle.lmn_flatten_plain.proofs.LaidLines.{text_append}
use Rattle.lmn_base.proofs.Numbers.{equal_when as equal_numbers}
use Rattle.lmn_base.proofs.Truth.{and_true as and_both}
use Rattle.lmn_store_heap.specs.Sound.{Paired}

four_not_three : (n : ℕ) → (suc (suc (suc (suc n))) == 3) ≡ false
four_not_three n = grind (arith, nat_tests)

two_not_one : (n : ℕ) → (suc (suc n) == 1) ≡ false
two_not_one n = grind (arith, nat_tests)

positive : (n : ℕ) → (suc n == 0) ≡ false
positive n = grind (arith, nat_tests)

positive_port : (i : ℕ) → (i + 1 == 0) ≡ false
positive_port i = grind (arith, nat_tests)

-- the text of arguments in parentheses
parentheses_text : (p : List Piece) (ps : List (List Piece)) → text_of (parenthesized (p ∷ ps)) ≡ 40 ∷ ((text_of p ++ in_row (codes ", ") true (map text_of ps)) ++ (41 ∷ []))
parentheses_text p ps = ap (λ t. 40 ∷ t) (text_append (with_commas (p ∷ ps)) _ ∙ ap (λ t. t ++ (41 ∷ [])) (comma_row (p ∷ ps)))

-- the words of a label with terms, and of such a rest of a cell, by whether it is a cell and whether it is the empty list
abbrev term_by : Label → FoldedTerms → Bool → Bool → List Piece
term_by l ts b d =
    if b then word kind.LBracket (codes "[") ∷ (cell_pieces ts ++ word kind.RBracket (codes "]") ∷ [])
    else if d then word kind.LBracket (codes "[") ∷ word kind.RBracket (codes "]") ∷ []
    else label_piece l ∷ parenthesized (terms_pieces ts)

abbrev rest_by : Label → FoldedTerms → Bool → Bool → List Piece
rest_by l ts b d =
    if b then word kind.Comma (codes ",") ∷ space ∷ cell_pieces ts
    else if d then []
    else spaced kind.Bar (codes "|") ++ label_piece l ∷ parenthesized (terms_pieces ts)

-- arguments in parentheses, without the one behind them
abbrev pub opened : FoldedTerms → List ℕ
opened no_term = []
opened (term_and t ts) = 40 ∷ (text_of (term_pieces t) ++ in_row (codes ", ") true (map text_of (terms_pieces ts)))

-- what closes the arguments of a term
abbrev pub closed : FoldedTerms → List ℕ
closed no_term = []
closed (term_and t ts) = codes ")"

opened_closed : (ts : FoldedTerms) → text_of (parenthesized (terms_pieces ts)) ≡ opened ts ++ closed ts
opened_closed no_term = refl
opened_closed (term_and t ts) = parentheses_text (term_pieces t) (terms_pieces ts)

-- the text of a label and its arguments
pub label_words : (l : Label) (ts : FoldedTerms) → text_of (label_piece l ∷ parenthesized (terms_pieces ts)) ≡ label_text l ++ (opened ts ++ closed ts)
label_words l ts = ap (λ z. z ++ text_of (parenthesized (terms_pieces ts))) (sym (label_is l)) ∙ ap (λ z. label_text l ++ z) (opened_closed ts)

module _ (names : List Name) (s : Heap) (name : ℕ → ℕ → ℕ) where
  abbrev text : List Event → List ℕ
  text = events_text names s name

  pub text_split : (es fs : List Event) → text (es ++ fs) ≡ text es ++ text fs
  text_split [] fs = refl
  text_split (meets_link a i ∷ es) fs = ap (λ t. (before_argument names s a i ++ link_name (name a i)) ++ t) (text_split es fs) ∙ sym (append_assoc (before_argument names s a i ++ link_name (name a i)) (text es) (text fs))
  text_split (meets_term a i c ∷ es) fs = ap (λ t. (before_argument names s a i ++ opening names s c) ++ t) (text_split es fs) ∙ sym (append_assoc (before_argument names s a i ++ opening names s c) (text es) (text fs))
  text_split (leaves c ∷ es) fs = ap (λ t. behind_arguments names s c ++ t) (text_split es fs) ∙ sym (append_assoc (behind_arguments names s c) (text es) (text fs))

  -- an argument without what stands before it
  abbrev body : {a i : ℕ} {t : FoldedTerm} → PrintsArgument names s name a i t → List ℕ
  body {a} {i} (as_link e) = link_name (name a i)
  body {a} {i} (as_term c f e g all) = opening names s c ++ (text (events_all names s name all) ++ behind_arguments names s c)

  body_text : {a i : ℕ} {t : FoldedTerm} (p : PrintsArgument names s name a i t) → text (events names s name p) ≡ before_argument names s a i ++ body p
  body_text {a} {i} (as_link e) = append-nil (before_argument names s a i ++ link_name (name a i))
  body_text {a} {i} (as_term c f e g all) =
      ap (λ t. (before_argument names s a i ++ opening names s c) ++ t) (text_split (events_all names s name all) (leaves c ∷ []) ∙ ap (λ t. text (events_all names s name all) ++ t) (append-nil (behind_arguments names s c)))
      ∙ append_assoc (before_argument names s a i) (opening names s c) (text (events_all names s name all) ++ behind_arguments names s c)

  -- what is written, case by case
  opening_cell : (c : ℕ) → prints_as_cell names s c ≡ true → opening names s c ≡ []
  opening_cell c e = ap (λ z. if z then [] else (if is_nil names s c then (if is_rest names s c then [] else codes "[]") else functor_label_text names (functor_of s c))) e

  opening_nil : (c : ℕ) (r : Bool) → prints_as_cell names s c ≡ false → is_nil names s c ≡ true → is_rest names s c ≡ r → opening names s c ≡ (if r then [] else codes "[]")
  opening_nil c r e d h =
      ap (λ z. if z then [] else (if is_nil names s c then (if is_rest names s c then [] else codes "[]") else functor_label_text names (functor_of s c))) e
      ∙ ap (λ z. if z then (if is_rest names s c then [] else codes "[]") else functor_label_text names (functor_of s c)) d ∙ ap (λ z. if z then [] else codes "[]") h

  pub opening_label : (c : ℕ) (f : Functor) → prints_as_cell names s c ≡ false → is_nil names s c ≡ false → functor_of s c ≡ Some f → opening names s c ≡ label_text (label_of names f.label)
  opening_label c f e d h =
      ap (λ z. if z then [] else (if is_nil names s c then (if is_rest names s c then [] else codes "[]") else functor_label_text names (functor_of s c))) e
      ∙ ap (λ z. if z then (if is_rest names s c then [] else codes "[]") else functor_label_text names (functor_of s c)) d ∙ ap (functor_label_text names) h

  before_plain : (a i : ℕ) → prints_as_cell names s a ≡ false → before_argument names s a i ≡ (if i == 0 then codes "(" else codes ", ")
  before_plain a i e =
      ap (λ z. if z then (if i == 0 then (if is_rest names s a then codes ", " else codes "[") else if is_listed names s (term_at s a i) then [] else codes " | ") else if i == 0 then codes "(" else codes ", ") e

  before_element : (a : ℕ) → prints_as_cell names s a ≡ true → before_argument names s a 0 ≡ (if is_rest names s a then codes ", " else codes "[")
  before_element a e =
      ap (λ z. if z then (if is_rest names s a then codes ", " else codes "[") else codes "(") e

  before_rest : (a : ℕ) → prints_as_cell names s a ≡ true → before_argument names s a 1 ≡ (if is_listed names s (term_at s a 1) then [] else codes " | ")
  before_rest a e =
      ap (λ z. if z then (if is_listed names s (term_at s a 1) then [] else codes " | ") else codes ", ") e

  closing_cell : (c : ℕ) → prints_as_cell names s c ≡ true → behind_arguments names s c ≡ (if is_rest names s c then [] else codes "]")
  closing_cell c e = ap (λ z. if z then (if is_rest names s c then [] else codes "]") else if argument_count s c == 0 then [] else codes ")") e

  closing_plain : (c n : ℕ) → prints_as_cell names s c ≡ false → argument_count s c ≡ n → behind_arguments names s c ≡ (if n == 0 then [] else codes ")")
  closing_plain c n e h =
      ap (λ z. if z then (if is_rest names s c then [] else codes "]") else if argument_count s c == 0 then [] else codes ")") e ∙ ap (λ z. if z == 0 then [] else codes ")") h

  -- a cell, and the empty list, in both ways
  cell_words : {a i n : ℕ} {ts : FoldedTerms} (l : Label) → PrintsAll names s name a i n ts → words.is_cell l ts ≡ (suc n == 3) && is_named (codes ".") l
  cell_words l none = refl
  cell_words l (more p none) = refl
  cell_words l (more p (more q none)) = refl
  cell_words l (more p (more q (more {n = n} r all))) = sym (ap (λ z. z && is_named (codes ".") l) (four_not_three n))

  nil_words : {a i n : ℕ} {ts : FoldedTerms} (l : Label) → PrintsAll names s name a i n ts → words.is_empty_list l ts ≡ (suc n == 1) && is_named (codes "[]") l
  nil_words l none = refl
  nil_words l (more {n = n} p all) = sym (ap (λ z. z && is_named (codes "[]") l) (two_not_one n))

  cell_is : (c n : ℕ) (f : Functor) → is_item s c ≡ false → arity_of s c ≡ suc n → functor_of s c ≡ Some f → prints_as_cell names s c ≡ (suc n == 3) && is_named (codes ".") (label_of names f.label)
  cell_is c n f e h g =
      ap (λ z. not z && ((arity_of s c == 3) && is_functor_named names (codes ".") (functor_of s c))) e
      ∙ ap (λ z. (z == 3) && is_functor_named names (codes ".") (functor_of s c)) h ∙ ap (λ z. (suc n == 3) && is_functor_named names (codes ".") z) g

  nil_is : (c n : ℕ) (f : Functor) → is_item s c ≡ false → arity_of s c ≡ suc n → functor_of s c ≡ Some f → is_nil names s c ≡ (suc n == 1) && is_named (codes "[]") (label_of names f.label)
  nil_is c n f e h g =
      ap (λ z. not z && ((arity_of s c == 1) && is_functor_named names (codes "[]") (functor_of s c))) e
      ∙ ap (λ z. (z == 1) && is_functor_named names (codes "[]") (functor_of s c)) h ∙ ap (λ z. (suc n == 1) && is_functor_named names (codes "[]") z) g

  listed_none : (o : Option ℕ) → o ≡ None → is_listed names s o ≡ false
  listed_none o e = ap (is_listed names s) e

  listed_some : (o : Option ℕ) (c : ℕ) (b d : Bool) → o ≡ Some c → prints_as_cell names s c ≡ b → is_nil names s c ≡ d → is_listed names s o ≡ (if b then true else d)
  listed_some o c b d e f g = ap (is_listed names s) e ∙ ap (λ z. if z then true else is_nil names s c) f ∙ ap (λ z. if b then true else z) g

  no_arguments : {a i n : ℕ} {ts : FoldedTerms} (p : PrintsAll names s name a i n ts) → n ≡ 0 → (text (events_all names s name p) ≡ []) × (ts ≡ no_term)
  no_arguments none e = (refl, refl)
  no_arguments (more p all) e = absurd (omega (arith, e))

  pub closed_is : {c i n : ℕ} {ts : FoldedTerms} (all : PrintsAll names s name c i n ts) → prints_as_cell names s c ≡ false → argument_count s c ≡ n → behind_arguments names s c ≡ closed ts
  closed_is {c} none e h = closing_plain c 0 e h
  closed_is {c} (more {n = n} p all) e h = closing_plain c (suc n) e h ∙ ap (λ z. if z then [] else codes ")") (positive n)

  -- a term, by the text of its arguments
  module _ (c n : ℕ) (f : Functor) (ts : FoldedTerms) (all : PrintsAll names s name c 0 n ts) (no_item : is_item s c ≡ false) (long : arity_of s c ≡ suc n) (g : functor_of s c ≡ Some f)
      (cells : prints_as_cell names s c ≡ true → text (events_all names s name all) ≡ (if is_rest names s c then codes ", " else codes "[") ++ text_of (cell_pieces ts))
      (plains : prints_as_cell names s c ≡ false → text (events_all names s name all) ≡ opened ts) where
    abbrev l : Label
    l = label_of names f.label

    abbrev inside : List ℕ
    inside = text (events_all names s name all)

    cell_word : (b : Bool) → prints_as_cell names s c ≡ b → words.is_cell l ts ≡ b
    cell_word b x = cell_words l all ∙ sym (cell_is c n f no_item long g) ∙ x

    nil_word : (b : Bool) → is_nil names s c ≡ b → words.is_empty_list l ts ≡ b
    nil_word b x = nil_words l all ∙ sym (nil_is c n f no_item long g) ∙ x

    printed : argument_count s c ≡ n
    printed = arguments_of_term s c no_item ∙ omega (arith, long)

    nothing : is_nil names s c ≡ true → n ≡ 0
    nothing y =
        let both = and_both (suc n == 1) (is_named (codes "[]") l) (sym (nil_is c n f no_item long g) ∙ y) in
        let one = equal_numbers (suc n) 1 both.0 in
        omega (arith, one)

    plain_term : (b d : Bool) → prints_as_cell names s c ≡ b → is_nil names s c ≡ d → is_rest names s c ≡ false → opening names s c ++ (inside ++ behind_arguments names s c) ≡ text_of (term_pieces (labelled l ts))
    plain_term true d x y r =
        ap (λ z. z ++ (inside ++ behind_arguments names s c)) (opening_cell c x)
        ∙ ap (λ z. z ++ behind_arguments names s c) (cells x ∙ ap (λ z. (if z then codes ", " else codes "[") ++ text_of (cell_pieces ts)) r)
        ∙ ap (λ z. (codes "[" ++ text_of (cell_pieces ts)) ++ z) (closing_cell c x ∙ ap (λ z. if z then [] else codes "]") r)
        ∙ ap (λ z. 91 ∷ z) (sym (text_append (cell_pieces ts) (word kind.RBracket (codes "]") ∷ [])))
        ∙ ap (λ z. text_of (term_by l ts z (words.is_empty_list l ts))) (sym (cell_word true x))
    plain_term false true x y r =
        let none = no_arguments all (nothing y) in
        ap (λ z. z ++ (inside ++ behind_arguments names s c)) (opening_nil c false x y r)
        ∙ ap (λ z. codes "[]" ++ (z ++ behind_arguments names s c)) none.0
        ∙ ap (λ z. codes "[]" ++ z) (closed_is all x printed ∙ ap closed none.1)
        ∙ ap (λ z. text_of (term_by l ts z true)) (sym (cell_word false x))
        ∙ ap (λ z. text_of (term_by l ts (words.is_cell l ts) z)) (sym (nil_word true y))
    plain_term false false x y r =
        ap (λ z. z ++ (inside ++ behind_arguments names s c)) (opening_label c f x y g)
        ∙ ap (λ z. label_text l ++ (z ++ behind_arguments names s c)) (plains x)
        ∙ ap (λ z. label_text l ++ (opened ts ++ z)) (closed_is all x printed)
        ∙ sym (label_words l ts)
        ∙ ap (λ z. text_of (term_by l ts z false)) (sym (cell_word false x))
        ∙ ap (λ z. text_of (term_by l ts (words.is_cell l ts) z)) (sym (nil_word false y))

    rest_term : (b d : Bool) (o : Option ℕ) → prints_as_cell names s c ≡ b → is_nil names s c ≡ d → is_rest names s c ≡ true → o ≡ Some c
        → (if is_listed names s o then [] else codes " | ") ++ (opening names s c ++ (inside ++ behind_arguments names s c)) ≡ text_of (rest_pieces (labelled l ts))
    rest_term true d o x y r e =
        ap (λ z. (if z then [] else codes " | ") ++ (opening names s c ++ (inside ++ behind_arguments names s c))) (listed_some o c true d e x y)
        ∙ ap (λ z. z ++ (inside ++ behind_arguments names s c)) (opening_cell c x)
        ∙ ap (λ z. z ++ behind_arguments names s c) (cells x ∙ ap (λ z. (if z then codes ", " else codes "[") ++ text_of (cell_pieces ts)) r)
        ∙ ap (λ z. (codes ", " ++ text_of (cell_pieces ts)) ++ z) (closing_cell c x ∙ ap (λ z. if z then [] else codes "]") r)
        ∙ append-nil (codes ", " ++ text_of (cell_pieces ts))
        ∙ ap (λ z. text_of (rest_by l ts z (words.is_empty_list l ts))) (sym (cell_word true x))
    rest_term false true o x y r e =
        let none = no_arguments all (nothing y) in
        ap (λ z. (if z then [] else codes " | ") ++ (opening names s c ++ (inside ++ behind_arguments names s c))) (listed_some o c false true e x y)
        ∙ ap (λ z. z ++ (inside ++ behind_arguments names s c)) (opening_nil c true x y r)
        ∙ ap (λ z. z ++ behind_arguments names s c) none.0
        ∙ (closed_is all x printed ∙ ap closed none.1)
        ∙ ap (λ z. text_of (rest_by l ts z true)) (sym (cell_word false x))
        ∙ ap (λ z. text_of (rest_by l ts (words.is_cell l ts) z)) (sym (nil_word true y))
    rest_term false false o x y r e =
        ap (λ z. (if z then [] else codes " | ") ++ (opening names s c ++ (inside ++ behind_arguments names s c))) (listed_some o c false false e x y)
        ∙ ap (λ z. codes " | " ++ z)
        (ap (λ z. z ++ (inside ++ behind_arguments names s c)) (opening_label c f x y g)
        ∙ ap (λ z. label_text l ++ (z ++ behind_arguments names s c)) (plains x)
        ∙ ap (λ z. label_text l ++ (opened ts ++ z)) (closed_is all x printed)
        ∙ sym (label_words l ts))
        ∙ ap (λ z. text_of (rest_by l ts z false)) (sym (cell_word false x))
        ∙ ap (λ z. text_of (rest_by l ts (words.is_cell l ts) z)) (sym (nil_word false y))

  module _ (paired : Paired s) where
    -- a term stands as the rest of a cell where its port does
    rest_is : (a i c : ℕ) (r : Bool) → term_at s a i ≡ Some c → is_rest_port names s (Some (a, i)) ≡ r → is_rest names s c ≡ r
    rest_is a i c r e h =
        let t = term_is s a i c e in
        let long = t.2 in
        let count : arity_of s c - 1 ≡ t.0 = omega (arith, long) in
        ap (is_rest_port names s) (ap (link_of s c) count ∙ paired.back a i c t.0 t.1) ∙ h

    arity_is : (a i c : ℕ) → term_at s a i ≡ Some c → arity_of s c ≡ suc (arity_of s c - 1)
    arity_is a i c e = let long = (term_is s a i c e).2 in omega (arith, long)

    rest_port : (a i : ℕ) → prints_as_cell names s a ≡ true → i ≡ 1 → is_rest_port names s (Some (a, i)) ≡ true
    rest_port a i e h = ap (λ z. (z == 1) && prints_as_cell names s a) h ∙ e

    plain_port : (a i : ℕ) → prints_as_cell names s a ≡ false → is_rest_port names s (Some (a, i)) ≡ false
    plain_port a i e = ap (λ z. (i == 1) && z) e ∙ none_of (i == 1)
      where
        none_of : (b : Bool) → (b && false) ≡ false
        none_of true = refl
        none_of false = refl

    first_port : (a i : ℕ) → i ≡ 0 → is_rest_port names s (Some (a, i)) ≡ false
    first_port a i e = ap (λ z. (z == 1) && prints_as_cell names s a) e

    cell_two : (c : ℕ) → prints_as_cell names s c ≡ true → arity_of s c - 1 ≡ 2
    cell_two c x =
        let both = and_both (not (is_item s c)) ((arity_of s c == 3) && is_functor_named names (codes ".") (functor_of s c)) x in
        let three = equal_numbers (arity_of s c) 3 (and_both (arity_of s c == 3) (is_functor_named names (codes ".") (functor_of s c)) both.1).0 in
        omega (arith, three)

    mutual
      -- an argument that isn't the rest of a cell
      pub plain_body : {a i : ℕ} {t : FoldedTerm} (p : PrintsArgument names s name a i t) → is_rest_port names s (Some (a, i)) ≡ false → body p ≡ text_of (term_pieces t)
      plain_body {a} {i} (as_link e) h = sym (append-nil (link_name (name a i)))
      plain_body {a} {i} (as_term {ts = ts} c f e g all) h =
          plain_term c (arity_of s c - 1) f ts all (term_is s a i c e).3 (arity_is a i c e) g (λ x. cell_args all refl (cell_two c x) x) (λ x. first_args all refl x) (prints_as_cell names s c) (is_nil names s c) refl refl (rest_is a i c false e h)

      -- the rest of a cell, with what stands before it
      pub rest_body : {a i : ℕ} {t : FoldedTerm} (p : PrintsArgument names s name a i t) → prints_as_cell names s a ≡ true → i ≡ 1 → before_argument names s a i ++ body p ≡ text_of (rest_pieces t)
      rest_body {a} {i} (as_link e) cell h =
          ap (λ z. z ++ link_name (name a i)) (ap (before_argument names s a) h ∙ before_rest a cell ∙ ap (λ z. if z then [] else codes " | ") (listed_none (term_at s a 1) (ap (term_at s a) (sym h) ∙ e)))
          ∙ ap (λ t. codes " | " ++ t) (sym (append-nil (link_name (name a i))))
      rest_body {a} {i} (as_term {ts = ts} c f e g all) cell h =
          ap (λ z. z ++ (opening names s c ++ (text (events_all names s name all) ++ behind_arguments names s c))) (ap (before_argument names s a) h ∙ before_rest a cell)
          ∙ rest_term c (arity_of s c - 1) f ts all (term_is s a i c e).3 (arity_is a i c e) g (λ x. cell_args all refl (cell_two c x) x) (λ x. first_args all refl x) (prints_as_cell names s c) (is_nil names s c) (term_at s a 1) refl refl
          (rest_is a i c true e (rest_port a i cell h)) (ap (term_at s a) (sym h) ∙ e)

      -- the element and the rest of a cell
      cell_args : {c i n : ℕ} {ts : FoldedTerms} (all : PrintsAll names s name c i n ts) → i ≡ 0 → n ≡ 2 → prints_as_cell names s c ≡ true
          → text (events_all names s name all) ≡ (if is_rest names s c then codes ", " else codes "[") ++ text_of (cell_pieces ts)
      cell_args none e two x = absurd (omega (arith, two))
      cell_args (more p none) e two x = absurd (omega (arith, two))
      cell_args {c} {i} (more {t = t} p (more {t = u} q none)) e two x =
          text_split (events names s name p) (events names s name q ++ [])
          ∙ ap (λ z. z ++ text (events names s name q ++ []))
          (body_text p ∙ ap (λ z. z ++ body p) (ap (before_argument names s c) e ∙ before_element c x) ∙ ap (λ z. (if is_rest names s c then codes ", " else codes "[") ++ z) (plain_body p (first_port c i e)))
          ∙ ap (λ z. ((if is_rest names s c then codes ", " else codes "[") ++ text_of (term_pieces t)) ++ z)
          (text_split (events names s name q) [] ∙ append-nil (text (events names s name q)) ∙ body_text q ∙ rest_body q x (ap (λ z. z + 1) e))
          ∙ append_assoc (if is_rest names s c then codes ", " else codes "[") (text_of (term_pieces t)) (text_of (rest_pieces u))
          ∙ ap (λ z. (if is_rest names s c then codes ", " else codes "[") ++ z) (sym (text_append (term_pieces t) (rest_pieces u)))
      cell_args (more p (more q (more r all))) e two x = absurd (omega (arith, two))

      -- arguments in parentheses, from the first on
      pub first_args : {c i n : ℕ} {ts : FoldedTerms} (all : PrintsAll names s name c i n ts) → i ≡ 0 → prints_as_cell names s c ≡ false → text (events_all names s name all) ≡ opened ts
      first_args none e x = refl
      first_args {c} {i} (more {t = t} {ts = ts} p all) e x =
          text_split (events names s name p) (events_all names s name all)
          ∙ ap (λ z. z ++ text (events_all names s name all)) (body_text p ∙ ap (λ z. z ++ body p) (before_plain c i x ∙ ap (λ z. if z == 0 then codes "(" else codes ", ") e) ∙ ap (λ z. codes "(" ++ z) (plain_body p (plain_port c i x)))
          ∙ ap (λ z. (40 ∷ text_of (term_pieces t)) ++ z) (later_args all (ap (λ z. z + 1 == 0) e) x)

      -- and those behind the first
      later_args : {c i n : ℕ} {ts : FoldedTerms} (all : PrintsAll names s name c i n ts) → (i == 0) ≡ false → prints_as_cell names s c ≡ false → text (events_all names s name all) ≡ in_row (codes ", ") true (map text_of (terms_pieces ts))
      later_args none e x = refl
      later_args {c} {i} (more {t = t} {ts = ts} p all) e x =
          text_split (events names s name p) (events_all names s name all)
          ∙ ap (λ z. z ++ text (events_all names s name all)) (body_text p ∙ ap (λ z. z ++ body p) (before_plain c i x ∙ ap (λ z. if z then codes "(" else codes ", ") e) ∙ ap (λ z. codes ", " ++ z) (plain_body p (plain_port c i x)))
          ∙ ap (λ z. (codes ", " ++ text_of (term_pieces t)) ++ z) (later_args all (positive_port i) x)
