-- A folded line is laid out as its words, and these are right.
use Rattle.std.proofs.Common.{◌≡◌, ℕ, ◌==◌, Bool, true, false, if◌then◌else◌, List, [], ◌∷◌, ◌++◌, map, inl, inr, refl, sym, subst, arith}
use Rattle.std.specs.Prelude.{codes}
use Rattle.std.specs.Char.{is_ascii_digit, is_ascii_lowercase}
use Rattle.std.specs.Fmt.{signed_decimal}
use Rattle.std.specs.List.{AllByRecursion}
use Rattle.std.proofs.lemmas.Bool.Decides.{nat_tests}
use Rattle.std.proofs.lemmas.List.{append-nil}
use Rattle.lmn_congruence.specs.Rules.{Label, named, integer, Name}
use Rattle.lmn_lexer.specs.declared.token.Kind.TheVariants as kind
use Rattle.lmn_lexer.specs.Laying.{Word, Laid, NoneStandsFirst, word as one_word}
use Rattle.lmn_lexer.specs.Spelling.{IsIntegerSpelling, is_bare_name}
use Rattle.lmn_flatten_plain.proofs.Decimals.{integer_spelled}
use Rattle.lmn_flatten_plain.specs.Words.{Piece, word, text_of, words_in, with_commas, with_full_stops, spaced, name_kind, piece_text, label_piece, link_piece, rules_pieces, parenthesized}
use Rattle.lmn_flatten_plain.proofs.LaidLines.{Goes, CanLay, text_behind, laid_as, comma_goes, bracket_goes, spaced_goes, word_then, arguments_goes, link_can, name_laid, integer_laid, both_can, braces_can, rules_can, top_laid}
use Rattle.lmn_flatten_plain.proofs.ReadGuards.{words_behind}
use Rattle.lmn_flatten_plain.proofs.RightLines.{Right, both_right, commas_right, stops_right, link_right, name_right, integer_right, in_parentheses as args_right, rules_right}
use Rattle.lmn_flatten_plain.specs.Spelled.{LabelSpelled}
use Rattle.lmn_flatten_plain.specs.Texts.{IntegersInRange}
use Rattle.lmn_print_folded.specs.Terms.{FoldedTerm, link, labelled, FoldedTerms, no_term, term_and, FoldedItem, Folded, folded, FoldedMembranes, no_membrane, membrane_and}
use Rattle.lmn_print_folded.specs.Words.{is_cell, is_empty_list, term_pieces, cell_pieces, rest_pieces, terms_pieces, item_pieces, folded_pieces, membranes_pieces, line_of_folded}
use Rattle.lmn_print_folded_laws.specs.Spelled.{TermSpelled, TermsSpelled, ItemSpelled, FoldedSpelled, MembranesSpelled}
use Rattle.lmn_congruence.specs.Translation.{rules}
use Rattle.lmn_lexer.specs.NameText.{quoted}
use Rattle.lmn_base.proofs.Truth.{first_true as and_first}

-- No word of a term begins with a colon, which may not stand behind `[`.

abbrev NoColon : List ℕ → Type 0
NoColon text = NoneStandsFirst (λ b. b == 58) text

small_letter : (b : ℕ) → is_ascii_lowercase b ≡ true → (b == 58) ≡ false
small_letter b h = grind (arith, nat_tests)

digit : (b : ℕ) → is_ascii_digit b ≡ true → (b == 58) ≡ false
digit b h = grind (arith, nat_tests)

minus_sign : (b : ℕ) → b ≡ 45 → (b == 58) ≡ false
minus_sign b h = grind (arith, nat_tests)

name_begins : (name : Name) (rest : List ℕ) → NoColon ((if is_bare_name name then name else quoted name) ++ rest)
name_begins name rest = go name (is_bare_name name) refl
  where
    go : (name : Name) (bare : Bool) → is_bare_name name ≡ bare → NoColon ((if bare then name else quoted name) ++ rest)
    go name false e = refl
    go [] true e = absurd (cc)
    go (b ∷ bs) true e = small_letter b (and_first _ _ e)

digits_begin : (bytes rest : List ℕ) → IsIntegerSpelling true bytes → NoColon (bytes ++ rest)
digits_begin [] rest h = absurd h
digits_begin (b ∷ bs) rest (inl h) = digit b h.0
digits_begin (b ∷ bs) rest (inr h) = minus_sign b h.1

label_begins : (l : Label) → LabelSpelled l → (rest : List ℕ) → NoColon (piece_text (label_piece l) ++ rest)
label_begins (named name) h rest = name_begins name rest
label_begins (integer z) h rest = let s = integer_spelled z h in digits_begin (signed_decimal z) rest s.spells

-- Terms.

label_then : (l : Label) → LabelSpelled l → (ps : List Piece) (rest : List ℕ) (ws : List Word) → Goes (text_of ps ++ rest) (words_in ps ++ ws)
    → Laid true (text_of (label_piece l ∷ ps) ++ rest) (words_in (label_piece l ∷ ps) ++ ws)
label_then (named name) h ps rest ws g =
    let w = name_laid name h in word_then (name_kind name) (if is_bare_name name then name else quoted name) ps rest ws w.spells w.follows g
label_then (integer z) h ps rest ws g = let w = integer_laid z h in word_then kind.Int (signed_decimal z) ps rest ws w.spells w.follows g

arguments_go : (pss : List (List Piece)) → AllByRecursion CanLay pss → (rest : List ℕ) (ws : List Word) → Goes rest ws
    → Goes (text_of (parenthesized pss) ++ rest) (words_in (parenthesized pss) ++ ws)
arguments_go [] h rest ws g = g
arguments_go (ps ∷ pss) h rest ws g = arguments_goes (ps ∷ pss) h g

by_name : (l : Label) (pss : List (List Piece)) → LabelSpelled l → AllByRecursion CanLay pss → CanLay (label_piece l ∷ parenthesized pss)
by_name l pss s h rest ws g = label_then l s (parenthesized pss) rest ws (arguments_go pss h rest ws g)

-- pieces that can be laid out, and don't begin with a colon
abbrev Begins : List Piece → Type 0
Begins ps = CanLay ps × ((rest : List ℕ) → NoColon (text_of ps ++ rest))

-- the same of pieces that may be none
abbrev MayBegin : List Piece → Type 0
MayBegin ps = CanLay ps × ((rest : List ℕ) → NoColon rest → NoColon (text_of ps ++ rest))

abbrev RestGoes : List Piece → Type 0
RestGoes ps = (rest : List ℕ) (ws : List Word) → Goes rest ws → Goes (text_of ps ++ rest) (words_in ps ++ ws)

three_cases : (P : List Piece → Type 0) (b c : Bool) (xs ys zs : List Piece) → P xs → P ys → P zs → P (if b then xs else if c then ys else zs)
three_cases P true c xs ys zs f g h = f
three_cases P false true xs ys zs f g h = g
three_cases P false false xs ys zs f g h = h

named_begins : (l : Label) (pss : List (List Piece)) → LabelSpelled l → AllByRecursion CanLay pss → Begins (label_piece l ∷ parenthesized pss)
named_begins l pss s h = (by_name l pss s h, λ rest. go rest)
  where
    go : (rest : List ℕ) → NoColon (text_of (label_piece l ∷ parenthesized pss) ++ rest)
    go rest =
        let P : List ℕ → Type 0 = NoColon in
        subst P (sym (text_behind (label_piece l ∷ []) (parenthesized pss) rest)) (begins_by l s (text_of (parenthesized pss) ++ rest))
      where
        begins_by : (l : Label) → LabelSpelled l → (rest : List ℕ) → NoColon (text_of (label_piece l ∷ []) ++ rest)
        begins_by l s rest = let P : List ℕ → Type 0 = λ t. NoColon (t ++ rest) in subst P (sym (append-nil (piece_text (label_piece l)))) (label_begins l s rest)

empty_begins : Begins (word kind.LBracket (codes "[") ∷ word kind.RBracket (codes "]") ∷ [])
empty_begins = (λ rest ws g. one_word {bytes = codes "["} refl refl refl (let b = bracket_goes g in b.laid true), λ rest. refl)

list_begins : (ps : List Piece) → MayBegin ps → Begins (word kind.LBracket (codes "[") ∷ (ps ++ word kind.RBracket (codes "]") ∷ []))
list_begins ps h = (λ rest ws g. go rest ws g, λ rest. refl)
  where
    go : (rest : List ℕ) (ws : List Word) → Goes rest ws
        → Laid true (91 ∷ (text_of (ps ++ word kind.RBracket (codes "]") ∷ []) ++ rest)) (record { kind = kind.LBracket; bytes = codes "[" } ∷ (words_in (ps ++ word kind.RBracket (codes "]") ∷ []) ++ ws))
    go rest ws g =
        let P : List ℕ → Type 0 = NoColon in
        let end = word kind.RBracket (codes "]") ∷ [] in
        one_word {bytes = codes "["} refl refl (subst P (sym (text_behind ps end rest)) (h.1 (93 ∷ rest) refl))
        (laid_as (text_behind ps end rest) (words_behind ps end ws) (h.0 _ _ (bracket_goes g)))

bar_goes : (ps : List Piece) → CanLay ps → RestGoes (spaced kind.Bar (codes "|") ++ ps)
bar_goes ps h rest ws g = spaced_goes kind.Bar (codes "|") (λ minus. refl) tt refl (h rest ws g)

mutual
  term_can : (t : FoldedTerm) → TermSpelled t → Begins (term_pieces t)
  term_can (link x) h = (link_can x, λ rest. refl)
  term_can (labelled l ts) h =
      three_cases Begins (is_cell l ts) (is_empty_list l ts) _ _ _ (list_begins (cell_pieces ts) (cell_can ts h.1)) empty_begins
      (named_begins l (terms_pieces ts) h.0 (terms_can ts h.1))

  cell_can : (ts : FoldedTerms) → TermsSpelled ts → MayBegin (cell_pieces ts)
  cell_can no_term h = (λ rest ws g. g.laid true, λ rest n. n)
  cell_can (term_and t no_term) h = (λ rest ws g. g.laid true, λ rest n. n)
  cell_can (term_and t (term_and r ts)) h =
      let first = term_can t h.0 in
      let behind = rest_goes r h.1.0 in
      let P : List ℕ → Type 0 = NoColon in (
        λ rest ws g. laid_as (text_behind (term_pieces t) (rest_pieces r) rest) (words_behind (term_pieces t) (rest_pieces r) ws) (first.0 _ _ (behind rest ws g)),
        λ rest n. subst P (sym (text_behind (term_pieces t) (rest_pieces r) rest)) (first.1 (text_of (rest_pieces r) ++ rest)),
      )

  rest_goes : (r : FoldedTerm) → TermSpelled r → RestGoes (rest_pieces r)
  rest_goes (link x) h = bar_goes (link_piece x ∷ []) (link_can x)
  rest_goes (labelled l ts) h =
      let inside = cell_can ts h.1 in
      three_cases RestGoes (is_cell l ts) (is_empty_list l ts) _ _ _ (λ rest ws g. comma_goes (inside.0 rest ws g)) (λ rest ws g. g)
      (bar_goes (label_piece l ∷ parenthesized (terms_pieces ts)) (by_name l (terms_pieces ts) h.0 (terms_can ts h.1)))

  terms_can : (ts : FoldedTerms) → TermsSpelled ts → AllByRecursion CanLay (terms_pieces ts)
  terms_can no_term h = tt
  terms_can (term_and t ts) h = let first = term_can t h.0 in (first.0, terms_can ts h.1)

items_can : (is : List FoldedItem) → AllByRecursion ItemSpelled is → AllByRecursion CanLay (map item_pieces is)
items_can [] h = tt
items_can (i ∷ is) h = (by_name i.label (terms_pieces i.arguments) h.0.0 (terms_can i.arguments h.0.1), items_can is h.1)

mutual
  folded_can : (f : Folded) → FoldedSpelled f → AllByRecursion CanLay (folded_pieces f)
  folded_can (folded is fs rs) h =
      both_can (map item_pieces is) _ (items_can is h.0) (both_can (membranes_pieces fs) (rules_pieces (rules rs)) (membranes_can fs h.1) (rules_can (rules rs) h.2))

  membranes_can : (fs : FoldedMembranes) → MembranesSpelled fs → AllByRecursion CanLay (membranes_pieces fs)
  membranes_can no_membrane h = tt
  membranes_can (membrane_and f fs) h = (braces_can (folded_pieces f) (folded_can f h.0), membranes_can fs h.1)

-- a folded line that a text can spell is laid out as its words
pub folded_laid : (f : Folded) → FoldedSpelled f → Laid true (line_of_folded f) (words_in (with_full_stops (folded_pieces f)))
folded_laid f h = laid_as refl (sym (append-nil (words_in (with_full_stops (folded_pieces f))))) (top_laid (folded_pieces f) (folded_can f h))

-- Integers in range.

label_right : (l : Label) → LabelSpelled l → Right (label_piece l ∷ [])
label_right (named name) h = (name_right name h, tt)
label_right (integer z) h = (integer_right z h, tt)

parentheses_right : (pss : List (List Piece)) → AllByRecursion Right pss → Right (parenthesized pss)
parentheses_right [] h = tt
parentheses_right (ps ∷ pss) h = args_right (ps ∷ pss) h

named_right : (l : Label) (pss : List (List Piece)) → LabelSpelled l → AllByRecursion Right pss → Right (label_piece l ∷ parenthesized pss)
named_right l pss s h = both_right (label_piece l ∷ []) (parenthesized pss) (label_right l s) (parentheses_right pss h)

all_both : (pss qss : List (List Piece)) → AllByRecursion Right pss → AllByRecursion Right qss → AllByRecursion Right (pss ++ qss)
all_both [] qss h k = k
all_both (ps ∷ pss) qss h k = (h.0, all_both pss qss h.1 k)

mutual
  term_right : (t : FoldedTerm) → TermSpelled t → Right (term_pieces t)
  term_right (link x) h = (link_right x, tt)
  term_right (labelled l ts) h =
      three_cases Right (is_cell l ts) (is_empty_list l ts) _ _ _
      ((λ i. absurd (cc)), both_right (cell_pieces ts) (word kind.RBracket (codes "]") ∷ []) (cell_right ts h.1) ((λ i. absurd (cc)), tt))
      ((λ i. absurd (cc)), ((λ i. absurd (cc)), tt))
      (named_right l (terms_pieces ts) h.0 (terms_right ts h.1))

  cell_right : (ts : FoldedTerms) → TermsSpelled ts → Right (cell_pieces ts)
  cell_right no_term h = tt
  cell_right (term_and t no_term) h = tt
  cell_right (term_and t (term_and r ts)) h = both_right (term_pieces t) (rest_pieces r) (term_right t h.0) (rest_right r h.1.0)

  rest_right : (r : FoldedTerm) → TermSpelled r → Right (rest_pieces r)
  rest_right (link x) h = ((λ i. absurd (cc)), (link_right x, tt))
  rest_right (labelled l ts) h =
      three_cases Right (is_cell l ts) (is_empty_list l ts) _ _ _ ((λ i. absurd (cc)), cell_right ts h.1) tt
      ((λ i. absurd (cc)), named_right l (terms_pieces ts) h.0 (terms_right ts h.1))

  terms_right : (ts : FoldedTerms) → TermsSpelled ts → AllByRecursion Right (terms_pieces ts)
  terms_right no_term h = tt
  terms_right (term_and t ts) h = (term_right t h.0, terms_right ts h.1)

items_right : (is : List FoldedItem) → AllByRecursion ItemSpelled is → AllByRecursion Right (map item_pieces is)
items_right [] h = tt
items_right (i ∷ is) h = (named_right i.label (terms_pieces i.arguments) h.0.0 (terms_right i.arguments h.0.1), items_right is h.1)

mutual
  folded_right : (f : Folded) → FoldedSpelled f → AllByRecursion Right (folded_pieces f)
  folded_right (folded is fs rs) h =
      all_both (map item_pieces is) _ (items_right is h.0) (all_both (membranes_pieces fs) (rules_pieces (rules rs)) (membranes_right fs h.1) (rules_right (rules rs) h.2))

  membranes_right : (fs : FoldedMembranes) → MembranesSpelled fs → AllByRecursion Right (membranes_pieces fs)
  membranes_right no_membrane h = tt
  membranes_right (membrane_and f fs) h =
      (((λ i. absurd (cc)), both_right (with_commas (folded_pieces f)) (word kind.RBrace (codes "}") ∷ []) (commas_right (folded_pieces f) (folded_right f h.0)) ((λ i. absurd (cc)), tt)), membranes_right fs h.1)

-- each word of a folded line that a text can spell is right
pub line_right : (f : Folded) → FoldedSpelled f → IntegersInRange (words_in (with_full_stops (folded_pieces f)))
line_right f h = stops_right (folded_pieces f) (folded_right f h)
