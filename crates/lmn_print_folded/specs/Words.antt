-- The words in which a folded process is printed. Labels, links and rules are printed as in the plain form.
use Rattle.std.specs.Prelude.{ℕ, Bool, false, if◌then◌else◌, List, [], ◌∷◌, ◌++◌, map, codes, bytes_eq}
use Rattle.lmn_congruence.specs.Rules.{Label, named, integer}
use Rattle.lmn_lexer.specs.declared.token.Kind.TheVariants as kind
use Rattle.lmn_flatten_plain.specs.Words.{Piece, word, space, with_commas, parenthesized, spaced, label_piece, link_piece, rules_pieces, line_of_items}
use Rattle.lmn_print_folded.specs.Terms.{FoldedTerm, link, labelled, FoldedTerms, no_term, term_and, FoldedItem, Folded, folded, FoldedMembranes, no_membrane, membrane_and}
use Rattle.lmn_congruence.specs.Translation.{rules}

-- whether a label is this name
abbrev pub is_named : List ℕ → Label → Bool
is_named name (named n) = bytes_eq n name
is_named name (integer z) = false

-- whether a label with terms is a list cell, which has an element and a rest, or the empty list
abbrev pub is_cell : Label → FoldedTerms → Bool
is_cell l (term_and t (term_and r no_term)) = is_named (codes ".") l
is_cell l _ = false

-- a label without terms is the empty list
abbrev pub is_empty_list : Label → FoldedTerms → Bool
is_empty_list l no_term = is_named (codes "[]") l
is_empty_list l _ = false

abbrev mutual
  pub term_pieces : FoldedTerm → List Piece
  term_pieces (link x) = link_piece x ∷ []
  term_pieces (labelled l ts) =
      if is_cell l ts then word kind.LBracket (codes "[") ∷ (cell_pieces ts ++ word kind.RBracket (codes "]") ∷ [])
      else if is_empty_list l ts then word kind.LBracket (codes "[") ∷ word kind.RBracket (codes "]") ∷ []
      else label_piece l ∷ parenthesized (terms_pieces ts)

  -- the element of a cell, and what follows it
  pub cell_pieces : FoldedTerms → List Piece
  cell_pieces (term_and t (term_and r ts)) = term_pieces t ++ rest_pieces r
  cell_pieces _ = []

  -- For a rest that is a cell its element, and what follows that; nothing for the empty list; else a bar and the rest.
  pub rest_pieces : FoldedTerm → List Piece
  rest_pieces (link x) = spaced kind.Bar (codes "|") ++ link_piece x ∷ []
  rest_pieces (labelled l ts) =
      if is_cell l ts then word kind.Comma (codes ",") ∷ space ∷ cell_pieces ts
      else if is_empty_list l ts then []
      else spaced kind.Bar (codes "|") ++ label_piece l ∷ parenthesized (terms_pieces ts)

  pub terms_pieces : FoldedTerms → List (List Piece)
  terms_pieces no_term = []
  terms_pieces (term_and t ts) = term_pieces t ∷ terms_pieces ts

abbrev mutual
  -- the items, which are never written as lists, the membranes and the rules
  pub folded_pieces : Folded → List (List Piece)
  folded_pieces (folded items membranes rs) = map (λ i. label_piece i.label ∷ parenthesized (terms_pieces i.arguments)) items ++ (membranes_pieces membranes ++ rules_pieces (rules rs))

  pub membranes_pieces : FoldedMembranes → List (List Piece)
  membranes_pieces no_membrane = []
  membranes_pieces (membrane_and f fs) =
      (word kind.LBrace (codes "{") ∷ (with_commas (folded_pieces f) ++ word kind.RBrace (codes "}") ∷ [])) ∷ membranes_pieces fs

-- ---- words for lemmas

-- an item in its words, and the words as a line, with its line feed
abbrev pub item_pieces : FoldedItem → List Piece
item_pieces i = label_piece i.label ∷ parenthesized (terms_pieces i.arguments)

abbrev pub line_of_folded : Folded → List ℕ
line_of_folded f = line_of_items (folded_pieces f)
