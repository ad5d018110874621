-- Every abbreviation of a tree expanded.
use Rattle.std.specs.Prelude.{ℕ, ◌+◌, Bool, false, true, List, [], ◌∷◌, ◌++◌, codes}
use Rattle.lmn_base.specs.declared.refusal.Pos.{Pos}
use Rattle.lmn_congruence.specs.Rules.{Label, named}
use Rattle.lmn_lexer.specs.Laying.{Word}
use Rattle.lmn_parser.specs.Syntax.{Term, link, atom, list, list_onto, context, membrane, Terms, no_term, term_and, Item, atom_item, membrane_item, context_item, closed_item, bracketed, rule_context, plus_link, group, equation, Items, no_item, item_and, Clause, process, rule, Clauses, no_clause, clause_and}
use Rattle.lmn_flatten_plain.specs.Links.{Link, written, made, Use}
use Rattle.lmn_flatten_plain.specs.Expanded.{atom_leaf, typed_leaf, Context}
use Rattle.lmn_flatten_plain.specs.Parts.{Parts, NumberedParts, nothing, ◌⊕◌, one_leaf, one_context, one_rule_context, one_membrane, one_rule}
use Rattle.lmn_flatten_plain.specs.Meanings.{word_at, place_at, name_at, label_at}

-- The words of the tokens and their places are given. A part of a tree is at a way from the top of the tree: the last step
-- stands first, and 0, 1 and 2 are the parts of a node from left to right. What an abbreviation makes of an argument has
-- the place of the atom whose argument it is, both occurrences of its link too; what `\` copies keeps its places.
module _ (words : List Word) (places : List Pos) where
  -- the occurrence of a link at a place
  abbrev pub link_used : Link → Pos → Use
  link_used a pos = record { link = a; pos = pos }

  abbrev pub a_context : ℕ → Bool → Context
  a_context p closed = record { name = name_at words places p; closed = closed; pos = place_at words places p }

  -- a link that is written in the text
  abbrev pub written_link : ℕ → Use
  written_link p = let w = word_at words places p in link_used (written w.bytes) (place_at words places p)

  -- The occurrence that stands for an argument: a link itself, and else the link that is made for the term.
  abbrev pub argument : Pos → List ℕ → Term → Use
  argument pos way (link p) = written_link p
  argument pos way _ = link_used (made way) pos

  abbrev pub expanded_arguments : Pos → List ℕ → Terms → List Use
  expanded_arguments pos way no_term = []
  expanded_arguments pos way (term_and t ts) = argument pos (0 ∷ way) t ∷ expanded_arguments pos (1 ∷ way) ts

  -- the rest of a list cell behind which these terms and then this end stand
  abbrev pub rest : Pos → List ℕ → Use → Terms → Use
  rest pos way end no_term = end
  rest pos way end (term_and t ts) = link_used (made way) pos

  -- the own link of the `[]` that ends a list
  abbrev pub last_link : List ℕ → Link → Terms → Link
  last_link way x no_term = x
  last_link way x (term_and t ts) = made way

  abbrev mutual
    -- What a term makes, x being its own link: `q(s)` is `q(s,X)`, `$x` is `$x[X]`, `{P}` is `{'+'(X), P}`, and a list is its
    -- cells.
    pub expanded_term : Pos → List ℕ → Link → Term → NumberedParts
    expanded_term pos way x (link p) = nothing
    expanded_term pos way x (atom n ts) =
        one_leaf (atom_leaf (label_at words places n) (expanded_arguments (place_at words places n) way ts ++ link_used x pos ∷ []) (place_at words places n))
        ⊕ expanded_terms (place_at words places n) way ts
    expanded_term pos way x (context p) = one_leaf (typed_leaf (name_at words places p) (link_used x pos) (place_at words places p))
    expanded_term pos way x (membrane cs) = one_membrane (one_leaf (atom_leaf (named (codes "+")) (link_used x pos ∷ []) pos) ⊕ expanded_clauses way cs)
    expanded_term pos way x (list ts) =
        cells pos (0 ∷ way) (link_used (made (1 ∷ way)) pos) x ts
        ⊕ one_leaf (atom_leaf (named (codes "[]")) (link_used (last_link (1 ∷ way) x ts) pos ∷ []) pos)
    expanded_term pos way x (list_onto ts t) =
        cells pos (0 ∷ way) (argument pos (1 ∷ way) t) x ts ⊕ expanded_term pos (1 ∷ way) (made (1 ∷ way)) t

    -- the cells of a list with these elements, of which x is the first's own link, and this end
    pub cells : Pos → List ℕ → Use → Link → Terms → NumberedParts
    cells pos way end x no_term = nothing
    cells pos way end x (term_and t ts) =
        one_leaf (atom_leaf (named (codes ".")) (argument pos (0 ∷ way) t ∷ rest pos (1 ∷ way) end ts ∷ link_used x pos ∷ []) pos)
        ⊕ expanded_term pos (0 ∷ way) (made (0 ∷ way)) t
        ⊕ cells pos (1 ∷ way) end (made (1 ∷ way)) ts

    -- what arguments make
    pub expanded_terms : Pos → List ℕ → Terms → NumberedParts
    expanded_terms pos way no_term = nothing
    expanded_terms pos way (term_and t ts) = expanded_term pos (0 ∷ way) (made (0 ∷ way)) t ⊕ expanded_terms pos (1 ∷ way) ts

    pub expanded_item : List ℕ → Item → NumberedParts
    expanded_item way (atom_item n ts) =
        one_leaf (atom_leaf (label_at words places n) (expanded_arguments (place_at words places n) way ts) (place_at words places n))
        ⊕ expanded_terms (place_at words places n) way ts
    expanded_item way (membrane_item cs) = one_membrane (expanded_clauses way cs)
    expanded_item way (context_item p) = one_context (a_context p false)
    expanded_item way (closed_item p) = one_context (a_context p true)
    expanded_item way (bracketed p q) = one_leaf (typed_leaf (name_at words places p) (written_link q) (place_at words places p))
    expanded_item way (rule_context p) = one_rule_context (a_context p false)
    expanded_item way (plus_link p) = one_leaf (atom_leaf (named (codes "+")) (written_link (p + 1) ∷ []) (place_at words places p))
    expanded_item way (group c) = expanded_clause way c
    expanded_item way (equation l s r) =
        one_leaf (atom_leaf (named (codes "=")) (argument (place_at words places s) (0 ∷ way) l ∷ argument (place_at words places s) (1 ∷ way) r ∷ [])
        (place_at words places s))
        ⊕ expanded_term (place_at words places s) (0 ∷ way) (made (0 ∷ way)) l ⊕ expanded_term (place_at words places s) (1 ∷ way) (made (1 ∷ way)) r

    pub expanded_items : List ℕ → Items → NumberedParts
    expanded_items way no_item = nothing
    expanded_items way (item_and i is) = expanded_item (0 ∷ way) i ⊕ expanded_items (1 ∷ way) is

    -- the links of a rule are its own
    pub expanded_clause : List ℕ → Clause → NumberedParts
    expanded_clause way (process xs) = expanded_items way xs
    expanded_clause way (rule kept taken guard body pos) = one_rule (expanded_items (0 ∷ way) kept) (expanded_items (1 ∷ way) taken) guard (expanded_items (2 ∷ way) body) pos

    pub expanded_clauses : List ℕ → Clauses → NumberedParts
    expanded_clauses way no_clause = nothing
    expanded_clauses way (clause_and c cs) = expanded_clause (0 ∷ way) c ⊕ expanded_clauses (1 ∷ way) cs

  -- what a tree gives to the top
  abbrev pub parts_of : Clauses → Parts
  parts_of tree = expanded_clauses [] tree 0

  -- an atom, as lemmas tell it
  abbrev pub an_atom : Label → List Use → Pos → NumberedParts
  an_atom l us pos = one_leaf (atom_leaf l us pos)
