-- Processes whose atoms stand as terms in the arguments of other atoms.
use Rattle.std.specs.Prelude.{ℕ, List, [], ◌∷◌, ◌++◌, map, flat_map}
use Rattle.lmn_congruence.specs.Rules.{Label, Rule}

-- A term is a link, or a label with terms. This one stands for an atom that has one link more: its last, which isn't printed.
mutual
  pub data FoldedTerm : Type 0 where
    link : ℕ → FoldedTerm
    labelled : Label → FoldedTerms → FoldedTerm

  pub data FoldedTerms : Type 0 where
    no_term : FoldedTerms
    term_and : FoldedTerm → FoldedTerms → FoldedTerms

-- an atom that is printed as an item, with all its arguments
pub record FoldedItem : Type 0 where
  pub label : Label
  pub arguments : FoldedTerms

-- The content of a membrane, or of the root: items, membranes and rules, in order.
mutual
  pub data Folded : Type 0 where
    folded : List FoldedItem → FoldedMembranes → List Rule → Folded

  pub data FoldedMembranes : Type 0 where
    no_membrane : FoldedMembranes
    membrane_and : Folded → FoldedMembranes → FoldedMembranes

-- The links that are printed, in printed order.
abbrev mutual
  pub term_links : FoldedTerm → List ℕ
  term_links (link x) = x ∷ []
  term_links (labelled l ts) = terms_links ts

  pub terms_links : FoldedTerms → List ℕ
  terms_links no_term = []
  terms_links (term_and t ts) = term_links t ++ terms_links ts

abbrev mutual
  pub folded_links : Folded → List ℕ
  folded_links (folded items membranes rules) = flat_map (λ i. terms_links i.arguments) items ++ membranes_links membranes

  pub membranes_links : FoldedMembranes → List ℕ
  membranes_links no_membrane = []
  membranes_links (membrane_and f fs) = folded_links f ++ membranes_links fs

-- the links that items print, for lemmas
abbrev pub items_links : List FoldedItem → List ℕ
items_links is = flat_map (λ i. terms_links i.arguments) is

-- ---- words for lemmas: all links renamed

abbrev mutual
  pub renamed_term : (ℕ → ℕ) → FoldedTerm → FoldedTerm
  renamed_term f (link x) = link (f x)
  renamed_term f (labelled l ts) = labelled l (renamed_terms f ts)

  pub renamed_terms : (ℕ → ℕ) → FoldedTerms → FoldedTerms
  renamed_terms f no_term = no_term
  renamed_terms f (term_and t ts) = term_and (renamed_term f t) (renamed_terms f ts)

abbrev mutual
  pub renamed_folded : (ℕ → ℕ) → Folded → Folded
  renamed_folded f (folded items membranes rules) =
      folded (map (λ (i : FoldedItem). record { label = i.label; arguments = renamed_terms f i.arguments }) items) (renamed_membranes f membranes) rules

  pub renamed_membranes : (ℕ → ℕ) → FoldedMembranes → FoldedMembranes
  renamed_membranes f no_membrane = no_membrane
  renamed_membranes f (membrane_and m ms) = membrane_and (renamed_folded f m) (renamed_membranes f ms)

-- an item with other links, as lemmas tell it
abbrev pub renamed_item : (ℕ → ℕ) → FoldedItem → FoldedItem
renamed_item f i = record { label = i.label; arguments = renamed_terms f i.arguments }
