-- A folded process taken apart: each term is an atom of its own again, with a link that was made for it.
use Rattle.std.specs.Prelude.{ℕ, ◌≡◌, List, [], ◌∷◌, ◌++◌}
use Rattle.lmn_base.specs.declared.refusal.Pos.{Pos}
use Rattle.lmn_congruence.specs.Rules.{Label}
use Rattle.lmn_lexer.specs.Laying.{Word}
use Rattle.lmn_flatten_plain.specs.Links.{Link, Use}
use Rattle.lmn_flatten_plain.specs.Expanded.{ExpandedLeaf, atom_leaf, ExpandedLevel, level, ExpandedLevels, no_level, level_and, ExpandedRule, use_links}
use Rattle.lmn_flatten_plain.specs.Agreement.{link_by_number, RulesAre}
use Rattle.lmn_print_folded.specs.Terms.{FoldedTerm, link, labelled, FoldedTerms, no_term, term_and, FoldedItem, Folded, folded, FoldedMembranes, no_membrane, membrane_and}
use Rattle.lmn_congruence.specs.Translation.{rules}

mutual
  -- TermApart t a leaves made: the link a stands for the term t, which is these atoms: its own, whose last link a is, and then
  -- those of its terms. The last list has the links that stand for terms with labels, in this order.
  pub data TermApart : FoldedTerm → Link → List ExpandedLeaf → List Link → Type 0 where
    link_apart : {x : ℕ} {a : Link} → a ≡ link_by_number x → TermApart (link x) a [] []
    atom_apart : {l m : Label} {ts : FoldedTerms} {a : Link} {us : List Use} {pos : Pos} {links : List Link} {leaves : List ExpandedLeaf} {made : List Link} →
        m ≡ l → use_links us ≡ links ++ a ∷ [] → TermsApart ts links leaves made →
        TermApart (labelled l ts) a (atom_leaf m us pos ∷ leaves) (a ∷ made)

  pub data TermsApart : FoldedTerms → List Link → List ExpandedLeaf → List Link → Type 0 where
    none_apart : TermsApart no_term [] [] []
    more_apart : {t : FoldedTerm} {ts : FoldedTerms} {a : Link} {links : List Link} {leaves others : List ExpandedLeaf} {made more : List Link} →
        TermApart t a leaves made → TermsApart ts links others more →
        TermsApart (term_and t ts) (a ∷ links) (leaves ++ others) (made ++ more)

-- items, each an atom with all its links, and the atoms of its terms behind it
pub data ItemsApart : List FoldedItem → List ExpandedLeaf → List Link → Type 0 where
  no_items : ItemsApart [] [] []
  items_apart : {i : FoldedItem} {is : List FoldedItem} {m : Label} {us : List Use} {pos : Pos} {leaves others : List ExpandedLeaf} {made more : List Link} →
      m ≡ i.label → TermsApart i.arguments (use_links us) leaves made → ItemsApart is others more →
      ItemsApart (i ∷ is) (atom_leaf m us pos ∷ (leaves ++ others)) (made ++ more)

-- Where rules are known by their numbers in a table.
module _ (words : List Word) (places : List Pos) (table : List ExpandedRule) where
  abbrev mutual
    -- the items, and then the membranes; each rule is the one with its number
    pub FoldedApart : Folded → ExpandedLevel → List Link → Type 0
    FoldedApart (folded items membranes rs) (level leaves inside contexts rule_contexts ks) made =
        (first : List Link) × (more : List Link) × (made ≡ first ++ more) × ItemsApart items leaves first × MembranesApart membranes inside more
        × (contexts ≡ []) × (rule_contexts ≡ []) × RulesAre words places table ks (rules rs)

    pub MembranesApart : FoldedMembranes → ExpandedLevels → List Link → Type 0
    MembranesApart no_membrane no_level made = made ≡ []
    MembranesApart (membrane_and f fs) (level_and l ls) made =
        (first : List Link) × (more : List Link) × (made ≡ first ++ more) × FoldedApart f l first × MembranesApart fs ls more
    MembranesApart _ _ made = ⊥
