-- A folded form taken apart: each term is an atom of its own again, and a link of the region stands for it.
use Rattle.std.specs.Prelude.{ℕ, List, [], ◌∷◌, ◌++◌}
use Rattle.lmn_congruence.specs.Process.{Closed}
use Rattle.lmn_congruence.specs.Regions.{SolidAtom, Region, region, Regions, no_region, region_and, region_process, solid_atom_with}
use Rattle.lmn_congruence.specs.Rules.{Label, Rule}
use Rattle.lmn_print_folded_laws.specs.Reordered.{AtomsReordered}
use Rattle.lmn_print_folded.specs.Terms.{FoldedTerm, link, labelled, FoldedTerms, no_term, term_and, FoldedItem, Folded, folded, FoldedMembranes, no_membrane, membrane_and}
use Rattle.lmn_print_folded.specs.Folding.{Folds}

mutual
  -- TermWhole t x atoms: the link x stands for the term t, which is these atoms: its own, whose last link x is, and then those
  -- of its terms.
  pub data TermWhole : FoldedTerm → ℕ → List SolidAtom → Type 0 where
    link_whole : {x : ℕ} → TermWhole (link x) x []
    atom_whole : {l : Label} {ts : FoldedTerms} {x : ℕ} {links : List ℕ} {atoms : List SolidAtom} →
        TermsWhole ts links atoms → TermWhole (labelled l ts) x (solid_atom_with l (links ++ x ∷ []) ∷ atoms)

  pub data TermsWhole : FoldedTerms → List ℕ → List SolidAtom → Type 0 where
    none_whole : TermsWhole no_term [] []
    more_whole : {t : FoldedTerm} {ts : FoldedTerms} {x : ℕ} {xs : List ℕ} {atoms others : List SolidAtom} →
        TermWhole t x atoms → TermsWhole ts xs others → TermsWhole (term_and t ts) (x ∷ xs) (atoms ++ others)

-- items, each an atom with all its links, and the atoms of its terms behind it
pub data ItemsWhole : List FoldedItem → List SolidAtom → Type 0 where
  no_items : ItemsWhole [] []
  items_whole : {i : FoldedItem} {is : List FoldedItem} {links : List ℕ} {atoms others : List SolidAtom} →
      TermsWhole i.arguments links atoms → ItemsWhole is others → ItemsWhole (i ∷ is) (solid_atom_with i.label links ∷ (atoms ++ others))

mutual
  pub data FoldedWhole : Folded → Region → Type 0 where
    folded_whole : {items : List FoldedItem} {fs : FoldedMembranes} {rs : List Rule} {atoms : List SolidAtom} {ms : Regions} →
        ItemsWhole items atoms → MembranesWhole fs ms → FoldedWhole (folded items fs rs) (region atoms ms rs)

  pub data MembranesWhole : FoldedMembranes → Regions → Type 0 where
    no_membranes : MembranesWhole no_membrane no_region
    membranes_whole : {f : Folded} {fs : FoldedMembranes} {r : Region} {rs : Regions} → FoldedWhole f r → MembranesWhole fs rs →
        MembranesWhole (membrane_and f fs) (region_and r rs)

-- The folded form of a region in which each link stands in two places, taken apart, is this region up to the order of atoms.
abbrev pub FoldedFormsAreWhole : Type 0
FoldedFormsAreWhole = (S : Region) (f : Folded) → Closed (region_process S) → Folds (λ x. x) S f → (T : Region) × FoldedWhole f T × AtomsReordered (λ x. x) S T
