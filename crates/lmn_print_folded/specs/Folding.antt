-- Which atoms are printed as items, and which as terms in the arguments of others. Each membrane is folded for itself, and an
-- atom is known by its position in the membrane's list.
use Rattle.std.specs.Prelude.{ℕ, suc, ◌≡◌, ◌≢◌, ◌<◌, ◌⊎◌, List, [], ◌∷◌, ◌++◌, length, slice_get, Some}
use Rattle.std.specs.List.{range_with_len}
use Rattle.lmn_congruence.specs.Orders.{Among}
use Rattle.lmn_congruence.specs.Regions.{SolidAtom, Region, region, Regions, no_region, region_and}
use Rattle.lmn_congruence.specs.Rules.{Rule}
use Rattle.lmn_print_folded.specs.Terms.{FoldedTerm, link, labelled, FoldedTerms, no_term, term_and, FoldedItem, Folded, folded, FoldedMembranes, no_membrane, membrane_and}

-- The atom q is a child of another atom p at its port k: the last port of q is joined to that port, and that port isn't the
-- last one of p, or it is and p stands before q.
pub record IsChild (atoms : List SolidAtom) (q p k : ℕ) : Type 0 where
  pub child : SolidAtom
  pub parent : SolidAtom
  pub first_links : List ℕ
  pub last_link : ℕ
  pub child_at : slice_get atoms q ≡ Some child
  pub parent_at : slice_get atoms p ≡ Some parent
  pub links : child.links ≡ first_links ++ last_link ∷ []
  pub joined : slice_get parent.links k ≡ Some last_link
  pub other : q ≢ p
  pub before : (suc k ≢ length parent.links) ⊎ (p < q)

-- the atom p, its children, their children, and so on
pub data Descends (atoms : List SolidAtom) (p : ℕ) : ℕ → Type 0 where
  itself : Descends atoms p p
  child : {q r k : ℕ} → Descends atoms p q → IsChild atoms r q k → Descends atoms p r

-- Items.

-- the atoms of a list of positions that are no children of others, in its order
pub data NoChildren (atoms : List SolidAtom) : List ℕ → List ℕ → Type 0 where
  none : NoChildren atoms [] []
  kept : {q : ℕ} {qs items : List ℕ} → ((p k : ℕ) → ¬ (IsChild atoms q p k)) → NoChildren atoms qs items → NoChildren atoms (q ∷ qs) (q ∷ items)
  left : {q : ℕ} {qs items : List ℕ} (p k : ℕ) → IsChild atoms q p k → NoChildren atoms qs items → NoChildren atoms (q ∷ qs) items

-- With an item all that descends from it is printed. So one goes through a list of positions, and each atom that descends
-- from no item so far becomes an item behind them.
-- Further atoms so_far positions all: with these items so far, all items are these once the positions are gone through.
pub data Further (atoms : List SolidAtom) : List ℕ → List ℕ → List ℕ → Type 0 where
  none : {so_far : List ℕ} → Further atoms so_far [] so_far
  printed : {q : ℕ} {so_far qs all : List ℕ} (i : ℕ) → Among i so_far → Descends atoms i q → Further atoms so_far qs all →
      Further atoms so_far (q ∷ qs) all
  item : {q : ℕ} {so_far qs all : List ℕ} → ((i : ℕ) → Among i so_far → ¬ (Descends atoms i q)) →
      Further atoms (so_far ++ q ∷ []) qs all → Further atoms so_far (q ∷ qs) all

-- First each atom that is no child, and then, in the same order, each that isn't printed yet.
pub record AreItems (atoms : List SolidAtom) (items : List ℕ) : Type 0 where
  pub firsts : List ℕ
  pub no_children : NoChildren atoms (range_with_len 0 (length atoms)) firsts
  pub further : Further atoms firsts (range_with_len 0 (length atoms)) items

-- Arguments. A child that isn't an item is printed as a term, at the port at which it is a child. The link x is printed as `to x`.
mutual
  -- Shows to atoms items p k x t: the argument at port k of the atom p, x being the link there, is t.
  pub data Shows (to : ℕ → ℕ) (atoms : List SolidAtom) (items : List ℕ) : ℕ → ℕ → ℕ → FoldedTerm → Type 0 where
    as_link : {p k x : ℕ} → ((q : ℕ) → IsChild atoms q p k → Among q items) → Shows to atoms items p k x (link (to x))
    as_term : {p k x q : ℕ} {ts : FoldedTerms} (c : IsChild atoms q p k) → ¬ (Among q items) → ShowsAll to atoms items q 0 c.first_links ts →
        Shows to atoms items p k x (labelled c.child.label ts)

  -- ShowsAll to atoms items p k xs ts: the arguments at the ports of p from k on that have the links xs are ts.
  pub data ShowsAll (to : ℕ → ℕ) (atoms : List SolidAtom) (items : List ℕ) : ℕ → ℕ → List ℕ → FoldedTerms → Type 0 where
    none : {p k : ℕ} → ShowsAll to atoms items p k [] no_term
    more : {p k x : ℕ} {xs : List ℕ} {t : FoldedTerm} {ts : FoldedTerms} → Shows to atoms items p k x t → ShowsAll to atoms items p (suc k) xs ts →
        ShowsAll to atoms items p k (x ∷ xs) (term_and t ts)

-- the atoms at these positions as items
pub data ShowsItems (to : ℕ → ℕ) (atoms : List SolidAtom) (items : List ℕ) : List ℕ → List FoldedItem → Type 0 where
  none : ShowsItems to atoms items [] []
  more : {p : ℕ} {ps : List ℕ} {ts : FoldedTerms} {is : List FoldedItem} (a : SolidAtom) → slice_get atoms p ≡ Some a →
      ShowsAll to atoms items p 0 a.links ts → ShowsItems to atoms items ps is →
      ShowsItems to atoms items (p ∷ ps) (record { label = a.label; arguments = ts } ∷ is)

-- A region and its folded form, with other links. Rules stay as they are.
mutual
  pub data Folds (to : ℕ → ℕ) : Region → Folded → Type 0 where
    folds : {atoms : List SolidAtom} {membranes : Regions} {rules : List Rule} {shown : List FoldedItem} {inside : FoldedMembranes}
        (items : List ℕ) → AreItems atoms items → ShowsItems to atoms items items shown → FoldsAll to membranes inside →
        Folds to (region atoms membranes rules) (folded shown inside rules)

  pub data FoldsAll (to : ℕ → ℕ) : Regions → FoldedMembranes → Type 0 where
    none : FoldsAll to no_region no_membrane
    more : {r : Region} {rs : Regions} {f : Folded} {fs : FoldedMembranes} → Folds to r f → FoldsAll to rs fs →
        FoldsAll to (region_and r rs) (membrane_and f fs)

-- Words for lemmas.

-- the positions of all atoms
abbrev pub atom_positions : List SolidAtom → List ℕ
atom_positions atoms = range_with_len 0 (length atoms)

-- the atom is a child of no other
abbrev pub IsNoChild : List SolidAtom → ℕ → Type 0
IsNoChild atoms q = (p k : ℕ) → ¬ (IsChild atoms q p k)
