-- The solid's atoms of a copy, of a part or of a rest.
use Rattle.std.specs.Prelude.{ℕ, true, false, ◌≡◌, ◌≢◌, ◌<◌, List, [], ◌∷◌, map, Some}
use Rattle.lmn_base.specs.Graphs.{Reached, Port}
use Rattle.lmn_base.specs.declared.solid.SolidAtom.{SolidAtom}
use Rattle.lmn_store_heap.specs.Heap.{Heap, arity_of, link_of}
use Rattle.lmn_store_heap.specs.Graphs.{atom_map}
use Rattle.lmn_store_heap.specs.Solid.{solid_atoms_at}
use Rattle.lmn_ground_parts.specs.Walks.{IsPartInDepth}
use Rattle.lmn_ground_parts.specs.Copies.{answer}
use Rattle.lmn_solid_bodies.specs.declared.items.BodyItem.{BodyItem}
use Rattle.lmn_solid_bodies.specs.declared.items.BodyItem.TheVariants.{Atom, Connector, Copy, Bound, Membrane, Rest, Rule, Rules}
use Rattle.lmn_solid_bodies.specs.Running.{Registers}
use Rattle.lmn_solid_bodies.specs.RestCopies.{RestCopies, later, rest_membranes}
use Rattle.lmn_solid_bodies.specs.Fired.{linked_by}
use Rattle.lmn_solid_bodies.specs.Names.{StandsPort}
use Rattle.lmn_base.specs.Lists.{In}

-- the root port of a part hangs at a port outside of it
abbrev pub Hangs : Heap → Port → Type 0
Hangs h root = (q : Port) × (link_of h root.0 root.1 ≡ Some q) × (Reached (atom_map h) root q.0 → ⊥)

-- The atoms of a copy in the solid are those of its part, depth first, with each link at its image: the link of the root
-- port at that of the copy's root port, and the links inside at links which stand at no atom but the copy's.
--   c, number      the numbers of links in the heaps before and after
--   copied, as     the copy's atoms in the heap, and in the solid
pub record IsSolidCopy (h : Heap) (c : Port → ℕ) (h' : Heap) (number : Port → ℕ) (root copy : Port) (copied : List ℕ) (as' : List SolidAtom) : Type 0 where
  pub atoms : List ℕ
  pub part : IsPartInDepth h root atoms
  pub to : ℕ → ℕ
  pub are : as' ≡ map (linked_by to) (solid_atoms_at h (λ a i. c (a, i)) atoms)
  pub entered : to (c root) ≡ number copy
  pub apart : (p q : Port) → In p.0 atoms → p.1 < arity_of h p.0 → p ≢ root → StandsPort h' q → number q ≡ to (c p) → In q.0 copied

-- The atoms of the copy of a rest in the solid are those of the rest, membrane by membrane in their order, each link at its image.
-- Different links have different images, and these stand at no atom but the copy's.
--   c, number           the numbers of links in the heaps before and after
--   left                the atoms that are left in a membrane
--   membranes, atoms    the membranes in which the rest stands, its atoms
--   copies              the atoms of the copy
pub record IsSolidRest (h : Heap) (c : Port → ℕ) (h' : Heap) (number : Port → ℕ) (left : ℕ → List ℕ) (membranes atoms copies : List ℕ) : Type 0 where
  pub to : ℕ → ℕ
  pub are : (k : ℕ) → In k membranes → solid_atoms_at h' (λ a i. number (a, i)) (map (answer atoms copies) (left k)) ≡ map (linked_by to) (solid_atoms_at h (λ a i. c (a, i)) (left k))
  pub one_to_one : (p q : Port) → In p.0 atoms → p.1 < arity_of h p.0 → In q.0 atoms → q.1 < arity_of h q.0 → to (c p) ≡ to (c q) → c p ≡ c q
  pub apart : (p q : Port) → In p.0 atoms → p.1 < arity_of h p.0 → StandsPort h' q → number q ≡ to (c p) → In q.0 copies

-- each copy of a rest that a body makes is one in the solid
abbrev pub AreSolidRests : Heap → (Port → ℕ) → Heap → (Port → ℕ) → (ℕ → List ℕ) → Registers → RestCopies → List BodyItem → Type 0
AreSolidRests h c h' number left r q [] = Unit {0}
AreSolidRests h c h' number left r q (Atom functor links inside ∷ xs) = AreSolidRests h c h' number left r q xs
AreSolidRests h c h' number left r q (Connector l l' ∷ xs) = AreSolidRests h c h' number left r q xs
AreSolidRests h c h' number left r q (Copy part link inside ∷ xs) = AreSolidRests h c h' number left r q xs
AreSolidRests h c h' number left r q (Bound integer link inside ∷ xs) = AreSolidRests h c h' number left r q xs
AreSolidRests h c h' number left r q (Membrane inside ∷ xs) = AreSolidRests h c h' number left r q xs
AreSolidRests h c h' number left r q (Rest of false inside ∷ xs) = AreSolidRests h c h' number left r q xs
AreSolidRests h c h' number left r q (Rest of true inside ∷ xs) = IsSolidRest h c h' number left (rest_membranes r of) (r.left_atoms of) (q 0).atoms × AreSolidRests h c h' number left r (later q) xs
AreSolidRests h c h' number left r q (Rule rule inside ∷ xs) = AreSolidRests h c h' number left r q xs
AreSolidRests h c h' number left r q (Rules of inside ∷ xs) = AreSolidRests h c h' number left r q xs
