-- The solid after a firing of a body of atoms: a raw region, and one fusion of its links.
use Rattle.std.specs.Prelude.{ℕ, ◌≡◌, ◌==◌, if◌then◌else◌, List, [], ◌∷◌, ◌++◌, length, map}
use Rattle.lmn_base.specs.declared.solid.SolidAtom.{SolidAtom}
use Rattle.lmn_base.specs.declared.solid.Region.{Region}
use Rattle.lmn_base.specs.declared.solid.Region.TheViews.{roll-Region}
use Rattle.lmn_store_heap.specs.Heap.{Heap, atoms_in, rules_in}
use Rattle.lmn_store_heap.specs.Sound.{Forest, bare, mem, Valid, IsTree}
use Rattle.lmn_store_heap.specs.Solid.{solid_atoms_at, regions_of}
use Rattle.lmn_solid_heads.specs.declared.items.HeadItem.{HeadItem}
use Rattle.lmn_solid_heads.specs.Heads as heads
use Rattle.lmn_congruence_splice.specs.Classes.{rising}
use Rattle.lmn_congruence_splice.specs.Splice.{IsOneOf, of_rule, of_solid}
use Rattle.lmn_instr_code.specs.declared.instr.AtomPort.{AtomPort}
use Rattle.lmn_solid_bodies.specs.declared.items.BodyItem.{BodyItem}
use Rattle.lmn_solid_bodies.specs.declared.items.BodyItem.TheVariants.{Atom, Connector, Copy, Bound, Membrane, Rest, Rule, Rules}
use Rattle.lmn_solid_bodies.specs.Items.{old_ports, connectors}
use Rattle.lmn_solid_bodies.specs.Running.{Registers, old_port, integer_functor}
use Rattle.lmn_solid_bodies.specs.Names.{Names}
use Rattle.lmn_base.specs.Graphs.{Port}
use Rattle.lmn_store_heap.specs.Lists.{without_all}

-- an atom with each link at its image
abbrev pub linked_by : (ℕ → ℕ) → SolidAtom → SolidAtom
linked_by f a = record { functor = a.functor; links = map f a.links }

-- the atoms that a body makes, each link of the rule at its image
abbrev pub made_atoms : Registers → (ℕ → ℕ) → List BodyItem → List SolidAtom
made_atoms r f [] = []
made_atoms r f (Atom functor links inside ∷ xs) = (record { functor = functor; links = map f links }) ∷ made_atoms r f xs
made_atoms r f (Connector left right ∷ xs) = made_atoms r f xs
made_atoms r f (Copy part link inside ∷ xs) = made_atoms r f xs
made_atoms r f (Bound integer link inside ∷ xs) = (record { functor = integer_functor (r.head.integer integer); links = f link ∷ [] }) ∷ made_atoms r f xs
made_atoms r f (Membrane inside ∷ xs) = made_atoms r f xs
made_atoms r f (Rest of closed inside ∷ xs) = made_atoms r f xs
made_atoms r f (Rule rule inside ∷ xs) = made_atoms r f xs
made_atoms r f (Rules of inside ∷ xs) = made_atoms r f xs

-- the images of the atoms of a head
abbrev pub images_of : Registers → List HeadItem → List ℕ
images_of r head = map r.head.images.atom (rising 0 (length (heads.atoms_of head)))

-- The regions of a forest after a firing in its membrane m: in each the atoms that the images leave, in their order, and
-- in m behind them the atoms that the body makes, in theirs. Raw links go to their images by `to`.
abbrev pub fired_regions : Heap → (Port → ℕ) → Registers → List HeadItem → List BodyItem → ℕ → (ℕ → ℕ) → Forest → List Region
fired_regions h c r head body m to bare = []
fired_regions h c r head body m to (mem k inner rest) =
    roll-Region (record {
      atoms = map (linked_by (λ x. to (of_solid x))) (solid_atoms_at h (λ a i. c (a, i)) (without_all (images_of r head) (atoms_in h k)))
          ++ (if k == m then made_atoms r (λ x. to (of_rule x)) body else []);
      membranes = fired_regions h c r head body m to inner;
      rules = rules_in h k;
    }) ∷ fired_regions h c r head body m to rest

-- A body fires in membrane m: h is the heap before, h' the one after, c and c' number their links.
--   valid        the heap is valid again
--   named        c' numbers its links
--   to           the fusion of the raw links: the two links of each connector have one image, and a link of the rule that
--                stands at one port of the head has the image of the link of the solid at this port
--   solid        the solid is the raw region, each link at its image; the tree of membranes is the same
pub record FiresOnHeap (h : Heap) (c : Port → ℕ) (f : Forest) (r : Registers) (head : List HeadItem) (body : List BodyItem) (m : ℕ) (h' : Heap) : Type 0 where
  pub valid : Valid h'
  pub tree : IsTree h' f
  pub to : ℕ → ℕ
  pub connectors_fused : (e : ℕ × ℕ) → IsOneOf e (connectors body) → to (of_rule e.0) ≡ to (of_rule e.1)
  pub heads_fused : (e : AtomPort × ℕ) → IsOneOf e (old_ports head) → to (of_rule e.1) ≡ to (of_solid (c (old_port r e.0)))
  pub number : Port → ℕ
  pub named : Names h' number
  pub solid : regions_of h' (λ a i. number (a, i)) f ≡ fired_regions h c r head body m to f
