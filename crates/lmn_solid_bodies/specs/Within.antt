-- What a firing leaves in the lists of each membrane, with membranes and contexts.
use Rattle.std.specs.Prelude.{ℕ, Bool, true, false, not, ◌+◌, ◌≡◌, ◌↔◌, ◌⊎◌, ◌==◌, if◌then◌else◌, List, [], ◌∷◌, ◌++◌, length, map, Some, None, ◌≢◌}
use Rattle.lmn_base.specs.declared.solid.SolidAtom.{SolidAtom}
use Rattle.lmn_store_heap.specs.Heap.{Heap, Distinct, IsInPlace, functor_of, link_of, atoms_in, mems_in, rules_in}
use Rattle.lmn_base.specs.declared.functor.Functor.{Functor}
use Rattle.lmn_solid_heads.specs.declared.items.HeadItem.{HeadItem}
use Rattle.lmn_solid_heads.specs.Heads as heads
use Rattle.lmn_solid_heads.specs.Heads.{HeadMembrane}
use Rattle.lmn_solid_heads.specs.Embeddings.{Images, HasMembrane, HasTyped, IsAtomImage}
use Rattle.lmn_congruence_splice.specs.Classes.{rising}
use Rattle.lmn_congruence_splice.specs.Splice as splice
use Rattle.lmn_congruence_splice.specs.Splice.{of_rule, of_solid}
use Rattle.lmn_instr_code.specs.declared.instr.AtomPort.{AtomPort}
use Rattle.lmn_instr_code.specs.declared.instr.NewPort.{NewPort}
use Rattle.lmn_solid_bodies.specs.declared.items.BodyItem.{BodyItem}
use Rattle.lmn_solid_bodies.specs.declared.items.BodyItem.TheVariants.{Atom, Connector, Copy, Bound, Membrane, Rest, Rule, Rules}
use Rattle.lmn_solid_bodies.specs.Items.{new_ports, old_ports, connectors}
use Rattle.lmn_solid_bodies.specs.Running.{Registers, old_port, new_port, integer_functor}
use Rattle.lmn_solid_bodies.specs.Names.{Names}
use Rattle.lmn_solid_bodies.specs.Made.{made_of, new_atoms, copies_of}
use Rattle.lmn_ground_parts.specs.Walks.{IsPartInDepth, is_in}
use Rattle.lmn_ground_parts.specs.Rests.{IsRest}
use Rattle.lmn_ground_parts.specs.Copies.{answer, moved}
use Rattle.lmn_solid_bodies.specs.Added.{added_atoms, added_mems, added_rules, made_mems}
use Rattle.lmn_solid_bodies.specs.RestCopies.{RestCopy, RestCopies, later, rest_membranes, copied_atom, copied_into, given, AreAsLong, AreRestsCopied}
use Rattle.lmn_solid_bodies.specs.Fired.{images_of, linked_by}
use Rattle.lmn_solid_bodies.specs.Rules.{PartAtoms}
use Rattle.lmn_store_heap.specs.Solid.{solid_atoms_at}
use Rattle.lmn_base.specs.Graphs.{Reached, Port}
use Rattle.lmn_store_heap.specs.Graphs.{atom_map}
use Rattle.lmn_store_heap.specs.Lists.{without_all}
use Rattle.lmn_base.specs.Lists.{In}

-- the images of the membranes of a head
abbrev pub membrane_images : Registers → List HeadItem → List ℕ
membrane_images r head = map r.head.images.membrane (rising 1 (length (heads.membranes_of head)))

-- what the registers of these membranes of a head say to be left in those with a closed context; the first has the number k
abbrev pub left_of_closed : (ℕ → List ℕ) → ℕ → List HeadMembrane → List ℕ
left_of_closed left k [] = []
left_of_closed left k (b ∷ bs) = (if b.has_closed_context then left k else []) ++ left_of_closed left (k + 1) bs

-- the atoms and the membranes that a firing drops: those that are left where a closed context stands
abbrev pub dropped_atoms : Registers → List HeadItem → List ℕ
dropped_atoms r head = left_of_closed r.left_atoms 1 (heads.membranes_of head)

abbrev pub dropped_mems : Registers → List HeadItem → List ℕ
dropped_mems r head = left_of_closed r.left_membranes 1 (heads.membranes_of head)

-- the membranes that a firing removes: those of the head, and those that it drops
abbrev pub removed_mems : Registers → List HeadItem → List ℕ
removed_mems r head = membrane_images r head ++ dropped_mems r head

-- an atom of the heap is taken by a head: it is an image, or in a part
abbrev pub IsTakenAtom : Heap → List HeadItem → Images → ℕ → Type 0
IsTakenAtom h head f a = IsAtomImage head f a ⊎ ((g : ℕ) × (t : heads.HeadTyped) × HasTyped head g t × Reached (atom_map h) (f.part g) a)

-- The registers hold what is left in each membrane of a head with a closed context: the atoms that aren't taken, the
-- membranes that are no images, and all that is in these.
abbrev pub HoldsRests : Heap → Registers → List HeadItem → Type 0
HoldsRests h r head = (k : ℕ) (b : HeadMembrane) → HasMembrane head k b → b.has_closed_context ≡ true →
    (left : ℕ → Bool) × ((a : ℕ) → In a (atoms_in h (r.head.images.membrane k)) → (left a ≡ true) ↔ (IsTakenAtom h head r.head.images a → ⊥))
    × IsRest h (r.head.images.membrane k) left (λ x. not (is_in (membrane_images r head) x)) (r.left_atoms k) (r.left_membranes k)

-- A part of the heap h has a copy in h': the atom of the copy that stands where an atom of the part stands, depth first, has
-- its functor, and the root port and the links inside are those of the part.
pub record IsCopyIn (h h' : Heap) (root copy : Port) (copied : List ℕ) : Type 0 where
  pub atoms : List ℕ
  pub part : IsPartInDepth h root atoms
  pub long : length copied ≡ length atoms
  pub entered : copy ≡ moved (answer atoms copied) root
  pub functors : (a : ℕ) → In a atoms → functor_of h' (answer atoms copied a) ≡ functor_of h a
  pub inner : (a i b j : ℕ) → In a atoms → ◌≢◌ {A = Port} (a, i) root → link_of h a i ≡ Some (b, j) →
      In b atoms × (link_of h' (answer atoms copied a) i ≡ Some (answer atoms copied b, j))

-- A body fires: h is the heap before, whose links c numbers, h' the one after; `taken` are the atoms that the head takes.
--   to, connectors_fused, heads_fused   the fusion of the raw links
--   number, named                       the links of h' have numbers
--   kept_links                          a port of an atom that stays has the image of its link
--   made_links                          a new port, as the root port of a copy, has the image of its link of the rule
--   kept_functors, made_functors        an atom that stays keeps its functor, and a new one has its own
--   new_placed                          each new atom stands in a membrane
--   copies                              the atoms of a copy are joined with each other as those of its part were before
--   rests                               the copies of what is left in membranes with closed contexts
--   rests_long, rests_copied            each has an atom and a membrane for each of the rest, and is joined as the rest is
--   new_once, new_fresh, made_once, made_fresh   the atoms and the membranes that are made are different, and none was there
--   atoms, mems, rules                  the lists of each membrane that isn't removed: what stays, in its order, and then
--                                       what the body adds, in its order
pub record FiresWithin (h : Heap) (c : Port → ℕ) (r : Registers) (head : List HeadItem) (body : List BodyItem) (taken : List ℕ) (h' : Heap) : Type 0 where
  pub to : ℕ → ℕ
  pub connectors_fused : (e : ℕ × ℕ) → splice.IsOneOf e (connectors body) → to (of_rule e.0) ≡ to (of_rule e.1)
  pub heads_fused : (e : AtomPort × ℕ) → splice.IsOneOf e (old_ports head) → to (of_rule e.1) ≡ to (of_solid (c (old_port r e.0)))
  pub number : Port → ℕ
  pub named : Names h' number
  pub kept_links : (p : Port) → IsInPlace h p.0 → number p ≡ to (of_solid (c p))
  pub made_links : (e : NewPort × ℕ) → splice.IsOneOf e (new_ports (length (heads.atoms_of head)) 0 body) → number (new_port r e.0) ≡ to (of_rule e.1)
  pub kept_functors : (a : ℕ) → IsInPlace h a → (In a taken → ⊥) → (In a (dropped_atoms r head) → ⊥) → functor_of h' a ≡ functor_of h a
  pub made_functors : (e : ℕ × Functor) → splice.IsOneOf e (made_of r (length (heads.atoms_of head)) body) → functor_of h' e.0 ≡ Some e.1
  pub rests : RestCopies
  pub rests_long : AreAsLong r rests body
  pub rests_copied : AreRestsCopied h h' r rests body
  pub new_once : Distinct (new_atoms r rests (length (heads.atoms_of head)) 0 body)
  pub new_fresh : (y : ℕ) → In y (new_atoms r rests (length (heads.atoms_of head)) 0 body) → h.atoms y ≡ None
  pub new_placed : (y : ℕ) → In y (new_atoms r rests (length (heads.atoms_of head)) 0 body) → IsInPlace h' y
  pub made_once : Distinct (made_mems r rests (1 + length (heads.membranes_of head)) body)
  pub made_fresh : (x : ℕ) → In x (made_mems r rests (1 + length (heads.membranes_of head)) body) → h.mems x ≡ None
  pub copies : (e : ℕ × ℕ) → splice.IsOneOf e (copies_of 0 body) → IsCopyIn h h' (r.head.images.part e.1) (r.copy e.0) (r.copied e.0)
  pub atoms : (x : ℕ) → (In x (removed_mems r head) → ⊥) → atoms_in h' x ≡
      without_all taken (atoms_in h x) ++ added_atoms r rests (λ k. without_all taken (atoms_in h k)) (length (heads.atoms_of head)) 0 body x
  pub mems : (x : ℕ) → (In x (removed_mems r head) → ⊥) → mems_in h' x ≡
      without_all (membrane_images r head) (mems_in h x) ++ added_mems r rests (λ k. without_all (membrane_images r head) (mems_in h k)) (1 + length (heads.membranes_of head)) body x
  pub rules : (x : ℕ) → (In x (removed_mems r head) → ⊥) → rules_in h' x ≡ rules_in h x ++ added_rules r rests (rules_in h) body x

-- A flat rule fires on h with these registers, and leaves h'. What it takes are the images of its atoms and the atoms of its parts.
pub record FiresFlat (head : List HeadItem) (body : List BodyItem) (r : Registers) (h h' : Heap) : Type 0 where
  pub name : Port → ℕ
  pub named : Names h name
  pub parts : List ℕ
  pub are : PartAtoms h head r.head.images parts
  pub fires : FiresWithin h name r head body (images_of r head ++ parts) h'
  pub root : h'.root ≡ h.root

-- The atoms of a solid that a body adds to membrane x: those that it makes, with their links of the rule, those of its copies, of
-- which the next has the number c, what is left of the membranes whose open contexts stand in x, and copies of rests. `rest`
-- tells which of the atoms of a copy go to x.
abbrev pub added_with_copies : Registers → RestCopies → (ℕ → List SolidAtom) → (ℕ → List SolidAtom) → (ℕ → ℕ → RestCopy → ℕ → List SolidAtom) → (ℕ → ℕ) → ℕ → List BodyItem → ℕ → List SolidAtom
added_with_copies r q left copy rest g c [] x = []
added_with_copies r q left copy rest g c (Atom functor links inside ∷ xs) x = (if r.head.images.membrane inside == x then (record { functor = functor; links = map g links }) ∷ [] else []) ++ added_with_copies r q left copy rest g c xs x
added_with_copies r q left copy rest g c (Connector l l' ∷ xs) x = added_with_copies r q left copy rest g c xs x
added_with_copies r q left copy rest g c (Copy part link inside ∷ xs) x = (if r.head.images.membrane inside == x then copy c else []) ++ added_with_copies r q left copy rest g (c + 1) xs x
added_with_copies r q left copy rest g c (Bound integer link inside ∷ xs) x =
    (if r.head.images.membrane inside == x then (record { functor = integer_functor (r.head.integer integer); links = g link ∷ [] }) ∷ [] else []) ++ added_with_copies r q left copy rest g c xs x
added_with_copies r q left copy rest g c (Membrane inside ∷ xs) x = added_with_copies r q left copy rest g c xs x
added_with_copies r q left copy rest g c (Rest of false inside ∷ xs) x = (if r.head.images.membrane inside == x then left (r.head.images.membrane of) else []) ++ added_with_copies r q left copy rest g c xs x
added_with_copies r q left copy rest g c (Rest of true inside ∷ xs) x = rest of inside (q 0) x ++ added_with_copies r (later q) left copy rest g c xs x
added_with_copies r q left copy rest g c (Rule rule inside ∷ xs) x = added_with_copies r q left copy rest g c xs x
added_with_copies r q left copy rest g c (Rules of inside ∷ xs) x = added_with_copies r q left copy rest g c xs x

-- The same of a body without copies.
abbrev pub added_solid : Registers → (ℕ → List SolidAtom) → (ℕ → ℕ) → List BodyItem → ℕ → List SolidAtom
added_solid r left g [] x = []
added_solid r left g (Atom functor links inside ∷ xs) x = (if r.head.images.membrane inside == x then (record { functor = functor; links = map g links }) ∷ [] else []) ++ added_solid r left g xs x
added_solid r left g (Connector l l' ∷ xs) x = added_solid r left g xs x
added_solid r left g (Copy part link inside ∷ xs) x = added_solid r left g xs x
added_solid r left g (Bound integer link inside ∷ xs) x =
    (if r.head.images.membrane inside == x then (record { functor = integer_functor (r.head.integer integer); links = g link ∷ [] }) ∷ [] else []) ++ added_solid r left g xs x
added_solid r left g (Membrane inside ∷ xs) x = added_solid r left g xs x
added_solid r left g (Rest of false inside ∷ xs) x = (if r.head.images.membrane inside == x then left (r.head.images.membrane of) else []) ++ added_solid r left g xs x
added_solid r left g (Rest of true inside ∷ xs) x = added_solid r left g xs x
added_solid r left g (Rule rule inside ∷ xs) x = added_solid r left g xs x
added_solid r left g (Rules of inside ∷ xs) x = added_solid r left g xs x

-- the atoms that are left of a membrane, each link at its image
abbrev pub left_solid : Heap → (Port → ℕ) → List ℕ → (ℕ → ℕ) → ℕ → List SolidAtom
left_solid h c taken g k = map (linked_by g) (solid_atoms_at h (λ a i. c (a, i)) (without_all taken (atoms_in h k)))

-- Which solid atoms of the copy of a rest go to membrane x: those of the copies of atoms that are left in the membrane of the
-- head, or in one of the rest, whose copy is x.
abbrev pub rest_solid : Heap → (Port → ℕ) → Registers → (ℕ → List ℕ) → ℕ → ℕ → RestCopy → ℕ → List SolidAtom
rest_solid h' number r left of inside p x = solid_atoms_at h' (λ a i. number (a, i)) (given (λ k. map (copied_atom r of p) (left k)) (copied_into r of inside p) (rest_membranes r of) x)

-- The atoms of each membrane of the solid after a firing: what is left, then what is added, raw links at their images.
abbrev pub FiredSolid : (h : Heap) (c : Port → ℕ) (r : Registers) (head : List HeadItem) (body : List BodyItem) (taken : List ℕ) (h' : Heap) → FiresWithin h c r head body taken h' → Type 0
FiredSolid h c r head body taken h' f =
    let left = left_solid h c taken (λ z. f.to (of_solid z)) in
    (x : ℕ) → (In x (removed_mems r head) → ⊥) →
    solid_atoms_at h' (λ a i. f.number (a, i)) (atoms_in h' x) ≡
    left x ++ added_with_copies r f.rests left (λ k. solid_atoms_at h' (λ a i. f.number (a, i)) (r.copied k)) (rest_solid h' f.number r (λ k. without_all taken (atoms_in h k))) (λ z. f.to (of_rule z)) 0 body x

-- The same after a firing of a body without copies.
abbrev pub FiredAtoms : (h : Heap) (c : Port → ℕ) (r : Registers) (head : List HeadItem) (body : List BodyItem) (taken : List ℕ) (h' : Heap) → FiresWithin h c r head body taken h' → Type 0
FiredAtoms h c r head body taken h' f =
    let left = left_solid h c taken (λ z. f.to (of_solid z)) in
    (x : ℕ) → (In x (removed_mems r head) → ⊥) →
    solid_atoms_at h' (λ a i. f.number (a, i)) (atoms_in h' x) ≡ left x ++ added_solid r left (λ z. f.to (of_rule z)) body x
