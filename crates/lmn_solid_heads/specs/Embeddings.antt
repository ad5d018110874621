-- Where the head of a rule lies in a heap, where it embeds, and which of these places is the least.
use Rattle.std.specs.Prelude.{ℕ, suc, ◌≡◌, ◌≢◌, ◌<◌, ◌+◌, ◌==◌, ◌⊎◌, false, true, if◌then◌else◌, List, [], ◌∷◌, Option, Some, None, length, slice_get}
use Rattle.std.specs.Option.{option_map}
use Rattle.lmn_base.specs.declared.guard.Cond.{Cond}
use Rattle.lmn_base.specs.Graphs.{Reached, StandsWhole, Port}
use Rattle.lmn_store_heap.specs.Heap.{Heap, functor_of, link_of, home_of, atoms_in, mems_in, rules_in}
use Rattle.lmn_store_heap.specs.Conditions.{Above}
use Rattle.lmn_store_heap.specs.Graphs.{atom_map}
use Rattle.lmn_solid_heads.specs.declared.items.HeadItem.{HeadItem}
use Rattle.lmn_solid_heads.specs.declared.items.HeadItem.TheVariants.{Atom, Typed, Membrane}
use Rattle.lmn_solid_heads.specs.Heads.{HeadAtom, HeadTyped, HeadMembrane, atoms_of, typed_contexts_of, membranes_of, links_of_head, times, outermost}
use Rattle.lmn_solid_heads.specs.Guards.{Meaning, IsOfKindAt, HoldsOnHeap, typed_number}
use Rattle.lmn_base.specs.Lists.{In}

-- Where the items of a head lie, by their numbers.
--   atom       each atom of the head: an atom of the heap
--   membrane   0: the membrane in which the rule stands; each membrane of the head: a membrane of the heap
--   part       each typed context: the port at which its part is entered
pub record Images : Type 0 where
  pub atom : ℕ → ℕ
  pub membrane : ℕ → ℕ
  pub part : ℕ → Port

-- a port of the head, as the port of the heap at which it lies
abbrev pub port_image : Images → Port → Port
port_image f p = (f.atom p.0, p.1)

-- the port to which a port is joined
abbrev pub partner : Heap → Port → Option Port
partner h p = link_of h p.0 p.1

-- an atom stands in a membrane or below it
abbrev pub StandsWithin : Heap → ℕ → ℕ → Type 0
StandsWithin h a m = (n : ℕ) × (k : ℕ) × (home_of h a ≡ Some n) × Above h k m n

-- the head has this atom, this typed context, with this number
abbrev pub HasAtom : List HeadItem → ℕ → HeadAtom → Type 0
HasAtom items n a = slice_get (atoms_of items) n ≡ Some a

abbrev pub HasTyped : List HeadItem → ℕ → HeadTyped → Type 0
HasTyped items n t = slice_get (typed_contexts_of items) n ≡ Some t

-- membranes are numbered from 1
abbrev pub HasMembrane : List HeadItem → ℕ → HeadMembrane → Type 0
HasMembrane items k m = (i : ℕ) × (k ≡ suc i) × (slice_get (membranes_of items) i ≡ Some m)

-- a link stands at a port of the head
abbrev pub HasLink : List HeadItem → ℕ → Port → Type 0
HasLink items x p = (a : HeadAtom) × HasAtom items p.0 a × (slice_get a.links p.1 ≡ Some x)

-- an atom of the heap is the image of one of the head, a membrane that of a membrane of the head
abbrev pub IsAtomImage : List HeadItem → Images → ℕ → Type 0
IsAtomImage items f b = (n : ℕ) × (n < length (atoms_of items)) × (f.atom n ≡ b)

abbrev pub IsMembraneImage : List HeadItem → Images → ℕ → Type 0
IsMembraneImage items f b = (k : ℕ) × (k < length (membranes_of items)) × (f.membrane (suc k) ≡ b)

-- an atom of the heap is one of the part of a typed context that is written in membrane number k
abbrev pub IsInPart : Heap → List HeadItem → Images → ℕ → ℕ → Type 0
IsInPart h items f k b = (n : ℕ) × (t : HeadTyped) × HasTyped items n t × (t.inside ≡ k) × Reached (atom_map h) (f.part n) b

-- An atom of the heap is one of the rest of membrane number k, at any depth: it stands in the image, and isn't an image
-- itself nor in a part that is written there, or it stands in a membrane of the image that isn't an image.
abbrev pub IsInRest : Heap → List HeadItem → Images → ℕ → ℕ → Type 0
IsInRest h items f k b = (In b (atoms_in h (f.membrane k)) × (¬ (IsAtomImage items f b)) × (¬ (IsInPart h items f k b)))
    ⊎ ((c : ℕ) × In c (mems_in h (f.membrane k)) × (¬ (IsMembraneImage items f c)) × StandsWithin h b c)

-- The part of a typed context is what is reached through the link that holds it. It is of its kind, stands whole in
-- the membrane where the context is written, and has no atom that is an image.
pub record IsPartOf (h : Heap) (items : List HeadItem) (f : Images) (n : ℕ) (t : HeadTyped) : Type 0 where
  pub held : (p : Port) → HasLink items t.link p → partner h (port_image f p) ≡ Some (f.part n)
  pub of_kind : IsOfKindAt h t.kind (f.part n)
  pub whole : StandsWhole (atom_map h) (f.part n) (f.membrane t.inside)
  pub apart : (b : ℕ) → Reached (atom_map h) (f.part n) b → IsAtomImage items f b → ⊥

-- what the names of typed contexts stand for
abbrev pub meaning : List HeadItem → Images → Meaning
meaning items f = record {
  part_of = λ x. option_map f.part (typed_number (typed_contexts_of items) 0 x);
  bound_to = λ x. None;
}

-- The items of a head lie in a heap, at a membrane. This is what the body of a rule needs of its head.
--   atoms_differ, membranes_differ       different items have different images
--   functors                             atoms agree in name and arity
--   atoms_placed, membranes_placed       each image stands in the list of the image of the membrane where its item
--                                        is written
--   joined                               a link at two ports of the head joins exactly these two ports
--   no_other_atom, no_other_membrane     a membrane without an untyped context holds only images, and the parts
--                                        that are written in it
--   no_rule                              a membrane without a rule context holds no rule
--   closed                               the rest of a membrane with a closed context is closed: each port of an atom
--                                        in it, at any depth, is joined to a port of such an atom
--   parts                                each typed context has its part
pub record Lies (h : Heap) (items : List HeadItem) (m : ℕ) (f : Images) : Type 0 where
  pub here : f.membrane 0 ≡ m
  pub atoms_differ : (n k : ℕ) → n < length (atoms_of items) → k < length (atoms_of items) → f.atom n ≡ f.atom k → n ≡ k
  pub membranes_differ : (n k : ℕ) → n < length (membranes_of items) → k < length (membranes_of items) → f.membrane (suc n) ≡ f.membrane (suc k) → n ≡ k
  pub functors : (n : ℕ) (a : HeadAtom) → HasAtom items n a → functor_of h (f.atom n) ≡ Some a.functor
  pub atoms_placed : (n : ℕ) (a : HeadAtom) → HasAtom items n a → In (f.atom n) (atoms_in h (f.membrane a.inside))
  pub membranes_placed : (k : ℕ) (n : HeadMembrane) → HasMembrane items k n → In (f.membrane k) (mems_in h (f.membrane n.inside))
  pub joined : (x : ℕ) (p q : Port) → HasLink items x p → HasLink items x q → p ≢ q → partner h (port_image f p) ≡ Some (port_image f q)
  pub no_other_atom : (k : ℕ) (n : HeadMembrane) (b : ℕ) → HasMembrane items k n → n.has_context ≡ false → In b (atoms_in h (f.membrane k)) → IsAtomImage items f b ⊎ IsInPart h items f k b
  pub no_other_membrane : (k : ℕ) (n : HeadMembrane) (b : ℕ) → HasMembrane items k n → n.has_context ≡ false → In b (mems_in h (f.membrane k)) → IsMembraneImage items f b
  pub no_rule : (k : ℕ) (n : HeadMembrane) → HasMembrane items k n → n.has_rule_context ≡ false → rules_in h (f.membrane k) ≡ []
  pub closed : (k : ℕ) (n : HeadMembrane) (b i : ℕ) (p : Port) → HasMembrane items k n → n.has_closed_context ≡ true → IsInRest h items f k b → partner h (b, i) ≡ Some p → IsInRest h items f k p.0
  pub parts : (n : ℕ) (t : HeadTyped) → HasTyped items n t → IsPartOf h items f n t

-- The head of a rule embeds in a heap, at a membrane.
--   lies      its items lie there
--   outside   a link that occurs once in the head, at an atom inside head membranes, has its other end outside the
--             image of the outermost of them
--   holds     the guard holds for the parts
pub record Embeds (h : Heap) (items : List HeadItem) (guard : List Cond) (m : ℕ) (f : Images) : Type 0 where
  pub lies : Lies h items m f
  pub outside : (n i x : ℕ) (a : HeadAtom) (p : Port) → HasAtom items n a → slice_get a.links i ≡ Some x → times x (links_of_head items) ≡ 1 → a.inside ≢ 0 →
      partner h (f.atom n, i) ≡ Some p → StandsWithin h p.0 (f.membrane (outermost (membranes_of items) a.inside)) → ⊥
  pub holds : HoldsOnHeap h (meaning items f) guard

-- the index of the first a, or the length where there is none
abbrev pub index_of : ℕ → List ℕ → ℕ
index_of a [] = 0
index_of a (x ∷ xs) = if x == a then 0 else suc (index_of a xs)

-- The positions of the images in their lists, one for each atom and membrane, in the order of the head. The first
-- atom of the items has the number n, the first membrane the number k.
abbrev pub positions : Heap → Images → ℕ → ℕ → List HeadItem → List ℕ
positions h f n k [] = []
positions h f n k (Atom functor links inside ∷ xs) = index_of (f.atom n) (atoms_in h (f.membrane inside)) ∷ positions h f (n + 1) k xs
positions h f n k (Typed name kind link inside ∷ xs) = positions h f n k xs
positions h f n k (Membrane inside has_context has_closed_context has_rule_context ∷ xs) = index_of (f.membrane k) (mems_in h (f.membrane inside)) ∷ positions h f n (k + 1) xs

-- a list isn't after another one: where they first differ it has the lesser number, or it ends
abbrev pub ListNotAfter : List ℕ → List ℕ → Type 0
ListNotAfter [] ys = Unit {0}
ListNotAfter (x ∷ xs) [] = ⊥
ListNotAfter (x ∷ xs) (y ∷ ys) = (x < y) ⊎ ((x ≡ y) × ListNotAfter xs ys)

-- an embedding with the least positions
pub record IsLeast (h : Heap) (items : List HeadItem) (guard : List Cond) (m : ℕ) (f : Images) : Type 0 where
  pub embeds : Embeds h items guard m f
  pub least : (g : Images) → Embeds h items guard m g → ListNotAfter (positions h f 0 1 items) (positions h g 0 1 items)
