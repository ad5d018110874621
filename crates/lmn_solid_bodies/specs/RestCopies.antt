-- Copies of what is left in membranes of a head.
use Rattle.std.specs.Prelude.{ℕ, suc, true, false, ◌==◌, ◌≡◌, if◌then◌else◌, List, [], ◌∷◌, ◌++◌, length, Some}
use Rattle.lmn_store_heap.specs.Heap.{Heap, functor_of, link_of}
use Rattle.lmn_ground_parts.specs.Copies.{answer}
use Rattle.lmn_solid_bodies.specs.declared.items.BodyItem.{BodyItem}
use Rattle.lmn_solid_bodies.specs.declared.items.BodyItem.TheVariants.{Atom, Connector, Copy, Bound, Membrane, Rest, Rule, Rules}
use Rattle.lmn_solid_bodies.specs.Running.{Registers}
use Rattle.lmn_base.specs.Lists.{In}

-- the atoms and the membranes of a copy, in the order of the rest
pub record RestCopy : Type 0 where
  pub atoms : List ℕ
  pub membranes : List ℕ

-- The copies of rests that a body makes, by number: what the first COPYCELLS makes has the number 0.
abbrev pub RestCopies : Type 0
RestCopies = ℕ → RestCopy

-- those behind the first
abbrev pub later : RestCopies → RestCopies
later q k = q (suc k)

-- the membranes in which the rest of a membrane of the head stands: that membrane itself, and those of the rest
abbrev pub rest_membranes : Registers → ℕ → List ℕ
rest_membranes r of = r.head.images.membrane of ∷ r.left_membranes of

-- the copy of an atom of a rest
abbrev pub copied_atom : Registers → ℕ → RestCopy → ℕ → ℕ
copied_atom r of p = answer (r.left_atoms of) p.atoms

-- the copy of a membrane of a rest
abbrev pub copied_membrane : Registers → ℕ → RestCopy → ℕ → ℕ
copied_membrane r of p = answer (r.left_membranes of) p.membranes

-- Where the copy of what stands in a membrane stands: what stands in the membrane of the head itself is copied to the
-- membrane with the number `inside`, and what stands in one of the rest to the copy of that one.
abbrev pub copied_into : Registers → ℕ → ℕ → RestCopy → ℕ → ℕ
copied_into r of inside p = answer (rest_membranes r of) (r.head.images.membrane inside ∷ p.membranes)

-- what membrane x gets where each of some membranes gives a list to another
abbrev pub given : (ℕ → List ℕ) → (ℕ → ℕ) → List ℕ → ℕ → List ℕ
given list to [] x = []
given list to (k ∷ ks) x = (if to k == x then list k else []) ++ given list to ks x

-- A copy has an atom for each atom of the rest, and a membrane for each of its membranes.
abbrev pub IsAsLong : Registers → ℕ → RestCopy → Type 0
IsAsLong r of p = (length p.atoms ≡ length (r.left_atoms of)) × (length p.membranes ≡ length (r.left_membranes of))

-- so is each copy that a body makes
abbrev pub AreAsLong : Registers → RestCopies → List BodyItem → Type 0
AreAsLong r q [] = Unit {0}
AreAsLong r q (Atom functor links inside ∷ xs) = AreAsLong r q xs
AreAsLong r q (Connector left right ∷ xs) = AreAsLong r q xs
AreAsLong r q (Copy part link inside ∷ xs) = AreAsLong r q xs
AreAsLong r q (Bound integer link inside ∷ xs) = AreAsLong r q xs
AreAsLong r q (Membrane inside ∷ xs) = AreAsLong r q xs
AreAsLong r q (Rest of false inside ∷ xs) = AreAsLong r q xs
AreAsLong r q (Rest of true inside ∷ xs) = IsAsLong r of (q 0) × AreAsLong r (later q) xs
AreAsLong r q (Rule rule inside ∷ xs) = AreAsLong r q xs
AreAsLong r q (Rules of inside ∷ xs) = AreAsLong r q xs

-- Some atoms of h have copies in h': each copy has the functor of its atom, and is joined as this is. No link leaves the atoms.
pub record AreCopiesIn (h h' : Heap) (atoms copies : List ℕ) : Type 0 where
  pub long : length copies ≡ length atoms
  pub functors : (a : ℕ) → In a atoms → functor_of h' (answer atoms copies a) ≡ functor_of h a
  pub inner : (a i b j : ℕ) → In a atoms → link_of h a i ≡ Some (b, j) → In b atoms × (link_of h' (answer atoms copies a) i ≡ Some (answer atoms copies b, j))

-- the copies of rests that a body makes are copies of these rests
abbrev pub AreRestsCopied : Heap → Heap → Registers → RestCopies → List BodyItem → Type 0
AreRestsCopied h h' r q [] = Unit {0}
AreRestsCopied h h' r q (Atom functor links inside ∷ xs) = AreRestsCopied h h' r q xs
AreRestsCopied h h' r q (Connector left right ∷ xs) = AreRestsCopied h h' r q xs
AreRestsCopied h h' r q (Copy part link inside ∷ xs) = AreRestsCopied h h' r q xs
AreRestsCopied h h' r q (Bound integer link inside ∷ xs) = AreRestsCopied h h' r q xs
AreRestsCopied h h' r q (Membrane inside ∷ xs) = AreRestsCopied h h' r q xs
AreRestsCopied h h' r q (Rest of false inside ∷ xs) = AreRestsCopied h h' r q xs
AreRestsCopied h h' r q (Rest of true inside ∷ xs) = AreCopiesIn h h' (r.left_atoms of) (q 0).atoms × AreRestsCopied h h' r (later q) xs
AreRestsCopied h h' r q (Rule rule inside ∷ xs) = AreRestsCopied h h' r q xs
AreRestsCopied h h' r q (Rules of inside ∷ xs) = AreRestsCopied h h' r q xs
