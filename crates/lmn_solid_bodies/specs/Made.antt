-- The atoms and the copies that a body makes.
use Rattle.std.specs.Prelude.{ℕ, true, false, ◌+◌, List, [], ◌∷◌, ◌++◌, map}
use Rattle.lmn_base.specs.declared.functor.Functor.{Functor}
use Rattle.lmn_solid_bodies.specs.declared.items.BodyItem.{BodyItem}
use Rattle.lmn_solid_bodies.specs.declared.items.BodyItem.TheVariants.{Atom, Connector, Copy, Bound, Membrane, Rest, Rule, Rules}
use Rattle.lmn_solid_bodies.specs.Running.{Registers, integer_functor}
use Rattle.lmn_solid_bodies.specs.RestCopies.{RestCopies, later}

-- the atoms that are written, with their functors
abbrev pub made_of : Registers → ℕ → List BodyItem → List (ℕ × Functor)
made_of r a [] = []
made_of r a (Atom functor links inside ∷ xs) = (r.head.images.atom a, functor) ∷ made_of r (a + 1) xs
made_of r a (Bound integer link inside ∷ xs) = (r.head.images.atom a, integer_functor (r.head.integer integer)) ∷ made_of r (a + 1) xs
made_of r a (Connector left right ∷ xs) = made_of r a xs
made_of r a (Copy part link inside ∷ xs) = made_of r a xs
made_of r a (Membrane inside ∷ xs) = made_of r a xs
made_of r a (Rest of closed inside ∷ xs) = made_of r a xs
made_of r a (Rule rule inside ∷ xs) = made_of r a xs
made_of r a (Rules of inside ∷ xs) = made_of r a xs

-- The new atoms of a body without copies of rests with the membranes to which they go, those of the copy of a part in its
-- place. The next copy has the register c.
abbrev pub places_of : Registers → ℕ → ℕ → List BodyItem → List (ℕ × ℕ)
places_of r a c [] = []
places_of r a c (Atom functor links inside ∷ xs) = (r.head.images.membrane inside, r.head.images.atom a) ∷ places_of r (a + 1) c xs
places_of r a c (Bound integer link inside ∷ xs) = (r.head.images.membrane inside, r.head.images.atom a) ∷ places_of r (a + 1) c xs
places_of r a c (Connector left right ∷ xs) = places_of r a c xs
places_of r a c (Copy part link inside ∷ xs) = map (λ y. (r.head.images.membrane inside, y)) (r.copied c) ++ places_of r a (c + 1) xs
places_of r a c (Membrane inside ∷ xs) = places_of r a c xs
places_of r a c (Rest of closed inside ∷ xs) = places_of r a c xs
places_of r a c (Rule rule inside ∷ xs) = places_of r a c xs
places_of r a c (Rules of inside ∷ xs) = places_of r a c xs

-- the new atoms in order, those of a copy, of a part or of a rest, in its place
abbrev pub new_atoms : Registers → RestCopies → ℕ → ℕ → List BodyItem → List ℕ
new_atoms r q a c [] = []
new_atoms r q a c (Atom functor links inside ∷ xs) = r.head.images.atom a ∷ new_atoms r q (a + 1) c xs
new_atoms r q a c (Bound integer link inside ∷ xs) = r.head.images.atom a ∷ new_atoms r q (a + 1) c xs
new_atoms r q a c (Connector left right ∷ xs) = new_atoms r q a c xs
new_atoms r q a c (Copy part link inside ∷ xs) = r.copied c ++ new_atoms r q a (c + 1) xs
new_atoms r q a c (Membrane inside ∷ xs) = new_atoms r q a c xs
new_atoms r q a c (Rest of false inside ∷ xs) = new_atoms r q a c xs
new_atoms r q a c (Rest of true inside ∷ xs) = (q 0).atoms ++ new_atoms r (later q) a c xs
new_atoms r q a c (Rule rule inside ∷ xs) = new_atoms r q a c xs
new_atoms r q a c (Rules of inside ∷ xs) = new_atoms r q a c xs

-- the copies of parts in a body by their numbers, each with the number of its typed context in the head
abbrev pub copies_of : ℕ → List BodyItem → List (ℕ × ℕ)
copies_of c [] = []
copies_of c (Atom functor links inside ∷ xs) = copies_of c xs
copies_of c (Bound integer link inside ∷ xs) = copies_of c xs
copies_of c (Connector left right ∷ xs) = copies_of c xs
copies_of c (Copy part link inside ∷ xs) = (c, part) ∷ copies_of (c + 1) xs
copies_of c (Membrane inside ∷ xs) = copies_of c xs
copies_of c (Rest of closed inside ∷ xs) = copies_of c xs
copies_of c (Rule rule inside ∷ xs) = copies_of c xs
copies_of c (Rules of inside ∷ xs) = copies_of c xs
