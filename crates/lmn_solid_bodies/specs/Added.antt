-- What a body adds to the lists of a membrane, in order.
use Rattle.std.specs.Prelude.{ℕ, true, false, ◌+◌, ◌==◌, if◌then◌else◌, List, [], ◌∷◌, ◌++◌, map}
use Rattle.lmn_solid_bodies.specs.declared.items.BodyItem.{BodyItem}
use Rattle.lmn_solid_bodies.specs.declared.items.BodyItem.TheVariants.{Atom, Connector, Copy, Bound, Membrane, Rest, Rule, Rules}
use Rattle.lmn_solid_bodies.specs.Running.{Registers}
use Rattle.lmn_solid_bodies.specs.RestCopies.{RestCopies, later, rest_membranes, copied_atom, copied_membrane, copied_into, given}

-- some numbers, if they go to membrane x of the heap
abbrev pub if_inside : Registers → ℕ → ℕ → List ℕ → List ℕ
if_inside r x inside ns = if r.head.images.membrane inside == x then ns else []

-- Atoms: each leaf where it is written, a copy with all its atoms, then for each untyped context the atoms that are left
-- of its membrane, or their copies where it is closed; these go with the copies of the membranes of the rest. The next atom has
-- the register a, the next copy of a part the register c; q are the copies of rests.
abbrev pub added_atoms : Registers → RestCopies → (ℕ → List ℕ) → ℕ → ℕ → List BodyItem → ℕ → List ℕ
added_atoms r q left a c [] x = []
added_atoms r q left a c (Atom functor links inside ∷ xs) x = if_inside r x inside (r.head.images.atom a ∷ []) ++ added_atoms r q left (a + 1) c xs x
added_atoms r q left a c (Connector l l' ∷ xs) x = added_atoms r q left a c xs x
added_atoms r q left a c (Copy part link inside ∷ xs) x = if_inside r x inside (r.copied c) ++ added_atoms r q left a (c + 1) xs x
added_atoms r q left a c (Bound integer link inside ∷ xs) x = if_inside r x inside (r.head.images.atom a ∷ []) ++ added_atoms r q left (a + 1) c xs x
added_atoms r q left a c (Membrane inside ∷ xs) x = added_atoms r q left a c xs x
added_atoms r q left a c (Rest of false inside ∷ xs) x = if_inside r x inside (left (r.head.images.membrane of)) ++ added_atoms r q left a c xs x
added_atoms r q left a c (Rest of true inside ∷ xs) x = given (λ k. map (copied_atom r of (q 0)) (left k)) (copied_into r of inside (q 0)) (rest_membranes r of) x ++ added_atoms r (later q) left a c xs x
added_atoms r q left a c (Rule rule inside ∷ xs) x = added_atoms r q left a c xs x
added_atoms r q left a c (Rules of inside ∷ xs) x = added_atoms r q left a c xs x

-- Membranes: those that are written, then for each untyped context those that are left of its membrane, or their copies where
-- it is closed. The next membrane has the register m.
abbrev pub added_mems : Registers → RestCopies → (ℕ → List ℕ) → ℕ → List BodyItem → ℕ → List ℕ
added_mems r q left m [] x = []
added_mems r q left m (Atom functor links inside ∷ xs) x = added_mems r q left m xs x
added_mems r q left m (Connector l l' ∷ xs) x = added_mems r q left m xs x
added_mems r q left m (Copy part link inside ∷ xs) x = added_mems r q left m xs x
added_mems r q left m (Bound integer link inside ∷ xs) x = added_mems r q left m xs x
added_mems r q left m (Membrane inside ∷ xs) x = if_inside r x inside (r.head.images.membrane m ∷ []) ++ added_mems r q left (m + 1) xs x
added_mems r q left m (Rest of false inside ∷ xs) x = if_inside r x inside (left (r.head.images.membrane of)) ++ added_mems r q left m xs x
added_mems r q left m (Rest of true inside ∷ xs) x = given (λ k. map (copied_membrane r of (q 0)) (left k)) (copied_into r of inside (q 0)) (rest_membranes r of) x ++ added_mems r (later q) left m xs x
added_mems r q left m (Rule rule inside ∷ xs) x = added_mems r q left m xs x
added_mems r q left m (Rules of inside ∷ xs) x = added_mems r q left m xs x

-- Rules that the body names: those that are written, then for each rule context those of its membrane.
abbrev pub named_rules : Registers → (ℕ → List ℕ) → List BodyItem → ℕ → List ℕ
named_rules r rules [] x = []
named_rules r rules (Atom functor links inside ∷ xs) x = named_rules r rules xs x
named_rules r rules (Connector l l' ∷ xs) x = named_rules r rules xs x
named_rules r rules (Copy part link inside ∷ xs) x = named_rules r rules xs x
named_rules r rules (Bound integer link inside ∷ xs) x = named_rules r rules xs x
named_rules r rules (Membrane inside ∷ xs) x = named_rules r rules xs x
named_rules r rules (Rest of closed inside ∷ xs) x = named_rules r rules xs x
named_rules r rules (Rule rule inside ∷ xs) x = if_inside r x inside (rule ∷ []) ++ named_rules r rules xs x
named_rules r rules (Rules of inside ∷ xs) x = if_inside r x inside (rules (r.head.images.membrane of)) ++ named_rules r rules xs x

-- Rules: those that the body names, and those of each membrane of the copy of a rest, as its original has them.
abbrev pub added_rules : Registers → RestCopies → (ℕ → List ℕ) → List BodyItem → ℕ → List ℕ
added_rules r q rules [] x = []
added_rules r q rules (Atom functor links inside ∷ xs) x = added_rules r q rules xs x
added_rules r q rules (Connector l l' ∷ xs) x = added_rules r q rules xs x
added_rules r q rules (Copy part link inside ∷ xs) x = added_rules r q rules xs x
added_rules r q rules (Bound integer link inside ∷ xs) x = added_rules r q rules xs x
added_rules r q rules (Membrane inside ∷ xs) x = added_rules r q rules xs x
added_rules r q rules (Rest of false inside ∷ xs) x = added_rules r q rules xs x
added_rules r q rules (Rest of true inside ∷ xs) x = given rules (copied_into r of inside (q 0)) (r.left_membranes of) x ++ added_rules r (later q) rules xs x
added_rules r q rules (Rule rule inside ∷ xs) x = if_inside r x inside (rule ∷ []) ++ added_rules r q rules xs x
added_rules r q rules (Rules of inside ∷ xs) x = if_inside r x inside (rules (r.head.images.membrane of)) ++ added_rules r q rules xs x

-- the membranes of the heap from whose lists a body takes or copies: those whose content moves, and those of copied rests
abbrev pub source_mems : Registers → List BodyItem → List ℕ
source_mems r [] = []
source_mems r (Atom functor links inside ∷ xs) = source_mems r xs
source_mems r (Connector l l' ∷ xs) = source_mems r xs
source_mems r (Copy part link inside ∷ xs) = source_mems r xs
source_mems r (Bound integer link inside ∷ xs) = source_mems r xs
source_mems r (Membrane inside ∷ xs) = source_mems r xs
source_mems r (Rest of false inside ∷ xs) = r.head.images.membrane of ∷ source_mems r xs
source_mems r (Rest of true inside ∷ xs) = rest_membranes r of ++ source_mems r xs
source_mems r (Rule rule inside ∷ xs) = source_mems r xs
source_mems r (Rules of inside ∷ xs) = source_mems r xs

-- the membranes of the heap whose content moves: those of open contexts
abbrev pub moved_mems : Registers → List BodyItem → List ℕ
moved_mems r [] = []
moved_mems r (Atom functor links inside ∷ xs) = moved_mems r xs
moved_mems r (Connector l l' ∷ xs) = moved_mems r xs
moved_mems r (Copy part link inside ∷ xs) = moved_mems r xs
moved_mems r (Bound integer link inside ∷ xs) = moved_mems r xs
moved_mems r (Membrane inside ∷ xs) = moved_mems r xs
moved_mems r (Rest of false inside ∷ xs) = r.head.images.membrane of ∷ moved_mems r xs
moved_mems r (Rest of true inside ∷ xs) = moved_mems r xs
moved_mems r (Rule rule inside ∷ xs) = moved_mems r xs
moved_mems r (Rules of inside ∷ xs) = moved_mems r xs

-- the membranes that are made: those that are written, the next in the register m, and those of copies of rests
abbrev pub made_mems : Registers → RestCopies → ℕ → List BodyItem → List ℕ
made_mems r q m [] = []
made_mems r q m (Atom functor links inside ∷ xs) = made_mems r q m xs
made_mems r q m (Connector l l' ∷ xs) = made_mems r q m xs
made_mems r q m (Copy part link inside ∷ xs) = made_mems r q m xs
made_mems r q m (Bound integer link inside ∷ xs) = made_mems r q m xs
made_mems r q m (Membrane inside ∷ xs) = r.head.images.membrane m ∷ made_mems r q (m + 1) xs
made_mems r q m (Rest of false inside ∷ xs) = made_mems r q m xs
made_mems r q m (Rest of true inside ∷ xs) = (q 0).membranes ++ made_mems r (later q) m xs
made_mems r q m (Rule rule inside ∷ xs) = made_mems r q m xs
made_mems r q m (Rules of inside ∷ xs) = made_mems r q m xs
