-- When the code of a body sets its registers in order.
use Rattle.std.specs.Prelude.{ℕ, ◌+◌, ◌<◌, ◌≤◌, List, [], ◌∷◌, length}
use Rattle.lmn_solid_heads.specs.declared.items.HeadItem.{HeadItem}
use Rattle.lmn_solid_heads.specs.Heads.{atoms_of, typed_contexts_of, membranes_of}
use Rattle.lmn_solid_bodies.specs.declared.items.BodyItem.{BodyItem}
use Rattle.lmn_solid_bodies.specs.declared.items.BodyItem.TheVariants.{Atom, Connector, Copy, Bound, Membrane, Rest, Rule, Rules}
use Rattle.lmn_solid_bodies.specs.Code.{body_code}
use Rattle.lmn_solid_bodies.specs.Rules.{NestedRule}
use Rattle.lmn_machine_registers.specs.declared.stack.TheConstants.{ROOM}
use Rattle.lmn_machine_commit.specs.Preparing.{BodyInOrder}

-- how many atoms a body makes
abbrev pub atoms_in_body : List BodyItem → ℕ
atoms_in_body [] = 0
atoms_in_body (Atom functor links inside ∷ xs) = 1 + atoms_in_body xs
atoms_in_body (Connector left right ∷ xs) = atoms_in_body xs
atoms_in_body (Copy part link inside ∷ xs) = atoms_in_body xs
atoms_in_body (Bound integer link inside ∷ xs) = 1 + atoms_in_body xs
atoms_in_body (Membrane inside ∷ xs) = atoms_in_body xs
atoms_in_body (Rest of closed inside ∷ xs) = atoms_in_body xs
atoms_in_body (Rule rule inside ∷ xs) = atoms_in_body xs
atoms_in_body (Rules of inside ∷ xs) = atoms_in_body xs

-- how many membranes it makes
abbrev pub membranes_in_body : List BodyItem → ℕ
membranes_in_body [] = 0
membranes_in_body (Atom functor links inside ∷ xs) = membranes_in_body xs
membranes_in_body (Connector left right ∷ xs) = membranes_in_body xs
membranes_in_body (Copy part link inside ∷ xs) = membranes_in_body xs
membranes_in_body (Bound integer link inside ∷ xs) = membranes_in_body xs
membranes_in_body (Membrane inside ∷ xs) = 1 + membranes_in_body xs
membranes_in_body (Rest of closed inside ∷ xs) = membranes_in_body xs
membranes_in_body (Rule rule inside ∷ xs) = membranes_in_body xs
membranes_in_body (Rules of inside ∷ xs) = membranes_in_body xs

-- how many copies of typed contexts
abbrev pub copies_in_body : List BodyItem → ℕ
copies_in_body [] = 0
copies_in_body (Atom functor links inside ∷ xs) = copies_in_body xs
copies_in_body (Connector left right ∷ xs) = copies_in_body xs
copies_in_body (Copy part link inside ∷ xs) = 1 + copies_in_body xs
copies_in_body (Bound integer link inside ∷ xs) = copies_in_body xs
copies_in_body (Membrane inside ∷ xs) = copies_in_body xs
copies_in_body (Rest of closed inside ∷ xs) = copies_in_body xs
copies_in_body (Rule rule inside ∷ xs) = copies_in_body xs
copies_in_body (Rules of inside ∷ xs) = copies_in_body xs

-- its integers are in the first v registers
abbrev pub BoundBelow : ℕ → List BodyItem → Type 0
BoundBelow v [] = Unit {0}
BoundBelow v (Atom functor links inside ∷ xs) = BoundBelow v xs
BoundBelow v (Connector left right ∷ xs) = BoundBelow v xs
BoundBelow v (Copy part link inside ∷ xs) = BoundBelow v xs
BoundBelow v (Bound integer link inside ∷ xs) = (integer < v) × BoundBelow v xs
BoundBelow v (Membrane inside ∷ xs) = BoundBelow v xs
BoundBelow v (Rest of closed inside ∷ xs) = BoundBelow v xs
BoundBelow v (Rule rule inside ∷ xs) = BoundBelow v xs
BoundBelow v (Rules of inside ∷ xs) = BoundBelow v xs

-- The code of the body of a rule sets its registers in order, after those of its head, where there is room for them and
-- its integers are set.
abbrev pub BodiesAreInOrder : Type 0
BodiesAreInOrder = (head : List HeadItem) (body : List BodyItem) (n v : ℕ) → NestedRule head body n → BoundBelow v body →
    length (atoms_of head) + atoms_in_body body ≤ ROOM → 1 + length (membranes_of head) + membranes_in_body body ≤ ROOM → copies_in_body body ≤ ROOM →
    BodyInOrder (length (atoms_of head)) (1 + length (membranes_of head)) (length (typed_contexts_of head)) v 0 (body_code head body n)
