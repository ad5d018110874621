-- The code of the body of a rule.
use Rattle.std.specs.Prelude.{ℕ, ◌+◌, if◌then◌else◌, List, [], ◌∷◌, ◌++◌, length, map}
use Rattle.lmn_solid_heads.specs.declared.items.HeadItem.{HeadItem}
use Rattle.lmn_solid_heads.specs.Heads.{HeadMembrane, atoms_of, typed_contexts_of, membranes_of}
use Rattle.lmn_congruence_splice.specs.Classes.{class_of, ends_of_class, rising}
use Rattle.lmn_instr_code.specs.declared.instr.AtomPort.{AtomPort}
use Rattle.lmn_instr_code.specs.declared.instr.NewPort.{NewPort}
use Rattle.lmn_instr_code.specs.declared.instr.Instr.{Instr}
use Rattle.lmn_instr_code.specs.declared.instr.Instr.TheVariants.{RemoveAtom, RemovePart, RemoveMem, NewAtom, NewInt, NewMem, CopyGround, MoveCells, CopyCells, LoadRule, CopyRules, DropCells, NewLink, Relink, Unify, Proceed}
use Rattle.lmn_solid_bodies.specs.declared.items.BodyItem.{BodyItem}
use Rattle.lmn_solid_bodies.specs.declared.items.BodyItem.TheVariants.{Atom, Connector, Copy, Bound, Membrane, Rest, Rule, Rules}
use Rattle.lmn_solid_bodies.specs.Items.{new_ports, old_ports, connectors}

-- What the head holds is taken out: each atom, each typed context, each membrane but that of the rule.
abbrev pub removals : List HeadItem → List Instr
removals items =
    map RemoveAtom (rising 0 (length (atoms_of items)))
    ++ (map RemovePart (rising 0 (length (typed_contexts_of items)))
    ++ map RemoveMem (rising 1 (length (membranes_of items))))

-- What the body makes, in order. The next atom, membrane and copy have the registers a, m and c.
abbrev pub making : ℕ → ℕ → ℕ → List BodyItem → List Instr
making a m c [] = []
making a m c (Atom functor links inside ∷ xs) = NewAtom a inside functor ∷ making (a + 1) m c xs
making a m c (Connector left right ∷ xs) = making a m c xs
making a m c (Copy part link inside ∷ xs) = CopyGround c inside part ∷ making a m (c + 1) xs
making a m c (Bound integer link inside ∷ xs) = NewInt a inside integer ∷ making (a + 1) m c xs
making a m c (Membrane inside ∷ xs) = NewMem m inside ∷ making a (m + 1) c xs
making a m c (Rest of closed inside ∷ xs) = (if closed then CopyCells of inside else MoveCells of inside) ∷ making a m c xs
making a m c (Rule rule inside ∷ xs) = LoadRule inside rule ∷ making a m c xs
making a m c (Rules of inside ∷ xs) = CopyRules of inside ∷ making a m c xs

-- What is left in a head membrane with a closed context is taken out when all of its copies are placed. The first membrane
-- has the number k.
abbrev pub drops : ℕ → List HeadMembrane → List Instr
drops k [] = []
drops k (b ∷ bs) = (if b.has_closed_context then DropCells k ∷ [] else []) ++ drops (k + 1) bs

-- What ties the ends of a class: two new ports, a new port and one of the head, or two of the head.
abbrev pub link_code : List NewPort → List AtomPort → List Instr
link_code (p ∷ q ∷ []) [] = NewLink p q ∷ []
link_code (p ∷ []) (h ∷ []) = Relink p h ∷ []
link_code [] (g ∷ h ∷ []) = Unify g h ∷ []
link_code ps hs = []

-- class by class, of the classes with these numbers
abbrev pub links_code : (ℕ → ℕ) → List (NewPort × ℕ) → List (AtomPort × ℕ) → List ℕ → List Instr
links_code m news olds [] = []
links_code m news olds (z ∷ zs) = link_code (ends_of_class m z news) (ends_of_class m z olds) ++ links_code m news olds zs

-- The code of the body of a rule with these head and body items and this number of links. Registers go on from those
-- of the head. The classes of links are taken by rising least link.
abbrev pub body_code : List HeadItem → List BodyItem → ℕ → List Instr
body_code head body n =
    let a = length (atoms_of head) in
    removals head
    ++ (making a (1 + length (membranes_of head)) 0 body
    ++ (drops 1 (membranes_of head)
    ++ (links_code (class_of (connectors body)) (new_ports a 0 body) (old_ports head) (rising 0 n)
    ++ (Proceed ∷ []))))
