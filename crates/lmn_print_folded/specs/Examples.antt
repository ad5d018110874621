-- Folded lines of small regions.
use Rattle.std.specs.Prelude.{ℕ, List, [], ◌∷◌, codes, pos}
use Rattle.lmn_congruence.specs.Rules.{named, integer, Rule, rule_of, Leaf, atom_leaf, connector_leaf, typed_leaf, is_kind, grounded, only_leaves}
use Rattle.lmn_congruence.specs.Regions.{SolidAtom, Region, region, no_region, region_and}
use Rattle.lmn_print_folded.specs.Lines.{IsFoldedLine}

abbrev pub named_atom : List ℕ → List ℕ → SolidAtom
named_atom bytes links = record { label = named bytes; links = links }

abbrev pub number_atom : ℕ → List ℕ → SolidAtom
number_atom n links = record { label = integer (pos n); links = links }

abbrev pub atoms_and : List SolidAtom → List Rule → Region
atoms_and atoms rules = region atoms no_region rules

abbrev leaf : List ℕ → List ℕ → Leaf
leaf bytes links = atom_leaf (named bytes) links

-- d($g) :- ground($g) | e($g,$g).
abbrev pub copying : Rule
copying =
    rule_of (only_leaves (leaf (codes "d") (0 ∷ []) ∷ typed_leaf (codes "g") 0 ∷ [])) (is_kind grounded (codes "g") ∷ [])
    (only_leaves (leaf (codes "e") (1 ∷ 2 ∷ []) ∷ typed_leaf (codes "g") 1 ∷ typed_leaf (codes "g") 2 ∷ []))

-- two lists as arguments
abbrev pub two_lists : Region
two_lists =
    atoms_and (named_atom (codes "e") (0 ∷ 1 ∷ [])
    ∷ named_atom (codes ".") (2 ∷ 3 ∷ 0 ∷ []) ∷ number_atom 1 (2 ∷ []) ∷ named_atom (codes ".") (4 ∷ 5 ∷ 3 ∷ []) ∷ number_atom 2 (4 ∷ []) ∷ named_atom (codes "[]") (5 ∷ [])
    ∷ named_atom (codes ".") (6 ∷ 7 ∷ 1 ∷ []) ∷ number_atom 1 (6 ∷ []) ∷ named_atom (codes ".") (8 ∷ 9 ∷ 7 ∷ []) ∷ number_atom 2 (8 ∷ []) ∷ named_atom (codes "[]") (9 ∷ [])
    ∷ []) (copying ∷ [])

abbrev pub TwoLists : Type 0
TwoLists = IsFoldedLine two_lists (codes "e([1, 2], [1, 2]). (d(L0), $g[L0] :- ground($g) | e(L1, L2), $g[L1], $g[L2]).\n")

-- append([],Y,Z) :- Y=Z.
abbrev pub append_none : Rule
append_none =
    rule_of (only_leaves (leaf (codes "append") (0 ∷ 1 ∷ 2 ∷ []) ∷ leaf (codes "[]") (0 ∷ []) ∷ [])) [] (only_leaves (connector_leaf 1 2 ∷ []))

-- append([A|X],Y,Z) :- Z=[A|W], append(X,Y,W).
abbrev pub append_more : Rule
append_more =
    rule_of (only_leaves (leaf (codes "append") (0 ∷ 1 ∷ 2 ∷ []) ∷ leaf (codes ".") (3 ∷ 4 ∷ 0 ∷ []) ∷ [])) []
    (only_leaves (connector_leaf 2 5 ∷ leaf (codes ".") (3 ∷ 6 ∷ 5 ∷ []) ∷ leaf (codes "append") (4 ∷ 1 ∷ 6 ∷ []) ∷ []))

-- The order of the atoms doesn't matter here, since one of them alone is no child.
abbrev pub an_answer : Region
an_answer =
    atoms_and (number_atom 3 (5 ∷ []) ∷ named_atom (codes "[]") (6 ∷ []) ∷ named_atom (codes ".") (5 ∷ 6 ∷ 4 ∷ []) ∷ named_atom (codes "ans") (0 ∷ [])
    ∷ named_atom (codes ".") (1 ∷ 2 ∷ 0 ∷ []) ∷ number_atom 1 (1 ∷ []) ∷ named_atom (codes ".") (3 ∷ 4 ∷ 2 ∷ []) ∷ number_atom 2 (3 ∷ []) ∷ []) (append_none ∷ append_more ∷ [])

abbrev pub AnAnswer : Type 0
AnAnswer = IsFoldedLine an_answer
    (codes "ans([1, 2, 3]). (append(L0, L1, L2), '[]'(L0) :- L1 = L2). (append(L0, L1, L2), '.'(L3, L4, L0) :- L2 = L5, '.'(L3, L6, L5), append(L4, L1, L6)).\n")

-- Each of `a(X,Y), b(Y,X)` is a child of the other, and the first one is the item.
abbrev pub in_a_circle : Region
in_a_circle = atoms_and (named_atom (codes "a") (1 ∷ 0 ∷ []) ∷ named_atom (codes "b") (0 ∷ 1 ∷ []) ∷ []) []

abbrev pub InACircle : Type 0
InACircle = IsFoldedLine in_a_circle (codes "a(b(L0), L0).\n")

-- A child of one of them that stands first is an item too.
abbrev pub beside_a_circle : Region
beside_a_circle = atoms_and (named_atom (codes "c") (0 ∷ []) ∷ named_atom (codes "a") (0 ∷ 2 ∷ 1 ∷ []) ∷ named_atom (codes "b") (1 ∷ 2 ∷ []) ∷ []) []

abbrev pub BesideACircle : Type 0
BesideACircle = IsFoldedLine beside_a_circle (codes "c(L0). a(L0, b(L1), L1).\n")

-- An atom isn't its own child.
abbrev pub own_argument : Region
own_argument = atoms_and (named_atom (codes "a") (0 ∷ 0 ∷ []) ∷ []) []

abbrev pub OwnArgument : Type 0
OwnArgument = IsFoldedLine own_argument (codes "a(L0, L0).\n")

-- two lists that share their rest
abbrev pub shared_rest : Region
shared_rest =
    atoms_and (named_atom (codes "p") (1 ∷ []) ∷ named_atom (codes ".") (2 ∷ 0 ∷ 1 ∷ []) ∷ number_atom 1 (2 ∷ []) ∷ named_atom (codes "q") (3 ∷ [])
    ∷ named_atom (codes ".") (4 ∷ 0 ∷ 3 ∷ []) ∷ number_atom 2 (4 ∷ []) ∷ []) []

abbrev pub SharedRest : Type 0
SharedRest = IsFoldedLine shared_rest (codes "p([1 | L0]). q([2 | L0]).\n")

-- a rest that is no list
abbrev pub other_rest : Region
other_rest = atoms_and (named_atom (codes "p") (0 ∷ []) ∷ named_atom (codes ".") (1 ∷ 2 ∷ 0 ∷ []) ∷ number_atom 1 (1 ∷ []) ∷ named_atom (codes "q") (2 ∷ []) ∷ []) []

abbrev pub OtherRest : Type 0
OtherRest = IsFoldedLine other_rest (codes "p([1 | q]).\n")

-- Two atoms are joined by their last ports: the later one is the child.
abbrev pub last_ports : Region
last_ports = atoms_and (named_atom (codes "a") (0 ∷ []) ∷ named_atom (codes "b") (0 ∷ []) ∷ []) []

abbrev pub LastPorts : Type 0
LastPorts = IsFoldedLine last_ports (codes "a(b).\n")

-- The other way round it isn't the line.
abbrev pub NotTheFirst : Type 0
NotTheFirst = IsFoldedLine last_ports (codes "b(a).\n") → ⊥

-- The empty list has no terms, and a cell has two: these are written by their names.
abbrev pub no_lists : Region
no_lists =
    atoms_and (named_atom (codes "p") (0 ∷ []) ∷ named_atom (codes "[]") (1 ∷ 0 ∷ []) ∷ named_atom (codes "[]") (1 ∷ []) ∷ named_atom (codes "p") (2 ∷ [])
    ∷ named_atom (codes ".") (3 ∷ 2 ∷ []) ∷ named_atom (codes "[]") (3 ∷ []) ∷ []) []

abbrev pub NoLists : Type 0
NoLists = IsFoldedLine no_lists (codes "p('[]'([])). p('.'([])).\n")

-- An item isn't written as a list.
abbrev pub cell_as_item : Region
cell_as_item = atoms_and (named_atom (codes ".") (1 ∷ 0 ∷ 0 ∷ []) ∷ number_atom 1 (1 ∷ []) ∷ []) []

abbrev pub CellAsItem : Type 0
CellAsItem = IsFoldedLine cell_as_item (codes "'.'(1, L0, L0).\n")

-- An atom in a membrane is no child of one outside. Its link is the first one that is printed, whatever its number was.
abbrev pub across_membrane : Region
across_membrane =
    region (named_atom (codes "b") (7 ∷ 3 ∷ []) ∷ named_atom (codes "c") (3 ∷ []) ∷ [])
    (region_and (atoms_and (named_atom (codes "a") (7 ∷ []) ∷ []) []) no_region) []

abbrev pub Across : Type 0
Across = IsFoldedLine across_membrane (codes "b(L0, c). {a(L0)}.\n")
