-- The links of a cell, by where they lead.
use Rattle.std.specs.Prelude.{ℕ}

-- to the membrane in a list of which a cell stands, and to the next and the previous cell of that list
abbrev pub HOME : ℕ
HOME = 0

abbrev pub NEXT : ℕ
NEXT = 1

abbrev pub PREV : ℕ
PREV = 2

-- of a membrane, to the first of its atoms and to the first of its membranes; the next link leads to the last one
abbrev pub ATOMS : ℕ
ATOMS = 3

abbrev pub MEMBRANES : ℕ
MEMBRANES = 5

-- of a membrane, to the last atom of a class
abbrev pub LEADERS : ℕ
LEADERS = 7

-- of an atom, to the next and the previous one of its class; those of the last one and of the first one of a class lead to each other
abbrev pub CLASS_NEXT : ℕ
CLASS_NEXT = 3

abbrev pub CLASS_PREV : ℕ
CLASS_PREV = 4

-- of the last one of a class, to those of other classes, on its even and on its odd side; the first of them leads each other one to its membrane
abbrev pub EVEN : ℕ
EVEN = 5

abbrev pub ODD : ℕ
ODD = 6
