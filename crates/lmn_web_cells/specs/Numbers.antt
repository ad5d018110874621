-- The numbers of a cell, by what they say.
use Rattle.std.specs.Prelude.{ℕ}

-- how many ports it has, and what it stands for: numbers below 256
abbrev pub ARITY : ℕ
ARITY = 0

abbrev pub KIND : ℕ
KIND = 1

-- its index, which no other one has
abbrev pub INDEX : ℕ
INDEX = 2

-- the upper half of its label, below 2 ^ 16, and the lower one
abbrev pub HIGH : ℕ
HIGH = 3

abbrev pub LOW : ℕ
LOW = 4

-- its first mark
abbrev pub FIRST_MARK : ℕ
FIRST_MARK = 5

-- how many atoms and how many membranes stand in it
abbrev pub ATOM_COUNT : ℕ
ATOM_COUNT = 6

abbrev pub MEMBRANE_COUNT : ℕ
MEMBRANE_COUNT = 7
