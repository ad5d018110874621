-- A small web, made by what calls do, and what holds of it.
use Rattle.std.specs.Prelude.{◌≡◌, ◌^◌, ℕ, [], ◌∷◌, Option, Some, None}
use Rattle.std.specs.Option.{option_map}
use Rattle.lmn_store_heap.specs.Heap.{alter}
use Rattle.lmn_web_cells.specs.Cells.{HeldCell, IsNewIndex}
use Rattle.lmn_web.specs.Classes.{IsRing}
use Rattle.lmn_web.specs.declared.kind.CellKind.TheVariants.{Atom, Membrane}
use Rattle.lmn_web.specs.Webs.{WebCell, new_cell, with_list, cells_in, home_at, added_last, added_before, unlinked, with_label, with_class, FilesNone, IsLoose, StandOnce, WithoutAtoms}

-- the membrane 0, and the atoms 1 and 2 in no list
abbrev pub unlisted : ℕ → Option WebCell
unlisted = alter (alter (alter (λ _. None) 0 (λ _. Some (new_cell 0 0 Membrane))) 1 (λ _. Some (new_cell 5 1 Atom))) 2 (λ _. Some (new_cell 6 1 Atom))

-- both atoms in the membrane
abbrev pub two_listed : ℕ → Option WebCell
two_listed = added_last (added_last unlisted 0 1) 0 2

-- the second came to the end
abbrev pub SecondIsLast : Type 0
SecondIsLast = cells_in two_listed 0 Atom ≡ 1 ∷ 2 ∷ []

-- or before the first
abbrev pub SecondIsFirst : Type 0
SecondIsFirst = cells_in (added_before (added_last unlisted 0 1) 0 1 2) 0 Atom ≡ 2 ∷ 1 ∷ []

-- the first left
abbrev pub FirstIsGone : Type 0
FirstIsGone = (cells_in (unlinked two_listed 0 1) 0 Atom ≡ 2 ∷ []) × (home_at (unlinked two_listed 0 1) 1 ≡ None)

abbrev pub BothAreListed : Type 0
BothAreListed = StandOnce two_listed

-- with another list they aren't
abbrev pub LostAreNotListed : Type 0
LostAreNotListed = StandOnce (alter two_listed 0 (option_map (with_list Atom []))) → ⊥

-- an atom that left may be freed
abbrev pub GoneIsLoose : Type 0
GoneIsLoose = IsLoose (unlinked two_listed 0 1) 1

-- one in a list may not
abbrev pub ListedIsNotLoose : Type 0
ListedIsNotLoose = IsLoose two_listed 1 → ⊥

-- the membrane alone
abbrev pub emptied : ℕ → Option WebCell
emptied = alter (λ _. None) 0 (λ _. Some (new_cell 0 0 Membrane))

-- both atoms are freed, and the membrane stays
abbrev pub BothAreGone : Type 0
BothAreGone = WithoutAtoms two_listed emptied 0

-- where nothing changes they aren't
abbrev pub StillThereIsNotGone : Type 0
StillThereIsNotGone = WithoutAtoms two_listed two_listed 0 → ⊥

-- of two atoms one has a label
abbrev pub OneHasLabel : Type 0
OneHasLabel = with_label two_listed 6 1 (1 ∷ 2 ∷ []) ≡ 2 ∷ []

-- and none has it with two ports
abbrev pub NoneHasTwoPorts : Type 0
NoneHasTwoPorts = with_label two_listed 6 2 (1 ∷ 2 ∷ []) ≡ []

-- labels with one upper half are of one class
abbrev pub BothAreOfOneClass : Type 0
BothAreOfOneClass = with_class two_listed 0 1 (1 ∷ 2 ∷ []) ≡ 1 ∷ 2 ∷ []

-- a membrane whose label has another class than 0 files no atoms
abbrev pub FarFilesNone : Type 0
FarFilesNone = FilesNone (alter (λ _. None) 0 (λ _. Some (new_cell (2 ^ 64) 0 Membrane))) 0

-- one whose label has the class 0 files them
abbrev pub NearFiles : Type 0
NearFiles = FilesNone two_listed 0 → ⊥

-- with another one there is none
abbrev pub NoneIsOfAnotherClass : Type 0
NoneIsOfAnotherClass = with_class two_listed 1 1 (1 ∷ 2 ∷ []) ≡ []

-- an atom with this index, between this one and this one of its class
abbrev pub in_class : ℕ → ℕ → ℕ → HeldCell
in_class index prev next = record { links = None ∷ None ∷ None ∷ Some next ∷ Some prev ∷ None ∷ None ∷ None ∷ []; numbers = 0 ∷ 0 ∷ index ∷ 0 ∷ 0 ∷ 0 ∷ []; ports = [] }

-- the atoms 1, 2 and 3, each before the next one and the last one before the first, with the indices 4, 5 and 6
abbrev pub ringed : ℕ → Option HeldCell
ringed = alter (alter (alter (λ _. None) 1 (λ _. Some (in_class 4 3 2))) 2 (λ _. Some (in_class 5 1 3))) 3 (λ _. Some (in_class 6 2 1))

-- the third ends a ring of the three
abbrev pub ThreeAreARing : Type 0
ThreeAreARing = IsRing ringed 3 (1 ∷ 2 ∷ 3 ∷ [])

-- two of them are none
abbrev pub TwoAreNoRing : Type 0
TwoAreNoRing = IsRing ringed 3 (2 ∷ 3 ∷ []) → ⊥

-- none of them has the index 7
abbrev pub SevenIsNew : Type 0
SevenIsNew = IsNewIndex ringed 7

-- and one has 5
abbrev pub FiveIsNotNew : Type 0
FiveIsNotNew = IsNewIndex ringed 5 → ⊥
