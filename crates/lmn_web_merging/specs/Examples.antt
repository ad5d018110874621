-- A small web in which one membrane keeps the lists of another, and one before and after a merge.
use Rattle.std.specs.Prelude.{◌≡◌, ℕ, List, [], ◌∷◌, Option, Some, None}
use Rattle.lmn_store_heap.specs.Heap.{alter}
use Rattle.lmn_web.specs.declared.kind.CellKind.TheVariants.{Atom, Membrane}
use Rattle.lmn_web.specs.Webs.{WebCell, cells_in, home_at}
use Rattle.lmn_web_merging.specs.Keepers.{keeper, port_mark, seen, LENT, RETIRED, MovesAll}

-- a membrane with this partner at its port, this mark there and these atoms
abbrev pub membrane : Option (ℕ × ℕ) → ℕ → List ℕ → WebCell
membrane p e xs = record { label = 0; kind = Membrane; partners = p ∷ []; marks = 0 ∷ e ∷ []; home = None; atoms = xs; membranes = [] }

-- an atom in the list of this cell
abbrev pub atom : ℕ → WebCell
atom h = record { label = 5; kind = Atom; partners = []; marks = 0 ∷ []; home = Some h; atoms = []; membranes = [] }

-- two membranes, and the atom 2
abbrev pub three : WebCell → WebCell → WebCell → ℕ → Option WebCell
three a b c = alter (alter (alter (λ _. None) 0 (λ _. Some a)) 1 (λ _. Some b)) 2 (λ _. Some c)

-- the cell 0, with this mark, keeps the lists of the membrane 1
abbrev pub kept : ℕ → ℕ → Option WebCell
kept e = three (membrane (Some (1, 0)) e (2 ∷ [])) (membrane (Some (0, 0)) 1 []) (atom 0)

-- each keeps its own: the atom stands in 0
abbrev pub apart : ℕ → Option WebCell
apart = three (membrane None 0 (2 ∷ [])) (membrane None 0 []) (atom 0)

-- it stands in 1
abbrev pub merged : ℕ → Option WebCell
merged = three (membrane None 0 []) (membrane None 0 (2 ∷ [])) (atom 1)

-- The cell 0 keeps the lists of 1.
abbrev pub OtherKeeps : Type 0
OtherKeeps = keeper (kept LENT) 1 ≡ 0

-- A membrane with no partner keeps its own.
abbrev pub OwnIsKept : Type 0
OwnIsKept = keeper apart 1 ≡ 1

-- What stands in a list that is kept for 1 is seen in 1,
abbrev pub KeptIsSeen : Type 0
KeptIsSeen = (cells_in (seen (kept LENT)) 1 Atom ≡ 2 ∷ []) × (home_at (seen (kept LENT)) 2 ≡ Some 1)

-- and not in the membrane whose cell keeps it.
abbrev pub LenderIsEmpty : Type 0
LenderIsEmpty = cells_in (seen (kept LENT)) 0 Atom ≡ []

-- That one is seen, and its mark with it,
abbrev pub LenderIsSeen : Type 0
LenderIsSeen = port_mark (seen (kept LENT)) 0 ≡ LENT

-- where it isn't retired.
abbrev pub RetiredIsNotSeen : Type 0
RetiredIsNotSeen = seen (kept RETIRED) 0 ≡ None

-- What stood in 0 went to 1.
abbrev pub AllHasMoved : Type 0
AllHasMoved = MovesAll apart merged 0 1

-- Where nothing changed it didn't.
abbrev pub NothingHasMoved : Type 0
NothingHasMoved = MovesAll apart apart 0 1 → ⊥
