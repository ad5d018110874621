-- Lines with a link that leads through a membrane.
use Rattle.std.specs.Prelude.{ℕ, List, [], ◌∷◌, Contains, codes}
use Rattle.std.specs.declared.alloc.Global.{Global}
use Rattle.lmn_base.specs.Names.{IsNames}
use Rattle.lmn_congruence.specs.Process.{Process}
use Rattle.lmn_congruence.specs.Regions.{Region, SolidAtom, no_region, region, region_and, region_process, solid_atom_with}
use Rattle.lmn_congruence.specs.Rules.{Name, named}
use Rattle.lmn_app_runs.specs.Runs.{IsLineOf}

-- an atom with one link
abbrev pub atom_on : List ℕ → ℕ → List SolidAtom
atom_on name x = solid_atom_with (named name) (x ∷ []) ∷ []

-- `b`, and `a` in a membrane, each with one link
abbrev pub through : (outer inner : ℕ) → Region
through outer inner = region (atom_on (codes "b") outer) (region_and (region (atom_on (codes "a") inner) no_region []) no_region) []

-- `b(L0). {a(L0)}.` is the line of the process in which one link joins the two, through the membrane. `b(L0). {a(L1)}.` is that of
-- none, since each of its links stands once.
abbrev pub LinkLeadsThrough : Type 0
LinkLeadsThrough = (alloc : Global) (names : List Name) → IsNames names → Contains names (codes "a") → Contains names (codes "b") →
    IsLineOf names (region_process (through 0 0)) (codes "b(L0). {a(L0)}.\n")
    × ((P : Process) → ¬ (IsLineOf names P (codes "b(L0). {a(L1)}.\n")))
