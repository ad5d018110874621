-- Only contracts of private functions cite this file: codes by the numbers of the instructions of their heads.
use Rattle.std.specs.Prelude.{List, [], ◌∷◌}
use Rattle.lmn_instr_code.specs.declared.instr.Code.{Code}
use Rattle.lmn_instr_code.specs.declared.instr.Instr.{Instr}
use Rattle.lmn_instr_pool.specs.declared.codes.Numbered.{Numbered}
use Rattle.lmn_instr_pool.specs.Extents.{EndsAt, HasExtent}
use Rattle.lmn_instr_pool.specs.Pools.{AreThere, picked}

-- the codes with these numbers
abbrev pub stored_codes : List Instr → List Numbered → List Code
stored_codes pool [] = []
stored_codes pool (c ∷ cs) = record { head = picked pool c.head; body = c.body } ∷ stored_codes pool cs

-- the pool has all instructions of the heads, which are COMMIT from a place on, and the extents are those of the bodies
abbrev pub AreStored : List Instr → List Numbered → Type 0
AreStored pool [] = Unit {0}
AreStored pool (c ∷ cs) = (AreThere pool c.head × EndsAt c.acts (picked pool c.head) × HasExtent c.extent c.body) × AreStored pool cs
