-- What is told of a code, by examples.
use Rattle.std.specs.Prelude.{List, [], ◌∷◌}
use Rattle.lmn_instr_code.specs.declared.instr.Instr.{Instr}
use Rattle.lmn_instr_code.specs.declared.instr.Instr.TheVariants.{NoRules, Commit, RemoveAtom, NewMem, Proceed}
use Rattle.lmn_instr_pool.specs.Extents.{Acts, Makes, NoneBefore, NoneFrom, Removes}

abbrev pub removing : List Instr
removing = RemoveAtom 0 ∷ (Proceed ∷ [])

-- none takes something away from the place 1 on, and one does from 0 on
abbrev pub RemovalsEnd : Type 0
RemovalsEnd = NoneFrom Removes 1 removing × (NoneFrom Removes 0 removing → ⊥)

abbrev pub making : List Instr
making = Proceed ∷ (NewMem 1 0 ∷ [])

-- nothing is made before the place 1, and something is before 2
abbrev pub MakingBegins : Type 0
MakingBegins = NoneBefore Makes 1 making × (NoneBefore Makes 2 making → ⊥)

abbrev pub asking : List Instr
asking = NoRules 0 ∷ (Commit ∷ [])

-- none does anything from the place 1 on, and one does from 0 on
abbrev pub ActionsEnd : Type 0
ActionsEnd = NoneFrom Acts 1 asking × (NoneFrom Acts 0 asking → ⊥)
