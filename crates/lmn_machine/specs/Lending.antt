-- What a machine is when the loan of its store ends.
use Rattle.std.specs.Borrow.{Lends, Fml, RattleType, MutBor}
use Rattle.lmn_machine.specs.declared.machine.Machine.{Machine}
use Rattle.lmn_machine.specs.contracts.machine.Machine.{the_row}

module _ (S A M : RattleType) (m : MutBor (Machine S.Denot A.Denot M.Denot)) where
  -- it holds the store as it was left, and its registers as they were
  abbrev pub lends_store : MutBor S.Denot → Fml
  lends_store r = Lends (the_row S A M) S m r (λ s. record m.now { store = s })
