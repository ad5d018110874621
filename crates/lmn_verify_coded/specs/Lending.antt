-- What codes over a store are when the loan of the store ends.
use Rattle.std.specs.Borrow.{Lends, Fml, RattleType, MutBor}
use Rattle.lmn_verify_coded.specs.declared.running.Coded.{Coded}
use Rattle.lmn_verify_coded.specs.contracts.running.Coded.{the_row}

module _ (S A M : RattleType) (m : MutBor (Coded S.Denot A.Denot M.Denot)) where
  -- they have the store as it was left, and all else is as it was
  abbrev pub coded_lends_store : MutBor S.Denot → Fml
  coded_lends_store r = Lends (the_row S A M) S m r (λ s. record m.now { machine = record m.now.machine { store = s } })
