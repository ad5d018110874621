-- What an engine is when the loan of its store ends.
use Rattle.std.specs.Borrow.{Lends, Fml, RattleType, MutBor}
use Rattle.lmn_schedule.specs.declared.engine.Engine.{Engine}
use Rattle.lmn_schedule.specs.contracts.engine.Engine.{the_row}
use denote.Ref.{NamedLft}

module _ (plain : NamedLft) (S F A M : RattleType) (m : MutBor (Engine S.Denot F.Denot A.Denot M.Denot)) where
  -- it holds the store as it was left, and all else as it was
  abbrev pub engine_lends_store : MutBor S.Denot → Fml
  engine_lends_store r = Lends (the_row plain S F A M) S m r (λ s. record m.now { machine = record m.now.machine { store = s } })
