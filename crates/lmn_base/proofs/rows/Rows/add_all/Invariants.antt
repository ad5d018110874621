use Rattle.std.proofs.Common.{◌≡◌, ◌++◌, drop}
use Rattle.lmn_base.proofs.rows.Rows.add_all.Given as goal

-- what stands there, and what is still to be added
abbrev pub invariant-loop-item : goal.invariant-loop-item
invariant-loop-item g l = l.self ++ drop l.item-index l.items ≡ l.fn.self ++ l.items
