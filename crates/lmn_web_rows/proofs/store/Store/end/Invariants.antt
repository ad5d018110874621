use Rattle.std.proofs.Common.{length}
use Rattle.lmn_web_rows.specs.Tiles.{AreTiled}
use Rattle.lmn_web_rows.specs.Keeping.{LeadTo}
use Rattle.lmn_web_rows.proofs.store.Store.end.Given as goal

abbrev pub invariant-loop-at : goal.invariant-loop-at
invariant-loop-at l = AreTiled l.blocks.blocks l.rows.rows × LeadTo l.blocks.blocks l.all.items

abbrev pub decreases-loop-at : goal.decreases-loop-at
decreases-loop-at l = length l.all.items
