use Rattle.std.proofs.Common.{sym, ap, subst, ◌∙◌}
use Rattle.lmn_web_merging.specs.Keepers.{seen}
use Rattle.lmn_web_merging.specs.Moves.{AreKept}
use Rattle.lmn_web_merging.proofs.Single.{none_kept, seen_none}
use Rattle.lmn_web_merging.proofs.merging.MergingWeb.new.Goals as goal

pub invariant_of-result : goal.invariant_of-result
invariant_of-result c = subst AreKept (sym c.new.ensures) none_kept

pub returns : goal.returns
returns c = ap seen c.new.ensures ∙ seen_none
