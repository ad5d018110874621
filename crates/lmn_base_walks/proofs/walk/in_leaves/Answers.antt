use Rattle.lmn_base.specs.Items.{leaf_item}
use Rattle.lmn_base.proofs.FirstLemmas.{found_mapped}
use Rattle.lmn_base_walks.proofs.walk.in_leaves.Goals as goal

pub returns : goal.returns
returns g c = found_mapped (g.Q.Question.places c.args.question.now) leaf_item c.args.leaves.now _ _ c.loop-leaf-test.false c.loop-leaf.invariant
