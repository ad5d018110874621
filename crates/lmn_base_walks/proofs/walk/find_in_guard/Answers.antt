use Rattle.lmn_base.specs.Items.{condition_items}
use Rattle.lmn_base_walks.proofs.ItemLemmas.{found_joined}
use Rattle.lmn_base_walks.proofs.walk.find_in_guard.Goals as goal

pub returns : goal.returns
returns g c = found_joined (g.Q.Question.places c.args.question.now) condition_items c.args.guard.now _ _ c.loop-condition-test.false c.loop-condition.invariant
