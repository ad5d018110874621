use Rattle.std.proofs.Common.{List, subst}
use Rattle.std.proofs.lemmas.Result.{IfOk-weaker}
use Rattle.lmn_base.specs.declared.level.Leaf.{Leaf}
use Rattle.lmn_base.specs.declared.level.Level.{Level}
use Rattle.lmn_flatten.specs.Copies.{CountsPlaces, links_of_levels}
use Rattle.lmn_base.specs.Levels.{links_of_leaves}
use Rattle.lmn_flatten.proofs.CopyLemmas.{copied_by}
use Rattle.lmn_flatten.proofs.kept.copied.Goals as goal

pub returns : goal.returns
returns c = IfOk-weaker c.copied_part.result _ _
    (λ copy is r keys p h none part.
    copied_by r keys p c.args.kept.now copy c.in_ok-counts.counts c.count_leaves.new.counts c.count_levels.new.counts c.as_slice-3.result.now c.in_ok-links.links c.as_slice-4.result.now
    c.as_slice-4.result.now c.args.scope.now c.freshened.new.scope h none part c.in_ok-counts.ensures.0 c.in_ok-counts.ensures.1
    (let P : List Leaf → Type 0 = λ z. CountsPlaces (links_of_leaves z) c.in_ok-counts.counts c.count_leaves.new.counts in subst P c.as_slice.ensures c.count_leaves.ensures)
    (let P : List Level → Type 0 = λ z. CountsPlaces (links_of_levels z) c.count_leaves.new.counts c.count_levels.new.counts in subst P c.as_slice-2.ensures c.count_levels.ensures)
    c.as_slice-3.ensures c.in_ok-links.ensures c.as_slice-4.ensures c.as_slice-4.ensures
    (λ i. (is i).leaves) (λ i. (is i).membranes) (λ i. (is i).contexts) (λ i. (is i).rule_contexts) (λ i. (is i).rules))
    c.copied_part.ensures
