use Rattle.std.proofs.Common.{◌<◌, ◌∙◌, ap, get_or, if◌then◌else◌, length, subst, sym}
use Rattle.lmn_weight.specs.Index.{is_at}
use Rattle.lmn_weight.proofs.IndexLemmas.{found_weight, none_found, place_within}
use Rattle.lmn_weight.proofs.index.indexed_weight.Goals as goal

pub weight_at-requires-clause-place : goal.weight_at-requires-clause-place
weight_at-requires-clause-place c = subst (λ k. k < length c.args.functors.now) (sym c.from.ensures) (place_within c.args.functors.now c.args.index.now c.requires.index c.first_of-at.result _ c.if-at-index.true)

pub returns-then-at-index : goal.returns-then-at-index
returns-then-at-index c =
    c.weight_at.ensures
    ∙ ap (λ k. if is_at c.args.functors.now k c.args.functor then get_or c.args.values.now k 0 else 0) c.from.ensures
    ∙ found_weight c.args.functors.now c.args.index.now c.args.values.now c.requires.index c.args.functor c.first_of-at.result c.first_of-at.ensures c.if-at-index.true c.requires.lists _

pub returns : goal.returns
returns c = none_found c.args.functors.now c.args.index.now c.args.values.now c.requires.index c.args.functor c.first_of-at.result c.first_of-at.ensures c.if-at-index.false
