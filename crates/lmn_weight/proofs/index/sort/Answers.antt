use Rattle.std.proofs.Common.{◌≡◌, rules}
use Rattle.std.proofs.lemmas.Fn.{always_returns_same}
use Rattle.lmn_weight.specs.Index.{entry_at}
use Rattle.lmn_weight.proofs.index.sort.Goals as goal

pub returns-clause-rising : goal.returns-clause-rising
returns-clause-rising c =
    let fs = c.args.functors.now in
    c.sort_unstable_by_key.ensures.sorted (entry_at fs) (always_returns_same _ (λ a r. r ≡ entry_at fs a.0.now) _ (λ a r q k. search rules))
