use Rattle.std.proofs.Common.{ℕ, ◌<◌, sym, subst, All}
use Rattle.lmn_base.specs.Levels.{links_of}
use Rattle.lmn_flatten_numbers.proofs.TallySteps.{level_tallies}
use Rattle.lmn_flatten_numbers.proofs.tally.tallies_of.Goals as goal

pub count_level-requires : goal.count_level-requires
count_level-requires c = let P : ℕ → Type 0 = λ n. All (λ k. k < n) (links_of c.args.level.now) in subst P (sym c.in_ok-tallies.ensures.0) c.requires

pub returns : goal.returns
returns c = level_tallies _ _ _ _ c.in_ok-tallies.ensures c.in_ok-count_level.ensures
