use Rattle.std.proofs.Common.{◌<◌, take, All}
use Rattle.lmn_test_levels.proofs.numbered.are_below_in_links.Given as goal
use Rattle.lmn_base.specs.Levels.{link_numbers}

abbrev pub invariant-loop-link : goal.invariant-loop-link
invariant-loop-link l = All (λ k. k < l.keys) (link_numbers (take l.link-index l.links))
