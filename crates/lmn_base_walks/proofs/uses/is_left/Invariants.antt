use Rattle.std.proofs.Common.{◌≡◌, drop}
use Rattle.std.specs.List.{list_any}
use Rattle.lmn_base_walks.specs.RuleCodes.{is_left_of}
use Rattle.lmn_base_walks.proofs.uses.is_left.Given as goal

abbrev pub invariant-loop-condition : goal.invariant-loop-condition
invariant-loop-condition l = list_any (is_left_of l.name) (drop l.condition-index l.conditions) ≡ list_any (is_left_of l.name) l.conditions
