use Rattle.std.proofs.Common.{take, ◌++◌}
use Rattle.std.specs.List.{flat_map}
use Rattle.lmn_base.specs.declared.level.Level.{out-Level}
use Rattle.lmn_base.specs.Firsts.{IsFound}
use Rattle.lmn_base.specs.Items.{own_items, items_of}
use Rattle.lmn_base_walks.proofs.walk.+find.Given as goal

abbrev pub invariant-loop-inner : goal.invariant-loop-inner
invariant-loop-inner g l = IsFound (flat_map (g.Q.Question.places l.question) (own_items (out-Level l.level)) ++ flat_map (λ x. flat_map (g.Q.Question.places l.question) (items_of x)) (take l.inner-index l.inner-items)) l.found
