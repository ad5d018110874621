use Rattle.std.proofs.lemmas.Result.{IfOk-weaker}
use Rattle.lmn_flatten_numbers.proofs.ScopeSteps.{level_keys, level_below, level_occur, level_is_numbered}
use Rattle.lmn_flatten_numbers.proofs.scope.number_level.Goals as goal

pub number_level-requires-clause-within : goal.number_level-requires-clause-within
number_level-requires-clause-within c = level_keys c.args.keys c.in_ok-numbering.numbering c.args.level.now c.in_ok-numbering.ensures c.requires

pub tallies_of-requires : goal.tallies_of-requires
tallies_of-requires c =
    level_below c.args.keys c.in_ok-numbering.numbering c.number_level.new.self c.args.level.now c.number_level.new.level c.in_ok-numbering.ensures c.number_level.ensures.gives c.number_level.ensures.level c.count-count.result c.count-count.ensures

pub table_alone-requires : goal.table_alone-requires
table_alone-requires c =
    level_occur c.args.keys c.in_ok-numbering.numbering c.number_level.new.self c.args.level.now c.number_level.new.level c.in_ok-numbering.ensures c.number_level.ensures.gives c.number_level.ensures.level c.count-count.result
    c.count-count.ensures c.in_ok-tallies.tallies c.in_ok-tallies.ensures

pub returns : goal.returns
returns c =
    IfOk-weaker c.table_alone.result _ _ (λ table j.
    level_is_numbered c.args.keys c.in_ok-numbering.numbering c.number_level.new.self c.args.level.now c.number_level.new.level c.in_ok-numbering.ensures c.number_level.ensures.gives c.number_level.ensures.level c.count-count.result
    c.count-count.ensures c.in_ok-tallies.tallies c.in_ok-tallies.ensures table j) c.table_alone.ensures
