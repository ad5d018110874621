use Rattle.std.proofs.lemmas.Result.{IfOk-weaker}
use Rattle.lmn_flatten_numbers.proofs.ScopeSteps.{head_keys, body_keys, head_below, body_below, rule_occur, rule_is_numbered}
use Rattle.lmn_flatten_numbers.proofs.scope.number_rule.Goals as goal

pub number_level-requires-clause-within : goal.number_level-requires-clause-within
number_level-requires-clause-within c = head_keys c.args.keys c.in_ok-numbering.numbering c.in_ok-numbering.numbering c.args.head.now c.args.body.now c.in_ok-numbering.ensures c.requires

pub number_level-requires-2-clause-within : goal.number_level-requires-2-clause-within
number_level-requires-2-clause-within c = body_keys c.args.keys c.in_ok-numbering.numbering c.number_level.new.self c.args.head.now c.args.body.now c.in_ok-numbering.ensures c.requires c.number_level.ensures.gives

pub tallies_of-requires : goal.tallies_of-requires
tallies_of-requires c =
    head_below c.args.keys c.in_ok-numbering.numbering c.number_level.new.self c.number_level-2.new.self c.args.head.now c.args.body.now c.number_level.new.level c.number_level-2.new.level c.in_ok-numbering.ensures
    c.number_level.ensures.gives c.number_level.ensures.level c.number_level-2.ensures.gives c.number_level-2.ensures.level c.count-count.result c.count-count.ensures

pub tallies_of-requires-2 : goal.tallies_of-requires-2
tallies_of-requires-2 c =
    body_below c.args.keys c.in_ok-numbering.numbering c.number_level.new.self c.number_level-2.new.self c.args.head.now c.args.body.now c.number_level.new.level c.number_level-2.new.level c.in_ok-numbering.ensures
    c.number_level.ensures.gives c.number_level.ensures.level c.number_level-2.ensures.gives c.number_level-2.ensures.level c.count-count.result c.count-count.ensures

pub table_of-requires-clause-occur : goal.table_of-requires-clause-occur
table_of-requires-clause-occur c =
    rule_occur c.args.keys c.in_ok-numbering.numbering c.number_level.new.self c.number_level-2.new.self c.args.head.now c.args.body.now c.number_level.new.level c.number_level-2.new.level c.in_ok-numbering.ensures
    c.number_level.ensures.gives c.number_level.ensures.level c.number_level-2.ensures.gives c.number_level-2.ensures.level c.count-count.result c.count-count.ensures
    c.in_ok-in_head.in_head c.in_ok-in_body.in_body c.in_ok-in_head.ensures c.in_ok-in_body.ensures

pub returns : goal.returns
returns c =
    IfOk-weaker c.table_of.result _ _ (λ table j.
    rule_is_numbered c.args.keys c.in_ok-numbering.numbering c.number_level.new.self c.number_level-2.new.self c.args.head.now c.args.body.now c.number_level.new.level c.number_level-2.new.level c.in_ok-numbering.ensures
    c.number_level.ensures.gives c.number_level.ensures.level c.number_level-2.ensures.gives c.number_level-2.ensures.level c.count-count.result c.count-count.ensures
    c.in_ok-in_head.in_head c.in_ok-in_body.in_body c.in_ok-in_head.ensures c.in_ok-in_body.ensures table j) c.table_of.ensures
