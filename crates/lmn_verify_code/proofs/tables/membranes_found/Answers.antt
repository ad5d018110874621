use Rattle.std.proofs.Common.{Ok, rules, tests}
use Rattle.std.proofs.lemmas.Iterator.{YieldsList-from_slice, items_from_collect}
use Rattle.std.proofs.lemmas.Iterator.Consumers.{YieldsList-from_filter_map}
use Rattle.lmn_verify_code.specs.Verified.{membrane_found}
use Rattle.lmn_verify_code.proofs.tables.membranes_found.Goals as goal

pub returns : goal.returns
returns c =
    items_from_collect {E = Unit {0}} (Ok c.in_ok-collect.field-0) c.in_ok-collect.ensures.ran (YieldsList-from_filter_map _ membrane_found (YieldsList-from_slice c.args.head.now cc) c.filter_map.ensures.closure (λ x r q k. search (rules, tests)))
