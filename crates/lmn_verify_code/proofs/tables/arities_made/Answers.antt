use Rattle.std.proofs.Common.{Ok, rules, tests}
use Rattle.std.proofs.lemmas.Iterator.{YieldsList-from_slice, items_from_collect}
use Rattle.std.proofs.lemmas.Iterator.Consumers.{YieldsList-from_filter_map}
use Rattle.lmn_verify_code.specs.Verified.{arity_made}
use Rattle.lmn_verify_code.proofs.tables.arities_made.Goals as goal

pub returns : goal.returns
returns c =
    items_from_collect {E = Unit {0}} (Ok c.in_ok-collect.field-0) c.in_ok-collect.ensures.ran (YieldsList-from_filter_map _ arity_made (YieldsList-from_slice c.args.body.now cc) c.filter_map.ensures.closure (λ x r q k. search (rules, tests)))
