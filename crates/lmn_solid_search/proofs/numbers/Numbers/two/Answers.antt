use Rattle.lmn_solid_search.specs.Reasoning.{bit}
use Rattle.lmn_solid_search.specs.declared.numbers.Numbers.TheVariants.{These}
use Rattle.lmn_solid_search.proofs.ReasoningLemmas.{within_on}
use Rattle.lmn_solid_search.proofs.numbers.Numbers.two.Goals as goal

pub returns-clause-one : goal.returns-clause-one
returns-clause-one c = within_on (These (bit c.args.one)) c.one.result c.with.result c.one.ensures c.with.ensures.these

pub returns-clause-other : goal.returns-clause-other
returns-clause-other c = within_on (These (bit c.args.other)) c.one-2.result c.with.result c.one-2.ensures c.with.ensures.those
