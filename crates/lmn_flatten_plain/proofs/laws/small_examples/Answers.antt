use Rattle.std.proofs.Common.{refl}
use Rattle.std.specs.Fmt.{digits}
use Rattle.lmn_flatten_plain.specs.Numerals.{numeral}
use Rattle.lmn_flatten_plain.proofs.laws.small_examples.Goals as goal

pub returns-clause-list : goal.returns-clause-list
returns-clause-list c = refl

pub returns-clause-membrane : goal.returns-clause-membrane
returns-clause-membrane c = refl

pub returns-clause-kept_head : goal.returns-clause-kept_head
returns-clause-kept_head c = refl

pub returns-clause-guard : goal.returns-clause-guard
unfolding numeral digits
returns-clause-guard c = refl

pub returns-clause-line : goal.returns-clause-line
unfolding numeral digits
returns-clause-line c = refl

pub returns-clause-links : goal.returns-clause-links
unfolding numeral
returns-clause-links c = refl
