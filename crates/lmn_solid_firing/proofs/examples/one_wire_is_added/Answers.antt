use Rattle.lmn_solid_firing.proofs.Shown.{none_too_few, one_wire, two_places}
use Rattle.lmn_solid_firing.proofs.examples.one_wire_is_added.Goals as goal

pub returns-clause-once : goal.returns-clause-once
returns-clause-once c = one_wire

pub returns-clause-twice : goal.returns-clause-twice
returns-clause-twice c = two_places

pub returns-clause-few : goal.returns-clause-few
returns-clause-few c = none_too_few
