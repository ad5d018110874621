use Rattle.std.proofs.Common.{arith}
use Rattle.lmn_flatten_numbers.proofs.NumberSteps.{room_left, gives_old, gives_next, next_is}
use Rattle.lmn_flatten_numbers.proofs.numbering.Numbering.number.Goals as goal

pub overflow_add-self : goal.overflow_add-self
overflow_add-self c =
    let r = room_left c.args.self.now c.args.key c.at.result.now c.set.new.self c.requires.valid c.at.ensures c.in-None.is in
    let f = c.requires.valid.fits in omega (arith, r, f)

pub returns-in-Some-clause-gives : goal.returns-in-Some-clause-gives
returns-in-Some-clause-gives c = gives_old c.args.self.now c.args.key c.at.result.now c.args.self.now.numbers c.requires.valid c.at.ensures c.in-Some.number c.in-Some.is

pub returns-in-None-clause-gives : goal.returns-in-None-clause-gives
returns-in-None-clause-gives c = gives_next c.args.self.now c.args.key c.at.result.now c.set.new.self c.requires.valid c.at.ensures c.in-None.is c.set.ensures

pub returns-in-None-clause-number : goal.returns-in-None-clause-number
returns-in-None-clause-number c = next_is c.args.self.now c.args.key c.at.result.now c.set.new.self c.requires.valid c.at.ensures c.in-None.is c.set.ensures
