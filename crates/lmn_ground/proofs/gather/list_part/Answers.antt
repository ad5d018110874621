use Rattle.lmn_ground.proofs.TrailLaws.{part_clean, part_marks, part_once, part_there}
use Rattle.lmn_ground.proofs.gather.list_part.Goals as goal

pub number-requires-clause-there : goal.number-requires-clause-there
number-requires-clause-there g c = part_there _ _ _ c.arity-arity.ensures.sound c.requires.root.1 (c.requires.listed c.if-listed.true)

pub number-requires-clause-once : goal.number-requires-clause-once
number-requires-clause-once g c = part_once _ _ _ c.arity-arity.ensures.sound c.requires.root.1 (c.requires.listed c.if-listed.true)

pub number-requires-clause-clean : goal.number-requires-clause-clean
number-requires-clause-clean g c = part_clean _ _ _ c.arity-arity.ensures.sound c.requires.root.1 (c.requires.listed c.if-listed.true) c.requires.clean

pub number-requires-clause-ports : goal.number-requires-clause-ports
number-requires-clause-ports g c = part_marks _ _ _ c.arity-arity.ensures.sound c.requires.root.1 (c.requires.listed c.if-listed.true)

pub returns-then-listed-clause-ok : goal.returns-then-listed-clause-ok
returns-then-listed-clause-ok g c = record { part = c.requires.listed c.if-listed.true; numbers = c.number.ensures.numbers }
