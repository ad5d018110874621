use Rattle.std.specs.List.{flat_map}
use Rattle.lmn_solid_settle.specs.Tables.{numbered_membrane, membrane_keys}
use Rattle.lmn_solid_settle.proofs.NumberLoops.{passed_gives, passed_keys, passed_more, passed_none, passed_parts, passed_within}
use Rattle.lmn_solid_settle.proofs.numbers.Numbers.number_all.Goals as goal

pub loop-membrane-init : goal.loop-membrane-init
loop-membrane-init c = passed_none numbered_membrane membrane_keys c.args.self.now c.args.membranes.now c.requires.valid

pub number_membrane-requires : goal.number_membrane-requires
number_membrane-requires c = record {
  valid = c.loop-membrane.invariant.renumbers.gives.valid;
  keys = passed_keys numbered_membrane membrane_keys c.loop-membrane.invariant c.requires.keys;
  within = passed_within numbered_membrane membrane_keys c.loop-membrane.invariant (λ m. flat_map (λ a. a.links) m.atoms) c.membrane-item.result c.loop-membrane-test.true c.requires.within;
}

pub loop-membrane-preserved : goal.loop-membrane-preserved
loop-membrane-preserved c =
    passed_more numbered_membrane membrane_keys c.loop-membrane.invariant c.number_membrane.new.self c.number_membrane.new.membrane c.membrane-item.result c.loop-membrane-test.true c.number_membrane.ensures.classes c.number_membrane.ensures.gives c.number_membrane.ensures.membrane

pub returns : goal.returns
returns c = record {
  classes = c.loop-membrane.invariant.classes;
  gives = passed_gives numbered_membrane membrane_keys c.loop-membrane.invariant c.loop-membrane-test.false;
  membranes = passed_parts numbered_membrane membrane_keys c.loop-membrane.invariant c.loop-membrane-test.false;
}
