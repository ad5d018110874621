use Rattle.lmn_solid_settle.specs.Tables.{numbered_atom, atom_keys}
use Rattle.lmn_solid_settle.proofs.NumberLoops.{passed_gives, passed_keys, passed_more, passed_none, passed_parts, passed_within}
use Rattle.lmn_solid_settle.proofs.numbers.Numbers.number_atoms.Goals as goal

pub loop-atom-init : goal.loop-atom-init
loop-atom-init c = passed_none numbered_atom atom_keys c.args.self.now c.args.atoms.now c.requires.valid

pub number_atom-requires : goal.number_atom-requires
number_atom-requires c = record {
  valid = c.loop-atom.invariant.renumbers.gives.valid;
  keys = passed_keys numbered_atom atom_keys c.loop-atom.invariant c.requires.keys;
  within = passed_within numbered_atom atom_keys c.loop-atom.invariant (λ a. a.links) c.atom-item.result c.loop-atom-test.true c.requires.within;
}

pub loop-atom-preserved : goal.loop-atom-preserved
loop-atom-preserved c =
    passed_more numbered_atom atom_keys c.loop-atom.invariant c.number_atom.new.self c.number_atom.new.atom c.atom-item.result c.loop-atom-test.true c.number_atom.ensures.classes c.number_atom.ensures.gives c.number_atom.ensures.atom

pub returns : goal.returns
returns c = record {
  classes = c.loop-atom.invariant.classes;
  gives = passed_gives numbered_atom atom_keys c.loop-atom.invariant c.loop-atom-test.false;
  atoms = passed_parts numbered_atom atom_keys c.loop-atom.invariant c.loop-atom-test.false;
}
