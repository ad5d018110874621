use Rattle.lmn_base.specs.Levels.{occurrences_of_leaf, link_numbers}
use Rattle.lmn_flatten_numbers.specs.Renumbered.{renumbered_leaf}
use Rattle.lmn_flatten_numbers.proofs.LevelSteps.{renumbers_start, leaf_within, renumbers_next, leaves_given, renumbers_parts}
use Rattle.lmn_flatten_numbers.proofs.numbering.Numbering.number_leaves.Goals as goal

pub loop-leaf-init : goal.loop-leaf-init
loop-leaf-init c = renumbers_start renumbered_leaf (λ leaf. link_numbers (occurrences_of_leaf leaf)) c.args.self.now c.args.leaves.now c.requires.valid

pub number_leaf-requires : goal.number_leaf-requires
number_leaf-requires c = record {
  valid = c.loop-leaf.invariant.gives.valid;
  within = leaf_within _ _ _ _ _ c.leaf-item.result c.loop-leaf-test.true c.loop-leaf.invariant c.requires.within;
}

pub loop-leaf-preserved : goal.loop-leaf-preserved
loop-leaf-preserved c =
    renumbers_next renumbered_leaf (λ leaf. link_numbers (occurrences_of_leaf leaf)) _ _ _ _ _ _ _ c.leaf-item.result c.loop-leaf-test.true c.loop-leaf.invariant c.number_leaf.ensures.gives c.number_leaf.ensures.leaf

pub returns : goal.returns
returns c = record {
  gives = leaves_given _ _ _ _ _ c.loop-leaf-test.false c.loop-leaf.invariant;
  leaves = renumbers_parts renumbered_leaf (λ leaf. link_numbers (occurrences_of_leaf leaf)) _ _ _ _ _ c.loop-leaf-test.false c.loop-leaf.invariant;
}
