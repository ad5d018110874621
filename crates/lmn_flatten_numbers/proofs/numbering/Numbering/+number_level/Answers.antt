use Rattle.std.proofs.Common.{arith, ◌∙◌, refl}
use Rattle.std.proofs.lemmas.List.{take_at}
use Rattle.lmn_base.specs.Levels.{links_of}
use Rattle.lmn_flatten_numbers.specs.Renumbered.{renumbered}
use Rattle.lmn_flatten_numbers.proofs.LevelSteps.{renumbers_start, renumbers_links, renumbers_parts, leaves_within, membranes_within, membrane_within, membrane_next, next_smaller, level_given, level_renumbered}
use Rattle.lmn_flatten_numbers.proofs.numbering.Numbering.+number_level.Goals as goal

pub number_leaves-requires-clause-within : goal.number_leaves-requires-clause-within
number_leaves-requires-clause-within t c =
    leaves_within c.args.self.now c.args.self.now c.args.self.now c.args.level.now c.as_mut_slice.result.now _ (c.as_mut_slice.ensures.value ∙ c.into_vec-numbered.ensures ∙ c.replace.ensures.value) refl c.requires.within

pub loop-i-init : goal.loop-i-init
loop-i-init t c =
    renumbers_start renumbered links_of c.number_leaves.new.self c.into_vec-numbered-2.result.items c.number_leaves.ensures.gives.valid

pub number_level-requires : goal.number_level-requires
number_level-requires t c = (
  next_smaller t c.args.level.now _ _ _ _ _ _ (omega arith) c.index_mut.ensures.value c.loop-i.invariant (c.into_vec-numbered-2.ensures ∙ c.replace-2.ensures.value) c.decreases,
  (
    c.loop-i.invariant.gives.valid,
    membrane_within _ _ _ _ _ _ (omega arith) c.index_mut.ensures.value c.loop-i.invariant
        (membranes_within c.args.self.now c.number_leaves.new.self c.loop-i.self c.args.level.now c.as_mut_slice.result.now c.into_vec-numbered-2.result.items
        (c.as_mut_slice.ensures.value ∙ c.into_vec-numbered.ensures ∙ c.replace.ensures.value) (c.into_vec-numbered-2.ensures ∙ c.replace-2.ensures.value) c.number_leaves.ensures.gives c.requires.within),
  ),
)

pub loop-i-preserved : goal.loop-i-preserved
loop-i-preserved t c =
    membrane_next _ _ _ _ _ _ (omega arith) c.index_mut.ensures.value c.loop-i.invariant _ _ c.number_level.ensures.gives c.number_level.ensures.level

pub returns-clause-gives : goal.returns-clause-gives
returns-clause-gives t c =
    level_given c.args.self.now c.number_leaves.new.self c.loop-i.self c.args.level.now c.as_mut_slice.result.now c.into_vec-numbered-2.result.items
    (c.as_mut_slice.ensures.value ∙ c.into_vec-numbered.ensures ∙ c.replace.ensures.value) (c.into_vec-numbered-2.ensures ∙ c.replace-2.ensures.value) c.number_leaves.ensures.gives
    (renumbers_links renumbered links_of _ _ _ _ _ (omega arith) c.loop-i.invariant)

pub returns-clause-level : goal.returns-clause-level
returns-clause-level t c =
    level_renumbered c.args.self.now c.number_leaves.new.self c.loop-i.self c.args.level.now c.as_mut_slice.result.now c.into_vec-numbered-2.result.items
    (c.as_mut_slice.ensures.value ∙ c.into_vec-numbered.ensures ∙ c.replace.ensures.value) (c.into_vec-numbered-2.ensures ∙ c.replace-2.ensures.value)
    c.from_vec.result c.from_vec-2.result (renumbers_links renumbered links_of _ _ _ _ _ (omega arith) c.loop-i.invariant)
    (λ to a. c.from_vec.ensures ∙ take_at c.number_leaves.new.leaves _ _ (omega arith) ∙ c.number_leaves.ensures.leaves to a)
    (λ to a. c.from_vec-2.ensures ∙ renumbers_parts renumbered links_of _ _ _ _ _ (omega arith) c.loop-i.invariant to a)
