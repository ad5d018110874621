use Rattle.std.proofs.Common.{[], ◌∷◌, arith}
use Rattle.lmn_flatten_numbers.specs.Renumbered.{renumbered_occurrence}
use Rattle.lmn_flatten_numbers.proofs.LevelSteps.{renumbers_start, renumbers_parts, link_within, link_next, links_given}
use Rattle.lmn_flatten_numbers.proofs.numbering.Numbering.number_links.Goals as goal

pub loop-i-init : goal.loop-i-init
loop-i-init c = renumbers_start renumbered_occurrence (λ o. o.link ∷ []) c.args.self.now c.args.links.now c.requires.valid

pub at-requires : goal.at-requires
at-requires c = let s = c.loop-i.invariant.size in omega (arith, s)

pub number-link-requires : goal.number-link-requires
number-link-requires c = record {
  valid = c.loop-i.invariant.gives.valid;
  within = link_within _ _ _ _ _ _ _ c.loop-i-test.true c.len-i-end.ensures c.at.ensures c.loop-i.invariant c.requires.within;
}

pub set-requires : goal.set-requires
set-requires c = let s = c.loop-i.invariant.size in omega (arith, s)

pub loop-i-preserved : goal.loop-i-preserved
loop-i-preserved c =
    link_next _ _ _ _ _ _ _ c.loop-i-test.true c.len-i-end.ensures c.at.ensures c.loop-i.invariant _ _ _ c.number-link.ensures.gives c.number-link.ensures.number c.set.ensures

pub returns : goal.returns
returns c = record {
  gives = links_given _ _ _ _ _ _ c.loop-i-test.false c.len-i-end.ensures c.loop-i.invariant;
  links = renumbers_parts renumbered_occurrence (λ o. o.link ∷ []) _ _ _ _ _ (omega arith) c.loop-i.invariant;
}
