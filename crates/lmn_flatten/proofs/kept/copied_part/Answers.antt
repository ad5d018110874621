use Rattle.std.proofs.Common.{ap, ◌∙◌, map}
use Rattle.lmn_flatten_numbers.specs.Renumbered.{renumbered, renumbered_leaf}
use Rattle.lmn_flatten.specs.Copies.{new_link}
use Rattle.lmn_flatten.proofs.GrowingLemmas.{part_is}
use Rattle.lmn_flatten.proofs.kept.copied_part.Goals as goal

pub returns : goal.returns
returns c =
    part_is _ _ (c.in_ok-leaves.ensures ∙ ap (map (renumbered_leaf (new_link c.args.links.now))) c.as_slice-4.ensures)
    (c.in_ok-membranes.ensures ∙ ap (map (renumbered (new_link c.args.links.now))) c.as_slice-5.ensures) (c.in_ok-contexts.ensures ∙ c.as_slice.ensures)
    (c.in_ok-rule_contexts.ensures ∙ c.as_slice-2.ensures) (c.in_ok-rules.ensures ∙ c.as_slice-3.ensures)
