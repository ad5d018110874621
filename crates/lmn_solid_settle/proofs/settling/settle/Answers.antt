use Rattle.std.proofs.Common.{◌∙◌, map, ap, subst}
use Rattle.std.specs.List.{flat_map}
use Rattle.lmn_solid_settle.specs.Tables.{Gives, membrane_keys, numbered_membrane}
use Rattle.lmn_solid_settle.proofs.SettledLinks.{classes_are_keys, follows_itself, links_have_classes, number_in, renumbered_region, settles_if, table_is_laid, written_back}
use Rattle.lmn_solid_settle.proofs.settling.settle.Goals as goal

pub number_all-requires-clause-keys : goal.number_all-requires-clause-keys
number_all-requires-clause-keys c =
    classes_are_keys c.args.connectors.now c.args.links c.in_ok-numbers.numbers c.in_ok-numbers.ensures.classes c.in_ok-numbers.ensures.none

pub number_all-requires-clause-within : goal.number_all-requires-clause-within
number_all-requires-clause-within c =
    links_have_classes c.args.connectors.now c.args.links c.in_ok-numbers.numbers.classes c.requires.0 c.as_mut_slice.result.now c.in_ok-numbers.ensures.classes
    (c.as_mut_slice.ensures.value ∙ c.requires.1) c.requires.2

pub assemble-requires : goal.assemble-requires
assemble-requires c =
    let start = c.in_ok-numbers.numbers in
    let now = c.number_all.new.self in
    let items = c.args.membranes.items in
    let is = c.number_all.ensures.membranes (number_in now) (follows_itself now) ∙ ap (map (numbered_membrane start.classes (number_in now))) c.as_mut_slice.ensures.value in (
      renumbered_region start.classes now c.requires.0,
      written_back (numbered_membrane start.classes (number_in now)) items c.number_all.new.membranes c.args.membranes.len c.args.membranes.ok.0 is
          ∙ table_is_laid start.classes now c.requires.0 items c.number_all.new.membranes c.requires.1 is,
    )

pub returns : goal.returns
returns c r e can =
    let start = c.in_ok-numbers.numbers in
    let now = c.number_all.new.self in
    let items = c.args.membranes.items in
    let is = c.number_all.ensures.membranes (number_in now) (follows_itself now) ∙ ap (map (numbered_membrane start.classes (number_in now))) c.as_mut_slice.ensures.value in
    let gives = subst (λ xs. Gives (flat_map (membrane_keys start.classes) xs) start now) (c.as_mut_slice.ensures.value ∙ e) c.number_all.ensures.gives in
    settles_if c.args.connectors.now c.args.links r can start now c.in_ok-numbers.ensures.classes c.in_ok-numbers.ensures.none gives c.assemble.result
    (c.assemble.ensures (renumbered_region start.classes now r)
    (written_back (numbered_membrane start.classes (number_in now)) items c.number_all.new.membranes c.args.membranes.len c.args.membranes.ok.0 is
    ∙ table_is_laid start.classes now r items c.number_all.new.membranes e is))
