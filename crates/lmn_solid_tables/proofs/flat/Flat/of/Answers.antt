use Rattle.std.proofs.Common.{length, refl, sym, ap, subst, ◌∙◌}
use Rattle.std.specs.Prelude.{[]}
use Rattle.lmn_solid_tables.specs.Building.{GoesOn, all_ports_added, links_of_atoms}
use Rattle.lmn_solid_tables.proofs.Steps.{rises_filled}
use Rattle.lmn_solid_tables.proofs.Whole.{fine, goes_on, has_ports, is_flat}
use Rattle.lmn_solid_tables.proofs.flat.Flat.of.Goals as goal

pub list_inner-requires-clause-rises : goal.list_inner-requires-clause-rises
list_inner-requires-clause-rises c = (fine c.args.solid.now c.requires _ c.in_ok-atoms.ensures).rises

pub list_inner-requires-clause-empty : goal.list_inner-requires-clause-empty
list_inner-requires-clause-empty c = (fine c.args.solid.now c.requires _ c.in_ok-atoms.ensures).empty

pub ports_of-requires : goal.ports_of-requires
ports_of-requires c = subst (λ ys. GoesOn [] (links_of_atoms ys)) (sym c.as_slice.ensures.value) (goes_on c.args.solid.now c.requires _ c.in_ok-atoms.ensures)

pub invariant_of-result : goal.invariant_of-result
invariant_of-result c =
    record {
      has_ports = has_ports c.args.solid.now c.requires _ c.in_ok-atoms.ensures c.in_ok-ports.ports.items (c.in_ok-ports.ensures ∙ ap (all_ports_added [] 0) c.as_slice.ensures.value);
      rises = rises_filled c.in_ok-atoms.field-0.membranes.items c.list_inner.new.membranes.items (length c.in_ok-atoms.field-0.membranes.items) (fine c.args.solid.now c.requires _ c.in_ok-atoms.ensures).rises c.in_ok-list_inner.ensures;
    }

pub returns : goal.returns
returns c = is_flat c.args.solid.now c.requires _ c.in_ok-atoms.ensures _ refl c.in_ok-list_inner.ensures (c.in_ok-ports.ensures ∙ ap (all_ports_added [] 0) c.as_slice.ensures.value)
