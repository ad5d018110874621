use Rattle.std.proofs.Common.{length, refl}
use Rattle.lmn_instr_code.specs.declared.instr.Instr.TheVariants.{IsGround}
use Rattle.lmn_machine.proofs.Telling.{told}
use Rattle.lmn_machine.proofs.Listing.{held_listing, listing, stepped_listing}
use Rattle.lmn_machine.proofs.Contexts.{ground_stepped}
use Rattle.lmn_machine.proofs.steps.find_ground.Goals as goal

pub returns-clause-stepped : goal.returns-clause-stepped
returns-clause-stepped g c =
    let h = g.S.LinkStore.heap c.args.store.now in
    let list = c.whole_end-root.new.list in
    told g.S.LinkStore.atom_id g.S.LinkStore.mem_id h c.args.set.now c.set_part.new.set c.set_part.result c.outcome_of.result (IsGround (length c.args.set.now.parts) c.args.port c.args.membrane) tt c.outcome_of.ensures
    (stepped_listing g.S.LinkStore.atom_id g.S.LinkStore.mem_id h c.args.set.now list c.set_part.new.set c.set_part.result (IsGround (length c.args.set.now.parts) c.args.port c.args.membrane)
    (ground_stepped g.S.LinkStore.atom_id g.S.LinkStore.mem_id h c.requires.valid.sound (listing c.args.set.now list) c.set_part.new.set c.set_part.result (IsGround (length c.args.set.now.parts) c.args.port c.args.membrane) _ _ _ _ _ c.whole_end-root.result refl c.requires.order
    (held_listing g.S.LinkStore.atom_id g.S.LinkStore.mem_id h c.args.set.now list c.whole_end-root.ensures.listed c.requires.held)
    c.at-from.ensures c.at-place.ensures c.whole_end-root.ensures.end c.set_part.ensures))

pub whole_end-root-requires-clause-listed : goal.whole_end-root-requires-clause-listed
whole_end-root-requires-clause-listed g c = c.requires.held.listed
