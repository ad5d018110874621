use Rattle.lmn_verify_compiled.proofs.Whole.{accepted_is_verified, tables_are_verified}
use Rattle.lmn_verify_compiled.proofs.accepted_is_verified.Goals as goal

pub returns : goal.returns
returns c =
    let accepted = accepted_is_verified c.accepted_heads.ensures c.accepted_bodies.ensures.nested c.accepted_in_order.ensures c.accepted_sets_items.ensures c.bodies_are_ready.ensures in
    record { accepted = accepted; tables = tables_are_verified accepted }
