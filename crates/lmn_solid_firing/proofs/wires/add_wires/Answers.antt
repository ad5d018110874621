use Rattle.std.proofs.Common.{◌++◌, ◌∙◌, map, arith}
use Rattle.lmn_solid_heads.specs.Heads.{atoms_of, typed_contexts_of}
use Rattle.lmn_solid_firing.specs.Pieces.{ends_from, wire}
use Rattle.lmn_solid_firing.proofs.Wiring.{wire_added}
use Rattle.lmn_solid_firing.proofs.wires.add_wires.Goals as goal

pub loop-link-preserved : goal.loop-link-preserved
loop-link-preserved c =
    let ends = ends_from c.args.flat.now c.args.images.now 0 (atoms_of c.args.items.now) in
    let typed = map (λ t. t.link) (typed_contexts_of c.args.items.now) in
    let pos = c.loop-link-test.true in
    let e = c.as_slice.ensures ∙ c.in_ok-ends.ensures in
    let t = c.as_slice-in-loop-link.ensures ∙ c.in_ok-typed.ensures in
    wire_added c.args.first ends typed c.loop-link.link c.in_ok-short.field-0 c.loop-link.connectors c.add_wire.new.connectors _
    (c.in_ok-add_wire.ensures ∙ (λ i. c.loop-link.connectors ++ wire c.args.first (e i) (t i) c.in_ok-short.field-0)) (omega (arith, pos)) c.in_ok-short.ensures c.loop-link.invariant
