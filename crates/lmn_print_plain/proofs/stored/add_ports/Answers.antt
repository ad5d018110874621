use Rattle.std.proofs.Common.{ℕ, ap, arith, ◌∙◌, ◌-◌, false, map}
use Rattle.std.proofs.lemmas.Grind.{common_steps}
use Rattle.std.specs.Prelude.{codes}
use Rattle.lmn_store_heap.specs.Solid.{links_from}
use Rattle.lmn_io.proofs.TakingLemmas.{adds_as, adds_more}
use Rattle.lmn_flatten_plain.specs.Words.{link_name}
use Rattle.lmn_print_plain.specs.Rows.{in_row}
use Rattle.lmn_print_plain.specs.Stored.{number_by_mark}
use Rattle.lmn_print_plain.proofs.StoredLemmas.{ports_first, ports_next, ports_end, ports_text}
use Rattle.lmn_print_plain.proofs.stored.add_ports.Goals as goal

pub loop-port-init : goal.loop-port-init
loop-port-init g c = ports_first (codes ", ") link_name (number_by_mark (g.S.LinkStore.heap c.args.store.now)) (g.S.LinkStore.atom_id c.args.atom) c.args.arity _

pub loop-port-preserved : goal.loop-port-preserved
loop-port-preserved g c =
    ports_next (codes ", ") c.loop-port.any link_name (number_by_mark (g.S.LinkStore.heap c.args.store.now)) (g.S.LinkStore.atom_id c.args.atom) c.loop-port.port c.args.arity c.saturating_sub.result _ _ _ _ _ c.loop-port-test.true
    (c.saturating_sub.ensures ∙ ap (λ (x : ℕ). x - 1) c.mark.ensures) c.loop-port.invariant c.add_between.ensures c.add_link.ensures

pub returns : goal.returns
returns g c =
    let name = number_by_mark (g.S.LinkStore.heap c.args.store.now) in
    let a = g.S.LinkStore.atom_id c.args.atom in
    adds_as (ports_text name a c.args.arity (grind (arith, common_steps, c.if-arity-eq0.false)))
    (adds_more (codes "(") _ _ _ _ c.add.ensures (adds_more (in_row (codes ", ") false (map link_name (links_from name a 0 c.args.arity))) (codes ")") _ _ _
    (ports_end (codes ", ") c.loop-port.any link_name name a c.loop-port.port c.args.arity _ _ _ c.loop-port-test.false c.loop-port.invariant) c.add-2.ensures))
