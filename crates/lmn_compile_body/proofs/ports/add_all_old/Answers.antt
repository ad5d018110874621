use Rattle.std.proofs.Common.{◌≡◌, ◌+◌, ◌++◌, drop, length, arith, subst, sym}
use Rattle.lmn_solid_heads.specs.declared.items.HeadItem.TheVariants.{Atom, Typed, Membrane}
use Rattle.lmn_solid_heads.specs.Heads.{at_ports, at_atoms, atoms_of, links_of_head}
use Rattle.lmn_solid_bodies.specs.Items.{once_in, old_ports}
use Rattle.lmn_compile_head.specs.Tables.{HeadFits}
use Rattle.lmn_compile_body.proofs.Steps.{old_step}
use Rattle.lmn_compile_body.proofs.ports.add_all_old.Goals as goal
use Rattle.lmn_compile_body.proofs.ports.add_all_old.Goals.{in-Atom+in_ok-add_old-in-Atom, in-Typed, in-Membrane}
use Rattle.lmn_compile_head.proofs.Noting.{dropped}

pub loop-item-preserved : goal.loop-item-preserved
loop-item-preserved c =
    let items = c.args.items.now in let rest = drop (c.loop-item.item-index + 1) items in let L = links_of_head items in
    let n = c.loop-item.invariant.few in
    elim c.match-item.branch [
      | in-Atom+in_ok-add_old-in-Atom w ↦
          (let e = dropped items c.loop-item.item-index c.item-item.result (Atom w.in-Atom.functor w.in-Atom.links w.in-Atom.inside) c.loop-item-test.true c.item-item.is w.in-Atom.is in let k = w.atom-is in
          record {
            few = omega (arith, n, k);
            fits = (subst (λ xs. HeadFits (length c.args.times.now) xs) e c.loop-item.invariant.fits).2;
            made = λ counts.
                subst (λ ps. ps ++ once_in L (at_atoms c.match-item.atom (atoms_of rest)) ≡ c.args.ports.now ++ old_ports items) (sym w.ports-is)
                (subst (λ a. w.add_old.new.ports ++ once_in L (at_atoms a (atoms_of rest)) ≡ c.args.ports.now ++ old_ports items) (sym w.atom-is)
                (old_step L c.loop-item.atom w.in-Atom.functor w.in-Atom.links w.in-Atom.inside (drop c.loop-item.item-index items) rest c.loop-item.ports w.add_old.new.ports (c.args.ports.now ++ old_ports items) e
                (subst (λ ls. w.add_old.new.ports ≡ c.loop-item.ports ++ once_in L (at_ports c.loop-item.atom 0 ls)) w.as_slice.ensures (w.in_ok-add_old-in-Atom.ensures items counts))
                (c.loop-item.invariant.made counts)));
          })
      | in-Typed w ↦
          (let e = dropped items c.loop-item.item-index c.item-item.result (Typed w.in-Typed.name w.in-Typed.kind w.in-Typed.link w.in-Typed.inside) c.loop-item-test.true c.item-item.is w.in-Typed.is in let k = w.atom-is in
          record {
            few = omega (arith, n, k);
            fits = (subst (λ xs. HeadFits (length c.args.times.now) xs) e c.loop-item.invariant.fits).1;
            made = λ counts.
                subst (λ ps. ps ++ once_in L (at_atoms c.match-item.atom (atoms_of rest)) ≡ c.args.ports.now ++ old_ports items) (sym w.ports-is)
                (subst (λ a. c.loop-item.ports ++ once_in L (at_atoms a (atoms_of rest)) ≡ c.args.ports.now ++ old_ports items) (sym w.atom-is)
                (subst (λ xs. c.loop-item.ports ++ once_in L (at_atoms c.loop-item.atom (atoms_of xs)) ≡ c.args.ports.now ++ old_ports items) e (c.loop-item.invariant.made counts)));
          })
      | in-Membrane w ↦
          (let e = dropped items c.loop-item.item-index c.item-item.result (Membrane w.in-Membrane.inside w.in-Membrane.has_context w.in-Membrane.has_closed_context w.in-Membrane.has_rule_context) c.loop-item-test.true c.item-item.is w.in-Membrane.is in let k = w.atom-is in
          record {
            few = omega (arith, n, k);
            fits = subst (λ xs. HeadFits (length c.args.times.now) xs) e c.loop-item.invariant.fits;
            made = λ counts.
                subst (λ ps. ps ++ once_in L (at_atoms c.match-item.atom (atoms_of rest)) ≡ c.args.ports.now ++ old_ports items) (sym w.ports-is)
                (subst (λ a. c.loop-item.ports ++ once_in L (at_atoms a (atoms_of rest)) ≡ c.args.ports.now ++ old_ports items) (sym w.atom-is)
                (subst (λ xs. c.loop-item.ports ++ once_in L (at_atoms c.loop-item.atom (atoms_of xs)) ≡ c.args.ports.now ++ old_ports items) e (c.loop-item.invariant.made counts)));
          })
    ]
