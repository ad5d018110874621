use Rattle.std.proofs.Common.{arith, refl}
use Rattle.lmn_store_heap.proofs.Replacing.{port_within}
use Rattle.lmn_base.proofs.Truth.{false_not_true, never_both}
use Rattle.lmn_ground.proofs.closing.all_stay.Goals as goal

pub returns : goal.returns
returns g c = (
  λ f i b j l.
      let w = port_within (g.S.LinkStore.heap c.args.store.now) (g.S.LinkStore.atom_id c.args.a) i (b, j) l in
      let e = c.arity-i-end.ensures.arity in
      c.loop-i.invariant i b j (omega (arith, w, e)) l,
  λ all. refl,
)

pub returns-then-not-stays : goal.returns-then-not-stays
returns-then-not-stays g c = (
  λ f. absurd (false_not_true f),
  λ all. absurd (never_both _ (c.stays.ensures.1 (λ b j l. all c.loop-i.i b j l)) c.if-not-stays.true),
)
