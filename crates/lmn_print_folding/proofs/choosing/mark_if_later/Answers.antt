use Rattle.std.proofs.Common.{inl, inr, refl, arith}
use Rattle.lmn_print_folding.proofs.OwnMarks.{atom_same}
use Rattle.lmn_print_folding.proofs.PassLemmas.{item_by}
use Rattle.lmn_print_folding.proofs.choosing.mark_if_later.Goals as goal

pub returns-then-own_mark-ne0-clause-later : goal.returns-then-own_mark-ne0-clause-later
returns-then-own_mark-ne0-clause-later g c = inr (λ e. let f = c.own_mark.ensures in let n = c.if-own_mark-ne0.true in absurd (omega (arith, e, f, n)), refl)

pub mark_below-requires-clause-atom : goal.mark_below-requires-clause-atom
mark_below-requires-clause-atom g c =
    atom_same (g.S.LinkStore.heap c.args.store.now) (g.S.LinkStore.heap c.set_own_mark.new.store) c.set_own_mark.ensures.set.marks (g.S.LinkStore.atom_id c.args.atom) c.requires.atom

pub mark_below-requires-clause-item : goal.mark_below-requires-clause-item
mark_below-requires-clause-item g c = item_by (g.S.LinkStore.heap c.set_own_mark.new.store) (g.S.LinkStore.atom_id c.args.atom) 2 c.set_own_mark.ensures.set.mark refl

pub returns-clause-later : goal.returns-clause-later
returns-clause-later g c =
    inl (let f = c.own_mark.ensures in let n = c.if-own_mark-ne0.false in omega (arith, f, n), g.S.LinkStore.heap c.set_own_mark.new.store, c.set_own_mark.ensures.set, c.mark_below.ensures.terms)
