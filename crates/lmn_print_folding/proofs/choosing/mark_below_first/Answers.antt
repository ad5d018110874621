use Rattle.std.proofs.Common.{inl, inr, refl, arith}
use Rattle.lmn_print_folding.proofs.PassLemmas.{item_by}
use Rattle.lmn_print_folding.proofs.choosing.mark_below_first.Goals as goal

pub returns-then-own_mark-ne-FIRST_ITEM-clause-terms : goal.returns-then-own_mark-ne-FIRST_ITEM-clause-terms
returns-then-own_mark-ne-FIRST_ITEM-clause-terms g c = inr (λ e. let f = c.own_mark.ensures in let n = c.if-own_mark-ne-FIRST_ITEM.true in absurd (omega (arith, e, f, n)), refl)

pub mark_below-requires-clause-item : goal.mark_below-requires-clause-item
mark_below-requires-clause-item g c =
    item_by (g.S.LinkStore.heap c.args.store.now) (g.S.LinkStore.atom_id c.args.atom) 1 (let f = c.own_mark.ensures in let n = c.if-own_mark-ne-FIRST_ITEM.false in omega (arith, f, n)) refl

pub returns-clause-terms : goal.returns-clause-terms
returns-clause-terms g c = inl (let f = c.own_mark.ensures in let n = c.if-own_mark-ne-FIRST_ITEM.false in omega (arith, f, n), c.mark_below.ensures.terms)
