use Rattle.std.proofs.Common.{sym, ◌∙◌}
use Rattle.lmn_print.proofs.ItemLemmas.{marked_found}
use Rattle.lmn_print.proofs.items.with_mark.Goals as goal

pub returns-then-own_mark-mark-clause-list : goal.returns-then-own_mark-mark-clause-list
returns-then-own_mark-mark-clause-list g c =
    marked_found (g.S.LinkStore.heap c.args.store.now) (g.S.LinkStore.mem_id c.args.mem) g.S.LinkStore.atom_id c.args.mark c.in-Some.atom c.loop-next.next c.args.first
    c.in-Some.is (sym c.own_mark.ensures ∙ c.if-own_mark-mark.true) c.loop-next.invariant.left
