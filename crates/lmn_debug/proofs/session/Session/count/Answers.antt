use Rattle.std.proofs.Common.{◌≡◌, ◌∙◌, ap, subst, sym}
use Rattle.lmn_store_heap.specs.Sound.{Forest, IsTree, Valid, flat}
use Rattle.lmn_debug_counting.specs.Counts.{count_in}
use Rattle.lmn_debug.proofs.CountLemmas.{count_held}
use Rattle.lmn_debug.proofs.session.Session.count.Goals as goal

pub count-requires : goal.count-requires
count-requires g c = subst (λ s. Valid (g.S.LinkStore.heap s)) (sym c.store.ensures.value) c.requires.run.turn.valid

pub returns-clause-counts : goal.returns-clause-counts
returns-clause-counts g c names solid held known =
    let engine = c.args.self.now.engine in
    count_held names engine.plain.now.rules (g.S.LinkStore.heap engine.machine.store) solid held c.args.functor known c.count.result
    (subst (λ s. (f : Forest) → IsTree (g.S.LinkStore.heap s) f → c.count.result ≡ count_in (g.S.LinkStore.heap s) c.args.functor (flat f)) c.store.ensures.value c.count.ensures.count)

pub returns-clause-kept : goal.returns-clause-kept
returns-clause-kept g c = ap g.S.LinkStore.heap (c.count.ensures.same ∙ c.store.ensures.value)
