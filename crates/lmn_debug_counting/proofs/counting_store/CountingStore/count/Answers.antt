use Rattle.std.proofs.Common.{◌≡◌, subst, sym}
use Rattle.lmn_store_heap.specs.Sound.{Forest, IsTree, Valid, flat}
use Rattle.lmn_debug_counting.specs.Counts.{count_in}
use Rattle.lmn_debug_counting.proofs.Listed.{count_kept, kept_anew}
use Rattle.lmn_debug_counting.proofs.counting_store.CountingStore.count.Goals as goal

pub invariant_of-self : goal.invariant_of-self
invariant_of-self g c =
    let heap = g.S.LinkStore.heap in
    kept_anew (heap c.self.inside.store) (subst (λ s. Valid (heap s)) (sym c.self.view_is) c.requires) c.args.functor c.count_atoms-count.result c.count_atoms-count.ensures

pub returns-in-Some-clause-count : goal.returns-in-Some-clause-count
returns-in-Some-clause-count g c =
    let heap = g.S.LinkStore.heap in
    let n = c.in-Some.count in
    subst (λ s. (t : Forest) → IsTree (heap s) t → n ≡ count_in (heap s) c.args.functor (flat t)) c.self.view_is
    (count_kept (heap c.self.inside.store) (subst (λ s. Valid (heap s)) (sym c.self.view_is) c.requires) c.args.functor n c.self.inside.tally c.self.invariant c.in-Some.ensures)
