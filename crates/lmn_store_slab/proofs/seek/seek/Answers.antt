use Rattle.std.proofs.Common.{◌∙◌, ap, Some, rules}
use Rattle.lmn_store_heap.proofs.WithFunctor.{with_from}
use Rattle.lmn_store_slab.proofs.SeekLemmas.{functor_at, if_next, seek_on}
use Rattle.lmn_store_slab.proofs.seek.seek.Goals as goal

pub returns-then-same_functor-clause-first : goal.returns-then-same_functor-clause-first
returns-then-same_functor-clause-first c h e =
    let is = functor_at h c.args.atoms.now.slots c.in-Some.a c.index.result.now e c.index.ensures in
    let same = c.if-same_functor.ensures.0 (search rules) in
    with_from h c.args.f c.in-Some.a _ (is ∙ ap Some same) ∙ (rw c.in-Some.is at c.loop-at.invariant.rest) h e

pub loop-at-preserved : goal.loop-at-preserved
loop-at-preserved c = record {
  there = if_next c.next-at.result c.in-Some.a _ c.next-at.ensures;
  rest = λ h e.
      let is = functor_at h c.args.atoms.now.slots c.in-Some.a c.index.result.now e c.index.ensures in
      seek_on h c.args.f c.in-Some.a c.index.result.now.functor _ c.next-at.result is (λ w. search rules) c.next-at.ensures
      ∙ (rw c.in-Some.is at c.loop-at.invariant.rest) h e;
}
