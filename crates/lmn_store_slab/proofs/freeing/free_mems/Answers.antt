use Rattle.std.proofs.Common.{◌∙◌, arith, ◌≡◌, ◌-◌, subst}
use Rattle.lmn_store_heap.specs.Heap.{HeapMem}
use Rattle.lmn_store_counts.specs.Census.{Census}
use Rattle.lmn_store_counts.specs.Counts.{with_rules}
use Rattle.lmn_store_counts.proofs.CensusLemmas.{census_less, census_drop}
use Rattle.lmn_store_slab.proofs.FreeingLemmas.{item, freeing_one, fewer, freed_all}
use Rattle.lmn_store_slab.proofs.freeing.free_mems.Goals as goal

pub overflow_sub-count : goal.overflow_sub-count
overflow_sub-count c =
    let first = rw c.in-Some.is at c.first.ensures in
    let x = item _ _ _ _ _ _ c.loop-m.invariant.freeing c.in-Some.m first in
    let w = census_less with_rules _ _ c.in-Some.m x.0 x.1 c.loop-m.invariant.census in
    omega (arith, w)

pub overflow_sub-count-in-Some : goal.overflow_sub-count-in-Some
overflow_sub-count-in-Some c =
    let first = rw c.in-Some.is at c.first.ensures in
    let x = item _ _ _ _ _ _ c.loop-m.invariant.freeing c.in-Some.m first in
    let w = census_less with_rules _ _ c.in-Some.m x.0 x.1 c.loop-m.invariant.census in
    let n = c.remove_mem-freed.ensures.rules x.0 x.1 in
    omega (arith, w)

pub overflow_sub-spare : goal.overflow_sub-spare
overflow_sub-spare c =
    let first = rw c.in-Some.is at c.first.ensures in
    let x = item _ _ _ _ _ _ c.loop-m.invariant.freeing c.in-Some.m first in
    let w = census_less (λ (y : HeapMem). y.spare) _ _ c.in-Some.m x.0 x.1 c.loop-m.invariant.spares in
    let n = c.remove_mem-freed.ensures.spare x.0 x.1 in
    omega (arith, w)

pub loop-m-smaller : goal.loop-m-smaller
loop-m-smaller c =
    let first = rw c.in-Some.is at c.first.ensures in
    fewer _ _ _ _ _ _ c.loop-m.invariant.freeing c.in-Some.m first _ c.unlink.ensures.lists

pub loop-m-preserved : goal.loop-m-preserved
loop-m-preserved c =
    let first = rw c.in-Some.is at c.first.ensures in
    let i = c.loop-m.invariant in
    let x = item _ _ _ _ _ _ i.freeing c.in-Some.m first in
    let n = c.remove_mem-freed.ensures.rules x.0 x.1 in
    let s = c.remove_mem-freed.ensures.spare x.0 x.1 in
    let less : c.loop-m.count - with_rules x.0 ≡ c.loop-m.count - 1 - c.remove_mem-freed.result.0 = omega (arith, n) in
    record {
      freeing = freeing_one _ _ _ _ _ _ i.freeing c.in-Some.m first _ _ c.unlink.ensures.lists c.remove_mem-freed.ensures.removed;
      census = rw c.remove_mem-freed.ensures.removed (subst (Census with_rules _) less (census_drop with_rules _ _ c.in-Some.m x.0 x.1 i.census));
      spares = rw (c.remove_mem-freed.ensures.removed, s) (census_drop (λ (y : HeapMem). y.spare) _ _ c.in-Some.m x.0 x.1 i.spares);
      fewer = (let w = i.fewer in omega (arith, w));
      less_spare = (let w = i.less_spare in omega (arith, w));
      lengths = c.unlink.ensures.count ∙ i.lengths;
      size = c.unlink.ensures.size ∙ i.size;
    }

pub returns-clause-freed : goal.returns-clause-freed
returns-clause-freed c = freed_all _ _ _ _ _ _ c.loop-m.invariant.freeing (rw c.in_default.is at c.first.ensures)

pub returns-clause-counted : goal.returns-clause-counted
returns-clause-counted c = record { files = c.loop-m.invariant.freeing.files; census = c.loop-m.invariant.census; spares = c.loop-m.invariant.spares }

pub returns-clause-sizes : goal.returns-clause-sizes
returns-clause-sizes c = record { lists = c.loop-m.invariant.lengths; size = c.loop-m.invariant.size }
