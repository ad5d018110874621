use Rattle.std.proofs.Common.{◌∙◌, arith}
use Rattle.lmn_store_counts.specs.Counts.{one}
use Rattle.lmn_store_counts.proofs.CensusLemmas.{census_less, census_drop}
use Rattle.lmn_store_slab.proofs.FreeingLemmas.{item, freeing_one, fewer, freed_all}
use Rattle.lmn_store_slab.proofs.freeing.free_atoms.Goals as goal

pub overflow_sub-count : goal.overflow_sub-count
overflow_sub-count c =
    let first = rw c.in-Some.is at c.first.ensures in
    let x = item _ _ _ _ _ _ c.loop-a.invariant.freeing c.in-Some.a first in
    census_less one _ _ c.in-Some.a x.0 x.1 c.loop-a.invariant.census

pub loop-a-smaller : goal.loop-a-smaller
loop-a-smaller c =
    let first = rw c.in-Some.is at c.first.ensures in
    fewer _ _ _ _ _ _ c.loop-a.invariant.freeing c.in-Some.a first _ c.unlink.ensures.lists

pub loop-a-preserved : goal.loop-a-preserved
loop-a-preserved c =
    let first = rw c.in-Some.is at c.first.ensures in
    let i = c.loop-a.invariant in
    let x = item _ _ _ _ _ _ i.freeing c.in-Some.a first in
    record {
      freeing = freeing_one _ _ _ _ _ _ i.freeing c.in-Some.a first _ _ c.unlink.ensures.lists c.remove_atom.ensures;
      census = rw c.remove_atom.ensures (census_drop one _ _ c.in-Some.a x.0 x.1 i.census);
      fewer = (let w = i.fewer in omega (arith, w));
      lengths = c.unlink.ensures.count ∙ i.lengths;
      size = c.unlink.ensures.size ∙ i.size;
    }

pub returns-clause-freed : goal.returns-clause-freed
returns-clause-freed c = freed_all _ _ _ _ _ _ c.loop-a.invariant.freeing (rw c.in_default.is at c.first.ensures)

pub returns-clause-counted : goal.returns-clause-counted
returns-clause-counted c = record { files = c.loop-a.invariant.freeing.files; census = c.loop-a.invariant.census }

pub returns-clause-sizes : goal.returns-clause-sizes
returns-clause-sizes c = record { lists = c.loop-a.invariant.lengths; size = c.loop-a.invariant.size }
