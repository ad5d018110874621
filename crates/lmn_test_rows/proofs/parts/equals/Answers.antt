use Rattle.lmn_store_slab.specs.Kept.{heap_of}
use Rattle.std.proofs.Common.{rules, sym, subst, inr}
use Rattle.lmn_store_heap.specs.Heap.{Heap}
use Rattle.lmn_store_heap.specs.Splice.{IsPort}
use Rattle.std.specs.Prelude.{None}
use Rattle.lmn_ground.specs.Spread.{IsGroundIn, IsWhole}
use Rattle.lmn_test_rows.proofs.PartLemmas.{clean_same, ground_apart}
use Rattle.lmn_test_rows.proofs.parts.equals.Goals as goal

pub equal-requires-clause-x : goal.equal-requires-clause-x
equal-requires-clause-x g c = subst (λ (h : Heap). IsPort h c.args.x.0 c.args.x.1) (sym c.part-2.ensures.same) (c.part.ensures.atom, c.part.ensures.port)

pub equal-requires-clause-ground : goal.equal-requires-clause-ground
equal-requires-clause-ground g c = subst (λ (h : Heap). IsWhole h (c.args.x.0, c.args.x.1) None) (sym c.part-2.ensures.same) c.part.ensures.whole

pub equal-requires-clause-apart : goal.equal-requires-clause-apart
equal-requires-clause-apart g c = inr (ground_apart (heap_of c.part.new.store) (heap_of c.part-2.new.store) _ _ _ _ c.part.ensures.ground
    (subst (λ (h : Heap). IsGroundIn h (c.args.y.0, c.args.y.1) c.args.n) c.part-2.ensures.same c.part-2.ensures.ground) (search rules) c.part-2.ensures.same)

pub returns : goal.returns
returns g c = clean_same (heap_of c.part-2.new.store) (heap_of c.equal.new.store) c.equal.ensures.same c.part-2.ensures.clean
