use Rattle.std.proofs.Common.{◌≡◌, [], subst, arith, rules}
use Rattle.lmn_store_heap.proofs.Replacing.{port_within}
use Rattle.lmn_store_slab.specs.Kept.{Kept, heap_of}
use Rattle.lmn_store_slab.proofs.HoldsLemmas.{line_there, mem_line_there}
use Rattle.std.proofs.lemmas.List.{nil_from_length}
use Rattle.lmn_store_slab.proofs.slab_store.SlabStore.is_ready.Goals as goal

pub count-requires : goal.count-requires
count-requires c = line_there _ _ _ _ c.self.invariant 0 (omega arith)

pub count-requires-2 : goal.count-requires-2
count-requires-2 c = mem_line_there _ _ _ _ c.self.invariant 0 (omega arith)

pub returns : goal.returns
returns c h =
    let joined = c.if-not-are_all_joined.ensures (search rules) in
    let a = c.count.ensures in
    let a1 = c.if-count-ne0.false in
    let m = c.count-2.ensures in
    let m1 = c.if-count-ne0-2.false in
    record {
      empty = c.are_all_empty.ensures h;
      full = λ x i p l. (joined x p i l).full;
      kept = λ x i b j p e. (joined x p i (port_within (heap_of c.args.self.now) x i (b, j) e)).kept b j e;
      no_atoms = subst (λ (z : Kept). (heap_of z).new_atoms ≡ []) c.self.view_is (nil_from_length _ (omega (arith, a, a1)));
      no_mems = subst (λ (z : Kept). (heap_of z).new_mems ≡ []) c.self.view_is (nil_from_length _ (omega (arith, m, m1)));
    }
