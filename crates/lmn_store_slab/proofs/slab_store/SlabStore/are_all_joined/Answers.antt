use Rattle.std.proofs.Common.{◌<◌, inl, inr, sym, subst, arith, rules}
use Rattle.std.proofs.lemmas.Bool.{cases_eq}
use Rattle.lmn_store_heap.specs.Heap.{IsInPlace, arity_of}
use Rattle.lmn_store_slab.specs.Checks.{IsJoined}
use Rattle.lmn_store_slab.specs.Kept.{heap_of}
use Rattle.lmn_store_slab.proofs.slab_store.SlabStore.are_all_joined.Goals as goal

pub loop-a-preserved : goal.loop-a-preserved
loop-a-preserved c x low place i there =
    elim (cases_eq x c.loop-a.a) [
      | inl e ↦ subst (λ z. IsInPlace (heap_of c.args.self.now) z → i < arity_of (heap_of c.args.self.now) z → IsJoined (heap_of c.args.self.now) z i) (sym e)
          (λ p h. c.if-not-are_joined_if_in_place.ensures (search rules) p i h) place there
      | inr d ↦ c.loop-a.invariant x (omega (arith, low, d)) place i there
    ]
