use Rattle.std.proofs.Common.{subst, sym, ◌∙◌}
use Rattle.lmn_store_heap.specs.Sound.{IsTree}
use Rattle.lmn_store_slab.specs.Kept.{heap_of}
use Rattle.lmn_store_slab.proofs.BoundLemmas.{mems_are}
use Rattle.lmn_store_slab.proofs.slab_store.SlabStoreLinkStore.membranes.Goals as goal

pub returns : goal.returns
returns c f t = c.len.ensures ∙ mems_are _ _ _ _ c.self.invariant f (subst (λ z. IsTree (heap_of z) f) (sym c.self.view_is) t)
