use Rattle.std.proofs.Common.{ℕ, ◌≡◌, ◌++◌, drop, length, map}
use Rattle.lmn_base.specs.declared.level.Level.TheViews.{out-Level}
use Rattle.lmn_store_heap.specs.Sound.{Forest}
use Rattle.lmn_solid_settle.specs.Raw.{laid_in}
use Rattle.lmn_solid_firing.specs.Making.{LeftForms, after_membranes, context_membranes, level_made, made_membranes, raws_append}
use Rattle.lmn_solid_firing.proofs.body.+add_membranes.Given as goal

abbrev pub decreases-add_membranes : goal.decreases-add_membranes
decreases-add_membranes l = goal.size-add_membranes l

abbrev pub invariant-loop-inner : goal.invariant-loop-inner
invariant-loop-inner l = record {
  next : (left : ℕ → Forest) → after_membranes l.next (map (level_made l.flat l.taken left) (drop l.inner-index l.inner-items)) ≡ (level_made l.flat l.taken left l.level).after l.fn.next;
  rows : (left : ℕ → Forest) → LeftForms l.flat l.taken left →
      l.rows.items ++ laid_in l.around (length l.rows.items)
      (raws_append (made_membranes l.next (map (level_made l.flat l.taken left) (drop l.inner-index l.inner-items))) (context_membranes l.flat l.taken left l.start (out-Level l.level).contexts))
      ≡ l.fn.rows.items ++ laid_in l.around (length l.fn.rows.items) ((level_made l.flat l.taken left l.level).membranes l.start l.fn.next);
}
