use Rattle.std.proofs.Common.{ℕ, ◌≡◌, ◌++◌, drop, length}
use Rattle.lmn_store_heap.specs.Sound.{Forest}
use Rattle.lmn_solid_settle.specs.Raw.{laid_in}
use Rattle.lmn_solid_firing.specs.Making.{LeftForms, context_membranes}
use Rattle.lmn_solid_firing.proofs.contexts.add_context_membranes.Given as goal

abbrev pub invariant-loop-context : goal.invariant-loop-context
invariant-loop-context l = (left : ℕ → Forest) → LeftForms l.flat l.taken left →
    l.rows.items ++ laid_in l.around (length l.rows.items) (context_membranes l.flat l.taken left l.next (drop l.context-index l.contexts))
    ≡ l.fn.rows.items ++ laid_in l.around (length l.fn.rows.items) (context_membranes l.flat l.taken left l.start l.contexts)
