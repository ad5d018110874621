use Rattle.std.proofs.Common.{ap, replicate}
use denote.RawPtr.{Ptr}
use Rattle.lmn_web_rows.proofs.StoreLemmas.{empty_store, no_numbers}
use Rattle.lmn_web_rows.proofs.store.Store.new.Goals as goal

pub invariant_of-result : goal.invariant_of-result
invariant_of-result c = (empty_store _ _ _ _ _ c.new.ensures c.new-2.ensures c.new-3.ensures.items (ap (λ (p : Ptr). replicate 1024 p) c.nowhere-2.ensures), no_numbers _ _ c.new.ensures)
