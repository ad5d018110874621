-- What is asked of a heap, from the root on.
use Rattle.std.proofs.Common.{ℕ, List, sym, subst, ◌∙◌}
use Rattle.lmn_base.specs.Lists.{In}
use Rattle.lmn_base.proofs.Lists.{plus_nothing}
use Rattle.lmn_store_heap.specs.Heap.{Heap, rules_in}
use Rattle.lmn_store_heap.specs.Sound.{Forest, flat}
use Rattle.lmn_store_heap.proofs.Common.{in_at}
use Rattle.lmn_store_heap.proofs.Trees.{in_here}
use Rattle.lmn_instr_code.specs.declared.instr.Code.{Code}
use Rattle.lmn_schedule_strategy.specs.Choosing.{IsFirstIn, asked}
use Rattle.lmn_verify_coded.specs.Turning.{SomeIn}

-- the code of a rule that is chosen succeeds
pub chosen_succeeds : (h : Heap) (codes : List Code) (f : Forest) (m place k : ℕ) → IsFirstIn h codes (asked 0 f) m place k → SomeIn h codes (flat f)
chosen_succeeds h codes f m place k c = record {
  membrane = m;
  among = subst (In m) (sym c.order ∙ plus_nothing (flat f)) (in_here m c.earlier c.later);
  rule = k;
  stands = in_at (rules_in h m) place k c.rule.stands;
  succeeds = c.rule.succeeds;
}
