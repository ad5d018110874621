-- Lemmas that several crates above cite.
use Rattle.lmn_base.specs.declared.rule.RuleTree.{RuleTree}
use Rattle.lmn_adequacy_heaps.proofs.Wholes.{closed_heap}
use Rattle.lmn_congruence.specs.Process.{Closed}
use Rattle.lmn_congruence.specs.Regions.{Region, region_process}
use Rattle.lmn_store_heap.specs.Heap.{Heap}
use Rattle.lmn_schedule.specs.Held.{HoldsRegion, reading_by}
use Rattle.std.proofs.Common.{List, subst, sym}
use Rattle.lmn_congruence.specs.Rules as tree

pub closed_held : {names : List tree.Name} {table : List RuleTree} {h : Heap} {S : Region} → HoldsRegion names table h S → Closed (region_process S)
closed_held {names} {table} {h} {S} held = subst (λ R. Closed (region_process R)) (sym held.is) (closed_heap h (reading_by names table held.number) held.inner held.read held.tree)
