-- The laws of plain search.
use Rattle.std.specs.Prelude.{ℕ, List}
use Rattle.lmn_base.specs.declared.rule.RuleTree.{RuleTree}
use Rattle.lmn_guards.specs.declared.plan.GuardPlan.{GuardPlan}
use Rattle.lmn_store_heap.specs.Heap.{Heap}
use Rattle.lmn_store_heap.specs.Sound.{Forest}
use Rattle.lmn_solid_heads.specs.Embeddings.{Images, IsLeast}
use Rattle.lmn_compile_rules.specs.Compiled.{AreWhole}
use Rattle.lmn_compile_head.specs.Accepted.{head_items}
use Rattle.lmn_compile_body.specs.Accepted.{IsCompilable}
use Rattle.lmn_adequacy.specs.Embedding.{HasEmbedding}
use Rattle.lmn_adequacy_heaps.specs.HeapRegions.{HeapReading}
use Rattle.lmn_adequacy_heaps.specs.Premises.{HasForest, IsRead, IsRule}
use Rattle.lmn_adequacy_choices.specs.Turns.{IsReadWith, heap_region, membranes_in_preorder}
use Rattle.lmn_solid_next.specs.Choosing.{IsChosenAt, IsFirst, LiesLeast, NoneIn}

-- The least images of a rule are where it lies least.
abbrev pub LeastImagesLie : Type 0
LeastImagesLie = (table : List RuleTree) (rule : RuleTree) (plan : GuardPlan) → IsCompilable table rule plan →
    (h : Heap) (r : HeapReading) → IsRead h r → IsRule r rule → (m : ℕ) (inner : Forest) → HasForest h m inner →
    (f : Images) → IsLeast h (head_items rule plan) rule.guard m f → LiesLeast h r rule plan m inner f

-- What is found first, in the order in which membranes and rules are asked, is chosen,
abbrev pub FirstIsChosen : Type 0
FirstIsChosen = (table : List RuleTree) (plans : List GuardPlan) → AreWhole table plans →
    (h : Heap) (r : HeapReading) (inner : Forest) → IsReadWith h r inner table →
    (from m place : ℕ) (rule : RuleTree) (plan : GuardPlan) (f : Images) → IsFirst from table plans h inner m place rule plan f →
    IsChosenAt from h r inner m place rule plan f

-- and where nothing is found nothing embeds.
abbrev pub NoneHasEmbedding : Type 0
NoneHasEmbedding = (table : List RuleTree) (plans : List GuardPlan) → AreWhole table plans →
    (h : Heap) (r : HeapReading) (inner : Forest) → IsReadWith h r inner table →
    NoneIn table plans h (membranes_in_preorder h inner) → ¬ (HasEmbedding (heap_region h r inner))
