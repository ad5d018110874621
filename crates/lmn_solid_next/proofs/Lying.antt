-- The least images of a rule, as an embedding of the calculus.
use Rattle.std.proofs.Common.{ℕ, List, [], sym, subst, refl}
use Rattle.lmn_base.specs.declared.rule.RuleTree.{RuleTree}
use Rattle.lmn_guards.specs.declared.plan.GuardPlan.{GuardPlan}
use Rattle.lmn_store_heap.specs.Heap.{Heap}
use Rattle.lmn_store_heap.specs.Sound.{Forest}
use Rattle.lmn_solid_heads.specs.Embeddings.{Images, IsLeast}
use Rattle.lmn_instr_code.specs.Running.{HeadRegisters, IsFirstSuccess}
use Rattle.lmn_compile_head.specs.Accepted.{AcceptedHeads, AcceptedLeast, head_items, rule_head_code}
use Rattle.lmn_compile_head.specs.Heads.{kind_in}
use Rattle.lmn_compile_body.specs.Accepted.{IsCompilable}
use Rattle.lmn_solid_bodies.specs.Running.{Registers}
use Rattle.lmn_adequacy_heaps.specs.HeapRegions.{HeapReading}
use Rattle.lmn_adequacy_heaps.specs.Laws.{EmbedsAlike, LeastAlike}
use Rattle.lmn_adequacy_heaps.specs.Premises.{HasForest, IsRead, IsRule}
use Rattle.lmn_adequacy_turns.specs.Bound.{BoundNames}
use Rattle.lmn_adequacy_turns.proofs.Embedded.{ordered, ordered_is}
use Rattle.lmn_adequacy_turns.proofs.PlanTypes.{plan_types}
use Rattle.lmn_solid_next.specs.Choosing.{LiesLeast, numbers_of}
use Rattle.lmn_solid_next.specs.Laws.{LeastImagesLie}
use Rattle.lmn_solid_next.proofs.Rests.{with_rests, rests_held}

module _ (heads : AcceptedHeads) (least_law : AcceptedLeast) (bound_law : BoundNames) (alike : EmbedsAlike) (first_alike : LeastAlike)
    (table : List RuleTree) (rule : RuleTree) (plan : GuardPlan) (whole : IsCompilable table rule plan) (h : Heap) (r : HeapReading) (read : IsRead h r) (is_rule : IsRule r rule) (m : ℕ) (inner : Forest) (has : HasForest h m inner) where
  -- the images of registers lie least
  of_images : (s : HeadRegisters) → IsFirstSuccess h (rule_head_code rule plan) m s → IsLeast h (head_items rule plan) rule.guard m s.images → LiesLeast h r rule plan m inner s.images
  of_images s first least =
      let bare : Registers = record { head = s; copy = λ c. (0, 0); copied = λ c. []; left_atoms = λ c. []; left_membranes = λ c. [] } in
      let lies = least.embeds.lies in
      let all = with_rests h read.valid (head_items rule plan) m bare lies in
      record {
        registers = all;
        images = refl;
        first = first;
        bound = λ x z e. bound_law table rule plan whole.ready h m s first.succeeds x z e;
        rests = rests_held h read.valid (head_items rule plan) m bare lies;
        embeds = ordered heads least_law alike bound_law table rule plan whole.ready h r read is_rule m inner has all first;
        of_registers = ordered_is heads least_law alike bound_law table rule plan whole.ready h r read is_rule m inner has all first;
        least = ((first_alike h r m inner (kind_in plan.kinds) rule read has is_rule (plan_types table rule plan whole.ready) (numbers_of h rule plan s.images)).0 (s.images, least, refl)).1;
      }

  pub lies_least : (f : Images) → IsLeast h (head_items rule plan) rule.guard m f → LiesLeast h r rule plan m inner f
  lies_least f least =
      let u = least_law.first table rule plan h m f whole.ready read.valid least in
      subst (LiesLeast h r rule plan m inner) u.1 (of_images u.0 u.2 (subst (IsLeast h (head_items rule plan) rule.guard m) (sym u.1) least))

-- the least images of a rule are where it lies least
pub least_images_lie : AcceptedHeads → AcceptedLeast → BoundNames → EmbedsAlike → LeastAlike → LeastImagesLie
least_images_lie heads least_law bound_law alike first_alike table rule plan whole h r read is_rule m inner has f least =
    lies_least heads least_law bound_law alike first_alike table rule plan whole h r read is_rule m inner has f least
