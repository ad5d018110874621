-- A rule that is found to lie in a membrane fires there.
use Rattle.std.proofs.Common.{ℕ, ◌≡◌, ◌+◌, List, [], ◌++◌, length, subst, ap, ◌∙◌}
use Rattle.lmn_base.specs.declared.rule.Plain.{Plain}
use Rattle.lmn_base.specs.declared.rule.RuleTree.{RuleTree}
use Rattle.lmn_base.specs.declared.solid.Solid.{Solid}
use Rattle.lmn_guards.specs.declared.plan.GuardPlan.{GuardPlan}
use Rattle.lmn_store_heap.specs.Heap.{mems_in}
use Rattle.lmn_store_heap.specs.Sound.{Forest, Forms}
use Rattle.lmn_solid_heads.specs.declared.items.HeadItem.{HeadItem}
use Rattle.lmn_solid_heads.specs.Embeddings.{IsLeast}
use Rattle.lmn_compile_head.specs.Accepted.{head_items}
use Rattle.lmn_congruence.specs.Rules.{Name}
use Rattle.lmn_solid_settle.specs.Raw.{CanSettle, IsSettled, RawRegion, laid}
use Rattle.lmn_solid_settle.specs.declared.settling.RawMembrane.{RawMembrane}
use Rattle.lmn_solid_tables.specs.declared.flat.Flat.{Flat}
use Rattle.lmn_solid_tables.specs.Flats.{heap_of}
use Rattle.lmn_solid_search.specs.Finding.{images}
use Rattle.lmn_solid_search.specs.declared.embedding.Found.{Found}
use Rattle.lmn_solid_firing.specs.Making.{IsMade, LeftForms}
use Rattle.lmn_solid_firing.specs.Meant.{wire_pairs}
use Rattle.lmn_solid_firing.specs.declared.match_.Match.{Match}
use Rattle.lmn_solid_firing.specs.Matched.{AddsWires, IsMatched}
use Rattle.lmn_solid_next.specs.Asking.{Fires, IsAsked}
use Rattle.lmn_solid_next.specs.Firing.{AskedRulesFire, CanFire, TellsIntegers}

-- What is made can be settled, and what it is settled to is the solid after the firing.
pub record Settles (names : List Name) (plain : Plain) (s : Solid) (flat : Flat) (m place : ℕ) (rule : RuleTree) (plan : GuardPlan) (rows : List RawMembrane) (pairs : List (ℕ × ℕ)) (links : ℕ) : Type 0 where
  pub region : RawRegion
  pub is_laid : rows ≡ laid 0 0 region
  pub can_settle : CanSettle region pairs links
  pub next : (next : Solid) → IsSettled region pairs next → Fires names plain s flat m place rule plan next

module _ (law : AskedRulesFire) (names : List Name) (plain : Plain) (plans : List GuardPlan) (s : Solid) (flat : Flat) (m place : ℕ) (rule : RuleTree) (plan : GuardPlan) (a : IsAsked names plain plans s flat m place rule plan)
    (items : List HeadItem) (e : items ≡ head_items rule plan) (found : Found) (least : IsLeast (heap_of flat) (head_items rule plan) rule.guard m (images m found)) (tells : TellsIntegers (heap_of flat) (head_items rule plan) rule.guard m found)
    (t : Match) (matched : IsMatched flat rule items m found t) (before after : List (ℕ × ℕ)) (none : before ≡ []) (wires : AddsWires flat items (images m found) t.links (length rule.links) before after) where
  can : CanFire names plain s flat m place rule plan (images m found) t
  can = law names plain plans s flat m place rule plan a found least tells t (subst (λ xs. IsMatched flat rule xs m found t) e matched)

  wired : after ≡ wire_pairs t.links can.link_of can.head (length rule.links)
  wired =
      (subst (λ xs. AddsWires flat xs (images m found) t.links (length rule.links) before after) e wires) can.link_of can.head can.ports can.often
      ∙ ap (λ xs. xs ++ wire_pairs t.links can.link_of can.head (length rule.links)) none

  pub settled_to : (rows : List RawMembrane) (pairs : List (ℕ × ℕ)) (links rule_links : ℕ) → rule_links ≡ length rule.links →
      ((left : ℕ → Forest) → LeftForms flat t left → (inner : Forest) → Forms (heap_of flat) inner (mems_in (heap_of flat) 0) → IsMade flat t left inner rule.body (t.links + rule_links) after rows pairs links) →
      Settles names plain s flat m place rule plan rows pairs links
  settled_to rows pairs links rule_links n made =
      let is = made can.left can.forms can.inner can.whole in
      let of = subst (λ z. IsMade flat t can.left can.inner rule.body (t.links + z) after rows pairs links) n is in
      let u = can.settles rows pairs links (subst (λ xs. IsMade flat t can.left can.inner rule.body (t.links + length rule.links) xs rows pairs links) wired of) in
      record { region = u.0; is_laid = u.1; can_settle = u.2; next = u.3 }
