-- Rules of a membrane, asked one after the other.
use Rattle.std.proofs.Common.{ℕ, zero, suc, ◌≡◌, ◌<◌, ◌≤◌, ◌+◌, ◌⊎◌, inl, inr, List, [], ◌∷◌, Option, Some, None, Bool, true, false, length, take, refl, sym, ap, subst, ◌∙◌, arith}
use Rattle.std.specs.Prelude.{slice_get}
use Rattle.std.specs.Option.{is_some}
use Rattle.std.proofs.Math.ListN.{get_or}
use Rattle.std.proofs.lemmas.Option.{same_Some, slice_get-get_or}
use Rattle.lmn_base.specs.Lists.{In}
use Rattle.lmn_base.specs.declared.guard.Cond.{Cond}
use Rattle.lmn_base.specs.declared.rule.RuleTree.{RuleTree}
use Rattle.lmn_guards.specs.declared.plan.GuardPlan.{GuardPlan}
use Rattle.lmn_store_heap.specs.Heap.{Heap, IsMem, rules_in}
use Rattle.lmn_solid_heads.specs.declared.items.HeadItem.{HeadItem}
use Rattle.lmn_solid_heads.specs.Embeddings.{Embeds, Images, IsLeast}
use Rattle.lmn_solid_next.specs.Firing.{TellsIntegers}
use Rattle.lmn_compile_head.specs.Accepted.{head_items}
use Rattle.lmn_solid_search.specs.Finding.{images}
use Rattle.lmn_solid_search.specs.declared.embedding.Found.{Found}
use Rattle.lmn_schedule_strategy.proofs.Numbers.{take_whole}
use Rattle.lmn_solid_next.specs.Choosing.{NoneOf}
use Rattle.lmn_base.specs.declared.rule.Plain.{Plain}
use Rattle.lmn_base.specs.declared.solid.Solid.{Solid}
use Rattle.lmn_congruence.specs.Rules.{Name}
use Rattle.lmn_solid_tables.specs.declared.flat.Flat.{Flat}
use Rattle.lmn_solid_tables.specs.Flats.{heap_of}
use Rattle.lmn_solid_next.specs.Asking.{IsAsked, IsSearched}
use Rattle.lmn_receipt_search.specs.Turns.{AskedRules, EmbedsThere, FiresInWithin, FiresWithin}

-- what is in a front with one element more is in the front, or this element
in_more : (xs : List ℕ) (i k x : ℕ) → slice_get xs i ≡ Some k → In x (take (suc i) xs) → In x (take i xs) ⊎ (k ≡ x)
in_more [] i k x e p = absurd (cc)
in_more (y ∷ ys) zero k x e (inl q) = inr (sym (same_Some y k e) ∙ q)
in_more (y ∷ []) zero k x e (inr p) = absurd p
in_more (y ∷ z ∷ zs) zero k x e (inr p) = absurd p
in_more (y ∷ ys) (suc i) k x e (inl q) = inl (inl q)
in_more (y ∷ ys) (suc i) k x e (inr p) = elim (in_more ys i k x e p) [ inl u ↦ inl (inr u) | inr v ↦ inr v ]

-- where the rules before a place don't embed, and the one there doesn't
pub none_more : (table : List RuleTree) (plans : List GuardPlan) (h : Heap) (m : ℕ) (xs : List ℕ) (i k : ℕ) (rule : RuleTree) (plan : GuardPlan) → slice_get xs i ≡ Some k → slice_get table k ≡ Some rule → slice_get plans k ≡ Some plan →
    NoneOf table plans h m (take i xs) → ((f : Images) → ¬ (Embeds h (head_items rule plan) rule.guard m f)) → NoneOf table plans h m (take (i + 1) xs)
none_more table plans h m xs i k rule plan e re pe none here j p r q rj qj f em =
    let s : i + 1 ≡ suc i = omega arith in
    elim (in_more xs i k j e (subst (λ n. In j (take n xs)) s p)) [
      | inl u ↦ none j u r q rj qj f em
      | inr v ↦ (
          let a : r ≡ rule = same_Some r rule (sym rj ∙ subst (λ z. slice_get table z ≡ Some rule) v re) in
          let b : q ≡ plan = same_Some q plan (sym qj ∙ subst (λ z. slice_get plans z ≡ Some plan) v pe) in
          here f (subst (λ z. Embeds h (head_items z plan) z.guard m f) a (subst (λ z. Embeds h (head_items r z) r.guard m f) b em))
          )
    ]

-- the least images of items and a guard are those of equal ones
pub least_as : (h : Heap) (m : ℕ) (xs ys : List HeadItem) (gs ks : List Cond) (found : Found) → xs ≡ ys → gs ≡ ks → IsLeast h xs gs m (images m found) → IsLeast h ys ks m (images m found)
least_as h m xs ys gs ks found e d l = subst (λ zs. IsLeast h zs ks m (images m found)) e (subst (λ zs. IsLeast h xs zs m (images m found)) d l)

-- what is found tells the same integers of equal ones
pub known_as : (h : Heap) (m : ℕ) (xs ys : List HeadItem) (gs ks : List Cond) (found : Found) → xs ≡ ys → gs ≡ ks → TellsIntegers h xs gs m found → TellsIntegers h ys ks m found
known_as h m xs ys gs ks found e d l = subst (λ zs. TellsIntegers h zs ks m found) e (subst (λ zs. TellsIntegers h xs zs m found) d l)

-- nothing, by the test
pub nothing_by : {A : Type 0} (o : Option A) (b : Bool) → b ≡ is_some o → b ≡ false → o ≡ None
nothing_by None b e f = refl
nothing_by (Some x) b e f = let d : true ≡ false = sym e ∙ f in absurd (cc)

module _ (laws : AskedRules) (names : List Name) (plain : Plain) (plans : List GuardPlan) (s : Solid) (flat : Flat) (m place : ℕ) (xs : List ℕ) (w : IsSearched names plain plans s flat) (e : xs ≡ rules_in (heap_of flat) m) (n : ℕ) (o : slice_get xs place ≡ Some n) where
  stands : slice_get (rules_in (heap_of flat) m) place ≡ Some n
  stands = subst (λ z. slice_get z place ≡ Some n) e o

  -- the number of the rule at a place is one of the plain, and it has a plan
  pub known_here : (n < length plain.rules) × (n < length plans)
  known_here = laws.known names plain plans s flat m place n w stands

  planned : (plan d : GuardPlan) → plan ≡ get_or plans n d → slice_get plans n ≡ Some plan
  planned plan d p = slice_get-get_or plans n d known_here.1 ∙ ap (λ z. Some z) (sym p)

  -- so it is asked there
  pub asked_here : (rule : RuleTree) (plan d : GuardPlan) → IsMem (heap_of flat) m → slice_get plain.rules n ≡ Some rule → plan ≡ get_or plans n d → IsAsked names plain plans s flat m place rule plan
  asked_here rule plan d there r p = record { searched = w; there = there; number = n; stands = stands; is = r; plan_is = planned plan d p }

  -- where no rule before it embeds, and it fires
  pub fires_here : (rule : RuleTree) (plan : GuardPlan) → IsAsked names plain plans s flat m place rule plan → NoneOf plain.rules plans (heap_of flat) m (take place xs) → (limit : ℕ) (o : Option Solid) →
      FiresWithin names plain s flat m place rule plan limit o → FiresInWithin names plain plans s flat m limit o
  fires_here rule plan a none limit (Some next) f = (
    record {
      place = place;
      rule = rule;
      plan = plan;
      asked = a;
      before = subst (λ z. NoneOf plain.rules plans (heap_of flat) m (take place z)) e none;
      fires = record { found = f.found; least = f.least; path = f.path; leads = f.leads; next_at = f.next_at };
    },
    f.by,
  )
  fires_here rule plan a none limit None f = (
    f.0,
    record {
      place = place;
      rule = rule;
      plan = plan;
      asked = a;
      before = subst (λ z. NoneOf plain.rules plans (heap_of flat) m (take place z)) e none;
      fires = f.1;
    },
    f.2,
  )

  -- or it embeds
  pub embeds_here : (rule : RuleTree) (plan : GuardPlan) → IsAsked names plain plans s flat m place rule plan → NoneOf plain.rules plans (heap_of flat) m (take place xs) → (f : Images) × IsLeast (heap_of flat) (head_items rule plan) rule.guard m f →
      EmbedsThere names plain plans s flat m
  embeds_here rule plan a none f = record {
    place = place;
    rule = rule;
    plan = plan;
    asked = a;
    before = subst (λ z. NoneOf plain.rules plans (heap_of flat) m (take place z)) e none;
    found = f.0;
    least = f.1;
  }

  -- and where no rule before it embeds, and it doesn't
  pub none_here : (rule : RuleTree) (plan d : GuardPlan) → slice_get plain.rules n ≡ Some rule → plan ≡ get_or plans n d → NoneOf plain.rules plans (heap_of flat) m (take place xs) →
      ((f : Images) → ¬ (Embeds (heap_of flat) (head_items rule plan) rule.guard m f)) → NoneOf plain.rules plans (heap_of flat) m (take (place + 1) xs)
  none_here rule plan d r p none here = none_more plain.rules plans (heap_of flat) m xs place n rule plan o r (planned plan d p) none here

-- what holds of a front that isn't shorter than the list holds of the list
pub whole_front : (P : List ℕ → Type 0) (xs ys : List ℕ) (n : ℕ) → xs ≡ ys → length xs ≤ n → P (take n xs) → P ys
whole_front P xs ys n e l p = subst P (take_whole xs n l ∙ e) p
