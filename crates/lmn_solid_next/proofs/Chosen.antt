-- What is found first is chosen by the calculus.
use Rattle.std.proofs.Common.{ℕ, ◌≡◌, List, [], ◌∷◌, Some, refl, sym, subst, ◌∙◌, arith}
use Rattle.std.specs.Prelude.{slice_get}
use Rattle.std.proofs.lemmas.Option.{same_Some}
use Rattle.lmn_base.specs.Lists.{In}
use Rattle.lmn_base.proofs.Lists.{get_below, get_there as get_some, plus_nothing}
use Rattle.lmn_base.specs.declared.rule.RuleTree.{RuleTree}
use Rattle.lmn_guards.specs.declared.plan.GuardPlan.{GuardPlan}
use Rattle.lmn_store_heap.specs.Heap.{Heap, mems_in, rules_in}
use Rattle.lmn_store_heap.specs.Sound.{Forest, flat}
use Rattle.lmn_store_heap.proofs.Common.{in_at as got_in}
use Rattle.lmn_store_heap.proofs.Groves.{forms_one}
use Rattle.lmn_store_heap.proofs.Trees.{in_here, is_mem}
use Rattle.lmn_solid_heads.specs.Embeddings.{Embeds, Images}
use Rattle.lmn_compile_rules.specs.Compiled.{AreWhole}
use Rattle.lmn_compile_head.specs.Accepted.{head_items}
use Rattle.lmn_compile_head.specs.Heads.{kind_in}
use Rattle.lmn_compile_body.specs.Accepted.{IsCompilable}
use Rattle.lmn_congruence.specs.Translation.{rule_tree}
use Rattle.lmn_adequacy.specs.Embedding.{EmbedsAt, EmbedsIn}
use Rattle.lmn_adequacy_heaps.specs.HeapRegions.{HeapReading, region_at}
use Rattle.lmn_adequacy_heaps.specs.Laws.{EmbedsAlike}
use Rattle.lmn_adequacy_heaps.specs.Premises.{HasForest, IsRule}
use Rattle.lmn_adequacy_heaps.proofs.Results.{root_forest}
use Rattle.lmn_adequacy_turns.specs.Turning.{Leads}
use Rattle.lmn_adequacy_turns.proofs.PlanTypes.{plan_types}
use Rattle.lmn_adequacy_choices.specs.Turns.{IsReadWith, heap_region, membranes_in_preorder, tree_over}
use Rattle.lmn_adequacy_choices.proofs.Lists.{cut_at, each_among, got_front}
use Rattle.lmn_adequacy_choices.proofs.Numbers.{numbered_alike}
use Rattle.lmn_adequacy_choices.proofs.Paths.{forest_there, leads_inside, leads_to_one}
use Rattle.lmn_adequacy_choices.proofs.Placed.{AtEnd, at_end, at_path}
use Rattle.lmn_solid_next.specs.Choosing.{IsChosenAt, IsFirst, numbers_of}
use Rattle.lmn_solid_next.specs.Laws.{FirstIsChosen, LeastImagesLie, NoneHasEmbedding}
use Rattle.lmn_schedule_strategy.proofs.Lulling.{in_drop_take}

-- A rule of a membrane, by its number: its tree and its plan.
record Planned (r : HeapReading) (table : List RuleTree) (plans : List GuardPlan) (k : ℕ) : Type 0 where
  pub rule : RuleTree
  pub is : slice_get table k ≡ Some rule
  pub allowed : IsRule r rule
  pub read : r.rule k ≡ rule_tree r.names r.rule rule
  pub plan : GuardPlan
  pub plan_is : slice_get plans k ≡ Some plan
  pub whole : IsCompilable table rule plan

module _ (alike : EmbedsAlike) (table : List RuleTree) (plans : List GuardPlan) (all : AreWhole table plans) (h : Heap) (r : HeapReading) (inner : Forest) (w : IsReadWith h r inner table) where
  -- each rule of a membrane has them
  planned : (m k : ℕ) → In k (rules_in h m) → Planned r table plans k
  planned m k p =
      let u = w.rules.known m k p in
      let below = get_below table k u.0 u.1 in
      let plan = get_some plans k (omega (arith, below, all.many)) in
      record { rule = u.0; is = u.1; allowed = u.2; read = w.rules.read k u.0 u.1; plan = plan.0; plan_is = plan.1; whole = all.whole k u.0 plan.0 u.1 plan.1 }

  -- where the tree of a rule embeds in the region of a membrane, its head embeds there
  images_at : (m : ℕ) (mi : Forest) → HasForest h m mi → (k : ℕ) → In k (rules_in h m) → (g : List ℕ) → EmbedsAt (r.rule k) g (region_at h r m mi) → (u : Planned r table plans k) × (f : Images) × Embeds h (head_items u.rule u.plan) u.rule.guard m f
  images_at m mi has k p g e =
      let u = planned m k p in
      let on = (alike h r m mi (kind_in u.plan.kinds) u.rule w.read has u.allowed (plan_types table u.rule u.plan u.whole.ready) g).1 (subst (λ z. EmbedsAt z g (region_at h r m mi)) u.read e) in
      (u, on.0, on.1)

  -- an embedding at the end of a path is in a membrane of the heap
  found_at : {path : List ℕ} {j : ℕ} {g : List ℕ} → EmbedsIn path j g (heap_region h r inner) → AtEnd h r path j g h.root
  found_at e = at_end h r e h.root inner (root_forest h inner w.tree) refl

  module _ (lie : LeastImagesLie) (from m place : ℕ) (rule : RuleTree) (plan : GuardPlan) (f : Images) (c : IsFirst from table plans h inner m place rule plan f) where
    inside : In m (membranes_in_preorder h inner)
    inside = in_drop_take (membranes_in_preorder h inner) from m (subst (In m) (sym c.order) (in_here m c.earlier c.later))

    forest_of : (mi : Forest) × HasForest h m mi
    forest_of = forest_there h (tree_over h inner) (h.root ∷ []) w.tree.forms w.tree.once m inside

    -- the strategy chooses it
    pub chosen_at : IsChosenAt from h r inner m place rule plan f
    chosen_at =
        let R : List ℕ → ℕ → Type 0 = λ p x. Leads h x p h.root in
        let S = heap_region h r inner in
        let numbers = numbered_alike h r inner w.tree in
        let cut = cut_at R c.earlier m c.later (numbers.asked from) c.order in
        let known = w.rules.known m c.number (got_in (rules_in h m) place c.number c.stands) in
        let is_rule = subst (λ z. IsRule r z) (same_Some known.0 rule (sym known.1 ∙ c.rule_is)) known.2 in
        let read = w.rules.read c.number rule c.rule_is in
        let lies = lie table rule plan (all.whole c.number rule plan c.rule_is c.plan_is) h r w.read is_rule m forest_of.0 forest_of.1 f c.least in
        record {
          forest = forest_of.0;
          has = forest_of.1;
          there = is_mem h w.read.valid.sound (tree_over h inner) w.tree m inside;
          lies = lies;
          path = cut.at;
          leads = cut.here;
          chosen = record {
            embeds = at_path h r place c.number (numbers_of h rule plan f) cut.here inner forest_of.0 (root_forest h inner w.tree) forest_of.1 c.stands
                (subst (λ z. EmbedsAt z (numbers_of h rule plan f) (region_at h r m forest_of.0)) (sym read) lies.embeds);
            earlier = cut.earlier;
            later = cut.later;
            order = cut.order;
            first_membrane = λ p a j g e.
                let x = each_among R cut.each p a in
                let z = found_at e in
                let one : x.0 ≡ z.membrane = leads_to_one x.2 z.leads in
                let k = got_in (rules_in h z.membrane) j z.number z.stands in
                let on = images_at z.membrane z.forest z.has z.number k g z.embeds in
                c.none z.membrane (subst (λ y. In y c.earlier) one x.1) z.number k on.0.rule on.0.plan on.0.is on.0.plan_is on.1 on.2;
            first_rule = λ j l g e.
                let z = found_at e in
                let one : z.membrane ≡ m = leads_to_one z.leads cut.here in
                let on = images_at z.membrane z.forest z.has z.number (got_in (rules_in h z.membrane) j z.number z.stands) g z.embeds in
                c.before z.number (got_front (rules_in h m) place j z.number l (subst (λ y. slice_get (rules_in h y) j ≡ Some z.number) one z.stands))
                on.0.rule on.0.plan on.0.is on.0.plan_is on.1 (subst (λ y. Embeds h (head_items on.0.rule on.0.plan) on.0.rule.guard y on.1) one on.2);
            least = λ g e.
                let z = found_at e in
                let one : z.membrane ≡ m = leads_to_one z.leads cut.here in
                let there : slice_get (rules_in h m) place ≡ Some z.number = subst (λ y. slice_get (rules_in h y) place ≡ Some z.number) one z.stands in
                let number : z.number ≡ c.number = same_Some z.number c.number (sym there ∙ c.stands) in
                let forest : z.forest ≡ forest_of.0 = forms_one h z.forest forest_of.0 (mems_in h m) (subst (λ y. HasForest h y z.forest) one z.has).forms forest_of.1.forms in
                lies.least g (subst (λ z. EmbedsAt z g (region_at h r m forest_of.0)) read (subst (λ k. EmbedsAt (r.rule k) g (region_at h r m forest_of.0)) number
                (subst (λ f. EmbedsAt (r.rule z.number) g (region_at h r m f)) forest (subst (λ y. EmbedsAt (r.rule z.number) g (region_at h r y z.forest)) one z.embeds))));
          };
        }

-- what is found first is chosen,
pub first_is_chosen : LeastImagesLie → EmbedsAlike → FirstIsChosen
first_is_chosen lie alike table plans all h r inner w from m place rule plan f c = chosen_at alike table plans all h r inner w lie from m place rule plan f c

-- and where nothing is found nothing embeds
pub none_has_embedding : EmbedsAlike → NoneHasEmbedding
none_has_embedding alike table plans all h r inner w none e =
    let z = found_at alike table plans all h r inner w e.embeds in
    let here = leads_inside z.leads inner (root_forest h inner w.tree) in
    let there = subst (λ ys. In z.membrane (h.root ∷ ys)) (sym (plus_nothing (flat inner))) here in
    let k = got_in (rules_in h z.membrane) e.number z.number z.stands in
    let on = images_at alike table plans all h r inner w z.membrane z.forest z.has z.number k e.positions z.embeds in
    none z.membrane there z.number k on.0.rule on.0.plan on.0.is on.0.plan_is on.1 on.2
