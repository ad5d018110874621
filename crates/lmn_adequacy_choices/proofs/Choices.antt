-- What is chosen by code is chosen by the calculus.
use Rattle.std.proofs.Common.{ℕ, ◌≡◌, List, [], ◌∷◌, ◌++◌, Some, refl, sym, ap, subst, ◌∙◌}
use Rattle.std.specs.Prelude.{slice_get}
use Rattle.std.proofs.lemmas.Option.{same_Some}
use Rattle.lmn_base.specs.declared.rule.RuleTree.{RuleTree}
use Rattle.lmn_guards.specs.declared.plan.GuardPlan.{GuardPlan}
use Rattle.lmn_store_heap.specs.Heap.{Heap, mems_in, rules_in}
use Rattle.lmn_store_heap.specs.Sound.{Forest}
use Rattle.lmn_store_heap.proofs.Groves.{forms_one}
use Rattle.lmn_store_heap.proofs.Trees.{in_here, is_mem}
use Rattle.lmn_instr_code.specs.declared.instr.Code.{Code}
use Rattle.lmn_instr_code.specs.Running.{IsFirstSuccess}
use Rattle.lmn_compile_head.specs.Accepted.{AcceptedHeads, AcceptedLeast, head_items, rule_head_code}
use Rattle.lmn_compile_head.specs.Heads.{kind_in}
use Rattle.lmn_compile_head.specs.Laws.{CodeOfEmbeddings}
use Rattle.lmn_solid_bodies.specs.Running.{Registers, RunsBody}
use Rattle.lmn_solid_bodies.specs.Within.{HoldsRests}
use Rattle.lmn_adequacy.specs.Choice.{ChosenFrom, asked_paths}
use Rattle.lmn_adequacy.specs.Embedding.{EmbedsAt, EmbedsIn}
use Rattle.lmn_adequacy.specs.Laws.{EmbeddingsFire, FiringsCommit, NumberingExists, RenamedNext}
use Rattle.lmn_adequacy_heaps.specs.HeapRegions.{HeapReading, region_at}
use Rattle.lmn_adequacy_heaps.specs.Laws.{EmbedsAlike, EmbedsFirstAt, LeastAlike}
use Rattle.lmn_adequacy_heaps.specs.Premises.{HasForest}
use Rattle.lmn_adequacy_heaps.specs.Numbers.{numbers_left}
use Rattle.lmn_adequacy_heaps.proofs.Results.{root_forest}
use Rattle.lmn_adequacy_heaps.proofs.Wholes.{closed_heap, all_accepted}
use Rattle.lmn_schedule_strategy.specs.Choosing.{CodeSucceeds}
use Rattle.lmn_schedule_strategy.specs.Turns.{HoldsRestsOf}
use Rattle.lmn_adequacy_turns.specs.Commits.{IsTable, Turned, TurnsCommit}
use Rattle.lmn_adequacy_turns.specs.Turning.{Leads, renumbered_reading}
use Rattle.lmn_adequacy_choices.specs.Laws.{ChoicesAgree, ChoicesAlike, HeapsAreNumbered}
use Rattle.lmn_adequacy_choices.specs.Turns.{tree_over, membranes_in_preorder, heap_region, HaveCodes, IsReadWith, IsChosen, IsChoice, IsNextHeap}
use Rattle.lmn_adequacy_choices.proofs.Codes.{Coded, coded, embedded_succeeds}
use Rattle.lmn_adequacy_turns.proofs.PlanTypes.{plan_types}
use Rattle.lmn_adequacy_choices.proofs.Lists.{got_front, cut_at, each_among}
use Rattle.lmn_adequacy_choices.proofs.Numbers.{numbered_alike}
use Rattle.lmn_adequacy_choices.proofs.Paths.{forest_there, leads_to_one}
use Rattle.lmn_adequacy_choices.proofs.Placed.{AtEnd, at_end, at_path}
use Rattle.lmn_adequacy_choices.proofs.Renumbering.{table_as}
use Rattle.lmn_adequacy_choices.proofs.RestsHeld.{RestsOfRule}
use Rattle.lmn_store_heap.proofs.Common.{in_at as got_in}
use Rattle.lmn_base.specs.Lists.{In}
use Rattle.lmn_schedule_strategy.proofs.Lulling.{in_drop_take}

module _ (table : List RuleTree) (plans : List GuardPlan) (codes : List Code) (c : HaveCodes table plans codes) (h : Heap) (r : HeapReading) (inner : Forest) (w : IsReadWith h r inner table)
    (from : ℕ) (code : Code) (s : Registers) (ch : IsChosen from codes h inner code s) where
  abbrev m : ℕ
  m = ch.membrane

  -- the rule that is chosen
  pub rule_of : Coded r table plans codes ch.number
  rule_of = coded h r table plans codes c w.rules m ch.number (got_in (rules_in h m) ch.place ch.number ch.chosen.rule.stands)

  pub code_of : code ≡ rule_of.code
  code_of = same_Some code rule_of.code (sym ch.is ∙ rule_of.code_is)

  pub first_of : IsFirstSuccess h (rule_head_code rule_of.rule rule_of.plan) m s.head
  first_of = subst (λ z. IsFirstSuccess h z m s.head) (ap (λ z. z.head) code_of ∙ rule_of.head) ch.first

  -- what is left in its membranes with closed contexts
  pub rests_held : RestsOfRule → HoldsRests h s (head_items rule_of.rule rule_of.plan)
  rests_held law = law table rule_of.rule rule_of.plan rule_of.whole h w.read.valid m s first_of (subst (λ z. HoldsRestsOf h z s) (ap (λ z. z.head) code_of ∙ rule_of.head) ch.rests)

  -- its membrane
  pub inside : In m (membranes_in_preorder h inner)
  inside = in_drop_take (membranes_in_preorder h inner) from m (subst (In m) (sym ch.chosen.order) (in_here m ch.chosen.earlier ch.chosen.later))

  pub forest_of : (mi : Forest) × HasForest h m mi
  forest_of = forest_there h (tree_over h inner) (h.root ∷ []) w.tree.forms w.tree.once m inside

  -- the numbers of its images
  abbrev numbers_of : List ℕ
  numbers_of = numbers_left h s.head.images 0 1 [] [] (head_items rule_of.rule rule_of.plan)

  -- an embedding at the end of a path is in a membrane of the heap
  found_at : {path : List ℕ} {j : ℕ} {g : List ℕ} → EmbedsIn path j g (heap_region h r inner) → AtEnd h r path j g h.root
  found_at e = at_end h r e h.root inner (root_forest h inner w.tree) refl

  -- it embeds there first at these numbers
  pub first_there : AcceptedLeast → LeastAlike → EmbedsFirstAt (r.rule ch.number) numbers_of (region_at h r m forest_of.0)
  first_there least_law first_alike =
      let u = rule_of in
      subst (λ z. EmbedsFirstAt z numbers_of (region_at h r m forest_of.0)) (sym u.read)
      ((first_alike h r m forest_of.0 (kind_in u.plan.kinds) u.rule w.read forest_of.1 u.allowed (plan_types table u.rule u.plan u.whole.ready) numbers_of).0
      (s.head.images, least_law.least table u.rule u.plan h m s.head u.whole.ready w.read.valid first_of, refl))

  module _ (heads : AcceptedHeads) (embeddings : CodeOfEmbeddings) (alike : EmbedsAlike) (least_law : AcceptedLeast) (first_alike : LeastAlike) where
    -- where a rule embeds, its code succeeds
    succeeds_at : {path : List ℕ} {j : ℕ} {g : List ℕ} (z : AtEnd h r path j g h.root) → CodeSucceeds h codes z.membrane z.number
    succeeds_at {path} {j} {g} z = embedded_succeeds heads embeddings alike h r table plans codes c w.read w.rules z.membrane z.forest z.has z.number (got_in (rules_in h z.membrane) j z.number z.stands) g z.embeds

    -- the strategy chooses it
    pub chosen_by : (path : List ℕ) → Leads h m path h.root → ChosenFrom from (heap_region h r inner) path ch.place numbers_of
    chosen_by path l =
        let R : List ℕ → ℕ → Type 0 = λ p x. Leads h x p h.root in
        let S = heap_region h r inner in
        let numbers = numbered_alike h r inner w.tree in
        let cut = cut_at R ch.chosen.earlier m ch.chosen.later (numbers.asked from) ch.chosen.order in
        let same : cut.at ≡ path = numbers.one m cut.at path cut.here l in
        let first = first_there least_law first_alike in
        record {
          embeds = at_path h r ch.place ch.number numbers_of l inner forest_of.0 (root_forest h inner w.tree) forest_of.1 ch.chosen.rule.stands first.0;
          earlier = cut.earlier;
          later = cut.later;
          order = subst (λ p. asked_paths from S ≡ cut.earlier ++ (p ∷ cut.later)) same cut.order;
          first_membrane = λ p a j g e.
              let x = each_among R cut.each p a in
              let z = found_at e in
              let one : x.0 ≡ z.membrane = leads_to_one x.2 z.leads in
              ch.chosen.none z.membrane (subst (λ y. In y ch.chosen.earlier) one x.1) z.number (got_in (rules_in h z.membrane) j z.number z.stands) (succeeds_at z);
          first_rule = λ j k g e.
              let z = found_at e in
              let one : z.membrane ≡ m = leads_to_one z.leads l in
              ch.chosen.rule.earlier z.number (got_front (rules_in h m) ch.place j z.number k (subst (λ y. slice_get (rules_in h y) j ≡ Some z.number) one z.stands))
              (subst (λ y. CodeSucceeds h codes y z.number) one (succeeds_at z));
          least = λ g e.
              let z = found_at e in
              let one : z.membrane ≡ m = leads_to_one z.leads l in
              let there : slice_get (rules_in h m) ch.place ≡ Some z.number = subst (λ y. slice_get (rules_in h y) ch.place ≡ Some z.number) one z.stands in
              let number : z.number ≡ ch.number = same_Some z.number ch.number (sym there ∙ ch.chosen.rule.stands) in
              let forest : z.forest ≡ forest_of.0 = forms_one h z.forest forest_of.0 (mems_in h m) (subst (λ y. HasForest h y z.forest) one z.has).forms forest_of.1.forms in
              first.1 g (subst (λ k. EmbedsAt (r.rule k) g (region_at h r m forest_of.0)) number
              (subst (λ f. EmbedsAt (r.rule z.number) g (region_at h r m f)) forest (subst (λ y. EmbedsAt (r.rule z.number) g (region_at h r y z.forest)) one z.embeds)));
        }

    pub choice_is : EmbeddingsFire → NumberingExists → RenamedNext → IsChoice from h r inner m ch.place
    choice_is fire exists renaming =
        let R : List ℕ → ℕ → Type 0 = λ p x. Leads h x p h.root in
        let S = heap_region h r inner in
        let numbers = numbered_alike h r inner w.tree in
        let cut = cut_at R ch.chosen.earlier m ch.chosen.later (numbers.asked from) ch.chosen.order in
        let chosen = chosen_by cut.at cut.here in
        let after = (fire cut.at numbers_of ch.place S (closed_heap h r inner w.read w.tree) (all_accepted h r table w.rules h.root inner)).0 chosen.embeds in
        let z = exists after.0 in
        record {
          path = cut.at;
          positions = numbers_of;
          leads = cut.here;
          chosen = chosen;
          has_next = (z.0, record { path = cut.at; number = ch.place; positions = numbers_of; chosen = chosen; next = renaming cut.at numbers_of ch.place S after.0 z.0 after.1 z.1 }, z.2);
        }

    -- A turn of the chosen rule leaves the next heap.
    next_heap : HeapsAreNumbered → RenamedNext → FiringsCommit → IsTable r table → (h' : Heap) → Turned table h r inner rule_of.rule m ch.place numbers_of h' → IsNextHeap from h r inner table h'
    next_heap numbering renaming commits tab h' t =
        let S = heap_region h r inner in
        let r' = renumbered_reading r t.next.again.number in
        let z = numbering h' r' t.next.again.forest table (record { read = t.next.again.read; tree = t.next.again.tree; rules = t.rules tab }) in
        let S' = heap_region h' (renumbered_reading r z.number) t.next.again.forest in
        let next = renaming t.next.path numbers_of ch.place S (heap_region h' r' t.next.again.forest) S' t.next.next z.renamed in
        record {
          number = z.number;
          forest = t.next.again.forest;
          again = z.again;
          of_table = table_as r z.number table tab;
          numbered = z.numbered;
          next = record { path = t.next.path; number = ch.place; positions = numbers_of; chosen = chosen_by t.next.path t.next.leads; next = next };
          commit = commits S S' (closed_heap h r inner w.read w.tree) (all_accepted h r table w.rules h.root inner) (record { path = t.next.path; number = ch.place; positions = numbers_of; next = next });
        }

    pub run_is_next : HeapsAreNumbered → RenamedNext → FiringsCommit → TurnsCommit → RestsOfRule → IsTable r table → (h' : Heap) → RunsBody s code.body h h' → IsNextHeap from h r inner table h'
    run_is_next numbering renaming commits turns rests tab h' runs =
        let u = rule_of in
        next_heap numbering renaming commits tab h' (turns table u.rule u.plan u.whole h r inner w.read w.tree w.rules m forest_of.0
        (is_mem h w.read.valid.sound (tree_over h inner) w.tree m inside) forest_of.1 ch.place ch.number ch.chosen.rule.stands u.is s first_of (rests_held rests) h'
        (subst (λ z. RunsBody s z h h') (ap (λ z. z.body) code_of ∙ u.body) runs))

-- what is chosen by code is chosen by the calculus
pub choices_alike : AcceptedHeads → CodeOfEmbeddings → EmbedsAlike → AcceptedLeast → LeastAlike → EmbeddingsFire → NumberingExists → RenamedNext → ChoicesAlike
choices_alike heads embeddings alike least_law first_alike fire exists renaming table plans codes c h r inner w from code s ch =
    choice_is table plans codes c h r inner w from code s ch heads embeddings alike least_law first_alike fire exists renaming

-- and the run of its body code leaves the next heap
pub choices_agree : AcceptedHeads → CodeOfEmbeddings → EmbedsAlike → AcceptedLeast → LeastAlike → HeapsAreNumbered → RenamedNext → FiringsCommit → TurnsCommit → RestsOfRule → ChoicesAgree
choices_agree heads embeddings alike least_law first_alike numbering renaming commits turns rests table plans codes c h r inner w tab from code s ch h' runs =
    run_is_next table plans codes c h r inner w from code s ch heads embeddings alike least_law first_alike numbering renaming commits turns rests tab h' runs
