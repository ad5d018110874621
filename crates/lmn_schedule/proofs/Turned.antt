-- What a turn by code leaves is what a turn of the calculus leaves.
use Rattle.std.proofs.Common.{ℕ, zero, suc, ◌≡◌, ◌<◌, ◌≤◌, List, [], ◌∷◌, length, Some, true, refl, ap, sym, subst, ◌∙◌, inl, inr, arith}
use Rattle.std.specs.Prelude.{slice_get}
use Rattle.std.proofs.lemmas.Option.{same_Some}
use Rattle.lmn_base.specs.declared.rule.RuleTree.{RuleTree}
use Rattle.lmn_guards.specs.declared.plan.GuardPlan.{GuardPlan}
use Rattle.lmn_store_heap.specs.Heap.{Heap, rules_in}
use Rattle.lmn_store_heap.proofs.Trees.{in_here}
use Rattle.lmn_store_heap.specs.Sound.{Forest, bare, mem, Valid, IsTree, flat}
use Rattle.lmn_instr_code.specs.declared.instr.Code.{Code}
use Rattle.lmn_congruence.specs.Regions.{Region, region_process}
use Rattle.lmn_congruence.specs.Rules.{Name}
use Rattle.lmn_reduction.specs.Commits.{Commit, Irreducible as NothingLeft}
use Rattle.lmn_adequacy.specs.Choice.{NextFrom, paths}
use Rattle.lmn_adequacy.specs.Embedding.{HasEmbedding}
use Rattle.lmn_adequacy.specs.Numbered.{IsNumbered}
use Rattle.lmn_adequacy.specs.Runs.{Chooser, Turn as Chosen}
use Rattle.lmn_solid_bodies.specs.Running.{RunsBody}
use Rattle.lmn_adequacy_turns.specs.Turning.{renumbered_reading}
use Rattle.lmn_adequacy_choices.specs.Laws.{MarksAreNotRead, MembranesAreNumberedAlike, NothingEmbeds, TurnsAgree, TurnsAreAlike, SparesAreNotRead, TurnsAreOfChooser}
use Rattle.lmn_adequacy_choices.specs.Turns.{HaveCodes, IsChosen, IsReadWith, heap_region, membranes_in_preorder, tree_over}
use Rattle.lmn_schedule_strategy.specs.Choosing.{NoneIn, IsFirstIn, asked}
use Rattle.lmn_schedule_sleep.specs.Quiet.{SameButMarks}
use Rattle.lmn_schedule_strategy.specs.Turns.{Chooses, IsAwakeTurn}
use Rattle.lmn_schedule_strategy.specs.declared.turning.Turn.{Turn}
use Rattle.lmn_schedule_strategy.specs.declared.turning.Turn.TheVariants.{Committed, Irreducible, Full, NoMemory}
use Rattle.lmn_schedule.specs.Held.{HoldsRegion, reading_by}
use Rattle.lmn_schedule.specs.Turning.{IsDone, IsTurned, KeepsHeap}
use Rattle.lmn_adequacy_turns.proofs.Leavings.{root_tree}
use Rattle.lmn_base.specs.Lists.{In}
use Rattle.lmn_base.proofs.Lists.{plus_nothing}

-- the root is among the membranes of a valid heap
pub some_membrane : (h : Heap) → Valid h → (many : ℕ) → ((f : Forest) → IsTree h f → many ≡ length (flat f)) → 0 < many
some_membrane h v many law =
    let root = root_tree h v.tree.0 v.tree.1 in
    let counted : many ≡ length (flat (tree_over h root.0)) = law (tree_over h root.0) (subst (IsTree h) root.1 v.tree.1) in
    omega (arith, counted)

-- what a turn leaves of the heap where nothing is committed
pub kept_heap : (h h' : Heap) (codes : List Code) (f : Forest) (from size : ℕ) (answer : Turn) → IsAwakeTurn true h codes f from size answer h' → KeepsHeap answer h h'
kept_heap h h' codes f from size Committed t = tt
kept_heap h h' codes f from size Irreducible t = t.1.alike
kept_heap h h' codes f from size Full t = subst (SameButMarks h) (sym t.1.answered.1) t.2.alike
kept_heap h h' codes f from size NoMemory t = (t.0, t.2.alike, t.1.answered.1)

-- a solid that a heap holds has as many paths as the heap has membranes
pub as_many_paths : MembranesAreNumberedAlike → (names : List Name) (table : List RuleTree) (h : Heap) (S : Region) (o : HoldsRegion names table h S) → length (paths S) ≡ length (membranes_in_preorder h o.inner)
as_many_paths law names table h S o =
    subst (λ X. length (paths X) ≡ length (membranes_in_preorder h o.inner)) (sym o.is) (law h (reading_by names table o.number) o.inner o.tree).many

module _ (names : List Name) (table : List RuleTree) (c : Chooser) (n size : ℕ) (plans : List GuardPlan) (codes : List Code) where
  read_with : (h : Heap) (S : Region) (o : HoldsRegion names table h S) → IsReadWith h (reading_by names table o.number) o.inner table
  read_with h S o = record { read = o.read; tree = o.tree; rules = o.rules }

  -- where no code succeeds, nothing can happen in the solid
  pub done : TurnsAreAlike → HaveCodes table plans codes → (h : Heap) (S : Region) (o : HoldsRegion names table h S) → NoneIn h codes (membranes_in_preorder h o.inner) → IsDone S
  done alike have h S o none =
      let agree = alike table plans codes have h (reading_by names table o.number) o.inner (read_with h S o) o.keeps 0 in
      let both = agree.none none in record {
        nothing_embeds = λ e. both.0 (subst HasEmbedding o.is e);
        irreducible = subst (λ X. NothingLeft (region_process X)) (sym o.is) both.1;
      }

  -- where one is chosen, a rule embeds
  pub embeds : NothingEmbeds → HaveCodes table plans codes → (h : Heap) (S : Region) (o : HoldsRegion names table h S) → (m place k : ℕ) → IsFirstIn h codes (asked 0 (tree_over h o.inner)) m place k → HasEmbedding S
  embeds law have h S o m place k c =
      let e = law table plans codes have h (reading_by names table o.number) o.inner (read_with h S o) in
      let there : In m (membranes_in_preorder h o.inner) = subst (In m) (sym c.order ∙ plus_nothing (membranes_in_preorder h o.inner)) (in_here m c.earlier c.later) in
      subst HasEmbedding (sym o.is) (e.some m k there (listed (rules_in h m) place k c.rule.stands) c.rule.succeeds)
    where
      listed : (xs : List ℕ) (i k : ℕ) → slice_get xs i ≡ Some k → In k xs
      listed [] zero k e = absurd (cc e)
      listed [] (suc i) k e = absurd (cc e)
      listed (x ∷ xs) zero k e = inl (same_Some x k e)
      listed (x ∷ xs) (suc i) k e = inr (listed xs i k e)

  -- a heap with other marks of its membranes holds the same solid
  on_marks : MarksAreNotRead → (h k : Heap) → SameButMarks h k → Valid h → (S : Region) → HoldsRegion names table h S → HoldsRegion names table k S
  on_marks law h k e v S o =
      let same = law h k (reading_by names table o.number) o.inner table e v (read_with h S o) in
      record { number = o.number; inner = o.inner; read = same.0.read; tree = same.0.tree; rules = same.0.rules; keeps = o.keeps; is = o.is ∙ sym same.1; numbered = o.numbered }

  module _ (alike : TurnsAreAlike) (of_chooser : TurnsAreOfChooser) (spares : SparesAreNotRead) (marks : MarksAreNotRead) (have : HaveCodes table plans codes) where
    -- h is the heap before membranes fell asleep, s the one after
    module _ (h s : Heap) (valid : Valid h) (fell : SameButMarks h s) (S : Region) (o : HoldsRegion names table h S) (from : ℕ) (first : from ≡ c n (length (membranes_in_preorder h o.inner))) where
      abbrev held : HoldsRegion names table s S
      held =
          let same = marks h s (reading_by names table o.number) o.inner table fell valid (read_with h S o) in
          record { number = o.number; inner = o.inner; read = same.0.read; tree = same.0.tree; rules = same.0.rules; keeps = o.keeps; is = o.is ∙ sym same.1; numbered = o.numbered }

      abbrev the_agreement : TurnsAgree table plans codes from s (reading_by names table o.number) o.inner
      the_agreement = alike table plans codes have s (reading_by names table o.number) o.inner (record { read = (held).read; tree = (held).tree; rules = (held).rules }) o.keeps from

      same_tree : tree_over h o.inner ≡ tree_over s o.inner
      same_tree = ap (λ r. mem r o.inner bare) (sym fell.root)

      -- a next region that is numbered comes by a turn
      turn_to : (S' : Region) → NextFrom from (heap_region s (reading_by names table o.number) o.inner) S' → IsNumbered S' → Chosen c n S S'
      turn_to S' next numbered =
          let first_now : from ≡ c n (length (membranes_in_preorder s o.inner)) = first ∙ ap (λ f. c n (length (flat f))) (same_tree) in
          subst (λ X. Chosen c n X S') (sym (held).is) (of_chooser c n s (reading_by names table o.number) o.inner (held).tree S' (subst (λ k. NextFrom k (heap_region s (reading_by names table o.number) o.inner) S') first_now next) numbered)

      chosen_so : (answer : Turn) (h' : Heap) (t : Chooses s codes (asked from (tree_over h o.inner)) size answer h') → IsChosen from codes s o.inner t.code t.registers
      chosen_so answer h' t = record { membrane = t.membrane; place = t.place; number = t.rule; chosen = subst (λ f. IsFirstIn s codes (asked from f) t.membrane t.place t.rule) (same_tree) t.chosen; is = t.is; first = t.first; rests = t.rests }

      committed : (h' : Heap) → Chooses s codes (asked from (tree_over h o.inner)) size Committed h' → IsTurned names table c size n S Committed h'
      committed h' t =
          let chosen = chosen_so Committed h' t in
          let done = t.answered.1 in
          let runs : RunsBody t.registers t.code.body s done.after = (done.prepared, done.prepares, done.does) in
          let next = (the_agreement).next t.code t.registers chosen done.after runs in
          let S' = heap_region done.after (renumbered_reading (reading_by names table o.number) next.number) next.forest in
          let holds : HoldsRegion names table done.after S' = record { number = λ a i. next.number (a, i); inner = next.forest; read = next.again.read; tree = next.again.tree; rules = next.again.rules; keeps = next.of_table; is = refl; numbered = next.numbered } in (
            S',
            record { turn = turn_to S' next.next next.numbered; commit = subst (λ X. Commit (region_process X) (region_process S')) (sym (held).is) next.commit },
            subst (λ k. k ≤ size) (sym ((the_agreement).items t.code t.registers chosen done.after runs next t.left t.leaves)) t.answered.0,
            on_marks marks done.after h' done.alike next.again.read.valid S' holds,
          )

      filled : (h' : Heap) → Chooses s codes (asked from (tree_over h o.inner)) size Full h' → IsTurned names table c size n S Full h'
      filled h' t =
          let told = (the_agreement).told t.code t.registers (chosen_so Full h' t) t.left t.leaves in
          ((told.0, turn_to told.0 told.1 told.2, subst (λ k. size < k) (sym told.3) t.answered.0), subst (λ k. HoldsRegion names table k S) (sym t.answered.1) held)

      wanting : (h' : Heap) → Valid h' → Chooses s codes (asked from (tree_over h o.inner)) size NoMemory h' → IsTurned names table c size n S NoMemory h'
      wanting h' v t =
          let told = (the_agreement).told t.code t.registers (chosen_so NoMemory h' t) t.left t.leaves in
          let same = spares s h' (reading_by names table o.number) o.inner table t.answered.1 v (record { read = (held).read; tree = (held).tree; rules = (held).rules }) in
          let holds : HoldsRegion names table h' S = record { number = o.number; inner = o.inner; read = same.0.read; tree = same.0.tree; rules = same.0.rules; keeps = o.keeps; is = (held).is ∙ sym same.1; numbered = o.numbered } in
          ((told.0, turn_to told.0 told.1 told.2, subst (λ k. k ≤ size) (sym told.3) t.answered.0), holds)

    -- what a turn leaves
    pub turned : (h : Heap) → Valid h → (S : Region) (o : HoldsRegion names table h S) (from : ℕ) → from ≡ c n (length (membranes_in_preorder h o.inner)) → (answer : Turn) (h' : Heap) → Valid h' →
        IsAwakeTurn true h codes (tree_over h o.inner) from size answer h' → IsTurned names table c size n S answer h'
    turned h valid S o from first Committed h' v t = committed h t.0 valid t.2.alike S o from first h' t.1
    turned h valid S o from first Irreducible h' v t = (done alike have h S o t.0, on_marks marks h h' t.1.alike valid S o)
    turned h valid S o from first Full h' v t = filled h t.0 valid t.2.alike S o from first h' t.1
    turned h valid S o from first NoMemory h' v t = wanting h t.0 valid t.2.alike S o from first h' v t.1
