-- What a turn by the codes of a table is in the calculus, where the root is asked first.
use Rattle.std.proofs.Common.{ℕ, ◌<◌, ◌≤◌, List, refl, sym, subst, ◌∙◌}
use Rattle.lmn_base.specs.declared.rule.RuleTree.{RuleTree}
use Rattle.lmn_guards.specs.declared.plan.GuardPlan.{GuardPlan}
use Rattle.lmn_store_heap.specs.Heap.{Heap}
use Rattle.lmn_store_heap.specs.Sound.{Valid}
use Rattle.lmn_instr_code.specs.declared.instr.Code.{Code}
use Rattle.lmn_congruence.specs.Regions.{Region, region_process}
use Rattle.lmn_congruence.specs.Rules.{Name}
use Rattle.lmn_reduction.specs.Commits.{Commit, Irreducible as NothingLeft}
use Rattle.lmn_adequacy.specs.Embedding.{HasEmbedding}
use Rattle.lmn_adequacy.specs.Runs.{Chooser, Turn as Chosen}
use Rattle.lmn_adequacy_turns.specs.Turning.{renumbered_reading}
use Rattle.lmn_solid_bodies.specs.Running.{RunsBody}
use Rattle.lmn_adequacy_choices.specs.Laws.{MarksAreNotRead, NothingEmbeds, TurnsAgree, TurnsAreAlike, SparesAreNotRead, TurnsAreOfChooser}
use Rattle.lmn_adequacy_choices.specs.Turns.{HaveCodes, IsChosen, IsReadWith, heap_region, membranes_in_preorder, tree_over}
use Rattle.lmn_schedule_strategy.specs.Choosing.{NoneIn}
use Rattle.lmn_schedule_strategy.specs.Turns.{IsTurn}
use Rattle.lmn_schedule_strategy.specs.declared.turning.Turn.{Turn}
use Rattle.lmn_schedule_strategy.specs.declared.turning.Turn.TheVariants.{Committed, Full, NoMemory}
use Rattle.lmn_schedule_sleep.specs.Quiet.{SameButMarks}
use Rattle.lmn_schedule.specs.Held.{HoldsRegion, reading_by}
use Rattle.lmn_schedule.specs.Turning.{IsDone, IsTurned}
use Rattle.lmn_verify_coded.specs.Turning.{SomeIn}

-- the chooser that always asks the root first
abbrev pub root_first : Chooser
root_first = λ commits membranes. 0

-- a heap with other marks of its membranes holds the same solid
pub on_marks : (names : List Name) (table : List RuleTree) → MarksAreNotRead → (h k : Heap) → SameButMarks h k → Valid h → (S : Region) → HoldsRegion names table h S → HoldsRegion names table k S
on_marks names table law h k e v S o =
    let same = law h k (reading_by names table o.number) o.inner table e v (record { read = o.read; tree = o.tree; rules = o.rules }) in
    record { number = o.number; inner = o.inner; read = same.0.read; tree = same.0.tree; rules = same.0.rules; keeps = o.keeps; is = o.is ∙ sym same.1; numbered = o.numbered }

module _ (names : List Name) (table : List RuleTree) (plans : List GuardPlan) (codes : List Code) (have : HaveCodes table plans codes) (n size : ℕ) (h : Heap) (S : Region) (o : HoldsRegion names table h S) where
  read_with : IsReadWith h (reading_by names table o.number) o.inner table
  read_with = record { read = o.read; tree = o.tree; rules = o.rules }

  -- where some code succeeds, a rule embeds
  pub embeds : NothingEmbeds → SomeIn h codes (membranes_in_preorder h o.inner) → HasEmbedding S
  embeds law s = subst HasEmbedding (sym o.is) ((law table plans codes have h (reading_by names table o.number) o.inner read_with).some s.membrane s.rule s.among s.stands s.succeeds)

  module _ (alike : TurnsAreAlike) where
    abbrev agree : TurnsAgree table plans codes 0 h (reading_by names table o.number) o.inner
    agree = alike table plans codes have h (reading_by names table o.number) o.inner read_with o.keeps 0

    -- where none succeeds, nothing can happen
    pub done : NoneIn h codes (membranes_in_preorder h o.inner) → IsDone S
    done none =
        let both = (agree).none none in
        record { nothing_embeds = λ e. both.0 (subst HasEmbedding o.is e); irreducible = subst (λ X. NothingLeft (region_process X)) (sym o.is) both.1 }

    module _ (of_chooser : TurnsAreOfChooser) where
      -- what is chosen by code, and what the turn leaves
      abbrev Code_chooses : Turn → Heap → Type 0
      Code_chooses answer h' = IsTurn h codes (tree_over h o.inner) 0 size answer h'

      pub committed : MarksAreNotRead → (h' : Heap) → Code_chooses Committed h' → IsTurned names table root_first size n S Committed h'
      committed marks h' t =
          let chosen : IsChosen 0 codes h o.inner t.code t.registers = record { membrane = t.membrane; place = t.place; number = t.rule; chosen = t.chosen; is = t.is; first = t.first; rests = t.rests } in
          let does = t.answered.1 in
          let runs : RunsBody t.registers t.code.body h does.after = (does.prepared, does.prepares, does.does) in
          let next = (agree).next t.code t.registers chosen does.after runs in
          let S' = heap_region does.after (renumbered_reading (reading_by names table o.number) next.number) next.forest in
          let holds : HoldsRegion names table does.after S' = record { number = λ a i. next.number (a, i); inner = next.forest; read = next.again.read; tree = next.again.tree; rules = next.again.rules; keeps = next.of_table; is = refl; numbered = next.numbered } in (
            S',
            record {
              turn = subst (λ X. Chosen root_first n X S') (sym o.is) (of_chooser root_first n h (reading_by names table o.number) o.inner o.tree S' next.next next.numbered);
              commit = subst (λ X. Commit (region_process X) (region_process S')) (sym o.is) next.commit;
            },
            subst (λ k. k ≤ size) (sym ((agree).items t.code t.registers chosen does.after runs next t.left t.leaves)) t.answered.0,
            on_marks names table marks does.after h' does.alike next.again.read.valid S' holds,
          )

      pub full : (h' : Heap) → Code_chooses Full h' → IsTurned names table root_first size n S Full h'
      full h' t =
          let chosen : IsChosen 0 codes h o.inner t.code t.registers = record { membrane = t.membrane; place = t.place; number = t.rule; chosen = t.chosen; is = t.is; first = t.first; rests = t.rests } in
          let told = (agree).told t.code t.registers chosen t.left t.leaves in (
            (
              told.0,
              subst (λ X. Chosen root_first n X told.0) (sym o.is) (of_chooser root_first n h (reading_by names table o.number) o.inner o.tree told.0 told.1 told.2),
              subst (λ k. size < k) (sym told.3) t.answered.0,
            ),
            subst (λ k. HoldsRegion names table k S) (sym t.answered.1) o,
          )

      pub no_memory : SparesAreNotRead → (h' : Heap) → Valid h' → Code_chooses NoMemory h' → IsTurned names table root_first size n S NoMemory h'
      no_memory spares h' v t =
          let chosen : IsChosen 0 codes h o.inner t.code t.registers = record { membrane = t.membrane; place = t.place; number = t.rule; chosen = t.chosen; is = t.is; first = t.first; rests = t.rests } in
          let told = (agree).told t.code t.registers chosen t.left t.leaves in
          let same = spares h h' (reading_by names table o.number) o.inner table t.answered.1 v read_with in
          let holds : HoldsRegion names table h' S = record { number = o.number; inner = o.inner; read = same.0.read; tree = same.0.tree; rules = same.0.rules; keeps = o.keeps; is = o.is ∙ sym same.1; numbered = o.numbered } in (
            (
              told.0,
              subst (λ X. Chosen root_first n X told.0) (sym o.is) (of_chooser root_first n h (reading_by names table o.number) o.inner o.tree told.0 told.1 told.2),
              subst (λ k. k ≤ size) (sym told.3) t.answered.0,
            ),
            holds,
          )
