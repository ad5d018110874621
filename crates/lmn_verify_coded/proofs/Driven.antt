-- A run of the codes of a table is a run of its rules.
use Rattle.std.proofs.Common.{ℕ, ◌≡◌, ◌<◌, ◌≤◌, ◌++◌, List, [], Option, false, refl, sym, ap, subst, ◌∙◌, inl, inr, arith}
use Rattle.lmn_store_heap.specs.Heap.{Heap}
use Rattle.lmn_store_heap.specs.Sound.{Valid, flat}
use Rattle.lmn_store_heap.proofs.Calls.{one_tree}
use Rattle.lmn_io.specs.Taking.{Takes, TakesPrefix}
use Rattle.lmn_io.proofs.TakingLemmas.{takes_nothing}
use Rattle.lmn_congruence.specs.Regions.{Region}
use Rattle.lmn_adequacy_choices.specs.Laws.{MarksAreNotRead, NothingEmbeds, TurnsAreAlike, SparesAreNotRead, TurnsAreOfChooser}
use Rattle.lmn_adequacy_choices.specs.Turns.{HaveCodes, tree_over}
use Rattle.lmn_schedule_strategy.specs.Turns.{IsTurn}
use Rattle.lmn_schedule_strategy.specs.declared.turning.Turn.{Turn}
use Rattle.lmn_schedule_strategy.specs.declared.turning.Turn.TheVariants as answer
use Rattle.lmn_schedule_strategy.proofs.Lulling.{tree_alike}
use Rattle.lmn_print.specs.Laws.{OneHeapLine}
use Rattle.lmn_print.specs.Lines.{IsHeapLine}
use Rattle.lmn_app_runs.specs.Runs.{end_line, word_of_stop}
use Rattle.lmn_schedule.specs.Held.{EngineCanTurn, HoldsRegion}
use Rattle.lmn_schedule.specs.Turning.{IsDone}
use Rattle.lmn_app_drive.specs.declared.driving.RunEnd.TheVariants.{Failed}
use Rattle.lmn_app_drive.specs.Driving.{Drove, Going, IsRestOf, RunInput, stop_end}
use Rattle.lmn_app_drive.proofs.Goings.{broken_off, concluded, going_first, going_more, stops_budget, stops_full, stops_irreducible, stops_no_memory}
use Rattle.lmn_app_runs.specs.declared.stop.Stop.{Stop}
use Rattle.lmn_app_runs.specs.declared.stop.Stop.TheVariants as stop
use Rattle.lmn_verify_coded.specs.Turning.{SomeIn}
use Rattle.lmn_verify_coded.specs.Runs.{CodedInput, CodedRun, CodedTurn, CodesStopBy, begun, turned}
use Rattle.lmn_verify_coded.specs.Laws.{TablesRunAsRules, given_by_codes}
use Rattle.lmn_verify_coded.proofs.Stopping.{last_line, last_valid}
use Rattle.lmn_verify_coded.proofs.Turned.{committed, done, embeds, full, no_memory, on_marks}

module _ (alike : TurnsAreAlike) (of_chooser : TurnsAreOfChooser) (spares : SparesAreNotRead) (marks : MarksAreNotRead) (law : NothingEmbeds) (lines : OneHeapLine)
    (g : CodedInput) (S : Region) (can : EngineCanTurn g.first g.table g.codes g.size) (held : HoldsRegion g.names g.table g.first S) where
  abbrev input : RunInput
  input = given_by_codes g S

  abbrev have : HaveCodes g.table can.plans g.codes
  have = record { whole = can.whole; compiled = can.compiled }

  -- where some have fallen asleep the heap holds the solid that it held
  lulled_held : (h : Heap) (T : Region) → HoldsRegion g.names g.table h T → (a : Turn) (h' : Heap) (t : CodedTurn g.codes g.size h a h') → HoldsRegion g.names g.table t.lulled T
  lulled_held h T o a h' t = on_marks g.names g.table marks h t.lulled t.alike o.read.valid T o

  -- a turn is made over the tree of that solid
  over_tree : (h : Heap) (a : Turn) (h' : Heap) (t : CodedTurn g.codes g.size h a h') (T : Region) (o : HoldsRegion g.names g.table t.lulled T) → IsTurn t.lulled g.codes (tree_over t.lulled o.inner) 0 g.size a h'
  over_tree h a h' t T o =
      subst (λ f. IsTurn t.lulled g.codes f 0 g.size a h') (one_tree t.lulled t.tree (tree_over t.lulled o.inner) (tree_alike h t.lulled t.alike t.tree t.is_tree) o.tree) t.turn

  -- no line is written before the end
  nothing : (old : Option (List ℕ)) (bytes : List ℕ) → bytes ≡ [] → Takes bytes old old
  nothing old bytes e = subst (λ b. Takes b old old) (sym e) (takes_nothing old)

  -- the run so far
  going : (old : Option (List ℕ)) (n : ℕ) (h : Heap) → CodedRun g.codes g.size g.first n h → n ≤ g.budget → Going input n h old old
  going old n h begun within = going_first input 0 g.first old old refl held (nothing old)
  going old n h (turned {n = m} {h' = k} {h'' = h'} run t v) within =
      let before = going old m k run (omega (arith, within)) in
      let o = lulled_held k before.ran.last before.ran.holds answer.Committed h' t in
      let below : m < g.budget = omega (arith, within) in
      going_more input m k h' old old before below
      (committed g.names g.table can.plans g.codes have m g.size t.lulled before.ran.last o alike of_chooser marks h' (over_tree k answer.Committed h' t before.ran.last o)) old (nothing old)

  module _ (n : ℕ) (last h' : Heap) (old new : Option (List ℕ)) (v : Valid h') (line : List ℕ) (is_line : IsHeapLine false g.names g.table last line) (run : CodedRun g.codes g.size g.first n last) (before : (l : List ℕ) → IsHeapLine false g.names g.table h' l → IsHeapLine false g.names g.table last l) where
    -- the text is the line that was written, and the end line
    text_is : (word bytes : List ℕ) → IsRestOf false false g.names g.table h' word n bytes → line ++ end_line word n ≡ bytes
    text_is word bytes is = ap (λ l. l ++ end_line word n) (lines false g.names g.table last line is.last (last_valid g.codes g.size g.first can.turn.valid n last run) is_line (before is.last is.is_line)) ∙ sym is.is

    all : (word bytes : List ℕ) → Takes (line ++ end_line word n) old new → IsRestOf false false g.names g.table h' word n bytes → Takes bytes old new
    all word bytes took is = subst (λ b. Takes b old new) (text_is word bytes is) took

    part : (word bytes : List ℕ) → TakesPrefix (line ++ end_line word n) old new → IsRestOf false false g.names g.table h' word n bytes → TakesPrefix bytes old new
    part word bytes took is = subst (λ b. TakesPrefix b old new) (text_is word bytes is) took

    -- each end, where all was written, and where a part was
    abbrev Ends : Stop → Type 0
    Ends why = (Takes (line ++ end_line (word_of_stop why) n) old new → Drove input n h' (stop_end why) old new) × (TakesPrefix (line ++ end_line (word_of_stop why) n) old new → Drove input n h' Failed old new)

    ends : (why : Stop) → CodesStopBy g.codes g.budget g.size n last why h' → Ends why
    ends stop.Irreducible (within, t) =
        let so_far = going old n last run within in
        let o = lulled_held last so_far.ran.last so_far.ran.holds answer.Irreducible h' t in
        let turn = over_tree last answer.Irreducible h' t so_far.ran.last o in
        let is_done : IsDone so_far.ran.last = done g.names g.table can.plans g.codes have n g.size t.lulled so_far.ran.last o alike turn.0 in
        let stopped = stops_irreducible input n last h' old old so_far (is_done, subst (λ k. HoldsRegion g.names g.table k so_far.ran.last) (sym turn.1) o) in (
          (λ took. concluded input n h' _ old old new stopped (λ bytes is. all (word_of_stop stop.Irreducible) bytes took is)),
          (λ took. broken_off input n h' _ old old new stopped (λ bytes is. part (word_of_stop stop.Irreducible) bytes took is)),
        )
    ends stop.Budget (at, some, same) =
        let so_far = going old n last run (omega (arith, at)) in
        let o = so_far.ran.holds in
        let trees = one_tree last some.tree (tree_over last o.inner) some.is_tree o.tree in
        let stopped = stops_budget input n last h' old old so_far same at
        (embeds g.names g.table can.plans g.codes have n g.size last so_far.ran.last o law (subst (λ f. SomeIn last g.codes (flat f)) trees some.some)) in (
          (λ took. concluded input n h' _ old old new stopped (λ bytes is. all (word_of_stop stop.Budget) bytes took is)),
          (λ took. broken_off input n h' _ old old new stopped (λ bytes is. part (word_of_stop stop.Budget) bytes took is)),
        )
    ends stop.Full (below, t) =
        let so_far = going old n last run (omega (arith, below)) in
        let o = lulled_held last so_far.ran.last so_far.ran.holds answer.Full h' t in
        let stopped = stops_full input n last h' old old so_far below
        (full g.names g.table can.plans g.codes have n g.size t.lulled so_far.ran.last o alike of_chooser h' (over_tree last answer.Full h' t so_far.ran.last o)) in (
          (λ took. concluded input n h' _ old old new stopped (λ bytes is. all (word_of_stop stop.Full) bytes took is)),
          (λ took. broken_off input n h' _ old old new stopped (λ bytes is. part (word_of_stop stop.Full) bytes took is)),
        )
    ends stop.NoMemory (below, t) =
        let so_far = going old n last run (omega (arith, below)) in
        let o = lulled_held last so_far.ran.last so_far.ran.holds answer.NoMemory h' t in
        let stopped = stops_no_memory input n last h' old old so_far below
        (no_memory g.names g.table can.plans g.codes have n g.size t.lulled so_far.ran.last o alike of_chooser spares h' v (over_tree last answer.NoMemory h' t so_far.ran.last o)) in (
          (λ took. concluded input n h' _ old old new stopped (λ bytes is. all (word_of_stop stop.NoMemory) bytes took is)),
          (λ took. broken_off input n h' _ old old new stopped (λ bytes is. part (word_of_stop stop.NoMemory) bytes took is)),
        )

-- what is executed of the codes is a run of the rules
pub tables_run_as_rules : TurnsAreAlike → TurnsAreOfChooser → SparesAreNotRead → MarksAreNotRead → NothingEmbeds → OneHeapLine → TablesRunAsRules
tables_run_as_rules alike of_chooser spares marks law lines g S can held n h' end old new v x =
    let both = ends alike of_chooser spares marks law lines g S can held n x.stopped.last h' old new v x.line x.is_line x.stopped.run
    (λ l is. last_line g.codes g.budget g.size n x.stopped.last x.why h' g.names g.table l x.stopped.stops is) x.why x.stopped.stops in
    elim x.wrote [
      | inl w ↦ subst (λ e. Drove (given_by_codes g S) n h' e old new) (sym w.0) (both.0 w.1)
      | inr w ↦ subst (λ e. Drove (given_by_codes g S) n h' e old new) (sym w.0) (both.1 w.1)
    ]
