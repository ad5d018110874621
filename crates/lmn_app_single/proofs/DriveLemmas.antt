-- What a run of an engine wrote is a run of the text that was loaded.
use Rattle.std.proofs.Common.{◌≡◌, ℕ, ◌≤◌, ◌<◌, ◌++◌, Bool, true, false, List, [], ◌∷◌, length, Option, Some, inr, refl, sym, ap, ◌∙◌, subst, arith}
use Rattle.std.specs.List.{concat}
use Rattle.std.specs.declared.alloc.Global.{Global}
use Rattle.std.proofs.lemmas.List.{append-nil, append_assoc}
use Rattle.std.proofs.lemmas.List.Folds.{concat-append}
use Rattle.lmn_base.specs.declared.rule.Plain.{Plain}
use Rattle.lmn_base.specs.declared.solid.Solid.{Solid}
use Rattle.lmn_base.specs.Levels.{links_of}
use Rattle.lmn_base.specs.Links.{EachTwice}
use Rattle.lmn_base.specs.Solids.{item_count}
use Rattle.lmn_base.specs.WellMade.{IsWellMade}
use Rattle.lmn_adequacy.proofs.PlainSolids.{solids_of_plains_exist}
use Rattle.lmn_congruence.specs.Regions.{Region, item_count_of_region}
use Rattle.lmn_congruence.specs.Rules.{Name}
use Rattle.lmn_congruence.specs.SolidsOfPlains.{IsSolidOf}
use Rattle.lmn_congruence.proofs.SolidsOfPlains.{solids_of_plains}
use Rattle.lmn_congruence.proofs.TranslatedItems.{items_kept}
use Rattle.lmn_guards.specs.declared.plan.GuardPlan.{GuardPlan}
use Rattle.lmn_store_heap.specs.Heap.{Heap}
use Rattle.lmn_io.specs.Counts.{FailedLast, Faults, NoneFailed}
use Rattle.lmn_io.proofs.TakingLemmas.{no_put}
use Rattle.lmn_io.specs.Taking.{Takes, TakesPrefix}
use Rattle.lmn_schedule_loading.specs.Loaded.{LoadCauses}
use Rattle.lmn_schedule_loading.specs.declared.loading.LoadFault.TheVariants.{Size}
use Rattle.lmn_order.specs.Orders.{chosen}
use Rattle.lmn_adequacy.specs.Runs.{irreducible, budget_done, full}
use Rattle.lmn_app_drive.specs.declared.driving.RunEnd.{RunEnd}
use Rattle.lmn_app_drive.specs.declared.driving.RunEnd.TheVariants as run
use Rattle.lmn_app_drive.specs.Driving.{Drove, RunInput as Driven, given_by_engine as driven, Ran, stop_end}
use Rattle.lmn_app_drive.specs.Written.{Lines, written}
use Rattle.lmn_app_runs.specs.Laws.{solid_of}
use Rattle.lmn_app_runs.specs.Runs.{LinesOf, StopsSo, end_line, printed, word_of_stop, end_word as driven_word}
use Rattle.lmn_app_runs.specs.declared.stop.Stop.{Stop}
use Rattle.lmn_app_runs.specs.declared.stop.Stop.TheVariants as stop
use Rattle.lmn_app_runs.proofs.TraceLines.{lines_count, lines_with}
use Rattle.lmn_app_words.specs.declared.command.RunSettings.{RunSettings}
use Rattle.lmn_app_single.specs.declared.task.Task.TheVariants as task
use Rattle.lmn_app_single.specs.declared.ending.Ending.TheVariants.{Refused}
use Rattle.lmn_app_single.specs.Outcomes.{Causes, CountsFaults, Ended, Output}
use Rattle.lmn_app_single.specs.Runnings.{ended_as}
use Rattle.lmn_app_single.specs.Runs.{IsTraceOf}
use Rattle.lmn_app_single.specs.Texts.{Accepts, IsTooLarge, at_start, too_large}
use Rattle.lmn_app_single.specs.Writing.{WritesRun, given, run_text}
use Rattle.lmn_app_single.proofs.PlainRegions.{region_is_numbered}
use Rattle.lmn_app_single.proofs.RunLemmas.{Laws, trace_is_run}
use Rattle.lmn_app_reading.proofs.Readings.{well_made}

are_printed : (trace folded : Bool) (before : List Region) (last : Region) (lines : Lines folded before last) →
    LinesOf folded (printed trace before last) (printed trace lines.first_lines lines.last_line)
are_printed true folded before last lines = lines_with folded before last lines.first_lines lines.last_line lines.are_lines lines.is_line
are_printed false folded before last lines = (lines.is_line, tt)

-- what is written, by these lines
written_is : (trace : Bool) (first_lines : List (List ℕ)) (last_line word : List ℕ) →
    written trace first_lines last_line word ≡ concat (printed trace first_lines last_line) ++ end_line word (length first_lines)
written_is true first_lines last_line word =
    let rest = end_line word (length first_lines) in
    sym (ap (λ xs. xs ++ rest) (concat-append first_lines (last_line ∷ []) ∙ ap (λ xs. concat first_lines ++ xs) (append-nil last_line)) ∙ append_assoc (concat first_lines) last_line rest)
written_is false first_lines last_line word = ap (λ xs. xs ++ end_line word (length first_lines)) (sym (append-nil last_line))

module _ (alloc : Global) (laws : Laws) (w : RunSettings)
    (text : List ℕ) (names : List Name) (plain : Plain) (plans : List GuardPlan) (a : Accepts text names plain plans) (s : Solid) (i : IsSolidOf plain s) (few : item_count s ≤ w.size) (by : List Name) where
  -- what the engine is given, with a list of names
  abbrev pub g : Driven
  g = driven by plain.rules w.size (record { trace = w.trace; folded = w.folded; budget = w.budget }) (chosen w.order) (solid_of names plain s)

  well : IsWellMade plain
  well = let read = a.accepted in well_made text names plain read.reads read.outside

  module _ (n : ℕ) (h : Heap) (r : Ran g n h) where
    abbrev lines : List (List ℕ)
    lines = printed w.trace r.lines.first_lines r.lines.last_line

    trace : IsTraceOf (given w) text lines n
    trace = record {
      names = names;
      plain = plain;
      plans = plans;
      accepted = a;
      solid = solid_of names plain s;
      of_plain = solids_of_plains names plain s well i;
      numbered = region_is_numbered names plain well s i;
      few = omega (arith, few, items_kept names plain.rules s);
      before = r.before;
      last = r.last;
      trace = r.trace;
      count = r.count;
      are = are_printed w.trace w.folded r.before r.last r.lines;
    }

    -- the text with a word
    text_is : (why : Stop) (word : List ℕ) → word ≡ word_of_stop why → written w.trace r.lines.first_lines r.lines.last_line word ≡ run_text lines why n
    text_is why word e =
        ap (written w.trace r.lines.first_lines r.lines.last_line) e ∙ written_is w.trace r.lines.first_lines r.lines.last_line (word_of_stop why)
        ∙ ap (λ k. concat lines ++ end_line (word_of_stop why) k) (lines_count w.folded r.before r.lines.first_lines r.lines.are_lines ∙ r.count)

    writes : (why : Stop) (word : List ℕ) (old new : Option (List ℕ)) → word ≡ word_of_stop why → StopsSo (given w) n r.last why → Takes (written w.trace r.lines.first_lines r.lines.last_line word) old new
        → WritesRun w (Some (Some text)) why old new
    unfolding trace
    writes why word old new e stops took = record {
      text = text;
      is_told = refl;
      lines = lines;
      commits = n;
      run = trace_is_run laws alloc (given w) text lines n trace why stops;
      trace = trace;
      stops = stops;
      took = subst (λ xs. Takes xs old new) (text_is why word e) took;
    }

  -- what was written by a run that stopped so
  pub driven_writes : (n : ℕ) (h : Heap) (why : Stop) (old new : Option (List ℕ)) → Drove g n h (stop_end why) old new → WritesRun w (Some (Some text)) why old new
  unfolding trace
  driven_writes n h stop.Irreducible old new d = writes n h d.ran stop.Irreducible (driven_word irreducible) old new refl d.ended.0 d.ended.1
  driven_writes n h stop.Budget old new d = writes n h d.ran stop.Budget (driven_word budget_done) old new refl d.ended.0 d.ended.1
  driven_writes n h stop.Full old new d = writes n h d.ran stop.Full (driven_word full) old new refl d.ended.0 d.ended.1
  driven_writes n h stop.NoMemory old new d = writes n h d.ran stop.NoMemory (word_of_stop stop.NoMemory) old new refl d.ended.0 d.ended.1

  -- what was written by a run that ended so
  pub driven_output : (n : ℕ) (h : Heap) (end : RunEnd) (old new : Option (List ℕ)) → Drove g n h end old new → Output (task.Run w) (ended_as end) (Some (Some text)) old new
  unfolding trace
  driven_output n h run.Irreducible old new d = driven_writes n h stop.Irreducible old new d
  driven_output n h run.Budget old new d = driven_writes n h stop.Budget old new d
  driven_output n h run.Full old new d = driven_writes n h stop.Full old new d
  driven_output n h run.NoMemory old new d = inr (driven_writes n h stop.NoMemory old new d)
  driven_output n h run.Failed old new d =
      let r = d.ran in
      let part = d.ended in
      let lines = printed w.trace r.lines.first_lines r.lines.last_line in
      record {
        text = text;
        is_told = refl;
        lines = lines;
        commits = n;
        trace = trace n h r;
        run = λ why stops. trace_is_run laws alloc (given w) text lines n (trace n h r) why stops;
        took = λ why stops. took why stops;
      }
    where
      took : (why : Stop) → StopsSo (given w) n d.ran.last why → TakesPrefix (run_text (printed w.trace d.ran.lines.first_lines d.ran.lines.last_line) why n) old new
      took stop.Irreducible stops = subst (λ xs. TakesPrefix xs old new) (text_is n h d.ran stop.Irreducible (driven_word irreducible) refl) (d.ended.at_end irreducible stops)
      took stop.Budget stops = subst (λ xs. TakesPrefix xs old new) (text_is n h d.ran stop.Budget (driven_word budget_done) refl) (d.ended.at_end budget_done stops)
      took stop.Full stops = subst (λ xs. TakesPrefix xs old new) (text_is n h d.ran stop.Full (driven_word full) refl) (d.ended.at_end full stops)
      took stop.NoMemory stops = subst (λ xs. TakesPrefix xs old new) (text_is n h d.ran stop.NoMemory (word_of_stop stop.NoMemory) refl) (d.ended.elsewhere stops)

  no_cause : (end : RunEnd) (before after : ℕ) → Causes (task.Run w) (ended_as end) (Some (Some text)) before after
  no_cause run.Irreducible before after = tt
  no_cause run.Budget before after = tt
  no_cause run.Full before after = tt
  no_cause run.NoMemory before after = tt
  no_cause run.Failed before after = tt

  counted : (end : RunEnd) (before after : Faults) → (¬ (end ≡ run.Failed) → NoneFailed before after) → (end ≡ run.Failed → FailedLast before after) → CountsFaults (ended_as end) before after
  counted run.Irreducible before after same rose = same (λ e. cc e)
  counted run.Budget before after same rose = same (λ e. cc e)
  counted run.Full before after same rose = same (λ e. cc e)
  counted run.NoMemory before after same rose = same (λ e. cc e)
  counted run.Failed before after same rose = rose refl

  -- how a call ends that ran so
  pub driven_ended : (n : ℕ) (h : Heap) (end : RunEnd) (old new : Option (List ℕ)) (before after : Faults) (read_before read_after : ℕ) → Drove g n h end old new → (¬ (end ≡ run.Failed) → NoneFailed before after)
      → (end ≡ run.Failed → FailedLast before after) → Ended (task.Run w) (ended_as end) (Some (Some text)) old new before after read_before read_after
  driven_ended n h end old new before after read_before read_after d same rose =
      record { cause = no_cause end read_before read_after; output = driven_output n h end old new d; counts = counted end before after same rose }

-- a text whose process has too many items is refused
pub too_large_ended : (w : RunSettings) (text : List ℕ) (names : List Name) (plain : Plain) (plans : List GuardPlan) (k : ℕ) → Accepts text names plain plans → IsWellMade plain → EachTwice (links_of plain.top)
    → LoadCauses plain w.size (Size k) → (told : Option (List ℕ)) (count : Faults) (read_before read_after : ℕ)
    → Ended (task.Run w) (Refused (at_start 50)) (Some (Some text)) told told count count read_before read_after
too_large_ended w text names plain plans k a well closed causes told count read_before read_after =
    let s = solids_of_plains_exist plain well closed in
    let large = causes s.0 s.1 in
    let more : w.size < item_count_of_region (solid_of names plain s.0) = omega (arith, large.0, items_kept names plain.rules s.0) in
    let is_large : IsTooLarge (Some w.size) names plain = (solid_of names plain s.0, solids_of_plains names plain s.0 well s.1, more) in
    record { cause = record { text = text; is_told = refl; refused = too_large names plain plans a is_large refl; code = refl }; output = refl; counts = no_put count }
