-- How a run goes on, stops and fails. Each exit of the code is one of these.
use Rattle.std.proofs.Common.{ℕ, ◌≡◌, ◌<◌, ◌+◌, List, [], ◌∷◌, ◌++◌, length, Option, refl, sym, ap, subst, ◌∙◌}
use Rattle.std.proofs.lemmas.List.{length-append}
use Rattle.lmn_store_heap.specs.Heap.{Heap}
use Rattle.lmn_io.specs.Taking.{Takes, TakesPrefix}
use Rattle.lmn_congruence.specs.Regions.{Region}
use Rattle.lmn_adequacy.specs.Embedding.{HasEmbedding}
use Rattle.lmn_adequacy.specs.Runs.{Turn as Chooses, loaded, turned, End, irreducible, budget_done, full, nothing_embeds, none_allowed, too_many}
use Rattle.lmn_schedule_strategy.specs.declared.turning.Turn.{Turn}
use Rattle.lmn_schedule_strategy.specs.declared.turning.Turn.TheVariants as answer
use Rattle.lmn_print_folded.specs.Lines.{IsLine}
use Rattle.lmn_app_runs.proofs.TraceLines.{lines_count, lines_with, some_line}
use Rattle.lmn_schedule.specs.Held.{HoldsRegion}
use Rattle.lmn_schedule.specs.Turning.{IsDone, IsTurned}
use Rattle.lmn_app_drive.specs.declared.driving.RunEnd.TheVariants.{Failed}
use Rattle.lmn_app_runs.specs.declared.stop.Stop.{Stop}
use Rattle.lmn_app_runs.specs.declared.stop.Stop.TheVariants as stop
use Rattle.lmn_app_drive.specs.Written.{traced}
use Rattle.lmn_app_drive.specs.Driving.{RunInput, Ran, EndsSo, GoesOn, text, RunEnded, Drove, Going, IsRestOf, IsTracedLineOf, StopsBecause, Stopped, Broke, stop_end, rest_of}
use Rattle.lmn_app_drive.proofs.Ends.{accepted_held, no_end, one_end}
use Rattle.lmn_app_drive.proofs.Writings.{rest_held, traced_held}
use Rattle.lmn_app_drive.proofs.Texts.{all_taken, front_taken, line_begun, line_taken, part_taken}
use Rattle.lmn_app_runs.specs.Runs.{end_word, word_of_stop}
use Rattle.lmn_schedule.proofs.Common.{closed_held}

-- what a turn answers at the last solid of a run
abbrev pub Answers : {g : RunInput} {n : ℕ} {h : Heap} → Ran g n h → Turn → Heap → Type 0
Answers {g} {n} r a h' = IsTurned g.names g.table g.chooser g.size n r.last a h'

module _ (g : RunInput) (n : ℕ) (h : Heap) where
  -- the same run, where the heap holds its last solid too
  abbrev held_by : (r : Ran g n h) (h' : Heap) → HoldsRegion g.names g.table h' r.last → Ran g n h'
  held_by r h' held = record { before = r.before; last = r.last; trace = r.trace; count = r.count; holds = held; lines = r.lines }

  -- two ends of a run are the same
  pub ends_once : (r : Ran g n h) (e d : End) → EndsSo r e → EndsSo r d → e ≡ d
  ends_once r e d = one_end g.chooser g.budget g.size n r.last e d

  -- as many lines as commits
  pub counted : (r : Ran g n h) → length r.lines.first_lines ≡ n
  counted r = lines_count g.folded r.before r.lines.first_lines r.lines.are_lines ∙ r.count

  -- a run that failed after a prefix of its lines
  abbrev broke_so : (r : Ran g n h) (old new : Option (List ℕ)) → TakesPrefix (traced g.trace (r.lines.first_lines ++ r.lines.last_line ∷ [])) old new → Broke g n h old new
  broke_so r old new part =
      let any : (word : List ℕ) → TakesPrefix (text r word) old new = λ word. front_taken g.trace r.lines.first_lines r.lines.last_line word n (counted r) old new part in
      record { ran = r; took = record { at_end = λ e ends. any (end_word e); elsewhere = λ on. any (word_of_stop stop.NoMemory) } }

-- a call that is to write the line of a heap, with a trace alone, has written it, or a prefix of it
abbrev TakesLine : RunInput → Heap → Option (List ℕ) → Option (List ℕ) → Type 0
TakesLine g h old new = (bytes : List ℕ) → IsTracedLineOf g.trace g.folded g.names g.table h bytes → Takes bytes old new

abbrev TakesPartOfLine : RunInput → Heap → Option (List ℕ) → Option (List ℕ) → Type 0
TakesPartOfLine g h old new = (bytes : List ℕ) → IsTracedLineOf g.trace g.folded g.names g.table h bytes → TakesPrefix bytes old new

-- a solid that a heap holds has a line
pub line_of_held : (g : RunInput) {h : Heap} {S : Region} → HoldsRegion g.names g.table h S → (line : List ℕ) × IsLine g.folded S line
line_of_held g {h} {S} held = some_line g.folded S (closed_held held)

-- before the first turn: the heap holds the first solid
module _ (g : RunInput) (n : ℕ) (h : Heap) (old new : Option (List ℕ)) (none : n ≡ 0) (held : HoldsRegion g.names g.table h g.first) where
  abbrev first_line : (line : List ℕ) × IsLine g.folded g.first line
  first_line = line_of_held g held

  abbrev first_ran : Ran g n h
  first_ran = record {
    before = [];
    last = g.first;
    trace = loaded;
    count = sym none;
    holds = held;
    lines = record { first_lines = []; last_line = first_line.0; are_lines = tt; is_line = first_line.1 };
  }

  abbrev first_bytes : IsTracedLineOf g.trace g.folded g.names g.table h (traced g.trace (first_line.0 ∷ []))
  first_bytes = traced_held g.folded g.names g.table h g.trace g.first first_line.0 held first_line.1

  abbrev pub going_first : TakesLine g h old new → Going g n h old new
  going_first took = record { ran = first_ran; took = took (traced g.trace (first_line.0 ∷ [])) first_bytes }

  abbrev pub broke_first : TakesPartOfLine g h old new → Broke g n h old new
  broke_first part = broke_so g n h first_ran old new (part (traced g.trace (first_line.0 ∷ [])) first_bytes)

module _ (g : RunInput) (n : ℕ) (h h' : Heap) (told old : Option (List ℕ)) (s : Going g n h told old) where
  -- one commit more
  module _ (below : n < g.budget) (t : Answers s.ran answer.Committed h') (new : Option (List ℕ)) where
    abbrev next_line : (line : List ℕ) × IsLine g.folded t.0 line
    next_line = line_of_held g t.3

    abbrev ran_more : Ran g (n + 1) h'
    ran_more = record {
      before = s.ran.before ++ s.ran.last ∷ [];
      last = t.0;
      trace = turned s.ran.trace (subst (λ k. k < g.budget) (sym s.ran.count) below) (subst (λ k. Chooses g.chooser k s.ran.last t.0) (sym s.ran.count) t.1.turn) t.2;
      count = length-append s.ran.before (s.ran.last ∷ []) ∙ ap (λ k. k + 1) s.ran.count;
      holds = t.3;
      lines = record {
        first_lines = s.ran.lines.first_lines ++ s.ran.lines.last_line ∷ [];
        last_line = next_line.0;
        are_lines = lines_with g.folded s.ran.before s.ran.last s.ran.lines.first_lines s.ran.lines.last_line s.ran.lines.are_lines s.ran.lines.is_line;
        is_line = next_line.1;
      };
    }

    abbrev next_bytes : IsTracedLineOf g.trace g.folded g.names g.table h' (traced g.trace (next_line.0 ∷ []))
    next_bytes = traced_held g.folded g.names g.table h' g.trace t.0 next_line.0 t.3 next_line.1

    -- its line is written,
    abbrev pub going_more : TakesLine g h' old new → Going g (n + 1) h' told new
    going_more took = record {
      ran = ran_more;
      took = line_taken g.trace (s.ran.lines.first_lines ++ s.ran.lines.last_line ∷ []) next_line.0 told old new s.took (took (traced g.trace (next_line.0 ∷ [])) next_bytes);
    }

    -- or a prefix of it
    abbrev pub broke_more : TakesPartOfLine g h' old new → Broke g (n + 1) h' told new
    broke_more part =
        broke_so g (n + 1) h' ran_more told new
        (line_begun g.trace (s.ran.lines.first_lines ++ s.ran.lines.last_line ∷ []) next_line.0 told old new s.took (part (traced g.trace (next_line.0 ∷ [])) next_bytes))

  -- the run stops, since it ends there or since memory is wanting
  abbrev stops_so : (why : Stop) → (held : HoldsRegion g.names g.table h' s.ran.last) → StopsBecause (held_by g n h s.ran h' held) why → Stopped g n h' why told old
  stops_so why held stops = record { going = record { ran = held_by g n h s.ran h' held; took = s.took }; stops = stops }

  abbrev pub stops_irreducible : Answers s.ran answer.Irreducible h' → Stopped g n h' stop.Irreducible told old
  stops_irreducible t = stops_so stop.Irreducible t.1 (nothing_embeds t.0.nothing_embeds)

  abbrev pub stops_full : n < g.budget → Answers s.ran answer.Full h' → Stopped g n h' stop.Full told old
  stops_full below t = stops_so stop.Full t.1 (too_many below t.0.1 t.0.2)

  abbrev pub stops_no_memory : n < g.budget → Answers s.ran answer.NoMemory h' → Stopped g n h' stop.NoMemory told old
  stops_no_memory below t =
      stops_so stop.NoMemory t.1 (no_end g.chooser g.budget g.size n s.ran.last (closed_held s.ran.holds) (accepted_held s.ran.holds) below t.0.0 t.0.1 t.0.2)

  -- as many commits as are allowed are done
  abbrev pub stops_budget : h' ≡ h → n ≡ g.budget → HasEmbedding s.ran.last → Stopped g n h' stop.Budget told old
  stops_budget same done some = stops_so stop.Budget (subst (λ k. HoldsRegion g.names g.table k s.ran.last) (sym same) s.ran.holds) (none_allowed some done)

  abbrev pub stops_done : h' ≡ h → IsDone s.ran.last → Stopped g n h' stop.Irreducible told old
  stops_done same done = stops_so stop.Irreducible (subst (λ k. HoldsRegion g.names g.table k s.ran.last) (sym same) s.ran.holds) (nothing_embeds done.nothing_embeds)

-- the rest of a run that stopped is written,
module _ (g : RunInput) (n : ℕ) (h : Heap) (why : Stop) (old mid new : Option (List ℕ)) (s : Stopped g n h why old mid) where
  abbrev stopped : Ran g n h
  stopped = s.going.ran

  abbrev rest : List ℕ
  rest = rest_of g.trace stopped.lines.last_line (word_of_stop why) n

  abbrev rest_bytes : IsRestOf g.trace g.folded g.names g.table h (word_of_stop why) n rest
  rest_bytes = rest_held g.folded g.names g.table h g.trace stopped.last stopped.lines.last_line stopped.holds stopped.lines.is_line (word_of_stop why) n

  abbrev pub concluded : ((bytes : List ℕ) → IsRestOf g.trace g.folded g.names g.table h (word_of_stop why) n bytes → Takes bytes mid new) → Drove g n h (stop_end why) old new
  concluded took = record { ran = stopped; ended = by why s.stops all }
    where
      all : Takes (text stopped (word_of_stop why)) old new
      all = all_taken g.trace stopped.lines.first_lines stopped.lines.last_line (word_of_stop why) n (counted g n h stopped) old mid new s.going.took (took rest rest_bytes)

      by : (why : Stop) → StopsBecause stopped why → Takes (text stopped (word_of_stop why)) old new → RunEnded stopped (stop_end why) old new
      by stop.Irreducible stops took = (stops, took)
      by stop.Budget stops took = (stops, took)
      by stop.Full stops took = (stops, took)
      by stop.NoMemory stops took = (stops, took)

  -- or a prefix of it
  abbrev pub broken_off : ((bytes : List ℕ) → IsRestOf g.trace g.folded g.names g.table h (word_of_stop why) n bytes → TakesPrefix bytes mid new) → Drove g n h Failed old new
  broken_off took = record { ran = stopped; ended = record { at_end = λ e ends. subst (λ word. TakesPrefix (text stopped word) old new) (at_end why s.stops e ends) part; elsewhere = λ on. subst (λ word. TakesPrefix (text stopped word) old new) (elsewhere why s.stops on) part } }
    where
      part : TakesPrefix (text stopped (word_of_stop why)) old new
      part = part_taken g.trace stopped.lines.first_lines stopped.lines.last_line (word_of_stop why) n (counted g n h stopped) old mid new s.going.took (took rest rest_bytes)

      at_end : (why : Stop) → StopsBecause stopped why → (e : End) → EndsSo stopped e → word_of_stop why ≡ end_word e
      at_end stop.Irreducible stops e ends = ap end_word (ends_once g n h stopped irreducible e stops ends)
      at_end stop.Budget stops e ends = ap end_word (ends_once g n h stopped budget_done e stops ends)
      at_end stop.Full stops e ends = ap end_word (ends_once g n h stopped full e stops ends)
      at_end stop.NoMemory stops e ends = absurd (stops e ends)

      elsewhere : (why : Stop) → StopsBecause stopped why → GoesOn stopped → word_of_stop why ≡ word_of_stop stop.NoMemory
      elsewhere stop.Irreducible stops on = absurd (on irreducible stops)
      elsewhere stop.Budget stops on = absurd (on budget_done stops)
      elsewhere stop.Full stops on = absurd (on full stops)
      elsewhere stop.NoMemory stops on = refl

-- a run that failed while it went on
abbrev pub drove_broke : (g : RunInput) (n : ℕ) (h : Heap) (old new : Option (List ℕ)) → Broke g n h old new → Drove g n h Failed old new
drove_broke g n h old new b = record { ran = b.ran; ended = b.took }
