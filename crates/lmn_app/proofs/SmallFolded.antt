-- The run of a small text in the folded form.
use Rattle.std.proofs.Common.{◌≤◌, ℕ, List, [], ◌∷◌, refl, arith}
use Rattle.std.specs.Prelude.{Bool, codes, true, false}
use Rattle.lmn_adequacy.specs.ChangeExamples.{changing}
use Rattle.lmn_adequacy.specs.Examples.{root_first}
use Rattle.lmn_adequacy.specs.Runs.{irreducible, nothing_embeds}
use Rattle.lmn_adequacy.proofs.ExampleChanges.{short_trace_ends}
use Rattle.lmn_base.specs.Links.{no_more}
use Rattle.lmn_print_folded.specs.Lines.{IsFoldedLine}
use Rattle.lmn_print_folded.proofs.Computed.{computed}
use Rattle.lmn_print_folded.proofs.FoldedLines.{folded_line}
use Rattle.lmn_reduction.specs.Examples.{label_a, label_b}
use Rattle.lmn_app_runs.specs.Runs.{Given, PrintedLines, StopsSo, at_end}
use Rattle.lmn_app_single.specs.Runs.{IsTraceOf}
use Rattle.lmn_app.specs.TextExamples.{SmallTextRunsFolded, no_plan, small_end, small_lines, small_names, small_plain, small_text}
use Rattle.lmn_app_single.proofs.RunLemmas.{Laws, trace_is_run}
use Rattle.lmn_app.proofs.SmallRuns.{first, last, more_allowed, nothing_left, small_solid}
use Rattle.lmn_app.proofs.SmallTexts.{small_text_is_accepted}

-- the folded lines of its two solids
first_folded : IsFoldedLine (changing (label_a ∷ [])) (codes "a. (a :- b).\n")
first_folded =
    folded_line (computed (changing (label_a ∷ [])) _ (λ x. omega arith) refl) (record { to = λ x. x; one_to_one = λ x y a b e. e; is = refl; count = 0; by_first_occurrence = no_more }) refl

last_folded : IsFoldedLine (changing (label_b ∷ [])) (codes "b. (a :- b).\n")
last_folded =
    folded_line (computed (changing (label_b ∷ [])) _ (λ x. omega arith) refl) (record { to = λ x. x; one_to_one = λ x y a b e. e; is = refl; count = 0; by_first_occurrence = no_more }) refl

-- what such a run is given
abbrev folding : Bool → ℕ → Given
folding trace budget = record { trace = trace; folded = true; budget = budget; size = 2; chooser = root_first }

abbrev folded_trace : {trace : Bool} {lines : List (List ℕ)} {budget : ℕ} → 1 ≤ budget → PrintedLines (folding trace budget) (first ∷ []) last lines
    → (t : IsTraceOf (folding trace budget) small_text lines 1) × StopsSo (folding trace budget) 1 t.last (at_end irreducible)
folded_trace room are =
    let t = short_trace_ends.0 root_first in (
      record {
        names = small_names;
        plain = small_plain;
        plans = no_plan ∷ [];
        accepted = small_text_is_accepted;
        solid = first;
        of_plain = small_solid;
        numbered = (0, no_more);
        few = omega arith;
        before = first ∷ [];
        last = last;
        trace = more_allowed room (omega arith) t.0;
        count = refl;
        are = are;
      },
      nothing_embeds (nothing_left t.1),
    )

-- the lines of its run with `--folded`
pub small_text_runs_folded : Laws → SmallTextRunsFolded
small_text_runs_folded laws alloc budget room =
    let all = folded_trace {trace = true} room (first_folded, (last_folded, tt)) in
    let end = folded_trace {trace = false} room (last_folded, tt) in (
      trace_is_run laws alloc (folding true budget) small_text small_lines 1 all.0 (at_end irreducible) all.1,
      trace_is_run laws alloc (folding false budget) small_text (small_end ∷ []) 1 end.0 (at_end irreducible) end.1,
    )
