-- A run has one text.
use Rattle.std.proofs.Common.{◌≡◌, sym, ap, subst, ◌∙◌}
use Rattle.lmn_adequacy.proofs.Runs.{trace_is_one}
use Rattle.lmn_print_folded.specs.Lines.{IsLine}
use Rattle.lmn_app_runs.specs.Runs.{LinesOf}
use Rattle.lmn_app_runs.proofs.TraceLines.{before_closed, last_closed, one_line, one_lines}
use Rattle.lmn_app_drive.specs.Laws.{TextsAreOne}
use Rattle.lmn_app_drive.specs.Written.{written}

-- what is given to a run says what is written of it, over every heap
pub texts_are_one : TextsAreOne
texts_are_one g n h h' r s closed accepted word =
    let same = trace_is_one g.chooser g.budget g.size g.first r.before s.before r.last s.last closed accepted r.trace s.trace (r.count ∙ sym s.count) in
    let before = before_closed g.chooser g.budget g.size g.first closed r.trace in
    let last = last_closed g.chooser g.budget g.size g.first closed r.trace in
    let first_lines : s.lines.first_lines ≡ r.lines.first_lines =
    one_lines g.folded r.before r.lines.first_lines s.lines.first_lines before r.lines.are_lines (subst (λ Ss. LinesOf g.folded Ss s.lines.first_lines) (sym same.0) s.lines.are_lines) in
    let last_line : r.lines.last_line ≡ s.lines.last_line =
    one_line g.folded r.last r.lines.last_line s.lines.last_line last r.lines.is_line (subst (λ S. IsLine g.folded S s.lines.last_line) (sym same.1) s.lines.is_line) in
    ap (λ ls. written g.trace ls r.lines.last_line word) (sym first_lines) ∙ ap (λ l. written g.trace s.lines.first_lines l word) last_line
