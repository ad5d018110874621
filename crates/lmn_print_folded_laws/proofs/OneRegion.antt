-- A process has one folded line at most.
use Rattle.std.proofs.Common.{sym, ◌∙◌, subst}
use Rattle.lmn_congruence.specs.Process.{Closed}
use Rattle.lmn_congruence.specs.Regions.{Region}
use Rattle.lmn_congruence.proofs.RenamedRegions.{one_region}
use Rattle.lmn_print_folded.specs.Lines.{IsFoldedLine}
use Rattle.lmn_print_folded.proofs.FoldedLines.{one_folded_line}
use Rattle.lmn_print_folded_laws.specs.ReadBack.{OneFoldedLineOf}

-- a process has one folded line at most
pub one_folded_line_of : OneFoldedLineOf
one_folded_line_of names others P line other h k =
    let P : Region → Type 0 = λ S. IsFoldedLine S line in
    let same = one_region h.solid k.solid (sym h.of ∙ k.of) in
    one_folded_line k.solid line other (subst Closed k.of k.closed) (subst P same h.is) k.is
