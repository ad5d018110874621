-- Each valid heap has one line in either form.
use Rattle.std.proofs.Common.{◌≡◌, List, Bool, true, false, ℕ, refl, sym, ◌∙◌, subst}
use Rattle.lmn_base.specs.declared.solid.Solid.{Solid}
use Rattle.lmn_congruence.specs.Process.{Closed}
use Rattle.lmn_congruence.specs.Regions.{Region, region_process}
use Rattle.lmn_congruence.specs.Translation.{region_of}
use Rattle.lmn_congruence.proofs.TranslatedLinks.{solids_closed}
use Rattle.lmn_print_folded.specs.Lines.{IsLine}
use Rattle.lmn_print_folded.proofs.FoldedLines.{one_folded_line, some_folded_line}
use Rattle.lmn_flatten_plain.specs.SolidLines.{as_level}
use Rattle.lmn_flatten_plain.specs.Words.{line_of}
use Rattle.lmn_print_plain.proofs.HeapSolids.{heaps_have_solids, one_solid}
use Rattle.lmn_print_plain.proofs.SolidShapes.{heap_solids_are_solids}
use Rattle.lmn_print.specs.Laws.{OneHeapLine, SomeHeapLine}

some_line : (folded : Bool) (S : Region) → Closed (region_process S) → (text : List ℕ) × IsLine folded S text
some_line true S closed = some_folded_line S closed
some_line false S closed = (line_of (as_level S), refl)

one_line : (folded : Bool) (S : Region) (text other : List ℕ) → Closed (region_process S) → IsLine folded S text → IsLine folded S other → text ≡ other
one_line true S text other closed p q = one_folded_line S text other closed p q
one_line false S text other closed p q = p ∙ sym q

-- each valid heap has a folded line
pub some_heap_line : SomeHeapLine
some_heap_line folded names table s valid =
    let x = heaps_have_solids s valid in
    let line = some_line folded (region_of names table x.0) (solids_closed names table x.0 (heap_solids_are_solids s x.0 valid x.1)) in
    (line.0, (x.0, x.1, line.1))

-- and one alone
pub one_heap_line : OneHeapLine
one_heap_line folded names table s text other valid p q =
    let same = one_solid s p.0 q.0 valid p.1 q.1 in
    let there : IsLine folded (region_of names table q.0) text = subst (λ (x : Solid). IsLine folded (region_of names table x) text) same p.2 in
    one_line folded (region_of names table q.0) text other (solids_closed names table q.0 (heap_solids_are_solids s q.0 valid q.1)) there q.2
