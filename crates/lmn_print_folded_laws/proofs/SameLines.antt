-- The folded line of a region reads as this region.
use Rattle.std.proofs.Common.{ℕ, List, map, sym, subst}
use Rattle.lmn_lexer.specs.declared.token.Token.{Token}
use Rattle.lmn_lexer.specs.Faults.{NothingWrong}
use Rattle.lmn_lexer.specs.Laying.{words_of}
use Rattle.lmn_parser.specs.Readings.{Reads}
use Rattle.lmn_parser.specs.Syntax.{Clauses}
use Rattle.lmn_flatten_plain.specs.Expansion.{parts_of}
use Rattle.lmn_flatten_plain.specs.Parts.{level_from_parts}
use Rattle.lmn_print_folded_laws.specs.Laws.{IsTreeOf}
use Rattle.lmn_flatten_plain.specs.Laws.{NamesAreShort}
use Rattle.lmn_print_folded_laws.proofs.FoldedLines.{folded_lines_are_read}
use Rattle.lmn_print_folded.proofs.FoldedLines.{numbers_of}
use Rattle.lmn_print_folded_laws.specs.Lines.{FoldedLinesAreSame}
use Rattle.lmn_print_folded_laws.proofs.SameTexts.{folded_texts_are_same}

-- a folded line gives the region that was printed, up to the order of atoms and the numbers of links
pub folded_lines_are_same : FoldedLinesAreSame
folded_lines_are_same S line h closed spelled =
    let P : List ℕ → Type 0 = λ text. (tokens : List Token) × (tree : Clauses) × Reads text tokens tree × (NamesAreShort (words_of text tokens) → NothingWrong text) × IsTreeOf text tokens tree h.form in
    let read = subst P (sym h.is) (folded_lines_are_read h.form spelled) in
    let n = numbers_of h in
    let tokens = read.0 in
    let tree = read.1 in
    let words = words_of line tokens in
    let places = map (λ (t : Token). t.pos) tokens in
    let parts = parts_of words places tree in
    let it = read.4 in (
      tokens,
      tree,
      read.2,
      read.3,
      λ names p plain.
          folded_texts_are_same words places parts.table plain.number S n.0 h.form (level_from_parts parts) it.own_links closed n.1 n.2 it.apart it.different
          it.none_written plain.apart,
    )
