-- Folded lines are read.
use Rattle.std.proofs.Common.{[], ◌∷◌, ◌++◌, map}
use Rattle.lmn_lexer.specs.declared.token.Token.{Token}
use Rattle.lmn_lexer.specs.Laying.{words_of}
use Rattle.lmn_lexer.proofs.LaidTexts.{laid_texts_are_cut}
use Rattle.lmn_flatten_plain.specs.Words.{words_in, with_full_stops}
use Rattle.lmn_flatten_plain.proofs.PrintedLines.{same_kinds}
use Rattle.lmn_flatten_plain.proofs.RightLines.{text_right}
use Rattle.lmn_print_folded.specs.Words.{folded_pieces, line_of_folded}
use Rattle.lmn_print_folded_laws.specs.Laws.{FoldedLinesAreRead}
use Rattle.lmn_print_folded_laws.proofs.FoldedLaid.{folded_laid, line_right}
use Rattle.lmn_print_folded_laws.proofs.ReadFolded.{line_read}

-- a folded line reads as the tree of its folded form
pub folded_lines_are_read : FoldedLinesAreRead
folded_lines_are_read f h =
    let text = line_of_folded f in
    let cut = laid_texts_are_cut text (words_in (with_full_stops (folded_pieces f))) (folded_laid f h) in
    let tokens = cut.0 in
    let places = map (λ (t : Token). t.pos) tokens in
    let read = line_read {tokens = tokens} {words = words_of text tokens} places (record { kinds = same_kinds text tokens }) f h cut.2 in
    let inner = read.inner in (
      tokens,
      read.tree,
      record { cut = cut.1; is_tree = read.is_tree },
      λ short. cut.3 (text_right (words_in (with_full_stops (folded_pieces f))) (words_of text tokens) cut.2 (line_right f h) short),
      record {
        own_links = read.mades;
        apart = read.apart;
        different = inner.different;
        none_written = λ a i. let g = inner.inside a i in (g.0 ++ g.1 ∷ [], g.2);
      },
    )
