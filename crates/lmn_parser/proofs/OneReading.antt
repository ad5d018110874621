-- How a text reads: its tokens end with `End`, and are one tree at most.
use Rattle.std.proofs.Common.{List, sym, subst, ◌∙◌, ap}
use Rattle.std.proofs.lemmas.List.{map-append}
use Rattle.lmn_lexer.specs.declared.token.Token.{Token}
use Rattle.lmn_lexer.proofs.OneCut.{one_cut}
use Rattle.lmn_parser.specs.Trees.{IsProgram}
use Rattle.lmn_parser.specs.Readings.{CutTextsEnd, OneReading}
use Rattle.lmn_parser.specs.Parsing.{kinds_of}
use Rattle.lmn_parser.proofs.OneTree.{one_tree}

-- a text reads as one tree at most
pub one_reading : OneReading
one_reading text tokens others tree other a b =
    let same = one_cut text tokens others a.cut b.cut in
    let P : List Token → Type 0 = λ ts. IsProgram ts other in
    (same, one_tree tokens tree other a.is_tree (subst P (sym same) b.is_tree))

-- the tokens of a text end with `End`
pub cut_ends : CutTextsEnd
cut_ends text tokens c = (kinds_of c.but_end, ap kinds_of c.with_end ∙ map-append (λ t. t.kind) c.but_end _)
