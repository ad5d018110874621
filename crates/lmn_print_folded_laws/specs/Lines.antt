-- The folded line of a region reads as this region.
use Rattle.std.specs.Prelude.{ℕ, List, map}
use Rattle.lmn_base.specs.declared.rule.Plain.{Plain}
use Rattle.lmn_congruence.specs.Process.{Closed}
use Rattle.lmn_congruence.specs.Regions.{Region, region_process}
use Rattle.lmn_congruence.specs.Rules.{Name}
use Rattle.lmn_print_folded_laws.specs.Reordered.{SameUpToAtomOrder}
use Rattle.lmn_lexer.specs.declared.token.Token.{Token}
use Rattle.lmn_lexer.specs.Faults.{NothingWrong}
use Rattle.lmn_lexer.specs.Laying.{words_of}
use Rattle.lmn_parser.specs.Readings.{Reads}
use Rattle.lmn_parser.specs.Syntax.{Clauses}
use Rattle.lmn_flatten_plain.specs.Expansion.{parts_of}
use Rattle.lmn_flatten_plain.specs.Laws.{IsPlain, NamesAreShort}
use Rattle.lmn_flatten_plain.specs.Parts.{level_from_parts}
use Rattle.lmn_print_folded.specs.Lines.{IsFoldedLine}
use Rattle.lmn_print_folded_laws.specs.Spelled.{FoldedSpelled}
use Rattle.lmn_print_folded_laws.specs.Numbered.{RegionNumbered}

-- The folded line of a region in which each link stands in two places, where a text can spell it, reads as a tree, and nothing is
-- wrong in it where its names are short. With the numbers that a plain of this tree has for its links, the tree gives to the top a region
-- that is the one that was printed, up to the order of atoms and the numbers of links.
abbrev pub FoldedLinesAreSame : Type 0
FoldedLinesAreSame = (S : Region) (line : List ℕ) (h : IsFoldedLine S line) → Closed (region_process S) → FoldedSpelled h.form
    → (tokens : List Token) × (tree : Clauses) × Reads line tokens tree × (NamesAreShort (words_of line tokens) → NothingWrong line)
    × ((names : List Name) (p : Plain) (plain : IsPlain line tokens tree names p)
    → (T : Region) × SameUpToAtomOrder S T × Closed (region_process T)
    × (let words = words_of line tokens in
    let places = map (λ t. t.pos) tokens in
    let parts = parts_of words places tree in RegionNumbered words places parts.table plain.number T (level_from_parts parts)))
