-- Folded lines read back as processes.
use Rattle.std.specs.Prelude.{ℕ, ◌≡◌, List}
use Rattle.std.specs.declared.alloc.Global.{Global}
use Rattle.lmn_base.specs.declared.rule.Plain.{Plain}
use Rattle.lmn_base.specs.declared.solid.Solid.{Solid}
use Rattle.lmn_base.specs.Names.{IsNames, NamesSolid}
use Rattle.lmn_base.specs.Solids.{IsSolid, HasEachRule}
use Rattle.lmn_base.specs.WellMade.{IsWellMade}
use Rattle.lmn_congruence.specs.Congruence.{Congruent}
use Rattle.lmn_congruence.specs.Plains.{SolidOf}
use Rattle.lmn_congruence.specs.Process.{Process, Closed}
use Rattle.lmn_congruence.specs.Regions.{Region, region_process}
use Rattle.lmn_congruence.specs.Rules.{Name}
use Rattle.lmn_print_folded_laws.specs.Reordered.{SameUpToAtomOrder}
use Rattle.lmn_congruence.specs.Translation.{plain_process, region_of, top_of}
use Rattle.lmn_lexer.specs.declared.token.Token.{Token}
use Rattle.lmn_lexer.specs.Faults.{NothingWrong}
use Rattle.lmn_parser.specs.Readings.{Reads}
use Rattle.lmn_parser.specs.Syntax.{Clauses}
use Rattle.lmn_lexer.specs.Laying.{words_of}
use Rattle.lmn_flatten_plain.specs.Laws.{IsPlain, NamesAreShort}
use Rattle.lmn_flatten_plain.specs.LinkNumbers.{RulesNumbered}
use Rattle.lmn_flatten_plain.specs.NamesHeld.{LevelHeld}
use Rattle.lmn_flatten_plain.specs.SolidLines.{as_level, level_of_solid}
use Rattle.lmn_flatten_plain.specs.Spelled.{LevelSpelled}
use Rattle.lmn_flatten_plain.specs.Texts.{IsPlainOfText}
use Rattle.lmn_print_folded.specs.Lines.{IsFoldedLine}

-- A well made plain gives the rules of a solid by their numbers. The list has the names of the solid and of these rules. The
-- folded line of the solid, where a text can spell it, reads as a tree, and each plain of that tree has a solid that is this one up to
-- the order of atoms and the numbers of links, rules being compared as trees. In the line nothing is wrong, where its names are short.
abbrev pub FoldedSolidLinesAreRead : Type 0
FoldedSolidLinesAreRead = (names : List Name) (given : Plain) (s : Solid) (line : List ℕ) → let table = given.rules in
    IsWellMade given → IsSolid s → HasEachRule table s → NamesSolid names table s → LevelSpelled (level_of_solid names table s)
    → IsFoldedLine (region_of names table s) line
    → (tokens : List Token) × (tree : Clauses) × Reads line tokens tree × (NamesAreShort (words_of line tokens) → NothingWrong line)
    × ((p : Plain) → IsPlain line tokens tree names p → (T : Region) × SolidOf (top_of names p) T × SameUpToAtomOrder (region_of names table s) T)

-- P is the process of a solid, it is closed, and this is the folded line of that solid. The line reads, where no limit is asked, as a
-- text with this plain, by a list of names, whose process is P up to congruence: in the line the atoms of a membrane may stand in
-- another order, and links have other numbers. Without the solid the line of each process that is congruent would be one of P.
pub record IsFoldedLineOf (names : List Name) (P : Process) (line : List ℕ) : Type 0 where
  pub solid : Region
  pub of : P ≡ region_process solid
  pub is : IsFoldedLine solid line
  pub plain : Plain
  pub reads : IsPlainOfText line names plain
  pub process : Congruent (plain_process names plain) P
  pub closed : Closed P

-- The folded line of a region reads back as its process: each link of the region stands in two places, a text can spell it, the list
-- has its names, and the links of each rule in it are numbered by first occurrence. A box in a condition belongs to an allocator, so
-- one is given.
abbrev pub FoldedLinesReadBack : Type 0
FoldedLinesReadBack = (alloc : Global) (names : List Name) (S : Region) (line : List ℕ)
    → IsNames names → LevelHeld names (as_level S) → LevelSpelled (as_level S) → RulesNumbered (as_level S) → Closed (region_process S)
    → IsFoldedLine S line → IsFoldedLineOf names (region_process S) line

-- A process has one folded line at most, whatever the names.
abbrev pub OneFoldedLineOf : Type 0
OneFoldedLineOf = (names others : List Name) (P : Process) (line other : List ℕ) → IsFoldedLineOf names P line → IsFoldedLineOf others P other → line ≡ other
