-- The line of a solid.
use Rattle.std.specs.Prelude.{ℕ, ◌≡◌, List, [], map}
use Rattle.lmn_base.specs.declared.rule.Plain.{Plain}
use Rattle.lmn_base.specs.declared.rule.RuleTree.{RuleTree}
use Rattle.lmn_base.specs.declared.solid.Solid.{Solid}
use Rattle.lmn_base.specs.Names.{NamesSolid}
use Rattle.lmn_base.specs.Solids.{IsSolid, HasEachRule}
use Rattle.lmn_base.specs.WellMade.{IsWellMade}
use Rattle.lmn_congruence.specs.Plains.{SolidOf}
use Rattle.lmn_congruence.specs.Regions.{SolidAtom, Region, region, Regions, no_region, region_and}
use Rattle.lmn_congruence.specs.Rules.{Name, Leaf, atom_leaf, Level, level, Levels, no_level, level_and}
use Rattle.lmn_congruence.specs.Translation.{region_of, top_of, rules}
use Rattle.lmn_lexer.specs.declared.token.Token.{Token}
use Rattle.lmn_lexer.specs.Faults.{NothingWrong}
use Rattle.lmn_parser.specs.Readings.{Reads}
use Rattle.lmn_parser.specs.Syntax.{Clauses}
use Rattle.lmn_lexer.specs.Laying.{words_of}
use Rattle.lmn_flatten_plain.specs.Laws.{IsPlain, NamesAreShort}
use Rattle.lmn_flatten_plain.specs.Spelled.{LevelSpelled}
use Rattle.lmn_flatten_plain.specs.Words.{line_of}

-- the level with the lists of a region
abbrev mutual
  pub as_level : Region → Level
  as_level (region atoms membranes rs) = level (map (λ (a : SolidAtom). atom_leaf a.label a.links) atoms) (as_levels membranes) [] [] (rules rs)

  pub as_levels : Regions → Levels
  as_levels no_region = no_level
  as_levels (region_and r rs) = level_and (as_level r) (as_levels rs)

-- a solid as a level
abbrev pub level_of_solid : List Name → List RuleTree → Solid → Level
level_of_solid names table s = as_level (region_of names table s)

-- the plain line of a solid
abbrev pub solid_line : List Name → List RuleTree → Solid → List ℕ
solid_line names table s = line_of (level_of_solid names table s)

-- A well made plain gives the rules of a solid by their numbers. The list has the names of the solid and of these rules. The
-- line of the solid, where a text can spell it, reads as a tree, and the top of each plain of that tree is the solid as a level.
-- So it has the region of the solid for its solid, rules being compared as trees. In the line nothing is wrong, where its names
-- are short.
abbrev pub SolidLinesAreRead : Type 0
SolidLinesAreRead = (names : List Name) (given : Plain) (s : Solid) → let table = given.rules in
    IsWellMade given → IsSolid s → HasEachRule table s → NamesSolid names table s → LevelSpelled (level_of_solid names table s)
    → (tokens : List Token) × (tree : Clauses) × Reads (solid_line names table s) tokens tree × (NamesAreShort (words_of (solid_line names table s) tokens) → NothingWrong (solid_line names table s))
    × ((p : Plain) → IsPlain (solid_line names table s) tokens tree names p
    → (top_of names p ≡ level_of_solid names table s) × SolidOf (top_of names p) (region_of names table s))

-- an atom of a region as a leaf, as lemmas and contracts of private functions tell it
abbrev pub atom_as_leaf : SolidAtom → Leaf
atom_as_leaf a = atom_leaf a.label a.links
