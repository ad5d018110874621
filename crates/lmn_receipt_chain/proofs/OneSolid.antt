-- A printed line tells its solid.
use Rattle.std.proofs.Common.{◌≡◌, List, [], ◌∷◌, map, refl, sym, ap, ◌∙◌, subst}
use Rattle.std.specs.declared.alloc.Global.{Global}
use Rattle.lmn_base.specs.declared.rule.Plain.{Plain}
use Rattle.lmn_base.specs.Names.{IsNames}
use Rattle.lmn_congruence.proofs.Common.{rules_listed}
use Rattle.lmn_congruence.specs.Regions.{Region, Regions, SolidAtom, no_region, region, region_and}
use Rattle.lmn_congruence.specs.Rules.{Leaf, Level, Levels, Name, atom_leaf, connector_leaf, named, level, level_and, no_level, rules_list, typed_leaf}
use Rattle.lmn_congruence.specs.Translation.{top_of}
use Rattle.lmn_lexer.specs.declared.token.Token.{Token}
use Rattle.lmn_lexer.specs.Faults.{NothingWrong}
use Rattle.lmn_lexer.specs.Laying.{words_of}
use Rattle.lmn_parser.proofs.OneReading.{one_reading}
use Rattle.lmn_parser.specs.Readings.{Reads}
use Rattle.lmn_parser.specs.Syntax.{Clauses}
use Rattle.lmn_flatten_plain.proofs.PrintedLines.{lines_are_read}
use Rattle.lmn_flatten_plain.proofs.SolidLines.{no_contexts}
use Rattle.lmn_flatten_plain.proofs.SomePlain.{some_plain}
use Rattle.lmn_flatten_plain.specs.Laws.{IsPlain, NamesAreShort}
use Rattle.lmn_flatten_plain.specs.SolidLines.{as_level, as_levels, atom_as_leaf}
use Rattle.lmn_flatten_plain.specs.Words.{line_of}
use Rattle.lmn_app_runs.proofs.TraceRuns.{Fine, numbers_fine, region_held, region_numbered, rules_fine, spelled_fine}

-- ---- a level of a region is that of one region

abbrev leaf_back : Leaf → SolidAtom
leaf_back (atom_leaf a xs) = record { label = a; links = xs }
leaf_back (connector_leaf x y) = record { label = named []; links = [] }
leaf_back (typed_leaf p x) = record { label = named []; links = [] }

abbrev mutual
  level_back : Level → Region
  level_back (level leaves membranes contexts rule_contexts rs) = region (map leaf_back leaves) (levels_back membranes) (rules_list rs)

  levels_back : Levels → Regions
  levels_back no_level = no_region
  levels_back (level_and l ls) = region_and (level_back l) (levels_back ls)

atoms_again : (xs : List SolidAtom) → map leaf_back (map atom_as_leaf xs) ≡ xs
atoms_again [] = refl
atoms_again (a ∷ xs) = ap (λ ys. a ∷ ys) (atoms_again xs)

mutual
  region_again : (S : Region) → level_back (as_level S) ≡ S
  region_again (region xs ms rs) = λ i. region (atoms_again xs i) (regions_again ms i) (rules_listed rs i)

  regions_again : (ms : Regions) → levels_back (as_levels ms) ≡ ms
  regions_again no_region = refl
  regions_again (region_and m ms) = λ i. region_and (region_again m i) (regions_again ms i)

-- ---- a line tells its solid

module _ (alloc : Global) (names : List Name) (is : IsNames names) where
  -- the line of a level reads as a tree, each plain of which has this level
  abbrev IsRead : Level → Type 0
  IsRead l =
      (tokens : List Token) × (tree : Clauses) × Reads (line_of l) tokens tree × (NamesAreShort (words_of (line_of l) tokens) → NothingWrong (line_of l))
      × ((p : Plain) → IsPlain (line_of l) tokens tree names p → top_of names p ≡ l)

  -- two solids of which runs can be printed are one, where their lines are
  pub one_solid : (S T : Region) → Fine names S → Fine names T → line_of (as_level S) ≡ line_of (as_level T) → S ≡ T
  one_solid S T f g e =
      let a = read S f in
      let b = read T g in
      let here : Reads (line_of (as_level T)) a.0 a.1 = subst (λ text. Reads text a.0 a.1) e a.2 in
      let same = one_reading (line_of (as_level T)) a.0 b.0 a.1 b.1 here b.2 in
      let p = some_plain alloc (words_of (line_of (as_level S)) a.0) (map (λ t. t.pos) a.0) names a.1 in
      let first = a.4 p.0 p.1 in
      let moved : IsPlain (line_of (as_level T)) b.0 b.1 names p.0 =
      subst (λ t. IsPlain (line_of (as_level T)) b.0 t names p.0) same.1 (subst (λ ts. IsPlain (line_of (as_level T)) ts a.1 names p.0) same.0 (subst (λ text. IsPlain text a.0 a.1 names p.0) e p.1)) in
      let second = b.4 p.0 moved in
      sym (region_again S) ∙ ap level_back (sym first ∙ second) ∙ region_again T
    where
      read : (S : Region) → Fine names S → IsRead (as_level S)
      read S f =
          let fine = rules_fine names alloc is S f in
          lines_are_read names (as_level S) f.numbered.0 is (region_held names S f.atoms fine) (spelled_fine names alloc is S f) (numbers_fine names alloc is S f) (region_numbered names S fine) (no_contexts S)
