-- A line has at least as many bytes as its solid has items: each item of the root ends with a full stop, each membrane has two braces, and
-- two bytes stand between two items of a membrane.
use Rattle.std.proofs.Common.{ℕ, ◌≡◌, ◌∙◌, ◌+◌, ◌≤◌, ◌<◌, List, [], ◌∷◌, ◌++◌, codes, map, length, refl, ap, arith, length-append}
use Rattle.lmn_congruence.specs.Regions.{Region, Regions, SolidAtom, no_region, region, region_and, item_count_of_region, item_count_of_regions}
use Rattle.lmn_congruence.specs.Rules.{Rule}
use Rattle.lmn_congruence.specs.Translation.{rules as listed_rules}
use Rattle.lmn_lexer.specs.declared.token.Kind.TheVariants as kind
use Rattle.lmn_flatten_plain.specs.SolidLines.{as_level, as_levels, atom_as_leaf}
use Rattle.lmn_flatten_plain.specs.Words.{Piece, leaf_pieces, level_pieces, levels_pieces, rules_pieces, space, text_of, with_commas, with_full_stops, word}
use Rattle.lmn_flatten_plain.proofs.LaidLines.{text_append}
use Rattle.lmn_receipt_chain.specs.Chains.{line_of_solid}

abbrev bytes : List Piece → ℕ
bytes ps = length (text_of ps)

bytes_append : (ps qs : List Piece) → bytes (ps ++ qs) ≡ bytes ps + bytes qs
bytes_append ps qs = ap length (text_append ps qs) ∙ length-append (text_of ps) (text_of qs)

-- the bytes of items, and one more for each
abbrev weight : List (List Piece) → ℕ
weight [] = 0
weight (p ∷ ps) = 1 + bytes p + weight ps

weight_append : (ps qs : List (List Piece)) → weight (ps ++ qs) ≡ weight ps + weight qs
weight_append [] qs = omega arith
weight_append (p ∷ ps) qs = omega (arith, weight_append ps qs)

-- between two items of a membrane stand two bytes
commas_weigh : (ps : List (List Piece)) → weight ps ≤ bytes (with_commas ps) + 2
commas_weigh [] = omega arith
commas_weigh (p ∷ []) = omega arith
commas_weigh (p ∷ q ∷ ps) =
    let comma : List Piece = word kind.Comma (codes ",") ∷ space ∷ [] in
    let rest = with_commas (q ∷ ps) in
    omega (arith, commas_weigh (q ∷ ps), bytes_append p (comma ++ rest), bytes_append comma rest, two)
  where
    two : bytes (word kind.Comma (codes ",") ∷ space ∷ []) ≡ 2
    two = refl

-- a full stop stands behind each item of the root
stop_weighs : (p : List Piece) → bytes (p ++ word kind.Dot (codes ".") ∷ []) ≡ bytes p + 1
stop_weighs p = bytes_append p (word kind.Dot (codes ".") ∷ [])

stops_weigh : (ps : List (List Piece)) → weight ps ≤ bytes (with_full_stops ps)
stops_weigh [] = omega arith
stops_weigh (p ∷ []) = omega (arith, stop_weighs p)
stops_weigh (p ∷ q ∷ ps) =
    let here = p ++ word kind.Dot (codes ".") ∷ [] in
    let rest = with_full_stops (q ∷ ps) in
    omega (arith, stops_weigh (q ∷ ps), stop_weighs p, bytes_append here ((space ∷ []) ++ rest), bytes_append (space ∷ []) rest)

atoms_weigh : (xs : List SolidAtom) → length xs ≤ weight (map leaf_pieces (map atom_as_leaf xs))
atoms_weigh [] = omega arith
atoms_weigh (x ∷ xs) = omega (arith, atoms_weigh xs)

rules_weigh : (rs : List Rule) → length rs ≤ weight (rules_pieces (listed_rules rs))
rules_weigh [] = omega arith
rules_weigh (r ∷ rs) = omega (arith, rules_weigh rs)

-- a membrane has two braces
braces_weigh : (ps : List Piece) → bytes (word kind.LBrace (codes "{") ∷ (ps ++ word kind.RBrace (codes "}") ∷ [])) ≡ bytes ps + 2
braces_weigh ps = omega (arith, bytes_append ps (word kind.RBrace (codes "}") ∷ []))

mutual
  level_weighs : (S : Region) → item_count_of_region S ≤ weight (level_pieces (as_level S))
  level_weighs (region xs ms rs) =
      let atoms = map leaf_pieces (map atom_as_leaf xs) in
      let membranes = levels_pieces (as_levels ms) in
      let rules = rules_pieces (listed_rules rs) in
      omega (arith, atoms_weigh xs, levels_weigh ms, rules_weigh rs, weight_append atoms (membranes ++ rules), weight_append membranes rules)

  levels_weigh : (ms : Regions) → item_count_of_regions ms ≤ weight (levels_pieces (as_levels ms))
  levels_weigh no_region = omega arith
  levels_weigh (region_and m ms) =
      let inside = level_pieces (as_level m) in
      omega (arith, level_weighs m, levels_weigh ms, commas_weigh inside, braces_weigh (with_commas inside))

pub items_in_line : (S : Region) → item_count_of_region S < length (line_of_solid S)
items_in_line S =
    let items = level_pieces (as_level S) in
    omega (arith, level_weighs S, stops_weigh items, length-append (text_of (with_full_stops items)) (codes "\n"))
