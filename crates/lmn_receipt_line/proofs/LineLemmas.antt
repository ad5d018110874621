-- What is written is the line of the solid, and as many membranes are met as it has.
use Rattle.std.proofs.Common.{◌≡◌, ◌∙◌, ℕ, zero, suc, ◌+◌, ◌<◌, true, false, List, [], ◌∷◌, ◌++◌, length, map, refl, sym, ap, subst, arith}
use Rattle.std.specs.Prelude.{codes}
use Rattle.std.specs.List.{sum_by}
use Rattle.std.proofs.lemmas.List.{append_assoc, length-append, map-append}
use Rattle.std.proofs.lemmas.List.Sums.{sum_by-cons, sum-map}
use Rattle.lmn_adequacy.specs.Choice.{paths, paths_from}
use Rattle.lmn_base.specs.declared.rule.RuleTree.{RuleTree}
use Rattle.lmn_base.specs.declared.solid.Region.{Region}
use Rattle.lmn_base.specs.declared.solid.Region.TheFolds.{fold-roll-Region, fold_out-Region, ind-Region}
use Rattle.lmn_base.specs.declared.solid.Region.TheOpen.{Region-F}
use Rattle.lmn_base.specs.declared.solid.Region.TheViews.{out-Region}
use Rattle.lmn_base.specs.declared.solid.Solid.{Solid}
use Rattle.lmn_base.specs.declared.solid.SolidAtom.{SolidAtom}
use Rattle.lmn_congruence.specs.Regions as solid
use Rattle.lmn_congruence.specs.Rules as tree
use Rattle.lmn_congruence.specs.Translation.{numbered_region, numbered_rule, region_of, region_step, regions, rules, solid_atom_of}
use Rattle.lmn_flatten_plain.specs.SolidLines.{as_level, as_levels, atom_as_leaf, solid_line}
use Rattle.lmn_flatten_plain.specs.Words.{leaf_pieces, level_pieces, levels_pieces, rules_pieces, text_of, with_commas}
use Rattle.lmn_flatten_plain.proofs.LaidLines.{text_append}
use Rattle.lmn_print_plain.specs.Rows.{any_behind, between_if, in_row}
use Rattle.lmn_print_plain.specs.Stored.{solid_atom_text}
use Rattle.lmn_print_plain.proofs.LineLemmas.{rules_texts, stops_row}
use Rattle.lmn_print_plain.proofs.RowLemmas.{any_map, comma_row}
use Rattle.lmn_receipt_line.specs.Walking.{count_step, line_end, line_text, membrane_count, membrane_step, membrane_text, rule_text, texts_in}

more_paths : (n : ℕ) (ps qs : List (List ℕ)) (a b : ℕ) → a ≡ length ps → b ≡ length qs → a + b ≡ length (map (λ path. n ∷ path) ps ++ qs)
more_paths n [] qs a b e d = omega (arith, e, d)
more_paths n (p ∷ ps) qs zero b e d = absurd (omega (arith, e))
more_paths n (p ∷ ps) qs (suc a) b e d = let behind = more_paths n ps qs a b (omega (arith, e)) d in omega (arith, behind)

module _ (names : List tree.Name) (table : List RuleTree) where
  abbrev rule : ℕ → tree.Rule
  rule = numbered_rule names table

  abbrev reg : Region → solid.Region
  reg = numbered_region names rule

  -- ---- the text of a membrane

  abbrev Braced : Region → Type 0
  Braced r = codes "{" ++ (text_of (with_commas (level_pieces (as_level (reg r)))) ++ codes "}") ≡ membrane_text names table r

  abbrev AreBraced : List Region → Type 0
  AreBraced rs = map text_of (levels_pieces (as_levels (regions (map reg rs)))) ≡ map (membrane_text names table) rs

  one_more : (r : Region) (rs : List Region) → Braced r → AreBraced rs → AreBraced (r ∷ rs)
  one_more r rs e d =
      let whole = with_commas (level_pieces (as_level (reg r))) in
      let here = ap (λ t. 123 ∷ t) (text_append whole _) ∙ e in
      λ i. here i ∷ d i

  each_braced : (rs : List ((r : Region) × Braced r)) → AreBraced (map (λ e. e.0) rs)
  each_braced [] = refl
  each_braced (e ∷ rs) = one_more e.0 (map (λ e. e.0) rs) e.1 (each_braced rs)

  atoms_texts : (xs : List SolidAtom) → map text_of (map leaf_pieces (map atom_as_leaf (map (solid_atom_of names) xs))) ≡ map (solid_atom_text names) xs
  atoms_texts [] = refl
  atoms_texts (x ∷ xs) = ap (λ ts. solid_atom_text names x ∷ ts) (atoms_texts xs)

  -- the items of a region, list by list
  items_texts : (z : Region-F Region) → AreBraced z.membranes
      → map text_of (level_pieces (as_level (solid.region (map (solid_atom_of names) z.atoms) (regions (map reg z.membranes)) (map rule z.rules))))
      ≡ map (solid_atom_text names) z.atoms ++ (map (membrane_text names table) z.membranes ++ map (rule_text names table) z.rules)
  items_texts z e =
      let ls = map leaf_pieces (map atom_as_leaf (map (solid_atom_of names) z.atoms)) in
      let ms = levels_pieces (as_levels (regions (map reg z.membranes))) in
      let ks = rules_pieces (rules (map rule z.rules)) in
      let inside = map-append text_of ms ks ∙ ap (λ x. x ++ map text_of ks) e ∙ ap (λ x. map (membrane_text names table) z.membranes ++ x) (rules_texts names table z.rules) in
      map-append text_of ls (ms ++ ks) ∙ ap (λ x. x ++ map text_of (ms ++ ks)) (atoms_texts z.atoms) ∙ ap (λ x. map (solid_atom_text names) z.atoms ++ x) inside

  braced : (r : Region) → Braced r
  braced = ind-Region Braced (λ y z is.
      let inside = subst (λ r. AreBraced r.membranes) is (each_braced z.membranes) in
      let ps = level_pieces (as_level (solid.region (map (solid_atom_of names) y.atoms) (regions (map reg y.membranes)) (map rule y.rules))) in
      ap (λ r. codes "{" ++ (text_of (with_commas (level_pieces (as_level r))) ++ codes "}")) (fold-roll-Region solid.Region (region_step names rule) y)
      ∙ ap (λ t. codes "{" ++ (t ++ codes "}")) (comma_row ps ∙ ap (in_row (codes ", ") false) (items_texts y inside))
      ∙ sym (fold-roll-Region (List ℕ) (membrane_step names table) y))

  all_braced : (rs : List Region) → AreBraced rs
  all_braced [] = refl
  all_braced (r ∷ rs) = one_more r rs (braced r) (all_braced rs)

  -- ---- the line

  region_texts : (r : Region) → map text_of (level_pieces (as_level (reg r))) ≡ texts_in names table r
  region_texts r =
      ap (λ s. map text_of (level_pieces (as_level s))) (fold_out-Region solid.Region (region_step names rule) r) ∙ items_texts (out-Region r) (all_braced (out-Region r).membranes)

  -- the line of the solid is the line as it is written
  pub line_is : (s : Solid) → solid_line names table s ≡ line_text names table s.root
  line_is s =
      let ps = level_pieces (as_level (reg s.root)) in
      let texts = texts_in names table s.root in
      ap (λ t. t ++ codes "\n")
      (stops_row ps
      ∙ ap (λ a. in_row (codes ". ") false (map text_of ps) ++ between_if (codes ".") a) (sym (any_map text_of false ps))
      ∙ ap (λ ts. in_row (codes ". ") false ts ++ between_if (codes ".") (any_behind false ts)) (region_texts s.root))
      ∙ append_assoc (in_row (codes ". ") false texts) (between_if (codes ".") (any_behind false texts)) (codes "\n")

  -- it isn't empty
  pub line_there : (r : Region) → 0 < length (line_text names table r)
  line_there r =
      let any = between_if (codes ".") (any_behind false (texts_in names table r)) in
      let a = length-append (in_row (codes ". ") false (texts_in names table r)) (line_end names table r) in
      let b = length-append any (codes "\n") in
      omega (arith, a, b)

  -- ---- how many membranes there are

  abbrev Counted : Region → Type 0
  Counted r = membrane_count r ≡ length (paths (reg r))

  each_counted : (n : ℕ) (rs : List ((r : Region) × Counted r)) → sum_by membrane_count (map (λ e. e.0) rs) ≡ length (paths_from n (regions (map reg (map (λ e. e.0) rs))))
  each_counted n [] = refl
  each_counted n (e ∷ rs) =
      let here = e.1 in
      let behind = each_counted (suc n) rs in
      sum_by-cons membrane_count e.0 (map (λ e. e.0) rs)
      ∙ more_paths n (paths (reg e.0)) (paths_from (suc n) (regions (map reg (map (λ e. e.0) rs)))) (membrane_count e.0) (sum_by membrane_count (map (λ e. e.0) rs)) here behind

  counted : (r : Region) → Counted r
  counted = ind-Region Counted (λ y z is.
      let inside = subst (λ r. sum_by membrane_count r.membranes ≡ length (paths_from 0 (regions (map reg r.membranes)))) is (each_counted 0 z.membranes) in
      fold-roll-Region ℕ count_step y ∙ ap suc (sum-map membrane_count y.membranes ∙ inside) ∙ sym (ap (λ s. length (paths s)) (fold-roll-Region solid.Region (region_step names rule) y)))

  -- as many as the calculus has paths
  pub count_is : (s : Solid) → membrane_count s.root ≡ length (paths (region_of names table s))
  count_is s = counted s.root

-- ---- whether anything stands in a region

any_there : {X : Type 0} (f : X → List ℕ) (xs : List X) (rest : List (List ℕ)) → 0 < length xs → any_behind false (map f xs ++ rest) ≡ true
any_there f [] rest l = absurd (omega (arith, l))
any_there f (x ∷ xs) rest l = refl

any_behind_these : (ts rest : List (List ℕ)) → any_behind false rest ≡ true → any_behind false (ts ++ rest) ≡ true
any_behind_these [] rest e = e
any_behind_these (t ∷ ts) rest e = refl

-- where there are atoms, and where there are membranes
pub atoms_there : (names : List tree.Name) (table : List RuleTree) (r : Region) → 0 < length (out-Region r).atoms → any_behind false (texts_in names table r) ≡ true
atoms_there names table r l =
    any_there (solid_atom_text names) (out-Region r).atoms (map (membrane_text names table) (out-Region r).membranes ++ map (rule_text names table) (out-Region r).rules) l

pub membranes_there : (names : List tree.Name) (table : List RuleTree) (r : Region) → 0 < length (out-Region r).membranes → any_behind false (texts_in names table r) ≡ true
membranes_there names table r l =
    any_behind_these (map (solid_atom_text names) (out-Region r).atoms) (map (membrane_text names table) (out-Region r).membranes ++ map (rule_text names table) (out-Region r).rules)
    (any_there (membrane_text names table) (out-Region r).membranes (map (rule_text names table) (out-Region r).rules) l)
