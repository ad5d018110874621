-- The line of a solid reads as that solid.
use Rattle.std.proofs.Common.{◌≡◌, ℕ, List, [], ◌∷◌, map, refl, sym, ap, ◌∙◌, subst}
use Rattle.std.specs.List.{AllByRecursion}
use Rattle.lmn_congruence.specs.Fused.{Joins}
use Rattle.lmn_congruence.specs.Plains.{leaf_process, level_process, levels_processes, fused_leaves, fused_level, fused_levels, SolidOf}
use Rattle.lmn_congruence.specs.Process.{Process, Closed, pair, membrane, together, rule}
use Rattle.lmn_congruence.specs.Regions.{SolidAtom, Region, region, Regions, no_region, region_and, atom_process, region_process, regions_processes}
use Rattle.lmn_congruence.specs.Rules as tree
use Rattle.lmn_congruence.specs.Rules.{rules_list}
use Rattle.lmn_congruence.specs.Translation.{region_of, rules}
use Rattle.lmn_congruence.proofs.TranslatedLinks.{solids_closed}
use Rattle.lmn_flatten_plain.specs.Outside.{NotTyped, NoContexts, AllWithout}
use Rattle.lmn_flatten_plain.specs.SolidLines.{atom_as_leaf, as_level, as_levels, SolidLinesAreRead}
use Rattle.lmn_flatten_plain.proofs.PrintedLines.{lines_are_read}
use Rattle.lmn_flatten_plain.proofs.SolidNames.{solid_held}
use Rattle.lmn_flatten_plain.proofs.SolidNumbers.{solid_numbers, solid_rules_numbered}
use Rattle.lmn_base.proofs.Lists.{map_itself}
use Rattle.lmn_congruence.proofs.Common.{rules_join as joins_rules, rules_listed as same_rules}
use Rattle.lmn_congruence.proofs.RenamedRegions.{region_with, regions_with}

-- no context

atoms_not_typed : (xs : List SolidAtom) → AllByRecursion NotTyped (map atom_as_leaf xs)
atoms_not_typed [] = tt
atoms_not_typed (a ∷ xs) = (tt, atoms_not_typed xs)

mutual
  pub no_contexts : (r : Region) → NoContexts (as_level r)
  no_contexts (region atoms membranes rs) = (atoms_not_typed atoms, none_below membranes, refl, refl)

  none_below : (rs : Regions) → AllWithout (as_levels rs)
  none_below no_region = tt
  none_below (region_and r rs) = (no_contexts r, none_below rs)

-- the process

same_atoms : (xs : List SolidAtom) → map leaf_process (map atom_as_leaf xs) ≡ map atom_process xs
same_atoms [] = refl
same_atoms (a ∷ xs) = ap (λ ps. atom_process a ∷ ps) (same_atoms xs)

two : {a b : Process} {ps qs : List Process} → a ≡ b → ps ≡ qs → membrane a ∷ ps ≡ membrane b ∷ qs
two e f = cc

mutual
  pub same_process : (r : Region) → level_process (as_level r) ≡ region_process r
  same_process (region atoms membranes rs) =
      ap (λ ps. pair (together ps) (pair (together (levels_processes (as_levels membranes))) (together (map rule (rules_list (rules rs)))))) (same_atoms atoms)
      ∙ ap (λ ps. pair (together (map atom_process atoms)) (pair (together ps) (together (map rule (rules_list (rules rs)))))) (same_processes membranes)
      ∙ ap (λ xs. pair (together (map atom_process atoms)) (pair (together (regions_processes membranes)) (together (map rule xs)))) (same_rules rs)

  same_processes : (rs : Regions) → levels_processes (as_levels rs) ≡ regions_processes rs
  same_processes no_region = refl
  same_processes (region_and r rs) = two (same_process r) (same_processes rs)

-- no connector

joins_atoms : (v : ℕ → ℕ) (xs : List SolidAtom) → Joins v (together (map atom_process xs))
joins_atoms v [] = tt
joins_atoms v (a ∷ xs) = (tt, joins_atoms v xs)

mutual
  joins_region : (v : ℕ → ℕ) (r : Region) → Joins v (region_process r)
  joins_region v (region atoms membranes rs) = (joins_atoms v atoms, (joins_regions v membranes, joins_rules v rs))

  joins_regions : (v : ℕ → ℕ) (rs : Regions) → Joins v (together (regions_processes rs))
  joins_regions v no_region = tt
  joins_regions v (region_and r rs) = (joins_region v r, joins_regions v rs)

-- nothing is fused

-- lists with the same first atom and the same others are the same
pub two_atoms : {a b : SolidAtom} {xs ys : List SolidAtom} → a ≡ b → xs ≡ ys → a ∷ xs ≡ b ∷ ys
two_atoms e f = cc

-- atoms as leaves, fused by the map that changes nothing, are these atoms
pub atoms_fused : (xs : List SolidAtom) → fused_leaves (λ x. x) (map atom_as_leaf xs) ≡ xs
atoms_fused [] = refl
atoms_fused (a ∷ xs) = two_atoms (ap (λ ys. record { label = a.label; links = ys }) (map_itself a.links)) (atoms_fused xs)

mutual
  region_fused : (r : Region) → fused_level (λ x. x) (as_level r) ≡ r
  region_fused (region atoms membranes rs) = region_with (atoms_fused atoms) (regions_fused membranes) (same_rules rs)

  regions_fused : (rs : Regions) → fused_levels (λ x. x) (as_levels rs) ≡ rs
  regions_fused no_region = refl
  regions_fused (region_and r rs) = regions_with (region_fused r) (regions_fused rs)

-- a closed region is the solid of its own level
pub own_solid : (r : Region) → Closed (region_process r) → SolidOf (as_level r) r
own_solid r h =
    let P : Process → Type 0 = Closed in
    let Q : Process → Type 0 = Joins (λ x. x) in
    record {
      closed_top = subst P (sym (same_process r)) h;
      to = λ x. x;
      joins = subst Q (sym (same_process r)) (joins_region (λ x. x) r);
      is = sym (region_fused r);
      closed = h;
    }

-- the line of a solid reads back as that solid, and its top as the solid's level
pub solid_lines_are_read : SolidLinesAreRead
solid_lines_are_read names made s well solid has named spelled =
    let r = region_of names made.rules s in
    let numbers = solid_numbers names made s solid in
    let read = lines_are_read names (as_level r) numbers.0 named.0 (solid_held names made s well has named) spelled numbers.1 (solid_rules_numbered names made s well has) (no_contexts r) in
    let P : tree.Level → Type 0 = λ l. SolidOf l r in (
      read.0,
      read.1,
      read.2,
      read.3,
      λ p plain. (read.4 p plain, subst P (sym (read.4 p plain)) (own_solid r (solids_closed names made.rules s solid))),
    )
