-- The items of a solid, and those of its region.
use Rattle.std.proofs.Common.{ℕ, ◌≡◌, ◌+◌, List, [], ◌∷◌, map, length, sum, refl, subst, arith}
use Rattle.std.proofs.lemmas.List.{length-map}
use Rattle.std.proofs.lemmas.List.Sums.{sum_by-cons}
use Rattle.lmn_base.specs.declared.solid.Region.{Region}
use Rattle.lmn_base.specs.declared.solid.Region.TheFolds.{fold-Region, fold-roll-Region, ind-Region}
use Rattle.lmn_base.specs.Solids.{items_step}
use Rattle.lmn_congruence.specs.Regions as solid
use Rattle.lmn_congruence.specs.Rules as tree
use Rattle.lmn_congruence.specs.Translation.{solid_atom_of, regions, region_step, numbered_rule, numbered_region}
use Rattle.lmn_congruence.specs.TranslationLaws.{ItemsKept}

module _ (names : List tree.Name) (number : ℕ → tree.Rule) where
  abbrev SameItems : Region → Type 0
  SameItems r = solid.item_count_of_region (numbered_region names number r) ≡ fold-Region ℕ items_step r

  abbrev inner_total : List Region → ℕ
  inner_total rs = length rs + sum (map (fold-Region ℕ items_step) rs)

  inner_items : (rs : List ((r : Region) × SameItems r)) → solid.item_count_of_regions (regions (map (numbered_region names number) (map (λ e. e.0) rs))) ≡ inner_total (map (λ e. e.0) rs)
  inner_items [] = refl
  inner_items (e ∷ rs) = omega (arith, e.1, inner_items rs, sum_by-cons (λ n. n) (fold-Region ℕ items_step e.0) (map (fold-Region ℕ items_step) (map (λ e. e.0) rs)))

  same_items : (r : Region) → SameItems r
  same_items = ind-Region SameItems (λ y z is.
      let inside = subst (λ r. solid.item_count_of_regions (regions (map (numbered_region names number) r.membranes)) ≡ inner_total r.membranes) is (inner_items z.membranes) in
      rw (fold-roll-Region solid.Region (region_step names number) y, fold-roll-Region ℕ items_step y)
      (omega (arith, inside, length-map y.atoms (solid_atom_of names), length-map y.rules number, length-map y.membranes (fold-Region ℕ items_step))))

-- a solid has as many items as its region
pub items_kept : ItemsKept
items_kept names table s = same_items names (numbered_rule names table) s.root
