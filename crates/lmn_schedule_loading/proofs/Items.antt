-- How many items the solid of a plain has, and laws of loading.
use Rattle.std.proofs.Common.{ℕ, ◌≡◌, ◌+◌, ◌-◌, ◌^◌, ◌<◌, ◌≤◌, Bool, true, false, cond, not, List, [], ◌∷◌, map, length, min, refl, sym, ap, subst, ◌∙◌, arith}
use Rattle.std.specs.List.{flat_map}
use Rattle.std.specs.Prelude.{sum}
use Rattle.std.proofs.lemmas.List.{length-append}
use Rattle.std.proofs.lemmas.List.Sums.{sum_by-cons}
use Rattle.lmn_base.specs.declared.level.Leaf.{Leaf}
use Rattle.lmn_base.specs.declared.level.Leaf.TheVariants.{Atom, Typed}
use Rattle.lmn_base.specs.declared.level.Level.{Level}
use Rattle.lmn_base.specs.declared.level.Level.TheFolds.{fold-roll-Level, ind-Level}
use Rattle.lmn_base.specs.declared.rule.Plain.{Plain}
use Rattle.lmn_base.specs.declared.solid.Region.{Region}
use Rattle.lmn_base.specs.declared.solid.Region.TheFolds.{fold-Region, fold-roll-Region}
use Rattle.lmn_base.specs.declared.solid.Solid.{Solid}
use Rattle.lmn_base.specs.declared.solid.SolidAtom.{SolidAtom}
use Rattle.lmn_base.specs.Solids.{item_count, items_step, is_connector}
use Rattle.lmn_congruence.specs.SolidsOfPlains.{fused_leaf, fused_step, fused_region, IsSolidOf}
use Rattle.lmn_congruence.specs.Translation.{top_of, region_of}
use Rattle.lmn_congruence.proofs.SolidsOfPlains.{solids_of_plains}
use Rattle.lmn_reduction.proofs.Plains.{plain_settles}
use Rattle.lmn_store_heap.specs.Heap.{top}
use Rattle.lmn_store_heap.specs.Examples.{across}
use Rattle.lmn_schedule_loading.specs.Loaded.{IsEmpty, stands, one_if_atom, atoms_among, loaded_step, loaded_items}
use Rattle.lmn_schedule_loading.specs.Laws.{LoadingSettles, EmptyStores}
use Rattle.lmn_base.proofs.Lists.{none_is_not}
use Rattle.lmn_store_heap.proofs.Lone.{is_root as only_root}

module _ (v : ℕ → ℕ) where
  one_leaf : (l : Leaf) → length (fused_leaf v l) ≡ cond (stands l) 1 0
  one_leaf (Typed n o p) = refl
  one_leaf (Atom f os p) = by (is_connector f)
    where
      by : (b : Bool) → length {A = SolidAtom} (cond b [] (record { functor = f; links = map (λ o. v o.link) os } ∷ [])) ≡ cond (not b) 1 0
      by true = refl
      by false = refl

  leaves_number : (ls : List Leaf) → length (flat_map (fused_leaf v) ls) ≡ atoms_among ls
  leaves_number [] = refl
  leaves_number (l ∷ ls) = let a = one_leaf l in let b = leaves_number ls in let c = sum_by-cons (λ (n : ℕ). n) (one_if_atom l) (map one_if_atom ls) in length-append (fused_leaf v l) (flat_map (fused_leaf v) ls) ∙ omega (arith, a, b, c)

  abbrev items : Region → ℕ
  items = fold-Region ℕ items_step

  abbrev Counted : Level → Type 0
  Counted l = items (fused_region v l) ≡ loaded_items l

  inner_counted : (ls : List ((l : Level) × Counted l)) → map items (map (fused_region v) (map (λ e. e.0) ls)) ≡ map loaded_items (map (λ e. e.0) ls)
  inner_counted [] = refl
  inner_counted (e ∷ ls) = rw (e.1, inner_counted ls) refl

  pub items_fused : (l : Level) → Counted l
  items_fused = ind-Level Counted (λ y z is.
      let inside = subst (λ l. map items (map (fused_region v) l.membranes) ≡ map loaded_items l.membranes) is (inner_counted z.membranes) in
      rw (fold-roll-Level Region (fused_step v) y, fold-roll-Region ℕ items_step _, fold-roll-Level ℕ loaded_step y, inside, leaves_number y.leaves)
      (sums (atoms_among y.leaves) (length (map loaded_items y.membranes)) (sum (map loaded_items y.membranes)) (length y.rules)))
    where
      sums : (a b c d : ℕ) → a + b + c + d ≡ a + (b + (d + c))
      sums a b c d = omega arith

-- the solid of a plain has as many items as the plain says
pub solid_items : (p : Plain) (s : Solid) → IsSolidOf p s → item_count s ≡ loaded_items p.top
solid_items p s h = ap (λ r. fold-Region ℕ items_step r) h.is ∙ items_fused h.to p.top

small : (n k size : ℕ) → size < 2 ^ 64 - 1 → k ≡ min n (2 ^ 64 - 1) → k ≤ size → n ≤ size
small n k size a b c = grind arith

-- a plain that isn't too large has a solid that fits
pub fits_in : (p : Plain) (k size : ℕ) → size < 2 ^ 64 - 1 → k ≡ min (loaded_items p.top) (2 ^ 64 - 1) → k ≤ size → (s : Solid) → IsSolidOf p s → item_count s ≤ size
fits_in p k size a b c s h = subst (λ n. n ≤ size) (sym (solid_items p s h)) (small (loaded_items p.top) k size a b c)

great : (n k size : ℕ) → k ≡ min n (2 ^ 64 - 1) → size < k → size < n
great n k size a b = grind arith

-- and one that is too large has none
pub too_large : (p : Plain) (k size : ℕ) → k ≡ min (loaded_items p.top) (2 ^ 64 - 1) → size < k → (s : Solid) → IsSolidOf p s → (size < item_count s) × (k ≡ min (item_count s) (2 ^ 64 - 1))
too_large p k size b c s h = (
  subst (λ n. size < n) (sym (solid_items p s h)) (great (loaded_items p.top) k size b c),
  b ∙ ap (λ n. min n (2 ^ 64 - 1)) (sym (solid_items p s h)),
)

-- Laws

-- the process of a plain settles to that of the solid that is loaded
pub loading_settles : LoadingSettles
loading_settles names p s well l = plain_settles (top_of names p) (region_of names p.rules l.solid) (solids_of_plains names p l.solid well l.of_plain)

has_an_atom : IsEmpty across → ⊥
has_an_atom e = none_is_not (across.atoms 0) (e.no_atom 0) refl

-- a new store is empty, and that of the example is not
pub empty_stores : EmptyStores
empty_stores = (record { no_atom = λ a. refl; only_root = only_root; no_rule = refl }, has_an_atom)
