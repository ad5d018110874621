-- Regions that are the same up to the order of atoms are the same.
use Rattle.std.proofs.Common.{◌≡◌, ℕ, List, [], ◌∷◌, refl}
use Rattle.lmn_congruence.specs.Orders.{Shuffle, none, more, here}
use Rattle.lmn_congruence.specs.Regions.{Region, Regions}
use Rattle.lmn_congruence.specs.Rules.{Rule}
use Rattle.lmn_congruence.specs.Same.{SameRegion, same_region, SameRegions, none_left, one_more, first, Same}
use Rattle.lmn_print_folded_laws.specs.Reordered.{AtomsReordered, atoms_reordered, EachReordered, none_reordered, more_reordered, SameUpToAtomOrder}

same_rules : (rs : List Rule) → Shuffle (λ r s. r ≡ s) rs rs
same_rules [] = none
same_rules (r ∷ rs) = more refl (same_rules rs) here

module _ (f : ℕ → ℕ) where
  mutual
    pub as_same : {S T : Region} → AtomsReordered f S T → SameRegion f S T
    as_same (atoms_reordered {rs = rs} a m) = same_region a (all_as_same m) (same_rules rs)

    all_as_same : {ms ns : Regions} → EachReordered f ms ns → SameRegions f ms ns
    all_as_same none_reordered = none_left
    all_as_same (more_reordered r rs) = one_more (as_same r) (all_as_same rs) first

-- the record of one is that of the other
pub is_same : {S T : Region} → SameUpToAtomOrder S T → Same S T
is_same h = record { to = h.to; one_to_one = h.one_to_one; same = as_same h.to h.same }
