-- Regions that are the same up to the order of atoms.
use Rattle.std.specs.Prelude.{ℕ, ◌≡◌, List}
use Rattle.lmn_congruence.specs.Orders.{Shuffle}
use Rattle.lmn_congruence.specs.Process.{OneToOneOn}
use Rattle.lmn_congruence.specs.Regions.{SolidAtom, Region, region, Regions, no_region, region_and, region_process}
use Rattle.lmn_congruence.specs.Rules.{Rule}
use Rattle.lmn_congruence.specs.Same.{renamed_atom}

-- The links are renamed, and the atoms of each membrane stand in some order. Membranes and rules stand as they stood.
mutual
  pub data AtomsReordered (f : ℕ → ℕ) : Region → Region → Type 0 where
    atoms_reordered : {xs ys : List SolidAtom} {ms ns : Regions} {rs : List Rule} →
        Shuffle (λ a b. renamed_atom f a ≡ b) xs ys → EachReordered f ms ns → AtomsReordered f (region xs ms rs) (region ys ns rs)

  pub data EachReordered (f : ℕ → ℕ) : Regions → Regions → Type 0 where
    none_reordered : EachReordered f no_region no_region
    more_reordered : {m n : Region} {ms ns : Regions} → AtomsReordered f m n → EachReordered f ms ns →
        EachReordered f (region_and m ms) (region_and n ns)

-- equal up to the order of atoms and the numbers of links
pub record SameUpToAtomOrder (S S' : Region) : Type 0 where
  pub to : ℕ → ℕ
  pub one_to_one : OneToOneOn to (region_process S)
  pub same : AtomsReordered to S S'
