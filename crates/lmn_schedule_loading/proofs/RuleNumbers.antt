-- The rules of a store that is loaded are those of the plain's table.
use Rattle.std.proofs.Common.{ℕ, zero, ◌≡◌, ◌<◌, List, [], ◌∷◌, ◌++◌, length, All, Option, Some, None, IsSome, refl, sym, ap, subst, ◌∙◌, inl, inr, arith}
use Rattle.lmn_base.specs.declared.solid.Region.{Region}
use Rattle.lmn_base.specs.declared.solid.Region.TheViews.{roll-Region}
use Rattle.lmn_base.specs.declared.solid.Region.TheFolds.{fold-roll-Region}
use Rattle.lmn_base.specs.Solids.{rules_step}
use Rattle.lmn_store_heap.specs.Heap.{Heap, HeapMem, atoms_in, rules_in, rules_by}
use Rattle.lmn_store_heap.specs.Solid.{solid_atoms_at, regions_of}
use Rattle.lmn_store_heap.specs.Sound.{Forest, bare, mem, flat}
use Rattle.lmn_schedule_loading.specs.Laws.{LoadedRules}
use Rattle.lmn_base.proofs.Common.{rules}
use Rattle.lmn_congruence.proofs.Common.{rules_kept, all_rules}
use Rattle.lmn_base.specs.Lists.{In}
use Rattle.lmn_base.proofs.Lists.{in_either, all_of_left, all_of_right}

all_in : (P : ℕ → Type 0) (xs : List ℕ) → All P xs → (k : ℕ) → In k xs → P k
all_in P [] h k i = absurd i
all_in P (x ∷ xs) h k (inl e) = subst P e (h zero x (omega arith))
all_in P (x ∷ xs) h k (inr i) = all_in P xs (all_of_right P (x ∷ []) xs h) k i

-- the region of a membrane with this forest inside it
abbrev regions_first : Heap → (ℕ → ℕ → ℕ) → ℕ → Forest → Region
regions_first s name n x = roll-Region (record { atoms = solid_atoms_at s name (atoms_in s n); membranes = regions_of s name x; rules = rules_in s n })

-- what holds of each rule of the regions of a forest holds of each rule of its membranes
pub in_forest : (P : ℕ → Type 0) (s : Heap) (name : ℕ → ℕ → ℕ) (f : Forest) → All P (all_rules (regions_of s name f)) → (m : ℕ) → In m (flat f) → All P (rules_in s m)
in_forest P s name bare h m i = absurd i
in_forest P s name (mem n x r) h m i =
    let here : rules (regions_first s name n x) ≡ rules_in s n ++ all_rules (regions_of s name x) = fold-roll-Region (List ℕ) rules_step _ in
    let first : All P (rules_in s n ++ all_rules (regions_of s name x)) = subst (All P) here (all_of_left P (rules (regions_first s name n x)) (all_rules (regions_of s name r)) h) in
    let rest : All P (all_rules (regions_of s name r)) = all_of_right P (rules (regions_first s name n x)) (all_rules (regions_of s name r)) h in
    elim i [
      | inl e ↦ subst (λ k. All P (rules_in s k)) e (all_of_left P (rules_in s n) (all_rules (regions_of s name x)) first)
      | inr j ↦ elim (in_either m (flat x) (flat r) j) [
        | inl q ↦ in_forest P s name x (all_of_right P (rules_in s n) (all_rules (regions_of s name x)) first) m q
        | inr q ↦ in_forest P s name r rest m q
      ]
    ]

listed_mem : (o : Option HeapMem) (k : ℕ) → In k (rules_by o) → IsSome o
listed_mem None k i = absurd i
listed_mem (Some x) k i = refl

-- each rule of a membrane that is loaded is one of the table
pub loaded_rules : LoadedRules
loaded_rules p s well l m k i =
    let P : ℕ → Type 0 = λ n. n < length p.rules in
    let top : All P (rules l.solid.root) = subst (All P) (sym (ap rules l.of_plain.is ∙ rules_kept l.of_plain.to p.top)) well.rules_at_top in
    let whole : All P (all_rules (regions_of s l.of_heap.name l.of_heap.forest)) = subst (λ rs. All P (all_rules rs)) (sym l.of_heap.root) (subst (All P) (sym (nil (rules l.solid.root))) top) in
    all_in P (rules_in s m) (in_forest P s l.of_heap.name l.of_heap.forest whole m (l.of_heap.tree.all m (listed_mem (s.mems m) k i))) k i
  where
    nil : (xs : List ℕ) → xs ++ [] ≡ xs
    nil [] = refl
    nil (x ∷ xs) = ap (λ ys. x ∷ ys) (nil xs)
