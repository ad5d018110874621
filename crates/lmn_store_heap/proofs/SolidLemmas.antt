-- What the solid depends on.
use Rattle.std.proofs.Common.{◌≡◌, ℕ, List, [], ◌∷◌, ◌++◌, refl, sym, ap, ◌∙◌, inl, inr}
use Rattle.std.proofs.lemmas.List.{append_assoc}
use Rattle.lmn_store_heap.proofs.ListLemmas.{in_left, in_right}
use Rattle.lmn_store_heap.specs.Heap.{Heap, atoms_in, rules_in}
use Rattle.lmn_store_heap.specs.Sound.{Forest, bare, mem, flat}
use Rattle.lmn_base.specs.declared.solid.Region.TheViews.{roll-Region}
use Rattle.lmn_store_heap.specs.Solid.{solid_atoms_at, solid_atom_at, regions_of}
use Rattle.lmn_store_heap.proofs.Groves.{beside}
use Rattle.lmn_base.specs.Lists.{In}

-- the atoms of two lists, one behind the other
pub atoms_append : (s : Heap) (name : ℕ → ℕ → ℕ) (xs ys : List ℕ) → solid_atoms_at s name (xs ++ ys) ≡ solid_atoms_at s name xs ++ solid_atoms_at s name ys
atoms_append s name [] ys = refl
atoms_append s name (x ∷ xs) ys = ap (λ zs. solid_atom_at name x (s.atoms x) ++ zs) (atoms_append s name xs ys) ∙ sym (append_assoc (solid_atom_at name x (s.atoms x)) (solid_atoms_at s name xs) (solid_atoms_at s name ys))

-- the regions of two forests side by side
pub regions_beside : (s : Heap) (name : ℕ → ℕ → ℕ) (f g : Forest) → regions_of s name (beside f g) ≡ regions_of s name f ++ regions_of s name g
regions_beside s name bare g = refl
regions_beside s name (mem m i r) g =
    ap (λ zs. roll-Region (record { atoms = solid_atoms_at s name (atoms_in s m); membranes = regions_of s name i; rules = rules_in s m }) ∷ zs) (regions_beside s name r g)

-- the atoms and the rules of each membrane of the forest, and nothing else
pub regions_frame : (s t : Heap) (u v : ℕ → ℕ → ℕ) (f : Forest)
    → ((m : ℕ) → In m (flat f) → (solid_atoms_at s u (atoms_in s m) ≡ solid_atoms_at t v (atoms_in t m)) × (rules_in s m ≡ rules_in t m)) → regions_of s u f ≡ regions_of t v f
regions_frame s t u v bare same = refl
regions_frame s t u v (mem m i r) same =
    let here = same m (inl refl) in
    let inner = regions_frame s t u v i (λ k p. same k (inr (in_left k (flat i) (flat r) p))) in
    let rest = regions_frame s t u v r (λ k p. same k (inr (in_right k (flat i) (flat r) p))) in
    λ z. roll-Region (record { atoms = here.0 z; membranes = inner z; rules = here.1 z }) ∷ rest z
