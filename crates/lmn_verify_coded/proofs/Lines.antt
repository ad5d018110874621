-- Room for more rules isn't printed.
use Rattle.std.proofs.Common.{ℕ, ◌≡◌, ◌<◌, Bool, List, [], ◌∷◌, ◌++◌, Option, Some, None, IsSome, refl, sym, ap, subst, ◌∙◌, inl, inr}
use Rattle.std.specs.Prelude.{slice_index_or, length}
use Rattle.std.specs.Option.{option_map}
use Rattle.lmn_base.specs.declared.rule.RuleTree.{RuleTree}
use Rattle.lmn_base.specs.declared.solid.Region.TheViews.{roll-Region}
use Rattle.lmn_congruence.specs.Rules.{Name}
use Rattle.lmn_store_heap.specs.Heap.{Heap, HeapMem, atoms_by, mems_by, rules_by, atoms_in, partners_of, mem_with_spare, mems_in, rules_in}
use Rattle.lmn_store_heap.specs.Solid.{IsNaming, regions_of, solid_atom_at, solid_atoms_at}
use Rattle.lmn_store_heap.specs.Sound.{Forest, bare, mem, Forms, IsTree}
use Rattle.lmn_store_heap.proofs.Groves.{forms_frame}
use Rattle.lmn_solid_bodies.specs.Stopping.{SameButSpares}
use Rattle.lmn_print.specs.Lines.{IsHeapLine}
use Rattle.lmn_adequacy_choices.proofs.Makings.{some_kept as there_after}

-- a membrane with other room has the same lists
same_lists : (o : Option HeapMem) (k : ℕ) → (atoms_by (option_map (mem_with_spare k) o) ≡ atoms_by o) × (mems_by (option_map (mem_with_spare k) o) ≡ mems_by o) × (rules_by (option_map (mem_with_spare k) o) ≡ rules_by o)
same_lists None k = (refl, refl, refl)
same_lists (Some x) k = (refl, refl, refl)

module _ (h t : Heap) (same : SameButSpares h t) where
  atoms_same : (m : ℕ) → atoms_in h m ≡ atoms_in t m
  atoms_same m = let u = same.mems m in sym (ap atoms_by u.1 ∙ (same_lists (h.mems m) u.0).0)

  mems_same : (m : ℕ) → mems_in h m ≡ mems_in t m
  mems_same m = let u = same.mems m in sym (ap mems_by u.1 ∙ (same_lists (h.mems m) u.0).1)

  rules_same : (m : ℕ) → rules_in h m ≡ rules_in t m
  rules_same m = let u = same.mems m in sym (ap rules_by u.1 ∙ (same_lists (h.mems m) u.0).2)

  solid_atoms_same : (name : ℕ → ℕ → ℕ) (xs : List ℕ) → solid_atoms_at h name xs ≡ solid_atoms_at t name xs
  solid_atoms_same name [] = refl
  solid_atoms_same name (x ∷ xs) = let a : solid_atom_at name x (h.atoms x) ≡ solid_atom_at name x (t.atoms x) = ap (solid_atom_at name x) (sym (same.atoms x)) in let b = solid_atoms_same name xs in λ i. a i ++ b i

  regions_same : (name : ℕ → ℕ → ℕ) (f : Forest) → regions_of h name f ≡ regions_of t name f
  regions_same name bare = refl
  regions_same name (mem m i f) =
      let a : solid_atoms_at h name (atoms_in h m) ≡ solid_atoms_at t name (atoms_in t m) = ap (solid_atoms_at h name) (atoms_same m) ∙ solid_atoms_same name (atoms_in t m) in
      let b = regions_same name i in
      let c = rules_same m in
      let d = regions_same name f in
      λ j. roll-Region (record { atoms = a j; membranes = b j; rules = c j }) ∷ d j

  naming_before : (name : ℕ → ℕ → ℕ) → IsNaming t name → IsNaming h name
  naming_before name n = record {
    joined = λ a i b j e. n.joined a i b j (subst (λ x. slice_index_or (partners_of x) i None ≡ Some (b, j)) (sym (same.atoms a)) e);
    apart = λ a i b j p q e. elim (n.apart a i b j (subst (λ x. i < length (partners_of x)) (sym (same.atoms a)) p) (subst (λ x. j < length (partners_of x)) (sym (same.atoms b)) q) e) [
      | inl w ↦ inl w
      | inr w ↦ inr (subst (λ x. slice_index_or (partners_of x) i None ≡ Some (b, j)) (same.atoms a) w)
    ];
  }

  tree_before : (f : Forest) → IsTree t f → IsTree h f
  tree_before f tree = record {
    forms = forms_frame t h f (h.root ∷ []) (λ m p. mems_same m) (subst (λ z. Forms t f (z ∷ [])) same.root tree.forms);
    once = tree.once;
    all = λ m i. tree.all m (let u = same.mems m in subst (λ o. IsSome o) (sym u.1) (there_after (h.mems m) u.0 i));
  }

  -- what is the line of the one is that of the other
  pub line_before : (folded : Bool) (names : List Name) (table : List RuleTree) (line : List ℕ) → IsHeapLine folded names table t line → IsHeapLine folded names table h line
  line_before folded names table line (x, has, is) = (
    x,
    record {
      forest = has.forest;
      tree = tree_before has.forest has.tree;
      name = has.name;
      naming = naming_before has.name has.naming;
      root = regions_same has.name has.forest ∙ has.root;
      count = has.count;
      numbers = has.numbers;
    },
    is,
  )
