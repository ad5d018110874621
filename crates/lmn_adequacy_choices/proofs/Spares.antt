-- Room for more rules is no part of what is read, and marks of membranes are none.
use Rattle.std.proofs.Common.{ℕ, ◌≡◌, ◌<◌, List, [], ◌∷◌, ◌++◌, map, Some, None, refl, sym, ap, subst, ◌∙◌, inl, inr}
use Rattle.std.specs.Prelude.{slice_index_or, length}
use Rattle.std.specs.Option.{option_map}
use Rattle.lmn_store_heap.specs.Heap.{Heap, atoms_in, partners_of, mems_in, rules_in}
use Rattle.lmn_store_heap.specs.Lists.{Distinct}
use Rattle.lmn_store_heap.specs.Solid.{solid_atom_at, solid_atoms_at, IsNaming}
use Rattle.lmn_store_heap.specs.Sound.{Forest, bare, mem, flat, Forms, IsTree}
use Rattle.lmn_store_heap.proofs.Groves.{forms_frame}
use Rattle.lmn_base.specs.declared.rule.RuleTree.{RuleTree}
use Rattle.lmn_store_heap.specs.Sound.{Valid}
use Rattle.lmn_schedule_sleep.proofs.Marks.{ReadAlike, read_alike}
use Rattle.lmn_machine_commit.proofs.Woken.{valid_but_marks}
use Rattle.lmn_schedule_strategy.proofs.Rightly.{spares_alike}
use Rattle.lmn_adequacy_choices.proofs.MarkedHeaps.{sound_but_marks}
use Rattle.lmn_congruence.specs.Regions.{region, region_and}
use Rattle.lmn_congruence.specs.Translation.{solid_atom_of}
use Rattle.lmn_adequacy_heaps.specs.HeapRegions.{HeapReading, atoms_at, regions_at}
use Rattle.lmn_adequacy_choices.specs.Laws.{MarksAreNotRead, SparesAreNotRead}
use Rattle.lmn_adequacy_choices.specs.Turns.{IsReadWith, tree_over, heap_region}
use Rattle.lmn_base.specs.Lists.{In}

module _ (h t : Heap) (same : ReadAlike h t) where
  atoms_same : (m : ℕ) → atoms_in t m ≡ atoms_in h m
  atoms_same m = same.lists m

  mems_same : (m : ℕ) → mems_in t m ≡ mems_in h m
  mems_same m = same.inner m

  rules_same : (m : ℕ) → rules_in t m ≡ rules_in h m
  rules_same m = same.rules m

  -- atoms are the same atoms of a solid,
  pub atoms_of_same : (name : ℕ → ℕ → ℕ) (xs : List ℕ) → solid_atoms_at t name xs ≡ solid_atoms_at h name xs
  atoms_of_same name [] = refl
  atoms_of_same name (x ∷ xs) = let a : solid_atom_at name x (t.atoms x) ≡ solid_atom_at name x (h.atoms x) = ap (solid_atom_at name x) (same.atoms x) in let b = atoms_of_same name xs in λ i. a i ++ b i

  atoms_at_same : (r : HeapReading) (m : ℕ) → atoms_at t r (atoms_in t m) ≡ atoms_at h r (atoms_in h m)
  atoms_at_same r m = ap (λ xs. atoms_at t r xs) (atoms_same m) ∙ ap (map (solid_atom_of r.names)) (atoms_of_same r.name (atoms_in h m))

  regions_same : (r : HeapReading) (f : Forest) → regions_at t r f ≡ regions_at h r f
  regions_same r bare = refl
  regions_same r (mem m i f) =
      let a = atoms_at_same r m in
      let b = regions_same r i in
      let c : map r.rule (rules_in t m) ≡ map r.rule (rules_in h m) = ap (map r.rule) (rules_same m) in
      let d = regions_same r f in
      λ j. region_and (region (a j) (b j) (c j)) (d j)

  region_same : (r : HeapReading) (inner : Forest) → heap_region t r inner ≡ heap_region h r inner
  region_same r inner =
      let a : atoms_at t r (atoms_in t t.root) ≡ atoms_at h r (atoms_in h h.root) = atoms_at_same r t.root ∙ ap (λ m. atoms_at h r (atoms_in h m)) same.root in
      let b = regions_same r inner in
      let c : map r.rule (rules_in t t.root) ≡ map r.rule (rules_in h h.root) = ap (map r.rule) (rules_same t.root ∙ ap (rules_in h) same.root) in
      λ j. region (a j) (b j) (c j)

  links_before : (a i : ℕ) (b j : ℕ) → slice_index_or (partners_of (t.atoms a)) i None ≡ Some (b, j) → slice_index_or (partners_of (h.atoms a)) i None ≡ Some (b, j)
  links_before a i b j e = subst (λ x. slice_index_or (partners_of x) i None ≡ Some (b, j)) (same.atoms a) e

  links_after : (a i : ℕ) (b j : ℕ) → slice_index_or (partners_of (h.atoms a)) i None ≡ Some (b, j) → slice_index_or (partners_of (t.atoms a)) i None ≡ Some (b, j)
  links_after a i b j e = subst (λ x. slice_index_or (partners_of x) i None ≡ Some (b, j)) (sym (same.atoms a)) e

  -- and names of links name the same
  pub naming_same : (name : ℕ → ℕ → ℕ) → IsNaming h name → IsNaming t name
  naming_same name n = record {
    joined = λ a i b j e. n.joined a i b j (links_before a i b j e);
    apart = λ a i b j p q e. elim (n.apart a i b j (subst (λ x. i < length (partners_of x)) (same.atoms a) p) (subst (λ x. j < length (partners_of x)) (same.atoms b) q) e) [
      | inl w ↦ inl w
      | inr w ↦ inr (links_after a i b j w)
    ];
  }

  tree_same : (inner : Forest) → IsTree h (tree_over h inner) → IsTree t (tree_over t inner)
  tree_same inner tr = record {
    forms = subst (λ z. Forms t (mem z inner bare) (z ∷ [])) (sym same.root) (forms_frame h t (tree_over h inner) (h.root ∷ []) (λ m p. mems_same m) tr.forms);
    once = subst (λ z. Distinct (flat (mem z inner bare))) (sym same.root) tr.once;
    all = λ m i. subst (λ z. In m (flat (mem z inner bare))) (sym same.root) (tr.all m (same.there m i));
  }

-- so what is read alike has the same region
pub read_same : (h h' : Heap) (r : HeapReading) (inner : Forest) (table : List RuleTree) → ReadAlike h h' → Valid h' → IsReadWith h r inner table → IsReadWith h' r inner table × (heap_region h' r inner ≡ heap_region h r inner)
read_same h t r inner table same valid w = (
  record {
    read = record {
      valid = valid;
      naming = naming_same h t same r.name w.read.naming;
      names = w.read.names;
      known = λ a f e. w.read.known a f (subst (λ x. option_map (λ y. y.functor) x ≡ Some f) (same.atoms a) e);
    };
    tree = tree_same h t same inner w.tree;
    rules = record { known = λ m k i. w.rules.known m k (subst (In k) (rules_same h t same m) i); read = w.rules.read };
  },
  region_same h t same r inner,
)

-- room for more rules is no part of what is read
pub spares_are_not_read : SparesAreNotRead
spares_are_not_read h t r inner table same valid w = read_same h t r inner table (spares_alike h t same) valid w

-- and marks of membranes are none
pub marks_are_not_read : MarksAreNotRead
marks_are_not_read h t r inner table same sound w = read_same h t r inner table (read_alike h t same) (valid_but_marks h t same w.read.valid (sound_but_marks h t same w.read.valid.sound)) w
