-- The solids of a renamed heap.
use Rattle.std.proofs.Common.{◌≡◌, ◌∙◌, ◌<◌, ◌+◌, ℕ, zero, suc, List, [], ◌∷◌, ◌++◌, Option, Some, None, IsSome, map, refl, sym, ap, subst, inl, inr}
use Rattle.std.specs.Option.{option_map}
use Rattle.std.proofs.lemmas.List.{map-append}
use Rattle.lmn_base.specs.declared.solid.Region.TheViews.{roll-Region}
use Rattle.lmn_base.specs.Lists.{In}
use Rattle.lmn_store_heap.specs.Heap.{Distinct, Heap, HeapAtom, HeapMem, arity_of, atoms_in, link_of, mems_in}
use Rattle.lmn_store_heap.specs.Solid.{IsNaming, links_from, regions_of, solid_atom_at, solid_atoms_at}
use Rattle.lmn_store_heap.specs.Sound.{Forest, Forms, IsTree, bare, flat, mem}
use Rattle.lmn_verify_renaming.specs.Laws.{SolidsAreRenamed}
use Rattle.lmn_verify_renaming.specs.Renamed.{Renaming, renamed, renamed_atom, renamed_mem, renamed_port}
use Rattle.lmn_verify_renaming.proofs.Numbers.{distinct_there, in_there}
use Rattle.lmn_verify_renaming.proofs.Reading.{arity_there, atom_there, atoms_there, link_back, link_there, mems_there, rules_there}

-- the forest with the other numbers
abbrev pub renamed_forest : (ℕ → ℕ) → Forest → Forest
renamed_forest to bare = bare
renamed_forest to (mem m inner rest) = mem (to m) (renamed_forest to inner) (renamed_forest to rest)

-- the membranes of the forest with the other numbers
pub flat_there : (to : ℕ → ℕ) (f : Forest) → flat (renamed_forest to f) ≡ map to (flat f)
flat_there to bare = refl
flat_there to (mem m inner rest) = ap (λ xs. to m ∷ xs) ((λ i. flat_there to inner i ++ flat_there to rest i) ∙ sym (map-append to (flat inner) (flat rest)))

module _ (r : Renaming) (s : Heap) where
  abbrev A : ℕ → ℕ
  A = r.atoms.to

  abbrev M : ℕ → ℕ
  M = r.mems.to

  forms_there : (f : Forest) (ms : List ℕ) → Forms s f ms → Forms (renamed r s) (renamed_forest M f) (map M ms)
  forms_there bare ms e = ap (map M) e
  forms_there (mem m inner rest) ms w = (
    map M w.0,
    ap (map M) w.1,
    subst (Forms (renamed r s) (renamed_forest M inner)) (sym (mems_there r s m)) (forms_there inner (mems_in s m) w.2),
    forms_there rest w.0 w.3,
  )

  -- a membrane of the renamed heap is one of the heap
  mem_back : (m : ℕ) → IsSome ((renamed r s).mems m) → IsSome (s.mems (r.mems.back m))
  mem_back m i = by (s.mems (r.mems.back m)) i
    where
      by : (o : Option HeapMem) → IsSome (option_map (renamed_mem A M) o) → IsSome o
      by None h = absurd (cc)
      by (Some x) h = refl

  tree_there : (f : Forest) → IsTree s f → IsTree (renamed r s) (renamed_forest M f)
  tree_there f t = record {
    forms = forms_there f (s.root ∷ []) t.forms;
    once = subst Distinct (sym (flat_there M f)) (distinct_there r.mems (flat f) t.once);
    all = λ m i. subst (In m) (sym (flat_there M f)) (subst (λ x. In x (map M (flat f))) (r.mems.again m) (in_there r.mems (r.mems.back m) (flat f) (t.all (r.mems.back m) (mem_back m i))));
  }

  module _ (name : ℕ → ℕ → ℕ) where
    -- the number of a link at the atom with the other number
    abbrev pub name_there : ℕ → ℕ → ℕ
    name_there a i = name (r.atoms.back a) i

    links_there : (a i k : ℕ) → links_from name_there (A a) i k ≡ links_from name a i k
    links_there a i zero = refl
    links_there a i (suc k) = λ j. name (r.atoms.there a j) i ∷ links_there a (i + 1) k j

    atom_same : (a : ℕ) (o : Option HeapAtom) → solid_atom_at name_there (A a) (option_map (renamed_atom A M) o) ≡ solid_atom_at name a o
    atom_same a None = refl
    atom_same a (Some x) = λ j. record { functor = x.functor; links = links_there a 0 x.functor.arity j } ∷ []

    atoms_same : (xs : List ℕ) → solid_atoms_at (renamed r s) name_there (map A xs) ≡ solid_atoms_at s name xs
    atoms_same [] = refl
    atoms_same (a ∷ xs) =
        let here = ap (solid_atom_at name_there (A a)) (atom_there r s a) ∙ atom_same a (s.atoms a) in
        λ j. here j ++ atoms_same xs j

    regions_same : (f : Forest) → regions_of (renamed r s) name_there (renamed_forest M f) ≡ regions_of s name f
    regions_same bare = refl
    regions_same (mem m inner rest) =
        let atoms = ap (solid_atoms_at (renamed r s) name_there) (atoms_there r s m) ∙ atoms_same (atoms_in s m) in
        λ j. roll-Region (record { atoms = atoms j; membranes = regions_same inner j; rules = rules_there r s m j }) ∷ regions_same rest j

    module _ (naming : IsNaming s name) where
      arity_back : (a : ℕ) → arity_of (renamed r s) a ≡ arity_of s (r.atoms.back a)
      arity_back a = ap (arity_of (renamed r s)) (sym (r.atoms.again a)) ∙ arity_there r s (r.atoms.back a)

      naming_there : IsNaming (renamed r s) name_there
      naming_there = record {
        joined = λ a i b j e. naming.joined (r.atoms.back a) i (r.atoms.back b) j (link_back r s a i b j e);
        apart = λ a i b j h k e. elim (naming.apart (r.atoms.back a) i (r.atoms.back b) j (subst (λ z. i < z) (arity_back a) h) (subst (λ z. j < z) (arity_back b) k) e) [
          | inl w ↦ inl (sym (r.atoms.again a) ∙ ap A w.0 ∙ r.atoms.again b, w.1)
          | inr l ↦ inr (ap (λ x. link_of (renamed r s) x i) (sym (r.atoms.again a)) ∙ link_there r s (r.atoms.back a) i ∙ ap (option_map (renamed_port A)) l ∙ ap (λ x. Some (x, j)) (r.atoms.again b))
        ];
      }

-- a renamed heap has the solids of the heap
pub solids_are_renamed : SolidsAreRenamed
solids_are_renamed r s x has = record {
  forest = renamed_forest r.mems.to has.forest;
  tree = tree_there r s has.forest has.tree;
  name = name_there r s has.name;
  naming = naming_there r s has.name has.naming;
  root = regions_same r s has.name has.forest ∙ has.root;
  count = has.count;
  numbers = has.numbers;
}
