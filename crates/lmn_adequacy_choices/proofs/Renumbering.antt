-- The links of a heap can be given the numbers of printed order.
use Rattle.std.proofs.Common.{ℕ, zero, suc, ◌≡◌, ◌≢◌, ◌+◌, ◌<◌, ◌≤◌, List, [], ◌∷◌, ◌++◌, map, Option, Some, None, refl, sym, ap, subst, ◌∙◌, inl, inr, arith}
use Rattle.std.proofs.lemmas.List.{map-append}
use Rattle.lmn_base.specs.declared.rule.RuleTree.{RuleTree}
use Rattle.lmn_store_heap.specs.Heap.{Heap, HeapAtom, IsAtom, arity_of, atoms_in, home_of, rules_in}
use Rattle.lmn_store_heap.specs.Solid.{solid_atom_at, solid_atoms_at, links_from, IsNaming}
use Rattle.lmn_store_heap.specs.Sound.{Forest, bare, mem, IsTree, Valid}
use Rattle.lmn_congruence.specs.Process.{occurrences}
use Rattle.lmn_congruence.specs.Regions.{region, region_and}
use Rattle.lmn_congruence.specs.Same.{IsRenamed, renamed_atom, renamed_region, renamed_regions}
use Rattle.lmn_congruence.specs.Translation.{solid_atom_of}
use Rattle.lmn_adequacy.specs.Laws.{NumberingExists}
use Rattle.lmn_adequacy.specs.Numbered.{IsNumbered}
use Rattle.lmn_adequacy_heaps.specs.HeapRegions.{HeapReading, atoms_at, regions_at, region_at}
use Rattle.lmn_adequacy_heaps.specs.Laws.{heap_process}
use Rattle.lmn_adequacy_heaps.specs.Premises.{HasRules}
use Rattle.lmn_adequacy_heaps.proofs.Counting.{in_region, tree_atoms, times_at}
use Rattle.lmn_adequacy_heaps.proofs.Forests.{forest_atom, in_place}
use Rattle.lmn_adequacy_heaps.proofs.Pieces.{atom_at}
use Rattle.lmn_adequacy_heaps.proofs.Ports.{named_port}
use Rattle.lmn_adequacy_turns.specs.Commits.{IsTable}
use Rattle.lmn_adequacy_turns.specs.Turning.{renumbered_reading}
use Rattle.lmn_adequacy_choices.specs.Turns.{tree_over, heap_region}
use Rattle.lmn_adequacy_choices.specs.Laws.{HeapsAreNumbered}
use Rattle.lmn_base.specs.Graphs.{Port}
use Rattle.lmn_base.proofs.Lists.{weigh, some_is as home_is, in_either}
use Rattle.lmn_store_heap.proofs.Common.{atom_with_links as ported, holds_mem}
use Rattle.lmn_adequacy_turns.proofs.Turned.{read_as as rule_as}
use Rattle.lmn_base.specs.Lists.{In}
use Rattle.lmn_adequacy_heaps.proofs.Occurrences.{some_place}

-- ---- the region with other numbers

module _ (r : HeapReading) (to : ℕ → ℕ) where
  -- the reading with the numbers that a map gives to links
  abbrev pub changed : HeapReading
  changed = renumbered_reading r (λ p. to (r.name p.0 p.1))

  links_changed : (a i n : ℕ) → links_from changed.name a i n ≡ map to (links_from r.name a i n)
  links_changed a i zero = refl
  links_changed a i (suc n) = let u = links_changed a (i + 1) n in λ j. to (r.name a i) ∷ u j

  atom_changed : (a : ℕ) (o : Option HeapAtom) → map (solid_atom_of r.names) (solid_atom_at changed.name a o) ≡ map (renamed_atom to) (map (solid_atom_of r.names) (solid_atom_at r.name a o))
  atom_changed a None = refl
  atom_changed a (Some x) = let u = links_changed a 0 x.functor.arity in λ j. solid_atom_of r.names (record { functor = x.functor; links = u j }) ∷ []

  module _ (h : Heap) where
    atoms_changed : (xs : List ℕ) → atoms_at h changed xs ≡ map (renamed_atom to) (atoms_at h r xs)
    atoms_changed [] = refl
    atoms_changed (x ∷ xs) =
        let S = solid_atom_of r.names in
        let a = atom_changed x (h.atoms x) in
        let b = atoms_changed xs in
        map-append S (solid_atom_at changed.name x (h.atoms x)) (solid_atoms_at h changed.name xs) ∙ (λ j. a j ++ b j)
        ∙ sym (map-append (renamed_atom to) (map S (solid_atom_at r.name x (h.atoms x))) (map S (solid_atoms_at h r.name xs)))
        ∙ ap (map (renamed_atom to)) (sym (map-append S (solid_atom_at r.name x (h.atoms x)) (solid_atoms_at h r.name xs)))

    regions_changed : (f : Forest) → regions_at h changed f ≡ renamed_regions to (regions_at h r f)
    regions_changed bare = refl
    regions_changed (mem m i f) =
        let a = atoms_changed (atoms_in h m) in
        let b = regions_changed i in
        let c = regions_changed f in
        λ j. region_and (region (a j) (b j) (map r.rule (rules_in h m))) (c j)

    region_changed : (m : ℕ) (i : Forest) → region_at h changed m i ≡ renamed_region to (region_at h r m i)
    region_changed m i = let a = atoms_changed (atoms_in h m) in let b = regions_changed i in λ j. region (a j) (b j) (map r.rule (rules_in h m))

-- ---- the links of all atoms occur

weighs : (w : ℕ → ℕ) (xs : List ℕ) (a : ℕ) → In a xs → w a ≤ weigh w xs
weighs w [] a p = absurd p
weighs w (x ∷ xs) a (inl e) = subst (λ z. w z ≤ w x + weigh w xs) e (omega arith)
weighs w (x ∷ xs) a (inr p) = let u = weighs w xs a p in omega (arith, u)

module _ (h : Heap) (v : Valid h) (r : HeapReading) (inner : Forest) (tr : IsTree h (tree_over h inner)) where
  -- each atom stands in the tree
  pub atom_there : (a : ℕ) → IsAtom h a → In a (tree_atoms h h.root inner)
  atom_there a s =
      let m = home_is (home_of h a) (v.settled.atoms a s) in
      let p = in_place h v a m.0 m.1 in
      elim (in_either a (tree_atoms h h.root inner) [] (forest_atom h v (tree_over h inner) m.0 a (tr.all m.0 (holds_mem (h.mems m.0) a p)) p)) [ inl k ↦ k | inr k ↦ absurd k ]

  -- so each link occurs
  occurs : (a i : ℕ) → i < arity_of h a → occurrences (r.name a i) (heap_process h r inner) ≢ 0
  occurs a i l z =
      let x = r.name a i in
      let s = ported (h.atoms a) i l in
      let w = weighs (times_at h r x) (tree_atoms h h.root inner) a (atom_there a s) in
      let p = some_place x (atom_at h r a).links i (named_port h v r a i l) in
      let e = in_region h r v x h.root inner in
      omega (arith, z, w, p, e)

  -- numbers that a map gives, one to one, name the links as well
  naming_changed : (n : IsNaming h r.name) (to : ℕ → ℕ) → ((x y : ℕ) → occurrences x (heap_process h r inner) ≢ 0 → occurrences y (heap_process h r inner) ≢ 0 → to x ≡ to y → x ≡ y) → IsNaming h (λ a i. to (r.name a i))
  naming_changed n to one = record {
    joined = λ a i b j e. ap to (n.joined a i b j e);
    apart = λ a i b j p q e. n.apart a i b j p q (one (r.name a i) (r.name b j) (occurs a i p) (occurs b j q) e);
  }

-- other numbers of links leave the rules
pub rules_as : (h : Heap) (r : HeapReading) (number : Port → ℕ) (table : List RuleTree) → HasRules h r table → HasRules h (renumbered_reading r number) table
rules_as h r number table has = record { known = λ m k i. let u = has.known m k i in (u.0, u.1, rule_as r number u.0 u.2); read = has.read }

-- and the table
pub table_as : (r : HeapReading) (number : Port → ℕ) (table : List RuleTree) → IsTable r table → IsTable (renumbered_reading r number) table
table_as r number table t = record { rules = λ k z e. rule_as r number z (t.rules k z e); inner = t.inner }

-- the links of a heap can have the numbers of printed order
pub heaps_are_numbered : NumberingExists → HeapsAreNumbered
heaps_are_numbered exists h r inner table w =
    let u = exists (heap_region h r inner) in
    let to = u.1.to in
    let number : Port → ℕ = λ p. to (r.name p.0 p.1) in
    let is : u.0 ≡ heap_region h (renumbered_reading r number) inner = u.1.is ∙ sym (region_changed r to h h.root inner) in
    record {
      number = number;
      again = record {
        read = record { valid = w.read.valid; naming = naming_changed h w.read.valid r inner w.tree w.read.naming to u.1.one_to_one; names = w.read.names; known = w.read.known };
        tree = w.tree;
        rules = rules_as h r number table w.rules;
      };
      renamed = subst (IsRenamed (heap_region h r inner)) is u.1;
      numbered = subst IsNumbered is u.2;
    }
