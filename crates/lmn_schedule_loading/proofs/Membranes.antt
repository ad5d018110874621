-- One membrane more, with what stands in it.
use Rattle.std.proofs.Common.{ℕ, ◌≡◌, ◌≢◌, ◌⊎◌, ◌+◌, List, [], ◌∷◌, ◌++◌, map, Option, Some, None, IsSome, refl, sym, ap, subst, ◌∙◌, inl, inr, arith}
use Rattle.std.specs.List.{flat_map}
use Rattle.std.specs.Option.{option_map, option_and_then}
use Rattle.std.proofs.lemmas.Bool.{cases_eq}
use Rattle.std.proofs.lemmas.List.{append-nil}
use Rattle.lmn_base.specs.declared.level.Level.{Level, out-Level}
use Rattle.lmn_base.specs.declared.level.Level.TheFolds.{fold_out-Level}
use Rattle.lmn_base.specs.declared.solid.Region.{Region}
use Rattle.lmn_base.specs.declared.solid.Region.TheViews.{roll-Region}
use Rattle.lmn_base.specs.declared.solid.SolidAtom.{SolidAtom}
use Rattle.lmn_base.specs.Levels.{leaves_of}
use Rattle.lmn_base_walks.proofs.ItemLemmas.{leaves_apart}
use Rattle.lmn_congruence.specs.SolidsOfPlains.{fused_leaf, fused_step, fused_region}
use Rattle.lmn_store_heap.specs.Heap.{Heap, HeapMem, within, alter, new_mem, mem_with_place, mem_with_mems, home_by, IsMem, IsPlacedMem, IsTopOrWithin, atoms_in, mems_in, rules_in, atoms_by, mems_by, rules_by, mem_place_of, made_mem}
use Rattle.lmn_store_heap.specs.Solid.{solid_atoms_at, regions_of}
use Rattle.lmn_store_heap.specs.Sound.{Sound, bare, mem, flat, Forms}
use Rattle.lmn_store_heap.proofs.Calls.{calls_keep_sound, stands_some as standing_is_mem}
use Rattle.lmn_store_heap.proofs.ListLemmas as lemmas
use Rattle.lmn_store_heap.proofs.Listing.{alter_at, alter_away}
use Rattle.lmn_congruence_splice.specs.Splice.{links}
use Rattle.lmn_schedule_loading.specs.Adding.{CanBeFilled, Named, atom_links, AddsToMembrane, with_mem}
use Rattle.lmn_schedule_loading.proofs.Composing.{leaves_both}
use Rattle.lmn_schedule_loading.proofs.Atoms.{line_first, line_rest}
use Rattle.lmn_congruence.specs.Links.{places}
use Rattle.lmn_base.specs.Graphs.{Port}
use Rattle.lmn_base.specs.Lists.{In}
use Rattle.lmn_base.proofs.Lists.{plus_nothing, none_is_not}

-- a level without its connectors, by its lists
pub fused_apart : (v : ℕ → ℕ) (l : Level) → fused_region v l ≡ roll-Region (record { atoms = flat_map (fused_leaf v) (out-Level l).leaves; membranes = map (fused_region v) (out-Level l).membranes; rules = (out-Level l).rules })
fused_apart v l = fold_out-Level Region (fused_step v) l

zero_plus : (n : ℕ) → n ≡ 0 + n
zero_plus n = omega arith

abbrev region : List SolidAtom → List Region → List ℕ → Region
region xs rs ks = roll-Region (record { atoms = xs; membranes = rs; rules = ks })

module _ (s : Heap) (m n : ℕ) (h : CanBeFilled s m) (fresh : s.mems n ≡ None) where
  abbrev s1 : Heap
  s1 = with_mem s m n

  abbrev f1 : ℕ → Option HeapMem
  f1 = alter s.mems n (λ _. Some new_mem)

  abbrev f2 : ℕ → Option HeapMem
  f2 = alter f1 n (option_map (mem_with_place (within m)))

  abbrev put : Option HeapMem → Option HeapMem
  put = option_map (mem_with_mems (λ xs. xs ++ n ∷ []))

  was_mem : IsMem s m
  was_mem = standing_is_mem (s.mems m) h.there

  apart : n ≢ m
  apart e = none_is_not (s.mems m) (subst (λ j. s.mems j ≡ None) e fresh) was_mem

  at_new : s1.mems n ≡ Some (mem_with_place (within m) new_mem)
  at_new = alter_away f2 m put n apart ∙ alter_at f1 n (option_map (mem_with_place (within m))) ∙ ap (option_map (mem_with_place (within m))) (alter_at s.mems n (λ _. Some new_mem))

  away : (k : ℕ) → k ≢ n → f2 k ≡ s.mems k
  away k d = alter_away f1 n (option_map (mem_with_place (within m))) k d ∙ alter_away s.mems n (λ _. Some new_mem) k d

  at_home : s1.mems m ≡ put (s.mems m)
  at_home = alter_at f2 m put ∙ ap put (away m (λ e. apart (sym e)))

  elsewhere : (k : ℕ) → k ≢ m → k ≢ n → s1.mems k ≡ s.mems k
  elsewhere k d e = alter_away f2 m put k d ∙ away k e

  sound : Sound s1
  sound = (calls_keep_sound (made_mem s n) ((calls_keep_sound s h.sound).make_mem n fresh)).place_mem m n (subst (λ (o : Option HeapMem). IsTopOrWithin (option_map (λ x. x.place) o)) (sym (alter_away s.mems n (λ _. Some new_mem) m (λ e. apart (sym e)))) h.there) (line_first s.new_mems n h.no_mems)

  -- something may be placed in the new membrane, which is empty
  pub new_ready : CanBeFilled s1 n
  new_ready = record {
    sound = sound;
    no_atoms = h.no_atoms;
    no_mems = line_rest s.new_mems n h.no_mems;
    there = subst (λ (o : Option HeapMem). IsTopOrWithin (option_map (λ x. x.place) o)) (sym at_new) tt;
  }

  kept_home : (o : Option HeapMem) → (atoms_by (put o) ≡ atoms_by o) × (rules_by (put o) ≡ rules_by o) × (option_map (λ x. x.place) (put o) ≡ option_map (λ x. x.place) o)
  kept_home None = (refl, refl, refl)
  kept_home (Some x) = (refl, refl, refl)

  grown_home : (o : Option HeapMem) → IsSome o → mems_by (put o) ≡ mems_by o ++ n ∷ []
  grown_home None i = absurd (cc)
  grown_home (Some x) i = refl

  put_is : (o : Option HeapMem) → IsSome o → IsSome (put o)
  put_is None i = absurd (cc)
  put_is (Some x) i = refl

  module _ (t : Heap) (l : Level) (ps : List (Port × ℕ)) (b : AddsToMembrane s1 t n (out-Level l).leaves (out-Level l).membranes (out-Level l).rules ps) where
    home_is : IsMem s1 m
    home_is = subst (λ (o : Option HeapMem). IsSome o) (sym at_home) (put_is (s.mems m) was_mem)

    home_stays : t.mems m ≡ put (s.mems m)
    home_stays = b.mems_kept m home_is (λ e. apart (sym e)) ∙ at_home

    place_home : mem_place_of t m ≡ mem_place_of s m
    place_home = ap (λ (o : Option HeapMem). option_map (λ x. x.place) o) home_stays ∙ (kept_home (s.mems m)).2

    atoms_new : atoms_in t n ≡ b.atoms
    atoms_new = b.atoms_are ∙ ap (λ (o : Option HeapMem). atoms_by o ++ b.atoms) at_new

    mems_new : mems_in t n ≡ b.mems
    mems_new = b.mems_are ∙ ap (λ (o : Option HeapMem). mems_by o ++ b.mems) at_new

    rules_new : rules_in t n ≡ (out-Level l).rules
    rules_new = b.rules_are ∙ ap (λ (o : Option HeapMem). rules_by o ++ (out-Level l).rules) at_new

    place_new : IsPlacedMem t n
    place_new = by (t.mems n) (b.place ∙ ap (λ (o : Option HeapMem). option_map (λ x. x.place) o) at_new)
      where
        by : (o : Option HeapMem) → option_map (λ x. x.place) o ≡ Some (within m) → IsSome (option_and_then (λ x. home_by x.place) o)
        by None e = absurd (cc)
        by (Some x) e = let w : x.place ≡ within m = (cc) in subst (λ p. IsSome (home_by p)) (sym w) refl

    regions : (v : ℕ → ℕ) (name : ℕ → ℕ → ℕ) → Named name v ps → regions_of t name (mem n b.forest bare) ≡ fused_region v l ∷ []
    regions v name k =
        let xs : solid_atoms_at t name (atoms_in t n) ≡ flat_map (fused_leaf v) (out-Level l).leaves = ap (solid_atoms_at t name) atoms_new ∙ b.here v name k in
        let rs : regions_of t name b.forest ≡ map (fused_region v) (out-Level l).membranes = b.below v name k in
        (λ z. region (xs z) (rs z) (rules_new z) ∷ []) ∙ ap (λ r. r ∷ []) (sym (fused_apart v l))

    all_links : (v : ℕ → ℕ) (z : ℕ) → places z (map v (links ps)) ≡ 0 + places z (map v (atom_links (leaves_of l ++ [])))
    all_links v z =
        let w : leaves_of l ++ [] ≡ (out-Level l).leaves ++ flat_map leaves_of (out-Level l).membranes = append-nil (leaves_of l) ∙ leaves_apart l in
        b.links v z ∙ sym (leaves_both v z (out-Level l).leaves (flat_map leaves_of (out-Level l).membranes)) ∙ ap (λ ls. places z (map v (atom_links ls))) (sym w) ∙ zero_plus (places z (map v (atom_links (leaves_of l ++ []))))

    fresh_before : (k : ℕ) → s1.mems k ≡ None → s.mems k ≡ None
    fresh_before k e = elim (cases_eq k n) [
      | inl d ↦ ap s.mems d ∙ fresh
      | inr d ↦ elim (cases_eq k m) [
        | inl c ↦ absurd (none_is_not (s1.mems m) (subst (λ j. s1.mems j ≡ None) c e) home_is)
        | inr c ↦ sym (elsewhere k c d) ∙ e
      ]
    ]

    mem_before : (k : ℕ) → IsMem s1 k → IsMem s k ⊎ In k (flat (mem n b.forest bare))
    mem_before k i = elim (cases_eq k n) [
      | inl d ↦ inr (inl (sym d))
      | inr d ↦ elim (cases_eq k m) [
        | inl c ↦ inl (subst (λ j. IsMem s j) (sym c) was_mem)
        | inr c ↦ inl (subst (λ (o : Option HeapMem). IsSome o) (elsewhere k c d) i)
      ]
    ]

    mem_after : (k : ℕ) → IsMem s1 k ⊎ In k (flat b.forest) → IsMem s k ⊎ In k (flat (mem n b.forest bare))
    mem_after k (inl i) = mem_before k i
    mem_after k (inr i) = inr (inr (lemmas.in_left k (flat b.forest) [] i))

    new_ones : (k : ℕ) → In k (flat (mem n b.forest bare)) → (s.mems k ≡ None) × IsPlacedMem t k
    new_ones k (inl e) = (ap s.mems (sym e) ∙ fresh, subst (IsPlacedMem t) e place_new)
    new_ones k (inr i) = let j = subst (In k) (plus_nothing (flat b.forest)) i in (fresh_before k (b.new k j).0, (b.new k j).1)

    other_mem : (k : ℕ) → IsMem s k → k ≢ m → t.mems k ≡ s.mems k
    other_mem k i d =
        let e : k ≢ n = λ c. none_is_not (s.mems k) (ap s.mems c ∙ fresh) i in
        b.mems_kept k (subst (λ (o : Option HeapMem). IsSome o) (sym (elsewhere k d e)) i) e ∙ elsewhere k d e

    pub membrane_added : AddsToMembrane s t m [] (l ∷ []) [] ps
    membrane_added = record {
      ready = record { sound = b.ready.sound; no_atoms = b.ready.no_atoms; no_mems = b.ready.no_mems; there = subst IsTopOrWithin (sym place_home) h.there };
      root = b.root;
      place = place_home;
      atoms = [];
      mems = n ∷ [];
      forest = mem n b.forest bare;
      atoms_are = ap atoms_by home_stays ∙ (kept_home (s.mems m)).0 ∙ sym (plus_nothing (atoms_in s m));
      mems_are = ap mems_by home_stays ∙ grown_home (s.mems m) was_mem;
      rules_are = ap rules_by home_stays ∙ (kept_home (s.mems m)).1 ∙ sym (plus_nothing (rules_in s m));
      forms = ([], refl, subst (Forms t b.forest) (sym mems_new) b.forms, refl);
      here = λ v name k. refl;
      below = regions;
      links = all_links;
      once = b.once;
      made = b.made;
      atoms_kept = b.atoms_kept;
      mems_kept = other_mem;
      new_atoms = b.new_atoms;
      new_mems = λ k i. mem_after k (b.new_mems k i);
      new = new_ones;
    }
