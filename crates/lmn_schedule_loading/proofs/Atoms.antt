-- One atom more, and rules more.
use Rattle.std.proofs.Common.{ℕ, suc, ◌≡◌, ◌≢◌, ◌+◌, ◌-◌, ◌<◌, ◌≤◌, true, false, List, [], ◌∷◌, ◌++◌, map, length, Option, Some, None, IsSome, refl, sym, ap, subst, ◌∙◌, inl, inr, arith}
use Rattle.std.specs.Prelude.{replicate, cond}
use Rattle.std.specs.Option.{option_map}
use Rattle.std.proofs.lemmas.Bool.{cases_eq, eq-eqb}
use Rattle.std.proofs.lemmas.List.{length-replicate}
use Rattle.lmn_base.specs.declared.functor.Functor.{Functor}
use Rattle.lmn_base.specs.declared.level.Leaf.{Leaf}
use Rattle.lmn_base.specs.declared.level.Leaf.TheVariants.{Atom}
use Rattle.lmn_base.specs.declared.level.Occ.{Occ}
use Rattle.lmn_base.specs.declared.refusal.Pos.{Pos}
use Rattle.lmn_base.specs.Solids.{connector, is_connector}
use Rattle.lmn_congruence.specs.SolidsOfPlains.{fused_leaf}
use Rattle.lmn_store_heap.specs.Heap.{Heap, HeapAtom, HeapMem, within, alter, with_place, mem_with_atoms, mem_with_rules, mem_with_spare, new_atom, IsMem, IsTopOrWithin, atoms_in, mems_in, rules_in, spare_of, atoms_by, mems_by, rules_by, spare_by, mem_place_of, made_atom, reserved, rule_added, after, from}
use Rattle.lmn_store_heap.specs.Solid.{links_from, solid_atom_at}
use Rattle.lmn_store_heap.specs.Sound.{Sound, bare}
use Rattle.lmn_store_heap.proofs.Calls.{calls_keep_sound, stands_some as standing_is_mem}
use Rattle.lmn_store_heap.proofs.Listing.{alter_at, alter_away, alter_keeps, same_mem_place, same_mems, atoms_at}
use Rattle.lmn_congruence_splice.specs.Splice.{IsOneOf, NoneTwice, ports, links}
use Rattle.lmn_schedule_loading.specs.Adding.{CanBeFilled, Named, atom_links, atom_leaf_links, ports_with_links, IsMadeAtom, IsFreePort, AddsToMembrane, with_atom}
use Rattle.lmn_base.specs.Graphs.{Port}
use Rattle.lmn_base.proofs.Lists.{nothing_added as none_more, none_is_not}
use Rattle.lmn_base.proofs.Numbers.{zeros_at as no_marks}
use Rattle.lmn_store_heap.proofs.Common.{list_rules, no_links, no_port}

-- A leaf that leaves nothing
pub no_leaf : (s : Heap) (m : ℕ) (l : Leaf) → ((v : ℕ → ℕ) → fused_leaf v l ≡ []) → atom_leaf_links l ≡ [] → CanBeFilled s m → AddsToMembrane s s m (l ∷ []) [] [] []
no_leaf s m l e d h = record {
  ready = h;
  root = refl;
  place = refl;
  atoms = [];
  mems = [];
  forest = bare;
  atoms_are = none_more (atoms_in s m);
  mems_are = none_more (mems_in s m);
  rules_are = none_more (rules_in s m);
  forms = refl;
  here = λ v name k. rw (e v) refl;
  below = λ v name k. refl;
  links = λ v z. rw d refl;
  once = tt;
  made = λ p i. absurd i;
  atoms_kept = λ a i. refl;
  mems_kept = λ k i c. refl;
  new_atoms = λ a i. inl i;
  new_mems = λ k i. inl i;
  new = λ k i. absurd i;
}

-- Ports of one atom

ports_are : (a b i j : ℕ) (os : List Occ) → IsOneOf {A = Port} (b, j) (ports (ports_with_links a i os)) → (b ≡ a) × (i ≤ j) × (j < i + length os)
ports_are a b i j [] k = absurd k
ports_are a b i j (o ∷ os) (inl e) = (sym (ap (λ (p : Port). p.0) e), low (ap (λ (p : Port). p.1) e), high (ap (λ (p : Port). p.1) e))
  where
    low : i ≡ j → i ≤ j
    low e = omega (arith, e)

    high : i ≡ j → j < i + suc (length os)
    high e = omega (arith, e)
ports_are a b i j (o ∷ os) (inr k) = let w = ports_are a b (i + 1) j os k in (w.0, omega (arith, w.1), omega (arith, w.2))

ports_once : (a i : ℕ) (os : List Occ) → NoneTwice (ports (ports_with_links a i os))
ports_once a i [] = tt
ports_once a i (o ∷ os) = (λ k. (let w = ports_are a a (i + 1) i os k in absurd (off i w.1)), ports_once a (i + 1) os)
  where
    off : (i : ℕ) → i + 1 ≤ i → ⊥
    off i l = absurd (omega (arith, l))

port_there : (a i j : ℕ) (os : List Occ) → i ≤ j → j < i + length os → IsOneOf {A = Port} (a, j) (ports (ports_with_links a i os))
port_there a i j [] l h = absurd (off l h)
  where
    off : i ≤ j → j < i + 0 → ⊥
    off l h = absurd (omega (arith, l, h))
port_there a i j (o ∷ os) l h = elim (cases_eq i j) [
  | inl e ↦ inl (λ t. (a, e t))
  | inr d ↦ inr (port_there a (i + 1) j os (more d l) (less h))
]
  where
    more : i ≢ j → i ≤ j → i + 1 ≤ j
    more d l = omega (arith, d, l)

    less : j < i + suc (length os) → j < i + 1 + length os
    less h = omega (arith, h)

links_are : (a i : ℕ) (os : List Occ) → links (ports_with_links a i os) ≡ map (λ o. o.link) os
links_are a i [] = refl
links_are a i (o ∷ os) = ap (λ xs. o.link ∷ xs) (links_are a (i + 1) os)

numbers_named : (name : ℕ → ℕ → ℕ) (v : ℕ → ℕ) (a i : ℕ) (os : List Occ) → Named name v (ports_with_links a i os) → links_from name a i (length os) ≡ map (λ o. v o.link) os
numbers_named name v a i [] n = refl
numbers_named name v a i (o ∷ os) n = rw (n.0, numbers_named name v a (i + 1) os n.1) refl

not_connector : (f : Functor) → is_connector f ≡ false → Some f ≢ Some connector
not_connector f e d = let g : f ≡ connector = (cc) in let w : false ≡ true = sym e ∙ ap is_connector g in absurd (cc)

mapped_is : (g : HeapMem → HeapMem) (o : Option HeapMem) → IsSome (option_map g o) → IsSome o
mapped_is g None i = absurd (let u : IsSome {T = HeapMem} None = i in cc)
mapped_is g (Some x) i = refl

-- a membrane that is changed is a membrane
pub altered_is : (f : ℕ → Option HeapMem) (m : ℕ) (g : HeapMem → HeapMem) (k : ℕ) → IsSome (alter f m (option_map g) k) → IsSome (f k)
altered_is f m g k i = elim (cases_eq k m) [
  | inl e ↦ subst (λ j. IsSome (f j)) (sym e) (mapped_is g (f m) (subst (λ (o : Option HeapMem). IsSome o) (alter_at f m (option_map g)) (subst (λ j. IsSome (alter f m (option_map g) j)) e i)))
  | inr d ↦ subst (λ (o : Option HeapMem). IsSome o) (alter_away f m (option_map g) k d) i
]

-- the first of a line of one
pub line_first : (xs : List ℕ) (a : ℕ) → xs ≡ [] → from (Some a) (xs ++ a ∷ []) ≡ xs ++ a ∷ []
line_first xs a e = rw e (rw (eq-eqb a a refl) refl)

-- behind the only one in line stands nothing
pub line_rest : (xs : List ℕ) (a : ℕ) → xs ≡ [] → after a (xs ++ a ∷ []) ≡ []
line_rest xs a e = rw e (rw (eq-eqb a a refl) refl)

module _ (s : Heap) (m a : ℕ) (f : Functor) (os : List Occ) (pos : Pos) (h : CanBeFilled s m) (fresh : s.atoms a ≡ None) (plain : is_connector f ≡ false) (fits : length os ≡ f.arity) where
  abbrev t : Heap
  t = with_atom s m a f

  abbrev ps : List (Port × ℕ)
  ps = ports_with_links a 0 os

  abbrev made : HeapAtom
  made = with_place (within m) (new_atom f)

  atom_at : t.atoms a ≡ Some made
  atom_at = alter_at (alter s.atoms a (λ _. Some (new_atom f))) a (option_map (with_place (within m))) ∙ ap (option_map (with_place (within m))) (alter_at s.atoms a (λ _. Some (new_atom f)))

  atom_away : (b : ℕ) → b ≢ a → t.atoms b ≡ s.atoms b
  atom_away b d = alter_away (alter s.atoms a (λ _. Some (new_atom f))) a (option_map (with_place (within m))) b d ∙ alter_away s.atoms a (λ _. Some (new_atom f)) b d

  is_mem : IsMem s m
  is_mem = standing_is_mem (s.mems m) h.there

  there : IsTopOrWithin (mem_place_of t m)
  there = subst IsTopOrWithin (sym (same_mem_place s.mems m (λ xs. xs ++ a ∷ []) m)) h.there

  sound : Sound t
  sound = (calls_keep_sound (made_atom s a f) ((calls_keep_sound s h.sound).make_atom a f fresh)).place_atom m a h.there (line_first s.new_atoms a h.no_atoms)

  made_here : IsMadeAtom (t.atoms a) a ps
  made_here = subst (λ o. IsMadeAtom o a ps) (sym atom_at) (record {
    in_place = refl;
    no_connector = not_connector f plain;
    ports = λ i l. port_there a 0 i os (omega arith) (short i l);
    unmarked = no_marks (f.arity + 1);
  })
    where
      short : (i : ℕ) → i < length (replicate f.arity no_port) → i < 0 + length os
      short i l = let n = length-replicate f.arity no_port in omega (arith, l, n, fits)

  free_port : (j : ℕ) → j < 0 + length os → IsFreePort (t.atoms a) j
  free_port j l = subst (λ o. IsFreePort o j) (sym atom_at) (refl, short, no_links f.arity j)
    where
      short : j < length (replicate f.arity no_port)
      short = let n = length-replicate f.arity no_port in omega (arith, l, n, fits)

  here_named : (v : ℕ → ℕ) (name : ℕ → ℕ → ℕ) → Named name v ps → solid_atom_at name a (t.atoms a) ++ [] ≡ cond (is_connector f) [] (record { functor = f; links = map (λ o. v o.link) os } ∷ []) ++ []
  here_named v name n = ap (λ o. solid_atom_at name a o ++ []) atom_at
      ∙ ap (λ ls. record { functor = f; links = ls } ∷ []) (ap (links_from name a 0) (sym fits) ∙ numbers_named name v a 0 os n)
      ∙ sym (ap (λ b. cond b [] (record { functor = f; links = map (λ o. v o.link) os } ∷ []) ++ []) plain)

  pub atom_added : AddsToMembrane s t m (Atom f os pos ∷ []) [] [] ps
  atom_added = record {
    ready = record { sound = sound; no_atoms = line_rest s.new_atoms a h.no_atoms; no_mems = h.no_mems; there = there };
    root = refl;
    place = same_mem_place s.mems m (λ xs. xs ++ a ∷ []) m;
    atoms = a ∷ [];
    mems = [];
    forest = bare;
    atoms_are = atoms_at s.mems m (λ xs. xs ++ a ∷ []) is_mem;
    mems_are = same_mems s.mems m (λ xs. xs ++ a ∷ []) m ∙ none_more (mems_in s m);
    rules_are = list_rules s.mems m (λ xs. xs ++ a ∷ []) m ∙ none_more (rules_in s m);
    forms = refl;
    here = here_named;
    below = λ v name n. refl;
    links = λ v z. let w : atom_links (Atom f os pos ∷ []) ≡ map (λ o. o.link) os = ap (λ b. cond b [] (map (λ o. o.link) os) ++ []) plain ∙ sym (none_more (map (λ o. o.link) os)) in
        rw (w, links_are a 0 os) (omega arith);
    once = ports_once a 0 os;
    made = λ p i. let w = ports_are a p.0 0 p.1 os i in (ap s.atoms w.0 ∙ fresh, subst (λ b. IsFreePort (t.atoms b) p.1) (sym w.0) (free_port p.1 w.2));
    atoms_kept = λ b i. atom_away b (λ e. none_is_not (s.atoms b) (ap s.atoms e ∙ fresh) i);
    mems_kept = λ k i d. alter_away s.mems m (option_map (mem_with_atoms (λ xs. xs ++ a ∷ []))) k d;
    new_atoms = λ b i. elim (cases_eq b a) [
      | inl e ↦ inr (subst (λ c. IsMadeAtom (t.atoms c) c ps) (sym e) made_here)
      | inr d ↦ inl (subst (λ (o : Option HeapAtom). IsSome o) (atom_away b d) i)
    ];
    new_mems = λ k i. inl (altered_is s.mems m (mem_with_atoms (λ xs. xs ++ a ∷ [])) k i);
    new = λ k i. absurd i;
  }

-- Rules

-- a membrane of which nothing but rules and spare changes
module _ (s : Heap) (m : ℕ) (g : HeapMem → HeapMem) (ks : List ℕ) (h : CanBeFilled s m)
    (same : (x : HeapMem) → ((g x).atoms ≡ x.atoms) × ((g x).mems ≡ x.mems) × ((g x).place ≡ x.place) × ((g x).rules ≡ x.rules ++ ks)) where
  abbrev changed : Heap
  changed = record s { mems = alter s.mems m (option_map g) }

  places : (k : ℕ) → mem_place_of changed k ≡ mem_place_of s k
  places k = alter_keeps s.mems m (option_map g) (λ (o : Option HeapMem). option_map (λ x. x.place) o) by k
    where
      by : (o : Option HeapMem) → option_map (λ x. x.place) (option_map g o) ≡ option_map (λ x. x.place) o
      by None = refl
      by (Some x) = ap Some (same x).2

  rules_at : (o : Option HeapMem) → IsSome o → rules_by (option_map g o) ≡ rules_by o ++ ks
  rules_at None i = absurd (cc)
  rules_at (Some x) i = (same x).3

  lists : (k : ℕ) → (atoms_by (alter s.mems m (option_map g) k) ≡ atoms_by (s.mems k)) × (mems_by (alter s.mems m (option_map g) k) ≡ mems_by (s.mems k))
  lists k = (alter_keeps s.mems m (option_map g) atoms_by atoms k, alter_keeps s.mems m (option_map g) mems_by mems k)
    where
      atoms : (o : Option HeapMem) → atoms_by (option_map g o) ≡ atoms_by o
      atoms None = refl
      atoms (Some x) = (same x).0

      mems : (o : Option HeapMem) → mems_by (option_map g o) ≡ mems_by o
      mems None = refl
      mems (Some x) = (same x).1

  pub rules_changed : Sound changed → AddsToMembrane s changed m [] [] ks []
  rules_changed sound = record {
    ready = record { sound = sound; no_atoms = h.no_atoms; no_mems = h.no_mems; there = subst IsTopOrWithin (sym (places m)) h.there };
    root = refl;
    place = places m;
    atoms = [];
    mems = [];
    forest = bare;
    atoms_are = (lists m).0 ∙ none_more (atoms_in s m);
    mems_are = (lists m).1 ∙ none_more (mems_in s m);
    rules_are = ap rules_by (alter_at s.mems m (option_map g)) ∙ rules_at (s.mems m) (standing_is_mem (s.mems m) h.there);
    forms = refl;
    here = λ v name n. refl;
    below = λ v name n. refl;
    links = λ v z. refl;
    once = tt;
    made = λ p i. absurd i;
    atoms_kept = λ a i. refl;
    mems_kept = λ k i d. alter_away s.mems m (option_map g) k d;
    new_atoms = λ a i. inl i;
    new_mems = λ k i. inl (altered_is s.mems m g k i);
    new = λ k i. absurd i;
  }

-- room for rules changes no list
pub room_added : (s : Heap) (m n : ℕ) → CanBeFilled s m → AddsToMembrane s (reserved s m n) m [] [] [] []
room_added s m n h = rules_changed s m (mem_with_spare n) [] h (λ x. (refl, refl, refl, none_more x.rules)) ((calls_keep_sound s h.sound).reserve_rules m n)

-- a rule more
pub one_rule : (s : Heap) (m k : ℕ) → CanBeFilled s m → AddsToMembrane s (rule_added s m k) m [] [] (k ∷ []) []
one_rule s m k h = rules_changed s m (mem_with_rules (k ∷ [])) (k ∷ []) h (λ x. (refl, refl, refl, refl)) ((calls_keep_sound s h.sound).add_rule m k)

-- which takes of the room
pub room_left : (s : Heap) (m k : ℕ) → IsMem s m → spare_of (rule_added s m k) m ≡ spare_of s m - 1
room_left s m k i = ap spare_by (alter_at s.mems m (option_map (mem_with_rules (k ∷ [])))) ∙ by (s.mems m) i
  where
    by : (o : Option HeapMem) → IsSome o → spare_by (option_map (mem_with_rules (k ∷ [])) o) ≡ spare_by o - 1
    by None i = absurd (cc)
    by (Some x) i = refl
