-- The atoms of a store that is loaded have names of the plain.
use Rattle.std.proofs.Common.{ℕ, zero, ◌≡◌, Bool, true, false, cond, List, [], ◌∷◌, ◌++◌, map, length, All, ◌<◌, Option, Some, None, IsSome, refl, sym, ap, subst, inl, inr, arith}
use Rattle.std.specs.List.{flat_map}
use Rattle.std.specs.Option.{option_map}
use Rattle.std.proofs.lemmas.List.Elements.{All-append, All-from_recursion}
use Rattle.lmn_base.specs.declared.functor.Functor.{Functor}
use Rattle.lmn_base.specs.declared.level.Leaf.{Leaf}
use Rattle.lmn_base.specs.declared.level.Leaf.TheVariants.{Atom, Typed}
use Rattle.lmn_base.specs.declared.level.Level.{Level}
use Rattle.lmn_base.specs.declared.level.Level.TheFolds.{fold-roll-Level, ind-Level}
use Rattle.lmn_base.specs.declared.rule.Plain.{Plain}
use Rattle.lmn_base.specs.declared.solid.Region.{Region}
use Rattle.lmn_base.specs.declared.solid.Region.TheViews.{roll-Region}
use Rattle.lmn_base.specs.declared.solid.Region.TheFolds.{fold-roll-Region}
use Rattle.lmn_base.specs.declared.solid.SolidAtom.{SolidAtom}
use Rattle.lmn_base.specs.Levels.{leaves_of}
use Rattle.lmn_base.specs.Names.{HasNames, NamesPlain, label_names, leaf_names, level_names, context_names, rule_names}
use Rattle.lmn_base.specs.Levels.{contexts_of, rule_contexts_of}
use Rattle.lmn_base.specs.Solids.{atoms_of_region, atoms_step, is_connector}
use Rattle.lmn_base.proofs.Common.{inner_leaves, inner_atoms}
use Rattle.lmn_congruence.specs.Rules.{Name}
use Rattle.lmn_congruence.specs.SolidsOfPlains.{fused_leaf, fused_step, fused_region}
use Rattle.lmn_store_heap.specs.Heap.{Heap, HeapAtom, within, atoms_in, rules_in, Place, top, waiting, gone, functor_of, home_of, place_of, home_by}
use Rattle.lmn_store_heap.specs.Solid.{links_from, solid_atom_at, solid_atoms_at as heap_atoms, regions_of}
use Rattle.lmn_store_heap.specs.Sound.{Forest, bare, mem, flat, Valid}
use Rattle.lmn_schedule_loading.specs.Loaded.{IsLoaded}
use Rattle.lmn_store_heap.proofs.Common.{holds_mem as listed_mem}
use Rattle.lmn_base.specs.Lists.{In}
use Rattle.lmn_base.proofs.Lists.{in_either, all_of_left, all_of_right}

abbrev Below : List Name → ℕ → Type 0
Below names n = n < length names

abbrev Named : List Name → SolidAtom → Type 0
Named names a = HasNames names (label_names a.functor.label)

-- ---- the atoms of a level without its connectors

module _ (names : List Name) (v : ℕ → ℕ) where
  leaf_named : (l : Leaf) → HasNames names (leaf_names l) → All (Named names) (fused_leaf v l)
  leaf_named (Typed n o p) h = All-from_recursion (Named names) [] tt
  leaf_named (Atom f os p) h = by (is_connector f)
    where
      by : (b : Bool) → All (Named names) (cond b [] (record { functor = f; links = map (λ o. v o.link) os } ∷ []))
      by true = All-from_recursion (Named names) [] tt
      by false = let x : SolidAtom = record { functor = f; links = map (λ o. v o.link) os } in let one : Named names x × Unit {0} = (h, tt) in All-from_recursion (Named names) (x ∷ []) one

  leaves_named : (ls : List Leaf) → HasNames names (flat_map leaf_names ls) → All (Named names) (flat_map (fused_leaf v) ls)
  leaves_named [] h = All-from_recursion (Named names) [] tt
  leaves_named (l ∷ ls) h = All-append (Named names) (fused_leaf v l) (flat_map (fused_leaf v) ls)
      (leaf_named l (all_of_left (Below names) (leaf_names l) (flat_map leaf_names ls) h)) (leaves_named ls (all_of_right (Below names) (leaf_names l) (flat_map leaf_names ls) h))

  -- the names of some leaves, and of some more
  both_names : (ks ls : List Leaf) → HasNames names (flat_map leaf_names (ks ++ ls)) → HasNames names (flat_map leaf_names ks) × HasNames names (flat_map leaf_names ls)
  both_names [] ls h = (All-from_recursion (Below names) [] tt, h)
  both_names (k ∷ ks) ls h =
      let rest = both_names ks ls (all_of_right (Below names) (leaf_names k) (flat_map leaf_names (ks ++ ls)) h) in
      (All-append (Below names) (leaf_names k) (flat_map leaf_names ks) (all_of_left (Below names) (leaf_names k) (flat_map leaf_names (ks ++ ls)) h) rest.0, rest.1)

  abbrev KeepsNames : Level → Type 0
  KeepsNames l = HasNames names (flat_map leaf_names (leaves_of l)) → All (Named names) (atoms_of_region (fused_region v l))

  inner_named : (ls : List ((l : Level) × KeepsNames l)) → HasNames names (flat_map leaf_names (inner_leaves (map (λ e. e.0) ls))) → All (Named names) (inner_atoms (map (fused_region v) (map (λ e. e.0) ls)))
  inner_named [] h = All-from_recursion (Named names) [] tt
  inner_named (e ∷ ls) h =
      let both = both_names (leaves_of e.0) (inner_leaves (map (λ e. e.0) ls)) h in
      All-append (Named names) (atoms_of_region (fused_region v e.0)) (inner_atoms (map (fused_region v) (map (λ e. e.0) ls))) (e.1 both.0) (inner_named ls both.1)

  level_named : (l : Level) → KeepsNames l
  level_named = ind-Level KeepsNames (λ y z is h.
      let split = fold-roll-Level (List Leaf) (λ l. l.leaves ++ flat_map (λ inner. inner) l.membranes) y in
      let both = both_names y.leaves (inner_leaves y.membranes) (subst (λ ls. HasNames names (flat_map leaf_names ls)) split h) in
      let inside = subst (λ l. HasNames names (flat_map leaf_names (inner_leaves l.membranes)) → All (Named names) (inner_atoms (map (fused_region v) l.membranes))) is (inner_named z.membranes) in
      rw (fold-roll-Level Region (fused_step v) y, fold-roll-Region (List SolidAtom) atoms_step _)
      (All-append (Named names) (flat_map (fused_leaf v) y.leaves) (inner_atoms (map (fused_region v) y.membranes)) (leaves_named y.leaves both.0) (inside both.1)))

-- ---- the atoms of a heap

abbrev regions_first : Heap → (ℕ → ℕ → ℕ) → ℕ → Forest → Region
regions_first s name n x = roll-Region (record { atoms = heap_atoms s name (atoms_in s n); membranes = regions_of s name x; rules = rules_in s n })

-- what holds of each atom of the regions of a forest holds of each atom of its membranes
in_forest : (P : SolidAtom → Type 0) (s : Heap) (name : ℕ → ℕ → ℕ) (f : Forest) → All P (inner_atoms (regions_of s name f)) → (m : ℕ) → In m (flat f) → All P (heap_atoms s name (atoms_in s m))
in_forest P s name bare h m i = absurd i
in_forest P s name (mem n x r) h m i =
    let here : atoms_of_region (regions_first s name n x) ≡ heap_atoms s name (atoms_in s n) ++ inner_atoms (regions_of s name x) = fold-roll-Region (List SolidAtom) atoms_step _ in
    let first : All P (heap_atoms s name (atoms_in s n) ++ inner_atoms (regions_of s name x)) = subst (All P) here (all_of_left P (atoms_of_region (regions_first s name n x)) (inner_atoms (regions_of s name r)) h) in
    let rest : All P (inner_atoms (regions_of s name r)) = all_of_right P (atoms_of_region (regions_first s name n x)) (inner_atoms (regions_of s name r)) h in
    elim i [
      | inl e ↦ subst (λ k. All P (heap_atoms s name (atoms_in s k))) e (all_of_left P (heap_atoms s name (atoms_in s n)) (inner_atoms (regions_of s name x)) first)
      | inr j ↦ elim (in_either m (flat x) (flat r) j) [
        | inl q ↦ in_forest P s name x (all_of_right P (heap_atoms s name (atoms_in s n)) (inner_atoms (regions_of s name x)) first) m q
        | inr q ↦ in_forest P s name r rest m q
      ]
    ]

module _ (names : List Name) (s : Heap) (name : ℕ → ℕ → ℕ) where
  one_named : (o : Option HeapAtom) (a : ℕ) (f : Functor) → option_map (λ x. x.functor) o ≡ Some f → All (Named names) (solid_atom_at name a o) → HasNames names (label_names f.label)
  one_named None a f e h = absurd (cc e)
  one_named (Some x) a f e h =
      let same : x.functor ≡ f = cc e in
      let first : SolidAtom = record { functor = x.functor; links = links_from name a 0 x.functor.arity } in
      subst (λ g. HasNames names (label_names g.label)) same (h zero first (omega arith))

  listed_named : (xs : List ℕ) → All (Named names) (heap_atoms s name xs) → (a : ℕ) → In a xs → (f : Functor) → functor_of s a ≡ Some f → HasNames names (label_names f.label)
  listed_named [] h a i f e = absurd i
  listed_named (x ∷ xs) h a (inl q) f e = one_named (s.atoms a) a f e (subst (λ k. All (Named names) (solid_atom_at name k (s.atoms k))) q (all_of_left (Named names) (solid_atom_at name x (s.atoms x)) (heap_atoms s name xs) h))
  listed_named (x ∷ xs) h a (inr i) f e = listed_named xs (all_of_right (Named names) (solid_atom_at name x (s.atoms x)) (heap_atoms s name xs) h) a i f e

-- an atom that isn't freed stands in a membrane of a valid heap
stands : (s : Heap) → Valid s → (a : ℕ) (f : Functor) → functor_of s a ≡ Some f → (m : ℕ) × In a (atoms_in s m)
stands s v a f e = by (s.atoms a) refl
  where
    homed : (x : HeapAtom) → s.atoms a ≡ Some x → (o : Option ℕ) → home_by x.place ≡ o → IsSome o → (m : ℕ) × In a (atoms_in s m)
    homed x q None p k = absurd (cc k)
    homed x q (Some m) p k = (m, (v.sound.listed.atoms m a).1 (placed x q m p))
      where
        placed : (x : HeapAtom) → s.atoms a ≡ Some x → (m : ℕ) → home_by x.place ≡ Some m → place_of s a ≡ Some (within m)
        placed x q m p = rw q (ap Some (at x.place m p))
          where
            at : (pl : Place) (m : ℕ) → home_by pl ≡ Some m → pl ≡ within m
            at pl m p = elim pl as (λ pl. home_by pl ≡ Some m → pl ≡ within m) [ top ↦ λ p. absurd (cc p) | within k ↦ λ p. ap within (cc p) | waiting ↦ λ p. absurd (cc p) | gone ↦ λ p. absurd (cc p) ] p

    by : (o : Option HeapAtom) → s.atoms a ≡ o → (m : ℕ) × In a (atoms_in s m)
    by None q = absurd (let z : option_map (λ x. x.functor) (s.atoms a) ≡ Some f = e in cc (q, z))
    by (Some x) q = homed x q (home_by x.place) refl (subst IsSome (in_home x q) (v.settled.atoms a (rw q refl)))
      where
        in_home : (x : HeapAtom) → s.atoms a ≡ Some x → home_of s a ≡ home_by x.place
        in_home x q = rw q refl

-- the names of atoms that are loaded are those of the plain
pub loaded_named : (names : List Name) (p : Plain) (s : Heap) → IsLoaded p s → NamesPlain names p → (a : ℕ) (f : Functor) → functor_of s a ≡ Some f → HasNames names (label_names f.label)
loaded_named names p s l known a f e =
    let names_on_top : HasNames names (level_names p.top) = all_of_left (Below names) (level_names p.top) (flat_map rule_names p.rules) known.1 in
    let leaves : HasNames names (flat_map leaf_names (leaves_of p.top)) = all_of_left (Below names) (flat_map leaf_names (leaves_of p.top)) (context_names (contexts_of p.top)) (all_of_left (Below names) (flat_map leaf_names (leaves_of p.top) ++ context_names (contexts_of p.top)) (context_names (rule_contexts_of p.top)) names_on_top) in
    let root : All (Named names) (atoms_of_region l.solid.root) = subst (λ r. All (Named names) (atoms_of_region r)) (sym l.of_plain.is) (level_named names l.of_plain.to p.top leaves) in
    let whole : All (Named names) (inner_atoms (regions_of s l.of_heap.name l.of_heap.forest)) =
    subst (λ rs. All (Named names) (inner_atoms rs)) (sym l.of_heap.root) (All-append (Named names) (atoms_of_region l.solid.root) [] root (All-from_recursion (Named names) [] tt)) in
    let home = stands s l.valid a f e in
    listed_named names s l.of_heap.name (atoms_in s home.0) (in_forest (Named names) s l.of_heap.name l.of_heap.forest whole home.0 (l.of_heap.tree.all home.0 (listed_mem (s.mems home.0) a home.1))) a home.1 f e
