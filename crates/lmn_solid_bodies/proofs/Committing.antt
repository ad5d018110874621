-- A commit of a body without membranes: what is taken leaves its lists, what waits is placed, the ties are made, and what
-- was taken is freed.
use Rattle.std.proofs.Common.{ℕ, ◌+◌, ◌<◌, ◌≡◌, ◌≢◌, ◌⊎◌, ◌==◌, Bool, true, false, cond, List, [], ◌∷◌, ◌++◌, Option, Some, None, IsSome, refl, sym, ap, subst, ◌∙◌, inl, inr}
use Rattle.std.specs.Option.{option_map, option_and_then}
use Rattle.std.proofs.lemmas.Bool.{eq-eqb}
use Rattle.lmn_base.specs.Solids.{connector}
use Rattle.lmn_store_heap.specs.Heap.{Heap, HeapAtom, HeapMem, Place, top, within, waiting, gone, functor_of, arity_of, mem_place_of, atoms_in, mems_in, rules_in, atoms_by, mems_by, rules_by, IsMem, IsInPlace, Distinct, without, mem_unless_gone, finished, taken_all}
use Rattle.lmn_store_heap.specs.Sound.{Paired, Listed, Shaped, Sound, Forest, flat, Forms, IsTree, Valid}
use Rattle.lmn_store_heap.specs.Conditions.{Ready}
use Rattle.lmn_store_heap.proofs.ListLemmas.{in_left, in_right, in_withouts}
use Rattle.lmn_store_heap.proofs.Listing.{in_without_of, distinct_without, same_listed}
use Rattle.lmn_store_heap.proofs.Groves.{forms_frame, forms_one}
use Rattle.lmn_store_heap.proofs.Finish.{atoms_fin, mems_fin, finish_valid}
use Rattle.lmn_congruence_splice.specs.Classes.{body_ties}
use Rattle.lmn_congruence_splice.specs.Splice.{links, raw_link, Splice, Fusion}
use Rattle.lmn_congruence_splice.specs.Splice as splice
use Rattle.lmn_solid_bodies.specs.Tied.{partners, all_tied}
use Rattle.lmn_solid_bodies.specs.Running.{all_placed}
use Rattle.lmn_solid_bodies.specs.Names.{StandsPort, Names}
use Rattle.lmn_solid_bodies.proofs.HeapTies.{SameItems, heap_fusion}
use Rattle.lmn_solid_bodies.proofs.Phases.{Stays, stays_after, AfterTaking, AfterPlacing, AllHome, AllStand, placed_in, atoms_of_pairs, all_taken_after, all_placed_after}
use Rattle.lmn_solid_bodies.proofs.Finishing.{within_of, in_place_listed, ready, names_left, stands_on}
use Rattle.lmn_base.specs.Graphs.{Port}
use Rattle.lmn_store_heap.specs.Lists.{without_all}
use Rattle.lmn_base.specs.Lists.{In}
use Rattle.lmn_base.proofs.Lists.{in_either}

-- Lists

-- what is left of a list without some numbers stood in it and is none of these
pub in_withouts_of : (ns xs : List ℕ) (x : ℕ) → Distinct xs → In x (without_all ns xs) → In x xs × (In x ns → ⊥)
in_withouts_of [] xs x d i = (i, λ j. j)
in_withouts_of (a ∷ ns) xs x d i =
    let w = in_withouts_of ns (without a xs) x (distinct_without a xs d) i in
    let v = in_without_of a x xs d w.0 in
    (v.0, λ j. elim j [ inl e ↦ v.1 (sym e) | inr k ↦ w.1 k ])

-- what is placed in one membrane is placed
pub in_placed : (k a : ℕ) (es : List (ℕ × ℕ)) → In a (placed_in k es) → In a (atoms_of_pairs es)
in_placed k a [] i = i
in_placed k a (e ∷ es) i = by (e.0 == k) i (in_placed k a es)
  where
    by : (t : Bool) → In a (cond t (e.1 ∷ placed_in k es) (placed_in k es)) → (In a (placed_in k es) → In a (atoms_of_pairs es)) → In a (atoms_of_pairs (e ∷ es))
    by true (inl f) r = inl f
    by true (inr j) r = inr (r j)
    by false j r = inr (r j)

-- and what is placed is placed in some membrane
pub placed_somewhere : (a : ℕ) (es : List (ℕ × ℕ)) → In a (atoms_of_pairs es) → (k : ℕ) × In a (placed_in k es)
placed_somewhere a [] i = absurd i
placed_somewhere a (e ∷ es) (inl f) = (e.0, rw (eq-eqb e.0 e.0 refl) (inl f))
placed_somewhere a (e ∷ es) (inr i) = let w = placed_somewhere a es i in (w.0, by w.0 (e.0 == w.0) w.1)
  where
    by : (k : ℕ) (t : Bool) → In a (placed_in k es) → In a (cond t (e.1 ∷ placed_in k es) (placed_in k es))
    by k true j = inr j
    by k false j = j

-- A heap in which what a commit makes waits: what is taken, and where each new atom goes.
--   sound       it is sound
--   once, home  what is taken stands in lists, each once
--   line        the new atoms wait, in their order
--   stand       they go to membranes that don't wait
--   settled     no membrane waits or is gone
--   tree        the membranes form a tree
--   plain       neither an atom in place nor a new one is a connector
pub record Poised (s : Heap) (ns : List ℕ) (es : List (ℕ × ℕ)) (forest : Forest) : Type 0 where
  pub sound : Sound s
  pub once : Distinct ns
  pub home : AllHome s ns
  pub line : s.new_atoms ≡ atoms_of_pairs es
  pub stand : AllStand s es
  pub no_mems : s.new_mems ≡ []
  pub none_gone : (m : ℕ) → mem_place_of s m ≢ Some gone
  pub forms : Forms s forest (s.root ∷ [])
  pub flat_once : Distinct (flat forest)
  pub all : (m : ℕ) → IsMem s m → In m (flat forest)
  pub plain : (a : ℕ) → IsInPlace s a → functor_of s a ≢ Some connector
  pub new_plain : (a : ℕ) → In a (atoms_of_pairs es) → functor_of s a ≢ Some connector

-- the ports of what is left and of what is new
abbrev pub LiveIn : Heap → List ℕ → List ℕ → Port → Type 0
LiveIn s ns new p = (p.1 < arity_of s p.0) × ((IsInPlace s p.0 × (In p.0 ns → ⊥)) ⊎ In p.0 new)

-- the same where each new atom has a membrane to which it goes
abbrev pub EndsLive : Heap → List ℕ → List (ℕ × ℕ) → Port → Type 0
EndsLive s ns es = LiveIn s ns (atoms_of_pairs es)

module _ (s : Heap) (ns : List ℕ) (es : List (ℕ × ℕ)) (forest : Forest) (po : Poised s ns es forest) (c : Port → ℕ) (news olds : List (Port × ℕ)) (wires : List (ℕ × ℕ)) (n : ℕ)
    (sp : Splice (EndsLive s ns es) c (partners s) news olds wires) (below : (x : ℕ) → splice.IsOneOf x (links news ++ links olds) → x < n) where
  abbrev pub F : Port → Type 0
  F = EndsLive s ns es

  abbrev pub t : Heap
  t = taken_all s ns

  abbrev pub u : Heap
  u = all_placed t es

  abbrev pub v : Heap
  v = all_tied u (body_ties news olds wires n)

  at : AfterTaking s t ns
  at = all_taken_after ns s po.sound.listed po.sound.paired po.once po.home

  nil_end : (xs : List ℕ) → xs ≡ xs ++ []
  nil_end [] = refl
  nil_end (x ∷ xs) = ap (λ ys. x ∷ ys) (nil_end xs)

  stand_t : (fs : List (ℕ × ℕ)) → AllStand s fs → AllStand t fs
  stand_t [] w = tt
  stand_t (e ∷ fs) w = (some (s.mems e.0) (t.mems e.0) (at.stays.mem_places e.0) w.0, (λ f. w.1 (sym (at.stays.mem_places e.0) ∙ f)), stand_t fs w.2)
    where
      some : (o q : Option HeapMem) → option_map (λ y. y.place) q ≡ option_map (λ y. y.place) o → IsSome o → IsSome q
      some None q e i = absurd (cc)
      some (Some x) None e i = absurd (cc)
      some (Some x) (Some y) e i = refl

  pl : AfterPlacing t u es []
  pl = all_placed_after es [] t at.listed at.paired (at.line ∙ po.line ∙ nil_end (atoms_of_pairs es)) (stand_t es po.stand)

  st : Stays s u
  st = stays_after s t u at.stays pl.stays

  same_partners : partners u ≡ partners s
  same_partners = λ i p. st.links p.0 p.1 i

  fu : Fusion F c (partners v) news olds wires × Paired v × SameItems u v
  fu = heap_fusion F c news olds wires n u pl.paired (λ p f. subst (λ k. p.1 < k) (sym (st.arities p.0)) f.0) (subst (λ k. Splice F c k news olds wires) (sym same_partners) sp) below

  same : SameItems u v
  same = fu.2

  pub listed_v : Listed v
  listed_v = same_listed u v pl.listed same.places (λ m. ap (λ f. option_map (λ x. x.place) (f m)) same.mems) (λ m. ap (λ f. atoms_by (f m)) same.mems) (λ m. ap (λ f. mems_by (f m)) same.mems) same.root same.new_atoms same.new_mems

  functors : (a : ℕ) → functor_of v a ≡ functor_of s a
  functors a = same.functors a ∙ st.functors a

  arities : (a : ℕ) → arity_of v a ≡ arity_of s a
  arities a = same.arities a ∙ st.arities a

  shaped_v : Shaped v
  shaped_v = record {
    ports = λ a f e. arities a ∙ po.sound.shaped.ports a f (sym (functors a) ∙ e);
    marks = λ a is. same.marks a ∙ st.marks a ∙ po.sound.shaped.marks a (some (v.atoms a) (s.atoms a) (functors a) is) ∙ ap (λ k. k + 1) (sym (arities a));
  }
    where
      some : (o q : Option HeapAtom) → option_map (λ x. x.functor) o ≡ option_map (λ x. x.functor) q → IsSome o → IsSome q
      some None q e i = absurd (cc)
      some (Some x) None e i = absurd (cc)
      some (Some x) (Some y) e i = refl

  sound_v : Sound v
  sound_v = record { paired = fu.1; listed = listed_v; shaped = shaped_v }

  -- the lists: what is left, in its order, and then what is new
  pub lists_v : (k : ℕ) → atoms_in v k ≡ without_all ns (atoms_in s k) ++ placed_in k es
  lists_v k = ap (λ f. atoms_by (f k)) same.mems ∙ pl.lists k ∙ ap (λ xs. xs ++ placed_in k es) (at.lists k)

  pub inner_v : (k : ℕ) → mems_in v k ≡ mems_in s k
  inner_v k = ap (λ f. mems_by (f k)) same.mems ∙ st.inner k

  pub rules_v : (k : ℕ) → rules_in v k ≡ rules_in s k
  rules_v k = ap (λ f. rules_by (f k)) same.mems ∙ st.rules k

  mem_places_v : (k : ℕ) → mem_place_of v k ≡ mem_place_of s k
  mem_places_v k = ap (λ f. option_map (λ x. x.place) (f k)) same.mems ∙ st.mem_places k

  pub stands_v : (a : ℕ) → IsInPlace v a → (IsInPlace s a × (In a ns → ⊥)) ⊎ In a (atoms_of_pairs es)
  stands_v a i =
      let w = within_of v a i in
      let j : In a (without_all ns (atoms_in s w.0) ++ placed_in w.0 es) = subst (In a) (lists_v w.0) ((listed_v.atoms w.0 a).1 w.1) in
      elim (in_either a (without_all ns (atoms_in s w.0)) (placed_in w.0 es) j) [
        | inl k ↦ (let x = in_withouts_of ns (atoms_in s w.0) a (po.sound.listed.atoms_once w.0) k in inl (in_place_listed s w.0 a po.sound.listed x.0, x.1))
        | inr k ↦ inr (in_placed w.0 a es k)
      ]

  pub stands_then : (a : ℕ) → (IsInPlace s a × (In a ns → ⊥)) ⊎ In a (atoms_of_pairs es) → IsInPlace v a
  stands_then a (inl w) = let x = within_of s a w.0 in
      in_place_listed v x.0 a listed_v (subst (In a) (sym (lists_v x.0)) (in_left a (without_all ns (atoms_in s x.0)) (placed_in x.0 es) (in_withouts ns (atoms_in s x.0) a ((po.sound.listed.atoms x.0 a).1 x.1) w.1)))
  stands_then a (inr i) = let w = placed_somewhere a es i in
      in_place_listed v w.0 a listed_v (subst (In a) (sym (lists_v w.0)) (in_right a (without_all ns (atoms_in s w.0)) (placed_in w.0 es) w.1))

  into : (p : Port) → StandsPort v p → F p
  into p l = (subst (λ k. p.1 < k) (arities p.0) l.1, stands_v p.0 l.0)

  back : (p : Port) → F p → StandsPort v p
  back p f = (stands_then p.0 f.1, subst (λ k. p.1 < k) (sym (arities p.0)) f.0)

  pub commit_fusion : Fusion F c (partners v) news olds wires
  commit_fusion = fu.0

  abbrev pub to_names : Port → ℕ
  to_names p = commit_fusion.to (raw_link news c p)

  -- The links of the heap that is left are those of the fusion.
  pub commit_names : Names (finished v) (λ p. commit_fusion.to (raw_link news c p))
  commit_names = names_left v F to_names commit_fusion.coloured into back

  -- The heap that is left is valid.
  pub commit_valid : Valid (finished v)
  commit_valid = finish_valid v sound_v
      (ready v F to_names commit_fusion.coloured into back (λ m e. absurd (po.none_gone m (sym (mem_places_v m) ∙ e))) (same.new_atoms ∙ pl.line) (same.new_mems ∙ st.new_mems ∙ po.no_mems))
      forest
      (subst (λ r. Forms v forest (r ∷ [])) (sym (same.root ∙ st.root)) (forms_frame s v forest (s.root ∷ []) (λ m i. inner_v m) po.forms))
      po.flat_once
      (λ m is g. po.all m (some (v.mems m) (s.mems m) (mem_places_v m) is))
      (λ a i e. elim (stands_v a i) [ inl w ↦ po.plain a w.0 (sym (functors a) ∙ e) | inr j ↦ po.new_plain a j (sym (functors a) ∙ e) ])
    where
      some : (o q : Option HeapMem) → option_map (λ y. y.place) o ≡ option_map (λ y. y.place) q → IsSome o → IsSome q
      some None q e i = absurd (cc)
      some (Some x) None e i = absurd (cc)
      some (Some x) (Some y) e i = refl

  ready_v : Ready v
  ready_v = ready v F to_names commit_fusion.coloured into back (λ m e. absurd (po.none_gone m (sym (mem_places_v m) ∙ e))) (same.new_atoms ∙ pl.line) (same.new_mems ∙ st.new_mems ∙ po.no_mems)

  -- the tree of membranes is the same
  pub commit_tree : IsTree (finished v) forest
  commit_tree = subst (IsTree (finished v)) (forms_one (finished v) commit_valid.tree.0 forest ((finished v).root ∷ []) commit_valid.tree.1.forms
      (forms_frame v (finished v) forest (v.root ∷ []) (λ m i. mems_fin v sound_v ready_v m)
      (subst (λ z. Forms v forest (z ∷ [])) (sym (same.root ∙ st.root)) (forms_frame s v forest (s.root ∷ []) (λ m i. inner_v m) po.forms)))) commit_valid.tree.1

  -- the lists: what is left, in its order, and then what is new
  pub commit_lists : (k : ℕ) → atoms_in (finished v) k ≡ without_all ns (atoms_in s k) ++ placed_in k es
  commit_lists k = atoms_fin v sound_v ready_v k ∙ lists_v k

  pub commit_rules : (k : ℕ) → rules_in (finished v) k ≡ rules_in s k
  commit_rules k = ap rules_by (stays_mem (v.mems k) (λ e. po.none_gone k (sym (mem_places_v k) ∙ e))) ∙ rules_v k
    where
      place : (x : HeapMem) (p : Place) → x.place ≡ p → (p ≡ gone → ⊥) → mem_unless_gone x ≡ Some x
      place x top e d = rw e refl
      place x (within m) e d = rw e refl
      place x waiting e d = rw e refl
      place x gone e d = absurd (d refl)

      stays_mem : (o : Option HeapMem) → (option_map (λ x. x.place) o ≡ Some gone → ⊥) → option_and_then mem_unless_gone o ≡ o
      stays_mem None d = refl
      stays_mem (Some x) d = place x x.place refl (λ e. d (ap (λ z. Some z) e))

  -- functors stay
  pub commit_functor : (a : ℕ) → (IsInPlace s a × (In a ns → ⊥)) ⊎ In a (atoms_of_pairs es) → functor_of (finished v) a ≡ functor_of s a
  commit_functor a w = ap (λ (o : Option HeapAtom). option_map (λ x. x.functor) o) (stands_on v a (stands_then a w)) ∙ functors a
