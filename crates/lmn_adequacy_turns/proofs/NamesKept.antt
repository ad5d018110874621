-- After a firing no removed membrane is in the tree, and the names of functors are known.
use Rattle.std.proofs.Common.{ℕ, ◌≡◌, ◌+◌, ◌⊎◌, Bool, true, false, List, [], ◌∷◌, ◌++◌, map, length, Option, Some, None, IsSome, refl, sym, ap, subst, ◌∙◌, inl, inr, arith}
use Rattle.std.specs.Option.{option_map}
use Rattle.std.proofs.lemmas.Option.{same_Some}
use Rattle.lmn_base.specs.declared.functor.Functor.{Functor}
use Rattle.lmn_base.specs.declared.level.CtxUse.{CtxUse}
use Rattle.lmn_base.specs.declared.level.Leaf.{Leaf}
use Rattle.lmn_base.specs.declared.level.Leaf.TheVariants as leaf
use Rattle.lmn_base.specs.Names.{HasNames, label_names}
use Rattle.lmn_base.specs.Solids.{connector}
use Rattle.lmn_store_heap.specs.Functors.{same_functor}
use Rattle.lmn_store_heap.specs.Heap.{Heap, HeapAtom, HeapMem, IsAtom, IsMem, functor_of, home_of, atoms_in, mems_in, atoms_by}
use Rattle.lmn_store_heap.specs.Lists.{Distinct, without_all}
use Rattle.lmn_store_heap.proofs.ListLemmas.{in_left, in_right}
use Rattle.lmn_store_heap.specs.Sound.{Forest, bare, mem, flat, Forms, IsTree, Valid}
use Rattle.lmn_solid_heads.specs.declared.items.HeadItem.{HeadItem}
use Rattle.lmn_solid_heads.specs.Heads as heads
use Rattle.lmn_solid_heads.proofs.HeadTrees.{Head, Heads, head, no_head, head_and, size, head_leaves, heads_leaves}
use Rattle.lmn_congruence_splice.specs.Splice as splice
use Rattle.lmn_solid_bodies.specs.declared.items.BodyItem.{BodyItem}
use Rattle.lmn_solid_bodies.specs.declared.items.BodyItem.TheVariants.{Atom, Connector, Copy, Bound, Membrane, Rest, Rule, Rules}
use Rattle.lmn_solid_bodies.specs.Added.{if_inside, added_atoms, added_mems, made_mems, moved_mems}
use Rattle.lmn_solid_bodies.specs.Fired.{images_of}
use Rattle.lmn_solid_bodies.specs.RestCopies.{RestCopies, later, rest_membranes, copied_membrane, copied_into, given, AreAsLong, AreCopiesIn, AreRestsCopied}
use Rattle.lmn_solid_bodies.specs.Rules.{closed_rests}
use Rattle.lmn_solid_bodies.specs.Flattening.{atom_item, typed_item, body_leaf_items, context_items, body_rule_items, rule_context_items, BodyNames}
use Rattle.lmn_solid_bodies.specs.Made.{made_of, new_atoms, copies_of}
use Rattle.lmn_ground_parts.proofs.AnswerLaws.{answer_in, answer_onto}
use Rattle.lmn_ground_parts.proofs.WalkLaws.{once}
use Rattle.lmn_ground_parts.specs.Walks.{net, neighbour}
use Rattle.lmn_solid_bodies.specs.Running.{Registers, integer_functor}
use Rattle.lmn_solid_bodies.specs.Within.{membrane_images, dropped_mems, removed_mems, FiresWithin}
use Rattle.lmn_solid_bodies.proofs.AddedLemmas.{AreWholeRests, comes_from, in_if, long_enough}
use Rattle.lmn_solid_bodies.proofs.BodyPorts.{numbers}
use Rattle.lmn_solid_bodies.proofs.Committing.{in_withouts_of}
use Rattle.lmn_solid_bodies.proofs.Held.{Held, HoldsRest}
use Rattle.lmn_solid_bodies.proofs.RestGrowing.{in_given}
use Rattle.lmn_solid_bodies.proofs.Finishing.{in_place_listed}
use Rattle.lmn_adequacy_heaps.proofs.Forests.{in_place}
use Rattle.lmn_compile_body.proofs.BodyTrees.{flat_body, flat_bodies}
use Rattle.lmn_base.specs.Graphs.{Port}
use Rattle.lmn_base.specs.Lists.{In}
use Rattle.lmn_base.proofs.Lists.{in_either}
use Rattle.lmn_base.proofs.Common.{of_map}

-- some atoms of h, each once, with copies in h' of which an atom is one
abbrev pub IsRestCopyAtom : Heap → Heap → ℕ → Type 0
IsRestCopyAtom h h' b = (xs : List ℕ) × (ys : List ℕ) × AreCopiesIn h h' xs ys × Distinct xs × In b ys

-- a new atom is written, or is one of the copy of a part or of a rest
new_from : (h h' : Heap) (s : Registers) (q : RestCopies) (a c : ℕ) (body : List BodyItem) → AreRestsCopied h h' s q body → ((of : ℕ) → splice.IsOneOf of (closed_rests body) → Distinct (s.left_atoms of)) →
    (b : ℕ) → In b (new_atoms s q a c body) → In b (numbers (made_of s a body)) ⊎ (((e : ℕ × ℕ) × splice.IsOneOf e (copies_of c body) × In b (s.copied e.0)) ⊎ IsRestCopyAtom h h' b)
new_from h h' s q a c [] w d b i = absurd i
new_from h h' s q a c (Atom functor links inside ∷ xs) w d b (inl e) = inl (inl e)
new_from h h' s q a c (Atom functor links inside ∷ xs) w d b (inr i) = elim (new_from h h' s q (a + 1) c xs w d b i) [ inl j ↦ inl (inr j) | inr j ↦ inr j ]
new_from h h' s q a c (Bound integer link inside ∷ xs) w d b (inl e) = inl (inl e)
new_from h h' s q a c (Bound integer link inside ∷ xs) w d b (inr i) = elim (new_from h h' s q (a + 1) c xs w d b i) [ inl j ↦ inl (inr j) | inr j ↦ inr j ]
new_from h h' s q a c (Connector left right ∷ xs) w d b i = new_from h h' s q a c xs w d b i
new_from h h' s q a c (Copy part link inside ∷ xs) w d b i = elim (in_either b (s.copied c) (new_atoms s q a (c + 1) xs) i) [
  | inl j ↦ inr (inl ((c, part), inl refl, j))
  | inr j ↦ elim (new_from h h' s q a (c + 1) xs w d b j) [
    | inl k ↦ inl k
    | inr k ↦ elim k [ inl u ↦ inr (inl (u.0, inr u.1, u.2)) | inr u ↦ inr (inr u) ]
  ]
]
new_from h h' s q a c (Membrane inside ∷ xs) w d b i = new_from h h' s q a c xs w d b i
new_from h h' s q a c (Rest of false inside ∷ xs) w d b i = new_from h h' s q a c xs w d b i
new_from h h' s q a c (Rest of true inside ∷ xs) w d b i = elim (in_either b (q 0).atoms (new_atoms s (later q) a c xs) i) [
  | inl j ↦ inr (inr (s.left_atoms of, (q 0).atoms, w.0, d of (inl refl), j))
  | inr j ↦ new_from h h' s (later q) a c xs w.1 (λ k l. d k (inr l)) b j
]
new_from h h' s q a c (Rule k inside ∷ xs) w d b i = new_from h h' s q a c xs w d b i
new_from h h' s q a c (Rules of inside ∷ xs) w d b i = new_from h h' s q a c xs w d b i

-- a membrane that a body adds is made, or was left of one whose content moves
abbrev MemComes : Registers → RestCopies → (ℕ → List ℕ) → ℕ → List BodyItem → ℕ → Type 0
MemComes s q left n body b = In b (made_mems s q n body) ⊎ ((k : ℕ) × In k (moved_mems s body) × In b (left k))

mems_from : (s : Registers) (q : RestCopies) (atoms left : ℕ → List ℕ) (n : ℕ) (body : List BodyItem) → AreAsLong s q body → AreWholeRests s atoms left body → (x b : ℕ) → In b (added_mems s q left n body x) → MemComes s q left n body b
mems_from s q atoms left n [] lo wh x b i = absurd i
mems_from s q atoms left n (Atom functor links inside ∷ xs) lo wh x b i = mems_from s q atoms left n xs lo wh x b i
mems_from s q atoms left n (Connector l l' ∷ xs) lo wh x b i = mems_from s q atoms left n xs lo wh x b i
mems_from s q atoms left n (Copy part link inside ∷ xs) lo wh x b i = mems_from s q atoms left n xs lo wh x b i
mems_from s q atoms left n (Bound integer link inside ∷ xs) lo wh x b i = mems_from s q atoms left n xs lo wh x b i
mems_from s q atoms left n (Membrane inside ∷ xs) lo wh x b i = elim (in_either b (if_inside s x inside (s.head.images.membrane n ∷ [])) (added_mems s q left (n + 1) xs x) i) [
  | inl j ↦ elim (in_if s x inside (s.head.images.membrane n ∷ []) b j) [ inl e ↦ inl (inl e) | inr v ↦ absurd v ]
  | inr j ↦ elim (mems_from s q atoms left (n + 1) xs lo wh x b j) [ inl v ↦ inl (inr v) | inr v ↦ inr v ]
]
mems_from s q atoms left n (Rest of false inside ∷ xs) lo wh x b i = elim (in_either b (if_inside s x inside (left (s.head.images.membrane of))) (added_mems s q left n xs x) i) [
  | inl j ↦ inr (s.head.images.membrane of, inl refl, in_if s x inside (left (s.head.images.membrane of)) b j)
  | inr j ↦ elim (mems_from s q atoms left n xs lo wh x b j) [ inl v ↦ inl v | inr v ↦ inr (v.0, inr v.1, v.2) ]
]
mems_from s q atoms left n (Rest of true inside ∷ xs) lo wh x b i =
    let p = q 0 in
    let list = λ (k : ℕ). map (copied_membrane s of p) (left k) in
    elim (in_either b (given list (copied_into s of inside p) (rest_membranes s of) x) (added_mems s (later q) left n xs x) i) [
      | inl j ↦ (let w = in_given list (copied_into s of inside p) (rest_membranes s of) x b j in
          let v = of_map (copied_membrane s of p) b (left w.0) w.3 in
          inl (in_left b p.membranes (made_mems s (later q) n xs) (subst (λ z. In z p.membranes) v.2 (answer_in (s.left_membranes of) p.membranes v.0 (long_enough lo.0.1) ((wh of (inl refl)).into_mems w.0 v.0 w.1 v.1)))))
      | inr j ↦ elim (mems_from s (later q) atoms left n xs lo.1 (λ o l. wh o (inr l)) x b j) [ inl v ↦ inl (in_right b p.membranes (made_mems s (later q) n xs) v) | inr v ↦ inr v ]
    ]
mems_from s q atoms left n (Rule rule inside ∷ xs) lo wh x b i = mems_from s q atoms left n xs lo wh x b i
mems_from s q atoms left n (Rules of inside ∷ xs) lo wh x b i = mems_from s q atoms left n xs lo wh x b i

-- ---- names of what a body makes

module _ (names : List (List ℕ)) where
  abbrev pub ItemNamed : BodyItem → Type 0
  ItemNamed (Atom functor links inside) = HasNames names (label_names functor.label)
  ItemNamed (Connector left right) = Unit {0}
  ItemNamed (Copy part link inside) = Unit {0}
  ItemNamed (Bound integer link inside) = Unit {0}
  ItemNamed (Membrane inside) = Unit {0}
  ItemNamed (Rest of closed inside) = Unit {0}
  ItemNamed (Rule k inside) = Unit {0}
  ItemNamed (Rules of inside) = Unit {0}

  abbrev pub AllNamed : List BodyItem → Type 0
  AllNamed [] = Unit {0}
  AllNamed (x ∷ xs) = ItemNamed x × AllNamed xs

  named_both : (xs ys : List BodyItem) → AllNamed xs → AllNamed ys → AllNamed (xs ++ ys)
  named_both [] ys a b = b
  named_both (x ∷ xs) ys a b = (a.0, named_both xs ys a.1 b)

  -- each atom among these leaves has a known name
  abbrev pub LeafNamed : Leaf → Type 0
  LeafNamed (leaf.Atom f os p) = HasNames names (label_names f.label)
  LeafNamed (leaf.Typed n o p) = Unit {0}

  abbrev pub LeavesNamed : List Leaf → Type 0
  LeavesNamed [] = Unit {0}
  LeavesNamed (l ∷ ls) = LeafNamed l × LeavesNamed ls

  leaves_split : (xs ys : List Leaf) → LeavesNamed (xs ++ ys) → LeavesNamed xs × LeavesNamed ys
  leaves_split [] ys a = (tt, a)
  leaves_split (x ∷ xs) ys a = let u = leaves_split xs ys a.1 in ((a.0, u.0), u.1)

  no_name : (z : List ℕ) → HasNames names []
  no_name z i d l = absurd (omega (arith, l))

  made_named : (s : Registers) (a : ℕ) (xs : List BodyItem) → AllNamed xs → (b : ℕ) → In b (numbers (made_of s a xs)) → (e : ℕ × Functor) × splice.IsOneOf e (made_of s a xs) × (e.0 ≡ b) × HasNames names (label_names e.1.label)
  made_named s a [] n b i = absurd i
  made_named s a (Atom functor links inside ∷ xs) n b (inl e) = ((s.head.images.atom a, functor), inl refl, e, n.0)
  made_named s a (Atom functor links inside ∷ xs) n b (inr i) = let u = made_named s (a + 1) xs n.1 b i in (u.0, inr u.1, u.2, u.3)
  made_named s a (Bound integer link inside ∷ xs) n b (inl e) = ((s.head.images.atom a, integer_functor (s.head.integer integer)), inl refl, e, no_name [])
  made_named s a (Bound integer link inside ∷ xs) n b (inr i) = let u = made_named s (a + 1) xs n.1 b i in (u.0, inr u.1, u.2, u.3)
  made_named s a (Connector left right ∷ xs) n b i = made_named s a xs n.1 b i
  made_named s a (Copy part link inside ∷ xs) n b i = made_named s a xs n.1 b i
  made_named s a (Membrane inside ∷ xs) n b i = made_named s a xs n.1 b i
  made_named s a (Rest of closed inside ∷ xs) n b i = made_named s a xs n.1 b i
  made_named s a (Rule k inside ∷ xs) n b i = made_named s a xs n.1 b i
  made_named s a (Rules of inside ∷ xs) n b i = made_named s a xs n.1 b i

  module _ (bn : BodyNames) where
    atom_named : (t : Bool) (f : Functor) (ys : List ℕ) (inside : ℕ) → HasNames names (label_names f.label) → ItemNamed (atom_item t f ys inside)
    atom_named true f [] inside n = n
    atom_named true f (a ∷ []) inside n = n
    atom_named true f (a ∷ (b ∷ [])) inside n = tt
    atom_named true f (a ∷ (b ∷ (c ∷ ys))) inside n = n
    atom_named false f ys inside n = n

    typed_named : (o : Option ℕ) (i x inside : ℕ) → ItemNamed (typed_item o i x inside)
    typed_named (Some g) i x inside = tt
    typed_named None i x inside = tt

    items_named : (inside : ℕ) (ls : List Leaf) → LeavesNamed ls → AllNamed (body_leaf_items bn inside ls)
    items_named inside [] n = tt
    items_named inside (leaf.Atom f os p ∷ ls) n = (atom_named (same_functor f connector) f (map (λ o. o.link) os) inside n.0, items_named inside ls n.1)
    items_named inside (leaf.Typed m o p ∷ ls) n = (typed_named (bn.part m) (bn.integer m) o.link inside, items_named inside ls n.1)

    contexts_named : (inside : ℕ) (us : List CtxUse) → AllNamed (context_items bn inside us)
    contexts_named inside [] = tt
    contexts_named inside (u ∷ us) = (tt, contexts_named inside us)

    rules_named : (inside : ℕ) (ks : List ℕ) → AllNamed (body_rule_items inside ks)
    rules_named inside [] = tt
    rules_named inside (k ∷ ks) = (tt, rules_named inside ks)

    rule_contexts_named : (inside : ℕ) (us : List CtxUse) → AllNamed (rule_context_items bn inside us)
    rule_contexts_named inside [] = tt
    rule_contexts_named inside (u ∷ us) = (tt, rule_contexts_named inside us)

    mutual
      -- the names of a body are known
      pub body_named : (inside neighbour : ℕ) (hd : Head) → LeavesNamed (head_leaves hd) → AllNamed (flat_body bn inside neighbour hd)
      body_named inside neighbour (head leaves hs cs rcs rs) n =
          let u = leaves_split leaves (heads_leaves hs) n in
          named_both (body_leaf_items bn inside leaves) (flat_bodies bn inside neighbour hs ++ (context_items bn inside cs ++ (body_rule_items inside rs ++ rule_context_items bn inside rcs))) (items_named inside leaves u.0)
          (named_both (flat_bodies bn inside neighbour hs) (context_items bn inside cs ++ (body_rule_items inside rs ++ rule_context_items bn inside rcs)) (bodies_named inside neighbour hs u.1)
          (named_both (context_items bn inside cs) (body_rule_items inside rs ++ rule_context_items bn inside rcs) (contexts_named inside cs)
          (named_both (body_rule_items inside rs) (rule_context_items bn inside rcs) (rules_named inside rs) (rule_contexts_named inside rcs))))

      bodies_named : (inside neighbour : ℕ) (hs : Heads) → LeavesNamed (heads_leaves hs) → AllNamed (flat_bodies bn inside neighbour hs)
      bodies_named inside neighbour no_head n = tt
      bodies_named inside neighbour (head_and h hs) n =
          let u = leaves_split (head_leaves h) (heads_leaves hs) n in
          (tt, named_both (flat_body bn neighbour (neighbour + 1) h) (flat_bodies bn inside (neighbour + 1 + size h) hs) (body_named neighbour (neighbour + 1) h u.0) (bodies_named inside (neighbour + 1 + size h) hs u.1))

-- ---- after a firing

module _ (h h' : Heap) (v : Valid h) (v' : Valid h') (c : Port → ℕ) (s : Registers) (head : List HeadItem) (body : List BodyItem) (m : ℕ) (parts : List ℕ) (hs : Held h v head body m s parts) (f : FiresWithin h c s head body (images_of s head ++ parts) h') where
  -- the membranes that are removed, and what is left of one
  abbrev ks : List ℕ
  ks = removed_mems s head

  abbrev left_atoms : ℕ → List ℕ
  left_atoms k = without_all (images_of s head ++ parts) (atoms_in h k)

  abbrev left_mems : ℕ → List ℕ
  left_mems k = without_all (membrane_images s head) (mems_in h k)

  -- no new membrane is removed
  pub new_kept : (x : ℕ) → In x (made_mems s f.rests (1 + length (heads.membranes_of head)) body) → In x ks → ⊥
  new_kept x i j = by (h.mems x) (f.made_fresh x i) (hs.removed_mem x j)
    where
      by : (o : Option HeapMem) → o ≡ None → IsSome o → ⊥
      by None e i = absurd (cc)
      by (Some y) e i = absurd (cc)

  -- nor one that is left of a membrane that holds no rest
  pub left_kept : (k z : ℕ) → (HoldsRest s head k → ⊥) → In z (left_mems k) → In z ks → ⊥
  left_kept k z o i j =
      let w = in_withouts_of (membrane_images s head) (mems_in h k) z (v.sound.listed.mems_once k) i in
      elim (in_either z (membrane_images s head) (dropped_mems s head) j) [ inl l ↦ w.1 l | inr l ↦ o (hs.mem_holds z k l w.0) ]

  -- no membrane of the tree is removed
  pub none_removed : (t : Forest) (ms : List ℕ) → Forms h' t ms → ((z : ℕ) → In z ms → In z ks → ⊥) → (y : ℕ) → In y (flat t) → In y ks → ⊥
  none_removed bare ms F o y p = absurd p
  none_removed (mem k i t) ms F o y p =
      let mine : In k ks → ⊥ = o k (subst (In k) (sym F.1) (inl refl)) in
      elim p [
        | inl e ↦ subst (λ z. In z ks → ⊥) e mine
        | inr q ↦ elim (in_either y (flat i) (flat t) q) [
          | inl a ↦ none_removed i (mems_in h' k) F.2 (λ z j. children k mine z (subst (In z) (f.mems k mine) j)) y a
          | inr b ↦ none_removed t F.0 F.3 (λ z j. o z (subst (In z) (sym F.1) (inr j))) y b
        ]
      ]
    where
      children : (k : ℕ) → (In k ks → ⊥) → (z : ℕ) → In z (left_mems k ++ added_mems s f.rests left_mems (1 + length (heads.membranes_of head)) body k) → In z ks → ⊥
      children k o z i = elim (in_either z (left_mems k) (added_mems s f.rests left_mems (1 + length (heads.membranes_of head)) body k) i) [
        | inl a ↦ left_kept k z (λ w. o (hs.holds_removed k w)) a
        | inr b ↦ elim (mems_from s f.rests left_atoms left_mems (1 + length (heads.membranes_of head)) body f.rests_long hs.whole k z b) [
          | inl w ↦ new_kept z w
          | inr w ↦ left_kept w.0 z (λ u. hs.moved_out w.0 w.1 u) w.2
        ]
      ]

  home_is : (a : ℕ) → IsSome (home_of h' a) → (m : ℕ) × (home_of h' a ≡ Some m)
  home_is a i = by (home_of h' a) refl i
    where
      by : (o : Option ℕ) → home_of h' a ≡ o → IsSome o → (m : ℕ) × (home_of h' a ≡ Some m)
      by None e i = absurd (cc)
      by (Some m) e i = (m, e)

  list_mem : (x a : ℕ) → In a (atoms_in h' x) → IsMem h' x
  list_mem x a i = by (h'.mems x) i
    where
      by : (o : Option HeapMem) → In a (atoms_by o) → IsSome o
      by None i = absurd i
      by (Some y) i = refl

  functor_atom : (a : ℕ) (g : Functor) → functor_of h' a ≡ Some g → IsAtom h' a
  functor_atom a g e = by (h'.atoms a) e
    where
      by : (o : Option HeapAtom) → option_map (λ x. x.functor) o ≡ Some g → IsSome o
      by None e = absurd (cc)
      by (Some y) e = refl

  -- the names of functors are known
  pub names_known : (names : List (List ℕ)) → ((a : ℕ) (g : Functor) → functor_of h a ≡ Some g → HasNames names (label_names g.label)) → AllNamed names body →
      (t : Forest) → IsTree h' t → (In h'.root ks → ⊥) → (a : ℕ) (g : Functor) → functor_of h' a ≡ Some g → HasNames names (label_names g.label)
  names_known names known named t tr o a g e =
      let x = home_is a (v'.settled.atoms a (functor_atom a g e)) in
      let i = in_place h' v' a x.0 x.1 in
      let outside = none_removed t (h'.root ∷ []) tr.forms (λ z j. elim j [ inl q ↦ subst (λ w. In w ks → ⊥) q o | inr w ↦ absurd w ]) x.0 (tr.all x.0 (list_mem x.0 a i)) in
      let N = length (heads.atoms_of head) in
      elim (in_either a (left_atoms x.0) (added_atoms s f.rests left_atoms N 0 body x.0) (subst (In a) (f.atoms x.0 outside) i)) [
        | inl j ↦ old x.0 (λ w. outside (hs.holds_removed x.0 w)) j
        | inr j ↦ elim (comes_from s f.rests left_atoms left_mems N 0 body f.rests_long hs.whole x.0 a j) [
          | inl w ↦ elim (new_from h h' s f.rests N 0 body f.rests_copied (λ of k. (hs.whole of k).once) a w) [
            | inl k ↦ (let u = made_named names s N body named a k in
                let same : u.0.1 ≡ g = same_Some u.0.1 g (sym (f.made_functors u.0 u.1) ∙ ap (functor_of h') u.2 ∙ e) in
                subst (λ z. HasNames names (label_names z.label)) same u.3)
            | inr k ↦ elim k [
              | inl p ↦ (let w = f.copies p.0 p.1 in
                  let u = answer_onto w.atoms (s.copied p.0.0) a (sym w.long) (once (net h).arity (neighbour (net h) (s.head.images.part p.0.1) (λ _. true)) w.part (tt, tt)) p.2 in
                  known u.0 g (sym (w.functors u.0 u.1) ∙ ap (functor_of h') u.2 ∙ e))
              | inr p ↦ (let u = answer_onto p.0 p.1 a (sym p.2.long) p.3 p.4 in known u.0 g (sym (p.2.functors u.0 u.1) ∙ ap (functor_of h') u.2 ∙ e))
            ]
          ]
          | inr w ↦ old w.0 (λ u. hs.moved_out w.0 w.1 u) w.2
        ]
      ]
    where
      old : (k : ℕ) → (HoldsRest s head k → ⊥) → In a (left_atoms k) → HasNames names (label_names g.label)
      old k out j =
          let w = in_withouts_of (images_of s head ++ parts) (atoms_in h k) a (v.sound.listed.atoms_once k) j in
          known a g (sym (f.kept_functors a (in_place_listed h k a v.sound.listed w.0) w.1 (λ d. out (hs.atom_holds a k d w.0))) ∙ e)
