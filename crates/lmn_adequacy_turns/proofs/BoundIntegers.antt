-- What a guard binds on a heap is what it binds in the calculus.
use Rattle.std.proofs.Common.{ℕ, zero, suc, ◌≡◌, ◌<◌, ◌⊎◌, Bool, true, false, cond, List, [], ◌∷◌, map, length, Option, Some, None, All, refl, sym, ap, subst, ◌∙◌, inl, inr, arith}
use Rattle.std.specs.Prelude.{ℤ, Contains}
use Rattle.std.proofs.lemmas.Bool.{cases_eq, eq-eqb}
use Rattle.std.proofs.lemmas.List.Elements.{Contains-append_cases}
use Rattle.lmn_base.specs.declared.functor.Functor.{Functor}
use Rattle.lmn_base.specs.declared.functor.Label.{Label}
use Rattle.lmn_base.specs.declared.functor.Label.TheVariants.{Name, Int}
use Rattle.lmn_base.specs.declared.guard.Cond.{Cond}
use Rattle.lmn_base.specs.declared.guard.Cond.TheVariants.{Kind, Compare, Equal, Differ}
use Rattle.lmn_base.specs.declared.guard.Expr.{Expr}
use Rattle.lmn_base.specs.declared.level.CtxUse.{CtxUse}
use Rattle.lmn_base.specs.declared.level.Leaf.{Leaf}
use Rattle.lmn_base.specs.declared.level.Occ.{Occ}
use Rattle.lmn_base.specs.declared.refusal.Pos.{Pos}
use Rattle.lmn_base.specs.Names.{IsNames, HasNames, label_names, expression_names}
use Rattle.lmn_guards.specs.Values.{value, Evaluates, of_number, of_context, of_operation, computed}
use Rattle.lmn_store_heap.specs.Heap.{Heap, functor_of}
use Rattle.lmn_store_heap.specs.Sound.{Valid}
use Rattle.lmn_solid_heads.specs.Guards.{HoldsOnHeap, Meaning, EqualHolds, bind, integer_named, part_alone, context_alone}
use Rattle.lmn_solid_heads.proofs.HeadTrees.{Head, Heads, head, no_head, head_and, head_leaves, heads_leaves}
use Rattle.lmn_congruence.specs.Orders.{Among, at_head, further}
use Rattle.lmn_congruence.specs.Process.{atom}
use Rattle.lmn_congruence.specs.Translation.{name_of, atom_or_connector, leaf_of, kind_of, condition_of, expression_of}
use Rattle.lmn_reduction.specs.Assignments.{Assignment}
use Rattle.lmn_reduction.specs.Firing.{typed_leaves, typed_contexts, typed_contexts_in}
use Rattle.lmn_reduction.specs.Guards.{GuardHolds, Holds, binds, alike}
use Rattle.lmn_reduction.specs.Parts.{Rooted, IsInteger, an_integer}
use Rattle.lmn_reduction.specs.Values.{Value}
use Rattle.lmn_adequacy.specs.Accepted.{left_sides}
use Rattle.lmn_adequacy_turns.specs.Bound.{bound_by, bound_all}
use Rattle.lmn_adequacy_heaps.proofs.HeadTrees.{tree_of, trees_of}
use Rattle.lmn_adequacy_heaps.proofs.KindConditions.{holds_first, same_number}
use Rattle.lmn_adequacy_heaps.proofs.Values.{value_into}
use Rattle.lmn_adequacy_heaps.proofs.WholeGuards.{Parts, BoundRight, KnownIn, more_right, value_at}
use Rattle.lmn_base.specs.Graphs.{Port}
use Rattle.lmn_base.proofs.Numbers.{not_equal as apart_test}
use Rattle.lmn_congruence.proofs.Common.{among_left, among_right}
use Rattle.lmn_base.specs.declared.level.Leaf.TheVariants as leaf
use Rattle.lmn_congruence.specs.Rules as tree
use Rattle.lmn_base.proofs.Lists.{all_of_left, all_of_right}

-- ---- one value

one_integer : {m n : ℤ} {G : Rooted} → IsInteger m G → IsInteger n G → m ≡ n
one_integer {m} {n} {G} a b = let u = process_of a in let w = process_of b in let q = sym u ∙ w in cc
  where
    process_of : {k : ℤ} {G : Rooted} → IsInteger k G → G.process ≡ atom (tree.integer k) (G.root ∷ [])
    process_of an_integer = refl

-- an expression has one value, where a name stands for one integer
one_value : (Is : tree.Name → ℤ → Type 0) → ((p : tree.Name) (m n : ℤ) → Is p m → Is p n → m ≡ n) → {e : tree.Expression} {m n : ℤ} → Evaluates Is e m → Evaluates Is e n → m ≡ n
one_value Is f of_number of_number = refl
one_value Is f (of_context {p = p} {n = m} a) (of_context {n = n} b) = f p m n a b
one_value Is f (of_operation {o = o} a b d r) (of_operation a' b' d' r') = λ i. computed o (one_value Is f a a' i) (one_value Is f b b' i)

-- ---- names

pub among_either : {A : Type 0} {p q : A} {ps : List A} → Among p (q ∷ ps) → (p ≡ q) ⊎ Among p ps
among_either at_head = inl refl
among_either (further k) = inr k

-- a condition that isn't `=` has no left side
pub no_side : (names : List tree.Name) (n : ℕ) (us : List CtxUse) (cs : List tree.Condition) → left_sides (kind_of names n us ∷ cs) ≡ left_sides cs
no_side names n [] cs = refl
no_side names n (u ∷ (w ∷ us)) cs = refl
no_side names n (u ∷ []) cs = by _ _ _
  where
    by : (b1 b2 b3 : Bool) → left_sides (cond b1 (tree.is_kind tree.int (name_of names u.name)) (cond b2 (tree.is_kind tree.unary (name_of names u.name))
        (cond b3 (tree.is_kind tree.grounded (name_of names u.name)) (tree.unknown (name_of names n) (name_of names u.name ∷ [])))) ∷ cs) ≡ left_sides cs
    by true b2 b3 = refl
    by false true b3 = refl
    by false false true = refl
    by false false false = refl

-- an atom isn't a typed context
atom_skipped : (names : List tree.Name) (l : Label) (xs : List ℕ) (ls : List tree.Leaf) → typed_leaves (atom_or_connector names l xs ∷ ls) ≡ typed_leaves ls
atom_skipped names (Name zero) [] ls = refl
atom_skipped names (Name zero) (x ∷ []) ls = refl
atom_skipped names (Name zero) (x ∷ (y ∷ [])) ls = refl
atom_skipped names (Name zero) (x ∷ (y ∷ (z ∷ xs))) ls = refl
atom_skipped names (Name (suc n)) xs ls = refl
atom_skipped names (Int z) xs ls = refl

-- a typed context among the leaves of a body is one of its tree
module _ (names : List tree.Name) (rule : ℕ → tree.Rule) (n : ℕ) (o : Occ) (q : Pos) where
  leaf_among : (ls : List Leaf) → Contains ls (leaf.Typed n o q) → Among (name_of names n) (typed_leaves (map (leaf_of names) ls))
  leaf_among [] (k, within, e) = absurd (omega (arith, within))
  leaf_among (leaf.Typed m u p ∷ ls) (zero, within, e) = let same : m ≡ n = cc in subst (λ z. Among (name_of names z) (name_of names m ∷ typed_leaves (map (leaf_of names) ls))) same at_head
  leaf_among (leaf.Typed m u p ∷ ls) (suc k, within, e) = further (leaf_among ls (k, omega (arith, within), e))
  leaf_among (leaf.Atom f os p ∷ ls) (zero, within, e) = absurd (cc)
  leaf_among (leaf.Atom f os p ∷ ls) (suc k, within, e) = subst (Among (name_of names n)) (sym (atom_skipped names f.label (map (λ o. o.link) os) (map (leaf_of names) ls))) (leaf_among ls (k, omega (arith, within), e))

  mutual
    pub typed_among : (hd : Head) → Contains (head_leaves hd) (leaf.Typed n o q) → Among (name_of names n) (typed_contexts (tree_of names rule hd))
    typed_among (head leaves hs cs rcs rs) w = elim (Contains-append_cases leaves (heads_leaves hs) (leaf.Typed n o q) w) [
      | inl j ↦ among_left (typed_contexts_in (trees_of names rule hs)) (leaf_among leaves j)
      | inr j ↦ among_right (typed_leaves (map (leaf_of names) leaves)) (typed_among_in hs j)
    ]

    typed_among_in : (hs : Heads) → Contains (heads_leaves hs) (leaf.Typed n o q) → Among (name_of names n) (typed_contexts_in (trees_of names rule hs))
    typed_among_in no_head (k, within, e) = absurd (omega (arith, within))
    typed_among_in (head_and hd hs) w = elim (Contains-append_cases (head_leaves hd) (heads_leaves hs) (leaf.Typed n o q) w) [
      | inl j ↦ among_left (typed_contexts_in (trees_of names rule hs)) (typed_among hd j)
      | inr j ↦ among_right (typed_contexts (tree_of names rule hd)) (typed_among_in hs j)
    ]

-- ---- the guard

module _ (h : Heap) (v : Valid h) (names : List tree.Name) (is_names : IsNames names) (known : (a : ℕ) (g : Functor) → functor_of h a ≡ Some g → HasNames names (label_names g.label)) (heads : List tree.Name) (t : Assignment) where
  abbrev InHead : (ℕ → Option Port) → Type 0
  InHead part = Parts h v names is_names known heads t part

  -- a name that isn't of the head is bound to the value
  value_bound : {p : tree.Name} {e : tree.Expression} → Holds heads t (tree.equates p e) → ¬ (Among p heads) → (n : ℤ) × Value t e n × IsInteger n (t.typed_of p)
  value_bound (binds {n = n} a b c) out = (n, b, c)
  value_bound (alike a b c d s) out = absurd (out a)

  module _ (x : ℕ) (kx : HasNames names (x ∷ [])) where
    -- the name is bound by s, or will be
    abbrev WillBe : Meaning → List Cond → Type 0
    WillBe s cs = ((z : ℤ) × (s.bound_to x ≡ Some z)) ⊎ Among (name_of names x) (left_sides (map (condition_of names) cs))

    abbrev IsBound : Meaning → Type 0
    IsBound s = (z : ℤ) × (s.bound_to x ≡ Some z) × IsInteger z (t.typed_of (name_of names x))

    equal_bound : (s : Meaning) (l : CtxUse) (r : Expr) (cs : List Cond) → InHead s.part_of → BoundRight names t s.bound_to → s.part_of x ≡ None → HasNames names (l.name ∷ []) →
        ((s' : Meaning) → InHead s'.part_of → BoundRight names t s'.bound_to → s'.part_of x ≡ None → HoldsOnHeap h s' cs → WillBe s' cs → IsBound (bound_all h s' cs)) →
        Holds heads t (tree.equates (name_of names l.name) (expression_of names r)) →
        ((z : ℤ) × (s.bound_to x ≡ Some z)) ⊎ Among (name_of names x) (name_of names l.name ∷ left_sides (map (condition_of names) cs)) →
        (o1 o2 : Option Port) (z : Option ℤ) → s.part_of l.name ≡ o1 → value (integer_named h s) r ≡ z → EqualHolds h s o1 o2 l.name z (λ s'. HoldsOnHeap h s' cs) → IsBound (bound_all h (bound_by o1 s l.name z) cs)
    equal_bound s l r cs f b none kl next holds will (Some p) None z e1 ez w = absurd w
    equal_bound s l r cs f b none kl next holds will None o2 None e1 ez w = absurd w
    equal_bound s l r cs f b none kl next holds will (Some p) (Some q) z e1 ez w = next s f b none w.1 (elim will [
      | inl k ↦ inl k
      | inr k ↦ elim (among_either k) [
        | inl same ↦ absurd (let e = same_number names x l.name is_names kx kl same in let y : None ≡ Some p = sym none ∙ ap s.part_of e ∙ e1 in cc)
        | inr j ↦ inr j
      ]
    ])
    equal_bound s l r cs f b none kl next holds will None o2 (Some z) e1 ez w =
        let u = value_bound holds (λ a. let g = f.found l.name kl a in let n : None ≡ Some g.0 = sym e1 ∙ g.1 in cc) in
        let same : u.0 ≡ z = one_value (λ p n. IsInteger n (t.typed_of p)) (λ p m n a b. one_integer a b) u.1 (value_into names t (integer_named h s) (value_at h v names is_names known heads t s f b) r z ez) in
        let right = more_right names t s l.name z b (subst (λ n. IsInteger n (t.typed_of (name_of names l.name))) same u.2) in
        next (bind s l.name z) f right none w (elim (cases_eq x l.name) [
          | inl e ↦ inl (z, rw (eq-eqb x l.name e) refl)
          | inr d ↦ elim will [
            | inl k ↦ inl (k.0, rw (apart_test x l.name d) k.1)
            | inr k ↦ elim (among_either k) [
              | inl same ↦ absurd (d (same_number names x l.name is_names kx kl same))
              | inr j ↦ inr j
            ]
          ]
        ])

    -- a name that the guard binds stands for the same integer on the heap and in the calculus
    pub guard_binds : (cs : List Cond) (s : Meaning) → InHead s.part_of → BoundRight names t s.bound_to → s.part_of x ≡ None → All (KnownIn names) cs → GuardHolds heads t (map (condition_of names) cs) → HoldsOnHeap h s cs →
        ((z : ℤ) × (s.bound_to x ≡ Some z)) ⊎ Among (name_of names x) (left_sides (map (condition_of names) cs)) → IsBound (bound_all h s cs)
    guard_binds [] s f b none k g w will = elim will [ inl y ↦ (y.0, y.1, b x y.0 y.1) | inr j ↦ elim j [ ] ]
    guard_binds (Kind n args q ∷ cs) s f b none k g w will =
        guard_binds cs s f b none (all_of_right (KnownIn names) (Kind n args q ∷ []) cs k) (holds_first h names heads t s g).1 w.1
        (elim will [ inl y ↦ inl y | inr j ↦ inr (subst (Among (name_of names x)) (no_side names n args (map (condition_of names) cs)) j) ])
    guard_binds (Compare op l r q ∷ cs) s f b none k g w will = guard_binds cs s f b none (all_of_right (KnownIn names) (Compare op l r q ∷ []) cs k) (holds_first h names heads t s g).1 w.1 will
    guard_binds (Equal l r q ∷ cs) s f b none k g w will =
        let kl = all_of_left (λ i. i < length names) (l.name ∷ []) (expression_names r) (k zero (Equal l r q) (omega arith)) in
        let k' = all_of_right (KnownIn names) (Equal l r q ∷ []) cs k in
        let p = holds_first h names heads t s g in
        equal_bound s l r cs f b none kl (λ s' f' b' none' w' will'. guard_binds cs s' f' b' none' k' p.1 w' will') p.0 will
        (s.part_of l.name) (part_alone s (context_alone r)) (value (integer_named h s) r) refl refl w
    guard_binds (Differ l r q ∷ cs) s f b none k g w will = guard_binds cs s f b none (all_of_right (KnownIn names) (Differ l r q ∷ []) cs k) (holds_first h names heads t s g).1 w.1 will
