-- Guards of any conditions, where each typed context stands for one atom.
use Rattle.std.specs.Prelude.{◌↔◌, ℤ}
use Rattle.std.proofs.Common.{ℕ, zero, ◌≡◌, ◌≢◌, ◌<◌, ◌⊎◌, ◌==◌, Bool, true, false, cond, List, [], ◌∷◌, map, length, Option, Some, None, All, refl, sym, ap, subst, ◌∙◌, inl, inr, arith}
use Rattle.std.proofs.lemmas.Bool.{cases_eq, eq-eqb, eqb-true}
use Rattle.std.proofs.lemmas.Option.{same_Some}
use Rattle.lmn_base.specs.declared.functor.Functor.{Functor}
use Rattle.lmn_base.specs.declared.guard.Cond.{Cond}
use Rattle.lmn_base.specs.declared.guard.Cond.TheVariants.{Kind, Compare, Equal, Differ}
use Rattle.lmn_base.specs.declared.guard.Expr.{Expr}
use Rattle.lmn_base.specs.declared.level.CtxUse.{CtxUse}
use Rattle.lmn_base.specs.Graphs.{SameGraph as SameOnHeap, Port}
use Rattle.lmn_base.specs.Names.{IsNames, HasNames, label_names, context_names, condition_names, expression_names}
use Rattle.lmn_guards.specs.Values.{value}
use Rattle.lmn_store_heap.specs.Heap.{Heap, functor_of}
use Rattle.lmn_store_heap.specs.Graphs.{atom_map}
use Rattle.lmn_store_heap.specs.Sound.{Valid}
use Rattle.lmn_solid_heads.specs.Guards.{HoldsOnHeap, Meaning, EqualHolds, with_part, bind, integer_named, integer_or, part_alone, context_alone}
use Rattle.lmn_congruence.specs.Orders.{Among, at_head, further}
use Rattle.lmn_congruence.specs.Process.{atom}
use Rattle.lmn_congruence.specs.Translation.{name_of, condition_of, expression_of}
use Rattle.lmn_reduction.specs.Assignments.{Assignment}
use Rattle.lmn_reduction.specs.Guards.{GuardHolds, Holds, in_order, binds, alike, unlike, no_condition, condition_and}
use Rattle.lmn_reduction.specs.Parts.{Rooted, IsInteger, an_integer, IsGround, EqualParts}
use Rattle.lmn_reduction.specs.Values.{Value}
use Rattle.lmn_adequacy.specs.Accepted.{InTurn, binding_in_turn, equality_in_turn, difference_in_turn, UsedIn}
use Rattle.lmn_adequacy_heaps.specs.Bindings.{Binds, BindsAt}
use Rattle.lmn_reduction.proofs.Values.{number_tree, context_tree, operation_tree, Uses, uses_known}
use Rattle.lmn_adequacy_heaps.proofs.Values.{uses_from, uses_both, value_into, value_back, stand_into, stand_back}
use Rattle.lmn_adequacy_heaps.proofs.KindConditions.{StandsFor, each_use, type_into, type_back, compared, turn_compared, holds_first, same_number}
use Rattle.lmn_base.proofs.Numbers.{not_equal as apart_test}
use Rattle.lmn_base.specs.declared.guard.Expr.TheVariants as expr
use Rattle.lmn_congruence.specs.Rules as tree
use Rattle.lmn_base.proofs.Lists.{all_of_left, all_of_right}

-- the context that an expression is
alone_is : (s : Meaning) (e : Expr) (q : Port) → part_alone s (context_alone e) ≡ Some q → (u : CtxUse) × (e ≡ expr.Ctx u) × (s.part_of u.name ≡ Some q)
alone_is s (expr.Int z) q k = absurd (cc)
alone_is s (expr.Ctx u) q k = (u, refl, k)
alone_is s (expr.Op' o p l i r) q k = absurd (cc)

-- the names of a condition are known
abbrev pub KnownIn : List tree.Name → Cond → Type 0
KnownIn names c = All (λ i. i < length names) (condition_names c)

module _ (names : List tree.Name) (t : Assignment) where
  -- bound names are taken to their integers
  abbrev pub BoundRight : (ℕ → Option ℤ) → Type 0
  BoundRight bound = (x : ℕ) (n : ℤ) → bound x ≡ Some n → IsInteger n (t.typed_of (name_of names x))

  pub more_right : (s : Meaning) (x : ℕ) (z : ℤ) → BoundRight s.bound_to → IsInteger z (t.typed_of (name_of names x)) → BoundRight (bind s x z).bound_to
  more_right s x z b i y n e = by (y == x) refl e
    where
      by : (c : Bool) → (y == x) ≡ c → cond c (Some z) (s.bound_to y) ≡ Some n → IsInteger n (t.typed_of (name_of names y))
      by true q e = subst (λ w. IsInteger n (t.typed_of (name_of names w))) (sym (eqb-true y x q)) (subst (λ w. IsInteger w (t.typed_of (name_of names x))) (same_Some z n e) i)
      by false q e = b y n e

module _ (h : Heap) (v : Valid h) (names : List tree.Name) (is_names : IsNames names) (known : (a : ℕ) (g : Functor) → functor_of h a ≡ Some g → HasNames names (label_names g.label)) (heads : List tree.Name) (t : Assignment) where
  abbrev Known : ℕ → Type 0
  Known x = HasNames names (x ∷ [])

  -- what the names of the head stand for
  pub record Parts (part : ℕ → Option Port) : Type 0 where
    pub stands : (x : ℕ) (p : Port) → part x ≡ Some p → StandsFor h names t x p
    pub graphs : (x y : ℕ) (p q : Port) → part x ≡ Some p → part y ≡ Some q → SameOnHeap (atom_map h) p (atom_map h) q ↔ EqualParts (t.typed_of (name_of names x)) (t.typed_of (name_of names y))
    pub among : (x : ℕ) (p : Port) → part x ≡ Some p → Among (name_of names x) heads
    pub found : (x : ℕ) → HasNames names (x ∷ []) → Among (name_of names x) heads → (p : Port) × (part x ≡ Some p)

  -- each name that is bound has an integer
  abbrev pub BoundAll : List tree.Name → (ℕ → Option ℤ) → Type 0
  BoundAll done bound = (x : ℕ) → HasNames names (x ∷ []) → Among (name_of names x) done → (z : ℤ) × (bound x ≡ Some z)

  among_rest : (y x : ℕ) (done : List tree.Name) → Known y → Known x → y ≢ x → {ps : List tree.Name} → Among (name_of names y) ps → ps ≡ name_of names x ∷ done → Among (name_of names y) done
  among_rest y x done ky kx d k e = by (name_of names y) refl k e
    where
      by : (p : tree.Name) → p ≡ name_of names y → {ps : List tree.Name} → Among p ps → ps ≡ name_of names x ∷ done → Among (name_of names y) done
      by p q at_head e = absurd (d (same_number names y x is_names ky kx (let w : p ≡ name_of names x = cc in sym q ∙ w)))
      by p q (further {ys = ys} k) e = let w : ys ≡ done = cc in subst (λ z. Among z done) q (subst (Among p) w k)

  more_all : (s : Meaning) (done : List tree.Name) (x : ℕ) (z : ℤ) → Known x → BoundAll done s.bound_to → BoundAll (name_of names x ∷ done) (bind s x z).bound_to
  more_all s done x z kx b y ky a = elim (cases_eq y x) [
    | inl e ↦ (z, rw (eq-eqb y x e) refl)
    | inr d ↦ (let w = b y ky (among_rest y x done ky kx d a refl) in (w.0, rw (apart_test y x d) w.1))
  ]

  -- ---- values

  pub value_at : (s : Meaning) → Parts s.part_of → BoundRight names t s.bound_to → (x : ℕ) (n : ℤ) → integer_named h s x ≡ Some n → IsInteger n (t.typed_of (name_of names x))
  value_at s f b x n e = by (s.part_of x) refl e
    where
      by : (o : Option Port) → s.part_of x ≡ o → integer_or h o (s.bound_to x) ≡ Some n → IsInteger n (t.typed_of (name_of names x))
      by None q e = b x n e
      by (Some p) q e = ((f.stands x p q).integer n).0 e

  one_integer : {m n : ℤ} {G : Rooted} → IsInteger m G → IsInteger n G → m ≡ n
  one_integer {m} {n} {G} a b = let u = process_of a in let w = process_of b in let q = sym u ∙ w in cc
    where
      first : Rooted → Rooted
      first G = G

      process_of : {k : ℤ} {G : Rooted} → IsInteger k G → G.process ≡ atom (tree.integer k) (G.root ∷ [])
      process_of an_integer = refl

  value_from : (s : Meaning) (done : List tree.Name) → Parts s.part_of → BoundRight names t s.bound_to → BoundAll done s.bound_to → (x : ℕ) → Known x → Among (name_of names x) heads ⊎ Among (name_of names x) done →
      (n : ℤ) → IsInteger n (t.typed_of (name_of names x)) → integer_named h s x ≡ Some n
  value_from s done f b c x kx a n i = by (s.part_of x) refl
    where
      from_bound : s.part_of x ≡ None → Among (name_of names x) heads ⊎ Among (name_of names x) done → s.bound_to x ≡ Some n
      from_bound q (inl k) = absurd (let w = f.found x kx k in let z : None ≡ Some w.0 = sym q ∙ w.1 in cc)
      from_bound q (inr k) = let w = c x kx k in w.1 ∙ ap Some (one_integer (b x w.0 w.1) i)

      by : (o : Option Port) → s.part_of x ≡ o → integer_or h o (s.bound_to x) ≡ Some n
      by None q = from_bound q a
      by (Some p) q = ((f.stands x p q).integer n).1 i

  -- ---- equality of parts

  graph_into : (part : ℕ → Option Port) → Parts part → (x y : ℕ) (p q : Port) → part x ≡ Some p → part y ≡ Some q → SameOnHeap (atom_map h) p (atom_map h) q → EqualParts (t.typed_of (name_of names x)) (t.typed_of (name_of names y))
  graph_into part f x y p q ex ey s = (f.graphs x y p q ex ey).0 s

  graph_back : (part : ℕ → Option Port) → Parts part → (x y : ℕ) (p q : Port) → part x ≡ Some p → part y ≡ Some q → EqualParts (t.typed_of (name_of names x)) (t.typed_of (name_of names y)) → SameOnHeap (atom_map h) p (atom_map h) q
  graph_back part f x y p q ex ey s = (f.graphs x y p q ex ey).1 s

  ground_at : (part : ℕ → Option Port) → Parts part → (x : ℕ) (p : Port) → part x ≡ Some p → IsGround (t.typed_of (name_of names x))
  ground_at part f x p e = (f.stands x p e).ground

  -- ---- into the calculus

  equal_into : (s : Meaning) (left : CtxUse) (right : Expr) (cs : List tree.Condition) (Rest Bind : Meaning → Type 0) → Parts s.part_of → BoundRight names t s.bound_to → Known left.name →
      (Rest s → Bind s → GuardHolds heads t cs) → ((z : ℤ) → IsInteger z (t.typed_of (name_of names left.name)) → Rest (bind s left.name z) → Bind (bind s left.name z) → GuardHolds heads t cs) →
      (o1 o2 : Option Port) (z : Option ℤ) → s.part_of left.name ≡ o1 → part_alone s (context_alone right) ≡ o2 → value (integer_named h s) right ≡ z →
      EqualHolds h s o1 o2 left.name z Rest → BindsAt names t.typed_of s o1 left.name z Bind → GuardHolds heads t (tree.equates (name_of names left.name) (expression_of names right) ∷ cs)
  equal_into s left right cs Rest Bind f b kl k1 k2 (Some p) (Some q) z e1 e2 ez w y =
      let u = alone_is s right q e2 in
      let T : expression_of names right ≡ tree.value_of (name_of names u.0.name) = ap (expression_of names) u.1 ∙ context_tree names u.0 in
      subst (λ T. GuardHolds heads t (tree.equates (name_of names left.name) T ∷ cs)) (sym T)
      (condition_and (alike (f.among left.name p e1) (f.among u.0.name q u.2) (ground_at s.part_of f left.name p e1) (ground_at s.part_of f u.0.name q u.2) (graph_into s.part_of f left.name u.0.name p q e1 u.2 w.0)) (k1 w.1 y))
  equal_into s left right cs Rest Bind f b kl k1 k2 (Some p) None z e1 e2 ez w y = absurd w
  equal_into s left right cs Rest Bind f b kl k1 k2 None o2 None e1 e2 ez w y = absurd w
  equal_into s left right cs Rest Bind f b kl k1 k2 None o2 (Some z) e1 e2 ez w y =
      condition_and (binds (λ a. let g = f.found left.name kl a in let n : None ≡ Some g.0 = sym e1 ∙ g.1 in cc) (value_into names t (integer_named h s) (value_at s f b) right z ez) y.0) (k2 z y.0 w y.1)

  differ_into : (s : Meaning) → Parts s.part_of → (x y : ℕ) (o1 o2 : Option Port) → s.part_of x ≡ o1 → s.part_of y ≡ o2 → with_part o1 (λ p. with_part o2 (λ q. SameOnHeap (atom_map h) p (atom_map h) q → ⊥)) → Holds heads t (tree.differs (name_of names x) (name_of names y))
  differ_into s f x y None o2 e1 e2 w = absurd w
  differ_into s f x y (Some p) None e1 e2 w = absurd w
  differ_into s f x y (Some p) (Some q) e1 e2 w =
      unlike (f.among x p e1) (f.among y q e2) (ground_at s.part_of f x p e1) (ground_at s.part_of f y q e2) (λ g. w (graph_back s.part_of f x y p q e1 e2 g))

  -- a guard that holds on the heap holds in the calculus
  pub guard_into : (cs : List Cond) (s : Meaning) → Parts s.part_of → BoundRight names t s.bound_to → All (KnownIn names) cs → Binds h names t.typed_of s cs → HoldsOnHeap h s cs → GuardHolds heads t (map (condition_of names) cs)
  guard_into [] s f b k y w = no_condition
  guard_into (Kind n args q ∷ cs) s f b k y w = condition_and (type_into h names heads t s n args q f.stands w.0) (guard_into cs s f b (all_of_right (KnownIn names) (Kind n args q ∷ []) cs k) y w.1)
  guard_into (Compare op l r q ∷ cs) s f b k y w =
      condition_and (in_order (value_into names t (integer_named h s) (value_at s f b) l w.0.0 w.0.2) (value_into names t (integer_named h s) (value_at s f b) r w.0.1 w.0.3) (stand_into op w.0.0 w.0.1 w.0.4))
      (guard_into cs s f b (all_of_right (KnownIn names) (Compare op l r q ∷ []) cs k) y w.1)
  guard_into (Equal l r q ∷ cs) s f b k y w =
      let kl = all_of_left (λ i. i < length names) (l.name ∷ []) (expression_names r) (k zero (Equal l r q) (omega arith)) in
      let k' = all_of_right (KnownIn names) (Equal l r q ∷ []) cs k in
      equal_into s l r (map (condition_of names) cs) (λ s'. HoldsOnHeap h s' cs) (λ s'. Binds h names t.typed_of s' cs) f b kl (λ w y. guard_into cs s f b k' y w) (λ z i w y. guard_into cs (bind s l.name z) f (more_right names t s l.name z b i) k' y w)
      (s.part_of l.name) (part_alone s (context_alone r)) (value (integer_named h s) r) refl refl refl w y
  guard_into (Differ l r q ∷ cs) s f b k y w = condition_and (differ_into s f l.name r.name (s.part_of l.name) (s.part_of r.name) refl refl w.0) (guard_into cs s f b (all_of_right (KnownIn names) (Differ l r q ∷ []) cs k) y w.1)

  -- ---- and back

  -- a condition `$x = E` in its turn: it binds, or it compares two contexts of the head
  pub data EquatesInTurn (done : List tree.Name) (p : tree.Name) (E : tree.Expression) (cs : List tree.Condition) : Type 0 where
    turn_binds : ¬ (Among p heads) → ((q : tree.Name) → UsedIn q E → Among q heads ⊎ Among q done) → InTurn heads (p ∷ done) cs → EquatesInTurn done p E cs
    turn_compares : (q : tree.Name) → E ≡ tree.value_of q → Among p heads → Among q heads → InTurn heads done cs → EquatesInTurn done p E cs

  turn_equates : {done : List tree.Name} {p : tree.Name} {E : tree.Expression} {cs : List tree.Condition} → InTurn heads done (tree.equates p E ∷ cs) → EquatesInTurn done p E cs
  turn_equates (binding_in_turn a b c d) = turn_binds a c d
  turn_equates (equality_in_turn {q = q} a b c) = turn_compares q refl a b c

  -- a condition `$x = E` that holds: it binds, or it compares two contexts of the head
  pub data EquatesHolds (p : tree.Name) (E : tree.Expression) : Type 0 where
    holds_bound : ¬ (Among p heads) → (n : ℤ) → Value t E n → IsInteger n (t.typed_of p) → EquatesHolds p E
    holds_same : (q : tree.Name) → E ≡ tree.value_of q → Among p heads → EqualParts (t.typed_of p) (t.typed_of q) → EquatesHolds p E

  holds_equates : {p : tree.Name} {E : tree.Expression} → Holds heads t (tree.equates p E) → EquatesHolds p E
  holds_equates (binds {n = n} a b c) = holds_bound a n b c
  holds_equates (alike {q = q} a b c d s) = holds_same q refl a s

  turn_differs : {done : List tree.Name} {p q : tree.Name} {cs : List tree.Condition} → InTurn heads done (tree.differs p q ∷ cs) → Among p heads × Among q heads × InTurn heads done cs
  turn_differs (difference_in_turn a b c) = (a, b, c)

  holds_differs : {p q : tree.Name} → Holds heads t (tree.differs p q) → ¬ (EqualParts (t.typed_of p) (t.typed_of q))
  holds_differs (unlike a b c d n) = n

  context_is : (e : Expr) (q : tree.Name) → expression_of names e ≡ tree.value_of q → (u : CtxUse) × (e ≡ expr.Ctx u) × (name_of names u.name ≡ q)
  context_is (expr.Int z) q w = absurd (let y = sym (number_tree names z) ∙ w in cc)
  context_is (expr.Ctx u) q w = (u, refl, (let y = sym (context_tree names u) ∙ w in cc))
  context_is (expr.Op' o p l i r) q w = absurd (let y = sym (operation_tree names o p l i r) ∙ w in cc)

  value_there : (s : Meaning) (done : List tree.Name) → Parts s.part_of → BoundRight names t s.bound_to → BoundAll done s.bound_to → (e : Expr) (n : ℤ) → All (λ i. i < length names) (expression_names e) →
      ((q : tree.Name) → UsedIn q (expression_of names e) → Among q heads ⊎ Among q done) → Value t (expression_of names e) n → value (integer_named h s) e ≡ Some n
  value_there s done f b c e n k u w =
      value_back names t (integer_named h s) e n
      (uses_both (λ x. All (λ i. i < length names) (x ∷ [])) (λ x. Among (name_of names x) heads ⊎ Among (name_of names x) done) (λ x. (n : ℤ) → IsInteger n (t.typed_of (name_of names x)) → integer_named h s x ≡ Some n)
      (λ x kx a n i. value_from s done f b c x kx a n i) e (uses_known (λ i. i < length names) e k) (uses_from names (λ p. Among p heads ⊎ Among p done) e u)) w

  equal_back : (s : Meaning) (done : List tree.Name) (left : CtxUse) (right : Expr) (cs : List tree.Condition) (Rest : Meaning → Type 0) → Parts s.part_of → BoundRight names t s.bound_to → BoundAll done s.bound_to → Known left.name → All (λ i. i < length names) (expression_names right) →
      EquatesInTurn done (name_of names left.name) (expression_of names right) cs → EquatesHolds (name_of names left.name) (expression_of names right) →
      (InTurn heads done cs → Rest s) → ((z : ℤ) → IsInteger z (t.typed_of (name_of names left.name)) → InTurn heads (name_of names left.name ∷ done) cs → Rest (bind s left.name z)) →
      EqualHolds h s (s.part_of left.name) (part_alone s (context_alone right)) left.name (value (integer_named h s) right) Rest
  equal_back s done left right cs Rest f b c kl kr (turn_binds na u i) (holds_bound nb n w j) k1 k2 =
      let o : s.part_of left.name ≡ None = by (s.part_of left.name) refl in
      let z = value_there s done f b c right n kr u w in
      subst (λ o. EqualHolds h s o (part_alone s (context_alone right)) left.name (value (integer_named h s) right) Rest) (sym o)
      (subst (λ z. EqualHolds h s None (part_alone s (context_alone right)) left.name z Rest) (sym z) (k2 n j i))
    where
      by : (o : Option Port) → s.part_of left.name ≡ o → s.part_of left.name ≡ None
      by None e = e
      by (Some p) e = absurd (na (f.among left.name p e))
  equal_back s done left right cs Rest f b c kl kr (turn_binds na u i) (holds_same q e a g) k1 k2 = absurd (na a)
  equal_back s done left right cs Rest f b c kl kr (turn_compares q e a a2 i) (holds_bound nb n w j) k1 k2 = absurd (nb a)
  equal_back s done left right cs Rest f b c kl kr (turn_compares q e a a2 i) (holds_same q' e' a' g) k1 k2 =
      let u = context_is right q e in
      let same : q ≡ q' = let w = sym e ∙ e' in cc in
      let ku = subst (Uses (λ x. All (λ i. i < length names) (x ∷ []))) u.1 (uses_known (λ i. i < length names) right kr) in
      let p1 = f.found left.name kl a in
      let p2 = f.found u.0.name ku (subst (λ y. Among y heads) (sym u.2) a2) in
      let g' = subst (λ y. EqualParts (t.typed_of (name_of names left.name)) (t.typed_of y)) (sym same ∙ sym u.2) g in
      let alone : part_alone s (context_alone right) ≡ Some p2.0 = ap (λ e. part_alone s (context_alone e)) u.1 ∙ p2.1 in
      subst (λ o. EqualHolds h s o (part_alone s (context_alone right)) left.name (value (integer_named h s) right) Rest) (sym p1.1)
      (subst (λ o. EqualHolds h s (Some p1.0) o left.name (value (integer_named h s) right) Rest) (sym alone) (graph_back s.part_of f left.name u.0.name p1.0 p2.0 p1.1 p2.1 g', k1 i))

  differ_back : (s : Meaning) → Parts s.part_of → (x y : ℕ) → Known x → Known y → Among (name_of names x) heads → Among (name_of names y) heads → ¬ (EqualParts (t.typed_of (name_of names x)) (t.typed_of (name_of names y))) →
      with_part (s.part_of x) (λ p. with_part (s.part_of y) (λ q. SameOnHeap (atom_map h) p (atom_map h) q → ⊥))
  differ_back s f x y kx ky a c n =
      let p = f.found x kx a in
      let q = f.found y ky c in
      subst (λ o. with_part o (λ p. with_part (s.part_of y) (λ q. SameOnHeap (atom_map h) p (atom_map h) q → ⊥))) (sym p.1)
      (subst (λ o. with_part o (λ q. SameOnHeap (atom_map h) p.0 (atom_map h) q → ⊥)) (sym q.1) (λ g. n (graph_into s.part_of f x y p.0 q.0 p.1 q.1 g)))

  -- a guard that holds in the calculus holds on the heap
  pub guard_back : (cs : List Cond) (s : Meaning) (done : List tree.Name) → Parts s.part_of → BoundRight names t s.bound_to → BoundAll done s.bound_to → All (KnownIn names) cs → InTurn heads done (map (condition_of names) cs) → GuardHolds heads t (map (condition_of names) cs) → HoldsOnHeap h s cs
  guard_back [] s done f b c k i w = tt
  guard_back (Kind n args q ∷ cs) s done f b c k i w =
      let p = holds_first h names heads t s w in
      let ka = all_of_right (λ i. i < length names) (n ∷ []) (context_names args) (k zero (Kind n args q) (omega arith)) in
      let found = each_use (λ i. i < length names) (λ x. Among (name_of names x) heads → (p : Port) × (s.part_of x ≡ Some p) × StandsFor h names t x p) (λ x kx a. let y = f.found x kx a in (y.0, y.1, f.stands x y.0 y.1)) args ka in
      let u = type_back h names heads t s n args q found i p.0 in
      (u.0, guard_back cs s done f b c (all_of_right (KnownIn names) (Kind n args q ∷ []) cs k) u.1 p.1)
  guard_back (Compare op l r q ∷ cs) s done f b c k i w =
      let p = holds_first h names heads t s w in
      let y = compared h names heads t s p.0 in
      let u = turn_compared h names heads t s i in
      let both = k zero (Compare op l r q) (omega arith) in
      let kl = all_of_left (λ i. i < length names) (expression_names l) (expression_names r) both in
      let kr = all_of_right (λ i. i < length names) (expression_names l) (expression_names r) both in (
        (y.left, y.right, value_there s done f b c l y.left kl (λ p z. u.0 p (inl z)) y.first, value_there s done f b c r y.right kr (λ p z. u.0 p (inr z)) y.second, stand_back op y.left y.right y.stand),
        guard_back cs s done f b c (all_of_right (KnownIn names) (Compare op l r q ∷ []) cs k) u.1 p.1,
      )
  guard_back (Equal l r q ∷ cs) s done f b c k i w =
      let p = holds_first h names heads t s w in
      let both = k zero (Equal l r q) (omega arith) in
      let kl = all_of_left (λ i. i < length names) (l.name ∷ []) (expression_names r) both in
      let kr = all_of_right (λ i. i < length names) (l.name ∷ []) (expression_names r) both in
      let k' = all_of_right (KnownIn names) (Equal l r q ∷ []) cs k in
      equal_back s done l r (map (condition_of names) cs) (λ s'. HoldsOnHeap h s' cs) f b c kl kr (turn_equates i) (holds_equates p.0) (λ i. guard_back cs s done f b c k' i p.1)
      (λ z j i. guard_back cs (bind s l.name z) (name_of names l.name ∷ done) f (more_right names t s l.name z b j) (more_all s done l.name z kl c) k' i p.1)
  guard_back (Differ l r q ∷ cs) s done f b c k i w =
      let p = holds_first h names heads t s w in
      let u = turn_differs i in
      let both = k zero (Differ l r q) (omega arith) in
      let kl = all_of_left (λ i. i < length names) (l.name ∷ []) (r.name ∷ []) both in
      let kr = all_of_right (λ i. i < length names) (l.name ∷ []) (r.name ∷ []) both in
      (differ_back s f l.name r.name kl kr u.0 u.1 (holds_differs p.0), guard_back cs s done f b c (all_of_right (KnownIn names) (Differ l r q ∷ []) cs k) u.2 p.1)
