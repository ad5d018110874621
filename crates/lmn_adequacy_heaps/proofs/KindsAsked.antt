-- What satisfies a guard is of the kinds that the guard gives its contexts.
use Rattle.std.proofs.Common.{ℕ, zero, suc, ◌≡◌, ◌<◌, ◌⊎◌, ◌==◌, not, Bool, true, false, List, [], ◌∷◌, ◌++◌, map, length, Some, None, All, refl, sym, ap, subst, ◌∙◌, inl, inr, arith}
use Rattle.std.specs.Prelude.{ℤ, slice_get, if◌then◌else◌}
use Rattle.std.specs.List.{flat_map, list_any}
use Rattle.std.proofs.lemmas.Bool.{eq-eqb, eqb-true}
use Rattle.lmn_base.specs.declared.guard.Arith.{Arith}
use Rattle.lmn_base.specs.declared.guard.Cmp.{Cmp}
use Rattle.lmn_base.specs.declared.guard.Cond.{Cond}
use Rattle.lmn_base.specs.declared.guard.Cond.TheVariants.{Kind, Compare, Equal, Differ}
use Rattle.lmn_base.specs.declared.guard.Expr.{Expr}
use Rattle.lmn_base.specs.declared.guard.Expr.TheVariants as variant
use Rattle.lmn_base.specs.declared.item.Form.TheVariants as form
use Rattle.lmn_base.specs.declared.item.Item.{Item}
use Rattle.lmn_base.specs.declared.item.Item.TheVariants as item
use Rattle.lmn_base.specs.declared.level.CtxUse.{CtxUse}
use Rattle.lmn_base.specs.declared.level.Leaf.{Leaf}
use Rattle.lmn_base.specs.declared.level.Leaf.TheVariants as leaf
use Rattle.lmn_base.specs.declared.level.Level.{Level}
use Rattle.lmn_base.specs.declared.refusal.Pos.{Pos}
use Rattle.lmn_base.specs.declared.rule.RuleTree.{RuleTree}
use Rattle.lmn_base.specs.Items as base
use Rattle.lmn_base.specs.Items.{used, leaf_item, expression_items}
use Rattle.lmn_base.specs.Levels.{leaves_of}
use Rattle.std.proofs.lemmas.Option.{same_Some}
use Rattle.lmn_base.specs.Names.{IsNames, HasNames, condition_names, expression_names}
use Rattle.lmn_base.specs.Uses.{is_some_place, use_of, has_use}
use Rattle.lmn_guards.specs.declared.plan.TypeKind.{TypeKind}
use Rattle.lmn_guards.specs.declared.plan.TypeKind.TheVariants.{Int, Unary, Ground}
use Rattle.lmn_guards.specs.GuardCodes.{in_head, asks, type_name}
use Rattle.lmn_guards.specs.Values.{of_context, of_operation}
use Rattle.lmn_solid_heads.specs.Flattening.{items_of_head}
use Rattle.lmn_solid_heads.specs.Heads.{HeadTyped, typed_contexts_of}
use Rattle.lmn_solid_heads.proofs.HeadTrees.{Head, Heads, head, no_head, head_and, head_at, head_leaves, heads_leaves, same_leaves, head_uses, heads_uses, same_uses, items_flat}
use Rattle.lmn_congruence.specs.Orders.{Among}
use Rattle.lmn_congruence.specs.Rules as tree
use Rattle.lmn_congruence.specs.Translation.{name_of, rule_tree, condition_of, kind_of, expression_of}
use Rattle.lmn_reduction.specs.Assignments.{Assignment}
use Rattle.lmn_reduction.specs.Firing.{typed_contexts}
use Rattle.lmn_reduction.specs.Guards.{GuardHolds, Holds, of_kind, in_order, binds, alike, unlike, condition_and}
use Rattle.lmn_reduction.specs.Parts.{IsInteger, IsGround}
use Rattle.lmn_reduction.specs.Values.{Value}
use Rattle.lmn_adequacy_heaps.specs.HeapRegions.{HeapReading}
use Rattle.lmn_adequacy_heaps.specs.Premises.{IsRule, IsOfTypeKind, HasKinds, HasTypes}
use Rattle.lmn_reduction.proofs.Values.{context_tree, operation_tree}
use Rattle.lmn_adequacy_heaps.proofs.HeadFacts.{typed_holds}
use Rattle.lmn_adequacy_heaps.proofs.KindConditions.{heads_are, typed_known, guard_known, same_number}
use Rattle.lmn_adequacy_heaps.proofs.TypeConditions.{among_named, among_of}
use Rattle.lmn_base.proofs.Common.{operation_items, in_left as used_left, in_right as used_right}
use Rattle.lmn_base.proofs.Truth.{and_true as and_both, either_true as or_either}
use Rattle.lmn_guards.proofs.WorkedGuards.{of_context as context_items, of_integer as number_items}
use Rattle.lmn_adequacy.proofs.Accepting.{integer_ground}
use Rattle.std.proofs.lemmas.List.Elements.{All-append}
use Rattle.lmn_base.proofs.Lists.{all_of_left, all_of_right}

-- ---- tests

never_both : (a : Bool) → a ≡ true → not a ≡ true → ⊥
never_both true e f = cc
never_both false e f = cc

-- ---- uses of a name

used_either : (n : ℕ) (xs ys : List Item) → has_use n (xs ++ ys) ≡ true → (has_use n xs ≡ true) ⊎ (has_use n ys ≡ true)
used_either n [] ys e = inr e
used_either n (x ∷ xs) ys e = by (use_of n x) e (used_either n xs ys)
  where
    by : (ps : List Pos) → is_some_place (ps ++ flat_map (use_of n) (xs ++ ys)) ≡ true → (has_use n (xs ++ ys) ≡ true → (has_use n xs ≡ true) ⊎ (has_use n ys ≡ true)) → (is_some_place (ps ++ flat_map (use_of n) xs) ≡ true) ⊎ (has_use n ys ≡ true)
    by [] e later = later e
    by (p ∷ ps) e later = inl refl

used_one : (n : ℕ) (u : CtxUse) → has_use n (used form.Typed u ∷ []) ≡ true → u.name ≡ n
used_one n u e = by (u.name == n) refl e
  where
    by : (b : Bool) → (u.name == n) ≡ b → is_some_place ((if b then u.pos ∷ [] else []) ++ []) ≡ true → u.name ≡ n
    by true q e = eqb-true u.name n q
    by false q e = absurd (cc)

-- ---- a typed context of a head is used in it

abbrev Used : List Item → Leaf → Type 0
Used items (leaf.Atom f os p) = Unit {0}
Used items (leaf.Typed n o p) = has_use n items ≡ true

wider : (items more : List Item) (l : Leaf) → ((n : ℕ) → has_use n items ≡ true → has_use n more ≡ true) → Used items l → Used more l
wider items more (leaf.Atom f os p) h u = tt
wider items more (leaf.Typed n o p) h u = h n u

own_used : (ls : List Leaf) → All (Used (map leaf_item ls)) ls
own_used [] k d l = absurd (omega (arith, l))
own_used (leaf.Atom f os p ∷ ls) zero d l = tt
own_used (leaf.Typed n o p ∷ ls) zero d l = rw (eq-eqb n n refl) refl
own_used (x ∷ ls) (suc k) d l = wider (map leaf_item ls) (leaf_item x ∷ map leaf_item ls) _ (λ n e. used_right n (leaf_item x ∷ []) (map leaf_item ls) e) (own_used ls k d (omega (arith, l)))

mutual
  head_used : (hd : Head) → All (Used (head_uses hd)) (head_leaves hd)
  head_used (head leaves hs cs rcs rs) k d l =
      let own = map leaf_item leaves in
      let rest = map base.untyped cs ++ (map item.RuleContext rcs ++ map item.Rule rs) in
      All-append (Used (head_uses (head leaves hs cs rcs rs))) leaves (heads_leaves hs)
      (λ k d l. wider own (head_uses (head leaves hs cs rcs rs)) _ (λ n e. used_left n (own ++ rest) (heads_uses hs) (used_left n own rest e)) (own_used leaves k d l))
      (λ k d l. wider (heads_uses hs) (head_uses (head leaves hs cs rcs rs)) _ (λ n e. used_right n (own ++ rest) (heads_uses hs) e) (heads_used hs k d l)) k d l

  heads_used : (hs : Heads) → All (Used (heads_uses hs)) (heads_leaves hs)
  heads_used no_head k d l = absurd (omega (arith, l))
  heads_used (head_and hd hs) k d l =
      All-append (Used (heads_uses (head_and hd hs))) (head_leaves hd) (heads_leaves hs)
      (λ k d l. wider (head_uses hd) (heads_uses (head_and hd hs)) _ (λ n e. used_left n (head_uses hd) (heads_uses hs) e) (head_used hd k d l))
      (λ k d l. wider (heads_uses hs) (heads_uses (head_and hd hs)) _ (λ n e. used_right n (head_uses hd) (heads_uses hs) e) (heads_used hs k d l)) k d l

level_used : (l : Level) → All (Used (base.items_of l)) (leaves_of l)
level_used l = subst (λ is. All (Used is) (leaves_of l)) (sym (same_uses l)) (subst (All (Used (head_uses (head_at l)))) (sym (same_leaves l)) (head_used (head_at l)))

typed_in_head : (kind : ℕ → TypeKind) (l : Level) (i : ℕ) (u : HeadTyped) → slice_get (typed_contexts_of (items_of_head kind l)) i ≡ Some u → in_head l u.name ≡ true
typed_in_head kind l i u k = (typed_holds (Used (base.items_of l)) kind l (level_used l) i u (subst (λ xs. slice_get (typed_contexts_of xs) i ≡ Some u) (items_flat kind l) k)).holds

-- ---- conditions

module _ (names : List tree.Name) (heads : List tree.Name) (t : Assignment) (top : Level) (x : ℕ) (here : Among (name_of names x) heads)
    (in_top : (y : ℕ) → HasNames names (y ∷ []) → Among (name_of names y) heads → in_head top y ≡ true) where
  value_context : {p : tree.Name} {n : ℤ} → Value t (tree.value_of p) n → IsInteger n (t.typed_of p)
  value_context (of_context i) = i

  value_operation : {o : Arith} {e f : tree.Expression} {n : ℤ} → Value t (tree.operation o e f) n → (a : ℤ) × (b : ℤ) × Value t e a × Value t f b
  value_operation (of_operation v w d r) = (_, _, v, w)

  -- a context of an expression that has a value is an integer
  used_value : (e : Expr) (n : ℤ) → Value t (expression_of names e) n → has_use x (expression_items e) ≡ true → (z : ℤ) × IsInteger z (t.typed_of (name_of names x))
  used_value (variant.Int z) n v u = absurd (let w = subst (λ is. has_use x is ≡ true) (number_items z) u in cc)
  used_value (variant.Ctx c) n v u =
      let same = used_one x c (subst (λ is. has_use x is ≡ true) (context_items c) u) in
      (n, subst (λ y. IsInteger n (t.typed_of (name_of names y))) same (value_context (subst (λ E. Value t E n) (context_tree names c) v)))
  used_value (variant.Op' o p l q r) n v u =
      let w = value_operation (subst (λ E. Value t E n) (operation_tree names o p l q r) v) in
      elim (used_either x (expression_items l) (expression_items r) (subst (λ is. has_use x is ≡ true) (operation_items o p l q r) u)) [
        | inl a ↦ used_value l w.0 w.2 a
        | inr a ↦ used_value r w.1 w.3 a
      ]

  holds_kind : (k : TypeKind) (u : CtxUse) → Holds heads t (kind_of names (type_name k) (u ∷ [])) → IsOfTypeKind k (t.typed_of (name_of names u.name))
  holds_kind Int u (of_kind k) = k
  holds_kind Unary u (of_kind k) = k
  holds_kind Ground u (of_kind k) = k

  not_unknown : {n : tree.Name} {ps : List tree.Name} → Holds heads t (tree.unknown n ps) → ⊥
  not_unknown h = elim h [ ]

  kind_asked : (k : TypeKind) (n : ℕ) (us : List CtxUse) → Holds heads t (kind_of names n us) → n ≡ type_name k → has_use x (map (used form.Typed) us) ≡ true → IsOfTypeKind k (t.typed_of (name_of names x))
  kind_asked k n [] h e u = absurd (cc)
  kind_asked k n (c ∷ (d ∷ us)) h e u = absurd (not_unknown h)
  kind_asked k n (c ∷ []) h e u = subst (λ y. IsOfTypeKind k (t.typed_of (name_of names y))) (used_one x c u) (holds_kind k c (subst (λ m. Holds heads t (kind_of names m (c ∷ []))) e h))

  -- `$x = E` binds a context that isn't in the head, or compares two of the head
  data EquatesHolds (p : tree.Name) (E : tree.Expression) : Type 0 where
    holds_bound : ¬ (Among p heads) → (n : ℤ) → Value t E n → EquatesHolds p E
    holds_same : (q : tree.Name) → E ≡ tree.value_of q → Among p heads → IsGround (t.typed_of p) → IsGround (t.typed_of q) → EquatesHolds p E

  holds_equates : {p : tree.Name} {E : tree.Expression} → Holds heads t (tree.equates p E) → EquatesHolds p E
  holds_equates (binds {n = n} a v b) = holds_bound a n v
  holds_equates (alike {q = q} a b c d s) = holds_same q refl a c d

  holds_differs : {p q : tree.Name} → Holds heads t (tree.differs p q) → IsGround (t.typed_of p) × IsGround (t.typed_of q)
  holds_differs (unlike a b c d n) = (c, d)

  holds_compares : {c : Cmp} {e f : tree.Expression} → Holds heads t (tree.compares c e f) → (a : ℤ) × (b : ℤ) × Value t e a × Value t f b
  holds_compares (in_order v w o) = (_, _, v, w)

  holds_both : {c : tree.Condition} {cs : List tree.Condition} → GuardHolds heads t (c ∷ cs) → Holds heads t c × GuardHolds heads t cs
  holds_both (condition_and a b) = (a, b)

  -- an expression that is one context uses it alone
  alone_used : (e : Expr) (q : tree.Name) → expression_of names e ≡ tree.value_of q → has_use x (expression_items e) ≡ true → q ≡ name_of names x
  alone_used (variant.Int z) q w u = absurd (let v = subst (λ is. has_use x is ≡ true) (number_items z) u in cc)
  alone_used (variant.Ctx c) q w u =
      let same = used_one x c (subst (λ is. has_use x is ≡ true) (context_items c) u) in
      let y = sym (context_tree names c) ∙ w in
      let z : name_of names c.name ≡ q = cc in
      sym z ∙ ap (name_of names) same
  alone_used (variant.Op' o p l i r) q w u = absurd (let y = sym (operation_tree names o p l i r) ∙ w in cc)

  -- what a condition that holds asks of a context of the head
  asked_one : (k : TypeKind) (c : Cond) → Holds heads t (condition_of names c) → All (λ i. i < length names) (condition_names c) → asks top k x c ≡ true → IsOfTypeKind k (t.typed_of (name_of names x))
  asked_one k (Kind n us q) h known e = let w = and_both (n == type_name k) (has_use x (map (used form.Typed) us)) e in kind_asked k n us h (eqb-true n (type_name k) w.0) w.1
  asked_one Int (Compare op l r q) h known e =
      let w = holds_compares h in
      elim (used_either x (expression_items l) (expression_items r) e) [
        | inl a ↦ used_value l w.0 w.2 a
        | inr a ↦ used_value r w.1 w.3 a
      ]
  asked_one Unary (Compare op l r q) h known e = absurd (cc)
  asked_one Ground (Compare op l r q) h known e = absurd (cc)
  asked_one Int (Equal l r q) h known e = by (and_both (not (in_head top l.name)) (has_use x (expression_items r)) e) (holds_equates h)
    where
      by : (not (in_head top l.name) ≡ true) × (has_use x (expression_items r) ≡ true) → EquatesHolds (name_of names l.name) (expression_of names r) → (z : ℤ) × IsInteger z (t.typed_of (name_of names x))
      by w (holds_bound a n v) = used_value r n v w.1
      by w (holds_same p s a g k) = absurd (never_both (in_head top l.name) (in_top l.name (all_of_left (λ i. i < length names) (l.name ∷ []) (expression_names r) known) a) w.0)
  asked_one Unary (Equal l r q) h known e = absurd (cc)
  asked_one Ground (Equal l r q) h known e = by (used_either x (used form.Typed l ∷ []) (expression_items r) (and_both (in_head top l.name) (has_use x (used form.Typed l ∷ expression_items r)) e).1) (holds_equates h)
    where
      by : (has_use x (used form.Typed l ∷ []) ≡ true) ⊎ (has_use x (expression_items r) ≡ true) → EquatesHolds (name_of names l.name) (expression_of names r) → IsGround (t.typed_of (name_of names x))
      by (inl u) (holds_bound a n v) = absurd (a (subst (λ y. Among (name_of names y) heads) (sym (used_one x l u)) here))
      by (inr u) (holds_bound a n v) = integer_ground _ _ (used_value r n v u).1
      by (inl u) (holds_same p s a g k) = subst (λ y. IsGround (t.typed_of (name_of names y))) (used_one x l u) g
      by (inr u) (holds_same p s a g k) = subst (λ y. IsGround (t.typed_of y)) (alone_used r p s u) k
  asked_one Int (Differ l r q) h known e = absurd (cc)
  asked_one Unary (Differ l r q) h known e = absurd (cc)
  asked_one Ground (Differ l r q) h known e =
      let w = holds_differs h in
      elim (used_either x (used form.Typed l ∷ []) (used form.Typed r ∷ []) e) [
        | inl u ↦ subst (λ y. IsGround (t.typed_of (name_of names y))) (used_one x l u) w.0
        | inr u ↦ subst (λ y. IsGround (t.typed_of (name_of names y))) (used_one x r u) w.1
      ]

  asked_some : (k : TypeKind) (cs : List Cond) → GuardHolds heads t (map (condition_of names) cs) → All (λ c. All (λ i. i < length names) (condition_names c)) cs → list_any (asks top k x) cs ≡ true → IsOfTypeKind k (t.typed_of (name_of names x))
  asked_some k [] h known e = absurd (cc)
  asked_some k (c ∷ cs) h known e =
      let w = holds_both h in
      elim (or_either (asks top k x c) (list_any (asks top k x) cs) e) [
        | inl a ↦ asked_one k c w.0 (known zero c (omega arith)) a
        | inr a ↦ asked_some k cs w.1 (all_of_right (λ c. All (λ i. i < length names) (condition_names c)) (c ∷ []) cs known) a
      ]

-- the type of a context is one that is asked
type_asked : (f : TypeKind → Bool) (k : TypeKind) → (if f Int then Some Int else (if f Unary then Some Unary else (if f Ground then Some Ground else None))) ≡ Some k → f k ≡ true
type_asked f k e = by (f Int) (f Unary) (f Ground) refl refl refl e
  where
    by : (a b c : Bool) → f Int ≡ a → f Unary ≡ b → f Ground ≡ c → (if a then Some Int else (if b then Some Unary else (if c then Some Ground else None))) ≡ Some k → f k ≡ true
    by true b c p q r e = subst (λ z. f z ≡ true) (same_Some Int k e) p
    by false true c p q r e = subst (λ z. f z ≡ true) (same_Some Unary k e) q
    by false false true p q r e = subst (λ z. f z ≡ true) (same_Some Ground k e) r
    by false false false p q r e = absurd (cc)

-- where the guard holds, each typed context is of the kind that the guard gives it
pub kinds_are_asked : (r : HeapReading) (kind : ℕ → TypeKind) (rule : RuleTree) → IsRule r rule → IsNames r.names → HasTypes kind rule → (t : Assignment) →
    GuardHolds (typed_contexts (tree.head_of (rule_tree r.names r.rule rule))) t (tree.guard_of (rule_tree r.names r.rule rule)) → HasKinds r kind rule t.typed_of
kinds_are_asked r kind rule is_rule names types t holds n u k =
    let heads = typed_contexts (tree.head_of (rule_tree r.names r.rule rule)) in
    let ts = typed_contexts_of (items_of_head kind rule.head) in
    let same = heads_are r kind rule is_rule in
    asked_some r.names heads t rule.head u.name (subst (Among (name_of r.names u.name)) same (among_of r.names ts n u k))
    (λ y ky a.
    let w = among_named r.names ts (name_of r.names y) (subst (Among (name_of r.names y)) (sym same) a) in
    subst (λ z. in_head rule.head z ≡ true) (same_number r.names w.1.name y names (typed_known r kind rule is_rule w.0 w.1 w.2) ky w.3) (typed_in_head kind rule.head w.0 w.1 w.2))
    u.kind rule.guard holds (guard_known r kind rule is_rule) (type_asked (λ k. list_any (asks rule.head k u.name) rule.guard) u.kind (types n u k))
