-- The rules of a body, and the registers of the names that a guard binds, item by item.
use Rattle.std.proofs.Common.{ℕ, ◌≡◌, ◌<◌, ◌≤◌, ◌+◌, Bool, true, false, List, [], ◌∷◌, ◌++◌, map, length, Option, Some, None, refl, sym, subst, arith}
use Rattle.std.specs.Prelude.{Contains, All}
use Rattle.std.specs.List.{AllByRecursion}
use Rattle.std.proofs.lemmas.List.Elements.{Contains-append_left, Contains-append_right, All-contains}
use Rattle.lmn_base.specs.declared.functor.Functor.{Functor}
use Rattle.lmn_base.specs.declared.level.CtxUse.{CtxUse}
use Rattle.lmn_base.specs.declared.level.Leaf.{Leaf}
use Rattle.lmn_base.specs.declared.level.Leaf.TheVariants as leaf
use Rattle.lmn_base.specs.declared.level.Level.{Level}
use Rattle.lmn_base.specs.declared.level.Occ.{Occ}
use Rattle.lmn_base.specs.declared.refusal.Pos.{Pos}
use Rattle.lmn_base.specs.Levels.{leaves_of, rules_of}
use Rattle.lmn_base.specs.Solids.{connector}
use Rattle.lmn_store_heap.specs.Functors.{same_functor}
use Rattle.lmn_solid_heads.proofs.HeadTrees.{Head, Heads, head, no_head, head_and, head_at, head_leaves, heads_leaves, same_leaves, size, head_rules, heads_rules, same_rules}
use Rattle.lmn_solid_bodies.specs.declared.items.BodyItem.{BodyItem}
use Rattle.lmn_solid_bodies.specs.declared.items.BodyItem.TheVariants.{Atom, Connector, Copy, Bound, Membrane, Rest, Rule, Rules}
use Rattle.lmn_solid_bodies.specs.Flattening.{BodyNames, atom_item, typed_item, body_leaf_items, context_items, body_rule_items, rule_context_items, body_items}
use Rattle.lmn_compile_body.proofs.BodyTrees.{flat_body, flat_bodies, items_flat}
use Rattle.lmn_machine_commit.specs.Orders.{atoms_in_body, membranes_in_body, copies_in_body, BoundBelow}
use Rattle.lmn_schedule_strategy.proofs.BodyInstructions.{HasRules}
use Rattle.lmn_base.proofs.Lists.{contains_behind as later, contains_first as first}

-- ---- item by item

-- the register of each integer has V, and each rule has P
module _ (V P : ℕ → Type 0) where
  abbrev OfItem : BodyItem → Type 0
  OfItem (Atom functor links inside) = Unit {0}
  OfItem (Connector left right) = Unit {0}
  OfItem (Copy part link inside) = Unit {0}
  OfItem (Bound integer link inside) = V integer
  OfItem (Membrane inside) = Unit {0}
  OfItem (Rest of closed inside) = Unit {0}
  OfItem (Rule k inside) = P k
  OfItem (Rules of inside) = Unit {0}

  both : (xs ys : List BodyItem) → AllByRecursion OfItem xs → AllByRecursion OfItem ys → AllByRecursion OfItem (xs ++ ys)
  both [] ys a b = b
  both (x ∷ xs) ys a b = (a.0, both xs ys a.1 b)

  module _ (bn : BodyNames) where
    -- each typed leaf that is no typed context of the head has such a register
    abbrev Leaves : List Leaf → Type 0
    Leaves ls = (n : ℕ) (o : Occ) (p : Pos) → Contains ls (leaf.Typed n o p) → bn.part n ≡ None → V (bn.integer n)

    of_atom : (t : Bool) (f : Functor) (ys : List ℕ) (inside : ℕ) → OfItem (atom_item t f ys inside)
    of_atom true f [] inside = tt
    of_atom true f (a ∷ []) inside = tt
    of_atom true f (a ∷ (b ∷ [])) inside = tt
    of_atom true f (a ∷ (b ∷ (c ∷ ys))) inside = tt
    of_atom false f ys inside = tt

    of_typed : (o : Option ℕ) (i x inside : ℕ) → (o ≡ None → V i) → OfItem (typed_item o i x inside)
    of_typed (Some g) i x inside v = tt
    of_typed None i x inside v = v refl

    of_leaves : (inside : ℕ) (ls : List Leaf) → Leaves ls → AllByRecursion OfItem (body_leaf_items bn inside ls)
    of_leaves inside [] v = tt
    of_leaves inside (leaf.Atom f os p ∷ ls) v =
        (of_atom (same_functor f connector) f (map (λ o. o.link) os) inside, of_leaves inside ls (λ n o q c. v n o q (later (leaf.Atom f os p) ls (leaf.Typed n o q) c)))
    of_leaves inside (leaf.Typed m u p ∷ ls) v = (
      of_typed (bn.part m) (bn.integer m) u.link inside (v m u p (first (leaf.Typed m u p) ls)),
      of_leaves inside ls (λ n o q c. v n o q (later (leaf.Typed m u p) ls (leaf.Typed n o q) c)),
    )

    of_contexts : (inside : ℕ) (us : List CtxUse) → AllByRecursion OfItem (context_items bn inside us)
    of_contexts inside [] = tt
    of_contexts inside (u ∷ us) = (tt, of_contexts inside us)

    of_rules : (inside : ℕ) (ks : List ℕ) → ((k : ℕ) → Contains ks k → P k) → AllByRecursion OfItem (body_rule_items inside ks)
    of_rules inside [] p = tt
    of_rules inside (k ∷ ks) p = (p k (first k ks), of_rules inside ks (λ j w. p j (later k ks j w)))

    of_rule_contexts : (inside : ℕ) (us : List CtxUse) → AllByRecursion OfItem (rule_context_items bn inside us)
    of_rule_contexts inside [] = tt
    of_rule_contexts inside (u ∷ us) = (tt, of_rule_contexts inside us)

    mutual
      of_body : (inside next : ℕ) (hd : Head) → Leaves (head_leaves hd) → ((k : ℕ) → Contains (head_rules hd) k → P k) → AllByRecursion OfItem (flat_body bn inside next hd)
      of_body inside next (head leaves hs cs rcs rs) v p =
          both (body_leaf_items bn inside leaves) (flat_bodies bn inside next hs ++ (context_items bn inside cs ++ (body_rule_items inside rs ++ rule_context_items bn inside rcs)))
          (of_leaves inside leaves (λ n o q c. v n o q (Contains-append_left leaves (heads_leaves hs) (leaf.Typed n o q) c)))
          (both (flat_bodies bn inside next hs) (context_items bn inside cs ++ (body_rule_items inside rs ++ rule_context_items bn inside rcs))
          (of_bodies inside next hs (λ n o q c. v n o q (Contains-append_right leaves (heads_leaves hs) (leaf.Typed n o q) c)) (λ k w. p k (Contains-append_right rs (heads_rules hs) k w)))
          (both (context_items bn inside cs) (body_rule_items inside rs ++ rule_context_items bn inside rcs) (of_contexts inside cs)
          (both (body_rule_items inside rs) (rule_context_items bn inside rcs) (of_rules inside rs (λ k w. p k (Contains-append_left rs (heads_rules hs) k w))) (of_rule_contexts inside rcs))))

      of_bodies : (inside next : ℕ) (hs : Heads) → Leaves (heads_leaves hs) → ((k : ℕ) → Contains (heads_rules hs) k → P k) → AllByRecursion OfItem (flat_bodies bn inside next hs)
      of_bodies inside next no_head v p = tt
      of_bodies inside next (head_and h hs) v p = (
        tt,
        both (flat_body bn next (next + 1) h) (flat_bodies bn inside (next + 1 + size h) hs)
            (of_body next (next + 1) h (λ n o q c. v n o q (Contains-append_left (head_leaves h) (heads_leaves hs) (leaf.Typed n o q) c)) (λ k w. p k (Contains-append_left (head_rules h) (heads_rules hs) k w)))
            (of_bodies inside (next + 1 + size h) hs (λ n o q c. v n o q (Contains-append_right (head_leaves h) (heads_leaves hs) (leaf.Typed n o q) c)) (λ k w. p k (Contains-append_right (head_rules h) (heads_rules hs) k w))),
      )

    -- what holds of the leaves and rules of a level holds of its items
    of_level : (k : ℕ) (l : Level) → Leaves (leaves_of l) → ((j : ℕ) → Contains (rules_of l) j → P j) → AllByRecursion OfItem (body_items bn k l)
    of_level k l v p =
        subst (AllByRecursion OfItem) (sym (items_flat bn k l))
        (of_body 0 (1 + k) (head_at l) (subst Leaves (same_leaves l) v) (λ j w. p j (subst (λ ks. Contains ks j) (sym (same_rules l)) w)))

-- ---- integers and rules apart

integers_below : (v : ℕ) (xs : List BodyItem) → AllByRecursion (OfItem (λ i. i < v) (λ k. Unit {0})) xs → BoundBelow v xs
integers_below v [] a = tt
integers_below v (Atom functor links inside ∷ xs) a = integers_below v xs a.1
integers_below v (Connector left right ∷ xs) a = integers_below v xs a.1
integers_below v (Copy part link inside ∷ xs) a = integers_below v xs a.1
integers_below v (Bound integer link inside ∷ xs) a = (a.0, integers_below v xs a.1)
integers_below v (Membrane inside ∷ xs) a = integers_below v xs a.1
integers_below v (Rest of closed inside ∷ xs) a = integers_below v xs a.1
integers_below v (Rule rule inside ∷ xs) a = integers_below v xs a.1
integers_below v (Rules of inside ∷ xs) a = integers_below v xs a.1

rules_all : (P : ℕ → Type 0) (xs : List BodyItem) → AllByRecursion (OfItem (λ i. Unit {0}) P) xs → HasRules P xs
rules_all P [] a = tt
rules_all P (Atom functor links inside ∷ xs) a = rules_all P xs a.1
rules_all P (Connector left right ∷ xs) a = rules_all P xs a.1
rules_all P (Copy part link inside ∷ xs) a = rules_all P xs a.1
rules_all P (Bound integer link inside ∷ xs) a = rules_all P xs a.1
rules_all P (Membrane inside ∷ xs) a = rules_all P xs a.1
rules_all P (Rest of closed inside ∷ xs) a = rules_all P xs a.1
rules_all P (Rule rule inside ∷ xs) a = (a.0, rules_all P xs a.1)
rules_all P (Rules of inside ∷ xs) a = rules_all P xs a.1

-- the integers of a body are in the first v registers, where each name that isn't of the head has one of them
pub level_below : (bn : BodyNames) (v k : ℕ) (l : Level) → ((n : ℕ) (o : Occ) (p : Pos) → Contains (leaves_of l) (leaf.Typed n o p) → bn.part n ≡ None → bn.integer n < v) → BoundBelow v (body_items bn k l)
level_below bn v k l f = integers_below v (body_items bn k l) (of_level (λ i. i < v) (λ j. Unit {0}) bn k l f (λ j w. tt))

-- the rules that a body has as items are those of its level
pub level_rules : (bn : BodyNames) (P : ℕ → Type 0) (k : ℕ) (l : Level) → All P (rules_of l) → HasRules P (body_items bn k l)
level_rules bn P k l all = rules_all P (body_items bn k l) (of_level (λ i. Unit {0}) P bn k l (λ n o p c e. tt) (λ j w. All-contains P (rules_of l) j all w))

-- ---- how much a body makes

-- a body makes no more than it has items
pub made_few : (xs : List BodyItem) → atoms_in_body xs + (membranes_in_body xs + copies_in_body xs) ≤ length xs
made_few [] = omega arith
made_few (Atom functor links inside ∷ xs) = let e = made_few xs in omega (arith, e)
made_few (Connector left right ∷ xs) = let e = made_few xs in omega (arith, e)
made_few (Copy part link inside ∷ xs) = let e = made_few xs in omega (arith, e)
made_few (Bound integer link inside ∷ xs) = let e = made_few xs in omega (arith, e)
made_few (Membrane inside ∷ xs) = let e = made_few xs in omega (arith, e)
made_few (Rest of closed inside ∷ xs) = let e = made_few xs in omega (arith, e)
made_few (Rule rule inside ∷ xs) = let e = made_few xs in omega (arith, e)
made_few (Rules of inside ∷ xs) = let e = made_few xs in omega (arith, e)
