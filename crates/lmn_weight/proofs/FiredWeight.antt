-- Where a rule that is lowered fires, what it makes weighs less than what it takes.
use Rattle.std.proofs.Common.{ℕ, ℤ, Bool, true, false, List, map, refl, sym, ap, subst, inl, inr, arith, ◌≡◌, ◌≢◌, ◌+◌, ◌≤◌, ◌<◌, ◌⊎◌, [], ◌∷◌, ◌++◌, ◌∙◌, if◌then◌else◌}
use Rattle.std.proofs.lemmas.Bool.{false≢true}
use Rattle.lmn_congruence.specs.Orders.{Among, EachOnce, Put, Shuffle, at_head, further, here, more, none, there, OneByOne, no_pairs, pair_and}
use Rattle.lmn_congruence.specs.Process.{Process, rule, together}
use Rattle.lmn_congruence.specs.Rules.{Condition, Context, Expression, Leaf, Level, Levels, Name, Rule, atom_leaf, body_of, closed_context, connector_leaf, guard_of, head_of, open_context, rules_list, typed_leaf}
use Rattle.lmn_guards.specs.Values.{of_context, of_operation}
use Rattle.lmn_reduction.specs.Assignments.{Assignment}
use Rattle.lmn_reduction.specs.Firing.{Fires, typed_contexts, typed_contexts_in, typed_leaves}
use Rattle.lmn_reduction.specs.Guards.{GuardHolds, Holds, alike, binds, condition_and, in_order, of_kind}
use Rattle.lmn_reduction.specs.Instances.{ContextInstance, Instance, LeafInstance, MembraneInstances, instance, membrane_and, no_membrane, of_atom, of_closed, of_connector, of_open, of_typed, rules_of_contexts}
use Rattle.lmn_reduction.specs.Parts.{IsInteger, Rooted, an_integer}
use Rattle.lmn_reduction.specs.Values.{Value}
use Rattle.lmn_adequacy.specs.Accepted.{Accepted, InTurn, UsedIn, all_asked, all_contexts, binding_in_turn, closed_names, comparison_in_turn, contexts_in, difference_in_turn, equality_in_turn, here_used, kind_in_turn, left_sides, left_used, open_names, right_used}
use Rattle.lmn_weight.proofs.KeptWeight.{renamed_weight}
use Rattle.lmn_weight.specs.Laws.{LoweredRulesLower}
use Rattle.lmn_weight.specs.Lowered.{Lowered, MakesInt, StandsForInt, has_type, in_value, is_bound, on_left, on_right, other_contexts}
use Rattle.lmn_weight.specs.Weights.{Weighing, atom_weight, leaf_weight, leaves_weight, level_weight, membranes_weight, weight}
use Rattle.std.proofs.lemmas.List.{length-map}

-- ---- what the guard makes of contexts

-- a context that an expression uses stands for an integer where the expression has a value
used_integer : (t : Assignment) {p : Name} {e : Expression} {n : ℤ} → UsedIn p e → Value t e n → (m : ℤ) × IsInteger m (t.typed_of p)
used_integer t here_used (of_context {n = n} i) = (n, i)
used_integer t (left_used u) (of_operation a b d r) = used_integer t u a
used_integer t (right_used u) (of_operation a b d r) = used_integer t u b

-- where a condition holds, each context that it makes an integer is one
made_integer : (heads : List Name) (t : Assignment) {p : Name} {c : Condition} → MakesInt heads p c → Holds heads t c → (m : ℤ) × IsInteger m (t.typed_of p)
made_integer heads t has_type (of_kind k) = k
made_integer heads t (on_left u) (in_order a b o) = used_integer t u a
made_integer heads t (on_right u) (in_order a b o) = used_integer t u b
made_integer heads t (in_value n u) (binds n' a i) = used_integer t u a
made_integer heads t (in_value n u) (alike a b g h e) = absurd (n a)
made_integer heads t (is_bound n) (binds {n = z} n' a i) = (z, i)
made_integer heads t (is_bound n) (alike a b g h e) = absurd (n a)

-- so where the guard holds
pub guard_integer : (heads : List Name) (t : Assignment) {p : Name} {c : Condition} {cs : List Condition} → Among c cs → MakesInt heads p c → GuardHolds heads t cs → (m : ℤ) × IsInteger m (t.typed_of p)
guard_integer heads t at_head m (condition_and h g) = made_integer heads t m h
guard_integer heads t (further k) m (condition_and h g) = guard_integer heads t k m g

-- what one of the conditions makes an integer one of more conditions makes one
later : {heads : List Name} {q : Name} {d : Condition} {cs : List Condition} → Among q heads ⊎ ((c : Condition) × Among c cs × MakesInt heads q c) → Among q heads ⊎ ((c : Condition) × Among c (d ∷ cs) × MakesInt heads q c)
later (inl a) = inl a
later (inr m) = inr (m.0, further m.1, m.2)

-- a name on the left of `=` stands in the head, or the guard binds it to an integer
pub left_side : (heads : List Name) {bound : List Name} {cs : List Condition} {q : Name} → InTurn heads bound cs → Among q (left_sides cs) → Among q heads ⊎ ((c : Condition) × Among c cs × MakesInt heads q c)
left_side heads all_asked k = elim k [ ]
left_side heads (kind_in_turn a i) k = later (left_side heads i k)
left_side heads (comparison_in_turn a i) k = later (left_side heads i k)
left_side heads (difference_in_turn a b i) k = later (left_side heads i k)
left_side heads (equality_in_turn a b i) at_head = inl a
left_side heads (equality_in_turn a b i) (further k) = later (left_side heads i k)
left_side heads (binding_in_turn {p = p} {e = e} n n' used i) at_head = inr (_, at_head, is_bound n)
left_side heads (binding_in_turn n n' used i) (further k) = later (left_side heads i k)

-- ---- sums over contexts

-- the sum of what each element of a list weighs
abbrev pub sum_of : {A : Type 0} → (A → ℕ) → List A → ℕ
sum_of f [] = 0
sum_of f (p ∷ ps) = f p + sum_of f ps

sum_append : {A : Type 0} (f : A → ℕ) (ps qs : List A) → sum_of f (ps ++ qs) ≡ sum_of f ps + sum_of f qs
sum_append f [] qs = omega arith
sum_append f (p ∷ ps) qs = omega (arith, sum_append f ps qs)

sum_put : {A : Type 0} (f : A → ℕ) {p : A} {ps qs : List A} → Put p ps qs → sum_of f qs ≡ f p + sum_of f ps
sum_put f here = refl
sum_put f (there k) = omega (arith, sum_put f k)

-- lists of the same elements in another order have one sum
sum_shuffle : {A : Type 0} (f : A → ℕ) {ps qs : List A} → Shuffle (λ p q. p ≡ q) ps qs → sum_of f ps ≡ sum_of f qs
sum_shuffle f none = refl
sum_shuffle f (more e s k) = omega (arith, ap f e, sum_shuffle f s, sum_put f k)

-- what is among a list was put into the rest of it
taken_out : {A : Type 0} {p : A} {qs : List A} → Among p qs → (rest : List A) × Put p rest qs
taken_out (at_head {ys = ys}) = (ys, here)
taken_out (further {y = y} k) = let u = taken_out k in (y ∷ u.0, there u.1)

-- another element is in the rest
in_rest : {A : Type 0} {p q : A} {rest qs : List A} → Put p rest qs → q ≢ p → Among q qs → Among q rest
in_rest here d at_head = absurd (d refl)
in_rest here d (further k) = k
in_rest (there u) d at_head = at_head
in_rest (there u) d (further k) = further (in_rest u d k)

-- elements that differ and are all among a list have a sum that is no greater
sum_among : {A : Type 0} (f : A → ℕ) (ps qs : List A) → EachOnce ps → ((p : A) → Among p ps → Among p qs) → sum_of f ps ≤ sum_of f qs
sum_among f [] qs o h = omega arith
sum_among f (p ∷ ps) qs o h =
    let u = taken_out (h p at_head) in
    let i = sum_among f ps u.0 o.1 (λ q k. in_rest u.1 (λ e. o.0 (subst (λ z. Among z ps) e k)) (h q (further k))) in
    omega (arith, i, sum_put f u.1)

-- the sum over untyped contexts is that over the open ones and that over the closed ones
sum_by_form : (f : Context → ℕ) (ps : List Context) → sum_of f ps ≡ sum_of (λ p. f (open_context p)) (open_names ps) + sum_of (λ p. f (closed_context p)) (closed_names ps)
sum_by_form f [] = refl
sum_by_form f (open_context p ∷ ps) = omega (arith, sum_by_form f ps)
sum_by_form f (closed_context p ∷ ps) = omega (arith, sum_by_form f ps)

-- ---- instances

module _ (w : Weighing) (t : Assignment) (is_int : Name → Bool) (integers : (p : Name) → is_int p ≡ true → (m : ℤ) × IsInteger m (t.typed_of p)) where
  -- what a typed context stands for weighs, where it isn't an integer
  abbrev pub typed_weight : Name → ℕ
  typed_weight p = if is_int p then 0 else weight w (t.typed_of p).process

  -- what an untyped context stands for weighs
  abbrev pub context_weight : Context → ℕ
  context_weight p = weight w (t.context_of p)

  integer_weight : {m : ℤ} {g : Rooted} → IsInteger m g → weight w g.process ≡ w.of_integer
  integer_weight an_integer = refl

  by_kind : (p : Name) → weight w (t.typed_of p).process ≡ (if is_int p then w.of_integer else 0) + typed_weight p
  by_kind p = go (is_int p) refl
    where
      go : (b : Bool) → is_int p ≡ b → weight w (t.typed_of p).process ≡ (if b then w.of_integer else 0) + (if b then 0 else weight w (t.typed_of p).process)
      go true e = omega (arith, integer_weight (integers p e).1)
      go false e = omega arith

  leaf_weighs : {l : Leaf} {P : Process} → LeafInstance t l P → weight w P ≡ leaf_weight w is_int l + sum_of typed_weight (typed_leaves (l ∷ []))
  leaf_weighs (of_atom {a = a} {xs = xs}) = omega (arith, ap (atom_weight w a) (length-map xs t.link_of))
  leaf_weighs of_connector = omega arith
  leaf_weighs (of_typed {p = p} c root) = omega (arith, ap (weight w) c.is, renamed_weight w c.to (t.typed_of p).process, by_kind p)

  one_leaf : (l : Leaf) (ls : List Leaf) → sum_of typed_weight (typed_leaves (l ∷ ls)) ≡ sum_of typed_weight (typed_leaves (l ∷ [])) + sum_of typed_weight (typed_leaves ls)
  one_leaf (atom_leaf a xs) ls = omega arith
  one_leaf (connector_leaf x y) ls = omega arith
  one_leaf (typed_leaf p x) ls = omega arith

  leaves_weigh : {ls : List Leaf} {Ps : List Process} → OneByOne (LeafInstance t) ls Ps → weight w (together Ps) ≡ leaves_weight w is_int ls + sum_of typed_weight (typed_leaves ls)
  leaves_weigh no_pairs = refl
  leaves_weigh (pair_and {x = l} {xs = ls} i is) = omega (arith, leaf_weighs i, leaves_weigh is, one_leaf l ls)

  -- an open context weighs what it stands for, and so does each copy that stands for a closed one
  context_weighs : {p : Context} {P : Process} → ContextInstance t p P → weight w P ≡ context_weight p
  context_weighs of_open = refl
  context_weighs (of_closed {p = p} c) = ap (weight w) c.is ∙ renamed_weight w c.to (t.context_of (closed_context p))

  contexts_weigh : {ps : List Context} {Ps : List Process} → OneByOne (ContextInstance t) ps Ps → weight w (together Ps) ≡ sum_of context_weight ps
  contexts_weigh no_pairs = refl
  contexts_weigh (pair_and i is) = omega (arith, context_weighs i, contexts_weigh is)

  rules_weigh : (rs : List Rule) → weight w (together (map rule rs)) ≡ 0
  rules_weigh [] = refl
  rules_weigh (r ∷ rs) = omega (arith, rules_weigh rs)

  rule_contexts_weigh : (rs : List Name) → weight w (together (rules_of_contexts t rs)) ≡ 0
  rule_contexts_weigh [] = refl
  rule_contexts_weigh (r ∷ rs) = omega (arith, rules_weigh (t.rules_of r), rule_contexts_weigh rs)

  mutual
    -- an instance weighs what its level does, and what its other contexts stand for
    pub level_weighs : {l : Level} {P : Process} → Instance t l P → weight w P ≡ level_weight w is_int l + (sum_of typed_weight (typed_contexts l) + sum_of context_weight (all_contexts l))
    level_weighs (instance {leaves = leaves} {membranes = membranes} {contexts = contexts} {rule_contexts = rule_contexts} {rules = rules} i j k) =
        omega (arith, leaves_weigh i, membranes_weigh j, contexts_weigh k, rule_contexts_weigh rule_contexts, rules_weigh (rules_list rules), sum_append typed_weight (typed_leaves leaves) (typed_contexts_in membranes), sum_append context_weight contexts (contexts_in membranes))

    membranes_weigh : {ls : Levels} {Ps : List Process} → MembraneInstances t ls Ps → weight w (together Ps) ≡ membranes_weight w is_int ls + (sum_of typed_weight (typed_contexts_in ls) + sum_of context_weight (contexts_in ls))
    membranes_weigh no_membrane = refl
    membranes_weigh (membrane_and {l = l} {ls = ls} i is) =
        omega (arith, level_weighs i, membranes_weigh is, sum_append typed_weight (typed_contexts l) (typed_contexts_in ls), sum_append context_weight (all_contexts l) (contexts_in ls))

  -- contexts that stand for integers add nothing
  others_alone : (ps : List Name) → sum_of typed_weight ps ≡ sum_of typed_weight (other_contexts is_int ps)
  others_alone [] = refl
  others_alone (p ∷ ps) = go (is_int p) refl (others_alone ps)
    where
      go : (b : Bool) → is_int p ≡ b → sum_of typed_weight ps ≡ sum_of typed_weight (other_contexts is_int ps) → typed_weight p + sum_of typed_weight ps ≡ sum_of typed_weight (if b then other_contexts is_int ps else p ∷ other_contexts is_int ps)
      go true e i = rw e (omega (arith, i))
      go false e i = rw e (omega (arith, i))

-- a context that doesn't stand for an integer is one of all, and none of the integers
other_among : (is_int : Name → Bool) {p : Name} (ps : List Name) → Among p (other_contexts is_int ps) → Among p ps × (is_int p ≡ false)
other_among is_int [] k = elim k [ ]
other_among is_int {p} (q ∷ qs) k = go p q (is_int q) refl k (λ i. other_among is_int qs i)
  where
    go : (p q : Name) (b : Bool) → is_int q ≡ b → Among p (if b then other_contexts is_int qs else q ∷ other_contexts is_int qs) → (Among p (other_contexts is_int qs) → Among p qs × (is_int p ≡ false)) → Among p (q ∷ qs) × (is_int p ≡ false)
    go p q true e k i = let u = i k in (further u.0, u.1)
    go p q false e at_head i = (at_head, e)
    go p q false e (further k) i = let u = i k in (further u.0, u.1)

-- where a lowered rule fires, what it makes weighs less
pub fired_weight : (w : Weighing) {r : Rule} {A B : Process} → Accepted r → Lowered w r → Fires r A B → weight w B < weight w A
fired_weight w {r} {A} {B} a l f =
    let t = f.matches.assignment in
    let heads = typed_contexts (head_of r) in
    let integers : (p : Name) → l.is_int p ≡ true → (m : ℤ) × IsInteger m (t.typed_of p) = λ p e. let s = (l.exactly p).0 e in guard_integer heads t s.1 s.2 f.matches.guard in
    let known : (p : Name) → Among p (other_contexts l.is_int (typed_contexts (body_of r))) → Among p heads = λ p k. let u = other_among l.is_int (typed_contexts (body_of r)) k in in_head p u.1 (a.known p u.0) in
    let typed = typed_weight w t l.is_int integers in
    let untyped = context_weight w t l.is_int integers in
    let before = all_contexts (head_of r) in
    let after = all_contexts (body_of r) in
    omega (
      arith,
      l.lighter,
      level_weighs w t l.is_int integers f.matches.head,
      level_weighs w t l.is_int integers f.body,
      sum_among typed (other_contexts l.is_int (typed_contexts (body_of r))) heads l.once known,
      others_alone w t l.is_int integers (typed_contexts (body_of r)),
      sum_by_form untyped before,
      sum_by_form untyped after,
      sum_shuffle (λ p. untyped (open_context p)) a.kept,
      sum_among (λ p. untyped (closed_context p)) (closed_names after) (closed_names before) l.once_closed a.known_closed,
    )
  where
    in_head : (p : Name) → l.is_int p ≡ false → Among p (typed_contexts (head_of r)) ⊎ Among p (left_sides (guard_of r)) → Among p (typed_contexts (head_of r))
    in_head p e (inl k) = k
    in_head p e (inr k) = bound (left_side (typed_contexts (head_of r)) a.in_turn k)
      where
        bound : Among p (typed_contexts (head_of r)) ⊎ StandsForInt r p → Among p (typed_contexts (head_of r))
        bound (inl k) = k
        bound (inr s) = absurd (false≢true (sym e ∙ (l.exactly p).1 s))

-- so it is for each weighing
pub lowered_rules_lower : LoweredRulesLower
lowered_rules_lower w r A B a l f = fired_weight w a l f
