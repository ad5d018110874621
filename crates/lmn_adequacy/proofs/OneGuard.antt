-- What a guard binds is one: it hangs on the contexts of the head alone.
use Rattle.std.proofs.Common.{ℕ, ℤ, List, map, refl, sym, ap, subst, inl, inr, arith, ◌≡◌, ◌≢◌, ◌+◌, ◌⊎◌, [], ◌∷◌, ◌∙◌}
use Rattle.lmn_congruence.specs.Links.{one_if_same}
use Rattle.lmn_congruence.specs.Orders.{Among, Shuffle, at_head, further, here, more, none, there}
use Rattle.lmn_congruence.specs.Rules.{Condition, Expression, Label, Name, integer}
use Rattle.lmn_reduction.specs.Assignments.{Assignment}
use Rattle.lmn_reduction.specs.Guards.{GuardHolds, alike, binds, condition_and}
use Rattle.lmn_reduction.specs.Parts.{IsInteger, Rooted, EqualParts, an_integer}
use Rattle.lmn_guards.specs.Values.{of_context, of_number, of_operation}
use Rattle.lmn_reduction.specs.Values.{Value}
use Rattle.lmn_adequacy.specs.Accepted.{InTurn, UsedIn, all_asked, binding_in_turn, comparison_in_turn, difference_in_turn, equality_in_turn, here_used, kind_in_turn, left_sides, left_used, right_used}
use Rattle.lmn_adequacy.proofs.Orders.{either}

integer_one : (m n : ℤ) (g h : Rooted) → IsInteger m g → IsInteger n h → EqualParts g h → m ≡ n
integer_one m n g h (an_integer {x = x}) (an_integer {x = y}) s = go s.atoms
  where
    labels : (m n : ℤ) → integer m ≡ integer n → m ≡ n
    labels m n e = cc e

    go : Shuffle {A = Label × List ℕ} {B = Label × List ℕ} (λ a b. (a.0, map s.to a.1) ≡ b) ((integer m, x ∷ []) ∷ []) ((integer n, y ∷ []) ∷ []) → m ≡ n
    go (more r k here) = labels m n (ap (λ w. w.0) r)
    go (more r k (there p)) = elim p [ ]

integer_graph : (m n : ℤ) (g h : Rooted) → m ≡ n → IsInteger m g → IsInteger n h → EqualParts g h
integer_graph m n g h e (an_integer {x = x}) (an_integer {x = y}) = record {
  to = λ z. y;
  one_to_one = λ u v o o' q. same_link u x o ∙ sym (same_link v x o');
  roots = refl;
  atoms = more (cc e) none here;
}
  where
    same_link : (u x : ℕ) → one_if_same u x + 0 ≢ 0 → u ≡ x
    same_link u x o = grind arith

module _ (t s : Assignment) where
  abbrev Alike : Name → Type 0
  Alike p = EqualParts (t.typed_of p) (s.typed_of p)

  value_one : {e : Expression} {m n : ℤ} → ((p : Name) → UsedIn p e → Alike p) → Value t e m → Value s e n → m ≡ n
  value_one h of_number of_number = refl
  value_one h (of_context {p = p} {n = m} i) (of_context {n = n} j) = integer_one m n (t.typed_of p) (s.typed_of p) i j (h p here_used)
  value_one h (of_operation {o = o} u v d r) (of_operation u' v' d' r') = cc (value_one (λ p k. h p (left_used k)) u u', value_one (λ p k. h p (right_used k)) v v')

  pub guard_one : (heads : List Name) {bound : List Name} {cs : List Condition} → InTurn heads bound cs → GuardHolds heads t cs → GuardHolds heads s cs → ((q : Name) → Among q heads ⊎ Among q bound → Alike q) → (q : Name) → Among q (left_sides cs) → Alike q
  guard_one heads all_asked g g' h q k = elim k [ ]
  guard_one heads (kind_in_turn a i) (condition_and c g) (condition_and c' g') h q k = guard_one heads i g g' h q k
  guard_one heads (comparison_in_turn a i) (condition_and c g) (condition_and c' g') h q k = guard_one heads i g g' h q k
  guard_one heads (difference_in_turn a b i) (condition_and c g) (condition_and c' g') h q k = guard_one heads i g g' h q k
  guard_one heads (equality_in_turn {p = p} a b i) (condition_and c g) (condition_and c' g') h q at_head = h p (inl a)
  guard_one heads (equality_in_turn a b i) (condition_and c g) (condition_and c' g') h q (further k) = guard_one heads i g g' h q k
  guard_one heads (binding_in_turn n n' used i) (condition_and (alike a b x y z) g) (condition_and c' g') h q k = absurd (n a)
  guard_one heads (binding_in_turn n n' used i) (condition_and (binds u v w) g) (condition_and (alike a b x y z) g') h q k = absurd (n a)
  guard_one heads (binding_in_turn {bound = bound} {p = p} n n' used i) (condition_and (binds {n = m} u v w) g) (condition_and (binds {n = m'} u' v' w') g') h q k =
      let e : m ≡ m' = value_one (λ z l. h z (used z l)) v v' in
      let a : Alike p = integer_graph m m' (t.typed_of p) (s.typed_of p) e w w' in
      either (first_or p q k) (λ z. subst Alike z a) (λ z. guard_one heads i g g' (λ z' l. either l (λ b. h z' (inl b)) (λ b. either (first_or p z' b) (λ f. subst Alike f a) (λ b'. h z' (inr b')))) q z)
    where
      first_or : (p q : Name) {ps : List Name} → Among q (p ∷ ps) → (p ≡ q) ⊎ Among q ps
      first_or p q at_head = inl refl
      first_or p q (further k) = inr k
