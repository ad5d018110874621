-- What names stand for, and conditions one by one.
use Rattle.std.proofs.Common.{◌≡◌, ◌∙◌, ◌↔◌, ℕ, ℤ, ◌+◌, List, ◌∷◌, slice_get, drop, Option, Some, None, Bool, IsTrue, sym, ap, subst}
use Rattle.lmn_base.specs.declared.guard.Cmp.{Cmp}
use Rattle.lmn_base.specs.declared.guard.Cond.{Cond}
use Rattle.lmn_base.specs.declared.guard.Cond.TheVariants.{Kind, Compare, Equal, Differ}
use Rattle.lmn_base.specs.declared.guard.Expr.{Expr}
use Rattle.lmn_base.specs.declared.refusal.Pos.{Pos}
use Rattle.lmn_base.specs.Graphs.{Port}
use Rattle.lmn_base.proofs.Lists.{drop_get}
use Rattle.lmn_guards.specs.Values.{value, value_beside}
use Rattle.lmn_store_heap.specs.Heap.{Heap}
use Rattle.lmn_solid_heads.specs.Guards.{Meaning, integer_named, EqualHolds, HoldsOnHeap, context_alone, part_alone}
use Rattle.lmn_solid_search.specs.Binding.{after, after_all, bound_unless}
use Rattle.lmn_solid_search.specs.Knowing.{Knows, Compares, Holds, Guarding, part_named}
use Rattle.lmn_solid_search.specs.declared.known.Known.{Known}

-- the integers of names as one function
integers : (h : Heap) (k : Known) (s : Meaning) → Knows h k s → ◌≡◌ {A = ℕ → Option ℤ} (integer_named h s) (value_beside k.names.items k.values.items)
integers h k s w = λ i x. w.integer x i

-- a comparison
pub compare_holds : (h : Heap) (k : Known) (s : Meaning) (op : Cmp) (left right : Expr) (pos : Pos) (c : Cond) (b : Bool) → (IsTrue b ↔ Compares (value_beside k.names.items k.values.items) op left right) → c ≡ Compare op left right pos → Knows h k s → (IsTrue b ↔ Holds h s c)
compare_holds h k s op left right pos c b e is w = subst (λ (d : Cond). IsTrue b ↔ Holds h s d) (sym is)
    (subst (λ (f : ℕ → Option ℤ). IsTrue b ↔ Compares f op left right) (sym (integers h k s w)) e)

-- an equation that binds nothing doesn't hold
pub equal_unbound : (h : Heap) (k : Known) (s : Meaning) (x : ℕ) (right : Expr) → part_named k.parts x ≡ None → value (value_beside k.names.items k.values.items) right ≡ None → Knows h k s
    → EqualHolds h s (s.part_of x) (part_alone s (context_alone right)) x (value (integer_named h s) right) (λ s'. Unit {0}) → ⊥
equal_unbound h k s x right e f w = by (s.part_of x) (w.part x ∙ e) (value (integer_named h s) right) (ap (λ (g : ℕ → Option ℤ). value g right) (integers h k s w) ∙ f)
  where
    by : (o : Option Port) → o ≡ None → (z : Option ℤ) → z ≡ None → EqualHolds h s o (part_alone s (context_alone right)) x z (λ s'. Unit {0}) → ⊥
    by None u None v g = g
    by None u (Some z) v g = absurd (cc)
    by (Some p) u z v g = absurd (cc)

-- ---- guards

-- the first condition, and then the others
pub first_holds : (h : Heap) (s : Meaning) (c : Cond) (cs : List Cond) → HoldsOnHeap h s (c ∷ cs) ↔ (Holds h s c × HoldsOnHeap h (after h s c) cs)
first_holds h s (Kind n args pos) cs = ((λ p. p), λ p. p)
first_holds h s (Compare op left right pos) cs = ((λ p. p), λ p. p)
first_holds h s (Differ left right pos) cs = ((λ p. p), λ p. p)
first_holds h s (Equal left right pos) cs = by (s.part_of left.name) (part_alone s (context_alone right)) (value (integer_named h s) right)
  where
    by : (o q : Option Port) (z : Option ℤ) → EqualHolds h s o q left.name z (λ s'. HoldsOnHeap h s' cs) ↔ (EqualHolds h s o q left.name z (λ s'. Unit {0}) × HoldsOnHeap h (bound_unless s o left.name z) cs)
    by (Some p) (Some q) z = ((λ r. ((r.0, tt), r.1)), λ r. (r.0.0, r.1))
    by (Some p) None z = ((λ r. absurd r), λ r. absurd r.0)
    by None q None = ((λ r. absurd r), λ r. absurd r.0)
    by None q (Some z) = ((λ r. (tt, r)), λ r. r.1)

module _ (h : Heap) (s : Meaning) (guard : List Cond) (k : Known) (i : ℕ) (c : Cond) (at : slice_get guard i ≡ Some c) (g : Guarding h s guard k i) where
  rest : drop i guard ≡ c ∷ drop (i + 1) guard
  rest = drop_get i guard c at

  -- a condition more holds,
  pub guarding_next : (k' : Known) → ((t : Meaning) → Knows h k t → Holds h t c) → ((t : Meaning) → Knows h k t → Knows h k' (after h t c)) → Guarding h s guard k' (i + 1)
  guarding_next k' holds bound = record {
    now = after h g.now c;
    known = bound g.now g.known;
    left = (
      λ p. g.left.0 (subst (HoldsOnHeap h g.now) (sym rest) ((first_holds h g.now c (drop (i + 1) guard)).1 (holds g.now g.known, p))),
      λ p. ((first_holds h g.now c (drop (i + 1) guard)).0 (subst (HoldsOnHeap h g.now) rest (g.left.1 p))).1,
    );
    bound = ap (after_all h g.now) (sym rest) ∙ g.bound;
  }
