-- Parts that are alike on two maps of atoms, and guards that hold for them.
use Rattle.std.proofs.Common.{ℕ, ◌≡◌, List, [], ◌∷◌, Option, Some, None, refl, sym, ap, subst, ◌∙◌}
use Rattle.std.specs.Prelude.{ℤ}
use Rattle.std.proofs.lemmas.Option.{same_Some}
use Rattle.lmn_base.specs.declared.guard.Cond.{Cond}
use Rattle.lmn_base.specs.declared.guard.Cond.TheVariants.{Kind, Compare, Equal, Differ}
use Rattle.lmn_base.specs.declared.level.CtxUse.{CtxUse}
use Rattle.lmn_base.specs.Graphs.{AtomMap, Reached, at_root, SameGraph, Port}
use Rattle.lmn_guards.specs.Values.{value}
use Rattle.lmn_guards.specs.declared.plan.TypeKind.{TypeKind}
use Rattle.lmn_guards.specs.declared.plan.TypeKind.TheVariants.{Int, Unary, Ground}
use Rattle.lmn_store_heap.specs.Heap.{Heap}
use Rattle.lmn_store_heap.specs.Graphs.{atom_map}
use Rattle.lmn_solid_heads.specs.Guards.{Meaning, IsOfKindAt, KindHolds, TypeHolds, EqualHolds, HoldsOnHeap, integer_of_functor, integer_named, integer_or, bind, with_part, kind_named, part_alone, context_alone}

-- The part that is entered at a port is the same on both maps.
pub record Alike (m n : AtomMap) (p : Port) : Type 0 where
  pub to : (a : ℕ) → Reached m p a → Reached n p a
  pub from : (a : ℕ) → Reached n p a → Reached m p a
  pub functors : (a : ℕ) → Reached m p a → n.functor a ≡ m.functor a
  pub links : (a i : ℕ) → Reached m p a → n.partner (a, i) ≡ m.partner (a, i)

pub alike_back : (m n : AtomMap) (p : Port) → Alike m n p → Alike n m p
alike_back m n p u = record {
  to = u.from;
  from = u.to;
  functors = λ a r. sym (u.functors a (u.from a r));
  links = λ a i r. sym (u.links a i (u.from a r));
}

-- equal parts are equal on the other map
pub graph_alike : (m n : AtomMap) (x y : Port) → Alike m n x → Alike m n y → SameGraph m x m y → SameGraph n x n y
graph_alike m n x y u v g = record {
  to = g.to;
  into = λ a r. v.to (g.to a) (g.into a (u.from a r));
  onto = λ b r. (let o = g.onto b (v.from b r) in (o.0, u.to o.0 o.1, o.2));
  one_to_one = λ a b r s e. g.one_to_one a b (u.from a r) (u.from b s) e;
  functors = λ a r. (let q = u.from a r in v.functors (g.to a) (g.into a q) ∙ g.functors a q ∙ sym (u.functors a q));
  joined = λ a b i j r s.
      (let q = u.from a r in let o = u.from b s in let both = g.joined a b i j q o in (
        λ e. v.links (g.to a) i (g.into a q) ∙ both.0 (sym (u.links a i q) ∙ e),
        λ e. u.links a i q ∙ both.1 (sym (v.links (g.to a) i (g.into a q)) ∙ e),
      ));
  root = g.root;
}

module _ (h t : Heap) where
  -- what a meaning gives is alike in both heaps
  abbrev pub AllAlike : Meaning → Type 0
  AllAlike s = (x : ℕ) (p : Port) → s.part_of x ≡ Some p → Alike (atom_map t) (atom_map h) p

  integer_by_part : (s : Meaning) → AllAlike s → (x : ℕ) (o : Option Port) → s.part_of x ≡ o → integer_or t o (s.bound_to x) ≡ integer_or h o (s.bound_to x)
  integer_by_part s u x None e = refl
  integer_by_part s u x (Some p) e = ap integer_of_functor (sym ((u x p e).functors p.0 at_root))

  integers_alike : (s : Meaning) → AllAlike s → integer_named t s ≡ integer_named h s
  integers_alike s u = λ i x. integer_by_part s u x (s.part_of x) refl i

  kind_alike : (k : TypeKind) (p : Port) → Alike (atom_map t) (atom_map h) p → IsOfKindAt t k p → IsOfKindAt h k p
  kind_alike Int p u w = (w.0, ap integer_of_functor (u.functors p.0 at_root) ∙ w.1)
  kind_alike Unary p u w = (w.0, u.functors p.0 at_root ∙ w.1, w.2)
  kind_alike Ground p u w = w

  asked_alike : (k : Option TypeKind) (p : Port) → Alike (atom_map t) (atom_map h) p → KindHolds t k p → KindHolds h k p
  asked_alike None p u w = w
  asked_alike (Some k) p u w = kind_alike k p u w

  with_alike : (s : Meaning) → AllAlike s → (x : ℕ) (o : Option Port) → s.part_of x ≡ o → (P Q : Port → Type 0) → ((p : Port) → s.part_of x ≡ Some p → P p → Q p) → with_part o P → with_part o Q
  with_alike s u x None e P Q step w = w
  with_alike s u x (Some p) e P Q step w = step p e w

  type_alike : (s : Meaning) → AllAlike s → (n : ℕ) (args : List CtxUse) → TypeHolds t s n args → TypeHolds h s n args
  type_alike s u n [] w = w
  type_alike s u n (c ∷ []) w = with_alike s u c.name (s.part_of c.name) refl (KindHolds t (kind_named n)) (KindHolds h (kind_named n)) (λ p e. asked_alike (kind_named n) p (u c.name p e)) w
  type_alike s u n (c ∷ (d ∷ cs)) w = w

  -- the part of a context that stands alone is one of the meaning
  alone_alike : (s : Meaning) → AllAlike s → (o : Option ℕ) (p : Port) → part_alone s o ≡ Some p → Alike (atom_map t) (atom_map h) p
  alone_alike s u None p e = absurd (cc)
  alone_alike s u (Some x) p e = u x p e

  equal_alike : (s : Meaning) → AllAlike s → (x : ℕ) (c : Option ℕ) (left right : Option Port) → s.part_of x ≡ left → part_alone s c ≡ right → (z y : Option ℤ) → z ≡ y →
      (P Q : Meaning → Type 0) → ((r : Meaning) → AllAlike r → P r → Q r) → EqualHolds t s left right x z P → EqualHolds h s left right x y Q
  equal_alike s u x c (Some p) (Some q) e f z y same P Q step w = (graph_alike (atom_map t) (atom_map h) p q (u x p e) (alone_alike s u c q f) w.0, step s u w.1)
  equal_alike s u x c (Some p) None e f z y same P Q step w = w
  equal_alike s u x c None right e f None None same P Q step w = w
  equal_alike s u x c None right e f None (Some b) same P Q step w = absurd w
  equal_alike s u x c None right e f (Some a) None same P Q step w = absurd (cc)
  equal_alike s u x c None right e f (Some a) (Some b) same P Q step w = subst (λ k. Q (bind s x k)) (same_Some a b same) (step (bind s x a) u w)

  -- a guard that holds in one holds in the other
  pub guard_alike : (cs : List Cond) (s : Meaning) → AllAlike s → HoldsOnHeap t s cs → HoldsOnHeap h s cs
  guard_alike [] s u w = w
  guard_alike (Kind n args pos ∷ cs) s u w = (type_alike s u n args w.0, guard_alike cs s u w.1)
  guard_alike (Compare op left right pos ∷ cs) s u w =
      let c = w.0 in
      let same = integers_alike s u in
      ((c.0, c.1, ap (λ f. value f left) (sym same) ∙ c.2, ap (λ f. value f right) (sym same) ∙ c.3, c.4), guard_alike cs s u w.1)
  guard_alike (Equal left right pos ∷ cs) s u w =
      equal_alike s u left.name (context_alone right) (s.part_of left.name) (part_alone s (context_alone right)) refl refl (value (integer_named t s) right) (value (integer_named h s) right) (ap (λ f. value f right) (integers_alike s u))
      (λ r. HoldsOnHeap t r cs) (λ r. HoldsOnHeap h r cs) (λ r v. guard_alike cs r v) w
  guard_alike (Differ left right pos ∷ cs) s u w = (
    with_alike s u left.name (s.part_of left.name) refl
        (λ p. with_part (s.part_of right.name) (λ q. SameGraph (atom_map t) p (atom_map t) q → ⊥)) (λ p. with_part (s.part_of right.name) (λ q. SameGraph (atom_map h) p (atom_map h) q → ⊥))
        (λ p e. with_alike s u right.name (s.part_of right.name) refl (λ q. SameGraph (atom_map t) p (atom_map t) q → ⊥) (λ q. SameGraph (atom_map h) p (atom_map h) q → ⊥)
        (λ q f none g. none (graph_alike (atom_map h) (atom_map t) p q (alike_back (atom_map t) (atom_map h) p (u left.name p e)) (alike_back (atom_map t) (atom_map h) q (u right.name q f)) g))) w.0,
    guard_alike cs s u w.1,
  )
