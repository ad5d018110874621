-- The integers that head code sets are told by the parts that it finds, and the flat rule names those alone.
use Rattle.std.proofs.Common.{◌≡◌, ◌<◌, ◌+◌, ◌∙◌, inl, inr, ℕ, List, [], ◌∷◌, ◌++◌, Some, sym, ap, subst, arith}
use Rattle.std.specs.List.{filter_map}
use Rattle.std.proofs.lemmas.Option.{same_Some}
use Rattle.lmn_base.specs.declared.guard.Arith.{Arith}
use Rattle.lmn_base.specs.declared.guard.Arith.TheVariants as op
use Rattle.lmn_base.proofs.Numbers.{same_or_not}
use Rattle.lmn_guards.specs.Values.{result_of}
use Rattle.lmn_store_heap.specs.Heap.{Heap}
use Rattle.lmn_solid_heads.specs.Guards.{integer_at}
use Rattle.lmn_congruence_splice.specs.Splice.{IsOneOf}
use Rattle.lmn_congruence_splice.proofs.Common.{in_append}
use Rattle.lmn_solid_bodies.specs.declared.items.BodyItem.TheVariants.{Bound}
use Rattle.lmn_machine_commit.specs.Preparing.{BodyInOrder}
use Rattle.lmn_instr_code.specs.declared.instr.Code.{Code}
use Rattle.lmn_instr_code.specs.declared.instr.Instr.{Instr}
use Rattle.lmn_instr_code.specs.declared.instr.Instr.TheVariants.{FindAtom, Deref, AnyMem, IsInt, IsUnary, IsGround, GetInt, Const, Add, Sub, Mul, Div, Mod, NewAtom, NewInt, NewMem, CopyGround, MoveCells, CopyCells, LoadRule, CopyRules, Unify}
use Rattle.lmn_instr_code.specs.Running.{AllHold, HeadRegisters, HeadSize, size_of_head}
use Rattle.lmn_machine.specs.Searching.{HeadInOrder, integers_set, parts_set}
use Rattle.lmn_verify_laws.specs.Flat.{connected, made_item}
use Rattle.lmn_verify_laws.specs.Laws.{IntegersAreOne, VerifiedSetsFlat}
use Rattle.lmn_verify_laws.proofs.Ready.{verified_is_in_order}
use Rattle.lmn_verify_laws.proofs.Rests.{sets_items}

-- ---- the integers of a head

module _ (h : Heap) (c : HeadSize) (r s : HeadRegisters) (G : ℕ) (same : (g : ℕ) → g < G → r.images.part g ≡ s.images.part g) where
  abbrev Same : ℕ → Type 0
  Same v = (k : ℕ) → k < v → r.integer k ≡ s.integer k

  -- one integer more
  next : (v x : ℕ) → x ≡ v → Same v → r.integer x ≡ s.integer x → Same (v + 1)
  next v x e before here k l = elim (same_or_not k v) [
    | inl f ↦ subst (λ z. r.integer z ≡ s.integer z) (e ∙ sym f) here
    | inr d ↦ before k (omega (arith, l, d))
  ]

  -- what is read off a part
  read : (g x : ℕ) → g < G → integer_at h (r.images.part g) ≡ Some (r.integer x) → integer_at h (s.images.part g) ≡ Some (s.integer x) → r.integer x ≡ s.integer x
  read g x l u w = same_Some (r.integer x) (s.integer x) (sym u ∙ ap (integer_at h) (same g l) ∙ w)

  -- what is computed
  computed : (f : Arith) (v x y z : ℕ) → Same v → y < v → z < v → result_of f (r.integer y) (r.integer z) ≡ Some (r.integer x) → result_of f (s.integer y) (s.integer z) ≡ Some (s.integer x) → r.integer x ≡ s.integer x
  computed f v x y z before ly lz u w = let ey = before y ly in let ez = before z lz in same_Some (r.integer x) (s.integer x) (sym u ∙ (λ i. result_of f (ey i) (ez i)) ∙ w)

  same_all : (code : List Instr) (a m g v V : ℕ) → V ≡ v + integers_set code → G ≡ g + parts_set code → HeadInOrder a m g v code → AllHold h c r code → AllHold h c s code → Same v → Same V
  same_all [] a m g v V sv sg o u w before = λ k l. before k (omega (arith, l, sv))
  same_all (FindAtom x y f ∷ is) a m g v V sv sg o u w before = same_all is (a + 1) m g v V sv sg o.1 u.1 w.1 before
  same_all (Deref x p q ∷ is) a m g v V sv sg o u w before = same_all is (a + 1) m g v V sv sg o.1 u.1 w.1 before
  same_all (AnyMem x y ∷ is) a m g v V sv sg o u w before = same_all is a (m + 1) g v V sv sg o.1 u.1 w.1 before
  same_all (IsInt x p y ∷ is) a m g v V sv sg o u w before = same_all is a m (g + 1) v V sv (omega (arith, sg)) o.1 u.1 w.1 before
  same_all (IsUnary x p y ∷ is) a m g v V sv sg o u w before = same_all is a m (g + 1) v V sv (omega (arith, sg)) o.1 u.1 w.1 before
  same_all (IsGround x p y ∷ is) a m g v V sv sg o u w before = same_all is a m (g + 1) v V sv (omega (arith, sg)) o.1 u.1 w.1 before
  same_all (GetInt x y ∷ is) a m g v V sv sg o u w before =
      let l = o.0.1 in
      same_all is a m g (v + 1) V (omega (arith, sv)) sg o.1 u.1 w.1 (next v x o.0.0.0 before (read y x (omega (arith, sg, l)) u.0 w.0))
  same_all (Const x z ∷ is) a m g v V sv sg o u w before = same_all is a m g (v + 1) V (omega (arith, sv)) sg o.1 u.1 w.1 (next v x o.0.0 before (u.0 ∙ sym w.0))
  same_all (Add x y z ∷ is) a m g v V sv sg o u w before = same_all is a m g (v + 1) V (omega (arith, sv)) sg o.1 u.1 w.1 (next v x o.0.0.0 before (computed op.Add v x y z before o.0.1 o.0.2 u.0 w.0))
  same_all (Sub x y z ∷ is) a m g v V sv sg o u w before = same_all is a m g (v + 1) V (omega (arith, sv)) sg o.1 u.1 w.1 (next v x o.0.0.0 before (computed op.Sub v x y z before o.0.1 o.0.2 u.0 w.0))
  same_all (Mul x y z ∷ is) a m g v V sv sg o u w before = same_all is a m g (v + 1) V (omega (arith, sv)) sg o.1 u.1 w.1 (next v x o.0.0.0 before (computed op.Mul v x y z before o.0.1 o.0.2 u.0 w.0))
  same_all (Div x y z ∷ is) a m g v V sv sg o u w before = same_all is a m g (v + 1) V (omega (arith, sv)) sg o.1 u.1 w.1 (next v x o.0.0.0 before (computed op.Div v x y z before o.0.1 o.0.2 u.0 w.0))
  same_all (Mod x y z ∷ is) a m g v V sv sg o u w before = same_all is a m g (v + 1) V (omega (arith, sv)) sg o.1 u.1 w.1 (next v x o.0.0.0 before (computed op.Mod v x y z before o.0.1 o.0.2 u.0 w.0))
  same_all (_ ∷ is) a m g v V sv sg o u w before = same_all is a m g v V sv sg o.1 u.1 w.1 before

-- Where head code succeeds with registers that have the same parts, they have the same integers.
pub integers_are_one : IntegersAreOne
integers_are_one code o h m r s u w same =
    same_all h (size_of_head code) r s (parts_set code) same code 0 1 0 0 (integers_set code) (omega arith) (omega arith) o u.all w.all (λ k l. absurd (omega (arith, l)))

-- ---- the integers of a body

-- what makes names integers that are set
names_set : (code : Code) (is : List Instr) (a m g v c : ℕ) → BodyInOrder a m g v c is → (z l n : ℕ) → IsOneOf (Bound z l n) (filter_map (made_item code) is) → z < v
names_set code [] a m g v c o z l n i = absurd i
names_set code (NewAtom x y f ∷ is) a m g v c o z l n (inl e) = absurd (cc)
names_set code (NewAtom x y f ∷ is) a m g v c o z l n (inr i) = names_set code is (a + 1) (m + 0) g v (c + 0) o.1 z l n i
names_set code (NewInt x y t ∷ is) a m g v c o z l n (inl e) = let same : t ≡ z = cc in subst (λ k. k < v) same o.0.2
names_set code (NewInt x y t ∷ is) a m g v c o z l n (inr i) = names_set code is (a + 1) (m + 0) g v (c + 0) o.1 z l n i
names_set code (NewMem x y ∷ is) a m g v c o z l n (inl e) = absurd (cc)
names_set code (NewMem x y ∷ is) a m g v c o z l n (inr i) = names_set code is (a + 0) (m + 1) g v (c + 0) o.1 z l n i
names_set code (CopyGround x y t ∷ is) a m g v c o z l n (inl e) = absurd (cc)
names_set code (CopyGround x y t ∷ is) a m g v c o z l n (inr i) = names_set code is (a + 0) (m + 0) g v (c + 1) o.1 z l n i
names_set code (MoveCells x y ∷ is) a m g v c o z l n (inl e) = absurd (cc)
names_set code (MoveCells x y ∷ is) a m g v c o z l n (inr i) = names_set code is (a + 0) (m + 0) g v (c + 0) o.1 z l n i
names_set code (CopyCells x y ∷ is) a m g v c o z l n (inl e) = absurd (cc)
names_set code (CopyCells x y ∷ is) a m g v c o z l n (inr i) = names_set code is (a + 0) (m + 0) g v (c + 0) o.1 z l n i
names_set code (LoadRule x y ∷ is) a m g v c o z l n (inl e) = absurd (cc)
names_set code (LoadRule x y ∷ is) a m g v c o z l n (inr i) = names_set code is (a + 0) (m + 0) g v (c + 0) o.1 z l n i
names_set code (CopyRules x y ∷ is) a m g v c o z l n (inl e) = absurd (cc)
names_set code (CopyRules x y ∷ is) a m g v c o z l n (inr i) = names_set code is (a + 0) (m + 0) g v (c + 0) o.1 z l n i
names_set code (_ ∷ is) a m g v c o z l n i = names_set code is (a + 0) (m + 0) g v (c + 0) o.1 z l n i

-- and a connector names none
none_named : (k : ℕ) (is : List Instr) (z l n : ℕ) → IsOneOf (Bound z l n) (connected k is) → ⊥
none_named k [] z l n i = i
none_named k (Unify p q ∷ is) z l n (inl e) = cc
none_named k (Unify p q ∷ is) z l n (inr i) = none_named (k + 2) is z l n i
none_named k (_ ∷ is) z l n i = none_named (k + 2) is z l n i

pub verified_sets_flat : VerifiedSetsFlat
verified_sets_flat code k v = record {
  items = sets_items code k v;
  integers = λ z l n i. elim (in_append (Bound z l n) (filter_map (made_item code) code.body) (connected 0 (code.head ++ code.body)) i) [
    | inl j ↦ names_set code code.body _ _ _ (integers_set code.head) 0 (verified_is_in_order code k v).ready.order z l n j
    | inr j ↦ absurd (none_named 0 (code.head ++ code.body) z l n j)
  ];
}
