-- What is quiet on small heaps.
use Rattle.std.proofs.Common.{ℕ, zero, suc, ◌≡◌, ◌==◌, Bool, true, false, cond, List, [], ◌∷◌, Option, Some, None, inl, inr, refl, sym, ap, subst, ◌∙◌, length, arith}
use Rattle.std.specs.Prelude.{slice_index_or}
use Rattle.std.specs.Option.{option_map, option_and_then}
use Rattle.std.proofs.lemmas.Option.{none-some, same_Some}
use Rattle.lmn_store_heap.specs.Heap.{Heap, HeapAtom, HeapMem, home_by, functor_of, link_of, parent_of, partners_of, taken, with_place, gone}
use Rattle.lmn_store_heap.specs.Conditions.{Above}
use Rattle.lmn_store_heap.specs.Examples.{across}
use Rattle.lmn_store_heap.proofs.ExampleProofs.{mem_cases}
use Rattle.lmn_schedule_sleep.specs.Quiet.{IsUntouched}
use Rattle.lmn_schedule_sleep.specs.Examples.{InnerIsTouched, MarksLeaveQuiet, OuterIsTouched}
use Rattle.lmn_schedule_sleep.proofs.Marks.{read_alike}

pub marks_leave_quiet : MarksLeaveQuiet
marks_leave_quiet h k e m i =
    let same = read_alike h k e in
    record {
      stood = i;
      untouched = λ n j a. record {
        atoms = same.lists n;
        mems = same.inner n;
        rules = same.rules n;
        functors = λ a i. ap (λ (o : Option HeapAtom). option_map (λ x. x.functor) o) (same.atoms a);
        links = λ a i j. ap (λ (o : Option HeapAtom). slice_index_or (partners_of o) i None) (same.atoms a);
      };
    }

-- an empty list isn't one with a number
not_empty : (x : ℕ) (xs : List ℕ) → ◌≡◌ {A = List ℕ} [] (x ∷ xs) → ⊥
not_empty x xs e = let z : length {A = ℕ} [] ≡ length (x ∷ xs) = ap length e in absurd (omega (arith, z))

pub inner_is_touched : InnerIsTouched
inner_is_touched = (
  λ q. not_empty 0 [] ((q.untouched 1 0 refl).atoms),
  λ q. not_empty 0 [] ((q.untouched 1 1 (0, refl, refl)).atoms),
)

-- the ports of an atom that is taken stay joined
links_stay : (s : Heap) (b a i : ℕ) → link_of (taken s b) a i ≡ link_of s a i
links_stay s b a i = ap (λ xs. slice_index_or xs i None) (by (a == b) (s.atoms a))
  where
    by : (t : Bool) (o : Option HeapAtom) → partners_of (cond t (option_map (with_place gone) o) o) ≡ partners_of o
    by false o = refl
    by true None = refl
    by true (Some x) = refl

functors_stay : (s : Heap) (b a : ℕ) → functor_of (taken s b) a ≡ functor_of s a
functors_stay s b a = by (a == b) (s.atoms a)
  where
    by : (t : Bool) (o : Option HeapAtom) → option_map (λ x. x.functor) (cond t (option_map (with_place gone) o) o) ≡ option_map (λ x. x.functor) o
    by false o = refl
    by true None = refl
    by true (Some x) = refl

-- nothing is below the membrane 1
below_one : (n k : ℕ) → Above across k 1 n → n ≡ 1
below_one n zero a = a
below_one n (suc k) a = absurd (no_child n a.0 a.1 (below_one a.0 k a.2))
  where
    no_child : (n p : ℕ) → parent_of across n ≡ Some p → p ≡ 1 → ⊥
    no_child n p e q = elim (mem_cases n) [
      | inl z ↦ none-some p (subst (λ m. parent_of across m ≡ Some p) z e)
      | inr o ↦ elim o [
        | inl z ↦ (let w : 0 ≡ p = same_Some 0 p (subst (λ m. parent_of across m ≡ Some p) z e) in absurd (omega (arith, w, q)))
        | inr z ↦ none-some p (sym (ap (λ (o : Option HeapMem). option_and_then (λ x. home_by x.place) o) z) ∙ e)
      ]
    ]

pub outer_is_touched : OuterIsTouched
outer_is_touched = (
  λ q. not_empty 1 [] ((q.untouched 0 0 refl).atoms),
  record {
    stood = refl;
    untouched = λ n k a. subst (IsUntouched across (taken across 1)) (sym (below_one n k a)) (record {
      atoms = refl;
      mems = refl;
      rules = refl;
      functors = λ a i. functors_stay across 1 a;
      links = λ a i j. links_stay across 1 a i;
    });
  },
)
