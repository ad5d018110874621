-- The items that a commit leaves.
use Rattle.std.proofs.Common.{ℕ, ◌≡◌, ◌+◌, List, [], ◌∷◌, refl, arith, sym, subst, ◌∙◌}
use Rattle.lmn_store_heap.specs.Heap.{Heap}
use Rattle.lmn_store_heap.specs.Sound.{Forest, IsTree, flat, item_count_in}
use Rattle.lmn_store_heap.proofs.Pigeonholes.{not_longer}
use Rattle.lmn_instr_code.specs.declared.instr.Instr.{Instr}
use Rattle.lmn_instr_code.specs.declared.instr.Instr.TheVariants.{RemoveAtom, RemovePart, RemoveMem, NewAtom, NewInt, NewMem, CopyGround, LoadRule, CopyRules}
use Rattle.lmn_solid_bodies.specs.Running.{Registers}
use Rattle.lmn_machine.specs.Costs.{IsSize, AddsItems, TakesItems, InAll, Leaves}

-- a part has one size
one_size : (h : Heap) (root : ℕ × ℕ) (m n : ℕ) → IsSize h root m → IsSize h root n → m ≡ n
one_size h root m n (xs, a, e) (ys, b, f) =
    let x = not_longer xs ys a.0 (λ k s. (b.1 k).1 ((a.1 k).0 s)) in
    let y = not_longer ys xs b.0 (λ k s. (a.1 k).1 ((b.1 k).0 s)) in
    omega (arith, x, y, e, f)

adds_one : (h : Heap) (r : Registers) (i : Instr) (m n : ℕ) → AddsItems h r i m → AddsItems h r i n → m ≡ n
adds_one h r (NewAtom a x f) m n s t = s ∙ sym t
adds_one h r (NewInt a x v) m n s t = s ∙ sym t
adds_one h r (NewMem x k) m n s t = s ∙ sym t
adds_one h r (CopyGround c x g) m n s t = one_size h (r.head.images.part g) m n s t
adds_one h r (LoadRule x k) m n s t = s ∙ sym t
adds_one h r (CopyRules x k) m n s t = s ∙ sym t
adds_one h r _ m n s t = s ∙ sym t

takes_one : (h : Heap) (r : Registers) (i : Instr) (m n : ℕ) → TakesItems h r i m → TakesItems h r i n → m ≡ n
takes_one h r (RemoveAtom a) m n s t = s ∙ sym t
takes_one h r (RemovePart g) m n s t = one_size h (r.head.images.part g) m n s t
takes_one h r (RemoveMem x) m n s t = s ∙ sym t
takes_one h r _ m n s t = s ∙ sym t

one_sum : (P : Instr → ℕ → Type 0) → ((i : Instr) (m n : ℕ) → P i m → P i n → m ≡ n) → (is : List Instr) (m n : ℕ) → InAll P is m → InAll P is n → m ≡ n
one_sum P one [] m n s t = s ∙ sym t
one_sum P one (i ∷ is) m n (a, b, (p, s, e)) (c, d, (q, t, f)) = let u = one i a c p q in let v = one_sum P one is b d s t in omega (arith, u, v, e, f)

-- The sum of what is left gives the sum of all, with the sum so far.
pub record SoFar (P : Instr → ℕ → Type 0) (all left : List Instr) (sum : ℕ) : Type 0 where
  pub whole : (n : ℕ) → InAll P left n → InAll P all (sum + n)

-- at first the sum is 0
pub sum_first : (P : Instr → ℕ → Type 0) (all left : List Instr) (sum : ℕ) → left ≡ all → sum ≡ 0 → SoFar P all left sum
sum_first P all left sum e z = record { whole = λ n s. (let t : n ≡ sum + n = omega (arith, z) in subst (λ k. InAll P all k) t (subst (λ xs. InAll P xs n) e s)) }

-- then what one instruction more adds
pub sum_next : (P : Instr → ℕ → Type 0) (all left is : List Instr) (i : Instr) (sum a next : ℕ) → left ≡ i ∷ is → P i a → next ≡ sum + a → SoFar P all left sum → SoFar P all is next
sum_next P all left is i sum a next e p f s = record {
  whole = λ n t. (let u : sum + (a + n) ≡ next + n = omega (arith, f) in subst (λ k. InAll P all k) u (s.whole (a + n) (subst (λ xs. InAll P xs (a + n)) (sym e) (a, n, (p, t, refl)))));
}

-- at the end it is that of all
pub sum_last : (P : Instr → ℕ → Type 0) (all left : List Instr) (sum : ℕ) → left ≡ [] → SoFar P all left sum → InAll P all sum
sum_last P all left sum e s = let t : sum + 0 ≡ sum = omega arith in subst (λ k. InAll P all k) t (s.whole 0 (subst (λ xs. InAll P xs 0) (sym e) refl))

-- what is left, by the sums
pub left_over : (h : Heap) (r : Registers) (body : List Instr) (n items added taken : ℕ) → (f : Forest) → IsTree h f → items + 1 ≡ item_count_in h (flat f) → InAll (AddsItems h r) body added → InAll (TakesItems h r) body taken → Leaves h r body n → n + taken ≡ items + added
left_over h r body n items added taken f tree count adds takes l =
    let a = one_sum (AddsItems h r) (adds_one h r) body added l.added adds l.adds in
    let t = one_sum (TakesItems h r) (takes_one h r) body taken l.taken takes l.takes in
    let c = l.count f tree in
    omega (arith, a, t, c, count)
