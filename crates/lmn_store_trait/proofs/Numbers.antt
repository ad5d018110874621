-- Numbers in preorder: what is asked next has the next number.
use Rattle.std.proofs.Common.{ℕ, zero, suc, ◌≡◌, ◌<◌, ◌≤◌, ◌+◌, ◌^◌, List, [], ◌∷◌, ◌++◌, length, Option, Some, None, refl, sym, ap, subst, ◌∙◌, arith}
use Rattle.std.specs.Prelude.{slice_get}
use Rattle.std.proofs.lemmas.Option.{slice_get_within}
use Rattle.lmn_store_heap.specs.Heap.{Heap, IsMem, Distinct, from, after}
use Rattle.lmn_store_heap.specs.Sound.{Forest, Sound, Valid, AtMost, IsTree, flat}
use Rattle.lmn_store_heap.proofs.Pigeonholes.{not_longer}
use Rattle.lmn_store_heap.proofs.Trees.{after_split, in_here, is_mem, root_first}
use Rattle.lmn_base.specs.Lists.{In}

-- a list, cut at the element with a number
pub record Cut (xs : List ℕ) (i m : ℕ) : Type 0 where
  pub before : List ℕ
  pub rest : List ℕ
  pub is : xs ≡ before ++ (m ∷ rest)
  pub many : length before ≡ i

-- a list is cut at one of its numbers
pub cut_at : (xs : List ℕ) (i m : ℕ) → slice_get xs i ≡ Some m → Cut xs i m
cut_at [] i m e = absurd (cc)
cut_at (x ∷ xs) zero m e = record { before = []; rest = xs; is = (let s : x ≡ m = (cc) in ap (λ z. z ∷ xs) s); many = refl }
cut_at (x ∷ xs) (suc i) m e = let c = cut_at xs i m e in record { before = x ∷ c.before; rest = c.rest; is = ap (λ z. x ∷ z) c.is; many = ap suc c.many }

get_behind : (xs rest : List ℕ) (m : ℕ) → slice_get (xs ++ (m ∷ rest)) (suc (length xs)) ≡ slice_get rest zero
get_behind [] rest m = refl
get_behind (x ∷ xs) rest m = get_behind xs rest m

first_from : (o : Option ℕ) (xs rest : List ℕ) → from o xs ≡ rest → slice_get rest zero ≡ o
first_from None xs rest e = sym (ap (λ z. slice_get z zero) e)
first_from (Some n) xs rest e = sym (ap (λ z. slice_get z zero) e)

-- what is behind an element has the next number
pub next_number : (xs : List ℕ) (i m : ℕ) (o : Option ℕ) → Distinct xs → slice_get xs i ≡ Some m → from o xs ≡ after m xs → slice_get xs (i + 1) ≡ o
next_number xs i m o d e n =
    let c = cut_at xs i m e in
    let a : after m xs ≡ c.rest = ap (after m) c.is ∙ after_split m c.before c.rest (subst Distinct c.is d) in
    let k : i + 1 ≡ suc (length c.before) = (let l = c.many in omega (arith, l)) in
    ap (slice_get xs) k ∙ ap (λ z. slice_get z (suc (length c.before))) c.is ∙ get_behind c.before c.rest m ∙ first_from o xs c.rest (n ∙ a)

-- where nothing stands, the list has ended
pub is_past : (xs : List ℕ) (k : ℕ) → slice_get xs k ≡ None → length xs ≤ k
is_past [] k e = omega arith
is_past (x ∷ xs) zero e = absurd (cc)
is_past (x ∷ xs) (suc k) e = let l = is_past xs k e in omega (arith, l)

-- In each tree of the heap the membrane m has this number.
abbrev pub HasNumber : Heap → ℕ → ℕ → Type 0
HasNumber h i m = (f : Forest) → IsTree h f → slice_get (flat f) i ≡ Some m

-- the root has the number 0
pub root_number : (h : Heap) (m : ℕ) → m ≡ h.root → HasNumber h 0 m
root_number h m e = λ f t. first_from (Some h.root) (flat f) (flat f) (root_first h f t).1 ∙ ap (λ z. Some z) (sym e)

-- the next membrane has the next number
pub number_next : (h : Heap) (i m : ℕ) (o : Option ℕ) → HasNumber h i m → ((f : Forest) → IsTree h f → from o (flat f) ≡ after m (flat f)) → (f : Forest) → IsTree h f → slice_get (flat f) (i + 1) ≡ o
number_next h i m o n e f t = next_number (flat f) i m o t.once (n f t) (e f t)

-- what has a number is a membrane
pub number_mem : (h : Heap) (i m : ℕ) → Valid h → HasNumber h i m → IsMem h m
number_mem h i m v n =
    let f = v.tree.0 in
    let c = cut_at (flat f) i m (n f v.tree.1) in
    is_mem h v.sound f v.tree.1 m (subst (In m) (sym c.is) (in_here m c.before c.rest))

-- the last one has the number of all but one
pub last_number : (h : Heap) (i m : ℕ) → HasNumber h i m → (f : Forest) → IsTree h f → slice_get (flat f) (i + 1) ≡ None → i + 1 ≡ length (flat f)
last_number h i m n f t e = let p = is_past (flat f) (i + 1) e in let q = slice_get_within (flat f) i m (n f t) in omega (arith, p, q)

-- a heap has few membranes
pub few_membranes : (h : Heap) → Sound h → AtMost (2 ^ 48) h → (f : Forest) → IsTree h f → length (flat f) ≤ 2 ^ 48
few_membranes h sound few f t =
    let l = not_longer (flat f) few.mems t.once (λ b i. few.all_mems b (is_mem h sound f t b i)) in
    let all = few.few in
    omega (arith, l, all)

-- no number is as great as that
pub never_ends : (h : Heap) (i m : ℕ) → Sound h → AtMost (2 ^ 48) h → 2 ^ 48 < i → HasNumber h i m → (f : Forest) → IsTree h f → {A : Type 0} → A
never_ends h i m sound few l n f t =
    let p = few_membranes h sound few f t in
    let q = slice_get_within (flat f) i m (n f t) in
    absurd (omega (arith, l, p, q))
