-- A walk over the membranes of a heap that counts the atoms with a functor.
use Rattle.std.proofs.Common.{ℕ, suc, ◌≡◌, ◌<◌, ◌≤◌, ◌+◌, ◌^◌, Bool, true, false, cond, List, [], ◌∷◌, length, Option, Some, sym, ap, subst, ◌∙◌, arith}
use Rattle.std.specs.Prelude.{slice_get}
use Rattle.std.proofs.lemmas.List.Sums.{sum-map, sum_by-cons}
use Rattle.std.proofs.lemmas.Option.{slice_get_within}
use Rattle.lmn_base.specs.declared.functor.Functor.{Functor}
use Rattle.lmn_store_heap.proofs.Trees.{root_first}
use Rattle.lmn_store_heap.specs.Heap.{Heap, atoms_in, rules_in, functor_of, from, after}
use Rattle.lmn_store_heap.specs.Functors.{is_of, with_functor}
use Rattle.lmn_store_heap.specs.Sound.{Forest, flat, IsTree, item_count_in}
use Rattle.lmn_debug_counting.specs.Counts.{count_in}

-- no more have the functor than there are
pub with_few : (h : Heap) (f : Functor) (xs : List ℕ) → length (with_functor h f xs) ≤ length xs
with_few h f [] = omega arith
with_few h f (a ∷ xs) = by (is_of (functor_of h a) f) (with_few h f xs)
  where
    by : (b : Bool) → length (with_functor h f xs) ≤ length xs → length (cond b (a ∷ with_functor h f xs) (with_functor h f xs)) ≤ suc (length xs)
    by true l = omega (arith, l)
    by false l = omega (arith, l)

-- the items of membranes, one after another
items_cons : (h : Heap) (m : ℕ) (ms : List ℕ) → item_count_in h (m ∷ ms) ≡ (1 + length (atoms_in h m) + length (rules_in h m)) + item_count_in h ms
items_cons h m ms =
    let w : ℕ → ℕ = λ m. 1 + length (atoms_in h m) + length (rules_in h m) in
    sum-map w (m ∷ ms) ∙ sum_by-cons w m ms ∙ ap (λ n. w m + n) (sym (sum-map w ms))

-- with the membranes they are no more than the items
pub count_few : (h : Heap) (f : Functor) (ms : List ℕ) → count_in h f ms + length ms ≤ item_count_in h ms
count_few h f [] = omega arith
count_few h f (m ∷ ms) =
    let a = with_few h f (atoms_in h m) in
    let b = count_few h f ms in
    let c = items_cons h m ms in
    omega (arith, a, b, c)

-- A walk over the membranes: at its first one all is still to be counted
pub walk_first : (h : Heap) (f : Functor) (m : ℕ) → m ≡ h.root → (g : Forest) → IsTree h g → 0 + count_in h f (from (Some m) (flat g)) ≡ count_in h f (flat g)
walk_first h f m e g t =
    let same : from (Some m) (flat g) ≡ flat g = subst (λ k. from (Some k) (flat g) ≡ flat g) (sym e) (root_first h g t).1 in
    let q : count_in h f (from (Some m) (flat g)) ≡ count_in h f (flat g) = ap (count_in h f) same in
    added (count_in h f (from (Some m) (flat g))) (count_in h f (flat g)) q
  where
    added : (a b : ℕ) → a ≡ b → 0 + a ≡ b
    added a b e = omega (arith, e)

-- one membrane is counted
pub walk_next : (h : Heap) (f : Functor) (total here m : ℕ) (o : Option ℕ) (xs : List ℕ) → total + count_in h f (from (Some m) xs) ≡ count_in h f xs →
    here ≡ length (with_functor h f (atoms_in h m)) → from o xs ≡ after m xs → (total + here) + count_in h f (from o xs) ≡ count_in h f xs
walk_next h f total here m o xs e w n = sums total here (length (with_functor h f (atoms_in h m))) (count_in h f (after m xs)) (count_in h f (from o xs)) (count_in h f xs) e w (ap (count_in h f) n)
  where
    sums : (total here size a b all : ℕ) → total + (size + a) ≡ all → here ≡ size → b ≡ a → (total + here) + b ≡ all
    sums total here size a b all e w q = omega (arith, e, w, q)

-- and what was counted is a number of 64 bits
pub walk_fits : (h : Heap) (f : Functor) (total here m i items : ℕ) (xs : List ℕ) → total + count_in h f (from (Some m) xs) ≡ count_in h f xs →
    here ≡ length (with_functor h f (atoms_in h m)) → slice_get xs i ≡ Some m → items + 1 ≡ item_count_in h xs → items < 2 ^ 64 → total + here < 2 ^ 64
walk_fits h f total here m i items xs e w s n b =
    sums total here (length (with_functor h f (atoms_in h m))) (count_in h f (after m xs)) (count_in h f xs) (length xs) i items (item_count_in h xs) e w (slice_get_within xs i m s) (count_few h f xs) n b
  where
    sums : (total here size a all long i items most : ℕ) → total + (size + a) ≡ all → here ≡ size → i < long → all + long ≤ most → items + 1 ≡ most → items < 2 ^ 64 → total + here < 2 ^ 64
    sums total here size a all long i items most e w s c n b = omega (arith, e, w, s, c, n, b)
