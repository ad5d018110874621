-- Where a number stands in a list without repeats.
use Rattle.std.proofs.Common.{◌≡◌, ◌≢◌, ℕ, zero, suc, ◌<◌, List, [], ◌∷◌, Some, slice_get, refl, sym, ap, subst, arith}
use Rattle.std.proofs.lemmas.Option.{none-some, same_Some}
use Rattle.lmn_store_heap.specs.Lists.{Distinct, after}
use Rattle.lmn_store_heap.proofs.ListLemmas.{each_in}
use Rattle.lmn_store_heap.proofs.Common.{in_at, in_after}
use Rattle.lmn_print_folding.proofs.Orders.{after_here, after_there}
use Rattle.lmn_base.specs.Lists.{In}

-- an atom has one position
pub one_position : (xs : List ℕ) (p q a : ℕ) → Distinct xs → slice_get xs p ≡ Some a → slice_get xs q ≡ Some a → p ≡ q
one_position [] p q a d e f = absurd (none-some a e)
one_position (x ∷ xs) zero zero a d e f = refl
one_position (x ∷ xs) zero (suc q) a d e f = absurd (each_in (λ y. x ≢ y) xs a d.0 (in_at xs q a f) (same_Some x a e))
one_position (x ∷ xs) (suc p) zero a d e f = absurd (each_in (λ y. x ≢ y) xs a d.0 (in_at xs p a e) (same_Some x a f))
one_position (x ∷ xs) (suc p) (suc q) a d e f = ap suc (one_position xs p q a d.1 e f)

-- what stands further back stands behind
pub behind : (xs : List ℕ) (p q a b : ℕ) → Distinct xs → slice_get xs p ≡ Some a → slice_get xs q ≡ Some b → p < q → In b (after a xs)
behind [] p q a b d e f l = absurd (none-some a e)
behind (x ∷ xs) p zero a b d e f l = absurd (omega (arith, l))
behind (x ∷ xs) zero (suc q) a b d e f l = subst (In b) (sym (after_here x a xs (same_Some x a e))) (in_at xs q b f)
behind (x ∷ xs) (suc p) (suc q) a b d e f l =
    subst (In b) (sym (after_there x a xs (each_in (λ y. x ≢ y) xs a d.0 (in_at xs p a e)))) (behind xs p q a b d.1 e f (omega (arith, l)))

-- and the other way
pub further_back : (xs : List ℕ) (p q a b : ℕ) → Distinct xs → slice_get xs p ≡ Some a → slice_get xs q ≡ Some b → In b (after a xs) → p < q
further_back [] p q a b d e f h = absurd (none-some a e)
further_back (x ∷ xs) zero zero a b d e f h =
    absurd (each_in (λ y. x ≢ y) xs b d.0 (subst (In b) (after_here x a xs (same_Some x a e)) h) (same_Some x b f))
further_back (x ∷ xs) zero (suc q) a b d e f h = omega arith
further_back (x ∷ xs) (suc p) zero a b d e f h =
    let other = each_in (λ y. x ≢ y) xs a d.0 (in_at xs p a e) in
    absurd (each_in (λ y. x ≢ y) xs b d.0 (in_after a b xs (subst (In b) (after_there x a xs other) h)) (same_Some x b f))
further_back (x ∷ xs) (suc p) (suc q) a b d e f h =
    let other = each_in (λ y. x ≢ y) xs a d.0 (in_at xs p a e) in
    let l = further_back xs p q a b d.1 e f (subst (In b) (after_there x a xs other) h) in
    omega (arith, l)
