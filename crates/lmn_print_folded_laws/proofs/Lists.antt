-- Elements of lists, and lists in which none stands twice.
use Rattle.std.proofs.Common.{◌⊎◌, inl, inr, List, [], ◌∷◌, ◌++◌}
use Rattle.lmn_congruence.specs.Orders.{Among, at_head, further, EachOnce}
use Rattle.lmn_congruence.proofs.Common.{among_apart}

-- two lists that share nothing and have nothing twice, joined, have nothing twice
pub all_different : {A : Type 0} (xs ys : List A) → EachOnce xs → EachOnce ys → ((a : A) → Among a xs → Among a ys → ⊥) → EachOnce (xs ++ ys)
all_different [] ys h k d = k
all_different (x ∷ xs) ys h k d = (λ i. go (among_apart xs ys i), all_different xs ys h.1 k (λ a i j. d a (further i) j))
  where
    go : Among x xs ⊎ Among x ys → ⊥
    go (inl i) = h.0 i
    go (inr i) = d x at_head i

-- Ways down a tree.
