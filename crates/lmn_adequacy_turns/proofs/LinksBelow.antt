-- A number above the links of the atoms of some membranes.
use Rattle.std.proofs.Common.{ℕ, List, [], ◌∷◌, ◌≡◌, ◌+◌, ◌<◌, sym, ap, subst, ◌∙◌, inl, inr, arith}
use Rattle.lmn_store_heap.specs.Heap.{Heap, atoms_in}
use Rattle.lmn_congruence.specs.FreeLinks.{above_all, link_bound}
use Rattle.lmn_congruence.specs.Orders.{Among, at_head, further}
use Rattle.lmn_congruence.specs.Process.{Process}
use Rattle.lmn_congruence.specs.UpToOrder.{Reordered, r_unit, r_swap, r_regroup, r_beside, r_inside, r_same, r_back, r_chain}
use Rattle.lmn_adequacy.specs.Next.{links_at}
use Rattle.lmn_adequacy_heaps.specs.HeapRegions.{HeapReading, atoms_at}
use Rattle.lmn_base.specs.Lists.{In}

-- an element of a list is below the number above all of them
pub below_all : (ys : List ℕ) (y : ℕ) → Among y ys → y < above_all ys
below_all [] y a = elim a [ ]
below_all (z ∷ ys) y at_head = omega arith
below_all (z ∷ ys) y (further a) = let l = below_all ys y a in omega (arith, l)

-- a number above the links of the atoms of these membranes
abbrev pub links_limit : Heap → HeapReading → List ℕ → ℕ
links_limit h r [] = 0
links_limit h r (m ∷ ms) = above_all (links_at (atoms_at h r (atoms_in h m))) + links_limit h r ms

-- a link of an atom of one of these membranes is below
pub links_below : (h : Heap) (r : HeapReading) (ms : List ℕ) (x : ℕ) → In x ms → (y : ℕ) → Among y (links_at (atoms_at h r (atoms_in h x))) → y < links_limit h r ms
links_below h r [] x k y a = absurd k
links_below h r (m ∷ ms) x (inl e) y a =
    let l = below_all (links_at (atoms_at h r (atoms_in h m))) y (subst (λ z. Among y (links_at (atoms_at h r (atoms_in h z)))) (sym e) a) in
    omega (arith, l)
links_below h r (m ∷ ms) x (inr k) y a = let l = links_below h r ms x k y a in omega (arith, l)

-- the number above the links of a process is that of the process in another order
pub reordered_bound : {P Q : Process} → Reordered P Q → link_bound P ≡ link_bound Q
reordered_bound r_unit = omega arith
reordered_bound r_swap = omega arith
reordered_bound r_regroup = omega arith
reordered_bound (r_beside {Q = Q} d) = ap (λ n. n + link_bound Q) (reordered_bound d)
reordered_bound (r_inside d) = reordered_bound d
reordered_bound (r_same e) = ap link_bound e
reordered_bound (r_back d) = sym (reordered_bound d)
reordered_bound (r_chain d e) = reordered_bound d ∙ reordered_bound e
