-- Links and atoms of the solid, written one after the other.
use Rattle.std.proofs.Common.{ℕ, suc, ◌≡◌, ◌+◌, ◌-◌, ◌<◌, List, [], ◌∷◌, ◌++◌, map, sym, ap, ◌∙◌, arith}
use Rattle.std.proofs.lemmas.List.{append_assoc}
use Rattle.lmn_store_heap.specs.Solid.{links_from}

-- the links from one on: this one, and those from the next one on
links_next : (name : ℕ → ℕ → ℕ) (a i n : ℕ) → i < n → links_from name a i (n - i) ≡ name a i ∷ links_from name a (i + 1) (n - (i + 1))
links_next name a i n l = let e : n - i ≡ suc (n - (i + 1)) = omega (arith, l) in ap (links_from name a i) e

-- one link more is written
pub link_more : (f : ℕ → ℕ) (name : ℕ → ℕ → ℕ) (a i n old new : ℕ) (links links' all : List ℕ) → i < n → old ≡ name a i → new ≡ f old → links' ≡ links ++ new ∷ [] →
    links ++ map f (links_from name a i (n - i)) ≡ all → links' ++ map f (links_from name a (i + 1) (n - (i + 1))) ≡ all
link_more f name a i n old new links links' all l is to more e =
    let rest = map f (links_from name a (i + 1) (n - (i + 1))) in
    ap (λ z. z ++ rest) (more ∙ ap (λ z. links ++ z ∷ []) (to ∙ ap f is))
    ∙ append_assoc links (f (name a i) ∷ []) rest
    ∙ ap (λ z. links ++ map f z) (sym (links_next name a i n l))
    ∙ e
