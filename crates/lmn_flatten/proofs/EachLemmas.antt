-- Lists that agree place by place.
use Rattle.std.specs.List.{AllZip}
use Rattle.std.proofs.Common.{◌≡◌, ℕ, zero, suc, List, [], ◌∷◌, ◌++◌, map, length, slice_get, Some, refl, ap, subst}
use Rattle.std.proofs.lemmas.Option.{same_Some}

-- what holds pair by pair of two lists holds of both joined
pub each_append : {A B : Type 0} (R : A → B → Type 0) (xs ys : List A) (us vs : List B) → AllZip R xs us → AllZip R ys vs → AllZip R (xs ++ ys) (us ++ vs)
each_append R [] ys [] vs h k = k
each_append R [] ys (u ∷ us) vs h k = absurd h
each_append R (x ∷ xs) ys [] vs h k = absurd h
each_append R (x ∷ xs) ys (u ∷ us) vs h k = (h.0, each_append R xs ys us vs h.1 k)

-- what holds pair by pair holds by a wider relation
pub each_by : {A B : Type 0} (R S : A → B → Type 0) → ((x : A) (u : B) → R x u → S x u) → (xs : List A) (us : List B) → AllZip R xs us → AllZip S xs us
each_by R S f [] [] h = tt
each_by R S f [] (u ∷ us) h = absurd h
each_by R S f (x ∷ xs) [] h = absurd h
each_by R S f (x ∷ xs) (u ∷ us) h = (f x u h.0, each_by R S f xs us h.1)

-- the same, where both lists are mapped
pub each_map : {A B C D : Type 0} (R : A → B → Type 0) (S : C → D → Type 0) (f : A → C) (g : B → D) → ((x : A) (u : B) → R x u → S (f x) (g u))
    → (xs : List A) (us : List B) → AllZip R xs us → AllZip S (map f xs) (map g us)
each_map R S f g h [] [] e = tt
each_map R S f g h [] (u ∷ us) e = absurd e
each_map R S f g h (x ∷ xs) [] e = absurd e
each_map R S f g h (x ∷ xs) (u ∷ us) e = (h x u e.0, each_map R S f g h xs us e.1)

-- lists that are related pair by pair are as long
pub each_length : {A B : Type 0} (R : A → B → Type 0) (xs : List A) (us : List B) → AllZip R xs us → length us ≡ length xs
each_length R [] [] h = refl
each_length R [] (u ∷ us) h = absurd h
each_length R (x ∷ xs) [] h = absurd h
each_length R (x ∷ xs) (u ∷ us) h = ap suc (each_length R xs us h.1)

-- what holds pair by pair holds of one pair
pub each_at : {A B : Type 0} (R : A → B → Type 0) (xs : List A) (us : List B) (i : ℕ) (x : A) (u : B) → AllZip R xs us → slice_get xs i ≡ Some x
    → slice_get us i ≡ Some u → R x u
each_at R [] us i x u h e g = absurd (cc)
each_at R (y ∷ xs) [] i x u h e g = absurd h
each_at R (y ∷ xs) (v ∷ us) zero x u h e g = subst (λ z. R z u) (same_Some y x e) (subst (R y) (same_Some v u g) h.0)
each_at R (y ∷ xs) (v ∷ us) (suc i) x u h e g = each_at R xs us i x u h.1 e g
