-- Lists that match one by one in some order.
use Rattle.std.proofs.Common.{List, [], ◌∷◌, ◌++◌, sym, subst}
use Rattle.std.proofs.lemmas.List.{append-nil}
use Rattle.lmn_congruence.specs.Orders.{Put, here, there, Shuffle, none, more}

-- two puts, in the other order
pub record Two {A : Type 0} (y x : A) (xs zs : List A) : Type 0 where
  pub between : List A
  pub first : Put y xs between
  pub second : Put x between zs

-- two elements that were put in one after the other may be put in in the other order
pub put_first : {A : Type 0} {y : A} {ys zs : List A} → Put y ys zs → {x : A} {xs : List A} → Put x xs ys → Two y x xs zs
put_first (here {y = y}) {x} {xs} p = record { between = y ∷ xs; first = here; second = there p }
put_first (there {ys = ys} {zs = zs} q) here = record { between = zs; first = q; second = here }
put_first (there q) (there {z = z} p) = let t = put_first q p in record { between = z ∷ t.between; first = there t.first; second = there t.second }

-- what was put into a list was put into any longer one
pub put_back : {A : Type 0} {y : A} {ys zs : List A} → Put y ys zs → (xs : List A) → Put y (ys ++ xs) (zs ++ xs)
put_back here xs = here
put_back (there p) xs = there (put_back p xs)

-- an element between two lists was put into both joined
pub put_between : {A : Type 0} (y : A) (xs ys : List A) → Put y (xs ++ ys) (xs ++ y ∷ ys)
put_between y [] ys = here
put_between y (x ∷ xs) ys = there (put_between y xs ys)

-- lists that match, joined, match
pub shuffle_append : {A B : Type 0} {R : A → B → Type 0} {xs : List A} {ys : List B} → Shuffle R xs ys → {xs' : List A} {ys' : List B} → Shuffle R xs' ys' → Shuffle R (xs ++ xs') (ys ++ ys')
shuffle_append none t = t
shuffle_append (more r s p) {xs'} {ys'} t = more r (shuffle_append s t) (put_back p ys')

-- an element put in on both sides
pub shuffle_put : {A B : Type 0} {R : A → B → Type 0} {x : A} {y : B} → R x y → {xs xs' : List A} → Put x xs xs' → {ys ys' : List B} → Put y ys ys' → Shuffle R xs ys → Shuffle R xs' ys'
shuffle_put r here q s = more r s q
shuffle_put r (there p) q (more r' s q') = let t = put_first q q' in more r' (shuffle_put r p t.first s) t.second

-- what matches an element of the left list
pub record FoundRight {A B : Type 0} (R : A → B → Type 0) (x : A) (xs : List A) (ys : List B) : Type 0 where
  pub match : B
  pub rest : List B
  pub related : R x match
  pub put : Put match rest ys
  pub others : Shuffle R xs rest

-- each element of the left list has its match in the right one
pub find_right : {A B : Type 0} {R : A → B → Type 0} {x : A} {xs zs : List A} → Put x xs zs → (ys : List B) → Shuffle R zs ys → FoundRight R x xs ys
find_right here ys (more {y = y} {ys = ws} r s q) = record { match = y; rest = ws; related = r; put = q; others = s }
find_right (there p) ys (more {ys = ws} r s q) =
    let u = find_right p ws s in
    let t = put_first q u.put in
    record { match = u.match; rest = t.between; related = u.related; put = t.second; others = more r u.others t.first }

-- a match read from the right
pub shuffle_flip : {A B : Type 0} {R : A → B → Type 0} {xs : List A} {ys : List B} → Shuffle R xs ys → Shuffle (λ y x. R x y) ys xs
shuffle_flip none = none
shuffle_flip (more r s p) = shuffle_put r p here (shuffle_flip s)

-- a list matches itself
pub shuffle_same : {A : Type 0} {R : A → A → Type 0} → ((x : A) → R x x) → (xs : List A) → Shuffle R xs xs
shuffle_same h [] = none
shuffle_same h (x ∷ xs) = more (h x) (shuffle_same h xs) here

-- matches go on from one list to the next
pub shuffle_chain : {A B C : Type 0} {R : A → B → Type 0} {S : B → C → Type 0} {T : A → C → Type 0} → ((x : A) (y : B) (z : C) → R x y → S y z → T x z)
    → {xs : List A} {ys : List B} → Shuffle R xs ys → (zs : List C) → Shuffle S ys zs → Shuffle T xs zs
shuffle_chain h none zs none = none
shuffle_chain h (more {x = x} {y = y} r s p) zs t = let u = find_right p zs t in more (h x y u.match r u.related) (shuffle_chain h s u.rest u.others) u.put

-- two lists joined match the same in the other order
pub shuffle_swap : {A : Type 0} {R : A → A → Type 0} → ((x : A) → R x x) → (xs ys : List A) → Shuffle R (xs ++ ys) (ys ++ xs)
shuffle_swap h [] ys = subst (Shuffle _ ys) (sym (append-nil ys)) (shuffle_same h ys)
shuffle_swap h (x ∷ xs) ys = more (h x) (shuffle_swap h xs ys) (put_between x ys xs)

-- a match by one relation is one by a wider one
pub shuffle_map : {A B : Type 0} {R S : A → B → Type 0} → ((x : A) (y : B) → R x y → S x y) → {xs : List A} {ys : List B} → Shuffle R xs ys → Shuffle S xs ys
shuffle_map h none = none
shuffle_map h (more {x = x} {y = y} r s p) = more (h x y r) (shuffle_map h s) p
