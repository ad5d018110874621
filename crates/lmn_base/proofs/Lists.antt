-- General lemmas on lists, options and results.
use Rattle.lmn_base.specs.Lists.{In}
use Rattle.std.proofs.Common.{List, [], ℕ, ◌+◌, ◌∷◌, ◌≡◌, ◌⊎◌, None, Option, Some, ap, arith, length, refl, suc, take, zero, ◌≤◌, map, ◌++◌, ◌<◌, drop, ◌∙◌, Err, Ok, Result, sym, inl, inr, All, subst, AllPairs, get_or, ◌≢◌, false, true≢false}
use Rattle.std.proofs.lemmas.Bool.{cases_lt}
use Rattle.std.proofs.lemmas.List.{length-append, append_assoc, take_more, get_or-drop}
use Rattle.std.proofs.lemmas.List.Sums.{sum-map, sum_by-cons}
use Rattle.std.proofs.lemmas.Option.{same_Some}
use Rattle.std.proofs.lemmas.Slice.Eq.{bytes_eq-Decides}
use Rattle.std.specs.List.{AllByRecursion, flat_map}
use Rattle.std.specs.Prelude.{slice_get, IsSome, Contains, IfSome, slice_index_or, codes, bytes_eq, sum, slice_set}
use Rattle.std.specs.Result.{OnErr}

-- the sum of the weights of some numbers
abbrev pub weigh : (ℕ → ℕ) → List ℕ → ℕ
weigh w [] = 0
weigh w (x ∷ xs) = w x + weigh w xs

-- what a function gives of a value, or another where there is none
abbrev pub value_or : {A B : Type 0} → (A → B) → B → Option A → B
value_or f other None = other
value_or f other (Some a) = f a

-- as many are taken as are asked for, where there are so many
pub length_taken : (rs : List ℕ) (i : ℕ) → i ≤ length rs → length (take i rs) ≡ i
length_taken rs zero h = refl
length_taken [] (suc i) h = absurd (omega arith)
length_taken (r ∷ rs) (suc i) h = ap suc (length_taken rs i (omega arith))

-- what changes nothing leaves a list as it is
pub map_itself : (xs : List ℕ) → map (λ x. x) xs ≡ xs
map_itself [] = refl
map_itself (x ∷ xs) = ap (λ ys. x ∷ ys) (map_itself xs)

-- a list is itself with nothing added
pub nothing_added : (xs : List ℕ) → xs ≡ xs ++ []
nothing_added [] = refl
nothing_added (x ∷ xs) = ap (λ ys. x ∷ ys) (nothing_added xs)

-- lists that are the same, joined, are the same
pub joined_alike : {A : Type 0} {xs xs' ys ys' : List A} → xs ≡ xs' → ys ≡ ys' → xs ++ ys ≡ xs' ++ ys'
joined_alike e d = λ i. e i ++ d i

-- two ways that end alike have the same step before the end
pub same_step : (u v : List ℕ) (b c : ℕ) (way : List ℕ) → u ++ b ∷ way ≡ v ++ c ∷ way → b ≡ c
same_step [] [] b c way e = cc
same_step [] (x ∷ v) b c way e = absurd (let l = ap length e in omega (arith, l, length-append v (c ∷ way)))
same_step (x ∷ u) [] b c way e = absurd (let l = ap length e in omega (arith, l, length-append u (b ∷ way)))
same_step (x ∷ u) (y ∷ v) b c way e = let t : u ++ b ∷ way ≡ v ++ c ∷ way = cc in same_step u v b c way t

-- lists that are the same begin alike
pub head_is : {A : Type 0} {x y : A} {xs ys : List A} → x ∷ xs ≡ y ∷ ys → x ≡ y
head_is e = cc e

-- lists that are the same go on alike
pub tail_is : {A : Type 0} {x y : A} {xs ys : List A} → x ∷ xs ≡ y ∷ ys → xs ≡ ys
tail_is e = cc e

-- a list keeps its length when each number is changed
pub length_mapped : (f : ℕ → ℕ) (ys : List ℕ) → length (map f ys) ≡ length ys
length_mapped f [] = refl
length_mapped f (y ∷ ys) = ap suc (length_mapped f ys)

-- what stands in a list stands at the same place of a longer one
pub get_front : {A : Type 0} (xs ys : List A) (k : ℕ) (x : A) → slice_get xs k ≡ Some x → slice_get (xs ++ ys) k ≡ Some x
get_front [] ys k x e = absurd (cc)
get_front (z ∷ xs) ys zero x e = e
get_front (z ∷ xs) ys (suc k) x e = get_front xs ys k x e

-- a place where something stands is below the length
pub get_below : {A : Type 0} (xs : List A) (n : ℕ) (x : A) → slice_get xs n ≡ Some x → n < length xs
get_below [] n x e = absurd (cc)
get_below (y ∷ xs) zero x e = omega arith
get_below (y ∷ xs) (suc n) x e = let h = get_below xs n x e in omega arith

-- at each place below the length something stands
pub get_there : {A : Type 0} (xs : List A) (p : ℕ) → p < length xs → (x : A) × (slice_get xs p ≡ Some x)
get_there [] p l = absurd (omega (arith, l))
get_there (x ∷ xs) zero l = (x, refl)
get_there (x ∷ xs) (suc p) l = get_there xs p (omega (arith, l))

-- what is added behind stands at the old length
pub get_last : {A : Type 0} (xs : List A) (y : A) → slice_get (xs ++ y ∷ []) (length xs) ≡ Some y
get_last [] y = refl
get_last (x ∷ xs) y = get_last xs y

-- all of a list are the list
pub take_whole : {A : Type 0} (xs : List A) → take (length xs) xs ≡ xs
take_whole [] = refl
take_whole (x ∷ xs) = ap (λ k. x ∷ k) (take_whole xs)

-- a list with nothing added is itself
pub plus_nothing : {X : Type 0} → (xs : List X) → xs ++ [] ≡ xs
plus_nothing [] = refl
plus_nothing (x ∷ xs) = ap (λ l. x ∷ l) (plus_nothing xs)

-- where there is a value, it is one
pub some_is : {A : Type 0} (o : Option A) → IsSome o → (p : A) × (o ≡ Some p)
some_is None s = absurd (cc)
some_is (Some p) s = (p, refl)

-- what is none is not there
pub none_is_not : {A : Type 0} (o : Option A) → o ≡ None → IsSome o → ⊥
none_is_not o e i = absurd (cc (e, i))

-- what is left from a place on begins with what stands there
pub drop_get : {A : Type 0} (k : ℕ) (xs : List A) (x : A) → slice_get xs k ≡ Some x → drop k xs ≡ x ∷ drop (k + 1) xs
drop_get k [] x e = absurd (cc)
drop_get zero (y ∷ xs) x e = let t : y ≡ x = cc in ap (λ w. w ∷ xs) t
drop_get (suc k) (y ∷ xs) x e = let t : suc (k + 1) ≡ suc k + 1 = omega arith in drop_get k xs x e ∙ ap (λ n. x ∷ drop n (y ∷ xs)) t

-- what a list contains a longer one contains
pub contains_behind : {X : Type 0} (x : X) (xs : List X) (y : X) → Contains xs y → Contains (x ∷ xs) y
contains_behind x xs y (k, within, e) = (suc k, omega (arith, within), e)

-- a list contains its first
pub contains_first : {X : Type 0} (x : X) (xs : List X) → Contains (x ∷ xs) x
contains_first x xs = (0, omega arith, refl)

-- what holds of all of two lists holds of all of the first
pub all_left : {A : Type 0} (P : A → Type 0) (xs ys : List A) → AllByRecursion P (xs ++ ys) → AllByRecursion P xs
all_left P [] ys a = tt
all_left P (x ∷ xs) ys a = (a.0, all_left P xs ys a.1)

-- and of all of the second
pub all_right : {X : Type 0} (P : X → Type 0) (xs ys : List X) → AllByRecursion P (xs ++ ys) → AllByRecursion P ys
all_right P [] ys h = h
all_right P (x ∷ xs) ys h = all_right P xs ys h.1

-- what holds of all of two lists holds of both joined
pub all_append : {X : Type 0} (P : X → Type 0) (xs ys : List X) → AllByRecursion P xs → AllByRecursion P ys → AllByRecursion P (xs ++ ys)
all_append P [] ys h k = k
all_append P (x ∷ xs) ys h k = (h.0, all_append P xs ys h.1 k)

-- what holds anyway holds of an error too
pub on_err : {T E : Type 0} (r : Result T E) (Q : Type 0) → Q → OnErr r Q
on_err (Ok x) Q q = tt
on_err (Err e) Q q = q

-- two lists joined and changed are each changed and joined
pub map_append : {A B : Type 0} (f : A → B) (xs ys : List A) → map f (xs ++ ys) ≡ map f xs ++ map f ys
map_append f [] ys = refl
map_append f (x ∷ xs) ys = ap (λ zs. f x ∷ zs) (map_append f xs ys)

-- two changes of a list are one
pub map_twice : {A B C : Type 0} (f : B → C) (g : A → B) (xs : List A) → map f (map g xs) ≡ map (λ x. f (g x)) xs
map_twice f g [] = refl
map_twice f g (x ∷ xs) = ap (λ ys. f (g x) ∷ ys) (map_twice f g xs)

-- lists that were changed alike, joined, are the joined ones changed
pub join_maps : (f : ℕ → ℕ) (xs ys : List ℕ) {xs' ys' : List ℕ} → xs' ≡ map f xs → ys' ≡ map f ys → xs' ++ ys' ≡ map f (xs ++ ys)
join_maps f xs ys e d = cc (e, d) ∙ sym (map_append f xs ys)

-- the weight of two lists in a row
pub weigh_append : (w : ℕ → ℕ) (xs ys : List ℕ) → weigh w (xs ++ ys) ≡ weigh w xs + weigh w ys
weigh_append w [] ys = omega arith
weigh_append w (x ∷ xs) ys = omega (arith, weigh_append w xs ys)

-- a number of two lists joined stands in one of them
pub in_either : (x : ℕ) (xs ys : List ℕ) → In x (xs ++ ys) → In x xs ⊎ In x ys
in_either x [] ys h = inr h
in_either x (y ∷ xs) ys (inl e) = inl (inl e)
in_either x (y ∷ xs) ys (inr h) = go (in_either x xs ys h)
  where
    go : In x xs ⊎ In x ys → In x (y ∷ xs) ⊎ In x ys
    go (inl i) = inl (inr i)
    go (inr i) = inr i

-- what stands in a list with one more element
pub get_either : {A : Type 0} (xs : List A) (y : A) (k : ℕ) (x : A) → slice_get (xs ++ y ∷ []) k ≡ Some x → (slice_get xs k ≡ Some x) ⊎ ((k ≡ length xs) × (y ≡ x))
get_either [] y zero x e = inr (refl, cc)
get_either [] y (suc k) x e = absurd (cc)
get_either (z ∷ xs) y zero x e = inl e
get_either (z ∷ xs) y (suc k) x e = elim (get_either xs y k x e) [ inl s ↦ inl s | inr s ↦ inr (ap suc s.0, s.1) ]

-- what is in a list with one more element
pub in_snoc : (a b : ℕ) (xs : List ℕ) → In a (xs ++ b ∷ []) → In a xs ⊎ (a ≡ b)
in_snoc a b [] (inl e) = inr (sym e)
in_snoc a b [] (inr i) = absurd i
in_snoc a b (x ∷ xs) (inl e) = inl (inl e)
in_snoc a b (x ∷ xs) (inr i) = elim (in_snoc a b xs i) [ inl j ↦ inl (inr j) | inr e ↦ inr e ]

-- an image stands at the same index
pub get_map : (f : ℕ → ℕ) (ys : List ℕ) (i x : ℕ) → slice_get ys i ≡ Some x → slice_get (map f ys) i ≡ Some (f x)
get_map f [] i x e = absurd (cc)
get_map f (y ∷ ys) zero x e = ap Some (ap f (same_Some y x e))
get_map f (y ∷ ys) (suc i) x e = get_map f ys i x e

-- what stands in the front of a list stands there in the whole
pub get_taken : {A : Type 0} (n : ℕ) (xs : List A) (k : ℕ) (x : A) → slice_get (take n xs) k ≡ Some x → (k < n) × (slice_get xs k ≡ Some x)
get_taken zero xs k x e = absurd (cc)
get_taken (suc n) [] k x e = absurd (cc)
get_taken (suc n) (y ∷ ys) zero x e = (omega arith, e)
get_taken (suc n) (y ∷ ys) (suc k) x e = let s = get_taken n ys k x e in (omega (arith, s.0), s.1)

-- what holds of each element of two lists in a row holds of those of each
pub all_of_left : {A : Type 0} (P : A → Type 0) (xs ys : List A) → All P (xs ++ ys) → All P xs
all_of_left P [] ys h k d l = absurd (omega (arith, l))
all_of_left P (x ∷ xs) ys h zero d l = h zero d (omega arith)
all_of_left P (x ∷ xs) ys h (suc k) d l = all_of_left P xs ys (λ j e m. h (suc j) e (omega (arith, m))) k d (omega (arith, l))

-- what holds of all of two lists holds of all of the second, by places
pub all_of_right : {A : Type 0} (P : A → Type 0) (xs ys : List A) → All P (xs ++ ys) → All P ys
all_of_right P [] ys h = h
all_of_right P (x ∷ xs) ys h = all_of_right P xs ys (λ j e m. h (suc j) e (omega (arith, m)))

-- and of those of many lists in a row
pub all_of_parts : {A B : Type 0} (P : B → Type 0) (f : A → List B) (xs : List A) → All P (flat_map f xs) → All (λ x. All P (f x)) xs
all_of_parts P f [] h k d l = absurd (omega (arith, l))
all_of_parts P f (x ∷ xs) h zero d l = all_of_left P (f x) (flat_map f xs) h
all_of_parts P f (x ∷ xs) h (suc k) d l = all_of_parts P f xs (all_of_right P (f x) (flat_map f xs) h) k d (omega (arith, l))

-- a list with one more is not empty
pub never_nil : (xs : List ℕ) (x : ℕ) → [] ≡ xs ++ x ∷ [] → ⊥
never_nil [] x e = cc
never_nil (y ∷ xs) x e = cc

-- a list ends in one way
pub ends_in_one_way : (xs ys : List ℕ) (x y : ℕ) → xs ++ x ∷ [] ≡ ys ++ y ∷ [] → (xs ≡ ys) × (x ≡ y)
ends_in_one_way [] [] x y e = (refl, head_is e)
ends_in_one_way [] (z ∷ ys) x y e = absurd (never_nil ys y (tail_is e))
ends_in_one_way (z ∷ xs) [] x y e = absurd (never_nil xs x (sym (tail_is e)))
ends_in_one_way (z ∷ xs) (w ∷ ys) x y e = let more = ends_in_one_way xs ys x y (tail_is e) in ((λ i. head_is e i ∷ more.0 i), more.1)

-- no list stands behind something in itself
pub not_behind_itself : (v : List ℕ) (c : ℕ) (way : List ℕ) → way ≡ v ++ c ∷ way → ⊥
not_behind_itself v c way e = let size = length-append v (c ∷ way) in let same = ap length e in omega (arith, size, same)

-- an empty list contains nothing
pub contains_none : {X : Type 0} (x : X) → Contains [] x → ⊥
contains_none x c = absurd (omega (arith, c.1))

-- what holds of the item of an option
pub holds_of_item : {A : Type 0} (P : A → Type 0) (o : Option A) (a : A) → o ≡ Some a → IfSome o P → P a
holds_of_item P o a e h = subst (λ x. IfSome x P) e h

-- where two lists make nothing, each is empty
pub two_empty : {A : Type 0} (xs ys : List A) → xs ++ ys ≡ [] → (xs ≡ []) × (ys ≡ [])
two_empty [] ys e = (refl, e)
two_empty (x ∷ xs) ys e = absurd (cc)

-- names of which no two are alike stand at one place each
pub one_number : (names : List (List ℕ)) → AllPairs (λ m n. m ≢ n) names → (m n : ℕ) → m < length names → n < length names → get_or names m [] ≡ get_or names n [] → m ≡ n
one_number names once m n a b e = by (cases_lt m n) (cases_lt n m)
  where
    by : (m < n) ⊎ (n ≤ m) → (n < m) ⊎ (m ≤ n) → m ≡ n
    by (inl l) s = absurd (once m n [] l b e)
    by (inr h) (inl l) = absurd (once n m [] l a (sym e))
    by (inr h) (inr k) = omega (arith, h, k)

-- what is there at a place stands within the list
pub link_within : (xs : List (Option (ℕ × ℕ))) (i : ℕ) (q : ℕ × ℕ) → slice_index_or xs i None ≡ Some q → i < length xs
link_within [] i q e = absurd (cc)
link_within (x ∷ xs) zero q e = omega arith
link_within (x ∷ xs) (suc i) q e = let k = link_within xs i q e in omega (arith, k)

-- a line with its feed, and what follows it
pub behind_feed : (x a r : List ℕ) → x ++ codes "\n" ≡ a → a ++ r ≡ x ++ 10 ∷ r
behind_feed x a r e = ap (λ t. t ++ r) (sym e) ∙ append_assoc x (codes "\n") r

-- bytes that a test finds different are different
pub unlike : (a b : List ℕ) → bytes_eq a b ≡ false → a ≡ b → ⊥
unlike a b d e = true≢false (sym ((bytes_eq-Decides a b).1 e) ∙ d)

-- what was put at the end stands at the end
pub get_end : (xs : List ℕ) (y : ℕ) → slice_get (xs ++ y ∷ []) (length xs) ≡ Some y
get_end [] y = refl
get_end (x ∷ xs) y = get_end xs y

-- what stands at a place within a list, read either way
pub get_index : (xs : List ℕ) (i : ℕ) → i < length xs → slice_get xs i ≡ Some (slice_index_or xs i 0)
get_index [] i l = absurd (omega (arith, l))
get_index (x ∷ xs) zero l = refl
get_index (x ∷ xs) (suc i) l = get_index xs i (omega (arith, l))

-- two different numbers aren't both there
pub some_in : (p : Option ℕ) (u z : ℕ) → p ≡ Some u → z ≢ u → p ≢ Some z
some_in p u z e differs same = differs (let h : Some z ≡ Some u = sym same ∙ e in cc)

-- lists that are equal with one more at the end are equal, and so are the ones at the end
pub last_one : {A : Type 0} (xs ys : List A) (x y : A) → xs ++ x ∷ [] ≡ ys ++ y ∷ [] → (xs ≡ ys) × (x ≡ y)
last_one [] [] x y e = (refl, cc)
last_one [] (b ∷ ys) x y e = let long = ap length e in let more = length-append ys (y ∷ []) in absurd (omega (arith, long, more))
last_one (a ∷ xs) [] x y e = let long = ap length e in let more = length-append xs (x ∷ []) in absurd (omega (arith, long, more))
last_one (a ∷ xs) (b ∷ ys) x y e =
    let head : a ≡ b = cc in
    let rest : xs ++ x ∷ [] ≡ ys ++ y ∷ [] = cc in
    let u = last_one xs ys x y rest in
    (both head u.0, u.1)
  where
    both : {A : Type 0} {a b : A} {xs ys : List A} → a ≡ b → xs ≡ ys → a ∷ xs ≡ b ∷ ys
    both d f = cc

-- within a list what would be read beyond it doesn't matter
pub read_as : {X : Type 0} (xs : List X) (i : ℕ) (d e : X) → i < length xs → get_or xs i d ≡ get_or xs i e
read_as [] i d e h = absurd (omega arith)
read_as (x ∷ xs) zero d e h = refl
read_as (x ∷ xs) (suc i) d e h = read_as xs i d e (omega arith)

-- what was set is read back
pub get_set : {A : Type 0} (xs : List A) (k : ℕ) (x : A) → k < length xs → slice_get (slice_set xs k x) k ≡ Some x
get_set [] k x l = absurd (omega (arith, l))
get_set (y ∷ xs) zero x l = refl
get_set (y ∷ xs) (suc k) x l = get_set xs k x (omega (arith, l))

-- and every other place keeps what stands there
pub get_set_away : {A : Type 0} (xs : List A) (k : ℕ) (x : A) (j : ℕ) → j ≢ k → slice_get (slice_set xs k x) j ≡ slice_get xs j
get_set_away [] k x j d = refl
get_set_away (y ∷ xs) zero x zero d = absurd (d refl)
get_set_away (y ∷ xs) zero x (suc j) d = refl
get_set_away (y ∷ xs) (suc k) x zero d = refl
get_set_away (y ∷ xs) (suc k) x (suc j) d = get_set_away xs k x j (λ e. d (ap suc e))

-- one more of a list is taken
pub one_more : {X : Type 0} (xs : List X) (i : ℕ) (x : X) → i < length xs → x ≡ get_or xs i x → take i xs ++ x ∷ [] ≡ take (i + 1) xs
one_more xs i x l e = ap (λ y. take i xs ++ y ∷ []) e ∙ sym (take_more xs i x l)

-- what follows from what holds of an option holds of it
pub weaker : {X : Type 0} (o : Option X) (P Q : X → Type 0) → ((x : X) → P x → Q x) → IfSome o P → IfSome o Q
weaker None P Q h p = tt
weaker (Some x) P Q h p = h x p

-- lists that are alike from a place on have one thing at it
pub same_behind : {A : Type 0} (i : ℕ) (xs ys : List A) (d : A) → drop i ys ≡ drop i xs → get_or ys i d ≡ get_or xs i d
same_behind i xs ys d e = sym (at_zero ys) ∙ ap (λ l. get_or l 0 d) e ∙ at_zero xs
  where
    at_zero : (l : List _) → get_or (drop i l) 0 d ≡ get_or l i d
    at_zero l = let k : i + 0 ≡ i = omega arith in get_or-drop i l 0 d ∙ ap (λ n. get_or l n d) k

-- the sum over a list with one more in front
pub sum_cons : {X : Type 0} (f : X → ℕ) (x : X) (xs : List X) → sum (map f (x ∷ xs)) ≡ f x + sum (map f xs)
sum_cons f x xs = sum-map f (x ∷ xs) ∙ sum_by-cons f x xs ∙ ap (λ n. f x + n) (sym (sum-map f xs))

pub read_or : (xs : List ℕ) (n a : ℕ) → slice_get xs n ≡ Some a → slice_index_or xs n 0 ≡ a
read_or [] n a e = absurd (cc)
read_or (x ∷ xs) zero a e = same_Some _ _ e
read_or (x ∷ xs) (suc n) a e = read_or xs n a e

pub take_slice : {A : Type 0} (n : ℕ) (xs : List A) (k : ℕ) (x : A) → k < n → slice_get xs k ≡ Some x → slice_get (take n xs) k ≡ Some x
take_slice zero xs k x l e = absurd (omega arith)
take_slice (suc n) [] k x l e = e
take_slice (suc n) (y ∷ ys) zero x l e = e
take_slice (suc n) (y ∷ ys) (suc k) x l e = take_slice n ys k x (omega arith) e
