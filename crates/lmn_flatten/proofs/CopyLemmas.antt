-- The copy of what a head keeps.
use Rattle.std.proofs.Common.{◌≡◌, ℕ, zero, suc, ◌+◌, ◌<◌, ◌≤◌, ◌⊎◌, inl, inr, Bool, true, false, ◌==◌, if◌then◌else◌, List, [], ◌∷◌, ◌++◌, map, length, take, get_or, slice_get, slice_index_or, Some, All, refl, sym, ap, ◌∙◌, subst, arith}
use Rattle.std.specs.Prelude.{min, Result, Ok, Err, IfOk, OnOk}
use Rattle.std.specs.List.{flat_map, AllZip}
use Rattle.std.proofs.Math.Nat.{min-eq_left, min-eq_right}
use Rattle.std.proofs.lemmas.Bool.{cases_lt, eq-eqb, eqb-true}
use Rattle.std.proofs.lemmas.List.{append_assoc, append-nil, length-append, map-append, take_all, take_more}
use Rattle.std.proofs.lemmas.List.Recursion.{is_count_by}
use Rattle.std.proofs.lemmas.Option.{same_Some, slice_get_within}
use Rattle.lmn_base.specs.declared.level.Leaf as base
use Rattle.lmn_base.specs.declared.level.Level as base_level
use Rattle.lmn_base.specs.declared.level.Level.{out-Level}
use Rattle.lmn_base.specs.declared.memory.NoMemory.{NoMemory}
use Rattle.lmn_base.specs.declared.level.Occ.{Occ}
use Rattle.lmn_base.specs.Levels.{occurrences_of_leaf, leaves_of, links_of, links_of_leaves}
use Rattle.lmn_base_walks.proofs.ItemLemmas.{leaves_apart}
use Rattle.lmn_congruence.specs.Rules.{Name}
use Rattle.lmn_flatten_numbers.specs.Renumbered.{renumbered, renumbered_leaf}
use Rattle.lmn_flatten_plain.specs.Expanded as expanded
use Rattle.lmn_flatten_plain.specs.Expanded.{expanded_levels, renamed_level, renamed_leaf}
use Rattle.lmn_flatten_plain.specs.Parts.{Parts, level_from_parts}
use Rattle.lmn_flatten_plain.specs.Keys.{IsLinkIn, link_index, IsKey}
use Rattle.lmn_flatten_plain.specs.Links.{Link, same_link, times_among, written, fresh, freshened}
use Rattle.lmn_flatten_plain.proofs.SomeNumbers.{index_below, index_one, link_same, link_itself}
use Rattle.lmn_flatten.specs.Built.{IsLeaf, IsLevel, IsPartOfLevel}
use Rattle.lmn_flatten.specs.Glossaries.{Reading}
use Rattle.lmn_flatten.specs.Scopes.{IsScope}
use Rattle.lmn_flatten.specs.declared.part.Part.{Part}
use Rattle.lmn_flatten.specs.declared.scope.Scope.{Scope}
use Rattle.lmn_flatten.proofs.BuiltLemmas.{leaves_links_by, links_in_by, levels_each, renamed_by, renamed_leaves_by, renumbered_by, renumbered_leaves_by}
use Rattle.lmn_flatten.proofs.EachLemmas.{each_append, each_map}
use Rattle.lmn_flatten.proofs.GrowingLemmas.{in_either, key_more}
use Rattle.lmn_flatten.proofs.ScopeLemmas.{key_new, scope_new}
use Rattle.lmn_flatten.specs.Copies.{Copies, CountsPlaces, Freshens, IsFreshOrSame, NoneFresh, links_of_leaf, links_of_levels, new_link, often}
use Rattle.lmn_base.proofs.Truth.{test_same as same_test}

min_is : (a b : ℕ) → ((min a b ≡ a) × (a ≤ b)) ⊎ ((min a b ≡ b) × (b ≤ a))
min_is a b = elim (cases_lt a b) [
  | inl l ↦ inl (min-eq_left (omega (arith, l)), omega (arith, l))
  | inr l ↦ inr (min-eq_right l, l)
]

min_again : (a b : ℕ) → min 3 (min 3 a + b) ≡ min 3 (a + b)
min_again a b = by (min_is 3 a) (min_is 3 (min 3 a + b)) (min_is 3 (a + b))
  where
    by : ((min 3 a ≡ 3) × (3 ≤ a)) ⊎ ((min 3 a ≡ a) × (a ≤ 3)) → ((min 3 (min 3 a + b) ≡ 3) × (3 ≤ min 3 a + b)) ⊎ ((min 3 (min 3 a + b) ≡ min 3 a + b) × (min 3 a + b ≤ 3))
        → ((min 3 (a + b) ≡ 3) × (3 ≤ a + b)) ⊎ ((min 3 (a + b) ≡ a + b) × (a + b ≤ 3)) → min 3 (min 3 a + b) ≡ min 3 (a + b)
    by (inl x) (inl y) (inl z) = y.0 ∙ sym z.0
    by (inl x) (inl y) (inr z) = omega (arith, x.0, x.1, y.0, y.1, z.0, z.1)
    by (inl x) (inr y) (inl z) = omega (arith, x.0, x.1, y.0, y.1, z.0, z.1)
    by (inl x) (inr y) (inr z) = omega (arith, x.0, x.1, y.0, y.1, z.0, z.1)
    by (inr x) (inl y) (inl z) = y.0 ∙ sym z.0
    by (inr x) (inl y) (inr z) = omega (arith, x.0, x.1, y.0, y.1, z.0, z.1)
    by (inr x) (inr y) (inl z) = omega (arith, x.0, x.1, y.0, y.1, z.0, z.1)
    by (inr x) (inr y) (inr z) = omega (arith, x.0, x.1, y.0, y.1, z.0, z.1)

min_small : (a : ℕ) → min 3 a ≤ 3
min_small a = elim (min_is 3 a) [
  | inl x ↦ omega (arith, x.0)
  | inr x ↦ omega (arith, x.0, x.1)
]

-- a count by recursion
abbrev count : ℕ → List ℕ → ℕ
count x [] = 0
count x (y ∷ ys) = if x == y then 1 + count x ys else count x ys

often_is : (x : ℕ) (xs : List ℕ) → count x xs ≡ often x xs
often_is x xs = is_count_by (count x) (λ y. x == y) refl (λ y ys. refl) xs

count_append : (x : ℕ) (xs ys : List ℕ) → count x (xs ++ ys) ≡ count x xs + count x ys
count_append x [] ys = omega arith
count_append x (y ∷ xs) ys = by (x == y) (count_append x xs ys)
  where
    by : (t : Bool) → count x (xs ++ ys) ≡ count x xs + count x ys
        → (if t then 1 + count x (xs ++ ys) else count x (xs ++ ys)) ≡ (if t then 1 + count x xs else count x xs) + count x ys
    by true e = omega (arith, e)
    by false e = e

often_append : (x : ℕ) (xs ys : List ℕ) → often x (xs ++ ys) ≡ often x xs + often x ys
often_append x xs ys = omega (arith, count_append x xs ys, often_is x (xs ++ ys), often_is x xs, often_is x ys)

-- no links counted leave the counts as they were
pub counts_none : (a : List ℕ) → CountsPlaces [] a a
counts_none a = record {
  size = refl;
  counted = λ x n h l. h ∙ ap Some (none x n l);
}
  where
    none : (x n : ℕ) → n ≤ 3 → n ≡ min 3 (n + often x [])
    none x n l = elim (min_is 3 (n + often x [])) [
      | inl y ↦ omega (arith, y.0, y.1, l, often_is x [])
      | inr y ↦ omega (arith, y.0, y.1, l, often_is x [])
    ]

-- links counted and then others are both counted
pub counts_both : (xs ys a b c : List ℕ) → CountsPlaces xs a b → CountsPlaces ys b c → CountsPlaces (xs ++ ys) a c
counts_both xs ys a b c h k = record {
  size = k.size ∙ h.size;
  counted = λ x n e l. k.counted x (min 3 (n + often x xs)) (h.counted x n e l) (min_small (n + often x xs)) ∙ ap Some (again x n);
}
  where
    again : (x n : ℕ) → min 3 (min 3 (n + often x xs) + often x ys) ≡ min 3 (n + often x (xs ++ ys))
    again x n =
        let e : (n + often x xs) + often x ys ≡ n + often x (xs ++ ys) = omega (arith, often_append x xs ys) in
        min_again (n + often x xs) (often x ys) ∙ ap (min 3) e

counts_as : (xs ys a b : List ℕ) → xs ≡ ys → CountsPlaces xs a b → CountsPlaces ys a b
counts_as xs ys a b e h = let P : List ℕ → Type 0 = λ zs. CountsPlaces zs a b in subst P e h

flat_map_last : {A B : Type 0} (f : A → List B) (xs : List A) (x : A) → flat_map f (xs ++ x ∷ []) ≡ flat_map f xs ++ f x
flat_map_last f [] x = append-nil (f x)
flat_map_last f (y ∷ xs) x = ap (λ z. f y ++ z) (flat_map_last f xs x) ∙ sym (append_assoc (f y) (flat_map f xs) (f x))

-- one more is taken
pub taken : {A : Type 0} (xs : List A) (i : ℕ) (d x : A) → i < length xs → x ≡ get_or xs i d → take (i + 1) xs ≡ take i xs ++ x ∷ []
taken xs i d x l e = take_more xs i d l ∙ ap (λ y. take i xs ++ y ∷ []) (sym e)

-- the link of one more place is counted
pub counts_link : (os : List Occ) (i : ℕ) (d x : Occ) (a b c : List ℕ) → i < length os → x ≡ get_or os i d → CountsPlaces (map (λ (o : Occ). o.link) (take i os)) a b
    → CountsPlaces (x.link ∷ []) b c → CountsPlaces (map (λ (o : Occ). o.link) (take (i + 1) os)) a c
counts_link os i d x a b c l e h k =
    counts_as _ _ a c (sym (map-append (λ (o : Occ). o.link) (take i os) (x ∷ [])) ∙ ap (map (λ (o : Occ). o.link)) (sym (taken os i d x l e)))
    (counts_both (map (λ (o : Occ). o.link) (take i os)) (x.link ∷ []) a b c h k)

-- and those of one more leaf
pub counts_leaf : (ls : List base.Leaf) (i : ℕ) (d x : base.Leaf) (a b c : List ℕ) → i < length ls → x ≡ get_or ls i d → CountsPlaces (links_of_leaves (take i ls)) a b
    → CountsPlaces (links_of_leaf x) b c → CountsPlaces (links_of_leaves (take (i + 1) ls)) a c
counts_leaf ls i d x a b c l e h k =
    let f : base.Leaf → List Occ = occurrences_of_leaf in
    counts_as _ _ a c (sym (map-append (λ (o : Occ). o.link) (flat_map f (take i ls)) (f x)) ∙ ap (map (λ (o : Occ). o.link)) (sym (flat_map_last f (take i ls) x))
    ∙ ap links_of_leaves (sym (taken ls i d x l e)))
    (counts_both (links_of_leaves (take i ls)) (links_of_leaf x) a b c h k)

-- and of one more level
pub counts_level : (ls : List base_level.Level) (i : ℕ) (d x : base_level.Level) (a b c : List ℕ) → i < length ls → x ≡ get_or ls i d → CountsPlaces (links_of_levels (take i ls)) a b
    → CountsPlaces (links_of x) b c → CountsPlaces (links_of_levels (take (i + 1) ls)) a c
counts_level ls i d x a b c l e h k =
    counts_as _ _ a c (sym (flat_map_last links_of (take i ls) x) ∙ ap links_of_levels (sym (taken ls i d x l e)))
    (counts_both (links_of_levels (take i ls)) (links_of x) a b c h k)

-- ---- how often a link and its key stand

abbrev occurs : Link → List Link → ℕ
occurs a [] = 0
occurs a (b ∷ bs) = if same_link a b then 1 + occurs a bs else occurs a bs

times_is : (a : Link) (bs : List Link) → occurs a bs ≡ times_among a bs
times_is a bs = is_count_by (occurs a) (same_link a) refl (λ b bs. refl) bs

test_is : (keys : List Link) (a b : Link) (x y : ℕ) → IsKey keys a x → IsKey keys b y → same_link a b ≡ (x == y)
test_is keys a b x y h k = same_test (same_link a b) (x == y)
    (λ e. eq-eqb x y (sym h.1 ∙ ap (λ c. link_index c keys) (link_same a b e) ∙ k.1))
    (λ e. ap (same_link a) (sym (index_one a b keys h.0 k.0 (h.1 ∙ eqb-true x y e ∙ sym k.1))) ∙ link_itself a)

counts_agree : (keys : List Link) (a : Link) (x : ℕ) → IsKey keys a x → (bs : List Link) (ys : List ℕ) → AllZip (IsKey keys) bs ys → occurs a bs ≡ count x ys
counts_agree keys a x h [] [] e = refl
counts_agree keys a x h [] (y ∷ ys) e = absurd e
counts_agree keys a x h (b ∷ bs) [] e = absurd e
counts_agree keys a x h (b ∷ bs) (y ∷ ys) e =
    ap (λ t. if t then 1 + occurs a bs else occurs a bs) (test_is keys a b x y h e.0)
    ∙ ap (λ n. if x == y then 1 + n else n) (counts_agree keys a x h bs ys e.1)

-- a link stands as often as its number is counted
pub times_often : (keys : List Link) (a : Link) (x : ℕ) (bs : List Link) (ys : List ℕ) → IsKey keys a x → AllZip (IsKey keys) bs ys → times_among a bs ≡ often x ys
times_often keys a x bs ys h e = sym (times_is a bs) ∙ counts_agree keys a x h bs ys e ∙ often_is x ys

-- two of a count that stops at 3
pub two_of : (m : ℕ) → (min 3 (0 + m) == 2) ≡ (m == 2)
two_of m = same_test (min 3 (0 + m) == 2) (m == 2)
    (λ e. eq-eqb m 2 (elim (min_is 3 (0 + m)) [
      | inl x ↦ omega (arith, eqb-true (min 3 (0 + m)) 2 e, x.0)
      | inr x ↦ omega (arith, eqb-true (min 3 (0 + m)) 2 e, x.0)
    ]))
    (λ e. eq-eqb (min 3 (0 + m)) 2 (elim (min_is 3 (0 + m)) [
      | inl x ↦ omega (arith, eqb-true m 2 e, x.0, x.1)
      | inr x ↦ omega (arith, eqb-true m 2 e, x.0)
    ]))

-- ---- counts of whole lists

-- with all places all are counted
pub counts_all : (os : List Occ) (i : ℕ) (a b : List ℕ) → length os ≤ i → CountsPlaces (map (λ (o : Occ). o.link) (take i os)) a b → CountsPlaces (map (λ (o : Occ). o.link) os) a b
counts_all os i a b l h = counts_as _ _ a b (ap (map (λ (o : Occ). o.link)) (take_all i os l)) h

links_append : (xs ys : List base.Leaf) → links_of_leaves (xs ++ ys) ≡ links_of_leaves xs ++ links_of_leaves ys
links_append [] ys = refl
links_append (x ∷ xs) ys =
    map-append (λ (o : Occ). o.link) (occurrences_of_leaf x) (flat_map occurrences_of_leaf (xs ++ ys))
    ∙ ap (λ zs. links_of_leaf x ++ zs) (links_append xs ys)
    ∙ sym (append_assoc (links_of_leaf x) (links_of_leaves xs) (links_of_leaves ys))
    ∙ ap (λ zs. zs ++ links_of_leaves ys) (sym (map-append (λ (o : Occ). o.link) (occurrences_of_leaf x) (flat_map occurrences_of_leaf xs)))

links_inside : (ls : List base_level.Level) → links_of_leaves (flat_map leaves_of ls) ≡ links_of_levels ls
links_inside [] = refl
links_inside (l ∷ ls) = links_append (leaves_of l) (flat_map leaves_of ls) ∙ ap (λ ys. links_of l ++ ys) (links_inside ls)

links_out : (l : base_level.Level) → links_of l ≡ links_of_leaves (out-Level l).leaves ++ links_of_levels (out-Level l).membranes
links_out l =
    ap (λ xs. links_of_leaves xs) (leaves_apart l) ∙ links_append (out-Level l).leaves (flat_map leaves_of (out-Level l).membranes)
    ∙ ap (λ ys. links_of_leaves (out-Level l).leaves ++ ys) (links_inside (out-Level l).membranes)

-- and with all leaves and membranes of a level
pub counts_out : (ls : List base_level.Level) (i : ℕ) (d x : base_level.Level) (leaves : List base.Leaf) (inside : List base_level.Level) (a b c e : List ℕ) → i < length ls
    → x ≡ get_or ls i d → leaves ≡ (out-Level x).leaves → inside ≡ (out-Level x).membranes → CountsPlaces (links_of_levels (take i ls)) a b → CountsPlaces (links_of_leaves leaves) b c
    → CountsPlaces (links_of_levels inside) c e → CountsPlaces (links_of_levels (take (i + 1) ls)) a e
counts_out ls i d x leaves inside a b c e l at f g h k m =
    let P : List base.Leaf → Type 0 = λ z. CountsPlaces (links_of_leaves z) b c in
    let Q : List base_level.Level → Type 0 = λ z. CountsPlaces (links_of_levels z) c e in
    counts_level ls i d x a b e l at h
    (counts_as _ _ b e (sym (links_out x)) (counts_both (links_of_leaves (out-Level x).leaves) (links_of_levels (out-Level x).membranes) b c e (subst P f k) (subst Q g m)))

-- ---- fresh links

-- what holds of a number and what holds where there is one
pub ok_both : (x : Result ℕ NoMemory) (P : ℕ → Type 0) (Q : Type 0) (R : ℕ → Type 0) → ((n : ℕ) → P n → Q → R n) → IfOk x P → OnOk x Q → IfOk x R
ok_both (Ok n) P Q R f p q = f n p q
ok_both (Err e) P Q R f p q = tt

not_fresh : (a : Link) (n : Name) → fresh a ≡ written n → ⊥
not_fresh a n e = absurd (cc)

-- a link that stands twice gets a fresh one
pub fresh_one : (r : Reading) (keys : List Link) (a : Link) (n new : ℕ) (s t : Scope) → n ≡ 2 → IsScope r keys s → (IsLinkIn (fresh a) keys → ⊥)
    → new ≡ s.count → t.count ≡ s.count + 1 → t.written ≡ s.written → IsFreshOrSame r keys a n new t
fresh_one r keys a n new s t two h absent number count same = record {
  more = fresh a ∷ [];
  scope = scope_new r keys s t (fresh a) h absent (not_fresh a) count same;
  only = λ b i. is_fresh b i;
  key = (let P : Bool → Type 0 = λ z. IsKey (keys ++ fresh a ∷ []) (if z then fresh a else a) new in
      let Q : ℕ → Type 0 = λ y. IsKey (keys ++ fresh a ∷ []) (fresh a) y in
      subst P (sym (eq-eqb n 2 two)) (subst Q (sym (number ∙ h.count)) (key_new keys (fresh a) absent)));
}
  where
    is_fresh : (b : Link) → IsLinkIn b (fresh a ∷ []) → b ≡ fresh a
    is_fresh b (inl e) = e
    is_fresh b (inr e) = absurd e

-- the links of the first i counts
pub record FreshSoFar (r : Reading) (keys : List Link) (counts : List ℕ) (i : ℕ) (new : List ℕ) (s : Scope) : Type 0 where
  pub more : List Link
  pub scope : IsScope r (keys ++ more) s
  pub only : (a : Link) → IsLinkIn a more → (b : Link) × (x : ℕ) × (a ≡ fresh b) × IsKey keys b x × (x < i)
  pub size : length new ≡ i
  pub links : (x n : ℕ) (a : Link) → x < i → slice_get counts x ≡ Some n → IsKey keys a x → IsKey (keys ++ more) (if n == 2 then fresh a else a) (new_link new x)

-- at first none has
pub no_fresh_yet : (r : Reading) (keys : List Link) (counts new : List ℕ) (s : Scope) → new ≡ [] → IsScope r keys s → FreshSoFar r keys counts 0 new s
no_fresh_yet r keys counts new s e h = record {
  more = [];
  scope = let P : List Link → Type 0 = λ ks. IsScope r ks s in subst P (sym (append-nil keys)) h;
  only = λ a i. absurd i;
  size = ap length e;
  links = λ x n a l. absurd (omega (arith, l));
}

same_fresh : (a b : Link) → fresh a ≡ fresh b → a ≡ b
same_fresh a b e = cc

index_get : (xs ys : List ℕ) (x d e : ℕ) → x < length xs → slice_index_or (xs ++ ys) x d ≡ slice_index_or xs x e
index_get [] ys x d e l = absurd (omega (arith, l))
index_get (y ∷ xs) ys zero d e l = refl
index_get (y ∷ xs) ys (suc x) d e l = index_get xs ys x d e (omega (arith, l))

index_last : (xs : List ℕ) (y d : ℕ) → slice_index_or (xs ++ y ∷ []) (length xs) d ≡ y
index_last [] y d = refl
index_last (x ∷ xs) y d = index_last xs y d

link_there : (keys : List Link) (i : ℕ) → i < length keys → (a : Link) × (slice_get keys i ≡ Some a)
link_there [] i l = absurd (omega (arith, l))
link_there (k ∷ keys) zero l = (k, refl)
link_there (k ∷ keys) (suc i) l = link_there keys i (omega (arith, l))

-- one more
pub fresh_next : (r : Reading) (keys : List Link) (counts new new' : List ℕ) (i number n link : ℕ) (s t : Scope) → IsScope r keys s → NoneFresh keys
    → length counts ≡ length keys → i < length counts → slice_get counts i ≡ Some n → number ≡ i → new' ≡ new ++ link ∷ [] → (s' : Scope)
    → (f : FreshSoFar r keys counts i new s')
    → ((ks : List Link) (a : Link) → IsScope r ks s' → IsKey ks a number → (IsLinkIn (fresh a) ks → ⊥) → IsFreshOrSame r ks a n link t)
    → FreshSoFar r keys counts (i + 1) new' t
fresh_next r keys counts new new' i number n link s t h none size l at same pushed s' f step =
    let here = link_there keys i (omega (arith, l, size)) in
    let a = here.0 in
    let key : IsKey keys a i = h.apart i a here.1 in
    let N : ℕ → Type 0 = λ y. IsKey (keys ++ f.more) a y in
    let done = step (keys ++ f.more) a f.scope (subst N (sym same) (key_more keys f.more a i key)) (λ j. absent a key (in_either (fresh a) keys f.more j)) in
    record {
      more = f.more ++ done.more;
      scope = let P : List Link → Type 0 = λ ks. IsScope r ks t in subst P (append_assoc keys f.more done.more) done.scope;
      only = λ b j. elim (in_either b f.more done.more j) [
        | inl k ↦ let o = f.only b k in (o.0, o.1, o.2, o.3, omega (arith, o.4))
        | inr k ↦ (a, i, done.only b k, key, omega arith)
      ];
      size = omega (arith, ap length pushed, length-append new (link ∷ []), f.size);
      links = λ x m b below g k. by a key done x m b g k (cases_lt x i) below;
    }
  where
    absent : (a : Link) → IsKey keys a i → IsLinkIn (fresh a) keys ⊎ IsLinkIn (fresh a) f.more → ⊥
    absent a key (inl j) = none a j
    absent a key (inr j) = let o = f.only (fresh a) j in
        let same_link : a ≡ o.0 = same_fresh a o.0 o.2 in
        let at_x : link_index a keys ≡ o.1 = ap (λ c. link_index c keys) same_link ∙ o.3.1 in
        omega (arith, at_x, key.1, o.4)

    by : (a : Link) → IsKey keys a i → (done : IsFreshOrSame r (keys ++ f.more) a n link t) → (x m : ℕ) (b : Link) → slice_get counts x ≡ Some m → IsKey keys b x
        → (x < i) ⊎ (i ≤ x) → x < i + 1 → IsKey (keys ++ (f.more ++ done.more)) (if m == 2 then fresh b else b) (new_link new' x)
    by a key done x m b g k (inl below) _ =
        let P : List Link → Type 0 = λ ks. IsKey ks (if m == 2 then fresh b else b) (new_link new' x) in
        let Q : ℕ → Type 0 = λ y. IsKey ((keys ++ f.more) ++ done.more) (if m == 2 then fresh b else b) y in
        let e : new_link new x ≡ new_link new' x = sym (ap (λ zs. slice_index_or zs x x) pushed ∙ index_get new (link ∷ []) x x x (omega (arith, below, f.size))) in
        subst P (append_assoc keys f.more done.more) (subst Q e (key_more (keys ++ f.more) done.more _ _ (f.links x m b below g k)))
    by a key done x m b g k (inr above) l' =
        let is : x ≡ i = omega (arith, above, l') in
        let one : b ≡ a = index_one b a keys k.0 key.0 (k.1 ∙ is ∙ sym key.1) in
        let count : m ≡ n = same_Some m n (sym g ∙ ap (slice_get counts) is ∙ at) in
        let e : link ≡ new_link new' x = sym (ap (λ zs. slice_index_or zs x x) pushed ∙ ap (λ y. slice_index_or (new ++ link ∷ []) y x) (is ∙ sym f.size) ∙ index_last new link x) in
        let P : List Link → Type 0 = λ ks. IsKey ks (if m == 2 then fresh b else b) (new_link new' x) in
        let Q : ℕ → Type 0 = λ y. IsKey ((keys ++ f.more) ++ done.more) (if m == 2 then fresh b else b) y in
        let R : Link → Type 0 = λ c. IsKey ((keys ++ f.more) ++ done.more) (if m == 2 then fresh c else c) link in
        let S : ℕ → Type 0 = λ c. IsKey ((keys ++ f.more) ++ done.more) (if c == 2 then fresh a else a) link in
        subst P (append_assoc keys f.more done.more) (subst Q e (subst R (sym one) (subst S (sym count) done.key)))

-- at the end each link that stands twice has a fresh one
pub all_fresh : (r : Reading) (keys : List Link) (counts new : List ℕ) (i : ℕ) (s : Scope) → length counts ≤ i → FreshSoFar r keys counts i new s → Freshens r keys counts new s
all_fresh r keys counts new i s l f = record {
  more = f.more;
  scope = f.scope;
  only = λ a j. let o = f.only a j in (o.0, o.2);
  links = λ x n a g k. f.links x n a (omega (arith, l, slice_get_within counts x n g)) g k;
}

-- ---- the copy

zero_there : (xs : List ℕ) (x : ℕ) → All (λ n. n ≡ 0) xs → x < length xs → slice_get xs x ≡ Some 0
zero_there [] x h l = absurd (omega (arith, l))
zero_there (y ∷ xs) zero h l = ap Some (h 0 0 (omega arith))
zero_there (y ∷ xs) (suc x) h l = zero_there xs x (λ k d m. h (suc k) d (omega (arith, m))) (omega (arith, l))

-- a part is copied with fresh links
pub is_copied : (r : Reading) (keys : List Link) (p : Parts) (kept copy : Part) (zeros counts mid links : List ℕ) (s t : Scope) → IsScope r keys s → IsPartOfLevel r.names (IsKey keys) p kept
    → length zeros ≡ s.count → All (λ n. n ≡ 0) zeros → CountsPlaces (links_of_leaves kept.leaves) zeros mid → CountsPlaces (links_of_levels kept.membranes) mid counts
    → Freshens r keys counts links t
    → copy.leaves ≡ map (renumbered_leaf (new_link links)) kept.leaves → copy.membranes ≡ map (renumbered (new_link links)) kept.membranes
    → copy.contexts ≡ kept.contexts → copy.rule_contexts ≡ kept.rule_contexts → copy.rules ≡ kept.rules
    → Copies r keys p copy t
is_copied r keys p kept copy zeros counts mid links s t scope h size none one two f a b c d e =
    let ks = expanded.expanded_links (level_from_parts p) in
    let all = links_of_leaves kept.leaves ++ links_of_levels kept.membranes in
    let each : AllZip (IsKey keys) ks all = each_append (IsKey keys) (expanded.expanded_leaves_links p.leaves) (expanded.expanded_links_in (expanded_levels p.membranes)) (links_of_leaves kept.leaves)
    (links_of_levels kept.membranes) (leaves_links_by r.names (IsKey keys) p.leaves kept.leaves h.leaves)
    (links_in_by r.names (IsKey keys) (expanded_levels p.membranes) kept.membranes (levels_each r.names (IsKey keys) p.membranes kept.membranes h.membranes)) in
    let counted = counts_both (links_of_leaves kept.leaves) (links_of_levels kept.membranes) zeros mid counts one two in
    let step : (a : Link) (x : ℕ) → IsKey keys a x → IsKey (keys ++ f.more) (freshened ks a) (new_link links x) = λ a x k. stepped all counted each a x k in
    let P : List base.Leaf → Type 0 = λ z. AllZip (IsLeaf r.names (IsKey (keys ++ f.more))) (map (renamed_leaf (freshened ks)) p.leaves) z in
    let Q : List base_level.Level → Type 0 = λ z. AllZip (IsLevel r.names (IsKey (keys ++ f.more))) (map (renamed_level (freshened ks)) p.membranes) z in
    let T : Link → ℕ → Type 0 = λ a x. IsKey (keys ++ f.more) (freshened ks a) x in
    record {
      more = f.more;
      scope = f.scope;
      only = f.only;
      is_copy = record {
        leaves = subst P (sym a) (renamed_leaves_by r.names T (IsKey (keys ++ f.more)) (freshened ks) (λ a x k. k) p.leaves _
            (renumbered_leaves_by r.names (IsKey keys) T (new_link links) step p.leaves kept.leaves h.leaves));
        membranes = subst Q (sym b) (each_map (IsLevel r.names (IsKey keys)) (IsLevel r.names (IsKey (keys ++ f.more))) (renamed_level (freshened ks)) (renumbered (new_link links))
            (λ l x g. renamed_by r.names T (IsKey (keys ++ f.more)) (freshened ks) (λ a x k. k) l _ (renumbered_by r.names (IsKey keys) T (new_link links) step l x g))
            p.membranes kept.membranes h.membranes);
        contexts = c ∙ h.contexts;
        rule_contexts = d ∙ h.rule_contexts;
        rules = e ∙ h.rules;
      };
    }
  where
    stepped : (all : List ℕ) → CountsPlaces all zeros counts → (let ks = expanded.expanded_links (level_from_parts p) in AllZip (IsKey keys) ks all)
        → (a : Link) (x : ℕ) → IsKey keys a x → (let ks = expanded.expanded_links (level_from_parts p) in IsKey (keys ++ f.more) (freshened ks a) (new_link links x))
    stepped all counted each a x k =
        let ks = expanded.expanded_links (level_from_parts p) in
        let l : x < length zeros = omega (arith, size, scope.count, index_below a keys k.0, k.1) in
        let n = counted.counted x 0 (zero_there zeros x none l) (omega arith) in
        let same : (min 3 (0 + often x all) == 2) ≡ (times_among a ks == 2) = two_of (often x all) ∙ ap (λ m. m == 2) (sym (times_often keys a x ks all k each)) in
        let P : Bool → Type 0 = λ z. IsKey (keys ++ f.more) (if z then fresh a else a) (new_link links x) in
        subst P same (f.links x (min 3 (0 + often x all)) a n k)

-- so it is when its links were counted
pub copied_by : (r : Reading) (keys : List Link) (p : Parts) (kept copy : Part) (zeros mid counts seen links links1 links2 : List ℕ) (s t : Scope) → IsScope r keys s → NoneFresh keys
    → IsPartOfLevel r.names (IsKey keys) p kept → length zeros ≡ s.count → All (λ n. n ≡ 0) zeros → CountsPlaces (links_of_leaves kept.leaves) zeros mid
    → CountsPlaces (links_of_levels kept.membranes) mid counts → seen ≡ counts
    → ((r : Reading) (keys : List Link) → IsScope r keys s → NoneFresh keys → length seen ≡ length keys → Freshens r keys seen links t)
    → links1 ≡ links → links2 ≡ links
    → copy.leaves ≡ map (renumbered_leaf (new_link links1)) kept.leaves → copy.membranes ≡ map (renumbered (new_link links2)) kept.membranes
    → copy.contexts ≡ kept.contexts → copy.rule_contexts ≡ kept.rule_contexts → copy.rules ≡ kept.rules
    → Copies r keys p copy t
copied_by r keys p kept copy zeros mid counts seen links links1 links2 s t h unfresh part size none one two same found e1 e2 a b c d e =
    let long : length seen ≡ length keys = ap length same ∙ two.size ∙ one.size ∙ size ∙ h.count in
    let F : List ℕ → Type 0 = λ z. Freshens r keys z links t in
    is_copied r keys p kept copy zeros counts mid links s t h part size none one two (subst F same (found r keys h unfresh long))
    (a ∙ ap (λ z. map (renumbered_leaf (new_link z)) kept.leaves) e1) (b ∙ ap (λ z. map (renumbered (new_link z)) kept.membranes) e2) c d e

-- what is read below the length is there
pub get_at : (xs : List ℕ) (i d : ℕ) → i < length xs → slice_get xs i ≡ Some (get_or xs i d)
get_at [] i d l = absurd (omega (arith, l))
get_at (x ∷ xs) zero d l = refl
get_at (x ∷ xs) (suc i) d l = get_at xs i d (omega (arith, l))
