-- Numbers in lists: how often each stands there, and the names that they stand for.
use Rattle.std.proofs.Common.{ℕ, zero, suc, ◌≡◌, ◌<◌, ◌≤◌, ◌==◌, List, [], ◌∷◌, map, length, Bool, true, false, cond, Contains, refl, ap, subst, ◌∙◌, arith}
use Rattle.std.specs.List.{AllByRecursion, flat_map}
use Rattle.std.proofs.lemmas.Bool.{eq-eqb, eqb-true}
use Rattle.lmn_base.specs.declared.functor.Label.TheVariants.{Name as ByName}
use Rattle.lmn_base.specs.Names.{HasNames, IsNames}
use Rattle.lmn_congruence.proofs.TranslatedNames.{labels_apart}
use Rattle.lmn_congruence.specs.Orders.{Among, at_head, further, Put, here, there, Shuffle, none, more, EachOnce}
use Rattle.lmn_congruence.specs.Rules as tree
use Rattle.lmn_congruence.specs.Translation.{name_of}
use Rattle.lmn_app_reading.proofs.NamedPlains.{AllBelow}
use Rattle.lmn_linkcheck.proofs.LinkedLemmas.{how_often, how_often_both}

-- ---- all

module _ {A : Type 0} (P : A → Type 0) where
  -- what holds of each element
  pub each_so : (xs : List A) → ((x : A) → Contains xs x → P x) → AllByRecursion P xs
  each_so [] h = tt
  each_so (x ∷ xs) h = (h x (0, omega arith, refl), each_so xs (λ y c. h y (suc c.0, (let w = c.1 in omega (arith, w)), c.2)))

-- what holds of all holds by a wider word
pub all_so : {A : Type 0} {P Q : A → Type 0} → ((x : A) → P x → Q x) → (xs : List A) → AllByRecursion P xs → AllByRecursion Q xs
all_so f [] h = tt
all_so f (x ∷ xs) h = (f x h.0, all_so f xs h.1)

-- ---- how often

-- a number stands once more where it stands in front
pub how_often_here : (n : ℕ) (xs : List ℕ) → how_often n (n ∷ xs) ≡ suc (how_often n xs)
how_often_here n xs = rw (eq-eqb n n refl) refl

-- a number stands in a longer list as often, or more often
pub how_often_later : (n x : ℕ) (xs : List ℕ) → how_often n xs ≤ how_often n (x ∷ xs)
how_often_later n x xs = by (x == n)
  where
    by : (b : Bool) → how_often n xs ≤ cond b (suc (how_often n xs)) (how_often n xs)
    by true = omega arith
    by false = omega arith

-- what stands in a list of one is that one
pub alone : (n x : ℕ) → 1 ≤ how_often n (x ∷ []) → x ≡ n
alone n x h = by (x == n) refl h
  where
    by : (b : Bool) → (x == n) ≡ b → 1 ≤ cond b 1 0 → x ≡ n
    by true e h = eqb-true x n e
    by false e h = absurd (omega (arith, h))

-- a number of a list of lists stands in one of them
pub some_of : {A : Type 0} (f : A → List ℕ) (n : ℕ) (xs : List A) → 1 ≤ how_often n (flat_map f xs) → (x : A) × Contains xs x × (1 ≤ how_often n (f x))
some_of f n [] h = absurd (omega (arith, h))
some_of f n (x ∷ xs) h = by (how_often n (f x)) refl (some_of f n xs)
  where
    by : (m : ℕ) → how_often n (f x) ≡ m → (1 ≤ how_often n (flat_map f xs) → (y : _) × Contains xs y × (1 ≤ how_often n (f y))) → (y : _) × Contains (x ∷ xs) y × (1 ≤ how_often n (f y))
    by zero e rest =
        let both = how_often_both n (f x) (flat_map f xs) in
        let later = rest (omega (arith, h, both, e)) in
        let c = later.1 in
        (later.0, (suc c.0, (let w = c.1 in omega (arith, w)), c.2), later.2)
    by (suc m) e rest = (x, (0, omega arith, refl), omega (arith, e))

-- ---- names

module _ (names : List tree.Name) where
  abbrev pub N : ℕ → tree.Name
  N = name_of names

  pub among_name : (n : ℕ) (xs : List ℕ) → 1 ≤ how_often n xs → Among (N n) (map N xs)
  among_name n [] h = absurd (omega (arith, h))
  among_name n (x ∷ xs) h = by (x == n) refl h (among_name n xs)
    where
      by : (b : Bool) → (x == n) ≡ b → 1 ≤ cond b (suc (how_often n xs)) (how_often n xs) → (1 ≤ how_often n xs → Among (N n) (map N xs)) → Among (N n) (N x ∷ map N xs)
      by true e h rest = subst (λ y. Among (N y) (N x ∷ map N xs)) (eqb-true x n e) at_head
      by false e h rest = further (rest h)

  pub name_among : (p : tree.Name) (xs : List ℕ) → Among p (map N xs) → (n : ℕ) × (1 ≤ how_often n xs) × (N n ≡ p)
  name_among p [] k = elim k [ ]
  name_among p (x ∷ xs) k = by k refl (λ j. name_among p xs j)
    where
      by : {ps : List tree.Name} → Among p ps → ps ≡ N x ∷ map N xs → (Among p (map N xs) → (n : ℕ) × (1 ≤ how_often n xs) × (N n ≡ p)) → (n : ℕ) × (1 ≤ how_often n (x ∷ xs)) × (N n ≡ p)
      by at_head e rest = (x, (let f = how_often_here x xs in omega (arith, f)), cc)
      by (further {ys = ys} j) e rest =
          let tail : ys ≡ map N xs = cc in
          let r = rest (subst (λ zs. Among p zs) tail j) in
          (r.0, (let l = how_often_later r.0 x xs in let h = r.1 in omega (arith, l, h)), r.2)

  pub known_one : (xs : List ℕ) (n : ℕ) → AllBelow names xs → 1 ≤ how_often n xs → n < length names
  known_one [] n k h = absurd (omega (arith, h))
  known_one (x ∷ xs) n k h = by (x == n) refl h (λ l. known_one xs n k.1 l)
    where
      by : (b : Bool) → (x == n) ≡ b → 1 ≤ cond b (suc (how_often n xs)) (how_often n xs) → (1 ≤ how_often n xs → n < length names) → n < length names
      by true e h rest = subst (λ y. y < length names) (eqb-true x n e) k.0
      by false e h rest = rest h

  module _ (is : IsNames names) where
    -- one name has one number
    pub one_number : (m n : ℕ) → m < length names → n < length names → N m ≡ N n → m ≡ n
    one_number m n a b e = let q : ByName m ≡ ByName n = labels_apart names (ByName m) (ByName n) is both (ap tree.named e) in cc
      where
        both : HasNames names (m ∷ (n ∷ []))
        both zero d l = a
        both (suc zero) d l = b
        both (suc (suc k)) d l = absurd (omega (arith, l))

    -- and stands in a list of names where its number does
    pub number_among : (n : ℕ) (xs : List ℕ) → n < length names → AllBelow names xs → Among (N n) (map N xs) → 1 ≤ how_often n xs
    number_among n xs l k a =
        let found = name_among (N n) xs a in
        let same = one_number found.0 n (known_one xs found.0 k found.1) l found.2 in
        subst (λ m. 1 ≤ how_often m xs) same found.1

    pub each_once : (xs : List ℕ) → AllBelow names xs → ((n : ℕ) → how_often n xs ≤ 1) → EachOnce (map N xs)
    each_once [] k h = tt
    each_once (x ∷ xs) k h = (
      λ a. (let again = number_among x xs k.0 k.1 a in let e = how_often_here x xs in let few = h x in omega (arith, again, e, few)),
      each_once xs k.1 (λ n. let few = h n in let l = how_often_later n x xs in omega (arith, few, l)),
    )

  -- lists with the same numbers as often
  put_out : (n : ℕ) (ys : List ℕ) → 1 ≤ how_often n ys → (zs : List ℕ) × Put (N n) (map N zs) (map N ys) × ((m : ℕ) → how_often m ys ≡ how_often m (n ∷ zs))
  put_out n [] h = absurd (omega (arith, h))
  put_out n (y ∷ ys) h = by (y == n) refl h (put_out n ys)
    where
      swapped : (m : ℕ) (zs : List ℕ) → how_often m ys ≡ how_often m (n ∷ zs) → how_often m (y ∷ ys) ≡ how_often m (n ∷ (y ∷ zs))
      swapped m zs e = on (y == m) (n == m) e
        where
          on : (b c : Bool) → how_often m ys ≡ cond c (suc (how_often m zs)) (how_often m zs) → cond b (suc (how_often m ys)) (how_often m ys) ≡ cond c (suc (cond b (suc (how_often m zs)) (how_often m zs))) (cond b (suc (how_often m zs)) (how_often m zs))
          on true true e = ap suc e
          on true false e = ap suc e
          on false true e = e
          on false false e = e

      by : (b : Bool) → (y == n) ≡ b → 1 ≤ cond b (suc (how_often n ys)) (how_often n ys) → (1 ≤ how_often n ys → (zs : List ℕ) × Put (N n) (map N zs) (map N ys) × ((m : ℕ) → how_often m ys ≡ how_often m (n ∷ zs)))
          → (zs : List ℕ) × Put (N n) (map N zs) (N y ∷ map N ys) × ((m : ℕ) → how_often m (y ∷ ys) ≡ how_often m (n ∷ zs))
      by true e h rest =
          let same = eqb-true y n e in
          (ys, subst (λ x. Put (N x) (map N ys) (N y ∷ map N ys)) same here, λ m. ap (λ x. how_often m (x ∷ ys)) same)
      by false e h rest = let r = rest h in (y ∷ r.0, there r.1, λ m. swapped m r.0 (r.2 m))

  pub same_shuffle : (xs ys : List ℕ) → ((n : ℕ) → how_often n xs ≡ how_often n ys) → Shuffle (λ p q. p ≡ q) (map N xs) (map N ys)
  same_shuffle [] [] h = none
  same_shuffle [] (y ∷ ys) h = absurd (let e = h y in let f = how_often_here y ys in omega (arith, e, f))
  same_shuffle (x ∷ xs) ys h =
      let out = put_out x ys (let e = h x in let f = how_often_here x xs in omega (arith, e, f)) in
      more refl (same_shuffle xs out.0 (λ n. taken n out.0 (h n ∙ out.2 n))) out.1
    where
      taken : (n : ℕ) (zs : List ℕ) → how_often n (x ∷ xs) ≡ how_often n (x ∷ zs) → how_often n xs ≡ how_often n zs
      taken n zs e = on (x == n) e
        where
          on : (b : Bool) → cond b (suc (how_often n xs)) (how_often n xs) ≡ cond b (suc (how_often n zs)) (how_often n zs) → how_often n xs ≡ how_often n zs
          on true e = omega (arith, e)
          on false e = e
