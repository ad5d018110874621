-- Tables of the sizes of membranes.
use Rattle.std.proofs.Common.{ℕ, zero, suc, ◌≡◌, ◌∙◌, ◌+◌, ◌<◌, ◌≤◌, ◌==◌, ◌≢◌, inl, inr, Bool, true, false, if◌then◌else◌, List, [], ◌∷◌, ◌++◌, Option, Some, None, length, map, set, refl, sym, ap, subst, arith}
use Rattle.std.specs.Prelude.{slice_get}
use Rattle.std.specs.List.{AllByRecursion}
use Rattle.std.specs.Option.{option_and_then, option_map}
use Rattle.std.proofs.lemmas.Bool.{cases_eq, cases_lt, eqb-true}
use Rattle.std.proofs.lemmas.List.{get_or-set_other, get_or-set_same}
use Rattle.std.proofs.lemmas.Option.{same_Some}
use Rattle.lmn_base.specs.Lists.{In}
use Rattle.lmn_base.proofs.Lists.{sum_cons}
use Rattle.lmn_store_heap.specs.Heap.{Heap, IsMem, atoms_in, home_by, mems_in, rules_in}
use Rattle.lmn_store_heap.specs.Lists.{Distinct}
use Rattle.lmn_store_heap.specs.Sound.{Forest, Forms, Valid, bare, mem, flat as members, item_count_in}
use Rattle.lmn_store_heap.proofs.Common.{listed_mem}
use Rattle.lmn_store_heap.proofs.Heights.{parent_is}
use Rattle.lmn_ground_parts.specs.Walks.{is_in}
use Rattle.lmn_solid_firing.specs.Making.{left_of}
use Rattle.lmn_solid_firing.proofs.Laying.{in_left_of}
use Rattle.lmn_solid_tables.specs.Flats.{heap_membrane, heap_of}
use Rattle.lmn_solid_tables.specs.declared.flat.Flat.{Flat}
use Rattle.lmn_solid_tables.specs.declared.tables.FlatMembrane.{FlatMembrane}
use Rattle.lmn_receipt_search.specs.Items.{AreSizes, left_size, size_at, total}

-- ---- membranes in a membrane

-- What stands in a membrane has a greater number, and is one.
pub record IsChild (h : Heap) (m c : ℕ) : Type 0 where
  pub greater : m < c
  pub there : IsMem h c

pub children : (flat : Flat) → Valid (heap_of flat) → (m c : ℕ) → In c (mems_in (heap_of flat) m) → IsChild (heap_of flat) m c
children flat valid m c i = record {
  greater = by c (slice_get flat.membranes.items c) refl (parent_is (heap_of flat) valid.sound.listed c m i);
  there = listed_mem (heap_of flat) valid.sound.listed m c i;
}
  where
    by : (c : ℕ) (o : Option FlatMembrane) → slice_get flat.membranes.items c ≡ o → option_and_then (λ x. home_by x.place) (option_map (heap_membrane c) o) ≡ Some m → m < c
    by c None s e = absurd (cc)
    by zero (Some x) s e = absurd (cc)
    by (suc c) (Some x) s e = let less = flat.rises c x s in let same : x.parent ≡ m = same_Some x.parent m e in omega (arith, less, same)

-- ---- what is left of a list

-- what isn't in a list isn't taken out of it
other_left : (size : ℕ → ℕ) (t : ℕ) (ts xs : List ℕ) → AllByRecursion (λ x. t ≢ x) xs → left_size size (t ∷ ts) xs ≡ left_size size ts xs
other_left size t ts [] out = refl
other_left size t ts (x ∷ xs) out = by (t == x) refl (other_left size t ts xs out.1)
  where
    by : (b : Bool) → (t == x) ≡ b → left_size size (t ∷ ts) xs ≡ left_size size ts xs
        → (if (if b then true else is_in ts x) then 0 else size x) + left_size size (t ∷ ts) xs ≡ (if is_in ts x then 0 else size x) + left_size size ts xs
    by true e h = absurd (out.0 (eqb-true t x e))
    by false e h = ap (λ n. (if is_in ts x then 0 else size x) + n) h

-- one number more that is taken takes no more than its size
one_taken : (size : ℕ → ℕ) (t : ℕ) (ts xs : List ℕ) → Distinct xs → left_size size ts xs ≤ left_size size (t ∷ ts) xs + size t
one_taken size t ts [] once = omega arith
one_taken size t ts (x ∷ xs) once = by (t == x) refl (one_taken size t ts xs once.1)
  where
    head : (b : Bool) → (if b then 0 else size x) ≤ size x
    head true = omega arith
    head false = omega arith

    by : (b : Bool) → (t == x) ≡ b → left_size size ts xs ≤ left_size size (t ∷ ts) xs + size t
        → (if is_in ts x then 0 else size x) + left_size size ts xs ≤ (if (if b then true else is_in ts x) then 0 else size x) + left_size size (t ∷ ts) xs + size t
    by true e h =
        let same : t ≡ x = eqb-true t x e in
        let as_much : size t ≡ size x = ap size same in
        let rest = other_left size t ts xs (subst (λ z. AllByRecursion (λ y. z ≢ y) xs) (sym same) once.0) in
        omega (arith, head (is_in ts x), as_much, rest)
    by false e h = omega (arith, h)

-- where nothing is taken all is counted
all_left : (size : ℕ → ℕ) (xs : List ℕ) → left_size size [] xs ≡ total (map size xs)
all_left size [] = refl
all_left size (x ∷ xs) = ap (λ n. size x + n) (all_left size xs)

-- what is taken of a list without repeats, with what is left, is all
pub all_taken : (size : ℕ → ℕ) (ts xs : List ℕ) → Distinct xs → total (map size xs) ≤ left_size size ts xs + total (map size ts)
all_taken size [] xs once = omega (arith, all_left size xs)
all_taken size (t ∷ ts) xs once = omega (arith, all_taken size ts xs once, one_taken size t ts xs once)

module _ (h : Heap) where
  pub items_append : (xs ys : List ℕ) → item_count_in h (xs ++ ys) ≡ item_count_in h xs + item_count_in h ys
  items_append [] ys = omega arith
  items_append (x ∷ xs) ys =
      let f : ℕ → ℕ = λ m. 1 + length (atoms_in h m) + length (rules_in h m) in
      omega (arith, sum_cons f x (xs ++ ys), sum_cons f x xs, items_append xs ys)

  pub one_more : (m : ℕ) (ms : List ℕ) → item_count_in h (m ∷ ms) ≡ 1 + length (atoms_in h m) + length (rules_in h m) + item_count_in h ms
  one_more m ms = sum_cons (λ m. 1 + length (atoms_in h m) + length (rules_in h m)) m ms

  -- a table says it of the membranes from a number on
  abbrev pub AreSizesFrom : ℕ → List ℕ → Type 0
  AreSizesFrom from sizes = (m : ℕ) (inner : Forest) → from ≤ m → IsMem h m → Forms h inner (mems_in h m) → size_at sizes m ≡ item_count_in h (m ∷ members inner)

  -- membranes of a table
  pub by_forest : (from : ℕ) (sizes : List ℕ) → AreSizesFrom from sizes → (f : Forest) (ms : List ℕ) → ((c : ℕ) → In c ms → (from ≤ c) × IsMem h c) → Forms h f ms → total (map (size_at sizes) ms) ≡ item_count_in h (members f)
  by_forest from sizes are bare ms there e = ap (λ xs. total (map (size_at sizes) xs)) e
  by_forest from sizes are (mem m inner rest) ms there (others, e, i, r) =
      let one = there m (subst (In m) (sym e) (inl refl)) in
      let here = are m inner one.0 one.1 i in
      let behind = by_forest from sizes are rest others (λ c j. there c (subst (In c) (sym e) (inr j))) r in
      let all = items_append (m ∷ members inner) (members rest) in
      let both : total (map (size_at sizes) ms) ≡ size_at sizes m + total (map (size_at sizes) others) = ap (λ xs. total (map (size_at sizes) xs)) e in
      omega (arith, here, behind, all, both)

  -- a membrane with what the table says of those in it
  pub sized_more : (sizes : List ℕ) (m v : ℕ) → AreSizesFrom (m + 1) sizes → ((c : ℕ) → In c (mems_in h m) → IsChild h m c) → m < length sizes
      → v ≡ 1 + length (atoms_in h m) + length (rules_in h m) + total (map (size_at sizes) (mems_in h m)) → AreSizesFrom m (set sizes m v)
  sized_more sizes m v are inside l is k inner low there f = elim (cases_eq k m) [
    | inl e ↦ (
        let here : size_at (set sizes m v) k ≡ v = ap (size_at (set sizes m v)) e ∙ get_or-set_same sizes m v 0 l in
        let forms : Forms h inner (mems_in h m) = subst (λ z. Forms h inner (mems_in h z)) e f in
        let counted = by_forest (m + 1) sizes are inner (mems_in h m) (λ c j. let u = inside c j in let g = u.greater in (omega (arith, g), u.there)) forms in
        let whole = one_more k (members inner) in
        let a : length (atoms_in h k) ≡ length (atoms_in h m) = ap (λ z. length (atoms_in h z)) e in
        let r : length (rules_in h k) ≡ length (rules_in h m) = ap (λ z. length (rules_in h z)) e in
        omega (arith, here, is, counted, whole, a, r)
        )
    | inr d ↦ (let same : size_at (set sizes m v) k ≡ size_at sizes k = get_or-set_other sizes m k v 0 d in same ∙ are k inner (more k low d) there f)
  ]
    where
      more : (k : ℕ) → m ≤ k → (k ≡ m → ⊥) → m + 1 ≤ k
      more k low d = elim (cases_lt m k) [ inl l ↦ omega (arith, l) | inr g ↦ absurd (d (omega (arith, g, low))) ]

  module _ (sizes : List ℕ) (are : AreSizes h sizes) where
    by_table : (taken ms : List ℕ) → left_size (size_at sizes) taken ms ≡ total (map (size_at sizes) (left_of taken ms))
    by_table taken [] = refl
    by_table taken (x ∷ xs) = by (is_in taken x) (by_table taken xs)
      where
        by : (b : Bool) → left_size (size_at sizes) taken xs ≡ total (map (size_at sizes) (left_of taken xs))
            → (if b then 0 else size_at sizes x) + left_size (size_at sizes) taken xs ≡ total (map (size_at sizes) (if b then left_of taken xs else (x ∷ left_of taken xs)))
        by true e = omega (arith, e)
        by false e = omega (arith, e)

    -- the membranes of a forest
    pub in_forest : (f : Forest) (ms : List ℕ) → ((c : ℕ) → In c ms → IsMem h c) → Forms h f ms → total (map (size_at sizes) ms) ≡ item_count_in h (members f)
    in_forest f ms there forms = by_forest 0 sizes (λ m inner low. are m inner) f ms (λ c i. (omega arith, there c i)) forms

    -- what is left of a list of membranes, by the table and by its forest
    pub formed : (taken ms : List ℕ) (f : Forest) → ((c : ℕ) → In c ms → IsMem h c) → Forms h f (left_of taken ms) → left_size (size_at sizes) taken ms ≤ item_count_in h (members f)
    formed taken ms f there k =
        let a = by_table taken ms in
        let b = in_forest f (left_of taken ms) (λ c i. there c (in_left_of taken ms c i)) k in
        omega (arith, a, b)
