-- The tables of a tree of regions in preorder: what stands where.
use Rattle.std.proofs.Common.{ℕ, zero, suc, ◌≡◌, ◌≢◌, ◌+◌, ◌<◌, ◌≤◌, ◌⊎◌, ◌↔◌, inl, inr, List, [], ◌∷◌, ◌++◌, length, map, refl, sym, ap, subst, ◌∙◌, arith}
use Rattle.std.specs.Prelude.{Some, slice_get}
use Rattle.std.specs.List.{range_with_len}
use Rattle.std.specs.Option.{option_map}
use Rattle.std.proofs.lemmas.List.{length-append, length-map}
use Rattle.std.proofs.lemmas.Option.{slice_get-map}
use Rattle.lmn_base.specs.Lists.{In}
use Rattle.lmn_base.specs.declared.solid.SolidAtom.{SolidAtom}
use Rattle.lmn_base.proofs.Lists.{get_below, get_either, get_front, get_last, get_there}
use Rattle.lmn_base.proofs.Numbers.{three_ways, split_at}
use Rattle.lmn_store_heap.specs.Lists.{Distinct}
use Rattle.lmn_store_heap.specs.Sound.{Forest, bare, mem, flat}
use Rattle.lmn_store_heap.proofs.ListLemmas.{each_of}
use Rattle.lmn_solid_tables.specs.declared.tables.FlatAtom.{FlatAtom}
use Rattle.lmn_solid_tables.specs.declared.tables.FlatMembrane.{FlatMembrane}
use Rattle.lmn_solid_tables.specs.Tables.{Rises}
use Rattle.lmn_solid_tables.specs.Building.{Trees, none, tree, size, Tables, no_tables, added, at_home, lone_membrane, visited}

-- ---- numbers in a row

pub in_range : (a s n : ℕ) → s ≤ a → a < s + n → In a (range_with_len s n)
in_range a s zero l m = absurd (omega (arith, l, m))
in_range a s (suc n) l m = by_order (three_ways s a) (λ d. in_range a (s + 1) n (omega (arith, d)) (omega (arith, m)))
  where
    by_order : (s < a) ⊎ ((s ≡ a) ⊎ (a < s)) → (s < a → In a (range_with_len (s + 1) n)) → In a (range_with_len s (suc n))
    by_order (inl d) f = inr (f d)
    by_order (inr (inl e)) f = inl e
    by_order (inr (inr d)) f = absurd (omega (arith, l, d))

pub range_from : (a s n : ℕ) → In a (range_with_len s n) → (s ≤ a) × (a < s + n)
range_from a s zero i = absurd i
range_from a s (suc n) (inl e) = (omega (arith, e), omega (arith, e))
range_from a s (suc n) (inr i) = let r = range_from a (s + 1) n i in (omega (arith, r.0), omega (arith, r.1))

pub range_distinct : (s n : ℕ) → Distinct (range_with_len s n)
range_distinct s zero = tt
range_distinct s (suc n) = (each_of (λ y. s ≢ y) (range_with_len (s + 1) n) (λ y i e. let r = range_from y (s + 1) n i in omega (arith, e, r.0)), range_distinct (s + 1) n)

-- ---- look-ups in lists of two parts

pub get_part : {A : Type 0} (xs ys : List A) (k : ℕ) (x : A) → slice_get (xs ++ ys) k ≡ Some x → (slice_get xs k ≡ Some x) ⊎ ((j : ℕ) × (k ≡ length xs + j) × (slice_get ys j ≡ Some x))
get_part [] ys k x e = inr (k, omega arith, e)
get_part (y ∷ xs) ys zero x e = inl e
get_part (y ∷ xs) ys (suc k) x e = by_part (get_part xs ys k x e)
  where
    by_part : (slice_get xs k ≡ Some x) ⊎ ((j : ℕ) × (k ≡ length xs + j) × (slice_get ys j ≡ Some x)) → (slice_get (y ∷ xs) (suc k) ≡ Some x) ⊎ ((j : ℕ) × (suc k ≡ length (y ∷ xs) + j) × (slice_get ys j ≡ Some x))
    by_part (inl d) = inl d
    by_part (inr d) = inr (d.0, omega (arith, d.1), d.2)

pub get_behind : {A : Type 0} (xs ys : List A) (j : ℕ) → slice_get (xs ++ ys) (length xs + j) ≡ slice_get ys j
get_behind [] ys j = let e : 0 + j ≡ j = omega arith in ap (slice_get ys) e
get_behind (x ∷ xs) ys j = let e : suc (length xs) + j ≡ suc (length xs + j) = omega arith in ap (slice_get (x ∷ (xs ++ ys))) e ∙ get_behind xs ys j

pub got_mapped : {A B : Type 0} (f : A → B) (xs : List A) (k : ℕ) (y : B) → slice_get (map f xs) k ≡ Some y → (x : A) × (slice_get xs k ≡ Some x) × (y ≡ f x)
got_mapped f [] k y e = absurd (cc e)
got_mapped f (x ∷ xs) zero y e = (x, refl, cc e)
got_mapped f (x ∷ xs) (suc k) y e = got_mapped f xs k y e

-- ---- atoms and their homes

-- What holds of the tables at each moment, their lists of membranes left aside.
pub record Fine (t : Tables) : Type 0 where
  pub atoms : (m : ℕ) (x : FlatMembrane) → slice_get t.membranes m ≡ Some x → (a : ℕ) → In a x.atoms ↔ ((y : FlatAtom) × (slice_get t.atoms a ≡ Some y) × (y.home ≡ m))
  pub homes : (a : ℕ) (y : FlatAtom) → slice_get t.atoms a ≡ Some y → y.home < length t.membranes
  pub once : (m : ℕ) (x : FlatMembrane) → slice_get t.membranes m ≡ Some x → Distinct x.atoms
  pub rises : Rises t.membranes
  pub empty : (m : ℕ) (x : FlatMembrane) → slice_get t.membranes m ≡ Some x → x.membranes ≡ []

module _ (t : Tables) (fine : Fine t) (atoms : List SolidAtom) (rules : List ℕ) (p : ℕ) (below : (m : ℕ) → suc m ≡ length t.membranes → p < suc m) where
  abbrev row : FlatMembrane
  row = lone_membrane p (length t.atoms) atoms rules

  abbrev more : List FlatAtom
  more = map (at_home (length t.membranes)) atoms

  grown : length (t.membranes ++ row ∷ []) ≡ length t.membranes + 1
  grown = length-append t.membranes (row ∷ [])

  got_more : (a : ℕ) (y : FlatAtom) → slice_get (t.atoms ++ more) a ≡ Some y → (slice_get t.atoms a ≡ Some y) ⊎ ((y.home ≡ length t.membranes) × (length t.atoms ≤ a) × (a < length t.atoms + length atoms))
  got_more a y e = by_part (get_part t.atoms more a y e)
    where
      by_part : (slice_get t.atoms a ≡ Some y) ⊎ ((j : ℕ) × (a ≡ length t.atoms + j) × (slice_get more j ≡ Some y)) → (slice_get t.atoms a ≡ Some y) ⊎ ((y.home ≡ length t.membranes) × (length t.atoms ≤ a) × (a < length t.atoms + length atoms))
      by_part (inl d) = inl d
      by_part (inr d) =
          let r = got_mapped (at_home (length t.membranes)) atoms d.0 y d.2 in
          let l = get_below atoms d.0 r.0 r.1 in
          inr (ap (λ (z : FlatAtom). z.home) r.2, omega (arith, d.1), omega (arith, d.1, l))

  atoms_before : (m : ℕ) (x : FlatMembrane) → slice_get t.membranes m ≡ Some x → (a : ℕ) → In a x.atoms ↔ ((y : FlatAtom) × (slice_get (t.atoms ++ more) a ≡ Some y) × (y.home ≡ m))
  atoms_before m x e a = (
    (λ i. let r = (fine.atoms m x e a).0 i in (r.0, get_front t.atoms more a r.0 r.1, r.2)),
    (λ r. by_part r.0 r.2 (got_more a r.0 r.1)),
  )
    where
      by_part : (y : FlatAtom) → y.home ≡ m → (slice_get t.atoms a ≡ Some y) ⊎ ((y.home ≡ length t.membranes) × (length t.atoms ≤ a) × (a < length t.atoms + length atoms)) → In a x.atoms
      by_part y h (inl d) = (fine.atoms m x e a).1 (y, d, h)
      by_part y h (inr d) = let l = get_below t.membranes m x e in absurd (omega (arith, l, h, d.0))

  atoms_last : (a : ℕ) → In a (range_with_len (length t.atoms) (length atoms)) ↔ ((y : FlatAtom) × (slice_get (t.atoms ++ more) a ≡ Some y) × (y.home ≡ length t.membranes))
  atoms_last a = (
    (λ i. made (range_from a (length t.atoms) (length atoms) i)),
    (λ r. by_part r.0 r.2 (got_more a r.0 r.1)),
  )
    where
      made : (length t.atoms ≤ a) × (a < length t.atoms + length atoms) → (y : FlatAtom) × (slice_get (t.atoms ++ more) a ≡ Some y) × (y.home ≡ length t.membranes)
      made r =
          let s = split_at (length t.atoms) a r.0 in
          let g = get_there atoms s.0 (omega (arith, r.1, s.1)) in (
            at_home (length t.membranes) g.0,
            ap (slice_get (t.atoms ++ more)) s.1 ∙ get_behind t.atoms more s.0 ∙ slice_get-map (at_home (length t.membranes)) atoms s.0 ∙ ap (option_map (at_home (length t.membranes))) g.1,
            refl,
          )

      by_part : (y : FlatAtom) → y.home ≡ length t.membranes → (slice_get t.atoms a ≡ Some y) ⊎ ((y.home ≡ length t.membranes) × (length t.atoms ≤ a) × (a < length t.atoms + length atoms)) → In a (range_with_len (length t.atoms) (length atoms))
      by_part y h (inl d) = let l = fine.homes a y d in absurd (omega (arith, l, h))
      by_part y h (inr d) = in_range a (length t.atoms) (length atoms) d.1 d.2

  -- a membrane with its atoms more
  fine_added : Fine (added atoms rules p t)
  fine_added = record {
    atoms = λ m x e. by_row (λ m x. (a : ℕ) → In a x.atoms ↔ ((y : FlatAtom) × (slice_get (t.atoms ++ more) a ≡ Some y) × (y.home ≡ m))) atoms_before atoms_last m x e;
    homes = λ a y e. homes_more a y (got_more a y e);
    once = by_row (λ m x. Distinct x.atoms) fine.once (range_distinct (length t.atoms) (length atoms));
    rises = λ m x e. risen m x (get_either t.membranes row (suc m) x e);
    empty = by_row (λ m x. x.membranes ≡ []) fine.empty refl;
  }
    where
      by_row : (P : ℕ → FlatMembrane → Type 0) → ((m : ℕ) (x : FlatMembrane) → slice_get t.membranes m ≡ Some x → P m x) → P (length t.membranes) row → (m : ℕ) (x : FlatMembrane) → slice_get (t.membranes ++ row ∷ []) m ≡ Some x → P m x
      by_row P f last m x e = by_place P f last m x (get_either t.membranes row m x e)
        where
          by_place : (P : ℕ → FlatMembrane → Type 0) → ((m : ℕ) (x : FlatMembrane) → slice_get t.membranes m ≡ Some x → P m x) → P (length t.membranes) row → (m : ℕ) (x : FlatMembrane) → (slice_get t.membranes m ≡ Some x) ⊎ ((m ≡ length t.membranes) × (row ≡ x)) → P m x
          by_place P f last m x (inl d) = f m x d
          by_place P f last m x (inr d) = subst (P m) d.1 (subst (λ k. P k row) (sym d.0) last)

      homes_more : (a : ℕ) (y : FlatAtom) → (slice_get t.atoms a ≡ Some y) ⊎ ((y.home ≡ length t.membranes) × (length t.atoms ≤ a) × (a < length t.atoms + length atoms)) → y.home < length (t.membranes ++ row ∷ [])
      homes_more a y (inl d) = let l = fine.homes a y d in omega (arith, l, grown)
      homes_more a y (inr d) = omega (arith, d.0, grown)

      risen : (m : ℕ) (x : FlatMembrane) → (slice_get t.membranes (suc m) ≡ Some x) ⊎ ((suc m ≡ length t.membranes) × (row ≡ x)) → x.parent < suc m
      risen m x (inl d) = fine.rises m x d
      risen m x (inr d) = subst (λ (z : FlatMembrane). z.parent < suc m) d.1 (below m d.0)

-- ---- what is visited

-- how many atoms there are
abbrev pub count : Trees → ℕ
count none = 0
count (tree atoms rules inner rest) = length atoms + (count inner + count rest)

pub visited_membranes : (ts : Trees) (p : ℕ) (t : Tables) → length (visited ts p t).membranes ≡ length t.membranes + size ts
visited_membranes none p t = omega arith
visited_membranes (tree atoms rules inner rest) p t =
    let one = length-append t.membranes (lone_membrane p (length t.atoms) atoms rules ∷ []) in
    let a = visited_membranes inner (length t.membranes) (added atoms rules p t) in
    let b = visited_membranes rest p (visited inner (length t.membranes) (added atoms rules p t)) in
    omega (arith, one, a, b)

pub visited_atoms : (ts : Trees) (p : ℕ) (t : Tables) → length (visited ts p t).atoms ≡ length t.atoms + count ts
visited_atoms none p t = omega arith
visited_atoms (tree atoms rules inner rest) p t =
    let one = length-append t.atoms (map (at_home (length t.membranes)) atoms) in
    let two = length-map atoms (at_home (length t.membranes)) in
    let a = visited_atoms inner (length t.membranes) (added atoms rules p t) in
    let b = visited_atoms rest p (visited inner (length t.membranes) (added atoms rules p t)) in
    omega (arith, one, two, a, b)

pub fine_visited : (ts : Trees) (p : ℕ) (t : Tables) → Fine t → p < length t.membranes → Fine (visited ts p t)
fine_visited none p t f l = f
fine_visited (tree atoms rules inner rest) p t f l =
    let one = length-append t.membranes (lone_membrane p (length t.atoms) atoms rules ∷ []) in
    let t1 = added atoms rules p t in
    let g = fine_visited inner (length t.membranes) t1 (fine_added t f atoms rules p (λ m e. omega (arith, l, e))) (omega (arith, one)) in
    let n = visited_membranes inner (length t.membranes) t1 in
    fine_visited rest p (visited inner (length t.membranes) t1) g (omega (arith, l, one, n))

fine_none : Fine no_tables
fine_none = record {
  atoms = λ m x e. absurd (cc e);
  homes = λ a y e. absurd (cc e);
  once = λ m x e. absurd (cc e);
  rises = λ m x e. absurd (cc e);
  empty = λ m x e. absurd (cc e);
}

-- the tables of a whole tree
pub fine_whole : (atoms : List SolidAtom) (rules : List ℕ) (inner : Trees) → Fine (visited (tree atoms rules inner none) 0 no_tables)
fine_whole atoms rules inner = fine_visited inner 0 (added atoms rules 0 no_tables) (fine_added no_tables fine_none atoms rules 0 (λ m e. absurd (omega (arith, e)))) (omega arith)

-- ---- where what is visited stands

-- what stands in tables still stands in others
pub record Grows (t u : Tables) : Type 0 where
  pub atoms : (a : ℕ) (y : FlatAtom) → slice_get t.atoms a ≡ Some y → slice_get u.atoms a ≡ Some y
  pub membranes : (m : ℕ) (x : FlatMembrane) → slice_get t.membranes m ≡ Some x → slice_get u.membranes m ≡ Some x

grows_more : (t u v : Tables) → Grows t u → Grows u v → Grows t v
grows_more t u v f g = record { atoms = λ a y e. g.atoms a y (f.atoms a y e); membranes = λ m x e. g.membranes m x (f.membranes m x e) }

pub grows_same : (t : Tables) → Grows t t
grows_same t = record { atoms = λ a y e. e; membranes = λ m x e. e }

grows_added : (atoms : List SolidAtom) (rules : List ℕ) (p : ℕ) (t : Tables) → Grows t (added atoms rules p t)
grows_added atoms rules p t = record {
  atoms = λ a y e. get_front t.atoms (map (at_home (length t.membranes)) atoms) a y e;
  membranes = λ m x e. get_front t.membranes (lone_membrane p (length t.atoms) atoms rules ∷ []) m x e;
}

grows_visited : (ts : Trees) (p : ℕ) (t : Tables) → Grows t (visited ts p t)
grows_visited none p t = grows_same t
grows_visited (tree atoms rules inner rest) p t =
    let t1 = added atoms rules p t in
    let t2 = visited inner (length t.membranes) t1 in
    grows_more t t2 (visited rest p t2) (grows_more t t1 t2 (grows_added atoms rules p t) (grows_visited inner (length t.membranes) t1)) (grows_visited rest p t2)

-- the regions stand in the tables from these numbers of membranes and atoms on, in a membrane
abbrev pub Stands : Tables → Trees → ℕ → ℕ → ℕ → Type 0
Stands u none p k a = Unit {0}
Stands u (tree atoms rules inner rest) p k a =
    (slice_get u.membranes k ≡ Some (lone_membrane p a atoms rules))
    × ((i : ℕ) (x : SolidAtom) → slice_get atoms i ≡ Some x → slice_get u.atoms (a + i) ≡ Some (at_home k x))
    × Stands u inner k (suc k) (a + length atoms)
    × Stands u rest p (suc k + size inner) (a + length atoms + count inner)

stands_at : (u : Tables) (ts : Trees) (p : ℕ) {k l a b : ℕ} → k ≡ l → a ≡ b → Stands u ts p k a → Stands u ts p l b
stands_at u ts p {k} {l} {a} {b} e d s = subst (λ n. Stands u ts p n b) e (subst (λ n. Stands u ts p k n) d s)

pub stands_visited : (u : Tables) (ts : Trees) (p : ℕ) (t : Tables) → Grows (visited ts p t) u → Stands u ts p (length t.membranes) (length t.atoms)
stands_visited u none p t g = tt
stands_visited u (tree atoms rules inner rest) p t g =
    let k = length t.membranes in
    let t1 = added atoms rules p t in
    let t2 = visited inner k t1 in
    let from2 = grows_more t2 (visited rest p t2) u (grows_visited rest p t2) g in
    let from1 = grows_more t1 t2 u (grows_visited inner k t1) from2 in
    let one = length-append t.membranes (lone_membrane p (length t.atoms) atoms rules ∷ []) in
    let two = length-append t.atoms (map (at_home k) atoms) in
    let three = length-map atoms (at_home k) in
    let c = visited_membranes inner k t1 in
    let d = visited_atoms inner k t1 in
    let m1 : length t1.membranes ≡ suc k = omega (arith, one) in
    let a1 : length t1.atoms ≡ length t.atoms + length atoms = omega (arith, two, three) in
    let m2 : length t2.membranes ≡ suc k + size inner = omega (arith, c, m1) in
    let a2 : length t2.atoms ≡ length t.atoms + length atoms + count inner = omega (arith, d, a1) in (
      from1.membranes k (lone_membrane p (length t.atoms) atoms rules) (get_last t.membranes (lone_membrane p (length t.atoms) atoms rules)),
      (λ i x e. from1.atoms (length t.atoms + i) (at_home k x) (get_behind t.atoms (map (at_home k) atoms) i ∙ slice_get-map (at_home k) atoms i ∙ ap (option_map (at_home k)) e)),
      stands_at u inner k m1 a1 (stands_visited u inner k t1 from2),
      stands_at u rest p m2 a2 (stands_visited u rest p t2 g),
    )

-- ---- the forest of the membranes

-- the forest of regions whose membranes are numbered from one on
abbrev pub forest : ℕ → Trees → Forest
forest k none = bare
forest k (tree atoms rules inner rest) = mem k (forest (suc k) inner) (forest (suc k + size inner) rest)

-- the numbers of the outer ones
abbrev pub heads : ℕ → Trees → List ℕ
heads k none = []
heads k (tree atoms rules inner rest) = k ∷ heads (suc k + size inner) rest

-- a row of numbers in two parts
pub range_both : (s n m : ℕ) → range_with_len s (n + m) ≡ range_with_len s n ++ range_with_len (s + n) m
range_both s zero m = let e : 0 + m ≡ m = omega arith in let d : s ≡ s + 0 = omega arith in ap (range_with_len s) e ∙ ap (λ b. range_with_len b m) d
range_both s (suc n) m =
    let e : suc n + m ≡ suc (n + m) = omega arith in
    let d : s + 1 + n ≡ s + suc n = omega arith in
    ap (range_with_len s) e ∙ ap (λ l. s ∷ l) (range_both (s + 1) n m ∙ ap (λ b. range_with_len (s + 1) n ++ range_with_len b m) d)

-- a forest in preorder has its numbers in a row
pub forest_flat : (k : ℕ) (ts : Trees) → flat (forest k ts) ≡ range_with_len k (size ts)
forest_flat k none = refl
forest_flat k (tree atoms rules inner rest) =
    let e : suc k ≡ k + 1 = omega arith in
    ap (λ l. k ∷ l) (
    (λ i. forest_flat (suc k) inner i ++ forest_flat (suc k + size inner) rest i)
    ∙ sym (range_both (suc k) (size inner) (size rest))
    ∙ ap (λ b. range_with_len b (size inner + size rest)) e)
