-- How deep membranes stand, by the paths that lead to them.
use Rattle.std.proofs.Common.{ℕ, zero, suc, ◌≡◌, ◌∙◌, ◌+◌, ◌<◌, ◌≤◌, ◌⊎◌, inl, inr, List, [], ◌∷◌, ◌++◌, Option, Some, None, get_or, length, map, refl, sym, ap, subst, arith, append_assoc, length-append}
use Rattle.std.specs.Prelude.{◌↔◌, slice_get}
use Rattle.std.specs.List.{range_with_len}
use Rattle.std.specs.Option.{option_and_then, option_map}
use Rattle.std.proofs.lemmas.Bool.{cases_lt}
use Rattle.std.proofs.lemmas.Option.{same_Some}
use Rattle.lmn_base.specs.Lists.{In}
use Rattle.lmn_base.specs.declared.rule.RuleTree.{RuleTree}
use Rattle.lmn_base.specs.declared.solid.Solid.{Solid}
use Rattle.lmn_congruence.specs.Rules.{Name}
use Rattle.lmn_congruence.specs.Translation.{region_of}
use Rattle.lmn_store_heap.specs.Heap.{IsMem, home_by, mems_in, parent_of}
use Rattle.lmn_store_heap.specs.Sound.{bare, mem}
use Rattle.lmn_store_heap.proofs.Common.{in_at}
use Rattle.lmn_store_heap.proofs.Heights.{parent_is}
use Rattle.lmn_store_heap.proofs.Trees.{is_mem}
use Rattle.lmn_adequacy.specs.Choice.{paths}
use Rattle.lmn_adequacy_choices.proofs.Numbers.{numbered_alike}
use Rattle.lmn_adequacy_choices.specs.Laws.{EachWith, each_and, each_none}
use Rattle.lmn_adequacy_turns.specs.Turning.{Leads, enters, stays}
use Rattle.lmn_solid_tables.specs.Flats.{IsFlatOf, heap_membrane, heap_of, reading_of}
use Rattle.lmn_solid_tables.specs.declared.flat.Flat.{Flat}
use Rattle.lmn_solid_tables.specs.declared.tables.FlatMembrane.{FlatMembrane}
use Rattle.lmn_solid_tables.proofs.Preorder.{in_range, range_from}
use Rattle.lmn_receipt_search.proofs.Sizing.{children}

-- ---- how many membranes there are

module _ (s : Solid) (flat : Flat) (w : IsFlatOf s flat) (count : ℕ) (counts : (m : ℕ) → IsMem (heap_of flat) m ↔ (m < count)) where
  abbrev many : ℕ
  many = length flat.membranes.items

  below : (m : ℕ) → m < many → m < count
  below m l = (counts m).0 (is_mem (heap_of flat) w.valid.sound (mem 0 w.inner bare) w.tree m (subst (In m) (sym w.preorder) (in_range m 0 many (omega arith) (omega (arith, l)))))

  above : (m : ℕ) → m < count → m < many
  above m l = let b = (range_from m 0 many (subst (In m) w.preorder (w.tree.all m ((counts m).1 l)))).1 in omega (arith, b)

  pub as_many : many ≡ count
  as_many = elim (cases_lt many count) [
    | inl l ↦ absurd (let b = above many l in omega (arith, b))
    | inr g ↦ elim (cases_lt count many) [ inl l ↦ absurd (let b = below count l in omega (arith, b)) | inr k ↦ omega (arith, g, k) ]
  ]

-- ---- what has a number in two lists

-- what is related to an element at a number stands at that number
pub record AtNumber {A B : Type 0} (R : A → B → Type 0) (xs : List A) (y : B) (number : ℕ) : Type 0 where
  pub earlier : List A
  pub here : A
  pub later : List A
  pub all : xs ≡ earlier ++ here ∷ later
  pub related : R here y
  pub number_is : length earlier ≡ number

pub at_number : {A B : Type 0} (R : A → B → Type 0) (y : B) (n : ℕ) {xs : List A} {ys : List B} → EachWith R xs ys → slice_get ys n ≡ Some y → AtNumber R xs y n
at_number R y n each_none e = absurd (cc)
at_number R y zero (each_and {x = x} {y = z} {xs = xs} r k) e = record { earlier = []; here = x; later = xs; all = refl; related = subst (R x) (same_Some z y e) r; number_is = refl }
at_number R y (suc n) (each_and {x = x} r k) e =
    let u = at_number R y n k e in
    record { earlier = x ∷ u.earlier; here = u.here; later = u.later; all = ap (λ zs. x ∷ zs) u.all; related = u.related; number_is = ap suc u.number_is }

-- ---- depths so far

-- no membrane is round the root
root_alone : (flat : Flat) → parent_of (heap_of flat) 0 ≡ None
root_alone flat = by (slice_get flat.membranes.items 0)
  where
    by : (o : Option FlatMembrane) → option_and_then (λ x. home_by x.place) (option_map (heap_membrane 0) o) ≡ None
    by None = refl
    by (Some x) = refl

old_one : (xs : List ℕ) (y i : ℕ) → i < length xs → get_or (xs ++ y ∷ []) i 0 ≡ get_or xs i 0
old_one [] y i l = absurd (omega (arith, l))
old_one (x ∷ xs) y zero l = refl
old_one (x ∷ xs) y (suc i) l = old_one xs y i (omega (arith, l))

new_one : (xs : List ℕ) (y i : ℕ) → i ≡ length xs → get_or (xs ++ y ∷ []) i 0 ≡ y
new_one [] y zero e = refl
new_one [] y (suc i) e = absurd (omega (arith, e))
new_one (x ∷ xs) y zero e = absurd (omega (arith, e))
new_one (x ∷ xs) y (suc i) e = new_one xs y i (omega (arith, e))

-- The depths of the membranes below a number: the root stands at 0, and what stands in a membrane one deeper.
pub record AreDepths (flat : Flat) (number : ℕ) (depths : List ℕ) : Type 0 where
  pub many : length depths ≡ number
  pub root : 0 < number → get_or depths 0 0 ≡ 0
  pub inside : (x y : ℕ) → In y (mems_in (heap_of flat) x) → y < number → get_or depths y 0 ≡ get_or depths x 0 + 1

pub no_depths : (flat : Flat) → AreDepths flat 0 []
no_depths flat = record { many = refl; root = λ l. absurd (omega (arith, l)); inside = λ x y i l. absurd (omega (arith, l)) }

-- one depth more
pub depths_more : (s : Solid) (flat : Flat) → IsFlatOf s flat → (m depth : ℕ) (depths all : List ℕ) (outer : Option ℕ) → all ≡ depths ++ depth ∷ [] → AreDepths flat m depths → parent_of (heap_of flat) m ≡ outer
    → (outer ≡ None → depth ≡ 0) → ((x : ℕ) → outer ≡ Some x → depth ≡ get_or depths x 0 + 1) → AreDepths flat (m + 1) all
depths_more s flat w m depth depths all outer is old around at_root within =
    subst (AreDepths flat (m + 1)) (sym is) (record {
      many = length-append depths (depth ∷ []) ∙ (let many = old.many in omega (arith, many));
      root = λ l. first (cases_lt 0 m);
      inside = λ x y i l. inner x y i l (cases_lt y m);
    })
  where
    first : (0 < m) ⊎ (m ≤ 0) → get_or (depths ++ depth ∷ []) 0 0 ≡ 0
    first (inl l) = old_one depths depth 0 (let many = old.many in omega (arith, many, l)) ∙ old.root l
    first (inr g) =
        let none : m ≡ 0 = omega (arith, g) in
        new_one depths depth 0 (let many = old.many in omega (arith, many, none)) ∙ at_root (sym around ∙ ap (parent_of (heap_of flat)) none ∙ root_alone flat)

    inner : (x y : ℕ) → In y (mems_in (heap_of flat) x) → y < m + 1 → (y < m) ⊎ (m ≤ y) → get_or (depths ++ depth ∷ []) y 0 ≡ get_or (depths ++ depth ∷ []) x 0 + 1
    inner x y i l (inl b) =
        let many = old.many in
        let less = (children flat w.valid x y i).greater in
        old_one depths depth y (omega (arith, many, b)) ∙ old.inside x y i b ∙ ap (λ n. n + 1) (sym (old_one depths depth x (omega (arith, many, b, less))))
    inner x y i l (inr g) =
        let many = old.many in
        let less = (children flat w.valid x y i).greater in
        let here : y ≡ m = omega (arith, l, g) in
        let parent = sym around ∙ ap (parent_of (heap_of flat)) (sym here) ∙ parent_is (heap_of flat) w.valid.sound.listed y x i in
        new_one depths depth y (omega (arith, many, here)) ∙ within x parent ∙ ap (λ n. n + 1) (sym (old_one depths depth x (omega (arith, many, here, less))))

-- ---- all depths

module _ (s : Solid) (flat : Flat) (w : IsFlatOf s flat) (count : ℕ) (counts : (m : ℕ) → IsMem (heap_of flat) m ↔ (m < count)) (depths : List ℕ) (are : AreDepths flat count depths) where
  -- a path is as long as what it leads to stands deeper
  by_path : {m x : ℕ} {path : List ℕ} → Leads (heap_of flat) m path x → get_or depths m 0 ≡ get_or depths x 0 + length path
  by_path stays = omega arith
  by_path (enters {n = n} {x = x} {y = y} {path = path} e l) =
      let inside = in_at (mems_in (heap_of flat) x) n y e in
      let there = (counts y).0 (children flat w.valid x y inside).there in
      let one = are.inside x y inside there in
      let more = by_path l in
      omega (arith, one, more)

  -- so the depths are the lengths of paths
  by_paths : {ps : List (List ℕ)} {ms : List ℕ} → 0 < count → EachWith (λ path m. Leads (heap_of flat) m path 0) ps ms → map length ps ≡ map (λ m. get_or depths m 0) ms
  by_paths some each_none = refl
  by_paths some (each_and {x = path} {y = m} l k) =
      let at = by_path l in
      let root = are.root some in
      let here : length path ≡ get_or depths m 0 = omega (arith, at, root) in
      (λ i. here i ∷ by_paths some k i)

  in_turn : (front rest : List ℕ) → map (λ m. get_or (front ++ rest) m 0) (range_with_len (length front) (length rest)) ≡ rest
  in_turn front [] = refl
  in_turn front (d ∷ rest) =
      let again : (front ++ d ∷ []) ++ rest ≡ front ++ d ∷ rest = append_assoc front (d ∷ []) rest in
      let further : length (front ++ d ∷ []) ≡ length front + 1 = length-append front (d ∷ []) in
      let more : map (λ m. get_or (front ++ d ∷ rest) m 0) (range_with_len (length front + 1) (length rest)) ≡ rest =
      (λ i. map (λ m. get_or (sym again i) m 0) (range_with_len (sym further i) (length rest))) ∙ in_turn (front ++ d ∷ []) rest in
      (λ i. at front i ∷ more i)
    where
      at : (front : List ℕ) → get_or (front ++ d ∷ rest) (length front) 0 ≡ d
      at [] = refl
      at (x ∷ front) = at front

  pub depths_are : (names : List Name) (table : List RuleTree) → depths ≡ map length (paths (region_of names table s))
  depths_are names table =
      let some = (counts 0).0 (is_mem (heap_of flat) w.valid.sound (mem 0 w.inner bare) w.tree 0 (inl refl)) in
      let alike = numbered_alike (heap_of flat) (reading_of names table flat) w.inner w.tree in
      let many : length flat.membranes.items ≡ length depths = as_many s flat w count counts ∙ sym are.many in
      sym (in_turn [] depths) ∙ ap (λ n. map (λ m. get_or depths m 0) (range_with_len 0 n)) (sym many) ∙ ap (map (λ m. get_or depths m 0)) (sym w.preorder) ∙ sym (by_paths some alike.numbers)
      ∙ ap (λ z. map length (paths z)) (w.region names table)
