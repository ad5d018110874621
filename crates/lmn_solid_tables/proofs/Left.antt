-- Which membranes are left in a membrane.
use Rattle.std.proofs.Common.{ℕ, zero, suc, Bool, true, false, ◌≡◌, ◌≢◌, ◌+◌, ◌<◌, ◌≤◌, ◌⊎◌, inl, inr, ◌↔◌, List, [], ◌∷◌, ◌++◌, length, refl, sym, ap, subst, ◌∙◌, arith}
use Rattle.std.proofs.lemmas.Option.{slice_get-get_or}
use Rattle.std.specs.Prelude.{AllPairs, Option, Some, None, IsSome, ◌==◌, ◌||◌, not, slice_get, slice_index_or}
use Rattle.std.specs.List.{list_any}
use Rattle.std.proofs.lemmas.List.{length-append}
use Rattle.std.proofs.lemmas.List.Quantifiers.{all_pairs_push}
use Rattle.std.specs.Option.{option_and_then, option_map}
use Rattle.lmn_base.specs.Lists.{In}
use Rattle.lmn_base.proofs.Lists.{get_either, in_snoc}
use Rattle.lmn_base.proofs.Numbers.{below_next2, equal_itself, equal_when}
use Rattle.lmn_base.proofs.Truth.{either_true, never_both, not_true}
use Rattle.lmn_store_heap.proofs.Common.{in_at}
use Rattle.lmn_store_heap.specs.Heap.{HeapMem, Place, top, within, waiting, gone, home_by, mems_in, parent_of}
use Rattle.lmn_store_heap.specs.Conditions.{Above}
use Rattle.lmn_store_heap.specs.Sound.{Valid}
use Rattle.lmn_store_heap.proofs.ListLemmas.{in_left, in_right}
use Rattle.lmn_solid_tables.specs.declared.flat.Flat.{Flat}
use Rattle.lmn_solid_tables.specs.declared.tables.FlatMembrane.{FlatMembrane}
use Rattle.lmn_solid_tables.specs.Flats.{IsLeft, heap_of}
use Rattle.lmn_solid_tables.proofs.Climbing.{round_it, above_at_most, mem_in_table, parent_less}

to_parent : (o : Option HeapMem) (m : ℕ) → option_map (λ (x : HeapMem). x.place) o ≡ Some (within m) → option_and_then (λ (x : HeapMem). home_by x.place) o ≡ Some m
to_parent None m e = absurd (cc e)
to_parent (Some x) m e = by_place x.place (cc e)
  where
    by_place : (p : Place) → p ≡ within m → home_by p ≡ Some m
    by_place p e = ap home_by e

from_parent : (o : Option HeapMem) (m : ℕ) → option_and_then (λ (x : HeapMem). home_by x.place) o ≡ Some m → option_map (λ (x : HeapMem). x.place) o ≡ Some (within m)
from_parent None m e = absurd (cc e)
from_parent (Some x) m e = ap Some (by_place x.place e)
  where
    by_place : (p : Place) → home_by p ≡ Some m → p ≡ within m
    by_place top e = absurd (cc e)
    by_place (within n) e = ap within (cc e)
    by_place waiting e = absurd (cc e)
    by_place gone e = absurd (cc e)

has_parent : (o : Option HeapMem) (m : ℕ) → option_and_then (λ (x : HeapMem). home_by x.place) o ≡ Some m → IsSome o
has_parent None m e = absurd (cc e)
has_parent (Some x) m e = refl

module _ (flat : Flat) (valid : Valid (heap_of flat)) (home : ℕ) (images : List ℕ) where
  -- what stands in a membrane, by the membrane round it
  child_parent : (c : ℕ) → In c (mems_in (heap_of flat) home) → parent_of (heap_of flat) c ≡ Some home
  child_parent c i = to_parent ((heap_of flat).mems c) home ((valid.sound.listed.mems home c).0 i)

  parent_child : (c : ℕ) → parent_of (heap_of flat) c ≡ Some home → In c (mems_in (heap_of flat) home)
  parent_child c e = (valid.sound.listed.mems home c).1 (from_parent ((heap_of flat).mems c) home e)

  left_past : (n : ℕ) → IsLeft (heap_of flat) images home n → home < n
  left_past n h =
      let a = parent_less flat h.0 home (child_parent h.0 h.1) in
      let b = above_at_most flat h.3.0 h.0 n h.3.1 in
      omega (arith, a, b)

  -- one that is left stands in the table
  pub left_below : (n : ℕ) → IsLeft (heap_of flat) images home n → n < length flat.membranes.items
  left_below n h = by_steps h.3.0 h.3.1
    where
      by_steps : (k : ℕ) → Above (heap_of flat) k h.0 n → n < length flat.membranes.items
      by_steps zero a = mem_in_table flat n (has_parent ((heap_of flat).mems n) home (ap (parent_of (heap_of flat)) a ∙ child_parent h.0 h.1))
      by_steps (suc k) a = mem_in_table flat n (has_parent ((heap_of flat).mems n) a.0 a.1)

  left_child : (n : ℕ) → parent_of (heap_of flat) n ≡ Some home → IsLeft (heap_of flat) images home n ↔ (¬ In n images)
  left_child n e = (
    (λ h i. by_steps h.0 h.1 h.2 i h.3.0 h.3.1),
    (λ d. (n, parent_child n e, d, (0, refl))),
  )
    where
      by_steps : (c : ℕ) → In c (mems_in (heap_of flat) home) → (¬ In c images) → In n images → (k : ℕ) → Above (heap_of flat) k c n → ⊥
      by_steps c i d g zero a = d (subst (λ m. In m images) a g)
      by_steps c i d g (suc k) a =
          let p : a.0 ≡ home = cc (a.1, e) in
          let l = parent_less flat c home (child_parent c i) in
          let m = above_at_most flat k c a.0 a.2 in
          omega (arith, p, l, m)

  left_inner : (n p : ℕ) → parent_of (heap_of flat) n ≡ Some p → p ≢ home → IsLeft (heap_of flat) images home n ↔ IsLeft (heap_of flat) images home p
  left_inner n p e d = (
    (λ h. by_steps h.0 h.1 h.2 h.3.0 h.3.1),
    (λ h. (h.0, h.1, h.2, (suc h.3.0, (p, e, h.3.1)))),
  )
    where
      by_steps : (c : ℕ) → In c (mems_in (heap_of flat) home) → (¬ In c images) → (k : ℕ) → Above (heap_of flat) k c n → IsLeft (heap_of flat) images home p
      by_steps c i g zero a = let q = ap (parent_of (heap_of flat)) a ∙ child_parent c i in absurd (d (cc (q, e)))
      by_steps c i g (suc k) a = let q : a.0 ≡ p = cc (a.1, e) in (c, i, g, (k, subst (Above (heap_of flat) k c) q a.2))

  -- one that doesn't stand behind it
  pub left_not : (n : ℕ) → n ≤ home → false ≡ true ↔ IsLeft (heap_of flat) images home n
  left_not n l = ((λ e. absurd (cc e)), (λ h. let m = left_past n h in absurd (omega (arith, l, m))))

  module _ (n : ℕ) (x : FlatMembrane) (past : home < n) (below : n < length flat.membranes.items) (is : x ≡ slice_index_or flat.membranes.items n x) where
    abbrev stands_in : parent_of (heap_of flat) n ≡ Some x.parent
    stands_in = round_it flat home n x past below is

    -- one that stands directly in it
    pub left_direct : x.parent ≡ home → IsLeft (heap_of flat) images home n ↔ (¬ In n images)
    left_direct e = left_child n (stands_in ∙ ap Some e)

    -- one that stands in another one
    pub left_deeper : x.parent ≢ home → IsLeft (heap_of flat) images home n ↔ IsLeft (heap_of flat) images home x.parent
    left_deeper d = left_inner n x.parent stands_in d

-- ---- images

any_in : (n : ℕ) (xs : List ℕ) → (list_any (λ y. y == n) xs ≡ true) ↔ In n xs
any_in n [] = ((λ e. absurd (cc e)), (λ i. absurd i))
any_in n (x ∷ xs) = (
  (λ e. forth (either_true (x == n) (list_any (λ y. y == n) xs) e) (any_in n xs).0),
  (λ i. back i (any_in n xs).1),
)
  where
    forth : ((x == n) ≡ true) ⊎ (list_any (λ y. y == n) xs ≡ true) → (list_any (λ y. y == n) xs ≡ true → In n xs) → In n (x ∷ xs)
    forth (inl e) f = inl (equal_when x n e)
    forth (inr e) f = inr (f e)

    back : In n (x ∷ xs) → (In n xs → list_any (λ y. y == n) xs ≡ true) → ((x == n) || list_any (λ y. y == n) xs) ≡ true
    back (inl e) f = ap (λ m. (m == n) || list_any (λ y. y == n) xs) e ∙ ap (λ b. b || list_any (λ y. y == n) xs) (equal_itself n)
    back (inr i) f = ap (λ b. (x == n) || b) (f i) ∙ or_true (x == n)
      where
        or_true : (b : Bool) → (b || true) ≡ true
        or_true true = refl
        or_true false = refl

-- whether a number isn't among the images
pub not_among : (n : ℕ) (xs : List ℕ) (r : Bool) → r ≡ list_any (λ y. y == n) xs → (not r ≡ true) ↔ (¬ In n xs)
not_among n xs r e = (
  (λ t i. never_both r (e ∙ (any_in n xs).1 i) (not_true r t)),
  (λ f. by_test r e f),
)
  where
    by_test : (r : Bool) → r ≡ list_any (λ y. y == n) xs → (¬ In n xs) → not r ≡ true
    by_test true d f = absurd (f ((any_in n xs).0 (sym d)))
    by_test false d f = refl

-- ---- the membranes so far

-- of the first n numbers it is known whether P holds of them, and those of which it does are listed
pub record Kept (P : ℕ → Type 0) (flags : List Bool) (left : List ℕ) (n : ℕ) : Type 0 where
  pub many : length flags ≡ n
  pub each : (m : ℕ) (b : Bool) → slice_get flags m ≡ Some b → (b ≡ true) ↔ P m
  pub listed : (m : ℕ) → In m left ↔ ((m < n) × P m)
  pub order : AllPairs (λ m n. m < n) left

pub kept_none : (P : ℕ → Type 0) → Kept P [] [] 0
kept_none P = record {
  many = refl;
  each = λ m b e. absurd (cc e);
  listed = λ m. ((λ i. absurd i), (λ r. absurd (omega (arith, r.0))));
  order = λ i j d l m. absurd (omega (arith, m));
}

module _ (P : ℕ → Type 0) (flags more : List Bool) (left : List ℕ) (n : ℕ) (b : Bool) (kept : Kept P flags left n) (is : more ≡ flags ++ b ∷ []) (decided : (b ≡ true) ↔ P n) where
  many_more : length more ≡ n + 1
  many_more = let e = ap length is ∙ length-append flags (b ∷ []) in omega (arith, e, kept.many)

  each_more : (m : ℕ) (c : Bool) → slice_get more m ≡ Some c → (c ≡ true) ↔ P m
  each_more m c e = by_place (get_either flags b m c (ap (λ bs. slice_get bs m) (sym is) ∙ e))
    where
      by_place : (slice_get flags m ≡ Some c) ⊎ ((m ≡ length flags) × (b ≡ c)) → (c ≡ true) ↔ P m
      by_place (inl d) = kept.each m c d
      by_place (inr d) = subst (λ c. (c ≡ true) ↔ P m) d.1 (subst (λ k. (b ≡ true) ↔ P k) (sym (d.0 ∙ kept.many)) decided)

  -- one that is left is listed
  pub kept_left : b ≡ true → (now : List ℕ) → now ≡ left ++ n ∷ [] → Kept P more now (n + 1)
  kept_left t now d = record {
    many = many_more;
    each = each_more;
    listed = λ m. (
      (λ i. forth m (in_snoc m n left (subst (In m) d i))),
      (λ r. back m r.1 (below_next2 m n r.0)),
    );
    order = subst (AllPairs (λ m n. m < n)) (sym d) (all_pairs_push (λ m n. m < n) left n kept.order (λ k e l. ((kept.listed (slice_index_or left k e)).0 (in_at left k (slice_index_or left k e) (slice_get-get_or left k e l))).0));
  }
    where
      forth : (m : ℕ) → In m left ⊎ (m ≡ n) → (m < n + 1) × P m
      forth m (inl i) = let r = (kept.listed m).0 i in (omega (arith, r.0), r.1)
      forth m (inr e) = (omega (arith, e), subst P (sym e) (decided.0 t))

      back : (m : ℕ) → P m → (m < n) ⊎ (m ≡ n) → In m now
      back m p (inl l) = subst (In m) (sym d) (in_left m left (n ∷ []) ((kept.listed m).1 (l, p)))
      back m p (inr e) = subst (In m) (sym d) (in_right m left (n ∷ []) (inl (sym e)))

  -- another one isn't
  pub kept_out : b ≡ false → (now : List ℕ) → now ≡ left → Kept P more now (n + 1)
  kept_out t now d = record {
    many = many_more;
    each = each_more;
    listed = λ m. (
      (λ i. let r = (kept.listed m).0 (subst (In m) d i) in (omega (arith, r.0), r.1)),
      (λ r. back m r.1 (below_next2 m n r.0)),
    );
    order = subst (AllPairs (λ m n. m < n)) (sym d) kept.order;
  }
    where
      back : (m : ℕ) → P m → (m < n) ⊎ (m ≡ n) → In m now
      back m p (inl l) = subst (In m) (sym d) ((kept.listed m).1 (l, p))
      back m p (inr e) = absurd (never_both b (decided.1 (subst P e p)) t)
