-- The index of a store over a web after each call.
use Rattle.std.proofs.Common.{ℕ, suc, ◌≡◌, ◌≢◌, ◌⊎◌, ◌≤◌, ◌<◌, ◌==◌, Bool, true, false, cond, List, [], ◌∷◌, ◌++◌, length, map, Option, Some, None, IsSome, refl, sym, ap, subst, ◌∙◌, inl, inr, arith}
use Rattle.std.proofs.lemmas.Bool.{cases_eq, eq-eqb, eqb-true, ltb-true}
use Rattle.std.proofs.lemmas.List.{length-set, length-append}
use Rattle.std.specs.Prelude.{nat_lt, slice_get, slice_set, unwrap_or}
use Rattle.lmn_base.specs.Lists.{In}
use Rattle.lmn_base.proofs.Lists.{get_below, get_front, get_end, get_set, get_set_away}
use Rattle.lmn_base.proofs.Numbers.{at_most_by_test}
use Rattle.lmn_store_heap.specs.Heap.{Heap, HeapMem, top, within, waiting, IsMem, mems_in, mems_by, mem_place_of, mem_marked, new_mem, mem_with_place, made_mem, parent_of, placed_mem, taken_mem, moved_all}
use Rattle.lmn_store_heap.specs.Sound.{Listed}
use Rattle.lmn_store_heap.specs.Conditions.{IsOutside}
use Rattle.lmn_store_heap.proofs.Heights.{mem_of_place}
use Rattle.lmn_store_heap.proofs.Listing.{alter_at, alter_away, waiting_apart}
use Rattle.lmn_store_web_preorder.specs.Nests.{Nest, IsTop, IsOneOf, with_awake, with_key, put, taken_from, moved, empty_nest, CanAdd, CanPut, CanTake, CanMove}
use Rattle.lmn_web.specs.Webs.{WebCell, web_label}
use Rattle.lmn_store_web.specs.Indexes.{IsNestOf, IsIndexed, held, key_of}
use Rattle.lmn_store_web.specs.WebHeaps.{alone}
use Rattle.lmn_store_web.proofs.MemLists.{seen_by, mark_there, out_marks, in_marks, move_marks}
use Rattle.lmn_store_web.proofs.NestLemmas.{seen_there, awake_away, nest_same, nest_marked, nest_root_marked, nest_placed, nest_taken, nest_moved, nest_add, nest_put, nest_take, nest_move, nest_made, nest_fewer, nest_top}

-- A list with a number at a key

module _ (k m : ℕ) (xs : List ℕ) (low : k ≤ length xs) where
  -- it is there
  pub held_at : slice_get (held k m xs) k ≡ Some m
  held_at = by (nat_lt k (length xs)) refl
    where
      by : (b : Bool) → nat_lt k (length xs) ≡ b → slice_get (cond b (slice_set xs k m) (xs ++ m ∷ [])) k ≡ Some m
      by true e = get_set xs k m (ltb-true k (length xs) e)
      by false e = let n = at_most_by_test k (length xs) e in let same : length xs ≡ k = omega (arith, n, low) in subst (λ z. slice_get (xs ++ m ∷ []) z ≡ Some m) same (get_end xs m)

  -- all others are as they were
  pub held_away : (j y : ℕ) → j ≢ k → slice_get xs j ≡ Some y → slice_get (held k m xs) j ≡ Some y
  held_away j y d e = by (nat_lt k (length xs))
    where
      by : (b : Bool) → slice_get (cond b (slice_set xs k m) (xs ++ m ∷ [])) j ≡ Some y
      by true = get_set_away xs k m j d ∙ e
      by false = get_front xs (m ∷ []) j y e

  -- and it is as long as needed
  pub held_long : (n : Nest) → length xs ≤ n.keys → length (held k m xs) ≤ (with_key k n).keys
  held_long n few = by (nat_lt k (length xs)) refl (k == n.keys) refl
    where
      by : (b : Bool) → nat_lt k (length xs) ≡ b → (c : Bool) → (k == n.keys) ≡ c → length (cond b (slice_set xs k m) (xs ++ m ∷ [])) ≤ cond c (suc k) n.keys
      by true e true f = let z = length-set xs k m in let q = eqb-true k n.keys f in omega (arith, z, q, few)
      by true e false f = let z = length-set xs k m in omega (arith, z, few)
      by false e true f = let z = length-append xs (m ∷ []) in let q = eqb-true k n.keys f in omega (arith, z, q, few)
      by false e false f =
          let z = length-append xs (m ∷ []) in
          let w = at_most_by_test k (length xs) e in
          let d : k ≢ n.keys = λ q. (let t : true ≡ false = sym (eq-eqb k n.keys q) ∙ f in absurd (cc)) in
          omega (arith, z, w, low, few, d)

-- an index of a heap is one of the same heap, with the same keys
pub index_by : (holds : Nest → Type 0) (ms : List ℕ) (key new : ℕ → ℕ) (h t : Heap) → ((m : ℕ) → new m ≡ key m) → t ≡ h → IsIndexed holds ms key h → IsIndexed holds ms new t
index_by holds ms key new h t e f x = subst (λ (k : ℕ → ℕ). IsIndexed holds ms k t) (λ i m. sym (e m) i) (subst (λ (u : Heap). IsIndexed holds ms key u) (sym f) x)

module _ (holds : Nest → Type 0) (ms : List ℕ) (key : ℕ → ℕ) (h : Heap) (x : IsIndexed holds ms key h) where
  -- no two membranes have one key
  pub own : (y z : ℕ) → IsMem h y → IsMem h z → key y ≡ key z → y ≡ z
  own y z i j e = let f : Some y ≡ Some z = sym (x.cells y i) ∙ ap (λ k. slice_get ms k) e ∙ x.cells z j in let g : y ≡ z = (cc) in g

  -- the key of a membrane is one
  pub below : (m : ℕ) → IsMem h m → key m < x.nest.keys
  below m i = let g = get_below ms (key m) m (x.cells m i) in let f = x.few in omega (arith, g, f)

  -- where the membranes are the same
  pub index_same : (new : ℕ → ℕ) (t : Heap) → t.root ≡ h.root → ((m : ℕ) → seen_by (t.mems m) ≡ seen_by (h.mems m)) → ((m : ℕ) → IsMem h m → new m ≡ key m) → ((m y : ℕ) → In y (mems_in h m) → new y ≡ key y) → IsIndexed holds ms new t
  index_same new t root same names members = record {
    nest = x.nest;
    nested = x.nested;
    agrees = nest_same key new h t x.nest root same names members x.agrees;
    cells = λ m i. let j = seen_there (t.mems m) (h.mems m) (same m) i in ap (λ k. slice_get ms k) (names m j) ∙ x.cells m j;
    few = x.few;
  }

  -- and all keys are
  pub index_kept : (new : ℕ → ℕ) (t : Heap) → t.root ≡ h.root → ((m : ℕ) → new m ≡ key m) → ((m : ℕ) → seen_by (t.mems m) ≡ seen_by (h.mems m)) → IsIndexed holds ms new t
  index_kept new t root names same = index_same new t root same (λ m i. names m) (λ m y i. names y)

  -- `set_mem_mark`
  pub index_marked : (also : Nest → Type 0) (m v k : ℕ) → IsMem h m → key m ≡ k → also (with_awake k (v == 0) x.nest) → IsIndexed also ms key (mem_marked h m v)
  index_marked also m v k i e now = record {
    nest = with_awake k (v == 0) x.nest;
    nested = now;
    agrees = subst (λ z. IsNestOf key (mem_marked h m v) (with_awake z (v == 0) x.nest)) e (nest_marked key h x.nest x.agrees own m v i);
    cells = λ y j. x.cells y (sym (mark_there h m v y) ∙ j);
    few = x.few;
  }

  -- and of the root, of which the index isn't told
  pub index_root_marked : (m v : ℕ) → m ≡ h.root → IsIndexed holds ms key (mem_marked h m v)
  index_root_marked m v e = subst (λ z. IsIndexed holds ms key (mem_marked h z v)) (sym e) (record {
    nest = x.nest;
    nested = x.nested;
    agrees = nest_root_marked key h x.nest x.agrees own v;
    cells = λ y j. x.cells y (sym (mark_there h h.root v y) ∙ j);
    few = x.few;
  })

  module _ (listed : Listed h) where
    -- the key of a membrane that stands in none stands in none
    pub nest_alone : (y : ℕ) → IsMem h y → ((p : ℕ) → In y (mems_in h p) → ⊥) → IsTop x.nest (key y)
    nest_alone y i alone = nest_top key h x.nest x.agrees own listed y i alone

    -- the key that a new membrane gets
    pub index_add : (k : ℕ) → k ≤ length ms → ((m : ℕ) → IsMem h m → key m ≢ k) → CanAdd x.nest k
    index_add k low free = let f = x.few in nest_add key h x.nest x.agrees own listed k (omega (arith, low, f)) free

    -- `make_mem`
    pub index_made : (also : Nest → Type 0) (new : ℕ → ℕ) (c k : ℕ) → h.mems c ≡ None → k ≤ length ms → ((m : ℕ) → IsMem h m → key m ≢ k) → new c ≡ k → ((m : ℕ) → m ≢ c → IsMem h m → new m ≡ key m)
        → also (with_key k x.nest) → IsIndexed also (held k c ms) new (made_mem h c)
    index_made also new c k fresh low free at names now = record {
      nest = with_key k x.nest;
      nested = now;
      agrees = nest_made key h x.nest x.agrees own listed new c k fresh free at names;
      cells = λ m i. elim (cases_eq m c) [
        | inl e ↦ subst (λ z. slice_get (held k c ms) (new z) ≡ Some z) (sym e) (subst (λ z. slice_get (held k c ms) z ≡ Some c) (sym at) (held_at k c ms low))
        | inr d ↦ (let j : IsMem h m = subst (λ (o : Option HeapMem). IsSome o) (alter_away h.mems c (λ _. Some new_mem) m d) i in
            let e = names m d j in
            held_away k c ms low (new m) m (λ q. free m j (sym e ∙ q)) (ap (λ z. slice_get ms z) e ∙ x.cells m j))
      ];
      few = held_long k c ms low x.nest x.few;
    }

    -- where a key is added and nothing else is done
    pub index_added : (also : Nest → Type 0) (k : ℕ) → k ≤ length ms → ((m : ℕ) → IsMem h m → key m ≢ k) → also (with_key k x.nest) → IsIndexed also ms key h
    index_added also k low free now = record {
      nest = with_key k x.nest;
      nested = now;
      agrees = record {
        inside = x.agrees.inside;
        awake = λ m i d. awake_away k true x.nest (key m) (free m i) ∙ x.agrees.awake m i d;
        others = x.agrees.others;
      };
      cells = x.cells;
      few = more (k == x.nest.keys) refl;
    }
      where
        more : (c : Bool) → (k == x.nest.keys) ≡ c → length ms ≤ cond c (suc k) x.nest.keys
        more true e = let f = x.few in let q = eqb-true k x.nest.keys e in omega (arith, f, q)
        more false e = x.few

    -- `place_mem`
    pub index_put : (m y a b : ℕ) → IsMem h m → y ≢ m → mem_place_of h y ≡ Some waiting → key m ≡ a → key y ≡ b → CanPut x.nest a b
    index_put m y a b i d waits e f =
        let j = mem_of_place h y waiting waits in
        let alone : (p : ℕ) → In y (mems_in h p) → ⊥ = λ p q. (let z : Some waiting ≡ Some (within p) = sym waits ∙ (listed.mems p y).0 q in let u : waiting ≡ within p = (cc) in waiting_apart p u) in
        subst (λ z. CanPut x.nest z b) e (subst (λ z. CanPut x.nest (key m) z) f (nest_put key h x.nest x.agrees own listed m y i j d (listed.new_empty y waits).1 alone (below m i) (below y j)))

    pub index_placed : (also : Nest → Type 0) (m y a b : ℕ) → IsMem h m → key m ≡ a → key y ≡ b → also (put a b x.nest) → IsIndexed also ms key (placed_mem h m y)
    index_placed also m y a b i e f now = record {
      nest = put a b x.nest;
      nested = now;
      agrees = subst (λ z. IsNestOf key (placed_mem h m y) (put z b x.nest)) e (subst (λ z. IsNestOf key (placed_mem h m y) (put (key m) z x.nest)) f (nest_placed key h x.nest x.agrees own m y i));
      cells = λ z j. x.cells z ((in_marks h m y).back z j);
      few = x.few;
    }

    -- `take_mem`
    pub index_take : (p y a b : ℕ) → IsMem h p → In y (mems_in h p) → key p ≡ a → key y ≡ b → CanTake x.nest a b
    index_take p y a b i j e f = subst (λ z. CanTake x.nest z b) e (subst (λ z. CanTake x.nest (key p) z) f (nest_take key h x.nest x.agrees own listed p y i j (below p i)))

    pub index_taken : (also : Nest → Type 0) (p y a b : ℕ) → parent_of h y ≡ Some p → IsMem h p → IsMem h y → key p ≡ a → key y ≡ b → also (taken_from a b x.nest) → IsIndexed also ms key (taken_mem h y)
    index_taken also p y a b q i j e f now = record {
      nest = taken_from a b x.nest;
      nested = now;
      agrees = subst (λ z. IsNestOf key (taken_mem h y) (taken_from z b x.nest)) e (subst (λ z. IsNestOf key (taken_mem h y) (taken_from (key p) z x.nest)) f (nest_taken key h x.nest x.agrees own listed p y q i j));
      cells = λ z k. x.cells z ((out_marks h y).back z k);
      few = x.few;
    }

    -- `move_all`
    pub index_move : (m q a b : ℕ) (one : Option ℕ) → IsMem h m → IsMem h q → IsOutside h q m → IsOneOf one (map key (mems_in h m)) → key m ≡ a → key q ≡ b → CanMove x.nest a b one
    index_move m q a b one i j out is e f = subst (λ z. CanMove x.nest z b one) e (subst (λ z. CanMove x.nest (key m) z one) f (nest_move key h x.nest x.agrees own listed m q one i j out is (below m i) (below q j)))

  pub index_moved : (also : Nest → Type 0) (m q a b : ℕ) → IsMem h m → IsMem h q → m ≢ q → key m ≡ a → key q ≡ b → also (moved a b x.nest) → IsIndexed also ms key (moved_all h m q)
  index_moved also m q a b i j d e f now = record {
    nest = moved a b x.nest;
    nested = now;
    agrees = subst (λ z. IsNestOf key (moved_all h m q) (moved z b x.nest)) e (subst (λ z. IsNestOf key (moved_all h m q) (moved (key m) z x.nest)) f (nest_moved key h x.nest x.agrees own m q i j d));
    cells = λ z k. x.cells z ((move_marks h m q).back z k);
    few = x.few;
  }

  -- `finish` and `discard`
  pub index_fewer : (new : ℕ → ℕ) (t : Heap) → t.root ≡ h.root → ((m : ℕ) → IsMem t m → t.mems m ≡ h.mems m) → ((m : ℕ) → IsMem h m → IsMem t m ⊎ (mems_in h m ≡ [])) → ((m : ℕ) → IsMem t m → new m ≡ key m) → ((m y : ℕ) → IsMem t m → In y (mems_in t m) → new y ≡ key y)
      → ((k : ℕ) → ((m : ℕ) → IsMem h m → key m ≢ k) ⊎ ((m : ℕ) × IsMem h m × (key m ≡ k))) → IsIndexed holds ms new t
  index_fewer new t root same left names members decide = record {
    nest = x.nest;
    nested = x.nested;
    agrees = nest_fewer key h x.nest x.agrees own new t root same left names members decide;
    cells = λ m i. ap (λ k. slice_get ms k) (names m i) ∙ x.cells m (subst (λ (o : Option HeapMem). IsSome o) (same m i) i);
    few = x.few;
  }

-- `new`: the root alone, whatever the nest tells of it
pub index_alone : (also : Nest → Type 0) (key : ℕ → ℕ) (r : ℕ) (b : Bool) → key r ≡ 0 → also (with_awake 0 b (with_key 0 empty_nest)) → IsIndexed also (r ∷ []) key (alone r)
index_alone also key r b e now = record {
  nest = with_awake 0 b (with_key 0 empty_nest);
  nested = now;
  agrees = record {
    inside = λ m i. sym (ap (λ xs. map key xs) (ap (λ z. mems_in (alone r) z) (only m i) ∙ ap mems_by at));
    awake = λ m i d. absurd (d (only m i));
    others = λ k f. refl;
  };
  cells = λ m i. ap (λ k. slice_get (r ∷ []) k) (ap key (only m i) ∙ e) ∙ ap Some (sym (only m i));
  few = omega arith;
}
  where
    root : HeapMem
    root = mem_with_place top new_mem

    at : (alone r).mems r ≡ Some root
    at = alter_at (λ _. None) r (λ _. Some root)

    only : (m : ℕ) → IsMem (alone r) m → m ≡ r
    only m i = elim (cases_eq m r) [
      | inl e ↦ e
      | inr d ↦ absurd (let u : IsSome {T = HeapMem} None = subst (λ (o : Option HeapMem). IsSome o) (alter_away (λ _. None) r (λ _. Some root) m d) i in cc)
    ]

-- the key of a cell with this label
pub key_by : (v w : ℕ → Option WebCell) (m : ℕ) → web_label w m ≡ web_label v m → key_of w m ≡ key_of v m
key_by v w m e = ap (λ (o : Option ℕ). unwrap_or o 0) e

pub key_is : (w : ℕ → Option WebCell) (m k : ℕ) → web_label w m ≡ Some k → key_of w m ≡ k
key_is w m k e = ap (λ (o : Option ℕ). unwrap_or o 0) e
