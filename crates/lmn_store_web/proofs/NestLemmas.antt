-- What becomes of the nest of a heap by each call on membranes, and what its index is asked.
use Rattle.std.proofs.Common.{ℕ, suc, ◌≡◌, ◌≢◌, ◌⊎◌, ◌≤◌, ◌<◌, ◌==◌, Bool, true, false, cond, List, [], ◌∷◌, ◌++◌, Option, Some, None, IsSome, refl, sym, ap, subst, ◌∙◌, inl, inr, map}
use Rattle.std.proofs.lemmas.Bool.{cases_eq, eq-eqb, eqb-true}
use Rattle.std.specs.Option.{option_map}
use Rattle.lmn_base.specs.Lists.{In}
use Rattle.lmn_base.proofs.Common.{of_map, map_same}
use Rattle.lmn_base.proofs.Lists.{map_append}
use Rattle.lmn_base.proofs.Numbers.{not_equal}
use Rattle.lmn_base.proofs.Truth.{never_both}
use Rattle.lmn_store_heap.specs.Heap.{Heap, HeapMem, IsMem, mems_in, mems_by, mem_mark_of, mem_mark_by, mem_marked, mem_with_mark, new_mem, made_mem, parent_of, without, placed_mem, taken_mem, moved_all}
use Rattle.lmn_store_heap.specs.Sound.{Listed}
use Rattle.lmn_store_heap.specs.Conditions.{Above, IsOutside}
use Rattle.lmn_store_heap.proofs.Common.{in_map, listed_mem as members}
use Rattle.lmn_store_heap.proofs.Heights.{parent_is}
use Rattle.lmn_store_heap.proofs.Listing.{alter_at, alter_away}
use Rattle.lmn_store_web_preorder.specs.Nests.{Nest, IsTop, IsWithin, itself, deeper, IsOneOf, with_inside, with_awake, with_key, put, taken_from, moved, CanAdd, CanPut, CanTake, CanMove}
use Rattle.lmn_store_web.specs.Indexes.{IsNestOf}
use Rattle.lmn_store_web.proofs.MemLists.{SameMarks, Seen, mark_there, seen_by, out_at, out_away, out_marks, in_marks, move_marks}
use Rattle.lmn_store_web_preorder.proofs.Nesting.{with_other as inside_away, with_there as inside_at}
use Rattle.lmn_store_heap.proofs.ListOps.{change_keeps, in_mems_at, in_mems_away, move_mems_at, move_mems_from, move_mems_away}

-- Reading a nest

awake_at : (k : ℕ) (b : Bool) (n : Nest) → (with_awake k b n).awake k ≡ b
awake_at k b n = rw (eq-eqb k k refl) refl

-- other keys are awake as they were
pub awake_away : (k : ℕ) (b : Bool) (n : Nest) (j : ℕ) → j ≢ k → (with_awake k b n).awake j ≡ n.awake j
awake_away k b n j d = rw (not_equal j k d) refl

-- a key that is awake as it was is awake as it was
pub awake_same : (k : ℕ) (b : Bool) (n : Nest) → n.awake k ≡ b → with_awake k b n ≡ n
awake_same k b n e = λ i. record { keys = n.keys; inside = n.inside; awake = λ j. each j i }
  where
    each : (j : ℕ) → (with_awake k b n).awake j ≡ n.awake j
    each j = elim (cases_eq j k) [
      | inl q ↦ subst (λ z. (with_awake k b n).awake z ≡ n.awake z) (sym q) (awake_at k b n ∙ sym e)
      | inr d ↦ awake_away k b n j d
    ]

-- the keys of a list without one
without_mapped : (key : ℕ → ℕ) (x : ℕ) (xs : List ℕ) → ((y : ℕ) → In y xs → key y ≡ key x → y ≡ x) → map key (without x xs) ≡ without (key x) (map key xs)
without_mapped key x [] own = refl
without_mapped key x (y ∷ ys) own = by (y == x) refl (without_mapped key x ys (λ z i. own z (inr i)))
  where
    by : (b : Bool) → (y == x) ≡ b → map key (without x ys) ≡ without (key x) (map key ys) → map key (cond b ys (y ∷ without x ys)) ≡ cond (key y == key x) (map key ys) (key y ∷ without (key x) (map key ys))
    by true e rest = sym (ap (λ c. cond c (map key ys) (key y ∷ without (key x) (map key ys))) (eq-eqb (key y) (key x) (ap key (eqb-true y x e))))
    by false e rest = ap (λ zs. key y ∷ zs) rest ∙ sym (ap (λ c. cond c (map key ys) (key y ∷ without (key x) (map key ys))) (not_equal (key y) (key x) (λ q. never_both (y == x) (eq-eqb y x (own y (inl refl) q)) e)))

-- what an index sees of a membrane tells what stands in it, and its mark
-- and whether it is there
pub seen_there : (o q : Option HeapMem) → seen_by o ≡ seen_by q → IsSome o → IsSome q
seen_there None q e s = absurd (cc)
seen_there (Some x) None e s = absurd (cc)
seen_there (Some x) (Some y) e s = refl

abbrev list_seen : Option Seen → List ℕ
list_seen None = []
list_seen (Some s) = s.mems

abbrev mark_seen : Option Seen → ℕ
mark_seen None = 0
mark_seen (Some s) = s.mark

list_by_seen : (o : Option HeapMem) → mems_by o ≡ list_seen (seen_by o)
list_by_seen None = refl
list_by_seen (Some x) = refl

mark_by_seen : (o : Option HeapMem) → mem_mark_by o ≡ mark_seen (seen_by o)
mark_by_seen None = refl
mark_by_seen (Some x) = refl

-- A heap that has the same membranes, with other keys or the same, has the same nest.
pub nest_same : (key new : ℕ → ℕ) (h t : Heap) (n : Nest) → t.root ≡ h.root → ((m : ℕ) → seen_by (t.mems m) ≡ seen_by (h.mems m)) → ((m : ℕ) → IsMem h m → new m ≡ key m) → ((m y : ℕ) → In y (mems_in h m) → new y ≡ key y)
    → IsNestOf key h n → IsNestOf new t n
nest_same key new h t n root same own inner a = record {
  inside = λ m i. let j = seen_there (t.mems m) (h.mems m) (same m) i in
      ap n.inside (own m j) ∙ a.inside m j ∙ sym (map_same new key (mems_in h m) (inner m)) ∙ sym (ap (λ xs. map new xs) (list_by_seen (t.mems m) ∙ ap list_seen (same m) ∙ sym (list_by_seen (h.mems m))));
  awake = λ m i d. let j = seen_there (t.mems m) (h.mems m) (same m) i in
      ap n.awake (own m j) ∙ a.awake m j (λ e. d (e ∙ sym root)) ∙ ap (λ v. v == 0) (sym (mark_by_seen (t.mems m) ∙ ap mark_seen (same m) ∙ sym (mark_by_seen (h.mems m))));
  others = λ k f. a.others k (λ m j e. f m (seen_there (h.mems m) (t.mems m) (sym (same m)) j) (own m j ∙ e));
}

module _ (key : ℕ → ℕ) (h : Heap) (n : Nest) (a : IsNestOf key h n) (own : (x y : ℕ) → IsMem h x → IsMem h y → key x ≡ key y → x ≡ y) where
  -- where one list is another
  one_list : (t : Heap) → t.root ≡ h.root → SameMarks h t → (m : ℕ) → IsMem h m → (ks : List ℕ) → ks ≡ map key (mems_in t m) → ((y : ℕ) → y ≢ m → mems_in t y ≡ mems_in h y) → IsNestOf key t (with_inside (key m) ks n)
  one_list t root s m i ks at away = record {
    inside = λ y j. elim (cases_eq y m) [
      | inl e ↦ subst (λ z. (with_inside (key m) ks n).inside (key z) ≡ map key (mems_in t z)) (sym e) (inside_at (key m) ks n ∙ at)
      | inr d ↦ inside_away (key m) ks n (key y) (λ e. d (own y m (s.back y j) i e)) ∙ a.inside y (s.back y j) ∙ ap (λ xs. map key xs) (sym (away y d))
    ];
    awake = λ y j d. a.awake y (s.back y j) (λ e. d (e ∙ sym root)) ∙ ap (λ v. v == 0) (sym (s.marks y));
    others = λ k f. inside_away (key m) ks n k (λ e. f m (s.there m i) (sym e)) ∙ a.others k (λ y j. f y (s.there y j));
  }

  -- `set_mem_mark`
  pub nest_marked : (m v : ℕ) → IsMem h m → IsNestOf key (mem_marked h m v) (with_awake (key m) (v == 0) n)
  nest_marked m v i =
      let t = mem_marked h m v in
      let lists : (y : ℕ) → mems_in t y ≡ mems_in h y = change_keeps mems_by h.mems m (mem_with_mark v) (λ x. refl) in
      let back : (y : ℕ) → IsMem t y → IsMem h y = λ y j. sym (mark_there h m v y) ∙ j in
      record {
        inside = λ y j. a.inside y (back y j) ∙ ap (λ xs. map key xs) (sym (lists y));
        awake = λ y j r. elim (cases_eq y m) [
          | inl e ↦ subst (λ z. (with_awake (key m) (v == 0) n).awake (key z) ≡ (mem_mark_of t z == 0)) (sym e) (awake_at (key m) (v == 0) n ∙ ap (λ u. u == 0) (sym (ap mem_mark_by (alter_at h.mems m (option_map (mem_with_mark v))) ∙ now (h.mems m) i)))
          | inr d ↦ awake_away (key m) (v == 0) n (key y) (λ e. d (own y m (back y j) i e)) ∙ a.awake y (back y j) r ∙ ap (λ u. u == 0) (sym (ap mem_mark_by (alter_away h.mems m (option_map (mem_with_mark v)) y d)))
        ];
        others = λ k f. a.others k (λ y j. f y (mark_there h m v y ∙ j));
      }
    where
      now : (o : Option HeapMem) → IsSome o → mem_mark_by (option_map (mem_with_mark v) o) ≡ v
      now None s = absurd (cc)
      now (Some x) s = refl

  -- `set_mem_mark` of the root
  pub nest_root_marked : (v : ℕ) → IsNestOf key (mem_marked h h.root v) n
  nest_root_marked v =
      let back : (y : ℕ) → IsMem (mem_marked h h.root v) y → IsMem h y = λ y j. sym (mark_there h h.root v y) ∙ j in
      record {
        inside = λ y j. a.inside y (back y j) ∙ ap (λ xs. map key xs) (sym (change_keeps mems_by h.mems h.root (mem_with_mark v) (λ x. refl) y));
        awake = λ y j d. a.awake y (back y j) d ∙ ap (λ u. u == 0) (sym (ap mem_mark_by (alter_away h.mems h.root (option_map (mem_with_mark v)) y d)));
        others = λ k f. a.others k (λ y j. f y (mark_there h h.root v y ∙ j));
      }

  -- `place_mem`
  pub nest_placed : (m x : ℕ) → IsMem h m → IsNestOf key (placed_mem h m x) (put (key m) (key x) n)
  nest_placed m x i = one_list (placed_mem h m x) refl (in_marks h m x) m i (n.inside (key m) ++ key x ∷ [])
      (ap (λ ks. ks ++ key x ∷ []) (a.inside m i) ∙ sym (map_append key (mems_in h m) (x ∷ [])) ∙ ap (λ xs. map key xs) (sym (in_mems_at h m x i))) (in_mems_away h m x i)

  module _ (listed : Listed h) where
    -- `take_mem`
    pub nest_taken : (p x : ℕ) → parent_of h x ≡ Some p → IsMem h p → IsMem h x → IsNestOf key (taken_mem h x) (taken_from (key p) (key x) n)
    nest_taken p x e i j = one_list (taken_mem h x) refl (out_marks h x) p i (without (key x) (n.inside (key p)))
        (ap (λ ks. without (key x) ks) (a.inside p i) ∙ sym (without_mapped key x (mems_in h p) (λ y q f. own y x (members h listed p y q) j f)) ∙ ap (λ xs. map key xs) (sym (out_at h x p e i))) (out_away h x p e)

    -- a key in which another stands is that of the membrane in which that one's stands
    inside_of : (p k : ℕ) → In k (n.inside p) → ((y : ℕ) → IsMem h y → key y ≡ p → (z : ℕ) → In z (mems_in h y) → key z ≡ k → ⊥) → ⊥
    inside_of p k i none = subst (λ ks. In k ks) (a.others p (λ y j e. no y j e (subst (λ ks. In k ks) (ap n.inside (sym e) ∙ a.inside y j) i))) i
      where
        no : (y : ℕ) → IsMem h y → key y ≡ p → In k (map key (mems_in h y)) → ⊥
        no y j e q = let z = of_map key k (mems_in h y) q in none y j e z.0 z.1 z.2

    -- a membrane that stands in none has a key that stands in none
    pub nest_top : (x : ℕ) → IsMem h x → ((y : ℕ) → In x (mems_in h y) → ⊥) → IsTop n (key x)
    nest_top x i alone p j = inside_of p (key x) j (λ y q e z l f. alone y (subst (λ u. In u (mems_in h y)) (own z x (members h listed y z l) i f) l))

    -- the key of no membrane may come
    pub nest_add : (k : ℕ) → k ≤ n.keys → ((m : ℕ) → IsMem h m → key m ≢ k) → CanAdd n k
    nest_add k next free = record { next = next; bare = a.others k free; top = λ p j. inside_of p k j (λ y q e z l f. free z (members h listed y z l) f) }

    -- an empty membrane that stands in none may be put into another
    pub nest_put : (m x : ℕ) → IsMem h m → IsMem h x → x ≢ m → mems_in h x ≡ [] → ((y : ℕ) → In x (mems_in h y) → ⊥) → key m < n.keys → key x < n.keys → CanPut n (key m) (key x)
    nest_put m x i j d empty alone low below = record {
      parent = low;
      child = below;
      top = nest_top x j alone;
      outside = λ w. d (own x m j i (sym (only (key x) (a.inside x j ∙ ap (λ xs. map key xs) empty) (key m) w)));
    }
      where
        only : (k : ℕ) → n.inside k ≡ [] → (j : ℕ) → IsWithin n.inside k j → j ≡ k
        only k e _ itself = refl
        only k e _ (deeper p j w i) = absurd (subst (λ ks. In j ks) (ap n.inside (only k e p w) ∙ e) i)

    pub nest_take : (p x : ℕ) → IsMem h p → In x (mems_in h p) → key p < n.keys → CanTake n (key p) (key x)
    nest_take p x i j low = record { parent = low; member = subst (λ ks. In (key x) ks) (sym (a.inside p i)) (in_map key x (mems_in h p) j) }

    -- what is within the key of a membrane is the key of one that has it above
    within_no : (m : ℕ) → IsMem h m → (j : ℕ) → IsWithin n.inside (key m) j → (y : ℕ) → IsMem h y → key y ≡ j → ((k : ℕ) → Above h k m y → ⊥) → ⊥
    within_no m i _ itself y q e never = never 0 (own y m q i e)
    within_no m i _ (deeper p j w l) y q e never = inside_of p j l (λ z s f u v g.
        let same : u ≡ y = own u y (members h listed z u v) q (g ∙ sym e) in
        within_no m i p w z s f (λ k up. never (suc k) (z, parent_is h listed y z (subst (λ x. In x (mems_in h z)) same v), up)))

    pub nest_move : (m q : ℕ) (one : Option ℕ) → IsMem h m → IsMem h q → IsOutside h q m → IsOneOf one (map key (mems_in h m)) → key m < n.keys → key q < n.keys → CanMove n (key m) (key q) one
    nest_move m q one i j out is low below_q = record {
      source = low;
      target = below_q;
      one = subst (λ ks. IsOneOf one ks) (sym (a.inside m i)) is;
      outside = λ w. within_no m i (key q) w q j refl out;
    }

  -- `move_all`
  pub nest_moved : (m q : ℕ) → IsMem h m → IsMem h q → m ≢ q → IsNestOf key (moved_all h m q) (moved (key m) (key q) n)
  nest_moved m q i j d = record {
    inside = λ y l. let b = s.back y l in elim (cases_eq y q) [
      | inl e ↦ subst (λ z. (moved (key m) (key q) n).inside (key z) ≡ map key (mems_in t z)) (sym e) (inside_at (key q) both inner ∙ lists)
      | inr f ↦ inside_away (key q) both inner (key y) (λ e. f (own y q b j e)) ∙ elim (cases_eq y m) [
        | inl e ↦ subst (λ z. inner.inside (key z) ≡ map key (mems_in t z)) (sym e) (inside_at (key m) [] n ∙ ap (λ xs. map key xs) (sym (move_mems_from h m q d i j)))
        | inr g ↦ inside_away (key m) [] n (key y) (λ e. g (own y m b i e)) ∙ a.inside y b ∙ ap (λ xs. map key xs) (sym (move_mems_away h m q d i j y g f))
      ]
    ];
    awake = λ y l d. a.awake y (s.back y l) d ∙ ap (λ v. v == 0) (sym (s.marks y));
    others = λ k f. inside_away (key q) both inner k (λ e. f q (s.there q j) (sym e)) ∙ inside_away (key m) [] n k (λ e. f m (s.there m i) (sym e)) ∙ a.others k (λ y l. f y (s.there y l));
  }
    where
      t : Heap
      t = moved_all h m q

      s : SameMarks h (moved_all h m q)
      s = move_marks h m q

      both : List ℕ
      both = n.inside (key q) ++ n.inside (key m)

      inner : Nest
      inner = with_inside (key m) [] n

      lists : n.inside (key q) ++ n.inside (key m) ≡ map key (mems_in (moved_all h m q) q)
      lists = (λ z. a.inside q j z ++ a.inside m i z) ∙ sym (map_append key (mems_in h q) (mems_in h m)) ∙ ap (λ xs. map key xs) (sym (move_mems_at h m q d i j))

  -- `make_mem`
  pub nest_made : Listed h → (new : ℕ → ℕ) (c k : ℕ) → h.mems c ≡ None → ((m : ℕ) → IsMem h m → key m ≢ k) → new c ≡ k → ((m : ℕ) → m ≢ c → IsMem h m → new m ≡ key m) → IsNestOf new (made_mem h c) (with_key k n)
  nest_made listed new c k fresh free at names = record {
    inside = λ m i. elim (cases_eq m c) [
      | inl e ↦ subst (λ z. n.inside (new z) ≡ map new (mems_in t z)) (sym e) (ap n.inside at ∙ a.others k free ∙ sym (ap (λ xs. map new xs) (ap mems_by at_c)))
      | inr d ↦ (let j = was m d i in ap n.inside (names m d j) ∙ a.inside m j ∙ sym (map_same new key (mems_in h m) (λ y l. names y (apart m y l) (members h listed m y l))) ∙ sym (ap (λ xs. map new xs) (ap mems_by (away m d))))
    ];
    awake = λ m i r. elim (cases_eq m c) [
      | inl e ↦ subst (λ z. cond (new z == k) true (n.awake (new z)) ≡ (mem_mark_of t z == 0)) (sym e) (ap (λ b. cond b true (n.awake (new c))) (eq-eqb (new c) k at) ∙ ap (λ v. v == 0) (sym (ap mem_mark_by at_c)))
      | inr d ↦ (let j = was m d i in let e = names m d j in
          ap (λ b. cond b true (n.awake (new m))) (not_equal (new m) k (λ q. free m j (sym e ∙ q))) ∙ ap n.awake e ∙ a.awake m j r ∙ ap (λ v. v == 0) (sym (ap mem_mark_by (away m d))))
    ];
    others = λ p f. a.others p (λ m j e. f m (subst (λ (o : Option HeapMem). IsSome o) (sym (away m (old m j))) j) (names m (old m j) j ∙ e));
  }
    where
      t : Heap
      t = made_mem h c

      at_c : (made_mem h c).mems c ≡ Some new_mem
      at_c = alter_at h.mems c (λ _. Some new_mem)

      away : (m : ℕ) → m ≢ c → (made_mem h c).mems m ≡ h.mems m
      away m d = alter_away h.mems c (λ _. Some new_mem) m d

      was : (m : ℕ) → m ≢ c → IsMem (made_mem h c) m → IsMem h m
      was m d i = subst (λ (o : Option HeapMem). IsSome o) (away m d) i

      old : (m : ℕ) → IsMem h m → m ≢ c
      old m j e = let u : IsSome {T = HeapMem} None = subst (λ (o : Option HeapMem). IsSome o) (ap h.mems e ∙ fresh) j in absurd (cc)

      apart : (m y : ℕ) → In y (mems_in h m) → y ≢ c
      apart m y l = old y (members h listed m y l)

  -- `finish` and `discard`: what is freed is empty
  pub nest_fewer : (new : ℕ → ℕ) (t : Heap) → t.root ≡ h.root → ((m : ℕ) → IsMem t m → t.mems m ≡ h.mems m) → ((m : ℕ) → IsMem h m → IsMem t m ⊎ (mems_in h m ≡ [])) → ((m : ℕ) → IsMem t m → new m ≡ key m) → ((m y : ℕ) → IsMem t m → In y (mems_in t m) → new y ≡ key y)
      → ((k : ℕ) → ((m : ℕ) → IsMem h m → key m ≢ k) ⊎ ((m : ℕ) × IsMem h m × (key m ≡ k))) → IsNestOf new t n
  nest_fewer new t root same left names members decide = record {
    inside = λ m i. ap n.inside (names m i) ∙ a.inside m (back m i) ∙ ap (λ xs. map key xs) (sym (ap mems_by (same m i))) ∙ sym (map_same new key (mems_in t m) (λ y l. members m y i l));
    awake = λ m i d. ap n.awake (names m i) ∙ a.awake m (back m i) (λ e. d (e ∙ sym root)) ∙ ap (λ v. v == 0) (sym (ap mem_mark_by (same m i)));
    others = λ k f. by k f (decide k);
  }
    where
      back : (m : ℕ) → IsMem t m → IsMem h m
      back m i = subst (λ (o : Option HeapMem). IsSome o) (same m i) i

      by : (k : ℕ) → ((m : ℕ) → IsMem t m → new m ≢ k) → ((m : ℕ) → IsMem h m → key m ≢ k) ⊎ ((m : ℕ) × IsMem h m × (key m ≡ k)) → n.inside k ≡ []
      by k f (inl free) = a.others k free
      by k f (inr w) = elim (left w.0 w.1) [
        | inl i ↦ absurd (f w.0 i (names w.0 i ∙ w.2))
        | inr e ↦ ap n.inside (sym w.2) ∙ a.inside w.0 w.1 ∙ ap (λ xs. map key xs) e
      ]
