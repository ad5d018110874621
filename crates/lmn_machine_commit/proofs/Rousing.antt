-- Membranes that wake one after the other.
use Rattle.std.proofs.Common.{ℕ, zero, suc, ◌≡◌, ◌≤◌, ◌+◌, ◌-◌, ◌^◌, ◌⊎◌, ◌==◌, inl, inr, Bool, true, false, cond, Option, Some, None, IsSome, refl, sym, ap, subst, ◌∙◌, length, arith}
use Rattle.std.specs.Option.{option_map, option_and_then}
use Rattle.std.proofs.lemmas.Bool.{cases_eq, eq-eqb}
use Rattle.lmn_base.proofs.Numbers.{not_equal}
use Rattle.lmn_store_heap.proofs.Trees.{is_mem}
use Rattle.lmn_store_heap.specs.Heap.{atoms_by}
use Rattle.lmn_base.specs.Lists.{In}
use Rattle.lmn_store_heap.specs.Heap.{Heap, HeapMem, Place, top, within, waiting, gone, IsMem, home_by, home_of, parent_of, mem_place_of, mem_mark_by, mem_mark_of, mem_with_mark, mem_with_spare, mem_marked, mem_unless_waiting, discarded}
use Rattle.lmn_store_heap.specs.Sound.{Sound, Valid, AtMost, flat}
use Rattle.lmn_store_heap.specs.Conditions.{Above}
use Rattle.lmn_store_heap.proofs.Listing.{home_is}
use Rattle.lmn_store_heap.proofs.Heights.{mem_of_place, climbs_both, climbs_first, one_above, has_parent, depth_of}
use Rattle.lmn_store_heap.proofs.Pigeonholes.{not_longer}
use Rattle.lmn_schedule_sleep.specs.Quiet.{SameButMarks}
use Rattle.lmn_schedule_sleep.proofs.Marks.{ReadAlike, read_alike, alike_back, above_alike}
use Rattle.lmn_solid_bodies.specs.Stopping.{SameButSpares}
use Rattle.lmn_machine_commit.specs.Waking.{HasTop, AllDeep, WakesAbove, IsAwakeRound, Is}
use Rattle.lmn_ground_parts.proofs.Common.{parent_mem}

-- ---- heaps that differ in marks alone

pub no_marks : (h : Heap) → SameButMarks h h
no_marks h = record { root = refl; atoms = λ a. refl; mems = λ m. (mem_mark_of h m, as_it_is (h.mems m)); new_atoms = refl; new_mems = refl }
  where
    as_it_is : (o : Option HeapMem) → o ≡ option_map (mem_with_mark (mem_mark_by o)) o
    as_it_is None = refl
    as_it_is (Some x) = refl

again_marked : (v w : ℕ) (o : Option HeapMem) → option_map (mem_with_mark w) (option_map (mem_with_mark v) o) ≡ option_map (mem_with_mark w) o
again_marked v w None = refl
again_marked v w (Some x) = refl

pub marks_on : (h k l : Heap) → SameButMarks h k → SameButMarks k l → SameButMarks h l
marks_on h k l a b = record {
  root = b.root ∙ a.root;
  atoms = λ x. b.atoms x ∙ a.atoms x;
  mems = λ m. (let p = a.mems m in let q = b.mems m in (q.0, q.1 ∙ ap (option_map (mem_with_mark q.0)) p.1 ∙ again_marked p.0 q.0 (h.mems m)));
  new_atoms = b.new_atoms ∙ a.new_atoms;
  new_mems = b.new_mems ∙ a.new_mems;
}

pub mark_one : (h k : Heap) (m v : ℕ) → k ≡ mem_marked h m v → SameButMarks h k
mark_one h k m v e = subst (SameButMarks h) (sym e) (record { root = refl; atoms = λ a. refl; mems = λ x. by x (x == m) (h.mems x); new_atoms = refl; new_mems = refl })
  where
    by : (x : ℕ) (b : Bool) (o : Option HeapMem) → (w : ℕ) × (cond b (option_map (mem_with_mark v) o) o ≡ option_map (mem_with_mark w) o)
    by x true o = (v, refl)
    by x false None = (0, refl)
    by x false (Some y) = (y.mark, refl)

pub marked_there : (h : Heap) (m v : ℕ) → IsMem h m → mem_mark_of (mem_marked h m v) m ≡ v
marked_there h m v i = rw (eq_self m) (by (h.mems m) i)
  where
    eq_self : (n : ℕ) → (n == n) ≡ true
    eq_self n = eq-eqb n n refl

    by : (o : Option HeapMem) → IsSome o → mem_mark_by (option_map (mem_with_mark v) o) ≡ v
    by None i = absurd (cc)
    by (Some x) i = refl

pub marked_away : (h : Heap) (m v x : ℕ) → (x ≡ m → ⊥) → mem_mark_of (mem_marked h m v) x ≡ mem_mark_of h x
marked_away h m v x d = rw (not_equal x m d) refl

-- ---- ways up

pub deep_alike : (h k : Heap) → ReadAlike h k → AllDeep h → AllDeep k
deep_alike h k e deep m i =
    let d = deep m (e.there m i) in
    record { depth = d.depth; few = d.few; top = d.top; above = above_alike k h (alike_back h k e) d.depth d.top m d.above; last = e.parents d.top ∙ d.last }

pub home_mem : (h : Heap) → Sound h → (a y : ℕ) → home_of h a ≡ Some y → IsMem h y
home_mem h s a y e = holds_mem_at (h.mems y) a ((s.listed.atoms y a).1 (home_is h a y e))
  where
    holds_mem_at : (o : Option HeapMem) (a : ℕ) → In a (atoms_by o) → IsSome o
    holds_mem_at None a i = absurd i
    holds_mem_at (Some x) a i = refl

-- a way up that is longer than there are steps
pub too_long : (h : Heap) (m at k : ℕ) → HasTop h m → 2 ^ 64 - 1 ≤ k → Above h k at m → {X : Type 0} → X
too_long h m at k d l a =
    let few = d.few in
    let rest = k - d.depth in
    let split : k ≡ d.depth + suc (rest - 1) = omega (arith, few, l) in
    let c = climbs_first h d.depth (suc (rest - 1)) at m (subst (λ n. Above h n at m) split a) in
    let same = one_above h d.depth c.0 d.top m c.1 d.above in
    absurd (let z : Some c.2.0 ≡ None = sym c.2.1 ∙ ap (parent_of h) same ∙ d.last in cc)

-- While a membrane and those round it wake: so many steps up, the next is `at`.
pub record Climbing (h k : Heap) (m step at : ℕ) : Type 0 where
  pub alike : SameButMarks h k
  pub climbed : Above h step at m
  pub there : IsMem h at
  pub woken : (x j : ℕ) → Above h j x m → (mem_mark_of k x ≡ 0) ⊎ ((i : ℕ) × Above h i x at)
  pub others : (x : ℕ) → (mem_mark_of k x ≡ mem_mark_of h x) ⊎ ((mem_mark_of k x ≡ 0) × ((j : ℕ) × Above h j x m))

pub climb_begins : (h : Heap) (m : ℕ) → IsMem h m → Climbing h h m 0 m
climb_begins h m i = record { alike = no_marks h; climbed = refl; there = i; woken = λ x j a. inr (j, a); others = λ x. inl refl }

module _ (h k l : Heap) (m step at : ℕ) (c : Climbing h k m step at) (is : l ≡ mem_marked k at 0) where
  there_now : IsMem k at
  there_now = (read_alike h k c.alike).stays at c.there

  mark_now : (x : ℕ) → (mem_mark_of l x ≡ 0) ⊎ ((x ≡ at → ⊥) × (mem_mark_of l x ≡ mem_mark_of k x))
  mark_now x = elim (cases_eq x at) [
    | inl e ↦ inl (ap (λ z. mem_mark_of z x) is ∙ subst (λ y. mem_mark_of (mem_marked k at 0) y ≡ 0) (sym e) (marked_there k at 0 there_now))
    | inr d ↦ inr (d, ap (λ z. mem_mark_of z x) is ∙ marked_away k at 0 x d)
  ]

  step_alike : SameButMarks h l
  step_alike = marks_on h k l c.alike (mark_one k l at 0 is)

  step_others : (x : ℕ) → (mem_mark_of l x ≡ mem_mark_of h x) ⊎ ((mem_mark_of l x ≡ 0) × ((j : ℕ) × Above h j x m))
  step_others x = elim (cases_eq x at) [
    | inl e ↦ inr (
      ap (λ z. mem_mark_of z x) is ∙ subst (λ y. mem_mark_of (mem_marked k at 0) y ≡ 0) (sym e) (marked_there k at 0 there_now),
      (step, subst (λ y. Above h step y m) (sym e) c.climbed),
    )
    | inr d ↦ (let same = ap (λ z. mem_mark_of z x) is ∙ marked_away k at 0 x d in
        elim (c.others x) [ inl q ↦ inl (same ∙ q) | inr q ↦ inr (same ∙ q.0, q.1) ])
  ]

  pub climb_goes : Sound h → (p : ℕ) → parent_of l at ≡ Some p → Climbing h l m (step + 1) p
  climb_goes s p e =
      let up : parent_of h at ≡ Some p = sym ((read_alike h l step_alike).parents at) ∙ e in
      record {
        alike = step_alike;
        climbed = climb_more step p m c.climbed up;
        there = parent_mem h s at p up;
        woken = λ x j a. elim (mark_now x) [
          | inl z ↦ inl z
          | inr w ↦ elim (c.woken x j a) [ inl z ↦ inl (w.1 ∙ z) | inr i ↦ inr (higher x i.0 i.1 w.0 up) ]
        ];
        others = step_others;
      }
    where
      climb_more : (n p m : ℕ) → Above h n at m → parent_of h at ≡ Some p → Above h (n + 1) p m
      climb_more n p m a up = let z : n + 1 ≡ n + 1 = refl in climbs_both h n 1 p at m a (p, up, refl)

      higher : (x i : ℕ) → Above h i x at → (x ≡ at → ⊥) → parent_of h at ≡ Some p → (i : ℕ) × Above h i x p
      higher x zero a d up = absurd (d (sym a))
      higher x (suc i) a d up = let same : a.0 ≡ p = (let z : Some a.0 ≡ Some p = sym a.1 ∙ up in cc) in (i, subst (λ y. Above h i x y) same a.2)

  pub climb_ends : parent_of l at ≡ None → WakesAbove (Is m) h l
  climb_ends e = record {
    alike = step_alike;
    woken = λ x y j q a. elim (mark_now x) [
      | inl z ↦ z
      | inr w ↦ elim (c.woken x j (subst (λ z. Above h j x z) q a)) [ inl z ↦ w.1 ∙ z | inr i ↦ absurd (no_higher x i.0 i.1 w.0) ]
    ];
    others = λ x. elim (step_others x) [ inl q ↦ inl q | inr q ↦ inr (q.0, (m, q.1.0, refl, q.1.1)) ];
  }
    where
      up : parent_of h at ≡ None
      up = sym ((read_alike h l step_alike).parents at) ∙ e

      no_higher : (x i : ℕ) → Above h i x at → (x ≡ at → ⊥) → ⊥
      no_higher x zero a d = d (sym a)
      no_higher x (suc i) a d = let z : Some a.0 ≡ None = sym a.1 ∙ up in absurd (cc)

pub climb_there : (h k : Heap) (m step at : ℕ) → Climbing h k m step at → IsMem k at
climb_there h k m step at c = (read_alike h k c.alike).stays at c.there

pub climb_marked : (h k l : Heap) (m step at : ℕ) → Climbing h k m step at → l ≡ mem_marked k at 0 → IsMem l at
climb_marked h k l m step at c is = (read_alike k l (mark_one k l at 0 is)).stays at (climb_there h k m step at c)

-- it meets one that is awake, with all that are round it
pub climb_meets : (h k : Heap) (m step at last : ℕ) → Climbing h k m step at → at ≡ last → IsAwakeRound h last → WakesAbove (Is m) h k
climb_meets h k m step at last c e awake = record {
  alike = c.alike;
  woken = λ x y j q a. elim (c.woken x j (subst (λ z. Above h j x z) q a)) [
    | inl z ↦ z
    | inr i ↦ (let before = awake x i.0 (subst (λ z. Above h i.0 x z) e i.1) in elim (c.others x) [ inl q ↦ q ∙ before | inr q ↦ q.0 ])
  ];
  others = λ x. elim (c.others x) [ inl q ↦ inl q | inr q ↦ inr (q.0, (m, q.1.0, refl, q.1.1)) ];
}

-- ---- one after the other

pub wakes_none : (P : ℕ → Type 0) (h : Heap) → ((y : ℕ) → P y → ⊥) → WakesAbove P h h
wakes_none P h none = record { alike = no_marks h; woken = λ x y j p. absurd (none y p); others = λ x. inl refl }

pub wakes_as : (P Q : ℕ → Type 0) (h k : Heap) → ((y : ℕ) → P y → Q y) → ((y : ℕ) → Q y → P y) → WakesAbove P h k → WakesAbove Q h k
wakes_as P Q h k to from w = record {
  alike = w.alike;
  woken = λ x y j q. w.woken x y j (from y q);
  others = λ x. elim (w.others x) [ inl e ↦ inl e | inr e ↦ inr (e.0, (e.1.0, e.1.1, to e.1.0 e.1.2, e.1.3)) ];
}

pub wakes_on : (P Q : ℕ → Type 0) (h k l : Heap) → WakesAbove P h k → WakesAbove Q k l → WakesAbove (λ y. P y ⊎ Q y) h l
wakes_on P Q h k l a b =
    let same = read_alike h k a.alike in
    record {
      alike = marks_on h k l a.alike b.alike;
      woken = λ x y j q up. elim q [
        | inl p ↦ (let z = a.woken x y j p up in elim (b.others x) [ inl e ↦ e ∙ z | inr e ↦ e.0 ])
        | inr p ↦ b.woken x y j p (above_alike k h (alike_back h k same) j x y up)
      ];
      others = λ x. elim (b.others x) [
        | inl e ↦ elim (a.others x) [ inl f ↦ inl (e ∙ f) | inr f ↦ inr (e ∙ f.0, (f.1.0, f.1.1, inl f.1.2, f.1.3)) ]
        | inr e ↦ inr (e.0, (e.1.0, e.1.1, inr e.1.2, above_alike h k same e.1.1 x e.1.0 e.1.3))
      ];
    }

-- what was awake with all round it is so still
pub awake_still : (P : ℕ → Type 0) (h k : Heap) (m : ℕ) → WakesAbove P h k → IsAwakeRound h m → IsAwakeRound k m
awake_still P h k m w awake x j a =
    let z = awake x j (above_alike h k (read_alike h k w.alike) j x m a) in
    elim (w.others x) [ inl e ↦ e ∙ z | inr e ↦ e.0 ]

pub awake_now : (P : ℕ → Type 0) (h k : Heap) (m : ℕ) → WakesAbove P h k → P m → IsAwakeRound k m
awake_now P h k m w p x j a = w.woken x m j p (above_alike h k (read_alike h k w.alike) j x m a)

-- ---- a prepared heap

module _ (h s : Heap) (v : Valid h) (rest : SameButSpares h (discarded s)) where
  -- a membrane that stood before stands there, with other room
  pub mem_stays : (m : ℕ) → IsMem h m → (k : ℕ) × (s.mems m ≡ option_map (mem_with_spare k) (h.mems m))
  mem_stays m i = let q = rest.mems m in (q.0, by q.0 (s.mems m) (h.mems m) i q.1)
    where
      kept : (k : ℕ) (x y : HeapMem) (p : Place) → x.place ≡ p → mem_unless_waiting x ≡ Some (mem_with_spare k y) → Some x ≡ Some (mem_with_spare k y)
      kept k x y top e f = sym (rw e refl) ∙ f
      kept k x y (within n) e f = sym (rw e refl) ∙ f
      kept k x y waiting e f = absurd (let z : mem_unless_waiting x ≡ None = rw e refl in let w : None ≡ Some (mem_with_spare k y) = sym z ∙ f in cc)
      kept k x y gone e f = sym (rw e refl) ∙ f

      by : (k : ℕ) (o p : Option HeapMem) → IsSome p → option_and_then mem_unless_waiting o ≡ option_map (mem_with_spare k) p → o ≡ option_map (mem_with_spare k) p
      by k o None i f = absurd (cc)
      by k None (Some y) i f = f
      by k (Some x) (Some y) i f = kept k x y x.place refl f

  -- one that didn't waits
  pub mem_waits : (m : ℕ) → h.mems m ≡ None → IsMem s m → mem_place_of s m ≡ Some waiting
  mem_waits m e i = let q = rest.mems m in by (s.mems m) i (q.1 ∙ ap (option_map (mem_with_spare q.0)) e)
    where
      waits : (x : HeapMem) (p : Place) → x.place ≡ p → mem_unless_waiting x ≡ None → Some x.place ≡ Some waiting
      waits x top e f = absurd (let z : mem_unless_waiting x ≡ Some x = rw e refl in let w : Some x ≡ None = sym z ∙ f in cc)
      waits x (within n) e f = absurd (let z : mem_unless_waiting x ≡ Some x = rw e refl in let w : Some x ≡ None = sym z ∙ f in cc)
      waits x waiting e f = ap (λ z. Some z) e
      waits x gone e f = absurd (let z : mem_unless_waiting x ≡ Some x = rw e refl in let w : Some x ≡ None = sym z ∙ f in cc)

      by : (o : Option HeapMem) → IsSome o → option_and_then mem_unless_waiting o ≡ None → option_map (λ x. x.place) o ≡ Some waiting
      by None i f = absurd (cc)
      by (Some x) i f = waits x x.place refl f

  same_parent : (m : ℕ) → IsMem h m → parent_of s m ≡ parent_of h m
  same_parent m i = let q = mem_stays m i in ap (λ (o : Option HeapMem). option_and_then (λ x. home_by x.place) o) q.1 ∙ by q.0 (h.mems m)
    where
      by : (k : ℕ) (o : Option HeapMem) → option_and_then (λ x. home_by x.place) (option_map (mem_with_spare k) o) ≡ option_and_then (λ x. home_by x.place) o
      by k None = refl
      by k (Some x) = refl

  pub same_mark : (m : ℕ) → IsMem h m → mem_mark_of s m ≡ mem_mark_of h m
  same_mark m i = let q = mem_stays m i in ap mem_mark_by q.1 ∙ by q.0 (h.mems m)
    where
      by : (k : ℕ) (o : Option HeapMem) → mem_mark_by (option_map (mem_with_spare k) o) ≡ mem_mark_by o
      by k None = refl
      by k (Some x) = refl

  still_there : (m : ℕ) → IsMem h m → IsMem s m
  still_there m i = let q = mem_stays m i in subst (λ (o : Option HeapMem). IsSome o) (sym q.1) (by q.0 (h.mems m) i)
    where
      by : (k : ℕ) (o : Option HeapMem) → IsSome o → IsSome (option_map (mem_with_spare k) o)
      by k None i = i
      by k (Some x) i = refl

  -- ways up are the same, from what stood before
  pub above_prepared : (k x n : ℕ) → Above h k x n → Above s k x n
  above_prepared zero x n a = a
  above_prepared (suc k) x n a = (a.0, same_parent n (has_parent (h.mems n) a.0 a.1) ∙ a.1, above_prepared k x a.0 a.2)

  pub above_before : (k x n : ℕ) → IsMem h n → Above s k x n → Above h k x n
  above_before zero x n i a = a
  above_before (suc k) x n i a =
      let e : parent_of h n ≡ Some a.0 = sym (same_parent n i) ∙ a.1 in
      (a.0, e, above_before k x a.0 (parent_mem h v.sound n a.0 e) a.2)

  there_or_not : (m : ℕ) → IsMem h m ⊎ (h.mems m ≡ None)
  there_or_not m = by (h.mems m)
    where
      by : (o : Option HeapMem) → IsSome o ⊎ (o ≡ None)
      by None = inr refl
      by (Some x) = inl refl

  no_parent : (m : ℕ) → mem_place_of s m ≡ Some waiting → parent_of s m ≡ None
  no_parent m e = by (s.mems m) e
    where
      by : (o : Option HeapMem) → option_map (λ x. x.place) o ≡ Some waiting → option_and_then (λ x. home_by x.place) o ≡ None
      by None e = absurd (cc)
      by (Some x) e = let z : x.place ≡ waiting = cc in ap home_by z

  few_before : AtMost (2 ^ 48) s → length (flat v.tree.0) ≤ 2 ^ 48
  few_before few =
      let l = not_longer (flat v.tree.0) few.mems v.tree.1.once (λ m i. few.all_mems m (still_there m (is_mem_of m i))) in
      let f = few.few in omega (arith, l, f)
    where
      is_mem_of : (m : ℕ) → In m (flat v.tree.0) → IsMem h m
      is_mem_of m i = is_mem h v.sound v.tree.0 v.tree.1 m i

  pub all_deep : AtMost (2 ^ 48) s → AllDeep s
  all_deep few m i = elim (there_or_not m) [
    | inl j ↦ (let d = depth_of h v m j in let l = d.2 in let f = few_before few in
        record { depth = d.0; few = omega (arith, l, f); top = h.root; above = above_prepared d.0 h.root m d.1; last = same_parent h.root root_there ∙ root_last })
    | inr e ↦ record { depth = 0; few = omega arith; top = m; above = refl; last = no_parent m (mem_waits m e i) }
  ]
    where
      root_there : IsMem h h.root
      root_there = mem_of_place h h.root top ((v.sound.listed.root h.root).1 refl)

      root_last : parent_of h h.root ≡ None
      root_last = by (h.mems h.root) ((v.sound.listed.root h.root).1 refl)
        where
          by : (o : Option HeapMem) → option_map (λ x. x.place) o ≡ Some top → option_and_then (λ x. home_by x.place) o ≡ None
          by None e = absurd (cc)
          by (Some x) e = let z : x.place ≡ top = cc in ap home_by z
