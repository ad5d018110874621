-- The copy of what stands in a membrane is placed, membrane after membrane.
use Rattle.std.proofs.Common.{◌≡◌, ◌≢◌, ◌⊎◌, ℕ, ◌<◌, ◌≤◌, List, [], ◌∷◌, ◌++◌, length, map, true, Option, Some, None, IsSome, refl, sym, ap, subst, ◌∙◌, inl, inr, arith, slice_get}
use Rattle.std.proofs.lemmas.List.{append_assoc}
use Rattle.std.specs.Option.{option_map, option_and_then}
use Rattle.lmn_store_heap.specs.Heap.{Heap, HeapMem, within, waiting, alter, after, from, home_by, Distinct, IsMem, IsMemInPlace, IsTopOrWithin, mem_place_of, parent_of, atoms_by, atoms_in, mems_by, mems_in, rules_by, rules_in, spare_by, spare_of, mem_with_place, mem_with_atoms, mem_with_mems, mem_with_rules, placed_mem, rules_copied}
use Rattle.lmn_store_heap.specs.Sound.{Forms, Sound}
use Rattle.lmn_store_heap.proofs.Calls.{stands_some}
use Rattle.lmn_store_heap.proofs.Common.{position, after_first as behind_here}
use Rattle.lmn_store_heap.proofs.Groves.{forms_frame}
use Rattle.lmn_store_heap.proofs.Heights.{mem_of_place, parent_place}
use Rattle.lmn_store_heap.proofs.ListLemmas.{distinct_left, each_of, in_left, in_right}
use Rattle.lmn_store_heap.proofs.Listing.{alter_at, alter_away, alter_keeps}
use Rattle.lmn_store_heap.proofs.Trees.{tail_of}
use Rattle.lmn_base.specs.Lists.{In}
use Rattle.lmn_base.proofs.Lists.{get_map, head_is, length_mapped, map_append, map_itself, tail_is}
use Rattle.lmn_ground_parts.specs.Copies.{answer}
use Rattle.lmn_ground_parts.specs.Rests.{CopyWaits, IsContent, atoms_of_all, atoms_placed, copy_round, keep, membranes_placed, rest_placed}
use Rattle.lmn_ground_parts.proofs.AnswerLaws.{answer_here, answer_in, answer_on, answer_one, map_answer}
use Rattle.lmn_ground.specs.Rests.{AreTwins}
use Rattle.lmn_ground.proofs.RestLaws.{atoms_once, bare_of}
use Rattle.lmn_ground.proofs.DroppingLaws.{after_inner, after_top, all_once, is_mem, less_behind, round_of}
use Rattle.lmn_ground.proofs.TwinLaws.{either_here}
use Rattle.lmn_ground.proofs.PlaceLaws.{atoms_away, atoms_behind, atoms_keep, atoms_line, atoms_mapped, parent_stays, place_stays}
use Rattle.lmn_ground_parts.proofs.Common.{keep_all}

-- A membrane k of the line is placed in c, with the rules of y and copies of atoms.
abbrev pub copy_placed : Heap → ℕ → ℕ → ℕ → List ℕ → Heap
copy_placed h c y k ys = atoms_placed (λ a. a) (rules_copied (placed_mem h c k) y k) k ys

module _ (h : Heap) (c y k : ℕ) (ys : List ℕ) where
  -- other membranes than the two stay as they are
  pub others_stay : (z : ℕ) → z ≢ c → z ≢ k → (copy_placed h c y k ys).mems z ≡ h.mems z
  others_stay z d e =
      atoms_away (λ a. a) (rules_copied (placed_mem h c k) y k) k ys z e
      ∙ alter_away (placed_mem h c k).mems k (option_map (mem_with_rules (rules_in (placed_mem h c k) y))) z e
      ∙ alter_away (alter h.mems k (option_map (mem_with_place (within c)))) c (option_map (mem_with_mems (λ xs. xs ++ k ∷ []))) z d
      ∙ alter_away h.mems k (option_map (mem_with_place (within c))) z e

  module _ {X : Type 0} (view : Option HeapMem → X) (atoms : (f : List ℕ → List ℕ) (o : Option HeapMem) → view (option_map (mem_with_atoms f) o) ≡ view o)
      (rules : (f : List ℕ) (o : Option HeapMem) → view (option_map (mem_with_rules f) o) ≡ view o) (mems : (f : List ℕ → List ℕ) (o : Option HeapMem) → view (option_map (mem_with_mems f) o) ≡ view o) where
    to_place : (z : ℕ) → view ((copy_placed h c y k ys).mems z) ≡ view (alter h.mems k (option_map (mem_with_place (within c))) z)
    to_place z =
        atoms_keep view atoms (λ a. a) (rules_copied (placed_mem h c k) y k) k ys z
        ∙ alter_keeps (placed_mem h c k).mems k (option_map (mem_with_rules (rules_in (placed_mem h c k) y))) view (rules (rules_in (placed_mem h c k) y)) z
        ∙ alter_keeps (alter h.mems k (option_map (mem_with_place (within c)))) c (option_map (mem_with_mems (λ xs. xs ++ k ∷ []))) view (mems (λ xs. xs ++ k ∷ [])) z

    pub place_away : (z : ℕ) → z ≢ k → view ((copy_placed h c y k ys).mems z) ≡ view (h.mems z)
    place_away z e = to_place z ∙ ap view (alter_away h.mems k (option_map (mem_with_place (within c))) z e)

    pub place_there : view ((copy_placed h c y k ys).mems k) ≡ view (option_map (mem_with_place (within c)) (h.mems k))
    place_there = to_place k ∙ ap view (alter_at h.mems k (option_map (mem_with_place (within c))))

  parent_rules : (f : List ℕ) (o : Option HeapMem) → option_and_then (λ (x : HeapMem). home_by x.place) (option_map (mem_with_rules f) o) ≡ option_and_then (λ (x : HeapMem). home_by x.place) o
  parent_rules f None = refl
  parent_rules f (Some x) = refl

  parent_mems : (f : List ℕ → List ℕ) (o : Option HeapMem) → option_and_then (λ (x : HeapMem). home_by x.place) (option_map (mem_with_mems f) o) ≡ option_and_then (λ (x : HeapMem). home_by x.place) o
  parent_mems f None = refl
  parent_mems f (Some x) = refl

  place_rules : (f : List ℕ) (o : Option HeapMem) → option_map (λ x. x.place) (option_map (mem_with_rules f) o) ≡ option_map (λ x. x.place) o
  place_rules f None = refl
  place_rules f (Some x) = refl

  place_mems : (f : List ℕ → List ℕ) (o : Option HeapMem) → option_map (λ x. x.place) (option_map (mem_with_mems f) o) ≡ option_map (λ x. x.place) o
  place_mems f None = refl
  place_mems f (Some x) = refl

  -- another one stands where it stood
  pub parent_away : (z : ℕ) → z ≢ k → parent_of (copy_placed h c y k ys) z ≡ parent_of h z
  parent_away z e = place_away (option_and_then (λ (x : HeapMem). home_by x.place)) parent_stays parent_rules parent_mems z e

  pub place_of_away : (z : ℕ) → z ≢ k → mem_place_of (copy_placed h c y k ys) z ≡ mem_place_of h z
  place_of_away z e = place_away (option_map (λ x. x.place)) place_stays place_rules place_mems z e

  -- and this one in c
  pub parent_there : IsMem h k → parent_of (copy_placed h c y k ys) k ≡ Some c
  parent_there i = place_there (option_and_then (λ (x : HeapMem). home_by x.place)) parent_stays parent_rules parent_mems ∙ by (h.mems k) i
    where
      by : (o : Option HeapMem) → IsSome o → option_and_then (λ (x : HeapMem). home_by x.place) (option_map (mem_with_place (within c)) o) ≡ Some c
      by None i = absurd (cc)
      by (Some x) i = refl

-- The copies of some of the membranes are placed: those up to `at` in preorder.
pub record Placing (s h : Heap) (m n : ℕ) (atoms ms copies news : List ℕ) (at copy : ℕ) : Type 0 where
  pub placed : List ℕ
  pub here : In at (m ∷ ms)
  pub same : (x : ℕ) → In x (m ∷ ms) → h.mems x ≡ s.mems x
  pub untouched : (x : ℕ) → In x (after at (m ∷ ms)) → h.mems (answer (m ∷ ms) (n ∷ news) x) ≡ s.mems (answer (m ∷ ms) (n ∷ news) x)
  pub left : membranes_placed (answer (m ∷ ms) (n ∷ news)) (answer atoms copies) h (after at (m ∷ ms)) ≡ rest_placed s m n atoms ms copies news
  pub twin : answer (m ∷ ms) (n ∷ news) at ≡ copy
  pub twins : AreTwins h m (answer (m ∷ ms) (n ∷ news)) placed
  pub stand : In at (m ∷ placed)
  pub done : (x : ℕ) → In x placed → In x ms × (In x (after at (m ∷ ms)) → ⊥)
  pub outer : IsMemInPlace h n
  pub line_mems : (behind : List ℕ) × (h.new_mems ≡ map (answer (m ∷ ms) (n ∷ news)) (after at (m ∷ ms)) ++ behind)
  pub line_atoms : (behind : List ℕ) × (h.new_atoms ≡ map (answer atoms copies) (atoms_of_all s (after at (m ∷ ms))) ++ behind)

module _ (s : Heap) (sound : Sound s) (m n : ℕ) (there : IsMem s m) (outer : IsMemInPlace s n) (atoms ms copies news : List ℕ) (w : CopyWaits s m n atoms ms copies news) where
  abbrev mem_copy : ℕ → ℕ
  mem_copy = answer (m ∷ ms) (n ∷ news)

  abbrev atom_copy : ℕ → ℕ
  atom_copy = answer atoms copies

  r : IsContent s m atoms ms
  r = w.content

  waits : (x : ℕ) → In x news → mem_place_of s x ≡ Some waiting
  waits x i = (sound.listed.new_mems x).0 (subst (In x) (sym w.line_of_membranes.1) (in_left x news w.line_of_membranes.0 i))

  -- the copies are other membranes than those that they are of
  not_new : (x : ℕ) → In x (m ∷ ms) → In x news → ⊥
  not_new x i j = by (either_here m x ms i)
    where
      none : (xs ys : List ℕ) → length xs ≡ length ys → ys ≡ [] → In x xs → ⊥
      none [] ys e f k = k
      none (z ∷ zs) ys e f k = let g = ap length f in absurd (omega (arith, e, g))

      by : (x ≡ m) ⊎ In x ms → ⊥
      by (inl q) =
          let e : mems_in s m ≡ [] = (sound.listed.new_empty m (subst (λ z. mem_place_of s z ≡ Some waiting) q (waits x j))).1 in
          none news ms w.long_membranes (r.preorder ∙ bare_of s r.forest (keep (λ _. true) (mems_in s m)) r.forms (keep_all (mems_in s m) ∙ e)) j
      by (inr p) =
          let v = round_of s sound m atoms ms r x p in
          let a = parent_place s x v.0 v.1 in
          let b = waits x j in
          let e : Some (within v.0) ≡ Some waiting = sym a ∙ b in
          cc

  n_apart : (x : ℕ) → In x news → n ≢ x
  n_apart x i e = absurd (subst IsTopOrWithin (subst (λ z. mem_place_of s z ≡ Some waiting) (sym e) (waits x i)) outer)

  once : Distinct (n ∷ news)
  once = (each_of (λ x. n ≢ x) news n_apart, distinct_left news w.line_of_membranes.0 (subst Distinct w.line_of_membranes.1 sound.listed.new_mems_once))

  long : length (n ∷ news) ≡ length (m ∷ ms)
  long = let e = w.long_membranes in omega (arith, e)

  copy_of : (x : ℕ) → In x ms → In (mem_copy x) news
  copy_of x i =
      subst (λ z. In z news) (sym (answer_on m n ms news x (λ e. r.outside (subst (λ z. In z ms) (sym e) i))))
      (answer_in ms news x (let e = w.long_membranes in omega (arith, e)) i)

  one_copy : (x z : ℕ) → In x (m ∷ ms) → In z (m ∷ ms) → mem_copy x ≡ mem_copy z → x ≡ z
  one_copy x z i j e = answer_one (m ∷ ms) (n ∷ news) x z (let l = long in omega (arith, l)) once i j e

  copy_top : mem_copy m ≡ n
  copy_top = answer_here m n ms news m refl

  news_are : map mem_copy ms ≡ news
  news_are = tail_is (map_answer (m ∷ ms) (n ∷ news) (all_once s sound m atoms ms r) long)

  copies_are : map atom_copy atoms ≡ copies
  copies_are = map_answer atoms copies (atoms_once s sound m (λ _. true) (λ _. true) atoms ms r) w.long

  split_atoms : atoms ≡ atoms_in s m ++ atoms_of_all s ms
  split_atoms = r.in_order ∙ ap (λ zs. zs ++ atoms_of_all s ms) (keep_all (atoms_in s m))

  -- the copies of the atoms wait in the order of these
  pub atoms_wait : s.new_atoms ≡ map atom_copy (atoms_in s m) ++ (map atom_copy (atoms_of_all s ms) ++ w.line.0)
  atoms_wait =
      w.line.1 ∙ ap (λ zs. zs ++ w.line.0) (sym copies_are ∙ ap (map atom_copy) split_atoms ∙ map_append atom_copy (atoms_in s m) (atoms_of_all s ms))
      ∙ append_assoc (map atom_copy (atoms_in s m)) (map atom_copy (atoms_of_all s ms)) w.line.0

  -- those of the membrane itself are the first
  pub first_line : (ys behind : List ℕ) × (length ys ≡ length (atoms_in s m)) × (s.new_atoms ≡ ys ++ behind)
  first_line = (map atom_copy (atoms_in s m), map atom_copy (atoms_of_all s ms) ++ w.line.0, length_mapped atom_copy (atoms_in s m), atoms_wait)

  -- The atoms of the membrane itself are placed.
  pub starts_placing : (h : Heap) → h ≡ atoms_placed (λ a. a) s n (map atom_copy (atoms_in s m)) → Placing s h m n atoms ms copies news m n
  starts_placing h e =
      let is : h ≡ atoms_placed atom_copy s n (atoms_in s m) = e ∙ atoms_mapped atom_copy s n (atoms_in s m) in
      let top = after_top s sound m atoms ms r in
      record {
        placed = [];
        here = inl refl;
        same = λ x i. ap (λ z. z.mems x) is ∙ atoms_away atom_copy s n (atoms_in s m) x (λ q. w.outside (subst (λ z. In z (m ∷ ms)) q i));
        untouched = λ x i. ap (λ z. z.mems (mem_copy x)) is ∙ atoms_away atom_copy s n (atoms_in s m) (mem_copy x) (λ q. n_apart (mem_copy x) (copy_of x (subst (In x) top i)) (sym q));
        left = subst (λ zs. membranes_placed mem_copy atom_copy h zs ≡ rest_placed s m n atoms ms copies news) (sym top) (ap (λ z. membranes_placed mem_copy atom_copy z ms) is);
        twin = copy_top;
        twins = λ x i. absurd i;
        stand = inl refl;
        done = λ x i. absurd i;
        outer = subst (λ z. IsMemInPlace z n) (sym is) (subst IsTopOrWithin (sym (atoms_keep (option_map (λ x. x.place)) place_stays atom_copy s n (atoms_in s m) n)) outer);
        line_mems = (
          w.line_of_membranes.0,
          ap (λ z. z.new_mems) is ∙ atoms_line atom_copy s n (atoms_in s m) ∙ w.line_of_membranes.1
              ∙ ap (λ zs. zs ++ w.line_of_membranes.0) (sym news_are ∙ ap (map mem_copy) (sym top)),
        );
        line_atoms = (
          w.line.0,
          ap (λ z. z.new_atoms) is ∙ atoms_behind atom_copy s n (atoms_in s m) (map atom_copy (atoms_of_all s ms) ++ w.line.0) atoms_wait
              ∙ ap (λ zs. map atom_copy (atoms_of_all s zs) ++ w.line.0) (sym top),
        );
      }

  -- the same, of the first in the line, whatever they are called
  pub starts_from : (h : Heap) → ((ys behind : List ℕ) → length ys ≡ length (atoms_in s m) → s.new_atoms ≡ ys ++ behind → h ≡ atoms_placed (λ a. a) s n ys) → Placing s h m n atoms ms copies news m n
  starts_from h e = starts_placing h (e (map atom_copy (atoms_in s m)) (map atom_copy (atoms_of_all s ms) ++ w.line.0) (length_mapped atom_copy (atoms_in s m)) atoms_wait)

  -- On the way.
  module _ (h : Heap) (at copy : ℕ) (d : Placing s h m n atoms ms copies news at copy) where
    -- what stands in the membrane stays
    pub content_stays : IsContent h m atoms ms
    content_stays = record {
      forest = r.forest;
      forms = forms_frame s h r.forest (keep (λ _. true) (mems_in h m)) (λ x i. ap mems_by (d.same x (inr (subst (In x) (sym r.preorder) i))))
          (subst (λ zs. Forms s r.forest (keep (λ _. true) zs)) (sym (ap mems_by (d.same m (inl refl)))) r.forms);
      preorder = r.preorder;
      once = r.once;
      outside = r.outside;
      in_order = r.in_order ∙ (λ i. keep (λ _. true) (atoms_by (sym (d.same m (inl refl)) i)) ++ same_atoms ms (λ x p. d.same x (inr p)) i);
    }
      where
        same_atoms : (xs : List ℕ) → ((x : ℕ) → In x xs → h.mems x ≡ s.mems x) → atoms_of_all s xs ≡ atoms_of_all h xs
        same_atoms [] f = refl
        same_atoms (x ∷ xs) f = λ i. atoms_by (sym (f x (inl refl)) i) ++ same_atoms xs (λ z p. f z (inr p)) i

    -- and so do the membranes in it
    pub still_there : (x : ℕ) → In x (m ∷ ms) → IsMem h x
    still_there x i = subst IsSome (sym (d.same x i)) (is_mem s sound m atoms ms r there x (either_here m x ms i))

    -- the copies that are placed are in place
    pub copy_in_place : (p c : ℕ) → In p (m ∷ d.placed) → mem_copy p ≡ c → IsMemInPlace h c
    copy_in_place p c (inl e) f = subst (IsMemInPlace h) (sym copy_top ∙ ap mem_copy e ∙ f) d.outer
    copy_in_place p c (inr i) f =
        let v = d.twins p i in
        subst (IsMemInPlace h) f (subst IsTopOrWithin (sym (parent_place h (mem_copy p) (mem_copy v.0) v.3)) tt)

    -- the copy of the stand is one
    pub copy_there : IsMem h copy
    copy_there = stands_some (h.mems copy) (copy_in_place at copy d.stand d.twin)

    -- The next membrane is y, and the copy of the membrane round it is c.
    module _ (y p c : ℕ) (next : from (Some y) (m ∷ ms) ≡ after at (m ∷ ms)) (up : parent_of h y ≡ Some p) (round : In p (m ∷ d.placed)) (twin : mem_copy p ≡ c) where
      ahead : after at (m ∷ ms) ≡ y ∷ after y (m ∷ ms)
      ahead = sym next

      is_ahead : In y (after at (m ∷ ms))
      is_ahead = subst (In y) next (inl refl)

      behind_in_all : (x : ℕ) → In x (after at (m ∷ ms)) → In x ms
      behind_in_all x i = inner (either_here m at ms d.here)
        where
          inner : (at ≡ m) ⊎ In at ms → In x ms
          inner (inl e) = subst (In x) (ap (λ z. after z (m ∷ ms)) e ∙ after_top s sound m atoms ms r) i
          inner (inr j) = let t = tail_of at ms in subst (In x) (sym t.1) (in_right x t.0 (after at ms) (subst (In x) (after_inner s sound m atoms ms r at j) i))

      y_in : In y ms
      y_in = behind_in_all y is_ahead

      -- what the call that places a copy asks
      pub next_there : IsMem h y
      next_there = still_there y (inr y_in)

      pub room_there : IsMemInPlace h c
      room_there = copy_in_place p c round twin

      line : h.new_mems ≡ mem_copy y ∷ (map mem_copy (after y (m ∷ ms)) ++ d.line_mems.0)
      line = d.line_mems.1 ∙ ap (λ zs. map mem_copy zs ++ d.line_mems.0) ahead

      apart : y ≢ mem_copy y
      apart e = not_new y (inr y_in) (subst (λ z. In z news) (sym e) (copy_of y y_in))

      room : length (rules_in h y) ≤ spare_of h (mem_copy y)
      room =
          let q = position ms y y_in in
          let l : length (rules_in s y) ≤ spare_of s (mem_copy y) = w.roomy q.0 y (mem_copy y) q.1 (subst (λ zs. slice_get zs q.0 ≡ Some (mem_copy y)) news_are (get_map mem_copy ms q.0 y q.1)) in
          subst (λ (o : Option HeapMem). length (rules_by o) ≤ spare_of h (mem_copy y)) (sym (d.same y (inr y_in)))
          (subst (λ (o : Option HeapMem). length (rules_in s y) ≤ spare_by o) (sym (d.untouched y is_ahead)) l)

      pub first_waits : (k : ℕ) × (ks : List ℕ) × (h.new_mems ≡ k ∷ ks) × (y ≢ k) × (length (rules_in h y) ≤ spare_of h k)
      first_waits = (mem_copy y, map mem_copy (after y (m ∷ ms)) ++ d.line_mems.0, line, apart, room)

      atoms_line_here : h.new_atoms ≡ map atom_copy (atoms_in h y) ++ (map atom_copy (atoms_of_all s (after y (m ∷ ms))) ++ d.line_atoms.0)
      atoms_line_here =
          d.line_atoms.1
          ∙ ap (λ zs. map atom_copy (atoms_of_all s zs) ++ d.line_atoms.0) ahead
          ∙ ap (λ zs. zs ++ d.line_atoms.0) (map_append atom_copy (atoms_in s y) (atoms_of_all s (after y (m ∷ ms))))
          ∙ append_assoc (map atom_copy (atoms_in s y)) (map atom_copy (atoms_of_all s (after y (m ∷ ms)))) d.line_atoms.0
          ∙ ap (λ (o : Option HeapMem). map atom_copy (atoms_by o) ++ (map atom_copy (atoms_of_all s (after y (m ∷ ms))) ++ d.line_atoms.0)) (sym (d.same y (inr y_in)))

      pub atoms_waiting : (ys behind : List ℕ) × (length ys ≡ length (atoms_in h y)) × (h.new_atoms ≡ ys ++ behind)
      atoms_waiting = (map atom_copy (atoms_in h y), map atom_copy (atoms_of_all s (after y (m ∷ ms))) ++ d.line_atoms.0, length_mapped atom_copy (atoms_in h y), atoms_line_here)

      -- the next is a step nearer to the end
      pub fewer : length (after y (m ∷ ms)) < length (after at (m ∷ ms))
      fewer = let e = ap length ahead in omega (arith, e)

      -- The copy of the next is placed.
      pub goes_on : (k : ℕ) (u : Heap) → from (Some k) h.new_mems ≡ h.new_mems
          → ((ys behind : List ℕ) → length ys ≡ length (atoms_in h y) → h.new_atoms ≡ ys ++ behind → u ≡ copy_placed h c y k ys) → Placing s u m n atoms ms copies news y k
      goes_on k u first made =
          let ys = map atom_copy (atoms_in h y) in
          let more = map atom_copy (atoms_of_all s (after y (m ∷ ms))) ++ d.line_atoms.0 in
          let is : u ≡ copy_placed h c y k ys = made ys more (length_mapped atom_copy (atoms_in h y)) atoms_line_here in
          let one : k ≡ mem_copy y = head_is (first ∙ line) in
          let in_line : IsMem h k = subst (IsMem h) (sym one) (subst IsSome (sym (d.untouched y is_ahead)) (mem_of_place s (mem_copy y) waiting (waits (mem_copy y) (copy_of y y_in)))) in
          let later : (x : ℕ) → In x (after y (m ∷ ms)) → In x (after at (m ∷ ms)) = λ x i. subst (In x) (sym ahead) (inr i) in
          let not_k : (x : ℕ) → In x (m ∷ ms) → x ≢ k = λ x i e. not_new x i (subst (λ z. In z news) (sym (e ∙ one)) (copy_of y y_in)) in
          let not_c : (x : ℕ) → In x (m ∷ ms) → x ≢ c = λ x i e. by_round x i e round in
          let stays : (x : ℕ) → In x (m ∷ ms) → u.mems x ≡ h.mems x = λ x i. ap (λ z. z.mems x) is ∙ others_stay h c y k ys x (not_c x i) (not_k x i) in
          let once_ahead : In y (after y (m ∷ ms)) → ⊥ = λ i. (let l = less_behind y y (m ∷ ms) (all_once s sound m atoms ms r) i in omega (arith, l)) in
          record {
            placed = y ∷ d.placed;
            here = inr y_in;
            same = λ x i. stays x i ∙ d.same x i;
            untouched = λ x i. ap (λ z. z.mems (mem_copy x)) is
                ∙ others_stay h c y k ys (mem_copy x)
                (λ e. p_apart x (later x i) round (one_copy x p (inr (behind_in_all x (later x i))) (p_in round) (e ∙ sym twin)))
                (λ e. once_ahead (subst (λ z. In z (after y (m ∷ ms))) (one_copy x y (inr (behind_in_all x (later x i))) (inr y_in) (e ∙ one)) i))
                ∙ d.untouched x (later x i);
            left =
                ap (λ z. membranes_placed mem_copy atom_copy z (after y (m ∷ ms)))
                (is ∙ ap (λ z. copy_placed h c y z ys) one ∙ ap (λ z. copy_placed h z y (mem_copy y) ys) (sym twin)
                ∙ atoms_mapped atom_copy (rules_copied (placed_mem h (mem_copy p) (mem_copy y)) y (mem_copy y)) (mem_copy y) (atoms_in h y)
                ∙ ap (λ z. atoms_placed atom_copy (rules_copied (placed_mem h (copy_round mem_copy z) (mem_copy y)) y (mem_copy y)) (mem_copy y) (atoms_in h y)) (sym up))
                ∙ ap (membranes_placed mem_copy atom_copy h) (sym ahead)
                ∙ d.left;
            twin = sym one;
            twins = λ x i. elim i [
              | inl e ↦ subst (λ z. (q : ℕ) × (parent_of u z ≡ Some q) × In q (m ∷ (y ∷ d.placed)) × (parent_of u (mem_copy z) ≡ Some (mem_copy q))) e (
                p,
                ap (option_and_then (λ (z : HeapMem). home_by z.place)) (stays y (inr y_in)) ∙ up,
                wider p round,
                ap (λ z. parent_of z (mem_copy y)) is ∙ subst (λ z. parent_of (copy_placed h c y k ys) z ≡ Some c) one (parent_there h c y k ys in_line) ∙ ap Some (sym twin),
              )
              | inr j ↦ (let v = d.twins x j in let q = d.done x j in (
                v.0,
                ap (option_and_then (λ (z : HeapMem). home_by z.place)) (stays x (inr q.0)) ∙ v.1,
                wider v.0 v.2,
                ap (λ z. parent_of z (mem_copy x)) is
                    ∙ parent_away h c y k ys (mem_copy x) (λ e. q.1 (subst (λ z. In z (after at (m ∷ ms))) (sym (one_copy x y (inr q.0) (inr y_in) (e ∙ one))) is_ahead)) ∙ v.3,
              ))
            ];
            stand = inr (inl refl);
            done = λ x i. elim i [
              | inl e ↦ (subst (λ z. In z ms) e y_in, subst (λ z. In z (after y (m ∷ ms)) → ⊥) e once_ahead)
              | inr j ↦ ((d.done x j).0, λ q. (d.done x j).1 (later x q))
            ];
            outer = subst (λ z. IsMemInPlace z n) (sym is) (subst IsTopOrWithin (sym (place_of_away h c y k ys n (λ e. n_apart (mem_copy y) (copy_of y y_in) (e ∙ one)))) d.outer);
            line_mems = (
              d.line_mems.0,
              ap (λ z. z.new_mems) is ∙ atoms_line (λ a. a) (rules_copied (placed_mem h c k) y k) k ys
                  ∙ ap (λ z. after z h.new_mems) one ∙ ap (after (mem_copy y)) line ∙ behind_here (mem_copy y) (map mem_copy (after y (m ∷ ms)) ++ d.line_mems.0),
            );
            line_atoms = (
              d.line_atoms.0,
              ap (λ z. z.new_atoms) is
                  ∙ atoms_behind (λ a. a) (rules_copied (placed_mem h c k) y k) k ys more (atoms_line_here ∙ ap (λ zs. zs ++ more) (sym (map_itself ys))),
            );
          }
        where
          wider : (q : ℕ) → In q (m ∷ d.placed) → In q (m ∷ (y ∷ d.placed))
          wider q (inl e) = inl e
          wider q (inr i) = inr (inr i)

          p_in : In p (m ∷ d.placed) → In p (m ∷ ms)
          p_in (inl e) = inl e
          p_in (inr i) = inr (d.done p i).0

          p_apart : (x : ℕ) → In x (after at (m ∷ ms)) → In p (m ∷ d.placed) → x ≢ p
          p_apart x i (inl e) q = r.outside (subst (λ z. In z ms) (q ∙ sym e) (behind_in_all x i))
          p_apart x i (inr j) q = (d.done p j).1 (subst (λ z. In z (after at (m ∷ ms))) q i)

          by_round : (x : ℕ) → In x (m ∷ ms) → x ≡ c → In p (m ∷ d.placed) → ⊥
          by_round x i e (inl q) = w.outside (subst (λ z. In z (m ∷ ms)) (e ∙ sym twin ∙ ap mem_copy (sym q) ∙ copy_top) i)
          by_round x i e (inr j) = not_new x i (subst (λ z. In z news) (sym (e ∙ sym twin)) (copy_of p (d.done p j).0))

    -- at the end the copy is placed
    pub all_placed : from None (m ∷ ms) ≡ after at (m ∷ ms) → h ≡ rest_placed s m n atoms ms copies news
    all_placed e = ap (membranes_placed mem_copy atom_copy h) e ∙ d.left
