-- The list that a walk leaves of its atoms, and what is done along it.
use Rattle.std.proofs.Common.{◌≡◌, ◌≢◌, ℕ, ◌+◌, ◌<◌, Bool, true, false, List, [], ◌∷◌, ◌++◌, length, map, drop, Option, Some, None, IsSome, refl, sym, ap, subst, ◌∙◌, inl, inr, arith, length-append, if◌then◌else◌}
use Rattle.std.specs.Prelude.{slice_get, slice_index_or}
use Rattle.lmn_base.specs.Graphs.{Reached}
use Rattle.lmn_base.specs.Lists.{In}
use Rattle.std.proofs.lemmas.Bool.{cases_eq}
use Rattle.std.specs.Option.{option_and_then, option_map}
use Rattle.lmn_store_heap.specs.Heap.{Heap, HeapAtom, Distinct, IsAtom, arity_of, gone, marks_of, partners_of, taken, with_place}
use Rattle.lmn_store_heap.specs.Graphs.{atom_map}
use Rattle.lmn_store_heap.specs.Sound.{Sound}
use Rattle.lmn_store_heap.proofs.ListLemmas.{each_in}
use Rattle.lmn_store_heap.proofs.Listing.{alter_away}
use Rattle.lmn_ground_parts.specs.Copies.{AllAtoms}
use Rattle.lmn_ground_parts.specs.Walks.{HasPort, IsPartInDepth, Walk, ends, finds, is_in, is_port, kept, neighbour, net, passes, port_range}
use Rattle.lmn_ground_parts.proofs.Common.{either_port, ports_in}
use Rattle.lmn_ground_parts.proofs.WalkLaws.{in_last, kept_seen, once}
use Rattle.lmn_ground.specs.Copies.{unmarked_all}
use Rattle.lmn_ground.specs.Deeds.{CanDo, all_done, done}
use Rattle.lmn_ground.specs.declared.wipe.Deed.{Deed}
use Rattle.lmn_ground.specs.declared.wipe.Deed.TheVariants.{Leave, Take, SetOwn}
use Rattle.lmn_ground.specs.Marks.{first_marks}
use Rattle.lmn_ground.specs.Spread.{CleanPart, Spread}
use Rattle.lmn_ground.proofs.GroundLaws.{part_atoms}
use Rattle.lmn_ground.proofs.SpreadLaws.{reached_port}
use Rattle.lmn_ground.specs.Stands.{IsTrail}
use Rattle.lmn_ground.proofs.CopyLaws.{map_snoc, drop_map, marked_there}
use Rattle.lmn_ground.proofs.PaintLaws.{is_painted, with_port}
use Rattle.lmn_ground.proofs.PaintedLaws.{unmarked_painted}
use Rattle.lmn_ground.proofs.TakeLaws.{home_away, there_taken}

-- nothing is found at first
pub trail_none : {A : Type 0} (id : A → ℕ) (xs : List A) → xs ≡ [] → IsTrail id xs 0 []
trail_none id xs e = record { few = omega (arith, ap length e); all = λ _. ap (map id) e }

-- one more is found, and listed where there is room
pub trail_next : {A : Type 0} (id : A → ℕ) (xs ys : List A) (b : A) (count : ℕ) (seen : List ℕ) (room : Bool) → ys ≡ (if room then xs ++ b ∷ [] else xs)
    → IsTrail id xs count seen → IsTrail id ys (count + 1) (seen ++ id b ∷ [])
trail_next id xs ys b count seen true e t =
    let long : length ys ≡ length xs + 1 = ap length e ∙ length-append xs (b ∷ []) in
    let few = t.few in
    record {
      few = omega (arith, long, few);
      all = λ h. ap (map id) e ∙ map_snoc id xs b ∙ ap (λ zs. zs ++ id b ∷ []) (t.all (omega (arith, long, h)));
    }
trail_next id xs ys b count seen false e t =
    let long : length ys ≡ length xs = ap length e in
    let few = t.few in
    record { few = omega (arith, long, few); all = λ h. absurd (omega (arith, long, h, few)) }

-- what a walk has marked and listed in an equal heap
pub still_spread : {A : Type 0} (id : A → ℕ) (trail : List A) (before now to : Heap) (root : ℕ × ℕ) (count : ℕ) (all : Bool) → to ≡ now
    → (t : Spread before now root count all) × IsTrail id trail count t.seen → (t : Spread before to root count all) × IsTrail id trail count t.seen
still_spread id trail before now to root count all e t = subst (λ (h : Heap). (t : Spread before h root count all) × IsTrail id trail count t.seen) (sym e) t

module _ (before now : Heap) (root : ℕ × ℕ) (count : ℕ) (all : Bool) (t : Spread before now root count all) where
  -- the atoms that a walk has found are there before it
  pub seen_before : (xs : List ℕ) → xs ≡ t.seen → AllAtoms before xs
  seen_before xs e x k = with_port before x (t.ports x (subst (In x) e k))

  -- and behind it
  pub seen_there : (xs : List ℕ) → xs ≡ t.seen → AllAtoms now xs
  seen_there xs e x k = subst (λ (s : Heap). IsAtom s x) (sym t.is) (is_painted before t.marks x (seen_before xs e x k))

  -- each once
  pub seen_once : (xs : List ℕ) → xs ≡ t.seen → Distinct xs
  seen_once xs e = subst Distinct (sym e) (once (net before).arity (neighbour (net before) root (is_in t.seen)) t.walked (tt, tt))

  -- without their marks the heap is that before
  pub seen_unmarked : (xs : List ℕ) → xs ≡ t.seen → unmarked_all now xs ≡ before
  seen_unmarked xs e = ap (unmarked_all now) e ∙ ap (λ (s : Heap). unmarked_all s t.seen) t.is ∙ unmarked_painted before t.marks t.seen t.clean t.outside

-- what is done to the first, and then to the others
first_then : (d : Deed) (a : ℕ) (xs : List ℕ) (s : Heap) → all_done d (a ∷ xs) s ≡ all_done d xs (done d a s)
first_then Leave a xs s = refl
first_then Take a xs s = refl
first_then (SetOwn v) a xs s = refl

-- the others stay in place
others_can : (d : Deed) (a : ℕ) (xs : List ℕ) (s : Heap) → Distinct (a ∷ xs) → CanDo d (a ∷ xs) s → CanDo d xs (done d a s)
others_can Leave a xs s once can = tt
others_can Take a xs s once can = λ x k. subst (λ (h : Option ℕ). IsSome h) (sym (home_away s a x (λ e. each_in (λ y. a ≢ y) xs x once.0 k (sym e)))) (can x (inr k))
others_can (SetOwn v) a xs s once can = can

-- atoms stay when the deed is done to one
pub there_still : (d : Deed) (a : ℕ) (s to : Heap) (xs : List ℕ) → to ≡ done d a s → AllAtoms s xs → AllAtoms to xs
there_still d a s to xs e there = subst (λ h. AllAtoms h xs) (sym e) (by d)
  where
    by : (d : Deed) → AllAtoms (done d a s) xs
    by Leave = there
    by Take = λ x k. elim (cases_eq x a) [
      | inl e ↦ subst (IsAtom (taken s a)) (sym e) (there_taken s (taken s a) a refl (subst (IsAtom s) e (there x k)))
      | inr n ↦ subst (λ (o : Option HeapAtom). IsSome o) (sym (alter_away s.atoms a (option_map (with_place gone)) x n)) (there x k)
    ]
    by (SetOwn v) = marked_there s a (arity_of s a) v xs there

-- the deed can be done to the first
first_can : (d : Deed) (a : ℕ) (xs : List ℕ) (s : Heap) → CanDo d (a ∷ xs) s → CanDo d (a ∷ []) s
first_can Leave a xs s can = tt
first_can Take a xs s can = λ x k. elim k [ inl e ↦ can x (inl e) | inr n ↦ absurd n ]
first_can (SetOwn v) a xs s can = can

module _ {A : Type 0} (id : A → ℕ) (d : Deed) (xs : List A) (k : ℕ) (a : A) (get : slice_get xs k ≡ Some a) where
  -- the deed can be done to the atom at a place
  pub can_here : (s : Heap) → CanDo d (drop k (map id xs)) s → CanDo d (id a ∷ []) s
  can_here s can = first_can d (id a) (drop (k + 1) (map id xs)) s (subst (λ zs. CanDo d zs s) (drop_map id xs k a get) can)

  -- and then to those behind it
  pub can_behind : (s to : Heap) → to ≡ done d (id a) s → Distinct (drop k (map id xs)) → CanDo d (drop k (map id xs)) s → CanDo d (drop (k + 1) (map id xs)) to
  can_behind s to e once can =
      subst (λ h. CanDo d (drop (k + 1) (map id xs)) h) (sym e)
      (others_can d (id a) (drop (k + 1) (map id xs)) s (subst Distinct (drop_map id xs k a get) once) (subst (λ zs. CanDo d zs s) (drop_map id xs k a get) can))

  -- those behind it are distinct too
  pub once_behind : Distinct (drop k (map id xs)) → Distinct (drop (k + 1) (map id xs))
  once_behind once = (subst Distinct (drop_map id xs k a get) once).1

  -- less is left to be done
  pub done_here : (s to goal : Heap) → to ≡ done d (id a) s → all_done d (drop k (map id xs)) s ≡ goal → all_done d (drop (k + 1) (map id xs)) to ≡ goal
  done_here s to goal e h =
      ap (all_done d (drop (k + 1) (map id xs))) e ∙ sym (first_then d (id a) (drop (k + 1) (map id xs)) s) ∙ sym (ap (λ zs. all_done d zs s) (drop_map id xs k a get)) ∙ h

-- The atoms of a part can be numbered: they are there, each once, have ports, and no marks yet.
module _ (s : Heap) (root : ℕ × ℕ) (xs : List ℕ) (sound : Sound s) (port : root.1 < arity_of s root.0) (part : IsPartInDepth s root xs) where
  reached_of : (x : ℕ) → In x xs → Reached (atom_map s) root x
  reached_of x k = ((part_atoms s root xs part).1 x).0 k

  pub part_there : AllAtoms s xs
  part_there x k = with_port s x (reached_port s root sound port x (reached_of x k))

  pub part_once : Distinct xs
  part_once = (part_atoms s root xs part).0

  pub part_clean : CleanPart s root → (x : ℕ) → In x xs → first_marks s x ≡ 0
  part_clean clean x k = clean x (reached_of x k)

  pub part_marks : (x : ℕ) → In x xs → 0 < length (marks_of (s.atoms x))
  part_marks x k = let m = sound.shaped.marks x (part_there x k) in omega (arith, m)

-- A part is walked alike in a heap in which its atoms are joined as in this one.
module _ (s t : Heap) (root : ℕ × ℕ) (xs : List ℕ) (same : (a : ℕ) → In a xs → partners_of (t.atoms a) ≡ partners_of (s.atoms a)) where
  same_next : (p : ℕ × ℕ) → In p.0 xs → neighbour (net t) root (λ _. true) p ≡ neighbour (net s) root (λ _. true) p
  same_next p k = ap (λ ls. if is_port p root then None else option_and_then (kept (λ _. true)) (slice_index_or ls p.1 None)) (same p.0 k)

  walk_kept : {seen : List ℕ} {ps : List (ℕ × ℕ)} → Walk (net s).arity (neighbour (net s) root (λ _. true)) seen ps xs → ((p : ℕ × ℕ) → HasPort p ps → In p.0 xs)
      → Walk (net t).arity (neighbour (net t) root (λ _. true)) seen ps xs
  walk_kept ends inside = ends
  walk_kept (passes {p = p} h w) inside =
      passes (λ b e. h b (sym (same_next p (inside p (inl refl))) ∙ e)) (walk_kept w (λ q k. inside q (inr k)))
  walk_kept (finds {seen = seen} {ps = ps} {p = p} {b = b} e n w) inside =
      let found : In b xs = kept_seen _ _ w b (in_last b seen) in
      let arity : arity_of t b ≡ arity_of s b = ap length (same b found) in
      finds (same_next p (inside p (inl refl)) ∙ e) n
      (subst (λ (k : ℕ). Walk (net t).arity (neighbour (net t) root (λ _. true)) (seen ++ b ∷ []) (port_range b 0 k ++ ps) xs) (sym arity)
      (walk_kept w (λ q k. elim (either_port b 0 (arity_of s b) ps q k) [
        | inl i ↦ ports_in xs b 0 (arity_of s b) found q i
        | inr i ↦ inside q (inr i)
      ])))

  pub part_kept : IsPartInDepth s root xs → IsPartInDepth t root xs
  part_kept part =
      let first : In root.0 xs = kept_seen _ _ part root.0 (inl refl) in
      let arity : arity_of t root.0 ≡ arity_of s root.0 = ap length (same root.0 first) in
      subst (λ (k : ℕ). Walk (net t).arity (neighbour (net t) root (λ _. true)) (root.0 ∷ []) (port_range root.0 0 k) xs) (sym arity)
      (walk_kept part (λ p k. ports_in xs root.0 0 (arity_of s root.0) first p k))
