-- A membrane that stands alone.
use Rattle.std.proofs.Common.{ℕ, zero, suc, ◌≡◌, ◌+◌, ◌⊎◌, inl, inr, List, [], Option, Some, None, IsSome, refl, sym, ap, subst, ◌∙◌, arith}
use Rattle.std.specs.Prelude.{slice_get}
use Rattle.std.specs.Option.{option_map, option_and_then}
use Rattle.lmn_base.specs.Lists.{In}
use Rattle.lmn_store_heap.specs.Conditions.{Above}
use Rattle.lmn_store_heap.specs.Heap.{Heap, HeapMem, IsMem, top, discarded, home_by, mem_mark_by, mem_mark_of, mem_marked, mems_in, parent_of}
use Rattle.lmn_store_heap.specs.Sound.{Sound, Valid}
use Rattle.lmn_store_heap.proofs.Heights.{climbs_first, depth_of, mem_of_place, parent_place}
use Rattle.lmn_instr_code.specs.declared.instr.Instr.{Instr}
use Rattle.lmn_solid_bodies.specs.Running.{Registers}
use Rattle.lmn_solid_bodies.specs.Stopping.{SameButSpares}
use Rattle.lmn_machine_registers.specs.declared.registers.SetRegisters.{SetRegisters}
use Rattle.lmn_schedule_sleep.proofs.Marks.{read_alike}
use Rattle.lmn_machine_commit.specs.Registers.{AgreesWithCopies}
use Rattle.lmn_machine_commit.specs.Waking.{Is, IsRoused, WakesAbove}
use Rattle.lmn_machine_commit.proofs.Frames.{Marked}
use Rattle.lmn_machine_commit.proofs.Rousing.{above_prepared, climb_begins, climb_ends, mark_one}

-- the root is a membrane
pub root_there : (h : Heap) → Sound h → IsMem h h.root
root_there h s = mem_of_place h h.root top ((s.listed.root h.root).1 refl)

module _ (h : Heap) (s : Sound h) where
  root_last : parent_of h h.root ≡ None
  root_last = by (h.mems h.root) ((s.listed.root h.root).1 refl)
    where
      by : (o : Option HeapMem) → option_map (λ x. x.place) o ≡ Some top → option_and_then (λ x. home_by x.place) o ≡ None
      by None e = absurd (cc)
      by (Some x) e = let z : x.place ≡ top = cc in ap home_by z

  -- where nothing stands in the root, it is all that stands in it at some depth
  only_root : mems_in h h.root ≡ [] → (x k : ℕ) → Above h k h.root x → x ≡ h.root
  only_root none x zero a = a
  only_root none x (suc k) a =
      let split : suc k ≡ k + 1 = omega arith in
      let c = climbs_first h k 1 h.root x (subst (λ n. Above h n h.root x) split a) in
      let up : parent_of h c.0 ≡ Some h.root = c.2.1 ∙ ap (λ z. Some z) c.2.2 in
      absurd (subst (λ (xs : List ℕ). In c.0 xs) none ((s.listed.mems h.root c.0).1 (parent_place h c.0 h.root up)))

  -- the root wakes: nothing is round it
  root_wakes : (k : Heap) → k ≡ mem_marked h h.root 0 → WakesAbove (Is h.root) h k
  root_wakes k is = climb_ends h h k h.root 0 h.root (climb_begins h h.root (root_there h s)) is ((read_alike h k (mark_one h k h.root 0 is)).parents h.root ∙ root_last)

-- Where the root stands alone and all that isn't in it is awake, all is awake with it: so it alone has to wake.
pub only_wakes : {A M : Type 0} (atom : A → ℕ) (membrane : M → ℕ) (set : SetRegisters A M) (h k : Heap) (code : List Instr) (m : M) → Sound h → slice_get set.membranes 0 ≡ Some m → membrane m ≡ h.root → mems_in h (membrane m) ≡ [] →
    ((x : ℕ) → (mem_mark_of h x ≡ 0) ⊎ ((k : ℕ) × Above h k h.root x)) → k ≡ mem_marked h (membrane m) 0 → (r : Registers) → AgreesWithCopies atom membrane set r → WakesAbove (IsRoused h r code) h k
only_wakes atom membrane set h k code m s first is none others marked r u =
    let w = root_wakes h s k (subst (λ n. k ≡ mem_marked h n 0) is marked) in
    let top = u.membranes 0 m first ∙ is in
    record {
      alike = w.alike;
      woken = λ x y j q a. elim (others x) [
        | inl z ↦ elim (w.others x) [ inl e ↦ e ∙ z | inr e ↦ e.0 ]
        | inr up ↦ w.woken x h.root 0 refl (sym (only_root h s (subst (λ n. mems_in h n ≡ []) is none) x up.0 up.1))
      ];
      others = λ x. elim (w.others x) [ inl e ↦ inl e | inr e ↦ inr (e.0, (e.1.0, e.1.1, inl (e.1.2 ∙ sym top), e.1.3)) ];
    }

-- What a prepare makes is awake, and all else stands in the root at some depth.
pub others_awake : (h s : Heap) → Valid h → SameButSpares h (discarded s) → Marked h.mems s.mems → (x : ℕ) → (mem_mark_of s x ≡ 0) ⊎ ((k : ℕ) × Above s k s.root x)
others_awake h s v rest made x = by (h.mems x) (s.mems x) refl refl
  where
    nothing : (o : Option HeapMem) → o ≡ None → IsSome o → ⊥
    nothing None e i = cc
    nothing (Some y) e i = cc

    by : (o p : Option HeapMem) → h.mems x ≡ o → s.mems x ≡ p → (mem_mark_of s x ≡ 0) ⊎ ((k : ℕ) × Above s k s.root x)
    by (Some y) p e q =
        let there : IsMem h x = subst (λ (o : Option HeapMem). IsSome o) (sym e) refl in
        let d = depth_of h v x there in
        inr (d.0, subst (λ n. Above s d.0 n x) (sym rest.root) (above_prepared h s v rest d.0 h.root x d.1))
    by None None e q = inl (ap mem_mark_by q)
    by None (Some y) e q = elim (made x (subst (λ (o : Option HeapMem). IsSome o) (sym q) refl)) [
      | inl w ↦ absurd (nothing (h.mems x) e w.0)
      | inr z ↦ inl z
    ]
