-- A commit wakes what its code rouses, and nothing else.
use Rattle.std.proofs.Common.{ℕ, ◌≡◌, ◌<◌, ◌⊎◌, inl, inr, List, ◌∷◌, [], Option, Some, None, IsSome, refl, ap, sym, subst, length, ◌∙◌}
use Rattle.std.specs.Option.{option_map, option_and_then}
use Rattle.std.specs.Prelude.{slice_index_or}
use Rattle.std.proofs.lemmas.Option.{slice_get_within}
use Rattle.lmn_base.specs.Solids.{connector}
use Rattle.lmn_base.proofs.Lists.{get_there}
use Rattle.lmn_store_heap.specs.Heap.{Heap, HeapAtom, HeapMem, IsMem, top, home_by, partners_of, mem_mark_by, mem_mark_of, mem_with_mark, marks_of, Unmarked}
use Rattle.lmn_store_heap.specs.Sound.{Valid, Sound, Forms}
use Rattle.lmn_store_heap.proofs.Groves.{forms_frame}
use Rattle.lmn_instr_code.specs.declared.instr.Instr.{Instr}
use Rattle.lmn_solid_bodies.specs.Running.{Registers, DoesAll}
use Rattle.lmn_machine_registers.specs.declared.registers.SetRegisters.{SetRegisters}
use Rattle.lmn_machine_commit.specs.Matched.{IsPrepared}
use Rattle.lmn_machine_commit.specs.Waking.{WakesAbove, WakesRoused, IsRoused}
use Rattle.lmn_machine_commit.proofs.Frames.{marks_stay}
use Rattle.lmn_machine_commit.proofs.Remarked.{remarked}
use Rattle.lmn_schedule_sleep.specs.Quiet.{SameButMarks}
use Rattle.lmn_schedule_sleep.proofs.Marks.{read_alike}

-- a heap that differs from a valid one in the marks of membranes alone is valid where it is sound
pub valid_but_marks : (h k : Heap) → SameButMarks h k → Valid h → Sound k → Valid k
valid_but_marks h k e v sound =
    let same = read_alike h k e in
    record {
      sound = sound;
      settled = record {
        atoms = λ a i. subst (λ (o : Option HeapAtom). IsSome (option_and_then (λ x. home_by x.place) o)) (sym (e.atoms a)) (v.settled.atoms a (subst (λ (o : Option HeapAtom). IsSome o) (e.atoms a) i));
        mems = λ m i. (let q = e.mems m in
            subst (λ (o : Option HeapMem). (option_map (λ x. x.place) o ≡ Some top) ⊎ IsSome (option_and_then (λ x. home_by x.place) o)) (sym q.1) (placed_with q.0 (h.mems m) (v.settled.mems m (same.there m i))));
      };
      full = λ a i. subst (λ (o : Option HeapAtom). i < length (partners_of o) → IsSome (slice_index_or (partners_of o) i None)) (sym (e.atoms a)) (v.full a i);
      no_connector = λ a. subst (λ (o : Option HeapAtom). IsSome (option_and_then (λ x. home_by x.place) o) → (option_map (λ x. x.functor) o ≡ Some connector → ⊥)) (sym (e.atoms a)) (v.no_connector a);
      tree = (
        v.tree.0,
        record {
          forms = subst (λ n. Forms k v.tree.0 (n ∷ [])) (sym e.root) (forms_frame h k v.tree.0 (h.root ∷ []) (λ m p. same.inner m) v.tree.1.forms);
          once = v.tree.1.once;
          all = λ m i. v.tree.1.all m (same.there m i);
        },
      );
    }
  where
    placed_with : (n : ℕ) (o : Option HeapMem) → (option_map (λ x. x.place) o ≡ Some top) ⊎ IsSome (option_and_then (λ x. home_by x.place) o) →
        (option_map (λ x. x.place) (option_map (mem_with_mark n) o) ≡ Some top) ⊎ IsSome (option_and_then (λ x. home_by x.place) (option_map (mem_with_mark n) o))
    placed_with n None w = w
    placed_with n (Some x) w = w

-- a heap with other marks is that heap with its marks
pub is_remarked : (h k : Heap) → SameButMarks h k → k ≡ remarked (mem_mark_of k) h
is_remarked h k e = λ i. record { root = e.root i; atoms = λ a. e.atoms a i; mems = λ m. at m i; new_atoms = e.new_atoms i; new_mems = e.new_mems i }
  where
    by : (v : ℕ) (o p : Option HeapMem) → p ≡ option_map (mem_with_mark v) o → p ≡ option_map (mem_with_mark (mem_mark_by p)) o
    by v None p q = q
    by v (Some x) p q = q ∙ ap (λ n. Some (mem_with_mark n x)) (sym (ap mem_mark_by q))

    at : (m : ℕ) → k.mems m ≡ option_map (mem_with_mark (mem_mark_of k m)) (h.mems m)
    at m = let u = e.mems m in by u.0 (h.mems m) (k.mems m) u.1

pub remarked_same : (v : ℕ → ℕ) (h : Heap) → SameButMarks h (remarked v h)
remarked_same v h = record { root = refl; atoms = λ a. refl; mems = λ m. (v m, refl); new_atoms = refl; new_mems = refl }

pub marks_unmarked : (h k : Heap) → SameButMarks h k → Unmarked h → Unmarked k
marks_unmarked h k e u a i = ap (λ (o : Option HeapAtom). slice_index_or (marks_of o) i 0) (e.atoms a) ∙ u a i

mark_read : (v : ℕ) (o : Option HeapMem) → IsSome o → mem_mark_by (option_map (mem_with_mark v) o) ≡ v
mark_read v None i = absurd (cc)
mark_read v (Some x) i = refl

mark_none : (v : ℕ) (o : Option HeapMem) → v ≡ 0 → mem_mark_by (option_map (mem_with_mark v) o) ≡ 0
mark_none v None e = refl
mark_none v (Some x) e = e

-- Code wakes what it rouses: s is the prepared heap, s1 has that awake, the code leads from s to t, and z is t with the marks of s1.
pub wakes_roused : (s s1 t z : Heap) (r : Registers) (code : List Instr) → WakesAbove (IsRoused s r code) s s1 → DoesAll r code s t → z ≡ remarked (mem_mark_of s1) t → WakesRoused s r code z
wakes_roused s s1 t z r code wakes done is = record {
  stood = λ x i. (marks_stay r code s t done x (there x i)).0;
  woken = λ x y j q up. ap (λ (u : Heap). mem_mark_of u x) is ∙ mark_none (mem_mark_of s1 x) (t.mems x) (wakes.woken x y j q up);
  others = λ x i. (let e = ap (λ (u : Heap). mem_mark_of u x) is ∙ mark_read (mem_mark_of s1 x) (t.mems x) (there x i) in elim (wakes.others x) [ inl q ↦ inl (e ∙ q) | inr q ↦ inr (e ∙ q.0, q.1) ]);
}
  where
    was : (n : ℕ) (o : Option HeapMem) → IsSome (option_map (mem_with_mark n) o) → IsSome o
    was n None i = i
    was n (Some x) i = refl

    there : (x : ℕ) → IsMem z x → IsMem t x
    there x i = was (mem_mark_of s1 x) (t.mems x) (subst (λ (u : Heap). IsMem u x) is i)

-- the membrane of the rule is in a register when the code is prepared
pub own_set : {A M : Type 0} (atom : A → ℕ) (membrane : M → ℕ) (s : Heap) (k : SetRegisters A M) (code : List Instr) → IsPrepared atom membrane s k code → 0 < length k.membranes
own_set atom membrane s k code p =
    let m = get_there p.matched_by.membranes 0 p.matched.own in
    slice_get_within k.membranes 0 m.0 (p.prepared.grows.membranes 0 m.0 m.1)
