-- What is made waits, and can be given up.
use Rattle.std.proofs.Common.{ℕ, zero, suc, ◌≡◌, ◌+◌, ◌<◌, ◌≢◌, inl, inr, List, Option, Some, None, IsSome, Result, Ok, Err, refl, ap, sym, subst, length, ◌∙◌}
use Rattle.std.proofs.lemmas.Bool.{cases_eq}
use Rattle.std.specs.Option.{option_map, option_and_then}
use Rattle.std.specs.Prelude.{slice_index_or, OnOk, OnErr}
use Rattle.lmn_base.specs.declared.functor.Functor.{Functor}
use Rattle.lmn_base.specs.Graphs.{Reached, at_root, across}
use Rattle.lmn_store_heap.specs.Heap.{Heap, HeapAtom, HeapMem, Place, top, within, waiting, gone, IsAtom, new_atom, new_mem, mem_with_spare, unless_waiting, mem_unless_waiting, partners_of, marks_of, arity_of, link_of, place_of, made_atom, made_mem, reserved}
use Rattle.lmn_store_heap.specs.Sound.{Paired}
use Rattle.lmn_store_heap.specs.Graphs.{atom_map}
use Rattle.lmn_store_heap.proofs.Listing.{alter_at, alter_away}
use Rattle.lmn_ground.specs.Copies.{Remains}
use Rattle.lmn_ground_parts.specs.Copies.{Beside, Copied}
use Rattle.lmn_machine_commit.specs.Preparing.{CanBeCopied, OnlyMakes}
use Rattle.lmn_base.proofs.Numbers.{zeros_at as no_marks}
use Rattle.lmn_store_heap.proofs.Common.{decide_in as in_or_not, no_links}

-- what is none is not there
pub none_there : (o : Option HeapAtom) → IsSome o → o ≡ None → ⊥
none_there o i e = let z : IsSome {T = HeapAtom} None = subst (λ (p : Option HeapAtom). IsSome p) e i in cc

-- a heap that stays as it is only makes, and makes nothing
pub makes_nothing : (s : Heap) → OnlyMakes s s
makes_nothing s = record { kept = λ a i. refl; alone = λ l. l; rest = λ h r. r; unmarked = λ u. u }

-- a heap that is the same only makes
pub makes_same : (s t : Heap) → t ≡ s → OnlyMakes s t
makes_same s t e = subst (OnlyMakes s) (sym e) (makes_nothing s)

-- what only makes, and then only makes, only makes
pub makes_on : (h s t : Heap) → OnlyMakes h s → OnlyMakes s t → OnlyMakes h t
makes_on h s t u v = record {
  kept = λ a i. v.kept a (subst (λ (o : Option HeapAtom). IsSome o) (sym (u.kept a i)) i) ∙ u.kept a i;
  alone = λ l. v.alone (u.alone l);
  rest = λ k r. v.rest k (u.rest k r);
  unmarked = λ w. v.unmarked (u.unmarked w);
}

-- An atom

-- a new atom is only made
pub makes_atom : (s t : Heap) (a : ℕ) (f : Functor) → s.atoms a ≡ None → t ≡ made_atom s a f → OnlyMakes s t
makes_atom s t a f free e = subst (OnlyMakes s) (sym e) (record {
  kept = λ b i. away b (λ d. none_there (s.atoms b) i (ap s.atoms d ∙ free));
  alone = λ l b i c j w q. elim (cases_eq b a) [
    | inl d ↦ absurd (let z : ◌≡◌ {A = Option (ℕ × ℕ)} None (Some (c, j)) = sym (ap (λ (o : Option HeapAtom). slice_index_or (partners_of o) i None) (at b d) ∙ no_links f.arity i) ∙ q in cc)
    | inr d ↦ waits c (l b i c j (sym (ap (λ (o : Option HeapAtom). option_map (λ x. x.place) o) (away b d)) ∙ w) (sym (ap (λ (o : Option HeapAtom). slice_index_or (partners_of o) i None) (away b d)) ∙ q))
  ];
  rest = λ h r. record {
    root = r.root;
    atoms = λ b. elim (cases_eq b a) [
      | inl d ↦ ap (option_and_then unless_waiting) (at b d) ∙ (sym (ap (option_and_then unless_waiting) (ap s.atoms d ∙ free)) ∙ r.atoms b)
      | inr d ↦ ap (option_and_then unless_waiting) (away b d) ∙ r.atoms b
    ];
    mems = r.mems;
    new_atoms = refl;
    new_mems = refl;
  };
  unmarked = λ u b i. elim (cases_eq b a) [
    | inl d ↦ ap (λ (o : Option HeapAtom). slice_index_or (marks_of o) i 0) (at b d) ∙ no_marks (f.arity + 1) i
    | inr d ↦ ap (λ (o : Option HeapAtom). slice_index_or (marks_of o) i 0) (away b d) ∙ u b i
  ];
})
  where
    at : (b : ℕ) → b ≡ a → (made_atom s a f).atoms b ≡ Some (new_atom f)
    at b d = ap (made_atom s a f).atoms d ∙ alter_at s.atoms a (λ _. Some (new_atom f))

    away : (b : ℕ) → b ≢ a → (made_atom s a f).atoms b ≡ s.atoms b
    away b d = alter_away s.atoms a (λ _. Some (new_atom f)) b d

    waits : (c : ℕ) → place_of s c ≡ Some waiting → place_of (made_atom s a f) c ≡ Some waiting
    waits c w = elim (cases_eq c a) [
      | inl d ↦ ap (λ (o : Option HeapAtom). option_map (λ x. x.place) o) (at c d)
      | inr d ↦ ap (λ (o : Option HeapAtom). option_map (λ x. x.place) o) (away c d) ∙ w
    ]

-- A membrane

-- a new membrane is only made
pub makes_mem : (s t : Heap) (m : ℕ) → s.mems m ≡ None → t ≡ made_mem s m → OnlyMakes s t
makes_mem s t m free e = subst (OnlyMakes s) (sym e) (record {
  kept = λ b i. refl;
  alone = λ l. l;
  rest = λ h r. record {
    root = r.root;
    atoms = r.atoms;
    mems = λ n. elim (cases_eq n m) [
      | inl d ↦ ((r.mems n).0, ap (option_and_then mem_unless_waiting) (ap (made_mem s m).mems d ∙ alter_at s.mems m (λ _. Some new_mem)) ∙ (sym (ap (option_and_then mem_unless_waiting) (ap s.mems d ∙ free)) ∙ (r.mems n).1))
      | inr d ↦ ((r.mems n).0, ap (option_and_then mem_unless_waiting) (alter_away s.mems m (λ _. Some new_mem) n d) ∙ (r.mems n).1)
    ];
    new_atoms = refl;
    new_mems = refl;
  };
  unmarked = λ u. u;
})

-- Room for rules

other_spare : (n k : ℕ) (o p : Option HeapMem) → option_and_then mem_unless_waiting o ≡ option_map (mem_with_spare k) p →
    (j : ℕ) × (option_and_then mem_unless_waiting (option_map (mem_with_spare n) o) ≡ option_map (mem_with_spare j) p)
other_spare n k None None e = (k, refl)
other_spare n k None (Some y) e = absurd (cc)
other_spare n k (Some x) p e = by x.place refl e
  where
    stays : (p : Option HeapMem) → Some x ≡ option_map (mem_with_spare k) p → Some (mem_with_spare n x) ≡ option_map (mem_with_spare n) p
    stays None f = absurd (cc)
    stays (Some y) f = let q : x ≡ mem_with_spare k y = cc in ap (λ z. Some (mem_with_spare n z)) q

    goes : (p : Option HeapMem) → None ≡ option_map (mem_with_spare k) p → None ≡ option_map (mem_with_spare n) p
    goes None f = refl
    goes (Some y) f = absurd (cc)

    by : (q : Place) → x.place ≡ q → mem_unless_waiting x ≡ option_map (mem_with_spare k) p → (j : ℕ) × (mem_unless_waiting (mem_with_spare n x) ≡ option_map (mem_with_spare j) p)
    by top d f = (n, (let z : mem_unless_waiting x ≡ Some x = rw d refl in let y : mem_unless_waiting (mem_with_spare n x) ≡ Some (mem_with_spare n x) = rw d refl in y ∙ stays p (sym z ∙ f)))
    by (within m) d f = (n, (let z : mem_unless_waiting x ≡ Some x = rw d refl in let y : mem_unless_waiting (mem_with_spare n x) ≡ Some (mem_with_spare n x) = rw d refl in y ∙ stays p (sym z ∙ f)))
    by waiting d f = (n, (let z : mem_unless_waiting x ≡ None = rw d refl in let y : mem_unless_waiting (mem_with_spare n x) ≡ None = rw d refl in y ∙ goes p (sym z ∙ f)))
    by gone d f = (n, (let z : mem_unless_waiting x ≡ Some x = rw d refl in let y : mem_unless_waiting (mem_with_spare n x) ≡ Some (mem_with_spare n x) = rw d refl in y ∙ stays p (sym z ∙ f)))

-- room in a list is only made
pub makes_room : (s t : Heap) (m n : ℕ) → t ≡ reserved s m n → OnlyMakes s t
makes_room s t m n e = subst (OnlyMakes s) (sym e) (record {
  kept = λ b i. refl;
  alone = λ l. l;
  rest = λ h r. record {
    root = r.root;
    atoms = r.atoms;
    mems = λ x. elim (cases_eq x m) [
      | inl d ↦ (let at : (reserved s m n).mems x ≡ option_map (mem_with_spare n) (s.mems x) =
          subst (λ z. (reserved s m n).mems z ≡ option_map (mem_with_spare n) (s.mems z)) (sym d) (alter_at s.mems m (option_map (mem_with_spare n))) in
          let w = other_spare n (r.mems x).0 (s.mems x) (h.mems x) (r.mems x).1 in
          (w.0, ap (option_and_then mem_unless_waiting) at ∙ w.1))
      | inr d ↦ ((r.mems x).0, ap (option_and_then mem_unless_waiting) (alter_away s.mems m (option_map (mem_with_spare n)) x d) ∙ (r.mems x).1)
    ];
    new_atoms = refl;
    new_mems = refl;
  };
  unmarked = λ u. u;
})

-- what a call leaves that makes room
pub makes_room_or_not : {T E : Type 0} (r : Result T E) (s t : Heap) (m n : ℕ) → OnOk r (t ≡ reserved s m n) → OnErr r (t ≡ s) → OnlyMakes s t
makes_room_or_not (Ok x) s t m n p q = makes_room s t m n p
makes_room_or_not (Err e) s t m n p q = makes_same s t q

-- Atoms beside what was there

-- what stands beside all that was there is only made
pub beside_makes : (s t : Heap) (ys : List ℕ) → Beside s t ys → OnlyMakes s t
beside_makes s t ys b = record {
  kept = λ a i. b.kept a (λ n. none_there (s.atoms a) i (b.fresh.1 a n));
  alone = λ l a i c j w q. elim (in_or_not a ys) [
    | inl n ↦ b.places c (b.alone a i c j n q)
    | inr n ↦ (let z : place_of s c ≡ Some waiting = l a i c j (sym (ap (λ (o : Option HeapAtom). option_map (λ x. x.place) o) (b.kept a n)) ∙ w) (sym (ap (λ (o : Option HeapAtom). slice_index_or (partners_of o) i None) (b.kept a n)) ∙ q) in
        elim (in_or_not c ys) [
          | inl k ↦ b.places c k
          | inr k ↦ ap (λ (o : Option HeapAtom). option_map (λ x. x.place) o) (b.kept c k) ∙ z
        ])
  ];
  rest = λ h r. record {
    root = b.root ∙ r.root;
    atoms = λ a. elim (in_or_not a ys) [
      | inl n ↦ left (t.atoms a) (b.places a n) ∙ (sym (ap (option_and_then unless_waiting) (b.fresh.1 a n)) ∙ r.atoms a)
      | inr n ↦ ap (option_and_then unless_waiting) (b.kept a n) ∙ r.atoms a
    ];
    mems = λ m. ((r.mems m).0, ap (λ (f : ℕ → Option HeapMem). option_and_then mem_unless_waiting (f m)) b.mems ∙ (r.mems m).1);
    new_atoms = refl;
    new_mems = refl;
  };
  unmarked = λ u a i. elim (in_or_not a ys) [
    | inl n ↦ b.marks a i n
    | inr n ↦ ap (λ (o : Option HeapAtom). slice_index_or (marks_of o) i 0) (b.kept a n) ∙ u a i
  ];
}
  where
    left : (o : Option HeapAtom) → option_map (λ x. x.place) o ≡ Some waiting → option_and_then unless_waiting o ≡ None
    left None e = refl
    left (Some x) e = let q : x.place ≡ waiting = cc in rw q refl

-- a copy of a part is only made
pub makes_copy : (s t : Heap) (root copy : ℕ × ℕ) → Copied s t root copy → OnlyMakes s t
makes_copy s t root copy w = beside_makes s t w.copies w.beside

-- a copy that was given up
pub makes_part_of_copy : (s t : Heap) → Remains s t → OnlyMakes s t
makes_part_of_copy s t w = beside_makes s t w.copies w.beside

-- A part that can be copied can be copied when more is made.

module _ (s t : Heap) (paired : Paired s) (m : OnlyMakes s t) (root : ℕ × ℕ) (can : CanBeCopied s root) where
  atom_of_link : (a i : ℕ) → IsSome (link_of s a i) → IsAtom s a
  atom_of_link a i e = by (s.atoms a) e
    where
      none : (k : ℕ) → IsSome (slice_index_or (partners_of None) k None) → ⊥
      none zero q = cc
      none (suc k) q = cc

      by : (o : Option HeapAtom) → IsSome (slice_index_or (partners_of o) i None) → IsSome o
      by None q = absurd (none i q)
      by (Some x) q = refl

  same_link : (a i : ℕ) → IsAtom s a → link_of t a i ≡ link_of s a i
  same_link a i w = ap (λ (o : Option HeapAtom). slice_index_or (partners_of o) i None) (m.kept a w)

  same_arity : (a : ℕ) → IsAtom s a → arity_of t a ≡ arity_of s a
  same_arity a w = ap (λ (o : Option HeapAtom). length (partners_of o)) (m.kept a w)

  -- what is reached later was reached before
  pub reached : (a : ℕ) → Reached (atom_map t) root a → Reached (atom_map s) root a × IsAtom s a
  reached a at_root = (at_root, can.atom)
  reached x (across {a = a} {i = i} {j = j} w d e) =
      let before = reached a w in
      let link : link_of s a i ≡ Some (x, j) = sym (same_link a i before.1) ∙ e in
      (across before.0 d link, atom_of_link x j (subst (λ (o : Option (ℕ × ℕ)). IsSome o) (sym (paired.back a i x j link)) refl))

  -- and what was reached is reached
  pub reached_later : (a : ℕ) → Reached (atom_map s) root a → Reached (atom_map t) root a × IsAtom s a
  reached_later a at_root = (at_root, can.atom)
  reached_later x (across {a = a} {i = i} {j = j} w d e) =
      let before = reached_later a w in
      (across before.0 d (same_link a i before.1 ∙ e), atom_of_link x j (subst (λ (o : Option (ℕ × ℕ)). IsSome o) (sym (paired.back a i x j e)) refl))

  pub still_copied : CanBeCopied t root
  still_copied = record {
    atom = subst (λ (o : Option HeapAtom). IsSome o) (sym (m.kept root.0 can.atom)) can.atom;
    port = subst (λ n. root.1 < n) (sym (same_arity root.0 can.atom)) can.port;
    whole = record {
      atoms = λ a w. tt;
      ends = λ a i w l d. (let before = reached a w in
          subst (λ (o : Option (ℕ × ℕ)). IsSome o) (sym (same_link a i before.1)) (can.whole.ends a i before.0 (subst (λ n. i < n) (same_arity a before.1) l) d));
    };
    outside = λ b j w e. can.outside b j (reached b w).0 (sym (same_link root.0 root.1 can.atom) ∙ e);
  }
