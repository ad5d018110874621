-- Membranes that are made, and wait.
use Rattle.std.proofs.Common.{ℕ, ◌≡◌, ◌≢◌, ◌⊎◌, List, [], ◌∷◌, ◌++◌, Option, Some, None, IsSome, refl, sym, ap, subst, ◌∙◌, inl, inr}
use Rattle.std.proofs.lemmas.Bool.{cases_eq}
use Rattle.std.proofs.lemmas.List.{append_assoc}
use Rattle.lmn_base.specs.declared.functor.Functor.{Functor}
use Rattle.lmn_store_heap.specs.Heap.{Heap, HeapMem, waiting, gone, new_mem, mem_with_spare, mem_place_of, atoms_in, mems_in, rules_in, atoms_by, mems_by, rules_by, IsMem, Distinct, made_atom, made_mem, reserved}
use Rattle.lmn_store_heap.proofs.ListLemmas as lists
use Rattle.lmn_store_heap.proofs.Listing.{alter_at, alter_away}
use Rattle.lmn_store_heap.proofs.Depths.{both_distinct}
use Rattle.lmn_store_heap.proofs.ListOps.{change_keeps, place_by, there_by}
use Rattle.lmn_solid_bodies.proofs.Growing.{some_there}
use Rattle.lmn_base.specs.Lists.{In}
use Rattle.lmn_base.proofs.Lists.{plus_nothing, in_either}

-- From s to t membranes nm are made, and wait.
pub record MemsMade (s t : Heap) (nm : List ℕ) : Type 0 where
  pub atoms : (x : ℕ) → atoms_in t x ≡ atoms_in s x
  pub mems : (x : ℕ) → mems_in t x ≡ mems_in s x
  pub rules : (x : ℕ) → rules_in t x ≡ rules_in s x
  pub places : (x : ℕ) → IsMem s x → mem_place_of t x ≡ mem_place_of s x
  pub gone_before : (x : ℕ) → mem_place_of t x ≡ Some gone → mem_place_of s x ≡ Some gone
  pub there : (x : ℕ) → IsMem s x → IsMem t x
  pub made : (x : ℕ) → In x nm → IsMem t x
  pub fresh : (x : ℕ) → In x nm → s.mems x ≡ None
  pub only : (x : ℕ) → IsMem t x → IsMem s x ⊎ In x nm
  pub once : Distinct nm
  pub line : t.new_mems ≡ s.new_mems ++ nm
  pub root : t.root ≡ s.root

-- a heap that stays as it is has no membrane made
pub none_made : (s : Heap) → MemsMade s s []
none_made s = record {
  atoms = λ x. refl;
  mems = λ x. refl;
  rules = λ x. refl;
  places = λ x i. refl;
  gone_before = λ x e. e;
  there = λ x i. i;
  made = λ x i. absurd i;
  fresh = λ x i. absurd i;
  only = λ x i. inl i;
  once = tt;
  line = sym (plus_nothing s.new_mems);
  root = refl;
}

some_or_none : (o : Option HeapMem) → IsSome o ⊎ (o ≡ None)
some_or_none None = inr refl
some_or_none (Some x) = inl refl

-- membranes made and then others are both made
pub mems_made_after : (s t u : Heap) (n1 n2 : List ℕ) → MemsMade s t n1 → MemsMade t u n2 → MemsMade s u (n1 ++ n2)
mems_made_after s t u n1 n2 g h = record {
  atoms = λ x. h.atoms x ∙ g.atoms x;
  mems = λ x. h.mems x ∙ g.mems x;
  rules = λ x. h.rules x ∙ g.rules x;
  places = λ x i. h.places x (g.there x i) ∙ g.places x i;
  gone_before = λ x e. g.gone_before x (h.gone_before x e);
  there = λ x i. h.there x (g.there x i);
  made = λ x i. elim (in_either x n1 n2 i) [ inl j ↦ h.there x (g.made x j) | inr j ↦ h.made x j ];
  fresh = λ x i. elim (in_either x n1 n2 i) [
    | inl j ↦ g.fresh x j
    | inr j ↦ elim (some_or_none (s.mems x)) [
      | inl k ↦ absurd (let z : IsSome {T = HeapMem} None = subst (λ (o : Option HeapMem). IsSome o) (h.fresh x j) (g.there x k) in cc)
      | inr e ↦ e
    ]
  ];
  only = λ x i. elim (h.only x i) [
    | inl j ↦ elim (g.only x j) [ inl k ↦ inl k | inr k ↦ inr (lists.in_left x n1 n2 k) ]
    | inr j ↦ inr (lists.in_right x n1 n2 j)
  ];
  once = both_distinct n1 n2 g.once h.once (λ x i j. let z : IsSome {T = HeapMem} None = subst (λ (o : Option HeapMem). IsSome o) (h.fresh x j) (g.made x i) in absurd (cc));
  line = h.line ∙ ap (λ xs. xs ++ n2) g.line ∙ append_assoc s.new_mems n1 n2;
  root = h.root ∙ g.root;
}

-- an atom that is made is no membrane
pub made_atom_mems : (s : Heap) (a : ℕ) (f : Functor) → MemsMade s (made_atom s a f) []
made_atom_mems s a f = record {
  atoms = λ x. refl;
  mems = λ x. refl;
  rules = λ x. refl;
  places = λ x i. refl;
  gone_before = λ x e. e;
  there = λ x i. i;
  made = λ x i. absurd i;
  fresh = λ x i. absurd i;
  only = λ x i. inl i;
  once = tt;
  line = sym (plus_nothing s.new_mems);
  root = refl;
}

-- one that is made is made
pub made_one_mem : (s : Heap) (m : ℕ) → s.mems m ≡ None → MemsMade s (made_mem s m) (m ∷ [])
made_one_mem s m free =
    let at : (made_mem s m).mems m ≡ Some new_mem = alter_at s.mems m (λ _. Some new_mem) in
    let away : (x : ℕ) → x ≢ m → (made_mem s m).mems x ≡ s.mems x = alter_away s.mems m (λ _. Some new_mem) in
    let other : (x : ℕ) → IsMem s x → x ≢ m = λ x i e. let z : IsSome {T = HeapMem} None = subst (λ (o : Option HeapMem). IsSome o) (ap s.mems e ∙ free) i in absurd (cc) in
    record {
      atoms = λ x. elim (cases_eq x m) [ inl e ↦ ap atoms_by (ap (made_mem s m).mems e ∙ at) ∙ sym (ap atoms_by (ap s.mems e ∙ free)) | inr d ↦ ap atoms_by (away x d) ];
      mems = λ x. elim (cases_eq x m) [ inl e ↦ ap mems_by (ap (made_mem s m).mems e ∙ at) ∙ sym (ap mems_by (ap s.mems e ∙ free)) | inr d ↦ ap mems_by (away x d) ];
      rules = λ x. elim (cases_eq x m) [ inl e ↦ ap rules_by (ap (made_mem s m).mems e ∙ at) ∙ sym (ap rules_by (ap s.mems e ∙ free)) | inr d ↦ ap rules_by (away x d) ];
      places = λ x i. ap place_by (away x (other x i));
      gone_before = λ x e. elim (cases_eq x m) [
        | inl q ↦ absurd (let z : Some waiting ≡ Some gone = sym (ap place_by (ap (made_mem s m).mems q ∙ at)) ∙ e in cc)
        | inr d ↦ sym (ap place_by (away x d)) ∙ e
      ];
      there = λ x i. subst (λ (o : Option HeapMem). IsSome o) (sym (away x (other x i))) i;
      made = λ x i. elim i [ inl e ↦ subst (λ (o : Option HeapMem). IsSome o) (sym (ap (made_mem s m).mems (sym e) ∙ at)) refl | inr j ↦ absurd j ];
      fresh = λ x i. elim i [ inl e ↦ ap s.mems (sym e) ∙ free | inr j ↦ absurd j ];
      only = λ x i. elim (cases_eq x m) [ inl e ↦ inr (inl (sym e)) | inr d ↦ inl (subst (λ (o : Option HeapMem). IsSome o) (away x d) i) ];
      once = (tt, tt);
      line = refl;
      root = refl;
    }

-- room is no membrane
pub reserved_mems : (s : Heap) (m n : ℕ) → MemsMade s (reserved s m n) []
reserved_mems s m n = record {
  atoms = change_keeps atoms_by s.mems m (mem_with_spare n) (λ x. refl);
  mems = change_keeps mems_by s.mems m (mem_with_spare n) (λ x. refl);
  rules = change_keeps rules_by s.mems m (mem_with_spare n) (λ x. refl);
  places = λ x i. change_keeps place_by s.mems m (mem_with_spare n) (λ y. refl) x;
  gone_before = λ x e. sym (change_keeps place_by s.mems m (mem_with_spare n) (λ y. refl) x) ∙ e;
  there = λ x i. some_there (s.mems x) ((reserved s m n).mems x) (change_keeps there_by s.mems m (mem_with_spare n) (λ y. refl) x) i;
  made = λ x i. absurd i;
  fresh = λ x i. absurd i;
  once = tt;
  only = λ x i. inl (some_there ((reserved s m n).mems x) (s.mems x) (sym (change_keeps there_by s.mems m (mem_with_spare n) (λ y. refl) x)) i);
  line = sym (plus_nothing s.new_mems);
  root = refl;
}

-- the membranes stay
pub mems_same : (s t : Heap) → t.mems ≡ s.mems → t.new_mems ≡ s.new_mems → t.root ≡ s.root → MemsMade s t []
mems_same s t e n q = record {
  atoms = λ x. ap (λ (f : ℕ → Option HeapMem). atoms_by (f x)) e;
  mems = λ x. ap (λ (f : ℕ → Option HeapMem). mems_by (f x)) e;
  rules = λ x. ap (λ (f : ℕ → Option HeapMem). rules_by (f x)) e;
  places = λ x i. ap (λ (f : ℕ → Option HeapMem). place_by (f x)) e;
  gone_before = λ x g. sym (ap (λ (f : ℕ → Option HeapMem). place_by (f x)) e) ∙ g;
  there = λ x i. subst (λ (f : ℕ → Option HeapMem). IsSome (f x)) (sym e) i;
  made = λ x i. absurd i;
  fresh = λ x i. absurd i;
  only = λ x i. inl (subst (λ (f : ℕ → Option HeapMem). IsSome (f x)) e i);
  once = tt;
  line = n ∙ sym (plus_nothing s.new_mems);
  root = q;
}
