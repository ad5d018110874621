-- What is made as the copy of a rest waits, and can be given up.
use Rattle.std.proofs.Common.{◌≡◌, ◌≤◌, ℕ, zero, suc, List, [], ◌∷◌, ◌++◌, map, Option, Some, None, IsSome, refl, sym, ap, subst, ◌∙◌, inl, inr, arith}
use Rattle.std.proofs.lemmas.Bool.{cases_eq}
use Rattle.std.specs.Option.{option_map}
use Rattle.std.specs.Prelude.{slice_index_or}
use Rattle.lmn_base.specs.declared.functor.Functor.{Functor}
use Rattle.lmn_store_heap.specs.Heap.{Heap, HeapAtom, HeapMem, IsMem, Distinct, new_mem, mem_with_spare, partners_of, marks_of, mark_of, link_of, functor_of, rules_in, spare_of, spare_by, made_atom, made_mem, reserved}
use Rattle.lmn_store_heap.specs.Sound.{Paired, Shaped}
use Rattle.lmn_store_heap.proofs.Listing.{alter_away}
use Rattle.lmn_store_heap.proofs.Common.{decide_in}
use Rattle.lmn_ground_parts.specs.Copies.{AllAtoms, AreNew, Beside, answer, made_as, made_like, ports_of}
use Rattle.lmn_ground_parts.specs.Rests.{AreNewMembranes, NoneLeaves, RestCopied, RestRemains, made_roomy}
use Rattle.lmn_ground.proofs.CopiedLaws.{made_beside}
use Rattle.lmn_solid_bodies.proofs.RestJoins.{all_view}
use Rattle.lmn_solid_bodies.proofs.RestsMade.{brings_rest, joined_lines, roomy_atoms}
use Rattle.lmn_solid_bodies.proofs.RestMems.{like_mems, new_on, rest_mems, rest_same_mems, roomy_mems}
use Rattle.lmn_machine_commit.specs.Preparing.{OnlyMakes}
use Rattle.lmn_machine_commit.proofs.Waiting.{beside_makes, makes_atom, makes_mem, makes_nothing, makes_on, makes_room}
use Rattle.lmn_ground.proofs.JoinLaws.{marks_linked}
use Rattle.lmn_ground_parts.proofs.Common.{one_new as as_new}

-- membranes that are made, each with room
makes_roomy : (rooms : List (ℕ × ℕ)) (s : Heap) → AreNewMembranes s (map (λ e. e.0) rooms) → OnlyMakes s (made_roomy s rooms)
makes_roomy [] s w = makes_nothing s
makes_roomy (e ∷ es) s w =
    let s1 = made_mem s e.0 in
    let t = reserved s1 e.0 e.1 in
    makes_on s t (made_roomy t es) (makes_on s s1 t (makes_mem s s1 e.0 (w.1 e.0 (inl refl)) refl) (makes_room s1 t e.0 e.1 refl)) (makes_roomy es t (new_on s e (map (λ (q : ℕ × ℕ). q.0) es) w))

-- membranes have as much room as they had
roomy_spare : (rooms : List (ℕ × ℕ)) (s : Heap) → AreNewMembranes s (map (λ e. e.0) rooms) → (x n : ℕ) → n ≤ spare_of s x → n ≤ spare_of (made_roomy s rooms) x
roomy_spare [] s w x n l = l
roomy_spare (e ∷ es) s w x n l = roomy_spare es (reserved (made_mem s e.0) e.0 e.1) (new_on s e (map (λ (q : ℕ × ℕ). q.0) es) w) x n (elim (cases_eq x e.0) [
  | inl q ↦ (let z : spare_of s x ≡ 0 = ap spare_by (ap s.mems q ∙ w.1 e.0 (inl refl)) in omega (arith, z, l))
  | inr d ↦ (
      let away : spare_of (reserved (made_mem s e.0) e.0 e.1) x ≡ spare_of s x =
      ap spare_by (alter_away (made_mem s e.0).mems e.0 (option_map (mem_with_spare e.1)) x d ∙ alter_away s.mems e.0 (λ _. Some new_mem) x d) in
      omega (arith, away, l))
])

-- atoms that are made and not joined
one_like : (s : Heap) (y : ℕ) (o : Option Functor) → s.atoms y ≡ None → OnlyMakes s (made_as s y o)
one_like s y None e = makes_nothing s
one_like s y (Some f) e = makes_atom s (made_atom s y f) y f e refl

makes_like : (xs ys : List ℕ) (s : Heap) → AreNew s ys → OnlyMakes s (made_like s xs ys)
makes_like [] ys s w = makes_nothing s
makes_like (x ∷ xs) [] s w = makes_nothing s
makes_like (x ∷ xs) (y ∷ ys) s w =
    let t = made_as s y (functor_of s x) in
    makes_on s t (made_like t xs ys) (one_like s y (functor_of s x) (w.1 y (inl refl))) (makes_like xs ys t (as_new s y (functor_of s x) ys w))

none_linked : (k : ℕ) (q : ℕ × ℕ) → slice_index_or (partners_of None) k None ≡ Some q → ⊥
none_linked zero q e = cc
none_linked (suc k) q e = cc

-- A rest is copied.
module _ (s t : Heap) (xs ms ys : List ℕ) (rooms : List (ℕ × ℕ)) (c : RestCopied s t xs ms ys rooms) (paired : Paired s) (shaped : Shaped s) (there : AllAtoms s xs) (once : Distinct xs) (stays : NoneLeaves s xs) where
  abbrev s1 : Heap
  s1 = made_roomy s rooms

  abbrev u : Heap
  u = made_like s1 xs ys

  same1 : (a : ℕ) → s1.atoms a ≡ s.atoms a
  same1 a = ap (λ (g : ℕ → Option HeapAtom). g a) (roomy_atoms s rooms).0

  there1 : AllAtoms s1 xs
  there1 x i = subst (λ (o : Option HeapAtom). IsSome o) (sym (same1 x)) (there x i)

  new1 : AreNew s1 ys
  new1 = (c.new_atoms.0, λ y i. same1 y ∙ c.new_atoms.1 y i)

  beside : Beside s1 t ys
  beside =
      let brings = brings_rest s t xs ms ys rooms c paired shaped there once stays in
      let long = c.long in
      record {
        fresh = new1;
        line = brings.line ∙ ap (λ zs. zs ++ ys) (sym (roomy_atoms s rooms).1);
        places = brings.waits;
        marks = λ y i k. ap (λ (z : Heap). mark_of z y i) c.is ∙ ap (λ (zs : List ℕ). slice_index_or zs i 0) (all_view marks_of marks_linked (answer xs ys) u (ports_of u xs) y) ∙ (made_beside s1 xs ys there1 new1 (omega (arith, long))).marks y i k;
        alone = λ y i b j k e. elim (decide_in b ys) [
          | inl m ↦ m
          | inr n ↦ absurd (
              let back : link_of s b j ≡ Some (y, i) = sym (ap (λ (o : Option HeapAtom). slice_index_or (partners_of o) j None) (brings.others b n)) ∙ (brings.paired paired).back y i b j e in
              none_linked i (b, j) (sym (ap (λ (o : Option HeapAtom). slice_index_or (partners_of o) i None) (c.new_atoms.1 y k)) ∙ paired.back b j y i back))
        ];
        kept = λ a n. brings.others a n ∙ sym (same1 a);
        root = ap (λ (z : Heap). z.root) c.is ∙ (joined_lines (answer xs ys) u (ports_of u xs)).3 ∙ (like_mems xs ys s1).2;
        mems = rest_same_mems s t xs ms ys rooms c;
        new_mems = ap (λ (z : Heap). z.new_mems) c.is ∙ (joined_lines (answer xs ys) u (ports_of u xs)).2 ∙ (like_mems xs ys s1).1;
      }

  -- It only makes,
  pub makes_rest : OnlyMakes s t
  makes_rest = makes_on s s1 t (makes_roomy rooms s c.new_membranes) (beside_makes s1 t ys beside)

  -- each membrane is there,
  pub rest_keeps_mem : (m : ℕ) → IsMem s m → IsMem t m
  rest_keeps_mem m i = (rest_mems s t xs ms ys rooms c).there m i

  -- with its rules,
  pub rest_keeps_rules : (m : ℕ) → rules_in t m ≡ rules_in s m
  rest_keeps_rules m = (rest_mems s t xs ms ys rooms c).rules m

  -- and has as much room as it had.
  pub rest_keeps_room : (m n : ℕ) → n ≤ spare_of s m → n ≤ spare_of t m
  rest_keeps_room m n l =
      let e : spare_of t m ≡ spare_of s1 m = ap (λ (g : ℕ → Option HeapMem). spare_by (g m)) (rest_same_mems s t xs ms ys rooms c) in
      let k = roomy_spare rooms s c.new_membranes m n l in
      omega (arith, e, k)

-- A copy of a rest is given up.
module _ (s t : Heap) (xs : List ℕ) (w : RestRemains s t xs) where
  -- It only makes,
  pub makes_remains : OnlyMakes s t
  makes_remains = subst (OnlyMakes s) (sym w.is) (makes_on s (made_roomy s w.rooms) (made_like (made_roomy s w.rooms) xs w.copies) (makes_roomy w.rooms s w.new_membranes)
      (makes_like xs w.copies (made_roomy s w.rooms) (w.new_atoms.0, λ y i. ap (λ (g : ℕ → Option HeapAtom). g y) (roomy_atoms s w.rooms).0 ∙ w.new_atoms.1 y i)))

  -- and each membrane is there.
  pub remains_keeps_mem : (m : ℕ) → IsMem s m → IsMem t m
  remains_keeps_mem m i = subst (λ (o : Option HeapMem). IsSome o) (sym (ap (λ (z : Heap). z.mems m) w.is ∙ ap (λ (g : ℕ → Option HeapMem). g m) (like_mems xs w.copies (made_roomy s w.rooms)).0))
      ((roomy_mems w.rooms s w.new_membranes).there m i)
