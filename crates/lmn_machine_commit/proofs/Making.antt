-- What an instruction makes, and code that is prepared by it.
use Rattle.std.proofs.Common.{ℕ, zero, suc, ℤ, ◌≡◌, ◌≢◌, ◌==◌, ◌≤◌, ◌+◌, inl, inr, Bool, true, false, cond, List, [], ◌∷◌, ◌++◌, Option, Some, None, IsSome, refl, arith, ap, sym, subst, length, map, replicate, ◌∙◌}
use Rattle.std.proofs.lemmas.Bool.{cases_eq, eqb-true}
use Rattle.std.specs.Option.{option_map}
use Rattle.std.specs.Prelude.{slice_get, pos}
use Rattle.lmn_base.specs.declared.functor.Functor.{Functor}
use Rattle.lmn_store_heap.specs.Heap.{Heap, HeapAtom, HeapMem, IsAtom, IsMem, alter, new_atom, new_mem, mem_with_spare, made_atom, made_mem, reserved, rules_in, rules_by, spare_of, spare_by, port_id}
use Rattle.lmn_store_heap.specs.Sound.{Paired, Valid}
use Rattle.lmn_store_heap.proofs.Listing.{alter_at, alter_away, alter_keeps}
use Rattle.lmn_instr_code.specs.declared.instr.Instr.{Instr}
use Rattle.lmn_instr_code.specs.declared.instr.Instr.TheVariants.{RemoveAtom, RemovePart, RemoveMem, NewAtom, NewInt, NewMem, MoveCells, CopyGround, CopyCells, DropCells, LoadRule, CopyRules, NewLink, Relink, Unify, Proceed}
use Rattle.lmn_solid_bodies.specs.Running.{Registers, IsCopied, Makes, Prepares, integer_functor}
use Rattle.lmn_machine_registers.specs.declared.registers.PartCopy.{PartCopy}
use Rattle.lmn_machine_registers.specs.declared.registers.SetRegisters.{SetRegisters}
use Rattle.lmn_machine_commit.specs.Registers.{AgreesWithCopies, AreHeld, AreSized, Grows, HasCopies, HasRests, IsRestBeside}
use Rattle.lmn_machine_commit.specs.Preparing.{Uses, AllUse, UsesInOrder, BodyInOrder, needed, needed_by, atoms_made, membranes_made, copies_made, CopyIsMade, OnlyMakes, RestIsMade, RoomIsMade, IsMade, Prepared, CanCopy, HoldsCopied, AtomIsMade, MembraneIsMade}
use Rattle.lmn_machine_commit.proofs.RestOf.{rest_beside}
use Rattle.lmn_machine_commit.proofs.Codes.{get_either, all_use_more, use_one_more, reads_uses, needed_more}
use Rattle.lmn_ground.specs.Listed.{IsListed}
use Rattle.lmn_ground.proofs.ListedLaws.{listed_kept}
use Rattle.lmn_machine_commit.proofs.Listing.{listed_made}
use Rattle.lmn_machine_commit.proofs.Waiting.{makes_atom, makes_nothing, makes_on, still_copied, none_there}
use Rattle.lmn_base.proofs.Lists.{get_front, get_last, plus_nothing as nothing_more}
use Rattle.std.proofs.lemmas.List.{length_push, length-map, length-replicate}
use Rattle.std.proofs.lemmas.Option.{same_Some}

some_altered : {X : Type 0} (f : ℕ → Option X) (n m : ℕ) (v : X) → IsSome (f m) → IsSome (alter f n (λ _. Some v) m)
some_altered {X} f n m v e = by (m == n)
  where
    by : (t : Bool) → IsSome (cond t (Some v) (f m))
    by true = refl
    by false = e

some_changed : {X : Type 0} (f : ℕ → Option X) (n m : ℕ) (g : X → X) → IsSome (f m) → IsSome (alter f n (option_map g) m)
some_changed {X} f n m g e = by (m == n)
  where
    on : (o : Option X) → IsSome o → IsSome (option_map g o)
    on None h = h
    on (Some x) h = refl

    by : (t : Bool) → IsSome (cond t (option_map g (f m)) (f m))
    by true = on (f m) e
    by false = e

-- what has an index in one list has it in another one of the same length
get_too : {X Y : Type 0} (xs : List X) (ys : List Y) → length xs ≡ length ys → (k : ℕ) (x : X) → slice_get xs k ≡ Some x → (y : Y) × (slice_get ys k ≡ Some y)
get_too [] ys l k x e = absurd (cc)
get_too (z ∷ xs) [] l k x e = absurd (omega (arith, l))
get_too (z ∷ xs) (y ∷ ys) l zero x e = (y, refl)
get_too (z ∷ xs) (y ∷ ys) l (suc k) x e = get_too xs ys (omega (arith, l)) k x e

none_sized : {A : Type 0} (ps qs : List (PartCopy A)) → qs ≡ ps → (earlier : List (List ℕ)) → AreSized ps earlier → AreSized qs (earlier ++ [])
none_sized ps qs e es w = subst (λ xss. AreSized qs xss) (sym (nothing_more es)) (subst (λ rs. AreSized rs es) (sym e) w)

one_sized : {A : Type 0} (ps : List (PartCopy A)) (es : List (List ℕ)) (p : PartCopy A) (xs : List ℕ) → length xs ≡ p.atoms → AreSized ps es → AreSized (ps ++ p ∷ []) (es ++ xs ∷ [])
one_sized {A} ps es p xs l w = record {
  count = (let a = length_push ps p in let b = length_push es xs in let c = w.count in omega (arith, a, b, c));
  sizes = λ k q ys a b. both ps es w.count w.sizes k q ys a b;
}
  where
    both : (qs : List (PartCopy A)) (fs : List (List ℕ)) → length fs ≡ length qs → ((k : ℕ) (q : PartCopy A) (ys : List ℕ) → slice_get qs k ≡ Some q → slice_get fs k ≡ Some ys → length ys ≡ q.atoms) →
        (k : ℕ) (q : PartCopy A) (ys : List ℕ) → slice_get (qs ++ p ∷ []) k ≡ Some q → slice_get (fs ++ xs ∷ []) k ≡ Some ys → length ys ≡ q.atoms
    both [] [] c h zero q ys a b = let e : p ≡ q = cc in let f : xs ≡ ys = cc in ap length (sym f) ∙ (l ∙ ap (λ z. z.atoms) e)
    both [] [] c h (suc k) q ys a b = absurd (cc)
    both [] (f ∷ fs) c h k q ys a b = absurd (omega (arith, c))
    both (z ∷ qs) [] c h k q ys a b = absurd (omega (arith, c))
    both (z ∷ qs) (f ∷ fs) c h zero q ys a b = h zero q ys a b
    both (z ∷ qs) (f ∷ fs) c h (suc k) q ys a b = both qs fs (omega (arith, c)) (λ j. h (suc j)) k q ys a b

abbrev number_or : {X : Type 0} → (X → ℕ) → Option X → ℕ
number_or f None = 0
number_or f (Some x) = f x

abbrev port_or : {A : Type 0} → (A → ℕ) → Option (A × ℕ) → ℕ × ℕ
port_or atom None = (0, 0)
port_or atom (Some p) = port_id atom p

abbrev root_or : {A : Type 0} → (A → ℕ) → Option (PartCopy A) → ℕ × ℕ
root_or atom None = (0, 0)
root_or atom (Some p) = port_id atom p.root

abbrev list_or : Option (List ℕ) → List ℕ
list_or None = []
list_or (Some xs) = xs

abbrev integer_or : Option ℤ → ℤ
integer_or None = pos 0
integer_or (Some z) = z

module _ {A M : Type 0} (atom : A → ℕ) (membrane : M → ℕ) where
  pub grows_none : (g : SetRegisters A M) → Grows g g
  grows_none g = record { atoms = λ i a e. e; membranes = λ i m e. e; parts = refl; integers = refl; copies = λ i p e. e }

  pub grows_on : (g k l : SetRegisters A M) → Grows g k → Grows k l → Grows g l
  grows_on g k l u v = record { atoms = λ i a e. v.atoms i a (u.atoms i a e); membranes = λ i m e. v.membranes i m (u.membranes i m e); parts = v.parts ∙ u.parts; integers = v.integers ∙ u.integers; copies = λ i p e. v.copies i p (u.copies i p e) }

  -- registers that agree with those that are set later agree with those that were set before
  pub agrees_before : (g k : SetRegisters A M) (r : Registers) → Grows g k → AgreesWithCopies atom membrane k r → AgreesWithCopies atom membrane g r
  agrees_before g k r u a = record {
    atoms = λ i x e. a.atoms i x (u.atoms i x e);
    membranes = λ i x e. a.membranes i x (u.membranes i x e);
    parts = λ i x e. a.parts i x (subst (λ ps. slice_get ps i ≡ Some x) (sym u.parts) e);
    integers = λ i x e. a.integers i x (subst (λ zs. slice_get zs i ≡ Some x) (sym u.integers) e);
    copies = λ i x e. a.copies i x (u.copies i x e);
  }

  -- Registers with the values of those that are set, whose copies have these atoms, and with these rests.
  abbrev registers_with : SetRegisters A M → List (List ℕ) → (ℕ → List ℕ) → (ℕ → List ℕ) → Registers
  registers_with g copied left_atoms left_membranes = record {
    head = record {
      images = record {
        atom = λ k. number_or atom (slice_get g.atoms k);
        membrane = λ k. number_or membrane (slice_get g.membranes k);
        part = λ k. port_or atom (slice_get g.parts k);
      };
      integer = λ k. integer_or (slice_get g.integers k);
    };
    copy = λ k. root_or atom (slice_get g.copies k);
    copied = λ k. list_or (slice_get copied k);
    left_atoms = left_atoms;
    left_membranes = left_membranes;
  }

  agrees_with : (g : SetRegisters A M) (copied : List (List ℕ)) (left_atoms left_membranes : ℕ → List ℕ) → AreSized g.copies copied → AgreesWithCopies atom membrane g (registers_with g copied left_atoms left_membranes)
  agrees_with g copied left_atoms left_membranes sized = record {
    atoms = λ k a e. ap (number_or atom) e;
    membranes = λ k m e. ap (number_or membrane) e;
    parts = λ k p e. ap (port_or atom) e;
    integers = λ k z e. ap integer_or e;
    copies = λ k p e. (ap (root_or atom) e, (let x = get_too g.copies copied (sym sized.count) k p e in ap (λ xs. length (list_or xs)) x.1 ∙ sized.sizes k p x.0 e x.1));
  }

  -- There are registers that agree with those that are set.
  pub some_agree : (g : SetRegisters A M) → (r : Registers) × AgreesWithCopies atom membrane g r
  some_agree g =
      let copied = map (λ p. replicate p.atoms 0) g.copies in
      let sized : AreSized g.copies copied = record { count = length-map g.copies (λ p. replicate p.atoms 0); sizes = sizes g.copies } in
      (registers_with g copied (λ k. []) (λ k. []), agrees_with g copied (λ k. []) (λ k. []) sized)
    where
      sizes : (cs : List (PartCopy A)) (k : ℕ) (p : PartCopy A) (atoms : List ℕ) → slice_get cs k ≡ Some p → slice_get (map (λ p. replicate p.atoms 0) cs) k ≡ Some atoms → length atoms ≡ p.atoms
      sizes [] k p atoms e f = absurd (cc)
      sizes (c ∷ cs) zero p atoms e f =
          let a : replicate c.atoms 0 ≡ atoms = same_Some (replicate c.atoms 0) atoms f in
          let b : c ≡ p = same_Some c p e in
          ap length (sym a) ∙ length-replicate c.atoms 0 ∙ ap (λ x. x.atoms) b
      sizes (c ∷ cs) (suc k) p atoms e f = sizes cs k p atoms e f

  -- There are such registers, whose copies have given atoms, with the rests besides registers of a valid heap.
  pub some_registers : (g : SetRegisters A M) (copied : List (List ℕ)) → AreSized g.copies copied → (h : Heap) → Valid h → (head : SetRegisters A M) → (r : Registers) × AgreesWithCopies atom membrane g r × HasCopies r copied × HasRests atom membrane h head r
  some_registers g copied sized h valid head =
      let left_atoms : ℕ → List ℕ = (λ k. (rest (slice_get head.membranes k)).0) in
      let left_membranes : ℕ → List ℕ = (λ k. (rest (slice_get head.membranes k)).1) in (
        registers_with g copied left_atoms left_membranes,
        agrees_with g copied left_atoms left_membranes sized,
        λ k xs e. ap list_or e,
        λ k m e. subst (λ (o : Option M). IsRestBeside atom membrane h head (membrane m) (rest o).0 (rest o).1) (sym e) (rest_beside atom membrane h valid head (membrane m)).2,
      )
    where
      rest : Option M → List ℕ × List ℕ
      rest None = ([], [])
      rest (Some m) = (let w = rest_beside atom membrane h valid head (membrane m) in (w.0, w.1))

  -- An atom is made.
  module _ (s t : Heap) (g k : SetRegisters A M) (before : List Instr) (i : Instr) (f : Functor) (held : AreHeld atom membrane s g) (made : AtomIsMade {A = A} {M = M} atom s t g k f) where
    abbrev new_one : A
    new_one = made.0

    abbrev with_atom : SetRegisters A M
    with_atom = record g { atoms = g.atoms ++ new_one ∷ [] }

    atom_grows : Grows g with_atom
    atom_grows = record { atoms = λ n x e. get_front g.atoms (new_one ∷ []) n x e; membranes = λ n m e. e; parts = refl; integers = refl; copies = λ n p e. e }

    atom_held : AreHeld atom membrane (made_atom s (atom new_one) f) with_atom
    atom_held = record {
      atoms = λ n x e. elim (get_either g.atoms new_one n x e) [
        | inl w ↦ some_altered s.atoms (atom new_one) (atom x) (new_atom f) (held.atoms n x w)
        | inr w ↦ subst (λ y. IsAtom (made_atom s (atom new_one) f) (atom y)) w (rw (alter_at s.atoms (atom new_one) (λ _. Some (new_atom f))) refl)
      ];
      membranes = held.membranes;
      parts = λ n p e. some_altered s.atoms (atom new_one) (atom p.0) (new_atom f) (held.parts n p e);
      listed = listed_made atom g.listed s (made_atom s (atom new_one) f) (makes_atom s (made_atom s (atom new_one) f) (atom new_one) f made.1 refl) held.listed;
    }

    in_next : slice_get k.atoms (length g.atoms) ≡ Some new_one
    in_next = subst (λ (l : SetRegisters A M). slice_get l.atoms (length g.atoms) ≡ Some new_one) (sym made.3) (get_last g.atoms new_one)

    atom_made : atoms_made i ≡ 1 → membranes_made i ≡ 0 → copies_made i ≡ 0 → ((r : Registers) (rules : ℕ → List ℕ) (x : ℕ) → needed_by r rules i x ≡ 0) →
        ((r : Registers) → AgreesWithCopies atom membrane k r → r.head.images.atom (length g.atoms) ≡ atom new_one → Makes r i s t) → IsMade atom membrane s t g k before i
    atom_made one none no_copy free makes = record {
      grows = subst (λ l. Grows g l) (sym made.3) atom_grows;
      held = subst (λ l. AreHeld atom membrane t l) (sym made.3) (subst (λ u. AreHeld atom membrane u with_atom) (sym made.2) atom_held);
      atoms = ap (λ (l : SetRegisters A M). length l.atoms) made.3 ∙ length_push g.atoms new_one ∙ ap (λ n. length g.atoms + n) (sym one);
      membranes = ap (λ (l : SetRegisters A M). length l.membranes) made.3 ∙ (let e : length g.membranes ≡ length g.membranes + 0 = omega arith in e) ∙ ap (λ n. length g.membranes + n) (sym none);
      copies = ap (λ (l : SetRegisters A M). length l.copies) made.3 ∙ (let e : length g.copies ≡ length g.copies + 0 = omega arith in e) ∙ ap (λ n. length g.copies + n) (sym no_copy);
      copied = [];
      sizes = none_sized g.copies k.copies (ap (λ (l : SetRegisters A M). l.copies) made.3);
      makes = λ r es u z h copied. makes r u (u.atoms (length g.atoms) new_one in_next);
      new_atoms = λ j a e. elim (get_either g.atoms new_one j a (subst (λ (l : SetRegisters A M). slice_get l.atoms j ≡ Some a) made.3 e)) [ inl w ↦ inl w | inr w ↦ inr (subst (λ x. s.atoms (atom x) ≡ None) w made.1) ];
      new_membranes = λ j m e. inl (subst (λ (l : SetRegisters A M). slice_get l.membranes j ≡ Some m) made.3 e);
      rules = λ x. ap (λ (u : Heap). rules_in u x) made.2;
      spares = λ r u e x. (let v = e x in let w = free r (rules_in s) x in let z : spare_of t x ≡ spare_of s x = ap (λ (q : Heap). spare_of q x) made.2 in omega (arith, v, w, z));
    }

    pub new_atom_made : (x y : ℕ) → i ≡ NewAtom x y f → (v c : ℕ) → UsesInOrder (length g.atoms) (length g.membranes) (length g.parts) v c i → IsMade atom membrane s t g k before i
    new_atom_made x y e v c reads =
        let u : UsesInOrder (length g.atoms) (length g.membranes) (length g.parts) v c (NewAtom x y f) = subst (λ j. UsesInOrder (length g.atoms) (length g.membranes) (length g.parts) v c j) e reads in
        atom_made (ap atoms_made e) (ap membranes_made e) (ap copies_made e) (λ r rules z. ap (λ j. needed_by r rules j z) e)
        (λ r w q. subst (λ j. Makes r j s t) (sym e)
        (let n : r.head.images.atom x ≡ atom new_one = ap r.head.images.atom u.0.0 ∙ q in
        (ap s.atoms n ∙ made.1, made.2 ∙ ap (λ m. made_atom s m f) (sym n))))

    pub new_int_made : (x y z : ℕ) (value : ℤ) → i ≡ NewInt x y z → f ≡ integer_functor value → slice_get g.integers z ≡ Some value → (v c : ℕ) → UsesInOrder (length g.atoms) (length g.membranes) (length g.parts) v c i → IsMade atom membrane s t g k before i
    new_int_made x y z value e is at v c reads =
        let u : UsesInOrder (length g.atoms) (length g.membranes) (length g.parts) v c (NewInt x y z) = subst (λ j. UsesInOrder (length g.atoms) (length g.membranes) (length g.parts) v c j) e reads in
        atom_made (ap atoms_made e) (ap membranes_made e) (ap copies_made e) (λ r rules n. ap (λ j. needed_by r rules j n) e)
        (λ r w q. subst (λ j. Makes r j s t) (sym e)
        (let n : r.head.images.atom x ≡ atom new_one = ap r.head.images.atom u.0.0 ∙ q in
        let b : r.head.integer z ≡ value = w.integers z value (subst (λ zs. slice_get zs z ≡ Some value) (sym (ap (λ (l : SetRegisters A M). l.integers) made.3)) at) in
        (ap s.atoms n ∙ made.1, made.2 ∙ (ap (λ m. made_atom s m f) (sym n) ∙ ap (λ h. made_atom s (r.head.images.atom x) h) (is ∙ ap integer_functor (sym b))))))

  -- A membrane is made.
  module _ (s t : Heap) (g k : SetRegisters A M) (before : List Instr) (i : Instr) (held : AreHeld atom membrane s g) (made : MembraneIsMade {A = A} {M = M} membrane s t g k) where
    abbrev new_handle : M
    new_handle = made.0

    abbrev with_membrane : SetRegisters A M
    with_membrane = record g { membranes = g.membranes ++ new_handle ∷ [] }

    membrane_grows : Grows g with_membrane
    membrane_grows = record { atoms = λ n x e. e; membranes = λ n m e. get_front g.membranes (new_handle ∷ []) n m e; parts = refl; integers = refl; copies = λ n p e. e }

    membrane_held : AreHeld atom membrane (made_mem s (membrane new_handle)) with_membrane
    membrane_held = record {
      atoms = held.atoms;
      membranes = λ n x e. elim (get_either g.membranes new_handle n x e) [
        | inl w ↦ some_altered s.mems (membrane new_handle) (membrane x) new_mem (held.membranes n x w)
        | inr w ↦ subst (λ y. IsMem (made_mem s (membrane new_handle)) (membrane y)) w (rw (alter_at s.mems (membrane new_handle) (λ _. Some new_mem)) refl)
      ];
      parts = held.parts;
      listed = listed_kept atom s g.listed (made_mem s (membrane new_handle)) (λ a i. refl) held.listed;
    }

    same_rules : (x : ℕ) → rules_in (made_mem s (membrane new_handle)) x ≡ rules_in s x
    same_rules x = elim (cases_eq x (membrane new_handle)) [
      | inl e ↦ ap rules_by (ap (made_mem s (membrane new_handle)).mems e ∙ alter_at s.mems (membrane new_handle) (λ _. Some new_mem)) ∙ ap rules_by (sym made.1 ∙ ap s.mems (sym e))
      | inr d ↦ ap rules_by (alter_away s.mems (membrane new_handle) (λ _. Some new_mem) x d)
    ]

    room : (x n : ℕ) → n ≤ spare_of s x → n ≤ spare_of (made_mem s (membrane new_handle)) x
    room x n l = elim (cases_eq x (membrane new_handle)) [
      | inl e ↦ (let z : spare_of s x ≡ 0 = ap spare_by (ap s.mems e ∙ made.1) in omega (arith, z, l))
      | inr d ↦ (let z : spare_of (made_mem s (membrane new_handle)) x ≡ spare_of s x = ap spare_by (alter_away s.mems (membrane new_handle) (λ _. Some new_mem) x d) in omega (arith, z, l))
    ]

    pub new_mem_made : (x y : ℕ) → i ≡ NewMem x y → (v c : ℕ) → UsesInOrder (length g.atoms) (length g.membranes) (length g.parts) v c i → IsMade atom membrane s t g k before i
    new_mem_made x y e v c reads =
        let u : UsesInOrder (length g.atoms) (length g.membranes) (length g.parts) v c (NewMem x y) = subst (λ j. UsesInOrder (length g.atoms) (length g.membranes) (length g.parts) v c j) e reads in
        record {
          grows = subst (λ l. Grows g l) (sym made.3) membrane_grows;
          held = subst (λ l. AreHeld atom membrane t l) (sym made.3) (subst (λ u. AreHeld atom membrane u with_membrane) (sym made.2) membrane_held);
          atoms = ap (λ (l : SetRegisters A M). length l.atoms) made.3 ∙ (let z : length g.atoms ≡ length g.atoms + 0 = omega arith in z) ∙ ap (λ n. length g.atoms + n) (sym (ap atoms_made e));
          membranes = ap (λ (l : SetRegisters A M). length l.membranes) made.3 ∙ length_push g.membranes new_handle ∙ ap (λ n. length g.membranes + n) (sym (ap membranes_made e));
          copies = ap (λ (l : SetRegisters A M). length l.copies) made.3 ∙ (let z : length g.copies ≡ length g.copies + 0 = omega arith in z) ∙ ap (λ n. length g.copies + n) (sym (ap copies_made e));
          copied = [];
          sizes = none_sized g.copies k.copies (ap (λ (l : SetRegisters A M). l.copies) made.3);
          makes = λ r es w z h copied. subst (λ j. Makes r j s t) (sym e)
              (let q = w.membranes (length g.membranes) new_handle (subst (λ (l : SetRegisters A M). slice_get l.membranes (length g.membranes) ≡ Some new_handle) (sym made.3) (get_last g.membranes new_handle)) in
              let n : r.head.images.membrane x ≡ membrane new_handle = ap r.head.images.membrane u.0.0 ∙ q in
              (ap s.mems n ∙ made.1, made.2 ∙ ap (λ m. made_mem s m) (sym n)));
          new_atoms = λ j a q. inl (subst (λ (l : SetRegisters A M). slice_get l.atoms j ≡ Some a) made.3 q);
          new_membranes = λ j m q. elim (get_either g.membranes new_handle j m (subst (λ (l : SetRegisters A M). slice_get l.membranes j ≡ Some m) made.3 q)) [ inl w ↦ inl w | inr w ↦ inr (subst (λ z. s.mems (membrane z) ≡ None) w made.1) ];
          rules = λ z. ap (λ (w : Heap). rules_in w z) made.2 ∙ same_rules z;
          spares = λ r w l z. (let p = room z (needed r (rules_in s) before z) (l z) in
              let q : needed_by r (rules_in s) i z ≡ 0 = ap (λ j. needed_by r (rules_in s) j z) e in
              let d : spare_of t z ≡ spare_of (made_mem s (membrane new_handle)) z = ap (λ (w : Heap). spare_of w z) made.2 in
              omega (arith, p, q, d));
        }

  -- Room is made for the rules of the code up to an instruction.
  module _ (s t : Heap) (g : SetRegisters A M) (before upto : List Instr) (i : Instr) (y : ℕ) (held : AreHeld atom membrane s g) (made : RoomIsMade {A = A} {M = M} atom membrane s t g upto y) (is : upto ≡ before ++ i ∷ []) where
    abbrev room_now : ℕ
    room_now = spare_of t y

    rules_stay : (x : ℕ) → rules_in (reserved s y room_now) x ≡ rules_in s x
    rules_stay x = alter_keeps s.mems y (option_map (mem_with_spare room_now)) rules_by on x
      where
        on : (o : Option HeapMem) → rules_by (option_map (mem_with_spare room_now) o) ≡ rules_by o
        on None = refl
        on (Some z) = refl

    pub room_made : atoms_made i ≡ 0 → membranes_made i ≡ 0 → copies_made i ≡ 0 → ((r : Registers) → AgreesWithCopies atom membrane g r → Makes r i s t) →
        ((r : Registers) → AgreesWithCopies atom membrane g r → (x : ℕ) → x ≢ y → needed_by r (rules_in s) i x ≡ 0) → IsMade atom membrane s t g g before i
    room_made none none_too no_copy makes away = record {
      grows = grows_none g;
      held = subst (λ u. AreHeld atom membrane u g) (sym made.0) (record { atoms = held.atoms; membranes = λ k m e. some_changed s.mems y (membrane m) (mem_with_spare room_now) (held.membranes k m e); parts = held.parts; listed = listed_kept atom s g.listed (reserved s y room_now) (λ a i. refl) held.listed });
      atoms = (let z : length g.atoms ≡ length g.atoms + 0 = omega arith in z) ∙ ap (λ k. length g.atoms + k) (sym none);
      membranes = (let z : length g.membranes ≡ length g.membranes + 0 = omega arith in z) ∙ ap (λ k. length g.membranes + k) (sym none_too);
      copies = (let z : length g.copies ≡ length g.copies + 0 = omega arith in z) ∙ ap (λ k. length g.copies + k) (sym no_copy);
      copied = [];
      sizes = none_sized g.copies g.copies refl;
      makes = λ r es u z h copied. makes r u;
      new_atoms = λ j a e. inl e;
      new_membranes = λ j m e. inl e;
      rules = λ x. ap (λ (u : Heap). rules_in u x) made.0 ∙ rules_stay x;
      spares = λ r u l x. elim (cases_eq x y) [
        | inl e ↦ (let p = made.1 r u in let q : needed r (rules_in s) upto y ≡ needed r (rules_in s) before y + needed_by r (rules_in s) i y = ap (λ is. needed r (rules_in s) is y) is ∙ needed_more r (rules_in s) before i y in
            subst (λ z. needed r (rules_in s) before z + needed_by r (rules_in s) i z ≤ spare_of t z) (sym e) (omega (arith, p, q)))
        | inr d ↦ (let p = l x in let q = away r u x d in
            let c : spare_of t x ≡ spare_of s x = ap (λ (w : Heap). spare_of w x) made.0 ∙ ap spare_by (alter_away s.mems y (option_map (mem_with_spare room_now)) x d) in
            omega (arith, p, q, c))
      ];
    }

  other : (r : Registers) (x y k m : ℕ) → r.head.images.membrane m ≡ y → x ≢ y → cond (r.head.images.membrane m == x) k 0 ≡ 0
  other r x y k m e d = by (r.head.images.membrane m == x) refl
    where
      by : (b : Bool) → (r.head.images.membrane m == x) ≡ b → cond b k 0 ≡ 0
      by true q = absurd (d (sym (eqb-true (r.head.images.membrane m) x q) ∙ e))
      by false q = refl

  pub load_rule_made : (s t : Heap) (g : SetRegisters A M) (before upto : List Instr) (i : Instr) (h : M) (m k : ℕ) → AreHeld atom membrane s g → RoomIsMade {A = A} {M = M} atom membrane s t g upto (membrane h) → upto ≡ before ++ i ∷ [] →
      i ≡ LoadRule m k → slice_get g.membranes m ≡ Some h → IsMade atom membrane s t g g before i
  load_rule_made s t g before upto i h m k held made is e at = room_made s t g before upto i (membrane h) held made is (ap atoms_made e) (ap membranes_made e) (ap copies_made e)
      (λ r u. subst (λ j. Makes r j s t) (sym e) (spare_of t (membrane h), made.0 ∙ ap (λ x. reserved s x (spare_of t (membrane h))) (sym (u.membranes m h at))))
      (λ r u x d. ap (λ j. needed_by r (rules_in s) j x) e ∙ other r x (membrane h) 1 m (u.membranes m h at) d)

  pub copy_rules_made : (s t : Heap) (g : SetRegisters A M) (before upto : List Instr) (i : Instr) (h : M) (m n : ℕ) → AreHeld atom membrane s g → RoomIsMade {A = A} {M = M} atom membrane s t g upto (membrane h) → upto ≡ before ++ i ∷ [] →
      i ≡ CopyRules m n → slice_get g.membranes n ≡ Some h → IsMade atom membrane s t g g before i
  copy_rules_made s t g before upto i h m n held made is e at = room_made s t g before upto i (membrane h) held made is (ap atoms_made e) (ap membranes_made e) (ap copies_made e)
      (λ r u. subst (λ j. Makes r j s t) (sym e) (spare_of t (membrane h), made.0 ∙ ap (λ x. reserved s x (spare_of t (membrane h))) (sym (u.membranes n h at))))
      (λ r u x d. ap (λ j. needed_by r (rules_in s) j x) e ∙ other r x (membrane h) (length (rules_in s (r.head.images.membrane m))) n (u.membranes n h at) d)

  -- A copy is made.
  pub copy_made : (s t : Heap) (g k : SetRegisters A M) (before : List Instr) (i : Instr) (x y z : ℕ) (p : A × ℕ) → AreHeld atom membrane s g → i ≡ CopyGround x y z → slice_get g.parts z ≡ Some p →
      CopyIsMade {A = A} {M = M} atom s t g k (port_id atom p) → IsListed atom t k.listed → (v c : ℕ) → c ≡ length g.copies → UsesInOrder (length g.atoms) (length g.membranes) (length g.parts) v c i → IsMade atom membrane s t g k before i
  copy_made s t g k before i x y z p held e at made listed v c is_c reads =
      let u : UsesInOrder (length g.atoms) (length g.membranes) (length g.parts) v c (CopyGround x y z) = subst (λ j. UsesInOrder (length g.atoms) (length g.membranes) (length g.parts) v c j) e reads in
      let next : x ≡ length g.copies = u.0.0 ∙ is_c in
      let beside = made.1.beside in
      let kept : (a : ℕ) → IsAtom s a → IsAtom t a = λ a w. subst (λ (o : Option HeapAtom). IsSome o) (sym (beside.kept a (λ n. none_there (s.atoms a) w (beside.fresh.1 a n)))) w in
      let same_mems : (m : ℕ) → t.mems m ≡ s.mems m = λ m. ap (λ (f : ℕ → Option HeapMem). f m) beside.mems in
      let in_next : slice_get k.copies (length g.copies) ≡ Some made.0 = subst (λ (l : SetRegisters A M). slice_get l.copies (length g.copies) ≡ Some made.0) (sym made.3) (get_last g.copies made.0) in
      let same_parts : k.parts ≡ g.parts = ap (λ (l : SetRegisters A M). l.parts) made.3 in
      record {
        grows = subst (λ l. Grows g l) (sym made.3) (record { atoms = λ n a q. q; membranes = λ n m q. q; parts = refl; integers = refl; copies = λ n q w. get_front g.copies (made.0 ∷ []) n q w });
        held = subst (λ l. AreHeld atom membrane t l) (sym made.3) (record {
          atoms = λ n a q. kept (atom a) (held.atoms n a q);
          membranes = λ n m q. subst (λ (o : Option HeapMem). IsSome o) (sym (same_mems (membrane m))) (held.membranes n m q);
          parts = λ n q w. kept (atom q.0) (held.parts n q w);
          listed = listed;
        });
        atoms = ap (λ (l : SetRegisters A M). length l.atoms) made.3 ∙ (let w : length g.atoms ≡ length g.atoms + 0 = omega arith in w) ∙ ap (λ n. length g.atoms + n) (sym (ap atoms_made e));
        membranes = ap (λ (l : SetRegisters A M). length l.membranes) made.3 ∙ (let w : length g.membranes ≡ length g.membranes + 0 = omega arith in w) ∙ ap (λ n. length g.membranes + n) (sym (ap membranes_made e));
        copies = ap (λ (l : SetRegisters A M). length l.copies) made.3 ∙ length_push g.copies made.0 ∙ ap (λ n. length g.copies + n) (sym (ap copies_made e));
        copied = made.1.copies ∷ [];
        sizes = λ es w. subst (λ (l : SetRegisters A M). AreSized l.copies (es ++ made.1.copies ∷ [])) (sym made.3) (one_sized g.copies es made.0 made.1.copies made.2 w);
        makes = λ r es w sized has copied. subst (λ j. Makes r j s t) (sym e)
            (let root : r.head.images.part z ≡ port_id atom p = w.parts z p (subst (λ ps. slice_get ps z ≡ Some p) (sym same_parts) at) in
            let copy : r.copy x ≡ port_id atom made.0.root = ap r.copy next ∙ (w.copies (length g.copies) made.0 in_next).0 in
            let atoms : r.copied x ≡ made.1.copies = ap r.copied (next ∙ sym sized.count) ∙ has (length es) made.1.copies (get_last es made.1.copies) in
            subst (λ q. IsCopied s q (r.copy x) (r.copied x) t) (sym root) (subst (λ q. IsCopied s (port_id atom p) q (r.copied x) t) (sym copy) (made.1, sym atoms)));
        new_atoms = λ j a q. inl (subst (λ (l : SetRegisters A M). slice_get l.atoms j ≡ Some a) made.3 q);
        new_membranes = λ j m q. inl (subst (λ (l : SetRegisters A M). slice_get l.membranes j ≡ Some m) made.3 q);
        rules = λ m. ap rules_by (same_mems m);
        spares = λ r w l m. (let b = l m in let q : needed_by r (rules_in s) i m ≡ 0 = ap (λ j. needed_by r (rules_in s) j m) e in let d : spare_of t m ≡ spare_of s m = ap spare_by (same_mems m) in omega (arith, b, q, d));
      }

  -- The copy of a rest is made.
  pub rest_made : (s t : Heap) (g : SetRegisters A M) (before : List Instr) (i : Instr) (x y : ℕ) (h : M) → AreHeld atom membrane s g → OnlyMakes s t → i ≡ CopyCells x y → slice_get g.membranes x ≡ Some h →
      RestIsMade atom membrane s t g (membrane h) → IsMade atom membrane s t g g before i
  rest_made s t g before i x y h held makes e at made =
      let kept : (a : ℕ) → IsAtom s a → IsAtom t a = λ a w. subst (λ (o : Option HeapAtom). IsSome o) (sym (makes.kept a w)) w in
      record {
        grows = grows_none g;
        held = record { atoms = λ n a q. kept (atom a) (held.atoms n a q); membranes = λ n m q. made.there (membrane m) (held.membranes n m q); parts = λ n q w. kept (atom q.0) (held.parts n q w); listed = listed_made atom g.listed s t makes held.listed };
        atoms = (let z : length g.atoms ≡ length g.atoms + 0 = omega arith in z) ∙ ap (λ k. length g.atoms + k) (sym (ap atoms_made e));
        membranes = (let z : length g.membranes ≡ length g.membranes + 0 = omega arith in z) ∙ ap (λ k. length g.membranes + k) (sym (ap membranes_made e));
        copies = (let z : length g.copies ≡ length g.copies + 0 = omega arith in z) ∙ ap (λ k. length g.copies + k) (sym (ap copies_made e));
        copied = [];
        sizes = none_sized g.copies g.copies refl;
        makes = λ r es u z has copied. subst (λ j. Makes r j s t) (sym e) (made.copied (r.left_atoms x) (r.left_membranes x) (copied x y h e at));
        new_atoms = λ j a q. inl q;
        new_membranes = λ j m q. inl q;
        rules = made.rules;
        spares = λ r u l m. (let q : needed_by r (rules_in s) i m ≡ 0 = ap (λ j. needed_by r (rules_in s) j m) e in let b = made.room m (needed r (rules_in s) before m) (l m) in omega (arith, b, q));
      }

  -- the other instructions make nothing
  abbrev MakesNone : Instr → Type 0
  MakesNone i = (atoms_made i ≡ 0) × (membranes_made i ≡ 0) × (copies_made i ≡ 0) × ((r : Registers) (s : Heap) → Makes r i s s) × ((r : Registers) (rules : ℕ → List ℕ) (x : ℕ) → needed_by r rules i x ≡ 0)

  -- it is none of those that make something
  pub record IsOther (i : Instr) : Type 0 where
    pub no_atom : (x y : ℕ) (f : Functor) → i ≡ NewAtom x y f → ⊥
    pub no_integer : (x y z : ℕ) → i ≡ NewInt x y z → ⊥
    pub no_mem : (x y : ℕ) → i ≡ NewMem x y → ⊥
    pub no_copy : (x y z : ℕ) → i ≡ CopyGround x y z → ⊥
    pub no_rule : (x y : ℕ) → i ≡ LoadRule x y → ⊥
    pub no_rules : (x y : ℕ) → i ≡ CopyRules x y → ⊥
    pub no_rest : (x y : ℕ) → i ≡ CopyCells x y → ⊥

  makes_none : (a m g v c : ℕ) (i : Instr) → UsesInOrder a m g v c i → IsOther i → MakesNone i
  makes_none a m g v c (NewAtom x y f) u o = absurd (o.no_atom x y f refl)
  makes_none a m g v c (NewInt x y z) u o = absurd (o.no_integer x y z refl)
  makes_none a m g v c (NewMem x y) u o = absurd (o.no_mem x y refl)
  makes_none a m g v c (CopyGround x y z) u o = absurd (o.no_copy x y z refl)
  makes_none a m g v c (LoadRule x y) u o = absurd (o.no_rule x y refl)
  makes_none a m g v c (CopyRules x y) u o = absurd (o.no_rules x y refl)
  makes_none a m g v c (CopyCells x y) u o = absurd (o.no_rest x y refl)
  makes_none a m g v c (DropCells x) u o = (refl, refl, refl, λ r s. refl, λ r rules x. refl)
  makes_none a m g v c (RemoveAtom x) u o = (refl, refl, refl, λ r s. refl, λ r rules x. refl)
  makes_none a m g v c (RemovePart x) u o = (refl, refl, refl, λ r s. refl, λ r rules x. refl)
  makes_none a m g v c (RemoveMem x) u o = (refl, refl, refl, λ r s. refl, λ r rules x. refl)
  makes_none a m g v c (MoveCells x y) u o = (refl, refl, refl, λ r s. refl, λ r rules x. refl)
  makes_none a m g v c (NewLink x y) u o = (refl, refl, refl, λ r s. refl, λ r rules x. refl)
  makes_none a m g v c (Relink x y) u o = (refl, refl, refl, λ r s. refl, λ r rules x. refl)
  makes_none a m g v c (Unify x y) u o = (refl, refl, refl, λ r s. refl, λ r rules x. refl)
  makes_none a m g v c Proceed u o = (refl, refl, refl, λ r s. refl, λ r rules x. refl)
  makes_none a m g v c _ u o = absurd u

  pub nothing_made : (s : Heap) (g : SetRegisters A M) (before : List Instr) (i : Instr) → AreHeld atom membrane s g → (v c : ℕ) → UsesInOrder (length g.atoms) (length g.membranes) (length g.parts) v c i → IsOther i → IsMade atom membrane s s g g before i
  nothing_made s g before i held v c reads o =
      let none = makes_none (length g.atoms) (length g.membranes) (length g.parts) v c i reads o in
      let first = none.0 in let second = none.1 in let third = none.2 in
      record {
        grows = grows_none g;
        held = held;
        atoms = omega (arith, first);
        membranes = omega (arith, second);
        copies = omega (arith, third);
        copied = [];
        sizes = none_sized g.copies g.copies refl;
        makes = λ r es u z h copied. none.3 r s;
        new_atoms = λ j a e. inl e;
        new_membranes = λ j m e. inl e;
        rules = λ x. refl;
        spares = λ r u l x. (let e = none.4 r (rules_in s) x in let b = l x in omega (arith, e, b));
      }

  -- Code

  pub prepared_nothing : (s : Heap) (g : SetRegisters A M) → g.copies ≡ [] → AreHeld atom membrane s g → Prepared atom membrane s s g g []
  prepared_nothing s g e held = record {
    grows = grows_none g;
    held = held;
    uses = tt;
    copied = [];
    sizes = subst (λ ps. AreSized ps []) (sym e) (record { count = refl; sizes = λ k p xs a b. absurd (cc) });
    prepares = λ r u h rests. refl;
    makes = makes_nothing s;
    rules = λ x. refl;
    spares = λ r u x. omega arith;
  }

  -- the parts in registers can be copied when code is prepared
  pub still_copies : (h s : Heap) (g k : SetRegisters A M) (is : List Instr) → Paired h → Prepared atom membrane h s g k is → CanCopy {A = A} {M = M} atom h g → CanCopy {A = A} {M = M} atom s k
  still_copies h s g k is paired p can = λ n q e. still_copied h s paired p.makes (port_id atom q) (can n q (subst (λ ps. slice_get ps n ≡ Some q) p.grows.parts e))

  prepares_more : (r : Registers) (is : List Instr) (i : Instr) (h s t : Heap) → Prepares r is h s → Makes r i s t → Prepares r (is ++ i ∷ []) h t
  prepares_more r [] i h s t p m = (t, subst (λ u. Makes r i u t) p m, refl)
  prepares_more r (j ∷ is) i h s t p m = (p.0, p.1, prepares_more r is i p.0 s t p.2 m)

  same_needed : (r : Registers) (f g : ℕ → List ℕ) (is : List Instr) (x : ℕ) → ((y : ℕ) → f y ≡ g y) → needed r f is x ≡ needed r g is x
  same_needed r f g is x e = let q : f ≡ g = λ i y. e y i in ap (λ h. needed r h is x) q

  pub prepared_more : (h s t : Heap) (g k l : SetRegisters A M) (is : List Instr) (i : Instr) (v : ℕ) → Prepared atom membrane h s g k is → IsMade atom membrane s t k l is i → OnlyMakes s t →
      ((r : Registers) → HasRests atom membrane h g r → HoldsCopied atom membrane s k r i) →
      UsesInOrder (length k.atoms) (length k.membranes) (length k.parts) v (length k.copies) i → Prepared atom membrane h t g l (is ++ i ∷ [])
  prepared_more h s t g k l is i v p m makes holds reads =
      let more = m.atoms in
      let more_mems = m.membranes in
      let more_copies = m.copies in
      let parts : length l.parts ≡ length k.parts = ap length m.grows.parts in
      let uses : AllUse (length l.atoms) (length l.membranes) (length k.parts) (length l.copies) (is ++ i ∷ []) =
      use_one_more (length l.atoms) (length l.membranes) (length k.parts) (length l.copies) is i
      (all_use_more (length k.atoms) (length l.atoms) (length k.membranes) (length l.membranes) (length k.parts) (length k.copies) (length l.copies) (omega (arith, more)) (omega (arith, more_mems)) (omega (arith, more_copies)) is p.uses)
      (subst (λ n. Uses n (length l.membranes) (length k.parts) (length l.copies) i) (sym m.atoms) (subst (λ n. Uses (length k.atoms + atoms_made i) n (length k.parts) (length l.copies) i) (sym m.membranes)
      (subst (λ n. Uses (length k.atoms + atoms_made i) (length k.membranes + membranes_made i) (length k.parts) n i) (sym m.copies) (reads_uses (length k.atoms) (length k.membranes) (length k.parts) v (length k.copies) i reads)))) in
      record {
        grows = grows_on g k l p.grows m.grows;
        held = m.held;
        uses = subst (λ n. AllUse (length l.atoms) (length l.membranes) n (length l.copies) (is ++ i ∷ [])) (sym parts) uses;
        copied = p.copied ++ m.copied;
        sizes = m.sizes p.copied p.sizes;
        prepares = λ r u has rests. prepares_more r is i h s t (p.prepares r (agrees_before k l r m.grows u) (λ n xs e. has n xs (get_front p.copied m.copied n xs e)) rests) (m.makes r p.copied u p.sizes has (holds r rests));
        makes = makes_on h s t p.makes makes;
        rules = λ x. m.rules x ∙ p.rules x;
        spares = λ r u x. (
            let same : (js : List Instr) (y : ℕ) → needed r (rules_in s) js y ≡ needed r (rules_in h) js y = λ js y. same_needed r (rules_in s) (rules_in h) js y p.rules in
            let b = m.spares r u (λ y. subst (λ n. n ≤ spare_of s y) (sym (same is y)) (p.spares r (agrees_before k l r m.grows u) y)) x in
            let e = needed_more r (rules_in s) is i x in
            let f = same (is ++ i ∷ []) x in
            omega (arith, b, e, f));
      }

  -- the registers of the code ahead
  pub in_order_next : (k l : SetRegisters A M) (i : Instr) (is : List Instr) → length l.atoms ≡ length k.atoms + atoms_made i → length l.membranes ≡ length k.membranes + membranes_made i → l.parts ≡ k.parts → l.integers ≡ k.integers →
      length l.copies ≡ length k.copies + copies_made i → BodyInOrder (length k.atoms) (length k.membranes) (length k.parts) (length k.integers) (length k.copies) (i ∷ is) →
      BodyInOrder (length l.atoms) (length l.membranes) (length l.parts) (length l.integers) (length l.copies) is
  in_order_next k l i is e f p q w o =
      subst (λ n. BodyInOrder n (length l.membranes) (length l.parts) (length l.integers) (length l.copies) is) (sym e)
      (subst (λ n. BodyInOrder (length k.atoms + atoms_made i) n (length l.parts) (length l.integers) (length l.copies) is) (sym f)
      (subst (λ ps. BodyInOrder (length k.atoms + atoms_made i) (length k.membranes + membranes_made i) (length ps) (length l.integers) (length l.copies) is) (sym p)
      (subst (λ zs. BodyInOrder (length k.atoms + atoms_made i) (length k.membranes + membranes_made i) (length k.parts) (length zs) (length l.copies) is) (sym q)
      (subst (λ n. BodyInOrder (length k.atoms + atoms_made i) (length k.membranes + membranes_made i) (length k.parts) (length k.integers) n is) (sym w) o.1))))
