-- The rest of a membrane besides registers is the same when more is made and is in registers.
use Rattle.std.proofs.Common.{◌≡◌, ℕ, Bool, true, false, List, [], ◌∷◌, ◌++◌, map, Option, Some, None, IsSome, refl, sym, ap, subst, ◌∙◌, inl, inr}
use Rattle.std.specs.Option.{option_map, option_and_then}
use Rattle.std.specs.Prelude.{◌⊎◌, not, slice_get, slice_index_or}
use Rattle.lmn_base.specs.Lists.{In}
use Rattle.lmn_base.proofs.Lists.{in_either}
use Rattle.lmn_store_heap.specs.Heap.{Heap, HeapAtom, HeapMem, Place, top, within, waiting, gone, IsAtom, IsMem, mem_with_spare, mem_unless_waiting, atoms_by, mems_by, atoms_in, mems_in, partners_of, home_by, port_id, discarded}
use Rattle.lmn_store_heap.specs.Sound.{Forest, bare, mem, flat, Forms, Listed, Valid}
use Rattle.lmn_store_heap.proofs.Groves.{forms_frame}
use Rattle.lmn_ground_parts.specs.Rests.{keep, atoms_of_all, IsRest, NoneLeaves}
use Rattle.lmn_ground_parts.specs.Walks.{is_in}
use Rattle.lmn_ground.proofs.CopyLaws.{member as in_handles}
use Rattle.lmn_ground.proofs.DropLaws.{is_out, out_is}
use Rattle.lmn_ground.proofs.RestLaws.{keep_in, all_in}
use Rattle.lmn_instr_code.specs.declared.instr.Instr.{Instr}
use Rattle.lmn_solid_bodies.specs.Running.{Registers}
use Rattle.lmn_solid_bodies.specs.Stopping.{SameButSpares}
use Rattle.lmn_machine_registers.specs.declared.registers.SetRegisters.{SetRegisters}
use Rattle.lmn_machine_commit.specs.Registers.{AreHeld, Grows, HasRests, IsInParts, IsRestBeside}
use Rattle.lmn_machine_commit.specs.Preparing.{AreAtHome, CanCopy, CanCopyRest, CanCopyRests, HoldsCopied, OnlyMakes}
use Rattle.lmn_machine_commit.proofs.Owning.{of_handles, keep_same}
use Rattle.lmn_machine_commit.proofs.RestOf.{rest_beside}
use Rattle.lmn_machine_commit.proofs.Waiting.{none_there, reached, reached_later}
use Rattle.lmn_store_heap.proofs.Common.{listed_atom, listed_mem}

-- what stands in a membrane that doesn't wait
kept_mem : (k : ℕ) (o p : Option HeapMem) → option_and_then mem_unless_waiting o ≡ option_map (mem_with_spare k) p → IsSome p → (atoms_by o ≡ atoms_by p) × (mems_by o ≡ mems_by p)
kept_mem k o None e i = absurd (cc)
kept_mem k None (Some y) e i = absurd (cc)
kept_mem k (Some x) (Some y) e i = by x.place refl e
  where
    same : Some x ≡ Some (mem_with_spare k y) → (atoms_by (Some x) ≡ atoms_by (Some y)) × (mems_by (Some x) ≡ mems_by (Some y))
    same q = (ap atoms_by q, ap mems_by q)

    by : (q : Place) → x.place ≡ q → mem_unless_waiting x ≡ Some (mem_with_spare k y) → (atoms_by (Some x) ≡ atoms_by (Some y)) × (mems_by (Some x) ≡ mems_by (Some y))
    by top d f = let z : mem_unless_waiting x ≡ Some x = rw d refl in same (sym z ∙ f)
    by (within m) d f = let z : mem_unless_waiting x ≡ Some x = rw d refl in same (sym z ∙ f)
    by waiting d f = let z : mem_unless_waiting x ≡ None = rw d refl in let w : None ≡ Some (mem_with_spare k y) = sym z ∙ f in absurd (cc)
    by gone d f = let z : mem_unless_waiting x ≡ Some x = rw d refl in same (sym z ∙ f)

-- a forest is of membranes
forest_mems : (s : Heap) → Listed s → (f : Forest) (ms : List ℕ) → Forms s f ms → ((n : ℕ) → In n ms → IsMem s n) → (n : ℕ) → In n (flat f) → IsMem s n
forest_mems s listed bare ms F h n i = absurd i
forest_mems s listed (mem k inner rest) ms F h n (inl e) = h n (subst (λ zs. In n zs) (sym F.1) (inl e))
forest_mems s listed (mem k inner rest) ms F h n (inr i) = elim (in_either n (flat inner) (flat rest) i) [
  | inl j ↦ forest_mems s listed inner (mems_in s k) F.2 (λ q l. listed_mem s listed k q l) n j
  | inr j ↦ forest_mems s listed rest F.0 F.3 (λ q l. h q (subst (λ zs. In q zs) (sym F.1) (inr l))) n j
]

-- the membranes of a rest
pub rest_mem : (s : Heap) → Listed s → (m : ℕ) (left_atom left_membrane : ℕ → Bool) (atoms membranes : List ℕ) → IsRest s m left_atom left_membrane atoms membranes → (n : ℕ) → In n membranes → IsMem s n
rest_mem s listed m left_atom left_membrane atoms membranes r n i =
    forest_mems s listed r.forest (keep left_membrane (mems_in s m)) r.forms (λ q k. listed_mem s listed m q (keep_in left_membrane (mems_in s m) q k)) n (subst (In n) r.preorder i)

-- its atoms
pub rest_atom : (s : Heap) → Listed s → (m : ℕ) (left_atom left_membrane : ℕ → Bool) (atoms membranes : List ℕ) → IsRest s m left_atom left_membrane atoms membranes → (a : ℕ) → In a atoms → IsAtom s a
rest_atom s listed m left_atom left_membrane atoms membranes r a i = elim (in_either a (keep left_atom (atoms_in s m)) (atoms_of_all s membranes) (subst (In a) r.in_order i)) [
  | inl k ↦ listed_atom s listed m a (keep_in left_atom (atoms_in s m) a k)
  | inr k ↦ (let w = all_in s membranes a k in listed_atom s listed w.0 a w.2)
]

-- tests of two lists are alike where the lists are
is_in_same : (xs ys : List ℕ) (x : ℕ) → (In x xs → In x ys) → (In x ys → In x xs) → is_in xs x ≡ is_in ys x
is_in_same xs ys x f g = by (is_in xs x) (is_in ys x) refl refl
  where
    by : (a b : Bool) → is_in xs x ≡ a → is_in ys x ≡ b → a ≡ b
    by true true p q = refl
    by false false p q = refl
    by true false p q = sym p ∙ is_out x xs (λ i. out_is x ys q (f i))
    by false true p q = sym (sym q ∙ is_out x ys (λ i. out_is x xs p (g i)))

-- Each atom and each membrane in registers was in the registers g, or wasn't in the heap h.
pub record IsApart {A M : Type 0} (atom : A → ℕ) (membrane : M → ℕ) (h : Heap) (g k : SetRegisters A M) : Type 0 where
  pub atoms : (j : ℕ) (a : A) → slice_get k.atoms j ≡ Some a → (slice_get g.atoms j ≡ Some a) ⊎ (h.atoms (atom a) ≡ None)
  pub membranes : (j : ℕ) (m : M) → slice_get k.membranes j ≡ Some m → (slice_get g.membranes j ≡ Some m) ⊎ (h.mems (membrane m) ≡ None)

-- what was no membrane before all was made was none either
none_before : (k : ℕ) (o p : Option HeapMem) → option_and_then mem_unless_waiting o ≡ option_map (mem_with_spare k) p → o ≡ None → p ≡ None
none_before k o None e n = refl
none_before k o (Some y) e n = let z : None ≡ Some (mem_with_spare k y) = sym (ap (option_and_then mem_unless_waiting) n) ∙ e in absurd (cc)

-- More is made and is in registers.
module _ {A M : Type 0} (atom : A → ℕ) (membrane : M → ℕ) (h s : Heap) (valid : Valid h) (makes : OnlyMakes h s) (same : SameButSpares h (discarded s)) (g k : SetRegisters A M) (grows : Grows g k) (apart : IsApart atom membrane h g k)
    (can : CanCopy {A = A} {M = M} atom h g) where
  lists_same : (m : ℕ) → IsMem h m → (atoms_in s m ≡ atoms_in h m) × (mems_in s m ≡ mems_in h m)
  lists_same m i = kept_mem (same.mems m).0 (s.mems m) (h.mems m) (same.mems m).1 i

  no_atom_before : (a : ℕ) → s.atoms a ≡ None → h.atoms a ≡ None
  no_atom_before a e = by (h.atoms a) refl
    where
      by : (o : Option HeapAtom) → h.atoms a ≡ o → o ≡ None
      by None q = refl
      by (Some x) q = absurd (none_there (s.atoms a) (subst (λ (o : Option HeapAtom). IsSome o) (sym (makes.kept a (subst (λ (o : Option HeapAtom). IsSome o) (sym q) refl) ∙ q)) refl) e)

  no_mem_before : (m : ℕ) → s.mems m ≡ None → h.mems m ≡ None
  no_mem_before m e = none_before (same.mems m).0 (s.mems m) (h.mems m) (same.mems m).1 e

  -- what is new now was so before
  pub apart_more : (l : SetRegisters A M) → ((j : ℕ) (a : A) → slice_get l.atoms j ≡ Some a → (slice_get k.atoms j ≡ Some a) ⊎ (s.atoms (atom a) ≡ None))
      → ((j : ℕ) (m : M) → slice_get l.membranes j ≡ Some m → (slice_get k.membranes j ≡ Some m) ⊎ (s.mems (membrane m) ≡ None)) → IsApart atom membrane h g l
  apart_more l new_atoms new_membranes = record {
    atoms = λ j a e. elim (new_atoms j a e) [ inl w ↦ apart.atoms j a w | inr n ↦ inr (no_atom_before (atom a) n) ];
    membranes = λ j m e. elim (new_membranes j m e) [ inl w ↦ apart.membranes j m w | inr n ↦ inr (no_mem_before (membrane m) n) ];
  }

  -- atoms of the heap before are in registers as they were
  atoms_before : (a : ℕ) → IsAtom h a → In a (map atom k.atoms) → In a (map atom g.atoms)
  atoms_before a there i =
      let o = of_handles atom k.atoms a i in
      elim (apart.atoms o.0 o.1.0 o.1.1) [
        | inl w ↦ subst (λ z. In z (map atom g.atoms)) o.1.2 (in_handles atom g.atoms o.0 o.1.0 w)
        | inr n ↦ absurd (none_there (h.atoms a) there (subst (λ z. h.atoms z ≡ None) o.1.2 n))
      ]

  atoms_later : (a : ℕ) → In a (map atom g.atoms) → In a (map atom k.atoms)
  atoms_later a i = let o = of_handles atom g.atoms a i in subst (λ z. In z (map atom k.atoms)) o.1.2 (in_handles atom k.atoms o.0 o.1.0 (grows.atoms o.0 o.1.0 o.1.1))

  mems_before : (m : ℕ) → IsMem h m → In m (map membrane k.membranes) → In m (map membrane g.membranes)
  mems_before m there i =
      let o = of_handles membrane k.membranes m i in
      elim (apart.membranes o.0 o.1.0 o.1.1) [
        | inl w ↦ subst (λ z. In z (map membrane g.membranes)) o.1.2 (in_handles membrane g.membranes o.0 o.1.0 w)
        | inr n ↦ absurd (let e : h.mems m ≡ None = subst (λ z. h.mems z ≡ None) o.1.2 n in let z : IsSome {T = HeapMem} None = subst (λ (p : Option HeapMem). IsSome p) e there in cc)
      ]

  mems_later : (m : ℕ) → In m (map membrane g.membranes) → In m (map membrane k.membranes)
  mems_later m i = let o = of_handles membrane g.membranes m i in subst (λ z. In z (map membrane k.membranes)) o.1.2 (in_handles membrane k.membranes o.0 o.1.0 (grows.membranes o.0 o.1.0 o.1.1))

  parts_before : (a : ℕ) → IsInParts atom s k.parts a → IsInParts atom h g.parts a
  parts_before a w =
      let at : slice_get g.parts w.0 ≡ Some w.1 = subst (λ ps. slice_get ps w.0 ≡ Some w.1) grows.parts w.2 in
      (w.0, w.1, at, (reached h s valid.sound.paired makes (port_id atom w.1) (can w.0 w.1 at) a w.3).0)

  parts_later : (a : ℕ) → IsInParts atom h g.parts a → IsInParts atom s k.parts a
  parts_later a w = (w.0, w.1, subst (λ ps. slice_get ps w.0 ≡ Some w.1) (sym grows.parts) w.2, (reached_later h s valid.sound.paired makes (port_id atom w.1) (can w.0 w.1 w.2) a w.3).0)

  -- The rest is as it was,
  pub rest_later : (m : ℕ) → IsMem h m → (atoms membranes : List ℕ) → IsRestBeside atom membrane h g m atoms membranes → IsRestBeside atom membrane s k m atoms membranes
  rest_later m there atoms membranes w =
      let lm : ℕ → Bool = λ x. not (is_in (map membrane g.membranes) x) in
      let lm' : ℕ → Bool = λ x. not (is_in (map membrane k.membranes) x) in
      let r = w.2 in
      let here = lists_same m there in
      let mem_of = rest_mem h valid.sound.listed m w.0 lm atoms membranes r in
      let kept : keep lm (mems_in h m) ≡ keep lm' (mems_in s m) =
      keep_same lm lm' (mems_in h m) (λ x i. ap (λ t. not t) (is_in_same (map membrane g.membranes) (map membrane k.membranes) x (mems_later x) (mems_before x (listed_mem h valid.sound.listed m x i)))) ∙ ap (keep lm') (sym here.1) in (
        w.0,
        λ a i. (
            let old : In a (atoms_in h m) = subst (In a) here.0 i in
            let atom_there = listed_atom h valid.sound.listed m a old in
            let was = w.1 a old in (
              λ e. (let b = was.0 e in record { no_atom = λ j. b.no_atom (atoms_before a atom_there j); no_part = λ u. b.no_part (parts_before a u) }),
              λ b. was.1 (record { no_atom = λ j. b.no_atom (atoms_later a j); no_part = λ u. b.no_part (parts_later a u) }),
            )),
        record {
          forest = r.forest;
          forms = subst (Forms s r.forest) kept (forms_frame h s r.forest (keep lm (mems_in h m)) (λ n i. (lists_same n (mem_of n (subst (In n) (sym r.preorder) i))).1) r.forms);
          preorder = r.preorder;
          once = r.once;
          outside = r.outside;
          in_order = r.in_order ∙ ap (λ zs. keep w.0 zs ++ atoms_of_all h membranes) (sym here.0) ∙ ap (λ zs. keep w.0 (atoms_in s m) ++ zs) (all_same membranes mem_of);
        },
      )
    where
      all_same : (ms : List ℕ) → ((n : ℕ) → In n ms → IsMem h n) → atoms_of_all h ms ≡ atoms_of_all s ms
      all_same [] f = refl
      all_same (n ∷ ms) f = ap (λ zs. zs ++ atoms_of_all h ms) (sym (lists_same n (f n (inl refl))).0) ∙ ap (λ zs. atoms_in s n ++ zs) (all_same ms (λ q i. f q (inr i)))

  -- and no link leaves it.
  stays_later : (m : ℕ) (atoms membranes : List ℕ) → IsRestBeside atom membrane h g m atoms membranes → NoneLeaves h atoms → NoneLeaves s atoms
  stays_later m atoms membranes w stays = λ a i b j k e. stays a i b j k
      (sym (ap (λ (o : Option HeapAtom). slice_index_or (partners_of o) i None) (makes.kept a (rest_atom h valid.sound.listed m w.0 (λ x. not (is_in (map membrane g.membranes) x)) atoms membranes w.2 a k))) ∙ e)

  -- Rests that code copies can still be copied,
  pub still_copied_rests : (held : AreHeld atom membrane h g) (code : List Instr) (at : ℕ) (i : Instr) → slice_get code at ≡ Some i → CanCopyRests atom membrane h g code → CanCopyRest atom membrane s k i
  still_copied_rests held code at i here rests = λ m n e. (
      let c = rests at m n (here ∙ ap (λ j. Some j) e) in
      let r = rest_beside atom membrane h valid g (membrane c.0) in
      (c.0, grows.membranes m c.0 c.1, (r.0, r.1, rest_later (membrane c.0) (held.membranes m c.0 c.1) r.0 r.1 r.2, stays_later (membrane c.0) r.0 r.1 r.2 (c.2 r.0 r.1 r.2))))

  -- and registers that hold the rests hold them still.
  pub still_holds : (held : AreHeld atom membrane h g) (code : List Instr) (at : ℕ) (i : Instr) → slice_get code at ≡ Some i → CanCopyRests atom membrane h g code → (r : Registers) → HasRests atom membrane h g r → HoldsCopied atom membrane s k r i
  still_holds held code at i here rests r has = λ m n x e there. (
      let c = rests at m n (here ∙ ap (λ j. Some j) e) in
      let twice : Some c.0 ≡ Some x = sym (grows.membranes m c.0 c.1) ∙ there in
      let one : c.0 ≡ x = cc in
      subst (λ z. IsRestBeside atom membrane s k (membrane z) (r.left_atoms m) (r.left_membranes m)) one
      (rest_later (membrane c.0) (held.membranes m c.0 c.1) (r.left_atoms m) (r.left_membranes m) (has m c.0 c.1)))

  -- Parts stand in one membrane still.
  pub still_at_home : AreAtHome atom h g.parts → AreAtHome atom s k.parts
  still_at_home homes = λ j p e. (
      let at : slice_get g.parts j ≡ Some p = subst (λ ps. slice_get ps j ≡ Some p) grows.parts e in
      let m = homes j p at in (
        m.0,
        λ a r. (let w = reached h s valid.sound.paired makes (port_id atom p) (can j p at) a r in
            ap (λ (o : Option HeapAtom). option_and_then (λ x. home_by x.place) o) (makes.kept a w.1) ∙ m.1 a w.0),
      ))
