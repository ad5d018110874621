-- A rest that is copied while what is in registers is marked.
use Rattle.std.proofs.Common.{◌≡◌, ◌≤◌, ◌+◌, ℕ, zero, suc, Bool, true, List, [], ◌∷◌, ◌++◌, map, length, Option, Some, None, IsSome, Result, Ok, Err, refl, sym, ap, subst, ◌∙◌, inl, inr, arith}
use Rattle.std.proofs.lemmas.Bool.Decides.{Decides-eqb}
use Rattle.std.proofs.lemmas.List.{get_or-set_same}
use Rattle.std.proofs.lemmas.Result.{on_ok_weaker}
use Rattle.std.specs.Option.{option_map, option_and_then}
use Rattle.std.specs.Prelude.{◌↔◌, ◌==◌, not, slice_get, slice_index_or, OnOk, OnErr}
use Rattle.lmn_base.specs.Graphs.{AtomMap, Reached, at_root}
use Rattle.lmn_base.specs.Lists.{In}
use Rattle.lmn_base.proofs.Lists.{in_either}
use Rattle.lmn_store_heap.specs.Heap.{Heap, HeapAtom, within, IsAtom, IsMem, Distinct, home_by, marks_of, partners_of, mark_of, own_mark, arity_of, home_of, atoms_in, mems_in, rules_in, port_id, PortsUnmarked, Unmarked}
use Rattle.lmn_store_heap.specs.Sound.{Forms, Sound, flat}
use Rattle.lmn_store_heap.proofs.Common.{decide_in}
use Rattle.lmn_store_heap.proofs.Groves.{forms_frame, forms_one}
use Rattle.lmn_ground_parts.specs.Copies.{AreNew, made_like}
use Rattle.lmn_ground_parts.specs.Rests.{AreRoomsFor, keep, atoms_of_all, NoneLeaves, RestCopied, RestRemains, made_roomy, rest_copied}
use Rattle.lmn_ground_parts.specs.Walks.{is_in}
use Rattle.lmn_ground.specs.Marks.{paint_at}
use Rattle.lmn_ground.specs.Rests.{AreMembranes, IsLeft, own_marked}
use Rattle.lmn_ground.proofs.RestLaws.{all_in, atoms_once}
use Rattle.lmn_ground.proofs.PaintedAt.{painted_none}
use Rattle.lmn_machine_registers.specs.declared.registers.SetRegisters.{SetRegisters}
use Rattle.lmn_machine_commit.specs.OwnMarks.{own_place, own_painted, AreWholeParts, HasOwnMarks, IsTakenInside}
use Rattle.lmn_machine_commit.specs.Registers.{AreAtomHandles, AreHeld, IsBeside, IsRestBeside}
use Rattle.lmn_machine_commit.specs.Preparing.{AreAtHome, CanCopy, HasClosedRest, OnlyMakes, RestIsMade}
use Rattle.lmn_machine_commit.proofs.Inside.{whole_same}
use Rattle.lmn_machine_commit.proofs.Later.{rest_atom}
use Rattle.lmn_machine_commit.proofs.OwnCopies.{copied_own, made_own, roomy_own}
use Rattle.lmn_machine_commit.proofs.Owning.{all_at, are_membranes, arity_painted, arity_same, clean_painted, in_all, keep_same, link_same, marked_is, marked_more, mem_painted, none, off_all, port_painted, same_graph, there_painted}
use Rattle.lmn_machine_commit.proofs.RestMaking.{makes_remains, makes_rest, remains_keeps_mem, rest_keeps_mem, rest_keeps_room, rest_keeps_rules}
use Rattle.lmn_machine_commit.proofs.RestOf.{kept_has}
use Rattle.lmn_machine_commit.proofs.Waiting.{makes_nothing, none_there, reached_later, still_copied}
use Rattle.lmn_base.proofs.Truth.{test_same}

-- The heap s, in which a rest of the membrane m is to be copied, and t, which is s with marks: all of the atoms of the list all.
module _ {A M : Type 0} (atom : A → ℕ) (membrane : M → ℕ) (s : Heap) (sound : Sound s) (z : Unmarked s) (g : SetRegisters A M) (held : AreHeld atom membrane s g) (can : CanCopy {A = A} {M = M} atom s g) (homes : AreAtHome atom s g.parts)
    (m : ℕ) (all : List ℕ) (told : (a : ℕ) → In a all ↔ IsTakenInside {A = A} {M = M} atom s g m a) (t : Heap) (e : t ≡ own_marked 1 all s) where
  abbrev v : ℕ → ℕ
  v = all_at all 1 none

  -- the marks that are set
  pub is_painted : t ≡ own_painted s v
  is_painted = e ∙ marked_is s all 1 z

  -- what is marked stands in the membrane
  at_home : (a : ℕ) → In a all → home_of s a ≡ Some m
  at_home a i = elim ((told a).0 i) [
    | inl w ↦ w.1
    | inr w ↦ (
        let k = homes w.0 w.1 w.2 in
        let same : Some k.0 ≡ Some m = sym (k.1 (atom w.1.0) at_root) ∙ w.3 in
        k.1 a w.4 ∙ same)
  ]

  marked_atom : (a : ℕ) → In a all → IsAtom s a
  marked_atom a i = by (s.atoms a) (at_home a i)
    where
      by : (o : Option HeapAtom) → option_and_then (λ x. home_by x.place) o ≡ Some m → IsSome o
      by None q = absurd (cc)
      by (Some x) q = refl

  -- and what is in registers or in parts and stands there is marked
  beside_of : (a : ℕ) → home_of s a ≡ Some m → (In a all → ⊥) → IsBeside {A = A} {M = M} atom s g a
  beside_of a home off = record {
    no_atom = λ i. off ((told a).1 (inl (i, home)));
    no_part = λ w. (
        let k = homes w.0 w.1 w.2 in
        off ((told a).1 (inr (w.0, w.1, w.2, k.1 (atom w.1.0) at_root ∙ sym (k.1 a w.3) ∙ home, w.3))));
  }

  of_beside : (a : ℕ) → IsBeside {A = A} {M = M} atom s g a → In a all → ⊥
  of_beside a b i = elim ((told a).0 i) [ inl w ↦ b.no_atom w.0 | inr w ↦ b.no_part (w.0, w.1, w.2, w.4) ]

  home_listed : (n a : ℕ) → In a (atoms_in s n) → home_of s a ≡ Some n
  home_listed n a i = by (s.atoms a) ((sound.listed.atoms n a).0 i)
    where
      by : (o : Option HeapAtom) → option_map (λ x. x.place) o ≡ Some (within n) → option_and_then (λ x. home_by x.place) o ≡ Some n
      by None q = absurd (cc)
      by (Some x) q = let f : x.place ≡ within n = cc in ap home_by f

  atom_listed : (n a : ℕ) → In a (atoms_in s n) → IsAtom s a
  atom_listed n a i = by (s.atoms a) ((sound.listed.atoms n a).0 i)
    where
      by : (o : Option HeapAtom) → option_map (λ x. x.place) o ≡ Some (within n) → IsSome o
      by None q = absurd (cc)
      by (Some x) q = refl

  own_is : (a : ℕ) → IsAtom s a → own_mark t a ≡ v a
  own_is a there = ap (λ (h : Heap). own_mark h a) is_painted ∙ ap (λ (n : ℕ). mark_of (own_painted s v) a n) (arity_painted s v a) ∙ by (v a) (s.atoms a) there (sound.shaped.marks a there) (z a (arity_of s a))
    where
      by : (w : ℕ) (o : Option HeapAtom) → IsSome o → length (marks_of o) ≡ length (partners_of o) + 1 → slice_index_or (marks_of o) (length (partners_of o)) 0 ≡ 0 → slice_index_or (marks_of (paint_at own_place w o)) (length (partners_of o)) 0 ≡ w
      by w None q l k = absurd (cc)
      by zero (Some x) q l k = k
      by (suc w) (Some x) q l k = get_or-set_same x.marks (length x.links) (suc w) 0 (omega (arith, l))

  off_mark : (a : ℕ) → (In a all → ⊥) → v a ≡ 0
  off_mark a n = off_all all 1 none a n

  not_marked : (a : ℕ) → v a ≡ 0 → In a all → ⊥
  not_marked a q i = let w = in_all all 1 none a i in absurd (omega (arith, w, q))

  -- the marks tell what is beside the registers
  marks_tell : (a : ℕ) → In a (atoms_in s m) → ((own_mark t a == 0) ≡ true) ↔ IsBeside {A = A} {M = M} atom s g a
  marks_tell a i = (
    λ q. beside_of a (home_listed m a i) (not_marked a (sym (own_is a (atom_listed m a i)) ∙ (Decides-eqb (own_mark t a) 0).0 q)),
    λ b. (Decides-eqb (own_mark t a) 0).1 (own_is a (atom_listed m a i) ∙ off_mark a (of_beside a b)),
  )

  lists_painted : (n : ℕ) → (atoms_in t n ≡ atoms_in s n) × (mems_in t n ≡ mems_in s n)
  lists_painted n = (ap (λ (h : Heap). atoms_in h n) is_painted, ap (λ (h : Heap). mems_in h n) is_painted)

  all_painted : (ms : List ℕ) → atoms_of_all s ms ≡ atoms_of_all t ms
  all_painted [] = refl
  all_painted (n ∷ ms) = ap (λ zs. zs ++ atoms_of_all s ms) (sym (lists_painted n).0) ∙ ap (λ zs. atoms_in t n ++ zs) (all_painted ms)

  -- each membrane is there
  pub asked_mem : (n : ℕ) → IsMem s n → IsMem t n
  asked_mem n i = mem_painted s z v t is_painted n i

  -- those in registers are set apart
  pub asked_out : (out : List M) → out ≡ g.membranes → AreMembranes t (map membrane out)
  asked_out out same = are_membranes membrane t out (λ k n u. asked_mem (membrane n) (held.membranes k n (subst (λ ms. slice_get ms k ≡ Some n) same u)))

  -- no mark of a port is set
  pub asked_clean : PortsUnmarked t
  asked_clean = clean_painted s z v t is_painted

  -- A later heap u: without the marks of t it is r, which is s and what was made since.
  pub record GoesOn (u r : Heap) : Type 0 where
    pub is : u ≡ own_painted r v
    pub makes : OnlyMakes s r
    pub keeps : (n : ℕ) → IsMem s n → IsMem r n

  -- so it is where nothing was made
  pub goes_on : GoesOn t s
  goes_on = record { is = is_painted; makes = makes_nothing s; keeps = λ n i. i }

  module _ (u r : Heap) (c : GoesOn u r) where
    r_unmarked : Unmarked r
    r_unmarked = c.makes.unmarked z

    -- other marks than own ones are 0
    pub again_marked : HasOwnMarks u
    again_marked = (r, v, r_unmarked, c.is)

    r_atom : (a : ℕ) → IsAtom s a → IsAtom r a
    r_atom a i = subst (λ (o : Option HeapAtom). IsSome o) (sym (c.makes.kept a i)) i

    -- the atoms in registers are there
    pub again_held : AreAtomHandles atom u g.atoms
    again_held = λ k a q. there_painted r r_unmarked v u c.is (atom a) (r_atom (atom a) (held.atoms k a q))

    -- the parts in registers are whole
    pub again_parts : AreWholeParts atom u g.parts
    again_parts = λ k q i. (
        let still = still_copied s r sound.paired c.makes (port_id atom q) (can k q i) in (
          there_painted r r_unmarked v u c.is (atom q.0) still.atom,
          port_painted r r_unmarked v u c.is (atom q.0) q.1 still.port,
          whole_same r u (same_graph r r_unmarked v u c.is) (arity_same r r_unmarked v u c.is) (port_id atom q) still.whole,
        ))

    -- each membrane is there
    pub again_mem : (n : ℕ) → IsMem s n → IsMem u n
    again_mem n i = mem_painted r r_unmarked v u c.is n (c.keeps n i)

    home_again : (a : ℕ) → IsAtom s a → home_of u a ≡ home_of s a
    home_again a i = ap (λ (n : AtomMap). n.home a) (same_graph r r_unmarked v u c.is) ∙ ap (λ (o : Option HeapAtom). option_and_then (λ x. home_by x.place) o) (c.makes.kept a i)

    -- what was marked is marked again
    taken_again : (a : ℕ) → IsTakenInside {A = A} {M = M} atom s g m a → IsTakenInside {A = A} {M = M} atom u g m a
    taken_again a (inl w) = inl (w.0, home_again a (marked_atom a ((told a).1 (inl w))) ∙ w.1)
    taken_again a (inr w) =
        let later = reached_later s r sound.paired c.makes (port_id atom w.1) (can w.0 w.1 w.2) a w.4 in
        inr (w.0, w.1, w.2, home_again (atom w.1.0) (can w.0 w.1 w.2).atom ∙ w.3, subst (λ (n : AtomMap). Reached n (port_id atom w.1) a) (sym (same_graph r r_unmarked v u c.is)) later.0)

    -- The marks are taken back.
    module _ (again : List ℕ) (retold : (a : ℕ) → In a again ↔ IsTakenInside {A = A} {M = M} atom u g m a) (w : Heap) (f : w ≡ own_marked 0 again u) where
      -- what is left is the heap without marks
      pub last_is : w ≡ r
      last_is = marked_more r r_unmarked v u c.is again 0 w f ∙ painted_none own_place r (all_at again 0 v) (λ a. elim (decide_in a again) [
        | inl i ↦ in_all again 0 v a i
        | inr n ↦ off_all again 0 v a n ∙ off_mark a (λ i. n ((retold a).1 (taken_again a ((told a).0 i))))
      ])

  -- the rest besides registers is the one that is told by marks
  module _ (out : List M) (same_out : out ≡ g.membranes) where
    abbrev left_atom : ℕ → Bool
    left_atom a = own_mark t a == 0

    abbrev left_membrane : ℕ → Bool
    left_membrane n = not (is_in (map membrane out) n)

    -- The rest besides the registers is left by the marks.
    pub beside_left : (atoms membranes : List ℕ) → IsRestBeside atom membrane s g m atoms membranes → IsLeft t m (map membrane out) atoms membranes
    beside_left atoms membranes w =
        let same : (a : ℕ) → In a (atoms_in s m) → w.0 a ≡ left_atom a = λ a i.
        test_same (w.0 a) (left_atom a) (λ l. (marks_tell a i).1 ((w.1 a i).0 l)) (λ l. (w.1 a i).1 ((marks_tell a i).0 l)) in
        let roots : keep (λ n. not (is_in (map membrane g.membranes) n)) (mems_in s m) ≡ keep left_membrane (mems_in t m) =
        ap (λ ms. keep (λ n. not (is_in (map membrane ms) n)) (mems_in s m)) (sym same_out) ∙ ap (keep left_membrane) (sym (lists_painted m).1) in
        record {
          forest = w.2.forest;
          forms = subst (Forms t w.2.forest) roots (forms_frame s t w.2.forest (keep (λ n. not (is_in (map membrane g.membranes) n)) (mems_in s m)) (λ n i. (lists_painted n).1) w.2.forms);
          preorder = w.2.preorder;
          once = w.2.once;
          outside = w.2.outside;
          in_order = w.2.in_order ∙ ap (λ zs. zs ++ atoms_of_all s membranes) (keep_same w.0 left_atom (atoms_in s m) same) ∙ ap (λ zs. keep left_atom zs ++ atoms_of_all s membranes) (sym (lists_painted m).0) ∙ ap (λ zs. keep left_atom (atoms_in t m) ++ zs) (all_painted membranes);
        }

    -- there is one such rest
    one_left : (xs ms ys ns : List ℕ) → IsLeft t m (map membrane out) xs ms → IsLeft t m (map membrane out) ys ns → ys ≡ xs
    one_left xs ms ys ns a b =
        let f = forms_one t b.forest a.forest (keep left_membrane (mems_in t m)) b.forms a.forms in
        let membranes : ns ≡ ms = b.preorder ∙ (ap flat f ∙ sym a.preorder) in
        b.in_order ∙ (ap (λ zs. keep left_atom (atoms_in t m) ++ atoms_of_all t zs) membranes ∙ sym a.in_order)

    -- its atoms aren't marked
    pub asked_unmatched : (atoms membranes : List ℕ) → IsLeft t m (map membrane out) atoms membranes → (a : ℕ) → In a atoms → own_mark t a ≡ 0
    asked_unmatched atoms membranes r a i = elim (in_either a (keep left_atom (atoms_in t m)) (atoms_of_all t membranes) (subst (In a) r.in_order i)) [
      | inl k ↦ (Decides-eqb (own_mark t a) 0).0 (kept_has left_atom (atoms_in t m) a k)
      | inr k ↦ (
          let w = all_in t membranes a k in
          let there : In a (atoms_in s w.0) = subst (In a) (lists_painted w.0).0 w.2 in
          own_is a (atom_listed w.0 a there) ∙ off_mark a (λ j.
          let home : Some m ≡ Some w.0 = sym (at_home a j) ∙ home_listed w.0 a there in
          let same : m ≡ w.0 = cc in
          r.outside (subst (λ n. In n membranes) (sym same) w.1)))
    ]

    module _ (closed : HasClosedRest atom membrane s g m) where
      left : IsLeft t m (map membrane out) closed.0 closed.1
      left = beside_left closed.0 closed.1 closed.2

      -- There is a rest.
      pub asked_rest : (atoms membranes : List ℕ) × IsLeft t m (map membrane out) atoms membranes
      asked_rest = (closed.0, closed.1, left)

      -- and no link leaves it
      pub asked_closed : (atoms membranes : List ℕ) → IsLeft t m (map membrane out) atoms membranes → NoneLeaves t atoms
      asked_closed atoms membranes r = subst (NoneLeaves t) (sym (one_left closed.0 closed.1 atoms membranes left r)) (λ a i b j k q. closed.3 a i b j k (sym (link_same s z v t is_painted a i) ∙ q))

      new_atom : (y : ℕ) → t.atoms y ≡ None → s.atoms y ≡ None
      new_atom y q = by (v y) (s.atoms y) (sym (ap (λ (h : Heap). h.atoms y) is_painted) ∙ q)
        where
          by : (w : ℕ) (o : Option HeapAtom) → paint_at own_place w o ≡ None → o ≡ None
          by zero o f = f
          by (suc w) None f = refl
          by (suc w) (Some x) f = absurd (cc)

      new_mark : (ys : List ℕ) → AreNew t ys → (y : ℕ) → In y ys → v y ≡ 0
      new_mark ys n y i = off_mark y (λ j. none_there (s.atoms y) (marked_atom y j) (new_atom y (n.1 y i)))

      rest_of_s : (u : Heap) (xs ms ys : List ℕ) (rooms : List (ℕ × ℕ)) → RestCopied t u xs ms ys rooms → RestCopied s (rest_copied s xs rooms ys) xs ms ys rooms
      rest_of_s u xs ms ys rooms c = record {
        new_atoms = (c.new_atoms.0, λ y i. new_atom y (c.new_atoms.1 y i));
        new_membranes = (c.new_membranes.0, λ n i. ap (λ (h : Heap). h.mems n) (sym is_painted) ∙ c.new_membranes.1 n i);
        long = c.long;
        roomy = rooms_for ms rooms c.roomy;
        is = refl;
      }
        where
          rooms_for : (ms : List ℕ) (es : List (ℕ × ℕ)) → AreRoomsFor t ms es → AreRoomsFor s ms es
          rooms_for [] es w = w
          rooms_for (n ∷ ms) [] w = w
          rooms_for (n ∷ ms) (e' ∷ es) w = (subst (λ (h : Heap). length (rules_in h n) ≤ e'.1) is_painted w.0, rooms_for ms es w.1)

      ok_copies : (u : Heap) (xs ms ys : List ℕ) (rooms : List (ℕ × ℕ)) → IsRestBeside atom membrane s g m xs ms → NoneLeaves s xs → RestCopied t u xs ms ys rooms → GoesOn u (rest_copied s xs rooms ys)
      ok_copies u xs ms ys rooms w stays c =
          let d = rest_of_s u xs ms ys rooms c in
          let there = rest_atom s sound.listed m w.0 (λ n. not (is_in (map membrane g.membranes) n)) xs ms w.2 in
          let once : Distinct xs = atoms_once s sound m w.0 (λ n. not (is_in (map membrane g.membranes) n)) xs ms w.2 in
          record {
            is = c.is ∙ ap (λ (h : Heap). rest_copied h xs rooms ys) is_painted ∙ copied_own s v xs ys rooms (new_mark ys c.new_atoms);
            makes = makes_rest s (rest_copied s xs rooms ys) xs ms ys rooms d sound.paired sound.shaped there once stays;
            keeps = rest_keeps_mem s (rest_copied s xs rooms ys) xs ms ys rooms d sound.paired sound.shaped there once stays;
          }

      err_copies : (u : Heap) (xs : List ℕ) (c : RestRemains t u xs) → GoesOn u (made_like (made_roomy s c.rooms) xs c.copies)
      err_copies u xs c =
          let r = made_like (made_roomy s c.rooms) xs c.copies in
          let d : RestRemains s r xs = record {
            copies = c.copies;
            rooms = c.rooms;
            new_atoms = (c.new_atoms.0, λ y i. new_atom y (c.new_atoms.1 y i));
            new_membranes = (c.new_membranes.0, λ n i. ap (λ (h : Heap). h.mems n) (sym is_painted) ∙ c.new_membranes.1 n i);
            is = refl;
          } in
          record {
            is = c.is ∙ ap (λ (h : Heap). made_like (made_roomy h c.rooms) xs c.copies) is_painted ∙ ap (λ (h : Heap). made_like h xs c.copies) (roomy_own s v c.rooms) ∙ made_own (made_roomy s c.rooms) v xs c.copies (new_mark c.copies c.new_atoms);
            makes = makes_remains s r xs d;
            keeps = remains_keeps_mem s r xs d;
          }

      -- What a call leaves that copies it, as it is seen from the heap without marks.
      module _ {T E : Type 0} (result : Result T E) (u : Heap)
          (ok : OnOk result ((atoms membranes : List ℕ) → IsLeft t m (map membrane out) atoms membranes → (copies : List ℕ) × (rooms : List (ℕ × ℕ)) × RestCopied t u atoms membranes copies rooms))
          (err : OnErr result ((atoms membranes : List ℕ) → IsLeft t m (map membrane out) atoms membranes → RestRemains t u atoms)) where
        -- the heap without marks
        pub seen : (r : Heap) × GoesOn u r
        seen = by result ok err
          where
            by : (q : Result T E) → OnOk q ((atoms membranes : List ℕ) → IsLeft t m (map membrane out) atoms membranes → (copies : List ℕ) × (rooms : List (ℕ × ℕ)) × RestCopied t u atoms membranes copies rooms)
                → OnErr q ((atoms membranes : List ℕ) → IsLeft t m (map membrane out) atoms membranes → RestRemains t u atoms) → (r : Heap) × GoesOn u r
            by (Ok x) f n = (let w = f closed.0 closed.1 left in (rest_copied s closed.0 w.1 w.0, ok_copies u closed.0 closed.1 w.0 w.1 closed.2 closed.3 w.2))
            by (Err x) f n = (let w = n closed.0 closed.1 left in (made_like (made_roomy s w.rooms) closed.0 w.copies, err_copies u closed.0 w))

        -- The marks are taken back.
        module _ (again : List ℕ) (retold : (a : ℕ) → In a again ↔ IsTakenInside {A = A} {M = M} atom u g m a) (w : Heap) (f : w ≡ own_marked 0 again u) where
          -- It only makes,
          pub last_makes : OnlyMakes s w
          last_makes = subst (OnlyMakes s) (sym (last_is u seen.0 seen.1 again retold w f)) seen.1.makes

          module _ (given : (atoms membranes : List ℕ) → IsLeft t m (map membrane out) atoms membranes → (copies : List ℕ) × (rooms : List (ℕ × ℕ)) × RestCopied t u atoms membranes copies rooms) where
            copied_now : (atoms membranes : List ℕ) → IsRestBeside atom membrane s g m atoms membranes → (copies : List ℕ) × (rooms : List (ℕ × ℕ)) × RestCopied s w atoms membranes copies rooms
            copied_now atoms membranes b =
                let there = beside_left atoms membranes b in
                let q = given atoms membranes there in
                let stays : NoneLeaves s atoms = subst (NoneLeaves s) (sym (one_left closed.0 closed.1 atoms membranes left there)) closed.3 in
                let c = ok_copies u atoms membranes q.0 q.1 b stays q.2 in
                (q.0, q.1, subst (λ (h : Heap). RestCopied s h atoms membranes q.0 q.1) (sym (last_is u (rest_copied s atoms q.1 q.0) c again retold w f)) (rest_of_s u atoms membranes q.0 q.1 q.2))

            rest_now : RestIsMade atom membrane s w g m
            rest_now =
                let q = copied_now closed.0 closed.1 closed.2 in
                let there = rest_atom s sound.listed m closed.2.0 (λ n. not (is_in (map membrane g.membranes) n)) closed.0 closed.1 closed.2.2 in
                let once : Distinct closed.0 = atoms_once s sound m closed.2.0 (λ n. not (is_in (map membrane g.membranes) n)) closed.0 closed.1 closed.2.2 in
                record {
                  copied = copied_now;
                  there = rest_keeps_mem s w closed.0 closed.1 q.0 q.1 q.2 sound.paired sound.shaped there once closed.3;
                  rules = rest_keeps_rules s w closed.0 closed.1 q.0 q.1 q.2 sound.paired sound.shaped there once closed.3;
                  room = rest_keeps_room s w closed.0 closed.1 q.0 q.1 q.2 sound.paired sound.shaped there once closed.3;
                }

          -- and where it succeeds the rest is copied.
          pub last_copied : OnOk result (RestIsMade atom membrane s w g m)
          last_copied = on_ok_weaker result rest_now ok

-- no mark is set
pub first_marked : (s : Heap) → Unmarked s → HasOwnMarks s
first_marked s z = (s, none, z, sym (painted_none own_place s none (λ a. refl)))

-- parts that can be copied are whole
pub first_parts : {A M : Type 0} (atom : A → ℕ) (s : Heap) (g : SetRegisters A M) → CanCopy {A = A} {M = M} atom s g → AreWholeParts atom s g.parts
first_parts atom s g can = λ k p e. (let c = can k p e in (c.atom, c.port, c.whole))
