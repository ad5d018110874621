-- What a body makes can be made, with room for its rules.
use Rattle.std.proofs.Common.{ℕ, ◌≡◌, ◌≢◌, ◌⊎◌, ◌+◌, ◌<◌, ◌≤◌, ◌==◌, Bool, true, false, cond, List, [], ◌∷◌, ◌++◌, length, map, Option, Some, None, IsSome, refl, sym, ap, subst, ◌∙◌, inl, inr, arith}
use Rattle.std.specs.Option.{option_map}
use Rattle.std.proofs.lemmas.Bool.{cases_eq, eqb-true}
use Rattle.lmn_base.specs.declared.functor.Functor.{Functor}
use Rattle.lmn_store_heap.specs.Heap.{Heap, HeapMem, IsMem, alter, made_atom, made_mem, mem_with_spare, new_atom, new_mem, partners_of, reserved, spare_by, spare_of}
use Rattle.lmn_solid_bodies.specs.declared.items.BodyItem.{BodyItem}
use Rattle.lmn_solid_bodies.specs.declared.items.BodyItem.TheVariants.{Atom, Connector, Copy, Bound, Membrane, Rest, Rule, Rules}
use Rattle.lmn_solid_bodies.specs.Added.{if_inside, named_rules}
use Rattle.lmn_solid_bodies.specs.Code.{making}
use Rattle.lmn_solid_bodies.specs.Made.{copies_of}
use Rattle.lmn_solid_bodies.specs.Rules.{StandsIn, WellPlaced, closed_rests}
use Rattle.lmn_solid_bodies.specs.Running.{Registers, IsCopied, Prepares, integer_functor}
use Rattle.lmn_instr_code.specs.Running.{HeadRegisters}
use Rattle.lmn_congruence_splice.specs.Splice as splice
use Rattle.lmn_store_heap.specs.Sound.{Sound}
use Rattle.lmn_store_heap.proofs.Calls.{keeps_sound}
use Rattle.lmn_store_heap.proofs.ListLemmas.{in_left, in_right}
use Rattle.lmn_adequacy_heaps.proofs.Runs.{in_run}
use Rattle.lmn_machine_commit.specs.Preparing.{CanBeCopied}
use Rattle.lmn_ground_parts.specs.Copies.{AllAtoms}
use Rattle.lmn_ground_parts.specs.Rests.{NoneLeaves, RestCopied}
use Rattle.lmn_solid_bodies.proofs.Brought.{Brings, Old, brings_atom, brings_copied, link_at, old_on, reached_into}
use Rattle.lmn_solid_bodies.proofs.MemsMade.{MemsMade, made_one_mem, reserved_mems}
use Rattle.lmn_solid_bodies.proofs.RestMems.{rest_listed, rest_mems}
use Rattle.lmn_solid_bodies.proofs.RestsMade.{IsClosed, brings_rest}
use Rattle.lmn_solid_bodies.proofs.Rooms.{spare_after}
use Rattle.lmn_adequacy_choices.proofs.RestCopying.{copied_rest, copies as rest_copies, rest_has_copy, room_numbers, rooms as rest_rooms}
use Rattle.lmn_adequacy_choices.proofs.Copying.{AreThese, HasCopy, copy_exists}
use Rattle.lmn_adequacy_choices.proofs.Runs.{Bounded}
use Rattle.lmn_base.specs.Graphs.{Port}
use Rattle.lmn_store_heap.proofs.Common.{decide_in}
use Rattle.lmn_store_heap.proofs.Listing.{alter_at as altered_at, alter_away as altered_away}
use Rattle.lmn_base.specs.Lists.{In}

pub some_kept : (o : Option HeapMem) (n : ℕ) → IsSome o → IsSome (option_map (mem_with_spare n) o)
some_kept None n i = absurd (cc)
some_kept (Some x) n i = refl

has_room : (o : Option HeapMem) (n : ℕ) → IsSome o → spare_by (option_map (mem_with_spare n) o) ≡ n
has_room None n i = absurd (cc)
has_room (Some x) n i = refl

none_mapped : (o : Option HeapMem) (n : ℕ) → o ≡ None → option_map (mem_with_spare n) o ≡ None
none_mapped None n e = refl
none_mapped (Some x) n e = absurd (cc)

not_there : (o : Option HeapMem) → (IsSome o → ⊥) → o ≡ None
not_there None f = refl
not_there (Some x) f = absurd (f refl)

none_some : (o : Option HeapMem) → o ≡ None → IsSome o → ⊥
none_some o e i = let z : IsSome {T = HeapMem} None = subst (λ (p : Option HeapMem). IsSome p) e i in cc

module _ (registers : HeadRegisters) (copy0 : ℕ → Port) (copied0 left left_mems : ℕ → List ℕ) (h : Heap) (sound_h : Sound h) (N K : ℕ) (D : ℕ → ℕ) (number : ℕ → ℕ)
    (atoms_apart : (i j : ℕ) → N ≤ i → N ≤ j → registers.images.atom i ≡ registers.images.atom j → i ≡ j)
    (mems_apart : (i j : ℕ) → K < i → K < j → registers.images.membrane i ≡ registers.images.membrane j → i ≡ j)
    (numbers_apart : (i j : ℕ) → number i ≡ number j → i ≡ j) (both_apart : (j i : ℕ) → N ≤ j → registers.images.atom j ≢ number i)
    (mems_both_apart : (j i : ℕ) → K < j → registers.images.membrane j ≢ number i) where
  abbrev r : Registers
  r = record { head = registers; copy = copy0; copied = copied0; left_atoms = left; left_membranes = left_mems }

  abbrev atom : ℕ → ℕ
  atom = registers.images.atom

  abbrev mem : ℕ → ℕ
  mem = registers.images.membrane

  -- The registers from a and m on hold numbers that name nothing, so do the numbers of copies from q on; below m they hold
  -- membranes. All atoms stand in a list, and those of the heap before are as they were.
  pub record Ready (a m q : ℕ) (s : Heap) : Type 0 where
    pub atoms : (j : ℕ) → a ≤ j → s.atoms (atom j) ≡ None
    pub numbers : (j : ℕ) → q ≤ j → s.atoms (number j) ≡ None
    pub mem_numbers : (j : ℕ) → q ≤ j → s.mems (number j) ≡ None
    pub mems : (j : ℕ) → m ≤ j → s.mems (mem j) ≡ None
    pub there : (j : ℕ) → j < m → IsMem s (mem j)
    pub all : List ℕ
    pub bounded : Bounded s all
    pub sound : Sound s
    pub old : Old h s

  -- a part of the heap before can be copied when more is made
  still_copied : (s : Heap) → Old h s → (root : Port) → CanBeCopied h root → CanBeCopied s root
  still_copied s old root can =
      let before = reached_into h s root sound_h.paired can.atom (λ p i. ap (λ o. link_at o p.1) (old p.0 i)) in
      record {
        atom = subst (λ o. IsSome o) (sym (old root.0 can.atom)) can.atom;
        port = subst (λ o. root.1 < length (partners_of o)) (sym (old root.0 can.atom)) can.port;
        whole = record {
          atoms = λ a w. tt;
          ends = λ a i w l d.
              let b = before a w in
              subst (λ o. IsSome (link_at o i)) (sym (old a b.0)) (can.whole.ends a i b.1 (subst (λ o. i < length (partners_of o)) (old a b.0) l) d);
        };
        outside = λ b j w e. can.outside b j (before b w).1 (ap (λ o. link_at o root.1) (sym (old root.0 can.atom)) ∙ e);
      }

  made_atom_ready : (a m q : ℕ) (s : Heap) (f : Functor) → N ≤ a → Ready a m q s → Ready (a + 1) m q (made_atom s (atom a) f)
  made_atom_ready a m q s f l w = record {
    atoms = λ j k. altered_away s.atoms (atom a) (λ _. Some (new_atom f)) (atom j) (λ e. let z = atoms_apart j a (omega (arith, l, k)) l e in omega (arith, z, k)) ∙ w.atoms j (omega (arith, k));
    numbers = λ j k. altered_away s.atoms (atom a) (λ _. Some (new_atom f)) (number j) (λ e. both_apart a j l (sym e)) ∙ w.numbers j k;
    mem_numbers = w.mem_numbers;
    mems = w.mems;
    there = w.there;
    all = atom a ∷ w.all;
    bounded = λ b i. elim (cases_eq b (atom a)) [
      | inl e ↦ inl (sym e)
      | inr d ↦ inr (w.bounded b (subst (λ o. IsSome o) (altered_away s.atoms (atom a) (λ _. Some (new_atom f)) b d) i))
    ];
    sound = (keeps_sound s w.sound).make_atom (atom a) f (w.atoms a (omega arith));
    old = old_on h w.old (brings_atom s (atom a) f (w.atoms a (omega arith)));
  }

  made_mem_ready : (a m q : ℕ) (s : Heap) → K < m → Ready a m q s → Ready a (m + 1) q (made_mem s (mem m))
  made_mem_ready a m q s l w = record {
    atoms = w.atoms;
    numbers = w.numbers;
    mem_numbers = λ j k. altered_away s.mems (mem m) (λ _. Some new_mem) (number j) (λ e. mems_both_apart m j l (sym e)) ∙ w.mem_numbers j k;
    mems = λ j k. altered_away s.mems (mem m) (λ _. Some new_mem) (mem j) (λ e. let z = mems_apart j m (omega (arith, l, k)) l e in omega (arith, z, k)) ∙ w.mems j (omega (arith, k));
    there = λ j k. elim (cases_eq (mem j) (mem m)) [
      | inl e ↦ subst (λ z. IsSome (alter s.mems (mem m) (λ _. Some new_mem) z)) (sym e) (subst (λ o. IsSome o) (sym (altered_at s.mems (mem m) (λ _. Some new_mem))) refl)
      | inr d ↦ subst (λ o. IsSome o) (sym (altered_away s.mems (mem m) (λ _. Some new_mem) (mem j) d)) (w.there j (less j k (λ e. d (ap mem e))))
    ];
    all = w.all;
    bounded = w.bounded;
    sound = (keeps_sound s w.sound).make_mem (mem m) (w.mems m (omega arith));
    old = w.old;
  }
    where
      less : (j : ℕ) → j < m + 1 → j ≢ m → j < m
      less j k d = elim (cases_eq j m) [ inl e ↦ absurd (d e) | inr e ↦ grind arith ]

  reserved_ready : (a m q : ℕ) (s : Heap) (x n : ℕ) → Ready a m q s → Ready a m q (reserved s x n)
  reserved_ready a m q s x n w = record {
    atoms = w.atoms;
    numbers = w.numbers;
    mem_numbers = λ j k. still_none (number j) (w.mem_numbers j k);
    mems = λ j k. still_none (mem j) (w.mems j k);
    there = λ j k. elim (cases_eq (mem j) x) [
      | inl e ↦ subst (λ z. IsSome (alter s.mems x (option_map (mem_with_spare n)) z)) (sym e) (subst (λ o. IsSome o) (sym (altered_at s.mems x (option_map (mem_with_spare n)))) (some_kept (s.mems x) n (subst (IsMem s) e (w.there j k))))
      | inr d ↦ subst (λ o. IsSome o) (sym (altered_away s.mems x (option_map (mem_with_spare n)) (mem j) d)) (w.there j k)
    ];
    all = w.all;
    bounded = w.bounded;
    sound = (keeps_sound s w.sound).reserve_rules x n;
    old = w.old;
  }
    where
      still_none : (y : ℕ) → s.mems y ≡ None → (reserved s x n).mems y ≡ None
      still_none y none = elim (cases_eq y x) [
        | inl e ↦ subst (λ z. alter s.mems x (option_map (mem_with_spare n)) z ≡ None) (sym e) (altered_at s.mems x (option_map (mem_with_spare n)) ∙ none_mapped (s.mems x) n (ap s.mems (sym e) ∙ none))
        | inr d ↦ altered_away s.mems x (option_map (mem_with_spare n)) y d ∙ none
      ]

  copied_ready : (a m q : ℕ) (s : Heap) (root : Port) → N ≤ a → Ready a m q s → (k : HasCopy s root number q) → Ready a m (q + k.many) k.heap
  copied_ready a m q s root l w k =
      let ys = k.is.copies in
      let beside = k.is.beside in
      let is_number : (b : ℕ) → In b ys → (i : ℕ) × (i < k.many) × (number (q + i) ≡ b) = λ b i. in_run number q k.many b (subst (λ z. In b z) k.atoms i) in
      record {
        atoms = λ j o. beside.kept (atom j) (λ i. let u = is_number (atom j) i in both_apart j (q + u.0) (omega (arith, l, o)) (sym u.2)) ∙ w.atoms j o;
        numbers = λ j o. beside.kept (number j) (λ i. let u = is_number (number j) i in let e = numbers_apart (q + u.0) j u.2 in let u1 = u.1 in omega (arith, e, u1, o)) ∙ w.numbers j (omega (arith, o));
        mem_numbers = λ j o. ap (λ f. f (number j)) beside.mems ∙ w.mem_numbers j (omega (arith, o));
        mems = λ j o. ap (λ f. f (mem j)) beside.mems ∙ w.mems j o;
        there = λ j o. subst (λ z. IsSome z) (sym (ap (λ f. f (mem j)) beside.mems)) (w.there j o);
        all = ys ++ w.all;
        bounded = λ b i. elim (decide_in b ys) [
          | inl z ↦ in_left b ys w.all z
          | inr o ↦ in_right b ys w.all (w.bounded b (subst (λ z. IsSome z) (beside.kept b o) i))
        ];
        sound = k.sound;
        old = old_on h w.old (brings_copied s k.heap root k.new_root k.is);
      }

  -- what is left in a head membrane is copied, and its atoms and membranes get numbers from q on
  module _ (a m q : ℕ) (s : Heap) (of : ℕ) (la : N ≤ a) (lm : K < m) (closed : IsClosed h (left of)) (w : Ready a m q s) where
    abbrev ys : List ℕ
    ys = rest_copies s (left of) (left_mems of) number q numbers_apart w.numbers w.mem_numbers

    abbrev rooms : List (ℕ × ℕ)
    rooms = rest_rooms s (left of) (left_mems of) number q numbers_apart w.numbers w.mem_numbers

    abbrev with_rest : Heap
    with_rest = copied_rest s (left of) (left_mems of) number q numbers_apart w.numbers w.mem_numbers

    abbrev after_rest : ℕ
    after_rest = q + (length (left of) + length (left_mems of))

    is_copied : RestCopied s with_rest (left of) (left_mems of) ys rooms
    is_copied = rest_has_copy s (left of) (left_mems of) number q numbers_apart w.numbers w.mem_numbers

    there_now : AllAtoms s (left of)
    there_now x i = subst (λ o. IsSome o) (sym (w.old x (closed.there x i))) (closed.there x i)

    stays_now : NoneLeaves s (left of)
    stays_now x i b j k e = closed.stays x i b j k (sym (ap (λ o. link_at o i) (w.old x (closed.there x k))) ∙ e)

    brings : Brings s with_rest ys
    brings = brings_rest s with_rest (left of) (left_mems of) ys rooms is_copied w.sound.paired w.sound.shaped there_now closed.once stays_now

    made_mems : MemsMade s with_rest (map (λ (e : ℕ × ℕ). e.0) rooms)
    made_mems = rest_mems s with_rest (left of) (left_mems of) ys rooms is_copied

    atom_number : (b : ℕ) → In b ys → (i : ℕ) × (i < length (left of)) × (number (q + i) ≡ b)
    atom_number b i = in_run number q (length (left of)) b i

    mem_number : (x : ℕ) → In x (map (λ (e : ℕ × ℕ). e.0) rooms) → (i : ℕ) × (i < length (left_mems of)) × (number (q + i) ≡ x)
    mem_number x i = in_run number q (length (left_mems of)) x (subst (λ zs. In x zs) (room_numbers s number q (left_mems of)) i)

    still_no_mem : (x : ℕ) → s.mems x ≡ None → ((i : ℕ) → i < length (left_mems of) → number (q + i) ≡ x → ⊥) → with_rest.mems x ≡ None
    still_no_mem x none other = not_there (with_rest.mems x) (λ i. elim (made_mems.only x i) [
      | inl k ↦ none_some (s.mems x) none k
      | inr k ↦ (let u = mem_number x k in other u.0 u.1 u.2)
    ])

    rest_ready : Ready a m after_rest with_rest
    rest_ready = record {
      atoms = λ j o. brings.others (atom j) (λ i. let u = atom_number (atom j) i in both_apart j (q + u.0) (omega (arith, la, o)) (sym u.2)) ∙ w.atoms j o;
      numbers = λ j o. brings.others (number j) (λ i. let u = atom_number (number j) i in let e = numbers_apart (q + u.0) j u.2 in let u1 = u.1 in omega (arith, e, u1, o)) ∙ w.numbers j (omega (arith, o));
      mem_numbers = λ j o. still_no_mem (number j) (w.mem_numbers j (omega (arith, o))) (λ i l e. let d = numbers_apart (q + i) j e in omega (arith, d, l, o));
      mems = λ j o. still_no_mem (mem j) (w.mems j o) (λ i l e. mems_both_apart j (q + i) (omega (arith, lm, o)) (sym e));
      there = λ j o. made_mems.there (mem j) (w.there j o);
      all = ys ++ w.all;
      bounded = λ b i. elim (decide_in b ys) [
        | inl z ↦ in_left b ys w.all z
        | inr o ↦ in_right b ys w.all (w.bounded b (subst (λ z. IsSome z) (brings.others b o) i))
      ];
      sound = record {
        paired = brings.paired w.sound.paired;
        listed = rest_listed s with_rest (left of) (left_mems of) ys rooms is_copied w.sound.listed;
        shaped = brings.shaped w.sound.shaped;
      };
      old = old_on h w.old brings;
    }

    -- room of a membrane that was there stays
    rest_keeps_room : (x : ℕ) → IsMem s x → spare_of with_rest x ≡ spare_of s x
    rest_keeps_room x i = spare_after r a m 0 (Rest of true 0 ∷ []) s with_rest (with_rest, (ys, rooms, is_copied), refl) x i (λ k. absurd k)

  -- room of a membrane that is made, or reserved for
  made_room : (s : Heap) (m y : ℕ) → s.mems (mem m) ≡ None → spare_of (made_mem s (mem m)) y ≡ spare_of s y
  made_room s m y e = elim (cases_eq y (mem m)) [
    | inl q ↦ subst (λ z. spare_of (made_mem s (mem m)) z ≡ spare_of s z) (sym q) (ap spare_by (altered_at s.mems (mem m) (λ _. Some new_mem)) ∙ sym (ap spare_by e))
    | inr d ↦ ap spare_by (altered_away s.mems (mem m) (λ _. Some new_mem) y d)
  ]

  reserved_there : (s : Heap) (x n : ℕ) → IsMem s x → spare_of (reserved s x n) x ≡ n
  reserved_there s x n i = ap spare_by (altered_at s.mems x (option_map (mem_with_spare n))) ∙ has_room (s.mems x) n i

  reserved_away : (s : Heap) (x n y : ℕ) → y ≢ x → spare_of (reserved s x n) y ≡ spare_of s y
  reserved_away s x n y d = ap spare_by (altered_away s.mems x (option_map (mem_with_spare n)) y d)

  -- The items of a body are made.
  --   keeps    a membrane that was there has the room that it had, or all that it needs
  --   enough   one that gets a rule has all that it needs
  pub record AreMade (rules : ℕ → List ℕ) (a m c : ℕ) (body : List BodyItem) (s : Heap) : Type 0 where
    pub heap : Heap
    pub made : List (Port × List ℕ)
    pub prepares : (copy : ℕ → Port) (copied : ℕ → List ℕ) → AreThese made copy copied c → Prepares (record { head = registers; copy = copy; copied = copied; left_atoms = left; left_membranes = left_mems }) (making a m c body) s heap
    pub all : List ℕ
    pub bounded : Bounded heap all
    pub keeps : (x : ℕ) → IsMem s x → (spare_of heap x ≡ D x) ⊎ (spare_of heap x ≡ spare_of s x)
    pub enough : (x : ℕ) → length (named_rules r rules body x) ≢ 0 → spare_of heap x ≡ D x

  below_next : (m inside : ℕ) → K < m → StandsIn K m inside → inside < m
  below_next m inside l (inl e) = omega (arith, l, e)
  below_next m inside l (inr w) = w.1

  still_mem : (s : Heap) (y n x : ℕ) → IsMem s x → IsMem (reserved s y n) x
  still_mem s y n x i = (reserved_mems s y n).there x i

  -- one item more that reserves room in membrane x
  room_enough : (rules : ℕ → List ℕ) (inside : ℕ) (ns : List ℕ) (a m c : ℕ) (xs : List BodyItem) (s : Heap) → IsMem s (mem inside) → (w : AreMade rules a m c xs (reserved s (mem inside) (D (mem inside)))) →
      (x : ℕ) → length (if_inside r x inside ns ++ named_rules r rules xs x) ≢ 0 → spare_of w.heap x ≡ D x
  room_enough rules inside ns a m c xs s i w x o = by (mem inside == x) refl o
    where
      by : (t : Bool) → (mem inside == x) ≡ t → length (cond t ns [] ++ named_rules r rules xs x) ≢ 0 → spare_of w.heap x ≡ D x
      by true e o =
          let same = eqb-true (mem inside) x e in
          elim (w.keeps x (still_mem s (mem inside) (D (mem inside)) x (subst (IsMem s) same i))) [
            | inl k ↦ k
            | inr k ↦ k ∙ subst (λ z. spare_of (reserved s (mem inside) (D (mem inside))) z ≡ D z) same (reserved_there s (mem inside) (D (mem inside)) i)
          ]
      by false e o = w.enough x o

  room_keeps : (rules : ℕ → List ℕ) (inside : ℕ) (a m c : ℕ) (xs : List BodyItem) (s : Heap) → IsMem s (mem inside) → (w : AreMade rules a m c xs (reserved s (mem inside) (D (mem inside)))) →
      (x : ℕ) → IsMem s x → (spare_of w.heap x ≡ D x) ⊎ (spare_of w.heap x ≡ spare_of s x)
  room_keeps rules inside a m c xs s i w x there = elim (w.keeps x (still_mem s (mem inside) (D (mem inside)) x there)) [
    | inl k ↦ inl k
    | inr k ↦ elim (cases_eq x (mem inside)) [
      | inl e ↦ inl (k ∙ subst (λ z. spare_of (reserved s (mem inside) (D (mem inside))) z ≡ D z) (sym e) (reserved_there s (mem inside) (D (mem inside)) i))
      | inr d ↦ inr (k ∙ reserved_away s (mem inside) (D (mem inside)) x d)
    ]
  ]

  pub all_made : (rules : ℕ → List ℕ) (body : List BodyItem) (a m c q : ℕ) → ((e : ℕ × ℕ) → splice.IsOneOf e (copies_of c body) → CanBeCopied h (registers.images.part e.1)) → ((of : ℕ) → splice.IsOneOf of (closed_rests body) → IsClosed h (left of)) → WellPlaced K m body → N ≤ a → K < m → (s : Heap) → Ready a m q s → AreMade rules a m c body s
  all_made rules [] a m c q n o p la lm s w = record { heap = s; made = []; prepares = λ copy copied t. refl; all = w.all; bounded = w.bounded; keeps = λ x i. inr refl; enough = λ x d. absurd (d refl) }
  all_made rules (Atom functor links inside ∷ xs) a m c q n o p la lm s w =
      let t = made_atom s (atom a) functor in
      let u = all_made rules xs (a + 1) m c q n o p.1 (omega (arith, la)) lm t (made_atom_ready a m q s functor la w) in
      record { heap = u.heap; made = u.made; prepares = λ copy copied z. (t, (w.atoms a (omega arith), refl), u.prepares copy copied z); all = u.all; bounded = u.bounded; keeps = u.keeps; enough = u.enough }
  all_made rules (Connector left right ∷ xs) a m c q n o p la lm s w =
      let u = all_made rules xs a m c q n o p la lm s w in
      record { heap = u.heap; made = u.made; prepares = u.prepares; all = u.all; bounded = u.bounded; keeps = u.keeps; enough = u.enough }
  all_made rules (Copy part link inside ∷ xs) a m c q n o p la lm s w =
      let root = registers.images.part part in
      let k = copy_exists s w.sound w.all w.bounded root (still_copied s w.old root (n (c, part) (inl refl))) number q numbers_apart w.numbers in
      let u = all_made rules xs a m (c + 1) (q + k.many) (λ e i. n e (inr i)) o p.1 la lm k.heap (copied_ready a m q s root la w k) in
      record {
        heap = u.heap;
        made = (k.new_root, k.is.copies) ∷ u.made;
        prepares = λ copy copied z. (k.heap, subst (λ y. IsCopied s root y (copied c) k.heap) (sym z.0) (k.is, sym z.1), u.prepares copy copied z.2);
        all = u.all;
        bounded = u.bounded;
        keeps = λ x i. elim (u.keeps x (subst (λ f. IsSome (f x)) (sym k.is.beside.mems) i)) [ inl e ↦ inl e | inr e ↦ inr (e ∙ ap (λ f. spare_by (f x)) k.is.beside.mems) ];
        enough = u.enough;
      }
  all_made rules (Bound integer link inside ∷ xs) a m c q n o p la lm s w =
      let f = integer_functor (registers.integer integer) in
      let t = made_atom s (atom a) f in
      let u = all_made rules xs (a + 1) m c q n o p.1 (omega (arith, la)) lm t (made_atom_ready a m q s f la w) in
      record { heap = u.heap; made = u.made; prepares = λ copy copied z. (t, (w.atoms a (omega arith), refl), u.prepares copy copied z); all = u.all; bounded = u.bounded; keeps = u.keeps; enough = u.enough }
  all_made rules (Membrane inside ∷ xs) a m c q n o p la lm s w =
      let t = made_mem s (mem m) in
      let u = all_made rules xs a (m + 1) c q n o p.1 la (omega (arith, lm)) t (made_mem_ready a m q s lm w) in
      record {
        heap = u.heap;
        made = u.made;
        prepares = λ copy copied z. (t, (w.mems m (omega arith), refl), u.prepares copy copied z);
        all = u.all;
        bounded = u.bounded;
        keeps = λ x i. elim (u.keeps x ((made_one_mem s (mem m) (w.mems m (omega arith))).there x i)) [ inl k ↦ inl k | inr k ↦ inr (k ∙ made_room s m x (w.mems m (omega arith))) ];
        enough = u.enough;
      }
  all_made rules (Rest of true inside ∷ xs) a m c q n o p la lm s w =
      let closed = o of (inl refl) in
      let t = with_rest a m q s of la lm closed w in
      let u = all_made rules xs a m c (after_rest a m q s of la lm closed w) n (λ e i. o e (inr i)) p.2 la lm t (rest_ready a m q s of la lm closed w) in
      record {
        heap = u.heap;
        made = u.made;
        prepares = λ copy copied z. (t, (ys a m q s of la lm closed w, rooms a m q s of la lm closed w, is_copied a m q s of la lm closed w), u.prepares copy copied z);
        all = u.all;
        bounded = u.bounded;
        keeps = λ x i. elim (u.keeps x ((made_mems a m q s of la lm closed w).there x i)) [ inl k ↦ inl k | inr k ↦ inr (k ∙ rest_keeps_room a m q s of la lm closed w x i) ];
        enough = u.enough;
      }
  all_made rules (Rest of false inside ∷ xs) a m c q n o p la lm s w =
      let u = all_made rules xs a m c q n o p.3 la lm s w in
      record { heap = u.heap; made = u.made; prepares = λ copy copied z. (s, refl, u.prepares copy copied z); all = u.all; bounded = u.bounded; keeps = u.keeps; enough = u.enough }
  all_made rules (Rule rule inside ∷ xs) a m c q n o p la lm s w =
      let i = w.there inside (below_next m inside lm p.0) in
      let t = reserved s (mem inside) (D (mem inside)) in
      let u = all_made rules xs a m c q n o p.1 la lm t (reserved_ready a m q s (mem inside) (D (mem inside)) w) in
      record {
        heap = u.heap;
        made = u.made;
        prepares = λ copy copied z. (t, (D (mem inside), refl), u.prepares copy copied z);
        all = u.all;
        bounded = u.bounded;
        keeps = room_keeps rules inside a m c xs s i u;
        enough = room_enough rules inside (rule ∷ []) a m c xs s i u;
      }
  all_made rules (Rules of inside ∷ xs) a m c q n o p la lm s w =
      let i = w.there inside (below_next m inside lm p.1) in
      let t = reserved s (mem inside) (D (mem inside)) in
      let u = all_made rules xs a m c q n o p.2 la lm t (reserved_ready a m q s (mem inside) (D (mem inside)) w) in
      record {
        heap = u.heap;
        made = u.made;
        prepares = λ copy copied z. (t, (D (mem inside), refl), u.prepares copy copied z);
        all = u.all;
        bounded = u.bounded;
        keeps = room_keeps rules inside a m c xs s i u;
        enough = room_enough rules inside (rules (mem of)) a m c xs s i u;
      }
