-- Room for rules and marks of membranes are no part of the rest.
use Rattle.std.proofs.Common.{◌≡◌, ◌∙◌, ◌==◌, ◌-◌, ℕ, zero, suc, Bool, true, false, if◌then◌else◌, List, [], ◌∷◌, ◌++◌, Option, Some, None, length, refl, sym, ap, subst, inl, inr}
use Rattle.std.specs.Option.{option_and_then, option_map}
use Rattle.lmn_base.specs.Lists.{In}
use Rattle.lmn_store_heap.specs.Conditions.{Above}
use Rattle.lmn_store_heap.specs.Heap.{Heap, HeapMem, Place, alter, atom_out, atoms_by, atoms_in, emptied, filled, gone, home_by, home_of, mem_out, mem_sent, mem_unless_gone, mem_with_atoms, mem_with_mems, mem_with_place, mem_with_rules, mem_with_spare, mems_by, mems_in, new_mem, parent_of, rules_by, rules_in, top, waiting, within, without}
use Rattle.lmn_solid_heads.specs.Embeddings.{ListNotAfter, index_of}
use Rattle.lmn_instr_code.specs.declared.instr.Instr.{Instr}
use Rattle.lmn_instr_code.specs.declared.instr.Instr.TheVariants.{AnyMem, FindAtom, InMem, IsClosed, IsGround, IsInt, IsUnary, NAtoms, NMems, NoRules, NotIn}
use Rattle.lmn_instr_code.specs.Running.{AllHold, HasOthers, HeadRegisters, HeadSize, InstructionHolds, IsFirstSuccess, IsInSome, IsLeftIn, Succeeds, choices, size_of_head}
use Rattle.lmn_verify_renaming.specs.Laws.{CallsKeepRoom, HeadsReadNoRoom, KeepsRoom}
use Rattle.lmn_verify_renaming.specs.Renamed.{SameButRoom, with_room}

-- a membrane, but for room and mark
abbrev Room : Option HeapMem → Option HeapMem → Type 0
Room o p = (spare : ℕ) × (mark : ℕ) × (p ≡ option_map (with_room spare mark) o)

-- a change of membranes that does not read them
abbrev Blind : (HeapMem → HeapMem) → (HeapMem → HeapMem) → Type 0
Blind u v = (x : HeapMem) (a b : ℕ) → (spare : ℕ) × (mark : ℕ) × (v (with_room a b x) ≡ with_room spare mark (u x))

blind_map : (u v : HeapMem → HeapMem) → Blind u v → (o p : Option HeapMem) → Room o p → Room (option_map u o) (option_map v p)
blind_map u v blind None p w = (0, 0, ap (option_map v) w.2)
blind_map u v blind (Some x) p w = let c = blind x w.0 w.1 in (c.0, c.1, ap (option_map v) w.2 ∙ ap (λ y. Some y) c.2)

altered_room : (f g : ℕ → Option HeapMem) (m : ℕ) (U V : Option HeapMem → Option HeapMem) → ((o p : Option HeapMem) → Room o p → Room (U o) (V p)) → ((j : ℕ) → Room (f j) (g j)) → (j : ℕ) → Room (alter f m U j) (alter g m V j)
altered_room f g m U V blind h j = by (j == m)
  where
    by : (t : Bool) → Room (if t then U (f j) else f j) (if t then V (g j) else g j)
    by true = blind (f j) (g j) (h j)
    by false = h j

one_altered : (f g : ℕ → Option HeapMem) (m : ℕ) (u v : HeapMem → HeapMem) → Blind u v → ((j : ℕ) → Room (f j) (g j)) → (j : ℕ) → Room (alter f m (option_map u) j) (alter g m (option_map v) j)
one_altered f g m u v blind h j = altered_room f g m (option_map u) (option_map v) (blind_map u v blind) h j

module _ (s : Heap) (mems : ℕ → Option HeapMem) (h : (m : ℕ) → Room (s.mems m) (mems m)) where
  abbrev T : Heap
  T = record s { mems = mems }

  by_room : {X : Type 0} (read : Option HeapMem → X) → ((o : Option HeapMem) (a b : ℕ) → read (option_map (with_room a b) o) ≡ read o) → (m : ℕ) → read (mems m) ≡ read (s.mems m)
  by_room read same m = let w = h m in ap read w.2 ∙ same (s.mems m) w.0 w.1

  atoms_same : (m : ℕ) → atoms_in T m ≡ atoms_in s m
  atoms_same m = by_room atoms_by by m
    where
      by : (o : Option HeapMem) (a b : ℕ) → atoms_by (option_map (with_room a b) o) ≡ atoms_by o
      by None a b = refl
      by (Some x) a b = refl

  mems_same : (m : ℕ) → mems_in T m ≡ mems_in s m
  mems_same m = by_room mems_by by m
    where
      by : (o : Option HeapMem) (a b : ℕ) → mems_by (option_map (with_room a b) o) ≡ mems_by o
      by None a b = refl
      by (Some x) a b = refl

  rules_same : (m : ℕ) → rules_in T m ≡ rules_in s m
  rules_same m = by_room rules_by by m
    where
      by : (o : Option HeapMem) (a b : ℕ) → rules_by (option_map (with_room a b) o) ≡ rules_by o
      by None a b = refl
      by (Some x) a b = refl

  parent_same : (m : ℕ) → parent_of T m ≡ parent_of s m
  parent_same m = by_room (option_and_then (λ (x : HeapMem). home_by x.place)) by m
    where
      by : (o : Option HeapMem) (a b : ℕ) → option_and_then (λ (x : HeapMem). home_by x.place) (option_map (with_room a b) o) ≡ option_and_then (λ (x : HeapMem). home_by x.place) o
      by None a b = refl
      by (Some x) a b = refl

  -- ---- calls

  atom_out_room : (a : ℕ) (o : Option ℕ) (j : ℕ) → Room (atom_out s.mems o a j) (atom_out mems o a j)
  atom_out_room a None j = h j
  atom_out_room a (Some m) j = one_altered s.mems mems m (mem_with_atoms (without a)) (mem_with_atoms (without a)) (λ x b c. (b, c, refl)) h j

  mem_out_room : (n : ℕ) (o : Option ℕ) (j : ℕ) → Room (mem_out s.mems o n j) (mem_out mems o n j)
  mem_out_room n None j = h j
  mem_out_room n (Some m) j = one_altered s.mems mems m (mem_with_mems (without n)) (mem_with_mems (without n)) (λ x b c. (b, c, refl)) h j

  finish_room : (o p : Option HeapMem) → Room o p → Room (option_and_then mem_unless_gone o) (option_and_then mem_unless_gone p)
  finish_room None p w = (0, 0, ap (option_and_then mem_unless_gone) w.2)
  finish_room (Some x) p w = (w.0, w.1, ap (option_and_then mem_unless_gone) w.2 ∙ by x x.place w.0 w.1)
    where
      by : (x : HeapMem) (q : Place) (a b : ℕ) → elim q as (λ p. Option HeapMem) [ top ↦ Some (with_room a b x) | within m ↦ Some (with_room a b x) | waiting ↦ Some (with_room a b x) | gone ↦ None ]
          ≡ option_map (with_room a b) (elim q as (λ p. Option HeapMem) [ top ↦ Some x | within m ↦ Some x | waiting ↦ Some x | gone ↦ None ])
      by x top a b = refl
      by x (within m) a b = refl
      by x waiting a b = refl
      by x gone a b = refl

  keeps : KeepsRoom s T
  keeps = record {
    make_atom = λ a f. record { root = refl; atoms = λ j. refl; mems = h; new_atoms = refl; new_mems = refl };
    make_mem = λ m. record { root = refl; atoms = λ j. refl; mems = altered_room s.mems mems m (λ o. Some new_mem) (λ o. Some new_mem) (λ o p w. (0, 0, refl)) h; new_atoms = refl; new_mems = refl };
    reserve_rules = λ m n k. record { root = refl; atoms = λ j. refl; mems = one_altered s.mems mems m (mem_with_spare n) (mem_with_spare k) (λ x a b. (k, b, refl)) h; new_atoms = refl; new_mems = refl };
    place_atom = λ m a. record { root = refl; atoms = λ j. refl; mems = one_altered s.mems mems m (mem_with_atoms (λ xs. xs ++ a ∷ [])) (mem_with_atoms (λ xs. xs ++ a ∷ [])) (λ x b c. (b, c, refl)) h; new_atoms = refl; new_mems = refl };
    place_mem = λ m n. record {
      root = refl;
      atoms = λ j. refl;
      mems = one_altered (alter s.mems n (option_map (mem_with_place (within m)))) (alter mems n (option_map (mem_with_place (within m)))) m (mem_with_mems (λ xs. xs ++ n ∷ [])) (mem_with_mems (λ xs. xs ++ n ∷ [])) (λ x b c. (b, c, refl))
          (one_altered s.mems mems n (mem_with_place (within m)) (mem_with_place (within m)) (λ x b c. (b, c, refl)) h);
      new_atoms = refl;
      new_mems = refl;
    };
    take_atom = λ a. record { root = refl; atoms = λ j. refl; mems = atom_out_room a (home_of s a); new_atoms = refl; new_mems = refl };
    take_mem = λ n. record {
      root = refl;
      atoms = λ j. refl;
      mems = subst (λ o. (j : ℕ) → Room (alter (mem_out s.mems (parent_of s n) n) n (option_map (mem_with_place gone)) j) (alter (mem_out mems o n) n (option_map (mem_with_place gone)) j)) (sym (parent_same n))
          (one_altered (mem_out s.mems (parent_of s n) n) (mem_out mems (parent_of s n) n) n (mem_with_place gone) (mem_with_place gone) (λ x b c. (b, c, refl)) (mem_out_room n (parent_of s n)));
      new_atoms = refl;
      new_mems = refl;
    };
    move_all = λ m n. record {
      root = refl;
      atoms = λ j. refl;
      mems = λ j. blind_map (mem_sent m n) (mem_sent m n) (λ x b c. (b, c, refl)) _ _
          (one_altered (alter s.mems m (option_map emptied)) (alter mems m (option_map emptied)) n (filled (atoms_in s m) (mems_in s m)) (filled (atoms_in T m) (mems_in T m))
          (λ x b c. (b, c, (λ i. filled (atoms_same m i) (mems_same m i) (with_room b c x)))) (one_altered s.mems mems m emptied emptied (λ x b c. (b, c, refl)) h) j);
      new_atoms = refl;
      new_mems = refl;
    };
    add_rule = λ m k. record { root = refl; atoms = λ j. refl; mems = one_altered s.mems mems m (mem_with_rules (k ∷ [])) (mem_with_rules (k ∷ [])) (λ x b c. (b - 1, c, refl)) h; new_atoms = refl; new_mems = refl };
    copy_rules = λ m n. record {
      root = refl;
      atoms = λ j. refl;
      mems = one_altered s.mems mems n (mem_with_rules (rules_in s m)) (mem_with_rules (rules_in T m)) (λ x b c. (b - length (rules_in s m), c, (λ i. mem_with_rules (rules_same m i) (with_room b c x)))) h;
      new_atoms = refl;
      new_mems = refl;
    };
    join = λ a i b j. record { root = refl; atoms = λ k. refl; mems = h; new_atoms = refl; new_mems = refl };
    finish = record { root = refl; atoms = λ j. refl; mems = λ j. finish_room (s.mems j) (mems j) (h j); new_atoms = refl; new_mems = refl };
  }

  -- ---- heads

  above_room : (k m n : ℕ) → Above s k m n → Above T k m n
  above_room zero m n e = e
  above_room (suc k) m n w = (w.0, parent_same n ∙ w.1, above_room k m w.0 w.2)

  above_plain : (k m n : ℕ) → Above T k m n → Above s k m n
  above_plain zero m n e = e
  above_plain (suc k) m n w = (w.0, sym (parent_same n) ∙ w.1, above_plain k m w.0 w.2)

  module _ (n : HeadSize) (g : HeadRegisters) where
    left_room : (m : ℕ) (gs : List ℕ) (b : ℕ) → IsLeftIn s n g m gs b → IsLeftIn T n g m gs b
    left_room m gs b (inl w) = inl (subst (In b) (sym (atoms_same (g.images.membrane m))) w.0, w.1, some gs w.2)
      where
        none : (gs : List ℕ) → IsInSome T g gs b → IsInSome s g gs b
        none [] i = i
        none (x ∷ gs) (inl i) = inl i
        none (x ∷ gs) (inr i) = inr (none gs i)

        some : (gs : List ℕ) → (IsInSome s g gs b → ⊥) → IsInSome T g gs b → ⊥
        some gs f i = f (none gs i)
    left_room m gs b (inr w) = inr (w.0, subst (In w.0) (sym (mems_same (g.images.membrane m))) w.1, w.2, (w.3.0, w.3.1, w.3.2, above_room w.3.1 w.0 w.3.0 w.3.3))

    left_plain : (m : ℕ) (gs : List ℕ) (b : ℕ) → IsLeftIn T n g m gs b → IsLeftIn s n g m gs b
    left_plain m gs b (inl w) = inl (subst (In b) (atoms_same (g.images.membrane m)) w.0, w.1, some gs w.2)
      where
        none : (gs : List ℕ) → IsInSome s g gs b → IsInSome T g gs b
        none [] i = i
        none (x ∷ gs) (inl i) = inl i
        none (x ∷ gs) (inr i) = inr (none gs i)

        some : (gs : List ℕ) → (IsInSome T g gs b → ⊥) → IsInSome s g gs b → ⊥
        some gs f i = f (none gs i)
    left_plain m gs b (inr w) = inr (w.0, subst (In w.0) (mems_same (g.images.membrane m)) w.1, w.2, (w.3.0, w.3.1, w.3.2, above_plain w.3.1 w.0 w.3.0 w.3.3))

    in_some : (gs : List ℕ) (b : ℕ) → IsInSome s g gs b → IsInSome T g gs b
    in_some [] b i = i
    in_some (x ∷ gs) b (inl i) = inl i
    in_some (x ∷ gs) b (inr i) = inr (in_some gs b i)

    of_some : (gs : List ℕ) (b : ℕ) → IsInSome T g gs b → IsInSome s g gs b
    of_some [] b i = i
    of_some (x ∷ gs) b (inl i) = inl i
    of_some (x ∷ gs) b (inr i) = inr (of_some gs b i)

    others_room : (gs : List ℕ) (c : ℕ) (xs : List ℕ) → HasOthers (IsInSome s g gs) c xs → HasOthers (IsInSome T g gs) c xs
    others_room gs c xs w = record {
      others = w.others;
      differ = w.differ;
      count = w.count;
      there = w.there;
      apart = λ b i p. w.apart b i (of_some gs b p);
      rest = λ b i. elim (w.rest b i) [ inl j ↦ inl j | inr p ↦ inr (in_some gs b p) ];
    }

    holds_room : (i : Instr) → InstructionHolds s n g i → InstructionHolds T n g i
    holds_room (FindAtom a m f) w = (subst (In (g.images.atom a)) (sym (atoms_same (g.images.membrane m))) w.0, w.1)
    holds_room (InMem a m) w = subst (In (g.images.atom a)) (sym (atoms_same (g.images.membrane m))) w
    holds_room (NotIn p m) w = λ q e t. w q e (t.0, t.1, t.2, above_plain t.1 (g.images.membrane m) t.0 t.3)
    holds_room (AnyMem m k) w = subst (In (g.images.membrane m)) (sym (mems_same (g.images.membrane k))) w
    holds_room (NAtoms m c gs) w = subst (HasOthers (IsInSome T g gs) c) (sym (atoms_same (g.images.membrane m))) (others_room gs c (atoms_in s (g.images.membrane m)) w)
    holds_room (NMems m c) w = ap (λ xs. length xs) (mems_same (g.images.membrane m)) ∙ w
    holds_room (NoRules m) w = rules_same (g.images.membrane m) ∙ w
    holds_room (IsClosed m gs) w = λ b i p l e. left_room m gs p.0 (w b i p (left_plain m gs b l) e)
    holds_room (IsInt x p m) w = record { held = w.held; of_kind = w.of_kind; whole = w.whole; apart = w.apart }
    holds_room (IsUnary x p m) w = record { held = w.held; of_kind = w.of_kind; whole = w.whole; apart = w.apart }
    holds_room (IsGround x p m) w = record { held = w.held; of_kind = w.of_kind; whole = w.whole; apart = w.apart }
    holds_room _ w = w

    all_room : (code : List Instr) → AllHold s n g code → AllHold T n g code
    all_room [] w = tt
    all_room (i ∷ is) w = (holds_room i w.0, all_room is w.1)

  choices_room : (g : HeadRegisters) (code : List Instr) → choices T g code ≡ choices s g code
  choices_room g [] = refl
  choices_room g (FindAtom a m f ∷ is) = λ i. index_of (g.images.atom a) (atoms_same (g.images.membrane m) i) ∷ choices_room g is i
  choices_room g (AnyMem m k ∷ is) = λ i. index_of (g.images.membrane m) (mems_same (g.images.membrane k) i) ∷ choices_room g is i
  choices_room g (_ ∷ is) = choices_room g is

  succeeds_room : (g : HeadRegisters) (code : List Instr) (m : ℕ) → Succeeds s code m g → Succeeds T code m g
  succeeds_room g code m w = record { here = w.here; all = all_room (size_of_head code) g code w.all }

-- back again
plain_room : (o p : Option HeapMem) → Room o p → Room p o
plain_room None p w = (0, 0, sym (ap (option_map (with_room 0 0)) w.2))
plain_room (Some x) p w = (x.spare, x.mark, sym (ap (option_map (with_room x.spare x.mark)) w.2))

first_room : (s : Heap) (mems : ℕ → Option HeapMem) → ((m : ℕ) → Room (s.mems m) (mems m)) → (g : HeadRegisters) (code : List Instr) (m : ℕ) → IsFirstSuccess s code m g → IsFirstSuccess (record s { mems = mems }) code m g
first_room s mems h g code m w =
    let t : Heap = record s { mems = mems } in
    record {
      succeeds = succeeds_room s mems h g code m w.succeeds;
      first = λ z v.
          (let back = w.first z (succeeds_room t s.mems (λ j. plain_room (s.mems j) (mems j) (h j)) z code m v) in
          subst (λ xs. ListNotAfter xs (choices t z code)) (sym (choices_room s mems h g code)) (subst (ListNotAfter (choices s g code)) (sym (choices_room s mems h z code)) back));
    }

-- a heap that is the same but for these
same_heap : (s t : Heap) → SameButRoom s t → record s { mems = t.mems } ≡ t
same_heap s t h = λ i. record { root = sym h.root i; atoms = λ a. sym (h.atoms a) i; mems = t.mems; new_atoms = sym h.new_atoms i; new_mems = sym h.new_mems i }

-- each call keeps them apart
pub calls_keep_room : CallsKeepRoom
calls_keep_room s t h = subst (KeepsRoom s) (same_heap s t h) (keeps s t.mems h.mems)

-- and no head reads them
pub heads_read_no_room : HeadsReadNoRoom
heads_read_no_room s t h code m g = (
  (λ w. subst (λ k. Succeeds k code m g) (same_heap s t h) (succeeds_room s t.mems h.mems g code m w)),
  (λ w. subst (λ k. IsFirstSuccess k code m g) (same_heap s t h) (first_room s t.mems h.mems g code m w)),
)
