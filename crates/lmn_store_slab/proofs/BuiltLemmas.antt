-- What the calls do to a heap, said of its atoms, its membranes and their lists.
use Rattle.std.proofs.Common.{◌≡◌, ◌≢◌, ℕ, ◌+◌, List, [], ◌∷◌, ◌++◌, Option, Some, None, refl, sym, ap, subst, ◌∙◌, inl, inr, arith}
use Rattle.std.proofs.lemmas.Bool.{cases_eq}
use Rattle.std.specs.Option.{option_map, option_and_then}
use Rattle.lmn_base.specs.declared.functor.Functor.{Functor}
use Rattle.lmn_store_heap.specs.Lists.{from, without}
use Rattle.lmn_store_heap.specs.Heap.{HeapAtom, HeapMem, within, gone, alter, home_by, parent_of, rules_by, rules_in, mem_place_of, atom_out, mem_out, with_place, mem_with_place, mem_with_atoms, mem_with_mems, new_atom, new_mem, placed, taken, made_atom, made_mem, placed_mem, taken_mem}
use Rattle.lmn_store_heap.proofs.Listing.{alter_at, alter_away, without_first}
use Rattle.lmn_store_slab.specs.Cells.{built, with_lists, place_by}
use Rattle.lmn_store_slab.specs.Kept.{place_in, mem_place_in}
use Rattle.lmn_store_slab.proofs.Files.{place_mem}

-- the membranes with what stands in them
abbrev pub lifted : (ℕ → List ℕ) → (ℕ → List ℕ) → (ℕ → Option HeapMem) → ℕ → Option HeapMem
lifted L M B k = option_map (with_lists (L (k + 2)) (M (k + 2))) (B k)

-- the list of a membrane is none of those that wait
pub not_line : (k : ℕ) → k + 2 ≢ 0
not_line k e = omega arith

-- nor of those that are gone
pub not_out : (k : ℕ) → k + 2 ≢ 1
not_out k e = omega arith

-- different membranes have different lists
pub two_apart : (k m : ℕ) → k ≢ m → k + 2 ≢ m + 2
two_apart k m d e = d (omega arith)

module _ (L M : ℕ → List ℕ) (B : ℕ → Option HeapMem) where
  pub lift_atoms : (m : ℕ) (g : List ℕ → List ℕ) → lifted (alter L (m + 2) g) M B ≡ alter (lifted L M B) m (option_map (mem_with_atoms g))
  lift_atoms m g = λ j k. by k j
    where
      here : (o : Option HeapMem) (xs ys : List ℕ) → option_map (with_lists (g xs) ys) o ≡ option_map (mem_with_atoms g) (option_map (with_lists xs ys) o)
      here None xs ys = refl
      here (Some x) xs ys = refl

      by : (k : ℕ) → lifted (alter L (m + 2) g) M B k ≡ alter (lifted L M B) m (option_map (mem_with_atoms g)) k
      by k = elim (cases_eq k m) [
        | inl e ↦ subst (λ z. lifted (alter L (m + 2) g) M B z ≡ alter (lifted L M B) m (option_map (mem_with_atoms g)) z) (sym e)
            (ap (λ xs. option_map (with_lists xs (M (m + 2))) (B m)) (alter_at L (m + 2) g) ∙ here (B m) (L (m + 2)) (M (m + 2)) ∙ sym (alter_at (lifted L M B) m (option_map (mem_with_atoms g))))
        | inr d ↦ ap (λ xs. option_map (with_lists xs (M (k + 2))) (B k)) (alter_away L (m + 2) g (k + 2) (two_apart k m d)) ∙ sym (alter_away (lifted L M B) m (option_map (mem_with_atoms g)) k d)
      ]

  pub lift_mems : (m : ℕ) (g : List ℕ → List ℕ) → lifted L (alter M (m + 2) g) B ≡ alter (lifted L M B) m (option_map (mem_with_mems g))
  lift_mems m g = λ j k. by k j
    where
      here : (o : Option HeapMem) (xs ys : List ℕ) → option_map (with_lists xs (g ys)) o ≡ option_map (mem_with_mems g) (option_map (with_lists xs ys) o)
      here None xs ys = refl
      here (Some x) xs ys = refl

      by : (k : ℕ) → lifted L (alter M (m + 2) g) B k ≡ alter (lifted L M B) m (option_map (mem_with_mems g)) k
      by k = elim (cases_eq k m) [
        | inl e ↦ subst (λ z. lifted L (alter M (m + 2) g) B z ≡ alter (lifted L M B) m (option_map (mem_with_mems g)) z) (sym e)
            (ap (λ ys. option_map (with_lists (L (m + 2)) ys) (B m)) (alter_at M (m + 2) g) ∙ here (B m) (L (m + 2)) (M (m + 2)) ∙ sym (alter_at (lifted L M B) m (option_map (mem_with_mems g))))
        | inr d ↦ ap (λ ys. option_map (with_lists (L (k + 2)) ys) (B k)) (alter_away M (m + 2) g (k + 2) (two_apart k m d)) ∙ sym (alter_away (lifted L M B) m (option_map (mem_with_mems g)) k d)
      ]

  -- a list of no membrane
  pub lift_atoms_off : (l : ℕ) (g : List ℕ → List ℕ) → ((k : ℕ) → k + 2 ≢ l) → lifted (alter L l g) M B ≡ lifted L M B
  lift_atoms_off l g d = λ j k. option_map (with_lists (alter_away L l g (k + 2) (d k) j) (M (k + 2))) (B k)

  pub lift_mems_off : (l : ℕ) (g : List ℕ → List ℕ) → ((k : ℕ) → k + 2 ≢ l) → lifted L (alter M l g) B ≡ lifted L M B
  lift_mems_off l g d = λ j k. option_map (with_lists (L (k + 2)) (alter_away M l g (k + 2) (d k) j)) (B k)

  -- a change of a membrane that keeps its lists
  pub lift_mem : (n : ℕ) (h : HeapMem → HeapMem) → ((xs ys : List ℕ) (x : HeapMem) → with_lists xs ys (h x) ≡ h (with_lists xs ys x))
      → lifted L M (alter B n (option_map h)) ≡ alter (lifted L M B) n (option_map h)
  lift_mem n h e = λ j k. by k j
    where
      here : (o : Option HeapMem) (xs ys : List ℕ) → option_map (with_lists xs ys) (option_map h o) ≡ option_map h (option_map (with_lists xs ys) o)
      here None xs ys = refl
      here (Some x) xs ys = ap (λ (z : HeapMem). Some z) (e xs ys x)

      by : (k : ℕ) → lifted L M (alter B n (option_map h)) k ≡ alter (lifted L M B) n (option_map h) k
      by k = elim (cases_eq k n) [
        | inl e ↦ subst (λ z. lifted L M (alter B n (option_map h)) z ≡ alter (lifted L M B) n (option_map h) z) (sym e)
            (ap (option_map (with_lists (L (n + 2)) (M (n + 2)))) (alter_at B n (option_map h)) ∙ here (B n) (L (n + 2)) (M (n + 2)) ∙ sym (alter_at (lifted L M B) n (option_map h)))
        | inr d ↦ ap (option_map (with_lists (L (k + 2)) (M (k + 2)))) (alter_away B n (option_map h) k d) ∙ sym (alter_away (lifted L M B) n (option_map h) k d)
      ]

  pub lift_new : (n : ℕ) → L (n + 2) ≡ [] → M (n + 2) ≡ [] → lifted L M (alter B n (λ _. Some new_mem)) ≡ alter (lifted L M B) n (λ _. Some new_mem)
  lift_new n no_atoms no_mems = λ j k. by k j
    where
      by : (k : ℕ) → lifted L M (alter B n (λ _. Some new_mem)) k ≡ alter (lifted L M B) n (λ _. Some new_mem) k
      by k = elim (cases_eq k n) [
        | inl e ↦ subst (λ z. lifted L M (alter B n (λ _. Some new_mem)) z ≡ alter (lifted L M B) n (λ _. Some new_mem) z) (sym e)
            (ap (option_map (with_lists (L (n + 2)) (M (n + 2)))) (alter_at B n (λ _. Some new_mem)) ∙ (λ i. Some (with_lists (no_atoms i) (no_mems i) new_mem)) ∙ sym (alter_at (lifted L M B) n (λ _. Some new_mem)))
        | inr d ↦ ap (option_map (with_lists (L (k + 2)) (M (k + 2)))) (alter_away B n (λ _. Some new_mem) k d) ∙ sym (alter_away (lifted L M B) n (λ _. Some new_mem) k d)
      ]

-- the home of a place
pub home_from : (A : ℕ → Option HeapAtom) (a m : ℕ) → place_in A a ≡ Some (within m) → option_and_then (λ x. home_by x.place) (A a) ≡ Some m
home_from A a m e = by (A a) e
  where
    by : (o : Option HeapAtom) → option_map (λ x. x.place) o ≡ Some (within m) → option_and_then (λ x. home_by x.place) o ≡ Some m
    by None e = absurd (cc)
    by (Some x) e = let w : x.place ≡ within m = (cc) in ap home_by w

-- what stands in a membrane has that for its parent
pub parent_from : (B : ℕ → Option HeapMem) (n m : ℕ) → mem_place_in B n ≡ Some (within m) → option_and_then (λ x. home_by x.place) (B n) ≡ Some m
parent_from B n m e = by (B n) e
  where
    by : (o : Option HeapMem) → option_map (λ x. x.place) o ≡ Some (within m) → option_and_then (λ x. home_by x.place) o ≡ Some m
    by None e = absurd (cc)
    by (Some x) e = let w : x.place ≡ within m = (cc) in ap home_by w

module _ (A : ℕ → Option HeapAtom) (B : ℕ → Option HeapMem) (L M : ℕ → List ℕ) where
  -- what a membrane's lists are
  same_place : (o : Option HeapMem) (xs ys : List ℕ) → option_map (λ x. x.place) (option_map (with_lists xs ys) o) ≡ option_map (λ x. x.place) o
  same_place None xs ys = refl
  same_place (Some x) xs ys = refl

  pub built_mem_place : (m : ℕ) → mem_place_of (built A B L M) m ≡ mem_place_in B m
  built_mem_place m = same_place (B m) (L (m + 2)) (M (m + 2))

  pub built_parent : (m : ℕ) → parent_of (built A B L M) m ≡ option_and_then (λ x. home_by x.place) (B m)
  built_parent m = by (B m)
    where
      by : (o : Option HeapMem) → option_and_then (λ x. home_by x.place) (option_map (with_lists (L (m + 2)) (M (m + 2))) o) ≡ option_and_then (λ x. home_by x.place) o
      by None = refl
      by (Some x) = refl

  pub built_rules : (m : ℕ) → rules_in (built A B L M) m ≡ rules_by (B m)
  built_rules m = by (B m)
    where
      by : (o : Option HeapMem) → rules_by (option_map (with_lists (L (m + 2)) (M (m + 2))) o) ≡ rules_by o
      by None = refl
      by (Some x) = refl

  pub built_made : (a : ℕ) (f : Functor) → built (alter A a (λ _. Some (new_atom f))) B (alter L 0 (λ xs. xs ++ a ∷ [])) M ≡ made_atom (built A B L M) a f
  built_made a f = λ j. record {
    root = 0;
    atoms = alter A a (λ _. Some (new_atom f));
    mems = lift_atoms_off L M B 0 (λ xs. xs ++ a ∷ []) not_line j;
    new_atoms = alter_at L 0 (λ xs. xs ++ a ∷ []) j;
    new_mems = M 0;
  }

  pub built_placed : (m a : ℕ) → from (Some a) (L 0) ≡ L 0
      → built (alter A a (option_map (with_place (place_by (m + 2))))) B (alter (alter L 0 (without a)) (m + 2) (λ xs. xs ++ a ∷ [])) M ≡ placed (built A B L M) m a
  built_placed m a first =
      let L1 = alter L 0 (without a) in
      let more : List ℕ → List ℕ = λ xs. xs ++ a ∷ [] in
      λ j. record {
        root = 0;
        atoms = alter A a (option_map (with_place (place_mem m j)));
        mems = (lift_atoms L1 M B m more ∙ ap (λ f. alter f m (option_map (mem_with_atoms more))) (lift_atoms_off L M B 0 (without a) not_line)) j;
        new_atoms = (alter_away L1 (m + 2) more 0 (λ e. not_line m (sym e)) ∙ alter_at L 0 (without a) ∙ without_first a (L 0) first) j;
        new_mems = M 0;
      }

  pub built_taken : (m a : ℕ) → place_in A a ≡ Some (within m)
      → built (alter A a (option_map (with_place (place_by 1)))) B (alter (alter L (m + 2) (without a)) 1 (λ xs. xs ++ a ∷ [])) M ≡ taken (built A B L M) a
  built_taken m a home =
      let L1 = alter L (m + 2) (without a) in
      let more : List ℕ → List ℕ = λ xs. xs ++ a ∷ [] in
      λ j. record {
        root = 0;
        atoms = alter A a (option_map (with_place gone));
        mems = (lift_atoms_off L1 M B 1 more not_out ∙ lift_atoms L M B m (without a) ∙ ap (λ (o : Option ℕ). atom_out (lifted L M B) o a) (sym (home_from A a m home))) j;
        new_atoms = (alter_away L1 1 more 0 (λ e. absurd (omega arith)) ∙ alter_away L (m + 2) (without a) 0 (λ e. not_line m (sym e))) j;
        new_mems = M 0;
      }

  pub built_made_mem : (n : ℕ) → L (n + 2) ≡ [] → M (n + 2) ≡ [] → built A (alter B n (λ _. Some new_mem)) L (alter M 0 (λ xs. xs ++ n ∷ [])) ≡ made_mem (built A B L M) n
  built_made_mem n no_atoms no_mems =
      let more : List ℕ → List ℕ = λ xs. xs ++ n ∷ [] in
      λ j. record {
        root = 0;
        atoms = A;
        mems = (lift_mems_off L M (alter B n (λ _. Some new_mem)) 0 more not_line ∙ lift_new L M B n no_atoms no_mems) j;
        new_atoms = L 0;
        new_mems = alter_at M 0 more j;
      }

  pub built_placed_mem : (m n : ℕ) → from (Some n) (M 0) ≡ M 0
      → built A (alter B n (option_map (mem_with_place (place_by (m + 2))))) L (alter (alter M 0 (without n)) (m + 2) (λ xs. xs ++ n ∷ [])) ≡ placed_mem (built A B L M) m n
  built_placed_mem m n first =
      let M1 = alter M 0 (without n) in
      let more : List ℕ → List ℕ = λ xs. xs ++ n ∷ [] in
      let h : HeapMem → HeapMem = mem_with_place (within m) in
      let B1 = alter B n (option_map h) in
      λ j. record {
        root = 0;
        atoms = A;
        mems = (ap (λ P. lifted L (alter M1 (m + 2) more) (alter B n (option_map (mem_with_place P)))) (place_mem m)
            ∙ lift_mems L M1 B1 m more
            ∙ ap (λ f. alter f m (option_map (mem_with_mems more))) (lift_mems_off L M B1 0 (without n) not_line ∙ lift_mem L M B n h (λ xs ys x. refl))) j;
        new_atoms = L 0;
        new_mems = (alter_away M1 (m + 2) more 0 (λ e. not_line m (sym e)) ∙ alter_at M 0 (without n) ∙ without_first n (M 0) first) j;
      }

  pub built_taken_mem : (m n : ℕ) → mem_place_in B n ≡ Some (within m)
      → built A (alter B n (option_map (mem_with_place (place_by 1)))) L (alter (alter M (m + 2) (without n)) 1 (λ xs. xs ++ n ∷ [])) ≡ taken_mem (built A B L M) n
  built_taken_mem m n home =
      let M1 = alter M (m + 2) (without n) in
      let more : List ℕ → List ℕ = λ xs. xs ++ n ∷ [] in
      let h : HeapMem → HeapMem = mem_with_place gone in
      λ j. record {
        root = 0;
        atoms = A;
        mems = (lift_mems_off L M1 (alter B n (option_map h)) 1 more not_out ∙ lift_mem L M1 B n h (λ xs ys x. refl)
            ∙ ap (λ f. alter f n (option_map h)) (lift_mems L M B m (without n) ∙ ap (λ (o : Option ℕ). mem_out (lifted L M B) o n) (sym (built_parent n ∙ parent_from B n m home)))) j;
        new_atoms = L 0;
        new_mems = (alter_away M1 1 more 0 (λ e. absurd (omega arith)) ∙ alter_away M (m + 2) (without n) 0 (λ e. not_line m (sym e))) j;
      }

  -- changes of a membrane's own
  pub built_mem : (n : ℕ) (h : HeapMem → HeapMem) → ((xs ys : List ℕ) (x : HeapMem) → with_lists xs ys (h x) ≡ h (with_lists xs ys x))
      → built A (alter B n (option_map h)) L M ≡ record (built A B L M) { mems = alter (built A B L M).mems n (option_map h) }
  built_mem n h e = λ j. record { root = 0; atoms = A; mems = lift_mem L M B n h e j; new_atoms = L 0; new_mems = M 0 }
