-- What the calls on membranes do to lists.
use Rattle.std.proofs.Common.{ℕ, ◌≡◌, ◌≢◌, ◌⊎◌, List, [], ◌∷◌, ◌++◌, Option, Some, None, IsSome, refl, sym, ap, subst, ◌∙◌, inl, inr}
use Rattle.std.proofs.lemmas.Bool.{cases_eq}
use Rattle.std.specs.Option.{option_map}
use Rattle.lmn_store_heap.specs.Heap.{Heap, HeapMem, Place, within, gone, alter, mem_with_place, mem_with_mems, mem_with_rules, mem_sent, sent, emptied, filled, mem_out, mem_place_of, parent_of, atoms_in, mems_in, rules_in, atoms_by, mems_by, rules_by, without, taken_mem, placed_mem, moved_all}
use Rattle.lmn_store_heap.proofs.Listing.{alter_at, alter_away, alter_keeps}
use Rattle.lmn_store_heap.proofs.Groves.{without_absent}
use Rattle.lmn_base.specs.Lists.{In}

-- One change of one membrane

module _ {X : Type 0} (v : Option HeapMem → X) (f : ℕ → Option HeapMem) (k : ℕ) (g : HeapMem → HeapMem) where
  pub change_at : (G : X → X) → ((x : HeapMem) → v (Some (g x)) ≡ G (v (Some x))) → IsSome (f k) → v (alter f k (option_map g) k) ≡ G (v (f k))
  change_at G h is = ap v (alter_at f k (option_map g)) ∙ by (f k) is
    where
      by : (o : Option HeapMem) → IsSome o → v (option_map g o) ≡ G (v o)
      by None i = absurd (cc)
      by (Some x) i = h x

  pub change_away : (j : ℕ) → j ≢ k → v (alter f k (option_map g) j) ≡ v (f j)
  change_away j d = ap v (alter_away f k (option_map g) j d)

  pub change_keeps : ((x : HeapMem) → v (Some (g x)) ≡ v (Some x)) → (j : ℕ) → v (alter f k (option_map g) j) ≡ v (f j)
  change_keeps h j = alter_keeps f k (option_map g) v by j
    where
      by : (o : Option HeapMem) → v (option_map g o) ≡ v o
      by None = refl
      by (Some x) = h x

-- the place of a membrane, where it is there
abbrev pub place_by : Option HeapMem → Option Place
place_by o = option_map (λ x. x.place) o

-- whether a membrane is there
abbrev pub there_by : Option HeapMem → Option ℕ
there_by o = option_map (λ _. 0) o

-- `take_mem`

-- a membrane that is taken stands in no list any more
pub out_mem : (s : Heap) (n : ℕ) (p : ℕ) → parent_of s n ≡ Some p → ((y : ℕ) → In n (mems_in s y) → y ≡ p) → IsSome (s.mems p) → (y : ℕ) → mems_in (taken_mem s n) y ≡ without n (mems_in s y)
out_mem s n p e once is y = change_keeps mems_by (mem_out s.mems (parent_of s n) n) n (mem_with_place gone) (λ x. refl) y ∙ ap (λ (o : Option ℕ). mems_by (mem_out s.mems o n y)) e ∙ by (cases_eq y p)
  where
    by : (y ≡ p) ⊎ (y ≢ p) → mems_by (alter s.mems p (option_map (mem_with_mems (without n))) y) ≡ without n (mems_in s y)
    by (inl q) = subst (λ z. mems_by (alter s.mems p (option_map (mem_with_mems (without n))) z) ≡ without n (mems_in s z)) (sym q) (change_at mems_by s.mems p (mem_with_mems (without n)) (without n) (λ x. refl) is)
    by (inr d) = change_away mems_by s.mems p (mem_with_mems (without n)) y d ∙ sym (without_absent n (mems_in s y) (λ i. d (once y i)))

module _ (s : Heap) (n : ℕ) where
  out_keeps : {X : Type 0} (v : Option HeapMem → X) → ((x : HeapMem) (p : Place) → v (Some (mem_with_place p x)) ≡ v (Some x)) → ((x : HeapMem) (g : List ℕ → List ℕ) → v (Some (mem_with_mems g x)) ≡ v (Some x)) → (y : ℕ)
      → v ((taken_mem s n).mems y) ≡ v (s.mems y)
  out_keeps v hp hm y = change_keeps v (mem_out s.mems (parent_of s n) n) n (mem_with_place gone) (λ x. hp x gone) y ∙ by (parent_of s n)
    where
      by : (o : Option ℕ) → v (mem_out s.mems o n y) ≡ v (s.mems y)
      by None = refl
      by (Some q) = change_keeps v s.mems q (mem_with_mems (without n)) (λ x. hm x (without n)) y

  pub out_atoms : (y : ℕ) → atoms_in (taken_mem s n) y ≡ atoms_in s y
  out_atoms = out_keeps atoms_by (λ x p. refl) (λ x g. refl)

  pub out_rules : (y : ℕ) → rules_in (taken_mem s n) y ≡ rules_in s y
  out_rules = out_keeps rules_by (λ x p. refl) (λ x g. refl)

  pub out_there : (y : ℕ) → there_by ((taken_mem s n).mems y) ≡ there_by (s.mems y)
  out_there = out_keeps there_by (λ x p. refl) (λ x g. refl)

  pub out_place : (y : ℕ) → y ≢ n → mem_place_of (taken_mem s n) y ≡ mem_place_of s y
  out_place y d = change_away place_by (mem_out s.mems (parent_of s n) n) n (mem_with_place gone) y d ∙ by (parent_of s n)
    where
      by : (o : Option ℕ) → place_by (mem_out s.mems o n y) ≡ place_by (s.mems y)
      by None = refl
      by (Some q) = change_keeps place_by s.mems q (mem_with_mems (without n)) (λ x. refl) y

-- `place_mem`

module _ (s : Heap) (m n : ℕ) (is : IsSome (s.mems m)) where
  abbrev f1 : ℕ → Option HeapMem
  f1 = alter s.mems n (option_map (mem_with_place (within m)))

  is1 : IsSome (f1 m)
  is1 = by (s.mems m) (f1 m) (change_keeps there_by s.mems n (mem_with_place (within m)) (λ x. refl) m) is
    where
      by : (o q : Option HeapMem) → there_by q ≡ there_by o → IsSome o → IsSome q
      by None q e i = absurd (cc)
      by (Some x) None e i = absurd (cc)
      by (Some x) (Some y) e i = refl

  pub in_mems_at : mems_in (placed_mem s m n) m ≡ mems_in s m ++ n ∷ []
  in_mems_at = change_at mems_by f1 m (mem_with_mems (λ xs. xs ++ n ∷ [])) (λ xs. xs ++ n ∷ []) (λ x. refl) is1
      ∙ ap (λ xs. xs ++ n ∷ []) (change_keeps mems_by s.mems n (mem_with_place (within m)) (λ x. refl) m)

  pub in_mems_away : (y : ℕ) → y ≢ m → mems_in (placed_mem s m n) y ≡ mems_in s y
  in_mems_away y d = change_away mems_by f1 m (mem_with_mems (λ xs. xs ++ n ∷ [])) y d ∙ change_keeps mems_by s.mems n (mem_with_place (within m)) (λ x. refl) y

  in_keeps : {X : Type 0} (v : Option HeapMem → X) → ((x : HeapMem) (p : Place) → v (Some (mem_with_place p x)) ≡ v (Some x)) → ((x : HeapMem) (g : List ℕ → List ℕ) → v (Some (mem_with_mems g x)) ≡ v (Some x)) → (y : ℕ)
      → v ((placed_mem s m n).mems y) ≡ v (s.mems y)
  in_keeps v hp hm y = change_keeps v f1 m (mem_with_mems (λ xs. xs ++ n ∷ [])) (λ x. hm x (λ xs. xs ++ n ∷ [])) y ∙ change_keeps v s.mems n (mem_with_place (within m)) (λ x. hp x (within m)) y

  pub in_atoms : (y : ℕ) → atoms_in (placed_mem s m n) y ≡ atoms_in s y
  in_atoms = in_keeps atoms_by (λ x p. refl) (λ x g. refl)

  pub in_rules : (y : ℕ) → rules_in (placed_mem s m n) y ≡ rules_in s y
  in_rules = in_keeps rules_by (λ x p. refl) (λ x g. refl)

  pub in_there : (y : ℕ) → there_by ((placed_mem s m n).mems y) ≡ there_by (s.mems y)
  in_there = in_keeps there_by (λ x p. refl) (λ x g. refl)

-- `move_all`

-- a place that is handed on changes nothing else of a membrane
pub sent_keeps : (m n : ℕ) {X : Type 0} (v : Option HeapMem → X) → ((x : HeapMem) (p : Place) → v (Some (mem_with_place p x)) ≡ v (Some x)) → (o : Option HeapMem) → v (option_map (mem_sent m n) o) ≡ v o
sent_keeps m n v h None = refl
sent_keeps m n v h (Some x) = h x (sent m n x.place)

module _ (s : Heap) (m n : ℕ) (differ : m ≢ n) (im : IsSome (s.mems m)) (is : IsSome (s.mems n)) where
  abbrev g1 : ℕ → Option HeapMem
  g1 = alter s.mems m (option_map emptied)

  abbrev g2 : ℕ → Option HeapMem
  g2 = alter g1 n (option_map (filled (atoms_in s m) (mems_in s m)))

  is2 : IsSome (g1 n)
  is2 = subst (λ (o : Option HeapMem). IsSome o) (sym (alter_away s.mems m (option_map emptied) n (λ e. differ (sym e)))) is

  pub move_atoms_at : atoms_in (moved_all s m n) n ≡ atoms_in s n ++ atoms_in s m
  move_atoms_at = sent_keeps m n atoms_by (λ x p. refl) (g2 n) ∙ change_at atoms_by g1 n (filled (atoms_in s m) (mems_in s m)) (λ xs. xs ++ atoms_in s m) (λ x. refl) is2
      ∙ ap (λ xs. xs ++ atoms_in s m) (change_away atoms_by s.mems m emptied n (λ e. differ (sym e)))

  pub move_mems_at : mems_in (moved_all s m n) n ≡ mems_in s n ++ mems_in s m
  move_mems_at = sent_keeps m n mems_by (λ x p. refl) (g2 n) ∙ change_at mems_by g1 n (filled (atoms_in s m) (mems_in s m)) (λ xs. xs ++ mems_in s m) (λ x. refl) is2
      ∙ ap (λ xs. xs ++ mems_in s m) (change_away mems_by s.mems m emptied n (λ e. differ (sym e)))

  pub move_atoms_from : atoms_in (moved_all s m n) m ≡ []
  move_atoms_from = sent_keeps m n atoms_by (λ x p. refl) (g2 m) ∙ change_away atoms_by g1 n (filled (atoms_in s m) (mems_in s m)) m differ ∙ change_at atoms_by s.mems m emptied (λ xs. []) (λ x. refl) im

  pub move_mems_from : mems_in (moved_all s m n) m ≡ []
  move_mems_from = sent_keeps m n mems_by (λ x p. refl) (g2 m) ∙ change_away mems_by g1 n (filled (atoms_in s m) (mems_in s m)) m differ ∙ change_at mems_by s.mems m emptied (λ xs. []) (λ x. refl) im

  pub move_atoms_away : (y : ℕ) → y ≢ m → y ≢ n → atoms_in (moved_all s m n) y ≡ atoms_in s y
  move_atoms_away y dm dn = sent_keeps m n atoms_by (λ x p. refl) (g2 y) ∙ change_away atoms_by g1 n (filled (atoms_in s m) (mems_in s m)) y dn ∙ change_away atoms_by s.mems m emptied y dm

  pub move_mems_away : (y : ℕ) → y ≢ m → y ≢ n → mems_in (moved_all s m n) y ≡ mems_in s y
  move_mems_away y dm dn = sent_keeps m n mems_by (λ x p. refl) (g2 y) ∙ change_away mems_by g1 n (filled (atoms_in s m) (mems_in s m)) y dn ∙ change_away mems_by s.mems m emptied y dm

  move_keeps : {X : Type 0} (v : Option HeapMem → X) → ((x : HeapMem) (p : Place) → v (Some (mem_with_place p x)) ≡ v (Some x)) → ((x : HeapMem) → v (Some (emptied x)) ≡ v (Some x))
      → ((x : HeapMem) (xs ys : List ℕ) → v (Some (filled xs ys x)) ≡ v (Some x)) → (y : ℕ) → v ((moved_all s m n).mems y) ≡ v (s.mems y)
  move_keeps v hp he hf y = sent_keeps m n v hp (g2 y) ∙ change_keeps v g1 n (filled (atoms_in s m) (mems_in s m)) (λ x. hf x (atoms_in s m) (mems_in s m)) y ∙ change_keeps v s.mems m emptied he y

  pub move_rules : (y : ℕ) → rules_in (moved_all s m n) y ≡ rules_in s y
  move_rules = move_keeps rules_by (λ x p. refl) (λ x. refl) (λ x xs ys. refl)

  pub move_there : (y : ℕ) → there_by ((moved_all s m n).mems y) ≡ there_by (s.mems y)
  move_there = move_keeps there_by (λ x p. refl) (λ x. refl) (λ x xs ys. refl)

-- rules

module _ (s : Heap) (m : ℕ) (ks : List ℕ) where
  abbrev with_rules : Heap
  with_rules = record s { mems = alter s.mems m (option_map (mem_with_rules ks)) }

  pub rules_at : IsSome (s.mems m) → rules_in with_rules m ≡ rules_in s m ++ ks
  rules_at is = change_at rules_by s.mems m (mem_with_rules ks) (λ xs. xs ++ ks) (λ x. refl) is

  pub rules_away : (y : ℕ) → y ≢ m → rules_in with_rules y ≡ rules_in s y
  rules_away y d = change_away rules_by s.mems m (mem_with_rules ks) y d

  pub rules_keep : {X : Type 0} (v : Option HeapMem → X) → ((x : HeapMem) → v (Some (mem_with_rules ks x)) ≡ v (Some x)) → (y : ℕ) → v (with_rules.mems y) ≡ v (s.mems y)
  rules_keep v h y = change_keeps v s.mems m (mem_with_rules ks) h y
