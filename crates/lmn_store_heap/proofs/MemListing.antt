-- The lists of a store agree with the places of its items, after each call on membranes.
use Rattle.std.proofs.Common.{◌≡◌, ◌≢◌, ℕ, List, [], ◌∷◌, ◌++◌, Option, Some, None, IsSome, refl, sym, ap, subst, ◌∙◌, inl, inr}
use Rattle.std.proofs.lemmas.Bool.{cases_eq}
use Rattle.std.specs.Option.{option_map}
use Rattle.lmn_store_heap.specs.Lists.{Distinct, from, without}
use Rattle.lmn_store_heap.specs.Heap.{Heap, HeapMem, Place, top, within, waiting, gone, alter, place_of, mem_place_of, parent_of, atoms_in, mems_in, atoms_by, mems_by, mem_with_place, mem_with_mems, mem_out, new_mem, made_mem, placed_mem, taken_mem}
use Rattle.lmn_store_heap.specs.Sound.{Listed}
use Rattle.lmn_store_heap.proofs.Heights.{parent_place, mem_of_list}
use Rattle.lmn_store_heap.proofs.Listing.{alter_at, alter_away, alter_keeps, Turns, gains, loses, keeps, turned, distinct_without, distinct_snoc, without_first, gone_apart, waiting_apart, within_same}
use Rattle.lmn_base.specs.Lists.{In}

-- a membrane goes to another place
pub record OneMemMoves (s t : Heap) (n : ℕ) (Q : Place) : Type 0 where
  pub at : mem_place_of t n ≡ Some Q
  pub away : (x : ℕ) → x ≢ n → mem_place_of t x ≡ mem_place_of s x
  pub lists : (m : ℕ) → Turns n (Q ≡ within m) (mems_in s m) (mems_in t m)
  pub once : (m : ℕ) → Distinct (mems_in t m)
  pub line : Turns n (Q ≡ waiting) s.new_mems t.new_mems
  pub line_once : Distinct t.new_mems
  pub lower : Q ≡ top → ⊥
  pub not_root : n ≢ s.root
  pub places : (a : ℕ) → place_of t a ≡ place_of s a
  pub atoms : (m : ℕ) → atoms_in t m ≡ atoms_in s m
  pub new_atoms : t.new_atoms ≡ s.new_atoms
  pub root : t.root ≡ s.root
  pub new_empty : (m : ℕ) → mem_place_of t m ≡ Some waiting → (atoms_in t m ≡ []) × (mems_in t m ≡ [])

-- lists stay right when one membrane moves
pub one_mem_moves : (s t : Heap) (n : ℕ) (Q : Place) → OneMemMoves s t n Q → Listed s → Listed t
one_mem_moves s t n Q o h = record {
  atoms = λ m a. rw (o.atoms m, o.places a) (h.atoms m a);
  atoms_once = λ m. rw (o.atoms m) (h.atoms_once m);
  mems = λ m. turned n Q (within m) (mems_in s m) (mems_in t m) (mem_place_of s) (mem_place_of t) o.at o.away (o.lists m) (h.mems m);
  mems_once = o.once;
  new_atoms = λ a. rw (o.new_atoms, o.places a) (h.new_atoms a);
  new_atoms_once = rw o.new_atoms h.new_atoms_once;
  new_mems = turned n Q waiting s.new_mems t.new_mems (mem_place_of s) (mem_place_of t) o.at o.away o.line h.new_mems;
  new_mems_once = o.line_once;
  root = λ m. elim (cases_eq m n) [
    | inl e ↦ (
      λ p. absurd (o.lower (let w : Some Q ≡ Some top = sym o.at ∙ ap (mem_place_of t) (sym e) ∙ p in cc)),
      λ z. absurd (o.not_root (sym e ∙ z ∙ o.root)),
    )
    | inr d ↦ rw (o.away m d, o.root) (h.root m)
  ];
  no_top = λ a e. h.no_top a (sym (o.places a) ∙ e);
  new_empty = o.new_empty;
}

-- a membrane gets another place, and a list of membranes changes
module _ (f : ℕ → Option HeapMem) (n : ℕ) (Q : Place) where
  abbrev put : ℕ → Option HeapMem
  put = alter f n (option_map (mem_with_place Q))

  put_at : (P : Place) → option_map (λ x. x.place) (f n) ≡ Some P → option_map (λ x. x.place) (put n) ≡ Some Q
  put_at P e = ap (λ (o : Option HeapMem). option_map (λ x. x.place) o) (alter_at f n (option_map (mem_with_place Q))) ∙ by (f n) e
    where
      by : (o : Option HeapMem) → option_map (λ x. x.place) o ≡ Some P → option_map (λ x. x.place) (option_map (mem_with_place Q) o) ≡ Some Q
      by None e = absurd (cc)
      by (Some x) e = refl

  put_away : (x : ℕ) → x ≢ n → option_map (λ y. y.place) (put x) ≡ option_map (λ y. y.place) (f x)
  put_away x d = ap (λ (o : Option HeapMem). option_map (λ y. y.place) o) (alter_away f n (option_map (mem_with_place Q)) x d)

  put_atoms : (x : ℕ) → atoms_by (put x) ≡ atoms_by (f x)
  put_atoms x = alter_keeps f n (option_map (mem_with_place Q)) atoms_by by x
    where
      by : (o : Option HeapMem) → atoms_by (option_map (mem_with_place Q) o) ≡ atoms_by o
      by None = refl
      by (Some y) = refl

  put_mems : (x : ℕ) → mems_by (put x) ≡ mems_by (f x)
  put_mems x = alter_keeps f n (option_map (mem_with_place Q)) mems_by by x
    where
      by : (o : Option HeapMem) → mems_by (option_map (mem_with_place Q) o) ≡ mems_by o
      by None = refl
      by (Some y) = refl

module _ (f : ℕ → Option HeapMem) (m : ℕ) (g : List ℕ → List ℕ) where
  abbrev turn : ℕ → Option HeapMem
  turn = alter f m (option_map (mem_with_mems g))

  turn_place : (x : ℕ) → option_map (λ y. y.place) (turn x) ≡ option_map (λ y. y.place) (f x)
  turn_place x = alter_keeps f m (option_map (mem_with_mems g)) (λ (o : Option HeapMem). option_map (λ y. y.place) o) by x
    where
      by : (o : Option HeapMem) → option_map (λ y. y.place) (option_map (mem_with_mems g) o) ≡ option_map (λ y. y.place) o
      by None = refl
      by (Some y) = refl

  turn_atoms : (x : ℕ) → atoms_by (turn x) ≡ atoms_by (f x)
  turn_atoms x = alter_keeps f m (option_map (mem_with_mems g)) atoms_by by x
    where
      by : (o : Option HeapMem) → atoms_by (option_map (mem_with_mems g) o) ≡ atoms_by o
      by None = refl
      by (Some y) = refl

  turn_at : IsSome (f m) → mems_by (turn m) ≡ g (mems_by (f m))
  turn_at is = ap mems_by (alter_at f m (option_map (mem_with_mems g))) ∙ by (f m) is
    where
      by : (o : Option HeapMem) → IsSome o → mems_by (option_map (mem_with_mems g) o) ≡ g (mems_by o)
      by None i = absurd (cc)
      by (Some y) i = refl

  turn_away : (x : ℕ) → x ≢ m → mems_by (turn x) ≡ mems_by (f x)
  turn_away x d = ap mems_by (alter_away f m (option_map (mem_with_mems g)) x d)

not_within : (s : Heap) (h : Listed s) (n : ℕ) (P : Place) → mem_place_of s n ≡ Some P → (m : ℕ) → (P ≡ within m → ⊥) → In n (mems_in s m) → ⊥
not_within s h n P e m d i = d (let w : Some P ≡ Some (within m) = sym e ∙ (h.mems m n).0 i in cc)

root_apart : (s : Heap) → Listed s → (n : ℕ) (P : Place) → mem_place_of s n ≡ Some P → (P ≡ top → ⊥) → n ≢ s.root
root_apart s h n P e d z = d (let w : Some P ≡ Some top = sym e ∙ (h.root n).1 z in cc)

-- `place_mem`
pub placed_mem_listed : (s : Heap) (m n : ℕ) → Listed s → IsSome (s.mems m) → (mem_place_of s m ≡ Some waiting → ⊥) → from (Some n) s.new_mems ≡ s.new_mems → Listed (placed_mem s m n)
placed_mem_listed s m n h is here first =
    let waits : mem_place_of s n ≡ Some waiting = (h.new_mems n).0 (subst (In n) first (inl refl)) in
    let out : (k : ℕ) → In n (mems_in s k) → ⊥ = λ k. not_within s h n waiting waits k (waiting_apart k) in
    let g : List ℕ → List ℕ = λ xs. xs ++ n ∷ [] in
    let f1 : ℕ → Option HeapMem = alter s.mems n (option_map (mem_with_place (within m))) in
    let apart : m ≢ n = λ e. here (ap (mem_place_of s) e ∙ waits) in
    let is1 : IsSome (f1 m) = subst (λ (o : Option HeapMem). IsSome o) (sym (alter_away s.mems n (option_map (mem_with_place (within m))) m apart)) is in
    let t = placed_mem s m n in
    let place : (x : ℕ) → mem_place_of t x ≡ option_map (λ y. y.place) (f1 x) = turn_place f1 m g in
    let at_m : mems_in t m ≡ g (mems_in s m) = turn_at f1 m g is1 ∙ ap g (put_mems s.mems n (within m) m) in
    let off_m : (k : ℕ) → k ≢ m → mems_in t k ≡ mems_in s k = λ k d. turn_away f1 m g k d ∙ put_mems s.mems n (within m) k in
    one_mem_moves s t n (within m) (record {
      at = place n ∙ put_at s.mems n (within m) waiting waits;
      away = λ x d. place x ∙ put_away s.mems n (within m) x d;
      lists = λ k. elim (cases_eq k m) [
        | inl e ↦ subst (λ z. Turns n (within m ≡ within z) (mems_in s z) (mems_in t z)) (sym e) (rw at_m (gains n (within m ≡ within m) (mems_in s m) (out m) refl))
        | inr d ↦ rw (off_m k d) (keeps n (within m ≡ within k) (mems_in s k) (out k) (λ e. d (sym (within_same m k e))))
      ];
      once = λ k. elim (cases_eq k m) [
        | inl e ↦ subst (λ z. Distinct (mems_in t z)) (sym e) (rw at_m (distinct_snoc n (mems_in s m) (h.mems_once m) (out m)))
        | inr d ↦ rw (off_m k d) (h.mems_once k)
      ];
      line = subst (Turns n (within m ≡ waiting) s.new_mems) (without_first n s.new_mems first) (loses n (within m ≡ waiting) s.new_mems h.new_mems_once (λ e. waiting_apart m (sym e)));
      line_once = subst Distinct (without_first n s.new_mems first) (distinct_without n s.new_mems h.new_mems_once);
      lower = λ e. absurd (cc);
      not_root = root_apart s h n waiting waits (λ e. absurd (cc));
      places = λ a. refl;
      atoms = λ k. turn_atoms f1 m g k ∙ put_atoms s.mems n (within m) k;
      new_atoms = refl;
      root = refl;
      new_empty = λ k w. elim (cases_eq k n) [
        | inl e ↦ absurd (let u : Some (within m) ≡ Some waiting = sym (place n ∙ put_at s.mems n (within m) waiting waits) ∙ ap (mem_place_of t) (sym e) ∙ w in cc)
        | inr d ↦ (
            let old : mem_place_of s k ≡ Some waiting = sym (place k ∙ put_away s.mems n (within m) k d) ∙ w in
            let b = h.new_empty k old in
            (turn_atoms f1 m g k ∙ put_atoms s.mems n (within m) k ∙ b.0, off_m k (λ e. here (ap (mem_place_of s) (sym e) ∙ old)) ∙ b.1))
      ];
    }) h

-- `take_mem`
pub taken_mem_listed : (s : Heap) (m n : ℕ) → Listed s → parent_of s n ≡ Some m → Listed (taken_mem s n)
taken_mem_listed s m n h home =
    let there : mem_place_of s n ≡ Some (within m) = parent_place s n m home in
    let inside : In n (mems_in s m) = (h.mems m n).1 there in
    let is : IsSome (s.mems m) = mem_of_list s m n inside in
    let out : (k : ℕ) → k ≢ m → In n (mems_in s k) → ⊥ = λ k d. not_within s h n (within m) there k (λ e. d (sym (within_same m k e))) in
    let f1 : ℕ → Option HeapMem = alter s.mems m (option_map (mem_with_mems (without n))) in
    let t : Heap = record s { mems = alter f1 n (option_map (mem_with_place gone)) } in
    let same : taken_mem s n ≡ t = ap (λ (o : Option ℕ). record s { mems = alter (mem_out s.mems o n) n (option_map (mem_with_place gone)) }) home in
    let was : option_map (λ y. y.place) (f1 n) ≡ Some (within m) = turn_place s.mems m (without n) n ∙ there in
    let at_m : mems_in t m ≡ without n (mems_in s m) = put_mems f1 n gone m ∙ turn_at s.mems m (without n) is in
    let off_m : (k : ℕ) → k ≢ m → mems_in t k ≡ mems_in s k = λ k d. put_mems f1 n gone k ∙ turn_away s.mems m (without n) k d in
    subst Listed (sym same) (one_mem_moves s t n gone (record {
      at = put_at f1 n gone (within m) was;
      away = λ x d. put_away f1 n gone x d ∙ turn_place s.mems m (without n) x;
      lists = λ k. elim (cases_eq k m) [
        | inl e ↦ subst (λ z. Turns n (gone ≡ within z) (mems_in s z) (mems_in t z)) (sym e) (rw at_m (loses n (gone ≡ within m) (mems_in s m) (h.mems_once m) (gone_apart m)))
        | inr d ↦ rw (off_m k d) (keeps n (gone ≡ within k) (mems_in s k) (out k d) (gone_apart k))
      ];
      once = λ k. elim (cases_eq k m) [
        | inl e ↦ subst (λ z. Distinct (mems_in t z)) (sym e) (rw at_m (distinct_without n (mems_in s m) (h.mems_once m)))
        | inr d ↦ rw (off_m k d) (h.mems_once k)
      ];
      line = keeps n (gone ≡ waiting) s.new_mems (λ i. let w : Some (within m) ≡ Some waiting = sym there ∙ (h.new_mems n).0 i in absurd (cc)) (λ e. absurd (cc));
      line_once = h.new_mems_once;
      lower = λ e. absurd (cc);
      not_root = root_apart s h n (within m) there (λ e. absurd (cc));
      places = λ a. refl;
      atoms = λ k. put_atoms f1 n gone k ∙ turn_atoms s.mems m (without n) k;
      new_atoms = refl;
      root = refl;
      new_empty = λ k w. elim (cases_eq k n) [
        | inl e ↦ absurd (let u : Some gone ≡ Some waiting = sym (put_at f1 n gone (within m) was) ∙ ap (mem_place_of t) (sym e) ∙ w in cc)
        | inr d ↦ (
            let old : mem_place_of s k ≡ Some waiting = sym (put_away f1 n gone k d ∙ turn_place s.mems m (without n) k) ∙ w in
            let b = h.new_empty k old in
            let apart : k ≢ m = λ e. (let none : mems_in s m ≡ [] = (h.new_empty m (ap (mem_place_of s) (sym e) ∙ old)).1 in subst (In n) none inside) in
            (put_atoms f1 n gone k ∙ turn_atoms s.mems m (without n) k ∙ b.0, off_m k apart ∙ b.1))
      ];
    }) h)

-- `make_mem`
pub made_mem_listed : (s : Heap) (n : ℕ) → Listed s → s.mems n ≡ None → Listed (made_mem s n)
made_mem_listed s n h fresh =
    let none : mem_place_of s n ≡ None = ap (λ (o : Option HeapMem). option_map (λ x. x.place) o) fresh in
    let never : (P : Place) → mem_place_of s n ≡ Some P → ⊥ = λ P e. let w : None ≡ Some P = sym none ∙ e in absurd (cc) in
    let t = made_mem s n in
    let read : (Y : Type 0) (v : Option HeapMem → Y) → v None ≡ v (Some new_mem) → (x : ℕ) → v (t.mems x) ≡ v (s.mems x) = λ Y v e x. elim (cases_eq x n) [
      | inl q ↦ subst (λ z. v (t.mems z) ≡ v (s.mems z)) (sym q) (ap v (alter_at s.mems n (λ _. Some new_mem)) ∙ sym e ∙ sym (ap v fresh))
      | inr d ↦ ap v (alter_away s.mems n (λ _. Some new_mem) x d)
    ] in
    one_mem_moves s t n waiting (record {
      at = ap (λ (o : Option HeapMem). option_map (λ x. x.place) o) (alter_at s.mems n (λ _. Some new_mem));
      away = λ x d. ap (λ (o : Option HeapMem). option_map (λ y. y.place) o) (alter_away s.mems n (λ _. Some new_mem) x d);
      lists = λ k. rw (read (List ℕ) mems_by refl k) (keeps n (waiting ≡ within k) (mems_in s k) (λ i. never (within k) ((h.mems k n).0 i)) (waiting_apart k));
      once = λ k. rw (read (List ℕ) mems_by refl k) (h.mems_once k);
      line = gains n (waiting ≡ waiting) s.new_mems (λ i. never waiting ((h.new_mems n).0 i)) refl;
      line_once = distinct_snoc n s.new_mems h.new_mems_once (λ i. never waiting ((h.new_mems n).0 i));
      lower = λ e. absurd (cc);
      not_root = λ z. never top ((h.root n).1 z);
      places = λ a. refl;
      atoms = read (List ℕ) atoms_by refl;
      new_atoms = refl;
      root = refl;
      new_empty = λ k w. elim (cases_eq k n) [
        | inl e ↦ (
          subst (λ z. atoms_in t z ≡ []) (sym e) (ap atoms_by (alter_at s.mems n (λ _. Some new_mem))),
          subst (λ z. mems_in t z ≡ []) (sym e) (ap mems_by (alter_at s.mems n (λ _. Some new_mem))),
        )
        | inr d ↦ (
            let b = h.new_empty k (sym (ap (λ (o : Option HeapMem). option_map (λ y. y.place) o) (alter_away s.mems n (λ _. Some new_mem) k d)) ∙ w) in
            (read (List ℕ) atoms_by refl k ∙ b.0, read (List ℕ) mems_by refl k ∙ b.1))
      ];
    }) h
