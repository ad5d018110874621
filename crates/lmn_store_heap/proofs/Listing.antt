-- The lists of a store agree with the places of its items, after each call.
use Rattle.std.proofs.Common.{◌≡◌, ◌≢◌, ◌⊎◌, ℕ, ◌==◌, ◌↔◌, Bool, true, false, cond, List, [], ◌∷◌, ◌++◌, Option, Some, None, IsSome, refl, sym, ap, subst, ◌∙◌, inl, inr}
use Rattle.std.proofs.lemmas.Bool.{cases_eq, eq-eqb, eqb-true}
use Rattle.std.specs.Option.{option_map, option_and_then}
use Rattle.lmn_store_heap.proofs.ListLemmas.{each_in, each_of, in_left}
use Rattle.lmn_store_heap.proofs.ListLemmas.{in_without}
use Rattle.lmn_base.specs.declared.functor.Functor.{Functor}
use Rattle.std.specs.Prelude.{slice_index_or}
use Rattle.lmn_store_heap.specs.Heap.{made_atom, new_atom, partners_of, Heap, HeapAtom, HeapMem, Place, top, within, waiting, gone, alter, with_place, mem_with_atoms, place_of, mem_place_of, home_of, home_by, atoms_in, mems_in, atoms_by, mems_by, atom_out, linked, cleared, with_link, placed, taken, joined, link_of, Distinct, from, after, without}
use Rattle.lmn_store_heap.specs.Sound.{Paired, Listed}
use Rattle.lmn_store_heap.proofs.Trees.{in_here}
use Rattle.lmn_base.proofs.Numbers.{not_equal as apart_test}
use Rattle.lmn_store_heap.specs.Lists.{without_all}
use Rattle.lmn_base.specs.Lists.{In}
use Rattle.lmn_base.proofs.Lists.{in_either}

-- Reading an alter

-- a function altered at k, at k
pub alter_at : {X : Type 0} (f : ℕ → X) (k : ℕ) (g : X → X) → alter f k g k ≡ g (f k)
alter_at f k g = rw (eq-eqb k k refl) refl

-- and elsewhere
pub alter_away : {X : Type 0} (f : ℕ → X) (k : ℕ) (g : X → X) (j : ℕ) → j ≢ k → alter f k g j ≡ f j
alter_away f k g j d = rw (apart_test j k d) refl

-- a change that keeps a part of every item
pub alter_keeps : {X Y : Type 0} (f : ℕ → X) (k : ℕ) (g : X → X) (v : X → Y) → ((x : X) → v (g x) ≡ v x) → (j : ℕ) → v (alter f k g j) ≡ v (f j)
alter_keeps f k g v h j = by (j == k)
  where
    by : (t : Bool) → v (cond t (g (f j)) (f j)) ≡ v (f j)
    by true = h (f j)
    by false = refl

-- Elements of lists

-- what is left isn't what was taken out
pub in_without_of : (a x : ℕ) (xs : List ℕ) → Distinct xs → In x (without a xs) → In x xs × (x ≢ a)
in_without_of a x [] d i = absurd i
in_without_of a x (y ∷ ys) d i = by (y == a) refl i (in_without_of a x ys d.1)
  where
    by : (t : Bool) → (y == a) ≡ t → In x (cond t ys (y ∷ without a ys)) → (In x (without a ys) → In x ys × (x ≢ a)) → In x (y ∷ ys) × (x ≢ a)
    by true e j rest = (inr j, λ same. each_in (λ z. y ≢ z) ys x d.0 j (eqb-true y a e ∙ sym same))
    by false e (inl h) rest = (inl h, λ same. let w : (y == a) ≡ true = eq-eqb y a (h ∙ same) in let v : false ≡ true = sym e ∙ w in absurd (cc))
    by false e (inr j) rest = (inr (rest j).0, (rest j).1)

-- a list without repeats stays so
pub distinct_without : (a : ℕ) (xs : List ℕ) → Distinct xs → Distinct (without a xs)
distinct_without a [] d = tt
distinct_without a (y ∷ ys) d = by (y == a) (distinct_without a ys d.1)
  where
    by : (t : Bool) → Distinct (without a ys) → Distinct (cond t ys (y ∷ without a ys))
    by true r = d.1
    by false r = (each_of _ (without a ys) (λ z i. each_in (λ w. y ≢ w) ys z d.0 (in_without_of a z ys d.1 i).0), r)

-- a new element at the end makes no repeat
pub distinct_snoc : (a : ℕ) (xs : List ℕ) → Distinct xs → (In a xs → ⊥) → Distinct (xs ++ a ∷ [])
distinct_snoc a [] d out = (tt, tt)
distinct_snoc a (x ∷ xs) d out = (
  each_of _ (xs ++ a ∷ []) (λ z i. elim (in_either z xs (a ∷ []) i) [
    | inl j ↦ each_in (λ w. x ≢ w) xs z d.0 j
    | inr j ↦ elim j [ inl e ↦ (λ same. out (inl (same ∙ sym e))) | inr k ↦ absurd k ]
  ]),
  distinct_snoc a xs d.1 (λ i. out (inr i)),
)

-- Calls that change no place and no list keep all

-- places and lists that are as before
pub same_listed : (s t : Heap) → Listed s → ((a : ℕ) → place_of t a ≡ place_of s a) → ((m : ℕ) → mem_place_of t m ≡ mem_place_of s m)
    → ((m : ℕ) → atoms_in t m ≡ atoms_in s m) → ((m : ℕ) → mems_in t m ≡ mems_in s m) → t.root ≡ s.root → t.new_atoms ≡ s.new_atoms → t.new_mems ≡ s.new_mems → Listed t
same_listed s t h p q as_ ms r na nm = record {
  atoms = λ m a. rw (as_ m, p a) (h.atoms m a);
  atoms_once = λ m. rw (as_ m) (h.atoms_once m);
  mems = λ m n. rw (ms m, q n) (h.mems m n);
  mems_once = λ m. rw (ms m) (h.mems_once m);
  new_atoms = λ a. rw (na, p a) (h.new_atoms a);
  new_atoms_once = rw na h.new_atoms_once;
  new_mems = λ m. rw (nm, q m) (h.new_mems m);
  new_mems_once = rw nm h.new_mems_once;
  root = λ m. rw (q m, r) (h.root m);
  no_top = λ a. rw (p a) (h.no_top a);
  new_empty = λ m. rw (q m, as_ m, ms m) (h.new_empty m);
}

linked_place : (f : ℕ → Option HeapAtom) (a i : ℕ) (p : Option (ℕ × ℕ)) (b : ℕ) → option_map (λ x. x.place) (linked f a i p b) ≡ option_map (λ x. x.place) (f b)
linked_place f a i p b = alter_keeps f a (option_map (with_link i p)) (λ o. option_map (λ x. x.place) o) by b
  where
    by : (x : Option HeapAtom) → option_map (λ y. y.place) (option_map (with_link i p) x) ≡ option_map (λ y. y.place) x
    by None = refl
    by (Some x) = refl

cleared_place : (f : ℕ → Option HeapAtom) (p : Option (ℕ × ℕ)) (b : ℕ) → option_map (λ x. x.place) (cleared f p b) ≡ option_map (λ x. x.place) (f b)
cleared_place f None b = refl
cleared_place f (Some p) b = linked_place f p.0 p.1 None b

-- `join` changes no place
pub joined_place : (s : Heap) (a i b j c : ℕ) → place_of (joined s a i b j) c ≡ place_of s c
joined_place s a i b j c =
    linked_place (linked (cleared (cleared s.atoms (link_of s a i)) (link_of s b j)) a i (Some (b, j))) b j (Some (a, i)) c
    ∙ linked_place (cleared (cleared s.atoms (link_of s a i)) (link_of s b j)) a i (Some (b, j)) c
    ∙ cleared_place (cleared s.atoms (link_of s a i)) (link_of s b j) c ∙ cleared_place s.atoms (link_of s a i) c

-- `join`
pub joined_listed : (s : Heap) (a i b j : ℕ) → Listed s → Listed (joined s a i b j)
joined_listed s a i b j h = same_listed s (joined s a i b j) h (joined_place s a i b j) (λ m. refl) (λ m. refl) (λ m. refl) refl refl refl

-- One atom goes to another place

-- ys is xs where a goes in, if T, and out, if not
abbrev pub Turns : ℕ → Type 0 → List ℕ → List ℕ → Type 0
Turns a T xs ys = (x : ℕ) → In x ys ↔ (((x ≡ a) × T) ⊎ ((x ≢ a) × In x xs))

-- a list gains an element
pub gains : (a : ℕ) (T : Type 0) (xs : List ℕ) → (In a xs → ⊥) → T → Turns a T xs (xs ++ a ∷ [])
gains a T xs out it x = (
  λ i. elim (in_either x xs (a ∷ []) i) [
    | inl j ↦ inr (λ e. out (subst (λ z. In z xs) e j), j)
    | inr j ↦ elim j [ inl e ↦ inl (sym e, it) | inr k ↦ absurd k ]
  ],
  λ w. elim w [ inl e ↦ subst (λ z. In z (xs ++ a ∷ [])) (sym e.0) (in_here a xs []) | inr j ↦ in_left x xs (a ∷ []) j.1 ],
)

-- a list loses one
pub loses : (a : ℕ) (T : Type 0) (xs : List ℕ) → Distinct xs → (T → ⊥) → Turns a T xs (without a xs)
loses a T xs d not x = (
  λ i. let w = in_without_of a x xs d i in inr (w.1, w.0),
  λ w. elim w [ inl e ↦ absurd (not e.1) | inr j ↦ in_without a x xs j.1 j.0 ],
)

-- a list keeps what it has
pub keeps : (a : ℕ) (T : Type 0) (xs : List ℕ) → (In a xs → ⊥) → (T → ⊥) → Turns a T xs xs
keeps a T xs out not x = (
  λ i. inr (λ e. out (subst (λ z. In z xs) e i), i),
  λ w. elim w [ inl e ↦ absurd (not e.1) | inr j ↦ j.1 ],
)

-- where one item goes to another place, a list that turns so is again that of its place
pub turned : (a : ℕ) (Q R : Place) (xs ys : List ℕ) (u v : ℕ → Option Place) → v a ≡ Some Q → ((x : ℕ) → x ≢ a → v x ≡ u x)
    → Turns a (Q ≡ R) xs ys → ((x : ℕ) → In x xs ↔ (u x ≡ Some R)) → (x : ℕ) → In x ys ↔ (v x ≡ Some R)
turned a Q R xs ys u v at away t h x = (
  λ i. elim ((t x).0 i) [
    | inl e ↦ ap v e.0 ∙ at ∙ ap (λ z. Some z) e.1
    | inr j ↦ away x j.0 ∙ (h x).0 j.1
  ],
  λ e. (t x).1 (elim (cases_eq x a) [
    | inl same ↦ inl (same, let w : Some Q ≡ Some R = sym at ∙ ap v (sym same) ∙ e in cc)
    | inr d ↦ inr (d, (h x).1 (sym (away x d) ∙ e))
  ]),
)

-- One atom goes to another place.
pub record OneMoves (s t : Heap) (a : ℕ) (Q : Place) : Type 0 where
  pub at : place_of t a ≡ Some Q
  pub away : (x : ℕ) → x ≢ a → place_of t x ≡ place_of s x
  pub lists : (m : ℕ) → Turns a (Q ≡ within m) (atoms_in s m) (atoms_in t m)
  pub once : (m : ℕ) → Distinct (atoms_in t m)
  pub line : Turns a (Q ≡ waiting) s.new_atoms t.new_atoms
  pub line_once : Distinct t.new_atoms
  pub lower : Q ≡ top → ⊥
  pub mem_places : (m : ℕ) → mem_place_of t m ≡ mem_place_of s m
  pub mems : (m : ℕ) → mems_in t m ≡ mems_in s m
  pub new_mems : t.new_mems ≡ s.new_mems
  pub root : t.root ≡ s.root
  pub new_empty : (m : ℕ) → mem_place_of s m ≡ Some waiting → atoms_in t m ≡ []

-- lists stay right when one atom moves
pub one_moves : (s t : Heap) (a : ℕ) (Q : Place) → OneMoves s t a Q → Listed s → Listed t
one_moves s t a Q o h = record {
  atoms = λ m. turned a Q (within m) (atoms_in s m) (atoms_in t m) (place_of s) (place_of t) o.at o.away (o.lists m) (h.atoms m);
  atoms_once = o.once;
  mems = λ m n. rw (o.mems m, o.mem_places n) (h.mems m n);
  mems_once = λ m. rw (o.mems m) (h.mems_once m);
  new_atoms = turned a Q waiting s.new_atoms t.new_atoms (place_of s) (place_of t) o.at o.away o.line h.new_atoms;
  new_atoms_once = o.line_once;
  new_mems = λ m. rw (o.new_mems, o.mem_places m) (h.new_mems m);
  new_mems_once = rw o.new_mems h.new_mems_once;
  root = λ m. rw (o.mem_places m, o.root) (h.root m);
  no_top = λ x e. elim (cases_eq x a) [
    | inl same ↦ o.lower (let w : Some Q ≡ Some top = sym o.at ∙ ap (place_of t) (sym same) ∙ e in cc)
    | inr d ↦ h.no_top x (sym (o.away x d) ∙ e)
  ];
  new_empty = λ m e. let w : mem_place_of s m ≡ Some waiting = sym (o.mem_places m) ∙ e in (o.new_empty m w, o.mems m ∙ (h.new_empty m w).1);
}

place_map : (h : Place) (o : Option HeapAtom) (P : Place) → option_map (λ x. x.place) o ≡ Some P → option_map (λ x. x.place) (option_map (with_place h) o) ≡ Some h
place_map h None P e = absurd (cc)
place_map h (Some x) P e = refl

-- an atom gets another place
pub place_at : (f : ℕ → Option HeapAtom) (a : ℕ) (h P : Place) → option_map (λ x. x.place) (f a) ≡ Some P → option_map (λ x. x.place) (alter f a (option_map (with_place h)) a) ≡ Some h
place_at f a h P e = ap (λ (o : Option HeapAtom). option_map (λ x. x.place) o) (alter_at f a (option_map (with_place h))) ∙ place_map h (f a) P e

-- the places of the others
pub place_away : (f : ℕ → Option HeapAtom) (a : ℕ) (h : Place) (x : ℕ) → x ≢ a → option_map (λ y. y.place) (alter f a (option_map (with_place h)) x) ≡ option_map (λ y. y.place) (f x)
place_away f a h x d = ap (λ (o : Option HeapAtom). option_map (λ y. y.place) o) (alter_away f a (option_map (with_place h)) x d)

-- a membrane's list of atoms changes
module _ (f : ℕ → Option HeapMem) (m : ℕ) (g : List ℕ → List ℕ) where
  abbrev to : ℕ → Option HeapMem
  to = alter f m (option_map (mem_with_atoms g))

  pub same_mem_place : (k : ℕ) → option_map (λ x. x.place) (to k) ≡ option_map (λ x. x.place) (f k)
  same_mem_place k = alter_keeps f m (option_map (mem_with_atoms g)) (λ o. option_map (λ x. x.place) o) by k
    where
      by : (x : Option HeapMem) → option_map (λ y. y.place) (option_map (mem_with_atoms g) x) ≡ option_map (λ y. y.place) x
      by None = refl
      by (Some x) = refl

  pub same_mems : (k : ℕ) → mems_by (to k) ≡ mems_by (f k)
  same_mems k = alter_keeps f m (option_map (mem_with_atoms g)) mems_by by k
    where
      by : (x : Option HeapMem) → mems_by (option_map (mem_with_atoms g) x) ≡ mems_by x
      by None = refl
      by (Some x) = refl

  pub atoms_at : IsSome (f m) → atoms_by (to m) ≡ g (atoms_by (f m))
  atoms_at is = ap atoms_by (alter_at f m (option_map (mem_with_atoms g))) ∙ by (f m) is
    where
      by : (x : Option HeapMem) → IsSome x → atoms_by (option_map (mem_with_atoms g) x) ≡ g (atoms_by x)
      by None i = absurd (cc)
      by (Some x) i = refl

  pub atoms_away : (k : ℕ) → k ≢ m → atoms_by (to k) ≡ atoms_by (f k)
  atoms_away k d = ap atoms_by (alter_away f m (option_map (mem_with_atoms g)) k d)

-- to take the first out is to go on behind it
pub without_first : (a : ℕ) (xs : List ℕ) → from (Some a) xs ≡ xs → without a xs ≡ after a xs
without_first a xs e = subst (λ ys. without a ys ≡ after a xs) e (rw (eq-eqb a a refl) refl)

not_within : (s : Heap) (h : Listed s) (a : ℕ) (P : Place) → place_of s a ≡ Some P → (m : ℕ) → (P ≡ within m → ⊥) → In a (atoms_in s m) → ⊥
not_within s h a P e m d i = d (let w : Some P ≡ Some (within m) = sym e ∙ (h.atoms m a).0 i in cc)

-- one place is in one membrane
pub within_same : (j k : ℕ) → within j ≡ within k → j ≡ k
within_same j k e = (cc)

-- what waits is in none
pub waiting_apart : (m : ℕ) → waiting ≡ within m → ⊥
waiting_apart m e = absurd (cc)

-- and neither is what is gone
pub gone_apart : (m : ℕ) → gone ≡ within m → ⊥
gone_apart m e = absurd (cc)

-- `place_atom`
pub placed_listed : (s : Heap) (m a : ℕ) → Listed s → IsSome (s.mems m) → (mem_place_of s m ≡ Some waiting → ⊥) → from (Some a) s.new_atoms ≡ s.new_atoms → Listed (placed s m a)
placed_listed s m a h is here first =
    let waits : place_of s a ≡ Some waiting = (h.new_atoms a).0 (subst (In a) first (inl refl)) in
    let out : (k : ℕ) → In a (atoms_in s k) → ⊥ = λ k. not_within s h a waiting waits k (waiting_apart k) in
    let f : List ℕ → List ℕ = λ xs. xs ++ a ∷ [] in
    one_moves s (placed s m a) a (within m) (record {
      at = place_at s.atoms a (within m) waiting waits;
      away = place_away s.atoms a (within m);
      lists = λ k. elim (cases_eq k m) [
        | inl e ↦ subst (λ z. Turns a (within m ≡ within z) (atoms_in s z) (atoms_in (placed s m a) z)) (sym e)
            (rw (atoms_at s.mems m f is) (gains a (within m ≡ within m) (atoms_in s m) (out m) refl))
        | inr d ↦ rw (atoms_away s.mems m f k d) (keeps a (within m ≡ within k) (atoms_in s k) (out k) (λ e. d (sym (within_same m k e))))
      ];
      once = λ k. elim (cases_eq k m) [
        | inl e ↦ subst (λ z. Distinct (atoms_in (placed s m a) z)) (sym e) (rw (atoms_at s.mems m f is) (distinct_snoc a (atoms_in s m) (h.atoms_once m) (out m)))
        | inr d ↦ rw (atoms_away s.mems m f k d) (h.atoms_once k)
      ];
      line = subst (Turns a (within m ≡ waiting) s.new_atoms) (without_first a s.new_atoms first) (loses a (within m ≡ waiting) s.new_atoms h.new_atoms_once (λ e. waiting_apart m (sym e)));
      line_once = subst Distinct (without_first a s.new_atoms first) (distinct_without a s.new_atoms h.new_atoms_once);
      lower = λ e. absurd (cc);
      mem_places = same_mem_place s.mems m f;
      mems = same_mems s.mems m f;
      new_mems = refl;
      root = refl;
      new_empty = λ k w. atoms_away s.mems m f k (λ e. here (ap (mem_place_of s) (sym e) ∙ w)) ∙ (h.new_empty k w).0;
    }) h

-- what has a home stands in its list
pub home_place : (o : Option HeapAtom) (m : ℕ) → option_and_then (λ x. home_by x.place) o ≡ Some m → option_map (λ x. x.place) o ≡ Some (within m)
home_place None m e = absurd (cc)
home_place (Some x) m e = by x.place e
  where
    by : (p : Place) → home_by p ≡ Some m → Some p ≡ Some (within m)
    by top e = absurd (cc)
    by (within k) e = let w : k ≡ m = (cc) in ap (λ z. Some (within z)) w
    by waiting e = absurd (cc)
    by gone e = absurd (cc)

-- what has a home stands in that membrane
pub home_is : (s : Heap) (a m : ℕ) → home_of s a ≡ Some m → place_of s a ≡ Some (within m)
home_is s a m e = home_place (s.atoms a) m e

-- what lists an atom is a membrane
pub listed_mem : (s : Heap) (m a : ℕ) → In a (atoms_in s m) → IsSome (s.mems m)
listed_mem s m a i = by (s.mems m) i
  where
    by : (x : Option HeapMem) → In a (atoms_by x) → IsSome x
    by None i = absurd i
    by (Some x) i = refl

-- `take_atom`
pub taken_listed : (s : Heap) (m a : ℕ) → Listed s → home_of s a ≡ Some m → Listed (taken s a)
taken_listed s m a h home =
    let there : place_of s a ≡ Some (within m) = home_is s a m home in
    let inside : In a (atoms_in s m) = (h.atoms m a).1 there in
    let is : IsSome (s.mems m) = listed_mem s m a inside in
    let out : (k : ℕ) → k ≢ m → In a (atoms_in s k) → ⊥ = λ k d. not_within s h a (within m) there k (λ e. d (sym (within_same m k e))) in
    let f : List ℕ → List ℕ = without a in
    let to : Heap = record s { atoms = alter s.atoms a (option_map (with_place gone)); mems = alter s.mems m (option_map (mem_with_atoms (without a))) } in
    let same : taken s a ≡ to = ap (λ (o : Option ℕ). record s { atoms = alter s.atoms a (option_map (with_place gone)); mems = atom_out s.mems o a }) home in
    subst Listed (sym same) (one_moves s to a gone (record {
      at = place_at s.atoms a gone (within m) there;
      away = place_away s.atoms a gone;
      lists = λ k. elim (cases_eq k m) [
        | inl e ↦ subst (λ z. Turns a (gone ≡ within z) (atoms_in s z) (atoms_in to z)) (sym e)
            (rw (atoms_at s.mems m f is) (loses a (gone ≡ within m) (atoms_in s m) (h.atoms_once m) (gone_apart m)))
        | inr d ↦ rw (atoms_away s.mems m f k d) (keeps a (gone ≡ within k) (atoms_in s k) (out k d) (gone_apart k))
      ];
      once = λ k. elim (cases_eq k m) [
        | inl e ↦ subst (λ z. Distinct (atoms_in to z)) (sym e) (rw (atoms_at s.mems m f is) (distinct_without a (atoms_in s m) (h.atoms_once m)))
        | inr d ↦ rw (atoms_away s.mems m f k d) (h.atoms_once k)
      ];
      line = keeps a (gone ≡ waiting) s.new_atoms (λ i. let w : Some (within m) ≡ Some waiting = sym there ∙ (h.new_atoms a).0 i in absurd (cc)) (λ e. absurd (cc));
      line_once = h.new_atoms_once;
      lower = λ e. absurd (cc);
      mem_places = same_mem_place s.mems m f;
      mems = same_mems s.mems m f;
      new_mems = refl;
      root = refl;
      new_empty = λ k w. elim (cases_eq k m) [
        | inl e ↦ absurd (let none : atoms_in s m ≡ [] = (h.new_empty m (ap (mem_place_of s) (sym e) ∙ w)).0 in subst (In a) none inside)
        | inr d ↦ atoms_away s.mems m f k d ∙ (h.new_empty k w).0
      ];
    }) h)

-- `make_atom`
pub made_listed : (s : Heap) (a : ℕ) (f : Functor) → Listed s → s.atoms a ≡ None → Listed (made_atom s a f)
made_listed s a f h fresh =
    let none : place_of s a ≡ None = ap (λ (o : Option HeapAtom). option_map (λ x. x.place) o) fresh in
    let never : (P : Place) → place_of s a ≡ Some P → ⊥ = λ P e. let w : None ≡ Some P = sym none ∙ e in absurd (cc) in
    one_moves s (made_atom s a f) a waiting (record {
      at = ap (λ (o : Option HeapAtom). option_map (λ x. x.place) o) (alter_at s.atoms a (λ _. Some (new_atom f)));
      away = λ x d. ap (λ (o : Option HeapAtom). option_map (λ y. y.place) o) (alter_away s.atoms a (λ _. Some (new_atom f)) x d);
      lists = λ k. keeps a (waiting ≡ within k) (atoms_in s k) (λ i. never (within k) ((h.atoms k a).0 i)) (waiting_apart k);
      once = h.atoms_once;
      line = gains a (waiting ≡ waiting) s.new_atoms (λ i. never waiting ((h.new_atoms a).0 i)) refl;
      line_once = distinct_snoc a s.new_atoms h.new_atoms_once (λ i. never waiting ((h.new_atoms a).0 i));
      lower = λ e. absurd (cc);
      mem_places = λ m. refl;
      mems = λ m. refl;
      new_mems = refl;
      root = refl;
      new_empty = λ m w. (h.new_empty m w).0;
    }) h

-- Calls that change no link keep the partners

-- partners that are as before
pub same_paired : (s t : Heap) → ((x i : ℕ) → link_of t x i ≡ link_of s x i) → Paired s → Paired t
same_paired s t same p = record {
  back = λ a i b j e. same b j ∙ p.back a i b j (sym (same a i) ∙ e);
  apart = λ a i e. p.apart a i (sym (same a i) ∙ e);
}

-- an atom that gets another place keeps its partners
pub place_keeps : (f : ℕ → Option HeapAtom) (a : ℕ) (h : Place) (x : ℕ) → partners_of (alter f a (option_map (with_place h)) x) ≡ partners_of (f x)
place_keeps f a h x = alter_keeps f a (option_map (with_place h)) partners_of by x
  where
    by : (o : Option HeapAtom) → partners_of (option_map (with_place h) o) ≡ partners_of o
    by None = refl
    by (Some x) = refl

-- `place_atom` and `take_atom` keep partners
pub placed_paired : (s : Heap) (m a : ℕ) → Paired s → Paired (placed s m a)
placed_paired s m a = same_paired s (placed s m a) (λ x i. ap (λ xs. slice_index_or xs i None) (place_keeps s.atoms a (within m) x))

-- ports stay paired when an atom is taken
pub taken_paired : (s : Heap) (a : ℕ) → Paired s → Paired (taken s a)
taken_paired s a = same_paired s (taken s a) (λ x i. ap (λ xs. slice_index_or xs i None) (place_keeps s.atoms a gone x))

-- what images leave of a list
pub distinct_without_all : (bs xs : List ℕ) → Distinct xs → Distinct (without_all bs xs)
distinct_without_all [] xs d = d
distinct_without_all (b ∷ bs) xs d = distinct_without_all bs (without b xs) (distinct_without b xs d)
