-- The making part of a body: lists grow, and what is left of removed membranes moves.
use Rattle.std.proofs.Common.{ℕ, ◌≡◌, ◌≢◌, ◌==◌, Bool, true, false, cond, List, [], ◌∷◌, ◌++◌, map, length, Option, Some, None, IsSome, refl, sym, ap, subst, ◌∙◌, inl, inr}
use Rattle.std.proofs.lemmas.Bool.{cases_eq, eq-eqb, eqb-true}
use Rattle.std.proofs.lemmas.List.{append_assoc}
use Rattle.std.specs.Option.{option_map}
use Rattle.std.specs.Prelude.{slice_index_or}
use Rattle.lmn_store_heap.specs.Heap.{Heap, HeapAtom, HeapMem, Place, top, within, waiting, gone, alter, mem_with_atoms, mem_with_mems, mem_with_rules, mem_with_place, mem_sent, atom_sent, sent, emptied, filled, functor_of, arity_of, link_of, partners_of, marks_of, mem_place_of, atoms_in, mems_in, rules_in, atoms_by, mems_by, rules_by, after, placed, placed_mem, moved_all}
use Rattle.lmn_store_heap.proofs.ListLemmas.{in_left, in_right}
use Rattle.lmn_store_heap.proofs.Listing.{atoms_at, atoms_away}
use Rattle.lmn_solid_bodies.specs.Running.{all_placed}
use Rattle.lmn_solid_bodies.proofs.Phases.{placed_stays}
use Rattle.lmn_store_heap.proofs.ListOps.{change_away, change_keeps, place_by, there_by, in_mems_at, in_mems_away, in_atoms, in_rules, in_there, move_atoms_at, move_mems_at, move_atoms_from, move_mems_from, move_atoms_away, move_mems_away, move_rules, move_there, rules_at, rules_away, rules_keep}
use Rattle.lmn_base.specs.Lists.{In}
use Rattle.lmn_base.proofs.Lists.{in_either, plus_nothing}
use Rattle.lmn_store_heap.proofs.Common.{after_first}

-- what no call of a commit changes but `join`
pub record SameAtoms (s t : Heap) : Type 0 where
  pub functors : (a : ℕ) → functor_of t a ≡ functor_of s a
  pub arities : (a : ℕ) → arity_of t a ≡ arity_of s a
  pub marks : (a : ℕ) → length (marks_of (t.atoms a)) ≡ length (marks_of (s.atoms a))
  pub links : (a i : ℕ) → link_of t a i ≡ link_of s a i
  pub root : t.root ≡ s.root

-- a heap has the atoms that it has
pub same_atoms : (s : Heap) → SameAtoms s s
same_atoms s = record { functors = λ a. refl; arities = λ a. refl; marks = λ a. refl; links = λ a i. refl; root = refl }

-- the same atoms and then the same are the same
pub same_atoms_after : (s t u : Heap) → SameAtoms s t → SameAtoms t u → SameAtoms s u
same_atoms_after s t u g h = record { functors = λ a. h.functors a ∙ g.functors a; arities = λ a. h.arities a ∙ g.arities a; marks = λ a. h.marks a ∙ g.marks a; links = λ a i. h.links a i ∙ g.links a i; root = h.root ∙ g.root }

-- From s to t the lists grow by A, M and R, but for those of the removed membranes ks, of which moved ones become empty.
-- The atoms na and the membranes nm leave the lines.
pub record Grown (ks : List ℕ) (s t : Heap) (moved na nm : List ℕ) (A M R : ℕ → List ℕ) : Type 0 where
  pub same : SameAtoms s t
  pub atoms : (x : ℕ) → (In x ks → ⊥) → atoms_in t x ≡ atoms_in s x ++ A x
  pub mems : (x : ℕ) → (In x ks → ⊥) → mems_in t x ≡ mems_in s x ++ M x
  pub rules : (x : ℕ) → (In x ks → ⊥) → rules_in t x ≡ rules_in s x ++ R x
  pub head_atoms : (x : ℕ) → In x ks → (In x moved → ⊥) → atoms_in t x ≡ atoms_in s x
  pub head_mems : (x : ℕ) → In x ks → (In x moved → ⊥) → mems_in t x ≡ mems_in s x
  pub head_rules : (x : ℕ) → In x ks → rules_in t x ≡ rules_in s x
  pub empty : (x : ℕ) → In x moved → (atoms_in t x ≡ []) × (mems_in t x ≡ [])
  pub there : (x : ℕ) → there_by (t.mems x) ≡ there_by (s.mems x)
  pub gone_before : (x : ℕ) → mem_place_of t x ≡ Some gone → mem_place_of s x ≡ Some gone
  pub places : (x : ℕ) → In x ks → ((p : ℕ) → In p moved → mem_place_of s x ≡ Some (within p) → ⊥) → mem_place_of t x ≡ mem_place_of s x
  pub line : (rest : List ℕ) → s.new_atoms ≡ na ++ rest → t.new_atoms ≡ rest
  pub mem_line : (rest : List ℕ) → s.new_mems ≡ nm ++ rest → t.new_mems ≡ rest

-- nothing, and one thing after another
pub grown_none : (ks : List ℕ) (s : Heap) → Grown ks s s [] [] [] (λ x. []) (λ x. []) (λ x. [])
grown_none ks s = record {
  same = same_atoms s;
  atoms = λ x o. sym (plus_nothing (atoms_in s x));
  mems = λ x o. sym (plus_nothing (mems_in s x));
  rules = λ x o. sym (plus_nothing (rules_in s x));
  head_atoms = λ x i o. refl;
  head_mems = λ x i o. refl;
  head_rules = λ x i. refl;
  empty = λ x i. absurd i;
  there = λ x. refl;
  gone_before = λ x e. e;
  places = λ x i o. refl;
  line = λ rest e. e;
  mem_line = λ rest e. e;
}

-- what grows and then grows has grown by both
pub grown_after : (ks : List ℕ) (s t u : Heap) (m1 m2 a1 a2 n1 n2 : List ℕ) (A M R A' M' R' : ℕ → List ℕ) → ((x : ℕ) → In x m1 → In x ks) → ((x : ℕ) → In x m1 → In x m2 → ⊥)
    → Grown ks s t m1 a1 n1 A M R → Grown ks t u m2 a2 n2 A' M' R' → Grown ks s u (m1 ++ m2) (a1 ++ a2) (n1 ++ n2) (λ x. A x ++ A' x) (λ x. M x ++ M' x) (λ x. R x ++ R' x)
grown_after ks s t u m1 m2 a1 a2 n1 n2 A M R A' M' R' sub apart g h = record {
  same = same_atoms_after s t u g.same h.same;
  atoms = λ x o. h.atoms x o ∙ ap (λ xs. xs ++ A' x) (g.atoms x o) ∙ append_assoc (atoms_in s x) (A x) (A' x);
  mems = λ x o. h.mems x o ∙ ap (λ xs. xs ++ M' x) (g.mems x o) ∙ append_assoc (mems_in s x) (M x) (M' x);
  rules = λ x o. h.rules x o ∙ ap (λ xs. xs ++ R' x) (g.rules x o) ∙ append_assoc (rules_in s x) (R x) (R' x);
  head_atoms = λ x i o. h.head_atoms x i (λ j. o (in_right x m1 m2 j)) ∙ g.head_atoms x i (λ j. o (in_left x m1 m2 j));
  head_mems = λ x i o. h.head_mems x i (λ j. o (in_right x m1 m2 j)) ∙ g.head_mems x i (λ j. o (in_left x m1 m2 j));
  head_rules = λ x i. h.head_rules x i ∙ g.head_rules x i;
  empty = λ x i. elim (in_either x m1 m2 i) [
    | inl j ↦ (h.head_atoms x (sub x j) (apart x j) ∙ (g.empty x j).0, h.head_mems x (sub x j) (apart x j) ∙ (g.empty x j).1)
    | inr j ↦ h.empty x j
  ];
  there = λ x. h.there x ∙ g.there x;
  gone_before = λ x e. g.gone_before x (h.gone_before x e);
  places = λ x i o. let first = g.places x i (λ p j e. o p (in_left p m1 m2 j) e) in h.places x i (λ p j e. o p (in_right p m1 m2 j) (sym first ∙ e)) ∙ first;
  line = λ rest e. h.line rest (g.line (a2 ++ rest) (e ∙ append_assoc a1 a2 rest));
  mem_line = λ rest e. h.mem_line rest (g.mem_line (n2 ++ rest) (e ∙ append_assoc n1 n2 rest));
}

-- The target of a call gets something.
abbrev pub only_at : ℕ → List ℕ → ℕ → List ℕ
only_at y ns x = cond (y == x) ns []

-- it is there
pub only_same : (y : ℕ) (ns : List ℕ) → only_at y ns y ≡ ns
only_same y ns = rw (eq-eqb y y refl) refl

-- and nothing is elsewhere
pub only_other : (y x : ℕ) (ns : List ℕ) → x ≢ y → only_at y ns x ≡ []
only_other y x ns d = by (y == x) refl
  where
    by : (t : Bool) → (y == x) ≡ t → cond t ns [] ≡ []
    by true e = absurd (d (sym (eqb-true y x e)))
    by false e = refl

grows : (f g : ℕ → List ℕ) (y : ℕ) (ns : List ℕ) (x : ℕ) → g y ≡ f y ++ ns → (x ≢ y → g x ≡ f x) → g x ≡ f x ++ only_at y ns x
grows f g y ns x at away = elim (cases_eq x y) [
  | inl e ↦ subst (λ z. g z ≡ f z ++ only_at y ns z) (sym e) (at ∙ ap (λ zs. f y ++ zs) (sym (only_same y ns)))
  | inr d ↦ away d ∙ sym (plus_nothing (f x)) ∙ ap (λ zs. f x ++ zs) (sym (only_other y x ns d))
]

only_nothing : (m x : ℕ) → only_at m [] x ≡ []
only_nothing m x = by (m == x)
  where
    by : (t : Bool) → ◌≡◌ {A = List ℕ} (cond t [] []) []
    by true = refl
    by false = refl

-- two things at one place
pub only_both : (m : ℕ) (xs ys : List ℕ) (x : ℕ) → only_at m xs x ++ only_at m ys x ≡ only_at m (xs ++ ys) x
only_both m xs ys x = by (m == x)
  where
    by : (t : Bool) → cond t xs [] ++ cond t ys [] ≡ cond t (xs ++ ys) []
    by true = refl
    by false = refl

-- the same growth, its atoms said otherwise
pub grown_lists : (ks : List ℕ) (s t : Heap) (mv na nm : List ℕ) (A M R A' : ℕ → List ℕ) → Grown ks s t mv na nm A M R → ((x : ℕ) → A x ≡ A' x) → Grown ks s t mv na nm A' M R
grown_lists ks s t mv na nm A M R A' g e = record {
  same = g.same;
  atoms = λ x o. g.atoms x o ∙ ap (λ zs. atoms_in s x ++ zs) (e x);
  mems = g.mems;
  rules = g.rules;
  head_atoms = g.head_atoms;
  head_mems = g.head_mems;
  head_rules = g.head_rules;
  empty = g.empty;
  there = g.there;
  gone_before = g.gone_before;
  places = g.places;
  line = g.line;
  mem_line = g.mem_line;
}

-- what is removed is no target
pub not_target : (ks : List ℕ) (y x : ℕ) → (In y ks → ⊥) → In x ks → x ≢ y
not_target ks y x o i e = o (subst (λ z. In z ks) e i)

-- a membrane stays there where its being there stays the same
pub some_there : (o q : Option HeapMem) → there_by q ≡ there_by o → IsSome o → IsSome q
some_there None q e i = absurd (cc)
some_there (Some x) None e i = absurd (cc)
some_there (Some x) (Some y) e i = refl

-- `place_atom`
pub grown_placed : (ks : List ℕ) (s : Heap) (m a : ℕ) → (In m ks → ⊥) → IsSome (s.mems m) → Grown ks s (placed s m a) [] (a ∷ []) [] (only_at m (a ∷ [])) (λ x. []) (λ x. [])
grown_placed ks s m a o is =
    let st = placed_stays s m a in
    let away : (x : ℕ) → x ≢ m → atoms_in (placed s m a) x ≡ atoms_in s x = atoms_away s.mems m (λ xs. xs ++ a ∷ []) in
    record {
      same = record { functors = st.functors; arities = st.arities; marks = st.marks; links = st.links; root = refl };
      atoms = λ x i. grows (atoms_in s) (atoms_in (placed s m a)) m (a ∷ []) x (atoms_at s.mems m (λ xs. xs ++ a ∷ []) is) (away x);
      mems = λ x i. st.inner x ∙ sym (plus_nothing (mems_in s x));
      rules = λ x i. st.rules x ∙ sym (plus_nothing (rules_in s x));
      head_atoms = λ x i j. away x (not_target ks m x o i);
      head_mems = λ x i j. st.inner x;
      head_rules = λ x i. st.rules x;
      empty = λ x i. absurd i;
      there = change_keeps there_by s.mems m (mem_with_atoms (λ xs. xs ++ a ∷ [])) (λ x. refl);
      gone_before = λ x e. sym (st.mem_places x) ∙ e;
      places = λ x i o. st.mem_places x;
      line = λ rest e. ap (after a) e ∙ after_first a rest;
      mem_line = λ rest e. e;
    }

-- the atoms of a copy
pub grown_all_placed : (ks : List ℕ) (m : ℕ) (xs : List ℕ) (s : Heap) → (In m ks → ⊥) → IsSome (s.mems m) → Grown ks s (all_placed s (map (λ y. (m, y)) xs)) [] xs [] (only_at m xs) (λ x. []) (λ x. [])
grown_all_placed ks m [] s o is = grown_lists ks s s [] [] [] (λ x. []) (λ x. []) (λ x. []) (only_at m []) (grown_none ks s) (λ x. sym (only_nothing m x))
grown_all_placed ks m (y ∷ xs) s o is =
    let one = grown_placed ks s m y o is in
    let rest = grown_all_placed ks m xs (placed s m y) o (some_there (s.mems m) ((placed s m y).mems m) (one.there m) is) in
    grown_lists ks s (all_placed (placed s m y) (map (λ z. (m, z)) xs)) [] (y ∷ xs) [] (λ x. only_at m (y ∷ []) x ++ only_at m xs x) (λ x. []) (λ x. []) (only_at m (y ∷ xs))
    (grown_after ks s (placed s m y) (all_placed (placed s m y) (map (λ z. (m, z)) xs)) [] [] (y ∷ []) xs [] [] (only_at m (y ∷ [])) (λ x. []) (λ x. []) (only_at m xs) (λ x. []) (λ x. []) (λ x i. absurd i) (λ x i j. i) one rest)
    (λ x. only_both m (y ∷ []) xs x)

-- `place_mem`
pub grown_placed_mem : (ks : List ℕ) (s : Heap) (m n : ℕ) → (In m ks → ⊥) → (In n ks → ⊥) → IsSome (s.mems m) → Grown ks s (placed_mem s m n) [] [] (n ∷ []) (λ x. []) (only_at m (n ∷ [])) (λ x. [])
grown_placed_mem ks s m n o new is = record {
  same = record { functors = λ a. refl; arities = λ a. refl; marks = λ a. refl; links = λ a i. refl; root = refl };
  atoms = λ x i. in_atoms s m n is x ∙ sym (plus_nothing (atoms_in s x));
  mems = λ x i. grows (mems_in s) (mems_in (placed_mem s m n)) m (n ∷ []) x (in_mems_at s m n is) (in_mems_away s m n is x);
  rules = λ x i. in_rules s m n is x ∙ sym (plus_nothing (rules_in s x));
  head_atoms = λ x i j. in_atoms s m n is x;
  head_mems = λ x i j. in_mems_away s m n is x (not_target ks m x o i);
  head_rules = λ x i. in_rules s m n is x;
  empty = λ x i. absurd i;
  there = in_there s m n is;
  gone_before = λ x e. elim (cases_eq x n) [
    | inl q ↦ absurd (never (s.mems n) (sym (change_keeps place_by f1 m (mem_with_mems (λ xs. xs ++ n ∷ [])) (λ y. refl) n ∙ change_map s.mems n) ∙ ap (mem_place_of (placed_mem s m n)) (sym q) ∙ e))
    | inr d ↦ sym (change_keeps place_by f1 m (mem_with_mems (λ xs. xs ++ n ∷ [])) (λ y. refl) x ∙ change_away place_by s.mems n (mem_with_place (within m)) x d) ∙ e
  ];
  places = λ x i j. change_keeps place_by f1 m (mem_with_mems (λ xs. xs ++ n ∷ [])) (λ y. refl) x ∙ change_away place_by s.mems n (mem_with_place (within m)) x (not_target ks n x new i);
  line = λ rest e. e;
  mem_line = λ rest e. ap (after n) e ∙ after_first n rest;
}
  where
    f1 : ℕ → Option HeapMem
    f1 = alter s.mems n (option_map (mem_with_place (within m)))

    change_map : (f : ℕ → Option HeapMem) (n : ℕ) → place_by (alter f n (option_map (mem_with_place (within m))) n) ≡ place_by (option_map (mem_with_place (within m)) (f n))
    change_map f n = rw (eq-eqb n n refl) refl

    never : (o : Option HeapMem) → place_by (option_map (mem_with_place (within m)) o) ≡ Some gone → ⊥
    never None e = absurd (cc)
    never (Some x) e = absurd (cc)

-- `move_all`
pub grown_moved : (ks : List ℕ) (s : Heap) (m n : ℕ) → In m ks → (In n ks → ⊥) → IsSome (s.mems m) → IsSome (s.mems n) → Grown ks s (moved_all s m n) (m ∷ []) [] [] (only_at n (atoms_in s m)) (only_at n (mems_in s m)) (λ x. [])
grown_moved ks s m n im o sm sn =
    let differ : m ≢ n = not_target ks n m o im in
    let not_m : (x : ℕ) → (In x ks → ⊥) → x ≢ m = λ x i e. i (subst (λ z. In z ks) (sym e) im) in
    record {
      same = record { functors = λ a. moved_functor (s.atoms a); arities = λ a. ap (λ (xs : List (Option (ℕ × ℕ))). length xs) (moved_links (s.atoms a)); marks = λ a. ap (λ (xs : List ℕ). length xs) (moved_marks (s.atoms a)); links = λ a i. ap (λ (xs : List (Option (ℕ × ℕ))). slice_index_or xs i None) (moved_links (s.atoms a)); root = refl };
      atoms = λ x i. grows (atoms_in s) (atoms_in (moved_all s m n)) n (atoms_in s m) x (move_atoms_at s m n differ sm sn) (λ d. move_atoms_away s m n differ sm sn x (not_m x i) d);
      mems = λ x i. grows (mems_in s) (mems_in (moved_all s m n)) n (mems_in s m) x (move_mems_at s m n differ sm sn) (λ d. move_mems_away s m n differ sm sn x (not_m x i) d);
      rules = λ x i. move_rules s m n differ sm sn x ∙ sym (plus_nothing (rules_in s x));
      head_atoms = λ x i j. move_atoms_away s m n differ sm sn x (λ e. j (inl (sym e))) (not_target ks n x o i);
      head_mems = λ x i j. move_mems_away s m n differ sm sn x (λ e. j (inl (sym e))) (not_target ks n x o i);
      head_rules = λ x i. move_rules s m n differ sm sn x;
      empty = λ x i. elim i [
        | inl e ↦ subst (λ z. (atoms_in (moved_all s m n) z ≡ []) × (mems_in (moved_all s m n) z ≡ [])) e (move_atoms_from s m n differ sm sn, move_mems_from s m n differ sm sn)
        | inr j ↦ absurd j
      ];
      there = move_there s m n differ sm sn;
      gone_before = λ x e. gone_sent x (alter (alter s.mems m (option_map emptied)) n (option_map (filled (atoms_in s m) (mems_in s m))) x)
          (change_keeps place_by (alter s.mems m (option_map emptied)) n (filled (atoms_in s m) (mems_in s m)) (λ y. refl) x ∙ change_keeps place_by s.mems m emptied (λ y. refl) x) e;
      places = λ x i j. same_sent x (alter (alter s.mems m (option_map emptied)) n (option_map (filled (atoms_in s m) (mems_in s m))) x)
          (change_keeps place_by (alter s.mems m (option_map emptied)) n (filled (atoms_in s m) (mems_in s m)) (λ y. refl) x ∙ change_keeps place_by s.mems m emptied (λ y. refl) x) (j m (inl refl));
      line = λ rest e. e;
      mem_line = λ rest e. e;
    }
  where
    moved_functor : (o : Option HeapAtom) → option_map (λ x. x.functor) (option_map (atom_sent m n) o) ≡ option_map (λ x. x.functor) o
    moved_functor None = refl
    moved_functor (Some x) = refl

    moved_links : (o : Option HeapAtom) → partners_of (option_map (atom_sent m n) o) ≡ partners_of o
    moved_links None = refl
    moved_links (Some x) = refl

    moved_marks : (o : Option HeapAtom) → marks_of (option_map (atom_sent m n) o) ≡ marks_of o
    moved_marks None = refl
    moved_marks (Some x) = refl

    gone_place : (p : Place) → sent m n p ≡ gone → p ≡ gone
    gone_place top e = absurd (cc)
    gone_place (within k) e = absurd (by (k == m) e)
      where
        by : (t : Bool) → cond t (within n) (within k) ≡ gone → ⊥
        by true e = absurd (cc)
        by false e = absurd (cc)
    gone_place waiting e = absurd (cc)
    gone_place gone e = refl

    same_place : (p : Place) → (p ≡ within m → ⊥) → sent m n p ≡ p
    same_place top d = refl
    same_place waiting d = refl
    same_place gone d = refl
    same_place (within k) d = by (k == m) refl
      where
        by : (t : Bool) → (k == m) ≡ t → cond t (within n) (within k) ≡ within k
        by true e = absurd (d (ap within (eqb-true k m e)))
        by false e = refl

    same_sent : (x : ℕ) (o : Option HeapMem) → place_by o ≡ place_by (s.mems x) → (mem_place_of s x ≡ Some (within m) → ⊥) → place_by (option_map (mem_sent m n) o) ≡ mem_place_of s x
    same_sent x None e d = e
    same_sent x (Some y) e d = ap (λ z. Some z) (same_place y.place (λ q. d (sym e ∙ ap (λ z. Some z) q))) ∙ e

    gone_sent : (x : ℕ) (o : Option HeapMem) → place_by o ≡ place_by (s.mems x) → place_by (option_map (mem_sent m n) o) ≡ Some gone → mem_place_of s x ≡ Some gone
    gone_sent x None e f = absurd (cc)
    gone_sent x (Some y) e f = let g : sent m n y.place ≡ gone = (cc) in sym e ∙ ap (λ z. Some z) (gone_place y.place g)

-- `add_rule` and `copy_rules`
pub grown_rules : (ks : List ℕ) (s : Heap) (m : ℕ) (rs : List ℕ) → (In m ks → ⊥) → IsSome (s.mems m)
    → Grown ks s (record s { mems = alter s.mems m (option_map (mem_with_rules rs)) }) [] [] [] (λ x. []) (λ x. []) (only_at m rs)
grown_rules ks s m rs o is = record {
  same = record { functors = λ a. refl; arities = λ a. refl; marks = λ a. refl; links = λ a i. refl; root = refl };
  atoms = λ x i. rules_keep s m rs atoms_by (λ y. refl) x ∙ sym (plus_nothing (atoms_in s x));
  mems = λ x i. rules_keep s m rs mems_by (λ y. refl) x ∙ sym (plus_nothing (mems_in s x));
  rules = λ x i. grows (rules_in s) (λ z. rules_by (alter s.mems m (option_map (mem_with_rules rs)) z)) m rs x (rules_at s m rs is) (rules_away s m rs x);
  head_atoms = λ x i j. rules_keep s m rs atoms_by (λ y. refl) x;
  head_mems = λ x i j. rules_keep s m rs mems_by (λ y. refl) x;
  head_rules = λ x i. rules_away s m rs x (not_target ks m x o i);
  empty = λ x i. absurd i;
  there = rules_keep s m rs there_by (λ y. refl);
  gone_before = λ x e. sym (rules_keep s m rs place_by (λ y. refl) x) ∙ e;
  places = λ x i o. rules_keep s m rs place_by (λ y. refl) x;
  line = λ rest e. e;
  mem_line = λ rest e. e;
}
