-- Atoms that are taken, and atoms that are placed, one after the other.
use Rattle.std.proofs.Common.{ℕ, ◌≡◌, ◌≢◌, ◌==◌, Bool, true, false, cond, List, [], ◌∷◌, ◌++◌, map, Option, Some, None, IsSome, refl, sym, ap, subst, ◌∙◌, inl, inr}
use Rattle.std.proofs.lemmas.Bool.{cases_eq, eq-eqb, eqb-true}
use Rattle.std.proofs.lemmas.List.{append_assoc}
use Rattle.std.specs.Option.{option_map}
use Rattle.std.specs.Prelude.{slice_index_or, length, if◌then◌else◌}
use Rattle.lmn_store_heap.specs.Heap.{Heap, HeapAtom, HeapMem, Place, within, waiting, gone, alter, with_place, mem_with_atoms, atom_out, functor_of, arity_of, link_of, marks_of, place_of, mem_place_of, home_of, atoms_in, mems_in, rules_in, atoms_by, mems_by, rules_by, taken, placed, Distinct, without, after, from, taken_all}
use Rattle.lmn_store_heap.specs.Sound.{Paired, Listed}
use Rattle.lmn_store_heap.proofs.ListLemmas.{each_in}
use Rattle.lmn_store_heap.proofs.Groves.{without_absent}
use Rattle.lmn_store_heap.proofs.Listing.{alter_keeps, same_mem_place, same_mems, atoms_at, atoms_away, place_at, place_away, home_is, placed_listed, taken_listed, placed_paired, taken_paired, listed_mem as listed_some, place_keeps as place_links}
use Rattle.lmn_solid_bodies.specs.Running.{all_placed}
use Rattle.lmn_store_heap.specs.Lists.{without_all}
use Rattle.lmn_store_heap.proofs.Common.{place_home, list_rules, after_first}
use Rattle.lmn_base.specs.Lists.{In}
use Rattle.lmn_base.proofs.Lists.{plus_nothing}

-- what neither taking nor placing of atoms changes
pub record Stays (s t : Heap) : Type 0 where
  pub functors : (a : ℕ) → functor_of t a ≡ functor_of s a
  pub arities : (a : ℕ) → arity_of t a ≡ arity_of s a
  pub marks : (a : ℕ) → length (marks_of (t.atoms a)) ≡ length (marks_of (s.atoms a))
  pub links : (a i : ℕ) → link_of t a i ≡ link_of s a i
  pub mem_places : (m : ℕ) → mem_place_of t m ≡ mem_place_of s m
  pub inner : (m : ℕ) → mems_in t m ≡ mems_in s m
  pub rules : (m : ℕ) → rules_in t m ≡ rules_in s m
  pub root : t.root ≡ s.root
  pub new_mems : t.new_mems ≡ s.new_mems

-- what stays as it is stays
pub nothing_changes : (s : Heap) → Stays s s
nothing_changes s = record { functors = λ a. refl; arities = λ a. refl; marks = λ a. refl; links = λ a i. refl; mem_places = λ m. refl; inner = λ m. refl; rules = λ m. refl; root = refl; new_mems = refl }

-- what stays and then stays, stays
pub stays_after : (s t u : Heap) → Stays s t → Stays t u → Stays s u
stays_after s t u g h = record {
  functors = λ a. h.functors a ∙ g.functors a;
  arities = λ a. h.arities a ∙ g.arities a;
  marks = λ a. h.marks a ∙ g.marks a;
  links = λ a i. h.links a i ∙ g.links a i;
  mem_places = λ m. h.mem_places m ∙ g.mem_places m;
  inner = λ m. h.inner m ∙ g.inner m;
  rules = λ m. h.rules m ∙ g.rules m;
  root = h.root ∙ g.root;
  new_mems = h.new_mems ∙ g.new_mems;
}

place_functor : (f : ℕ → Option HeapAtom) (a : ℕ) (p : Place) (x : ℕ) → option_map (λ y. y.functor) (alter f a (option_map (with_place p)) x) ≡ option_map (λ y. y.functor) (f x)
place_functor f a p x = alter_keeps f a (option_map (with_place p)) (λ o. option_map (λ y. y.functor) o) by x
  where
    by : (o : Option HeapAtom) → option_map (λ y. y.functor) (option_map (with_place p) o) ≡ option_map (λ y. y.functor) o
    by None = refl
    by (Some y) = refl

place_marks : (f : ℕ → Option HeapAtom) (a : ℕ) (p : Place) (x : ℕ) → marks_of (alter f a (option_map (with_place p)) x) ≡ marks_of (f x)
place_marks f a p x = alter_keeps f a (option_map (with_place p)) marks_of by x
  where
    by : (o : Option HeapAtom) → marks_of (option_map (with_place p) o) ≡ marks_of o
    by None = refl
    by (Some y) = refl

-- functors and partners stay when an atom is taken
pub taken_stays : (s : Heap) (a : ℕ) → Stays s (taken s a)
taken_stays s a = record {
  functors = place_functor s.atoms a gone;
  arities = λ x. ap (λ (xs : List (Option (ℕ × ℕ))). length xs) (place_links s.atoms a gone x);
  marks = λ x. ap (λ (xs : List ℕ). length xs) (place_marks s.atoms a gone x);
  links = λ x i. ap (λ (xs : List (Option (ℕ × ℕ))). slice_index_or xs i None) (place_links s.atoms a gone x);
  mem_places = λ m. places (home_of s a) m;
  inner = λ m. inners (home_of s a) m;
  rules = λ m. rules (home_of s a) m;
  root = refl;
  new_mems = refl;
}
  where
    places : (o : Option ℕ) (m : ℕ) → option_map (λ y. y.place) (atom_out s.mems o a m) ≡ option_map (λ y. y.place) (s.mems m)
    places None m = refl
    places (Some k) m = same_mem_place s.mems k (without a) m

    inners : (o : Option ℕ) (m : ℕ) → mems_by (atom_out s.mems o a m) ≡ mems_by (s.mems m)
    inners None m = refl
    inners (Some k) m = same_mems s.mems k (without a) m

    rules : (o : Option ℕ) (m : ℕ) → rules_by (atom_out s.mems o a m) ≡ rules_by (s.mems m)
    rules None m = refl
    rules (Some k) m = list_rules s.mems k (without a) m

-- and when one is placed
pub placed_stays : (s : Heap) (m a : ℕ) → Stays s (placed s m a)
placed_stays s m a = record {
  functors = place_functor s.atoms a (within m);
  arities = λ x. ap (λ (xs : List (Option (ℕ × ℕ))). length xs) (place_links s.atoms a (within m) x);
  marks = λ x. ap (λ (xs : List ℕ). length xs) (place_marks s.atoms a (within m) x);
  links = λ x i. ap (λ (xs : List (Option (ℕ × ℕ))). slice_index_or xs i None) (place_links s.atoms a (within m) x);
  mem_places = same_mem_place s.mems m (λ xs. xs ++ a ∷ []);
  inner = same_mems s.mems m (λ xs. xs ++ a ∷ []);
  rules = list_rules s.mems m (λ xs. xs ++ a ∷ []);
  root = refl;
  new_mems = refl;
}

-- Taking

within_one : (j k : ℕ) → ◌≡◌ {A = Option Place} (Some (within j)) (Some (within k)) → j ≡ k
within_one j k e = (cc)

-- an atom that is taken leaves its list
pub taken_lists : (s : Heap) (m a : ℕ) → Listed s → home_of s a ≡ Some m → (k : ℕ) → atoms_in (taken s a) k ≡ without a (atoms_in s k)
taken_lists s m a h home k = ap (λ (o : Option ℕ). atoms_by (atom_out s.mems o a k)) home ∙ elim (cases_eq k m) [
  | inl e ↦ subst (λ z. atoms_by (alter s.mems m (option_map (mem_with_atoms (without a))) z) ≡ without a (atoms_by (s.mems z))) (sym e)
      (atoms_at s.mems m (without a) (listed_some s m a ((h.atoms m a).1 (home_is s a m home))))
  | inr d ↦ atoms_away s.mems m (without a) k d ∙ sym (without_absent a (atoms_in s k) (λ i. d (within_one k m (sym ((h.atoms k a).0 i) ∙ home_is s a m home))))
]

-- and is gone
pub taken_place : (s : Heap) (m a : ℕ) → home_of s a ≡ Some m → place_of (taken s a) a ≡ Some gone
taken_place s m a home = place_at s.atoms a gone (within m) (home_is s a m home)

-- others keep their places
pub taken_place_away : (s : Heap) (a b : ℕ) → b ≢ a → place_of (taken s a) b ≡ place_of s b
taken_place_away s a b d = place_away s.atoms a gone b d

-- what holds when some atoms are taken
pub record AfterTaking (s t : Heap) (ns : List ℕ) : Type 0 where
  pub listed : Listed t
  pub paired : Paired t
  pub stays : Stays s t
  pub lists : (k : ℕ) → atoms_in t k ≡ without_all ns (atoms_in s k)
  pub taken : (b : ℕ) → In b ns → place_of t b ≡ Some gone
  pub others : (b : ℕ) → (In b ns → ⊥) → place_of t b ≡ place_of s b
  pub line : t.new_atoms ≡ s.new_atoms

-- the atoms stand in lists
abbrev pub AllHome : Heap → List ℕ → Type 0
AllHome s ns = (a : ℕ) → In a ns → (m : ℕ) × (home_of s a ≡ Some m)

-- what holds when some atoms are taken that stand in their lists
pub all_taken_after : (ns : List ℕ) (s : Heap) → Listed s → Paired s → Distinct ns → AllHome s ns → AfterTaking s (taken_all s ns) ns
all_taken_after [] s h p d home = record { listed = h; paired = p; stays = nothing_changes s; lists = λ k. refl; taken = λ b i. absurd i; others = λ b o. refl; line = refl }
all_taken_after (a ∷ ns) s h p d home =
    let m = (home a (inl refl)).0 in
    let at = (home a (inl refl)).1 in
    let t = taken s a in
    let rest = all_taken_after ns t (taken_listed s m a h at) (taken_paired s a p) d.1
    (λ b i. let w = home b (inr i) in (w.0, place_home t b w.0 (taken_place_away s a b (λ e. each_in (λ z. a ≢ z) ns b d.0 i (sym e)) ∙ home_is s b w.0 w.1))) in
    record {
      listed = rest.listed;
      paired = rest.paired;
      stays = stays_after s t (taken_all t ns) (taken_stays s a) rest.stays;
      lists = λ k. rest.lists k ∙ ap (without_all ns) (taken_lists s m a h at k);
      taken = λ b i. elim i [
        | inl e ↦ subst (λ z. place_of (taken_all t ns) z ≡ Some gone) e (rest.others a (λ j. each_in (λ z. a ≢ z) ns a d.0 j refl) ∙ taken_place s m a at)
        | inr j ↦ rest.taken b j
      ];
      others = λ b o. rest.others b (λ i. o (inr i)) ∙ taken_place_away s a b (λ e. o (inl (sym e)));
      line = rest.line;
    }

-- Placing

-- the atoms of pairs that go to a membrane
abbrev pub placed_in : ℕ → List (ℕ × ℕ) → List ℕ
placed_in k [] = []
placed_in k (e ∷ es) = if e.0 == k then e.1 ∷ placed_in k es else placed_in k es

-- an atom that is placed comes last in its list
pub placed_lists : (s : Heap) (m a : ℕ) → IsSome (s.mems m) → (k : ℕ) → atoms_in (placed s m a) k ≡ atoms_in s k ++ placed_in k ((m, a) ∷ [])
placed_lists s m a is k = elim (cases_eq m k) [
  | inl e ↦ rw (eq-eqb m k e) (subst (λ z. atoms_by (alter s.mems m (option_map (mem_with_atoms (λ xs. xs ++ a ∷ []))) z) ≡ atoms_by (s.mems z) ++ a ∷ []) e
      (atoms_at s.mems m (λ xs. xs ++ a ∷ []) is))
  | inr d ↦ rw (other m k d) (atoms_away s.mems m (λ xs. xs ++ a ∷ []) k (λ e. d (sym e)) ∙ sym (plus_nothing (atoms_in s k)))
]
  where
    other : (x y : ℕ) → x ≢ y → (x == y) ≡ false
    other x y d = by (x == y) refl
      where
        by : (t : Bool) → (x == y) ≡ t → t ≡ false
        by true e = absurd (d (eqb-true x y e))
        by false e = refl

-- what holds when some atoms are placed
pub record AfterPlacing (s t : Heap) (es : List (ℕ × ℕ)) (rest : List ℕ) : Type 0 where
  pub listed : Listed t
  pub paired : Paired t
  pub stays : Stays s t
  pub lists : (k : ℕ) → atoms_in t k ≡ atoms_in s k ++ placed_in k es
  pub others : (b : ℕ) → (In b (map (λ (e : ℕ × ℕ). e.1) es) → ⊥) → place_of t b ≡ place_of s b
  pub line : t.new_atoms ≡ rest

from_first : (a : ℕ) (xs ys : List ℕ) → ys ≡ a ∷ xs → from (Some a) ys ≡ ys
from_first a xs ys e = subst (λ z. from (Some a) z ≡ z) (sym e) (ap (λ z. a ∷ z) (after_first a xs))

-- the membranes of pairs stand in the heap, and none of them waits
abbrev pub AllStand : Heap → List (ℕ × ℕ) → Type 0
AllStand s [] = Unit {0}
AllStand s (e ∷ es) = IsSome (s.mems e.0) × (mem_place_of s e.0 ≡ Some waiting → ⊥) × AllStand s es

some_by_place : (s t : Heap) (m : ℕ) → mem_place_of t m ≡ mem_place_of s m → IsSome (s.mems m) → IsSome (t.mems m)
some_by_place s t m e is = by (s.mems m) (t.mems m) e is
  where
    by : (o q : Option HeapMem) → option_map (λ y. y.place) q ≡ option_map (λ y. y.place) o → IsSome o → IsSome q
    by None q e i = absurd (cc)
    by (Some x) None e i = absurd (cc)
    by (Some x) (Some y) e i = refl

stand_on : (s t : Heap) (es : List (ℕ × ℕ)) → ((m : ℕ) → mem_place_of t m ≡ mem_place_of s m) → AllStand s es → AllStand t es
stand_on s t [] e w = tt
stand_on s t (f ∷ es) e w = (some_by_place s t f.0 (e f.0) w.0, (λ g. w.1 (sym (e f.0) ∙ g)), stand_on s t es e w.2)

-- the second numbers of pairs
abbrev pub atoms_of_pairs : List (ℕ × ℕ) → List ℕ
atoms_of_pairs es = map (λ (e : ℕ × ℕ). e.1) es

-- what is placed in a membrane, first one and then others
pub placed_in_one : (m a k : ℕ) (es : List (ℕ × ℕ)) → placed_in k ((m, a) ∷ []) ++ placed_in k es ≡ placed_in k ((m, a) ∷ es)
placed_in_one m a k es = by (m == k)
  where
    by : (t : Bool) → cond t (a ∷ []) [] ++ placed_in k es ≡ cond t (a ∷ placed_in k es) (placed_in k es)
    by true = refl
    by false = refl

-- so it does where they wait first in line
pub all_placed_after : (es : List (ℕ × ℕ)) (rest : List ℕ) (s : Heap) → Listed s → Paired s → s.new_atoms ≡ atoms_of_pairs es ++ rest → AllStand s es → AfterPlacing s (all_placed s es) es rest
all_placed_after [] rest s h p line w = record { listed = h; paired = p; stays = nothing_changes s; lists = λ k. sym (plus_nothing (atoms_in s k)); others = λ b o. refl; line = line }
all_placed_after (e ∷ es) rest s h p line w =
    let t = placed s e.0 e.1 in
    let first = from_first e.1 (atoms_of_pairs es ++ rest) s.new_atoms line in
    let on = all_placed_after es rest t (placed_listed s e.0 e.1 h w.0 w.1 first) (placed_paired s e.0 e.1 p)
    (ap (after e.1) line ∙ after_first e.1 (atoms_of_pairs es ++ rest)) (stand_on s t es (placed_stays s e.0 e.1).mem_places w.2) in
    record {
      listed = on.listed;
      paired = on.paired;
      stays = stays_after s t (all_placed t es) (placed_stays s e.0 e.1) on.stays;
      lists = λ k. on.lists k ∙ ap (λ xs. xs ++ placed_in k es) (placed_lists s e.0 e.1 w.0 k) ∙ append_assoc (atoms_in s k) (placed_in k ((e.0, e.1) ∷ [])) (placed_in k es)
          ∙ ap (λ xs. atoms_in s k ++ xs) (placed_in_one e.0 e.1 k es);
      others = λ b o. on.others b (λ i. o (inr i)) ∙ place_away s.atoms e.1 (within e.0) b (λ f. o (inl (sym f)));
      line = on.line;
    }
