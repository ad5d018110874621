-- Each graph of a solid is that of a heap between commits.
use Rattle.std.proofs.Common.{ℕ, zero, suc, ◌≡◌, ◌≢◌, ◌∙◌, ◌<◌, ◌+◌, ◌⊎◌, ◌==◌, Bool, true, false, List, [], ◌∷◌, ◌++◌, Option, Some, None, IsSome, if◌then◌else◌, length, replicate, refl, sym, ap, subst, inl, inr, arith}
use Rattle.std.specs.Prelude.{flat_map, slice_index_or}
use Rattle.std.specs.List.{AllByRecursion}
use Rattle.std.specs.Option.{option_and_then, option_map}
use Rattle.std.proofs.lemmas.Bool.{cases_eq, eq-eqb, eqb-true}
use Rattle.std.proofs.lemmas.Option.{same_Some}
use Rattle.lmn_base.specs.declared.functor.Functor.{Functor}
use Rattle.lmn_base.specs.declared.solid.Region.{Region}
use Rattle.lmn_base.specs.declared.solid.Region.TheViews.{roll-Region}
use Rattle.lmn_base.specs.declared.solid.Solid.{Solid}
use Rattle.lmn_base.specs.declared.solid.SolidAtom.{SolidAtom}
use Rattle.lmn_base.specs.Graphs.{Port}
use Rattle.lmn_base.specs.Lists.{In}
use Rattle.lmn_base.proofs.Lists.{in_either}
use Rattle.lmn_base.proofs.Numbers.{zeros_at}
use Rattle.lmn_store_heap.specs.Heap.{Heap, HeapAtom, HeapMem, IsAtom, IsMem, Place, Unmarked, arity_of, atoms_by, atoms_in, functor_of, gone, home_by, home_of, link_of, marks_of, mem_place_of, mems_by, mems_in, parent_of, partners_of, place_of, rules_by, rules_in, top, waiting, within}
use Rattle.lmn_store_heap.specs.Lists.{Distinct}
use Rattle.lmn_store_heap.specs.Solid.{HasSolid, regions_of}
use Rattle.lmn_store_heap.specs.Sound.{Forest, Forms, IsTree, Listed, Paired, Shaped, Valid, bare, flat, mem}
use Rattle.lmn_store_heap.proofs.Common.{decide_in, place_home}
use Rattle.lmn_store_heap.proofs.Heights.{parent_place}
use Rattle.lmn_store_heap.proofs.ListLemmas.{distinct_left, distinct_right, each_in, in_left, in_right}
use Rattle.lmn_store_heap.proofs.Listing.{home_is}
use Rattle.lmn_store_heap.proofs.Trees.{parent_by}
use Rattle.lmn_verify_solids.specs.Graphs.{Graph, IsGraphOf, IsPort, Stand, atom_with, none_stands, one_stands}
use Rattle.lmn_verify_solids.specs.Heaps.{graph_of}
use Rattle.lmn_verify_solids.proofs.HeapsAreGraphs.{atoms_same}

-- ---- the heap

abbrev placed_by : Option ℕ → Place
placed_by None = gone
placed_by (Some m) = within m

abbrev ports_from : Graph → ℕ → ℕ → ℕ → List (Option Port)
ports_from g a k zero = []
ports_from g a k (suc n) = g.map.partner (a, k) ∷ ports_from g a (k + 1) n

abbrev atom_at : Graph → ℕ → Functor → HeapAtom
atom_at g a f = record { functor = f; links = ports_from g a 0 f.arity; marks = replicate (f.arity + 1) 0; place = placed_by (g.map.home a) }

abbrev membrane_at : Graph → ℕ → Place → HeapMem
membrane_at g m p = record { atoms = g.atoms m; mems = g.membranes m; rules = g.rules m; spare = 0; mark = 0; place = p }

abbrev membrane_by : Graph → ℕ → Option ℕ → Option HeapMem
membrane_by g m None = if m == g.root then Some (membrane_at g m top) else None
membrane_by g m (Some p) = Some (membrane_at g m (within p))

abbrev pub heap_of : Graph → Heap
heap_of g = record {
  root = g.root;
  atoms = λ a. option_map (atom_at g a) (g.map.functor a);
  mems = λ m. membrane_by g m (g.round m);
  new_atoms = [];
  new_mems = [];
}

abbrev nobody : Option ℕ
nobody = None

-- ---- what stands

module _ (g : Graph) (link : ℕ → ℕ → ℕ) where
  list_in : {ms all : List ℕ} {rs : List Region} → Stand g link ms all rs → (x : ℕ) → In x ms → In x all
  list_in none_stands x i = i
  list_in (one_stands s t) x (inl e) = inl e
  list_in (one_stands {inner = inner} {later = later} s t) x (inr i) = inr (in_right x inner later (list_in t x i))

  child_in : {ms all : List ℕ} {rs : List Region} → Stand g link ms all rs → (p x : ℕ) → In p all → In x (g.membranes p) → In x all
  child_in none_stands p x i j = absurd i
  child_in (one_stands {inner = inner} {later = later} s t) p x (inl e) j = inr (in_left x inner later (list_in s x (subst (λ z. In x (g.membranes z)) (sym e) j)))
  child_in (one_stands {inner = inner} {later = later} s t) p x (inr i) j = elim (in_either p inner later i) [
    | inl k ↦ inr (in_left x inner later (child_in s p x k j))
    | inr k ↦ inr (in_right x inner later (child_in t p x k j))
  ]

  list_or_child : {ms all : List ℕ} {rs : List Region} → Stand g link ms all rs → (x : ℕ) → In x all → In x ms ⊎ ((p : ℕ) × In x (g.membranes p))
  list_or_child none_stands x i = inl i
  list_or_child (one_stands s t) x (inl e) = inl (inl e)
  list_or_child (one_stands {m = m} {inner = inner} {later = later} s t) x (inr i) = elim (in_either x inner later i) [
    | inl k ↦ inr (elim (list_or_child s x k) [ inl j ↦ (m, j) | inr j ↦ j ])
    | inr k ↦ elim (list_or_child t x k) [ inl j ↦ inl (inr j) | inr j ↦ inr j ]
  ]

  list_once : {ms all : List ℕ} {rs : List Region} → Stand g link ms all rs → Distinct all → Distinct ms
  list_once none_stands d = d
  list_once (one_stands {m = m} {ms = ms} {inner = inner} {later = later} s t) d = (each ms (λ x i. list_in t x i), list_once t (distinct_right inner later d.1))
    where
      each : (xs : List ℕ) → ((x : ℕ) → In x xs → In x later) → AllByRecursion (λ y. m ≢ y) xs
      each [] all = tt
      each (x ∷ xs) all = (each_in (λ y. m ≢ y) (inner ++ later) x d.0 (in_right x inner later (all x (inl refl))), each xs (λ y i. all y (inr i)))

  children_once : {ms all : List ℕ} {rs : List Region} → Stand g link ms all rs → Distinct all → (p : ℕ) → In p all → Distinct (g.membranes p)
  children_once none_stands d p i = absurd i
  children_once (one_stands {inner = inner} {later = later} s t) d p (inl e) = subst (λ z. Distinct (g.membranes z)) e (list_once s (distinct_left inner later d.1))
  children_once (one_stands {inner = inner} {later = later} s t) d p (inr i) = elim (in_either p inner later i) [
    | inl k ↦ children_once s (distinct_left inner later d.1) p k
    | inr k ↦ children_once t (distinct_right inner later d.1) p k
  ]

-- ---- the heap of a graph of a solid

module _ (g : Graph) (S : Solid) (is : IsGraphOf g S) where
  abbrev H : Heap
  H = heap_of g

  -- no membrane has the root in it
  root_round : (p : ℕ) → In g.root (g.membranes p) → ⊥
  root_round p i = elim (decide_in p is.all) [ inl j ↦ inside is.stands is.once j | inr o ↦ (let none = is.nowhere p o in subst (In g.root) none.1 i) ]
    where
      inside : {all : List ℕ} {rs : List Region} → Stand g is.link (g.root ∷ []) all rs → Distinct all → In p all → ⊥
      inside (one_stands {inner = inner} {later = later} s t) d j = elim j [
        | inl e ↦ twice inner later d.0 (in_left g.root inner later (list_in g is.link s g.root (subst (λ z. In g.root (g.membranes z)) (sym e) i)))
        | inr k ↦ twice inner later d.0 (elim (in_either p inner later k) [
          | inl q ↦ in_left g.root inner later (child_in g is.link s p g.root q i)
          | inr q ↦ in_right g.root inner later (child_in g is.link t p g.root q i)
        ])
      ]
        where
          twice : (xs ys : List ℕ) → AllByRecursion (λ y. g.root ≢ y) (xs ++ ys) → In g.root (xs ++ ys) → ⊥
          twice xs ys all i = each_in (λ y. g.root ≢ y) (xs ++ ys) g.root all i refl

  top_round : g.round g.root ≡ None
  top_round = by (g.round g.root) refl
    where
      by : (o : Option ℕ) → g.round g.root ≡ o → o ≡ None
      by None e = refl
      by (Some p) e = absurd (root_round p ((is.rounds g.root p).1 e))

  -- a number of no membrane
  out_of_all : (m : ℕ) → g.round m ≡ None → m ≢ g.root → In m is.all → ⊥
  out_of_all m e d i = elim (list_or_child g is.link is.stands m i) [
    | inl j ↦ elim j [ inl same ↦ d (sym same) | inr none ↦ none ]
    | inr w ↦ absurd (let f = (is.rounds m w.0).0 w.1 in cc (e, f))
  ]

  -- ---- its graph

  functor_is : (a : ℕ) → functor_of H a ≡ g.map.functor a
  functor_is a = by (g.map.functor a)
    where
      by : (o : Option Functor) → option_map (λ x. x.functor) (option_map (atom_at g a) o) ≡ o
      by None = refl
      by (Some f) = refl

  long : (a k n : ℕ) → length (ports_from g a k n) ≡ n
  long a k zero = refl
  long a k (suc n) = ap suc (long a (k + 1) n)

  port_in : (a k n i : ℕ) → i < n → slice_index_or (ports_from g a k n) i None ≡ g.map.partner (a, k + i)
  port_in a k zero i l = absurd (omega (arith, l))
  port_in a k (suc n) zero l = let z : k + 0 ≡ k = omega arith in ap (λ j. g.map.partner (a, j)) (sym z)
  port_in a k (suc n) (suc i) l = let z : (k + 1) + i ≡ k + suc i = omega arith in port_in a (k + 1) n i (omega (arith, l)) ∙ ap (λ j. g.map.partner (a, j)) z

  port_past : (a k n i : ℕ) → (i < n → ⊥) → slice_index_or (ports_from g a k n) i None ≡ None
  port_past a k zero i l = refl
  port_past a k (suc n) zero l = absurd (l (omega arith))
  port_past a k (suc n) (suc i) l = port_past a (k + 1) n i (λ m. l (omega (arith, m)))

  no_partner : (p : Port) → (IsPort g p → ⊥) → g.map.partner p ≡ None
  no_partner p without = by (g.map.partner p) refl
    where
      by : (o : Option Port) → g.map.partner p ≡ o → o ≡ None
      by None e = refl
      by (Some q) e = absurd (without (is.joined p q e).0)

  less_or_not : (i n : ℕ) → (i < n) ⊎ (i < n → ⊥)
  less_or_not i zero = inr (λ l. omega (arith, l))
  less_or_not zero (suc n) = inl (omega arith)
  less_or_not (suc i) (suc n) = elim (less_or_not i n) [ inl l ↦ inl (omega (arith, l)) | inr o ↦ inr (λ l. o (omega (arith, l))) ]

  partner_is : (a i : ℕ) → link_of H a i ≡ g.map.partner (a, i)
  partner_is a i = by (g.map.functor a) refl
    where
      at : (f : Functor) → g.map.functor a ≡ Some f → (i < f.arity) ⊎ (i < f.arity → ⊥) → slice_index_or (ports_from g a 0 f.arity) i None ≡ g.map.partner (a, i)
      at f e (inl l) = (let z : 0 + i ≡ i = omega arith in port_in a 0 f.arity i l ∙ ap (λ j. g.map.partner (a, j)) z)
      at f e (inr o) = port_past a 0 f.arity i o ∙ sym (no_partner (a, i) (λ w. let l = w.2 in o (subst (λ (z : Functor). i < z.arity) (same_Some w.0 f (sym w.1 ∙ e)) l)))

      by : (o : Option Functor) → g.map.functor a ≡ o → slice_index_or (partners_of (option_map (atom_at g a) o)) i None ≡ g.map.partner (a, i)
      by None e = sym (no_partner (a, i) (λ w. absurd (let f = w.1 in cc (e, f))))
      by (Some f) e = at f e (less_or_not i f.arity)

  home_at : (o : Option ℕ) → home_by (placed_by o) ≡ o
  home_at None = refl
  home_at (Some m) = refl

  home_same : (a : ℕ) → home_of H a ≡ g.map.home a
  home_same a = by (g.map.functor a) refl
    where
      none : g.map.functor a ≡ None → (o : Option ℕ) → g.map.home a ≡ o → o ≡ None
      none e None f = refl
      none e (Some m) f = absurd (let s = (is.placed a).1 (subst (λ (z : Option ℕ). IsSome z) (sym f) refl) in cc (e, s))

      by : (o : Option Functor) → g.map.functor a ≡ o → option_and_then (λ x. home_by x.place) (option_map (atom_at g a) o) ≡ g.map.home a
      by None e = sym (none e (g.map.home a) refl)
      by (Some f) e = home_at (g.map.home a)

  -- what is read of a membrane, where it isn't there
  read_by : {X : Type 0} (read : Option HeapMem → X) (of : ℕ → X) → ((m : ℕ) (p : Place) → read (Some (membrane_at g m p)) ≡ of m) → ((m : ℕ) → (In m is.all → ⊥) → of m ≡ read None) → (m : ℕ) → read (H.mems m) ≡ of m
  read_by read of there out m = by (g.round m) refl
    where
      at : (t : Bool) → (m == g.root) ≡ t → g.round m ≡ None → read (if t then Some (membrane_at g m top) else None) ≡ of m
      at true e f = there m top
      at false e f = sym (out m (out_of_all m f (λ d. absurd (let t : (m == g.root) ≡ true = eq-eqb m g.root d in cc (t, e)))))

      by : (o : Option ℕ) → g.round m ≡ o → read (membrane_by g m o) ≡ of m
      by None e = at (m == g.root) refl e
      by (Some p) e = there m (within p)

  atoms_are : (m : ℕ) → atoms_in H m ≡ g.atoms m
  atoms_are = read_by atoms_by g.atoms (λ m p. refl) (λ m out. (is.nowhere m out).0)

  mems_are : (m : ℕ) → mems_in H m ≡ g.membranes m
  mems_are = read_by mems_by g.membranes (λ m p. refl) (λ m out. (is.nowhere m out).1)

  rules_are : (m : ℕ) → rules_in H m ≡ g.rules m
  rules_are = read_by rules_by g.rules (λ m p. refl) (λ m out. (is.nowhere m out).2)

  -- the place of a membrane
  place_is : (m : ℕ) → (o : Option ℕ) → g.round m ≡ o → (n : ℕ) → (option_map (λ (x : HeapMem). x.place) (membrane_by g m o) ≡ Some top → m ≡ g.root)
      × (option_and_then (λ (x : HeapMem). home_by x.place) (membrane_by g m o) ≡ o) × (option_map (λ (x : HeapMem). x.place) (membrane_by g m o) ≡ Some waiting → ⊥)
      × (IsSome (membrane_by g m o) → (option_map (λ (x : HeapMem). x.place) (membrane_by g m o) ≡ Some top) ⊎ IsSome o)
  place_is m (Some p) e n = ((λ f. absurd (cc f)), refl, (λ f. absurd (cc f)), (λ s. inr refl))
  place_is m None e n = by (m == g.root) refl
    where
      by : (t : Bool) → (m == g.root) ≡ t → (option_map (λ (x : HeapMem). x.place) (if t then Some (membrane_at g m top) else None) ≡ Some top → m ≡ g.root)
          × (option_and_then (λ (x : HeapMem). home_by x.place) (if t then Some (membrane_at g m top) else None) ≡ None) × (option_map (λ (x : HeapMem). x.place) (if t then Some (membrane_at g m top) else None) ≡ Some waiting → ⊥)
          × (IsSome (if t then Some (membrane_at g m top) else None) → (option_map (λ (x : HeapMem). x.place) (if t then Some (membrane_at g m top) else None) ≡ Some top) ⊎ IsSome nobody)
      by true f = ((λ e. elim (cases_eq m g.root) [ inl s ↦ s | inr d ↦ absurd (apart_by d f) ]), refl, (λ e. absurd (cc e)), (λ s. inl refl))
        where
          apart_by : (m ≡ g.root → ⊥) → (m == g.root) ≡ true → ⊥
          apart_by d f = d (eqb-true m g.root f)
      by false f = ((λ e. absurd (cc e)), refl, (λ e. absurd (cc e)), (λ s. absurd (cc s)))

  round_is : (m : ℕ) → parent_of H m ≡ g.round m
  round_is m = (place_is m (g.round m) refl 0).1

  pub graph_same : graph_of H ≡ g
  graph_same = λ i. record {
    root = g.root;
    map = record { functor = λ a. functor_is a i; partner = λ p. partner_is p.0 p.1 i; home = λ a. home_same a i };
    atoms = λ m. atoms_are m i;
    membranes = λ m. mems_are m i;
    rules = λ m. rules_are m i;
    round = λ m. round_is m i;
  }

  -- ---- it is valid

  paired : Paired H
  paired = record {
    back = λ a i b j e. partner_is b j ∙ (is.joined (a, i) (b, j) (sym (partner_is a i) ∙ e)).2;
    apart = λ a i e. (is.joined (a, i) (a, i) (sym (partner_is a i) ∙ e)).1 refl;
  }

  no_place : (P : Place) → (home_by P ≡ None) → (P ≢ gone) → (a : ℕ) → place_of H a ≡ Some P → ⊥
  no_place P none d a e = by (g.map.functor a) e
    where
      at : (o : Option ℕ) → placed_by o ≡ P → ⊥
      at None f = d (sym f)
      at (Some m) f = let n : home_by (within m) ≡ None = ap home_by f ∙ none in absurd (cc n)

      by : (o : Option Functor) → option_map (λ (x : HeapAtom). x.place) (option_map (atom_at g a) o) ≡ Some P → ⊥
      by None f = absurd (cc f)
      by (Some x) f = at (g.map.home a) (same_Some (placed_by (g.map.home a)) P f)

  top_apart : top ≢ gone
  top_apart e = absurd (cc e)

  waiting_apart : waiting ≢ gone
  waiting_apart e = absurd (cc e)

  mem_there : (m : ℕ) → IsMem H m → In m is.all
  mem_there m s = elim ((place_is m (g.round m) refl 0).3 s) [
    | inl t ↦ subst (λ z. In z is.all) (sym ((place_is m (g.round m) refl 0).0 t)) (list_in g is.link is.stands g.root (inl refl))
    | inr t ↦ by (g.round m) refl t
  ]
    where
      by : (o : Option ℕ) → g.round m ≡ o → IsSome o → In m is.all
      by None e s = absurd (cc s)
      by (Some p) e s = (let i = (is.rounds m p).1 e in elim (decide_in p is.all) [
        | inl j ↦ child_in g is.link is.stands p m j i
        | inr o ↦ absurd (let none = is.nowhere p o in subst (In m) none.1 i)
      ])

  listed : Listed H
  listed = record {
    atoms = λ m a. ((λ i. home_is H a m (home_same a ∙ (is.homes a m).0 (subst (In a) (atoms_are m) i))), (λ e. subst (In a) (sym (atoms_are m)) ((is.homes a m).1 (sym (home_same a) ∙ place_home H a m e))));
    atoms_once = λ m. subst Distinct (sym (atoms_are m)) (is.atoms_once m);
    mems = λ m n. ((λ i. parent_place H n m (round_is n ∙ (is.rounds n m).0 (subst (In n) (mems_are m) i))), (λ e. subst (In n) (sym (mems_are m)) ((is.rounds n m).1 (sym (round_is n) ∙ parent_by H n (within m) e))));
    mems_once = λ m. subst Distinct (sym (mems_are m)) (elim (decide_in m is.all) [ inl j ↦ children_once g is.link is.stands is.once m j | inr o ↦ subst Distinct (sym (is.nowhere m o).1) tt ]);
    new_atoms = λ a. ((λ i. absurd i), (λ e. no_place waiting refl waiting_apart a e));
    new_atoms_once = tt;
    new_mems = λ m. ((λ i. absurd i), (λ e. (place_is m (g.round m) refl 0).2 e));
    new_mems_once = tt;
    root = λ m. ((λ e. (place_is m (g.round m) refl 0).0 e), (λ e. subst (λ z. mem_place_of H z ≡ Some top) (sym e) root_place));
    no_top = λ a e. no_place top refl top_apart a e;
    new_empty = λ m e. absurd ((place_is m (g.round m) refl 0).2 e);
  }
    where
      root_place : mem_place_of H g.root ≡ Some top
      root_place = subst (λ (o : Option ℕ). option_map (λ (x : HeapMem). x.place) (membrane_by g g.root o) ≡ Some top) (sym top_round)
          (subst (λ t. option_map (λ (x : HeapMem). x.place) (if t then Some (membrane_at g g.root top) else None) ≡ Some top) (sym (eq-eqb g.root g.root refl)) refl)

  shaped : Shaped H
  shaped = record { ports = ports; marks = λ a s. marks a (g.map.functor a) s }
    where
      ports : (a : ℕ) (f : Functor) → functor_of H a ≡ Some f → arity_of H a ≡ f.arity
      ports a f e = by (g.map.functor a) e
        where
          by : (o : Option Functor) → option_map (λ (x : HeapAtom). x.functor) (option_map (atom_at g a) o) ≡ Some f → length (partners_of (option_map (atom_at g a) o)) ≡ f.arity
          by None e = absurd (cc e)
          by (Some x) e = long a 0 x.arity ∙ ap (λ (z : Functor). z.arity) (same_Some x f e)

      zeros : (n : ℕ) → length {A = ℕ} (replicate n 0) ≡ n
      zeros zero = refl
      zeros (suc n) = ap suc (zeros n)

      marks : (a : ℕ) (o : Option Functor) → IsSome (option_map (atom_at g a) o) → length (marks_of (option_map (atom_at g a) o)) ≡ length (partners_of (option_map (atom_at g a) o)) + 1
      marks a None s = absurd (cc s)
      marks a (Some f) s = let z = zeros (f.arity + 1) in let l = long a 0 f.arity in omega (arith, z, l)

  atom_there : (a : ℕ) → IsAtom H a → IsSome (g.map.functor a)
  atom_there a s = by (g.map.functor a) s
    where
      by : (o : Option Functor) → IsSome (option_map (atom_at g a) o) → IsSome o
      by None s = absurd (cc s)
      by (Some f) s = refl

  port_there : (a i : ℕ) → i < arity_of H a → IsPort g (a, i)
  port_there a i l = by (g.map.functor a) refl l
    where
      by : (o : Option Functor) → g.map.functor a ≡ o → i < length (partners_of (option_map (atom_at g a) o)) → IsPort g (a, i)
      by None e l = absurd (omega (arith, l))
      by (Some f) e l = (f, e, (let n = long a 0 f.arity in omega (arith, l, n)))

  forest_of : {ms all : List ℕ} {rs : List Region} → Stand g is.link ms all rs → (f : Forest) × Forms H f ms × (flat f ≡ all) × (regions_of H is.link f ≡ rs)
  forest_of none_stands = (bare, refl, refl, refl)
  forest_of (one_stands {m = m} {ms = ms} {inner = inner} {later = later} {is = regions} {rs = rs} s t) =
      let u = forest_of s in
      let w = forest_of t in
      let atoms = sym (atoms_same H is.link (atoms_in H m)) ∙ at (atoms_in H m) ∙ ap (λ xs. own xs) (atoms_are m) in
      let rules = rules_are m in (
        mem m u.0 w.0,
        (ms, refl, subst (Forms H u.0) (sym (mems_are m)) u.1, w.1),
        (λ i. m ∷ u.2 i ++ w.2 i),
        (λ i. roll-Region (record { atoms = atoms i; membranes = u.3 i; rules = rules i }) ∷ w.3 i),
      )
    where
      own : List ℕ → List SolidAtom
      own xs = flat_map (λ a. atom_with is.link a (g.map.functor a)) xs

      at : (xs : List ℕ) → flat_map (λ a. atom_with is.link a (functor_of H a)) xs ≡ own xs
      at [] = refl
      at (a ∷ xs) = let here = functor_is a in let rest = at xs in λ i. atom_with is.link a (here i) ++ rest i

  tree : (f : Forest) × Forms H f (g.root ∷ []) × (flat f ≡ is.all) × (regions_of H is.link f ≡ S.root ∷ [])
  tree = forest_of is.stands

  is_tree : IsTree H tree.0
  is_tree = record {
    forms = tree.1;
    once = subst Distinct (sym tree.2) is.once;
    all = λ m s. subst (In m) (sym tree.2) (mem_there m s);
  }

  pub valid : Valid H
  valid = record {
    sound = record { paired = paired; listed = listed; shaped = shaped };
    settled = record {
      atoms = λ a s. subst (λ (o : Option ℕ). IsSome o) (sym (home_same a)) ((is.placed a).0 (atom_there a s));
      mems = λ m s. elim ((place_is m (g.round m) refl 0).3 s) [ inl t ↦ inl t | inr t ↦ inr (subst (λ (o : Option ℕ). IsSome o) (sym (round_is m)) t) ];
    };
    full = λ a i l. subst (λ (o : Option Port). IsSome o) (sym (partner_is a i)) (is.full (a, i) (port_there a i l));
    no_connector = λ a s e. is.no_connector a (sym (functor_is a) ∙ e);
    tree = (tree.0, is_tree);
  }

  pub unmarked : Unmarked H
  unmarked a i = by (g.map.functor a)
    where
      by : (o : Option Functor) → slice_index_or (marks_of (option_map (atom_at g a) o)) i 0 ≡ 0
      by None = refl
      by (Some f) = zeros_at (f.arity + 1) i

  pub solid : HasSolid H S
  solid = record {
    forest = tree.0;
    tree = is_tree;
    name = is.link;
    naming = record {
      joined = λ a i b j e. (is.joined (a, i) (b, j) (sym (partner_is a i) ∙ e)).3;
      apart = λ a i b j l k e. elim (is.apart (a, i) (b, j) (port_there a i l) (port_there b j k) e) [
        | inl s ↦ inl (ap (λ (p : Port). p.0) s, ap (λ (p : Port). p.1) s)
        | inr s ↦ inr (partner_is a i ∙ s)
      ];
    };
    root = tree.3;
    count = is.count;
    numbers = is.numbers;
  }
