-- The graph of a heap between commits is one of its solid.
use Rattle.std.proofs.Common.{ℕ, suc, ◌≡◌, ◌≢◌, ◌∙◌, ◌<◌, ◌+◌, ◌⊎◌, List, [], ◌∷◌, ◌++◌, Option, Some, None, IsSome, length, map, refl, sym, ap, subst, inl, inr, arith}
use Rattle.std.specs.Prelude.{flat_map, sum}
use Rattle.std.specs.Option.{option_map}
use Rattle.std.proofs.lemmas.List.{length-map}
use Rattle.lmn_base.specs.declared.functor.Functor.{Functor}
use Rattle.lmn_base.specs.declared.solid.Region.{Region}
use Rattle.lmn_base.specs.declared.solid.Region.TheFolds.{fold-Region, fold-roll-Region}
use Rattle.lmn_base.specs.declared.solid.Region.TheViews.{roll-Region}
use Rattle.lmn_base.specs.declared.solid.Solid.{Solid}
use Rattle.lmn_base.specs.declared.solid.SolidAtom.{SolidAtom}
use Rattle.lmn_base.specs.Graphs.{Port}
use Rattle.lmn_base.specs.Lists.{In}
use Rattle.lmn_base.specs.Solids.{item_count, items_step}
use Rattle.lmn_base.proofs.Lists.{head_is, sum_cons, tail_is, weigh, weigh_append}
use Rattle.lmn_store_heap.specs.Heap.{Heap, HeapAtom, HeapMem, IsAtom, IsMem, arity_of, atoms_by, atoms_in, functor_of, link_of, mems_by, mems_in, rules_by, rules_in}
use Rattle.lmn_store_heap.specs.Solid.{HasSolid, regions_of, solid_atom_at, solid_atoms_at}
use Rattle.lmn_store_heap.specs.Sound.{Forest, Forms, IsTree, Valid, bare, flat, item_count_in, mem}
use Rattle.lmn_store_heap.proofs.Calls.{one_tree}
use Rattle.lmn_store_heap.proofs.Common.{has_functor, in_place_atom, linked_atom, place_home}
use Rattle.lmn_store_heap.proofs.Heights.{parent_is, parent_place}
use Rattle.lmn_store_heap.proofs.Listing.{home_is}
use Rattle.lmn_store_heap.proofs.Replacing.{port_within}
use Rattle.lmn_verify_solids.specs.Graphs.{Graph, IsGraphOf, IsPort, Stand, atom_with, none_stands, one_stands}
use Rattle.lmn_verify_solids.specs.Heaps.{graph_of}

-- ---- what stands in membranes

module _ (h : Heap) where
  abbrev G : Graph
  G = graph_of h

  atom_same : (link : ℕ → ℕ → ℕ) (a : ℕ) (o : Option HeapAtom) → atom_with link a (option_map (λ x. x.functor) o) ≡ solid_atom_at link a o
  atom_same link a None = refl
  atom_same link a (Some x) = refl

  -- the atoms of a list, as a solid has them
  pub atoms_same : (link : ℕ → ℕ → ℕ) (xs : List ℕ) → flat_map (λ a. atom_with link a (functor_of h a)) xs ≡ solid_atoms_at h link xs
  atoms_same link [] = refl
  atoms_same link (a ∷ xs) = let here = atom_same link a (h.atoms a) in let rest = atoms_same link xs in λ i. here i ++ rest i

  -- the membranes of a forest stand as the regions that they are
  pub stands : (link : ℕ → ℕ → ℕ) (f : Forest) (ms : List ℕ) → Forms h f ms → Stand G link ms (flat f) (regions_of h link f)
  stands link bare ms e = subst (λ zs. Stand G link zs [] []) (sym e) none_stands
  stands link (mem m inner rest) ms w =
      let first : Stand G link (mems_in h m) (flat inner) (regions_of h link inner) = stands link inner (mems_in h m) w.2 in
      let others : Stand G link w.0 (flat rest) (regions_of h link rest) = stands link rest w.0 w.3 in
      subst (λ zs. Stand G link zs (m ∷ flat inner ++ flat rest) (regions_of h link (mem m inner rest))) (sym w.1)
      (subst (λ (xs : List SolidAtom). Stand G link (m ∷ w.0) (m ∷ flat inner ++ flat rest) (roll-Region (record { atoms = xs; membranes = regions_of h link inner; rules = rules_in h m }) ∷ regions_of h link rest))
      (atoms_same link (atoms_in h m)) (one_stands first others))

  -- in one preorder
  pub preorder : {link : ℕ → ℕ → ℕ} {ms all : List ℕ} {rs : List Region} → Stand G link ms all rs → (f : Forest) → Forms h f ms → all ≡ flat f
  preorder none_stands bare w = refl
  preorder none_stands (mem m i r) w = absurd (let e = w.1 in cc e)
  preorder (one_stands s t) bare w = absurd (cc w)
  preorder (one_stands {m = m} {ms = ms} s t) (mem n i r) w =
      let here = head_is w.1 in
      let inner = preorder s i (subst (λ z. Forms h i (mems_in h z)) (sym here) w.2) in
      let later = preorder t r (subst (Forms h r) (sym (tail_is w.1)) w.3) in
      λ k. here k ∷ inner k ++ later k

  module _ (v : Valid h) where
    atom_there : (a m : ℕ) → In a (atoms_in h m) → IsAtom h a
    atom_there a m i = let sound = v.sound in let listed = sound.listed in in_place_atom h a (subst (λ (o : Option ℕ). IsSome o) (sym (place_home h a m ((listed.atoms m a).0 i))) refl)

    functor_there : (a : ℕ) → IsAtom h a → IsSome (functor_of h a)
    functor_there a i = by (h.atoms a) i
      where
        by : (o : Option HeapAtom) → IsSome o → IsSome (option_map (λ x. x.functor) o)
        by None s = absurd (cc s)
        by (Some x) s = refl

    functor_back : (a : ℕ) → IsSome (functor_of h a) → IsAtom h a
    functor_back a i = by (h.atoms a) i
      where
        by : (o : Option HeapAtom) → IsSome (option_map (λ x. x.functor) o) → IsSome o
        by None s = absurd (cc s)
        by (Some x) s = refl

    port_there : (a i : ℕ) → IsAtom h a → i < arity_of h a → IsPort G (a, i)
    port_there a i s l = let f = has_functor h a s in let sound = v.sound in let shaped = sound.shaped in let e = shaped.ports a f.0 f.1 in (f.0, f.1, omega (arith, l, e))

    port_back : (p : Port) → IsPort G p → p.1 < arity_of h p.0
    port_back p w = let sound = v.sound in let shaped = sound.shaped in let e = shaped.ports p.0 w.0 w.1 in let l = w.2 in omega (arith, l, e)

    nothing_there : (m : ℕ) → (IsMem h m → ⊥) → (atoms_in h m ≡ []) × (mems_in h m ≡ []) × (rules_in h m ≡ [])
    nothing_there m n = by (h.mems m) n
      where
        by : (o : Option HeapMem) → (IsSome o → ⊥) → (atoms_by o ≡ []) × (mems_by o ≡ []) × (rules_by o ≡ [])
        by None n = (refl, refl, refl)
        by (Some x) n = absurd (n refl)

    module _ (S : Solid) (has : HasSolid h S) where
      joined : (p q : Port) → link_of h p.0 p.1 ≡ Some q → IsPort G p × (p ≢ q) × (link_of h q.0 q.1 ≡ Some p) × (has.name p.0 p.1 ≡ has.name q.0 q.1)
      joined (a, i) (b, j) e =
          let sound = v.sound in
          let paired = sound.paired in
          let naming = has.naming in
          let l = port_within h a i (b, j) e in (
            port_there a i (linked_atom h a i e) l,
            (λ d. paired.apart a i (subst (λ (z : Port). link_of h a i ≡ Some z) (sym d) e)),
            paired.back a i b j e,
            naming.joined a i b j e,
          )

      apart : (p q : Port) → IsPort G p → IsPort G q → has.name p.0 p.1 ≡ has.name q.0 q.1 → (p ≡ q) ⊎ (link_of h p.0 p.1 ≡ Some q)
      apart (a, i) (b, j) u w e = let naming = has.naming in elim (naming.apart a i b j (port_back (a, i) u) (port_back (b, j) w) e) [ inl s ↦ inl (λ k. (s.0 k, s.1 k)) | inr s ↦ inr s ]

      pub graph_is : IsGraphOf G S
      graph_is =
          let sound = v.sound in
          let listed = sound.listed in
          let settled = v.settled in
          let tree = has.tree in record {
            link = has.name;
            count = has.count;
            numbers = has.numbers;
            all = flat has.forest;
            stands = subst (Stand G has.name (h.root ∷ []) (flat has.forest)) has.root (stands has.name has.forest (h.root ∷ []) tree.forms);
            once = tree.once;
            nowhere = λ m out. nothing_there m (λ i. out (tree.all m i));
            homes = λ a m. ((λ i. place_home h a m ((listed.atoms m a).0 i)), (λ e. (listed.atoms m a).1 (home_is h a m e)));
            atoms_once = listed.atoms_once;
            no_connector = λ a e. v.no_connector a (settled.atoms a (functor_back a (subst (λ (o : Option Functor). IsSome o) (sym e) refl))) e;
            placed = λ a. ((λ i. settled.atoms a (functor_back a i)), (λ i. functor_there a (in_place_atom h a i)));
            rounds = λ n m. ((λ i. parent_is h listed n m i), (λ e. (listed.mems m n).1 (parent_place h n m e)));
            joined = joined;
            full = λ p w. v.full p.0 p.1 (port_back p w);
            apart = apart;
          }

    -- ---- items

    abbrev weight : ℕ → ℕ
    weight m = 1 + length (atoms_in h m) + length (rules_in h m)

    many_atoms : (link : ℕ → ℕ → ℕ) (xs : List ℕ) → ((a : ℕ) → In a xs → IsAtom h a) → length (solid_atoms_at h link xs) ≡ length xs
    many_atoms link [] all = refl
    many_atoms link (a ∷ xs) all = by (h.atoms a) (all a (inl refl)) (many_atoms link xs (λ b i. all b (inr i)))
      where
        by : (o : Option HeapAtom) → IsSome o → length (solid_atoms_at h link xs) ≡ length xs → length (solid_atom_at link a o ++ solid_atoms_at h link xs) ≡ suc (length xs)
        by None s e = absurd (cc s)
        by (Some x) s e = ap suc e

    abbrev size : List Region → ℕ
    size rs = length rs + sum (map (fold-Region ℕ items_step) rs)

    size_is : (link : ℕ → ℕ → ℕ) (f : Forest) → size (regions_of h link f) ≡ weigh weight (flat f)
    size_is link bare = refl
    size_is link (mem m i r) =
        let fold = fold-roll-Region ℕ items_step (record { atoms = solid_atoms_at h link (atoms_in h m); membranes = regions_of h link i; rules = rules_in h m }) in
        let summed = sum_cons (fold-Region ℕ items_step) (roll-Region (record { atoms = solid_atoms_at h link (atoms_in h m); membranes = regions_of h link i; rules = rules_in h m })) (regions_of h link r) in
        let long = length-map (regions_of h link i) (fold-Region ℕ items_step) in
        let atoms = many_atoms link (atoms_in h m) (λ a j. atom_there a m j) in
        let inner = size_is link i in
        let later = size_is link r in
        let both = weigh_append weight (flat i) (flat r) in
        omega (arith, fold, summed, long, atoms, inner, later, both)

    summed : (ms : List ℕ) → item_count_in h ms ≡ weigh weight ms
    summed [] = refl
    summed (m ∷ ms) = sum_cons weight m ms ∙ ap (λ n. weight m + n) (summed ms)

    pub items_one : (S : Solid) (f : Forest) → HasSolid h S → IsTree h f → item_count_in h (flat f) ≡ 1 + item_count S
    items_one S f has tree =
        let one = one_tree h has.forest f has.tree tree in
        let all = size_is has.name has.forest in
        let root : size (regions_of h has.name has.forest) ≡ size (S.root ∷ []) = ap (λ rs. size rs) has.root in
        let last = sum_cons (fold-Region ℕ items_step) S.root [] in
        let counted : item_count_in h (flat f) ≡ weigh weight (flat has.forest) = summed (flat f) ∙ ap (λ z. weigh weight (flat z)) (sym one) in
        omega (arith, all, root, last, counted)
