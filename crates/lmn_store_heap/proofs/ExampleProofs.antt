-- What holds of the examples.
use Rattle.std.proofs.Common.{◌≡◌, ◌⊎◌, ℕ, zero, suc, ◌<◌, List, [], ◌∷◌, Option, Some, None, IsSome, refl, sym, ap, subst, ◌∙◌, inl, inr, arith, length}
use Rattle.std.proofs.lemmas.Bool.{cases_eq}
use Rattle.std.specs.Option.{option_map, option_and_then}
use Rattle.std.specs.Prelude.{slice_index_or, flat_map, ◌++◌}
use Rattle.lmn_base.specs.declared.functor.Functor.{Functor}
use Rattle.lmn_base.specs.declared.solid.SolidAtom.{SolidAtom}
use Rattle.lmn_base.specs.declared.solid.Region.{Region}
use Rattle.lmn_base.specs.declared.solid.Region.TheOpen.{Region-F}
use Rattle.lmn_base.specs.declared.solid.Region.TheViews.{roll-Region}
use Rattle.lmn_base.specs.declared.solid.Region.TheFolds.{fold-roll-Region}
use Rattle.lmn_base.specs.Links.{Numbers, no_more, known, new}
use Rattle.lmn_base.specs.Solids.{connector, atoms_step, links_of_region}
use Rattle.lmn_store_heap.specs.Heap.{HeapAtom, HeapMem, Place, top, within, waiting, gone, home_by, lone_root, made_atom, made_mem, placed, placed_mem, IsInPlace, arity_of, link_of, partners_of as atom_links}
use Rattle.lmn_store_heap.specs.Sound.{Sound, AllInPlace, IsTree, bare, mem}
use Rattle.lmn_store_heap.specs.Conditions.{Above}
use Rattle.lmn_store_heap.specs.Solid.{IsNaming}
use Rattle.lmn_store_heap.specs.Examples.{functor_a, functor_b, made, loose, across, AcrossIsValid, AcrossHasItsSolid, LooseIsNotValid, MadeIsAlone, JoinedIsNotAlone, PartnerIsNotReady, RootIsOutside}
use Rattle.lmn_store_heap.proofs.Lone.{lone_valid}
use Rattle.lmn_store_heap.proofs.Calls.{keeps_sound}
use Rattle.lmn_base.proofs.Numbers.{not_equal as apart_test}
use Rattle.lmn_base.specs.Lists.{In}

-- the calls, one after the other
made_sound : Sound made
made_sound =
    let one = (keeps_sound lone_root lone_valid.sound).make_mem 1 refl in
    let two = (keeps_sound (made_mem lone_root 1) one).make_atom 0 functor_a refl in
    (keeps_sound (made_atom (made_mem lone_root 1) 0 functor_a) two).make_atom 1 functor_b refl

loose_sound : Sound loose
loose_sound =
    let one = (keeps_sound made made_sound).place_mem 0 1 tt refl in
    let two = (keeps_sound (placed_mem made 0 1) one).place_atom 1 0 tt refl in
    (keeps_sound (placed (placed_mem made 0 1) 1 0) two).place_atom 0 1 tt refl

numbers_apart : ◌≡◌ {A = ℕ × ℕ} (0, 0) (1, 0) → ⊥
numbers_apart e = let n : ◌≡◌ {A = ℕ} 0 1 = ap (λ (p : ℕ × ℕ). p.0) e in absurd (omega (arith, n))

across_sound : Sound across
across_sound = (keeps_sound loose loose_sound).join 0 0 1 0 (omega arith) (omega arith) numbers_apart

-- an atom is 0 or 1, and so is a membrane
atom_cases : (x : ℕ) → (x ≡ 0) ⊎ ((x ≡ 1) ⊎ (across.atoms x ≡ None))
atom_cases x = elim (cases_eq x 0) [
  | inl e ↦ inl e
  | inr d ↦ elim (cases_eq x 1) [ inl e ↦ inr (inl e) | inr f ↦ inr (inr (rw (apart_test x 0 d, apart_test x 1 f) refl)) ]
]

-- the example has the membranes 0 and 1 alone
pub mem_cases : (m : ℕ) → (m ≡ 0) ⊎ ((m ≡ 1) ⊎ (across.mems m ≡ None))
mem_cases m = elim (cases_eq m 0) [
  | inl e ↦ inl e
  | inr d ↦ elim (cases_eq m 1) [ inl e ↦ inr (inl e) | inr f ↦ inr (inr (rw (apart_test m 0 d, apart_test m 1 f) refl)) ]
]

-- what holds of both atoms, and of no atom, holds of all
each_atom : (P : Option HeapAtom → Type 0) → P (across.atoms 0) → P (across.atoms 1) → P None → (x : ℕ) → P (across.atoms x)
each_atom P p q n x = elim (atom_cases x) [
  | inl e ↦ subst (λ y. P (across.atoms y)) (sym e) p
  | inr w ↦ elim w [ inl e ↦ subst (λ y. P (across.atoms y)) (sym e) q | inr e ↦ subst P (sym e) n ]
]

each_mem : (P : ℕ → Option HeapMem → Type 0) → P 0 (across.mems 0) → P 1 (across.mems 1) → ((m : ℕ) → P m None) → (m : ℕ) → P m (across.mems m)
each_mem P p q n m = elim (mem_cases m) [
  | inl e ↦ subst (λ y. P y (across.mems y)) (sym e) p
  | inr w ↦ elim w [ inl e ↦ subst (λ y. P y (across.mems y)) (sym e) q | inr e ↦ subst (P m) (sym e) (n m) ]
]

first_port : (ls : List (Option (ℕ × ℕ))) (p : ℕ × ℕ) → ls ≡ Some p ∷ [] → (i : ℕ) → i < length ls → IsSome (slice_index_or ls i None)
first_port ls p e i h = subst (λ ls. i < length ls → IsSome (slice_index_or ls i None)) (sym e) (by i) h
  where
    by : (i : ℕ) → i < 1 → IsSome (slice_index_or (Some p ∷ []) i None)
    by zero h = refl
    by (suc i) h = absurd (omega arith)

no_connector : (f : Functor) → f.arity ≡ 1 → Some f ≡ Some connector → ⊥
no_connector f e g =
    let h : f ≡ connector = some_same f connector g in
    let n : ◌≡◌ {A = ℕ} 1 2 = sym e ∙ ap (λ (z : Functor). z.arity) h in
    absurd (omega (arith, n))
  where
    some_same : (x y : Functor) → Some x ≡ Some y → x ≡ y
    some_same x y e = (cc)

across_tree : IsTree across (mem 0 (mem 1 bare bare) bare)
across_tree = record {
  forms = ([], refl, ([], refl, refl, refl), refl);
  once = ((λ e. absurd (omega (arith, e)), tt), (tt, tt));
  all = each_mem (λ m o. IsSome o → In m (0 ∷ 1 ∷ [])) (λ i. inl refl) (λ i. inr (inl refl)) (λ m i. absurd (cc));
}

across_full : (x i : ℕ) → i < arity_of across x → IsSome (link_of across x i)
across_full = each_atom (λ o. (i : ℕ) → i < length (atom_links o) → IsSome (slice_index_or (atom_links o) i None))
    (first_port _ (1, 0) refl) (first_port _ (0, 0) refl) (λ i h. absurd (let l : i < 0 = h in omega arith))

across_settled : AllInPlace across
across_settled = record {
  atoms = each_atom (λ o. IsSome o → IsSome (option_and_then (λ x. home_by x.place) o)) (λ i. refl) (λ i. refl) (λ i. absurd (cc));
  mems = each_mem (λ m o. IsSome o → (option_map (λ x. x.place) o ≡ Some top) ⊎ IsSome (option_and_then (λ x. home_by x.place) o)) (λ i. inl refl) (λ i. inr refl) (λ m i. absurd (cc));
}

-- the example is a valid heap
pub across_is_valid : AcrossIsValid
across_is_valid = record {
  sound = across_sound;
  settled = across_settled;
  full = across_full;
  no_connector = λ x i e. each_atom (λ o. option_map (λ y. y.functor) o ≡ Some connector → ⊥) (no_connector functor_a refl) (no_connector functor_b refl) (λ e. absurd (cc)) x e;
  tree = (mem 0 (mem 1 bare bare) bare, across_tree);
}

-- a heap with a port that has no partner is not valid
pub loose_is_not_valid : LooseIsNotValid
loose_is_not_valid v = let i : IsSome (link_of loose 0 0) = v.full 0 0 (omega arith) in absurd (cc)

-- what is detached is alone, and not in place
pub made_is_alone : MadeIsAlone
made_is_alone = (
  λ x i y j p e. absurd (elim (cases_eq x 0) [
    | inl q ↦ none_of (link_of made x i) (ap (λ z. link_of made z i) q ∙ no_port i) (y, j) e
    | inr d ↦ elim (cases_eq x 1) [
      | inl q ↦ none_of (link_of made x i) (ap (λ z. link_of made z i) q ∙ no_port i) (y, j) e
      | inr f ↦ none_of (link_of made x i) (rw (apart_test x 0 d, apart_test x 1 f) refl) (y, j) e
    ]
  ]),
  λ s. let i : IsInPlace made 0 = s.atoms 0 refl in absurd (cc),
)
  where
    none_of : (o : Option (ℕ × ℕ)) → o ≡ None → (q : ℕ × ℕ) → o ≡ Some q → ⊥
    none_of o n q e = let w : ◌≡◌ {A = Option (ℕ × ℕ)} None (Some q) = sym n ∙ e in absurd (cc)

    no_port : (i : ℕ) → ◌≡◌ {A = Option (ℕ × ℕ)} (slice_index_or (None ∷ []) i None) None
    no_port zero = refl
    no_port (suc i) = refl

-- what is joined to an atom in place is not
pub joined_is_not_alone : JoinedIsNotAlone
joined_is_not_alone alone = let e : ◌≡◌ {A = Option Place} (Some (within 0)) (Some waiting) = alone 1 0 0 0 refl refl in absurd (cc)

-- an atom that something in place is joined to can't be freed
pub partner_is_not_ready : PartnerIsNotReady
partner_is_not_ready = (
  record {
    empty = λ m e. absurd (each_mem (λ k o. option_map (λ x. x.place) o ≡ Some gone → ⊥) (λ e. absurd (cc)) (λ e. absurd (cc)) (λ k e. absurd (cc)) m e);
    full = λ x i p h. across_full x i h;
    kept = λ x i y j p l e. each_atom (λ o. option_map (λ x. x.place) o ≡ Some gone → ⊥) (λ e. absurd (cc)) (λ e. absurd (cc)) (λ e. absurd (cc)) y e;
    no_atoms = refl;
    no_mems = refl;
  },
  λ r. r.kept 1 0 0 0 refl refl refl,
)

-- the root is outside its membrane, which isn't outside the root
pub root_is_outside : RootIsOutside
root_is_outside = (outside, λ o. o 1 (0, refl, refl))
  where
    outside : (k : ℕ) → Above across k 1 0 → ⊥
    outside zero e = absurd (omega (arith, e))
    outside (suc k) w = let e : ◌≡◌ {A = Option ℕ} None (Some w.0) = w.1 in absurd (cc)

-- the ports of the two atoms
port_cases : (x i : ℕ) → i < arity_of across x → ((x ≡ 0) ⊎ (x ≡ 1)) × (i ≡ 0)
port_cases x i h = elim (atom_cases x) [
  | inl e ↦ (let l : i < 1 = subst (λ z. i < arity_of across z) e h in (inl e, omega arith))
  | inr w ↦ elim w [
    | inl e ↦ (let l : i < 1 = subst (λ z. i < arity_of across z) e h in (inr e, omega arith))
    | inr e ↦ absurd (let l : i < 0 = subst (λ o. i < length (atom_links o)) e h in omega arith)
  ]
]

-- the two are one, or they are joined
ports_joined : (x y : ℕ) → (x ≡ 0) ⊎ (x ≡ 1) → (y ≡ 0) ⊎ (y ≡ 1) → (x ≡ y) ⊎ (link_of across x 0 ≡ Some (y, 0))
ports_joined x y (inl e) (inl f) = inl (e ∙ sym f)
ports_joined x y (inl e) (inr f) = inr (ap (λ z. link_of across z 0) e ∙ ap (λ z. Some (z, 0)) (sym f))
ports_joined x y (inr e) (inl f) = inr (ap (λ z. link_of across z 0) e ∙ ap (λ z. Some (z, 0)) (sym f))
ports_joined x y (inr e) (inr f) = inl (e ∙ sym f)

across_naming : IsNaming across (λ x i. 0)
across_naming = record {
  joined = λ x i y j e. refl;
  apart = λ x i y j h k e. let p = port_cases x i h in let q = port_cases y j k in elim (ports_joined x y p.0 q.0) [
    | inl g ↦ inl (g, p.1 ∙ sym q.1)
    | inr g ↦ inr (ap (link_of across x) p.1 ∙ g ∙ ap (λ z. Some (y, z)) (sym q.1))
  ];
}

abbrev a_inside : Region-F Region
a_inside = record { atoms = record { functor = functor_a; links = 0 ∷ [] } ∷ []; membranes = []; rules = [] }

abbrev b_outside : Region-F Region
b_outside = record { atoms = record { functor = functor_b; links = 0 ∷ [] } ∷ []; membranes = roll-Region a_inside ∷ []; rules = [] }

across_links : links_of_region (roll-Region b_outside) ≡ 0 ∷ 0 ∷ []
across_links =
    let inner = fold-roll-Region (List SolidAtom) atoms_step a_inside in
    ap (λ xs. flat_map (λ x. x.links) xs) (fold-roll-Region (List SolidAtom) atoms_step b_outside)
    ∙ ap (λ xs. 0 ∷ flat_map (λ x. x.links) (xs ++ [])) inner

-- the heap of the example has the solid of its text
pub across_has_its_solid : AcrossHasItsSolid
across_has_its_solid = record {
  forest = mem 0 (mem 1 bare bare) bare;
  tree = across_tree;
  name = λ x i. 0;
  naming = across_naming;
  root = refl;
  count = 1;
  numbers = subst (λ xs. Numbers 0 xs 1) (sym across_links) (new (known (omega arith) no_more));
}
