-- What holds of the examples.
use Rattle.std.proofs.Common.{ℕ, zero, suc, Bool, true, false, cond, ◌≡◌, ◌≢◌, ◌+◌, ◌⊎◌, inl, inr, List, [], ◌∷◌, ◌++◌, length, map, refl, sym, ap, subst, ◌∙◌, arith}
use Rattle.std.specs.Prelude.{All, Some, None, ◌==◌, flat_map, slice_get, slice_index_or}
use Rattle.std.specs.Option.{option_and_then, option_map}
use Rattle.std.proofs.lemmas.List.Elements.{All-from_recursion}
use Rattle.std.proofs.lemmas.List.Recursion.{is_count_by}
use Rattle.lmn_base.specs.declared.functor.Functor.{Functor}
use Rattle.lmn_base.specs.declared.functor.Label.{Label}
use Rattle.lmn_base.specs.declared.functor.Label.TheVariants.{Name, Int}
use Rattle.lmn_base.specs.declared.solid.SolidAtom.{SolidAtom}
use Rattle.lmn_base.specs.declared.solid.Region.{Region}
use Rattle.lmn_base.specs.declared.solid.Region.TheOpen.{Region-F}
use Rattle.lmn_base.specs.declared.solid.Region.TheFolds.{fold-roll-Region}
use Rattle.lmn_base.specs.declared.solid.Region.TheViews.{roll-Region}
use Rattle.lmn_base.specs.Lists.{In}
use Rattle.lmn_base.specs.Links.{EachTwice, NumbersLinks, no_more, known, new}
use Rattle.lmn_base.specs.Solids.{IsSolid, atoms_of_region, atoms_step, connector, links_of_region}
use Rattle.lmn_store_heap.specs.Examples.{across_solid, functor_a, functor_b}
use Rattle.lmn_store_heap.specs.Heap.{HeapMem, atoms_by, home_by, mems_by, mems_in, parent_of, partners_of}
use Rattle.lmn_store_heap.specs.Solid.{solid_atoms_at}
use Rattle.lmn_adequacy_heaps.specs.HeapRegions.{region_at}
use Rattle.lmn_congruence.specs.Regions as solid
use Rattle.lmn_congruence.specs.Translation.{numbered_rule, region_of, region_step, solid_atom_of}
use Rattle.lmn_solid_tables.specs.declared.flat.Flat.{Flat}
use Rattle.lmn_solid_tables.specs.Tables.{link_in}
use Rattle.lmn_solid_tables.specs.Flats.{heap_atom, heap_membrane, heap_of, reading_of}
use Rattle.lmn_solid_tables.specs.Building.{Tables, Trees, children, no_tables, none, trees_of, trees_step, visited, with_inner}
use Rattle.lmn_solid_tables.specs.Building as built
use Rattle.lmn_solid_tables.specs.Examples.{AcrossHasItsTables, BothOutsideIsNotAcross, InnerIsLeft, InnerIsWithin, OnePortTwiceIsNoLink, a_in, b_in, holds}
use Rattle.lmn_solid_tables.proofs.Climbing.{above_at_most}
use Rattle.lmn_solid_tables.proofs.Whole.{is_flat}
use Rattle.lmn_solid_tables.proofs.Ends.{counted}

abbrev a_inside : Region-F Region
a_inside = record { atoms = record { functor = functor_a; links = 0 ∷ [] } ∷ []; membranes = []; rules = [] }

abbrev b_outside : Region-F Region
b_outside = record { atoms = record { functor = functor_b; links = 0 ∷ [] } ∷ []; membranes = roll-Region a_inside ∷ []; rules = [] }

-- the atoms of the solid
abbrev its_atoms : List SolidAtom
its_atoms = record { functor = functor_b; links = 0 ∷ [] } ∷ record { functor = functor_a; links = 0 ∷ [] } ∷ []

atoms_are : atoms_of_region across_solid.root ≡ its_atoms
atoms_are =
    let inner = fold-roll-Region (List SolidAtom) atoms_step a_inside in
    fold-roll-Region (List SolidAtom) atoms_step b_outside ∙ ap (λ xs. record { functor = functor_b; links = 0 ∷ [] } ∷ (xs ++ [])) inner

links_are : links_of_region across_solid.root ≡ 0 ∷ 0 ∷ []
links_are = ap (flat_map (λ a. a.links)) atoms_are

zero_twice : EachTwice (0 ∷ 0 ∷ [])
zero_twice x =
    subst (λ n. (n ≡ 0) ⊎ (n ≡ 2)) (is_count_by (counted x) (λ y. x == y) refl (λ y ys. refl) (0 ∷ 0 ∷ [])) (by_test (x == 0))
  where
    by_test : (b : Bool) → (cond b (1 + cond b (1 + 0) 0) (cond b (1 + 0) 0) ≡ 0) ⊎ (cond b (1 + cond b (1 + 0) 0) (cond b (1 + 0) 0) ≡ 2)
    by_test true = inr refl
    by_test false = inl refl

across_is_solid : IsSolid across_solid
across_is_solid = record {
  arities = subst (All (λ a. length a.links ≡ a.functor.arity)) (sym atoms_are) (All-from_recursion (λ (a : SolidAtom). length a.links ≡ a.functor.arity) its_atoms (refl, (refl, tt)));
  no_connector = subst (All (λ a. a.functor ≢ connector)) (sym atoms_are) (All-from_recursion (λ (a : SolidAtom). a.functor ≢ connector) its_atoms ((λ e. other_name e), ((λ e. a_other_name e), tt)));
  closed = subst EachTwice (sym links_are) zero_twice;
  numbered = (1, subst (λ ls. NumbersLinks ls 1) (sym links_are) (new (known (omega arith) no_more)));
}
  where
    name_of : Label → ℕ
    name_of (Name n) = n
    name_of (Int z) = 0

    other_name : functor_b ≢ connector
    other_name e = let d : ◌≡◌ {A = ℕ} 9 0 = ap (λ (f : Functor). name_of f.label) e in absurd (omega (arith, d))

    a_other_name : functor_a ≢ connector
    a_other_name e = let d : ◌≡◌ {A = ℕ} 8 0 = ap (λ (f : Functor). name_of f.label) e in absurd (omega (arith, d))

abbrev first_tables : Tables
first_tables = record { atoms = b_in 0 ∷ a_in 1 ∷ []; membranes = holds (0 ∷ []) [] ∷ holds (1 ∷ []) [] ∷ [] }

trees_are : trees_of across_solid.root none ≡ built.tree (record { functor = functor_b; links = 0 ∷ [] } ∷ []) [] (built.tree (record { functor = functor_a; links = 0 ∷ [] } ∷ []) [] none none) none
trees_are =
    ap (λ (f : Trees → Trees). f none) (fold-roll-Region (Trees → Trees) trees_step b_outside)
    ∙ ap (λ (f : Trees → Trees). built.tree (record { functor = functor_b; links = 0 ∷ [] } ∷ []) [] (f none) none) (fold-roll-Region (Trees → Trees) trees_step a_inside)

filled : (m : ℕ) → slice_get (holds (0 ∷ []) (1 ∷ []) ∷ holds (1 ∷ []) [] ∷ []) m ≡ option_map (with_inner (children first_tables.membranes 2 m)) (slice_get first_tables.membranes m)
filled zero = refl
filled (suc zero) = refl
filled (suc (suc m)) = refl

pub across_has_its_tables : AcrossHasItsTables
across_has_its_tables flat h =
    is_flat across_solid across_is_solid first_tables (sym (ap (λ ts. visited ts 0 no_tables) trees_are)) flat (sym h.0) (λ m. ap (λ ms. slice_get ms m) h.1 ∙ filled m) h.2

pub one_port_twice_is_no_link : OnePortTwiceIsNoLink
one_port_twice_is_no_link flat h is =
    is.valid.sound.paired.apart 0 0 (λ i. slice_index_or (partners_of (option_map (heap_atom (h.2 i) 0) (slice_get (h.0 i) 0))) 0 None)

how_many_atoms : solid.Region → ℕ
how_many_atoms (solid.region atoms membranes rules) = length atoms

pub both_outside_is_not_across : BothOutsideIsNotAcross
unfolding how_many_atoms
both_outside_is_not_across flat h is =
    let r = reading_of [] [] flat in
    let e : how_many_atoms (region_at (heap_of flat) r 0 is.inner) ≡ 2 =
    λ i. length (map (solid_atom_of []) (solid_atoms_at (record { root = 0; atoms = λ a. option_map (heap_atom (h.2 i) a) (slice_get (h.0 i) a); mems = λ m. option_map (heap_membrane m) (slice_get (h.1 i) m); new_atoms = []; new_mems = [] }) (link_in (h.0 i)) (atoms_by (option_map (heap_membrane 0) (slice_get (h.1 i) 0))))) in
    let d : how_many_atoms (region_of [] [] across_solid) ≡ 1 = ap how_many_atoms (fold-roll-Region solid.Region (region_step [] (numbered_rule [] [])) b_outside) in
    let c : ◌≡◌ {A = ℕ} 2 1 = sym e ∙ ap how_many_atoms (is.region [] []) ∙ d in
    omega (arith, c)

inner_parent : (flat : Flat) → flat.membranes.items ≡ holds (0 ∷ []) (1 ∷ []) ∷ holds (1 ∷ []) [] ∷ [] → parent_of (heap_of flat) 1 ≡ Some 0
inner_parent flat e = ap (λ ms. option_and_then (λ (x : HeapMem). home_by x.place) (option_map (heap_membrane 1) (slice_get ms 1))) e

outer_holds : (flat : Flat) → flat.membranes.items ≡ holds (0 ∷ []) (1 ∷ []) ∷ holds (1 ∷ []) [] ∷ [] → mems_in (heap_of flat) 0 ≡ 1 ∷ []
outer_holds flat e = ap (λ ms. mems_by (option_map (heap_membrane 0) (slice_get ms 0))) e

pub inner_is_within : InnerIsWithin
inner_is_within flat h = (
  (1, (0, inner_parent flat h.1, refl)),
  (λ w. let l = above_at_most flat w.0 1 0 w.1 in omega (arith, l)),
)

pub inner_is_left : InnerIsLeft
inner_is_left flat h = (
  (1, subst (In 1) (sym (outer_holds flat h.1)) (inl refl), (λ i. absurd i), (0, refl)),
  (λ l. l.2 (subst (In l.0) (outer_holds flat h.1) l.1)),
)
