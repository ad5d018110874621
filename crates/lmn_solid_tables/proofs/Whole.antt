-- The tables of a solid are its tables.
use Rattle.std.proofs.Common.{ℕ, zero, suc, Bool, true, false, ◌≡◌, ◌≢◌, ◌+◌, ◌*◌, ◌<◌, ◌⊎◌, ◌↔◌, inl, inr, List, [], ◌∷◌, length, map, refl, sym, ap, subst, ◌∙◌, arith, ◌++◌}
use Rattle.std.specs.Prelude.{All, Option, Some, None, IsSome, ◌==◌, ◌&&◌, if◌then◌else◌, slice_get, slice_index_or}
use Rattle.std.specs.List.{flat_map, range_with_len}
use Rattle.std.specs.Option.{option_and_then, option_map}
use Rattle.std.proofs.lemmas.List.{length-replicate}
use Rattle.std.proofs.lemmas.List.Concat.{flat_map-append}
use Rattle.std.proofs.lemmas.Option.{slice_get-map, get_or_from_slice_get, slice_get-get_or}
use Rattle.lmn_base.specs.declared.functor.Functor.{Functor}
use Rattle.lmn_base.specs.declared.solid.SolidAtom.{SolidAtom}
use Rattle.lmn_base.specs.declared.solid.Solid.{Solid}
use Rattle.lmn_base.specs.declared.solid.Region.TheViews.{out-Region}
use Rattle.lmn_base.specs.Lists.{In}
use Rattle.lmn_base.specs.Links.{EachTwice, NumbersLinks}
use Rattle.lmn_base.specs.Solids.{IsSolid, atoms_of_region, connector, links_of_region}
use Rattle.lmn_base.proofs.Lists.{get_below, get_there, link_within as linked_below}
use Rattle.lmn_base.proofs.Numbers.{equal_itself, equal_when, three_ways, split_at}
use Rattle.lmn_base.proofs.Truth.{and_true}
use Rattle.lmn_store_heap.specs.Heap.{HeapAtom, HeapMem, Place, top, within, waiting, IsMem, arity_of, atoms_by, atoms_in, functor_of, home_by, link_of, marks_of, mem_place_of, mems_by, mems_in, partners_of, place_of, rules_by, rules_in}
use Rattle.lmn_store_heap.specs.Lists.{Distinct}
use Rattle.lmn_store_heap.specs.Solid.{IsNaming, regions_of}
use Rattle.lmn_adequacy_heaps.proofs.SolidRegions.{solids_are_regions}
use Rattle.lmn_store_heap.specs.Sound as sound
use Rattle.lmn_store_heap.specs.Sound.{IsTree, Listed, Paired, Shaped, Valid, bare, mem}
use Rattle.lmn_store_heap.proofs.Common.{same_port}
use Rattle.lmn_congruence.specs.Regions.{no_region}
use Rattle.lmn_congruence.specs.Translation.{numbered_region, numbered_rule, region_of, regions}
use Rattle.lmn_adequacy_heaps.specs.HeapRegions.{region_at}
use Rattle.lmn_solid_tables.specs.declared.flat.Flat.{Flat}
use Rattle.lmn_solid_tables.specs.declared.tables.FlatAtom.{FlatAtom}
use Rattle.lmn_solid_tables.specs.declared.tables.FlatMembrane.{FlatMembrane}
use Rattle.lmn_solid_tables.specs.declared.tables.Port.{Port}
use Rattle.lmn_solid_tables.specs.Tables.{HasPorts, link_in, links_by, no_port}
use Rattle.lmn_solid_tables.specs.Flats.{FlatsHaveTheirSolids, IsFlatOf, heap_atom, heap_membrane, heap_of, link_at, other_than, partner_by, port_by, reading_of}
use Rattle.lmn_solid_tables.specs.Building.{GoesOn, Tables, Trees, all_ports_added, children, in_front, links_of_atoms, no_tables, none, parent_by, size, trees_of, visited, with_inner}
use Rattle.lmn_solid_tables.specs.Building as built
use Rattle.lmn_solid_tables.proofs.Ends.{HasLink, Joined, joined_at}
use Rattle.lmn_solid_tables.proofs.Kids.{children_picks, forms_are, heads_are, in_picks, kids_alike, kids_are, parent_at, picks, picks_in, picks_once, Kids}
use Rattle.lmn_solid_tables.proofs.Partners.{atom_ports, joined_to}
use Rattle.lmn_solid_tables.proofs.Preorder.{Fine, Stands, count, fine_whole, forest, forest_flat, grows_same, in_range, range_both, range_distinct, stands_visited, visited_atoms, visited_membranes}
use Rattle.lmn_solid_tables.proofs.Regions.{links_whole, plain, plain_whole, rolled, rolls, same_first, solid_row}
use Rattle.lmn_solid_tables.proofs.Steps.{Filled, filled_at, filled_from, trees_apart}

-- ---- what the first pass makes of a solid

module _ (s : Solid) (is : IsSolid s) (u : Tables) (made : u ≡ visited (trees_of s.root none) 0 no_tables) where
  abbrev inner : Trees
  inner = in_front (map trees_of (out-Region s.root).membranes) none

  abbrev ts : Trees
  ts = built.tree (out-Region s.root).atoms (out-Region s.root).rules inner none

  unfolded : u ≡ visited ts 0 no_tables
  unfolded = made ∙ ap (λ t. visited t 0 no_tables) (trees_apart s.root none)

  pub fine : Fine u
  fine = subst Fine (sym unfolded) (fine_whole (out-Region s.root).atoms (out-Region s.root).rules inner)

  stands : Stands u ts 0 0 0
  stands = subst (λ v. Stands v ts 0 0 0) (sym unfolded) (stands_visited (visited ts 0 no_tables) ts 0 no_tables (grows_same (visited ts 0 no_tables)))

  how_many : length u.membranes ≡ suc (size inner)
  how_many = ap (λ (t : Tables). length t.membranes) unfolded ∙ visited_membranes ts 0 no_tables ∙ omega arith

  its_links : links_of_atoms u.atoms ≡ links_of_region s.root
  its_links = ap (λ (t : Tables). links_of_atoms t.atoms) made ∙ links_whole s.root

  pub goes_on : GoesOn [] (links_of_atoms u.atoms)
  goes_on = (0, is.numbered.0, omega arith, subst (λ ls. NumbersLinks ls is.numbered.0) (sym its_links) is.numbered.1)

  twice : EachTwice (links_of_atoms u.atoms)
  twice = subst EachTwice (sym its_links) is.closed

  -- what holds of each atom of the solid holds of those of the table
  each_atom : (P : SolidAtom → Type 0) → All P (atoms_of_region s.root) → (a : ℕ) (y : FlatAtom) → slice_get u.atoms a ≡ Some y → P (plain y)
  each_atom P all a y e =
      let d : map plain u.atoms ≡ atoms_of_region s.root = ap (λ (t : Tables). map plain t.atoms) made ∙ plain_whole s.root in
      let g : slice_get (atoms_of_region s.root) a ≡ Some (plain y) = ap (λ xs. slice_get xs a) (sym d) ∙ slice_get-map plain u.atoms a ∙ ap (option_map plain) e in
      subst P (get_or_from_slice_get (atoms_of_region s.root) a (plain y) (plain y) g) (all a (plain y) (get_below (atoms_of_region s.root) a (plain y) g))

  arities : (a : ℕ) (y : FlatAtom) → slice_get u.atoms a ≡ Some y → length y.links ≡ y.functor.arity
  arities = each_atom (λ x. length x.links ≡ x.functor.arity) is.arities

  no_connectors : (a : ℕ) (y : FlatAtom) → slice_get u.atoms a ≡ Some y → y.functor ≢ connector
  no_connectors = each_atom (λ x. x.functor ≢ connector) is.no_connector

  -- a link at a port of the table
  link_there : (o : Option FlatAtom) (a i : ℕ) → slice_get u.atoms a ≡ o → i < length (links_by o) → HasLink 0 u.atoms (slice_index_or (links_by o) i 0) (record { atom = a; index = i })
  link_there None a i e l = absurd (omega (arith, l))
  link_there (Some y) a i e l = record { place = a; is = omega arith; atom = y; there = e; link = slice_get-get_or y.links i 0 l }

  module _ (ports : List Port) (of_ports : ports ≡ all_ports_added [] 0 u.atoms) where
    joined_there : (x : ℕ) (q : Port) → HasLink 0 u.atoms x q → Joined ports u.atoms x
    joined_there = joined_at u.atoms ports is.numbered.0 of_ports (subst (λ ls. NumbersLinks ls is.numbered.0) (sym its_links) is.numbered.1) twice

    pub has_ports : HasPorts u.atoms ports
    has_ports a i l =
        let x = slice_index_or (links_by (slice_get u.atoms a)) i 0 in
        let j = joined_there x (record { atom = a; index = i }) (link_there (slice_get u.atoms a) a i refl l) in
        get_below ports (2 * x + 1) j.second j.at_second

-- ---- the heap of the tables

home_is : (o : Option FlatAtom) (ports : List Port) (a m : ℕ) → option_map (λ (x : HeapAtom). x.place) (option_map (heap_atom ports a) o) ≡ Some (within m) → (y : FlatAtom) × (o ≡ Some y) × (y.home ≡ m)
home_is None ports a m e = absurd (cc e)
home_is (Some y) ports a m e = (y, refl, same_home y.home m e)
  where
    same_home : (n m : ℕ) → ◌≡◌ {A = Option Place} (Some (within n)) (Some (within m)) → n ≡ m
    same_home n m e = cc e

placed_at_home : (o : Option FlatAtom) (ports : List Port) (a : ℕ) (y : FlatAtom) → o ≡ Some y → option_map (λ (x : HeapAtom). x.place) (option_map (heap_atom ports a) o) ≡ Some (within y.home)
placed_at_home o ports a y e = ap (λ o. option_map (λ (x : HeapAtom). x.place) (option_map (heap_atom ports a) o)) e

no_atom_place : (o : Option FlatAtom) (ports : List Port) (a : ℕ) (p : Place) → ((m : ℕ) → within m ≢ p) → option_map (λ (x : HeapAtom). x.place) (option_map (heap_atom ports a) o) ≡ Some p → ⊥
no_atom_place None ports a p f e = absurd (cc e)
no_atom_place (Some y) ports a p f e = f y.home (cc e)

no_membrane_place : (o : Option FlatMembrane) (m : ℕ) (p : Place) → top ≢ p → ((n : ℕ) → within n ≢ p) → option_map (λ (x : HeapMem). x.place) (option_map (heap_membrane m) o) ≡ Some p → ⊥
no_membrane_place None m p t f e = absurd (cc e)
no_membrane_place (Some x) zero p t f e = t (cc e)
no_membrane_place (Some x) (suc m) p t f e = f x.parent (cc e)

root_alone : (o : Option FlatMembrane) (m : ℕ) → option_map (λ (x : HeapMem). x.place) (option_map (heap_membrane m) o) ≡ Some top → m ≡ 0
root_alone o zero e = refl
root_alone None (suc m) e = absurd (cc e)
root_alone (Some x) (suc m) e = absurd (cc e)

root_place : (o : Option FlatMembrane) (x : FlatMembrane) → o ≡ Some x → option_map (λ (x : HeapMem). x.place) (option_map (heap_membrane 0) o) ≡ Some top
root_place o x e = ap (λ o. option_map (λ (x : HeapMem). x.place) (option_map (heap_membrane 0) o)) e

parent_place : (o : Option FlatMembrane) (n m : ℕ) → option_map (λ (x : HeapMem). x.place) (option_map (heap_membrane n) o) ≡ Some (within m) → (k : ℕ) × (n ≡ suc k) × (x : FlatMembrane) × (o ≡ Some x) × (x.parent ≡ m)
parent_place None n m e = absurd (cc e)
parent_place (Some x) zero m e = absurd (cc e)
parent_place (Some x) (suc k) m e = (k, refl, x, refl, same_parent x.parent m e)
  where
    same_parent : (n m : ℕ) → ◌≡◌ {A = Option Place} (Some (within n)) (Some (within m)) → n ≡ m
    same_parent n m e = cc e

placed_in_parent : (o : Option FlatMembrane) (k : ℕ) (x : FlatMembrane) → o ≡ Some x → option_map (λ (x : HeapMem). x.place) (option_map (heap_membrane (suc k)) o) ≡ Some (within x.parent)
placed_in_parent o k x e = ap (λ o. option_map (λ (x : HeapMem). x.place) (option_map (heap_membrane (suc k)) o)) e

pub functor_is : (o : Option FlatAtom) (ports : List Port) (a : ℕ) (f : Functor) → option_map (λ (x : HeapAtom). x.functor) (option_map (heap_atom ports a) o) ≡ Some f → (y : FlatAtom) × (o ≡ Some y) × (y.functor ≡ f)
functor_is None ports a f e = absurd (cc e)
functor_is (Some y) ports a f e = (y, refl, cc e)

marks_counted : (o : Option FlatAtom) (ports : List Port) (a : ℕ) → IsSome (option_map (heap_atom ports a) o) → length (marks_of (option_map (heap_atom ports a) o)) ≡ length (partners_of (option_map (heap_atom ports a) o)) + 1
marks_counted None ports a i = absurd (cc i)
marks_counted (Some y) ports a i = let e = atom_ports ports a (Some y) in length-replicate (length y.links + 1) 0 ∙ ap (λ n. n + 1) (sym e)

atom_in_place : (o : Option FlatAtom) (ports : List Port) (a : ℕ) → IsSome (option_map (heap_atom ports a) o) → IsSome (option_and_then (λ (x : HeapAtom). home_by x.place) (option_map (heap_atom ports a) o))
atom_in_place None ports a i = absurd (cc i)
atom_in_place (Some y) ports a i = refl

membrane_in_place : (o : Option FlatMembrane) (m : ℕ) → IsSome (option_map (heap_membrane m) o) → (option_map (λ (x : HeapMem). x.place) (option_map (heap_membrane m) o) ≡ Some top) ⊎ IsSome (option_and_then (λ (x : HeapMem). home_by x.place) (option_map (heap_membrane m) o))
membrane_in_place None m i = absurd (cc i)
membrane_in_place (Some x) zero i = inl refl
membrane_in_place (Some x) (suc m) i = inr refl

-- the test of a port
port_tested : (p : Port) (a i : ℕ) → p ≡ record { atom = a; index = i } → ((p.atom == a) && (p.index == i)) ≡ true
port_tested p a i e = ap (λ (q : Port). (q.atom == a) && (q.index == i)) e ∙ both (a == a) (i == i) (equal_itself a) (equal_itself i)
  where
    both : (b c : Bool) → b ≡ true → c ≡ true → (b && c) ≡ true
    both b c d e = (λ k. d k && c) ∙ e

port_not_tested : (p : Port) (a i : ℕ) → p ≢ record { atom = a; index = i } → ((p.atom == a) && (p.index == i)) ≡ false
port_not_tested p a i n = by_test ((p.atom == a) && (p.index == i)) refl
  where
    by_test : (b : Bool) → ((p.atom == a) && (p.index == i)) ≡ b → b ≡ false
    by_test false e = refl
    by_test true e = let t = and_true (p.atom == a) (p.index == i) e in absurd (n (λ k. record { atom = equal_when p.atom a t.0 k; index = equal_when p.index i t.1 k }))

module _ (s : Solid) (is : IsSolid s) (u : Tables) (made : u ≡ visited (trees_of s.root none) 0 no_tables) (flat : Flat) (same : u.atoms ≡ flat.atoms.items)
    (filled : Filled u.membranes flat.membranes.items (length u.membranes)) (of_ports : flat.ports.items ≡ all_ports_added [] 0 u.atoms) where
  -- a membrane of the table
  mem_at : (m : ℕ) (x : FlatMembrane) → slice_get u.membranes m ≡ Some x → (heap_of flat).mems m ≡ Some (heap_membrane m (with_inner (children u.membranes (length u.membranes) m) x))
  mem_at m x e = ap (option_map (heap_membrane m)) (filled m ∙ ap (option_map (with_inner (children u.membranes (length u.membranes) m))) e)

  no_mem : (m : ℕ) → slice_get u.membranes m ≡ None → (heap_of flat).mems m ≡ None
  no_mem m e = ap (option_map (heap_membrane m)) (filled m ∙ ap (option_map (with_inner (children u.membranes (length u.membranes) m))) e)

  kids : (m : ℕ) → children u.membranes (length u.membranes) m ≡ picks u.membranes m 1 (size (inner s is u made))
  kids m = ap (λ n. children u.membranes n m) (how_many s is u made) ∙ children_picks u.membranes (size (inner s is u made)) m

  held : (m : ℕ) (x : FlatMembrane) → slice_get u.membranes m ≡ Some x → (atoms_in (heap_of flat) m ≡ x.atoms) × (rules_in (heap_of flat) m ≡ x.rules)
  held m x e = (ap atoms_by (mem_at m x e), ap rules_by (mem_at m x e))

  mems_are : (m : ℕ) → m < length u.membranes → mems_in (heap_of flat) m ≡ picks u.membranes m 1 (size (inner s is u made))
  mems_are m l = let g = get_there u.membranes m l in ap mems_by (mem_at m g.0 g.1) ∙ kids m

  place_mem : (m : ℕ) → mem_place_of (heap_of flat) m ≡ option_map (λ (x : HeapMem). x.place) (option_map (heap_membrane m) (slice_get u.membranes m))
  place_mem m = by_option (slice_get u.membranes m) refl
    where
      by_option : (o : Option FlatMembrane) → slice_get u.membranes m ≡ o → mem_place_of (heap_of flat) m ≡ option_map (λ (x : HeapMem). x.place) (option_map (heap_membrane m) o)
      by_option None e = ap (option_map (λ (x : HeapMem). x.place)) (no_mem m e)
      by_option (Some x) e = ap (option_map (λ (x : HeapMem). x.place)) (mem_at m x e)

  place_atom : (a : ℕ) → place_of (heap_of flat) a ≡ option_map (λ (x : HeapAtom). x.place) (option_map (heap_atom flat.ports.items a) (slice_get u.atoms a))
  place_atom a = ap (λ ys. option_map (λ (x : HeapAtom). x.place) (option_map (heap_atom flat.ports.items a) (slice_get ys a))) (sym same)

  atoms_listed : (m a : ℕ) → In a (atoms_in (heap_of flat) m) ↔ (place_of (heap_of flat) a ≡ Some (within m))
  atoms_listed m a = (
    (λ i. by_option (slice_get u.membranes m) refl i),
    (λ e. at_home (home_is (slice_get u.atoms a) flat.ports.items a m (sym (place_atom a) ∙ e))),
  )
    where
      by_option : (o : Option FlatMembrane) → slice_get u.membranes m ≡ o → In a (atoms_in (heap_of flat) m) → place_of (heap_of flat) a ≡ Some (within m)
      by_option None e i = absurd (subst (In a) (ap atoms_by (no_mem m e)) i)
      by_option (Some x) e i =
          let y = ((fine s is u made).atoms m x e a).0 (subst (In a) (held m x e).0 i) in
          place_atom a ∙ placed_at_home (slice_get u.atoms a) flat.ports.items a y.0 y.1 ∙ ap (λ n. Some (within n)) y.2

      at_home : (y : FlatAtom) × (slice_get u.atoms a ≡ Some y) × (y.home ≡ m) → In a (atoms_in (heap_of flat) m)
      at_home y =
          let f = fine s is u made in
          let g = get_there u.membranes m (subst (λ n. n < length u.membranes) y.2 (f.homes a y.0 y.1)) in
          subst (In a) (sym (held m g.0 g.1).0) ((f.atoms m g.0 g.1 a).1 (y.0, y.1, y.2))

  atoms_distinct : (m : ℕ) → Distinct (atoms_in (heap_of flat) m)
  atoms_distinct m = by_option (slice_get u.membranes m) refl
    where
      by_option : (o : Option FlatMembrane) → slice_get u.membranes m ≡ o → Distinct (atoms_in (heap_of flat) m)
      by_option None e = subst Distinct (sym (ap atoms_by (no_mem m e))) tt
      by_option (Some x) e = subst Distinct (sym (held m x e).0) ((fine s is u made).once m x e)

  mems_listed : (m n : ℕ) → In n (mems_in (heap_of flat) m) ↔ (mem_place_of (heap_of flat) n ≡ Some (within m))
  mems_listed m n = (
    (λ i. by_option (slice_get u.membranes m) refl i),
    (λ e. in_parent (parent_place (slice_get u.membranes n) n m (sym (place_mem n) ∙ e))),
  )
    where
      below : n < 1 + size (inner s is u made) → n < length u.membranes
      below l = omega (arith, l, how_many s is u made)

      in_table : (k : ℕ) → n ≡ suc k → n < length u.membranes → parent_at u.membranes n ≡ m → mem_place_of (heap_of flat) n ≡ Some (within m)
      in_table k e l p =
          let g = get_there u.membranes n l in
          place_mem n
          ∙ ap (λ j. option_map (λ (x : HeapMem). x.place) (option_map (heap_membrane j) (slice_get u.membranes n))) e
          ∙ placed_in_parent (slice_get u.membranes n) k g.0 g.1
          ∙ ap (λ q. Some (within q)) (sym (ap parent_by g.1) ∙ p)

      by_option : (o : Option FlatMembrane) → slice_get u.membranes m ≡ o → In n (mems_in (heap_of flat) m) → mem_place_of (heap_of flat) n ≡ Some (within m)
      by_option None e i = absurd (subst (In n) (ap mems_by (no_mem m e)) i)
      by_option (Some x) e i =
          let r = in_picks u.membranes n m 1 (size (inner s is u made)) (subst (In n) (mems_are m (get_below u.membranes m x e)) i) in
          let k = split_at 1 n r.0 in
          in_table k.0 (omega (arith, k.1)) (below r.1) r.2

      in_parent : (k : ℕ) × (n ≡ suc k) × (x : FlatMembrane) × (slice_get u.membranes n ≡ Some x) × (x.parent ≡ m) → In n (mems_in (heap_of flat) m)
      in_parent r =
          let l = get_below u.membranes n r.2 r.3 in
          let p = (fine s is u made).rises r.0 r.2 (ap (slice_get u.membranes) (sym r.1) ∙ r.3) in
          subst (In n) (sym (mems_are m (omega (arith, l, p, r.1, r.4)))) (picks_in u.membranes n m 1 (size (inner s is u made)) (omega (arith, r.1)) (omega (arith, l, how_many s is u made)) (ap parent_by r.3 ∙ r.4))

  mems_distinct : (m : ℕ) → Distinct (mems_in (heap_of flat) m)
  mems_distinct m = by_option (slice_get u.membranes m) refl
    where
      by_option : (o : Option FlatMembrane) → slice_get u.membranes m ≡ o → Distinct (mems_in (heap_of flat) m)
      by_option None e = subst Distinct (sym (ap mems_by (no_mem m e))) tt
      by_option (Some x) e = subst Distinct (sym (mems_are m (get_below u.membranes m x e))) (picks_once u.membranes m 1 (size (inner s is u made)))

  root_there : (x : FlatMembrane) × (slice_get u.membranes 0 ≡ Some x)
  root_there = get_there u.membranes 0 (omega (arith, how_many s is u made))

  not_waiting : (m : ℕ) → mem_place_of (heap_of flat) m ≡ Some waiting → ⊥
  not_waiting m e = no_membrane_place (slice_get u.membranes m) m waiting (λ d. absurd (cc d)) (λ n d. absurd (cc d)) (sym (place_mem m) ∙ e)

  atom_not : (a : ℕ) (p : Place) → ((m : ℕ) → within m ≢ p) → place_of (heap_of flat) a ≡ Some p → ⊥
  atom_not a p f e = no_atom_place (slice_get u.atoms a) flat.ports.items a p f (sym (place_atom a) ∙ e)

  listed : Listed (heap_of flat)
  listed = record {
    atoms = atoms_listed;
    atoms_once = atoms_distinct;
    mems = mems_listed;
    mems_once = mems_distinct;
    new_atoms = λ a. ((λ i. absurd i), (λ e. absurd (atom_not a waiting (λ m d. absurd (cc d)) e)));
    new_atoms_once = tt;
    new_mems = λ m. ((λ i. absurd i), (λ e. absurd (not_waiting m e)));
    new_mems_once = tt;
    root = λ m. (
      (λ e. root_alone (slice_get u.membranes m) m (sym (place_mem m) ∙ e)),
      (λ e. subst (λ n. mem_place_of (heap_of flat) n ≡ Some top) (sym e) (place_mem 0 ∙ root_place (slice_get u.membranes 0) root_there.0 root_there.1)),
    );
    no_top = λ a e. atom_not a top (λ m d. absurd (cc d)) e;
    new_empty = λ m e. absurd (not_waiting m e);
  }

  -- an atom of the heap is one of the table
  atom_from : (a : ℕ) (f : Functor) → functor_of (heap_of flat) a ≡ Some f → (y : FlatAtom) × (slice_get u.atoms a ≡ Some y) × (y.functor ≡ f)
  atom_from a f e = functor_is (slice_get u.atoms a) flat.ports.items a f (ap (λ ys. option_map (λ (x : HeapAtom). x.functor) (option_map (heap_atom flat.ports.items a) (slice_get ys a))) same ∙ e)

  table_arity : (a : ℕ) → arity_of (heap_of flat) a ≡ length (links_by (slice_get u.atoms a))
  table_arity a = atom_ports flat.ports.items a (slice_get flat.atoms.items a) ∙ ap (λ ys. length (links_by (slice_get ys a))) (sym same)

  shaped : Shaped (heap_of flat)
  shaped = record {
    ports = λ a f e. let y = atom_from a f e in table_arity a ∙ ap (λ o. length (links_by o)) y.1 ∙ arities s is u made a y.0 y.1 ∙ ap (λ (f : Functor). f.arity) y.2;
    marks = λ a i. marks_counted (slice_get flat.atoms.items a) flat.ports.items a i;
  }

  -- ---- ports

  abbrev port : ℕ → ℕ → Port
  port a i = record { atom = a; index = i }

  -- a port of the heap, its partner and its link
  record Partnered (a i : ℕ) : Type 0 where
    other : Port
    joined : link_of (heap_of flat) a i ≡ Some (port_by other)
    other_has : HasLink 0 u.atoms (link_at flat a i) other
    apart : other ≢ port a i
    no_other : (q : Port) → HasLink 0 u.atoms (link_at flat a i) q → (q ≡ port a i) ⊎ (q ≡ other)

  has_its_link : (a i : ℕ) → i < arity_of (heap_of flat) a → HasLink 0 u.atoms (link_at flat a i) (port a i)
  has_its_link a i l =
      subst (λ ys. HasLink 0 u.atoms (link_in ys a i) (port a i)) same (link_there s is u made (slice_get u.atoms a) a i refl (subst (λ n. i < n) (table_arity a) l))

  partnered : (a i : ℕ) → i < arity_of (heap_of flat) a → Partnered a i
  partnered a i l =
      let x = link_at flat a i in
      let h = has_its_link a i l in
      let j = joined_there s is u made flat.ports.items of_ports x (port a i) h in
      by_end j (j.no_other (port a i) h)
    where
      partner_is : (j : Joined flat.ports.items u.atoms (link_at flat a i)) → partner_by flat.ports.items a i (link_at flat a i) ≡ (if (j.first.atom == a) && (j.first.index == i) then port_by j.second else port_by j.first)
      partner_is j = (λ k. other_than a i (get_or_from_slice_get flat.ports.items (2 * link_at flat a i) j.first no_port j.at_first k) (get_or_from_slice_get flat.ports.items (2 * link_at flat a i + 1) j.second no_port j.at_second k))

      by_end : (j : Joined flat.ports.items u.atoms (link_at flat a i)) → (port a i ≡ j.first) ⊎ (port a i ≡ j.second) → Partnered a i
      by_end j (inl e) = record {
        other = j.second;
        joined = joined_to flat a i l ∙ ap Some (partner_is j ∙ ap (λ b. if b then port_by j.second else port_by j.first) (port_tested j.first a i (sym e)));
        other_has = j.second_has;
        apart = λ d. j.apart (sym (d ∙ e));
        no_other = λ q g. elim (j.no_other q g) [ inl d ↦ inl (d ∙ sym e) | inr d ↦ inr d ];
      }
      by_end j (inr e) = record {
        other = j.first;
        joined = joined_to flat a i l ∙ ap Some (partner_is j ∙ ap (λ b. if b then port_by j.second else port_by j.first) (port_not_tested j.first a i (λ d. j.apart (d ∙ e))));
        other_has = j.first_has;
        apart = λ d. j.apart (d ∙ e);
        no_other = λ q g. elim (j.no_other q g) [ inl d ↦ inr d | inr d ↦ inl (d ∙ sym e) ];
      }

  port_below : (a i : ℕ) (p : ℕ × ℕ) → link_of (heap_of flat) a i ≡ Some p → i < arity_of (heap_of flat) a
  port_below a i p e = linked_below (partners_of ((heap_of flat).atoms a)) i p e

  -- the link of a port in the table
  link_of_has : (x : ℕ) (q : Port) → HasLink 0 u.atoms x q → (q.index < arity_of (heap_of flat) q.atom) × (link_at flat q.atom q.index ≡ x)
  link_of_has x q h =
      let e : slice_get u.atoms q.atom ≡ Some h.atom = ap (slice_get u.atoms) (h.is ∙ omega arith) ∙ h.there in (
        subst (λ n. q.index < n) (sym (table_arity q.atom ∙ ap (λ o. length (links_by o)) e)) (get_below h.atom.links q.index x h.link),
        ap (λ ys. link_in ys q.atom q.index) (sym same) ∙ ap (λ o. slice_index_or (links_by o) q.index 0) e ∙ get_or_from_slice_get h.atom.links q.index x 0 h.link,
      )

  port_is : (p : Port) (b j : ℕ) → ◌≡◌ {A = Option (ℕ × ℕ)} (Some (port_by p)) (Some (b, j)) → p ≡ port b j
  port_is p b j e = let d = same_port e in λ k. record { atom = d.0 k; index = d.1 k }

  module _ (a i b j : ℕ) (e : link_of (heap_of flat) a i ≡ Some (b, j)) where
    l : i < arity_of (heap_of flat) a
    l = port_below a i (b, j) e

    here : Partnered a i
    here = partnered a i l

    other_is : here.other ≡ port b j
    other_is = port_is here.other b j (sym here.joined ∙ e)

    told : (j < arity_of (heap_of flat) b) × (link_at flat b j ≡ link_at flat a i)
    told = subst (λ (q : Port). (q.index < arity_of (heap_of flat) q.atom) × (link_at flat q.atom q.index ≡ link_at flat a i)) other_is (link_of_has (link_at flat a i) here.other here.other_has)

    back_again : link_of (heap_of flat) b j ≡ Some (a, i)
    back_again =
        let there = partnered b j told.0 in
        there.joined ∙ by_end there (there.no_other (port a i) (subst (λ x. HasLink 0 u.atoms x (port a i)) (sym told.1) (has_its_link a i l)))
      where
        by_end : (there : Partnered b j) → (port a i ≡ port b j) ⊎ (port a i ≡ there.other) → Some (port_by there.other) ≡ Some (a, i)
        by_end there (inl d) = absurd (here.apart (other_is ∙ sym d))
        by_end there (inr d) = ap (λ q. Some (port_by q)) (sym d)

  paired : Paired (heap_of flat)
  paired = record {
    back = back_again;
    apart = λ a i e. (here a i a i e).apart (other_is a i a i e);
  }

  full : (a i : ℕ) → i < arity_of (heap_of flat) a → IsSome (link_of (heap_of flat) a i)
  full a i l = subst IsSome (sym (partnered a i l).joined) refl

  naming : IsNaming (heap_of flat) (link_at flat)
  naming = record {
    joined = λ a i b j e. sym (told a i b j e).1;
    apart = λ a i b j l m e. let p = partnered a i l in by_end a i b j p (p.no_other (port b j) (subst (λ x. HasLink 0 u.atoms x (port b j)) (sym e) (has_its_link b j m)));
  }
    where
      by_end : (a i b j : ℕ) (p : Partnered a i) → (port b j ≡ port a i) ⊎ (port b j ≡ p.other) → ((a ≡ b) × (i ≡ j)) ⊎ (link_of (heap_of flat) a i ≡ Some (b, j))
      by_end a i b j p (inl d) = inl (ap (λ (q : Port). q.atom) (sym d), ap (λ (q : Port). q.index) (sym d))
      by_end a i b j p (inr d) = inr (p.joined ∙ ap (λ q. Some (port_by q)) (sym d))

  -- ---- the tree of membranes

  its_kids : Kids (mems_in (heap_of flat)) (ts s is u made) 0
  its_kids =
      let n = size (inner s is u made) in
      let st = stands s is u made in
      kids_alike (λ m. picks u.membranes m 1 n) (mems_in (heap_of flat)) (ts s is u made) 0 (λ m b. sym (mems_are m (omega (arith, b, how_many s is u made)))) (
        heads_are u (fine s is u made).rises (inner s is u made) 0 1 _ st.2 (omega arith),
        kids_are u (fine s is u made).rises n (inner s is u made) 0 1 _ st.2 (omega arith) (omega arith) (λ i a b. absurd (omega (arith, a, b))),
        tt,
      )

  is_tree : IsTree (heap_of flat) (mem 0 (forest 1 (inner s is u made)) bare)
  is_tree = record {
    forms = forms_are (heap_of flat) (ts s is u made) 0 its_kids;
    once = subst Distinct (sym (forest_flat 0 (ts s is u made))) (range_distinct 0 (size (ts s is u made)));
    all = λ m i. by_option m (slice_get u.membranes m) refl i;
  }
    where
      by_option : (m : ℕ) (o : Option FlatMembrane) → slice_get u.membranes m ≡ o → IsMem (heap_of flat) m → In m (sound.flat (forest 0 (ts s is u made)))
      by_option m None e i = absurd (cc (subst IsSome (no_mem m e) i))
      by_option m (Some x) e i = subst (In m) (sym (forest_flat 0 (ts s is u made))) (in_range m 0 (size (ts s is u made)) (omega arith) (omega (arith, get_below u.membranes m x e, how_many s is u made)))

  as_many : length flat.membranes.items ≡ length u.membranes
  as_many = by_order (three_ways (length flat.membranes.items) (length u.membranes))
    where
      by_order : (length flat.membranes.items < length u.membranes) ⊎ ((length flat.membranes.items ≡ length u.membranes) ⊎ (length u.membranes < length flat.membranes.items)) → length flat.membranes.items ≡ length u.membranes
      by_order (inr (inl e)) = e
      by_order (inl l) =
          let k = length flat.membranes.items in
          let g = get_there u.membranes k l in
          absurd (omega (arith, get_below flat.membranes.items k _ (filled_at u.membranes flat.membranes.items (length u.membranes) k filled g.0 g.1)))
      by_order (inr (inr l)) =
          let k = length u.membranes in
          let g = get_there flat.membranes.items k l in
          let r = filled_from u.membranes flat.membranes.items (length u.membranes) k filled g.0 g.1 in
          absurd (omega (arith, get_below u.membranes k r.0 r.1))

  all_membranes : size (ts s is u made) ≡ length flat.membranes.items
  all_membranes = omega (arith, as_many, how_many s is u made)

  atoms_in_row : (ts : Trees) (p k a : ℕ) → Stands u ts p k a → flat_map (atoms_in (heap_of flat)) (sound.flat (forest k ts)) ≡ range_with_len a (count ts)
  atoms_in_row none p k a st = refl
  atoms_in_row (built.tree atoms rules inner rest) p k a st =
      let f = atoms_in (heap_of flat) in
      let x = held k (built.lone_membrane p a atoms rules) st.0 in
      let y = atoms_in_row inner k (suc k) (a + length atoms) st.2 in
      let z = atoms_in_row rest p (suc k + size inner) (a + length atoms + count inner) st.3 in
      ap (λ xs. f k ++ xs) (flat_map-append f (sound.flat (forest (suc k) inner)) (sound.flat (forest (suc k + size inner) rest)))
      ∙ (λ i. x.0 i ++ (y i ++ z i))
      ∙ ap (λ xs. range_with_len a (length atoms) ++ xs) (sym (range_both (a + length atoms) (count inner) (count rest)))
      ∙ sym (range_both a (length atoms) (count inner + count rest))

  how_many_atoms : length flat.atoms.items ≡ count (ts s is u made)
  how_many_atoms = ap length (sym same) ∙ ap (λ (t : Tables). length t.atoms) (unfolded s is u made) ∙ visited_atoms (ts s is u made) 0 no_tables ∙ omega arith

  valid : Valid (heap_of flat)
  valid = record {
    sound = record { paired = paired; listed = listed; shaped = shaped };
    settled = record {
      atoms = λ a i. atom_in_place (slice_get flat.atoms.items a) flat.ports.items a i;
      mems = λ m i. membrane_in_place (slice_get flat.membranes.items m) m i;
    };
    full = full;
    no_connector = λ a i e. let y = atom_from a connector e in no_connectors s is u made a y.0 y.1 y.2;
    tree = (mem 0 (forest 1 (inner s is u made)) bare, is_tree);
  }

  its_root : regions_of (heap_of flat) (link_at flat) (mem 0 (forest 1 (inner s is u made)) bare) ≡ s.root ∷ []
  its_root = solid_row flat u same (arities s is u made) held (ts s is u made) 0 0 0 (stands s is u made) ∙ ap rolled (sym (trees_apart s.root none)) ∙ rolls s.root none

  -- the tables are those of the solid
  pub is_flat : IsFlatOf s flat
  is_flat = record {
    valid = valid;
    naming = naming;
    inner = forest 1 (inner s is u made);
    tree = is_tree;
    preorder = forest_flat 0 (ts s is u made) ∙ ap (range_with_len 0) all_membranes;
    printed = atoms_in_row (ts s is u made) 0 0 0 (stands s is u made) ∙ ap (range_with_len 0) (sym how_many_atoms);
    root = its_root;
    region = λ names table.
        same_first (region_at (heap_of flat) (reading_of names table flat) 0 (forest 1 (inner s is u made))) (region_of names table s) no_region (
        sym (solids_are_regions (heap_of flat) (reading_of names table flat) (mem 0 (forest 1 (inner s is u made)) bare))
        ∙ ap (λ rs. regions (map (numbered_region names (numbered_rule names table)) rs)) its_root);
  }

-- the heap of the tables has the solid
pub flats_have_their_solids : FlatsHaveTheirSolids
flats_have_their_solids s flat is f = record {
  forest = mem 0 f.inner bare;
  tree = f.tree;
  name = link_at flat;
  naming = f.naming;
  root = f.root;
  count = is.numbered.0;
  numbers = is.numbered.1;
}
