-- Ports in the heap of the tables, and what stands at their links.
use Rattle.std.proofs.Common.{ℕ, zero, suc, true, false, ◌≡◌, ◌+◌, ◌*◌, ◌<◌, List, [], ◌∷◌, length, refl, sym, ap, subst, ◌∙◌, arith}
use Rattle.std.proofs.lemmas.Option.{get_or_from_slice_get, slice_get-get_or}
use Rattle.std.specs.Prelude.{IsSome, Option, Some, None, ◌==◌, ◌&&◌, if◌then◌else◌, slice_get, slice_index_or}
use Rattle.std.specs.Option.{option_map}
use Rattle.lmn_store_heap.specs.Heap.{IsAtom, arity_of, link_of, partners_of}
use Rattle.lmn_solid_tables.specs.declared.flat.Flat.{Flat}
use Rattle.lmn_solid_tables.specs.declared.tables.FlatAtom.{FlatAtom}
use Rattle.lmn_solid_tables.specs.declared.tables.Port.{Port}
use Rattle.lmn_solid_tables.specs.Tables.{links_by, no_port}
use Rattle.lmn_solid_tables.specs.Flats.{heap_atom, heap_of, link_at, other_than, partner_by, partners_from, port_by}
use Rattle.lmn_base.proofs.Lists.{read_as}

ports_counted : (ports : List Port) (a i : ℕ) (xs : List ℕ) → length (partners_from ports a i xs) ≡ length xs
ports_counted ports a i [] = refl
ports_counted ports a i (x ∷ xs) = ap suc (ports_counted ports a (i + 1) xs)

-- an atom in the heap has as many ports as it has links in the table
pub atom_ports : (ports : List Port) (a : ℕ) (o : Option FlatAtom) → length (partners_of (option_map (heap_atom ports a) o)) ≡ length (links_by o)
atom_ports ports a None = refl
atom_ports ports a (Some x) = ports_counted ports a 0 x.links

partner_at : (ports : List Port) (a i : ℕ) (xs : List ℕ) (k : ℕ) → k < length xs → slice_index_or (partners_from ports a i xs) k None ≡ Some (partner_by ports a (i + k) (slice_index_or xs k 0))
partner_at ports a i [] k l = absurd (omega (arith, l))
partner_at ports a i (x ∷ xs) zero l = ap (λ j. Some (partner_by ports a j x)) (omega arith)
partner_at ports a i (x ∷ xs) (suc k) l = partner_at ports a (i + 1) xs k (omega (arith, l)) ∙ ap (λ j. Some (partner_by ports a j (slice_index_or xs k 0))) (omega arith)

joined_by : (ports : List Port) (a i : ℕ) (o : Option FlatAtom) → i < length (links_by o) → slice_index_or (partners_of (option_map (heap_atom ports a) o)) i None ≡ Some (partner_by ports a i (slice_index_or (links_by o) i 0))
joined_by ports a i None l = absurd (omega (arith, l))
joined_by ports a i (Some x) l = partner_at ports a 0 x.links i l ∙ ap (λ j. Some (partner_by ports a j (slice_index_or x.links i 0))) (omega arith)

module _ (flat : Flat) (a i : ℕ) (l : i < arity_of (heap_of flat) a) where
  -- a port of the heap has its link in the table
  pub has_link : i < length (links_by (slice_get flat.atoms.items a))
  has_link = subst (λ n. i < n) (atom_ports flat.ports.items a (slice_get flat.atoms.items a)) l

  -- the partner of a port by its link
  pub joined_to : link_of (heap_of flat) a i ≡ Some (partner_by flat.ports.items a i (link_at flat a i))
  joined_to = joined_by flat.ports.items a i (slice_get flat.atoms.items a) has_link

module _ (ports : List Port) (a i link : ℕ) (p : Port) (here : 2 * link + 1 < length ports) (first : p ≡ slice_index_or ports (2 * link) p) where
  -- a port that is the first one of its link is joined to the second one
  pub second_port : (q : Port) → q ≡ slice_index_or ports (2 * link + 1) q → ((p.atom == a) && (p.index == i)) ≡ true → partner_by ports a i link ≡ port_by q
  second_port q second test =
      let e = read_as ports (2 * link) no_port p (omega (arith, here)) ∙ sym first in
      let d = read_as ports (2 * link + 1) no_port q here ∙ sym second in
      ap (λ r. other_than a i r (slice_index_or ports (2 * link + 1) no_port)) e
      ∙ ap (λ r. other_than a i p r) d
      ∙ ap (λ b. if b then port_by q else port_by p) test

  -- any other port is joined to the first one
  pub first_port : ((p.atom == a) && (p.index == i)) ≡ false → partner_by ports a i link ≡ port_by p
  first_port test =
      let e = read_as ports (2 * link) no_port p (omega (arith, here)) ∙ sym first in
      ap (λ r. other_than a i r (slice_index_or ports (2 * link + 1) no_port)) e
      ∙ ap (λ b. if b then port_by (slice_index_or ports (2 * link + 1) no_port) else port_by p) test

linked_by : (o : Option FlatAtom) (x : FlatAtom) (i : ℕ) → o ≡ Some x → i < length (links_by o) → i < length x.links
linked_by o x i e l = rw e at l

link_by_get : (o : Option FlatAtom) (x : FlatAtom) (i y : ℕ) → o ≡ Some x → slice_get x.links i ≡ Some y → y ≡ slice_index_or (links_by o) i 0
link_by_get o x i y e d = rw e (sym (get_or_from_slice_get x.links i y 0 d))

links_below : (atoms : List FlatAtom) (a i : ℕ) → i < length (links_by (slice_get atoms a)) → a < length atoms
links_below [] a i l = absurd (omega (arith, l))
links_below (x ∷ xs) zero i l = omega arith
links_below (x ∷ xs) (suc a) i l = let s = links_below xs a i l in omega (arith, s)

module _ (flat : Flat) (a i : ℕ) (x : FlatAtom) (l : i < arity_of (heap_of flat) a) (is : x ≡ slice_index_or flat.atoms.items a x) where
  atom_is : slice_get flat.atoms.items a ≡ Some x
  atom_is = slice_get-get_or flat.atoms.items a x (links_below flat.atoms.items a i (has_link flat a i l)) ∙ ap Some (sym is)

  -- the atom of a port has so many links
  pub port_below : i < length x.links
  port_below = linked_by (slice_get flat.atoms.items a) x i atom_is (has_link flat a i l)

  -- the link at a port by its atom
  pub link_is : (y : ℕ) → slice_get x.links i ≡ Some y → y ≡ link_at flat a i
  link_is y d = link_by_get (slice_get flat.atoms.items a) x i y atom_is d

in_table : (o : Option FlatAtom) (ports : List Port) (a : ℕ) → IsSome (option_map (heap_atom ports a) o) → (x : FlatAtom) × (o ≡ Some x)
in_table None ports a i = absurd (cc i)
in_table (Some x) ports a i = (x, refl)

-- how many ports an atom has by the table
pub arity_read : (flat : Flat) (a : ℕ) (x : FlatAtom) → IsAtom (heap_of flat) a → x ≡ slice_index_or flat.atoms.items a x → length x.links ≡ arity_of (heap_of flat) a
arity_read flat a x i is =
    let r = in_table (slice_get flat.atoms.items a) flat.ports.items a i in
    let e : slice_get flat.atoms.items a ≡ Some x = r.1 ∙ ap Some (sym (get_or_from_slice_get flat.atoms.items a r.0 x r.1) ∙ sym is) in
    sym (atom_ports flat.ports.items a (slice_get flat.atoms.items a) ∙ ap (λ o. length (links_by o)) e)
