-- What the tables of a solid stand for: a heap in which the number of an atom, and of a membrane, is its place in its table.
use Rattle.std.specs.Prelude.{ℕ, zero, suc, ◌≡◌, ◌+◌, ◌*◌, ◌==◌, ◌&&◌, List, [], ◌∷◌, Option, Some, if◌then◌else◌, flat_map, length, replicate, slice_get, slice_index_or}
use Rattle.std.specs.List.{range_with_len}
use Rattle.std.specs.Option.{option_map}
use Rattle.lmn_base.specs.Lists.{In}
use Rattle.lmn_base.specs.declared.rule.RuleTree.{RuleTree}
use Rattle.lmn_base.specs.declared.solid.Solid.{Solid}
use Rattle.lmn_base.specs.Names.{NamesSolid}
use Rattle.lmn_base.specs.Solids.{IsSolid}
use Rattle.lmn_congruence.specs.Rules.{Name}
use Rattle.lmn_congruence.specs.Translation.{numbered_rule, region_of}
use Rattle.lmn_adequacy_heaps.specs.HeapRegions.{HeapReading, region_at}
use Rattle.lmn_adequacy_heaps.specs.Premises.{IsRead}
use Rattle.lmn_store_heap.specs.Heap.{Heap, HeapAtom, HeapMem, Place, top, within, atoms_in, mems_in}
use Rattle.lmn_store_heap.specs.Conditions.{Above}
use Rattle.lmn_store_heap.specs.Solid.{HasSolid, IsNaming, regions_of}
use Rattle.lmn_store_heap.specs.Sound as sound
use Rattle.lmn_store_heap.specs.Sound.{Forest, bare, mem, IsTree, Valid}
use Rattle.lmn_solid_tables.specs.Tables.{link_in, no_port}
use Rattle.lmn_solid_tables.specs.declared.flat.Flat.{Flat}
use Rattle.lmn_solid_tables.specs.declared.tables.FlatAtom.{FlatAtom}
use Rattle.lmn_solid_tables.specs.declared.tables.FlatMembrane.{FlatMembrane}
use Rattle.lmn_solid_tables.specs.declared.tables.Port.{Port}

-- a port by numbers
abbrev pub port_by : Port → ℕ × ℕ
port_by p = (p.atom, p.index)

-- the port of the two of a link that isn't this one
abbrev pub other_than : ℕ → ℕ → Port → Port → ℕ × ℕ
other_than a i p q = if (p.atom == a) && (p.index == i) then port_by q else port_by p

-- the port to which a port with this link is joined: each link has its two ports one behind the other
abbrev pub partner_by : List Port → ℕ → ℕ → ℕ → ℕ × ℕ
partner_by ports a i link = other_than a i (slice_index_or ports (2 * link) no_port) (slice_index_or ports (2 * link + 1) no_port)

-- the ports to which those of an atom, from one on, are joined
abbrev pub partners_from : List Port → ℕ → ℕ → List ℕ → List (Option (ℕ × ℕ))
partners_from ports a i [] = []
partners_from ports a i (link ∷ links) = Some (partner_by ports a i link) ∷ partners_from ports a (i + 1) links

-- an atom of the table with its number
abbrev pub heap_atom : List Port → ℕ → FlatAtom → HeapAtom
heap_atom ports a x = record { functor = x.functor; links = partners_from ports a 0 x.links; marks = replicate (length x.links + 1) 0; place = within x.home }

-- the first membrane is the root
abbrev pub place_by : ℕ → ℕ → Place
place_by zero parent = top
place_by (suc m) parent = within parent

abbrev pub heap_membrane : ℕ → FlatMembrane → HeapMem
heap_membrane m x = record { atoms = x.atoms; mems = x.membranes; rules = x.rules; spare = 0; mark = 0; place = place_by m x.parent }

-- the heap that the tables stand for
abbrev pub heap_of : Flat → Heap
heap_of flat = record {
  root = 0;
  atoms = λ a. option_map (heap_atom flat.ports.items a) (slice_get flat.atoms.items a);
  mems = λ m. option_map (heap_membrane m) (slice_get flat.membranes.items m);
  new_atoms = [];
  new_mems = [];
}

-- the number of the link at a port
abbrev pub link_at : Flat → ℕ → ℕ → ℕ
link_at flat = link_in flat.atoms.items

-- how the heap is read by a list of names and a table of rules: its links have the numbers that they have in the solid
abbrev pub reading_of : List Name → List RuleTree → Flat → HeapReading
reading_of names table flat = record { name = link_at flat; names = names; rule = numbered_rule names table }

-- a membrane is another one or stands in it
abbrev pub IsWithin : Heap → ℕ → ℕ → Type 0
IsWithin h m outer = (k : ℕ) × Above h k outer m

-- A membrane stands in a membrane, at some depth, and neither is it one of the images that stand directly in that one, nor
-- does it stand in such an image.
abbrev pub IsLeft : Heap → List ℕ → ℕ → ℕ → Type 0
IsLeft h images home m = (c : ℕ) × In c (mems_in h home) × (¬ In c images) × IsWithin h m c

-- The tables are those of a solid.
--   valid     the heap is one between commits
--   naming    the two ports of a link have its number, and no other port has
--   inner     its membranes are a tree, with this forest in the root
--   preorder  membranes are numbered in preorder
--   printed   atoms are numbered in printed order: those of a membrane before those of the next
--   root      it has the solid, with its links numbered as they are there
--   region    by each list of names and table of rules it is read as the region of the solid
pub record IsFlatOf (s : Solid) (flat : Flat) : Type 0 where
  pub valid : Valid (heap_of flat)
  pub naming : IsNaming (heap_of flat) (link_at flat)
  pub inner : Forest
  pub tree : IsTree (heap_of flat) (mem 0 inner bare)
  pub preorder : sound.flat (mem 0 inner bare) ≡ range_with_len 0 (length flat.membranes.items)
  pub printed : flat_map (atoms_in (heap_of flat)) (sound.flat (mem 0 inner bare)) ≡ range_with_len 0 (length flat.atoms.items)
  pub root : regions_of (heap_of flat) (link_at flat) (mem 0 inner bare) ≡ s.root ∷ []
  pub region : (names : List Name) (table : List RuleTree) → region_at (heap_of flat) (reading_of names table flat) 0 inner ≡ region_of names table s

-- the heap of the tables has the solid
abbrev pub FlatsHaveTheirSolids : Type 0
FlatsHaveTheirSolids = (s : Solid) (flat : Flat) → IsSolid s → IsFlatOf s flat → HasSolid (heap_of flat) s

-- The heap of the tables is read by each list of names that has those of the solid, so the laws of `lmn_adequacy_heaps` hold of it.
abbrev pub FlatsAreRead : Type 0
FlatsAreRead = (names : List Name) (table : List RuleTree) (s : Solid) (flat : Flat) → IsFlatOf s flat → NamesSolid names table s → IsRead (heap_of flat) (reading_of names table flat)
