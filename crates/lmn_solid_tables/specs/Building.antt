-- Words of private functions alone: the tables of a tree of regions, as they are built.
use Rattle.std.specs.Prelude.{ℕ, zero, suc, ◌≡◌, ◌+◌, ◌*◌, ◌==◌, ◌++◌, List, [], ◌∷◌, Option, Some, None, if◌then◌else◌, length, map, flat_map, slice_get, slice_set}
use Rattle.std.specs.List.{range_with_len}
use Rattle.lmn_base.specs.Links.{Numbers}
use Rattle.lmn_base.specs.declared.solid.SolidAtom.{SolidAtom}
use Rattle.lmn_base.specs.declared.solid.Region.{Region}
use Rattle.lmn_base.specs.declared.solid.Region.TheOpen.{Region-F}
use Rattle.lmn_base.specs.declared.solid.Region.TheFolds.{fold-Region}
use Rattle.lmn_solid_tables.specs.declared.tables.FlatAtom.{FlatAtom}
use Rattle.lmn_solid_tables.specs.declared.tables.FlatMembrane.{FlatMembrane}
use Rattle.lmn_solid_tables.specs.declared.tables.Port.{Port}
use Rattle.lmn_solid_tables.specs.Tables.{no_port}

-- Regions side by side, by recursion: a first one with its atoms, its rules and what is in it, and those after it.
pub data Trees : Type 0 where
  none : Trees
  tree : List SolidAtom → List ℕ → Trees → Trees → Trees

-- each of these in front of the others
abbrev pub in_front : List (Trees → Trees) → Trees → Trees
in_front [] rest = rest
in_front (f ∷ fs) rest = f (in_front fs rest)

abbrev pub trees_step : Region-F (Trees → Trees) → Trees → Trees
trees_step r rest = tree r.atoms r.rules (in_front r.membranes none) rest

-- a region in front of others
abbrev pub trees_of : Region → Trees → Trees
trees_of = fold-Region (Trees → Trees) trees_step

-- how many regions there are
abbrev pub size : Trees → ℕ
size none = 0
size (tree atoms rules inner rest) = suc (size inner + size rest)

-- the tables without ports
pub record Tables : Type 0 where
  pub atoms : List FlatAtom
  pub membranes : List FlatMembrane

abbrev pub no_tables : Tables
no_tables = record { atoms = []; membranes = [] }

-- an atom in the membrane of a number
abbrev pub at_home : ℕ → SolidAtom → FlatAtom
at_home m a = record { functor = a.functor; links = a.links; home = m }

-- a membrane without its membranes, its atoms numbered from one on
abbrev pub lone_membrane : ℕ → ℕ → List SolidAtom → List ℕ → FlatMembrane
lone_membrane parent first atoms rules = record { parent = parent; atoms = range_with_len first (length atoms); membranes = []; rules = rules }

-- the tables with a membrane more
abbrev pub added : List SolidAtom → List ℕ → ℕ → Tables → Tables
added atoms rules parent t = record {
  atoms = t.atoms ++ map (at_home (length t.membranes)) atoms;
  membranes = t.membranes ++ lone_membrane parent (length t.atoms) atoms rules ∷ [];
}

-- the tables with the regions of a membrane more, each one before what is in it
abbrev pub visited : Trees → ℕ → Tables → Tables
visited none parent t = t
visited (tree atoms rules inner rest) parent t = visited rest parent (visited inner (length t.membranes) (added atoms rules parent t))

-- the tables once what waits has been visited, the last one first
abbrev pub visited_waiting : List (Region × ℕ) → Tables → Tables
visited_waiting [] t = t
visited_waiting (r ∷ waiting) t = visited (trees_of r.0 none) r.1 (visited_waiting waiting t)

-- how many regions there are in what waits
abbrev pub waiting_size : List (Region × ℕ) → ℕ
waiting_size [] = 0
waiting_size (r ∷ waiting) = size (trees_of r.0 none) + waiting_size waiting

-- the membranes of a membrane, the last one first
abbrev pub entered : ℕ → List Region → List (Region × ℕ)
entered number [] = []
entered number (r ∷ rs) = entered number rs ++ (r, number) ∷ []

-- the membrane round a membrane, by the table
abbrev pub parent_by : Option FlatMembrane → ℕ
parent_by None = 0
parent_by (Some x) = x.parent

-- the number, if the membrane stands in this one; the root stands in none
abbrev pub child : List FlatMembrane → ℕ → ℕ → List ℕ
child membranes outer zero = []
child membranes outer (suc m) = if parent_by (slice_get membranes (suc m)) == outer then suc m ∷ [] else []

-- the membranes in a membrane among the first ones
abbrev pub children : List FlatMembrane → ℕ → ℕ → List ℕ
children membranes zero outer = []
children membranes (suc n) outer = children membranes n outer ++ child membranes outer n

-- a membrane with those in it
abbrev pub with_inner : List ℕ → FlatMembrane → FlatMembrane
with_inner inner x = record x { membranes = inner }

-- A link is a new one, or it has occurred: then this is its second port.
abbrev pub port_added : List Port → ℕ → Port → List Port
port_added ports link p = if 2 * link == length ports then ports ++ p ∷ no_port ∷ [] else slice_set ports (2 * link + 1) p

-- the ports of an atom from one on
abbrev pub ports_added : List Port → ℕ → ℕ → List ℕ → List Port
ports_added ports a i [] = ports
ports_added ports a i (link ∷ links) = ports_added (port_added ports link (record { atom = a; index = i })) a (suc i) links

-- the ports of all atoms from one on
abbrev pub all_ports_added : List Port → ℕ → List FlatAtom → List Port
all_ports_added ports a [] = ports
all_ports_added ports a (x ∷ xs) = all_ports_added (ports_added ports a 0 x.links) (suc a) xs

-- the links of these atoms
abbrev pub links_of_atoms : List FlatAtom → List ℕ
links_of_atoms = flat_map (λ x. x.links)

-- So far the table has the links below a number, and these go on with the next numbers.
abbrev pub GoesOn : List Port → List ℕ → Type 0
GoesOn ports links = (n : ℕ) × (m : ℕ) × (length ports ≡ 2 * n) × Numbers n links m
