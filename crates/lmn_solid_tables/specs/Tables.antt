-- What holds of the tables of every solid.
use Rattle.std.specs.Prelude.{ℕ, suc, ◌≡◌, ◌<◌, ◌+◌, ◌*◌, List, [], Option, Some, None, length, slice_get, slice_index_or}
use Rattle.lmn_solid_tables.specs.declared.tables.FlatAtom.{FlatAtom}
use Rattle.lmn_solid_tables.specs.declared.tables.FlatMembrane.{FlatMembrane}
use Rattle.lmn_solid_tables.specs.declared.tables.Port.{Port}

-- the links of an atom of the table, none where there is no atom
abbrev pub links_by : Option FlatAtom → List ℕ
links_by None = []
links_by (Some x) = x.links

-- the number of the link at a port
abbrev pub link_in : List FlatAtom → ℕ → ℕ → ℕ
link_in atoms a i = slice_index_or (links_by (slice_get atoms a)) i 0

-- what stands in the place of a port that isn't there
abbrev pub no_port : Port
no_port = record { atom = 0; index = 0 }

-- each link has two places in the table of ports
abbrev pub HasPorts : List FlatAtom → List Port → Type 0
HasPorts atoms ports = (a i : ℕ) → i < length (links_by (slice_get atoms a)) → 2 * link_in atoms a i + 1 < length ports

-- each membrane but the root has a greater number than the one round it
abbrev pub Rises : List FlatMembrane → Type 0
Rises membranes = (m : ℕ) (x : FlatMembrane) → slice_get membranes (suc m) ≡ Some x → x.parent < suc m
