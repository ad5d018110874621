-- Where the head of a rule lies, by what a search has found.
use Rattle.std.specs.Prelude.{ℕ, zero, suc, List, [], ◌∷◌, slice_index_or}
use Rattle.lmn_base.specs.Graphs.{Port}
use Rattle.lmn_solid_tables.specs.Flats.{port_by}
use Rattle.lmn_solid_tables.specs.declared.tables.Port.{Port as Place}
use Rattle.lmn_solid_heads.specs.Embeddings.{Images}
use Rattle.lmn_solid_search.specs.Placing.{membrane_at}
use Rattle.lmn_solid_search.specs.declared.embedding.Found.{Found}

-- the port with a number
abbrev pub port_at : List Place → ℕ → Port
port_at [] n = (0, 0)
port_at (p ∷ ports) zero = port_by p
port_at (p ∷ ports) (suc n) = port_at ports n

-- where the items of a head lie, of a rule in this membrane
abbrev pub images : ℕ → Found → Images
images home found = record {
  atom = λ n. slice_index_or found.atoms n 0;
  membrane = membrane_at home found.membranes;
  part = port_at found.parts;
}
