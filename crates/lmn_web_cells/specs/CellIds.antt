-- The number by which contracts name a cell.
use Rattle.std.specs.Prelude.{◌≡◌, ◌⊎◌, ℕ, Option, Some, None}
use denote.RawPtr.{Ptr, block_ptr, null_ptr}
use Rattle.lmn_web_cells.specs.declared.handle.Cell.{Cell}
use Rattle.lmn_web_cells.specs.Rows.{place_of, IsStart}

-- the place at which it lies
abbrev pub cell_id : Cell → ℕ
cell_id c = place_of c.at

-- the pointer leads to a place, or nowhere
abbrev pub IsLink : Ptr → Type 0
IsLink p = (p ≡ null_ptr) ⊎ IsStart p

abbrev pub led_by : Ptr → Option ℕ
led_by null_ptr = None
led_by (block_ptr b o) = Some (place_of (block_ptr b o))

-- a port named by numbers
abbrev pub port_id : Cell × ℕ → ℕ × ℕ
port_id p = (cell_id p.0, p.1)
