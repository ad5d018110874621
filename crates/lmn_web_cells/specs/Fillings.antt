-- Words of private functions: a row that becomes a cell.
use Rattle.std.specs.Prelude.{ℕ, ◌-◌, ◌*◌, List, ◌++◌, Option, replicate, slice_set}
use Rattle.lmn_web_cells.specs.Rows.{Item, NUMBER_WORD, blank, numbered}
use Rattle.lmn_web_cells.specs.Cells.{blank_links, blank_numbers, blank_ports}

-- the words of an atom's cell with so many ports, of which so many are written: links, numbers and the first ports
abbrev pub ports_filled : ℕ → ℕ → ℕ → List Item
ports_filled index ports j = blank_links 7 ++ (blank_numbers index ++ (blank_ports j ++ replicate ((ports - j) * 2) blank))

-- the words of a new row with a number: nothing was written but that
abbrev pub unwritten : ℕ → ℕ → Option ℕ → List Item
unwritten words index beside = slice_set (replicate words blank) NUMBER_WORD (numbered index beside)
