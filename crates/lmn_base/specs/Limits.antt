-- The limits of the language that are told of plain types, each by its name. Those of tokens stand in `lmn_parser_grammar`, that of a
-- whole text in `lmn_app`.
use Rattle.std.specs.Prelude.{ℕ, ◌*◌, ◌+◌}

-- the most bytes of a name
abbrev pub longest_name : ℕ
longest_name = 255

-- the most links of an atom: an arity is a number of 8 bits
abbrev pub most_links : ℕ
most_links = 255

-- the most items of a head, and of a body
abbrev pub most_head_items : ℕ
most_head_items = 128

abbrev pub most_body_items : ℕ
most_body_items = 1024

-- the most conditions of a guard, and the most integers and contexts in it
abbrev pub most_conditions : ℕ
most_conditions = 64

abbrev pub most_guard_tokens : ℕ
most_guard_tokens = 256

-- What code has of registers: each atom and each membrane of a rule one, and the membrane of the rule one more; typed contexts and
-- their copies no more than items; integers as a guard has tokens, and as many that are computed.
abbrev pub most_atom_registers : ℕ
most_atom_registers = most_head_items + most_body_items

abbrev pub most_membrane_registers : ℕ
most_membrane_registers = most_head_items + most_body_items + 1

abbrev pub most_part_registers : ℕ
most_part_registers = most_head_items

abbrev pub most_integer_registers : ℕ
most_integer_registers = 2 * most_guard_tokens

abbrev pub most_copy_registers : ℕ
most_copy_registers = most_body_items
