-- Tables that tell at once how often a port or a copy stands, and which registers are told apart. No public contract cites a word of this module.
use Rattle.std.specs.Prelude.{ℕ, ◌≡◌, ◌<◌, ◌+◌, ◌*◌, ◌==◌, nat_lt, Bool, true, false, if◌then◌else◌, List, [], ◌∷◌, length, slice_index_or, slice_set, count_by}
use Rattle.std.specs.List.{list_any}
use Rattle.lmn_instr_code.specs.declared.instr.Instr.{Instr}
use Rattle.lmn_instr_code.specs.declared.instr.Instr.TheVariants.{NeqAtom, NeqMem}
use Rattle.lmn_instr_code.specs.declared.instr.NewPort.{NewPort}
use Rattle.lmn_instr_code.specs.declared.instr.NewPort.TheVariants as new
use Rattle.lmn_verify_code.specs.Verified.{same_port, port_of_register}

-- a table, changed by one item of a list after the other
abbrev pub told_all : {A B : Type 0} → (List B → A → List B) → List B → List A → List B
told_all tell table [] = table
told_all tell table (x ∷ xs) = told_all tell (tell table x) xs

-- where two numbers, of which the second is below 256, have their place
abbrev pub place_of : ℕ → ℕ → ℕ
place_of a b = a * 256 + b

-- a table of counts, each of at most two, with one more at a place, if the table has it
abbrev pub counted : List ℕ → ℕ → List ℕ
counted counts k = if nat_lt (slice_index_or counts k 2) 2 then slice_set counts k (slice_index_or counts k 2 + 1) else counts

-- where a port of an atom stands once more,
abbrev pub port_counted : List ℕ → NewPort → List ℕ
port_counted counts (new.Atom p) = if nat_lt p.port 256 then counted counts (place_of p.atom p.port) else counts
port_counted counts (new.Copy c) = counts

-- and where a copy does
abbrev pub copy_counted : List ℕ → NewPort → List ℕ
copy_counted counts (new.Atom p) = counts
copy_counted counts (new.Copy c) = counted counts c

-- a table tells which ports stand in exactly one place,
abbrev pub TellsPorts : List NewPort → List ℕ → Type 0
TellsPorts stands counts = (a p : ℕ) → p < 256 → place_of a p < length counts
    → (slice_index_or counts (place_of a p) 2 == 1) ≡ (count_by (same_port (new.Atom (port_of_register a p))) stands == 1)

-- and one which copies do
abbrev pub TellsCopies : List NewPort → List ℕ → Type 0
TellsCopies stands counts = (c : ℕ) → c < length counts → (slice_index_or counts c 2 == 1) ≡ (count_by (same_port (new.Copy c)) stands == 1)

-- a table with a mark for two numbers,
abbrev pub marked : List Bool → ℕ → ℕ → List Bool
marked pairs a b = if nat_lt b 256 then slice_set pairs (place_of a b) true else pairs

-- in both orders
abbrev pub both_marked : List Bool → ℕ → ℕ → List Bool
both_marked pairs a b = marked (marked pairs a b) b a

abbrev pub atoms_marked : List Bool → Instr → List Bool
atoms_marked pairs (NeqAtom a b) = both_marked pairs a b
atoms_marked pairs _ = pairs

abbrev pub membranes_marked : List Bool → Instr → List Bool
membranes_marked pairs (NeqMem m n) = both_marked pairs m n
membranes_marked pairs _ = pairs

-- a table tells of which two registers code has an instruction
abbrev pub TellsPairs : (ℕ → ℕ → Instr → Bool) → List Instr → List Bool → Type 0
TellsPairs is_neq code pairs = (a b : ℕ) → b < 256 → place_of a b < length pairs → slice_index_or pairs (place_of a b) false ≡ list_any (is_neq a b) code
