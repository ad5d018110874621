-- How many links of a process are free.
use Rattle.std.specs.Prelude.{ℕ, ◌==◌, List, [], ◌∷◌, ◌++◌, count_by}
use Rattle.lmn_congruence.specs.Process.{Process, nothing, connector, atom, pair, membrane, rule, occurrences}

-- the links of a process, one for each place, inside membranes and not inside rules
abbrev pub process_links : Process → List ℕ
process_links nothing = []
process_links (connector x y) = x ∷ y ∷ []
process_links (atom a xs) = xs
process_links (pair P Q) = process_links P ++ process_links Q
process_links (membrane P) = process_links P
process_links (rule r) = []

-- the number of free links of a process: a free link has one place
abbrev pub free_number : Process → ℕ
free_number P = count_by (λ x. occurrences x P == 1) (process_links P)
