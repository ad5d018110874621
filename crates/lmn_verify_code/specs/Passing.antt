-- The tests of verified code, some at a time. No public contract cites a word of this module.
use Rattle.std.specs.Prelude.{ℕ, ◌+◌, ◌&&◌, Bool, List, map, drop}
use Rattle.std.specs.List.{list_all}
use Rattle.lmn_congruence_splice.specs.Classes.{rising}
use Rattle.lmn_instr_code.specs.declared.instr.Instr.{Instr}
use Rattle.lmn_instr_code.specs.declared.instr.NewPort.{NewPort}
use Rattle.lmn_instr_code.specs.declared.instr.NewPort.TheVariants as new
use Rattle.lmn_verify_code.specs.declared.found.FoundAtom.{FoundAtom}
use Rattle.lmn_verify_code.specs.declared.found.FoundMembrane.{FoundMembrane}
use Rattle.lmn_verify_code.specs.declared.found.FoundPart.{FoundPart}
use Rattle.lmn_verify_code.specs.Verified.{all_looked_at, finds_first, gets_integer, is_head, each_two, are_apart, are_apart_membranes, takes_out, registers_held, makes_and_ties, has_port, named_ports, stand_once, ports_of_registers}

abbrev pub head_passes : List Instr → List FoundAtom → List FoundMembrane → List FoundPart → Bool
head_passes head atoms membranes parts =
    all_looked_at head && (finds_first head && (list_all (gets_integer parts) head && (is_head head && (each_two (are_apart head) atoms && each_two (are_apart_membranes head) membranes))))

abbrev pub body_passes : List Instr → ℕ → ℕ → ℕ → ℕ → Bool
body_passes body a m g k = takes_out (registers_held a g m) body && makes_and_ties (m + 1) k a (drop m (drop g (drop a body)))

abbrev pub ports_pass : List Instr → List Instr → List NewPort → List ℕ → ℕ → Bool
ports_pass head body stands ns copies =
    list_all (λ i. list_all (has_port ns) (named_ports i)) head && (list_all (λ i. list_all (has_port ns) (named_ports i)) body && (stand_once stands (ports_of_registers 0 ns) && stand_once stands (map new.Copy (rising 0 copies))))
