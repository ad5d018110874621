-- The clauses of `IsVerified` that the code of each accepted rule meets, part by part.
use Rattle.std.specs.Prelude.{ℕ, ◌≡◌, ◌<◌, ◌≤◌, ◌+◌, ◌++◌, true, List, length, drop, All}
use Rattle.std.specs.List.{flat_map, list_all}
use Rattle.lmn_base.specs.Levels.{rules_of}
use Rattle.lmn_base.specs.declared.rule.RuleTree.{RuleTree}
use Rattle.lmn_guards.specs.declared.plan.GuardPlan.{GuardPlan}
use Rattle.lmn_instr_code.specs.declared.instr.Code.{Code}
use Rattle.lmn_compile_rules.specs.Compiled.{IsCompiled}
use Rattle.lmn_compile_body.specs.Accepted.{IsCompilable}
use Rattle.lmn_verify_code.specs.Verified.{in_order, at_first, atoms_found, membranes_found, parts_found, gets_integer, takes_out, held, makes_and_ties, named_ports, has_port, arities, stand_once, places, ports_of, is_emptied}

-- What of `IsVerified` the code has besides that of each head.
--   order      it sets registers in the order of their numbers, and reads none that isn't set
--   integers   GETINT is of an integer
--   few        the head finds at most 128 atoms and membranes
--   taken      the body takes out all that the head holds
pub record IsVerifiedFor (code : Code) : Type 0 where
  pub order : in_order at_first (code.head ++ code.body) ≡ true
  pub integers : list_all (gets_integer (parts_found code.head)) code.head ≡ true
  pub few : length (atoms_found code.head) + length (membranes_found code.head) ≤ 128
  pub taken : takes_out (held code) code.body ≡ true

-- The code of each accepted rule is verified for these.
abbrev pub AcceptedIsVerifiedFor : Type 0
AcceptedIsVerifiedFor = (table : List RuleTree) (r : RuleTree) (plan : GuardPlan) (code : Code) → IsCompilable table r plan → IsCompiled r plan code → IsVerifiedFor code

-- Behind what it takes out, the body of each accepted rule makes, moves and copies, then drops, then ties, and ends, where the rules
-- that are written in it are among k rules.
abbrev pub AcceptedBodiesRest : Type 0
AcceptedBodiesRest =
    (table : List RuleTree) (r : RuleTree) (plan : GuardPlan) (code : Code) (k : ℕ) → IsCompilable table r plan → IsCompiled r plan code → All (λ j. j < k) (rules_of r.body)
    → makes_and_ties (1 + length (membranes_found code.head)) k (length (atoms_found code.head)) (drop (length (held code)) code.body) ≡ true

-- And each port that is named in it is one of its atom.
abbrev pub AcceptedNamesPorts : Type 0
AcceptedNamesPorts =
    (table : List RuleTree) (r : RuleTree) (plan : GuardPlan) (code : Code) → IsCompilable table r plan → IsCompiled r plan code → list_all (λ i. list_all (has_port (arities code)) (named_ports i)) (code.head ++ code.body) ≡ true

-- And each port of its atoms, and each copy, stands in exactly one place.
abbrev pub AcceptedStandsOnce : Type 0
AcceptedStandsOnce =
    (table : List RuleTree) (r : RuleTree) (plan : GuardPlan) (code : Code) → IsCompilable table r plan → IsCompiled r plan code → stand_once (flat_map places (code.head ++ code.body)) (ports_of code) ≡ true

-- And each membrane that is taken out is empty then.
abbrev pub AcceptedIsEmptied : Type 0
AcceptedIsEmptied =
    (table : List RuleTree) (r : RuleTree) (plan : GuardPlan) (code : Code) → IsCompilable table r plan → IsCompiled r plan code → list_all (is_emptied code) (membranes_found code.head) ≡ true
