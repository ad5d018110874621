-- The texts of small runs, and how many rules are asked in runs without commits.
use Rattle.std.specs.Prelude.{ℕ, ◌≡◌, ◌+◌, List, [], ◌∷◌, codes, true, false}
use Rattle.lmn_base.specs.Lists.{In}
use Rattle.lmn_base.specs.declared.rule.RuleTree.{RuleTree}
use Rattle.lmn_store_heap.specs.Heap.{Heap, mem_mark_of}
use Rattle.lmn_store_heap.specs.Sound.{Forest, IsTree, flat}
use Rattle.lmn_store_trait.specs.Awake.{asleep_mark}
use Rattle.lmn_instr_code.specs.declared.instr.Code.{Code}
use Rattle.lmn_app_drive.specs.Asking.{AsksFew, awake_rules}
use Rattle.lmn_congruence.specs.Regions.{Region, solid_atom_with}
use Rattle.lmn_congruence.specs.Rules.{Name}
use Rattle.lmn_reduction.specs.Examples.{label_a}
use Rattle.lmn_adequacy.specs.Examples.{growing}
use Rattle.lmn_adequacy.specs.Runs.{Chooser, full, irreducible}
use Rattle.lmn_schedule.specs.Held.{HoldsRegion}
use Rattle.lmn_print_folded.specs.Examples.{last_ports}
use Rattle.lmn_app_drive.specs.Driving.{OfEachInput}
use Rattle.lmn_app_drive.specs.Written.{IsWritten}
use Rattle.lmn_app_drive.specs.declared.driving.RunOptions.{RunOptions}
use Rattle.lmn_app_runs.specs.Runs.{end_word}

-- `a. a :- a, a.` is full after one commit with the size 3: what is written with a trace, and what without one
abbrev pub FullRunIsWritten : Type 0
FullRunIsWritten =
    let one : Region = growing (solid_atom_with label_a [] ∷ []) in
    let two : Region = growing (solid_atom_with label_a [] ∷ solid_atom_with label_a [] ∷ []) in
    IsWritten false true (one ∷ []) two (end_word full) (codes "a. (a :- a, a).\na. a. (a :- a, a).\n% full after 1\n")
    × IsWritten false false (one ∷ []) two (end_word full) (codes "a. a. (a :- a, a).\n% full after 1\n")

-- `a(X), b(X).` has no rule: what is written in the folded form, and what in the plain one
abbrev pub FoldedRunIsWritten : Type 0
FoldedRunIsWritten =
    IsWritten true true [] last_ports (end_word irreducible) (codes "a(b).\n% irreducible after 0\n")
    × IsWritten false true [] last_ports (end_word irreducible) (codes "a(L0). b(L0).\n% irreducible after 0\n")

-- Without a commit as many rules may be asked as stand in the membranes that are awake,
abbrev pub AwakeMayBeAsked : Type 0
AwakeMayBeAsked = (c : Chooser) (table : List RuleTree) (codes : List Code) (size : ℕ) (h : Heap) (f : Forest) → IsTree h f → (begun : ℕ) →
    AsksFew (λ n m from. from ≡ c n m) table codes size h 0 h begun (begun + awake_rules h f)

-- and none where all sleep.
abbrev pub SleepersAreNotAsked : Type 0
SleepersAreNotAsked = (c : Chooser) (table : List RuleTree) (codes : List Code) (size : ℕ) (h : Heap) → ((f : Forest) → IsTree h f → (m : ℕ) → In m (flat f) → mem_mark_of h m ≡ asleep_mark) →
    (h' : Heap) (begun counted : ℕ) → AsksFew (λ n m from. from ≡ c n m) table codes size h 0 h' begun counted → counted ≡ begun

-- What a run is given by an engine with the size 3 has this size, and where the heap holds a solid none has another.
abbrev pub InputsHaveSizes : Type 0
InputsHaveSizes = (names : List Name) (table : List RuleTree) (h : Heap) (options : RunOptions) (c : Chooser) (S : Region) → HoldsRegion names table h S →
    OfEachInput names table h 3 options (λ g. (g c).size ≡ 3) × (¬ (OfEachInput names table h 3 options (λ g. (g c).size ≡ 4)))
