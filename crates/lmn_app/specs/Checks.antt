-- What `check` says of a trace beside a program.
use Rattle.std.specs.Prelude.{◌≡◌, ℕ, List, [], ◌∷◌, codes, decimal}
use Rattle.std.specs.List.{concat}
use Rattle.lmn_base.specs.declared.refusal.Refusal.{Refusal}
use Rattle.lmn_base.specs.declared.rule.Plain.{Plain}
use Rattle.lmn_adequacy.specs.Numbered.{IsNumbered}
use Rattle.lmn_congruence.specs.Plains.{SolidOf}
use Rattle.lmn_congruence.specs.Regions.{Region, region_process}
use Rattle.lmn_congruence.specs.Rules.{Name}
use Rattle.lmn_congruence.specs.Translation.{plain_process, top_of}
use Rattle.lmn_guards.specs.declared.plan.GuardPlan.{GuardPlan}
use Rattle.lmn_receipt_chain.specs.Chains.{Continued, Continues, IsChain, IsWrongTrace, line_of_solid}
use Rattle.lmn_receipt_chain.specs.Laws.{IsChainOfCommits}
use Rattle.lmn_reduction.specs.Commits.{Commit, Settles}
use Rattle.lmn_app_runs.specs.Runs.{IsLineOf}
use Rattle.lmn_app_single.specs.Texts.{Accepts}

-- A program that is accepted, and the solid of its plain, whose links are numbered in printed order.
pub record HasSolid (program : List ℕ) : Type 0 where
  pub names : List Name
  pub plain : Plain
  pub plans : List GuardPlan
  pub accepted : Accepts program names plain plans
  pub solid : Region
  pub of_plain : SolidOf (top_of names plain) solid
  pub numbered : IsNumbered solid

-- The trace is a chain of n firings from the solid of the program on, whatever the order of choice. In the calculus:
--   settles  the process of the program's plain settles to that of the solid, with which the chain begins
--   lines    the line of each solid reads back as its process, which is closed
--   each     each next process comes by one commit
--   commits  so the chain is one of n commits, and the word at its end is `irreducible` exactly where its last process is
pub record IsChecked (program trace : List ℕ) (n : ℕ) : Type 0 where
  pub of : HasSolid program
  pub chain : IsChain of.solid trace n
  pub settles : Settles (plain_process of.names of.plain) (region_process of.solid)
  pub lines : (before : List Region) (last : Region) → Continued of.solid before last → IsLineOf of.names (region_process last) (line_of_solid last)
  pub each : (before : List Region) (last next : Region) → Continued of.solid before last → Continues last next → Commit (region_process last) (region_process next)
  pub commits : IsChainOfCommits of.solid trace n chain

-- This is wrong in the trace beside the solid of the program.
pub record IsWrongTraceOf (program trace : List ℕ) (refusal : Refusal) : Type 0 where
  pub of : HasSolid program
  pub wrong : IsWrongTrace of.solid trace refusal

-- as `% checked 2`
abbrev pub checked_line : ℕ → List ℕ
checked_line n = concat (codes "% checked " ∷ decimal n ∷ codes "\n" ∷ [])

-- the trace is one of the program, and this line says of how many commits
abbrev pub IsCheckedLine : List ℕ → List ℕ → List ℕ → Type 0
IsCheckedLine program trace written = (n : ℕ) × IsChecked program trace n × (written ≡ checked_line n)
