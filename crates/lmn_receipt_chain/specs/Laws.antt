-- The laws of chains.
use Rattle.std.specs.Prelude.{◌≡◌, ◌<◌, ◌++◌, ℕ, List, [], ◌∷◌, codes, length, map}
use Rattle.std.specs.List.{concat}
use Rattle.std.specs.declared.alloc.Global.{Global}
use Rattle.lmn_base.specs.declared.refusal.Refusal.{Refusal}
use Rattle.lmn_base.specs.declared.rule.Plain.{Plain}
use Rattle.lmn_base.specs.declared.solid.Solid.{Solid}
use Rattle.lmn_congruence.specs.Process.{Closed}
use Rattle.lmn_congruence.specs.Regions.{Region, region_process}
use Rattle.lmn_congruence.specs.Rules.{Name}
use Rattle.lmn_congruence.specs.SolidsOfPlains.{IsSolidOf}
use Rattle.lmn_reduction.specs.Chains.{Commits}
use Rattle.lmn_reduction.specs.Commits.{Commit, Irreducible}
use Rattle.lmn_adequacy.specs.Accepted.{Accepted, Throughout}
use Rattle.lmn_adequacy.specs.Embedding.{AllRules}
use Rattle.lmn_adequacy.specs.Runs.{Chooser, Trace}
use Rattle.lmn_app_runs.specs.Laws.{IsPrintable, solid_of}
use Rattle.lmn_app_runs.specs.Runs.{Given, StopsSo, end_line, word_of_stop}
use Rattle.lmn_app_runs.specs.declared.stop.Stop.{Stop}
use Rattle.lmn_receipt_chain.specs.Chains.{Continued, Continues, IsChain, IsWrongTrace, line_of_solid}

-- what each solid of a chain is like: it has no free link, and its rules are accepted, those in rules too
pub record IsAcceptedSolid (S : Region) : Type 0 where
  pub closed : Closed (region_process S)
  pub accepted : AllRules (Throughout Accepted) S

-- a chooser answers below the number of membranes
abbrev pub ChoosesBelow : Chooser → Type 0
ChoosesBelow chooser = (n m : ℕ) → 0 < m → chooser n m < m

-- What is written of a trace that stops, all lines in the plain form, is a chain.
abbrev pub TracesAreChains : Type 0
TracesAreChains = (g : Given) (S : Region) (before : List Region) (last : Region) (why : Stop) → ChoosesBelow g.chooser →
    Trace g.chooser g.budget g.size S before last → StopsSo g (length before) last why →
    IsChain S (concat (map line_of_solid (before ++ last ∷ [])) ++ end_line (word_of_stop why) (length before)) (length before)

-- Each solid of a chain comes from the one before by one commit.
abbrev pub ContinuesByCommit : Type 0
ContinuesByCommit = (S : Region) (before : List Region) (last next : Region) → IsAcceptedSolid S →
    Continued S before last → Continues last next → Commit (region_process last) (region_process next)

-- A chain is one of n commits, and the word `irreducible` is true, and each other word isn't.
pub record IsChainOfCommits (S : Region) (trace : List ℕ) (n : ℕ) (chain : IsChain S trace n) : Type 0 where
  pub commits : Commits n (region_process S) (region_process chain.last)
  pub irreducible : chain.word ≡ codes "irreducible" → Irreducible (region_process chain.last)
  pub reducible : ¬ (chain.word ≡ codes "irreducible") → ¬ (Irreducible (region_process chain.last))

abbrev pub ChainsAreCommits : Type 0
ChainsAreCommits = (S : Region) (trace : List ℕ) (n : ℕ) → IsAcceptedSolid S → (chain : IsChain S trace n) → IsChainOfCommits S trace n chain

-- What holds of a trace beside a solid.
--   not_both     it isn't a chain and wrong
--   one_count    it is a chain of so many commits alone
--   one_refusal  and it is wrong at one line alone, and in one way
pub record IsOneOf (S : Region) (trace : List ℕ) : Type 0 where
  pub not_both : (n : ℕ) (refusal : Refusal) → IsChain S trace n → IsWrongTrace S trace refusal → ⊥
  pub one_count : (n m : ℕ) → IsChain S trace n → IsChain S trace m → n ≡ m
  pub one_refusal : (r q : Refusal) → IsWrongTrace S trace r → IsWrongTrace S trace q → r ≡ q

-- So it is with each trace, beside the solid of a plain of which runs can be printed: a line tells its solid. A box in a condition
-- belongs to an allocator, so one is given.
abbrev pub TracesAreOneOf : Type 0
TracesAreOneOf = (alloc : Global) (names : List Name) (plain : Plain) (s : Solid) → IsPrintable names plain → IsSolidOf plain s →
    (trace : List ℕ) → IsOneOf (solid_of names plain s) trace

-- And no trace is neither a chain from a solid on, of whatever number of commits, nor wrong beside it. Which of the two it is isn't decided.
abbrev pub NoTraceIsNeither : Type 0
NoTraceIsNeither = (S : Region) (trace : List ℕ) → ¬ (((n : ℕ) → ¬ (IsChain S trace n)) × ((refusal : Refusal) → ¬ (IsWrongTrace S trace refusal)))
