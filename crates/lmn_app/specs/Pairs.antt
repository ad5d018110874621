-- What commands do with a program and a second text. Each command has one case of each of these definitions.
use Rattle.std.specs.Prelude.{◌≡◌, ◌<◌, ◌≤◌, ◌⊎◌, ℕ, List, Option, None, Some, length}
use Rattle.lmn_base.specs.declared.refusal.Refusal.{Refusal}
use Rattle.lmn_app_words.specs.declared.command.PairKind.{PairKind}
use Rattle.lmn_app_words.specs.declared.command.PairKind.TheVariants.{Bound, Check, Debug, Exec}
use Rattle.lmn_debug_script.specs.Scripts.{IsFirstWrong}
use Rattle.lmn_app_words.specs.Forms.{Pair}
use Rattle.lmn_app_single.specs.declared.ending.Ending.{Ending}
use Rattle.lmn_app_single.specs.declared.ending.Ending.TheVariants.{Done, WriteFault}
use Rattle.lmn_app.specs.Bounds.{IsBounded, IsWrongWeights}
use Rattle.lmn_app.specs.Checks.{IsCheckedLine, IsWrongTraceOf}
use Rattle.lmn_app.specs.Debugs.{IsDebugged, session_size}
use Rattle.lmn_app.specs.Executions.{IsExecutedAs, IsWrongListing, executed_size}
use Rattle.lmn_app.specs.SecondTexts.{IsSecondCode, long_code, second_bytes}
use Rattle.lmn_app_single.specs.Texts.{IsAccepted, at_start}
use Rattle.lmn_app_single.specs.Writing.{IsToldAnd, told_under}

-- the most items of the process of the program; `check` and `bound` load none
abbrev pub most_items_of_pair : PairKind → Option ℕ
most_items_of_pair Check = None
most_items_of_pair Debug = Some session_size
most_items_of_pair Exec = Some executed_size
most_items_of_pair Bound = None

-- what is wrong in a second text beside a program, and where
abbrev pub IsWrong : PairKind → List ℕ → List ℕ → Refusal → Type 0
IsWrong Check program trace refusal = IsWrongTraceOf program trace refusal
IsWrong Debug program script refusal = IsFirstWrong script refusal
IsWrong Exec program listing refusal = IsWrongListing program listing refusal
IsWrong Bound program weights refusal = IsWrongWeights program weights refusal

-- what is written of both where a command ends so; where `out` fails, what was due
abbrev pub IsWritten : PairKind → Ending → List ℕ → List ℕ → List ℕ → Type 0
IsWritten Check Done program trace written = IsCheckedLine program trace written
IsWritten Check WriteFault program trace written = IsCheckedLine program trace written
IsWritten Check _ program trace written = ⊥
IsWritten Debug ending program script written = IsDebugged ending program script written
IsWritten Exec ending program listing written = IsExecutedAs ending program listing written
IsWritten Bound Done program weights written = IsBounded program weights written
IsWritten Bound WriteFault program weights written = IsBounded program weights written
IsWritten Bound _ program weights written = ⊥

-- the statuses for an accepted program, where nothing fails
abbrev pub PairAnswers : PairKind → ℕ → Type 0
PairAnswers Check status = (status ≡ 0) ⊎ (status ≡ 8) ⊎ (status ≡ 6)
PairAnswers Debug status = (status ≡ 0) ⊎ (status ≡ 9) ⊎ (status ≡ 6)
PairAnswers Exec status = (status ≡ 0) ⊎ (status ≡ 1) ⊎ (status ≡ 7) ⊎ (status ≡ 10) ⊎ (status ≡ 6)
PairAnswers Bound status = (status ≡ 0) ⊎ (status ≡ 11) ⊎ (status ≡ 6)

-- ---- of all commands

-- The refusal of a second text: it has too many bytes, or something is wrong in it.
pub data IsSecondRefusal (kind : PairKind) (program second : List ℕ) (refusal : Refusal) : Type 0 where
  second_long : second_bytes kind < length second → refusal ≡ at_start (long_code kind) → IsSecondRefusal kind program second refusal
  second_wrong : length second ≤ second_bytes kind → IsWrong kind program second refusal → IsSecondRefusal kind program second refusal

-- A program that is accepted: the one that is told under its name, if one is.
pub record HasProgram (pair : Pair) (texts : Option (List ℕ → Option (List ℕ))) : Type 0 where
  pub program : List ℕ
  pub is_told : IsToldAnd (told_under texts pair.file) (λ found. found ≡ program)
  pub accepted : IsAccepted (most_items_of_pair pair.kind) program

-- A second text is refused so, beside an accepted program. It is the one that is told, if one is.
pub record RefusesSecond (pair : Pair) (texts : Option (List ℕ → Option (List ℕ))) (kind : PairKind) (refusal : Refusal) : Type 0 where
  pub same : kind ≡ pair.kind
  pub of : HasProgram pair texts
  pub second : List ℕ
  pub second_told : IsToldAnd (told_under texts pair.second) (λ found. found ≡ second)
  pub refused : IsSecondRefusal pair.kind of.program second refusal
  pub code : IsSecondCode pair.kind refusal.code

-- So much was taken of what is written of an accepted program and a second text. The texts are those that are told, if they are.
pub record Writes (pair : Pair) (ending : Ending) (texts : Option (List ℕ → Option (List ℕ))) (Took : List ℕ → Type 0) : Type 0 where
  pub of : HasProgram pair texts
  pub second : List ℕ
  pub second_told : IsToldAnd (told_under texts pair.second) (λ found. found ≡ second)
  pub short : length second ≤ second_bytes pair.kind
  pub written : List ℕ
  pub is : IsWritten pair.kind ending of.program second written
  pub took : Took written
