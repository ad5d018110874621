-- A script orders a session over a program, or is refused.
use Rattle.std.specs.Prelude.{◌≡◌, ◌⊎◌, ℕ, List, Some}
use Rattle.std.specs.declared.alloc.Global.{Global}
use Rattle.lmn_base.specs.declared.refusal.Refusal.{Refusal}
use Rattle.lmn_congruence.specs.Regions.{Region, region_process}
use Rattle.lmn_debug.specs.Courses.{IsAt, course}
use Rattle.lmn_flatten_plain.specs.SolidLines.{as_level}
use Rattle.lmn_flatten_plain.specs.Words.{line_of}
use Rattle.lmn_order.specs.declared.order.Order.TheVariants.{First}
use Rattle.lmn_order.specs.Orders.{chosen}
use Rattle.lmn_app_runs.specs.Runs.{IsLineOf}
use Rattle.lmn_app_words.specs.declared.command.PairKind.TheVariants.{Debug}
use Rattle.lmn_app_single.specs.declared.ending.Ending.TheVariants.{Done}
use Rattle.lmn_app.specs.Debugs.{IsDebugged, IsSession, session_size}
use Rattle.lmn_app.specs.Pairs.{IsWrong}
use Rattle.lmn_app_single.specs.Texts.{IsAccepted}

-- a program that is accepted with few enough items has a session by a script, or the script is wrong
abbrev pub SessionOrRefused : Type 0
SessionOrRefused = (program script : List ℕ) → IsAccepted (Some session_size) program → IsSession program script ⊎ ((refusal : Refusal) × IsWrong Debug program script refusal)

-- a script that orders a session isn't wrong
abbrev pub SessionNotRefused : Type 0
SessionNotRefused = (program script : List ℕ) (refusal : Refusal) → IsSession program script → ¬ (IsWrong Debug program script refusal)

-- and it has one refusal at most
abbrev pub OneWrongScript : Type 0
OneWrongScript = (program script : List ℕ) (refusal other : Refusal) → IsWrong Debug program script refusal → IsWrong Debug program script other → refusal ≡ other

-- What is written of a session whose orders are all carried out is one text.
abbrev pub OneSessionText : Type 0
OneSessionText = (program script written again : List ℕ) → IsDebugged Done program script written → IsDebugged Done program script again → written ≡ again

-- The line of each solid at which a session may stand, which `show` writes there, reads back as its process. A box in a condition belongs
-- to an allocator, so one is given.
abbrev pub ShownReadsBack : Type 0
ShownReadsBack = (alloc : Global) (program script : List ℕ) (s : IsSession program script) (t : ℕ) (S : Region) → IsAt (course (chosen First) session_size s.solid) t S
    → let of = s.of in IsLineOf of.names (region_process S) (line_of (as_level S))
