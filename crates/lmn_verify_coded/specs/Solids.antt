-- Runs of codes, told by solids.
use Rattle.std.specs.Prelude.{ℕ, ◌≡◌, ◌<◌, ◌≤◌, List}
use Rattle.lmn_base.specs.declared.solid.Solid.{Solid}
use Rattle.lmn_instr_code.specs.declared.instr.Code.{Code}
use Rattle.lmn_reduction.specs.Chains.{Chain}
use Rattle.lmn_app_runs.specs.declared.stop.Stop.{Stop}
use Rattle.lmn_app_runs.specs.declared.stop.Stop.TheVariants as stop
use Rattle.lmn_verify_solids.specs.Turns.{Choice, CodeNext, NoneSucceeds, SomeSucceeds}

-- Why a run of codes stops at a solid after n commits: no code succeeds; the budget is done, and some code succeeds; what is chosen would
-- leave more items than the size; memory is wanting for what is chosen, which would not.
abbrev pub StopsAt : List Code → (budget size n : ℕ) → Solid → Stop → Type 0
StopsAt codes budget size n S stop.Irreducible = (n ≤ budget) × NoneSucceeds codes S
StopsAt codes budget size n S stop.Budget = (n ≡ budget) × SomeSucceeds codes S
StopsAt codes budget size n S stop.Full = (n < budget) × (c : Choice codes S) × (size < c.left)
StopsAt codes budget size n S stop.NoMemory = (n < budget) × (c : Choice codes S) × (c.left ≤ size)

-- A run of codes from a solid on stopped so, after n commits, each of which is what the codes choose.
pub record RunStopped (codes : List Code) (budget size : ℕ) (first : Solid) (n : ℕ) (why : Stop) : Type 0 where
  pub last : Solid
  pub run : Chain (CodeNext codes size) first n last
  pub stops : StopsAt codes budget size n last why
