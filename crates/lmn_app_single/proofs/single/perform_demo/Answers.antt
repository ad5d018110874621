use Rattle.std.proofs.Common.{◌∙◌, length, ◌≤◌, Some, arith, subst, sym}
use Rattle.lmn_app_single.specs.Demos.{demo_text}
use Rattle.lmn_app_single.specs.Texts.{text_bytes}
use Rattle.lmn_app_single.proofs.OutcomeLemmas.{ended_told, memory_ended}
use Rattle.lmn_app_single.proofs.TaskLemmas.{demo_told}
use Rattle.lmn_app_single.proofs.single.perform_demo.Goals as goal

pub perform_on-requires-clause-short : goal.perform_on-requires-clause-short
perform_on-requires-clause-short g c =
    subst (λ text. length text ≤ text_bytes) (sym c.as_slice.ensures.value) (demo_told c.args.n _ c.requires.few c.in-Ok.ensures).0

pub perform_on-requires-clause-range : goal.perform_on-requires-clause-range
perform_on-requires-clause-range g c = (omega arith, omega arith)

pub returns-in-Ok : goal.returns-in-Ok
returns-in-Ok g c = ended_told (Some (Some (demo_text c.args.n))) c.as_slice.result.now (demo_told c.args.n _ c.requires.few (c.as_slice.ensures.value ∙ c.in-Ok.ensures)).1 _ _ _ _ _ _ 0 0 (c.perform_on.ensures 0 0)

pub returns-in-Err : goal.returns-in-Err
returns-in-Err g c = memory_ended _ _ _ _ 0 0
