-- Each answer but `Failed` is the one that the trace gives.
use Rattle.std.proofs.Common.{ℕ, ◌≡◌, List, Option, refl, ap}
use Rattle.lmn_store_heap.specs.Heap.{Heap}
use Rattle.lmn_adequacy.specs.Runs.{End, irreducible, budget_done, full}
use Rattle.lmn_app_drive.specs.declared.driving.RunEnd.{RunEnd}
use Rattle.lmn_app_drive.specs.declared.driving.RunEnd.TheVariants.{Irreducible, Budget, Full, NoMemory, Failed}
use Rattle.lmn_app_drive.specs.Driving.{RunInput, Ran, EndsSo, GoesOn, RunEnded}
use Rattle.lmn_app_drive.specs.Laws.{AnswersAreExact, answer_of}
use Rattle.lmn_app_drive.proofs.Goings.{ends_once}

module _ (g : RunInput) (n : ℕ) (h : Heap) (r : Ran g n h) where
  abbrev Exact : RunEnd → Type 0
  Exact answer = ((e : End) → EndsSo r e → answer ≡ answer_of e) × (GoesOn r → answer ≡ NoMemory)

  -- an answer that names an end
  named : (e : End) → EndsSo r e → Exact (answer_of e)
  named e ends = ((λ d other. ap answer_of (ends_once g n h r e d ends other)), (λ on. absurd (on e ends)))

  exact : (answer : RunEnd) (old new : Option (List ℕ)) → RunEnded r answer old new → ¬ (answer ≡ Failed) → Exact answer
  exact Irreducible old new ended fine = named irreducible ended.0
  exact Budget old new ended fine = named budget_done ended.0
  exact Full old new ended fine = named full ended.0
  exact NoMemory old new ended fine = ((λ e ends. absurd (ended.0 e ends)), (λ on. refl))
  exact Failed old new ended fine = absurd (fine refl)

-- where the trace ends the answer names this end and no other
pub answers_are_exact : AnswersAreExact
answers_are_exact g n h r answer old new ended fine = exact g n h r answer old new ended fine
