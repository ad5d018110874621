-- That a program was fetched. Contracts of this crate's own functions alone cite this word.
use Rattle.std.specs.Prelude.{◌≡◌, List, Option, ℕ}
use Rattle.lmn_base.specs.declared.rule.Plain.{Plain}
use Rattle.lmn_congruence.specs.Rules.{Name}
use Rattle.lmn_guards.specs.declared.plan.GuardPlan.{GuardPlan}
use Rattle.lmn_app_words.specs.Forms.{Pair}
use Rattle.lmn_app_single.specs.Texts.{Accepts}
use Rattle.lmn_app_single.specs.Writing.{IsToldAnd, told_under}

-- of these texts the program of the command is accepted so
abbrev pub AcceptsTold : Pair → Option (List ℕ → Option (List ℕ)) → List Name → Plain → List GuardPlan → Type 0
AcceptsTold pair texts names plain plans = (program : List ℕ) × Accepts program names plain plans × IsToldAnd (told_under texts pair.file) (λ found. found ≡ program)
