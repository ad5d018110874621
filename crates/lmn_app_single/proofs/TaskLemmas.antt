-- The tasks of commands, and their texts.
use Rattle.std.proofs.Common.{◌≡◌, ℕ, List, Some, sym, ap, subst, arith, length, ◌≤◌}
use Rattle.lmn_app_words.specs.Forms.{IsInRanges, Run, to_run}
use Rattle.lmn_app_words.specs.declared.command.RunSettings.{RunSettings}
use Rattle.lmn_app_single.specs.declared.task.Task.TheVariants as task
use Rattle.lmn_app_single.specs.Demos.{demo_text}
use Rattle.lmn_app_single.specs.Requests.{IsInRange, settings_of}
use Rattle.lmn_app_single.specs.Texts.{text_bytes}
use Rattle.lmn_app_single.specs.Writing.{IsTextOf}
use Rattle.lmn_app_single.proofs.DemoLemmas.{demo_short}

-- the numbers of a run are those of its words
pub run_in_range : (run : Run) (s : RunSettings) → s ≡ settings_of run → IsInRanges (to_run run) → IsInRange (task.Run s)
run_in_range run s is h = subst (λ (t : RunSettings). IsInRange (task.Run t)) (sym is) (omega (arith, h.2), h.0)

-- the text of `demo` is the one that is told
pub demo_told : (n : ℕ) (text : List ℕ) → n ≤ 100000 → text ≡ demo_text n → IsTextOf (Some (Some (demo_text n))) text
demo_told n text few is = (subst (λ t. length t ≤ text_bytes) (sym is) (demo_short n few), ap Some (sym is))
