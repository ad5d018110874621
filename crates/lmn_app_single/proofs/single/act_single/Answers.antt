use Rattle.std.proofs.Common.{refl, sym, true≢false}
use Rattle.lmn_app_single.specs.Singles.{no_form, no_memory}
use Rattle.lmn_app_single.proofs.single.act_single.Goals as goal

pub returns-in-Ok-Some : goal.returns-in-Ok-Some
returns-in-Ok-Some g c = c.perform.ensures c.args.words.now (rw c.in-Ok-Some.field-0-is at c.in-Ok-Some.ensures.asks)

pub returns-in-Ok-None : goal.returns-in-Ok-None
returns-in-Ok-None g c = let form = rw c.in-Ok-None.field-0-is at c.in-Ok-None.ensures.form in no_form (λ asked. true≢false (sym (form.1 asked))) refl refl refl

pub returns-in-Err : goal.returns-in-Err
returns-in-Err g c = no_memory c.in-Err.ensures.memory refl refl refl
