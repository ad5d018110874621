use mathlib.Core.Bool.{beq}
use Rattle.std.proofs.Common.{◌≡◌, Bool, true, false, not, refl, sym, subst, ◌∙◌}
use Rattle.lmn_store_web_preorder.specs.Indexed.{IsNested}
use Rattle.lmn_store_web_preorder.specs.Nests.{Nest}
use Rattle.lmn_store_web.proofs.NestLemmas.{awake_same}
use Rattle.lmn_store_web.proofs.indexing.wake.Goals as goal

alike : (a b : Bool) → not (beq a b) ≡ false → a ≡ b
alike true true e = refl
alike true false e = absurd (cc)
alike false true e = absurd (cc)
alike false false e = refl

pub returns-else-was-is : goal.returns-else-was-is
returns-else-was-is c n held low was = subst (λ (m : Nest). IsNested c.args.index.now m) (sym (awake_same c.args.key c.args.is n (was ∙ alike c.args.was c.args.is c.if-was-is.false))) held
