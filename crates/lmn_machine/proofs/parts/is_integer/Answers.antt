use Rattle.std.proofs.Common.{◌≡◌, Some, None, refl, sym, ◌∙◌}
use Rattle.lmn_machine.proofs.parts.is_integer.Goals as goal

pub returns-in-Some : goal.returns-in-Some
returns-in-Some g c = (λ t. (_, sym c.integer_of.ensures ∙ c.in-Some.is), λ z. refl)

pub returns-in-None : goal.returns-in-None
returns-in-None g c = (λ t. absurd (cc), λ z. (let e = sym c.in-None.is ∙ (c.integer_of.ensures ∙ z.1) in absurd (cc)))
