use Rattle.std.proofs.Common.{◌≡◌, Some, refl, sym, ap, subst, if◌then◌else◌}
use Rattle.lmn_base.proofs.Numbers.{equal_itself}
use Rattle.lmn_solid_search.specs.Binding.{bound_unless}
use Rattle.lmn_solid_search.proofs.examples.equals_binds.Goals as goal

pub returns-clause-bound : goal.returns-clause-bound
returns-clause-bound c = λ h s x z pos e. subst (λ o. (bound_unless s o x.name (Some z)).bound_to x.name ≡ Some z) (sym e) (ap (λ b. if b then Some z else s.bound_to x.name) (equal_itself x.name))

pub returns-clause-part : goal.returns-clause-part
returns-clause-part c = λ h s x z pos p e. subst (λ o. bound_unless s o x.name (Some z) ≡ s) (sym e) refl
