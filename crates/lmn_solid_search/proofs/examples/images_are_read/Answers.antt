use Rattle.std.proofs.Common.{◌≡◌, ◌∙◌, refl, sym, ap, arith, slice_index_or}
use Rattle.lmn_solid_search.proofs.examples.images_are_read.Goals as goal

pub returns-clause-atom : goal.returns-clause-atom
returns-clause-atom c = λ found e. ap (λ xs. slice_index_or xs 1 0) e

pub returns-clause-home : goal.returns-clause-home
returns-clause-home c = λ found. refl

pub returns-clause-membrane : goal.returns-clause-membrane
returns-clause-membrane c = λ found e. ap (λ xs. slice_index_or xs 0 0) e

pub returns-clause-other : goal.returns-clause-other
returns-clause-other c = λ found e z. (let same : 5 ≡ 8 = sym (ap (λ xs. slice_index_or xs 0 0) e) ∙ z in absurd (omega (arith, same)))
