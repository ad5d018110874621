use Rattle.std.proofs.Common.{◌++◌, ℕ, List, Some, ap, ◌∙◌}
use Rattle.std.proofs.lemmas.Slice.Eq.{strip_prefix_is}
use Rattle.std.proofs.lemmas.Bool.Decides.{Decides-eqb}
use Rattle.lmn_base.proofs.Lists.{tail_is}
use Rattle.lmn_verify_listing.proofs.OperandLemmas.{functor_is_text}
use Rattle.lmn_verify_listing.proofs.line.take_functor.Goals as goal

pub returns-in-None-2-clause-only : goal.returns-in-None-2-clause-only
returns-in-None-2-clause-only c = λ o ns h short e.
    let front = strip_prefix_is Decides-eqb c.args.text.now c.as_slice.result.now (Some c.in-Some.behind) c.in-Some.ensures.cases in
    let none = rw c.in-None-2.is at c.in_ok-functor-in-Some.ensures.none in
    none (functor_is_text o ns c.in-Some.behind.now h short (tail_is (e ∙ front ∙ ap (λ (q : List ℕ). q ++ c.in-Some.behind.now) c.as_slice.ensures)))
