use Rattle.std.proofs.Common.{◌≡◌, ◌++◌, ◌∷◌, [], ℕ, List, Some, sym, ap, ◌∙◌}
use Rattle.std.proofs.lemmas.Slice.Eq.{strip_prefix_is, strip_suffix_is}
use Rattle.std.proofs.lemmas.Bool.Decides.{Decides-eqb}
use Rattle.lmn_instr_reading.proofs.reading.unquoted.Goals as goal
use Rattle.lmn_base.proofs.Lists.{weaker as some_weaker}

pub returns-in-Some-strip_suffix-clause-some : goal.returns-in-Some-strip_suffix-clause-some
returns-in-Some-strip_suffix-clause-some c =
    let front = strip_prefix_is Decides-eqb c.args.text.now c.as_slice.result.now (Some c.in-Some.behind) c.in-Some.ensures.cases in
    let end = strip_suffix_is Decides-eqb c.in-Some.behind.now c.as_slice-in-Some.result.now (Some c.in-Some-strip_suffix.inside) c.in-Some-strip_suffix.ensures.cases in
    let whole : 39 ∷ (c.in-Some-strip_suffix.inside.now ++ 39 ∷ []) ≡ c.args.text.now =
    ap (λ (q : List ℕ). 39 ∷ (c.in-Some-strip_suffix.inside.now ++ q)) (sym c.as_slice-in-Some.ensures) ∙ ap (λ (q : List ℕ). 39 ∷ q) (sym end) ∙ ap (λ (q : List ℕ). q ++ c.in-Some.behind.now) (sym c.as_slice.ensures) ∙ sym front in
    some_weaker c.undoubled.result _ _ (λ name h. (ap (λ (q : List ℕ). 39 ∷ (q ++ 39 ∷ [])) h.0 ∙ whole, h.1)) c.undoubled.ensures.some
