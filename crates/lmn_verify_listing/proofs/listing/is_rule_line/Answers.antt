use Rattle.std.proofs.Common.{◌++◌, ◌∷◌, [], ℕ, List, Some, sym, ap, ◌∙◌}
use Rattle.std.proofs.lemmas.Slice.Eq.{strip_prefix_is, strip_suffix_is}
use Rattle.std.proofs.lemmas.Bool.Decides.{Decides-eqb}
use Rattle.lmn_verify_listing.proofs.listing.is_rule_line.Goals as goal

pub returns-in-Some-strip_suffix-clause-yes : goal.returns-in-Some-strip_suffix-clause-yes
returns-in-Some-strip_suffix-clause-yes c = λ t.
    let front = strip_prefix_is Decides-eqb c.args.line.now c.as_slice.result.now (Some c.in-Some.behind) c.in-Some.ensures.cases in
    let end = strip_suffix_is Decides-eqb c.in-Some.behind.now c.as_slice-in-Some.result.now (Some c.in-Some-strip_suffix.text) c.in-Some-strip_suffix.ensures.cases in
    ap (λ (q : List ℕ). 114 ∷ 117 ∷ 108 ∷ 101 ∷ 32 ∷ (q ++ 10 ∷ [])) (c.is_decimal.ensures.yes t)
    ∙ ap (λ (q : List ℕ). 114 ∷ 117 ∷ 108 ∷ 101 ∷ 32 ∷ (c.in-Some-strip_suffix.text.now ++ q)) (sym c.as_slice-in-Some.ensures)
    ∙ ap (λ (q : List ℕ). 114 ∷ 117 ∷ 108 ∷ 101 ∷ 32 ∷ q) (sym end)
    ∙ ap (λ (q : List ℕ). q ++ c.in-Some.behind.now) (sym c.as_slice.ensures)
    ∙ sym front
