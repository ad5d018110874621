use Rattle.std.proofs.Common.{◌++◌, ◌∷◌, ℕ, List, Some, sym, ap, ◌∙◌}
use Rattle.std.specs.Prelude.{Option, None, IfSome, MatchOption}
use Rattle.std.proofs.lemmas.Slice.Eq.{strip_prefix_is, strip_suffix_is}
use Rattle.std.proofs.lemmas.Bool.Decides.{Decides-eqb}
use denote.Ref.{Bor}
use Rattle.lmn_verify_listing.proofs.line.inside_line.Goals as goal

from_suffix : (r : Option (Bor (List ℕ))) (N : Type 0) (P Q : Bor (List ℕ) → Type 0) → MatchOption r N P → ((x : Bor (List ℕ)) → P x → Q x) → IfSome r Q
from_suffix None N P Q h f = tt
from_suffix (Some x) N P Q h f = f x h

pub returns-in-Some-clause-some : goal.returns-in-Some-clause-some
returns-in-Some-clause-some c =
    let front = strip_prefix_is Decides-eqb c.args.line.now c.as_slice.result.now (Some c.in-Some.behind) c.in-Some.ensures.cases in
    from_suffix c.strip_suffix.result _ _ _ (strip_suffix_is Decides-eqb c.in-Some.behind.now c.as_slice-in-Some.result.now c.strip_suffix.result c.strip_suffix.ensures.cases) (λ x e.
    ap (λ (q : List ℕ). 32 ∷ 32 ∷ (x.now ++ q)) (sym c.as_slice-in-Some.ensures) ∙ ap (λ (q : List ℕ). 32 ∷ 32 ∷ q) (sym e) ∙ ap (λ (q : List ℕ). q ++ c.in-Some.behind.now) (sym c.as_slice.ensures) ∙ sym front)
