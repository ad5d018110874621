-- Each region has one folded line.
use Rattle.std.proofs.Common.{◌≡◌, ℕ, ◌≤◌, ◌⊎◌, List, inl, inr, refl, sym, ap, ◌∙◌, subst, arith}
use Rattle.lmn_congruence.specs.Process.{Process, Closed, Fresh, Local, occurrences}
use Rattle.lmn_congruence.specs.Regions.{Region, region_process}
use Rattle.lmn_print_folded.specs.Folding.{Folds}
use Rattle.lmn_print_folded.specs.Terms.{Folded, folded_links, renamed_folded}
use Rattle.lmn_print_folded.specs.Lines.{IsFoldedLine, IsNumberedForm}
use Rattle.lmn_print_folded.specs.Words.{line_of_folded}
use Rattle.lmn_print_folded.specs.Laws.{SomeFoldedLine, OneFoldedLine}
use Rattle.lmn_print_folded.proofs.OneFolded.{FewIn, one_folded}
use Rattle.lmn_print_folded.proofs.SomeFolded.{some_folded}
use Rattle.lmn_print_folded.proofs.Numbering.{folded_agrees, some_numbered, one_numbered}
use Rattle.lmn_print_folded.proofs.NumberedForms.{form_with, form_without, extended, extended_one, extended_agrees}

-- in a closed process no link stands in more than two places
pub few_in : (P : Process) → Closed P → FewIn P
few_in P closed x = go (closed x)
  where
    go : Fresh x P ⊎ Local x P → occurrences x P ≤ 2
    go (inl e) = omega (arith, e)
    go (inr e) = omega (arith, e)

-- the line of a folded form, by its numbers
pub folded_line : {S : Region} {given numbered : Folded} {line : List ℕ} → Folds (λ x. x) S given → IsNumberedForm given numbered → line ≡ line_of_folded numbered → IsFoldedLine S line
folded_line {S} {given} {numbered} form n is =
    let xs = folded_links given in
    let to = extended n.to xs in
    let same : renamed_folded to given ≡ numbered = folded_agrees to n.to given (extended_agrees n.to xs) ∙ sym n.is in
    let P : Folded → Type 0 = Folds to S in record {
      to = to;
      one_to_one = extended_one n.to xs n.one_to_one;
      form = numbered;
      folds = subst P same (form_with to form);
      count = n.count;
      by_first_occurrence = n.by_first_occurrence;
      is = is;
    }

-- and the form with the links of the region, whose links are numbered
pub numbers_of : {S : Region} {line : List ℕ} (h : IsFoldedLine S line) → (given : Folded) × Folds (λ x. x) S given × IsNumberedForm given h.form
numbers_of h =
    let given = form_without h.to h.folds in (
      given.0,
      given.1,
      record { to = h.to; one_to_one = λ x y a b. h.one_to_one x y; is = given.2; count = h.count; by_first_occurrence = h.by_first_occurrence },
    )

-- each closed region has a folded line
pub some_folded_line : SomeFoldedLine
some_folded_line S closed =
    let given = some_folded S (few_in (region_process S) closed) in
    let numbered = some_numbered given.0 in
    (line_of_folded numbered.0, folded_line given.1 numbered.1 refl)

-- and one alone
pub one_folded_line : OneFoldedLine
one_folded_line S line other closed h k =
    let u = numbers_of h in
    let v = numbers_of k in
    let same = one_folded (few_in (region_process S) closed) u.1 v.1 in
    let P : Folded → Type 0 = λ f. IsNumberedForm f h.form in
    h.is ∙ ap line_of_folded (one_numbered v.0 h.form k.form (subst P same u.2) v.2) ∙ sym k.is
