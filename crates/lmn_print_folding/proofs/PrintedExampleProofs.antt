-- What holds of the examples of printed items.
use Rattle.std.proofs.Common.{◌≡◌, ℕ, List, refl, sym, ap, ◌∙◌}
use Rattle.lmn_print_folded.specs.Terms.{FoldedTerms, labelled, term_and}
use Rattle.lmn_congruence.specs.Rules as tree
use Rattle.lmn_store_heap.specs.Examples.{functor_a, functor_b}
use Rattle.lmn_print_folding.specs.Marks.{term_at}
use Rattle.lmn_print_folding.specs.Printed.{as_link, as_term, PrintsAll, none, more}
use Rattle.lmn_print_folding.specs.PrintedExamples.{two_items, TermIsPrinted, LinkIsPrinted, NoTermIsPrinted}

-- in the example the term is printed
pub term_is_printed : TermIsPrinted
term_is_printed names name = record { functor = functor_a; is = refl; label = refl; arguments = more (as_term 1 functor_b refl refl none) none }

-- the argument of the example is printed as a link
pub link_is_printed : LinkIsPrinted
link_is_printed names name = record { functor = functor_a; is = refl; label = refl; arguments = more (as_link refl) none }

no_term : (names : List tree.Name) (name : ℕ → ℕ → ℕ) (l : tree.Label) (ts rest : FoldedTerms) (i n : ℕ) → i ≡ 0 → PrintsAll names two_items name 0 i n (term_and (labelled l ts) rest) → ⊥
no_term names name l ts rest i _ e (more (as_term c f is g all) more_of) = absurd (cc (sym (ap (term_at two_items 0) e) ∙ is))

-- where both are items no term is printed
pub no_term_is_printed : NoTermIsPrinted
no_term_is_printed names name l ts p = no_term names name l ts _ 0 _ refl p.arguments
