-- Folded processes that a text can spell.
use Rattle.std.specs.Prelude.{⊤}
use Rattle.std.specs.List.{AllByRecursion}
use Rattle.lmn_flatten_plain.specs.Spelled.{LabelSpelled, RulesSpelled}
use Rattle.lmn_print_folded.specs.Terms.{FoldedTerm, link, labelled, FoldedTerms, no_term, term_and, FoldedItem, Folded, folded, FoldedMembranes, no_membrane, membrane_and}
use Rattle.lmn_congruence.specs.Translation.{rules}

abbrev mutual
  pub TermSpelled : FoldedTerm → Type 0
  TermSpelled (link x) = ⊤
  TermSpelled (labelled l ts) = LabelSpelled l × TermsSpelled ts

  pub TermsSpelled : FoldedTerms → Type 0
  TermsSpelled no_term = ⊤
  TermsSpelled (term_and t ts) = TermSpelled t × TermsSpelled ts

abbrev pub ItemSpelled : FoldedItem → Type 0
ItemSpelled i = LabelSpelled i.label × TermsSpelled i.arguments

abbrev mutual
  pub FoldedSpelled : Folded → Type 0
  FoldedSpelled (folded items membranes rs) = AllByRecursion ItemSpelled items × MembranesSpelled membranes × RulesSpelled (rules rs)

  pub MembranesSpelled : FoldedMembranes → Type 0
  MembranesSpelled no_membrane = ⊤
  MembranesSpelled (membrane_and f fs) = FoldedSpelled f × MembranesSpelled fs
