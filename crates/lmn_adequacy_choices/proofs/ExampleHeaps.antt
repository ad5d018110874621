-- The small heap of the examples.
use Rattle.std.proofs.Common.{ℕ, [], refl, sym, subst, inl, inr, arith}
use Rattle.lmn_store_heap.specs.Examples.{across}
use Rattle.lmn_store_heap.specs.Heap.{rules_by, rules_in}
use Rattle.lmn_store_heap.specs.Sound.{IsTree}
use Rattle.lmn_adequacy_choices.specs.Examples.{inner, AcrossIsReadWith, AcrossHasTwoPaths}
use Rattle.lmn_adequacy_choices.specs.Turns.{tree_over}
use Rattle.lmn_store_heap.proofs.ExampleProofs.{mem_cases}
use Rattle.lmn_base.specs.Lists.{In}
use Rattle.lmn_base.proofs.Lists.{none_is_not}

across_tree : IsTree across (tree_over across inner)
across_tree = record {
  forms = ([], refl, ([], refl, refl, refl), refl);
  once = (((λ e. absurd (omega (arith, e))), tt), (tt, tt));
  all = λ m i. elim (mem_cases m) [
    | inl e ↦ inl (sym e)
    | inr w ↦ elim w [ inl e ↦ inr (inl (sym e)) | inr e ↦ absurd (none_is_not (across.mems m) e i) ]
  ];
}

no_rule : (m k : ℕ) → In k (rules_in across m) → ⊥
no_rule m k i = elim (mem_cases m) [
  | inl e ↦ subst (λ z. In k (rules_in across z)) e i
  | inr w ↦ elim w [ inl e ↦ subst (λ z. In k (rules_in across z)) e i | inr e ↦ subst (λ z. In k (rules_by z)) e i ]
]

-- the heap of the example is read with its membrane
pub across_is_read_with : AcrossIsReadWith
across_is_read_with r read = (
  record { read = read; tree = across_tree; rules = record { known = λ m k i. absurd (no_rule m k i); read = λ k rule e. absurd (cc) } },
  (λ w. let e = w.tree.forms.2 in cc),
)

-- and has two paths
pub across_has_two_paths : AcrossHasTwoPaths
across_has_two_paths r = (refl, refl)
