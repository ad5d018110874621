use Rattle.std.proofs.Common.{refl, inl}
use Rattle.lmn_base.specs.declared.guard.Arith.TheVariants.{Sub}
use Rattle.lmn_parser.specs.Trees.{one_product, plus, one_factor, is_integer, is_equal, last_condition, no_clauses, last_clause, more_clauses, named_rule, unnamed_rule, is_process, is_rule, all_taken, some_kept, no_guard, guarded, no_list, some_list, last_item, more_items, is_atom_item, is_membrane_item, is_context_item, is_closed, is_bracketed, is_plus_link, is_group, is_equation, in_braces, with_name, with_integer, no_parentheses, no_arguments, last_term, is_link, is_atom, is_list, open_list}
use Rattle.lmn_parser.proofs.laws.tree_examples.Goals as goal

pub returns-clause-kept_head : goal.returns-clause-kept_head
returns-clause-kept_head c = (
  14,
  more_clauses (unnamed_rule (is_rule refl
      (some_kept (some_list (last_item (is_atom_item (with_name (inl refl) no_parentheses)))) refl (some_list (last_item (is_atom_item (with_name (inl refl) no_parentheses)))))
      refl
      (guarded (last_condition (is_equal refl refl (plus Sub (plus Sub (one_product (one_factor (is_integer refl))) refl (one_factor (is_integer refl))) refl (one_factor (is_integer refl)))))
      refl (some_list (last_item (is_atom_item (with_name (inl refl) no_parentheses))))))) refl no_clauses,
  refl,
  refl,
)

pub returns-clause-named_rule : goal.returns-clause-named_rule
returns-clause-named_rule c = (
  11,
  more_clauses (is_process (last_item (is_atom_item (with_name (inl refl) no_parentheses)))) refl
      (last_clause (named_rule (inl refl) refl (is_rule refl (all_taken no_list) refl
      (no_guard (some_list (more_items (is_atom_item (with_name (inl refl) (no_arguments refl refl))) refl (last_item (is_plus_link refl refl)))))))),
  refl,
  refl,
)

pub returns-clause-nested_parts : goal.returns-clause-nested_parts
returns-clause-nested_parts c = (
  16,
  more_clauses (is_process (last_item (is_group refl (is_process (last_item (is_atom_item (with_name (inl refl) no_parentheses)))) refl))) refl
      (last_clause (is_process (more_items
      (is_membrane_item (in_braces refl (more_clauses (is_process (last_item (is_atom_item (with_name (inl refl) no_parentheses)))) refl no_clauses) refl)) refl
      (last_item (is_equation (is_link refl) refl (is_list (open_list refl (last_term (is_atom (with_integer refl no_parentheses))) refl (is_link refl) refl))))))),
  refl,
  refl,
)

pub returns-clause-contexts : goal.returns-clause-contexts
returns-clause-contexts c = (
  14,
  last_clause (unnamed_rule (is_rule refl
      (all_taken (some_list (more_items (is_membrane_item (in_braces refl (last_clause (is_process (last_item (is_closed refl refl refl)))) refl)) refl
      (more_items (is_bracketed refl refl refl refl) refl (last_item (is_context_item refl))))))
      refl
      (no_guard (some_list (last_item (is_atom_item (with_name (inl refl) no_parentheses))))))),
  refl,
  refl,
)
