use Rattle.std.proofs.Common.{◌≡◌, ◌∙◌, ◌++◌, false, refl, sym, ap}
use Rattle.std.specs.Prelude.{codes}
use Rattle.lmn_store_heap.specs.Heap.{atoms_in, mems_in, rules_in}
use Rattle.lmn_io.proofs.WritingLemmas.{writes_as}
use Rattle.lmn_print_plain.specs.Rows.{any_behind, between_if}
use Rattle.lmn_print_plain.specs.Stored.{atom_text, atom_texts}
use Rattle.lmn_print_plain.specs.Walks.{texts_in, tree_text}
use Rattle.lmn_print_plain.specs.Writing.{IsLineWith, IsMarkedLineOf}
use Rattle.lmn_print_plain.proofs.RowLemmas.{any_map}
use Rattle.lmn_print_plain.proofs.ToldLemmas.{told_line}
use Rattle.lmn_print_plain.proofs.line.write_line.Goals as goal

pub write_line_with-requires-clause-texts : goal.write_line_with-requires-clause-texts
write_line_with-requires-clause-texts g c = (atom_texts c.args.names.now (g.S.LinkStore.heap c.args.store.now), λ m is. refl)

pub returns : goal.returns
returns g c =
    let names = c.args.names.now in
    let table = c.args.plain.now.rules in
    let h = g.S.LinkStore.heap c.args.store.now in
    writes_as (IsLineWith (λ m texts. texts ≡ atom_texts names h m) names table h) (IsMarkedLineOf names table h) _ _ _ _ _
    (λ text is.
    let of = is.1 in (
      of.forest,
      of.tree,
      atom_texts names h,
      (λ m i. refl),
      is.3 ∙ told_line names table h c.requires.sound is.0 of is.2
          ∙ ap (λ z. tree_text (texts_in names table h) of.forest ++ (between_if (codes ".") (any_behind (any_behind z (mems_in h h.root)) (rules_in h h.root)) ++ codes "\n"))
          (sym (any_map (atom_text names h) false (atoms_in h h.root))),
    ))
    c.write_line_with.ensures
