use Rattle.std.proofs.Common.{ℕ, List, subst, sym, refl, ap}
use Rattle.std.specs.Prelude.{codes}
use Rattle.lmn_store_heap.specs.Heap.{top}
use Rattle.lmn_store_heap.specs.Sound.{Forest, IsTree}
use Rattle.lmn_store_heap.proofs.Heights.{mem_of_place}
use Rattle.lmn_io.specs.Gathering.{Adds, nothing_pending, output}
use Rattle.lmn_io.proofs.TakingLemmas.{adds_as, adds_more}
use Rattle.lmn_print_plain.specs.Rows.{between_if}
use Rattle.lmn_print_plain.specs.Walks.{AreTexts, texts_with, tree_text}
use Rattle.lmn_print_plain.specs.Writing.{has_items, line_with}
use Rattle.lmn_print_plain.proofs.line.write_line_with.Goals as goal
use Rattle.lmn_print_plain.proofs.line.write_line_with.Given as given

-- the items of the root and the end of the line were added
added : (g : given.Over) (c : goal.After-finish g) (f : Forest) → IsTree (g.S.LinkStore.heap c.args.store.now) f → (atoms : ℕ → List (List ℕ))
    → AreTexts (g.S.LinkStore.heap c.args.store.now) (g.W.AtomWriter.are_texts c.args.names.now (g.S.LinkStore.heap c.args.store.now)) atoms
    → Adds (line_with (texts_with atoms c.args.names.now c.args.plain.now.rules (g.S.LinkStore.heap c.args.store.now)) (g.S.LinkStore.heap c.args.store.now) f)
    (output nothing_pending (g.O.Sink.told c.args.sink.now) (g.O.Sink.faults c.args.sink.now)) (output c.add.new.self (g.O.Sink.told c.add.new.sink) (g.O.Sink.faults c.add.new.sink))
added g c f tree atoms are =
    let h = g.S.LinkStore.heap c.args.store.now in
    let names = c.args.names.now in
    let text = line_with (texts_with atoms names c.args.plain.now.rules h) h f in
    let any = has_items (atoms h.root) h in
    let at_root = are h.root (mem_of_place h h.root top ((c.requires.valid.sound.listed.root h.root).1 refl)) in
    subst (λ pending. Adds text (output pending (g.O.Sink.told c.args.sink.now) (g.O.Sink.faults c.args.sink.now)) (output c.add.new.self (g.O.Sink.told c.add.new.sink) (g.O.Sink.faults c.add.new.sink)))
    c.new-buffer.ensures
    (adds_more (tree_text (texts_with atoms names c.args.plain.now.rules h) f) _ _ _ _ (adds_as (ap (λ rules. tree_text (texts_with atoms names rules h) f) c.as_slice.ensures) (c.add_tree.ensures f tree atoms are))
    (adds_more (between_if (codes ".") any) (codes "\n") _ _ _ (adds_as (ap (between_if (codes ".")) (c.has_items.ensures names (atoms h.root) at_root)) c.add_between.ensures) c.add.ensures))

pub add_tree-requires-clause-tree : goal.add_tree-requires-clause-tree
add_tree-requires-clause-tree g c = c.requires.valid.tree

pub returns : goal.returns
returns g c =
    let written = c.finish.ensures _ _ _ (added g c c.requires.valid.tree.0 c.requires.valid.tree.1 c.requires.texts.0 c.requires.texts.1) in
    record {
      took = λ text is. (c.finish.ensures text _ _ (adds_as (sym is.4) (added g c is.0 is.1 is.2 is.3))).took text refl;
      prefix = λ text is. (c.finish.ensures text _ _ (adds_as (sym is.4) (added g c is.0 is.1 is.2 is.3))).prefix text refl;
      later = written.later;
      same = written.same;
      rose = written.rose;
    }
