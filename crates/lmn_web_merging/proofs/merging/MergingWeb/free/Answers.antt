use Rattle.std.proofs.Common.{List, Some, None, sym, ap, subst, ◌∙◌}
use Rattle.lmn_store_heap.specs.Heap.{alter}
use Rattle.lmn_web_cells.specs.Rows.{Row}
use Rattle.lmn_web_cells.specs.CellIds.{cell_id}
use Rattle.lmn_web.specs.declared.kind.CellKind.TheVariants.{Atom, Membrane}
use Rattle.lmn_web.specs.Webs.{web_by, IsLoose}
use Rattle.lmn_web_merging.specs.Keepers.{seen, merged_by}
use Rattle.lmn_web_merging.specs.Moves.{AreKept}
use Rattle.lmn_web.proofs.ListedLemmas.{kind_told}
use Rattle.lmn_web_merging.proofs.Single.{loose_there, loose_atom, loose_raw, freed_kept, seen_freed}
use Rattle.lmn_web_merging.proofs.merging.MergingWeb.free.Goals as goal

pub kind-requires : goal.kind-requires
kind-requires c =
    let w = web_by c.self.inside.web in let x = cell_id c.args.c in let a = c.self.invariant in let r = c.paired.ensures in
    let loose = subst (λ (z : List Row). IsLoose (merged_by z) x) (sym c.self.view_is) c.requires in
    (loose_there w r a x loose).0

pub free-requires : goal.free-requires
free-requires c =
    let w = web_by c.self.inside.web in let x = cell_id c.args.c in let a = c.self.invariant in let r = c.paired.ensures in
    let loose = subst (λ (z : List Row). IsLoose (merged_by z) x) (sym c.self.view_is) c.requires in
    let k = kind_told w x Atom (c.kind.ensures ∙ ap (λ z. Some z) c.in-Atom.is) in let alone = loose_atom w r a x loose k in
    loose_raw w r a x loose alone

pub free_membrane-requires-clause-membrane : goal.free_membrane-requires-clause-membrane
free_membrane-requires-clause-membrane c = kind_told (web_by c.self.inside.web) (cell_id c.args.c) Membrane (c.kind.ensures ∙ ap (λ z. Some z) c.in-Membrane.is)

pub free_membrane-requires-clause-loose : goal.free_membrane-requires-clause-loose
free_membrane-requires-clause-loose c = subst (λ (z : List Row). IsLoose (merged_by z) (cell_id c.args.c)) (sym c.self.view_is) c.requires

pub invariant_of-self : goal.invariant_of-self
invariant_of-self c =
    let w = web_by c.self.inside.web in let x = cell_id c.args.c in let a = c.self.invariant in let r = c.paired.ensures in
    let loose = subst (λ (z : List Row). IsLoose (merged_by z) x) (sym c.self.view_is) c.requires in
    let k = kind_told w x Atom (c.kind.ensures ∙ ap (λ z. Some z) c.in-Atom.is) in let alone = loose_atom w r a x loose k in
    subst AreKept (sym c.free.ensures) (freed_kept w r a x loose alone)

pub invariant_of-self-in-Membrane : goal.invariant_of-self-in-Membrane
invariant_of-self-in-Membrane c = c.free_membrane.ensures.kept

pub returns-in-Atom : goal.returns-in-Atom
returns-in-Atom c =
    let w = web_by c.self.inside.web in let x = cell_id c.args.c in let a = c.self.invariant in let r = c.paired.ensures in
    let loose = subst (λ (z : List Row). IsLoose (merged_by z) x) (sym c.self.view_is) c.requires in
    let k = kind_told w x Atom (c.kind.ensures ∙ ap (λ z. Some z) c.in-Atom.is) in let alone = loose_atom w r a x loose k in
    ap seen c.free.ensures ∙ seen_freed w r a x loose alone ∙ ap (λ (z : List Row). alter (merged_by z) x (λ _. None)) c.self.view_is

pub returns-in-Membrane : goal.returns-in-Membrane
returns-in-Membrane c = c.free_membrane.ensures.freed ∙ ap (λ (z : List Row). alter (merged_by z) (cell_id c.args.c) (λ _. None)) c.self.view_is
