use Rattle.std.proofs.Common.{◌≡◌, List, Some, None, MatchResult, sym, subst}
use Rattle.lmn_store_heap.specs.Heap.{alter}
use Rattle.lmn_web_cells.specs.Rows.{Row}
use Rattle.lmn_web_cells.specs.CellIds.{cell_id}
use Rattle.lmn_web.specs.declared.kind.CellKind.TheVariants.{Atom, Membrane}
use Rattle.lmn_web.specs.Webs.{WebCell, web_by, new_cell}
use Rattle.lmn_web_merging.specs.Keepers.{merged_by}
use Rattle.lmn_web_merging.proofs.Single.{made_atom, made_membrane}
use Rattle.lmn_web_merging.proofs.merging.MergingWeb.make.Goals as goal

pub invariant_of-self : goal.invariant_of-self
invariant_of-self c = (made_atom (web_by c.self.inside.web) c.paired.ensures c.self.invariant cell_id c.args.label c.args.arity c.make.result (web_by c.make.new.self) c.make.ensures).0

pub invariant_of-self-in-Membrane : goal.invariant_of-self-in-Membrane
invariant_of-self-in-Membrane c = (made_membrane (web_by c.self.inside.web) c.paired.ensures c.self.invariant cell_id c.args.label c.make-in-Membrane.result (web_by c.make-in-Membrane.new.self) c.make-in-Membrane.ensures).0

pub returns-in-Atom : goal.returns-in-Atom
returns-in-Atom c =
    subst (λ k. MatchResult c.make.result (λ x. (merged_by c.args.self.now (cell_id x) ≡ None) × (merged_by c.make.new.self ≡ alter (merged_by c.args.self.now) (cell_id x) (λ _. Some (new_cell c.args.label c.args.arity k)))) (λ _. merged_by c.make.new.self ≡ merged_by c.args.self.now)) (sym c.in-Atom.is)
    (subst (λ (z : List Row). MatchResult c.make.result (λ x. (merged_by z (cell_id x) ≡ None) × (merged_by c.make.new.self ≡ alter (merged_by z) (cell_id x) (λ _. Some (new_cell c.args.label c.args.arity Atom)))) (λ _. merged_by c.make.new.self ≡ merged_by z)) c.self.view_is
    (made_atom (web_by c.self.inside.web) c.paired.ensures c.self.invariant cell_id c.args.label c.args.arity c.make.result (web_by c.make.new.self) c.make.ensures).1)

pub returns-in-Membrane : goal.returns-in-Membrane
returns-in-Membrane c =
    let new : ◌≡◌ {A = WebCell} (new_cell c.args.label 0 Membrane) (new_cell c.args.label c.args.arity c.args.kind) = λ i. new_cell c.args.label (sym (c.requires.ports c.in-Membrane.is) i) (sym c.in-Membrane.is i) in
    subst (λ (q : WebCell). MatchResult c.make-in-Membrane.result (λ x. (merged_by c.args.self.now (cell_id x) ≡ None) × (merged_by c.make-in-Membrane.new.self ≡ alter (merged_by c.args.self.now) (cell_id x) (λ _. Some q))) (λ _. merged_by c.make-in-Membrane.new.self ≡ merged_by c.args.self.now)) new
    (subst (λ (z : List Row). MatchResult c.make-in-Membrane.result (λ x. (merged_by z (cell_id x) ≡ None) × (merged_by c.make-in-Membrane.new.self ≡ alter (merged_by z) (cell_id x) (λ _. Some (new_cell c.args.label 0 Membrane)))) (λ _. merged_by c.make-in-Membrane.new.self ≡ merged_by z)) c.self.view_is
    (made_membrane (web_by c.self.inside.web) c.paired.ensures c.self.invariant cell_id c.args.label c.make-in-Membrane.result (web_by c.make-in-Membrane.new.self) c.make-in-Membrane.ensures).1)
