use Rattle.std.proofs.Common.{◌≡◌, None, Some, MatchResult, subst}
use Rattle.lmn_store_heap.specs.Heap.{alter}
use Rattle.lmn_web_cells.specs.CellIds.{cell_id}
use Rattle.lmn_web.specs.Webs.{web_by, new_cell}
use Rattle.lmn_web.specs.declared.kind.CellKind.{CellKind}
use Rattle.lmn_web.proofs.web.Web.make.Goals as goal

pub returns : goal.returns
returns c =
    let w = web_by c.args.self.now in let v = web_by c.make_by.new.self in
    subst (λ (k : CellKind). MatchResult c.make_by.result (λ a. (w (cell_id a) ≡ None) × (v ≡ alter w (cell_id a) (λ _. Some (new_cell c.args.label c.args.arity k)))) (λ _. v ≡ w)) c.number_of.ensures.kind c.make_by.ensures
