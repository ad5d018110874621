use Rattle.std.proofs.Common.{◌≡◌, ap, subst, ◌∙◌}
use Rattle.std.specs.Option.{option_map}
use Rattle.lmn_base.specs.Lists.{In}
use Rattle.lmn_store_heap.specs.Lists.{from}
use Rattle.lmn_web_cells.specs.CellIds.{cell_id}
use Rattle.lmn_web.specs.declared.kind.CellKind.TheVariants.{Atom}
use Rattle.lmn_web.specs.Webs.{web_by, cells_in, with_label, label_class, with_class}
use Rattle.lmn_web.proofs.ListedLemmas.{from_in, if_some}
use Rattle.lmn_web.proofs.SeekLemmas.{label_within}
use Rattle.lmn_web.proofs.web.Web.first_with.Goals as goal

pub seek-requires : goal.seek-requires
seek-requires c =
    let w = web_by c.args.self.now in let m = cell_id c.args.home in let label = c.args.label in let n = c.args.arity in let cells = cells_in w m Atom in
    let all = with_class w (label_class label) n cells in let first = option_map cell_id c.first_of_class.result in
    if_some cell_id c.first_of_class.result (λ q. In q all) (λ q e. from_in first all c.first_of_class.ensures.list q e)

pub returns-clause-list : goal.returns-clause-list
returns-clause-list c =
    let w = web_by c.args.self.now in let m = cell_id c.args.home in let label = c.args.label in let n = c.args.arity in let cells = cells_in w m Atom in
    let all = with_class w (label_class label) n cells in let first = option_map cell_id c.first_of_class.result in
    let s = option_map cell_id c.seek.result in
    subst (λ us. from s us ≡ us) (label_within w label n cells) (c.seek.ensures.list ∙ ap (with_label w label n) c.first_of_class.ensures.list)
