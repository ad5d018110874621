use Rattle.std.proofs.Common.{◌≡◌, ◌∙◌}
use Rattle.lmn_store_slab.specs.Lines.{no_ends, node, ends_of_list}
use Rattle.lmn_store_slab.proofs.TableLemmas.{list_within, list_is, from_first}
use Rattle.lmn_store_slab.proofs.table.Table.first.Goals as goal
use Rattle.lmn_base.proofs.Lists.{read_as}

pub returns : goal.returns
returns c =
    let ns = c.self.inside.nodes.items in
    let es = c.self.inside.ends.items in
    let lt = list_within ns es c.args.self.now c.self.view_is c.args.list c.requires in
    let is = list_is ns es c.args.self.now c.self.view_is c.args.list c.requires in
    let read : c.index.result.now ≡ ends_of_list es c.args.list = c.index.ensures ∙ read_as es c.args.list c.index.result.now no_ends lt in
    rw (is, read) (from_first (node ns) _ _ _ _ (c.self.invariant.line c.args.list lt).runs)
