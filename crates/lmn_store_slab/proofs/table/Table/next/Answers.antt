use Rattle.std.proofs.Common.{◌≡◌, ◌∙◌, arith}
use Rattle.lmn_store_slab.specs.Lines.{free_node, node, ends_of_list, numbers_of_list}
use Rattle.lmn_store_slab.proofs.TableLemmas.{list_within, list_is, number_within, from_next}
use Rattle.lmn_store_slab.proofs.table.Table.next.Goals as goal
use Rattle.lmn_base.specs.Lists.{In}
use Rattle.lmn_base.proofs.Lists.{read_as}

pub index-requires : goal.index-requires
index-requires c =
    let w = number_within c.self.inside.nodes.items c.self.inside.ends.items c.args.self.now c.self.view_is c.args.list c.requires.list c.args.x c.self.invariant c.requires.there in
    let k = c.self.inside.nodes.ok.0 in omega arith

pub returns : goal.returns
returns c =
    let ns = c.self.inside.nodes.items in
    let es = c.self.inside.ends.items in
    let lt = list_within ns es c.args.self.now c.self.view_is c.args.list c.requires.list in
    let is = list_is ns es c.args.self.now c.self.view_is c.args.list c.requires.list in
    let w = number_within ns es c.args.self.now c.self.view_is c.args.list c.requires.list c.args.x c.self.invariant c.requires.there in
    let read : c.index.result.now ≡ node ns c.args.x = c.index.ensures ∙ read_as ns c.args.x c.index.result.now free_node w in
    let line = c.self.invariant.line c.args.list lt in
    let there : In c.args.x (numbers_of_list ns (ends_of_list es c.args.list)) = rw is at c.requires.there in
    rw (is, read) (from_next (node ns) _ _ _ _ c.args.x line.runs line.distinct there)
