use Rattle.std.proofs.Common.{arith}
use Rattle.lmn_store_slab.proofs.TableLemmas.{number_within, unlink_next, unlink_prev, unlink_free, unlink_sound, unlink_view, unlink_gone}
use Rattle.lmn_store_slab.proofs.table.Table.unlink.Goals as goal

pub index-node-requires : goal.index-node-requires
index-node-requires c =
    let w = number_within c.self.inside.nodes.items c.self.inside.ends.items c.args.self.now c.self.view_is c.args.list c.requires.list c.args.x c.self.invariant c.requires.there in
    let k = c.self.inside.nodes.ok.0 in omega arith

pub set_next-requires : goal.set_next-requires
set_next-requires c = unlink_next _ _ _ c.args.list c.args.x c.self.invariant c.self.view_is c.requires.list c.requires.there c.index-node.result.now c.index-node.ensures

pub set_prev-requires : goal.set_prev-requires
set_prev-requires c = unlink_prev _ _ _ c.args.list c.args.x c.self.invariant c.self.view_is c.requires.list c.requires.there c.index-node.result.now c.index-node.ensures _ c.set_next.ensures.nodes

pub index_mut-requires : goal.index_mut-requires
index_mut-requires c =
    let w = unlink_free _ _ _ c.args.list c.args.x c.self.invariant c.self.view_is c.requires.list c.requires.there c.index-node.result.now c.index-node.ensures _ _ c.set_next.ensures.nodes c.set_prev.ensures.nodes in
    let k = c.set_prev.new.nodes.ok.0 in omega arith

pub invariant_of-self : goal.invariant_of-self
invariant_of-self c =
    unlink_sound _ _ _ c.args.list c.args.x c.self.invariant c.self.view_is c.requires.list c.requires.there c.index-node.result.now c.index-node.ensures
    c.index.result.now c.index.ensures _ _ _ _ c.set_next.ensures.nodes c.set_next.ensures.ends c.set_prev.ensures.nodes c.set_prev.ensures.ends

pub returns : goal.returns
returns c =
    let e = unlink_view _ _ _ c.args.list c.args.x c.self.invariant c.self.view_is c.requires.list c.requires.there c.index-node.result.now c.index-node.ensures
    c.index.result.now c.index.ensures _ _ _ _ c.set_next.ensures.nodes c.set_next.ensures.ends c.set_prev.ensures.nodes c.set_prev.ensures.ends in
    record {
      lists = e;
      gone = unlink_gone _ _ _ _ c.args.list c.args.x c.self.invariant c.self.view_is c.requires.list c.requires.there e;
    }
