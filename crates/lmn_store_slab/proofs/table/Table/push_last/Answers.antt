use Rattle.std.proofs.Common.{refl, arith}
use Rattle.lmn_store_slab.proofs.CountLemmas.{put_short}
use Rattle.lmn_store_slab.proofs.TableLemmas.{push_next, push_sound, push_view}
use Rattle.lmn_store_slab.proofs.table.Table.push_last.Goals as goal

pub set_next-requires : goal.set_next-requires
set_next-requires c = push_next _ _ _ c.args.list c.args.x c.self.invariant c.self.view_is c.requires.list c.requires.number c.requires.free c.index.result.now c.index.ensures _

pub invariant_of-self : goal.invariant_of-self
invariant_of-self c =
    push_sound _ _ _ c.args.list c.args.x c.self.invariant c.self.view_is c.requires.list c.requires.number c.requires.free
    c.index.result.now c.index.ensures _ _ _ refl c.set_next.ensures.nodes c.set_next.ensures.ends

pub returns : goal.returns
returns c =
    let e = push_view _ _ _ c.args.list c.args.x c.self.invariant c.self.view_is c.requires.list c.requires.number c.requires.free
    c.index.result.now c.index.ensures _ _ _ refl c.set_next.ensures.nodes c.set_next.ensures.ends in
    let s = push_sound _ _ _ c.args.list c.args.x c.self.invariant c.self.view_is c.requires.list c.requires.number c.requires.free
    c.index.result.now c.index.ensures _ _ _ refl c.set_next.ensures.nodes c.set_next.ensures.ends in
    let short = put_short _ _ c.args.self.now _ c.args.list _ refl s e c.requires.list in
    let small = c.set_next.new.nodes.small in
    let ok = c.set_next.new.nodes.ok in
    record { lists = e; fits = omega (arith, short, small, ok.0, ok.1) }
