use Rattle.std.proofs.Common.{[], arith}
use Rattle.lmn_print_plain.specs.Walks.{from_rules, left_behind, texts_with}
use Rattle.lmn_print_plain.proofs.DueLemmas.{due_first}
use Rattle.lmn_print_plain.proofs.WalkLemmas.{leave_up, leave_on, leave_end, leave_deep, leaves_in}
use Rattle.lmn_print_plain.proofs.walk.leave.Goals as goal

pub loop-parent-init : goal.loop-parent-init
loop-parent-init g c = record { walk = λ atoms from. (from, due_first (from_rules (texts_with atoms c.args.names.now c.args.table.now (g.S.LinkStore.heap c.args.store.now)) c.args.before from) _, omega arith) }

pub add_rules-requires : goal.add_rules-requires
add_rules-requires g c = leaves_in (g.S.LinkStore.heap c.args.store.now) c.root-root.ensures.sound (g.S.LinkStore.mem_id c.loop-parent.at.mem) c.loop-parent.at.depth (c.loop-parent.invariant.walk (λ m. []) c.requires).0

pub parent-requires : goal.parent-requires
parent-requires g c = leaves_in (g.S.LinkStore.heap c.args.store.now) c.root-root.ensures.sound (g.S.LinkStore.mem_id c.loop-parent.at.mem) c.loop-parent.at.depth (c.loop-parent.invariant.walk (λ m. []) c.requires).0

pub overflow_sub-depth : goal.overflow_sub-depth
overflow_sub-depth g c = leave_deep (g.S.LinkStore.heap c.args.store.now) c.root-root.ensures.sound (g.S.LinkStore.mem_id c.loop-parent.at.mem) c.loop-parent.at.depth (g.S.LinkStore.mem_id c.in-Some.parent) (c.loop-parent.invariant.walk (λ m. []) c.requires).0 c.in-Some.ensures

pub returns-in-Some-next_mem : goal.returns-in-Some-next_mem
returns-in-Some-next_mem g c = λ atoms from.
    let h = g.S.LinkStore.heap c.args.store.now in
    let t = texts_with atoms c.args.names.now c.args.table.now h in
    let w = c.loop-parent.invariant.walk atoms from in
    leave_on t h c.root-root.ensures.sound (g.S.LinkStore.mem_id c.loop-parent.at.mem) c.loop-parent.at.depth (g.S.LinkStore.mem_id c.in-Some-next_mem.next) (g.S.LinkStore.mem_id c.in-Some.parent) c.loop-parent.any w.0 c.in-Some.ensures
    c.between.result.now c.between-in-Some-next_mem.result.now c.between.ensures c.between-in-Some-next_mem.ensures (from_rules t c.args.before from) (left_behind from) _ _ _ _ _ _ (c.in-Some-next_mem.ensures.list (g.S.LinkStore.mem_id c.in-Some.parent) c.in-Some.ensures) w.1 w.2
    c.add_rules.ensures c.add.ensures c.add-in-Some-next_mem.ensures c.add-in-Some-next_mem-2.ensures

pub loop-parent-smaller : goal.loop-parent-smaller
loop-parent-smaller g c =
    let l = leave_deep (g.S.LinkStore.heap c.args.store.now) c.root-root.ensures.sound (g.S.LinkStore.mem_id c.loop-parent.at.mem) c.loop-parent.at.depth (g.S.LinkStore.mem_id c.in-Some.parent) (c.loop-parent.invariant.walk (λ m. []) c.requires).0 c.in-Some.ensures in
    omega (arith, l)

pub loop-parent-preserved : goal.loop-parent-preserved
loop-parent-preserved g c = record {
  walk = λ atoms from.
      let h = g.S.LinkStore.heap c.args.store.now in
      let t = texts_with atoms c.args.names.now c.args.table.now h in
      let w = c.loop-parent.invariant.walk atoms from in
      leave_up t h c.root-root.ensures.sound (g.S.LinkStore.mem_id c.loop-parent.at.mem) c.loop-parent.at.depth (g.S.LinkStore.mem_id c.in-Some.parent) c.loop-parent.any w.0 c.in-Some.ensures
      c.between.result.now c.between.ensures (from_rules t c.args.before from) (left_behind from) _ _ _ _ (c.in-None-next_mem.ensures.list (g.S.LinkStore.mem_id c.in-Some.parent) c.in-Some.ensures) w.1 w.2 c.add_rules.ensures c.add.ensures;
}

pub returns-in-None : goal.returns-in-None
returns-in-None g c = λ atoms from.
    let h = g.S.LinkStore.heap c.args.store.now in
    let t = texts_with atoms c.args.names.now c.args.table.now h in
    let w = c.loop-parent.invariant.walk atoms from in
    leave_end t h c.root-root.ensures.sound (g.S.LinkStore.mem_id c.loop-parent.at.mem) c.loop-parent.at.depth c.loop-parent.any w.0 c.between.result.now c.between.ensures (from_rules t c.args.before from) _ _ _ c.in-None.ensures w.1 c.add_rules.ensures
