use Rattle.std.proofs.Common.{◌∙◌, ◌++◌, Some, sym, ap, subst}
use Rattle.lmn_base.proofs.Lists.{holds_of_item}
use Rattle.lmn_receipt_line.specs.Walking.{Steps, line_end, line_text}
use Rattle.lmn_receipt_line.proofs.FrontLemmas.{Fronts, state, due_begun, due_step, not_begun, answered, line_done, met_is, fronts_some, fronts_none, is_none}
use Rattle.lmn_receipt_line.proofs.LineLemmas.{line_is, line_there}
use Rattle.lmn_receipt_line.proofs.comparing.front.Goals as goal

pub loop-walk-init : goal.loop-walk-init
loop-walk-init c = due_begun _ _ (line_end c.args.names.now c.args.table.now c.args.solid.now.root) c.args.text.now c.new-buffer.result c.new-out.result (c.in_ok-walk.ensures.left c.args.names.now c.args.table.now) c.new-buffer.ensures c.new-out.ensures

pub returns-then-is_none-clause-none : goal.returns-then-is_none-clause-none
returns-then-is_none-clause-none c = λ e rest is.
    let steps = holds_of_item (λ k. Steps c.args.names.now c.args.table.now c.loop-walk.walk.open.items c.step.new.self.open.items c.loop-walk.walk.entered c.step.new.self.entered (state c.loop-walk.buffer c.loop-walk.out) (state c.step.new.buffer c.step.new.out)) c.in_ok-_number.field-0 c.in-Some._number c.in-Some.is c.in_ok-_number.ensures.some in
    not_begun c.args.text.now (line_text c.args.names.now c.args.table.now c.args.solid.now.root) _ c.step.new.buffer c.step.new.out
    (due_step c.args.names.now c.args.table.now (line_text c.args.names.now c.args.table.now c.args.solid.now.root) (line_end c.args.names.now c.args.table.now c.args.solid.now.root) c.loop-walk.walk.open.items c.step.new.self.open.items _ _ _ _ _ c.loop-walk.invariant steps)
    (c.met.ensures.none (is_none c.met.result c.if-is_none.ensures)) rest (is ∙ ap (λ line. line ++ rest) (line_is c.args.names.now c.args.table.now c.args.solid.now))

pub loop-walk-preserved : goal.loop-walk-preserved
loop-walk-preserved c =
    let steps = holds_of_item (λ k. Steps c.args.names.now c.args.table.now c.loop-walk.walk.open.items c.step.new.self.open.items c.loop-walk.walk.entered c.step.new.self.entered (state c.loop-walk.buffer c.loop-walk.out) (state c.step.new.buffer c.step.new.out)) c.in_ok-_number.field-0 c.in-Some._number c.in-Some.is c.in_ok-_number.ensures.some in
    due_step c.args.names.now c.args.table.now (line_text c.args.names.now c.args.table.now c.args.solid.now.root) (line_end c.args.names.now c.args.table.now c.args.solid.now.root) c.loop-walk.walk.open.items c.step.new.self.open.items _ _ _ _ _ c.loop-walk.invariant steps

pub returns-clause-some : goal.returns-clause-some
returns-clause-some c =
    let names = c.args.names.now in
    let table = c.args.table.now in
    let root = c.args.solid.now.root in
    let ended = c.in_ok-_number.ensures.none c.in_default.is in
    let added = line_done names table root c.loop-walk.walk.open.items c.has_items.result _ _ _ _ _ c.loop-walk.invariant ended.0 ended.1 (c.has_items.ensures names table) c.add_between.ensures c.add.ensures in
    let wrote = c.finish-written.ensures (line_text names table root) (Some _) _ added in
    let met = met_is c.met-2.result c.finish-written.new.sink c.met-2.ensures.none c.met-2.ensures.none_failed c.met-2.ensures.some c.met-2.ensures.some_failed in
    fronts_some c.met-2.result c.args.text.now _ (subst (Fronts c.met-2.result c.args.text.now) (sym (line_is names table c.args.solid.now)) (answered c.finish-written.result c.met-2.result c.args.text.now (line_text names table root) c.finish-written.new.sink (line_there names table root) wrote met))

pub returns-clause-none : goal.returns-clause-none
returns-clause-none c =
    let names = c.args.names.now in
    let table = c.args.table.now in
    let root = c.args.solid.now.root in
    let ended = c.in_ok-_number.ensures.none c.in_default.is in
    let added = line_done names table root c.loop-walk.walk.open.items c.has_items.result _ _ _ _ _ c.loop-walk.invariant ended.0 ended.1 (c.has_items.ensures names table) c.add_between.ensures c.add.ensures in
    let wrote = c.finish-written.ensures (line_text names table root) (Some _) _ added in
    let met = met_is c.met-2.result c.finish-written.new.sink c.met-2.ensures.none c.met-2.ensures.none_failed c.met-2.ensures.some c.met-2.ensures.some_failed in
    fronts_none c.met-2.result c.args.text.now _ (subst (Fronts c.met-2.result c.args.text.now) (sym (line_is names table c.args.solid.now)) (answered c.finish-written.result c.met-2.result c.args.text.now (line_text names table root) c.finish-written.new.sink (line_there names table root) wrote met))
