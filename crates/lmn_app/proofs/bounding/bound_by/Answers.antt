use Rattle.std.proofs.Common.{ap, ◌∙◌, length, subst}
use Rattle.lmn_app_accepted.proofs.Loadable.{rules_whole}
use Rattle.lmn_weight.specs.Plains.{EachLowered, IsFirstNotLowered}
use Rattle.lmn_app.proofs.BoundLemmas.{bad_ended, few_weigh, is_bound, not_lowered_ended, part_ended, written_ended}
use Rattle.lmn_app.proofs.bounding.bound_by.Goals as goal

pub bound-requires-clause-plans : goal.bound-requires-clause-plans
bound-requires-clause-plans g c =
    let read = c.args.accepted.now in
    let program = c.requires.accepted.0 in
    let a = c.requires.accepted.1 in
    let whole = rules_whole c.accepted_texts.ensures program c.args.names.now read.plain read.plans a.named a.accepted in
    ap length c.as_slice.ensures ∙ whole.many

pub bound-requires-clause-size : goal.bound-requires-clause-size
bound-requires-clause-size g c =
    let read = c.args.accepted.now in
    few_weigh c.few_items_weigh.ensures.tops c.few_items_weigh.ensures.rules c.requires.accepted.0 c.args.names.now read.plain read.plans c.requires.accepted.1

pub returns-in-Ok-write_bound : goal.returns-in-Ok-write_bound
returns-in-Ok-write_bound g c = λ program a.
    let read = c.args.accepted.now in
    let by = c.in-Ok.weights in
    let bound = c.in-Ok-bound.ensures.ok in
    let lowered = subst (EachLowered by read.plain) c.as_slice.ensures bound.0 in
    let told = is_bound c.accepted_texts.ensures c.weights_bound_commits.ensures program c.args.weights.now c.args.names.now read.plain read.plans a c.read.new.names c.in-Ok.ensures.names c.stand_once.ensures by c.in-Ok.ensures.ok lowered c.in-Ok-bound.most bound.1 in
    written_ended c.accepted_texts.ensures c.weights_bound_commits.ensures program c.args.weights.now c.args.names.now read.plain read.plans a c.read.new.names c.in-Ok.ensures.names c.stand_once.ensures _ _ _ _ _ c.in-Ok-bound.most told c.in-Ok-write_bound.ensures

pub returns-in-Ok-bound : goal.returns-in-Ok-bound
returns-in-Ok-bound g c = λ program a.
    let read = c.args.accepted.now in
    let by = c.in-Ok.weights in
    let bound = c.in-Ok-bound.ensures.ok in
    let lowered = subst (EachLowered by read.plain) c.as_slice.ensures bound.0 in
    let told = is_bound c.accepted_texts.ensures c.weights_bound_commits.ensures program c.args.weights.now c.args.names.now read.plain read.plans a c.read.new.names c.in-Ok.ensures.names c.stand_once.ensures by c.in-Ok.ensures.ok lowered c.in-Ok-bound.most bound.1 in
    part_ended c.accepted_texts.ensures c.weights_bound_commits.ensures program c.args.weights.now c.args.names.now read.plain read.plans a c.read.new.names c.in-Ok.ensures.names c.stand_once.ensures _ _ _ _ _ c.in-Ok-bound.most told c.in-Err-write_bound.ensures

pub returns-in-Ok : goal.returns-in-Ok
returns-in-Ok g c = λ program a.
    let read = c.args.accepted.now in
    let by = c.in-Ok.weights in
    let wrong = subst (λ plans. IsFirstNotLowered by read.plain plans c.in-Err.refusal) c.as_slice.ensures c.in-Err.ensures.err in
    not_lowered_ended c.accepted_texts.ensures c.weights_bound_commits.ensures program c.args.weights.now c.args.names.now read.plain read.plans a c.read.new.names c.in-Ok.ensures.names c.stand_once.ensures by c.in-Ok.ensures.ok c.in-Err.refusal _ _ wrong

pub returns-in-Err-Refused : goal.returns-in-Err-Refused
returns-in-Err-Refused g c = λ program a.
    let read = c.args.accepted.now in
    let wrong = rw c.in-Err-Refused.field-0-is at c.in-Err-Refused.ensures.refused in
    bad_ended c.accepted_texts.ensures c.weights_bound_commits.ensures program c.args.weights.now c.args.names.now read.plain read.plans a c.read.new.names c.in-Err-Refused.ensures.names c.stand_once-in-Err-Refused.ensures c.in-Err-Refused.refusal _ _ wrong
