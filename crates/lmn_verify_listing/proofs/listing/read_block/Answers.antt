use Rattle.std.proofs.Common.{◌+◌, ℕ, List, sym, subst}
use Rattle.lmn_base.specs.declared.refusal.TextFault.{TextFault}
use Rattle.lmn_base.specs.Refusals.{IfRefused}
use Rattle.lmn_instr_code.specs.declared.instr.Instr.{Instr}
use Rattle.lmn_verify_listing.specs.Reaching.{IsBegun, IsEnded, IsRefusedLine, Reached, due_in}
use Rattle.lmn_verify_listing.proofs.ReachingLemmas.{begun_more, ended_more, begun_wrong, none_begun, nothing_stands}
use Rattle.lmn_verify_listing.proofs.listing.read_block.Goals as goal

pub loop-at-init : goal.loop-at-init
loop-at-init c =
    subst (λ (xs : List Instr). IsBegun c.args.in_head c.args.listing.now c.args.names.now c.args.names.now c.args.from c.args.first c.args.from c.args.first xs) (sym c.new-instrs.ensures)
    (none_begun c.args.in_head c.args.listing.now c.args.names.now c.args.from c.args.first c.requires.within)

pub returns-then-last-clause-block : goal.returns-then-last-clause-block
returns-then-last-clause-block c =
    let some = rw c.in-Some.is at c.in_ok-next.ensures.some in
    subst (λ (xs : List Instr). IsEnded c.args.in_head c.args.listing.now c.args.names.now c.read_at.new.names c.args.from c.args.first c.in-Some.next.end (c.loop-at.line + 1) xs) (sym c.in_ok-push-in-Some.ensures.ok)
    (ended_more c.args.in_head c.args.listing.now c.args.names.now c.loop-at.names c.read_at.new.names c.args.from c.args.first c.loop-at.at c.loop-at.line c.in-Some.next.end c.loop-at.instrs c.in-Some.next.instr
    c.loop-at.invariant c.in_ok-next.ensures.names (rw c.in-Some.is at c.in_ok-next.ensures.order) some (c.ends-last.ensures.yes c.if-last.true))

pub loop-at-preserved : goal.loop-at-preserved
loop-at-preserved c =
    let some = rw c.in-Some.is at c.in_ok-next.ensures.some in
    subst (λ (xs : List Instr). IsBegun c.args.in_head c.args.listing.now c.args.names.now c.read_at.new.names c.args.from c.args.first c.in-Some.next.end (c.loop-at.line + 1) xs) (sym c.in_ok-push-in-Some.ensures.ok)
    (begun_more c.args.in_head c.args.listing.now c.args.names.now c.loop-at.names c.read_at.new.names c.args.from c.args.first c.loop-at.at c.loop-at.line c.in-Some.next.end c.loop-at.instrs c.in-Some.next.instr
    c.loop-at.invariant c.in_ok-next.ensures.names (rw c.in-Some.is at c.in_ok-next.ensures.order) some (c.ends-last.ensures.no c.if-last.false))

pub returns-in-None-clause-refused : goal.returns-in-None-clause-refused
returns-in-None-clause-refused c =
    let none = rw c.in-None.is at c.in_ok-next.ensures.none in
    subst (λ (e : TextFault). IfRefused e (λ r. (n j : ℕ) → Reached n c.args.listing.now c.args.from c.args.first (due_in c.args.in_head j) → IsRefusedLine n c.args.listing.now r)) (sym c.not_a_listing.ensures)
    (begun_wrong c.args.in_head c.args.listing.now c.args.names.now c.loop-at.names c.args.from c.args.first c.loop-at.at c.loop-at.line c.loop-at.instrs c.loop-at.invariant none)

pub returns-clause-refused : goal.returns-clause-refused
returns-clause-refused c =
    subst (λ (e : TextFault). IfRefused e (λ r. (n j : ℕ) → Reached n c.args.listing.now c.args.from c.args.first (due_in c.args.in_head j) → IsRefusedLine n c.args.listing.now r)) (sym c.not_a_listing-2.ensures)
    (begun_wrong c.args.in_head c.args.listing.now c.args.names.now c.loop-at.names c.args.from c.args.first c.loop-at.at c.loop-at.line c.loop-at.instrs c.loop-at.invariant
    (nothing_stands c.args.in_head c.args.listing.now c.loop-at.at c.loop-at-test.false))
