use Rattle.std.proofs.Common.{sym}
use Rattle.lmn_verify_listing.proofs.LineLemmas.{formed, first_follows, second_follows, third_follows, behind_first, behind_second, instr_in_order, instr_read, three_more}
use Rattle.lmn_verify_listing.proofs.line.read_operands.Goals as goal

pub returns-in-None-clause-none : goal.returns-in-None-clause-none
returns-in-None-clause-none c = λ i ns o h short e.
    let f = c.form-form.result in
    let p = formed c.args.opcode f c.args.text.now i ns c.form-form.ensures o h short e in
    let only = rw c.in-None.is at c.in_ok-taken.ensures.only in
    only p.x p.ns (behind_first p) p.fits.first p.short_x (first_follows c.args.opcode f c.args.text.now c.form-form.ensures p) p.is

pub returns-in-None-2-clause-none : goal.returns-in-None-2-clause-none
returns-in-None-2-clause-none c = λ i ns o h short e.
    let f = c.form-form.result in
    let p = formed c.args.opcode f c.args.text.now i ns c.form-form.ensures o h short e in
    let first = rw c.in-Some.is at c.in_ok-taken.ensures.only in
    let rest = first p.x p.ns (behind_first p) p.fits.first p.short_x (first_follows c.args.opcode f c.args.text.now c.form-form.ensures p) p.is in
    let only = rw c.in-None-2.is at c.in_ok-taken-2.ensures.only in
    only p.y p.ns (behind_second p) p.fits.second p.short_y (second_follows c.args.opcode f c.args.text.now c.form-form.ensures p) (sym rest)

pub returns-in-None-3-clause-none : goal.returns-in-None-3-clause-none
returns-in-None-3-clause-none c = λ i ns o h short e.
    let f = c.form-form.result in
    let p = formed c.args.opcode f c.args.text.now i ns c.form-form.ensures o h short e in
    let first = rw c.in-Some.is at c.in_ok-taken.ensures.only in
    let rest = first p.x p.ns (behind_first p) p.fits.first p.short_x (first_follows c.args.opcode f c.args.text.now c.form-form.ensures p) p.is in
    let second = rw c.in-Some-2.is at c.in_ok-taken-2.ensures.only in
    let later = second p.y p.ns (behind_second p) p.fits.second p.short_y (second_follows c.args.opcode f c.args.text.now c.form-form.ensures p) (sym rest) in
    let only = rw c.in-None-3.is at c.in_ok-taken-3.ensures.only in
    only p.z p.ns _ p.fits.third p.short_z (third_follows c.args.opcode f c.args.text.now c.form-form.ensures p) (sym later)

pub returns-in-None-3-clause-names : goal.returns-in-None-3-clause-names
returns-in-None-3-clause-names c = three_more _ _ _ _ c.in_ok-taken.ensures.names c.in_ok-taken-2.ensures.names c.in_ok-taken-3.ensures.names

pub returns-in_err-parts-clause-names : goal.returns-in_err-parts-clause-names
returns-in_err-parts-clause-names c = three_more _ _ _ _ c.in_ok-taken.ensures.names c.in_ok-taken-2.ensures.names c.in_ok-taken-3.ensures.names

pub returns-in-Some-4-clause-some : goal.returns-in-Some-4-clause-some
returns-in-Some-4-clause-some c =
    let one = rw c.in-Some.is at c.in_ok-taken.ensures.some in
    let two = rw c.in-Some-2.is at c.in_ok-taken-2.ensures.some in
    let three = rw c.in-Some-3.is at c.in_ok-taken-3.ensures.some in
    let last = rw c.in-Some-4.is at c.in_ok-parts.ensures.some in
    instr_read c.args.opcode c.form-form.result _ _ _ _ _ _ _ _ _ _ _ c.build.result c.form-form.ensures c.in_ok-taken-2.ensures.names c.in_ok-taken-3.ensures.names one two three last c.build.ensures.opcode c.build.ensures.operands

pub returns-in-Some-4-clause-names : goal.returns-in-Some-4-clause-names
returns-in-Some-4-clause-names c = three_more _ _ _ _ c.in_ok-taken.ensures.names c.in_ok-taken-2.ensures.names c.in_ok-taken-3.ensures.names

pub returns-in-None-4-clause-none : goal.returns-in-None-4-clause-none
returns-in-None-4-clause-none c = λ i ns o h short e.
    let f = c.form-form.result in
    let p = formed c.args.opcode f c.args.text.now i ns c.form-form.ensures o h short e in
    let first = rw c.in-Some.is at c.in_ok-taken.ensures.only in
    let rest = first p.x p.ns (behind_first p) p.fits.first p.short_x (first_follows c.args.opcode f c.args.text.now c.form-form.ensures p) p.is in
    let second = rw c.in-Some-2.is at c.in_ok-taken-2.ensures.only in
    let later = second p.y p.ns (behind_second p) p.fits.second p.short_y (second_follows c.args.opcode f c.args.text.now c.form-form.ensures p) (sym rest) in
    let third = rw c.in-Some-3.is at c.in_ok-taken-3.ensures.only in
    let last = third p.z p.ns _ p.fits.third p.short_z (third_follows c.args.opcode f c.args.text.now c.form-form.ensures p) (sym later) in
    let none = rw c.in-None-4.is at c.in_ok-parts.ensures.none in
    none p.gs p.fits.parts p.fits.few (sym last)

pub returns-in-None-4-clause-names : goal.returns-in-None-4-clause-names
returns-in-None-4-clause-names c = three_more _ _ _ _ c.in_ok-taken.ensures.names c.in_ok-taken-2.ensures.names c.in_ok-taken-3.ensures.names

pub returns-in-Some-4-clause-order : goal.returns-in-Some-4-clause-order
returns-in-Some-4-clause-order c =
    let one = rw c.in-Some.is at c.in_ok-taken.ensures.order in
    let two = rw c.in-Some-2.is at c.in_ok-taken-2.ensures.order in
    let three = rw c.in-Some-3.is at c.in_ok-taken-3.ensures.order in
    instr_in_order c.args.opcode c.form-form.result _ _ _ _ _ _ _ _ c.build.result c.form-form.ensures c.build.ensures.operands one two three
