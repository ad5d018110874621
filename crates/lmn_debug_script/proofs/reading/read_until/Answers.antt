use Rattle.std.proofs.Common.{◌+◌, ◌∙◌, drop, sym, take}
use Rattle.std.proofs.lemmas.List.{take_rest}
use Rattle.lmn_instr_reading.proofs.LineLemmas.{split_at}
use Rattle.lmn_debug_script.proofs.LineLemmas.{wish_parts, wish_unsplit}
use Rattle.lmn_debug_script.proofs.reading.read_until.Goals as goal

pub returns-in-None-clause-order : goal.returns-in-None-clause-order
returns-in-None-clause-order c = λ line w h. wish_unsplit c.args.wish.now line c.args.n c.in-None.ensures.none w h

pub returns-in-None-2-clause-order : goal.returns-in-None-2-clause-order
returns-in-None-2-clause-order c = λ line w h.
    let wish = c.args.wish.now in
    let at = c.in-Some.at in
    let some = c.in-Some.ensures.some in
    let parts = wish_parts wish line (take at wish) (drop (at + 1) wish) c.args.n (split_at wish at some.0 some.1) some.2 w h in
    let none = rw c.in-None-2.is at c.in_ok-functor-in-Some-operator_written.ensures.none in
    none parts.2

pub returns-in-None-operator_written-clause-order : goal.returns-in-None-operator_written-clause-order
returns-in-None-operator_written-clause-order c = λ line w h.
    let wish = c.args.wish.now in
    let at = c.in-Some.at in
    let some = c.in-Some.ensures.some in
    let parts = wish_parts wish line (take at wish) (drop (at + 1) wish) c.args.n (split_at wish at some.0 some.1) some.2 w h in
    c.in-None-operator_written.ensures.none parts.0 (parts.1 ∙ sym (take_rest wish (at + 1)))
