use Rattle.std.proofs.Common.{◌≡◌, ◌+◌, [], ◌∷◌, ap, ◌∙◌, arith}
use Rattle.lmn_store_heap.specs.Heap.{Heap, marked, mark_of}
use Rattle.lmn_print_plain.specs.Numbers.{GoOn, Remarks}
use Rattle.lmn_print_plain.proofs.NumberLemmas.{go_known, number_alone, number_both}
use Rattle.lmn_print_plain.proofs.MarkLemmas.{remarks_none}
use Rattle.lmn_print_plain.proofs.numbers.number_port.Goals as goal
use Rattle.lmn_print_plain.proofs.numbers.number_port.Goals.{in-Some, in_default}

pub returns-then-mark-gt0-clause-marks : goal.returns-then-mark-gt0-clause-marks
returns-then-mark-gt0-clause-marks g c = remarks_none (g.S.LinkStore.heap c.args.store.now)

pub returns-then-mark-gt0-clause-numbers : goal.returns-then-mark-gt0-clause-numbers
returns-then-mark-gt0-clause-numbers g c =
    go_known (g.S.LinkStore.heap c.args.store.now) (g.S.LinkStore.atom_id c.args.atom) c.args.port c.args.count c.requires.port (let e = c.mark.ensures in let t = c.if-mark-gt0.true in omega (arith, e, t))

-- the link had no number, and has one now
pub returns : goal.returns
returns g c =
    let s = g.S.LinkStore.heap c.args.store.now in
    let t = g.S.LinkStore.heap c.match-partner.store in
    let u = g.S.LinkStore.heap c.set_mark-2.new.self in
    let a = g.S.LinkStore.atom_id c.args.atom in
    let i = c.args.port in
    let n = c.args.count in
    let unmarked : mark_of s a i ≡ 0 = (let e = c.mark.ensures in let l = c.if-mark-gt0.false in omega (arith, e, l)) in
    let done : Remarks s u × GoOn s u n (n + 1) (λ name. name a i ∷ []) = elim c.match-partner.branch [
      | in-Some w ↦ (let e : t ≡ g.S.LinkStore.heap w.set_mark.new.self = (cc (w.store-is)) in
          number_both s c.root-root.ensures.sound a i n c.requires.port unmarked _ _ w.in-Some.ensures.there.1 w.in-Some.ensures.link
          (g.S.LinkStore.heap w.set_mark.new.self) u w.set_mark.ensures (c.set_mark-2.ensures ∙ ap (λ (h : Heap). marked h a i (n + 1)) e))
      | in_default w ↦ (let e : t ≡ s = (cc (w.store-is)) in
          number_alone s c.root-root.ensures.sound a i n c.requires.port unmarked u (c.set_mark-2.ensures ∙ ap (λ (h : Heap). marked h a i (n + 1)) e) w.in_default.ensures.link)
    ] in
    record { marks = done.0; numbers = done.1; few = omega arith }
