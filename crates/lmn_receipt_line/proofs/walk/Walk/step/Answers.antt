use Rattle.std.proofs.Common.{sym, subst}
use Rattle.lmn_io.specs.Gathering.{output}
use Rattle.lmn_receipt_line.specs.Walking.{IsWithin, Steps}
use Rattle.lmn_receipt_line.proofs.WalkLemmas.{below_last}
use Rattle.lmn_receipt_line.proofs.walk.Walk.step.Goals as goal

pub returns-in_ok-add_atoms_of-in-All-clause-some : goal.returns-in_ok-add_atoms_of-in-All-clause-some
returns-in_ok-add_atoms_of-in-All-clause-some g c =
    subst (λ ps. Steps c.args.names.now c.args.table.now ps c.add_atoms_of.new.self.open.items c.args.self.now.entered c.add_atoms_of.new.self.entered (output c.args.buffer.now (g.O.Sink.told c.args.out.now) (g.O.Sink.faults c.args.out.now)) (output c.add_atoms_of.new.buffer (g.O.Sink.told c.add_atoms_of.new.out) (g.O.Sink.faults c.add_atoms_of.new.out)))
    (sym c.in-Some.ensures.items) (c.in_ok-add_atoms_of-in-All.ensures c.args.table.now)

pub returns-in_ok-add_atoms_of-in-All-clause-number : goal.returns-in_ok-add_atoms_of-in-All-clause-number
returns-in_ok-add_atoms_of-in-All-clause-number g c = λ most w. below_last most c.pop.new.self.items c.in-Some.place (subst (λ ps. IsWithin most ps c.args.self.now.entered) c.in-Some.ensures.items w).1

pub returns-in_ok-enter-in-FromMembrane-clause-some : goal.returns-in_ok-enter-in-FromMembrane-clause-some
returns-in_ok-enter-in-FromMembrane-clause-some g c =
    subst (λ ps. Steps c.args.names.now c.args.table.now ps c.enter.new.self.open.items c.args.self.now.entered c.enter.new.self.entered (output c.args.buffer.now (g.O.Sink.told c.args.out.now) (g.O.Sink.faults c.args.out.now)) (output c.enter.new.buffer (g.O.Sink.told c.enter.new.out) (g.O.Sink.faults c.enter.new.out)))
    (sym c.in-Some.ensures.items) (c.in_ok-enter-in-FromMembrane.ensures c.args.names.now c.args.table.now)

pub returns-in_ok-enter-in-FromMembrane-clause-number : goal.returns-in_ok-enter-in-FromMembrane-clause-number
returns-in_ok-enter-in-FromMembrane-clause-number g c = λ most w. below_last most c.pop.new.self.items c.in-Some.place (subst (λ ps. IsWithin most ps c.args.self.now.entered) c.in-Some.ensures.items w).1

pub returns-else-next-len-clause-number : goal.returns-else-next-len-clause-number
returns-else-next-len-clause-number g c = λ most w. below_last most c.pop.new.self.items c.in-Some.place (subst (λ ps. IsWithin most ps c.args.self.now.entered) c.in-Some.ensures.items w).1
