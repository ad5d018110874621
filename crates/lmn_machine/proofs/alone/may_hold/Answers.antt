use Rattle.std.proofs.Common.{arith, subst}
use Rattle.lmn_instr_code.specs.Running.{InstructionHolds}
use Rattle.lmn_machine.proofs.Standing.{no_integer}
use Rattle.lmn_machine.proofs.alone.may_hold.Goals as goal

pub returns-in-None : goal.returns-in-None
returns-in-None g c = λ e n s here u holds.
    (let t = subst (λ i. InstructionHolds (g.S.LinkStore.heap c.args.store.now) n s i) c.in-IsInt.is holds in
    no_integer (g.S.LinkStore.heap c.args.store.now) n s c.args.code.now c.args.at c.in-IsInt.part 0 c.args.register (g.S.LinkStore.atom_id c.args.a) c.in-IsInt.port c.integer_behind.result c.in-None.is (omega arith) c.integer_behind.ensures here t.held t.of_kind)

pub returns-in-Lt : goal.returns-in-Lt
returns-in-Lt g c = λ e n s here u holds. c.may_compare.ensures e n s here u (subst (λ i. InstructionHolds (g.S.LinkStore.heap c.args.store.now) n s i) c.in-Lt.is holds)

pub returns-in-Le : goal.returns-in-Le
returns-in-Le g c = λ e n s here u holds. c.may_compare-in-Le.ensures e n s here u (subst (λ i. InstructionHolds (g.S.LinkStore.heap c.args.store.now) n s i) c.in-Le.is holds)

pub returns-in-Gt : goal.returns-in-Gt
returns-in-Gt g c = λ e n s here u holds. c.may_compare-in-Gt.ensures e n s here u (subst (λ i. InstructionHolds (g.S.LinkStore.heap c.args.store.now) n s i) c.in-Gt.is holds)

pub returns-in-Ge : goal.returns-in-Ge
returns-in-Ge g c = λ e n s here u holds. c.may_compare-in-Ge.ensures e n s here u (subst (λ i. InstructionHolds (g.S.LinkStore.heap c.args.store.now) n s i) c.in-Ge.is holds)

pub returns-in-Eq : goal.returns-in-Eq
returns-in-Eq g c = λ e n s here u holds. c.may_compare-in-Eq.ensures e n s here u (subst (λ i. InstructionHolds (g.S.LinkStore.heap c.args.store.now) n s i) c.in-Eq.is holds)

pub returns-in-Ne : goal.returns-in-Ne
returns-in-Ne g c = λ e n s here u holds. c.may_compare-in-Ne.ensures e n s here u (subst (λ i. InstructionHolds (g.S.LinkStore.heap c.args.store.now) n s i) c.in-Ne.is holds)
