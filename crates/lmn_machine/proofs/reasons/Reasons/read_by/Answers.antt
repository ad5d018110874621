use Rattle.std.proofs.Common.{subst, sym, ◌∙◌}
use Rattle.lmn_machine.specs.Jumping.{ReadsWithin, Within}
use Rattle.lmn_machine.proofs.Jumps.{within_itself}
use Rattle.lmn_machine.proofs.Restings.{reads_all, reads_bare}
use Rattle.lmn_machine.proofs.reasons.Reasons.read_by.Goals as goal

pub returns-in-Deref : goal.returns-in-Deref
returns-in-Deref c = subst (λ i. ReadsWithin c.args.self.now c.of_atom.result i) (sym c.in-Deref.is) (subst (λ e. Within e c.of_atom.result) c.of_atom.ensures (within_itself c.of_atom.result))

pub returns-in-Func : goal.returns-in-Func
returns-in-Func c = subst (λ i. ReadsWithin c.args.self.now c.of_atom-in-Func.result i) (sym c.in-Func.is) (subst (λ e. Within e c.of_atom-in-Func.result) c.of_atom-in-Func.ensures (within_itself c.of_atom-in-Func.result))

pub returns-in-NMems : goal.returns-in-NMems
returns-in-NMems c = subst (λ i. ReadsWithin c.args.self.now c.of_membrane.result i) (sym c.in-NMems.is) (subst (λ e. Within e c.of_membrane.result) c.of_membrane.ensures (within_itself c.of_membrane.result))

pub returns-in-NoRules : goal.returns-in-NoRules
returns-in-NoRules c = subst (λ i. ReadsWithin c.args.self.now c.of_membrane-in-NoRules.result i) (sym c.in-NoRules.is) (subst (λ e. Within e c.of_membrane-in-NoRules.result) c.of_membrane-in-NoRules.ensures (within_itself c.of_membrane-in-NoRules.result))

pub returns-in-GetInt : goal.returns-in-GetInt
returns-in-GetInt c = subst (λ i. ReadsWithin c.args.self.now c.of_part.result i) (sym c.in-GetInt.is) (subst (λ e. Within e c.of_part.result) c.of_part.ensures (within_itself c.of_part.result))

pub returns-then-len-eq0 : goal.returns-then-len-eq0
returns-then-len-eq0 c = subst (λ i. ReadsWithin c.args.self.now c.of_membrane-then-len-eq0.result i) (sym c.in-NAtoms.is)
    (reads_bare c.args.self.now c.of_membrane-then-len-eq0.result c.in-NAtoms.membrane c.in-NAtoms.count c.in-NAtoms.parts (sym c.len.ensures ∙ c.if-len-eq0.true) (subst (λ e. Within e c.of_membrane-then-len-eq0.result) c.of_membrane-then-len-eq0.ensures (within_itself c.of_membrane-then-len-eq0.result)))

pub returns-in_default : goal.returns-in_default
returns-in_default c = reads_all c.args.self.now c.args.instr.now
