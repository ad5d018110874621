-- What is said of a fault of a trace that is read line by line.
use Rattle.std.specs.Prelude.{⊤}
use Rattle.lmn_base.specs.declared.refusal.Refusal.{Refusal}
use Rattle.lmn_receipt_chain.specs.declared.trace_fault.TraceFault.{TraceFault}
use Rattle.lmn_receipt_chain.specs.declared.trace_fault.TraceFault.TheVariants.{Refused, Failed, NoMemory}

-- something of the refusal, and nothing where it couldn't be read or memory was wanting
abbrev pub IfTraceRefused : TraceFault → (Refusal → Type 0) → Type 0
IfTraceRefused (Refused refusal) P = P refusal
IfTraceRefused Failed P = ⊤
IfTraceRefused NoMemory P = ⊤
