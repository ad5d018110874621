-- What is said of a fault of a text.
use Rattle.std.specs.Prelude.{⊤}
use Rattle.lmn_base.specs.declared.refusal.Refusal.{Refusal}
use Rattle.lmn_base.specs.declared.refusal.TextFault.{TextFault}
use Rattle.lmn_base.specs.declared.refusal.TextFault.TheVariants.{Refused, NoMemory}

-- something of the refusal, and nothing where memory was wanting
abbrev pub IfRefused : TextFault → (Refusal → Type 0) → Type 0
IfRefused (Refused refusal) P = P refusal
IfRefused NoMemory P = ⊤
