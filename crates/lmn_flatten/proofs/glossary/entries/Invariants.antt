use Rattle.std.proofs.Common.{take}
use Rattle.lmn_flatten.proofs.GlossaryLemmas.{SoFar}
use Rattle.lmn_flatten.proofs.glossary.entries.Given as goal

abbrev pub invariant-loop-token : goal.invariant-loop-token
invariant-loop-token l = SoFar l.text l.initial.names l.names l.initial.links l.links l.token-index (take l.token-index l.tokens) l.entries
