use Rattle.std.proofs.Common.{take}
use Rattle.std.specs.List.{AllZip}
use Rattle.lmn_parser.specs.Syntax.{conditions_of}
use Rattle.lmn_flatten_plain.specs.Plains.{IsCond}
use Rattle.lmn_flatten.specs.Glossaries.{Reading, IsGlossary}
use Rattle.lmn_flatten.proofs.guard.conditions.Given as goal

abbrev pub invariant-loop-node : goal.invariant-loop-node
invariant-loop-node l = (r : Reading) → IsGlossary r l.glossary → AllZip (IsCond r.words r.places r.names) (conditions_of (take l.node-index l.nodes)) l.conditions
