use Rattle.std.proofs.Common.{◌≡◌, take, map}
use Rattle.lmn_flatten_plain.specs.Plains.{context_use}
use Rattle.lmn_flatten.specs.Glossaries.{Reading, IsGlossary}
use Rattle.lmn_flatten.proofs.guard.contexts.Given as goal

abbrev pub invariant-loop-token : goal.invariant-loop-token
invariant-loop-token l = (r : Reading) → IsGlossary r l.glossary → l.contexts ≡ map (context_use r.words r.places r.names) (take l.token-index l.tokens)
