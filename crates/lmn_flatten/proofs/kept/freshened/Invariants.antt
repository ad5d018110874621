use Rattle.std.proofs.Common.{◌≡◌, List, length}
use Rattle.lmn_flatten_plain.specs.Links.{Link}
use Rattle.lmn_flatten.specs.Copies.{NoneFresh}
use Rattle.lmn_flatten.specs.Glossaries.{Reading}
use Rattle.lmn_flatten.specs.Scopes.{IsScope}
use Rattle.lmn_flatten.proofs.CopyLemmas.{FreshSoFar}
use Rattle.lmn_flatten.proofs.kept.freshened.Given as goal

abbrev pub invariant-loop-number : goal.invariant-loop-number
invariant-loop-number l = (r : Reading) (keys : List Link) → IsScope r keys l.initial.scope → NoneFresh keys → length l.counts ≡ length keys
    → FreshSoFar r keys l.counts l.number l.links l.scope
