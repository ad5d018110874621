use Rattle.std.proofs.Common.{◌≡◌, List, ℕ, length, take}
use Rattle.lmn_parser.specs.Syntax.{terms_of}
use Rattle.lmn_flatten_plain.specs.Links.{Link}
use Rattle.lmn_flatten.specs.Glossaries.{Reading}
use Rattle.lmn_flatten.specs.Growing.{MayGrow, Argument}
use Rattle.lmn_flatten.proofs.WalkLemmas.{ArgumentsSoFar}
use Rattle.lmn_flatten.proofs.walk.arguments.Given as goal

abbrev pub invariant-loop-term : goal.invariant-loop-term
invariant-loop-term l = (length l.links ≡ l.term-index) × ((r : Reading) (way : List ℕ) (keys : List Link) → MayGrow r (Argument way) keys l.glossary l.initial.scope
    → ArgumentsSoFar r way keys l.pos (terms_of (take l.term-index l.terms)) l.term-index l.links l.scope)
