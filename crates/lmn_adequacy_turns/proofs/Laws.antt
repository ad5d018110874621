-- The two laws of code, one after the other.
use Rattle.lmn_compile_head.proofs.Laws.{code_of_least}
use Rattle.lmn_solid_bodies.proofs.Laws.{body_fires_within}
use Rattle.lmn_adequacy_turns.specs.Laws.{CodeFires}

-- where head code succeeds, body code fires the rule
pub code_fires : CodeFires
code_fires head guard body n rule h meets m placed r first rests c names h' runs =
    let least = code_of_least.least h head guard m r.head meets first in
    (least, body_fires_within head body n rule r h meets.valid m least.embeds.lies rests placed c names h' runs)
