use Rattle.lmn_compile_body.proofs.Accepted as laws
use Rattle.lmn_compile_body.proofs.Nested.{accepted_nested}
use Rattle.lmn_compile_body.proofs.accepted_bodies.Goals as goal

pub returns-clause-room : goal.returns-clause-room
returns-clause-room c = laws.accepted_bodies c.accepted_heads.ensures

pub returns-clause-nested : goal.returns-clause-nested
returns-clause-nested c = accepted_nested c.accepted_heads.ensures
