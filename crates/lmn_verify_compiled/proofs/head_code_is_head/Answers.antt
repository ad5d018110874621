use Rattle.lmn_verify_compiled.proofs.Apart.{head_code_tells_apart, head_code_tells_membranes_apart}
use Rattle.lmn_verify_compiled.proofs.HeadShapes.{head_code_is_head, head_code_looks, head_code_finds_first}
use Rattle.lmn_verify_compiled.proofs.head_code_is_head.Goals as goal

pub returns : goal.returns
returns c = record { head = head_code_is_head; looks = head_code_looks; first = head_code_finds_first; apart = head_code_tells_apart; apart_membranes = head_code_tells_membranes_apart }
