use Rattle.lmn_verify_laws.proofs.Runnable.{verified_are_runnable, verified_is_runnable}
use Rattle.lmn_verify_laws.proofs.verified_is_runnable.Goals as goal

pub returns : goal.returns
returns c = record {
  one = verified_is_runnable c.bodies_can_be_committed.ensures c.bodies_cost_what_is_told.ensures;
  all = verified_are_runnable c.bodies_can_be_committed.ensures c.bodies_cost_what_is_told.ensures;
}
