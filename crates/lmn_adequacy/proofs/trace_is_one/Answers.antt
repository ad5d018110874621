use Rattle.lmn_adequacy.proofs.trace_is_one.Goals as goal
use Rattle.lmn_adequacy.proofs.Runs.{end_is_one, trace_is_one}

pub returns : goal.returns
returns c = record { trace = trace_is_one; end = end_is_one }
