use Rattle.lmn_adequacy.proofs.traces_are_exact.Goals as goal
use Rattle.lmn_adequacy.proofs.Runs.{trace_commits, trace_ends, trace_stops}

pub returns : goal.returns
returns c = record { commits = trace_commits; ends = trace_ends; stops = trace_stops }
