use Rattle.std.proofs.Common.{◌≡◌, sym, subst}
use Rattle.lmn_verify_coded.specs.Runs.{CodedInput, Executed}
use Rattle.lmn_verify_coded.specs.Counting.{CountsRun}
use Rattle.lmn_verify_coded.proofs.Stopping.{last_line}
use Rattle.lmn_verify_coded.proofs.executing.execute.Goals as goal
use Rattle.lmn_store_heap.proofs.Common.{moved}

pub returns-clause-executed : goal.returns-clause-executed
returns-clause-executed g c =
    let r : CodedInput = record {
      names = c.args.names.now;
      table = c.args.plain.now.rules;
      codes = c.args.coded.now.codes;
      budget = c.args.budget;
      size = c.args.coded.now.size;
      first = g.S.LinkStore.heap c.args.coded.now.machine.store;
    } in
    let wrote = c.conclude.ensures.wrote in
    let commits : c.conclude.new.coded.commits ≡ c.run-why.new.coded.commits = λ i. (c.conclude.ensures.keeps i).commits in
    moved (λ n h. Executed r n h c.conclude.result (g.O.Sink.told c.args.out.now) (g.O.Sink.told c.conclude.new.out)) commits c.conclude.ensures.kept
    (record {
      why = c.run-why.result;
      stopped = c.run-why.ensures.stopped;
      line = wrote.line;
      is_line = last_line r.codes r.budget r.size c.run-why.new.coded.commits c.run-why.ensures.stopped.last c.run-why.result (g.S.LinkStore.heap c.run-why.new.coded.machine.store) r.names r.table wrote.line c.run-why.ensures.stopped.stops wrote.is_line;
      wrote = wrote.wrote;
    })

pub returns-clause-steps : goal.returns-clause-steps
returns-clause-steps g c =
    let commits : c.conclude.new.coded.commits ≡ c.run-why.new.coded.commits = λ i. (c.conclude.ensures.keeps i).commits in
    subst (λ n. CountsRun c.args.coded.now.codes c.args.coded.now.size (g.S.LinkStore.heap c.args.coded.now.machine.store) n c.args.steps.now c.run-why.new.steps) (sym commits) c.run-why.ensures.steps

pub returns-clause-faults : goal.returns-clause-faults
returns-clause-faults g c = (c.conclude.ensures.same, c.conclude.ensures.rose)
