use Rattle.std.proofs.Common.{rules, ℕ, List, [], ◌∷◌, ◌++◌, ◌+◌, ◌-◌, ◌≡◌, arith, subst, sym}
use Rattle.lmn_reduction.specs.Chains.{no_step, step_after}
use Rattle.lmn_receipt_chain.specs.Chains.{IsWrongTrace, begun, continued}
use Rattle.lmn_receipt_chain.specs.Faults.{IfTraceRefused}
use Rattle.lmn_receipt_chain.proofs.ReadLemmas.{ReadTo, read_done, read_first, read_more, read_wrong_end, read_wrong_line}
use Rattle.lmn_receipt_chain.proofs.checking.walk.Goals as goal

pub line_ahead-requires-clause-feeds : goal.line_ahead-requires-clause-feeds
line_ahead-requires-clause-feeds g c = λ cut. c.requires.feeds cut [] (g.N.NextSolids.region c.args.solids.now c.args.solid.now) begun

pub returns-in_err-first-clause-reads : goal.returns-in_err-first-clause-reads
returns-in_err-first-clause-reads g c = (0, no_step)

pub returns-in_default-clause-reads : goal.returns-in_default-clause-reads
returns-in_default-clause-reads g c = (0, no_step)

pub returns-in_err-meet-clause-reads : goal.returns-in_err-meet-clause-reads
returns-in_err-meet-clause-reads g c = (1, step_after no_step c.meet.ensures.reads)

pub returns-in_err-meet-clause-failed : goal.returns-in_err-meet-clause-failed
returns-in_err-meet-clause-failed g c = λ failed. (0, c.args.lines.now, no_step, c.meet.ensures.failed (search rules))

pub loop-next-init : goal.loop-next-init
loop-next-init g c = record {
  enough = omega arith;
  ready = c.in_ok-meet.ensures.ready;
  reads = (1, step_after no_step c.meet.ensures.reads);
  read = read_first (g.N.NextSolids.region c.args.solids.now) (g.N.NextSolids.fits c.args.solids.now) c.args.solid.now (g.T.TraceLines.is_rest c.args.lines.now) (g.T.TraceLines.is_rest c.meet.new.lines)
      (g.T.TraceLines.window c.args.lines.now) (g.T.TraceLines.last c.meet.new.lines) c.in-Some.first c.requires.fits c.requires.sound (rw c.in-Some.is at c.in_ok-first.ensures.window) c.in_ok-meet.ensures.last c.in_ok-meet.ensures.rest;
}

pub overflow_sub-commits : goal.overflow_sub-commits
overflow_sub-commits g c = c.loop-next.invariant.enough

pub step_ahead-requires-clause-fits : goal.step_ahead-requires-clause-fits
step_ahead-requires-clause-fits g c = c.loop-next.invariant.read.fits

pub step_ahead-requires-clause-sound : goal.step_ahead-requires-clause-sound
step_ahead-requires-clause-sound g c = c.loop-next.invariant.read.sound

pub step_ahead-requires-clause-own : goal.step_ahead-requires-clause-own
step_ahead-requires-clause-own g c = c.loop-next.invariant.read.own

pub step_ahead-requires-clause-feeds : goal.step_ahead-requires-clause-feeds
step_ahead-requires-clause-feeds g c = λ cut next continues.
    let read = c.loop-next.invariant.read in
    c.requires.feeds cut (read.before ++ g.N.NextSolids.region c.args.solids.now c.loop-next.solid ∷ []) next (continued read.solids continues)

pub step_ahead-requires-clause-ready : goal.step_ahead-requires-clause-ready
step_ahead-requires-clause-ready g c = c.loop-next.invariant.ready

pub returns-in_err-next-clause-reads : goal.returns-in_err-next-clause-reads
returns-in_err-next-clause-reads g c = c.loop-next.invariant.reads

pub meet-requires-in-More-clause-ready : goal.meet-requires-in-More-clause-ready
meet-requires-in-More-clause-ready g c = c.loop-next.invariant.ready

pub returns-in_err-meet-in-More-clause-reads : goal.returns-in_err-meet-in-More-clause-reads
returns-in_err-meet-in-More-clause-reads g c = let r = c.loop-next.invariant.reads in (r.0 + 1, step_after r.1 c.meet-in-More.ensures.reads)

pub returns-in_err-meet-in-More-clause-failed : goal.returns-in_err-meet-in-More-clause-failed
returns-in_err-meet-in-More-clause-failed g c = λ failed. (let r = c.loop-next.invariant.reads in (r.0, c.loop-next.lines, r.1, c.meet-in-More.ensures.failed (search rules)))

pub returns-in_err-line-in-More-clause-reads : goal.returns-in_err-line-in-More-clause-reads
returns-in_err-line-in-More-clause-reads g c = let r = c.loop-next.invariant.reads in (r.0 + 1, step_after r.1 c.meet-in-More.ensures.reads)

pub loop-next-smaller : goal.loop-next-smaller
loop-next-smaller g c = c.in_ok-meet-in-More.ensures.left

pub loop-next-preserved : goal.loop-next-preserved
loop-next-preserved g c =
    let region = g.N.NextSolids.region c.args.solids.now in
    let fits = g.N.NextSolids.fits c.args.solids.now in
    let rest = g.T.TraceLines.is_rest c.meet-in-More.new.lines in
    let last = g.T.TraceLines.last c.meet-in-More.new.lines in
    let enough = c.loop-next.invariant.enough in
    let next = c.in_ok-line-in-More.ensures in
    let step = rw c.in-More.is at c.in_ok-next.ensures.window in
    let r = c.loop-next.invariant.reads in
    let read = read_more region fits c.args.solid.now c.loop-next.solid c.in-More.next (g.T.TraceLines.is_rest c.args.lines.now) (g.T.TraceLines.is_rest c.loop-next.lines) rest
    (g.T.TraceLines.window c.loop-next.lines) (g.T.TraceLines.last c.loop-next.lines) last (c.loop-next.line - 2) (c.loop-next.line - 2) c.in-More.len c.loop-next.invariant.read step
    c.in_ok-meet-in-More.ensures.last c.in_ok-meet-in-More.ensures.rest in
    let same : (c.loop-next.line - 2) + 1 ≡ c.in_ok-line-in-More.line - 2 = omega (arith, enough, next) in
    record {
      enough = omega (arith, enough, next);
      ready = c.in_ok-meet-in-More.ensures.ready;
      reads = (r.0 + 1, step_after r.1 c.meet-in-More.ensures.reads);
      read = subst (λ n. ReadTo region fits c.args.solid.now c.replace-before.new.dest (g.T.TraceLines.is_rest c.args.lines.now) rest last n) same
          (subst (λ s. ReadTo region fits c.args.solid.now s (g.T.TraceLines.is_rest c.args.lines.now) rest last ((c.loop-next.line - 2) + 1)) (sym c.replace-before.ensures.after) read);
    }

pub returns-in-Done-clause-reads : goal.returns-in-Done-clause-reads
returns-in-Done-clause-reads g c = c.loop-next.invariant.reads

pub returns-in-Done-clause-told : goal.returns-in-Done-clause-told
returns-in-Done-clause-told g c =
    read_done (g.N.NextSolids.region c.args.solids.now) (g.N.NextSolids.fits c.args.solids.now) c.args.solid.now c.loop-next.solid (g.T.TraceLines.is_rest c.args.lines.now) (g.T.TraceLines.is_rest c.loop-next.lines)
    (g.T.TraceLines.last c.loop-next.lines) (c.loop-next.line - 2) c.loop-next.invariant.read (rw c.in-Done.is at c.in_ok-next.ensures.rest)

pub returns-in-WrongLine-clause-reads : goal.returns-in-WrongLine-clause-reads
returns-in-WrongLine-clause-reads g c = c.loop-next.invariant.reads

pub returns-in-WrongLine-clause-told : goal.returns-in-WrongLine-clause-told
returns-in-WrongLine-clause-told g c =
    let region = g.N.NextSolids.region c.args.solids.now in
    let is_trace = g.T.TraceLines.is_rest c.args.lines.now in
    let enough = c.loop-next.invariant.enough in
    subst (λ fault. IfTraceRefused fault (λ refusal. (trace : List ℕ) × is_trace trace × IsWrongTrace (region c.args.solid.now) trace refusal)) (sym c.refused-in-WrongLine.ensures)
    (read_wrong_line region (g.N.NextSolids.fits c.args.solids.now) c.args.solid.now c.loop-next.solid is_trace (g.T.TraceLines.is_rest c.loop-next.lines) (g.T.TraceLines.last c.loop-next.lines) (c.loop-next.line - 2)
    c.loop-next.invariant.read c.loop-next.line (omega (arith, enough)) (rw c.in-WrongLine.is at c.in_ok-next.ensures.rest))

pub returns-in-WrongEnd-clause-reads : goal.returns-in-WrongEnd-clause-reads
returns-in-WrongEnd-clause-reads g c = c.loop-next.invariant.reads

pub returns-in-WrongEnd-clause-told : goal.returns-in-WrongEnd-clause-told
returns-in-WrongEnd-clause-told g c =
    let region = g.N.NextSolids.region c.args.solids.now in
    let is_trace = g.T.TraceLines.is_rest c.args.lines.now in
    let enough = c.loop-next.invariant.enough in
    subst (λ fault. IfTraceRefused fault (λ refusal. (trace : List ℕ) × is_trace trace × IsWrongTrace (region c.args.solid.now) trace refusal)) (sym c.refused-in-WrongEnd.ensures)
    (read_wrong_end region (g.N.NextSolids.fits c.args.solids.now) c.args.solid.now c.loop-next.solid is_trace (g.T.TraceLines.is_rest c.loop-next.lines) (g.T.TraceLines.last c.loop-next.lines) (c.loop-next.line - 2)
    c.loop-next.invariant.read c.loop-next.line (omega (arith, enough)) (rw c.in-WrongEnd.is at c.in_ok-next.ensures.rest))
