use Rattle.std.proofs.Common.{◌∙◌, ap, sym}
use Rattle.lmn_io.specs.Gathering.{Pending}
use Rattle.lmn_io.proofs.WritingLemmas.{kept_put}
use Rattle.lmn_io.proofs.line_buffer.LineBuffer.finish.Goals as goal

pub returns-then-not-self : goal.returns-then-not-self
returns-then-not-self g c = λ text told faults added.
    kept_put text c.args.self _ c.put.result told _ _ faults _ _ (sym (ap (λ (b : Pending). b.failed) c.self.view_is) ∙ c.if-not-self.true) (c.as_slice.ensures ∙ ap (λ (b : Pending). b.kept) c.self.view_is) added c.put.ensures.writes
