use Rattle.std.proofs.Common.{◌++◌, ◌+◌, ◌∙◌, ap, sym}
use Rattle.lmn_app_single.specs.Demos.{demo_atom}
use Rattle.lmn_app_single.proofs.DemoLemmas.{atoms_more}
use Rattle.lmn_app_single.proofs.demo.demo_text.Goals as goal

pub loop-i-preserved : goal.loop-i-preserved
loop-i-preserved c = c.in_ok-add_atom.ensures ∙ ap (λ items. items ++ demo_atom (c.loop-i.i + 1)) c.loop-i.invariant ∙ sym (atoms_more c.loop-i.i)
