use Rattle.std.proofs.Common.{None, ap, sym, ◌++◌, ◌∙◌}
use Rattle.std.proofs.lemmas.Bool.Decides.{Decides-eqb}
use Rattle.std.proofs.lemmas.Slice.Eq.{strip_prefix_is}
use Rattle.lmn_debug_script.proofs.LineLemmas.{front_unknown}
use Rattle.lmn_debug_script.proofs.reading.read_numbered.Goals as goal

pub returns-in-None-clause-order : goal.returns-in-None-clause-order
returns-in-None-clause-order c = λ line.
    let other = strip_prefix_is Decides-eqb c.args.front.now c.as_slice.result.now None c.in-None.ensures.cases in
    front_unknown c.args.front.now line c.args.n (c.is_text.ensures.no c.if-is_text.false) (c.is_text-2.ensures.no c.if-is_text-2.false)
    (λ rest e. other rest (e ∙ ap (λ t. t ++ rest) (sym c.as_slice.ensures)))
