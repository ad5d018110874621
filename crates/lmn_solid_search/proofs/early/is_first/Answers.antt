use Rattle.std.proofs.Common.{◌∙◌, ap, arith, sym}
use Rattle.std.proofs.lemmas.Option.{same_Some, slice_get-get_or}
use Rattle.lmn_solid_search.specs.declared.head.TypedItem.{TypedItem}
use Rattle.lmn_solid_search.proofs.ForetellingLemmas.{names_more}
use Rattle.lmn_solid_search.proofs.early.is_first.Goals as goal

pub loop-other-preserved : goal.loop-other-preserved
loop-other-preserved c =
    names_more c.args.typed.now c.loop-other.other _ _ (slice_get-get_or c.args.typed.now c.loop-other.other _ (let l = c.loop-other-test.true in let m = c.requires in omega (arith, l, m))) c.if-typed-other.false c.loop-other.invariant

pub returns : goal.returns
returns c =
    λ z k t u l e at g. c.loop-other.invariant k u (let m = c.loop-other-test.false in omega (arith, l, m)) e
    (g ∙ ap (λ (v : TypedItem). v.name) (same_Some _ _ (sym at ∙ slice_get-get_or c.args.typed.now c.args.number _ c.requires)))
