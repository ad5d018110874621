use Rattle.lmn_weight.proofs.LineLemmas.{item_taken}
use Rattle.lmn_weight.proofs.reading.take_item.Goals as goal

pub returns-in-Some-clause-told : goal.returns-in-Some-clause-told
returns-in-Some-clause-told c =
    item_taken _ c.args.item.now c.args.weight _ _ c.in-Some.functor c.take_functor.result c.in_ok-functor.field-0 c.in-Some.is c.in_ok-functor.ensures.some c.in_ok-functor.ensures.short c.functor_is_narrow.ensures
    (c.is_text.ensures.no c.if-is_text.false) (c.is_text-2.ensures.no c.if-is_text-2.false) c.take_functor.ensures
