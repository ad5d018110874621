use Rattle.std.proofs.Common.{◌≡◌, ◌++◌, ◌∷◌, [], ◌∙◌, ap, arith, rules, subst}
use Rattle.std.specs.List.Sorted.{IsPermutation}
use Rattle.lmn_weight.proofs.IndexLemmas.{one_place_more, sorted_index}
use Rattle.lmn_weight.proofs.index.fill.Goals as goal

pub loop-place-preserved : goal.loop-place-preserved
loop-place-preserved c =
    let pushed : c.try_push.new.self.items ≡ c.loop-place.index.items ++ c.loop-place.place ∷ [] = search rules in
    pushed ∙ ap (λ ps. ps ++ c.loop-place.place ∷ []) c.loop-place.invariant ∙ one_place_more c.loop-place.place

pub returns : goal.returns
returns c = λ t. sorted_index c.args.functors.now c.loop-place.index.items c.sort.new.places c.loop-place.place c.loop-place.invariant (omega arith) (subst (λ ps. IsPermutation ps c.sort.new.places) c.as_mut_slice.ensures.value c.sort.ensures.of) c.sort.ensures.rising
