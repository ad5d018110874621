use Rattle.std.proofs.Common.{◌≡◌, ◌∙◌, ◌+◌, ◌<◌, ℕ, List, ◌∷◌, ap, drop, inl, length, map, subst, sym, true}
use Rattle.std.specs.Prelude.{if◌then◌else◌}
use Rattle.std.proofs.Math.ListN.{get_or}
use Rattle.std.proofs.lemmas.List.{drop_more}
use Rattle.lmn_base.proofs.Numbers.{not_equal as apart_test}
use Rattle.lmn_base.proofs.Truth.{never_both}
use Rattle.lmn_ground_parts.specs.Walks.{is_in}
use Rattle.lmn_ground.specs.Rests.{AreMembranes}
use Rattle.lmn_ground_parts.proofs.AnswerLaws.{is_in_true}
use Rattle.lmn_ground.proofs.rest.is_among.Goals as goal

-- the item comes first in what is left
item_first : {A : Type 0} (xs : List A) (k : ℕ) (x : A) → k < length xs → x ≡ get_or xs k x → drop k xs ≡ x ∷ drop (k + 1) xs
item_first xs k x l e = drop_more xs k x l ∙ ap (λ y. y ∷ drop (k + 1) xs) (sym e)

-- another number is skipped
other_skipped : (x m : ℕ) (xs : List ℕ) → (x ≡ m → ⊥) → is_in (x ∷ xs) m ≡ is_in xs m
other_skipped x m xs d = ap (λ t. if t then true else is_in xs m) (apart_test x m d)

pub returns-then-same_mem : goal.returns-then-same_mem
returns-then-same_mem g c =
    let id = g.S.LinkStore.mem_id in
    let m = id c.args.m in
    let e = item_first c.args.out.now c.loop-other.other-index c.other-item.result c.loop-other-test.true c.other-item.is in
    sym (is_in_true m (map id (c.other-item.result ∷ drop (c.loop-other.other-index + 1) c.args.out.now)) (inl (c.same_mem.ensures.0 c.if-same_mem.true)))
    ∙ ap (λ zs. is_in (map id zs) m) (sym e) ∙ c.loop-other.invariant.left

pub loop-other-preserved : goal.loop-other-preserved
loop-other-preserved g c =
    let id = g.S.LinkStore.mem_id in
    let m = id c.args.m in
    let e = item_first c.args.out.now c.loop-other.other-index c.other-item.result c.loop-other-test.true c.other-item.is in
    record {
      there = (subst (λ zs. AreMembranes (g.S.LinkStore.heap c.args.store.now) (map id zs)) e c.loop-other.invariant.there).1;
      left = sym (other_skipped (id c.other-item.result) m (map id (drop (c.loop-other.other-index + 1) c.args.out.now)) (λ s. never_both _ (c.same_mem.ensures.1 s) c.if-same_mem.false))
          ∙ ap (λ zs. is_in (map id zs) m) (sym e) ∙ c.loop-other.invariant.left;
    }
