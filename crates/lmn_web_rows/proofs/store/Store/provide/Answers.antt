use Rattle.std.proofs.Common.{◌++◌, [], ◌∷◌, List, ◌∙◌, ap, subst, refl}
use denote.RawPtr.{Ptr}
use Rattle.lmn_web_rows.specs.Rows.{place_of}
use Rattle.lmn_web_rows.specs.Seen.{Stored, shown, HaveSameWords}
use Rattle.lmn_web_rows.proofs.StoreLemmas.{grown, block_place}
use Rattle.lmn_web_rows.proofs.store.Store.provide.Goals as goal

pub invariant_of-self-2 : goal.invariant_of-self-2
invariant_of-self-2 c =
    let s = c.self.inside in let p = c.in_ok-at.at in let h = c.in_ok-at.ensures in
    let g = grown s.rows.rows c.make.new.rows.rows s.blocks.blocks c.make.new.self.blocks s.all.items c.push_reserved.new.self.items s.rest p s.left 262144 s.firsts c.self.invariant.0 h.0 refl (h.1 (place_of p) (block_place p h.0)) h.2 h.3
    (c.push_reserved.ensures.items ∙ ap (λ (xs : List Ptr). xs ++ p ∷ []) c.reserve.ensures.items) in (g.0, g.2 s.count c.self.invariant.1)

pub returns-clause-rows : goal.returns-clause-rows
returns-clause-rows c =
    let s = c.self.inside in let p = c.in_ok-at.at in let h = c.in_ok-at.ensures in
    subst (λ (v : Stored). HaveSameWords v.rows (shown c.make.new.rows.rows)) c.self.view_is
    (grown s.rows.rows c.make.new.rows.rows s.blocks.blocks c.make.new.self.blocks s.all.items c.push_reserved.new.self.items s.rest p s.left 262144 s.firsts c.self.invariant.0 h.0 refl (h.1 (place_of p) (block_place p h.0)) h.2 h.3
    (c.push_reserved.ensures.items ∙ ap (λ (xs : List Ptr). xs ++ p ∷ []) c.reserve.ensures.items)).1
