use Rattle.std.proofs.Common.{◌≡◌, ◌<◌, List, length, get_or, replicate, subst, sym, arith}
use lib.ListN.{length-replicate}
use Rattle.lmn_web_rows.specs.Rows.{Item, blank, halves_in, items_in, place_of}
use Rattle.lmn_web_rows.specs.Seen.{Stored, shown, IsMade}
use Rattle.lmn_web_rows.proofs.StoreLemmas.{blank_at, carved, first_words, rest_there}
use Rattle.lmn_web_rows.proofs.store.Store.carve.Goals as goal

pub set_half-requires : goal.set_half-requires
set_half-requires c =
    let s = c.self.inside in let low = subst (λ (v : Stored). c.args.words < v.left) (sym c.self.view_is) c.requires.1 in let more = c.requires.0 in let rows = c.cut.new.self.rows in
    let is : items_in rows (place_of s.rest) ≡ replicate c.args.words blank = first_words s.rows.rows rows s.blocks.blocks s.all.items s.rest s.left c.args.words s.firsts c.self.invariant.0 (omega (arith, more)) low c.cut.ensures.1 c.cut.ensures.0 in (
      (rest_there s.rows.rows c.self.invariant.0.depth s.rest s.left c.args.words c.self.invariant.0.rest low).start,
      omega arith,
      subst (λ (is : List Item). 7 < length is) (sym is) (let l = length-replicate c.args.words blank in omega (arith, l, more)),
      subst (λ (is : List Item). 0 < length (halves_in (get_or is 7 blank))) (sym is) (subst (λ (i : Item). 0 < length (halves_in i)) (sym (blank_at c.args.words 7)) (omega arith)),
    )

pub invariant_of-self : goal.invariant_of-self
invariant_of-self c =
    let s = c.self.inside in let low = subst (λ (v : Stored). c.args.words < v.left) (sym c.self.view_is) c.requires.1 in let few = subst (λ (v : Stored). v.count < 4294967295) (sym c.self.view_is) c.requires.2 in
    let h = carved s.rows.rows c.cut.new.self.rows c.set_half.new.self.rows c.revive.new.self.rows s.blocks.blocks s.all.items s.rest c.behind-self-inside.result s.left c.args.words s.firsts s.count c.self.invariant.0 c.self.invariant.1 (omega (arith, few)) c.requires.0
    low c.cut.ensures.1 c.behind-self-inside.ensures.0 c.behind-self-inside.ensures.1 c.cut.ensures.0 c.set_half.ensures c.revive.ensures in (h.store, h.numbers)

pub returns : goal.returns
returns c =
    let s = c.self.inside in let low = subst (λ (v : Stored). c.args.words < v.left) (sym c.self.view_is) c.requires.1 in let few = subst (λ (v : Stored). v.count < 4294967295) (sym c.self.view_is) c.requires.2 in (
      (rest_there s.rows.rows c.self.invariant.0.depth s.rest s.left c.args.words c.self.invariant.0.rest low).start,
      subst (λ (v : Stored). IsMade v.rows (shown c.revive.new.self.rows) (place_of s.rest) c.args.words) c.self.view_is
          (carved s.rows.rows c.cut.new.self.rows c.set_half.new.self.rows c.revive.new.self.rows s.blocks.blocks s.all.items s.rest c.behind-self-inside.result s.left c.args.words s.firsts s.count c.self.invariant.0 c.self.invariant.1 (omega (arith, few)) c.requires.0
          low c.cut.ensures.1 c.behind-self-inside.ensures.0 c.behind-self-inside.ensures.1 c.cut.ensures.0 c.set_half.ensures c.revive.ensures).made,
    )
