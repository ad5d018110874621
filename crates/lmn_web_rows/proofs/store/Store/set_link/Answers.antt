use Rattle.std.proofs.Common.{◌≡◌, ◌<◌, List, length, set, sym, subst}
use Rattle.lmn_web_rows.specs.Rows.{Item, place_of, items_in, with_items, link}
use Rattle.lmn_web_rows.specs.Seen.{Stored, shown}
use Rattle.lmn_web_rows.proofs.StoreLemmas.{row_same, written, written_seen, written_numbers}
use Rattle.lmn_web_rows.proofs.store.Store.set_link.Goals as goal

pub set_link-requires : goal.set_link-requires
set_link-requires c =
    let n = place_of c.args.at in let low = subst (λ (v : Stored). c.args.k < length (items_in v.rows n)) (sym c.self.view_is) c.requires.3 in
    (c.requires.0, c.requires.1, subst (λ (is : List Item). c.args.k < length is) (row_same c.self.inside.rows.rows n c.args.k low) low)

pub invariant_of-self : goal.invariant_of-self
invariant_of-self c =
    let s = c.self.inside in let n = place_of c.args.at in let low = subst (λ (v : Stored). c.args.k < length (items_in v.rows n)) (sym c.self.view_is) c.requires.3 in (
      written s.rows.rows c.set_link.new.self.rows s.blocks.blocks s.all.items s.rest s.left s.firsts n c.args.k (link c.args.to) c.self.invariant.0 low c.set_link.ensures,
      written_numbers s.rows.rows c.set_link.new.self.rows s.count n c.args.k (link c.args.to) c.self.invariant.1 (subst (λ (is : List Item). c.args.k < length is) (row_same s.rows.rows n c.args.k low) low) c.requires.2 c.set_link.ensures,
    )

pub returns : goal.returns
returns c =
    let s = c.self.inside in let n = place_of c.args.at in let low = subst (λ (v : Stored). c.args.k < length (items_in v.rows n)) (sym c.self.view_is) c.requires.3 in
    subst (λ (v : Stored). shown c.set_link.new.self.rows ≡ with_items n (set (items_in v.rows n) c.args.k (link c.args.to)) v.rows) c.self.view_is (written_seen s.rows.rows c.set_link.new.self.rows n c.args.k (link c.args.to) low c.set_link.ensures)
