use Rattle.std.proofs.Common.{◌≡◌, ◌/◌, ◌%◌, ◌<◌, List, length, get_or, sym, subst, arith}
use Rattle.lmn_web_rows.specs.Rows.{Item, blank, place_of, items_in, with_items, with_half, with_half_at, halves_in}
use Rattle.lmn_web_rows.specs.Seen.{Stored, shown}
use Rattle.lmn_web_rows.proofs.Lookups.{live_seen}
use Rattle.lmn_web_rows.proofs.StoreLemmas.{row_same, written, half_written_seen, half_numbers}
use Rattle.lmn_web_rows.proofs.store.Store.set_half.Goals as goal

pub set_half-requires : goal.set_half-requires
set_half-requires c =
    let n = place_of c.args.at in let low = subst (λ (v : Stored). c.args.j / 2 < length (items_in v.rows n)) (sym c.self.view_is) c.requires.3 in
    let half = subst (λ (v : Stored). c.args.j % 2 < length (halves_in (get_or (items_in v.rows n) (c.args.j / 2) blank))) (sym c.self.view_is) c.requires.4 in
    let same = row_same c.self.inside.rows.rows n (c.args.j / 2) low in (
      c.requires.0,
      c.requires.1,
      subst (λ (is : List Item). c.args.j / 2 < length is) same low,
      subst (λ (is : List Item). c.args.j % 2 < length (halves_in (get_or is (c.args.j / 2) blank))) same half,
    )

pub invariant_of-self : goal.invariant_of-self
invariant_of-self c =
    let s = c.self.inside in let n = place_of c.args.at in let low = subst (λ (v : Stored). c.args.j / 2 < length (items_in v.rows n)) (sym c.self.view_is) c.requires.3 in
    let live = live_seen s.rows.rows n (let l = low in omega (arith, l)) in (
      written s.rows.rows c.set_half.new.self.rows s.blocks.blocks s.all.items s.rest s.left s.firsts n (c.args.j / 2) (with_half (c.args.j % 2) c.args.n (get_or (items_in s.rows.rows n) (c.args.j / 2) blank)) c.self.invariant.0 low c.set_half.ensures,
      half_numbers s.rows.rows c.set_half.new.self.rows s.count n c.args.j c.args.n c.self.invariant.1 live (subst (λ (is : List Item). c.args.j / 2 < length is) (row_same s.rows.rows n (c.args.j / 2) low) low) c.requires.2 c.set_half.ensures,
    )

pub returns : goal.returns
returns c =
    let s = c.self.inside in let n = place_of c.args.at in let low = subst (λ (v : Stored). c.args.j / 2 < length (items_in v.rows n)) (sym c.self.view_is) c.requires.3 in
    subst (λ (v : Stored). shown c.set_half.new.self.rows ≡ with_items n (with_half_at c.args.j c.args.n (items_in v.rows n)) v.rows) c.self.view_is (half_written_seen s.rows.rows c.set_half.new.self.rows n c.args.j c.args.n low c.set_half.ensures)
