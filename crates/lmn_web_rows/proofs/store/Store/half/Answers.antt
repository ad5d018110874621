use Rattle.std.proofs.Common.{◌≡◌, ◌∙◌, List, Some, sym, subst, ap}
use Rattle.lmn_web_rows.specs.Rows.{Item, place_of, items_in, half_at}
use Rattle.lmn_web_rows.specs.Seen.{Stored}
use Rattle.lmn_web_rows.proofs.StoreLemmas.{half_same}
use Rattle.lmn_web_rows.proofs.store.Store.half.Goals as goal

pub half-requires : goal.half-requires
half-requires c =
    let rows = c.self.inside.rows.rows in let n = place_of c.args.at in
    let known = subst (λ (v : Stored). half_at (items_in v.rows n) c.args.j ≡ Some c.requires.2.0) (sym c.self.view_is) c.requires.2.1 in
    (c.requires.0, c.requires.1, (c.requires.2.0, ap (λ (is : List Item). half_at is c.args.j) (sym (half_same rows n c.args.j _ known)) ∙ known))

pub returns : goal.returns
returns c =
    let rows = c.self.inside.rows.rows in let n = place_of c.args.at in
    let known = subst (λ (v : Stored). half_at (items_in v.rows n) c.args.j ≡ Some c.requires.2.0) (sym c.self.view_is) c.requires.2.1 in
    subst (λ (v : Stored). half_at (items_in v.rows n) c.args.j ≡ Some c.half.result) c.self.view_is (ap (λ (is : List Item). half_at is c.args.j) (half_same rows n c.args.j _ known) ∙ c.half.ensures)
