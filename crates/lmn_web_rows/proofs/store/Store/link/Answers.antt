use Rattle.std.proofs.Common.{◌≡◌, ◌∙◌, List, get_or, sym, subst, ap}
use Rattle.lmn_web_rows.specs.Rows.{Item, place_of, items_in, link, blank}
use Rattle.lmn_web_rows.specs.Seen.{Stored}
use Rattle.lmn_web_rows.proofs.StoreLemmas.{word_same}
use Rattle.lmn_web_rows.proofs.store.Store.link.Goals as goal

pub link-requires : goal.link-requires
link-requires c =
    let rows = c.self.inside.rows.rows in let n = place_of c.args.at in
    let known = subst (λ (v : Stored). get_or (items_in v.rows n) c.args.k blank ≡ link c.requires.2.0) (sym c.self.view_is) c.requires.2.1 in
    (c.requires.0, c.requires.1, (c.requires.2.0, ap (λ (is : List Item). get_or is c.args.k blank) (sym (word_same rows n c.args.k _ known)) ∙ known))

pub returns : goal.returns
returns c =
    let rows = c.self.inside.rows.rows in let n = place_of c.args.at in
    let known = subst (λ (v : Stored). get_or (items_in v.rows n) c.args.k blank ≡ link c.requires.2.0) (sym c.self.view_is) c.requires.2.1 in
    subst (λ (v : Stored). get_or (items_in v.rows n) c.args.k blank ≡ link c.link.result) c.self.view_is (ap (λ (is : List Item). get_or is c.args.k blank) (word_same rows n c.args.k _ known) ∙ c.link.ensures)
