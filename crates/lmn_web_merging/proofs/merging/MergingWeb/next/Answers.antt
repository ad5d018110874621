use Rattle.std.proofs.Common.{◌≡◌, ℕ, List, Option, Some, IsSome, IfSome, refl, sym, ap, subst, ◌∙◌}
use Rattle.std.specs.Option.{option_map}
use Rattle.lmn_store_heap.specs.Lists.{from, after}
use Rattle.lmn_web_cells.specs.Rows.{Row}
use Rattle.lmn_web_cells.specs.CellIds.{cell_id}
use Rattle.lmn_web.specs.Webs.{web_by, kind_at, home_at, cells_in}
use Rattle.lmn_web_merging.specs.Keepers.{keeper, seen, merged_by}
use Rattle.lmn_web_merging.proofs.Seen.{home_under, seen_cells, seen_kind, seen_home, homed}
use Rattle.lmn_web_merging.proofs.Sending.{home_of_first}
use Rattle.lmn_base.proofs.Lists.{some_is}
use Rattle.lmn_web_merging.proofs.merging.MergingWeb.next.Goals as goal

pub next-requires : goal.next-requires
next-requires c =
    let w = web_by c.self.inside.web in let x = cell_id c.args.c in let a = c.self.invariant in let r = c.paired.ensures in
    let h = some_is (home_at (seen w) x) (subst (λ (z : List Row). IsSome (home_at (merged_by z) x)) (sym c.self.view_is) c.requires) in
    subst (λ (o : Option ℕ). IsSome o) (sym (home_under w r a x h.0 h.1)) refl

pub returns-clause-list : goal.returns-clause-list
returns-clause-list c m e =
    let w = web_by c.self.inside.web in let x = cell_id c.args.c in let a = c.self.invariant in let r = c.paired.ensures in
    let e0 : home_at (seen w) x ≡ Some m = ap (λ (z : List Row). home_at (merged_by z) x) c.self.view_is ∙ e in
    let h = home_under w r a x m e0 in
    let o = option_map cell_id c.next.result in
    let list : cells_in (seen w) m (kind_at (seen w) x) ≡ cells_in w (keeper w m) (kind_at w x) = seen_cells w r a m (kind_at (seen w) x) ∙ ap (cells_in w (keeper w m)) (seen_kind w x (homed w r a x (keeper w m) h)) in
    subst (λ (z : List Row). from o (cells_in (merged_by z) m (kind_at (merged_by z) x)) ≡ after x (cells_in (merged_by z) m (kind_at (merged_by z) x))) c.self.view_is
    (subst (λ us. from o us ≡ after x us) (sym list) (c.next.ensures.list (keeper w m) h))

pub returns-clause-home : goal.returns-clause-home
returns-clause-home c =
    let w = web_by c.self.inside.web in let x = cell_id c.args.c in let a = c.self.invariant in let r = c.paired.ensures in
    subst (λ (z : List Row). IfSome c.next.result (λ d. home_at (merged_by z) (cell_id d) ≡ home_at (merged_by z) x)) c.self.view_is
    (home_of_first cell_id c.next.result (λ d. home_at w d ≡ home_at w x) (λ d. home_at (seen w) d ≡ home_at (seen w) x) (λ d e. seen_home w r a d ∙ ap (option_map (keeper w)) e ∙ sym (seen_home w r a x)) c.next.ensures.home)
