use Rattle.std.proofs.Common.{◌≡◌, ℕ, List, Option, Some, IsSome, refl, sym, ap, subst, ◌∙◌}
use Rattle.lmn_web_cells.specs.Rows.{Row}
use Rattle.lmn_web_cells.specs.CellIds.{cell_id}
use Rattle.lmn_web.specs.Webs.{web_by, kind_at, home_at, unlinked}
use Rattle.lmn_web_merging.specs.Keepers.{keeper, seen, merged_by}
use Rattle.lmn_web_merging.specs.Moves.{AreKept}
use Rattle.lmn_web_merging.proofs.Seen.{home_under, homed, seen_kind}
use Rattle.lmn_web_merging.proofs.Labelled.{unlinked_both}
use Rattle.lmn_base.proofs.Lists.{some_is}
use Rattle.lmn_web_merging.proofs.merging.MergingWeb.unlink.Goals as goal

pub unlink-requires-clause-listed : goal.unlink-requires-clause-listed
unlink-requires-clause-listed c =
    let w = web_by c.self.inside.web in let x = cell_id c.args.c in let a = c.self.invariant in let r = c.paired.ensures in
    let h = some_is (home_at (seen w) x) (subst (λ (z : List Row). IsSome (home_at (merged_by z) x)) (sym c.self.view_is) c.requires.listed) in
    let u = home_under w r a x h.0 h.1 in
    subst (λ (o : Option ℕ). IsSome o) (sym u) refl

pub unlink-requires-clause-kind : goal.unlink-requires-clause-kind
unlink-requires-clause-kind c =
    let w = web_by c.self.inside.web in let x = cell_id c.args.c in let a = c.self.invariant in let r = c.paired.ensures in
    let h = some_is (home_at (seen w) x) (subst (λ (z : List Row). IsSome (home_at (merged_by z) x)) (sym c.self.view_is) c.requires.listed) in
    let u = home_under w r a x h.0 h.1 in
    sym (seen_kind w x (homed w r a x (keeper w h.0) u)) ∙ subst (λ (z : List Row). kind_at (merged_by z) x ≡ c.args.kind) (sym c.self.view_is) c.requires.kind

pub invariant_of-self : goal.invariant_of-self
invariant_of-self c =
    let w = web_by c.self.inside.web in let x = cell_id c.args.c in let a = c.self.invariant in let r = c.paired.ensures in
    let h = some_is (home_at (seen w) x) (subst (λ (z : List Row). IsSome (home_at (merged_by z) x)) (sym c.self.view_is) c.requires.listed) in
    let u = home_under w r a x h.0 h.1 in
    subst AreKept (sym (c.unlink.ensures (keeper w h.0) u)) (unlinked_both w c.listed.ensures r a x h.0 h.1).0

pub returns : goal.returns
returns c m e =
    let w = web_by c.self.inside.web in let x = cell_id c.args.c in let a = c.self.invariant in let r = c.paired.ensures in
    let h = some_is (home_at (seen w) x) (subst (λ (z : List Row). IsSome (home_at (merged_by z) x)) (sym c.self.view_is) c.requires.listed) in
    let u = home_under w r a x h.0 h.1 in
    let e0 : home_at (seen w) x ≡ Some m = ap (λ (z : List Row). home_at (merged_by z) x) c.self.view_is ∙ e in
    ap seen (c.unlink.ensures (keeper w m) (home_under w r a x m e0)) ∙ (unlinked_both w c.listed.ensures r a x m e0).1 ∙ ap (λ (z : List Row). unlinked (merged_by z) m x) c.self.view_is
