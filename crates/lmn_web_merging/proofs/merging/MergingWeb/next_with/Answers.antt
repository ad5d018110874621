use Rattle.std.proofs.Common.{◌≡◌, ℕ, List, Option, Some, IsSome, IfSome, refl, sym, ap, subst, ◌∙◌, length}
use Rattle.std.specs.Option.{option_map}
use Rattle.lmn_base.specs.Lists.{In}
use Rattle.lmn_store_heap.specs.Lists.{from, after}
use Rattle.lmn_web_cells.specs.Rows.{Row}
use Rattle.lmn_web_cells.specs.CellIds.{cell_id}
use Rattle.lmn_web.specs.declared.kind.CellKind.TheVariants.{Atom}
use Rattle.lmn_web.specs.Webs.{web_by, kind_at, home_at, arity_at, cells_in, web_label, with_label}
use Rattle.lmn_web_merging.specs.Keepers.{keeper, seen, merged_by}
use Rattle.lmn_web_merging.proofs.Seen.{home_under, seen_cells, seen_kind, seen_label, atom_partners, homed}
use Rattle.lmn_web_merging.proofs.Sending.{home_of_first}
use Rattle.lmn_web_merging.proofs.Labelled.{labelled_alike}
use Rattle.lmn_base.proofs.Lists.{some_is}
use Rattle.lmn_web_merging.proofs.merging.MergingWeb.next_with.Goals as goal

pub next_with-requires-clause-home : goal.next_with-requires-clause-home
next_with-requires-clause-home c =
    let w = web_by c.self.inside.web in let x = cell_id c.args.c in let a = c.self.invariant in let r = c.paired.ensures in
    let h = some_is (home_at (seen w) x) (subst (λ (z : List Row). IsSome (home_at (merged_by z) x)) (sym c.self.view_is) c.requires.home) in
    let u = home_under w r a x h.0 h.1 in let t = homed w r a x (keeper w h.0) u in
    let k : kind_at w x ≡ Atom = sym (seen_kind w x t) ∙ subst (λ (z : List Row). kind_at (merged_by z) x ≡ Atom) (sym c.self.view_is) c.requires.atom in
    subst (λ (o : Option ℕ). IsSome o) (sym u) refl

pub next_with-requires-clause-atom : goal.next_with-requires-clause-atom
next_with-requires-clause-atom c =
    let w = web_by c.self.inside.web in let x = cell_id c.args.c in let a = c.self.invariant in let r = c.paired.ensures in
    let h = some_is (home_at (seen w) x) (subst (λ (z : List Row). IsSome (home_at (merged_by z) x)) (sym c.self.view_is) c.requires.home) in
    let u = home_under w r a x h.0 h.1 in let t = homed w r a x (keeper w h.0) u in
    let k : kind_at w x ≡ Atom = sym (seen_kind w x t) ∙ subst (λ (z : List Row). kind_at (merged_by z) x ≡ Atom) (sym c.self.view_is) c.requires.atom in
    k

pub returns-clause-list : goal.returns-clause-list
returns-clause-list c m label e f =
    let w = web_by c.self.inside.web in let x = cell_id c.args.c in let a = c.self.invariant in let r = c.paired.ensures in
    let h = some_is (home_at (seen w) x) (subst (λ (z : List Row). IsSome (home_at (merged_by z) x)) (sym c.self.view_is) c.requires.home) in
    let u = home_under w r a x h.0 h.1 in let t = homed w r a x (keeper w h.0) u in
    let k : kind_at w x ≡ Atom = sym (seen_kind w x t) ∙ subst (λ (z : List Row). kind_at (merged_by z) x ≡ Atom) (sym c.self.view_is) c.requires.atom in
    let e0 : home_at (seen w) x ≡ Some m = ap (λ (z : List Row). home_at (merged_by z) x) c.self.view_is ∙ e in
    let f0 : web_label w x ≡ Some label = sym (seen_label w x t) ∙ ap (λ (z : List Row). web_label (merged_by z) x) c.self.view_is ∙ f in
    let o = option_map cell_id c.next_with.result in
    let n : arity_at (seen w) x ≡ arity_at w x = ap (λ (ps : List (Option (ℕ × ℕ))). length ps) (atom_partners w x k) in
    let all : with_label (seen w) label (arity_at (seen w) x) (cells_in (seen w) m Atom) ≡ with_label w label (arity_at w x) (cells_in w (keeper w m) Atom) =
    labelled_alike w c.listed.ensures r a m label (arity_at (seen w) x) ∙ ap (λ i. with_label w label i (cells_in w (keeper w m) Atom)) n in
    subst (λ (z : List Row). from o (with_label (merged_by z) label (arity_at (merged_by z) x) (cells_in (merged_by z) m Atom)) ≡ after x (with_label (merged_by z) label (arity_at (merged_by z) x) (cells_in (merged_by z) m Atom))) c.self.view_is
    (subst (λ us. from o us ≡ after x us) (sym all) (c.next_with.ensures.list (keeper w m) label (home_under w r a x m e0) f0))

pub returns-clause-there : goal.returns-clause-there
returns-clause-there c m e =
    let w = web_by c.self.inside.web in let x = cell_id c.args.c in let a = c.self.invariant in let r = c.paired.ensures in
    let e0 : home_at (seen w) x ≡ Some m = ap (λ (z : List Row). home_at (merged_by z) x) c.self.view_is ∙ e in
    subst (λ (z : List Row). IfSome c.next_with.result (λ d. In (cell_id d) (cells_in (merged_by z) m Atom))) c.self.view_is
    (home_of_first cell_id c.next_with.result (λ d. In d (cells_in w (keeper w m) Atom)) (λ d. In d (cells_in (seen w) m Atom)) (λ d i. subst (λ us. In d us) (sym (seen_cells w r a m Atom)) i) (c.next_with.ensures.there (keeper w m) (home_under w r a x m e0)))
