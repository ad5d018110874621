use Rattle.std.proofs.Common.{◌≡◌, List, IfSome, sym, ap, subst, ◌∙◌}
use Rattle.std.specs.Option.{option_map}
use Rattle.lmn_base.specs.Lists.{In}
use Rattle.lmn_store_heap.specs.Lists.{from}
use Rattle.lmn_web_cells.specs.Rows.{Row}
use Rattle.lmn_web_cells.specs.CellIds.{cell_id}
use Rattle.lmn_web.specs.declared.kind.CellKind.TheVariants.{Atom, Membrane}
use Rattle.lmn_web.specs.Webs.{web_by, kind_at, cells_in, with_label}
use Rattle.lmn_web_merging.specs.Keepers.{keeper, seen, merged_by}
use Rattle.lmn_web_merging.proofs.Seen.{seen_membrane, seen_cells, keeper_kind}
use Rattle.lmn_web_merging.proofs.Sending.{home_of_first}
use Rattle.lmn_web_merging.proofs.Labelled.{labelled_alike}
use Rattle.lmn_web_merging.proofs.merging.MergingWeb.first_with.Goals as goal

pub keeper_of-requires-clause-membrane : goal.keeper_of-requires-clause-membrane
keeper_of-requires-clause-membrane c = (seen_membrane (web_by c.self.inside.web) (cell_id c.args.home) (subst (λ (z : List Row). kind_at (merged_by z) (cell_id c.args.home) ≡ Membrane) (sym c.self.view_is) c.requires)).0

pub keeper_of-requires-clause-ports : goal.keeper_of-requires-clause-ports
keeper_of-requires-clause-ports c = c.self.invariant.ports (cell_id c.args.home) (seen_membrane (web_by c.self.inside.web) (cell_id c.args.home) (subst (λ (z : List Row). kind_at (merged_by z) (cell_id c.args.home) ≡ Membrane) (sym c.self.view_is) c.requires)).0

pub first_with-requires : goal.first_with-requires
first_with-requires c =
    let w = web_by c.self.inside.web in let m = cell_id c.args.home in let a = c.self.invariant in let r = c.paired.ensures in
    let t = seen_membrane (web_by c.self.inside.web) (cell_id c.args.home) (subst (λ (z : List Row). kind_at (merged_by z) (cell_id c.args.home) ≡ Membrane) (sym c.self.view_is) c.requires) in
    let k : cell_id c.keeper_of.result ≡ keeper w m = c.keeper_of.ensures in
    (ap (kind_at w) k ∙ keeper_kind w r a m t.0)

pub returns-clause-list : goal.returns-clause-list
returns-clause-list c =
    let w = web_by c.self.inside.web in let m = cell_id c.args.home in let a = c.self.invariant in let r = c.paired.ensures in
    let t = seen_membrane (web_by c.self.inside.web) (cell_id c.args.home) (subst (λ (z : List Row). kind_at (merged_by z) (cell_id c.args.home) ≡ Membrane) (sym c.self.view_is) c.requires) in
    let k : cell_id c.keeper_of.result ≡ keeper w m = c.keeper_of.ensures in
    let o = option_map cell_id c.first_with.result in
    subst (λ (z : List Row). from o (with_label (merged_by z) c.args.label c.args.arity (cells_in (merged_by z) m Atom)) ≡ with_label (merged_by z) c.args.label c.args.arity (cells_in (merged_by z) m Atom)) c.self.view_is
    (subst (λ us. from o us ≡ us) (ap (λ z. with_label w c.args.label c.args.arity (cells_in w z Atom)) k ∙ sym (labelled_alike w c.listed.ensures r a m c.args.label c.args.arity)) c.first_with.ensures.list)

pub returns-clause-there : goal.returns-clause-there
returns-clause-there c =
    let w = web_by c.self.inside.web in let m = cell_id c.args.home in let a = c.self.invariant in let r = c.paired.ensures in
    let t = seen_membrane (web_by c.self.inside.web) (cell_id c.args.home) (subst (λ (z : List Row). kind_at (merged_by z) (cell_id c.args.home) ≡ Membrane) (sym c.self.view_is) c.requires) in
    let k : cell_id c.keeper_of.result ≡ keeper w m = c.keeper_of.ensures in
    subst (λ (z : List Row). IfSome c.first_with.result (λ x. In (cell_id x) (cells_in (merged_by z) m Atom))) c.self.view_is
    (home_of_first cell_id c.first_with.result (λ x. In x (cells_in w (cell_id c.keeper_of.result) Atom)) (λ x. In x (cells_in (seen w) m Atom)) (λ x i. subst (λ us. In x us) (ap (λ z. cells_in w z Atom) k ∙ sym (seen_cells w r a m Atom)) i) c.first_with.ensures.there)
