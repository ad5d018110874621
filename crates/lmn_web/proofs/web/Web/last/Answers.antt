use Rattle.std.proofs.Common.{◌≡◌, ◌<◌, ◌+◌, ℕ, List, [], ◌∷◌, ◌++◌, Some, None, sym, ap, subst, ◌∙◌, inl, inr}
use Rattle.std.specs.Option.{option_map}
use Rattle.lmn_web_cells.specs.Rows.{Row}
use Rattle.lmn_web_cells.specs.Cells.{cells_by}
use Rattle.lmn_web_cells.specs.CellIds.{cell_id}
use Rattle.lmn_web_cells.specs.Runs.{link_in}
use Rattle.lmn_web.specs.Webs.{web_by, cells_in, list_in, list_link, kind_at}
use Rattle.lmn_web.proofs.ListedLemmas.{kind_told, no_atom_by, ends_list, list_same, web_listed, matched_by, link_below}
use Rattle.lmn_web.specs.Indexes.{cell_kind}
use Rattle.lmn_web.specs.declared.kind.CellKind.TheVariants.{Atom, Membrane}
use Rattle.lmn_web.proofs.web.Web.last.Goals as goal

pub link-requires-clause-below : goal.link-requires-clause-below
link-requires-clause-below c = subst (λ e. e + 1 < 7) (sym c.first_link.ensures) (link_below c.args.kind)

pub returns-in-Membrane : goal.returns-in-Membrane
returns-in-Membrane c =
    let f = cells_by c.self.inside.cells in let m = cell_id c.args.home in let k = c.args.kind in let w = c.self.invariant.web in
    let membrane : cell_kind f m ≡ Atom → ⊥ = no_atom_by f (list_in f) m (subst (λ (z : List Row). kind_at (web_by z) m ≡ Membrane) (sym c.self.view_is) (kind_told (web_by c.args.self.now) m Membrane (c.kind.ensures ∙ ap Some c.in-Membrane.is))) in
    let link : link_in f m (list_link k + 1) ≡ option_map cell_id c.link.result = ap (λ e. link_in f m (e + 1)) (sym c.first_link.ensures) ∙ c.link.ensures in
    let list : cells_in (web_by c.args.self.now) m k ≡ list_in f m k = ap (λ (z : List Row). cells_in (web_by z) m k) (sym c.self.view_is) ∙ list_same f (list_in f) w.listed m k in
    let ends = ends_list f m (list_link k) (list_in f m k) (w.listed.line m k membrane) in
    matched_by cell_id c.link.result (cells_in (web_by c.args.self.now) m k ≡ []) (λ x. (xs : List ℕ) × (cells_in (web_by c.args.self.now) m k ≡ xs ++ x ∷ []))
    (λ n. elim ends [ inl e ↦ list ∙ e.0 | inr e ↦ absurd (let z : Some e.0 ≡ None = sym e.3 ∙ link ∙ n in cc) ])
    (λ q is. elim ends [ inl e ↦ absurd (let z : Some q ≡ None = sym (link ∙ is) ∙ e.1 in cc) | inr e ↦ (e.1, list ∙ e.2 ∙ (let z : Some e.0 ≡ Some q = sym e.3 ∙ link ∙ is in let same : e.0 ≡ q = cc in ap (λ x. e.1 ++ x ∷ []) same)) ])

pub returns-in-Atom : goal.returns-in-Atom
returns-in-Atom c =
    let f = cells_by c.self.inside.cells in let m = cell_id c.args.home in let k = c.args.kind in
    let atom : kind_at (web_by c.self.inside.cells) m ≡ Atom = subst (λ (z : List Row). kind_at (web_by z) m ≡ Atom) (sym c.self.view_is) (kind_told (web_by c.args.self.now) m Atom (c.kind.ensures ∙ ap Some c.in-Atom.is)) in
    subst (λ (z : List Row). cells_in (web_by z) m k ≡ []) c.self.view_is ((web_listed f (list_in f) c.self.invariant.web.listed).bare m k atom)
