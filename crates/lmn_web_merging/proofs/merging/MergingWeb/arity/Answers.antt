use Rattle.std.proofs.Common.{◌≡◌, ℕ, List, Option, IsSome, sym, ap, subst, ◌∙◌, length}
use Rattle.lmn_web_cells.specs.Rows.{Row}
use Rattle.lmn_web_cells.specs.CellIds.{cell_id}
use Rattle.lmn_web.specs.declared.kind.CellKind.TheVariants.{Atom}
use Rattle.lmn_web.specs.Webs.{web_by, kind_at, arity_at}
use Rattle.lmn_web_merging.specs.Keepers.{merged_by}
use Rattle.lmn_web_merging.proofs.Seen.{seen_there, seen_kind, atom_partners}
use Rattle.lmn_web_merging.proofs.merging.MergingWeb.arity.Goals as goal

pub arity-requires : goal.arity-requires
arity-requires c = (seen_there (web_by c.self.inside.web) (cell_id c.args.c) (subst (λ (z : List Row). IsSome (merged_by z (cell_id c.args.c))) (sym c.self.view_is) c.requires.there)).0

pub returns : goal.returns
returns c =
    let w = web_by c.self.inside.web in let x = cell_id c.args.c in let t = seen_there (web_by c.self.inside.web) (cell_id c.args.c) (subst (λ (z : List Row). IsSome (merged_by z (cell_id c.args.c))) (sym c.self.view_is) c.requires.there) in
    let k : kind_at w x ≡ Atom = sym (seen_kind w x t.1) ∙ subst (λ (z : List Row). kind_at (merged_by z) x ≡ Atom) (sym c.self.view_is) c.requires.atom in
    subst (λ (z : List Row). c.arity.result ≡ arity_at (merged_by z) x) c.self.view_is (c.arity.ensures ∙ ap (λ (ps : List (Option (ℕ × ℕ))). length ps) (sym (atom_partners w x k)))
