use Rattle.std.proofs.Common.{◌≡◌, ℕ, ◌<◌, Option, Some, None, sym, ap, subst, ◌∙◌, arith}
use Rattle.std.specs.Option.{option_map}
use Rattle.lmn_web_cells.specs.CellIds.{cell_id, port_id}
use Rattle.lmn_web.specs.Webs.{web_by}
use Rattle.lmn_web_merging.specs.Keepers.{is_retired}
use Rattle.lmn_web_merging.proofs.keeping.may_trade.Goals as goal

pub partner-requires : goal.partner-requires
partner-requires c = subst (λ i. 0 < i) (sym (c.requires.kept.ports (cell_id c.args.m) c.requires.source)) (omega arith)

pub has_retired-requires-clause-membrane : goal.has_retired-requires-clause-membrane
has_retired-requires-clause-membrane c =
    let m = cell_id c.args.m in let a = c.requires.kept in let k = cell_id c.in-Some.k in
    let p = c.partner.ensures ∙ ap (option_map port_id) c.in-Some.is in
    (a.joined m 0 k _ c.requires.source p).2

pub has_retired-requires-clause-ports : goal.has_retired-requires-clause-ports
has_retired-requires-clause-ports c =
    let m = cell_id c.args.m in let a = c.requires.kept in let k = cell_id c.in-Some.k in
    let p = c.partner.ensures ∙ ap (option_map port_id) c.in-Some.is in
    a.ports k (a.joined m 0 k _ c.requires.source p).2

pub returns-in-None-clause-given : goal.returns-in-None-clause-given
returns-in-None-clause-given c _ k e = absurd (let z : ◌≡◌ {A = Option (ℕ × ℕ)} None (Some (k, 0)) = sym (c.partner.ensures ∙ ap (option_map port_id) c.in-None.is) ∙ e in cc)

pub returns-in-Some-clause-given : goal.returns-in-Some-clause-given
returns-in-Some-clause-given c e j q =
    let w = web_by c.args.web.now in
    let p = c.partner.ensures ∙ ap (option_map port_id) c.in-Some.is in
    let same : ◌≡◌ {A = ℕ × ℕ} (port_id (c.in-Some.k, c.in-Some.field-0-1)) (j, 0) = let z : ◌≡◌ {A = Option (ℕ × ℕ)} (Some (port_id (c.in-Some.k, c.in-Some.field-0-1))) (Some (j, 0)) = sym p ∙ q in cc in
    ap (λ y. is_retired (w y)) (sym (ap (λ y. y.0) same)) ∙ sym c.has_retired.ensures ∙ e
