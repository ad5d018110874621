use Rattle.std.proofs.Common.{◌≡◌, ℕ, ◌<◌, true, false, Option, Some, None, sym, ap, subst, ◌∙◌, arith}
use Rattle.std.specs.Option.{option_map}
use Rattle.lmn_store_heap.specs.Heap.{alter}
use Rattle.lmn_web_cells.specs.CellIds.{cell_id, port_id}
use Rattle.lmn_web.specs.Webs.{WebCell, web_by, cells_in, partner_at, IsLoose}
use Rattle.lmn_web_merging.specs.Keepers.{is_retired}
use Rattle.lmn_web_merging.specs.Moves.{LetsGo}
use Rattle.lmn_web_merging.proofs.Leaving.{keeper_is, other_kind, other_loose, let_go_freed, let_go_parted, lets_nothing_go}
use Rattle.lmn_web_merging.proofs.keeping.let_go.Goals as goal

pub partner-requires : goal.partner-requires
partner-requires c = subst (λ i. 0 < i) (sym (c.requires.kept.ports (cell_id c.args.n) c.requires.membrane)) (omega arith)

pub has_retired-requires-clause-membrane : goal.has_retired-requires-clause-membrane
has_retired-requires-clause-membrane c =
    let w = web_by c.args.web.now in let n = cell_id c.args.n in let a = c.requires.kept in let r = c.paired.ensures in let e = c.requires.membrane in
    let d = cell_id c.in-Some.d in let p0 = c.partner.ensures ∙ ap (option_map port_id) c.in-Some.is in
    let p : partner_at w n 0 ≡ Some (d, 0) = p0 ∙ ap (λ j. Some (d, j)) (a.joined n 0 d _ e p0).1 in
    other_kind w r a n d e c.requires.there p

pub has_retired-requires-clause-ports : goal.has_retired-requires-clause-ports
has_retired-requires-clause-ports c =
    let w = web_by c.args.web.now in let n = cell_id c.args.n in let a = c.requires.kept in let r = c.paired.ensures in let e = c.requires.membrane in
    let d = cell_id c.in-Some.d in let p0 = c.partner.ensures ∙ ap (option_map port_id) c.in-Some.is in
    let p : partner_at w n 0 ≡ Some (d, 0) = p0 ∙ ap (λ j. Some (d, j)) (a.joined n 0 d _ e p0).1 in
    a.ports d (other_kind w r a n d e c.requires.there p)

pub split-requires : goal.split-requires
split-requires c = subst (λ i. 0 < i) (sym (c.requires.kept.ports (cell_id c.args.n) c.requires.membrane)) (omega arith)

pub split-requires-else-has_retired : goal.split-requires-else-has_retired
split-requires-else-has_retired c = subst (λ i. 0 < i) (sym (c.requires.kept.ports (cell_id c.args.n) c.requires.membrane)) (omega arith)

pub free-requires : goal.free-requires
free-requires c =
    let w = web_by c.args.web.now in let n = cell_id c.args.n in let a = c.requires.kept in let r = c.paired.ensures in let e = c.requires.membrane in
    let d = cell_id c.in-Some.d in let p0 = c.partner.ensures ∙ ap (option_map port_id) c.in-Some.is in
    let p : partner_at w n 0 ≡ Some (d, 0) = p0 ∙ ap (λ j. Some (d, j)) (a.joined n 0 d _ e p0).1 in
    let gone : is_retired (w d) ≡ true = sym c.has_retired.ensures ∙ c.if-has_retired.true in
    subst (λ (f : ℕ → Option WebCell). IsLoose f d) (sym c.split.ensures)
    (other_loose w r a n d e c.requires.there p (λ j. ap (λ z. cells_in w z j) (sym (keeper_is w r a n d e c.requires.there p)) ∙ c.requires.empty j) gone)

pub returns-in-None : goal.returns-in-None
returns-in-None c =
    let w = web_by c.args.web.now in let n = cell_id c.args.n in let a = c.requires.kept in let r = c.paired.ensures in let e = c.requires.membrane in
    lets_nothing_go w n a e c.requires.there c.requires.empty (c.partner.ensures ∙ ap (option_map port_id) c.in-None.is)

pub returns-then-has_retired : goal.returns-then-has_retired
returns-then-has_retired c =
    let w = web_by c.args.web.now in let n = cell_id c.args.n in let a = c.requires.kept in let r = c.paired.ensures in let e = c.requires.membrane in
    let d = cell_id c.in-Some.d in let p0 = c.partner.ensures ∙ ap (option_map port_id) c.in-Some.is in
    let p : partner_at w n 0 ≡ Some (d, 0) = p0 ∙ ap (λ j. Some (d, j)) (a.joined n 0 d _ e p0).1 in
    let gone : is_retired (w d) ≡ true = sym c.has_retired.ensures ∙ c.if-has_retired.true in
    subst (λ (f : ℕ → Option WebCell). LetsGo w f n) (sym (c.free.ensures ∙ ap (λ (f : ℕ → Option WebCell). alter f d (λ _. None)) c.split.ensures))
    (let_go_freed w r a n d e c.requires.there p c.listed.ensures c.requires.empty c.requires.idle gone)

pub returns-else-has_retired : goal.returns-else-has_retired
returns-else-has_retired c =
    let w = web_by c.args.web.now in let n = cell_id c.args.n in let a = c.requires.kept in let r = c.paired.ensures in let e = c.requires.membrane in
    let d = cell_id c.in-Some.d in let p0 = c.partner.ensures ∙ ap (option_map port_id) c.in-Some.is in
    let p : partner_at w n 0 ≡ Some (d, 0) = p0 ∙ ap (λ j. Some (d, j)) (a.joined n 0 d _ e p0).1 in
    let stays : is_retired (w d) ≡ false = sym c.has_retired.ensures ∙ c.if-has_retired.false in
    subst (λ (f : ℕ → Option WebCell). LetsGo w f n) (sym c.split-else-has_retired.ensures)
    (let_go_parted w r a n d e c.requires.there p c.listed.ensures c.requires.empty c.requires.idle stays)
