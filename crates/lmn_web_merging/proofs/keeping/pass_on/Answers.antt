use Rattle.std.proofs.Common.{ℕ, ◌<◌, ◌≤◌, Option, IsSome, sym, ap, subst, ◌∙◌, arith}
use Rattle.std.specs.Option.{option_map}
use Rattle.lmn_store_heap.specs.Heap.{alter}
use Rattle.lmn_web_cells.specs.CellIds.{cell_id}
use Rattle.lmn_web.specs.Webs.{WebCell, web_by, arity_at, with_mark, joined}
use Rattle.lmn_web_merging.specs.Moves.{Traded}
use Rattle.lmn_web_merging.proofs.Sending.{kind_there}
use Rattle.lmn_web_merging.proofs.Joining.{join_arity, join_kind, n_not_k, kept_traded}
use Rattle.lmn_web_merging.proofs.keeping.pass_on.Goals as goal

pub join-requires-clause-a : goal.join-requires-clause-a
join-requires-clause-a c = subst (λ n. 0 < n) (sym (c.requires.trades.kept.ports (cell_id c.args.n) c.requires.trades.target)) (omega arith)

pub join-requires-clause-b : goal.join-requires-clause-b
join-requires-clause-b c =
    let t = c.requires.trades in
    subst (λ n. 0 < n) (sym (t.kept.ports (cell_id c.args.k) (t.kept.joined (cell_id c.args.m) 0 (cell_id c.args.k) 0 t.source c.requires.kept).2)) (omega arith)

pub join-requires-clause-differ : goal.join-requires-clause-differ
join-requires-clause-differ c e =
    let w = web_by c.args.web.now in let m = cell_id c.args.m in let n = cell_id c.args.n in let k = cell_id c.args.k in let t = c.requires.trades in
    n_not_k w t.kept m n t.source t.target t.apart t.alone k c.requires.kept c.paired.ensures (t.given k c.requires.kept) t.source_there e.0

pub set_mark-requires-clause-there : goal.set_mark-requires-clause-there
set_mark-requires-clause-there c =
    let w = web_by c.args.web.now in let n = cell_id c.args.n in let k = cell_id c.args.k in
    subst (λ (f : ℕ → Option WebCell). IsSome (f n)) (sym c.join.ensures) (kind_there (joined w n 0 k 0 n) (join_kind w n 0 k 0 n ∙ c.requires.trades.target))

pub set_mark-requires-clause-slot : goal.set_mark-requires-clause-slot
set_mark-requires-clause-slot c =
    let w = web_by c.args.web.now in let n = cell_id c.args.n in let k = cell_id c.args.k in
    subst (λ (f : ℕ → Option WebCell). 1 ≤ arity_at f n) (sym c.join.ensures) (subst (λ i. 1 ≤ i) (sym (join_arity w n 0 k 0 n ∙ c.requires.trades.kept.ports n c.requires.trades.target)) (omega arith))

pub returns : goal.returns
returns c =
    let w = web_by c.args.web.now in let m = cell_id c.args.m in let n = cell_id c.args.n in let k = cell_id c.args.k in let t = c.requires.trades in
    subst (λ (f : ℕ → Option WebCell). Traded w f m n k) (sym (c.set_mark.ensures ∙ ap (λ (f : ℕ → Option WebCell). alter f n (option_map (with_mark 1 1))) c.join.ensures))
    (kept_traded w t.kept m n t.source t.target t.apart t.alone k c.requires.kept c.paired.ensures (t.given k c.requires.kept) t.source_there)
