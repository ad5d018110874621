use Rattle.std.proofs.Common.{ℕ, ◌<◌, Option, Some, sym, ap, subst, ◌∙◌, arith}
use Rattle.std.specs.Option.{option_map}
use Rattle.lmn_web_cells.specs.CellIds.{cell_id, port_id}
use Rattle.lmn_web.specs.Webs.{WebCell, web_by}
use Rattle.lmn_web_merging.specs.Keepers.{seen, MovesAll}
use Rattle.lmn_web_merging.specs.Moves.{Traded}
use Rattle.lmn_web_merging.proofs.Seen.{own_keeper, led_keeper}
use Rattle.lmn_web_merging.proofs.Trading.{traded_kept, traded_seen}
use Rattle.lmn_web_merging.proofs.Leaving.{may_trade}
use Rattle.lmn_web_merging.proofs.keeping.trade.Goals as goal

pub partner-requires : goal.partner-requires
partner-requires c =
    let w = web_by c.args.web.now in let u = web_by c.let_go.new.web in let m = cell_id c.args.m in let n = cell_id c.args.n in let t = may_trade w u m n c.paired.ensures c.requires c.let_go.ensures c.listed.ensures in
    subst (λ n. 0 < n) (sym (t.kept.ports m t.source)) (omega arith)

pub hand_over-requires-clause-trades : goal.hand_over-requires-clause-trades
hand_over-requires-clause-trades c =
    may_trade (web_by c.args.web.now) (web_by c.let_go.new.web) (cell_id c.args.m) (cell_id c.args.n) c.paired.ensures c.requires c.let_go.ensures c.listed.ensures

pub hand_over-requires-clause-own : goal.hand_over-requires-clause-own
hand_over-requires-clause-own c = c.partner.ensures ∙ ap (option_map port_id) c.in-None.is

pub pass_on-requires-clause-trades : goal.pass_on-requires-clause-trades
pass_on-requires-clause-trades c =
    may_trade (web_by c.args.web.now) (web_by c.let_go.new.web) (cell_id c.args.m) (cell_id c.args.n) c.paired.ensures c.requires c.let_go.ensures c.listed.ensures

pub pass_on-requires-clause-kept : goal.pass_on-requires-clause-kept
pass_on-requires-clause-kept c =
    let w = web_by c.args.web.now in let u = web_by c.let_go.new.web in let m = cell_id c.args.m in let n = cell_id c.args.n in let t = may_trade w u m n c.paired.ensures c.requires c.let_go.ensures c.listed.ensures in
    let p = c.partner.ensures ∙ ap (option_map port_id) c.in-Some.is in
    p ∙ ap (λ j. Some (cell_id c.in-Some.k, j)) (t.kept.joined m 0 (cell_id c.in-Some.k) _ t.source p).1

pub returns-in-None-clause-kept : goal.returns-in-None-clause-kept
returns-in-None-clause-kept c =
    let w = web_by c.args.web.now in let u = web_by c.let_go.new.web in let v = web_by c.hand_over.new.web in let m = cell_id c.args.m in let n = cell_id c.args.n in
    let t = may_trade w u m n c.paired.ensures c.requires c.let_go.ensures c.listed.ensures in
    traded_kept u c.paired-2.ensures v m n t (subst (λ b. Traded u v m n b) (sym (own_keeper u m (c.partner.ensures ∙ ap (option_map port_id) c.in-None.is))) c.hand_over.ensures)

pub returns-in-None-clause-moved : goal.returns-in-None-clause-moved
returns-in-None-clause-moved c =
    let w = web_by c.args.web.now in let u = web_by c.let_go.new.web in let v = web_by c.hand_over.new.web in let m = cell_id c.args.m in let n = cell_id c.args.n in
    let t = may_trade w u m n c.paired.ensures c.requires c.let_go.ensures c.listed.ensures in
    subst (λ (f : ℕ → Option WebCell). MovesAll f (seen v) m n) c.let_go.ensures.seen_same
    (traded_seen u c.paired-2.ensures v m n t (subst (λ b. Traded u v m n b) (sym (own_keeper u m (c.partner.ensures ∙ ap (option_map port_id) c.in-None.is))) c.hand_over.ensures))

pub returns-in-Some-clause-kept : goal.returns-in-Some-clause-kept
returns-in-Some-clause-kept c =
    let w = web_by c.args.web.now in let u = web_by c.let_go.new.web in let v = web_by c.pass_on.new.web in let m = cell_id c.args.m in let n = cell_id c.args.n in
    let t = may_trade w u m n c.paired.ensures c.requires c.let_go.ensures c.listed.ensures in
    traded_kept u c.paired-2.ensures v m n t (subst (λ b. Traded u v m n b) (sym (led_keeper u m (port_id (c.in-Some.k, _)) t.source (c.partner.ensures ∙ ap (option_map port_id) c.in-Some.is))) c.pass_on.ensures)

pub returns-in-Some-clause-moved : goal.returns-in-Some-clause-moved
returns-in-Some-clause-moved c =
    let w = web_by c.args.web.now in let u = web_by c.let_go.new.web in let v = web_by c.pass_on.new.web in let m = cell_id c.args.m in let n = cell_id c.args.n in
    let t = may_trade w u m n c.paired.ensures c.requires c.let_go.ensures c.listed.ensures in
    subst (λ (f : ℕ → Option WebCell). MovesAll f (seen v) m n) c.let_go.ensures.seen_same
    (traded_seen u c.paired-2.ensures v m n t (subst (λ b. Traded u v m n b) (sym (led_keeper u m (port_id (c.in-Some.k, _)) t.source (c.partner.ensures ∙ ap (option_map port_id) c.in-Some.is))) c.pass_on.ensures))
