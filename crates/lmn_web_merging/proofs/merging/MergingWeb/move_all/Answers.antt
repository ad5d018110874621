use Rattle.std.proofs.Common.{◌≡◌, ◌≢◌, ℕ, ◌++◌, [], List, Some, sym, ap, subst, ◌∙◌}
use Rattle.lmn_web_cells.specs.Rows.{Row}
use Rattle.lmn_web_cells.specs.CellIds.{cell_id}
use Rattle.lmn_web.specs.declared.kind.CellKind.TheVariants.{Atom, Membrane}
use Rattle.lmn_web.specs.Webs.{web_by, kind_at, home_at, cells_in}
use Rattle.lmn_web_merging.specs.Keepers.{keeper, port_mark, LENT, merged_by, MovesAll}
use Rattle.lmn_web_merging.proofs.Seen.{seen_membrane, keeper_kind}
use Rattle.lmn_web_merging.proofs.Sending.{source_kind, target_kind, target_home}
use Rattle.lmn_web_merging.proofs.Merges.{kind_s, kind_d, differ, last_out, went_kept, went_all, first_out, trades, traded_all}
use Rattle.lmn_web_merging.proofs.merging.MergingWeb.move_all.Goals as goal

pub keeper_of-source-requires-clause-membrane : goal.keeper_of-source-requires-clause-membrane
keeper_of-source-requires-clause-membrane c =
    let w = web_by c.self.inside.web in let m = cell_id c.args.m in let n = cell_id c.args.n in let a = c.self.invariant in let r = c.paired.ensures in let l = c.listed.ensures in
    let tm = seen_membrane w m (subst (λ (z : List Row). kind_at (merged_by z) m ≡ Membrane) (sym c.self.view_is) c.requires.source) in
    let tn = seen_membrane w n (subst (λ (z : List Row). kind_at (merged_by z) n ≡ Membrane) (sym c.self.view_is) c.requires.target) in
    let inside = subst (λ (z : List Row). home_at (merged_by z) m ≢ Some n) (sym c.self.view_is) c.requires.inside in
    let outside = subst (λ (z : List Row). home_at (merged_by z) n ≢ Some m) (sym c.self.view_is) c.requires.outside in
    tm.0

pub keeper_of-source-requires-clause-ports : goal.keeper_of-source-requires-clause-ports
keeper_of-source-requires-clause-ports c =
    let w = web_by c.self.inside.web in let m = cell_id c.args.m in let n = cell_id c.args.n in let a = c.self.invariant in let r = c.paired.ensures in let l = c.listed.ensures in
    let tm = seen_membrane w m (subst (λ (z : List Row). kind_at (merged_by z) m ≡ Membrane) (sym c.self.view_is) c.requires.source) in
    let tn = seen_membrane w n (subst (λ (z : List Row). kind_at (merged_by z) n ≡ Membrane) (sym c.self.view_is) c.requires.target) in
    let inside = subst (λ (z : List Row). home_at (merged_by z) m ≢ Some n) (sym c.self.view_is) c.requires.inside in
    let outside = subst (λ (z : List Row). home_at (merged_by z) n ≢ Some m) (sym c.self.view_is) c.requires.outside in
    a.ports m tm.0

pub keeper_of-target-requires-clause-membrane : goal.keeper_of-target-requires-clause-membrane
keeper_of-target-requires-clause-membrane c =
    let w = web_by c.self.inside.web in let m = cell_id c.args.m in let n = cell_id c.args.n in let a = c.self.invariant in let r = c.paired.ensures in let l = c.listed.ensures in
    let tm = seen_membrane w m (subst (λ (z : List Row). kind_at (merged_by z) m ≡ Membrane) (sym c.self.view_is) c.requires.source) in
    let tn = seen_membrane w n (subst (λ (z : List Row). kind_at (merged_by z) n ≡ Membrane) (sym c.self.view_is) c.requires.target) in
    let inside = subst (λ (z : List Row). home_at (merged_by z) m ≢ Some n) (sym c.self.view_is) c.requires.inside in
    let outside = subst (λ (z : List Row). home_at (merged_by z) n ≢ Some m) (sym c.self.view_is) c.requires.outside in
    tn.0

pub keeper_of-target-requires-clause-ports : goal.keeper_of-target-requires-clause-ports
keeper_of-target-requires-clause-ports c =
    let w = web_by c.self.inside.web in let m = cell_id c.args.m in let n = cell_id c.args.n in let a = c.self.invariant in let r = c.paired.ensures in let l = c.listed.ensures in
    let tm = seen_membrane w m (subst (λ (z : List Row). kind_at (merged_by z) m ≡ Membrane) (sym c.self.view_is) c.requires.source) in
    let tn = seen_membrane w n (subst (λ (z : List Row). kind_at (merged_by z) n ≡ Membrane) (sym c.self.view_is) c.requires.target) in
    let inside = subst (λ (z : List Row). home_at (merged_by z) m ≢ Some n) (sym c.self.view_is) c.requires.inside in
    let outside = subst (λ (z : List Row). home_at (merged_by z) n ≢ Some m) (sym c.self.view_is) c.requires.outside in
    a.ports n tn.0

pub holds_less-requires-clause-first : goal.holds_less-requires-clause-first
holds_less-requires-clause-first c =
    let w = web_by c.self.inside.web in let m = cell_id c.args.m in let n = cell_id c.args.n in let a = c.self.invariant in let r = c.paired.ensures in let l = c.listed.ensures in
    let tm = seen_membrane w m (subst (λ (z : List Row). kind_at (merged_by z) m ≡ Membrane) (sym c.self.view_is) c.requires.source) in
    let tn = seen_membrane w n (subst (λ (z : List Row). kind_at (merged_by z) n ≡ Membrane) (sym c.self.view_is) c.requires.target) in
    let inside = subst (λ (z : List Row). home_at (merged_by z) m ≢ Some n) (sym c.self.view_is) c.requires.inside in
    let outside = subst (λ (z : List Row). home_at (merged_by z) n ≢ Some m) (sym c.self.view_is) c.requires.outside in
    let qs : cell_id c.keeper_of-source.result ≡ keeper w m = c.keeper_of-source.ensures in let qt : cell_id c.keeper_of-target.result ≡ keeper w n = c.keeper_of-target.ensures in
    (ap (kind_at w) qt ∙ keeper_kind w r a n tn.0)

pub holds_less-requires-clause-second : goal.holds_less-requires-clause-second
holds_less-requires-clause-second c =
    let w = web_by c.self.inside.web in let m = cell_id c.args.m in let n = cell_id c.args.n in let a = c.self.invariant in let r = c.paired.ensures in let l = c.listed.ensures in
    let tm = seen_membrane w m (subst (λ (z : List Row). kind_at (merged_by z) m ≡ Membrane) (sym c.self.view_is) c.requires.source) in
    let tn = seen_membrane w n (subst (λ (z : List Row). kind_at (merged_by z) n ≡ Membrane) (sym c.self.view_is) c.requires.target) in
    let inside = subst (λ (z : List Row). home_at (merged_by z) m ≢ Some n) (sym c.self.view_is) c.requires.inside in
    let outside = subst (λ (z : List Row). home_at (merged_by z) n ≢ Some m) (sym c.self.view_is) c.requires.outside in
    let qs : cell_id c.keeper_of-source.result ≡ keeper w m = c.keeper_of-source.ensures in let qt : cell_id c.keeper_of-target.result ≡ keeper w n = c.keeper_of-target.ensures in
    (ap (kind_at w) qs ∙ keeper_kind w r a m tm.0)

pub may_trade-requires-clause-source : goal.may_trade-requires-clause-source
may_trade-requires-clause-source c =
    let w = web_by c.self.inside.web in let m = cell_id c.args.m in let n = cell_id c.args.n in let a = c.self.invariant in let r = c.paired.ensures in let l = c.listed.ensures in
    let tm = seen_membrane w m (subst (λ (z : List Row). kind_at (merged_by z) m ≡ Membrane) (sym c.self.view_is) c.requires.source) in
    let tn = seen_membrane w n (subst (λ (z : List Row). kind_at (merged_by z) n ≡ Membrane) (sym c.self.view_is) c.requires.target) in
    let inside = subst (λ (z : List Row). home_at (merged_by z) m ≢ Some n) (sym c.self.view_is) c.requires.inside in
    let outside = subst (λ (z : List Row). home_at (merged_by z) n ≢ Some m) (sym c.self.view_is) c.requires.outside in
    tm.0

pub may_trade-requires-clause-target : goal.may_trade-requires-clause-target
may_trade-requires-clause-target c =
    let w = web_by c.self.inside.web in let m = cell_id c.args.m in let n = cell_id c.args.n in let a = c.self.invariant in let r = c.paired.ensures in let l = c.listed.ensures in
    let tm = seen_membrane w m (subst (λ (z : List Row). kind_at (merged_by z) m ≡ Membrane) (sym c.self.view_is) c.requires.source) in
    let tn = seen_membrane w n (subst (λ (z : List Row). kind_at (merged_by z) n ≡ Membrane) (sym c.self.view_is) c.requires.target) in
    let inside = subst (λ (z : List Row). home_at (merged_by z) m ≢ Some n) (sym c.self.view_is) c.requires.inside in
    let outside = subst (λ (z : List Row). home_at (merged_by z) n ≢ Some m) (sym c.self.view_is) c.requires.outside in
    tn.0

pub may_trade-requires-clause-kept : goal.may_trade-requires-clause-kept
may_trade-requires-clause-kept c =
    let w = web_by c.self.inside.web in let m = cell_id c.args.m in let n = cell_id c.args.n in let a = c.self.invariant in let r = c.paired.ensures in let l = c.listed.ensures in
    let tm = seen_membrane w m (subst (λ (z : List Row). kind_at (merged_by z) m ≡ Membrane) (sym c.self.view_is) c.requires.source) in
    let tn = seen_membrane w n (subst (λ (z : List Row). kind_at (merged_by z) n ≡ Membrane) (sym c.self.view_is) c.requires.target) in
    let inside = subst (λ (z : List Row). home_at (merged_by z) m ≢ Some n) (sym c.self.view_is) c.requires.inside in
    let outside = subst (λ (z : List Row). home_at (merged_by z) n ≢ Some m) (sym c.self.view_is) c.requires.outside in
    a

pub send_all_first-requires-clause-source : goal.send_all_first-requires-clause-source
send_all_first-requires-clause-source c =
    let w = web_by c.self.inside.web in let m = cell_id c.args.m in let n = cell_id c.args.n in let a = c.self.invariant in let r = c.paired.ensures in let l = c.listed.ensures in
    let tm = seen_membrane w m (subst (λ (z : List Row). kind_at (merged_by z) m ≡ Membrane) (sym c.self.view_is) c.requires.source) in
    let tn = seen_membrane w n (subst (λ (z : List Row). kind_at (merged_by z) n ≡ Membrane) (sym c.self.view_is) c.requires.target) in
    let inside = subst (λ (z : List Row). home_at (merged_by z) m ≢ Some n) (sym c.self.view_is) c.requires.inside in
    let outside = subst (λ (z : List Row). home_at (merged_by z) n ≢ Some m) (sym c.self.view_is) c.requires.outside in
    let S = cell_id c.keeper_of-source.result in let D = cell_id c.keeper_of-target.result in let qs : S ≡ keeper w m = c.keeper_of-source.ensures in let qt : D ≡ keeper w n = c.keeper_of-target.ensures in
    let own = subst (λ (z : List Row). port_mark (merged_by z) n ≢ LENT) (sym c.self.view_is) c.requires.own in
    let owned = subst (λ (z : List Row). (x : ℕ) → home_at (merged_by z) x ≡ Some m → kind_at (merged_by z) x ≡ Membrane → port_mark (merged_by z) x ≢ LENT) (sym c.self.view_is) c.requires.owned in
    kind_d w l r a m n tm.0 tm.1 tn.0 tn.1 c.requires.apart inside outside S D qs qt

pub send_all_first-requires-clause-home : goal.send_all_first-requires-clause-home
send_all_first-requires-clause-home c =
    let w = web_by c.self.inside.web in let m = cell_id c.args.m in let n = cell_id c.args.n in let a = c.self.invariant in let r = c.paired.ensures in let l = c.listed.ensures in
    let tm = seen_membrane w m (subst (λ (z : List Row). kind_at (merged_by z) m ≡ Membrane) (sym c.self.view_is) c.requires.source) in
    let tn = seen_membrane w n (subst (λ (z : List Row). kind_at (merged_by z) n ≡ Membrane) (sym c.self.view_is) c.requires.target) in
    let inside = subst (λ (z : List Row). home_at (merged_by z) m ≢ Some n) (sym c.self.view_is) c.requires.inside in
    let outside = subst (λ (z : List Row). home_at (merged_by z) n ≢ Some m) (sym c.self.view_is) c.requires.outside in
    let S = cell_id c.keeper_of-source.result in let D = cell_id c.keeper_of-target.result in let qs : S ≡ keeper w m = c.keeper_of-source.ensures in let qt : D ≡ keeper w n = c.keeper_of-target.ensures in
    let own = subst (λ (z : List Row). port_mark (merged_by z) n ≢ LENT) (sym c.self.view_is) c.requires.own in
    let owned = subst (λ (z : List Row). (x : ℕ) → home_at (merged_by z) x ≡ Some m → kind_at (merged_by z) x ≡ Membrane → port_mark (merged_by z) x ≢ LENT) (sym c.self.view_is) c.requires.owned in
    kind_s w l r a m n tm.0 tm.1 tn.0 tn.1 c.requires.apart inside outside S D qs qt

pub send_all_first-requires-clause-apart : goal.send_all_first-requires-clause-apart
send_all_first-requires-clause-apart c =
    let w = web_by c.self.inside.web in let m = cell_id c.args.m in let n = cell_id c.args.n in let a = c.self.invariant in let r = c.paired.ensures in let l = c.listed.ensures in
    let tm = seen_membrane w m (subst (λ (z : List Row). kind_at (merged_by z) m ≡ Membrane) (sym c.self.view_is) c.requires.source) in
    let tn = seen_membrane w n (subst (λ (z : List Row). kind_at (merged_by z) n ≡ Membrane) (sym c.self.view_is) c.requires.target) in
    let inside = subst (λ (z : List Row). home_at (merged_by z) m ≢ Some n) (sym c.self.view_is) c.requires.inside in
    let outside = subst (λ (z : List Row). home_at (merged_by z) n ≢ Some m) (sym c.self.view_is) c.requires.outside in
    let S = cell_id c.keeper_of-source.result in let D = cell_id c.keeper_of-target.result in let qs : S ≡ keeper w m = c.keeper_of-source.ensures in let qt : D ≡ keeper w n = c.keeper_of-target.ensures in
    let own = subst (λ (z : List Row). port_mark (merged_by z) n ≢ LENT) (sym c.self.view_is) c.requires.own in
    let owned = subst (λ (z : List Row). (x : ℕ) → home_at (merged_by z) x ≡ Some m → kind_at (merged_by z) x ≡ Membrane → port_mark (merged_by z) x ≢ LENT) (sym c.self.view_is) c.requires.owned in
    λ e. differ w l r a m n tm.0 tm.1 tn.0 tn.1 c.requires.apart inside outside S D qs qt (sym e)

pub send_all_first-requires-clause-outside : goal.send_all_first-requires-clause-outside
send_all_first-requires-clause-outside c =
    let w = web_by c.self.inside.web in let m = cell_id c.args.m in let n = cell_id c.args.n in let a = c.self.invariant in let r = c.paired.ensures in let l = c.listed.ensures in
    let tm = seen_membrane w m (subst (λ (z : List Row). kind_at (merged_by z) m ≡ Membrane) (sym c.self.view_is) c.requires.source) in
    let tn = seen_membrane w n (subst (λ (z : List Row). kind_at (merged_by z) n ≡ Membrane) (sym c.self.view_is) c.requires.target) in
    let inside = subst (λ (z : List Row). home_at (merged_by z) m ≢ Some n) (sym c.self.view_is) c.requires.inside in
    let outside = subst (λ (z : List Row). home_at (merged_by z) n ≢ Some m) (sym c.self.view_is) c.requires.outside in
    let S = cell_id c.keeper_of-source.result in let D = cell_id c.keeper_of-target.result in let qs : S ≡ keeper w m = c.keeper_of-source.ensures in let qt : D ≡ keeper w n = c.keeper_of-target.ensures in
    let own = subst (λ (z : List Row). port_mark (merged_by z) n ≢ LENT) (sym c.self.view_is) c.requires.own in
    let owned = subst (λ (z : List Row). (x : ℕ) → home_at (merged_by z) x ≡ Some m → kind_at (merged_by z) x ≡ Membrane → port_mark (merged_by z) x ≢ LENT) (sym c.self.view_is) c.requires.owned in
    let idle = c.may_trade.ensures.idle c.if-may_trade.true in let given = c.may_trade.ensures.given c.if-may_trade.true in
    first_out w l r a m n tm.0 tm.1 tn.0 tn.1 c.requires.apart inside outside S D qs qt idle given

pub send_all_first-requires-then-may_trade-clause-source : goal.send_all_first-requires-then-may_trade-clause-source
send_all_first-requires-then-may_trade-clause-source c =
    let w = web_by c.self.inside.web in let m = cell_id c.args.m in let n = cell_id c.args.n in let a = c.self.invariant in let r = c.paired.ensures in let l = c.listed.ensures in
    let tm = seen_membrane w m (subst (λ (z : List Row). kind_at (merged_by z) m ≡ Membrane) (sym c.self.view_is) c.requires.source) in
    let tn = seen_membrane w n (subst (λ (z : List Row). kind_at (merged_by z) n ≡ Membrane) (sym c.self.view_is) c.requires.target) in
    let inside = subst (λ (z : List Row). home_at (merged_by z) m ≢ Some n) (sym c.self.view_is) c.requires.inside in
    let outside = subst (λ (z : List Row). home_at (merged_by z) n ≢ Some m) (sym c.self.view_is) c.requires.outside in
    let S = cell_id c.keeper_of-source.result in let D = cell_id c.keeper_of-target.result in let qs : S ≡ keeper w m = c.keeper_of-source.ensures in let qt : D ≡ keeper w n = c.keeper_of-target.ensures in
    let own = subst (λ (z : List Row). port_mark (merged_by z) n ≢ LENT) (sym c.self.view_is) c.requires.own in
    let owned = subst (λ (z : List Row). (x : ℕ) → home_at (merged_by z) x ≡ Some m → kind_at (merged_by z) x ≡ Membrane → port_mark (merged_by z) x ≢ LENT) (sym c.self.view_is) c.requires.owned in
    let idle = c.may_trade.ensures.idle c.if-may_trade.true in let given = c.may_trade.ensures.given c.if-may_trade.true in
    let v = web_by c.send_all_first.new.web in let f = c.send_all_first.ensures in
    source_kind w l D S Atom (λ e. differ w l r a m n tm.0 tm.1 tn.0 tn.1 c.requires.apart inside outside S D qs qt (sym e)) (first_out w l r a m n tm.0 tm.1 tn.0 tn.1 c.requires.apart inside outside S D qs qt idle given) (kind_d w l r a m n tm.0 tm.1 tn.0 tn.1 c.requires.apart inside outside S D qs qt) (kind_s w l r a m n tm.0 tm.1 tn.0 tn.1 c.requires.apart inside outside S D qs qt) v (cells_in w D Atom) [] (cells_in w D Atom ++ cells_in w S Atom) f

pub send_all_first-requires-then-may_trade-clause-home : goal.send_all_first-requires-then-may_trade-clause-home
send_all_first-requires-then-may_trade-clause-home c =
    let w = web_by c.self.inside.web in let m = cell_id c.args.m in let n = cell_id c.args.n in let a = c.self.invariant in let r = c.paired.ensures in let l = c.listed.ensures in
    let tm = seen_membrane w m (subst (λ (z : List Row). kind_at (merged_by z) m ≡ Membrane) (sym c.self.view_is) c.requires.source) in
    let tn = seen_membrane w n (subst (λ (z : List Row). kind_at (merged_by z) n ≡ Membrane) (sym c.self.view_is) c.requires.target) in
    let inside = subst (λ (z : List Row). home_at (merged_by z) m ≢ Some n) (sym c.self.view_is) c.requires.inside in
    let outside = subst (λ (z : List Row). home_at (merged_by z) n ≢ Some m) (sym c.self.view_is) c.requires.outside in
    let S = cell_id c.keeper_of-source.result in let D = cell_id c.keeper_of-target.result in let qs : S ≡ keeper w m = c.keeper_of-source.ensures in let qt : D ≡ keeper w n = c.keeper_of-target.ensures in
    let own = subst (λ (z : List Row). port_mark (merged_by z) n ≢ LENT) (sym c.self.view_is) c.requires.own in
    let owned = subst (λ (z : List Row). (x : ℕ) → home_at (merged_by z) x ≡ Some m → kind_at (merged_by z) x ≡ Membrane → port_mark (merged_by z) x ≢ LENT) (sym c.self.view_is) c.requires.owned in
    let idle = c.may_trade.ensures.idle c.if-may_trade.true in let given = c.may_trade.ensures.given c.if-may_trade.true in
    let v = web_by c.send_all_first.new.web in let f = c.send_all_first.ensures in
    target_kind w l D S Atom (λ e. differ w l r a m n tm.0 tm.1 tn.0 tn.1 c.requires.apart inside outside S D qs qt (sym e)) (first_out w l r a m n tm.0 tm.1 tn.0 tn.1 c.requires.apart inside outside S D qs qt idle given) (kind_d w l r a m n tm.0 tm.1 tn.0 tn.1 c.requires.apart inside outside S D qs qt) (kind_s w l r a m n tm.0 tm.1 tn.0 tn.1 c.requires.apart inside outside S D qs qt) v (cells_in w D Atom) [] (cells_in w D Atom ++ cells_in w S Atom) f

pub send_all_first-requires-then-may_trade-clause-apart : goal.send_all_first-requires-then-may_trade-clause-apart
send_all_first-requires-then-may_trade-clause-apart c =
    let w = web_by c.self.inside.web in let m = cell_id c.args.m in let n = cell_id c.args.n in let a = c.self.invariant in let r = c.paired.ensures in let l = c.listed.ensures in
    let tm = seen_membrane w m (subst (λ (z : List Row). kind_at (merged_by z) m ≡ Membrane) (sym c.self.view_is) c.requires.source) in
    let tn = seen_membrane w n (subst (λ (z : List Row). kind_at (merged_by z) n ≡ Membrane) (sym c.self.view_is) c.requires.target) in
    let inside = subst (λ (z : List Row). home_at (merged_by z) m ≢ Some n) (sym c.self.view_is) c.requires.inside in
    let outside = subst (λ (z : List Row). home_at (merged_by z) n ≢ Some m) (sym c.self.view_is) c.requires.outside in
    let S = cell_id c.keeper_of-source.result in let D = cell_id c.keeper_of-target.result in let qs : S ≡ keeper w m = c.keeper_of-source.ensures in let qt : D ≡ keeper w n = c.keeper_of-target.ensures in
    let own = subst (λ (z : List Row). port_mark (merged_by z) n ≢ LENT) (sym c.self.view_is) c.requires.own in
    let owned = subst (λ (z : List Row). (x : ℕ) → home_at (merged_by z) x ≡ Some m → kind_at (merged_by z) x ≡ Membrane → port_mark (merged_by z) x ≢ LENT) (sym c.self.view_is) c.requires.owned in
    λ e. differ w l r a m n tm.0 tm.1 tn.0 tn.1 c.requires.apart inside outside S D qs qt (sym e)

pub send_all_first-requires-then-may_trade-clause-outside : goal.send_all_first-requires-then-may_trade-clause-outside
send_all_first-requires-then-may_trade-clause-outside c =
    let w = web_by c.self.inside.web in let m = cell_id c.args.m in let n = cell_id c.args.n in let a = c.self.invariant in let r = c.paired.ensures in let l = c.listed.ensures in
    let tm = seen_membrane w m (subst (λ (z : List Row). kind_at (merged_by z) m ≡ Membrane) (sym c.self.view_is) c.requires.source) in
    let tn = seen_membrane w n (subst (λ (z : List Row). kind_at (merged_by z) n ≡ Membrane) (sym c.self.view_is) c.requires.target) in
    let inside = subst (λ (z : List Row). home_at (merged_by z) m ≢ Some n) (sym c.self.view_is) c.requires.inside in
    let outside = subst (λ (z : List Row). home_at (merged_by z) n ≢ Some m) (sym c.self.view_is) c.requires.outside in
    let S = cell_id c.keeper_of-source.result in let D = cell_id c.keeper_of-target.result in let qs : S ≡ keeper w m = c.keeper_of-source.ensures in let qt : D ≡ keeper w n = c.keeper_of-target.ensures in
    let own = subst (λ (z : List Row). port_mark (merged_by z) n ≢ LENT) (sym c.self.view_is) c.requires.own in
    let owned = subst (λ (z : List Row). (x : ℕ) → home_at (merged_by z) x ≡ Some m → kind_at (merged_by z) x ≡ Membrane → port_mark (merged_by z) x ≢ LENT) (sym c.self.view_is) c.requires.owned in
    let idle = c.may_trade.ensures.idle c.if-may_trade.true in let given = c.may_trade.ensures.given c.if-may_trade.true in
    let v = web_by c.send_all_first.new.web in let f = c.send_all_first.ensures in
    target_home w l D S Atom (λ e. differ w l r a m n tm.0 tm.1 tn.0 tn.1 c.requires.apart inside outside S D qs qt (sym e)) (first_out w l r a m n tm.0 tm.1 tn.0 tn.1 c.requires.apart inside outside S D qs qt idle given) (kind_d w l r a m n tm.0 tm.1 tn.0 tn.1 c.requires.apart inside outside S D qs qt) (kind_s w l r a m n tm.0 tm.1 tn.0 tn.1 c.requires.apart inside outside S D qs qt) v (cells_in w D Atom) [] (cells_in w D Atom ++ cells_in w S Atom) f

pub trade-requires : goal.trade-requires
trade-requires c =
    let w = web_by c.self.inside.web in let m = cell_id c.args.m in let n = cell_id c.args.n in let a = c.self.invariant in let r = c.paired.ensures in let l = c.listed.ensures in
    let tm = seen_membrane w m (subst (λ (z : List Row). kind_at (merged_by z) m ≡ Membrane) (sym c.self.view_is) c.requires.source) in
    let tn = seen_membrane w n (subst (λ (z : List Row). kind_at (merged_by z) n ≡ Membrane) (sym c.self.view_is) c.requires.target) in
    let inside = subst (λ (z : List Row). home_at (merged_by z) m ≢ Some n) (sym c.self.view_is) c.requires.inside in
    let outside = subst (λ (z : List Row). home_at (merged_by z) n ≢ Some m) (sym c.self.view_is) c.requires.outside in
    let S = cell_id c.keeper_of-source.result in let D = cell_id c.keeper_of-target.result in let qs : S ≡ keeper w m = c.keeper_of-source.ensures in let qt : D ≡ keeper w n = c.keeper_of-target.ensures in
    let own = subst (λ (z : List Row). port_mark (merged_by z) n ≢ LENT) (sym c.self.view_is) c.requires.own in
    let owned = subst (λ (z : List Row). (x : ℕ) → home_at (merged_by z) x ≡ Some m → kind_at (merged_by z) x ≡ Membrane → port_mark (merged_by z) x ≢ LENT) (sym c.self.view_is) c.requires.owned in
    let idle = c.may_trade.ensures.idle c.if-may_trade.true in let given = c.may_trade.ensures.given c.if-may_trade.true in
    let v = web_by c.send_all_first.new.web in let f = c.send_all_first.ensures in
    let u = web_by c.send_all_first-then-may_trade.new.web in let g = c.send_all_first-then-may_trade.ensures in
    trades w l r a m n tm.0 tm.1 tn.0 tn.1 c.requires.apart inside outside S D qs qt idle given v u f g

pub invariant_of-self : goal.invariant_of-self
invariant_of-self c =
    let w = web_by c.self.inside.web in let m = cell_id c.args.m in let n = cell_id c.args.n in let a = c.self.invariant in let r = c.paired.ensures in let l = c.listed.ensures in
    let tm = seen_membrane w m (subst (λ (z : List Row). kind_at (merged_by z) m ≡ Membrane) (sym c.self.view_is) c.requires.source) in
    let tn = seen_membrane w n (subst (λ (z : List Row). kind_at (merged_by z) n ≡ Membrane) (sym c.self.view_is) c.requires.target) in
    let inside = subst (λ (z : List Row). home_at (merged_by z) m ≢ Some n) (sym c.self.view_is) c.requires.inside in
    let outside = subst (λ (z : List Row). home_at (merged_by z) n ≢ Some m) (sym c.self.view_is) c.requires.outside in
    c.trade.ensures.kept

pub returns-then-may_trade : goal.returns-then-may_trade
returns-then-may_trade c =
    let w = web_by c.self.inside.web in let m = cell_id c.args.m in let n = cell_id c.args.n in let a = c.self.invariant in let r = c.paired.ensures in let l = c.listed.ensures in
    let tm = seen_membrane w m (subst (λ (z : List Row). kind_at (merged_by z) m ≡ Membrane) (sym c.self.view_is) c.requires.source) in
    let tn = seen_membrane w n (subst (λ (z : List Row). kind_at (merged_by z) n ≡ Membrane) (sym c.self.view_is) c.requires.target) in
    let inside = subst (λ (z : List Row). home_at (merged_by z) m ≢ Some n) (sym c.self.view_is) c.requires.inside in
    let outside = subst (λ (z : List Row). home_at (merged_by z) n ≢ Some m) (sym c.self.view_is) c.requires.outside in
    let S = cell_id c.keeper_of-source.result in let D = cell_id c.keeper_of-target.result in let qs : S ≡ keeper w m = c.keeper_of-source.ensures in let qt : D ≡ keeper w n = c.keeper_of-target.ensures in
    let own = subst (λ (z : List Row). port_mark (merged_by z) n ≢ LENT) (sym c.self.view_is) c.requires.own in
    let owned = subst (λ (z : List Row). (x : ℕ) → home_at (merged_by z) x ≡ Some m → kind_at (merged_by z) x ≡ Membrane → port_mark (merged_by z) x ≢ LENT) (sym c.self.view_is) c.requires.owned in
    let idle = c.may_trade.ensures.idle c.if-may_trade.true in let given = c.may_trade.ensures.given c.if-may_trade.true in
    let v = web_by c.send_all_first.new.web in let f = c.send_all_first.ensures in
    let u = web_by c.send_all_first-then-may_trade.new.web in let g = c.send_all_first-then-may_trade.ensures in
    subst (λ (z : List Row). MovesAll (merged_by z) (merged_by c.trade.new.web) m n) c.self.view_is (traded_all w l r a m n tm.0 tm.1 tn.0 tn.1 c.requires.apart inside outside S D qs qt idle given v u f g (web_by c.trade.new.web) c.trade.ensures.moved)

pub send_all_last-requires-clause-source : goal.send_all_last-requires-clause-source
send_all_last-requires-clause-source c =
    let w = web_by c.self.inside.web in let m = cell_id c.args.m in let n = cell_id c.args.n in let a = c.self.invariant in let r = c.paired.ensures in let l = c.listed.ensures in
    let tm = seen_membrane w m (subst (λ (z : List Row). kind_at (merged_by z) m ≡ Membrane) (sym c.self.view_is) c.requires.source) in
    let tn = seen_membrane w n (subst (λ (z : List Row). kind_at (merged_by z) n ≡ Membrane) (sym c.self.view_is) c.requires.target) in
    let inside = subst (λ (z : List Row). home_at (merged_by z) m ≢ Some n) (sym c.self.view_is) c.requires.inside in
    let outside = subst (λ (z : List Row). home_at (merged_by z) n ≢ Some m) (sym c.self.view_is) c.requires.outside in
    let S = cell_id c.keeper_of-source.result in let D = cell_id c.keeper_of-target.result in let qs : S ≡ keeper w m = c.keeper_of-source.ensures in let qt : D ≡ keeper w n = c.keeper_of-target.ensures in
    let own = subst (λ (z : List Row). port_mark (merged_by z) n ≢ LENT) (sym c.self.view_is) c.requires.own in
    let owned = subst (λ (z : List Row). (x : ℕ) → home_at (merged_by z) x ≡ Some m → kind_at (merged_by z) x ≡ Membrane → port_mark (merged_by z) x ≢ LENT) (sym c.self.view_is) c.requires.owned in
    kind_s w l r a m n tm.0 tm.1 tn.0 tn.1 c.requires.apart inside outside S D qs qt

pub send_all_last-requires-clause-home : goal.send_all_last-requires-clause-home
send_all_last-requires-clause-home c =
    let w = web_by c.self.inside.web in let m = cell_id c.args.m in let n = cell_id c.args.n in let a = c.self.invariant in let r = c.paired.ensures in let l = c.listed.ensures in
    let tm = seen_membrane w m (subst (λ (z : List Row). kind_at (merged_by z) m ≡ Membrane) (sym c.self.view_is) c.requires.source) in
    let tn = seen_membrane w n (subst (λ (z : List Row). kind_at (merged_by z) n ≡ Membrane) (sym c.self.view_is) c.requires.target) in
    let inside = subst (λ (z : List Row). home_at (merged_by z) m ≢ Some n) (sym c.self.view_is) c.requires.inside in
    let outside = subst (λ (z : List Row). home_at (merged_by z) n ≢ Some m) (sym c.self.view_is) c.requires.outside in
    let S = cell_id c.keeper_of-source.result in let D = cell_id c.keeper_of-target.result in let qs : S ≡ keeper w m = c.keeper_of-source.ensures in let qt : D ≡ keeper w n = c.keeper_of-target.ensures in
    let own = subst (λ (z : List Row). port_mark (merged_by z) n ≢ LENT) (sym c.self.view_is) c.requires.own in
    let owned = subst (λ (z : List Row). (x : ℕ) → home_at (merged_by z) x ≡ Some m → kind_at (merged_by z) x ≡ Membrane → port_mark (merged_by z) x ≢ LENT) (sym c.self.view_is) c.requires.owned in
    kind_d w l r a m n tm.0 tm.1 tn.0 tn.1 c.requires.apart inside outside S D qs qt

pub send_all_last-requires-clause-apart : goal.send_all_last-requires-clause-apart
send_all_last-requires-clause-apart c =
    let w = web_by c.self.inside.web in let m = cell_id c.args.m in let n = cell_id c.args.n in let a = c.self.invariant in let r = c.paired.ensures in let l = c.listed.ensures in
    let tm = seen_membrane w m (subst (λ (z : List Row). kind_at (merged_by z) m ≡ Membrane) (sym c.self.view_is) c.requires.source) in
    let tn = seen_membrane w n (subst (λ (z : List Row). kind_at (merged_by z) n ≡ Membrane) (sym c.self.view_is) c.requires.target) in
    let inside = subst (λ (z : List Row). home_at (merged_by z) m ≢ Some n) (sym c.self.view_is) c.requires.inside in
    let outside = subst (λ (z : List Row). home_at (merged_by z) n ≢ Some m) (sym c.self.view_is) c.requires.outside in
    let S = cell_id c.keeper_of-source.result in let D = cell_id c.keeper_of-target.result in let qs : S ≡ keeper w m = c.keeper_of-source.ensures in let qt : D ≡ keeper w n = c.keeper_of-target.ensures in
    let own = subst (λ (z : List Row). port_mark (merged_by z) n ≢ LENT) (sym c.self.view_is) c.requires.own in
    let owned = subst (λ (z : List Row). (x : ℕ) → home_at (merged_by z) x ≡ Some m → kind_at (merged_by z) x ≡ Membrane → port_mark (merged_by z) x ≢ LENT) (sym c.self.view_is) c.requires.owned in
    differ w l r a m n tm.0 tm.1 tn.0 tn.1 c.requires.apart inside outside S D qs qt

pub send_all_last-requires-clause-outside : goal.send_all_last-requires-clause-outside
send_all_last-requires-clause-outside c =
    let w = web_by c.self.inside.web in let m = cell_id c.args.m in let n = cell_id c.args.n in let a = c.self.invariant in let r = c.paired.ensures in let l = c.listed.ensures in
    let tm = seen_membrane w m (subst (λ (z : List Row). kind_at (merged_by z) m ≡ Membrane) (sym c.self.view_is) c.requires.source) in
    let tn = seen_membrane w n (subst (λ (z : List Row). kind_at (merged_by z) n ≡ Membrane) (sym c.self.view_is) c.requires.target) in
    let inside = subst (λ (z : List Row). home_at (merged_by z) m ≢ Some n) (sym c.self.view_is) c.requires.inside in
    let outside = subst (λ (z : List Row). home_at (merged_by z) n ≢ Some m) (sym c.self.view_is) c.requires.outside in
    let S = cell_id c.keeper_of-source.result in let D = cell_id c.keeper_of-target.result in let qs : S ≡ keeper w m = c.keeper_of-source.ensures in let qt : D ≡ keeper w n = c.keeper_of-target.ensures in
    let own = subst (λ (z : List Row). port_mark (merged_by z) n ≢ LENT) (sym c.self.view_is) c.requires.own in
    let owned = subst (λ (z : List Row). (x : ℕ) → home_at (merged_by z) x ≡ Some m → kind_at (merged_by z) x ≡ Membrane → port_mark (merged_by z) x ≢ LENT) (sym c.self.view_is) c.requires.owned in
    last_out w l r a m n tm.0 tm.1 tn.0 tn.1 c.requires.apart inside outside S D qs qt own owned

pub send_all_last-requires-else-holds_less-clause-source : goal.send_all_last-requires-else-holds_less-clause-source
send_all_last-requires-else-holds_less-clause-source c =
    let w = web_by c.self.inside.web in let m = cell_id c.args.m in let n = cell_id c.args.n in let a = c.self.invariant in let r = c.paired.ensures in let l = c.listed.ensures in
    let tm = seen_membrane w m (subst (λ (z : List Row). kind_at (merged_by z) m ≡ Membrane) (sym c.self.view_is) c.requires.source) in
    let tn = seen_membrane w n (subst (λ (z : List Row). kind_at (merged_by z) n ≡ Membrane) (sym c.self.view_is) c.requires.target) in
    let inside = subst (λ (z : List Row). home_at (merged_by z) m ≢ Some n) (sym c.self.view_is) c.requires.inside in
    let outside = subst (λ (z : List Row). home_at (merged_by z) n ≢ Some m) (sym c.self.view_is) c.requires.outside in
    let S = cell_id c.keeper_of-source.result in let D = cell_id c.keeper_of-target.result in let qs : S ≡ keeper w m = c.keeper_of-source.ensures in let qt : D ≡ keeper w n = c.keeper_of-target.ensures in
    let own = subst (λ (z : List Row). port_mark (merged_by z) n ≢ LENT) (sym c.self.view_is) c.requires.own in
    let owned = subst (λ (z : List Row). (x : ℕ) → home_at (merged_by z) x ≡ Some m → kind_at (merged_by z) x ≡ Membrane → port_mark (merged_by z) x ≢ LENT) (sym c.self.view_is) c.requires.owned in
    let v = web_by c.send_all_last.new.web in let f = c.send_all_last.ensures in
    source_kind w l S D Atom (differ w l r a m n tm.0 tm.1 tn.0 tn.1 c.requires.apart inside outside S D qs qt) (last_out w l r a m n tm.0 tm.1 tn.0 tn.1 c.requires.apart inside outside S D qs qt own owned) (kind_s w l r a m n tm.0 tm.1 tn.0 tn.1 c.requires.apart inside outside S D qs qt) (kind_d w l r a m n tm.0 tm.1 tn.0 tn.1 c.requires.apart inside outside S D qs qt) v (cells_in w S Atom) [] (cells_in w D Atom ++ cells_in w S Atom) f

pub send_all_last-requires-else-holds_less-clause-home : goal.send_all_last-requires-else-holds_less-clause-home
send_all_last-requires-else-holds_less-clause-home c =
    let w = web_by c.self.inside.web in let m = cell_id c.args.m in let n = cell_id c.args.n in let a = c.self.invariant in let r = c.paired.ensures in let l = c.listed.ensures in
    let tm = seen_membrane w m (subst (λ (z : List Row). kind_at (merged_by z) m ≡ Membrane) (sym c.self.view_is) c.requires.source) in
    let tn = seen_membrane w n (subst (λ (z : List Row). kind_at (merged_by z) n ≡ Membrane) (sym c.self.view_is) c.requires.target) in
    let inside = subst (λ (z : List Row). home_at (merged_by z) m ≢ Some n) (sym c.self.view_is) c.requires.inside in
    let outside = subst (λ (z : List Row). home_at (merged_by z) n ≢ Some m) (sym c.self.view_is) c.requires.outside in
    let S = cell_id c.keeper_of-source.result in let D = cell_id c.keeper_of-target.result in let qs : S ≡ keeper w m = c.keeper_of-source.ensures in let qt : D ≡ keeper w n = c.keeper_of-target.ensures in
    let own = subst (λ (z : List Row). port_mark (merged_by z) n ≢ LENT) (sym c.self.view_is) c.requires.own in
    let owned = subst (λ (z : List Row). (x : ℕ) → home_at (merged_by z) x ≡ Some m → kind_at (merged_by z) x ≡ Membrane → port_mark (merged_by z) x ≢ LENT) (sym c.self.view_is) c.requires.owned in
    let v = web_by c.send_all_last.new.web in let f = c.send_all_last.ensures in
    target_kind w l S D Atom (differ w l r a m n tm.0 tm.1 tn.0 tn.1 c.requires.apart inside outside S D qs qt) (last_out w l r a m n tm.0 tm.1 tn.0 tn.1 c.requires.apart inside outside S D qs qt own owned) (kind_s w l r a m n tm.0 tm.1 tn.0 tn.1 c.requires.apart inside outside S D qs qt) (kind_d w l r a m n tm.0 tm.1 tn.0 tn.1 c.requires.apart inside outside S D qs qt) v (cells_in w S Atom) [] (cells_in w D Atom ++ cells_in w S Atom) f

pub send_all_last-requires-else-holds_less-clause-apart : goal.send_all_last-requires-else-holds_less-clause-apart
send_all_last-requires-else-holds_less-clause-apart c =
    let w = web_by c.self.inside.web in let m = cell_id c.args.m in let n = cell_id c.args.n in let a = c.self.invariant in let r = c.paired.ensures in let l = c.listed.ensures in
    let tm = seen_membrane w m (subst (λ (z : List Row). kind_at (merged_by z) m ≡ Membrane) (sym c.self.view_is) c.requires.source) in
    let tn = seen_membrane w n (subst (λ (z : List Row). kind_at (merged_by z) n ≡ Membrane) (sym c.self.view_is) c.requires.target) in
    let inside = subst (λ (z : List Row). home_at (merged_by z) m ≢ Some n) (sym c.self.view_is) c.requires.inside in
    let outside = subst (λ (z : List Row). home_at (merged_by z) n ≢ Some m) (sym c.self.view_is) c.requires.outside in
    let S = cell_id c.keeper_of-source.result in let D = cell_id c.keeper_of-target.result in let qs : S ≡ keeper w m = c.keeper_of-source.ensures in let qt : D ≡ keeper w n = c.keeper_of-target.ensures in
    let own = subst (λ (z : List Row). port_mark (merged_by z) n ≢ LENT) (sym c.self.view_is) c.requires.own in
    let owned = subst (λ (z : List Row). (x : ℕ) → home_at (merged_by z) x ≡ Some m → kind_at (merged_by z) x ≡ Membrane → port_mark (merged_by z) x ≢ LENT) (sym c.self.view_is) c.requires.owned in
    differ w l r a m n tm.0 tm.1 tn.0 tn.1 c.requires.apart inside outside S D qs qt

pub send_all_last-requires-else-holds_less-clause-outside : goal.send_all_last-requires-else-holds_less-clause-outside
send_all_last-requires-else-holds_less-clause-outside c =
    let w = web_by c.self.inside.web in let m = cell_id c.args.m in let n = cell_id c.args.n in let a = c.self.invariant in let r = c.paired.ensures in let l = c.listed.ensures in
    let tm = seen_membrane w m (subst (λ (z : List Row). kind_at (merged_by z) m ≡ Membrane) (sym c.self.view_is) c.requires.source) in
    let tn = seen_membrane w n (subst (λ (z : List Row). kind_at (merged_by z) n ≡ Membrane) (sym c.self.view_is) c.requires.target) in
    let inside = subst (λ (z : List Row). home_at (merged_by z) m ≢ Some n) (sym c.self.view_is) c.requires.inside in
    let outside = subst (λ (z : List Row). home_at (merged_by z) n ≢ Some m) (sym c.self.view_is) c.requires.outside in
    let S = cell_id c.keeper_of-source.result in let D = cell_id c.keeper_of-target.result in let qs : S ≡ keeper w m = c.keeper_of-source.ensures in let qt : D ≡ keeper w n = c.keeper_of-target.ensures in
    let own = subst (λ (z : List Row). port_mark (merged_by z) n ≢ LENT) (sym c.self.view_is) c.requires.own in
    let owned = subst (λ (z : List Row). (x : ℕ) → home_at (merged_by z) x ≡ Some m → kind_at (merged_by z) x ≡ Membrane → port_mark (merged_by z) x ≢ LENT) (sym c.self.view_is) c.requires.owned in
    let v = web_by c.send_all_last.new.web in let f = c.send_all_last.ensures in
    target_home w l S D Atom (differ w l r a m n tm.0 tm.1 tn.0 tn.1 c.requires.apart inside outside S D qs qt) (last_out w l r a m n tm.0 tm.1 tn.0 tn.1 c.requires.apart inside outside S D qs qt own owned) (kind_s w l r a m n tm.0 tm.1 tn.0 tn.1 c.requires.apart inside outside S D qs qt) (kind_d w l r a m n tm.0 tm.1 tn.0 tn.1 c.requires.apart inside outside S D qs qt) v (cells_in w S Atom) [] (cells_in w D Atom ++ cells_in w S Atom) f

pub invariant_of-self-else-holds_less : goal.invariant_of-self-else-holds_less
invariant_of-self-else-holds_less c =
    let w = web_by c.self.inside.web in let m = cell_id c.args.m in let n = cell_id c.args.n in let a = c.self.invariant in let r = c.paired.ensures in let l = c.listed.ensures in
    let tm = seen_membrane w m (subst (λ (z : List Row). kind_at (merged_by z) m ≡ Membrane) (sym c.self.view_is) c.requires.source) in
    let tn = seen_membrane w n (subst (λ (z : List Row). kind_at (merged_by z) n ≡ Membrane) (sym c.self.view_is) c.requires.target) in
    let inside = subst (λ (z : List Row). home_at (merged_by z) m ≢ Some n) (sym c.self.view_is) c.requires.inside in
    let outside = subst (λ (z : List Row). home_at (merged_by z) n ≢ Some m) (sym c.self.view_is) c.requires.outside in
    let S = cell_id c.keeper_of-source.result in let D = cell_id c.keeper_of-target.result in let qs : S ≡ keeper w m = c.keeper_of-source.ensures in let qt : D ≡ keeper w n = c.keeper_of-target.ensures in
    let own = subst (λ (z : List Row). port_mark (merged_by z) n ≢ LENT) (sym c.self.view_is) c.requires.own in
    let owned = subst (λ (z : List Row). (x : ℕ) → home_at (merged_by z) x ≡ Some m → kind_at (merged_by z) x ≡ Membrane → port_mark (merged_by z) x ≢ LENT) (sym c.self.view_is) c.requires.owned in
    let v = web_by c.send_all_last.new.web in let f = c.send_all_last.ensures in
    let u = web_by c.send_all_last-else-holds_less.new.web in let g = c.send_all_last-else-holds_less.ensures in
    went_kept w l r a m n tm.0 tm.1 tn.0 tn.1 c.requires.apart inside outside S D qs qt own owned v u f g

pub returns-else-holds_less : goal.returns-else-holds_less
returns-else-holds_less c =
    let w = web_by c.self.inside.web in let m = cell_id c.args.m in let n = cell_id c.args.n in let a = c.self.invariant in let r = c.paired.ensures in let l = c.listed.ensures in
    let tm = seen_membrane w m (subst (λ (z : List Row). kind_at (merged_by z) m ≡ Membrane) (sym c.self.view_is) c.requires.source) in
    let tn = seen_membrane w n (subst (λ (z : List Row). kind_at (merged_by z) n ≡ Membrane) (sym c.self.view_is) c.requires.target) in
    let inside = subst (λ (z : List Row). home_at (merged_by z) m ≢ Some n) (sym c.self.view_is) c.requires.inside in
    let outside = subst (λ (z : List Row). home_at (merged_by z) n ≢ Some m) (sym c.self.view_is) c.requires.outside in
    let S = cell_id c.keeper_of-source.result in let D = cell_id c.keeper_of-target.result in let qs : S ≡ keeper w m = c.keeper_of-source.ensures in let qt : D ≡ keeper w n = c.keeper_of-target.ensures in
    let own = subst (λ (z : List Row). port_mark (merged_by z) n ≢ LENT) (sym c.self.view_is) c.requires.own in
    let owned = subst (λ (z : List Row). (x : ℕ) → home_at (merged_by z) x ≡ Some m → kind_at (merged_by z) x ≡ Membrane → port_mark (merged_by z) x ≢ LENT) (sym c.self.view_is) c.requires.owned in
    let v = web_by c.send_all_last.new.web in let f = c.send_all_last.ensures in
    let u = web_by c.send_all_last-else-holds_less.new.web in let g = c.send_all_last-else-holds_less.ensures in
    subst (λ (z : List Row). MovesAll (merged_by z) (merged_by c.send_all_last-else-holds_less.new.web) m n) c.self.view_is (went_all w l r a m n tm.0 tm.1 tn.0 tn.1 c.requires.apart inside outside S D qs qt own owned v u f g)
