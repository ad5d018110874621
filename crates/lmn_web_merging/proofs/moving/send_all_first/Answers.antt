use Rattle.std.proofs.Common.{ℕ, Option, IsSome, sym, subst, refl}
use Rattle.lmn_web_cells.specs.CellIds.{cell_id}
use Rattle.lmn_web.specs.Webs.{web_by}
use Rattle.lmn_web_merging.proofs.Sending.{kind_there, none_first, all_first, source_kind, target_kind, next_differs, next_elsewhere, last_home, last_kind, first_fewer, sent_first}
use Rattle.lmn_web_merging.proofs.moving.send_all_first.Goals as goal

pub loop-c-init : goal.loop-c-init
loop-c-init c = record { sent = none_first (web_by c.args.web.now) c.listed.ensures (cell_id c.args.source) (cell_id c.args.home) c.args.kind c.requires.apart c.requires.outside c.requires.source c.requires.home }

pub last-requires : goal.last-requires
last-requires c =
    let w = web_by c.args.web.now in let v = web_by c.loop-c.web in let m = cell_id c.args.source in let n = cell_id c.args.home in let s = c.loop-c.invariant.sent in
    kind_there (v m) (source_kind w c.listed.ensures m n c.args.kind c.requires.apart c.requires.outside c.requires.source c.requires.home v s.gone s.rest _ s.moves)

pub send_first-requires-clause-kind : goal.send_first-requires-clause-kind
send_first-requires-clause-kind c =
    let w = web_by c.args.web.now in let v = web_by c.loop-c.web in let m = cell_id c.args.source in let n = cell_id c.args.home in let x = cell_id c.in-Some.c in let s = c.loop-c.invariant.sent in
    last_kind w c.listed.ensures m n c.args.kind c.requires.apart c.requires.outside c.requires.source c.requires.home v c.listed-in-Some.ensures s x c.in-Some.ensures.0 c.in-Some.ensures.1

pub send_first-requires-clause-membrane : goal.send_first-requires-clause-membrane
send_first-requires-clause-membrane c =
    let w = web_by c.args.web.now in let v = web_by c.loop-c.web in let m = cell_id c.args.source in let n = cell_id c.args.home in let s = c.loop-c.invariant.sent in
    target_kind w c.listed.ensures m n c.args.kind c.requires.apart c.requires.outside c.requires.source c.requires.home v s.gone s.rest _ s.moves

pub send_first-requires-clause-differ : goal.send_first-requires-clause-differ
send_first-requires-clause-differ c =
    let w = web_by c.args.web.now in let v = web_by c.loop-c.web in let m = cell_id c.args.source in let n = cell_id c.args.home in let x = cell_id c.in-Some.c in let s = c.loop-c.invariant.sent in
    next_differs w c.listed.ensures m n c.args.kind c.requires.apart c.requires.outside c.requires.source c.requires.home v s.gone s.rest _ s.moves x
    (last_home w c.listed.ensures m n c.args.kind c.requires.apart c.requires.outside c.requires.source c.requires.home v c.listed-in-Some.ensures s x c.in-Some.ensures.0 c.in-Some.ensures.1)

pub send_first-requires-clause-listed : goal.send_first-requires-clause-listed
send_first-requires-clause-listed c =
    let w = web_by c.args.web.now in let v = web_by c.loop-c.web in let m = cell_id c.args.source in let n = cell_id c.args.home in let x = cell_id c.in-Some.c in let s = c.loop-c.invariant.sent in
    subst (λ (o : Option ℕ). IsSome o) (sym (last_home w c.listed.ensures m n c.args.kind c.requires.apart c.requires.outside c.requires.source c.requires.home v c.listed-in-Some.ensures s x c.in-Some.ensures.0 c.in-Some.ensures.1)) refl

pub send_first-requires-clause-elsewhere : goal.send_first-requires-clause-elsewhere
send_first-requires-clause-elsewhere c =
    let w = web_by c.args.web.now in let v = web_by c.loop-c.web in let m = cell_id c.args.source in let n = cell_id c.args.home in let x = cell_id c.in-Some.c in let s = c.loop-c.invariant.sent in
    next_elsewhere w c.listed.ensures m n c.args.kind c.requires.apart c.requires.outside c.requires.source c.requires.home v s.gone s.rest _ s.moves x
    (last_home w c.listed.ensures m n c.args.kind c.requires.apart c.requires.outside c.requires.source c.requires.home v c.listed-in-Some.ensures s x c.in-Some.ensures.0 c.in-Some.ensures.1)

pub loop-c-smaller : goal.loop-c-smaller
loop-c-smaller c =
    let w = web_by c.args.web.now in let v = web_by c.loop-c.web in let m = cell_id c.args.source in let n = cell_id c.args.home in let x = cell_id c.in-Some.c in let s = c.loop-c.invariant.sent in
    first_fewer w c.listed.ensures m n c.args.kind c.requires.apart c.requires.outside c.requires.source c.requires.home v c.listed-in-Some.ensures s x c.in-Some.ensures.0 c.in-Some.ensures.1 (web_by c.send_first.new.web)
    (c.send_first.ensures m (last_home w c.listed.ensures m n c.args.kind c.requires.apart c.requires.outside c.requires.source c.requires.home v c.listed-in-Some.ensures s x c.in-Some.ensures.0 c.in-Some.ensures.1))

pub loop-c-preserved : goal.loop-c-preserved
loop-c-preserved c =
    let w = web_by c.args.web.now in let v = web_by c.loop-c.web in let m = cell_id c.args.source in let n = cell_id c.args.home in let x = cell_id c.in-Some.c in let s = c.loop-c.invariant.sent in
    record {
      sent = sent_first w c.listed.ensures m n c.args.kind c.requires.apart c.requires.outside c.requires.source c.requires.home v c.listed-in-Some.ensures s x c.in-Some.ensures.0 c.in-Some.ensures.1 (web_by c.send_first.new.web)
          (c.send_first.ensures m (last_home w c.listed.ensures m n c.args.kind c.requires.apart c.requires.outside c.requires.source c.requires.home v c.listed-in-Some.ensures s x c.in-Some.ensures.0 c.in-Some.ensures.1));
    }

pub returns : goal.returns
returns c =
    let w = web_by c.args.web.now in let v = web_by c.loop-c.web in let m = cell_id c.args.source in let n = cell_id c.args.home in
    all_first w c.listed.ensures m n c.args.kind c.requires.apart c.requires.outside c.requires.source c.requires.home v c.loop-c.invariant.sent c.in_default.ensures
