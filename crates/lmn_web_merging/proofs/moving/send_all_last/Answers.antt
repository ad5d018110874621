use Rattle.std.proofs.Common.{◌≡◌, ℕ, Option, IsSome, sym, subst, refl}
use Rattle.std.specs.Option.{option_map}
use Rattle.lmn_store_heap.specs.Lists.{from}
use Rattle.lmn_web_cells.specs.CellIds.{cell_id}
use Rattle.lmn_web.specs.Webs.{web_by, cells_in}
use Rattle.lmn_web_merging.proofs.Sending.{none_last, all_last, source_kind, target_kind, next_differs, next_elsewhere, first_home, first_kind, last_fewer, sent_last}
use Rattle.lmn_web_merging.proofs.moving.send_all_last.Goals as goal

pub loop-c-init : goal.loop-c-init
loop-c-init c = record { sent = none_last (web_by c.args.web.now) c.listed.ensures (cell_id c.args.source) (cell_id c.args.home) c.args.kind c.requires.apart c.requires.outside c.requires.source c.requires.home }

pub first-requires : goal.first-requires
first-requires c =
    let w = web_by c.args.web.now in let v = web_by c.loop-c.web in let m = cell_id c.args.source in let n = cell_id c.args.home in let s = c.loop-c.invariant.sent in
    (source_kind w c.listed.ensures m n c.args.kind c.requires.apart c.requires.outside c.requires.source c.requires.home v s.gone s.rest _ s.moves)

pub send_last-requires-clause-kind : goal.send_last-requires-clause-kind
send_last-requires-clause-kind c =
    let w = web_by c.args.web.now in let v = web_by c.loop-c.web in let m = cell_id c.args.source in let n = cell_id c.args.home in let x = cell_id c.in-Some.c in let s = c.loop-c.invariant.sent in
    first_kind w c.listed.ensures m n c.args.kind c.requires.apart c.requires.outside c.requires.source c.requires.home v c.listed-in-Some.ensures s x c.in-Some.ensures.list

pub send_last-requires-clause-membrane : goal.send_last-requires-clause-membrane
send_last-requires-clause-membrane c =
    let w = web_by c.args.web.now in let v = web_by c.loop-c.web in let m = cell_id c.args.source in let n = cell_id c.args.home in let s = c.loop-c.invariant.sent in
    target_kind w c.listed.ensures m n c.args.kind c.requires.apart c.requires.outside c.requires.source c.requires.home v s.gone s.rest _ s.moves

pub send_last-requires-clause-differ : goal.send_last-requires-clause-differ
send_last-requires-clause-differ c =
    let w = web_by c.args.web.now in let v = web_by c.loop-c.web in let m = cell_id c.args.source in let n = cell_id c.args.home in let x = cell_id c.in-Some.c in let s = c.loop-c.invariant.sent in
    next_differs w c.listed.ensures m n c.args.kind c.requires.apart c.requires.outside c.requires.source c.requires.home v s.gone s.rest _ s.moves x
    (first_home w c.listed.ensures m n c.args.kind c.requires.apart c.requires.outside c.requires.source c.requires.home v c.listed-in-Some.ensures s x c.in-Some.ensures.list)

pub send_last-requires-clause-listed : goal.send_last-requires-clause-listed
send_last-requires-clause-listed c =
    let w = web_by c.args.web.now in let v = web_by c.loop-c.web in let m = cell_id c.args.source in let n = cell_id c.args.home in let x = cell_id c.in-Some.c in let s = c.loop-c.invariant.sent in
    subst (λ (o : Option ℕ). IsSome o) (sym (first_home w c.listed.ensures m n c.args.kind c.requires.apart c.requires.outside c.requires.source c.requires.home v c.listed-in-Some.ensures s x c.in-Some.ensures.list)) refl

pub send_last-requires-clause-elsewhere : goal.send_last-requires-clause-elsewhere
send_last-requires-clause-elsewhere c =
    let w = web_by c.args.web.now in let v = web_by c.loop-c.web in let m = cell_id c.args.source in let n = cell_id c.args.home in let x = cell_id c.in-Some.c in let s = c.loop-c.invariant.sent in
    next_elsewhere w c.listed.ensures m n c.args.kind c.requires.apart c.requires.outside c.requires.source c.requires.home v s.gone s.rest _ s.moves x
    (first_home w c.listed.ensures m n c.args.kind c.requires.apart c.requires.outside c.requires.source c.requires.home v c.listed-in-Some.ensures s x c.in-Some.ensures.list)

pub loop-c-smaller : goal.loop-c-smaller
loop-c-smaller c =
    let w = web_by c.args.web.now in let v = web_by c.loop-c.web in let m = cell_id c.args.source in let n = cell_id c.args.home in let x = cell_id c.in-Some.c in let s = c.loop-c.invariant.sent in
    last_fewer w c.listed.ensures m n c.args.kind c.requires.apart c.requires.outside c.requires.source c.requires.home v c.listed-in-Some.ensures s x c.in-Some.ensures.list (web_by c.send_last.new.web)
    (c.send_last.ensures m (first_home w c.listed.ensures m n c.args.kind c.requires.apart c.requires.outside c.requires.source c.requires.home v c.listed-in-Some.ensures s x c.in-Some.ensures.list))

pub loop-c-preserved : goal.loop-c-preserved
loop-c-preserved c =
    let w = web_by c.args.web.now in let v = web_by c.loop-c.web in let m = cell_id c.args.source in let n = cell_id c.args.home in let x = cell_id c.in-Some.c in let s = c.loop-c.invariant.sent in
    record {
      sent = sent_last w c.listed.ensures m n c.args.kind c.requires.apart c.requires.outside c.requires.source c.requires.home v c.listed-in-Some.ensures s x c.in-Some.ensures.list (web_by c.send_last.new.web)
          (c.send_last.ensures m (first_home w c.listed.ensures m n c.args.kind c.requires.apart c.requires.outside c.requires.source c.requires.home v c.listed-in-Some.ensures s x c.in-Some.ensures.list));
    }

pub returns : goal.returns
returns c =
    let w = web_by c.args.web.now in let v = web_by c.loop-c.web in let m = cell_id c.args.source in let n = cell_id c.args.home in let us = cells_in v m c.args.kind in
    all_last w c.listed.ensures m n c.args.kind c.requires.apart c.requires.outside c.requires.source c.requires.home v c.loop-c.invariant.sent
    (sym (subst (λ o. from (option_map cell_id o) us ≡ us) c.in_default.is c.first.ensures.list))
