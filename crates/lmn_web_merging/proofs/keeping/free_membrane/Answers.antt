use Rattle.std.proofs.Common.{◌≡◌, ℕ, ◌<◌, ◌≤◌, true, false, Option, Some, None, sym, ap, subst, ◌∙◌, arith}
use Rattle.std.specs.Option.{option_map}
use Rattle.lmn_store_heap.specs.Heap.{alter}
use Rattle.lmn_web_cells.specs.CellIds.{cell_id, port_id}
use Rattle.lmn_web.specs.Webs.{WebCell, web_by, partner_at, IsLoose}
use Rattle.lmn_web_merging.specs.Keepers.{is_retired, seen}
use Rattle.lmn_web_merging.specs.Moves.{AreKept}
use Rattle.lmn_web_merging.proofs.Sending.{kind_there}
use Rattle.lmn_web_merging.proofs.Single.{loose_membrane, loose_raw, freed_kept, seen_freed}
use Rattle.lmn_web_merging.proofs.Freeing.{keeper_loose, other_loose, both_kept, seen_both, retired_kept, seen_retired}
use Rattle.lmn_web_merging.proofs.keeping.free_membrane.Goals as goal

pub partner-requires : goal.partner-requires
partner-requires c =
    let w = web_by c.args.web.now in let m = cell_id c.args.m in let a = c.requires.kept in let r = c.paired.ensures in let l = c.listed.ensures in let km = c.requires.membrane in let loose = c.requires.loose in
    subst (λ n. 0 < n) (sym (a.ports m km)) (omega arith)

pub free-requires : goal.free-requires
free-requires c =
    let w = web_by c.args.web.now in let m = cell_id c.args.m in let a = c.requires.kept in let r = c.paired.ensures in let l = c.listed.ensures in let km = c.requires.membrane in let loose = c.requires.loose in
    let alone = loose_membrane w r a m loose km (c.partner.ensures ∙ ap (option_map port_id) c.in-None.is) in
    loose_raw w r a m loose alone

pub has_retired-requires-clause-membrane : goal.has_retired-requires-clause-membrane
has_retired-requires-clause-membrane c =
    let w = web_by c.args.web.now in let m = cell_id c.args.m in let a = c.requires.kept in let r = c.paired.ensures in let l = c.listed.ensures in let km = c.requires.membrane in let loose = c.requires.loose in
    let k = cell_id c.in-Some.k in let p0 = c.partner.ensures ∙ ap (option_map port_id) c.in-Some.is in
    let p : partner_at w m 0 ≡ Some (k, 0) = p0 ∙ ap (λ j. Some (k, j)) (a.joined m 0 k _ km p0).1 in
    (a.joined m 0 k 0 km p).2

pub has_retired-requires-clause-ports : goal.has_retired-requires-clause-ports
has_retired-requires-clause-ports c =
    let w = web_by c.args.web.now in let m = cell_id c.args.m in let a = c.requires.kept in let r = c.paired.ensures in let l = c.listed.ensures in let km = c.requires.membrane in let loose = c.requires.loose in
    let k = cell_id c.in-Some.k in let p0 = c.partner.ensures ∙ ap (option_map port_id) c.in-Some.is in
    let p : partner_at w m 0 ≡ Some (k, 0) = p0 ∙ ap (λ j. Some (k, j)) (a.joined m 0 k _ km p0).1 in
    a.ports k (a.joined m 0 k 0 km p).2

pub split-requires : goal.split-requires
split-requires c =
    let w = web_by c.args.web.now in let m = cell_id c.args.m in let a = c.requires.kept in let r = c.paired.ensures in let l = c.listed.ensures in let km = c.requires.membrane in let loose = c.requires.loose in
    let k = cell_id c.in-Some.k in let p0 = c.partner.ensures ∙ ap (option_map port_id) c.in-Some.is in
    let p : partner_at w m 0 ≡ Some (k, 0) = p0 ∙ ap (λ j. Some (k, j)) (a.joined m 0 k _ km p0).1 in
    let gone : is_retired (w k) ≡ true = sym c.has_retired.ensures ∙ c.if-has_retired.true in
    subst (λ n. 0 < n) (sym (a.ports m km)) (omega arith)

pub free-requires-then-has_retired : goal.free-requires-then-has_retired
free-requires-then-has_retired c =
    let w = web_by c.args.web.now in let m = cell_id c.args.m in let a = c.requires.kept in let r = c.paired.ensures in let l = c.listed.ensures in let km = c.requires.membrane in let loose = c.requires.loose in
    let k = cell_id c.in-Some.k in let p0 = c.partner.ensures ∙ ap (option_map port_id) c.in-Some.is in
    let p : partner_at w m 0 ≡ Some (k, 0) = p0 ∙ ap (λ j. Some (k, j)) (a.joined m 0 k _ km p0).1 in
    let gone : is_retired (w k) ≡ true = sym c.has_retired.ensures ∙ c.if-has_retired.true in
    subst (λ (f : ℕ → Option WebCell). IsLoose f k) (sym c.split.ensures) (keeper_loose w r a m k km p gone loose)

pub free-requires-then-has_retired-2 : goal.free-requires-then-has_retired-2
free-requires-then-has_retired-2 c =
    let w = web_by c.args.web.now in let m = cell_id c.args.m in let a = c.requires.kept in let r = c.paired.ensures in let l = c.listed.ensures in let km = c.requires.membrane in let loose = c.requires.loose in
    let k = cell_id c.in-Some.k in let p0 = c.partner.ensures ∙ ap (option_map port_id) c.in-Some.is in
    let p : partner_at w m 0 ≡ Some (k, 0) = p0 ∙ ap (λ j. Some (k, j)) (a.joined m 0 k _ km p0).1 in
    let gone : is_retired (w k) ≡ true = sym c.has_retired.ensures ∙ c.if-has_retired.true in
    subst (λ (f : ℕ → Option WebCell). IsLoose f m) (sym (c.free-then-has_retired.ensures ∙ ap (λ (f : ℕ → Option WebCell). alter f k (λ _. None)) c.split.ensures)) (other_loose w r a m k km p gone loose)

pub set_mark-requires-clause-there : goal.set_mark-requires-clause-there
set_mark-requires-clause-there c =
    let w = web_by c.args.web.now in let m = cell_id c.args.m in let a = c.requires.kept in let r = c.paired.ensures in let l = c.listed.ensures in let km = c.requires.membrane in let loose = c.requires.loose in
    let k = cell_id c.in-Some.k in let p0 = c.partner.ensures ∙ ap (option_map port_id) c.in-Some.is in
    let p : partner_at w m 0 ≡ Some (k, 0) = p0 ∙ ap (λ j. Some (k, j)) (a.joined m 0 k _ km p0).1 in
    let there : is_retired (w k) ≡ false = sym c.has_retired.ensures ∙ c.if-has_retired.false in
    kind_there (w m) km

pub set_mark-requires-clause-slot : goal.set_mark-requires-clause-slot
set_mark-requires-clause-slot c =
    let w = web_by c.args.web.now in let m = cell_id c.args.m in let a = c.requires.kept in let r = c.paired.ensures in let l = c.listed.ensures in let km = c.requires.membrane in let loose = c.requires.loose in
    let k = cell_id c.in-Some.k in let p0 = c.partner.ensures ∙ ap (option_map port_id) c.in-Some.is in
    let p : partner_at w m 0 ≡ Some (k, 0) = p0 ∙ ap (λ j. Some (k, j)) (a.joined m 0 k _ km p0).1 in
    let there : is_retired (w k) ≡ false = sym c.has_retired.ensures ∙ c.if-has_retired.false in
    subst (λ n. 1 ≤ n) (sym (a.ports m km)) (omega arith)

pub returns-in-None-clause-kept : goal.returns-in-None-clause-kept
returns-in-None-clause-kept c =
    let w = web_by c.args.web.now in let m = cell_id c.args.m in let a = c.requires.kept in let r = c.paired.ensures in let l = c.listed.ensures in let km = c.requires.membrane in let loose = c.requires.loose in
    let alone = loose_membrane w r a m loose km (c.partner.ensures ∙ ap (option_map port_id) c.in-None.is) in
    subst AreKept (sym c.free.ensures) (freed_kept w r a m loose alone)

pub returns-in-None-clause-freed : goal.returns-in-None-clause-freed
returns-in-None-clause-freed c =
    let w = web_by c.args.web.now in let m = cell_id c.args.m in let a = c.requires.kept in let r = c.paired.ensures in let l = c.listed.ensures in let km = c.requires.membrane in let loose = c.requires.loose in
    let alone = loose_membrane w r a m loose km (c.partner.ensures ∙ ap (option_map port_id) c.in-None.is) in
    ap seen c.free.ensures ∙ seen_freed w r a m loose alone

pub returns-then-has_retired-clause-kept : goal.returns-then-has_retired-clause-kept
returns-then-has_retired-clause-kept c =
    let w = web_by c.args.web.now in let m = cell_id c.args.m in let a = c.requires.kept in let r = c.paired.ensures in let l = c.listed.ensures in let km = c.requires.membrane in let loose = c.requires.loose in
    let k = cell_id c.in-Some.k in let p0 = c.partner.ensures ∙ ap (option_map port_id) c.in-Some.is in
    let p : partner_at w m 0 ≡ Some (k, 0) = p0 ∙ ap (λ j. Some (k, j)) (a.joined m 0 k _ km p0).1 in
    let gone : is_retired (w k) ≡ true = sym c.has_retired.ensures ∙ c.if-has_retired.true in
    subst AreKept (sym (c.free-then-has_retired-2.ensures ∙ ap (λ (f : ℕ → Option WebCell). alter f m (λ _. None)) (c.free-then-has_retired.ensures ∙ ap (λ (f : ℕ → Option WebCell). alter f k (λ _. None)) c.split.ensures))) (both_kept w r a m k km p gone loose)

pub returns-then-has_retired-clause-freed : goal.returns-then-has_retired-clause-freed
returns-then-has_retired-clause-freed c =
    let w = web_by c.args.web.now in let m = cell_id c.args.m in let a = c.requires.kept in let r = c.paired.ensures in let l = c.listed.ensures in let km = c.requires.membrane in let loose = c.requires.loose in
    let k = cell_id c.in-Some.k in let p0 = c.partner.ensures ∙ ap (option_map port_id) c.in-Some.is in
    let p : partner_at w m 0 ≡ Some (k, 0) = p0 ∙ ap (λ j. Some (k, j)) (a.joined m 0 k _ km p0).1 in
    let gone : is_retired (w k) ≡ true = sym c.has_retired.ensures ∙ c.if-has_retired.true in
    ap seen (c.free-then-has_retired-2.ensures ∙ ap (λ (f : ℕ → Option WebCell). alter f m (λ _. None)) (c.free-then-has_retired.ensures ∙ ap (λ (f : ℕ → Option WebCell). alter f k (λ _. None)) c.split.ensures)) ∙ seen_both w r a m k km p gone loose l

pub returns-else-has_retired-clause-kept : goal.returns-else-has_retired-clause-kept
returns-else-has_retired-clause-kept c =
    let w = web_by c.args.web.now in let m = cell_id c.args.m in let a = c.requires.kept in let r = c.paired.ensures in let l = c.listed.ensures in let km = c.requires.membrane in let loose = c.requires.loose in
    let k = cell_id c.in-Some.k in let p0 = c.partner.ensures ∙ ap (option_map port_id) c.in-Some.is in
    let p : partner_at w m 0 ≡ Some (k, 0) = p0 ∙ ap (λ j. Some (k, j)) (a.joined m 0 k _ km p0).1 in
    let there : is_retired (w k) ≡ false = sym c.has_retired.ensures ∙ c.if-has_retired.false in
    subst AreKept (sym c.set_mark.ensures) (retired_kept w r a m k km p there loose)

pub returns-else-has_retired-clause-freed : goal.returns-else-has_retired-clause-freed
returns-else-has_retired-clause-freed c =
    let w = web_by c.args.web.now in let m = cell_id c.args.m in let a = c.requires.kept in let r = c.paired.ensures in let l = c.listed.ensures in let km = c.requires.membrane in let loose = c.requires.loose in
    let k = cell_id c.in-Some.k in let p0 = c.partner.ensures ∙ ap (option_map port_id) c.in-Some.is in
    let p : partner_at w m 0 ≡ Some (k, 0) = p0 ∙ ap (λ j. Some (k, j)) (a.joined m 0 k _ km p0).1 in
    let there : is_retired (w k) ≡ false = sym c.has_retired.ensures ∙ c.if-has_retired.false in
    ap seen c.set_mark.ensures ∙ seen_retired w r a m k km p there loose
