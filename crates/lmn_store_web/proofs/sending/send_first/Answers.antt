use Rattle.std.proofs.Common.{ℕ, IsSome, Option, sym, ap, subst, ◌∙◌, inl, inr, ◌≡◌}
use Rattle.lmn_web_cells.specs.CellIds.{cell_id}
use Rattle.lmn_web.specs.Webs.{WebCell, home_at, kind_at, added_last}
use Rattle.lmn_web_merging.specs.Keepers.{merged_by, port_mark}
use Rattle.lmn_web_merging.proofs.Sending.{home_some, out_kinds, out_there, out_homeless}
use Rattle.lmn_store_web.proofs.PlaceLemmas.{first_is}
use Rattle.lmn_store_web.proofs.ReadLemmas.{some_home}
use Rattle.lmn_store_web.proofs.SendLemmas.{out_marks, sends}
use Rattle.lmn_store_web.proofs.sending.send_first.Goals as goal

pub add_last-requires-clause-there : goal.add_last-requires-clause-there
add_last-requires-clause-there c =
    let w = merged_by c.args.web.now in let x = cell_id c.args.c in let l = cell_id c.args.line in let n = cell_id c.args.home in
    let f = first_is w c.listed.ensures l x c.args.kind c.requires.first in
    subst (λ (g : ℕ → Option WebCell). IsSome (g x)) (sym c.unlink_first_plain.ensures) (out_there w l 0 x f.2 (home_some (w x) (some_home (home_at w x) l f.0)))

pub add_last-requires-clause-homeless : goal.add_last-requires-clause-homeless
add_last-requires-clause-homeless c =
    let w = merged_by c.args.web.now in let x = cell_id c.args.c in let l = cell_id c.args.line in let n = cell_id c.args.home in
    let f = first_is w c.listed.ensures l x c.args.kind c.requires.first in
    ap (λ (g : ℕ → Option WebCell). home_at g x) c.unlink_first_plain.ensures ∙ out_homeless w l 0 x f.2

pub add_last-requires-clause-kind : goal.add_last-requires-clause-kind
add_last-requires-clause-kind c =
    let w = merged_by c.args.web.now in let x = cell_id c.args.c in let l = cell_id c.args.line in let n = cell_id c.args.home in
    let f = first_is w c.listed.ensures l x c.args.kind c.requires.first in
    ap (λ (g : ℕ → Option WebCell). kind_at g x) c.unlink_first_plain.ensures ∙ out_kinds w l 0 x x ∙ f.1

pub add_last-requires-clause-membrane : goal.add_last-requires-clause-membrane
add_last-requires-clause-membrane c =
    let w = merged_by c.args.web.now in let x = cell_id c.args.c in let l = cell_id c.args.line in let n = cell_id c.args.home in
    let f = first_is w c.listed.ensures l x c.args.kind c.requires.first in
    ap (λ (g : ℕ → Option WebCell). kind_at g n) c.unlink_first_plain.ensures ∙ out_kinds w l 0 x n ∙ c.requires.membrane

pub add_last-requires-clause-differ : goal.add_last-requires-clause-differ
add_last-requires-clause-differ c = c.requires.apart.0

pub add_last-requires-clause-own : goal.add_last-requires-clause-own
add_last-requires-clause-own c k =
    let w = merged_by c.args.web.now in let x = cell_id c.args.c in let l = cell_id c.args.line in let n = cell_id c.args.home in
    let f = first_is w c.listed.ensures l x c.args.kind c.requires.first in
    let same : (y : ℕ) → port_mark (merged_by c.unlink_first_plain.new.self) y ≡ port_mark w y = λ y. ap (λ (g : ℕ → Option WebCell). port_mark g y) c.unlink_first_plain.ensures ∙ out_marks w l x y in
    elim (c.requires.own k) [ inl e ↦ inl (same x ∙ e) | inr e ↦ inr (same n ∙ e) ]

pub returns : goal.returns
returns c =
    let w = merged_by c.args.web.now in let x = cell_id c.args.c in let l = cell_id c.args.line in let n = cell_id c.args.home in
    let f = first_is w c.listed.ensures l x c.args.kind c.requires.first in
    sends w l n x f.2 c.requires.apart.0 c.requires.apart.1 (merged_by c.add_last.new.self)
    (c.add_last.ensures ∙ ap (λ (g : ℕ → Option WebCell). added_last g n x) c.unlink_first_plain.ensures)
