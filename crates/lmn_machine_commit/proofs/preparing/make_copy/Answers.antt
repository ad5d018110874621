use Rattle.std.proofs.Common.{ℕ, ap, map, refl, sym, ◌∙◌}
use Rattle.std.proofs.lemmas.List.{length-map}
use Rattle.lmn_ground.proofs.GroundLaws.{one_size}
use Rattle.lmn_machine_commit.proofs.CopyMeaning.{copy_is_made}
use Rattle.lmn_machine_commit.proofs.Listing.{listed_made}
use Rattle.lmn_machine_commit.proofs.Waiting.{makes_copy, makes_part_of_copy}
use Rattle.lmn_machine_commit.proofs.preparing.make_copy.Goals as goal

pub returns-in_err-copied-clause-makes : goal.returns-in_err-copied-clause-makes
returns-in_err-copied-clause-makes g c = makes_part_of_copy (g.S.LinkStore.heap c.args.store.now) (g.S.LinkStore.heap c.copy_counted.new.store) c.in_err-copied.ensures.err

pub returns-clause-ok : goal.returns-clause-ok
returns-clause-ok g c =
    let s = g.S.LinkStore.heap c.args.store.now in
    let root : ℕ × ℕ = (g.S.LinkStore.atom_id c.args.part.0, c.args.part.1) in
    let ok = c.in_ok-copied.ensures.ok in
    let handles = c.copy_counted.new.list.atoms in
    copy_is_made g.S.LinkStore.atom_id s s (g.S.LinkStore.heap c.copy_counted.new.store) c.args.set.now _ root c.in_ok-copied.copied.root
    c.in_ok-copied.copied.atoms refl
    (λ xs are. ok.2 ∙ sym (length-map handles g.S.LinkStore.atom_id) ∙ one_size s root (map g.S.LinkStore.atom_id handles) xs ok.1 are)
    ok.0 (ap (λ xs. record c.args.set.now { copies = xs; listed = c.copy_counted.new.list }) c.push.ensures)

pub returns-clause-listed : goal.returns-clause-listed
returns-clause-listed g c =
    listed_made g.S.LinkStore.atom_id c.copy_counted.new.list (g.S.LinkStore.heap c.args.store.now) (g.S.LinkStore.heap c.copy_counted.new.store)
    (makes_copy (g.S.LinkStore.heap c.args.store.now) (g.S.LinkStore.heap c.copy_counted.new.store) _ _ c.in_ok-copied.ensures.ok.0) c.copy_counted.ensures.listed

pub returns-clause-makes : goal.returns-clause-makes
returns-clause-makes g c = makes_copy (g.S.LinkStore.heap c.args.store.now) (g.S.LinkStore.heap c.copy_counted.new.store) _ _ c.in_ok-copied.ensures.ok.0
