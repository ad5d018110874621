use Rattle.std.proofs.Common.{◌∙◌}
use Rattle.lmn_ground.proofs.CopyLaws.{member, made_first, made_more, made_next, made_keeps, none_long, one_longer}
use Rattle.lmn_ground.proofs.copying.make_copies.Goals as goal

pub loop-i-init : goal.loop-i-init
loop-i-init g c = record {
  there = c.requires.there;
  made = made_first g.S.LinkStore.atom_id _ _ c.reserve.new.self (c.reserve.ensures ∙ c.requires.empty);
  long = none_long c.reserve.new.self (c.reserve.ensures ∙ c.requires.empty);
}

pub make_like-requires : goal.make_like-requires
make_like-requires g c = c.loop-i.invariant.there _ (member g.S.LinkStore.atom_id c.args.atoms.now _ _ c.at.ensures)

pub returns-in_err-push-clause-some : goal.returns-in_err-push-clause-some
returns-in_err-push-clause-some g c =
    let t = c.loop-i.invariant in
    (_, made_more g.S.LinkStore.atom_id _ _ c.args.atoms.now c.loop-i.copies t.made c.requires.there _ _ _ _ c.at.ensures t.long c.in_ok-copy.ensures.ok.1 c.in_ok-copy.ensures.fresh _ c.in_ok-copy.ensures.ok.2)

pub loop-i-preserved : goal.loop-i-preserved
loop-i-preserved g c =
    let t = c.loop-i.invariant in
    record {
      there = made_keeps _ _ _ _ _ c.in_ok-copy.ensures.ok.2 c.in_ok-copy.ensures.fresh t.there;
      made = made_next g.S.LinkStore.atom_id _ _ c.args.atoms.now c.loop-i.copies t.made c.requires.there _ _ _ _ c.at.ensures t.long c.in_ok-copy.ensures.ok.1 c.in_ok-copy.ensures.fresh _ c.in_ok-copy.ensures.ok.2 _ c.in_ok-push.ensures.ok;
      long = one_longer c.loop-i.copies _ c.push.new.self _ t.long c.in_ok-push.ensures.ok;
    }
