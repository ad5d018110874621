use Rattle.std.proofs.Common.{◌≡◌, ◌∙◌, ◌∷◌, ◌++◌, [], ℕ, ap, length, map, refl, subst, sym}
use Rattle.lmn_ground_parts.specs.Copies.{Copied}
use Rattle.lmn_ground_parts.specs.Walks.{IsPartInDepth}
use Rattle.lmn_ground.proofs.LoneLaws.{lone_copied, lone_part, remains_nothing}
use Rattle.lmn_base.proofs.Lists.{on_err}
use Rattle.lmn_ground.proofs.copying.copy_lone.Goals as goal

pub returns-in_err-copy-clause-err : goal.returns-in_err-copy-clause-err
returns-in_err-copy-clause-err g c = on_err _ _ (remains_nothing (g.S.LinkStore.heap c.args.store.now) (g.S.LinkStore.heap c.make_atom.new.self) c.in_err-copy.ensures.err)

pub returns-in_err-push-clause-err : goal.returns-in_err-push-clause-err
returns-in_err-push-clause-err g c = on_err _ _ (remains_nothing (g.S.LinkStore.heap c.args.store.now) (g.S.LinkStore.heap c.args.store.now) refl)

pub returns-clause-ok : goal.returns-clause-ok
returns-clause-ok g c =
    let s = g.S.LinkStore.heap c.args.store.now in
    let root : ℕ × ℕ = (g.S.LinkStore.atom_id c.args.root.0, c.args.root.1) in
    let listed : c.push.new.self ≡ c.args.root.0 ∷ [] = c.in_ok-push.ensures.ok ∙ ap (λ xs. xs ++ c.args.root.0 ∷ []) c.clear.ensures in (
      subst (λ h. Copied s h root (g.S.LinkStore.atom_id c.in_ok-copy.copy, c.args.root.1)) (sym c.in_ok-copy.ensures.ok)
          (lone_copied s root c.requires.lone c.requires.root.1 c.root-sound.ensures.sound c.requires.root.0 c.requires.outside c.requires.ground c.functor-functor.result c.functor-functor.ensures (g.S.LinkStore.atom_id c.in_ok-copy.copy) c.in_ok-copy.ensures.fresh),
      subst (λ xs. IsPartInDepth s root xs) (sym (ap (map g.S.LinkStore.atom_id) listed)) (lone_part s root c.requires.lone c.requires.root.1),
      sym (ap length listed),
    )
