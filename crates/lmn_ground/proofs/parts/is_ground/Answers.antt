use Rattle.lmn_base.specs.Graphs.{at_root}
use Rattle.lmn_ground.proofs.SpreadLaws.{clean_part}
use Rattle.lmn_ground.proofs.GroundLaws.{root_there, root_port_there, fits_ground}
use Rattle.std.proofs.Common.{ℕ, Some, ap, refl, subst, sym, ◌∙◌}
use Rattle.lmn_ground.proofs.ListedLaws.{listed_none, listed_walked}
use Rattle.lmn_ground_parts.specs.Walks.{IsPartInDepth}
use Rattle.lmn_ground.proofs.LoneLaws.{lone_whole}
use Rattle.lmn_base.proofs.Truth.{false_not_true, never_both, not_false, not_true}
use Rattle.lmn_ground.proofs.parts.is_ground.Goals as goal

pub returns-then-not-fits-clause-ground : goal.returns-then-not-fits-clause-ground
returns-then-not-fits-clause-ground g c = (
  λ w. absurd (false_not_true w),
  λ is.
      let f = (fits_ground _ _ _ c.arity-ports.ensures.sound).1 is in
      absurd (never_both _ (c.fits.ensures.1 (f.atoms _ at_root)) c.if-not-fits.true),
)

pub undo-requires-clause-root : goal.undo-requires-clause-root
undo-requires-clause-root g c = (root_there _ _ _ _ _ c.spread-found.ensures.spread.0 c.requires.root.0, root_port_there _ _ _ _ _ c.spread-found.ensures.spread.0 c.requires.root.1)

pub undo-requires-clause-spread : goal.undo-requires-clause-spread
undo-requires-clause-spread g c = (g.S.LinkStore.heap c.args.store.now, _, c.spread-found.ensures.spread.0, c.spread-found.ensures.spread.1, tt)

pub returns-then-not-found-clause-ground : goal.returns-then-not-found-clause-ground
returns-then-not-found-clause-ground g c = (
  λ w. absurd (false_not_true w),
  λ is. absurd (never_both _ (c.spread-found.ensures.fits.1 ((fits_ground _ _ _ c.arity-ports.ensures.sound).1 is)) (not_true _ c.if-not-found.true)),
)

pub returns-then-not-found-clause-same : goal.returns-then-not-found-clause-same
returns-then-not-found-clause-same g c = c.undo.ensures _ _ c.spread-found.ensures.spread.0 c.spread-found.ensures.spread.1

pub returns-then-not-found-clause-listed : goal.returns-then-not-found-clause-listed
returns-then-not-found-clause-listed g c = listed_none g.S.LinkStore.atom_id (g.S.LinkStore.heap c.args.store.now) _ (ap (λ l. l.atoms) c.forget-then-not-found.ensures)

pub returns-clause-ground : goal.returns-clause-ground
returns-clause-ground g c =
    let f = fits_ground _ _ _ c.arity-ports.ensures.sound in
    (λ w. f.0 (c.spread-found.ensures.fits.0 (not_false _ c.if-not-found.false)), λ is. refl)

pub returns-clause-same : goal.returns-clause-same
returns-clause-same g c = c.undo.ensures _ _ c.spread-found.ensures.spread.0 c.spread-found.ensures.spread.1

pub returns-clause-listed : goal.returns-clause-listed
returns-clause-listed g c =
    let s = g.S.LinkStore.heap c.args.store.now in
    let root : ℕ × ℕ = (g.S.LinkStore.atom_id c.args.root.0, c.args.root.1) in
    let spread = c.spread-found.ensures.spread in
    listed_walked g.S.LinkStore.atom_id s c.keep.new.self c.arity-ports.ensures.sound root c.requires.root c.spread-found.new.trail c.spread-found.result.0 c.keep.ensures.whole c.keep.ensures.other
    (λ e. subst (IsPartInDepth s root) (sym (spread.1.all e)) (spread.0.whole (not_false _ c.if-not-found.false)))

pub spread-found-requires-clause-clean : goal.spread-found-requires-clause-clean
spread-found-requires-clause-clean g c = clean_part _ _ c.arity-ports.ensures.sound c.requires.root.1 c.requires.clean

pub returns-then-ports-eq1-clause-ground : goal.returns-then-ports-eq1-clause-ground
returns-then-ports-eq1-clause-ground g c =
    let f = fits_ground (g.S.LinkStore.heap c.args.store.now) (g.S.LinkStore.atom_id c.args.root.0, c.args.root.1) (g.S.LinkStore.mem_id c.args.mem) c.arity-ports.ensures.sound in
    (λ t. f.0 (lone_whole (g.S.LinkStore.heap c.args.store.now) (g.S.LinkStore.atom_id c.args.root.0, c.args.root.1) (sym c.arity-ports.ensures.arity ∙ c.if-ports-eq1.true) c.requires.root.1 (Some (g.S.LinkStore.mem_id c.args.mem)) (c.fits.ensures.0 c.if-not-fits.false)), λ w. refl)

pub returns-then-ports-eq1-clause-listed : goal.returns-then-ports-eq1-clause-listed
returns-then-ports-eq1-clause-listed g c = listed_none g.S.LinkStore.atom_id (g.S.LinkStore.heap c.args.store.now) _ (ap (λ l. l.atoms) c.forget.ensures)

pub returns-then-not-fits-clause-listed : goal.returns-then-not-fits-clause-listed
returns-then-not-fits-clause-listed g c = listed_none g.S.LinkStore.atom_id (g.S.LinkStore.heap c.args.store.now) _ (ap (λ l. l.atoms) c.forget.ensures)
