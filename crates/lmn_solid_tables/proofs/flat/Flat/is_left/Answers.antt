use Rattle.std.proofs.Common.{false, arith}
use Rattle.std.proofs.lemmas.Option.{slice_get-get_or}
use Rattle.lmn_solid_tables.proofs.Climbing.{climb_less}
use Rattle.lmn_solid_tables.proofs.Left.{left_deeper, left_direct, left_not, not_among}
use Rattle.lmn_solid_tables.proofs.flat.Flat.is_left.Goals as goal

pub returns-then-number-home : goal.returns-then-number-home
returns-then-number-home c = left_not c.args.self.now c.requires.valid c.args.home c.args.images.now c.args.number c.if-number-home.true

pub bounds-before-parent : goal.bounds-before-parent
bounds-before-parent c =
    let l = climb_less c.args.self.now c.args.home c.args.number c.index.result.now c.if-number-home.false c.requires.number.0 c.index.ensures in
    omega (arith, l, c.requires.number.1)

pub returns-then-parent-home : goal.returns-then-parent-home
returns-then-parent-home c =
    let d = left_direct c.args.self.now c.requires.valid c.args.home c.args.images.now c.args.number c.index.result.now c.if-number-home.false c.requires.number.0 c.index.ensures c.if-parent-home.true in
    let n = not_among c.args.number c.args.images.now c.contains.result c.contains.ensures.value in
    ((λ t. d.1 (n.0 t)), (λ h. n.1 (d.0 h)))

pub returns-else-parent-home : goal.returns-else-parent-home
returns-else-parent-home c =
    let l = climb_less c.args.self.now c.args.home c.args.number c.index.result.now c.if-number-home.false c.requires.number.0 c.index.ensures in
    let d = left_deeper c.args.self.now c.requires.valid c.args.home c.args.images.now c.args.number c.index.result.now c.if-number-home.false c.requires.number.0 c.index.ensures c.if-parent-home.false in
    let n = c.requires.before c.index.result.now.parent _ (slice_get-get_or c.args.before.now c.index.result.now.parent false (omega (arith, l, c.requires.number.1))) in
    ((λ t. d.1 (n.0 t)), (λ h. n.1 (d.0 h)))
