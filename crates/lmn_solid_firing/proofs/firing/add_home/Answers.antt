use Rattle.std.proofs.Common.{◌∙◌}
use Rattle.lmn_solid_firing.specs.Making.{level_made}
use Rattle.lmn_solid_firing.proofs.Laying.{home_laid}
use Rattle.lmn_solid_firing.proofs.firing.add_home.Goals as goal

pub returns-clause-rows : goal.returns-clause-rows
returns-clause-rows c = λ left forms.
    home_laid c.args.flat.now c.args.taken.now left (level_made c.args.flat.now c.args.taken.now left c.args.body.now) c.args.next.now c.add_home_row.new.next c.in_ok-start.start c.args.around c.len-number.result
    c.args.rows.now.items c.add_home_row.new.rows.items c.add_left_membranes.new.rows.items c.add_membranes.new.rows.items
    (c.len-number.ensures ∙ c.args.rows.now.ok.0) (c.in_ok-start.ensures.start left) (c.in_ok-start.ensures.next left) (c.in_ok-start.ensures.rows left)
    (c.in_ok-add_left_membranes.ensures (left c.args.taken.now.home) (forms c.args.taken.now.home c.requires.home)) (c.in_ok-add_membranes.ensures.rows left forms)
