use Rattle.std.proofs.Common.{◌++◌, ◌∙◌, ap, subst, sym}
use Rattle.std.specs.List.{AllByRecursion}
use Rattle.lmn_base.proofs.Lists.{all_append}
use Rattle.lmn_store_heap.specs.Heap.{IsMem, mems_in}
use Rattle.lmn_solid_tables.specs.Flats.{heap_of}
use Rattle.lmn_adequacy_turns.proofs.Leavings.{listed_there}
use Rattle.lmn_solid_firing.specs.Making.{entered, home_region, level_made}
use Rattle.lmn_solid_firing.proofs.Fired.{home_waits, other_waits}
use Rattle.lmn_solid_firing.proofs.Wholes.{entered_there}
use Rattle.lmn_solid_firing.proofs.firing.add_top.Goals as goal

pub returns-in_ok-add_home-clause-rows : goal.returns-in_ok-add_home-clause-rows
returns-in_ok-add_home-clause-rows c = λ left forms all w.
    home_waits c.args.flat.now c.args.taken.now.home (home_region c.args.flat.now c.args.taken.now left (level_made c.args.flat.now c.args.taken.now left c.args.body.now) c.args.start)
    c.args.rows.now.items c.add_home.new.rows.items all c.args.waiting.now.items c.args.membrane c.args.around c.if-membrane-taken.true (c.in_ok-add_home.ensures.rows left forms) w

pub returns-in_ok-push_all-clause-there : goal.returns-in_ok-push_all-clause-there
returns-in_ok-push_all-clause-there c = λ t.
    let h = heap_of c.args.flat.now in
    let m = c.args.membrane in
    let next = c.in_ok-push_all.ensures ∙ ap (λ z. c.args.waiting.now.items ++ entered c.len-number.result z) c.membranes.ensures in
    subst (AllByRecursion (λ e. IsMem h e.0)) (sym next)
    (all_append (λ e. IsMem h e.0) c.args.waiting.now.items (entered c.len-number.result (mems_in h m)) t
    (entered_there h c.len-number.result (mems_in h m) (λ k i. listed_there h c.requires.valid k m i)))

pub returns-in_ok-push_all-clause-rows : goal.returns-in_ok-push_all-clause-rows
returns-in_ok-push_all-clause-rows c = λ left forms all w.
    other_waits c.args.flat.now c.args.taken.now.home (home_region c.args.flat.now c.args.taken.now left (level_made c.args.flat.now c.args.taken.now left c.args.body.now) c.args.start)
    c.args.rows.now.items c.add_lone.new.rows.items all c.args.waiting.now.items c.push_all.new.waiting.items c.args.membrane c.args.around c.len-number.result c.if-membrane-taken.false
    (c.len-number.ensures ∙ c.args.rows.now.ok.0) c.in_ok-add_lone.ensures (c.in_ok-push_all.ensures ∙ ap (λ z. c.args.waiting.now.items ++ entered c.len-number.result z) c.membranes.ensures) w
