use Rattle.std.proofs.Common.{subst, sym}
use Rattle.lmn_store_heap.specs.Heap.{Heap, mem_mark_of}
use Rattle.lmn_solid_bodies.specs.Running.{DoesAll}
use Rattle.lmn_machine_commit.specs.Committing.{Runs}
use Rattle.lmn_schedule_sleep.specs.Quiet.{SameButMarks}
use Rattle.lmn_ground.proofs.ListedLaws.{listed_kept}
use Rattle.lmn_machine_commit.proofs.Frames.{made_awake}
use Rattle.lmn_machine_commit.proofs.Making.{some_registers}
use Rattle.lmn_machine_commit.proofs.Only.{others_awake}
use Rattle.lmn_machine_commit.proofs.Remarked.{runs_so, does_all_so}
use Rattle.lmn_machine_commit.proofs.Rousing.{all_deep}
use Rattle.lmn_machine_commit.proofs.Rules.{prepared_runs, prepares, fires_valid, itself}
use Rattle.lmn_machine_commit.proofs.Woken.{is_remarked, remarked_same, marks_unmarked, own_set, valid_but_marks, wakes_roused}
use Rattle.lmn_machine_commit.proofs.committing.commit.Goals as goal

pub wake-requires-clause-deep : goal.wake-requires-clause-deep
wake-requires-clause-deep g c =
    let p = c.requires in
    all_deep p.before (g.S.LinkStore.heap c.args.store.now) p.matched.valid (p.prepared.makes.rest p.before (itself p.before p.matched.valid).1) c.root-before.ensures.few

pub wake-requires-clause-held : goal.wake-requires-clause-held
wake-requires-clause-held g c = c.requires.prepared.held

pub wake-requires-clause-uses : goal.wake-requires-clause-uses
wake-requires-clause-uses g c = c.requires.prepared.uses

pub wake-requires-clause-some : goal.wake-requires-clause-some
wake-requires-clause-some g c = own_set g.S.LinkStore.atom_id g.S.LinkStore.mem_id (g.S.LinkStore.heap c.args.store.now) c.args.set.now c.args.code.now c.requires

pub wake-requires-clause-others : goal.wake-requires-clause-others
wake-requires-clause-others g c =
    let p = c.requires in
    let s = g.S.LinkStore.heap c.args.store.now in
    let r = some_registers g.S.LinkStore.atom_id g.S.LinkStore.mem_id c.args.set.now p.prepared.copied p.prepared.sizes p.before p.matched.valid p.matched_by in
    let makes = prepares g.S.LinkStore.atom_id g.S.LinkStore.mem_id s c.args.set.now c.args.code.now p r.0 r.1 r.2 r.3 in
    others_awake p.before s p.matched.valid (p.prepared.makes.rest p.before (itself p.before p.matched.valid).1) (made_awake r.0 c.args.code.now p.before s makes)

pub run_all-requires-clause-unmarked : goal.run_all-requires-clause-unmarked
run_all-requires-clause-unmarked g c =
    let p = c.requires in
    let some = some_registers g.S.LinkStore.atom_id g.S.LinkStore.mem_id c.args.set.now p.prepared.copied p.prepared.sizes p.before p.matched.valid p.matched_by in
    marks_unmarked (g.S.LinkStore.heap c.args.store.now) (g.S.LinkStore.heap c.wake.new.store) (c.wake.ensures some.0 some.1).alike (p.prepared.makes.unmarked p.matched.unmarked)

pub run_all-requires-clause-uses : goal.run_all-requires-clause-uses
run_all-requires-clause-uses g c = c.requires.prepared.uses

pub run_all-requires-clause-runs : goal.run_all-requires-clause-runs
run_all-requires-clause-runs g c =
    let p = c.requires in
    let s = g.S.LinkStore.heap c.args.store.now in
    let s1 = g.S.LinkStore.heap c.wake.new.store in
    let r = some_registers g.S.LinkStore.atom_id g.S.LinkStore.mem_id c.args.set.now p.prepared.copied p.prepared.sizes p.before p.matched.valid p.matched_by in
    let runs = prepared_runs g.S.LinkStore.atom_id g.S.LinkStore.mem_id s c.args.set.now c.args.code.now p r.0 r.1 r.2 r.3 in
    (r.0, r.1, subst (Runs r.0 c.args.code.now) (sym (is_remarked s s1 (c.wake.ensures r.0 r.1).alike)) (runs_so (mem_mark_of s1) r.0 c.args.code.now s runs))

pub run_all-requires-clause-listed : goal.run_all-requires-clause-listed
run_all-requires-clause-listed g c =
    let p = c.requires in
    let some = some_registers g.S.LinkStore.atom_id g.S.LinkStore.mem_id c.args.set.now p.prepared.copied p.prepared.sizes p.before p.matched.valid p.matched_by in
    listed_kept g.S.LinkStore.atom_id (g.S.LinkStore.heap c.args.store.now) c.args.set.now.listed (g.S.LinkStore.heap c.wake.new.store) (λ a i. (c.wake.ensures some.0 some.1).alike.atoms a) p.prepared.held.listed

pub returns-clause-fires : goal.returns-clause-fires
returns-clause-fires g c = λ p r u has rests.
    (let s = g.S.LinkStore.heap c.args.store.now in
    let s1 = g.S.LinkStore.heap c.wake.new.store in
    let z = g.S.LinkStore.heap c.run_all.new.store in
    let e = is_remarked s s1 (c.wake.ensures r u).alike in
    let runs = prepared_runs g.S.LinkStore.atom_id g.S.LinkStore.mem_id s c.args.set.now c.args.code.now p r u has rests in
    let done = c.run_all.ensures.commits r u (subst (Runs r c.args.code.now) (sym e) (runs_so (mem_mark_of s1) r c.args.code.now s runs)) in
    let q = does_all_so (mem_mark_of s1) r c.args.code.now s z (subst (λ (x : Heap). DoesAll r c.args.code.now x z) e done) in
    record {
      prepared = s;
      prepares = prepares g.S.LinkStore.atom_id g.S.LinkStore.mem_id s c.args.set.now c.args.code.now p r u has rests;
      makes = p.prepared.makes.rest p.before (itself p.before p.matched.valid).1;
      after = q.0;
      does = q.1;
      alike = subst (SameButMarks q.0) (sym q.2) (remarked_same (mem_mark_of s1) q.0);
      wakes = wakes_roused s s1 q.0 z r c.args.code.now (c.wake.ensures r u) q.1 q.2;
    })

pub returns-clause-valid : goal.returns-clause-valid
returns-clause-valid g c =
    let p = c.requires in
    let s = g.S.LinkStore.heap c.args.store.now in
    let s1 = g.S.LinkStore.heap c.wake.new.store in
    let z = g.S.LinkStore.heap c.run_all.new.store in
    let some = some_registers g.S.LinkStore.atom_id g.S.LinkStore.mem_id c.args.set.now p.prepared.copied p.prepared.sizes p.before p.matched.valid p.matched_by in
    let e = is_remarked s s1 (c.wake.ensures some.0 some.1).alike in
    let runs = prepared_runs g.S.LinkStore.atom_id g.S.LinkStore.mem_id s c.args.set.now c.args.code.now p some.0 some.1 some.2 some.3 in
    let done = c.run_all.ensures.commits some.0 some.1 (subst (Runs some.0 c.args.code.now) (sym e) (runs_so (mem_mark_of s1) some.0 c.args.code.now s runs)) in
    let q = does_all_so (mem_mark_of s1) some.0 c.args.code.now s z (subst (λ (x : Heap). DoesAll some.0 c.args.code.now x z) e done) in
    valid_but_marks q.0 z (subst (SameButMarks q.0) (sym q.2) (remarked_same (mem_mark_of s1) q.0)) (fires_valid g.S.LinkStore.atom_id g.S.LinkStore.mem_id s c.args.set.now c.args.code.now p some.0 some.1 some.2 some.3 q.0 q.1) c.root-after.ensures.sound
