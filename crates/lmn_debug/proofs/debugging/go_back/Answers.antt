use Rattle.std.proofs.Common.{sym, ap, subst, ◌∙◌, Result, Ok, Err, arith}
use Rattle.std.specs.Result.{OnErr, OnOk}
use Rattle.std.proofs.lemmas.Result.{on_ok_weaker}
use Rattle.lmn_schedule.specs.Held.{EngineCanTurn, HoldsRegion}
use Rattle.lmn_schedule.specs.Turning.{Gives}
use Rattle.lmn_store_web.specs.WebHeaps.{heap_of}
use Rattle.lmn_debug.specs.Courses.{course}
use Rattle.lmn_debug.specs.Sessions.{StandsAt}
use Rattle.lmn_debug.proofs.Obeyings.{first_held, moved}
use Rattle.lmn_debug.proofs.debugging.go_back.Goals as goal

pub returns-clause-back : goal.returns-clause-back
returns-clause-back g c =
    let fresh = c.in_ok-fresh.fresh in
    let keeps = c.in_ok-fresh.ensures.keeps in
    let plain = c.args.beginning.now.plain.now in
    let h = heap_of fresh.machine.store in
    let t' = c.back.new.self.engine.commits in
    let h' = heap_of c.back.new.self.engine.machine.store in
    on_ok_weaker c.back.result
    (λ to names k gives named S first _.
    let held : HoldsRegion names plain.rules h S = first_held names plain h c.requires.plain.made (c.in_ok-fresh.ensures.holds names named) S first in
    let before = moved (λ f T n. Gives (λ f t m r. g.F.Fn.post f (t, (m, tt)) r) f k × HoldsRegion names T h S) (sym keeps.1) (sym keeps.0) (sym keeps.2) (gives, held) in
    moved (λ f T n. StandsAt names T (course k n S) t' h') keeps.1 keeps.0 keeps.2 (to k before.0 names S before.1))
    c.back.ensures.back

pub back-requires-clause-run : goal.back-requires-clause-run
back-requires-clause-run g c =
    let fresh = c.in_ok-fresh.fresh in
    subst (λ rules. EngineCanTurn (heap_of fresh.machine.store) rules fresh.codes fresh.size) (sym (ap (λ p. p.rules) c.in_ok-fresh.ensures.keeps.0)) c.in_ok-fresh.ensures.run

pub back-requires-clause-chooser : goal.back-requires-clause-chooser
back-requires-clause-chooser g c = rw c.in_ok-fresh.ensures.keeps.1 c.requires.chooser

-- what holds holds of each answer
anyway : {T E P : Type 0} (r : Result T E) → P → OnErr r P
anyway (Ok v) p = tt
anyway (Err e) p = p

pub returns-clause-lacks : goal.returns-clause-lacks
returns-clause-lacks g c = anyway c.back.result (omega arith)

-- what three facts of an answer say one by one,
parts : {T E : Type 0} (P Q R : Type 0) (r : Result T E) → OnOk r (P × Q × R) → OnOk r P × OnOk r Q × OnOk r R
parts P Q R (Ok v) p = p
parts P Q R (Err e) p = (tt, tt, tt)

-- and what two say together
together : {T E P Q R : Type 0} (r : Result T E) → (P → Q → R) → OnOk r P → OnOk r Q → OnOk r R
together (Ok v) f p q = f p q
together (Err e) f p q = tt

pub returns-clause-number : goal.returns-clause-number
returns-clause-number g c = (parts _ _ _ c.back.result c.back.ensures.engine).0

pub returns-clause-same : goal.returns-clause-same
returns-clause-same g c =
    let keeps = c.in_ok-fresh.ensures.keeps in
    on_ok_weaker c.back.result (λ same. (ap (λ e. e.plain.now) same ∙ keeps.0, ap (λ e. e.chooser.f) same ∙ keeps.1, ap (λ e. e.size) same ∙ keeps.2)) (parts _ _ _ c.back.result c.back.ensures.engine).2

pub returns-clause-again : goal.returns-clause-again
returns-clause-again g c =
    let keeps = c.in_ok-fresh.ensures.keeps in
    let h' = heap_of c.back.new.self.engine.machine.store in
    let facts = parts _ _ _ c.back.result c.back.ensures.engine in
    together c.back.result (λ again same.
    let rules = ap (λ e. e.plain.now.rules) same ∙ ap (λ p. p.rules) keeps.0 in
    let size = ap (λ e. e.size) same ∙ keeps.2 in
    subst (λ s. EngineCanTurn h' c.args.beginning.now.plain.now.rules c.back.new.self.engine.codes s) size (subst (λ rules. EngineCanTurn h' rules c.back.new.self.engine.codes c.back.new.self.engine.size) rules again))
    facts.1 facts.2

pub back-requires-clause-commits : goal.back-requires-clause-commits
back-requires-clause-commits g c = (c.in_ok-fresh.ensures.keeps.3, c.requires.commits)
