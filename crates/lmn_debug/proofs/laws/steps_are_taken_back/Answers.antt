use Rattle.std.proofs.Common.{◌≡◌, ◌+◌, ◌-◌, sym, subst, arith}
use Rattle.lmn_schedule.specs.Held.{HoldsRegion}
use Rattle.lmn_debug.specs.Courses.{IsAt}
use Rattle.lmn_debug.proofs.Exactness.{courses_are_one}
use Rattle.lmn_debug.proofs.Held.{throughout_held}
use Rattle.lmn_debug.proofs.laws.steps_are_taken_back.Goals as goal
use Rattle.lmn_schedule.proofs.Common.{closed_held}

pub returns : goal.returns
returns c names table g fresh held t n t' before after back s stepped b =
    let done : t' ≡ t + n = stepped.stepped.stops in
    let taken : t' - n ≡ t = omega (arith, done) in
    let one = courses_are_one g t s.solid b.solid (closed_held held) (throughout_held held) s.is (subst (λ k. IsAt g k b.solid) taken b.is) in
    (s.solid, s.holds, subst (HoldsRegion names table back) (sym one) b.holds)
