-- Examples of what sleeps.
use Rattle.std.proofs.Common.{inl, refl, arith}
use Rattle.lmn_store_heap.specs.Heap.{mem_marked}
use Rattle.lmn_schedule_strategy.specs.Examples.{AskedByMarks, AsleepByMark, AwakeAreAsked, MarksAreLow, NothingIsTurned, SleepersArePassed, TurnsAgainByMarks}
use Rattle.lmn_schedule_strategy.proofs.Awake.{asleep_one, awake_one}
use Rattle.lmn_schedule_strategy.proofs.Lulling.{falls_one}
use Rattle.lmn_machine_commit.proofs.Rousing.{marked_there}

pub sleepers_are_passed : SleepersArePassed
sleepers_are_passed h m i = (awake_one (mem_marked h m 0) m (marked_there h m 0 i), asleep_one (mem_marked h m 1) m (marked_there h m 1 i))

pub asleep_by_mark : AsleepByMark
asleep_by_mark h m i = (falls_one h m i, λ w. (let a = marked_there h m 2 i in let b = w.asleep m (inl refl) in absurd (omega (arith, a, b))))

pub marks_are_low : MarksAreLow
marks_are_low h codes = (
  λ all. record { low = λ m. (let e = all m in omega (arith, e)); none = λ m e. (let z = all m in absurd (omega (arith, e, z))) },
  λ m i s. (let a = marked_there h m 2 i in let l = s.low m in absurd (omega (arith, a, l))),
)

pub nothing_is_turned : NothingIsTurned
nothing_is_turned h f from size = ((λ m i n j c. (let e = c.is in absurd (cc)), refl), λ k w. (let e = w.1.is in absurd (cc)))

pub awake_are_asked : AwakeAreAsked
awake_are_asked h codes can = (λ all. record { turn = can; sleeps = (marks_are_low h codes).0 all }, λ m i s. (marks_are_low h codes).1 m i s.sleeps)

pub turns_again : TurnsAgainByMarks
turns_again sleep h codes quiet = (
  λ a. record { turn = a.turn; sleeps = λ q. a.sleeps; awake = λ never all. all },
  λ m i s. (marks_are_low h codes).1 m i (s.sleeps quiet),
)

pub asked_by_marks : AskedByMarks
asked_by_marks h codes ms m place n = (
  (λ k i j l c. (let e = c.is in absurd (cc)), refl),
  λ i w. (asleep_by_mark h m i).1 w.1,
  λ i. (i, refl),
  λ w. (let e = w.0.rule.succeeds.is in absurd (cc)),
)
