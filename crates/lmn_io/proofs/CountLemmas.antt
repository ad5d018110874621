-- What a sink that was asked again tells.
use Rattle.std.specs.Prelude.{◌≡◌, ℕ, ◌+◌, ◌≤◌}
use Rattle.std.proofs.Common.{ap, ◌∙◌, arith, inl, inr}
use Rattle.lmn_io.specs.Counts.{AskedAgainIsTold, Faults, NoneBehindFailed, last_count, one_more, one_more_fault, one_more_put}

-- below the last value one more is one more
one_more_is : (n : ℕ) → n + 1 ≤ last_count → one_more n ≡ n + 1
one_more_is n low = omega (arith, low)

pub asked_again : AskedAgainIsTold
asked_again f low =
    let once : one_more f.count ≡ f.count + 1 = one_more_is f.count (omega (arith, low)) in
    let twice : one_more (one_more f.count) ≡ f.count + 1 + 1 = ap one_more once ∙ one_more_is (f.count + 1) (omega (arith, low)) in
    (put once, again once twice)
  where
    put : one_more f.count ≡ f.count + 1 → ¬ (NoneBehindFailed f (one_more_put (one_more_fault f)))
    put once (inl none) = let same = none.0 in omega (arith, once, same)
    put once (inr last) = let since : one_more 0 ≡ 0 = ap (λ (g : Faults). g.since) last in let one : one_more 0 ≡ 1 = one_more_is 0 (omega arith) in omega (arith, since, one)

    again : one_more f.count ≡ f.count + 1 → one_more (one_more f.count) ≡ f.count + 1 + 1 → ¬ (NoneBehindFailed f (one_more_fault (one_more_fault f)))
    again once twice (inl none) = let same = none.0 in omega (arith, twice, same)
    again once twice (inr last) = let same : one_more (one_more f.count) ≡ one_more f.count = ap (λ (g : Faults). g.count) last in omega (arith, once, twice, same)
