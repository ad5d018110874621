-- What the trace of a course has at its numbers.
use Rattle.std.proofs.Common.{ℕ, ◌≡◌, ◌<◌, ◌≤◌, ◌+◌, ◌⊎◌, List, [], ◌∷◌, ◌++◌, length, refl, ap, subst, ◌∙◌, inl, inr, append_assoc, arith}
use Rattle.std.proofs.lemmas.List.{length-append}
use Rattle.lmn_congruence.specs.Regions.{Region}
use Rattle.lmn_adequacy.specs.Runs.{Trace, Turn, loaded, turned}
use Rattle.lmn_debug.specs.Courses.{Course, GoesOn, IsAt, StepsTo, Stepped, most_commits}
use Rattle.lmn_debug.specs.declared.session.Stop.{Stop}
use Rattle.lmn_debug.specs.declared.session.Stop.TheVariants as stop

-- The trace goes on from the number n, behind which it has these solids and others.
--   solids   those before the number
--   solid    that at the number
--   after    the next one
--   others   those behind it, without the last one
pub record Passes (g : Course) (before : List Region) (n : ℕ) : Type 0 where
  pub solids : List Region
  pub solid : Region
  pub others : List Region
  pub number : length solids ≡ n
  pub trace : Trace g.chooser most_commits g.size g.first solids solid
  pub on : GoesOn g n solid
  pub are : before ≡ solids ++ solid ∷ others

module _ (g : Course) where
  -- a trace goes on from each number below that of its last solid
  pub passes : {before : List Region} {S : Region} → Trace g.chooser most_commits g.size g.first before S → (n : ℕ) → n < length before → Passes g before n
  passes loaded n l = absurd (omega (arith, l))
  passes (turned {before = xs} {S' = R} {S'' = R'} trace below turn few) n l = by (below_or_at n (length xs) (omega (arith, l, length-append xs (R ∷ [])))) (λ b. passes trace n b)
    where
      below_or_at : (n k : ℕ) → n < k + 1 → (n < k) ⊎ (k ≡ n)
      below_or_at n k h = grind arith

      by : (n < length xs) ⊎ (length xs ≡ n) → (n < length xs → Passes g xs n) → Passes g (xs ++ R ∷ []) n
      by (inl b) f =
          let u = f b in
          record { solids = u.solids; solid = u.solid; others = u.others ++ R ∷ []; number = u.number; trace = u.trace; on = u.on; are = ap (λ ys. ys ++ R ∷ []) u.are ∙ append_assoc u.solids (u.solid ∷ u.others) (R ∷ []) }
      by (inr e) f = record { solids = xs; solid = R; others = []; number = e; trace = trace; on = (R', subst (λ k. Turn g.chooser k R R') e turn, few); are = refl }

  -- where it has a solid behind the number n, it has one there, and goes on from it
  pub goes_on : (t : ℕ) (S : Region) → IsAt g t S → (n : ℕ) → n < t → (T : Region) × IsAt g n T × GoesOn g n T
  goes_on t S is n l =
      let count = is.count in
      let p = passes is.trace n (omega (arith, count, l)) in
      (p.solid, record { before = p.solids; trace = p.trace; count = p.number }, p.on)

  -- Turns from 0 on to a number up to which the trace goes, which stop before it: memory was wanting for a commit that the trace has.
  pub memory_lacked : (t n t' : ℕ) (S : Region) → IsAt g t S → n ≤ t → (why : Stop) → ¬ (why ≡ stop.Done) → Stepped g 0 n why t' → (k : ℕ) × Stepped g 0 n stop.NoMemory k
  memory_lacked t n t' S at up why not s = by why not s.solid s.is s.stops
    where
      behind : 0 < n → (k : ℕ) × Stepped g 0 n stop.NoMemory k
      behind some =
          let u = goes_on t S at 0 (omega (arith, some, up)) in
          (0, record { solid = u.0; is = u.1; stops = ((omega arith, omega (arith, some)), u.2) })

      by : (why : Stop) → ¬ (why ≡ stop.Done) → (S' : Region) → IsAt g t' S' → StepsTo g 0 n why t' S' → (k : ℕ) × Stepped g 0 n stop.NoMemory k
      by stop.Done not S' is to = absurd (not refl)
      by stop.Irreducible not S' is to = let w = to.0.1 in behind (omega (arith, w))
      by stop.Full not S' is to = let w = to.0.1 in behind (omega (arith, w))
      by stop.Met not S' is to = absurd to
      by stop.Limit not S' is to = absurd to
      by stop.NoMemory not S' is to = (t', record { solid = S'; is = is; stops = to })
