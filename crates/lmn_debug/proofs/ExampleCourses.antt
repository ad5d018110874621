-- The examples of counts and of a small course.
use Rattle.std.proofs.Common.{ℕ, ◌≡◌, ◌<◌, ◌≤◌, List, [], ◌∷◌, ◌++◌, length, refl, sym, ap, subst, arith}
use Rattle.std.specs.Prelude.{All, drop}
use Rattle.std.proofs.lemmas.List.{length-append}
use Rattle.std.proofs.lemmas.List.Elements.{All-nil, All-cons}
use Rattle.lmn_base.specs.Names.{HasNames, label_names}
use Rattle.lmn_base.specs.declared.guard.Cmp.TheVariants.{Ge, Eq}
use Rattle.lmn_congruence.specs.Regions.{Region, SolidAtom, solid_atom_with}
use Rattle.lmn_congruence.specs.Rules.{Label, named, integer}
use Rattle.lmn_reduction.specs.Examples.{label_a, label_b}
use Rattle.lmn_adequacy.specs.Examples.{growing, root_first}
use Rattle.lmn_adequacy.specs.Runs.{Chooser, Trace, Ends, loaded, turned, full, too_many}
use Rattle.lmn_debug.specs.Counts.{HasFunctor, IsCount, none, one, other}
use Rattle.lmn_debug.specs.Courses.{IsAt, Meets, Wish, most_commits, wish}
use Rattle.lmn_debug.specs.Examples.{CountsAtEveryDepth, CountsStandSo, CoursesHaveSizes, SessionsStand, StepsStop, WaitsStop, functor_a, growing_course, names_a}
use Rattle.lmn_debug.proofs.CountLemmas.{so_once}
use Rattle.lmn_debug.proofs.Traces.{goes_on}
use Rattle.lmn_debug.proofs.Turns.{unmet_in}

-- how 2 stands to 2
pub counts_stand_so : CountsStandSo
counts_stand_so = ((λ l. omega (arith, l)), omega arith, (λ l. omega (arith, l)), omega arith, refl, (λ d. d refl))

-- ---- counts

abbrev a_atom : SolidAtom
a_atom = solid_atom_with label_a []

abbrev first_byte : Label → ℕ
first_byte (named []) = 0
first_byte (named (b ∷ bs)) = b
first_byte (integer z) = 0

is_a : HasFunctor names_a functor_a a_atom
is_a = record { label = refl; arity = refl }

not_b : ¬ (HasFunctor names_a functor_a (solid_atom_with label_b []))
not_b w = let e = ap first_byte w.label in omega (arith, e)

not_binary : ¬ (HasFunctor names_a functor_a (solid_atom_with label_a (0 ∷ 0 ∷ [])))
not_binary w = let e = w.arity in omega (arith, e)

-- three atoms stand in the top and in membranes
pub counts_at_every_depth : CountsAtEveryDepth
counts_at_every_depth =
    let three = one is_a (other not_b (other not_binary (one is_a (one is_a none)))) in
    (three, (λ c. let e = so_once three c in omega (arith, e)))

-- ---- traces

longer : {c : Chooser} {b d size : ℕ} {S S' : Region} {before : List Region} → b ≤ d → Trace c b size S before S' → Trace c d size S before S'
longer l loaded = loaded
longer l (turned trace below turn few) = turned (longer l trace) (omega (arith, l, below)) turn few

full_longer : {c : Chooser} {b d size n : ℕ} {S : Region} → b ≤ d → Ends c b size n S full → Ends c d size n S full
full_longer l (too_many below turn more) = too_many (omega (arith, l, below)) turn more

only_first : {c : Chooser} {b size : ℕ} {S S' : Region} {before : List Region} → Trace c b size S before S' → length before ≡ 0 → S' ≡ S
only_first loaded e = refl
only_first (turned {before = xs} {S' = R} trace below turn few) e = let long = length-append xs (R ∷ []) in absurd (omega (arith, long, e))

begins : {c : Chooser} {b size : ℕ} {S S' : Region} {before : List Region} → Trace c b size S before S' → 0 < length before → (rest : List Region) × (before ≡ S ∷ rest)
begins loaded some = absurd (omega (arith, some))
begins (turned loaded below turn few) some = ([], refl)
begins (turned {S' = R} (turned {before = xs} {S' = Q} trace below turn few) below' turn' few') some =
    let long = length-append xs (Q ∷ []) in
    let u = begins (turned trace below turn few) (omega (arith, long)) in
    (u.0 ++ R ∷ [], ap (λ ys. ys ++ R ∷ []) u.1)

-- ---- the course

abbrev one_a : Region
one_a = growing (a_atom ∷ [])

abbrev two_a : Region
two_a = growing (a_atom ∷ a_atom ∷ [])

count_one : IsCount names_a functor_a one_a 1
count_one = one is_a none

count_two : IsCount names_a functor_a two_a 2
count_two = one is_a (one is_a none)

-- the list of names has that of `a/0`
known_a : HasNames names_a (label_names functor_a.label)
known_a = All-cons (λ n. n < 1) 0 [] (omega arith) (All-nil (λ n. n < 1))

module _ (trace : Trace root_first 5 3 one_a (one_a ∷ []) two_a) (end : Ends root_first 5 3 1 two_a full) where
  at_one : IsAt growing_course 1 two_a
  at_one = record { before = one_a ∷ []; trace = longer (omega arith) trace; count = refl }

  ends : Ends root_first most_commits 3 1 two_a full
  ends = full_longer (omega arith) end

  -- where `step` stops
  pub steps_stop : StepsStop
  steps_stop = (
    record { solid = two_a; is = at_one; stops = omega arith },
    record { solid = two_a; is = at_one; stops = ((omega arith, omega arith), ends) },
    (let u = goes_on growing_course 1 two_a at_one 0 (omega arith) in record { solid = u.0; is = u.1; stops = ((omega arith, omega arith), u.2) }),
    (λ s. let w = s.stops.0.1 in omega (arith, w)),
    (λ s. let w = s.stops in omega (arith, w)),
  )

  not_so : (k n : ℕ) (S : Region) → IsCount names_a functor_a S k → ¬ (k ≡ n) → ¬ (Meets names_a (wish functor_a Eq n) S)
  not_so k n S c d = unmet_in names_a S (wish functor_a Eq n) k c d

  none_there : (w : Wish) → ¬ (Meets names_a w one_a) → All (λ S. ¬ (Meets names_a w S)) (drop 0 (one_a ∷ []))
  none_there w unmet = All-cons (λ S. ¬ (Meets names_a w S)) one_a [] unmet (All-nil (λ S. ¬ (Meets names_a w S)))

  -- and where `until` does
  pub waits_stop : WaitsStop
  unfolding at_one
  waits_stop = (
    record {
      solid = two_a;
      is = at_one;
      none_before = none_there (wish functor_a Eq 2) (not_so 1 2 one_a count_one (λ e. omega (arith, e)));
      stops = (omega arith, omega arith, (2, count_two, refl));
    },
    (λ s. let there = only_first s.is.trace s.is.count in
        not_so 1 2 s.solid (subst (λ S. IsCount names_a functor_a S 1) (sym there) count_one) (λ e. omega (arith, e)) s.stops.2),
    (λ s. let count = s.is.count in
        let u = begins s.is.trace (omega (arith, count)) in
        let unmet = subst (λ xs. All (λ S. ¬ (Meets names_a (wish functor_a Ge 1) S)) xs) u.1 s.none_before in
        unmet 0 one_a (omega arith) (1, count_one, omega arith)),
    record {
      solid = two_a;
      is = at_one;
      none_before = none_there (wish functor_a Eq 3) (not_so 1 3 one_a count_one (λ e. omega (arith, e)));
      stops = ((omega arith, omega arith), not_so 2 3 two_a count_two (λ e. omega (arith, e)), ends);
    },
  )

  -- what a session's calls do
  pub sessions_stand : SessionsStand
  unfolding at_one
  sessions_stand table h h' stands holds = (
    (λ s. record { stepped = record { solid = two_a; is = at_one; stops = omega arith }; holds = holds }),
    (λ s. let w = (s stands).stepped.stops.0.1 in omega (arith, w)),
    (λ known s. record {
      waited = record {
        solid = two_a;
        is = at_one;
        none_before = none_there (wish functor_a Eq 2) (not_so 1 2 one_a count_one (λ e. omega (arith, e)));
        stops = (omega arith, omega arith, (2, count_two, refl));
      };
      holds = holds;
    }),
    (λ w. let s = (w known_a stands).waited in
        let there = only_first s.is.trace s.is.count in
        not_so 1 2 s.solid (subst (λ S. IsCount names_a functor_a S 1) (sym there) count_one) (λ e. omega (arith, e)) s.stops.2),
    (λ s. let u = goes_on growing_course 1 two_a at_one 0 (omega arith) in (0, record { solid = u.0; is = u.1; stops = ((omega arith, omega arith), u.2) })),
    (λ s. let w = (s stands).1.stops.0 in let a = w.0 in let b = w.1 in omega (arith, a, b)),
  )

-- what is said of each course
pub courses_have_sizes : CoursesHaveSizes
courses_have_sizes = (
  (λ c gives names first. refl),
  (λ all. let e : ◌≡◌ {A = ℕ} 3 4 = all root_first (λ t m r l k some is. is) [] one_a in omega (arith, e)),
)
