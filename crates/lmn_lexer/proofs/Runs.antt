-- Runs of bytes that pass a test, and tests by cases.
use Rattle.std.proofs.Common.{◌≡◌, ℕ, ◌+◌, ◌≤◌, Bool, true, false, cond, if◌then◌else◌, List, [], ◌∷◌, ◌++◌, length, take, drop, suc, refl, sym, ap, ◌∙◌, subst, arith}
use Rattle.std.specs.List.{prefix_len, count_by}
use Rattle.std.proofs.lemmas.List.Sums.{sum_by-cons, sum_by-append}
use Rattle.lmn_lexer.specs.Spelling.{AllPass}
use Rattle.lmn_lexer.specs.Laying.{NoneStandsFirst}

-- what holds of either side of a choice holds of the choice
pub if_case : {A : Type 0} (P : A → Type 0) (t : Bool) (x y : A) → (t ≡ true → P x) → (t ≡ false → P y) → P (if t then x else y)
if_case P true x y h k = h refl
if_case P false x y h k = k refl

-- where a run ends

-- a run of bytes ends where the next one doesn't pass the test
pub run_exact : (test : ℕ → Bool) (bs after : List ℕ) → AllPass test bs → NoneStandsFirst test after → prefix_len test (bs ++ after) ≡ length bs
run_exact test [] [] h s = refl
run_exact test [] (c ∷ cs) h s = ap (λ t. cond t (1 + prefix_len test cs) 0) s
run_exact test (b ∷ bs) after h s = ap (λ t. cond t (1 + prefix_len test (bs ++ after)) 0) h.0 ∙ ap (λ n. 1 + n) (run_exact test bs after h.1 s) ∙ omega arith

-- bytes that pass the test are in the run
pub run_at_least : (test : ℕ → Bool) (bs after : List ℕ) → AllPass test bs → length bs ≤ prefix_len test (bs ++ after)
run_at_least test [] after h = omega arith
run_at_least test (b ∷ bs) after h =
    let P : ℕ → Type 0 = λ n. length (b ∷ bs) ≤ n in
    let more = run_at_least test bs after h.1 in
    subst P (sym (ap (λ t. cond t (1 + prefix_len test (bs ++ after)) 0) h.0)) (omega arith)

-- the run itself passes, and what is behind it stops
pub record RunOf (test : ℕ → Bool) (text : List ℕ) (n : ℕ) : Type 0 where
  pub passes : AllPass test (take n text)
  pub stops : NoneStandsFirst test (drop n text)

run_of : (test : ℕ → Bool) (b : ℕ) (bs : List ℕ) (t : Bool) → test b ≡ t → RunOf test bs (prefix_len test bs) → RunOf test (b ∷ bs) (cond t (1 + prefix_len test bs) 0)
run_of test b bs false e h = record { passes = tt; stops = e }
run_of test b bs true e h =
    let P : ℕ → Type 0 = λ n. RunOf test (b ∷ bs) n in
    subst P (omega arith) (let whole : RunOf test (b ∷ bs) (suc (prefix_len test bs)) = record { passes = (e, h.passes); stops = h.stops } in whole)

-- what is counted is the run
pub run_is : (test : ℕ → Bool) (text : List ℕ) → RunOf test text (prefix_len test text)
run_is test [] = record { passes = tt; stops = tt }
run_is test (b ∷ bs) = run_of test b bs (test b) refl (run_is test bs)

-- how many bytes pass a test

-- one more byte counts where it passes the test
pub count-cons : (test : ℕ → Bool) (b : ℕ) (bs : List ℕ) → count_by test (b ∷ bs) ≡ cond (test b) 1 0 + count_by test bs
count-cons test b bs = sum_by-cons (λ x. cond (test x) 1 0) b bs

-- two texts count as both
pub count-append : (test : ℕ → Bool) (xs ys : List ℕ) → count_by test (xs ++ ys) ≡ count_by test xs + count_by test ys
count-append test xs ys = sum_by-append (λ x. cond (test x) 1 0) xs ys
