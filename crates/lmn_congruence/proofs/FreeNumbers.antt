-- Both counts of the free links are one.
use Rattle.std.proofs.Common.{Bool, true, false}
use Rattle.std.proofs.Common.{ℕ, zero, suc, ◌≡◌, ◌≤◌, ◌+◌, ◌*◌, List, [], ◌∷◌, ◌++◌, refl, ◌∙◌, ap, arith, cond}
use Rattle.std.specs.Prelude.{◌==◌, count_by}
use Rattle.std.proofs.lemmas.List.Recursion.{is_count_by}
use Rattle.lmn_congruence.specs.Links.{one_if_same, places}
use Rattle.lmn_congruence.specs.Process.{Process, nothing, connector, atom, pair, membrane, rule, occurrences}
use Rattle.lmn_congruence.specs.FreeNumber.{process_links, free_number}
use Rattle.lmn_congruence.specs.FreeLinks.{sum_below, above_all, link_bound, one_if_once, one_if_free}
use Rattle.lmn_congruence.proofs.Counts.{one_if_equal, none_if_apart}
use Rattle.lmn_congruence.proofs.TranslatedLinks.{places_append}
use Rattle.lmn_congruence.proofs.Totals.{total_same, total_sum, total_zero, total_single}
use Rattle.lmn_base.proofs.Lists.{weigh}

above_appended : (xs ys : List ℕ) → above_all (xs ++ ys) ≡ above_all xs + above_all ys
above_appended [] ys = omega arith
above_appended (x ∷ xs) ys = omega (arith, above_appended xs ys)

placed : (x : ℕ) (P : Process) → occurrences x P ≡ places x (process_links P)
placed x nothing = refl
placed x (connector y z) = omega arith
placed x (atom a xs) = refl
placed x (pair P Q) = omega (arith, placed x P, placed x Q, places_append x (process_links P) (process_links Q))
placed x (membrane P) = placed x P
placed x (rule r) = refl

bounded : (P : Process) → link_bound P ≡ above_all (process_links P)
bounded nothing = refl
bounded (connector y z) = omega arith
bounded (atom a xs) = refl
bounded (pair P Q) = omega (arith, bounded P, bounded Q, above_appended (process_links P) (process_links Q))
bounded (membrane P) = bounded P
bounded (rule r) = refl

times_zero : (a b : ℕ) → a ≡ 0 → a * b ≡ 0
times_zero a b e = rw e (grind arith)

times_one : (a b : ℕ) → a ≡ 1 → a * b ≡ b
times_one a b e = rw e (grind arith)

split : (a b c : ℕ) → (a + b) * c ≡ a * c + b * c
split a b c = grind arith

by_element : (m : ℕ) (g : ℕ → ℕ) (xs : List ℕ) → above_all xs ≤ m → sum_below m (λ n. places n xs * g n) ≡ weigh g xs
by_element m g [] h = total_zero m (λ n. 0 * g n) (λ n. times_zero 0 (g n) refl)
by_element m g (x ∷ xs) h =
    total_same m (λ n. (one_if_same n x + places n xs) * g n) (λ n. one_if_same n x * g n + places n xs * g n) (λ n l. split (one_if_same n x) (places n xs) (g n))
    ∙ total_sum m (λ n. one_if_same n x * g n) (λ n. places n xs * g n)
    ∙ both (total_single m x (λ n. one_if_same n x * g n) (omega (arith, h)) (λ n d. times_zero (one_if_same n x) (g n) (none_if_apart n x d)) ∙ times_one (one_if_same x x) (g x) (one_if_equal x x refl))
    (by_element m g xs (omega (arith, h)))
  where
    both : {a b c d : ℕ} → a ≡ b → c ≡ d → a + c ≡ b + d
    both e f = rw (e, f) refl

once : (k : ℕ) → one_if_once k ≡ k * one_if_once k
once zero = refl
once (suc zero) = refl
once (suc (suc k)) = grind arith

counted : (zs : List ℕ) (o : ℕ → ℕ) → ((x : ℕ) → o x ≡ places x zs) → (xs : List ℕ) → weigh (λ n. one_if_once (places n zs)) xs ≡ count_by (λ x. o x == 1) xs
counted zs o e xs = is_count_by (weigh (λ n. one_if_once (places n zs))) (λ x. o x == 1) refl (λ y ys. rw (e y) (cond_plus (places y zs == 1) (weigh (λ n. one_if_once (places n zs)) ys))) xs
  where
    cond_plus : (b : Bool) (n : ℕ) → cond b 1 0 + n ≡ cond b (1 + n) n
    cond_plus true n = refl
    cond_plus false n = omega arith

of_list : (zs : List ℕ) → sum_below (above_all zs) (λ n. one_if_once (places n zs)) ≡ weigh (λ n. one_if_once (places n zs)) zs
of_list zs =
    total_same (above_all zs) (λ n. one_if_once (places n zs)) (λ n. places n zs * one_if_once (places n zs)) (λ n l. once (places n zs))
    ∙ by_element (above_all zs) (λ n. one_if_once (places n zs)) zs (omega arith)

-- the sum below a bound is the number of free links
pub free_total : (P : Process) → sum_below (link_bound P) (one_if_free P) ≡ free_number P
free_total P =
    total_same (link_bound P) (one_if_free P) (λ n. one_if_once (places n (process_links P))) (λ n l. ap one_if_once (placed n P))
    ∙ ap (λ m. sum_below m (λ n. one_if_once (places n (process_links P)))) (bounded P)
    ∙ of_list (process_links P)
    ∙ counted (process_links P) (λ x. occurrences x P) (λ x. placed x P) (process_links P)
