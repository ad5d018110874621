-- What settings give, by functions that find the value of an option in a setting.
use Rattle.std.proofs.Common.{◌≡◌, ◌∙◌, ℕ, Bool, true, false, List, [], ◌∷◌, Option, Some, None, filter_map, refl, sym, ap, subst}
use Rattle.std.specs.List.{AllByRecursion, cons_option}
use Rattle.std.proofs.lemmas.Option.{none-some, same_Some}
use Rattle.lmn_app_words.specs.declared.setting.Setting.{Setting}
use Rattle.lmn_app_words.specs.declared.setting.Setting.TheVariants as set
use Rattle.lmn_app_words.specs.declared.setting.Flag.TheVariants as flag
use Rattle.lmn_app_words.specs.declared.setting.OrderName.{OrderName}
use Rattle.lmn_app_words.specs.declared.setting.OrderName.TheVariants as name
use Rattle.lmn_app_words.specs.Forms.{CommandWord, AreFilesAndSettings, GivenOnce, none_given, one_given, given_later, Run, AsksRun, OnlyOr, ordered_by, trace_of, folded_of, budget_of, size_of, order_name_of, seed_of}

module _ {A : Type 0} (Is : A → Setting → Type 0) (value_of : Setting → Option A)
    (found : (s : Setting) (v : A) → value_of s ≡ Some v → Is v s) (finds : (s : Setting) (v : A) → Is v s → value_of s ≡ Some v) where
  abbrev None' : Setting → Type 0
  None' s = (v : A) → ¬ (Is v s)

  -- a setting of another form has no value, and one without a value is of another form
  no_value : (s : Setting) → None' s → value_of s ≡ None
  no_value s other = by (value_of s) refl
    where
      by : (o : Option A) → value_of s ≡ o → value_of s ≡ None
      by None e = e
      by (Some v) e = absurd (other v (found s v e))

  no_form : (s : Setting) → value_of s ≡ None → None' s
  no_form s e v is = let bad : None ≡ Some v = sym e ∙ finds s v is in absurd (none-some v bad)

  no_values : (xs : List Setting) → AllByRecursion None' xs → filter_map value_of xs ≡ []
  no_values [] h = refl
  no_values (s ∷ xs) h = ap (λ o. cons_option o (filter_map value_of xs)) (no_value s h.0) ∙ no_values xs h.1

  no_forms : (xs : List Setting) → filter_map value_of xs ≡ [] → AllByRecursion None' xs
  no_forms [] e = tt
  no_forms (s ∷ xs) e = by (value_of s) refl e (no_forms xs)
    where
      by : (o : Option A) → value_of s ≡ o → cons_option o (filter_map value_of xs) ≡ [] → (filter_map value_of xs ≡ [] → AllByRecursion None' xs)
          → AllByRecursion None' (s ∷ xs)
      by None f e rest = (no_form s f, rest e)
      by (Some w) f e rest = absurd (cc)

  -- what is given is the only value, or the default
  only_given : {d v : A} {xs : List Setting} → GivenOnce Is d xs v → OnlyOr d (filter_map value_of xs) v
  only_given none_given = refl
  only_given {d} {v} (one_given {s = s} {settings = xs} is none) =
      subst (λ l. OnlyOr d l v) (sym (λ i. cons_option (finds s v is i) (no_values xs none i))) refl
  only_given {d} {v} (given_later {s = s} {settings = xs} other more) =
      subst (λ l. OnlyOr d l v) (sym (ap (λ o. cons_option o (filter_map value_of xs)) (no_value s other))) (only_given more)

  given_only : (d v : A) (xs : List Setting) → OnlyOr d (filter_map value_of xs) v → GivenOnce Is d xs v
  given_only d v [] h = subst (GivenOnce Is d []) (sym h) none_given
  given_only d v (s ∷ xs) h = by (value_of s) refl h (given_only d v xs)
    where
      by : (o : Option A) → value_of s ≡ o → OnlyOr d (cons_option o (filter_map value_of xs)) v → (OnlyOr d (filter_map value_of xs) v → GivenOnce Is d xs v)
          → GivenOnce Is d (s ∷ xs) v
      by None f h rest = given_later (no_form s f) (rest h)
      by (Some w) f h rest = at (filter_map value_of xs) refl h
        where
          at : (l : List A) → filter_map value_of xs ≡ l → OnlyOr d (w ∷ l) v → GivenOnce Is d (s ∷ xs) v
          at [] e h = one_given (subst (λ u. Is u s) (sym h) (found s w f)) (no_forms xs e)
          at (y ∷ ys) e h = absurd h

-- ---- the options

trace_found : (s : Setting) (v : Bool) → trace_of s ≡ Some v → (s ≡ set.Flag flag.Trace) × (v ≡ true)
trace_found (set.Flag flag.Trace) v e = (refl, sym (same_Some true v e))
trace_found (set.Flag flag.Folded) v e = absurd (none-some v e)
trace_found (set.Budget n) v e = absurd (none-some v e)
trace_found (set.Size n) v e = absurd (none-some v e)
trace_found (set.Order n) v e = absurd (none-some v e)
trace_found (set.Seed n) v e = absurd (none-some v e)

folded_found : (s : Setting) (v : Bool) → folded_of s ≡ Some v → (s ≡ set.Flag flag.Folded) × (v ≡ true)
folded_found (set.Flag flag.Trace) v e = absurd (none-some v e)
folded_found (set.Flag flag.Folded) v e = (refl, sym (same_Some true v e))
folded_found (set.Budget n) v e = absurd (none-some v e)
folded_found (set.Size n) v e = absurd (none-some v e)
folded_found (set.Order n) v e = absurd (none-some v e)
folded_found (set.Seed n) v e = absurd (none-some v e)

budget_found : (s : Setting) (v : ℕ) → budget_of s ≡ Some v → s ≡ set.Budget v
budget_found (set.Flag f) v e = absurd (none-some v e)
budget_found (set.Budget n) v e = ap (λ m. set.Budget m) (same_Some n v e)
budget_found (set.Size n) v e = absurd (none-some v e)
budget_found (set.Order n) v e = absurd (none-some v e)
budget_found (set.Seed n) v e = absurd (none-some v e)

size_found : (s : Setting) (v : ℕ) → size_of s ≡ Some v → s ≡ set.Size v
size_found (set.Flag f) v e = absurd (none-some v e)
size_found (set.Budget n) v e = absurd (none-some v e)
size_found (set.Size n) v e = ap (λ m. set.Size m) (same_Some n v e)
size_found (set.Order n) v e = absurd (none-some v e)
size_found (set.Seed n) v e = absurd (none-some v e)

order_found : (s : Setting) (v : OrderName) → order_name_of s ≡ Some v → s ≡ set.Order v
order_found (set.Flag f) v e = absurd (none-some v e)
order_found (set.Budget n) v e = absurd (none-some v e)
order_found (set.Size n) v e = absurd (none-some v e)
order_found (set.Order n) v e = ap (λ m. set.Order m) (same_Some n v e)
order_found (set.Seed n) v e = absurd (none-some v e)

seed_found : (s : Setting) (v : ℕ) → seed_of s ≡ Some v → s ≡ set.Seed v
seed_found (set.Flag f) v e = absurd (none-some v e)
seed_found (set.Budget n) v e = absurd (none-some v e)
seed_found (set.Size n) v e = absurd (none-some v e)
seed_found (set.Order n) v e = absurd (none-some v e)
seed_found (set.Seed n) v e = ap (λ m. set.Seed m) (same_Some n v e)

-- ---- a run

-- the words behind `run` name one file, and settings that give these values, by the functions
pub record RunGiven (words : List CommandWord) (run : Run) : Type 0 where
  pub settings : List Setting
  pub spelled : AreFilesAndSettings words (run.file ∷ []) settings
  pub trace : OnlyOr false (filter_map trace_of settings) run.trace
  pub folded : OnlyOr false (filter_map folded_of settings) run.folded
  pub budget : OnlyOr 1000000 (filter_map budget_of settings) run.budget
  pub size : OnlyOr 16777216 (filter_map size_of settings) run.size
  pub order_name : OrderName
  pub named : OnlyOr name.First (filter_map order_name_of settings) order_name
  pub seed : ℕ
  pub seeded : OnlyOr 0 (filter_map seed_of settings) seed
  pub order : run.order ≡ ordered_by order_name seed

-- what is asked for is given so
pub given_of : {words : List CommandWord} {run : Run} → AsksRun words run → RunGiven words run
given_of a = record {
  settings = a.settings;
  spelled = a.spelled;
  trace = only_given (λ on s. (s ≡ set.Flag flag.Trace) × (on ≡ true)) trace_of trace_found (λ s v e. ap trace_of e.0 ∙ ap (λ b. Some b) (sym e.1)) a.trace;
  folded = only_given (λ on s. (s ≡ set.Flag flag.Folded) × (on ≡ true)) folded_of folded_found (λ s v e. ap folded_of e.0 ∙ ap (λ b. Some b) (sym e.1)) a.folded;
  budget = only_given (λ n s. s ≡ set.Budget n) budget_of budget_found (λ s v e. ap budget_of e) a.budget;
  size = only_given (λ n s. s ≡ set.Size n) size_of size_found (λ s v e. ap size_of e) a.size;
  order_name = a.order_name;
  named = only_given (λ kind s. s ≡ set.Order kind) order_name_of order_found (λ s v e. ap order_name_of e) a.named;
  seed = a.seed;
  seeded = only_given (λ n s. s ≡ set.Seed n) seed_of seed_found (λ s v e. ap seed_of e) a.seeded;
  order = a.order;
}

-- and what is given so is asked for
pub asks_given : {words : List CommandWord} {run : Run} → RunGiven words run → AsksRun words run
asks_given {words} {run} a = record {
  settings = a.settings;
  spelled = a.spelled;
  trace = given_only (λ on s. (s ≡ set.Flag flag.Trace) × (on ≡ true)) trace_of trace_found (λ s v e. ap trace_of e.0 ∙ ap (λ b. Some b) (sym e.1)) false run.trace a.settings a.trace;
  folded = given_only (λ on s. (s ≡ set.Flag flag.Folded) × (on ≡ true)) folded_of folded_found (λ s v e. ap folded_of e.0 ∙ ap (λ b. Some b) (sym e.1)) false run.folded a.settings a.folded;
  budget = given_only (λ n s. s ≡ set.Budget n) budget_of budget_found (λ s v e. ap budget_of e) 1000000 run.budget a.settings a.budget;
  size = given_only (λ n s. s ≡ set.Size n) size_of size_found (λ s v e. ap size_of e) 16777216 run.size a.settings a.size;
  order_name = a.order_name;
  named = given_only (λ kind s. s ≡ set.Order kind) order_name_of order_found (λ s v e. ap order_name_of e) name.First a.order_name a.settings a.named;
  seed = a.seed;
  seeded = given_only (λ n s. s ≡ set.Seed n) seed_of seed_found (λ s v e. ap seed_of e) 0 a.seed a.settings a.seeded;
  order = a.order;
}
