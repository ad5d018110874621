-- Settings that are collected one after another.
use Rattle.std.proofs.Common.{◌≡◌, ◌≤◌, Bool, true, false, if◌then◌else◌, List, [], ◌∷◌, ◌++◌, length, Option, Some, None, is_some, option_and_then, option_to_list, filter_map, refl, sym, ap, ◌∙◌, subst, arith}
use Rattle.std.specs.Prelude.{unwrap_or}
use Rattle.std.proofs.lemmas.List.{append-nil}
use Rattle.std.proofs.lemmas.Option.{none-some, same_Some}
use Rattle.lmn_app_words.specs.declared.setting.Setting.{Setting}
use Rattle.lmn_app_words.specs.declared.setting.Setting.TheVariants as set
use Rattle.lmn_app_words.specs.declared.setting.Flag.TheVariants as flag
use Rattle.lmn_app_words.specs.declared.setting.Settings.{Settings}
use Rattle.lmn_app_words.specs.Forms.{trace_of, folded_of, budget_of, size_of, order_name_of, seed_of, EachAtMostOnce, OnlyOr}
use Rattle.lmn_app_words.specs.Hearing.{with_setting, no_settings}
use Rattle.lmn_app_words.proofs.WordLemmas.{false_true, then_some}

-- the settings with more, one after another
abbrev pub settings_all : Settings → List Setting → Option Settings
settings_all s [] = Some s
settings_all s (x ∷ xs) = option_and_then (λ t. settings_all t xs) (with_setting s x)

-- a flag is there once or not at all
abbrev pub flagged : Bool → List Bool
flagged true = true ∷ []
flagged false = []

-- t has what s has and what the list gives, each once
pub record Collects (s : Settings) (xs : List Setting) (t : Settings) : Type 0 where
  pub trace : flagged s.trace ++ filter_map trace_of xs ≡ flagged t.trace
  pub folded : flagged s.folded ++ filter_map folded_of xs ≡ flagged t.folded
  pub budget : option_to_list s.budget ++ filter_map budget_of xs ≡ option_to_list t.budget
  pub size : option_to_list s.size ++ filter_map size_of xs ≡ option_to_list t.size
  pub order : option_to_list s.order ++ filter_map order_name_of xs ≡ option_to_list t.order
  pub seed : option_to_list s.seed ++ filter_map seed_of xs ≡ option_to_list t.seed

-- what is not there is none
pub is_none : {A : Type 0} (o : Option A) → is_some o ≡ false → o ≡ None
is_none None e = refl
is_none (Some x) e = false_true (sym e)

-- two values are the same where their lists are
pub list_option : {A : Type 0} (o p : Option A) → option_to_list o ++ [] ≡ option_to_list p → o ≡ p
list_option None None e = refl
list_option None (Some y) e = absurd (let l = ap length e in omega (arith, l))
list_option (Some x) None e = absurd (let l = ap length e in omega (arith, l))
list_option (Some x) (Some y) e = ap Some (ap (λ l. head_or x l) e)
  where
    head_or : {A : Type 0} → A → List A → A
    head_or d [] = d
    head_or d (a ∷ l) = a

list_flag : (a b : Bool) → flagged a ++ [] ≡ flagged b → a ≡ b
list_flag true true e = refl
list_flag false false e = refl
list_flag true false e = absurd (let l = ap length e in omega (arith, l))
list_flag false true e = absurd (let l = ap length e in omega (arith, l))

-- what is given where something is held can't be held once
pub front_empty : {A : Type 0} (o p : Option A) (x : A) (rest : List A) → option_to_list o ++ (x ∷ rest) ≡ option_to_list p → o ≡ None
front_empty None p x rest e = refl
front_empty (Some y) None x rest e = absurd (let l = ap length e in omega (arith, l))
front_empty (Some y) (Some z) x rest e = absurd (let l = ap length e in omega (arith, l))

front_unset : (a b : Bool) (rest : List Bool) → flagged a ++ (true ∷ rest) ≡ flagged b → a ≡ false
front_unset false b rest e = refl
front_unset true true rest e = absurd (let l = ap length e in omega (arith, l))
front_unset true false rest e = absurd (let l = ap length e in omega (arith, l))

-- one setting more: where its place was empty, it is there
taken : {A : Type 0} (b : Bool) (r t : Settings) (xs : List Setting) → option_and_then (λ u. settings_all u xs) (if b then None else Some r) ≡ Some t
    → (b ≡ false → settings_all r xs ≡ Some t → A) → A
taken true r t xs e k = absurd (none-some t e)
taken false r t xs e k = k refl e

-- what was set one after another was collected
pub all_told : (s t : Settings) (xs : List Setting) → settings_all s xs ≡ Some t → Collects s xs t
all_told s t [] e = subst (Collects s []) (same_Some s t e) (record {
  trace = append-nil (flagged s.trace);
  folded = append-nil (flagged s.folded);
  budget = append-nil (option_to_list s.budget);
  size = append-nil (option_to_list s.size);
  order = append-nil (option_to_list s.order);
  seed = append-nil (option_to_list s.seed);
})
all_told s t (set.Flag flag.Trace ∷ xs) e = taken s.trace (record s { trace = true }) t xs e (λ free rest.
    let k = all_told (record s { trace = true }) t xs rest in record {
      trace = ap (λ b. flagged b ++ (true ∷ filter_map trace_of xs)) free ∙ k.trace;
      folded = k.folded;
      budget = k.budget;
      size = k.size;
      order = k.order;
      seed = k.seed;
    })
all_told s t (set.Flag flag.Folded ∷ xs) e = taken s.folded (record s { folded = true }) t xs e (λ free rest.
    let k = all_told (record s { folded = true }) t xs rest in record {
      trace = k.trace;
      folded = ap (λ b. flagged b ++ (true ∷ filter_map folded_of xs)) free ∙ k.folded;
      budget = k.budget;
      size = k.size;
      order = k.order;
      seed = k.seed;
    })
all_told s t (set.Budget n ∷ xs) e = taken (is_some s.budget) (record s { budget = Some n }) t xs e (λ free rest.
    let k = all_told (record s { budget = Some n }) t xs rest in record {
      trace = k.trace;
      folded = k.folded;
      budget = ap (λ o. option_to_list o ++ (n ∷ filter_map budget_of xs)) (is_none s.budget free) ∙ k.budget;
      size = k.size;
      order = k.order;
      seed = k.seed;
    })
all_told s t (set.Size n ∷ xs) e = taken (is_some s.size) (record s { size = Some n }) t xs e (λ free rest.
    let k = all_told (record s { size = Some n }) t xs rest in record {
      trace = k.trace;
      folded = k.folded;
      budget = k.budget;
      size = ap (λ o. option_to_list o ++ (n ∷ filter_map size_of xs)) (is_none s.size free) ∙ k.size;
      order = k.order;
      seed = k.seed;
    })
all_told s t (set.Order n ∷ xs) e = taken (is_some s.order) (record s { order = Some n }) t xs e (λ free rest.
    let k = all_told (record s { order = Some n }) t xs rest in record {
      trace = k.trace;
      folded = k.folded;
      budget = k.budget;
      size = k.size;
      order = ap (λ o. option_to_list o ++ (n ∷ filter_map order_name_of xs)) (is_none s.order free) ∙ k.order;
      seed = k.seed;
    })
all_told s t (set.Seed n ∷ xs) e = taken (is_some s.seed) (record s { seed = Some n }) t xs e (λ free rest.
    let k = all_told (record s { seed = Some n }) t xs rest in record {
      trace = k.trace;
      folded = k.folded;
      budget = k.budget;
      size = k.size;
      order = k.order;
      seed = ap (λ o. option_to_list o ++ (n ∷ filter_map seed_of xs)) (is_none s.seed free) ∙ k.seed;
    })

-- what is collected can be set one after another
pub all_read : (s t : Settings) (xs : List Setting) → Collects s xs t → settings_all s xs ≡ Some t
all_read s t [] c =
    let trace = list_flag s.trace t.trace c.trace in
    let folded = list_flag s.folded t.folded c.folded in
    let budget = list_option s.budget t.budget c.budget in
    let size = list_option s.size t.size c.size in
    let order = list_option s.order t.order c.order in
    let seed = list_option s.seed t.seed c.seed in
    λ i. Some (record { trace = trace i; folded = folded i; budget = budget i; size = size i; order = order i; seed = seed i })
all_read s t (set.Flag flag.Trace ∷ xs) c =
    let free = front_unset s.trace t.trace (filter_map trace_of xs) c.trace in
    then_some (λ u. settings_all u xs) (with_setting s (set.Flag flag.Trace)) (record s { trace = true }) (Some t)
    (ap (λ b. if b then None else Some (record s { trace = true })) free)
    (all_read (record s { trace = true }) t xs (record {
      trace = ap (λ b. flagged b ++ (true ∷ filter_map trace_of xs)) (sym free) ∙ c.trace;
      folded = c.folded;
      budget = c.budget;
      size = c.size;
      order = c.order;
      seed = c.seed;
    }))
all_read s t (set.Flag flag.Folded ∷ xs) c =
    let free = front_unset s.folded t.folded (filter_map folded_of xs) c.folded in
    then_some (λ u. settings_all u xs) (with_setting s (set.Flag flag.Folded)) (record s { folded = true }) (Some t)
    (ap (λ b. if b then None else Some (record s { folded = true })) free)
    (all_read (record s { folded = true }) t xs (record {
      trace = c.trace;
      folded = ap (λ b. flagged b ++ (true ∷ filter_map folded_of xs)) (sym free) ∙ c.folded;
      budget = c.budget;
      size = c.size;
      order = c.order;
      seed = c.seed;
    }))
all_read s t (set.Budget n ∷ xs) c =
    let free = front_empty s.budget t.budget n (filter_map budget_of xs) c.budget in
    then_some (λ u. settings_all u xs) (with_setting s (set.Budget n)) (record s { budget = Some n }) (Some t)
    (ap (λ o. if is_some o then None else Some (record s { budget = Some n })) free)
    (all_read (record s { budget = Some n }) t xs (record {
      trace = c.trace;
      folded = c.folded;
      budget = ap (λ o. option_to_list o ++ (n ∷ filter_map budget_of xs)) (sym free) ∙ c.budget;
      size = c.size;
      order = c.order;
      seed = c.seed;
    }))
all_read s t (set.Size n ∷ xs) c =
    let free = front_empty s.size t.size n (filter_map size_of xs) c.size in
    then_some (λ u. settings_all u xs) (with_setting s (set.Size n)) (record s { size = Some n }) (Some t)
    (ap (λ o. if is_some o then None else Some (record s { size = Some n })) free)
    (all_read (record s { size = Some n }) t xs (record {
      trace = c.trace;
      folded = c.folded;
      budget = c.budget;
      size = ap (λ o. option_to_list o ++ (n ∷ filter_map size_of xs)) (sym free) ∙ c.size;
      order = c.order;
      seed = c.seed;
    }))
all_read s t (set.Order n ∷ xs) c =
    let free = front_empty s.order t.order n (filter_map order_name_of xs) c.order in
    then_some (λ u. settings_all u xs) (with_setting s (set.Order n)) (record s { order = Some n }) (Some t)
    (ap (λ o. if is_some o then None else Some (record s { order = Some n })) free)
    (all_read (record s { order = Some n }) t xs (record {
      trace = c.trace;
      folded = c.folded;
      budget = c.budget;
      size = c.size;
      order = ap (λ o. option_to_list o ++ (n ∷ filter_map order_name_of xs)) (sym free) ∙ c.order;
      seed = c.seed;
    }))
all_read s t (set.Seed n ∷ xs) c =
    let free = front_empty s.seed t.seed n (filter_map seed_of xs) c.seed in
    then_some (λ u. settings_all u xs) (with_setting s (set.Seed n)) (record s { seed = Some n }) (Some t)
    (ap (λ o. if is_some o then None else Some (record s { seed = Some n })) free)
    (all_read (record s { seed = Some n }) t xs (record {
      trace = c.trace;
      folded = c.folded;
      budget = c.budget;
      size = c.size;
      order = c.order;
      seed = ap (λ o. option_to_list o ++ (n ∷ filter_map seed_of xs)) (sym free) ∙ c.seed;
    }))

-- ---- the settings of a list that has each at most once

-- the first of a list, where there is one
abbrev pub first_of : {A : Type 0} → List A → Option A
first_of [] = None
first_of (x ∷ xs) = Some x

only_first : {A : Type 0} (xs : List A) → length xs ≤ 1 → xs ≡ option_to_list (first_of xs)
only_first [] h = refl
only_first (x ∷ []) h = refl
only_first (x ∷ (y ∷ xs)) h = absurd (omega (arith, h))

abbrev all_true : List Bool → List Bool
all_true [] = []
all_true (b ∷ bs) = true ∷ all_true bs

traces_true : (xs : List Setting) → filter_map trace_of xs ≡ all_true (filter_map trace_of xs)
traces_true [] = refl
traces_true (set.Flag flag.Trace ∷ xs) = ap (λ bs. true ∷ bs) (traces_true xs)
traces_true (set.Flag flag.Folded ∷ xs) = traces_true xs
traces_true (set.Budget n ∷ xs) = traces_true xs
traces_true (set.Size n ∷ xs) = traces_true xs
traces_true (set.Order n ∷ xs) = traces_true xs
traces_true (set.Seed n ∷ xs) = traces_true xs

folds_true : (xs : List Setting) → filter_map folded_of xs ≡ all_true (filter_map folded_of xs)
folds_true [] = refl
folds_true (set.Flag flag.Trace ∷ xs) = folds_true xs
folds_true (set.Flag flag.Folded ∷ xs) = ap (λ bs. true ∷ bs) (folds_true xs)
folds_true (set.Budget n ∷ xs) = folds_true xs
folds_true (set.Size n ∷ xs) = folds_true xs
folds_true (set.Order n ∷ xs) = folds_true xs
folds_true (set.Seed n ∷ xs) = folds_true xs

only_flag : (bs : List Bool) → length bs ≤ 1 → all_true bs ≡ flagged (is_some (first_of bs))
only_flag [] h = refl
only_flag (b ∷ []) h = refl
only_flag (b ∷ (c ∷ bs)) h = absurd (omega (arith, h))

-- the first setting of each kind
abbrev pub firsts : List Setting → Settings
firsts xs = record {
  trace = is_some (first_of (filter_map trace_of xs));
  folded = is_some (first_of (filter_map folded_of xs));
  budget = first_of (filter_map budget_of xs);
  size = first_of (filter_map size_of xs);
  order = first_of (filter_map order_name_of xs);
  seed = first_of (filter_map seed_of xs);
}

-- where none is given twice these are all
pub firsts_collected : (xs : List Setting) → EachAtMostOnce xs → Collects no_settings xs (firsts xs)
firsts_collected xs h = record {
  trace = traces_true xs ∙ only_flag (filter_map trace_of xs) h.0;
  folded = folds_true xs ∙ only_flag (filter_map folded_of xs) h.1;
  budget = only_first (filter_map budget_of xs) h.2;
  size = only_first (filter_map size_of xs) h.3;
  order = only_first (filter_map order_name_of xs) h.4;
  seed = only_first (filter_map seed_of xs) h.5;
}

-- ---- the one value, or the default

-- a value that may be given is given once at most
pub at_most_one : {A : Type 0} (d : A) (xs : List A) (v : A) → OnlyOr d xs v → length xs ≤ 1
at_most_one d [] v h = omega arith
at_most_one d (x ∷ []) v h = omega arith
at_most_one d (x ∷ (y ∷ xs)) v h = absurd h

-- and is the first that is given, or the default
pub only_value : {A : Type 0} (d : A) (xs : List A) (v : A) → OnlyOr d xs v → unwrap_or (first_of xs) d ≡ v
only_value d [] v h = sym h
only_value d (x ∷ []) v h = sym h
only_value d (x ∷ (y ∷ xs)) v h = absurd h

-- a value that is there or the default is one that may be given
pub value_only : {A : Type 0} (d : A) (o : Option A) → OnlyOr d (option_to_list o) (unwrap_or o d)
value_only d None = refl
value_only d (Some x) = refl

-- and so is a flag
pub flag_only : (b : Bool) → OnlyOr false (flagged b) b
flag_only true = refl
flag_only false = refl

flag_value : (bs : List Bool) (v : Bool) → bs ≡ all_true bs → OnlyOr false bs v → is_some (first_of bs) ≡ v
flag_value [] v t h = sym h
flag_value (b ∷ []) v t h = sym (h ∙ ap (λ l. unwrap_or (first_of l) false) t)
flag_value (b ∷ (c ∷ bs)) v t h = absurd h

-- whether `--trace` is given
pub trace_value : (xs : List Setting) (v : Bool) → OnlyOr false (filter_map trace_of xs) v → is_some (first_of (filter_map trace_of xs)) ≡ v
trace_value xs v h = flag_value (filter_map trace_of xs) v (traces_true xs) h

-- whether `--folded` is
pub folded_value : (xs : List Setting) (v : Bool) → OnlyOr false (filter_map folded_of xs) v → is_some (first_of (filter_map folded_of xs)) ≡ v
folded_value xs v h = flag_value (filter_map folded_of xs) v (folds_true xs) h
