-- What `clap` makes of words of the form.
use Rattle.std.proofs.Common.{◌≡◌, ◌∙◌, refl, sym, ap, subst, arith, inl, inr, ℕ, Bool, true, false, ◌&&◌, ◌||◌, ◌==◌, cond, if◌then◌else◌, append-nil, append_assoc, List, [], ◌∷◌, ◌++◌, filter_map, option_map, option_to_list, Option, Some, None, is_some, option_and_then, bytes_eq, codes}
use Rattle.std.specs.Prelude.{unwrap_or, slice_get}
use Rattle.std.specs.List.{find, fold, list_all}
use Rattle.std.specs.Option.{option_map_or, option_or}
use Rattle.clap.specs.Facts.{explicit_source}
use Rattle.std.specs.Str.Parse.{IsNumeral}
use Rattle.std.proofs.lemmas.List.Folds.{find-append}
use Rattle.std.proofs.lemmas.Option.{none-some, same_Some, option_and_then_some}
use Rattle.std.proofs.lemmas.Slice.Eq.{bytes_eq-Decides}
use Rattle.std.proofs.lemmas.Str.Parse.{digit_from_value}
use Rattle.clap.specs.Values.{bool_text}
use Rattle.clap.specs.Walk.{Names, Row, Rule, Text, Walk, finished, first_of as first_text, has_row, nothing_held, one_of, row_text, rows_after, settled_rows, walk, walk_from, walked, word_met, with_default, with_values, more_values, idle}
use Rattle.clap.specs.Simple.{App, Shape, built, entered, is_simple, names_of, subcommand_of}
use Rattle.clap.specs.Takes.{default_passes, entered_passes, is_given, is_valid, level_passes, settle_passes, takes, turn_passes, walk_passes, word_passes}
use Rattle.clap.specs.declared.parser.matches.ValueSource.TheVariants.{DefaultValue}
use Rattle.clap.specs.declared.builder.value_parser.Reading.TheVariants.{AsWritten}
use Rattle.clap.proofs.OnLiterals.{clap_on_literals}
use Rattle.lmn_app_words.specs.declared.setting.Setting.{Setting}
use Rattle.lmn_app_words.specs.declared.setting.Setting.TheVariants as set
use Rattle.lmn_app_words.specs.declared.setting.Settings.{Settings}
use Rattle.lmn_app_words.specs.declared.setting.Flag.{Flag}
use Rattle.lmn_app_words.specs.declared.setting.Flag.TheVariants as flag
use Rattle.lmn_app_words.specs.declared.setting.Valued.{Valued}
use Rattle.lmn_app_words.specs.declared.setting.Valued.TheVariants as valued
use Rattle.lmn_app_words.specs.declared.setting.OrderName.TheVariants as name
use Rattle.lmn_app_words.specs.declared.command.PairKind.{PairKind}
use Rattle.lmn_app_words.specs.declared.command.PairKind.TheVariants as kind
use Rattle.lmn_app_words.specs.Forms.{CommandWord, IsFileName, IsNumber, Sets, AreFilesAndSettings, nothing, a_file, a_flag, two_words, one_word, ordered_by, Run, Pair, Request, to_run, to_compile, to_demo, to_pair, AsksRun, TextsAsk, pair_word, standing_first, standing_last, budget_of, size_of, order_name_of, seed_of}
use Rattle.lmn_app_words.specs.Hearing.{no_settings, number_written, order_named, with_setting}
use Rattle.lmn_app_words.specs.Parsing.{FoundIsRequest, Tells, compile_line, demo_line, pair_line, whole_line}
use Rattle.lmn_app_words.proofs.WordLemmas.{if_some, number_read, option_word, order_read}
use Rattle.lmn_app_words.proofs.SettingLemmas.{all_read, firsts, firsts_collected, front_empty, is_none, list_option, only_value, settings_all, trace_value, folded_value}
use Rattle.lmn_app_words.proofs.Given.{given_of}
use Rattle.lmn_app_words.proofs.ReadLemmas.{each_once, standing_names}
use Rattle.lmn_app_words.proofs.WalkLemmas.{Stands, after_met, and_first_true, at_new_row, between, both_passes, both_walked, built_line, file_passes, file_walked, flag_id, flag_passes, flag_walked, given, held, name_passes, name_walked, named, option_id, passes, plain_met, plain_passes, run_rules, run_shape, stands_done, stands_file, stands_option, step_of_met, used_new, used_once, value_walked, value_word_passes}
use Rattle.lmn_base.proofs.Numbers.{unequal as not_same}
use Rattle.std.proofs.lemmas.Bool.{and_from}
use Rattle.lmn_base.proofs.Truth.{bool_cases}

-- ---- what rows tell

abbrev has_id : Text → Row → Bool
has_id id r = bytes_eq r.id id

-- the rows are one use of each id that has a text
abbrev Looks : List Row → (Text → Option Text) → Type 0
Looks rows t = (id : Text) → find (has_id id) rows ≡ option_map (given id) (t id)

-- one text more
abbrev put : (Text → Option Text) → Text → Text → Text → Option Text
put t id v other = if bytes_eq id other then Some v else t other

or_none : {A : Type 0} (o : Option A) → option_or o None ≡ o
or_none None = refl
or_none (Some x) = refl

looks_more : (rows : List Row) (t : Text → Option Text) (id v : Text) → Looks rows t → t id ≡ None → Looks (rows ++ (given id v ∷ [])) (put t id v)
looks_more rows t id v looks free other = find-append (has_id other) rows (given id v ∷ []) ∙ elim (bool_cases (bytes_eq id other)) [
  | inl e ↦ let same : id ≡ other = (bytes_eq-Decides id other).0 e in
      ap (λ o. option_or o (cond (bytes_eq id other) (Some (given id v)) None)) (looks other ∙ ap (option_map (given other)) (ap t (sym same) ∙ free))
      ∙ ap (λ b. cond b (Some (given id v)) None) e ∙ ap (λ i. Some (given i v)) same
      ∙ sym (ap (λ b. option_map (given other) (if b then Some v else t other)) e)
  | inr e ↦ ap (λ b. option_or (find (has_id other) rows) (cond b (Some (given id v)) None)) e ∙ or_none (find (has_id other) rows) ∙ looks other
      ∙ sym (ap (λ b. option_map (given other) (if b then Some v else t other)) e)
]

has_row_find : (id : Text) (rows : List Row) → has_row id rows ≡ is_some (find (has_id id) rows)
has_row_find id [] = refl
has_row_find id (r ∷ rows) = go (has_id id r) (has_row_find id rows)
  where
    go : (b : Bool) → has_row id rows ≡ is_some (find (has_id id) rows) → (b || has_row id rows) ≡ is_some (cond b (Some r) (find (has_id id) rows))
    go true e = refl
    go false e = e

-- an id without a text has no row
no_row : (rows : List Row) (t : Text → Option Text) (id : Text) → Looks rows t → t id ≡ None → has_row id rows ≡ false
no_row rows t id looks free = has_row_find id rows ∙ ap is_some (looks id ∙ ap (option_map (given id)) free)

abbrev Reads : {A : Type 0} → (CommandWord → Option A) → Option CommandWord → Option A → Type 0
Reads g o a = (option_and_then g o ≡ a) × (is_some o ≡ is_some a)

-- the texts mean this file and these settings
record Means (t : Text → Option Text) (f : Option CommandWord) (s : Settings) : Type 0 where
  pub file : t (codes "file") ≡ f
  pub trace : t (codes "trace") ≡ (if s.trace then Some (codes "true") else None)
  pub folded : t (codes "folded") ≡ (if s.folded then Some (codes "true") else None)
  pub budget : Reads number_written (t (codes "budget")) s.budget
  pub size : Reads number_written (t (codes "size")) s.size
  pub order : Reads order_named (t (codes "order")) s.order
  pub seed : Reads number_written (t (codes "seed")) s.seed

means_nothing : Means (λ _. None) None no_settings
means_nothing = record { file = refl; trace = refl; folded = refl; budget = (refl, refl); size = (refl, refl); order = (refl, refl); seed = (refl, refl) }

means_file : (t : Text → Option Text) (file : CommandWord) (s : Settings) → Means t None s → Means (put t (codes "file") file) (Some file) s
means_file t file s m = record { file = refl; trace = m.trace; folded = m.folded; budget = m.budget; size = m.size; order = m.order; seed = m.seed }

means_flag : (f : Flag) (t : Text → Option Text) (file : Option CommandWord) (s r : Settings) → with_setting s (set.Flag f) ≡ Some r → Means t file s
    → (t (flag_id f) ≡ None) × Means (put t (flag_id f) (codes "true")) file r
means_flag flag.Trace t file s r e m = if_some s.trace None (Some (record s { trace = true })) r e (λ is bad. absurd (none-some r bad)) (λ free same. (
  m.trace ∙ ap (λ b. if b then Some (codes "true") else None) free,
  subst (Means (put t (codes "trace") (codes "true")) file) (same_Some (record s { trace = true }) r same)
      (record { file = m.file; trace = refl; folded = m.folded; budget = m.budget; size = m.size; order = m.order; seed = m.seed }),
))
means_flag flag.Folded t file s r e m = if_some s.folded None (Some (record s { folded = true })) r e (λ is bad. absurd (none-some r bad)) (λ free same. (
  m.folded ∙ ap (λ b. if b then Some (codes "true") else None) free,
  subst (Means (put t (codes "folded") (codes "true")) file) (same_Some (record s { folded = true }) r same)
      (record { file = m.file; trace = m.trace; folded = refl; budget = m.budget; size = m.size; order = m.order; seed = m.seed }),
))

number_is : (least most : ℕ) (w : CommandWord) (n : ℕ) → IsNumber least most w n → number_written w ≡ Some n
number_is least most w n h = number_read w h.0 h.1 ∙ ap Some h.2

-- an option with a value sets what wasn't set
abbrev SetsOnce : Valued → CommandWord → Setting → Type 0
SetsOnce o v x = (t : Text → Option Text) (file : Option CommandWord) (s r : Settings) → with_setting s x ≡ Some r → Means t file s
    → (t (option_id o) ≡ None) × Means (put t (option_id o) v) file r

option_met : (option v : CommandWord) (x : Setting) → Sets option v x → (o : Valued) × (option ≡ option_word o) × SetsOnce o v x
option_met option v (set.Flag f) h = absurd h
option_met option v (set.Budget n) h = (
  valued.Budget,
  h.0,
  λ t file s r e m.
      if_some (is_some s.budget) None (Some (record s { budget = Some n })) r e (λ is bad. absurd (none-some r bad)) (λ free same. (
        is_none (t (codes "budget")) (m.budget.1 ∙ free),
        subst (Means (put t (codes "budget") v) file) (same_Some (record s { budget = Some n }) r same)
            (record { file = m.file; trace = m.trace; folded = m.folded; budget = (number_is 0 9223372036854775807 v n h.1, refl); size = m.size; order = m.order; seed = m.seed }),
      )),
)
option_met option v (set.Size n) h = (
  valued.Size,
  h.0,
  λ t file s r e m.
      if_some (is_some s.size) None (Some (record s { size = Some n })) r e (λ is bad. absurd (none-some r bad)) (λ free same. (
        is_none (t (codes "size")) (m.size.1 ∙ free),
        subst (Means (put t (codes "size") v) file) (same_Some (record s { size = Some n }) r same)
            (record { file = m.file; trace = m.trace; folded = m.folded; budget = m.budget; size = (number_is 1 4294967295 v n h.1, refl); order = m.order; seed = m.seed }),
      )),
)
option_met option v (set.Order kind) h = (
  valued.Order,
  h.0,
  λ t file s r e m.
      if_some (is_some s.order) None (Some (record s { order = Some kind })) r e (λ is bad. absurd (none-some r bad)) (λ free same. (
        is_none (t (codes "order")) (m.order.1 ∙ free),
        subst (Means (put t (codes "order") v) file) (same_Some (record s { order = Some kind }) r same)
            (record { file = m.file; trace = m.trace; folded = m.folded; budget = m.budget; size = m.size; order = (ap order_named h.1 ∙ order_read kind, refl); seed = m.seed }),
      )),
)
option_met option v (set.Seed n) h = (
  valued.Seed,
  h.0,
  λ t file s r e m.
      if_some (is_some s.seed) None (Some (record s { seed = Some n })) r e (λ is bad. absurd (none-some r bad)) (λ free same. (
        is_none (t (codes "seed")) (m.seed.1 ∙ free),
        subst (Means (put t (codes "seed") v) file) (same_Some (record s { seed = Some n }) r same)
            (record { file = m.file; trace = m.trace; folded = m.folded; budget = m.budget; size = m.size; order = m.order; seed = (number_is 0 9223372036854775807 v n h.1, refl) }),
      )),
)

-- a value of an option doesn't begin with a hyphen
numeral_plain : (w : CommandWord) → IsNumeral 10 w → IsFileName w
numeral_plain [] h = absurd (omega (arith, h.0))
numeral_plain (b ∷ w) h = λ e. let r = digit_from_value b h.1.0 in omega (arith, e, r.0)

value_plain : (option v : CommandWord) (x : Setting) → Sets option v x → IsFileName v
value_plain option v (set.Flag f) h = absurd h
value_plain option v (set.Budget n) h = numeral_plain v h.1.0
value_plain option v (set.Size n) h = numeral_plain v h.1.0
value_plain option v (set.Order name.First) h = subst IsFileName (sym h.1) (λ e. omega (arith, e))
value_plain option v (set.Order name.Turn) h = subst IsFileName (sym h.1) (λ e. omega (arith, e))
value_plain option v (set.Order name.Seed) h = subst IsFileName (sym h.1) (λ e. omega (arith, e))
value_plain option v (set.Seed n) h = numeral_plain v h.1.0

-- ---- the walk over words

-- the walk over the words passes, and ends with these rows when what waits is used
record Goes (w : Walk) (words : List CommandWord) (rows : List Row) : Type 0 where
  pub pending : Option (Text × List Text)
  pub before : List Row
  pub position : ℕ
  pub end : fold (walked run_rules []) w words ≡ between pending before position
  pub stands : Stands pending before rows
  pub passed : walk_passes run_shape [] w words ≡ true

-- and the rows tell a file and settings
record Reaches (w : Walk) (words : List CommandWord) (file : Option CommandWord) (s : Settings) : Type 0 where
  pub rows : List Row
  pub texts : Text → Option Text
  pub goes : Goes w words rows
  pub looks : Looks rows texts
  pub means : Means texts file s

goes_nothing : (p : Option (Text × List Text)) (before : List Row) (n : ℕ) (rows : List Row) → Stands p before rows → Goes (between p before n) [] rows
unfolding walk_passes
goes_nothing p before n rows stands = record { pending = p; before = before; position = n; end = refl; stands = stands; passed = refl }

goes_on : (w v : Walk) (word : CommandWord) (words : List CommandWord) (rows : List Row) → walked run_rules [] w word ≡ v → passes w word ≡ true → Goes v words rows → Goes w (word ∷ words) rows
unfolding walk_passes
goes_on w v word words rows e f g = record {
  pending = g.pending;
  before = g.before;
  position = g.position;
  end = ap (λ u. fold (walked run_rules []) u words) e ∙ g.end;
  stands = g.stands;
  passed = and_from (passes w word) (walk_passes run_shape [] (walked run_rules [] w word) words) f (ap (λ u. walk_passes run_shape [] u words) e ∙ g.passed);
}

reaches_on : (w v : Walk) (word : CommandWord) (words : List CommandWord) (file : Option CommandWord) (s : Settings) → walked run_rules [] w word ≡ v → passes w word ≡ true
    → Reaches v words file s → Reaches w (word ∷ words) file s
reaches_on w v word words file s e f r = record { rows = r.rows; texts = r.texts; goes = goes_on w v word words r.rows e f r.goes; looks = r.looks; means = r.means }

-- where the next word without a hyphen goes
abbrev position_of : Option CommandWord → ℕ
position_of None = 1
position_of (Some file) = 2

file_goes : (w : CommandWord) (p : Option (Text × List Text)) (rows : List Row) → IsFileName w
    → walked run_rules [] (between p rows 1) w ≡ between (Some (codes "file", w ∷ [])) (settled_rows run_rules p rows) 2
file_goes [] p rows h = absurd h
file_goes (b ∷ w) p rows h = file_walked b w p rows (not_same b 45 h)

file_goes_on : (w : CommandWord) (p : Option (Text × List Text)) (rows : List Row) → IsFileName w → settle_passes run_rules false (held p rows) ≡ true → passes (between p rows 1) w ≡ true
file_goes_on [] p rows h e = absurd h
file_goes_on (b ∷ w) p rows h e = file_passes b w p rows (not_same b 45 h) e

value_goes : (o : Valued) (w : CommandWord) (p : Option (Text × List Text)) (rows : List Row) (n : ℕ) → IsFileName w
    → walked run_rules [] (named p rows n o) w ≡ between (Some (option_id o, w ∷ [])) (settled_rows run_rules p rows) n
value_goes o [] p rows n h = absurd h
value_goes o (b ∷ w) p rows n h = value_walked o b w p rows n (not_same b 45 h)

value_goes_on : (o : Valued) (w : CommandWord) (p : Option (Text × List Text)) (rows : List Row) (n : ℕ) → IsFileName w → passes (named p rows n o) w ≡ true
value_goes_on o [] p rows n h = absurd h
value_goes_on o (b ∷ w) p rows n h = value_word_passes o b w p rows n (not_same b 45 h)

-- words of a file and settings are walked to rows that tell them
all_walked : {words files : List CommandWord} {settings : List Setting} → AreFilesAndSettings words files settings → (f g : Option CommandWord) (s u : Settings)
    → (p : Option (Text × List Text)) (before rows : List Row) (t : Text → Option Text) → Stands p before rows → Looks rows t → Means t f s
    → option_to_list f ++ files ≡ option_to_list g → settings_all s settings ≡ Some u → Reaches (between p before (position_of f)) words g u
all_walked nothing f g s u p before rows t stands looks means e k = record {
  rows = rows;
  texts = t;
  goes = goes_nothing p before (position_of f) rows stands;
  looks = looks;
  means = subst (λ o. Means t o u) (list_option f g e) (subst (Means t f) (same_Some s u k) means);
}
all_walked (a_file {file = w} {words = words} {files = files} plain more) f g s u p before rows t stands looks means e k =
    let free = front_empty f g w files e in
    let none : t (codes "file") ≡ None = means.file ∙ free in
    let fresh = no_row rows t (codes "file") looks none in
    reaches_on (between p before (position_of f)) (between (Some (codes "file", w ∷ [])) rows 2) w words g u
    (ap (λ o. walked run_rules [] (between p before (position_of o)) w) free ∙ file_goes w p before plain ∙ ap (λ rs. between (Some (codes "file", w ∷ [])) rs 2) stands.settled)
    (ap (λ o. passes (between p before (position_of o)) w) free ∙ file_goes_on w p before plain stands.settle)
    (all_walked more (Some w) g s u (Some (codes "file", w ∷ [])) rows (rows ++ (given (codes "file") w ∷ [])) (put t (codes "file") w)
    (stands_file w rows fresh) (looks_more rows t (codes "file") w looks none) (means_file t w s (subst (λ o. Means t o s) free means))
    (ap (λ o. option_to_list o ++ (w ∷ files)) (sym free) ∙ e) k)
all_walked (a_flag {option = w} x {words = words} {settings = settings} is more) f g s u p before rows t stands looks means e k =
    option_and_then_some (λ r. settings_all r settings) (with_setting s (set.Flag x)) u k (λ r isset rest.
    let m = means_flag x t f s r isset means in
    let fresh = no_row rows t (flag_id x) looks m.0 in
    let after = rows ++ (given (flag_id x) (codes "true") ∷ []) in
    reaches_on (between p before (position_of f)) (between None after (position_of f)) w words g u
    (ap (walked run_rules [] (between p before (position_of f))) is ∙ flag_walked x p before (position_of f)
    ∙ ap (λ rs. between None (used_once (flag_id x) (codes "true") rs) (position_of f)) stands.settled
    ∙ ap (λ rs. between None rs (position_of f)) (used_new (flag_id x) (codes "true") rows fresh))
    (ap (passes (between p before (position_of f))) is ∙ flag_passes x p before (position_of f) stands.settle (ap (has_row (flag_id x)) stands.settled ∙ fresh))
    (all_walked more f g r u None after after (put t (flag_id x) (codes "true")) (stands_done after)
    (looks_more rows t (flag_id x) (codes "true") looks m.0) m.1 e rest))
all_walked (two_words {option = w} {value = v} {words = words} {setting = x} {settings = settings} sets more) f g s u p before rows t stands looks means e k =
    option_and_then_some (λ r. settings_all r settings) (with_setting s x) u k (λ r isset rest.
    let o = option_met w v x sets in
    let m = o.2 t f s r isset means in
    let fresh = no_row rows t (option_id o.0) looks m.0 in
    let n = position_of f in
    reaches_on (between p before n) (named p before n o.0) w (v ∷ words) g u
    (ap (walked run_rules [] (between p before n)) o.1 ∙ name_walked o.0 p before n)
    (ap (passes (between p before n)) o.1 ∙ name_passes o.0 p before n stands.settle)
    (reaches_on (named p before n o.0) (between (Some (option_id o.0, v ∷ [])) rows n) v words g u
    (value_goes o.0 v p before n (value_plain w v x sets) ∙ ap (λ rs. between (Some (option_id o.0, v ∷ [])) rs n) stands.settled)
    (value_goes_on o.0 v p before n (value_plain w v x sets))
    (all_walked more f g r u (Some (option_id o.0, v ∷ [])) rows (rows ++ (given (option_id o.0) v ∷ [])) (put t (option_id o.0) v)
    (stands_option o.0 v rows fresh) (looks_more rows t (option_id o.0) v looks m.0) m.1 e rest)))
all_walked (one_word {word = w} option v {words = words} {setting = x} {settings = settings} cut sets more) f g s u p before rows t stands looks means e k =
    option_and_then_some (λ r. settings_all r settings) (with_setting s x) u k (λ r isset rest.
    let o = option_met option v x sets in
    let m = o.2 t f s r isset means in
    let fresh = no_row rows t (option_id o.0) looks m.0 in
    let n = position_of f in
    let whole : w ≡ option_word o.0 ++ (61 ∷ v) = cut ∙ ap (λ a. a ++ (61 ∷ v)) o.1 in
    let after = rows ++ (given (option_id o.0) v ∷ []) in
    reaches_on (between p before n) (between None after n) w words g u
    (ap (walked run_rules [] (between p before n)) whole ∙ both_walked o.0 v p before n
    ∙ ap (λ rs. between None (used_once (option_id o.0) v rs) n) stands.settled
    ∙ ap (λ rs. between None rs n) (used_new (option_id o.0) v rows fresh))
    (ap (passes (between p before n)) whole ∙ both_passes o.0 v p before n stands.settle (ap (has_row (option_id o.0)) stands.settled ∙ fresh))
    (all_walked more f g r u None after after (put t (option_id o.0) v) (stands_done after) (looks_more rows t (option_id o.0) v looks m.0) m.1 e rest))

-- ---- the end of the walk

-- the rows with the default of a flag that isn't given
abbrev flagged : Text → List Row → List Row
flagged id rows = if has_row id rows then rows else with_values id AsWritten DefaultValue (codes "false" ∷ []) rows

-- the rows with the defaults of both flags
abbrev with_flags : List Row → List Row
with_flags rows = flagged (codes "folded") (flagged (codes "trace") rows)

-- an option without a default changes nothing
abbrev unchanged : Text → List Row → List Row
unchanged id rows = if has_row id rows then rows else rows

unchanged_is : (id : Text) (rows : List Row) → unchanged id rows ≡ rows
unchanged_is id rows = go (has_row id rows)
  where
    go : (b : Bool) → (if b then rows else rows) ≡ rows
    go true = refl
    go false = refl

four_unchanged : (a b c d : Text) (rows : List Row) → unchanged d (unchanged c (unchanged b (unchanged a rows))) ≡ rows
four_unchanged a b c d rows = unchanged_is d (unchanged c (unchanged b (unchanged a rows))) ∙ unchanged_is c (unchanged b (unchanged a rows)) ∙ unchanged_is b (unchanged a rows) ∙ unchanged_is a rows

defaults_are : (rows : List Row) → fold with_default rows run_rules ≡ with_flags rows
defaults_are rows = four_unchanged (codes "budget") (codes "size") (codes "order") (codes "seed") (with_flags (unchanged (codes "file") rows)) ∙ ap with_flags (unchanged_is (codes "file") rows)

abbrev default_row : Text → Row
default_row id = record { id = id; values = codes "false" ∷ []; count = None; source = Some DefaultValue; reading = AsWritten }

-- what the rows tell at the end, where a flag is given or not
record Ends (id : Text) (b : Bool) (rows : List Row) : Type 0 where
  pub flag : one_of id (flagged id rows) ≡ Some (bool_text b)
  pub others : (other : Text) → bytes_eq id other ≡ false → find (has_id other) (flagged id rows) ≡ find (has_id other) rows

ends : (id : Text) (b : Bool) (rows : List Row) → find (has_id id) rows ≡ option_map (given id) (if b then Some (codes "true") else None) → Ends id b rows
ends id true rows found =
    let there : has_row id rows ≡ true = has_row_find id rows ∙ ap is_some found in
    let same : flagged id rows ≡ rows = ap (λ b. if b then rows else with_values id AsWritten DefaultValue (codes "false" ∷ []) rows) there in
    record {
      flag = ap (one_of id) same ∙ ap (option_and_then row_text) found;
      others = λ other no. ap (find (has_id other)) same;
    }
ends id false rows none =
    let free : has_row id rows ≡ false = has_row_find id rows ∙ ap is_some none in
    let same : flagged id rows ≡ rows ++ (default_row id ∷ []) =
    ap (λ b. if b then rows else with_values id AsWritten DefaultValue (codes "false" ∷ []) rows) free
    ∙ at_new_row id (more_values DefaultValue (codes "false" ∷ [])) (default_row id ∷ []) rows free in
    let mine : bytes_eq id id ≡ true = (bytes_eq-Decides id id).1 refl in
    record {
      flag = ap (one_of id) same ∙ ap (option_and_then row_text) (find-append (has_id id) rows (default_row id ∷ [])
          ∙ ap (λ b. option_or (find (has_id id) rows) (cond b (Some (default_row id)) None)) mine ∙ ap (λ o. option_or o (Some (default_row id))) none);
      others = λ other no. ap (find (has_id other)) same ∙ find-append (has_id other) rows (default_row id ∷ [])
          ∙ ap (λ b. option_or (find (has_id other) rows) (cond b (Some (default_row id)) None)) no ∙ or_none (find (has_id other) rows);
    }

-- what the rows tell at the end of both flags
record BothEnd (s : Settings) (rows : List Row) : Type 0 where
  pub trace : one_of (codes "trace") (with_flags rows) ≡ Some (bool_text s.trace)
  pub folded : one_of (codes "folded") (with_flags rows) ≡ Some (bool_text s.folded)
  pub others : (id : Text) → bytes_eq (codes "trace") id ≡ false → bytes_eq (codes "folded") id ≡ false → find (has_id id) (with_flags rows) ≡ find (has_id id) rows

both_end : (f : Option CommandWord) (s : Settings) (rows : List Row) (t : Text → Option Text) → Looks rows t → Means t f s → BothEnd s rows
both_end f s rows t looks m =
    let a = ends (codes "trace") s.trace rows (looks (codes "trace") ∙ ap (option_map (given (codes "trace"))) m.trace) in
    let b = ends (codes "folded") s.folded (flagged (codes "trace") rows) (a.others (codes "folded") refl ∙ looks (codes "folded") ∙ ap (option_map (given (codes "folded"))) m.folded) in
    record {
      trace = ap (option_and_then row_text) (b.others (codes "trace") refl) ∙ a.flag;
      folded = b.flag;
      others = λ id first second. b.others id second ∙ a.others id first;
    }

first_given : (id : Text) (o : Option Text) → option_and_then (λ (r : Row). slice_get r.values 0) (option_map (given id) o) ≡ o
first_given id None = refl
first_given id (Some v) = refl

first_told : (s : Settings) (rows : List Row) (t : Text → Option Text) (id : Text) → Looks rows t → BothEnd s rows → bytes_eq (codes "trace") id ≡ false → bytes_eq (codes "folded") id ≡ false
    → first_text id (with_flags rows) ≡ t id
first_told s rows t id looks e first second = ap (option_and_then (λ (r : Row). slice_get r.values 0)) (e.others id first second ∙ looks id) ∙ first_given id (t id)

-- what is read of a text is given, or the default
reads_or : {A : Type 0} (g : CommandWord → Option A) (o p : Option CommandWord) (a : Option A) (d v : A) → p ≡ o → Reads g o a → unwrap_or a d ≡ v → unwrap_or (option_and_then g p) d ≡ v
reads_or g o p a d v same reads is = ap (λ q. unwrap_or (option_and_then g q) d) same ∙ ap (λ q. unwrap_or q d) reads.0 ∙ is

-- the matches at the end are the rows with the defaults
rows_are : (words : List CommandWord) (rows : List Row) → Goes (between None [] 1) words rows → rows_after run_rules [] words ≡ with_flags rows
rows_are words rows g = ap (λ (w : Walk). finished run_rules w.held) g.end ∙ ap (λ rs. fold with_default rs run_rules) g.stands.settled ∙ defaults_are rows

file_given : (file : CommandWord) (rows : List Row) (t : Text → Option Text) (s : Settings) → Looks rows t → BothEnd s rows → t (codes "file") ≡ Some file → is_given (codes "file") (with_flags rows) ≡ true
file_given file rows t s looks e is = ap (λ o. option_map_or (λ (r : Row). explicit_source r.source) o false) (e.others (codes "file") refl refl ∙ looks (codes "file") ∙ ap (option_map (given (codes "file"))) is)

level_taken : (words : List CommandWord) (rows : List Row) → Goes (between None [] 1) words rows → is_given (codes "file") (with_flags rows) ≡ true
    → level_passes run_shape [] nothing_held words false ≡ true
level_taken words rows g file =
    let end = (fold (walked run_rules []) (between None [] 1) words).held in
    and_from (walk_passes run_shape [] (between None [] 1) words) (settle_passes run_rules false end && (list_all default_passes run_rules && is_valid run_shape (finished run_rules end) false)) g.passed
    (and_from (settle_passes run_rules false end) (list_all default_passes run_rules && is_valid run_shape (finished run_rules end) false)
    (ap (λ (w : Walk). settle_passes run_rules false w.held) g.end ∙ g.stands.settle)
    (ap (λ rs. list_all default_passes run_rules && is_valid run_shape rs false) (rows_are words rows g) ∙ ap (λ b. b && true) file))

-- words that ask for a run are taken, and the matches tell the run
run_taken : (words : List CommandWord) (run : Run) → AsksRun words run → (level_passes run_shape [] nothing_held words false ≡ true) × Tells (rows_after run_rules [] words) run
run_taken words run asked =
    let a = given_of asked in
    let s = a.settings in
    let u = firsts s in
    let k = all_walked a.spelled None (Some run.file) no_settings u None [] [] (λ _. None) (stands_done []) (λ id. refl) means_nothing refl
    (all_read no_settings u s (firsts_collected s (each_once a))) in
    let e = both_end (Some run.file) u k.rows k.texts k.looks k.means in
    let seed = reads_or number_written (k.texts (codes "seed")) (first_text (codes "seed") (with_flags k.rows)) u.seed 0 a.seed
    (first_told u k.rows k.texts (codes "seed") k.looks e refl refl) k.means.seed (only_value 0 (filter_map seed_of s) a.seed a.seeded) in
    let order = reads_or order_named (k.texts (codes "order")) (first_text (codes "order") (with_flags k.rows)) u.order name.First a.order_name
    (first_told u k.rows k.texts (codes "order") k.looks e refl refl) k.means.order (only_value name.First (filter_map order_name_of s) a.order_name a.named) in (
      level_taken words k.rows k.goes (file_given run.file k.rows k.texts u k.looks e k.means.file),
      subst (λ rows. Tells rows run) (sym (rows_are words k.rows k.goes)) (record {
        file = first_told u k.rows k.texts (codes "file") k.looks e refl refl ∙ k.means.file;
        trace = e.trace ∙ ap (λ b. Some (bool_text b)) (trace_value s run.trace a.trace);
        folded = e.folded ∙ ap (λ b. Some (bool_text b)) (folded_value s run.folded a.folded);
        budget = reads_or number_written (k.texts (codes "budget")) (first_text (codes "budget") (with_flags k.rows)) u.budget 1000000 run.budget
            (first_told u k.rows k.texts (codes "budget") k.looks e refl refl) k.means.budget (only_value 1000000 (filter_map budget_of s) run.budget a.budget);
        size = reads_or number_written (k.texts (codes "size")) (first_text (codes "size") (with_flags k.rows)) u.size 16777216 run.size
            (first_told u k.rows k.texts (codes "size") k.looks e refl refl) k.means.size (only_value 16777216 (filter_map size_of s) run.size a.size);
        order = (λ i. ordered_by (order i) (seed i)) ∙ sym a.order;
      }),
    )

-- ---- the words of `compile` and `demo`

-- the commands behind which one word stands
data OneWord : Type 0 where
  of_compile : OneWord
  of_demo : OneWord

abbrev one_line : OneWord → App
one_line of_compile = compile_line
one_line of_demo = demo_line

abbrev one_id : OneWord → Text
one_id of_compile = codes "file"
one_id of_demo = codes "number"

abbrev one_shape : OneWord → Shape
one_shape o = built_line (one_line o).top

abbrev one_rules : OneWord → List Rule
one_rules o = (one_shape o).rules

one_walked : (o : OneWord) (b : ℕ) (bs : Text) → (b == 45) ≡ false → walk (one_rules o) [] nothing_held ((b ∷ bs) ∷ []) ≡ between (Some (one_id o, (b ∷ bs) ∷ [])) [] 2
unfolding walked
one_walked of_compile b bs e = ap (after_met (one_rules of_compile) (between None [] 1) (b ∷ bs)) (plain_met (one_rules of_compile) idle b bs 1 (held None []) e refl)
one_walked of_demo b bs e = ap (after_met (one_rules of_demo) (between None [] 1) (b ∷ bs)) (plain_met (one_rules of_demo) idle b bs 1 (held None []) e refl)

-- what the one word is at the walk
abbrev one_met : OneWord → ℕ → Text → Bool
one_met o b bs = step_of_met (one_shape o) 1 (word_met (one_rules o) [] false idle 1 (b ∷ bs) (held None []))

one_steps : (o : OneWord) (b : ℕ) (bs : Text) → (b == 45) ≡ false → one_met o b bs ≡ true
one_steps of_compile b bs e = ap (step_of_met (one_shape of_compile) 1) (plain_met (one_rules of_compile) idle b bs 1 (held None []) e refl)
one_steps of_demo b bs e = ap (step_of_met (one_shape of_demo) 1) (plain_met (one_rules of_demo) idle b bs 1 (held None []) e refl)

one_passes : (o : OneWord) (b : ℕ) (bs : Text) → (b == 45) ≡ false → walk_passes (one_shape o) [] (between None [] 1) ((b ∷ bs) ∷ []) ≡ true
unfolding walk_passes
one_passes o b bs e = and_from (turn_passes (one_shape o) [] (between None [] 1) (b ∷ bs)) true
    (and_first_true (word_passes (one_shape o) [] false idle (b ∷ bs) (held None [])) (one_met o b bs) (plain_passes (one_shape o) idle b bs (held None []) e refl) ∙ one_steps o b bs e) refl

-- what is asked behind the walk
abbrev after_walk : OneWord → Walk → Bool
after_walk o w = settle_passes (one_rules o) (one_shape o).args_override_self w.held && (list_all default_passes (one_rules o) && is_valid (one_shape o) (finished (one_rules o) w.held) false)

-- and met there
after_word : (o : OneWord) (word : CommandWord) → after_walk o (between (Some (one_id o, word ∷ [])) [] 2) ≡ true
after_word of_compile word = refl
after_word of_demo word = refl

first_word : (o : OneWord) (word : CommandWord) → first_text (one_id o) (finished (one_rules o) (between (Some (one_id o, word ∷ [])) [] 2).held) ≡ Some word
first_word of_compile word = refl
first_word of_demo word = refl

-- one word that doesn't begin with a hyphen is taken, and the matches tell it
one_taken : (o : OneWord) (word : CommandWord) → IsFileName word
    → (level_passes (one_shape o) [] nothing_held (word ∷ []) false ≡ true) × (first_text (one_id o) (rows_after (one_rules o) [] (word ∷ [])) ≡ Some word)
one_taken o [] h = absurd h
one_taken o (b ∷ bs) h =
    let e = not_same b 45 h in (
      and_from (walk_passes (one_shape o) [] (between None [] 1) ((b ∷ bs) ∷ [])) (after_walk o (walk (one_rules o) [] nothing_held ((b ∷ bs) ∷ [])))
          (one_passes o b bs e) (ap (after_walk o) (one_walked o b bs e) ∙ after_word o (b ∷ bs)),
      ap (λ (w : Walk). first_text (one_id o) (finished (one_rules o) w.held)) (one_walked o b bs e) ∙ first_word o (b ∷ bs),
    )

-- ---- the words of a command with a program and a second text

abbrev two_shape : PairKind → Shape
two_shape k = built_line (pair_line (pair_word k)).top

abbrev two_rules : PairKind → List Rule
two_rules k = (two_shape k).rules

-- the first of the two is pending
abbrev one_held : Text → Option (Text × List Text)
one_held w = Some (codes "first", w ∷ [])

-- between the two words, and behind both
abbrev between_two : Text → Walk
between_two w = between (one_held w) [] 2

abbrev behind_two : PairKind → Text → Text → Walk
behind_two k w v = between (Some (codes "last", v ∷ [])) (settled_rows (two_rules k) (one_held w) []) 3

first_of_two : (k : PairKind) (b : ℕ) (bs : Text) → (b == 45) ≡ false → walked (two_rules k) [] (between None [] 1) (b ∷ bs) ≡ between_two (b ∷ bs)
unfolding walked
first_of_two k b bs e = ap (after_met (two_rules k) (between None [] 1) (b ∷ bs)) (plain_met (two_rules k) idle b bs 1 (held None []) e refl)

last_of_two : (k : PairKind) (w : Text) (c : ℕ) (cs : Text) → (c == 45) ≡ false → walked (two_rules k) [] (between_two w) (c ∷ cs) ≡ behind_two k w (c ∷ cs)
unfolding walked
last_of_two k w c cs e = ap (after_met (two_rules k) (between_two w) (c ∷ cs)) (plain_met (two_rules k) idle c cs 2 (held (one_held w) []) e refl)

two_walked : (k : PairKind) (b : ℕ) (bs : Text) (c : ℕ) (cs : Text) → (b == 45) ≡ false → (c == 45) ≡ false
    → walk (two_rules k) [] nothing_held ((b ∷ bs) ∷ ((c ∷ cs) ∷ [])) ≡ behind_two k (b ∷ bs) (c ∷ cs)
two_walked k b bs c cs e f = ap (λ w. walked (two_rules k) [] w (c ∷ cs)) (first_of_two k b bs e) ∙ last_of_two k (b ∷ bs) c cs f

first_turn : (k : PairKind) (b : ℕ) (bs : Text) → (b == 45) ≡ false → turn_passes (two_shape k) [] (between None [] 1) (b ∷ bs) ≡ true
first_turn k b bs e =
    and_first_true (word_passes (two_shape k) [] false idle (b ∷ bs) (held None [])) (step_of_met (two_shape k) 1 (word_met (two_rules k) [] false idle 1 (b ∷ bs) (held None [])))
    (plain_passes (two_shape k) idle b bs (held None []) e refl)
    ∙ ap (step_of_met (two_shape k) 1) (plain_met (two_rules k) idle b bs 1 (held None []) e refl)

last_turn : (k : PairKind) (w : Text) (c : ℕ) (cs : Text) → (c == 45) ≡ false → turn_passes (two_shape k) [] (between_two w) (c ∷ cs) ≡ true
last_turn k w c cs e =
    and_first_true (word_passes (two_shape k) [] false idle (c ∷ cs) (held (one_held w) [])) (step_of_met (two_shape k) 2 (word_met (two_rules k) [] false idle 2 (c ∷ cs) (held (one_held w) [])))
    (plain_passes (two_shape k) idle c cs (held (one_held w) []) e refl)
    ∙ ap (step_of_met (two_shape k) 2) (plain_met (two_rules k) idle c cs 2 (held (one_held w) []) e refl)

two_passes : (k : PairKind) (b : ℕ) (bs : Text) (c : ℕ) (cs : Text) → (b == 45) ≡ false → (c == 45) ≡ false
    → walk_passes (two_shape k) [] (between None [] 1) ((b ∷ bs) ∷ ((c ∷ cs) ∷ [])) ≡ true
unfolding walk_passes
two_passes k b bs c cs e f =
    and_from (turn_passes (two_shape k) [] (between None [] 1) (b ∷ bs)) (walk_passes (two_shape k) [] (walked (two_rules k) [] (between None [] 1) (b ∷ bs)) ((c ∷ cs) ∷ [])) (first_turn k b bs e)
    (ap (λ w. walk_passes (two_shape k) [] w ((c ∷ cs) ∷ [])) (first_of_two k b bs e)
    ∙ and_from (turn_passes (two_shape k) [] (between_two (b ∷ bs)) (c ∷ cs)) true (last_turn k (b ∷ bs) c cs f) refl)

-- what is asked behind the walk
abbrev after_two : PairKind → Walk → Bool
after_two k w = settle_passes (two_rules k) (two_shape k).args_override_self w.held && (list_all default_passes (two_rules k) && is_valid (two_shape k) (finished (two_rules k) w.held) false)

-- and met there
after_both : (k : PairKind) (w v : Text) → after_two k (behind_two k w v) ≡ true
after_both k w v = refl

first_given_of_two : (k : PairKind) (w v : Text) → first_text (codes "first") (finished (two_rules k) (behind_two k w v).held) ≡ Some w
first_given_of_two k w v = refl

last_given_of_two : (k : PairKind) (w v : Text) → first_text (codes "last") (finished (two_rules k) (behind_two k w v).held) ≡ Some v
last_given_of_two k w v = refl

-- two words that don't begin with a hyphen are taken, and the matches tell both
two_taken : (k : PairKind) (w v : CommandWord) → IsFileName w → IsFileName v
    → (level_passes (two_shape k) [] nothing_held (w ∷ (v ∷ [])) false ≡ true) × (first_text (codes "first") (rows_after (two_rules k) [] (w ∷ (v ∷ []))) ≡ Some w)
    × (first_text (codes "last") (rows_after (two_rules k) [] (w ∷ (v ∷ []))) ≡ Some v)
two_taken k [] v h g = absurd h
two_taken k (b ∷ bs) [] h g = absurd g
two_taken k (b ∷ bs) (c ∷ cs) h g =
    let e = not_same b 45 h in
    let f = not_same c 45 g in
    let walks = two_walked k b bs c cs e f in (
      and_from (walk_passes (two_shape k) [] (between None [] 1) ((b ∷ bs) ∷ ((c ∷ cs) ∷ []))) (after_two k (walk (two_rules k) [] nothing_held ((b ∷ bs) ∷ ((c ∷ cs) ∷ []))))
          (two_passes k b bs c cs e f) (ap (after_two k) walks ∙ after_both k (b ∷ bs) (c ∷ cs)),
      ap (λ (w : Walk). first_text (codes "first") (finished (two_rules k) w.held)) walks ∙ first_given_of_two k (b ∷ bs) (c ∷ cs),
      ap (λ (w : Walk). first_text (codes "last") (finished (two_rules k) w.held)) walks ∙ last_given_of_two k (b ∷ bs) (c ∷ cs),
    )

-- ---- the first word

abbrev top : App
top = built whole_line

-- behind the name of a command the words are kept for it
kept_words : (c : List Rule) (names : Names) (w : Walk) (n : Text) (front words : List CommandWord)
    → fold (walked c names) (record w { stopped = Some (n, front) }) words ≡ record w { stopped = Some (n, front ++ words) }
unfolding walked
kept_words c names w n front [] = ap (λ ws. record w { stopped = Some (n, ws) }) (sym (append-nil front))
kept_words c names w n front (word ∷ words) = kept_words c names w n (front ++ (word ∷ [])) words ∙ ap (λ ws. record w { stopped = Some (n, ws) }) (append_assoc front (word ∷ []) words)

kept_passes : (s : Shape) (names : Names) (w : Walk) (n : Text) (front words : List CommandWord) → walk_passes s names (record w { stopped = Some (n, front) }) words ≡ true
unfolding walked walk_passes
kept_passes s names w n front [] = refl
kept_passes s names w n front (word ∷ words) = kept_passes s names w n (front ++ (word ∷ [])) words

-- the walk over a first word and those behind it
abbrev stopped_at : Text → List CommandWord → Walk
stopped_at n words = record (walk_from nothing_held) { stopped = Some (n, words) }

abbrev Stops : Text → Type 0
Stops n = (walked top.top.rules (names_of top) (walk_from nothing_held) n ≡ stopped_at n []) × (turn_passes top.top (names_of top) (walk_from nothing_held) n ≡ true)

run_stops : Stops (codes "run")
unfolding clap_on_literals
run_stops = (refl, refl)

compile_stops : Stops (codes "compile")
unfolding clap_on_literals
compile_stops = (refl, refl)

demo_stops : Stops (codes "demo")
unfolding clap_on_literals
demo_stops = (refl, refl)

pair_stops : (k : PairKind) → Stops (pair_word k)
unfolding clap_on_literals
pair_stops kind.Check = (refl, refl)
pair_stops kind.Debug = (refl, refl)
pair_stops kind.Exec = (refl, refl)
pair_stops kind.Bound = (refl, refl)

top_walked : (n : Text) (words : List CommandWord) → Stops n → walk top.top.rules (names_of top) nothing_held (n ∷ words) ≡ stopped_at n words
top_walked n words h = ap (λ w. fold (walked top.top.rules (names_of top)) w words) h.0 ∙ kept_words top.top.rules (names_of top) (walk_from nothing_held) n [] words

top_passes : (n : Text) (words : List CommandWord) → Stops n → walk_passes top.top (names_of top) (walk_from nothing_held) (n ∷ words) ≡ true
unfolding walk_passes
top_passes n words h = and_from (turn_passes top.top (names_of top) (walk_from nothing_held) n) (walk_passes top.top (names_of top) (walked top.top.rules (names_of top) (walk_from nothing_held) n) words)
    h.1 (ap (λ w. walk_passes top.top (names_of top) w words) h.0 ∙ kept_passes top.top (names_of top) (walk_from nothing_held) n [] words)

abbrev top_after : Walk → Bool
top_after w = settle_passes top.top.rules false w.held && (list_all default_passes top.top.rules && is_valid top.top (finished top.top.rules w.held) true)

-- the words are taken where the command's own are
top_takes : (n : Text) (words : List CommandWord) → Stops n → is_some (entered top (Some (n, words))) ≡ true → entered_passes top (Some (n, words)) ≡ true → takes whole_line (n ∷ words) ≡ true
top_takes n words h found e =
    let w = walk top.top.rules (names_of top) nothing_held (n ∷ words) in
    and_from (is_simple whole_line) (entered_passes top w.stopped && level_passes top.top (names_of top) nothing_held (n ∷ words) (is_some (entered top w.stopped))) refl
    (and_from (entered_passes top w.stopped) (level_passes top.top (names_of top) nothing_held (n ∷ words) (is_some (entered top w.stopped)))
    (ap (λ (v : Walk). entered_passes top v.stopped) (top_walked n words h) ∙ e)
    (ap (λ (v : Walk). level_passes top.top (names_of top) nothing_held (n ∷ words) (is_some (entered top v.stopped))) (top_walked n words h)
    ∙ ap (level_passes top.top (names_of top) nothing_held (n ∷ words)) found
    ∙ and_from (walk_passes top.top (names_of top) (walk_from nothing_held) (n ∷ words)) (top_after w) (top_passes n words h) (ap top_after (top_walked n words h))))

-- the line of each command with a program and a second text is among those of the program
pair_entered : (k : PairKind) (words : List CommandWord) → (is_some (entered top (Some (pair_word k, words))) ≡ true)
    × (level_passes (two_shape k) [] nothing_held words false ≡ true → entered_passes top (Some (pair_word k, words)) ≡ true)
    × (entered top (Some (pair_word k, words)) ≡ Some (pair_word k, rows_after (two_rules k) [] words))
pair_entered kind.Check words = (refl, (λ e. e), refl)
pair_entered kind.Debug words = (refl, (λ e. e), refl)
pair_entered kind.Exec words = (refl, (λ e. e), refl)
pair_entered kind.Bound words = (refl, (λ e. e), refl)

pair_taken : (k : PairKind) (first last : CommandWord) → IsFileName first → IsFileName last → (pair : Pair) → k ≡ pair.kind → first ≡ standing_first pair.kind pair.file pair.second
    → last ≡ standing_last pair.kind pair.file pair.second
    → (takes whole_line (pair_word k ∷ (first ∷ (last ∷ []))) ≡ true) × FoundIsRequest (subcommand_of whole_line (pair_word k ∷ (first ∷ (last ∷ [])))) (to_pair pair)
pair_taken k first last f l pair is front back =
    let t = two_taken k first last f l in
    let words : List CommandWord = first ∷ (last ∷ []) in
    let n = pair_entered k words in (
      top_takes (pair_word k) words (pair_stops k) n.0 (n.1 t.0),
      subst (λ (v : Walk). FoundIsRequest (entered top v.stopped) (to_pair pair)) (sym (top_walked (pair_word k) words (pair_stops k)))
          (subst (λ o. FoundIsRequest o (to_pair pair)) (sym n.2) (ap pair_word is, t.1 ∙ ap Some front, t.2 ∙ ap Some back)),
    )

-- what words ask for is taken, and found
pub asked_taken : (words : List CommandWord) (r : Request) → TextsAsk words r → (takes whole_line words ≡ true) × FoundIsRequest (subcommand_of whole_line words) r
asked_taken [] r h = absurd h
asked_taken (w ∷ words) (to_run run) h =
    let t = run_taken words run h.1 in
    let P : CommandWord → Type 0 = λ v. (takes whole_line (v ∷ words) ≡ true) × FoundIsRequest (subcommand_of whole_line (v ∷ words)) (to_run run) in
    subst P (sym h.0) (
      top_takes (codes "run") words run_stops refl t.0,
      subst (λ (v : Walk). FoundIsRequest (entered top v.stopped) (to_run run)) (sym (top_walked (codes "run") words run_stops)) (refl, t.1),
    )
asked_taken (w ∷ words) (to_compile file) h =
    let t = one_taken of_compile file h.1.1 in
    let P : CommandWord → List CommandWord → Type 0 = λ v ws. (takes whole_line (v ∷ ws) ≡ true) × FoundIsRequest (subcommand_of whole_line (v ∷ ws)) (to_compile file) in
    subst (λ v. P v words) (sym h.0) (subst (P (codes "compile")) (sym h.1.0) (
      top_takes (codes "compile") (file ∷ []) compile_stops refl t.0,
      subst (λ (v : Walk). FoundIsRequest (entered top v.stopped) (to_compile file)) (sym (top_walked (codes "compile") (file ∷ []) compile_stops)) (refl, t.1),
    ))
asked_taken (w ∷ words) (to_demo n) h =
    let word = h.1.0 in
    let is = h.1.2 in
    let t = one_taken of_demo word (numeral_plain word is.0) in
    let P : CommandWord → List CommandWord → Type 0 = λ v ws. (takes whole_line (v ∷ ws) ≡ true) × FoundIsRequest (subcommand_of whole_line (v ∷ ws)) (to_demo n) in
    subst (λ v. P v words) (sym h.0) (subst (P (codes "demo")) (sym h.1.1) (
      top_takes (codes "demo") (word ∷ []) demo_stops refl t.0,
      subst (λ (v : Walk). FoundIsRequest (entered top v.stopped) (to_demo n)) (sym (top_walked (codes "demo") (word ∷ []) demo_stops))
          (refl, ap (option_and_then number_written) t.1 ∙ number_is 1 100000 word n is),
    ))
asked_taken (w ∷ words) (to_pair pair) h =
    let k = pair.kind in
    let first = standing_first k pair.file pair.second in
    let last = standing_last k pair.file pair.second in
    let names = standing_names k pair.file pair.second h.1.1 h.1.2 in
    let P : CommandWord → List CommandWord → Type 0 = λ v ws. (takes whole_line (v ∷ ws) ≡ true) × FoundIsRequest (subcommand_of whole_line (v ∷ ws)) (to_pair pair) in
    subst (λ v. P v words) (sym h.0) (subst (P (pair_word k)) (sym h.1.0) (pair_taken k first last names.0 names.1 pair refl refl refl))
