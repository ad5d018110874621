-- That the words are read exactly as they are of the form.
use Rattle.std.specs.declared.string.String.{String}
use Rattle.std.specs.declared.alloc.Global.{Global}
use Rattle.std.proofs.Common.{◌≤◌, ◌≡◌, ℕ, ◌+◌, ◌==◌, ◌&&◌, Bool, true, false, if◌then◌else◌, List, [], ◌∷◌, ◌++◌, length, take, drop, Option, Some, None, is_some, option_map, option_and_then, option_to_list, filter_map, bytes_eq, codes, inl, inr, refl, sym, ap, ◌∙◌, subst, arith}
use Rattle.std.specs.Prelude.{⊤, unwrap_or}
use Rattle.std.proofs.lemmas.Bool.{eq-eqb}
use Rattle.std.proofs.lemmas.List.{append-nil}
use Rattle.std.proofs.lemmas.Option.{none-some, same_Some, option_and_then_some}
use Rattle.lmn_app_words.specs.declared.setting.Setting.{Setting}
use Rattle.lmn_app_words.specs.declared.setting.Setting.TheVariants as set
use Rattle.lmn_app_words.specs.declared.setting.Settings.{Settings}
use Rattle.lmn_app_words.specs.declared.setting.Flag.{Flag}
use Rattle.lmn_app_words.specs.declared.setting.Flag.TheVariants as flag
use Rattle.lmn_app_words.specs.declared.setting.Valued.{Valued}
use Rattle.lmn_app_words.specs.declared.setting.Valued.TheVariants as valued
use Rattle.lmn_app_words.specs.declared.setting.OrderName.TheVariants as name
use Rattle.lmn_app_words.specs.declared.command.PairKind.{PairKind}
use Rattle.lmn_app_words.specs.declared.command.PairKind.TheVariants as kind
use Rattle.lmn_app_words.specs.Forms.{texts_of, InForm, IsInRanges, CommandWord, IsFileName, Sets, AreFilesAndSettings, nothing, a_file, a_flag, two_words, one_word, EachAtMostOnce, OnlyOr, ordered_by, Run, Pair, Request, to_run, to_compile, to_demo, to_pair, AsksRun, AsksCompile, AsksDemo, AsksPair, TextsAsk, IsForm, pair_word, standing_first, standing_last, flag_word, trace_of, folded_of, budget_of, size_of, order_name_of, seed_of}
use Rattle.lmn_app_words.specs.Hearing.{is_file_name, flag_named, option_named, setting_of, with_setting, Heard, no_settings, nothing_heard, hear_setting, hear_value, hear_file, equals_at, hear_option, hear_flag, hear_dashes, hear_word, hear_waiting, hear, hear_all, run_by, run_heard, run_read, file_read, demo_read, pair_named, pair_in_order, pair_read, pair_asked, request_read}
use Rattle.lmn_app_words.proofs.WordLemmas.{false_true, if_some, map_some, then_some, number_from_told, number_from_read, flag_told, option_word, option_told, setting_told, setting_read, file_told, file_read_is, cut_told, is_bytes}
use Rattle.lmn_app_words.proofs.Given.{RunGiven, given_of, asks_given}
use Rattle.lmn_app_words.proofs.SettingLemmas.{settings_all, is_none, list_option, front_empty, all_told, all_read, firsts, firsts_collected, at_most_one, only_value, value_only, flag_only, trace_value, folded_value}
use Rattle.lmn_base.proofs.Numbers.{unequal as not_same}
use Rattle.lmn_base.proofs.Truth.{and_true as both_true, bool_cases, if_no as if_false}

-- ---- what is read was spelled

-- the words, with the name of the option that waits before them
abbrev behind : Option Valued → List CommandWord → List CommandWord
behind None words = words
behind (Some o) words = option_word o ∷ words

-- The words spell files and settings that lead from one state to the other.
abbrev Leads : List CommandWord → Heard → Heard → Type 0
Leads words h u = (files : List CommandWord) × (settings : List Setting) × AreFilesAndSettings words files settings
    × (option_to_list h.file ++ files ≡ option_to_list u.file) × (settings_all h.settings settings ≡ Some u.settings)

leads_nowhere : (h : Heard) (o : Option Valued) → o ≡ None → Leads (behind o []) h h
leads_nowhere h o e = subst (λ p. Leads (behind p []) h h) (sym e) ([], [], nothing, append-nil (option_to_list h.file), refl)

-- one more setting before
abbrev LeadsBy : Setting → List CommandWord → Heard → Heard → Type 0
LeadsBy x words h u = (files : List CommandWord) × (settings : List Setting) × AreFilesAndSettings words files settings
    × (option_to_list h.file ++ files ≡ option_to_list u.file) × (settings_all h.settings (x ∷ settings) ≡ Some u.settings)

set_told : (x : Setting) (words : List CommandWord) (h v u : Heard) → hear_setting h x ≡ Some v → Leads (behind v.waiting words) v u → LeadsBy x words h u
set_told x words h v u e more = map_some (λ settings. record h { settings = settings; waiting = None }) (with_setting h.settings x) v e (λ s is same.
    let P : Heard → Type 0 = λ w. Leads (behind w.waiting words) w u in
    let k : P (record h { settings = s; waiting = None }) = subst P (sym same) more in
    (k.0, k.1, k.2, k.3, then_some (λ t. settings_all t k.1) (with_setting h.settings x) s (Some u.settings) is k.4))

value_told : (o : Valued) (value : CommandWord) (h v : Heard) → hear_value h o value ≡ Some v → (x : Setting) × Sets (option_word o) value x × (hear_setting h x ≡ Some v)
value_told o value h v e = option_and_then_some (hear_setting h) (setting_of o value) v e (λ x is heard. (x, setting_told o value x is, heard))

file_more : (w : CommandWord) (words : List CommandWord) (h v u : Heard) → h.waiting ≡ None → is_file_name w ≡ true → hear_file h w ≡ Some v
    → Leads (behind v.waiting words) v u → Leads (w ∷ words) h u
file_more w words h v u e named heard more = if_some (is_some h.file) None (Some (record h { file = Some w })) v heard (λ t bad. absurd (none-some v bad)) (λ free same.
    let P : Heard → Type 0 = λ g. Leads (behind g.waiting words) g u in
    let k : P (record h { file = Some w }) = subst P (sym (same_Some (record h { file = Some w }) v same)) more in
    let Q : Option Valued → Type 0 = λ o. Leads (behind o words) (record h { file = Some w }) u in
    let l : Leads words (record h { file = Some w }) u = subst Q e k in
    (w ∷ l.0, l.1, a_file (file_told w named) l.2, ap (λ o. option_to_list o ++ (w ∷ l.0)) (is_none h.file free) ∙ l.3, l.4))

given_more : (f : Flag) (w : CommandWord) (words : List CommandWord) (h v u : Heard) → w ≡ flag_word f → hear_setting h (set.Flag f) ≡ Some v
    → Leads (behind v.waiting words) v u → Leads (w ∷ words) h u
given_more f w words h v u is heard more =
    let k = set_told (set.Flag f) words h v u heard more in
    (k.0, set.Flag f ∷ k.1, a_flag f is k.2, k.3, k.4)

name_more : (w : CommandWord) (words : List CommandWord) (h v u : Heard) → option_map (λ o. record h { waiting = Some o }) (option_named w) ≡ Some v
    → Leads (behind v.waiting words) v u → Leads (w ∷ words) h u
name_more w words h v u heard more = map_some (λ o. record h { waiting = Some o }) (option_named w) v heard (λ o is same.
    let P : Heard → Type 0 = λ g. Leads (behind g.waiting words) g u in
    let k : P (record h { waiting = Some o }) = subst P (sym same) more in
    let l : Leads (option_word o ∷ words) h u = k in
    subst (λ x. Leads (x ∷ words) h u) (sym (option_told w o is)) l)

both_more : (w front back : CommandWord) (words : List CommandWord) (h v u : Heard) → w ≡ front ++ (61 ∷ back)
    → option_and_then (λ o. hear_value h o back) (option_named front) ≡ Some v → Leads (behind v.waiting words) v u → Leads (w ∷ words) h u
both_more w front back words h v u cut heard more = option_and_then_some (λ o. hear_value h o back) (option_named front) v heard (λ o is heard'.
    let t = value_told o back h v heard' in
    let k = set_told t.0 words h v u t.2 more in
    (k.0, t.0 ∷ k.1, one_word front back cut (subst (λ n. Sets n back t.0) (sym (option_told front o is)) t.1) k.2, k.3, k.4))

option_more : (w : CommandWord) (words : List CommandWord) (h v u : Heard) → hear_option h w ≡ Some v → Leads (behind v.waiting words) v u → Leads (w ∷ words) h u
option_more w words h v u heard more = if_some (equals_at w == length w) (option_map (λ o. record h { waiting = Some o }) (option_named w))
    (option_and_then (λ o. hear_value h o (drop (equals_at w + 1) w)) (option_named (take (equals_at w) w))) v heard
    (λ t e. name_more w words h v u e more)
    (λ f e. both_more w (take (equals_at w) w) (drop (equals_at w + 1) w) words h v u (cut_told w (λ is. false_true (sym f ∙ eq-eqb (equals_at w) (length w) is))) e more)

flag_more : (o : Option Flag) (w : CommandWord) (words : List CommandWord) (h v u : Heard) → flag_named w ≡ o → hear_flag o h w ≡ Some v
    → Leads (behind v.waiting words) v u → Leads (w ∷ words) h u
flag_more (Some f) w words h v u e heard more = given_more f w words h v u (flag_told w f e) heard more
flag_more None w words h v u e heard more = option_more w words h v u heard more

word_more : (w : CommandWord) (words : List CommandWord) (h v u : Heard) → h.waiting ≡ None → hear_word h w ≡ Some v → Leads (behind v.waiting words) v u → Leads (w ∷ words) h u
word_more w words h v u e heard more = if_some (is_file_name w) (hear_file h w) (hear_dashes h w) v heard
    (λ t g. file_more w words h v u e t g more)
    (λ f g. flag_more (flag_named w) w words h v u refl g more)

waiting_more : (o : Option Valued) (w : CommandWord) (words : List CommandWord) (h v u : Heard) → h.waiting ≡ o → hear_waiting o h w ≡ Some v
    → Leads (behind v.waiting words) v u → Leads (behind o (w ∷ words)) h u
waiting_more None w words h v u e heard more = word_more w words h v u e heard more
waiting_more (Some o) w words h v u e heard more =
    let t = value_told o w h v heard in
    let k = set_told t.0 words h v u t.2 more in
    (k.0, t.0 ∷ k.1, two_words t.1 k.2, k.3, k.4)

-- words that are read to an end without an option that waits spell what was read
all_heard : (words : List CommandWord) (h u : Heard) → u.waiting ≡ None → hear_all h words ≡ Some u → Leads (behind h.waiting words) h u
all_heard [] h u e heard =
    let same = same_Some h u heard in
    subst (Leads (behind h.waiting []) h) same (leads_nowhere h h.waiting (ap (λ g. g.waiting) same ∙ e))
all_heard (w ∷ words) h u e heard = option_and_then_some (λ g. hear_all g words) (hear h w) u heard (λ v is rest.
    waiting_more h.waiting w words h v u refl is (all_heard words v u e rest))

-- ---- what is spelled is read

abbrev at : Option CommandWord → Settings → Heard
at file settings = record { file = file; settings = settings; waiting = None }

abbrev waits : Option CommandWord → Settings → Valued → Heard
waits file settings o = record { file = file; settings = settings; waiting = Some o }

flag_heard : (f : Flag) (file : Option CommandWord) (s : Settings) → hear (at file s) (flag_word f) ≡ hear_setting (at file s) (set.Flag f)
flag_heard flag.Trace file s = refl
flag_heard flag.Folded file s = refl

name_heard : (o : Valued) (f : Option CommandWord) (s : Settings) → hear (at f s) (option_word o) ≡ Some (waits f s o)
name_heard valued.Budget f s = refl
name_heard valued.Size f s = refl
name_heard valued.Order f s = refl
name_heard valued.Seed f s = refl

cut_heard : (h : Heard) (w : CommandWord) → (equals_at w ≡ length w → ⊥)
    → hear_option h w ≡ option_and_then (λ o. hear_value h o (drop (equals_at w + 1) w)) (option_named (take (equals_at w) w))
cut_heard h w e = if_false (equals_at w == length w) (option_map (λ o. record h { waiting = Some o }) (option_named w))
    (option_and_then (λ o. hear_value h o (drop (equals_at w + 1) w)) (option_named (take (equals_at w) w))) (not_same (equals_at w) (length w) e)

both_heard : (o : Valued) (value : CommandWord) (f : Option CommandWord) (s : Settings)
    → hear (at f s) (option_word o ++ (61 ∷ value)) ≡ hear_value (at f s) o value
both_heard valued.Budget value f s = cut_heard (at f s) (codes "--budget" ++ (61 ∷ value)) (λ e. omega (arith, e))
both_heard valued.Size value f s = cut_heard (at f s) (codes "--size" ++ (61 ∷ value)) (λ e. omega (arith, e))
both_heard valued.Order value f s = cut_heard (at f s) (codes "--order" ++ (61 ∷ value)) (λ e. omega (arith, e))
both_heard valued.Seed value f s = cut_heard (at f s) (codes "--seed" ++ (61 ∷ value)) (λ e. omega (arith, e))

set_heard : (x : Setting) (f : Option CommandWord) (s t : Settings) (g : Heard) → g.file ≡ f → g.settings ≡ s → with_setting s x ≡ Some t → hear_setting g x ≡ Some (at f t)
set_heard x f s t g e k is =
    ap (λ r. option_map (λ settings. record g { settings = settings; waiting = None }) (with_setting r x)) k
    ∙ ap (option_map (λ settings. record g { settings = settings; waiting = None })) is
    ∙ (λ i. Some (record { file = e i; settings = t; waiting = None }))

value_heard : (o : Valued) (value : CommandWord) (x : Setting) (f : Option CommandWord) (s t : Settings) (g : Heard) → g.file ≡ f → g.settings ≡ s
    → setting_of o value ≡ Some x → with_setting s x ≡ Some t → hear_value g o value ≡ Some (at f t)
value_heard o value x f s t g e k v is = then_some (hear_setting g) (setting_of o value) x (Some (at f t)) v (set_heard x f s t g e k is)

file_heard : (w : CommandWord) (f : Option CommandWord) (s : Settings) → IsFileName w → f ≡ None → hear (at f s) w ≡ Some (at (Some w) s)
file_heard w f s named e =
    ap (λ b. if b then hear_file (at f s) w else hear_dashes (at f s) w) (file_read_is w named)
    ∙ ap (λ o. if is_some o then None else Some (at (Some w) s)) e

-- the words of files and settings are read as these
all_spelled : {words files : List CommandWord} {settings : List Setting} → AreFilesAndSettings words files settings → (f g : Option CommandWord) (s t : Settings)
    → option_to_list f ++ files ≡ option_to_list g → settings_all s settings ≡ Some t → hear_all (at f s) words ≡ Some (at g t)
all_spelled nothing f g s t e k =
    let file = list_option f g e in
    let settings = same_Some s t k in
    λ i. Some (at (file i) (settings i))
all_spelled (a_file {file = w} {words = words} {files = files} named more) f g s t e k =
    let free = front_empty f g w files e in
    then_some (λ h. hear_all h words) (hear (at f s) w) (at (Some w) s) (Some (at g t)) (file_heard w f s named free)
    (all_spelled more (Some w) g s t (ap (λ o. option_to_list o ++ (w ∷ files)) (sym free) ∙ e) k)
all_spelled (a_flag {option = w} x {words = words} {settings = settings} is more) f g s t e k =
    option_and_then_some (λ r. settings_all r settings) (with_setting s (set.Flag x)) t k (λ r isset rest.
    then_some (λ h. hear_all h words) (hear (at f s) w) (at f r) (Some (at g t))
    (ap (hear (at f s)) is ∙ flag_heard x f s ∙ set_heard (set.Flag x) f s r (at f s) refl refl isset)
    (all_spelled more f g r t e rest))
all_spelled (two_words {option = w} {value = value} {words = words} {setting = x} {settings = settings} sets more) f g s t e k =
    let o = setting_read w value x sets in
    option_and_then_some (λ r. settings_all r settings) (with_setting s x) t k (λ r isset rest.
    then_some (λ h. hear_all h (value ∷ words)) (hear (at f s) w) (waits f s o.0) (Some (at g t))
    (ap (hear (at f s)) o.1 ∙ name_heard o.0 f s)
    (then_some (λ h. hear_all h words) (hear (waits f s o.0) value) (at f r) (Some (at g t))
    (value_heard o.0 value x f s r (waits f s o.0) refl refl o.2 isset)
    (all_spelled more f g r t e rest)))
all_spelled (one_word {word = w} option value {words = words} {setting = x} {settings = settings} cut sets more) f g s t e k =
    let o = setting_read option value x sets in
    option_and_then_some (λ r. settings_all r settings) (with_setting s x) t k (λ r isset rest.
    then_some (λ h. hear_all h words) (hear (at f s) w) (at f r) (Some (at g t))
    (ap (hear (at f s)) (cut ∙ ap (λ n. n ++ (61 ∷ value)) o.1) ∙ both_heard o.0 value f s ∙ value_heard o.0 value x f s r (at f s) refl refl o.2 isset)
    (all_spelled more f g r t e rest))

-- ---- runs

asked_by : (words : List CommandWord) (h : Heard) (file : CommandWord) → h.waiting ≡ None → h.file ≡ Some file → hear_all nothing_heard words ≡ Some h
    → RunGiven words (run_by h.settings file)
asked_by words h file waiting named heard =
    let k : Leads words nothing_heard h = all_heard words nothing_heard h waiting heard in
    let c = all_told no_settings h.settings k.1 k.4 in
    let s = h.settings in
    record {
      settings = k.1;
      spelled = subst (λ files. AreFilesAndSettings words files k.1) (k.3 ∙ ap option_to_list named) k.2;
      trace = subst (λ l. OnlyOr false l s.trace) (sym c.trace) (flag_only s.trace);
      folded = subst (λ l. OnlyOr false l s.folded) (sym c.folded) (flag_only s.folded);
      budget = subst (λ l. OnlyOr 1000000 l (unwrap_or s.budget 1000000)) (sym c.budget) (value_only 1000000 s.budget);
      size = subst (λ l. OnlyOr 16777216 l (unwrap_or s.size 16777216)) (sym c.size) (value_only 16777216 s.size);
      order_name = unwrap_or s.order name.First;
      named = subst (λ l. OnlyOr name.First l (unwrap_or s.order name.First)) (sym c.order) (value_only name.First s.order);
      seed = unwrap_or s.seed 0;
      seeded = subst (λ l. OnlyOr 0 l (unwrap_or s.seed 0)) (sym c.seed) (value_only 0 s.seed);
      order = refl;
    }

run_told : (words : List CommandWord) (run : Run) → run_read words ≡ Some run → AsksRun words run
run_told words run e = option_and_then_some run_heard (hear_all nothing_heard words) run e (λ h heard rest.
    if_some (is_some h.waiting) None (option_map (run_by h.settings) h.file) run rest (λ t bad. absurd (none-some run bad)) (λ free m.
    map_some (run_by h.settings) h.file run m (λ file named same.
    subst (AsksRun words) same (asks_given (asked_by words h file (is_none h.waiting free) named heard)))))

-- one file and settings, each at most once, are read
run_spelled : (words : List CommandWord) (file : CommandWord) (settings : List Setting) → AreFilesAndSettings words (file ∷ []) settings → EachAtMostOnce settings
    → run_read words ≡ Some (run_by (firsts settings) file)
run_spelled words file settings spelled once =
    let collected = all_read no_settings (firsts settings) settings (firsts_collected settings once) in
    then_some run_heard (hear_all nothing_heard words) (at (Some file) (firsts settings)) (Some (run_by (firsts settings) file))
    (all_spelled spelled None (Some file) no_settings (firsts settings) refl collected) refl

-- no setting of a run is given twice
pub each_once : {words : List CommandWord} {run : Run} → (a : RunGiven words run) → EachAtMostOnce a.settings
each_once {words} {run} a = (
  at_most_one false (filter_map trace_of a.settings) run.trace a.trace,
  at_most_one false (filter_map folded_of a.settings) run.folded a.folded,
  at_most_one 1000000 (filter_map budget_of a.settings) run.budget a.budget,
  at_most_one 16777216 (filter_map size_of a.settings) run.size a.size,
  at_most_one name.First (filter_map order_name_of a.settings) a.order_name a.named,
  at_most_one 0 (filter_map seed_of a.settings) a.seed a.seeded,
)

run_reads : (words : List CommandWord) (run : Run) → AsksRun words run → run_read words ≡ Some run
run_reads words run asked =
    let a = given_of asked in
    let trace = trace_value a.settings run.trace a.trace in
    let folded = folded_value a.settings run.folded a.folded in
    let budget = only_value 1000000 (filter_map budget_of a.settings) run.budget a.budget in
    let size = only_value 16777216 (filter_map size_of a.settings) run.size a.size in
    let named = only_value name.First (filter_map order_name_of a.settings) a.order_name a.named in
    let seeded = only_value 0 (filter_map seed_of a.settings) a.seed a.seeded in
    let order = (λ i. ordered_by (named i) (seeded i)) ∙ sym a.order in
    run_spelled words run.file a.settings a.spelled (each_once a)
    ∙ (λ i. Some (record { file = run.file; trace = trace i; folded = folded i; budget = budget i; size = size i; order = order i }))

-- ---- requests

file_told_of : (words : List CommandWord) (file : CommandWord) → file_read words ≡ Some file → AsksCompile words file
file_told_of [] file e = absurd (none-some file e)
file_told_of (w ∷ []) file e = if_some (is_file_name w) (Some w) None file e
    (λ t s. let same = same_Some w file s in (ap (λ x. x ∷ []) same, subst IsFileName same (file_told w t)))
    (λ f s. absurd (none-some file s))
file_told_of (w ∷ (v ∷ words)) file e = absurd (none-some file e)

file_reads : (words : List CommandWord) (file : CommandWord) → AsksCompile words file → file_read words ≡ Some file
file_reads words file h = ap file_read h.0 ∙ ap (λ b. if b then Some file else None) (file_read_is file h.1)

demo_told : (words : List CommandWord) (n : ℕ) → demo_read words ≡ Some n → AsksDemo words n
demo_told [] n e = absurd (none-some n e)
demo_told (w ∷ []) n e = (w, refl, number_from_told 1 100000 w n e)
demo_told (w ∷ (v ∷ words)) n e = absurd (none-some n e)

demo_reads : (words : List CommandWord) (n : ℕ) → AsksDemo words n → demo_read words ≡ Some n
demo_reads words n h = ap demo_read h.1 ∙ number_from_read 1 100000 h.0 n h.2

-- ---- two files

pair_told : (w : CommandWord) (k : PairKind) → pair_named w ≡ Some k → w ≡ pair_word k
pair_told w k e =
    if_some (bytes_eq w (codes "check")) _ _ k e (λ t s. is_bytes w _ t ∙ ap pair_word (same_Some kind.Check k s)) (λ f e.
    if_some (bytes_eq w (codes "debug")) _ _ k e (λ t s. is_bytes w _ t ∙ ap pair_word (same_Some kind.Debug k s)) (λ f e.
    if_some (bytes_eq w (codes "exec")) _ _ k e (λ t s. is_bytes w _ t ∙ ap pair_word (same_Some kind.Exec k s)) (λ f e.
    if_some (bytes_eq w (codes "bound")) _ _ k e (λ t s. is_bytes w _ t ∙ ap pair_word (same_Some kind.Bound k s)) (λ f e.
    absurd (none-some k e)))))

-- the word of a command is read as that command
pub pair_word_read : (k : PairKind) → pair_named (pair_word k) ≡ Some k
pair_word_read kind.Check = refl
pair_word_read kind.Debug = refl
pair_word_read kind.Exec = refl
pair_word_read kind.Bound = refl

-- the kind and the files of a pair in order
in_order_asks : (k : PairKind) (first last : CommandWord) → IsFileName first → IsFileName last → AsksPair (first ∷ last ∷ []) (pair_in_order k first last)
in_order_asks kind.Check first last f l = (refl, f, l)
in_order_asks kind.Debug first last f l = (refl, f, l)
in_order_asks kind.Exec first last f l = (refl, l, f)
in_order_asks kind.Bound first last f l = (refl, f, l)

in_order_kind : (k : PairKind) (first last : CommandWord) → (pair_in_order k first last).kind ≡ k
in_order_kind kind.Check first last = refl
in_order_kind kind.Debug first last = refl
in_order_kind kind.Exec first last = refl
in_order_kind kind.Bound first last = refl

-- the words of a pair, in their order, are that pair
pub order_undone : (k : PairKind) (file second : CommandWord) → pair_in_order k (standing_first k file second) (standing_last k file second) ≡ record { kind = k; file = file; second = second }
order_undone kind.Check file second = refl
order_undone kind.Debug file second = refl
order_undone kind.Exec file second = refl
order_undone kind.Bound file second = refl

-- both words of a pair are names of files
pub standing_names : (k : PairKind) (file second : CommandWord) → IsFileName file → IsFileName second → IsFileName (standing_first k file second) × IsFileName (standing_last k file second)
standing_names kind.Check file second f s = (f, s)
standing_names kind.Debug file second f s = (f, s)
standing_names kind.Exec file second f s = (s, f)
standing_names kind.Bound file second f s = (f, s)

pair_read_told : (words : List CommandWord) (k : PairKind) (p : Pair) → pair_read words k ≡ Some p → (p.kind ≡ k) × AsksPair words p
pair_read_told [] k p e = absurd (none-some p e)
pair_read_told (w ∷ []) k p e = absurd (none-some p e)
pair_read_told (w ∷ (v ∷ [])) k p e = if_some (is_file_name w && is_file_name v) (Some (pair_in_order k w v)) None p e
    (λ t s. let both = both_true (is_file_name w) (is_file_name v) t in
    subst (λ q. (q.kind ≡ k) × AsksPair (w ∷ (v ∷ [])) q) (same_Some (pair_in_order k w v) p s) (in_order_kind k w v, in_order_asks k w v (file_told w both.0) (file_told v both.1)))
    (λ f s. absurd (none-some p s))
pair_read_told (w ∷ (v ∷ (u ∷ words))) k p e = absurd (none-some p e)

two_read : (k : PairKind) (w v : CommandWord) → IsFileName w → IsFileName v → pair_read (w ∷ (v ∷ [])) k ≡ Some (pair_in_order k w v)
two_read k w v f l =
    ap (λ b. if b && is_file_name v then Some (pair_in_order k w v) else None) (file_read_is w f)
    ∙ ap (λ b. if b then Some (pair_in_order k w v) else None) (file_read_is v l)

pair_reads : (words : List CommandWord) (p : Pair) → AsksPair words p → pair_read words p.kind ≡ Some p
pair_reads words p h =
    let names = standing_names p.kind p.file p.second h.1 h.2 in
    ap (λ ws. pair_read ws p.kind) h.0 ∙ two_read p.kind (standing_first p.kind p.file p.second) (standing_last p.kind p.file p.second) names.0 names.1
    ∙ ap Some (order_undone p.kind p.file p.second)

pair_asked_told : (w : CommandWord) (words : List CommandWord) (r : Request) → pair_asked w words ≡ Some r → TextsAsk (w ∷ words) r
pair_asked_told w words r e = option_and_then_some (λ k. option_map to_pair (pair_read words k)) (pair_named w) r e (λ k named rest.
    map_some to_pair (pair_read words k) r rest (λ p is same.
    let t = pair_read_told words k p is in
    subst (TextsAsk (w ∷ words)) same (pair_told w k named ∙ ap pair_word (sym t.0), t.1)))

-- what other first words are read as
abbrev behind_compile : CommandWord → List CommandWord → Option Request
behind_compile w words = if bytes_eq w (codes "demo") then option_map to_demo (demo_read words) else pair_asked w words

abbrev behind_run : CommandWord → List CommandWord → Option Request
behind_run w words = if bytes_eq w (codes "compile") then option_map to_compile (file_read words) else behind_compile w words

other_bytes : (w v : CommandWord) → (w ≡ v → ⊥) → bytes_eq w v ≡ false
other_bytes w v differs = elim (bool_cases (bytes_eq w v)) [
  | inl t ↦ absurd (differs (is_bytes w v t))
  | inr f ↦ f
]

-- a first word that is none of the three is read as one of the others
pub other_read : (w : CommandWord) (words : List CommandWord) → (w ≡ codes "run" → ⊥) → (w ≡ codes "compile" → ⊥) → (w ≡ codes "demo" → ⊥)
    → request_read (w ∷ words) ≡ pair_asked w words
other_read w words r c d =
    if_false (bytes_eq w (codes "run")) (option_map to_run (run_read words)) (behind_run w words) (other_bytes w (codes "run") r)
    ∙ if_false (bytes_eq w (codes "compile")) (option_map to_compile (file_read words)) (behind_compile w words) (other_bytes w (codes "compile") c)
    ∙ if_false (bytes_eq w (codes "demo")) (option_map to_demo (demo_read words)) (pair_asked w words) (other_bytes w (codes "demo") d)

-- what is read of the words is what they ask for
pub request_told : (words : List CommandWord) (r : Request) → request_read words ≡ Some r → TextsAsk words r
request_told [] r e = absurd (none-some r e)
request_told (w ∷ words) r e =
    if_some (bytes_eq w (codes "run")) (option_map to_run (run_read words)) (behind_run w words) r e
    (λ t g. map_some to_run (run_read words) r g (λ run is same. subst (TextsAsk (w ∷ words)) same (is_bytes w (codes "run") t, run_told words run is)))
    (λ f g. if_some (bytes_eq w (codes "compile")) (option_map to_compile (file_read words)) (behind_compile w words) r g
    (λ t k. map_some to_compile (file_read words) r k (λ file is same. subst (TextsAsk (w ∷ words)) same (is_bytes w (codes "compile") t, file_told_of words file is)))
    (λ f k. if_some (bytes_eq w (codes "demo")) (option_map to_demo (demo_read words)) (pair_asked w words) r k
    (λ t l. map_some to_demo (demo_read words) r l (λ n is same. subst (TextsAsk (w ∷ words)) same (is_bytes w (codes "demo") t, demo_told words n is)))
    (λ f l. pair_asked_told w words r l)))

run_first : (w : CommandWord) (words : List CommandWord) → w ≡ codes "run" → request_read (w ∷ words) ≡ option_map to_run (run_read words)
run_first w words e = ap (λ v. request_read (v ∷ words)) e

compile_first : (w : CommandWord) (words : List CommandWord) → w ≡ codes "compile" → request_read (w ∷ words) ≡ option_map to_compile (file_read words)
compile_first w words e = ap (λ v. request_read (v ∷ words)) e

demo_first : (w : CommandWord) (words : List CommandWord) → w ≡ codes "demo" → request_read (w ∷ words) ≡ option_map to_demo (demo_read words)
demo_first w words e = ap (λ v. request_read (v ∷ words)) e

pair_behind : (k : PairKind) (words : List CommandWord) → request_read (pair_word k ∷ words) ≡ option_map to_pair (pair_read words k)
pair_behind kind.Check words = refl
pair_behind kind.Debug words = refl
pair_behind kind.Exec words = refl
pair_behind kind.Bound words = refl

pair_first : (w : CommandWord) (k : PairKind) (words : List CommandWord) → w ≡ pair_word k → request_read (w ∷ words) ≡ option_map to_pair (pair_read words k)
pair_first w k words e = ap (λ v. request_read (v ∷ words)) e ∙ pair_behind k words

-- what words ask for is read
pub request_reads : (words : List CommandWord) (r : Request) → TextsAsk words r → request_read words ≡ Some r
request_reads [] r h = absurd h
request_reads (w ∷ words) (to_run run) h = run_first w words h.0 ∙ ap (option_map to_run) (run_reads words run h.1)
request_reads (w ∷ words) (to_compile file) h = compile_first w words h.0 ∙ ap (option_map to_compile) (file_reads words file h.1)
request_reads (w ∷ words) (to_demo n) h = demo_first w words h.0 ∙ ap (option_map to_demo) (demo_reads words n h.1)
request_reads (w ∷ words) (to_pair p) h = pair_first w p.kind words h.0 ∙ ap (option_map to_pair) (pair_reads words p h.1)

-- words of the form are read
pub form_reads : (words : List CommandWord) → IsForm words → (r : Request) × (request_read words ≡ Some r)
form_reads [] h = absurd h
form_reads (w ∷ words) (inl h) = (
  to_run (run_by (firsts h.1.1) h.1.0),
  run_first w words h.0 ∙ ap (option_map to_run) (run_spelled words h.1.0 h.1.1 h.1.2 h.1.3),
)
form_reads (w ∷ words) (inr (inl h)) = (to_compile h.1.0, compile_first w words h.0 ∙ ap (option_map to_compile) (file_reads words h.1.0 h.1.1))
form_reads (w ∷ words) (inr (inr (inl h))) = (to_demo h.1.0, demo_first w words h.0 ∙ ap (option_map to_demo) (demo_reads words h.1.0 h.1.1))
form_reads (w ∷ words) (inr (inr (inr (k, is, (first, last, e, f, l))))) = (
  to_pair (pair_in_order k first last),
  pair_first w k words is ∙ ap (λ ws. option_map to_pair (pair_read ws k)) e ∙ ap (option_map to_pair) (two_read k first last f l),
)

-- words that ask for something are of the form
pub asks_form : (words : List CommandWord) (r : Request) → TextsAsk words r → IsForm words
asks_form [] r h = absurd h
asks_form (w ∷ words) (to_run run) h = let a = given_of h.1 in inl (h.0, (run.file, a.settings, a.spelled, each_once a))
asks_form (w ∷ words) (to_compile file) h = inr (inl (h.0, (file, h.1)))
asks_form (w ∷ words) (to_demo n) h = inr (inr (inl (h.0, (n, h.1))))
asks_form (w ∷ words) (to_pair p) h =
    let names = standing_names p.kind p.file p.second h.1.1 h.1.2 in
    inr (inr (inr (p.kind, h.0, (standing_first p.kind p.file p.second, standing_last p.kind p.file p.second, h.1.0, names.0, names.1))))

-- ---- ranges

abbrev InRange : Setting → Type 0
InRange (set.Flag f) = ⊤
InRange (set.Budget n) = n ≤ 9223372036854775807
InRange (set.Size n) = (1 ≤ n) × (n ≤ 4294967295)
InRange (set.Order kind) = ⊤
InRange (set.Seed n) = ⊤

abbrev AllInRange : List Setting → Type 0
AllInRange [] = ⊤
AllInRange (x ∷ xs) = InRange x × AllInRange xs

set_in_range : (option value : CommandWord) (x : Setting) → Sets option value x → InRange x
set_in_range option value (set.Flag f) h = absurd h
set_in_range option value (set.Budget n) h = h.1.4
set_in_range option value (set.Size n) h = (h.1.3, h.1.4)
set_in_range option value (set.Order kind) h = tt
set_in_range option value (set.Seed n) h = tt

all_in_range : {words files : List CommandWord} {settings : List Setting} → AreFilesAndSettings words files settings → AllInRange settings
all_in_range nothing = tt
all_in_range (a_file named more) = all_in_range more
all_in_range (a_flag f is more) = (tt, all_in_range more)
all_in_range (two_words {option = w} {value = value} {setting = x} sets more) = (set_in_range w value x sets, all_in_range more)
all_in_range (one_word option value {setting = x} cut sets more) = (set_in_range option value x sets, all_in_range more)

only_head : {A : Type 0} (d x : A) (xs : List A) (v : A) → OnlyOr d (x ∷ xs) v → v ≡ x
only_head d x [] v h = h
only_head d x (y ∷ xs) v h = absurd h

budget_in_range : (xs : List Setting) (v : ℕ) → AllInRange xs → OnlyOr 1000000 (filter_map budget_of xs) v → v ≤ 9223372036854775807
budget_in_range [] v r h = omega (arith, h)
budget_in_range (set.Flag f ∷ xs) v r h = budget_in_range xs v r.1 h
budget_in_range (set.Budget n ∷ xs) v r h = omega (arith, only_head 1000000 n (filter_map budget_of xs) v h, r.0)
budget_in_range (set.Size n ∷ xs) v r h = budget_in_range xs v r.1 h
budget_in_range (set.Order kind ∷ xs) v r h = budget_in_range xs v r.1 h
budget_in_range (set.Seed n ∷ xs) v r h = budget_in_range xs v r.1 h

size_in_range : (xs : List Setting) (v : ℕ) → AllInRange xs → OnlyOr 16777216 (filter_map size_of xs) v → (1 ≤ v) × (v ≤ 4294967295)
size_in_range [] v r h = (omega (arith, h), omega (arith, h))
size_in_range (set.Flag f ∷ xs) v r h = size_in_range xs v r.1 h
size_in_range (set.Budget n ∷ xs) v r h = size_in_range xs v r.1 h
size_in_range (set.Size n ∷ xs) v r h =
    let same = only_head 16777216 n (filter_map size_of xs) v h in
    (omega (arith, same, r.0.0), omega (arith, same, r.0.1))
size_in_range (set.Order kind ∷ xs) v r h = size_in_range xs v r.1 h
size_in_range (set.Seed n ∷ xs) v r h = size_in_range xs v r.1 h

-- the numbers of what is asked for lie in their ranges
pub in_ranges : (words : List CommandWord) (r : Request) → TextsAsk words r → IsInRanges r
in_ranges [] r h = absurd h
in_ranges (w ∷ words) (to_run run) h =
    let a = given_of h.1 in
    let size = size_in_range a.settings run.size (all_in_range a.spelled) a.size in
    (budget_in_range a.settings run.budget (all_in_range a.spelled) a.budget, size.0, size.1)
in_ranges (w ∷ words) (to_compile file) h = tt
in_ranges (w ∷ words) (to_demo n) h = (h.1.2.3, h.1.2.4)
in_ranges (w ∷ words) (to_pair p) h = tt

-- ---- the form

some_asked : (words : List CommandWord) (o : Option Request) → request_read words ≡ o → is_some o ≡ true → (r : Request) × TextsAsk words r
some_asked words None e is = false_true is
some_asked words (Some r) e is = (r, request_told words r e)

-- the words are read exactly where they are of the form
pub form_read : (words : List (String Global)) (b : Bool) → b ≡ is_some (request_read (texts_of words)) → (b ≡ true → InForm words) × (InForm words → b ≡ true)
form_read words b e = (
  λ is. some_asked (texts_of words) (request_read (texts_of words)) refl (sym e ∙ is),
  λ h. e ∙ ap is_some (request_reads (texts_of words) h.0 h.1),
)
