-- How the form of the words is decided, one word after another. No public contract cites a word of this module.
use Rattle.std.specs.Prelude.{◌==◌, ◌&&◌, not, ℕ, Bool, true, false, List, [], ◌∷◌, ◌+◌, Option, Some, None, is_some, length, take, drop, codes, nat_le, if◌then◌else◌, option_map, option_and_then, unwrap_or, bytes_eq}
use Rattle.std.specs.List.{list_all, position_or_len}
use Rattle.std.specs.Str.Parse.{digits_value}
use Rattle.lmn_app_words.specs.declared.setting.Setting.{Setting}
use Rattle.lmn_app_words.specs.declared.setting.Setting.TheVariants as set
use Rattle.lmn_app_words.specs.declared.setting.Settings.{Settings}
use Rattle.lmn_app_words.specs.declared.setting.Flag.{Flag}
use Rattle.lmn_app_words.specs.declared.setting.Flag.TheVariants as flag
use Rattle.lmn_app_words.specs.declared.setting.Valued.{Valued}
use Rattle.lmn_app_words.specs.declared.setting.Valued.TheVariants as valued
use Rattle.lmn_app_words.specs.declared.setting.OrderName.{OrderName}
use Rattle.lmn_app_words.specs.declared.setting.OrderName.TheVariants as name
use Rattle.lmn_app_words.specs.declared.reading.Reader.{Reader}
use Rattle.lmn_app_words.specs.declared.command.PairKind.{PairKind}
use Rattle.lmn_app_words.specs.declared.command.PairKind.TheVariants as kind
use Rattle.lmn_app_words.specs.Forms.{CommandWord, Pair, Request, Run, ordered_by, to_run, to_compile, to_demo, to_pair}

-- ---- one word

abbrev pub begins_with : ℕ → CommandWord → Bool
begins_with byte [] = false
begins_with byte (first ∷ rest) = first == byte

abbrev pub is_file_name : CommandWord → Bool
is_file_name [] = false
is_file_name (first ∷ rest) = not (first == 45)

abbrev pub is_digit : ℕ → Bool
is_digit byte = nat_le 48 byte && nat_le byte 57

-- the number that 1 to 19 digits write
abbrev pub number_written : CommandWord → Option ℕ
number_written word = if not (length word == 0) && (nat_le (length word) 19 && list_all is_digit word) then Some (digits_value 10 word) else None

-- the number, where it lies between the two
abbrev pub number_from : ℕ → ℕ → CommandWord → Option ℕ
number_from least most word = option_and_then (λ n. if nat_le least n && nat_le n most then Some n else None) (number_written word)

abbrev pub order_named : CommandWord → Option OrderName
order_named word = if bytes_eq word (codes "first") then Some name.First
    else if bytes_eq word (codes "turn") then Some name.Turn
    else if bytes_eq word (codes "seed") then Some name.Seed else None

abbrev pub flag_named : CommandWord → Option Flag
flag_named word = if bytes_eq word (codes "--trace") then Some flag.Trace
    else if bytes_eq word (codes "--folded") then Some flag.Folded else None

abbrev pub option_named : CommandWord → Option Valued
option_named word = if bytes_eq word (codes "--budget") then Some valued.Budget
    else if bytes_eq word (codes "--size") then Some valued.Size
    else if bytes_eq word (codes "--order") then Some valued.Order
    else if bytes_eq word (codes "--seed") then Some valued.Seed else None

abbrev pub setting_of : Valued → CommandWord → Option Setting
setting_of valued.Budget value = option_map set.Budget (number_from 0 9223372036854775807 value)
setting_of valued.Size value = option_map set.Size (number_from 1 4294967295 value)
setting_of valued.Order value = option_map set.Order (order_named value)
setting_of valued.Seed value = option_map set.Seed (number_from 0 9223372036854775807 value)

-- ---- what was read so far

-- the settings with one more, which isn't among them
abbrev pub with_setting : Settings → Setting → Option Settings
with_setting s (set.Flag flag.Trace) = if s.trace then None else Some (record s { trace = true })
with_setting s (set.Flag flag.Folded) = if s.folded then None else Some (record s { folded = true })
with_setting s (set.Budget n) = if is_some s.budget then None else Some (record s { budget = Some n })
with_setting s (set.Size n) = if is_some s.size then None else Some (record s { size = Some n })
with_setting s (set.Order kind) = if is_some s.order then None else Some (record s { order = Some kind })
with_setting s (set.Seed n) = if is_some s.seed then None else Some (record s { seed = Some n })

-- the file, the settings, and the option that waits for its value
pub record Heard : Type 0 where
  pub file : Option CommandWord
  pub settings : Settings
  pub waiting : Option Valued

abbrev pub heard_of : Reader → Heard
heard_of reader = record { file = option_map (λ file. file.now) reader.file; settings = reader.settings; waiting = reader.waiting }

abbrev pub no_settings : Settings
no_settings = record { trace = false; folded = false; budget = None; size = None; order = None; seed = None }

abbrev pub nothing_heard : Heard
nothing_heard = record { file = None; settings = no_settings; waiting = None }

abbrev pub hear_setting : Heard → Setting → Option Heard
hear_setting h setting = option_map (λ settings. record h { settings = settings; waiting = None }) (with_setting h.settings setting)

abbrev pub hear_value : Heard → Valued → CommandWord → Option Heard
hear_value h option value = option_and_then (hear_setting h) (setting_of option value)

abbrev pub hear_file : Heard → CommandWord → Option Heard
hear_file h word = if is_some h.file then None else Some (record h { file = Some word })

-- the place of the first `=`, or the length
abbrev pub equals_at : CommandWord → ℕ
equals_at = position_or_len (λ b. b == 61)

abbrev pub hear_option : Heard → CommandWord → Option Heard
hear_option h word = if equals_at word == length word
    then option_map (λ option. record h { waiting = Some option }) (option_named word)
    else option_and_then (λ option. hear_value h option (drop (equals_at word + 1) word)) (option_named (take (equals_at word) word))

abbrev pub hear_flag : Option Flag → Heard → CommandWord → Option Heard
hear_flag (Some f) h word = hear_setting h (set.Flag f)
hear_flag None h word = hear_option h word

abbrev pub hear_dashes : Heard → CommandWord → Option Heard
hear_dashes h word = hear_flag (flag_named word) h word

abbrev pub hear_word : Heard → CommandWord → Option Heard
hear_word h word = if is_file_name word then hear_file h word else hear_dashes h word

abbrev pub hear_waiting : Option Valued → Heard → CommandWord → Option Heard
hear_waiting (Some option) h word = hear_value h option word
hear_waiting None h word = hear_word h word

abbrev pub hear : Heard → CommandWord → Option Heard
hear h = hear_waiting h.waiting h

abbrev pub hear_all : Heard → List CommandWord → Option Heard
hear_all h [] = Some h
hear_all h (word ∷ words) = option_and_then (λ next. hear_all next words) (hear h word)

-- ---- the end

abbrev pub run_by : Settings → CommandWord → Run
run_by s file = record {
  file = file;
  trace = s.trace;
  folded = s.folded;
  budget = unwrap_or s.budget 1000000;
  size = unwrap_or s.size 16777216;
  order = ordered_by (unwrap_or s.order name.First) (unwrap_or s.seed 0);
}

abbrev pub run_heard : Heard → Option Run
run_heard h = if is_some h.waiting then None else option_map (run_by h.settings) h.file

abbrev pub run_read : List CommandWord → Option Run
run_read words = option_and_then run_heard (hear_all nothing_heard words)

abbrev pub file_read : List CommandWord → Option CommandWord
file_read [] = None
file_read (file ∷ []) = if is_file_name file then Some file else None
file_read (file ∷ more ∷ words) = None

abbrev pub demo_read : List CommandWord → Option ℕ
demo_read [] = None
demo_read (word ∷ []) = number_from 1 100000 word
demo_read (word ∷ more ∷ words) = None

-- the command with a program and a second text that a word names
abbrev pub pair_named : CommandWord → Option PairKind
pair_named word = if bytes_eq word (codes "check") then Some kind.Check
    else if bytes_eq word (codes "debug") then Some kind.Debug
    else if bytes_eq word (codes "exec") then Some kind.Exec
    else if bytes_eq word (codes "bound") then Some kind.Bound else None

-- what two words ask for, in their order
abbrev pub pair_in_order : PairKind → CommandWord → CommandWord → Pair
pair_in_order kind.Check first last = record { kind = kind.Check; file = first; second = last }
pair_in_order kind.Debug first last = record { kind = kind.Debug; file = first; second = last }
pair_in_order kind.Exec first last = record { kind = kind.Exec; file = last; second = first }
pair_in_order kind.Bound first last = record { kind = kind.Bound; file = first; second = last }

-- two words name files
abbrev pub are_two_files : List CommandWord → Bool
are_two_files [] = false
are_two_files (first ∷ []) = false
are_two_files (first ∷ last ∷ []) = is_file_name first && is_file_name last
are_two_files (first ∷ last ∷ more ∷ words) = false

-- what two files ask for
abbrev pub pair_read : List CommandWord → PairKind → Option Pair
pair_read [] kind = None
pair_read (first ∷ []) kind = None
pair_read (first ∷ last ∷ []) kind = if is_file_name first && is_file_name last then Some (pair_in_order kind first last) else None
pair_read (first ∷ last ∷ more ∷ words) kind = None

-- what a first word, and the words behind it, ask of a program and a second text
abbrev pub pair_asked : CommandWord → List CommandWord → Option Request
pair_asked first words = option_and_then (λ kind. option_map to_pair (pair_read words kind)) (pair_named first)

abbrev pub request_read : List CommandWord → Option Request
request_read [] = None
request_read (first ∷ words) = if bytes_eq first (codes "run") then option_map to_run (run_read words)
    else if bytes_eq first (codes "compile") then option_map to_compile (file_read words)
    else if bytes_eq first (codes "demo") then option_map to_demo (demo_read words) else pair_asked first words
