-- The form of the words of the command line, and what words of the form ask for.
use Rattle.std.specs.Prelude.{◌≡◌, ◌≢◌, ◌⊎◌, ◌≤◌, ⊤, ℕ, Bool, true, false, List, [], ◌∷◌, ◌++◌, Option, Some, None, length, map, filter_map, codes, string_bytes}
use Rattle.std.specs.List.{AllByRecursion}
use Rattle.std.specs.Str.Parse.{IsNumeral, digits_value}
use Rattle.std.specs.declared.string.String.{String}
use Rattle.std.specs.declared.alloc.Global.{Global}
use Rattle.lmn_order.specs.declared.order.Order.{Order}
use Rattle.lmn_order.specs.declared.order.Order.TheVariants as order
use Rattle.lmn_app_words.specs.declared.setting.Setting.{Setting}
use Rattle.lmn_app_words.specs.declared.setting.Setting.TheVariants as set
use Rattle.lmn_app_words.specs.declared.setting.Flag.{Flag}
use Rattle.lmn_app_words.specs.declared.setting.Flag.TheVariants as flag
use Rattle.lmn_app_words.specs.declared.setting.OrderName.{OrderName}
use Rattle.lmn_app_words.specs.declared.setting.OrderName.TheVariants as name
use Rattle.lmn_app_words.specs.declared.command.Command.{Command}
use Rattle.lmn_app_words.specs.declared.command.Command.TheVariants as command
use Rattle.lmn_app_words.specs.declared.command.RunWords.{RunWords}
use Rattle.lmn_app_words.specs.declared.command.PairKind.{PairKind}
use Rattle.lmn_app_words.specs.declared.command.PairKind.TheVariants as kind
use Rattle.lmn_app_words.specs.declared.command.PairWords.{PairWords}

-- ---- words

-- a word of the command line, by its bytes
abbrev pub CommandWord : Type 0
CommandWord = List ℕ

-- a word that can name a file isn't empty and doesn't begin with `-`
abbrev pub IsFileName : CommandWord → Type 0
IsFileName [] = ⊥
IsFileName (first ∷ rest) = first ≢ 45

-- the word is the number n, in 1 to 19 decimal digits, and n lies between the two
abbrev pub IsNumber : ℕ → ℕ → CommandWord → ℕ → Type 0
IsNumber least most word n = IsNumeral 10 word × (length word ≤ 19) × (digits_value 10 word ≡ n) × (least ≤ n) × (n ≤ most)

-- the word of an order
abbrev pub order_word : OrderName → CommandWord
order_word name.First = codes "first"
order_word name.Turn = codes "turn"
order_word name.Seed = codes "seed"

-- the name of an option without a value
abbrev pub flag_word : Flag → CommandWord
flag_word flag.Trace = codes "--trace"
flag_word flag.Folded = codes "--folded"

-- the option of this name, with this value, sets this
abbrev pub Sets : CommandWord → CommandWord → Setting → Type 0
Sets option value (set.Flag f) = ⊥
Sets option value (set.Budget n) = (option ≡ codes "--budget") × IsNumber 0 9223372036854775807 value n
Sets option value (set.Size n) = (option ≡ codes "--size") × IsNumber 1 4294967295 value n
Sets option value (set.Order kind) = (option ≡ codes "--order") × (value ≡ order_word kind)
Sets option value (set.Seed n) = (option ≡ codes "--seed") × IsNumber 0 9223372036854775807 value n

-- The words are these files and these settings, in any order. An option with a value is two words, or one with `=`.
pub data AreFilesAndSettings : List CommandWord → List CommandWord → List Setting → Type 0 where
  nothing : AreFilesAndSettings [] [] []
  a_file : {file : CommandWord} {words files : List CommandWord} {settings : List Setting} → IsFileName file
      → AreFilesAndSettings words files settings → AreFilesAndSettings (file ∷ words) (file ∷ files) settings
  a_flag : {option : CommandWord} (f : Flag) {words files : List CommandWord} {settings : List Setting} → option ≡ flag_word f
      → AreFilesAndSettings words files settings → AreFilesAndSettings (option ∷ words) files (set.Flag f ∷ settings)
  two_words : {option value : CommandWord} {words files : List CommandWord} {setting : Setting} {settings : List Setting} → Sets option value setting
      → AreFilesAndSettings words files settings → AreFilesAndSettings (option ∷ (value ∷ words)) files (setting ∷ settings)
  one_word : {word : CommandWord} (option value : CommandWord) {words files : List CommandWord} {setting : Setting} {settings : List Setting}
      → word ≡ option ++ (codes "=" ++ value) → Sets option value setting
      → AreFilesAndSettings words files settings → AreFilesAndSettings (word ∷ words) files (setting ∷ settings)

-- ---- what is given

-- One of the settings is this one by its form, and has this value; or none is, and the value is the default.
pub data GivenOnce {A : Type 0} (Is : A → Setting → Type 0) (default : A) : List Setting → A → Type 0 where
  none_given : GivenOnce Is default [] default
  one_given : {s : Setting} {settings : List Setting} {value : A} → Is value s → AllByRecursion (λ t. (v : A) → ¬ (Is v t)) settings → GivenOnce Is default (s ∷ settings) value
  given_later : {s : Setting} {settings : List Setting} {value : A} → ((v : A) → ¬ (Is v s)) → GivenOnce Is default settings value → GivenOnce Is default (s ∷ settings) value

-- the order with this name; a seed has an effect on one alone
abbrev pub ordered_by : OrderName → ℕ → Order
ordered_by name.First seed = order.First
ordered_by name.Turn seed = order.Turn
ordered_by name.Seed seed = order.Seed seed

-- ---- what is asked for

-- what `run` is asked for: the file and the options, with the defaults of those that aren't given
pub record Run : Type 0 where
  pub file : CommandWord
  pub trace : Bool
  pub folded : Bool
  pub budget : ℕ
  pub size : ℕ
  pub order : Order

-- what a command with a program and a second text is asked for: the file of the program, and that of the second text
pub record Pair : Type 0 where
  pub kind : PairKind
  pub file : CommandWord
  pub second : CommandWord

-- what is asked for
pub data Request : Type 0 where
  to_run : Run → Request
  to_compile : CommandWord → Request
  to_demo : ℕ → Request
  to_pair : Pair → Request

-- the word of a command with a program and a second text
abbrev pub pair_word : PairKind → CommandWord
pair_word kind.Check = codes "check"
pair_word kind.Debug = codes "debug"
pair_word kind.Exec = codes "exec"
pair_word kind.Bound = codes "bound"

-- Of two words the one that stands first, and the one that stands last: the program stands first, but for `exec` last.
abbrev pub standing_first : PairKind → CommandWord → CommandWord → CommandWord
standing_first kind.Exec file second = second
standing_first _ file second = file

abbrev pub standing_last : PairKind → CommandWord → CommandWord → CommandWord
standing_last kind.Exec file second = file
standing_last _ file second = second

-- the words behind `run` name one file, and settings that give these values
pub record AsksRun (words : List CommandWord) (run : Run) : Type 0 where
  pub settings : List Setting
  pub spelled : AreFilesAndSettings words (run.file ∷ []) settings
  pub trace : GivenOnce (λ on s. (s ≡ set.Flag flag.Trace) × (on ≡ true)) false settings run.trace
  pub folded : GivenOnce (λ on s. (s ≡ set.Flag flag.Folded) × (on ≡ true)) false settings run.folded
  pub budget : GivenOnce (λ n s. s ≡ set.Budget n) 1000000 settings run.budget
  pub size : GivenOnce (λ n s. s ≡ set.Size n) 16777216 settings run.size
  pub order_name : OrderName
  pub named : GivenOnce (λ kind s. s ≡ set.Order kind) name.First settings order_name
  pub seed : ℕ
  pub seeded : GivenOnce (λ n s. s ≡ set.Seed n) 0 settings seed
  pub order : run.order ≡ ordered_by order_name seed

-- These texts ask for this: behind `compile` stands one file, behind `demo` one number, and two files behind the others.
abbrev pub TextsAsk : List CommandWord → Request → Type 0
TextsAsk [] request = ⊥
TextsAsk (first ∷ words) (to_run run) = (first ≡ codes "run") × AsksRun words run
TextsAsk (first ∷ words) (to_compile file) = (first ≡ codes "compile") × ((words ≡ file ∷ []) × IsFileName file)
TextsAsk (first ∷ words) (to_demo n) = (first ≡ codes "demo") × ((word : CommandWord) × (words ≡ word ∷ []) × IsNumber 1 100000 word n)
TextsAsk (first ∷ words) (to_pair p) = (first ≡ pair_word p.kind)
    × ((words ≡ standing_first p.kind p.file p.second ∷ standing_last p.kind p.file p.second ∷ []) × IsFileName p.file × IsFileName p.second)

-- the words ask for this
abbrev pub Asks : List (String Global) → Request → Type 0
Asks words = TextsAsk (map string_bytes words)

-- the words are of the form: they ask for something
abbrev pub InForm : List (String Global) → Type 0
InForm words = (request : Request) × Asks words request

-- the numbers of a request lie in their ranges
abbrev pub IsInRanges : Request → Type 0
IsInRanges (to_run run) = (run.budget ≤ 9223372036854775807) × (1 ≤ run.size) × (run.size ≤ 4294967295)
IsInRanges (to_compile file) = ⊤
IsInRanges (to_demo n) = (1 ≤ n) × (n ≤ 100000)
IsInRanges (to_pair pair) = ⊤

-- ---- the same in parts, as laws and contracts of private functions tell it

-- the one value that is given, or the default where none is
abbrev pub OnlyOr : {A : Type 0} → A → List A → A → Type 0
OnlyOr default [] value = value ≡ default
OnlyOr default (given ∷ []) value = value ≡ given
OnlyOr default (given ∷ again ∷ more) value = ⊥

-- the bytes of each word
abbrev pub texts_of : List (String Global) → List CommandWord
texts_of = map string_bytes

-- the words are this one file
abbrev pub AsksCompile : List CommandWord → CommandWord → Type 0
AsksCompile words file = (words ≡ file ∷ []) × IsFileName file

-- the words behind `demo` are this one number
abbrev pub AsksDemo : List CommandWord → ℕ → Type 0
AsksDemo words n = (word : CommandWord) × (words ≡ word ∷ []) × IsNumber 1 100000 word n

-- the words are these two files
abbrev pub AsksPair : List CommandWord → Pair → Type 0
AsksPair words p = (words ≡ standing_first p.kind p.file p.second ∷ standing_last p.kind p.file p.second ∷ []) × IsFileName p.file × IsFileName p.second

-- ---- the form, without what is asked for: the law `FormsAsk` says that it is the same form

-- what a setting gives to each option, if it is one of that option
abbrev pub trace_of : Setting → Option Bool
trace_of (set.Flag flag.Trace) = Some true
trace_of _ = None

abbrev pub folded_of : Setting → Option Bool
folded_of (set.Flag flag.Folded) = Some true
folded_of _ = None

abbrev pub budget_of : Setting → Option ℕ
budget_of (set.Budget n) = Some n
budget_of _ = None

abbrev pub size_of : Setting → Option ℕ
size_of (set.Size n) = Some n
size_of _ = None

abbrev pub order_name_of : Setting → Option OrderName
order_name_of (set.Order kind) = Some kind
order_name_of _ = None

abbrev pub seed_of : Setting → Option ℕ
seed_of (set.Seed n) = Some n
seed_of _ = None

-- the option that has these values is given at most once
abbrev pub GivenAtMostOnce : {A : Type 0} → (Setting → Option A) → List Setting → Type 0
GivenAtMostOnce value_of settings = length (filter_map value_of settings) ≤ 1

-- each option is given at most once
abbrev pub EachAtMostOnce : List Setting → Type 0
EachAtMostOnce settings = GivenAtMostOnce trace_of settings × GivenAtMostOnce folded_of settings × GivenAtMostOnce budget_of settings
    × GivenAtMostOnce size_of settings × GivenAtMostOnce order_name_of settings × GivenAtMostOnce seed_of settings

-- one file, and each option at most once
abbrev pub IsRunForm : List CommandWord → Type 0
IsRunForm words = (file : CommandWord) × (settings : List Setting) × AreFilesAndSettings words (file ∷ []) settings × EachAtMostOnce settings

-- one file
abbrev pub IsCompileForm : List CommandWord → Type 0
IsCompileForm words = (file : CommandWord) × AsksCompile words file

-- one number
abbrev pub IsDemoForm : List CommandWord → Type 0
IsDemoForm words = (n : ℕ) × AsksDemo words n

-- two files
abbrev pub IsPairForm : List CommandWord → Type 0
IsPairForm words = (first : CommandWord) × (last : CommandWord) × (words ≡ first ∷ last ∷ []) × IsFileName first × IsFileName last

-- the first word names a command, and the others are of its form
abbrev pub IsForm : List CommandWord → Type 0
IsForm [] = ⊥
IsForm (first ∷ words) = ((first ≡ codes "run") × IsRunForm words) ⊎ ((first ≡ codes "compile") × IsCompileForm words)
    ⊎ ((first ≡ codes "demo") × IsDemoForm words) ⊎ ((kind : PairKind) × (first ≡ pair_word kind) × IsPairForm words)

-- ---- what a command is

-- what a command to run asks for
abbrev pub run_of : RunWords → Run
run_of words = record {
  file = words.file.now;
  trace = words.settings.trace;
  folded = words.settings.folded;
  budget = words.settings.budget;
  size = words.settings.size;
  order = words.settings.order;
}

-- and what one with a program and a second text does
abbrev pub pair_of : PairWords → Pair
pair_of words = record { kind = words.kind; file = words.file.now; second = words.second.now }

-- the request of a command
abbrev pub request_of : Command → Request
request_of (command.Run run) = to_run (run_of run)
request_of (command.Compile file) = to_compile file.now
request_of (command.Demo n) = to_demo n
request_of (command.Pair pair) = to_pair (pair_of pair)
