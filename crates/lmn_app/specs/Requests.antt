-- What the words of the command line ask of texts.
use Rattle.std.specs.Prelude.{◌≡◌, ◌⊎◌, ℕ, List, Option, Some, None, option_map}
use Rattle.lmn_io.specs.Counts.{Rose}
use Rattle.lmn_io.specs.Texts.{Fetch, asked_once_more}
use Rattle.lmn_app_words.specs.Forms.{Pair, Request, to_run, to_compile, to_demo, to_pair}
use Rattle.lmn_app_single.specs.declared.ending.Ending.{Ending}
use Rattle.lmn_app_single.specs.declared.ending.Ending.TheVariants.{NoMemory, ReadFault, Refused}
use Rattle.lmn_app_single.specs.Demos.{demo_text}
use Rattle.lmn_app_single.specs.Requests.{asked_program, folded_run}
use Rattle.lmn_app.specs.Pairs.{HasProgram, most_items_of_pair}
use Rattle.lmn_app.specs.SecondTexts.{second_bytes}
use Rattle.lmn_app_single.specs.Writing.{Told, told_under}

-- ---- of which texts

-- what is told of the program: of a file what a map of texts has under its name, and of `demo` its own text
abbrev pub told_of : Request → Option (List ℕ → Option (List ℕ)) → Told
told_of (to_run run) texts = told_under texts run.file
told_of (to_compile file) texts = told_under texts file
told_of (to_demo n) texts = Some (Some (demo_text n))
told_of (to_pair pair) texts = told_under texts pair.file

-- the count of faults of a file that is named rose
abbrev pub ReadRose : Request → (List ℕ → ℕ) → (List ℕ → ℕ) → Type 0
ReadRose (to_run run) faults after = Rose (faults run.file) (after run.file)
ReadRose (to_compile file) faults after = Rose (faults file) (after file)
ReadRose (to_demo n) faults after = ⊥
ReadRose (to_pair pair) faults after = Rose (faults pair.file) (after pair.file) ⊎ Rose (faults pair.second) (after pair.second)

-- and for the second text of a command
abbrev pub asked_second : Pair → Option (List Fetch) → Option (List Fetch)
asked_second pair = option_map (asked_once_more pair.second (second_bytes pair.kind))

-- What the shelf was asked for: the program once, where its file is named; and behind it the second text where there is one and the
-- program is accepted. Where no file is named it wasn't asked, and no count of it changed.
abbrev pub Fetches : Request → Option (List ℕ → Option (List ℕ)) → Option (List Fetch) → Option (List Fetch) → (List ℕ → ℕ) → (List ℕ → ℕ) → Type 0
Fetches (to_run run) texts before after faults faults_after = after ≡ asked_program run.file before
Fetches (to_compile file) texts before after faults faults_after = after ≡ asked_program file before
Fetches (to_demo n) texts before after faults faults_after = (after ≡ before) × ((name : List ℕ) → faults_after name ≡ faults name)
Fetches (to_pair pair) texts before after faults faults_after =
    (after ≡ asked_program pair.file before) ⊎ ((after ≡ asked_second pair (asked_program pair.file before)) × HasProgram pair texts)

-- Of a command with a second text, by how it ends, with what is asked for before and behind the second text: nothing more where the
-- program is refused; nothing more, or the second text, where a file couldn't be read or memory was wanting; and the second text where it
-- ends otherwise. Where it is asked for the program is accepted.
abbrev pub FetchesSecond : Pair → Ending → Option (List ℕ → Option (List ℕ)) → Option (List Fetch) → Option (List Fetch) → Type 0
FetchesSecond pair (Refused r) texts before after = after ≡ before
FetchesSecond pair ReadFault texts before after = (after ≡ before) ⊎ ((after ≡ asked_second pair before) × HasProgram pair texts)
FetchesSecond pair NoMemory texts before after = (after ≡ before) ⊎ ((after ≡ asked_second pair before) × HasProgram pair texts)
FetchesSecond pair _ texts before after = (after ≡ asked_second pair before) × HasProgram pair texts

-- All that is named was asked for: the program where its file is named, and behind it the second text where there is one.
abbrev pub FetchesAll : Request → Option (List Fetch) → Option (List Fetch) → Type 0
FetchesAll (to_run run) before after = after ≡ asked_program run.file before
FetchesAll (to_compile file) before after = after ≡ asked_program file before
FetchesAll (to_demo n) before after = after ≡ before
FetchesAll (to_pair pair) before after = after ≡ asked_second pair (asked_program pair.file before)

-- ---- to do what

-- and by requests
abbrev pub most_items_of : Request → Option ℕ
most_items_of (to_run run) = Some run.size
most_items_of (to_compile file) = None
most_items_of (to_demo n) = Some folded_run.size
most_items_of (to_pair pair) = most_items_of_pair pair.kind
