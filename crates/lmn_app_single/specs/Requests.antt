-- What the words of the command line ask for: of a shelf, and of a task.
use Rattle.std.specs.Prelude.{◌<◌, ◌≤◌, ◌-◌, ⊤, ℕ, true, false, List, Option, Some, None, option_map, ◌^◌}
use Rattle.std.specs.declared.string.String.{String}
use Rattle.std.specs.declared.alloc.Global.{Global}
use Rattle.lmn_io.specs.Texts.{Fetch, asked_once_more}
use Rattle.lmn_order.specs.declared.order.Order.TheVariants as order
use Rattle.lmn_app_words.specs.Forms.{Asks, Request, Run}
use Rattle.lmn_app_words.specs.declared.command.RunSettings.{RunSettings}
use Rattle.lmn_app_single.specs.declared.task.Task.{Task}
use Rattle.lmn_app_single.specs.declared.task.Task.TheVariants as task
use Rattle.lmn_app_single.specs.Texts.{text_bytes}

-- words ask for something of which this holds
abbrev pub Asked : List (String Global) → (Request → Type 0) → Type 0
Asked words P = (q : Request) × Asks words q × P q

-- the shelf was asked for the program of a file once more
abbrev pub asked_program : List ℕ → Option (List Fetch) → Option (List Fetch)
asked_program file = option_map (asked_once_more file text_bytes)

-- what `run` is given with `--folded` and no other option
abbrev pub folded_run : RunSettings
folded_run = record { trace = false; folded = true; budget = 1000000; size = 16777216; order = order.First }

-- what a run is given by the words
abbrev pub settings_of : Run → RunSettings
settings_of run = record { trace = run.trace; folded = run.folded; budget = run.budget; size = run.size; order = run.order }

-- the most items of the process that is loaded; a listing loads none and has no such number
abbrev pub most_items : Task → Option ℕ
most_items (task.Run s) = Some s.size
most_items task.List = None

-- the numbers of a task lie in their ranges
abbrev pub IsInRange : Task → Type 0
IsInRange (task.Run s) = (s.size < 2 ^ 32) × (s.budget ≤ 2 ^ 63 - 1)
IsInRange task.List = ⊤
