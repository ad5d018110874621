-- What `clap` makes of one word of `run`.
use Rattle.std.proofs.Common.{◌≡◌, ◌∙◌, refl, sym, ap, ℕ, Bool, true, false, true≢false, not, ◌&&◌, ◌||◌, ◌==◌, if◌then◌else◌, inl, inr, append-nil, List, [], ◌∷◌, ◌++◌, Option, Some, None, option_and_then, bytes_eq, codes}
use Rattle.std.specs.Option.{option_map_or}
use Rattle.clap.specs.Lexer.{long_of, long_of_rest, short_of, short_of_rest, strip_byte}
use Rattle.clap.specs.Walk.{Held, Row, Rule, Step, Text, Waiting, Walk, after_step, at_row, has_row, idle, long_or_other, more_values, option, plain_word, settled_rows, short_or_plain, subcommand_met, subcommand_or_other, trailing, value, walked, with_values, without, word_met}
use Rattle.clap.specs.Simple.{Shape, built_leaf, inherited}
use Rattle.clap.specs.Takes.{bundle_passes, flag_word_passes, other_passes, settle_passes, step_passes, turn_passes, word_passes}
use Rattle.clap.specs.declared.parser.matches.ValueSource.TheVariants.{CommandLine}
use Rattle.clap.specs.declared.builder.value_parser.Reading.TheVariants.{AsWritten}
use Rattle.clap.proofs.OnLiterals.{clap_on_literals}
use Rattle.lmn_app_words.specs.declared.setting.Flag.{Flag}
use Rattle.lmn_app_words.specs.declared.setting.Flag.TheVariants as flag
use Rattle.lmn_app_words.specs.declared.setting.Valued.{Valued}
use Rattle.lmn_app_words.specs.declared.setting.Valued.TheVariants as valued
use Rattle.lmn_app_words.specs.Forms.{flag_word}
use Rattle.lmn_app_words.specs.Parsing.{run_line, whole_line}
use Rattle.lmn_app_words.proofs.WordLemmas.{option_word}
use Rattle.std.proofs.lemmas.Bool.{or_right}
use Rattle.lmn_base.proofs.Truth.{bool_cases}

-- ---- the built commands

-- a command of the line, built
abbrev pub built_line : Shape → Shape
built_line line = built_leaf (inherited whole_line.top line)

-- the words that `run` takes, as the library has them
abbrev pub run_shape : Shape
run_shape = built_line run_line.top

-- and its rules
abbrev pub run_rules : List Rule
run_rules = run_shape.rules

-- ---- between two words

-- what is held behind some words
abbrev pub held : Option (Text × List Text) → List Row → Held
held pending rows = record { rows = rows; pending = pending; skip = 0 }

-- between two words, where no option waits for its value
abbrev pub between : Option (Text × List Text) → List Row → ℕ → Walk
between pending rows position = record { held = held pending rows; waiting = idle; position = position; is_trailing = false; stopped = None }

-- an option, by its name without the hyphens
abbrev pub flag_id : Flag → Text
flag_id flag.Trace = codes "trace"
flag_id flag.Folded = codes "folded"

-- the name of an option in the library
abbrev pub option_id : Valued → Text
option_id valued.Budget = codes "budget"
option_id valued.Size = codes "size"
option_id valued.Order = codes "order"
option_id valued.Seed = codes "seed"

-- the name of an option was met
abbrev pub named : Option (Text × List Text) → List Row → ℕ → Valued → Walk
named pending rows position o = record {
  held = held (Some (option_id o, [])) (settled_rows run_rules pending rows);
  waiting = option (option_id o);
  position = position;
  is_trailing = false;
  stopped = None;
}

-- the rows after one use
abbrev pub used_once : Text → Text → List Row → List Row
used_once id v rows = with_values id AsWritten CommandLine (v ∷ []) (without id rows)

-- a flag is met
pub flag_walked : (f : Flag) (p : Option (Text × List Text)) (rows : List Row) (n : ℕ)
    → walked run_rules [] (between p rows n) (flag_word f) ≡ between None (used_once (flag_id f) (codes "true") (settled_rows run_rules p rows)) n
unfolding clap_on_literals
flag_walked flag.Trace p rows n = refl
flag_walked flag.Folded p rows n = refl

-- the name of an option is met
pub name_walked : (o : Valued) (p : Option (Text × List Text)) (rows : List Row) (n : ℕ) → walked run_rules [] (between p rows n) (option_word o) ≡ named p rows n o
unfolding clap_on_literals
name_walked valued.Budget p rows n = refl
name_walked valued.Size p rows n = refl
name_walked valued.Order p rows n = refl
name_walked valued.Seed p rows n = refl

-- and an option with its value in one word
pub both_walked : (o : Valued) (v : Text) (p : Option (Text × List Text)) (rows : List Row) (n : ℕ)
    → walked run_rules [] (between p rows n) (option_word o ++ (61 ∷ v)) ≡ between None (used_once (option_id o) v (settled_rows run_rules p rows)) n
unfolding clap_on_literals
both_walked valued.Budget v p rows n = refl
both_walked valued.Size v p rows n = refl
both_walked valued.Order v p rows n = refl
both_walked valued.Seed v p rows n = refl

-- ---- words that are no options

not_dashes : (b : ℕ) (bs : Text) → (b == 45) ≡ false → bytes_eq (b ∷ bs) (45 ∷ 45 ∷ []) ≡ false
not_dashes b bs e = rw e refl

no_hyphen : (b : ℕ) (bs : Text) → (b == 45) ≡ false → strip_byte 45 (b ∷ bs) ≡ None
no_hyphen b bs e = rw e refl

not_long : (b : ℕ) (bs : Text) → (b == 45) ≡ false → long_of (b ∷ bs) ≡ None
not_long b bs e = ap (λ o. option_and_then long_of_rest (option_and_then (strip_byte 45) o)) (no_hyphen b bs e)

not_short : (b : ℕ) (bs : Text) → (b == 45) ≡ false → short_of (b ∷ bs) ≡ None
not_short b bs e = ap (option_and_then short_of_rest) (no_hyphen b bs e)

-- a word that doesn't begin with a hyphen goes on as it is
pub plain_met : (c : List Rule) (waiting : Waiting) (b : ℕ) (bs : Text) (n : ℕ) (h : Held) → (b == 45) ≡ false → subcommand_met [] waiting (b ∷ bs) ≡ None
    → word_met c [] false waiting n (b ∷ bs) h ≡ plain_word c waiting (b ∷ bs) h
plain_met c waiting b bs n h e m =
    ap (λ o. subcommand_or_other c o waiting n (b ∷ bs) h) m
    ∙ ap (λ t. if t then (h, trailing n) else long_or_other c waiting (b ∷ bs) (long_of (b ∷ bs)) h) (not_dashes b bs e)
    ∙ ap (λ o. long_or_other c waiting (b ∷ bs) o h) (not_long b bs e)
    ∙ ap (λ o. short_or_plain c waiting (b ∷ bs) o h) (not_short b bs e)

-- a word that doesn't begin with `-` passes
pub plain_passes : (s : Shape) (waiting : Waiting) (b : ℕ) (bs : Text) (h : Held) → (b == 45) ≡ false → subcommand_met [] waiting (b ∷ bs) ≡ None
    → word_passes s [] false waiting (b ∷ bs) h ≡ true
plain_passes s waiting b bs h e m =
    ap (λ o. other_passes s o (b ∷ bs) h) m
    ∙ ap (λ t. t || flag_word_passes s.rules s.args_override_self (long_of (b ∷ bs)) (b ∷ bs) h) (not_dashes b bs e)
    ∙ ap (λ o. flag_word_passes s.rules s.args_override_self o (b ∷ bs) h) (not_long b bs e)
    ∙ ap (λ o. option_map_or (λ flags. bundle_passes s.rules s.args_override_self flags h) o true) (not_short b bs e)

-- the walk after a word, by what the word was
abbrev pub after_met : List Rule → Walk → Text → Held × Step → Walk
after_met c w word met = after_step c word w met.0 met.1

-- a file is met
pub file_walked : (b : ℕ) (bs : Text) (p : Option (Text × List Text)) (rows : List Row) → (b == 45) ≡ false
    → walked run_rules [] (between p rows 1) (b ∷ bs) ≡ between (Some (codes "file", (b ∷ bs) ∷ [])) (settled_rows run_rules p rows) 2
unfolding walked
file_walked b bs p rows e = ap (after_met run_rules (between p rows 1) (b ∷ bs)) (plain_met run_rules idle b bs 1 (held p rows) e refl) ∙ started p
  where
    started : (p : Option (Text × List Text)) → after_met run_rules (between p rows 1) (b ∷ bs) (held p rows, value) ≡ between (Some (codes "file", (b ∷ bs) ∷ [])) (settled_rows run_rules p rows) 2
    started None = refl
    started (Some q) = elim (bool_cases (bytes_eq q.0 (codes "file"))) [
      | inl t ↦ rw t refl
      | inr f ↦ rw f refl
    ]

-- and the value of an option
pub value_walked : (o : Valued) (b : ℕ) (bs : Text) (p : Option (Text × List Text)) (rows : List Row) (n : ℕ) → (b == 45) ≡ false
    → walked run_rules [] (named p rows n o) (b ∷ bs) ≡ between (Some (option_id o, (b ∷ bs) ∷ [])) (settled_rows run_rules p rows) n
unfolding walked
value_walked o b bs p rows n e = ap (after_met run_rules (named p rows n o) (b ∷ bs)) (plain_met run_rules (option (option_id o)) b bs n (named p rows n o).held e refl) ∙ pushed o
  where
    pushed : (o : Valued) → after_met run_rules (named p rows n o) (b ∷ bs) (plain_word run_rules (option (option_id o)) (b ∷ bs) (named p rows n o).held)
        ≡ between (Some (option_id o, (b ∷ bs) ∷ [])) (settled_rows run_rules p rows) n
    pushed valued.Budget = refl
    pushed valued.Size = refl
    pushed valued.Order = refl
    pushed valued.Seed = refl

-- ---- turns

-- what waited so far may be used
abbrev pub settles : Option (Text × List Text) → List Row → Bool
settles p rows = settle_passes run_rules false (held p rows)

-- a word passes
abbrev pub passes : Walk → Text → Bool
passes w word = turn_passes run_shape [] w word

-- what is asked beside something that holds is the other
pub and_first_true : (a b : Bool) → a ≡ true → (a && b) ≡ b
and_first_true true b e = refl
and_first_true false b e = absurd (true≢false (sym e))

used_passes : (a b : Bool) → a ≡ true → b ≡ false → ((a && ((not b || false) && true)) && true) ≡ true
used_passes true false e f = refl
used_passes true true e f = absurd (true≢false f)
used_passes false b e f = absurd (true≢false (sym e))

-- a flag that isn't given yet passes
pub flag_passes : (f : Flag) (p : Option (Text × List Text)) (rows : List Row) (n : ℕ) → settles p rows ≡ true → has_row (flag_id f) (settled_rows run_rules p rows) ≡ false
    → passes (between p rows n) (flag_word f) ≡ true
unfolding clap_on_literals
flag_passes flag.Trace p rows n e f = used_passes (settles p rows) (has_row (codes "trace") (settled_rows run_rules p rows)) e f
flag_passes flag.Folded p rows n e f = used_passes (settles p rows) (has_row (codes "folded") (settled_rows run_rules p rows)) e f

-- the name of an option passes
pub name_passes : (o : Valued) (p : Option (Text × List Text)) (rows : List Row) (n : ℕ) → settles p rows ≡ true → passes (between p rows n) (option_word o) ≡ true
unfolding clap_on_literals
name_passes valued.Budget p rows n e = and_first_true (settles p rows) true e
name_passes valued.Size p rows n e = and_first_true (settles p rows) true e
name_passes valued.Order p rows n e = and_first_true (settles p rows) true e
name_passes valued.Seed p rows n e = and_first_true (settles p rows) true e

-- an option with its value passes, where it isn't given yet
pub both_passes : (o : Valued) (v : Text) (p : Option (Text × List Text)) (rows : List Row) (n : ℕ) → settles p rows ≡ true
    → has_row (option_id o) (settled_rows run_rules p rows) ≡ false → passes (between p rows n) (option_word o ++ (61 ∷ v)) ≡ true
unfolding clap_on_literals
both_passes valued.Budget v p rows n e f = used_passes (settles p rows) (has_row (codes "budget") (settled_rows run_rules p rows)) e f
both_passes valued.Size v p rows n e f = used_passes (settles p rows) (has_row (codes "size") (settled_rows run_rules p rows)) e f
both_passes valued.Order v p rows n e f = used_passes (settles p rows) (has_row (codes "order") (settled_rows run_rules p rows)) e f
both_passes valued.Seed v p rows n e f = used_passes (settles p rows) (has_row (codes "seed") (settled_rows run_rules p rows)) e f

-- the step behind what was met passes
abbrev pub step_of_met : Shape → ℕ → Held × Step → Bool
step_of_met s n met = step_passes s n met.0 met.1

-- a file passes
pub file_passes : (b : ℕ) (bs : Text) (p : Option (Text × List Text)) (rows : List Row) → (b == 45) ≡ false → settles p rows ≡ true
    → passes (between p rows 1) (b ∷ bs) ≡ true
file_passes b bs p rows e s =
    and_first_true (word_passes run_shape [] false idle (b ∷ bs) (held p rows)) (step_of_met run_shape 1 (word_met run_rules [] false idle 1 (b ∷ bs) (held p rows))) (plain_passes run_shape idle b bs (held p rows) e refl)
    ∙ ap (step_of_met run_shape 1) (plain_met run_rules idle b bs 1 (held p rows) e refl)
    ∙ or_right _ (settles p rows) s

-- and the value of an option
pub value_word_passes : (o : Valued) (b : ℕ) (bs : Text) (p : Option (Text × List Text)) (rows : List Row) (n : ℕ) → (b == 45) ≡ false
    → passes (named p rows n o) (b ∷ bs) ≡ true
value_word_passes o b bs p rows n e =
    let h = (named p rows n o).held in
    and_first_true (word_passes run_shape [] false (option (option_id o)) (b ∷ bs) h) (step_of_met run_shape n (word_met run_rules [] false (option (option_id o)) n (b ∷ bs) h)) (plain_passes run_shape (option (option_id o)) b bs h e refl)
    ∙ ap (step_of_met run_shape n) (plain_met run_rules (option (option_id o)) b bs n h e refl)

-- ---- rows

-- one use by the words
abbrev pub given : Text → Text → Row
given id v = record { id = id; values = v ∷ []; count = None; source = Some CommandLine; reading = AsWritten }

-- a row that isn't there yet comes at the end
pub at_new_row : (id : Text) (change : Row → List Row) (missing : List Row) (rows : List Row) → has_row id rows ≡ false → at_row id change missing rows ≡ rows ++ missing
at_new_row id change missing [] e = refl
at_new_row id change missing (r ∷ rows) e = go (bytes_eq r.id id) e (at_new_row id change missing rows)
  where
    go : (t : Bool) → (t || has_row id rows) ≡ false → (has_row id rows ≡ false → at_row id change missing rows ≡ rows ++ missing)
        → (if t then change r ++ rows else r ∷ at_row id change missing rows) ≡ r ∷ (rows ++ missing)
    go true f more = absurd (true≢false f)
    go false f more = ap (λ rs. r ∷ rs) (more f)

-- the first use of an id is one more row
pub used_new : (id v : Text) (rows : List Row) → has_row id rows ≡ false → used_once id v rows ≡ rows ++ (given id v ∷ [])
used_new id v rows e =
    ap (with_values id AsWritten CommandLine (v ∷ [])) (at_new_row id (λ _. []) [] rows e ∙ append-nil rows)
    ∙ at_new_row id (more_values CommandLine (v ∷ [])) (given id v ∷ []) rows e

-- what waits gives these rows when it is used
pub record Stands (p : Option (Text × List Text)) (rows now : List Row) : Type 0 where
  pub settled : settled_rows run_rules p rows ≡ now
  pub settle : settles p rows ≡ true

-- where nothing is pending the rows stand
pub stands_done : (rows : List Row) → Stands None rows rows
stands_done rows = record { settled = refl; settle = refl }

new_passes : (b : Bool) → b ≡ false → ((not b || false) && true) ≡ true
new_passes true e = absurd (true≢false e)
new_passes false e = refl

-- a file that is pending is a row more
pub stands_file : (file : Text) (rows : List Row) → has_row (codes "file") rows ≡ false → Stands (Some (codes "file", file ∷ [])) rows (rows ++ (given (codes "file") file ∷ []))
stands_file file rows e = record { settled = used_new (codes "file") file rows e; settle = new_passes (has_row (codes "file") rows) e }

-- and so is an option
pub stands_option : (o : Valued) (v : Text) (rows : List Row) → has_row (option_id o) rows ≡ false
    → Stands (Some (option_id o, v ∷ [])) rows (rows ++ (given (option_id o) v ∷ []))
stands_option valued.Budget v rows e = record { settled = used_new (codes "budget") v rows e; settle = new_passes (has_row (codes "budget") rows) e }
stands_option valued.Size v rows e = record { settled = used_new (codes "size") v rows e; settle = new_passes (has_row (codes "size") rows) e }
stands_option valued.Order v rows e = record { settled = used_new (codes "order") v rows e; settle = new_passes (has_row (codes "order") rows) e }
stands_option valued.Seed v rows e = record { settled = used_new (codes "seed") v rows e; settle = new_passes (has_row (codes "seed") rows) e }
