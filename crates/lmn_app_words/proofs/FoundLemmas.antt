-- What matches ask for.
use Rattle.std.specs.declared.string.String.{String}
use Rattle.std.specs.declared.alloc.Global.{Global}
use Rattle.std.proofs.Common.{IfSome, IsSome, ◌≡◌, ◌∙◌, refl, sym, ap, subst, ℕ, Bool, true, false, List, Option, Some, None, length, option_map, option_and_then, codes, arith}
use Rattle.std.specs.Prelude.{Box}
use Rattle.std.specs.Box.{box_value}
use Rattle.std.proofs.lemmas.Option.{none-some, same_Some}
use Rattle.clap.specs.Walk.{Row, Text, first_of, one_of}
use Rattle.clap.specs.Simple.{App, is_simple, subcommand_of, subcommand_rows}
use Rattle.clap.specs.Takes.{takes}
use Rattle.clap.specs.Values.{bool_text}
use Rattle.clap.specs.declared.parser.matches.SubCommand.{SubCommand}
use Rattle.clap.specs.declared.parser.matches.ArgMatches.TheViews.{out-SubCommand}
use Rattle.lmn_app_words.specs.declared.command.RunWords.{RunWords}
use Rattle.lmn_app_words.specs.declared.command.Command.{Command}
use Rattle.lmn_app_words.specs.declared.command.PairKind.{PairKind}
use Rattle.lmn_app_words.specs.Forms.{Asks, InForm, IsInRanges, Pair, Request, Run, TextsAsk, CommandWord, ordered_by, pair_word, request_of, run_of, standing_first, standing_last, texts_of, to_compile, to_demo, to_pair, to_run}
use Rattle.lmn_app_words.specs.Hearing.{number_written, pair_in_order, pair_named}
use Rattle.lmn_app_words.specs.Parsing.{FoundIsRequest, Tells, number_given, order_given, whole_line}
use Rattle.lmn_app_words.proofs.ReadLemmas.{in_ranges, order_undone, pair_word_read}
use Rattle.lmn_app_words.proofs.ParseLemmas.{asked_taken}

-- words of the form are taken
pub form_taken : (line : App) (words : List CommandWord) → line ≡ whole_line → (r : Request) × TextsAsk words r → takes line words ≡ true
form_taken line words is form = ap (λ a. takes a words) is ∙ (asked_taken words form.0 form.1).0

-- and what they ask for is found
pub asked_found : {A : Type 0} (line : App) (words : List CommandWord) (o : Option (Text × List Row)) → line ≡ whole_line → (is_simple line ≡ true → A × (o ≡ subcommand_of line words))
    → (r : Request) → TextsAsk words r → FoundIsRequest o r
asked_found line words o is matches r asks =
    subst (λ x. FoundIsRequest x r) (sym ((matches (ap is_simple is)).1 ∙ ap (λ a. subcommand_of a words) is)) (asked_taken words r asks).1

module _ {Z : Type 0} where
  -- a command that was found, by its name and its rows
  found_is : (o : Option (Box SubCommand Z)) (n : Text) (rows : List Row) → Some n ≡ option_map (λ b. (out-SubCommand (box_value b)).name.now) o
      → Some rows ≡ option_map (λ p. p.1) (subcommand_rows o) → subcommand_rows o ≡ Some (n, rows)
  found_is None n rows e f = absurd (none-some n (sym e))
  found_is (Some b) n rows e f = λ i. Some (sym (same_Some n _ e) i, sym (same_Some rows _ f) i)

  pub found_so : (o : Option (Box SubCommand Z)) (n : Text) (rows : List Row) (r : Request) → Some n ≡ option_map (λ b. (out-SubCommand (box_value b)).name.now) o
      → Some rows ≡ option_map (λ p. p.1) (subcommand_rows o) → FoundIsRequest (subcommand_rows o) r → FoundIsRequest (Some (n, rows)) r
  found_so o n rows r e f h = subst (λ x. FoundIsRequest x r) (found_is o n rows e f) h

other_length : (a b : Text) → a ≡ b → (length a ≡ length b → ⊥) → ⊥
other_length a b e differs = differs (ap length e)

-- the word of a command with a program and a second text is none of these
not_pair : (k : PairKind) (n : Text) → n ≡ pair_word k → (n ≡ codes "run" → ⊥) × (n ≡ codes "compile" → ⊥) × (n ≡ codes "demo" → ⊥)
not_pair k n is = (λ e. none-some k (ap pair_named (sym e ∙ is) ∙ pair_word_read k), λ e. none-some k (ap pair_named (sym e ∙ is) ∙ pair_word_read k), λ e. none-some k (ap pair_named (sym e ∙ is) ∙ pair_word_read k))

-- the file of `compile`
pub compile_found : (n : Text) (rows : List Row) (r : Request) (o : Option Text) → n ≡ codes "compile" → o ≡ first_of (codes "file") rows → FoundIsRequest (Some (n, rows)) r
    → option_map to_compile o ≡ Some r
compile_found n rows (to_run run) o is e h = absurd (other_length (codes "compile") (codes "run") (sym is ∙ h.0) (λ l. omega (arith, l)))
compile_found n rows (to_pair pair) o is e h = absurd ((not_pair pair.kind n h.0).1 is)
compile_found n rows (to_demo k) o is e h = absurd (other_length (codes "compile") (codes "demo") (sym is ∙ h.0) (λ l. omega (arith, l)))
compile_found n rows (to_compile file) o is e h = ap (option_map to_compile) (e ∙ h.1)

-- the number of `demo`
pub demo_found : (n : Text) (rows : List Row) (r : Request) (o : Option ℕ) → n ≡ codes "demo" → o ≡ option_and_then number_written (first_of (codes "number") rows) → FoundIsRequest (Some (n, rows)) r
    → option_map to_demo o ≡ Some r
demo_found n rows (to_run run) o is e h = absurd (other_length (codes "demo") (codes "run") (sym is ∙ h.0) (λ l. omega (arith, l)))
demo_found n rows (to_compile file) o is e h = absurd (other_length (codes "demo") (codes "compile") (sym is ∙ h.0) (λ l. omega (arith, l)))
demo_found n rows (to_pair pair) o is e h = absurd ((not_pair pair.kind n h.0).2 is)
demo_found n rows (to_demo k) o is e h = ap (option_map to_demo) (e ∙ h.1)

-- two words of such a command, in their order, are the pair
pub pair_same : (pair : Pair) (k : PairKind) (first last : Text) → k ≡ pair.kind → first ≡ standing_first pair.kind pair.file pair.second → last ≡ standing_last pair.kind pair.file pair.second
    → pair_in_order k first last ≡ pair
pair_same pair k first last is front back = (λ i. pair_in_order (is i) (front i) (back i)) ∙ order_undone pair.kind pair.file pair.second

-- what is found of such a command
pub kind_found : (n : Text) (rows : List Row) (pair : Pair) (k : PairKind) → Some k ≡ pair_named n → FoundIsRequest (Some (n, rows)) (to_pair pair) → k ≡ pair.kind
kind_found n rows pair k named h = same_Some k pair.kind (named ∙ ap pair_named h.0 ∙ pair_word_read pair.kind)

flag_is : (o : Option Text) (a b : Bool) → (o ≡ Some (codes "true") → a ≡ true) → (o ≡ Some (codes "false") → a ≡ false) → o ≡ Some (bool_text b) → a ≡ b
flag_is o a true given missing e = given e
flag_is o a false given missing e = missing e

-- the parts of a run
pub run_found : (rows : List Row) (w : RunWords) (run : Run) → Some w.file.now ≡ first_of (codes "file") rows
    → (one_of (codes "trace") rows ≡ Some (codes "true") → w.settings.trace ≡ true) → (one_of (codes "trace") rows ≡ Some (codes "false") → w.settings.trace ≡ false)
    → (one_of (codes "folded") rows ≡ Some (codes "true") → w.settings.folded ≡ true) → (one_of (codes "folded") rows ≡ Some (codes "false") → w.settings.folded ≡ false)
    → w.settings.budget ≡ number_given rows (codes "budget") 1000000 → w.settings.size ≡ number_given rows (codes "size") 16777216
    → w.settings.order ≡ ordered_by (order_given rows) (number_given rows (codes "seed") 0) → Tells rows run → run_of w ≡ run
run_found rows w run file given missing folds plain budget size order t =
    let file_is = same_Some w.file.now run.file (file ∙ t.file) in
    let trace_is = flag_is (one_of (codes "trace") rows) w.settings.trace run.trace given missing t.trace in
    let folded_is = flag_is (one_of (codes "folded") rows) w.settings.folded run.folded folds plain t.folded in
    let budget_is = budget ∙ t.budget in
    let size_is = size ∙ t.size in
    let order_is = order ∙ t.order in
    λ i. record { file = file_is i; trace = trace_is i; folded = folded_is i; budget = budget_is i; size = size_is i; order = order_is i }

-- ---- commands

-- where what words of the form ask for is found, the answer is a command, and it is that
module _ (words : List (String Global)) (o : Option Command) (form : InForm words) (found : (r : Request) → Asks words r → option_map request_of o ≡ Some r) where
  asked : (r : Request) × Asks words r × (option_map request_of o ≡ Some r)
  asked = (form.0, form.1, found form.0 form.1)

  some_command : (p : Option Command) (r : Request) → option_map request_of p ≡ Some r → IsSome p
  some_command None r e = absurd (none-some r e)
  some_command (Some command) r e = refl

  is_asked : (p : Option Command) (r : Request) → Asks words r → option_map request_of p ≡ Some r → IfSome p (λ command. Asks words (request_of command))
  is_asked None r asks e = tt
  is_asked (Some command) r asks e = subst (Asks words) (sym (same_Some (request_of command) r e)) asks

  is_in_ranges : (p : Option Command) (r : Request) → Asks words r → option_map request_of p ≡ Some r → IfSome p (λ command. IsInRanges (request_of command))
  is_in_ranges None r asks e = tt
  is_in_ranges (Some command) r asks e = subst IsInRanges (sym (same_Some (request_of command) r e)) (in_ranges (texts_of words) r asks)

  pub command_form : (IsSome o → InForm words) × (InForm words → IsSome o)
  command_form = (λ is. form, λ is. some_command o asked.0 asked.2)

  pub command_asks : IfSome o (λ command. Asks words (request_of command))
  command_asks = is_asked o asked.0 asked.1 asked.2

  pub command_in_ranges : IfSome o (λ command. IsInRanges (request_of command))
  command_in_ranges = is_in_ranges o asked.0 asked.1 asked.2
