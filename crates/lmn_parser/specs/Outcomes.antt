-- What a function of the reader answers. No public contract cites these words.
use Rattle.std.specs.Prelude.{◌≡◌, ◌<◌, ◌≤◌, ℕ, suc, List, [], ◌∷◌, length, Result, Ok, Err, IfOk, if◌then◌else◌}
use Rattle.lmn_parser_grammar.specs.Grammar.{Exp, program}
use Rattle.lmn_parser_grammar.specs.Reading.{Owed, is_kind, stop_at, ReadsTo}
use Rattle.lmn_lexer.specs.declared.token.Kind.{Kind}
use Rattle.lmn_lexer.specs.declared.token.Kind.TheVariants.{End}
use Rattle.lmn_parser.specs.declared.stop.Stop.{Stop}
use Rattle.lmn_parser.specs.declared.stop.Stop.TheVariants.{At, NoMemory}

-- the number of kinds, a last `End` not counted
abbrev pub reach : List Kind → ℕ
reach [] = 0
reach (k ∷ []) = if is_kind End k then 0 else 1
reach (k ∷ l ∷ ts) = suc (reach (l ∷ ts))

-- The tokens from p on, where s may be owed, stop at the place that the reader names.
abbrev pub Stops : List Kind → ℕ → List Owed → Stop → Type 0
Stops ts p s (At r) = (stop_at ts p s ≡ r) × (r ≤ reach ts)
Stops ts p s NoMemory = Unit {0}

-- The part e from p on is read up to the place that is answered, and then κ is owed, or it stops.
abbrev pub ReadsOrStops : {X : Type 0} → List Kind → ℕ → Exp → Owed → Result (X × ℕ) Stop → Type 0
ReadsOrStops ts p e κ (Ok r) = ReadsTo ts p e r.1 κ
ReadsOrStops ts p e κ (Err s) = Stops ts p ((e ∷ κ) ∷ []) s

-- The same for a part of which only the place behind it is answered.
abbrev pub TakesOrStops : List Kind → ℕ → Exp → Owed → Result ℕ Stop → Type 0
TakesOrStops ts p e κ (Ok q) = ReadsTo ts p e q κ
TakesOrStops ts p e κ (Err s) = Stops ts p ((e ∷ κ) ∷ []) s

-- The place behind the part that is read from p on is farther on, and no farther than the tokens reach.
abbrev pub GoesForth : {X : Type 0} → List Kind → ℕ → Result (X × ℕ) Stop → Type 0
GoesForth ts p result = IfOk result (λ r. (p < r.1) × (r.1 ≤ reach ts))

-- The same for a part that may be empty.
abbrev pub StaysOrGoesForth : {X : Type 0} → List Kind → ℕ → Result (X × ℕ) Stop → Type 0
StaysOrGoesForth ts p result = IfOk result (λ r. (p ≤ r.1) × (r.1 ≤ reach ts))

-- The tokens are read to their end, or stop.
abbrev pub ReadsWhole : {X : Type 0} → List Kind → Result X Stop → Type 0
ReadsWhole ts (Ok r) = stop_at ts 0 ((program ∷ []) ∷ []) ≡ length ts
ReadsWhole ts (Err s) = Stops ts 0 ((program ∷ []) ∷ []) s
