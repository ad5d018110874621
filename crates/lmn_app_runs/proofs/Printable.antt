-- Runs of the plain of a text can be printed.
use Rattle.std.proofs.Common.{ℕ, ◌<◌, List, length, map, get_or, sym, subst}
use Rattle.lmn_base.specs.Levels.{rules_of}
use Rattle.lmn_congruence.specs.Rules as tree
use Rattle.lmn_congruence.specs.Rules.{Name}
use Rattle.lmn_congruence.specs.Translation.{numbered_rule, top_of}
use Rattle.lmn_congruence.proofs.NumberedRules.{rule_has_number}
use Rattle.lmn_adequacy.specs.Accepted.{Accepted, InTurn, all_asked, binding_in_turn, comparison_in_turn, difference_in_turn, equality_in_turn, kind_in_turn}
use Rattle.lmn_lexer.specs.Laying.{words_of}
use Rattle.lmn_lexer.specs.declared.token.Token.{Token}
use Rattle.lmn_flatten_plain.specs.Expansion.{parts_of}
use Rattle.lmn_flatten_plain.specs.Parts.{level_from_parts as level_of_parts}
use Rattle.lmn_flatten_plain.specs.Spelled.{LevelSpelled, RuleSpelled}
use Rattle.lmn_flatten_plain.proofs.SolidNumbers.{there}
use Rattle.lmn_app_runs.specs.Texts.{PlainsArePrintable}
use Rattle.lmn_app_runs.proofs.SpelledParts.{PartsRight, level_right, tree_right}
use Rattle.lmn_app_runs.proofs.SpelledRules.{IsContext, IsLabel, NoneUnknown, level_spelled, rules_spelled}
use Rattle.lmn_app_runs.proofs.RightWords.{right_tokens}

-- the guard of an accepted rule has no unknown condition
in_turn_known : {heads bound : List Name} {cs : List tree.Condition} → InTurn heads bound cs → NoneUnknown cs
in_turn_known all_asked = tt
in_turn_known (kind_in_turn a i) = in_turn_known i
in_turn_known (comparison_in_turn a i) = in_turn_known i
in_turn_known (binding_in_turn a b c i) = in_turn_known i
in_turn_known (equality_in_turn a b i) = in_turn_known i
in_turn_known (difference_in_turn a b i) = in_turn_known i

-- a text can spell the plain of an accepted text
pub plains_are_printable : PlainsArePrintable
plains_are_printable text names plain a =
    record { made = a.made; named = a.named; top = top; rules = λ k l. (spelled k l, accepted k l) }
  where
    parts_right : PartsRight (IsLabel names a.named.0) (IsContext names a.named.0) (words_of text a.tokens) (map (λ (t : Token). t.pos) a.tokens) (parts_of (words_of text a.tokens) (map (λ (t : Token). t.pos) a.tokens) a.tree)
    parts_right =
        let places = map (λ (t : Token). t.pos) a.tokens in
        let reads = a.reads in
        let right = right_tokens text a.tokens reads.cut a.right places names a.named.0 a.holds in
        let in_tree = reads.is_tree in
        tree_right (IsLabel names a.named.0) (IsContext names a.named.0) (words_of text a.tokens) places a.tokens right in_tree.1

    accepted : (k : ℕ) → k < length plain.rules → Accepted (numbered_rule names plain.rules k)
    accepted k l =
        let found = there plain.rules k l in
        subst Accepted (sym (rule_has_number names plain k found.0 a.made found.1)) (a.accepted k found.0 found.1)

    spelled : (k : ℕ) → k < length plain.rules → RuleSpelled (numbered_rule names plain.rules k)
    spelled k l =
        let words = words_of text a.tokens in
        let places = map (λ (t : Token). t.pos) a.tokens in
        let parts = parts_of words places a.tree in
        let p = a.is_plain in
        rules_spelled names a.named.0 words places plain a.made parts.table p.rules parts_right.table (λ k t e. let r = a.accepted k t e in in_turn_known r.in_turn) k l

    top : LevelSpelled (top_of names plain)
    top =
        let words = words_of text a.tokens in
        let places = map (λ (t : Token). t.pos) a.tokens in
        let parts = parts_of words places a.tree in
        let p = a.is_plain in
        let ρ = numbered_rule names plain.rules in
        level_spelled names a.named.0 p.number ρ (level_of_parts parts) plain.top p.top (level_right (IsLabel names a.named.0) (IsContext names a.named.0) words places parts parts_right)
        (λ i d b. spelled (get_or (rules_of plain.top) i d) (a.made.rules_at_top i d b))
