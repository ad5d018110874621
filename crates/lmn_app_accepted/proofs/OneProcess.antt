-- One text is one process, whatever the list of names.
use Rattle.std.proofs.Common.{◌<◌, List, length, map, slice_index_or, ap, subst}
use Rattle.std.proofs.lemmas.List.Elements.{recursion_from_All}
use Rattle.lmn_base.specs.declared.refusal.Pos.{Pos}
use Rattle.lmn_base.specs.declared.rule.Plain.{Plain}
use Rattle.lmn_base.specs.Names.{NamesPlain, plain_names}
use Rattle.lmn_congruence.specs.Plains.{level_process}
use Rattle.lmn_congruence.specs.Rules.{Name}
use Rattle.lmn_congruence.specs.Translation.{no_such_rule}
use Rattle.lmn_lexer.specs.Laying.{Word, words_of}
use Rattle.lmn_lexer.specs.declared.token.Token.{Token}
use Rattle.lmn_parser.proofs.OneReading.{one_reading}
use Rattle.lmn_parser.specs.Syntax.{Clauses}
use Rattle.lmn_flatten_plain.specs.Expansion.{parts_of}
use Rattle.lmn_flatten_plain.specs.Laws.{IsPlain}
use Rattle.lmn_flatten_plain.specs.Plains.{IsRuleOf, IsPlainOf}
use Rattle.lmn_app_accepted.specs.OneProcess.{AreOneProcess, OneProcess, OneProcessOfReadings}
use Rattle.lmn_app_accepted.proofs.SamePlainTrees.{same_counts, tables_same, tops_same}
use Rattle.lmn_app_reading.proofs.NamedPlains.{plains_are_named}

plains_are_one : (words : List Word) (places : List Pos) (tree : Clauses) (names others : List Name) (p q : Plain) → IsPlainOf words places names tree p
    → IsPlainOf words places others tree q → NamesPlain names p → NamesPlain others q → AreOneProcess names p others q
plains_are_one words places tree names others p q h g n m =
    let held = recursion_from_All (λ k. k < length names) (plain_names p) n.1 in
    let kept = recursion_from_All (λ k. k < length others) (plain_names q) m.1 in
    let parts = parts_of words places tree in
    let table = tables_same words places names others n.0 m.0 tree p q h g held kept in
    let tops = tops_same words places names others n.0 m.0 tree p q h g held kept in
    record {
      count = same_counts (IsRuleOf words places names) (IsRuleOf words places others) parts.table p.rules q.rules h.rules g.rules;
      rules = λ k. ap (λ rs. slice_index_or rs k no_such_rule) table;
      tops = tops;
      processes = ap level_process tops;
    }

-- a text that is read with the numbers of two lists is one process
pub one_process : OneProcess
one_process text names others p q h g n m =
    let same = one_reading text h.tokens g.tokens h.tree g.tree h.reads g.reads in
    let P : List Token → Type 0 = λ ts. IsPlain text ts h.tree names p in
    let Q : Clauses → Type 0 = λ t. IsPlain text g.tokens t names p in
    plains_are_one (words_of text g.tokens) (map (λ (t : Token). t.pos) g.tokens) g.tree names others p q (subst Q same.1 (subst P same.0 h.is_plain)) g.is_plain n m

-- and so is one that is read twice
pub one_process_of_readings : OneProcessOfReadings
one_process_of_readings text before names once others p q is left are gone h g =
    one_process text names others p q h g (plains_are_named text before names p is left h) (plains_are_named text once others q are gone g)
