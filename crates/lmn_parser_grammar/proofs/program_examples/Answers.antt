use Rattle.std.proofs.Common.{refl, arith, ◌<◌, List, [], ◌∷◌, ◌++◌}
use Rattle.lmn_parser_grammar.specs.Reading.{stop}
use Rattle.lmn_lexer.specs.declared.token.Kind.{Kind}
use Rattle.lmn_lexer.specs.declared.token.Kind.TheVariants.{Name, Link, Int, Context, End, LParen, RParen, LBrace, RBrace, LBracket, RBracket, Comma, Dot, Arrow, AtAt, Bar, Backslash, Equal, Less, Plus}
use Rattle.lmn_parser_grammar.proofs.Ends.{begun_to_end}
use Rattle.lmn_parser_grammar.proofs.Refusals.{all_begins, refused_plain}
use Rattle.lmn_parser_grammar.proofs.Scans.{within_scanned}
use Rattle.lmn_parser_grammar.proofs.program_examples.Goals as goal

one_of_two : 1 < 3
one_of_two = omega arith

one_of_four : 1 < 4
one_of_four = omega arith

two_of_five : 2 < 5
two_of_five = omega arith

seven_of_nine : 7 < 9
seven_of_nine = omega arith

seven_of_ten : 7 < 10
seven_of_ten = omega arith

abbrev text : List Kind
text = Name ∷ AtAt ∷ Name ∷ LParen ∷ Link ∷ RParen ∷ Backslash ∷ LBrace ∷ Context ∷ RBrace ∷ Arrow ∷ Context ∷ Less ∷ Int ∷ Plus ∷ Int ∷ Bar
    ∷ Name ∷ Comma ∷ Link ∷ Equal ∷ LBracket ∷ Name ∷ Bar ∷ Link ∷ RBracket ∷ Dot ∷ []

abbrev contexts : List Kind
contexts = LBrace ∷ Context ∷ LBracket ∷ RBracket ∷ RBrace ∷ Comma ∷ Context ∷ LBracket ∷ Link ∷ RBracket ∷ Arrow ∷ Name ∷ []

pub returns : goal.returns
unfolding stop
returns c = record {
  whole = begun_to_end text (all_begins (text ++ End ∷ []) refl);
  no_guard = refused_plain _ 7 (within_scanned _ refl) refl seven_of_ten;
  no_list = refused_plain _ 7 (within_scanned _ refl) refl seven_of_nine;
  not_expected = (
    refused_plain _ 1 (within_scanned _ refl) refl one_of_two,
    refused_plain _ 1 (within_scanned _ refl) refl one_of_four,
    refused_plain _ 1 (within_scanned _ refl) refl one_of_four,
    refused_plain _ 2 (within_scanned _ refl) refl two_of_five,
  );
  contexts = begun_to_end contexts (all_begins (contexts ++ End ∷ []) refl);
}
