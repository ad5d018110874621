-- The plains of texts.
use Rattle.std.proofs.Common.{◌≡◌, List, [], ◌∷◌, ◌++◌, map, sym, subst}
use Rattle.lmn_lexer.specs.declared.token.Kind.TheVariants.{Int}
use Rattle.lmn_lexer.specs.declared.token.Token.{Token}
use Rattle.lmn_lexer.specs.Faults.{SpelledInRange}
use Rattle.lmn_lexer.specs.Laying.{Word, words_of, last_word}
use Rattle.lmn_parser.specs.Syntax.{Clauses}
use Rattle.lmn_parser.proofs.OneReading.{one_reading}
use Rattle.lmn_flatten_plain.specs.Laws.{IsPlain}
use Rattle.lmn_flatten_plain.specs.Texts.{IntegersInRange, OneTextPlain, LinesReadBack, SolidLinesReadBack}
use Rattle.lmn_flatten_plain.specs.Words.{line_of, words_in, top_pieces}
use Rattle.lmn_flatten_plain.proofs.OnePlain.{one_plain}
use Rattle.lmn_flatten_plain.proofs.PrintedLines.{lines_are_read, line_words}
use Rattle.lmn_flatten_plain.proofs.RightLines.{line_right}
use Rattle.lmn_flatten_plain.specs.SolidLines.{level_of_solid}
use Rattle.lmn_flatten_plain.proofs.SolidLines.{solid_lines_are_read}
use Rattle.lmn_flatten_plain.proofs.SomePlain.{some_plain}
use Rattle.lmn_base.proofs.Lists.{all_append}

-- a text has one plain at most
pub one_text_plain : OneTextPlain
one_text_plain text names p q h g =
    let same = one_reading text h.tokens g.tokens h.tree g.tree h.reads g.reads in
    let P : List Token → Type 0 = λ ts. IsPlain text ts h.tree names p in
    let Q : Clauses → Type 0 = λ t. IsPlain text g.tokens t names p in
    one_plain (words_of text g.tokens) (map (λ t. t.pos) g.tokens) names g.tree p q (subst Q same.1 (subst P same.0 h.plain)) g.plain

-- words have integers in range where those before the last one have
pub all_ranges : (ws : List Word) → IntegersInRange ws → IntegersInRange (ws ++ last_word ∷ [])
all_ranges ws h = all_append (λ w. w.kind ≡ Int → SpelledInRange w.bytes) ws (last_word ∷ []) h (λ e. absurd (cc), tt)

-- the line that is printed has a plain, and its top is what was printed
pub lines_read_back : LinesReadBack
lines_read_back alloc names l n is held s numbers in_rules outside =
    let read = lines_are_read names l n is held s numbers in_rules outside in
    let p = some_plain alloc (words_of (line_of l) read.0) (map (λ t. t.pos) read.0) names read.1 in
    let P : List Word → Type 0 = IntegersInRange in (
      p.0,
      record {
        tokens = read.0;
        tree = read.1;
        reads = read.2;
        in_range = subst P (sym (line_words l s read.0 read.2)) (all_ranges (words_in (top_pieces l)) (line_right l s));
        plain = p.1;
      },
      read.4 p.0 p.1,
    )

-- the line of a solid has a plain, and its top is that solid as a level
pub solid_lines_read_back : SolidLinesReadBack
solid_lines_read_back alloc names given s well solid has named spelled =
    let l = level_of_solid names given.rules s in
    let read = solid_lines_are_read names given s well solid has named spelled in
    let p = some_plain alloc (words_of (line_of l) read.0) (map (λ t. t.pos) read.0) names read.1 in
    let P : List Word → Type 0 = IntegersInRange in (
      p.0,
      record {
        tokens = read.0;
        tree = read.1;
        reads = read.2;
        in_range = subst P (sym (line_words l spelled read.0 read.2)) (all_ranges (words_in (top_pieces l)) (line_right l spelled));
        plain = p.1;
      },
      (read.4 p.0 p.1).0,
      (read.4 p.0 p.1).1,
    )
