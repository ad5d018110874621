-- Folded lines read back as processes.
use Rattle.std.proofs.Common.{◌≡◌, ℕ, List, map, refl, sym, ap, ◌∙◌, subst}
use Rattle.lmn_base.specs.declared.rule.Plain.{Plain}
use Rattle.lmn_base.specs.Names.{IsNames}
use Rattle.lmn_congruence.specs.Congruence.{Congruent, back}
use Rattle.lmn_congruence.specs.Plains.{level_process, SolidOf}
use Rattle.lmn_congruence.specs.Process.{Process, Closed}
use Rattle.lmn_congruence.specs.Regions.{Region, region_process}
use Rattle.lmn_congruence.specs.Rules as tree
use Rattle.lmn_print_folded_laws.specs.Reordered.{SameUpToAtomOrder}
use Rattle.lmn_print_folded_laws.proofs.Reordering.{as_same, is_same}
use Rattle.lmn_congruence.specs.Translation.{region_of, top_of}
use Rattle.lmn_congruence.proofs.Solids.{congruent_exactly_same}
use Rattle.lmn_congruence.proofs.TranslatedLinks.{solids_closed}
use Rattle.lmn_lexer.specs.declared.token.Token.{Token}
use Rattle.lmn_lexer.specs.Faults.{NothingWrong}
use Rattle.lmn_lexer.specs.Laying.{Word, words_of}
use Rattle.lmn_lexer.proofs.LaidTexts.{laid_texts_are_cut}
use Rattle.lmn_lexer.proofs.OneCut.{one_cut}
use Rattle.lmn_parser.specs.Readings.{Reads}
use Rattle.lmn_parser.specs.Syntax.{Clauses}
use Rattle.lmn_flatten_plain.specs.Laws.{IsPlain, NamesAreShort}
use Rattle.lmn_flatten_plain.specs.LinkNumbers.{RulesNumbered}
use Rattle.lmn_flatten_plain.specs.NamesHeld.{LevelHeld}
use Rattle.lmn_flatten_plain.specs.SolidLines.{as_level}
use Rattle.lmn_flatten_plain.specs.Spelled.{LevelSpelled}
use Rattle.lmn_flatten_plain.specs.Texts.{IntegersInRange}
use Rattle.lmn_flatten_plain.specs.Words.{words_in, with_full_stops}
use Rattle.lmn_flatten_plain.proofs.SolidLines.{same_process, own_solid}
use Rattle.lmn_flatten_plain.proofs.SolidNames.{solid_held}
use Rattle.lmn_flatten_plain.proofs.SolidNumbers.{solid_rules_numbered}
use Rattle.lmn_flatten_plain.proofs.SomePlain.{some_plain}
use Rattle.lmn_print_folded.specs.Lines.{IsFoldedLine}
use Rattle.lmn_print_folded.specs.Terms.{Folded}
use Rattle.lmn_print_folded.specs.Words.{folded_pieces, line_of_folded}
use Rattle.lmn_print_folded_laws.specs.Spelled.{FoldedSpelled}
use Rattle.lmn_print_folded_laws.proofs.FoldedLaid.{folded_laid, line_right}
use Rattle.lmn_print_folded_laws.specs.ReadBack.{FoldedSolidLinesAreRead, FoldedLinesReadBack}
use Rattle.lmn_print_folded_laws.proofs.Kept.{kept}
use Rattle.lmn_print_folded_laws.proofs.SameLines.{folded_lines_are_same}
use Rattle.lmn_print_folded_laws.proofs.SpelledForms.{numbered_form_spelled}
use Rattle.lmn_print_folded_laws.proofs.TopsBack.{AtomFine, RuleFine, region_fine, still_fine, top_back}
use Rattle.lmn_flatten_plain.proofs.TextPlains.{all_ranges}

-- The line of a region reads as a tree; the top of each plain of this tree is the level of a region that is the same.
abbrev TopIs : List tree.Name → Region → Plain → Type 0
TopIs names S p = (T : Region) × SameUpToAtomOrder S T × Closed (region_process T) × (top_of names p ≡ as_level T)

lines_are_read : (names : List tree.Name) (S : Region) (line : List ℕ) → IsNames names → LevelHeld names (as_level S) → LevelSpelled (as_level S)
    → RulesNumbered (as_level S) → Closed (region_process S) → IsFoldedLine S line
    → (tokens : List Token) × (tree : Clauses) × Reads line tokens tree × (NamesAreShort (words_of line tokens) → NothingWrong line) × ((p : Plain) → IsPlain line tokens tree names p → TopIs names S p)
lines_are_read names S line is held spelled numbered closed h =
    let read = folded_lines_are_same S line h closed (numbered_form_spelled S line h closed spelled) in
    let tokens = read.0 in
    let fine = region_fine names S held spelled numbered in (
      tokens,
      read.1,
      read.2,
      read.3,
      λ p plain.
          let it = read.4 names p plain in
          let same = it.1 in
          let there = kept (AtomFine names) (RuleFine names) same.to (still_fine names same.to) (as_same same.to same.same) fine in
          (it.0, same, it.2, top_back (words_of line tokens) (map (λ (t : Token). t.pos) tokens) names is read.1 p plain it.0 it.3 there),
    )

-- the folded line of a solid reads back as its process
pub folded_solid_lines_are_read : FoldedSolidLinesAreRead
folded_solid_lines_are_read names given s line well solid has named spelled h =
    let S = region_of names given.rules s in
    let read = lines_are_read names S line named.0 (solid_held names given s well has named) spelled (solid_rules_numbered names given s well has) (solids_closed names given.rules s solid) h in (
      read.0,
      read.1,
      read.2,
      read.3,
      λ p plain.
          let it = read.4 p plain in
          let P : tree.Level → Type 0 = λ l. SolidOf l it.0 in
          (it.0, subst P (sym it.3) (own_solid it.0 it.2), it.1),
    )

-- Its integers are in range.

form_ranges : (f : Folded) → FoldedSpelled f → (tokens : List Token) {t : Clauses} → Reads (line_of_folded f) tokens t → IntegersInRange (words_of (line_of_folded f) tokens)
form_ranges f s tokens r =
    let ws = words_in (with_full_stops (folded_pieces f)) in
    let cut = laid_texts_are_cut (line_of_folded f) ws (folded_laid f s) in
    let P : List Word → Type 0 = IntegersInRange in
    subst P (sym (ap (words_of (line_of_folded f)) (one_cut (line_of_folded f) tokens cut.0 r.cut cut.1) ∙ cut.2)) (all_ranges ws (line_right f s))

line_ranges : (f : Folded) (line : List ℕ) → line ≡ line_of_folded f → FoldedSpelled f → (tokens : List Token) {t : Clauses} → Reads line tokens t → IntegersInRange (words_of line tokens)
line_ranges f line e s tokens {t} r =
    let P : List ℕ → Type 0 = λ text. Reads text tokens t in
    let Q : List ℕ → Type 0 = λ text. IntegersInRange (words_of text tokens) in
    subst Q (sym e) (form_ranges f s tokens (subst P e r))

-- the folded line of a region reads back as its process
pub folded_lines_read_back : FoldedLinesReadBack
folded_lines_read_back alloc names S line is held spelled numbered closed h =
    let read = lines_are_read names S line is held spelled numbered closed h in
    let p = some_plain alloc (words_of line read.0) (map (λ (t : Token). t.pos) read.0) names read.1 in
    let it = read.4 p.0 p.1 in
    let same_solids = congruent_exactly_same S it.0 closed in
    let P : Process → Type 0 = λ q. Congruent q (region_process S) in
    record {
      solid = S;
      of = refl;
      is = h;
      plain = p.0;
      reads = record {
        tokens = read.0;
        tree = read.1;
        reads = read.2;
        in_range = line_ranges h.form line h.is (numbered_form_spelled S line h closed spelled) read.0 read.2;
        plain = p.1;
      };
      process = subst P (sym (ap level_process it.3 ∙ same_process it.0)) (back (same_solids.1 (is_same it.1)));
      closed = closed;
    }
