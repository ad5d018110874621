-- A small text is accepted.
use Rattle.std.proofs.Common.{◌≡◌, ℕ, ◌+◌, ◌==◌, cond, List, [], ◌∷◌, ◌++◌, flat_map, length, map, refl, sym, ap, subst, inl, All, arith}
use Rattle.std.specs.Prelude.{codes, nat_lt, ◌||◌, if◌then◌else◌}
use Rattle.std.proofs.lemmas.List.Elements.{All-append, All-from_recursion}
use Rattle.std.proofs.lemmas.List.Recursion.{is_count_by}
use Rattle.lmn_base.specs.declared.item.Item.{Item}
use Rattle.lmn_base.specs.declared.item.Item.TheVariants.{Rule as RuleItem}
use Rattle.lmn_base.specs.declared.level.CtxUse.{CtxUse}
use Rattle.lmn_base.specs.declared.level.Leaf.{Leaf}
use Rattle.lmn_base.specs.declared.level.Level.{Level, map-Level, out-Level}
use Rattle.lmn_base.specs.declared.level.Level.TheFolds.{fold-roll-Level}
use Rattle.lmn_base.specs.declared.level.Level.TheOpen.{Level-F}
use Rattle.lmn_base.specs.declared.level.Level.TheViews.{out-roll-Level, roll-Level}
use Rattle.lmn_base.specs.declared.refusal.Pos.{Pos}
use Rattle.lmn_base.specs.declared.rule.RuleTree.{RuleTree}
use Rattle.lmn_base.specs.Names.{first_names}
use Rattle.lmn_base.specs.Items.{items_of, leaf_item, number_of_items, own_items}
use Rattle.lmn_base.specs.Levels.{leaves_of, links_of, occurrences_of_leaf}
use Rattle.lmn_base.specs.Limits.{most_head_items, most_body_items, most_conditions, most_guard_tokens}
use Rattle.lmn_base.specs.Links.{EachTwice, NumbersLinks, no_more}
use Rattle.lmn_base_walks.specs.RuleCodes.{bare_again, untyped_place, connector_place, first_with_some, from_nowhere, in_other_form, inner_rule, missing, rule_context_place, head_rows, seconds_by_membrane, size_rows, use_rows, used_again}
use Rattle.lmn_base.specs.SmallTexts.{at_column}
use Rattle.lmn_base.specs.WellMade.{IsAtomLeaf, IsWellMade}
use Rattle.lmn_base_walks.proofs.ItemLemmas.{listed_items}
use Rattle.lmn_base.proofs.Lists.{contains_none}
use Rattle.lmn_base.proofs.RowLemmas.{Nowhere}
use Rattle.lmn_flatten.specs.NameLists.{names_read}
use Rattle.lmn_flatten.specs.Outside.{outside_rules}
use Rattle.lmn_parser_grammar.proofs.Scans.{within_scanned}
use Rattle.lmn_guards.specs.Accepted.{IsAcceptedRule}
use Rattle.lmn_guards.specs.GuardCodes.{guard_rows, unheld, untyped}
use Rattle.lmn_guards.specs.Plans.{IsPlan, leaves_by_membrane, numbered_uses, typed_use}
use Rattle.lmn_lexer.specs.Cutting.{Cuts, Reaches, column_behind, place, start, token_at}
use Rattle.lmn_lexer.specs.Faults.{NothingWrong}
use Rattle.lmn_lexer.specs.Laying.{IsRight, words_of}
use Rattle.lmn_lexer.specs.declared.token.Kind.{Kind}
use Rattle.lmn_lexer.specs.declared.token.Kind.TheVariants.{Arrow, Dot, End, Name}
use Rattle.lmn_lexer.specs.declared.token.Token.{Token}
use Rattle.lmn_lexer.proofs.Building.{blank_off, token_off}
use Rattle.lmn_lexer.proofs.LaidTexts.{laid_texts_are_cut}
use Rattle.lmn_lexer.proofs.OneCut.{one_cut}
use Rattle.lmn_linkcheck.proofs.Tables.{fault_is_told}
use Rattle.lmn_flatten_numbers.specs.Outside.{context_place}
use Rattle.lmn_parser.specs.Syntax.{Clauses}
use Rattle.lmn_flatten_plain.specs.Laws.{IsPlain}
use Rattle.lmn_flatten_plain.proofs.PrintedLines.{plains_are_well_made}
use Rattle.lmn_flatten_plain.proofs.ShortTexts.{arrow, dot, is_its_tree, its_tree, its_words, laid, name_word}
use Rattle.lmn_app.specs.TextExamples.{SmallTextIsAccepted, no_plan, one_atom, one_leaf, small_names, small_plain, small_rule, small_text}
use Rattle.lmn_app_reading.specs.Texts.{ReadsAs}
use Rattle.lmn_contexts.proofs.WorkedRows.{counted}

-- ---- its tokens

abbrev pub token : Kind → ℕ → ℕ → Token
token kind first end = record { kind = kind; start = first; end = end; pos = at_column (first + 1) }

abbrev pub small_tokens : List Token
small_tokens = token Name 0 1 ∷ token Dot 1 2 ∷ token Name 3 4 ∷ token Arrow 5 7 ∷ token Name 8 9 ∷ token Dot 9 10 ∷ token End 10 10 ∷ []

-- how many lines end in a text
abbrev pub lines_in : List ℕ → ℕ
lines_in [] = 0
lines_in (b ∷ bs) = cond (b == 10) (1 + lines_in bs) (lines_in bs)

abbrev pub placed : List ℕ → Pos
placed before = record { line = 1 + lines_in before; column = column_behind 1 before }

-- the place behind bytes, counted by hand
pub place_is : (before : List ℕ) → place before ≡ placed before
place_is before = ap (λ n. record { line = 1 + n; column = column_behind 1 before }) (sym (is_count_by lines_in (λ b. b == 10) refl (λ b bs. refl) before))

-- the token of a kind behind these bytes, its place counted by hand
abbrev counted_token : Kind → List ℕ → List ℕ → Token
counted_token kind before bytes = record { kind = kind; start = length before; end = length before + length bytes; pos = placed before }

token_is : (kind : Kind) (before bytes : List ℕ) → token_at kind before bytes ≡ counted_token kind before bytes
token_is kind before bytes = ap (λ p. record { kind = kind; start = length before; end = length before + length bytes; pos = p }) (place_is before)

-- the tokens before the end, as they are cut off
abbrev cut_off : List Token
cut_off =
    token_at Name [] (codes "a") ∷ token_at Dot (codes "a") (codes ".") ∷ token_at Name (codes "a. ") (codes "a") ∷ token_at Arrow (codes "a. a ") (codes ":-")
    ∷ token_at Name (codes "a. a :- ") (codes "b") ∷ token_at Dot (codes "a. a :- b") (codes ".") ∷ []

cut_whole : Reaches small_text (record { before = small_text; tokens = cut_off; rest = [] })
cut_whole =
    let a = token_off Name (codes "a") (codes ". a :- b.") start refl refl in
    let dot = token_off Dot (codes ".") (codes " a :- b.") a refl refl in
    let head = token_off Name (codes "a") (codes " :- b.") (blank_off 32 dot refl refl) refl refl in
    let arrow = token_off Arrow (codes ":-") (codes " b.") (blank_off 32 head refl refl) refl refl in
    let body = token_off Name (codes "b") (codes ".") (blank_off 32 arrow refl refl) refl refl in
    token_off Dot (codes ".") [] body refl refl

small_cut : Cuts small_text small_tokens
small_cut = subst (Cuts small_text) same (record { but_end = cut_off; cut = cut_whole; with_end = refl })
  where
    same : cut_off ++ token_at End small_text [] ∷ [] ≡ small_tokens
    same = λ i.
        token_is Name [] (codes "a") i ∷ token_is Dot (codes "a") (codes ".") i ∷ token_is Name (codes "a. ") (codes "a") i ∷ token_is Arrow (codes "a. a ") (codes ":-") i
        ∷ token_is Name (codes "a. a :- ") (codes "b") i ∷ token_is Dot (codes "a. a :- b") (codes ".") i ∷ token_is End small_text [] i ∷ []

-- ---- nothing is wrong in it

-- a letter is no integer and is short, and so is a sign
letter_right : (b : ℕ) → IsRight (name_word (b ∷ []))
letter_right b = (λ e. absurd (cc), λ h. absurd (omega (arith, h)))

dot_right : IsRight dot
dot_right = (λ e. absurd (cc), λ h. absurd h)

arrow_right : IsRight arrow
arrow_right = (λ e. absurd (cc), λ h. absurd h)

nothing_wrong : NothingWrong small_text
nothing_wrong = (laid_texts_are_cut small_text its_words laid).3 (letter_right 97, (dot_right, (letter_right 97, (arrow_right, (letter_right 98, (dot_right, tt))))))

-- ---- its tree

abbrev pub small_tree : Clauses
small_tree = its_tree (at_column 4)

-- ---- its plain

-- such an atom beside rules has no links
pub no_links : (name column : ℕ) (rules : List ℕ) → links_of (one_atom name column rules) ≡ []
no_links name column rules = ap (λ ls. map (λ o. o.link) (flat_map occurrences_of_leaf ls)) (fold-roll-Level (List Leaf) (λ l. l.leaves ++ flat_map (λ inner. inner) l.membranes) _)

is_its_plain : IsPlain small_text small_tokens small_tree small_names small_plain
is_its_plain = record {
  number = λ l. 0;
  apart = λ a b h k e. absurd (contains_none a h);
  top = refl;
  table = record { numbered = subst (λ ls. NumbersLinks (ls ++ []) 0) (sym (no_links 7 1 (0 ∷ []))) no_more; tells = λ x u e. absurd (cc) };
  rules = (
    record {
      number = λ l. 0;
      apart = λ a b h k e. absurd (contains_none a h);
      head = refl;
      guard = tt;
      body = refl;
      pos = refl;
      table = record { numbered = subst (λ ls. NumbersLinks ls 0) (λ i. sym (no_links 7 4 []) i ++ (sym (no_links 8 9 []) i ++ [])) no_more; tells = λ x u e. absurd (cc) };
    },
    tt,
  );
}

pub reads : ReadsAs small_text small_names small_plain
reads = record {
  tokens = small_tokens;
  tree = small_tree;
  right = nothing_wrong;
  reads = record { cut = small_cut; is_tree = is_its_tree small_tokens refl (at_column 4) refl };
  within = within_scanned _ refl;
  is_plain = is_its_plain;
}

-- ---- its rule

-- the leaves of a level
pub leaves_listed : (l : Level-F Level) → leaves_of (roll-Level l) ≡ l.leaves ++ flat_map (λ inner. inner) (map-Level Level (List Leaf) leaves_of l).membranes
leaves_listed l = fold-roll-Level (List Leaf) (λ l. l.leaves ++ flat_map (λ inner. inner) l.membranes) l

abbrev head_items : List Item
head_items = leaf_item (one_leaf 7 4) ∷ []

abbrev body_items : List Item
body_items = leaf_item (one_leaf 8 9) ∷ []

abbrev small_table : List RuleTree
small_table = small_rule ∷ []

-- where too many items and a missing head are found, by their numbers
abbrev too_many : ℕ → ℕ → List Pos
too_many head body = if nat_lt most_head_items head || (nat_lt most_body_items body || (nat_lt most_conditions 0 || nat_lt most_guard_tokens 0)) then at_column 4 ∷ [] else []

abbrev none_held : ℕ → List Pos
none_held head = if head == 0 then at_column 4 ∷ [] else []

-- where contexts are missing in the body, and stand there again
abbrev not_once : List Item → List Item → List Pos
not_once head body = flat_map (missing body) head ++ flat_map (bare_again head body) body

abbrev two_forms : List Item → List Pos
two_forms items = flat_map (in_other_form items) items

small_rule_accepted : IsAcceptedRule small_table small_rule
small_rule_accepted =
    let head : items_of small_rule.head ≡ head_items = listed_items _ in
    let body : items_of small_rule.body ≡ body_items = listed_items _ in
    let top : own_items (out-Level small_rule.head) ≡ head_items = ap own_items (out-roll-Level _) in
    let inside : (out-Level small_rule.head).membranes ≡ [] = ap (λ o. o.membranes) (out-roll-Level _) in
    let leaves : leaves_of small_rule.head ≡ one_leaf 7 4 ∷ [] = leaves_listed _ in
    let head_size : number_of_items small_rule.head ≡ 1 = counted _ in
    let body_size : number_of_items small_rule.body ≡ 1 = counted _ in
    let by_size = All-from_recursion Nowhere (size_rows small_rule) ((λ i. too_many (head_size i) (body_size i)), ((λ i. none_held (head_size i)), tt)) in
    let by_head = All-from_recursion Nowhere (head_rows small_table small_rule)
    (ap (flat_map (inner_rule small_table)) head, (ap (flat_map connector_place) head, (ap (flat_map untyped_place) top, (ap (flat_map rule_context_place) top, (ap (λ ms. first_with_some (flat_map seconds_by_membrane ms)) inside, tt))))) in
    let by_use = All-from_recursion Nowhere (use_rows small_rule)
    ((λ i. flat_map (used_again (head i)) (head i)), ((λ i. not_once (head i) (body i)), ((λ i. flat_map (from_nowhere (head i) []) (body i)), ((λ i. two_forms (head i ++ body i)), tt)))) in
    record {
      linked = subst EachTwice (λ i. sym (no_links 7 4 []) i ++ sym (no_links 8 9 []) i) (λ x. inl refl);
      contexts = All-append Nowhere (size_rows small_rule) (head_rows small_table small_rule ++ use_rows small_rule) by_size (All-append Nowhere (head_rows small_table small_rule) (use_rows small_rule) by_head by_use);
      guard = All-from_recursion Nowhere (guard_rows small_rule) (ap (flat_map (untyped small_rule.head [])) leaves, (ap (flat_map (unheld small_rule.head)) leaves, tt));
    }

-- its plan has no typed context
small_planned : IsPlan small_rule no_plan
small_planned =
    let here : leaves_by_membrane small_rule.head ≡ (one_leaf 7 4 ∷ []) ∷ [] = fold-roll-Level (List (List Leaf)) (λ l. (l.leaves ∷ []) ++ flat_map (λ inner. inner) l.membranes) _ in
    record { kinds = sym (ap (numbered_uses (typed_use small_rule.head []) 0) here); bound = refl }

-- ---- it is accepted

well_made : IsWellMade small_plain
well_made =
    let leaves : leaves_of small_plain.top ≡ one_leaf 7 1 ∷ [] = leaves_listed _ in
    plains_are_well_made (words_of small_text small_tokens) (map (λ t. t.pos) small_tokens) small_names small_tree small_plain is_its_plain
    (subst (All IsAtomLeaf) (sym leaves) (All-from_recursion IsAtomLeaf (one_leaf 7 1 ∷ []) (tt, tt)))
    (fold-roll-Level (List CtxUse) (λ l. l.contexts ++ flat_map (λ inner. inner) l.membranes) _)
    (fold-roll-Level (List CtxUse) (λ l. l.rule_contexts ++ flat_map (λ inner. inner) l.membranes) _)

-- the text is accepted
pub small_text_is_accepted : SmallTextIsAccepted
small_text_is_accepted =
    let items : items_of small_plain.top ≡ leaf_item (one_leaf 7 1) ∷ RuleItem 0 ∷ [] = listed_items _ in
    record {
      short = omega arith;
      named = λ ts tree right reads within. ap (λ us. names_read first_names (words_of small_text us)) (one_cut small_text small_tokens ts small_cut reads.cut);
      accepted = record {
        reads = reads;
        outside = All-from_recursion Nowhere (outside_rules small_plain.top ∷ []) (ap (flat_map context_place) items, tt);
        links = λ a f. contains_none a (fault_is_told small_plain well_made a f);
        rules = (small_rule_accepted, tt);
        planned = (small_planned, tt);
      };
    }
