-- Printed terms are read.
use Rattle.std.proofs.Common.{◌≡◌, ℕ, ◌+◌, Bool, true, false, if◌then◌else◌, List, [], ◌∷◌, ◌++◌, length, refl, sym, ap, ◌∙◌, subst, arith, Decides}
use Rattle.std.specs.Prelude.{codes, bytes_eq}
use Rattle.std.proofs.lemmas.List.{append_assoc, append-nil, map-append}
use Rattle.std.proofs.lemmas.Slice.Eq.{bytes_eq-Decides}
use Rattle.lmn_base.specs.declared.refusal.Pos.{Pos}
use Rattle.lmn_congruence.specs.Rules.{Label, named, integer}
use Rattle.lmn_lexer.specs.declared.token.Kind.TheVariants as kind
use Rattle.lmn_lexer.specs.declared.token.Token.{Token}
use Rattle.lmn_lexer.specs.Laying.{Word}
use Rattle.lmn_parser.specs.Syntax as syntax
use Rattle.lmn_parser.specs.Trees.{At, IsTerm, is_link, is_atom, is_list, empty_list, closed_list, open_list, IsWrittenAtom, with_name, with_integer, IsArguments, no_parentheses, some_arguments, IsTerms, last_term, more_terms}
use Rattle.lmn_flatten_plain.proofs.Decimals.{integer_spelled}
use Rattle.lmn_flatten_plain.specs.Links.{Link, made, Use}
use Rattle.lmn_flatten_plain.specs.Expanded.{ExpandedLeaf, atom_leaf, use_links}
use Rattle.lmn_flatten_plain.specs.Parts.{Parts, NumberedParts, joined_parts}
use Rattle.lmn_flatten_plain.specs.Meanings.{place_at, label_at}
use Rattle.lmn_flatten_plain.specs.Expansion.{link_used, an_atom, argument, expanded_arguments, rest, expanded_term, expanded_terms, cells}
use Rattle.lmn_flatten_plain.specs.Words.{Piece, word, space, words_in, with_commas, spaced, label_piece, parenthesized}
use Rattle.lmn_flatten_plain.proofs.Standing.{SameKinds, Stands, stands_as, kind_at, behind}
use Rattle.lmn_flatten_plain.proofs.LabelWords.{name_means, name_is_at}
use Rattle.lmn_flatten_plain.proofs.ReadGuards.{Read, words_behind}
use Rattle.lmn_flatten_plain.proofs.ReadLeaves.{link_here, label_here}
use Rattle.lmn_flatten_plain.specs.Spelled.{LabelSpelled}
use Rattle.lmn_print_folded.specs.Terms.{FoldedTerm, link, labelled, FoldedTerms, no_term, term_and}
use Rattle.lmn_print_folded.specs.Words.{is_named, is_cell, is_empty_list, term_pieces, cell_pieces, rest_pieces, terms_pieces}
use Rattle.lmn_print_folded_laws.specs.Apart.{TermApart, link_apart, atom_apart, TermsApart, none_apart, more_apart}
use Rattle.lmn_print_folded_laws.specs.Spelled.{TermSpelled, TermsSpelled}
use Rattle.lmn_print_folded_laws.proofs.Ways.{Names, Inner, none_named, weaker, own, side}

-- parts that are leaves alone
abbrev pub only : List ExpandedLeaf → Parts
only ls = record { leaves = ls; membranes = []; contexts = []; rule_contexts = []; rules = []; table = [] }

-- parts of leaves alone, joined, have both leaves alone
pub both_only : (p q : Parts) (ls ks : List ExpandedLeaf) → p ≡ only ls → q ≡ only ks → joined_parts p q ≡ only (ls ++ ks)
both_only p q ls ks e f = ap (λ p. joined_parts p q) e ∙ ap (λ q. joined_parts (only ls) q) f

-- labels of lists

abbrev dot : Label
dot = named (codes ".")

named_is : (name : List ℕ) (l : Label) → is_named name l ≡ true → l ≡ named name
named_is name (named n) e = ap named (by (bytes_eq n name) (bytes_eq-Decides n name) e)
  where
    by : (t : Bool) → Decides t (n ≡ name) → t ≡ true → n ≡ name
    by true d e = d.0 refl
    by false d e = absurd (cc)
named_is name (integer z) e = absurd (cc)

empty_is : (l : Label) (ts : FoldedTerms) → is_empty_list l ts ≡ true → (ts ≡ no_term) × (l ≡ named (codes "[]"))
empty_is l no_term e = (refl, named_is (codes "[]") l e)
empty_is l (term_and t ts) e = absurd (cc)

-- how a list ends in the tree
pub data Ending : Type 0 where
  closed : Ending
  onto : syntax.Term → Ending

abbrev listed : syntax.Terms → Ending → syntax.Term
listed ts closed = syntax.list ts
listed ts (onto t) = syntax.list_onto ts t

module _ {tokens : List Token} {words : List Word} (places : List Pos) (same : SameKinds tokens words) where
  -- What a part of the tree is: the atoms that are made of it, and their links.

  pub record TermMade (t : FoldedTerm) (x : syntax.Term) (pos : Pos) (way : List ℕ) (k : ℕ) : Type 0 where
    pub leaves : List ExpandedLeaf
    pub mades : List Link
    pub parts : expanded_term words places pos way (made way) x k ≡ only leaves
    pub apart : (let u = argument words places pos way x in TermApart t u.link leaves mades)
    pub names : Names way mades

  abbrev pub TermIs : FoldedTerm → syntax.Term → Type 0
  TermIs t x = (pos : Pos) (way : List ℕ) (k : ℕ) → TermMade t x pos way k

  pub record TermsMade (ts : FoldedTerms) (xs : syntax.Terms) (pos : Pos) (way : List ℕ) (k : ℕ) : Type 0 where
    pub leaves : List ExpandedLeaf
    pub mades : List Link
    pub parts : expanded_terms words places pos way xs k ≡ only leaves
    pub apart : TermsApart ts (use_links (expanded_arguments words places pos way xs)) leaves mades
    pub inner : Inner way mades

  abbrev pub TermsIs : FoldedTerms → syntax.Terms → Type 0
  TermsIs ts xs = (pos : Pos) (way : List ℕ) (k : ℕ) → TermsMade ts xs pos way k

  -- the end of a list
  abbrev pub end_use : Pos → List ℕ → Ending → Use
  end_use pos way closed = link_used words places (made (1 ∷ way)) pos
  end_use pos way (onto t) = argument words places pos (1 ∷ way) t

  abbrev pub end_parts : Pos → List ℕ → Ending → NumberedParts
  end_parts pos way closed = an_atom words places (named (codes "[]")) (link_used words places (made (1 ∷ way)) pos ∷ []) pos
  end_parts pos way (onto t) = expanded_term words places pos (1 ∷ way) (made (1 ∷ way)) t

  pub record EndMade (t : FoldedTerm) (ending : Ending) (pos : Pos) (way : List ℕ) (k : ℕ) : Type 0 where
    pub leaves : List ExpandedLeaf
    pub mades : List Link
    pub parts : end_parts pos way ending k ≡ only leaves
    pub apart : (let u = end_use pos way ending in TermApart t u.link leaves mades)
    pub names : Names (1 ∷ way) mades

  abbrev pub EndIs : FoldedTerm → Ending → Type 0
  EndIs t ending = (pos : Pos) (way : List ℕ) (k : ℕ) → EndMade t ending pos way k

  abbrev pub EndReads : Ending → ℕ → ℕ → Type 0
  EndReads closed m q = m ≡ q
  EndReads (onto t) m q = At tokens m kind.Bar × IsTerm tokens t (m + 1) q

  -- The rest of a cell: cells, and an end, which is that of the whole list.
  pub record RestMade (r : FoldedTerm) (more : syntax.Terms) (pos : Pos) (way : List ℕ) (k : ℕ) (end : Use) (ls : List ExpandedLeaf) (ms : List Link) : Type 0 where
    pub leaves : List ExpandedLeaf
    pub mades : List Link
    pub parts : cells words places pos way end (made way) more k ≡ only leaves
    pub apart : (let u = rest words places pos way end more in TermApart r u.link (leaves ++ ls) (mades ++ ms))
    pub names : Names way mades

  abbrev pub RestIs : FoldedTerm → FoldedTerm → syntax.Terms → Type 0
  RestIs r last more = (pos : Pos) (way : List ℕ) (k : ℕ) (end : Use) (ls : List ExpandedLeaf) (ms : List Link) → TermApart last end.link ls ms → RestMade r more pos way k end ls ms

  pub record CellMade (ts : FoldedTerms) (xs : syntax.Terms) (pos : Pos) (way : List ℕ) (k : ℕ) (x : Link) (end : Use) (ls : List ExpandedLeaf) (ms : List Link) : Type 0 where
    pub leaves : List ExpandedLeaf
    pub mades : List Link
    pub parts : cells words places pos way end x xs k ≡ only leaves
    pub apart : TermApart (labelled dot ts) x (leaves ++ ls) (x ∷ (mades ++ ms))
    pub inner : Inner way mades

  abbrev pub CellIs : FoldedTerms → FoldedTerm → syntax.Terms → Type 0
  CellIs ts last xs = (pos : Pos) (way : List ℕ) (k : ℕ) (x : Link) (end : Use) (ls : List ExpandedLeaf) (ms : List Link) → TermApart last end.link ls ms → CellMade ts xs pos way k x end ls ms

  pub record RestRead (r : FoldedTerm) (m : ℕ) (ws : List Word) : Type 0 where
    pub last : FoldedTerm
    pub more : syntax.Terms
    pub stop : ℕ
    pub reads : (x : syntax.Term) (p : ℕ) → IsTerm tokens x p m → IsTerms tokens (syntax.term_and x more) p stop
    pub is : RestIs r last more
    pub ending : Ending
    pub finish : ℕ
    pub ends : EndReads ending stop finish
    pub end_is : EndIs last ending
    pub after : Stands tokens words finish ws

  pub record CellRead (ts : FoldedTerms) (p : ℕ) (ws : List Word) : Type 0 where
    pub last : FoldedTerm
    pub first : syntax.Term
    pub others : syntax.Terms
    pub stop : ℕ
    pub reads : IsTerms tokens (syntax.term_and first others) p stop
    pub is : CellIs ts last (syntax.term_and first others)
    pub ending : Ending
    pub finish : ℕ
    pub ends : EndReads ending stop finish
    pub end_is : EndIs last ending
    pub after : Stands tokens words finish ws

  abbrev pub CanReadTerm : FoldedTerm → Type 0
  CanReadTerm t = (p : ℕ) (ws : List Word) → Stands tokens words p (words_in (term_pieces t) ++ ws) → Read places same (IsTerm tokens) (TermIs t) p ws

  abbrev pub CanReadRest : FoldedTerm → Type 0
  CanReadRest r = (m : ℕ) (ws : List Word) → Stands tokens words m (words_in (rest_pieces r) ++ ws) → RestRead r m ws

  abbrev pub CanReadCell : FoldedTerms → Type 0
  CanReadCell ts = (p : ℕ) (ws : List Word) → Stands tokens words p (words_in (cell_pieces ts) ++ ws) → CellRead ts p ws

  pub data Readable : FoldedTerms → Type 0 where
    none : Readable no_term
    one_and : {t : FoldedTerm} {ts : FoldedTerms} → CanReadTerm t → CanReadRest t → Readable ts → Readable (term_and t ts)

  -- A label with its arguments.

  nothing_is : TermsIs no_term syntax.no_term
  nothing_is pos way k = record { leaves = []; mades = []; parts = refl; apart = none_apart; inner = none_named way }

  more_is : {t : FoldedTerm} {ts : FoldedTerms} {x : syntax.Term} {xs : syntax.Terms} → TermIs t x → TermsIs ts xs → TermsIs (term_and t ts) (syntax.term_and x xs)
  more_is {x = x} {xs = xs} one others pos way k =
      let p = expanded_term words places pos (0 ∷ way) (made (0 ∷ way)) x k in
      let a = one pos (0 ∷ way) k in
      let b = others pos (1 ∷ way) (k + length p.table) in
      record {
        leaves = a.leaves ++ b.leaves;
        mades = a.mades ++ b.mades;
        parts = both_only p (expanded_terms words places pos (1 ∷ way) xs (k + length p.table)) a.leaves b.leaves a.parts b.parts;
        apart = more_apart a.apart b.apart;
        inner = side a.names (weaker b.inner);
      }

  terms_list : {t : FoldedTerm} {ts : FoldedTerms} → CanReadTerm t → Readable ts → (p : ℕ) (ws : List Word)
      → Stands tokens words p (words_in (with_commas (term_pieces t ∷ terms_pieces ts)) ++ ws) → Read places same (IsTerms tokens) (TermsIs (term_and t ts)) p ws
  terms_list can none p ws s =
      let one = can p ws s in
      record { part = syntax.term_and one.part syntax.no_term; stop = one.stop; reads = last_term one.reads; is = more_is one.is nothing_is; after = one.after }
  terms_list {t} can (one_and {t = u} {ts = us} next other more) p ws s =
      let comma : Word = record { kind = kind.Comma; bytes = codes "," } in
      let list = with_commas (term_pieces u ∷ terms_pieces us) in
      let one = can p (comma ∷ (words_in list ++ ws)) (stands_as tokens words (words_behind (term_pieces t) (word kind.Comma (codes ",") ∷ space ∷ list) ws) s) in
      let others = terms_list next more (one.stop + 1) ws (behind same one.after) in
      record {
        part = syntax.term_and one.part others.part;
        stop = others.stop;
        reads = more_terms one.reads (kind_at same one.after) others.reads;
        is = more_is one.is others.is;
        after = others.after;
      }

  pub arguments_read : {ts : FoldedTerms} → Readable ts → (p : ℕ) (ws : List Word) → Stands tokens words p (words_in (parenthesized (terms_pieces ts)) ++ ws)
      → Read places same (IsArguments tokens) (TermsIs ts) p ws
  arguments_read none p ws s = record { part = syntax.no_term; stop = p; reads = no_parentheses; is = nothing_is; after = s }
  arguments_read (one_and {t = t} {ts = ts} can other more) p ws s =
      let close : Word = record { kind = kind.RParen; bytes = codes ")" } in
      let list = with_commas (term_pieces t ∷ terms_pieces ts) in
      let inside = terms_list can more (p + 1) (close ∷ ws) (stands_as tokens words (words_behind list (word kind.RParen (codes ")") ∷ []) ws) (behind same s)) in
      record {
        part = inside.part;
        stop = inside.stop + 1;
        reads = some_arguments (kind_at same s) inside.reads (kind_at same inside.after);
        is = inside.is;
        after = behind same inside.after;
      }

  -- the token of a label, with arguments behind it
  pub label_atom : (l : Label) → LabelSpelled l → (p : ℕ) (ws : List Word) → Stands tokens words p (words_in (label_piece l ∷ []) ++ ws)
      → Stands tokens words (p + 1) ws × (label_at words places p ≡ l) × ((xs : syntax.Terms) (q : ℕ) → IsArguments tokens xs (p + 1) q → IsWrittenAtom tokens p xs p q)
  label_atom (named name) h p ws s =
      (behind same s, label_here places same _ _ p _ s ∙ name_means name, λ xs q a. with_name (name_is_at tokens p name (kind_at same s)) a)
  label_atom (integer z) h p ws s =
      let spelled = integer_spelled z h in
      (behind same s, label_here places same _ _ p _ s ∙ ap integer spelled.value, λ xs q a. with_integer (kind_at same s) a)

  atom_is : (l : Label) (ts : FoldedTerms) (p : ℕ) (xs : syntax.Terms) → label_at words places p ≡ l → TermsIs ts xs → TermIs (labelled l ts) (syntax.atom p xs)
  atom_is l ts p xs e is pos way k =
      let place = place_at words places p in
      let a = is place way (k + 0) in
      let us = expanded_arguments words places place way xs in
      let leaf = atom_leaf (label_at words places p) (us ++ link_used words places (made way) pos ∷ []) place in
      record {
        leaves = leaf ∷ a.leaves;
        mades = made way ∷ a.mades;
        parts = ap (λ q. joined_parts (only (leaf ∷ [])) q) a.parts;
        apart = atom_apart e (map-append (λ (u : Use). u.link) us (link_used words places (made way) pos ∷ [])) a.apart;
        names = own a.inner;
      }

  pieces_behind : (l : Label) (ps : List Piece) (ws : List Word) → words_in (label_piece l ∷ ps) ++ ws ≡ words_in (label_piece l ∷ []) ++ (words_in ps ++ ws)
  pieces_behind l ps ws = words_behind (label_piece l ∷ []) ps ws

  named_read : (l : Label) (ts : FoldedTerms) → LabelSpelled l → Readable ts → (p : ℕ) (ws : List Word) → Stands tokens words p (words_in (label_piece l ∷ parenthesized (terms_pieces ts)) ++ ws)
      → Read places same (IsTerm tokens) (TermIs (labelled l ts)) p ws
  named_read l ts h can p ws s =
      let head = label_atom l h p (words_in (parenthesized (terms_pieces ts)) ++ ws) (stands_as tokens words (pieces_behind l (parenthesized (terms_pieces ts)) ws) s) in
      let args = arguments_read can (p + 1) ws head.0 in
      record {
        part = syntax.atom p args.part;
        stop = args.stop;
        reads = is_atom (head.2 args.part args.stop args.reads);
        is = atom_is l ts p args.part head.1 args.is;
        after = args.after;
      }

  -- Lists.

  as_label : {l m : Label} {ts : FoldedTerms} {a : Link} {ls : List ExpandedLeaf} {ms : List Link} → l ≡ m → TermApart (labelled m ts) a ls ms → TermApart (labelled l ts) a ls ms
  as_label {l} {m} {ts} {a} {ls} {ms} e h = let P : Label → Type 0 = λ l. TermApart (labelled l ts) a ls ms in subst P (sym e) h

  cell_is : (e r last : FoldedTerm) (x : syntax.Term) (more : syntax.Terms) → TermIs e x → RestIs r last more → CellIs (term_and e (term_and r no_term)) last (syntax.term_and x more)
  cell_is e r last x more one others pos way k a end ls ms fin =
      let p = expanded_term words places pos (0 ∷ way) (made (0 ∷ way)) x (k + 0) in
      let t = one pos (0 ∷ way) (k + 0) in
      let q = others pos (1 ∷ way) (k + 0 + length p.table) end ls ms fin in
      let leaf = atom_leaf (named (codes ".")) (argument words places pos (0 ∷ way) x ∷ rest words places pos (1 ∷ way) end more ∷ link_used words places a pos ∷ []) pos in
      let P : List ExpandedLeaf → Type 0 = λ ks. TermApart (labelled dot (term_and e (term_and r no_term))) a (leaf ∷ ks) (a ∷ ((t.mades ++ q.mades) ++ ms)) in
      let Q : List Link → Type 0 = λ ns. TermApart (labelled dot (term_and e (term_and r no_term))) a (leaf ∷ (t.leaves ++ ((q.leaves ++ ls) ++ []))) (a ∷ ns) in
      record {
        leaves = leaf ∷ (t.leaves ++ q.leaves);
        mades = t.mades ++ q.mades;
        parts = ap (λ q. joined_parts (only (leaf ∷ [])) q) (both_only p (cells words places pos (1 ∷ way) end (made (1 ∷ way)) more (k + 0 + length p.table)) t.leaves q.leaves t.parts q.parts);
        apart = subst P (ap (λ ks. t.leaves ++ ks) (append-nil (q.leaves ++ ls)) ∙ sym (append_assoc t.leaves q.leaves ls))
            (subst Q (ap (λ ks. t.mades ++ ks) (append-nil (q.mades ++ ms)) ∙ sym (append_assoc t.mades q.mades ms))
            (atom_apart refl refl (more_apart t.apart (more_apart q.apart none_apart))));
        inner = side t.names q.names;
      }

  cell_read : {e r : FoldedTerm} → CanReadTerm e → CanReadRest r → CanReadCell (term_and e (term_and r no_term))
  cell_read {e} {r} one others p ws s =
      let t = one p (words_in (rest_pieces r) ++ ws) (stands_as tokens words (words_behind (term_pieces e) (rest_pieces r) ws) s) in
      let q = others t.stop ws t.after in
      record {
        last = q.last;
        first = t.part;
        others = q.more;
        stop = q.stop;
        reads = q.reads t.part p t.reads;
        is = cell_is e r q.last t.part q.more t.is q.is;
        ending = q.ending;
        finish = q.finish;
        ends = q.ends;
        end_is = q.end_is;
        after = q.after;
      }

  -- two terms are a cell
  cell_of : (l : Label) (ts : FoldedTerms) → is_cell l ts ≡ true → Readable ts → CanReadCell ts × (l ≡ dot)
  cell_of l no_term e can = absurd (cc)
  cell_of l (term_and t no_term) e can = absurd (cc)
  cell_of l (term_and t (term_and r (term_and u us))) e can = absurd (cc)
  cell_of l (term_and t (term_and r no_term)) e (one_and can other (one_and can' rests more)) =
      (λ p ws s. cell_read can rests p ws s, named_is (codes ".") l e)

  made_list : (l : Label) (ts : FoldedTerms) (last : FoldedTerm) (x : syntax.Term) (xs : syntax.Terms) (ending : Ending) (pos : Pos) (way : List ℕ) (k : ℕ) → l ≡ dot → CellIs ts last xs → EndIs last ending
      → (let p = cells words places pos (0 ∷ way) (end_use pos way ending) (made way) xs k in expanded_term words places pos way (made way) x k ≡ joined_parts p (end_parts pos way ending (k + length p.table)))
      → (let u = argument words places pos way x in u.link ≡ made way) → TermMade (labelled l ts) x pos way k
  made_list l ts last x xs ending pos way k e is ends all own_link =
      let p = cells words places pos (0 ∷ way) (end_use pos way ending) (made way) xs k in
      let b = ends pos way (k + length p.table) in
      let a = is pos (0 ∷ way) k (made way) (end_use pos way ending) b.leaves b.mades b.apart in
      let P : Link → Type 0 = λ u. TermApart (labelled l ts) u (a.leaves ++ b.leaves) (made way ∷ (a.mades ++ b.mades)) in
      record {
        leaves = a.leaves ++ b.leaves;
        mades = made way ∷ (a.mades ++ b.mades);
        parts = all ∙ both_only p (end_parts pos way ending (k + length p.table)) a.leaves b.leaves a.parts b.parts;
        apart = subst P (sym own_link) (as_label e a.apart);
        names = own (side (weaker a.inner) b.names);
      }

  list_is : (l : Label) (ts : FoldedTerms) (last : FoldedTerm) (x : syntax.Term) (xs : syntax.Terms) (ending : Ending) → l ≡ dot → CellIs ts last (syntax.term_and x xs) → EndIs last ending
      → TermIs (labelled l ts) (listed (syntax.term_and x xs) ending)
  list_is l ts last x xs closed e is ends pos way k = made_list l ts last (syntax.list (syntax.term_and x xs)) (syntax.term_and x xs) closed pos way k e is ends refl refl
  list_is l ts last x xs (onto t) e is ends pos way k = made_list l ts last (syntax.list_onto (syntax.term_and x xs) t) (syntax.term_and x xs) (onto t) pos way k e is ends refl refl

  list_reads : (xs : syntax.Terms) (ending : Ending) (p stop finish : ℕ) → At tokens p kind.LBracket → IsTerms tokens xs (p + 1) stop → EndReads ending stop finish
      → At tokens finish kind.RBracket → IsTerm tokens (listed xs ending) p (finish + 1)
  list_reads xs closed p stop finish b h e c = let P : ℕ → Type 0 = λ q. IsTerms tokens xs (p + 1) q in is_list (closed_list b (subst P e h) c)
  list_reads xs (onto t) p stop finish b h e c = is_list (open_list b h e.0 e.1 c)

  list_read : (l : Label) (ts : FoldedTerms) → l ≡ dot → CanReadCell ts → (p : ℕ) (ws : List Word)
      → Stands tokens words p (words_in (word kind.LBracket (codes "[") ∷ (cell_pieces ts ++ word kind.RBracket (codes "]") ∷ [])) ++ ws) → Read places same (IsTerm tokens) (TermIs (labelled l ts)) p ws
  list_read l ts e can p ws s =
      let close : Word = record { kind = kind.RBracket; bytes = codes "]" } in
      let c = can (p + 1) (close ∷ ws) (stands_as tokens words (words_behind (cell_pieces ts) (word kind.RBracket (codes "]") ∷ []) ws) (behind same s)) in
      record {
        part = listed (syntax.term_and c.first c.others) c.ending;
        stop = c.finish + 1;
        reads = list_reads (syntax.term_and c.first c.others) c.ending p c.stop c.finish (kind_at same s) c.reads c.ends (kind_at same c.after);
        is = list_is l ts c.last c.first c.others c.ending e c.is c.end_is;
        after = behind same c.after;
      }

  empty_term : (l : Label) (ts : FoldedTerms) → (ts ≡ no_term) × (l ≡ named (codes "[]")) → TermIs (labelled l ts) (syntax.list syntax.no_term)
  empty_term l ts e pos way k =
      let leaf = atom_leaf (named (codes "[]")) (link_used words places (made way) pos ∷ []) pos in
      let P : FoldedTerms → Type 0 = λ ts. TermApart (labelled l ts) (made way) (leaf ∷ []) (made way ∷ []) in
      record { leaves = leaf ∷ []; mades = made way ∷ []; parts = refl; apart = subst P (sym e.0) (atom_apart (sym e.1) refl none_apart); names = own (none_named way) }

  empty_end : (l : Label) (ts : FoldedTerms) → (ts ≡ no_term) × (l ≡ named (codes "[]")) → EndIs (labelled l ts) closed
  empty_end l ts e pos way k =
      let leaf = atom_leaf (named (codes "[]")) (link_used words places (made (1 ∷ way)) pos ∷ []) pos in
      let P : FoldedTerms → Type 0 = λ ts. TermApart (labelled l ts) (made (1 ∷ way)) (leaf ∷ []) (made (1 ∷ way) ∷ []) in
      record { leaves = leaf ∷ []; mades = made (1 ∷ way) ∷ []; parts = refl; apart = subst P (sym e.0) (atom_apart (sym e.1) refl none_apart); names = own (none_named (1 ∷ way)) }

  -- what ends a list is its own rest
  no_cells : (r : FoldedTerm) → RestIs r r syntax.no_term
  no_cells r pos way k end ls ms fin = record { leaves = []; mades = []; parts = refl; apart = fin; names = weaker (none_named way) }

  onto_end : (r : FoldedTerm) (t : syntax.Term) → TermIs r t → EndIs r (onto t)
  onto_end r t is pos way k =
      let a = is pos (1 ∷ way) k in record { leaves = a.leaves; mades = a.mades; parts = a.parts; apart = a.apart; names = a.names }

  onto_read : (r : FoldedTerm) (m : ℕ) (ws : List Word) → At tokens m kind.Bar → Read places same (IsTerm tokens) (TermIs r) (m + 1) ws → RestRead r m ws
  onto_read r m ws bar t = record {
    last = r;
    more = syntax.no_term;
    stop = m;
    reads = λ x p h. last_term h;
    is = no_cells r;
    ending = onto t.part;
    finish = t.stop;
    ends = (bar, t.reads);
    end_is = onto_end r t.part t.is;
    after = t.after;
  }

  empty_rest : (l : Label) (ts : FoldedTerms) → (ts ≡ no_term) × (l ≡ named (codes "[]")) → (m : ℕ) (ws : List Word) → Stands tokens words m ws → RestRead (labelled l ts) m ws
  empty_rest l ts e m ws s = record {
    last = labelled l ts;
    more = syntax.no_term;
    stop = m;
    reads = λ x p h. last_term h;
    is = no_cells (labelled l ts);
    ending = closed;
    finish = m;
    ends = refl;
    end_is = empty_end l ts e;
    after = s;
  }

  cells_is : (l : Label) (ts : FoldedTerms) (last : FoldedTerm) (x : syntax.Term) (xs : syntax.Terms) → l ≡ dot → CellIs ts last (syntax.term_and x xs) → RestIs (labelled l ts) last (syntax.term_and x xs)
  cells_is l ts last x xs e is pos way k end ls ms fin =
      let c = is pos way k (made way) end ls ms fin in
      record { leaves = c.leaves; mades = made way ∷ c.mades; parts = c.parts; apart = as_label e c.apart; names = own c.inner }

  cells_rest : (l : Label) (ts : FoldedTerms) → l ≡ dot → CanReadCell ts → (m : ℕ) (ws : List Word) → Stands tokens words m (record { kind = kind.Comma; bytes = codes "," } ∷ (words_in (cell_pieces ts) ++ ws))
      → RestRead (labelled l ts) m ws
  cells_rest l ts e can m ws s =
      let c = can (m + 1) ws (behind same s) in
      record {
        last = c.last;
        more = syntax.term_and c.first c.others;
        stop = c.stop;
        reads = λ x p h. more_terms h (kind_at same s) c.reads;
        is = cells_is l ts c.last c.first c.others e c.is;
        ending = c.ending;
        finish = c.finish;
        ends = c.ends;
        end_is = c.end_is;
        after = c.after;
      }

  labelled_read : (l : Label) (ts : FoldedTerms) → LabelSpelled l → Readable ts → CanReadTerm (labelled l ts)
  labelled_read l ts h can p ws s = go (is_cell l ts) (is_empty_list l ts) refl refl s
    where
      go : (b c : Bool) → is_cell l ts ≡ b → is_empty_list l ts ≡ c
          → Stands tokens words p (words_in (if b then word kind.LBracket (codes "[") ∷ (cell_pieces ts ++ word kind.RBracket (codes "]") ∷ [])
          else if c then word kind.LBracket (codes "[") ∷ word kind.RBracket (codes "]") ∷ [] else label_piece l ∷ parenthesized (terms_pieces ts)) ++ ws)
          → Read places same (IsTerm tokens) (TermIs (labelled l ts)) p ws
      go true c e f s = let cell = cell_of l ts e can in list_read l ts cell.1 cell.0 p ws s
      go false true e f s =
          let close = behind same s in record {
            part = syntax.list syntax.no_term;
            stop = p + 2;
            reads = is_list (empty_list (kind_at same s) (kind_at same close));
            is = empty_term l ts (empty_is l ts f);
            after = let P : ℕ → Type 0 = λ n. Stands tokens words n ws in subst P (omega arith) (behind same close);
          }
      go false false e f s = named_read l ts h can p ws s

  labelled_rest : (l : Label) (ts : FoldedTerms) → LabelSpelled l → Readable ts → CanReadRest (labelled l ts)
  labelled_rest l ts h can m ws s = go (is_cell l ts) (is_empty_list l ts) refl refl s
    where
      go : (b c : Bool) → is_cell l ts ≡ b → is_empty_list l ts ≡ c
          → Stands tokens words m (words_in (if b then word kind.Comma (codes ",") ∷ space ∷ cell_pieces ts
          else if c then [] else spaced kind.Bar (codes "|") ++ label_piece l ∷ parenthesized (terms_pieces ts)) ++ ws)
          → RestRead (labelled l ts) m ws
      go true c e f s = let cell = cell_of l ts e can in cells_rest l ts cell.1 cell.0 m ws s
      go false true e f s = empty_rest l ts (empty_is l ts f) m ws s
      go false false e f s = onto_read (labelled l ts) m ws (kind_at same s) (named_read l ts h can (m + 1) ws (behind same s))

  link_read : (x : ℕ) → CanReadTerm (link x)
  link_read x p ws s = record {
    part = syntax.link p;
    stop = p + 1;
    reads = is_link (kind_at same s);
    is = λ pos way k. record { leaves = []; mades = []; parts = refl; apart = link_apart (link_here places same x p ws s); names = weaker (none_named way) };
    after = behind same s;
  }

  mutual
    term_readable : (t : FoldedTerm) → TermSpelled t → CanReadTerm t × CanReadRest t
    term_readable (link x) h = (link_read x, λ m ws s. onto_read (link x) m ws (kind_at same s) (link_read x (m + 1) ws (behind same s)))
    term_readable (labelled l ts) h = (labelled_read l ts h.0 (terms_readable ts h.1), labelled_rest l ts h.0 (terms_readable ts h.1))

    pub terms_readable : (ts : FoldedTerms) → TermsSpelled ts → Readable ts
    terms_readable no_term h = none
    terms_readable (term_and t ts) h = let one = term_readable t h.0 in one_and one.0 one.1 (terms_readable ts h.1)
