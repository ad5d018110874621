-- Printed leaves are read.
use Rattle.std.proofs.Common.{◌≡◌, ℕ, ◌+◌, List, [], ◌∷◌, ◌++◌, map, refl, sym, ap, ◌∙◌, subst, arith}
use Rattle.std.specs.Prelude.{codes}
use Rattle.lmn_base.specs.declared.refusal.Pos.{Pos}
use Rattle.lmn_congruence.specs.Rules as tree
use Rattle.lmn_lexer.specs.declared.token.Kind.{Kind}
use Rattle.lmn_lexer.specs.declared.token.Kind.TheVariants as kind
use Rattle.lmn_lexer.specs.declared.token.Token.{Token}
use Rattle.lmn_lexer.specs.Laying.{Word}
use Rattle.lmn_parser.specs.Syntax.{link, Terms, no_term, term_and, Item, atom_item, bracketed, context_item, closed_item, rule_context, equation}
use Rattle.lmn_parser.specs.Trees.{IsItem, is_atom_item, is_context_item, is_closed, is_bracketed, is_rule_context, is_equation, with_name, with_integer, IsArguments, no_parentheses, some_arguments, IsTerms, last_term, more_terms, is_link}
use Rattle.lmn_flatten_plain.proofs.Decimals.{integer_spelled}
use Rattle.lmn_flatten_plain.specs.Links.{Link, written}
use Rattle.lmn_flatten_plain.specs.Expanded.{atom_leaf, use_links, ExpandedRule}
use Rattle.lmn_flatten_plain.specs.Parts.{Parts, no_parts, joined_parts}
use Rattle.lmn_flatten_plain.specs.Meanings.{word_at, place_at, label_at, name_spelled, label_spelled}
use Rattle.lmn_flatten_plain.specs.Expansion.{expanded_arguments, expanded_terms, expanded_item}
use Rattle.lmn_flatten_plain.specs.Words.{word, words_in, with_commas, link_piece, links_pieces, leaf_pieces, untyped_pieces, rule_context_piece}
use Rattle.lmn_flatten_plain.specs.Spelled.{LeafSpelled}
use Rattle.lmn_flatten_plain.specs.Agreement.{link_by_number}
use Rattle.lmn_flatten_plain.proofs.Standing.{SameKinds, Stands, stands_as, stands_at, kind_at, behind, word_here}
use Rattle.lmn_flatten_plain.proofs.LabelWords.{name_means, name_is_at}
use Rattle.lmn_flatten_plain.proofs.Gathered as printed
use Rattle.lmn_flatten_plain.proofs.Gathered.{Printed, StandFrom, ItemIs, leaf_is, context_is, rule_context_is}
use Rattle.lmn_flatten_plain.proofs.ReadGuards.{Read, words_behind}

module _ {tokens : List Token} {words : List Word} (places : List Pos) (same : SameKinds tokens words) where
  -- what is expanded of an item is the printed one
  abbrev pub ItemGives : Printed → Item → Type 0
  ItemGives i x = (way : List ℕ) (k : ℕ) (table : List ExpandedRule) → StandFrom table k (expanded_item words places way x k).table
      → ItemIs words places table (expanded_item words places way x k) i

  abbrev pub ReadItem : Printed → ℕ → List Word → Type 0
  ReadItem i p rest = Read places same (IsItem tokens) (ItemGives i) p rest

  -- terms that are these links
  record AreLinks (xs : List ℕ) (ts : Terms) : Type 0 where
    links : (pos : Pos) (way : List ℕ) → use_links (expanded_arguments words places pos way ts) ≡ map link_by_number xs
    no_more : (pos : Pos) (way : List ℕ) (k : ℕ) → expanded_terms words places pos way ts k ≡ no_parts

  pub link_here : (x p : ℕ) (rest : List Word) → Stands tokens words p (words_in (link_piece x ∷ []) ++ rest) → written ((word_at words places p).bytes) ≡ link_by_number x
  link_here x p rest s = ap (λ (w : Word). written w.bytes) (word_here same places s)

  one_more : (a b : Link) (ls ms : List Link) → a ≡ b → ls ≡ ms → a ∷ ls ≡ b ∷ ms
  one_more a b ls ms e f = cc

  links_list : (x : ℕ) (xs : List ℕ) (p : ℕ) (rest : List Word) → Stands tokens words p (words_in (with_commas (map (λ y. link_piece y ∷ []) (x ∷ xs))) ++ rest)
      → Read places same (IsTerms tokens) (AreLinks (x ∷ xs)) p rest
  links_list x [] p rest s = record {
    part = term_and (link p) no_term;
    stop = p + 1;
    reads = last_term (is_link (kind_at same s));
    is = record { links = λ pos way. ap (λ a. a ∷ []) (link_here x p rest s); no_more = λ pos way k. refl };
    after = behind same s;
  }
  links_list x (y ∷ xs) p rest s =
      let comma = behind same s in
      let more = links_list y xs (p + 1 + 1) rest (behind same comma) in
      let is = more.is in
      record {
        part = term_and (link p) more.part;
        stop = more.stop;
        reads = more_terms (is_link (kind_at same s)) (kind_at same comma) more.reads;
        is = record {
          links = λ pos way. one_more _ _ _ _ (link_here x p _ s) (is.links pos (1 ∷ way));
          no_more = λ pos way k. is.no_more pos (1 ∷ way) (k + 0);
        };
        after = more.after;
      }

  links_read : (xs : List ℕ) (p : ℕ) (rest : List Word) → Stands tokens words p (words_in (links_pieces xs) ++ rest) → Read places same (IsArguments tokens) (AreLinks xs) p rest
  links_read [] p rest s =
      record { part = no_term; stop = p; reads = no_parentheses; is = record { links = λ pos way. refl; no_more = λ pos way k. refl }; after = s }
  links_read (x ∷ xs) p rest s =
      let close : Word = record { kind = kind.RParen; bytes = codes ")" } in
      let list = with_commas (map (λ y. link_piece y ∷ []) (x ∷ xs)) in
      let inside = links_list x xs (p + 1) (close ∷ rest) (stands_as tokens words (words_behind list (word kind.RParen (codes ")") ∷ []) rest) (behind same s)) in
      record {
        part = inside.part;
        stop = inside.stop + 1;
        reads = some_arguments (kind_at same s) inside.reads (kind_at same inside.after);
        is = inside.is;
        after = behind same inside.after;
      }

  atom_leaf_is : (l : tree.Label) (xs : List ℕ) (p : ℕ) (ts : Terms) → label_at words places p ≡ l → AreLinks xs ts
      → ItemGives (printed.leaf (tree.atom_leaf l xs)) (atom_item p ts)
  atom_leaf_is l xs p ts e links way k table h =
      let pos = place_at words places p in
      let P : Parts → Type 0 = λ q. ItemIs words places table (joined_parts (record { leaves = atom_leaf (label_at words places p) (expanded_arguments words places pos way ts) pos ∷ []; membranes = []; contexts = []; rule_contexts = []; rules = []; table = [] }) q) (printed.leaf (tree.atom_leaf l xs)) in
      subst P (sym (links.no_more pos way (k + 0))) (leaf_is (e, links.links pos way))

  pub label_here : (k : Kind) (bytes : List ℕ) (p : ℕ) (rest : List Word) → Stands tokens words p (record { kind = k; bytes = bytes } ∷ rest)
      → label_at words places p ≡ label_spelled k bytes
  label_here k bytes p rest s = ap (λ (w : Word). label_spelled w.kind w.bytes) (word_here same places s)

  pub leaf_read : (l : tree.Leaf) (p : ℕ) (rest : List Word) → LeafSpelled l → Stands tokens words p (words_in (leaf_pieces l) ++ rest) → ReadItem (printed.leaf l) p rest
  leaf_read (tree.atom_leaf (tree.named name) xs) p rest h s =
      let args = links_read xs (p + 1) rest (behind same s) in
      record {
        part = atom_item p args.part;
        stop = args.stop;
        reads = is_atom_item (with_name (name_is_at tokens p name (kind_at same s)) args.reads);
        is = atom_leaf_is (tree.named name) xs p args.part (label_here _ _ p _ s ∙ name_means name) args.is;
        after = args.after;
      }
  leaf_read (tree.atom_leaf (tree.integer z) xs) p rest h s =
      let args = links_read xs (p + 1) rest (behind same s) in
      let spelled = integer_spelled z h.0 in
      record {
        part = atom_item p args.part;
        stop = args.stop;
        reads = is_atom_item (with_integer (kind_at same s) args.reads);
        is = atom_leaf_is (tree.integer z) xs p args.part (label_here _ _ p _ s ∙ ap tree.integer spelled.value) args.is;
        after = args.after;
      }
  leaf_read (tree.connector_leaf x y) p rest h s =
      let sign = behind same s in
      let right = behind same sign in
      record {
        part = equation (link p) (p + 1) (link (p + 1 + 1));
        stop = p + 1 + 1 + 1;
        reads = is_equation (is_link (kind_at same s)) (kind_at same sign) (is_link (kind_at same right));
        is = λ way k table h. leaf_is (refl, one_more _ _ _ _ (link_here x p _ s) (ap (λ a. a ∷ []) (link_here y (p + 1 + 1) rest right)));
        after = behind same right;
      }
  leaf_read (tree.typed_leaf name x) p rest h s =
      let bracket = behind same s in
      let inside = stands_at tokens words (let e : p + 1 + 1 ≡ p + 2 = omega arith in e) (behind same bracket) in
      let close = stands_at tokens words (let e : p + 2 + 1 ≡ p + 3 = omega arith in e) (behind same inside) in
      record {
        part = bracketed p (p + 2);
        stop = p + 4;
        reads = is_bracketed (kind_at same s) (kind_at same bracket) (kind_at same inside) (kind_at same close);
        is = λ way k table h. leaf_is (ap (λ (w : Word). name_spelled w.kind w.bytes) (word_here same places s), link_here x (p + 2) _ inside);
        after = stands_at tokens words (omega arith) (behind same close);
      }

  pub context_read : (c : tree.Context) (p : ℕ) (rest : List Word) → Stands tokens words p (words_in (untyped_pieces c) ++ rest) → ReadItem (printed.context c) p rest
  context_read (tree.closed_context name) p rest s =
      let bracket = behind same s in
      let close = stands_at tokens words (let e : p + 1 + 1 ≡ p + 2 = omega arith in e) (behind same bracket) in
      record {
        part = closed_item p;
        stop = p + 3;
        reads = is_closed (kind_at same s) (kind_at same bracket) (kind_at same close);
        is = λ way k table h. context_is (ap (λ (w : Word). tree.closed_context (name_spelled w.kind w.bytes)) (word_here same places s));
        after = stands_at tokens words (omega arith) (behind same close);
      }
  context_read (tree.open_context name) p rest s = record {
    part = context_item p;
    stop = p + 1;
    reads = is_context_item (kind_at same s);
    is = λ way k table h. context_is (ap (λ (w : Word). tree.open_context (name_spelled w.kind w.bytes)) (word_here same places s));
    after = behind same s;
  }

  pub rule_context_read : (name : tree.Name) (p : ℕ) (rest : List Word) → Stands tokens words p (words_in (rule_context_piece name ∷ []) ++ rest)
      → ReadItem (printed.rule_context name) p rest
  rule_context_read name p rest s = record {
    part = rule_context p;
    stop = p + 1;
    reads = is_rule_context (kind_at same s);
    is = λ way k table h. rule_context_is (ap (λ (w : Word). name_spelled w.kind w.bytes) (word_here same places s));
    after = behind same s;
  }
