-- Printed items, membranes and rules of a folded process are read.
use Rattle.std.proofs.Common.{◌≡◌, ℕ, ◌+◌, List, [], ◌∷◌, ◌++◌, map, length, refl, sym, ap, ◌∙◌, subst, arith}
use Rattle.std.specs.Prelude.{codes}
use Rattle.std.specs.List.{AllByRecursion}
use Rattle.std.proofs.lemmas.List.{append_assoc, length-map, length-drop}
use Rattle.lmn_base.specs.declared.refusal.Pos.{Pos}
use Rattle.lmn_congruence.specs.Rules as tree
use Rattle.lmn_lexer.specs.declared.token.Kind.TheVariants as kind
use Rattle.lmn_lexer.specs.declared.token.Token.{Token}
use Rattle.lmn_lexer.specs.Laying.{Word, last_word}
use Rattle.lmn_parser.specs.Parsing.{kinds_of}
use Rattle.lmn_parser.specs.Syntax as syntax
use Rattle.lmn_parser.specs.Trees.{IsClauses, no_clauses, more_clauses, is_process, IsOptList, no_list, some_list, IsList, last_item, more_items, IsItem, is_atom_item, is_membrane_item, in_braces, IsProgram}
use Rattle.lmn_flatten_plain.specs.Links.{Link}
use Rattle.lmn_flatten_plain.specs.Expanded.{ExpandedLeaf, atom_leaf, ExpandedLevel, ExpandedRule}
use Rattle.lmn_flatten_plain.specs.Parts.{Parts, no_parts, joined_parts, level_from_parts}
use Rattle.lmn_flatten_plain.specs.Meanings.{place_at, label_at}
use Rattle.lmn_flatten_plain.specs.Expansion.{expanded_arguments, expanded_item, expanded_items, expanded_clauses, parts_of}
use Rattle.lmn_flatten_plain.specs.Agreement.{RuleIs}
use Rattle.lmn_flatten_plain.specs.Words.{Piece, word, space, words_in, with_commas, with_full_stops, label_piece, parenthesized}
use Rattle.lmn_flatten_plain.proofs.Standing.{SameKinds, Stands, stands_as, kind_at, behind}
use Rattle.lmn_flatten_plain.proofs.Gathered as plain
use Rattle.lmn_flatten_plain.proofs.Gathered.{StandFrom, stand_apart, ItemIs, leaf_is, membrane_is, context_is, rule_context_is, rule_is, rules_items}
use Rattle.lmn_flatten_plain.proofs.ReadGuards.{Read, words_behind}
use Rattle.lmn_flatten_plain.proofs.ReadLeaves.{ItemGives as PlainGives}
use Rattle.lmn_flatten_plain.proofs.ReadLevels as levels
use Rattle.lmn_flatten_plain.proofs.ReadLevels.{joined_nothing, readable_rules}
use Rattle.lmn_flatten_plain.proofs.ReadTop.{stand_whole, size_of}
use Rattle.lmn_print_folded.specs.Terms.{FoldedItem, Folded, folded, FoldedMembranes, no_membrane, membrane_and}
use Rattle.lmn_print_folded.specs.Words.{terms_pieces, item_pieces, folded_pieces, membranes_pieces}
use Rattle.lmn_print_folded_laws.specs.Apart.{ItemsApart, no_items, items_apart, FoldedApart}
use Rattle.lmn_print_folded_laws.specs.Spelled.{ItemSpelled, FoldedSpelled, MembranesSpelled}
use Rattle.lmn_print_folded_laws.proofs.Ways.{Names, Inner, none_named, weaker, deeper, side}
use Rattle.lmn_print_folded_laws.proofs.ReadTerms.{only, TermsIs, arguments_read, label_atom, terms_readable}
use Rattle.lmn_congruence.specs.Translation.{rules}

-- what is printed one by one, in order: items, membranes, rules
pub data Printed : Type 0 where
  as_item : FoldedItem → Printed
  as_membrane : Folded → Printed
  as_rule : tree.Rule → Printed

-- one of these before a folded process
pub data Adds : Printed → Folded → Folded → Type 0 where
  adds_item : {i : FoldedItem} {is : List FoldedItem} {fs : FoldedMembranes} {rs : List tree.Rule} → Adds (as_item i) (folded is fs rs) (folded (i ∷ is) fs rs)
  adds_membrane : {m : Folded} {fs : FoldedMembranes} {rs : List tree.Rule} → Adds (as_membrane m) (folded [] fs rs) (folded [] (membrane_and m fs) rs)
  adds_rule : {r : tree.Rule} {rs : List tree.Rule} → Adds (as_rule r) (folded [] no_membrane rs) (folded [] no_membrane (r ∷ rs))

abbrev nothing_folded : Folded
nothing_folded = folded [] no_membrane []

no_items_made : {ls : List ExpandedLeaf} {ms : List Link} → ItemsApart [] ls ms → ms ≡ []
no_items_made no_items = refl

front_empty : (first more ms ns : List Link) → first ≡ [] → ns ≡ first ++ more → ms ++ ns ≡ first ++ (ms ++ more)
front_empty first more ms ns z e = ap (λ xs. ms ++ xs) (e ∙ ap (λ xs. xs ++ more) z) ∙ ap (λ xs. xs ++ (ms ++ more)) (sym z)

module _ {tokens : List Token} {words : List Word} (places : List Pos) (same : SameKinds tokens words) where
  -- the parts of an item, before those of others
  pub record ItemMade (i : Printed) (parts : Parts) (way : List ℕ) (table : List ExpandedRule) : Type 0 where
    pub mades : List Link
    pub names : Names way mades
    pub adds :
        (f g : Folded) (q : Parts) (ms : List Link) → Adds i f g → FoldedApart words places table f (level_from_parts q) ms →
        FoldedApart words places table g (level_from_parts (joined_parts parts q)) (mades ++ ms)

  abbrev pub ItemGives : Printed → syntax.Item → Type 0
  ItemGives i x = (way : List ℕ) (k : ℕ) (table : List ExpandedRule) → (let p = expanded_item words places way x k in StandFrom table k p.table → ItemMade i p way table)

  abbrev pub CanRead : List Piece → Printed → Type 0
  CanRead ps i = (p : ℕ) (ws : List Word) → Stands tokens words p (words_in ps ++ ws) → Read places same (IsItem tokens) (ItemGives i) p ws

  pub data Readable : List (List Piece) → Folded → Type 0 where
    none : Readable [] nothing_folded
    one_and : {ps : List Piece} {i : Printed} {pss : List (List Piece)} {f g : Folded} → CanRead ps i → Adds i f g → Readable pss f → Readable (ps ∷ pss) g

  pub record Made (f : Folded) (parts : Parts) (way : List ℕ) (table : List ExpandedRule) : Type 0 where
    pub mades : List Link
    pub inner : Inner way mades
    pub apart : FoldedApart words places table f (level_from_parts parts) mades

  abbrev pub ListGives : Folded → syntax.Items → Type 0
  ListGives f xs = (way : List ℕ) (k : ℕ) (table : List ExpandedRule) → (let p = expanded_items words places way xs k in StandFrom table k p.table → Made f p way table)

  no_parts_made : (way : List ℕ) (table : List ExpandedRule) → Made nothing_folded no_parts way table
  no_parts_made way table = record { mades = []; inner = none_named way; apart = ([], [], refl, no_items, refl, refl, refl, tt) }

  -- Items.

  item_gives : (i : FoldedItem) (p : ℕ) (xs : syntax.Terms) → label_at words places p ≡ i.label → TermsIs places same i.arguments xs → ItemGives (as_item i) (syntax.atom_item p xs)
  item_gives i p xs e is way k table h =
      let place = place_at words places p in
      let a = is place way (k + 0) in
      record { mades = a.mades; names = weaker a.inner; adds = adds }
    where
      adds : (let a = is (place_at words places p) way (k + 0) in
          (f g : Folded) (q : Parts) (ms : List Link) → Adds (as_item i) f g → FoldedApart words places table f (level_from_parts q) ms →
          FoldedApart words places table g (level_from_parts (joined_parts (expanded_item words places way (syntax.atom_item p xs) k) q)) (a.mades ++ ms))
      adds f g q ms (adds_item {is = js} {fs = fs} {rs = rs}) h =
          let place = place_at words places p in
          let a = is place way (k + 0) in
          let us = expanded_arguments words places place way xs in
          let leaf = atom_leaf (label_at words places p) us place in
          let P : Parts → Type 0 = λ t. FoldedApart words places table (folded (i ∷ js) fs rs) (level_from_parts (joined_parts (joined_parts (only (leaf ∷ [])) t) q)) (a.mades ++ ms) in
          subst P (sym a.parts)
          (a.mades ++ h.0, h.1, ap (λ ns. a.mades ++ ns) h.2 ∙ sym (append_assoc a.mades h.0 h.1), items_apart e a.apart h.3, h.4, h.5, h.6, h.7)

  item_read : (i : FoldedItem) → ItemSpelled i → CanRead (item_pieces i) (as_item i)
  item_read i h p ws s =
      let pieces = parenthesized (terms_pieces i.arguments) in
      let head = label_atom places same i.label h.0 p (words_in pieces ++ ws) (stands_as tokens words (words_behind (label_piece i.label ∷ []) pieces ws) s) in
      let args = arguments_read places same (terms_readable places same i.arguments h.1) (p + 1) ws head.0 in
      record {
        part = syntax.atom_item p args.part;
        stop = args.stop;
        reads = is_atom_item (head.2 args.part args.stop args.reads);
        is = item_gives i p args.part head.1 args.is;
        after = args.after;
      }

  -- Lists.

  item_then : (i : Printed) (f g : Folded) (x : syntax.Item) (xs : syntax.Items) → ItemGives i x → Adds i f g → ListGives f xs → ListGives g (syntax.item_and x xs)
  item_then i f g x xs first add others way k table h =
      let p = expanded_item words places (0 ∷ way) x k in
      let q = expanded_items words places (1 ∷ way) xs (k + length p.table) in
      let apart = stand_apart table p.table q.table k h in
      let a = first (0 ∷ way) k table apart.0 in
      let b = others (1 ∷ way) (k + length p.table) table apart.1 in
      record { mades = a.mades ++ b.mades; inner = side a.names (weaker b.inner); apart = a.adds f g q b.mades add b.apart }

  list_read : (ps : List Piece) {i : Printed} {pss : List (List Piece)} {f g : Folded} → CanRead ps i → Adds i f g → Readable pss f → (p : ℕ) (ws : List Word)
      → Stands tokens words p (words_in (with_commas (ps ∷ pss)) ++ ws) → Read places same (IsList tokens) (ListGives g) p ws
  list_read ps {i = i} {f = f} {g = g} can add none p ws s =
      let one = can p ws s in
      record {
        part = syntax.item_and one.part syntax.no_item;
        stop = one.stop;
        reads = last_item one.reads;
        is = item_then i nothing_folded g one.part syntax.no_item one.is add (λ way k table h. no_parts_made way table);
        after = one.after;
      }
  list_read ps {i} {f = f} {g = g} can add (one_and {ps = qs} {pss = qss} next more h) p ws s =
      let comma : Word = record { kind = kind.Comma; bytes = codes "," } in
      let list = with_commas (qs ∷ qss) in
      let one = can p (comma ∷ (words_in list ++ ws)) (stands_as tokens words (words_behind ps (word kind.Comma (codes ",") ∷ space ∷ list) ws) s) in
      let others = list_read qs next more h (one.stop + 1) ws (behind same one.after) in
      record {
        part = syntax.item_and one.part others.part;
        stop = others.stop;
        reads = more_items one.reads (kind_at same one.after) others.reads;
        is = item_then i f g one.part others.part one.is add others.is;
        after = others.after;
      }

  opt_read : {pss : List (List Piece)} {f : Folded} → Readable pss f → (p : ℕ) (ws : List Word)
      → Stands tokens words p (words_in (with_commas pss) ++ ws) → Read places same (IsOptList tokens) (ListGives f) p ws
  opt_read none p ws s = record { part = syntax.no_item; stop = p; reads = no_list; is = λ way k table h. no_parts_made way table; after = s }
  opt_read (one_and {ps = ps} can add h) p ws s =
      let list = list_read ps can add h p ws s in
      record { part = list.part; stop = list.stop; reads = some_list list.reads; is = list.is; after = list.after }

  -- Membranes.

  abbrev pub in_membrane : ExpandedLevel → List ExpandedRule → Parts
  in_membrane l rs = record { leaves = []; membranes = l ∷ []; contexts = []; rule_contexts = []; rules = []; table = rs }

  added_membrane : (m : Folded) (l : ExpandedLevel) (rs table : List ExpandedRule) (ns : List Link) → FoldedApart words places table m l ns → (f g : Folded) (q : Parts) (ms : List Link)
      → Adds (as_membrane m) f g → FoldedApart words places table f (level_from_parts q) ms → FoldedApart words places table g (level_from_parts (joined_parts (in_membrane l rs) q)) (ns ++ ms)
  added_membrane m l rs table ns inside f g q ms adds_membrane h =
      (h.0, ns ++ h.1, front_empty h.0 h.1 ns ms (no_items_made h.3) h.2, h.3, (ns, h.1, refl, inside, h.4), h.5, h.6, h.7)

  membrane_gives : (m : Folded) (xs : syntax.Items) (cs : syntax.Clauses) → ListGives m xs
      → ((way : List ℕ) (k : ℕ) → expanded_clauses words places way cs k ≡ expanded_items words places (0 ∷ way) xs k) → ItemGives (as_membrane m) (syntax.membrane_item cs)
  membrane_gives m xs cs gives e way k table h =
      let P : Parts → Type 0 = λ q. StandFrom table k q.table in
      let a = gives (0 ∷ way) k table (subst P (e way k) h) in
      let Q : Parts → Type 0 = λ q. FoldedApart words places table m (level_from_parts q) a.mades in
      let inside = subst Q (sym (e way k)) a.apart in
      let p = expanded_clauses words places way cs k in
      record {
        mades = a.mades;
        names = weaker (deeper (weaker a.inner));
        adds = λ f g q ms add h. added_membrane m (level_from_parts p) p.table table a.mades inside f g q ms add h;
      }

  membrane_read : (m : Folded) → Readable (folded_pieces m) m
      → CanRead (word kind.LBrace (codes "{") ∷ (with_commas (folded_pieces m) ++ word kind.RBrace (codes "}") ∷ [])) (as_membrane m)
  membrane_read m h p ws s =
      let close : Word = record { kind = kind.RBrace; bytes = codes "}" } in
      let list = with_commas (folded_pieces m) in
      let inside = opt_read h (p + 1) (close ∷ ws) (stands_as tokens words (words_behind list (word kind.RBrace (codes "}") ∷ []) ws) (behind same s)) in
      let cs = levels.clauses_of places same inside.reads in
      record {
        part = syntax.membrane_item cs.0;
        stop = inside.stop + 1;
        reads = is_membrane_item (in_braces (kind_at same s) cs.1 (kind_at same inside.after));
        is = membrane_gives m inside.part cs.0 inside.is cs.2;
        after = behind same inside.after;
      }

  -- Rules.

  abbrev pub one_rule : ℕ → List ExpandedRule → Parts
  one_rule n rs = record { leaves = []; membranes = []; contexts = []; rule_contexts = []; rules = n ∷ []; table = rs }

  rule_same : (r s : tree.Rule) → plain.rule r ≡ plain.rule s → r ≡ s
  rule_same r s e = cc

  rule_parts : (table : List ExpandedRule) {p : Parts} {i : plain.Printed} (r : tree.Rule) → ItemIs words places table p i → i ≡ plain.rule r
      → (n : ℕ) × (rs : List ExpandedRule) × (p ≡ one_rule n rs) × RuleIs words places table n r
  rule_parts table r (leaf_is h) e = absurd (cc)
  rule_parts table r (membrane_is h) e = absurd (cc)
  rule_parts table r (context_is h) e = absurd (cc)
  rule_parts table r (rule_context_is h) e = absurd (cc)
  rule_parts table r (rule_is {k = n} {r = s} {rs = rs} h) e = let P : tree.Rule → Type 0 = λ t. RuleIs words places table n t in (n, rs, refl, subst P (rule_same s r e) h)

  added_rule : (r : tree.Rule) (n : ℕ) (rs table : List ExpandedRule) → RuleIs words places table n r → (f g : Folded) (q : Parts) (ms : List Link)
      → Adds (as_rule r) f g → FoldedApart words places table f (level_from_parts q) ms → FoldedApart words places table g (level_from_parts (joined_parts (one_rule n rs) q)) ms
  added_rule r n rs table is f g q ms adds_rule h = (h.0, h.1, h.2, h.3, h.4, h.5, h.6, (is, h.7))

  rule_gives : (r : tree.Rule) (x : syntax.Item) → PlainGives places same (plain.rule r) x → ItemGives (as_rule r) x
  rule_gives r x gives way k table h =
      let is = rule_parts table r (gives way k table h) refl in
      record {
        mades = [];
        names = weaker (none_named way);
        adds = λ f g q ms add h.
            let P : Parts → Type 0 = λ p. FoldedApart words places table g (level_from_parts (joined_parts p q)) ms in
            subst P (sym is.2) (added_rule r is.0 is.1 table is.3 f g q ms add h);
      }

  rule_read : (ps : List Piece) (r : tree.Rule) → levels.CanRead places same ps (plain.rule r) → CanRead ps (as_rule r)
  rule_read ps r can p ws s =
      let one = can p ws s in
      record { part = one.part; stop = one.stop; reads = one.reads; is = rule_gives r one.part one.is; after = one.after }

  -- Processes.

  rules_readable : (rs : List tree.Rule) {pss : List (List Piece)} → levels.Readable places same pss (rules_items (rules rs)) → Readable pss (folded [] no_membrane rs)
  rules_readable [] levels.none = none
  rules_readable (r ∷ rs) (levels.one_and {ps = ps} can h) = one_and (rule_read ps r can) adds_rule (rules_readable rs h)

  items_readable : (is : List FoldedItem) → AllByRecursion ItemSpelled is → {pss : List (List Piece)} {fs : FoldedMembranes} {rs : List tree.Rule} → Readable pss (folded [] fs rs)
      → Readable (map item_pieces is ++ pss) (folded is fs rs)
  items_readable [] h more = more
  items_readable (i ∷ is) h more = one_and (item_read i h.0) adds_item (items_readable is h.1 more)

  mutual
    pub folded_readable : (f : Folded) → FoldedSpelled f → Readable (folded_pieces f) f
    folded_readable (folded is fs rs) h = items_readable is h.0 (membranes_readable fs h.1 (rules_readable rs (readable_rules places same (rules rs) h.2)))

    membranes_readable : (fs : FoldedMembranes) → MembranesSpelled fs → {pss : List (List Piece)} {rs : List tree.Rule} → Readable pss (folded [] no_membrane rs)
        → Readable (membranes_pieces fs ++ pss) (folded [] fs rs)
    membranes_readable no_membrane h more = more
    membranes_readable (membrane_and f fs) h more = one_and (membrane_read f (folded_readable f h.0)) adds_membrane (membranes_readable fs h.1 more)

  -- The line.

  abbrev pub ClausesGive : Folded → syntax.Clauses → Type 0
  ClausesGive f cs = (way : List ℕ) (k : ℕ) (table : List ExpandedRule) → (let p = expanded_clauses words places way cs k in StandFrom table k p.table → Made f p way table)

  clause_then : (i : Printed) (f g : Folded) (x : syntax.Item) (cs : syntax.Clauses) → ItemGives i x → Adds i f g → ClausesGive f cs
      → ClausesGive g (syntax.clause_and (syntax.process (syntax.item_and x syntax.no_item)) cs)
  clause_then i f g x cs first add others way k table =
      let p = expanded_item words places (0 ∷ 0 ∷ way) x k in
      let P : Parts → Type 0 = λ t. StandFrom table k (joined_parts t (expanded_clauses words places (1 ∷ way) cs (k + length t.table))).table
      → Made g (joined_parts t (expanded_clauses words places (1 ∷ way) cs (k + length t.table))) way table in
      subst P (sym (joined_nothing p)) (λ h.
      let q = expanded_clauses words places (1 ∷ way) cs (k + length p.table) in
      let apart = stand_apart table p.table q.table k h in
      let a = first (0 ∷ 0 ∷ way) k table apart.0 in
      let b = others (1 ∷ way) (k + length p.table) table apart.1 in
      record { mades = a.mades ++ b.mades; inner = side (weaker (deeper a.names)) (weaker b.inner); apart = a.adds f g q b.mades add b.apart })

  clauses_read : {pss : List (List Piece)} {f : Folded} → Readable pss f → (p : ℕ) (ws : List Word)
      → Stands tokens words p (words_in (with_full_stops pss) ++ ws) → Read places same (IsClauses tokens) (ClausesGive f) p ws
  clauses_read none p ws s = record { part = syntax.no_clause; stop = p; reads = no_clauses; is = λ way k table h. no_parts_made way table; after = s }
  clauses_read (one_and {ps = ps} {i = i} {g = g} can add none) p ws s =
      let dot : Word = record { kind = kind.Dot; bytes = codes "." } in
      let one = can p (dot ∷ ws) (stands_as tokens words (words_behind ps (word kind.Dot (codes ".") ∷ []) ws) s) in
      record {
        part = syntax.clause_and (syntax.process (syntax.item_and one.part syntax.no_item)) syntax.no_clause;
        stop = one.stop + 1;
        reads = more_clauses (is_process (last_item one.reads)) (kind_at same one.after) no_clauses;
        is = clause_then i nothing_folded g one.part syntax.no_clause one.is add (λ way k table h. no_parts_made way table);
        after = behind same one.after;
      }
  clauses_read (one_and {ps = ps} {i = i} {f = f} {g = g} can add (one_and {ps = qs} {pss = qss} next more h)) p ws s =
      let dot : Word = record { kind = kind.Dot; bytes = codes "." } in
      let list = with_full_stops (qs ∷ qss) in
      let one = can p (dot ∷ (words_in list ++ ws)) (stands_as tokens words
      (words_behind (ps ++ word kind.Dot (codes ".") ∷ []) (space ∷ list) ws ∙ words_behind ps (word kind.Dot (codes ".") ∷ []) (words_in list ++ ws)) s) in
      let others = clauses_read (one_and next more h) (one.stop + 1) ws (behind same one.after) in
      record {
        part = syntax.clause_and (syntax.process (syntax.item_and one.part syntax.no_item)) others.part;
        stop = others.stop;
        reads = more_clauses (is_process (last_item one.reads)) (kind_at same one.after) others.reads;
        is = clause_then i f g one.part others.part one.is add others.is;
        after = others.after;
      }

  pub record LineRead (f : Folded) : Type 0 where
    pub tree : syntax.Clauses
    pub is_tree : IsProgram tokens tree
    pub mades : List Link
    pub inner : Inner [] mades
    pub apart : (let parts = parts_of words places tree in FoldedApart words places parts.table f (level_from_parts parts) mades)

  pub line_read : (f : Folded) → FoldedSpelled f → words ≡ words_in (with_full_stops (folded_pieces f)) ++ last_word ∷ [] → LineRead f
  line_read f h e =
      let r = clauses_read (folded_readable f h) 0 (last_word ∷ []) (record { left = e }) in
      let left = r.after in
      let size = ap length left.left in
      let tokens_size = length-map tokens (λ t. t.kind) in
      let same_size = size_of (kinds_of tokens) words same.kinds in
      let there = length-drop r.stop words in
      let parts = parts_of words places r.part in
      let made = r.is [] 0 parts.table (stand_whole parts.table) in
      record { tree = r.part; is_tree = (r.stop, r.reads, kind_at same left, omega arith); mades = made.mades; inner = made.inner; apart = made.apart }
