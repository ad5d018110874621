-- Printed levels and rules are read.
use Rattle.std.proofs.Common.{◌≡◌, ℕ, suc, ◌+◌, List, [], ◌∷◌, ◌++◌, map, length, refl, sym, ap, ◌∙◌, subst, arith}
use Rattle.std.specs.Prelude.{codes}
use Rattle.std.specs.List.{AllByRecursion, AllZip}
use Rattle.std.proofs.lemmas.List.{append-nil}
use Rattle.lmn_base.specs.declared.refusal.Pos.{Pos}
use Rattle.lmn_congruence.specs.Rules as tree
use Rattle.lmn_lexer.specs.declared.token.Kind.TheVariants as kind
use Rattle.lmn_lexer.specs.declared.token.Token.{Token}
use Rattle.lmn_lexer.specs.Laying.{Word}
use Rattle.lmn_parser.specs.Syntax.{Item, membrane_item, group, Items, no_item, item_and, process, rule, Clauses, no_clause, clause_and, WrittenCondition}
use Rattle.lmn_parser.specs.Trees.{StandsAt, IsClauses, no_clauses, last_clause, unnamed_rule, is_process, is_rule, all_taken, IsBody, no_guard, guarded, IsOptList, no_list, some_list, IsList, last_item, more_items, is_membrane_item, is_group, in_braces}
use Rattle.lmn_flatten_plain.specs.Expanded.{ExpandedRule}
use Rattle.lmn_flatten_plain.specs.Parts.{Parts, no_parts, joined_parts, level_from_parts, rule_of_parts}
use Rattle.lmn_flatten_plain.specs.Expansion.{expanded_item, expanded_items, expanded_clauses}
use Rattle.lmn_flatten_plain.specs.Words.{Piece, word, space, words_in, with_commas, spaced, untyped_pieces, rule_context_piece, leaf_pieces, condition_pieces, guard_pieces, level_pieces, levels_pieces, rule_pieces, rules_pieces}
use Rattle.lmn_flatten_plain.specs.Spelled.{LeafSpelled, ConditionSpelled, LevelSpelled, LevelsSpelled, RuleSpelled, RulesSpelled}
use Rattle.lmn_flatten_plain.specs.Agreement.{CondIs, LevelIs}
use Rattle.lmn_flatten_plain.proofs.Standing.{SameKinds, Stands, stands_as, kind_at, behind}
use Rattle.lmn_flatten_plain.proofs.Gathered as printed
use Rattle.lmn_flatten_plain.proofs.Gathered.{Printed, gathered, membranes_items, rules_items, level_items, gathered_level, StandFrom, stand_at, stand_apart, ItemIs, membrane_is, rule_is, added_is}
use Rattle.lmn_flatten_plain.proofs.ReadGuards.{Read, words_behind, guard_list}
use Rattle.lmn_flatten_plain.proofs.ReadLeaves.{ItemGives, ReadItem, leaf_read, context_read, rule_context_read}
use Rattle.lmn_parser.proofs.TreesExist.{some_place}

-- parts with nothing joined to them stay the same
pub joined_nothing : (p : Parts) → joined_parts p no_parts ≡ p
joined_nothing p = simp append-nil

module _ {tokens : List Token} {words : List Word} (places : List Pos) (same : SameKinds tokens words) where
  -- these pieces are read as a printed item
  abbrev pub CanRead : List Piece → Printed → Type 0
  CanRead ps i = (p : ℕ) (rest : List Word) → Stands tokens words p (words_in ps ++ rest) → ReadItem places same i p rest

  pub data Readable : List (List Piece) → List Printed → Type 0 where
    none : Readable [] []
    one_and : {ps : List Piece} {i : Printed} {pss : List (List Piece)} {is : List Printed} → CanRead ps i → Readable pss is → Readable (ps ∷ pss) (i ∷ is)

  pub appended : {pss qss : List (List Piece)} {is js : List Printed} → Readable pss is → Readable qss js → Readable (pss ++ qss) (is ++ js)
  appended none s = s
  appended (one_and r h) s = one_and r (appended h s)

  -- what is expanded of items is these printed ones
  abbrev pub ListGives : List Printed → Items → Type 0
  ListGives is xs = (way : List ℕ) (k : ℕ) (table : List ExpandedRule) → StandFrom table k (expanded_items words places way xs k).table
      → LevelIs words places table (level_from_parts (expanded_items words places way xs k)) (gathered is)

  item_then : (i : Printed) (is : List Printed) (x : Item) (xs : Items) → ItemGives places same i x → ListGives is xs → ListGives (i ∷ is) (item_and x xs)
  item_then i is x xs first others way k table h =
      let p = expanded_item words places (0 ∷ way) x k in
      let q = expanded_items words places (1 ∷ way) xs (k + length p.table) in
      let apart = stand_apart table p.table q.table k h in
      added_is words places table q (gathered is) (first (0 ∷ way) k table apart.0) (others (1 ∷ way) (k + length p.table) table apart.1)

  list_read : (ps : List Piece) (i : Printed) {pss : List (List Piece)} {is : List Printed} → CanRead ps i → Readable pss is → (p : ℕ) (rest : List Word)
      → Stands tokens words p (words_in (with_commas (ps ∷ pss)) ++ rest) → Read places same (IsList tokens) (ListGives (i ∷ is)) p rest
  list_read ps i can none p rest s =
      let one = can p rest s in
      record {
        part = item_and one.part no_item;
        stop = one.stop;
        reads = last_item one.reads;
        is = item_then i [] one.part no_item one.is (λ way k table h. (tt, tt, refl, refl, tt));
        after = one.after;
      }
  list_read ps i can (one_and {ps = qs} {i = j} {pss = qss} {is = is} next h) p rest s =
      let comma : Word = record { kind = kind.Comma; bytes = codes "," } in
      let more = with_commas (qs ∷ qss) in
      let one = can p (comma ∷ (words_in more ++ rest)) (stands_as tokens words (words_behind ps (word kind.Comma (codes ",") ∷ space ∷ more) rest) s) in
      let others = list_read qs j next h (one.stop + 1) rest (behind same one.after) in
      record {
        part = item_and one.part others.part;
        stop = others.stop;
        reads = more_items one.reads (kind_at same one.after) others.reads;
        is = item_then i (j ∷ is) one.part others.part one.is others.is;
        after = others.after;
      }

  opt_read : {pss : List (List Piece)} {is : List Printed} → Readable pss is → (p : ℕ) (rest : List Word)
      → Stands tokens words p (words_in (with_commas pss) ++ rest) → Read places same (IsOptList tokens) (ListGives is) p rest
  opt_read none p rest s = record { part = no_item; stop = p; reads = no_list; is = λ way k table h. (tt, tt, refl, refl, tt); after = s }
  opt_read (one_and {ps = ps} {i = i} can h) p rest s =
      let list = list_read ps i can h p rest s in
      record { part = list.part; stop = list.stop; reads = some_list list.reads; is = list.is; after = list.after }

  -- Membranes.

  pub clauses_of : {xs : Items} {p q : ℕ} → IsOptList tokens xs p q
      → (cs : Clauses) × IsClauses tokens cs p q × ((way : List ℕ) (k : ℕ) → expanded_clauses words places way cs k ≡ expanded_items words places (0 ∷ way) xs k)
  clauses_of no_list = (no_clause, no_clauses, λ way k. refl)
  clauses_of (some_list {xs = xs} l) =
      (clause_and (process xs) no_clause, last_clause (is_process l), λ way k. joined_nothing (expanded_items words places (0 ∷ way) xs k))

  membrane_gives : (l : tree.Level) (xs : Items) (cs : Clauses) → ListGives (level_items l) xs
      → ((way : List ℕ) (k : ℕ) → expanded_clauses words places way cs k ≡ expanded_items words places (0 ∷ way) xs k) → ItemGives places same (printed.membrane l) (membrane_item cs)
  membrane_gives l xs cs gives e way k table =
      let P : Parts → Type 0 = λ q. StandFrom table k q.table
      → ItemIs words places table (record { leaves = []; membranes = level_from_parts q ∷ []; contexts = []; rule_contexts = []; rules = []; table = q.table }) (printed.membrane l) in
      let Q : tree.Level → Type 0 = λ m. LevelIs words places table (level_from_parts (expanded_items words places (0 ∷ way) xs k)) m in
      subst P (sym (e way k)) (λ h. membrane_is (subst Q (gathered_level l) (gives (0 ∷ way) k table h)))

  membrane_read : (l : tree.Level) → Readable (level_pieces l) (level_items l)
      → CanRead (word kind.LBrace (codes "{") ∷ (with_commas (level_pieces l) ++ word kind.RBrace (codes "}") ∷ [])) (printed.membrane l)
  membrane_read l h p rest s =
      let close : Word = record { kind = kind.RBrace; bytes = codes "}" } in
      let list = with_commas (level_pieces l) in
      let inside = opt_read h (p + 1) (close ∷ rest) (stands_as tokens words (words_behind list (word kind.RBrace (codes "}") ∷ []) rest) (behind same s)) in
      let cs = clauses_of inside.reads in
      record {
        part = membrane_item cs.0;
        stop = inside.stop + 1;
        reads = is_membrane_item (in_braces (kind_at same s) cs.1 (kind_at same inside.after));
        is = membrane_gives l inside.part cs.0 inside.is cs.2;
        after = behind same inside.after;
      }

  -- Rules.

  pub record ReadBody (guard : List tree.Condition) (body : tree.Level) (p : ℕ) (rest : List Word) : Type 0 where
    pub conditions : List WrittenCondition
    pub part : Items
    pub stop : ℕ
    pub reads : IsBody tokens conditions part p stop
    pub holds : AllZip (CondIs words places) conditions guard
    pub is : ListGives (level_items body) part
    pub after : Stands tokens words stop rest

  body_read : (guard : List tree.Condition) (body : tree.Level) → AllByRecursion ConditionSpelled guard → Readable (level_pieces body) (level_items body)
      → (p : ℕ) (rest : List Word) → Stands tokens words p (words_in (guard_pieces guard) ++ (words_in (with_commas (level_pieces body)) ++ rest)) → ReadBody guard body p rest
  body_read [] body g h p rest s =
      let list = opt_read h p rest s in
      record { conditions = []; part = list.part; stop = list.stop; reads = no_guard list.reads; holds = tt; is = list.is; after = list.after }
  body_read (c ∷ cs) body g h p rest s =
      let bar : Word = record { kind = kind.Bar; bytes = codes "|" } in
      let more = words_in (with_commas (level_pieces body)) ++ rest in
      let conditions = guard_list places same c cs p (bar ∷ more) g
      (stands_as tokens words (words_behind (with_commas (map condition_pieces (c ∷ cs))) (spaced kind.Bar (codes "|")) more) s) in
      let list = opt_read h (conditions.stop + 1) rest (behind same conditions.after) in
      record {
        conditions = conditions.part;
        part = list.part;
        stop = list.stop;
        reads = guarded conditions.reads (kind_at same conditions.after) list.reads;
        holds = conditions.is;
        is = list.is;
        after = list.after;
      }

  -- some token stands where a list that isn't empty stands
  some_token : (p : ℕ) (ws : List Word) (w : Word) (rest : List Word) → Stands tokens words p (ws ++ w ∷ rest) → (pos : Pos) × StandsAt tokens p pos
  some_token p [] w rest s = some_place tokens p (kind_at same s)
  some_token p (v ∷ ws) w rest s = some_place tokens p (kind_at same s)

  rule_gives : (head : tree.Level) (guard : List tree.Condition) (body : tree.Level) (xs ys : Items) (cs : List WrittenCondition) (pos : Pos)
      → ListGives (level_items head) xs → AllZip (CondIs words places) cs guard → ListGives (level_items body) ys
      → ItemGives places same (printed.rule (tree.rule_of head guard body)) (group (rule no_item xs cs ys pos))
  rule_gives head guard body xs ys cs pos heads holds bodies way k table h =
      let q = expanded_items words places (1 ∷ way) xs (suc k + 0) in
      let r = expanded_items words places (2 ∷ way) ys (suc k + 0 + length q.table) in
      let apart = stand_apart table q.table r.table (k + 1) h.1 in
      let in_head = stand_at table q.table (k + 1) (suc k + 0) (omega arith) apart.0 in
      let in_body = stand_at table r.table (k + 1 + length q.table) (suc k + 0 + length q.table) (omega arith) apart.1 in
      let Q : tree.Level → Type 0 = λ m. LevelIs words places table (level_from_parts q) m in
      let R : tree.Level → Type 0 = λ m. LevelIs words places table (level_from_parts r) m in
      rule_is (
        rule_of_parts no_parts q cs r pos,
        h.0,
        subst Q (gathered_level head) (heads (1 ∷ way) (suc k + 0) table in_head),
        holds,
        subst R (gathered_level body) (bodies (2 ∷ way) (suc k + 0 + length q.table) table in_body),
      )

  rule_read : (head : tree.Level) (guard : List tree.Condition) (body : tree.Level) → Readable (level_pieces head) (level_items head)
      → AllByRecursion ConditionSpelled guard → Readable (level_pieces body) (level_items body)
      → CanRead (rule_pieces (tree.rule_of head guard body)) (printed.rule (tree.rule_of head guard body))
  rule_read head guard body heads g bodies p rest s =
      let close : Word = record { kind = kind.RParen; bytes = codes ")" } in
      let arrow : Word = record { kind = kind.Arrow; bytes = codes ":-" } in
      let last = with_commas (level_pieces body) ++ word kind.RParen (codes ")") ∷ [] in
      let more = words_in (guard_pieces guard) ++ (words_in (with_commas (level_pieces body)) ++ close ∷ rest) in
      let same_more : words_in (guard_pieces guard ++ last) ++ rest ≡ more =
      words_behind (guard_pieces guard) last rest
      ∙ ap (λ ws. words_in (guard_pieces guard) ++ ws) (words_behind (with_commas (level_pieces body)) (word kind.RParen (codes ")") ∷ []) rest) in
      let all = stands_as tokens words
      (words_behind (with_commas (level_pieces head)) (spaced kind.Arrow (codes ":-") ++ (guard_pieces guard ++ last)) rest
      ∙ ap (λ ws. words_in (with_commas (level_pieces head)) ++ arrow ∷ ws) same_more) (behind same s) in
      let place = some_token (p + 1) (words_in (with_commas (level_pieces head))) arrow more all in
      let list = opt_read heads (p + 1) (arrow ∷ more) all in
      let b = body_read guard body g bodies (list.stop + 1) (close ∷ rest) (behind same list.after) in
      record {
        part = group (rule no_item list.part b.conditions b.part place.0);
        stop = b.stop + 1;
        reads = is_group (kind_at same s) (unnamed_rule (is_rule place.1 (all_taken list.reads) (kind_at same list.after) b.reads)) (kind_at same b.after);
        is = rule_gives head guard body list.part b.part b.conditions place.0 list.is b.holds b.is;
        after = behind same b.after;
      }

  -- Levels.

  readable_leaves : (ls : List tree.Leaf) → AllByRecursion LeafSpelled ls → Readable (map leaf_pieces ls) (map (λ l. printed.leaf l) ls)
  readable_leaves [] h = none
  readable_leaves (l ∷ ls) h = one_and (λ p rest s. leaf_read places same l p rest h.0 s) (readable_leaves ls h.1)

  readable_contexts : (ns : List tree.Context) → Readable (map untyped_pieces ns) (map (λ n. printed.context n) ns)
  readable_contexts [] = none
  readable_contexts (n ∷ ns) = one_and (λ p rest s. context_read places same n p rest s) (readable_contexts ns)

  readable_rule_contexts : (ns : List tree.Name) → Readable (map (λ n. rule_context_piece n ∷ []) ns) (map (λ n. printed.rule_context n) ns)
  readable_rule_contexts [] = none
  readable_rule_contexts (n ∷ ns) = one_and (λ p rest s. rule_context_read places same n p rest s) (readable_rule_contexts ns)

  mutual
    pub readable_level : (l : tree.Level) → LevelSpelled l → Readable (level_pieces l) (level_items l)
    readable_level (tree.level ls ms ns os rs) h =
        appended (readable_leaves ls h.0)
        (appended (readable_membranes ms h.1) (appended (readable_contexts ns) (appended (readable_rule_contexts os) (readable_rules rs h.4))))

    readable_membranes : (ms : tree.Levels) → LevelsSpelled ms → Readable (levels_pieces ms) (membranes_items ms)
    readable_membranes tree.no_level h = none
    readable_membranes (tree.level_and m ms) h = one_and (membrane_read m (readable_level m h.0)) (readable_membranes ms h.1)

    readable_rule : (r : tree.Rule) → RuleSpelled r → CanRead (rule_pieces r) (printed.rule r)
    readable_rule (tree.rule_of head guard body) h = rule_read head guard body (readable_level head h.0) h.1 (readable_level body h.2)

    pub readable_rules : (rs : tree.Rules) → RulesSpelled rs → Readable (rules_pieces rs) (rules_items rs)
    readable_rules tree.no_rule h = none
    readable_rules (tree.rule_and r rs) h = one_and (readable_rule r h.0) (readable_rules rs h.1)
