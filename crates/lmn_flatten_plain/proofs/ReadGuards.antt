-- Printed guards are read.
use Rattle.std.proofs.Common.{◌≡◌, ℕ, ◌+◌, ℤ, List, [], ◌∷◌, ◌++◌, map, FitsSigned, w64, refl, ap, ◌∙◌, arith}
use Rattle.std.specs.Prelude.{codes}
use Rattle.std.specs.List.{AllByRecursion, AllZip}
use Rattle.std.proofs.lemmas.List.{append_assoc}
use Rattle.lmn_base.specs.declared.refusal.Pos.{Pos}
use Rattle.lmn_base.specs.declared.guard.Arith.{Arith}
use Rattle.lmn_base.specs.declared.guard.Arith.TheVariants as arithmetic
use Rattle.lmn_base.specs.declared.guard.Cmp.{Cmp}
use Rattle.lmn_base.specs.declared.guard.Cmp.TheVariants as cmp
use Rattle.lmn_congruence.specs.Rules as tree
use Rattle.lmn_lexer.specs.declared.token.Kind.{Kind}
use Rattle.lmn_lexer.specs.declared.token.Kind.TheVariants as kind
use Rattle.lmn_lexer.specs.declared.token.Token.{Token}
use Rattle.lmn_lexer.specs.Laying.{Word}
use Rattle.lmn_lexer.specs.Values.{integer_of}
use Rattle.lmn_parser.specs.Syntax.{Expr, integer, value, operation, called, compared, equal, different}
use Rattle.lmn_parser.specs.Trees.{NameAt, CmpAt, IsSum, one_product, plus, one_factor, times, IsFactor, is_integer, is_value, in_parentheses, IsContexts, last_context, more_contexts, IsContextArguments, no_contexts, some_contexts, IsCondition, is_called, is_compared, is_equal, is_different, IsWrittenGuard, last_condition, more_conditions}
use Rattle.lmn_flatten_plain.proofs.Decimals.{integer_spelled}
use Rattle.lmn_flatten_plain.specs.Meanings.{name_at, name_spelled}
use Rattle.lmn_flatten_plain.specs.Words.{Piece, word, space, words_in, with_commas, name_piece, integer_piece, context_piece, operator_pieces, comparison_pieces, operand_pieces, side_pieces, kind_name, contexts_pieces, condition_pieces}
use Rattle.lmn_flatten_plain.specs.Spelled.{ExpressionSpelled, ConditionSpelled}
use Rattle.lmn_flatten_plain.specs.Agreement.{ExprIs, CondIs}
use Rattle.lmn_flatten_plain.proofs.Standing.{SameKinds, Stands, stands_as, stands_at, kind_at, behind, word_here}
use Rattle.lmn_flatten_plain.proofs.LabelWords.{name_spells, name_is_at}

-- the words of pieces joined are those of both
pub words_append : (ps qs : List Piece) → words_in (ps ++ qs) ≡ words_in ps ++ words_in qs
words_append [] qs = refl
words_append (word k b ∷ ps) qs = ap (λ ws. record { kind = k; bytes = b } ∷ ws) (words_append ps qs)
words_append (space ∷ ps) qs = words_append ps qs

-- the words of two parts, and what stands behind them
pub words_behind : (ps qs : List Piece) (rest : List Word) → words_in (ps ++ qs) ++ rest ≡ words_in ps ++ (words_in qs ++ rest)
words_behind ps qs rest = ap (λ ws. ws ++ rest) (words_append ps qs) ∙ append_assoc (words_in ps) (words_in qs) rest

module _ {tokens : List Token} {words : List Word} (places : List Pos) (same : SameKinds tokens words) where
  -- What is read from a place on: a part of the tree, where it ends, what it is, and what stands behind it.
  pub record Read {X : Type 0} (IsPart : X → ℕ → ℕ → Type 0) (Is : X → Type 0) (p : ℕ) (rest : List Word) : Type 0 where
    pub part : X
    pub stop : ℕ
    pub reads : IsPart part p stop
    pub is : Is part
    pub after : Stands tokens words stop rest

  -- an operator is one token
  operator_read : {l : Expr} {p m : ℕ} {rest : List Word} (op : Arith) → IsFactor tokens l p m → Stands tokens words m (words_in (operator_pieces op) ++ rest)
      → Stands tokens words (m + 1) rest × ((r : Expr) (q : ℕ) → IsFactor tokens r (m + 1) q → IsSum tokens (operation op l r) p q)
  operator_read arithmetic.Add f s = (behind same s, λ r q g. plus arithmetic.Add (one_product (one_factor f)) (kind_at same s) (one_factor g))
  operator_read arithmetic.Sub f s = (behind same s, λ r q g. plus arithmetic.Sub (one_product (one_factor f)) (kind_at same s) (one_factor g))
  operator_read arithmetic.Mul f s = (behind same s, λ r q g. one_product (times arithmetic.Mul (one_factor f) (kind_at same s) g))
  operator_read arithmetic.Div f s = (behind same s, λ r q g. one_product (times arithmetic.Div (one_factor f) (kind_at same s) g))
  operator_read arithmetic.Mod f s = (behind same s, λ r q g. one_product (times arithmetic.Mod (one_factor f) (kind_at same s) g))

  comparison_read : {m : ℕ} {rest : List Word} (op : Cmp) → Stands tokens words m (words_in (comparison_pieces op) ++ rest)
      → Stands tokens words (m + 1) rest × CmpAt tokens m op
  comparison_read cmp.Lt s = (behind same s, kind_at same s)
  comparison_read cmp.Le s = (behind same s, kind_at same s)
  comparison_read cmp.Gt s = (behind same s, kind_at same s)
  comparison_read cmp.Ge s = (behind same s, kind_at same s)
  comparison_read cmp.Eq s = (behind same s, kind_at same s)
  comparison_read cmp.Ne s = (behind same s, kind_at same s)

  name_here : (p : ℕ) (k : Kind) (bytes : List ℕ) (rest : List Word) → Stands tokens words p (record { kind = k; bytes = bytes } ∷ rest)
      → name_at words places p ≡ name_spelled k bytes
  name_here p k bytes rest s = ap (λ (w : Word). name_spelled w.kind w.bytes) (word_here same places s)

  context_here : (p : ℕ) (name : tree.Name) (rest : List Word) → Stands tokens words p (words_in (context_piece name ∷ []) ++ rest) → name_at words places p ≡ name
  context_here p name rest s = name_here p kind.Context (codes "$" ++ name) rest s

  abbrev ReadFactor : tree.Expression → ℕ → List Word → Type 0
  ReadFactor e p rest = Read (IsFactor tokens) (λ x. ExprIs words places x e) p rest

  abbrev ReadSum : tree.Expression → ℕ → List Word → Type 0
  ReadSum e p rest = Read (IsSum tokens) (λ x. ExprIs words places x e) p rest

  integer_read : (z : ℤ) (p : ℕ) (rest : List Word) → FitsSigned w64 z → Stands tokens words p (words_in (integer_piece z ∷ []) ++ rest) → ReadFactor (tree.number z) p rest
  integer_read z p rest h s = record {
    part = integer p;
    stop = p + 1;
    reads = is_integer (kind_at same s);
    is = ap (λ (w : Word). integer_of w.bytes) (word_here same places s) ∙ (let i = integer_spelled z h in i.value);
    after = behind same s;
  }

  value_read : (name : tree.Name) (p : ℕ) (rest : List Word) → Stands tokens words p (words_in (context_piece name ∷ []) ++ rest) → ReadFactor (tree.value_of name) p rest
  value_read name p rest s = record { part = value p; stop = p + 1; reads = is_value (kind_at same s); is = context_here p name rest s; after = behind same s }

  operation_words : (op : Arith) (l r : List Piece) (rest : List Word)
      → words_in (l ++ (operator_pieces op ++ r)) ++ rest ≡ words_in l ++ (words_in (operator_pieces op) ++ (words_in r ++ rest))
  operation_words op l r rest =
      words_behind l (operator_pieces op ++ r) rest ∙ ap (λ ws. words_in l ++ ws) (words_behind (operator_pieces op) r rest)

  -- two operands that are read, with an operator between them
  operation_read : (op : Arith) (l r : tree.Expression) (p : ℕ) (rest : List Word)
      → ((p : ℕ) (rest : List Word) → Stands tokens words p (words_in (operand_pieces l) ++ rest) → ReadFactor l p rest)
      → ((p : ℕ) (rest : List Word) → Stands tokens words p (words_in (operand_pieces r) ++ rest) → ReadFactor r p rest)
      → Stands tokens words p (words_in (operand_pieces l ++ (operator_pieces op ++ operand_pieces r)) ++ rest) → ReadSum (tree.operation op l r) p rest
  operation_read op l r p rest read_l read_r s =
      let more = words_in (operator_pieces op) ++ (words_in (operand_pieces r) ++ rest) in
      let left = read_l p more (stands_as tokens words (operation_words op (operand_pieces l) (operand_pieces r) rest) s) in
      let sign = operator_read {rest = words_in (operand_pieces r) ++ rest} op left.reads left.after in
      let right = read_r (left.stop + 1) rest sign.0 in
      record {
        part = operation op left.part right.part;
        stop = right.stop;
        reads = sign.1 right.part right.stop right.reads;
        is = (refl, left.is, right.is);
        after = right.after;
      }

  pub operand_read : (e : tree.Expression) (p : ℕ) (rest : List Word) → ExpressionSpelled e → Stands tokens words p (words_in (operand_pieces e) ++ rest) → ReadFactor e p rest
  operand_read (tree.number z) p rest h s = integer_read z p rest h s
  operand_read (tree.value_of name) p rest h s = value_read name p rest s
  operand_read (tree.operation op l r) p rest h s =
      let close : Word = record { kind = kind.RParen; bytes = codes ")" } in
      let inside = operation_read op l r (p + 1) (close ∷ rest) (λ q more t. operand_read l q more h.0 t) (λ q more t. operand_read r q more h.1 t)
      (stands_as tokens words (simp (words_append, append_assoc)) (behind same s)) in
      record {
        part = inside.part;
        stop = inside.stop + 1;
        reads = in_parentheses (kind_at same s) inside.reads (kind_at same inside.after);
        is = inside.is;
        after = behind same inside.after;
      }

  side_of : (e : tree.Expression) {p : ℕ} {rest : List Word} → ReadFactor e p rest → ReadSum e p rest
  side_of e r = record { part = r.part; stop = r.stop; reads = one_product (one_factor r.reads); is = r.is; after = r.after }

  pub side_read : (e : tree.Expression) (p : ℕ) (rest : List Word) → ExpressionSpelled e → Stands tokens words p (words_in (side_pieces e) ++ rest) → ReadSum e p rest
  side_read (tree.number z) p rest h s = side_of (tree.number z) (integer_read z p rest h s)
  side_read (tree.value_of name) p rest h s = side_of (tree.value_of name) (value_read name p rest s)
  side_read (tree.operation op l r) p rest h s =
      operation_read op l r p rest (λ q more t. operand_read l q more h.0 t) (λ q more t. operand_read r q more h.1 t) s

  -- Conditions.

  abbrev ReadContexts : List tree.Name → ℕ → List Word → Type 0
  ReadContexts ns p rest = Read (IsContexts tokens) (λ ps. map (name_at words places) ps ≡ ns) p rest

  both : (a b : tree.Name) (ms ns : List tree.Name) → a ≡ b → ms ≡ ns → a ∷ ms ≡ b ∷ ns
  both a b ms ns e f = cc

  contexts_list : (n : tree.Name) (ns : List tree.Name) (p : ℕ) (rest : List Word)
      → Stands tokens words p (words_in (with_commas (map (λ m. context_piece m ∷ []) (n ∷ ns))) ++ rest) → ReadContexts (n ∷ ns) p rest
  contexts_list n [] p rest s = record {
    part = p ∷ [];
    stop = p + 1;
    reads = last_context (kind_at same s);
    is = ap (λ m. m ∷ []) (context_here p n rest s);
    after = behind same s;
  }
  contexts_list n (m ∷ ns) p rest s =
      let comma = behind same s in
      let more = contexts_list m ns (p + 2) rest (stands_at tokens words (omega arith) (behind same comma)) in
      record {
        part = p ∷ more.part;
        stop = more.stop;
        reads = more_contexts (kind_at same s) (kind_at same comma) more.reads;
        is = both _ _ _ _ (context_here p n _ s) more.is;
        after = more.after;
      }

  contexts_read : (ns : List tree.Name) (p : ℕ) (rest : List Word) → Stands tokens words p (words_in (contexts_pieces ns) ++ rest)
      → Read (IsContextArguments tokens) (λ ps. map (name_at words places) ps ≡ ns) p rest
  contexts_read [] p rest s = record { part = []; stop = p; reads = no_contexts; is = refl; after = s }
  contexts_read (n ∷ ns) p rest s =
      let close : Word = record { kind = kind.RParen; bytes = codes ")" } in
      let list = with_commas (map (λ m. context_piece m ∷ []) (n ∷ ns)) in
      let inside = contexts_list n ns (p + 1) (close ∷ rest) (stands_as tokens words (words_behind list (word kind.RParen (codes ")") ∷ []) rest) (behind same s)) in
      record {
        part = inside.part;
        stop = inside.stop + 1;
        reads = some_contexts (kind_at same s) inside.reads (kind_at same inside.after);
        is = inside.is;
        after = behind same inside.after;
      }

  called_read : (name : tree.Name) (ns : List tree.Name) (p : ℕ) (rest : List Word) → Stands tokens words p (words_in (name_piece name ∷ contexts_pieces ns) ++ rest)
      → Read (IsContextArguments tokens) (λ ps. map (name_at words places) ps ≡ ns) (p + 1) rest × NameAt tokens p × (name_at words places p ≡ name)
  called_read name ns p rest s = (
    contexts_read ns (p + 1) rest (behind same s),
    name_is_at tokens p name (kind_at same s),
    name_here p _ _ _ s ∙ name_spells name,
  )

  pub condition_read : (c : tree.Condition) (p : ℕ) (rest : List Word) → ConditionSpelled c → Stands tokens words p (words_in (condition_pieces c) ++ rest)
      → Read (IsCondition tokens) (λ x. CondIs words places x c) p rest
  condition_read (tree.is_kind k name) p rest h s =
      let r = called_read (kind_name k) (name ∷ []) p rest s in
      let a = r.0 in
      record { part = called p a.part; stop = a.stop; reads = is_called r.1 a.reads; is = (r.2, a.is); after = a.after }
  condition_read (tree.unknown name ns) p rest h s =
      let r = called_read name ns p rest s in
      let a = r.0 in
      record { part = called p a.part; stop = a.stop; reads = is_called r.1 a.reads; is = (r.2, a.is); after = a.after }
  condition_read (tree.compares op l r) p rest h s =
      let more = words_in (comparison_pieces op) ++ (words_in (side_pieces r) ++ rest) in
      let left = side_read l p more h.0 (stands_as tokens words (simp (words_append, append_assoc)) s) in
      let sign = comparison_read {rest = words_in (side_pieces r) ++ rest} op left.after in
      let right = side_read r (left.stop + 1) rest h.1 sign.0 in
      record {
        part = compared op left.part right.part left.stop;
        stop = right.stop;
        reads = is_compared op left.reads sign.1 right.reads;
        is = (refl, left.is, right.is);
        after = right.after;
      }
  condition_read (tree.equates name e) p rest h s =
      let sign = behind same s in
      let right = side_read e (p + 2) rest h.1 (stands_at tokens words (omega arith) (behind same sign)) in
      record {
        part = equal p right.part (p + 1);
        stop = right.stop;
        reads = is_equal (kind_at same s) (kind_at same sign) right.reads;
        is = (context_here p name _ s, right.is);
        after = right.after;
      }
  condition_read (tree.differs m n) p rest h s =
      let sign = behind same s in
      let right = stands_at tokens words (let e : p + 1 + 1 ≡ p + 2 = omega arith in e) (behind same sign) in
      record {
        part = different p (p + 2) (p + 1);
        stop = p + 3;
        reads = is_different (kind_at same s) (kind_at same sign) (kind_at same right);
        is = (context_here p m _ s, context_here (p + 2) n rest right);
        after = stands_at tokens words (omega arith) (behind same right);
      }

  pub guard_list : (c : tree.Condition) (cs : List tree.Condition) (p : ℕ) (rest : List Word) → AllByRecursion ConditionSpelled (c ∷ cs)
      → Stands tokens words p (words_in (with_commas (map condition_pieces (c ∷ cs))) ++ rest) → Read (IsWrittenGuard tokens) (λ xs. AllZip (CondIs words places) xs (c ∷ cs)) p rest
  guard_list c [] p rest h s =
      let one = condition_read c p rest h.0 s in
      record { part = one.part ∷ []; stop = one.stop; reads = last_condition one.reads; is = (one.is, tt); after = one.after }
  guard_list c (d ∷ cs) p rest h s =
      let comma : Word = record { kind = kind.Comma; bytes = codes "," } in
      let one = condition_read c p (comma ∷ (words_in (with_commas (map condition_pieces (d ∷ cs))) ++ rest)) h.0
      (stands_as tokens words (simp (words_append, append_assoc)) s) in
      let more = guard_list d cs (one.stop + 1) rest h.1 (behind same one.after) in
      record {
        part = one.part ∷ more.part;
        stop = more.stop;
        reads = more_conditions one.reads (kind_at same one.after) more.reads;
        is = (one.is, more.is);
        after = more.after;
      }
