-- The clauses that the reader builds are those that it has read.
use Rattle.std.proofs.Common.{Box, Global, ◌≡◌, ℕ, ◌+◌, ◌<◌, length, List, [], ◌∷◌, ◌++◌, get_or, option_map, refl, sym, ◌∙◌, ap, subst}
use Rattle.std.proofs.lemmas.Option.{slice_get-get_or}
use Rattle.lmn_base.specs.declared.refusal.Pos.{Pos}
use Rattle.lmn_lexer.specs.declared.token.Kind.TheVariants.{LBrace, RBrace, Dot, Arrow, Bar}
use Rattle.lmn_lexer.specs.declared.token.Token.{Token}
use Rattle.lmn_parser.specs.declared.tree.Clause.{Clause as ClauseNode}
use Rattle.lmn_parser.specs.declared.tree.Item.{Item as ItemNode}
use Rattle.lmn_parser.specs.declared.tree.CondNode.{CondNode}
use Rattle.lmn_parser.specs.declared.tree.RuleNode.{RuleNode}
use Rattle.lmn_parser.specs.declared.tree.Clause.TheViews as view
use Rattle.lmn_parser.specs.Syntax.{Items, WrittenCondition, Clause, Clauses, no_clause, clause_and, items_of_nodes, clause_of, clauses_of, conditions_of, clause_of_rule}
use Rattle.lmn_parser.specs.Trees.{At, StandsAt, IsWrittenGuard, IsClauses, no_clauses, last_clause, more_clauses, IsClause, is_process, IsWrittenRule, is_rule, IsHeads, all_taken, IsBody, no_guard, empty_guard, guarded, IsOptList, IsList, IsMembrane, in_braces}
use Rattle.lmn_parser.proofs.Nodes.{clause_process, clause_rule, rule_parts}

-- clauses with full stops between them

-- behind a clause stand nothing, or a full stop and more clauses
pub data Behind (ts : List Token) : Clauses → ℕ → ℕ → Type 0 where
  nothing : {p : ℕ} → Behind ts no_clause p p
  stop_and : {cs : Clauses} {p q : ℕ} → At ts p Dot → IsClauses ts cs (p + 1) q → Behind ts cs p q

-- parsed clauses before others
abbrev pub onto : List ClauseNode → Clauses → Clauses
onto [] rest = rest
onto (c ∷ cs) rest = clause_and (clause_of c) (onto cs rest)

-- whatever stands behind these clauses, they and it are clauses
abbrev pub Continues : List Token → List ClauseNode → ℕ → ℕ → Type 0
Continues ts cs p m = (rest : Clauses) (q : ℕ) → Behind ts rest m q → IsClauses ts (onto cs rest) p q

before : (ts : List Token) {c : Clause} {rest : Clauses} {p m q : ℕ} → IsClause ts c p m → Behind ts rest m q → IsClauses ts (clause_and c rest) p q
before ts a nothing = last_clause a
before ts a (stop_and d r) = more_clauses a d r

onto_last : (cs : List ClauseNode) (c : ClauseNode) (rest : Clauses) → onto (cs ++ c ∷ []) rest ≡ onto cs (clause_and (clause_of c) rest)
onto_last [] c rest = refl
onto_last (d ∷ cs) c rest = ap (clause_and (clause_of d)) (onto_last cs c rest)

onto_none : (cs : List ClauseNode) → onto cs no_clause ≡ clauses_of cs
onto_none [] = refl
onto_none (d ∷ cs) = ap (clause_and (clause_of d)) (onto_none cs)

-- the first clause is read
pub clauses_first : (ts : List Token) (cs ds : List ClauseNode) (c : ClauseNode) (p m : ℕ) → cs ≡ [] → ds ≡ cs ++ c ∷ [] → IsClause ts (clause_of c) p m → Continues ts ds p m
clauses_first ts cs ds c p m e f a = λ rest q b.
    let P : List ClauseNode → Type 0 = λ zs. IsClauses ts (onto zs rest) p q in
    subst P (sym (f ∙ ap (λ zs. zs ++ c ∷ []) e)) (before ts a b)

-- a clause behind a full stop is read
pub clauses_next : (ts : List Token) (cs ds : List ClauseNode) (c : ClauseNode) (p m n : ℕ) → Continues ts cs p m → At ts m Dot → IsClause ts (clause_of c) (m + 1) n → ds ≡ cs ++ c ∷ [] → Continues ts ds p n
clauses_next ts cs ds c p m n so_far d a e = λ rest q b.
    let P : Clauses → Type 0 = λ z. IsClauses ts z p q in
    subst P (sym (ap (λ zs. onto zs rest) e ∙ onto_last cs c rest)) (so_far (clause_and (clause_of c) rest) q (stop_and d (before ts a b)))

-- clauses may end with a full stop
pub clauses_stopped : (ts : List Token) (cs : List ClauseNode) (p m : ℕ) → Continues ts cs p m → At ts m Dot → IsClauses ts (clauses_of cs) p (m + 1)
clauses_stopped ts cs p m so_far d = let P : Clauses → Type 0 = λ z. IsClauses ts z p (m + 1) in subst P (onto_none cs) (so_far no_clause (m + 1) (stop_and d no_clauses))

-- or without one
pub clauses_ended : (ts : List Token) (cs : List ClauseNode) (p m : ℕ) → Continues ts cs p m → IsClauses ts (clauses_of cs) p m
clauses_ended ts cs p m so_far = let P : Clauses → Type 0 = λ z. IsClauses ts z p m in subst P (onto_none cs) (so_far no_clause m nothing)

-- no clauses are read
pub no_clause_there : (ts : List Token) (cs : List ClauseNode) (p : ℕ) → cs ≡ [] → IsClauses ts (clauses_of cs) p p
no_clause_there ts cs p e = let P : List ClauseNode → Type 0 = λ zs. IsClauses ts (clauses_of zs) p p in subst P (sym e) no_clauses

-- clauses in braces are a membrane
pub membrane_closed : (ts : List Token) (cs : Clauses) (p m q : ℕ) → At ts p LBrace → IsClauses ts cs (p + 1) m → (q ≡ m + 1) × At ts m RBrace → IsMembrane ts cs p q
membrane_closed ts cs p m q a r b = let P : ℕ → Type 0 = λ n. IsMembrane ts cs p n in subst P (sym b.0) (in_braces a r b.1)

-- a clause

-- a token stands at its place
pub stands_there : (ts : List Token) (s : ℕ) (d : Token) → s < length ts → StandsAt ts s (get_or ts s d).pos
stands_there ts s d h = ap (option_map (λ t. t.pos)) (slice_get-get_or ts s d h)

-- a list of items is a clause
pub process_read : (ts : List Token) (xs : List ItemNode) (p q : ℕ) → IsList ts (items_of_nodes xs) p q → IsClause ts (clause_of (view.Process xs)) p q
process_read ts xs p q a = let P : Clause → Type 0 = λ c. IsClause ts c p q in subst P (sym (clause_process xs)) (is_process a)

-- a head without `\` takes all its items
pub all_heads_taken : (ts : List Token) (none : List ItemNode) (xs : Items) (p q : ℕ) → none ≡ [] → IsOptList ts xs p q → IsHeads ts (items_of_nodes none) xs p q
all_heads_taken ts none xs p q e a = let P : List ItemNode → Type 0 = λ zs. IsHeads ts (items_of_nodes zs) xs p q in subst P (sym e) (all_taken a)

-- head, arrow and body are a rule
pub rule_read : (ts : List Token) (r : RuleNode) (box : Box RuleNode Global) (pos : Pos) (s p m n q : ℕ) → box.value ≡ r → StandsAt ts s pos → r.pos ≡ pos → IsHeads ts (items_of_nodes r.kept) (items_of_nodes r.taken) p m
    → (n ≡ m + 1) × At ts m Arrow → IsBody ts (conditions_of r.guard) (items_of_nodes r.body) n q → IsWrittenRule ts s (clause_of (view.Rule box)) p q
rule_read ts r box pos s p m n q e stands same heads arrow body =
    let P : Clause → Type 0 = λ c. IsWrittenRule ts s c p q in
    let Q : ℕ → Type 0 = λ k. IsBody ts (conditions_of r.guard) (items_of_nodes r.body) k q in
    let R : Pos → Type 0 = StandsAt ts s in
    subst P (sym (clause_rule box ∙ ap clause_of_rule e ∙ rule_parts r)) (is_rule (subst R (sym same) stands) heads arrow.1 (subst Q arrow.0 body))

-- a body

-- a body without a guard is its items
pub body_alone : (ts : List Token) (none : List CondNode) (xs : Items) (p q : ℕ) → none ≡ [] → IsOptList ts xs p q → IsBody ts (conditions_of none) xs p q
body_alone ts none xs p q e a = let P : List CondNode → Type 0 = λ zs. IsBody ts (conditions_of zs) xs p q in subst P (sym e) (no_guard a)

-- and may have a bar before them
pub body_behind_bar : (ts : List Token) (none : List CondNode) (xs : Items) (p q : ℕ) → none ≡ [] → At ts p Bar → IsOptList ts xs (p + 1) q → IsBody ts (conditions_of none) xs p q
body_behind_bar ts none xs p q e b a = let P : List CondNode → Type 0 = λ zs. IsBody ts (conditions_of zs) xs p q in subst P (sym e) (empty_guard b a)

-- a body with a guard is that, a bar and its items
pub body_behind_guard : (ts : List Token) (cs : List WrittenCondition) (xs : Items) (p m q : ℕ) → (bar : ℕ) × IsWrittenGuard ts cs p bar × At ts bar Bar × (m ≡ bar + 1) → IsOptList ts xs m q → IsBody ts cs xs p q
body_behind_guard ts cs xs p m q g a = let P : ℕ → Type 0 = λ n. IsOptList ts xs n q in guarded g.1 g.2 (subst P g.3 a)
