-- The terms and items that the reader builds are those that it has read.
use Rattle.std.proofs.Common.{Box, Global, ◌≡◌, ℕ, ◌+◌, List, [], ◌∷◌, ◌++◌, Some, None, ◌⊎◌, inl, inr, refl, sym, ◌∙◌, ap, arith, subst}
use Rattle.lmn_lexer.specs.declared.token.Kind.TheVariants.{Link, Int, Context, RuleCtx, LParen, RParen, LBracket, RBracket, Comma, Bar, Equal, Plus}
use Rattle.lmn_lexer.specs.declared.token.Token.{Token}
use Rattle.lmn_parser.specs.declared.tree.Clause.{Clause as ClauseNode}
use Rattle.lmn_parser.specs.declared.tree.Item.{Item as ItemNode}
use Rattle.lmn_parser.specs.declared.tree.Term.{Term as TermNode}
use Rattle.lmn_parser.specs.declared.tree.AtomNode.{AtomNode}
use Rattle.lmn_parser.specs.declared.tree.Clause.TheViews as view
use Rattle.lmn_parser.specs.declared.tree.Item.TheVariants as item_variant
use Rattle.lmn_parser.specs.declared.tree.Term.TheVariants as term_variant
use Rattle.lmn_parser.specs.Syntax.{Term, Terms, no_term, term_and, Item, Items, no_item, item_and, list, list_onto, bracketed, plus_link, group, equation, terms_of, items_of_nodes, clauses_of, term_of, item_of, clause_of}
use Rattle.lmn_parser.specs.Trees.{At, NameAt, IsOptList, no_list, IsClause, IsList, last_item, more_items, IsItem, is_atom_item, is_membrane_item, is_context_item, is_closed, is_bracketed, is_rule_context, is_plus_link, is_group, is_equation, IsMembrane, IsWrittenAtom, with_name, with_integer, IsArguments, no_parentheses, no_arguments, some_arguments, IsTerms, last_term, more_terms, IsTerm, is_link, is_atom, is_context, is_membrane, IsTermList, empty_list, closed_list, open_list}
use Rattle.lmn_parser.proofs.Nodes as node

-- atoms and their arguments

-- a name or an integer and its arguments are an atom
pub atom_read : (ts : List Token) (xs : Terms) (p q : ℕ) → NameAt ts p ⊎ At ts p Int → IsArguments ts xs (p + 1) q → IsWrittenAtom ts p xs p q
atom_read ts xs p q (inl h) a = with_name h a
atom_read ts xs p q (inr h) a = with_integer h a

-- an atom may have no parentheses
pub arguments_missing : (ts : List Token) (xs : List TermNode) (p : ℕ) → xs ≡ [] → IsArguments ts (terms_of xs) p p
arguments_missing ts xs p e = let P : List TermNode → Type 0 = λ zs. IsArguments ts (terms_of zs) p p in subst P (sym e) no_parentheses

-- or empty ones
pub arguments_empty : (ts : List Token) (xs : List TermNode) (p : ℕ) → xs ≡ [] → At ts p LParen → At ts (p + 1) RParen → IsArguments ts (terms_of xs) p (p + 2)
arguments_empty ts xs p e a b = let P : List TermNode → Type 0 = λ zs. IsArguments ts (terms_of zs) p (p + 2) in subst P (sym e) (no_arguments a b)

-- or terms in parentheses
pub arguments_closed : (ts : List Token) (xs : Terms) (p m q : ℕ) → At ts p LParen → IsTerms ts xs (p + 1) m → (q ≡ m + 1) × At ts m RParen → IsArguments ts xs p q
arguments_closed ts xs p m q a r b = let P : ℕ → Type 0 = λ n. IsArguments ts xs p n in subst P (sym b.0) (some_arguments a r b.1)

-- terms with commas between them

then_term : Terms → Term → Terms
then_term no_term t = term_and t no_term
then_term (term_and u us) t = term_and u (then_term us t)

terms_more : (ts : List Token) {xs : Terms} {p m : ℕ} (t : Term) (q : ℕ) → IsTerms ts xs p m → At ts m Comma → IsTerm ts t (m + 1) q → IsTerms ts (then_term xs t) p q
unfolding then_term
terms_more ts t q (last_term a) h b = more_terms a h (last_term b)
terms_more ts t q (more_terms a k r) h b = more_terms a k (terms_more ts t q r h b)

terms_last : (xs : List TermNode) (x : TermNode) → terms_of (xs ++ x ∷ []) ≡ then_term (terms_of xs) (term_of x)
unfolding then_term
terms_last [] x = refl
terms_last (y ∷ xs) x = ap (term_and (term_of y)) (terms_last xs x)

-- the first term is read
pub terms_first : (ts : List Token) (xs ys : List TermNode) (x : TermNode) (p m : ℕ) → xs ≡ [] → ys ≡ xs ++ x ∷ [] → IsTerm ts (term_of x) p m → IsTerms ts (terms_of ys) p m
terms_first ts xs ys x p m e f a =
    let P : List TermNode → Type 0 = λ zs. IsTerms ts (terms_of zs) p m in
    subst P (sym (f ∙ ap (λ zs. zs ++ x ∷ []) e)) (last_term a)

-- a term behind a comma is read
pub terms_next : (ts : List Token) (xs ys : List TermNode) (x : TermNode) (p m q : ℕ) → IsTerms ts (terms_of xs) p m → At ts m Comma → IsTerm ts (term_of x) (m + 1) q → ys ≡ xs ++ x ∷ [] →
    IsTerms ts (terms_of ys) p q
terms_next ts xs ys x p m q r h a e =
    let P : Terms → Type 0 = λ z. IsTerms ts z p q in
    subst P (sym (ap terms_of e ∙ terms_last xs x)) (terms_more ts (term_of x) q r h a)

-- terms

-- a link is a term
pub link_read : (ts : List Token) (p : ℕ) → At ts p Link → IsTerm ts (term_of (term_variant.Link p)) p (p + 1)
link_read ts p h = let P : Term → Type 0 = λ t. IsTerm ts t p (p + 1) in subst P (sym (node.term_link p)) (is_link h)

-- and so is a context
pub context_read : (ts : List Token) (p : ℕ) → At ts p Context → IsTerm ts (term_of (term_variant.Context p)) p (p + 1)
context_read ts p h = let P : Term → Type 0 = λ t. IsTerm ts t p (p + 1) in subst P (sym (node.term_context p)) (is_context h)

-- and an atom
pub atom_term_read : (ts : List Token) (n : AtomNode) (p q : ℕ) → IsWrittenAtom ts n.token (terms_of n.args) p q → IsTerm ts (term_of (view.Term::Atom n)) p q
atom_term_read ts n p q a = let P : Term → Type 0 = λ t. IsTerm ts t p q in subst P (sym (node.term_atom n)) (is_atom a)

-- and a membrane
pub membrane_term_read : (ts : List Token) (cs : List ClauseNode) (p q : ℕ) → IsMembrane ts (clauses_of cs) p q → IsTerm ts (term_of (view.Term::Membrane cs)) p q
membrane_term_read ts cs p q a = let P : Term → Type 0 = λ t. IsTerm ts t p q in subst P (sym (node.term_membrane cs)) (is_membrane a)

-- lists of terms

-- `[]` is a list
pub list_empty : (ts : List Token) (xs : List TermNode) (p : ℕ) → xs ≡ [] → At ts p LBracket → At ts (p + 1) RBracket → IsTermList ts (term_of (view.List xs None)) p (p + 2)
list_empty ts xs p e a b =
    let P : Term → Type 0 = λ t. IsTermList ts t p (p + 2) in
    subst P (sym (node.term_list xs ∙ ap (λ zs. list (terms_of zs)) e)) (empty_list a b)

-- terms in brackets are a list
pub list_closed : (ts : List Token) (xs : List TermNode) (p m q : ℕ) → At ts p LBracket → IsTerms ts (terms_of xs) (p + 1) m → (q ≡ m + 1) × At ts m RBracket → IsTermList ts (term_of (view.List xs None)) p q
list_closed ts xs p m q a r b =
    let P : Term → Type 0 = λ t. IsTermList ts t p q in
    let Q : ℕ → Type 0 = λ n. IsTermList ts (list (terms_of xs)) p n in
    subst P (sym (node.term_list xs)) (subst Q (sym b.0) (closed_list a r b.1))

-- and so are terms, a bar and one more
pub list_open : (ts : List Token) (xs : List TermNode) (x : TermNode) (rest : Box TermNode Global) (p m n q : ℕ) → rest.value ≡ x → At ts p LBracket → IsTerms ts (terms_of xs) (p + 1) m → At ts m Bar →
    IsTerm ts (term_of x) (m + 1) n → (q ≡ n + 1) × At ts n RBracket → IsTermList ts (term_of (view.List xs (Some rest))) p q
list_open ts xs x rest p m n q e a r h t b =
    let P : Term → Type 0 = λ t. IsTermList ts t p q in
    let Q : ℕ → Type 0 = λ n. IsTermList ts (list_onto (terms_of xs) (term_of x)) p n in
    subst P (sym (node.term_list_onto xs rest ∙ ap (λ z. list_onto (terms_of xs) (term_of z)) e)) (subst Q (sym b.0) (open_list a r h t b.1))

-- items

-- a rule context is an item
pub rule_context_read : (ts : List Token) (p : ℕ) → At ts p RuleCtx → IsItem ts (item_of (item_variant.RuleContext p)) p (p + 1)
rule_context_read ts p h = let P : Item → Type 0 = λ x. IsItem ts x p (p + 1) in subst P (sym (node.item_rule_context p)) (is_rule_context h)

-- and so is `+` with a link
pub plus_read : (ts : List Token) (p q : ℕ) → At ts p Plus → (q ≡ p + 1 + 1) × At ts (p + 1) Link → IsItem ts (item_of (item_variant.Plus p)) p q
plus_read ts p q h b =
    let P : Item → Type 0 = λ x. IsItem ts x p q in
    let Q : ℕ → Type 0 = λ n. IsItem ts (plus_link p) p n in
    let e : p + 2 ≡ q = omega (arith, b.0) in
    subst P (sym (node.item_plus p)) (subst Q e (is_plus_link h b.1))

-- and a clause in parentheses
pub group_read : (ts : List Token) (c : ClauseNode) (box : Box ClauseNode Global) (p m q : ℕ) → box.value ≡ c → At ts p LParen → IsClause ts (clause_of c) (p + 1) m → (q ≡ m + 1) × At ts m RParen →
    IsItem ts (item_of (view.Group box)) p q
group_read ts c box p m q e h a b =
    let P : Item → Type 0 = λ x. IsItem ts x p q in
    let Q : ℕ → Type 0 = λ n. IsItem ts (group (clause_of c)) p n in
    subst P (sym (node.item_group box ∙ ap (λ z. group (clause_of z)) e)) (subst Q (sym b.0) (is_group h a b.1))

-- and a context
pub context_item_read : (ts : List Token) (p : ℕ) → At ts p Context → IsItem ts (item_of (item_variant.Context p)) p (p + 1)
context_item_read ts p h = let P : Item → Type 0 = λ x. IsItem ts x p (p + 1) in subst P (sym (node.item_context p)) (is_context_item h)

-- and one whose brackets are empty
pub closed_read : (ts : List Token) (p : ℕ) → At ts p Context → At ts (p + 1) LBracket → At ts (p + 2) RBracket → IsItem ts (item_of (item_variant.Closed p)) p (p + 3)
closed_read ts p h k c = let P : Item → Type 0 = λ x. IsItem ts x p (p + 3) in subst P (sym (node.item_closed p)) (is_closed h k c)

-- and a context with a link in brackets
pub bracketed_read : (ts : List Token) (p m q : ℕ) → At ts p Context → At ts (p + 1) LBracket → (m ≡ p + 2 + 1) × At ts (p + 2) Link → (q ≡ m + 1) × At ts m RBracket →
    IsItem ts (item_of (item_variant.Bracketed p (p + 2))) p q
bracketed_read ts p m q h k a b =
    let P : Item → Type 0 = λ x. IsItem ts x p q in
    let Q : ℕ → Type 0 = λ n. IsItem ts (bracketed p (p + 2)) p n in
    let R : ℕ → Type 0 = λ n. At ts n RBracket in
    let e : m ≡ p + 3 = omega (arith, a.0) in
    let f : p + 4 ≡ q = omega (arith, a.0, b.0) in
    subst P (sym (node.item_bracketed p (p + 2))) (subst Q f (is_bracketed h k a.1 (subst R e b.1)))

-- and an atom
pub atom_item_read : (ts : List Token) (n : AtomNode) (p q : ℕ) → IsWrittenAtom ts n.token (terms_of n.args) p q → IsItem ts (item_of (view.Item::Atom n)) p q
atom_item_read ts n p q a = let P : Item → Type 0 = λ x. IsItem ts x p q in subst P (sym (node.item_atom n)) (is_atom_item a)

-- and a membrane
pub membrane_item_read : (ts : List Token) (cs : List ClauseNode) (p q : ℕ) → IsMembrane ts (clauses_of cs) p q → IsItem ts (item_of (view.Item::Membrane cs)) p q
membrane_item_read ts cs p q a = let P : Item → Type 0 = λ x. IsItem ts x p q in subst P (sym (node.item_membrane cs)) (is_membrane_item a)

-- and two terms with `=` between them
pub equation_read : (ts : List Token) (left right : TermNode) (l r : Box TermNode Global) (p m n q : ℕ) → l.value ≡ left → r.value ≡ right → IsTerm ts (term_of left) p m
    → (n ≡ m + 1) × At ts m Equal → IsTerm ts (term_of right) n q → IsItem ts (item_of (view.Equal l m r)) p q
equation_read ts left right l r p m n q f g a e b =
    let P : Item → Type 0 = λ x. IsItem ts x p q in
    let Q : ℕ → Type 0 = λ k. IsTerm ts (term_of right) k q in
    subst P (sym (node.item_equal l m r ∙ ap (λ z. equation (term_of z) m (term_of r.value)) f ∙ ap (λ z. equation (term_of left) m (term_of z)) g)) (is_equation a e.1 (subst Q e.0 b))

-- items with commas between them

then_item : Items → Item → Items
then_item no_item t = item_and t no_item
then_item (item_and u us) t = item_and u (then_item us t)

items_more : (ts : List Token) {xs : Items} {p m : ℕ} (t : Item) (q : ℕ) → IsList ts xs p m → At ts m Comma → IsItem ts t (m + 1) q → IsList ts (then_item xs t) p q
unfolding then_item
items_more ts t q (last_item a) h b = more_items a h (last_item b)
items_more ts t q (more_items a k r) h b = more_items a k (items_more ts t q r h b)

items_last : (xs : List ItemNode) (x : ItemNode) → items_of_nodes (xs ++ x ∷ []) ≡ then_item (items_of_nodes xs) (item_of x)
unfolding then_item
items_last [] x = refl
items_last (y ∷ xs) x = ap (item_and (item_of y)) (items_last xs x)

-- the first item is read
pub items_first : (ts : List Token) (xs ys : List ItemNode) (x : ItemNode) (p m : ℕ) → xs ≡ [] → ys ≡ xs ++ x ∷ [] → IsItem ts (item_of x) p m → IsList ts (items_of_nodes ys) p m
items_first ts xs ys x p m e f a =
    let P : List ItemNode → Type 0 = λ zs. IsList ts (items_of_nodes zs) p m in
    subst P (sym (f ∙ ap (λ zs. zs ++ x ∷ []) e)) (last_item a)

-- an item behind a comma is read
pub items_next : (ts : List Token) (xs ys : List ItemNode) (x : ItemNode) (p m q : ℕ) → IsList ts (items_of_nodes xs) p m → At ts m Comma → IsItem ts (item_of x) (m + 1) q → ys ≡ xs ++ x ∷ [] →
    IsList ts (items_of_nodes ys) p q
items_next ts xs ys x p m q r h a e =
    let P : Items → Type 0 = λ z. IsList ts z p q in
    subst P (sym (ap items_of_nodes e ∙ items_last xs x)) (items_more ts (item_of x) q r h a)

-- no items are read
pub no_item_there : (ts : List Token) (xs : List ItemNode) (p : ℕ) → xs ≡ [] → IsOptList ts (items_of_nodes xs) p p
no_item_there ts xs p e = let P : List ItemNode → Type 0 = λ zs. IsOptList ts (items_of_nodes zs) p p in subst P (sym e) no_list
