-- Which token stands where a part begins, and behind it.
use Rattle.std.proofs.Common.{◌≡◌, ℕ, ◌+◌, Bool, true, false, List, nat_eq, refl, sym, ◌∙◌, ap, subst, inl, inr}
use Rattle.std.proofs.lemmas.Bool.{eq-eqb}
use Rattle.lmn_parser_grammar.specs.Reading.{is_kind, may_follow_clause, is_end}
use Rattle.lmn_parser_grammar.proofs.Theory.{is_itself}
use Rattle.lmn_lexer.specs.declared.token.Kind.{Kind}
use Rattle.lmn_lexer.specs.declared.token.Kind.TheVariants.{Name, Quoted, Mod, Link, Int, Context, RuleCtx, End, LParen, RParen, LBracket, RBracket, LBrace, RBrace, Comma, Dot, Arrow, AtAt, Bar, Backslash, Equal, Plus}
use Rattle.lmn_lexer.specs.declared.token.Token.{Token}
use Rattle.lmn_parser.specs.Syntax.{Term, Terms, Item, Items, Clause, Clauses}
use Rattle.lmn_parser.specs.Trees.{At, NameAt, IsClause, named_rule, unnamed_rule, is_process, IsWrittenRule, is_rule, IsHeads, all_taken, some_kept, no_list, some_list, IsList, last_item, more_items, IsItem, is_atom_item, is_membrane_item, is_context_item, is_closed, is_bracketed, is_rule_context, is_plus_link, is_group, is_equation, IsMembrane, in_braces, IsWrittenAtom, with_name, with_integer, no_parentheses, no_arguments, some_arguments, IsTerms, last_term, more_terms, IsTerm, is_link, is_atom, is_context, is_membrane, is_list, IsTermList, empty_list, closed_list, open_list}
use Rattle.lmn_base.proofs.Truth.{false_not_true as clash}
use Rattle.lmn_parser_grammar.proofs.Stops.{same_some as some_same}

-- a token has one kind
pub one_kind : (ts : List Token) (p : ℕ) {k l : Kind} → At ts p k → At ts p l → k ≡ l
one_kind ts p {k} {l} h g = some_same k l (sym h ∙ g)

-- two kinds at one place
pub apart : (ts : List Token) (p : ℕ) {k l : Kind} → At ts p k → At ts p l → is_kind k l ≡ false → ⊥
apart ts p {k} {l} h g e = clash (sym (sym (is_itself k l (one_kind ts p h g)) ∙ e))

-- ---- what may follow

-- each kind at q, if there is one, is of these
abbrev pub Follow : List Token → (Kind → Bool) → ℕ → Type 0
Follow ts f q = (k : Kind) → At ts q k → f k ≡ true

-- a token that passes the test follows
pub follows : (ts : List Token) (f : Kind → Bool) (q : ℕ) {k : Kind} → At ts q k → f k ≡ true → Follow ts f q
follows ts f q {k} h e l g = ap f (sym (one_kind ts q h g)) ∙ e

-- what may not follow
pub no_follow : (ts : List Token) (f : Kind → Bool) (q : ℕ) {k : Kind} → Follow ts f q → At ts q k → f k ≡ false → ⊥
no_follow ts f q {k} F h e = clash (sym e ∙ F k h)

-- what follows by one test follows by a wider one
pub weaken : (ts : List Token) (f g : Kind → Bool) (q : ℕ) → ((k : Kind) → f k ≡ true → g k ≡ true) → Follow ts f q → Follow ts g q
weaken ts f g q w F k h = w k (F k h)

-- behind an atom or a term
abbrev pub after_term : Kind → Bool
after_term LParen = false
after_term _ = true

-- what may stand behind an item
abbrev pub after_item : Kind → Bool
after_item LParen = false
after_item LBracket = false
after_item Equal = false
after_item _ = true

-- behind terms with commas between them
abbrev pub after_terms : Kind → Bool
after_terms RParen = true
after_terms RBracket = true
after_terms Bar = true
after_terms _ = false

-- what may stand behind a list
abbrev pub after_list : Kind → Bool
after_list RParen = true
after_list RBrace = true
after_list Dot = true
after_list End = true
after_list Backslash = true
after_list Arrow = true
after_list _ = false

-- what may stand behind an item may stand behind a term
pub item_term : (k : Kind) → after_item k ≡ true → after_term k ≡ true
item_term LParen h = absurd (clash h)
item_term _ h = refl

-- and so may what stands behind terms
pub terms_term : (k : Kind) → after_terms k ≡ true → after_term k ≡ true
terms_term LParen h = absurd (clash h)
terms_term _ h = refl

-- what may stand behind a list may stand behind an item
pub list_item : (k : Kind) → after_list k ≡ true → after_item k ≡ true
list_item LParen h = absurd (clash h)
list_item LBracket h = absurd (clash h)
list_item Equal h = absurd (clash h)
list_item _ h = refl

-- what may follow a clause may stand behind a list
pub clause_list : (k : Kind) → may_follow_clause k ≡ true → after_list k ≡ true
clause_list RParen h = refl
clause_list RBrace h = refl
clause_list Dot h = refl
clause_list End h = refl
clause_list _ h = absurd (clash h)

-- what ends a membrane or a text may follow a clause
pub end_clause : (k : Kind) → is_end k ≡ true → may_follow_clause k ≡ true
end_clause RBrace h = refl
end_clause End h = refl
end_clause _ h = absurd (clash h)

-- ---- with which token a part begins

-- kinds with which terms and items of one form begin
abbrev pub sort : Kind → ℕ
sort Name = 1
sort Quoted = 1
sort Mod = 1
sort Int = 1
sort Context = 2
sort LBrace = 3
sort LBracket = 4
sort Link = 5
sort RuleCtx = 6
sort Plus = 7
sort LParen = 8
sort _ = 0

-- how a term begins, as a number
abbrev pub term_sort : {ts : List Token} {t : Term} {p q : ℕ} → IsTerm ts t p q → ℕ
term_sort (is_link h) = 5
term_sort (is_atom d) = 1
term_sort (is_context h) = 2
term_sort (is_membrane d) = 3
term_sort (is_list d) = 4

-- how an item begins, as a number
abbrev pub item_sort : {ts : List Token} {x : Item} {p q : ℕ} → IsItem ts x p q → ℕ
item_sort (is_atom_item d) = 1
item_sort (is_membrane_item d) = 3
item_sort (is_context_item h) = 2
item_sort (is_closed h o c) = 2
item_sort (is_bracketed h o l c) = 2
item_sort (is_rule_context h) = 6
item_sort (is_plus_link h l) = 7
item_sort (is_group o d c) = 8
item_sort (is_equation a h b) = term_sort a

-- a token of this sort stands at p
abbrev pub Sorted : List Token → ℕ → ℕ → Type 0
Sorted ts p s = (k : Kind) × At ts p k × (sort k ≡ s)

name_at : (ts : List Token) (p : ℕ) → NameAt ts p → Sorted ts p 1
name_at ts p (inl h) = (Name, h, refl)
name_at ts p (inr (inl h)) = (Quoted, h, refl)
name_at ts p (inr (inr h)) = (Mod, h, refl)

atom_at : (ts : List Token) {n : ℕ} {xs : Terms} {p q : ℕ} → IsWrittenAtom ts n xs p q → Sorted ts p 1
atom_at ts (with_name h d) = name_at ts _ h
atom_at ts (with_integer h d) = (Int, h, refl)

membrane_at : (ts : List Token) {cs : Clauses} {p q : ℕ} → IsMembrane ts cs p q → Sorted ts p 3
membrane_at ts (in_braces o d c) = (LBrace, o, refl)

list_at : (ts : List Token) {t : Term} {p q : ℕ} → IsTermList ts t p q → Sorted ts p 4
list_at ts (empty_list o c) = (LBracket, o, refl)
list_at ts (closed_list o d c) = (LBracket, o, refl)
list_at ts (open_list o d h e c) = (LBracket, o, refl)

-- a term begins with a token of its sort
pub term_at : (ts : List Token) {t : Term} {p q : ℕ} (d : IsTerm ts t p q) → Sorted ts p (term_sort d)
term_at ts (is_link h) = (Link, h, refl)
term_at ts (is_atom d) = atom_at ts d
term_at ts (is_context h) = (Context, h, refl)
term_at ts (is_membrane d) = membrane_at ts d
term_at ts (is_list d) = list_at ts d

-- and so does an item
pub item_at : (ts : List Token) {x : Item} {p q : ℕ} (d : IsItem ts x p q) → Sorted ts p (item_sort d)
item_at ts (is_atom_item d) = atom_at ts d
item_at ts (is_membrane_item d) = membrane_at ts d
item_at ts (is_context_item h) = (Context, h, refl)
item_at ts (is_closed h o c) = (Context, h, refl)
item_at ts (is_bracketed h o l c) = (Context, h, refl)
item_at ts (is_rule_context h) = (RuleCtx, h, refl)
item_at ts (is_plus_link h l) = (Plus, h, refl)
item_at ts (is_group o d c) = (LParen, o, refl)
item_at ts (is_equation a h b) = term_at ts a

-- a token has one sort
pub same_sort : (ts : List Token) (p : ℕ) {a b : ℕ} → Sorted ts p a → Sorted ts p b → nat_eq a b ≡ true
same_sort ts p {a} {b} (k, h, s) (l, g, t) = eq-eqb a b (sym s ∙ ap sort (one_kind ts p h g) ∙ t)

-- only terms of these sorts
pub other_sorts : {ts : List Token} {t : Term} {p q : ℕ} (d : IsTerm ts t p q) →
    (nat_eq (term_sort d) 6 ≡ false) × (nat_eq (term_sort d) 7 ≡ false) × (nat_eq (term_sort d) 8 ≡ false)
    × (nat_eq 6 (term_sort d) ≡ false) × (nat_eq 7 (term_sort d) ≡ false) × (nat_eq 8 (term_sort d) ≡ false)
other_sorts (is_link h) = (refl, refl, refl, refl, refl, refl)
other_sorts (is_atom d) = (refl, refl, refl, refl, refl, refl)
other_sorts (is_context h) = (refl, refl, refl, refl, refl, refl)
other_sorts (is_membrane d) = (refl, refl, refl, refl, refl, refl)
other_sorts (is_list d) = (refl, refl, refl, refl, refl, refl)

-- no term and no item begins with a token of no sort
some_sort : {ts : List Token} {t : Term} {p q : ℕ} (d : IsTerm ts t p q) → nat_eq (term_sort d) 0 ≡ false
some_sort (is_link h) = refl
some_sort (is_atom d) = refl
some_sort (is_context h) = refl
some_sort (is_membrane d) = refl
some_sort (is_list d) = refl

some_item_sort : {ts : List Token} {x : Item} {p q : ℕ} (d : IsItem ts x p q) → nat_eq (item_sort d) 0 ≡ false
some_item_sort (is_equation a h b) = some_sort a
some_item_sort (is_atom_item d) = refl
some_item_sort (is_membrane_item d) = refl
some_item_sort (is_context_item h) = refl
some_item_sort (is_closed h o c) = refl
some_item_sort (is_bracketed h o l c) = refl
some_item_sort (is_rule_context h) = refl
some_item_sort (is_plus_link h l) = refl
some_item_sort (is_group o d c) = refl

-- no term begins with a token of another sort
pub no_term : (ts : List Token) {t : Term} {p q : ℕ} {k : Kind} → IsTerm ts t p q → At ts p k → sort k ≡ 0 → ⊥
no_term ts {p = p} {k = k} d h s = clash (sym (some_sort d) ∙ same_sort ts p (term_at ts d) (k, h, s))

-- and no terms
pub no_terms : (ts : List Token) {xs : Terms} {p q : ℕ} {k : Kind} → IsTerms ts xs p q → At ts p k → sort k ≡ 0 → ⊥
no_terms ts (last_term d) h s = no_term ts d h s
no_terms ts (more_terms d c e) h s = no_term ts d h s

no_item : (ts : List Token) {x : Item} {p q : ℕ} {k : Kind} → IsItem ts x p q → At ts p k → sort k ≡ 0 → ⊥
no_item ts {p = p} {k = k} d h s = clash (sym (some_item_sort d) ∙ same_sort ts p (item_at ts d) (k, h, s))

-- and no list
pub no_list_at : (ts : List Token) {xs : Items} {p q : ℕ} {k : Kind} → IsList ts xs p q → At ts p k → sort k ≡ 0 → ⊥
no_list_at ts (last_item d) h s = no_item ts d h s
no_list_at ts (more_items d c e) h s = no_item ts d h s

-- a list begins with no token that may stand behind one
pub no_sort : (k : Kind) → after_list k ≡ true → sort k ≡ 0
no_sort RParen h = refl
no_sort RBrace h = refl
no_sort Dot h = refl
no_sort End h = refl
no_sort Backslash h = refl
no_sort Arrow h = refl
no_sort _ h = absurd (clash h)

-- a list begins with a token
pub list_token : (ts : List Token) {xs : Items} {p q : ℕ} → IsList ts xs p q → (k : Kind) × At ts p k
list_token ts (last_item d) = let a = item_at ts d in (a.0, a.1)
list_token ts (more_items d c e) = let a = item_at ts d in (a.0, a.1)

-- and not with one that may stand behind it
pub list_no_follow : (ts : List Token) {xs : Items} {p q : ℕ} → IsList ts xs p q → Follow ts after_list p → ⊥
list_no_follow ts d F = let t = list_token ts d in no_list_at ts d t.1 (no_sort t.0 (F t.0 t.1))

-- a name stands only where a token of its sort does
pub no_name : (ts : List Token) (p : ℕ) {k : Kind} → NameAt ts p → At ts p k → nat_eq 1 (sort k) ≡ false → ⊥
no_name ts p {k} n h e = clash (sym e ∙ same_sort ts p (name_at ts p n) (k, h, refl))

end_list : (k : Kind) → is_end k ≡ true → after_list k ≡ true
end_list k h = clause_list k (end_clause k h)

no_heads : (ts : List Token) {xs ys : Items} {p m : ℕ} → IsHeads ts xs ys p m → At ts m Arrow → Follow ts is_end p → ⊥
no_heads ts (all_taken no_list) h F = no_follow ts is_end _ F h refl
no_heads ts (all_taken (some_list d)) h F = list_no_follow ts d (weaken ts is_end after_list _ end_list F)
no_heads ts (some_kept no_list b e) h F = no_follow ts is_end _ F b refl
no_heads ts (some_kept (some_list d) b e) h F = list_no_follow ts d (weaken ts is_end after_list _ end_list F)

no_rule : (ts : List Token) {s : ℕ} {c : Clause} {p q : ℕ} → IsWrittenRule ts s c p q → Follow ts is_end p → ⊥
no_rule ts (is_rule s d h b) F = no_heads ts d h F

no_end : (ts : List Token) (p : ℕ) → NameAt ts p → Follow ts is_end p → ⊥
no_end ts p (inl h) F = no_follow ts is_end p F h refl
no_end ts p (inr (inl h)) F = no_follow ts is_end p F h refl
no_end ts p (inr (inr h)) F = no_follow ts is_end p F h refl

-- no clause begins where clauses end
pub no_clause : (ts : List Token) {c : Clause} {p q : ℕ} → IsClause ts c p q → Follow ts is_end p → ⊥
no_clause ts (named_rule n a d) F = no_end ts _ n F
no_clause ts (unnamed_rule d) F = no_rule ts d F
no_clause ts (is_process d) F = list_no_follow ts d (weaken ts is_end after_list _ end_list F)

-- ---- the name of a rule and its '@@': a list that begins with them has the name alone

atom_label : (ts : List Token) {n : ℕ} {xs : Terms} {p q : ℕ} → IsWrittenAtom ts n xs p q → At ts (p + 1) AtAt → q ≡ p + 1
atom_label ts (with_name n no_parentheses) h = refl
atom_label ts (with_name n (no_arguments o c)) h = absurd (apart ts _ o h refl)
atom_label ts (with_name n (some_arguments o d c)) h = absurd (apart ts _ o h refl)
atom_label ts (with_integer n no_parentheses) h = refl
atom_label ts (with_integer n (no_arguments o c)) h = absurd (apart ts _ o h refl)
atom_label ts (with_integer n (some_arguments o d c)) h = absurd (apart ts _ o h refl)

item_label : (ts : List Token) {x : Item} {p q : ℕ} (d : IsItem ts x p q) → nat_eq (item_sort d) 1 ≡ true → At ts (p + 1) AtAt → q ≡ p + 1
item_label ts (is_atom_item a) s h = atom_label ts a h
item_label ts (is_equation (is_atom a) e b) s h = absurd (apart ts _ (subst (λ n. At ts n Equal) (atom_label ts a h) e) h refl)
item_label ts _ s h = absurd (clash s)

-- a list before `@@` is one name
pub list_label : (ts : List Token) {xs : Items} {p q : ℕ} → IsList ts xs p q → NameAt ts p → At ts (p + 1) AtAt → q ≡ p + 1
list_label ts {p = p} (last_item d) n h = item_label ts d (same_sort ts p (item_at ts d) (name_at ts p n)) h
list_label ts {p = p} (more_items d c e) n h =
    absurd (apart ts _ (subst (λ m. At ts m Comma) (item_label ts d (same_sort ts p (item_at ts d) (name_at ts p n)) h) c) h refl)

no_label_list : (ts : List Token) {xs : Items} {p q : ℕ} {k : Kind} → IsList ts xs p q → NameAt ts p → At ts (p + 1) AtAt → At ts q k → is_kind k AtAt ≡ false → ⊥
no_label_list ts {p = p} {k = k} d n h g e = apart ts (p + 1) (subst (λ m. At ts m k) (list_label ts d n h) g) h e

no_label_heads : (ts : List Token) {xs ys : Items} {p m : ℕ} → IsHeads ts xs ys p m → At ts m Arrow → NameAt ts p → At ts (p + 1) AtAt → ⊥
no_label_heads ts (all_taken no_list) h n a = no_name ts _ n h refl
no_label_heads ts (all_taken (some_list d)) h n a = no_label_list ts d n a h refl
no_label_heads ts (some_kept no_list b e) h n a = no_name ts _ n b refl
no_label_heads ts (some_kept (some_list d) b e) h n a = no_label_list ts d n a b refl

-- and no rule
pub no_label_rule : (ts : List Token) {s : ℕ} {c : Clause} {p q : ℕ} → IsWrittenRule ts s c p q → NameAt ts p → At ts (p + 1) AtAt → ⊥
no_label_rule ts (is_rule s d h b) n a = no_label_heads ts d h n a
