-- Terms, sums and conditions as a reader comes to them.
use Rattle.std.proofs.Common.{◌≡◌, ℕ, ◌+◌, ◌≤◌, max, true, false, List, [], ◌∷◌, slice_get, Option, Some, None, refl, sym, ◌∙◌, ap, arith}
use Rattle.lmn_parser_grammar.specs.Grammar.{Exp, Tok, Opt, Many, Within, Ref, Round, Square, TermPart, SumPart, ◌·◌, ◌∣◌, more_of, some_of, name, arguments, atom, membrane, tlist, fact, product, cmp, cond, guard}
use Rattle.lmn_parser_grammar.specs.Factored.{atom_name, right_side, context_tail, contexts, product_sign, plus, guard_bar}
use Rattle.lmn_parser_grammar.specs.Reading.{nexts, is_kind, Owed, next, stop_at, begins, NoArgs, EndsItem, EndsProduct, EndsSum, EndsCond}
use Rattle.lmn_lexer.specs.declared.token.Kind.{Kind}
use Rattle.lmn_lexer.specs.declared.token.Kind.TheVariants.{Name, Quoted, Mod, Link, Int, Context, LParen, RParen, LBracket, RBracket, LBrace, Bar, Equal, Less, LessEq, Greater, GreaterEq, NumEq, NumNe, Differ, Plus, Minus, Star, Slash}
use Rattle.lmn_parser_grammar.proofs.Theory.{is_itself}
use Rattle.lmn_parser_grammar.proofs.Stops.{swap, same_some, stop_nothing, advance, dead_here, stop_at_from, tok_taken, tok_dead, within_taken}
use Rattle.lmn_parser_grammar.proofs.SameLanguage.{seq, seq3, alt, ref}
use Rattle.lmn_parser_grammar.proofs.Choices.{begins_first, not_begun, alt_left, alt_right, opt_none, opt_some, many_none, many_some, not_opened, sign_taken, sign_dead, opt_before}
use Rattle.lmn_parser_grammar.proofs.Items.{Apart, TakesOne, one_taken, alike_at, name_taken}
use Rattle.lmn_base.proofs.Truth.{false_not_true as clash}

-- A term.
pub term_link : (ts : List Kind) (p : ℕ) (κ : Owed) → slice_get ts p ≡ Some Link → stop_at ts p ((Ref TermPart ∷ κ) ∷ []) ≡ stop_at ts (p + 1) (κ ∷ [])
term_link ts p κ h = advance ts p _ Link κ [] h refl

-- a term that begins as an atom is one
pub term_atom : (ts : List Kind) (p : ℕ) (κ : Owed) → begins atom_name (slice_get ts p) ≡ true → stop_at ts p ((Ref TermPart ∷ κ) ∷ []) ≡ stop_at ts p ((atom ∷ κ) ∷ [])
term_atom ts p κ h = alike_at ts p atom_name (Ref TermPart ∷ κ) (atom ∷ κ) go h
  where
    go : (t : Kind) → begins atom_name (Some t) ≡ true → nexts ((Ref TermPart ∷ κ) ∷ []) t ≡ nexts ((atom ∷ κ) ∷ []) t
    go Name b = refl
    go Quoted b = refl
    go Mod b = refl
    go Int b = refl
    go _ b = absurd (clash b)

-- one that begins with a context is that
pub term_context : (ts : List Kind) (p : ℕ) (κ : Owed) → slice_get ts p ≡ Some Context → stop_at ts p ((Ref TermPart ∷ κ) ∷ []) ≡ stop_at ts (p + 1) (κ ∷ [])
term_context ts p κ h = advance ts p _ Context κ [] h refl

-- one that begins with `{` is a membrane
pub term_membrane : (ts : List Kind) (p : ℕ) (κ : Owed) → slice_get ts p ≡ Some LBrace → stop_at ts p ((Ref TermPart ∷ κ) ∷ []) ≡ stop_at ts p ((membrane ∷ κ) ∷ [])
term_membrane ts p κ h = swap ts p _ _ LBrace h refl

-- one that begins with `[` is a list of terms
pub term_tlist : (ts : List Kind) (p : ℕ) (κ : Owed) → slice_get ts p ≡ Some LBracket → stop_at ts p ((Ref TermPart ∷ κ) ∷ []) ≡ stop_at ts p ((tlist ∷ κ) ∷ [])
term_tlist ts p κ h = swap ts p _ _ LBracket h refl

-- Arguments.
pub arguments_some : (ts : List Kind) (p : ℕ) (κ : Owed) → NoArgs κ → slice_get ts p ≡ Some LParen →
    stop_at ts p ((Opt arguments ∷ κ) ∷ []) ≡ stop_at ts (p + 1) ((Opt (some_of (Ref TermPart)) ∷ Tok RParen ∷ κ) ∷ [])
arguments_some ts p κ n h = opt_some ts p arguments κ (dead_here ts p κ LParen h n) ∙ within_taken ts p Round (Opt (some_of (Ref TermPart))) κ h

-- no arguments come where no `(` stands
pub arguments_none : (ts : List Kind) (p : ℕ) (κ : Owed) → (slice_get ts p ≡ Some LParen → ⊥) → stop_at ts p ((Opt arguments ∷ κ) ∷ []) ≡ stop_at ts p (κ ∷ [])
arguments_none ts p κ h = opt_none ts p arguments κ (not_opened ts p Round (Opt (some_of (Ref TermPart))) h)

-- a '[' list that isn't empty, and what may stand behind its terms
pub tlist_terms : (ts : List Kind) (p : ℕ) (κ : Owed) → (slice_get ts p ≡ Some RBracket → ⊥) →
    stop_at ts p ((Opt (some_of (Ref TermPart) · Opt (Tok Bar · Ref TermPart)) ∷ Tok RBracket ∷ κ) ∷ []) ≡ stop_at ts p ((some_of (Ref TermPart) ∷ Opt (Tok Bar · Ref TermPart) ∷ Tok RBracket ∷ κ) ∷ [])
tlist_terms ts p κ h = opt_before ts p (some_of (Ref TermPart) · Opt (Tok Bar · Ref TermPart)) RBracket κ h ∙ seq ts p (some_of (Ref TermPart)) (Opt (Tok Bar · Ref TermPart)) (Tok RBracket ∷ κ)

-- What stands behind a context.
pub context_bracket : (ts : List Kind) (p : ℕ) (κ : Owed) → EndsItem κ → slice_get ts p ≡ Some LBracket →
    stop_at ts p ((context_tail ∷ κ) ∷ []) ≡ stop_at ts (p + 1) ((Opt (Tok Link) ∷ Tok RBracket ∷ κ) ∷ [])
context_bracket ts p κ n h = opt_some ts p (Within Square (Opt (Tok Link)) ∣ right_side) κ (dead_here ts p κ LBracket h n.1)
    ∙ alt_left ts p (Within Square (Opt (Tok Link))) right_side κ (ap (begins right_side) h) refl ∙ within_taken ts p Square (Opt (Tok Link)) κ h

-- between the brackets stands a link
pub brackets_link : (ts : List Kind) (p : ℕ) (κ : Owed) → (slice_get ts p ≡ Some RBracket → ⊥) →
    stop_at ts p ((Opt (Tok Link) ∷ Tok RBracket ∷ κ) ∷ []) ≡ stop_at ts p ((Tok Link ∷ Tok RBracket ∷ κ) ∷ [])
brackets_link ts p κ h = opt_before ts p (Tok Link) RBracket κ h

-- or nothing
pub brackets_empty : (ts : List Kind) (p : ℕ) (κ : Owed) → slice_get ts p ≡ Some RBracket →
    stop_at ts p ((Opt (Tok Link) ∷ Tok RBracket ∷ κ) ∷ []) ≡ stop_at ts (p + 1) (κ ∷ [])
brackets_empty ts p κ h = opt_none ts p (Tok Link) (Tok RBracket ∷ κ) (ap (begins (Tok Link)) h) ∙ advance ts p ((Tok RBracket ∷ κ) ∷ []) RBracket κ [] h refl

-- behind a context and `=` comes a term
pub context_equal : (ts : List Kind) (p : ℕ) (κ : Owed) → EndsItem κ → slice_get ts p ≡ Some Equal →
    stop_at ts p ((context_tail ∷ κ) ∷ []) ≡ stop_at ts (p + 1) ((Ref TermPart ∷ κ) ∷ [])
context_equal ts p κ n h = opt_some ts p (Within Square (Opt (Tok Link)) ∣ right_side) κ (dead_here ts p κ Equal h n.2)
    ∙ alt_right ts p (Within Square (Opt (Tok Link))) right_side κ (ap (begins (Within Square (Opt (Tok Link)))) h) refl ∙ sign_taken ts p Equal (Ref TermPart) κ h

-- a context stands alone where neither `[` nor `=` follows
pub context_alone : (ts : List Kind) (p : ℕ) (κ : Owed) → (slice_get ts p ≡ Some LBracket → ⊥) → (slice_get ts p ≡ Some Equal → ⊥) →
    stop_at ts p ((context_tail ∷ κ) ∷ []) ≡ stop_at ts p (κ ∷ [])
context_alone ts p κ b e = opt_none ts p (Within Square (Opt (Tok Link)) ∣ right_side) κ (go (slice_get ts p) refl)
  where
    go : (o : Option Kind) → slice_get ts p ≡ o → begins (Within Square (Opt (Tok Link)) ∣ right_side) (slice_get ts p) ≡ false
    go None h = ap (begins (Within Square (Opt (Tok Link)) ∣ right_side)) h
    go (Some LBracket) h = absurd (b h)
    go (Some Equal) h = absurd (e h)
    go (Some _) h = ap (begins (Within Square (Opt (Tok Link)) ∣ right_side)) h

-- Facts, products and sums.
pub fact_int : (ts : List Kind) (p : ℕ) (κ : Owed) → slice_get ts p ≡ Some Int → stop_at ts p ((fact ∷ κ) ∷ []) ≡ stop_at ts (p + 1) (κ ∷ [])
fact_int ts p κ h = advance ts p ((fact ∷ κ) ∷ []) Int κ [] h refl

-- an operand that begins with a context is that
pub fact_context : (ts : List Kind) (p : ℕ) (κ : Owed) → slice_get ts p ≡ Some Context → stop_at ts p ((fact ∷ κ) ∷ []) ≡ stop_at ts (p + 1) (κ ∷ [])
fact_context ts p κ h = advance ts p ((fact ∷ κ) ∷ []) Context κ [] h refl

times_one : TakesOne product_sign
times_one Star κ h = refl
times_one Slash κ h = refl
times_one Mod κ h = refl
times_one _ κ h = absurd (clash h)

plus_one : TakesOne plus
plus_one Plus κ h = refl
plus_one Minus κ h = refl
plus_one _ κ h = absurd (clash h)

ends_times : (ts : List Kind) (p : ℕ) (κ : Owed) → EndsProduct κ → begins product_sign (slice_get ts p) ≡ true → stop_at ts p (κ ∷ []) ≡ p
ends_times ts p κ n b = go (slice_get ts p) refl
  where
    go : (o : Option Kind) → slice_get ts p ≡ o → stop_at ts p (κ ∷ []) ≡ p
    go (Some Star) h = dead_here ts p κ Star h n.0
    go (Some Slash) h = dead_here ts p κ Slash h n.1
    go (Some Mod) h = dead_here ts p κ Mod h n.2
    go _ h = absurd (clash (sym (ap (begins product_sign) h) ∙ b))

ends_plus : (ts : List Kind) (p : ℕ) (κ : Owed) → EndsSum κ → begins plus (slice_get ts p) ≡ true → stop_at ts p (κ ∷ []) ≡ p
ends_plus ts p κ n b = go (slice_get ts p) refl
  where
    go : (o : Option Kind) → slice_get ts p ≡ o → stop_at ts p (κ ∷ []) ≡ p
    go (Some Plus) h = dead_here ts p κ Plus h n.3
    go (Some Minus) h = dead_here ts p κ Minus h n.4
    go _ h = absurd (clash (sym (ap (begins plus) h) ∙ b))

-- behind a sign of products comes one more operand
pub times_more : (ts : List Kind) (p : ℕ) (κ : Owed) → EndsProduct κ → begins product_sign (slice_get ts p) ≡ true →
    stop_at ts p ((Many (product_sign · fact) ∷ κ) ∷ []) ≡ stop_at ts (p + 1) ((fact ∷ Many (product_sign · fact) ∷ κ) ∷ [])
times_more ts p κ n h = many_some ts p (product_sign · fact) κ (ends_times ts p κ n h) ∙ seq ts p product_sign fact (Many (product_sign · fact) ∷ κ) ∙ one_taken ts p product_sign (fact ∷ Many (product_sign · fact) ∷ κ) times_one h

-- and without one none
pub times_done : (ts : List Kind) (p : ℕ) (κ : Owed) → begins product_sign (slice_get ts p) ≡ false → stop_at ts p ((Many (product_sign · fact) ∷ κ) ∷ []) ≡ stop_at ts p (κ ∷ [])
times_done ts p κ h = many_none ts p (product_sign · fact) κ (begins_first product_sign fact (slice_get ts p) refl h) refl

-- behind `+` or `-` comes one more product
pub plus_more : (ts : List Kind) (p : ℕ) (κ : Owed) → EndsSum κ → begins plus (slice_get ts p) ≡ true →
    stop_at ts p ((Many (plus · product) ∷ κ) ∷ []) ≡ stop_at ts (p + 1) ((product ∷ Many (plus · product) ∷ κ) ∷ [])
plus_more ts p κ n h = many_some ts p (plus · product) κ (ends_plus ts p κ n h) ∙ seq ts p plus product (Many (plus · product) ∷ κ) ∙ one_taken ts p plus (product ∷ Many (plus · product) ∷ κ) plus_one h

-- and without them none
pub plus_done : (ts : List Kind) (p : ℕ) (κ : Owed) → begins plus (slice_get ts p) ≡ false → stop_at ts p ((Many (plus · product) ∷ κ) ∷ []) ≡ stop_at ts p (κ ∷ [])
plus_done ts p κ h = many_none ts p (plus · product) κ (begins_first plus product (slice_get ts p) refl h) refl

-- a sum is a product, and more of them behind `+` or `-`
pub sum_ref : (ts : List Kind) (p : ℕ) (κ : Owed) → stop_at ts p ((Ref SumPart ∷ κ) ∷ []) ≡ stop_at ts p ((product ∷ Many (plus · product) ∷ κ) ∷ [])
sum_ref ts p κ = ref ts p SumPart κ ∙ seq ts p product (Many (plus · product)) κ

-- a product is an operand, and more of them behind signs of products
pub product_parts : (ts : List Kind) (p : ℕ) (κ : Owed) → stop_at ts p ((product ∷ κ) ∷ []) ≡ stop_at ts p ((fact ∷ Many (product_sign · fact) ∷ κ) ∷ [])
product_parts ts p κ = seq ts p fact (Many (product_sign · fact)) κ

-- behind a product that isn't the last
pub ends_product : (κ : Owed) → EndsSum κ → EndsProduct (Many (plus · product) ∷ κ)
ends_product κ n = (n.0, n.1, n.2)

-- Conditions.
cmp_one : TakesOne cmp
cmp_one Less κ h = refl
cmp_one LessEq κ h = refl
cmp_one Greater κ h = refl
cmp_one GreaterEq κ h = refl
cmp_one NumEq κ h = refl
cmp_one NumNe κ h = refl
cmp_one _ κ h = absurd (clash h)

-- a sign of comparison that is owed is passed
pub cmp_taken : (ts : List Kind) (p : ℕ) (κ : Owed) → begins cmp (slice_get ts p) ≡ true → stop_at ts p ((cmp ∷ κ) ∷ []) ≡ stop_at ts (p + 1) (κ ∷ [])
cmp_taken ts p κ h = one_taken ts p cmp κ cmp_one h

-- where another token stands reading stops
pub cmp_none : (ts : List Kind) (p : ℕ) (κ : Owed) → begins cmp (slice_get ts p) ≡ false → stop_at ts p ((cmp ∷ κ) ∷ []) ≡ p
cmp_none ts p κ h = not_begun ts p cmp κ h refl

abbrev comparison : Exp
comparison = Ref SumPart · cmp · Ref SumPart

abbrev binding : Exp
binding = Tok Context · Tok Equal · Ref SumPart

abbrev differing : Exp
differing = Tok Context · Tok Differ · Tok Context

abbrev other_cond : Exp
other_cond = comparison ∣ binding ∣ differing

name_before : Apart name other_cond
name_before (Some Name) h = refl
name_before (Some Quoted) h = refl
name_before (Some Mod) h = refl
name_before _ h = absurd (clash h)

-- a condition that begins with a name goes on with its contexts, if any
pub cond_name : (ts : List Kind) (p : ℕ) (κ : Owed) → begins name (slice_get ts p) ≡ true → stop_at ts p ((cond ∷ κ) ∷ []) ≡ stop_at ts (p + 1) ((Opt contexts ∷ κ) ∷ [])
cond_name ts p κ h = alt_left ts p (name · Opt contexts) other_cond κ (name_before (slice_get ts p) h) refl ∙ seq ts p name (Opt contexts) κ ∙ name_taken ts p (Opt contexts ∷ κ) h

-- contexts come where `(` stands
pub contexts_some : (ts : List Kind) (p : ℕ) (κ : Owed) → next κ LParen ≡ [] → slice_get ts p ≡ Some LParen →
    stop_at ts p ((Opt contexts ∷ κ) ∷ []) ≡ stop_at ts (p + 1) ((some_of (Tok Context) ∷ Tok RParen ∷ κ) ∷ [])
contexts_some ts p κ n h = opt_some ts p contexts κ (dead_here ts p κ LParen h n) ∙ within_taken ts p Round (some_of (Tok Context)) κ h

-- and are missing where it doesn't
pub contexts_none : (ts : List Kind) (p : ℕ) (κ : Owed) → (slice_get ts p ≡ Some LParen → ⊥) → stop_at ts p ((Opt contexts ∷ κ) ∷ []) ≡ stop_at ts p (κ ∷ [])
contexts_none ts p κ h = opt_none ts p contexts κ (not_opened ts p Round (some_of (Tok Context)) h)

to_other_cond : (ts : List Kind) (p : ℕ) (κ : Owed) → begins name (slice_get ts p) ≡ false → stop_at ts p ((cond ∷ κ) ∷ []) ≡ stop_at ts p ((other_cond ∷ κ) ∷ [])
to_other_cond ts p κ h = alt_right ts p (name · Opt contexts) other_cond κ (begins_first name (Opt contexts) (slice_get ts p) refl h) refl

-- the three other conditions, each read as far as it goes
three : (ts : List Kind) (p : ℕ) (κ : Owed) → stop_at ts p ((other_cond ∷ κ) ∷ []) ≡ max (stop_at ts p ((comparison ∷ κ) ∷ [])) (max (stop_at ts p ((binding ∷ κ) ∷ [])) (stop_at ts p ((differing ∷ κ) ∷ [])))
three ts p κ = alt ts p comparison (binding ∣ differing) κ ∙ ap (max (stop_at ts p ((comparison ∷ κ) ∷ []))) (alt ts p binding differing κ)

first_of_three : (n a b c q : ℕ) → n ≡ max a (max b c) → q ≤ a → b ≤ q → c ≤ q → n ≡ a
first_of_three n a b c q e i j k = omega arith

second_of_three : (n a b c q : ℕ) → n ≡ max a (max b c) → a ≤ q → q ≤ b → c ≤ q → n ≡ b
second_of_three n a b c q e i j k = omega arith

third_of_three : (n a b c q : ℕ) → n ≡ max a (max b c) → a ≤ q → b ≤ q → q ≤ c → n ≡ c
third_of_three n a b c q e i j k = omega arith

-- a context with a sign behind it that no sum goes on with
comparison_stops : (ts : List Kind) (p : ℕ) (κ : Owed) (t : Kind) → slice_get ts p ≡ Some Context → slice_get ts (p + 1) ≡ Some t →
    begins product_sign (Some t) ≡ false → begins plus (Some t) ≡ false → begins cmp (Some t) ≡ false → stop_at ts p ((comparison ∷ κ) ∷ []) ≡ p + 1
comparison_stops ts p κ t h h' m a c =
    let κ1 : Owed = (cmp · Ref SumPart) ∷ κ in
    let κ2 : Owed = Many (plus · product) ∷ κ1 in
    seq ts p (Ref SumPart) (cmp · Ref SumPart) κ ∙ sum_ref ts p κ1 ∙ product_parts ts p κ2 ∙ fact_context ts p (Many (product_sign · fact) ∷ κ2) h
    ∙ times_done ts (p + 1) κ2 (ap (begins product_sign) h' ∙ m) ∙ plus_done ts (p + 1) κ1 (ap (begins plus) h' ∙ a)
    ∙ seq ts (p + 1) cmp (Ref SumPart) κ ∙ cmp_none ts (p + 1) (Ref SumPart ∷ κ) (ap (begins cmp) h' ∙ c)

signed_taken : (ts : List Kind) (p : ℕ) (k : Kind) (e : Exp) (κ : Owed) → slice_get ts p ≡ Some Context → slice_get ts (p + 1) ≡ Some k →
    stop_at ts p (((Tok Context · Tok k · e) ∷ κ) ∷ []) ≡ stop_at ts (p + 1 + 1) ((e ∷ κ) ∷ [])
signed_taken ts p k e κ h h' = sign_taken ts p Context (Tok k · e) κ h ∙ sign_taken ts (p + 1) k e κ h'

signed_stops : (ts : List Kind) (p : ℕ) (k : Kind) (e : Exp) (κ : Owed) → (slice_get ts p ≡ Some Context → slice_get ts (p + 1) ≡ Some k → ⊥) →
    stop_at ts p (((Tok Context · Tok k · e) ∷ κ) ∷ []) ≤ stop_at ts p ((Tok Context ∷ []) ∷ [])
signed_stops ts p k e κ other = go (slice_get ts p) refl
  where
    not_here : (slice_get ts p ≡ Some Context → ⊥) → stop_at ts p (((Tok Context · Tok k · e) ∷ κ) ∷ []) ≤ stop_at ts p ((Tok Context ∷ []) ∷ [])
    not_here n = omega (arith, sign_dead ts p Context (Tok k · e) κ n, stop_at_from ts p ((Tok Context ∷ []) ∷ []))

    a_context : slice_get ts p ≡ Some Context → stop_at ts p (((Tok Context · Tok k · e) ∷ κ) ∷ []) ≤ stop_at ts p ((Tok Context ∷ []) ∷ [])
    a_context h = omega (arith, sign_taken ts p Context (Tok k · e) κ h, sign_dead ts (p + 1) k e κ (other h), tok_taken ts p Context [] h, stop_at_from ts (p + 1) ([] ∷ []))

    go : (o : Option Kind) → slice_get ts p ≡ o → stop_at ts p (((Tok Context · Tok k · e) ∷ κ) ∷ []) ≤ stop_at ts p ((Tok Context ∷ []) ∷ [])
    go (Some Context) h = a_context h
    go None h = not_here (λ c. let n : None ≡ Some Context = sym h ∙ c in cc)
    go (Some t) h = not_here (λ c. let n : Some t ≡ Some Context = sym h ∙ c in cc)

comparison_from : (ts : List Kind) (p : ℕ) (κ : Owed) → stop_at ts p ((Tok Context ∷ []) ∷ []) ≤ stop_at ts p ((comparison ∷ κ) ∷ [])
comparison_from ts p κ = go (slice_get ts p) refl
  where
    κ1 : Owed
    κ1 = (cmp · Ref SumPart) ∷ κ

    κ2 : Owed
    κ2 = Many (plus · product) ∷ κ1

    here_too : slice_get ts p ≡ Some Context → stop_at ts p ((comparison ∷ κ) ∷ []) ≡ stop_at ts (p + 1) ((Many (product_sign · fact) ∷ κ2) ∷ [])
    here_too h = seq ts p (Ref SumPart) (cmp · Ref SumPart) κ ∙ sum_ref ts p κ1 ∙ product_parts ts p κ2 ∙ fact_context ts p (Many (product_sign · fact) ∷ κ2) h

    not_here : (slice_get ts p ≡ Some Context → ⊥) → stop_at ts p ((Tok Context ∷ []) ∷ []) ≤ stop_at ts p ((comparison ∷ κ) ∷ [])
    not_here n = omega (arith, tok_dead ts p Context [] n, stop_at_from ts p ((comparison ∷ κ) ∷ []))

    go : (o : Option Kind) → slice_get ts p ≡ o → stop_at ts p ((Tok Context ∷ []) ∷ []) ≤ stop_at ts p ((comparison ∷ κ) ∷ [])
    go (Some Context) h = omega (arith, tok_taken ts p Context [] h, stop_nothing ts (p + 1), here_too h, stop_at_from ts (p + 1) ((Many (product_sign · fact) ∷ κ2) ∷ []))
    go None h = not_here (λ c. let n : None ≡ Some Context = sym h ∙ c in cc)
    go (Some t) h = not_here (λ c. let n : Some t ≡ Some Context = sym h ∙ c in cc)

different : (ts : List Kind) (p : ℕ) (k t : Kind) → slice_get ts p ≡ Some k → is_kind k t ≡ false → slice_get ts p ≡ Some t → ⊥
different ts p k t h n h' = clash (sym n ∙ is_itself k t (same_some k t (sym h ∙ h')))

-- the name isn't asked for here, since a context is none
pub cond_binding : (ts : List Kind) (p : ℕ) (κ : Owed) → slice_get ts p ≡ Some Context → slice_get ts (p + 1) ≡ Some Equal →
    stop_at ts p ((cond ∷ κ) ∷ []) ≡ stop_at ts (p + 1 + 1) ((Ref SumPart ∷ κ) ∷ [])
cond_binding ts p κ h h' = to_other_cond ts p κ (ap (begins name) h)
    ∙ second_of_three _ _ _ _ (p + 1) (three ts p κ)
    (omega (arith, comparison_stops ts p κ Equal h h' refl refl refl))
    (omega (arith, signed_taken ts p Equal (Ref SumPart) κ h h', stop_at_from ts (p + 1 + 1) ((Ref SumPart ∷ κ) ∷ [])))
    (omega (arith, sign_taken ts p Context (Tok Differ · Tok Context) κ h, sign_dead ts (p + 1) Differ (Tok Context) κ (different ts (p + 1) Equal Differ h' refl)))
    ∙ signed_taken ts p Equal (Ref SumPart) κ h h'

-- a condition of a context and `\=` goes on with a context
pub cond_differ : (ts : List Kind) (p : ℕ) (κ : Owed) → slice_get ts p ≡ Some Context → slice_get ts (p + 1) ≡ Some Differ →
    stop_at ts p ((cond ∷ κ) ∷ []) ≡ stop_at ts (p + 1 + 1) ((Tok Context ∷ κ) ∷ [])
cond_differ ts p κ h h' = to_other_cond ts p κ (ap (begins name) h)
    ∙ third_of_three _ _ _ _ (p + 1) (three ts p κ)
    (omega (arith, comparison_stops ts p κ Differ h h' refl refl refl))
    (omega (arith, sign_taken ts p Context (Tok Equal · Ref SumPart) κ h, sign_dead ts (p + 1) Equal (Ref SumPart) κ (different ts (p + 1) Differ Equal h' refl)))
    (omega (arith, signed_taken ts p Differ (Tok Context) κ h h', stop_at_from ts (p + 1 + 1) ((Tok Context ∷ κ) ∷ [])))
    ∙ signed_taken ts p Differ (Tok Context) κ h h'

-- a condition that begins as none of the others is a comparison
pub cond_comparison : (ts : List Kind) (p : ℕ) (κ : Owed) → begins name (slice_get ts p) ≡ false →
    (slice_get ts p ≡ Some Context → slice_get ts (p + 1) ≡ Some Equal → ⊥) → (slice_get ts p ≡ Some Context → slice_get ts (p + 1) ≡ Some Differ → ⊥) →
    stop_at ts p ((cond ∷ κ) ∷ []) ≡ stop_at ts p ((Ref SumPart ∷ cmp ∷ Ref SumPart ∷ κ) ∷ [])
cond_comparison ts p κ n e d = to_other_cond ts p κ n
    ∙ first_of_three _ _ _ _ (stop_at ts p ((Tok Context ∷ []) ∷ [])) (three ts p κ) (comparison_from ts p κ) (signed_stops ts p Equal (Ref SumPart) κ e) (signed_stops ts p Differ (Tok Context) κ d)
    ∙ seq3 ts p (Ref SumPart) cmp (Ref SumPart) κ

-- a guard is a condition, more of them, and the bar
pub guard_parts : (ts : List Kind) (p : ℕ) (κ : Owed) → stop_at ts p ((guard_bar ∷ κ) ∷ []) ≡ stop_at ts p ((cond ∷ more_of cond ∷ Tok Bar ∷ κ) ∷ [])
guard_parts ts p κ = seq ts p guard (Tok Bar) κ ∙ seq ts p cond (more_of cond) (Tok Bar ∷ κ)

-- what follows a condition of a guard takes nothing that a condition would take
pub ends_cond : (κ : Owed) → EndsCond (more_of cond ∷ Tok Bar ∷ κ)
ends_cond κ = (refl, (refl, refl, refl, refl, refl))
