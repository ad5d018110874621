-- Items as a reader comes to them: one choice at a token, and one thing owed.
use Rattle.std.proofs.Common.{◌≡◌, ℕ, ◌+◌, true, false, List, [], ◌∷◌, ◌++◌, slice_get, Option, Some, None, refl, sym, ◌∙◌, ap, subst, inl, inr}
use Rattle.lmn_parser_grammar.specs.Grammar.{Exp, Tok, Opt, Within, Ref, Round, Square, TermPart, ClausePart, Derives, both, left, right, without, with, by, ◌·◌, ◌∣◌, name, arguments, atom, membrane, tlist, term, item}
use Rattle.lmn_parser_grammar.specs.Factored.{atom_name, right_side, context_tail}
use Rattle.lmn_parser_grammar.specs.Reading.{Owed, nexts, stop_at, begins}
use Rattle.lmn_lexer.specs.declared.token.Kind.{Kind}
use Rattle.lmn_lexer.specs.declared.token.Kind.TheVariants.{Name, Quoted, Mod, Link, Int, Context, RuleCtx, LParen, RParen, LBracket, LBrace, Plus}
use Rattle.lmn_parser_grammar.proofs.Stops.{advance, alike, swap}
use Rattle.lmn_parser_grammar.proofs.SameLanguage.{exp_alike, seq, seq_parts, alt_parts, opt_parts, ref_parts}
use Rattle.lmn_base.proofs.Lists.{plus_nothing}
use Rattle.lmn_base.proofs.Truth.{false_not_true as clash}

-- Items.
abbrev item_read : Exp
item_read = atom · Opt right_side ∣ membrane · Opt right_side ∣ Tok Context · context_tail ∣ Tok RuleCtx ∣ Tok Plus · Tok Link
    ∣ Within Round (Ref ClausePart) ∣ (Tok Link ∣ tlist) · right_side

-- the same tokens are derived
pub derives_along : (e : Exp) (a b : List Kind) → a ≡ b → Derives e a → Derives e b
derives_along e a b h d = let P : List Kind → Type 0 = Derives e in subst P h d

alone : (a b : Exp) (w : List Kind) → Derives a w → Derives (a · Opt b) w
alone a b w d = both a (Opt b) w [] w (sym (plus_nothing w)) d (without b)

equation_read : (w u v : List Kind) → w ≡ u ++ v → Derives term u → Derives right_side v → Derives item_read w
equation_read w u v e (left _ _ _ l) r = right _ _ _ (right _ _ _ (right _ _ _ (right _ _ _ (right _ _ _ (right _ _ _ (both (Tok Link ∣ tlist) right_side u v w e (left _ _ u l) r))))))
equation_read w u v e (right _ _ _ (left _ _ _ a)) r = left _ _ _ (both atom (Opt right_side) u v w e a (with _ _ r))
equation_read w u v e (right _ _ _ (right _ _ _ (left _ _ _ c))) r = right _ _ _ (right _ _ _ (left _ _ _ (both (Tok Context) context_tail u v w e c (with _ _ (right _ _ _ r)))))
equation_read w u v e (right _ _ _ (right _ _ _ (right _ _ _ (left _ _ _ m)))) r = right _ _ _ (left _ _ _ (both membrane (Opt right_side) u v w e m (with _ _ r)))
equation_read w u v e (right _ _ _ (right _ _ _ (right _ _ _ (right _ _ _ t)))) r = right _ _ _ (right _ _ _ (right _ _ _ (right _ _ _ (right _ _ _ (right _ _ _ (both (Tok Link ∣ tlist) right_side u v w e (right _ _ u t) r))))))

read_of_item : (w : List Kind) → Derives item w → Derives item_read w
read_of_item w (left _ _ _ a) = left _ _ _ (alone atom right_side w a)
read_of_item w (right _ _ _ (left _ _ _ m)) = right _ _ _ (left _ _ _ (alone membrane right_side w m))
read_of_item w (right _ _ _ (right _ _ _ (left _ _ _ c))) = right _ _ _ (right _ _ _ (left _ _ _ (alone (Tok Context) (Within Square (Opt (Tok Link)) ∣ right_side) w c)))
read_of_item w (right _ _ _ (right _ _ _ (right _ _ _ (left _ _ _ d)))) = let s = seq_parts (Tok Context) (Within Square (Opt (Tok Link))) w d in
    right _ _ _ (right _ _ _ (left _ _ _ (both (Tok Context) context_tail s.0 s.1 w s.2 s.3 (with _ _ (left _ _ _ s.4)))))
read_of_item w (right _ _ _ (right _ _ _ (right _ _ _ (right _ _ _ (left _ _ _ r))))) = right _ _ _ (right _ _ _ (right _ _ _ (left _ _ _ r)))
read_of_item w (right _ _ _ (right _ _ _ (right _ _ _ (right _ _ _ (right _ _ _ (left _ _ _ l)))))) = right _ _ _ (right _ _ _ (right _ _ _ (right _ _ _ (left _ _ _ l))))
read_of_item w (right _ _ _ (right _ _ _ (right _ _ _ (right _ _ _ (right _ _ _ (right _ _ _ (left _ _ _ g))))))) = right _ _ _ (right _ _ _ (right _ _ _ (right _ _ _ (right _ _ _ (left _ _ _ g)))))
read_of_item w (right _ _ _ (right _ _ _ (right _ _ _ (right _ _ _ (right _ _ _ (right _ _ _ (right _ _ _ d))))))) =
    let s = seq_parts (Ref TermPart) right_side w d in equation_read w s.0 s.1 s.2 (ref_parts TermPart s.0 s.3) s.4

an_equation : (w u v : List Kind) → w ≡ u ++ v → Derives term u → Derives right_side v → Derives item w
an_equation w u v e t r = right _ _ _ (right _ _ _ (right _ _ _ (right _ _ _ (right _ _ _ (right _ _ _ (right _ _ _ (both (Ref TermPart) right_side u v w e (by TermPart u t) r)))))))

-- the first part is all where nothing stands behind it
pub nothing_behind : (w u v : List Kind) → w ≡ u ++ v → v ≡ [] → u ≡ w
nothing_behind w u v e n = sym (plus_nothing u) ∙ ap (λ z. u ++ z) (sym n) ∙ sym e

item_of_read : (w : List Kind) → Derives item_read w → Derives item w
item_of_read w (left _ _ _ d) = let s = seq_parts atom (Opt right_side) w d in elim (opt_parts right_side s.1 s.4)
    [ inl n ↦ left _ _ _ (derives_along atom s.0 w (nothing_behind w s.0 s.1 s.2 n) s.3) | inr r ↦ an_equation w s.0 s.1 s.2 (right _ _ _ (left _ _ _ s.3)) r ]
item_of_read w (right _ _ _ (left _ _ _ d)) = let s = seq_parts membrane (Opt right_side) w d in elim (opt_parts right_side s.1 s.4)
    [ inl n ↦ right _ _ _ (left _ _ _ (derives_along membrane s.0 w (nothing_behind w s.0 s.1 s.2 n) s.3)) | inr r ↦ an_equation w s.0 s.1 s.2 (right _ _ _ (right _ _ _ (right _ _ _ (left _ _ _ s.3)))) r ]
item_of_read w (right _ _ _ (right _ _ _ (left _ _ _ d))) = let s = seq_parts (Tok Context) context_tail w d in elim (opt_parts (Within Square (Opt (Tok Link)) ∣ right_side) s.1 s.4) [
  | inl n ↦ right _ _ _ (right _ _ _ (left _ _ _ (derives_along (Tok Context) s.0 w (nothing_behind w s.0 s.1 s.2 n) s.3)))
  | inr t ↦ elim (alt_parts (Within Square (Opt (Tok Link))) right_side s.1 t) [
    | inl l ↦ right _ _ _ (right _ _ _ (right _ _ _ (left _ _ _ (both (Tok Context) (Within Square (Opt (Tok Link))) s.0 s.1 w s.2 s.3 l))))
    | inr r ↦ an_equation w s.0 s.1 s.2 (right _ _ _ (right _ _ _ (left _ _ _ s.3))) r
  ]
]
item_of_read w (right _ _ _ (right _ _ _ (right _ _ _ (left _ _ _ r)))) = right _ _ _ (right _ _ _ (right _ _ _ (right _ _ _ (left _ _ _ r))))
item_of_read w (right _ _ _ (right _ _ _ (right _ _ _ (right _ _ _ (left _ _ _ l))))) = right _ _ _ (right _ _ _ (right _ _ _ (right _ _ _ (right _ _ _ (left _ _ _ l)))))
item_of_read w (right _ _ _ (right _ _ _ (right _ _ _ (right _ _ _ (right _ _ _ (left _ _ _ g)))))) = right _ _ _ (right _ _ _ (right _ _ _ (right _ _ _ (right _ _ _ (right _ _ _ (left _ _ _ g))))))
item_of_read w (right _ _ _ (right _ _ _ (right _ _ _ (right _ _ _ (right _ _ _ (right _ _ _ d)))))) =
    let s = seq_parts (Tok Link ∣ tlist) right_side w d in
    elim (alt_parts (Tok Link) tlist s.0 s.3)
    [ inl l ↦ an_equation w s.0 s.1 s.2 (left _ _ _ l) s.4 | inr t ↦ an_equation w s.0 s.1 s.2 (right _ _ _ (right _ _ _ (right _ _ _ (right _ _ _ t)))) s.4 ]

-- an item is read as by one token of look-ahead
pub item_alike : (ts : List Kind) (p : ℕ) (κ : Owed) → stop_at ts p ((item ∷ κ) ∷ []) ≡ stop_at ts p ((item_read ∷ κ) ∷ [])
item_alike ts p κ = exp_alike ts p item item_read κ (λ w. (read_of_item w, item_of_read w))

-- what begins with the one doesn't begin with the other
abbrev pub Apart : Exp → Exp → Type 0
Apart a b = (o : Option Kind) → begins a o ≡ true → begins b o ≡ false

-- where a token stands with which e begins, both go on alike
pub alike_at : (ts : List Kind) (p : ℕ) (e : Exp) (κ κ' : Owed) → ((t : Kind) → begins e (Some t) ≡ true → nexts (κ ∷ []) t ≡ nexts (κ' ∷ []) t) →
    begins e (slice_get ts p) ≡ true → stop_at ts p (κ ∷ []) ≡ stop_at ts p (κ' ∷ [])
alike_at ts p e κ κ' h b = alike ts p (κ ∷ []) (κ' ∷ []) (λ t i. h t (sym (ap (begins e) i) ∙ b))

-- one of several tokens
abbrev pub TakesOne : Exp → Type 0
TakesOne e = (t : Kind) (κ : Owed) → begins e (Some t) ≡ true → nexts ((e ∷ κ) ∷ []) t ≡ κ ∷ []

-- a thing of one token takes the token with which it begins
pub one_taken : (ts : List Kind) (p : ℕ) (e : Exp) (κ : Owed) → TakesOne e → begins e (slice_get ts p) ≡ true → stop_at ts p ((e ∷ κ) ∷ []) ≡ stop_at ts (p + 1) (κ ∷ [])
one_taken ts p e κ h b = go (slice_get ts p) refl
  where
    go : (o : Option Kind) → slice_get ts p ≡ o → stop_at ts p ((e ∷ κ) ∷ []) ≡ stop_at ts (p + 1) (κ ∷ [])
    go None i = absurd (clash (sym (ap (begins e) i) ∙ b))
    go (Some t) i = advance ts p ((e ∷ κ) ∷ []) t κ [] i (h t κ (sym (ap (begins e) i) ∙ b))

atom_name_one : TakesOne atom_name
atom_name_one Name κ h = refl
atom_name_one Quoted κ h = refl
atom_name_one Mod κ h = refl
atom_name_one Int κ h = refl
atom_name_one _ κ h = absurd (clash h)

name_one : TakesOne name
name_one Name κ h = refl
name_one Quoted κ h = refl
name_one Mod κ h = refl
name_one _ κ h = absurd (clash h)

-- so a name takes its token
pub name_taken : (ts : List Kind) (p : ℕ) (κ : Owed) → begins name (slice_get ts p) ≡ true → stop_at ts p ((name ∷ κ) ∷ []) ≡ stop_at ts (p + 1) (κ ∷ [])
name_taken ts p κ h = one_taken ts p name κ name_one h

-- an atom is its name, and then perhaps its arguments
pub atom_taken : (ts : List Kind) (p : ℕ) (κ : Owed) → begins atom_name (slice_get ts p) ≡ true → stop_at ts p ((atom ∷ κ) ∷ []) ≡ stop_at ts (p + 1) ((Opt arguments ∷ κ) ∷ [])
atom_taken ts p κ h = seq ts p atom_name (Opt arguments) κ ∙ one_taken ts p atom_name (Opt arguments ∷ κ) atom_name_one h

-- an item that begins as an atom is one, and then perhaps the right side of `=`
pub item_atom : (ts : List Kind) (p : ℕ) (κ : Owed) → begins atom_name (slice_get ts p) ≡ true →
    stop_at ts p ((item ∷ κ) ∷ []) ≡ stop_at ts p ((atom ∷ Opt right_side ∷ κ) ∷ [])
item_atom ts p κ h = item_alike ts p κ ∙ alike_at ts p atom_name (item_read ∷ κ) (atom ∷ Opt right_side ∷ κ) go h
  where
    go : (t : Kind) → begins atom_name (Some t) ≡ true → nexts ((item_read ∷ κ) ∷ []) t ≡ nexts ((atom ∷ Opt right_side ∷ κ) ∷ []) t
    go Name b = refl
    go Quoted b = refl
    go Mod b = refl
    go Int b = refl
    go _ b = absurd (clash b)

-- one that begins with `{` is a membrane, and then perhaps the right side of `=`
pub item_membrane : (ts : List Kind) (p : ℕ) (κ : Owed) → slice_get ts p ≡ Some LBrace →
    stop_at ts p ((item ∷ κ) ∷ []) ≡ stop_at ts p ((membrane ∷ Opt right_side ∷ κ) ∷ [])
item_membrane ts p κ h = item_alike ts p κ ∙ swap ts p _ _ LBrace h refl

-- one that begins with a context goes on with what may stand behind it
pub item_context : (ts : List Kind) (p : ℕ) (κ : Owed) → slice_get ts p ≡ Some Context →
    stop_at ts p ((item ∷ κ) ∷ []) ≡ stop_at ts (p + 1) ((context_tail ∷ κ) ∷ [])
item_context ts p κ h = item_alike ts p κ ∙ advance ts p _ Context (context_tail ∷ κ) [] h refl

-- one that begins with a rule context is that
pub item_rule_context : (ts : List Kind) (p : ℕ) (κ : Owed) → slice_get ts p ≡ Some RuleCtx → stop_at ts p ((item ∷ κ) ∷ []) ≡ stop_at ts (p + 1) (κ ∷ [])
item_rule_context ts p κ h = advance ts p _ RuleCtx κ [] h refl

-- one that begins with `+` goes on with a link
pub item_plus : (ts : List Kind) (p : ℕ) (κ : Owed) → slice_get ts p ≡ Some Plus → stop_at ts p ((item ∷ κ) ∷ []) ≡ stop_at ts (p + 1) ((Tok Link ∷ κ) ∷ [])
item_plus ts p κ h = advance ts p _ Plus (Tok Link ∷ κ) [] h refl

-- one that begins with `(` is a clause in parentheses
pub item_group : (ts : List Kind) (p : ℕ) (κ : Owed) → slice_get ts p ≡ Some LParen →
    stop_at ts p ((item ∷ κ) ∷ []) ≡ stop_at ts (p + 1) ((Ref ClausePart ∷ Tok RParen ∷ κ) ∷ [])
item_group ts p κ h = advance ts p _ LParen (Ref ClausePart ∷ Tok RParen ∷ κ) [] h refl

-- one that begins with a link goes on with `=`
pub item_link : (ts : List Kind) (p : ℕ) (κ : Owed) → slice_get ts p ≡ Some Link → stop_at ts p ((item ∷ κ) ∷ []) ≡ stop_at ts (p + 1) ((right_side ∷ κ) ∷ [])
item_link ts p κ h = advance ts p _ Link (right_side ∷ κ) [] h refl

-- one that begins with `[` is a list of terms, and goes on with `=`
pub item_tlist : (ts : List Kind) (p : ℕ) (κ : Owed) → slice_get ts p ≡ Some LBracket → stop_at ts p ((item ∷ κ) ∷ []) ≡ stop_at ts p ((tlist ∷ right_side ∷ κ) ∷ [])
item_tlist ts p κ h = swap ts p _ _ LBracket h refl
