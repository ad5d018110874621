-- Lists, rules, clauses and programs as a reader comes to them.
use Rattle.std.proofs.Common.{◌≡◌, ℕ, ◌+◌, ◌≤◌, max, Bool, true, false, List, [], ◌∷◌, ◌++◌, slice_get, Option, Some, refl, sym, ◌∙◌, ap, arith, inl, inr, append_assoc}
use Rattle.lmn_parser_grammar.specs.Grammar.{Exp, Tok, Opt, Many, Ref, TermPart, ClausePart, ClausesPart, Derives, both, without, with, no_more, one_more, by, ◌·◌, more_of, name, arguments, item, list, heads, rule, program}
use Rattle.lmn_parser_grammar.specs.Factored.{atom_name, right_side, arrow, rule_tail, more_clauses}
use Rattle.lmn_parser_grammar.specs.Reading.{is_end, NoMore, EndsOptList, Owed, next, stop_at, begins, NoArgs, EndsItem, EndsList, OnlyClosers, OnlyEnds, may_follow_clause}
use Rattle.lmn_lexer.specs.declared.token.Kind.{Kind}
use Rattle.lmn_lexer.specs.declared.token.Kind.TheVariants.{Name, Quoted, Mod, End, LParen, RParen, LBracket, RBrace, Comma, Dot, Arrow, AtAt, Backslash, Equal}
use Rattle.lmn_parser_grammar.proofs.Stops.{dead_owed, dead_here, stop_at_from, tok_taken, tok_dead}
use Rattle.lmn_parser_grammar.proofs.SameLanguage.{owed_alike, same_behind, same_first, seq_split, seq, alt, opt, opt_behind, ref, seq_parts, opt_parts, many_parts, ref_parts}
use Rattle.lmn_parser_grammar.proofs.Choices.{begins_first, not_begun, opt_none, opt_some, many_none, opt_sign_taken, opt_sign_none}
use Rattle.lmn_parser_grammar.proofs.Items.{Apart, derives_along, nothing_behind, name_taken, atom_taken, item_atom}
use Rattle.lmn_base.proofs.Lists.{plus_nothing}
use Rattle.lmn_base.proofs.Truth.{false_not_true as clash}

-- What ends a clause ends its parts.
pub closers_list : (κ : Owed) → OnlyClosers κ → EndsList κ
closers_list κ n = (n LParen refl, n LBracket refl, n Equal refl, n Comma refl)

-- a list ends before an arrow
pub closers_arrow : (κ : Owed) → EndsList (arrow ∷ κ)
closers_arrow κ = (refl, refl, refl, refl)

-- and before the tail of a rule
pub closers_tail : (κ : Owed) → EndsList (rule_tail ∷ κ)
closers_tail κ = (refl, refl, refl, refl)

-- a list ends where the tail of a rule may come, and then only what closes
pub closers_opt_tail : (κ : Owed) → OnlyClosers κ → EndsList (Opt rule_tail ∷ κ)
closers_opt_tail κ n = closers_list κ n

-- an item ends where more items may come and then what ends a list
pub ends_item : (κ : Owed) → EndsList κ → EndsItem (more_of item ∷ κ)
ends_item κ n = (n.0, n.1, n.2)

-- what may be the left side of `=` takes no arguments behind it
pub ends_left : (κ : Owed) → EndsItem κ → NoArgs (Opt right_side ∷ κ)
ends_left κ n = n.0

-- a term takes no arguments where more terms may come
pub ends_term : (κ : Owed) → NoMore κ → NoArgs (more_of (Ref TermPart) ∷ κ)
ends_term κ n = n.0

-- only what closes comes before `)`
pub closers_round : (κ : Owed) → OnlyClosers (Tok RParen ∷ κ)
closers_round κ RParen h = absurd (clash (sym h))
closers_round κ _ h = refl

-- only `}` comes where it is owed
pub ends_curly : (κ : Owed) → OnlyEnds (Tok RBrace ∷ κ)
ends_curly κ RBrace h = absurd (clash (sym h))
ends_curly κ _ h = refl

-- only the end comes where it is owed
pub ends_text : (κ : Owed) → OnlyEnds (Tok End ∷ κ)
ends_text κ End h = absurd (clash (sym h))
ends_text κ _ h = refl

-- only what closes comes where more clauses may
pub closers_more : (κ : Owed) → OnlyEnds κ → OnlyClosers (more_clauses ∷ κ)
closers_more κ n RParen h = absurd (clash (sym h))
closers_more κ n RBrace h = absurd (clash (sym h))
closers_more κ n Dot h = absurd (clash (sym h))
closers_more κ n End h = absurd (clash (sym h))
closers_more κ n t h = n t refl

-- What begins an item ends no clause.
no_closer : (t : Kind) → begins list (Some t) ≡ true → may_follow_clause t ≡ false
no_closer RParen h = absurd (clash h)
no_closer RBrace h = absurd (clash h)
no_closer Dot h = absurd (clash h)
no_closer End h = absurd (clash h)
no_closer _ h = refl

-- a list that may be missing ends where only what closes comes
pub closers_opt_list : (κ : Owed) → OnlyClosers κ → EndsOptList κ
closers_opt_list κ n = (closers_list κ n, λ t h. n t (no_closer t h))

-- and before an arrow
pub arrow_opt_list : (κ : Owed) → EndsOptList (arrow ∷ κ)
arrow_opt_list κ = (closers_arrow κ, go)
  where
    go : (t : Kind) → begins list (Some t) ≡ true → next (arrow ∷ κ) t ≡ []
    go Arrow h = absurd (clash h)
    go _ h = refl

-- and before the tail of a rule
pub tail_opt_list : (κ : Owed) → EndsOptList (rule_tail ∷ κ)
tail_opt_list κ = (closers_tail κ, go)
  where
    go : (t : Kind) → begins list (Some t) ≡ true → next (rule_tail ∷ κ) t ≡ []
    go Arrow h = absurd (clash h)
    go Backslash h = absurd (clash h)
    go _ h = refl

-- a list that may be missing is read where it can begin
pub opt_list_some : (ts : List Kind) (p : ℕ) (κ : Owed) → EndsOptList κ → begins list (slice_get ts p) ≡ true →
    stop_at ts p ((Opt list ∷ κ) ∷ []) ≡ stop_at ts p ((list ∷ κ) ∷ [])
opt_list_some ts p κ n b = opt_some ts p list κ (dead_owed ts p κ (λ t h. n.1 t (sym (ap (begins list) h) ∙ b)))

-- and is missing where it can't
pub opt_list_none : (ts : List Kind) (p : ℕ) (κ : Owed) → begins list (slice_get ts p) ≡ false → stop_at ts p ((Opt list ∷ κ) ∷ []) ≡ stop_at ts p (κ ∷ [])
opt_list_none ts p κ b = opt_none ts p list κ b

-- a list is an item, and more of them
pub list_parts : (ts : List Kind) (p : ℕ) (κ : Owed) → stop_at ts p ((list ∷ κ) ∷ []) ≡ stop_at ts p ((item ∷ more_of item ∷ κ) ∷ [])
list_parts ts p κ = seq ts p item (more_of item) κ

-- Rules.
list_before_tail : Apart list rule_tail
list_before_tail (Some Arrow) h = absurd (clash h)
list_before_tail (Some Backslash) h = absurd (clash h)
list_before_tail _ h = refl

-- the second list of a rule's heads
pub tail_backslash : (ts : List Kind) (p : ℕ) (κ : Owed) → slice_get ts p ≡ Some Backslash → stop_at ts p ((rule_tail ∷ κ) ∷ []) ≡ stop_at ts (p + 1) ((Opt list ∷ arrow ∷ κ) ∷ [])
tail_backslash ts p κ h = seq ts p (Opt (Tok Backslash · Opt list)) arrow κ ∙ opt_sign_taken ts p Backslash (Opt list) (arrow ∷ κ) h refl

-- the tail of a rule is its arrow where no `\` stands
pub tail_arrow : (ts : List Kind) (p : ℕ) (κ : Owed) → (slice_get ts p ≡ Some Backslash → ⊥) → stop_at ts p ((rule_tail ∷ κ) ∷ []) ≡ stop_at ts p ((arrow ∷ κ) ∷ [])
tail_arrow ts p κ h = seq ts p (Opt (Tok Backslash · Opt list)) arrow κ ∙ opt_sign_none ts p Backslash (Opt list) (arrow ∷ κ) h

-- a rule without its name: the first list of its heads, then the tail
pub rule_parts : (ts : List Kind) (p : ℕ) (κ : Owed) → stop_at ts p ((rule ∷ κ) ∷ []) ≡ stop_at ts p ((Opt list ∷ rule_tail ∷ κ) ∷ [])
rule_parts ts p κ =
    let second = Opt (Tok Backslash · Opt list) in
    seq ts p heads arrow κ ∙ seq ts p (Opt list) second (arrow ∷ κ)
    ∙ sym (owed_alike ts p (Opt list ∷ rule_tail ∷ κ) (Opt list ∷ second ∷ arrow ∷ κ) (same_behind (Opt list) (rule_tail ∷ κ) (second ∷ arrow ∷ κ) (seq_split second arrow κ)))

-- a rule that can begin as a list has that first, and then the tail
pub rule_list : (ts : List Kind) (p : ℕ) (κ : Owed) → begins list (slice_get ts p) ≡ true → stop_at ts p ((rule ∷ κ) ∷ []) ≡ stop_at ts p ((list ∷ rule_tail ∷ κ) ∷ [])
rule_list ts p κ b = rule_parts ts p κ ∙ opt_some ts p list (rule_tail ∷ κ) (not_begun ts p rule_tail κ (list_before_tail (slice_get ts p) b) refl)

-- one that can't is the tail alone
pub rule_no_list : (ts : List Kind) (p : ℕ) (κ : Owed) → begins list (slice_get ts p) ≡ false → stop_at ts p ((rule ∷ κ) ∷ []) ≡ stop_at ts p ((rule_tail ∷ κ) ∷ [])
rule_no_list ts p κ b = rule_parts ts p κ ∙ opt_none ts p list (rule_tail ∷ κ) b

-- A rule or a list.
rule_or_list : (ts : List Kind) (p : ℕ) (κ : Owed) → begins list (slice_get ts p) ≡ true →
    max (stop_at ts p ((rule ∷ κ) ∷ [])) (stop_at ts p ((list ∷ κ) ∷ [])) ≡ stop_at ts p ((list ∷ Opt rule_tail ∷ κ) ∷ [])
rule_or_list ts p κ b = ap (λ n. max n (stop_at ts p ((list ∷ κ) ∷ []))) (rule_list ts p κ b) ∙ sym (opt_behind ts p list rule_tail κ)

rule_alone : (ts : List Kind) (p : ℕ) (κ : Owed) → begins list (slice_get ts p) ≡ false →
    max (stop_at ts p ((rule ∷ κ) ∷ [])) (stop_at ts p ((list ∷ κ) ∷ [])) ≡ stop_at ts p ((rule_tail ∷ κ) ∷ [])
rule_alone ts p κ b = omega (arith, rule_no_list ts p κ b, not_begun ts p list κ b refl, stop_at_from ts p ((rule_tail ∷ κ) ∷ []))

clause_three : (ts : List Kind) (p : ℕ) (κ : Owed) → stop_at ts p ((Ref ClausePart ∷ κ) ∷ [])
    ≡ max (max (stop_at ts p (((name · Tok AtAt) ∷ rule ∷ κ) ∷ [])) (stop_at ts p ((rule ∷ κ) ∷ []))) (stop_at ts p ((list ∷ κ) ∷ []))
clause_three ts p κ = ref ts p ClausePart κ ∙ alt ts p (Opt (name · Tok AtAt) · rule) list κ
    ∙ ap (λ n. max n (stop_at ts p ((list ∷ κ) ∷ []))) (seq ts p (Opt (name · Tok AtAt)) rule κ ∙ opt ts p (name · Tok AtAt) (rule ∷ κ))

as_atom : (o : Option Kind) → begins name o ≡ true → begins atom_name o ≡ true
as_atom (Some Name) h = refl
as_atom (Some Quoted) h = refl
as_atom (Some Mod) h = refl
as_atom _ h = absurd (clash h)

-- a name with no '@@' behind it is no farther than a list
name_stops : (ts : List Kind) (p : ℕ) (κ κ' : Owed) → (begins name (slice_get ts p) ≡ true → slice_get ts (p + 1) ≡ Some AtAt → ⊥) →
    stop_at ts p (((name · Tok AtAt) ∷ κ) ∷ []) ≤ stop_at ts p ((list ∷ κ') ∷ [])
name_stops ts p κ κ' other = go (begins name (slice_get ts p)) refl
  where
    go : (b : Bool) → begins name (slice_get ts p) ≡ b → stop_at ts p (((name · Tok AtAt) ∷ κ) ∷ []) ≤ stop_at ts p ((list ∷ κ') ∷ [])
    go true h =
        let right : Owed = Opt right_side ∷ more_of item ∷ κ' in
        let first : stop_at ts p ((list ∷ κ') ∷ []) ≡ stop_at ts (p + 1) ((Opt arguments ∷ right) ∷ []) =
        list_parts ts p κ' ∙ item_atom ts p (more_of item ∷ κ') (as_atom (slice_get ts p) h) ∙ atom_taken ts p right (as_atom (slice_get ts p) h) in
        omega (arith, seq ts p name (Tok AtAt) κ, name_taken ts p (Tok AtAt ∷ κ) h, tok_dead ts (p + 1) AtAt κ (other h), first, stop_at_from ts (p + 1) ((Opt arguments ∷ right) ∷ []))
    go false h = omega (arith, not_begun ts p (name · Tok AtAt) κ (begins_first name (Tok AtAt) (slice_get ts p) refl h) refl, stop_at_from ts p ((list ∷ κ') ∷ []))

-- a list that meets '@@' behind its first name stops there
list_stops : (ts : List Kind) (p : ℕ) (κ : Owed) → next κ AtAt ≡ [] → begins atom_name (slice_get ts p) ≡ true → slice_get ts (p + 1) ≡ Some AtAt →
    stop_at ts p ((list ∷ κ) ∷ []) ≡ p + 1
list_stops ts p κ n b h =
    let more : Owed = more_of item ∷ κ in
    let right : Owed = Opt right_side ∷ more in
    list_parts ts p κ ∙ item_atom ts p more b ∙ atom_taken ts p right b
    ∙ opt_none ts (p + 1) arguments right (ap (begins arguments) h) ∙ opt_none ts (p + 1) right_side more (ap (begins right_side) h)
    ∙ many_none ts (p + 1) (Tok Comma · item) κ (ap (begins (Tok Comma · item)) h) refl ∙ dead_here ts (p + 1) κ AtAt h n

farthest : (n a b c : ℕ) → n ≡ max (max a b) c → b ≤ a → c ≤ a → n ≡ a
farthest n a b c e h k = omega arith

others : (n a b c : ℕ) → n ≡ max (max a b) c → a ≤ max b c → n ≡ max b c
others n a b c e h = omega arith

-- a clause with a name and `@@` is a rule from there on
pub clause_named : (ts : List Kind) (p : ℕ) (κ : Owed) → OnlyClosers κ → begins name (slice_get ts p) ≡ true → slice_get ts (p + 1) ≡ Some AtAt →
    stop_at ts p ((Ref ClausePart ∷ κ) ∷ []) ≡ stop_at ts (p + 1 + 1) ((rule ∷ κ) ∷ [])
clause_named ts p κ n b h =
    let named : stop_at ts p (((name · Tok AtAt) ∷ rule ∷ κ) ∷ []) ≡ stop_at ts (p + 1 + 1) ((rule ∷ κ) ∷ []) =
    seq ts p name (Tok AtAt) (rule ∷ κ) ∙ name_taken ts p (Tok AtAt ∷ rule ∷ κ) b ∙ tok_taken ts (p + 1) AtAt (rule ∷ κ) h in
    let a = as_atom (slice_get ts p) b in
    let far = stop_at_from ts (p + 1 + 1) ((rule ∷ κ) ∷ []) in
    farthest _ _ _ _ (clause_three ts p κ)
    (omega (arith, named, far, rule_list ts p κ (as_list (slice_get ts p) b), list_stops ts p (rule_tail ∷ κ) refl a h))
    (omega (arith, named, far, list_stops ts p κ (n AtAt refl) a h))
    ∙ named
  where
    as_list : (o : Option Kind) → begins name o ≡ true → begins list o ≡ true
    as_list (Some Name) x = refl
    as_list (Some Quoted) x = refl
    as_list (Some Mod) x = refl
    as_list _ x = absurd (clash x)

clause_unnamed : (ts : List Kind) (p : ℕ) (κ : Owed) → (begins name (slice_get ts p) ≡ true → slice_get ts (p + 1) ≡ Some AtAt → ⊥) →
    stop_at ts p ((Ref ClausePart ∷ κ) ∷ []) ≡ max (stop_at ts p ((rule ∷ κ) ∷ [])) (stop_at ts p ((list ∷ κ) ∷ []))
clause_unnamed ts p κ other = others _ _ _ _ (clause_three ts p κ) (omega (arith, name_stops ts p (rule ∷ κ) κ other))

-- a clause without them that can begin as a list is one, and then perhaps the tail of a rule
pub clause_list : (ts : List Kind) (p : ℕ) (κ : Owed) → (begins name (slice_get ts p) ≡ true → slice_get ts (p + 1) ≡ Some AtAt → ⊥) → begins list (slice_get ts p) ≡ true →
    stop_at ts p ((Ref ClausePart ∷ κ) ∷ []) ≡ stop_at ts p ((list ∷ Opt rule_tail ∷ κ) ∷ [])
clause_list ts p κ other b = clause_unnamed ts p κ other ∙ rule_or_list ts p κ b

-- a clause that can't begin as a list is the tail of a rule
pub clause_tail : (ts : List Kind) (p : ℕ) (κ : Owed) → begins list (slice_get ts p) ≡ false → stop_at ts p ((Ref ClausePart ∷ κ) ∷ []) ≡ stop_at ts p ((rule_tail ∷ κ) ∷ [])
clause_tail ts p κ b = clause_unnamed ts p κ (λ n h. no_name (slice_get ts p) b n) ∙ rule_alone ts p κ b
  where
    no_name : (o : Option Kind) → begins list o ≡ false → begins name o ≡ true → ⊥
    no_name (Some Name) x y = clash (sym x)
    no_name (Some Quoted) x y = clash (sym x)
    no_name (Some Mod) x y = clash (sym x)
    no_name _ x y = clash y

-- behind the first list of a clause
pub list_or_rule : (ts : List Kind) (p : ℕ) (κ : Owed) → OnlyClosers κ → begins rule_tail (slice_get ts p) ≡ true →
    stop_at ts p ((Opt rule_tail ∷ κ) ∷ []) ≡ stop_at ts p ((rule_tail ∷ κ) ∷ [])
list_or_rule ts p κ n b = opt_some ts p rule_tail κ (dead_owed ts p κ (λ t h. n t (go t (sym (ap (begins rule_tail) h) ∙ b))))
  where
    go : (t : Kind) → begins rule_tail (Some t) ≡ true → may_follow_clause t ≡ false
    go Backslash h = refl
    go Arrow h = refl
    go _ h = absurd (clash h)

-- a clause is a list alone where no tail of a rule can begin
pub list_ends : (ts : List Kind) (p : ℕ) (κ : Owed) → begins rule_tail (slice_get ts p) ≡ false → stop_at ts p ((Opt rule_tail ∷ κ) ∷ []) ≡ stop_at ts p (κ ∷ [])
list_ends ts p κ b = opt_none ts p rule_tail κ b

-- Clauses with full stops between them.
abbrev stops_and_clauses : Exp
stops_and_clauses = Many (Tok Dot · Ref ClausePart) · Opt (Tok Dot)

nothing_before : (w u v : List Kind) → w ≡ u ++ v → u ≡ [] → w ≡ v
nothing_before w u v e n = e ∙ ap (λ z. z ++ v) n

more_to : (w : List Kind) → Derives stops_and_clauses w → Derives more_clauses w
more_to w d = let s = seq_parts (Many (Tok Dot · Ref ClausePart)) (Opt (Tok Dot)) w d in
    elim (many_parts (Tok Dot · Ref ClausePart) s.0 s.3) [
      | inl n ↦ last_stop w s.1 (nothing_before w s.0 s.1 s.2 n) s.4
      | inr m ↦ let t = seq_parts (Tok Dot) (Ref ClausePart) m.0 m.3 in
          with _ w (both (Tok Dot) (Ref ClausesPart) t.0 (t.1 ++ (m.1 ++ s.1)) w
          (s.2 ∙ ap (λ z. z ++ s.1) m.2 ∙ append_assoc m.0 m.1 s.1 ∙ ap (λ z. z ++ (m.1 ++ s.1)) t.2 ∙ append_assoc t.0 t.1 (m.1 ++ s.1)) t.3
          (by ClausesPart _ (with _ _ (both (Ref ClausePart) stops_and_clauses t.1 (m.1 ++ s.1) (t.1 ++ (m.1 ++ s.1)) refl t.4
          (both (Many (Tok Dot · Ref ClausePart)) (Opt (Tok Dot)) m.1 s.1 (m.1 ++ s.1) refl m.4 s.4)))))
    ]
  where
    last_stop : (w v : List Kind) → w ≡ v → Derives (Opt (Tok Dot)) v → Derives more_clauses w
    last_stop w v e o = elim (opt_parts (Tok Dot) v o) [
      | inl n ↦ derives_along more_clauses [] w (sym (e ∙ n)) (without _)
      | inr k ↦ with _ w (both (Tok Dot) (Ref ClausesPart) v [] w (e ∙ sym (plus_nothing v)) k (by ClausesPart [] (without _)))
    ]

to_more : (w : List Kind) → Derives more_clauses w → Derives stops_and_clauses w
to_more w d = elim (opt_parts (Tok Dot · Ref ClausesPart) w d) [
  | inl n ↦ derives_along stops_and_clauses [] w (sym n) (both _ _ [] [] [] refl (no_more _) (without _))
  | inr k ↦ let s = seq_parts (Tok Dot) (Ref ClausesPart) w k in
      elim (opt_parts (Ref ClausePart · stops_and_clauses) s.1 (ref_parts ClausesPart s.1 s.4)) [
        | inl n ↦ both (Many (Tok Dot · Ref ClausePart)) (Opt (Tok Dot)) [] w w refl (no_more _) (with _ w (derives_along (Tok Dot) s.0 w (nothing_behind w s.0 s.1 s.2 n) s.3))
        | inr c ↦ let t = seq_parts (Ref ClausePart) stops_and_clauses s.1 c in
            let m = seq_parts (Many (Tok Dot · Ref ClausePart)) (Opt (Tok Dot)) t.1 t.4 in
            both (Many (Tok Dot · Ref ClausePart)) (Opt (Tok Dot)) ((s.0 ++ t.0) ++ m.0) m.1 w
            (s.2 ∙ ap (λ z. s.0 ++ z) (t.2 ∙ ap (λ z. t.0 ++ z) m.2) ∙ sym (append_assoc s.0 t.0 (m.0 ++ m.1)) ∙ sym (append_assoc (s.0 ++ t.0) m.0 m.1))
            (one_more (Tok Dot · Ref ClausePart) (s.0 ++ t.0) m.0 _ refl (both (Tok Dot) (Ref ClausePart) s.0 t.0 _ refl s.3 t.3) m.3) m.4
      ]
]

no_end : (t : Kind) → begins (Ref ClausePart) (Some t) ≡ true → is_end t ≡ false
no_end RBrace h = absurd (clash h)
no_end End h = absurd (clash h)
no_end _ h = refl

-- clauses begin with one where one can begin
pub clauses_some : (ts : List Kind) (p : ℕ) (κ : Owed) → OnlyEnds κ → begins (Ref ClausePart) (slice_get ts p) ≡ true →
    stop_at ts p ((Ref ClausesPart ∷ κ) ∷ []) ≡ stop_at ts p ((Ref ClausePart ∷ more_clauses ∷ κ) ∷ [])
clauses_some ts p κ n b = ref ts p ClausesPart κ
    ∙ opt_some ts p (Ref ClausePart · stops_and_clauses) κ (dead_owed ts p κ (λ t h. n t (no_end t (sym (ap (begins (Ref ClausePart)) h) ∙ b))))
    ∙ seq ts p (Ref ClausePart) stops_and_clauses κ
    ∙ owed_alike ts p (Ref ClausePart ∷ stops_and_clauses ∷ κ) (Ref ClausePart ∷ more_clauses ∷ κ)
    (same_behind (Ref ClausePart) (stops_and_clauses ∷ κ) (more_clauses ∷ κ) (same_first stops_and_clauses more_clauses κ (λ w. (more_to w, to_more w))))

-- and are missing where none can
pub clauses_none : (ts : List Kind) (p : ℕ) (κ : Owed) → begins (Ref ClausePart) (slice_get ts p) ≡ false → stop_at ts p ((Ref ClausesPart ∷ κ) ∷ []) ≡ stop_at ts p (κ ∷ [])
clauses_none ts p κ b = ref ts p ClausesPart κ ∙ opt_none ts p (Ref ClausePart · stops_and_clauses) κ (begins_first (Ref ClausePart) stops_and_clauses (slice_get ts p) refl b)

-- after a full stop clauses come
pub more_stop : (ts : List Kind) (p : ℕ) (κ : Owed) → OnlyEnds κ → slice_get ts p ≡ Some Dot → stop_at ts p ((more_clauses ∷ κ) ∷ []) ≡ stop_at ts (p + 1) ((Ref ClausesPart ∷ κ) ∷ [])
more_stop ts p κ n h = opt_sign_taken ts p Dot (Ref ClausesPart) κ h (n Dot refl)

-- and without one no more
pub more_none : (ts : List Kind) (p : ℕ) (κ : Owed) → (slice_get ts p ≡ Some Dot → ⊥) → stop_at ts p ((more_clauses ∷ κ) ∷ []) ≡ stop_at ts p (κ ∷ [])
more_none ts p κ h = opt_sign_none ts p Dot (Ref ClausesPart) κ h

-- a program is clauses and the end
pub program_parts : (ts : List Kind) (p : ℕ) (κ : Owed) → stop_at ts p ((program ∷ κ) ∷ []) ≡ stop_at ts p ((Ref ClausesPart ∷ Tok End ∷ κ) ∷ [])
program_parts ts p κ = seq ts p (Ref ClausesPart) (Tok End) κ
