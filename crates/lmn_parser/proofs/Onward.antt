-- What stands before a part is read, and then the part.
use Rattle.std.proofs.Common.{◌≡◌, ◌≤◌, ℕ, max, arith, List, [], ◌∷◌, ◌∙◌, Result, Ok, Err, IsErrAnd, sym, subst}
use Rattle.lmn_parser_grammar.specs.Grammar.{Exp, Opt, list}
use Rattle.lmn_parser_grammar.specs.Factored.{guard_bar}
use Rattle.lmn_parser_grammar.specs.Reading.{Owed, stop_at, EndsOptList}
use Rattle.lmn_parser_grammar.proofs.Bodies.{GuardStops, ListStops}
use Rattle.lmn_lexer.specs.declared.token.Kind.{Kind}
use Rattle.lmn_parser.specs.Outcomes.{Stops, ReadsOrStops, reach}
use Rattle.lmn_parser.specs.declared.stop.Stop.{Stop}
use Rattle.lmn_parser.specs.declared.stop.Stop.TheVariants.{At, NoMemory}

-- what stops further on stops from here
pub stops_on : (ts : List Kind) (p q : ℕ) (s s' : List Owed) (x : Stop) → stop_at ts p s ≡ stop_at ts q s' → Stops ts q s' x → Stops ts p s x
stops_on ts p q s s' (At r) e h = (e ∙ h.0, h.1)
stops_on ts p q s s' NoMemory e h = tt

-- what is read further on is read from here
pub onward : {X : Type 0} → (ts : List Kind) (p q : ℕ) (e e' : Exp) (κ : Owed) (r : Result (X × ℕ) Stop) →
    stop_at ts p ((e ∷ κ) ∷ []) ≡ stop_at ts q ((e' ∷ κ) ∷ []) → ReadsOrStops ts q e' κ r → ReadsOrStops ts p e κ r
onward ts p q e e' κ (Ok x) a h = a ∙ h
onward ts p q e e' κ (Err x) a h = stops_on ts p q ((e ∷ κ) ∷ []) ((e' ∷ κ) ∷ []) x a h

-- where reading stops behind what is read already, the part is refused there
pub refused : {X : Type 0} → (ts : List Kind) (p q : ℕ) (e : Exp) (κ : Owed) (s : List Owed) (x : Stop) (r : Result (X × ℕ) Stop) →
    stop_at ts p ((e ∷ κ) ∷ []) ≡ stop_at ts q s → Stops ts q s x → IsErrAnd r (λ y. y ≡ x) → ReadsOrStops ts p e κ r
refused ts p q e κ s x (Ok y) a h f = absurd f
refused ts p q e κ s x (Err y) a h f = let P : Stop → Type 0 = Stops ts p ((e ∷ κ) ∷ []) in subst P (sym f) (stops_on ts p q ((e ∷ κ) ∷ []) s x a h)

-- a guard stops where it does whatever is owed behind
pub guard_stops : (ts : List Kind) (p r : ℕ) (x : Stop) → x ≡ At r → ((κ : Owed) → Stops ts p ((guard_bar ∷ κ) ∷ []) x) → GuardStops ts p r
guard_stops ts p r x e h κ = let P : Stop → Type 0 = Stops ts p ((guard_bar ∷ κ) ∷ []) in (subst P e (h κ)).0

-- and so does a list
pub list_stops : (ts : List Kind) (p r : ℕ) (x : Stop) → x ≡ At r → ((κ : Owed) → EndsOptList κ → Stops ts p ((Opt list ∷ κ) ∷ []) x) → ListStops ts p r
list_stops ts p r x e h κ n = let P : Stop → Type 0 = Stops ts p ((Opt list ∷ κ) ∷ []) in (subst P e (h κ n)).0

-- reading stops within reach
pub stop_inside : (ts : List Kind) (p r : ℕ) (s : List Owed) (x : Stop) → x ≡ At r → Stops ts p s x → r ≤ reach ts
stop_inside ts p r s x e h = let P : Stop → Type 0 = Stops ts p s in (subst P e h).1

-- the greater of two numbers is at most what both are
pub max_inside : (a b c : ℕ) → a ≤ c → b ≤ c → max a b ≤ c
max_inside a b c h k = omega (arith, h, k)
