-- Levels have one table of links at most.
use Rattle.std.proofs.Common.{◌≡◌, ℕ, zero, suc, ◌<◌, ◌⊎◌, inl, inr, List, [], ◌∷◌, length, slice_get, Option, Some, None, MatchOption, refl, sym, ap, ◌∙◌, subst, arith}
use Rattle.std.specs.List.{flat_map}
use Rattle.std.proofs.lemmas.Option.{same_Some}
use Rattle.lmn_base.specs.declared.refusal.Pos.{Pos}
use Rattle.lmn_base.specs.declared.level.Level.{Level}
use Rattle.lmn_base.specs.declared.rule.LinkUse.{LinkUse}
use Rattle.lmn_base.specs.Levels.{links_of}
use Rattle.lmn_base.specs.Links.{Numbers, no_more}
use Rattle.lmn_base.specs.LinkUses.{TellsOf, IsTableOf}
use Rattle.lmn_base.proofs.Common.{numbers_head}
use Rattle.lmn_base_walks.proofs.OnePlaces.{one_places}

-- the table

same_use : (u v : LinkUse) → u.count ≡ v.count → u.first ≡ v.first → u.third ≡ v.third → u ≡ v
same_use u v e f g =
    ap (λ n. record { count = n; first = u.first; third = u.third }) e ∙ ap (λ p. record { count = v.count; first = p; third = u.third }) f
    ∙ ap (λ p. record { count = v.count; first = v.first; third = p }) g

tells_same : (ps qs : List Pos) (u v : LinkUse) → ps ≡ qs → TellsOf ps u → TellsOf qs v → u ≡ v
tells_same ps qs u v e h g =
    let P : List Pos → Type 0 = λ xs. TellsOf xs v in
    let k = subst P (sym e) g in
    let first = same_Some u.first v.first (sym h.first ∙ k.first) in
    same_use u v (h.count ∙ sym k.count) first (thirds (slice_get ps (suc (suc zero))) u.first v.first u.third v.third first h.third k.third)
  where
    thirds : (o : Option Pos) (a b c d : Pos) → a ≡ b → MatchOption o (c ≡ a) (λ p. c ≡ p) → MatchOption o (d ≡ b) (λ p. d ≡ p) → c ≡ d
    thirds None a b c d e h g = h ∙ e ∙ sym g
    thirds (Some p) a b c d e h g = h ∙ sym g

numbers_end : {k m n : ℕ} (xs : List ℕ) → Numbers k xs m → Numbers k xs n → m ≡ n
numbers_end [] no_more no_more = refl
numbers_end {k} {m} {n} (x ∷ xs) h g = go (numbers_head h) (numbers_head g) (λ k a b. numbers_end {k = k} xs a b)
  where
    go : ((x < k) × Numbers k xs m) ⊎ ((x ≡ k) × Numbers (suc k) xs m) → ((x < k) × Numbers k xs n) ⊎ ((x ≡ k) × Numbers (suc k) xs n)
        → ((k : ℕ) → Numbers k xs m → Numbers k xs n → m ≡ n) → m ≡ n
    go (inl a) (inl b) more = more k a.1 b.1
    go (inl a) (inr b) more = absurd (omega (arith, a.0, b.0))
    go (inr a) (inl b) more = absurd (omega (arith, a.0, b.0))
    go (inr a) (inr b) more = more (suc k) a.1 b.1

list_same : (us vs : List LinkUse) → length us ≡ length vs → ((x : ℕ) (u v : LinkUse) → slice_get us x ≡ Some u → slice_get vs x ≡ Some v → u ≡ v) → us ≡ vs
list_same [] [] e h = refl
list_same [] (v ∷ vs) e h = absurd (omega (arith, e))
list_same (u ∷ us) [] e h = absurd (omega (arith, e))
list_same (u ∷ us) (v ∷ vs) e h = both (h zero u v refl refl) (list_same us vs (omega (arith, e)) (λ x a b f g. h (suc x) a b f g))
  where
    both : {a b : LinkUse} {ms ns : List LinkUse} → a ≡ b → ms ≡ ns → a ∷ ms ≡ b ∷ ns
    both e f = cc

-- some levels have one table of links
pub one_table : (ls : List Level) (t u : List LinkUse) → IsTableOf ls t → IsTableOf ls u → t ≡ u
one_table ls t u h g =
    list_same t u (numbers_end (flat_map links_of ls) h.numbered g.numbered) (λ x a b e f.
    let p = h.tells x a e in
    let q = g.tells x b f in
    tells_same p.0 q.0 a b (one_places x ls p.0 q.0 p.1 q.1) p.2 q.2)
