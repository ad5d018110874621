-- General lemmas on truth values.
use Rattle.std.proofs.Common.{Bool, false, refl, true, ◌&&◌, ◌≡◌, ◌||◌, inl, inr, ◌⊎◌, not, arith, cond, ℕ, ◌+◌, sym, ◌∙◌, ◌≤◌, suc, zero, ◌≢◌}
use Rattle.std.specs.Prelude.{if◌then◌else◌}

-- where both hold together each holds
pub and_true : (a b : Bool) → (a && b) ≡ true → (a ≡ true) × (b ≡ true)
and_true true b h = (refl, h)
and_true false b h = cc

-- nothing and something that doesn't hold hold together
pub and_false : (b : Bool) → (b && false) ≡ false
and_false true = refl
and_false false = refl

-- where both hold the first holds
pub first_true : (a b : Bool) → (a && b) ≡ true → a ≡ true
first_true true b e = refl
first_true false b e = e

-- where both hold the second holds
pub second_true : (a b : Bool) → (a && b) ≡ true → b ≡ true
second_true true b e = e
second_true false b e = absurd (cc)

-- where one or the other holds, one of them does
pub either_true : (a b : Bool) → (a || b) ≡ true → (a ≡ true) ⊎ (b ≡ true)
either_true true b h = inl refl
either_true false b h = inr h

-- what is asked before a condition holds
pub guarded_first : (f b k : Bool) → (f && (not b || k)) ≡ true → f ≡ true
guarded_first true b k e = refl
guarded_first false b k e = absurd (cc)

-- and what is asked under the condition, where that holds
pub guarded_then : (f b k : Bool) → (f && (not b || k)) ≡ true → b ≡ true → k ≡ true
guarded_then true true k e g = e
guarded_then true false k e g = absurd (cc)
guarded_then false b k e g = absurd (cc)

-- one more where it holds, before or behind a number
pub cond_plus : (b : Bool) (n : ℕ) → cond b 1 0 + n ≡ cond b (1 + n) n
cond_plus true n = refl
cond_plus false n = omega arith

-- what has a false opposite is true
pub not_false : (a : Bool) → not a ≡ false → a ≡ true
not_false true e = refl
not_false false e = absurd (cc)

-- and what has a true opposite is false
pub not_true : (b : Bool) → not b ≡ true → b ≡ false
not_true false e = refl
not_true true e = absurd (cc e)

-- nothing is true and false
pub never_both : (a : Bool) → a ≡ true → a ≡ false → ⊥
never_both a e f = let clash : true ≡ false = sym e ∙ f in cc

-- either choice is at most the greater number
pub if_at_most : (k o : ℕ) (b : Bool) → o ≤ k → (if b then k else o) ≤ k
if_at_most k o true l = omega arith
if_at_most k o false l = l

-- false is not true
pub false_not_true : false ≡ true → ⊥
false_not_true h = cc

-- a statement that holds or doesn't
abbrev pub Decided : Type 0 → Type 0
Decided P = P ⊎ (P → ⊥)

-- a truth value is true or false
pub bool_cases : (b : Bool) → (b ≡ true) ⊎ (b ≡ false)
bool_cases true = inl refl
bool_cases false = inr refl

-- tests that follow from each other are one
pub test_same : (a b : Bool) → (a ≡ true → b ≡ true) → (b ≡ true → a ≡ true) → a ≡ b
test_same true b f g = sym (f refl)
test_same false true f g = g refl
test_same false false f g = refl

-- where a test fails the second is chosen
pub if_no : {X : Type 0} (t : Bool) (x y : X) → t ≡ false → (if t then x else y) ≡ y
if_no true x y e = absurd cc
if_no false x y e = refl

pub never : (a : Bool) → (a ≡ true → ⊥) → a ≡ false
never true h = absurd (h refl)
never false h = refl

pub total_two : (all a b o l x y : ℕ) (t : Bool) → all ≡ a + (b + o) → a + b ≡ l → o ≡ cond t y 0 → (x ≡ 1 → y ≡ 1) → (t ≡ true → x ≡ 1) → (t ≡ false → x ≢ 1)
    → (x + l ≡ 0) ⊎ (x + l ≡ 2) → (all ≡ 0) ⊎ (all ≡ 2)
total_two all a b o l x y true e f g h one other (inl s) = absurd (let z = one refl in off x l z s)
  where
    off : (x l : ℕ) → x ≡ 1 → x + l ≡ 0 → ⊥
    off x l e f = omega arith
total_two all a b o l x y true e f g h one other (inr s) = inr (let z = one refl in let w = h z in omega arith)
total_two all a b o l x y false e f g h one other (inl s) = inl (omega arith)
total_two all a b o l zero y false e f g h one other (inr s) = inr (omega arith)
total_two all a b o l (suc zero) y false e f g h one other (inr s) = absurd (other refl refl)
total_two all a b o l (suc (suc x)) y false e f g h one other (inr s) = inl (omega arith)
