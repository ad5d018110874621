-- Numbers of labels, there and back.
use Rattle.std.proofs.Common.{◌≡◌, ℕ, Bool, true, false, ◌+◌, ◌-◌, ◌*◌, ◌/◌, ◌%◌, ◌^◌, ◌<◌, ◌≤◌, cond, sym, ap, subst, ◌∙◌, arith}
use Rattle.std.specs.Prelude.{ℤ, pos, negsuc}
use Rattle.std.proofs.lemmas.Nat.{div-mul-add, mod-mul-add}
use Rattle.lmn_base.specs.declared.functor.Label.{Label}
use Rattle.lmn_base.specs.declared.functor.Label.TheVariants.{Name, Int}
use Rattle.lmn_base.proofs.Numbers.{lower as below, not_lower as not_below}
use Rattle.lmn_web.specs.Webs.{label_class}
use Rattle.lmn_store_web.specs.Labels.{NEGATIVES, HALF, CLASSES, VALUES, IsNarrow, own_of, class_of, label_number, integer_by, label_by, IsLabelNumber}

as_positive : (k : ℕ) → k < NEGATIVES → integer_by k ≡ Int (pos k)
as_positive k h = ap (λ b. cond b (Int (pos k)) (Int (negsuc (HALF - 1 - k)))) (below k NEGATIVES h)

as_negative : (k : ℕ) → NEGATIVES ≤ k → integer_by k ≡ Int (negsuc (HALF - 1 - k))
as_negative k h = ap (λ b. cond b (Int (pos k)) (Int (negsuc (HALF - 1 - k)))) (not_below k NEGATIVES h)

-- an integer is that of its bits
integer_back : (z : ℤ) → IsNarrow (Int z) → integer_by (own_of (Int z)) ≡ Int z
integer_back (pos k) w = as_positive k w
integer_back (negsuc k) w = as_negative (HALF - 1 - k) (omega (arith, w)) ∙ (let e : HALF - 1 - (HALF - 1 - k) ≡ k = omega (arith, w) in ap (λ z. Int (negsuc z)) e)

-- what is a label's own fits into a half
own_fits : (label : Label) → IsNarrow label → own_of label < HALF
own_fits (Name n) w = omega (arith, w)
own_fits (Int (pos k)) w = omega (arith, w)
own_fits (Int (negsuc k)) w = omega arith

value_class : (by_value : Bool) (k : ℕ) → cond by_value (k % VALUES) 0 < CLASSES
value_class true k = omega arith
value_class false k = omega arith

-- a number with a class and what is a label's own
halves : (h l : ℕ) → l < HALF → ((h * HALF + l) / HALF ≡ h) × ((h * HALF + l) % HALF ≡ l)
halves h l s = (div-mul-add h HALF l s, mod-mul-add h HALF l s)

as_integer : (h l : ℕ) → l < HALF → h < CLASSES → label_by (h * HALF + l) ≡ integer_by l
as_integer h l s c = let q = halves h l s in
    ap (λ b. cond b (integer_by ((h * HALF + l) % HALF)) (Name ((h * HALF + l) % HALF))) (below ((h * HALF + l) / HALF) CLASSES (subst (λ z. z < CLASSES) (sym q.0) c)) ∙ ap integer_by q.1

as_name : (h l : ℕ) → l < HALF → CLASSES ≤ h → label_by (h * HALF + l) ≡ Name l
as_name h l s c = let q = halves h l s in
    ap (λ b. cond b (integer_by ((h * HALF + l) % HALF)) (Name ((h * HALF + l) % HALF))) (not_below ((h * HALF + l) / HALF) CLASSES (subst (λ z. CLASSES ≤ z) (sym q.0) c)) ∙ ap Name q.1

-- a label is that of its number
pub label_back : (by_value : Bool) (label : Label) → IsNarrow label → label_by (label_number by_value label) ≡ label
label_back by_value (Name n) w = as_name (CLASSES + n % CLASSES) n (omega (arith, w)) (omega arith)
label_back by_value (Int z) w = as_integer (class_of by_value (Int z)) (own_of (Int z)) (own_fits (Int z) w) (value_class by_value (own_of (Int z))) ∙ integer_back z w

-- the number of the label of a number is that number
pub number_back : (by_value : Bool) (k : ℕ) → IsLabelNumber by_value k → label_number by_value (label_by k) ≡ k
number_back by_value k (label, narrow, is) = ap (label_number by_value) (ap label_by is ∙ label_back by_value label narrow) ∙ sym is

-- the class of a label is below 2 ^ 16
class_fits : (by_value : Bool) (label : Label) → class_of by_value label < 2 ^ 16
class_fits by_value (Name n) = omega arith
class_fits by_value (Int z) = let l = value_class by_value (own_of (Int z)) in omega (arith, l)

pub number_class : (by_value : Bool) (k : ℕ) → IsLabelNumber by_value k → label_class k < 2 ^ 16
number_class by_value k (label, narrow, is) =
    subst (λ n. n < 2 ^ 16) (sym (ap label_class is ∙ (halves (class_of by_value label) (own_of label) (own_fits label narrow)).0)) (class_fits by_value label)

-- an integer below 0 is the label of its bits
pub told_negative : (k : ℕ) (z : ℤ) → NEGATIVES ≤ k → z ≡ negsuc (HALF - 1 - k) → Int z ≡ integer_by k
told_negative k z h e = ap (λ (y : ℤ). Int y) e ∙ sym (as_negative k h)
