-- The ends of classes, and their ties.
use Rattle.std.proofs.Common.{ℕ, zero, suc, ◌+◌, ◌<◌, ◌≤◌, ◌≡◌, ◌≢◌, ◌⊎◌, ◌==◌, ◌&&◌, Bool, true, false, cond, List, [], ◌∷◌, ◌++◌, length, map, Some, None, refl, sym, ap, subst, ◌∙◌, inl, inr, arith}
use Rattle.std.proofs.lemmas.Bool.{cases_eq, eq-eqb, eqb-true}
use Rattle.lmn_congruence_splice.specs.Ties.{Tie, AnyNew, AnyOld, Apart, Ties}
use Rattle.lmn_congruence_splice.specs.Classes.{ends_of_class, tie_of, rising}
use Rattle.lmn_congruence_splice.specs.Splice.{IsOneOf, NoneTwice, ports, link_at}
use Rattle.lmn_base.specs.Graphs.{Port}

-- Ports with their links

-- the port of a pair is one of the ports
pub in_ports : (es : List (Port × ℕ)) (p : Port) (x : ℕ) → IsOneOf {A = Port × ℕ} (p, x) es → IsOneOf p (ports es)
in_ports [] p x i = absurd i
in_ports (e ∷ es) p x (inl h) = inl (ap (λ (w : Port × ℕ). w.0) h)
in_ports (e ∷ es) p x (inr i) = inr (in_ports es p x i)

-- each of the ports has its pair
pub ports_in : (es : List (Port × ℕ)) (p : Port) → IsOneOf p (ports es) → (x : ℕ) × IsOneOf {A = Port × ℕ} (p, x) es
ports_in [] p i = absurd i
ports_in (e ∷ es) p (inl h) = (e.1, inl (λ t. (h t, e.1)))
ports_in (e ∷ es) p (inr i) = let w = ports_in es p i in (w.0, inr w.1)

-- a port that stands once has one link
pub one_link : (es : List (Port × ℕ)) → NoneTwice (ports es) → (p : Port) (x y : ℕ) → IsOneOf {A = Port × ℕ} (p, x) es → IsOneOf {A = Port × ℕ} (p, y) es → x ≡ y
one_link [] d p x y i j = absurd i
one_link (e ∷ es) d p x y (inl h) (inl g) = ap (λ (w : Port × ℕ). w.1) (sym h ∙ g)
one_link (e ∷ es) d p x y (inl h) (inr j) = absurd (d.0 (subst (λ z. IsOneOf z (ports es)) (sym (ap (λ (w : Port × ℕ). w.0) h)) (in_ports es p y j)))
one_link (e ∷ es) d p x y (inr i) (inl g) = absurd (d.0 (subst (λ z. IsOneOf z (ports es)) (sym (ap (λ (w : Port × ℕ). w.0) g)) (in_ports es p x i)))
one_link (e ∷ es) d p x y (inr i) (inr j) = one_link es d.1 p x y i j

abbrev same_test : Port → Port → Bool
same_test p q = (p.0 == q.0) && (p.1 == q.1)

test_true : (p q : Port) → p ≡ q → same_test p q ≡ true
test_true p q e = rw (eq-eqb p.0 q.0 (ap (λ (w : Port). w.0) e), eq-eqb p.1 q.1 (ap (λ (w : Port). w.1) e)) refl

test_same : (p q : Port) → same_test p q ≡ true → p ≡ q
test_same p q h = by (p.0 == q.0) (p.1 == q.1) refl refl h
  where
    by : (s t : Bool) → (p.0 == q.0) ≡ s → (p.1 == q.1) ≡ t → (s && t) ≡ true → p ≡ q
    by true true e f w = λ i. (eqb-true p.0 q.0 e i, eqb-true p.1 q.1 f i)
    by true false e f w = absurd (cc)
    by false t e f w = absurd (cc)

-- a link that is found at a port is listed with it
pub link_in : (es : List (Port × ℕ)) (p : Port) (x : ℕ) → link_at es p ≡ Some x → IsOneOf {A = Port × ℕ} (p, x) es
link_in [] p x h = absurd (cc)
link_in (e ∷ es) p x h = by (same_test e.0 p) refl h (link_in es p x)
  where
    by : (t : Bool) → same_test e.0 p ≡ t → cond t (Some e.1) (link_at es p) ≡ Some x → (link_at es p ≡ Some x → IsOneOf {A = Port × ℕ} (p, x) es) → IsOneOf {A = Port × ℕ} (p, x) (e ∷ es)
    by true f g r = let same = test_same e.0 p f in let link : e.1 ≡ x = (cc) in inl (λ i. (same i, link i))
    by false f g r = inr (r g)

-- the link of a port that stands once is found at it
pub link_found : (es : List (Port × ℕ)) → NoneTwice (ports es) → (p : Port) (x : ℕ) → IsOneOf {A = Port × ℕ} (p, x) es → link_at es p ≡ Some x
link_found [] d p x i = absurd i
link_found (e ∷ es) d p x (inl h) = rw (test_true e.0 p (ap (λ (w : Port × ℕ). w.0) h)) (ap (λ (w : Port × ℕ). Some w.1) h)
link_found (e ∷ es) d p x (inr i) = by (same_test e.0 p) refl (link_found es d.1 p x i)
  where
    by : (t : Bool) → same_test e.0 p ≡ t → link_at es p ≡ Some x → cond t (Some e.1) (link_at es p) ≡ Some x
    by true f g = absurd (d.0 (subst (λ z. IsOneOf z (ports es)) (sym (test_same e.0 p f)) (in_ports es p x i)))
    by false f g = g

-- at a port that isn't there no link is found
pub link_absent : (es : List (Port × ℕ)) (p : Port) → (IsOneOf p (ports es) → ⊥) → link_at es p ≡ None
link_absent [] p d = refl
link_absent (e ∷ es) p d = by (same_test e.0 p) refl (link_absent es p (λ i. d (inr i)))
  where
    by : (t : Bool) → same_test e.0 p ≡ t → link_at es p ≡ None → cond t (Some e.1) (link_at es p) ≡ None
    by true f g = absurd (d (inl (test_same e.0 p f)))
    by false f g = g

-- Ends

-- each end of a class is listed with a link of the class
pub ends_in : (m : ℕ → ℕ) (z : ℕ) (es : List (Port × ℕ)) (p : Port) → IsOneOf p (ends_of_class m z es) → (x : ℕ) × IsOneOf {A = Port × ℕ} (p, x) es × (m x ≡ z)
ends_in m z [] p i = absurd i
ends_in m z (e ∷ es) p i = by (m e.1 == z) refl i (λ j. let w = ends_in m z es p j in (w.0, inr w.1, w.2))
  where
    by : (t : Bool) → (m e.1 == z) ≡ t → IsOneOf p (cond t (e.0 ∷ ends_of_class m z es) (ends_of_class m z es)) → (IsOneOf p (ends_of_class m z es) → (x : ℕ) × IsOneOf {A = Port × ℕ} (p, x) (e ∷ es) × (m x ≡ z))
        → (x : ℕ) × IsOneOf {A = Port × ℕ} (p, x) (e ∷ es) × (m x ≡ z)
    by true h (inl g) further = (e.1, inl (λ t. (g t, e.1)), eqb-true (m e.1) z h)
    by true h (inr j) further = further j
    by false h j further = further j

-- a port whose link is of the class is one of the ends of the class
pub in_ends : (m : ℕ → ℕ) (z : ℕ) (es : List (Port × ℕ)) (p : Port) (x : ℕ) → IsOneOf {A = Port × ℕ} (p, x) es → m x ≡ z → IsOneOf p (ends_of_class m z es)
in_ends m z [] p x i h = absurd i
in_ends m z (e ∷ es) p x (inl g) h = rw (eq-eqb (m e.1) z (ap (λ (w : Port × ℕ). m w.1) g ∙ h)) (inl (ap (λ (w : Port × ℕ). w.0) g))
in_ends m z (e ∷ es) p x (inr i) h = by (m e.1 == z) (in_ends m z es p x i h)
  where
    by : (t : Bool) → IsOneOf p (ends_of_class m z es) → IsOneOf p (cond t (e.0 ∷ ends_of_class m z es) (ends_of_class m z es))
    by true j = inr j
    by false j = j

-- no port is an end of a class twice, where none is listed twice
pub ends_distinct : (m : ℕ → ℕ) (z : ℕ) (es : List (Port × ℕ)) → NoneTwice (ports es) → NoneTwice (ends_of_class m z es)
ends_distinct m z [] d = tt
ends_distinct m z (e ∷ es) d = by (m e.1 == z) (ends_distinct m z es d.1)
  where
    by : (t : Bool) → NoneTwice (ends_of_class m z es) → NoneTwice (cond t (e.0 ∷ ends_of_class m z es) (ends_of_class m z es))
    by true r = ((λ i. let w = ends_in m z es e.0 i in d.0 (in_ports es e.0 w.0 w.1)), r)
    by false r = r

-- Shapes: two ends, or none

-- the ends of a class, new ones and old ones: two or none
pub data Shape : List Port → List Port → Type 0 where
  no_ends : Shape [] []
  new_ends : {p q : Port} → Shape (p ∷ q ∷ []) []
  one_each : {p h : Port} → Shape (p ∷ []) (h ∷ [])
  old_ends : {g h : Port} → Shape [] (g ∷ h ∷ [])

-- so they are where there are two or none together
pub shape_of : (ps hs : List Port) → (length ps + length hs ≡ 0) ⊎ (length ps + length hs ≡ 2) → Shape ps hs
shape_of [] [] h = no_ends
shape_of [] (g ∷ []) h = absurd (off h)
  where
    off : (suc zero ≡ 0) ⊎ (suc zero ≡ 2) → ⊥
    off (inl e) = omega arith
    off (inr e) = omega arith
shape_of [] (g ∷ h ∷ []) w = old_ends
shape_of [] (g ∷ h ∷ i ∷ hs) w = absurd (off (length hs) w)
  where
    off : (n : ℕ) → (0 + suc (suc (suc n)) ≡ 0) ⊎ (0 + suc (suc (suc n)) ≡ 2) → ⊥
    off n (inl e) = omega arith
    off n (inr e) = omega arith
shape_of (p ∷ []) [] h = absurd (off h)
  where
    off : (suc zero ≡ 0) ⊎ (suc zero ≡ 2) → ⊥
    off (inl e) = omega arith
    off (inr e) = omega arith
shape_of (p ∷ []) (h ∷ []) w = one_each
shape_of (p ∷ []) (g ∷ h ∷ hs) w = absurd (off (length hs) w)
  where
    off : (n : ℕ) → (suc zero + suc (suc n) ≡ 0) ⊎ (suc zero + suc (suc n) ≡ 2) → ⊥
    off n (inl e) = omega arith
    off n (inr e) = omega arith
shape_of (p ∷ q ∷ []) [] w = new_ends
shape_of (p ∷ q ∷ r ∷ ps) hs w = absurd (off (length ps) (length hs) w)
  where
    off : (n m : ℕ) → (suc (suc (suc n)) + m ≡ 0) ⊎ (suc (suc (suc n)) + m ≡ 2) → ⊥
    off n m (inl e) = omega arith
    off n m (inr e) = omega arith
shape_of (p ∷ q ∷ []) (h ∷ hs) w = absurd (off (length hs) w)
  where
    off : (n : ℕ) → (2 + suc n ≡ 0) ⊎ (2 + suc n ≡ 2) → ⊥
    off n (inl e) = omega arith
    off n (inr e) = omega arith

-- the new and the old ports of a class and of further ties
pub new_cases : (ps hs : List Port) (ts : List (Tie Port)) (r : Port) → Shape ps hs → AnyNew r (tie_of ps hs ++ ts) → IsOneOf r ps ⊎ AnyNew r ts
new_cases ps hs ts r no_ends n = inr n
new_cases ps hs ts r (new_ends {p = p} {q = q}) (inl (inl e)) = inl (inl (sym e))
new_cases ps hs ts r (new_ends {p = p} {q = q}) (inl (inr e)) = inl (inr (inl (sym e)))
new_cases ps hs ts r (new_ends {p = p} {q = q}) (inr n) = inr n
new_cases ps hs ts r (one_each {p = p} {h = h}) (inl e) = inl (inl (sym e))
new_cases ps hs ts r (one_each {p = p} {h = h}) (inr n) = inr n
new_cases ps hs ts r (old_ends {g = g} {h = h}) (inl e) = absurd e
new_cases ps hs ts r (old_ends {g = g} {h = h}) (inr n) = inr n

-- an old port of ties is an end of the first class or of those behind
pub old_cases : (ps hs : List Port) (ts : List (Tie Port)) (r : Port) → Shape ps hs → AnyOld r (tie_of ps hs ++ ts) → IsOneOf r hs ⊎ AnyOld r ts
old_cases ps hs ts r no_ends n = inr n
old_cases ps hs ts r (new_ends {p = p} {q = q}) (inl e) = absurd e
old_cases ps hs ts r (new_ends {p = p} {q = q}) (inr n) = inr n
old_cases ps hs ts r (one_each {p = p} {h = h}) (inl e) = inl (inl (sym e))
old_cases ps hs ts r (one_each {p = p} {h = h}) (inr n) = inr n
old_cases ps hs ts r (old_ends {g = g} {h = h}) (inl (inl e)) = inl (inl (sym e))
old_cases ps hs ts r (old_ends {g = g} {h = h}) (inl (inr e)) = inl (inr (inl (sym e)))
old_cases ps hs ts r (old_ends {g = g} {h = h}) (inr n) = inr n

-- a new end of the first class or of those behind is a new port of the ties
pub new_here : (ps hs : List Port) (ts : List (Tie Port)) (r : Port) → Shape ps hs → IsOneOf r ps ⊎ AnyNew r ts → AnyNew r (tie_of ps hs ++ ts)
new_here ps hs ts r no_ends (inl i) = absurd i
new_here ps hs ts r no_ends (inr n) = n
new_here ps hs ts r new_ends (inl (inl e)) = inl (inl (sym e))
new_here ps hs ts r new_ends (inl (inr (inl e))) = inl (inr (sym e))
new_here ps hs ts r new_ends (inl (inr (inr i))) = absurd i
new_here ps hs ts r new_ends (inr n) = inr n
new_here ps hs ts r one_each (inl (inl e)) = inl (sym e)
new_here ps hs ts r one_each (inl (inr i)) = absurd i
new_here ps hs ts r one_each (inr n) = inr n
new_here ps hs ts r old_ends (inl i) = absurd i
new_here ps hs ts r old_ends (inr n) = inr n

-- and an old end an old port
pub old_here : (ps hs : List Port) (ts : List (Tie Port)) (r : Port) → Shape ps hs → IsOneOf r hs ⊎ AnyOld r ts → AnyOld r (tie_of ps hs ++ ts)
old_here ps hs ts r no_ends (inl i) = absurd i
old_here ps hs ts r no_ends (inr n) = n
old_here ps hs ts r new_ends (inl i) = absurd i
old_here ps hs ts r new_ends (inr n) = inr n
old_here ps hs ts r one_each (inl (inl e)) = inl (sym e)
old_here ps hs ts r one_each (inl (inr i)) = absurd i
old_here ps hs ts r one_each (inr n) = inr n
old_here ps hs ts r old_ends (inl (inl e)) = inl (inl (sym e))
old_here ps hs ts r old_ends (inl (inr (inl e))) = inl (inr (sym e))
old_here ps hs ts r old_ends (inl (inr (inr i))) = absurd i
old_here ps hs ts r old_ends (inr n) = inr n

-- the ties of a class are apart from those behind
pub apart_head : (c : Port → ℕ) (ps hs : List Port) (ts : List (Tie Port)) → Shape ps hs → NoneTwice ps → NoneTwice hs → ((p h : Port) → IsOneOf p ps → IsOneOf h hs → p ≢ h)
    → ((r : Port) → IsOneOf r ps → AnyNew r ts → ⊥) → ((r : Port) → IsOneOf r hs → AnyOld r ts → ⊥) → ((r q : Port) → IsOneOf r ps → AnyNew q ts → c r ≢ c q) → Apart c ts → Apart c (tie_of ps hs ++ ts)
apart_head c ps hs ts no_ends dp dh d n o w a = a
apart_head c ps hs ts (new_ends {p = p} {q = q}) dp dh d n o w a = (
  (λ e. dp.0 (inl (sym e))),
  (λ r i. n r (elim i [ inl e ↦ inl (sym e) | inr e ↦ inr (inl (sym e)) ])),
  (λ r i. absurd i),
  (λ r s i. w r s (elim i [ inl e ↦ inl (sym e) | inr e ↦ inr (inl (sym e)) ])),
  a,
)
apart_head c ps hs ts (one_each {p = p} {h = h}) dp dh d n o w a = (d p h (inl refl) (inl refl), (λ r e. n r (inl (sym e))), (λ r e. o r (inl (sym e))), (λ r s e. w r s (inl (sym e))), a)
apart_head c ps hs ts (old_ends {g = g} {h = h}) dp dh d n o w a = (
  (λ e. dh.0 (inl (sym e))),
  (λ r i. absurd i),
  (λ r i. o r (elim i [ inl e ↦ inl (sym e) | inr e ↦ inr (inl (sym e)) ])),
  (λ r s i. absurd i),
  a,
)

-- the two ends of a class have one image
pub tied_head : (M : ℕ → ℕ) (c : Port → ℕ) (ps hs : List Port) (ts : List (Tie Port)) → Shape ps hs → Ties M c (tie_of ps hs ++ ts)
    → ((a b : Port) → IsOneOf a ps ⊎ IsOneOf a hs → IsOneOf b ps ⊎ IsOneOf b hs → M (c a) ≡ M (c b)) × Ties M c ts
tied_head M c ps hs ts no_ends w = ((λ a b i j. absurd (elim i [ inl v ↦ v | inr v ↦ v ])), w)
tied_head M c ps hs ts (new_ends {p = p} {q = q}) w = ((λ a b i j. at a i ∙ sym (at b j)), w.1)
  where
    at : (a : Port) → IsOneOf a (p ∷ q ∷ []) ⊎ IsOneOf a [] → M (c a) ≡ M (c p)
    at a (inl (inl e)) = ap (λ z. M (c z)) (sym e)
    at a (inl (inr (inl e))) = ap (λ z. M (c z)) (sym e) ∙ sym w.0
    at a (inl (inr (inr v))) = absurd v
    at a (inr v) = absurd v
tied_head M c ps hs ts (one_each {p = p} {h = h}) w = ((λ a b i j. at a i ∙ sym (at b j)), w.1)
  where
    at : (a : Port) → IsOneOf a (p ∷ []) ⊎ IsOneOf a (h ∷ []) → M (c a) ≡ M (c p)
    at a (inl (inl e)) = ap (λ z. M (c z)) (sym e)
    at a (inl (inr v)) = absurd v
    at a (inr (inl e)) = ap (λ z. M (c z)) (sym e) ∙ sym w.0
    at a (inr (inr v)) = absurd v
tied_head M c ps hs ts (old_ends {g = g} {h = h}) w = ((λ a b i j. at a i ∙ sym (at b j)), w.1)
  where
    at : (a : Port) → IsOneOf a [] ⊎ IsOneOf a (g ∷ h ∷ []) → M (c a) ≡ M (c g)
    at a (inl v) = absurd v
    at a (inr (inl e)) = ap (λ z. M (c z)) (sym e)
    at a (inr (inr (inl e))) = ap (λ z. M (c z)) (sym e) ∙ sym w.0
    at a (inr (inr (inr v))) = absurd v

-- Classes by number

-- n numbers from a on have each number between
pub in_rising : (n a x : ℕ) → a ≤ x → x < a + n → IsOneOf x (rising a n)
in_rising zero a x h g = absurd (off h g)
  where
    off : a ≤ x → x < a + 0 → ⊥
    off h g = omega arith
in_rising (suc n) a x h g = elim (cases_eq a x) [
  | inl e ↦ inl e
  | inr d ↦ inr (in_rising n (suc a) x (next h d) (top g))
]
  where
    next : a ≤ x → a ≢ x → suc a ≤ x
    next h d = grind arith

    top : x < a + suc n → x < suc a + n
    top g = omega arith

-- each of the numbers from a on is at least a
pub rising_from : (n a x : ℕ) → IsOneOf x (rising a n) → a ≤ x
rising_from zero a x i = absurd i
rising_from (suc n) a x (inl e) = rw e (omega arith)
rising_from (suc n) a x (inr i) = less (rising_from n (suc a) x i)
  where
    less : suc a ≤ x → a ≤ x
    less h = omega arith

-- no number stands twice among n numbers from a on
pub rising_distinct : (n a : ℕ) → NoneTwice (rising a n)
rising_distinct zero a = tt
rising_distinct (suc n) a = ((λ i. off (rising_from n (suc a) a i)), rising_distinct n (suc a))
  where
    off : suc a ≤ a → ⊥
    off h = omega arith

-- maps that agree on these numbers have the same images of them
pub mapped_alike : (f g : ℕ → ℕ) (x n : ℕ) → ((k : ℕ) → k < x + n → f k ≡ g k) → map f (rising x n) ≡ map g (rising x n)
mapped_alike f g x zero same = refl
mapped_alike f g x (suc n) same =
    let here = same x (omega arith) in
    let rest = mapped_alike f g (suc x) n (λ k l. same k (omega (arith, l))) in
    λ i. here i ∷ rest i
