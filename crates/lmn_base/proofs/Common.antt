-- Lemmas that several crates above cite.
use Rattle.lmn_base.proofs.Numbers.{triangle, triangle_less}
use Rattle.lmn_base.specs.Graphs.{Port}
use Rattle.lmn_base.specs.Items.{expression_items, expression_items_step}
use Rattle.lmn_base.specs.Levels.{leaves_of}
use Rattle.lmn_base.specs.LinkUses.{NotAfter}
use Rattle.lmn_base.specs.Links.{Numbers, known, new, no_more}
use Rattle.lmn_base.specs.Lists.{In}
use Rattle.lmn_base.specs.Solids.{rules_step, atoms_of_region}
use Rattle.lmn_base.specs.Uses.{has_use, is_some_place, use_of}
use Rattle.lmn_base.specs.declared.guard.Arith.{Arith}
use Rattle.lmn_base.specs.declared.guard.Expr.{Expr}
use Rattle.lmn_base.specs.declared.guard.Expr.TheFolds.{fold-roll-Expr}
use Rattle.lmn_base.specs.declared.item.Item.{Item}
use Rattle.lmn_base.specs.declared.level.Leaf.{Leaf}
use Rattle.lmn_base.specs.declared.level.Level.{Level, out-Level}
use Rattle.lmn_base.specs.declared.level.Level.TheFolds.{fold-Level, fold_out-Level}
use Rattle.lmn_base.specs.declared.refusal.Pos.{Pos}
use Rattle.lmn_base.specs.declared.solid.Region.{Region}
use Rattle.lmn_base.specs.declared.solid.Region.TheFolds.{fold-Region}
use Rattle.lmn_base.specs.declared.solid.SolidAtom.{SolidAtom}
use Rattle.std.proofs.Common.{suc, ℕ, List, ap, inl, inr, ◌≡◌, ◌≢◌, ◌⊎◌, Box, Global, sym, ◌++◌, ◌∙◌, arith, [], ◌∷◌, All, AllPairs, zero, ◌≤◌, refl, ◌<◌, ◌+◌, Option, Some, None, map, length, get_or, true, true≢false}
use Rattle.std.proofs.lemmas.Bool.{cases_eq, cases_lt}
use Rattle.std.proofs.lemmas.List.{get_or-map, length-map}
use Rattle.std.proofs.lemmas.List.Concat.{flat_map-append}
use Rattle.std.proofs.lemmas.List.Sorted.{IsPermutation-append_comm, IsPermutation-append_left}
use Rattle.std.proofs.lemmas.List.Sums.{get_or-le-sum_by}
use Rattle.std.specs.List.{sum, flat_map}
use Rattle.std.specs.List.Sorted.{IsPermutation}
use Rattle.std.specs.Prelude.{min}
use Rattle.lmn_base.specs.declared.guard.Expr.TheOpen as step
use Rattle.lmn_base.specs.declared.guard.Expr.TheVariants as expr

-- how many levels a level has, itself counted
abbrev pub levels_in : Level → ℕ
levels_in = fold-Level ℕ (λ l. suc (sum l.membranes))

-- the numbers of the rules of a region, at every depth
abbrev pub rules : Region → List ℕ
rules = fold-Region (List ℕ) rules_step

-- what stands in the membranes of a level, and of a region
abbrev pub inner_leaves : List Level → List Leaf
inner_leaves ls = flat_map (λ inner. inner) (map leaves_of ls)

-- the atoms of some membranes, at every depth
abbrev pub inner_atoms : List Region → List SolidAtom
inner_atoms rs = flat_map (λ inner. inner) (map atoms_of_region rs)

-- two ports are the same or they are not
pub port_cases : (p q : Port) → (p ≡ q) ⊎ (p ≢ q)
port_cases p q = elim (cases_eq p.0 q.0) [
  | inl e ↦ elim (cases_eq p.1 q.1) [ inl f ↦ inl (λ t. (e t, f t)) | inr d ↦ inr (λ h. d (ap (λ (x : Port). x.1) h)) ]
  | inr d ↦ inr (λ h. d (ap (λ (x : Port). x.0) h))
]

-- the contexts of an operation are those of its left side, then those of its right
pub operation_items : (op : Arith) (p : Box (Unit {0}) Global) (left : Expr) (q : Box (Unit {0}) Global) (right : Expr) → expression_items (expr.Op' op p left q right) ≡ expression_items left ++ expression_items right
operation_items op p left q right =
    let l : Box Expr Global = record { value = left; ptr = p.ptr; alloc = p.alloc } in
    let k : Box Expr Global = record { value = right; ptr = q.ptr; alloc = q.alloc } in
    ap expression_items (sym (expr.rolls-Op op l k)) ∙ fold-roll-Expr (List Item) expression_items_step (step.Op op l k)

-- the order of places goes on from one to the next
pub not_after_on : (p q r : Pos) → NotAfter p q → NotAfter q r → NotAfter p r
not_after_on p q r (inl a) (inl b) = inl (omega (arith, a, b))
not_after_on p q r (inl a) (inr b) = inl (omega (arith, a, b.0))
not_after_on p q r (inr a) (inl b) = inl (omega (arith, a.0, b))
not_after_on p q r (inr a) (inr b) = inr (a.0 ∙ b.0, omega (arith, a.1, b.1))

-- two places at the front may change their order
pub swapped_places : (a b : Pos) (bs : List Pos) → IsPermutation (a ∷ b ∷ bs) (b ∷ a ∷ bs)
swapped_places a b bs = IsPermutation-append_left bs (a ∷ b ∷ []) (b ∷ a ∷ []) (IsPermutation-append_comm (a ∷ []) (b ∷ []))

-- in a list in order no place is before the first
pub first_before_all : (b : Pos) (bs : List Pos) → AllPairs NotAfter (b ∷ bs) → All (NotAfter b) bs
first_before_all b bs g k d l = g zero (suc k) d (omega arith) (omega (arith, l))

-- what is left of a list in order is in order
pub pairs_tail : (a : Pos) (ps : List Pos) → AllPairs NotAfter (a ∷ ps) → AllPairs NotAfter ps
pairs_tail a ps h i j d l m = h (suc i) (suc j) d (omega (arith, l)) (omega (arith, m))

-- what holds of the first and of all others holds of all
pub all_cons : (P : Pos → Type 0) (a : Pos) (bs : List Pos) → P a → All P bs → All P (a ∷ bs)
all_cons P a bs h g zero d l = h
all_cons P a bs h g (suc k) d l = g k d (omega (arith, l))

-- the numbers of a list end where they begin, or later
pub numbers_grow : {n m : ℕ} {xs : List ℕ} → Numbers n xs m → n ≤ m
numbers_grow no_more = omega arith
numbers_grow (known b h) = numbers_grow h
numbers_grow (new h) = let g = numbers_grow h in omega arith

-- the first of such numbers is an old one, or the next new one
pub numbers_head : {n m x : ℕ} {xs : List ℕ} → Numbers n (x ∷ xs) m → ((x < n) × Numbers n xs m) ⊎ ((x ≡ n) × Numbers (suc n) xs m)
numbers_head (known l h) = inl (l, h)
numbers_head (new h) = inr (refl, h)

-- a place that is not after the first of a list in order is not after any
pub all_after : (a b : Pos) (bs : List Pos) → NotAfter a b → AllPairs NotAfter (b ∷ bs) → All (NotAfter a) (b ∷ bs)
all_after a b bs h g zero d l = h
all_after a b bs h g (suc k) d l = not_after_on a b _ h (g zero (suc k) d (omega arith) l)

-- every number is one of them
pub numbers_in : {n m : ℕ} {xs : List ℕ} → Numbers n xs m → (x : ℕ) → n ≤ x → x < m → In x xs
numbers_in no_more x a b = absurd (omega (arith, a, b))
numbers_in (known l h) x a b = inr (numbers_in h x a b)
numbers_in {n = n} (new {xs = xs} h) x a b = go xs (first x n a) (λ c. numbers_in h x c b)
  where
    first : (x n : ℕ) → n ≤ x → (x ≡ n) ⊎ (suc n ≤ x)
    first x n a = grind arith

    go : (xs : List ℕ) → (x ≡ n) ⊎ (suc n ≤ x) → (suc n ≤ x → In x xs) → In x (n ∷ xs)
    go xs (inl e) more = inl (sym e)
    go xs (inr l) more = inr (more l)

-- a membrane is smaller than the level round it
pub membrane_smaller : (l : Level) (x : Level) (i : ℕ) → i < length (out-Level l).membranes → levels_in (get_or (out-Level l).membranes i x) < levels_in l
membrane_smaller l x i h =
    let ms = (out-Level l).membranes in
    let all : levels_in l ≡ suc (sum (map levels_in ms)) = fold_out-Level ℕ (λ l. suc (sum l.membranes)) l in
    let size = length-map ms levels_in in
    let some : get_or (map levels_in ms) i 0 ≤ sum (map levels_in ms) = get_or-le-sum_by (λ (n : ℕ). n) (map levels_in ms) i 0 (omega (arith, h, size)) in
    let one : get_or (map levels_in ms) i 0 ≡ levels_in (get_or ms i x) = get_or-map levels_in ms i x 0 h in
    omega (arith, all, some, one)

-- a number for each port, row by row of a triangle
abbrev pub port_number : Port → ℕ
port_number p = triangle (p.0 + p.1) + p.0

-- different ports have different numbers
pub port_of_number : (p q : Port) → port_number p ≡ port_number q → p ≡ q
port_of_number p q e = elim (cases_eq (p.0 + p.1) (q.0 + q.1)) [
  | inl s ↦ (let first : p.0 ≡ q.0 = cancel p.0 q.0 (triangle (p.0 + p.1)) (triangle (q.0 + q.1)) (ap triangle s) e in
      let second : p.1 ≡ q.1 = omega (arith, first, s) in
      λ i. (first i, second i))
  | inr d ↦ elim (cases_lt (p.0 + p.1) (q.0 + q.1)) [
    | inl l ↦ (let t = triangle_less (p.0 + p.1) (q.0 + q.1) l in absurd (omega (arith, e, t)))
    | inr g ↦ (let t = triangle_less (q.0 + q.1) (p.0 + p.1) (strict (p.0 + p.1) (q.0 + q.1) d g) in absurd (omega (arith, e, t)))
  ]
]
  where
    cancel : (a b s t : ℕ) → s ≡ t → s + a ≡ t + b → a ≡ b
    cancel a b s t f e = omega (arith, f, e)

    strict : (s t : ℕ) → s ≢ t → t ≤ s → t < s
    strict s t d g = omega (arith, d, g)

-- the less of the numbers of two ports, where there is a second
abbrev pub lesser : Port → Option Port → ℕ
lesser p None = port_number p
lesser p (Some q) = min (port_number p) (port_number q)

-- what is used in a list is used in a longer one
pub in_left : (x : ℕ) (as' bs : List Item) → has_use x as' ≡ true → has_use x (as' ++ bs) ≡ true
in_left x as' bs u = ap is_some_place (flat_map-append (use_of x) as' bs) ∙ some_left (flat_map (use_of x) as') (flat_map (use_of x) bs) u
  where
    some_left : (us vs : List Pos) → is_some_place us ≡ true → is_some_place (us ++ vs) ≡ true
    some_left [] vs s = absurd (true≢false (sym s))
    some_left (p ∷ us) vs s = refl

-- what is used in a list is used behind others
pub in_right : (x : ℕ) (as' bs : List Item) → has_use x bs ≡ true → has_use x (as' ++ bs) ≡ true
in_right x as' bs u = ap is_some_place (flat_map-append (use_of x) as' bs) ∙ some_right (flat_map (use_of x) as') (flat_map (use_of x) bs) u
  where
    some_right : (us vs : List Pos) → is_some_place vs ≡ true → is_some_place (us ++ vs) ≡ true
    some_right [] vs s = s
    some_right (p ∷ us) vs s = refl

-- what stands in an image comes from one that stands in the list
pub of_map : (f : ℕ → ℕ) (b : ℕ) (xs : List ℕ) → In b (map f xs) → (a : ℕ) × In a xs × (f a ≡ b)
of_map f b [] i = absurd i
of_map f b (x ∷ xs) (inl e) = (x, inl refl, e)
of_map f b (x ∷ xs) (inr i) = let w = of_map f b xs i in (w.0, inr w.1, w.2)

-- maps that agree on a list have one image of it
pub map_same : (f g : ℕ → ℕ) (xs : List ℕ) → ((x : ℕ) → In x xs → f x ≡ g x) → map f xs ≡ map g xs
map_same f g [] e = refl
map_same f g (x ∷ xs) e = let here = e x (inl refl) in let rest = map_same f g xs (λ y i. e y (inr i)) in λ t. here t ∷ rest t

-- with no more links the count is there
pub all_met : {n m : ℕ} → Numbers n [] m → n ≡ m
all_met no_more = refl

-- links numbered, and then others, are all numbered
pub numbers_both : {n m k : ℕ} {xs ys : List ℕ} → Numbers n xs m → Numbers m ys k → Numbers n (xs ++ ys) k
numbers_both no_more g = g
numbers_both (known l h) g = known l (numbers_both h g)
numbers_both (new h) g = new (numbers_both h g)
