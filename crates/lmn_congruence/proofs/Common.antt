-- Lemmas that several crates above cite.
use Rattle.lmn_base.proofs.Common.{rules}
use Rattle.lmn_base.specs.Levels.{rules_of}
use Rattle.lmn_base.specs.declared.level.Level.{Level}
use Rattle.lmn_congruence.specs.Fused.{Joins}
use Rattle.lmn_congruence.specs.Orders.{Among, at_head, further}
use Rattle.lmn_congruence.specs.Process.{rule, together}
use Rattle.lmn_congruence.specs.Rules.{Rule, rules_list}
use Rattle.lmn_congruence.specs.SolidsOfPlains.{fused_region, fused_step}
use Rattle.lmn_congruence.specs.Translation.{rules as listed_rules}
use Rattle.std.proofs.Common.{List, [], ap, refl, ◌∷◌, ◌≡◌, map, ℕ, inl, inr, ◌++◌, ◌⊎◌, arith, ◌≢◌, ◌≤◌, subst}
use Rattle.lmn_congruence.specs.Links.{places}
use Rattle.lmn_congruence.proofs.Counts.{none_if_apart, one_if_equal}
use Rattle.lmn_base.proofs.Numbers.{same_or_not}
use Rattle.std.specs.List.{flat_map}
use Rattle.lmn_base.specs.declared.solid.Region.{Region}
use Rattle.lmn_base.specs.declared.level.Level.TheFolds.{fold-roll-Level, ind-Level}
use Rattle.lmn_base.specs.declared.solid.Region.TheFolds.{fold-roll-Region}
use Rattle.lmn_base.specs.Solids.{rules_step}

-- some rules as a tree of rules, read as a list again, are these rules
pub rules_listed : (rs : List Rule) → rules_list (listed_rules rs) ≡ rs
rules_listed [] = refl
rules_listed (r ∷ rs) = ap (λ k. r ∷ k) (rules_listed rs)

-- rules have no connector that a map would have to join
pub rules_join : (to : ℕ → ℕ) (rs : List Rule) → Joins to (together (map rule rs))
rules_join to [] = tt
rules_join to (x ∷ rs) = (tt, rules_join to rs)

-- what is among two lists joined is among one of them
pub among_apart : {A : Type 0} {a : A} (xs ys : List A) → Among a (xs ++ ys) → Among a xs ⊎ Among a ys
among_apart [] ys h = inr h
among_apart (x ∷ xs) ys at_head = inl at_head
among_apart {a} (x ∷ xs) ys (further h) = go (among_apart xs ys h)
  where
    go : Among a xs ⊎ Among a ys → Among a (x ∷ xs) ⊎ Among a ys
    go (inl i) = inl (further i)
    go (inr i) = inr i

-- a level keeps its rules when it is fused
abbrev pub Kept : (ℕ → ℕ) → Level → Type 0
Kept v l = rules (fused_region v l) ≡ rules_of l

-- the rules of some membranes, at every depth
abbrev pub all_rules : List Region → List ℕ
all_rules rs = flat_map (λ inner. inner) (map rules rs)

-- levels that each keep their rules keep them together
pub inner_kept : (v : ℕ → ℕ) (ls : List ((l : Level) × Kept v l)) → all_rules (map (fused_region v) (map (λ e. e.0) ls)) ≡ flat_map (λ inner. inner) (map rules_of (map (λ e. e.0) ls))
inner_kept v [] = refl
inner_kept v (e ∷ ls) = rw (e.1, inner_kept v ls) refl

-- a level without its connectors has the level's rules
pub rules_kept : (v : ℕ → ℕ) (l : Level) → Kept v l
rules_kept v = ind-Level (Kept v) (λ y z is.
    let inside = subst (λ l. all_rules (map (fused_region v) l.membranes) ≡ flat_map (λ inner. inner) (map rules_of l.membranes)) is (inner_kept v z.membranes) in
    rw (fold-roll-Level Region (fused_step v) y, fold-roll-Region (List ℕ) rules_step _, fold-roll-Level (List ℕ) (λ l. l.rules ++ flat_map (λ inner. inner) l.membranes) y, inside) refl)

-- nothing is among an empty list
pub nothing_among : {A : Type 0} {x : A} → ¬ (Among x [])
nothing_among k = elim k [ ]

-- what is among the first list is among both joined
pub among_left : {A : Type 0} {x : A} {xs : List A} (ys : List A) → Among x xs → Among x (xs ++ ys)
among_left ys at_head = at_head
among_left ys (further a) = further (among_left ys a)

-- and what is among the second
pub among_right : {A : Type 0} {x : A} (xs : List A) {ys : List A} → Among x ys → Among x (xs ++ ys)
among_right [] a = a
among_right (z ∷ xs) a = further (among_right xs a)

-- where an element is among a list its image is among the images
pub among_map : {A B : Type 0} (f : A → B) {x : A} {xs : List A} → Among x xs → Among (f x) (map f xs)
among_map f at_head = at_head
among_map f (further k) = further (among_map f k)

-- a number that has places in a list is among it
pub places_among : (x : ℕ) (ys : List ℕ) → places x ys ≢ 0 → Among x ys
places_among x [] d = absurd (d refl)
places_among x (y ∷ ys) d = go (same_or_not x y) (places_among x ys)
  where
    not_here : x ≢ y → places x ys ≢ 0
    not_here n e = d (omega (arith, none_if_apart x y n, e))

    go : (x ≡ y) ⊎ (x ≢ y) → (places x ys ≢ 0 → Among x ys) → Among x (y ∷ ys)
    go (inl e) k = subst (λ k. Among x (k ∷ ys)) e at_head
    go (inr n) k = further (k (not_here n))

-- a number that is among a list has a place in it
pub among_places : {y : ℕ} {xs : List ℕ} → Among y xs → 1 ≤ places y xs
among_places {y} (at_head {ys = ys}) = omega (arith, one_if_equal y y refl)
among_places (further k) = omega (arith, among_places k)

-- two maps that agree on the links of a list have one image
pub map_known : {f g : ℕ → ℕ} (xs : List ℕ) → ((x : ℕ) → Among x xs → f x ≡ g x) → map f xs ≡ map g xs
map_known [] h = refl
map_known (x ∷ xs) h = cc (h x at_head, map_known xs (λ y k. h y (further k)))

-- what stands in an image of a list is the image of one that stands in the list
pub among_image : {A B : Type 0} (f : A → B) {b : B} (xs : List A) → Among b (map f xs) → (a : A) × Among a xs × (f a ≡ b)
among_image f [] h = elim h [ ]
among_image f (x ∷ xs) at_head = (x, at_head, refl)
among_image f (x ∷ xs) (further h) = let more = among_image f xs h in (more.0, further more.1, more.2)
