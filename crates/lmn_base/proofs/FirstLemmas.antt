-- The first of some places, and what is found among them.
use Rattle.std.proofs.Common.{ℕ, ◌≡◌, ◌+◌, ◌-◌, ◌^◌, ◌<◌, ◌≤◌, min, List, [], ◌∷◌, ◌++◌, length, map, take, get_or, Bool, true, false, cond, ◌||◌, ◌&&◌, Option, Some, None, All, IsTrue, refl, sym, ap, subst, ◌∙◌, arith, nat_eq, nat_lt, nat_le}
use Rattle.std.specs.List.{flat_map}
use Rattle.std.proofs.lemmas.List.{take_more, take_all, append-nil, length-append}
use Rattle.std.proofs.lemmas.List.Concat.{flat_map-append}
use Rattle.std.proofs.lemmas.List.Folds.{flat_map-map}
use Rattle.std.proofs.lemmas.List.Elements.{All-append, All-weaker, All-contains, All-nil, All-cons, Contains-append_left, Contains-append_right}
use Rattle.std.proofs.lemmas.Bool.Decides.{nat_tests}
use Rattle.lmn_base.specs.declared.refusal.Pos.{Pos}
use Rattle.lmn_base.specs.declared.question.Found.{Found}
use Rattle.lmn_base.specs.PlaceOrder.{not_after}
use Rattle.lmn_base.specs.Firsts.{FirstAt, IsFirst, IsFound, earlier}

-- ---- the order of places

-- a place is not after itself
pub not_after_itself : (p : Pos) → IsTrue (not_after p p)
not_after_itself p = grind (arith, nat_tests)

chain : (a b c d e f : ℕ) → (nat_lt a c || (nat_eq a c && nat_le b d)) ≡ true → (nat_lt c e || (nat_eq c e && nat_le d f)) ≡ true → (nat_lt a e || (nat_eq a e && nat_le b f)) ≡ true
chain a b c d e f g h = grind (arith, nat_tests)

turned : (a b c d : ℕ) → (nat_lt a c || (nat_eq a c && nat_le b d)) ≡ false → (nat_lt c a || (nat_eq c a && nat_le d b)) ≡ true
turned a b c d g = grind (arith, nat_tests)

same_line : (a b c d : ℕ) → (nat_lt a c || (nat_eq a c && nat_le b d)) ≡ true → (nat_lt c a || (nat_eq c a && nat_le d b)) ≡ true → a ≡ c
same_line a b c d g h = grind (arith, nat_tests)

same_column : (a b c d : ℕ) → (nat_lt a c || (nat_eq a c && nat_le b d)) ≡ true → (nat_lt c a || (nat_eq c a && nat_le d b)) ≡ true → b ≡ d
same_column a b c d g h = grind (arith, nat_tests)

-- the order of places goes on from one to the next
pub not_after_chain : (p q r : Pos) → IsTrue (not_after p q) → IsTrue (not_after q r) → IsTrue (not_after p r)
not_after_chain p q r = chain p.line p.column q.line q.column r.line r.column

-- of two places that are not in order the second comes first
pub not_after_turned : (p q : Pos) → not_after p q ≡ false → IsTrue (not_after q p)
not_after_turned p q = turned p.line p.column q.line q.column

-- places of which neither is after the other are one
pub same_place : (p q : Pos) → IsTrue (not_after p q) → IsTrue (not_after q p) → p ≡ q
same_place p q g h = λ i. record { line = same_line p.line p.column q.line q.column g h i; column = same_column p.line p.column q.line q.column g h i }

-- ---- the first place

-- there is only one
pub first_is_one : (ps : List Pos) (p q : Pos) → FirstAt ps p → FirstAt ps q → p ≡ q
first_is_one ps p q a b = same_place p q (All-contains (λ r. IsTrue (not_after p r)) ps q a.none_before b.one_of_them) (All-contains (λ r. IsTrue (not_after q r)) ps p b.none_before a.one_of_them)

none_before_both : (ps : List Pos) (p q : Pos) → IsTrue (not_after p q) → All (λ r. IsTrue (not_after q r)) ps → All (λ r. IsTrue (not_after p r)) ps
none_before_both ps p q before all = All-weaker (λ r. IsTrue (not_after q r)) (λ r. IsTrue (not_after p r)) (λ r. not_after_chain p q r before) ps all

of_two : (ps qs : List Pos) (p q : Pos) (b : Bool) → not_after p q ≡ b → FirstAt ps p → FirstAt qs q → FirstAt (ps ++ qs) (cond b p q)
of_two ps qs p q true e a b = record {
  one_of_them = Contains-append_left ps qs p a.one_of_them;
  none_before = All-append (λ r. IsTrue (not_after p r)) ps qs a.none_before (none_before_both qs p q e b.none_before);
}
of_two ps qs p q false e a b = record {
  one_of_them = Contains-append_right ps qs q b.one_of_them;
  none_before = All-append (λ r. IsTrue (not_after q r)) ps qs (none_before_both ps q p (not_after_turned p q e) a.none_before) b.none_before;
}

-- the first of two lists of places is the earlier of their first ones
pub first_of_both : (ps qs : List Pos) (a b : Option Pos) → IsFirst ps a → IsFirst qs b → IsFirst (ps ++ qs) (earlier a b)
first_of_both ps qs None b g h = subst (λ l. IsFirst (l ++ qs) b) (sym g) h
first_of_both ps qs (Some p) None g h = subst (λ l. FirstAt (ps ++ l) p) (sym h) (subst (λ l. FirstAt l p) (sym (append-nil ps)) g)
first_of_both ps qs (Some p) (Some q) g h = of_two ps qs p q (not_after p q) refl g h

-- one place alone is the first
pub first_of_one : (p : Pos) → FirstAt (p ∷ []) p
first_of_one p = record {
  one_of_them = (0, omega arith, refl);
  none_before = All-cons (λ q. IsTrue (not_after p q)) p [] (not_after_itself p) (All-nil (λ q. IsTrue (not_after p q)));
}

-- ---- what is found

-- what is found in two lists of places, by the first of both and both counts
pub found_in_both : (ps qs : List Pos) (f g : Found) (first : Option Pos) (n : ℕ) → first ≡ earlier f.first g.first → n ≡ min (f.count + g.count) (2 ^ 64 - 1)
    → IsFound ps f → IsFound qs g → IsFound (ps ++ qs) (record { first = first; count = n })
found_in_both ps qs f g first n e k a b = record {
  first = subst (IsFirst (ps ++ qs)) (sym e) (first_of_both ps qs f.first g.first a.first b.first);
  count = omega (arith, k, a.count, b.count, length-append ps qs);
}

-- what a list gives up to one more is what it gave, and then what that one gives
pub next_piece : {X A : Type 0} (f : X → List A) (xs : List X) (i : ℕ) (d : X) → i < length xs → flat_map f (take (i + 1) xs) ≡ flat_map f (take i xs) ++ f (get_or xs i d)
next_piece f xs i d within =
    ap (flat_map f) (take_more xs i d within) ∙ flat_map-append f (take i xs) (get_or xs i d ∷ []) ∙ ap (λ l. flat_map f (take i xs) ++ l) (append-nil (f (get_or xs i d)))

module _ {X : Type 0} (f : X → List Pos) (xs : List X) where
  -- all were asked
  pub found_all : (i : ℕ) (found : Found) → length xs ≤ i → IsFound (flat_map f (take i xs)) found → IsFound (flat_map f xs) found
  found_all i found end h = subst (λ l. IsFound (flat_map f l) found) (take_all i xs end) h

-- the same, of the answers of a list
pub found_mapped : {X Y : Type 0} (f : Y → List Pos) (h : X → Y) (xs : List X) (i : ℕ) (found : Found) → length xs ≤ i → IsFound (flat_map (λ x. f (h x)) (take i xs)) found → IsFound (flat_map f (map h xs)) found
found_mapped f h xs i found end g = subst (λ l. IsFound l found) (sym (flat_map-map f h xs)) (found_all (λ x. f (h x)) xs i found end g)
