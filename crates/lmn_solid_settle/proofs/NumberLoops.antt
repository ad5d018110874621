-- Loops that give the links of each of some items their numbers.
use Rattle.std.proofs.Common.{ℕ, zero, suc, ◌≡◌, ◌+◌, ◌<◌, ◌≤◌, ◌⊎◌, inl, inr, List, [], ◌∷◌, ◌++◌, map, length, set, get_or, All, refl, sym, ap, ◌∙◌, subst, arith}
use Rattle.std.specs.List.{flat_map}
use Rattle.std.proofs.lemmas.List.{get_or_append_left}
use Rattle.lmn_flatten_numbers.proofs.LevelSteps.{Renumbers, all_left, all_right, renumbers_links, renumbers_next, renumbers_parts, renumbers_start}
use Rattle.lmn_solid_settle.specs.declared.numbers.Numbers.{Numbers}
use Rattle.lmn_solid_settle.specs.Tables.{Follows, Gives, HaveKeys, IsValid, class_in}
use Rattle.lmn_base.proofs.Lists.{same_behind}

-- The first i of the items xs have got their numbers, and ys are the items now. By a table of classes `f` renames an item, and `g`
-- lists its classes.
pub record Passed {A : Type 0} (f : List ℕ → (ℕ → ℕ) → A → A) (g : List ℕ → A → List ℕ) (old now : Numbers) (i : ℕ) (xs ys : List A) : Type 0 where
  pub classes : now.classes ≡ old.classes
  pub renumbers : Renumbers (f old.classes) (g old.classes) (record { numbers = old.numbers; count = old.count }) (record { numbers = now.numbers; count = now.count }) i xs ys

-- what holds of all that items list holds of what one of them lists
part : {A : Type 0} (g : A → List ℕ) (S : ℕ → Type 0) (i : ℕ) (xs : List A) (d : A) → i < length xs → All S (flat_map g xs) → All S (g (get_or xs i d))
part g S i [] d l h = absurd (omega (arith, l))
part g S zero (x ∷ xs) d l h = all_left S (g x) (flat_map g xs) h
part g S (suc i) (x ∷ xs) d l h = part g S i xs d (omega (arith, l)) (all_right S (g x) (flat_map g xs) h)

module _ {A : Type 0} (f : List ℕ → (ℕ → ℕ) → A → A) (g : List ℕ → A → List ℕ) where
  -- none yet,
  pub passed_none : (t : Numbers) (xs : List A) → IsValid t → Passed f g t t 0 xs xs
  passed_none t xs v = record { classes = refl; renumbers = renumbers_start (f t.classes) (g t.classes) _ xs v }

  module _ {old now : Numbers} {i : ℕ} {xs ys : List A} (p : Passed f g old now i xs ys) where
    pub passed_keys : HaveKeys old → HaveKeys now
    passed_keys h x l =
        let keys = p.renumbers.gives.keys in
        let at : class_in now.classes x ≡ class_in old.classes x = ap (λ cs. class_in cs x) p.classes in
        let size : length now.classes ≡ length old.classes = ap length p.classes in
        let below = h x (omega (arith, l, size)) in
        omega (arith, keys, at, below)

    -- links of the next item have classes
    pub passed_within : (links : A → List ℕ) (d : A) → i < length xs → All (λ x. x < length old.classes) (flat_map links xs) → All (λ x. x < length now.classes) (links (get_or ys i d))
    passed_within links d l all =
        subst (λ a. All (λ x. x < length now.classes) (links a)) (sym (same_behind i xs ys d p.renumbers.rest))
        (subst (λ cs. All (λ x. x < length cs) (links (get_or xs i d))) (sym p.classes) (part links (λ x. x < length old.classes) i xs d l all))

    -- one more,
    pub passed_more : (after : Numbers) (y d : A) → i < length xs → after.classes ≡ now.classes → Gives (g now.classes (get_or ys i d)) now after
        → ((to : ℕ → ℕ) → Follows to after → y ≡ f now.classes to (get_or ys i d)) → Passed f g old after (i + 1) xs (set ys i y)
    passed_more after y d l same gives is = record {
      classes = same ∙ p.classes;
      renumbers = renumbers_next (f old.classes) (g old.classes) _ _ _ i xs ys y d l p.renumbers
          (subst (λ cs. Gives (g cs (get_or ys i d)) now after) p.classes gives)
          (λ to a. is to a ∙ ap (λ cs. f cs to (get_or ys i d)) p.classes);
    }

    -- and all
    pub passed_gives : length xs ≤ i → Gives (flat_map (g old.classes) xs) old now
    passed_gives l = renumbers_links (f old.classes) (g old.classes) _ _ i xs ys l p.renumbers

    pub passed_parts : length xs ≤ i → (to : ℕ → ℕ) → Follows to now → ys ≡ map (f old.classes to) xs
    passed_parts l to a = renumbers_parts (f old.classes) (g old.classes) _ _ i xs ys l p.renumbers to a

-- ---- lists of single links

-- classes of single links
pub each_alone : (h : ℕ → ℕ) (xs : List ℕ) → flat_map (λ x. h x ∷ []) xs ≡ map h xs
each_alone h [] = refl
each_alone h (x ∷ xs) = ap (λ ys. h x ∷ ys) (each_alone h xs)

-- and the links themselves
pub alone : (xs : List ℕ) → flat_map (λ x. x ∷ []) xs ≡ xs
alone [] = refl
alone (x ∷ xs) = ap (λ ys. x ∷ ys) (alone xs)

-- ---- the table of classes

-- what stands in a list behind which one more was put
pub read_more : (xs : List ℕ) (y x : ℕ) → (x < length xs) ⊎ (x ≡ length xs) → (h : ℕ → ℕ) → ((z : ℕ) → z < length xs → class_in xs z ≡ h z) → y ≡ h (length xs) → class_in (xs ++ y ∷ []) x ≡ h x
read_more xs y x (inl l) h are e = get_or_append_left xs (y ∷ []) 0 x l ∙ are x l
read_more xs y x (inr s) h are e = ap (class_in (xs ++ y ∷ [])) s ∙ at_end xs y ∙ e ∙ ap h (sym s)
  where
    at_end : (xs : List ℕ) (y : ℕ) → class_in (xs ++ y ∷ []) (length xs) ≡ y
    at_end [] y = refl
    at_end (x ∷ xs) y = at_end xs y
