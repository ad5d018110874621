-- Names by their numbers in two lists of names.
use Rattle.std.proofs.Common.{◌≡◌, ℕ, zero, suc, ◌<◌, ◌==◌, Bool, true, false, if◌then◌else◌, List, [], ◌∷◌, ◌++◌, length, slice_index_or, refl, sym, ap, ◌∙◌, Decides, arith}
use Rattle.std.specs.Prelude.{codes}
use Rattle.std.specs.Str.{bytes_eq}
use Rattle.std.proofs.lemmas.Slice.Eq.{bytes_eq-Decides}
use Rattle.lmn_base.specs.declared.functor.TheConstants.{INT_NAME, UNARY_NAME, GROUND_NAME}
use Rattle.lmn_base.specs.declared.functor.Label.TheVariants.{Name}
use Rattle.lmn_base.specs.Names.{first_names, IsNames}
use Rattle.lmn_congruence.specs.Rules as tree
use Rattle.lmn_congruence.specs.Translation.{name_of, atom_or_connector}
use Rattle.lmn_flatten_plain.specs.Plains.{number_of}
use Rattle.std.proofs.lemmas.Bool.{eq-eqb, eqb-true}

-- the number of a name is one of the list
abbrev pub Numbered : List tree.Name → tree.Name → Type 0
Numbered names n = number_of names n < length names

-- the name with the number of a name is that name
pub name_back : (names : List tree.Name) (n : tree.Name) → Numbered names n → name_of names (number_of names n) ≡ n
name_back [] n h = absurd (omega (arith, h))
name_back (m ∷ ns) n h = go (bytes_eq m n) (bytes_eq-Decides m n) h (name_back ns n)
  where
    go : (t : Bool) → Decides t (m ≡ n) → (if t then 0 else suc (number_of ns n)) < length (m ∷ ns) → (number_of ns n < length ns → name_of ns (number_of ns n) ≡ n)
        → slice_index_or (m ∷ ns) (if t then 0 else suc (number_of ns n)) [] ≡ n
    go true d h more = d.0 refl
    go false d h more = more (omega (arith, h))

-- a name has this number by any list of names, and this is the name with the number
pub record IsFixed (k : ℕ) (fixed : tree.Name) : Type 0 where
  pub number : (names : List tree.Name) → IsNames names → number_of names fixed ≡ k
  pub name : (names : List tree.Name) → IsNames names → name_of names k ≡ fixed

fixed_by : (k : ℕ) (fixed : tree.Name) → ((more : List tree.Name) → number_of (first_names ++ more) fixed ≡ k)
    → ((more : List tree.Name) → name_of (first_names ++ more) k ≡ fixed) → IsFixed k fixed
fixed_by k fixed f g = record {
  number = λ names is. let b = is.begins in ap (λ ns. number_of ns fixed) b.1 ∙ f b.0;
  name = λ names is. let b = is.begins in ap (λ ns. name_of ns k) b.1 ∙ g b.0;
}

connector_fixed : IsFixed 0 (codes "=")
connector_fixed = fixed_by 0 (codes "=") (λ more. refl) (λ more. refl)

int_fixed : IsFixed INT_NAME (codes "int")
int_fixed = fixed_by INT_NAME (codes "int") (λ more. refl) (λ more. refl)

unary_fixed : IsFixed UNARY_NAME (codes "unary")
unary_fixed = fixed_by UNARY_NAME (codes "unary") (λ more. refl) (λ more. refl)

ground_fixed : IsFixed GROUND_NAME (codes "ground")
ground_fixed = fixed_by GROUND_NAME (codes "ground") (λ more. refl) (λ more. refl)

same_tests : (a b k : ℕ) → (a ≡ k → b ≡ k) → (b ≡ k → a ≡ k) → (a == k) ≡ (b == k)
same_tests a b k f g = go (a == k) (b == k) refl refl
  where
    go : (s t : Bool) → (a == k) ≡ s → (b == k) ≡ t → s ≡ t
    go true true d e = refl
    go true false d e = sym (eq-eqb b k (f (eqb-true a k d))) ∙ e
    go false true d e = sym d ∙ eq-eqb a k (g (eqb-true b k e))
    go false false d e = refl

same_atom : (names others : List tree.Name) (a b : ℕ) → name_of names a ≡ name_of others b → (a ≡ 0 → b ≡ 0) → (b ≡ 0 → a ≡ 0) → (xs : List ℕ)
    → atom_or_connector names (Name a) xs ≡ atom_or_connector others (Name b) xs
same_atom names others zero zero e f g [] = ap (λ n. tree.atom_leaf (tree.named n) []) e
same_atom names others zero zero e f g (x ∷ []) = ap (λ n. tree.atom_leaf (tree.named n) (x ∷ [])) e
same_atom names others zero zero e f g (x ∷ y ∷ []) = refl
same_atom names others zero zero e f g (x ∷ y ∷ z ∷ xs) = ap (λ n. tree.atom_leaf (tree.named n) (x ∷ y ∷ z ∷ xs)) e
same_atom names others zero (suc b) e f g xs = absurd (let k = f refl in omega (arith, k))
same_atom names others (suc a) zero e f g xs = absurd (let k = g refl in omega (arith, k))
same_atom names others (suc a) (suc b) e f g xs = ap (λ n. tree.atom_leaf (tree.named n) xs) e

-- Two lists of names, which both hold a name.
module _ (names others : List tree.Name) (is : IsNames names) (are : IsNames others) (n : tree.Name) (h : Numbered names n) (g : Numbered others n) where
  -- its numbers are those of one name
  pub name_same : name_of names (number_of names n) ≡ name_of others (number_of others n)
  name_same = name_back names n h ∙ sym (name_back others n g)

  fixed_there : (k : ℕ) (fixed : tree.Name) → IsFixed k fixed → number_of names n ≡ k → number_of others n ≡ k
  fixed_there k fixed f e =
      let same : n ≡ fixed = sym (name_back names n h) ∙ ap (name_of names) e ∙ f.name names is in ap (number_of others) same ∙ f.number others are

  fixed_here : (k : ℕ) (fixed : tree.Name) → IsFixed k fixed → number_of others n ≡ k → number_of names n ≡ k
  fixed_here k fixed f e =
      let same : n ≡ fixed = sym (name_back others n g) ∙ ap (name_of others) e ∙ f.name others are in ap (number_of names) same ∙ f.number names is

  test_same : (k : ℕ) (fixed : tree.Name) → IsFixed k fixed → (number_of names n == k) ≡ (number_of others n == k)
  test_same k fixed f = same_tests (number_of names n) (number_of others n) k (fixed_there k fixed f) (fixed_here k fixed f)

  pub int_same : (number_of names n == INT_NAME) ≡ (number_of others n == INT_NAME)
  int_same = test_same INT_NAME (codes "int") int_fixed

  pub unary_same : (number_of names n == UNARY_NAME) ≡ (number_of others n == UNARY_NAME)
  unary_same = test_same UNARY_NAME (codes "unary") unary_fixed

  pub ground_same : (number_of names n == GROUND_NAME) ≡ (number_of others n == GROUND_NAME)
  ground_same = test_same GROUND_NAME (codes "ground") ground_fixed

  -- and an atom with this name is one
  pub atom_same : (xs : List ℕ) → atom_or_connector names (Name (number_of names n)) xs ≡ atom_or_connector others (Name (number_of others n)) xs
  atom_same = same_atom names others (number_of names n) (number_of others n) name_same (fixed_there 0 (codes "=") connector_fixed) (fixed_here 0 (codes "=") connector_fixed)
