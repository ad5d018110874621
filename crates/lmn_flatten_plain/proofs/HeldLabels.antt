-- Names by their numbers in a list, and back.
use Rattle.std.proofs.Common.{◌≡◌, ◌≢◌, ℕ, zero, suc, ◌<◌, ◌==◌, Bool, true, false, if◌then◌else◌, List, [], ◌∷◌, ◌++◌, length, slice_index_or, refl, sym, ap, ◌∙◌, subst, arith, Decides, true≢false}
use Rattle.std.specs.Prelude.{codes, bytes_eq, Contains}
use Rattle.std.proofs.lemmas.Bool.Decides.{nat_tests}
use Rattle.std.proofs.lemmas.Slice.Eq.{bytes_eq-Decides}
use Rattle.lmn_base.specs.declared.functor.Label.TheVariants.{Name}
use Rattle.lmn_base.specs.declared.level.CtxUse.{CtxUse}
use Rattle.lmn_base.specs.Names.{first_names, IsNames}
use Rattle.lmn_congruence.specs.Rules as tree
use Rattle.lmn_congruence.specs.Translation.{name_of, names_of, atom_or_connector, kind_of}
use Rattle.lmn_flatten_plain.specs.Plains.{number_of}
use Rattle.lmn_flatten_plain.specs.Spelled.{SpellsNoConnector, IsUnknown}
use Rattle.lmn_flatten_plain.specs.Words.{kind_name}

back : (names : List tree.Name) (name : tree.Name) (k : ℕ) → k < length names → slice_index_or names k name ≡ name → name_of names (number_of names name) ≡ name
back [] name k l e = absurd (omega (arith, l))
back (n ∷ ns) name k l e = go (bytes_eq n name) (bytes_eq-Decides n name) k l e (λ j m f. back ns name j m f)
  where
    go : (t : Bool) → Decides t (n ≡ name) → (k : ℕ) → k < length (n ∷ ns) → slice_index_or (n ∷ ns) k name ≡ name
        → ((j : ℕ) → j < length ns → slice_index_or ns j name ≡ name → name_of ns (number_of ns name) ≡ name)
        → slice_index_or (n ∷ ns) (if t then 0 else suc (number_of ns name)) [] ≡ name
    go true d k l e more = d.0 refl
    go false d zero l e more = absurd (true≢false (sym (d.1 e)))
    go false d (suc k) l e more = more k (omega (arith, l)) e

-- the number of a name of the list names it
pub held_back : (names : List tree.Name) (name : tree.Name) → Contains names name → name_of names (number_of names name) ≡ name
held_back names name h = back names name h.0 h.1 h.2

module _ (names : List tree.Name) (is : IsNames names) where
  -- the fixed names have their numbers
  number_fixed : (name : tree.Name) (k : ℕ) → ((more : List tree.Name) → number_of (first_names ++ more) name ≡ k) → number_of names name ≡ k
  number_fixed name k h = let b = is.begins in ap (λ ns. number_of ns name) b.1 ∙ h b.0

  fixed_name : (k : ℕ) (name : tree.Name) → ((more : List tree.Name) → name_of (first_names ++ more) k ≡ name) → name_of names k ≡ name
  fixed_name k name h = let b = is.begins in ap (λ ns. name_of ns k) b.1 ∙ h b.0

  pub connector_number : number_of names (codes "=") ≡ 0
  connector_number = number_fixed (codes "=") 0 (λ more. refl)

  -- an atom that is no connector
  any_atom : (n : ℕ) (name : tree.Name) (xs : List ℕ) → SpellsNoConnector (tree.named name) xs → (n ≡ 0 → name ≡ codes "=")
      → atom_or_connector names (Name n) xs ≡ tree.atom_leaf (tree.named (name_of names n)) xs
  any_atom zero name [] h z = refl
  any_atom zero name (x ∷ []) h z = refl
  any_atom zero name (x ∷ y ∷ []) h z = absurd (h (z refl))
  any_atom zero name (x ∷ y ∷ w ∷ xs) h z = refl
  any_atom (suc n) name xs h z = refl

  pub atom_back : (name : tree.Name) (xs : List ℕ) → Contains names name → SpellsNoConnector (tree.named name) xs
      → atom_or_connector names (Name (number_of names name)) xs ≡ tree.atom_leaf (tree.named name) xs
  atom_back name xs held h =
      any_atom (number_of names name) name xs h
      (λ z. sym (held_back names name held) ∙ ap (name_of names) z ∙ fixed_name 0 (codes "=") (λ more. refl))
      ∙ ap (λ n. tree.atom_leaf (tree.named n) xs) (held_back names name held)

  pub connector_back : (x y : ℕ) → atom_or_connector names (Name (number_of names (codes "="))) (x ∷ y ∷ []) ≡ tree.connector_leaf x y
  connector_back x y = ap (λ n. atom_or_connector names (Name n) (x ∷ y ∷ [])) connector_number

  -- conditions

  pub kind_back : (k : tree.Kind) (u : CtxUse) → kind_of names (number_of names (kind_name k)) (u ∷ []) ≡ tree.is_kind k (name_of names u.name)
  kind_back tree.int u = ap (λ n. kind_of names n (u ∷ [])) (number_fixed (codes "int") 1 (λ more. refl))
  kind_back tree.unary u = ap (λ n. kind_of names n (u ∷ [])) (number_fixed (codes "unary") 2 (λ more. refl))
  kind_back tree.grounded u = ap (λ n. kind_of names n (u ∷ [])) (number_fixed (codes "ground") 3 (λ more. refl))

  not_number : (n k : ℕ) → n ≢ k → (n == k) ≡ false
  not_number n k h = grind (arith, nat_tests)

  other_number : (name other : tree.Name) (k : ℕ) → Contains names name → name ≢ other → ((more : List tree.Name) → name_of (first_names ++ more) k ≡ other)
      → (number_of names name == k) ≡ false
  other_number name other k held h f =
      not_number (number_of names name) k (λ e. h (sym (held_back names name held) ∙ ap (name_of names) e ∙ fixed_name k other f))

  pub unknown_back : (name : tree.Name) (us : List CtxUse) (ns : List tree.Name) → Contains names name → names_of names us ≡ ns → IsUnknown name ns
      → kind_of names (number_of names name) us ≡ tree.unknown name ns
  unknown_back name us ns held e h = go us e h
    where
      named : tree.unknown (name_of names (number_of names name)) ns ≡ tree.unknown name ns
      named = ap (λ n. tree.unknown n ns) (held_back names name held)

      same : (us : List CtxUse) → names_of names us ≡ ns → tree.unknown (name_of names (number_of names name)) (names_of names us) ≡ tree.unknown name ns
      same us e = ap (λ ms. tree.unknown (name_of names (number_of names name)) ms) e ∙ named

      go : (us : List CtxUse) → names_of names us ≡ ns → IsUnknown name ns → kind_of names (number_of names name) us ≡ tree.unknown name ns
      go [] e h = same [] e
      go (u ∷ []) e h =
          let P : List tree.Name → Type 0 = IsUnknown name in
          let i = subst P (sym e) h in
          rw (other_number name (codes "int") 1 held i.0 (λ more. refl))
          (rw (other_number name (codes "unary") 2 held i.1 (λ more. refl))
          (rw (other_number name (codes "ground") 3 held i.2 (λ more. refl)) (same (u ∷ []) e)))
      go (u ∷ v ∷ us) e h = same (u ∷ v ∷ us) e
