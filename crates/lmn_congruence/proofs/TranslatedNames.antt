-- Lists of names tell the labels of atoms apart.
use Rattle.std.proofs.Common.{ℕ, ◌≡◌, ◌≢◌, ◌<◌, ◌⊎◌, List, [], length, slice_index_or, refl, sym, ◌∙◌, ap, inl, inr, arith}
use Rattle.std.specs.Prelude.{codes, AllPairs}
use Rattle.lmn_base.specs.declared.functor.Label.{Label}
use Rattle.lmn_base.specs.declared.functor.Label.TheVariants.{Name, Int}
use Rattle.lmn_base.specs.declared.functor.Functor.{Functor}
use Rattle.lmn_base.specs.Solids.{atoms_of_region, connector}
use Rattle.lmn_base.specs.Names.{IsNames, HasNames, label_names}
use Rattle.lmn_congruence.specs.Rules as tree
use Rattle.lmn_congruence.specs.Translation.{name_of}
use Rattle.lmn_congruence.specs.TranslationLaws.{LabelsApart, NoSolidConnector}
use Rattle.std.proofs.lemmas.List.Elements.{All-cons}
use Rattle.lmn_base.proofs.Lists.{all_of_parts}
use Rattle.lmn_base.proofs.Numbers.{three_ways}

names_apart : (names : List tree.Name) (m n : ℕ) → AllPairs (λ a b. a ≢ b) names → m < length names → n < length names → name_of names m ≡ name_of names n → m ≡ n
names_apart names m n h l k e = go (three_ways m n)
  where
    go : (m < n) ⊎ ((m ≡ n) ⊎ (n < m)) → m ≡ n
    go (inl c) = absurd (h m n [] c k e)
    go (inr (inl c)) = c
    go (inr (inr c)) = absurd (h n m [] c l (sym e))

-- labels whose names the list has are one where their trees are one
pub labels_apart : LabelsApart
labels_apart names (Name m) (Name n) i h e = ap Name (names_apart names m n i.once (h 0 0 (omega arith)) (h 1 0 (omega arith)) (same_name e))
  where
    same_name : {a b : tree.Name} → tree.named a ≡ tree.named b → a ≡ b
    same_name e = cc e
labels_apart names (Name m) (Int z) i h e = absurd (cc e)
labels_apart names (Int y) (Name n) i h e = absurd (cc e)
labels_apart names (Int y) (Int z) i h e = cc e

first_name : (names : List tree.Name) → IsNames names → (name_of names 0 ≡ codes "=") × (0 < length names)
first_name names i = rw i.begins.1 (refl, omega arith)

is_connector : (f : Functor) → f.label ≡ Name 0 → f.arity ≡ 2 → f ≡ connector
is_connector f e e' = parts f.label f.arity e e'
  where
    parts : (l : Label) (n : ℕ) → l ≡ Name 0 → n ≡ 2 → record { label = l; arity = n } ≡ connector
    parts l n e e' = rw (e, e') refl

-- no atom in the region of a solid is a connector
pub no_solid_connector : NoSolidConnector
no_solid_connector names table s n k j d l p =
    let a = slice_index_or (atoms_of_region s.root) j d in
    let f = first_name names n.0 in
    let here : HasNames names (label_names a.functor.label) = all_of_parts (λ m. m < length names) (λ a. label_names a.functor.label) (atoms_of_region s.root) n.2 j d l in
    let e : Name 0 ≡ a.functor.label = labels_apart names (Name 0) a.functor.label n.0 (All-cons (λ m. m < length names) 0 (label_names a.functor.label) f.1 here) (ap tree.named f.0 ∙ sym p.0) in
    k.no_connector j d l (is_connector a.functor (sym e) (sym (k.arities j d l) ∙ p.1))
