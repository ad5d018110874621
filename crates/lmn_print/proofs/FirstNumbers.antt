-- The links of a heap have numbers of which those that are printed are the first ones, by first occurrence.
use Rattle.std.proofs.Common.{◌≡◌, ℕ, ◌+◌, ◌<◌, ◌⊎◌, inl, inr, List, [], ◌∷◌, map, refl, sym, ap, ◌∙◌, subst, arith}
use Rattle.lmn_base.specs.Links.{NumbersLinks}
use Rattle.lmn_congruence.specs.Orders.{Among, at_head, further}
use Rattle.lmn_print_folded.specs.Terms.{Folded, folded, FoldedMembranes, folded_links, membranes_links, renamed_membranes}
use Rattle.lmn_print_folded.proofs.Numbering.{renamed_links, some_numbered}
use Rattle.lmn_store_heap.specs.Heap.{Heap}
use Rattle.lmn_store_heap.specs.Solid.{IsNaming}
use Rattle.lmn_print_plain.proofs.SolidLinks.{numbers_below}
use Rattle.lmn_store_heap.proofs.Common.{decide_in, in_map}
use Rattle.lmn_base.specs.Lists.{In}
use Rattle.lmn_base.proofs.Common.{map_same as map_agrees}

in_among : (x : ℕ) (xs : List ℕ) → In x xs → Among x xs
in_among x [] i = absurd i
in_among x (y ∷ ys) (inl e) = subst (λ z. Among z (y ∷ ys)) e at_head
in_among x (y ∷ ys) (inr i) = further (in_among x ys i)

-- these links
record First (given : FoldedMembranes) : Type 0 where
  pub to : ℕ → ℕ
  pub count : ℕ
  pub apart : (x y : ℕ) → In x (membranes_links given) → In y (membranes_links given) → to x ≡ to y → x ≡ y
  pub low : (x : ℕ) → In x (membranes_links given) → to x < count
  pub numbers : NumbersLinks (map to (membranes_links given)) count

first : (given : FoldedMembranes) → First given
first given =
    let whole : Folded = folded [] given [] in
    let n = some_numbered whole in
    let numbers : NumbersLinks (map n.1.to (membranes_links given)) n.1.count = subst (λ xs. NumbersLinks xs n.1.count) (ap folded_links n.1.is ∙ renamed_links n.1.to whole) n.1.by_first_occurrence in
    record {
      to = n.1.to;
      count = n.1.count;
      apart = λ x y i j e. n.1.one_to_one x y (in_among x (membranes_links given) i) (in_among y (membranes_links given) j) e;
      low = λ x i. numbers_below 0 n.1.count (map n.1.to (membranes_links given)) (n.1.to x) numbers (in_map n.1.to x (membranes_links given) i);
      numbers = numbers;
    }

pick : {A : Type 0} → A ⊎ (A → ⊥) → ℕ → ℕ → ℕ
pick (inl a) u v = u
pick (inr d) u v = v

picked : {A : Type 0} (x : A ⊎ (A → ⊥)) (u v : ℕ) → (A × (pick x u v ≡ u)) ⊎ ((A → ⊥) × (pick x u v ≡ v))
unfolding pick
picked (inl a) u v = inl (a, refl)
picked (inr d) u v = inr (d, refl)

-- all links: others have numbers behind them
pub record FirstNumbers (given : FoldedMembranes) : Type 0 where
  pub to : ℕ → ℕ
  pub count : ℕ
  pub apart : (x y : ℕ) → to x ≡ to y → x ≡ y
  pub numbers : NumbersLinks (membranes_links (renamed_membranes to given)) count

-- folded forms can be numbered by first occurrence
pub first_numbers : (given : FoldedMembranes) → FirstNumbers given
first_numbers given = by (first given)
  where
    by : First given → FirstNumbers given
    by f =
        let to : ℕ → ℕ = λ x. pick (decide_in x (membranes_links given)) (f.to x) (f.count + x) in
        let cases : (x : ℕ) → (In x (membranes_links given) × (to x ≡ f.to x)) ⊎ ((In x (membranes_links given) → ⊥) × (to x ≡ f.count + x)) = λ x. picked (decide_in x (membranes_links given)) (f.to x) (f.count + x) in
        let same : map f.to (membranes_links given) ≡ map to (membranes_links given) = map_agrees f.to to (membranes_links given) (λ x i. elim (cases x) [ inl h ↦ sym h.1 | inr h ↦ absurd (h.0 i) ]) in
        record {
          to = to;
          count = f.count;
          apart = λ x y e. elim (cases x) [
            | inl h ↦ elim (cases y) [
              | inl g ↦ f.apart x y h.0 g.0 (sym h.1 ∙ e ∙ g.1)
              | inr g ↦ (let low = f.low x h.0 in let p = h.1 in let q = g.1 in absurd (omega (arith, low, p, q, e)))
            ]
            | inr h ↦ elim (cases y) [
              | inl g ↦ (let low = f.low y g.0 in let p = h.1 in let q = g.1 in absurd (omega (arith, low, p, q, e)))
              | inr g ↦ (let p = h.1 in let q = g.1 in omega (arith, p, q, e))
            ]
          ];
          numbers = subst (λ ys. NumbersLinks ys f.count) (same ∙ sym (renamed_links to (folded [] given []))) f.numbers;
        }

-- with other numbers, different ones for different links, it is a naming
pub renamed_naming : (s : Heap) (name : ℕ → ℕ → ℕ) (to : ℕ → ℕ) → ((x y : ℕ) → to x ≡ to y → x ≡ y) → IsNaming s name → IsNaming s (λ a i. to (name a i))
renamed_naming s name to apart n = record {
  joined = λ a i b j e. ap to (n.joined a i b j e);
  apart = λ a i b j l k e. n.apart a i b j l k (apart (name a i) (name b j) e);
}
