-- Lemmas that several crates above cite.
use Rattle.lmn_base.proofs.Truth.{if_at_most as outer_if}
use Rattle.lmn_compile_head.specs.Heads.{EachInside}
use Rattle.lmn_solid_heads.specs.Heads.{HeadMembrane, inside_of, outermost_by, HeadTyped, membranes_of, typed_contexts_of}
use Rattle.lmn_solid_heads.specs.declared.items.HeadItem.{HeadItem}
use Rattle.lmn_solid_heads.specs.declared.items.HeadItem.TheVariants.{Atom, Membrane, Typed}
use Rattle.std.proofs.Common.{List, Some, [], arith, refl, suc, zero, ℕ, ◌+◌, ◌∷◌, ◌≡◌, ◌≤◌, None, Option, ap, length}
use Rattle.std.specs.Prelude.{map, slice_get, slice_index_or, ◌==◌}

-- the membrane in which another stands has no higher number
pub inside_less : (ms : List HeadMembrane) (i k : ℕ) → ((j : ℕ) (b : HeadMembrane) → slice_get ms j ≡ Some b → b.inside ≤ i + j) → slice_index_or (map (λ b. b.inside) ms) k 0 ≤ i + k
inside_less [] i k n = omega arith
inside_less (b ∷ ms) i zero n = n 0 b refl
inside_less (b ∷ ms) i (suc k) n =
    let r = inside_less ms (i + 1) k (λ j c e. let l = n (suc j) c e in omega (arith, l)) in omega (arith, r)

-- and neither has the one round it
pub above_less : (ms : List HeadMembrane) (k : ℕ) → ((j : ℕ) (b : HeadMembrane) → slice_get ms j ≡ Some b → b.inside ≤ j) → inside_of ms k ≤ k
above_less ms zero n = omega arith
above_less ms (suc k) n = let r = inside_less ms 0 k (λ j b e. let l = n j b e in omega (arith, l)) in omega (arith, r)

-- the outermost membrane round a membrane of a head has no higher number
pub outer_less : (fuel : ℕ) (ms : List HeadMembrane) (k : ℕ) → ((j : ℕ) (b : HeadMembrane) → slice_get ms j ≡ Some b → b.inside ≤ j) → outermost_by fuel ms k ≤ k
outer_less zero ms k n = omega arith
outer_less (suc fuel) ms k n = outer_if k (outermost_by fuel ms (inside_of ms k)) (inside_of ms k == 0) (let a = outer_less fuel ms (inside_of ms k) n in let b = above_less ms k n in omega (arith, a, b))

abbrev pub inside_or : Option HeadTyped → ℕ
inside_or None = 0
inside_or (Some t) = t.inside

pub typed_inside : (i : ℕ) (xs : List HeadItem) → EachInside i xs → (j : ℕ) (t : HeadTyped) → slice_get (typed_contexts_of xs) j ≡ Some t → t.inside ≤ i + length (membranes_of xs)
typed_inside i [] n j t e = absurd (cc)
typed_inside i (Atom f ls m ∷ xs) n j t e = typed_inside i xs n.1 j t e
typed_inside i (Typed p k l m ∷ xs) n zero t e = let l : m ≤ i = n.0 in let q : m ≡ t.inside = ap (λ o. inside_or o) e in omega arith
typed_inside i (Typed p k l m ∷ xs) n (suc j) t e = typed_inside i xs n.1 j t e
typed_inside i (Membrane m c1 c2 c3 ∷ xs) n j t e = let k = typed_inside (i + 1) xs n.1 j t e in omega (arith, k)
