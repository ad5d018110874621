-- The items of a flattened head: how its membranes are nested, and the arities of its atoms.
use Rattle.std.proofs.Common.{ℕ, zero, suc, ◌+◌, ◌<◌, ◌≡◌, ◌⊎◌, ◌==◌, List, [], ◌∷◌, ◌++◌, map, flat_map, sum, length, Some, refl, sym, ap, subst, ◌∙◌, arith}
use Rattle.std.specs.Prelude.{All, count_by, slice_get}
use Rattle.std.specs.List.{AllByRecursion}
use Rattle.std.proofs.lemmas.List.{append_assoc}
use Rattle.std.proofs.lemmas.List.Elements.{recursion_from_All}
use Rattle.std.proofs.lemmas.List.Sums.{sum_by-cons}
use Rattle.lmn_base.specs.declared.functor.Functor.{Functor}
use Rattle.lmn_base.specs.declared.level.Leaf.{Leaf}
use Rattle.lmn_base.specs.declared.level.Leaf.TheVariants as leaf
use Rattle.lmn_base.specs.declared.level.Level.{Level}
use Rattle.lmn_base.specs.declared.level.Level.TheFolds.{fold-roll-Level, ind-Level}
use Rattle.lmn_base.specs.declared.level.Occ.{Occ}
use Rattle.lmn_base.specs.Levels.{leaves_of, links_of}
use Rattle.lmn_base.specs.WellMade.{FitsArity}
use Rattle.lmn_guards.specs.declared.plan.TypeKind.{TypeKind}
use Rattle.lmn_solid_heads.specs.declared.items.HeadItem.{HeadItem}
use Rattle.lmn_solid_heads.specs.declared.items.HeadItem.TheVariants.{Atom, Typed, Membrane}
use Rattle.lmn_solid_heads.specs.Heads.{HeadAtom, HeadMembrane, atoms_of, membranes_of, times}
use Rattle.lmn_solid_heads.specs.Heads.{typed_contexts_of}
use Rattle.lmn_solid_heads.specs.Heads as heads
use Rattle.lmn_solid_heads.specs.Embeddings.{HasAtom}
use Rattle.lmn_solid_heads.specs.Flattening.{Unnumbered, leaf_items, head_membrane_items, flatten_step, unnumbered, items_of_head}
use Rattle.lmn_solid_bodies.specs.Items.{body_links}
use Rattle.lmn_solid_bodies.specs.Rules.{HeadNests, InsideHead}
use Rattle.lmn_solid_bodies.specs.Flattening.{body_items}
use Rattle.lmn_solid_bodies.specs.Laws.{FlattenedHeads, FlattenedAreLinked}
use Rattle.lmn_solid_bodies.proofs.BodyLinks.{links_kept}
use Rattle.lmn_congruence.proofs.TranslatedLinks.{counted as count_often}
use Rattle.lmn_base.proofs.Lists.{all_left, all_right}
use Rattle.lmn_solid_heads.proofs.Common.{times_append, times_places as times_often}
use Rattle.lmn_solid_heads.proofs.HeadLinks.{head_links}

-- What is asked of the items, in their order

-- the next membrane has the number n, and each item stands in one with a lesser number
abbrev NestsFrom : ℕ → List HeadItem → Type 0
NestsFrom n [] = Unit {0}
NestsFrom n (Atom f xs inside ∷ is) = (inside < n) × NestsFrom n is
NestsFrom n (Typed name kind x inside ∷ is) = (inside < n) × NestsFrom n is
NestsFrom n (Membrane inside c cl r ∷ is) = (inside < n) × NestsFrom (n + 1) is

abbrev Fit : List HeadItem → Type 0
Fit [] = Unit {0}
Fit (Atom f xs inside ∷ is) = (length xs ≡ f.arity) × Fit is
Fit (Typed name kind x inside ∷ is) = Fit is
Fit (Membrane inside c cl r ∷ is) = Fit is

nested : (n : ℕ) (is : List HeadItem) → NestsFrom n is → (i : ℕ) (b : HeadMembrane) → slice_get (membranes_of is) i ≡ Some b → b.inside < n + i
nested n [] w i b e = absurd (cc)
nested n (Atom f xs inside ∷ is) w i b e = nested n is w.1 i b e
nested n (Typed name kind x inside ∷ is) w i b e = nested n is w.1 i b e
nested n (Membrane inside c cl r ∷ is) w zero b e = let l = w.0 in let same : inside ≡ b.inside = (cc) in subst (λ m. m < n + 0) same (omega arith)
nested n (Membrane inside c cl r ∷ is) w (suc i) b e = let l = nested (n + 1) is w.1 i b e in omega arith

atoms_nested : (n : ℕ) (is : List HeadItem) → NestsFrom n is → (k : ℕ) (a : HeadAtom) → slice_get (atoms_of is) k ≡ Some a → a.inside < n + length (membranes_of is)
atoms_nested n [] w k a e = absurd (cc)
atoms_nested n (Atom f xs inside ∷ is) w zero a e = let l = w.0 in let same : inside ≡ a.inside = (cc) in subst (λ m. m < n + length (membranes_of is)) same (omega arith)
atoms_nested n (Atom f xs inside ∷ is) w (suc k) a e = atoms_nested n is w.1 k a e
atoms_nested n (Typed name kind x inside ∷ is) w k a e = atoms_nested n is w.1 k a e
atoms_nested n (Membrane inside c cl r ∷ is) w k a e = let l = atoms_nested (n + 1) is w.1 k a e in omega arith

typed_nested : (n : ℕ) (is : List HeadItem) → NestsFrom n is → (k : ℕ) (t : heads.HeadTyped) → slice_get (typed_contexts_of is) k ≡ Some t → t.inside < n + length (membranes_of is)
typed_nested n [] w k t e = absurd (cc)
typed_nested n (Atom f xs inside ∷ is) w k t e = typed_nested n is w.1 k t e
typed_nested n (Typed name kind x inside ∷ is) w zero t e = let l = w.0 in let same : inside ≡ t.inside = (cc) in subst (λ m. m < n + length (membranes_of is)) same (omega arith)
typed_nested n (Typed name kind x inside ∷ is) w (suc k) t e = typed_nested n is w.1 k t e
typed_nested n (Membrane inside c cl r ∷ is) w k t e = let l = typed_nested (n + 1) is w.1 k t e in omega arith

fits : (is : List HeadItem) → Fit is → (k : ℕ) (a : HeadAtom) → slice_get (atoms_of is) k ≡ Some a → length a.links ≡ a.functor.arity
fits [] w k a e = absurd (cc)
fits (Atom f xs inside ∷ is) w zero a e = let links : xs ≡ a.links = (cc) in let functor : f ≡ a.functor = (cc) in ap length (sym links) ∙ w.0 ∙ ap (λ (g : Functor). g.arity) functor
fits (Atom f xs inside ∷ is) w (suc k) a e = fits is w.1 k a e
fits (Typed name kind x inside ∷ is) w k a e = fits is w k a e
fits (Membrane inside c cl r ∷ is) w k a e = fits is w k a e

module _ (kind : ℕ → TypeKind) where
  abbrev plus_sizes : ℕ → List Level → ℕ
  plus_sizes next ls = next + sum (map (λ m. 1 + m.size) (map (unnumbered kind) ls))

  -- Nesting

  leaves_nest : (n inside : ℕ) (ls : List Leaf) (rest : List HeadItem) → inside < n → NestsFrom n rest → NestsFrom n (leaf_items kind inside ls ++ rest)
  leaves_nest n inside [] rest low r = r
  leaves_nest n inside (leaf.Atom f os p ∷ ls) rest low r = (low, leaves_nest n inside ls rest low r)
  leaves_nest n inside (leaf.Typed m o p ∷ ls) rest low r = (low, leaves_nest n inside ls rest low r)

  abbrev NestsAll : Level → Type 0
  NestsAll l = (inside next : ℕ) (rest : List HeadItem) → inside < next → NestsFrom (next + (unnumbered kind l).size) rest → NestsFrom next ((unnumbered kind l).items inside next ++ rest)

  abbrev InnerNest : List Level → Type 0
  InnerNest ls = (inside next : ℕ) (rest : List HeadItem) → inside < next → NestsFrom (plus_sizes next ls) rest → NestsFrom next (head_membrane_items inside next (map (unnumbered kind) ls) ++ rest)

  inner_nest : (ls : List ((l : Level) × NestsAll l)) → InnerNest (map (λ e. e.0) ls)
  inner_nest [] inside next rest low r = subst (λ m. NestsFrom m rest) (plus next) r
    where
      plus : (m : ℕ) → m + 0 ≡ m
      plus m = omega arith
  inner_nest (e ∷ ls) inside next rest low r =
      let size = (unnumbered kind e.0).size in
      let others = map (unnumbered kind) (map (λ (e : (l : Level) × NestsAll l). e.0) ls) in (
        low,
        subst (NestsFrom (next + 1)) (sym (append_assoc ((unnumbered kind e.0).items next (next + 1)) (head_membrane_items inside (next + 1 + size) others) rest))
            (e.1 next (next + 1) (head_membrane_items inside (next + 1 + size) others ++ rest) (omega arith)
            (inner_nest ls inside (next + 1 + size) rest (omega arith)
            (subst (λ m. NestsFrom m rest) (total next size (sum (map (λ m. 1 + m.size) others)) _ (sum_by-cons (λ (x : ℕ). x) (1 + size) (map (λ m. 1 + m.size) others))) r))),
      )
    where
      total : (a b d c : ℕ) → c ≡ 1 + b + d → a + c ≡ a + 1 + b + d
      total a b d c e = omega arith

  level_nests : (l : Level) → NestsAll l
  level_nests = ind-Level NestsAll (λ y z is.
      let inner : InnerNest y.membranes = subst (λ l. InnerNest l.membranes) is (inner_nest z.membranes) in
      rw (fold-roll-Level Unnumbered (flatten_step kind) y) (λ inside next rest low r.
      subst (NestsFrom next) (sym (append_assoc (leaf_items kind inside y.leaves) (head_membrane_items inside next (map (unnumbered kind) y.membranes)) rest))
      (leaves_nest next inside y.leaves _ low (inner inside next rest low r))))

  -- Arities

  leaves_fit : (inside : ℕ) (ls : List Leaf) (rest : List HeadItem) → AllByRecursion FitsArity ls → Fit rest → Fit (leaf_items kind inside ls ++ rest)
  leaves_fit inside [] rest a r = r
  leaves_fit inside (leaf.Atom f os p ∷ ls) rest a r = (as_many os ∙ a.0, leaves_fit inside ls rest a.1 r)
    where
      as_many : (os : List Occ) → length (map (λ o. o.link) os) ≡ length os
      as_many [] = refl
      as_many (o ∷ os) = let e = as_many os in omega arith
  leaves_fit inside (leaf.Typed m o p ∷ ls) rest a r = leaves_fit inside ls rest a.1 r

  abbrev FitAll : Level → Type 0
  FitAll l = (inside next : ℕ) (rest : List HeadItem) → AllByRecursion FitsArity (leaves_of l) → Fit rest → Fit ((unnumbered kind l).items inside next ++ rest)

  abbrev InnerFit : List Level → Type 0
  InnerFit ls = (inside next : ℕ) (rest : List HeadItem) → AllByRecursion FitsArity (flat_map (λ inner. inner) (map leaves_of ls)) → Fit rest → Fit (head_membrane_items inside next (map (unnumbered kind) ls) ++ rest)

  inner_fit : (ls : List ((l : Level) × FitAll l)) → InnerFit (map (λ e. e.0) ls)
  inner_fit [] inside next rest a r = r
  inner_fit (e ∷ ls) inside next rest a r =
      let size = (unnumbered kind e.0).size in
      let others = map (unnumbered kind) (map (λ (e : (l : Level) × FitAll l). e.0) ls) in
      let more = flat_map (λ (inner : List Leaf). inner) (map leaves_of (map (λ (e : (l : Level) × FitAll l). e.0) ls)) in
      subst Fit (sym (append_assoc ((unnumbered kind e.0).items next (next + 1)) (head_membrane_items inside (next + 1 + size) others) rest))
      (e.1 next (next + 1) (head_membrane_items inside (next + 1 + size) others ++ rest) (all_left FitsArity (leaves_of e.0) more a)
      (inner_fit ls inside (next + 1 + size) rest (all_right FitsArity (leaves_of e.0) more a) r))

  level_fits : (l : Level) → FitAll l
  level_fits = ind-Level FitAll (λ y z is.
      let inner : InnerFit y.membranes = subst (λ l. InnerFit l.membranes) is (inner_fit z.membranes) in
      rw (fold-roll-Level Unnumbered (flatten_step kind) y, fold-roll-Level (List Leaf) (λ l. l.leaves ++ flat_map (λ inner. inner) l.membranes) y) (λ inside next rest a r.
      let more = flat_map (λ (inner : List Leaf). inner) (map leaves_of y.membranes) in
      subst Fit (sym (append_assoc (leaf_items kind inside y.leaves) (head_membrane_items inside next (map (unnumbered kind) y.membranes)) rest))
      (leaves_fit inside y.leaves _ (all_left FitsArity y.leaves more a) (inner inside next rest (all_right FitsArity y.leaves more a) r))))

  -- Of a whole head

  no_more : {A : Type 0} (xs : List A) → xs ++ [] ≡ xs
  no_more [] = refl
  no_more (x ∷ xs) = ap (λ ys. x ∷ ys) (no_more xs)

  pub nests : (l : Level) → HeadNests (items_of_head kind l)
  nests l k b e = subst (λ m. b.inside < m) (sym e.1)
      (one_more b.inside e.0 (nested 1 (items_of_head kind l) (subst (NestsFrom 1) (no_more (items_of_head kind l)) (level_nests l 0 1 [] (omega arith) tt)) e.0 b e.2))
    where
      one_more : (a i : ℕ) → a < 1 + i → a < suc i
      one_more a i l = omega arith

  -- Items stand in membranes of the head, or in that of the rule.
  pub stand_inside : (l : Level) → InsideHead (items_of_head kind l)
  stand_inside l =
      let w : NestsFrom 1 (items_of_head kind l) = subst (NestsFrom 1) (no_more (items_of_head kind l)) (level_nests l 0 1 [] (omega arith) tt) in
      record { atoms = λ k a e. atoms_nested 1 (items_of_head kind l) w k a e; typed = λ k t e. typed_nested 1 (items_of_head kind l) w k t e }

  pub head_made : (l : Level) → All FitsArity (leaves_of l) → (k : ℕ) (a : HeadAtom) → HasAtom (items_of_head kind l) k a → length a.links ≡ a.functor.arity
  head_made l a = fits (items_of_head kind l) (subst Fit (no_more (items_of_head kind l)) (level_fits l 0 1 [] (recursion_from_All FitsArity (leaves_of l) a) tt))

-- a flattened head has the items of its level
pub flattened_heads : FlattenedHeads
flattened_heads kind l a = (nests kind l, head_made kind l a)

-- and each of its links stands as often
pub flattened_are_linked : FlattenedAreLinked
flattened_are_linked kind s k head body twice x = subst (λ n. (n ≡ 0) ⊎ (n ≡ 2)) total (twice x)
  where
    total : count_by (λ y. x == y) (links_of head ++ links_of body) ≡ times x (heads.links_of_head (items_of_head kind head)) + times x (body_links (body_items s k body))
    total =
        count_often x (links_of head ++ links_of body) ∙ sym (times_often x (links_of head ++ links_of body)) ∙ times_append x (links_of head) (links_of body)
        ∙ (λ i. sym (head_links kind head x) i + times x (sym (links_kept s k body) i))
