-- A body has an instance in which each link of the rule has as many places as in the body, those of the contexts are kept,
-- and each copy of a typed context has links of its own.
use Rattle.std.proofs.Common.{ℕ, List, map, refl, sym, ap, inl, inr, arith, ◌≡◌, ◌≢◌, ◌+◌, ◌≤◌, ◌<◌, ◌⊎◌, [], ◌∷◌, ◌++◌, ◌∙◌}
use Rattle.lmn_congruence.specs.FreeLinks.{link_bound}
use Rattle.lmn_congruence.specs.LinkedRules.{level_occurrences}
use Rattle.lmn_congruence.specs.Links.{places}
use Rattle.lmn_congruence.specs.Orders.{Put, Shuffle, here, more, none, there}
use Rattle.lmn_congruence.specs.Process.{Closed, OneToOneOn, Process, occurrences, renamed, together}
use Rattle.lmn_congruence.specs.Rules.{Context, Level, Name, closed_context, open_context}
use Rattle.lmn_reduction.specs.Assignments.{Assignment}
use Rattle.lmn_reduction.specs.Instances.{Instance}
use Rattle.lmn_reduction.specs.Parts.{Rooted}
use Rattle.lmn_congruence.proofs.Counts.{none_if_apart}
use Rattle.lmn_congruence.proofs.Crossings.{occurs_below}
use Rattle.lmn_congruence.proofs.Renaming.{occurrences_image, occurrences_none}
use Rattle.lmn_adequacy.specs.Accepted.{all_contexts, open_names}
use Rattle.lmn_adequacy.specs.Loose.{Plain}
use Rattle.lmn_adequacy.proofs.Embedding.{EvenMore}
use Rattle.lmn_adequacy.proofs.Exposing.{Source, found, missing, source}
use Rattle.lmn_adequacy.proofs.RawProcesses.{made}
use Rattle.lmn_adequacy.proofs.Skeleton.{copy_map, copy_one, copy_other, copy_root}
use Rattle.lmn_adequacy.proofs.Wires.{zero_or_two_even}
use Rattle.lmn_congruence_splice.specs.Splice.{of_rule, of_solid}
use Rattle.lmn_congruence_splice.proofs.Fusions.{apart_rule as even_not_odd, solid_once as odd_differs}

-- each link but the root stands in two places, or in none
abbrev pub Whole : Rooted → Type 0
Whole g = (z : ℕ) → z ≢ g.root → (occurrences z g.process ≡ 0) ⊎ (occurrences z g.process ≡ 2)

-- beside n places of the contexts, a link has two in a copy, and then it is one of the numbers from `from` up to `next`
pub record Copied (from next L n m : ℕ) : Type 0 where
  pub copies : ℕ
  pub is : m ≡ n + copies
  pub whole : (copies ≡ 0) ⊎ ((copies ≡ 2) × (from ≤ L) × (L < next))

-- what has no places in copies has those of the contexts alone
pub copied_none : (from next L n m : ℕ) → m ≡ n → Copied from next L n m
copied_none from next L n m e = record { copies = 0; is = omega (arith, e); whole = inl refl }

-- copies beside each other, with numbers one behind the other, are copies
pub copied_more : (from middle next L n n' m m' : ℕ) → from ≤ middle → middle ≤ next → Copied from middle L n m → Copied middle next L n' m' → Copied from next L (n + n') (m + m')
copied_more from middle next L n n' m m' b b' c d = record { copies = c.copies + d.copies; is = omega (arith, c.is, d.is); whole = go c.whole d.whole }
  where
    go : (c.copies ≡ 0) ⊎ ((c.copies ≡ 2) × (from ≤ L) × (L < middle)) → (d.copies ≡ 0) ⊎ ((d.copies ≡ 2) × (middle ≤ L) × (L < next)) → (c.copies + d.copies ≡ 0) ⊎ ((c.copies + d.copies ≡ 2) × (from ≤ L) × (L < next))
    go (inl e) (inl f) = inl (omega (arith, e, f))
    go (inl e) (inr f) = inr (omega (arith, e, f.0), omega (arith, f.1, b), f.2)
    go (inr e) (inl f) = inr (omega (arith, e.0, f), e.1, omega (arith, e.2, b'))
    go (inr e) (inr f) = absurd (clash e.2 f.1)
      where
        clash : L < middle → ¬ (middle ≤ L)
        clash i j = absurd (omega arith)

module _ (t : Assignment) (p : Plain t) where
  -- how often a link occurs in what open contexts stand for
  abbrev pub context_places : ℕ → List Name → ℕ
  context_places L ps = occurrences L (together (map (λ q. t.context_of (open_context q)) ps))

  pub context_places_put : (L : ℕ) {q : Name} {ps qs : List Name} → Put q ps qs → context_places L qs ≡ occurrences L (t.context_of (open_context q)) + context_places L ps
  context_places_put L here = refl
  context_places_put L (there k) = omega (arith, context_places_put L k)

  pub context_places_shuffle : (L : ℕ) {ps qs : List Name} → Shuffle (λ a b. a ≡ b) ps qs → context_places L ps ≡ context_places L qs
  context_places_shuffle L none = refl
  context_places_shuffle L (more e s k) = omega (arith, ap (λ i. occurrences L (t.context_of (open_context i))) e, context_places_shuffle L s, context_places_put L k)

  pub open_places_append : (L : ℕ) (ps qs : List Context) → context_places L (open_names (ps ++ qs)) ≡ context_places L (open_names ps) + context_places L (open_names qs)
  open_places_append L [] qs = omega arith
  open_places_append L (open_context q ∷ ps) qs = omega (arith, open_places_append L ps qs)
  open_places_append L (closed_context q ∷ ps) qs = open_places_append L ps qs

  -- beside those of open contexts a link has an even number of places in contexts
  pub odd_contexts : (L : ℕ) (ps : List Context) → EvenMore (occurrences (of_solid L) (together (map (made t).context_of ps))) (context_places L (open_names ps))
  odd_contexts L [] = record { half = 0; is = refl }
  odd_contexts L (open_context q ∷ ps) =
      let k = odd_contexts L ps in
      record { half = k.half; is = omega (arith, occurrences_image of_solid L (t.context_of (open_context q)) (λ z o e. odd_differs z L e), k.is) }
  odd_contexts L (closed_context q ∷ ps) =
      let k = odd_contexts L ps in
      let e = zero_or_two_even (occurrences L (t.context_of (closed_context q))) (p.closed q L) in
      record { half = e.0 + k.half; is = omega (arith, occurrences_image of_solid L (t.context_of (closed_context q)) (λ z o e. odd_differs z L e), e.1, k.is) }

  pub odd_not_even : (L : ℕ) (ys : List ℕ) → places (of_solid L) (map of_rule ys) ≡ 0
  odd_not_even L [] = refl
  odd_not_even L (y ∷ ys) = omega (arith, none_if_apart (of_solid L) (of_rule y) (λ e. even_not_odd y L (sym e)), odd_not_even L ys)

  -- `from` is the first number that no copy has used, `next` the first that none has used after this one
  pub record LevelMade (l : Level) (from : ℕ) : Type 0 where
    pub process : Process
    pub is : Instance (made t) l process
    pub count : (x : ℕ) → occurrences (of_rule x) process ≡ level_occurrences x l
    pub next : ℕ
    pub later : from ≤ next
    pub odd : (L : ℕ) → Copied from next L (context_places L (open_names (all_contexts l))) (occurrences (of_solid L) process)

  abbrev pub past : ℕ → ℕ → ℕ
  past N y = N + y

  pub past_differs : (N y z : ℕ) → past N y ≡ past N z → y ≡ z
  past_differs N y z e = omega (arith, e)

  -- the links of a copy of a closed process, with numbers from N on
  pub copied_closed : (N L : ℕ) (P : Process) → Closed P → Copied N (N + link_bound P) L 0 (occurrences L (renamed (past N) P))
  copied_closed N L P c = go (source (past N) P L)
    where
      two : (z : ℕ) → occurrences z P ≢ 0 → (occurrences z P ≡ 0) ⊎ (occurrences z P ≡ 2) → occurrences z P ≡ 2
      two z o (inl e) = absurd (o e)
      two z o (inr e) = e

      go : Source (past N) P L → Copied N (N + link_bound P) L 0 (occurrences L (renamed (past N) P))
      go (found z o e) =
          let n : occurrences (past N z) (renamed (past N) P) ≡ occurrences z P = occurrences_image (past N) z P (λ z' o' q. past_differs N z' z q) in
          record { copies = 2; is = ap (λ k. occurrences k (renamed (past N) P)) (sym e) ∙ n ∙ two z o (c z); whole = inr (refl, omega (arith, e), omega (arith, e, occurs_below P z o)) }
      go (missing h) = copied_none N (N + link_bound P) L 0 _ (occurrences_none (past N) L P h)

  -- the links of a copy whose links but the root have numbers from N on
  pub copied_links : (N y L : ℕ) (g : Rooted) → Whole g → Copied N (N + link_bound g.process) L 0 (occurrences (of_solid L) (renamed (copy_map t p g (past N) y) g.process))
  copied_links N y L g w = go (source (copy_map t p g (past N) y) g.process (of_solid L))
    where
      C : ℕ → ℕ
      C = copy_map t p g (past N) y

      one : OneToOneOn (copy_map t p g (past N) y) g.process
      one = copy_one t p g (past N) y (λ a b o o' e. past_differs N a b e)

      not_root : (z : ℕ) → copy_map t p g (past N) y z ≡ of_solid L → z ≢ g.root
      not_root z e f = absurd (even_not_odd y L (sym (copy_root t p g (past N) y z f) ∙ e))

      count_is : (z : ℕ) → occurrences z g.process ≢ 0 → copy_map t p g (past N) y z ≡ of_solid L → occurrences (of_solid L) (renamed (copy_map t p g (past N) y) g.process) ≡ occurrences z g.process
      count_is z o e = ap (λ k. occurrences k (renamed (copy_map t p g (past N) y) g.process)) (sym e) ∙ occurrences_image (copy_map t p g (past N) y) z g.process (λ z' o' q. one z' z o' o q)

      two : (z : ℕ) → occurrences z g.process ≢ 0 → (occurrences z g.process ≡ 0) ⊎ (occurrences z g.process ≡ 2) → occurrences z g.process ≡ 2
      two z o (inl e) = absurd (o e)
      two z o (inr e) = e

      go : Source (copy_map t p g (past N) y) g.process (of_solid L) → Copied N (N + link_bound g.process) L 0 (occurrences (of_solid L) (renamed (copy_map t p g (past N) y) g.process))
      go (found z o e) =
          let d = not_root z e in
          let k : N + z ≡ L = odd_differs (past N z) L (sym (copy_other t p g (past N) y z d) ∙ e) in
          record { copies = 2; is = count_is z o e ∙ two z o (w z d); whole = inr (refl, omega (arith, k), omega (arith, k, occurs_below g.process z o)) }
      go (missing h) = copied_none N (N + link_bound g.process) L 0 _ (occurrences_none (copy_map t p g (past N) y) (of_solid L) g.process h)
