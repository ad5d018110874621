-- Traces: one for each chooser, budget and size, made of commits, and stopped only where no step is possible.
use Rattle.std.proofs.Common.{ℕ, List, length, [], ◌∷◌, ◌++◌, refl, sym, subst, arith, ◌≡◌, ◌+◌, ◌<◌, ◌≤◌, ◌↔◌, ◌⊎◌, inl, inr}
use Rattle.std.proofs.lemmas.List.{length-append}
use Rattle.lmn_congruence.specs.Process.{Closed}
use Rattle.lmn_congruence.specs.Regions.{Region, item_count_of_region, region_process}
use Rattle.lmn_congruence.specs.Same.{IsRenamed}
use Rattle.lmn_reduction.specs.Chains.{Commits, no_step, step_after}
use Rattle.lmn_reduction.specs.Commits.{Irreducible}
use Rattle.lmn_adequacy.specs.Accepted.{Accepted, Throughout}
use Rattle.lmn_adequacy.specs.Choice.{NextFrom, paths}
use Rattle.lmn_adequacy.specs.Embedding.{AllRules, HasEmbedding}
use Rattle.lmn_adequacy.specs.Laws.{TraceIsOne, EndIsOne, TraceCommits, TraceEnds, TraceStops}
use Rattle.lmn_adequacy.specs.Next.{Next}
use Rattle.lmn_adequacy.specs.Numbered.{IsNumbered}
use Rattle.lmn_adequacy.specs.Runs.{Chooser, Turn, Trace, loaded, turned, End, irreducible, budget_done, full, Ends, nothing_embeds, none_allowed, too_many}
use Rattle.lmn_adequacy.proofs.Heads.{all_rules_so}
use Rattle.lmn_adequacy.proofs.Numbering.{numbered_one, numbering, renamed_solid}
use Rattle.lmn_adequacy.proofs.OneChoice.{next_from_one}
use Rattle.lmn_adequacy.proofs.Results.{exact_choice, firings_commit, irreducible_exactly, next_is_solid, throughout_itself}

-- a solid whose rules are accepted, those in rules too
record Good (S : Region) : Type 0 where
  pub closed : Closed (region_process S)
  pub accepted : AllRules (Throughout Accepted) S

good_rules : {S : Region} → Good S → AllRules Accepted S
good_rules {S} g = all_rules_so throughout_itself S g.accepted

pub next_of : {from : ℕ} {S S' : Region} → NextFrom from S S' → Next S S'
next_of n = record { path = n.path; number = n.number; positions = n.positions; next = n.next }

-- where a firing is chosen a rule embeds
pub embeds_in : {from : ℕ} {S S' : Region} → NextFrom from S S' → HasEmbedding S
embeds_in n = record { path = n.path; number = n.number; positions = n.positions; embeds = n.chosen.embeds }

good_next : {from : ℕ} {S S' : Region} → Good S → NextFrom from S S' → Good S'
good_next {from} {S} {S'} g n = let u = next_is_solid S S' g.accepted (next_of n) in record { closed = u.0; accepted = u.1 }

pub one_longer : (before : List Region) (S : Region) → length (before ++ S ∷ []) ≡ length before + 1
one_longer before S = length-append before (S ∷ [])

turn_one : {chooser : Chooser} {n k : ℕ} {S T S' S'' : Region} → n ≡ k → S ≡ T → Good S → Turn chooser n S S' → Turn chooser k T S'' → S' ≡ S''
turn_one {chooser} {n} {k} {S} {T} {S'} {S''} d e g a b =
    let at : NextFrom (chooser n (length (paths S))) S S'' = subst (λ w. NextFrom (chooser n (length (paths w))) w S'') (sym e) (subst (λ w. NextFrom (chooser w (length (paths T))) T S'') (sym d) b.next) in
    let i : IsRenamed S' S'' = next_from_one (chooser n (length (paths S))) S S' S'' g.closed (good_rules g) a.next at in
    numbered_one S' S'' i a.numbered b.numbered

module _ (chooser : Chooser) (budget size : ℕ) (S : Region) where
  abbrev IsTrace : List Region → Region → Type 0
  IsTrace = Trace chooser budget size S

  good_trace : {before : List Region} {S' : Region} → Good S → IsTrace before S' → Good S'
  good_trace g loaded = g
  good_trace g (turned p l t i) = good_next (good_trace g p) t.next

  trace_one : {before others : List Region} {S' S'' : Region} → Good S → IsTrace before S' → IsTrace others S'' → length before ≡ length others → (before ≡ others) × (S' ≡ S'')
  trace_one g loaded loaded e = (refl, refl)
  trace_one g loaded (turned {before = others} {S' = R} q l t i) e = absurd (omega (arith, e, one_longer others R))
  trace_one g (turned {before = before} {S' = R} p l t i) loaded e = absurd (omega (arith, e, one_longer before R))
  trace_one g (turned {before = before} {S' = R} p l t i) (turned {before = others} {S' = R'} q l' t' i') e =
      let same : length before ≡ length others = omega (arith, e, one_longer before R, one_longer others R') in
      let u = trace_one g p q same in
      (alike u.0 u.1, turn_one same u.1 (good_trace g p) t t')
    where
      alike : {xs ys : List Region} {R R' : Region} → xs ≡ ys → R ≡ R' → xs ++ R ∷ [] ≡ ys ++ R' ∷ []
      alike d f = rw (d, f) refl

  trace_commit : {before : List Region} {S' : Region} → Good S → IsTrace before S' → Commits (length before) (region_process S) (region_process S')
  trace_commit g loaded = no_step
  trace_commit g (turned {before = before} {S' = R} {S'' = R'} p l t i) =
      let h = good_trace g p in
      subst (λ n. Commits n (region_process S) (region_process R')) (sym (one_longer before R)) (step_after (trace_commit g p) (firings_commit R R' h.closed (good_rules h) (next_of t.next)))

  -- ---- ends

  -- a trace goes on from its solid number n
  record GoesOn (n : ℕ) : Type 0 where
    pub solids : List Region
    pub solid : Region
    pub after : Region
    pub number : length solids ≡ n
    pub trace : IsTrace solids solid
    pub below : n < budget
    pub turn : Turn chooser n solid after
    pub few : item_count_of_region after ≤ size

  goes_on : {before : List Region} {S' : Region} → IsTrace before S' → (n : ℕ) → n < length before → GoesOn n
  goes_on loaded n h = absurd (omega (arith, h))
  goes_on (turned {before = before} {S' = R} {S'' = R'} p l t i) n h = by (below_or_at n (length before) (omega (arith, h, one_longer before R))) (λ b. goes_on p n b)
    where
      below_or_at : (n k : ℕ) → n < k + 1 → (n < k) ⊎ (k ≡ n)
      below_or_at n k h = grind arith

      by : (n < length before) ⊎ (length before ≡ n) → (n < length before → GoesOn n) → GoesOn n
      by (inl b) f = f b
      by (inr e) f = record { solids = before; solid = R; after = R'; number = e; trace = p; below = omega (arith, e, l); turn = subst (λ k. Turn chooser k R R') e t; few = i }

  -- what has ended doesn't go on
  ended : {before : List Region} {S' : Region} {e : End} → Good S → IsTrace before S' → Ends chooser budget size (length before) S' e → ¬ (GoesOn (length before))
  ended g p (nothing_embeds h) o = h (subst HasEmbedding (sym (trace_one g p o.trace (sym o.number)).1) (embeds_in o.turn.next))
  ended g p (none_allowed h e) o = absurd (omega (arith, e, o.below))
  ended g p (too_many {S' = R} l t m) o =
      let same : R ≡ o.after = turn_one refl (trace_one g p o.trace (sym o.number)).1 (good_trace g p) t o.turn in
      absurd (let few : item_count_of_region R ≤ size = subst (λ w. item_count_of_region w ≤ size) (sym same) o.few in omega (arith, few, m))

  one_end : {n k : ℕ} {T T' : Region} {e d : End} → n ≡ k → T ≡ T' → Ends chooser budget size n T e → Ends chooser budget size k T' d → e ≡ d
  one_end q s (nothing_embeds h) (nothing_embeds h') = refl
  one_end q s (nothing_embeds h) (none_allowed h' a) = absurd (h (subst HasEmbedding (sym s) h'))
  one_end q s (nothing_embeds h) (too_many l t m) = absurd (h (subst HasEmbedding (sym s) (embeds_in t.next)))
  one_end q s (none_allowed h a) (nothing_embeds h') = absurd (h' (subst HasEmbedding s h))
  one_end q s (none_allowed h a) (none_allowed h' a') = refl
  one_end q s (none_allowed h a) (too_many l t m) = absurd (omega (arith, q, a, l))
  one_end q s (too_many l t m) (nothing_embeds h') = absurd (h' (subst HasEmbedding s (embeds_in t.next)))
  one_end q s (too_many l t m) (none_allowed h a) = absurd (omega (arith, q, a, l))
  one_end q s (too_many l t m) (too_many l' t' m') = refl

  ends_one : {before others : List Region} {S' S'' : Region} {e d : End} → Good S →
      IsTrace before S' → Ends chooser budget size (length before) S' e → IsTrace others S'' → Ends chooser budget size (length others) S'' d →
      (before ≡ others) × (S' ≡ S'') × (e ≡ d)
  ends_one {before} {others} {S'} {S''} {e} {d} g p a q b = by (in_order (length before) (length others))
    where
      in_order : (n k : ℕ) → (n ≡ k) ⊎ ((n < k) ⊎ (k < n))
      in_order n k = grind arith

      by : (length before ≡ length others) ⊎ ((length before < length others) ⊎ (length others < length before)) → (before ≡ others) × (S' ≡ S'') × (e ≡ d)
      by (inl s) = let u = trace_one g p q s in (u.0, u.1, one_end s u.1 a b)
      by (inr (inl l)) = absurd (ended g p a (goes_on q (length before) l))
      by (inr (inr l)) = absurd (ended g q b (goes_on p (length others) l))

good : {S : Region} → Closed (region_process S) → AllRules (Throughout Accepted) S → Good S
good c h = record { closed = c; accepted = h }

-- a chooser, a budget and a size give one trace of a solid
pub trace_is_one : TraceIsOne
trace_is_one chooser budget size S before others S' S'' c h p q e = trace_one chooser budget size S (good c h) p q e

-- two traces that have come to an end are the same, and have one end
pub end_is_one : EndIsOne
end_is_one chooser budget size S before others S' S'' e d c h p a q b = ends_one chooser budget size S (good c h) p a q b

-- a trace is a chain of commits, and its last solid is one
pub trace_commits : TraceCommits
trace_commits chooser budget size S before S' c h p = let g = good_trace chooser budget size S (good c h) p in (trace_commit chooser budget size S (good c h) p, g.closed, g.accepted)

-- it ends irreducible exactly where the process is
pub trace_ends : TraceEnds
trace_ends chooser budget size S before S' e c h p a = ((λ i. into i a), (λ i. back i a))
  where
    g : Good S'
    g = good_trace chooser budget size S (good c h) p

    stuck : Irreducible (region_process S') ↔ (¬ (HasEmbedding S'))
    stuck = irreducible_exactly S' g.closed (good_rules g)

    not_budget : ¬ (budget_done ≡ irreducible)
    not_budget q = cc q

    not_full : ¬ (full ≡ irreducible)
    not_full q = cc q

    into : {d : End} → d ≡ irreducible → Ends chooser budget size (length before) S' d → Irreducible (region_process S')
    into i (nothing_embeds n) = stuck.1 n
    into i (none_allowed m q) = absurd (not_budget i)
    into i (too_many l t m) = absurd (not_full i)

    back : {d : End} → Irreducible (region_process S') → Ends chooser budget size (length before) S' d → d ≡ irreducible
    back i (nothing_embeds n) = refl
    back i (none_allowed m q) = absurd (stuck.0 i m)
    back i (too_many l t m) = absurd (stuck.0 i (embeds_in t.next))

numbered_next : {from : ℕ} {S S' : Region} → NextFrom from S S' → (S'' : Region) × NextFrom from S S'' × IsNumbered S''
numbered_next {from} {S} {S'} n =
    let u = numbering S' in
    (u.0, record { path = n.path; number = n.number; positions = n.positions; chosen = n.chosen; next = record { raw = n.next.raw; fires = n.next.fires; fuses = renamed_solid n.next.fuses u.1 } }, u.2)

-- and there is no further turn exactly where the process is irreducible
pub trace_stops : TraceStops
trace_stops chooser budget size S before S' c h p = (
  (λ i u. exact.0 i (u.0, u.1.next)),
  (λ stuck. exact.1 (λ a. let b = numbered_next a.1 in stuck (b.0, record { next = b.1; numbered = b.2 }))),
)
  where
    g : Good S'
    g = good_trace chooser budget size S (good c h) p

    from : ℕ
    from = chooser (length before) (length (paths S'))

    exact : Irreducible (region_process S') ↔ (¬ ((R : Region) × NextFrom (chooser (length before) (length (paths S'))) S' R))
    exact = exact_choice (chooser (length before) (length (paths S'))) S' g.closed (good_rules g)
