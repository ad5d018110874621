use Rattle.std.proofs.Common.{◌≡◌, ◌<◌, ◌≤◌, ℕ, suc, arith, sym, refl, subst, ◌∙◌, add-one}
use Rattle.lmn_ground_parts.specs.Walks.{net}
use Rattle.lmn_ground.specs.Marks.{first_marks, Sought}
use Rattle.lmn_ground.proofs.SoughtLaws.{weight, weight_back, sought_back, sought_root, sought_marked, root_port, backs}
use Rattle.lmn_ground.proofs.SoughtLaws.{halts_at, halts_end, no_end, one_end}
use Rattle.lmn_base.proofs.Truth.{never_both}
use Rattle.lmn_store_heap.proofs.Replacing.{port_within}
use Rattle.lmn_ground.proofs.seek.seek.Goals as goal

-- the two places are one
moved : (P : ℕ → ℕ → ℕ → Type 0) (d d' a a' i i' : ℕ) → d ≡ d' → a ≡ a' → i ≡ i' → P d a i → P d' a' i'
moved P d d' a a' i i' e f h p = subst (λ (x : ℕ). P x a' i') e (subst (λ (x : ℕ). P d x i') f (subst (λ (x : ℕ). P d a x) h p))

pub loop-at-smaller-then-at-arity : goal.loop-at-smaller-then-at-arity
loop-at-smaller-then-at-arity g c =
    let s = g.S.LinkStore.heap c.args.store.now in
    let e : c.loop-at.at.depth ≡ suc c.go_back-at.result.depth = c.go_back-at.ensures.back.higher ∙ add-one _ in
    moved (λ d a i. weight (net s) (first_marks s) d a i < weight (net s) (first_marks s) c.loop-at.at.depth (g.S.LinkStore.atom_id c.loop-at.at.atom) c.loop-at.at.port)
    _ _ _ _ _ _ refl (sym c.go_back-at.ensures.back.number) (sym c.go_back-at.ensures.back.port)
    (weight_back (net s) (first_marks s) c.loop-at.at.depth c.go_back-at.result.depth (g.S.LinkStore.atom_id c.loop-at.at.atom) c.loop-at.at.port e)

pub loop-at-preserved-then-at-arity : goal.loop-at-preserved-then-at-arity
loop-at-preserved-then-at-arity g c =
    let s = g.S.LinkStore.heap c.args.store.now in
    let e : c.loop-at.at.depth ≡ suc c.go_back-at.result.depth = c.go_back-at.ensures.back.higher ∙ add-one _ in
    let l = backs (net s) (first_marks s) (g.S.LinkStore.atom_id c.args.root.0, c.args.root.1) c.loop-at.at.depth (g.S.LinkStore.atom_id c.loop-at.at.atom) 0 c.go_back-at.result.depth e c.loop-at.invariant.sought.on_way in
    record {
      atom = c.go_back-at.ensures.atom;
      port = moved (λ d a i. i ≤ (net s).arity a) 0 0 _ _ _ _ refl (sym c.go_back-at.ensures.back.number) (sym c.go_back-at.ensures.back.port) (omega (arith, l));
      sought = moved (λ d a i. Sought (net s) (first_marks s) (g.S.LinkStore.atom_id c.args.root.0, c.args.root.1) c.args.from.depth (g.S.LinkStore.atom_id c.args.from.atom) c.args.from.port d a i)
          _ _ _ _ _ _ refl (sym c.go_back-at.ensures.back.number) (sym c.go_back-at.ensures.back.port)
          (sought_back _ _ _ _ _ _ _ c.go_back-at.result.depth _ _ e c.loop-at.invariant.sought (c.if-at-arity.true ∙ c.arity.ensures.arity));
    }

pub loop-at-preserved-then-is_root : goal.loop-at-preserved-then-is_root
loop-at-preserved-then-is_root g c =
    let s = g.S.LinkStore.heap c.args.store.now in
    let is = c.is_root.ensures.0 c.if-is_root.true in
    let l : c.loop-at.at.port < (net (g.S.LinkStore.heap c.args.store.now)).arity (g.S.LinkStore.atom_id c.loop-at.at.atom) = omega arith in
    record {
      atom = c.loop-at.invariant.atom;
      port = omega arith;
      sought = sought_root _ _ _ _ _ _ _ _ _ c.loop-at.invariant.sought l (root_port (net s) (first_marks s) _ _ _ _ c.loop-at.invariant.sought.on_way is.0 is.1);
    }

pub loop-at-preserved : goal.loop-at-preserved
loop-at-preserved g c =
    let l : c.loop-at.at.port < (net (g.S.LinkStore.heap c.args.store.now)).arity (g.S.LinkStore.atom_id c.loop-at.at.atom) = omega arith in
    record {
      atom = c.loop-at.invariant.atom;
      port = omega arith;
      sought = sought_marked _ _ _ _ _ _ _ _ _ _ _ c.loop-at.invariant.sought l c.in-Some.ensures.link c.in-Some.ensures.there.1 (λ z. c.if-mark-eq0.false (c.mark.ensures ∙ z));
    }

pub returns-then-mark-eq0-clause-halts : goal.returns-then-mark-eq0-clause-halts
returns-then-mark-eq0-clause-halts g c =
    halts_at (net (g.S.LinkStore.heap c.args.store.now)) (first_marks (g.S.LinkStore.heap c.args.store.now)) (g.S.LinkStore.atom_id c.args.root.0, c.args.root.1) c.loop-at.at.depth (g.S.LinkStore.atom_id c.loop-at.at.atom) c.loop-at.at.port c.loop-at.invariant.sought.on_way c.loop-at.invariant.port
    (λ f. c.if-at-arity.false (f ∙ sym c.arity.ensures.arity)) (λ e. never_both _ (c.is_root.ensures.1 e) c.if-is_root.false) (λ b j. one_end (first_marks (g.S.LinkStore.heap c.args.store.now)) c.in-Some.ensures.link (sym c.mark.ensures ∙ c.if-mark-eq0.true) b j)

pub returns-then-at-eq0-clause-halts : goal.returns-then-at-eq0-clause-halts
returns-then-at-eq0-clause-halts g c =
    halts_end (net (g.S.LinkStore.heap c.args.store.now)) (first_marks (g.S.LinkStore.heap c.args.store.now)) (g.S.LinkStore.atom_id c.args.root.0, c.args.root.1) c.loop-at.at.depth (g.S.LinkStore.atom_id c.loop-at.at.atom) c.loop-at.at.port c.if-at-eq0.true (c.if-at-arity.true ∙ c.arity.ensures.arity)
    (λ b j f. port_within (g.S.LinkStore.heap c.args.store.now) (g.S.LinkStore.atom_id c.loop-at.at.atom) c.loop-at.at.port (b, j) f)

pub returns-in-None-clause-halts : goal.returns-in-None-clause-halts
returns-in-None-clause-halts g c =
    halts_at (net (g.S.LinkStore.heap c.args.store.now)) (first_marks (g.S.LinkStore.heap c.args.store.now)) (g.S.LinkStore.atom_id c.args.root.0, c.args.root.1) c.loop-at.at.depth (g.S.LinkStore.atom_id c.loop-at.at.atom) c.loop-at.at.port c.loop-at.invariant.sought.on_way c.loop-at.invariant.port
    (λ f. c.if-at-arity.false (f ∙ sym c.arity.ensures.arity)) (λ e. never_both _ (c.is_root.ensures.1 e) c.if-is_root.false) (λ b j f. absurd (no_end c.in-None.ensures.link f))
