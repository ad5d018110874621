-- The ties of a body on a heap have the effect of ties on its ports.
use Rattle.std.proofs.Common.{ℕ, ◌<◌, ◌≡◌, ◌≢◌, ◌==◌, ◌&&◌, Bool, true, false, cond, List, [], ◌∷◌, ◌++◌, Option, Some, None, refl, sym, ap, subst, ◌∙◌, inl, inr}
use Rattle.std.proofs.lemmas.Bool.{eq-eqb, eqb-true}
use Rattle.std.specs.Prelude.{length}
use Rattle.lmn_store_heap.specs.Heap.{Heap, marks_of, linked, cleared, functor_of, arity_of, link_of, place_of, joined}
use Rattle.lmn_store_heap.specs.Sound.{Paired}
use Rattle.lmn_store_heap.specs.Splice.{relinked, unified, joined_to, joined_both}
use Rattle.lmn_store_heap.proofs.Ports.{joined_a, joined_b, joined_other, joined_arity, joined_paired, unify_differ}
use Rattle.lmn_store_heap.proofs.Listing.{joined_place}
use Rattle.lmn_store_heap.proofs.Replacing.{port_within, joined_functor}
use Rattle.lmn_congruence_splice.specs.Ports.{Joined, Coloured}
use Rattle.lmn_congruence_splice.specs.Ties.{Tie, newlink, relink, unify, Effect, Effects, done, next, first_of, second_of, IsNew, Live, TiesFit}
use Rattle.lmn_congruence_splice.proofs.Joining.{same_some as none_some}
use Rattle.lmn_congruence_splice.proofs.Splicing.{one_tie}
use Rattle.lmn_congruence_splice.specs.Classes.{body_ties}
use Rattle.lmn_congruence_splice.specs.Splice.{links, Splice, Fusion}
use Rattle.lmn_congruence_splice.specs.Splice as splice
use Rattle.lmn_congruence_splice.proofs.Fusions.{d as colour, before, fits, fusion}
use Rattle.lmn_solid_bodies.specs.Tied.{partners, tied, all_tied}
use Rattle.lmn_base.specs.Graphs.{Port}
use Rattle.lmn_congruence.specs.Process.{replace}
use Rattle.lmn_store_heap.proofs.Common.{linked_marks, cleared_marks}

-- All but the partners stays.
pub record SameItems (s t : Heap) : Type 0 where
  pub functors : (a : ℕ) → functor_of t a ≡ functor_of s a
  pub arities : (a : ℕ) → arity_of t a ≡ arity_of s a
  pub marks : (a : ℕ) → length (marks_of (t.atoms a)) ≡ length (marks_of (s.atoms a))
  pub places : (a : ℕ) → place_of t a ≡ place_of s a
  pub mems : t.mems ≡ s.mems
  pub new_atoms : t.new_atoms ≡ s.new_atoms
  pub new_mems : t.new_mems ≡ s.new_mems
  pub root : t.root ≡ s.root

-- a heap has the items that it has
pub same_items : (s : Heap) → SameItems s s
same_items s = record { functors = λ a. refl; arities = λ a. refl; marks = λ a. refl; places = λ a. refl; mems = refl; new_atoms = refl; new_mems = refl; root = refl }

-- the same items and then the same are the same
pub same_after : (s t u : Heap) → SameItems s t → SameItems t u → SameItems s u
same_after s t u g h = record {
  functors = λ a. h.functors a ∙ g.functors a;
  arities = λ a. h.arities a ∙ g.arities a;
  marks = λ a. h.marks a ∙ g.marks a;
  places = λ a. h.places a ∙ g.places a;
  mems = h.mems ∙ g.mems;
  new_atoms = h.new_atoms ∙ g.new_atoms;
  new_mems = h.new_mems ∙ g.new_mems;
  root = h.root ∙ g.root;
}

abbrev IsPort : Heap → Port → Type 0
IsPort s p = p.1 < arity_of s p.0

-- what a change of partners does to the rest
pub record Retied (t : Tie Port) (s u : Heap) : Type 0 where
  pub effect : Effect t (partners s) (partners u)
  pub paired : Paired u
  pub same : SameItems s u

pub apart_ports : (p q : Port) → p ≢ q → (p.0 ≡ q.0) × (p.1 ≡ q.1) → ⊥
apart_ports p q d w = d (λ t. (w.0 t, w.1 t))

joins_ports : (s : Heap) (p q : Port) → IsPort s p → IsPort s q → p ≢ q → Joined (partners s) p q (partners (joined s p.0 p.1 q.0 q.1))
joins_ports s p q rp rq d = record {
  first = joined_a s p.0 p.1 q.0 q.1 rp rq (apart_ports p q d);
  second = joined_b s p.0 p.1 q.0 q.1 rp rq (apart_ports p q d);
  others = λ r dp dq np nq. elim (joined_other s p.0 p.1 q.0 q.1 rp rq (apart_ports p q d) r.0 r.1 (apart_ports r p dp) (apart_ports r q dq)) [
    | inl w ↦ absurd (elim w.0 [ inl e ↦ np e | inr e ↦ nq e ])
    | inr w ↦ w.2
  ];
}

joined_marks : (s : Heap) (a i b j c : ℕ) → length (marks_of ((joined s a i b j).atoms c)) ≡ length (marks_of (s.atoms c))
joined_marks s a i b j c = ap (λ (xs : List ℕ). length xs)
    (linked_marks (linked (cleared (cleared s.atoms (link_of s a i)) (link_of s b j)) a i (Some (b, j))) b j (Some (a, i)) c
    ∙ linked_marks (cleared (cleared s.atoms (link_of s a i)) (link_of s b j)) a i (Some (b, j)) c
    ∙ cleared_marks (cleared s.atoms (link_of s a i)) (link_of s b j) c ∙ cleared_marks s.atoms (link_of s a i) c)

joined_items : (s : Heap) (p q : Port) → IsPort s p → IsPort s q → p ≢ q → SameItems s (joined s p.0 p.1 q.0 q.1)
joined_items s p q rp rq d = record {
  functors = joined_functor s p.0 p.1 q.0 q.1;
  arities = joined_arity s p.0 p.1 q.0 q.1 rp rq (apart_ports p q d);
  marks = joined_marks s p.0 p.1 q.0 q.1;
  places = joined_place s p.0 p.1 q.0 q.1;
  mems = refl;
  new_atoms = refl;
  new_mems = refl;
  root = refl;
}

paired_ports : (s : Heap) (p q : Port) → IsPort s p → IsPort s q → p ≢ q → Paired s → Paired (joined s p.0 p.1 q.0 q.1)
paired_ports s p q rp rq d h = joined_paired s p.0 p.1 q.0 q.1 rp rq (apart_ports p q d) h

partner_port : (s : Heap) → Paired s → (o x : Port) → partners s o ≡ Some x → IsPort s x
partner_port s h o x e = port_within s x.0 x.1 o (h.back o.0 o.1 x.0 x.1 e)

relinks : (s : Heap) (p o : Port) → Paired s → IsPort s p → partners s p ≡ None → Retied (relink p o) s (relinked s p.0 p.1 o.0 o.1)
relinks s p o h rp free = by (partners s o) refl
  where
    by : (x : Option Port) → partners s o ≡ x → Retied (relink p o) s (joined_to s p.0 p.1 x)
    by None e = record { effect = λ x f. absurd (let g : ◌≡◌ {A = Option Port} None (Some x) = sym e ∙ f in cc); paired = h; same = same_items s }
    by (Some x) e =
        let rx = partner_port s h o x e in
        let d : p ≢ x = λ f. let g : ◌≡◌ {A = Option Port} None (Some o) = sym free ∙ ap (partners s) f ∙ h.back o.0 o.1 x.0 x.1 e in absurd (cc) in
        record {
          effect = λ y f. subst (λ z. Joined (partners s) p z (partners (joined s p.0 p.1 x.0 x.1))) (none_some x y (sym e ∙ f)) (joins_ports s p x rp rx d);
          paired = paired_ports s p x rp rx d h;
          same = joined_items s p x rp rx d;
        }

unifies : (s : Heap) (g o : Port) → Paired s → g ≢ o → Retied (unify g o) s (unified s g.0 g.1 o.0 o.1)
unifies s g o h apart = by (partners s g) (partners s o) refl refl
  where
    none : (x : Port) → ◌≡◌ {A = Option Port} None (Some x) → ⊥
    none x e = absurd (cc)

    test : (x y : Port) → partners s g ≡ Some x → partners s o ≡ Some y → (b : Bool) → ((x.0 == o.0) && (x.1 == o.1)) ≡ b → Retied (unify g o) s (cond b s (joined s x.0 x.1 y.0 y.1))
    test x y e f true t =
        let same : x ≡ o = split (x.0 == o.0) (x.1 == o.1) refl refl t in
        record {
          effect = λ v w ev ew. ((λ c r. refl), (λ d. absurd (d (none_some v x (sym ev ∙ e) ∙ same))));
          paired = h;
          same = same_items s;
        }
      where
        split : (a b : Bool) → (x.0 == o.0) ≡ a → (x.1 == o.1) ≡ b → (a && b) ≡ true → x ≡ o
        split true true u v w = λ i. (eqb-true x.0 o.0 u i, eqb-true x.1 o.1 v i)
        split true false u v w = absurd (cc)
        split false b u v w = absurd (cc)
    test x y e f false t =
        let d : x ≢ y = λ c. unify_differ s g.0 g.1 o.0 o.1 x.0 x.1 y.0 y.1 (h.back g.0 g.1 x.0 x.1 e) (h.back o.0 o.1 y.0 y.1 f) apart c in
        let rx = partner_port s h g x e in
        let ry = partner_port s h o y f in
        record {
          effect = λ v w ev ew. (
            (λ c. absurd (let u : ((x.0 == o.0) && (x.1 == o.1)) ≡ true = same_yes (none_some x v (sym e ∙ ev) ∙ c) in let z : true ≡ false = sym u ∙ t in cc)),
            (λ c. subst (λ z. Joined (partners s) z w (partners (joined s x.0 x.1 y.0 y.1))) (none_some x v (sym e ∙ ev))
                (subst (λ z. Joined (partners s) x z (partners (joined s x.0 x.1 y.0 y.1))) (none_some y w (sym f ∙ ew)) (joins_ports s x y rx ry d))),
          );
          paired = paired_ports s x y rx ry d h;
          same = joined_items s x y rx ry d;
        }
      where
        same_yes : x ≡ o → ((x.0 == o.0) && (x.1 == o.1)) ≡ true
        same_yes c = rw (eq-eqb x.0 o.0 (ap (λ (w : Port). w.0) c), eq-eqb x.1 o.1 (ap (λ (w : Port). w.1) c)) refl

    by : (x y : Option Port) → partners s g ≡ x → partners s o ≡ y → Retied (unify g o) s (joined_both s o.0 o.1 x y)
    by None y e f = record { effect = λ v w ev ew. absurd (none v (sym e ∙ ev)); paired = h; same = same_items s }
    by (Some x) None e f = record { effect = λ v w ev ew. absurd (none w (sym f ∙ ew)); paired = h; same = same_items s }
    by (Some x) (Some y) e f = test x y e f ((x.0 == o.0) && (x.1 == o.1)) refl

-- a tie of ports of the heap, where the new ones have no partner yet
pub retied : (t : Tie Port) (s : Heap) → Paired s → first_of t ≢ second_of t → ((p : Port) → IsNew p t → IsPort s p × (partners s p ≡ None)) → Retied t s (tied s t)
retied (newlink p q) s h d n = record {
  effect = joins_ports s p q (n p (inl refl)).0 (n q (inr refl)).0 d;
  paired = paired_ports s p q (n p (inl refl)).0 (n q (inr refl)).0 d h;
  same = joined_items s p q (n p (inl refl)).0 (n q (inr refl)).0 d;
}
retied (relink p o) s h d n = relinks s p o h (n p refl).0 (n p refl).1
retied (unify g o) s h d n = unifies s g o h d

-- All ties of a body run on a heap, if they fit.
pub all_run : (F : Port → Type 0) (c : Port → ℕ) (ts : List (Tie Port)) (s : Heap) → Paired s → ((p : Port) → F p → IsPort s p) → TiesFit F c (partners s) ts → Coloured c (Live F ts) (partners s)
    → Effects ts (partners s) (partners (all_tied s ts)) × Paired (all_tied s ts) × SameItems s (all_tied s ts)
all_run F c [] s h port fit colours = (done, h, same_items s)
all_run F c (t ∷ ts) s h port fit colours =
    let one = retied t s h fit.apart.0 (λ p n. (port p (fit.made p (inl n)), fit.no_partner p (inl n))) in
    let after = one_tie F c (partners s) (partners (tied s t)) t ts fit colours one.effect in
    let rest = all_run F (λ r. replace (c (first_of t)) (c (second_of t)) (c r)) ts (tied s t) one.paired (λ p f. subst (λ n. p.1 < n) (sym (one.same.arities p.0)) (port p f)) after.1 after.0 in
    (next one.effect rest.0, rest.1, same_after s (tied s t) (all_tied (tied s t) ts) one.same rest.2)

-- The ties of a body make the fusion of its connectors on a heap, and change nothing but partners.
pub heap_fusion : (F : Port → Type 0) (c : Port → ℕ) (news olds : List (Port × ℕ)) (es : List (ℕ × ℕ)) (n : ℕ) (s : Heap) → Paired s → ((p : Port) → F p → IsPort s p)
    → Splice F c (partners s) news olds es → ((x : ℕ) → splice.IsOneOf x (links news ++ links olds) → x < n)
    → Fusion F c (partners (all_tied s (body_ties news olds es n))) news olds es × Paired (all_tied s (body_ties news olds es n)) × SameItems s (all_tied s (body_ties news olds es n))
heap_fusion F c news olds es n s h port w below =
    let run = all_run F (colour F c (partners s) news olds es n w below) (body_ties news olds es n) s h port (fits F c (partners s) news olds es n w below) (before F c (partners s) news olds es n w below) in
    (fusion F c (partners s) news olds es n w below (partners (all_tied s (body_ties news olds es n))) run.0, run.1, run.2)
