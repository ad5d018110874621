-- The links of a body can be tied.
use Rattle.std.proofs.Common.{ℕ, ◌<◌, ◌≡◌, ◌≢◌, List, [], ◌∷◌, ◌++◌, map, Option, Some, None, IsSome, refl, sym, ap, subst, ◌∙◌, inl, inr}
use Rattle.std.specs.Option.{option_map}
use Rattle.lmn_store_heap.specs.Heap.{Heap, HeapAtom}
use Rattle.lmn_store_heap.specs.Sound.{Paired}
use Rattle.lmn_congruence_splice.specs.Ports.{Coloured}
use Rattle.lmn_congruence_splice.specs.Ties.{Tie, newlink, relink, unify, first_of, second_of, AnyOld, Live, TiesFit}
use Rattle.lmn_congruence_splice.specs.Classes.{ends_of_class, tie_of, ties_of}
use Rattle.lmn_congruence_splice.proofs.Splicing.{one_tie}
use Rattle.lmn_instr_code.specs.declared.instr.AtomPort.{AtomPort}
use Rattle.lmn_instr_code.specs.declared.instr.NewPort.{NewPort}
use Rattle.lmn_solid_bodies.specs.Tied.{partners, tied, all_tied}
use Rattle.lmn_solid_bodies.specs.Code.{link_code, links_code}
use Rattle.lmn_solid_bodies.specs.Running.{Registers, old_port, new_port}
use Rattle.lmn_solid_bodies.specs.Conditions.{StandsAsPort, CanRun}
use Rattle.lmn_solid_bodies.proofs.HeapTies.{SameItems, retied}
use Rattle.lmn_solid_bodies.proofs.Coding.{at_heap, ends_map, class_commits}
use Rattle.lmn_solid_bodies.proofs.RemovalsCan.{can_append}
use Rattle.lmn_base.specs.Graphs.{Port}
use Rattle.lmn_congruence.specs.Process.{replace}

-- a tie of ports can be made
abbrev pub TieCan : Tie Port → Heap → Type 0
TieCan (newlink p q) s = StandsAsPort s p × StandsAsPort s q × (p ≢ q)
TieCan (relink p h) s = StandsAsPort s p × StandsAsPort s h × ((x : Port) → partners s h ≡ Some x → p ≢ x)
TieCan (unify g h) s = StandsAsPort s g × StandsAsPort s h × (g ≢ h)

-- and so can several, one after the other
abbrev pub TiesCan : List (Tie Port) → Heap → Type 0
TiesCan [] s = Unit {0}
TiesCan (t ∷ ts) s = TieCan t s × TiesCan ts (tied s t)

stands_on : (s t : Heap) → SameItems s t → (p : Port) → StandsAsPort s p → StandsAsPort t p
stands_on s t e p w = (some (s.atoms p.0) (t.atoms p.0) (e.functors p.0) w.0, subst (λ n. p.1 < n) (sym (e.arities p.0)) w.1)
  where
    some : (o q : Option HeapAtom) → option_map (λ x. x.functor) q ≡ option_map (λ x. x.functor) o → IsSome o → IsSome q
    some None q e i = absurd (cc)
    some (Some x) None e i = absurd (cc)
    some (Some x) (Some y) e i = refl

one_can : (F : Port → Type 0) (c : Port → ℕ) (t : Tie Port) (ts : List (Tie Port)) (s : Heap) → Paired s → ((p : Port) → F p → StandsAsPort s p) → ((p : Port) → AnyOld p (t ∷ ts) → StandsAsPort s p) → TiesFit F c (partners s) (t ∷ ts) → TieCan t s
one_can F c (newlink p q) ts s h port old fit = (port p (fit.made p (inl (inl refl))), port q (fit.made q (inl (inr refl))), fit.apart.0)
one_can F c (relink p o) ts s h port old fit = (
  port p (fit.made p (inl refl)),
  old o (inl refl),
  λ x e q. let free : partners s p ≡ None = fit.no_partner p (inl refl) in
      let back : partners s x ≡ Some o = h.back o.0 o.1 x.0 x.1 e in
      let z : ◌≡◌ {A = Option Port} None (Some o) = sym free ∙ ap (partners s) q ∙ back in absurd (cc),
)
one_can F c (unify g o) ts s h port old fit = (old g (inl (inl refl)), old o (inl (inr refl)), fit.apart.0)

-- ties that fit a heap can be made
pub all_can : (F : Port → Type 0) (c : Port → ℕ) (ts : List (Tie Port)) (s : Heap) → Paired s → ((p : Port) → F p → StandsAsPort s p) → ((p : Port) → AnyOld p ts → StandsAsPort s p)
    → TiesFit F c (partners s) ts → Coloured c (Live F ts) (partners s) → TiesCan ts s
all_can F c [] s h port old fit colours = tt
all_can F c (t ∷ ts) s h port old fit colours =
    let one = retied t s h fit.apart.0 (λ p n. ((port p (fit.made p (inl n))).1, fit.no_partner p (inl n))) in
    let after = one_tie F c (partners s) (partners (tied s t)) t ts fit colours one.effect in (
      one_can F c t ts s h port old fit,
      all_can F (λ r. replace (c (first_of t)) (c (second_of t)) (c r)) ts (tied s t) one.paired (λ p f. stands_on s (tied s t) one.same p (port p f)) (λ p o. stands_on s (tied s t) one.same p (old p (inr o))) after.1 after.0,
    )

ties_append : (ts us : List (Tie Port)) (s : Heap) → TiesCan (ts ++ us) s → TiesCan ts s × TiesCan us (all_tied s ts)
ties_append [] us s w = (tt, w)
ties_append (t ∷ ts) us s w = let v = ties_append ts us (tied s t) w.1 in ((w.0, v.0), v.1)

class_can : (r : Registers) (ps : List NewPort) (hs : List AtomPort) (s : Heap) → TiesCan (tie_of (map (new_port r) ps) (map (old_port r) hs)) s → CanRun r (link_code ps hs) s
class_can r [] [] s w = tt
class_can r [] (g ∷ []) s w = tt
class_can r [] (g ∷ h ∷ []) s w = (w.0, λ t e. tt)
class_can r [] (g ∷ h ∷ i ∷ hs) s w = tt
class_can r (p ∷ []) [] s w = tt
class_can r (p ∷ []) (h ∷ []) s w = (w.0, λ t e. tt)
class_can r (p ∷ []) (g ∷ h ∷ hs) s w = tt
class_can r (p ∷ q ∷ []) [] s w = (w.0, λ t e. tt)
class_can r (p ∷ q ∷ []) (h ∷ hs) s w = tt
class_can r (p ∷ q ∷ x ∷ ps) hs s w = tt

-- so the instructions that make them can run
pub links_can : (r : Registers) (m : ℕ → ℕ) (news : List (NewPort × ℕ)) (olds : List (AtomPort × ℕ)) (zs : List ℕ) (s : Heap) → TiesCan (ties_of m (at_heap (new_port r) news) (at_heap (old_port r) olds) zs) s
    → CanRun r (links_code m news olds zs) s
links_can r m news olds [] s w = tt
links_can r m news olds (z ∷ zs) s w =
    let here = tie_of (ends_of_class m z (at_heap (new_port r) news)) (ends_of_class m z (at_heap (old_port r) olds)) in
    let v = ties_append here (ties_of m (at_heap (new_port r) news) (at_heap (old_port r) olds) zs) s w in
    let one : TiesCan (tie_of (map (new_port r) (ends_of_class m z news)) (map (old_port r) (ends_of_class m z olds))) s =
    subst (λ hs. TiesCan (tie_of (map (new_port r) (ends_of_class m z news)) hs) s) (ends_map (old_port r) m z olds) (subst (λ ps. TiesCan (tie_of ps (ends_of_class m z (at_heap (old_port r) olds))) s) (ends_map (new_port r) m z news) v.0) in
    let news_same = sym (ends_map (new_port r) m z news) in
    let olds_same = sym (ends_map (old_port r) m z olds) in
    let same : all_tied s (tie_of (map (new_port r) (ends_of_class m z news)) (map (old_port r) (ends_of_class m z olds))) ≡ all_tied s here = λ i. all_tied s (tie_of (news_same i) (olds_same i)) in
    can_append r (link_code (ends_of_class m z news) (ends_of_class m z olds)) (links_code m news olds zs) s (class_can r (ends_of_class m z news) (ends_of_class m z olds) s one)
    (λ t e. links_can r m news olds zs t (subst (TiesCan (ties_of m (at_heap (new_port r) news) (at_heap (old_port r) olds) zs))
    (sym (class_commits r (ends_of_class m z news) (ends_of_class m z olds) s t e ∙ same)) v.1))
