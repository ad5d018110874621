-- Numbers of links, said in two ways; and where a membrane is.
use Rattle.std.proofs.Common.{ℕ, ◌≡◌, ◌≢◌, Option, Some, None, IsSome, refl, sym, ap, ◌∙◌, inl, inr}
use Rattle.std.proofs.lemmas.Option.{same_Some}
use Rattle.lmn_store_heap.specs.Heap.{Heap, link_of}
use Rattle.lmn_store_heap.specs.Sound.{Valid}
use Rattle.lmn_store_heap.specs.Solid.{IsNaming}
use Rattle.lmn_solid_bodies.specs.Names.{StandsPort, Names}
use Rattle.lmn_solid_bodies.specs.Tied.{partners}
use Rattle.lmn_base.specs.Graphs.{Port}
use Rattle.lmn_store_heap.proofs.Common.{is_atom_at as ported_atom, linked_atom}
use Rattle.lmn_store_heap.proofs.Replacing.{port_within}

stands : (h : Heap) → Valid h → (a i : ℕ) {p : ℕ × ℕ} → link_of h a i ≡ Some p → StandsPort h (a, i)
stands h v a i e = (v.settled.atoms a (linked_atom h a i e), port_within h a i _ e)

-- a naming names the links of ports in place
pub names_of_naming : (h : Heap) → Valid h → (name : ℕ → ℕ → ℕ) → IsNaming h name → Names h (λ p. name p.0 p.1)
names_of_naming h v name n = record {
  partner = λ p l. by p (link_of h p.0 p.1) refl (v.full p.0 p.1 l.1);
  only = λ p q lp lq e. elim (n.apart p.0 p.1 q.0 q.1 lp.1 lq.1 e) [ inl u ↦ inl (λ i. (u.0 i, u.1 i)) | inr u ↦ inr u ];
}
  where
    by : (p : Port) (o : Option Port) → link_of h p.0 p.1 ≡ o → IsSome o → (q : Port) × StandsPort h q × (partners h p ≡ Some q) × (q ≢ p) × (name q.0 q.1 ≡ name p.0 p.1)
    by p None e s = absurd (cc)
    by p (Some q) e s = (
      q,
      stands h v q.0 q.1 (v.sound.paired.back p.0 p.1 q.0 q.1 e),
      e,
      (λ w. v.sound.paired.apart p.0 p.1 (e ∙ ap Some w)),
      sym (n.joined p.0 p.1 q.0 q.1 e),
    )

-- and such names are a naming
pub naming_of_names : (h : Heap) → Valid h → (c : Port → ℕ) → Names h c → IsNaming h (λ a i. c (a, i))
naming_of_names h v c n = record {
  joined = λ a i b j e.
      let w = n.partner (a, i) (stands h v a i e) in
      let same : w.0 ≡ (b, j) = same_Some w.0 (b, j) (sym w.2 ∙ e) in
      sym w.4 ∙ ap c same;
  apart = λ a i b j l k e.
      elim (n.only (a, i) (b, j) (v.settled.atoms a (ported_atom h a i l), l) (v.settled.atoms b (ported_atom h b j k), k) e) [
        | inl u ↦ inl (ap (λ p. p.0) u, ap (λ p. p.1) u)
        | inr u ↦ inr u
      ];
}
