-- The ends of ports, and following them.
use Rattle.std.proofs.Common.{ℕ, ◌≡◌, inl, inr, [], ◌∷◌, Option, Some, None, refl, arith, ap, sym, subst, length, ◌∙◌}
use Rattle.std.specs.Prelude.{true, false, slice_get, IfSome}
use Rattle.std.specs.Option.{option_map}
use Rattle.std.proofs.lemmas.List.{length_push}
use Rattle.std.proofs.lemmas.Option.{same_Some}
use Rattle.lmn_base.specs.Graphs.{Port}
use Rattle.lmn_base.proofs.Lists.{get_either, get_front, get_last}
use Rattle.lmn_store_heap.specs.Heap.{Heap, IsAtom, link_of, port_id}
use Rattle.lmn_instr_code.specs.declared.instr.AtomPort.{AtomPort}
use Rattle.lmn_instr_code.specs.declared.instr.Instr.TheVariants.{Deref}
use Rattle.lmn_machine_registers.specs.declared.registers.SetRegisters.{SetRegisters}
use Rattle.lmn_machine.specs.Searching.{AreHeldWhole, HeadInOrder, Stepped}
use Rattle.lmn_machine.specs.Jumping.{with_atom}
use Rattle.lmn_machine.specs.Outcomes.{IsEndWith}
use Rattle.lmn_machine.proofs.Stepping.{extends_itself}
use Rattle.lmn_machine.proofs.Choosing.{agrees_atom, extends_atom, no_part}

-- a port of the same atom
of_same : (x y k : ℕ) → x ≡ y → ◌≡◌ {A = Option Port} (Some (x, k)) (Some (y, k))
of_same x y k e = λ i. Some (e i, k)

module _ {A : Type 0} (atom : A → ℕ) (h : Heap) where
  -- the other end of a port, of which P holds
  pub end_with : (P : ℕ × ℕ → Type 0) (a port : ℕ) (p : A × ℕ) → IsAtom h (atom p.0) → link_of h a port ≡ Some (port_id atom p) → P (port_id atom p) → IsEndWith atom h P a port (Some p)
  end_with P a port p there link holds = record {
    there = there;
    ends = λ q e. link ∙ e;
    holds = λ q e. subst P (same_Some {A = Port} (port_id atom p) q e) holds;
    only = λ q e u. sym link ∙ e;
  }

  -- there is none, or P doesn't hold of it
  pub no_end_with : (P : ℕ × ℕ → Type 0) (a port : ℕ) (o : Option (A × ℕ)) → link_of h a port ≡ option_map (port_id atom) o → IfSome o (λ p. P (port_id atom p) → ⊥) → IsEndWith atom h P a port None
  no_end_with P a port o link none = record {
    there = tt;
    ends = λ q e. absurd (cc);
    holds = λ q e. absurd (cc);
    only = λ q e u. absurd (by o q none (sym link ∙ e) u);
  }
    where
      by : (o : Option (A × ℕ)) (q : ℕ × ℕ) → IfSome o (λ p. P (port_id atom p) → ⊥) → option_map (port_id atom) o ≡ Some q → P q → ⊥
      by None q none e u = absurd (cc)
      by (Some p) q none e u = none (subst P (sym (same_Some {A = Port} (port_id atom p) q e)) u)

module _ {A M : Type 0} (atom : A → ℕ) (membrane : M → ℕ) (h : Heap) where
  held_more : (g : SetRegisters A M) (b : A) → length g.parts ≡ 0 → AreHeldWhole atom membrane h g → IsAtom h (atom b) → AreHeldWhole atom membrane h (with_atom g b)
  held_more g b z t there = record {
    atoms = λ k x u. elim (get_either g.atoms b k x u) [ inl v ↦ t.atoms k x v | inr v ↦ subst (λ y. IsAtom h (atom y)) v.1 there ];
    membranes = t.membranes;
    parts = t.parts;
    whole = λ k x u. absurd (no_part g.parts z k x u);
    listed = t.listed;
  }

  -- a port that leads to the given port of an atom is followed
  pub followed : (g : SetRegisters A M) (p : AtomPort) (e : ℕ) (a b : A) → HeadInOrder (length g.atoms) (length g.membranes) (length g.parts) (length g.integers) (Deref (length g.atoms) p e ∷ []) → slice_get g.atoms p.atom ≡ Some a → AreHeldWhole atom membrane h g → IsAtom h (atom b) →
      link_of h (atom a) p.port ≡ Some (atom b, e) → Stepped atom membrane h g (with_atom g b) true (Deref (length g.atoms) p e)
  followed g p e a b order at held there link = record {
    held = held_more g b order.0.3 held there;
    extends = extends_atom atom membrane h g b;
    holds = λ u c s n t. ap (λ x. link_of h x p.port) (t.atoms p.atom a (get_front g.atoms (b ∷ []) p.atom a at)) ∙ (link ∙ of_same (atom b) (s.images.atom (length g.atoms)) e (sym (t.atoms (length g.atoms) b (get_last g.atoms b))));
    only = λ c s n t u. (
      refl,
      agrees_atom atom membrane h g b s t (sym (ap (λ q. q.0) (same_Some {A = Port} (atom b, e) (s.images.atom (length g.atoms), e) (sym link ∙ (ap (λ x. link_of h x p.port) (sym (t.atoms p.atom a at)) ∙ u))))),
    );
    sets = λ u. record { atoms = length_push g.atoms b; membranes = omega arith; parts = omega arith; integers = omega arith };
    order = λ u is v. subst (λ n. HeadInOrder n (length g.membranes) (length g.parts) (length g.integers) is) (sym (length_push g.atoms b)) v.1;
  }

  -- one that leads elsewhere, or nowhere, isn't
  pub not_followed : (g : SetRegisters A M) (p : AtomPort) (e : ℕ) (a : A) (o : Option (A × ℕ)) → slice_get g.atoms p.atom ≡ Some a → AreHeldWhole atom membrane h g → link_of h (atom a) p.port ≡ option_map (port_id atom) o → IfSome o (λ q. q.1 ≡ e → ⊥) →
      Stepped atom membrane h g g false (Deref (length g.atoms) p e)
  not_followed g p e a o at held link other = record {
    held = held;
    extends = extends_itself atom membrane h g;
    holds = λ u. absurd (cc);
    only = λ c s n t u. absurd (by o (s.images.atom (length g.atoms)) other (sym link ∙ (ap (λ x. link_of h x p.port) (sym (t.atoms p.atom a at)) ∙ u)));
    sets = λ u. absurd (cc);
    order = λ u. absurd (cc);
  }
    where
      by : (o : Option (A × ℕ)) (x : ℕ) → IfSome o (λ q. q.1 ≡ e → ⊥) → option_map (port_id atom) o ≡ Some (x, e) → ⊥
      by None x other u = absurd (cc)
      by (Some q) x other u = other (ap (λ r. r.1) (same_Some {A = Port} (port_id atom q) (x, e) u))
