-- What the registers of a head give the code of a body.
use Rattle.std.proofs.Common.{ℕ, ◌≡◌, ◌<◌, Option, Some, None, IsSome, refl, arith, ap, sym, subst, length, ◌∙◌}
use Rattle.std.specs.Option.{option_map}
use Rattle.lmn_base.specs.declared.functor.Functor.{Functor}
use Rattle.lmn_store_heap.specs.Heap.{Heap, HeapAtom, IsAtom, partners_of, arity_of, port_id}
use Rattle.lmn_store_heap.specs.Sound.{Sound}
use Rattle.lmn_machine_registers.specs.declared.registers.SetRegisters.{SetRegisters}
use Rattle.lmn_machine_commit.specs.Registers as body
use Rattle.lmn_machine_commit.specs.Preparing.{AreAtHome, CanBeCopied, CanCopy}
use Rattle.lmn_machine.specs.Searching.{AreHeldWhole, IsHeldPart}

module _ {A M : Type 0} (atom : A → ℕ) (membrane : M → ℕ) (h : Heap) (g : SetRegisters A M) (held : AreHeldWhole atom membrane h g) where
  -- the handles are held
  pub held_for_body : body.AreHeld atom membrane h g
  held_for_body = record { atoms = held.atoms; membranes = held.membranes; parts = held.parts; listed = held.listed }

  -- each part stands in one membrane
  pub parts_home : AreAtHome atom h g.parts
  parts_home = λ k p e. (let w = (held.whole k p e).whole in (w.0, w.1.at_home))

  some_functor : (o : Option HeapAtom) → IsSome o → (f : Functor) × (option_map (λ x. x.functor) o ≡ Some f)
  some_functor None e = absurd (cc)
  some_functor (Some x) e = (x.functor, refl)

  -- a part that was found can be copied
  part_can : Sound h → (p : A × ℕ) → IsAtom h (atom p.0) → IsHeldPart atom h g.atoms p → CanBeCopied h (port_id atom p)
  part_can sound p there part = record {
    atom = there;
    port = part.port;
    whole = record {
      atoms = λ a w. tt;
      ends = λ a i w l d. (let x = some_functor (h.atoms a) (is_atom a i l) in
          part.whole.1.no_other_end a i x.0 w x.1 (subst (λ n. i < n) (sound.shaped.ports a x.0 x.1) l) d);
    };
    outside = λ b j w e. (let holder = part.holder in
        let back = sound.paired.back (atom holder.2.0) holder.1 (atom p.0) p.1 holder.2.2 in
        let same : atom holder.2.0 ≡ b = first_of (sym back ∙ e) in
        (part.apart b w).differ holder.0 holder.2.0 holder.2.1 same);
  }
    where
      is_atom : (a i : ℕ) → i < arity_of h a → IsAtom h a
      is_atom a i l = by (h.atoms a) l
        where
          by : (o : Option HeapAtom) → i < length (partners_of o) → IsSome o
          by None l = absurd (omega arith)
          by (Some x) l = refl

      first_of : {a i b j : ℕ} → ◌≡◌ {A = Option (ℕ × ℕ)} (Some (a, i)) (Some (b, j)) → a ≡ b
      first_of {a} {i} {b} {j} e = let q : ◌≡◌ {A = ℕ × ℕ} (a, i) (b, j) = cc in ap (λ (x : ℕ × ℕ). x.0) q

  pub parts_can : Sound h → CanCopy {A = A} {M = M} atom h g
  parts_can sound = λ k p e. part_can sound p (held.parts k p e) (held.whole k p e)
