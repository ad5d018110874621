-- All numbers are taken back, atom by atom.
use Rattle.std.proofs.Common.{◌≡◌, ℕ, ◌<◌, ◌⊎◌, inl, inr, Option, Some, None, refl, sym, subst}
use Rattle.std.specs.Option.{option_map}
use Rattle.lmn_store_heap.specs.Heap.{Heap, arity_of, mark_of, PortsUnmarked}
use Rattle.lmn_store_heap.specs.Lists.{from, after}
use Rattle.lmn_store_heap.specs.Sound.{Forest, flat, IsTree, Valid}
use Rattle.lmn_print_plain.specs.Numbers.{printed_atoms, Remarks}
use Rattle.lmn_print_plain.proofs.MarkLemmas.{arity_same, tree_same, remarks_none, remarks_more}
use Rattle.lmn_print_plain.proofs.NumberingLemmas.{behind_before}
use Rattle.lmn_print_plain.proofs.OrderLemmas.{printed_all}
use Rattle.lmn_store_heap.proofs.Common.{is_atom_at as port_there}
use Rattle.lmn_base.specs.Lists.{In}

-- The ports of all atoms but those that are still to come are cleared.
pub record Clearing (s t : Heap) (f : Forest) (next : Option ℕ) : Type 0 where
  pub marks : Remarks s t
  pub left : (a i : ℕ) → i < arity_of s a → (mark_of t a i ≡ 0) ⊎ In a (from next (printed_atoms s (flat f)))

-- at first no marks are cleared
pub clearing_first : (s : Heap) → Valid s → (f : Forest) → IsTree s f → (next : Option ℕ) → from next (printed_atoms s (flat f)) ≡ printed_atoms s (flat f) → Clearing s s f next
clearing_first s valid f t next e = record {
  marks = remarks_none s;
  left = λ a i l. inr (subst (In a) (sym e) (printed_all s valid f t a (port_there s a i l)));
}

-- then those of one atom more
pub clearing_more : (s t u : Heap) (f : Forest) (a : ℕ) (next : Option ℕ) → Clearing s t f (Some a) → Remarks t u
    → ((i : ℕ) → i < arity_of t a → mark_of u a i ≡ 0) → ((b i : ℕ) → i < arity_of t b → mark_of t b i ≡ 0 → mark_of u b i ≡ 0)
    → from next (printed_atoms s (flat f)) ≡ after a (printed_atoms s (flat f)) → Clearing s u f next
clearing_more s t u f a next c r done others behind = record {
  marks = remarks_more s t u c.marks r;
  left = λ b i l.
      let low : i < arity_of t b = subst (λ n. i < n) (sym (arity_same s t c.marks b)) l in
      by b i low (c.left b i l);
}
  where
    by : (b i : ℕ) → i < arity_of t b → (mark_of t b i ≡ 0) ⊎ In b (from (Some a) (printed_atoms s (flat f))) → (mark_of u b i ≡ 0) ⊎ In b (from next (printed_atoms s (flat f)))
    by b i l (inl z) = inl (others b i l z)
    by b i l (inr (inl q)) = inl (subst (λ x. mark_of u x i ≡ 0) q (done i (subst (λ x. i < arity_of t x) (sym q) l)))
    by b i l (inr (inr j)) = inr (subst (In b) (sym behind) j)

-- one atom is cleared, and the next is found
pub clearing_next : {A : Type 0} (id : A → ℕ) (s t u : Heap) (f : Forest) → IsTree s f → (a : A) (now next : Option A) → now ≡ Some a → Clearing s t f (option_map id now) → Remarks t u
    → ((i : ℕ) → i < arity_of t (id a) → mark_of u (id a) i ≡ 0) → ((b i : ℕ) → i < arity_of t b → mark_of t b i ≡ 0 → mark_of u b i ≡ 0)
    → ((g : Forest) → IsTree u g → from (option_map id next) (printed_atoms u (flat g)) ≡ after (id a) (printed_atoms u (flat g))) → Clearing s u f (option_map id next)
clearing_next id s t u f tree a now next is c r done others h =
    clearing_more s t u f (id a) (option_map id next) (subst (λ o. Clearing s t f (option_map id o)) is c) r done others
    (let whole = remarks_more s t u c.marks r in behind_before s u whole f (id a) (option_map id next) (h f (tree_same s u whole f tree)))

-- no atom is left
pub clearing_last : {A : Type 0} (id : A → ℕ) (s t : Heap) (f : Forest) (now : Option A) → ((a : A) → now ≡ Some a → ⊥) → Clearing s t f (option_map id now) → PortsUnmarked t
clearing_last id s t f None none c a i l = elim (c.left a i (subst (λ n. i < n) (arity_same s t c.marks a) l)) [
  | inl z ↦ z
  | inr j ↦ absurd j
]
clearing_last id s t f (Some b) none c a i l = absurd (none b refl)
