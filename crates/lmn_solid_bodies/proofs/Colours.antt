-- Colours of the ports inside copies, beside those of a heap.
use Rattle.std.proofs.Common.{ℕ, zero, suc, ◌+◌, ◌-◌, ◌≡◌, ◌≢◌, ◌⊎◌, ◌==◌, Bool, true, false, cond, not, List, [], ◌∷◌, Option, Some, None, IsSome, refl, sym, ap, ◌∙◌, inl, inr, arith}
use Rattle.std.specs.Prelude.{min, slice_index_or}
use Rattle.std.proofs.lemmas.Bool.{cases_eq, eqb-true}
use Rattle.std.proofs.Math.Nat.{min_comm}
use Rattle.lmn_store_heap.specs.Heap.{Heap, HeapAtom, IsAtom}
use Rattle.lmn_store_heap.specs.Sound.{Paired}
use Rattle.lmn_ground_parts.specs.Walks.{is_in}
use Rattle.lmn_solid_heads.specs.declared.items.HeadItem.{HeadItem}
use Rattle.lmn_congruence_splice.specs.Splice.{of_rule, of_solid}
use Rattle.lmn_instr_code.specs.declared.instr.AtomPort.{AtomPort}
use Rattle.lmn_solid_bodies.specs.declared.items.BodyItem.{BodyItem}
use Rattle.lmn_solid_bodies.specs.Tied.{partners}
use Rattle.lmn_solid_bodies.specs.Names.{StandsPort, Names}
use Rattle.lmn_solid_bodies.specs.Items.{old_ports}
use Rattle.lmn_solid_bodies.specs.Running.{Registers, old_port}
use Rattle.lmn_solid_bodies.specs.Within.{FiresWithin}
use Rattle.lmn_solid_bodies.proofs.Brought.{Brings, brought_old, atom_not_none}
use Rattle.lmn_solid_bodies.proofs.Numbering.{one_link}
use Rattle.lmn_store_heap.proofs.Replacing.{port_within}
use Rattle.std.specs.Option.{option_and_then}
use Rattle.lmn_base.specs.Graphs.{Port}
use Rattle.lmn_store_heap.proofs.Common.{is_atom_at}
use Rattle.lmn_base.proofs.Common.{lesser, port_number}
use Rattle.lmn_congruence_splice.specs.Splice as splice
use Rattle.lmn_store_heap.specs.Heap as heap
use Rattle.lmn_base.specs.Lists.{In}
use Rattle.lmn_ground_parts.proofs.AnswerLaws.{is_in_true}

-- ports of new atoms have odd colours, by their links in s; the others the even ones, by their colours
abbrev pub beside : (Port → ℕ) → Heap → List ℕ → Port → ℕ
beside c s new p = cond (is_in new p.0) (suc (lesser p (partners s p) + lesser p (partners s p))) (c p + c p)

in_false : (xs : List ℕ) (a : ℕ) → (In a xs → ⊥) → is_in xs a ≡ false
in_false [] a o = refl
in_false (x ∷ xs) a o = by (x == a) refl (in_false xs a (λ i. o (inr i)))
  where
    by : (t : Bool) → (x == a) ≡ t → is_in xs a ≡ false → cond t true (is_in xs a) ≡ false
    by true e f = absurd (o (inl (eqb-true x a e)))
    by false e f = f

twice_one : (a b : ℕ) → a + a ≡ b + b → a ≡ b
twice_one a b e = omega (arith, e)

odd_even : (a b : ℕ) → suc (a + a) ≡ b + b → ⊥
odd_even a b e = omega (arith, e)

module _ (h s : Heap) (new : List ℕ) (b : Brings h s new) (paired_h : Paired h) (paired : Paired s) (c : Port → ℕ) (names : Names h c) where
  abbrev d : Port → ℕ
  d = beside c s new

  stands_atom : (p : Port) → StandsPort h p → IsAtom h p.0
  stands_atom p st = is_atom_at h p.0 p.1 st.1

  pub old_colour : (p : Port) → IsAtom h p.0 → d p ≡ c p + c p
  old_colour p is = ap (λ t. cond t (suc (lesser p (partners s p) + lesser p (partners s p))) (c p + c p)) (in_false new p.0 (brought_old b p.0 is).0)

  inner_colour : (p q : Port) → In p.0 new → partners s p ≡ Some q → d p ≡ suc (min (port_number p) (port_number q) + min (port_number p) (port_number q))
  inner_colour p q i e =
      ap (λ t. cond t (suc (lesser p (partners s p) + lesser p (partners s p))) (c p + c p)) (is_in_true p.0 new i)
      ∙ ap (λ o. suc (lesser p o + lesser p o)) e

  -- the partner of a new atom is new
  pub partner_new : (p q : Port) → In p.0 new → partners s p ≡ Some q → In q.0 new
  partner_new p q i e = by (decide q.0 new)
    where
      decide : (a : ℕ) (xs : List ℕ) → In a xs ⊎ (In a xs → ⊥)
      decide a [] = inr (λ i. i)
      decide a (x ∷ xs) = elim (cases_eq x a) [
        | inl e ↦ inl (inl e)
        | inr d ↦ elim (decide a xs) [ inl i ↦ inl (inr i) | inr o ↦ inr (λ j. elim j [ inl e ↦ d e | inr i ↦ o i ]) ]
      ]

      by : In q.0 new ⊎ (In q.0 new → ⊥) → In q.0 new
      by (inl j) = j
      by (inr o) =
          let back : partners s q ≡ Some p = paired.back p.0 p.1 q.0 q.1 e in
          let in_h : partners h q ≡ Some p = ap (λ (x : Option HeapAtom). slice_index_or (heap.partners_of x) q.1 None) (sym (b.others q.0 o)) ∙ back in
          let is = is_atom_at h p.0 p.1 (port_within h p.0 p.1 q (paired_h.back q.0 q.1 p.0 p.1 in_h)) in
          atom_not_none (h.atoms p.0) (b.fresh p.0 i) is

  pub names_beside : Names h d
  names_beside = record {
    partner = λ p st. let w = names.partner p st in (w.0, w.1, w.2, w.3, old_colour w.0 (stands_atom w.0 w.1) ∙ (λ t. w.4 t + w.4 t) ∙ sym (old_colour p (stands_atom p st)));
    only = λ p q sp sq e. names.only p q sp sq (twice_one (c p) (c q) (sym (old_colour p (stands_atom p sp)) ∙ e ∙ old_colour q (stands_atom q sq)));
  }

  pub same_beside : (p q : Port) → In p.0 new → partners s p ≡ Some q → d q ≡ d p
  same_beside p q i e =
      inner_colour q p (partner_new p q i e) (paired.back p.0 p.1 q.0 q.1 e) ∙ ap (λ k. suc (k + k)) (min_comm (port_number q) (port_number p)) ∙ sym (inner_colour p q i e)

  pub only_beside : (p q x y : Port) → In p.0 new → In q.0 new → partners s p ≡ Some x → partners s q ≡ Some y → d p ≡ d q → (p ≡ q) ⊎ (partners s p ≡ Some q)
  only_beside p q x y i j ex ey e =
      one_link s (λ p q e. paired.back p.0 p.1 q.0 q.1 e) p q x y ex ey
      (twice_one (min (port_number p) (port_number x)) (min (port_number q) (port_number y)) (less (min (port_number p) (port_number x) + min (port_number p) (port_number x)) (min (port_number q) (port_number y) + min (port_number q) (port_number y)) (sym (inner_colour p x i ex) ∙ e ∙ inner_colour q y j ey)))
    where
      less : (u v : ℕ) → suc u ≡ suc v → u ≡ v
      less u v e = omega (arith, e)

  pub apart_beside : (p q x : Port) → In p.0 new → partners s p ≡ Some x → StandsPort h q → d p ≢ d q
  apart_beside p q x i ex st e = odd_even (min (port_number p) (port_number x)) (c q) (sym (inner_colour p x i ex) ∙ e ∙ old_colour q (stands_atom q st))

-- Raw links by colours that are twice as large

is_odd : ℕ → Bool
is_odd zero = false
is_odd (suc n) = not (is_odd n)

-- a link of the solid goes to its double, a link of the rule stays
stretched : ℕ → ℕ
stretched z = cond (is_odd z) (z + (z - 1)) z

even_twice : (x : ℕ) → is_odd (x + x) ≡ false
unfolding is_odd
even_twice zero = refl
even_twice (suc x) = ap is_odd (two x) ∙ by (is_odd (x + x)) (even_twice x)
  where
    two : (x : ℕ) → suc x + suc x ≡ suc (suc (x + x))
    two x = omega arith

    by : (t : Bool) → t ≡ false → not (not t) ≡ false
    by true e = e
    by false e = refl

stretched_rule : (x : ℕ) → stretched (of_rule x) ≡ of_rule x
unfolding stretched
stretched_rule x = ap (λ t. cond t ((x + x) + ((x + x) - 1)) (x + x)) (even_twice x)

stretched_solid : (x : ℕ) → stretched (of_solid x) ≡ of_solid (x + x)
unfolding stretched is_odd
stretched_solid x = ap (λ t. cond (not t) (suc (x + x) + (suc (x + x) - 1)) (suc (x + x))) (even_twice x) ∙ sum (x + x)
  where
    sum : (y : ℕ) → suc y + (suc y - 1) ≡ suc (y + y)
    sum y = omega arith

-- A firing by such colours is one by the colours of the heap.
pub fires_by : (h h' : Heap) (c d : Port → ℕ) (r : Registers) (head : List HeadItem) (body : List BodyItem) (taken : List ℕ) → ((p : Port) → IsAtom h p.0 → d p ≡ c p + c p)
    → ((e : AtomPort × ℕ) → splice.IsOneOf e (old_ports head) → IsAtom h (old_port r e.0).0) → FiresWithin h d r head body taken h' → FiresWithin h c r head body taken h'
fires_by h h' c d r head body taken colour there f = record {
  to = λ z. f.to (stretched z);
  connectors_fused = λ e i. ap f.to (stretched_rule e.0) ∙ f.connectors_fused e i ∙ ap f.to (sym (stretched_rule e.1));
  heads_fused = λ e i. ap f.to (stretched_rule e.1) ∙ f.heads_fused e i ∙ ap (λ k. f.to (of_solid k)) (colour (old_port r e.0) (there e i)) ∙ ap f.to (sym (stretched_solid (c (old_port r e.0))));
  number = f.number;
  named = f.named;
  kept_links = λ p i. f.kept_links p i ∙ ap (λ k. f.to (of_solid k)) (colour p (is_atom (h.atoms p.0) i)) ∙ ap f.to (sym (stretched_solid (c p)));
  made_links = λ e i. f.made_links e i ∙ ap f.to (sym (stretched_rule e.1));
  kept_functors = f.kept_functors;
  made_functors = f.made_functors;
  rests = f.rests;
  rests_long = f.rests_long;
  rests_copied = f.rests_copied;
  new_once = f.new_once;
  new_fresh = f.new_fresh;
  made_once = f.made_once;
  made_fresh = f.made_fresh;
  new_placed = f.new_placed;
  copies = f.copies;
  atoms = f.atoms;
  mems = f.mems;
  rules = f.rules;
}
  where
    is_atom : (o : Option HeapAtom) → IsSome (option_and_then (λ x. heap.home_by x.place) o) → IsSome o
    is_atom None i = absurd (cc)
    is_atom (Some x) i = refl
