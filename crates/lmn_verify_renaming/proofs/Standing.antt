-- What stands in a heap after a firing: what stood there and wasn't removed, and what the firing made.
use Rattle.std.proofs.Common.{◌≡◌, ◌⊎◌, ◌∙◌, ◌+◌, ◌<◌, ℕ, true, List, [], ◌∷◌, ◌++◌, length, Option, Some, None, IsSome, refl, sym, ap, subst, inl, inr, arith}
use Rattle.std.specs.Option.{option_map}
use Rattle.lmn_base.specs.declared.functor.Functor.{Functor}
use Rattle.lmn_base.specs.Lists.{In}
use Rattle.lmn_base.proofs.Lists.{in_either, link_within}
use Rattle.lmn_base.proofs.Numbers.{below_zero_plus}
use Rattle.lmn_store_heap.specs.Heap.{Heap, HeapAtom, HeapMem, IsAtom, IsInPlace, IsMem, IsMemInPlace, arity_of, atoms_in, functor_of, mems_in, partners_of, top, within}
use Rattle.lmn_store_heap.specs.Lists.{without_all}
use Rattle.lmn_store_heap.specs.Sound.{Forest, Forms, Valid, bare, flat, mem}
use Rattle.lmn_store_heap.proofs.Common.{has_functor, holds_mem, in_place_atom, listed_mem}
use Rattle.lmn_ground_parts.specs.Copies.{answer}
use Rattle.lmn_ground_parts.specs.Walks.{net, neighbour}
use Rattle.lmn_ground_parts.proofs.AnswerLaws.{answer_in}
use Rattle.lmn_ground_parts.proofs.WalkLaws.{kept_seen}
use Rattle.lmn_instr_code.specs.declared.instr.NewPort.{NewPort}
use Rattle.lmn_instr_code.specs.declared.instr.NewPort.TheVariants as new
use Rattle.lmn_solid_heads.specs.declared.items.HeadItem.{HeadItem}
use Rattle.lmn_solid_heads.specs.Embeddings.{HasTyped, Lies}
use Rattle.lmn_solid_heads.specs.Heads.{HeadTyped, atoms_of, membranes_of}
use Rattle.lmn_congruence_splice.specs.Splice.{IsOneOf}
use Rattle.lmn_congruence_splice.proofs.Common.{in_append}
use Rattle.lmn_solid_bodies.specs.declared.items.BodyItem.{BodyItem}
use Rattle.lmn_solid_bodies.specs.declared.items.BodyItem.TheVariants.{Atom, Bound, Connector, Copy, Membrane, Rest, Rule, Rules}
use Rattle.lmn_solid_bodies.specs.Added.{added_atoms, added_mems, made_mems}
use Rattle.lmn_solid_bodies.specs.Fired.{images_of}
use Rattle.lmn_solid_bodies.specs.Items.{AllMade, new_ports, new_ports_from, port_at}
use Rattle.lmn_solid_bodies.specs.Made.{copies_of, made_of, new_atoms}
use Rattle.lmn_solid_bodies.specs.Names.{StandsPort}
use Rattle.lmn_solid_bodies.specs.Rules.{NestedRule}
use Rattle.lmn_solid_bodies.specs.Running.{Registers, integer_functor, new_port}
use Rattle.lmn_solid_bodies.specs.Within.{FiresFlat, FiresWithin, HoldsRests, dropped_atoms, dropped_mems, membrane_images, removed_mems}
use Rattle.lmn_solid_bodies.proofs.AddedLemmas.{comes_from, long_enough}
use Rattle.lmn_solid_bodies.proofs.Below.{removed_is}
use Rattle.lmn_solid_bodies.proofs.BodyPorts.{copied_new, written_new}
use Rattle.lmn_solid_bodies.proofs.Committing.{in_withouts_of}
use Rattle.lmn_solid_bodies.proofs.Finishing.{in_place_listed, within_of}
use Rattle.lmn_solid_bodies.proofs.Held.{Held, held}
use Rattle.lmn_solid_bodies.proofs.Common.{mems_moved as mems_come}

-- ---- what a body adds

-- ---- new ports

-- a port of an atom that is written, or the root port of a copy
abbrev pub WrittenPort : Registers → ℕ → List BodyItem → NewPort → Type 0
WrittenPort r a body e = (x : ℕ) × (i : ℕ) × (f : Functor) × (e ≡ new.Atom (port_at x i)) × IsOneOf {A = ℕ × Functor} (r.head.images.atom x, f) (made_of r a body) × (i < f.arity)

abbrev pub CopyPort : ℕ → List BodyItem → NewPort → Type 0
CopyPort c body e = (d : ℕ) × (part : ℕ) × (e ≡ new.Copy d) × IsOneOf {A = ℕ × ℕ} (d, part) (copies_of c body)

written_on : (r : Registers) (a a' : ℕ) (xs ys : List BodyItem) (e : NewPort) → ((x : ℕ × Functor) → IsOneOf x (made_of r a xs) → IsOneOf x (made_of r a' ys)) → WrittenPort r a xs e → WrittenPort r a' ys e
written_on r a a' xs ys e on w = (w.0, w.1, w.2, w.3, on (r.head.images.atom w.0, w.2) w.4, w.5)

pub port_from : (a k : ℕ) (ls : List ℕ) (e : NewPort × ℕ) → IsOneOf e (new_ports_from a k ls) → (i : ℕ) × (e.0 ≡ new.Atom (port_at a i)) × (i < k + length ls)
port_from a k [] e i = absurd i
port_from a k (l ∷ ls) e (inl q) = (k, sym (ap (λ (z : NewPort × ℕ). z.0) q), omega arith)
port_from a k (l ∷ ls) e (inr j) = (let w = port_from a (k + 1) ls e j in let b = w.2 in (w.0, w.1, omega (arith, b)))

pub new_port_is : (r : Registers) (a c : ℕ) (body : List BodyItem) → AllMade body → (e : NewPort × ℕ) → IsOneOf e (new_ports a c body) → WrittenPort r a body e.0 ⊎ CopyPort c body e.0
new_port_is r a c [] w e i = absurd i
new_port_is r a c (Atom functor links inside ∷ xs) w e i = elim (in_append e (new_ports_from a 0 links) (new_ports (a + 1) c xs) i) [
  | inl j ↦ (let v = port_from a 0 links e j in inl (a, v.0, functor, v.1, inl refl, subst (λ n. v.0 < n) w.0.0 (below_zero_plus v.0 (length links) v.2)))
  | inr j ↦ elim (new_port_is r (a + 1) c xs w.1 e j) [ inl v ↦ inl (written_on r (a + 1) a xs (Atom functor links inside ∷ xs) e.0 (λ x l. inr l) v) | inr v ↦ inr v ]
]
new_port_is r a c (Bound integer link inside ∷ xs) w e (inl q) = inl (a, 0, integer_functor (r.head.integer integer), sym (ap (λ (z : NewPort × ℕ). z.0) q), inl refl, omega arith)
new_port_is r a c (Bound integer link inside ∷ xs) w e (inr j) = elim (new_port_is r (a + 1) c xs w.1 e j) [
  | inl v ↦ inl (written_on r (a + 1) a xs (Bound integer link inside ∷ xs) e.0 (λ x l. inr l) v)
  | inr v ↦ inr v
]
new_port_is r a c (Connector l l' ∷ xs) w e i = new_port_is r a c xs w.1 e i
new_port_is r a c (Copy part link inside ∷ xs) w e (inl q) = inr (c, part, sym (ap (λ (z : NewPort × ℕ). z.0) q), inl refl)
new_port_is r a c (Copy part link inside ∷ xs) w e (inr j) = elim (new_port_is r a (c + 1) xs w.1 e j) [ inl v ↦ inl v | inr v ↦ inr (v.0, v.1, v.2, inr v.3) ]
new_port_is r a c (Membrane inside ∷ xs) w e i = new_port_is r a c xs w.1 e i
new_port_is r a c (Rest of closed inside ∷ xs) w e i = new_port_is r a c xs w.1 e i
new_port_is r a c (Rule rule inside ∷ xs) w e i = new_port_is r a c xs w.1 e i
new_port_is r a c (Rules of inside ∷ xs) w e i = new_port_is r a c xs w.1 e i

-- ---- after the firing

module _ (h : Heap) (valid : Valid h) (head : List HeadItem) (body : List BodyItem) (n m : ℕ) (r : Registers) (nested : NestedRule head body n) (lies : Lies h head m r.head.images) (stand : IsMemInPlace h m)
    (rests_h : HoldsRests h r head) (h' : Heap) (valid' : Valid h') (f : FiresFlat head body r h h') where
  abbrev F : FiresWithin h f.name r head body (images_of r head ++ f.parts) h'
  F = f.fires

  abbrev ts : List ℕ
  ts = images_of r head ++ f.parts

  abbrev ks : List ℕ
  ks = membrane_images r head

  abbrev N : ℕ
  N = length (atoms_of head)

  abbrev K : ℕ
  K = 1 + length (membranes_of head)

  pub hs : Held h valid head body m r f.parts
  hs = held h valid head body n m r nested lies stand rests_h f.parts f.are f.name f.named

  -- ---- membranes

  -- it isn't removed, and stood there or is made
  abbrev pub Stands : ℕ → Type 0
  Stands x = (In x (removed_mems r head) → ⊥) × (IsMem h x ⊎ In x (made_mems r F.rests K body))

  root_out : In h.root (removed_mems r head) → ⊥
  root_out i = elim (in_either h.root ks (dropped_mems r head) i) [
    | inl j ↦ (let w = removed_is head r h.root j in no_parent (r.head.images.membrane w.1.inside) (subst (λ z. In z (mems_in h (r.head.images.membrane w.1.inside))) w.3 (lies.membranes_placed w.0 w.1 w.2)))
    | inr j ↦ (let w = hs.dm_parent h.root j in no_parent w.0 w.1)
  ]
    where
      no_parent : (q : ℕ) → In h.root (mems_in h q) → ⊥
      no_parent q j =
          let sound = valid.sound in
          let listed = sound.listed in
          let e : Some top ≡ Some (within q) = sym ((listed.root h.root).1 refl) ∙ (listed.mems q h.root).0 j in
          cc e

  child_stands : (x : ℕ) → (In x (removed_mems r head) → ⊥) → (z : ℕ) → In z (mems_in h' x) → Stands z
  child_stands x o z i =
      let sound = valid.sound in
      let listed = sound.listed in
      elim (in_either z (without_all ks (mems_in h x)) (added_mems r F.rests (λ k. without_all ks (mems_in h k)) K body x) (subst (In z) (F.mems x o) i)) [
        | inl j ↦ (let w = in_withouts_of ks (mems_in h x) z (listed.mems_once x) j in
            ((λ l. elim (in_either z ks (dropped_mems r head) l) [ inl t ↦ w.1 t | inr t ↦ o (hs.holds_removed x (hs.mem_holds z x t w.0)) ]), inl (listed_mem h listed x z w.0)))
        | inr j ↦ elim (mems_come r F.rests (λ k. without_all ts (atoms_in h k)) (λ k. without_all ks (mems_in h k)) K body F.rests_long hs.whole x z j) [
          | inl made ↦ ((λ l. not_there z (hs.removed_mem z l) (F.made_fresh z made)), inr made)
          | inr (k, moved, t) ↦ (let w = in_withouts_of ks (mems_in h k) z (listed.mems_once k) t in
              ((λ l. elim (in_either z ks (dropped_mems r head) l) [ inl t ↦ w.1 t | inr t ↦ hs.moved_out k moved (hs.mem_holds z k t w.0) ]), inl (listed_mem h listed k z w.0)))
        ]
      ]
    where
      not_there : (z : ℕ) → IsMem h z → h.mems z ≡ None → ⊥
      not_there z i e = let none : IsSome {T = HeapMem} None = subst (λ (o : Option HeapMem). IsSome o) e i in cc none

  all_stand : (g : Forest) (xs : List ℕ) → Forms h' g xs → ((z : ℕ) → In z xs → Stands z) → (z : ℕ) → In z (flat g) → Stands z
  all_stand bare xs w roots z i = absurd i
  all_stand (mem y inner rest) xs (others, are, into, beside) roots z (inl e) = subst Stands e (roots y (subst (In y) (sym are) (inl refl)))
  all_stand (mem y inner rest) xs (others, are, into, beside) roots z (inr i) = elim (in_either z (flat inner) (flat rest) i) [
    | inl j ↦ all_stand inner (mems_in h' y) into (child_stands y (roots y (subst (In y) (sym are) (inl refl))).0) z j
    | inr j ↦ all_stand rest others beside (λ q l. roots q (subst (In q) (sym are) (inr l))) z j
  ]

  root_stands : Stands h.root
  root_stands = (root_out, inl (by (h.mems h.root) (let sound = valid.sound in let listed = sound.listed in (listed.root h.root).1 refl)))
    where
      by : (o : Option HeapMem) → option_map (λ (y : HeapMem). y.place) o ≡ Some top → IsSome o
      by None e = absurd (cc e)
      by (Some y) e = refl

  pub mem_stands : (x : ℕ) → IsMem h' x → Stands x
  mem_stands x i =
      let tree = valid'.tree.1 in
      all_stand valid'.tree.0 (h'.root ∷ []) tree.forms (λ z j. elim j [ inl e ↦ subst Stands (sym f.root ∙ e) root_stands | inr l ↦ absurd l ]) x (tree.all x i)

  -- ---- atoms

  -- it stood there and is neither taken nor dropped, or it is made
  abbrev pub AtomStands : ℕ → Type 0
  AtomStands a = (IsInPlace h a × (In a ts → ⊥) × (In a (dropped_atoms r head) → ⊥)) ⊎ In a (new_atoms r F.rests N 0 body)

  pub atom_stands : (a : ℕ) → IsAtom h' a → AtomStands a
  atom_stands a i =
      let settled = valid'.settled in
      let sound = valid.sound in
      let sound' = valid'.sound in
      let listed = sound.listed in
      let listed' = sound'.listed in
      let w = within_of h' a (settled.atoms a i) in
      let there : In a (atoms_in h' w.0) = (listed'.atoms w.0 a).1 w.1 in
      let o = (mem_stands w.0 (holds_mem (h'.mems w.0) a there)).0 in
      elim (in_either a (without_all ts (atoms_in h w.0)) (added_atoms r F.rests (λ k. without_all ts (atoms_in h k)) N 0 body w.0) (subst (In a) (F.atoms w.0 o) there)) [
        | inl j ↦ (let v = in_withouts_of ts (atoms_in h w.0) a (listed.atoms_once w.0) j in
            inl (in_place_listed h w.0 a listed v.0, v.1, λ d. o (hs.holds_removed w.0 (hs.atom_holds a w.0 d v.0))))
        | inr j ↦ elim (comes_from r F.rests (λ k. without_all ts (atoms_in h k)) (λ k. without_all ks (mems_in h k)) N 0 body F.rests_long hs.whole w.0 a j) [
          | inl made ↦ inr made
          | inr (k, moved, t) ↦ (let v = in_withouts_of ts (atoms_in h k) a (listed.atoms_once k) t in
              inl (in_place_listed h k a listed v.0, v.1, λ d. hs.moved_out k moved (hs.atom_holds a k d v.0)))
        ]
      ]

  -- ---- ports

  same_arity : (a b : ℕ) → functor_of h' b ≡ functor_of h a → IsAtom h a → IsAtom h' b × (arity_of h' b ≡ arity_of h a)
  same_arity a b e i =
      let sound = valid.sound in
      let sound' = valid'.sound in
      let shaped = sound.shaped in
      let shaped' = sound'.shaped in
      let g = has_functor h a i in
      (is_some (h'.atoms b) (e ∙ g.1), shaped'.ports b g.0 (e ∙ g.1) ∙ sym (shaped.ports a g.0 g.1))
    where
      is_some : {g : Functor} (o : Option HeapAtom) → option_map (λ (y : HeapAtom). y.functor) o ≡ Some g → IsSome o
      is_some None e = absurd (cc e)
      is_some (Some y) e = refl

  pub kept_arity : (a : ℕ) → IsInPlace h a → (In a ts → ⊥) → (In a (dropped_atoms r head) → ⊥) → IsAtom h' a × (arity_of h' a ≡ arity_of h a)
  kept_arity a i t d = same_arity a a (F.kept_functors a i t d) (in_place_atom h a i)

  -- the port by which a part is entered stands
  pub part_port : (g : ℕ) (t : HeadTyped) → HasTyped head g t → IsAtom h (r.head.images.part g).0 × ((r.head.images.part g).1 < arity_of h (r.head.images.part g).0)
  part_port g t w =
      let atoms = nested.atoms in
      let q = atoms.held g t w in
      let part = lies.parts g t w in
      let sound = valid.sound in
      let paired = sound.paired in
      let back = paired.back (r.head.images.atom q.0.0) q.0.1 (r.head.images.part g).0 (r.head.images.part g).1 (part.held q.0 q.1) in
      let below = link_within (partners_of (h.atoms (r.head.images.part g).0)) (r.head.images.part g).1 (r.head.images.atom q.0.0, q.0.1) back in
      (atom_with (h.atoms (r.head.images.part g).0) (r.head.images.part g).1 below, below)
    where
      atom_with : (o : Option HeapAtom) (i : ℕ) → i < length (partners_of o) → IsSome o
      atom_with None i l = absurd (omega (arith, l))
      atom_with (Some y) i l = refl

  pub new_stands : (e : NewPort × ℕ) → IsOneOf e (new_ports N 0 body) → StandsPort h' (new_port r e.0)
  new_stands e i = let atoms = nested.atoms in elim (new_port_is r N 0 body atoms.made e i) [
    | inl (x, j, g, q, w, l) ↦ (
        let sound' = valid'.sound in
        let shaped' = sound'.shaped in
        subst (λ (z : NewPort). StandsPort h' (new_port r z)) (sym q)
        (F.new_placed (r.head.images.atom x) (written_new r F.rests N 0 body (r.head.images.atom x) g w), subst (λ k. j < k) (sym (shaped'.ports (r.head.images.atom x) g (F.made_functors (r.head.images.atom x, g) w))) l))
    | inr (d, part, q, w) ↦ subst (λ (z : NewPort). StandsPort h' (new_port r z)) (sym q) (copy_stands d part w)
  ]
    where
      copy_stands : (d part : ℕ) → IsOneOf {A = ℕ × ℕ} (d, part) (copies_of 0 body) → StandsPort h' (r.copy d)
      copy_stands d part w =
          let atoms = nested.atoms in
          let c = F.copies (d, part) w in
          let t = atoms.copied (d, part) w in
          let root = r.head.images.part part in
          let at = part_port part t.0 t.1 in
          let first : In root.0 c.atoms = kept_seen (arity_of h) (neighbour (net h) root (λ _. true)) c.part root.0 (inl refl) in
          let there : In (answer c.atoms (r.copied d) root.0) (r.copied d) = answer_in c.atoms (r.copied d) root.0 (long_enough c.long) first in
          let same = same_arity root.0 (answer c.atoms (r.copied d) root.0) (c.functors root.0 first) at.0 in
          subst (StandsPort h') (sym c.entered)
          (F.new_placed (answer c.atoms (r.copied d) root.0) (copied_new r F.rests N 0 body (d, part) (answer c.atoms (r.copied d) root.0) w there), subst (λ k. root.1 < k) (sym same.1) at.1)
