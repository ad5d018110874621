-- The parts of typed contexts are taken: no atom stands in two of them.
use Rattle.std.proofs.Common.{ℕ, ◌<◌, ◌≡◌, ◌≢◌, ◌↔◌, List, [], ◌∷◌, ◌++◌, map, length, Option, Some, None, IsSome, refl, sym, ap, subst, ◌∙◌, inl, inr, arith}
use Rattle.std.specs.Prelude.{slice_get}
use Rattle.lmn_base.specs.Graphs.{Reached, at_root, across, Port}
use Rattle.lmn_store_heap.specs.Heap.{Heap, HeapAtom, partners_of, functor_of, arity_of, link_of, IsAtom, Distinct, taken, taken_all}
use Rattle.lmn_base.specs.declared.functor.Functor.{Functor}
use Rattle.std.specs.Option.{option_map}
use Rattle.lmn_store_heap.proofs.Replacing.{port_within}
use Rattle.lmn_solid_bodies.proofs.Brought.{Whole, reached_into, reached_from}
use Rattle.lmn_store_heap.specs.Graphs.{atom_map}
use Rattle.lmn_store_heap.specs.Sound.{Valid}
use Rattle.lmn_store_heap.proofs.ListLemmas.{in_left, in_right}
use Rattle.lmn_solid_heads.specs.declared.items.HeadItem.{HeadItem}
use Rattle.lmn_solid_heads.specs.Heads.{HeadAtom, HeadTyped, atoms_of}
use Rattle.lmn_solid_heads.specs.Embeddings.{Lies, HasTyped, HasLink}
use Rattle.lmn_congruence_splice.specs.Splice as splice
use Rattle.lmn_congruence_splice.proofs.Joining.{same_some}
use Rattle.lmn_instr_code.specs.declared.instr.Instr.TheVariants.{RemovePart}
use Rattle.lmn_solid_bodies.specs.declared.items.BodyItem.{BodyItem}
use Rattle.lmn_solid_bodies.specs.Tied.{partners}
use Rattle.lmn_solid_bodies.specs.Rules.{AtomRule}
use Rattle.lmn_solid_bodies.specs.CopiedSolid.{Hangs}
use Rattle.lmn_solid_bodies.specs.Running.{Registers, DoesAll, Prepares}
use Rattle.lmn_solid_bodies.proofs.Phases.{taken_stays}
use Rattle.lmn_store_heap.proofs.Depths.{both_distinct}
use Rattle.lmn_base.proofs.Common.{port_cases}
use Rattle.lmn_base.proofs.Lists.{get_below, in_either}
use Rattle.lmn_store_heap.proofs.Common.{is_atom_at}
use Rattle.lmn_base.specs.Lists.{In}

-- atoms that are taken keep each link as it is
pub taken_links : (ns : List ℕ) (s : Heap) (a i : ℕ) → link_of (taken_all s ns) a i ≡ link_of s a i
taken_links [] s a i = refl
taken_links (n ∷ ns) s a i = taken_links ns (taken s n) a i ∙ (taken_stays s n).links a i

-- atoms of two lists joined are taken one list after the other
pub taken_append : (s : Heap) (xs ys : List ℕ) → taken_all s (xs ++ ys) ≡ taken_all (taken_all s xs) ys
taken_append s [] ys = refl
taken_append s (x ∷ xs) ys = taken_append (taken s x) xs ys

-- the atoms of the part of a typed context
abbrev pub PartOf : Heap → Registers → ℕ → ℕ → Type 0
PartOf h r g a = Reached (atom_map h) (r.head.images.part g) a

module _ (h : Heap) (valid : Valid h) (head : List HeadItem) (body : List BodyItem) (n m : ℕ) (r : Registers) (rule : AtomRule head body n) (em : Lies h head m r.head.images) where
  -- the head port that holds a part
  holds : (g : ℕ) (t : HeadTyped) → HasTyped head g t → (p : Port) × HasLink head t.link p × (partners h (r.head.images.part g) ≡ Some (r.head.images.atom p.0, p.1))
  holds g t w =
      let p = rule.held g t w in
      (p.0, p.1, valid.sound.paired.back (r.head.images.atom p.0.0) p.0.1 (r.head.images.part g).0 (r.head.images.part g).1 ((em.parts g t w).held p.0 p.1))

  is_image : (g : ℕ) (t : HeadTyped) (w : HasTyped head g t) (a : ℕ) → a ≡ r.head.images.atom (holds g t w).0.0 → (k : ℕ) × (k < length (atoms_of head)) × (r.head.images.atom k ≡ a)
  is_image g t w a e = let p = holds g t w in (p.0.0, get_below (atoms_of head) p.0.0 p.1.0 p.1.1, sym e)

  -- from an atom of two parts back to the root of one of them, within the other
  back_to : (g k : ℕ) (t u : HeadTyped) → HasTyped head g t → HasTyped head k u → (a : ℕ) → PartOf h r g a → PartOf h r k a → PartOf h r k (r.head.images.part g).0
  back_to g k t u w x a at_root q = q
  back_to g k t u w x a (across {a = b} {b = a'} {i = i} {j = j} p d e) q =
      let back : partners h (a', j) ≡ Some (b, i) = valid.sound.paired.back b i a' j e in
      back_to g k t u w x b p (elim (port_cases (a', j) (r.head.images.part k)) [
        | inr o ↦ across {a = a'} {i = j} {j = i} q o back
        | inl o ↦ (let hold = holds k u x in
            let same : ◌≡◌ {A = Port} (b, i) (r.head.images.atom hold.0.0, hold.0.1) = same_some (b, i) (r.head.images.atom hold.0.0, hold.0.1) (sym back ∙ ap (partners h) o ∙ hold.2) in
            absurd ((em.parts g t w).apart b p (is_image k u x b (ap (λ (z : Port). z.0) same))))
      ])

  -- parts of different contexts have no atom in common
  pub parts_apart : (g k : ℕ) (t u : HeadTyped) → HasTyped head g t → HasTyped head k u → g ≢ k → (a : ℕ) → PartOf h r g a → PartOf h r k a → ⊥
  parts_apart g k t u w x d a p q =
      let root = back_to g k t u w x a p q in
      let hg = holds g t w in
      let hk = holds k u x in
      elim (port_cases (r.head.images.part g) (r.head.images.part k)) [
        | inr o ↦ (em.parts k u x).apart (r.head.images.atom hg.0.0) (across {a = (r.head.images.part g).0} {i = (r.head.images.part g).1} {j = hg.0.1} root o hg.2) (is_image g t w (r.head.images.atom hg.0.0) refl)
        | inl o ↦ (let image : ◌≡◌ {A = Port} (r.head.images.atom hg.0.0, hg.0.1) (r.head.images.atom hk.0.0, hk.0.1) =
            same_some (r.head.images.atom hg.0.0, hg.0.1) (r.head.images.atom hk.0.0, hk.0.1) (sym hg.2 ∙ ap (partners h) o ∙ hk.2) in
            let same_k : hg.0.0 ≡ hk.0.0 = em.atoms_differ hg.0.0 hk.0.0 (get_below (atoms_of head) hg.0.0 hg.1.0 hg.1.1) (get_below (atoms_of head) hk.0.0 hk.1.0 hk.1.1) (ap (λ (z : Port). z.0) image) in
            let same_i : hg.0.1 ≡ hk.0.1 = ap (λ (z : Port). z.1) image in
            let same_atom = one_atom hg.1.0 hk.1.0 (sym hg.1.1 ∙ ap (slice_get (atoms_of head)) same_k ∙ hk.1.1) in
            let same_link = one_link t.link u.link (sym hg.1.2 ∙ (λ z. slice_get (same_atom z).links (same_i z)) ∙ hk.1.2) in
            rule.typed_once g k t u w x d same_link)
      ]
    where
      one_atom : (x y : HeadAtom) → ◌≡◌ {A = Option HeadAtom} (Some x) (Some y) → x ≡ y
      one_atom x y e = (cc)

      one_link : (x y : ℕ) → ◌≡◌ {A = Option ℕ} (Some x) (Some y) → x ≡ y
      one_link x y e = (cc)

  -- the root of a part is an atom
  pub part_there : (g : ℕ) (t : HeadTyped) → HasTyped head g t → IsAtom h (r.head.images.part g).0
  part_there g t w =
      let p = holds g t w in
      is_atom_at h (r.head.images.part g).0 (r.head.images.part g).1 (port_within h (r.head.images.part g).0 (r.head.images.part g).1 (r.head.images.atom p.0.0, p.0.1) p.2)

  -- and hangs at an image, which is outside
  pub part_hangs : (g : ℕ) (t : HeadTyped) → HasTyped head g t → Hangs h (r.head.images.part g)
  part_hangs g t w =
      let p = holds g t w in
      ((r.head.images.atom p.0.0, p.0.1), p.2, λ q. (em.parts g t w).apart (r.head.images.atom p.0.0) q (is_image g t w (r.head.images.atom p.0.0) refl))

  -- each other port of a part has a partner
  pub part_whole : (g : ℕ) (t : HeadTyped) → HasTyped head g t → Whole h (r.head.images.part g)
  part_whole g t w =
      let p = holds g t w in
      record {
        atom = part_there g t w;
        port = port_within h (r.head.images.part g).0 (r.head.images.part g).1 (r.head.images.atom p.0.0, p.0.1) p.2;
        full = λ a i q l d. by a i q d (functor_of h a) refl l;
      }
    where
      none_ports : (o : Option HeapAtom) (i : ℕ) → option_map (λ x. x.functor) o ≡ None → i < length (partners_of o) → ⊥
      none_ports None i e l = omega arith
      none_ports (Some x) i e l = absurd (cc)

      by : (a i : ℕ) → PartOf h r g a → ◌≢◌ {A = Port} (a, i) (r.head.images.part g) → (o : Option Functor) → functor_of h a ≡ o → i < arity_of h a → IsSome (link_of h a i)
      by a i q d None e l = absurd (none_ports (h.atoms a) i e l)
      by a i q d (Some f) e l = (em.parts g t w).whole.no_other_end a i f q e (subst (λ k. i < k) (valid.sound.shaped.ports a f e) l) d

  -- What REMOVEPART takes, of contexts with these numbers.
  pub record PartsTaken (gs : List ℕ) (s t : Heap) (ps : List ℕ) : Type 0 where
    pub is : t ≡ taken_all s ps
    pub once : Distinct ps
    pub are : (a : ℕ) → In a ps → (g : ℕ) × splice.IsOneOf g gs × PartOf h r g a
    pub all : (g a : ℕ) → splice.IsOneOf g gs → PartOf h r g a → In a ps

  pub parts_commit : (gs : List ℕ) → splice.NoneTwice gs → ((g : ℕ) → splice.IsOneOf g gs → (t : HeadTyped) × HasTyped head g t) → (s t : Heap) → ((p : Port) → IsAtom h p.0 → partners s p ≡ partners h p)
      → DoesAll r (map RemovePart gs) s t → (ps : List ℕ) × PartsTaken gs s t ps
  parts_commit [] d typed s t e w = ([], record { is = w; once = tt; are = λ a i. absurd i; all = λ g a i. absurd i })
  parts_commit (g ∷ gs) d typed s t e w =
      let qs = w.1.0 in
      let here : (b : ℕ) → In b qs ↔ PartOf h r g b = λ b.
      let x = typed g (inl refl) in (
        (λ i. (reached_into h s (r.head.images.part g) valid.sound.paired (part_there g x.0 x.1) e b ((w.1.2 b).0 i)).1),
        (λ i. (w.1.2 b).1 (reached_from h s (r.head.images.part g) valid.sound.paired (part_there g x.0 x.1) e b i).1),
      ) in
      let on = parts_commit gs d.1 (λ k i. typed k (inr i)) w.0 t (λ p is. ap (λ z. partners z p) w.1.3 ∙ taken_links qs s p.0 p.1 ∙ e p is) w.2 in (
        qs ++ on.0,
        record {
          is = on.1.is ∙ ap (λ z. taken_all z on.0) w.1.3 ∙ sym (taken_append s qs on.0);
          once = both_distinct qs on.0 w.1.1 on.1.once (λ a i j.
              let u = on.1.are a j in let x = typed g (inl refl) in let y = typed u.0 (inr u.1) in
              parts_apart g u.0 x.0 y.0 x.1 y.1 (λ q. d.0 (subst (λ z. splice.IsOneOf z gs) (sym q) u.1)) a ((here a).0 i) u.2);
          are = λ a i. elim (in_either a qs on.0 i) [ inl j ↦ (g, inl refl, (here a).0 j) | inr j ↦ (let u = on.1.are a j in (u.0, inr u.1, u.2)) ];
          all = λ k a i p. elim i [
            | inl q ↦ in_left a qs on.0 ((here a).1 (subst (λ z. PartOf h r z a) (sym q) p))
            | inr j ↦ in_right a qs on.0 (on.1.all k a j p)
          ];
        },
      )

-- instructions that remove parts make nothing
pub no_part_prepares : (r : Registers) (gs : List ℕ) (s t : Heap) → Prepares r (map RemovePart gs) s t → t ≡ s
no_part_prepares r [] s t w = w
no_part_prepares r (g ∷ gs) s t w = no_part_prepares r gs w.0 t w.2 ∙ w.1
