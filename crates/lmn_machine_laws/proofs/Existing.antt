-- There is a sum for the body of a rule whose head is found.
use Rattle.std.proofs.Common.{ℕ, zero, suc, ◌+◌, ◌<◌, ◌≤◌, ◌≡◌, true, false, List, [], ◌∷◌, ◌++◌, map, length, Option, Some, IsSome, refl, sym, ap, subst, ◌∙◌, inl, inr, arith, length-append}
use Rattle.std.specs.Prelude.{sum}
use Rattle.lmn_store_heap.specs.Heap.{Heap, top, within, place_of, mem_place_of, mems_in, atoms_in, rules_in, IsInPlace, IsMemInPlace, Distinct, Place, home_of, without}
use Rattle.lmn_store_heap.specs.Sound.{Forest, flat, IsTree, Valid, item_count_in}
use Rattle.lmn_store_heap.proofs.Depths.{both_distinct}
use Rattle.lmn_store_heap.proofs.ListLemmas.{in_left, in_right, in_withouts}
use Rattle.lmn_store_heap.proofs.Pigeonholes.{not_longer}
use Rattle.lmn_store_heap.proofs.Trees.{root_first, is_mem}
use Rattle.lmn_solid_heads.specs.declared.items.HeadItem.{HeadItem}
use Rattle.lmn_solid_heads.specs.Heads.{HeadTyped, atoms_of, typed_contexts_of, membranes_of}
use Rattle.lmn_solid_heads.specs.Embeddings.{Lies, HasTyped}
use Rattle.lmn_congruence_splice.specs.Classes.{rising}
use Rattle.lmn_congruence_splice.specs.Splice as splice
use Rattle.lmn_congruence_splice.proofs.EndLemmas.{in_rising, rising_distinct}
use Rattle.lmn_instr_code.specs.declared.instr.Instr.TheVariants.{RemovePart}
use Rattle.lmn_solid_bodies.specs.declared.items.BodyItem.{BodyItem}
use Rattle.lmn_solid_bodies.specs.declared.items.BodyItem.TheVariants.{Atom, Connector, Copy, Bound, Membrane, Rest, Rule, Rules}
use Rattle.lmn_solid_bodies.specs.Code.{making, body_code}
use Rattle.lmn_solid_bodies.specs.Fired.{images_of}
use Rattle.lmn_solid_bodies.specs.Made.{copies_of}
use Rattle.lmn_solid_bodies.specs.Names.{Names}
use Rattle.lmn_solid_bodies.specs.Rules.{AtomRule, NestedRule, PartAtoms}
use Rattle.lmn_solid_bodies.specs.Running.{Registers}
use Rattle.lmn_solid_bodies.specs.Within.{membrane_images, dropped_atoms, dropped_mems, removed_mems, HoldsRests}
use Rattle.lmn_solid_bodies.proofs.Below.{removed_is}
use Rattle.lmn_solid_bodies.proofs.Finishing.{within_of, in_place_listed}
use Rattle.lmn_solid_bodies.proofs.Firing.{distinct_images, heap_in_of, rising_below}
use Rattle.lmn_solid_bodies.proofs.HeadPorts.{of_map}
use Rattle.lmn_solid_bodies.proofs.Held.{Held, held}
use Rattle.lmn_solid_bodies.proofs.Parts.{parts_apart, PartOf}
use Rattle.lmn_ground.specs.Spread.{AreAtoms}
use Rattle.lmn_machine.specs.Costs.{AddsItems, TakesItems, InAll, Leaves}
use Rattle.lmn_machine_laws.proofs.Totals.{total_is_sum, total_part, total_three, total_plus, total_without, total_withouts, all_out}
use Rattle.lmn_machine_laws.proofs.Codes.{code_adds, code_takes}
use Rattle.lmn_machine_laws.proofs.Finite.{part_listed}
use Rattle.lmn_store_heap.specs.Lists.{without_all}
use Rattle.lmn_base.proofs.Lists.{weigh as total, get_below, get_there as get_some, in_either}
use Rattle.lmn_base.specs.Graphs.{Port}
use Rattle.lmn_base.proofs.Numbers.{below_zero_plus as below_plain, zero_least as nothing_less, zero_plus_below as plain_below}
use Rattle.lmn_store_heap.proofs.Common.{place_home}
use Rattle.lmn_store_heap.proofs.Listing.{listed_mem as listed_some}
use Rattle.lmn_base.specs.Lists.{In}

-- two trees of a heap have the same items
same_items : (h : Heap) → Valid h → (f g : Forest) → IsTree h f → IsTree h g → item_count_in h (flat f) ≡ item_count_in h (flat g)
same_items h valid f g t u =
    let w : ℕ → ℕ = λ m. 1 + length (atoms_in h m) + length (rules_in h m) in
    total_is_sum w (flat f)
    ∙ total_part w (flat f) (flat g) t.once u.once (λ x i. u.all x (is_mem h valid.sound f t x i)) (λ y i o. absurd (o (t.all y (is_mem h valid.sound g u y i))))
    ∙ sym (total_is_sum w (flat g))

module _ (h : Heap) (valid : Valid h) (head : List HeadItem) (body : List BodyItem) (n m : ℕ) (r : Registers) (nested : NestedRule head body n) (em : Lies h head m r.head.images) (stand : IsMemInPlace h m)
    (rests_h : HoldsRests h r head) (c : Port → ℕ) (names : Names h c) where
  abbrev rule : AtomRule head body n
  rule = nested.atoms

  -- the atoms of a part, which all stand in one membrane
  one_part : (g : ℕ) (t : HeadTyped) → HasTyped head g t → (xs : List ℕ) × AreAtoms h (r.head.images.part g) xs
  one_part g t w =
      let home = r.head.images.membrane t.inside in
      part_listed h (r.head.images.part g) (atoms_in h home) (λ a p.
      let at = (em.parts g t w).whole.at_home a p in
      let stands : IsInPlace h a = subst (λ (o : Option ℕ). IsSome o) (sym at) refl in
      let v = within_of h a stands in
      subst (λ z. In a (atoms_in h z)) (same_home a v.0 home v.1 at) ((valid.sound.listed.atoms v.0 a).1 v.1))
    where
      one_some : (x y : ℕ) → ◌≡◌ {A = Option ℕ} (Some x) (Some y) → x ≡ y
      one_some x y e = (cc)

      same_home : (a v home : ℕ) → place_of h a ≡ Some (within v) → home_of h a ≡ Some home → v ≡ home
      same_home a v home e f = one_some v home (sym (place_home h a v e) ∙ f)

  -- the atoms of the parts of contexts with these numbers
  record Listed (gs ps : List ℕ) : Type 0 where
    pub once : Distinct ps
    pub are : (a : ℕ) → In a ps → (g : ℕ) × splice.IsOneOf g gs × PartOf h r g a
    pub all : (g a : ℕ) → splice.IsOneOf g gs → PartOf h r g a → In a ps
    pub sum : InAll (TakesItems h r) (map RemovePart gs) (length ps)

  all_parts : (gs : List ℕ) → splice.NoneTwice gs → ((g : ℕ) → splice.IsOneOf g gs → (t : HeadTyped) × HasTyped head g t) → (ps : List ℕ) × Listed gs ps
  all_parts [] d typed = ([], record { once = tt; are = λ a i. absurd i; all = λ g a i. absurd i; sum = refl })
  all_parts (g ∷ gs) d typed =
      let x = typed g (inl refl) in
      let first = one_part g x.0 x.1 in
      let on = all_parts gs d.1 (λ k i. typed k (inr i)) in (
        first.0 ++ on.0,
        record {
          once = both_distinct first.0 on.0 first.1.0 on.1.once (λ a i j.
              let u = on.1.are a j in let y = typed u.0 (inr u.1) in
              parts_apart h valid head body n m r rule em g u.0 x.0 y.0 x.1 y.1 (λ q. d.0 (subst (λ z. splice.IsOneOf z gs) (sym q) u.1)) a ((first.1.1 a).0 i) u.2);
          are = λ a i. elim (in_either a first.0 on.0 i) [ inl j ↦ (g, inl refl, (first.1.1 a).0 j) | inr j ↦ (let u = on.1.are a j in (u.0, inr u.1, u.2)) ];
          all = λ k a i p. elim i [
            | inl q ↦ in_left a first.0 on.0 ((first.1.1 a).1 (subst (λ z. PartOf h r z a) (sym q) p))
            | inr j ↦ in_right a first.0 on.0 (on.1.all k a j p)
          ];
          sum = (length first.0, length on.0, ((first.0, first.1, refl), on.1.sum, length-append first.0 on.0));
        },
      )

  abbrev T : ℕ
  T = length (typed_contexts_of head)

  abbrev N : ℕ
  N = length (atoms_of head)

  abbrev K : ℕ
  K = length (membranes_of head)

  typed_at : (g : ℕ) → splice.IsOneOf g (rising 0 T) → (t : HeadTyped) × HasTyped head g t
  typed_at g i = get_some (typed_contexts_of head) g (below_plain g T (rising_below T 0 g i).1)

  abbrev parts : (ps : List ℕ) × Listed (rising 0 T) ps
  parts = all_parts (rising 0 T) (rising_distinct T 0) typed_at

  -- what REMOVEPART takes, for any list of these atoms
  pub parts_sum : (ps : List ℕ) → Distinct ps → ((a : ℕ) → In a ps → (g : ℕ) × splice.IsOneOf g (rising 0 T) × PartOf h r g a) → ((g a : ℕ) → splice.IsOneOf g (rising 0 T) → PartOf h r g a → In a ps)
      → InAll (TakesItems h r) (map RemovePart (rising 0 T)) (length ps)
  parts_sum ps once are all = subst (λ k. InAll (TakesItems h r) (map RemovePart (rising 0 T)) k) same parts.1.sum
    where
      same : length parts.0 ≡ length ps
      same =
          let x = not_longer parts.0 ps parts.1.once (λ a i. let u = parts.1.are a i in all u.0 a u.1 u.2) in
          let y = not_longer ps parts.0 once (λ a i. let u = are a i in parts.1.all u.0 a u.1 u.2) in
          omega (arith, x, y)

  parts_are : PartAtoms h head r.head.images parts.0
  parts_are = record {
    once = parts.1.once;
    are = λ a i. let u = parts.1.are a i in let t = typed_at u.0 u.1 in (u.0, t.0, t.1, u.2);
    all = λ g t a w i. parts.1.all g a (in_rising T 0 g (nothing_less g) (plain_below g T (get_below (typed_contexts_of head) g t w))) i;
  }

  -- what the rests are in the heap
  hs : Held h valid head body m r parts.0
  hs = held h valid head body n m r nested em stand rests_h parts.0 parts_are c names

  abbrev ns : List ℕ
  ns = images_of r head ++ parts.0

  abbrev ks : List ℕ
  ks = membrane_images r head

  -- all atoms that go, and all membranes that are removed
  abbrev outs : List ℕ
  outs = ns ++ dropped_atoms r head

  abbrev gs : List ℕ
  gs = removed_mems r head

  abbrev old : List ℕ
  old = flat valid.tree.0

  image_is : (a : ℕ) → In a (images_of r head) → (k : ℕ) × (k < N) × (r.head.images.atom k ≡ a)
  image_is a i = let w = of_map r.head.images.atom a (rising 0 N) (heap_in_of a (images_of r head) i) in (w.0, below_plain w.0 N (rising_below N 0 w.0 w.1).1, w.2)

  -- what is taken stands, each atom once
  taken_once : Distinct ns
  taken_once = both_distinct (images_of r head) parts.0 (distinct_images r.head.images.atom N 0 (λ x y k p l q e. em.atoms_differ x y (below_plain x N p) (below_plain y N q) e)) parts.1.once
      (λ a i j. let u = parts.1.are a j in let t = typed_at u.0 u.1 in (em.parts u.0 t.0 t.1).apart a u.2 (image_is a i))

  taken_stands : (a : ℕ) → In a ns → IsInPlace h a
  taken_stands a i = elim (in_either a (images_of r head) parts.0 i) [
    | inl j ↦ (let w = image_is a j in let x = get_some (atoms_of head) w.0 w.1 in
        in_place_listed h (r.head.images.membrane x.0.inside) a valid.sound.listed (subst (λ z. In z (atoms_in h (r.head.images.membrane x.0.inside))) w.2 (em.atoms_placed w.0 x.0 x.1)))
    | inr j ↦ (let u = parts.1.are a j in let t = typed_at u.0 u.1 in subst (λ (o : Option ℕ). IsSome o) (sym ((em.parts u.0 t.0 t.1).whole.at_home a u.2)) refl)
  ]

  -- so does what is dropped
  outs_once : Distinct outs
  outs_once = both_distinct ns (dropped_atoms r head) taken_once hs.rests.drop_once (λ a i j. hs.rests.drop_apart a j i)

  out_stands : (a : ℕ) → In a outs → IsInPlace h a
  out_stands a i = elim (in_either a ns (dropped_atoms r head) i) [ inl j ↦ taken_stands a j | inr j ↦ hs.rests.drop_placed a j ]

  stands : (a : ℕ) → In a outs → (y : ℕ) × In y old × In a (atoms_in h y) × ((z : ℕ) → In a (atoms_in h z) → z ≡ y)
  stands a i =
      let w = within_of h a (out_stands a i) in
      let j = (valid.sound.listed.atoms w.0 a).1 w.1 in
      (w.0, valid.tree.1.all w.0 (listed_some h w.0 a j), j, λ z k. one z w.0 (sym ((valid.sound.listed.atoms z a).0 k) ∙ w.1))
    where
      one : (y k : ℕ) → ◌≡◌ {A = Option Place} (Some (within y)) (Some (within k)) → y ≡ k
      one y k e = (cc)

  -- membranes that are removed are there, and the root isn't one of them
  images_once : Distinct ks
  images_once = distinct_images r.head.images.membrane K 1 once
    where
      once : (x y : ℕ) → 1 ≤ x → x < 1 + K → 1 ≤ y → y < 1 + K → r.head.images.membrane x ≡ r.head.images.membrane y → x ≡ y
      once zero y l p k q e = absurd (off l)
        where
          off : 1 ≤ 0 → ⊥
          off l = omega arith
      once (suc x) zero l p k q e = absurd (off k)
        where
          off : 1 ≤ 0 → ⊥
          off l = omega arith
      once (suc x) (suc y) l p k q e = ap (λ z. suc z) (em.membranes_differ x y (less x p) (less y q) e)
        where
          less : (z : ℕ) → suc z < 1 + K → z < K
          less z u = omega arith

  removed_once : Distinct gs
  removed_once = both_distinct ks (dropped_mems r head) images_once hs.dms_once (λ x i j. hs.dms_apart x j i)

  removed_placed : (x : ℕ) → In x gs → (p : ℕ) × (mem_place_of h x ≡ Some (within p))
  removed_placed x i = elim (in_either x ks (dropped_mems r head) i) [
    | inl j ↦ (let w = removed_is head r x j in
        let p = r.head.images.membrane w.1.inside in
        (p, (valid.sound.listed.mems p x).0 (subst (λ z. In z (mems_in h p)) w.3 (em.membranes_placed w.0 w.1 w.2))))
    | inr j ↦ (let w = hs.dm_parent x j in (w.0, (valid.sound.listed.mems w.0 x).0 w.1))
  ]

  removed_old : (x : ℕ) → In x gs → In x old
  removed_old x i = valid.tree.1.all x (hs.removed_mem x i)

  root_stays : In h.root (without_all gs old)
  root_stays = in_withouts gs old h.root (root_first h valid.tree.0 valid.tree.1).0 (λ i.
      let p = removed_placed h.root i in
      let z : Some (within p.0) ≡ Some top = sym p.1 ∙ (valid.sound.listed.root h.root).1 refl in absurd (cc))

  -- each instruction of a body adds a number
  some_making : (a b c : ℕ) (xs : List BodyItem) → ((e : ℕ × ℕ) → splice.IsOneOf e (copies_of c xs) → (t : HeadTyped) × HasTyped head e.1 t) → (k : ℕ) × InAll (AddsItems h r) (making a b c xs) k
  some_making a b c [] copied = (0, refl)
  some_making a b c (Atom functor links inside ∷ xs) copied = let on = some_making (a + 1) b c xs copied in (1 + on.0, (1, on.0, (refl, on.1, refl)))
  some_making a b c (Connector left right ∷ xs) copied = some_making a b c xs copied
  some_making a b c (Copy part link inside ∷ xs) copied =
      let t = copied (c, part) (inl refl) in
      let one = one_part part t.0 t.1 in
      let on = some_making a b (c + 1) xs (λ e i. copied e (inr i)) in
      (length one.0 + on.0, (length one.0, on.0, ((one.0, one.1, refl), on.1, refl)))
  some_making a b c (Bound integer link inside ∷ xs) copied = let on = some_making (a + 1) b c xs copied in (1 + on.0, (1, on.0, (refl, on.1, refl)))
  some_making a b c (Membrane inside ∷ xs) copied = let on = some_making a (b + 1) c xs copied in (1 + on.0, (1, on.0, (refl, on.1, refl)))
  some_making a b c (Rest of false inside ∷ xs) copied = let on = some_making a b c xs copied in (0 + on.0, (0, on.0, (refl, on.1, refl)))
  some_making a b c (Rest of true inside ∷ xs) copied =
      let on = some_making a b c xs copied in
      let k = length (r.left_atoms of) + sum (map (λ x. 1 + length (rules_in h x)) (r.left_membranes of)) in (k + on.0, (k, on.0, (refl, on.1, refl)))
  some_making a b c (Rule rule' inside ∷ xs) copied = let on = some_making a b c xs copied in (1 + on.0, (1, on.0, (refl, on.1, refl)))
  some_making a b c (Rules of inside ∷ xs) copied =
      let on = some_making a b c xs copied in
      let k = length (rules_in h (r.head.images.membrane of)) in (k + on.0, (k, on.0, (refl, on.1, refl)))

  -- There is a number that is left.
  pub some_left : (k : ℕ) × Leaves h r (body_code head body n) k
  some_left =
      let made = some_making N (1 + K) 0 body rule.copied in
      let ones : ℕ → ℕ = λ x. 1 in
      let rules : ℕ → ℕ = λ x. length (rules_in h x) in
      let left : ℕ → ℕ = λ x. length (without_all outs (atoms_in h x)) in
      let kept = without_all gs old in
      let taken = length outs + total (λ k. 1 + length (rules_in h k)) gs in
      let rest = total ones (without h.root kept) + total left old + total rules kept in
      let e1 = total_withouts ones gs old removed_once removed_old in
      let e2 = total_withouts rules gs old removed_once removed_old in
      let e3 = total_without ones h.root kept root_stays in
      let e4 = all_out outs (atoms_in h) old outs_once valid.tree.1.once stands in
      let e5 = total_is_sum (λ x. 1 + length (atoms_in h x) + length (rules_in h x)) old ∙ total_three ones (λ x. length (atoms_in h x)) rules old in
      let e6 = total_plus ones rules gs in (
        rest + made.0,
        record {
          added = made.0;
          taken = taken;
          adds = code_adds h r head body n made.0 made.1;
          takes = code_takes h r head body n parts.0 parts.1.sum;
          count = λ f t. sums (item_count_in h old) (item_count_in h (flat f)) (length outs) (total (λ k. 1 + length (rules_in h k)) gs) made.0
              (total ones old) (total ones gs) (total ones kept) (total ones (without h.root kept)) (total rules old) (total rules gs) (total rules kept) (total (λ x. length (atoms_in h x)) old) (total left old)
              e1 e2 e3 e4 e5 e6 (same_items h valid f valid.tree.0 t valid.tree.1);
        },
      )
    where
      sums : (items items_f taken_atoms taken_mems added ones_old ones_gs ones_kept ones_rest rules_old rules_gs rules_kept atoms_old left_old : ℕ)
          → ones_old ≡ ones_gs + ones_kept → rules_old ≡ rules_gs + rules_kept → ones_kept ≡ 1 + ones_rest → atoms_old ≡ taken_atoms + left_old → items ≡ ones_old + atoms_old + rules_old
          → taken_mems ≡ ones_gs + rules_gs → items_f ≡ items → (ones_rest + left_old + rules_kept + added) + (taken_atoms + taken_mems) + 1 ≡ items_f + added
      sums items items_f taken_atoms taken_mems added ones_old ones_gs ones_kept ones_rest rules_old rules_gs rules_kept atoms_old left_old e1 e2 e3 e4 e5 e6 e7 = omega arith
