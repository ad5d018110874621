-- The atoms of a copy in the solid.
use Rattle.std.proofs.Common.{ℕ, zero, suc, ◌+◌, ◌<◌, ◌≤◌, ◌≡◌, ◌≢◌, ◌==◌, Bool, true, false, cond, List, [], ◌∷◌, ◌++◌, map, length, Option, Some, None, IsSome, refl, sym, ap, subst, ◌∙◌, inl, inr, arith}
use Rattle.std.proofs.lemmas.Bool.{eq-eqb, eqb-true}
use Rattle.std.specs.Option.{option_map}
use Rattle.lmn_base.specs.declared.functor.Functor.{Functor}
use Rattle.lmn_base.specs.Graphs.{Reached, at_root, Port}
use Rattle.lmn_store_heap.specs.Heap.{Heap, HeapAtom, functor_of, arity_of, IsAtom, IsInPlace}
use Rattle.lmn_store_heap.specs.Sound.{Valid}
use Rattle.lmn_store_heap.specs.Graphs.{atom_map}
use Rattle.lmn_store_heap.specs.Solid.{links_from, solid_atom_at, solid_atoms_at}
use Rattle.lmn_store_heap.proofs.Replacing.{port_within}
use Rattle.lmn_ground_parts.specs.Walks.{HasPort, port_range, net, neighbour}
use Rattle.lmn_ground_parts.specs.Copies.{answer, moved, ports_of}
use Rattle.lmn_ground_parts.proofs.WalkLaws.{once, holds_left, holds_right, holds_port}
use Rattle.lmn_ground_parts.proofs.AnswerLaws.{answer_in, map_answer}
use Rattle.lmn_congruence_splice.proofs.Joining.{same_some}
use Rattle.lmn_solid_bodies.specs.Tied.{partners}
use Rattle.lmn_solid_bodies.specs.Fired.{linked_by}
use Rattle.lmn_solid_bodies.specs.Names.{StandsPort, Names}
use Rattle.lmn_solid_bodies.specs.Within.{IsCopyIn}
use Rattle.lmn_solid_bodies.specs.CopiedSolid.{Hangs, IsSolidCopy}
use Rattle.lmn_solid_bodies.proofs.Brought.{in_part, part_all, reached_into}
use Rattle.lmn_base.proofs.Common.{port_cases}
use Rattle.lmn_store_heap.proofs.Common.{is_atom_at}
use Rattle.lmn_base.specs.Lists.{In}
use Rattle.lmn_base.proofs.Lists.{map_append}

-- a port of one of these atoms
abbrev PortOf : Heap → List ℕ → Port → Type 0
PortOf h xs p = In p.0 xs × (p.1 < arity_of h p.0)

-- such a port is among all of them, and they are such
pub port_there : (h : Heap) (xs : List ℕ) (p : Port) → In p.0 xs → p.1 < arity_of h p.0 → HasPort p (ports_of h xs)
port_there h [] p i l = absurd i
port_there h (x ∷ xs) p (inl e) l =
    holds_left p (port_range x 0 (arity_of h x)) (ports_of h xs)
    (subst (λ (z : ℕ). HasPort (z, p.1) (port_range x 0 (arity_of h x))) e (holds_port x 0 (arity_of h x) p.1 (omega arith) (below p.1 (arity_of h x) (subst (λ (z : ℕ). p.1 < arity_of h z) (sym e) l))))
  where
    below : (k n : ℕ) → k < n → k < 0 + n
    below k n l = omega arith
port_there h (x ∷ xs) p (inr i) l = holds_right p (port_range x 0 (arity_of h x)) (ports_of h xs) (port_there h xs p i l)

of_ports : (h : Heap) (all : List ℕ) (a i n : ℕ) (ps : List Port) → In a all → i + n ≤ arity_of h a → ((p : Port) → HasPort p ps → PortOf h all p) → (p : Port) → HasPort p (port_range a i n ++ ps) → PortOf h all p
of_ports h all a i zero ps k l r p j = r p j
of_ports h all a i (suc n) ps k l r p (inl e) = subst (PortOf h all) e (k, here i n (arity_of h a) l)
  where
    here : (i n m : ℕ) → i + suc n ≤ m → i < m
    here i n m l = omega arith
of_ports h all a i (suc n) ps k l r p (inr j) = of_ports h all a (i + 1) n ps k (on i n (arity_of h a) l) r p j
  where
    on : (i n m : ℕ) → i + suc n ≤ m → (i + 1) + n ≤ m
    on i n m l = omega arith

pub all_ports : (h : Heap) (all xs : List ℕ) → ((a : ℕ) → In a xs → In a all) → (p : Port) → HasPort p (ports_of h xs) → PortOf h all p
all_ports h all [] sub p k = absurd k
all_ports h all (x ∷ xs) sub p k = of_ports h all x 0 (arity_of h x) (ports_of h xs) (sub x (inl refl)) (omega arith) (all_ports h all xs (λ a i. sub a (inr i))) p k

-- the image of a link: the number of the image of the first port at which it stands
pub image_of : (c number : Port → ℕ) (f : ℕ → ℕ) → List Port → ℕ → ℕ
image_of c number f [] x = 0
image_of c number f (p ∷ ps) x = cond (c p == x) (number (moved f p)) (image_of c number f ps x)

pub image_at : (c number : Port → ℕ) (f : ℕ → ℕ) (ps : List Port) (p : Port) → HasPort p ps → ((q : Port) → HasPort q ps → c q ≡ c p → number (moved f q) ≡ number (moved f p)) → image_of c number f ps (c p) ≡ number (moved f p)
unfolding image_of
image_at c number f [] p k e = absurd k
image_at c number f (q ∷ ps) p (inl s) e = rw (eq-eqb (c q) (c p) (ap c s)) (ap (λ (z : Port). number (moved f z)) s)
image_at c number f (q ∷ ps) p (inr k) e = by (c q == c p) refl (image_at c number f ps p k (λ z i. e z (inr i)))
  where
    by : (t : Bool) → (c q == c p) ≡ t → image_of c number f ps (c p) ≡ number (moved f p) → cond t (number (moved f q)) (image_of c number f ps (c p)) ≡ number (moved f p)
    by true t r = e q (inl refl) (eqb-true (c q) (c p) t)
    by false t r = r

-- an atom with its links at their images
numbered_moved : (u v : ℕ → ℕ → ℕ) (g f : ℕ → ℕ) (a i n : ℕ) → ((j : ℕ) → i ≤ j → j < i + n → v (f a) j ≡ g (u a j)) → links_from v (f a) i n ≡ map g (links_from u a i n)
numbered_moved u v g f a i zero e = refl
numbered_moved u v g f a i (suc n) e =
    let x = e i (omega arith) (omega arith) in
    let xs = numbered_moved u v g f a (i + 1) n (λ j l k. e j (low l) (high k)) in
    λ t. x t ∷ xs t
  where
    low : {j : ℕ} → i + 1 ≤ j → i ≤ j
    low {j = j} l = omega arith

    high : {j : ℕ} → j < i + 1 + n → j < i + suc n
    high {j = j} l = omega arith

atom_moved : (u v : ℕ → ℕ → ℕ) (g f : ℕ → ℕ) (a : ℕ) (o q : Option HeapAtom) → option_map (λ x. x.functor) q ≡ option_map (λ x. x.functor) o → ((x : HeapAtom) → o ≡ Some x → (j : ℕ) → j < x.functor.arity → v (f a) j ≡ g (u a j))
    → solid_atom_at v (f a) q ≡ map (linked_by g) (solid_atom_at u a o)
atom_moved u v g f a None None e w = refl
atom_moved u v g f a None (Some x) e w = absurd (cc)
atom_moved u v g f a (Some x) None e w = absurd (cc)
atom_moved u v g f a (Some x) (Some y) e w =
    let s : y.functor ≡ x.functor = (cc) in
    let ls : links_from v (f a) 0 y.functor.arity ≡ map g (links_from u a 0 x.functor.arity) = ap (λ (k : Functor). links_from v (f a) 0 k.arity) s
    ∙ numbered_moved u v g f a 0 x.functor.arity (λ j l k. w x refl j (plain j x.functor.arity k)) in
    λ t. (record { functor = s t; links = ls t }) ∷ []
  where
    plain : (j n : ℕ) → j < 0 + n → j < n
    plain j n l = omega arith

pub atoms_moved : (h h' : Heap) (u v : ℕ → ℕ → ℕ) (g f : ℕ → ℕ) (xs : List ℕ) → ((a : ℕ) → In a xs → functor_of h' (f a) ≡ functor_of h a)
    → ((a : ℕ) → In a xs → (x : HeapAtom) → h.atoms a ≡ Some x → (j : ℕ) → j < x.functor.arity → v (f a) j ≡ g (u a j)) → solid_atoms_at h' v (map f xs) ≡ map (linked_by g) (solid_atoms_at h u xs)
atoms_moved h h' u v g f [] e w = refl
atoms_moved h h' u v g f (a ∷ xs) e w =
    let here = atom_moved u v g f a (h.atoms a) (h'.atoms (f a)) (e a (inl refl)) (w a (inl refl)) in
    let rest = atoms_moved h h' u v g f xs (λ b i. e b (inr i)) (λ b i. w b (inr i)) in
    (λ t. here t ++ rest t) ∙ sym (map_append (linked_by g) (solid_atom_at u a (h.atoms a)) (solid_atoms_at h u xs))

module _ (h : Heap) (valid : Valid h) (c : Port → ℕ) (names : Names h c) (h' : Heap) (valid' : Valid h') (number : Port → ℕ) (named : Names h' number) (root copy : Port) (ys : List ℕ)
    (k : IsCopyIn h h' root copy ys) (placed : (y : ℕ) → In y ys → IsInPlace h' y) (hangs : Hangs h root) where
  abbrev xs : List ℕ
  xs = k.atoms

  abbrev f : ℕ → ℕ
  f = answer xs ys

  abbrev to : ℕ → ℕ
  to = image_of c number f (ports_of h xs)

  long : length xs ≤ length ys
  long = omega (arith, k.long)

  root_port : root.1 < arity_of h root.0
  root_port = port_within h root.0 root.1 hangs.0 hangs.1

  root_there : IsAtom h root.0
  root_there = is_atom_at h root.0 root.1 root_port

  there : (a : ℕ) → In a xs → IsAtom h a
  there a i = (reached_into h h root valid.sound.paired root_there (λ p is. refl) a (in_part h root xs k.part a i)).0

  stands : (p : Port) → In p.0 xs → p.1 < arity_of h p.0 → StandsPort h p
  stands p i l = (valid.settled.atoms p.0 (there p.0 i), l)

  arity_same : (a : ℕ) → In a xs → arity_of h' (f a) ≡ arity_of h a
  arity_same a i = by (functor_of h a) refl (there a i)
    where
      none : (q : Option HeapAtom) → option_map (λ x. x.functor) q ≡ None → IsSome q → ⊥
      none None e is = absurd (cc)
      none (Some x) e is = absurd (cc)

      by : (o : Option Functor) → functor_of h a ≡ o → IsAtom h a → arity_of h' (f a) ≡ arity_of h a
      by None e is = absurd (none (h.atoms a) e is)
      by (Some g) e is = valid'.sound.shaped.ports (f a) g (k.functors a i ∙ e) ∙ sym (valid.sound.shaped.ports a g e)

  stands' : (p : Port) → In p.0 xs → p.1 < arity_of h p.0 → StandsPort h' (moved f p)
  stands' p i l = (placed (f p.0) (answer_in xs ys p.0 long i), subst (λ n. p.1 < n) (sym (arity_same p.0 i)) l)

  -- what a port of the part but the root is joined to
  inner : (p q : Port) → In p.0 xs → p ≢ root → partners h p ≡ Some q → In q.0 xs × (partners h' (moved f p) ≡ Some (moved f q))
  inner p q i d e = k.inner p.0 p.1 q.0 q.1 i d e

  not_out : (q : Port) → partners h root ≡ Some q → In q.0 xs → ⊥
  not_out q e i =
      let same : hangs.0 ≡ q = same_some hangs.0 q (sym hangs.1 ∙ e) in
      hangs.2 (subst (λ (z : Port). Reached (atom_map h) root z.0) (sym same) (in_part h root xs k.part q.0 i))

  partner_number : (p q : Port) → StandsPort h' p → partners h' p ≡ Some q → number q ≡ number p
  partner_number p q st e = let w = named.partner p st in ap number (same_some q w.0 (sym e ∙ w.2)) ∙ w.4

  -- ports of one link have images of one link
  one_image : (p q : Port) → In p.0 xs → p.1 < arity_of h p.0 → In q.0 xs → q.1 < arity_of h q.0 → c q ≡ c p → number (moved f q) ≡ number (moved f p)
  one_image p q i l j m e = elim (names.only p q (stands p i l) (stands q j m) (sym e)) [
    | inl s ↦ ap (λ (z : Port). number (moved f z)) (sym s)
    | inr s ↦ elim (port_cases p root) [
      | inl o ↦ absurd (not_out q (ap (partners h) (sym o) ∙ s) j)
      | inr d ↦ partner_number (moved f p) (moved f q) (stands' p i l) (inner p q i d s).1
    ]
  ]

  to_is : (p : Port) → In p.0 xs → p.1 < arity_of h p.0 → to (c p) ≡ number (moved f p)
  to_is p i l = image_at c number f (ports_of h xs) p (port_there h xs p i l) (λ q m e. let w = all_ports h xs xs (λ a i. i) q m in one_image p q i l w.0 w.1 e)

  pub solid_copy : IsSolidCopy h c h' number root copy ys (solid_atoms_at h' (λ a i. number (a, i)) ys)
  solid_copy = record {
    atoms = xs;
    part = k.part;
    to = to;
    are = ap (solid_atoms_at h' (λ a i. number (a, i))) (sym (map_answer xs ys (once (net h).arity (neighbour (net h) root (λ _. true)) k.part (tt, tt)) k.long))
        ∙ atoms_moved h h' (λ a i. c (a, i)) (λ a i. number (a, i)) to f xs k.functors
        (λ a i x e j l. sym (to_is (a, j) i (subst (λ n. j < n) (sym (valid.sound.shaped.ports a x.functor (ap (option_map (λ (z : HeapAtom). z.functor)) e))) l)));
    entered = to_is root root_in root_port ∙ ap number (sym k.entered);
    apart = λ p q i l d st e. by p q i l d st (sym (to_is p i l) ∙ sym e) (partners h p) refl (valid.full p.0 p.1 l);
  }
    where
      root_in : In root.0 xs
      root_in = part_all h root xs valid.sound.paired k.part root.0 at_root

      by : (p q : Port) → In p.0 xs → p.1 < arity_of h p.0 → p ≢ root → StandsPort h' q → number (moved f p) ≡ number q → (o : Option Port) → partners h p ≡ o → IsSome o → In q.0 ys
      by p q i l d st e None g is = absurd (cc)
      by p q i l d st e (Some z) g is = elim (named.only (moved f p) q (stands' p i l) st e) [
        | inl s ↦ subst (λ (w : Port). In w.0 ys) s (answer_in xs ys p.0 long i)
        | inr s ↦ (let w = inner p z i d g in subst (λ (v : Port). In v.0 ys) (same_some (moved f z) q (sym w.1 ∙ s)) (answer_in xs ys z.0 long w.0))
      ]
