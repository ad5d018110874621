-- What the walks say of parts.
use Rattle.std.proofs.Common.{◌≡◌, ◌↔◌, ℕ, ◌+◌, ◌<◌, Bool, true, false, List, [], ◌∷◌, length, Option, Some, None, IsSome, zero, suc, refl, sym, ap, subst, ◌∙◌, inl, inr, arith}
use Rattle.std.specs.Option.{option_map}
use Rattle.lmn_base.specs.declared.functor.Functor.{Functor}
use Rattle.lmn_base.specs.Graphs.{Reached, at_root, across}
use Rattle.lmn_store_heap.specs.Heap.{Heap, HeapAtom, IsAtom, arity_of, link_of, functor_of}
use Rattle.lmn_store_heap.specs.Sound.{Sound}
use Rattle.lmn_store_heap.specs.Graphs.{atom_map}
use Rattle.lmn_ground.specs.Spread.{IsWhole, IsGroundIn, Spread, AreAtoms}
use Rattle.lmn_ground_parts.proofs.WalkLaws.{once, only}
use Rattle.lmn_ground.proofs.SoughtLaws.{next_root, next_link, next_none}
use Rattle.lmn_ground.proofs.PaintLaws.{net_painted, is_painted, with_port}
use Rattle.lmn_store_heap.proofs.Pigeonholes.{not_longer}
use Rattle.lmn_ground.proofs.SpreadLaws.{not_root, part_reached}
use Rattle.lmn_ground_parts.specs.Walks.{port_range, neighbour, IsPartInDepth, HasPort, Net, net, is_port}
use Rattle.lmn_base.specs.Lists.{In}

-- the root in the marked heap
pub root_there : (before now : Heap) (root : ℕ × ℕ) (count : ℕ) (all : Bool) → Spread before now root count all → IsAtom before root.0 → IsAtom now root.0
root_there before now root count all t i = subst (λ (s : Heap). IsAtom s root.0) (sym t.is) (is_painted before t.marks root.0 i)

-- the port of the root is still there after the walk
pub root_port_there : (before now : Heap) (root : ℕ × ℕ) (count : ℕ) (all : Bool) → Spread before now root count all → root.1 < arity_of before root.0 → root.1 < arity_of now root.0
root_port_there before now root count all t l = subst (λ (n : Net). root.1 < n.arity root.0) (sym (ap net t.is ∙ net_painted before t.marks)) l

-- fitting in a membrane is being ground in it
pub fits_ground : (s : Heap) (root : ℕ × ℕ) (home : ℕ) → Sound s → IsWhole s root (Some home) ↔ IsGroundIn s root home
fits_ground s root home sound = (
  λ f. record {
    whole = record {
      at_home = λ a r. (f.atoms a r).0;
      no_other_end = λ a i g r is l d. f.ends a i r (let e = sound.shaped.ports a g is in omega (arith, e, l)) d;
    };
    unmatched = λ a r. (f.atoms a r).1;
  },
  λ g. record {
    atoms = λ a r. (g.whole.at_home a r, g.unmatched a r);
    ends = λ a i r l d. by a i l (s.atoms a) refl (with_port s a (omega (arith, l))) (λ f is m. g.whole.no_other_end a i f r is m d);
  },
)
  where
    by : (a i : ℕ) → i < arity_of s a → (o : Option HeapAtom) → s.atoms a ≡ o → IsSome (s.atoms a) → ((f : Functor) → functor_of s a ≡ Some f → i < f.arity → IsSome (link_of s a i)) → IsSome (link_of s a i)
    by a i l None e is h = let is' = subst (λ (o : Option HeapAtom). IsSome o) e is in absurd (cc)
    by a i l (Some x) e is h =
        let f : functor_of s a ≡ Some x.functor = ap (option_map (λ (y : HeapAtom). y.functor)) e in
        let p = sound.shaped.ports a x.functor f in
        h x.functor f (omega (arith, l, p))

-- a part that is ground in a membrane is whole
pub ground_full : (s t : Heap) (root : ℕ × ℕ) (home : ℕ) → Sound s → IsGroundIn s root home → t ≡ s → IsWhole t root None
ground_full s t root home sound g e =
    let f = (fits_ground s root home sound).1 g in
    subst (λ (h : Heap). IsWhole h root None) (sym e) (record { atoms = λ a r. tt; ends = f.ends })

-- the walk finds what is reached, and that once
pub part_atoms : (s : Heap) (root : ℕ × ℕ) (all : List ℕ) → IsPartInDepth s root all → AreAtoms s root all
part_atoms s root all w = (
  once (net s).arity (neighbour (net s) root (λ _. true)) w (tt, tt),
  λ a. (
    λ k. only (net s).arity (neighbour (net s) root (λ _. true)) (Reached (atom_map s) root) step w (λ x i. at_start x i) (λ p h. from_root p (arity_of s root.0) 0 h) a k,
    λ r. part_reached s root all w a r,
  ),
)
  where
    at_start : (x : ℕ) → In x (root.0 ∷ []) → Reached (atom_map s) root x
    at_start x (inl e) = subst (Reached (atom_map s) root) e at_root
    at_start x (inr k) = absurd k

    from_root : (p : ℕ × ℕ) (n i : ℕ) → HasPort p (port_range root.0 i n) → Reached (atom_map s) root p.0
    from_root p zero i h = absurd h
    from_root p (suc n) i (inl e) = subst (λ (q : ℕ × ℕ). Reached (atom_map s) root q.0) e at_root
    from_root p (suc n) i (inr h) = from_root p n (i + 1) h

    step : (a i b : ℕ) → Reached (atom_map s) root a → neighbour (net s) root (λ _. true) (a, i) ≡ Some b → Reached (atom_map s) root b
    step a i b r e = at (is_port (a, i) root) refl (link_of s a i) refl
      where
        at : (t : Bool) → is_port (a, i) root ≡ t → (o : Option (ℕ × ℕ)) → link_of s a i ≡ o → Reached (atom_map s) root b
        at true f o g = let z = next_root (net s) root (λ _. true) (a, i) f in absurd (cc)
        at false f None g = let z = next_none (net s) root (λ _. true) a i g in absurd (cc)
        at false f (Some q) g = subst (Reached (atom_map s) root) (next_link (net s) root (λ _. true) a i q.0 b q.1 g e) (across r (not_root a i root f) g)

-- there is one number of atoms
pub one_size : (s : Heap) (root : ℕ × ℕ) (all xs : List ℕ) → IsPartInDepth s root all → AreAtoms s root xs → length all ≡ length xs
one_size s root all xs w are =
    let p = part_atoms s root all w in
    let h = not_longer all xs p.0 (λ x k. (are.1 x).1 ((p.1 x).0 k)) in
    let g = not_longer xs all are.0 (λ x k. (p.1 x).1 ((are.1 x).0 k)) in
    omega (arith, h, g)

-- a walk counts the atoms of the part
pub size_is : (before now : Heap) (root : ℕ × ℕ) (count : ℕ) (all : Bool) → Spread before now root count all → all ≡ true → (xs : List ℕ) → AreAtoms before root xs → count ≡ length xs
size_is before now root count all t e xs are = sym t.counted ∙ one_size before root t.seen xs (t.whole e) are

-- and lists them
pub some_part : (before now : Heap) (root : ℕ × ℕ) (count : ℕ) (all : Bool) → Spread before now root count all → all ≡ true → (xs : List ℕ) × IsPartInDepth before root xs × (length xs ≡ count)
some_part before now root count all t e = (t.seen, t.whole e, t.counted)
