-- A part that can be copied has a copy.
use Rattle.std.proofs.Common.{ℕ, zero, suc, ◌≡◌, ◌+◌, ◌≤◌, List, [], ◌∷◌, ◌++◌, length, Option, Some, None, refl, sym, subst, ◌∙◌, inl, inr, arith, length-append, ◌<◌, ap}
use Rattle.std.specs.Prelude.{Bool, true, false, cond}
use Rattle.std.specs.Option.{option_and_then}
use Rattle.lmn_base.specs.Graphs.{Reached, at_root, across, Port}
use Rattle.lmn_store_heap.specs.Graphs.{atom_map}
use Rattle.lmn_store_heap.specs.Heap.{Heap, Distinct, IsAtom, arity_of, link_of}
use Rattle.lmn_store_heap.specs.Sound.{Sound}
use Rattle.lmn_store_heap.proofs.Depths.{both_distinct}
use Rattle.lmn_store_heap.proofs.Pigeonholes.{not_longer}
use Rattle.lmn_ground_parts.specs.Copies.{AreNew, Copied, answer, copied}
use Rattle.lmn_ground_parts.specs.Walks.{Walk, ends, finds, is_port, kept, net, neighbour, passes, port_range, IsPartInDepth}
use Rattle.lmn_ground.proofs.CopiedLaws.{answers_are, copied_beside, copied_free, copied_part, copied_same}
use Rattle.lmn_ground.proofs.GroundLaws.{part_atoms}
use Rattle.lmn_solid_bodies.proofs.Brought.{brings_copied, brings_listed}
use Rattle.lmn_adequacy_heaps.proofs.Runs.{in_run, run_distinct}
use Rattle.lmn_adequacy_heaps.proofs.Walking.{run}
use Rattle.lmn_machine_commit.specs.Preparing.{CanBeCopied}
use Rattle.lmn_adequacy_choices.proofs.Runs.{Bounded}
use Rattle.lmn_store_heap.proofs.Common.{decide_in, is_atom_at}
use Rattle.lmn_store_heap.proofs.Replacing.{port_within}
use Rattle.lmn_base.specs.Lists.{In}
use Rattle.lmn_base.proofs.Lists.{in_either}

-- ---- a walk

module _ (arity : ℕ → ℕ) (to : ℕ × ℕ → Option ℕ) (all : List ℕ) (inside : (p : ℕ × ℕ) (b : ℕ) → to p ≡ Some b → In b all) where
  abbrev Found : List ℕ → List (ℕ × ℕ) → Type 0
  Found seen ps = (xs : List ℕ) × Walk arity to seen ps xs

  same_atom : (b c : ℕ) → ◌≡◌ {A = Option ℕ} (Some b) (Some c) → b ≡ c
  same_atom b c e = cc

  -- through the ports that are left, where each new atom is gone on from
  through : (seen : List ℕ) → ((b : ℕ) → In b all → (In b seen → ⊥) → (qs : List (ℕ × ℕ)) → Found (seen ++ b ∷ []) qs) → (ps : List (ℕ × ℕ)) → Found seen ps
  through seen rec [] = (seen, ends)
  through seen rec (p ∷ ps) = by (to p) refl (through seen rec ps)
    where
      by : (o : Option ℕ) → to p ≡ o → Found seen ps → Found seen (p ∷ ps)
      by None e w = (w.0, passes (λ b q. absurd (let n : ◌≡◌ {A = Option ℕ} None (Some b) = sym e ∙ q in cc)) w.1)
      by (Some b) e w = elim (decide_in b seen) [
        | inl i ↦ (w.0, passes (λ c q. subst (λ z. In z seen) (same_atom b c (sym e ∙ q)) i) w.1)
        | inr o ↦ (let u = rec b (inside p b e) o (port_range b 0 (arity b) ++ ps) in (u.0, finds e o u.1))
      ]

  one_more : (seen : List ℕ) (b : ℕ) → Distinct seen → (In b seen → ⊥) → Distinct (seen ++ b ∷ [])
  one_more seen b d o = both_distinct seen (b ∷ []) d (tt, tt) (λ a i j. elim j [ inl e ↦ o (subst (λ z. In z seen) (sym e) i) | inr k ↦ k ])

  still_in : (seen : List ℕ) (b : ℕ) → ((x : ℕ) → In x seen → In x all) → In b all → (x : ℕ) → In x (seen ++ b ∷ []) → In x all
  still_in seen b s i x j = elim (in_either x seen (b ∷ []) j) [ inl k ↦ s x k | inr k ↦ elim k [ inl e ↦ subst (λ z. In z all) e i | inr n ↦ absurd n ] ]

  walk_exists : (k : ℕ) (seen : List ℕ) → Distinct seen → ((x : ℕ) → In x seen → In x all) → length all ≤ length seen + k → (ps : List (ℕ × ℕ)) → Found seen ps
  walk_exists zero seen d s l ps = through seen (λ b i o qs.
      let m = not_longer (seen ++ b ∷ []) all (one_more seen b d o) (still_in seen b s i) in let n = length-append seen (b ∷ []) in absurd (omega (arith, l, m, n))) ps
  walk_exists (suc k) seen d s l ps = through seen (λ b i o qs.
      let n = length-append seen (b ∷ []) in walk_exists k (seen ++ b ∷ []) (one_more seen b d o) (still_in seen b s i) (omega (arith, l, n)) qs) ps

-- ---- a copy

-- the other end of a link is an atom
end_atom : (s : Heap) → Sound s → (a i b j : ℕ) → link_of s a i ≡ Some (b, j) → IsAtom s b
end_atom s sound a i b j e = is_atom_at s b j (port_within s b j _ (sound.paired.back a i b j e))

reached_atom : (s : Heap) → Sound s → (root : ℕ × ℕ) → IsAtom s root.0 → {x : ℕ} → Reached (atom_map s) root x → IsAtom s x
reached_atom s sound root h at_root = h
reached_atom s sound root h (across {a = a} {b = b} {i = i} {j = j} r d e) = end_atom s sound a i b j e

-- what a port leads to is an atom
leads_to_atom : (s : Heap) → Sound s → (root p : ℕ × ℕ) (b : ℕ) → neighbour (net s) root (λ _. true) p ≡ Some b → IsAtom s b
leads_to_atom s sound root p b e = by (is_port p root) e
  where
    other : (o : Option (ℕ × ℕ)) → link_of s p.0 p.1 ≡ o → option_and_then (kept (λ _. true)) o ≡ Some b → IsAtom s b
    other None l q = absurd (cc)
    other (Some z) l q = let same : z.0 ≡ b = cc in subst (IsAtom s) same (end_atom s sound p.0 p.1 z.0 z.1 l)

    by : (t : Bool) → cond t None (option_and_then (kept (λ _. true)) (link_of s p.0 p.1)) ≡ Some b → IsAtom s b
    by true q = absurd (cc)
    by false q = other (link_of s p.0 p.1) refl q

-- a row has as many values as it is long
pub length_run : (f : ℕ → ℕ) (n k : ℕ) → length (run f n k) ≡ k
length_run f n zero = refl
length_run f n (suc k) = let u = length_run f (n + 1) k in omega (arith, u)

-- A copy of a part, whose atoms have the new numbers from q on.
pub record HasCopy (s : Heap) (root : ℕ × ℕ) (number : ℕ → ℕ) (q : ℕ) : Type 0 where
  pub heap : Heap
  pub new_root : ℕ × ℕ
  pub many : ℕ
  pub is : Copied s heap root new_root
  pub atoms : is.copies ≡ run number q many
  pub sound : Sound heap

-- a part that can be copied has a copy with these numbers
pub copy_exists : (s : Heap) → Sound s → (all : List ℕ) → Bounded s all → (root : ℕ × ℕ) → CanBeCopied s root → (number : ℕ → ℕ) (q : ℕ) → ((i j : ℕ) → number i ≡ number j → i ≡ j) → ((j : ℕ) → q ≤ j → s.atoms (number j) ≡ None) → HasCopy s root number q
copy_exists s sound all bounded root can number q apart fresh =
    let w = walk_exists (arity_of s) (neighbour (net s) root (λ _. true)) all (λ p b e. bounded b (leads_to_atom s sound root p b e)) (length all) (root.0 ∷ []) (tt, tt)
    (λ x i. elim i [ inl e ↦ bounded x (subst (IsAtom s) e can.atom) | inr n ↦ absurd n ]) (omega arith) (port_range root.0 0 (arity_of s root.0)) in
    let xs = w.0 in
    let part : IsPartInDepth s root xs = w.1 in
    let ys = run number q (length xs) in
    let long : length ys ≡ length xs = length_run number q (length xs) in
    let there : (x : ℕ) → In x xs → IsAtom s x = λ x i. reached_atom s sound root can.atom (((part_atoms s root xs part).1 x).0 i) in
    let new : AreNew s ys = (
      run_distinct number q (length xs) (λ i j l k e. let d = apart (q + i) (q + j) e in omega (arith, d)),
      λ y i. let u = in_run number q (length xs) y i in subst (λ z. s.atoms z ≡ None) u.2 (fresh (q + u.0) (omega arith)),
    ) in
    let t = copied s root xs ys in
    let new_root : ℕ × ℕ = (answer xs ys root.0, root.1) in
    let beside = copied_beside s root xs ys sound can.whole part there new long can.outside in
    let c : Copied s t root new_root = record {
      atoms = xs;
      copies = ys;
      part = part;
      is = refl;
      beside = beside;
      same = copied_same s root xs ys sound can.whole part there new long can.outside;
      long = long;
      answers = answers_are s root xs ys sound can.whole part there new long can.outside;
      in_order = copied_part s root xs ys sound can.whole part there new long can.outside;
      free = copied_free s root xs ys sound can.whole part there new long can.outside;
    } in
    let b = brings_copied s t root new_root c in
    record {
      heap = t;
      new_root = new_root;
      many = length xs;
      is = c;
      atoms = refl;
      sound = record { paired = b.paired sound.paired; listed = brings_listed s t ys b beside.mems beside.new_mems beside.root sound.listed; shaped = b.shaped sound.shaped };
    }

-- ---- copies, as registers

-- these are the root ports and the atoms of copies, from number c on
abbrev pub AreThese : List (Port × List ℕ) → (ℕ → Port) → (ℕ → List ℕ) → ℕ → Type 0
AreThese [] copy atoms_of c = Unit {0}
AreThese (p ∷ ps) copy atoms_of c = (copy c ≡ p.0) × (atoms_of c ≡ p.1) × AreThese ps copy atoms_of (c + 1)

-- the root of the copy with a number
abbrev pub copy_in : List (Port × List ℕ) → ℕ → Port
copy_in [] i = (0, 0)
copy_in (p ∷ ps) zero = p.0
copy_in (p ∷ ps) (suc i) = copy_in ps i

-- and its atoms
abbrev pub copied_in : List (Port × List ℕ) → ℕ → List ℕ
copied_in [] i = []
copied_in (p ∷ ps) zero = p.1
copied_in (p ∷ ps) (suc i) = copied_in ps i

these_from : (copy : ℕ → Port) (atoms_of : ℕ → List ℕ) (ps : List (Port × List ℕ)) (c : ℕ) → ((i : ℕ) → i < length ps → (copy (c + i) ≡ copy_in ps i) × (atoms_of (c + i) ≡ copied_in ps i)) → AreThese ps copy atoms_of c
these_from copy atoms_of [] c f = tt
these_from copy atoms_of (p ∷ ps) c f =
    let z : c + 0 ≡ c = omega arith in
    let u = f 0 (omega arith) in (
      subst (λ n. copy n ≡ p.0) z u.0,
      subst (λ n. atoms_of n ≡ p.1) z u.1,
      these_from copy atoms_of ps (c + 1) (λ i l.
          let w = f (suc i) (omega (arith, l)) in
          let e : c + suc i ≡ (c + 1) + i = omega arith in
          (subst (λ n. copy n ≡ copy_in ps i) e w.0, subst (λ n. atoms_of n ≡ copied_in ps i) e w.1)),
    )

-- so the copies are told by their numbers
pub these_are : (ps : List (Port × List ℕ)) → AreThese ps (copy_in ps) (copied_in ps) 0
these_are ps = these_from (copy_in ps) (copied_in ps) ps 0 (λ i l. let e : 0 + i ≡ i = omega arith in (ap (copy_in ps) e, ap (copied_in ps) e))
