-- What a walk back does to its atoms, while the marks are taken back.
use Rattle.std.proofs.Common.{false, ◌≡◌, ℕ, Bool, ◌+◌, ◌<◌, ◌≤◌, List, [], ◌∷◌, ◌++◌, Some, refl, sym, ap, subst, ◌∙◌, inl, inr, arith}
use Rattle.lmn_base.specs.Lists.{In}
use Rattle.lmn_store_heap.specs.Heap.{Heap, IsAtom, IsInPlace, arity_of, link_of, marked}
use Rattle.lmn_ground_parts.specs.Walks.{neighbour, is_port, Net, net, is_in, Walk, ends}
use Rattle.lmn_ground_parts.proofs.WalkLaws.{determined}
use Rattle.lmn_ground.specs.Deeds.{CanDo, all_done, done}
use Rattle.lmn_ground.specs.declared.wipe.Deed.{Deed}
use Rattle.lmn_ground.specs.declared.wipe.Deed.TheVariants.{Leave, Take, SetOwn}
use Rattle.lmn_ground.specs.Marks.{back, first_marks, weight}
use Rattle.lmn_ground.specs.Spread.{Spread, Wiping}
use Rattle.lmn_ground.proofs.SoughtLaws.{no_port_left}
use Rattle.lmn_ground.proofs.PaintLaws.{net_painted, with_port}
use Rattle.lmn_ground.proofs.TakeLaws.{firsts_taken, net_taken, root_placed, root_seen, still_placed, taken_snoc, there_taken, wiping_taken}
use Rattle.lmn_ground.proofs.OwnLaws.{firsts_owned, net_owned, owned_snoc, there_owned, wiping_owned}

-- a deed is done where the one is done that it is
pub done_as : (deed d : Deed) (a : ℕ) (s to : Heap) → deed ≡ d → to ≡ done d a s → to ≡ done deed a s
done_as deed d a s to e h = subst (λ (x : Deed). to ≡ done x a s) (sym e) h

-- and can be done
pub can_as : (deed d : Deed) (xs : List ℕ) (s : Heap) → deed ≡ d → CanDo deed xs s → CanDo d xs s
can_as deed d xs s e h = subst (λ (x : Deed). CanDo x xs s) e h

-- ports stay joined
net_done : (d : Deed) (s : Heap) (b : ℕ) → net (done d b s) ≡ net s
net_done Leave s b = refl
net_done Take s b = net_taken s b
net_done (SetOwn v) s b = net_owned s b v

-- the first marks stay, where there is a port
firsts_done : (d : Deed) (s : Heap) (b : ℕ) → 0 < arity_of s b → first_marks (done d b s) ≡ first_marks s
firsts_done Leave s b l = refl
firsts_done Take s b l = firsts_taken s b
firsts_done (SetOwn v) s b l = firsts_owned s b v l

-- one more at the end
done_snoc : (d : Deed) (xs : List ℕ) (b : ℕ) (s : Heap) → all_done d (xs ++ b ∷ []) s ≡ done d b (all_done d xs s)
done_snoc Leave xs b s = refl
done_snoc Take xs b s = taken_snoc s xs b
done_snoc (SetOwn v) xs b s = owned_snoc v xs b s

-- the first
done_one : (d : Deed) (b : ℕ) (s : Heap) → all_done d (b ∷ []) s ≡ done d b s
done_one Leave b s = refl
done_one Take b s = refl
done_one (SetOwn v) b s = refl

-- The walk doesn't see what is done.
wiping_done : (d : Deed) (before now : Heap) (root : ℕ × ℕ) (seen met : List ℕ) (depth a i left b : ℕ) → 0 < arity_of before b → Wiping before now root seen met depth a i left
    → Wiping (done d b before) (done d b now) root seen met depth a i left
wiping_done Leave before now root seen met depth a i left b l w = w
wiping_done Take before now root seen met depth a i left b l w = wiping_taken before now root seen met depth a i left b w
wiping_done (SetOwn v) before now root seen met depth a i left b l w = wiping_owned before now root seen met depth a i left b v l w

-- the root comes first
pub first_done : (d : Deed) (before mid now : Heap) (root : ℕ × ℕ) (seen : List ℕ) (left : ℕ) → now ≡ done d root.0 mid → 0 < arity_of before root.0
    → Wiping before mid root seen (root.0 ∷ []) 0 root.0 0 left → Wiping (all_done d (root.0 ∷ []) before) now root seen (root.0 ∷ []) 0 root.0 0 left
first_done d before mid now root seen left e l w =
    subst (λ (s : Heap). Wiping s now root seen (root.0 ∷ []) 0 root.0 0 left) (sym (done_one d root.0 before))
    (subst (λ (s : Heap). Wiping (done d root.0 before) s root seen (root.0 ∷ []) 0 root.0 0 left) (sym e) (wiping_done d before mid root seen (root.0 ∷ []) 0 root.0 0 left root.0 l w))

-- entered and done
pub done_too : (d : Deed) (before0 : Heap) (root : ℕ × ℕ) (seen met : List ℕ) (mid to : Heap) (b depth c k l : ℕ) → to ≡ done d b mid → 0 < arity_of mid b
    → Wiping (all_done d met before0) mid root seen (met ++ b ∷ []) depth c k l → Wiping (all_done d (met ++ b ∷ []) before0) to root seen (met ++ b ∷ []) depth c k l
done_too d before0 root seen met mid to b depth c k l e has w =
    let before = all_done d met before0 in
    let n_mid : net mid ≡ net before = ap net w.is ∙ net_painted before w.marks in
    let has_before : 0 < arity_of before b = subst (λ (n : Net). 0 < n.arity b) n_mid has in
    subst (λ (s : Heap). Wiping s to root seen (met ++ b ∷ []) depth c k l) (sym (done_snoc d met b before0))
    (subst (λ (s : Heap). Wiping (done d b before) s root seen (met ++ b ∷ []) depth c k l) (sym e) (wiping_done d before mid root seen (met ++ b ∷ []) depth c k l b has_before w))

module _ (d : Deed) (mid to : Heap) (b : ℕ) (e : to ≡ done d b mid) where
  -- the ports are there
  pub port_done : (a i : ℕ) → i < arity_of mid a → i < arity_of to a
  port_done a i l = subst (λ (n : Net). i < n.arity a) (sym (ap net e ∙ net_done d mid b)) l

  -- and so are their atoms
  pub port_done_there : (a i : ℕ) → i < arity_of mid a → IsAtom to a
  port_done_there a i l = with_port to a (let h = port_done a i l in omega (arith, h))

  -- and the one to which something was done
  pub there_done : IsAtom mid b → IsAtom to b
  there_done = by d e
    where
      by : (d : Deed) → to ≡ done d b mid → IsAtom mid b → IsAtom to b
      by Leave f i = subst (λ (s : Heap). IsAtom s b) (sym f) i
      by Take f i = there_taken mid to b f i
      by (SetOwn v) f i = there_owned mid to b v f i

  -- the way back stays
  pub back_done : 0 < arity_of mid b → (x : ℕ) (p : ℕ × ℕ) → back (net mid) (first_marks mid) x ≡ p → back (net to) (first_marks to) x ≡ p
  back_done l x p h =
      ap (λ (s : Heap). back (net s) (first_marks s) x) e ∙ ap (λ (n : Net). back n (first_marks (done d b mid)) x) (net_done d mid b)
      ∙ ap (λ (v : ℕ → ℕ). back (net mid) v x) (firsts_done d mid b l) ∙ h

  -- as much is left to go through
  pub lighter_done : 0 < arity_of mid b → (depth c k m n : ℕ) → m + weight (net mid) (first_marks mid) depth c k < n → m + weight (net to) (first_marks to) depth c k < n
  lighter_done l depth c k m n h =
      let same : weight (net to) (first_marks to) depth c k ≡ weight (net mid) (first_marks mid) depth c k =
      ap (λ (s : Heap). weight (net s) (first_marks s) depth c k) e
      ∙ ap (λ (x : Net). weight x (first_marks (done d b mid)) depth c k) (net_done d mid b)
      ∙ ap (λ (w : ℕ → ℕ). weight (net mid) w depth c k) (firsts_done d mid b l) in
      subst (λ (x : ℕ). m + x < n) (sym same) h

-- the deed can be done to the root
pub root_can : (d : Deed) (before start : Heap) (root : ℕ × ℕ) (count : ℕ) (all : Bool) (t : Spread before start root count all) → CanDo d t.seen before
    → (to : Heap) → to ≡ marked start root.0 0 (256 + root.1) → CanDo d (root.0 ∷ []) to
root_can Leave before start root count all t can to made = tt
root_can Take before start root count all t can to made = λ x k. at x k
  where
    at : (x : ℕ) → In x (root.0 ∷ []) → IsInPlace to x
    at x (inl e) = subst (IsInPlace to) e (root_placed before start root count all t (can root.0 (root_seen before start root count all t)) to made)
    at x (inr k) = absurd k
root_can (SetOwn v) before start root count all t can to made = can

-- and to an atom that is entered
pub next_can : (d : Deed) (before0 : Heap) (root : ℕ × ℕ) (seen met : List ℕ) (now : Heap) (depth a i left : ℕ) → Wiping (all_done d met before0) now root seen met depth a i left → CanDo d seen before0
    → (to : Heap) (b j : ℕ) → to ≡ marked now b 0 (256 + j) → link_of now a i ≡ Some (b, j) → is_port (a, i) root ≡ false → 512 ≤ first_marks now b → CanDo d (b ∷ []) to
next_can Leave before0 root seen met now depth a i left t can to b j made link other high = tt
next_can Take before0 root seen met now depth a i left t can to b j made link other high = λ x k. at x k
  where
    at : (x : ℕ) → In x (b ∷ []) → IsInPlace to x
    at x (inl e) = subst (IsInPlace to) e (still_placed before0 root seen met now depth a i left t to b j made link other high can)
    at x (inr k) = absurd k
next_can (SetOwn v) before0 root seen met now depth a i left t can to b j made link other high = can

-- at the end all are met
pub all_wiped : (d : Deed) (before0 : Heap) (root : ℕ × ℕ) (seen met : List ℕ) (now : Heap) (depth a i left : ℕ) (t : Wiping (all_done d met before0) now root seen met depth a i left)
    (to : Heap) → to ≡ all_done d met before0 → depth ≡ 0 → i ≡ arity_of now a → to ≡ all_done d seen before0
all_wiped d before0 root seen met now depth a i left t to e zero_deep full =
    let before = all_done d met before0 in
    let f : net now ≡ net before = ap net t.is ∙ net_painted before t.marks in
    e ∙ ap (λ zs. all_done d zs before0) (by (subst (λ (z : ℕ). Wiping before now root seen met z a i left) zero_deep t) (subst (λ (n : Net). i ≡ n.arity a) f full))
  where
    by : Wiping (all_done d met before0) now root seen met 0 a i left → i ≡ (net (all_done d met before0)).arity a → met ≡ seen
    by u end = determined (net (all_done d met before0)).arity (neighbour (net (all_done d met before0)) root (is_in seen)) ends
        (subst (λ (ps : List (ℕ × ℕ)). Walk (net (all_done d met before0)).arity (neighbour (net (all_done d met before0)) root (is_in seen)) met (ps ++ []) seen) (no_port_left (net (all_done d met before0)) a i end) u.rest)
