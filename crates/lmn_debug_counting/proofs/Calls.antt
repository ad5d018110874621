-- Each call of a store keeps what a counting store keeps.
use Rattle.std.proofs.Common.{ℕ, ◌≡◌, ◌==◌, ◌&&◌, inl, inr, Bool, true, false, cond, Option, Some, None, IsSome, Result, Ok, Err, refl, sym, ap, subst, ◌∙◌}
use Rattle.std.proofs.lemmas.Bool.{cases_eq}
use Rattle.std.specs.Option.{option_map, option_and_then}
use Rattle.std.specs.Result.{IfOk, OnErr}
use Rattle.lmn_base.specs.declared.functor.Functor.{Functor}
use Rattle.lmn_base.specs.Lists.{In}
use Rattle.lmn_store_heap.specs.Functors.{same_functor}
use Rattle.lmn_store_heap.specs.Heap.{Heap, HeapAtom, Place, top, within, waiting, gone, IsInPlace, functor_of, place_of, home_by, with_mark, with_link, with_place, atom_sent, sent, new_atom, unless_waiting, unless_gone, marked, made_atom, discarded, finished, placed, taken, moved_all, joined, linked, cleared, link_of}
use Rattle.lmn_store_heap.specs.Lists.{from}
use Rattle.lmn_store_heap.specs.Sound.{Sound}
use Rattle.lmn_store_heap.proofs.Listing.{alter_at, alter_away, alter_keeps}
use Rattle.lmn_debug_counting.specs.Tallies.{Gains, IsKept, Loses, is_within, stands_as}
use Rattle.lmn_debug_counting.specs.declared.tally.Tally.{Tally}
use Rattle.lmn_debug_counting.proofs.Kept.{kept_same, kept_gained, kept_lost}

-- Calls that change no atom

pub kept_by : (h h' : Heap) (t : Option Tally) → h' ≡ h → IsKept h.atoms t → IsKept h'.atoms t
kept_by h h' t e k = subst (λ (s : Heap). IsKept s.atoms t) (sym e) k

-- Calls that change atoms where they stand, or atoms that don't stand in a membrane

pub marked_kept : (h h' : Heap) (t : Option Tally) (a i v : ℕ) → h' ≡ marked h a i v → IsKept h.atoms t → IsKept h'.atoms t
marked_kept h h' t a i v e k = kept_by (marked h a i v) h' t e (kept_same h.atoms (marked h a i v).atoms t (λ f. alter_keeps h.atoms a (option_map (with_mark i v)) (stands_as f) (by f)) k)
  where
    by : (f : Functor) (o : Option HeapAtom) → stands_as f (option_map (with_mark i v) o) ≡ stands_as f o
    by f None = refl
    by f (Some x) = refl

made_same : (h : Heap) (a : ℕ) (g : Functor) → h.atoms a ≡ None → (f : Functor) (j : ℕ) → stands_as f ((made_atom h a g).atoms j) ≡ stands_as f (h.atoms j)
made_same h a g fresh f j = elim (cases_eq j a) [
  | inl e ↦ ap (λ i. stands_as f ((made_atom h a g).atoms i)) e ∙ ap (stands_as f) (alter_at h.atoms a (λ _. Some (new_atom g))) ∙ sym (ap (stands_as f) fresh) ∙ sym (ap (λ i. stands_as f (h.atoms i)) e)
  | inr d ↦ ap (stands_as f) (alter_away h.atoms a (λ _. Some (new_atom g)) j d)
]

pub made_kept : {A E : Type 0} (id : A → ℕ) (h h' : Heap) (t : Option Tally) (g : Functor) (r : Result A E) → IfOk r (λ a. h.atoms (id a) ≡ None) → IfOk r (λ a. h' ≡ made_atom h (id a) g) → OnErr r (h' ≡ h) → IsKept h.atoms t → IsKept h'.atoms t
made_kept id h h' t g (Ok a) fresh e same k = kept_by (made_atom h (id a) g) h' t e (kept_same h.atoms (made_atom h (id a) g).atoms t (made_same h (id a) g fresh) k)
made_kept id h h' t g (Err w) fresh e same k = kept_by h h' t same k

-- a call that may fail, and changes no atom
pub tried_kept : {A E : Type 0} (s : A → Heap) (h h' : Heap) (t : Option Tally) (r : Result A E) → ((x : A) → IsKept h.atoms t → IsKept (s x).atoms t) → IfOk r (λ x. h' ≡ s x) → OnErr r (h' ≡ h) → IsKept h.atoms t → IsKept h'.atoms t
tried_kept s h h' t (Ok x) keeps e same k = kept_by (s x) h' t e (keeps x k)
tried_kept s h h' t (Err w) keeps e same k = kept_by h h' t same k

pub discarded_kept : (h h' : Heap) (t : Option Tally) → h' ≡ discarded h → IsKept h.atoms t → IsKept h'.atoms t
discarded_kept h h' t e k = kept_by (discarded h) h' t e (kept_same h.atoms (discarded h).atoms t (λ f a. by f (h.atoms a)) k)
  where
    by : (f : Functor) (o : Option HeapAtom) → stands_as f (option_and_then unless_waiting o) ≡ stands_as f o
    by f None = refl
    by f (Some x) = at x.place refl
      where
        at : (p : Place) → x.place ≡ p → stands_as f (unless_waiting x) ≡ stands_as f (Some x)
        at top e = rw e refl
        at (within m) e = rw e refl
        at waiting e = rw e refl
        at gone e = rw e refl

pub finished_kept : (h h' : Heap) (t : Option Tally) → h' ≡ finished h → IsKept h.atoms t → IsKept h'.atoms t
finished_kept h h' t e k = kept_by (finished h) h' t e (kept_same h.atoms (finished h).atoms t (λ f a. by f (h.atoms a)) k)
  where
    by : (f : Functor) (o : Option HeapAtom) → stands_as f (option_and_then unless_gone o) ≡ stands_as f o
    by f None = refl
    by f (Some x) = at x.place refl
      where
        at : (p : Place) → x.place ≡ p → stands_as f (unless_gone x) ≡ stands_as f (Some x)
        at top e = rw e refl
        at (within m) e = rw e refl
        at waiting e = rw e refl
        at gone e = rw e refl

pub moved_kept : (h h' : Heap) (t : Option Tally) (m n : ℕ) → h' ≡ moved_all h m n → IsKept h.atoms t → IsKept h'.atoms t
moved_kept h h' t m n e k = kept_by (moved_all h m n) h' t e (kept_same h.atoms (moved_all h m n).atoms t (λ f a. by f (h.atoms a)) k)
  where
    still : (p : Place) → is_within (sent m n p) ≡ is_within p
    still top = refl
    still (within j) = test (j == m)
      where
        test : (b : Bool) → is_within (cond b (within n) (within j)) ≡ true
        test true = refl
        test false = refl
    still waiting = refl
    still gone = refl

    by : (f : Functor) (o : Option HeapAtom) → stands_as f (option_map (atom_sent m n) o) ≡ stands_as f o
    by f None = refl
    by f (Some x) = ap (λ b. b && same_functor x.functor f) (still x.place)

linked_same : (atoms : ℕ → Option HeapAtom) (a i : ℕ) (p : Option (ℕ × ℕ)) (f : Functor) (j : ℕ) → stands_as f (linked atoms a i p j) ≡ stands_as f (atoms j)
linked_same atoms a i p f = alter_keeps atoms a (option_map (with_link i p)) (stands_as f) by
  where
    by : (o : Option HeapAtom) → stands_as f (option_map (with_link i p) o) ≡ stands_as f o
    by None = refl
    by (Some x) = refl

cleared_same : (atoms : ℕ → Option HeapAtom) (o : Option (ℕ × ℕ)) (f : Functor) (j : ℕ) → stands_as f (cleared atoms o j) ≡ stands_as f (atoms j)
cleared_same atoms None f j = refl
cleared_same atoms (Some p) f j = linked_same atoms p.0 p.1 None f j

pub joined_kept : (h h' : Heap) (t : Option Tally) (a i b j : ℕ) → h' ≡ joined h a i b j → IsKept h.atoms t → IsKept h'.atoms t
joined_kept h h' t a i b j e k = kept_by (joined h a i b j) h' t e (kept_same h.atoms (joined h a i b j).atoms t same k)
  where
    same : (f : Functor) (x : ℕ) → stands_as f ((joined h a i b j).atoms x) ≡ stands_as f (h.atoms x)
    same f x =
        let one = cleared h.atoms (link_of h a i) in
        let two = cleared one (link_of h b j) in
        linked_same (linked two a i (Some (b, j))) b j (Some (a, i)) f x ∙ linked_same two a i (Some (b, j)) f x ∙ cleared_same one (link_of h b j) f x ∙ cleared_same h.atoms (link_of h a i) f x

-- An atom that comes, and one that goes

-- an atom that waits doesn't stand in a membrane
waits_not : (f : Functor) (o : Option HeapAtom) → option_map (λ x. x.place) o ≡ Some waiting → stands_as f o ≡ false
waits_not f None e = refl
waits_not f (Some x) e = let p : x.place ≡ waiting = cc in rw p refl

-- an atom that was put into a membrane stands there as what it is
put_as : (m : ℕ) (g : Functor) (o : Option HeapAtom) → option_map (λ x. x.functor) (option_map (with_place (within m)) o) ≡ Some g → (f : Functor) → stands_as f (option_map (with_place (within m)) o) ≡ same_functor g f
put_as m g None e f = absurd (cc)
put_as m g (Some x) e f = let p : x.functor ≡ g = cc in ap (λ g. same_functor g f) p

-- and so does one that stands in a membrane
stands_so : (g : Functor) (o : Option HeapAtom) → IsSome (option_and_then (λ x. home_by x.place) o) → option_map (λ x. x.functor) o ≡ Some g → (f : Functor) → stands_as f o ≡ same_functor g f
stands_so g None s e f = absurd (cc)
stands_so g (Some x) s e f = by x.place refl s
  where
    by : (p : Place) → x.place ≡ p → IsSome (home_by p) → (is_within x.place && same_functor x.functor f) ≡ same_functor g f
    by top w s = absurd (cc)
    by (within m) w s = let p : x.functor ≡ g = cc in rw w (ap (λ g. same_functor g f) p)
    by waiting w s = absurd (cc)
    by gone w s = absurd (cc)

-- an atom that was taken doesn't
gone_not : (f : Functor) (o : Option HeapAtom) → stands_as f (option_map (with_place gone) o) ≡ false
gone_not f None = refl
gone_not f (Some x) = refl

-- a place is that of an atom, which has a functor
placed_functor : (P : Place) (o : Option HeapAtom) → option_map (λ x. x.place) o ≡ Some P → (g : Functor) × (option_map (λ x. x.functor) o ≡ Some g)
placed_functor P None e = absurd (cc)
placed_functor P (Some x) e = (x.functor, refl)

home_functor : (o : Option HeapAtom) → IsSome (option_and_then (λ x. home_by x.place) o) → (g : Functor) × (option_map (λ x. x.functor) o ≡ Some g)
home_functor None s = absurd (cc)
home_functor (Some x) s = (x.functor, refl)

put_functor : (m : ℕ) (o : Option HeapAtom) → option_map (λ x. x.functor) (option_map (with_place (within m)) o) ≡ option_map (λ x. x.functor) o
put_functor m None = refl
put_functor m (Some x) = refl

pub placed_kept : (h h' : Heap) (old new : Option Tally) (m a : ℕ) → Sound h → from (Some a) h.new_atoms ≡ h.new_atoms → h' ≡ placed h m a → Gains (functor_of h' a) old new → IsKept h.atoms old → IsKept h'.atoms new
placed_kept h h' old new m a sound first e w k =
    let now = placed h m a in
    let waits : place_of h a ≡ Some waiting = (sound.listed.new_atoms a).0 (subst (λ xs. In a xs) first (inl refl)) in
    let at = alter_at h.atoms a (option_map (with_place (within m))) in
    let has = placed_functor waiting (h.atoms a) waits in
    let put = put_functor m (h.atoms a) ∙ has.1 in
    let is : functor_of now a ≡ Some has.0 = ap (λ (o : Option HeapAtom). option_map (λ x. x.functor) o) at ∙ put in
    let gains : Gains (Some has.0) old new = subst (λ o. Gains o old new) (ap (λ (s : Heap). functor_of s a) e ∙ is) w in
    kept_by now h' new e
    (kept_gained h.atoms now.atoms a (λ f j d. ap (stands_as f) (alter_away h.atoms a (option_map (with_place (within m))) j d)) has.0 old new
    (λ f. waits_not f (h.atoms a) waits) (λ f. ap (stands_as f) at ∙ put_as m has.0 (h.atoms a) put f) gains k)

pub taken_kept : (h h' : Heap) (old new : Option Tally) (a : ℕ) → IsInPlace h a → h' ≡ taken h a → Loses (functor_of h a) old new → IsKept h.atoms old → IsKept h'.atoms new
taken_kept h h' old new a stands e w k =
    let has = home_functor (h.atoms a) stands in
    kept_by (taken h a) h' new e
    (kept_lost h.atoms (taken h a).atoms a (λ f j d. ap (stands_as f) (alter_away h.atoms a (option_map (with_place gone)) j d)) has.0 old new
    (stands_so has.0 (h.atoms a) stands has.1) (λ f. ap (stands_as f) (alter_at h.atoms a (option_map (with_place gone))) ∙ gone_not f (h.atoms a)) (subst (λ o. Loses o old new) has.1 w) k)
