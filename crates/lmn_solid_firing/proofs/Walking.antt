-- A walk through a part by a stack of ports.
use Rattle.std.proofs.Common.{ℕ, zero, suc, ◌≡◌, ◌+◌, ◌-◌, ◌<◌, ◌≤◌, ◌⊎◌, inl, inr, Bool, true, false, List, [], ◌∷◌, ◌++◌, length, refl, sym, ap, subst, ◌∙◌, arith}
use Rattle.std.specs.Prelude.{Option, Some, None, cond, slice_get, slice_set}
use Rattle.std.specs.Option.{option_and_then}
use Rattle.std.proofs.lemmas.List.{append-nil, length-set}
use Rattle.std.proofs.lemmas.Option.{same_Some}
use Rattle.lmn_base.specs.Graphs.{Port}
use Rattle.lmn_base.specs.Lists.{In}
use Rattle.lmn_base.proofs.Lists.{get_set, in_snoc}
use Rattle.lmn_ground_parts.proofs.WalkLaws.{in_last}
use Rattle.lmn_store_heap.specs.Heap.{Heap, IsAtom, arity_of, link_of}
use Rattle.lmn_store_heap.specs.Sound.{Valid}
use Rattle.lmn_store_heap.proofs.Common.{linked_atom}
use Rattle.lmn_store_heap.proofs.ListLemmas.{in_left}
use Rattle.lmn_ground_parts.specs.Walks.{Net, ends, finds, is_port, kept, net, neighbour, passes, port_range}
use Rattle.lmn_solid_tables.specs.Flats.{port_by}
use Rattle.lmn_solid_tables.specs.declared.tables.Port.{Port as Place}
use Rattle.lmn_solid_firing.specs.Pieces.{Before, Tells, WalkIn, stacked}

-- ---- the stack

-- the last port is the first to come
pub stacked_more : (ps : List Place) (p : Place) → stacked (ps ++ p ∷ []) ≡ port_by p ∷ stacked ps
stacked_more [] p = refl
stacked_more (q ∷ ps) p = ap (λ z. z ++ port_by q ∷ []) (stacked_more ps p)

-- ports from one on are those from the next one on, with it in front
range_before : (a i n : ℕ) → 0 < i → i ≤ n → port_range a (i - 1) (n - (i - 1)) ≡ (a, i - 1) ∷ port_range a i (n - i)
range_before a i n pos low =
    let e : n - (i - 1) ≡ suc (n - i) = omega (arith, pos, low) in
    let g : i - 1 + 1 ≡ i = omega (arith, pos) in
    ap (port_range a (i - 1)) e ∙ ap (λ k. (a, i - 1) ∷ port_range a k (n - i)) g

-- a port more of an atom is on the stack
pub port_pushed : (a i n : ℕ) (former now : List Place) (old : List Port) (p : Place) → now ≡ former ++ p ∷ [] → port_by p ≡ (a, i - 1) → 0 < i → i ≤ n →
    stacked former ≡ port_range a i (n - i) ++ old → stacked now ≡ port_range a (i - 1) (n - (i - 1)) ++ old
port_pushed a i n former now old p is of pos low d =
    ap stacked is ∙ stacked_more former p ∙ (λ j. of j ∷ d j) ∙ sym (ap (λ ps. ps ++ old) (range_before a i n pos low))

-- ---- marks

-- what is marked after one mark more
either_mark : (xs : List ℕ) (k y a n : ℕ) → slice_get (slice_set xs k y) a ≡ Some n → ((a ≡ k) × (n ≡ y)) ⊎ (slice_get xs a ≡ Some n)
either_mark [] k y a n e = inr e
either_mark (x ∷ xs) zero y zero n e = inl (refl, sym (same_Some y n e))
either_mark (x ∷ xs) zero y (suc a) n e = inr e
either_mark (x ∷ xs) (suc k) y zero n e = inr e
either_mark (x ∷ xs) (suc k) y (suc a) n e = elim (either_mark xs k y a n e) [ inl s ↦ inl (ap suc s.0, s.1) | inr s ↦ inr s ]

-- a mark with the same number stays
kept_mark : (xs : List ℕ) (k y a : ℕ) → slice_get xs a ≡ Some y → slice_get (slice_set xs k y) a ≡ Some y
kept_mark [] k y a e = e
kept_mark (x ∷ xs) zero y zero e = refl
kept_mark (x ∷ xs) zero y (suc a) e = e
kept_mark (x ∷ xs) (suc k) y zero e = e
kept_mark (x ∷ xs) (suc k) y (suc a) e = kept_mark xs k y a e

-- before a round nothing is found
pub tells_nothing : (h : Heap) (round : ℕ) (marks : List ℕ) → Before h round marks → Tells h round marks []
tells_nothing h round marks b = record {
  marked = λ a i. absurd i;
  listed = λ a e. (let l = b.1 a round e in absurd (omega (arith, l)));
  places = b.0;
  none_later = λ a n e. (let l = b.1 a n e in omega (arith, l));
}

-- an atom is found
pub tells_more : (h : Heap) (round : ℕ) (marks marks' atoms atoms' : List ℕ) (b : ℕ) → Tells h round marks atoms → b < length marks → marks' ≡ slice_set marks b round → atoms' ≡ atoms ++ b ∷ [] → Tells h round marks' atoms'
tells_more h round marks marks' atoms atoms' b t l e g = subst (λ (xs : List ℕ). Tells h round xs atoms') (sym e) (subst (Tells h round (slice_set marks b round)) (sym g) (record {
  marked = λ a i. elim (in_snoc a b atoms i) [
    | inl j ↦ kept_mark marks b round a (t.marked a j)
    | inr same ↦ subst (λ (x : ℕ). slice_get (slice_set marks b round) x ≡ Some round) (sym same) (get_set marks b round l)
  ];
  listed = λ a m. elim (either_mark marks b round a round m) [
    | inl s ↦ subst (λ (x : ℕ). In x (atoms ++ b ∷ [])) (sym s.0) (in_last b atoms)
    | inr s ↦ in_left a atoms (b ∷ []) (t.listed a s)
  ];
  places = λ a is. (let long = length-set marks b round in let m = t.places a is in omega (arith, long, m));
  none_later = λ a n m. elim (either_mark marks b round a n m) [
    | inl s ↦ (let w = s.1 in omega (arith, w))
    | inr s ↦ t.none_later a n s
  ];
}))

-- ---- steps of a walk

next_is : (n : Net) (root p q : Port) → is_port p root ≡ false → n.link p.0 p.1 ≡ Some q → neighbour n root (λ _. true) p ≡ Some q.0
next_is n root p q e l = ap (λ (t : Bool). cond t None (option_and_then (kept (λ _. true)) (n.link p.0 p.1))) e ∙ ap (option_and_then (kept (λ _. true))) l

no_next : (n : Net) (root p : Port) → is_port p root ≡ true → neighbour n root (λ _. true) p ≡ None
no_next n root p e = ap (λ (t : Bool). cond t None (option_and_then (kept (λ _. true)) (n.link p.0 p.1))) e

-- nothing goes on by the root
pub walk_root : (h : Heap) (root p : Port) (seen : List ℕ) (ps : List Port) (all : List ℕ) → is_port p root ≡ true → WalkIn h root seen ps all → WalkIn h root seen (p ∷ ps) all
walk_root h root p seen ps all e w = passes (λ b f. let g : ◌≡◌ {A = Option ℕ} None (Some b) = sym (no_next (net h) root p e) ∙ f in absurd (cc)) w

-- an atom that was found is passed
pub walk_known : (h : Heap) (root p q : Port) (seen : List ℕ) (ps : List Port) (all : List ℕ) → is_port p root ≡ false → link_of h p.0 p.1 ≡ Some q → In q.0 seen → WalkIn h root seen ps all → WalkIn h root seen (p ∷ ps) all
walk_known h root p q seen ps all e l i w = passes (λ b f. subst (λ (x : ℕ). In x seen) (same_Some q.0 b (sym (next_is (net h) root p q e l) ∙ f)) i) w

-- a new one is found
pub walk_new : (h : Heap) (root p q : Port) (seen seen' : List ℕ) (ps qs : List Port) (all : List ℕ) → is_port p root ≡ false → link_of h p.0 p.1 ≡ Some q → (In q.0 seen → ⊥) →
    seen' ≡ seen ++ q.0 ∷ [] → qs ≡ port_range q.0 0 (arity_of h q.0) ++ ps → WalkIn h root seen' qs all → WalkIn h root seen (p ∷ ps) all
walk_new h root p q seen seen' ps qs all e l n s d w =
    finds (next_is (net h) root p q e l) n (subst (λ (xs : List ℕ). WalkIn h root xs (port_range q.0 0 (arity_of h q.0) ++ ps) all) s (subst (λ (rs : List Port). WalkIn h root seen' rs all) d w))

-- a number isn't in what was found where it has another mark
pub not_found : (h : Heap) (round : ℕ) (marks atoms : List ℕ) (b x : ℕ) → Tells h round marks atoms → slice_get marks b ≡ Some x → (x ≡ round → ⊥) → In b atoms → ⊥
not_found h round marks atoms b x t e d i = d (same_Some x round (sym e ∙ t.marked b i))

-- what is joined to a port is an atom
pub other_there : (h : Heap) (a i : ℕ) (q : Port) → Valid h → link_of h a i ≡ Some q → IsAtom h q.0
other_there h a i q v e = linked_atom h q.0 q.1 (v.sound.paired.back a i q.0 q.1 e)

-- a walk begins with the root's ports
pub walk_begins : (h : Heap) (root : Port) (seen : List ℕ) (ps old : List Port) (a : ℕ) → seen ≡ a ∷ [] → ps ≡ port_range a 0 (arity_of h a) ++ old → old ≡ [] → (all : List ℕ) → WalkIn h root seen ps all → WalkIn h root (a ∷ []) (port_range a 0 (arity_of h a)) all
walk_begins h root seen ps old a s d e all w =
    let is : ps ≡ port_range a 0 (arity_of h a) = d ∙ ap (λ z. port_range a 0 (arity_of h a) ++ z) e ∙ append-nil (port_range a 0 (arity_of h a)) in
    subst (λ (xs : List ℕ). WalkIn h root xs (port_range a 0 (arity_of h a)) all) s (subst (λ (qs : List Port). WalkIn h root seen qs all) is w)

-- and ends where no port waits
pub walk_ended : (h : Heap) (root : Port) (seen : List ℕ) (ps : List Place) → ps ≡ [] → WalkIn h root seen (stacked ps) seen
walk_ended h root seen ps e = subst (λ (qs : List Place). WalkIn h root seen (stacked qs) seen) (sym e) ends
