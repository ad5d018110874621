-- A walk turns into each atom and leaves it once at most, so it ends, and soon.
use Rattle.std.proofs.Common.{◌≡◌, ◌≢◌, ℕ, suc, ◌+◌, ◌<◌, ◌≤◌, ◌^◌, inl, inr, List, [], ◌∷◌, length, Option, Some, None, IsSome, refl, sym, ap, subst, arith}
use Rattle.std.specs.Prelude.{slice_index_or}
use Rattle.lmn_store_heap.specs.Heap.{Heap, HeapAtom, IsAtom, link_of, partners_of}
use Rattle.lmn_store_heap.specs.Lists.{Distinct}
use Rattle.lmn_store_heap.specs.Sound.{Paired, AtMost}
use Rattle.lmn_store_heap.proofs.Pigeonholes.{not_longer}
use Rattle.lmn_print_folding.specs.Marks.{atoms_left}
use Rattle.lmn_print_folding.specs.Marks.{argument_count, Event, meets_link, meets_term, leaves, WalkMeets, link, term, end_of_term, end_of_item}
use Rattle.lmn_print_folding.proofs.PrintedWalks.{term_is}
use Rattle.lmn_print_folding.proofs.WalkLemmas.{one_walk}
use Rattle.lmn_store_heap.proofs.ListLemmas.{each_of}
use Rattle.lmn_base.specs.Lists.{In}

-- how often a walk turns into a term, or leaves an atom
abbrev pub turns : List Event → ℕ
turns [] = 0
turns (meets_link a i ∷ es) = turns es
turns (meets_term a i c ∷ es) = suc (turns es)
turns (leaves a ∷ es) = suc (turns es)

-- the atoms that are entered as terms
abbrev pub entered : List Event → List ℕ
entered [] = []
entered (meets_link a i ∷ es) = entered es
entered (meets_term a i c ∷ es) = c ∷ entered es
entered (leaves a ∷ es) = entered es

-- a walk turns as often as it enters an atom or leaves one
pub counted : (es : List Event) → turns es ≡ length (entered es) + length (atoms_left es)
counted [] = refl
counted (meets_link a i ∷ es) = counted es
counted (meets_term a i c ∷ es) = let e = counted es in omega (arith, e)
counted (leaves a ∷ es) = let e = counted es in omega (arith, e)

-- where a walk enters an atom, and where it leaves one
entering : (s : Heap) (a i c : ℕ) (es : List Event) → WalkMeets s a i es → In c (entered es) → (fs : List Event) × WalkMeets s c 0 fs × (length fs < length es)
entering s a i c _ (link l n w) h = let f = entering s a (i + 1) c _ w h in let low = f.2 in (f.0, f.1, omega (arith, low))
entering s a i c _ (term {es = es} d l t w) (inl e) = (es, subst (λ x. WalkMeets s x 0 es) e w, omega arith)
entering s a i c _ (term {es = es} d l t w) (inr h) = let f = entering s d 0 c es w h in let low = f.2 in (f.0, f.1, omega (arith, low))
entering s a i c _ (end_of_term p j e x ports l w) h = let f = entering s p (j + 1) c _ w h in let low = f.2 in (f.0, f.1, omega (arith, low))
entering s a i c _ (end_of_item e x) h = absurd h

leaving : (s : Heap) (a i b : ℕ) (es : List Event) → WalkMeets s a i es → In b (atoms_left es) → (fs : List Event) × WalkMeets s b (argument_count s b) fs × (length fs ≤ length es)
leaving s a i b _ (link l n w) h = let f = leaving s a (i + 1) b _ w h in let low = f.2 in (f.0, f.1, omega (arith, low))
leaving s a i b _ (term {es = es} d l t w) h = let f = leaving s d 0 b es w h in let low = f.2 in (f.0, f.1, omega (arith, low))
leaving s a i b _ (end_of_term {es = es} p j e x ports l w) (inl h) =
    (leaves a ∷ es, subst (λ z. WalkMeets s z (argument_count s z) (leaves a ∷ es)) h (subst (λ k. WalkMeets s a k (leaves a ∷ es)) e (end_of_term p j e x ports l w)), omega arith)
leaving s a i b _ (end_of_term {es = es} p j e x ports l w) (inr h) = let f = leaving s p (j + 1) b es w h in let low = f.2 in (f.0, f.1, omega (arith, low))
leaving s a i b _ (end_of_item e x) (inl h) =
    (leaves a ∷ [], subst (λ z. WalkMeets s z (argument_count s z) (leaves a ∷ [])) h (subst (λ k. WalkMeets s a k (leaves a ∷ [])) e (end_of_item e x)), omega arith)
leaving s a i b _ (end_of_item e x) (inr h) = absurd h

-- no atom is entered twice
pub entered_once : (s : Heap) (a i : ℕ) (es : List Event) → WalkMeets s a i es → Distinct (entered es)
entered_once s a i _ (link l n w) = entered_once s a (i + 1) _ w
entered_once s a i _ (term {es = es} c l t w) = (each_of (λ y. c ≢ y) (entered es) again, entered_once s c 0 es w)
  where
    again : (y : ℕ) → In y (entered es) → c ≢ y
    again y h e =
        let f = entering s c 0 y es w h in
        let long : length es ≡ length f.0 = ap length (one_walk s c 0 es f.0 w (subst (λ z. WalkMeets s z 0 f.0) (sym e) f.1)) in
        let low = f.2 in
        absurd (omega (arith, long, low))
entered_once s a i _ (end_of_term p j e x ports l w) = entered_once s p (j + 1) _ w
entered_once s a i _ (end_of_item e x) = tt

-- and none is left twice
pub left_once : (s : Heap) (a i : ℕ) (es : List Event) → WalkMeets s a i es → Distinct (atoms_left es)
left_once s a i _ (link l n w) = left_once s a (i + 1) _ w
left_once s a i _ (term {es = es} c l t w) = left_once s c 0 es w
left_once s a i _ (end_of_term {es = es} p j e x ports l w) = (each_of (λ y. a ≢ y) (atoms_left es) again, left_once s p (j + 1) es w)
  where
    again : (y : ℕ) → In y (atoms_left es) → a ≢ y
    again y h same =
        let f = leaving s p (j + 1) y es w h in
        let here : WalkMeets s a (argument_count s a) (leaves a ∷ es) = subst (λ k. WalkMeets s a k (leaves a ∷ es)) e (end_of_term p j e x ports l w) in
        let long : length (leaves a ∷ es) ≡ length f.0 = ap length (one_walk s a (argument_count s a) (leaves a ∷ es) f.0 here (subst (λ z. WalkMeets s z (argument_count s z) f.0) (sym same) f.1)) in
        let low = f.2 in
        absurd (omega (arith, long, low))
left_once s a i _ (end_of_item e x) = (tt, tt)

-- an atom that is joined to another is there
pub end_there : (s : Heap) → Paired s → (a i b j : ℕ) → link_of s a i ≡ Some (b, j) → IsAtom s b
end_there s paired a i b j e = by (s.atoms b) (paired.back a i b j e)
  where
    by : (o : Option HeapAtom) {p : ℕ × ℕ} → slice_index_or (partners_of o) j None ≡ Some p → IsSome o
    by None l = absurd (cc l)
    by (Some x) l = refl

-- what is entered is an atom
pub entered_there : (s : Heap) → Paired s → (a i : ℕ) (es : List Event) → WalkMeets s a i es → (b : ℕ) → In b (entered es) → IsAtom s b
entered_there s paired a i _ (link l n w) b h = entered_there s paired a (i + 1) _ w b h
entered_there s paired a i _ (term {es = es} c l t w) b (inl e) = subst (IsAtom s) e (end_there s paired a i c (term_is s a i c t).0 (term_is s a i c t).1)
entered_there s paired a i _ (term {es = es} c l t w) b (inr h) = entered_there s paired c 0 es w b h
entered_there s paired a i _ (end_of_term p j e x ports l w) b h = entered_there s paired p (j + 1) _ w b h
entered_there s paired a i _ (end_of_item e x) b h = absurd h

-- and so is what is left
pub left_there : (s : Heap) → Paired s → (a i : ℕ) (es : List Event) → IsAtom s a → WalkMeets s a i es → (b : ℕ) → In b (atoms_left es) → IsAtom s b
left_there s paired a i _ there (link l n w) b h = left_there s paired a (i + 1) _ there w b h
left_there s paired a i _ there (term {es = es} c l t w) b h = left_there s paired c 0 es (end_there s paired a i c (term_is s a i c t).0 (term_is s a i c t).1) w b h
left_there s paired a i _ there (end_of_term {es = es} p j e x ports l w) b (inl h) = subst (IsAtom s) h there
left_there s paired a i _ there (end_of_term {es = es} p j e x ports l w) b (inr h) = left_there s paired p (j + 1) es (end_there s paired a i p j l) w b h
left_there s paired a i _ there (end_of_item e x) b (inl h) = subst (IsAtom s) h there
left_there s paired a i _ there (end_of_item e x) b (inr h) = absurd h

-- a walk has few turns in a heap of few atoms
pub few_turns : (s : Heap) → Paired s → AtMost (2 ^ 48) s → (a i : ℕ) (es : List Event) → IsAtom s a → WalkMeets s a i es → turns es ≤ 2 ^ 49
few_turns s paired most a i es there w =
    let first = not_longer (entered es) most.atoms (entered_once s a i es w) (λ b h. most.all_atoms b (entered_there s paired a i es w b h)) in
    let second = not_longer (atoms_left es) most.atoms (left_once s a i es w) (λ b h. most.all_atoms b (left_there s paired a i es there w b h)) in
    let few = most.few in
    let count = counted es in
    omega (arith, first, second, few, count)
