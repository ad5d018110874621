-- Steps of the loops that fill a membrane.
use Rattle.std.proofs.Common.{ℕ, zero, suc, ◌≡◌, ◌+◌, ◌-◌, ◌<◌, ◌≤◌, true, false, List, [], ◌∷◌, ◌++◌, map, length, take, drop, get_or, All, None, refl, sym, ap, subst, ◌∙◌, arith, append_assoc}
use Rattle.std.specs.List.{flat_map}
use Rattle.std.specs.Prelude.{cond}
use Rattle.std.proofs.lemmas.List.{map-append, take_more, take_all}
use Rattle.lmn_base.specs.declared.functor.Functor.{Functor}
use Rattle.lmn_base.specs.declared.level.Leaf.{Leaf}
use Rattle.lmn_base.specs.declared.level.Leaf.TheVariants.{Atom, Typed}
use Rattle.lmn_base.specs.declared.level.Level.{Level, out-Level}
use Rattle.lmn_base.specs.declared.level.Occ.{Occ}
use Rattle.lmn_base.specs.declared.refusal.Pos.{Pos}
use Rattle.lmn_base.specs.Levels.{leaves_of}
use Rattle.lmn_base.specs.WellMade.{FitsArity}
use Rattle.lmn_base_walks.proofs.ItemLemmas.{leaves_apart}
use Rattle.lmn_congruence.specs.SolidsOfPlains.{fused_leaf}
use Rattle.lmn_store_heap.specs.Heap.{Heap, spare_of, reserved, rule_added}
use Rattle.lmn_schedule_loading.specs.Adding.{CanBeFilled, AddsToMembrane, Fills, AtomIsAdded, atom_leaf_links, ports_with_links, by_id, with_mem}
use Rattle.lmn_schedule_loading.proofs.Composing.{composed, nothing_added}
use Rattle.lmn_schedule_loading.proofs.Atoms.{no_leaf, atom_added, room_added, one_rule, room_left}
use Rattle.lmn_schedule_loading.proofs.Membranes.{new_ready, membrane_added}
use Rattle.lmn_base.proofs.Lists.{plus_nothing as nil_behind, all_of_left, all_of_right, one_more as one_further}
use Rattle.lmn_store_heap.proofs.Calls.{stands_some as standing_is_mem}
use Rattle.lmn_base.specs.Solids.{is_connector}

module _ {A : Type 0} (id : A → ℕ) where
  by_id_append : (ps qs : List ((A × ℕ) × ℕ)) → by_id id (ps ++ qs) ≡ by_id id ps ++ by_id id qs
  by_id_append ps qs = map-append (λ (e : (A × ℕ) × ℕ). ((id e.0.0, e.0.1), e.1)) ps qs

  by_id_from : (a : A) (i : ℕ) (os : List Occ) → by_id id (ports_with_links a i os) ≡ ports_with_links (id a) i os
  by_id_from a i [] = refl
  by_id_from a i (o ∷ os) = ap (λ ps. ((id a, i), o.link) ∷ ps) (by_id_from a (i + 1) os)

  pub fills_none : (s : Heap) (m : ℕ) (old : List ((A × ℕ) × ℕ)) → CanBeFilled s m → Fills id s s m [] [] [] old old
  fills_none s m old h = record { more = []; are = sym (nil_behind old); adds = nothing_added s m h }

  fills_then : (s t u : Heap) (m : ℕ) (ls ls' : List Leaf) (is is' : List Level) (rs rs' : List ℕ) (old mid new : List ((A × ℕ) × ℕ)) → CanBeFilled s m
      → Fills id s t m ls is rs old mid → Fills id t u m ls' is' rs' mid new → Fills id s u m (ls ++ ls') (is ++ is') (rs ++ rs') old new
  fills_then s t u m ls ls' is is' rs rs' old mid new h a b = record {
    more = a.more ++ b.more;
    are = b.are ∙ ap (λ ps. ps ++ b.more) a.are ∙ append_assoc old a.more b.more;
    adds = subst (AddsToMembrane s u m (ls ++ ls') (is ++ is') (rs ++ rs')) (sym (by_id_append a.more b.more)) (composed s t u m ls ls' is is' rs rs' (by_id id a.more) (by_id id b.more) h a.adds b.adds);
  }

  pub leaves_next : (s t u : Heap) (m : ℕ) (ls : List Leaf) (i : ℕ) (x : Leaf) (old mid new : List ((A × ℕ) × ℕ)) → CanBeFilled s m → i < length ls → x ≡ get_or ls i x
      → Fills id s t m (take i ls) [] [] old mid → Fills id t u m (x ∷ []) [] [] mid new → Fills id s u m (take (i + 1) ls) [] [] old new
  leaves_next s t u m ls i x old mid new h l e a b = subst (λ ks. Fills id s u m ks [] [] old new) (one_further ls i x l e) (fills_then s t u m (take i ls) (x ∷ []) [] [] [] [] old mid new h a b)

  pub inner_next : (s t u : Heap) (m : ℕ) (ls : List Leaf) (ms : List Level) (i : ℕ) (x : Level) (old mid new : List ((A × ℕ) × ℕ)) → CanBeFilled s m → i < length ms → x ≡ get_or ms i x
      → Fills id s t m ls (take i ms) [] old mid → Fills id t u m [] (x ∷ []) [] mid new → Fills id s u m ls (take (i + 1) ms) [] old new
  inner_next s t u m ls ms i x old mid new h l e a b = subst (λ ks. Fills id s u m ks (take (i + 1) ms) [] old new) (nil_behind ls)
      (subst (λ ks. Fills id s u m (ls ++ []) ks [] old new) (one_further ms i x l e) (fills_then s t u m ls [] (take i ms) (x ∷ []) [] [] old mid new h a b))

  pub rules_last : (s t u : Heap) (m : ℕ) (l : Level) (ls : List Leaf) (ms : List Level) (ks : List ℕ) (i : ℕ) (old new : List ((A × ℕ) × ℕ)) → CanBeFilled s m → length ms ≤ i
      → ms ≡ (out-Level l).membranes → ks ≡ (out-Level l).rules
      → Fills id s t m ls (take i ms) [] old new → AddsToMembrane t u m [] [] ks [] → Fills id s u m ls (out-Level l).membranes (out-Level l).rules old new
  rules_last s t u m l ls ms ks i old new h k e d a b =
      let c = fills_then s t u m ls [] (take i ms) [] [] ks old new new h a (record { more = []; are = sym (nil_behind new); adds = b }) in
      subst (λ rs. Fills id s u m ls (out-Level l).membranes rs old new) d
      (subst (λ is. Fills id s u m ls is ks old new) (nil_behind (take i ms) ∙ take_all i ms k ∙ e) (subst (λ xs. Fills id s u m xs (take i ms ++ []) ks old new) (nil_behind ls) c))

  pub atom_fills : (s t : Heap) (m : ℕ) (leaf : Leaf) (f : Functor) (os os' : List Occ) (pos : Pos) (old new : List ((A × ℕ) × ℕ)) → CanBeFilled s m → leaf ≡ Atom f os pos → os' ≡ os → FitsArity leaf → is_connector f ≡ false
      → AtomIsAdded id s t m f os' old new → Fills id s t m (leaf ∷ []) [] [] old new
  atom_fills s t m leaf f os os' pos old new h e d fits c a =
      let n : length os ≡ f.arity = subst FitsArity e fits in
      let ps : by_id id (ports_with_links a.atom 0 os) ≡ ports_with_links (id a.atom) 0 os = by_id_from a.atom 0 os in
      record {
        more = ports_with_links a.atom 0 os;
        are = a.ports ∙ ap (λ xs. old ++ ports_with_links a.atom 0 xs) d;
        adds = subst (AddsToMembrane s t m (leaf ∷ []) [] []) (sym ps) (subst (λ l. AddsToMembrane s t m (l ∷ []) [] [] (ports_with_links (id a.atom) 0 os)) (sym e)
            (subst (λ u. AddsToMembrane s u m (Atom f os pos ∷ []) [] [] (ports_with_links (id a.atom) 0 os)) (sym a.heap) (atom_added s m (id a.atom) f os pos h a.fresh c n)));
      }

  no_leaf_fills : (s : Heap) (m : ℕ) (leaf : Leaf) (old : List ((A × ℕ) × ℕ)) → CanBeFilled s m → ((v : ℕ → ℕ) → fused_leaf v leaf ≡ []) → atom_leaf_links leaf ≡ [] → Fills id s s m (leaf ∷ []) [] [] old old
  no_leaf_fills s m leaf old h e d = record { more = []; are = sym (nil_behind old); adds = no_leaf s m leaf e d h }

  pub connector_fills : (s : Heap) (m : ℕ) (leaf : Leaf) (f : Functor) (os : List Occ) (pos : Pos) (old : List ((A × ℕ) × ℕ)) → CanBeFilled s m → leaf ≡ Atom f os pos → is_connector f ≡ true → Fills id s s m (leaf ∷ []) [] [] old old
  connector_fills s m leaf f os pos old h e c = subst (λ l. Fills id s s m (l ∷ []) [] [] old old) (sym e) (no_leaf_fills s m (Atom f os pos) old h
      (λ v. ap (λ b. cond b [] (record { functor = f; links = map (λ o. v o.link) os } ∷ [])) c) (ap (λ b. cond b [] (map (λ o. o.link) os)) c))

  pub typed_fills : (s : Heap) (m : ℕ) (leaf : Leaf) (n : ℕ) (o : Occ) (pos : Pos) (old : List ((A × ℕ) × ℕ)) → CanBeFilled s m → leaf ≡ Typed n o pos → Fills id s s m (leaf ∷ []) [] [] old old
  typed_fills s m leaf n o pos old h e = subst (λ l. Fills id s s m (l ∷ []) [] [] old old) (sym e) (no_leaf_fills s m (Typed n o pos) old h (λ v. refl) refl)

  pub membrane_fills : (s s1 t : Heap) (m n : ℕ) (l : Level) (old new : List ((A × ℕ) × ℕ)) → CanBeFilled s m → s.mems n ≡ None → s1 ≡ with_mem s m n
      → Fills id s1 t n (out-Level l).leaves (out-Level l).membranes (out-Level l).rules old new → Fills id s t m [] (l ∷ []) [] old new
  membrane_fills s s1 t m n l old new h fresh e a = record {
    more = a.more;
    are = a.are;
    adds = membrane_added s m n h fresh t l (by_id id a.more) (subst (λ u. AddsToMembrane u t n (out-Level l).leaves (out-Level l).membranes (out-Level l).rules (by_id id a.more)) e a.adds);
  }

-- the new membrane is ready
pub membrane_ready : (s s1 : Heap) (m n : ℕ) → CanBeFilled s m → s.mems n ≡ None → s1 ≡ with_mem s m n → CanBeFilled s1 n
membrane_ready s s1 m n h fresh e = subst (λ u. CanBeFilled u n) (sym e) (new_ready s m n h fresh)

-- arities of parts of a level
pub own_arities : (l : Level) (ls : List Leaf) → ls ≡ (out-Level l).leaves → All FitsArity (leaves_of l) → All FitsArity ls
own_arities l ls e h = subst (All FitsArity) (sym e) (all_of_left FitsArity (out-Level l).leaves (flat_map leaves_of (out-Level l).membranes) (subst (All FitsArity) (leaves_apart l) h))

piece_arities : (ms : List Level) (i : ℕ) (x : Level) → i < length ms → All FitsArity (flat_map leaves_of ms) → All FitsArity (leaves_of (get_or ms i x))
piece_arities [] i x l h = absurd (omega (arith, l))
piece_arities (m ∷ ms) zero x l h = all_of_left FitsArity (leaves_of m) (flat_map leaves_of ms) h
piece_arities (m ∷ ms) (suc i) x l h = piece_arities ms i x (omega (arith, l)) (all_of_right FitsArity (leaves_of m) (flat_map leaves_of ms) h)

-- the leaves of a membrane fit their arities where those of the level do
pub inner_arities : (l : Level) (ms : List Level) (i : ℕ) (x : Level) → i < length ms → x ≡ get_or ms i x → ms ≡ (out-Level l).membranes → All FitsArity (leaves_of l) → All FitsArity (leaves_of x)
inner_arities l ms i x lt e d h = subst (λ y. All FitsArity (leaves_of y)) (sym e) (piece_arities ms i x lt
    (subst (λ xs. All FitsArity (flat_map leaves_of xs)) (sym d) (all_of_right FitsArity (out-Level l).leaves (flat_map leaves_of (out-Level l).membranes) (subst (All FitsArity) (leaves_apart l) h))))

-- Rules

-- at first no rule is added
pub rules_start : (s t : Heap) (m n : ℕ) → CanBeFilled s m → t ≡ reserved s m n → AddsToMembrane s t m [] [] [] []
rules_start s t m n h e = subst (λ u. AddsToMembrane s u m [] [] [] []) (sym e) (room_added s m n h)

-- then one more
pub rules_next : (s t u : Heap) (m : ℕ) (ks : List ℕ) (i d : ℕ) → CanBeFilled s m → i < length ks → AddsToMembrane s t m [] [] (take i ks) [] → u ≡ rule_added t m (get_or ks i d) → AddsToMembrane s u m [] [] (take (i + 1) ks) []
rules_next s t u m ks i d h l a e = subst (λ xs. AddsToMembrane s u m [] [] xs []) (sym (take_more ks i d l))
    (subst (λ w. AddsToMembrane s w m [] [] (take i ks ++ get_or ks i d ∷ []) []) (sym e) (composed s t (rule_added t m (get_or ks i d)) m [] [] [] [] (take i ks) (get_or ks i d ∷ []) [] [] h a (one_rule t m (get_or ks i d) a.ready)))

length_drop : (xs : List ℕ) (i : ℕ) → length (drop i xs) ≡ length xs - i
length_drop [] zero = refl
length_drop [] (suc i) = omega arith
length_drop (x ∷ xs) zero = omega arith
length_drop (x ∷ xs) (suc i) = length_drop xs i ∙ less (length xs)
  where
    less : (n : ℕ) → n - i ≡ suc n - suc i
    less n = omega arith

-- for which there is room
pub room_next : (t u : Heap) (m k : ℕ) (ks : List ℕ) (i : ℕ) → CanBeFilled t m → i < length ks → length (drop i ks) ≤ spare_of t m → u ≡ rule_added t m k → length (drop (i + 1) ks) ≤ spare_of u m
room_next t u m k ks i h l r e =
    let a = length_drop ks i in
    let b = length_drop ks (i + 1) in
    let c : spare_of u m ≡ spare_of t m - 1 = ap (λ w. spare_of w m) e ∙ room_left t m k (standing_is_mem (t.mems m) h.there) in
    less (length (drop i ks)) (length (drop (i + 1) ks)) (length ks) (spare_of t m) (spare_of u m) a b c r
  where
    less : (x y n p q : ℕ) → x ≡ n - i → y ≡ n - (i + 1) → q ≡ p - 1 → x ≤ p → y ≤ q
    less x y n p q a b c r = omega (arith, a, b, c, r, l)
