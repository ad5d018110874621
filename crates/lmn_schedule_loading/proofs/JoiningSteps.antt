-- Steps of the loop in which ports meet.
use Rattle.std.proofs.Common.{ℕ, zero, suc, ◌≡◌, ◌+◌, ◌<◌, ◌≤◌, List, [], ◌∷◌, ◌++◌, length, take, drop, get_or, Option, Some, None, true, ◌==◌, cond, refl, sym, ap, subst, ◌∙◌, inl, inr, arith}
use Rattle.std.specs.Option.{option_map}
use Rattle.std.specs.Prelude.{slice_index_or, slice_get, slice_set}
use Rattle.std.proofs.lemmas.Bool.{cases_lt}
use Rattle.std.proofs.lemmas.List.{map-append, map-id, take_more, take_all, get_or_past, get_or-set_same, get_or-set_other}
use Rattle.std.proofs.lemmas.Option.{same_Some, slice_get-get_or}
use Rattle.lmn_base.proofs.Numbers.{equal_itself, same_or_not, unequal}
use Rattle.lmn_store_heap.specs.Heap.{Heap, port_id}
use Rattle.lmn_congruence_splice.specs.Splice.{TwiceOrNever, both_links, links}
use Rattle.lmn_congruence_splice.specs.Classes.{class_of}
use Rattle.lmn_congruence_splice.proofs.ClassLemmas.{classes_twice}
use Rattle.lmn_schedule_loading.specs.Adding.{by_id}
use Rattle.lmn_congruence_classes.specs.Tables.{LinksBelow}
use Rattle.lmn_schedule_loading.specs.Joining.{held_at, held_after, flipped, met, MayMeet, AreFree, AreJoined}
use Rattle.lmn_schedule_loading.proofs.Meeting.{Meets, none_met, one_more, may_meet, all_met}
use Rattle.lmn_base.specs.Graphs.{Port}

module _ {A : Type 0} (id : A → ℕ) where
  none_held : (table : List (Option (A × ℕ))) → ((z : ℕ) → z < length table → slice_index_or table z None ≡ None) → (z : ℕ) → held_at id table z ≡ None
  none_held table h z = elim (cases_lt z (length table)) [
    | inl l ↦ ap (option_map (port_id id)) (h z l)
    | inr l ↦ ap (option_map (port_id id)) (get_or_past table z None l)
  ]

  -- the port that a table holds for a class is what stands there
  pub held_is : (table : List (Option (A × ℕ))) (class : ℕ) (here : Option (A × ℕ)) → class < length table → slice_get table class ≡ Some here → held_at id table class ≡ option_map (port_id id) here
  held_is table class here l e = ap (option_map (port_id id)) (same_Some (get_or table class None) here (sym (slice_get-get_or table class None l) ∙ e))

  -- what a table holds for each class once it is set for one
  set_next : (table : List (Option (A × ℕ))) (class : ℕ) (v : Option (A × ℕ)) (p : Port) → class < length table → option_map (port_id id) v ≡ flipped (held_at id table class) p
      → (z : ℕ) → held_at id (slice_set table class v) z ≡ held_after (held_at id table) class p z
  set_next table class v p l f z = elim (same_or_not z class) [
    | inl q ↦
        ap (λ k. held_at id (slice_set table class v) k) q
        ∙ (ap (option_map (port_id id)) (get_or-set_same table class v None l)
        ∙ (f ∙ ap (λ b. cond b (flipped (held_at id table class) p) (held_at id table z)) (sym (subst (λ k. (z == k) ≡ true) q (equal_itself z)))))
    | inr d ↦
        ap (option_map (port_id id)) (get_or-set_other table class z v None d)
        ∙ ap (λ b. cond b (flipped (held_at id table class) p) (held_at id table z)) (sym (unequal z class d))
  ]

  -- the same of the table that comes of it
  pub held_next : (table after : List (Option (A × ℕ))) (class : ℕ) (v : Option (A × ℕ)) (p : Port) → class < length table → after ≡ slice_set table class v → option_map (port_id id) v ≡ flipped (held_at id table class) p
      → (z : ℕ) → held_at id after z ≡ held_after (held_at id table) class p z
  held_next table after class v p l e f z = ap (λ t. held_at id t z) e ∙ set_next table class v p l f z

  pub meets_none : (m : ℕ → ℕ) (es : List ((A × ℕ) × ℕ)) (s : Heap) (table : List (Option (A × ℕ))) (n : ℕ) → length table ≡ n → ((z : ℕ) → z < n → slice_index_or table z None ≡ None) → AreFree s (by_id id es)
      → Meets m [] (by_id id es) s s (held_at id table)
  meets_none m es s table n e h f = none_met m (by_id id es) s (held_at id table) f (none_held table (λ z l. h z (subst (λ k. z < k) e l)))

  next_of : (es : List ((A × ℕ) × ℕ)) (i : ℕ) (x : (A × ℕ) × ℕ) → i < length es → x ≡ get_or es i x → drop i es ≡ x ∷ drop (i + 1) es
  next_of [] i x l e = absurd (omega (arith, l))
  next_of (y ∷ es) zero x l e = ap (λ z. z ∷ es) (sym e)
  next_of (y ∷ es) (suc i) x l e = let t : suc (i + 1) ≡ suc i + 1 = omega arith in next_of es i x (omega (arith, l)) e ∙ ap (λ k. x ∷ drop k (y ∷ es)) t

  -- the link of an item is one of these
  pub below_here : (n : ℕ) (es : List ((A × ℕ) × ℕ)) (i : ℕ) (x : (A × ℕ) × ℕ) → i < length es → x ≡ get_or es i x → LinksBelow n (drop i es) → x.1 < n
  below_here n es i x l e h = (subst (LinksBelow n) (next_of es i x l e) h).0

  pub below_next : (n : ℕ) (es : List ((A × ℕ) × ℕ)) (i : ℕ) (x : (A × ℕ) × ℕ) → i < length es → x ≡ get_or es i x → LinksBelow n (drop i es) → LinksBelow n (drop (i + 1) es)
  below_next n es i x l e h = (subst (LinksBelow n) (next_of es i x l e) h).1

  module _ (m : ℕ → ℕ) (es : List ((A × ℕ) × ℕ)) (i c : ℕ) (x : (A × ℕ) × ℕ) (s h : Heap) (held : ℕ → Option Port) (l : i < length es) (e : x ≡ get_or es i x) (class : c ≡ m x.1)
      (w : Meets m (by_id id (take i es)) (by_id id (drop i es)) s h held) where
    abbrev p : Port
    p = port_id id x.0

    abbrev left : List (Port × ℕ)
    left = by_id id (drop (i + 1) es)

    begun : Meets m (by_id id (take i es)) ((p, x.1) ∷ left) s h held
    begun = subst (λ k. Meets m (by_id id (take i es)) (by_id id k) s h held) (next_of es i x l e) w

    pub may : MayMeet h (held c) p
    may = subst (λ k. MayMeet h (held k) p) (sym class) (may_meet m (by_id id (take i es)) left p x.1 s h held held' begun after)
      where
        held' : ℕ → Option Port
        held' z = held_after held (m x.1) p z

        after : (z : ℕ) → held' z ≡ held_after held (m x.1) p z
        after z = refl

    taken : by_id id (take i es) ++ (p, x.1) ∷ [] ≡ by_id id (take (i + 1) es)
    taken = sym (map-append (λ (e : (A × ℕ) × ℕ). ((id e.0.0, e.0.1), e.1)) (take i es) (x ∷ [])) ∙ ap (by_id id) (ap (λ y. take i es ++ y ∷ []) e ∙ sym (take_more es i x l))

    pub meets_next : (h' : Heap) (held' : ℕ → Option Port) → h' ≡ met h (held c) p → ((z : ℕ) → held' z ≡ held_after held c p z) → Meets m (by_id id (take (i + 1) es)) left s h' held'
    meets_next h' held' f after = subst (λ k. Meets m k left s h' held') taken
        (one_more m (by_id id (take i es)) left p x.1 s h held held' begun (λ z. after z ∙ ap (λ k. held_after held k p z) class) h' (f ∙ ap (λ k. met h (held k) p) class))

  pub meets_all : (es : List ((A × ℕ) × ℕ)) (pairs : List (ℕ × ℕ)) (i : ℕ) (s h : Heap) (held : ℕ → Option Port) → length es ≤ i → TwiceOrNever (both_links pairs ++ links (by_id id es))
      → Meets (class_of pairs) (by_id id (take i es)) (by_id id (drop i es)) s h held → AreJoined (class_of pairs) (by_id id es) s h
  meets_all es pairs i s h held l twice w =
      all_met (class_of pairs) (by_id id es) (by_id id (drop i es)) s h held
      (classes_twice (λ z. z) pairs (links (by_id id es)) (subst TwiceOrNever (sym (map-id (both_links pairs ++ links (by_id id es)))) twice))
      (subst (λ k. Meets (class_of pairs) (by_id id k) (by_id id (drop i es)) s h held) (take_all i es l) w)
