-- After `finish` a store is valid.
use Rattle.std.proofs.Common.{◌≡◌, ◌≢◌, ◌⊎◌, ℕ, ◌+◌, ◌<◌, ◌↔◌, [], ◌∷◌, length, Option, Some, None, IsSome, refl, sym, ap, subst, ◌∙◌, inl, inr, arith}
use Rattle.std.specs.Option.{option_map, option_and_then}
use Rattle.std.specs.Prelude.{slice_index_or}
use Rattle.lmn_store_heap.specs.Heap.{Heap, HeapAtom, HeapMem, Place, top, within, waiting, gone, home_by, place_of, mem_place_of, atoms_in, mems_in, atoms_by, mems_by, partners_of, marks_of, link_of, arity_of, functor_of, IsAtom, IsMem, IsInPlace, parent_of, unless_gone, mem_unless_gone, finished, Distinct}
use Rattle.lmn_store_heap.specs.Sound.{Forest, flat, Forms, Listed, Sound, Shaped, Valid}
use Rattle.lmn_store_heap.specs.Conditions.{Ready}
use Rattle.lmn_base.specs.Solids.{connector}
use Rattle.lmn_store_heap.proofs.Groves.{forms_frame}
use Rattle.lmn_base.specs.Lists.{In}

-- what is kept of an atom, and of a membrane
kept : (o : Option HeapAtom) (P : Place) → option_map (λ x. x.place) o ≡ Some P → (P ≡ gone → ⊥) → option_and_then unless_gone o ≡ o
kept None P e d = refl
kept (Some x) P e d = by x.place refl (let w : x.place ≡ P = (cc) in λ g. d (sym w ∙ g))
  where
    by : (p : Place) → x.place ≡ p → (p ≡ gone → ⊥) → unless_gone x ≡ Some x
    by top e d = rw e refl
    by (within m) e d = rw e refl
    by waiting e d = rw e refl
    by gone e d = absurd (d refl)

lost : (o : Option HeapAtom) → option_map (λ x. x.place) o ≡ Some gone → option_and_then unless_gone o ≡ None
lost None e = refl
lost (Some x) e = let w : x.place ≡ gone = (cc) in rw w refl

mem_kept : (o : Option HeapMem) (P : Place) → option_map (λ x. x.place) o ≡ Some P → (P ≡ gone → ⊥) → option_and_then mem_unless_gone o ≡ o
mem_kept None P e d = refl
mem_kept (Some x) P e d = by x.place refl (let w : x.place ≡ P = (cc) in λ g. d (sym w ∙ g))
  where
    by : (p : Place) → x.place ≡ p → (p ≡ gone → ⊥) → mem_unless_gone x ≡ Some x
    by top e d = rw e refl
    by (within m) e d = rw e refl
    by waiting e d = rw e refl
    by gone e d = absurd (d refl)

mem_lost : (o : Option HeapMem) → option_map (λ x. x.place) o ≡ Some gone → option_and_then mem_unless_gone o ≡ None
mem_lost None e = refl
mem_lost (Some x) e = let w : x.place ≡ gone = (cc) in rw w refl

in_both : {A B C : Type 0} → (A ↔ B) → (B ↔ C) → A ↔ C
in_both p q = (λ x. q.0 (p.0 x), λ z. p.1 (q.1 z))

module _ (s : Heap) (sound : Sound s) (r : Ready s) where
  -- an atom stays as it is, or is freed
  atom_is : (a : ℕ) → (((finished s).atoms a ≡ s.atoms a) × (place_of s a ≡ Some gone → ⊥)) ⊎ (((finished s).atoms a ≡ None) × (place_of s a ≡ Some gone))
  atom_is a = by (s.atoms a)
    where
      place : (x : HeapAtom) (p : Place) → x.place ≡ p
          → ((option_and_then unless_gone (Some x) ≡ Some x) × (Some x.place ≡ Some gone → ⊥)) ⊎ ((option_and_then unless_gone (Some x) ≡ None) × (Some x.place ≡ Some gone))
      place x top e = inl (kept (Some x) top (ap (λ z. Some z) e) (λ g. absurd (cc)), λ g. absurd (cc))
      place x (within m) e = inl (kept (Some x) (within m) (ap (λ z. Some z) e) (λ g. absurd (cc)), λ g. absurd (cc))
      place x waiting e = inl (kept (Some x) waiting (ap (λ z. Some z) e) (λ g. absurd (cc)), λ g. absurd (cc))
      place x gone e = inr (lost (Some x) (ap (λ z. Some z) e), ap (λ z. Some z) e)

      by : (o : Option HeapAtom) → ((option_and_then unless_gone o ≡ o) × (option_map (λ x. x.place) o ≡ Some gone → ⊥)) ⊎ ((option_and_then unless_gone o ≡ None) × (option_map (λ x. x.place) o ≡ Some gone))
      by None = inl (refl, λ e. absurd (cc))
      by (Some x) = place x x.place refl

  mem_is : (m : ℕ) → (((finished s).mems m ≡ s.mems m) × (mem_place_of s m ≡ Some gone → ⊥)) ⊎ (((finished s).mems m ≡ None) × (mem_place_of s m ≡ Some gone))
  mem_is m = by (s.mems m)
    where
      place : (x : HeapMem) (p : Place) → x.place ≡ p
          → ((option_and_then mem_unless_gone (Some x) ≡ Some x) × (Some x.place ≡ Some gone → ⊥)) ⊎ ((option_and_then mem_unless_gone (Some x) ≡ None) × (Some x.place ≡ Some gone))
      place x top e = inl (mem_kept (Some x) top (ap (λ z. Some z) e) (λ g. absurd (cc)), λ g. absurd (cc))
      place x (within m) e = inl (mem_kept (Some x) (within m) (ap (λ z. Some z) e) (λ g. absurd (cc)), λ g. absurd (cc))
      place x waiting e = inl (mem_kept (Some x) waiting (ap (λ z. Some z) e) (λ g. absurd (cc)), λ g. absurd (cc))
      place x gone e = inr (mem_lost (Some x) (ap (λ z. Some z) e), ap (λ z. Some z) e)

      by : (o : Option HeapMem) → ((option_and_then mem_unless_gone o ≡ o) × (option_map (λ x. x.place) o ≡ Some gone → ⊥)) ⊎ ((option_and_then mem_unless_gone o ≡ None) × (option_map (λ x. x.place) o ≡ Some gone))
      by None = inl (refl, λ e. absurd (cc))
      by (Some x) = place x x.place refl

  pub place_fin : (a : ℕ) (P : Place) → (P ≡ gone → ⊥) → (place_of s a ≡ Some P) ↔ (place_of (finished s) a ≡ Some P)
  place_fin a P d = elim (atom_is a) [
    | inl w ↦ (let e = ap (λ (o : Option HeapAtom). option_map (λ x. x.place) o) w.0 in (λ p. e ∙ p, λ p. sym e ∙ p))
    | inr w ↦ (let e = ap (λ (o : Option HeapAtom). option_map (λ x. x.place) o) w.0 in
        (λ p. absurd (let g : Some P ≡ Some gone = sym p ∙ w.1 in d (cc)), λ p. absurd (let g : None ≡ Some P = sym e ∙ p in cc)))
  ]

  pub mem_place_fin : (m : ℕ) (P : Place) → (P ≡ gone → ⊥) → (mem_place_of s m ≡ Some P) ↔ (mem_place_of (finished s) m ≡ Some P)
  mem_place_fin m P d = elim (mem_is m) [
    | inl w ↦ (let e = ap (λ (o : Option HeapMem). option_map (λ x. x.place) o) w.0 in (λ p. e ∙ p, λ p. sym e ∙ p))
    | inr w ↦ (let e = ap (λ (o : Option HeapMem). option_map (λ x. x.place) o) w.0 in
        (λ p. absurd (let g : Some P ≡ Some gone = sym p ∙ w.1 in d (cc)), λ p. absurd (let g : None ≡ Some P = sym e ∙ p in cc)))
  ]

  pub atoms_fin : (m : ℕ) → atoms_in (finished s) m ≡ atoms_in s m
  atoms_fin m = elim (mem_is m) [ inl w ↦ ap atoms_by w.0 | inr w ↦ ap atoms_by w.0 ∙ sym (r.empty m w.1).0 ]

  pub mems_fin : (m : ℕ) → mems_in (finished s) m ≡ mems_in s m
  mems_fin m = elim (mem_is m) [ inl w ↦ ap mems_by w.0 | inr w ↦ ap mems_by w.0 ∙ sym (r.empty m w.1).1 ]

  pub finished_listed : Listed (finished s)
  finished_listed =
      let h = sound.listed in
      record {
        atoms = λ m a. rw (atoms_fin m) (in_both (h.atoms m a) (place_fin a (within m) (λ e. absurd (cc))));
        atoms_once = λ m. rw (atoms_fin m) (h.atoms_once m);
        mems = λ m n. rw (mems_fin m) (in_both (h.mems m n) (mem_place_fin n (within m) (λ e. absurd (cc))));
        mems_once = λ m. rw (mems_fin m) (h.mems_once m);
        new_atoms = λ a. in_both (h.new_atoms a) (place_fin a waiting (λ e. absurd (cc)));
        new_atoms_once = h.new_atoms_once;
        new_mems = λ m. in_both (h.new_mems m) (mem_place_fin m waiting (λ e. absurd (cc)));
        new_mems_once = h.new_mems_once;
        root = λ m. (λ e. (h.root m).0 ((mem_place_fin m top (λ e. absurd (cc))).1 e), λ e. (mem_place_fin m top (λ e. absurd (cc))).0 ((h.root m).1 e));
        no_top = λ a e. h.no_top a ((place_fin a top (λ e. absurd (cc))).1 e);
        new_empty = λ m e. let w = h.new_empty m ((mem_place_fin m waiting (λ e. absurd (cc))).1 e) in (atoms_fin m ∙ w.0, mems_fin m ∙ w.1);
      }

  -- what isn't freed, and isn't gone, is in place
  stays : (a : ℕ) → IsSome (s.atoms a) → (place_of s a ≡ Some gone → ⊥) → IsInPlace s a
  stays a is d = by (s.atoms a) is (λ e. d e) (sound.listed.no_top a) (λ e. let w : In a s.new_atoms = (sound.listed.new_atoms a).1 e in subst (In a) r.no_atoms w)
    where
      place : (x : HeapAtom) (p : Place) → x.place ≡ p → (Some x.place ≡ Some gone → ⊥) → (Some x.place ≡ Some top → ⊥) → (Some x.place ≡ Some waiting → ⊥) → IsSome (home_by x.place)
      place x top e d t w = absurd (t (ap (λ z. Some z) e))
      place x (within m) e d t w = rw e refl
      place x waiting e d t w = absurd (w (ap (λ z. Some z) e))
      place x gone e d t w = absurd (d (ap (λ z. Some z) e))

      by : (o : Option HeapAtom) → IsSome o → (option_map (λ x. x.place) o ≡ Some gone → ⊥) → (option_map (λ x. x.place) o ≡ Some top → ⊥) → (option_map (λ x. x.place) o ≡ Some waiting → ⊥) → IsSome (option_and_then (λ x. home_by x.place) o)
      by None i d t w = absurd (cc)
      by (Some x) i d t w = place x x.place refl d t w

  pub is_there : (a k b j : ℕ) → link_of s a k ≡ Some (b, j) → IsSome (s.atoms a)
  is_there a k b j e = by (s.atoms a) e
    where
      by : (o : Option HeapAtom) → slice_index_or (partners_of o) k None ≡ Some (b, j) → IsSome o
      by None e = absurd (cc)
      by (Some x) e = refl

  link_fin : (a k : ℕ) → ((link_of (finished s) a k ≡ link_of s a k) × (place_of s a ≡ Some gone → ⊥)) ⊎ ((link_of (finished s) a k ≡ None) × (place_of s a ≡ Some gone))
  link_fin a k = elim (atom_is a) [
    | inl w ↦ inl (ap (λ (o : Option HeapAtom). slice_index_or (partners_of o) k None) w.0, w.1)
    | inr w ↦ inr (ap (λ (o : Option HeapAtom). slice_index_or (partners_of o) k None) w.0, w.1)
  ]

  finished_back : (c k d l : ℕ) → link_of (finished s) c k ≡ Some (d, l) → link_of (finished s) d l ≡ Some (c, k)
  finished_back c k d l e = elim (link_fin c k) [
    | inl w ↦ (let old : link_of s c k ≡ Some (d, l) = sym w.0 ∙ e in
        let in_place = stays c (is_there c k d l old) w.1 in
        elim (link_fin d l) [ inl v ↦ v.0 ∙ sound.paired.back c k d l old | inr v ↦ absurd (r.kept c k d l in_place old v.1) ])
    | inr w ↦ absurd (let g : None ≡ Some (d, l) = sym w.0 ∙ e in cc)
  ]

  finished_apart : (c k : ℕ) → link_of (finished s) c k ≡ Some (c, k) → ⊥
  finished_apart c k e = elim (link_fin c k) [ inl w ↦ sound.paired.apart c k (sym w.0 ∙ e) | inr w ↦ (let g : ◌≡◌ {A = Option (ℕ × ℕ)} None (Some (c, k)) = sym w.0 ∙ e in absurd (cc)) ]

  finished_shaped : Shaped (finished s)
  finished_shaped = record {
    ports = λ a f e. elim (atom_is a) [
      | inl w ↦ ap (λ (o : Option HeapAtom). length (partners_of o)) w.0 ∙ sound.shaped.ports a f (sym (ap (λ (o : Option HeapAtom). option_map (λ x. x.functor) o) w.0) ∙ e)
      | inr w ↦ absurd (let n : None ≡ Some f = sym (ap (λ (o : Option HeapAtom). option_map (λ x. x.functor) o) w.0) ∙ e in cc)
    ];
    marks = λ a is. elim (atom_is a) [
      | inl w ↦ subst (λ (o : Option HeapAtom). length (marks_of o) ≡ length (partners_of o) + 1) (sym w.0) (sound.shaped.marks a (subst (λ (o : Option HeapAtom). IsSome o) w.0 is))
      | inr w ↦ absurd (let n : IsSome {T = HeapAtom} None = subst (λ (o : Option HeapAtom). IsSome o) w.0 is in cc)
    ];
  }

  pub finished_sound : Sound (finished s)
  finished_sound = record { paired = record { back = finished_back; apart = finished_apart }; listed = finished_listed; shaped = finished_shaped }

  finished_full : (a i : ℕ) → i < arity_of (finished s) a → IsSome (link_of (finished s) a i)
  finished_full a i h = elim (atom_is a) [
    | inl w ↦ (let n : i < arity_of s a = subst (λ (o : Option HeapAtom). i < length (partners_of o)) w.0 h in
        subst (λ (o : Option HeapAtom). IsSome (slice_index_or (partners_of o) i None)) (sym w.0) (r.full a i (stays a (some_links (s.atoms a) n) w.1) n))
    | inr w ↦ absurd (let n : i < 0 = subst (λ (o : Option HeapAtom). i < length (partners_of o)) w.0 h in omega arith)
  ]
    where
      some_links : (o : Option HeapAtom) → i < length (partners_of o) → IsSome o
      some_links None h = absurd (omega arith)
      some_links (Some x) h = refl

  finished_atoms : (a : ℕ) → IsAtom (finished s) a → IsInPlace (finished s) a
  finished_atoms a is = elim (atom_is a) [
    | inl w ↦ subst (λ (o : Option HeapAtom). IsSome (option_and_then (λ x. home_by x.place) o)) (sym w.0) (stays a (subst (λ (o : Option HeapAtom). IsSome o) w.0 is) w.1)
    | inr w ↦ absurd (let n : IsSome {T = HeapAtom} None = subst (λ (o : Option HeapAtom). IsSome o) w.0 is in cc)
  ]

  finished_mems : (m : ℕ) → IsMem (finished s) m → (mem_place_of (finished s) m ≡ Some top) ⊎ IsSome (parent_of (finished s) m)
  finished_mems m is = by ((finished s).mems m) is (λ e. absurd (waits e)) gone_no
    where
      waits : mem_place_of (finished s) m ≡ Some waiting → ⊥
      waits e = subst (In m) r.no_mems ((finished_listed.new_mems m).1 e)

      gone_no : mem_place_of (finished s) m ≡ Some gone → ⊥
      gone_no e = elim (mem_is m) [
        | inl w ↦ w.1 (sym (ap (λ (o : Option HeapMem). option_map (λ x. x.place) o) w.0) ∙ e)
        | inr w ↦ (let g : None ≡ Some gone = sym (ap (λ (o : Option HeapMem). option_map (λ x. x.place) o) w.0) ∙ e in absurd (cc))
      ]

      place : (x : HeapMem) (p : Place) → x.place ≡ p → (Some x.place ≡ Some waiting → ⊥) → (Some x.place ≡ Some gone → ⊥) → (Some x.place ≡ Some top) ⊎ IsSome (home_by x.place)
      place x top e w d = inl (ap (λ z. Some z) e)
      place x (within m) e w d = inr (rw e refl)
      place x waiting e w d = absurd (w (ap (λ z. Some z) e))
      place x gone e w d = absurd (d (ap (λ z. Some z) e))

      by : (o : Option HeapMem) → IsSome o → (option_map (λ x. x.place) o ≡ Some waiting → ⊥) → (option_map (λ x. x.place) o ≡ Some gone → ⊥)
          → (option_map (λ x. x.place) o ≡ Some top) ⊎ IsSome (option_and_then (λ x. home_by x.place) o)
      by None i w d = absurd (cc)
      by (Some x) i w d = place x x.place refl w d

  -- The tree of the root holds every membrane that isn't taken, and no atom in place is a connector.
  pub finish_valid : (f : Forest) → Forms s f (s.root ∷ []) → Distinct (flat f) → ((m : ℕ) → IsMem s m → (mem_place_of s m ≡ Some gone → ⊥) → In m (flat f))
      → ((a : ℕ) → IsInPlace s a → functor_of s a ≢ Some connector) → Valid (finished s)
  finish_valid f F d all plain = record {
    sound = finished_sound;
    settled = record { atoms = finished_atoms; mems = finished_mems };
    full = finished_full;
    no_connector = λ a i e. elim (atom_is a) [
      | inl w ↦ plain a (subst (λ (o : Option HeapAtom). IsSome (option_and_then (λ x. home_by x.place) o)) w.0 i)
          (sym (ap (λ (o : Option HeapAtom). option_map (λ x. x.functor) o) w.0) ∙ e)
      | inr w ↦ absurd (let n : None ≡ Some connector = sym (ap (λ (o : Option HeapAtom). option_map (λ x. x.functor) o) w.0) ∙ e in cc)
    ];
    tree = (
      f,
      record {
        forms = forms_frame s (finished s) f (s.root ∷ []) (λ m p. mems_fin m) F;
        once = d;
        all = λ m is. elim (mem_is m) [
          | inl w ↦ all m (subst (λ (o : Option HeapMem). IsSome o) w.0 is) w.1
          | inr w ↦ absurd (let n : IsSome {T = HeapMem} None = subst (λ (o : Option HeapMem). IsSome o) w.0 is in cc)
        ];
      },
    );
  }
