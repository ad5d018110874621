-- What calls of a merging web read and write, one by one.
use Rattle.std.proofs.Common.{◌≡◌, ◌≢◌, ◌⊎◌, ℕ, ◌==◌, ◌&&◌, ◌≤◌, Bool, true, false, List, [], ◌∷◌, ◌++◌, length, Option, Some, None, refl, sym, ap, subst, ◌∙◌, inl, inr, arith}
use Rattle.std.proofs.lemmas.Bool.{cases_eq}
use Rattle.std.specs.Prelude.{slice_index_or, unwrap_or}
use Rattle.std.specs.Option.{option_map}
use Rattle.lmn_base.specs.Lists.{In}
use Rattle.lmn_store_heap.specs.Heap.{alter}
use Rattle.lmn_store_heap.specs.Lists.{without}
use Rattle.lmn_web.specs.declared.kind.CellKind.TheVariants.{Atom, Membrane}
use Rattle.lmn_web.specs.Webs.{WebCell, kind_at, home_at, arity_at, marks_of, cells_in, is_labelled, with_label, with_mark, relisted, added_last, unlinked, web_label, FilesNone, StandOnce, IsPaired}
use Rattle.lmn_web.proofs.FilterLemmas.{filter_same}
use Rattle.lmn_web.proofs.ListedLemmas.{kind_cases}
use Rattle.lmn_web_merging.specs.Keepers.{keeper, port_mark, is_retired, seen}
use Rattle.lmn_web_merging.specs.Moves.{AreKept}
use Rattle.lmn_web_merging.proofs.Seen.{not_atom, back, keepers_differ, keeper_kind, homed, seen_kind, seen_label, seen_first, seen_port_mark, seen_atom, atom_partners, atom_marks, no_partners, seen_cells, seen_once, home_under}
use Rattle.lmn_web_merging.proofs.Sending.{kind_there, home_is_membrane}
use Rattle.lmn_web_merging.proofs.Relisting.{seen_relisted, relisted_kept}
use Rattle.lmn_web_merging.proofs.Writing.{atom_marked_kept, seen_atom_marked, membrane_marked_kept, seen_membrane_marked}

module _ (w : ℕ → Option WebCell) where
  -- a membrane that never had a keeper keeps its own lists
  pub keeps_own : AreKept w → (m : ℕ) → kind_at w m ≡ Membrane → port_mark w m ≡ 0 → keeper w m ≡ m
  keeps_own a m k z = elim (cases_eq (keeper w m) m) [ inl e ↦ e | inr d ↦ absurd (a.told m d k z) ]

  -- and where it files no atoms, its cell doesn't
  pub files_under : AreKept w → (m : ℕ) → kind_at w m ≡ Membrane → is_retired (w m) ≡ false → port_mark (seen w) m ≡ 0 → FilesNone (seen w) m → FilesNone w (keeper w m)
  files_under a m k there z none l e = none l (seen_label w m there ∙ ap (web_label w) (sym (keeps_own a m k (sym (seen_port_mark w m k there) ∙ z))) ∙ e)

  -- a slot that is seen is one
  pub slot_within : (x i : ℕ) → is_retired (w x) ≡ false → i ≤ arity_at (seen w) x → i ≤ arity_at w x
  slot_within x i there low = elim (kind_cases (kind_at w x) Atom) [
    | inl e ↦ subst (λ (ps : List (Option (ℕ × ℕ))). i ≤ length ps) (atom_partners w x e) low
    | inr d ↦ (let none = ap (λ (ps : List (Option (ℕ × ℕ))). length ps) (no_partners w x (not_atom (kind_at w x) d)) in omega (arith, low, none))
  ]

  only_first : (x i : ℕ) → (kind_at w x ≡ Atom → ⊥) → i ≤ arity_at (seen w) x → i ≡ 0
  only_first x i d low = let none = ap (λ (ps : List (Option (ℕ × ℕ))). length ps) (no_partners w x (not_atom (kind_at w x) d)) in omega (arith, low, none)

  -- and its mark is seen
  pub mark_seen : (x i : ℕ) → is_retired (w x) ≡ false → i ≤ arity_at (seen w) x → slice_index_or (marks_of (seen w x)) i 0 ≡ slice_index_or (marks_of (w x)) i 0
  mark_seen x i there low = elim (kind_cases (kind_at w x) Atom) [
    | inl e ↦ ap (λ (us : List ℕ). slice_index_or us i 0) (atom_marks w x e)
    | inr d ↦ subst (λ k. slice_index_or (marks_of (seen w x)) k 0 ≡ slice_index_or (marks_of (w x)) k 0) (sym (only_first x i d low)) (seen_first w x there)
  ]

  -- a mark is another
  pub marked_both : AreKept w → (x i n : ℕ) → is_retired (w x) ≡ false → i ≤ arity_at (seen w) x → AreKept (alter w x (option_map (with_mark i n))) × (seen (alter w x (option_map (with_mark i n))) ≡ alter (seen w) x (option_map (with_mark i n)))
  marked_both a x i n there low = elim (kind_cases (kind_at w x) Atom) [
    | inl e ↦ (atom_marked_kept w a x n i e, seen_atom_marked w a x n i e)
    | inr d ↦ (let k = not_atom (kind_at w x) d in
        subst (λ j. AreKept (alter w x (option_map (with_mark j n))) × (seen (alter w x (option_map (with_mark j n))) ≡ alter (seen w) x (option_map (with_mark j n)))) (sym (only_first x i d low)) (membrane_marked_kept w a x n k, seen_membrane_marked w a x n k))
  ]

  module _ (l : StandOnce w) (r : IsPaired w) (a : AreKept w) where
    -- the atoms of a membrane with a label
    pub labelled_alike : (m label n : ℕ) → with_label (seen w) label n (cells_in (seen w) m Atom) ≡ with_label w label n (cells_in w (keeper w m) Atom)
    labelled_alike m label n = ap (with_label (seen w) label n) (seen_cells w r a m Atom) ∙ filter_same (is_labelled (seen w) label n) (is_labelled w label n) (cells_in w (keeper w m) Atom) (λ x i.
        let e = (l.homes (keeper w m) x Atom i).1 in
        let p = seen_label w x (seen_atom w x e) in
        let q = atom_partners w x e in
        λ t. unwrap_or (option_map (λ k. k == label) (p t)) false && (length (q t) == n))

    -- a cell leaves its list
    pub unlinked_both : (x m : ℕ) → home_at (seen w) x ≡ Some m → AreKept (unlinked w (keeper w m) x) × (seen (unlinked w (keeper w m) x) ≡ unlinked (seen w) m x)
    unlinked_both x m e =
        let h = home_under w r a x m e in
        let there = homed w r a x (keeper w m) h in
        let once = seen_once w r a l in
        let apart : x ≢ m = (once.homes m x (kind_at (seen w) x) (once.listed m x e)).2 in
        let some = kind_there (w (keeper w m)) (home_is_membrane w l x (keeper w m) h) in
        let rest = without x (cells_in w (keeper w m) (kind_at w x)) in
        let lists : rest ≡ without x (cells_in (seen w) m (kind_at (seen w) x)) = ap (without x) (ap (cells_in w (keeper w m)) (sym (seen_kind w x there)) ∙ sym (seen_cells w r a m (kind_at (seen w) x))) in (
          relisted_kept w r a m x None rest apart there some (stays x m h) (λ q. absurd (let z : ◌≡◌ {A = Option ℕ} None (Some (keeper w x)) = q in cc)),
          seen_relisted w r a m x None rest apart there some ∙ ap (relisted (seen w) m x None) lists,
        )
      where
        stays : (x m : ℕ) → home_at w x ≡ Some (keeper w m) → is_retired (w m) ≡ false
        stays x m h = by (is_retired (w m)) refl
          where
            by : (b : Bool) → is_retired (w m) ≡ b → is_retired (w m) ≡ false
            by true t = absurd (subst (λ us. In x us) (a.bare m (kind_at w x) t) (l.listed (keeper w m) x h))
            by false t = t

  -- a cell goes to the end of a list
  pub added_both : (r : IsPaired w) (a : AreKept w) (x m : ℕ) → is_retired (w x) ≡ false → kind_at w m ≡ Membrane → is_retired (w m) ≡ false → x ≢ m
      → (kind_at w x ≡ Membrane → (port_mark (seen w) x ≡ 0) ⊎ (port_mark (seen w) m ≡ 0))
      → (x ≢ keeper w m) × AreKept (added_last w (keeper w m) x) × (seen (added_last w (keeper w m) x) ≡ added_last (seen w) m x)
  added_both r a x m tx km tm differ own =
      let M = keeper w m in
      let some = kind_there (w M) (keeper_kind w r a m km) in
      let all = cells_in w M (kind_at w x) ++ x ∷ [] in
      let lists : all ≡ cells_in (seen w) m (kind_at (seen w) x) ++ x ∷ [] = ap (λ us. us ++ x ∷ []) (ap (cells_in w M) (sym (seen_kind w x tx)) ∙ sym (seen_cells w r a m (kind_at (seen w) x))) in
      let new : Some M ≢ Some (keeper w x) = λ e. differ (sym (keepers_differ w r a m x (let z : ◌≡◌ {A = Option ℕ} (Some M) (Some (keeper w x)) = e in cc))) in (
        other,
        relisted_kept w r a m x (Some M) all differ tx some tm new,
        seen_relisted w r a m x (Some M) all differ tx some ∙ (λ i. relisted (seen w) m x (Some (back w r a m i)) (lists i)),
      )
    where
      other : x ≢ keeper w m
      other e =
          let kx : kind_at w x ≡ Membrane = ap (kind_at w) e ∙ keeper_kind w r a m km in
          elim (own kx) [
            | inl z ↦ differ (keepers_differ w r a x m (keeps_own a x kx (sym (seen_port_mark w x kx tx) ∙ z) ∙ e))
            | inr z ↦ differ (e ∙ keeps_own a m km (sym (seen_port_mark w m km tm) ∙ z))
          ]
