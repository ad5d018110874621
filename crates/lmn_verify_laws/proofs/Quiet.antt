-- A membrane in which verified code has failed may sleep.
use Rattle.std.proofs.Common.{◌≡◌, ◌+◌, ◌⊎◌, inl, inr, ℕ, Bool, true, false, cond, List, [], ◌∷◌, ◌++◌, length, sym, subst, true≢false}
use Rattle.std.specs.List.{list_all}
use Rattle.lmn_base.proofs.Truth.{and_true}
use Rattle.lmn_store_heap.specs.Heap.{Heap, IsMemInPlace, mem_mark_of}
use Rattle.lmn_store_heap.specs.Conditions.{Above}
use Rattle.lmn_store_heap.specs.Sound.{Valid}
use Rattle.lmn_store_trait.specs.Awake.{awake_mark}
use Rattle.lmn_solid_heads.specs.Heads.{HeadMembrane, membranes_of}
use Rattle.lmn_solid_bodies.specs.Code.{body_code, drops as body_drops}
use Rattle.lmn_solid_bodies.specs.Running.{Registers}
use Rattle.lmn_instr_code.specs.declared.instr.Code.{Code}
use Rattle.lmn_instr_code.specs.declared.instr.Instr.{Instr}
use Rattle.lmn_instr_code.specs.declared.instr.Instr.TheVariants.{DropCells, RemoveAtom, RemoveMem, Proceed}
use Rattle.lmn_instr_code.specs.Running.{IsFirstSuccess}
use Rattle.lmn_machine_commit.specs.Waking.{Commits, IsRoused, Rouses, SomeRouses, WakesRoused}
use Rattle.lmn_machine_commit.proofs.Roused.{rules_wake_touched}
use Rattle.lmn_schedule_sleep.specs.Quiet.{Wakes}
use Rattle.lmn_schedule_strategy.specs.Turns.{HoldsRestsOf}
use Rattle.lmn_verify_code.specs.Verified.{IsVerified, drops, makes, membranes_found}
use Rattle.lmn_verify_laws.specs.Flat.{flat_body, flat_head, link_count}
use Rattle.lmn_verify_laws.specs.Laws.{VerifiedAreQuiet, VerifiedIsQuiet}
use Rattle.lmn_verify_laws.proofs.Commits.{does_too, each_ties, prepared}
use Rattle.lmn_verify_laws.proofs.Exchanged.{is_tie}
use Rattle.lmn_verify_laws.proofs.Failing.{succeeded}
use Rattle.lmn_verify_laws.proofs.Heads.{lies}
use Rattle.lmn_verify_laws.proofs.Linking.{is_nested}
use Rattle.lmn_verify_laws.proofs.Rests.{verified_holds_rests}
use Rattle.lmn_verify_laws.proofs.Runnable.{same}
use Rattle.lmn_verify_laws.proofs.Shape.{HasShape, made_code, shape, taken_code, ties_code}

-- ---- what code rouses

module _ (s : Heap) (r : Registers) (y : ℕ) where
  rouses_split : (xs ys : List Instr) → SomeRouses s r (xs ++ ys) y → SomeRouses s r xs y ⊎ SomeRouses s r ys y
  rouses_split [] ys w = inr w
  rouses_split (x ∷ xs) ys (inl w) = inl (inl w)
  rouses_split (x ∷ xs) ys (inr w) = by (rouses_split xs ys w)
    where
      by : SomeRouses s r xs y ⊎ SomeRouses s r ys y → SomeRouses s r (x ∷ xs) y ⊎ SomeRouses s r ys y
      by (inl u) = inl (inr u)
      by (inr u) = inr u

  rouses_first : (xs ys : List Instr) → SomeRouses s r xs y → SomeRouses s r (xs ++ ys) y
  rouses_first (x ∷ xs) ys (inl w) = inl w
  rouses_first (x ∷ xs) ys (inr w) = inr (rouses_first xs ys w)
  rouses_first [] ys w = absurd w

  -- instructions of which none takes an atom or a membrane out rouse nothing
  rouses_none : (test : Instr → Bool) → ((i : Instr) → test i ≡ true → Rouses s r i y → ⊥) → (is : List Instr) → list_all test is ≡ true → SomeRouses s r is y → ⊥
  rouses_none test none [] e w = w
  rouses_none test none (i ∷ is) e (inl w) = none i (and_true (test i) (list_all test is) e).0 w
  rouses_none test none (i ∷ is) e (inr w) = rouses_none test none is (and_true (test i) (list_all test is) e).1 w

  made_none : (h k : ℕ) (i : Instr) → makes h k i ≡ true → Rouses s r i y → ⊥
  made_none h k (RemoveAtom a) e w = true≢false (sym e)
  made_none h k (RemoveMem m) e w = true≢false (sym e)
  made_none h k _ e w = w

  dropped_none : (h : ℕ) (i : Instr) → drops h i ≡ true → Rouses s r i y → ⊥
  dropped_none h (RemoveAtom a) e w = true≢false (sym e)
  dropped_none h (RemoveMem m) e w = true≢false (sym e)
  dropped_none h _ e w = w

  tied_none : (i : Instr) → is_tie i ≡ true → Rouses s r i y → ⊥
  tied_none (RemoveAtom a) e w = true≢false (sym e)
  tied_none (RemoveMem m) e w = true≢false (sym e)
  tied_none _ e w = w

  body_drops_none : (k : ℕ) (bs : List HeadMembrane) → SomeRouses s r (body_drops k bs) y → ⊥
  body_drops_none k [] w = w
  body_drops_none k (b ∷ bs) w = by b.has_closed_context w (body_drops_none (k + 1) bs)
    where
      by : (c : Bool) → SomeRouses s r (cond c (DropCells k ∷ []) [] ++ body_drops (k + 1) bs) y → (SomeRouses s r (body_drops (k + 1) bs) y → ⊥) → ⊥
      by true (inl u) more = u
      by true (inr u) more = more u
      by false u more = more u

  proceed_none : SomeRouses s r (Proceed ∷ []) y → ⊥
  proceed_none (inl w) = w
  proceed_none (inr w) = w

  behind_none : (made dropped tied : List Instr) → (SomeRouses s r made y → ⊥) → (SomeRouses s r dropped y → ⊥) → (SomeRouses s r tied y → ⊥) → SomeRouses s r (made ++ (dropped ++ (tied ++ (Proceed ∷ [])))) y → ⊥
  behind_none made dropped tied a b c w = first (rouses_split made (dropped ++ (tied ++ (Proceed ∷ []))) w)
    where
      third : SomeRouses s r tied y ⊎ SomeRouses s r (Proceed ∷ []) y → ⊥
      third (inl u) = c u
      third (inr u) = proceed_none u

      second : SomeRouses s r dropped y ⊎ SomeRouses s r (tied ++ (Proceed ∷ [])) y → ⊥
      second (inl u) = b u
      second (inr u) = third (rouses_split tied (Proceed ∷ []) u)

      first : SomeRouses s r made y ⊎ SomeRouses s r (dropped ++ (tied ++ (Proceed ∷ []))) y → ⊥
      first (inl u) = a u
      first (inr u) = second (rouses_split dropped (tied ++ (Proceed ∷ [])) u)

-- ---- verified code

module _ (code : Code) (k : ℕ) (v : IsVerified code k) (s : Heap) (r : Registers) where
  abbrev B : List Instr
  B = body_code (flat_head code) (flat_body code) (link_count code)

  abbrev T : List Instr
  T = taken_code code k v

  abbrev M : List Instr
  M = made_code code k v

  abbrev S : HasShape code k v
  S = shape code k v

  -- what is taken out is the same in the body of the code and in that of its flat rule, and nothing else rouses
  taken_alone : (y : ℕ) → SomeRouses s r code.body y → SomeRouses s r T y
  taken_alone y w = by (rouses_split s r y T (M ++ (S.dropped ++ (S.tied ++ (Proceed ∷ [])))) (subst (λ is. SomeRouses s r is y) S.whole w))
    where
      by : SomeRouses s r T y ⊎ SomeRouses s r (M ++ (S.dropped ++ (S.tied ++ (Proceed ∷ [])))) y → SomeRouses s r T y
      by (inl u) = u
      by (inr u) =
          absurd (behind_none s r y M S.dropped S.tied (rouses_none s r y (makes (1 + length (membranes_found code.head)) k) (made_none s r y (1 + length (membranes_found code.head)) k) M S.makes_all)
          (rouses_none s r y (drops (1 + length (membranes_found code.head))) (dropped_none s r y (1 + length (membranes_found code.head))) S.dropped S.drops_all) (rouses_none s r y is_tie (tied_none s r y) S.tied S.ties_all) u)

  flat_alone : (y : ℕ) → SomeRouses s r B y → SomeRouses s r T y
  flat_alone y w = by (rouses_split s r y T (M ++ (body_drops 1 (membranes_of (flat_head code)) ++ (ties_code code k v ++ (Proceed ∷ [])))) w)
    where
      by : SomeRouses s r T y ⊎ SomeRouses s r (M ++ (body_drops 1 (membranes_of (flat_head code)) ++ (ties_code code k v ++ (Proceed ∷ [])))) y → SomeRouses s r T y
      by (inl u) = u
      by (inr u) =
          absurd (behind_none s r y M (body_drops 1 (membranes_of (flat_head code))) (ties_code code k v)
          (rouses_none s r y (makes (1 + length (membranes_found code.head)) k) (made_none s r y (1 + length (membranes_found code.head)) k) M S.makes_all)
          (body_drops_none s r y 1 (membranes_of (flat_head code))) (rouses_none s r y is_tie (tied_none s r y) (ties_code code k v) (each_ties S.tied (ties_code code k v) S.same_ties S.ties_all)) u)

  to_flat : (y : ℕ) → IsRoused s r code.body y → IsRoused s r B y
  to_flat y (inl e) = inl e
  to_flat y (inr w) = inr (rouses_first s r y T (M ++ (body_drops 1 (membranes_of (flat_head code)) ++ (ties_code code k v ++ (Proceed ∷ [])))) (taken_alone y w))

  of_flat : (y : ℕ) → IsRoused s r B y → IsRoused s r code.body y
  of_flat y (inl e) = inl e
  of_flat y (inr w) = inr (subst (λ is. SomeRouses s r is y) (sym S.whole) (rouses_first s r y T (M ++ (S.dropped ++ (S.tied ++ (Proceed ∷ [])))) (flat_alone y w)))

  flat_wakes : (t : Heap) → WakesRoused s r code.body t → WakesRoused s r B t
  flat_wakes t w = record {
    stood = w.stood;
    woken = λ x y j u a. w.woken x y j (of_flat y u) a;
    others = λ x i. by x (w.others x i);
  }
    where
      by : (x : ℕ) → (mem_mark_of t x ≡ mem_mark_of s x) ⊎ ((mem_mark_of t x ≡ awake_mark) × ((y : ℕ) × (j : ℕ) × IsRoused s r code.body y × Above s j x y))
          → (mem_mark_of t x ≡ mem_mark_of s x) ⊎ ((mem_mark_of t x ≡ awake_mark) × ((y : ℕ) × (j : ℕ) × IsRoused s r B y × Above s j x y))
      by x (inl e) = inl e
      by x (inr (e, w)) = inr (e, (w.0, w.1, to_flat w.0 w.2, w.3))

-- what a commit of verified code touches wakes
commit_wakes : (code : Code) (k : ℕ) → IsVerified code k → (h : Heap) (m : ℕ) (r : Registers) → Valid h → IsMemInPlace h m → IsFirstSuccess h code.head m r.head → HoldsRestsOf h code.head r → (t : Heap) → Commits h r code.body t → Wakes h t m
commit_wakes code k v h m r valid place first holds t done =
    let lie = lies code k v h valid m r.head first.succeeds in
    let rests = verified_holds_rests code k v h m r valid place first holds in
    let prepares = prepared code k v h valid m place r lie rests done.prepared done.prepares in
    let does = does_too code k v h valid m place r lie rests (same code k v h valid m place r lie rests) done.prepared done.after prepares done.does in
    rules_wake_touched (flat_head code) (flat_body code) (link_count code) (is_nested code k v) h valid m place r lie rests t (record {
      prepared = done.prepared;
      prepares = prepares;
      makes = done.makes;
      after = done.after;
      does = does;
      alike = done.alike;
      wakes = flat_wakes code k v done.prepared r t done.wakes;
    })

pub verified_is_quiet : VerifiedIsQuiet
verified_is_quiet code k v = record {
  stays = λ h t vh vt m quiet none r succeeds. none r (succeeded code k v h t vh vt m quiet r succeeds);
  wakes = λ h m r valid place first holds t done. commit_wakes code k v h m r valid place first holds t done;
}

pub verified_are_quiet : VerifiedAreQuiet
verified_are_quiet codes all n code e = verified_is_quiet code (length codes) (all n code e)
