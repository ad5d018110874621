-- A word that is lent is read. Assumes `Logic`.
use Rattle.lmn_web_rows.proofs.Steps.{ℕ, ◌^◌, ◌<◌, List, [], ◌∷◌, refl, w32, w64, Ura, Lft, Share, fat, flft, ty_int, ty_ptr, Val, vint, Logic, Entry, Goal, Seq, Soaks, Step, step, ‵, ◌$◌, move, drop, feq_i, feq_l, flt_i, flt_l, fsplit, fjoin, rewrite, u32, u64, cell_at, part_at, hidden_shr, Shut, plain_Copied, uint_Copied, Ptr, RawPtr, ptr_val, coded_ptr, ptr_own, rawptr_pure, looks, shuts, RawPtr-laws}

module _ {M : Type 1} {𝓤 : Ura M} {𝓛 : Logic 𝓤} {K : Type 0} {Γ : List (Entry 𝓤)} {G : Goal 𝓤 𝓛.H} where
  -- a pointer that is lent is a part of its cell, and what gives the cell back
  pub pointer_in : K → Soaks G → {κ : Lft} {q : Share} (p : Ptr) (b at : ℕ)
      → ((part : Share) → Seq K 𝓛 (‵ (fat part ty_ptr b at (ptr_val p)) ∷ Shut 𝓛 κ q (part_at RawPtr part p b at) ∷ Γ) G) → Seq K 𝓛 (‵ (hidden_shr RawPtr κ p b at) ∷ ‵ (flft κ q) ∷ Γ) G
  pointer_in t z p b at k =
      looks t z RawPtr (plain_Copied 𝓛 Ptr coded_ptr (ty_ptr ∷ []) ptr_own rawptr_pure ptr_val RawPtr-laws.tells).opens p b at (λ part vs. move t (1 ∷ []) $ feq_l t (λ e.
      rewrite t 0 (λ (us : List Val). ‵ (cell_at part RawPtr.mir us b at)) e refl $ move t (2 ∷ []) $ drop t $ k part))

  -- a word that was read as a pointer is lent again
  pub pointer_out : K → Soaks G → {κ : Lft} {q part : Share} (p : Ptr) (b at : ℕ)
      → Step K 𝓛 (‵ (flft κ q) ∷ Γ) G (‵ (fat part ty_ptr b at (ptr_val p)) ∷ Shut 𝓛 κ q (part_at RawPtr part p b at) ∷ Γ) G
  pointer_out t z {part = part} p b at = step (λ s.
      feq_i t (List Val) (ptr_val p ∷ []) (ptr_val p ∷ []) refl $ move t (1 ∷ 0 ∷ []) $ shuts t z RawPtr part p (ptr_val p ∷ []) b at $ s)

  -- a number that is lent is a part of its cell, and below 2 ^ 64
  pub number_in : K → Soaks G → {κ : Lft} {q : Share} (n b at : ℕ)
      → ((part : Share) → n < 2 ^ 64 → Seq K 𝓛 (‵ (fat part (ty_int w64) b at (vint w64 n)) ∷ Shut 𝓛 κ q (part_at u64 part n b at) ∷ Γ) G) → Seq K 𝓛 (‵ (hidden_shr u64 κ n b at) ∷ ‵ (flft κ q) ∷ Γ) G
  number_in t z n b at k =
      looks t z u64 (uint_Copied 𝓛 w64).opens n b at (λ part vs. move t (1 ∷ []) $ fsplit t $ feq_l t (λ e. flt_l t (λ small.
      rewrite t 0 (λ (us : List Val). ‵ (cell_at part u64.mir us b at)) e refl $ move t (2 ∷ []) $ drop t $ k part small)))

  -- a word that was read as a number is lent again
  pub number_out : K → Soaks G → {κ : Lft} {q part : Share} (n b at : ℕ) → n < 2 ^ 64
      → Step K 𝓛 (‵ (flft κ q) ∷ Γ) G (‵ (fat part (ty_int w64) b at (vint w64 n)) ∷ Shut 𝓛 κ q (part_at u64 part n b at) ∷ Γ) G
  number_out t z {part = part} n b at small = step (λ s.
      flt_i t n (2 ^ 64) small $ feq_i t (List Val) (vint w64 n ∷ []) (vint w64 n ∷ []) refl $ fjoin t $ move t (1 ∷ 0 ∷ []) $ shuts t z u64 part n (vint w64 n ∷ []) b at $ s)

  -- a half that is lent is a part of its cell, and below 2 ^ 32
  pub half_in : K → Soaks G → {κ : Lft} {q : Share} (n b at : ℕ)
      → ((part : Share) → n < 2 ^ 32 → Seq K 𝓛 (‵ (fat part (ty_int w32) b at (vint w32 n)) ∷ Shut 𝓛 κ q (part_at u32 part n b at) ∷ Γ) G) → Seq K 𝓛 (‵ (hidden_shr u32 κ n b at) ∷ ‵ (flft κ q) ∷ Γ) G
  half_in t z n b at k =
      looks t z u32 (uint_Copied 𝓛 w32).opens n b at (λ part vs. move t (1 ∷ []) $ fsplit t $ feq_l t (λ e. flt_l t (λ small.
      rewrite t 0 (λ (us : List Val). ‵ (cell_at part u32.mir us b at)) e refl $ move t (2 ∷ []) $ drop t $ k part small)))

  -- a word that was read as a half is lent again
  pub half_out : K → Soaks G → {κ : Lft} {q part : Share} (n b at : ℕ) → n < 2 ^ 32
      → Step K 𝓛 (‵ (flft κ q) ∷ Γ) G (‵ (fat part (ty_int w32) b at (vint w32 n)) ∷ Shut 𝓛 κ q (part_at u32 part n b at) ∷ Γ) G
  half_out t z {part = part} n b at small = step (λ s.
      flt_i t n (2 ^ 32) small $ feq_i t (List Val) (vint w32 n ∷ []) (vint w32 n ∷ []) refl $ fjoin t $ move t (1 ∷ 0 ∷ []) $ shuts t z u32 part n (vint w32 n ∷ []) b at $ s)
