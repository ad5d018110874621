-- Blocks are made rows, and rows blocks. Assumes `Logic`.
use Rattle.std.proofs.Common.{◌≡◌, ℕ, zero, suc, ◌+◌, ◌<◌, Bool, List, [], ◌∷◌, length, replicate, if◌then◌else◌, refl, sym, subst, ap, ◌∙◌, ◌^◌, inl, inr, arith}
use Rattle.std.proofs.lemmas.Bool.{cases_eq, eq-eqb}
use seplogic.Ra.Ura.{Ura}
use base.Logic.{ent, sep, via, mono∗, mono_r, never, never_e, emp}
use base.Fml.{ftrue, froom}
use contract.Monad.{fact, fact_i, fact_use}
use mir.Syntax.{Ty, ty_array}
use prog.Memory.{size}
use prog.Model.{Model}
use types.Logic.{Logic, sem}
use types.Kit.{Item as Entry, Goal, Seq, mean, prop, ‵, raw, ◌$◌, ◌∵◌, !, qed, by, move, keep, drop, use0, use1, use2, fsplit, done}
use denote.RawPtr.{block_ptr}
use denote.Steps.{nothing}
use Rattle.std.proofs.GlobalToken.{dealloc_token_start}
use Rattle.lmn_web_rows.specs.Rows.{Item, blank, Row, block_at, byte_at, items_in}
use Rattle.lmn_web_rows.specs.Owned.{word, heap, may_free, item_own, items_own, row_own, rows_own}
use Rattle.lmn_base.proofs.Numbers.{not_equal}
use Rattle.lmn_web_rows.proofs.Writing.{item_room}

module _ {M : Type 1} {𝓤 : Ura M} {𝓛 : Logic 𝓤} {K : Type 0} {Γ : List (Entry 𝓤)} {G : Goal 𝓤 𝓛.H} where
  -- a fact that two entries show is learned, and they stay
  pub knows : K → {i j : Entry 𝓤} (φ : Type 0) → ent 𝓤 (sep 𝓤 (mean 𝓛 i) (mean 𝓛 j)) (fact 𝓤 φ) → (φ → Seq K 𝓛 (i ∷ j ∷ Γ) G) → Seq K 𝓛 (i ∷ j ∷ Γ) G
  knows t {i} {j} φ h k =
      let shown : Seq K 𝓛 (i ∷ j ∷ Γ) (prop (fact 𝓤 φ)) = use2 𝓛 (raw (fact 𝓤 φ)) h $ keep t (0 ∷ []) $ done t in
      record { prf = fact_use 𝓤 φ shown.prf (λ x. (k x).prf) }

  -- what the heap gave is the start of its block
  pub starts : K → (τ : Ty) (b o : ℕ) → (o ≡ zero → Seq K 𝓛 (‵ (may_free τ (block_ptr b o)) ∷ Γ) G) → Seq K 𝓛 (‵ (may_free τ (block_ptr b o)) ∷ Γ) G
  starts t τ b o k =
      let shown : Seq K 𝓛 (‵ (may_free τ (block_ptr b o)) ∷ Γ) (prop (fact 𝓤 (o ≡ zero))) = use1 𝓛 (raw (fact 𝓤 (o ≡ zero))) (dealloc_token_start 𝓛 heap τ (block_ptr b o)) $ keep t (0 ∷ []) $ done t in
      record { prf = fact_use 𝓤 (o ≡ zero) shown.prf (λ x. (k x).prf) }

module _ {M : Type 1} {𝓤 : Ura M} (𝓛 : Logic 𝓤) where
  open 𝓛 use {H}

  -- room for words is a row in which nothing was written
  pub emptied : (n b e : ℕ) → ent 𝓤 (H.room (ty_array word n) b e) (sem 𝓛 (items_own (replicate n blank) b e))
  emptied zero b e = qed 𝓛 (‵ (froom (ty_array word 0) b e) ∷ []) ∵ drop ! $ nothing ! $ done !
  emptied (suc n) b e = via 𝓤 _ (𝓛.laws.room_uncons word n b e) (mono_r 𝓤 (H.room word b e) (emptied n b (e + 8)))

  -- a row is room for its words
  pub items_room : (is : List Item) (b e : ℕ) → ent 𝓤 (sem 𝓛 (items_own is b e)) (H.room (ty_array word (length is)) b e)
  items_room [] b e = qed 𝓛 (‵ ftrue ∷ []) ∵ drop ! $ by ! (𝓛.laws.room_nil word b e)
  items_room (i ∷ is) b e = via 𝓤 _ (mono∗ 𝓤 (item_room 𝓛 i b e) (items_room is b (e + 8))) (𝓛.laws.room_cons word (length is) b e)

  module _ (𝓜 : Model 𝓤 𝓛.H) where
    clash : (τ : Ty) (is : List Item) (b e : ℕ) → e < size τ → ent 𝓤 (sep 𝓤 (H.room τ b 0) (sem 𝓛 (items_own is b e))) (fact 𝓤 (is ≡ []))
    clash τ [] b e big = fact_i 𝓤 (_ ≡ _) _ refl
    clash τ (i ∷ is) b e big =
        qed 𝓛 (‵ (froom τ b 0) ∷ ‵ (item_own i b e) ∷ ‵ (items_own is b (e + 8)) ∷ []) ∵ keep ! (0 ∷ 1 ∷ []) $ move ! (1 ∷ []) $ use1 𝓛 (‵ (froom word b e)) (item_room 𝓛 i b e) $ move ! (1 ∷ []) $
        by ! (via 𝓤 (never 𝓤) (𝓜.room-room τ word b 0 e e (omega arith, omega (arith, big)) (omega arith, omega arith)) (never_e 𝓤 _))

    -- no row of some has words in a block
    abbrev pub Misses : ℕ → List Row → Type 0
    Misses b [] = Unit {0}
    Misses b (r ∷ rs) = (block_at r.at ≡ b → r.items ≡ []) × Misses b rs

    pub none_there : (b : ℕ) (rs : List Row) → Misses b rs → (n : ℕ) → block_at n ≡ b → items_in rs n ≡ []
    none_there b [] h n e = refl
    none_there b (r ∷ rs) h n e = elim (cases_eq r.at n) [
      | inl s ↦ subst (λ (t : Bool). (if t then r.items else items_in rs n) ≡ []) (sym (eq-eqb r.at n s)) (h.0 (ap block_at s ∙ e))
      | inr d ↦ subst (λ (t : Bool). (if t then r.items else items_in rs n) ≡ []) (sym (not_equal r.at n d)) (none_there b rs h.1 n e)
    ]

    misses_row : (τ : Ty) (r : Row) (b : ℕ) → size τ ≡ 2 ^ 21 → ent 𝓤 (sep 𝓤 (H.room τ b 0) (sem 𝓛 (row_own r))) (fact 𝓤 (block_at r.at ≡ b → r.items ≡ []))
    misses_row τ r b big = elim (cases_eq (block_at r.at) b) [
      | inl e ↦ subst (λ (u : ℕ). ent 𝓤 (sep 𝓤 (H.room τ u 0) (sem 𝓛 (row_own r))) (fact 𝓤 (block_at r.at ≡ u → r.items ≡ []))) e
          (qed 𝓛 (‵ (froom τ (block_at r.at) 0) ∷ ‵ (row_own r) ∷ []) ∵ knows ! (r.items ≡ []) (clash τ r.items (block_at r.at) (byte_at r.at) (omega (arith, big))) (λ none.
          use0 𝓛 (raw (fact 𝓤 (block_at r.at ≡ block_at r.at → r.items ≡ []))) (fact_i 𝓤 (block_at r.at ≡ block_at r.at → r.items ≡ []) (emp 𝓤) (λ _. none)) $ keep ! (0 ∷ []) $ done !))
      | inr d ↦ fact_i 𝓤 (block_at r.at ≡ b → r.items ≡ []) _ (λ e. absurd (d e))
    ]

    -- room for a block lies apart from all rows
    pub misses : (τ : Ty) (rs : List Row) (b : ℕ) → size τ ≡ 2 ^ 21 → ent 𝓤 (sep 𝓤 (H.room τ b 0) (sem 𝓛 (rows_own rs))) (fact 𝓤 (Misses b rs))
    misses τ [] b big = fact_i 𝓤 (Unit {0}) _ tt
    misses τ (r ∷ rs) b big =
        qed 𝓛 (‵ (froom τ b 0) ∷ ‵ (rows_own (r ∷ rs)) ∷ []) ∵ move ! (1 ∷ []) $ fsplit ! $ move ! (2 ∷ 0 ∷ []) $
        knows ! (block_at r.at ≡ b → r.items ≡ []) (misses_row τ r b big) (λ one. move ! (0 ∷ 2 ∷ []) $
        knows ! (Misses b rs) (misses τ rs b big) (λ others.
        use0 𝓛 (raw (fact 𝓤 (Misses b (r ∷ rs)))) (fact_i 𝓤 (Misses b (r ∷ rs)) (emp 𝓤) (one, others)) $ keep ! (0 ∷ []) $ done !))
