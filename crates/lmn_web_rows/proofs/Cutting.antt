-- Where a row is cut, no other one begins. Assumes `Logic`.
use Rattle.std.proofs.Common.{◌≡◌, ℕ, ◌+◌, ◌*◌, ◌%◌, ◌^◌, ◌<◌, ◌==◌, Bool, true, false, List, [], ◌∷◌, length, get_or, if◌then◌else◌, refl, sym, subst, inl, inr, arith}
use Rattle.std.proofs.lemmas.Bool.{cases_eq, eq-eqb}
use seplogic.Ra.Ura.{Ura}
use base.Logic.{ent, sep, via, never, never_e, all}
use base.Fml.{froom}
use contract.Monad.{fact, fact_i, fact_use}
use prog.Model.{Model}
use types.Logic.{Logic, sem}
use types.Kit.{Item as Entry, Goal, Seq, mean, prop, ‵, raw, ◌⊛◌, ◌$◌, ◌∵◌, !, qed, by, move, keep, use1, split, rewrite, fsplit, done}
use Rattle.lmn_base.proofs.Numbers.{not_equal}
use Rattle.lmn_web_rows.specs.Rows.{Item, blank, Row, block_at, byte_at, items_in}
use Rattle.lmn_web_rows.specs.Owned.{word, item_own, items_own, row_own, rows_own}
use Rattle.lmn_web_rows.proofs.Writing.{item_room}
use Rattle.lmn_web_rows.proofs.Words.{item_at, Back, word_at, Again}
use Rattle.lmn_web_rows.proofs.Places.{same_block, byte_behind}

module _ {M : Type 1} {𝓤 : Ura M} {𝓛 : Logic 𝓤} {K : Type 0} {Γ : List (Entry 𝓤)} {G : Goal 𝓤 𝓛.H} where
  -- a fact that one entry shows is learned, and it stays
  pub tells : K → {i : Entry 𝓤} (φ : Type 0) → ent 𝓤 (mean 𝓛 i) (fact 𝓤 φ) → (φ → Seq K 𝓛 (i ∷ Γ) G) → Seq K 𝓛 (i ∷ Γ) G
  tells t {i} φ h k =
      let shown : Seq K 𝓛 (i ∷ Γ) (prop (fact 𝓤 φ)) = use1 𝓛 (raw (fact 𝓤 φ)) h $ keep t (0 ∷ []) $ done t in
      record { prf = fact_use 𝓤 φ shown.prf (λ x. (k x).prf) }

module _ {M : Type 1} {𝓤 : Ura M} (𝓛 : Logic 𝓤) where
  open 𝓛 use {H}

  module _ (𝓜 : Model 𝓤 𝓛.H) where
    clash : (is : List Item) (b e : ℕ) → ent 𝓤 (sep 𝓤 (H.room word b e) (sem 𝓛 (items_own is b e))) (fact 𝓤 (is ≡ []))
    clash [] b e = fact_i 𝓤 (_ ≡ _) _ refl
    clash (i ∷ is) b e =
        qed 𝓛 (‵ (froom word b e) ∷ ‵ (item_own i b e) ∷ ‵ (items_own is b (e + 8)) ∷ []) ∵ keep ! (0 ∷ 1 ∷ []) $ move ! (1 ∷ []) $ use1 𝓛 (‵ (froom word b e)) (item_room 𝓛 i b e) $ move ! (1 ∷ []) $
        by ! (via 𝓤 (never 𝓤) (𝓜.room-room word word b e e e (omega arith, omega arith) (omega arith, omega arith)) (never_e 𝓤 _))

    -- room for a word lies at the start of no row that has words
    lies_apart : (rs : List Row) (m : ℕ) → ent 𝓤 (sep 𝓤 (H.room word (block_at m) (byte_at m)) (sem 𝓛 (rows_own rs))) (fact 𝓤 (items_in rs m ≡ []))
    lies_apart [] m = fact_i 𝓤 (_ ≡ _) _ refl
    lies_apart (r ∷ rs) m = elim (cases_eq r.at m) [
      | inl e ↦ subst Apart (sym (eq-eqb r.at m e))
          (qed 𝓛 (‵ (froom word (block_at m) (byte_at m)) ∷ ‵ (rows_own (r ∷ rs)) ∷ []) ∵ move ! (1 ∷ []) $ fsplit ! $ rewrite ! 0 (λ (n : ℕ). ‵ (items_own r.items (block_at n) (byte_at n))) e refl $ keep ! (2 ∷ 0 ∷ []) $
          by ! (clash r.items (block_at m) (byte_at m)))
      | inr d ↦ subst Apart (sym (not_equal r.at m d))
          (qed 𝓛 (‵ (froom word (block_at m) (byte_at m)) ∷ ‵ (rows_own (r ∷ rs)) ∷ []) ∵ move ! (1 ∷ []) $ fsplit ! $ keep ! (2 ∷ 1 ∷ []) $ by ! (lies_apart rs m))
    ]
      where
        Apart : Bool → Type 1
        Apart t = ent 𝓤 (sep 𝓤 (H.room word (block_at m) (byte_at m)) (sem 𝓛 (rows_own (r ∷ rs)))) (fact 𝓤 ((if t then r.items else items_in rs m) ≡ []))

    -- what is shown of the rows, where t says whether the first one is at the place, and u whether it is so many words behind
    abbrev In : Row → List Row → ℕ → ℕ → Bool → Bool → Type 1
    In r rs n c t u = c < length (if t then r.items else items_in rs n) → ent 𝓤 (sem 𝓛 (rows_own (r ∷ rs))) (fact 𝓤 ((if u then r.items else items_in rs (n + c)) ≡ []))

    in_first : (r : Row) (rs : List Row) (n c : ℕ) → n % 2 ^ 18 + c < 2 ^ 18 → r.at ≡ n → In r rs n c true false
    in_first r rs n c l e near = let b = block_at n in let o = c * 8 + byte_at n in
        qed 𝓛 (‵ (row_own r) ∷ ‵ (rows_own rs) ∷ []) ∵ rewrite ! 0 (λ (m : ℕ). ‵ (items_own r.items (block_at m) (byte_at m))) e refl $
        use1 𝓛 (‵ (item_own (get_or r.items c blank) b o) ⊛ raw (all 𝓤 (Back 𝓛 r.items c b (byte_at n) o))) (item_at 𝓛 r.items c b (byte_at n) o refl near) $ split ! $ keep ! (0 ∷ 2 ∷ []) $
        use1 𝓛 (‵ (froom word b o)) (item_room 𝓛 (get_or r.items c blank) b o) $
        rewrite ! 0 (λ (m : ℕ). ‵ (froom word m o)) (sym (same_block n c l)) refl $ rewrite ! 0 (λ (m : ℕ). ‵ (froom word (block_at (n + c)) m)) (sym (byte_behind n c l)) refl $
        by ! (lies_apart rs (n + c))

    in_later : (r : Row) (rs : List Row) (n c : ℕ) → n % 2 ^ 18 + c < 2 ^ 18 → r.at ≡ n + c → In r rs n c false true
    in_later r rs n c l e near = let b = block_at n in let o = c * 8 + byte_at n in
        qed 𝓛 (‵ (row_own r) ∷ ‵ (rows_own rs) ∷ []) ∵ rewrite ! 0 (λ (m : ℕ). ‵ (items_own r.items (block_at m) (byte_at m))) e refl $ move ! (1 ∷ []) $
        use1 𝓛 (‵ (item_own (get_or (items_in rs n) c blank) b o) ⊛ raw (all 𝓤 (Again 𝓛 rs n c))) (word_at 𝓛 rs n c near) $ split ! $ keep ! (0 ∷ 2 ∷ []) $
        use1 𝓛 (‵ (froom word b o)) (item_room 𝓛 (get_or (items_in rs n) c blank) b o) $
        rewrite ! 0 (λ (m : ℕ). ‵ (froom word m o)) (sym (same_block n c l)) refl $ rewrite ! 0 (λ (m : ℕ). ‵ (froom word (block_at (n + c)) m)) (sym (byte_behind n c l)) refl $
        by ! (clash r.items (block_at (n + c)) (byte_at (n + c)))

    -- where a row has words, no row with words begins behind its first one
    pub none_within : (rs : List Row) (n c : ℕ) → 0 < c → c < length (items_in rs n) → n % 2 ^ 18 + c < 2 ^ 18 → ent 𝓤 (sem 𝓛 (rows_own rs)) (fact 𝓤 (items_in rs (n + c) ≡ []))
    none_within [] n c some near l = absurd (omega (arith, near))
    none_within (r ∷ rs) n c some near l = elim (cases_eq r.at n) [
      | inl e ↦ subst (λ (t : Bool). In r rs n c t (r.at == n + c)) (sym (eq-eqb r.at n e))
          (subst (In r rs n c true) (sym (not_equal r.at (n + c) (λ z. absurd (omega (arith, some, e, z))))) (in_first r rs n c l e)) near
      | inr d ↦ subst (λ (t : Bool). In r rs n c t (r.at == n + c)) (sym (not_equal r.at n d)) (elim (cases_eq r.at (n + c)) [
        | inl e ↦ subst (In r rs n c false) (sym (eq-eqb r.at (n + c) e)) (in_later r rs n c l e)
        | inr o ↦ subst (In r rs n c false) (sym (not_equal r.at (n + c) o)) (λ low.
            qed 𝓛 (‵ (row_own r) ∷ ‵ (rows_own rs) ∷ []) ∵ keep ! (1 ∷ []) $ by ! (none_within rs n c some low l))
      ]) near
    ]
