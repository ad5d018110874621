-- What the heap answers, by cases. Assumes `Logic`.
use mathlib.Core.Path.{◌≡◌, ap, ◌∙◌}
use mathlib.Core.Bool.{Bool, true, false}
use Prim.Native.Nat.{ℕ}
use mathlib.Core.List.{List, [], ◌∷◌, ◌++◌}
use seplogic.Ra.Ura.{Ura}
use mir.Syntax.{Ty}
use mir.Val.{Val, of_list}
use base.Logic.{SProp, ent, sep, ex, guard, id⊢, fst∗, never}
use base.Fml.{ftrue, fsep, froom}
use types.Logic.{Logic, sem}
use types.Kit.{Item as Entry, Goal, Seq, ‵, raw, some, given, ◌$◌, ◌∵◌, !, qed, keep, use1, drop, pick, learn, fsplit, fpick, feq_l, check, show, done}
use types.Match.{live}
use denote.RawPtr.{Ptr, block_ptr, null_ptr, ptr_val, room_for, in_a_block}
use denote.Steps.{only}
use Rattle.core.specs.Allocator.{block_if_ok}
use Rattle.core.specs.declared.result.Result.TheVariants.{Ok, Err}
use Rattle.core.proofs.alloc.Calls.{Answer, answer_val, got}
use Rattle.lmn_web_rows.specs.Owned.{may_free}

module _ {M : Type 1} {𝓤 : Ura M} (𝓛 : Logic 𝓤) where
  -- what the heap answers: a flag, a place, and at true room there with the right to free it
  abbrev pub Answered : Ty → Val → SProp 𝓤
  Answered τ v = ex 𝓤 (λ (c : Bool × (ℕ × ℕ)). guard 𝓤 (v ≡ answer_val c.0 c.1.0 c.1.1) (sem 𝓛 (got may_free τ c.0 c.1.0 c.1.1)))

  -- an answer of the heap, by its flag
  pub answered : (τ : Ty) (v : Val) (r : Answer.Denot) → ent 𝓤 (sep 𝓤 (sem 𝓛 (Answer.own_val r (v ∷ []))) (sem 𝓛 (block_if_ok may_free τ r))) (Answered τ v)
  answered τ v (Ok r) =
      qed 𝓛 (‵ (Answer.own_val (Ok r) (v ∷ [])) ∷ ‵ (fsep (room_for τ r) (may_free τ r)) ∷ []) ∵
      fpick ! (λ us. fsplit ! $ feq_l ! (λ e. fpick ! (λ vss. fsplit ! $ feq_l ! (λ e'. fsplit ! $ feq_l ! (λ e''. drop ! $
      in_a_block ! r (λ z. fsep (room_for τ z) (may_free τ z)) (fst∗ 𝓤 (never 𝓤) (sem 𝓛 (may_free τ null_ptr))) (λ b o at.
      show ! (λ (c : Bool × (ℕ × ℕ)). guard 𝓤 (v ≡ answer_val c.0 c.1.0 c.1.1) (sem 𝓛 (got may_free τ c.0 c.1.0 c.1.1))) (true, (b, o)) $
      check ! (ap only e ∙ ap (λ (ws : List Val). live 0 (of_list ws)) (e' ∙ ap (λ (ws : List Val). ws ++ []) (e'' ∙ ap (λ (z : Ptr). ptr_val z ∷ []) at))) $ done !))))))
  answered τ v (Err n) =
      qed 𝓛 (‵ (Answer.own_val (Err n) (v ∷ [])) ∷ ‵ ftrue ∷ []) ∵
      fpick ! (λ us. fsplit ! $ feq_l ! (λ e. fpick ! (λ vss. fsplit ! $ feq_l ! (λ e'. fsplit ! $ fpick ! (λ none. fsplit ! $ feq_l ! (λ e''. keep ! [] $
      show ! (λ (c : Bool × (ℕ × ℕ)). guard 𝓤 (v ≡ answer_val c.0 c.1.0 c.1.1) (sem 𝓛 (got may_free τ c.0 c.1.0 c.1.1))) (false, (0, 0)) $
      check ! (ap only e ∙ ap (λ (ws : List Val). live 1 (of_list ws)) (e' ∙ ap (λ (ws : List Val). ws ++ []) e'')) $ done !))))))

module _ {M : Type 1} {𝓤 : Ura M} {𝓛 : Logic 𝓤} {K : Type 0} {Γ : List (Entry 𝓤)} {G : Goal 𝓤 𝓛.H} where
  answers_at : (τ : Ty) (v : Val) (y : Bool) (b o : ℕ) → K → v ≡ answer_val y b o
      → ((b o : ℕ) → v ≡ answer_val true b o → Seq K 𝓛 (‵ (froom τ b o) ∷ ‵ (may_free τ (block_ptr b o)) ∷ Γ) G) → (v ≡ answer_val false 0 0 → Seq K 𝓛 Γ G) → Seq K 𝓛 (‵ (got may_free τ y b o) ∷ Γ) G
  answers_at τ v true b o t e ok none = fsplit t $ ok b o e
  answers_at τ v false b o t e ok none = drop t $ none e

  -- a block, or none
  pub answers : K → (τ : Ty) (v : Val)
      → ((b o : ℕ) → v ≡ answer_val true b o → Seq K 𝓛 (‵ (froom τ b o) ∷ ‵ (may_free τ (block_ptr b o)) ∷ Γ) G) → (v ≡ answer_val false 0 0 → Seq K 𝓛 Γ G) → Seq K 𝓛 (raw (Answered 𝓛 τ v) ∷ Γ) G
  answers t τ v ok none =
      use1 𝓛 (some (λ (c : Bool × (ℕ × ℕ)). given (v ≡ answer_val c.0 c.1.0 c.1.1) (‵ (got may_free τ c.0 c.1.0 c.1.1)))) (id⊢ 𝓤 (Answered 𝓛 τ v)) $
      pick t (λ c. learn t (λ e. answers_at τ v c.0 c.1.0 c.1.1 t e ok none))
