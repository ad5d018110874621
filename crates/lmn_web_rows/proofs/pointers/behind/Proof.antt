-- `behind` makes the pointer to a place some words further. Assumes `Logic`.
use Rattle.lmn_web_rows.proofs.Steps.{◌≡◌, ℕ, ◌+◌, ◌*◌, ◌^◌, ◌<◌, List, [], ◌∷◌, refl, sym, subst, w64, arith, proved, SProp, ent, id⊢, Val, vint, WpFn, fact, tables, raw, at_ret, ◌$◌, ◌∵◌, !, qed, done, drop, join, feq_i, suffices, enter, of_opd, lit, bin, first, blocks, exec, returns, alloc_all, pass_all, free_all, look_at, get, sets, sets_last, env, usize, yes, uint_vals, uint_Tells, Ptr, RawPtr, block_ptr, ptr_val, rawptr_vals, rawptr_Tells, plain, nothing, heard, on_entry, Stays, walk_of, says, stay_dropped, Goes-dropped, ends_at}
use Rattle.std.proofs.Common.{◌%◌}
use Rattle.lmn_web_rows.specs.Rows.{IsStart, block_at, byte_at, place_ptr, place_of}
use Rattle.lmn_web_rows.proofs.Places.{same_block, byte_behind}
use Rattle.lmn_web_rows.specs.contracts.pointers.behind as f
use Rattle.lmn_web_rows.proofs.pointers.behind.Statement.{statement}
use Rattle.lmn_web_rows.proofs.pointers.behind.Code as code

abbrev stayed : Stays f.ended.signature.params f.ended.kept
stayed = (stay_dropped _ yes, (stay_dropped _ yes, tt))

-- the pointer is to that place
lands : (m k : ℕ) → m % 2 ^ 18 + k < 2 ^ 18 → block_ptr (block_at m) (k * 8 + byte_at m) ≡ place_ptr (m + k)
lands m k l = λ t. block_ptr (sym (same_block m k l) t) (sym (byte_behind m k l) t)

-- a pointer to a place is the place's
placed : (m : ℕ) → place_of (place_ptr m) ≡ m
placed m = omega arith

pub behind_spec : {M : Type 1} → statement M
behind_spec 𝓤 𝓛 𝓜 𝓡 wired =
    let c = f.clauses 𝓛 𝓜.mem 𝓡.returns in let W = walk_of 𝓛 f.ended stayed c in let 𝓣 = tables 𝓤 𝓛.H 𝓜 𝓡 𝓡.env in
    proved 𝓛 f.ended stayed c 𝓜 𝓡 (Goes-dropped 𝓛 0 (plain (λ _. RawPtr)) yes (λ κs x w. refl), (Goes-dropped 𝓛 0 (plain (λ _. usize)) yes (λ κs x w. refl), tt))
    f.Key.name code.function (code.unfolded 𝓤 𝓛.H 𝓜 𝓡 wired)
    (λ κs. (rawptr_vals, (uint_vals w64, tt))) (λ κs. (rawptr_Tells, (uint_Tells w64, tt))) (λ κs qs bounds a gh are.
    let at : Ptr = a.0 in let k : ℕ = a.1.0 in let m : ℕ = place_of at in let b : ℕ = block_at m in let q : Ptr = block_ptr b (k * 8 + byte_at m) in
    let y : W.Ghost = ((κs, qs, bounds, a, (rawptr_vals at, (uint_vals w64 k, tt))), gh) in let Post : Val → SProp 𝓤 = W.post y in
    let Asked : Type 0 = IsStart at × (k < 2 ^ 18) × (m % 2 ^ 18 + k < 2 ^ 18) in
    let us : Ptr → List Val = λ u. ptr_val u ∷ vint w64 k ∷ [] in let Run : List Val → SProp 𝓤 = λ ws. WpFn 𝓤 𝓛.H 𝓣.C 𝓣.Λ code.function ws Post in
    qed 𝓛 (raw (on_entry 𝓛 f.signature κs qs a y.0.4) ∷ raw (fact 𝓤 Asked) ∷ []) ∵ drop ! $ heard ! Asked (λ asked.
    let small : k * 8 < 2 ^ 64 = omega (arith, asked.1) in
    suffices ! (Run (us (block_ptr b (byte_at m)))) (subst (λ (u : Ptr). ent 𝓤 (Run (us (block_ptr b (byte_at m)))) (Run (us u))) (sym asked.0) (id⊢ 𝓤 (Run (us (block_ptr b (byte_at m)))))) $
    enter ! _ _ _ _ _ $ alloc_all ! (λ l. pass_all ! refl ((tt, tt), ((tt, record { fits = are.1.0.1 }), tt)) $ let En = env code.function.locals l in
    first ! $ blocks ! $
    sets ! (bin ! (get ! refl) (lit ! tt) (record { fits = small })) refl (tt, record { fits = small }) $
    sets_last ! (bin ! (get ! refl) (get ! refl) tt) refl (tt, tt) $
    exec ! 𝓣.C 𝓣.Λ En code.Mir.t-2 (at_ret En Post) $ sets ! (of_opd ! (get ! refl)) refl (tt, tt) $
    returns ! (look_at ! 0 refl) $ free_all ! refl $
    suffices ! _ (ends_at 𝓛 f.ended stayed c y (ptr_val q) q (tt, (tt, tt)) (tt, (tt, tt))) $
    let to : q ≡ place_ptr (m + k) = lands m k asked.2 in let there : place_of q ≡ m + k = subst (λ (u : Ptr). place_of u ≡ m + k) (sym to) (placed (m + k)) in
    let Told : Type 0 = IsStart q × (place_of q ≡ m + k) in let told : Told = (subst (λ (n : ℕ). q ≡ place_ptr n) (sym there) to, there) in says ! told $
    feq_i ! (List Val) (ptr_val q ∷ []) (ptr_val q ∷ []) refl $ nothing ! $ nothing ! $ join ! $ nothing ! $ join ! $ nothing ! $ done !)))
