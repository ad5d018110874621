-- `free` gives a block back to the heap, once its rows are joined. Assumes `Logic`.
use Rattle.lmn_web_rows.proofs.Steps.{◌≡◌, ℕ, ◌*◌, ◌^◌, ◌<◌, List, [], ◌∷◌, length, refl, sym, ap, subst, lit<, w64, arith, proved, SProp, ent, emp, id⊢, fact, fact_i, ftrue, fsep, froom, flft, named, ty_array, Val, vunit, vint, vptr, WpFn, tables, ‵, raw, ◌⊛◌, some, later, at_ret, ◌$◌, ◌∵◌, !, qed, done, move, keep, drop, use0, use1, use2, split, join, fsplit, fsplit3, fjoin, feq_i, feq_l, flt_i, pick, await, rewrite, suffices, frame, group, enter, of_opd, lit, unit_lit, bin, no_more, and_then, first, blocks, exec, returns, alloc_all, pass_all, free_all, look_at, get, sets, env, usize, unit, RefOf, yes, owns, uint_vals, uint_Tells, Ptr, RawPtr, block_ptr, block_of, ptr_val, rawptr_vals, rawptr_Tells, mut_vals, mut_Tells, shr_vals, shr_Tells, plain, types_at, nothing, heard, opens, closes, only, triple_of, Stays, walk_of, says, stay_dropped, Goes-dropped, stay_ref, Goes-ref, ends_at, framed}
use lib.Dec.{T}
use mir.Syntax.{Ty, ty_unit}
use mir.Val.{has_ty, WT}
use prog.Memory.{size, align, capped}
use prog.Capped.{capped_is}
use types.ByLocal.{lands_last}
use denote.Triple.Call.{calls_at_last}
use Rattle.std_heap.specs.contracts.Global as HP
use Rattle.std_heap.specs.contracts.GlobalAllocator.deallocate as g
use Rattle.std_heap.proofs.GlobalAllocator.deallocate.Met.{met}
use Rattle.std.proofs.Common.{◌+◌, ◌%◌, ◌≤◌, drop as behind_first, slice_get, Some, ◌∙◌}
use Rattle.lmn_web_rows.specs.Rows.{Row, block_at, byte_at, place_of, first_rows, later_rows, AreSideBySide}
use Rattle.lmn_web_rows.specs.Owned.{word, may_free, items_own, rows_own, blocks_own}
use Rattle.lmn_web_rows.proofs.Blocks.{items_room}
use Rattle.lmn_web_rows.proofs.Places.{all_items, rows_split, rows_join, joined_count, starts_block, starts_byte, first_is}
use Rattle.lmn_web_rows.specs.contracts.rows.Rows.{the_row as R}
use Rattle.lmn_web_rows.specs.contracts.rows.Blocks.{the_row as B}
use Rattle.lmn_web_rows.specs.contracts.rows.Blocks.free as f
use Rattle.lmn_web_rows.proofs.rows.Blocks.free.Statement.{statement}
use Rattle.lmn_web_rows.proofs.rows.Blocks.free.Code as code

abbrev stayed : Stays f.ended.signature.params f.ended.kept
stayed = (stay_ref (0 ∷ []) tt (plain (λ _. B)), (stay_ref (1 ∷ []) tt (plain (λ _. R)), (stay_dropped (RefOf (2 ∷ []) tt (plain (λ _. HP.the_row)) (λ _. tt)) yes, (stay_dropped _ yes, (stay_dropped _ yes, tt)))))

pub free_spec : {M : Type 1} → statement M
free_spec 𝓤 𝓛 𝓜 𝓡 wired =
    let c = f.clauses 𝓛 𝓜.mem 𝓡.returns in let W = walk_of 𝓛 f.ended stayed c in let 𝓣 = tables 𝓤 𝓛.H 𝓜 𝓡 𝓡.env in
    proved 𝓛 f.ended stayed c 𝓜 𝓡
    (Goes-ref 𝓛 3 0 tt (plain (λ _. B)), (Goes-ref 𝓛 3 1 tt (plain (λ _. R)), (Goes-dropped 𝓛 3 (RefOf (2 ∷ []) tt (plain (λ _. HP.the_row)) (λ _. tt)) yes (λ κs x w. refl), (Goes-dropped 𝓛 3 (plain (λ _. RawPtr)) yes (λ κs x w. refl), (Goes-dropped 𝓛 3 (plain (λ _. usize)) yes (λ κs x w. refl), tt)))))
    f.Key.name code.function (code.unfolded 𝓤 𝓛.H 𝓜 𝓡 wired)
    (λ κs. (mut_vals, (mut_vals, (shr_vals, (rawptr_vals, (uint_vals w64, tt)))))) (λ κs. (mut_Tells (named 0) κs.0 B, (mut_Tells (named 1) κs.1.0 R, (shr_Tells (named 2) κs.1.1.0 HP.the_row, (rawptr_Tells, (uint_Tells w64, tt)))))) (λ κs qs bounds a gh are.
    let κ₀ = κs.0 in let κ₁ = κs.1.0 in let κ₂ = κs.1.1.0 in let q₀ = qs.0 in let q₁ = qs.1.0 in let q₂ = qs.1.1.0 in let rb = a.0.ref_ptr.0 in let ro = a.0.ref_ptr.1 in let d = a.0.now in
    let sb = a.1.0.ref_ptr.0 in let so = a.1.0.ref_ptr.1 in let t = a.1.0.now in let heap = a.1.1.0 in let at : Ptr = a.1.1.1.0 in let n : ℕ = a.1.1.1.1.0 in let b : ℕ = block_of at in let p : ℕ = place_of at in
    let τ : Ty = ty_array word n in let parts : List Row = first_rows n t.rows in let rows' : List Row = later_rows n t.rows in let blocks' : List ℕ = behind_first 1 d.blocks in
    let y : W.Ghost = ((κs, qs, bounds, a, (mut_vals a.0, (mut_vals a.1.0, (shr_vals heap, (rawptr_vals at, (uint_vals w64 n, tt)))))), gh) in let Post : Val → SProp 𝓤 = W.post y in
    let Asked : Type 0 = (at ≡ block_ptr b 0) × (n ≡ 2 ^ 18) × (slice_get d.blocks 0 ≡ Some b) × AreSideBySide p n parts in
    let us : Ptr → List Val = λ u. vptr rb ro ∷ vptr sb so ∷ vptr heap.ref_ptr.0 heap.ref_ptr.1 ∷ ptr_val u ∷ vint w64 n ∷ [] in let Run : List Val → SProp 𝓤 = λ ws. WpFn 𝓤 𝓛.H 𝓣.C 𝓣.Λ code.function ws Post in
    qed 𝓛 (((‵ (flft κ₀ q₀) ⊛ ‵ (fsep (flft κ₁ q₁) (fsep (flft κ₂ q₂) ftrue))) ⊛ ‵ (owns (types_at f.signature.params κs) a y.0.4)) ∷ raw (fact 𝓤 Asked) ∷ []) ∵
    move ! (1 ∷ []) $ heard ! Asked (λ asked.
    split ! $ split ! $ move ! (2 ∷ []) $ fsplit ! $ move ! (1 ∷ []) $ fsplit ! $ move ! (1 ∷ []) $ fsplit ! $ fsplit ! $ keep ! (1 ∷ 3 ∷ 4 ∷ 5 ∷ 6 ∷ []) $
    move ! (4 ∷ []) $ fsplit ! $ move ! (1 ∷ []) $ fsplit ! $ keep ! (4 ∷ 2 ∷ 0 ∷ 3 ∷ 5 ∷ 6 ∷ []) $
    let whole = asked.1 in let small : n * 8 < 2 ^ 64 = omega (arith, whole) in
    let there : block_at p ≡ b = ap (λ (u : Ptr). block_at (place_of u)) asked.0 ∙ starts_block b in let zero : byte_at p ≡ 0 = ap (λ (u : Ptr). byte_at (place_of u)) asked.0 ∙ starts_byte b in
    let inside : p % 2 ^ 18 + n ≤ 2 ^ 18 = omega (arith, zero, whole) in
    suffices ! (Run (us (block_ptr b 0))) (subst (λ (u : Ptr). ent 𝓤 (Run (us (block_ptr b 0))) (Run (us u))) (sym asked.0) (id⊢ 𝓤 (Run (us (block_ptr b 0))))) $
    enter ! _ _ _ _ _ $ alloc_all ! (λ l. pass_all ! refl ((tt, tt), ((tt, tt), ((tt, tt), ((tt, tt), ((tt, record { fits = are.1.1.1.1.0.1 }), tt))))) $ let En = env code.function.locals l in
    fsplit3 ! $ move ! (1 ∷ 2 ∷ 3 ∷ []) $ opens ! tt R sb so (λ vs. move ! (1 ∷ []) $ fsplit ! $ move ! (1 ∷ []) $
    use1 𝓛 (‵ (rows_own parts) ⊛ ‵ (rows_own rows')) (rows_split 𝓛 t.rows n) $ split ! $ move ! (2 ∷ 1 ∷ []) $ fjoin ! $ move ! (2 ∷ 0 ∷ 3 ∷ 4 ∷ 5 ∷ []) $ closes ! tt R (record t { rows = rows' }) vs sb so $
    move ! (3 ∷ []) $ use1 𝓛 (‵ (items_own (all_items parts) (block_at p) (byte_at p))) (rows_join 𝓛 parts p n asked.3 inside) $
    rewrite ! 0 (λ (m : ℕ). ‵ (items_own (all_items parts) m (byte_at p))) there refl $ rewrite ! 0 (λ (m : ℕ). ‵ (items_own (all_items parts) b m)) zero refl $
    use1 𝓛 (‵ (froom (ty_array word (length (all_items parts))) b 0)) (items_room 𝓛 (all_items parts) b 0) $
    rewrite ! 0 (λ (m : ℕ). ‵ (froom (ty_array word m) b 0)) (joined_count parts p n asked.3) refl $
    move ! (7 ∷ 8 ∷ []) $ fsplit3 ! $ move ! (1 ∷ 2 ∷ 3 ∷ []) $ opens ! tt B rb ro (λ ts. move ! (1 ∷ []) $ fsplit ! $ move ! (1 ∷ []) $
    rewrite ! 0 (λ (bs : List ℕ). ‵ (blocks_own bs)) (first_is d.blocks b asked.2) refl $ fsplit ! $ move ! (2 ∷ 1 ∷ []) $ fjoin ! $ move ! (2 ∷ 0 ∷ 3 ∷ 4 ∷ 5 ∷ []) $ closes ! tt B (record d { blocks = blocks' }) ts rb ro $
    move ! (5 ∷ 3 ∷ []) $ rewrite ! 1 (λ (m : ℕ). ‵ (may_free (ty_array word m) (block_ptr b 0))) (sym whole) refl $ fjoin ! $ move ! (0 ∷ 9 ∷ 10 ∷ []) $
    first ! $ blocks ! $
    sets ! (bin ! (get ! refl) (lit ! tt) (record { fits = small })) refl (tt, record { fits = small }) $
    let Fits : Type 0 = (capped (size τ) ≡ n * 8) × (capped (align τ) ≡ 8) in
    use0 𝓛 (raw (fact 𝓤 Fits)) (fact_i 𝓤 Fits (emp 𝓤) (capped_is (n * 8) small, capped_is 8 (lit< tt))) $ join ! $
    nothing ! $ flt_i ! 8 (2 ^ 64) (lit< tt) $ feq_i ! (List Val) (vint w64 8 ∷ []) (vint w64 8 ∷ []) refl $ fjoin ! $ fjoin ! $
    flt_i ! (n * 8) (2 ^ 64) small $ feq_i ! (List Val) (vint w64 (n * 8) ∷ []) (vint w64 (n * 8) ∷ []) refl $ fjoin ! $ fjoin ! $
    feq_i ! (List Val) (vptr b 0 ∷ []) (vptr b 0 ∷ []) refl $ fjoin ! $
    move ! (3 ∷ []) $ feq_i ! (List Val) (vptr heap.ref_ptr.0 heap.ref_ptr.1 ∷ []) (vptr heap.ref_ptr.0 heap.ref_ptr.1 ∷ []) refl $ fjoin ! $ fjoin ! $
    move ! (2 ∷ []) $ nothing ! $ move ! (1 ∷ 0 ∷ []) $ join ! $ join ! $
    let G = triple_of 𝓛 g.signature (g.spec 𝓛 𝓜.mem 𝓡.returns) in
    let z : G.Ghost = (((κ₂, tt), (q₂, tt), tt, (heap, (block_ptr b 0, (n * 8, (8, tt)))), (shr_vals heap, (rawptr_vals (block_ptr b 0), (vint w64 (n * 8) ∷ [], (vint w64 8 ∷ [], tt))))), τ) in
    use2 𝓛 (raw (G.pre z)) (id⊢ 𝓤 _) $
    calls_at_last ! (framed 𝓤 𝓛.H 𝓜 𝓣) G (met 𝓤 𝓛 𝓜 𝓡 (code.calls-std_heap::GlobalAllocator::deallocate 𝓡.env wired)) z
    (and_then ! (get ! refl) (and_then ! (get ! refl) (and_then ! (get ! refl) (and_then ! (lit ! tt) (no_more !))))) (λ v.
    use1 𝓛 (later (some (λ (r : Unit {0}). ((‵ (flft κ₂ q₂) ⊛ ‵ ftrue) ⊛ ‵ (unit.own_val r (v ∷ []))) ⊛ some (λ (ws : Unit {0} × (Unit {0} × (Unit {0} × (Unit {0} × Unit {0})))). ‵ (fsep ftrue (fsep ftrue (fsep ftrue (fsep ftrue ftrue)))) ⊛ ‵ ftrue)))) (id⊢ 𝓤 _) $
    await ! tt $ pick ! (λ r. split ! $ split ! $ split ! $ move ! (2 ∷ []) $ feq_l ! (λ is_unit. move ! (2 ∷ []) $ drop ! $
    lands_last ! refl (subst (λ (u : Val). T (has_ty ty_unit u) × WT u) (sym (ap only is_unit)) (tt, tt)) $
    exec ! 𝓣.C 𝓣.Λ En code.Mir.t-2 (at_ret En Post) $ sets ! (of_opd ! (unit_lit !)) refl (tt, tt) $
    returns ! (look_at ! 0 refl) $ free_all ! refl $ keep ! (5 ∷ 2 ∷ 3 ∷ 4 ∷ 9 ∷ 6 ∷ 7 ∷ 8 ∷ 0 ∷ []) $
    suffices ! _ (ends_at 𝓛 f.ended stayed c y vunit tt (record d { blocks = blocks' }, (record t { rows = rows' }, (tt, (tt, (tt, tt))))) (tt, (tt, (tt, (tt, (tt, tt)))))) $
    let Told : Type 0 = (blocks' ≡ blocks') × (rows' ≡ rows') in let told : Told = (refl, refl) in says ! told $
    group ! 3 $ move ! (2 ∷ 3 ∷ 4 ∷ []) $ group ! 3 $ nothing ! $ nothing ! $ join ! $ nothing ! $ join ! $ nothing ! $ join ! $ move ! (1 ∷ 0 ∷ []) $ join ! $ move ! (1 ∷ 0 ∷ []) $ join ! $
    nothing ! $ move ! (4 ∷ 0 ∷ []) $ join ! $ move ! (3 ∷ 0 ∷ []) $ join ! $ move ! (2 ∷ 0 ∷ []) $ join ! $ frame ! $ frame ! $
    feq_i ! (List Val) (vunit ∷ []) (vunit ∷ []) refl $ done !))))))))
