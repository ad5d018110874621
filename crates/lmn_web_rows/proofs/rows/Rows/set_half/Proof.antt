-- `set_half` writes one half of a word of the rows. Assumes `Logic`.
use Rattle.lmn_web_rows.proofs.Steps.{ℕ, ◌+◌, ◌*◌, ◌^◌, ◌<◌, List, [], ◌∷◌, length, get_or, refl, sym, subst, w64, arith, proved, full_share, SProp, ent, all, all_e, apply∗, id⊢, ftrue, froom, flft, named, Val, vunit, vint, vptr, WpFn, fact, tables, sem, ‵, raw, ◌⊛◌, at_ret, ◌$◌, ◌∵◌, !, qed, done, move, keep, use1, use2, split, join, fsplit, fsplit3, fjoin, feq_i, suffices, frame, group, enter, of_opd, lit, unit_lit, bin, stop, assigns_last, init, first, blocks, exec, returns, alloc_all, pass_all, free_all, look_at, get, through, sets, env, u32, usize, part_at, w32, yes, owns, uint_in, uint_vals, uint_Tells, Ptr, RawPtr, block_ptr, ptr_val, rawptr_vals, rawptr_Tells, mut_vals, mut_Tells, plain, types_at, nothing, heard, opens, closes, Stays, walk_of, says, stay_dropped, Goes-dropped, stay_ref, Goes-ref, ends_at}
use Rattle.std.proofs.Common.{◌/◌, ◌%◌}
use Rattle.lmn_web_rows.specs.Rows.{Item, items_in, with_items, halves_in, with_half_at, blank, IsStart, block_at, byte_at, place_of}
use Rattle.lmn_web_rows.specs.Owned.{half, rows_own}
use Rattle.lmn_web_rows.proofs.Halves.{half_of, Anew}
use Rattle.lmn_web_rows.specs.contracts.rows.Rows.{the_row as R}
use Rattle.lmn_web_rows.specs.contracts.rows.Rows.set_half as f
use Rattle.lmn_web_rows.proofs.rows.Rows.set_half.Statement.{statement}
use Rattle.lmn_web_rows.proofs.rows.Rows.set_half.Code as code

abbrev stayed : Stays f.ended.signature.params f.ended.kept
stayed = (stay_ref (0 ∷ []) tt (plain (λ _. R)), (stay_dropped _ yes, (stay_dropped _ yes, (stay_dropped _ yes, tt))))

pub set_half_spec : {M : Type 1} → statement M
set_half_spec 𝓤 𝓛 𝓜 𝓡 wired =
    let c = f.clauses 𝓛 𝓜.mem 𝓡.returns in let W = walk_of 𝓛 f.ended stayed c in let 𝓣 = tables 𝓤 𝓛.H 𝓜 𝓡 𝓡.env in
    proved 𝓛 f.ended stayed c 𝓜 𝓡
    (Goes-ref 𝓛 1 0 tt (plain (λ _. R)), (Goes-dropped 𝓛 1 (plain (λ _. RawPtr)) yes (λ κs x w. refl), (Goes-dropped 𝓛 1 (plain (λ _. usize)) yes (λ κs x w. refl), (Goes-dropped 𝓛 1 (plain (λ _. u32)) yes (λ κs x w. refl), tt))))
    f.Key.name code.function (code.unfolded 𝓤 𝓛.H 𝓜 𝓡 wired)
    (λ κs. (mut_vals, (rawptr_vals, (uint_vals w64, (uint_vals w32, tt))))) (λ κs. (mut_Tells (named 0) κs.0 R, (rawptr_Tells, (uint_Tells w64, (uint_Tells w32, tt))))) (λ κs qs bounds a gh are.
    let κ = κs.0 in let rb = a.0.ref_ptr.0 in let ro = a.0.ref_ptr.1 in let d = a.0.now in let at : Ptr = a.1.0 in let j : ℕ = a.1.1.0 in let x = a.1.1.1.0 in let m : ℕ = place_of at in let b : ℕ = block_at m in let e : ℕ = j * 4 + byte_at m in
    let y : W.Ghost = ((κs, qs, bounds, a, (mut_vals a.0, (rawptr_vals at, (uint_vals w64 j, (uint_vals w32 x, tt))))), gh) in let Post : Val → SProp 𝓤 = W.post y in
    let i : Item = get_or (items_in d.rows m) (j / 2) blank in
    let Asked : Type 0 = IsStart at × (j < 2 ^ 32) × (j / 2 < length (items_in d.rows m)) × (j % 2 < length (halves_in i)) in
    let us : Ptr → List Val = λ u. vptr rb ro ∷ ptr_val u ∷ vint w64 j ∷ vint w32 x ∷ [] in let Run : List Val → SProp 𝓤 = λ ws. WpFn 𝓤 𝓛.H 𝓣.C 𝓣.Λ code.function ws Post in
    qed 𝓛 (((‵ (flft κ qs.0) ⊛ ‵ ftrue) ⊛ ‵ (owns (types_at f.signature.params κs) a y.0.4)) ∷ raw (fact 𝓤 Asked) ∷ []) ∵
    move ! (1 ∷ []) $ heard ! Asked (λ asked.
    split ! $ split ! $ move ! (2 ∷ []) $ fsplit ! $ keep ! (0 ∷ 2 ∷ []) $
    let small : j * 4 < 2 ^ 64 = omega (arith, asked.1) in
    suffices ! (Run (us (block_ptr b (byte_at m)))) (subst (λ (u : Ptr). ent 𝓤 (Run (us (block_ptr b (byte_at m)))) (Run (us u))) (sym asked.0) (id⊢ 𝓤 (Run (us (block_ptr b (byte_at m)))))) $
    enter ! _ _ _ _ _ $ alloc_all ! (λ l. pass_all ! refl ((tt, tt), ((tt, tt), ((tt, record { fits = are.1.1.0.1 }), ((tt, record { fits = are.1.1.1.0.1 }), tt)))) $ let En = env code.function.locals l in
    fsplit3 ! $ move ! (1 ∷ 2 ∷ 3 ∷ []) $ opens ! tt R rb ro (λ ts. move ! (1 ∷ []) $ fsplit ! $ move ! (1 ∷ []) $
    use1 𝓛 (‵ (froom half b e) ⊛ raw (all 𝓤 (Anew 𝓛 d.rows m (j / 2) (j % 2) e))) (half_of 𝓛 d.rows m (j / 2) (j % 2) e asked.2 asked.3 (omega arith)) $ split ! $
    first ! $ blocks ! $ sets ! (of_opd ! (get ! refl)) refl (tt, tt) $
    sets ! (bin ! (get ! refl) (lit ! tt) (record { fits = small })) refl (tt, record { fits = small }) $
    sets ! (bin ! (get ! refl) (get ! refl) tt) refl (tt, tt) $
    assigns_last ! (of_opd ! (get ! refl)) (through ! refl (stop !)) (init ! 0 refl (tt, record { fits = are.1.1.1.0.1 })) $
    exec ! 𝓣.C 𝓣.Λ En code.Mir.t-2 (at_ret En Post) $ sets ! (of_opd ! (unit_lit !)) refl (tt, tt) $
    use1 𝓛 (‵ (part_at u32 full_share x b e)) (uint_in 𝓛 full_share w32 x b e) $ move ! (1 ∷ []) $
    use1 𝓛 (raw (Anew 𝓛 d.rows m (j / 2) (j % 2) e x)) (all_e 𝓤 (Anew 𝓛 d.rows m (j / 2) (j % 2) e) x) $ move ! (1 ∷ 0 ∷ []) $
    let rows' = with_items m (with_half_at j x (items_in d.rows m)) d.rows in
    use2 𝓛 (‵ (rows_own rows')) (apply∗ 𝓤 (sem 𝓛 (part_at u32 full_share x b e)) (sem 𝓛 (rows_own rows'))) $
    move ! (1 ∷ []) $ fjoin ! $ move ! (1 ∷ []) $ closes ! tt R (record d { rows = rows' }) ts rb ro $
    returns ! (look_at ! 0 refl) $ free_all ! refl $ move ! (3 ∷ []) $
    suffices ! _ (ends_at 𝓛 f.ended stayed c y vunit tt (record d { rows = rows' }, (tt, (tt, (tt, tt)))) (tt, (tt, (tt, (tt, tt))))) $ says ! refl $
    group ! 3 $ nothing ! $ nothing ! $ join ! $ nothing ! $ join ! $ nothing ! $ join ! $ move ! (1 ∷ 0 ∷ []) $ join ! $ nothing ! $ move ! (2 ∷ 0 ∷ []) $ join ! $ frame ! $ frame ! $
    feq_i ! (List Val) (vunit ∷ []) (vunit ∷ []) refl $ done !))))
