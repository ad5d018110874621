-- `half` reads one half of a word that the rows lend. Assumes `Logic`.
use Rattle.lmn_web_rows.proofs.Steps.{◌≡◌, ℕ, ◌+◌, ◌*◌, ◌^◌, ◌<◌, List, [], ◌∷◌, Some, refl, sym, subst, w32, w64, arith, proved, SProp, ent, id⊢, ftrue, flft, named, Val, vint, vptr, WpFn, fact, tables, ‵, raw, ◌⊛◌, at_ret, ◌$◌, ◌∵◌, !, qed, done, move, keep, drop, use1, split, join, fsplit, fjoin, feq_i, flt_i, suffices, frame, enter, of_opd, lit, bin, load, look, stop, first, blocks, exec, returns, alloc_all, pass_all, free_all, look_at, get, through, sets, sets_last, env, usize, RefOf, yes, owns, hide, unhide, uint_vals, uint_Tells, Ptr, RawPtr, block_ptr, ptr_val, rawptr_vals, rawptr_Tells, shr_vals, shr_Tells, plain, types_at, nothing, heard, Stays, walk_of, says, stay_dropped, Goes-dropped, ends_at}
use Rattle.std.proofs.Common.{◌/◌, ◌%◌}
use Rattle.lmn_web_rows.specs.Rows.{items_in, half_at, IsStart, block_at, byte_at, place_of}
use Rattle.lmn_web_rows.specs.Owned.{half_lent}
use Rattle.lmn_web_rows.proofs.Halves.{half_in_word}
use Rattle.lmn_web_rows.proofs.Reading.{half_in, half_out}
use Rattle.lmn_web_rows.specs.contracts.rows.Rows.{the_row as R}
use Rattle.lmn_web_rows.specs.contracts.rows.Rows.half as f
use Rattle.lmn_web_rows.proofs.rows.Rows.half.Statement.{statement}
use Rattle.lmn_web_rows.proofs.rows.Rows.half.Code as code

abbrev stayed : Stays f.ended.signature.params f.ended.kept
stayed = (stay_dropped (RefOf (0 ∷ []) tt (plain (λ _. R)) (λ _. tt)) yes, (stay_dropped _ yes, (stay_dropped _ yes, tt)))

pub half_spec : {M : Type 1} → statement M
half_spec 𝓤 𝓛 𝓜 𝓡 wired =
    let c = f.clauses 𝓛 𝓜.mem 𝓡.returns in let W = walk_of 𝓛 f.ended stayed c in let 𝓣 = tables 𝓤 𝓛.H 𝓜 𝓡 𝓡.env in
    proved 𝓛 f.ended stayed c 𝓜 𝓡
    (Goes-dropped 𝓛 1 (RefOf (0 ∷ []) tt (plain (λ _. R)) (λ _. tt)) yes (λ κs x w. refl), (Goes-dropped 𝓛 1 (plain (λ _. RawPtr)) yes (λ κs x w. refl), (Goes-dropped 𝓛 1 (plain (λ _. usize)) yes (λ κs x w. refl), tt)))
    f.Key.name code.function (code.unfolded 𝓤 𝓛.H 𝓜 𝓡 wired)
    (λ κs. (shr_vals, (rawptr_vals, (uint_vals w64, tt)))) (λ κs. (shr_Tells (named 0) κs.0 R, (rawptr_Tells, (uint_Tells w64, tt)))) (λ κs qs bounds a gh are.
    let κ = κs.0 in let rb = a.0.ref_ptr.0 in let ro = a.0.ref_ptr.1 in let d = a.0.now in let at : Ptr = a.1.0 in let j : ℕ = a.1.1.0 in let m : ℕ = place_of at in let b : ℕ = block_at m in let e : ℕ = j * 4 + byte_at m in
    let y : W.Ghost = ((κs, qs, bounds, a, (shr_vals a.0, (rawptr_vals at, (uint_vals w64 j, tt)))), gh) in let Post : Val → SProp 𝓤 = W.post y in
    let Asked : Type 0 = IsStart at × (j < 2 ^ 32) × ((n : ℕ) × (half_at (items_in d.rows m) j ≡ Some n)) in
    let us : Ptr → List Val = λ u. vptr rb ro ∷ ptr_val u ∷ vint w64 j ∷ [] in let Run : List Val → SProp 𝓤 = λ ws. WpFn 𝓤 𝓛.H 𝓣.C 𝓣.Λ code.function ws Post in
    qed 𝓛 (((‵ (flft κ qs.0) ⊛ ‵ ftrue) ⊛ ‵ (owns (types_at f.signature.params κs) a y.0.4)) ∷ raw (fact 𝓤 Asked) ∷ []) ∵
    move ! (1 ∷ []) $ heard ! Asked (λ asked. let n : ℕ = asked.2.0 in
    split ! $ split ! $ move ! (2 ∷ []) $ fsplit ! $ fsplit ! $ keep ! (1 ∷ 3 ∷ []) $
    let small : j * 4 < 2 ^ 64 = omega (arith, asked.1) in
    suffices ! (Run (us (block_ptr b (byte_at m)))) (subst (λ (u : Ptr). ent 𝓤 (Run (us (block_ptr b (byte_at m)))) (Run (us u))) (sym asked.0) (id⊢ 𝓤 (Run (us (block_ptr b (byte_at m)))))) $
    enter ! _ _ _ _ _ $ alloc_all ! (λ l. pass_all ! refl ((tt, tt), ((tt, tt), ((tt, record { fits = are.1.1.0.1 }), tt))) $ let En = env code.function.locals l in
    unhide ! $ fsplit ! $ drop ! $
    use1 𝓛 (‵ (half_lent (Some n) b e κ)) (half_in_word 𝓛 κ d.rows m (j / 2) (j % 2) e n (omega arith) asked.2.1) $ fsplit ! $ drop ! $ hide ! $ move ! (0 ∷ 1 ∷ []) $
    half_in ! tt n b e (λ part fits.
    first ! $ blocks ! $ sets ! (of_opd ! (get ! refl)) refl (tt, tt) $
    sets ! (bin ! (get ! refl) (lit ! tt) (record { fits = small })) refl (tt, record { fits = small }) $
    sets ! (bin ! (get ! refl) (get ! refl) tt) refl (tt, tt) $
    sets_last ! (of_opd ! (load ! (through ! refl (stop !)) (look ! 0 refl))) refl (tt, record { fits = fits }) $
    exec ! 𝓣.C 𝓣.Λ En code.Mir.t-2 (at_ret En Post) $ sets ! (of_opd ! (get ! refl)) refl (tt, record { fits = fits }) $
    half_out ! tt n b e fits $
    returns ! (look_at ! 0 refl) $ free_all ! refl $ keep ! (0 ∷ []) $
    suffices ! _ (ends_at 𝓛 f.ended stayed c y (vint w32 n) n (tt, (tt, (tt, tt))) (tt, (tt, (tt, tt)))) $ says ! asked.2.1 $
    flt_i ! n (2 ^ 32) fits $ feq_i ! (List Val) (vint w32 n ∷ []) (vint w32 n ∷ []) refl $ fjoin ! $ move ! (1 ∷ 0 ∷ []) $
    nothing ! $ move ! (1 ∷ 0 ∷ []) $ join ! $ frame ! $ nothing ! $ nothing ! $ fjoin ! $ nothing ! $ fjoin ! $ nothing ! $ fjoin ! $ done !))))
