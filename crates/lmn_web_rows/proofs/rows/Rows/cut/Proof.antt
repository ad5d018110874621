-- `cut` makes two rows of one. Assumes `Logic`.
use Rattle.lmn_web_rows.proofs.Steps.{◌≡◌, ℕ, ◌+◌, ◌^◌, ◌<◌, List, [], ◌∷◌, length, refl, w64, arith, proved, SProp, fact, ftrue, flft, named, Val, vunit, tables, ‵, raw, ◌⊛◌, ◌$◌, ◌∵◌, !, qed, done, move, keep, use1, split, join, fsplit, fsplit3, fjoin, feq_i, suffices, frame, group, enter, of_opd, unit_lit, returns, alloc_all, pass_all, free_all, look_at, sets, usize, yes, owns, uint_vals, uint_Tells, Ptr, RawPtr, rawptr_vals, rawptr_Tells, mut_vals, mut_Tells, plain, types_at, nothing, heard, opens, closes, Stays, walk_of, says, stay_dropped, Goes-dropped, stay_ref, Goes-ref, ends_at, Ptr-Good}
use Rattle.std.proofs.Common.{◌%◌}
use Rattle.lmn_web_rows.specs.Rows.{Row, items_in, cut_row, IsStart, place_of}
use Rattle.lmn_web_rows.specs.Owned.{rows_own}
use Rattle.lmn_web_rows.proofs.Places.{cut_own}
use Rattle.lmn_web_rows.proofs.Cutting.{tells, none_within}
use Rattle.lmn_web_rows.specs.contracts.rows.Rows.{the_row as R}
use Rattle.lmn_web_rows.specs.contracts.rows.Rows.cut as f
use Rattle.lmn_web_rows.proofs.rows.Rows.cut.Statement.{statement}
use Rattle.lmn_web_rows.proofs.rows.Rows.cut.Code as code

abbrev stayed : Stays f.ended.signature.params f.ended.kept
stayed = (stay_ref (0 ∷ []) tt (plain (λ _. R)), (stay_dropped _ yes, (stay_dropped _ yes, tt)))

pub cut_spec : {M : Type 1} → statement M
cut_spec 𝓤 𝓛 𝓜 𝓡 wired =
    let c = f.clauses 𝓛 𝓜.mem 𝓡.returns in let W = walk_of 𝓛 f.ended stayed c in let 𝓣 = tables 𝓤 𝓛.H 𝓜 𝓡 𝓡.env in
    proved 𝓛 f.ended stayed c 𝓜 𝓡
    (Goes-ref 𝓛 1 0 tt (plain (λ _. R)), (Goes-dropped 𝓛 1 (plain (λ _. RawPtr)) yes (λ κs x w. refl), (Goes-dropped 𝓛 1 (plain (λ _. usize)) yes (λ κs x w. refl), tt)))
    f.Key.name code.function (code.unfolded 𝓤 𝓛.H 𝓜 𝓡 wired)
    (λ κs. (mut_vals, (rawptr_vals, (uint_vals w64, tt)))) (λ κs. (mut_Tells (named 0) κs.0 R, (rawptr_Tells, (uint_Tells w64, tt)))) (λ κs qs bounds a gh are.
    let κ = κs.0 in let rb = a.0.ref_ptr.0 in let ro = a.0.ref_ptr.1 in let d = a.0.now in let at : Ptr = a.1.0 in let k : ℕ = a.1.1.0 in let m : ℕ = place_of at in
    let y : W.Ghost = ((κs, qs, bounds, a, (mut_vals a.0, (rawptr_vals at, (uint_vals w64 k, tt)))), gh) in let Post : Val → SProp 𝓤 = W.post y in
    let Asked : Type 0 = IsStart at × (0 < k) × (k < length (items_in d.rows m)) × (m % 2 ^ 18 + k < 2 ^ 18) in let rows' : List Row = cut_row m k d.rows in
    qed 𝓛 (((‵ (flft κ qs.0) ⊛ ‵ ftrue) ⊛ ‵ (owns (types_at f.signature.params κs) a y.0.4)) ∷ raw (fact 𝓤 Asked) ∷ []) ∵
    move ! (1 ∷ []) $ heard ! Asked (λ asked.
    split ! $ split ! $ move ! (2 ∷ []) $ fsplit ! $ keep ! (0 ∷ 2 ∷ []) $
    enter ! _ _ _ _ _ $ alloc_all ! (λ l. pass_all ! refl ((tt, tt), ((Ptr-Good at), ((tt, record { fits = are.1.1.0.1 }), tt))) $
    fsplit3 ! $ move ! (1 ∷ 2 ∷ 3 ∷ []) $ opens ! tt R rb ro (λ ts. move ! (1 ∷ []) $ fsplit ! $ move ! (1 ∷ []) $
    tells ! (items_in d.rows (m + k) ≡ []) (none_within 𝓛 𝓜 d.rows m k asked.1 asked.2 asked.3) (λ none.
    use1 𝓛 (‵ (rows_own rows')) (cut_own 𝓛 d.rows m k (let l = asked.2 in omega (arith, l)) asked.3) $
    move ! (1 ∷ []) $ fjoin ! $ move ! (1 ∷ []) $ closes ! tt R (record d { rows = rows' }) ts rb ro $
    sets ! (of_opd ! (unit_lit !)) refl (tt, tt) $
    returns ! (look_at ! 0 refl) $ free_all ! refl $ move ! (3 ∷ []) $
    suffices ! _ (ends_at 𝓛 f.ended stayed c y vunit tt (record d { rows = rows' }, (tt, (tt, tt))) (tt, (tt, (tt, tt)))) $
    let Told : Type 0 = (rows' ≡ rows') × (items_in d.rows (m + k) ≡ []) in let told : Told = (refl, none) in says ! told $
    group ! 3 $ nothing ! $ nothing ! $ join ! $ nothing ! $ join ! $ move ! (1 ∷ 0 ∷ []) $ join ! $ nothing ! $ move ! (2 ∷ 0 ∷ []) $ join ! $ frame ! $ frame ! $
    feq_i ! (List Val) (vunit ∷ []) (vunit ∷ []) refl $ done !)))))
