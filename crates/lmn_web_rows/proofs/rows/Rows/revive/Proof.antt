-- `revive` forgets the words of a row but its number, and says that it is in use. Assumes `Logic`.
use Rattle.lmn_web_rows.proofs.Steps.{ℕ, List, [], ◌∷◌, refl, proved, SProp, fact, ftrue, flft, named, Val, vunit, tables, ‵, raw, ◌⊛◌, ◌$◌, ◌∵◌, !, qed, done, move, keep, use1, split, join, fsplit, fsplit3, fjoin, feq_i, suffices, frame, group, enter, of_opd, unit_lit, returns, alloc_all, pass_all, free_all, look_at, sets, yes, owns, Ptr, RawPtr, rawptr_vals, rawptr_Tells, mut_vals, mut_Tells, plain, types_at, nothing, heard, opens, closes, Stays, walk_of, says, stay_dropped, Goes-dropped, stay_ref, Goes-ref, ends_at, Ptr-Good}
use Rattle.std.proofs.Common.{true}
use Rattle.lmn_web_rows.specs.Rows.{Row, forgotten, items_in, with_items, with_use, IsStart, place_of}
use Rattle.lmn_web_rows.specs.Owned.{rows_own}
use Rattle.lmn_web_rows.proofs.Places.{forgets, used}
use Rattle.lmn_web_rows.specs.contracts.rows.Rows.{the_row as R}
use Rattle.lmn_web_rows.specs.contracts.rows.Rows.revive as f
use Rattle.lmn_web_rows.proofs.rows.Rows.revive.Statement.{statement}
use Rattle.lmn_web_rows.proofs.rows.Rows.revive.Code as code

abbrev stayed : Stays f.ended.signature.params f.ended.kept
stayed = (stay_ref (0 ∷ []) tt (plain (λ _. R)), (stay_dropped _ yes, tt))

pub revive_spec : {M : Type 1} → statement M
revive_spec 𝓤 𝓛 𝓜 𝓡 wired =
    let c = f.clauses 𝓛 𝓜.mem 𝓡.returns in let W = walk_of 𝓛 f.ended stayed c in let 𝓣 = tables 𝓤 𝓛.H 𝓜 𝓡 𝓡.env in
    proved 𝓛 f.ended stayed c 𝓜 𝓡
    (Goes-ref 𝓛 1 0 tt (plain (λ _. R)), (Goes-dropped 𝓛 1 (plain (λ _. RawPtr)) yes (λ κs x w. refl), tt))
    f.Key.name code.function (code.unfolded 𝓤 𝓛.H 𝓜 𝓡 wired)
    (λ κs. (mut_vals, (rawptr_vals, tt))) (λ κs. (mut_Tells (named 0) κs.0 R, (rawptr_Tells, tt))) (λ κs qs bounds a gh are.
    let κ = κs.0 in let rb = a.0.ref_ptr.0 in let ro = a.0.ref_ptr.1 in let d = a.0.now in let at : Ptr = a.1.0 in let m : ℕ = place_of at in
    let y : W.Ghost = ((κs, qs, bounds, a, (mut_vals a.0, (rawptr_vals at, tt))), gh) in let Post : Val → SProp 𝓤 = W.post y in
    let Asked : Type 0 = IsStart at in let rows' : List Row = with_use true m (with_items m (forgotten (items_in d.rows m)) d.rows) in
    qed 𝓛 (((‵ (flft κ qs.0) ⊛ ‵ ftrue) ⊛ ‵ (owns (types_at f.signature.params κs) a y.0.4)) ∷ raw (fact 𝓤 Asked) ∷ []) ∵
    move ! (1 ∷ []) $ heard ! Asked (λ asked.
    split ! $ split ! $ move ! (2 ∷ []) $ fsplit ! $ keep ! (0 ∷ 2 ∷ []) $
    enter ! _ _ _ _ _ $ alloc_all ! (λ l. pass_all ! refl ((tt, tt), ((Ptr-Good at), tt)) $
    fsplit3 ! $ move ! (1 ∷ 2 ∷ 3 ∷ []) $ opens ! tt R rb ro (λ ts. move ! (1 ∷ []) $ fsplit ! $ move ! (1 ∷ []) $
    use1 𝓛 (‵ (rows_own (with_items m (forgotten (items_in d.rows m)) d.rows))) (forgets 𝓛 d.rows m) $ use1 𝓛 (‵ (rows_own rows')) (used 𝓛 true m (with_items m (forgotten (items_in d.rows m)) d.rows)) $
    move ! (1 ∷ []) $ fjoin ! $ move ! (1 ∷ []) $ closes ! tt R (record d { rows = rows' }) ts rb ro $
    sets ! (of_opd ! (unit_lit !)) refl (tt, tt) $
    returns ! (look_at ! 0 refl) $ free_all ! refl $ move ! (3 ∷ []) $
    suffices ! _ (ends_at 𝓛 f.ended stayed c y vunit tt (record d { rows = rows' }, (tt, tt)) (tt, (tt, tt))) $ says ! refl $
    group ! 3 $ nothing ! $ nothing ! $ join ! $ move ! (1 ∷ 0 ∷ []) $ join ! $ nothing ! $ move ! (2 ∷ 0 ∷ []) $ join ! $ frame ! $ frame ! $
    feq_i ! (List Val) (vunit ∷ []) (vunit ∷ []) refl $ done !))))
