-- `is_nowhere` compares a pointer with the one that leads nowhere. Assumes `Logic`.
use Rattle.lmn_web_rows.proofs.Steps.{◌≡◌, List, [], ◌∷◌, refl, lit<, proved, Val, fact, tables, raw, ◌$◌, ◌∵◌, !, qed, done, drop, join, feq_i, suffices, enter, of_opd, lit, bin, returns, alloc_all, pass_all, free_all, look_at, get, sets, yes, Ptr, RawPtr, block_ptr, ptr_val, rawptr_vals, rawptr_Tells, plain, nothing, heard, on_entry, Stays, walk_of, says, stay_dropped, Goes-dropped, ends_at, Ptr-Good}
use mir.Val.{vbool, vnull, ptr_same}
use types.ByLocal.{is}
use denote.RawPtr.{null_ptr, tests_null}
use Rattle.lmn_web_rows.specs.Rows.{IsNear, leads_nowhere}
use Rattle.lmn_web_rows.specs.contracts.pointers.is_nowhere as f
use Rattle.lmn_web_rows.proofs.pointers.is_nowhere.Statement.{statement}
use Rattle.lmn_web_rows.proofs.pointers.is_nowhere.Code as code

abbrev stayed : Stays f.ended.signature.params f.ended.kept
stayed = (stay_dropped _ yes, tt)

told : (p : Ptr) → ◌≡◌ {A = Val} (vbool (ptr_same (ptr_val p) vnull)) (vbool (leads_nowhere p))
told (block_ptr b o) = refl
told null_ptr = refl

pub is_nowhere_spec : {M : Type 1} → statement M
is_nowhere_spec 𝓤 𝓛 𝓜 𝓡 wired =
    let c = f.clauses 𝓛 𝓜.mem 𝓡.returns in let W = walk_of 𝓛 f.ended stayed c in let 𝓣 = tables 𝓤 𝓛.H 𝓜 𝓡 𝓡.env in
    proved 𝓛 f.ended stayed c 𝓜 𝓡 (Goes-dropped 𝓛 0 (plain (λ _. RawPtr)) yes (λ κs x w. refl), tt)
    f.Key.name code.function (code.unfolded 𝓤 𝓛.H 𝓜 𝓡 wired)
    (λ κs. (rawptr_vals, tt)) (λ κs. (rawptr_Tells, tt)) (λ κs qs bounds a gh are.
    let p : Ptr = a.0 in let r = leads_nowhere p in
    let y : W.Ghost = ((κs, qs, bounds, a, (rawptr_vals p, tt)), gh) in let shown : r ≡ leads_nowhere p = refl in
    qed 𝓛 (raw (on_entry 𝓛 f.signature κs qs a y.0.4) ∷ raw (fact 𝓤 (IsNear p)) ∷ []) ∵ drop ! $ heard ! _ (λ near.
    enter ! _ _ _ _ _ $ alloc_all ! (λ l. pass_all ! refl (Ptr-Good p, tt) $
    sets ! (of_opd ! (lit ! tt)) refl (tt, record { fits = lit< tt }) $
    sets ! (is ! (bin ! (get ! refl) (get ! refl) (tests_null p near)) (told p)) refl (tt, tt) $
    returns ! (look_at ! 0 refl) $ free_all ! refl $
    suffices ! _ (ends_at 𝓛 f.ended stayed c y (vbool r) r (tt, tt) (tt, tt)) $ says ! shown $
    feq_i ! (List Val) (vbool r ∷ []) (vbool r ∷ []) refl $ nothing ! $ nothing ! $ join ! $ nothing ! $ done !)))
