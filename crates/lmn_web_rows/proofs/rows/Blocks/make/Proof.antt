-- `make` asks the heap for a block, which becomes a row that isn't in use. Assumes `Logic`.
use Rattle.lmn_web_rows.proofs.Steps.{◌≡◌, ℕ, ◌*◌, ◌^◌, ◌<◌, List, [], ◌∷◌, replicate, refl, sym, ap, ◌∙◌, lit<, w64, arith, proved, SProp, emp, id⊢, fact, fact_i, ftrue, fsep, froom, flft, named, ty_array, Val, vint, vptr, tables, ‵, raw, ◌⊛◌, some, later, ◌$◌, ◌∵◌, !, qed, done, move, keep, drop, use0, use1, use2, split, join, fsplit, fsplit3, fjoin, feq_i, flt_i, pick, await, rewrite, suffices, frame, group, enter, lit, bin, no_more, and_then, returns, alloc_all, pass_all, free_all, look_at, get, sets, lands_as, env, usize, RefOf, yes, owns, uint_vals, uint_Tells, Ptr, block_ptr, block_of, mut_vals, mut_Tells, shr_vals, shr_Tells, plain, types_at, nothing, heard, opens, closes, triple_of, calls_at, Stays, walk_of, says, stay_dropped, Goes-dropped, stay_ref, Goes-ref, ends_at, framed}
use mathlib.Core.Bool.{true, false}
use Rattle.std.proofs.Common.{◌+◌, ◌/◌}
use prog.Memory.{size, align, capped}
use prog.Capped.{capped_is}
use Rattle.core.specs.Allocator.{block_if_ok}
use Rattle.core.specs.declared.result.Result.TheVariants.{Ok, Err}
use Rattle.core.proofs.alloc.Calls.{Answer, answer_val, Answer-typed, Answer-Ok, Answer-err}
use Rattle.std_heap.specs.contracts.Global as HP
use Rattle.std_heap.specs.contracts.GlobalAllocator.allocate as g
use Rattle.std_heap.proofs.GlobalAllocator.allocate.Met.{met}
use Rattle.lmn_web_rows.specs.Rows.{Row, spare, blank, items_in, block_at, byte_at, place_of}
use Rattle.lmn_web_rows.specs.Owned.{word, may_free, items_own}
use Rattle.lmn_web_rows.proofs.Blocks.{emptied, Misses, misses, none_there, knows, starts}
use Rattle.lmn_web_rows.proofs.Answers.{Answered, answered, answers}
use Rattle.lmn_web_rows.specs.contracts.rows.Rows.{the_row as R}
use Rattle.lmn_web_rows.specs.contracts.rows.Blocks.{the_row as B}
use Rattle.lmn_web_rows.specs.contracts.rows.Blocks.make as f
use Rattle.lmn_web_rows.proofs.rows.Blocks.make.Statement.{statement}
use Rattle.lmn_web_rows.proofs.rows.Blocks.make.Code as code

abbrev stayed : Stays f.ended.signature.params f.ended.kept
stayed = (stay_ref (0 ∷ []) tt (plain (λ _. B)), (stay_ref (1 ∷ []) tt (plain (λ _. R)), (stay_dropped (RefOf (2 ∷ []) tt (plain (λ _. HP.the_row)) (λ _. tt)) yes, (stay_dropped _ yes, tt))))

starts_block : (b : ℕ) → block_at (b * 2 ^ 18 + 0 / 8) ≡ b
starts_block b = omega arith

starts_byte : (b : ℕ) → byte_at (b * 2 ^ 18 + 0 / 8) ≡ 0
starts_byte b = omega arith

pub make_spec : {M : Type 1} → statement M
make_spec 𝓤 𝓛 𝓜 𝓡 wired =
    let c = f.clauses 𝓛 𝓜.mem 𝓡.returns in let W = walk_of 𝓛 f.ended stayed c in let 𝓣 = tables 𝓤 𝓛.H 𝓜 𝓡 𝓡.env in
    proved 𝓛 f.ended stayed c 𝓜 𝓡
    (Goes-ref 𝓛 3 0 tt (plain (λ _. B)), (Goes-ref 𝓛 3 1 tt (plain (λ _. R)), (Goes-dropped 𝓛 3 (RefOf (2 ∷ []) tt (plain (λ _. HP.the_row)) (λ _. tt)) yes (λ κs x w. refl), (Goes-dropped 𝓛 3 (plain (λ _. usize)) yes (λ κs x w. refl), tt))))
    f.Key.name code.function (code.unfolded 𝓤 𝓛.H 𝓜 𝓡 wired)
    (λ κs. (mut_vals, (mut_vals, (shr_vals, (uint_vals w64, tt))))) (λ κs. (mut_Tells (named 0) κs.0 B, (mut_Tells (named 1) κs.1.0 R, (shr_Tells (named 2) κs.1.1.0 HP.the_row, (uint_Tells w64, tt))))) (λ κs qs bounds a gh are.
    let κ₀ = κs.0 in let κ₁ = κs.1.0 in let κ₂ = κs.1.1.0 in let q₀ = qs.0 in let q₁ = qs.1.0 in let q₂ = qs.1.1.0 in let rb = a.0.ref_ptr.0 in let ro = a.0.ref_ptr.1 in let d = a.0.now in
    let sb = a.1.0.ref_ptr.0 in let so = a.1.0.ref_ptr.1 in let t = a.1.0.now in let heap = a.1.1.0 in let n : ℕ = a.1.1.1.0 in
    let τ = ty_array word n in
    let y : W.Ghost = ((κs, qs, bounds, a, (mut_vals a.0, (mut_vals a.1.0, (shr_vals heap, (uint_vals w64 n, tt))))), gh) in let Post : Val → SProp 𝓤 = W.post y in
    let Asked : Type 0 = n ≡ 2 ^ 18 in
    qed 𝓛 (((‵ (flft κ₀ q₀) ⊛ ‵ (fsep (flft κ₁ q₁) (fsep (flft κ₂ q₂) ftrue))) ⊛ ‵ (owns (types_at f.signature.params κs) a y.0.4)) ∷ raw (fact 𝓤 Asked) ∷ []) ∵
    move ! (1 ∷ []) $ heard ! Asked (λ asked.
    split ! $ split ! $ move ! (2 ∷ []) $ fsplit ! $ move ! (1 ∷ []) $ fsplit ! $ move ! (1 ∷ []) $ fsplit ! $ fsplit ! $ keep ! (1 ∷ 3 ∷ 4 ∷ 5 ∷ 6 ∷ []) $
    move ! (4 ∷ []) $ fsplit ! $ move ! (1 ∷ []) $ fsplit ! $ keep ! (0 ∷ 3 ∷ 4 ∷ 2 ∷ 5 ∷ 6 ∷ []) $
    let small : n * 8 < 2 ^ 64 = omega (arith, asked) in let big : size τ ≡ 2 ^ 21 = omega (arith, asked) in
    enter ! _ _ _ _ _ $ alloc_all ! (λ l. pass_all ! refl ((tt, tt), ((tt, tt), ((tt, tt), ((tt, record { fits = are.1.1.1.0.1 }), tt)))) $ let En = env code.function.locals l in
    sets ! (bin ! (get ! refl) (lit ! tt) (record { fits = small })) refl (tt, record { fits = small }) $
    let Fits : Type 0 = (capped (size τ) ≡ n * 8) × (capped (align τ) ≡ 8) in
    use0 𝓛 (raw (fact 𝓤 Fits)) (fact_i 𝓤 Fits (emp 𝓤) (capped_is (n * 8) small, capped_is 8 (lit< tt))) $
    nothing ! $ flt_i ! 8 (2 ^ 64) (lit< tt) $ feq_i ! (List Val) (vint w64 8 ∷ []) (vint w64 8 ∷ []) refl $ fjoin ! $ fjoin ! $
    flt_i ! (n * 8) (2 ^ 64) small $ feq_i ! (List Val) (vint w64 (n * 8) ∷ []) (vint w64 (n * 8) ∷ []) refl $ fjoin ! $ fjoin ! $
    move ! (3 ∷ []) $ feq_i ! (List Val) (vptr heap.ref_ptr.0 heap.ref_ptr.1 ∷ []) (vptr heap.ref_ptr.0 heap.ref_ptr.1 ∷ []) refl $ fjoin ! $ fjoin ! $
    move ! (2 ∷ []) $ nothing ! $ move ! (1 ∷ 0 ∷ []) $ join ! $ join ! $
    let G = triple_of 𝓛 g.signature (g.spec 𝓛 𝓜.mem 𝓡.returns) in
    let z : G.Ghost = (((κ₂, tt), (q₂, tt), tt, (heap, (n * 8, (8, tt))), (shr_vals heap, (vint w64 (n * 8) ∷ [], (vint w64 8 ∷ [], tt)))), τ) in
    use2 𝓛 (raw (G.pre z)) (id⊢ 𝓤 _) $
    calls_at ! (framed 𝓤 𝓛.H 𝓜 𝓣) G (met 𝓤 𝓛 𝓜 𝓡 (code.calls-std_heap::GlobalAllocator::allocate 𝓡.env wired)) z
    (and_then ! (get ! refl) (and_then ! (get ! refl) (and_then ! (lit ! tt) (no_more !)))) (λ v.
    use1 𝓛 (later (some (λ (r : Answer.Denot). ((‵ (flft κ₂ q₂) ⊛ ‵ ftrue) ⊛ ‵ (Answer.own_val r (v ∷ []))) ⊛ some (λ (ws : Unit {0} × (Unit {0} × (Unit {0} × Unit {0}))). ‵ (fsep ftrue (fsep ftrue (fsep ftrue ftrue))) ⊛ ‵ (block_if_ok may_free τ r))))) (id⊢ 𝓤 _) $
    await ! tt $ pick ! (λ r. split ! $ split ! $ split ! $ move ! (3 ∷ []) $ pick ! (λ ws. split ! $ drop ! $ move ! (3 ∷ 0 ∷ []) $
    use2 𝓛 (raw (Answered 𝓛 τ v)) (answered 𝓛 τ v r) $
    answers ! τ v
    (λ b o e. move ! (1 ∷ []) $ starts ! τ b o (λ zero.
    rewrite ! 0 (λ (m : ℕ). ‵ (may_free τ (block_ptr b m))) zero refl $ rewrite ! 1 (λ (m : ℕ). ‵ (froom τ b m)) zero refl $
    let p : Ptr = block_ptr b 0 in let rows' : List Row = spare (place_of p) (replicate n blank) ∷ t.rows in let blocks' : List ℕ = b ∷ d.blocks in
    lands_as ! (e ∙ ap (λ (m : ℕ). answer_val true b m) zero) refl (Answer-typed true b 0) $
    move ! (4 ∷ 5 ∷ []) $ fsplit3 ! $ move ! (1 ∷ 2 ∷ 3 ∷ []) $ opens ! tt R sb so (λ us. move ! (1 ∷ []) $ fsplit ! $ move ! (8 ∷ 1 ∷ []) $
    knows ! (Misses 𝓛 𝓜 b t.rows) (misses 𝓛 𝓜 τ t.rows b big) (λ new.
    use1 𝓛 (‵ (items_own (replicate n blank) b 0)) (emptied 𝓛 n b 0) $
    rewrite ! 0 (λ (u : ℕ). ‵ (items_own (replicate n blank) u 0)) (sym (starts_block b)) refl $ rewrite ! 0 (λ (u : ℕ). ‵ (items_own (replicate n blank) (block_at (place_of p)) u)) (sym (starts_byte b)) refl $ fjoin ! $
    move ! (1 ∷ []) $ fjoin ! $ move ! (1 ∷ []) $ closes ! tt R (record t { rows = rows' }) us sb so $
    move ! (7 ∷ 8 ∷ []) $ fsplit3 ! $ move ! (1 ∷ 2 ∷ 3 ∷ []) $ opens ! tt B rb ro (λ ts. move ! (1 ∷ []) $ fsplit ! $ move ! (11 ∷ 1 ∷ []) $
    rewrite ! 0 (λ (m : ℕ). ‵ (may_free (ty_array word m) (block_ptr b 0))) asked refl $ fjoin ! $
    move ! (1 ∷ []) $ fjoin ! $ move ! (1 ∷ []) $ closes ! tt B (record d { blocks = blocks' }) ts rb ro $
    returns ! (look_at ! 0 refl) $ free_all ! refl $ keep ! (3 ∷ 0 ∷ 1 ∷ 2 ∷ 7 ∷ 4 ∷ 5 ∷ 6 ∷ 8 ∷ []) $
    suffices ! _ (ends_at 𝓛 f.ended stayed c y (answer_val true b 0) (Ok p) (record d { blocks = blocks' }, (record t { rows = rows' }, (tt, (tt, tt)))) (tt, (tt, (tt, (tt, tt))))) $
    let Told : Type 0 = (p ≡ block_ptr (block_of p) 0) × ((m : ℕ) → block_at m ≡ block_of p → items_in t.rows m ≡ []) × (rows' ≡ rows') × (blocks' ≡ blocks') in let told : Told = (refl, none_there 𝓛 𝓜 b t.rows new, refl, refl) in says ! told $
    group ! 3 $ move ! (2 ∷ 3 ∷ 4 ∷ []) $ group ! 3 $ nothing ! $ nothing ! $ join ! $ nothing ! $ join ! $ move ! (1 ∷ 0 ∷ []) $ join ! $ move ! (1 ∷ 0 ∷ []) $ join ! $
    nothing ! $ move ! (4 ∷ 0 ∷ []) $ join ! $ move ! (3 ∷ 0 ∷ []) $ join ! $ move ! (2 ∷ 0 ∷ []) $ join ! $ frame ! $ frame ! $
    use0 𝓛 (‵ (Answer.own_val (Ok p) (answer_val true b 0 ∷ []))) (Answer-Ok 𝓛 b 0) $ done !)))))
    (λ e. lands_as ! e refl (Answer-typed false 0 0) $
    returns ! (look_at ! 0 refl) $ free_all ! refl $ keep ! (4 ∷ 2 ∷ 5 ∷ 3 ∷ 0 ∷ []) $
    suffices ! _ (ends_at 𝓛 f.ended stayed c y (answer_val false 0 0) (Err (record {})) (d, (t, (tt, (tt, tt)))) (tt, (tt, (tt, (tt, tt))))) $
    let Told : Type 0 = (t.rows ≡ t.rows) × (d.blocks ≡ d.blocks) in let told : Told = (refl, refl) in says ! told $
    nothing ! $ nothing ! $ join ! $ nothing ! $ join ! $ move ! (2 ∷ 0 ∷ []) $ join ! $ move ! (1 ∷ 0 ∷ []) $ join ! $
    nothing ! $ move ! (4 ∷ 0 ∷ []) $ join ! $ move ! (3 ∷ 0 ∷ []) $ join ! $ move ! (2 ∷ 0 ∷ []) $ join ! $ frame ! $ frame ! $
    use0 𝓛 (‵ (Answer.own_val (Err (record {})) (answer_val false 0 0 ∷ []))) (Answer-err 𝓛) $ done !)))))))
