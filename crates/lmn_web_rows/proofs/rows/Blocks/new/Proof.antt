-- `new` makes the right to free no block. Assumes `Logic`.
use Rattle.lmn_web_rows.proofs.Steps.{[], ◌∷◌, refl, proved, Ura, ent, emp, ftrue, Val, vstruct, vcons, vnil, Logic, sem, tables, ‵, raw, ◌$◌, ◌∵◌, !, qed, done, move, drop, use0, join, fjoin, suffices, enter, agg, and_then, no_more, returns, alloc_all, pass_all, free_all, look_at, get, sets, RattleType, u8, nothing, on_entry, Stays, walk_of, says, ends_at}
use denote.Shadow.{makes_shadow}
use denote.Struct.Struct.{Struct}
use Rattle.core.specs.contracts.marker.PhantomData as marker
use Rattle.lmn_web_rows.specs.contracts.rows.Blocks.{the_row as R}
use Rattle.lmn_web_rows.specs.contracts.rows.Blocks.new as f
use Rattle.lmn_web_rows.proofs.rows.Blocks.new.Statement.{statement}
use Rattle.lmn_web_rows.proofs.rows.Blocks.new.Code as code

abbrev val : Val
val = vstruct (vcons (vstruct vnil) vnil)

abbrev Mark : RattleType
Mark = Struct record { name = []; args = []; types = []; fields = marker.the_row u8 ∷ [] }

made : {M : Type 1} {𝓤 : Ura M} (𝓛 : Logic 𝓤) → ent 𝓤 (emp 𝓤) (sem 𝓛 (Mark.own_val (record {}, tt) (val ∷ [])))
made 𝓛 = makes_shadow 𝓛 (Mark.own_val (record {}, tt) (val ∷ [])) (λ vss. (tt, ((λ uss. (tt, tt)), tt))) ((vstruct vnil ∷ [], tt), (refl, ((tt, (refl, tt)), tt)))

abbrev stayed : Stays f.ended.signature.params f.ended.kept
stayed = tt

pub new_spec : {M : Type 1} → statement M
new_spec 𝓤 𝓛 𝓜 𝓡 wired =
    let c = f.clauses 𝓛 𝓜.mem 𝓡.returns in let W = walk_of 𝓛 f.ended stayed c in let 𝓣 = tables 𝓤 𝓛.H 𝓜 𝓡 𝓡.env in
    proved 𝓛 f.ended stayed c 𝓜 𝓡 tt
    f.Key.name code.function (code.unfolded 𝓤 𝓛.H 𝓜 𝓡 wired)
    (λ κs. tt) (λ κs. tt) (λ κs qs bounds a gh are.
    let y : W.Ghost = ((κs, qs, bounds, a, tt), gh) in let r : R.Denot = record { marker = record {}; blocks = [] } in
    qed 𝓛 (raw (on_entry 𝓛 f.signature κs qs a y.0.4) ∷ ‵ ftrue ∷ []) ∵ drop ! $ drop ! $
    enter ! _ _ _ _ _ $ alloc_all ! (λ l. pass_all ! refl tt $
    sets ! (agg ! (no_more !)) refl (tt, tt) $
    sets ! (agg ! (and_then ! (get ! refl) (no_more !))) refl (tt, (tt, tt)) $
    returns ! (look_at ! 0 refl) $ free_all ! refl $
    use0 𝓛 (‵ (Mark.own_val (record {}, tt) (val ∷ []))) (made 𝓛) $ nothing ! $ move ! (1 ∷ 0 ∷ []) $ fjoin ! $
    suffices ! _ (ends_at 𝓛 f.ended stayed c y val r tt tt) $ says ! refl $ nothing ! $ join ! $ nothing ! $ join ! $ done !))
