use Rattle.std.proofs.Common.{[], ◌∷◌, ◌++◌, cond, length, map, sym, ap, ◌∙◌, arith}
use Rattle.std.proofs.lemmas.Bool.{lt-ltb}
use Rattle.std.proofs.lemmas.List.{map-set, length-map}
use Rattle.std.specs.Prelude.{slice_set}
use Rattle.lmn_web_cells.specs.CellIds.{cell_id}
use Rattle.lmn_store_web.proofs.indexing.hold.Goals as goal

pub returns-then-key-len : goal.returns-then-key-len
returns-then-key-len c =
    let xs = c.args.mems.now.items in let k = c.args.key in let m = cell_id c.args.m in
    let low = c.if-key-len.true in let len = c.len.ensures in let same = length-map xs cell_id in
    map-set cell_id xs k c.args.m ∙ sym (ap (λ b. cond b (slice_set (map cell_id xs) k m) (map cell_id xs ++ m ∷ [])) (lt-ltb k (length (map cell_id xs)) (omega (arith, low, len, same))))
