use Rattle.std.proofs.Common.{◌≡◌, ◌<◌, ℕ, List, ◌+◌, ◌∙◌, sym, arith, get_or, drop, length, false, refl}
use Rattle.std.proofs.lemmas.List.{drop_more}
use Rattle.std.specs.Str.{bytes_eq}
use Rattle.lmn_io.specs.Texts.{text_named}
use Rattle.lmn_io.proofs.mem_shelf.text_at.Goals as goal

-- a name that isn't the one that is sought is passed over
passed : (names texts : List (List ℕ)) (name n t : List ℕ) (i : ℕ) → i < length names → i < length texts
    → get_or names i n ≡ n → bytes_eq n name ≡ false
    → text_named (drop (i + 1) names) (drop (i + 1) texts) name ≡ text_named (drop i names) (drop i texts) name
passed names texts name n t i p q at differs =
    rw (drop_more names i n p, drop_more texts i t q, at, differs) refl

pub loop-i-preserved : goal.loop-i-preserved
loop-i-preserved c =
    passed c.args.names.now c.args.texts.now c.args.name.now c.index-names-i.result c.index-names-i.result c.loop-i.i (omega arith) (omega arith) (sym c.index-names-i.is) (grind (arith)) ∙ c.loop-i.invariant
