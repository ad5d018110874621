use Rattle.std.proofs.Common.{◌≡◌, ℕ, Bool, if◌then◌else◌, sym, ap, ◌∙◌}
use Rattle.lmn_base.proofs.Numbers.{not_equal}
use Rattle.lmn_web.specs.Indexes.{numbers_by}
use Rattle.lmn_web.proofs.web.free_cell.Goals as goal

eight : (k : ℕ) → (k ≡ 0 → ⊥) → numbers_by k ≡ 8
eight k d = ap (λ (t : Bool). if t then 6 else 8) (not_equal k 0 d)

pub free_atom-requires-clause-numbers : goal.free_atom-requires-clause-numbers
free_atom-requires-clause-numbers c = c.requires.numbers ∙ ap numbers_by (sym c.number-kind.ensures ∙ c.if-kind-eq0.true)

pub free_membrane-requires-clause-numbers : goal.free_membrane-requires-clause-numbers
free_membrane-requires-clause-numbers c = c.requires.numbers ∙ ap numbers_by (sym c.number-kind.ensures) ∙ eight c.number-kind.result c.if-kind-eq0.false
