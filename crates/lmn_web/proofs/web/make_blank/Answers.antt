use Rattle.std.proofs.Common.{◌≡◌, ℕ, ◌<◌, [], ◌∷◌, Some, None, MatchResult, if◌then◌else◌, replicate, sym, subst}
use Rattle.lmn_base.proofs.Numbers.{not_equal}
use Rattle.lmn_store_heap.specs.Heap.{alter}
use Rattle.lmn_web_cells.specs.Cells.{HeldCell, cells_by, blank_membrane, no_port, IsNewIndex}
use Rattle.lmn_web_cells.specs.CellIds.{cell_id}
use Rattle.lmn_web.specs.Indexes.{blank_by, most_cells}
use Rattle.lmn_web.proofs.web.make_blank.Goals as goal

blank_is : (k n : ℕ) → (k ≡ 0 → ⊥) → n ≡ 1 → blank_membrane ≡ (λ i. blank_by i k n)
blank_is k n d e = sym (λ t i. record { links = replicate 8 None; numbers = 0 ∷ 0 ∷ i ∷ 0 ∷ 0 ∷ 0 ∷ (if not_equal k 0 d t then [] else 0 ∷ 0 ∷ []); ports = replicate (e t) no_port })

pub returns-then-kind-eq0 : goal.returns-then-kind-eq0
returns-then-kind-eq0 c =
    let f = cells_by c.args.cells.now in let g = cells_by c.make.new.self in
    subst (λ (k : ℕ). MatchResult c.make.result (λ a. (f (cell_id a) ≡ None) × (i : ℕ) × (i < most_cells) × IsNewIndex f i × (g ≡ alter f (cell_id a) (λ _. Some (blank_by i k c.args.arity)))) (λ _. g ≡ f)) (sym c.if-kind-eq0.true) c.make.ensures

pub returns-then-arity-eq1 : goal.returns-then-arity-eq1
returns-then-arity-eq1 c =
    let f = cells_by c.args.cells.now in let g = cells_by c.make_membrane.new.self in
    subst (λ (x : ℕ → HeldCell). MatchResult c.make_membrane.result (λ a. (f (cell_id a) ≡ None) × (i : ℕ) × (i < most_cells) × IsNewIndex f i × (g ≡ alter f (cell_id a) (λ _. Some (x i)))) (λ _. g ≡ f))
    (blank_is c.args.kind c.args.arity c.if-kind-eq0.false c.if-arity-eq1.true) c.make_membrane.ensures
