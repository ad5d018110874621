-- The registers of names, with one binding more, and behind a condition.
use Rattle.std.proofs.Common.{ℕ, ◌≡◌, List, [], ◌∷◌, ◌++◌, Option, None, refl, sym, ap, ◌∙◌}
use Rattle.std.specs.Prelude.{◌==◌, if◌then◌else◌}
use Rattle.lmn_base.specs.declared.level.CtxUse.{CtxUse}
use Rattle.lmn_base.specs.declared.refusal.Pos.{Pos}
use Rattle.lmn_base.specs.declared.guard.Cmp.{Cmp}
use Rattle.lmn_base.specs.declared.guard.Expr.{Expr}
use Rattle.lmn_base.specs.declared.guard.Cond.{Cond}
use Rattle.lmn_base.specs.declared.guard.Cond.TheVariants.{Compare, Equal}
use Rattle.lmn_instr_code.specs.HeadCode.{value_code, bind_register}
use Rattle.lmn_compile_body.specs.Naming.{last_register, registers_by, equal_registers, guard_registers}

last_more : (es : List (ℕ × ℕ)) (before x : ℕ) (e : ℕ × ℕ) → last_register (es ++ e ∷ []) before x ≡ (if x == e.0 then e.1 else last_register es before x)
last_more [] before x e = refl
last_more (d ∷ es) before x e = last_more es (if x == d.0 then d.1 else before) x e

-- one register more
pub registers_more : (es : List (ℕ × ℕ)) (e : ℕ × ℕ) → registers_by (es ++ e ∷ []) ≡ bind_register (registers_by es) e.0 e.1
registers_more es e = λ i. λ x. last_more es 0 x e i

-- a comparison binds nothing, and moves the next register on
pub compared : (part : ℕ → Option ℕ) (v : ℕ) (op : Cmp) (left right : Expr) (pos : Pos) (cs : List Cond) (es es1 es2 : List (ℕ × ℕ)) (n1 n2 : ℕ) →
    es1 ≡ es → es2 ≡ es → n1 ≡ (value_code part (registers_by es1) left v).next → n2 ≡ (value_code part (registers_by es2) right n1).next →
    guard_registers part (registers_by es) n2 cs ≡ guard_registers part (registers_by es) v (Compare op left right pos ∷ cs)
compared part v op left right pos cs es es1 es2 n1 n2 e1 e2 a b =
    ap (λ n. guard_registers part (registers_by es) n cs)
    (b ∙ (λ i. (value_code part (registers_by (e2 i)) right (a i)).next) ∙ (λ i. (value_code part (registers_by es) right (value_code part (registers_by (e1 i)) left v).next).next))

-- a new name on the left of an equation is bound to the register of the value
pub bound : (part : ℕ → Option ℕ) (v : ℕ) (left : CtxUse) (right : Expr) (pos : Pos) (cs : List Cond) (es es1 es2 : List (ℕ × ℕ)) (at next : ℕ) → part left.name ≡ None →
    es1 ≡ es → at ≡ (value_code part (registers_by es1) right v).at → next ≡ (value_code part (registers_by es1) right v).next → es2 ≡ es ++ (left.name, at) ∷ [] →
    guard_registers part (registers_by es2) next cs ≡ guard_registers part (registers_by es) v (Equal left right pos ∷ cs)
bound part v left right pos cs es es1 es2 at next none e1 a n made =
    let c = value_code part (registers_by es) right v in
    let same_at : at ≡ c.at = a ∙ ap (λ k. (value_code part (registers_by k) right v).at) e1 in
    let same_next : next ≡ c.next = n ∙ ap (λ k. (value_code part (registers_by k) right v).next) e1 in
    let registers : registers_by es2 ≡ bind_register (registers_by es) left.name c.at = ap registers_by made ∙ (registers_more es (left.name, at) ∙ ap (λ k. bind_register (registers_by es) left.name k) same_at) in
    (λ i. guard_registers part (registers i) (same_next i) cs)
    ∙ ap (λ p. equal_registers p (guard_registers part (bind_register (registers_by es) left.name c.at) c.next cs) (guard_registers part (registers_by es) v cs)) (sym none)
