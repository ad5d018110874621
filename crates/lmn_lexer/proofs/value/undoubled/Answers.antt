use Rattle.std.proofs.Common.{◌≤◌, ◌+◌, ℕ, List, [], take, length, sym, subst, arith}
use Rattle.lmn_lexer.specs.Spelling.{Quotes, nothing}
use Rattle.lmn_lexer.proofs.QuotedNames.{byte_went, quote_went}
use Rattle.lmn_lexer.proofs.value.undoubled.Goals as goal
use Rattle.lmn_lexer.proofs.value.undoubled.Goals.{then-byte-eq39, else-byte-eq39}

pub loop-at-init : goal.loop-at-init
loop-at-init c = let P : List ℕ → Type 0 = Quotes [] in (omega arith, subst P (sym c.new-name.ensures) nothing)

pub loop-at-preserved : goal.loop-at-preserved
loop-at-preserved c =
    let inside = c.args.inside.now in
    let P : ℕ → Type 0 = λ at. (at + 1 ≤ length inside) × Quotes (take (at + 1) inside) c.push.new.self in
    let Q : List ℕ → Type 0 = λ name. (c.loop-at.at + 1 ≤ length inside) × Quotes (take (c.loop-at.at + 1) inside) name in
    let R : List ℕ → Type 0 = λ name. (c.loop-at.at + 1 + 1 ≤ length inside) × Quotes (take (c.loop-at.at + 1 + 1) inside) name in
    elim c.if-byte-eq39.branch [
      | then-byte-eq39 w ↦ subst P (sym w.at-is) (subst R (sym c.in_ok-push.ensures.ok) (quote_went inside c.loop-at.name c.loop-at.at c.loop-at-test.true c.requires c.loop-at.invariant.1 w.if-byte-eq39.true))
      | else-byte-eq39 w ↦ subst P (sym w.at-is) (subst Q (sym c.in_ok-push.ensures.ok) (byte_went inside c.loop-at.name c.loop-at.at c.loop-at-test.true c.requires c.loop-at.invariant.1 w.if-byte-eq39.false))
    ]
