-- A text has no more tokens than bytes.
use Rattle.std.proofs.Common.{ℕ, ◌≤◌, List, [], ◌∷◌, length, ap, arith}
use Rattle.std.proofs.lemmas.List.{length-append}
use Rattle.lmn_lexer.specs.declared.token.Kind.TheVariants.{End}
use Rattle.lmn_lexer.specs.Cutting.{Cutting, Reaches, start, onward, token_at}
use Rattle.lmn_lexer.specs.Laws.{FewTokens}
use Rattle.lmn_lexer.proofs.OneCut.{Step, gap_step, token_step, step_of, step_longer}

reached_few : {text : List ℕ} {c : Cutting} → Reaches text c → length c.tokens ≤ length c.before
reached_few start = omega arith
reached_few (onward {c = c} {d = d} h s) = go (step_of s) (reached_few h)
  where
    go : Step c d → length c.tokens ≤ length c.before → length d.tokens ≤ length d.before
    go (gap_step bytes after x g p) few =
        let more = step_longer (step_of s) in
        let same = ap (λ z. length z.tokens) p in
        omega arith
    go (token_step kind bytes after t p) few =
        let more = step_longer (step_of s) in
        let one = ap (λ z. length z.tokens) p in
        let sum = length-append c.tokens (token_at kind c.before bytes ∷ []) in
        omega arith

-- there are no more tokens than bytes, but for the end
pub few_tokens : FewTokens
few_tokens text tokens c =
    let few = reached_few c.cut in
    let whole = ap length c.with_end in
    let sum = length-append c.but_end (token_at End text [] ∷ []) in
    omega arith
