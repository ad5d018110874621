-- Levels and rules, part by part.
use Rattle.std.proofs.Common.{◌≡◌, ℕ, zero, suc, ◌+◌, ◌-◌, ◌<◌, Bool, false, List, [], ◌∷◌, ◌++◌, map, drop, length, get_or, slice_get, Some, refl, sym, ap, ◌∙◌, subst, arith}
use Rattle.std.specs.Prelude.{None, codes, slice_index_or}
use Rattle.std.proofs.lemmas.List.{map-append, append-nil}
use Rattle.lmn_base.specs.declared.guard.Cond.{Cond}
use Rattle.lmn_base.specs.declared.level.CtxUse.{CtxUse}
use Rattle.lmn_base.specs.declared.level.Leaf.{Leaf}
use Rattle.lmn_base.specs.declared.level.Level.{Level, out-Level}
use Rattle.lmn_base.specs.declared.level.Level.TheFolds.{fold_out-Level}
use Rattle.lmn_base.specs.declared.rule.RuleTree.{RuleTree}
use Rattle.lmn_congruence.specs.Rules as tree
use Rattle.lmn_congruence.specs.Translation.{name_of, names_of, context_tree, leaf_of, levels, rules, level_of, level_step, condition_of, rules_from, rule_tree, no_such_rule}
use Rattle.lmn_io.specs.Gathering.{SinkState, Adds}
use Rattle.lmn_io.proofs.TakingLemmas.{adds_as, adds_more}
use Rattle.lmn_flatten_plain.specs.Words.{Piece, text_of, with_commas, untyped_pieces, rule_context_piece, leaf_pieces, level_pieces, levels_pieces, rule_pieces, rules_pieces, guard_pieces}
use Rattle.lmn_print_plain.specs.Parts.{context_text, untyped_text, leaf_text, rule_from, level_in, rule_text}
use Rattle.lmn_print_plain.specs.Rows.{in_row, any_behind}
use Rattle.lmn_print_plain.proofs.RowLemmas.{row_append, any_map, comma_row}
use Rattle.lmn_flatten_plain.proofs.LaidLines.{text_append}
use Rattle.lmn_base.proofs.Common.{levels_in, membrane_smaller}
use Rattle.lmn_base.proofs.Lists.{map_twice as map_map}
use Rattle.lmn_print_plain.proofs.LeafLemmas.{untyped_row}

-- a membrane in braces
abbrev pub membrane_text : tree.Level → List ℕ
membrane_text l = 123 ∷ (text_of (with_commas (level_pieces l)) ++ (125 ∷ []))

membranes_text : (ls : List tree.Level) → map text_of (levels_pieces (levels ls)) ≡ map membrane_text ls
membranes_text [] = refl
membranes_text (l ∷ ls) = ap (λ t. (123 ∷ t) ∷ map text_of (levels_pieces (levels ls))) (text_append (with_commas (level_pieces l)) _) ∙ ap (λ ts. membrane_text l ∷ ts) (membranes_text ls)

rules_text : (rs : List tree.Rule) → map text_of (rules_pieces (rules rs)) ≡ map (λ r. text_of (rule_pieces r)) rs
rules_text [] = refl
rules_text (r ∷ rs) = ap (λ ts. text_of (rule_pieces r) ∷ ts) (rules_text rs)

rule_contexts_text : (names : List tree.Name) (us : List CtxUse) → map text_of (map (λ n. rule_context_piece n ∷ []) (names_of names us)) ≡ map (context_text names (codes "@")) us
rule_contexts_text names [] = refl
rule_contexts_text names (u ∷ us) = ap (λ t. t ∷ map text_of (map (λ n. rule_context_piece n ∷ []) (names_of names us))) (append-nil (64 ∷ name_of names u.name)) ∙ ap (λ ts. context_text names (codes "@") u ∷ ts) (rule_contexts_text names us)

-- five lists of items in a row
five : (a b c d e : List (List Piece)) → let s = codes ", " in
    text_of (with_commas (a ++ (b ++ (c ++ (d ++ e)))))
    ≡ in_row s false (map text_of a) ++ (in_row s (any_behind false a) (map text_of b) ++ (in_row s (any_behind (any_behind false a) b) (map text_of c)
    ++ (in_row s (any_behind (any_behind (any_behind false a) b) c) (map text_of d) ++ in_row s (any_behind (any_behind (any_behind (any_behind false a) b) c) d) (map text_of e))))
five a b c d e =
    let s = codes ", " in
    let step : (any : Bool) (xs ys : List (List Piece)) → in_row s any (map text_of (xs ++ ys)) ≡ in_row s any (map text_of xs) ++ in_row s (any_behind any xs) (map text_of ys) = λ any xs ys.
    ap (in_row s any) (map-append text_of xs ys) ∙ row_append s any (map text_of xs) (map text_of ys) ∙ ap (λ m. in_row s any (map text_of xs) ++ in_row s m (map text_of ys)) (any_map text_of any xs)
    in
    let m = any_behind false a in
    let n = any_behind m b in
    let o = any_behind n c in
    comma_row (a ++ (b ++ (c ++ (d ++ e))))
    ∙ step false a (b ++ (c ++ (d ++ e)))
    ∙ ap (λ z. in_row s false (map text_of a) ++ z) (step m b (c ++ (d ++ e))
    ∙ ap (λ z. in_row s m (map text_of b) ++ z) (step n c (d ++ e)
    ∙ ap (λ z. in_row s n (map text_of c) ++ z) (step o d e)))

any_levels : (any : Bool) (ls : List tree.Level) → any_behind any (levels_pieces (levels ls)) ≡ any_behind any ls
any_levels any [] = refl
any_levels any (l ∷ ls) = refl

-- The items of a level, list by list.
pub level_text : (names : List tree.Name) (rule : ℕ → tree.Rule) (l : Level) → let s = codes ", " in let o = out-Level l in
    let m = any_behind false o.leaves in let n = any_behind m o.membranes in let p = any_behind n o.contexts in let q = any_behind p o.rule_contexts in
    text_of (with_commas (level_pieces (level_of names rule l)))
    ≡ in_row s false (map (leaf_text names) o.leaves) ++ (in_row s m (map (λ x. membrane_text (level_of names rule x)) o.membranes)
    ++ (in_row s n (map (untyped_text names) o.contexts) ++ (in_row s p (map (context_text names (codes "@")) o.rule_contexts)
    ++ in_row s q (map (λ k. text_of (rule_pieces (rule k))) o.rules))))
level_text names rule l =
    let s = codes ", " in let o = out-Level l in
    let out : level_of names rule l ≡ tree.level (map (leaf_of names) o.leaves) (levels (map (level_of names rule) o.membranes)) (map (context_tree names) o.contexts) (names_of names o.rule_contexts) (rules (map rule o.rules)) =
    fold_out-Level tree.Level (level_step names rule) l in
    let a = map leaf_pieces (map (leaf_of names) o.leaves) in
    let b = levels_pieces (levels (map (level_of names rule) o.membranes)) in
    let c = map untyped_pieces (map (context_tree names) o.contexts) in
    let d = map (λ n. rule_context_piece n ∷ []) (names_of names o.rule_contexts) in
    let e = rules_pieces (rules (map rule o.rules)) in
    let ma : (any : Bool) → any_behind any a ≡ any_behind any o.leaves = λ any. any_map leaf_pieces any (map (leaf_of names) o.leaves) ∙ any_map (leaf_of names) any o.leaves in
    let mb : (any : Bool) → any_behind any b ≡ any_behind any o.membranes = λ any. any_levels any (map (level_of names rule) o.membranes) ∙ any_map (level_of names rule) any o.membranes in
    let mc : (any : Bool) → any_behind any c ≡ any_behind any o.contexts = λ any. any_map untyped_pieces any (map (context_tree names) o.contexts) ∙ any_map (context_tree names) any o.contexts in
    let md : (any : Bool) → any_behind any d ≡ any_behind any o.rule_contexts = λ any. any_map (λ n. rule_context_piece n ∷ []) any (names_of names o.rule_contexts) ∙ any_map (λ (u : CtxUse). name_of names u.name) any o.rule_contexts in
    let ta : map text_of a ≡ map (leaf_text names) o.leaves = map_map text_of leaf_pieces (map (leaf_of names) o.leaves) ∙ map_map (λ x. text_of (leaf_pieces x)) (leaf_of names) o.leaves in
    let tb : map text_of b ≡ map (λ x. membrane_text (level_of names rule x)) o.membranes = membranes_text (map (level_of names rule) o.membranes) ∙ map_map membrane_text (level_of names rule) o.membranes in
    let tc = untyped_row names o.contexts in
    let td = rule_contexts_text names o.rule_contexts in
    let te : map text_of e ≡ map (λ k. text_of (rule_pieces (rule k))) o.rules = rules_text (map rule o.rules) ∙ map_map (λ r. text_of (rule_pieces r)) rule o.rules in
    let m = any_behind false o.leaves in let n = any_behind m o.membranes in let p = any_behind n o.contexts in let q = any_behind p o.rule_contexts in
    let em : any_behind false a ≡ m = ma false in
    let en : any_behind (any_behind false a) b ≡ n = ap (λ z. any_behind z b) em ∙ mb m in
    let ep : any_behind (any_behind (any_behind false a) b) c ≡ p = ap (λ z. any_behind z c) en ∙ mc n in
    let eq : any_behind (any_behind (any_behind (any_behind false a) b) c) d ≡ q = ap (λ z. any_behind z d) ep ∙ md p in
    ap (λ x. text_of (with_commas (level_pieces x))) out
    ∙ five a b c d e
    ∙ rejoin (in_row s false) (in_row s) ta em tb en tc ep td eq te
  where
    rejoin : (f : List (List ℕ) → List ℕ) (g : Bool → List (List ℕ) → List ℕ) {a a' b b' c c' d d' e e' : List (List ℕ)} {m m' n n' p p' q q' : Bool}
        → a ≡ a' → m ≡ m' → b ≡ b' → n ≡ n' → c ≡ c' → p ≡ p' → d ≡ d' → q ≡ q' → e ≡ e'
        → f a ++ (g m b ++ (g n c ++ (g p d ++ g q e))) ≡ f a' ++ (g m' b' ++ (g n' c' ++ (g p' d' ++ g q' e')))
    rejoin f g x1 x2 x3 x4 x5 x6 x7 x8 x9 = (cc)

-- The rules of a table.

-- the rule at a place of those from k on
rule_here : (names : List tree.Name) (k m : ℕ) (rs : List RuleTree) (i : ℕ) (r : RuleTree) → m ≡ k + i + 1 → slice_get rs i ≡ Some r
    → slice_index_or (rules_from names k rs) i no_such_rule ≡ rule_tree names (λ n. slice_index_or (rules_from names m (drop (suc i) rs)) (n - m) no_such_rule) r
rule_here names k m [] i r p e = absurd (cc e)
rule_here names k m (q ∷ rs) zero r p e =
    let f : q ≡ r = cc e in
    let g : k + 1 ≡ m = omega (arith, p) in
    ap (λ j. rule_tree names (λ n. slice_index_or (rules_from names j rs) (n - j) no_such_rule) q) g ∙ ap (rule_tree names (λ n. slice_index_or (rules_from names m rs) (n - m) no_such_rule)) f
rule_here names k m (q ∷ rs) (suc i) r p e = rule_here names (k + 1) m rs i r (omega (arith, p)) e

rule_missing : (names : List tree.Name) (k : ℕ) (rs : List RuleTree) (i : ℕ) → slice_get rs i ≡ None → slice_index_or (rules_from names k rs) i no_such_rule ≡ no_such_rule
rule_missing names k [] i e = refl
rule_missing names k (q ∷ rs) zero e = absurd (cc e)
rule_missing names k (q ∷ rs) (suc i) e = rule_missing names (k + 1) rs i e

got_at : {X : Type 0} (xs : List X) (k i j : ℕ) → j ≡ k + i → slice_get (drop k xs) i ≡ slice_get xs j
got_at xs zero i j e = ap (slice_get xs) (let f : i ≡ j = omega (arith, e) in f)
got_at [] (suc k) i j e = refl
got_at (x ∷ xs) (suc k) i zero e = absurd (omega (arith, e))
got_at (x ∷ xs) (suc k) i (suc j) e = got_at xs k i j (omega (arith, e))

got_behind : {X : Type 0} (xs : List X) (k i : ℕ) → slice_get (drop k xs) i ≡ slice_get xs (k + i)
got_behind xs k i = got_at xs k i (k + i) refl

none_dropped : {X : Type 0} (i : ℕ) → drop {A = X} i [] ≡ []
none_dropped zero = refl
none_dropped (suc i) = refl

dropped_to : {X : Type 0} (xs : List X) (k i j : ℕ) → j ≡ k + i → drop i (drop k xs) ≡ drop j xs
dropped_to xs zero i j e = ap (λ n. drop n xs) (let f : i ≡ j = omega (arith, e) in f)
dropped_to [] (suc k) i j e = none_dropped i ∙ sym (none_dropped j)
dropped_to (x ∷ xs) (suc k) i zero e = absurd (omega (arith, e))
dropped_to (x ∷ xs) (suc k) i (suc j) e = dropped_to xs k i j (omega (arith, e))

dropped_behind : {X : Type 0} (xs : List X) (k i : ℕ) → drop i (drop k xs) ≡ drop (k + i) xs
dropped_behind xs k i = dropped_to xs k i (k + i) refl

-- the rule of a number that the table has, by its parts
pub rule_is : (names : List tree.Name) (first n at : ℕ) (table : List RuleTree) (r : RuleTree) → at ≡ first + (n - first) → slice_get table at ≡ Some r
    → rule_from names first table n ≡ tree.rule_of (level_in names (at + 1) table r.head) (map (condition_of names) r.guard) (level_in names (at + 1) table r.body)
rule_is names first n at table r p e =
    let behind = drop first table in
    let i = n - first in
    let got : slice_get behind i ≡ Some r = got_behind table first i ∙ ap (slice_get table) (sym p) ∙ e in
    let next : drop (suc i) behind ≡ drop (at + 1) table = dropped_behind table first (suc i) ∙ ap (λ j. drop j table) (let q : first + suc i ≡ at + 1 = omega (arith, p) in q) in
    rule_here names first (at + 1) behind i r (omega (arith, p)) got
    ∙ ap (λ rs. rule_tree names (λ n. slice_index_or (rules_from names (at + 1) rs) (n - (at + 1)) no_such_rule) r) next

-- and of another number
pub rule_is_missing : (names : List tree.Name) (first n at : ℕ) (table : List RuleTree) → at ≡ first + (n - first) → slice_get table at ≡ None
    → rule_from names first table n ≡ no_such_rule
rule_is_missing names first n at table p e =
    rule_missing names first (drop first table) (n - first) (got_behind table first (n - first) ∙ ap (slice_get table) (sym p) ∙ e)

-- the text of a rule by its parts
pub rule_line : (head : tree.Level) (guard : List tree.Condition) (body : tree.Level) →
    text_of (rule_pieces (tree.rule_of head guard body))
    ≡ codes "(" ++ (text_of (with_commas (level_pieces head)) ++ (codes " :- " ++ (text_of (guard_pieces guard) ++ (text_of (with_commas (level_pieces body)) ++ codes ")"))))
rule_line head guard body =
    ap (λ t. 40 ∷ t) (text_append (with_commas (level_pieces head)) _
    ∙ ap (λ t. text_of (with_commas (level_pieces head)) ++ (32 ∷ (58 ∷ (45 ∷ (32 ∷ t))))) (text_append (guard_pieces guard) _
    ∙ ap (λ t. text_of (guard_pieces guard) ++ t) (text_append (with_commas (level_pieces body)) _)))

-- Measures: a level is as heavy as the levels in it, and rules as the levels of their heads and bodies.

-- how many levels some rules have
abbrev pub levels_of_rules : List RuleTree → ℕ
levels_of_rules [] = 0
levels_of_rules (r ∷ rs) = suc (levels_in r.head + levels_in r.body + levels_of_rules rs)

-- and those from a number on
abbrev pub levels_behind : ℕ → List RuleTree → ℕ
levels_behind first table = levels_of_rules (drop first table)

-- a membrane has fewer levels than the level round it
pub membrane_below : (l : Level) (i : ℕ) (xs : List Level) (x : Level) → i < length xs → x ≡ get_or xs i x → xs ≡ (out-Level l).membranes → levels_in x < levels_in l
membrane_below l i xs x h is e =
    let Q : List Level → Type 0 = λ ms. i < length ms in
    let P : Level → Type 0 = λ y. levels_in y < levels_in l in
    subst P (sym (is ∙ ap (λ ms. get_or ms i x) e)) (membrane_smaller l x i (subst Q e h))

here_below : (rs : List RuleTree) (i : ℕ) (r : RuleTree) → slice_get rs i ≡ Some r → levels_in r.head + levels_in r.body + levels_of_rules (drop (suc i) rs) < levels_of_rules rs
here_below [] i r e = absurd (cc e)
here_below (q ∷ rs) zero r e = let f : q ≡ r = cc e in subst (λ x. levels_in x.head + levels_in x.body + levels_of_rules rs < levels_of_rules (q ∷ rs)) f (omega arith)
here_below (q ∷ rs) (suc i) r e = let h = here_below rs i r e in omega (arith, h)

-- the parts of a rule, with the rules behind it, have fewer than the rules from `first` on
pub rule_below : (first n at : ℕ) (table : List RuleTree) (r : RuleTree) → at ≡ first + (n - first) → slice_get table at ≡ Some r
    → levels_in r.head + levels_in r.body + levels_behind (at + 1) table < levels_behind first table
rule_below first n at table r p e =
    let behind = drop first table in
    let i = n - first in
    let got : slice_get behind i ≡ Some r = got_behind table first i ∙ ap (slice_get table) (sym p) ∙ e in
    let next : drop (suc i) behind ≡ drop (at + 1) table = dropped_behind table first (suc i) ∙ ap (λ j. drop j table) (let q : first + suc i ≡ at + 1 = omega (arith, p) in q) in
    let P : List RuleTree → Type 0 = λ rs. levels_in r.head + levels_in r.body + levels_of_rules rs < levels_of_rules behind in
    subst P next (here_below behind i r got)

-- Levels and rules that were added part by part.

swap : (f : List (List ℕ) → List ℕ) (g : Bool → List (List ℕ) → List ℕ) {a a' b b' c c' d d' e e' : List (List ℕ)} {m m' n n' p p' q q' : Bool}
    → a ≡ a' → m ≡ m' → b ≡ b' → n ≡ n' → c ≡ c' → p ≡ p' → d ≡ d' → q ≡ q' → e ≡ e'
    → f a ++ (g m b ++ (g n c ++ (g p d ++ g q e))) ≡ f a' ++ (g m' b' ++ (g n' c' ++ (g p' d' ++ g q' e')))
swap f g x1 x2 x3 x4 x5 x6 x7 x8 x9 = (cc)

-- the parts of a level are written
pub level_written : (names : List tree.Name) (first : ℕ) (table : List RuleTree) (l : Level) (ls : List Leaf) (ms : List Level) (cs ds : List CtxUse) (rs : List ℕ) (m n p q : Bool) (o0 o1 o2 o3 o4 o5 : SinkState)
    → let s = codes ", " in let o = out-Level l in ls ≡ o.leaves → ms ≡ o.membranes → cs ≡ o.contexts → ds ≡ o.rule_contexts → rs ≡ o.rules
    → m ≡ any_behind false ls → n ≡ any_behind m ms → p ≡ any_behind n cs → q ≡ any_behind p ds
    → Adds (in_row s false (map (leaf_text names) ls)) o0 o1
    → Adds (in_row s m (map (λ x. membrane_text (level_in names first table x)) ms)) o1 o2
    → Adds (in_row s n (map (untyped_text names) cs)) o2 o3
    → Adds (in_row s p (map (context_text names (codes "@")) ds)) o3 o4
    → Adds (in_row s q (map (rule_text names first table) rs)) o4 o5
    → Adds (text_of (with_commas (level_pieces (level_in names first table l)))) o0 o5
level_written names first table l ls ms cs ds rs m n p q o0 o1 o2 o3 o4 o5 els ems ecs eds ers em en ep eq h1 h2 h3 h4 h5 =
    let s = codes ", " in
    let o = out-Level l in
    let f1 = leaf_text names in
    let f2 = λ (x : Level). membrane_text (level_in names first table x) in
    let f3 = untyped_text names in
    let f4 = context_text names (codes "@") in
    let f5 = rule_text names first table in
    let m' = any_behind false o.leaves in let n' = any_behind m' o.membranes in let p' = any_behind n' o.contexts in let q' = any_behind p' o.rule_contexts in
    let xm : m ≡ m' = em ∙ ap (any_behind false) els in
    let xn : n ≡ n' = en ∙ ap (λ z. any_behind z ms) xm ∙ ap (any_behind m') ems in
    let xp : p ≡ p' = ep ∙ ap (λ z. any_behind z cs) xn ∙ ap (any_behind n') ecs in
    let xq : q ≡ q' = eq ∙ ap (λ z. any_behind z ds) xp ∙ ap (any_behind p') eds in
    adds_as (swap (in_row s false) (in_row s) (ap (map f1) els) xm (ap (map f2) ems) xn (ap (map f3) ecs) xp (ap (map f4) eds) xq (ap (map f5) ers) ∙ sym (level_text names (rule_from names first table) l))
    (adds_more _ _ o0 o1 o5 h1 (adds_more _ _ o1 o2 o5 h2 (adds_more _ _ o2 o3 o5 h3 (adds_more _ _ o3 o4 o5 h4 h5))))

-- a membrane in its braces
pub membrane_written : (l : tree.Level) (o0 o1 o2 o3 : SinkState) → Adds (codes "{") o0 o1 → Adds (text_of (with_commas (level_pieces l))) o1 o2 → Adds (codes "}") o2 o3 → Adds (membrane_text l) o0 o3
membrane_written l o0 o1 o2 o3 a b c = adds_more (codes "{") _ o0 o1 o3 a (adds_more (text_of (with_commas (level_pieces l))) (codes "}") o1 o2 o3 b c)

-- the parts of a rule are written
pub rule_written : (names : List tree.Name) (first n at : ℕ) (table : List RuleTree) (r : RuleTree) (guard : List Cond) (o0 o1 o2 o3 o4 o5 o6 : SinkState) → at ≡ first + (n - first) → slice_get table at ≡ Some r → guard ≡ r.guard
    → Adds (codes "(") o0 o1 → Adds (text_of (with_commas (level_pieces (level_in names (at + 1) table r.head)))) o1 o2 → Adds (codes " :- ") o2 o3
    → Adds (text_of (guard_pieces (map (condition_of names) guard))) o3 o4 → Adds (text_of (with_commas (level_pieces (level_in names (at + 1) table r.body)))) o4 o5 → Adds (codes ")") o5 o6
    → Adds (rule_text names first table n) o0 o6
rule_written names first n at table r guard o0 o1 o2 o3 o4 o5 o6 p e eg h1 h2 h3 h4 h5 h6 =
    adds_as (ap (λ g. codes "(" ++ (text_of (with_commas (level_pieces (level_in names (at + 1) table r.head))) ++ (codes " :- " ++ (text_of (guard_pieces (map (condition_of names) g)) ++ (text_of (with_commas (level_pieces (level_in names (at + 1) table r.body))) ++ codes ")"))))) eg
    ∙ sym (rule_line (level_in names (at + 1) table r.head) (map (condition_of names) r.guard) (level_in names (at + 1) table r.body))
    ∙ ap (λ x. text_of (rule_pieces x)) (sym (rule_is names first n at table r p e)))
    (adds_more (codes "(") _ o0 o1 o6 h1 (adds_more _ _ o1 o2 o6 h2 (adds_more (codes " :- ") _ o2 o3 o6 h3 (adds_more _ _ o3 o4 o6 h4 (adds_more _ (codes ")") o4 o5 o6 h5 h6)))))

-- where a number has no rule `( :- )` is written
pub no_rule_written : (names : List tree.Name) (first n at : ℕ) (table : List RuleTree) (o0 o1 : SinkState) → at ≡ first + (n - first) → slice_get table at ≡ None → Adds (codes "( :- )") o0 o1 → Adds (rule_text names first table n) o0 o1
no_rule_written names first n at table o0 o1 p e h = adds_as (ap (λ x. text_of (rule_pieces x)) (sym (rule_is_missing names first n at table p e))) h

-- The measures at the calls.

-- a membrane has fewer levels to write than the level round it
pub level_falls : (first : ℕ) (table : List RuleTree) (l : Level) (t i : ℕ) (xs : List Level) (x : Level) → i < length xs → x ≡ get_or xs i x → xs ≡ (out-Level l).membranes
    → levels_behind first table + levels_in l ≡ t → levels_behind first table + levels_in x < t
level_falls first table l t i xs x h is e size = let w = membrane_below l i xs x h is e in omega (arith, w, size)

-- and so has the head of a rule than the rule
pub head_falls : (first n at t : ℕ) (table : List RuleTree) (r : RuleTree) → at ≡ first + (n - first) → slice_get table at ≡ Some r → levels_behind first table ≡ t → levels_behind (at + 1) table + levels_in r.head < t
head_falls first n at t table r p e size = let w = rule_below first n at table r p e in omega (arith, w, size)

-- and its body
pub body_falls : (first n at t : ℕ) (table : List RuleTree) (r : RuleTree) → at ≡ first + (n - first) → slice_get table at ≡ Some r → levels_behind first table ≡ t → levels_behind (at + 1) table + levels_in r.body < t
body_falls first n at t table r p e size = let w = rule_below first n at table r p e in omega (arith, w, size)
