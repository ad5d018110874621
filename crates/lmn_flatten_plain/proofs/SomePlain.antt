-- A tree has a plain.
use Rattle.std.proofs.Common.{◌≡◌, ℕ, List, [], ◌∷◌, ◌++◌, map, refl, sym, ap, ◌∙◌, subst}
use Rattle.std.specs.Prelude.{Box}
use Rattle.std.specs.declared.alloc.Global.{Global}
use Rattle.std.specs.List.{flat_map, AllZip}
use Rattle.std.proofs.lemmas.List.{append-nil, map-append}
use denote.RawPtr.{null_ptr}
use Rattle.lmn_base.specs.declared.refusal.Pos.{Pos}
use Rattle.lmn_base.specs.declared.guard.Expr.{Expr}
use Rattle.lmn_base.specs.declared.guard.Expr.TheOpen as expr
use Rattle.lmn_base.specs.declared.guard.Expr.TheViews.{roll-Expr}
use Rattle.lmn_base.specs.declared.guard.Cond.{Cond}
use Rattle.lmn_base.specs.declared.guard.Cond.TheVariants as cond
use Rattle.lmn_base.specs.declared.rule.Plain.{Plain}
use Rattle.lmn_base.specs.declared.rule.RuleTree.{RuleTree}
use Rattle.lmn_base.specs.Levels.{links_of}
use Rattle.lmn_base.specs.Links.{NumbersLinks}
use Rattle.lmn_congruence.specs.Rules as tree
use Rattle.lmn_lexer.specs.Laying.{Word}
use Rattle.lmn_parser.specs.Syntax as syntax
use Rattle.lmn_parser.specs.Syntax.{Clauses}
use Rattle.lmn_flatten_plain.specs.Expanded as expanded
use Rattle.lmn_flatten_plain.specs.Expanded.{ExpandedRule}
use Rattle.lmn_flatten_plain.specs.Expansion.{parts_of}
use Rattle.lmn_flatten_plain.specs.Parts.{level_from_parts}
use Rattle.lmn_flatten_plain.specs.Meanings.{place_at}
use Rattle.lmn_flatten_plain.specs.Plains.{numbered, IsExpr, IsCond, IsRuleOf, IsPlainOf}
use Rattle.lmn_flatten_plain.specs.Laws.{SomePlain}
use Rattle.lmn_flatten_plain.proofs.NumberedLevels.{links_numbered}
use Rattle.lmn_flatten_plain.proofs.SomeNumbers.{some_numbers}
use Rattle.lmn_flatten_plain.proofs.SomeTable.{some_table}

module _ (alloc : Global) (words : List Word) (places : List Pos) (names : List tree.Name) where
  boxed : Expr → Box Expr Global
  boxed e = record { ptr = null_ptr; alloc = alloc; value = e }

  boxed_value : (e : Expr) → (boxed e).value ≡ e
  unfolding boxed
  boxed_value e = refl

  some_expr : (x : syntax.Expr) → (e : Expr) × IsExpr words places names x e
  some_expr (syntax.integer p) = (_, refl)
  some_expr (syntax.value p) = (_, refl)
  some_expr (syntax.operation op l r) =
      let a = some_expr l in
      let b = some_expr r in
      let P : Expr → Type 0 = IsExpr words places names l in
      let Q : Expr → Type 0 = IsExpr words places names r in
      (roll-Expr (expr.Op op (boxed a.0) (boxed b.0)), (boxed a.0, boxed b.0, refl, subst P (sym (boxed_value a.0)) a.1, subst Q (sym (boxed_value b.0)) b.1))

  some_cond : (x : syntax.WrittenCondition) → (c : Cond) × IsCond words places names x c
  some_cond (syntax.called p ps) = (_, refl)
  some_cond (syntax.different p q s) = (_, refl)
  some_cond (syntax.compared op l r s) =
      let a = some_expr l in
      let b = some_expr r in
      (cond.Compare op a.0 b.0 (place_at words places s), (a.0, b.0, refl, a.1, b.1))
  some_cond (syntax.equal p r s) = let a = some_expr r in (_, (a.0, refl, a.1))

  some_guard : (xs : List syntax.WrittenCondition) → (cs : List Cond) × AllZip (IsCond words places names) xs cs
  some_guard [] = ([], tt)
  some_guard (x ∷ xs) = let c = some_cond x in let cs = some_guard xs in (c.0 ∷ cs.0, (c.1, cs.1))

  some_rule : (r : ExpandedRule) → (t : RuleTree) × IsRuleOf words places names r t
  some_rule r =
      let ls = expanded.expanded_links r.head ++ expanded.expanded_links r.body in
      let f = some_numbers ls in
      let head = numbered names f.0 r.head in
      let body = numbered names f.0 r.body in
      let guard = some_guard r.guard in
      let same : map f.0 ls ≡ flat_map links_of (head ∷ body ∷ []) =
      map-append f.0 (expanded.expanded_links r.head) (expanded.expanded_links r.body)
      ∙ ap (λ xs. xs ++ map f.0 (expanded.expanded_links r.body)) (sym (links_numbered names f.0 r.head)) ∙ ap (λ xs. links_of head ++ xs) (sym (links_numbered names f.0 r.body))
      ∙ ap (λ xs. links_of head ++ xs) (sym (append-nil (links_of body))) in
      let P : List ℕ → Type 0 = λ xs. NumbersLinks xs f.1 in
      let table = some_table (head ∷ body ∷ []) f.1 (subst P same f.3) in (
        record { head = head; guard = guard.0; body = body; links = table.0; pos = r.pos },
        record { number = f.0; apart = f.2; head = refl; guard = guard.1; body = refl; pos = refl; table = table.1 },
      )

  some_rules : (rs : List ExpandedRule) → (ts : List RuleTree) × AllZip (IsRuleOf words places names) rs ts
  some_rules [] = ([], tt)
  some_rules (r ∷ rs) = let t = some_rule r in let ts = some_rules rs in (t.0 ∷ ts.0, (t.1, ts.1))

  plain_of : (t : Clauses) → (p : Plain) × IsPlainOf words places names t p
  plain_of t =
      let parts = parts_of words places t in
      let ls = expanded.expanded_links (level_from_parts parts) in
      let f = some_numbers ls in
      let top = numbered names f.0 (level_from_parts parts) in
      let rules = some_rules parts.table in
      let same : map f.0 ls ≡ flat_map links_of (top ∷ []) = sym (links_numbered names f.0 (level_from_parts parts)) ∙ sym (append-nil (links_of top)) in
      let P : List ℕ → Type 0 = λ xs. NumbersLinks xs f.1 in
      let table = some_table (top ∷ []) f.1 (subst P same f.3) in (
        record { top = top; links = table.0; rules = rules.0 },
        record { number = f.0; apart = f.2; top = refl; table = table.1; rules = rules.1 },
      )

-- each tree has a plain
pub some_plain : SomePlain
some_plain alloc words places names t = plain_of alloc words places names t
