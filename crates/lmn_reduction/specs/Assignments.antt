-- What the links and contexts of a rule stand for.
use Rattle.std.specs.Prelude.{ℕ, ◌≡◌, List}
use Rattle.lmn_congruence.specs.Process.{Process, pair, rule, Free, Closed}
use Rattle.lmn_congruence.specs.Rules.{Name, Context, open_context, closed_context, Rule}
use Rattle.lmn_reduction.specs.Parts.{Rooted}

-- no rule stands in a process outside its membranes
abbrev pub NoRuleAtTop : Process → Type 0
NoRuleAtTop (pair P Q) = NoRuleAtTop P × NoRuleAtTop Q
NoRuleAtTop (rule r) = ⊥
NoRuleAtTop P = Unit {0}

-- What the parts of a rule stand for.
--   link_of      each link of the rule: a link
--   context_of   each untyped context, open or closed: a process
--   rules_of     each rule context: a list of rules
--   typed_of     each typed context of the head: a process with its root; each context that the guard binds:
--                the integer atom of arity 1 that stands for its integer
-- The fields are total, and `Proper` asks its conditions of all numbers and names, also of those that the rule
-- doesn't have. That costs nothing: a rule has finitely many links and contexts, so the other links can go above
-- every link in use, the other untyped contexts to `0`, and the other typed ones to an atom of arity 1.
pub record Assignment : Type 0 where
  pub link_of : ℕ → ℕ
  pub context_of : Context → Process
  pub rules_of : Name → List Rule
  pub typed_of : Name → Rooted

-- Different links of the rule go to different links. An untyped context has no rule at its top. None of the free links
-- of an open one is given to a link of the rule; a closed one has no free link: each link in it occurs twice. The root
-- of a typed context is free in it. A link may be free in the processes of two open contexts.
pub record Proper (t : Assignment) : Type 0 where
  pub links_differ : (x y : ℕ) → t.link_of x ≡ t.link_of y → x ≡ y
  pub no_rule : (p : Context) → NoRuleAtTop (t.context_of p)
  pub links_apart : (p : Name) (x : ℕ) → ¬ (Free (t.link_of x) (t.context_of (open_context p)))
  pub closed : (p : Name) → Closed (t.context_of (closed_context p))
  pub root_is_free : (p : Name) → Free (t.typed_of p).root (t.typed_of p).process
