-- Lines with a link that leads through a membrane.
use Rattle.std.proofs.Common.{◌≡◌, ℕ, ◌+◌, ◌==◌, cond, slice_index_or, List, refl, sym, ap, ◌∙◌, subst, inl, inr, ◌⊎◌, arith}
use Rattle.std.specs.Prelude.{Bool, Contains, codes, false, true}
use Rattle.std.specs.declared.alloc.Global.{Global}
use Rattle.lmn_base.specs.declared.rule.Plain.{Plain}
use Rattle.lmn_base.specs.Links.{NumbersLinks, known, new, no_more}
use Rattle.lmn_base.specs.Names.{IsNames}
use Rattle.lmn_congruence.specs.Plains.{level_process}
use Rattle.lmn_congruence.specs.Process.{Closed, Fresh, Local, Process}
use Rattle.lmn_congruence.specs.Regions.{region_process}
use Rattle.lmn_congruence.specs.Rules.{Name}
use Rattle.lmn_congruence.specs.Translation.{level_of, no_such_rule, top_of}
use Rattle.lmn_lexer.specs.Spelling.{byte, nothing}
use Rattle.lmn_flatten_plain.specs.LinkNumbers.{level_links}
use Rattle.lmn_flatten_plain.specs.Numerals.{numeral}
use Rattle.lmn_flatten_plain.specs.SamePlains.{SamePlain}
use Rattle.lmn_flatten_plain.specs.SolidLines.{as_level}
use Rattle.lmn_flatten_plain.specs.Texts.{IsPlainOfText}
use Rattle.lmn_flatten_plain.specs.Words.{line_of}
use Rattle.lmn_flatten_plain.proofs.SolidLines.{no_contexts, same_process}
use Rattle.lmn_flatten_plain.proofs.TextPlains.{lines_read_back, one_text_plain}
use Rattle.lmn_app_runs.specs.Runs.{IsLineOf}
use Rattle.lmn_app.specs.LinkExamples.{LinkLeadsThrough, through}
use Rattle.lmn_app.proofs.OneOutput.{same_rules}

-- two plains of one text have one top
same_tops : (names : List Name) (p q : Plain) → SamePlain p q → top_of names p ≡ top_of names q
same_tops names p q h = λ i. level_of names (λ n. slice_index_or (same_rules names 0 p.rules q.rules h.rules i) n no_such_rule) (h.top i)

-- each link stands twice
closed_through : Closed (region_process (through 0 0))
closed_through x = go (x == 0)
  where
    -- how often a link occurs, by whether it is the one that stands at the two atoms
    go : (same : Bool) → (((cond same 1 0 + 0) + 0) + (((((cond same 1 0 + 0) + 0) + (0 + 0)) + 0) + 0) ≡ 0) ⊎ (((cond same 1 0 + 0) + 0) + (((((cond same 1 0 + 0) + 0) + (0 + 0)) + 0) + 0) ≡ 2)
    go true = inr refl
    go false = inl refl

-- a link that stands once is in no closed process
not_closed : ¬ (Closed (region_process (through 0 1)))
not_closed closed = once (closed 0)
  where
    once : ¬ (Fresh 0 (region_process (through 0 1)) ⊎ Local 0 (region_process (through 0 1)))
    once (inl e) = absurd (omega (arith, e))
    once (inr e) = absurd (omega (arith, e))

module _ (alloc : Global) (names : List Name) (is : IsNames names) (a : Contains names (codes "a")) (b : Contains names (codes "b")) where
  -- the line of such a solid reads back
  back : (x y n : ℕ) → NumbersLinks (level_links (as_level (through x y))) n
      → (p : Plain) × IsPlainOfText (line_of (as_level (through x y))) names p × (top_of names p ≡ as_level (through x y))
  back x y n numbered =
      lines_read_back alloc names (as_level (through x y)) n is
      ((b, tt), (((a, tt), tt, tt, tt, tt), tt), tt, tt, tt)
      (((((codes "b", byte refl nothing)), tt), tt), ((((((codes "a", byte refl nothing)), tt), tt), tt, tt, tt, tt), tt), tt, tt, tt)
      numbered (((tt, tt), tt), tt) (no_contexts (through x y))

  joined_line : IsLineOf names (region_process (through 0 0)) (codes "b(L0). {a(L0)}.\n")
  unfolding numeral
  joined_line =
      let it = back 0 0 1 (new (known (omega arith) no_more)) in
      record { plain = it.0; reads = it.1; process = sym (same_process (through 0 0)) ∙ ap level_process (sym it.2); closed = closed_through }

  no_such_line : (P : Process) → ¬ (IsLineOf names P (codes "b(L0). {a(L1)}.\n"))
  unfolding numeral
  no_such_line P l =
      let it = back 0 1 2 (new (new no_more)) in
      let one = same_tops names l.plain it.0 (one_text_plain (codes "b(L0). {a(L1)}.\n") names l.plain it.0 l.reads it.1) in
      let same : P ≡ region_process (through 0 1) = l.process ∙ ap level_process (one ∙ it.2) ∙ same_process (through 0 1) in
      not_closed (subst Closed same l.closed)

pub link_leads_through : LinkLeadsThrough
link_leads_through alloc names is a b = (joined_line alloc names is a b, no_such_line alloc names is a b)
