-- The plain of an accepted text is one of which runs can be printed.
use Rattle.std.proofs.Common.{◌≡◌, ℕ, true, List, refl, sym, subst}
use Rattle.lmn_app_accepted.specs.Rules.{AcceptedTexts}
use Rattle.lmn_base.specs.declared.rule.Plain.{Plain}
use Rattle.lmn_base.specs.Names.{first_names}
use Rattle.lmn_adequacy_heaps.specs.HeapRegions.{HeapReading}
use Rattle.lmn_congruence.specs.Rules.{Name}
use Rattle.lmn_congruence.specs.Translation.{numbered_rule}
use Rattle.lmn_flatten.specs.NameLists.{has_name}
use Rattle.lmn_guards.specs.declared.plan.GuardPlan.{GuardPlan}
use Rattle.lmn_lexer.specs.declared.token.Kind.{Kind}
use Rattle.lmn_lexer.specs.declared.token.Kind.TheVariants as kind
use Rattle.lmn_app_reading.proofs.ListedNames.{HoldsNames, names_held}
use Rattle.lmn_app_runs.specs.Texts.{HasName, IsPlainRead}
use Rattle.lmn_app_reading.specs.Texts.{IsAcceptedAs, LeavesNames}
use Rattle.lmn_app_accepted.proofs.FirstNames.{first_are_names}

named_kind : (k : Kind) → HasName k → has_name k ≡ true
named_kind kind.Name h = refl
named_kind kind.Quoted h = refl
named_kind kind.Mod h = refl
named_kind kind.Context h = refl
named_kind kind.RuleCtx h = refl
named_kind _ h = absurd h

module _ (accepted_texts : AcceptedTexts) (text : List ℕ) (names : List Name) (plain : Plain) (plans : List GuardPlan) (left : LeavesNames text first_names names) (r : IsAcceptedAs text names plain plans) where
  -- its plain is read so that runs of it can be printed
  pub plain_read : IsPlainRead text names plain
  plain_read =
      let reads = r.reads in
      let named = accepted_texts.named text first_names names plain plans first_are_names left r in
      let P : List Name → Type 0 = HoldsNames text reads.tokens in
      let held = subst P (sym (left reads.tokens reads.tree reads.right reads.reads reads.within)) (names_held text reads.tokens first_names first_are_names) in
      let reading : HeapReading = record { name = λ m i. 0; names = names; rule = numbered_rule names plain.rules } in
      record {
        tokens = reads.tokens;
        tree = reads.tree;
        right = reads.right;
        reads = reads.reads;
        is_plain = reads.is_plain;
        made = accepted_texts.made text names plain plans r;
        named = named;
        holds = record { cell = held.cell; empty = held.empty; plus = held.plus; equals = held.equals; token = λ p t e h. held.token p t e (named_kind t.kind h) };
        accepted = λ k t e. let rule = accepted_texts.tree text first_names names plain plans first_are_names left r reading refl k t e in rule.accepted;
      }
