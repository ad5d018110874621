-- What the listings of an accepted text leave behind.
use Rattle.std.proofs.Common.{◌≡◌, ℕ, ◌≤◌, List, length, Option, Some, Ok, Err, refl, ap, ◌∙◌, subst}
use Rattle.lmn_app_accepted.specs.Rules.{AcceptedTexts}
use Rattle.lmn_base.specs.declared.refusal.Refusal.{Refusal}
use Rattle.lmn_base.specs.declared.rule.Plain.{Plain}
use Rattle.lmn_base.specs.declared.rule.RuleTree.{RuleTree}
use Rattle.lmn_base.specs.Names.{NamesPlain, first_names}
use Rattle.lmn_congruence.specs.Rules.{Name}
use Rattle.lmn_guards.specs.declared.plan.GuardPlan.{GuardPlan}
use Rattle.lmn_instr_code.specs.declared.instr.Code.{Code}
use Rattle.lmn_io.specs.Counts.{Faults}
use Rattle.lmn_io.specs.Writing.{WritesText}
use Rattle.lmn_compile_listing.specs.Listings.{code_listings, rule_codes, rule_listings}
use Rattle.lmn_app_reading.specs.Texts.{IsAcceptedAs, IsRefusedAs, LeavesNames}
use Rattle.lmn_app_single.specs.declared.task.Task.{Task}
use Rattle.lmn_app_single.specs.declared.task.Task.TheVariants as task
use Rattle.lmn_app_single.specs.declared.ending.Ending.TheVariants.{Done, Refused, WriteFault}
use Rattle.lmn_app_single.specs.Outcomes.{Ended}
use Rattle.lmn_app_single.specs.Requests.{most_items}
use Rattle.lmn_app_single.specs.Texts.{Accepts, IsRefusal, by_reading, text_bytes}
use Rattle.lmn_base.specs.Codes.{IsTextCode}
use Rattle.lmn_app_single.specs.Writing.{IsListing}
use Rattle.lmn_app_accepted.proofs.FirstNames.{first_are_names}
use Rattle.lmn_app_single.proofs.OutcomeLemmas.{refused_ended}
use Rattle.lmn_app_single.proofs.TextLemmas.{refusal_code}

-- the list that reading leaves has the names of the plain
pub plain_named : AcceptedTexts → (text : List ℕ) (names : List Name) (plain : Plain) (plans : List GuardPlan) → Accepts text names plain plans → NamesPlain names plain
plain_named accepted_texts text names plain plans a = accepted_texts.named text first_names names plain plans first_are_names a.named a.accepted

module _ (text : List ℕ) (names : List Name) (plain : Plain) (plans : List GuardPlan) (a : Accepts text names plain plans) where
  listing_is : IsListing text (rule_listings names plain.rules plans)
  listing_is = record { names = names; plain = plain; plans = plans; accepted = a; is = refl }

  -- all listings are written
  pub listed_ended : {A E : Type 0} (x : A) (old new : Option (List ℕ)) (ob oa : Faults) (rb ra : ℕ) → WritesText {A = A} {E = E} (rule_listings names plain.rules plans) (Ok x) old ob new oa
      → Ended task.List Done (Some (Some text)) old new ob oa rb ra
  listed_ended x old new ob oa rb ra written =
      record { cause = tt; output = record { text = text; is_told = refl; listing = rule_listings names plain.rules plans; of = listing_is; took = written.took _ refl }; counts = written.same }

  -- the sink failed, and took a prefix
  pub listed_part : {A E : Type 0} (e : E) (old new : Option (List ℕ)) (ob oa : Faults) (rb ra : ℕ) → WritesText {A = A} {E = E} (rule_listings names plain.rules plans) (Err e) old ob new oa
      → Ended task.List WriteFault (Some (Some text)) old new ob oa rb ra
  listed_part e old new ob oa rb ra written =
      record { cause = tt; output = record { text = text; is_told = refl; listing = rule_listings names plain.rules plans; of = listing_is; took = written.prefix _ refl }; counts = written.rose }

-- the text of codes that are those of the rules
pub listing_text : (names : List Name) (table : List RuleTree) (given plans : List GuardPlan) (codes slice : List Code) → slice ≡ codes → codes ≡ rule_codes table given → given ≡ plans
    → code_listings names 0 slice ≡ rule_listings names table plans
listing_text names table given plans codes slice same are is = ap (code_listings names 0) (same ∙ are ∙ ap (rule_codes table) is)

-- what is read of a short text is accepted
pub read_accepts : (text : List ℕ) (before names : List Name) (plain : Plain) (plans : List GuardPlan) → length text ≤ text_bytes → before ≡ first_names → LeavesNames text before names
    → IsAcceptedAs text names plain plans → Accepts text names plain plans
read_accepts text before names plain plans short e named a = record { short = short; named = subst (λ b. LeavesNames text b names) e named; accepted = a }

-- and its refusal is that of the text
pub read_refuses : (size : Option ℕ) (text : List ℕ) (before names : List Name) (r : Refusal) → length text ≤ text_bytes → before ≡ first_names → LeavesNames text before names
    → IsRefusedAs text names r → IsRefusal size text r × IsTextCode r.code
read_refuses size text before names r short e named h =
    let refused = by_reading short names (subst (λ b. LeavesNames text b names) e named) h in
    (refused, refusal_code size text r refused)

-- a task whose text is refused ends so
pub read_refused : (t : Task) (text : List ℕ) (before names : List Name) (r : Refusal) (x : Option (List ℕ)) (n : Faults) (rb ra : ℕ) → length text ≤ text_bytes → before ≡ first_names → LeavesNames text before names
    → IsRefusedAs text names r → Ended t (Refused r) (Some (Some text)) x x n n rb ra
read_refused t text before names r x n rb ra short e named h =
    let refused = read_refuses (most_items t) text before names r short e named h in
    refused_ended t r (Some (Some text)) x n rb ra (record { text = text; is_told = refl; refused = refused.0; code = refused.1 })
