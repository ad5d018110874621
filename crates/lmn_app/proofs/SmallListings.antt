-- The listing of a small text.
use Rattle.std.proofs.Common.{◌≡◌, ℕ, ◌+◌, List, [], ◌∷◌, length, sym, ap, arith}
use Rattle.std.specs.Fmt.{digits}
use Rattle.lmn_base.specs.declared.functor.Functor.{Functor}
use Rattle.lmn_base.specs.declared.functor.Label.TheVariants.{Name}
use Rattle.lmn_base.specs.declared.level.Level.TheFolds.{fold-roll-Level}
use Rattle.lmn_solid_heads.specs.declared.items.HeadItem.{HeadItem}
use Rattle.lmn_solid_heads.specs.declared.items.HeadItem.TheVariants as head
use Rattle.lmn_solid_heads.specs.Flattening.{Unnumbered, flatten_step}
use Rattle.lmn_solid_heads.specs.Heads.{membranes_of}
use Rattle.lmn_instr_code.specs.declared.instr.Code.{Code}
use Rattle.lmn_instr_code.specs.declared.instr.Instr.TheVariants.{Commit, FindAtom, NewAtom, Proceed, RemoveAtom}
use Rattle.lmn_instr_code.specs.HeadCode.{head_code}
use Rattle.lmn_compile_head.specs.Accepted.{head_items}
use Rattle.lmn_compile_head.specs.Heads.{kind_in}
use Rattle.lmn_compile_body.specs.Accepted.{rule_body_items, rule_body_names}
use Rattle.lmn_compile_listing.specs.Listings.{code_listings, rule_codes}
use Rattle.lmn_solid_bodies.specs.declared.items.BodyItem.{BodyItem}
use Rattle.lmn_solid_bodies.specs.declared.items.BodyItem.TheVariants as body
use Rattle.lmn_solid_bodies.specs.Code.{body_code}
use Rattle.lmn_solid_bodies.specs.Flattening.{UnnumberedBody, flatten_body_step}
use Rattle.lmn_app.specs.ListingExamples.{SmallTextIsListed, small_listing}
use Rattle.lmn_app.specs.TextExamples.{no_plan, small_names, small_plain, small_rule, small_text}
use Rattle.lmn_app_single.specs.Writing.{IsListing}
use Rattle.lmn_app.proofs.OneListing.{one_listing}
use Rattle.lmn_app.proofs.SmallTexts.{small_text_is_accepted}

-- `a` and `b`
abbrev letter : ℕ → Functor
letter name = record { label = Name name; arity = 0 }

abbrev its_head : List HeadItem
its_head = head.Atom (letter 7) [] 0 ∷ []

abbrev its_body : List BodyItem
its_body = body.Atom (letter 8) [] 0 ∷ []

head_flat : head_items small_rule no_plan ≡ its_head
head_flat = ap (λ u. u.items 0 1) (fold-roll-Level Unnumbered (flatten_step (kind_in no_plan.kinds)) _)

body_flat : rule_body_items small_rule no_plan ≡ its_body
body_flat = ap (λ u. u.items 0 (1 + length (membranes_of (head_items small_rule no_plan)))) (fold-roll-Level UnnumberedBody (flatten_body_step (rule_body_names small_rule no_plan)) _)

abbrev its_code : Code
its_code = record { head = FindAtom 0 0 (letter 7) ∷ Commit ∷ []; body = RemoveAtom 0 ∷ NewAtom 1 0 (letter 8) ∷ Proceed ∷ [] }

its_codes : rule_codes (small_rule ∷ []) (no_plan ∷ []) ≡ its_code ∷ []
its_codes = λ i. record { head = head_code (head_flat i) []; body = body_code (head_flat i) (body_flat i) 0 } ∷ []

listed : IsListing small_text small_listing
unfolding digits
listed = record {
  names = small_names;
  plain = small_plain;
  plans = no_plan ∷ [];
  accepted = small_text_is_accepted;
  is = sym (ap (λ cs. code_listings small_names 0 cs) its_codes);
}

not_empty : ¬ ([] ≡ small_listing)
not_empty e = absurd (omega (arith, ap length e))

pub small_text_is_listed : SmallTextIsListed
small_text_is_listed = (listed, λ l. not_empty (one_listing small_text [] small_listing l listed))
