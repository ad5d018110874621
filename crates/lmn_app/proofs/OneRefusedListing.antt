-- A listing beside a program is read or refused, not both, and it is refused in one way.
use Rattle.std.proofs.Common.{◌≡◌, ◌∙◌, ◌+◌, ◌*◌, ◌<◌, ◌≤◌, ◌^◌, ◌⊎◌, inl, inr, ℕ, suc, List, [], ◌∷◌, length, take, refl, sym, ap, subst, arith}
use Rattle.std.specs.List.{AllByRecursion, flat_map}
use Rattle.std.proofs.lemmas.Bool.{cases_lt}
use Rattle.lmn_app_accepted.proofs.PlanKinds.{at_index}
use Rattle.lmn_app_accepted.specs.Loading.{AcceptedAreNamed}
use Rattle.lmn_base.specs.declared.refusal.Refusal.{Refusal}
use Rattle.lmn_base.specs.declared.rule.Plain.{Plain}
use Rattle.lmn_base.specs.Names.{IsNames}
use Rattle.lmn_congruence.specs.Rules.{Name}
use Rattle.lmn_instr_reading.specs.Reading.{AddsNames, NumbersNames}
use Rattle.lmn_instr_reading.proofs.NameLemmas.{adds_none}
use Rattle.lmn_guards.specs.declared.plan.GuardPlan.{GuardPlan}
use Rattle.lmn_instr_code.specs.declared.instr.Code.{Code}
use Rattle.lmn_verify_compiled.specs.Laws.{AcceptedCanBeListed, AcceptedNamesAreFew}
use Rattle.lmn_app_reading.proofs.OneRead.{one_acceptance}
use Rattle.lmn_verify_compiled.specs.OneReading.{ListedCodesAreOne, ListedNamesAreOne}
use Rattle.lmn_verify_listing.specs.Lines.{IsWrongLine}
use Rattle.lmn_verify_listing.specs.ListingLaws.{ListedLinesStand, NeitherListedNorWrong, WrongLineIsOne}
use Rattle.lmn_verify_listing.specs.Listings.{AreListed, IsFirstUnverified, IsRefusedListing, lines_of, lines_of_all, not_a_listing, not_verified}
use Rattle.lmn_verify_code.specs.Operands.{code_names}
use Rattle.lmn_verify_code.specs.Verified.{IsVerified}
use Rattle.lmn_app.specs.ExecLaws.{OneWrongListing, ReadNotRefused, NeitherReadNorRefused}
use Rattle.lmn_app.specs.Executions.{IsWrongListing, ReadsCodes}
use Rattle.lmn_app_single.specs.Texts.{Accepts}
use Rattle.lmn_app.proofs.OneOutput.{as_many}
use Rattle.lmn_app.proofs.TextLemmas.{accepted_at, one_list}
use Rattle.lmn_base.proofs.Lists.{take_slice as taken_there}

-- ---- the first code that isn't verified

module _ (n : ℕ) (cs : List Code) where
  not_before : (j k : ℕ) (f : IsFirstUnverified n cs j) (g : IsFirstUnverified n cs k) → f.rule ≤ g.rule
  not_before j k f g = by (cases_lt g.rule f.rule)
    where
      by : (g.rule < f.rule) ⊎ (f.rule ≤ g.rule) → f.rule ≤ g.rule
      by (inr few) = few
      by (inl l) = absurd (g.unverified (at_index (λ c. IsVerified c n) (take f.rule cs) g.rule g.code f.earlier (taken_there f.rule cs g.rule g.code l g.is)))

  one_first : (j k : ℕ) → IsFirstUnverified n cs j → IsFirstUnverified n cs k → j ≡ k
  one_first j k f g =
      let same : f.rule ≡ g.rule = omega (arith, not_before j k f g, not_before k j g f) in
      f.number ∙ ap (λ r. 1 + lines_of_all (take r cs)) same ∙ sym g.number

-- ---- a listing beside a program, twice

-- what they stand on
pub record Grounds : Type 0 where
  pub listed : AcceptedCanBeListed
  pub codes : ListedCodesAreOne
  pub names : ListedNamesAreOne
  pub stand : ListedLinesStand
  pub line : WrongLineIsOne

-- a program, and a list of names for the listing
record Beside (program listing : List ℕ) : Type 0 where
  pub names : List Name
  pub plain : Plain
  pub plans : List GuardPlan
  pub accepted : Accepts program names plain plans
  pub later : List Name
  pub adds : AddsNames (3 * length listing) names later
  pub once : IsNames later

abbrev of_read : {program listing : List ℕ} → ReadsCodes program listing → Beside program listing
of_read r = record { names = r.names; plain = r.plain; plans = r.plans; accepted = r.accepted; later = r.later; adds = r.adds; once = r.once }

abbrev of_wrong : {program listing : List ℕ} {refusal : Refusal} → IsWrongListing program listing refusal → Beside program listing
of_wrong w = record { names = w.names; plain = w.plain; plans = w.plans; accepted = w.accepted; later = w.later; adds = w.adds; once = w.once }

module _ (on : Grounds) (program listing : List ℕ) where
  -- its rules have numbers of 32 bits
  few_rules : (x : Beside program listing) → length x.plain.rules < 2 ^ 32
  few_rules x =
      let a = x.accepted in
      let short = a.short in
      let can = on.listed program x.names x.plain x.plans (omega (arith, short)) a.named a.accepted in
      can.few

  module _ (x y : Beside program listing) where
    begun : y.names ≡ x.names
    begun =
        let a = x.accepted in
        let b = y.accepted in
        one_list program y.names x.names y.plain b.named a.named b.accepted.reads

    many : length y.plain.rules ≡ length x.plain.rules
    many =
        let a = x.accepted in
        let b = y.accepted in
        let one = one_acceptance program y.names x.plain y.plain x.plans y.plans (accepted_at program x.names y.names x.plain x.plans a.named b.named a.accepted) b.accepted in
        let plain = one.plain in
        sym (as_many x.plain.rules y.plain.rules plain.rules)

    -- codes that it is the listings of, with their names in order, are one
    one_codes : (cs ds : List Code) → AreListed (length x.plain.rules) x.later cs listing → NumbersNames x.names (flat_map code_names cs) x.later
        → AreListed (length y.plain.rules) y.later ds listing → NumbersNames y.names (flat_map code_names ds) y.later → ds ≡ cs
    one_codes cs ds l o m p =
        let n = length x.plain.rules in
        let once = x.once in
        let again = y.once in
        let told : AreListed n y.later ds listing = subst (λ k. AreListed k y.later ds listing) many m in
        let names : x.later ≡ y.later =
        on.names n (3 * length listing) (3 * length listing) x.names x.later y.later cs ds listing (few_rules x) once.once again.once x.adds
        (subst (λ ns. AddsNames (3 * length listing) ns y.later) begun y.adds) o (subst (λ ns. NumbersNames ns (flat_map code_names ds) y.later) begun p) l told in
        on.codes n x.later ds cs listing (few_rules x) once.once (subst (λ ns. AreListed n ns ds listing) (sym names) told) l

    -- codes that are verified aren't refused
    read_not_refused_so : (cs : List Code) → AreListed (length x.plain.rules) x.later cs listing → NumbersNames x.names (flat_map code_names cs) x.later
        → AllByRecursion (λ c. IsVerified c (length x.plain.rules)) cs → {code line : ℕ} → IsRefusedListing (length y.plain.rules) y.names y.later listing code line → ⊥
    read_not_refused_so cs l o all {line = k} (not_a_listing w) = on.stand (length x.plain.rules) x.later cs listing k (few_rules x) l (subst (λ n. IsWrongLine n listing k) many w)
    read_not_refused_so cs l o all (not_verified ds m p f) =
        let verified = subst (λ n. AllByRecursion (λ c. IsVerified c n) ds) (sym many) (subst (AllByRecursion (λ c. IsVerified c (length x.plain.rules))) (sym (one_codes cs ds l o m p)) all) in
        f.unverified (at_index (λ c. IsVerified c (length y.plain.rules)) ds f.rule f.code verified f.is)

    -- and a refusal is one
    refused_once : {code line other next : ℕ} → IsRefusedListing (length x.plain.rules) x.names x.later listing code line → IsRefusedListing (length y.plain.rules) y.names y.later listing other next
        → (code ≡ other) × (line ≡ next)
    refused_once {line = j} {next = k} (not_a_listing v) (not_a_listing w) = (refl, on.line (length x.plain.rules) listing j k v (subst (λ n. IsWrongLine n listing k) many w))
    refused_once {line = j} (not_a_listing v) (not_verified ds m p g) = absurd (on.stand (length y.plain.rules) y.later ds listing j (few_rules y) m (subst (λ n. IsWrongLine n listing j) (sym many) v))
    refused_once {next = k} (not_verified cs l o f) (not_a_listing w) = absurd (on.stand (length x.plain.rules) x.later cs listing k (few_rules x) l (subst (λ n. IsWrongLine n listing k) many w))
    refused_once {line = j} {next = k} (not_verified cs l o f) (not_verified ds m p g) = (
      refl,
      one_first (length x.plain.rules) cs j k f (subst (λ n. IsFirstUnverified n cs k) many (subst (λ es. IsFirstUnverified (length y.plain.rules) es k) (one_codes cs ds l o m p) g)),
    )

  -- ---- the laws

  -- a listing that is read isn't refused
  read_not_refused : (refusal : Refusal) → ReadsCodes program listing → IsWrongListing program listing refusal → ⊥
  read_not_refused refusal r w = read_not_refused_so (of_read r) (of_wrong w) r.codes r.are r.order r.verified w.wrong

  one_wrong_listing : (refusal other : Refusal) → IsWrongListing program listing refusal → IsWrongListing program listing other → refusal ≡ other
  one_wrong_listing refusal other v w =
      let one = refused_once (of_wrong v) (of_wrong w) v.wrong w.wrong in
      let column = v.first ∙ sym w.first in
      λ i. record { code = one.0 i; pos = record { line = one.1 i; column = column i } }

-- a listing that is read beside a program isn't refused beside it
pub read_is_not_refused : Grounds → ReadNotRefused
read_is_not_refused on program listing refusal r w = read_not_refused on program listing refusal r w

-- and it is refused in one way
pub refused_in_one_way : Grounds → OneWrongListing
refused_in_one_way on program listing refusal other v w = one_wrong_listing on program listing refusal other v w

-- ---- a listing beside a program is read or refused

-- each of the codes is verified, or there is a first that isn't
verified_or_first : (n : ℕ) (cs : List Code) → ((k : ℕ) → ¬ (IsFirstUnverified n cs k)) → ¬ (¬ (AllByRecursion (λ c. IsVerified c n) cs))
verified_or_first n [] first all = all tt
verified_or_first n (c ∷ cs) first all =
    let unverified : IsVerified c n → ⊥ =
    λ v. verified_or_first n cs (λ k f.
    let number = f.number in
    first (lines_of c + k) (record { rule = suc f.rule; code = f.code; is = f.is; unverified = f.unverified; earlier = (v, f.earlier); number = omega (arith, number) })) (λ h. all (v, h)) in
    first 1 (record { rule = 0; code = c; is = refl; unverified = unverified; earlier = tt; number = refl })

-- so a listing that isn't too long is read beside an accepted program, or refused
pub neither_read_nor_refused : NeitherListedNorWrong → AcceptedNamesAreFew → AcceptedAreNamed → NeitherReadNorRefused
neither_read_nor_refused listed few named program listing (names, plain, plans, a, fits) short neither =
    listed (length plain.rules) names listing once room (
      (λ later codes adds whole are order.
          verified_or_first (length plain.rules) codes (λ k first. refused 82 k later adds whole (not_verified codes are order first)) (λ all.
          neither.0 (record { names = names; plain = plain; plans = plans; accepted = a; later = later; adds = adds; once = whole; codes = codes; order = order; are = are; verified = all }))),
      λ k wrong.
          refused 81 k names (adds_none (3 * length listing) names) once (not_a_listing wrong),
    )
  where
    once : IsNames names
    once =
        let known = named program names plain plans a.named a.accepted in
        known.begins

    room : length names + 3 * length listing < 2 ^ 32
    room =
        let many = few program names plain plans a.named a.accepted in
        let small = a.short in
        omega (arith, many, small, short)

    refused : (code k : ℕ) (later : List Name) → AddsNames (3 * length listing) names later → IsNames later → IsRefusedListing (length plain.rules) names later listing code k → ⊥
    refused code k later adds whole wrong =
        neither.1 (record { code = code; pos = record { line = k; column = 1 } })
        (record { names = names; plain = plain; plans = plans; accepted = a; later = later; adds = adds; once = whole; wrong = wrong; first = refl })
