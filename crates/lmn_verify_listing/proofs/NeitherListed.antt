-- A text is the listings of codes, or it has a line that doesn't stand in its place. It is read from its front on, as far as its lines
-- stand there: whoever denies both is refuted at the first line of which one has to be true.
use Rattle.std.proofs.Common.{◌≡◌, ◌<◌, ◌≤◌, ◌+◌, ◌-◌, ◌*◌, ◌^◌, ◌⊎◌, inl, inr, zero, suc, ℕ, Bool, true, false, eqb, List, [], ◌∷◌, ◌++◌, length, drop, refl, sym, ap, ◌∙◌, subst, arith, true≢false}
use Rattle.std.specs.List.{flat_map}
use Rattle.std.proofs.lemmas.Bool.{cases_lt}
use Rattle.std.proofs.lemmas.Bool.Decides.{Decides-eqb}
use Rattle.std.proofs.lemmas.List.{append-nil, drop_all, length-append, length-drop}
use Rattle.lmn_base.specs.Names.{IsNames}
use Rattle.lmn_instr_code.specs.declared.instr.Code.{Code}
use Rattle.lmn_instr_code.specs.declared.instr.Instr.{Instr}
use Rattle.lmn_instr_code.specs.declared.instr.Instr.TheVariants as instr
use Rattle.lmn_instr_reading.specs.Reading.{AddsNames, NumbersNames}
use Rattle.lmn_instr_reading.proofs.NameLemmas.{adds_more}
use Rattle.lmn_verify_code.specs.Operands.{code_names}
use Rattle.lmn_verify_listing.specs.Lines.{IsLine, IsPlaceOf, IsWrongLine, StandsAs, due_rule, first_line, nothing, rule}
use Rattle.lmn_verify_listing.specs.ListingLaws.{NeitherListedNorWrong}
use Rattle.lmn_verify_listing.specs.Listings.{AreListed, listings_from}
use Rattle.lmn_instr_code.specs.Opcodes.{is_in_head}
use Rattle.lmn_instr_code.specs.Words.{opcode_of}
use Rattle.lmn_verify_listing.specs.Reaching.{AreReadCodes, IsBegun, IsEnded, IsLineEnd, IsReadAt, Reached, due_in, last_of}
use Rattle.lmn_verify_listing.proofs.CodeLemmas.{code_read, codes_more, due_here, due_none, none_read, rule_stands}
use Rattle.lmn_verify_listing.proofs.ReachingLemmas.{begun_more, begun_wrong, ended_more, ends_behind, ends_last, none_begun, nothing_stands, reached_wrong, read_at_is}
use Rattle.lmn_verify_listing.proofs.Relabelled.{Relabelled, relabelled}

-- ---- where a line ends

first_place : (byte : ℕ) (text : List ℕ) → (n : ℕ) × IsPlaceOf byte text n
first_place byte [] = (0, record { within = omega arith; before = tt; there = λ l. absurd (omega (arith, l)) })
first_place byte (b ∷ bs) = by (eqb b byte) (Decides-eqb b byte).0 (Decides-eqb b byte).1 (first_place byte bs)
  where
    by : (t : Bool) → (t ≡ true → b ≡ byte) → (b ≡ byte → t ≡ true) → ((n : ℕ) × IsPlaceOf byte bs n) → (n : ℕ) × IsPlaceOf byte (b ∷ bs) n
    by true is _ p = (0, record { within = omega arith; before = tt; there = λ l. is refl })
    by false _ is p =
        let within = p.1.within in (
          suc p.0,
          record { within = omega (arith, within); before = ((λ e. true≢false (sym (is e))), p.1.before); there = λ l. p.1.there (omega (arith, l)) },
        )

line_ends : (listing : List ℕ) (at : ℕ) → at ≤ length listing → (end : ℕ) × IsLineEnd listing at end
line_ends listing at within = by (first_place 10 (drop at listing))
  where
    by : ((n : ℕ) × IsPlaceOf 10 (drop at listing) n) → (end : ℕ) × IsLineEnd listing at end
    by p = cut (cases_lt p.0 (length (drop at listing)))
      where
        cut : (p.0 < length (drop at listing)) ⊎ (length (drop at listing) ≤ p.0) → (end : ℕ) × IsLineEnd listing at end
        cut (inl l) = (at + p.0 + 1, ends_behind listing (drop at listing) at p.0 (at + p.0 + 1) within refl p.1 l refl)
        cut (inr l) = (length listing, ends_last listing (drop at listing) at p.0 (length listing) within refl p.1 l refl)

-- ---- what is put

at_most : (n : ℕ) (before later : List (List ℕ)) → AddsNames n before later → length later ≤ length before + n
at_most n before later a =
    let size = ap length a.are in
    let two = length-append before a.more in
    let few = a.few in
    omega (arith, size, two, few)

-- ---- the lines

-- the instruction that ends a head or a body is told by its name
is_last : (b : Bool) (i : Instr) → opcode_of i ≡ opcode_of (last_of b) → i ≡ last_of b
is_last true instr.Commit e = refl
is_last true i e = absurd (cc)
is_last false instr.Proceed e = refl
is_last false i e = absurd (cc)

-- a line that stands there is read by the names that are held
read_here : (b : Bool) (text : List ℕ) (at end : ℕ) {names : List (List ℕ)} (l : IsLine b (first_line (drop at text))) (r : Relabelled l.names names l.instr) → IsLineEnd text at end → IsReadAt b r.later text at r.again end
read_here b text at end l r e =
    read_at_is b r.later text (first_line (drop at text)) at r.again end e (sym e.line) (ap is_in_head r.opcode ∙ l.part, r.fits, r.named, r.short, r.text ∙ l.is)

module _ (n : ℕ) (text : List ℕ) (right : (k : ℕ) → ¬ (IsWrongLine n text k)) where
  -- a head or a body is read to its end
  block : (fuel : ℕ) (b : Bool) (j : ℕ) (base names : List (List ℕ)) (from first at ln : ℕ) (instrs : List Instr) → length text - at ≤ fuel → IsNames names → length base + 3 * (length text - from) < 2 ^ 32
      → Reached n text from first (due_in b j) → IsBegun b text base names from first at ln instrs
      → ((later : List (List ℕ)) (at ln : ℕ) (code : List Instr) → IsNames later → IsEnded b text base later from first at ln code → ⊥) → ⊥
  block zero b j base names from first at ln instrs enough once room start begun on =
      (right ln (begun_wrong b text base names from first at ln instrs begun (nothing_stands b text at (omega (arith, enough))) n j start).wrong)
  block (suc m) b j base names from first at ln instrs enough once room start begun on =
      let within = begun.read.within in
      let many = at_most (3 * (at - from)) base names begun.read.puts in
      let few = begun.read.few in
      let free : length names < 2 ^ 32 = omega (arith, many, few, within, room) in
      let stands : IsLine b (first_line (drop at text)) → ⊥ =
      λ l.
      let r = relabelled l.names names once free l.instr l.fits l.short in
      let e = line_ends text at within in
      let h = read_here b text at e.0 l r e.1 in
      let forth = h.forth in
      let next : (opcode_of r.again ≡ opcode_of (last_of b) → ⊥) → ⊥ =
      λ differs. block m b j base r.later from first e.0 (ln + 1) (instrs ++ r.again ∷ []) (omega (arith, enough, forth)) r.once room start (begun_more b text base names r.later from first at ln e.0 instrs r.again begun r.adds r.order h differs) on in
      next (λ same. on r.later e.0 (ln + 1) (instrs ++ r.again ∷ []) r.once (ended_more b text base names r.later from first at ln e.0 instrs r.again begun r.adds r.order h (is_last b r.again same))) in
      right ln (begun_wrong b text base names from first at ln instrs begun stands n j start).wrong

  -- the listings of the codes of so many rules more
  listings : (todo : ℕ) (base names : List (List ℕ)) (j at ln : ℕ) (cs : List Code) → j + todo ≡ n → IsNames names → length base + 3 * length text < 2 ^ 32 → AreReadCodes n text base names j at ln cs
      → ((later : List (List ℕ)) (codes : List Code) → AddsNames (3 * length text) base later → IsNames later → AreListed n later codes text → NumbersNames base (flat_map code_names codes) later → ⊥) → ⊥
  listings zero base names j at ln cs all once room r on = ended (cases_lt at (length text))
    where
      last : j ≡ n
      last = omega (arith, all)

      reached : Reached n text at ln nothing
      reached = subst (Reached n text at ln) (ap (due_rule n) last ∙ due_none n) r.reached

      ended : (at < length text) ⊎ (length text ≤ at) → ⊥
      ended (inl l) =
          let size = length-drop at text in
          right ln (reached_wrong n text at ln nothing reached (λ h. h) (λ _ e. let none = ap length e in omega (arith, size, none, l)))
      ended (inr l) =
          let within = r.within in
          on names cs (adds_more (3 * at) (3 * length text) base names (omega (arith, within)) r.puts) once (record {
            many = r.many ∙ last;
            whole = r.whole;
            named = r.named;
            plain = r.plain;
            are = sym (append-nil (listings_from names 0 cs)) ∙ ap (λ t. listings_from names 0 cs ++ t) (sym (drop_all at text l)) ∙ r.text;
          }) r.order
  listings (suc todo) base names j at ln cs all once room r on =
      let below : j < n = omega (arith, all) in
      let reached : Reached n text at ln (rule j) = subst (Reached n text at ln) (due_here n j below) r.reached in
      let stands : StandsAs (rule j) (first_line (drop at text)) → ⊥ =
      λ h.
      let e = line_ends text at r.within in
      let same = sym e.1.line in
      let start = rule_stands n text (first_line (drop at text)) j at ln e.0 e.1 same h reached in
      let back = e.1.back in
      let many = at_most (3 * at) base names r.puts in
      block (length text) true j names names e.0 (ln + 1) e.0 (ln + 1) [] (omega arith) once (omega (arith, back, many, room)) start (none_begun true text names e.0 (ln + 1) e.1.within) (λ later at' ln' heads once' head.
      let more = at_most (3 * (at' - e.0)) names later head.read.puts in
      let few = head.read.few in
      let within = head.read.within in
      block (length text) false j later later at' ln' at' ln' [] (omega arith) once' (omega (arith, back, many, more, few, within, room)) (head.reached n j start) (none_begun false text later at' ln' head.read.within) (λ final at'' ln'' bodies once'' body.
      listings todo base final (j + 1) at'' ln'' (cs ++ record { head = heads; body = bodies } ∷ []) (omega (arith, all)) once'' room
      (codes_more n text base names final j at ln at'' ln'' cs (record { head = heads; body = bodies }) r below
      (code_read text (first_line (drop at text)) names later final j at ln e.0 at' ln' at'' ln'' (record { head = heads; body = bodies }) e.1 same h head body)) on)) in
      right ln (reached_wrong n text at ln (rule j) reached stands (λ e. absurd (cc)))

-- each text is the listings of codes, or has a line that doesn't stand in its place
pub no_listing_is_neither : NeitherListedNorWrong
no_listing_is_neither n names text once room neither =
    listings n text neither.1 n names names 0 0 1 [] (omega arith) once room (none_read n text names) neither.0
