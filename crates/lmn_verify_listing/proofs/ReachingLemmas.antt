-- Lines that stand in their places, one after the other.
use Rattle.std.proofs.Common.{◌≡◌, ◌≢◌, ◌<◌, ◌≤◌, ◌+◌, ◌-◌, ◌*◌, ◌⊎◌, inl, inr, zero, suc, ℕ, Bool, true, false, if◌then◌else◌, eqb, List, [], ◌∷◌, ◌++◌, length, get_or, drop, take, refl, sym, ap, ◌∙◌, subst, arith}
use Rattle.std.specs.Prelude.{codes, bytes_eq}
use Rattle.std.specs.List.{flat_map}
use Rattle.std.proofs.lemmas.Bool.Decides.{Decides-eqb}
use Rattle.std.proofs.lemmas.List.{append_assoc, append-nil, length_push, length-drop, take-append-drop, drop_all, take_more, take_all, drop-drop}
use Rattle.std.proofs.lemmas.List.Concat.{flat_map-append}
use Rattle.std.proofs.Math.Seq.{take-add}
use Rattle.lmn_base.specs.declared.refusal.Refusal.{Refusal}
use Rattle.lmn_base.proofs.Lists.{all_append}
use Rattle.lmn_instr_code.specs.declared.instr.Instr.{Instr}
use Rattle.lmn_instr_code.specs.declared.instr.Instr.TheVariants as instr
use Rattle.lmn_instr_code.specs.Words.{mnemonic, operands, opcode_of}
use Rattle.lmn_instr_code.specs.Listings.{line, HasInstr, operands_text}
use Rattle.lmn_verify_code.specs.Operands.{instr_names}
use Rattle.lmn_instr_reading.specs.Reading.{AddsNames, NumbersNames}
use Rattle.lmn_instr_code.specs.Opcodes.{is_in_head}
use Rattle.lmn_instr_code.specs.declared.opcode.Opcode.TheVariants as opcode
use Rattle.lmn_verify_listing.specs.Lines.{Due, head, body, nothing, due_rule, due_behind, StandsAs, Stand, HasNo, IsPlaceOf, IsLine, HasShortNames, FitsInstr, IsWholeLine, joined_lines, first_line, IsWrongLine}
use Rattle.lmn_verify_listing.specs.Reaching.{Reached, IsLineEnd, IsReadAt, AreRead, IsBegun, IsEnded, IsRefusedLine, due_in, due_out, last_of}
use Rattle.lmn_instr_reading.proofs.NameLemmas.{adds_both, adds_none, adds_more as adds_fewer, numbers_same}
use Rattle.lmn_verify_listing.proofs.LineLemmas.{more_instrs}
use Rattle.lmn_base.proofs.Common.{numbers_both}

-- ---- where a line ends

-- the first line of a text is what stands up to the first line feed, with it,
first_line_cut : (text : List ℕ) (n : ℕ) → HasNo 10 (take n text) → n < length text → get_or text n 0 ≡ 10 → first_line text ≡ take (suc n) text
first_line_cut [] n h l e = absurd (omega (arith, l))
first_line_cut (b ∷ bs) zero h l e = ap (λ t. if t then b ∷ [] else b ∷ first_line bs) ((Decides-eqb b 10).1 e)
first_line_cut (b ∷ bs) (suc n) h l e = go (eqb b 10) (Decides-eqb b 10).0 (first_line_cut bs n h.1 (omega (arith, l)) e)
  where
    go : (t : Bool) → (t ≡ true → b ≡ 10) → first_line bs ≡ take (suc n) bs → (if t then b ∷ [] else b ∷ first_line bs) ≡ b ∷ take (suc n) bs
    go true is h2 = absurd (h.0 (is refl))
    go false is h2 = ap (λ t. b ∷ t) h2

-- or all of it where there is none
first_line_all : (text : List ℕ) → HasNo 10 text → first_line text ≡ text
first_line_all [] h = refl
first_line_all (b ∷ bs) h = go (eqb b 10) (Decides-eqb b 10).0 (first_line_all bs h.1)
  where
    go : (t : Bool) → (t ≡ true → b ≡ 10) → first_line bs ≡ bs → (if t then b ∷ [] else b ∷ first_line bs) ≡ b ∷ bs
    go true is all = absurd (h.0 (is refl))
    go false is all = ap (λ t. b ∷ t) all

-- the line ends behind the first line feed
pub ends_behind : (listing rest : List ℕ) (at n end : ℕ) → at ≤ length listing → rest ≡ drop at listing → IsPlaceOf 10 rest n → n < length rest → end ≡ at + n + 1 → IsLineEnd listing at end
ends_behind listing rest at n end l e p m is =
    let size : length rest ≡ length listing - at = ap length e ∙ length-drop at listing in
    let wide : end - at ≡ n + 1 = omega arith in
    let there : get_or rest n 0 ≡ 10 = p.there m in
    let one : suc n ≡ n + 1 = omega arith in
    let cut : take (end - at) (drop at listing) ≡ take (n + 1) rest = (λ j. take (wide j) (sym e j)) in
    record {
      back = omega arith;
      within = omega arith;
      forth = λ w. omega arith;
      line = cut ∙ sym (first_line_cut rest n p.before m there ∙ ap (λ k. take k rest) one) ∙ ap first_line e;
      whole = inl (take n rest, p.before, sym (cut ∙ take_more rest n 0 m ∙ ap (λ z. take n rest ++ z ∷ []) there));
    }

-- or with the listing
pub ends_last : (listing rest : List ℕ) (at n end : ℕ) → at ≤ length listing → rest ≡ drop at listing → IsPlaceOf 10 rest n → length rest ≤ n → end ≡ length listing → IsLineEnd listing at end
ends_last listing rest at n end l e p m is =
    let size : length rest ≡ length listing - at = ap length e ∙ length-drop at listing in
    let wide : length rest ≤ end - at = omega arith in
    let cut : take (end - at) (drop at listing) ≡ rest = ap (take (end - at)) (sym e) ∙ take_all (end - at) rest wide in
    let none : HasNo 10 rest = subst (HasNo 10) (take_all n rest m) p.before in
    record {
      back = omega arith;
      within = omega arith;
      forth = λ w. omega arith;
      line = cut ∙ sym (first_line_all rest none) ∙ ap first_line e;
      whole = inr (subst (HasNo 10) (sym cut) none);
    }

-- ---- lines in their places

stand_more : (n : ℕ) (d e : Due) (ls : List (List ℕ)) (l : List ℕ) → Stand n d ls e → StandsAs e l → Stand n d (ls ++ l ∷ []) (due_behind n e l)
stand_more n d e [] l s h = (subst (λ x. StandsAs x l) (sym s) h, ap (λ x. due_behind n x l) s)
stand_more n d e (k ∷ ls) l s h = (s.0, stand_more n (due_behind n d k) e ls l s.1 h)

joined_more : (ls : List (List ℕ)) (l : List ℕ) → joined_lines (ls ++ l ∷ []) ≡ joined_lines ls ++ l
joined_more [] l = append-nil l
joined_more (k ∷ ls) l = ap (λ t. k ++ t) (joined_more ls l) ∙ sym (append_assoc k (joined_lines ls) l)

-- before the first line that of rule 0 is due, or none
pub reached_first : (n : ℕ) (listing : List ℕ) → Reached n listing 0 1 (due_rule n 0)
reached_first n listing = record { before = []; whole = tt; stand = refl; cut = refl; within = omega arith; number = refl }

-- one line more
pub reached_more : (n : ℕ) (listing : List ℕ) (at line_number end : ℕ) (due : Due) (text : List ℕ) → Reached n listing at line_number due → StandsAs due text → IsWholeLine text
    → at ≤ end → end ≤ length listing → text ≡ take (end - at) (drop at listing) → Reached n listing end (line_number + 1) (due_behind n due text)
reached_more n listing at line_number end due text r h w forth within is = record {
  before = r.before ++ text ∷ [];
  whole = all_append IsWholeLine r.before (text ∷ []) r.whole (w, tt);
  stand = stand_more n (due_rule n 0) due r.before text r.stand h;
  cut =
      let both : at + (end - at) ≡ end = omega arith in
      joined_more r.before text ∙ (λ j. r.cut j ++ is j) ∙ sym (take-add at (end - at) listing) ∙ ap (λ m. take m listing) both;
  within = within;
  number = ap (λ m. m + 1) r.number ∙ ap (λ m. m + 1) (sym (length_push r.before text));
}

-- a line that doesn't stand there
pub reached_wrong : (n : ℕ) (listing : List ℕ) (at line_number : ℕ) (due : Due) → Reached n listing at line_number due → (StandsAs due (first_line (drop at listing)) → ⊥) → (due ≡ nothing → drop at listing ≢ [])
    → IsWrongLine n listing line_number
reached_wrong n listing at line_number due r wrong more = record {
  before = r.before;
  whole = r.whole;
  due = due;
  stand = r.stand;
  rest = drop at listing;
  cut = ap (λ t. t ++ drop at listing) r.cut ∙ take-append-drop at listing;
  wrong = wrong;
  more = more;
  number = r.number;
}

-- ---- lines of instructions

-- the line of an instruction other than COMMIT isn't that of COMMIT
other_than_commit : (ns : List (List ℕ)) (i : Instr) → (opcode_of i ≡ opcode.Commit → ⊥) → bytes_eq (line ns i) (codes "  COMMIT\n") ≡ false
other_than_commit ns (instr.FindAtom _ _ _) n = refl
other_than_commit ns (instr.Deref _ _ _) n = refl
other_than_commit ns (instr.Func _ _) n = refl
other_than_commit ns (instr.InMem _ _) n = refl
other_than_commit ns (instr.NeqAtom _ _) n = refl
other_than_commit ns (instr.Joined _ _) n = refl
other_than_commit ns (instr.NotIn _ _) n = refl
other_than_commit ns (instr.AnyMem _ _) n = refl
other_than_commit ns (instr.NeqMem _ _) n = refl
other_than_commit ns (instr.IsInt _ _ _) n = refl
other_than_commit ns (instr.IsUnary _ _ _) n = refl
other_than_commit ns (instr.IsGround _ _ _) n = refl
other_than_commit ns (instr.NAtoms _ _ _) n = refl
other_than_commit ns (instr.NMems _ _) n = refl
other_than_commit ns (instr.NoRules _) n = refl
other_than_commit ns (instr.IsClosed _ _) n = refl
other_than_commit ns (instr.EqGround _ _) n = refl
other_than_commit ns (instr.NeqGround _ _) n = refl
other_than_commit ns (instr.GetInt _ _) n = refl
other_than_commit ns (instr.Const _ _) n = refl
other_than_commit ns (instr.Add _ _ _) n = refl
other_than_commit ns (instr.Sub _ _ _) n = refl
other_than_commit ns (instr.Mul _ _ _) n = refl
other_than_commit ns (instr.Div _ _ _) n = refl
other_than_commit ns (instr.Mod _ _ _) n = refl
other_than_commit ns (instr.Lt _ _) n = refl
other_than_commit ns (instr.Le _ _) n = refl
other_than_commit ns (instr.Gt _ _) n = refl
other_than_commit ns (instr.Ge _ _) n = refl
other_than_commit ns (instr.Eq _ _) n = refl
other_than_commit ns (instr.Ne _ _) n = refl
other_than_commit ns instr.Commit n = absurd (n refl)
other_than_commit ns (instr.RemoveAtom _) n = refl
other_than_commit ns (instr.RemovePart _) n = refl
other_than_commit ns (instr.RemoveMem _) n = refl
other_than_commit ns (instr.NewAtom _ _ _) n = refl
other_than_commit ns (instr.NewInt _ _ _) n = refl
other_than_commit ns (instr.NewMem _ _) n = refl
other_than_commit ns (instr.CopyGround _ _ _) n = refl
other_than_commit ns (instr.MoveCells _ _) n = refl
other_than_commit ns (instr.CopyCells _ _) n = refl
other_than_commit ns (instr.LoadRule _ _) n = refl
other_than_commit ns (instr.CopyRules _ _) n = refl
other_than_commit ns (instr.DropCells _) n = refl
other_than_commit ns (instr.NewLink _ _) n = refl
other_than_commit ns (instr.Relink _ _) n = refl
other_than_commit ns (instr.Unify _ _) n = refl
other_than_commit ns instr.Proceed n = refl

-- the line of an instruction other than PROCEED isn't that of PROCEED
other_than_proceed : (ns : List (List ℕ)) (i : Instr) → (opcode_of i ≡ opcode.Proceed → ⊥) → bytes_eq (line ns i) (codes "  PROCEED\n") ≡ false
other_than_proceed ns (instr.FindAtom _ _ _) n = refl
other_than_proceed ns (instr.Deref _ _ _) n = refl
other_than_proceed ns (instr.Func _ _) n = refl
other_than_proceed ns (instr.InMem _ _) n = refl
other_than_proceed ns (instr.NeqAtom _ _) n = refl
other_than_proceed ns (instr.Joined _ _) n = refl
other_than_proceed ns (instr.NotIn _ _) n = refl
other_than_proceed ns (instr.AnyMem _ _) n = refl
other_than_proceed ns (instr.NeqMem _ _) n = refl
other_than_proceed ns (instr.IsInt _ _ _) n = refl
other_than_proceed ns (instr.IsUnary _ _ _) n = refl
other_than_proceed ns (instr.IsGround _ _ _) n = refl
other_than_proceed ns (instr.NAtoms _ _ _) n = refl
other_than_proceed ns (instr.NMems _ _) n = refl
other_than_proceed ns (instr.NoRules _) n = refl
other_than_proceed ns (instr.IsClosed _ _) n = refl
other_than_proceed ns (instr.EqGround _ _) n = refl
other_than_proceed ns (instr.NeqGround _ _) n = refl
other_than_proceed ns (instr.GetInt _ _) n = refl
other_than_proceed ns (instr.Const _ _) n = refl
other_than_proceed ns (instr.Add _ _ _) n = refl
other_than_proceed ns (instr.Sub _ _ _) n = refl
other_than_proceed ns (instr.Mul _ _ _) n = refl
other_than_proceed ns (instr.Div _ _ _) n = refl
other_than_proceed ns (instr.Mod _ _ _) n = refl
other_than_proceed ns (instr.Lt _ _) n = refl
other_than_proceed ns (instr.Le _ _) n = refl
other_than_proceed ns (instr.Gt _ _) n = refl
other_than_proceed ns (instr.Ge _ _) n = refl
other_than_proceed ns (instr.Eq _ _) n = refl
other_than_proceed ns (instr.Ne _ _) n = refl
other_than_proceed ns instr.Commit n = refl
other_than_proceed ns (instr.RemoveAtom _) n = refl
other_than_proceed ns (instr.RemovePart _) n = refl
other_than_proceed ns (instr.RemoveMem _) n = refl
other_than_proceed ns (instr.NewAtom _ _ _) n = refl
other_than_proceed ns (instr.NewInt _ _ _) n = refl
other_than_proceed ns (instr.NewMem _ _) n = refl
other_than_proceed ns (instr.CopyGround _ _ _) n = refl
other_than_proceed ns (instr.MoveCells _ _) n = refl
other_than_proceed ns (instr.CopyCells _ _) n = refl
other_than_proceed ns (instr.LoadRule _ _) n = refl
other_than_proceed ns (instr.CopyRules _ _) n = refl
other_than_proceed ns (instr.DropCells _) n = refl
other_than_proceed ns (instr.NewLink _ _) n = refl
other_than_proceed ns (instr.Relink _ _) n = refl
other_than_proceed ns (instr.Unify _ _) n = refl
other_than_proceed ns instr.Proceed n = absurd (n refl)

-- what is due behind an instruction that doesn't end a head or a body,
pub stays : (b : Bool) (n j : ℕ) (ns : List (List ℕ)) (i : Instr) → (opcode_of i ≡ opcode_of (last_of b) → ⊥) → due_behind n (due_in b j) (line ns i) ≡ due_in b j
stays true n j ns i o = ap (λ t. if t then body j else head j) (other_than_commit ns i o)
stays false n j ns i o = ap (λ t. if t then due_rule n (j + 1) else body j) (other_than_proceed ns i o)

-- and behind the one that does
pub goes_out : (b : Bool) (n j : ℕ) (ns : List (List ℕ)) → due_behind n (due_in b j) (line ns (last_of b)) ≡ due_out n b j
goes_out true n j ns = refl
goes_out false n j ns = refl

-- where a line of a head or of a body is due, such a line stands
pub stands_in : (b : Bool) (j : ℕ) (text : List ℕ) → IsLine b text → StandsAs (due_in b j) text
stands_in true j text l = l
stands_in false j text l = l

stood_in : (b : Bool) (j : ℕ) (text : List ℕ) → StandsAs (due_in b j) text → IsLine b text
stood_in true j text l = l
stood_in false j text l = l

something_due : (b : Bool) (j : ℕ) → due_in b j ≡ nothing → ⊥
something_due true j e = cc
something_due false j e = cc

-- the empty text is no line
no_line : (b : Bool) → IsLine b [] → ⊥
no_line b l = let e = l.is in cc

-- a text with a line feed has one
has_feed : (text rest : List ℕ) → HasNo 10 (text ++ 10 ∷ rest) → ⊥
has_feed [] rest h = h.0 refl
has_feed (b ∷ bs) rest h = has_feed bs rest h.1

-- a line is whole where it ends with a line feed
pub whole_where : (text : List ℕ) → IsWholeLine text ⊎ HasNo 10 text → (front : List ℕ) → front ++ codes "\n" ≡ text → IsWholeLine text
whole_where text (inl w) front e = w
whole_where text (inr h) front e = absurd (has_feed front [] (subst (HasNo 10) (sym e) h))

-- the line of an instruction is whole
pub whole_line : (ns : List (List ℕ)) (i : Instr) (text : List ℕ) → line ns i ≡ text → IsWholeLine text ⊎ HasNo 10 text → IsWholeLine (line ns i)
whole_line ns i text e w =
    subst IsWholeLine (sym e) (whole_where text w (codes "  " ++ (mnemonic i ++ operands_text ns (operands i)))
    (ap (λ t. 32 ∷ 32 ∷ t) (append_assoc (mnemonic i) (operands_text ns (operands i)) (codes "\n")) ∙ e))

-- a line that was read
pub read_at_is : (b : Bool) (names : List (List ℕ)) (listing text : List ℕ) (at : ℕ) (i : Instr) (end : ℕ) → IsLineEnd listing at end → text ≡ take (end - at) (drop at listing)
    → (is_in_head (opcode_of i) ≡ b) × FitsInstr i × HasInstr names i × HasShortNames names i × (line names i ≡ text) → IsReadAt b names listing at i end
read_at_is b names listing text at i end e is h =
    let text_is : line names i ≡ take (end - at) (drop at listing) = h.4 ∙ is in
    record {
      forth = behind (end - at) refl text_is;
      within = e.within;
      of = h.0;
      fits = h.1;
      named = h.2;
      short = h.3;
      text = text_is;
      whole = whole_line names i _ text_is e.whole;
    }
  where
    behind : (k : ℕ) → end - at ≡ k → line names i ≡ take (end - at) (drop at listing) → at < end
    behind zero k t = absurd (let none : line names i ≡ [] = t ∙ ap (λ m. take m (drop at listing)) k in cc)
    behind (suc m) k t = omega arith

-- ---- heads and bodies

-- nothing is read yet
pub none_begun : (b : Bool) (listing : List ℕ) (names : List (List ℕ)) (from first : ℕ) → from ≤ length listing → IsBegun b listing names names from first from first []
none_begun b listing names from first l = record {
  read = record {
    within = l;
    count = omega arith;
    few = omega arith;
    puts = adds_fewer 0 (3 * (from - from)) names names (omega arith) (adds_none 0 names);
    order = numbers_same names names refl;
    text = refl;
    of = tt;
    named = tt;
    plain = tt;
  };
  others = tt;
  reached = λ n j r. r;
}

-- the names of instructions and of one more
pushed_names : (instrs : List Instr) (i : Instr) → flat_map instr_names (instrs ++ i ∷ []) ≡ flat_map instr_names instrs ++ instr_names i
pushed_names instrs i = flat_map-append instr_names instrs (i ∷ []) ∙ ap (λ ns. flat_map instr_names instrs ++ ns) (append-nil (instr_names i))

read_more : (b : Bool) (listing : List ℕ) (before names later : List (List ℕ)) (from first at ln end : ℕ) (instrs : List Instr) (i : Instr) → AreRead b listing before names from first at ln instrs
    → AddsNames 3 names later → NumbersNames names (instr_names i) later → IsReadAt b later listing at i end → AreRead b listing before later from first end (ln + 1) (instrs ++ i ∷ [])
read_more b listing before names later from first at ln end instrs i r g w h =
    let size = length_push instrs i in
    let count = r.count in
    let few = r.few in
    let forth = h.forth in
    let old = more_instrs 3 names later g instrs r.named in
    let both : at + (end - at) ≡ end = omega arith in
    let three : 3 * (at - from) + 3 ≤ 3 * (end - from) = omega arith in
    record {
      within = h.within;
      count = omega arith;
      few = omega arith;
      puts = adds_fewer (3 * (at - from) + 3) (3 * (end - from)) before later three (adds_both (3 * (at - from)) 3 before names later r.puts g);
      order = subst (λ ns. NumbersNames before ns later) (sym (pushed_names instrs i)) (numbers_both r.order w);
      text =
          let cut : drop at listing ≡ line later i ++ drop end listing =
          sym (take-append-drop (end - at) (drop at listing)) ∙ (λ j. sym h.text j ++ (drop-drop (end - at) at listing ∙ ap (λ m. drop m listing) both) j) in
          r.text ∙ (λ j. sym old.1 j ++ cut j) ∙ sym (append_assoc (flat_map (line later) instrs) (line later i) (drop end listing))
          ∙ ap (λ t. t ++ drop end listing) (ap (λ t. flat_map (line later) instrs ++ t) (sym (append-nil (line later i))) ∙ sym (flat_map-append (line later) instrs (i ∷ [])));
      of = all_append _ instrs (i ∷ []) r.of ((h.of, h.fits), tt);
      named = all_append _ instrs (i ∷ []) old.0 (h.named, tt);
      plain = all_append _ instrs (i ∷ []) (old.2 r.plain) ((h.short, h.whole), tt);
    }

one_more : (b : Bool) (listing : List ℕ) (names : List (List ℕ)) (n j at ln end : ℕ) (i : Instr) → IsReadAt b names listing at i end → Reached n listing at ln (due_in b j) → Reached n listing end (ln + 1) (due_behind n (due_in b j) (line names i))
one_more b listing names n j at ln end i h r =
    let forth = h.forth in
    reached_more n listing at ln end (due_in b j) (line names i) r
    (stands_in b j (line names i) (record { instr = i; names = names; short = h.short; fits = h.fits; part = h.of; is = refl })) h.whole (omega arith) h.within h.text

-- one instruction more, which doesn't end them
pub begun_more : (b : Bool) (listing : List ℕ) (before names later : List (List ℕ)) (from first at ln end : ℕ) (instrs : List Instr) (i : Instr) → IsBegun b listing before names from first at ln instrs
    → AddsNames 3 names later → NumbersNames names (instr_names i) later → IsReadAt b later listing at i end → (opcode_of i ≡ opcode_of (last_of b) → ⊥) → IsBegun b listing before later from first end (ln + 1) (instrs ++ i ∷ [])
begun_more b listing before names later from first at ln end instrs i r g w h o = record {
  read = read_more b listing before names later from first at ln end instrs i r.read g w h;
  others = all_append _ instrs (i ∷ []) r.others (o, tt);
  reached = λ n j s. subst (Reached n listing end (ln + 1)) (stays b n j later i o) (one_more b listing later n j at ln end i h (r.reached n j s));
}

-- and one that does
pub ended_more : (b : Bool) (listing : List ℕ) (before names later : List (List ℕ)) (from first at ln end : ℕ) (instrs : List Instr) (i : Instr) → IsBegun b listing before names from first at ln instrs
    → AddsNames 3 names later → NumbersNames names (instr_names i) later → IsReadAt b later listing at i end → i ≡ last_of b → IsEnded b listing before later from first end (ln + 1) (instrs ++ i ∷ [])
ended_more b listing before names later from first at ln end instrs i r g w h o = record {
  read = read_more b listing before names later from first at ln end instrs i r.read g w h;
  block = record { front = instrs; are = ap (λ l. instrs ++ l ∷ []) o; of = r.read.of; others = r.others };
  reached = λ n j s. subst (Reached n listing end (ln + 1)) (ap (λ l. due_behind n (due_in b j) (line later l)) o ∙ goes_out b n j later) (one_more b listing later n j at ln end i h (r.reached n j s));
}

abbrev pub refusal_of : ℕ → Refusal
refusal_of ln = record { code = 81; pos = record { line = ln; column = 1 } }

-- what stands there is no line of a head or of a body
pub begun_wrong : (b : Bool) (listing : List ℕ) (before names : List (List ℕ)) (from first at ln : ℕ) (instrs : List Instr) → IsBegun b listing before names from first at ln instrs → (IsLine b (first_line (drop at listing)) → ⊥)
    → (n j : ℕ) → Reached n listing from first (due_in b j) → IsRefusedLine n listing (refusal_of ln)
begun_wrong b listing before names from first at ln instrs r none n j s = record {
  code = refl;
  wrong = reached_wrong n listing at ln (due_in b j) (r.reached n j s) (λ l. none (stood_in b j _ l)) (λ e. absurd (something_due b j e));
  column = refl;
}

-- nothing stands there
pub nothing_stands : (b : Bool) (listing : List ℕ) (at : ℕ) → length listing ≤ at → IsLine b (first_line (drop at listing)) → ⊥
nothing_stands b listing at l s = no_line b (subst (λ t. IsLine b (first_line t)) (drop_all at listing l) s)
