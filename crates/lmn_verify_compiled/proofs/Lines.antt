-- Two instructions with one line are one, and so are codes.
use Rattle.std.proofs.Common.{◌≡◌, ◌≢◌, ◌+◌, ℕ, Bool, true, false, List, [], ◌∷◌, ◌++◌, AllPairs, map, refl, sym, ap, ◌∙◌, subst}
use Rattle.std.specs.Prelude.{Option, Some, None, codes}
use Rattle.std.specs.List.{AllByRecursion}
use Rattle.std.proofs.lemmas.List.{append_assoc, append_cancel_right}
use Rattle.lmn_base.proofs.Lists.{all_left, all_right, map_append, head_is, tail_is}
use Rattle.lmn_instr_code.specs.declared.instr.Code.{Code}
use Rattle.lmn_instr_code.specs.declared.instr.Instr.{Instr}
use Rattle.lmn_instr_code.specs.Words.{mnemonic, operands, opcode_of}
use Rattle.lmn_instr_code.specs.Listings.{line, HasInstr, HasCode, operands_text, HasOperand}
use Rattle.lmn_instr_code.specs.declared.words.Operand.{Operand}
use Rattle.lmn_instr_code.specs.declared.words.Operand.TheVariants as operand
use Rattle.lmn_instr_code.specs.declared.opcode.Opcode.{Opcode}
use Rattle.lmn_instr_code.specs.declared.opcode.Kind.{Kind}
use Rattle.lmn_instr_code.specs.declared.opcode.Form.{Form}
use Rattle.lmn_instr_code.specs.Opcodes.{opcode_name, is_in_head, form_of}
use Rattle.lmn_verify_listing.specs.Forms.{FitsForm, in_form, some_operand}
use Rattle.lmn_verify_listing.specs.Lines.{IsShortOperand, HasShortNames, FitsInstr, IsWholeLine, joined_lines}
use Rattle.lmn_verify_listing.specs.Listings.{IsBlock, IsWholeCode, HasPlainLine, HasPlainLines}
use Rattle.lmn_verify_listing.specs.Reaching.{last_of}
use Rattle.lmn_verify_listing.specs.Taking.{HasSome, ShortSome}
use Rattle.lmn_verify_listing.proofs.Places.{has_no_by_test}
use Rattle.lmn_verify_listing.proofs.OpcodeLemmas.{no_space, one_name}
use Rattle.lmn_verify_listing.proofs.LineLemmas.{form_text, operands_behind, IsFormed, first_follows, second_follows, third_follows}
use Rattle.lmn_verify_compiled.proofs.Instrs.{one_instr}
use Rattle.lmn_verify_compiled.proofs.Operands.{one_cut, one_some, one_parts}
use Rattle.lmn_verify_listing.proofs.Exclusion.{all_lines, not_empty, whole_first}

some_named : (ns : List (List ℕ)) (k : Option Kind) (o : Operand) → AllByRecursion (HasOperand ns) (some_operand k o) → HasSome ns k o
some_named ns None o h = tt
some_named ns (Some k) o h = h.0

-- so is the name of the operand that a form has there
pub some_short : (ns : List (List ℕ)) (k : Option Kind) (o : Operand) → AllByRecursion (IsShortOperand ns) (some_operand k o) → ShortSome ns k o
some_short ns None o h = tt
some_short ns (Some k) o h = h.0

-- what is known of an instruction that stands in a listing
pub record IsPlain (names : List (List ℕ)) (i : Instr) : Type 0 where
  pub fits : FitsInstr i
  pub named : HasInstr names i
  pub short : HasShortNames names i

-- operands of a form, with all names, which are short
pub record AreOf (names : List (List ℕ)) (f : Form) (x y z : Operand) (gs : List ℕ) : Type 0 where
  pub fits : FitsForm f x y z gs
  pub named : AllByRecursion (HasOperand names) (in_form f x y z gs)
  pub short : AllByRecursion (IsShortOperand names) (in_form f x y z gs)

-- so their text is one of this form
abbrev pub formed : (names : List (List ℕ)) (f : Form) (x y z : Operand) (gs : List ℕ) (text : List ℕ) → AreOf names f x y z gs → operands_text names (in_form f x y z gs) ≡ text → IsFormed f text
formed names f x y z gs text h e =
    let later = all_right (IsShortOperand names) (some_operand f.first x) _ h.short in
    let last = all_right (IsShortOperand names) (some_operand f.second y) _ later in
    record {
      x = x;
      y = y;
      z = z;
      gs = gs;
      ns = names;
      short_x = some_short names f.first x (all_left (IsShortOperand names) (some_operand f.first x) _ h.short);
      short_y = some_short names f.second y (all_left (IsShortOperand names) (some_operand f.second y) _ later);
      short_z = some_short names f.third z (all_left (IsShortOperand names) (some_operand f.third z) _ last);
      fits = h.fits;
      is = sym (form_text names f x y z gs) ∙ e;
    }

-- Instructions with one line have one name, and operands with one text, whatever the lists of names.
pub one_opcode : (ns ms : List (List ℕ)) (i j : Instr) → line ns i ≡ line ms j → (opcode_of i ≡ opcode_of j) × (operands_text ns (operands i) ≡ operands_text ms (operands j))
one_opcode ns ms i j e =
    let mine = operands_text ns (operands i) in
    let yours = operands_text ms (operands j) in
    let inner : mnemonic i ++ mine ≡ mnemonic j ++ yours =
    append_cancel_right (mnemonic i ++ mine) (mnemonic j ++ yours) (codes "\n") (append_assoc (mnemonic i) mine (codes "\n") ∙ tail_is (tail_is e) ∙ sym (append_assoc (mnemonic j) yours (codes "\n"))) in
    let cut = one_cut 32 (opcode_name (opcode_of i)) (opcode_name (opcode_of j)) mine yours
    (has_no_by_test 32 (opcode_name (opcode_of i)) (no_space (opcode_of i))) (has_no_by_test 32 (opcode_name (opcode_of j)) (no_space (opcode_of j)))
    (operands_behind ns (operands i)) (operands_behind ms (operands j)) inner in
    (one_name (opcode_of i) (opcode_of j) cut.0, cut.1)

module _ (names : List (List ℕ)) (once : AllPairs (λ m n. m ≢ n) names) where
  named_first : (f : Form) (x y z : Operand) (gs : List ℕ) → AllByRecursion (HasOperand names) (in_form f x y z gs) → HasSome names f.first x × HasSome names f.second y × HasSome names f.third z
  named_first f x y z gs h =
      let later = all_right (HasOperand names) (some_operand f.first x) _ h in
      let last = all_right (HasOperand names) (some_operand f.second y) _ later in (
        some_named names f.first x (all_left (HasOperand names) (some_operand f.first x) _ h),
        some_named names f.second y (all_left (HasOperand names) (some_operand f.second y) _ later),
        some_named names f.third z (all_left (HasOperand names) (some_operand f.third z) _ last),
      )

  short_first : (f : Form) (x y z : Operand) (gs : List ℕ) → AllByRecursion (IsShortOperand names) (in_form f x y z gs) → ShortSome names f.first x × ShortSome names f.second y × ShortSome names f.third z
  short_first f x y z gs h =
      let later = all_right (IsShortOperand names) (some_operand f.first x) _ h in
      let last = all_right (IsShortOperand names) (some_operand f.second y) _ later in (
        some_short names f.first x (all_left (IsShortOperand names) (some_operand f.first x) _ h),
        some_short names f.second y (all_left (IsShortOperand names) (some_operand f.second y) _ later),
        some_short names f.third z (all_left (IsShortOperand names) (some_operand f.third z) _ last),
      )

  -- operands of one form with one text are one
  one_form : (op : Opcode) (f : Form) (x y z u v w : Operand) (gs hs : List ℕ) → f ≡ form_of op → AreOf names f x y z gs → AreOf names f u v w hs
      → operands_text names (in_form f x y z gs) ≡ operands_text names (in_form f u v w hs) → in_form f x y z gs ≡ in_form f u v w hs
  one_form op f x y z u v w gs hs e a b same =
      let p = formed names f x y z gs _ a refl in
      let q = formed names f u v w hs _ b refl in
      let na = named_first f x y z gs a.named in
      let nb = named_first f u v w hs b.named in
      let sa = short_first f x y z gs a.short in
      let sb = short_first f u v w hs b.short in
      let first = one_some names once f.first x u _ _ a.fits.first b.fits.first na.0 nb.0 sa.0 sb.0 (first_follows op f _ e p) (first_follows op f _ e q) (sym (form_text names f x y z gs) ∙ same ∙ form_text names f u v w hs) in
      let second = one_some names once f.second y v _ _ a.fits.second b.fits.second na.1 nb.1 sa.1 sb.1 (second_follows op f _ e p) (second_follows op f _ e q) first.1 in
      let third = one_some names once f.third z w _ _ a.fits.third b.fits.third na.2 nb.2 sa.2 sb.2 (third_follows op f _ e p) (third_follows op f _ e q) second.1 in
      let parts = one_parts gs hs a.fits.parts b.fits.parts third.1 in
      λ i. first.0 i ++ (second.0 i ++ (third.0 i ++ map operand.Part (parts i)))

  same_operands : (i j : Instr) → opcode_of i ≡ opcode_of j → IsPlain names i → IsPlain names j → operands_text names (operands i) ≡ operands_text names (operands j) → operands i ≡ operands j
  same_operands i j op a b e =
      let f = form_of (opcode_of i) in
      let back : form_of (opcode_of j) ≡ f = ap form_of (sym op) in
      let fa = a.fits in
      let fb = b.fits in
      let are : operands j ≡ in_form f fb.first fb.second fb.third fb.parts = fb.are ∙ ap (λ w. in_form w fb.first fb.second fb.third fb.parts) back in
      let here : AreOf names f fa.first fa.second fa.third fa.parts = record {
        fits = fa.fits;
        named = subst (AllByRecursion (HasOperand names)) fa.are a.named;
        short = subst (AllByRecursion (IsShortOperand names)) fa.are a.short;
      } in
      let there : AreOf names f fb.first fb.second fb.third fb.parts = record {
        fits = subst (λ w. FitsForm w fb.first fb.second fb.third fb.parts) back fb.fits;
        named = subst (AllByRecursion (HasOperand names)) are b.named;
        short = subst (AllByRecursion (IsShortOperand names)) are b.short;
      } in
      fa.are ∙ one_form (opcode_of i) f fa.first fa.second fa.third fb.first fb.second fb.third fa.parts fb.parts refl here there (sym (ap (operands_text names) fa.are) ∙ e ∙ ap (operands_text names) are) ∙ sym are

  -- instructions with one line are one
  one_line : (i j : Instr) → IsPlain names i → IsPlain names j → line names i ≡ line names j → i ≡ j
  one_line i j a b e =
      let cut = one_opcode names names i j e in
      one_instr i j cut.0 (same_operands i j cut.0 a b cut.1)

  -- ---- heads and bodies

  pub plain_last : (b : Bool) → IsPlain names (last_of b)
  plain_last true = record { fits = record { first = operand.Number 0; second = operand.Number 0; third = operand.Number 0; parts = []; fits = record { first = tt; second = tt; third = tt; few = λ e. refl; parts = tt }; are = refl }; named = tt; short = tt }
  plain_last false = record { fits = record { first = operand.Number 0; second = operand.Number 0; third = operand.Number 0; parts = []; fits = record { first = tt; second = tt; third = tt; few = λ e. refl; parts = tt }; are = refl }; named = tt; short = tt }

  one_front : (last : Instr) → IsPlain names last → (fs gs : List Instr) (r s : List (List ℕ)) → AllByRecursion (IsPlain names) fs → AllByRecursion (IsPlain names) gs
      → AllByRecursion (λ i. opcode_of i ≢ opcode_of last) fs → AllByRecursion (λ i. opcode_of i ≢ opcode_of last) gs
      → map (line names) fs ++ (line names last ∷ r) ≡ map (line names) gs ++ (line names last ∷ s) → (fs ≡ gs) × (r ≡ s)
  one_front last p [] [] r s a b m n e = (refl, tail_is e)
  one_front last p [] (g ∷ gs) r s a b m n e = absurd (n.0 (ap opcode_of (one_line g last b.0 p (sym (head_is e)))))
  one_front last p (f ∷ fs) [] r s a b m n e = absurd (m.0 (ap opcode_of (one_line f last a.0 p (head_is e))))
  one_front last p (f ∷ fs) (g ∷ gs) r s a b m n e =
      let one = one_line f g a.0 b.0 (head_is e) in
      let more = one_front last p fs gs r s a.1 b.1 m.1 n.1 (tail_is e) in
      ((λ i. one i ∷ more.0 i), more.1)

  plains : (b : Bool) (is : List Instr) → AllByRecursion (λ i. (is_in_head (opcode_of i) ≡ b) × FitsInstr i) is → AllByRecursion (HasInstr names) is → AllByRecursion (HasPlainLine names) is → AllByRecursion (IsPlain names) is
  plains b [] of named plain = tt
  plains b (i ∷ is) of named plain = (record { fits = of.0.1; named = named.0; short = plain.0.0 }, plains b is of.1 named.1 plain.1)

  -- what is known of the instructions before the last
  pub front_plain : (b : Bool) (xs : List Instr) (x : IsBlock b (last_of b) xs) → AllByRecursion (HasInstr names) xs → AllByRecursion (HasPlainLine names) xs → AllByRecursion (IsPlain names) x.front
  front_plain b xs x named plain =
      plains b x.front x.of (all_left (HasInstr names) x.front (last_of b ∷ []) (subst (AllByRecursion (HasInstr names)) x.are named))
      (all_left (HasPlainLine names) x.front (last_of b ∷ []) (subst (AllByRecursion (HasPlainLine names)) x.are plain))

  -- the lines of a head or of a body: those before the last, and that
  pub block_lines : (b : Bool) (xs : List Instr) (r : List (List ℕ)) (x : IsBlock b (last_of b) xs) → map (line names) xs ++ r ≡ map (line names) x.front ++ (line names (last_of b) ∷ r)
  block_lines b xs r x =
      ap (λ z. map (line names) z ++ r) x.are ∙ ap (λ t. t ++ r) (map_append (line names) x.front (last_of b ∷ [])) ∙ append_assoc (map (line names) x.front) (line names (last_of b) ∷ []) r

  one_block : (b : Bool) (xs ys : List Instr) (r s : List (List ℕ)) → IsBlock b (last_of b) xs → IsBlock b (last_of b) ys → AllByRecursion (HasInstr names) xs → AllByRecursion (HasInstr names) ys
      → AllByRecursion (HasPlainLine names) xs → AllByRecursion (HasPlainLine names) ys → map (line names) xs ++ r ≡ map (line names) ys ++ s → (xs ≡ ys) × (r ≡ s)
  one_block b xs ys r s x y nx ny px py e =
      let one = one_front (last_of b) (plain_last b) x.front y.front r s (front_plain b xs x nx px) (front_plain b ys y ny py) x.others y.others (sym (block_lines b xs r x) ∙ e ∙ block_lines b ys s y) in
      (x.are ∙ ap (λ z. z ++ (last_of b ∷ [])) one.0 ∙ sym y.are, one.1)

  -- ---- codes

  pub one_codes : (k : ℕ) (cs ds : List Code) → AllByRecursion IsWholeCode cs → AllByRecursion IsWholeCode ds → AllByRecursion (HasCode names) cs → AllByRecursion (HasCode names) ds
      → AllByRecursion (HasPlainLines names) cs → AllByRecursion (HasPlainLines names) ds → all_lines names k cs ≡ all_lines names k ds → cs ≡ ds
  one_codes k [] [] w v h g p q e = refl
  one_codes k [] (d ∷ ds) w v h g p q e = absurd (cc)
  one_codes k (c ∷ cs) [] w v h g p q e = absurd (cc)
  one_codes k (c ∷ cs) (d ∷ ds) w v h g p q e =
      let heads = one_block true c.head d.head _ _ w.0.0 v.0.0 h.0.0 g.0.0 p.0.0 q.0.0 (tail_is e) in
      let bodies = one_block false c.body d.body _ _ w.0.1 v.0.1 h.0.1 g.0.1 p.0.1 q.0.1 heads.1 in
      let more = one_codes (k + 1) cs ds w.1 v.1 h.1 g.1 p.1 q.1 bodies.1 in
      λ i. record { head = heads.0 i; body = bodies.0 i } ∷ more i

-- whole lines that are joined are those of one list
pub joined_one : (ls bs : List (List ℕ)) → AllByRecursion IsWholeLine ls → AllByRecursion IsWholeLine bs → joined_lines ls ≡ joined_lines bs → ls ≡ bs
joined_one [] [] v w e = refl
joined_one [] (b ∷ bs) v w e = absurd (not_empty b (joined_lines bs) w.0 (sym e))
joined_one (a ∷ ls) [] v w e = absurd (not_empty a (joined_lines ls) v.0 e)
joined_one (a ∷ ls) (b ∷ bs) v w e =
    let one = whole_first a b (joined_lines ls) (joined_lines bs) v.0 w.0 e in
    let more = joined_one ls bs v.1 w.1 one.1 in
    λ i. one.0 i ∷ more i
