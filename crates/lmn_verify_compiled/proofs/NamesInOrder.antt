-- Codes with one listing have the same names in one order, whatever the lists of names.
use Rattle.std.proofs.Common.{◌≡◌, ◌≢◌, ◌<◌, ◌^◌, ◌+◌, ◌⊎◌, inl, inr, ℕ, Bool, true, false, List, [], ◌∷◌, ◌++◌, AllPairs, get_or, map, refl, sym, ap, ◌∙◌, subst, arith}
use Rattle.std.specs.Prelude.{Option, Some, None}
use Rattle.std.specs.Fmt.{decimal}
use Rattle.std.specs.List.{AllByRecursion, flat_map}
use Rattle.std.proofs.lemmas.List.{append-nil, append_assoc}
use Rattle.std.proofs.lemmas.List.Concat.{flat_map-append}
use Rattle.lmn_base.proofs.Lists.{head_is, map_append, tail_is}
use Rattle.lmn_base.specs.declared.functor.Functor.{Functor}
use Rattle.lmn_base.specs.declared.functor.Label.{Label}
use Rattle.lmn_base.specs.declared.functor.Label.TheVariants.{Int, Name}
use Rattle.lmn_base.specs.Names.{label_names}
use Rattle.lmn_instr_reading.proofs.NameOrder.{lists_in_order_are_one}
use Rattle.lmn_instr_reading.proofs.NameTexts.{name_no_integer, one_name}
use Rattle.lmn_instr_reading.proofs.QuotedLemmas.{last_split, no_slash_decimal}
use Rattle.lmn_instr_code.specs.declared.instr.Code.{Code}
use Rattle.lmn_instr_code.specs.declared.instr.Instr.{Instr}
use Rattle.lmn_instr_code.specs.Labels.{listed_label_text}
use Rattle.lmn_instr_code.specs.Listings.{HasCode, HasInstr, functor_text, line, HasOperand, operand_text, operands_text}
use Rattle.lmn_instr_code.specs.declared.opcode.Form.{Form}
use Rattle.lmn_instr_code.specs.declared.opcode.Kind.{Kind}
use Rattle.lmn_instr_code.specs.declared.opcode.Kind.TheVariants as kind
use Rattle.lmn_instr_code.specs.declared.opcode.Opcode.{Opcode}
use Rattle.lmn_instr_code.specs.declared.words.Operand.{Operand}
use Rattle.lmn_verify_listing.specs.Lines.{IsShortOperand}
use Rattle.lmn_verify_listing.specs.Listings.{HasPlainLine, HasPlainLines, IsBlock, IsWholeCode}
use Rattle.lmn_verify_listing.specs.Forms.{FitsForm, FitsKind, FitsLabel, FitsSome, in_form}
use Rattle.lmn_instr_code.specs.Opcodes.{form_of}
use Rattle.lmn_instr_code.specs.Words.{opcode_of, operands}
use Rattle.lmn_verify_code.specs.Operands.{code_names, instr_names, operand_names}
use Rattle.lmn_verify_listing.specs.Reaching.{last_of}
use Rattle.lmn_verify_listing.specs.Taking.{Follows, FollowsKind, IsBehind, some_names, some_text}
use Rattle.lmn_verify_listing.proofs.Exclusion.{all_lines, all_whole, text_is}
use Rattle.lmn_verify_listing.proofs.LineLemmas.{first_follows, form_text, nameless, names_of_form, second_follows, third_follows}
use Rattle.lmn_verify_compiled.proofs.Lines.{AreOf, IsPlain, block_lines, formed, front_plain, joined_one, one_opcode, plain_last}
use Rattle.lmn_verify_compiled.proofs.Operands.{is_functor_of, one_behind, sort}
use Rattle.lmn_verify_compiled.specs.OneReading.{ListedNamesAreOne}

-- the names with some numbers
abbrev told : List (List ℕ) → List ℕ → List (List ℕ)
told names numbers = map (λ n. get_or names n []) numbers

module _ (ns ms : List (List ℕ)) where
  -- ---- operands

  label_told : (k l : Label) → FitsLabel k → FitsLabel l → listed_label_text ns k ≡ listed_label_text ms l → told ns (label_names k) ≡ told ms (label_names l)
  label_told (Name m) (Name n) h g e = ap (λ name. name ∷ []) (one_name (get_or ns m []) (get_or ms n []) e)
  label_told (Name m) (Int z) h g e = absurd (name_no_integer (get_or ns m []) z g e)
  label_told (Int y) (Name n) h g e = absurd (name_no_integer (get_or ms n []) y h (sym e))
  label_told (Int y) (Int z) h g e = refl

  functor_told : (f g : Functor) → FitsLabel f.label → FitsLabel g.label → f.arity < 2 ^ 8 → g.arity < 2 ^ 8 → functor_text ns f ≡ functor_text ms g → told ns (label_names f.label) ≡ told ms (label_names g.label)
  functor_told f g h k low few e =
      let parts = last_split (listed_label_text ns f.label) (decimal f.arity) (listed_label_text ms g.label) (decimal g.arity) (no_slash_decimal f.arity (omega (arith, low))) (no_slash_decimal g.arity (omega (arith, few))) e in
      label_told f.label g.label h k parts.0

  operand_told : (k : Kind) (o p : Operand) → FitsKind k o → FitsKind k p → operand_text ns o ≡ operand_text ms p → told ns (operand_names o) ≡ told ms (operand_names p)
  operand_told k o p h g e = by (sort k)
    where
      by : (k ≡ kind.Functor) ⊎ ((k ≢ kind.Functor) × ((r : List ℕ) → FollowsKind k r → IsBehind r)) → told ns (operand_names o) ≡ told ms (operand_names p)
      by (inl f) =
          let x = is_functor_of o (subst (λ j. FitsKind j o) f h) in
          let y = is_functor_of p (subst (λ j. FitsKind j p) f g) in
          ap (λ q. told ns (operand_names q)) x.3 ∙ functor_told x.0 y.0 x.1 y.1 x.2 y.2 (sym (ap (operand_text ns) x.3) ∙ e ∙ ap (operand_text ms) y.3) ∙ sym (ap (λ q. told ms (operand_names q)) y.3)
      by (inr (n, behind)) = ap (told ns) (nameless k o n h) ∙ sym (ap (told ms) (nameless k p n g))

  some_told : (k : Option Kind) (o p : Operand) (r s : List ℕ) → FitsSome k o → FitsSome k p → Follows k r → Follows k s → some_text ns k o ++ r ≡ some_text ms k p ++ s
      → (told ns (some_names k o) ≡ told ms (some_names k p)) × (r ≡ s)
  some_told None o p r s h g b c e = (refl, e)
  some_told (Some k) o p r s h g b c e =
      let cut = one_behind ns ms k o p r s h g b c (tail_is e) in
      (operand_told k o p h g cut.0, cut.1)

  -- ---- instructions

  told_form : (names : List (List ℕ)) (f : Form) (x y z : Operand) (gs : List ℕ)
      → told names (flat_map operand_names (in_form f x y z gs)) ≡ told names (some_names f.first x) ++ (told names (some_names f.second y) ++ told names (some_names f.third z))
  told_form names f x y z gs =
      let read : ℕ → List ℕ = λ n. get_or names n [] in
      ap (map read) (names_of_form f x y z gs) ∙ map_append read (some_names f.first x) (some_names f.second y ++ some_names f.third z)
      ∙ ap (λ t. map read (some_names f.first x) ++ t) (map_append read (some_names f.second y) (some_names f.third z))

  form_told : (op : Opcode) (f : Form) (x y z u v w : Operand) (gs hs : List ℕ) → f ≡ form_of op → AreOf ns f x y z gs → AreOf ms f u v w hs
      → operands_text ns (in_form f x y z gs) ≡ operands_text ms (in_form f u v w hs) → told ns (flat_map operand_names (in_form f x y z gs)) ≡ told ms (flat_map operand_names (in_form f u v w hs))
  form_told op f x y z u v w gs hs e a b same =
      let p = formed ns f x y z gs _ a refl in
      let q = formed ms f u v w hs _ b refl in
      let first = some_told f.first x u _ _ a.fits.first b.fits.first (first_follows op f _ e p) (first_follows op f _ e q) (sym (form_text ns f x y z gs) ∙ same ∙ form_text ms f u v w hs) in
      let second = some_told f.second y v _ _ a.fits.second b.fits.second (second_follows op f _ e p) (second_follows op f _ e q) first.1 in
      let third = some_told f.third z w _ _ a.fits.third b.fits.third (third_follows op f _ e p) (third_follows op f _ e q) second.1 in
      told_form ns f x y z gs ∙ (λ i. first.0 i ++ (second.0 i ++ third.0 i)) ∙ sym (told_form ms f u v w hs)

  line_told : (i j : Instr) → IsPlain ns i → IsPlain ms j → line ns i ≡ line ms j → (opcode_of i ≡ opcode_of j) × (told ns (instr_names i) ≡ told ms (instr_names j))
  line_told i j a b e =
      let cut = one_opcode ns ms i j e in
      let f = form_of (opcode_of i) in
      let back : form_of (opcode_of j) ≡ f = ap form_of (sym cut.0) in
      let fa = a.fits in
      let fb = b.fits in
      let are : operands j ≡ in_form f fb.first fb.second fb.third fb.parts = fb.are ∙ ap (λ w. in_form w fb.first fb.second fb.third fb.parts) back in
      let here : AreOf ns f fa.first fa.second fa.third fa.parts = record {
        fits = fa.fits;
        named = subst (AllByRecursion (HasOperand ns)) fa.are a.named;
        short = subst (AllByRecursion (IsShortOperand ns)) fa.are a.short;
      } in
      let there : AreOf ms f fb.first fb.second fb.third fb.parts = record {
        fits = subst (λ w. FitsForm w fb.first fb.second fb.third fb.parts) back fb.fits;
        named = subst (AllByRecursion (HasOperand ms)) are b.named;
        short = subst (AllByRecursion (IsShortOperand ms)) are b.short;
      } in
      let same = form_told (opcode_of i) f fa.first fa.second fa.third fb.first fb.second fb.third fa.parts fb.parts refl here there (sym (ap (operands_text ns) fa.are) ∙ cut.1 ∙ ap (operands_text ms) are) in
      (cut.0, ap (λ os. told ns (flat_map operand_names os)) fa.are ∙ same ∙ sym (ap (λ os. told ms (flat_map operand_names os)) are))

  -- ---- heads and bodies

  front_told : (last : Instr) → IsPlain ns last → IsPlain ms last → (fs gs : List Instr) (r s : List (List ℕ)) → AllByRecursion (IsPlain ns) fs → AllByRecursion (IsPlain ms) gs
      → AllByRecursion (λ i. opcode_of i ≢ opcode_of last) fs → AllByRecursion (λ i. opcode_of i ≢ opcode_of last) gs
      → map (line ns) fs ++ (line ns last ∷ r) ≡ map (line ms) gs ++ (line ms last ∷ s) → (told ns (flat_map instr_names fs) ≡ told ms (flat_map instr_names gs)) × (r ≡ s)
  front_told last p q [] [] r s a b m n e = (refl, tail_is e)
  front_told last p q [] (g ∷ gs) r s a b m n e = absurd (n.0 (sym (line_told last g p b.0 (head_is e)).0))
  front_told last p q (f ∷ fs) [] r s a b m n e = absurd (m.0 (line_told f last a.0 q (head_is e)).0)
  front_told last p q (f ∷ fs) (g ∷ gs) r s a b m n e =
      let one = line_told f g a.0 b.0 (head_is e) in
      let more = front_told last p q fs gs r s a.1 b.1 m.1 n.1 (tail_is e) in
      let apart : (names : List (List ℕ)) (i : Instr) (is : List Instr) → told names (flat_map instr_names (i ∷ is)) ≡ told names (instr_names i) ++ told names (flat_map instr_names is) =
      λ names i is. map_append (λ n. get_or names n []) (instr_names i) (flat_map instr_names is) in
      (apart ns f fs ∙ (λ i. one.1 i ++ more.0 i) ∙ sym (apart ms g gs), more.1)

  -- what ends a head or a body has no name
  last_nameless : (b : Bool) → instr_names (last_of b) ≡ []
  last_nameless true = refl
  last_nameless false = refl

  block_names : (b : Bool) (xs : List Instr) (x : IsBlock b (last_of b) xs) → flat_map instr_names xs ≡ flat_map instr_names x.front
  block_names b xs x =
      ap (flat_map instr_names) x.are ∙ flat_map-append instr_names x.front (last_of b ∷ [])
      ∙ ap (λ more. flat_map instr_names x.front ++ more) (append-nil (instr_names (last_of b)) ∙ last_nameless b) ∙ append-nil (flat_map instr_names x.front)

  module _ (once : AllPairs (λ m n. m ≢ n) ns) (also : AllPairs (λ m n. m ≢ n) ms) where
    block_told : (b : Bool) (xs ys : List Instr) (r s : List (List ℕ)) → IsBlock b (last_of b) xs → IsBlock b (last_of b) ys → AllByRecursion (HasInstr ns) xs → AllByRecursion (HasInstr ms) ys
        → AllByRecursion (HasPlainLine ns) xs → AllByRecursion (HasPlainLine ms) ys → map (line ns) xs ++ r ≡ map (line ms) ys ++ s → (told ns (flat_map instr_names xs) ≡ told ms (flat_map instr_names ys)) × (r ≡ s)
    block_told b xs ys r s x y nx ny px py e =
        let one = front_told (last_of b) (plain_last ns once b) (plain_last ms also b) x.front y.front r s (front_plain ns once b xs x nx px) (front_plain ms also b ys y ny py) x.others y.others
        (sym (block_lines ns once b xs r x) ∙ e ∙ block_lines ms also b ys s y) in
        (ap (told ns) (block_names b xs x) ∙ one.0 ∙ sym (ap (told ms) (block_names b ys y)), one.1)

    told_code : (names : List (List ℕ)) (c : Code) (cs : List Code)
        → told names (flat_map code_names (c ∷ cs)) ≡ told names (flat_map instr_names c.head) ++ (told names (flat_map instr_names c.body) ++ told names (flat_map code_names cs))
    told_code names c cs =
        let read : ℕ → List ℕ = λ n. get_or names n [] in
        let heads = flat_map instr_names c.head in
        let bodies = flat_map instr_names c.body in
        let rest = flat_map code_names cs in
        map_append read (heads ++ bodies) rest ∙ ap (λ t. t ++ map read rest) (map_append read heads bodies) ∙ append_assoc (map read heads) (map read bodies) (map read rest)

    -- codes with the same lines have the same names in one order
    codes_told : (k : ℕ) (cs ds : List Code) → AllByRecursion IsWholeCode cs → AllByRecursion IsWholeCode ds → AllByRecursion (HasCode ns) cs → AllByRecursion (HasCode ms) ds
        → AllByRecursion (HasPlainLines ns) cs → AllByRecursion (HasPlainLines ms) ds → all_lines ns k cs ≡ all_lines ms k ds → told ns (flat_map code_names cs) ≡ told ms (flat_map code_names ds)
    codes_told k [] [] w v h g p q e = refl
    codes_told k [] (d ∷ ds) w v h g p q e = absurd (cc)
    codes_told k (c ∷ cs) [] w v h g p q e = absurd (cc)
    codes_told k (c ∷ cs) (d ∷ ds) w v h g p q e =
        let heads = block_told true c.head d.head _ _ w.0.0 v.0.0 h.0.0 g.0.0 p.0.0 q.0.0 (tail_is e) in
        let bodies = block_told false c.body d.body _ _ w.0.1 v.0.1 h.0.1 g.0.1 p.0.1 q.0.1 heads.1 in
        let more = codes_told (k + 1) cs ds w.1 v.1 h.1 g.1 p.1 q.1 bodies.1 in
        told_code ns c cs ∙ (λ i. heads.0 i ++ (bodies.0 i ++ more i)) ∙ sym (told_code ms d ds)

-- so the lists of names are one where these are put in their order
pub listed_names_are_one : ListedNamesAreOne
listed_names_are_one n k l names later other cs ds text small once also a b x y c d =
    let many = c.many in
    let count = d.many in
    let lines = joined_one (all_lines later 0 cs) (all_lines other 0 ds) (all_whole later 0 cs (omega (arith, many, small)) c.plain) (all_whole other 0 ds (omega (arith, count, small)) d.plain)
    (sym (text_is later 0 cs) ∙ c.are ∙ sym d.are ∙ text_is other 0 ds) in
    lists_in_order_are_one k l names later other (flat_map code_names cs) (flat_map code_names ds) a b once also x y
    (codes_told later other once also 0 cs ds c.whole d.whole c.named d.named c.plain d.plain lines)
