-- The operands of a line, and the line.
use Rattle.std.proofs.Common.{◌≡◌, ◌≢◌, ◌+◌, ◌⊎◌, inl, inr, ℕ, Bool, true, false, List, [], ◌∷◌, ◌++◌, map, length, drop, take, refl, sym, ap, ◌∙◌, subst, arith}
use Rattle.std.specs.Prelude.{codes, slice_index_or, Option, Some, None, Result, Ok, Err, IfOk, IfSome, IfNone}
use Rattle.std.specs.List.{AllByRecursion, flat_map}
use Rattle.std.specs.Fmt.{decimal}
use Rattle.std.proofs.lemmas.List.{append_assoc, append-nil, length-append, get_or_append_left, append_cancel_right}
use Rattle.std.proofs.lemmas.List.Concat.{flat_map-append}
use Rattle.lmn_base.specs.declared.functor.Label.{Label}
use Rattle.lmn_base.specs.declared.functor.Label.TheVariants as label
use Rattle.lmn_base.proofs.Lists.{all_append, all_left, all_right, tail_is}
use Rattle.lmn_lexer.specs.NameText.{name_text}
use Rattle.lmn_instr_code.specs.declared.instr.Instr.{Instr}
use Rattle.lmn_instr_code.specs.declared.words.Operand.{Operand}
use Rattle.lmn_instr_code.specs.declared.words.Operand.TheVariants as operand
use Rattle.lmn_instr_code.specs.Labels.{HasLabel, listed_label_text}
use Rattle.lmn_instr_code.specs.Words.{mnemonic, operands, opcode_of}
use Rattle.lmn_instr_code.specs.Listings.{line, HasInstr, operand_text, operands_text, HasOperand}
use Rattle.lmn_verify_code.specs.Operands.{instr_names, operand_names}
use Rattle.lmn_instr_reading.specs.Reading.{AddsNames, IsShortLabel, NumbersNames}
use Rattle.lmn_instr_reading.proofs.NameLemmas.{adds_both}
use Rattle.lmn_instr_code.specs.declared.opcode.Opcode.{Opcode}
use Rattle.lmn_instr_code.specs.declared.opcode.Kind.{Kind}
use Rattle.lmn_instr_code.specs.declared.opcode.Kind.TheVariants as kind
use Rattle.lmn_instr_code.specs.declared.opcode.Form.{Form}
use Rattle.lmn_instr_code.specs.Opcodes.{opcode_name, form_of}
use Rattle.lmn_verify_listing.specs.Forms.{FitsForm, FitsKind, FitsSome, in_form, some_operand}
use Rattle.lmn_verify_listing.specs.Lines.{IsShortOperand, HasShortNames, FitsInstr, IsLine, IsPlaceOf, IsWholeLine}
use Rattle.lmn_verify_listing.specs.Listings.{HasPlainLine}
use Rattle.lmn_verify_listing.specs.Taking.{IsBehind, Follows, FollowsKind, one_text, some_names, some_text, HasSome, ShortSome, parts_text, AllSmall}
use Rattle.lmn_verify_listing.proofs.Places.{has_no_by_test, cut_there}
use Rattle.lmn_verify_listing.proofs.OperandLemmas.{parts_behind}
use Rattle.lmn_verify_listing.proofs.OpcodeLemmas.{no_space, is_functor, EndsWithFunctor, functor_ends}
use Rattle.lmn_base.proofs.Common.{numbers_both}

-- ---- the text of operands

some_is : (ns : List (List ℕ)) (k : Option Kind) (o : Operand) → operands_text ns (some_operand k o) ≡ some_text ns k o
some_is ns None o = refl
some_is ns (Some k) o = append-nil (one_text ns o)

parts_are : (ns : List (List ℕ)) (gs : List ℕ) → operands_text ns (map operand.Part gs) ≡ parts_text gs
parts_are ns [] = refl
parts_are ns (g ∷ gs) = ap (λ t. 32 ∷ 71 ∷ (decimal g ++ t)) (parts_are ns gs)

-- the operands of a form, one behind the other
pub form_text : (ns : List (List ℕ)) (f : Form) (x y z : Operand) (gs : List ℕ)
    → operands_text ns (in_form f x y z gs) ≡ some_text ns f.first x ++ (some_text ns f.second y ++ (some_text ns f.third z ++ parts_text gs))
form_text ns f x y z gs =
    let a = some_operand f.first x in
    let b = some_operand f.second y in
    let c = some_operand f.third z in
    let d = map operand.Part gs in
    let text : Operand → List ℕ = one_text ns in
    flat_map-append text a (b ++ (c ++ d)) ∙ (λ i. some_is ns f.first x i ++ (flat_map-append text b (c ++ d) ∙ (λ j. some_is ns f.second y j ++ (flat_map-append text c d ∙ (λ k. some_is ns f.third z k ++ parts_are ns gs k)) j)) i)

-- ---- each text of operands is taken apart in one way

pub record IsFormed (f : Form) (text : List ℕ) : Type 0 where
  pub x : Operand
  pub y : Operand
  pub z : Operand
  pub gs : List ℕ
  pub ns : List (List ℕ)
  pub short_x : ShortSome ns f.first x
  pub short_y : ShortSome ns f.second y
  pub short_z : ShortSome ns f.third z
  pub fits : FitsForm f x y z gs
  pub is : some_text ns f.first x ++ (some_text ns f.second y ++ (some_text ns f.third z ++ parts_text gs)) ≡ text

some_short : (ns : List (List ℕ)) (k : Option Kind) (o : Operand) → AllByRecursion (IsShortOperand ns) (some_operand k o) → ShortSome ns k o
some_short ns None o h = tt
some_short ns (Some k) o h = h.0

pub formed : (op : Opcode) (f : Form) (text : List ℕ) (i : Instr) (ns : List (List ℕ)) → f ≡ form_of op → opcode_of i ≡ op → FitsInstr i → HasShortNames ns i → operands_text ns (operands i) ≡ text → IsFormed f text
formed op f text i ns e o h short is =
    let same : form_of (opcode_of i) ≡ f = ap form_of o ∙ sym e in
    let whole = form_of (opcode_of i) in
    let all = subst (AllByRecursion (IsShortOperand ns)) h.are short in
    let later = all_right (IsShortOperand ns) (some_operand whole.first h.first) _ all in
    let last = all_right (IsShortOperand ns) (some_operand whole.second h.second) _ later in
    subst (λ g. IsFormed g text) same (record {
      x = h.first;
      y = h.second;
      z = h.third;
      gs = h.parts;
      ns = ns;
      short_x = some_short ns whole.first h.first (all_left (IsShortOperand ns) (some_operand whole.first h.first) _ all);
      short_y = some_short ns whole.second h.second (all_left (IsShortOperand ns) (some_operand whole.second h.second) _ later);
      short_z = some_short ns whole.third h.third (all_left (IsShortOperand ns) (some_operand whole.third h.third) _ last);
      fits = h.fits;
      is = sym (form_text ns (form_of (opcode_of i)) h.first h.second h.third h.parts) ∙ ap (operands_text ns) (sym h.are) ∙ is;
    })

some_behind : (ns : List (List ℕ)) (k : Option Kind) (o : Operand) (rest : List ℕ) → IsBehind rest → IsBehind (some_text ns k o ++ rest)
some_behind ns None o rest b = b
some_behind ns (Some k) o rest b = inr (operand_text ns o ++ rest, refl)

follows_any : (k : Option Kind) (rest : List ℕ) → IsBehind rest → (is_functor k ≡ true → rest ≡ []) → Follows k rest
follows_any None rest b n = tt
follows_any (Some kind.Functor) rest b n = n refl
follows_any (Some _) rest b n = b

ends : (op : Opcode) (f : Form) → f ≡ form_of op → EndsWithFunctor f
ends op f e = subst EndsWithFunctor (sym e) (functor_ends op)

abbrev pub behind_second : {f : Form} {text : List ℕ} → IsFormed f text → List ℕ
behind_second {f} p = some_text p.ns f.third p.z ++ parts_text p.gs

abbrev pub behind_first : {f : Form} {text : List ℕ} → IsFormed f text → List ℕ
behind_first {f} p = some_text p.ns f.second p.y ++ behind_second p

pub first_follows : (op : Opcode) (f : Form) (text : List ℕ) → f ≡ form_of op → (p : IsFormed f text) → Follows f.first (behind_first p)
first_follows op f text e p =
    follows_any f.first _ (some_behind p.ns f.second p.y _ (some_behind p.ns f.third p.z _ (parts_behind p.gs))) (λ t. absurd (let n = (ends op f e).first in cc))

pub second_follows : (op : Opcode) (f : Form) (text : List ℕ) → f ≡ form_of op → (p : IsFormed f text) → Follows f.second (behind_second p)
second_follows op f text e p =
    follows_any f.second _ (some_behind p.ns f.third p.z _ (parts_behind p.gs)) (λ t.
    let n = (ends op f e).second t in
    (λ i. some_text p.ns (n.0 i) p.z ++ parts_text (p.fits.few n.1 i)))

pub third_follows : (op : Opcode) (f : Form) (text : List ℕ) → f ≡ form_of op → (p : IsFormed f text) → Follows f.third (parts_text p.gs)
third_follows op f text e p =
    follows_any f.third _ (parts_behind p.gs) (λ t. ap parts_text (p.fits.few ((ends op f e).third t)))

-- ---- more names

more_text : (n : ℕ) (a b : List (List ℕ)) → AddsNames n a b → (o : Operand) → HasOperand a o → HasOperand b o × (operand_text b o ≡ operand_text a o) × (IsShortOperand a o → IsShortOperand b o)
more_text n a b g (operand.Functor f) h = go f.label h
  where
    go : (l : Label) → HasLabel a l → HasLabel b l × (listed_label_text b l ++ (codes "/" ++ decimal f.arity) ≡ listed_label_text a l ++ (codes "/" ++ decimal f.arity)) × (IsShortLabel a l → IsShortLabel b l)
    go (label.Name k) l =
        let size : length b ≡ length a + length g.more = ap length g.are ∙ length-append a g.more in
        let same : slice_index_or b k [] ≡ slice_index_or a k [] = ap (λ ns. slice_index_or ns k []) g.are ∙ get_or_append_left a g.more [] k l in
        (omega arith, ap (λ t. name_text t ++ (codes "/" ++ decimal f.arity)) same, λ short. (let longer = ap length same in omega arith))
    go (label.Int z) l = (tt, refl, λ s. s)
more_text n a b g (operand.Atom x) h = (tt, refl, λ s. s)
more_text n a b g (operand.Membrane x) h = (tt, refl, λ s. s)
more_text n a b g (operand.Part x) h = (tt, refl, λ s. s)
more_text n a b g (operand.Integer x) h = (tt, refl, λ s. s)
more_text n a b g (operand.Copy x) h = (tt, refl, λ s. s)
more_text n a b g (operand.Port x) h = (tt, refl, λ s. s)
more_text n a b g (operand.Number x) h = (tt, refl, λ s. s)
more_text n a b g (operand.Constant x) h = (tt, refl, λ s. s)

-- operands, instructions and code say the same with more names
more_operands : (n : ℕ) (a b : List (List ℕ)) → AddsNames n a b → (os : List Operand) → AllByRecursion (HasOperand a) os
    → AllByRecursion (HasOperand b) os × (operands_text b os ≡ operands_text a os) × (AllByRecursion (IsShortOperand a) os → AllByRecursion (IsShortOperand b) os)
more_operands n a b g [] h = (tt, refl, λ s. s)
more_operands n a b g (o ∷ os) h =
    let one = more_text n a b g o h.0 in
    let more = more_operands n a b g os h.1 in
    ((one.0, more.0), (λ j. 32 ∷ (one.1 j ++ more.1 j)), λ s. (one.2 s.0, more.2 s.1))

pub more_instr : (n : ℕ) (a b : List (List ℕ)) → AddsNames n a b → (i : Instr) → HasInstr a i → HasInstr b i × (line b i ≡ line a i) × (HasPlainLine a i → HasPlainLine b i)
more_instr n a b g i h =
    let more = more_operands n a b g (operands i) h in
    let same : line b i ≡ line a i = ap (λ t. 32 ∷ 32 ∷ (mnemonic i ++ (t ++ codes "\n"))) more.1 in
    (more.0, same, λ s. (more.2 s.0, subst IsWholeLine (sym same) s.1))

pub more_instrs : (n : ℕ) (a b : List (List ℕ)) → AddsNames n a b → (is : List Instr) → AllByRecursion (HasInstr a) is
    → AllByRecursion (HasInstr b) is × (flat_map (line b) is ≡ flat_map (line a) is) × (AllByRecursion (HasPlainLine a) is → AllByRecursion (HasPlainLine b) is)
more_instrs n a b g [] h = (tt, refl, λ s. s)
more_instrs n a b g (i ∷ is) h =
    let one = more_instr n a b g i h.0 in
    let more = more_instrs n a b g is h.1 in
    ((one.0, more.0), (λ j. one.1 j ++ more.1 j), λ s. (one.2 s.0, more.2 s.1))

more_some : (n : ℕ) (a b : List (List ℕ)) → AddsNames n a b → (k : Option Kind) (o : Operand) → HasSome a k o → HasSome b k o × (some_text b k o ≡ some_text a k o) × (ShortSome a k o → ShortSome b k o)
more_some n a b g None o h = (tt, refl, λ s. s)
more_some n a b g (Some k) o h = let m = more_text n a b g o h in (m.0, ap (λ t. 32 ∷ t) m.1, m.2)

some_named : (a : List (List ℕ)) (k : Option Kind) (o : Operand) → HasSome a k o → AllByRecursion (HasOperand a) (some_operand k o)
some_named a None o h = tt
some_named a (Some k) o h = (h, tt)

parts_named : (a : List (List ℕ)) (gs : List ℕ) → AllByRecursion (HasOperand a) (map operand.Part gs)
parts_named a [] = tt
parts_named a (g ∷ gs) = (tt, parts_named a gs)

some_shorts : (a : List (List ℕ)) (k : Option Kind) (o : Operand) → ShortSome a k o → AllByRecursion (IsShortOperand a) (some_operand k o)
some_shorts a None o h = tt
some_shorts a (Some k) o h = (h, tt)

parts_short : (a : List (List ℕ)) (gs : List ℕ) → AllByRecursion (IsShortOperand a) (map operand.Part gs)
parts_short a [] = tt
parts_short a (g ∷ gs) = (tt, parts_short a gs)

-- ---- what is read

-- an operand that was taken
abbrev pub Took : List (List ℕ) → Option Kind → Operand → List ℕ → List ℕ → Type 0
Took names k o rest text = FitsSome k o × HasSome names k o × ShortSome names k o × (some_text names k o ++ rest ≡ text)

pub instr_read : (op : Opcode) (f : Form) (a b c : List (List ℕ)) (x y z : Operand) (gs text r s t : List ℕ) (i : Instr) → f ≡ form_of op
    → AddsNames 1 a b → AddsNames 1 b c → Took a f.first x r text → Took b f.second y s r → Took c f.third z t s
    → AllSmall gs × (f.parts ≡ false → gs ≡ []) × (parts_text gs ≡ t) → opcode_of i ≡ op → operands i ≡ in_form (form_of op) x y z gs
    → (opcode_of i ≡ op) × FitsInstr i × HasInstr c i × HasShortNames c i × (operands_text c (operands i) ≡ text)
instr_read op f a b c x y z gs text r s t i e g h one two three last o are =
    let whole : operands i ≡ in_form f x y z gs = are ∙ ap (λ w. in_form w x y z gs) (sym e) in
    let same : f ≡ form_of (opcode_of i) = e ∙ ap form_of (sym o) in
    let first = more_some 2 a c (adds_both 1 1 a b c g h) f.first x one.1 in
    let second = more_some 1 b c h f.second y two.1 in (
      o,
      record {
        first = x;
        second = y;
        third = z;
        parts = gs;
        fits = subst (λ w. FitsForm w x y z gs) same (record { first = one.0; second = two.0; third = three.0; few = last.1; parts = last.0 });
        are = whole ∙ ap (λ w. in_form w x y z gs) same;
      },
      subst (AllByRecursion (HasOperand c)) (sym whole)
          (all_append (HasOperand c) (some_operand f.first x) _ (some_named c f.first x first.0)
          (all_append (HasOperand c) (some_operand f.second y) _ (some_named c f.second y second.0)
          (all_append (HasOperand c) (some_operand f.third z) _ (some_named c f.third z three.1) (parts_named c gs)))),
      subst (AllByRecursion (IsShortOperand c)) (sym whole)
          (all_append (IsShortOperand c) (some_operand f.first x) _ (some_shorts c f.first x (first.2 one.2))
          (all_append (IsShortOperand c) (some_operand f.second y) _ (some_shorts c f.second y (second.2 two.2))
          (all_append (IsShortOperand c) (some_operand f.third z) _ (some_shorts c f.third z three.2) (parts_short c gs)))),
      ap (operands_text c) whole ∙ form_text c f x y z gs
          ∙ (λ j. first.1 j ++ (second.1 j ++ (some_text c f.third z ++ last.2 j)))
          ∙ ap (λ u. some_text a f.first x ++ (some_text b f.second y ++ u)) three.3
          ∙ ap (λ u. some_text a f.first x ++ u) two.3
          ∙ one.3,
    )

pub three_more : (a b c d : List (List ℕ)) → AddsNames 1 a b → AddsNames 1 b c → AddsNames 1 c d → AddsNames 3 a d
three_more a b c d g h k = adds_both 2 1 a c d (adds_both 1 1 a b c g h) k

-- what holds of each operand that was taken
pub each_taken : {T : Type 0} (r : Option T) (P Q : T → Type 0) → IfSome r P → ((t : T) → P t → Q t) → IfSome r Q
each_taken None P Q h f = tt
each_taken (Some t) P Q h f = f t h

-- behind an operand of a kind without names nothing stands, or a space first
pub plain_behind : (k : Kind) (rest : List ℕ) → k ≢ kind.Functor → FollowsKind k rest → IsBehind rest
plain_behind kind.Functor rest n b = absurd (n refl)
plain_behind _ rest n b = b

-- ---- the names of what is read

-- an operand of a kind without names has none
pub nameless : (k : Kind) (o : Operand) → k ≢ kind.Functor → FitsKind k o → operand_names o ≡ []
nameless kind.Atom (operand.Atom x) n h = refl
nameless kind.Membrane (operand.Membrane x) n h = refl
nameless kind.Part (operand.Part x) n h = refl
nameless kind.Integer (operand.Integer x) n h = refl
nameless kind.Copy (operand.Copy x) n h = refl
nameless kind.Port (operand.Port x) n h = refl
nameless kind.NewPort (operand.Port x) n h = refl
nameless kind.NewPort (operand.Copy x) n h = refl
nameless kind.Functor o n h = absurd (n refl)
nameless kind.Index (operand.Number x) n h = refl
nameless kind.Count (operand.Number x) n h = refl
nameless kind.Rule (operand.Number x) n h = refl
nameless kind.Constant (operand.Constant x) n h = refl
nameless _ _ n h = absurd h

names_of_some : (k : Option Kind) (o : Operand) → flat_map operand_names (some_operand k o) ≡ some_names k o
names_of_some None o = refl
names_of_some (Some k) o = append-nil (operand_names o)

names_of_parts : (gs : List ℕ) → flat_map operand_names (map operand.Part gs) ≡ []
names_of_parts [] = refl
names_of_parts (g ∷ gs) = names_of_parts gs

-- the names of the operands of a form
pub names_of_form : (f : Form) (x y z : Operand) (gs : List ℕ) → flat_map operand_names (in_form f x y z gs) ≡ some_names f.first x ++ (some_names f.second y ++ some_names f.third z)
names_of_form f x y z gs =
    let a = some_operand f.first x in
    let b = some_operand f.second y in
    let c = some_operand f.third z in
    let d = map operand.Part gs in
    let last : flat_map operand_names (c ++ d) ≡ some_names f.third z = flat_map-append operand_names c d ∙ (λ k. names_of_some f.third z k ++ names_of_parts gs k) ∙ append-nil (some_names f.third z) in
    flat_map-append operand_names a (b ++ (c ++ d)) ∙ (λ i. names_of_some f.first x i ++ (flat_map-append operand_names b (c ++ d) ∙ (λ j. names_of_some f.second y j ++ last j)) i)

-- the names of an instruction that was read are put in their order
pub instr_in_order : (op : Opcode) (f : Form) (a b c d : List (List ℕ)) (x y z : Operand) (gs : List ℕ) (i : Instr) → f ≡ form_of op → operands i ≡ in_form (form_of op) x y z gs
    → NumbersNames a (some_names f.first x) b → NumbersNames b (some_names f.second y) c → NumbersNames c (some_names f.third z) d → NumbersNames a (instr_names i) d
instr_in_order op f a b c d x y z gs i e are g h k =
    let whole : operands i ≡ in_form f x y z gs = are ∙ ap (λ w. in_form w x y z gs) (sym e) in
    subst (λ ns. NumbersNames a ns d) (sym (ap (flat_map operand_names) whole ∙ names_of_form f x y z gs)) (numbers_both g (numbers_both h k))

-- ---- the line

-- the text of operands is empty, or begins with a space
pub operands_behind : (ns : List (List ℕ)) (os : List Operand) → (operands_text ns os ≡ []) ⊎ ((more : List ℕ) × (operands_text ns os ≡ 32 ∷ more))
operands_behind ns [] = inl refl
operands_behind ns (o ∷ os) = inr (operand_text ns o ++ operands_text ns os, refl)

-- what stands between the spaces and the line feed
pub within_line : (b : Bool) (text : List ℕ) (l : IsLine b text) → codes "  " ++ ((mnemonic l.instr ++ operands_text l.names (operands l.instr)) ++ codes "\n") ≡ text
within_line b text l =
    ap (λ t. 32 ∷ 32 ∷ t) (append_assoc (mnemonic l.instr) (operands_text l.names (operands l.instr)) (codes "\n")) ∙ l.is

-- it is cut at its first space
pub line_cut : (b : Bool) (text inside : List ℕ) (at : ℕ) (l : IsLine b text) → codes "  " ++ (inside ++ codes "\n") ≡ text → IsPlaceOf 32 inside at
    → (opcode_name (opcode_of l.instr) ≡ take at inside) × (operands_text l.names (operands l.instr) ≡ drop at inside)
line_cut b text inside at l e p =
    let same : mnemonic l.instr ++ operands_text l.names (operands l.instr) ≡ inside =
    append_cancel_right _ inside (codes "\n") (tail_is (tail_is (within_line b text l ∙ sym e))) in
    let cut = cut_there 32 inside (opcode_name (opcode_of l.instr)) (operands_text l.names (operands l.instr)) at p
    (has_no_by_test 32 (opcode_name (opcode_of l.instr)) (no_space (opcode_of l.instr))) (operands_behind l.names (operands l.instr)) same in
    (sym cut.0, sym cut.1)

-- no line where none is read of its operands
pub then_none : {T E : Type 0} (r : Result (Option T) E) (P Q : Type 0) → IfOk r (λ f. IfNone f P) → (P → Q) → IfOk r (λ f. IfNone f Q)
then_none (Ok None) P Q h f = f h
then_none (Ok (Some x)) P Q h f = tt
then_none (Err e) P Q h f = tt
