-- The line of an instruction by any list of names is one by each list that is held, behind which its own name is put.
use Rattle.std.proofs.Common.{◌≡◌, ◌<◌, ◌^◌, ℕ, Bool, true, false, List, [], ◌∷◌, ◌++◌, map, length, Contains, slice_get, Some, refl, sym, ap, ◌∙◌, subst, arith, true≢false}
use Rattle.std.specs.Prelude.{codes, bytes_eq, slice_index_or}
use Rattle.std.specs.List.{AllByRecursion, flat_map, list_any}
use Rattle.std.specs.Fmt.{decimal}
use Rattle.std.specs.Cmp.Lexicographic.{nat_list_eq_equiv}
use Rattle.std.proofs.lemmas.List.{append-nil}
use Rattle.std.proofs.lemmas.Map.Views.{list_any-from_Contains, Contains-from_any}
use Rattle.std.proofs.lemmas.Option.{slice_get-get_or}
use Rattle.std.proofs.lemmas.Slice.Eq.{bytes_eq-Decides}
use Rattle.lmn_base.specs.Links.{no_more}
use Rattle.lmn_base.specs.Names.{IsNames, label_names}
use Rattle.lmn_base.specs.declared.functor.Functor.{Functor}
use Rattle.lmn_base.specs.declared.functor.Label.{Label}
use Rattle.lmn_base.specs.declared.functor.Label.TheVariants as label
use Rattle.lmn_base.proofs.HeldNames.{get_last, one_more}
use Rattle.lmn_base.proofs.Lists.{head_is, tail_is}
use Rattle.lmn_instr_code.specs.Labels.{HasLabel, listed_label_text}
use Rattle.lmn_instr_code.specs.Listings.{line, HasInstr, HasOperand, operand_text, operands_text}
use Rattle.lmn_instr_code.specs.Words.{mnemonic, operands, opcode_of}
use Rattle.lmn_instr_code.specs.declared.instr.Instr.{Instr}
use Rattle.lmn_instr_code.specs.declared.instr.Instr.TheVariants.{FindAtom, Func, IsClosed, NAtoms, NewAtom, NewLink, Relink}
use Rattle.lmn_instr_code.specs.declared.instr.NewPort.TheVariants as new
use Rattle.lmn_instr_reading.specs.Reading.{AddsNames, IsShortLabel, NumbersNames}
use Rattle.lmn_instr_reading.proofs.NameLemmas.{adds_more, adds_none, named_text, numbers_put, short_named}
use Rattle.lmn_verify_code.specs.Operands.{instr_names, operand_names}
use Rattle.lmn_instr_code.specs.declared.words.Operand.{Operand}
use Rattle.lmn_instr_code.specs.declared.words.Operand.TheVariants as operand
use Rattle.lmn_verify_listing.specs.Lines.{FitsInstr, HasShortNames, IsShortOperand}
use Rattle.lmn_verify_listing.specs.Forms.{FitsKind, FitsLabel}
use Rattle.lmn_instr_code.specs.declared.opcode.Kind.TheVariants as kind

-- ---- a label

-- A label with the same text by a list that has its name: the list that is held, with one name behind it at most.
record SaidLabel (ns names : List (List ℕ)) (l : Label) : Type 0 where
  pub later : List (List ℕ)
  pub again : Label
  pub adds : AddsNames 1 names later
  pub once : IsNames later
  pub has : HasLabel later again
  pub short : IsShortLabel later again
  pub fits : FitsLabel again
  pub text : listed_label_text later again ≡ listed_label_text ns l
  pub order : NumbersNames names (label_names again) later

module _ (ns names : List (List ℕ)) (once : IsNames names) (room : length names < 2 ^ 32) where
  -- the label is a name that has this number in the later list
  named_so : (n : ℕ) → IsShortLabel ns (label.Name n) → (later : List (List ℕ)) (k : ℕ) → AddsNames 1 names later → IsNames later → k < 2 ^ 32 → slice_get later k ≡ Some (slice_index_or ns n [])
      → (Contains names (slice_index_or ns n []) → later ≡ names) → (¬ (Contains names (slice_index_or ns n [])) → later ≡ names ++ slice_index_or ns n [] ∷ []) → SaidLabel ns names (label.Name n)
  named_so n short later k adds whole low is held absent =
      let at = named_text later k (slice_index_or ns n []) is in
      record {
        later = later;
        again = label.Name k;
        adds = adds;
        once = whole;
        has = at.0;
        short = short_named later k (slice_index_or ns n []) is short;
        fits = low;
        text = at.1;
        order = numbers_put names later (slice_index_or ns n []) k is held absent;
      }

  said_label : (l : Label) → IsShortLabel ns l → FitsLabel l → SaidLabel ns names l
  said_label (label.Int z) short fits =
      record { later = names; again = label.Int z; adds = adds_none 1 names; once = once; has = tt; short = tt; fits = fits; text = refl; order = no_more }
  said_label (label.Name n) short fits = by (list_any (bytes_eq (slice_index_or ns n [])) names) refl
    where
      by : (b : Bool) → list_any (bytes_eq (slice_index_or ns n [])) names ≡ b → SaidLabel ns names (label.Name n)
      by true e =
          let there = Contains-from_any (λ x y. (bytes_eq-Decides x y).0) (slice_index_or ns n []) names e in
          let low = there.1 in
          named_so n short names there.0 (adds_none 1 names) once (omega (arith, low, room)) (slice_get-get_or names there.0 (slice_index_or ns n []) there.1 ∙ ap Some there.2) (λ h. refl) (λ none. absurd (none there))
      by false e =
          let none : ¬ (Contains names (slice_index_or ns n [])) = λ there. true≢false (sym (list_any-from_Contains nat_list_eq_equiv (slice_index_or ns n []) names there) ∙ e) in
          named_so n short (names ++ slice_index_or ns n [] ∷ []) (length names) (record { more = slice_index_or ns n [] ∷ []; are = refl; few = omega arith }) (one_more names (slice_index_or ns n []) once none) room
          (get_last names (slice_index_or ns n [])) (λ there. absurd (none there)) (λ h. refl)

-- ---- operands

-- none of the operands is a functor
abbrev are_nameless : List Operand → Bool
are_nameless [] = true
are_nameless (operand.Functor f ∷ os) = false
are_nameless (_ ∷ os) = are_nameless os

parts_nameless : (gs : List ℕ) → are_nameless (map operand.Part gs) ≡ true
parts_nameless [] = refl
parts_nameless (g ∷ gs) = parts_nameless gs

-- operands without names before others say the same by each list
module _ (a b : List (List ℕ)) (xs ys : List Operand) where
  front_named : (os : List Operand) → are_nameless os ≡ true → AllByRecursion (HasOperand a) xs → AllByRecursion (HasOperand a) (os ++ xs)
  front_named [] e h = h
  front_named (operand.Functor f ∷ os) e h = absurd (true≢false (sym e))
  front_named (o ∷ os) e h = (tt, front_named os e h)

  front_short : (os : List Operand) → are_nameless os ≡ true → AllByRecursion (IsShortOperand a) xs → AllByRecursion (IsShortOperand a) (os ++ xs)
  front_short [] e h = h
  front_short (operand.Functor f ∷ os) e h = absurd (true≢false (sym e))
  front_short (o ∷ os) e h = (tt, front_short os e h)

  front_text : (os : List Operand) → are_nameless os ≡ true → operands_text a xs ≡ operands_text b ys → operands_text a (os ++ xs) ≡ operands_text b (os ++ ys)
  front_text [] e h = h
  front_text (operand.Functor f ∷ os) e h = absurd (true≢false (sym e))
  front_text (o ∷ os) e h = ap (λ t. 32 ∷ (operand_text a o ++ t)) (front_text os e h)

  front_names : (os : List Operand) → are_nameless os ≡ true → flat_map operand_names (os ++ xs) ≡ flat_map operand_names xs
  front_names [] e = refl
  front_names (operand.Functor f ∷ os) e = absurd (true≢false (sym e))
  front_names (o ∷ os) e = front_names os e

-- ---- an instruction

-- An instruction with the same line by such a list.
pub record Relabelled (ns names : List (List ℕ)) (i : Instr) : Type 0 where
  pub later : List (List ℕ)
  pub again : Instr
  pub adds : AddsNames 3 names later
  pub once : IsNames later
  pub opcode : opcode_of again ≡ opcode_of i
  pub fits : FitsInstr again
  pub named : HasInstr later again
  pub short : HasShortNames later again
  pub text : line later again ≡ line ns i
  pub order : NumbersNames names (instr_names again) later

module _ (ns names : List (List ℕ)) where
  -- its last operands are others, by a later list
  with_last : (i again : Instr) (front xs ys : List Operand) (later : List (List ℕ)) → operands again ≡ front ++ xs → operands i ≡ front ++ ys → are_nameless front ≡ true → mnemonic again ≡ mnemonic i → opcode_of again ≡ opcode_of i
      → FitsInstr again → AddsNames 3 names later → IsNames later → AllByRecursion (HasOperand later) xs → AllByRecursion (IsShortOperand later) xs → operands_text later xs ≡ operands_text ns ys
      → NumbersNames names (flat_map operand_names xs) later → Relabelled ns names i
  with_last i again front xs ys later made old nameless name code fits adds once has short text order = record {
    later = later;
    again = again;
    adds = adds;
    once = once;
    opcode = code;
    fits = fits;
    named = subst (AllByRecursion (HasOperand later)) (sym made) (front_named later ns xs ys front nameless has);
    short = subst (AllByRecursion (IsShortOperand later)) (sym made) (front_short later ns xs ys front nameless short);
    text =
        let same : operands_text later (operands again) ≡ operands_text ns (operands i) =
        ap (operands_text later) made ∙ front_text later ns xs ys front nameless text ∙ ap (operands_text ns) (sym old) in
        λ j. 32 ∷ 32 ∷ (name j ++ (same j ++ codes "\n"));
    order = subst (λ ks. NumbersNames names ks later) (sym (ap (flat_map operand_names) made ∙ front_names later ns xs ys front nameless)) order;
  }

  module _ (once : IsNames names) (room : length names < 2 ^ 32) where
    -- an instruction without a functor stays as it is
    unnamed : (i : Instr) → FitsInstr i → are_nameless (operands i) ≡ true → Relabelled ns names i
    unnamed i fits nameless =
        let whole : operands i ≡ operands i ++ [] = sym (append-nil (operands i)) in
        with_last i i (operands i) [] [] names whole whole nameless refl refl fits (adds_none 3 names) once tt tt refl no_more

    -- one whose last operand is a functor
    with_functor : (i again : Instr) (front : List Operand) (f : Functor) (p : SaidLabel ns names f.label) → operands again ≡ front ++ operand.Functor (record { label = p.again; arity = f.arity }) ∷ [] → operands i ≡ front ++ operand.Functor f ∷ []
        → are_nameless front ≡ true → mnemonic again ≡ mnemonic i → opcode_of again ≡ opcode_of i → FitsInstr again → Relabelled ns names i
    with_functor i again front f p made old nameless name code fits =
        with_last i again front (operand.Functor (record { label = p.again; arity = f.arity }) ∷ []) (operand.Functor f ∷ []) p.later made old nameless name code fits (adds_more 1 3 names p.later (omega arith) p.adds) p.once (p.has, tt) (p.short, tt)
        (ap (λ t. 32 ∷ ((t ++ (codes "/" ++ decimal f.arity)) ++ [])) p.text) (subst (λ ks. NumbersNames names ks p.later) (sym (append-nil (label_names p.again))) p.order)

    -- each line of an instruction is one by these names
    pub relabelled : (i : Instr) → FitsInstr i → HasShortNames ns i → Relabelled ns names i
    relabelled (FindAtom a m f) h short =
        let third = subst (FitsKind kind.Functor) (sym (head_is (tail_is (tail_is h.are)))) h.fits.third in
        let p = said_label ns names once room f.label short.1.1.0 third.0 in
        with_functor (FindAtom a m f) (FindAtom a m (record { label = p.again; arity = f.arity })) (operand.Atom a ∷ operand.Membrane m ∷ []) f p refl refl refl refl refl (record {
          first = operand.Atom a;
          second = operand.Membrane m;
          third = operand.Functor (record { label = p.again; arity = f.arity });
          parts = [];
          fits = record {
            first = subst (FitsKind kind.Atom) (sym (head_is h.are)) h.fits.first;
            second = subst (FitsKind kind.Membrane) (sym (head_is (tail_is h.are))) h.fits.second;
            third = (p.fits, third.1);
            few = λ e. refl;
            parts = tt;
          };
          are = refl;
        })
    relabelled (Func a f) h short =
        let second = subst (FitsKind kind.Functor) (sym (head_is (tail_is h.are))) h.fits.second in
        let p = said_label ns names once room f.label short.1.0 second.0 in
        with_functor (Func a f) (Func a (record { label = p.again; arity = f.arity })) (operand.Atom a ∷ []) f p refl refl refl refl refl (record {
          first = operand.Atom a;
          second = operand.Functor (record { label = p.again; arity = f.arity });
          third = operand.Atom a;
          parts = [];
          fits = record { first = subst (FitsKind kind.Atom) (sym (head_is h.are)) h.fits.first; second = (p.fits, second.1); third = tt; few = λ e. refl; parts = tt };
          are = refl;
        })
    relabelled (NewAtom a m f) h short =
        let third = subst (FitsKind kind.Functor) (sym (head_is (tail_is (tail_is h.are)))) h.fits.third in
        let p = said_label ns names once room f.label short.1.1.0 third.0 in
        with_functor (NewAtom a m f) (NewAtom a m (record { label = p.again; arity = f.arity })) (operand.Atom a ∷ operand.Membrane m ∷ []) f p refl refl refl refl refl (record {
          first = operand.Atom a;
          second = operand.Membrane m;
          third = operand.Functor (record { label = p.again; arity = f.arity });
          parts = [];
          fits = record {
            first = subst (FitsKind kind.Atom) (sym (head_is h.are)) h.fits.first;
            second = subst (FitsKind kind.Membrane) (sym (head_is (tail_is h.are))) h.fits.second;
            third = (p.fits, third.1);
            few = λ e. refl;
            parts = tt;
          };
          are = refl;
        })
    relabelled (NAtoms m n gs) h short = unnamed (NAtoms m n gs) h (parts_nameless gs)
    relabelled (IsClosed m gs) h short = unnamed (IsClosed m gs) h (parts_nameless gs)
    relabelled (NewLink (new.Atom p) (new.Atom q)) h short = unnamed (NewLink (new.Atom p) (new.Atom q)) h refl
    relabelled (NewLink (new.Atom p) (new.Copy q)) h short = unnamed (NewLink (new.Atom p) (new.Copy q)) h refl
    relabelled (NewLink (new.Copy p) (new.Atom q)) h short = unnamed (NewLink (new.Copy p) (new.Atom q)) h refl
    relabelled (NewLink (new.Copy p) (new.Copy q)) h short = unnamed (NewLink (new.Copy p) (new.Copy q)) h refl
    relabelled (Relink (new.Atom p) q) h short = unnamed (Relink (new.Atom p) q) h refl
    relabelled (Relink (new.Copy p) q) h short = unnamed (Relink (new.Copy p) q) h refl
    relabelled i h short = unnamed i h refl
