-- Operands and their texts.
use Rattle.std.proofs.Common.{◌≡◌, ◌≢◌, ◌<◌, ◌-◌, ◌+◌, ◌^◌, inl, inr, ℕ, Bool, true, false, List, [], ◌∷◌, ◌++◌, map, length, drop, take, refl, sym, ap, ◌∙◌, subst, arith}
use Rattle.std.specs.Prelude.{◌==◌, codes, slice_index_or}
use Rattle.std.specs.Fmt.{decimal}
use Rattle.std.proofs.lemmas.List.{append_assoc, append-nil, drop-drop, take_rest, length-append}
use Rattle.std.proofs.lemmas.List.Concat.{flat_map-append}
use Rattle.lmn_base.specs.declared.functor.Functor.{Functor}
use Rattle.lmn_base.specs.declared.functor.Label.{Label}
use Rattle.lmn_base.specs.declared.functor.Label.TheVariants as label
use Rattle.lmn_base.proofs.Lists.{all_append, map_append, tail_is}
use Rattle.lmn_instr_code.specs.declared.words.Operand.{Operand}
use Rattle.lmn_instr_code.specs.declared.words.Operand.TheVariants as operand
use Rattle.lmn_instr_code.specs.Labels.{listed_label_text}
use Rattle.lmn_instr_code.specs.Listings.{operand_text, operands_text}
use Rattle.lmn_instr_reading.specs.Reading.{IsIn64Bits, IsLabelText, IsFunctorText, IsShortLabel}
use Rattle.lmn_instr_code.specs.declared.opcode.Kind.{Kind}
use Rattle.lmn_instr_code.specs.declared.opcode.Kind.TheVariants as kind
use Rattle.lmn_verify_listing.specs.Forms.{FitsKind, FitsLabel}
use Rattle.lmn_verify_listing.specs.Lines.{IsShortOperand, HasNo, IsPlaceOf}
use Rattle.lmn_verify_listing.specs.Taking.{IsBehind, one_text, parts_text, AllSmall}
use Rattle.lmn_verify_listing.proofs.Places.{has_no_decimal, has_no_signed, cut_there, place_is}

-- the numbers of an operand of any kind
abbrev FitsAny : Operand → Type 0
FitsAny (operand.Atom a) = a < 2 ^ 16
FitsAny (operand.Membrane m) = m < 2 ^ 16
FitsAny (operand.Part g) = g < 2 ^ 16
FitsAny (operand.Integer v) = v < 2 ^ 16
FitsAny (operand.Copy c) = c < 2 ^ 16
FitsAny (operand.Port p) = (p.atom < 2 ^ 16) × (p.port < 2 ^ 8)
FitsAny (operand.Functor f) = Unit {0}
FitsAny (operand.Number n) = n < 2 ^ 64
FitsAny (operand.Constant z) = IsIn64Bits z

fits_any : (k : Kind) (o : Operand) → FitsKind k o → FitsAny o
fits_any kind.Atom (operand.Atom a) h = h
fits_any kind.Membrane (operand.Membrane m) h = h
fits_any kind.Part (operand.Part g) h = h
fits_any kind.Integer (operand.Integer v) h = h
fits_any kind.Copy (operand.Copy c) h = h
fits_any kind.Port (operand.Port p) h = h
fits_any kind.NewPort (operand.Port p) h = h
fits_any kind.NewPort (operand.Copy c) h = h
fits_any kind.Functor (operand.Functor f) h = tt
fits_any kind.Index (operand.Number n) h = omega arith
fits_any kind.Count (operand.Number n) h = h
fits_any kind.Rule (operand.Number n) h = omega arith
fits_any kind.Constant (operand.Constant z) h = h
fits_any _ _ h = absurd h

-- a functor is of one kind alone
functor_kind : (k : Kind) (f : Functor) → FitsKind k (operand.Functor f) → k ≡ kind.Functor
functor_kind kind.Functor f h = refl
functor_kind _ f h = absurd h

-- the letter of a register is no space
not_space : (n : ℕ) → 32 < n → n ≢ 32
not_space n l e = omega arith

register_no_space : (letter n : ℕ) → 32 < letter → n < 2 ^ 16 → HasNo 32 (letter ∷ decimal n)
register_no_space letter n l small = (not_space letter l, has_no_decimal 32 n (omega arith) (omega arith))

-- the text of an operand that is no functor has no space
pub operand_no_space : (k : Kind) (o : Operand) (ns : List (List ℕ)) → k ≢ kind.Functor → FitsKind k o → HasNo 32 (operand_text ns o)
operand_no_space k o ns n h = go o (fits_any k o h) (λ f e. n (functor_kind k f (subst (FitsKind k) e h)))
  where
    go : (o : Operand) → FitsAny o → ((f : Functor) → o ≡ operand.Functor f → ⊥) → HasNo 32 (operand_text ns o)
    go (operand.Atom a) small none = register_no_space 65 a (omega arith) small
    go (operand.Membrane m) small none = register_no_space 77 m (omega arith) small
    go (operand.Part g) small none = register_no_space 71 g (omega arith) small
    go (operand.Integer v) small none = register_no_space 86 v (omega arith) small
    go (operand.Copy c) small none = register_no_space 67 c (omega arith) small
    go (operand.Port p) small none = (
      not_space 65 (omega arith),
      all_append (λ b. b ≢ 32) (decimal p.atom) (46 ∷ decimal p.port) (has_no_decimal 32 p.atom (omega arith) (omega (arith, small.0)))
          (not_space 46 (omega arith), has_no_decimal 32 p.port (omega arith) (omega (arith, small.1))),
    )
    go (operand.Functor f) small none = absurd (none f refl)
    go (operand.Number n) small none = has_no_decimal 32 n (omega arith) small
    go (operand.Constant z) small none = has_no_signed 32 z (omega arith) small

-- what stands behind a space, where an operand stands first: its text, and then the rest
pub operand_first : (k : Kind) (o : Operand) (ns : List (List ℕ)) (text space behind rest : List ℕ) (at : ℕ) → k ≢ kind.Functor → FitsKind k o → IsBehind rest
    → one_text ns o ++ rest ≡ text → text ≡ space ++ behind → space ≡ codes " " → IsPlaceOf 32 behind at
    → (take at behind ≡ operand_text ns o) × (take (length behind - at) (drop at behind) ≡ rest)
operand_first k o ns text space behind rest at n h b e cut is p =
    let same : operand_text ns o ++ rest ≡ behind = tail_is (e ∙ cut ∙ ap (λ s. s ++ behind) is) in
    let parts = cut_there 32 behind (operand_text ns o) rest at p (operand_no_space k o ns n h) b same in
    (parts.0, take_rest behind at ∙ parts.1)

-- ---- ports

abbrev PortText : List ℕ → ℕ → ℕ → Type 0
PortText text a i = 65 ∷ (decimal a ++ 46 ∷ decimal i) ≡ text

port_cut : (text : List ℕ) (a i at : ℕ) → a < 2 ^ 16 → PortText text a i → IsPlaceOf 46 text at → (take at text ≡ 65 ∷ decimal a) × (drop at text ≡ 46 ∷ decimal i)
port_cut text a i at l e p =
    cut_there 46 text (65 ∷ decimal a) (46 ∷ decimal i) at p ((λ q. omega (arith, q)), has_no_decimal 46 a (omega arith) (omega arith)) (inr (decimal i, refl)) e

pub port_register : (text : List ℕ) (a i at : ℕ) → a < 2 ^ 16 → PortText text a i → IsPlaceOf 46 text at → 65 ∷ decimal a ≡ take at text
port_register text a i at l e p = sym (port_cut text a i at l e p).0

pub port_index : (text : List ℕ) (a i at : ℕ) → a < 2 ^ 16 → PortText text a i → IsPlaceOf 46 text at → decimal i ≡ take (length text - (at + 1)) (drop (at + 1) text)
port_index text a i at l e p =
    sym (ap (drop 1) (port_cut text a i at l e p).1) ∙ drop-drop 1 at text ∙ sym (take_rest text (at + 1))

pub port_within : (text : List ℕ) (a i at : ℕ) → a < 2 ^ 16 → PortText text a i → IsPlaceOf 46 text at → at ≡ length text → ⊥
port_within text a i at l e p whole =
    let n = place_is 46 text (65 ∷ decimal a) (46 ∷ decimal i) at p ((λ q. omega (arith, q)), has_no_decimal 46 a (omega arith) (omega arith)) (inr (decimal i, refl)) e in
    let size : length text ≡ length (65 ∷ decimal a) + length (46 ∷ decimal i) = ap length (sym e) ∙ length-append (65 ∷ decimal a) (46 ∷ decimal i) in
    omega arith

-- ---- functors

label_is_text : (ns : List (List ℕ)) (l : Label) → IsShortLabel ns l → FitsLabel l → IsLabelText (listed_label_text ns l)
label_is_text ns (label.Name n) short h = inl (slice_index_or ns n [], short, refl)
label_is_text ns (label.Int z) short h = inr (z, h, refl)

pub functor_is_text : (o : Operand) (ns : List (List ℕ)) (text : List ℕ) → FitsKind kind.Functor o → IsShortOperand ns o → operand_text ns o ≡ text → IsFunctorText text
functor_is_text (operand.Functor f) ns text h short e =
    (listed_label_text ns f.label, f.arity, label_is_text ns f.label short h.0, (let l = h.1 in omega arith), e)
functor_is_text _ ns text h short e = absurd h

-- ---- typed contexts

pub parts_behind : (gs : List ℕ) → IsBehind (parts_text gs)
parts_behind [] = inl refl
parts_behind (g ∷ gs) = inr (71 ∷ decimal g ++ parts_text gs, refl)

-- Some typed contexts are read, and if the whole is that of some, the rest is.
pub record Parted (text parts rest : List ℕ) : Type 0 where
  pub small : AllSmall parts
  pub front : parts_text parts ++ rest ≡ text
  pub left : (gs : List ℕ) → AllSmall gs → parts_text gs ≡ text → (more : List ℕ) × AllSmall more × (parts_text more ≡ rest)

-- what is left isn't nothing, so it begins with one
pub parted_first : (text parts rest : List ℕ) → Parted text parts rest → rest ≢ [] → (gs : List ℕ) → AllSmall gs → parts_text gs ≡ text
    → (g : ℕ) × (more : List ℕ) × (g < 2 ^ 16) × AllSmall more × (one_text [] (operand.Part g) ++ parts_text more ≡ rest)
parted_first text parts rest p n gs h e = go (p.left gs h e)
  where
    go : ((more : List ℕ) × AllSmall more × (parts_text more ≡ rest)) → (g : ℕ) × (more : List ℕ) × (g < 2 ^ 16) × AllSmall more × (one_text [] (operand.Part g) ++ parts_text more ≡ rest)
    go ([], s, q) = absurd (n (sym q))
    go ((g ∷ more), s, q) = (g, more, s.0, s.1, q)

pub parted_more : (text parts rest later : List ℕ) (r : ℕ) → Parted text parts rest → r < 2 ^ 16 → one_text [] (operand.Part r) ++ later ≡ rest
    → ((o : Operand) (ns : List (List ℕ)) (behind : List ℕ) → FitsKind kind.Part o → IsBehind behind → one_text ns o ++ behind ≡ rest → later ≡ behind)
    → Parted text (parts ++ r ∷ []) later
parted_more text parts rest later r p small e only = record {
  small = all_append (λ g. g < 2 ^ 16) parts (r ∷ []) p.small (small, tt);
  front =
      let texts : parts_text (parts ++ r ∷ []) ≡ parts_text parts ++ one_text [] (operand.Part r) =
      ap (operands_text []) (map_append operand.Part parts (r ∷ [])) ∙ flat_map-append (one_text []) (map operand.Part parts) (operand.Part r ∷ []) ∙ ap (λ t. parts_text parts ++ t) (append-nil (one_text [] (operand.Part r))) in
      ap (λ t. t ++ later) texts ∙ append_assoc (parts_text parts) (one_text [] (operand.Part r)) later ∙ ap (λ t. parts_text parts ++ t) e ∙ p.front;
  left = λ gs h whole.
      let f = parted_first text parts rest p (λ n. (let z = e ∙ n in cc)) gs h whole in
      (f.1, f.3, sym (only (operand.Part f.0) [] (parts_text f.1) f.2 (parts_behind f.1) f.4));
}

-- no register has the empty text
pub no_parts : (gs : List ℕ) → parts_text gs ≡ [] → gs ≡ []
no_parts [] e = refl
no_parts (g ∷ gs) e = absurd (cc)

-- an operand takes bytes
pub shorter : (ns : List (List ℕ)) (o : Operand) (later rest : List ℕ) → one_text ns o ++ later ≡ rest → length later < length rest
shorter ns o later rest e =
    let size : length (one_text ns o ++ later) ≡ length rest = ap length e in
    let two = length-append (one_text ns o) later in
    omega arith

pub not_empty : (rest : List ℕ) (b : Bool) → b ≡ (length rest == 0) → b ≡ false → rest ≢ []
not_empty rest b e f n = let z : (length rest == 0) ≡ true = ap (λ r. length r == 0) n in cc
