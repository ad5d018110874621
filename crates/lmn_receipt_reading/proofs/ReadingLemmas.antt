-- What is left of a text that is read in parts.
use Rattle.std.specs.Prelude.{◌≡◌, ◌<◌, ◌≤◌, ◌⊎◌, ℕ, ◌+◌, ◌-◌, List, [], ◌++◌, drop, length, min, take, Option, Some, None, Result, Ok, Err, IfOk, IfSome, IsSomeAnd, OnOk}
use Rattle.std.proofs.Common.{◌∙◌, ap, append_assoc, arith, inl, inr, refl, subst, suc, sym, zero}
use Rattle.std.proofs.lemmas.List.{drop-drop, length-append, length-drop, length-take, take-append-drop}
use Rattle.std.proofs.Math.Seq.{drop-append_seam}
use Rattle.lmn_io.specs.Counts.{Rose}
use Rattle.lmn_io.specs.Texts.{IsMeasured, IsPart}
use Rattle.lmn_io.specs.declared.shelf.Measured.TheVariants as measured
use Rattle.lmn_receipt_reading.specs.Windows.{AtHand}
use Rattle.lmn_receipt_reading.specs.Readings.{IsMeasuredRight, IsOfSame, IsRest, ReadFailed, Reading, ReadsOn, text_told}

-- ---- a part of a text, and the rest

-- a part and what stands behind it are the text
part_and_rest : (xs : List ℕ) (most : ℕ) → take most xs ++ drop (length (take most xs)) xs ≡ xs
part_and_rest xs most =
    let both = take-append-drop most xs in
    let behind : drop (length (take most xs)) xs ≡ drop most xs = ap (drop (length (take most xs))) (sym both) ∙ drop-append_seam (take most xs) (drop most xs) in
    ap (λ rest. take most xs ++ rest) behind ∙ both

-- and so a part and what wasn't read behind it weren't read before it
unread : (part more all : List ℕ) (read most : ℕ) → part ≡ take most (drop read all) → more ≡ drop (read + length part) all → part ++ more ≡ drop read all
unread part more all read most is behind =
    ap (λ rest. part ++ rest) (behind ∙ sym (drop-drop (length part) read all))
    ∙ subst (λ p. p ++ drop (length p) (drop read all) ≡ drop read all) (sym is) (part_and_rest (drop read all) most)

-- behind a part that is shorter than what was asked for the text ends
ended : (part all : List ℕ) (read most : ℕ) → part ≡ take most (drop read all) → length part < most → length all ≤ read + length part
ended part all read most is short =
    let counted : length part ≡ min most (length all - read) = ap length is ∙ length-take most (drop read all) ∙ ap (min most) (length-drop read all) in
    omega (arith, counted, short)

-- ---- where the text is told or not

told_part : (told : Option (List ℕ → Option (List ℕ))) (name : List ℕ) (from most : ℕ) (part : List ℕ) → IsPart told name from most part → IfSome (text_told told name) (λ all. part ≡ take most (drop from all))
told_part None name from most part is = tt
told_part (Some text) name from most part is = of (text name) is.1
  where
    of : (o : Option (List ℕ)) → IsSomeAnd o (λ all. part ≡ take most (drop from all)) → IfSome o (λ all. part ≡ take most (drop from all))
    of None none = tt
    of (Some all) some = some

module _ (part : List ℕ) (read most : ℕ) where
  all_unread : (o : Option (List ℕ)) (more : List ℕ) → IfSome o (λ all. part ≡ take most (drop read all)) → IfSome o (λ all. more ≡ drop (read + length part) all) → IfSome o (λ all. part ++ more ≡ drop read all)
  all_unread None more is behind = tt
  all_unread (Some all) more is behind = unread part more all read most is behind

  all_ended : (o : Option (List ℕ)) → IfSome o (λ all. part ≡ take most (drop read all)) → length part < most → IfSome o (λ all. length all ≤ read + length part)
  all_ended None is short = tt
  all_ended (Some all) is short = ended part all read most is short

-- ---- readings

-- A block was read: so many bytes were asked for, and these came.
pub record ReadsBlock (before after : Reading) (part : List ℕ) (most : ℕ) : Type 0 where
  pub same : IsOfSame before after
  pub right : IsMeasuredRight before
  pub is : IsPart before.told before.name before.read most part
  pub within : most ≤ before.length - before.read
  pub read : after.read ≡ before.read + length part
  pub last : after.at_hand.last ≡ before.at_hand.last
  pub ahead : after.at_hand.ahead ≡ before.at_hand.ahead ++ part
  pub full : most - length part ≡ 0 → after.length ≡ before.length
  pub short : 0 < most - length part → after.length ≡ after.read

module _ (before after : Reading) (part : List ℕ) (most : ℕ) (r : ReadsBlock before after part most) where
  text : text_told after.told after.name ≡ text_told before.told before.name
  text = ap (λ told. text_told told after.name) r.same.told ∙ ap (text_told before.told) r.same.name

  is_part : IfSome (text_told before.told before.name) (λ all. part ≡ take most (drop before.read all))
  is_part = told_part before.told before.name before.read most part r.is

  few : length part ≤ most
  few = r.is.0

  module _ (shorter : after.length ≤ before.length) (inside : before.read + length part ≤ before.length) where
    rest : (rest : List ℕ) → IsRest after rest → IsRest before rest
    rest text_left h =
        let few = h.few in
        let read = r.read in
        let counted = length-append part h.more in
        record {
          more = part ++ h.more;
          is = h.is ∙ ap (λ ahead. ahead ++ h.more) r.ahead ∙ append_assoc before.at_hand.ahead part h.more;
          few = omega (arith, few, read, counted, shorter, inside);
          told = all_unread part before.read most (text_told before.told before.name) h.more is_part
              (subst (λ n. IfSome (text_told before.told before.name) (λ all. h.more ≡ drop n all)) r.read (subst (λ o. IfSome o (λ all. h.more ≡ drop after.read all)) text h.told));
        }

  ahead_is : length after.at_hand.ahead ≡ length before.at_hand.ahead + length part
  ahead_is = ap length r.ahead ∙ length-append before.at_hand.ahead part

  by_kind : (most - length part ≡ 0) ⊎ (0 < most - length part) → ReadsOn before after
  by_kind (inl full) =
      let same = r.full full in
      let read = r.read in
      let within = r.within in
      record {
        right = record {
          within = omega (arith, few, same, read, within, r.right.within);
          whole = subst (λ n. IfSome (text_told after.told after.name) (λ all. length all ≤ n)) (sym same) (subst (λ o. IfSome o (λ all. length all ≤ before.length)) (sym text) r.right.whole);
        };
        last = r.last;
        rest = rest (omega (arith, same)) (omega (arith, few, within, r.right.within));
        left = omega (arith, few, same, read, within, r.right.within, ahead_is);
      }
  by_kind (inr short) =
      let is = r.short short in
      let read = r.read in
      let within = r.within in
      record {
        right = record {
          within = omega (arith, is);
          whole = subst (λ n. IfSome (text_told after.told after.name) (λ all. length all ≤ n)) (sym (is ∙ read)) (subst (λ o. IfSome o (λ all. length all ≤ before.read + length part)) (sym text) (all_ended part before.read most (text_told before.told before.name) is_part (omega (arith, short))));
        };
        last = r.last;
        rest = rest (omega (arith, is, read, few, within, r.right.within)) (omega (arith, few, within, r.right.within));
        left = omega (arith, few, is, read, within, r.right.within, ahead_is);
      }

  -- then more was read, and nothing met
  pub reads_block : ReadsOn before after
  reads_block = by_kind (either (most - length part))
    where
      either : (n : ℕ) → (n ≡ 0) ⊎ (0 < n)
      either zero = inl refl
      either (suc n) = inr (omega arith)

-- ---- what may be left

told_rest : (o : Option (List ℕ)) (read len : ℕ) → IfSome o (λ all. length all ≤ len) → (more : List ℕ) × (length more ≤ len - read) × IfSome o (λ all. more ≡ drop read all)
told_rest None read len whole = ([], omega arith, tt)
told_rest (Some all) read len whole = let counted = length-drop read all in (drop read all, omega (arith, counted, whole), refl)

-- there is something that may be left
pub some_rest : (r : Reading) → IsMeasuredRight r → (rest : List ℕ) × IsRest r rest
some_rest r right =
    let more = told_rest (text_told r.told r.name) r.read r.length right.whole in
    (r.at_hand.ahead ++ more.0, record { more = more.0; is = refl; few = more.1; told = more.2 })

-- what was passed stands before what is left then
pub passed_rest : (r : Reading) (hand : AtHand) (len : ℕ) → hand.ahead ≡ drop len r.at_hand.ahead → (rest : List ℕ) → IsRest (record r { at_hand = hand }) rest → IsRest r (take len r.at_hand.ahead ++ rest)
passed_rest r hand len is rest h = record {
  more = h.more;
  is =
      ap (λ rest. take len r.at_hand.ahead ++ rest) (h.is ∙ ap (λ ahead. ahead ++ h.more) is)
      ∙ sym (append_assoc (take len r.at_hand.ahead) (drop len r.at_hand.ahead) h.more)
      ∙ ap (λ ahead. ahead ++ h.more) (take-append-drop len r.at_hand.ahead);
  few = h.few;
  told = h.told;
}

-- ---- before the beginning

module _ (r : Reading) (most : ℕ) (measured : IsMeasured r.told r.name most (measured.Length r.length)) where
  text_measured : (o : Option (List ℕ)) → IsSomeAnd o (λ all. length all ≡ r.length) → IfSome o (λ all. length all ≤ r.length)
  text_measured None none = tt
  text_measured (Some all) is = omega (arith, is)

  told_measured : (told : Option (List ℕ → Option (List ℕ))) → IfSome told (λ text. IsSomeAnd (text r.name) (λ all. length all ≡ r.length)) → IfSome (text_told told r.name) (λ all. length all ≤ r.length)
  told_measured None is = tt
  told_measured (Some text) is = text_measured (text r.name) is

  -- what was measured is held for what it is
  pub measured_right : r.read ≡ 0 → IsMeasuredRight r
  measured_right none = record { within = omega (arith, none); whole = told_measured r.told measured.1 }

  text_is : (o : Option (List ℕ)) (more : List ℕ) → IsSomeAnd o (λ all. length all ≡ r.length) → IfSome o (λ all. more ≡ drop 0 all) → o ≡ Some more
  text_is None more none is = absurd none
  text_is (Some all) more some is = ap Some (sym is)

  told_is : (told : Option (List ℕ → Option (List ℕ))) (more : List ℕ) → IfSome told (λ text. IsSomeAnd (text r.name) (λ all. length all ≡ r.length)) → IfSome (text_told told r.name) (λ all. more ≡ drop 0 all) → IfSome told (λ text. text r.name ≡ Some more)
  told_is None more some is = tt
  told_is (Some text) more some is = text_is (text r.name) more some is

  -- what may be left then is as short, and it is the text that is told, if it is
  pub rest_at_first : r.read ≡ 0 → r.at_hand.ahead ≡ [] → (rest : List ℕ) → IsRest r rest → (length rest ≤ r.length) × IfSome r.told (λ text. text r.name ≡ Some rest)
  rest_at_first none nothing rest h =
      let few = h.few in
      let all : rest ≡ h.more = h.is ∙ ap (λ ahead. ahead ++ h.more) nothing in
      let told = subst (λ read. IfSome (text_told r.told r.name) (λ all. h.more ≡ drop read all)) none h.told in
      subst (λ more. (length more ≤ r.length) × IfSome r.told (λ text. text r.name ≡ Some more)) (sym all) (omega (arith, few, none), told_is r.told h.more measured.1 told)

-- what follows where a call answered
pub where_ok : {A E : Type 0} (result : Result A E) (P Q : Type 0) → (P → Q) → OnOk result P → IfOk result (λ _. Q)
where_ok (Ok a) P Q f p = f p
where_ok (Err e) P Q f p = tt

-- ---- what is the same

-- nothing was read yet
pub same_at_first : (r : Reading) → IsOfSame r r
same_at_first r = record { told = refl; asked = refl; later = λ name. omega arith; name = refl }

-- and twice
pub same_twice : (a b c : Reading) → IsOfSame a b → IsOfSame b c → IsOfSame a c
same_twice a b c first second = record {
  told = second.told ∙ first.told;
  asked = second.asked ∙ first.asked;
  later = λ name. let low = first.later name in let high = second.later name in omega (arith, low, high);
  name = second.name ∙ first.name;
}

-- a fault after others
pub failed_behind : (a b c : Reading) → IsOfSame a b → ReadFailed b c → ReadFailed a c
failed_behind a b c first failed =
    let low = first.later a.name in
    let rose : Rose (b.faults a.name) (c.faults a.name) = subst (λ n. Rose (b.faults n) (c.faults n)) first.name failed in
    omega (arith, low, rose)
