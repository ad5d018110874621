-- The codes of rules as they are read, one behind the other.
use Rattle.std.proofs.Common.{◌≡◌, ◌<◌, ◌≤◌, ◌+◌, ◌-◌, ◌*◌, zero, suc, ℕ, true, false, if◌then◌else◌, List, [], ◌∷◌, ◌++◌, length, get_or, drop, take, refl, sym, ap, ◌∙◌, subst, arith}
use Rattle.std.specs.Prelude.{codes, slice_get, Some, Result, Ok, Err, IfErr, IsErrAnd}
use Rattle.std.specs.List.{AllByRecursion, flat_map}
use Rattle.std.specs.Fmt.{decimal}
use Rattle.std.proofs.lemmas.List.{append_assoc, append-nil, length_push, take-append-drop, take_more, drop-drop}
use Rattle.std.proofs.lemmas.List.Concat.{flat_map-append}
use Rattle.std.proofs.lemmas.Bool.{lt-ltb, le-ltb}
use Rattle.std.proofs.lemmas.Option.{slice_get-get_or}
use Rattle.lmn_base.specs.Refusals.{IfRefused}
use Rattle.lmn_base.specs.declared.refusal.Refusal.{Refusal}
use Rattle.lmn_base.specs.declared.refusal.TextFault.{TextFault}
use Rattle.lmn_base.specs.declared.refusal.TextFault.TheVariants.{Refused, NoMemory}
use Rattle.lmn_base.proofs.Lists.{all_append}
use Rattle.lmn_instr_code.specs.declared.instr.Code.{Code}
use Rattle.lmn_instr_code.specs.Listings.{line, code_listing, HasCode}
use Rattle.lmn_instr_reading.specs.Reading.{AddsNames, NumbersNames}
use Rattle.lmn_verify_code.specs.Operands.{code_names}
use Rattle.lmn_verify_code.specs.Verified.{IsVerified}
use Rattle.lmn_verify_listing.specs.Lines.{rule, head, nothing, due_rule, IsWholeLine}
use Rattle.lmn_verify_listing.specs.Listings.{IsWholeCode, HasPlainLines, lines_of, lines_of_all, listings_from}
use Rattle.lmn_verify_listing.specs.Reaching.{Reached, IsLineEnd, IsEnded, IsReadCode, AreReadCodes}
use Rattle.lmn_instr_reading.proofs.NameLemmas.{adds_both, adds_none, adds_more as adds_fewer, numbers_same}
use Rattle.lmn_verify_listing.proofs.LineLemmas.{more_instrs}
use Rattle.lmn_verify_listing.proofs.ReachingLemmas.{reached_first, reached_more, whole_where}
use Rattle.lmn_base.proofs.Common.{numbers_both}

-- the first line of the listing of rule j
abbrev pub rule_line : ℕ → List ℕ
rule_line j = codes "rule " ++ (decimal j ++ codes "\n")

-- ---- the listing of one code

-- the first line stands there
pub rule_stands : (n : ℕ) (listing text : List ℕ) (j from first end : ℕ) → IsLineEnd listing from end → text ≡ take (end - from) (drop from listing) → rule_line j ≡ text
    → Reached n listing from first (rule j) → Reached n listing end (first + 1) (head j)
rule_stands n listing text j from first end e is same r =
    let here : rule_line j ≡ take (end - from) (drop from listing) = same ∙ is in
    reached_more n listing from first end (rule j) (rule_line j) r refl
    (subst IsWholeLine (sym here) (whole_where _ e.whole (codes "rule " ++ decimal j) here)) e.back e.within here

-- it takes bytes
pub rule_forth : (listing text : List ℕ) (j from end : ℕ) → IsLineEnd listing from end → text ≡ take (end - from) (drop from listing) → rule_line j ≡ text → from < end
rule_forth listing text j from end e is same = behind (end - from) refl (same ∙ is)
  where
    behind : (k : ℕ) → end - from ≡ k → rule_line j ≡ take (end - from) (drop from listing) → from < end
    behind zero k t = absurd (let none : rule_line j ≡ [] = t ∙ ap (λ m. take m (drop from listing)) k in cc)
    behind (suc m) k t = omega arith

-- the listing of a code is read
pub code_read : (listing text : List ℕ) (before middle later : List (List ℕ)) (j from first end at ln at2 ln2 : ℕ) (code : Code) → IsLineEnd listing from end → text ≡ take (end - from) (drop from listing) → rule_line j ≡ text
    → IsEnded true listing before middle end (first + 1) at ln code.head → IsEnded false listing middle later at ln at2 ln2 code.body → IsReadCode listing before later j from first at2 ln2 code
code_read listing text before middle later j from first end at ln at2 ln2 code e is same h b =
    let forth = rule_forth listing text j from end e is same in
    let hc = h.read.count in
    let hf = h.read.few in
    let bc = b.read.count in
    let bf = b.read.few in
    let old = more_instrs (3 * (at2 - at)) middle later b.read.puts code.head h.read.named in
    let both : from + (end - from) ≡ end = omega arith in
    let size : 3 * (at - end) + 3 * (at2 - at) ≤ 3 * (at2 - from) = omega arith in
    record {
      within = b.read.within;
      count = omega arith;
      few = omega arith;
      puts = adds_fewer (3 * (at - end) + 3 * (at2 - at)) (3 * (at2 - from)) before later size (adds_both (3 * (at - end)) (3 * (at2 - at)) before middle later h.read.puts b.read.puts);
      order = numbers_both h.read.order b.read.order;
      text =
          let heads = flat_map (line later) code.head in
          let bodies = flat_map (line later) code.body in
          let left = drop at2 listing in
          let inner : drop end listing ≡ (heads ++ bodies) ++ left = h.read.text ∙ (λ k. sym old.1 k ++ b.read.text k) ∙ sym (append_assoc heads bodies left) in
          let front : drop from listing ≡ rule_line j ++ drop end listing =
          sym (take-append-drop (end - from) (drop from listing)) ∙ (λ k. sym (same ∙ is) k ++ (drop-drop (end - from) from listing ∙ ap (λ m. drop m listing) both) k) in
          front ∙ ap (λ t. rule_line j ++ t) inner ∙ ap (λ t. codes "rule " ++ t) (append_assoc (decimal j) (codes "\n") ((heads ++ bodies) ++ left) ∙ sym (append_assoc (decimal j) (codes "\n" ++ (heads ++ bodies)) left));
      whole = (h.block, b.block);
      named = (old.0, b.read.named);
      plain = (old.2 h.read.plain, b.read.plain);
      reached = λ n r. b.reached n j (h.reached n j (rule_stands n listing text j from first end e is same r));
    }

-- ---- the listings of several

-- a listing says the same with more names
pub more_code : (n : ℕ) (a b : List (List ℕ)) → AddsNames n a b → (c : Code) (k : ℕ) → HasCode a c → HasCode b c × (code_listing b c k ≡ code_listing a c k) × (HasPlainLines a c → HasPlainLines b c)
more_code n a b g c k h =
    let heads = more_instrs n a b g c.head h.0 in
    let bodies = more_instrs n a b g c.body h.1 in
    ((heads.0, bodies.0), (λ j. codes "rule " ++ (decimal k ++ (codes "\n" ++ (heads.1 j ++ bodies.1 j)))), λ s. (heads.2 s.0, bodies.2 s.1))

pub more_codes : (n : ℕ) (a b : List (List ℕ)) → AddsNames n a b → (cs : List Code) (k : ℕ) → AllByRecursion (HasCode a) cs
    → AllByRecursion (HasCode b) cs × (listings_from b k cs ≡ listings_from a k cs) × (AllByRecursion (HasPlainLines a) cs → AllByRecursion (HasPlainLines b) cs)
more_codes n a b g [] k h = (tt, refl, λ s. s)
more_codes n a b g (c ∷ cs) k h =
    let one = more_code n a b g c k h.0 in
    let more = more_codes n a b g cs (k + 1) h.1 in
    ((one.0, more.0), (λ j. one.1 j ++ more.1 j), λ s. (one.2 s.0, more.2 s.1))

listings_push : (ns : List (List ℕ)) (k m : ℕ) (cs : List Code) (c : Code) → m ≡ k + length cs → listings_from ns k (cs ++ c ∷ []) ≡ listings_from ns k cs ++ code_listing ns c m
listings_push ns k m [] c e = let same : k ≡ m = omega arith in append-nil _ ∙ ap (code_listing ns c) same
listings_push ns k m (d ∷ cs) c e =
    ap (λ t. code_listing ns d k ++ t) (listings_push ns (k + 1) m cs c (omega arith)) ∙ sym (append_assoc (code_listing ns d k) (listings_from ns (k + 1) cs) (code_listing ns c m))

pub lines_push : (cs : List Code) (c : Code) → lines_of_all (cs ++ c ∷ []) ≡ lines_of_all cs + lines_of c
lines_push [] c = omega arith
lines_push (d ∷ cs) c = let h = lines_push cs c in omega arith

pub due_here : (n j : ℕ) → j < n → due_rule n j ≡ rule j
due_here n j l = ap (λ t. if t then rule j else nothing) (lt-ltb j n l)

pub due_none : (n : ℕ) → due_rule n n ≡ nothing
due_none n = ap (λ t. if t then rule n else nothing) (le-ltb n n (omega arith))

-- none is read yet
pub none_read : (n : ℕ) (listing : List ℕ) (names : List (List ℕ)) → AreReadCodes n listing names names 0 0 1 []
none_read n listing names = record {
  within = omega arith;
  many = refl;
  count = refl;
  few = omega arith;
  puts = adds_none 0 names;
  order = numbers_same names names refl;
  text = refl;
  whole = tt;
  named = tt;
  plain = tt;
  reached = reached_first n listing;
}

-- one more
pub codes_more : (n : ℕ) (listing : List ℕ) (before names later : List (List ℕ)) (j at ln at2 ln2 : ℕ) (cs : List Code) (c : Code) → AreReadCodes n listing before names j at ln cs → j < n
    → IsReadCode listing names later j at ln at2 ln2 c → AreReadCodes n listing before later (j + 1) at2 ln2 (cs ++ c ∷ [])
codes_more n listing before names later j at ln at2 ln2 cs c r l h =
    let lines = lines_push cs c in
    let size = length_push cs c in
    let many = r.many in
    let count = r.count in
    let few = r.few in
    let hc = h.count in
    let hf = h.few in
    let old = more_codes (3 * (at2 - at)) names later h.puts cs 0 r.named in
    let three : 3 * at + 3 * (at2 - at) ≤ 3 * at2 = omega arith in
    record {
      within = h.within;
      many = omega arith;
      count = omega arith;
      few = omega arith;
      puts = adds_fewer (3 * at + 3 * (at2 - at)) (3 * at2) before later three (adds_both (3 * at) (3 * (at2 - at)) before names later r.puts h.puts);
      order =
          let pushed : flat_map code_names (cs ++ c ∷ []) ≡ flat_map code_names cs ++ code_names c =
          flat_map-append code_names cs (c ∷ []) ∙ ap (λ ns. flat_map code_names cs ++ ns) (append-nil (code_names c)) in
          subst (λ ns. NumbersNames before ns later) (sym pushed) (numbers_both r.order h.order);
      text =
          let here : j ≡ 0 + length cs = omega arith in
          ap (λ t. t ++ drop at2 listing) (listings_push later 0 j cs c here) ∙ append_assoc (listings_from later 0 cs) (code_listing later c j) (drop at2 listing)
          ∙ (λ k. old.1 k ++ sym h.text k) ∙ r.text;
      whole = all_append IsWholeCode cs (c ∷ []) r.whole (h.whole, tt);
      named = all_append (HasCode later) cs (c ∷ []) old.0 (h.named, tt);
      plain = all_append (HasPlainLines later) cs (c ∷ []) (old.2 r.plain) (h.plain, tt);
      reached = h.reached n (subst (Reached n listing at ln) (due_here n j l) r.reached);
    }

-- ---- which isn't verified

-- how many lines some of the codes have, and one more
pub lines_more : (cs : List Code) (k : ℕ) (c : Code) → slice_get cs k ≡ Some c → lines_of_all (take k cs) + lines_of c ≤ lines_of_all cs
lines_more [] k c e = absurd (cc)
lines_more (d ∷ cs) zero c e = let same : lines_of d ≡ lines_of c = ap lines_of (some_same d c e) in omega arith
  where
    some_same : (x y : Code) → Some x ≡ Some y → x ≡ y
    some_same x y e = cc
lines_more (d ∷ cs) (suc k) c e = let h = lines_more cs k c e in omega arith

-- the code with a number
code_at : (cs : List Code) (k : ℕ) (c : Code) → k < length cs → c ≡ get_or cs k c → slice_get cs k ≡ Some c
code_at cs k c l e = slice_get-get_or cs k c l ∙ ap Some (sym e)

-- The codes so far are verified, and this line is the next.
pub record AreVerified (n : ℕ) (cs : List Code) (k ln : ℕ) : Type 0 where
  pub line : ln ≡ 1 + lines_of_all (take k cs)
  pub verified : AllByRecursion (λ c. IsVerified c n) (take k cs)

-- one more
pub verified_more : (n : ℕ) (cs : List Code) (k ln more : ℕ) (c : Code) → AreVerified n cs k ln → k < length cs → c ≡ get_or cs k c → IsVerified c n → more ≡ lines_of c → AreVerified n cs (k + 1) (ln + more)
verified_more n cs k ln more c h l e v m =
    let next : take (k + 1) cs ≡ take k cs ++ c ∷ [] = take_more cs k c l ∙ ap (λ x. take k cs ++ x ∷ []) (sym e) in
    let lines : lines_of_all (take (k + 1) cs) ≡ lines_of_all (take k cs) + lines_of c = ap lines_of_all next ∙ lines_push (take k cs) c in
    let line = h.line in
    record {
      line = omega arith;
      verified = subst (AllByRecursion (λ x. IsVerified x n)) (sym next) (all_append (λ x. IsVerified x n) (take k cs) (c ∷ []) h.verified (v, tt));
    }

-- the lines so far are few
pub few_lines : (n : ℕ) (cs : List Code) (k ln : ℕ) (c : Code) → AreVerified n cs k ln → k < length cs → c ≡ get_or cs k c → ln + lines_of c ≤ 1 + lines_of_all cs
few_lines n cs k ln c h l e = let line = h.line in let few = lines_more cs k c (code_at cs k c l e) in omega arith

-- ---- refusals

-- a refusal that is handed on
pub refused_on : {T : Type 0} (r : Result T TextFault) (x : TextFault) (P Q : Refusal → Type 0) → IsErrAnd r (λ y. y ≡ x) → IfRefused x P → ((s : Refusal) → P s → Q s) → IfErr r (λ e. IfRefused e Q)
refused_on (Ok y) x P Q f h w = tt
refused_on (Err y) x P Q f h w = subst (λ e. IfRefused e Q) (sym f) (go x h)
  where
    go : (e : TextFault) → IfRefused e P → IfRefused e Q
    go (Refused s) g = w s g
    go NoMemory g = tt
