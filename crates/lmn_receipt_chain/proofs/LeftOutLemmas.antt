-- Which membranes are left out.
use Rattle.std.proofs.Common.{ℕ, zero, suc, ◌≡◌, ◌∙◌, ◌+◌, ◌<◌, ◌≤◌, ◌⊎◌, inl, inr, Bool, false, List, [], ◌∷◌, ◌++◌, Option, Some, None, codes, get_or, length, map, reverse, set, refl, sym, ap, subst, arith, append_assoc, length-append}
use Rattle.std.specs.Prelude.{IfSome, IsTrue}
use Rattle.std.proofs.lemmas.Bool.{cases_eq, cases_lt}
use Rattle.std.proofs.lemmas.List.{get_or-set_other, get_or-set_same, length-map}
use Rattle.std.proofs.lemmas.Option.{same_Some}
use Rattle.lmn_base.proofs.Numbers.{split_at}
use Rattle.lmn_congruence.specs.Regions.{Region}
use Rattle.lmn_flatten_plain.specs.SolidLines.{as_level}
use Rattle.lmn_flatten_plain.specs.Words.{text_of, top_pieces}
use Rattle.lmn_adequacy.specs.Choice.{paths}
use Rattle.lmn_receipt_chain.specs.Alike.{EndsBefore, alike, blurred, times}
use Rattle.lmn_receipt_chain.specs.Bytes.{IsFirstLine}
use Rattle.lmn_receipt_chain.specs.Chains.{line_of_solid}
use Rattle.lmn_receipt_chain.specs.Found.{AreLeftOut}
use Rattle.lmn_receipt_chain.proofs.FrameLemmas.{not_that}

-- ---- marks

module _ (depths : List ℕ) (closed : ℕ) where
  -- the depth that is known is that of a membrane from a number on which counts
  abbrev pub IsBehind : ℕ → Option ℕ → Type 0
  IsBehind from behind = (d : ℕ) → behind ≡ Some d → (i : ℕ) × (from ≤ i) × (get_or depths i 0 ≡ d) × (i + closed < length depths)

  -- the marks from a number on are right
  abbrev pub AreMarked : ℕ → List Bool → Type 0
  AreMarked from marks = (m : ℕ) → from ≤ m → IsTrue (get_or marks m false) → EndsBefore depths closed m

  pub none_behind : (from : ℕ) → IsBehind from None
  none_behind from d e = absurd (cc)

  -- and behind the last one there is none
  pub none_marked : (from : ℕ) (marks : List Bool) → length marks ≡ from → AreMarked from marks
  none_marked from marks many m low is = absurd (unmarked marks m (omega (arith, many, low)) is)
    where
      unmarked : (marks : List Bool) (m : ℕ) → length marks ≤ m → IsTrue (get_or marks m false) → ⊥
      unmarked [] m low is = absurd (cc)
      unmarked (x ∷ xs) zero low is = absurd (omega (arith, low))
      unmarked (x ∷ xs) (suc m) low is = unmarked xs m (omega (arith, low)) is

  -- one mark more
  pub marked_more : (m : ℕ) (marks : List Bool) (mark : Bool) (behind : Option ℕ) → m < length marks → IsBehind (m + 1) behind → AreMarked (m + 1) marks
      → (IsTrue mark → (d : ℕ) × (behind ≡ Some d) × (d ≤ get_or depths m 0)) → AreMarked m (set marks m mark)
  marked_more m marks mark behind there known old new k low is = elim (cases_eq k m) [
    | inl e ↦ (
        let same : get_or (set marks m mark) k false ≡ mark = ap (λ z. get_or (set marks m mark) z false) e ∙ get_or-set_same marks m mark false there in
        let n = new (subst IsTrue same is) in
        let b = known n.0 n.1 in
        let far = b.1 in
        let deep = b.2 in
        let less = n.2 in
        let depth : get_or depths k 0 ≡ get_or depths m 0 = ap (λ z. get_or depths z 0) e in
        (b.0, omega (arith, far, e), omega (arith, deep, less, depth), b.3)
        )
    | inr d ↦ old k (more low d) (subst IsTrue (get_or-set_other marks m k mark false d) is)
  ]
    where
      more : m ≤ k → (k ≡ m → ⊥) → m + 1 ≤ k
      more low d = elim (cases_lt m k) [ inl l ↦ omega (arith, l) | inr g ↦ absurd (d (omega (arith, g, low))) ]

  -- and the least depth, where that of one membrane more may count
  pub behind_more : (m depth begun : ℕ) (behind next : Option ℕ) → IsBehind (m + 1) behind → depth ≡ get_or depths m 0 → m + begun ≡ length depths
      → IfSome next (λ d. (behind ≡ Some d) ⊎ ((closed < begun) × (d ≡ depth))) → IsBehind m next
  behind_more m depth begun behind None known here fits from d e = absurd (cc)
  behind_more m depth begun behind (Some x) known here fits from d e = elim from [
    | inl old ↦ (let b = known d (old ∙ e) in let far = b.1 in (b.0, omega (arith, far), b.2, b.3))
    | inr new ↦ (let less = new.0 in (m, omega arith, sym here ∙ sym new.1 ∙ same_Some x d e, omega (arith, less, fits)))
  ]

-- where nothing is marked nothing is left out
pub none_left_out : (S : Region) (text : List ℕ) → AreLeftOut S text []
none_left_out S text S' more fires quiet is = unmarked (length fires.earlier) fires.marked
  where
    unmarked : (k : ℕ) → IsTrue (get_or {A = Bool} [] k false) → ⊥
    unmarked k is = absurd (cc)

-- ---- depths

abbrev Paths : Type 0
Paths = List (List ℕ)

-- a list at a number
record Cut (xs : Paths) (j : ℕ) : Type 0 where
  pub front : Paths
  pub here : List ℕ
  pub rest : Paths
  pub all : xs ≡ front ++ here ∷ rest
  pub number : length front ≡ j

cut : (xs : Paths) (j : ℕ) → j < length xs → Cut xs j
cut [] j l = absurd (omega (arith, l))
cut (x ∷ xs) zero l = record { front = []; here = x; rest = xs; all = refl; number = refl }
cut (x ∷ xs) (suc j) l =
    let u = cut xs j (omega (arith, l)) in
    record { front = x ∷ u.front; here = u.here; rest = u.rest; all = ap (λ z. x ∷ z) u.all; number = ap suc u.number }

depth_at : (b : Paths) (p : List ℕ) (a : Paths) → get_or (map length (b ++ p ∷ a)) (length b) 0 ≡ length p
depth_at [] p a = refl
depth_at (x ∷ b) p a = depth_at b p a

-- By the depths of a solid's membranes and the number of braces that are closed in what its line and the first line of a text end with
-- alike, those are left out behind whose end more begin.
pub are_left_out : (S : Region) (own text line depths : List ℕ) (closed : ℕ) (marks : List Bool) → depths ≡ map length (paths S) → own ≡ line_of_solid S
    → closed ≡ times 125 (alike (blurred (reverse own)) (blurred (reverse line))) → IsFirstLine text line → ((m : ℕ) → IsTrue (get_or marks m false) → EndsBefore depths closed m) → AreLeftOut S text marks
are_left_out S own text line depths closed marks deep line_is count first ends S' more fires quiet is =
    let m = length fires.earlier in
    let path = fires.path in
    let e = ends m fires.marked in
    let i = e.0 in
    let past = e.1 in
    let shallow = e.2 in
    let few = e.3 in
    let whole = ap length deep ∙ length-map (paths S) length ∙ ap length fires.all ∙ length-append fires.earlier (path ∷ fires.later) in
    let j = split_at (m + 1) i (omega (arith, past)) in
    let at = j.1 in
    let u = cut fires.later j.0 (omega (arith, whole, few, at)) in
    let number = u.number in
    let before = fires.earlier ++ path ∷ u.front in
    let all : paths S ≡ before ++ u.here ∷ u.rest =
    fires.all ∙ ap (λ z. fires.earlier ++ path ∷ z) u.all ∙ sym (append_assoc fires.earlier (path ∷ u.front) (u.here ∷ u.rest)) in
    let many = length-append fires.earlier (path ∷ u.front) in
    let i_is : i ≡ length before = omega (arith, many, number, at) in
    let own_depth : get_or depths m 0 ≡ length path = ap (λ z. get_or z m 0) (deep ∙ ap (map length) fires.all) ∙ depth_at fires.earlier path fires.later in
    let its_depth : get_or depths i 0 ≡ length u.here =
    ap (λ z. get_or z i 0) (deep ∙ ap (map length) all) ∙ ap (λ z. get_or (map length (before ++ u.here ∷ u.rest)) z 0) i_is ∙ depth_at before u.here u.rest in
    let rest = ap length u.all ∙ length-append u.front (u.here ∷ u.rest) in
    let alike_is = ap (λ z. times 125 (alike (blurred (reverse z)) (blurred (reverse line)))) line_is in
    let front = text_of (top_pieces (as_level S')) in
    not_that path fires.number fires.positions S S' fires.next fires.earlier fires.later fires.all u.front u.here u.rest u.all (omega (arith, own_depth, its_depth, shallow)) line
    (omega (arith, few, count, alike_is, whole, rest, number, at)) (first front more quiet (is ∙ append_assoc front (codes "\n") more))
