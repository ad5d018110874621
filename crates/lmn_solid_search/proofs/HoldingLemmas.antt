-- The images of head membranes.
use Rattle.std.proofs.Common.{◌≡◌, ◌∙◌, ◌↔◌, ℕ, zero, suc, ◌+◌, ◌<◌, Bool, true, false, IsTrue, List, length, replicate, slice_get, Option, Some, None, refl, sym, ap, subst, inl, inr, arith}
use Rattle.lmn_store_heap.specs.Heap.{Heap, IsAtom, IsMem}
use Rattle.lmn_solid_search.specs.Walking.{HasPlaces, HasMembranes, IsMarked}
use Rattle.lmn_solid_search.specs.Placing.{HoldsNoMore}
use Rattle.lmn_solid_search.specs.Closing.{IsRestAt, IsClosedAt}
use Rattle.lmn_solid_search.specs.Parting.{IsMine, TellMine}
use Rattle.lmn_solid_search.specs.Holding.{IsRestBy, Holds, HoldsAt}
use Rattle.lmn_solid_search.specs.declared.head.MembraneItem.{MembraneItem}
use Rattle.lmn_solid_search.specs.declared.head.TypedItem.{TypedItem}
use Rattle.lmn_solid_search.specs.declared.head.Head.{Head}
use Rattle.lmn_solid_search.specs.declared.placed.Placed.{Placed}
use Rattle.lmn_solid_search.specs.declared.parts.Part.{Part}
use Rattle.lmn_base.proofs.Lists.{read_or as index_is}

-- as many places as numbers
abbrev nones : ℕ → List (Option ℕ)
nones n = replicate n None

long : (n : ℕ) → length (nones n) ≡ n
long zero = refl
long (suc n) = ap suc (long n)

pub atom_places : (h : Heap) (n : ℕ) (marks : List (Option ℕ)) → ((a : ℕ) → IsAtom h a ↔ (a < n)) → marks ≡ replicate n None → HasPlaces h marks
atom_places h n marks all e = λ a i. (let l = (all a).0 i in let m = ap length e ∙ long n in omega (arith, l, m))

pub membrane_places : (h : Heap) (n : ℕ) (marks : List (Option ℕ)) → ((m : ℕ) → IsMem h m ↔ (m < n)) → marks ≡ replicate n None → HasMembranes h marks
membrane_places h n marks all e = λ a i. (let l = (all a).0 i in let m = ap length e ∙ long n in omega (arith, l, m))

-- ---- marks that tell what is mine

pub told : (head : Head) (p : Placed) (parts : List Part) (k number : ℕ) (marks : List (Option ℕ)) (atoms : List ℕ) (typed : List TypedItem) → atoms ≡ p.atoms → typed ≡ head.typed → number ≡ k + 1
    → TellMine atoms typed parts number (length typed) marks → TellMine p.atoms head.typed parts (k + 1) (length head.typed) marks
told head p parts k number marks atoms typed e g n t =
    subst (λ (m : ℕ). TellMine p.atoms head.typed parts m (length head.typed) marks) n
    (subst (λ (ts : List TypedItem). TellMine p.atoms ts parts number (length ts) marks) g
    (subst (λ (xs : List ℕ). TellMine xs typed parts number (length typed) marks) e t))

module _ (h : Heap) (m : ℕ) (ms : List ℕ) (marks : List (Option ℕ)) (Mine : ℕ → Type 0) (same : (b : ℕ) → IsMarked marks b ↔ Mine b) where
  rest_to : (b : ℕ) → IsRestAt h m ms marks b → IsRestBy h m ms Mine b
  rest_to b (inl (i, d)) = inl (i, λ k. d ((same b).1 k))
  rest_to b (inr r) = inr r

  rest_from : (b : ℕ) → IsRestBy h m ms Mine b → IsRestAt h m ms marks b
  rest_from b (inl (i, d)) = inl (i, λ k. d ((same b).0 k))
  rest_from b (inr r) = inr r

  pub holds_by : (item : MembraneItem) → HoldsNoMore h item ms marks m → (item.has_closed_context ≡ true → IsClosedAt h m ms marks) → Holds h item ms Mine m
  holds_by item n c = record {
    atoms = λ e b i. (same b).0 ((n.0 e).0 b i);
    inner = λ e. (n.0 e).1;
    rules = n.1;
    closed = λ e b i p r link. rest_to p.0 (c e b i p (rest_from b r) link);
  }

  pub holds_no_more : (item : MembraneItem) → Holds h item ms Mine m → HoldsNoMore h item ms marks m
  holds_no_more item w = ((λ e. ((λ b i. (same b).1 (w.atoms e b i)), w.inner e)), w.rules)

  pub holds_closed : (item : MembraneItem) → item.has_closed_context ≡ true → Holds h item ms Mine m → IsClosedAt h m ms marks
  holds_closed item e w b i p r link = rest_from p.0 (w.closed e b i p (rest_to b r) link)

-- the image of the membrane with an index
module _ (h : Heap) (head : Head) (p : Placed) (parts : List Part) (k m : ℕ) (item : MembraneItem) (marks : List (Option ℕ)) (ms : List ℕ) (at : slice_get p.membranes k ≡ Some m) (is : ms ≡ p.membranes)
    (mine : TellMine p.atoms head.typed parts (k + 1) (length head.typed) marks) where
  abbrev mine_here : ℕ → Type 0
  mine_here = IsMine p.atoms head.typed parts (k + 1) (length head.typed)

  into : Holds h item ms mine_here m → HoldsAt h head p parts k item
  into w = subst (λ (x : ℕ). Holds h item p.membranes mine_here x) (sym (index_is p.membranes k m at)) (subst (λ (xs : List ℕ). Holds h item xs mine_here m) is w)

  out : HoldsAt h head p parts k item → Holds h item ms mine_here m
  out w = subst (λ (xs : List ℕ). Holds h item xs mine_here m) (sym is) (subst (λ (x : ℕ). Holds h item p.membranes mine_here x) (index_is p.membranes k m at) w)

  pub not_held : (b : Bool) → (IsTrue b ↔ HoldsNoMore h item ms marks m) → b ≡ false → HoldsAt h head p parts k item → ⊥
  not_held b e z w = let t : b ≡ true = e.1 (holds_no_more h m ms marks mine_here mine item (out w)) in absurd (cc)

  pub held_open : HoldsNoMore h item ms marks m → item.has_closed_context ≡ false → HoldsAt h head p parts k item
  held_open n e = into (holds_by h m ms marks mine_here mine item n (λ z. absurd (cc)))

  pub held_closed : (b : Bool) → HoldsNoMore h item ms marks m → item.has_closed_context ≡ true → (IsTrue b ↔ IsClosedAt h m ms marks) → IsTrue b ↔ HoldsAt h head p parts k item
  held_closed b n e c = (
    (λ z. into (holds_by h m ms marks mine_here mine item n (λ _. c.0 z))),
    λ w. c.1 (holds_closed h m ms marks mine_here mine item e (out w)),
  )

pub pair_places : (h : Heap) (n : ℕ) (marks : List (Option ℕ)) → ((a : ℕ) → IsAtom h a ↔ (a < n)) → length marks ≡ n → HasPlaces h marks
pair_places h n marks all e = λ a i. (let l = (all a).0 i in omega (arith, l, e))
