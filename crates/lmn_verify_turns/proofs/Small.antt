-- Where no code succeeds over the root with a rule, and which success and which code is the first.
use Rattle.std.proofs.Common.{ℕ, zero, suc, ◌≡◌, ◌∙◌, List, [], ◌∷◌, Some, refl, sym, ap, subst, inl, inr, arith}
use Rattle.std.specs.Prelude.{slice_get, take}
use Rattle.std.proofs.lemmas.Option.{same_Some}
use Rattle.lmn_base.specs.declared.solid.Region.{Region, out-Region}
use Rattle.lmn_base.specs.declared.solid.Region.TheOpen.{Region-F}
use Rattle.lmn_base.specs.declared.solid.Region.TheViews.{out-roll-Region}
use Rattle.lmn_base.specs.Lists.{In}
use Rattle.lmn_base.proofs.Lists.{head_is}
use Rattle.lmn_solid_heads.specs.Embeddings.{ListNotAfter, index_of}
use Rattle.lmn_instr_code.specs.declared.instr.Code.{Code}
use Rattle.lmn_verify_solids.specs.Examples.{TurnExamples, idle, in_root, ruled_solid, taking, zeros}
use Rattle.lmn_verify_solids.specs.Graphs.{Graph, Stand, one_stands}
use Rattle.lmn_verify_solids.specs.Heads.{NoneOf}
use Rattle.lmn_verify_solids.specs.Turns.{NoneSucceeds}
use Rattle.lmn_verify_turns.specs.Examples.{AnswerExamples, FirstExamples, holding, two_atoms}

-- the rules of a region in a membrane stand in the membrane, which is one of all
root_rules : {g : Graph} {link : ℕ → ℕ → ℕ} {m : ℕ} {all : List ℕ} {R : Region} → Stand g link (m ∷ []) all (R ∷ []) → In m all × (g.rules m ≡ (out-Region R).rules)
root_rules (one_stands s t) = (inl refl, sym (ap (λ (x : Region-F Region). x.rules) (out-roll-Region _)))

-- code that changes nothing succeeds where its rule stands
succeeds : NoneSucceeds (idle ∷ []) ruled_solid → ⊥
succeeds w =
    let g = w.0 in
    let at = root_rules (w.1).stands in
    let rules : g.rules g.root ≡ 0 ∷ [] = at.1 ∙ ap (λ (x : Region-F Region). x.rules) (out-roll-Region _) in
    w.2 g.root at.0 0 (subst (In 0) (sym rules) (inl refl)) idle (record zeros.head { images = record zeros.head.images { membrane = λ k. g.root } }) refl (refl, (tt, tt))

pub answer_examples : TurnExamples → AnswerExamples
answer_examples examples = record { without = λ size h. examples.without.0; with_idle = λ size h. succeeds }

-- ---- which is the first

not_after : (n : ℕ) → ListNotAfter (0 ∷ []) (n ∷ [])
not_after zero = inr (refl, tt)
not_after (suc n) = inl (omega arith)

after : ListNotAfter (1 ∷ []) (0 ∷ []) → ⊥
after (inl l) = omega (arith, l)
after (inr w) = let e = w.0 in omega (arith, e)

-- the code that takes an atom is no other
not_idle : idle ≡ taking → ⊥
not_idle e = let heads = head_is (ap (λ (c : Code). c.head) e) in cc

-- and stands behind one that succeeds
stands_behind : (place rule : ℕ) → slice_get (0 ∷ (1 ∷ [])) place ≡ Some rule → slice_get (idle ∷ (taking ∷ [])) rule ≡ Some taking → NoneOf two_atoms (idle ∷ (taking ∷ [])) 0 (take place (0 ∷ (1 ∷ []))) → ⊥
stands_behind zero rule stands is none = not_idle (same_Some idle taking (subst (λ n. slice_get (idle ∷ (taking ∷ [])) n ≡ Some taking) (sym (same_Some 0 rule stands)) is))
stands_behind (suc place) rule stands is none = none 0 (inl refl) idle (zeros).head refl (refl, (tt, tt))

pub first_examples : FirstExamples
first_examples = record {
  first = ((refl, ((inl refl, refl), (tt, tt))), (λ s w. not_after (index_of (s.images.atom 0) (in_root (0 ∷ (1 ∷ [])) (s.images.membrane 0)))));
  second = λ w. after (w.1 (holding 0) (refl, ((inl refl, refl), (tt, tt))));
  before = record {
    earlier = [];
    later = [];
    order = refl;
    none = λ m i. absurd i;
    place = 0;
    rule = 0;
    stands = refl;
    none_before = λ n i code r e s. absurd i;
    is = refl;
    first = ((refl, (tt, tt)), (λ s w. tt));
  };
  behind = λ r w. stands_behind w.place w.rule w.stands w.is w.none_before;
}
