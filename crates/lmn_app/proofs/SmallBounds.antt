-- Weights that bound a small text, and weights that don't.
use Rattle.std.proofs.Common.{ℕ, zero, suc, ◌≡◌, ◌≢◌, ◌<◌, ◌+◌, ◌*◌, ◌&&◌, true, false, List, [], ◌∷◌, ◌++◌, codes, None, length, map, sum, refl, sym, ◌∙◌, arith}
use Rattle.std.specs.Prelude.{nat_lt}
use Rattle.std.specs.Fmt.{digits}
use Rattle.std.specs.List.{flat_map, list_all}
use Rattle.std.proofs.lemmas.Option.{same_Some}
use Rattle.lmn_app_accepted.specs.Rules.{AcceptedTexts}
use Rattle.lmn_base.specs.declared.functor.Functor.{Functor}
use Rattle.lmn_base.specs.declared.functor.Label.TheVariants.{Name as NameLabel}
use Rattle.lmn_base.specs.declared.level.CtxUse.{CtxUse}
use Rattle.lmn_base.specs.declared.level.Level.TheFolds.{fold-roll-Level}
use Rattle.lmn_base.specs.Levels.{contexts_of}
use Rattle.lmn_base.specs.Names.{IsNames}
use Rattle.lmn_base.specs.SmallTexts.{at_column}
use Rattle.lmn_weight.specs.Bounding.{WeightsBound}
use Rattle.lmn_instr_reading.proofs.NameLemmas.{adds_none}
use Rattle.lmn_instr_code.specs.Listings.{functor_text}
use Rattle.lmn_weight.specs.declared.weights.Weights.{Weights}
use Rattle.lmn_weight.specs.Lines.{AreWeightsOf, HasText, line_more, no_line, of_functor}
use Rattle.lmn_weight.specs.Plains.{EachLowered, IsFirstNotLowered, closed_once, functor_weight, is_lowered, leaf_weight, level_weight, weight_step}
use Rattle.lmn_app.specs.Bounds.{not_lowered}
use Rattle.lmn_app.specs.BoundExamples.{SmallTextIsBounded, SmallTextIsNotLowered, small_weights, turned_weights}
use Rattle.lmn_app.specs.Seconds.{ReadsBoth}
use Rattle.lmn_app.specs.TextExamples.{no_plan, one_atom, one_leaf, small_names, small_plain, small_rule, small_text}
use Rattle.lmn_app.proofs.BoundLemmas.{is_bound}
use Rattle.lmn_app_single.proofs.ListLemmas.{plain_named}
use Rattle.lmn_app.proofs.SmallTexts.{small_text_is_accepted}
use Rattle.lmn_base.proofs.Lists.{sum_cons}

-- ---- what is told

-- an atom without links, by the number of its name
abbrev bare : ℕ → Functor
bare name = record { label = NameLabel name; arity = 0 }

-- such an atom weighs 1, and nothing else anything
abbrev one_weighs : ℕ → Weights
one_weighs name = record { functors = bare name ∷ []; values = 1 ∷ []; int = 0; membrane = 0 }

differ : (m n : ℕ) → n < m → m ≢ n
differ m n l e = omega (arith, l, e)

-- what a line says that names it, by its letter
told : (name letter : ℕ) → 10 < letter → functor_text small_names (bare name) ≡ letter ∷ codes "/0" → HasText small_names (bare name) → AreWeightsOf small_names (letter ∷ codes "/0 1\n") (one_weighs name)
told name letter l text has = record {
  lines = (letter ∷ codes "/0 1") ∷ [];
  apart = ((differ letter 10 l, (differ 47 10 (omega arith), (differ 48 10 (omega arith), (differ 32 10 (omega arith), (differ 49 10 (omega arith), tt))))), tt);
  text_is = refl;
  told = record { functors = bare name ∷ []; values = 1 ∷ []; int = None; membrane = None };
  tell = line_more (no_line refl) (record { digits = codes "1"; number = refl; is = refl }) (of_functor (bare name) text has refl refl refl);
  functors = refl;
  values = refl;
  int = refl;
  membrane = refl;
}

a_text : functor_text small_names (bare 7) ≡ codes "a/0"
unfolding digits
a_text = refl

b_text : functor_text small_names (bare 8) ≡ codes "b/0"
unfolding digits
b_text = refl

a_has : HasText small_names (bare 7)
a_has = record { held = omega arith; short = omega arith; narrow = (tt, omega arith) }

b_has : HasText small_names (bare 8)
b_has = record { held = omega arith; short = omega arith; narrow = (tt, omega arith) }

-- ---- what it weighs

-- a level of one atom weighs what the atom does
atom_weighs : (w : Weights) (name column : ℕ) (rules : List ℕ) → level_weight w [] [] (one_atom name column rules) ≡ functor_weight w (bare name)
atom_weighs w name column rules = fold-roll-Level ℕ (weight_step w [] []) _ ∙ only
  where
    only : sum (map (leaf_weight w [] []) (one_leaf name column ∷ [])) + (0 * w.membrane + 0) ≡ functor_weight w (bare name)
    only = let s = sum_cons (leaf_weight w [] []) (one_leaf name column) [] in let z : 0 * w.membrane ≡ 0 = grind arith in omega (arith, s, z)

no_context : contexts_of small_rule.head ≡ []
no_context = fold-roll-Level (List CtxUse) (λ l. l.contexts ++ flat_map (λ inner. inner) l.membranes) _

a_lowered : is_lowered (one_weighs 7) small_rule no_plan ≡ true
a_lowered =
    let body = atom_weighs (one_weighs 7) 8 9 [] in
    let head = atom_weighs (one_weighs 7) 7 4 [] in
    let none = no_context in
    λ i. nat_lt (body i) (head i) && (true && list_all (closed_once small_rule.body) (none i))

b_not_lowered : is_lowered (one_weighs 8) small_rule no_plan ≡ false
b_not_lowered =
    let body = atom_weighs (one_weighs 8) 8 9 [] in
    let head = atom_weighs (one_weighs 8) 7 4 [] in
    let none = no_context in
    λ i. nat_lt (body i) (head i) && (true && list_all (closed_once small_rule.body) (none i))

each_lowered : EachLowered (one_weighs 7) small_plain (no_plan ∷ [])
each_lowered zero r plan e f =
    let rule = same_Some small_rule r e in
    let guard = same_Some no_plan plan f in
    (λ i. is_lowered (one_weighs 7) (sym rule i) (sym guard i)) ∙ a_lowered
each_lowered (suc k) r plan e f = absurd (cc)

-- ---- beside the text

module _ (laws : AcceptedTexts) where
  named : IsNames small_names
  named = (plain_named laws small_text small_names small_plain (no_plan ∷ []) small_text_is_accepted).0

  -- it is bounded
  pub small_text_is_bounded : WeightsBound → SmallTextIsBounded
  small_text_is_bounded bounds =
      is_bound laws bounds small_text small_weights small_names small_plain (no_plan ∷ []) small_text_is_accepted small_names (adds_none (length small_weights) small_names) named
      (one_weighs 7) (told 7 97 (omega arith) a_text a_has) each_lowered 1 (sym (atom_weighs (one_weighs 7) 7 1 (0 ∷ [])))

  -- or its rule isn't lowered
  pub small_text_is_not_lowered : SmallTextIsNotLowered
  small_text_is_not_lowered = not_lowered both (one_weighs 8) (told 8 98 (omega arith) b_text b_has) first
    where
      both : ReadsBoth small_text turned_weights
      both = record {
        names = small_names;
        plain = small_plain;
        plans = no_plan ∷ [];
        accepted = small_text_is_accepted;
        later = small_names;
        adds = adds_none (length turned_weights) small_names;
        once = named;
      }

      first : IsFirstNotLowered (one_weighs 8) small_plain (no_plan ∷ []) (record { code = 86; pos = at_column 4 })
      first = record {
        number = 0;
        rule = small_rule;
        plan = no_plan;
        is_rule = refl;
        is_plan = refl;
        not_lowered = b_not_lowered;
        before = λ k r g l e f. absurd (omega (arith, l));
        refused = refl;
      }
