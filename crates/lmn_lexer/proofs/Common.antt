-- Lemmas that several crates above cite.
use Rattle.lmn_lexer.specs.NameText.{name_text, quoted}
use Rattle.lmn_lexer.specs.Spelling.{is_bare_name}
use Rattle.std.proofs.Common.{Bool, List, false, if◌then◌else◌, inl, inr, refl, true, ℕ, ◌≡◌, ◌⊎◌, subst, ◌∷◌, ap}

pub bare_or_quoted : (name text : List ℕ) → name_text name ≡ text → ((is_bare_name name ≡ true) × (name ≡ text)) ⊎ ((is_bare_name name ≡ false) × (quoted name ≡ text))
bare_or_quoted name text e = by (is_bare_name name) refl e
  where
    by : (b : Bool) → is_bare_name name ≡ b → (if b then name else quoted name) ≡ text → ((is_bare_name name ≡ true) × (name ≡ text)) ⊎ ((is_bare_name name ≡ false) × (quoted name ≡ text))
    by true h e = inl (h, e)
    by false h e = inr (h, e)

pub bare_unquoted : (bytes rest : List ℕ) → is_bare_name bytes ≡ true → bytes ≡ 39 ∷ rest → ⊥
bare_unquoted bytes rest h e = no (subst (λ b. is_bare_name b ≡ true) e h)
  where
    no : is_bare_name (39 ∷ rest) ≡ true → ⊥
    no f = absurd (cc)

pub text_quoted : (name : List ℕ) → is_bare_name name ≡ false → name_text name ≡ quoted name
text_quoted name h = ap (λ t. if t then name else quoted name) h

pub text_bare : (name : List ℕ) → is_bare_name name ≡ true → name_text name ≡ name
text_bare name h = ap (λ t. if t then name else quoted name) h
