-- Texts that are laid out as words.
use Rattle.std.proofs.Common.{◌≡◌, ℕ, ◌+◌, ◌<◌, Bool, List, [], ◌∷◌, ◌++◌, length, take, drop, refl, sym, ap, ◌∙◌, subst, arith}
use Rattle.std.specs.List.{AllByRecursion}
use Rattle.std.proofs.lemmas.List.{append_assoc, append-nil, map-append, length-drop, take_at, drop_at, drop-drop}
use Rattle.lmn_lexer.specs.declared.token.Kind.{Kind}
use Rattle.lmn_lexer.specs.declared.token.Kind.TheVariants.{End}
use Rattle.lmn_lexer.specs.declared.token.Token.{Token}
use Rattle.lmn_lexer.specs.declared.piece.Piece.TheVariants as piece
use Rattle.lmn_lexer.specs.Cutting.{Cutting, Reaches, start, minus_behind, token_at}
use Rattle.lmn_lexer.specs.Faults.{TokenFault, integer_out_of_range, long_name, floating_point, NothingWrong}
use Rattle.lmn_lexer.specs.Laws.{LaidTextsAreCut}
use Rattle.lmn_lexer.specs.Laying.{Word, word_of, words_of, last_word, MayFollow, Laid, all_laid, separator, word, IsRight}
use Rattle.lmn_lexer.specs.Scanning.{piece_of}
use Rattle.lmn_lexer.specs.Scanners.{IsCut}
use Rattle.lmn_lexer.proofs.Building.{blank_first, word_first, blank_off, token_off}
use Rattle.lmn_lexer.proofs.OneCut.{reached_whole}
use Rattle.lmn_lexer.proofs.ScannedText.{cut_nothing, gap_cut, token_cut, whole_cut}
use Rattle.lmn_lexer.proofs.ScannerSteps.{minus_last}
use Rattle.lmn_lexer.proofs.SoundTokens.{bytes_here}

-- the words that a text is cut into

-- a text that is cut whole, behind tokens, and the words of what is added
pub record CutOn (text : List ℕ) (tokens : List Token) (words : List Word) : Type 0 where
  pub more : List Token
  pub cut : Reaches text (record { before = text; tokens = tokens ++ more; rest = [] })
  pub spelled : words_of text more ≡ words

cut_one : (text before bytes after : List ℕ) (kind : Kind) (tokens : List Token) (words : List Word) → text ≡ before ++ (bytes ++ after)
    → CutOn text (tokens ++ token_at kind before bytes ∷ []) words → CutOn text tokens (record { kind = kind; bytes = bytes } ∷ words)
cut_one text before bytes after kind tokens words e c =
    let t = token_at kind before bytes in
    let P : List Token → Type 0 = λ ts. Reaches text (record { before = text; tokens = ts; rest = [] }) in
    record {
      more = t ∷ c.more;
      cut = subst P (append_assoc tokens (t ∷ []) c.more) c.cut;
      spelled = ap (λ b. record { kind = kind; bytes = b } ∷ words_of text c.more) (bytes_here text before bytes after kind e)
          ∙ ap (λ ws. record { kind = kind; bytes = bytes } ∷ ws) c.spelled;
    }

cut_all : (text before rest : List ℕ) (tokens : List Token) → Reaches text (record { before = before; tokens = tokens; rest = rest }) → rest ≡ []
    → CutOn text tokens []
cut_all text before rest tokens h e =
    let whole : before ≡ text = sym (append-nil before) ∙ ap (λ r. before ++ r) (sym e) ∙ reached_whole h in
    let P : Cutting → Type 0 = Reaches text in
    let same = ap (λ b. record { before = b; tokens = tokens; rest = rest }) whole
    ∙ ap (λ r. record { before = text; tokens = tokens; rest = r }) e
    ∙ ap (λ ts. record { before = text; tokens = ts; rest = [] }) (sym (append-nil tokens)) in
    record { more = []; cut = subst P same h; spelled = refl }

cut_on : (text : List ℕ) {minus : Bool} {rest : List ℕ} {words : List Word} → Laid minus rest words → (before : List ℕ) (tokens : List Token)
    → minus ≡ minus_behind tokens → Reaches text (record { before = before; tokens = tokens; rest = rest }) → CutOn text tokens words
cut_on text all_laid before tokens m r = cut_all text before [] tokens r refl
cut_on text (separator {b = b} s h) before tokens m r = cut_on text h (before ++ b ∷ []) tokens m (blank_off b r refl s)
cut_on text (word {minus = minus} {kind = kind} {bytes = bytes} {rest = rest} {words = words} e s f h) before tokens m r =
    let found = ap (piece_of (minus_behind tokens)) e ∙ ap (λ x. piece_of x (bytes ++ rest)) (sym m) ∙ word_first minus kind bytes rest s f in
    let behind = sym (minus_last tokens (token_at kind before bytes)) in
    cut_one text before bytes rest kind tokens words (sym (reached_whole r) ∙ ap (λ x. before ++ x) e)
    (cut_on text h (before ++ bytes) (tokens ++ token_at kind before bytes ∷ []) behind (token_off kind bytes rest r e found))

-- nothing is wrong

no_fault : (kind : Kind) (bytes after : List ℕ) → MayFollow kind after → IsRight (record { kind = kind; bytes = bytes })
    → (code : ℕ) → TokenFault kind bytes after code → ⊥
no_fault kind bytes after m right _ (integer_out_of_range e f r) = r (right.0 e)
no_fault kind bytes after m right _ (long_name l) = right.1 l
no_fault kind bytes after m right _ (floating_point e f) = let P : Kind → Type 0 = λ k. MayFollow k after in (subst P e m).1 f

-- where something is left, the text isn't at its end
not_at_end : (text rest : List ℕ) (at : ℕ) → rest ≡ drop at text → 0 < length rest → at < length text
not_at_end text rest at e h = let size = ap length e ∙ length-drop at text in omega arith

token_there : (minus : Bool) (kind : Kind) (rest : List ℕ) (n : ℕ) → piece_of minus rest ≡ piece.Token kind n → 0 < length rest
token_there minus kind [] n e = absurd (cc)
token_there minus kind (b ∷ bs) n e = omega arith

all_right : (text : List ℕ) {minus : Bool} {rest : List ℕ} {words : List Word} → Laid minus rest words → (at : ℕ) (tokens : List Token)
    → minus ≡ minus_behind tokens → rest ≡ drop at text → IsCut text at tokens → AllByRecursion IsRight words → NothingWrong text
all_right text all_laid at tokens m e c all =
    let size = ap length e ∙ length-drop at text in
    (whole_cut text at tokens c (omega arith)).1
all_right text (separator {b = b} {rest = rest} s h) at tokens m e c all =
    let found = ap (piece_of (minus_behind tokens)) (sym e) ∙ blank_first (minus_behind tokens) b rest s in
    let left = ap (drop 1) e ∙ drop-drop 1 at text in
    all_right text h (at + 1) tokens m left (gap_cut text at 1 tokens c (not_at_end text (b ∷ rest) at e (omega arith)) found) all
all_right text (word {minus = minus} {kind = kind} {bytes = bytes} {rest = rest} {text = left} x s f h) at tokens m e c all =
    let n = length bytes in
    let here : drop at text ≡ bytes ++ rest = sym e ∙ x in
    let found : piece_of (minus_behind tokens) (drop at text) ≡ piece.Token kind n =
    ap (piece_of (minus_behind tokens)) here ∙ ap (λ y. piece_of y (bytes ++ rest)) (sym m) ∙ word_first minus kind bytes rest s f in
    let taken : take n (drop at text) ≡ bytes = ap (take n) here ∙ take_at bytes rest n refl in
    let behind : drop n (drop at text) ≡ rest = ap (drop n) here ∙ drop_at bytes rest n refl in
    let some = token_there (minus_behind tokens) kind (drop at text) n found in
    let P : List ℕ → Type 0 = λ y. (code : ℕ) → TokenFault kind y rest code → ⊥ in
    let Q : List ℕ → Type 0 = λ y. (code : ℕ) → TokenFault kind (take n (drop at text)) y code → ⊥ in
    let none = subst Q (sym behind) (subst P (sym taken) (no_fault kind bytes rest f all.0)) in
    let t = token_at kind (take at text) (take n (drop at text)) in
    all_right text h (at + n) (tokens ++ t ∷ []) (sym (minus_last tokens t)) (sym behind ∙ drop-drop n at text)
    (token_cut text at n tokens kind c (not_at_end text (drop at text) at refl some) found none) all.1

-- a text that is laid out as words is cut into them
pub laid_texts_are_cut : LaidTextsAreCut
laid_texts_are_cut text words h =
    let c = cut_on text h [] [] refl start in
    let last = token_at End text [] in
    let end : words_of text (last ∷ []) ≡ last_word ∷ [] =
    ap (λ b. record { kind = End; bytes = b } ∷ []) (bytes_here text text [] [] End (sym (append-nil text))) in (
      c.more ++ last ∷ [],
      record { but_end = c.more; cut = c.cut; with_end = refl },
      map-append (word_of text) c.more (last ∷ []) ∙ ap (λ ws. ws ++ words_of text (last ∷ [])) c.spelled ∙ ap (λ ws. words ++ ws) end,
      λ all. all_right text h 0 [] refl refl (cut_nothing text) all,
    )
