-- Line feeds in texts.
use Rattle.std.specs.Prelude.{◌≡◌, ◌<◌, ℕ, ◌+◌, List, ◌∷◌, ◌++◌, drop, get_or, length, take}
use Rattle.std.proofs.Common.{◌∙◌, ap, arith, sym}
use Rattle.std.proofs.lemmas.List.{drop_more, take-append-drop}
use Rattle.lmn_receipt_reading.specs.Windows.{HasLine}

-- a line feed that isn't the last byte is one with a byte behind it
pub feed_at : (text : List ℕ) (at d : ℕ) → at + 1 < length text → get_or text at d ≡ 10 → HasLine text
feed_at text at d inside feed = record {
  line = take at text;
  byte = get_or text (at + 1) d;
  behind = drop (at + 1 + 1) text;
  holds = sym (take-append-drop at text) ∙ ap (λ rest. take at text ++ rest) (drop_more text at d (omega (arith, inside)) ∙ ap (λ b. b ∷ drop (at + 1) text) feed ∙ ap (λ rest. 10 ∷ rest) (drop_more text (at + 1) d inside));
}
