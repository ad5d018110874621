-- Atoms and their links as they are written.
use Rattle.std.proofs.Common.{◌≡◌, ℕ, ◌<◌, false, List, [], ◌∷◌, ◌++◌, map, length, sym, ap, ◌∙◌, arith}
use Rattle.std.specs.Prelude.{codes}
use Rattle.lmn_base.specs.declared.solid.SolidAtom.{SolidAtom}
use Rattle.lmn_congruence.specs.Rules.{Name}
use Rattle.lmn_congruence.specs.Translation.{label_of}
use Rattle.lmn_flatten_plain.specs.Labels.{label_text}
use Rattle.lmn_flatten_plain.specs.Words.{text_of, with_commas, link_name, link_piece, links_pieces}
use Rattle.lmn_flatten_plain.proofs.LaidLines.{text_append}
use Rattle.lmn_print_plain.specs.Rows.{in_row}
use Rattle.lmn_print_plain.specs.Stored.{solid_atom_text}
use Rattle.lmn_print_plain.proofs.LeafLemmas.{label_is, links_row}
use Rattle.lmn_print_plain.proofs.RowLemmas.{comma_row}

-- links in parentheses
pub links_text : (xs : List ℕ) → 0 < length xs → codes "(" ++ (in_row (codes ", ") false (map link_name xs) ++ codes ")") ≡ text_of (links_pieces xs)
links_text [] l = absurd (omega (arith, l))
links_text (x ∷ xs) l =
    let ps = map (λ y. link_piece y ∷ []) (x ∷ xs) in
    sym (ap (λ t. 40 ∷ t) (text_append (with_commas ps) _ ∙ ap (λ t. t ++ (41 ∷ [])) (comma_row ps ∙ ap (in_row (codes ", ") false) (links_row (x ∷ xs)))))

-- an atom by its label and its links
pub atom_text : (names : List Name) (a : SolidAtom) (links : List ℕ) → links ≡ a.links → label_text (label_of names a.functor.label) ++ text_of (links_pieces links) ≡ solid_atom_text names a
atom_text names a links e =
    ap (λ t. t ++ text_of (links_pieces links)) (label_is (label_of names a.functor.label)) ∙ ap (λ xs. solid_atom_text names (record { functor = a.functor; links = xs })) e
