use Rattle.std.proofs.Common.{◌≡◌, ◌<◌, length, get_or, refl, sym, subst, arith}
use denote.RawPtr.{null_ptr}
use Rattle.lmn_web_rows.specs.Rows.{link, place_of, items_in}
use Rattle.lmn_web_rows.specs.Seen.{Stored, shown, IsGone}
use Rattle.lmn_web_rows.proofs.StoreLemmas.{retired, retired_words, gone, kept, kept_gone, row_same, seen_number, retired_numbers, written_numbers}
use Rattle.lmn_web_rows.proofs.store.Store.keep.Goals as goal

pub invariant_of-self : goal.invariant_of-self
invariant_of-self c =
    let s = c.self.inside in let n = place_of c.args.at in let long = subst (λ (v : Stored). length (items_in v.rows n) ≡ c.args.words) (sym c.self.view_is) c.requires.2 in let some = c.requires.1 in
    let l : 0 < length (items_in (shown s.rows.rows) n) = omega (arith, long, some) in
    (retired s.rows.rows c.retire.new.self.rows s.blocks.blocks s.all.items s.rest s.left s.firsts n c.self.invariant.0 l c.retire.ensures, retired_numbers s.rows.rows c.retire.new.self.rows s.count n c.self.invariant.1 (subst (λ is. 0 < length is) (row_same s.rows.rows n 0 l) l) c.retire.ensures)

pub returns-then-words-ge-LENGTHS : goal.returns-then-words-ge-LENGTHS
returns-then-words-ge-LENGTHS c =
    let s = c.self.inside in let n = place_of c.args.at in let long = subst (λ (v : Stored). length (items_in v.rows n) ≡ c.args.words) (sym c.self.view_is) c.requires.2 in let some = c.requires.1 in
    subst (λ (v : Stored). IsGone v.rows (shown c.retire.new.self.rows) n) c.self.view_is (gone s.rows.rows c.retire.new.self.rows n (omega (arith, long, some)) c.retire.ensures)

pub set_link-requires : goal.set_link-requires
set_link-requires c =
    let s = c.self.inside in let n = place_of c.args.at in let long = subst (λ (v : Stored). length (items_in v.rows n) ≡ c.args.words) (sym c.self.view_is) c.requires.2 in let some = c.requires.1 in
    (c.requires.0, omega arith, retired_words s.rows.rows c.retire.new.self.rows n (omega (arith, long, some)) c.retire.ensures)

pub invariant_of-self-2 : goal.invariant_of-self-2
invariant_of-self-2 c =
    let s = c.self.inside in let n = place_of c.args.at in let long = subst (λ (v : Stored). length (items_in v.rows n) ≡ c.args.words) (sym c.self.view_is) c.requires.2 in
    let low : c.args.words < length s.firsts = (let l = c.if-words-ge-LENGTHS.false in let m = c.self.invariant.0.lengths in omega (arith, l, m)) in
    let some = c.requires.1 in let l : 0 < length (items_in (shown s.rows.rows) n) = omega (arith, long, some) in let number = seen_number s.rows.rows s.count n c.self.invariant.1 l in (
      kept s.rows.rows c.retire.new.self.rows c.set_link.new.self.rows s.blocks.blocks s.all.items s.rest s.left s.firsts c.args.words c.args.at (get_or s.firsts c.args.words null_ptr) c.self.invariant.0 c.requires.0 long (omega (arith, some)) number.0 number.1 low
          refl c.retire.ensures c.set_link.ensures,
      written_numbers c.retire.new.self.rows c.set_link.new.self.rows s.count n 0 (link (get_or s.firsts c.args.words null_ptr)) (retired_numbers s.rows.rows c.retire.new.self.rows s.count n c.self.invariant.1 (subst (λ is. 0 < length is) (row_same s.rows.rows n 0 l) l) c.retire.ensures)
          (retired_words s.rows.rows c.retire.new.self.rows n l c.retire.ensures) (λ e. absurd (omega (arith, e))) c.set_link.ensures,
    )

pub returns : goal.returns
returns c =
    let s = c.self.inside in let n = place_of c.args.at in let long = subst (λ (v : Stored). length (items_in v.rows n) ≡ c.args.words) (sym c.self.view_is) c.requires.2 in let some = c.requires.1 in
    subst (λ (v : Stored). IsGone v.rows (shown c.set_link.new.self.rows) n) c.self.view_is
    (kept_gone s.rows.rows c.retire.new.self.rows c.set_link.new.self.rows n (get_or s.firsts c.args.words null_ptr) (omega (arith, long, some)) c.retire.ensures c.set_link.ensures)
