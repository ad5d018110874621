use Rattle.std.proofs.Common.{◌∙◌, ap, sym, subst, arith, ◌<◌, List, length}
use Rattle.lmn_web_cells.specs.Rows.{Item, number, with_items, place_of}
use Rattle.lmn_web_cells.proofs.FillLemmas.{with_same, and_written, and_half_written, half_there, end_there, two_blank, head_none, head_one, head_two}
use Rattle.lmn_web_cells.proofs.filling.fill_numbers.Goals as goal

pub set_half-requires : goal.set_half-requires
set_half-requires c =
    let i = c.requires.words.0 in let x = c.requires.words.1 in let own = c.requires.words.2 in
    let old = c.args.rows.now.rows in let b = place_of c.args.at in let m = c.args.left in let words = own ∙ two_blank i x m in
    let there = subst (λ (is : List Item). 0 < length is) (sym words) (omega arith) in let zero = sym (with_same old b) ∙ ap (λ (is : List Item). with_items b is old) words in
    let h = half_there old old b 15 (head_none i x m) there zero (omega arith) (omega arith) in (c.requires.start, omega arith, (λ e. absurd (omega (arith, e))), h.0, h.1)

pub set_number-requires : goal.set_number-requires
set_number-requires c =
    let i = c.requires.words.0 in let x = c.requires.words.1 in let own = c.requires.words.2 in
    let old = c.args.rows.now.rows in let b = place_of c.args.at in let m = c.args.left in let words = own ∙ two_blank i x m in
    let there = subst (λ (is : List Item). 0 < length is) (sym words) (omega arith) in let zero = sym (with_same old b) ∙ ap (λ (is : List Item). with_items b is old) words in
    let one = and_half_written old old c.set_half.new.self.rows b 15 0 (head_none i x m) there zero c.set_half.ensures in
    (c.requires.start, omega arith, (λ e. absurd (omega (arith, e))), end_there old c.set_half.new.self.rows b 8 (head_one i x m) there one (omega arith))

pub set_number-requires-2 : goal.set_number-requires-2
set_number-requires-2 c =
    let i = c.requires.words.0 in let x = c.requires.words.1 in let own = c.requires.words.2 in
    let old = c.args.rows.now.rows in let b = place_of c.args.at in let m = c.args.left in let words = own ∙ two_blank i x m in
    let there = subst (λ (is : List Item). 0 < length is) (sym words) (omega arith) in let zero = sym (with_same old b) ∙ ap (λ (is : List Item). with_items b is old) words in
    let one = and_half_written old old c.set_half.new.self.rows b 15 0 (head_none i x m) there zero c.set_half.ensures in
    let two = and_written old c.set_half.new.self.rows c.set_number.new.self.rows b 8 (head_one i x m) (number 0) there one c.set_number.ensures in
    (c.requires.start, omega arith, (λ e. absurd (omega (arith, e))), end_there old c.set_number.new.self.rows b 9 (head_two i x m) there two (omega arith))

pub returns : goal.returns
returns c = λ i x own.
    let old = c.args.rows.now.rows in let b = place_of c.args.at in let m = c.args.left in let words = own ∙ two_blank i x m in
    let there = subst (λ (is : List Item). 0 < length is) (sym words) (omega arith) in let zero = sym (with_same old b) ∙ ap (λ (is : List Item). with_items b is old) words in
    let one = and_half_written old old c.set_half.new.self.rows b 15 0 (head_none i x m) there zero c.set_half.ensures in
    let two = and_written old c.set_half.new.self.rows c.set_number.new.self.rows b 8 (head_one i x m) (number 0) there one c.set_number.ensures in
    and_written old c.set_number.new.self.rows c.set_number-2.new.self.rows b 9 (head_two i x m) (number 0) there two c.set_number-2.ensures
