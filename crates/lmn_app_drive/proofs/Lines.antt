-- The line that is written of a heap is that of the solid that it holds.
use Rattle.std.proofs.Common.{ℕ, ◌≡◌, Bool, List, refl, sym, ap, subst, ◌∙◌}
use Rattle.lmn_base.specs.Links.{NumbersLinks}
use Rattle.lmn_base.specs.Solids.{links_of_region}
use Rattle.lmn_base.specs.declared.rule.RuleTree.{RuleTree}
use Rattle.lmn_base.specs.declared.solid.Region.{Region}
use Rattle.lmn_base.specs.declared.solid.Region.TheViews.{roll-Region}
use Rattle.lmn_base.specs.declared.solid.Solid.{Solid}
use Rattle.lmn_store_heap.specs.Heap.{Heap, atoms_in, rules_in, Unmarked}
use Rattle.lmn_store_heap.specs.Solid.{HasSolid, solid_atoms_at, regions_of}
use Rattle.lmn_store_heap.specs.Sound.{Forest, Valid, bare, mem}
use Rattle.lmn_congruence.specs.Rules.{Name}
use Rattle.lmn_congruence.specs.Translation.{numbered_rule, region_of}
use Rattle.lmn_adequacy.specs.Numbered.{printed_links}
use Rattle.lmn_adequacy_heaps.proofs.SolidRegions.{solids_are_regions}
use Rattle.lmn_print_folded.specs.Lines.{IsLine}
use Rattle.lmn_print.specs.Lines.{IsHeapLine}
use Rattle.lmn_instr_code.specs.declared.instr.Code.{Code}
use Rattle.lmn_schedule.specs.Held.{EngineCanTurn, HoldsRegion, reading_by}
use Rattle.lmn_schedule.proofs.Loaded.{first_of}
use Rattle.lmn_adequacy.proofs.PlainSolids.{printed}
use Rattle.lmn_congruence.specs.Regions as solid

-- the membranes of a heap and what is in them, by the numbers of its links
abbrev root_of : Heap → (ℕ → ℕ → ℕ) → Forest → Region
root_of h number inner = roll-Region (record { atoms = solid_atoms_at h number (atoms_in h h.root); membranes = regions_of h number inner; rules = rules_in h h.root })

-- a heap that holds a solid has its line
pub line_held : (folded : Bool) (names : List Name) (table : List RuleTree) (h : Heap) (S : solid.Region) (line : List ℕ) → HoldsRegion names table h S → IsLine folded S line → IsHeapLine folded names table h line
line_held folded names table h S line held is_line =
    let x : Solid = record { root = root_of h held.number held.inner } in
    let same : region_of names table x ≡ S =
    ap (λ rs. first_of rs S) (solids_are_regions h (reading_by names table held.number) (mem h.root held.inner bare)) ∙ sym held.is in
    let links : printed_links S ≡ links_of_region x.root = ap printed_links (sym same) ∙ printed names (numbered_rule names table) x.root in
    let of : HasSolid h x = record {
      forest = mem h.root held.inner bare;
      tree = held.tree;
      name = held.number;
      naming = held.read.naming;
      root = refl;
      count = held.numbered.0;
      numbers = subst (λ ls. NumbersLinks ls held.numbered.0) links held.numbered.1;
    } in
    (x, of, subst (λ R. IsLine folded R line) (sym same) is_line)

-- a heap on which a turn can be made can be printed
pub can_print : {h : Heap} {table : List RuleTree} {codes : List Code} {size : ℕ} → EngineCanTurn h table codes size → Valid h × Unmarked h
can_print run = (run.turn.valid, run.turn.unmarked)
