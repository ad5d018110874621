-- A change of a web that leaves labels, kinds, homes, lists and the number of ports keeps what holds of a store.
use Rattle.std.proofs.Common.{◌≡◌, ℕ, List, [], length, Option, Some, None, IsSome, refl, sym, ap, ◌∙◌, inl, inr}
use Rattle.std.specs.Prelude.{slice_index_or}
use Rattle.std.specs.Option.{option_map}
use Rattle.lmn_store_counts.specs.RuleLists.{RuleList}
use Rattle.lmn_web.specs.declared.kind.CellKind.{CellKind}
use Rattle.lmn_web.specs.declared.kind.CellKind.TheVariants.{Atom, Membrane}
use Rattle.lmn_web.specs.Webs as web
use Rattle.lmn_web.specs.Webs.{WebCell, web_kind, kind_at, home_at, arity_at, cells_in, cells_of, web_label}
use Rattle.lmn_store_web.specs.WebHeaps.{Posts, mems_of}
use Rattle.lmn_store_web.specs.WebStores.{IsStored}
use Rattle.lmn_store_web.proofs.ReadLemmas.{mem_there, mem_is}

-- what such a change leaves of a cell
pub record Core : Type 0 where
  pub label : ℕ
  pub kind : CellKind
  pub home : Option ℕ
  pub atoms : List ℕ
  pub membranes : List ℕ
  pub arity : ℕ
  pub told : ℕ

-- the mark of the port of a membrane
abbrev pub told_by : CellKind → List ℕ → ℕ
told_by Atom ms = 0
told_by Membrane ms = slice_index_or ms 1 0

abbrev pub core : WebCell → Core
core c = record { label = c.label; kind = c.kind; home = c.home; atoms = c.atoms; membranes = c.membranes; arity = length c.partners; told = told_by c.kind c.marks }

abbrev kind_core : Option Core → CellKind
kind_core None = Atom
kind_core (Some c) = c.kind

abbrev home_core : Option Core → Option ℕ
home_core None = None
home_core (Some c) = c.home

abbrev told_core : Option Core → ℕ
told_core None = 0
told_core (Some c) = c.told

told_mark : (o : Option WebCell) → web_kind o ≡ Membrane → slice_index_or (web.marks_of o) 1 0 ≡ told_core (option_map core o)
told_mark None e = refl
told_mark (Some c) e = λ i. told_by (sym e i) c.marks

abbrev arity_core : Option Core → ℕ
arity_core None = 0
arity_core (Some c) = c.arity

abbrev cells_core : Option Core → CellKind → List ℕ
cells_core None k = []
cells_core (Some c) Atom = c.atoms
cells_core (Some c) Membrane = c.membranes

kind_by_core : (o : Option WebCell) → web_kind o ≡ kind_core (option_map core o)
kind_by_core None = refl
kind_by_core (Some c) = refl

home_by_core : (o : Option WebCell) → web.home_of o ≡ home_core (option_map core o)
home_by_core None = refl
home_by_core (Some c) = refl

arity_by_core : (o : Option WebCell) → length (web.partners_of o) ≡ arity_core (option_map core o)
arity_by_core None = refl
arity_by_core (Some c) = refl

label_by_core : (o : Option WebCell) → option_map (λ c. c.label) o ≡ option_map (λ (c : Core). c.label) (option_map core o)
label_by_core None = refl
label_by_core (Some c) = refl

cells_by_core : (o : Option WebCell) (k : CellKind) → cells_of o k ≡ cells_core (option_map core o) k
cells_by_core None k = refl
cells_by_core (Some c) Atom = refl
cells_by_core (Some c) Membrane = refl

some_by_core : (o q : Option WebCell) → option_map core o ≡ option_map core q → IsSome o → IsSome q
some_by_core None q e s = absurd (cc)
some_by_core (Some c) None e s = absurd (cc)
some_by_core (Some c) (Some d) e s = refl

module _ (v w : ℕ → Option WebCell) (same : (x : ℕ) → option_map core (w x) ≡ option_map core (v x)) where
  pub kind_same : (x : ℕ) → kind_at w x ≡ kind_at v x
  kind_same x = kind_by_core (w x) ∙ ap kind_core (same x) ∙ sym (kind_by_core (v x))

  pub home_same : (x : ℕ) → home_at w x ≡ home_at v x
  home_same x = home_by_core (w x) ∙ ap home_core (same x) ∙ sym (home_by_core (v x))

  pub arity_same : (x : ℕ) → arity_at w x ≡ arity_at v x
  arity_same x = arity_by_core (w x) ∙ ap arity_core (same x) ∙ sym (arity_by_core (v x))

  pub label_same : (x : ℕ) → web_label w x ≡ web_label v x
  label_same x = label_by_core (w x) ∙ ap (λ (o : Option Core). option_map (λ (c : Core). c.label) o) (same x) ∙ sym (label_by_core (v x))

  pub cells_same : (x : ℕ) (k : CellKind) → cells_in w x k ≡ cells_in v x k
  cells_same x k = cells_by_core (w x) k ∙ ap (λ (o : Option Core). cells_core o k) (same x) ∙ sym (cells_by_core (v x) k)

  pub there_same : (x : ℕ) → IsSome (w x) → IsSome (v x)
  there_same x = some_by_core (w x) (v x) (same x)

  module _ (p : Posts) (t : List (Option RuleList)) where
    pub mem_same : (m : ℕ) → IsSome (mems_of p t w m) → IsSome (mems_of p t v m)
    mem_same m s = let i = mem_there p t w m s in mem_is p t v m (sym (kind_same m) ∙ i.1) i.2 i.3 (there_same m i.0)

    mem_back : (m : ℕ) → IsSome (mems_of p t v m) → IsSome (mems_of p t w m)
    mem_back m s = let i = mem_there p t v m s in mem_is p t w m (kind_same m ∙ i.1) i.2 i.3 (some_by_core (v m) (w m) (sym (same m)) i.0)

    pub stored_same : IsStored p t v → IsStored p t w
    stored_same k = record {
      root = kind_same p.root ∙ k.root;
      waiting = kind_same p.waiting ∙ k.waiting;
      gone = kind_same p.gone ∙ k.gone;
      root_waits = k.root_waits;
      root_goes = k.root_goes;
      apart = k.apart;
      homeless = λ x s. let h = k.homeless x (there_same x s) in (λ e. h.0 (sym (home_same x) ∙ e), λ e. home_same x ∙ h.1 e);
      portless = λ m e. arity_same m ∙ k.portless m (sym (kind_same m) ∙ e);
      labels = λ a l e f. k.labels a l (sym (kind_same a) ∙ e) (sym (label_same a) ∙ f);
      rules = λ m e d g. let r = k.rules m (sym (kind_same m) ∙ e) d g in (r.0, (label_same m ∙ r.1.0, r.1.1));
      own_rules = λ m n i s u e f. k.own_rules m n i (mem_same m s) (mem_same n u) (sym (label_same m) ∙ e) (sym (label_same n) ∙ f);
      used = λ i s. let u = k.used i s in (u.0, mem_back u.0 u.1, label_same u.0 ∙ u.2);
      files = λ m e l f. k.files m e l (sym (label_same m) ∙ f);
      bare = λ m j e. cells_same m j ∙ k.bare m j (sym (home_same m) ∙ e);
      lent = λ m e f. let e0 = sym (kind_same m) ∙ e in home_same m ∙ k.lent m e0 (sym (told_mark (w m) e ∙ ap told_core (same m) ∙ sym (told_mark (v m) e0)) ∙ f);
      plain = λ m e f. let e0 = sym (kind_same m) ∙ e in
          told_mark (w m) e ∙ ap told_core (same m) ∙ sym (told_mark (v m) e0) ∙ k.plain m e0 (elim f [ inl g ↦ inl g | inr g ↦ elim g [ inl h ↦ inr (inl h) | inr h ↦ inr (inr (sym (home_same m) ∙ h)) ] ]);
    }
