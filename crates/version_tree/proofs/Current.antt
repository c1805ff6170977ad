-- What a tree keeps as the project of its current version changes.
use Rattle.std.proofs.Common.{◌≡◌, ℕ, ◌+◌, ◌≤◌, Bool, List, [], ◌∷◌, length, Option, Some, None, refl, sym, ◌∙◌, ap, subst, arith}
use Rattle.std.specs.Prelude.{Result, Ok, Err, OnOk, OnErr, IfOk}
use Rattle.plane_terms.specs.Lists.{Every}
use Rattle.plane_terms.specs.Rectangle.{Rectangle}
use Rattle.plane_terms.specs.Shape.{Shape}
use Rattle.plane_terms.specs.declared.kind.Kind.{Kind}
use Rattle.topology_terms.specs.Broken.{Row}
use Rattle.topology_terms.specs.Changes.{IsClassAdded, IsFeatureAdded, IsFeatureSet, IsRuleAdded, IsRuleDropped, IsMarked}
use Rattle.topology_terms.specs.Feature.{Feature}
use Rattle.topology_terms.specs.Meaning.{Meaning}
use Rattle.topology_terms.specs.Project.{Project}
use Rattle.topology_terms.specs.Settled.{IsValidatedBy}
use Rattle.version_terms.specs.Versions.{Version, Tree, IsTree, IsAlike}

-- the tree with another project in the current version
abbrev pub turned : Tree → Project → Tree
turned t q = record { current = record { name = t.current.name; project = q; base = t.current.base }; others = t.others }

alike_all : (p q : Project) (vs : List Version) → q.classes ≡ p.classes → q.rules ≡ p.rules → p.next ≤ q.next → Every (IsAlike p) vs
    → Every (IsAlike q) vs
alike_all p q [] c r n e = tt
alike_all p q (v ∷ vs) c r n e = (
  record { classes = e.0.classes ∙ sym c; rules = e.0.rules ∙ sym r; next = (let l = e.0.next in omega (arith, l, n)) },
  alike_all p q vs c r n e.1,
)

pub stays_tree : (t : Tree) (q : Project) → q.classes ≡ t.current.project.classes → q.rules ≡ t.current.project.rules
    → t.current.project.next ≤ q.next → IsTree t → IsTree (turned t q)
stays_tree t q c r n i = record {
  few = i.few;
  root = i.root;
  alike = alike_all t.current.project q t.others c r n i.alike;
}

pub same_tree : (t : Tree) (q : Project) → q ≡ t.current.project → IsTree t → IsTree (turned t q)
same_tree t q e i = subst (λ (p : Project). IsTree (turned t p)) (sym e) i

-- with no other version, whatever the project is
none_alike : (p : Project) (vs : List Version) → length vs ≡ 0 → Every (IsAlike p) vs
none_alike p [] e = tt
none_alike p (v ∷ vs) e = cc

even : (m n : ℕ) → n ≡ m → m ≤ n
even m n e = omega (arith, e)

more : (m n : ℕ) → n ≡ m + 1 → m ≤ n
more m n e = omega (arith, e)

-- ---- each call, by the parts of the tree
abbrev pub made : List ℕ → Option (List Feature) → List Version → Project → Tree
made n b vs p = record { current = record { name = n; project = p; base = b }; others = vs }

pub turned_after : {T E : Type 0} (n : List ℕ) (b : Option (List Feature)) (vs : List Version) (p q : Project) (called : Result T E)
    → OnErr called (q ≡ p) → OnErr called (made n b vs q ≡ made n b vs p)
turned_after n b vs p q (Ok x) kept = tt
turned_after n b vs p q (Err e) kept = ap (made n b vs) kept

pub alone_tree : (n : List ℕ) (b : Option (List Feature)) (vs : List Version) (p q : Project) → length vs ≡ 0 → IsTree (made n b vs p)
    → IsTree (made n b vs q)
alone_tree n b vs p q e i = record { few = i.few; root = i.root; alike = none_alike q vs e }

pub added_tree : {E : Type 0} (n : List ℕ) (b : Option (List Feature)) (vs : List Version) (p q : Project) (class subtype : ℕ)
    (shape : Shape) (called : Result ℕ E) → IsTree (made n b vs p) → IfOk called (λ h. IsFeatureAdded class subtype shape h p q)
    → OnErr called (q ≡ p) → IsTree (made n b vs q)
added_tree n b vs p q class subtype shape (Ok h) i ok err =
    stays_tree (made n b vs p) q ok.edit.classes ok.edit.rules (more p.next q.next ok.next) i
added_tree n b vs p q class subtype shape (Err e) i ok err = same_tree (made n b vs p) q err i

pub set_tree : {T E : Type 0} (n : List ℕ) (b : Option (List Feature)) (vs : List Version) (p q : Project) (h : ℕ)
    (after : Option Feature) (called : Result T E) → IsTree (made n b vs p) → OnOk called (IsFeatureSet h after p q)
    → OnErr called (q ≡ p) → IsTree (made n b vs q)
set_tree n b vs p q h after (Ok x) i ok err =
    stays_tree (made n b vs p) q ok.edit.classes ok.edit.rules (even p.next q.next ok.next) i
set_tree n b vs p q h after (Err e) i ok err = same_tree (made n b vs p) q err i

pub marked_tree : {T E : Type 0} (n : List ℕ) (b : Option (List Feature)) (vs : List Version) (p q : Project) (r h g : ℕ) (on : Bool)
    (called : Result T E) → IsTree (made n b vs p) → OnOk called (IsMarked r h g on p q) → OnErr called (q ≡ p) → IsTree (made n b vs q)
marked_tree n b vs p q r h g on (Ok x) i ok err =
    let m = ok.marking in stays_tree (made n b vs p) q m.classes m.rules (even p.next q.next m.next) i
marked_tree n b vs p q r h g on (Err e) i ok err = same_tree (made n b vs p) q err i

pub validated_tree : {T E : Type 0} (M : Meaning) (n : List ℕ) (b : Option (List Feature)) (vs : List Version) (p q : Project)
    (w : Rectangle) (called : Result T E) → IsTree (made n b vs p) → OnOk called (IsValidatedBy M w p q) → OnErr called (q ≡ p)
    → IsTree (made n b vs q)
validated_tree M n b vs p q w (Ok x) i ok err = stays_tree (made n b vs p) q ok.classes ok.rules (even p.next q.next ok.next) i
validated_tree M n b vs p q w (Err e) i ok err = same_tree (made n b vs p) q err i
