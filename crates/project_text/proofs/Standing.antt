-- Drafts of a record: where a line may stand, and how a line is read whose fields are plain.
--
-- at_stage t s p                 a draft, in a format that has subtypes (t) or has none
-- in_classes p cs, in_rules p rs, in_features p F, in_dirt p D, in_errors p es      the project p as far as so much of a section
use Rattle.std.proofs.Common.{ℕ, pos, ◌≡◌, ◌<◌, ◌≤◌, ◌==◌, ltb, nat_le, Bool, true, false, not, List, [], ◌∷◌, ◌++◌, Option, Some, None, Ok, if◌then◌else◌, refl, sym, ap, subst, arith}
use Rattle.std.specs.Prelude.{IfSome}
use Rattle.std.proofs.lemmas.Bool.{and_from}
use Rattle.std.proofs.lemmas.Bool.Decides.{nat_tests}
use Rattle.plane_terms.specs.Lists.{Every, EveryPair}
use Rattle.plane_terms.proofs.ListLemmas.{every_right}
use Rattle.plane_terms.specs.Rectangle.{Rectangle}
use Rattle.topology_terms.specs.Feature.{Class, Feature}
use Rattle.topology_terms.specs.Entry.{Entry}
use Rattle.topology_terms.specs.Project.{Project, InForce, empty_project}
use Rattle.project_terms.specs.declared.stage.Stage.{Stage}
use Rattle.project_terms.specs.declared.stage.Stage.TheVariants as stage
use Rattle.project_terms.specs.Lines.{joined, natural}
use Rattle.project_terms.specs.Drafts.{Draft, rank, may_follow, is_open, wants_cell}
use Rattle.project_terms.specs.Verdicts.{Verdict, Unwritten, at, line_verdict, wkt_of}
use Rattle.project_terms.specs.Texts.{IsLineVerdict, IsVerdict, IsReading}
use Rattle.project_text.proofs.Bytes.{IsPlain, all_back}

-- ---- an element between others
pub every_mid : {A : Type 0} (P : A → Type 0) (xs : List A) (y : A) (ys : List A) → Every P (xs ++ y ∷ ys) → P y
every_mid P xs y ys h = (every_right P xs (y ∷ ys) h).0

pub between : {A : Type 0} (R : A → A → Type 0) (xs : List A) (y : A) (ys : List A) → EveryPair R (xs ++ y ∷ ys) → Every (λ x. R x y) xs
between R [] y ys h = tt
between R (x ∷ xs) y ys h = (every_mid (R x) xs y ys h.0, between R xs y ys h.1)

pub no_end : {A : Type 0} (xs : List A) (y : A) (ys : List A) → xs ++ y ∷ ys ≡ [] → ⊥
no_end [] y ys e = cc
no_end (x ∷ xs) y ys e = cc

-- ---- tests
pub within : (m n : ℕ) → m ≤ n → nat_le m n ≡ true
within m n h = grind (arith, nat_tests)

pub below : (m n : ℕ) → m < n → ltb m n ≡ true
below m n h = grind (arith, nat_tests)

pub other : (m n : ℕ) → m < n → (m == n) ≡ false
other m n h = grind (arith, nat_tests)

pub natural_back : (low high n : ℕ) → low ≤ n → n ≤ high → natural low high (pos n) ≡ Some n
natural_back low high n a b =
    ap (λ t. if t then Some n else None) (and_from (nat_le low n) (nat_le n high) (within low n a) (within n high b))

-- ---- where a line may stand
pub opens : (a s : Stage) → 2 ≤ rank a → rank a ≤ 7 → 3 ≤ rank s → rank a ≤ rank s → may_follow a s ≡ true
opens stage.Start s some on far up = absurd (omega (arith, some))
opens stage.Title s some on far up = absurd (omega (arith, some))
opens stage.Next s some on far up = and_from _ _ (within 3 (rank s) far) (within 2 (rank s) up)
opens stage.Classes s some on far up = and_from _ _ (within 3 (rank s) far) (within 3 (rank s) up)
opens stage.Rules s some on far up = and_from _ _ (within 3 (rank s) far) (within 4 (rank s) up)
opens stage.Features s some on far up = and_from _ _ (within 3 (rank s) far) (within 5 (rank s) up)
opens stage.Dirt s some on far up = and_from _ _ (within 3 (rank s) far) (within 6 (rank s) up)
opens stage.Errors s some on far up = and_from _ _ (within 3 (rank s) far) (within 7 (rank s) up)
opens stage.End s some on far up = absurd (omega (arith, on))

abbrev pub at_stage : Bool → Stage → Project → Draft
at_stage t s p = record { stage = s; typed = t; project = p }

pub open_here : (t : Bool) (a s : Stage) (p : Project) → 2 ≤ rank a → rank a ≤ 7 → 3 ≤ rank s → rank a ≤ rank s → wants_cell p.entries ≡ false
    → is_open s (at_stage t a p) ≡ true
open_here t a s p some on far up full = and_from _ _ (opens a s some on far up) (ap not full)

pub at_true : (s : Stage) (d : Draft) (v : Verdict) → is_open s d ≡ true → at s d v ≡ v
at_true s d v o = rw o refl

-- a line whose fields are plain is read as its fields are
pub plain_verdict : (d m : Draft) (w : List ℕ) (fs : List (List ℕ)) → Every IsPlain (w ∷ fs) → wkt_of d (w ∷ fs) ≡ None
    → line_verdict Unwritten d (w ∷ fs) ≡ Ok m → IsVerdict d (joined (w ∷ fs)) (Ok m)
plain_verdict d m w fs p none e =
    subst (λ (gs : List (List ℕ)). IsLineVerdict d gs (Ok m))
    (sym (all_back w fs p))
    (Unwritten, subst (λ (o : Option (List ℕ)). IfSome o (λ t. IsReading t Unwritten)) (sym none) tt, sym e)

-- ---- drafts of a record
abbrev pub in_classes : Project → List Class → Project
in_classes p cs = record empty_project { next = p.next; classes = cs }

abbrev pub in_rules : Project → List InForce → Project
in_rules p rs = record empty_project { next = p.next; classes = p.classes; rules = rs }

abbrev pub in_features : Project → List Feature → Project
in_features p F = record empty_project { next = p.next; classes = p.classes; rules = p.rules; features = F }

abbrev pub in_dirt : Project → List Rectangle → Project
in_dirt p D = record { classes = p.classes; rules = p.rules; features = p.features; next = p.next; dirt = D; entries = [] }

abbrev pub in_errors : Project → List Entry → Project
in_errors p es = record { classes = p.classes; rules = p.rules; features = p.features; next = p.next; dirt = p.dirt; entries = es }
