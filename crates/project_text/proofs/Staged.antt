-- What each draft keeps of the record that its text says.
--
-- MayStand a s       a line of the stage s may stand behind the stage a
-- AreStaged s p      what lines of a later stage alone say is not there yet
-- AreClasses, AreRules, AreFeatures, AreDirt, AreErrors     what holds of each section
-- IsStarted p e      what holds of an error whose cells are to come; AreFilled es: only the last lacks them
-- ArePlain rs F      the rules and the features have no subtype
-- IsKept d           the draft keeps all that
use Rattle.std.proofs.Common.{◌≡◌, ◌≢◌, ◌<◌, ◌≤◌, nat_le, true, false, ◌&&◌, not, List, [], ◌∷◌, length, Some, refl, sym, subst, arith}
use Rattle.std.proofs.lemmas.Bool.{not-true, and_parts}
use Rattle.std.proofs.lemmas.Bool.Decides.{nat_tests}
use Rattle.plane_terms.specs.Lists.{Every, EveryPair}
use Rattle.plane_terms.specs.Rectangle.{Rectangle, IsRectangle}
use Rattle.plane_terms.specs.HalfPlane.{IsHalfPlane}
use Rattle.plane_terms.specs.Cell.{Cell}
use Rattle.plane_terms.specs.Dirt.{IsLoose}
use Rattle.text_terms.specs.Fields.{is_name}
use Rattle.topology_terms.specs.Broken.{Row}
use Rattle.topology_terms.specs.Feature.{Class, Feature}
use Rattle.topology_terms.specs.Feature as features
use Rattle.topology_terms.specs.Entry.{Entry, key_of}
use Rattle.topology_terms.specs.Entry as entries
use Rattle.topology_terms.specs.Causes.{is_fit, is_row}
use Rattle.topology_terms.specs.Project.{Project, InForce, rule_at, AreAscending, empty_project}
use Rattle.project_terms.specs.declared.stage.Stage.{Stage}
use Rattle.project_terms.specs.declared.stage.Stage.TheVariants as stage
use Rattle.project_terms.specs.Records.{IsNumbered, HasSmallSides, HasPlainSides, IsPlaced}
use Rattle.project_terms.specs.Drafts.{Draft, start, rank, may_follow, is_open, wants_cell}

-- ---- stages
pub record MayStand (a s : Stage) : Type 0 where
  pub up : rank a ≤ rank s
  pub begun : 3 ≤ rank s → 2 ≤ rank a
  pub on : rank a ≤ 7

pub in_section : (a s : Stage) → 2 ≤ rank a → rank a ≤ 7 → (nat_le 3 (rank s) && nat_le (rank a) (rank s)) ≡ true → MayStand a s
in_section a s some on h =
    let b = and_parts (nat_le 3 (rank s)) (nat_le (rank a) (rank s)) h in
    record { up = grind (arith, nat_tests, b.1); begun = λ e. some; on = on }

pub may_stand : (a s : Stage) → may_follow a s ≡ true → MayStand a s
may_stand stage.Start s h =
    let e : rank s ≡ 1 = grind (arith, nat_tests, h) in
    record { up = omega (arith, e); begun = λ k. absurd (omega (arith, e, k)); on = omega arith }
may_stand stage.Title s h =
    let e : rank s ≡ 2 = grind (arith, nat_tests, h) in
    record { up = omega (arith, e); begun = λ k. absurd (omega (arith, e, k)); on = omega arith }
may_stand stage.Next s h = in_section stage.Next s (omega arith) (omega arith) h
may_stand stage.Classes s h = in_section stage.Classes s (omega arith) (omega arith) h
may_stand stage.Rules s h = in_section stage.Rules s (omega arith) (omega arith) h
may_stand stage.Features s h = in_section stage.Features s (omega arith) (omega arith) h
may_stand stage.Dirt s h = in_section stage.Dirt s (omega arith) (omega arith) h
may_stand stage.Errors s h = in_section stage.Errors s (omega arith) (omega arith) h
may_stand stage.End s h = absurd cc

pub opened : (s : Stage) (d : Draft) → is_open s d ≡ true → MayStand d.stage s × (wants_cell d.project.entries ≡ false)
opened s d o =
    let b = and_parts (may_follow d.stage s) (not (wants_cell d.project.entries)) o in
    (may_stand d.stage s b.0, not-true (wants_cell d.project.entries) b.1)

pub record AreStaged (s : Stage) (p : Project) : Type 0 where
  pub next : 2 ≤ rank s → (1 ≤ p.next) × (p.next ≤ 4294967295)
  pub classes : rank s ≤ 2 → p.classes ≡ []
  pub rules : rank s ≤ 3 → p.rules ≡ []
  pub features : rank s ≤ 4 → p.features ≡ []
  pub dirt : rank s ≤ 5 → p.dirt ≡ []
  pub entries : rank s ≤ 6 → p.entries ≡ []

pub restaged : (a s : Stage) (p : Project) → MayStand a s → rank s ≢ 2 → AreStaged a p → AreStaged s p
restaged a s p m n h = record {
  next = λ e. h.next (m.begun (omega (arith, n, e)));
  classes = λ e. h.classes (omega (arith, m.up, e));
  rules = λ e. h.rules (omega (arith, m.up, e));
  features = λ e. h.features (omega (arith, m.up, e));
  dirt = λ e. h.dirt (omega (arith, m.up, e));
  entries = λ e. h.entries (omega (arith, m.up, e));
}

-- ---- sections
pub record AreClasses (cs : List Class) : Type 0 where
  pub few : length cs ≤ 64
  pub names : Every (λ (c : Class). is_name c.name ≡ true) cs
  pub unlike : EveryPair (λ (c d : Class). c.name ≢ d.name) cs

pub record AreRules (cs : List Class) (rs : List InForce) : Type 0 where
  pub numbers : Every IsNumbered rs
  pub ascending : AreAscending rs
  pub sides : Every HasSmallSides rs
  pub fit : Every (λ (q : InForce). is_fit cs q.row ≡ true) rs
  pub apart : EveryPair (λ (q r : InForce). is_row q.row r.row ≡ false) rs

pub record AreFeatures (p : Project) (F : List Feature) : Type 0 where
  pub placed : Every (IsPlaced p) F
  pub ascending : features.IsAscending F

pub record AreDirt (D : List Rectangle) : Type 0 where
  pub rectangles : Every IsRectangle D
  pub loose : IsLoose D

pub record IsStarted (p : Project) (e : Entry) : Type 0 where
  pub from_1 : 1 ≤ e.subject
  pub given : e.subject < p.next
  pub partner : e.other < p.next
  pub frame : IsRectangle e.frame
  pub whole : e.whole ≡ true → (e.other ≡ 0) × (e.cells ≡ [])
  pub some : Every (λ (c : Cell). c ≢ []) e.cells
  pub halves : Every (λ (c : Cell). Every IsHalfPlane c) e.cells
  pub rule : (row : Row) × (rule_at p.rules e.rule ≡ Some row)
  pub numbered : (1 ≤ e.rule) × (e.rule ≤ 256)

abbrev pub HasCells : Entry → Type 0
HasCells e = e.whole ≡ false → e.cells ≢ []

abbrev pub AreFilled : List Entry → Type 0
AreFilled [] = Unit {0}
AreFilled (e ∷ []) = Unit {0}
AreFilled (e ∷ f ∷ es) = HasCells e × AreFilled (f ∷ es)

pub record AreErrors (p : Project) (es : List Entry) : Type 0 where
  pub started : Every (IsStarted p) es
  pub filled : AreFilled es
  pub ascending : entries.IsAscending es

-- in a format that has no subtypes
pub record ArePlain (rs : List InForce) (F : List Feature) : Type 0 where
  pub rules : Every HasPlainSides rs
  pub features : Every (λ (f : Feature). f.subtype ≡ 0) F

-- what features and errors look at
abbrev pub head_of : Project → Project
head_of p = record empty_project { classes = p.classes; rules = p.rules; next = p.next }

pub record IsKept (d : Draft) : Type 0 where
  pub staged : AreStaged d.stage d.project
  pub classes : AreClasses d.project.classes
  pub rules : AreRules d.project.classes d.project.rules
  pub features : AreFeatures (head_of d.project) d.project.features
  pub plain : d.typed ≡ false → ArePlain d.project.rules d.project.features
  pub dirt : AreDirt d.project.dirt
  pub errors : AreErrors (head_of d.project) d.project.entries
  pub over : rank d.stage ≡ 8 → wants_cell d.project.entries ≡ false

pub no_rules : (cs : List Class) (rs : List InForce) → rs ≡ [] → AreRules cs rs
no_rules cs rs e = subst (AreRules cs) (sym e) (record { numbers = tt; ascending = tt; sides = tt; fit = tt; apart = tt })

pub none_plain : (rs : List InForce) (F : List Feature) → rs ≡ [] → F ≡ [] → ArePlain rs F
none_plain rs F e k = subst (λ (x : List InForce). ArePlain x F) (sym e) (subst (ArePlain []) (sym k) (record { rules = tt; features = tt }))

pub no_features : (p : Project) (F : List Feature) → F ≡ [] → AreFeatures p F
no_features p F e = subst (AreFeatures p) (sym e) (record { placed = tt; ascending = tt })

pub no_errors : (p : Project) (es : List Entry) → es ≡ [] → AreErrors p es
no_errors p es e = subst (AreErrors p) (sym e) (record { started = tt; filled = tt; ascending = tt })

pub start_kept : IsKept start
start_kept = record {
  staged = record {
    next = λ e. absurd (omega (arith, e));
    classes = λ e. refl;
    rules = λ e. refl;
    features = λ e. refl;
    dirt = λ e. refl;
    entries = λ e. refl;
  };
  classes = record { few = omega arith; names = tt; unlike = tt };
  rules = no_rules [] [] refl;
  features = no_features (head_of empty_project) [] refl;
  plain = λ e. none_plain [] [] refl refl;
  dirt = record { rectangles = tt; loose = tt };
  errors = no_errors (head_of empty_project) [] refl;
  over = λ e. absurd (omega (arith, e));
}
