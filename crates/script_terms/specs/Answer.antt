-- What each command does when it is not refused.
--
-- IsDone old c reply new  the command is done: this is the reply, and this is what it leaves; of a line of versions see there
-- Answers old c reply new     refused with the state as it was, or done
-- Leaves P old new        the project becomes what P says, and the sessions stay
-- Moves editor s u P old new     the project becomes what P says, and the session of the editor was s and is u
-- LeavesNoted editor t P old new     the project becomes what P says, and t is the last done step of the editor's session, whose undone
--                                    ones go
-- AreNoted editor es old new     the edits of a plan are done in their order, each as a step of the editor's session; each state between
--                                is in order
-- AreAllDone editor es promise old new     so, and `promise` holds of the features then
-- IsFixed editor es promise said old reply new     no shape of the plan has a fault, its edits are all done, and the reply is `said`; or the
--                         first shape with a fault refuses it, and nothing changes
-- IsUndone, IsRedone      the last done step of the editor's session is undone: its handle has what stood there before it; the first
--                         undone one is done again
-- AreTakenBack ts p q     these steps are undone, the last one first
-- IsDiscarded             the done steps of the editor's session are taken back, and it is gone
-- IsCornerList p r a b reply     the reply lists the corners of the cells of the error of this key, which are numbered from 1
-- Tries p w j             a validation of the window w tries j pairs: of a rule in force and a selected feature that it judges
--
-- A line that names no subtype adds a feature of the subtype 0. A change keeps the subtype of its feature, and a new subtype its shape.
-- A session begins without steps; where it ends, its steps stand. What is not named stays. Each edit of a fix is a step of its own, so an
-- undo takes back one.
-- Source: editing and validation of a geodatabase topology (Esri).
use Rattle.std.specs.Prelude.{◌≡◌, ◌⊎◌, ℕ, ◌+◌, true, false, List, [], ◌∷◌, length, Option, Some, None, unwrap_or, MatchOption}
use Rattle.plane_terms.specs.Lists.{Every, IsThose}
use Rattle.plane_terms.specs.ShapeFaults.{IsFlawless}
use Rattle.plane_terms.specs.declared.shape_fault.ShapeFault.{ShapeFault}
use Rattle.corner_terms.specs.CornerLists.{AreOfCells}
use Rattle.corner_terms.specs.declared.cell_corner.CellCorner.{CellCorner}
use Rattle.plane_terms.specs.Rectangle.{Rectangle}
use Rattle.plane_terms.specs.Shape.{Shape}
use Rattle.topology_terms.specs.Feature.{Feature, feature_of, feature_at}
use Rattle.topology_terms.specs.Entry.{Entry, entry_at}
use Rattle.topology_terms.specs.Poster.{poster}
use Rattle.topology_terms.specs.Project.{Project, IsOrdered, rule_at}
use Rattle.topology_terms.specs.Broken.{Row}
use Rattle.topology_terms.specs.Lookups.{class_number}
use Rattle.topology_terms.specs.Session.{EditStep, Session, session_of, with_step}
use Rattle.topology_terms.specs.Changes.{IsClassAdded, IsFeatureAdded, IsFeatureSet, IsRuleAdded, IsRuleDropped, IsMarked, IsSelected, reshaped, retyped}
use Rattle.topology_terms.specs.Settled.{IsValidatedBy}
use Rattle.topology_terms.specs.Counts.{judged_of}
use Rattle.session_terms.specs.Steps.{IsUndoneTo, with_session, with_opened, without}
use Rattle.fix_terms.specs.Plans.{Edit, shapes_of, IsBadPlan}
use Rattle.fix_terms.specs.Explode.{exploded, HasExploded}
use Rattle.fix_terms.specs.Snap.{snapped, HasSnapped}
use Rattle.fix_terms.specs.Create.{created, HasCreated}
use Rattle.fix_terms.specs.Move.{moves, HasMoved}
use Rattle.fix_terms.specs.declared.edit.Edit.TheVariants as edit
use Rattle.script_terms.specs.Refusal.{BadShape}
use Rattle.line_terms.specs.Commands.{Command, Blank, Class as AClass, Rule, DropRule, Begin, End, Discard, Add, Change, Delete, Retype, Undo, Redo, Explode, Snap, Create, Move, Validate, Mark, Unmark, Dirty, Errors, Cells, Features, Rules, Corners}
use Rattle.script_terms.specs.Reply.{Reply, Nothing, Done, Number, Parts, Moved, Judged, Refused, DirtyList, ErrorList, CellList, FeatureList, RuleList, CornerList}
use Rattle.script_terms.specs.State.{Desk}
use Rattle.script_terms.specs.Refusing.{row_of, refusal_of}

pub record Leaves (P : Project → Project → Type 0) (old new : Desk) : Type 0 where
  pub project : P old.project new.project
  pub sessions : new.sessions ≡ old.sessions

-- the session of the editor was s and is u; the others stay
pub record IsSessionChanged (editor : List ℕ) (s u : Session) (old new : List Session) : Type 0 where
  pub there : session_of old editor ≡ Some s
  pub name : u.name ≡ s.name
  pub sessions : new ≡ with_session old u

pub record Moves (editor : List ℕ) (s u : Session) (P : Project → Project → Type 0) (old new : Desk) : Type 0 where
  pub project : P old.project new.project
  pub session : IsSessionChanged editor s u old.sessions new.sessions

abbrev pub LeavesNoted : List ℕ → EditStep → (Project → Project → Type 0) → Desk → Desk → Type 0
LeavesNoted editor t P old new = (s : Session) × Moves editor s (with_step s t) P old new

-- the step of a feature that comes, and that of one that is set or taken away
abbrev pub added_step : ℕ → ℕ → ℕ → Shape → EditStep
added_step h class subtype shape = record { handle = h; before = None; after = Some (feature_of h class subtype shape) }

abbrev pub set_step : Project → ℕ → Option Feature → EditStep
set_step p h after = record { handle = h; before = feature_at p.features h; after = after }

abbrev pub AreNoted : List ℕ → List Edit → Desk → Desk → Type 0
AreNoted editor [] old new = new ≡ old
AreNoted editor (edit.Put h s ∷ es) old new =
    let after = reshaped (feature_at old.project.features h) s in
    (m : Desk) × IsOrdered m.project × LeavesNoted editor (set_step old.project h after) (IsFeatureSet h after) old m × AreNoted editor es m new
AreNoted editor (edit.Add c t s ∷ es) old new =
    let h = old.project.next in
    (m : Desk) × IsOrdered m.project × LeavesNoted editor (added_step h c t s) (IsFeatureAdded c t s h) old m × AreNoted editor es m new

pub record AreAllDone (editor : List ℕ) (es : List Edit) (promise : List Feature → Type 0) (old new : Desk) : Type 0 where
  pub noted : AreNoted editor es old new
  pub kept : promise new.project.features

abbrev pub IsFixed : List ℕ → List Edit → (List Feature → Type 0) → Reply → Desk → Reply → Desk → Type 0
IsFixed editor es promise said old reply new =
    (Every IsFlawless (shapes_of es) × (reply ≡ said) × AreAllDone editor es promise old new)
    ⊎ ((fault : ShapeFault) × IsBadPlan es fault × (reply ≡ Refused (BadShape fault)) × (new ≡ old))

abbrev pub IsUndone : List ℕ → Desk → Desk → Type 0
IsUndone editor old new = (t : EditStep) × (s u : Session) × IsUndoneTo s t u × Moves editor s u (IsFeatureSet t.handle t.before) old new

-- a redo is an undo backwards
abbrev pub IsRedone : List ℕ → Desk → Desk → Type 0
IsRedone editor old new = (t : EditStep) × (s u : Session) × IsUndoneTo u t s × Moves editor s u (IsFeatureSet t.handle t.after) old new

abbrev pub AreTakenBack : List EditStep → Project → Project → Type 0
AreTakenBack [] old new = new ≡ old
AreTakenBack (t ∷ ts) old new = (middle : Project) × AreTakenBack ts old middle × IsFeatureSet t.handle t.before middle new

pub record IsDiscarded (editor : List ℕ) (old new : Desk) : Type 0 where
  pub session : Session
  pub there : session_of old.sessions editor ≡ Some session
  pub taken_back : AreTakenBack session.done old.project new.project
  pub sessions : new.sessions ≡ without old.sessions editor

-- a validation of the window tries so many pairs of a rule and a selected feature
abbrev pub Tries : Project → Rectangle → ℕ → Type 0
Tries p w j = (chosen : List Feature) × IsThose (λ (f : Feature). IsSelected p w f.handle) p.features chosen × (j ≡ judged_of p.rules chosen)

abbrev pub IsCornerList : Project → ℕ → ℕ → ℕ → Reply → Type 0
IsCornerList p r a b reply = (e : Entry) × (ks : List CellCorner) × (entry_at p.entries r a b ≡ Some e) × AreOfCells 1 e.cells ks
    × (reply ≡ CornerList ks)

abbrev pub IsDone : Desk → Command → Reply → Desk → Type 0
IsDone old Blank reply new = (reply ≡ Nothing) × (new ≡ old)
IsDone old (AClass name k) reply new = (reply ≡ Number (length old.project.classes + 1)) × Leaves (IsClassAdded name k) old new
IsDone old (Rule k origin dest) reply new = (n : ℕ) × (reply ≡ Number n) × Leaves (IsRuleAdded n (row_of old.project k origin dest)) old new
IsDone old (DropRule r) reply new = (reply ≡ Done) × Leaves (IsRuleDropped r) old new
IsDone old (Begin editor) reply new = (reply ≡ Done) × (new ≡ record old { sessions = with_opened old.sessions editor })
IsDone old (End editor) reply new = (reply ≡ Done) × (new ≡ record old { sessions = without old.sessions editor })
IsDone old (Discard editor) reply new = (reply ≡ Done) × IsDiscarded editor old new
IsDone old (Add editor own shape) reply new =
    let n = unwrap_or (class_number old.project own.name) 0 in
    let t = unwrap_or own.subtype 0 in
    (h : ℕ) × (reply ≡ Number h) × LeavesNoted editor (added_step h n t shape) (IsFeatureAdded n t shape h) old new
IsDone old (Change editor h shape) reply new =
    let after = reshaped (feature_at old.project.features h) shape in
    (reply ≡ Done) × LeavesNoted editor (set_step old.project h after) (IsFeatureSet h after) old new
IsDone old (Delete editor h) reply new = (reply ≡ Done) × LeavesNoted editor (set_step old.project h None) (IsFeatureSet h None) old new
IsDone old (Retype editor h t) reply new =
    let after = retyped (feature_at old.project.features h) t in
    (reply ≡ Done) × LeavesNoted editor (set_step old.project h after) (IsFeatureSet h after) old new
IsDone old (Undo editor) reply new = (reply ≡ Done) × IsUndone editor old new
IsDone old (Redo editor) reply new = (reply ≡ Done) × IsRedone editor old new
IsDone old (Explode editor h) reply new =
    let p = old.project in
    (f : Feature) × (feature_at p.features h ≡ Some f) × (reply ≡ Parts (length f.shape.parts))
    × AreAllDone editor (exploded f) (HasExploded p.features p.next h (exploded f)) old new
IsDone old (Snap editor r h i to) reply new =
    let p = old.project in
    (row : Row) × (f : Feature) × (rule_at p.rules r ≡ Some row) × (feature_at p.features h ≡ Some f)
    × IsFixed editor (snapped i to f) (HasSnapped row f i to p.features) Done old reply new
IsDone old (Create editor r h at) reply new =
    let p = old.project in
    (row : Row) × (f : Feature) × (rule_at p.rules r ≡ Some row) × (feature_at p.features h ≡ Some f) × (reply ≡ Number p.next)
    × AreAllDone editor (created row at) (HasCreated row f at p.features p.next) old new
IsDone old (Move editor from to) reply new =
    let F = old.project.features in
    IsFixed editor (moves from to F) (HasMoved from to F) (Moved (length (moves from to F))) old reply new
IsDone old (Validate w) reply new = (j : ℕ) × Tries old.project w j × Leaves (IsValidatedBy poster w) old new
    × (reply ≡ Judged j (length new.project.entries) (length new.project.dirt))
IsDone old (Mark r a b) reply new = (reply ≡ Done) × Leaves (IsMarked r a b true) old new
IsDone old (Unmark r a b) reply new = (reply ≡ Done) × Leaves (IsMarked r a b false) old new
IsDone old Dirty reply new = (reply ≡ DirtyList old.project) × (new ≡ old)
IsDone old Errors reply new = (reply ≡ ErrorList old.project) × (new ≡ old)
IsDone old Cells reply new = (reply ≡ CellList old.project) × (new ≡ old)
IsDone old Features reply new = (reply ≡ FeatureList old.project) × (new ≡ old)
IsDone old Rules reply new = (reply ≡ RuleList old.project) × (new ≡ old)
IsDone old (Corners r a b) reply new = IsCornerList old.project r a b reply × (new ≡ old)
IsDone old other reply new = ⊥

-- done, or refused with the state as it was
abbrev pub Answers : Desk → Command → Reply → Desk → Type 0
Answers old c reply new = MatchOption (refusal_of old c) (IsDone old c reply new) (λ r. (reply ≡ Refused r) × (new ≡ old))
