-- What each command is refused for.
--
-- side_of p a             the side that a line names: a class, or one subtype of it; no class has the number 0
-- row_of p k origin dest  the row that a line names
-- is_nowhere p dest       the line names a second class that is not there
-- changes c               the refusal of a change that has this cause
-- held_by name editor     the refusal of an edit of a handle that the session of this name holds, where the editor is another
-- no_error es r a b       the refusal of what asks for the error of this key, where there is none
-- not_exploded n f, not_snapped, not_created     of the live feature f: why it is not taken apart, where n is the next handle; why its end
--                         is not snapped; why no point is made for it. What is asked of before, a rule or a feature that is not there, has
--                         no such cause
-- first_held ss fs editor the refusal of the first of these features that another session holds
-- steps_of done s editor  those steps of the editor's session; none where it has no session
-- refusal_of s c          the first cause, in the order of the list, for which the command is refused; None where it is done. A line that
--                         is skipped, a validation and a listing of the project are never refused
--
-- A feature that is added has a handle that no session holds. A point that a rule asks for is made beside its subject, which does not change
-- and may be held. Where a shape that a fix would make is none, the plan is refused last of all (`IsFixed`).
-- Source: editing and validation of a geodatabase topology (Esri); causes and their order own.
use Rattle.std.specs.Prelude.{ℕ, ◌==◌, ◌+◌, nat_lt, Bool, true, false, not, ◌&&◌, List, [], ◌∷◌, length, Option, Some, None, is_some, is_none, unwrap_or, option_and_then, bytes_eq}
use Rattle.std.specs.Option.{option_map, option_map_or}
use Rattle.plane_terms.specs.Point.{Place}
use Rattle.rule_words.specs.declared.rule_kind.RuleKind.{RuleKind}
use Rattle.topology_terms.specs.Broken.{Row}
use Rattle.topology_terms.specs.Feature.{Side, Feature, feature_at}
use Rattle.topology_terms.specs.Project.{Project, rule_at}
use Rattle.topology_terms.specs.Session.{EditStep, Session, session_of, holder}
use Rattle.topology_terms.specs.Lookups.{class_number}
use Rattle.topology_terms.specs.Entry.{Entry, entry_at}
use Rattle.topology_terms.specs.Causes.{when, first_of, class_cause, add_cause, change_cause, delete_cause, rule_cause, drop_cause, mark_cause}
use Rattle.topology_terms.specs.declared.cause.Cause.{Cause}
use Rattle.topology_terms.specs.declared.cause.Cause.TheVariants as cause
use Rattle.fix_terms.specs.Explode.{may_explode}
use Rattle.fix_terms.specs.Snap.{may_snap}
use Rattle.fix_terms.specs.Create.{may_create}
use Rattle.fix_terms.specs.Move.{may_move, touching}
use Rattle.line_terms.specs.Commands.{Sided, Command, Class as AClass, Rule, DropRule, Begin, End, Discard, Add, Change as AChange, Delete, Retype, Undo, Redo, Explode, Snap, Create, Move, Mark, Unmark, Corners}
use Rattle.script_terms.specs.Refusal.{Refusal, SessionOpen, SessionsFull, NoSession, HeldBy, NothingToUndo, NothingToRedo, NothingToFix, Change}
use Rattle.script_terms.specs.State.{is_open, Desk}

-- the number of the class that a line names
abbrev pub class_of : Project → Option Sided → Option ℕ
class_of p a = option_and_then (λ (x : Sided). class_number p x.name) a

-- class 0 where the line names no side, or a class that is not there
abbrev pub side_of : Project → Option Sided → Side
side_of p a = record { class = unwrap_or (class_of p a) 0; subtype = option_and_then (λ (x : Sided). x.subtype) a }

abbrev pub row_of : Project → RuleKind → Sided → Option Sided → Row
row_of p k origin dest = record { kind = k; origin = side_of p (Some origin); dest = side_of p dest }

abbrev pub is_nowhere : Project → Option Sided → Bool
is_nowhere p dest = is_some dest && is_none (class_of p dest)

abbrev pub changes : Option Cause → Option Refusal
changes c = option_map (λ (x : Cause). Change x) c

abbrev pub held_by : Option (List ℕ) → List ℕ → Option Refusal
held_by name editor = option_and_then (λ (n : List ℕ). when (not (bytes_eq n editor)) (HeldBy n)) name

-- the steps of the editor's session, those that are done or those undone
abbrev pub steps_of : (Session → List EditStep) → Desk → List ℕ → List EditStep
steps_of steps s editor = option_map_or steps (session_of s.sessions editor) []

abbrev pub no_error : List Entry → ℕ → ℕ → ℕ → Option Refusal
no_error es r a b = when (is_none (entry_at es r a b)) (Change cause.NoError)

abbrev pub not_exploded : ℕ → Option Feature → Option Refusal
not_exploded n None = None
not_exploded n (Some f) = first_of (
    when (not (may_explode f)) NothingToFix
    ∷ when (nat_lt 4294967296 (n + length f.shape.parts)) (Change cause.HandlesSpent) ∷ [])

abbrev pub not_snapped : List Feature → Option Row → Option Feature → ℕ → Place → Option Refusal
not_snapped F (Some row) (Some f) i to = when (not (may_snap row F f i to)) NothingToFix
not_snapped F row f i to = None

abbrev pub not_created : Project → Option Row → Option Feature → Place → Option Refusal
not_created p (Some row) (Some f) at = first_of (
    when (not (may_create row p.features f at)) NothingToFix
    ∷ when (p.next == 4294967295) (Change cause.HandlesSpent) ∷ [])
not_created p row f at = None

abbrev pub first_held : List Session → List Feature → List ℕ → Option Refusal
first_held ss [] editor = None
first_held ss (f ∷ fs) editor = first_of (held_by (holder ss f.handle) editor ∷ first_held ss fs editor ∷ [])

abbrev pub refusal_of : Desk → Command → Option Refusal
refusal_of s (AClass name k) = changes (class_cause s.project.classes name)
refusal_of s (Rule k origin dest) = first_of (
    when (is_nowhere s.project dest) (Change cause.NoClass)
    ∷ changes (rule_cause s.project (row_of s.project k origin dest)) ∷ [])
refusal_of s (DropRule r) = changes (drop_cause s.project.rules r)
refusal_of s (Begin editor) = first_of (when (is_open s editor) SessionOpen ∷ when (length s.sessions == 16) SessionsFull ∷ [])
refusal_of s (End editor) = when (not (is_open s editor)) NoSession
refusal_of s (Discard editor) = when (not (is_open s editor)) NoSession
refusal_of s (Add editor own shape) = first_of (
    when (not (is_open s editor)) NoSession
    ∷ changes (add_cause s.project.classes s.project.next (unwrap_or (class_number s.project own.name) 0) shape.kind) ∷ [])
refusal_of s (AChange editor h shape) = first_of (
    when (not (is_open s editor)) NoSession
    ∷ changes (delete_cause s.project.features h)
    ∷ held_by (holder s.sessions h) editor
    ∷ changes (change_cause s.project.features h shape.kind) ∷ [])
refusal_of s (Delete editor h) = first_of (
    when (not (is_open s editor)) NoSession ∷ changes (delete_cause s.project.features h) ∷ held_by (holder s.sessions h) editor ∷ [])
refusal_of s (Retype editor h t) = first_of (
    when (not (is_open s editor)) NoSession ∷ changes (delete_cause s.project.features h) ∷ held_by (holder s.sessions h) editor ∷ [])
refusal_of s (Undo editor) = first_of (
    when (not (is_open s editor)) NoSession ∷ when (length (steps_of (λ (x : Session). x.done) s editor) == 0) NothingToUndo ∷ [])
refusal_of s (Redo editor) = first_of (
    when (not (is_open s editor)) NoSession ∷ when (length (steps_of (λ (x : Session). x.undone) s editor) == 0) NothingToRedo ∷ [])
refusal_of s (Explode editor h) = first_of (
    when (not (is_open s editor)) NoSession
    ∷ changes (delete_cause s.project.features h)
    ∷ held_by (holder s.sessions h) editor
    ∷ not_exploded s.project.next (feature_at s.project.features h) ∷ [])
refusal_of s (Snap editor r h i to) = first_of (
    when (not (is_open s editor)) NoSession
    ∷ changes (drop_cause s.project.rules r)
    ∷ changes (delete_cause s.project.features h)
    ∷ held_by (holder s.sessions h) editor
    ∷ not_snapped s.project.features (rule_at s.project.rules r) (feature_at s.project.features h) i to ∷ [])
refusal_of s (Create editor r h at) = first_of (
    when (not (is_open s editor)) NoSession
    ∷ changes (drop_cause s.project.rules r)
    ∷ changes (delete_cause s.project.features h)
    ∷ not_created s.project (rule_at s.project.rules r) (feature_at s.project.features h) at ∷ [])
refusal_of s (Move editor from to) = first_of (
    when (not (is_open s editor)) NoSession
    ∷ when (not (may_move from to s.project.features)) NothingToFix
    ∷ first_held s.sessions (touching from s.project.features) editor ∷ [])
refusal_of s (Mark r a b) = changes (mark_cause s.project.entries r a b true)
refusal_of s (Unmark r a b) = changes (mark_cause s.project.entries r a b false)
refusal_of s (Corners r a b) = no_error s.project.entries r a b
refusal_of s other = None
