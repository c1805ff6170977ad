-- In a run a fix does what it is for.
use Rattle.std.proofs.Common.{◌≡◌, ℕ, true, false, List, Some, refl, sym, ◌∙◌, ap, inl, inr}
use Rattle.plane_terms.specs.Point.{Place, Point}
use Rattle.topology_terms.specs.Broken.{Row, BrokenAt, BrokenWhole}
use Rattle.topology_terms.specs.Feature.{Feature, feature_at}
use Rattle.topology_terms.specs.Project.{rule_at}
use Rattle.fix_terms.specs.Plans.{Edit}
use Rattle.fix_terms.specs.Explode.{exploded, HasExploded}
use Rattle.fix_terms.specs.Snap.{HasSnapped}
use Rattle.fix_terms.specs.Create.{HasCreated}
use Rattle.fix_terms.specs.Move.{HasMoved}
use Rattle.fix_tools.proofs.Deleting.{gone_at, gone_whole}
use Rattle.line_terms.specs.Commands.{Explode, Snap, Create, Move, Delete}
use Rattle.line_terms.specs.Lines.{IsCommandLine}
use Rattle.script_terms.specs.Answer.{IsFixed}
use Rattle.script_terms.specs.Reply.{Reply}
use Rattle.script_terms.specs.Run.{Outcome, Step, is_refusal}
use Rattle.script_terms.specs.State.{Desk, State}
use Rattle.topo_run.proofs.Restores.{command_done}

-- a fix that is not refused keeps its promise
kept : {P : List Feature → Type 0} {editor : List ℕ} {es : List Edit} {says : Reply} {d g : Desk} {r : Reply}
    → IsFixed editor es P says d r g → is_refusal r ≡ false → P g.project.features
kept (inl x) e = x.2.kept
kept (inr y) e = let no : true ≡ false = sym (ap is_refusal y.2) ∙ e in absurd cc

pub explode_fixed : (s : State) (line editor : List ℕ) (h : ℕ) (o : Outcome) → Step s line o → IsCommandLine line (Explode editor h)
    → o.refused ≡ false → (f : Feature) × (feature_at s.project.features h ≡ Some f)
    × HasExploded s.project.features s.project.next h (exploded f) o.after.project.features
explode_fixed s line editor h o step is free =
    let d = command_done s line (Explode editor h) o step is free refl refl in
    let e = d.2 in
    (e.0, e.1, e.3.kept)

pub snap_fixed : (s : State) (line editor : List ℕ) (r h i : ℕ) (to : Place) (o : Outcome) → Step s line o
    → IsCommandLine line (Snap editor r h i to) → o.refused ≡ false
    → (row : Row) × (f : Feature) × (rule_at s.project.rules r ≡ Some row) × (feature_at s.project.features h ≡ Some f)
    × HasSnapped row f i to s.project.features o.after.project.features
snap_fixed s line editor r h i to o step is free =
    let d = command_done s line (Snap editor r h i to) o step is free refl refl in
    let e = d.2 in
    (e.0, e.1, e.2, e.3, kept e.4 d.1)

pub create_fixed : (s : State) (line editor : List ℕ) (r h : ℕ) (at : Place) (o : Outcome) → Step s line o
    → IsCommandLine line (Create editor r h at) → o.refused ≡ false
    → (row : Row) × (f : Feature) × (rule_at s.project.rules r ≡ Some row) × (feature_at s.project.features h ≡ Some f)
    × HasCreated row f at s.project.features s.project.next o.after.project.features
create_fixed s line editor r h at o step is free =
    let d = command_done s line (Create editor r h at) o step is free refl refl in
    let e = d.2 in
    (e.0, e.1, e.2, e.3, e.5.kept)

pub move_fixed : (s : State) (line editor : List ℕ) (from to : Place) (o : Outcome) → Step s line o
    → IsCommandLine line (Move editor from to) → o.refused ≡ false → HasMoved from to s.project.features o.after.project.features
move_fixed s line editor from to o step is free =
    let d = command_done s line (Move editor from to) o step is free refl refl in
    kept d.2 d.1

pub delete_at : (s : State) (line editor : List ℕ) (h : ℕ) (o : Outcome) → Step s line o → IsCommandLine line (Delete editor h)
    → o.refused ≡ false → (row : Row) (b : ℕ) (p : Point) → BrokenAt row o.after.project.features h b p → ⊥
delete_at s line editor h o step is free row b p broken =
    let d = command_done s line (Delete editor h) o step is free refl refl in
    gone_at row o.after.project.features h b p d.2.1.1.project.edit.features.here broken

pub delete_whole : (s : State) (line editor : List ℕ) (h : ℕ) (o : Outcome) → Step s line o → IsCommandLine line (Delete editor h)
    → o.refused ≡ false → (row : Row) → BrokenWhole row o.after.project.features h → ⊥
delete_whole s line editor h o step is free row broken =
    let d = command_done s line (Delete editor h) o step is free refl refl in
    gone_whole row o.after.project.features h d.2.1.1.project.edit.features.here broken
