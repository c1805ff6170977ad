-- In a run an undo and a discard bring back what stood before the steps.
use Rattle.std.proofs.Common.{◌≡◌, ℕ, true, false, List, Option, Some, None, refl, sym, ◌∙◌, ap, subst}
use Rattle.line_terms.specs.Commands.{Command, Undo, Discard}
use Rattle.line_terms.specs.Lines.{IsCommandLine}
use Rattle.script_text.proofs.OneCommand.{one_command}
use Rattle.script_terms.specs.Refusal.{Refusal}
use Rattle.script_terms.specs.Refusing.{refusal_of}
use Rattle.script_terms.specs.Reply.{Reply}
use Rattle.script_terms.specs.State.{State, empty_state, desk_of}
use Rattle.script_terms.specs.Answer.{IsDone}
use Rattle.script_terms.specs.Versions.{AtDesk, barred, is_of_one}
use Rattle.script_terms.proofs.Desks.{desk_made}
use Rattle.script_terms.specs.Keeping.{IsKeeping}
use Rattle.script_terms.specs.Restored.{IsRestored, IsAllRestored}
use Rattle.script_terms.specs.Run.{Reading, Reads, Faulty, Outcome, Step, Run, ComesOf, ReadsAs, last_state, is_refusal}
use Rattle.script_terms.proofs.Restoring.{undo_restores, discard_restores}
use Rattle.script_terms.proofs.Runs.{answers_by, run_keeps, last_keeps, empty_keeps}
use Rattle.topo_run.proofs.Runs.{empty_ordered}

-- what a command leaves in the current version that is read, answered and not refused, and that no version bars
pub command_done : (s : State) (line : List ℕ) (c : Command) (o : Outcome) → Step s line o → IsCommandLine line c → o.refused ≡ false
    → barred s c ≡ None → is_of_one c ≡ true
    → (reply : Reply) × (is_refusal reply ≡ false) × IsDone (desk_of s) c reply (desk_of o.after)
command_done s line c o step is free may one = by step.reading step.reads step.comes
  where
    done : (x : Option Refusal) (reply : Reply) → answers_by x (desk_of s) c reply (desk_of o.after) → is_refusal reply ≡ false
        → IsDone (desk_of s) c reply (desk_of o.after)
    done None reply a f = a
    done (Some r) reply a f = let no : true ≡ false = sym (ap is_refusal a.0) ∙ f in absurd cc

    by : (r : Reading) → ReadsAs line r → ComesOf s r o
        → (reply : Reply) × (is_refusal reply ≡ false) × IsDone (desk_of s) c reply (desk_of o.after)
    by (Faulty r) reads comes = absurd (reads.0 c is)
    by (Reads d) reads comes =
        let same : d ≡ c = one_command line d c reads is in
        let k = subst (λ (e : Command). ComesOf s (Reads e) o) same comes in
        let a : AtDesk s c k.0 o.after = desk_made s o.after c k.0 one (rw may at k.1) in
        (k.0, sym k.3 ∙ free, done (refusal_of (desk_of s) c) k.0 a.0 (sym k.3 ∙ free))

pub undo_there : (s : State) (line editor : List ℕ) (o : Outcome) → IsKeeping (desk_of s) → Step s line o → IsCommandLine line (Undo editor)
    → o.refused ≡ false → IsRestored editor (desk_of s) (desk_of o.after)
undo_there s line editor o keeps step is free =
    let d = command_done s line (Undo editor) o step is free refl refl in
    undo_restores editor (desk_of s) (desk_of o.after) keeps d.2.1

pub discard_there : (s : State) (line editor : List ℕ) (o : Outcome) → Step s line o → IsCommandLine line (Discard editor)
    → o.refused ≡ false → IsAllRestored editor (desk_of s) (desk_of o.after)
discard_there s line editor o step is free =
    let d = command_done s line (Discard editor) o step is free refl refl in
    discard_restores editor (desk_of s) (desk_of o.after) d.2.1

pub undo_over : (lines : List (List ℕ)) (os : List Outcome) (line editor : List ℕ) (o : Outcome) → Run empty_state lines os
    → Step (last_state empty_state os) line o → IsCommandLine line (Undo editor) → o.refused ≡ false
    → IsRestored editor (desk_of (last_state empty_state os)) (desk_of o.after)
undo_over lines os line editor o run step is free = undo_there (last_state empty_state os) line editor o
    (last_keeps empty_state os (run_keeps empty_state lines os empty_keeps empty_ordered run)) step is free

pub discard_over : (lines : List (List ℕ)) (os : List Outcome) (line editor : List ℕ) (o : Outcome) → Run empty_state lines os
    → Step (last_state empty_state os) line o → IsCommandLine line (Discard editor) → o.refused ≡ false
    → IsAllRestored editor (desk_of (last_state empty_state os)) (desk_of o.after)
discard_over lines os line editor o run step is free = discard_there (last_state empty_state os) line editor o step is free
