-- Which commands are of one version, and which of them are barred where there are others.
use Rattle.std.proofs.Common.{◌≡◌, true, false, Bool, Option, None, List, length, refl, eqb, ℕ, ap, subst}
use Rattle.std.specs.Prelude.{not}
use Rattle.std.specs.Prelude as prelude
use Rattle.topology_terms.specs.Causes.{when}
use Rattle.line_terms.specs.Commands.{Sided}
use Rattle.plane_terms.specs.declared.kind.Kind.{Kind}
use Rattle.rule_words.specs.declared.rule_kind.RuleKind.{RuleKind}
use Rattle.script_text.specs.declared.command.Command.{Command}
use Rattle.script_text.specs.declared.command.Command.TheVariants as code
use Rattle.script_text.specs.Seen.{command_of}
use Rattle.script_terms.specs.Refusal.{VersionsThere}
use Rattle.script_terms.specs.State.{State}
use Rattle.script_terms.specs.Versions.{barred, is_alone, is_of_one}

-- a command that is none of the four
pub one_left : (c : Command) → ((n : List ℕ) → c ≡ code.Version n → ⊥) → ((n : List ℕ) → c ≡ code.In n → ⊥)
    → ((n : List ℕ) → c ≡ code.Reconcile n → ⊥) → ((n : List ℕ) → c ≡ code.Post n → ⊥) → is_of_one (command_of c) ≡ true
one_left code.Blank v i r p = refl
one_left (code.Class a b) v i r p = refl
one_left (code.Rule a b x) v i r p = refl
one_left (code.DropRule a) v i r p = refl
one_left (code.Begin a) v i r p = refl
one_left (code.End a) v i r p = refl
one_left (code.Discard a) v i r p = refl
one_left (code.Add a b x) v i r p = refl
one_left (code.Change a b x) v i r p = refl
one_left (code.Delete a b) v i r p = refl
one_left (code.Retype a b x) v i r p = refl
one_left (code.Undo a) v i r p = refl
one_left (code.Redo a) v i r p = refl
one_left (code.Explode a b) v i r p = refl
one_left (code.Snap a b x y z) v i r p = refl
one_left (code.Create a b x y) v i r p = refl
one_left (code.Move a b x) v i r p = refl
one_left (code.Validate a) v i r p = refl
one_left (code.Mark a b x) v i r p = refl
one_left (code.Unmark a b x) v i r p = refl
one_left code.Dirty v i r p = refl
one_left code.Errors v i r p = refl
one_left code.Cells v i r p = refl
one_left code.Features v i r p = refl
one_left code.Rules v i r p = refl
one_left (code.Corners a b x) v i r p = refl
one_left (code.Version a) v i r p = absurd (v a refl)
one_left (code.In a) v i r p = absurd (i a refl)
one_left (code.Reconcile a) v i r p = absurd (r a refl)
one_left (code.Post a) v i r p = absurd (p a refl)

-- a command of one version that changes no class and no rule
pub never_barred : (s : State) (c : Command) → is_of_one (command_of c) ≡ true
    → ((n : List ℕ) (k : Kind) → c ≡ code.Class n k → ⊥)
    → ((k : RuleKind) (o : Sided) (d : Option Sided) → c ≡ code.Rule k o d → ⊥)
    → ((n : ℕ) → c ≡ code.DropRule n → ⊥) → barred s (command_of c) ≡ when false VersionsThere
never_barred s code.Blank o p q r = refl
never_barred s (code.Class a b) o p q r = absurd (p a b refl)
never_barred s (code.Rule a b x) o p q r = absurd (q a b x refl)
never_barred s (code.DropRule a) o p q r = absurd (r a refl)
never_barred s (code.Begin a) o p q r = refl
never_barred s (code.End a) o p q r = refl
never_barred s (code.Discard a) o p q r = refl
never_barred s (code.Add a b x) o p q r = refl
never_barred s (code.Change a b x) o p q r = refl
never_barred s (code.Delete a b) o p q r = refl
never_barred s (code.Retype a b x) o p q r = refl
never_barred s (code.Undo a) o p q r = refl
never_barred s (code.Redo a) o p q r = refl
never_barred s (code.Explode a b) o p q r = refl
never_barred s (code.Snap a b x y z) o p q r = refl
never_barred s (code.Create a b x y) o p q r = refl
never_barred s (code.Move a b x) o p q r = refl
never_barred s (code.Validate a) o p q r = refl
never_barred s (code.Mark a b x) o p q r = refl
never_barred s (code.Unmark a b x) o p q r = refl
never_barred s code.Dirty o p q r = refl
never_barred s code.Errors o p q r = refl
never_barred s code.Cells o p q r = refl
never_barred s code.Features o p q r = refl
never_barred s code.Rules o p q r = refl
never_barred s (code.Corners a b x) o p q r = refl
never_barred s (code.Version a) o p q r = cc
never_barred s (code.In a) o p q r = cc
never_barred s (code.Reconcile a) o p q r = cc
never_barred s (code.Post a) o p q r = cc
