-- The corners of an error: what is answered where there is one of the key, and where there is none.
use Rattle.std.proofs.Common.{◌≡◌, ℕ, List, Some, None, refl}
use Rattle.corner_terms.specs.CornerLists.{AreOfCells}
use Rattle.corner_terms.specs.declared.cell_corner.CellCorner.{CellCorner}
use Rattle.topology_terms.specs.Entry.{Entry, entry_at}
use Rattle.topology_terms.specs.declared.cause.Cause.TheVariants.{NoError}
use Rattle.line_terms.specs.Commands.{Corners}
use Rattle.script_terms.specs.Answer.{Answers}
use Rattle.script_terms.specs.Refusal.{Change}
use Rattle.script_terms.specs.Refusing.{no_error}
use Rattle.script_terms.specs.Reply.{CornerList, Refused}
use Rattle.script_terms.specs.State.{Desk}
use Rattle.command_answers.proofs.Answering.{done, refused}

there : (es : List Entry) (r a b : ℕ) (e : Entry) → entry_at es r a b ≡ Some e → no_error es r a b ≡ None
there es r a b e at = rw at refl

nowhere : (es : List Entry) (r a b : ℕ) → entry_at es r a b ≡ None → no_error es r a b ≡ Some (Change NoError)
nowhere es r a b at = rw at refl

pub corners_listed : (s : Desk) (r a b : ℕ) (e : Entry) (ks : List CellCorner) → entry_at s.project.entries r a b ≡ Some e
    → AreOfCells 1 e.cells ks → Answers s (Corners r a b) (CornerList ks) s
corners_listed s r a b e ks at are =
    done s s (Corners r a b) (CornerList ks) (there s.project.entries r a b e at) ((e, ks, at, are, refl), refl)

pub corners_refused : (s : Desk) (r a b : ℕ) → entry_at s.project.entries r a b ≡ None
    → Answers s (Corners r a b) (Refused (Change NoError)) s
corners_refused s r a b at =
    refused s s (Corners r a b) (Refused (Change NoError)) (Change NoError) (nowhere s.project.entries r a b at) refl refl
