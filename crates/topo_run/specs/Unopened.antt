-- Why a project is not opened, and what is said.
--
-- unopened_of fault e     what a shelf's fault is turned into
-- unread_of fault e       what the fault of a text is turned into
-- IsNoStart name h e      the same where a replay was to start from it: the name is not `-`
-- IsUnopened name h e     of the shelf h: the project of this name is not opened, for this reason
-- is_answered t           the status says that all lines of the source were answered
-- IfUnopened t P          P, where the status t says that no project was opened
-- Says text done k t      of the sink k: the text was written, and the status t is `done`; or it was not, and a prefix of it was
use Rattle.std.specs.Prelude.{ℕ, ◌≡◌, ◌≢◌, ◌⊎◌, Bool, true, false, List, None, codes}
use Rattle.std.specs.Io.KnownBytes.{Appends}
use Rattle.project_text.specs.declared.fault.ProjectFault.{ProjectFault}
use Rattle.project_text.specs.declared.fault.ProjectFault.TheVariants as text
use Rattle.topo_outside.specs.declared.fault.ShelfFault.{ShelfFault}
use Rattle.topo_outside.specs.declared.fault.ShelfFault.TheVariants as shelf
use Rattle.outside_terms.specs.Faults.{Rose}
use Rattle.outside_terms.specs.Reads.{Passage}
use Rattle.outside_terms.specs.Shelves.{Gives, Visit}
use Rattle.outside_terms.specs.declared.status.Status.{Status}
use Rattle.outside_terms.specs.declared.status.Status.TheVariants as status
use Rattle.opening_terms.specs.Opening.{IsWrongUnder, WritesSomeOf}
use Rattle.topo_run.specs.declared.open.NotOpened.{NotOpened}
use Rattle.topo_run.specs.declared.open.NotOpened.TheVariants as why

abbrev pub unopened_of : ShelfFault → NotOpened → Type 0
unopened_of shelf.Failed e = e ≡ why.Failed
unopened_of shelf.NoMemory e = e ≡ why.NoMemory

abbrev pub unread_of : ProjectFault → NotOpened → Type 0
unread_of (text.Wrong line cause) e = e ≡ why.Wrong line cause
unread_of text.NoMemory e = e ≡ why.NoMemory

abbrev pub IsUnopened : List ℕ → Visit → NotOpened → Type 0
IsUnopened name h why.Failed = Rose h.before h.now
IsUnopened name h why.Absent = Gives h.old name None
IsUnopened name h (why.Wrong line cause) = IsWrongUnder h.old name line cause
IsUnopened name h why.NoMemory = Unit {0}

abbrev pub IsNoStart : List ℕ → Visit → NotOpened → Type 0
IsNoStart name h e = (name ≢ codes "-") × IsUnopened name h e

abbrev pub is_answered : Status → Bool
is_answered status.Done = true
is_answered status.Refused = true
is_answered other = false

abbrev pub IfUnopened : Status → Type 0 → Type 0
IfUnopened status.WrongText P = P
IfUnopened status.OpenFault P = P
IfUnopened status.NoProject P = P
IfUnopened other P = Unit {0}

abbrev pub Says : List ℕ → Status → Passage → Status → Type 0
Says text done k t = ((t ≡ done) × Appends k.old k.new text)
    ⊎ (((t ≡ status.WriteFault) × Rose k.before k.now × WritesSomeOf text k) ⊎ ((t ≡ status.NoMemory) × WritesSomeOf text k))
