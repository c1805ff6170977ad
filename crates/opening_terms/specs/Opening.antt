-- What comes of opening a project, and how the words end that could open none. The shelf is h, the sink k.
--
-- IsUnder held name p            under the name stands a text that says the project p
-- IsWrongUnder held name n c     under the name stands a text that says none: its line n, counted from 1, is the first that is wrong, and
--                                c is its first cause
-- WritesSomeOf whole k           a prefix of this text was written
-- cause_word c                   the word of a cause
-- wrong_text n c                 the line that is written of a wrong text
-- EndsUnopened name h k status   no project of this name was opened, and the words end with this status
--   WrongText            a wrong text stands under the name, and the line of it was written
--   OpenFault            the shelf's count of faults rose, and nothing was written
--   NoProject            nothing stands under the name, and nothing was written
--   WriteFault           the sink's count of faults rose; a prefix of the line of a wrong text was written
--   NoMemory             out of memory: the same, or nothing was written
--   others               never
-- IsToldUnder held name p, IsToldWrong held name n c, IsToldNone held name     the shelf tells that such a text, or nothing, stands under
--                                the name
-- IsOpeningComplete name h k code     where the shelf tells that nothing stands under the name and its count of faults does not rise, the
--                                status is 11 and nothing is written; where it tells that a wrong text does, and the sink's count does not
--                                rise either, it is 6 and the whole line of it is written; or it is 5
--
-- Of a shelf that does not tell what it holds, nothing ties the text that is spoken of to the shelf. Source: own.
use Rattle.std.specs.Prelude.{ℕ, ◌≡◌, ◌⊎◌, List, [], ◌∷◌, codes, decimal, Option, Some, None}
use Rattle.std.specs.Io.KnownBytes.{Appends}
use Rattle.text_terms.specs.Wkt.{◌⧺◌}
use Rattle.topology_terms.specs.Project.{Project}
use Rattle.project_terms.specs.Texts.{IsRead, IsFault}
use Rattle.project_terms.specs.declared.project_cause.ProjectCause.{ProjectCause}
use Rattle.project_terms.specs.declared.project_cause.ProjectCause.TheVariants as cause
use Rattle.outside_terms.specs.Faults.{Rose}
use Rattle.outside_terms.specs.Reads.{Passage}
use Rattle.outside_terms.specs.Shelves.{Held, Gives, Visit}
use Rattle.outside_terms.specs.declared.status.Status.{Status}
use Rattle.outside_terms.specs.declared.status.Status.TheVariants as status
use Rattle.script_terms.specs.Run.{IsPrefix}

abbrev pub IsUnder : Option Held → List ℕ → Project → Type 0
IsUnder held name p = (bytes : List ℕ) × Gives held name (Some bytes) × IsRead bytes p

abbrev pub IsWrongUnder : Option Held → List ℕ → ℕ → ProjectCause → Type 0
IsWrongUnder held name n c = (bytes : List ℕ) × Gives held name (Some bytes) × IsFault bytes n c

abbrev pub WritesSomeOf : List ℕ → Passage → Type 0
WritesSomeOf whole k = (text : List ℕ) × IsPrefix text whole × Appends k.old k.new text

abbrev pub cause_word : ProjectCause → List ℕ
cause_word cause.Short = codes "short"
cause_word cause.Form = codes "form"
cause_word cause.Shape = codes "shape"
cause_word cause.Range = codes "range"
cause_word cause.Unknown = codes "unknown"
cause_word cause.Order = codes "order"

abbrev pub wrong_text : ℕ → ProjectCause → List ℕ
wrong_text n c = codes "project refused line " ⧺ decimal n ⧺ 32 ∷ cause_word c ⧺ 10 ∷ []

-- a prefix of the line of the wrong text that stands under the name was written
abbrev pub WritesSomeWrong : List ℕ → Visit → Passage → Type 0
WritesSomeWrong name h k = (n : ℕ) × (c : ProjectCause) × IsWrongUnder h.old name n c × WritesSomeOf (wrong_text n c) k

abbrev pub EndsUnopened : List ℕ → Visit → Passage → Status → Type 0
EndsUnopened name h k status.WrongText = (n : ℕ) × (c : ProjectCause) × IsWrongUnder h.old name n c × Appends k.old k.new (wrong_text n c)
EndsUnopened name h k status.OpenFault = Rose h.before h.now × Appends k.old k.new []
EndsUnopened name h k status.NoProject = Gives h.old name None × Appends k.old k.new []
EndsUnopened name h k status.WriteFault = Rose k.before k.now × WritesSomeWrong name h k
EndsUnopened name h k status.NoMemory = WritesSomeWrong name h k ⊎ Appends k.old k.new []
EndsUnopened name h k other = ⊥

-- ---- where nothing fails

abbrev pub IsToldUnder : Option Held → List ℕ → Project → Type 0
IsToldUnder None name p = ⊥
IsToldUnder (Some held) name p = (bytes : List ℕ) × (held name ≡ Some bytes) × IsRead bytes p

abbrev pub IsToldWrong : Option Held → List ℕ → ℕ → ProjectCause → Type 0
IsToldWrong None name n c = ⊥
IsToldWrong (Some held) name n c = (bytes : List ℕ) × (held name ≡ Some bytes) × IsFault bytes n c

abbrev pub IsToldNone : Option Held → List ℕ → Type 0
IsToldNone None name = ⊥
IsToldNone (Some held) name = held name ≡ None

pub record IsOpeningComplete (name : List ℕ) (h : Visit) (k : Passage) (code : ℕ) : Type 0 where
  pub none : IsToldNone h.old name → ¬ (Rose h.before h.now) → ((code ≡ 11) × Appends k.old k.new []) ⊎ (code ≡ 5)
  pub wrong : (n : ℕ) (c : ProjectCause) → IsToldWrong h.old name n c → ¬ (Rose h.before h.now) → ¬ (Rose k.before k.now)
      → ((code ≡ 6) × Appends k.old k.new (wrong_text n c)) ⊎ (code ≡ 5)
