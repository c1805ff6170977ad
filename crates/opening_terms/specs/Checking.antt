-- How the words `check PROJECT` end.
--
-- sound_text, unsound_text r a     the line that is written of a sound project, and of one that is first not sound at this rule and number
-- EndsChecked p k status           the project p was opened and checked, and the words end with this status
--   Done                 it is sound, and the line was written
--   Unsound              it is not: the line of the first rule and number at which it is not was written
--   WriteFault           the sink's count of faults rose; a prefix of its line was written
--   NoMemory             out of memory: the same, or nothing was written
--   others               never
-- EndsAsCheck name h k status      such a project stands under the name; or none was opened
-- IsCheckComplete name h k code    where the shelf tells of a project under the name and no count of faults rises, the whole line is
--                                  written, and the status is 0 if it is sound and 9 if it is not; or it is 5
--
-- Source: own.
use Rattle.std.specs.Prelude.{ℕ, ◌≡◌, ◌⊎◌, List, [], ◌∷◌, codes, decimal}
use Rattle.std.specs.Io.KnownBytes.{Appends}
use Rattle.text_terms.specs.Wkt.{◌⧺◌}
use Rattle.topology_terms.specs.Poster.{poster}
use Rattle.topology_terms.specs.Project.{Project}
use Rattle.topology_terms.specs.Sound.{IsSound}
use Rattle.outside_terms.specs.Faults.{Rose}
use Rattle.outside_terms.specs.Reads.{Passage}
use Rattle.outside_terms.specs.Shelves.{Visit}
use Rattle.outside_terms.specs.declared.status.Status.{Status}
use Rattle.outside_terms.specs.declared.status.Status.TheVariants as status
use Rattle.topology_terms.specs.Unsound.{IsFirstUnsound}
use Rattle.opening_terms.specs.Opening.{IsUnder, IsToldUnder, WritesSomeOf, EndsUnopened}

abbrev pub sound_text : List ℕ
sound_text = codes "sound" ⧺ 10 ∷ []

abbrev pub unsound_text : ℕ → ℕ → List ℕ
unsound_text r a = codes "unsound " ⧺ decimal r ⧺ 32 ∷ decimal a ⧺ 10 ∷ []

-- the line says what is so of the project
abbrev pub IsCheckText : Project → List ℕ → Type 0
IsCheckText p line = (IsSound p × (line ≡ sound_text)) ⊎ ((r a : ℕ) × IsFirstUnsound poster p r a × (line ≡ unsound_text r a))

abbrev pub EndsChecked : Project → Passage → Status → Type 0
EndsChecked p k status.Done = IsSound p × Appends k.old k.new sound_text
EndsChecked p k status.Unsound = (r a : ℕ) × IsFirstUnsound poster p r a × Appends k.old k.new (unsound_text r a)
EndsChecked p k status.WriteFault = Rose k.before k.now × ((line : List ℕ) × IsCheckText p line × WritesSomeOf line k)
EndsChecked p k status.NoMemory = ((line : List ℕ) × IsCheckText p line × WritesSomeOf line k) ⊎ Appends k.old k.new []
EndsChecked p k other = ⊥

abbrev pub EndsAsCheck : List ℕ → Visit → Passage → Status → Type 0
EndsAsCheck name h k status = ((p : Project) × IsUnder h.old name p × EndsChecked p k status) ⊎ EndsUnopened name h k status

abbrev pub IsCheckComplete : List ℕ → Visit → Passage → ℕ → Type 0
IsCheckComplete name h k code = (p : Project) → IsToldUnder h.old name p → ¬ (Rose h.before h.now) → ¬ (Rose k.before k.now)
    → ((code ≡ 0) × IsSound p × Appends k.old k.new sound_text)
    ⊎ (((code ≡ 9) × ((r a : ℕ) × IsFirstUnsound poster p r a × Appends k.old k.new (unsound_text r a))) ⊎ (code ≡ 5))
