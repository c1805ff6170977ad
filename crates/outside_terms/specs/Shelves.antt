-- What a shelf holds: bytes under names.
--
-- Held                   the bytes under each name, None where there are none
-- Gives told name found  what is under the name, where the holdings are told
-- KeepsHeld old new      told holdings stay told, and under each name is what was
-- KeepsOthers old new name     the same for the other names
-- SetsHeld old new name bytes      told holdings stay told, and under this name are these bytes
-- Visit                  a shelf before and after a run: what it holds, where that is told, and its count of faults
use Rattle.std.specs.Prelude.{◌≡◌, ◌≢◌, ℕ, List, Option, None, Some}

abbrev pub Held : Type 0
Held = List ℕ → Option (List ℕ)

abbrev pub Gives : Option Held → List ℕ → Option (List ℕ) → Type 0
Gives None name found = Unit {0}
Gives (Some held) name found = found ≡ held name

abbrev pub KeepsHeld : Option Held → Option Held → Type 0
KeepsHeld None new = Unit {0}
KeepsHeld (Some held) None = ⊥
KeepsHeld (Some held) (Some now) = (name : List ℕ) → now name ≡ held name

abbrev pub KeepsOthers : Option Held → Option Held → List ℕ → Type 0
KeepsOthers None new name = Unit {0}
KeepsOthers (Some held) None name = ⊥
KeepsOthers (Some held) (Some now) name = (other : List ℕ) → other ≢ name → now other ≡ held other

abbrev pub SetsHeld : Option Held → Option Held → List ℕ → List ℕ → Type 0
SetsHeld None new name bytes = Unit {0}
SetsHeld (Some held) None name bytes = ⊥
SetsHeld (Some held) (Some now) name bytes = now name ≡ Some bytes

pub record Visit : Type 0 where
  pub old : Option Held
  pub new : Option Held
  pub before : ℕ
  pub now : ℕ
