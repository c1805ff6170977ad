-- What undo, redo and discard do on a ground.
--
-- MayAll may s            each kept step of the session may stand at its handle
-- IsStepUndone t, IsStepRedone t    the last done step t was exchanged with what stood at its handle, and is the first undone one; the
--                                   first undone step was so, and is the last done one
-- IsUndoneOn, IsRedoneOn  some step was
-- AreUndoneOn ts          these steps were undone, the last one first
-- IsCutShort s u g h      the last ones of the done steps were undone, and then nothing changed
use Rattle.std.specs.Prelude.{◌≡◌, ℕ, List, [], ◌∷◌, ◌++◌, Option}
use Rattle.plane_terms.specs.Lists.{Every}
use Rattle.topology_terms.specs.Feature.{Feature}
use Rattle.session_terms.specs.Kept.{KeptStep, KeptSession}
use Rattle.session_terms.specs.KeptChanges.{IsKeptUndone, IsKeptRedone}

abbrev pub MayEach : (ℕ → Option Feature → Type 0) → List KeptStep → Type 0
MayEach may ts = Every (λ (t : KeptStep). may t.handle t.kept) ts

pub record MayAll (may : ℕ → Option Feature → Type 0) (s : KeptSession) : Type 0 where
  pub done : MayEach may s.done
  pub undone : MayEach may s.undone

pub record IsStepUndone {G : Type 0} (swapped : ℕ → Option Feature → Option Feature → G → G
    → Type 0) (t : KeptStep) (s u : KeptSession) (g h : G) : Type 0 where
  pub stood : Option Feature
  pub session : IsKeptUndone s t stood u
  pub swap : swapped t.handle stood t.kept g h

pub record IsStepRedone {G : Type 0} (swapped : ℕ → Option Feature → Option Feature → G → G
    → Type 0) (t : KeptStep) (s u : KeptSession) (g h : G) : Type 0 where
  pub stood : Option Feature
  pub session : IsKeptRedone s t stood u
  pub swap : swapped t.handle stood t.kept g h

pub record IsUndoneOn {G : Type 0} (swapped : ℕ → Option Feature → Option Feature → G → G
    → Type 0) (s u : KeptSession) (g h : G) : Type 0 where
  pub step : KeptStep
  pub undone : IsStepUndone swapped step s u g h

pub record IsRedoneOn {G : Type 0} (swapped : ℕ → Option Feature → Option Feature → G → G
    → Type 0) (s u : KeptSession) (g h : G) : Type 0 where
  pub step : KeptStep
  pub redone : IsStepRedone swapped step s u g h

abbrev pub AreUndoneOn : {G : Type 0} → (ℕ → Option Feature → Option Feature → G → G → Type 0) → List KeptStep → KeptSession → KeptSession
    → G → G → Type 0
AreUndoneOn swapped [] s u g h = (u ≡ s) × (h ≡ g)
AreUndoneOn {G} swapped (t ∷ ts) s u g h = (m : KeptSession) × (k : G) × AreUndoneOn swapped ts s m g k × IsStepUndone swapped t m u k h

pub record IsCutShort {G : Type 0} (swapped : ℕ → Option Feature → Option Feature → G → G → Type 0) (stays : G → G
    → Type 0) (s u : KeptSession) (g h : G) : Type 0 where
  pub undone : List KeptStep
  pub split : s.done ≡ u.done ++ undone
  pub last : G
  pub chain : AreUndoneOn swapped undone s u g last
  pub then : stays last h
