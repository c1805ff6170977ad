-- How a replay ends: its status, what was read, and what was written.
--
-- Replays start s k kept end refused     the source s was read so, and the whole text of a run from the start over the lines whose end was
--                        read was written to the sink k
-- StopsInLast os text    the text of these outcomes was written to a place in the last of them, before its end
-- ReplaysSome start s k  some bytes of the source were taken, and a prefix of the text of a run over first lines of them was written
-- BreaksOff start s k    the text written breaks off in the reply to a line; of the bytes taken fewer than 65,536 follow the end of that line
-- EndsFrom start s k status     a replay from this start ends with this status
--   Done, Refused        the source was read to its end; all its lines were answered, and no line, or some line, was refused
--   ReadFault, TooLong   the reading failed, or gave too much; all lines whose LF was kept were answered
--   WriteFault           the sink's count of faults rose; what was written breaks off
--   NoMemory             out of memory: a prefix of the replies to lines that were taken was written
--   others               never
-- EndsAs s k status      it ends so from the empty topology, which is sound and settled; so the invariant holds in every state of the run
-- usage_text             the usage line
-- EndsAsUsage k status   it was written, or a prefix of it
-- IsComplete s k code    with no fault counted and a script within the limit the whole text is written and the status is 0 or 1, or it is 5
--
-- In every state of a run from a sound start the headline holds, and from a sound and settled one the invariant (`WritesRun`). Of a source or a
-- sink that does not tell its text, nothing ties the text that is spoken of to it. Source: own.
use Rattle.std.specs.Prelude.{ℕ, ◌≡◌, ◌<◌, ◌≤◌, ◌⊎◌, Bool, true, false, List, [], ◌∷◌, ◌++◌, codes, map, length, take, Some, String, string_bytes}
use Rattle.std.specs.Io.KnownBytes.{Appends}
use Rattle.std.specs.declared.alloc.Global.{Global}
use Rattle.text_terms.specs.Lines.{lines_of}
use Rattle.topology_terms.specs.Project.{empty_project}
use Rattle.topology_terms.specs.Settled.{IsSettled}
use Rattle.topology_terms.specs.Sound.{IsSound}
use Rattle.script_terms.specs.State.{State, empty_state}
use Rattle.script_terms.specs.Run.{IsPrefix, Outcome, WritesRun, WritesPrefix, text_of}
use Rattle.outside_terms.specs.Faults.{Rose}
use Rattle.outside_terms.specs.Reads.{Passage, Read, Taken, is_at_end, script_limit}
use Rattle.outside_terms.specs.declared.end.End.{End}
use Rattle.outside_terms.specs.declared.end.End.TheVariants.{AtEnd, Failed, TooLong}
use Rattle.outside_terms.specs.declared.status.Status.{Status}
use Rattle.outside_terms.specs.declared.status.Status.TheVariants as status

pub record Replays (start : State) (s k : Passage) (kept : List ℕ) (end : End) (refused : Bool) : Type 0 where
  pub read : Read s kept end
  pub run : WritesRun start (lines_of (is_at_end end) kept) k.old k.new refused

pub record StopsInLast (os : List Outcome) (text : List ℕ) : Type 0 where
  pub before : List Outcome
  pub last : Outcome
  pub ends : os ≡ before ++ last ∷ []
  pub front : List ℕ
  pub wrote : text ≡ text_of before ++ front
  pub short : length front < length last.text

pub record ReplaysSome (start : State) (s k : Passage) : Type 0 where
  pub given : List ℕ
  pub whole : Bool
  pub taken : Taken s given whole
  pub run : WritesPrefix start (lines_of whole (take script_limit given)) k.old k.new

-- `upto` is what was taken up to the end of the line in whose reply the text breaks off
pub record BreaksOff (start : State) (s k : Passage) : Type 0 where
  pub some : ReplaysSome start s k
  pub stops : StopsInLast some.run.outcomes some.run.text
  pub upto : List ℕ
  pub after : List ℕ
  pub split : some.given ≡ upto ++ after
  pub few : length after < 65536
  pub lines : lines_of true upto ≡ some.run.first

abbrev pub EndsFrom : State → Passage → Passage → Status → Type 0
EndsFrom start s k status.Done = (kept : List ℕ) × Replays start s k kept AtEnd false
EndsFrom start s k status.Refused = (kept : List ℕ) × Replays start s k kept AtEnd true
EndsFrom start s k status.ReadFault = (kept : List ℕ) × (refused : Bool) × Replays start s k kept Failed refused
EndsFrom start s k status.TooLong = (kept : List ℕ) × (refused : Bool) × Replays start s k kept TooLong refused
EndsFrom start s k status.WriteFault = Rose k.before k.now × BreaksOff start s k
EndsFrom start s k status.NoMemory = ReplaysSome start s k
EndsFrom start s k other = ⊥

pub record EndsAs (s k : Passage) (status : Status) : Type 0 where
  pub sound : IsSound empty_project
  pub settled : IsSettled empty_project
  pub ends : EndsFrom empty_state s k status

-- the words are `replay` alone
abbrev pub IsReplay : List (String Global) → Type 0
IsReplay words = map (λ w. string_bytes w) words ≡ codes "replay" ∷ []

abbrev pub usage_text : List ℕ
usage_text = codes "usage: topo replay [PROJECT [TARGET]] | check PROJECT | report PROJECT | town SEED N" ++ 10 ∷ []

abbrev pub EndsAsUsage : Passage → Status → Type 0
EndsAsUsage k status.Usage = Appends k.old k.new usage_text
EndsAsUsage k status.WriteFault = Rose k.before k.now × ((text : List ℕ) × IsPrefix text usage_text × Appends k.old k.new text)
EndsAsUsage k status.NoMemory = (text : List ℕ) × IsPrefix text usage_text × Appends k.old k.new text
EndsAsUsage k other = ⊥

abbrev pub IsComplete : Passage → Passage → ℕ → Type 0
IsComplete s k code = (script : List ℕ) → s.old ≡ Some script → length script ≤ script_limit → ¬ (Rose s.before s.now)
    → ¬ (Rose k.before k.now) → ((code ≡ 0) × Replays empty_state s k script AtEnd false)
    ⊎ (((code ≡ 1) × Replays empty_state s k script AtEnd true) ⊎ (code ≡ 5))
