-- What the clauses of the program speak of: its words, its source, its sink and its shelf, before and after a run.
--
-- bytes_of ws                 the words of the command line, each as its bytes
-- passed bytes faults old new     a source or a sink before and after a run: its bytes, and its count of faults
-- visited held faults old new     the same of a shelf: what it holds
-- HasStatus code P            the exit status is the code of a status of which P holds
-- IfNoTarget ws P             P, where the words name no project and target to replay
-- IfNoReplayed ws P           P, where they name no project to replay, with a target or without
-- IfNoProject ws P            P, where they name no project at all
use Rattle.std.specs.Prelude.{ℕ, ◌≡◌, List, Option, map, String, string_bytes}
use Rattle.std.specs.declared.alloc.Global.{Global}
use Rattle.outside_terms.specs.Reads.{Passage}
use Rattle.outside_terms.specs.Shelves.{Held, Visit}
use Rattle.outside_terms.specs.Statuses.{code_of}
use Rattle.outside_terms.specs.declared.status.Status.{Status}
use Rattle.opening_terms.specs.Words.{IsReplayOf, IsReplayTo, IsCheckOf, IsReportOf}

abbrev pub bytes_of : List (String Global) → List (List ℕ)
bytes_of ws = map (λ w. string_bytes w) ws

abbrev pub passed : {X : Type 0} → (X → Option (List ℕ)) → (X → ℕ) → X → X → Passage
passed bytes faults old new = record { old = bytes old; new = bytes new; before = faults old; now = faults new }

abbrev pub visited : {X : Type 0} → (X → Option Held) → (X → ℕ) → X → X → Visit
visited held faults old new = record { old = held old; new = held new; before = faults old; now = faults new }

abbrev pub HasStatus : ℕ → (Status → Type 0) → Type 0
HasStatus code P = (s : Status) × (code ≡ code_of s) × P s

abbrev pub IfNoTarget : List (List ℕ) → Type 0 → Type 0
IfNoTarget ws P = ((project target : List ℕ) → ¬ (IsReplayTo ws project target)) → P

abbrev pub IfNoReplayed : List (List ℕ) → Type 0 → Type 0
IfNoReplayed ws P = ((project : List ℕ) → ¬ (IsReplayOf ws project)) → IfNoTarget ws P

abbrev pub IfNoProject : List (List ℕ) → Type 0 → Type 0
IfNoProject ws P =
    IfNoReplayed ws (((project : List ℕ) → ¬ (IsCheckOf ws project)) → ((project : List ℕ) → ¬ (IsReportOf ws project)) → P)
