-- What a line answers in the state of a run, with all its versions.
--
-- is_alone s          no version is there beside `default`
-- no_session s        no session is open
-- is_of_one c         the line is none of versions, so it is of the current one
-- barred s c          the refusal of a line for the versions and the sessions that there are, which comes before each other. The classes and
--                     the rules are those of all versions, so they change only where there is one; and the versions change only where no
--                     session is open
-- Turns P s t         all versions change so, and the sessions stay
-- IsPostAnswer name s reply t     the version of this name is stale, and the post refused; or it is posted
-- AtDesk s c reply t  answered at the desk of the current version, and what stands aside stays
-- IsMade s c reply t  what a line does that is not barred
-- IsAnswered s c reply t     barred, with the state as it was; or not, and done so
--
-- Source: own.
use Rattle.std.specs.Prelude.{◌≡◌, ◌⊎◌, ℕ, ◌==◌, Bool, true, false, not, List, [], ◌∷◌, length, Option, None, MatchOption, is_some, is_none}
use Rattle.topology_terms.specs.Causes.{when, first_of}
use Rattle.line_terms.specs.Commands.{Command, Class, Rule, DropRule, Version, In, Reconcile, Post}
use Rattle.version_terms.specs.Versions.{Tree, has_base, place_of, version_of}
use Rattle.version_terms.specs.VersionChanges.{IsCreated, IsGone, IsReconciled, IsPosted, IsStale}
use Rattle.script_terms.specs.Answer.{Answers}
use Rattle.script_terms.specs.Refusal.{Refusal, SessionsOpen, VersionTaken, VersionsFull, NoVersion, Stale, VersionsThere}
use Rattle.script_terms.specs.Reply.{Reply, Done, Merged, Posted, Refused}
use Rattle.script_terms.specs.State.{State, desk_of, tree_of}

abbrev pub is_alone : State → Bool
is_alone s = length s.aside.others == 0

abbrev pub no_session : State → Bool
no_session s = length s.sessions == 0

-- the line is none of versions
abbrev pub is_of_one : Command → Bool
is_of_one (Version n) = false
is_of_one (In n) = false
is_of_one (Reconcile n) = false
is_of_one (Post n) = false
is_of_one other = true

abbrev pub barred : State → Command → Option Refusal
barred s (Class name k) = when (not (is_alone s)) VersionsThere
barred s (Rule k origin dest) = when (not (is_alone s)) VersionsThere
barred s (DropRule r) = when (not (is_alone s)) VersionsThere
barred s (Version name) = first_of (
    when (not (no_session s)) SessionsOpen
    ∷ when (is_some (place_of (tree_of s) name)) VersionTaken
    ∷ when (length s.aside.others == 8) VersionsFull ∷ [])
barred s (In name) = first_of (when (not (no_session s)) SessionsOpen ∷ when (is_none (place_of (tree_of s) name)) NoVersion ∷ [])
barred s (Reconcile name) = first_of (
    when (not (no_session s)) SessionsOpen ∷ when (not (has_base (version_of (tree_of s) name))) NoVersion ∷ [])
barred s (Post name) = first_of (
    when (not (no_session s)) SessionsOpen ∷ when (not (has_base (version_of (tree_of s) name))) NoVersion ∷ [])
barred s other = None

pub record Turns (P : Tree → Tree → Type 0) (s t : State) : Type 0 where
  pub tree : P (tree_of s) (tree_of t)
  pub sessions : t.sessions ≡ s.sessions

abbrev pub IsPostAnswer : List ℕ → State → Reply → State → Type 0
IsPostAnswer name s reply t = ((h : ℕ) × IsStale name h (tree_of s) × (reply ≡ Refused (Stale h)) × (t ≡ s))
    ⊎ ((n : ℕ) × (reply ≡ Posted n) × Turns (IsPosted name n) s t)

abbrev pub AtDesk : State → Command → Reply → State → Type 0
AtDesk s c reply t = Answers (desk_of s) c reply (desk_of t) × (t.aside ≡ s.aside)

abbrev pub IsMade : State → Command → Reply → State → Type 0
IsMade s (Version name) reply t = (reply ≡ Done) × Turns (IsCreated name) s t
IsMade s (In name) reply t = (reply ≡ Done) × Turns (IsGone name) s t
IsMade s (Reconcile name) reply t = (n : ℕ) × (hs : List ℕ) × (reply ≡ Merged hs n) × Turns (IsReconciled name n hs) s t
IsMade s (Post name) reply t = IsPostAnswer name s reply t
IsMade s c reply t = AtDesk s c reply t

abbrev pub IsAnswered : State → Command → Reply → State → Type 0
IsAnswered s c reply t = MatchOption (barred s c) (IsMade s c reply t) (λ r. (reply ≡ Refused r) × (t ≡ s))
