-- The state of a run: what the editors of the current version have before them, and what stands beside it.
--
-- Desk                 of one version: its project, and the open sessions in the order of their names
-- Aside                what stands beside the project of the current version: its name and base, and the other versions
-- State                the project of the current version, the open sessions, and what stands aside
-- desk_of s, tree_of s     its desk; all versions
-- alone                `default` is current, and there is no other version
-- started p, empty_state   the project p as `default`, no other version, no session; the same of the empty project
-- OfAll P s            P holds of the project of each version
-- is_open d n          the session of this editor is open
--
-- Source: own.
use Rattle.std.specs.Prelude.{ℕ, Bool, List, [], Option, None, is_some}
use Rattle.plane_terms.specs.Lists.{Every}
use Rattle.topology_terms.specs.Feature.{Feature}
use Rattle.topology_terms.specs.Project.{Project, empty_project}
use Rattle.topology_terms.specs.Session.{Session, session_of}
use Rattle.version_terms.specs.Versions.{Version, Tree, default_name, all_of}

pub record Desk : Type 0 where
  pub project : Project
  pub sessions : List Session

pub record Aside : Type 0 where
  pub name : List ℕ
  pub base : Option (List Feature)
  pub others : List Version

pub record State : Type 0 where
  pub project : Project
  pub sessions : List Session
  pub aside : Aside

abbrev pub desk_of : State → Desk
desk_of s = record { project = s.project; sessions = s.sessions }

abbrev pub tree_of : State → Tree
tree_of s = record { current = record { name = s.aside.name; project = s.project; base = s.aside.base }; others = s.aside.others }

abbrev pub alone : Aside
alone = record { name = default_name; base = None; others = [] }

abbrev pub started : Project → State
started p = record { project = p; sessions = []; aside = alone }

abbrev pub empty_state : State
empty_state = started empty_project

abbrev pub OfAll : (Project → Type 0) → State → Type 0
OfAll P s = Every (λ (v : Version). P v.project) (all_of (tree_of s))

abbrev pub is_open : Desk → List ℕ → Bool
is_open d name = is_some (session_of d.sessions name)
