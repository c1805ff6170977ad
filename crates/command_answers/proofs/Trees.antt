-- From the tree of versions to the desk of the current one: what a call says of the tree, and what stands aside.
use Rattle.std.proofs.Common.{◌≡◌, ◌⊎◌, inl, inr, ℕ, List, [], ◌∷◌, Option, refl, sym, ◌∙◌, ap, subst}
use Rattle.std.specs.Prelude.{Result, Ok, Err, OnOk, OnErr, IfErr}
use Rattle.topology_terms.specs.Feature.{Feature, feature_at}
use Rattle.topology_terms.specs.Poster.{poster}
use Rattle.topology_terms.specs.Project.{Project}
use Rattle.topology_terms.specs.Session.{Session}
use Rattle.topology_terms.specs.Settled.{IsSettled}
use Rattle.topology_terms.specs.Sound.{IsSound}
use Rattle.session_terms.specs.Kept.{KeptStep, KeptSession, seen}
use Rattle.edit_session.specs.Moves.{AreUndoneOn}
use Rattle.edit_session.specs.OverTopologies.{IsGroundSwap}
use Rattle.edit_session.specs.SessionsCalls as calls
use Rattle.edit_session.specs.declared.fault.SessionFault.{SessionFault}
use Rattle.edit_session.specs.declared.fault.SessionFault.TheVariants as fault
use Rattle.version_terms.specs.VersionChanges.{IsAside}
use Rattle.version_terms.specs.Versions.{Tree}
use Rattle.version_tree.specs.OverTrees.{IsTreeSwap}
use Rattle.script_terms.proofs.Bridges.{room_bridge}
use Rattle.script_terms.specs.State.{Aside, State}
use Rattle.command_answers.specs.Worlds.{IsRoomAlone, aside_of, state_of}
use Rattle.command_answers.proofs.SessionLines.{DiscardFault, Still}

-- ---- after an error
pub project_after : {T F : Type 0} (t u : Tree) (called : Result T F) → OnErr called (u ≡ t)
    → OnErr called (u.current.project ≡ t.current.project)
project_after t u (Ok x) kept = tt
project_after t u (Err e) kept = ap (λ (s : Tree). s.current.project) kept

pub same_after : {T F : Type 0} (t u : Tree) (ss : List KeptSession) (called : Result T F) → OnErr called (u ≡ t)
    → OnErr called (state_of u ss ≡ state_of t ss)
same_after t u ss (Ok x) kept = tt
same_after t u ss (Err e) kept = ap (λ (s : Tree). state_of s ss) kept

pub left_after : {T F : Type 0} (t : Tree) (ss ts : List KeptSession) (called : Result T F) → OnErr called (ts ≡ ss)
    → OnErr called (state_of t ts ≡ state_of t ss)
left_after t ss ts (Ok u) kept = tt
left_after t ss ts (Err e) kept = ap (state_of t) kept

room_state : (t : Tree) (name : List ℕ) (ss ts : List KeptSession) → IsRoomAlone name ss ts → state_of t ts ≡ state_of t ss
room_state t name ss ts (inl s) = ap (state_of t) s
room_state t name ss ts (inr r) =
    ap (λ (xs : List Session). record { project = t.current.project; sessions = xs; aside = aside_of t })
    (room_bridge (feature_at t.current.project.features) name r.was r.is ss ts r.change r.same)

pub room_after : {T F : Type 0} (t u : Tree) (name : List ℕ) (ss ts : List KeptSession) (called : Result T F) → OnErr called (u ≡ t)
    → OnErr called (IsRoomAlone name ss ts) → OnErr called (state_of u ts ≡ state_of t ss)
room_after t u name ss ts (Ok x) kept room = tt
room_after t u name ss ts (Err e) kept room = ap (λ (s : Tree). state_of s ts) kept ∙ room_state t name ss ts room

-- ---- what stands aside
pub aside_same : (t u : Tree) → IsAside t u → aside_of u ≡ aside_of t
aside_same t u a = rw (a.name, a.base, a.others) refl

pub aside_self : (t : Tree) → IsAside t t
aside_self t = record { name = refl; base = refl; others = refl }

pub aside_more : (t u v : Tree) → IsAside t u → IsAside u v → IsAside t v
aside_more t u v a b = record { name = b.name ∙ a.name; base = b.base ∙ a.base; others = b.others ∙ a.others }

-- ---- what the topology keeps, the state keeps, as it is seen
pub sound_seen : (t : Tree) (q : Project) (ss : List KeptSession) (z : State) → state_of t ss ≡ z
    → (IsSound t.current.project → IsSound q) → IsSound z.project → IsSound q
sound_seen t q ss z is keeps s = keeps (subst (λ (x : State). IsSound x.project) (sym is) s)

pub settled_seen : (t : Tree) (q : Project) (ss : List KeptSession) (z : State) → state_of t ss ≡ z
    → (IsSettled t.current.project → IsSettled q) → IsSettled z.project → IsSettled q
settled_seen t q ss z is keeps s = keeps (subst (λ (x : State). IsSettled x.project) (sym is) s)

-- ---- an undo, a redo and a discard
abbrev pub StillTree : Tree → Tree → Type 0
StillTree t u = calls.IsStill (λ (g h : Tree). h ≡ g) t u

still : (t u : Tree) → StillTree t u → u ≡ t
still t u (inl e) = e
still t u (inr e) = e

pub still_project : {T : Type 0} (t u : Tree) (called : Result T SessionFault) → OnErr called (StillTree t u)
    → OnErr called (Still t.current.project u.current.project)
still_project t u (Ok x) same = tt
still_project t u (Err e) same = inl (ap (λ (s : Tree). s.current.project) (still t u same))

pub still_after : {T : Type 0} (t u : Tree) (ss ts : List KeptSession) (called : Result T SessionFault) → OnErr called (ts ≡ ss)
    → OnErr called (StillTree t u) → OnErr called (state_of u ts ≡ state_of t ss)
still_after t u ss ts (Ok x) kept same = tt
still_after t u ss ts (Err e) kept same = ap (λ (s : Tree). state_of s ts) (still t u same) ∙ ap (state_of t) kept

still_aside : (t u : Tree) → u ≡ t → aside_of u ≡ aside_of t
still_aside t u e = ap aside_of e

pub undone_project : {T : Type 0} (t u : Tree) (name : List ℕ) (ss ts : List KeptSession) (called : Result T SessionFault)
    → OnOk called (calls.IsUndone (IsTreeSwap poster) name ss ts t u)
    → OnOk called (calls.IsUndone (IsGroundSwap poster) name ss ts t.current.project u.current.project)
undone_project t u name ss ts (Err e) d = tt
undone_project t u name ss ts (Ok x) d =
    let s = d.undone.undone in
    record {
      was = d.was;
      is = d.is;
      change = d.change;
      undone = record { step = d.undone.step; undone = record { stood = s.stood; session = s.session; swap = s.swap.swap } };
    }

pub undone_aside : {T : Type 0} (t u : Tree) (name : List ℕ) (ss ts : List KeptSession) (called : Result T SessionFault)
    → OnOk called (calls.IsUndone (IsTreeSwap poster) name ss ts t u) → OnErr called (StillTree t u) → aside_of u ≡ aside_of t
undone_aside t u name ss ts (Ok x) d same = aside_same t u d.undone.undone.swap.aside
undone_aside t u name ss ts (Err e) d same = still_aside t u (still t u same)

pub redone_project : {T : Type 0} (t u : Tree) (name : List ℕ) (ss ts : List KeptSession) (called : Result T SessionFault)
    → OnOk called (calls.IsRedone (IsTreeSwap poster) name ss ts t u)
    → OnOk called (calls.IsRedone (IsGroundSwap poster) name ss ts t.current.project u.current.project)
redone_project t u name ss ts (Err e) d = tt
redone_project t u name ss ts (Ok x) d =
    let s = d.redone.redone in
    record {
      was = d.was;
      is = d.is;
      change = d.change;
      redone = record { step = d.redone.step; redone = record { stood = s.stood; session = s.session; swap = s.swap.swap } };
    }

pub redone_aside : {T : Type 0} (t u : Tree) (name : List ℕ) (ss ts : List KeptSession) (called : Result T SessionFault)
    → OnOk called (calls.IsRedone (IsTreeSwap poster) name ss ts t u) → OnErr called (StillTree t u) → aside_of u ≡ aside_of t
redone_aside t u name ss ts (Ok x) d same = aside_same t u d.redone.redone.swap.aside
redone_aside t u name ss ts (Err e) d same = still_aside t u (still t u same)

chain_project : (xs : List KeptStep) (s v : KeptSession) (t u : Tree) → AreUndoneOn (IsTreeSwap poster) xs s v t u
    → AreUndoneOn (IsGroundSwap poster) xs s v t.current.project u.current.project
chain_project [] s v t u c = (c.0, ap (λ (y : Tree). y.current.project) c.1)
chain_project (x ∷ xs) s v t u c = (
  c.0,
  c.1.current.project,
  chain_project xs s c.0 t c.1 c.2,
  record { stood = c.3.stood; session = c.3.session; swap = c.3.swap.swap },
)

chain_aside : (xs : List KeptStep) (s v : KeptSession) (t u : Tree) → AreUndoneOn (IsTreeSwap poster) xs s v t u → aside_of u ≡ aside_of t
chain_aside [] s v t u c = still_aside t u c.1
chain_aside (x ∷ xs) s v t u c = aside_same c.1 u c.3.swap.aside ∙ chain_aside xs s c.0 t c.1 c.2

abbrev pub TreeDiscardFault : List ℕ → List KeptSession → List KeptSession → Tree → Tree → SessionFault → Type 0
TreeDiscardFault name ss ts t u e = calls.IsDiscardFault (IsTreeSwap poster) (λ (g h : Tree). h ≡ g) name ss ts t u e

pub discarded_project : {T : Type 0} (t u : Tree) (name : List ℕ) (ss ts : List KeptSession) (called : Result T SessionFault)
    → OnOk called (calls.IsDiscarded (IsTreeSwap poster) name ss ts t u)
    → OnOk called (calls.IsDiscarded (IsGroundSwap poster) name ss ts t.current.project u.current.project)
discarded_project t u name ss ts (Err e) d = tt
discarded_project t u name ss ts (Ok x) d = record {
  was = d.was;
  last = d.last;
  there = d.there;
  undone = chain_project d.was.done d.was d.last t u d.undone;
  sessions = d.sessions;
}

fault_project : (t u : Tree) (name : List ℕ) (ss ts : List KeptSession) (e : SessionFault) → TreeDiscardFault name ss ts t u e
    → DiscardFault name ss ts t.current.project u.current.project e
fault_project t u name ss ts fault.NoSession d = record {
  absent = d.absent;
  sessions = d.sessions;
  features = ap (λ (y : Tree). y.current.project) d.features;
}
fault_project t u name ss ts fault.NoMemory d =
    let c = d.cut_short in
    record {
      was = d.was;
      is = d.is;
      change = d.change;
      cut_short = record {
        undone = c.undone;
        split = c.split;
        last = c.last.current.project;
        chain = chain_project c.undone d.was d.is t c.last c.chain;
        then = ap (λ (y : Tree). y.current.project) c.then;
      };
    }
fault_project t u name ss ts fault.OpenAlready d = absurd d
fault_project t u name ss ts fault.SessionsFull d = absurd d
fault_project t u name ss ts fault.NothingToUndo d = absurd d
fault_project t u name ss ts fault.NothingToRedo d = absurd d

pub refused_project : {T : Type 0} (t u : Tree) (name : List ℕ) (ss ts : List KeptSession) (called : Result T SessionFault)
    → IfErr called (TreeDiscardFault name ss ts t u) → IfErr called (DiscardFault name ss ts t.current.project u.current.project)
refused_project t u name ss ts (Ok x) d = tt
refused_project t u name ss ts (Err e) d = fault_project t u name ss ts e d

fault_aside : (t u : Tree) (name : List ℕ) (ss ts : List KeptSession) (e : SessionFault) → TreeDiscardFault name ss ts t u e
    → aside_of u ≡ aside_of t
fault_aside t u name ss ts fault.NoSession d = still_aside t u d.features
fault_aside t u name ss ts fault.NoMemory d =
    let c = d.cut_short in
    still_aside c.last u c.then ∙ chain_aside c.undone d.was d.is t c.last c.chain
fault_aside t u name ss ts fault.OpenAlready d = absurd d
fault_aside t u name ss ts fault.SessionsFull d = absurd d
fault_aside t u name ss ts fault.NothingToUndo d = absurd d
fault_aside t u name ss ts fault.NothingToRedo d = absurd d

pub discarded_aside : {T : Type 0} (t u : Tree) (name : List ℕ) (ss ts : List KeptSession) (called : Result T SessionFault)
    → OnOk called (calls.IsDiscarded (IsTreeSwap poster) name ss ts t u) → IfErr called (TreeDiscardFault name ss ts t u)
    → aside_of u ≡ aside_of t
discarded_aside t u name ss ts (Ok x) d err = chain_aside d.was.done d.was d.last t u d.undone
discarded_aside t u name ss ts (Err e) d err = fault_aside t u name ss ts e err
