-- A plan that can be done is done edit by edit, and each edit leaves a state of a run.
use Rattle.std.proofs.Common.{◌≡◌, ◌≤◌, ◌<◌, ℕ, length, List, [], ◌∷◌, Option, Some, None, refl, sym, ap, subst, arith, inl, inr}
use Rattle.plane_terms.specs.Shape.{Shape}
use Rattle.topology_terms.specs.Causes.{Tells}
use Rattle.topology_terms.specs.Changes.{reshaped, IsFeatureSet, IsFeatureAdded}
use Rattle.topology_terms.specs.declared.cause.Cause.{Cause}
use Rattle.topology_terms.specs.Feature.{Feature, feature_at}
use Rattle.topology_terms.specs.Project.{Project, IsOrdered}
use Rattle.topology_terms.specs.Settled.{IsSettled}
use Rattle.topology_terms.specs.Sound.{IsSound}
use Rattle.feature_store.specs.Keeps.{IsStore}
use Rattle.session_terms.specs.Kept.{KeptSession}
use Rattle.edit_session.specs.Grounds.{may_in}
use Rattle.edit_session.specs.Moves.{MayAll}
use Rattle.edit_session.specs.SessionsCalls as calls
use Rattle.fix_terms.specs.Plans.{Edit}
use Rattle.fix_terms.specs.declared.edit.Edit.TheVariants.{Put, Add}
use Rattle.script_terms.specs.Answer.{AreNoted, LeavesNoted, added_step}
use Rattle.script_terms.specs.State.{Desk}
use Rattle.script_terms.proofs.Bridges.{note_bridge}
use Rattle.script_terms.proofs.Fixing.{put_free, add_free}
use Rattle.script_terms.proofs.Keeping.{altered_keeps}
use Rattle.command_answers.specs.Worlds.{seen_desk, IsWorld, IsRoomAlone}
use Rattle.command_answers.specs.Planned.{IsEditNoted, IsReady, IsStepped}
use Rattle.version_terms.specs.Versions.{Tree}
use Rattle.version_terms.specs.VersionChanges.{IsAside}
use Rattle.command_answers.proofs.Trees.{aside_more, aside_self}
use Rattle.command_answers.proofs.KeptLists.{named_has}
use Rattle.command_answers.proofs.Noting.{add_done, add_world, room_world, noted_may, live_may}
use Rattle.command_answers.proofs.Sessions.{May, may_changed}

-- ---- an edit that can be done is refused for no cause
pub no_cause : (told there : Option Cause) → Tells told there → there ≡ None → told ≡ None
no_cause None there t e = refl
no_cause (Some x) there t e = cc

-- ---- a shape is put
pub put_done : (editor : List ℕ) (h : ℕ) (s : Shape) (p q : Project) (ss ts : List KeptSession) → IsReady editor (Put h s ∷ []) p ss
    → IsFeatureSet h (reshaped (feature_at p.features h) s) p q
    → calls.IsNoted editor (record { handle = h; kept = feature_at p.features h }) ss ts
    → IsEditNoted editor (Put h s) (seen_desk p ss) (seen_desk q ts)
put_done editor h s p q ss ts r e d =
    let at = feature_at p.features in
    let bt = feature_at q.features in
    let b = note_bridge at bt editor d.was d.is ss ts h (reshaped (feature_at p.features h) s) d.change d.noted (record {
      here = e.edit.features.here;
      others = e.edit.features.others;
    }) r.world.keeping.apart r.free.0 in
    (b.session, record { project = e; session = b.change })

pub put_world : (editor : List ℕ) (h : ℕ) (s : Shape) (f : Feature) (p q : Project) (ss ts : List KeptSession)
    → IsStore p.classes p.features p.next → IsReady editor (Put h s ∷ []) p ss → feature_at p.features h ≡ Some f
    → IsFeatureSet h (reshaped (feature_at p.features h) s) p q
    → calls.IsNoted editor (record { handle = h; kept = feature_at p.features h }) ss ts → IsWorld q ts
put_world editor h s f p q ss ts store r live e d =
    let after = reshaped (feature_at p.features h) s in
    let still : (k : ℕ) (x : Option Feature) → May p k x → May q k x = λ k x. may_in p.classes q.classes p.next q.next k x e.edit.classes
    e.next in
    record {
      keeping = altered_keeps editor h after (seen_desk p ss) (seen_desk q ts) r.world.keeping r.free.0 r.free.1
          (put_done editor h s p q ss ts r e d);
      may = may_changed p q editor d.was d.is ss ts d.change still
          (noted_may (May p) (May q) d.was (record { handle = h; kept = feature_at p.features h }) d.is still d.noted
          (named_has (MayAll (May p)) ss editor d.was d.change.there r.world.may) (still h (feature_at p.features h)
          (live_may p h f store live))) r.world.may;
    }

-- ---- a feature comes
pub new_done : (editor : List ℕ) (c t : ℕ) (s : Shape) (h : ℕ) (p q : Project) (ss ts : List KeptSession)
    → IsReady editor (Add c t s ∷ []) p ss → IsFeatureAdded c t s h p q → calls.IsNoted editor (record { handle = h; kept = None }) ss ts
    → IsEditNoted editor (Add c t s) (seen_desk p ss) (seen_desk q ts)
new_done editor c t s h p q ss ts r e d =
    subst (λ k. LeavesNoted editor (added_step k c t s) (IsFeatureAdded c t s k) (seen_desk p ss) (seen_desk q ts)) e.number
    (add_done p q editor ss ts c t s h r.world e d)

pub new_world : (editor : List ℕ) (c t : ℕ) (s : Shape) (h : ℕ) (p q : Project) (ss ts : List KeptSession)
    → IsStore p.classes p.features p.next → IsReady editor (Add c t s ∷ []) p ss → IsFeatureAdded c t s h p q
    → calls.IsNoted editor (record { handle = h; kept = None }) ss ts → IsWorld q ts
new_world editor c t s h p q ss ts store r e d = add_world p q editor ss ts c t s h store r.world e d

-- ---- nothing was done but room
pub room_world_of : (editor : List ℕ) (es : List Edit) (p q : Project) (ss ts : List KeptSession) → IsReady editor es p ss → q ≡ p
    → IsRoomAlone editor ss ts → IsWorld q ts
room_world_of editor es p q ss ts r e k = subst (λ (m : Project). IsWorld m ts) (sym e) (elim k [
  | inl s ↦ subst (IsWorld p) (sym s) r.world
  | inr m ↦ room_world p editor ss ts m r.world
])

-- ---- the first edit, and the rest
pub is_some : (es fs : List Edit) → es ≡ [] → 1 ≤ length es → ⊥
is_some es fs e l = let n : length es ≡ 0 = ap (λ (xs : List Edit). length xs) e in omega (arith, n, l)

pub first_ready : (editor : List ℕ) (e : Edit) (es fs : List Edit) (p : Project) (ss : List KeptSession) → es ≡ e ∷ fs
    → IsReady editor es p ss → IsReady editor (e ∷ []) p ss
first_ready editor e es fs p ss same r = by e (subst (λ (xs : List Edit). IsReady editor xs p ss) same r)
  where
    by : (e : Edit) → IsReady editor (e ∷ fs) p ss → IsReady editor (e ∷ []) p ss
    by (Put h s) k = record { world = k.world; free = (k.free.0, k.free.1, tt); possible = (k.possible.0, λ q d. tt) }
    by (Add c t s) k = record { world = k.world; free = tt; possible = (k.possible.0, λ q d. tt) }

pub stepped : (editor : List ℕ) (e : Edit) (es fs : List Edit) (d g : Desk) → es ≡ e ∷ fs → IsEditNoted editor e d g
    → IsStepped editor es fs d g
stepped editor e es fs d g same n = (e, same, n)

pub rest_ready : (editor : List ℕ) (es fs : List Edit) (p q : Project) (ss ts : List KeptSession) → IsReady editor es p ss
    → IsStepped editor es fs (seen_desk p ss) (seen_desk q ts) → IsWorld q ts → IsReady editor fs q ts
rest_ready editor es fs p q ss ts r step w = by step.0 (subst (λ (xs : List Edit). IsReady editor xs p ss) step.1 r) step.2
  where
    by : (e : Edit) → IsReady editor (e ∷ fs) p ss → IsEditNoted editor e (seen_desk p ss) (seen_desk q ts) → IsReady editor fs q ts
    by (Put h s) k n = record {
      world = w;
      free = put_free editor h s fs _ _ (seen_desk p ss) (seen_desk q ts) k.world.keeping.apart n k.free;
      possible = k.possible.1 q n.1.project;
    }
    by (Add c t s) k n = record {
      world = w;
      free = add_free editor c t s fs _ _ (seen_desk p ss) (seen_desk q ts) k.world.keeping.apart n k.free;
      possible = k.possible.1 q n.1.project;
    }

-- ---- the whole plan
pub record SoFar (editor : List ℕ) (es fs : List Edit) (t u : Tree) (ss ts : List KeptSession) : Type 0 where
  pub ready : IsReady editor fs u.current.project ts
  pub ordered : IsOrdered u.current.project
  pub noted : (g : Desk) → AreNoted editor fs (seen_desk u.current.project ts) g → AreNoted editor es (seen_desk t.current.project ss) g
  pub sound : IsSound t.current.project → IsSound u.current.project
  pub settled : IsSettled t.current.project → IsSettled u.current.project
  pub aside : IsAside t u

pub begins : (editor : List ℕ) (es : List Edit) (t : Tree) (ss : List KeptSession) → IsReady editor es t.current.project ss
    → IsOrdered t.current.project → SoFar editor es es t t ss ss
begins editor es t ss r o = record {
  ready = r;
  ordered = o;
  noted = λ g n. n;
  sound = λ s. s;
  settled = λ s. s;
  aside = aside_self t;
}

step_noted : (editor : List ℕ) (e : Edit) (fs : List Edit) (d m g : Desk) → IsOrdered m.project → IsEditNoted editor e d m
    → AreNoted editor fs m g → AreNoted editor (e ∷ fs) d g
step_noted editor (Put h s) fs d m g o n k = (m, o, n, k)
step_noted editor (Add c t s) fs d m g o n k = (m, o, n, k)

pub goes_on : (editor : List ℕ) (es fs gs : List Edit) (t u v : Tree) (ss ts us : List KeptSession) → SoFar editor es fs t u ss ts
    → IsStepped editor fs gs (seen_desk u.current.project ts) (seen_desk v.current.project us) → IsWorld v.current.project us
    → IsOrdered v.current.project → (IsSound u.current.project → IsSound v.current.project)
    → (IsSettled u.current.project → IsSettled v.current.project) → IsAside u v → SoFar editor es gs t v ss us
goes_on editor es fs gs t u v ss ts us k step w o sound settled aside =
    let d : Desk = seen_desk u.current.project ts in
    let m : Desk = seen_desk v.current.project us in
    record {
      ready = rest_ready editor fs gs u.current.project v.current.project ts us k.ready step w;
      ordered = o;
      noted = λ g n. k.noted g (subst (λ (xs : List Edit). AreNoted editor xs d g) (sym step.1)
          (step_noted editor step.0 gs d m g o step.2 n));
      sound = λ s. sound (k.sound s);
      settled = λ s. settled (k.settled s);
      aside = aside_more t u v k.aside aside;
    }

pub shorter : (editor : List ℕ) (fs gs : List Edit) (d g : Desk) → IsStepped editor fs gs d g → length gs < length fs
shorter editor fs gs d g step = let n = ap (λ (xs : List Edit). length xs) step.1 in omega (arith, n)

pub ends : (editor : List ℕ) (es fs : List Edit) (t u : Tree) (ss ts : List KeptSession) → SoFar editor es fs t u ss ts → length fs ≡ 0
    → AreNoted editor es (seen_desk t.current.project ss) (seen_desk u.current.project ts)
ends editor es fs t u ss ts k e = by fs e k.noted
  where
    by : (xs : List Edit) → length xs ≡ 0
        → ((g : Desk) → AreNoted editor xs (seen_desk u.current.project ts) g → AreNoted editor es (seen_desk t.current.project ss) g)
        → AreNoted editor es (seen_desk t.current.project ss) (seen_desk u.current.project ts)
    by [] n h = h (seen_desk u.current.project ts) refl
    by (x ∷ xs) n h = absurd (omega (arith, n))
