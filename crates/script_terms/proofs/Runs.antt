-- Each line of a run, and so each run, keeps sessions apart and chained.
use Rattle.std.proofs.Common.{ℕ, ◌≡◌, ◌<◌, Bool, true, false, List, [], ◌∷◌, length, Option, Some, None, refl, sym, ◌∙◌, ap, subst, eqb, inl, inr}
use Rattle.std.proofs.lemmas.Slice.Eq.{bytes_eq-Decides}
use Rattle.std.specs.Prelude.{if◌then◌else◌, bytes_eq, not, is_some, is_none, unwrap_or, MatchOption}
use Rattle.plane_terms.specs.Lists.{Every}
use Rattle.topology_terms.specs.Feature.{Feature, feature_at}
use Rattle.topology_terms.specs.Project.{IsOrdered, rule_at}
use Rattle.topology_terms.specs.Session.{Session, holder}
use Rattle.session_terms.specs.Steps.{AreAllApart, IsAlone}
use Rattle.session_terms.proofs.Apart.{free_alone, held_alone}
use Rattle.line_terms.specs.Commands.{Command, Blank, Class, Rule, DropRule, Begin, End, Discard, Add, Change, Delete, Retype, Undo, Redo, Explode, Snap, Create, Move, Validate, Mark, Unmark, Dirty, Errors, Cells, Features, Rules, Corners, Version, In, Reconcile, Post}
use Rattle.topology_terms.specs.Causes.{when, first_of, delete_cause, drop_cause}
use Rattle.topology_terms.specs.Changes.{reshaped, retyped}
use Rattle.topology_terms.specs.Lookups.{class_number}
use Rattle.topology_terms.specs.declared.cause.Cause.{Cause}
use Rattle.topology_terms.specs.declared.cause.Cause.TheVariants.{NoFeature}
use Rattle.script_terms.specs.Refusal.{Refusal, HeldBy, NoSession, SessionOpen, NothingToFix}
use Rattle.script_terms.specs.Reply.{Reply, Refused, Done, Moved}
use Rattle.script_terms.specs.State.{State, empty_state, is_open, Desk, OfAll, desk_of}
use Rattle.script_terms.specs.Refusing.{refusal_of, held_by, changes, first_held, not_snapped}
use Rattle.script_terms.specs.Answer.{IsDone, IsFixed}
use Rattle.plane_terms.specs.Point.{Place}
use Rattle.fix_terms.specs.Plans.{Edit}
use Rattle.fix_terms.specs.declared.edit.Edit.TheVariants.{Put}
use Rattle.fix_terms.specs.Explode.{exploded}
use Rattle.fix_terms.specs.Snap.{snapped}
use Rattle.fix_terms.specs.Create.{created}
use Rattle.fix_terms.specs.Move.{moves, may_move, touching, has_vertex, moved_shape}
use Rattle.script_terms.proofs.Fixing.{AreFree, noted_keeps, exploded_free, own_handle}
use Rattle.script_terms.specs.Run.{Outcome, Reading, Reads, Faulty, Run, ComesOf, EachKeeping, last_state}
use Rattle.script_terms.specs.Versions.{IsMade, barred, is_of_one}
use Rattle.script_terms.proofs.Desks.{desk_made, made_keep}
use Rattle.script_terms.specs.Keeping.{IsKeeping}
use Rattle.script_terms.proofs.Keeping.{undo_keeps, redo_keeps, altered_keeps}
use Rattle.script_terms.proofs.Commands.{same_keeps, equal_keeps, begun_keeps, ended_keeps, discard_keeps, added_keeps}
use Rattle.std.proofs.lemmas.Bool.{eqb-true, not-false}

-- ---- what is known where a command is not refused
pub first_none : (o : Option Refusal) (rs : List (Option Refusal)) → first_of (o ∷ rs) ≡ None → (o ≡ None) × (first_of rs ≡ None)
first_none None rs e = (refl, e)
first_none (Some r) rs e = cc

when_none : {A : Type 0} (b : Bool) (r : A) → when b r ≡ None → b ≡ false
when_none true r e = cc
when_none false r e = refl

pub by_none : (ss : List Session) (o : Option (List ℕ)) (editor : List ℕ) (h : ℕ) → AreAllApart ss → holder ss h ≡ o
    → held_by o editor ≡ None → IsAlone ss editor h
by_none ss None editor h a e n = free_alone ss editor h e
by_none ss (Some name) editor h a e n =
    let same : name ≡ editor = (bytes_eq-Decides name editor).0 (not-false (bytes_eq name editor)
    (when_none (not (bytes_eq name editor)) (HeldBy name) n)) in
    held_alone ss editor h a (e ∙ ap (λ (m : List ℕ). Some m) same)

pub changes_none : (o : Option Cause) → changes o ≡ None → o ≡ None
changes_none None e = refl
changes_none (Some c) e = cc

is_there : {A : Type 0} (o : Option A) → is_none o ≡ false → is_some o ≡ true
is_there None e = cc
is_there (Some x) e = refl

live_below : (n : ℕ) (F : List Feature) (h : ℕ) → Every (λ (f : Feature). f.handle < n) F → is_some (feature_at F h) ≡ true → h < n
unfolding feature_at
live_below n [] h a e = cc
live_below n (f ∷ F) h a e = by (eqb f.handle h) refl e (λ r. live_below n F h a.1 r)
  where
    by : (b : Bool) → eqb f.handle h ≡ b → is_some (if b then Some f else feature_at F h) ≡ true → (is_some (feature_at F h) ≡ true → h < n)
        → h < n
    by true k e r = let s : f.handle ≡ h = eqb-true f.handle h k in subst (λ m. m < n) s a.0
    by false k e r = r e

-- an edit of a live handle that is not refused
pub may_edit : (s : Desk) (editor : List ℕ) (h : ℕ) (rest : List (Option Refusal)) → IsKeeping s → IsOrdered s.project
    → first_of (when (not (is_open s editor)) NoSession ∷ changes (delete_cause s.project.features h) ∷ held_by (holder s.sessions h) editor ∷ rest) ≡ None
    → IsAlone s.sessions editor h × (h < s.project.next)
may_edit s editor h rest k ord n =
    let a = first_none (when (not (is_open s editor)) NoSession) (changes (delete_cause s.project.features h) ∷ held_by (holder s.sessions h) editor ∷ rest) n in
    let b = first_none (changes (delete_cause s.project.features h)) (held_by (holder s.sessions h) editor ∷ rest) a.1 in
    let c = first_none (held_by (holder s.sessions h) editor) rest b.1 in
    let absent = when_none (is_none (feature_at s.project.features h)) NoFeature (changes_none (delete_cause s.project.features h) b.0) in (
      by_none s.sessions (holder s.sessions h) editor h k.apart refl c.0,
      live_below s.project.next s.project.features h ord.next (is_there (feature_at s.project.features h) absent),
    )

-- a plan that is not refused puts what no other session holds
own_free : (editor : List ℕ) (h : ℕ) (f : Feature) (s : Desk) → feature_at s.project.features h ≡ Some f
    → IsAlone s.sessions editor h × (h < s.project.next) → IsAlone s.sessions editor f.handle × (f.handle < s.project.next)
own_free editor h f s e m =
    subst (λ k. IsAlone s.sessions editor k × (k < s.project.next)) (sym (own_handle s.project.features h f e)) m

-- an edit that is asked after a rule, too
behind_rule : (a b : Option Refusal) (rs : List (Option Refusal)) → first_of (a ∷ b ∷ rs) ≡ None → first_of (a ∷ rs) ≡ None
behind_rule None b rs e = (first_none b rs e).1
behind_rule (Some r) b rs e = cc

moves_free : (from to : Place) (editor : List ℕ) (ss : List Session) (n : ℕ) (fs : List Feature) → AreAllApart ss
    → Every (λ (f : Feature). f.handle < n) fs → first_held ss (touching from fs) editor ≡ None → AreFree editor (moves from to fs) ss n
moves_free from to editor ss n [] a l e = tt
moves_free from to editor ss n (f ∷ fs) a l e = by (has_vertex from f.shape) e (λ r. moves_free from to editor ss n fs a l.1 r)
  where
    by : (b : Bool) → first_held ss (if b then f ∷ touching from fs else touching from fs) editor ≡ None
        → (first_held ss (touching from fs) editor ≡ None → AreFree editor (moves from to fs) ss n)
        → AreFree editor (if b then Put f.handle (moved_shape from to f.shape) ∷ moves from to fs else moves from to fs) ss n
    by true e r =
        let k = first_none (held_by (holder ss f.handle) editor) (first_held ss (touching from fs) editor ∷ []) e in
        let m = first_none (first_held ss (touching from fs) editor) [] k.1 in
        (by_none ss (holder ss f.handle) editor f.handle a refl k.0, l.0, r m.0)
    by false e r = r e

pub move_free : (from to : Place) (editor : List ℕ) (s : Desk) → IsKeeping s → IsOrdered s.project
    → refusal_of s (Move editor from to) ≡ None → AreFree editor (moves from to s.project.features) s.sessions s.project.next
move_free from to editor s k ord n =
    let held = first_held s.sessions (touching from s.project.features) editor in
    let a = first_none (when (not (is_open s editor)) NoSession)
    (when (not (may_move from to s.project.features)) NothingToFix ∷ held ∷ []) n in
    let b = first_none (when (not (may_move from to s.project.features)) NothingToFix) (held ∷ []) a.1 in
    let c = first_none held [] b.1 in
    moves_free from to editor s.sessions s.project.next s.project.features k.apart ord.next c.0

fixed_keeps : {P : List Feature → Type 0} (editor : List ℕ) (es : List Edit) (said : Reply) (old : Desk) (reply : Reply) (new : Desk)
    → IsKeeping old → AreFree editor es old.sessions old.project.next → IsFixed editor es P said old reply new → IsKeeping new
fixed_keeps editor es said old reply new k f d = elim d [
  | inl x ↦ noted_keeps editor es old new k f x.2.noted
  | inr y ↦ equal_keeps old new k y.3
]

pub done_keeps : (old : Desk) (c : Command) (reply : Reply) (new : Desk) → IsKeeping old → IsOrdered old.project → refusal_of old c ≡ None
    → IsDone old c reply new → IsKeeping new
done_keeps old Blank reply new k ord n d = equal_keeps old new k d.1
done_keeps old (Class name kd) reply new k ord n d = same_keeps old new k d.1.sessions d.1.project.features d.1.project.next
done_keeps old (Rule r o e) reply new k ord n d = same_keeps old new k d.2.sessions d.2.project.features d.2.project.next
done_keeps old (DropRule r) reply new k ord n d = same_keeps old new k d.1.sessions d.1.project.features d.1.project.next
done_keeps old (Begin editor) reply new k ord n d = begun_keeps editor old new k
    (when_none (is_open old editor) SessionOpen (first_none (when (is_open old editor) SessionOpen) _ n).0) d.1
done_keeps old (End editor) reply new k ord n d = ended_keeps editor old new k d.1
done_keeps old (Discard editor) reply new k ord n d = discard_keeps editor old new k d.1
done_keeps old (Add editor own shape) reply new k ord n d =
    added_keeps editor (unwrap_or (class_number old.project own.name) 0) (unwrap_or own.subtype 0) shape d.0 old new k d.2
done_keeps old (Change editor h shape) reply new k ord n d = let m = may_edit old editor h _ k ord n
    in altered_keeps editor h (reshaped (feature_at old.project.features h) shape) old new k m.0 m.1 d.1
done_keeps old (Delete editor h) reply new k ord n d = let m = may_edit old editor h _ k ord n
    in altered_keeps editor h None old new k m.0 m.1 d.1
done_keeps old (Retype editor h t) reply new k ord n d = let m = may_edit old editor h _ k ord n
    in altered_keeps editor h (retyped (feature_at old.project.features h) t) old new k m.0 m.1 d.1
done_keeps old (Undo editor) reply new k ord n d = undo_keeps editor old new k d.1
done_keeps old (Redo editor) reply new k ord n d = redo_keeps editor old new k d.1
done_keeps old (Explode editor h) reply new k ord n d =
    let m = own_free editor h d.0 old d.1 (may_edit old editor h _ k ord n) in
    noted_keeps editor (exploded d.0) old new k
    (exploded_free editor d.0 d.0.shape.parts old.sessions old.project.next m.0 m.1) d.3.noted
done_keeps old (Snap editor r h i to) reply new k ord n d =
    let held = held_by (holder old.sessions h) editor in
    let rest = not_snapped old.project.features (rule_at old.project.rules r) (feature_at old.project.features h) i to ∷ [] in
    let asked = behind_rule (when (not (is_open old editor)) NoSession) (changes (drop_cause old.project.rules r))
    (changes (delete_cause old.project.features h) ∷ held ∷ rest) n in
    let m = own_free editor h d.1 old d.3 (may_edit old editor h rest k ord asked) in
    fixed_keeps editor (snapped i to d.1) Done old reply new k (m.0, m.1, tt) d.4
done_keeps old (Create editor r h at) reply new k ord n d = noted_keeps editor (created d.0 at) old new k tt d.5.noted
done_keeps old (Move editor from to) reply new k ord n d =
    let F = old.project.features in
    fixed_keeps editor (moves from to F) (Moved (length (moves from to F))) old reply new k (move_free from to editor old k ord n) d
done_keeps old (Validate w) reply new k ord n d = same_keeps old new k d.2.sessions d.2.project.features d.2.project.next
done_keeps old (Mark r h g) reply new k ord n d = same_keeps old new k d.1.sessions d.1.project.marking.features d.1.project.marking.next
done_keeps old (Unmark r h g) reply new k ord n d = same_keeps old new k d.1.sessions d.1.project.marking.features d.1.project.marking.next
done_keeps old Dirty reply new k ord n d = equal_keeps old new k d.1
done_keeps old Errors reply new k ord n d = equal_keeps old new k d.1
done_keeps old Cells reply new k ord n d = equal_keeps old new k d.1
done_keeps old Features reply new k ord n d = equal_keeps old new k d.1
done_keeps old Rules reply new k ord n d = equal_keeps old new k d.1
done_keeps old (Corners r h g) reply new k ord n d = equal_keeps old new k d.1
done_keeps old (Version v) reply new k ord n d = absurd d
done_keeps old (In v) reply new k ord n d = absurd d
done_keeps old (Reconcile v) reply new k ord n d = absurd d
done_keeps old (Post v) reply new k ord n d = absurd d

-- a command that is answered
abbrev pub answers_by : Option Refusal → Desk → Command → Reply → Desk → Type 0
answers_by o old c reply new = MatchOption o (IsDone old c reply new) (λ r. (reply ≡ Refused r) × (new ≡ old))

pub answers_keep : (old : Desk) (c : Command) (reply : Reply) (new : Desk) (o : Option Refusal) → refusal_of old c ≡ o → IsKeeping old
    → IsOrdered old.project → answers_by o old c reply new → IsKeeping new
answers_keep old c reply new None e k ord a = done_keeps old c reply new k ord e a
answers_keep old c reply new (Some r) e k ord a = equal_keeps old new k a.1

keeps_state : (s t : State) → IsKeeping (desk_of s) → t ≡ s → IsKeeping (desk_of t)
keeps_state s t k e = subst (λ (x : State). IsKeeping (desk_of x)) (sym e) k

-- a line that is answered, with all versions
answered_keep : (s : State) (c : Command) (reply : Reply) (t : State) (o : Option Refusal) → barred s c ≡ o → IsKeeping (desk_of s)
    → IsOrdered s.project → MatchOption o (IsMade s c reply t) (λ r. (reply ≡ Refused r) × (t ≡ s)) → IsKeeping (desk_of t)
answered_keep s c reply t None e k ord a = by (is_of_one c) refl
  where
    by : (b : Bool) → is_of_one c ≡ b → IsKeeping (desk_of t)
    by true o = answers_keep (desk_of s) c reply (desk_of t) (refusal_of (desk_of s) c) refl k ord (desk_made s t c reply o a).0
    by false o = made_keep s c reply t o e k a
answered_keep s c reply t (Some r) e k ord a = keeps_state s t k a.1

comes_keep : (s : State) (r : Reading) (o : Outcome) → IsKeeping (desk_of s) → IsOrdered s.project → ComesOf s r o → IsKeeping (desk_of o.after)
comes_keep s (Reads c) o k ord a = answered_keep s c a.0 o.after (barred s c) refl k ord a.1
comes_keep s (Faulty r) o k ord a = keeps_state s o.after k a.0

pub run_keeps : (s : State) (lines : List (List ℕ)) (os : List Outcome) → IsKeeping (desk_of s) → OfAll IsOrdered s → Run s lines os
    → EachKeeping s os
run_keeps s [] [] k ord r = k
run_keeps s [] (o ∷ os) k ord r = absurd r
run_keeps s (line ∷ lines) [] k ord r = absurd r
run_keeps s (line ∷ lines) (o ∷ os) k ord r =
    (k, run_keeps o.after lines os (comes_keep s r.0.reading o k ord.0 r.0.comes) r.0.ordered r.1)

-- in the state that a run comes to, too
pub last_keeps : (s : State) (os : List Outcome) → EachKeeping s os → IsKeeping (desk_of (last_state s os))
last_keeps s [] k = k
last_keeps s (o ∷ os) k = last_keeps o.after os k.1

pub empty_keeps : IsKeeping (desk_of empty_state)
empty_keeps = record { apart = tt; chained = tt; given = tt }
