-- Every state of a run keeps its sessions apart and chained.
use Rattle.std.proofs.Common.{ℕ, ◌≡◌, ◌<◌, Bool, true, false, List, [], ◌∷◌, ◌++◌, Option, Some, refl, sym, ◌∙◌, ap, subst, eqb, append_assoc}
use Rattle.std.specs.List.{list_any}
use Rattle.std.specs.Prelude.{if◌then◌else◌, bytes_eq}
use Rattle.plane_terms.specs.Lists.{Every}
use Rattle.topology_terms.specs.Feature.{Feature, feature_at, IsSetAt}
use Rattle.topology_terms.specs.Session.{EditStep, Session, session_of, has_step, with_step}
use Rattle.session_terms.specs.KeptChanges.{IsSet as IsSetTo}
use Rattle.session_terms.specs.Steps.{IsUndoneTo, with_session, HoldsNone, AreAllApart, IsAlone}
use Rattle.session_terms.specs.Chains.{IsChained, IsBelow}
use Rattle.session_terms.proofs.Apart.{IsApartFromOthers, with_apart}
use Rattle.session_terms.proofs.Chains.{with_chained, note_chained, undo_chained, redo_chained, undo_apart, redo_apart, note_apart, named_apart, step_there}
use Rattle.script_terms.specs.State.{Desk}
use Rattle.topology_terms.specs.Changes.{IsFeatureSet}
use Rattle.script_terms.specs.Answer.{IsSessionChanged, IsUndone, IsRedone, LeavesNoted, set_step}
use Rattle.script_terms.specs.Keeping.{IsKeeping}

-- the look-ups after an edit
pub set_to : (h : ℕ) (x : Option Feature) (F G : List Feature) → IsSetAt h x F G → IsSetTo h x (feature_at F) (feature_at G)
set_to h x F G s = record { here = s.here; others = s.others }

-- the session of a name, among those of which each has a property
pub named_has : (P : Session → Type 0) (ss : List Session) (name : List ℕ) (s : Session) → session_of ss name ≡ Some s → Every P ss → P s
named_has P [] name s e h = cc
named_has P (o ∷ ss) name s e h = by (bytes_eq o.name name) e (λ r. named_has P ss name s r h.1)
  where
    by : (b : Bool) → (if b then Some o else session_of ss name) ≡ Some s → (session_of ss name ≡ Some s → P s) → P s
    by true e r = let same : o ≡ s = cc in subst P same h.0
    by false e r = r e

each_with : (P : Session → Type 0) (ss : List Session) (u : Session) → Every P ss → P u → Every P (with_session ss u)
each_with P [] u h p = tt
each_with P (o ∷ ss) u h p = by (bytes_eq o.name u.name) (each_with P ss u h.1 p)
  where
    by : (b : Bool) → Every P (with_session ss u) → Every P (if b then u ∷ ss else o ∷ with_session ss u)
    by true r = (p, h.1)
    by false r = (h.0, r)

-- no other session holds a handle of which this one has a step
pub own_alone : (ss : List Session) (s : Session) (h : ℕ) → has_step s h ≡ true → IsApartFromOthers ss s → IsAlone ss s.name h
own_alone [] s h k a = tt
own_alone (o ∷ ss) s h k a = ((λ n. by (has_step o h) refl ((a.0 n).steps h)), own_alone ss s h k a.1)
  where
    by : (b : Bool) → has_step o h ≡ b → (has_step o h ≡ true → HoldsNone s h) → b ≡ false
    by true e f = let g : has_step s h ≡ false = f e in cc
    by false e f = refl

pub last_there : (s u : Session) (t : EditStep) → IsUndoneTo s t u → has_step s t.handle ≡ true
last_there s u t k =
    subst (λ xs. list_any (λ (x : EditStep). eqb x.handle t.handle) xs ≡ true) (sym (ap (λ d. d ++ s.undone) k.done
    ∙ append_assoc u.done (t ∷ []) s.undone)) (step_there u.done s.undone t)

pub first_there : (s u : Session) (t : EditStep) → IsUndoneTo u t s → has_step s t.handle ≡ true
first_there s u t k =
    subst (λ xs. list_any (λ (x : EditStep). eqb x.handle t.handle) xs ≡ true) (sym (ap (λ d. s.done ++ d) k.undone))
    (step_there s.done u.undone t)

-- ---- one session changes with one handle
pub changed_keeps : (old new : Desk) (name : List ℕ) (s u : Session) (h : ℕ) (x : Option Feature) → IsKeeping old
    → IsSessionChanged name s u old.sessions new.sessions
    → IsSetAt h x old.project.features new.project.features → Every (IsBelow new.project.next) old.sessions
    → IsAlone old.sessions s.name h → IsApartFromOthers old.sessions u → IsChained (feature_at new.project.features) u
    → IsBelow new.project.next u → IsKeeping new
changed_keeps old new name s u h x k c set g alone a l b =
    let f = feature_at old.project.features in
    let e = feature_at new.project.features in
    let mine : IsAlone old.sessions u.name h = subst (λ n. IsAlone old.sessions n h) (sym c.name) alone in
    record {
      apart = subst AreAllApart (sym c.sessions) (with_apart old.sessions u k.apart a);
      chained = subst (Every (IsChained e)) (sym c.sessions) (with_chained f e h u old.sessions set.others k.apart mine k.chained l);
      given = subst (Every (IsBelow new.project.next)) (sym c.sessions) (each_with (IsBelow new.project.next) old.sessions u g b);
    }

pub end_below : (n : ℕ) (ts : List EditStep) (t : EditStep) → Every (λ (x : EditStep). x.handle < n) ts → t.handle < n
    → Every (λ (x : EditStep). x.handle < n) (ts ++ t ∷ [])
end_below n [] t h l = (l, tt)
end_below n (x ∷ ts) t h l = (h.0, end_below n ts t h.1 l)

front_below : (n : ℕ) (ts : List EditStep) (t : EditStep) → Every (λ (x : EditStep). x.handle < n) (ts ++ t ∷ [])
    → Every (λ (x : EditStep). x.handle < n) ts × (t.handle < n)
front_below n [] t h = (tt, h.0)
front_below n (x ∷ ts) t h = let r = front_below n ts t h.1 in ((h.0, r.0), r.1)

undone_below : (n : ℕ) (s u : Session) (t : EditStep) → IsUndoneTo s t u → IsBelow n s → IsBelow n u
undone_below n s u t k b =
    let p = front_below n u.done t (subst (Every (λ (x : EditStep). x.handle < n)) k.done b.done) in
    record { done = p.0; undone = subst (Every (λ (x : EditStep). x.handle < n)) (sym k.undone) (p.1, b.undone) }

redone_below : (n : ℕ) (s u : Session) (t : EditStep) → IsUndoneTo u t s → IsBelow n s → IsBelow n u
redone_below n s u t k b =
    let p = subst (Every (λ (x : EditStep). x.handle < n)) k.undone b.undone in
    record { done = subst (Every (λ (x : EditStep). x.handle < n)) (sym k.done) (end_below n s.done t b.done p.0); undone = p.1 }

each_same : (n m : ℕ) (ss : List Session) → m ≡ n → Every (IsBelow n) ss → Every (IsBelow m) ss
each_same n m ss e h = rw e h

-- ---- the commands
pub undo_keeps : (editor : List ℕ) (old new : Desk) → IsKeeping old → IsUndone editor old new → IsKeeping new
undo_keeps editor old new k d =
    let f = feature_at old.project.features in
    let e = feature_at new.project.features in
    let t = d.0 in let s = d.1 in let u = d.2 in
    let set = d.4.project.edit.features in
    let a = named_apart old.sessions editor s d.4.session.there k.apart in
    let c = named_has (IsChained f) old.sessions editor s d.4.session.there k.chained in
    let b = named_has (IsBelow old.project.next) old.sessions editor s d.4.session.there k.given in
    changed_keeps old new editor s u t.handle t.before k d.4.session set (each_same old.project.next new.project.next old.sessions d.4.project.next
    k.given)
    (own_alone old.sessions s t.handle (last_there s u t d.3) a.1) (undo_apart s u t old.sessions d.3 a.1)
    (undo_chained f e s u t d.3 (set_to t.handle t.before old.project.features new.project.features set) c)
    (undone_below new.project.next s u t d.3 (rw d.4.project.next b))

pub redo_keeps : (editor : List ℕ) (old new : Desk) → IsKeeping old → IsRedone editor old new → IsKeeping new
redo_keeps editor old new k d =
    let f = feature_at old.project.features in
    let e = feature_at new.project.features in
    let t = d.0 in let s = d.1 in let u = d.2 in
    let set = d.4.project.edit.features in
    let a = named_apart old.sessions editor s d.4.session.there k.apart in
    let c = named_has (IsChained f) old.sessions editor s d.4.session.there k.chained in
    let b = named_has (IsBelow old.project.next) old.sessions editor s d.4.session.there k.given in
    changed_keeps old new editor s u t.handle t.after k d.4.session set (each_same old.project.next new.project.next old.sessions d.4.project.next
    k.given)
    (own_alone old.sessions s t.handle (first_there s u t d.3) a.1) (redo_apart s u t old.sessions d.3 a.1)
    (redo_chained f e s u t d.3 (set_to t.handle t.after old.project.features new.project.features set) c)
    (redone_below new.project.next s u t d.3 (rw d.4.project.next b))

-- an edit of a handle that no other session holds
pub altered_keeps : (editor : List ℕ) (h : ℕ) (x : Option Feature) (old new : Desk) → IsKeeping old → IsAlone old.sessions editor h
    → h < old.project.next
    → LeavesNoted editor (set_step old.project h x) (IsFeatureSet h x) old new → IsKeeping new
altered_keeps editor h x old new k alone given d =
    let f = feature_at old.project.features in
    let e = feature_at new.project.features in
    let s = d.0 in let ch = d.1.session in
    let t : EditStep = record { handle = h; before = feature_at old.project.features h; after = x } in
    let set = d.1.project.edit.features in
    let a = named_apart old.sessions editor s ch.there k.apart in
    let c = named_has (IsChained f) old.sessions editor s ch.there k.chained in
    let b = named_has (IsBelow old.project.next) old.sessions editor s ch.there k.given in
    let mine : IsAlone old.sessions s.name h = subst (λ n. IsAlone old.sessions n h) (sym a.0) alone in
    changed_keeps old new editor s (with_step s t) h x k ch set (each_same old.project.next new.project.next old.sessions d.1.project.next
    k.given)
    mine (note_apart s t old.sessions mine a.1)
    (note_chained f e s h x (set_to h x old.project.features new.project.features set) c)
    (record { done = end_below new.project.next s.done t (rw d.1.project.next b.done) (rw d.1.project.next given); undone = tt })
