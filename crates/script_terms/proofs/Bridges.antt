-- From what is kept to what is seen: a change of the kept sessions and of the features is the change of the state.
use Rattle.std.proofs.Common.{ℕ, ◌≡◌, ◌≢◌, Bool, true, false, List, [], ◌∷◌, Option, Some, refl, sym, ◌∙◌, ap, subst}
use Rattle.std.specs.Prelude.{if◌then◌else◌, bytes_eq}
use Rattle.std.specs.Option.{option_map}
use Rattle.topology_terms.specs.Feature.{Feature}
use Rattle.topology_terms.specs.Session.{EditStep, Session, session_of, with_step}
use Rattle.session_terms.specs.Kept.{KeptStep, KeptSession, seen_session, seen}
use Rattle.session_terms.specs.KeptChanges.{IsSet, IsKeptUndone, IsKeptRedone, IsKeptNoted, IsSameButRoom, IsKeptChange, kept_named, with_kept}
use Rattle.session_terms.specs.Steps.{IsUndoneTo, AreAllApart, IsAlone}
use Rattle.session_terms.proofs.Seen.{undo_seen, redo_seen, note_seen, same_seen, seen_named, seen_with, same_name, other_name}
use Rattle.session_terms.proofs.Chains.{named_apart}
use Rattle.script_terms.specs.Answer.{IsSessionChanged}
use Rattle.script_terms.proofs.Keeping.{own_alone, last_there, first_there}

pub there_seen : (at : ℕ → Option Feature) (ss : List KeptSession) (name : List ℕ) (s : KeptSession) → kept_named ss name ≡ Some s
    → session_of (seen at ss) name ≡ Some (seen_session at s)
there_seen at ss name s e = seen_named at ss name ∙ ap (λ (o : Option KeptSession). option_map (λ (x : KeptSession). seen_session at x) o) e

changed_seen : (at bt : ℕ → Option Feature) (name : List ℕ) (s u : KeptSession) (ss ts : List KeptSession) (h : ℕ)
    → IsKeptChange name s u ss ts → ((k : ℕ) → k ≢ h → bt k ≡ at k) → AreAllApart (seen at ss) → IsAlone (seen at ss) s.name h
    → IsSessionChanged name (seen_session at s) (seen_session bt u) (seen at ss) (seen bt ts)
changed_seen at bt name s u ss ts h c others apart alone = record {
  there = there_seen at ss name s c.there;
  name = c.name;
  sessions = ap (seen bt) c.sessions ∙ seen_with at bt h u ss others apart (subst (λ n. IsAlone (seen at ss) n h) (sym c.name) alone);
}

pub undo_bridge : (at bt : ℕ → Option Feature) (name : List ℕ) (s u : KeptSession) (ss ts : List KeptSession) (t : KeptStep)
    → IsKeptChange name s u ss ts → IsKeptUndone s t (at t.handle) u → IsSet t.handle t.kept at bt → AreAllApart (seen at ss)
    → IsSessionChanged name (seen_session at s) (seen_session bt u) (seen at ss) (seen bt ts)
    × IsUndoneTo (seen_session at s) (record { handle = t.handle; before = t.kept; after = at t.handle }) (seen_session bt u)
undo_bridge at bt name s u ss ts t c k set apart =
    let e : EditStep = record { handle = t.handle; before = t.kept; after = at t.handle } in
    let d = undo_seen at bt s u t k set in
    let a = named_apart (seen at ss) name (seen_session at s) (there_seen at ss name s c.there) apart in
    let alone = own_alone (seen at ss) (seen_session at s) t.handle (last_there (seen_session at s) (seen_session bt u) e d) a.1 in
    (changed_seen at bt name s u ss ts t.handle c set.others apart alone, d)

pub redo_bridge : (at bt : ℕ → Option Feature) (name : List ℕ) (s u : KeptSession) (ss ts : List KeptSession) (t : KeptStep)
    → IsKeptChange name s u ss ts → IsKeptRedone s t (at t.handle) u → IsSet t.handle t.kept at bt → AreAllApart (seen at ss)
    → IsSessionChanged name (seen_session at s) (seen_session bt u) (seen at ss) (seen bt ts)
    × IsUndoneTo (seen_session bt u) (record { handle = t.handle; before = at t.handle; after = t.kept }) (seen_session at s)
redo_bridge at bt name s u ss ts t c k set apart =
    let e : EditStep = record { handle = t.handle; before = at t.handle; after = t.kept } in
    let d = redo_seen at bt s u t k set in
    let a = named_apart (seen at ss) name (seen_session at s) (there_seen at ss name s c.there) apart in
    let alone = own_alone (seen at ss) (seen_session at s) t.handle (first_there (seen_session at s) (seen_session bt u) e d) a.1 in
    (changed_seen at bt name s u ss ts t.handle c set.others apart alone, d)

-- the step is the last done one of the editor's session
pub record IsNoted (editor : List ℕ) (t : EditStep) (old new : List Session) : Type 0 where
  pub session : Session
  pub change : IsSessionChanged editor session (with_step session t) old new

-- `IsAlone` is what a passed E20 gives, or a handle that is new
pub note_bridge : (at bt : ℕ → Option Feature) (name : List ℕ) (s u : KeptSession) (ss ts : List KeptSession) (h : ℕ) (x : Option Feature)
    → IsKeptChange name s u ss ts → IsKeptNoted s (record { handle = h; kept = at h }) u → IsSet h x at bt → AreAllApart (seen at ss)
    → IsAlone (seen at ss) name h → IsNoted name (record { handle = h; before = at h; after = x }) (seen at ss) (seen bt ts)
note_bridge at bt name s u ss ts h x c k set apart alone =
    let e : EditStep = record { handle = h; before = at h; after = x } in
    let a = named_apart (seen at ss) name (seen_session at s) (there_seen at ss name s c.there) apart in
    let change = changed_seen at bt name s u ss ts h c set.others apart (subst (λ n. IsAlone (seen at ss) n h) (sym a.0) alone) in
    record {
      session = seen_session at s;
      change = subst (λ (y : Session). IsSessionChanged name (seen_session at s) y (seen at ss)
          (seen bt ts)) (note_seen at bt s u h x k set) change;
    }

pub named : (name : List ℕ) (xs : List KeptSession) (s : KeptSession) → kept_named xs name ≡ Some s → s.name ≡ name
named name [] s e = cc
named name (o ∷ xs) s e = by (bytes_eq o.name name) refl e (λ r. named name xs s r)
  where
    by : (b : Bool) → bytes_eq o.name name ≡ b → (if b then Some o else kept_named xs name) ≡ Some s
        → (kept_named xs name ≡ Some s → s.name ≡ name) → s.name ≡ name
    by true p e r = let f : o ≡ s = cc in ap (λ (x : KeptSession). x.name) (sym f) ∙ same_name o.name name p
    by false p e r = r e

-- room is not seen
same_room : (at : ℕ → Option Feature) (name : List ℕ) (s u : KeptSession) (xs : List KeptSession) → u.name ≡ s.name → IsSameButRoom s u
    → kept_named xs name ≡ Some s → seen at (with_kept xs u) ≡ seen at xs
same_room at name s u [] n k e = cc
same_room at name s u (o ∷ xs) n k e = by (bytes_eq o.name name) refl (bytes_eq o.name u.name) refl e (λ r. same_room at name s u xs n k r)
  where
    by : (b : Bool) → bytes_eq o.name name ≡ b → (d : Bool) → bytes_eq o.name u.name ≡ d
        → (if b then Some o else kept_named xs name) ≡ Some s → (kept_named xs name ≡ Some s → seen at (with_kept xs u) ≡ seen at xs)
        → seen at (if d then u ∷ xs else o ∷ with_kept xs u) ≡ seen at (o ∷ xs)
    by true p true q e r = let f : o ≡ s = cc in ap (λ x. x ∷ seen at xs) (same_seen at s u k ∙ ap (seen_session at) (sym f))
    by true p false q e r = let f : o ≡ s = cc in absurd (other_name o.name u.name q (ap (λ (x : KeptSession). x.name) f ∙ sym n))
    by false p true q e r = absurd (other_name o.name name p (same_name o.name u.name q ∙ (n ∙ named name xs s e)))
    by false p false q e r = ap (λ x. seen_session at o ∷ x) (r e)

pub room_bridge : (at : ℕ → Option Feature) (name : List ℕ) (s u : KeptSession) (ss ts : List KeptSession) → IsKeptChange name s u ss ts
    → IsSameButRoom s u → seen at ts ≡ seen at ss
room_bridge at name s u ss ts c k = ap (seen at) c.sessions ∙ same_room at name s u ss c.name k c.there
