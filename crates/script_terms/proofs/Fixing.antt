-- A plan whose edits are noted keeps sessions apart and chained, edit by edit.
use Rattle.std.proofs.Common.{ℕ, ◌≡◌, ◌<◌, ◌≤◌, Bool, true, false, List, [], ◌∷◌, Option, Some, refl, sym, ◌∙◌, ap, subst, arith, eqb}
use Rattle.std.proofs.lemmas.Bool.{eqb-true}
use Rattle.std.specs.Prelude.{if◌then◌else◌, bytes_eq, map}
use Rattle.plane_terms.specs.Shape.{Shape}
use Rattle.plane_terms.specs.Point.{Place}
use Rattle.topology_terms.specs.Changes.{reshaped, IsFeatureSet, IsFeatureAdded}
use Rattle.topology_terms.specs.Feature.{Feature, feature_at}
use Rattle.topology_terms.specs.Project.{Project}
use Rattle.topology_terms.specs.Session.{EditStep, Session, with_step}
use Rattle.session_terms.specs.Steps.{with_session, IsAlone, AreAllApart}
use Rattle.session_terms.proofs.Chains.{named_apart}
use Rattle.fix_terms.specs.Plans.{Edit}
use Rattle.fix_terms.specs.declared.edit.Edit.TheVariants.{Put, Add}
use Rattle.fix_terms.specs.Explode.{line_of, exploded_by}
use Rattle.script_terms.specs.Answer.{AreNoted, LeavesNoted}
use Rattle.script_terms.specs.Keeping.{IsKeeping}
use Rattle.script_terms.specs.State.{Desk}
use Rattle.script_terms.proofs.Commands.{equal_keeps, added_keeps}
use Rattle.script_terms.proofs.Keeping.{altered_keeps}

-- no other session holds a handle that the plan puts, and each was given
abbrev pub AreFree : List ℕ → List Edit → List Session → ℕ → Type 0
AreFree editor [] ss n = Unit {0}
AreFree editor (Put h s ∷ es) ss n = IsAlone ss editor h × (h < n) × AreFree editor es ss n
AreFree editor (Add c t s ∷ es) ss n = AreFree editor es ss n

-- ---- it stays so while the editor's own session changes
alone_with : (ss : List Session) (u : Session) (editor : List ℕ) (h : ℕ) → u.name ≡ editor → IsAlone ss editor h
    → IsAlone (with_session ss u) editor h
alone_with [] u editor h e a = tt
alone_with (o ∷ ss) u editor h e a = by (bytes_eq o.name u.name) (alone_with ss u editor h e a.1)
  where
    by : (b : Bool) → IsAlone (with_session ss u) editor h → IsAlone (if b then u ∷ ss else o ∷ with_session ss u) editor h
    by true r = ((λ n. absurd (n e)), a.1)
    by false r = (a.0, r)

alone_noted : {P : Project → Project → Type 0} (editor : List ℕ) (t : EditStep) (old new : Desk) (h : ℕ) → AreAllApart old.sessions
    → LeavesNoted editor t P old new → IsAlone old.sessions editor h → IsAlone new.sessions editor h
alone_noted editor t old new h apart d a =
    let s = d.0 in
    let c = d.1.session in
    let own = named_apart old.sessions editor s c.there apart in
    subst (λ ss. IsAlone ss editor h) (sym c.sessions) (alone_with old.sessions (with_step s t) editor h own.0 a)

still_free : (editor : List ℕ) (es : List Edit) (ss ts : List Session) (n m : ℕ) → n ≤ m
    → ((h : ℕ) → IsAlone ss editor h → IsAlone ts editor h) → AreFree editor es ss n → AreFree editor es ts m
still_free editor [] ss ts n m l a f = tt
still_free editor (Put h s ∷ es) ss ts n m l a f =
    let b = f.1 in
    (a h f.0, omega (arith, b, l), still_free editor es ss ts n m l a f.2)
still_free editor (Add c t s ∷ es) ss ts n m l a f = still_free editor es ss ts n m l a f

pub put_free : (editor : List ℕ) (h : ℕ) (s : Shape) (es : List Edit) (t : EditStep) (after : Option Feature) (old new : Desk)
    → AreAllApart old.sessions → LeavesNoted editor t (IsFeatureSet h after) old new
    → AreFree editor (Put h s ∷ es) old.sessions old.project.next → AreFree editor es new.sessions new.project.next
put_free editor h s es t after old new apart d f =
    let e = d.1.project.next in
    still_free editor es old.sessions new.sessions old.project.next new.project.next (omega (arith, e))
    (λ k a. alone_noted editor t old new k apart d a) f.2

pub add_free : (editor : List ℕ) (c u : ℕ) (s : Shape) (es : List Edit) (t : EditStep) (n : ℕ) (old new : Desk)
    → AreAllApart old.sessions → LeavesNoted editor t (IsFeatureAdded c u s n) old new
    → AreFree editor (Add c u s ∷ es) old.sessions old.project.next → AreFree editor es new.sessions new.project.next
add_free editor c u s es t n old new apart d f =
    let e = d.1.project.next in
    still_free editor es old.sessions new.sessions old.project.next new.project.next (omega (arith, e))
    (λ k a. alone_noted editor t old new k apart d a) f

pub noted_keeps : (editor : List ℕ) (es : List Edit) (old new : Desk) → IsKeeping old
    → AreFree editor es old.sessions old.project.next → AreNoted editor es old new → IsKeeping new
noted_keeps editor [] old new k f d = equal_keeps old new k d
noted_keeps editor (Put h s ∷ es) old new k f d =
    noted_keeps editor es d.0 new
    (altered_keeps editor h (reshaped (feature_at old.project.features h) s) old d.0 k f.0 f.1 d.2)
    (put_free editor h s es _ _ old d.0 k.apart d.2 f) d.3
noted_keeps editor (Add c t s ∷ es) old new k f d =
    noted_keeps editor es d.0 new (added_keeps editor c t s old.project.next old d.0 k d.2)
    (add_free editor c t s es _ _ old d.0 k.apart d.2 f) d.3

-- ---- the parts of a line
adds_free : (editor : List ℕ) (f : Feature) (parts : List (List (List Place))) (ss : List Session) (n : ℕ)
    → AreFree editor (map {A = List (List Place)} (λ part. Add f.class f.subtype (line_of part)) parts) ss n
adds_free editor f [] ss n = tt
adds_free editor f (x ∷ xs) ss n = adds_free editor f xs ss n

pub exploded_free : (editor : List ℕ) (f : Feature) (parts : List (List (List Place))) (ss : List Session) (n : ℕ)
    → IsAlone ss editor f.handle → f.handle < n → AreFree editor (exploded_by f parts) ss n
exploded_free editor f [] ss n a l = tt
exploded_free editor f (x ∷ xs) ss n a l = (a, l, adds_free editor f xs ss n)

pub own_handle : (F : List Feature) (h : ℕ) (f : Feature) → feature_at F h ≡ Some f → f.handle ≡ h
unfolding feature_at
own_handle [] h f e = cc
own_handle (g ∷ F) h f e = by (eqb g.handle h) refl e (λ r. own_handle F h f r)
  where
    by : (b : Bool) → eqb g.handle h ≡ b → (if b then Some g else feature_at F h) ≡ Some f → (feature_at F h ≡ Some f → f.handle ≡ h)
        → f.handle ≡ h
    by true k e r = let same : g ≡ f = cc in ap (λ (x : Feature). x.handle) (sym same) ∙ eqb-true g.handle h k
    by false k e r = r e
