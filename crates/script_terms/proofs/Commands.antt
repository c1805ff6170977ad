-- Each command, each line and so each run keeps sessions apart and chained.
use Rattle.std.proofs.Common.{ℕ, ◌≡◌, ◌≢◌, ◌<◌, ◌≤◌, Bool, true, false, List, [], ◌∷◌, ◌++◌, Option, Some, None, refl, sym, ◌∙◌, ap, subst, arith, eqb}
use Rattle.std.proofs.lemmas.Bool.Decides.{nat_tests}
use Rattle.std.specs.List.{list_any}
use Rattle.std.specs.Prelude.{if◌then◌else◌, bytes_eq, is_some}
use Rattle.plane_terms.specs.Lists.{Every}
use Rattle.topology_terms.specs.Feature.{Feature, feature_of, feature_at}
use Rattle.topology_terms.specs.Project.{Project}
use Rattle.topology_terms.specs.Session.{EditStep, Session, session_of, with_step}
use Rattle.session_terms.specs.KeptChanges.{is_below}
use Rattle.session_terms.specs.Steps.{opened, with_opened, without, AreApart, AreAllApart, IsAlone}
use Rattle.session_terms.specs.Chains.{IsChained, IsBelow}
use Rattle.session_terms.proofs.Seen.{same_name, other_name}
use Rattle.session_terms.proofs.Apart.{IsApartFromOthers, IsUnnamed, every_without, without_apart, opened_apart}
use Rattle.session_terms.proofs.Chains.{HoldsNoneOf, apart_none, other_chained, note_chained, note_apart, named_apart}
use Rattle.script_terms.specs.State.{Desk, is_open}
use Rattle.plane_terms.specs.Shape.{Shape}
use Rattle.topology_terms.specs.Changes.{IsFeatureAdded}
use Rattle.script_terms.specs.Answer.{IsDiscarded, AreTakenBack, LeavesNoted, added_step}
use Rattle.script_terms.specs.Keeping.{IsKeeping}
use Rattle.script_terms.proofs.Keeping.{set_to, named_has, changed_keeps, end_below}

-- ---- nothing of it changes
pub same_keeps : (old new : Desk) → IsKeeping old → new.sessions ≡ old.sessions → new.project.features ≡ old.project.features
    → new.project.next ≡ old.project.next → IsKeeping new
same_keeps old new k s f n = record {
  apart = subst AreAllApart (sym s) k.apart;
  chained = subst (λ F. Every (IsChained (feature_at F)) new.sessions) (sym f) (subst (Every (IsChained (feature_at old.project.features)))
      (sym s) k.chained);
  given = subst (λ m. Every (IsBelow m) new.sessions) (sym n) (subst (Every (IsBelow old.project.next)) (sym s) k.given);
}

pub equal_keeps : (old new : Desk) → IsKeeping old → new ≡ old → IsKeeping new
equal_keeps old new k e = subst IsKeeping (sym e) k

-- ---- a session comes
unnamed : (ss : List Session) (name : List ℕ) → is_some (session_of ss name) ≡ false → IsUnnamed ss name
unnamed [] name e = tt
unnamed (o ∷ ss) name e = by (bytes_eq o.name name) refl e (λ r. unnamed ss name r)
  where
    by : (b : Bool) → bytes_eq o.name name ≡ b → is_some (if b then Some o else session_of ss name) ≡ false
        → (is_some (session_of ss name) ≡ false → IsUnnamed ss name) → IsUnnamed (o ∷ ss) name
    by true k e r = cc
    by false k e r = (other_name o.name name k, r e)

each_opened : (P : Session → Type 0) (ss : List Session) (name : List ℕ) → P (opened name) → Every P ss → Every P (with_opened ss name)
each_opened P [] name p h = (p, tt)
each_opened P (o ∷ ss) name p h = by (is_below name o.name) (each_opened P ss name p h.1)
  where
    by : (b : Bool) → Every P (with_opened ss name) → Every P (if b then opened name ∷ o ∷ ss else o ∷ with_opened ss name)
    by true r = (p, h)
    by false r = (h.0, r)

pub begun_keeps : (editor : List ℕ) (old new : Desk) → IsKeeping old → is_open old editor ≡ false
    → new ≡ record old { sessions = with_opened old.sessions editor } → IsKeeping new
begun_keeps editor old new k free d =
    let m : Desk = record { project = old.project; sessions = with_opened old.sessions editor } in
    let here : IsKeeping m = record {
      apart = opened_apart old.sessions editor k.apart (unnamed old.sessions editor free);
      chained = each_opened (IsChained (feature_at old.project.features)) old.sessions editor refl k.chained;
      given = each_opened (IsBelow old.project.next) old.sessions editor (record { done = tt; undone = tt }) k.given;
    } in
    equal_keeps m new here d

pub ended_keeps : (editor : List ℕ) (old new : Desk) → IsKeeping old → new ≡ record old { sessions = without old.sessions editor }
    → IsKeeping new
ended_keeps editor old new k d =
    let m : Desk = record { project = old.project; sessions = without old.sessions editor } in
    let here : IsKeeping m = record {
      apart = without_apart old.sessions editor k.apart;
      chained = every_without (IsChained (feature_at old.project.features)) old.sessions editor k.chained;
      given = every_without (IsBelow old.project.next) old.sessions editor k.given;
    } in
    equal_keeps m new here d

-- ---- a session is discarded
behind_has : (P : Session → Type 0) (o : Session) (ss : List Session) (name : List ℕ) → o.name ≡ name → Every (AreApart o) ss
    → Every (λ (x : Session). x.name ≢ name → P x) ss → Every P ss
behind_has P o [] name e a h = tt
behind_has P o (x ∷ ss) name e a h = (h.0 (λ d. a.0.names (e ∙ sym d)), behind_has P o ss name e a.1 h.1)

pub others_have : (P : Session → Type 0) (ss : List Session) (name : List ℕ) → AreAllApart ss
    → Every (λ (x : Session). x.name ≢ name → P x) ss → Every P (without ss name)
others_have P [] name a h = tt
others_have P (o ∷ ss) name a h = by (bytes_eq o.name name) refl (others_have P ss name a.1 h.1)
  where
    by : (b : Bool) → bytes_eq o.name name ≡ b → Every P (without ss name) → Every P (if b then ss else o ∷ without ss name)
    by true e r = behind_has P o ss name (same_name o.name name e) a.0 h.1
    by false e r = (h.0 (other_name o.name name e), r)

taken_next : (ts : List EditStep) (old new : Project) → AreTakenBack ts old new → new.next ≡ old.next
taken_next [] old new t = ap (λ (p : Project). p.next) t
taken_next (x ∷ ts) old new t = t.2.next ∙ taken_next ts old t.0 t.1

taken_chained : (ts : List EditStep) (old new : Project) (o : Session) → AreTakenBack ts old new → HoldsNoneOf ts o
    → IsChained (feature_at old.features) o → IsChained (feature_at new.features) o
taken_chained [] old new o t n c = subst (λ (p : Project). IsChained (feature_at p.features) o) (sym t) c
taken_chained (x ∷ ts) old new o t n c = other_chained (feature_at t.0.features) (feature_at new.features) x.handle o
    t.2.edit.features.others n.0 (taken_chained ts old t.0 o t.1 n.1 c)

each_taken : (ts : List EditStep) (old new : Project) (ss : List Session) → AreTakenBack ts old new → Every (HoldsNoneOf ts) ss
    → Every (IsChained (feature_at old.features)) ss → Every (IsChained (feature_at new.features)) ss
each_taken ts old new [] t n c = tt
each_taken ts old new (o ∷ ss) t n c = (taken_chained ts old new o t n.0 c.0, each_taken ts old new ss t n.1 c.1)

pub none_each : (s : Session) (name : List ℕ) (ss : List Session) → s.name ≡ name → IsApartFromOthers ss s
    → Every (λ (x : Session). x.name ≢ name → HoldsNoneOf s.done x) ss
none_each s name [] e a = tt
none_each s name (o ∷ ss) e a = ((λ n. apart_none o s (a.0 (λ d. n (d ∙ e)))), none_each s name ss e a.1)

pub discard_keeps : (editor : List ℕ) (old new : Desk) → IsKeeping old → IsDiscarded editor old new → IsKeeping new
discard_keeps editor old new k d =
    let a = named_apart old.sessions editor d.session d.there k.apart in
    let rest = without old.sessions editor in
    let none = others_have (HoldsNoneOf d.session.done) old.sessions editor k.apart (none_each d.session editor old.sessions a.0 a.1) in
    let c = each_taken d.session.done old.project new.project rest d.taken_back none
    (every_without (IsChained (feature_at old.project.features)) old.sessions editor k.chained) in
    let g = every_without (IsBelow old.project.next) old.sessions editor k.given in
    record {
      apart = subst AreAllApart (sym d.sessions) (without_apart old.sessions editor k.apart);
      chained = subst (Every (IsChained (feature_at new.project.features))) (sym d.sessions) c;
      given = subst (λ m. Every (IsBelow m) new.sessions) (sym (taken_next d.session.done old.project new.project d.taken_back))
          (subst (Every (IsBelow old.project.next)) (sym d.sessions) g);
    }

-- ---- a handle that is new
none_at : (n : ℕ) (ts us : List EditStep) → Every (λ (t : EditStep). t.handle < n) ts → Every (λ (t : EditStep). t.handle < n) us
    → list_any (λ (t : EditStep). eqb t.handle n) (ts ++ us) ≡ false
none_at n [] [] h g = refl
none_at n [] (u ∷ us) h g = let o : eqb u.handle n ≡ false = let l = g.0 in grind (arith, nat_tests) in rw (o, none_at n [] us tt g.1) refl
none_at n (t ∷ ts) us h g = let o : eqb t.handle n ≡ false = let l = h.0 in grind (arith, nat_tests) in rw (o, none_at n ts us h.1 g) refl

pub fresh_alone : (n : ℕ) (name : List ℕ) (ss : List Session) → Every (IsBelow n) ss → IsAlone ss name n
fresh_alone n name [] h = tt
fresh_alone n name (o ∷ ss) h = ((λ k. none_at n o.done o.undone h.0.done h.0.undone), fresh_alone n name ss h.1)

more_below : (n m : ℕ) (ts : List EditStep) → n ≤ m → Every (λ (t : EditStep). t.handle < n) ts → Every (λ (t : EditStep). t.handle < m) ts
more_below n m [] l h = tt
more_below n m (t ∷ ts) l h = (omega (arith, h.0, l), more_below n m ts l h.1)

each_below : (n m : ℕ) (ss : List Session) → n ≤ m → Every (IsBelow n) ss → Every (IsBelow m) ss
each_below n m [] l h = tt
each_below n m (o ∷ ss) l h = (
  record { done = more_below n m o.done l h.0.done; undone = more_below n m o.undone l h.0.undone },
  each_below
      n m ss l h.1,
)

pub added_keeps : (editor : List ℕ) (class subtype : ℕ) (shape : Shape) (h : ℕ) (old new : Desk) → IsKeeping old
    → LeavesNoted editor (added_step h class subtype shape) (IsFeatureAdded class subtype shape h) old new → IsKeeping new
added_keeps editor class subtype shape h old new k d =
    let f = feature_at old.project.features in
    let e = feature_at new.project.features in
    let s = d.0 in let ch = d.1.session in
    let x : Option Feature = Some (feature_of h class subtype shape) in
    let t : EditStep = record { handle = h; before = None; after = x } in
    let p = d.1.project in
    let set = p.edit.features in
    let a = named_apart old.sessions editor s ch.there k.apart in
    let c = named_has (IsChained f) old.sessions editor s ch.there k.chained in
    let b = named_has (IsBelow old.project.next) old.sessions editor s ch.there k.given in
    let l : old.project.next ≤ new.project.next = let n = p.next in omega (arith, n) in
    let mine : IsAlone old.sessions s.name h = subst (IsAlone old.sessions s.name) (sym p.number)
    (fresh_alone old.project.next s.name old.sessions k.given) in
    let noted : IsChained e (with_step s t) = subst (λ o. IsChained e (with_step s (record { handle = h; before = o; after = x }))) p.absent
    (note_chained f e s h x (set_to h x old.project.features new.project.features set) c) in
    changed_keeps old new editor s (with_step s t) h x k ch set (each_below old.project.next new.project.next old.sessions l k.given)
    mine (note_apart s t old.sessions mine a.1) noted
    (record {
      done = end_below new.project.next s.done t (more_below old.project.next new.project.next s.done l b.done) (let n = p.next
          in let m = p.number in omega (arith, n, m));
      undone = tt;
    })
