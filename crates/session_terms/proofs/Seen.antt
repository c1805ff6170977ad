-- The sessions that are seen, as a step is noted, undone or done again.
--
-- Kept, Sessions are lists by name; `at` is what stands at each handle, `bt` what stands there afterwards.
use Rattle.std.proofs.Common.{ℕ, ◌≡◌, ◌≢◌, Bool, true, false, List, [], ◌∷◌, ◌++◌, Option, Some, refl, sym, ◌∙◌, ap, arith, eqb}
use Rattle.std.proofs.lemmas.Bool.{or_parts}
use Rattle.std.proofs.lemmas.Bool.Decides.{nat_tests}
use Rattle.std.proofs.lemmas.Slice.Eq.{bytes_eq-Decides}
use Rattle.std.specs.List.{list_any}
use Rattle.std.specs.Option.{option_map}
use Rattle.std.specs.Prelude.{if◌then◌else◌, bytes_eq, ◌||◌}
use Rattle.plane_terms.specs.Lists.{Every}
use Rattle.topology_terms.specs.Feature.{Feature}
use Rattle.topology_terms.specs.Session.{EditStep, Session, with_step, session_of}
use Rattle.session_terms.specs.Kept.{KeptStep, KeptSession, set_at, done_of, undone_of, seen_session, seen}
use Rattle.session_terms.specs.KeptChanges.{IsSet, IsKeptUndone, IsKeptRedone, IsKeptNoted, IsSameButRoom, kept_named, with_kept, without_kept, with_kept_opened, is_below}
use Rattle.session_terms.specs.Steps.{IsUndoneTo, opened, with_opened, without, with_session, HoldsNone, AreApart, AreAllApart, IsAlone}
use Rattle.session_terms.proofs.Relation.{AgreeAt, done_same, undone_same, done_more, undone_more}

-- ---- one session
pub undo_seen : (at bt : ℕ → Option Feature) (s u : KeptSession) (t : KeptStep) → IsKeptUndone s t (at t.handle) u
    → IsSet t.handle t.kept at bt
    → IsUndoneTo (seen_session at s) (record { handle = t.handle; before = t.kept; after = at t.handle }) (seen_session bt u)
undo_seen at bt s u t k set = record {
  name = k.name;
  done = ap (done_of at) k.done ∙ done_more bt at u.done t (sym set.here) (λ j n. sym (set.others j n));
  undone = ap (undone_of bt) k.undone ∙ (undone_more bt at (record { handle = t.handle; kept = at t.handle }) s.undone refl
      (λ j n. sym (set.others j n)) ∙ ap (λ b. record { handle = t.handle; before = b; after = at t.handle } ∷ undone_of at s.undone)
      set.here);
}

-- a redo is an undo backwards
pub redo_seen : (at bt : ℕ → Option Feature) (s u : KeptSession) (t : KeptStep) → IsKeptRedone s t (at t.handle) u
    → IsSet t.handle t.kept at bt
    → IsUndoneTo (seen_session bt u) (record { handle = t.handle; before = at t.handle; after = t.kept }) (seen_session at s)
redo_seen at bt s u t k set = record {
  name = sym k.name;
  done = ap (done_of bt) k.done ∙ (done_more at bt s.done (record { handle = t.handle; kept = at t.handle }) refl set.others
      ∙ ap (λ x. done_of at s.done ++ record { handle = t.handle; before = at t.handle; after = x } ∷ []) set.here);
  undone = ap (undone_of at) k.undone ∙ undone_more at bt t u.undone (sym set.here) set.others;
}

pub note_seen : (at bt : ℕ → Option Feature) (s u : KeptSession) (h : ℕ) (x : Option Feature)
    → IsKeptNoted s (record { handle = h; kept = at h }) u → IsSet h x at bt
    → seen_session bt u ≡ with_step (seen_session at s) (record { handle = h; before = at h; after = x })
note_seen at bt s u h x k set =
    let e = ap (done_of bt) k.done ∙ (done_more at bt s.done (record { handle = h; kept = at h }) refl set.others
    ∙ ap (λ y. done_of at s.done ++ record { handle = h; before = at h; after = y } ∷ []) set.here) in
    rw (k.name, e, k.undone) refl

pub same_seen : (at : ℕ → Option Feature) (s u : KeptSession) → IsSameButRoom s u → seen_session at u ≡ seen_session at s
same_seen at s u k = rw (k.name, k.done, k.undone) refl

-- ---- handles at which nothing changes
pub any_parts : (p : EditStep → Bool) (xs ys : List EditStep) → list_any p (xs ++ ys) ≡ false
    → (list_any p xs ≡ false) × (list_any p ys ≡ false)
any_parts p [] ys e = (refl, e)
any_parts p (x ∷ xs) ys e =
    let o = or_parts (p x) (list_any p (xs ++ ys)) e in
    let r = any_parts p xs ys o.1 in
    (rw (o.0, r.0) refl, r.1)

other : (m n : ℕ) → eqb m n ≡ false → m ≢ n
other m n t = λ e. absurd (grind (arith, nat_tests))

agree_done : (at bt : ℕ → Option Feature) (h : ℕ) (f : ℕ → Option Feature) (ts : List KeptStep) → ((k : ℕ) → k ≢ h → bt k ≡ at k)
    → list_any (λ (t : EditStep). eqb t.handle h) (done_of f ts) ≡ false → AgreeAt ts at bt
agree_done at bt h f [] o e = tt
agree_done at bt h f (t ∷ ts) o e =
    let p = or_parts (eqb t.handle h) (list_any (λ (u : EditStep). eqb u.handle h) (done_of f ts)) e in
    (o t.handle (other t.handle h p.0), agree_done at bt h f ts o p.1)

agree_undone : (at bt : ℕ → Option Feature) (h : ℕ) (f : ℕ → Option Feature) (ts : List KeptStep) → ((k : ℕ) → k ≢ h → bt k ≡ at k)
    → list_any (λ (t : EditStep). eqb t.handle h) (undone_of f ts) ≡ false → AgreeAt ts at bt
agree_undone at bt h f [] o e = tt
agree_undone at bt h f (t ∷ ts) o e =
    let p = or_parts (eqb t.handle h) (list_any (λ (u : EditStep). eqb u.handle h) (undone_of (set_at f t.handle t.kept) ts)) e in
    (o t.handle (other t.handle h p.0), agree_undone at bt h (set_at f t.handle t.kept) ts o p.1)

pub other_seen : (at bt : ℕ → Option Feature) (h : ℕ) (s : KeptSession) → ((k : ℕ) → k ≢ h → bt k ≡ at k) → HoldsNone (seen_session at s) h
    → seen_session bt s ≡ seen_session at s
other_seen at bt h s o none =
    let p = any_parts (λ (t : EditStep). eqb t.handle h) (done_of at s.done) (undone_of at s.undone) none in
    let d = done_same at bt s.done (agree_done at bt h at s.done o p.0) in
    let u = undone_same at bt s.undone (agree_undone at bt h at s.undone o p.1) in
    rw (d, u) refl

-- ---- all sessions
pub same_name : (m n : List ℕ) → bytes_eq m n ≡ true → m ≡ n
same_name m n t = (bytes_eq-Decides m n).0 t

pub other_name : (m n : List ℕ) → bytes_eq m n ≡ false → m ≢ n
other_name m n t = λ e. let y : bytes_eq m n ≡ true = (bytes_eq-Decides m n).1 e in absurd cc

-- none of the sessions has a step of the handle
pub all_seen : (at bt : ℕ → Option Feature) (h : ℕ) (ss : List KeptSession) → ((k : ℕ) → k ≢ h → bt k ≡ at k)
    → Every (λ (o : Session). HoldsNone o h) (seen at ss) → seen bt ss ≡ seen at ss
all_seen at bt h [] o none = refl
all_seen at bt h (t ∷ ss) o none = rw (other_seen at bt h t o none.0, all_seen at bt h ss o none.1) refl

pub behind : (s t : Session) (ss : List Session) (h : ℕ) → t.name ≡ s.name → Every (AreApart t) ss → IsAlone ss s.name h
    → Every (λ (o : Session). HoldsNone o h) ss
behind s t [] h e a alone = tt
behind s t (o ∷ ss) h e a alone = (alone.0 (λ d. a.0.names (e ∙ sym d)), behind s t ss h e a.1 alone.1)

-- one session changes with the feature of the handle, and no other one has a step of it
pub seen_with : (at bt : ℕ → Option Feature) (h : ℕ) (s : KeptSession) (ss : List KeptSession) → ((k : ℕ) → k ≢ h → bt k ≡ at k)
    → AreAllApart (seen at ss) → IsAlone (seen at ss) s.name h
    → seen bt (with_kept ss s) ≡ with_session (seen at ss) (seen_session bt s)
seen_with at bt h s [] o apart alone = refl
seen_with at bt h s (t ∷ ss) o apart alone = by (bytes_eq t.name s.name) refl (seen_with at bt h s ss o apart.1 alone.1)
  where
    by : (b : Bool) → bytes_eq t.name s.name ≡ b → seen bt (with_kept ss s) ≡ with_session (seen at ss) (seen_session bt s)
        → seen bt (if b then s ∷ ss else t ∷ with_kept ss s) ≡ (if b then seen_session bt s ∷ seen at ss else seen_session at t ∷
        with_session (seen at ss) (seen_session bt s))
    by true e r = ap (λ x. seen_session bt s ∷ x) (all_seen at bt h ss o (behind (seen_session bt s) (seen_session at t) (seen at ss) h
        (same_name t.name s.name e) apart.0 alone.1))
    by false e r = rw (other_seen at bt h t o (alone.0 (other_name t.name s.name e)), r) refl

-- a session goes, and no feature changes
pub seen_without : (at : ℕ → Option Feature) (ss : List KeptSession) (name : List ℕ)
    → seen at (without_kept ss name) ≡ without (seen at ss) name
seen_without at [] name = refl
seen_without at (t ∷ ss) name = by (bytes_eq t.name name) (seen_without at ss name)
  where
    by : (b : Bool) → seen at (without_kept ss name) ≡ without (seen at ss) name
        → seen at (if b then ss else t ∷ without_kept ss name) ≡ (if b then seen at ss else seen_session at t ∷ without (seen at ss) name)
    by true r = refl
    by false r = ap (λ x. seen_session at t ∷ x) r

-- a session comes
pub seen_opened : (at : ℕ → Option Feature) (ss : List KeptSession) (s : KeptSession) → s.done ≡ [] → s.undone ≡ []
    → seen at (with_kept_opened ss s) ≡ with_opened (seen at ss) s.name
seen_opened at [] s d u = rw (d, u) refl
seen_opened at (t ∷ ss) s d u = by (is_below s.name t.name) (seen_opened at ss s d u)
  where
    by : (b : Bool) → seen at (with_kept_opened ss s) ≡ with_opened (seen at ss) s.name
        → seen at (if b then s ∷ t ∷ ss else t ∷ with_kept_opened ss s) ≡ (if b then opened s.name ∷ seen_session at t ∷ seen at ss else
        seen_session at t ∷ with_opened (seen at ss) s.name)
    by true r = rw (d, u) refl
    by false r = ap (λ x. seen_session at t ∷ x) r

-- the session of a name is seen
pub seen_named : (at : ℕ → Option Feature) (ss : List KeptSession) (name : List ℕ)
    → session_of (seen at ss) name ≡ option_map (λ (s : KeptSession). seen_session at s) (kept_named ss name)
seen_named at [] name = refl
seen_named at (t ∷ ss) name = by (bytes_eq t.name name) (seen_named at ss name)
  where
    by : (b : Bool) → session_of (seen at ss) name ≡ option_map (λ (s : KeptSession). seen_session at s) (kept_named ss name)
        → (if b then Some (seen_session at t) else session_of (seen at ss) name) ≡ option_map (λ (s : KeptSession). seen_session at s)
        (if b then Some t else kept_named ss name)
    by true r = refl
    by false r = r
