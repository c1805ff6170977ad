-- Sessions stay apart as one of them changes, comes or goes.
use Rattle.std.proofs.Common.{ℕ, ◌≡◌, ◌≢◌, Bool, true, false, List, [], ◌∷◌, Some, None, refl, sym, ◌∙◌}
use Rattle.std.proofs.lemmas.Slice.Eq.{bytes_eq-Decides}
use Rattle.std.specs.Prelude.{if◌then◌else◌, bytes_eq, find}
use Rattle.std.specs.Option.{option_map}
use Rattle.plane_terms.specs.Lists.{Every}
use Rattle.topology_terms.specs.Session.{Session, has_step, holder}
use Rattle.session_terms.specs.Steps.{opened, with_opened, with_session, without, AreApart, AreAllApart, IsAlone}
use Rattle.session_terms.specs.KeptChanges.{is_below}
use Rattle.session_terms.proofs.Seen.{same_name, other_name}

own_name : (m : List ℕ) → bytes_eq m m ≡ true
own_name m = (bytes_eq-Decides m m).1 refl

pub apart_back : (s t : Session) → AreApart s t → AreApart t s
apart_back s t a = record { names = λ e. a.names (sym e); steps = λ h k. by (has_step s h) h refl k }
  where
    by : (b : Bool) → (h : ℕ) → has_step s h ≡ b → has_step t h ≡ true → b ≡ false
    by true h e k = let n : has_step t h ≡ false = a.steps h e in absurd cc
    by false h e k = refl

-- ---- one session changes
-- each session of another name is apart from it
abbrev pub IsApartFromOthers : List Session → Session → Type 0
IsApartFromOthers ss s = Every (λ (o : Session). o.name ≢ s.name → AreApart o s) ss

-- a session apart from all stays so
apart_all : (o s : Session) (ss : List Session) → AreApart o s → Every (AreApart o) ss → Every (AreApart o) (with_session ss s)
apart_all o s [] a h = tt
apart_all o s (t ∷ ss) a h = by (bytes_eq t.name s.name) (apart_all o s ss a h.1)
  where
    by : (b : Bool) → Every (AreApart o) (with_session ss s) → Every (AreApart o) (if b then s ∷ ss else t ∷ with_session ss s)
    by true r = (a, h.1)
    by false r = (h.0, r)

-- the session that changes is apart from those behind it, none of which has its name
apart_new : (o s : Session) (ss : List Session) → o.name ≡ s.name → Every (AreApart o) ss → IsApartFromOthers ss s → Every (AreApart s) ss
apart_new o s [] e h a = tt
apart_new o s (t ∷ ss) e h a = (apart_back t s (a.0 (λ d. h.0.names (e ∙ sym d))), apart_new o s ss e h.1 a.1)

pub with_apart : (ss : List Session) (s : Session) → AreAllApart ss → IsApartFromOthers ss s → AreAllApart (with_session ss s)
with_apart [] s h a = tt
with_apart (o ∷ ss) s h a = by (bytes_eq o.name s.name) refl (with_apart ss s h.1 a.1)
  where
    by : (b : Bool) → bytes_eq o.name s.name ≡ b → AreAllApart (with_session ss s)
        → AreAllApart (if b then s ∷ ss else o ∷ with_session ss s)
    by true e r = (apart_new o s ss (same_name o.name s.name e) h.0 a.1, h.1)
    by false e r = (apart_all o s ss (a.0 (other_name o.name s.name e)) h.0, r)

-- ---- a session goes
pub every_without : (P : Session → Type 0) (ss : List Session) (name : List ℕ) → Every P ss → Every P (without ss name)
every_without P [] name h = tt
every_without P (o ∷ ss) name h = by (bytes_eq o.name name) (every_without P ss name h.1)
  where
    by : (b : Bool) → Every P (without ss name) → Every P (if b then ss else o ∷ without ss name)
    by true r = h.1
    by false r = (h.0, r)

pub without_apart : (ss : List Session) (name : List ℕ) → AreAllApart ss → AreAllApart (without ss name)
without_apart [] name h = tt
without_apart (o ∷ ss) name h = by (bytes_eq o.name name) (without_apart ss name h.1)
  where
    by : (b : Bool) → AreAllApart (without ss name) → AreAllApart (if b then ss else o ∷ without ss name)
    by true r = h.1
    by false r = (every_without (AreApart o) ss name h.0, r)

-- ---- a session comes
-- without steps, and no other has its name
abbrev pub IsUnnamed : List Session → List ℕ → Type 0
IsUnnamed ss name = Every (λ (o : Session). o.name ≢ name) ss

fresh_apart : (o : Session) (name : List ℕ) → o.name ≢ name → AreApart o (opened name)
fresh_apart o name n = record { names = n; steps = λ h k. refl }

apart_fresh : (name : List ℕ) (ss : List Session) → IsUnnamed ss name → Every (AreApart (opened name)) ss
apart_fresh name [] n = tt
apart_fresh name (o ∷ ss) n = (apart_back o (opened name) (fresh_apart o name n.0), apart_fresh name ss n.1)

every_opened : (o : Session) (name : List ℕ) (ss : List Session) → AreApart o (opened name) → Every (AreApart o) ss
    → Every (AreApart o) (with_opened ss name)
every_opened o name [] a h = (a, tt)
every_opened o name (t ∷ ss) a h = by (is_below name t.name) (every_opened o name ss a h.1)
  where
    by : (b : Bool) → Every (AreApart o) (with_opened ss name) → Every (AreApart o)
        (if b then opened name ∷ t ∷ ss else t ∷ with_opened ss name)
    by true r = (a, h)
    by false r = (h.0, r)

pub opened_apart : (ss : List Session) (name : List ℕ) → AreAllApart ss → IsUnnamed ss name → AreAllApart (with_opened ss name)
opened_apart [] name h n = (tt, tt)
opened_apart (o ∷ ss) name h n = by (is_below name o.name) (opened_apart ss name h.1 n.1)
  where
    by : (b : Bool) → AreAllApart (with_opened ss name) → AreAllApart (if b then opened name ∷ o ∷ ss else o ∷ with_opened ss name)
    by true r = (apart_fresh name (o ∷ ss) n, h)
    by false r = (every_opened o name ss (fresh_apart o name n.0) h.0, r)

-- ---- who holds a handle
-- no session holds it: none has a step of it
pub free_alone : (ss : List Session) (name : List ℕ) (h : ℕ) → holder ss h ≡ None → IsAlone ss name h
free_alone [] name h e = tt
free_alone (o ∷ ss) name h e = by (has_step o h) refl e (λ r. free_alone ss name h r)
  where
    by : (b : Bool) → has_step o h ≡ b → option_map (λ (s : Session). s.name) (if b then Some o else find (λ (s : Session). has_step s h)
        ss) ≡ None → (holder ss h ≡ None → IsAlone ss name h) → IsAlone (o ∷ ss) name h
    by true k e rest = cc
    by false k e rest = ((λ n. k), rest e)

behind : (o : Session) (ss : List Session) (name : List ℕ) (h : ℕ) → has_step o h ≡ true → Every (AreApart o) ss → IsAlone ss name h
behind o [] name h k a = tt
behind o (t ∷ ss) name h k a = ((λ n. a.0.steps h k), behind o ss name h k a.1)

-- the session of this name holds it: no other has a step of it
pub held_alone : (ss : List Session) (name : List ℕ) (h : ℕ) → AreAllApart ss → holder ss h ≡ Some name → IsAlone ss name h
held_alone [] name h a e = cc
held_alone (o ∷ ss) name h a e = by (has_step o h) refl e (λ r. held_alone ss name h a.1 r)
  where
    by : (b : Bool) → has_step o h ≡ b → option_map (λ (s : Session). s.name) (if b then Some o else find (λ (s : Session). has_step s h)
        ss) ≡ Some name → (holder ss h ≡ Some name → IsAlone ss name h) → IsAlone (o ∷ ss) name h
    by true k e rest = let same : o.name ≡ name = cc in ((λ n. absurd (n same)), behind o ss name h k a.0)
    by false k e rest = ((λ n. k), rest e)
