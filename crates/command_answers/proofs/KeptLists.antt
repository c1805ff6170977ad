-- The kept sessions, by name: what each has is had by those that change, come and go; and what is seen of them.
use Rattle.std.proofs.Common.{ℕ, ◌≡◌, Bool, true, false, List, [], ◌∷◌, ◌++◌, length, suc, Option, Some, None, refl, sym, ◌∙◌, ap, subst, eqb}
use Rattle.std.specs.List.{list_any}
use Rattle.std.specs.Option.{option_map}
use Rattle.std.specs.Prelude.{if◌then◌else◌, bytes_eq, find, is_some, ◌||◌}
use Rattle.std.proofs.lemmas.Slice.Eq.{bytes_eq-Decides}
use Rattle.plane_terms.specs.Lists.{Every}
use Rattle.topology_terms.specs.Feature.{Feature}
use Rattle.topology_terms.specs.Session.{EditStep, Session, session_of, has_step, holder}
use Rattle.session_terms.specs.Kept.{KeptStep, KeptSession, set_at, done_of, undone_of, seen_session, seen}
use Rattle.session_terms.specs.KeptChanges.{kept_named, with_kept, without_kept, with_kept_opened, is_below, has_kept_step, kept_holder}
use Rattle.session_terms.proofs.Seen.{seen_named, same_name}

-- ---- what each session has
pub named_has : (P : KeptSession → Type 0) (ss : List KeptSession) (name : List ℕ) (s : KeptSession) → kept_named ss name ≡ Some s
    → Every P ss → P s
named_has P [] name s e h = cc
named_has P (o ∷ ss) name s e h = by (bytes_eq o.name name) e (λ r. named_has P ss name s r h.1)
  where
    by : (b : Bool) → (if b then Some o else kept_named ss name) ≡ Some s → (kept_named ss name ≡ Some s → P s) → P s
    by true e r = let same : o ≡ s = cc in subst P same h.0
    by false e r = r e

pub with_has : (P : KeptSession → Type 0) (ss : List KeptSession) (u : KeptSession) → Every P ss → P u → Every P (with_kept ss u)
with_has P [] u h p = tt
with_has P (o ∷ ss) u h p = by (bytes_eq o.name u.name) (with_has P ss u h.1 p)
  where
    by : (b : Bool) → Every P (with_kept ss u) → Every P (if b then u ∷ ss else o ∷ with_kept ss u)
    by true r = (p, h.1)
    by false r = (h.0, r)

pub without_has : (P : KeptSession → Type 0) (ss : List KeptSession) (name : List ℕ) → Every P ss → Every P (without_kept ss name)
without_has P [] name h = tt
without_has P (o ∷ ss) name h = by (bytes_eq o.name name) (without_has P ss name h.1)
  where
    by : (b : Bool) → Every P (without_kept ss name) → Every P (if b then ss else o ∷ without_kept ss name)
    by true r = h.1
    by false r = (h.0, r)

pub opened_has : (P : KeptSession → Type 0) (ss : List KeptSession) (s : KeptSession) → P s → Every P ss → Every P (with_kept_opened ss s)
opened_has P [] s p h = (p, tt)
opened_has P (o ∷ ss) s p h = by (is_below s.name o.name) (opened_has P ss s p h.1)
  where
    by : (b : Bool) → Every P (with_kept_opened ss s) → Every P (if b then s ∷ o ∷ ss else o ∷ with_kept_opened ss s)
    by true r = (p, h)
    by false r = (h.0, r)

-- ---- the session of a name, once it has changed
pub name_of : (ss : List KeptSession) (name : List ℕ) (s : KeptSession) → kept_named ss name ≡ Some s → s.name ≡ name
name_of [] name s e = cc
name_of (o ∷ ss) name s e = by (bytes_eq o.name name) refl e (λ r. name_of ss name s r)
  where
    by : (b : Bool) → bytes_eq o.name name ≡ b → (if b then Some o else kept_named ss name) ≡ Some s
        → (kept_named ss name ≡ Some s → s.name ≡ name) → s.name ≡ name
    by true k e r = let same : o ≡ s = cc in ap (λ (x : KeptSession). x.name) (sym same) ∙ same_name o.name name k
    by false k e r = r e

own_name : (m : List ℕ) → bytes_eq m m ≡ true
own_name m = (bytes_eq-Decides m m).1 refl

-- the session that changed is the one of the name
pub now_named : (ss : List KeptSession) (name : List ℕ) (s u : KeptSession) → kept_named ss name ≡ Some s → u.name ≡ name
    → kept_named (with_kept ss u) name ≡ Some u
now_named [] name s u e n = cc
now_named (o ∷ ss) name s u e n = rw (ap (bytes_eq o.name) n) (by (bytes_eq o.name name) refl e (λ r. now_named ss name s u r n))
  where
    by : (b : Bool) → bytes_eq o.name name ≡ b → (if b then Some o else kept_named ss name) ≡ Some s
        → (kept_named ss name ≡ Some s → kept_named (with_kept ss u) name ≡ Some u)
        → kept_named (if b then u ∷ ss else o ∷ with_kept ss u) name ≡ Some u
    by true k e r = rw (n, own_name name) refl
    by false k e r = rw k (r e)

-- a second change of it stands for both
pub with_twice : (ss : List KeptSession) (m u : KeptSession) → u.name ≡ m.name → with_kept (with_kept ss m) u ≡ with_kept ss u
with_twice [] m u n = refl
with_twice (o ∷ ss) m u n = by (bytes_eq o.name m.name) refl (with_twice ss m u n)
  where
    by : (b : Bool) → bytes_eq o.name m.name ≡ b → with_kept (with_kept ss m) u ≡ with_kept ss u
        → with_kept (if b then m ∷ ss else o ∷ with_kept ss m) u ≡ with_kept (o ∷ ss) u
    by true k r = rw (n, own_name m.name, k) refl
    by false k r = let q : bytes_eq o.name u.name ≡ false = ap (bytes_eq o.name) n ∙ k in rw q (ap (λ xs. o ∷ xs) r)

-- the session itself changes nothing
pub with_same : (ss : List KeptSession) (name : List ℕ) (s : KeptSession) → kept_named ss name ≡ Some s → with_kept ss s ≡ ss
with_same [] name s e = refl
with_same (o ∷ ss) name s e = by (bytes_eq o.name name) refl e (λ r. with_same ss name s r)
  where
    by : (b : Bool) → bytes_eq o.name name ≡ b → (if b then Some o else kept_named ss name) ≡ Some s
        → (kept_named ss name ≡ Some s → with_kept ss s ≡ ss) → with_kept (o ∷ ss) s ≡ o ∷ ss
    by true k e r = let same : o ≡ s = cc in rw (← same, own_name o.name) refl
    by false k e r =
        let q : bytes_eq o.name s.name ≡ false = ap (bytes_eq o.name) (name_of ss name s e) ∙ k in
        rw q (ap (λ xs. o ∷ xs) (r e))

-- ---- what is seen of them
is_some_map : {A B : Type 0} (f : A → B) (o : Option A) → is_some (option_map f o) ≡ is_some o
is_some_map f None = refl
is_some_map f (Some x) = refl

pub open_seen : (at : ℕ → Option Feature) (ss : List KeptSession) (name : List ℕ)
    → is_some (session_of (seen at ss) name) ≡ is_some (kept_named ss name)
open_seen at ss name = ap is_some (seen_named at ss name) ∙ is_some_map (seen_session at) (kept_named ss name)

pub length_seen : (at : ℕ → Option Feature) (ss : List KeptSession) → length (seen at ss) ≡ length ss
length_seen at [] = refl
length_seen at (s ∷ ss) = ap suc (length_seen at ss)

any_seen : (at bt : ℕ → Option Feature) (h : ℕ) (ts us : List KeptStep) → list_any (λ (t : EditStep). eqb t.handle h)
    (done_of at ts ++ undone_of bt us) ≡ list_any (λ (t : KeptStep). eqb t.handle h) (ts ++ us)
any_seen at bt h [] [] = refl
any_seen at bt h [] (u ∷ us) = ap (λ b. eqb u.handle h || b) (any_seen at (set_at bt u.handle u.kept) h [] us)
any_seen at bt h (t ∷ ts) us = ap (λ b. eqb t.handle h || b) (any_seen at bt h ts us)

has_seen : (at : ℕ → Option Feature) (s : KeptSession) (h : ℕ) → has_step (seen_session at s) h ≡ has_kept_step s h
has_seen at s h = any_seen at at h s.done s.undone

pub holder_seen : (at : ℕ → Option Feature) (ss : List KeptSession) (h : ℕ) → holder (seen at ss) h ≡ kept_holder ss h
holder_seen at [] h = refl
holder_seen at (s ∷ ss) h = rw (has_seen at s h) (by (has_kept_step s h) (holder_seen at ss h))
  where
    by : (b : Bool) → holder (seen at ss) h ≡ kept_holder ss h
        → option_map (λ (x : Session). x.name) (if b then Some (seen_session at s) else find (λ (x : Session). has_step x h) (seen at ss))
        ≡ option_map (λ (x : KeptSession). x.name) (if b then Some s else find (λ (x : KeptSession). has_kept_step x h) ss)
    by true r = refl
    by false r = r
