-- What each call leaves of what a session keeps.
--
-- IsSet h x at bt       bt has x at h, and what at has elsewhere
-- IsKeptUndone s t x u  the last done step t of s was undone: in u it is the first undone one, and keeps x, which stood there
-- IsKeptRedone s t x u  the first undone step t of s was done again: in u it is the last done one, and keeps x
-- IsKeptNoted s t u     the step t was put last, done, and the undone ones went
-- IsSameButRoom s u     the same name and steps
-- kept_named ss name    the session of this name
-- with_kept ss s, without_kept ss name, with_kept_opened ss name     the session of this name is s; it is gone; it comes, in the order of
-- names
-- has_kept_step s h, kept_holder ss h     the session has a step of the handle; the name of the first one that has
-- IsKeptChange name s u old new     the session of this name was s and is u; the others stay
use Rattle.std.specs.Prelude.{◌≡◌, ◌≢◌, ℕ, Bool, true, false, List, [], ◌∷◌, ◌++◌, Option, Some, find, bytes_eq, ◌==◌, if◌then◌else◌}
use Rattle.std.specs.List.{list_any}
use Rattle.std.specs.Option.{option_map}
use Rattle.std.specs.Ordering.{match_ordering, nat_cmp}
use Rattle.std.specs.Cmp.Lexicographic.{slice_cmp}
use Rattle.topology_terms.specs.Feature.{Feature}
use Rattle.session_terms.specs.Kept.{KeptStep, KeptSession}

pub record IsSet (h : ℕ) (x : Option Feature) (at bt : ℕ → Option Feature) : Type 0 where
  pub here : bt h ≡ x
  pub others : (k : ℕ) → k ≢ h → bt k ≡ at k

pub record IsKeptUndone (s : KeptSession) (t : KeptStep) (x : Option Feature) (u : KeptSession) : Type 0 where
  pub name : u.name ≡ s.name
  pub done : s.done ≡ u.done ++ t ∷ []
  pub undone : u.undone ≡ record { handle = t.handle; kept = x } ∷ s.undone

pub record IsKeptRedone (s : KeptSession) (t : KeptStep) (x : Option Feature) (u : KeptSession) : Type 0 where
  pub name : u.name ≡ s.name
  pub done : u.done ≡ s.done ++ record { handle = t.handle; kept = x } ∷ []
  pub undone : s.undone ≡ t ∷ u.undone

pub record IsKeptNoted (s : KeptSession) (t : KeptStep) (u : KeptSession) : Type 0 where
  pub name : u.name ≡ s.name
  pub done : u.done ≡ s.done ++ t ∷ []
  pub undone : u.undone ≡ []

pub record IsSameButRoom (s u : KeptSession) : Type 0 where
  pub name : u.name ≡ s.name
  pub done : u.done ≡ s.done
  pub undone : u.undone ≡ s.undone

abbrev pub kept_named : List KeptSession → List ℕ → Option KeptSession
kept_named ss name = find (λ (s : KeptSession). bytes_eq s.name name) ss

abbrev pub with_kept : List KeptSession → KeptSession → List KeptSession
with_kept [] s = []
with_kept (o ∷ ss) s = if bytes_eq o.name s.name then s ∷ ss else o ∷ with_kept ss s

abbrev pub without_kept : List KeptSession → List ℕ → List KeptSession
without_kept [] name = []
without_kept (o ∷ ss) name = if bytes_eq o.name name then ss else o ∷ without_kept ss name

abbrev pub is_below : List ℕ → List ℕ → Bool
is_below m n = match_ordering (slice_cmp nat_cmp m n) true false false

-- a new session comes before the first of a greater name
abbrev pub with_kept_opened : List KeptSession → KeptSession → List KeptSession
with_kept_opened [] s = s ∷ []
with_kept_opened (o ∷ ss) s = if is_below s.name o.name then s ∷ o ∷ ss else o ∷ with_kept_opened ss s

abbrev pub has_kept_step : KeptSession → ℕ → Bool
has_kept_step s h = list_any (λ (t : KeptStep). t.handle == h) (s.done ++ s.undone)

abbrev pub kept_holder : List KeptSession → ℕ → Option (List ℕ)
kept_holder ss h = option_map (λ (s : KeptSession). s.name) (find (λ (s : KeptSession). has_kept_step s h) ss)

pub record IsKeptChange (editor : List ℕ) (s u : KeptSession) (old new : List KeptSession) : Type 0 where
  pub there : kept_named old editor ≡ Some s
  pub name : u.name ≡ s.name
  pub sessions : new ≡ with_kept old u
