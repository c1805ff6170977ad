-- What a store holds.
--
-- Stored          the classes, numbered from 1; the live features; the next handle; for how many features more there is room
-- IsSame s t      the same classes, features and next handle; room apart, which nothing shows
use Rattle.std.specs.Prelude.{◌≡◌, ℕ, List}
use Rattle.topology_terms.specs.Feature.{Class, Feature}

pub record Stored : Type 0 where
  pub classes : List Class
  pub features : List Feature
  pub next : ℕ
  pub room : ℕ

pub record IsSame (s t : Stored) : Type 0 where
  pub classes : t.classes ≡ s.classes
  pub features : t.features ≡ s.features
  pub next : t.next ≡ s.next
