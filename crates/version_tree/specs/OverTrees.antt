-- The current version of a tree as a ground.
--
-- IsTreeSwap M h before after t u     so the topology of the current version is changed, and what stands beside it stays
use Rattle.std.specs.Prelude.{◌≡◌, ℕ, Option}
use Rattle.topology_terms.specs.Feature.{Feature, feature_at}
use Rattle.topology_terms.specs.Meaning.{Meaning}
use Rattle.edit_session.specs.Grounds.{IsMayStand}
use Rattle.edit_session.specs.OverTopologies.{IsGroundSwap}
use Rattle.edit_session.specs.OverTopologies as grounds
use Rattle.std.proofs.Common.{ap, subst, sym}
use Rattle.version_terms.specs.Versions.{Tree}
use Rattle.version_terms.specs.VersionChanges.{IsAside}

pub record IsTreeSwap (M : Meaning) (h : ℕ) (before after : Option Feature) (t u : Tree) : Type 0 where
  pub swap : IsGroundSwap M h before after t.current.project u.current.project
  pub aside : IsAside t u

abbrev pub May : Tree → ℕ → Option Feature → Type 0
May t h x = IsMayStand t.current.project.classes t.current.project.next h x

pub may_again : (M : Meaning) (h : ℕ) (before after : Option Feature) (t u : Tree) → May t h after → IsTreeSwap M h before after t u
    → May u h before
may_again M h before after t u m w = grounds.may_again M h before after t.current.project u.current.project m w.swap

pub may_still : (M : Meaning) (h : ℕ) (before after : Option Feature) (t u : Tree) (k : ℕ) (x : Option Feature)
    → IsTreeSwap M h before after t u → May t k x → May u k x
may_still M h before after t u k x w m = grounds.may_still M h before after t.current.project u.current.project k x w.swap m

pub same_live : (t u : Tree) (k : ℕ) → u ≡ t → feature_at u.current.project.features k ≡ feature_at t.current.project.features k
same_live t u k e = ap (λ (s : Tree). feature_at s.current.project.features k) e

pub same_may : (t u : Tree) (k : ℕ) (x : Option Feature) → u ≡ t → May t k x → May u k x
same_may t u k x e m = subst (λ (s : Tree). May s k x) (sym e) m
