-- Of two lists of features that ascend, the one whose features that pass a test the other has too has no more of them.
use Rattle.std.proofs.Common.{◌≡◌, ◌≢◌, inl, inr, ℕ, ◌<◌, ◌≤◌, Bool, true, List, [], ◌∷◌, Some, None, sym, ◌∙◌, arith, length}
use Rattle.std.specs.List.{filter}
use Rattle.std.proofs.lemmas.Bool.Decides.{eqb_tells}
use Rattle.std.proofs.lemmas.Bool.{ne_eqb}
use Rattle.plane_terms.specs.Lists.{how_many}
use Rattle.plane_terms.proofs.ListLemmas.{how_many-filter}
use Rattle.topology_terms.specs.Feature.{Feature, by_handle, feature_at, IsAscending}
use Rattle.sound_laws.proofs.Keyed.{at_own, behind, after_later}
use Rattle.sound_laws.proofs.FeatureLists.{handles, past_handle, handle_of, live_each, ascending_filter, of_filter, kept_at}

-- what P has, Q has
abbrev IsPartOf : List Feature → List Feature → Type 0
IsPartOf P Q = (h : ℕ) (g : Feature) → feature_at P h ≡ Some g → feature_at Q h ≡ Some g

-- of two lists with the same first handle, what is behind
both_behind : (p q : Feature) (P Q : List Feature) → IsAscending (p ∷ P) → q.handle ≡ p.handle → IsPartOf (p ∷ P) (q ∷ Q) → IsPartOf P Q
unfolding feature_at
both_behind p q P Q u e m h g k =
    let l = live_each (λ (x : Feature). p.handle < x.handle) P h g u.0 k in
    let own = handle_of P h g k in
    let after : q.handle < h = omega (arith, l, own, e) in
    sym (past_handle q Q h (handles.apart q.handle h after)) ∙ m h g (behind by_handle handles p P h g u.0 k)

-- a first handle of Q that is not that of P is below all of P
all_behind : (p q : Feature) (P Q : List Feature) → IsAscending (p ∷ P) → IsAscending (q ∷ Q) → q.handle ≢ p.handle
    → IsPartOf (p ∷ P) (q ∷ Q) → IsPartOf (p ∷ P) Q
unfolding feature_at
all_behind p q P Q u v d m h g k =
    let there = sym (past_handle q Q p.handle (ne_eqb q.handle p.handle d)) ∙ m p.handle p (at_own by_handle handles p P) in
    let l = live_each (λ (x : Feature). q.handle < x.handle) Q p.handle p v.0 there in
    let all = live_each (λ (x : Feature). q.handle < x.handle) (p ∷ P) h g (l, after_later by_handle handles q.handle p.handle P l u.0) k in
    let own = handle_of (p ∷ P) h g k in
    let after : q.handle < h = omega (arith, all, own) in
    sym (past_handle q Q h (handles.apart q.handle h after)) ∙ m h g k

part_shorter : (P Q : List Feature) → IsAscending P → IsAscending Q → IsPartOf P Q → length P ≤ length Q
unfolding feature_at
part_shorter [] Q u v m = omega arith
part_shorter (p ∷ P) [] u v m = let x : None ≡ Some p = m p.handle p (at_own by_handle handles p P) in cc
part_shorter (p ∷ P) (q ∷ Q) u v m = elim (eqb_tells q.handle p.handle) [
  | inl e ↦ omega (arith, part_shorter P Q u.1 v.1 (both_behind p q P Q u e.1 m))
  | inr d ↦ omega (arith, part_shorter (p ∷ P) Q u v.1 (all_behind p q P Q u v d.1 m))
]

pub fewer_pass : (test : Feature → Bool) (W V : List Feature) → IsAscending W → IsAscending V
    → ((h : ℕ) (g : Feature) → feature_at W h ≡ Some g → test g ≡ true → feature_at V h ≡ Some g)
    → how_many test W ≤ how_many test V
fewer_pass test W V u v m =
    rw (how_many-filter test W, how_many-filter test V)
    (part_shorter (filter test W) (filter test V) (ascending_filter test W u) (ascending_filter test V v)
    (λ h g k. let w = of_filter test W h g u k in kept_at test V h g (m h g w.0 w.1) w.1))
