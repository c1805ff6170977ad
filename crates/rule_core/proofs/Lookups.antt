-- The feature of a handle, as a binary search over a list of references finds it.
use Rattle.std.proofs.Common.{◌≡◌, ℕ, ◌<◌, Bool, true, false, List, [], ◌∷◌, Option, Some, None, refl, Bor, map, cond, ◌∙◌, ap, length, get_or}
use Rattle.std.specs.Prelude.{◌==◌}
use Rattle.std.specs.Option.{option_map}
use Rattle.std.specs.Ordering.{MatchOrdering, ordering_index}
use Rattle.std.specs.declared.cmp.Ordering.{Ordering}
use Rattle.std.specs.declared.cmp.Ordering.TheVariants.{Less, Equal, Greater}
use Rattle.std.specs.List.{HoldsAt}
use Rattle.std.specs.List.Sorted.{IsPartitionPoint, IsNonDecreasingBy}
use Rattle.plane_terms.specs.Lists.{Every}
use Rattle.topology_terms.specs.Keyed.{Keyed, numbered, item_at, IsAscendingBy}
use Rattle.topology_terms.specs.Feature.{Feature, feature_at, IsAscending}
use Rattle.sound_laws.proofs.Keyed.{AreKeys, numbers}
use Rattle.sound_laws.proofs.Searches as searches
use Rattle.sound_laws.proofs.Searches.{order_of}

abbrev pub seen : List (Bor Feature) → List Feature
seen rs = map (λ (r : Bor Feature). r.now) rs

abbrev pub by_seen : Keyed (Bor Feature) ℕ
by_seen = numbered (λ (r : Bor Feature). r.now.handle)

keys : AreKeys by_seen
keys = numbers (λ (r : Bor Feature). r.now.handle)

pub handle_order : ℕ → Bor Feature → Ordering
handle_order h r = order_of by_seen keys r.now.handle h

pub ordered_as : (o : Ordering) (r : Bor Feature) (h : ℕ) → MatchOrdering o (r.now.handle < h) (r.now.handle ≡ h) (h < r.now.handle) → o
    ≡ handle_order h r
unfolding handle_order
ordered_as o r h s = searches.ordered_as by_seen keys o r.now.handle h s

every_seen : (m : ℕ) (rs : List (Bor Feature)) → Every (λ (f : Feature). m < f.handle) (seen rs)
    → Every (λ (r : Bor Feature). m < r.now.handle) rs
every_seen m [] u = tt
every_seen m (r ∷ rs) u = (u.0, every_seen m rs u.1)

ascending_seen : (rs : List (Bor Feature)) → IsAscending (seen rs) → IsAscendingBy by_seen rs
ascending_seen [] u = tt
ascending_seen (r ∷ rs) u = (every_seen r.now.handle rs u.0, ascending_seen rs u.1)

picked : (b : Bool) (r : Bor Feature) (o : Option (Bor Feature)) (q : Option Feature) → q ≡ option_map (λ (x : Bor Feature). x.now) o
    → cond b (Some r.now) q ≡ option_map (λ (x : Bor Feature). x.now) (cond b (Some r) o)
picked true r o q e = refl
picked false r o q e = e

at_seen : (rs : List (Bor Feature)) (h : ℕ) → feature_at (seen rs) h ≡ option_map (λ (x : Bor Feature). x.now) (item_at by_seen rs h)
unfolding feature_at
at_seen [] h = refl
at_seen (r ∷ rs) h = picked (r.now.handle == h) r (item_at by_seen rs h) (feature_at (seen rs) h) (at_seen rs h)

pub rises : (rs : List (Bor Feature)) (h : ℕ) → IsAscending (seen rs) → IsNonDecreasingBy (λ r. ordering_index (handle_order h r)) rs
unfolding handle_order
rises rs h u = searches.rises by_seen keys rs h (ascending_seen rs u)

pub found_there : (rs : List (Bor Feature)) (h i : ℕ) (r : Bor Feature) → IsAscending (seen rs) → i < length rs → r ≡ get_or rs i r
    → HoldsAt (λ x. handle_order h x ≡ Equal) rs i → feature_at (seen rs) h ≡ Some r.now
unfolding handle_order
found_there rs h i r u l is o = at_seen rs h
    ∙ ap (option_map (λ (x : Bor Feature). x.now)) (searches.found_there by_seen keys rs h i r (ascending_seen rs u) l is o)

pub not_there : (rs : List (Bor Feature)) (h i : ℕ)
    → IsPartitionPoint (λ r. handle_order h r ≡ Less) (λ r. handle_order h r ≡ Greater) rs i → feature_at (seen rs) h ≡ None
unfolding handle_order
not_there rs h i p = at_seen rs h ∙ ap (option_map (λ (x : Bor Feature). x.now)) (searches.not_there by_seen keys rs h i p)
