-- Features by handle: the laws of a list that ascends by a key, for `feature_at`.
use Rattle.std.proofs.Common.{◌≡◌, ◌<◌, ℕ, Bool, true, false, List, [], ◌∷◌, ◌++◌, Some, None, length, get_or, sym}
use Rattle.std.specs.Prelude.{cond, ◌==◌}
use Rattle.std.specs.List.{filter}
use Rattle.std.specs.List.{HoldsAt}
use Rattle.std.specs.List.Sorted.{IsPartitionPoint, IsNonDecreasingBy}
use Rattle.std.specs.Ordering.{MatchOrdering, ordering_index}
use Rattle.std.specs.declared.cmp.Ordering.{Ordering}
use Rattle.std.specs.declared.cmp.Ordering.TheVariants.{Less, Equal, Greater}
use Rattle.plane_terms.specs.Lists.{Every}
use Rattle.topology_terms.specs.Feature.{Feature, by_handle, feature_at, IsSetAt, IsAscending}
use Rattle.sound_laws.proofs.Searches as searches
use Rattle.sound_laws.proofs.Searches.{order_of}
use Rattle.sound_laws.proofs.Keyed as keyed
use Rattle.sound_laws.proofs.Keyed.{AreKeys, numbers}
pub use Rattle.sound_laws.proofs.Keyed.{passing}

pub handles : AreKeys by_handle
handles = numbers (λ (f : Feature). f.handle)

abbrev pub AllAbove : ℕ → List Feature → Type 0
AllAbove h F = Every (λ (g : Feature). h < g.handle) F

pub at_handle : (f : Feature) (F : List Feature) (h : ℕ) → (f.handle == h) ≡ true → feature_at (f ∷ F) h ≡ Some f
unfolding feature_at
at_handle f F h t = keyed.at_first by_handle handles f F h t

pub past_handle : (f : Feature) (F : List Feature) (h : ℕ) → (f.handle == h) ≡ false → feature_at (f ∷ F) h ≡ feature_at F h
unfolding feature_at
past_handle f F h t = keyed.past_first by_handle handles f F h t

pub same_handle : (m n : ℕ) → (m == n) ≡ true → m ≡ n
same_handle m n t = handles.tells m n t

pub own_handle : (m : ℕ) → (m == m) ≡ true
own_handle m = handles.own m

-- a handle below all has no feature
pub none_below : (h : ℕ) (F : List Feature) → Every (λ (g : Feature). h < g.handle) F → feature_at F h ≡ None
unfolding feature_at
none_below h F u = keyed.none_after by_handle handles h F u

-- the feature of a handle has that handle
pub handle_of : (F : List Feature) (h : ℕ) (f : Feature) → feature_at F h ≡ Some f → f.handle ≡ h
unfolding feature_at
handle_of F h f e = keyed.key_found by_handle handles F h f e

pub same_features : (F G : List Feature) → IsAscending F → IsAscending G → ((h : ℕ) → feature_at F h ≡ feature_at G h) → F ≡ G
unfolding feature_at
same_features F G u v e = keyed.same_lists by_handle handles F G u v e

-- a feature of a new handle, behind all others, is set there
pub set_end : (F : List Feature) (f : Feature) → feature_at F f.handle ≡ None → IsSetAt f.handle (Some f) F (F ++ f ∷ [])
unfolding feature_at
set_end F f e = record {
  here = keyed.last_here by_handle handles F f f.handle (handles.own f.handle) e;
  others = λ k n. keyed.last_other by_handle handles F f k (keyed.differ by_handle handles f.handle k (λ e. n (sym e)));
}

-- ---- filters
pub ascending_filter : (test : Feature → Bool) (F : List Feature) → IsAscending F → IsAscending (filter test F)
ascending_filter test F u = keyed.ascending_filter by_handle handles test F u

pub past_pick : (b : Bool) (f : Feature) (F : List Feature) (h : ℕ) → (f.handle == h) ≡ false
    → feature_at (cond b (f ∷ F) F) h ≡ feature_at F h
unfolding feature_at
past_pick b f F h t = keyed.past_pick by_handle handles b f F h t

-- a filter of an ascending list has the features that pass
pub feature_at-filter : (test : Feature → Bool) (F : List Feature) (h : ℕ) → IsAscending F
    → feature_at (filter test F) h ≡ passing test (feature_at F h)
unfolding feature_at
feature_at-filter test F h u = keyed.item_filter by_handle handles test F h u

-- and no others
pub of_filter : (test : Feature → Bool) (F : List Feature) (h : ℕ) (f : Feature) → IsAscending F → feature_at (filter test F) h ≡ Some f
    → (feature_at F h ≡ Some f) × (test f ≡ true)
unfolding feature_at
of_filter test F h f u e = keyed.of_filter by_handle handles test F h f u e

-- what passes is kept, whatever the order
pub kept_at : (test : Feature → Bool) (F : List Feature) (h : ℕ) (g : Feature) → feature_at F h ≡ Some g → test g ≡ true
    → feature_at (filter test F) h ≡ Some g
unfolding feature_at
kept_at test F h g e t = keyed.kept_found by_handle handles test F h g e t

-- what holds of each live feature holds of each of the list
pub each_live : (P : Feature → Type 0) (F : List Feature) → IsAscending F → ((h : ℕ) (g : Feature) → feature_at F h ≡ Some g → P g)
    → Every P F
unfolding feature_at
each_live P F u n = keyed.each_found by_handle handles P F u n

-- what holds of each of the list holds of each live feature
pub live_each : (P : Feature → Type 0) (F : List Feature) (h : ℕ) (f : Feature) → Every P F → feature_at F h ≡ Some f → P f
unfolding feature_at
live_each P F h f all e = keyed.every_found by_handle handles P F h f all e

-- ---- a binary search by handle
pub handle_order : ℕ → Feature → Ordering
handle_order h f = order_of by_handle handles f.handle h

pub ordered_as : (o : Ordering) (f : Feature) (h : ℕ) → MatchOrdering o (f.handle < h) (f.handle ≡ h) (h < f.handle) → o ≡ handle_order h f
unfolding handle_order
ordered_as o f h s = searches.ordered_as by_handle handles o f.handle h s

pub rises : (F : List Feature) (h : ℕ) → IsAscending F → IsNonDecreasingBy (λ f. ordering_index (handle_order h f)) F
unfolding handle_order
rises F h u = searches.rises by_handle handles F h u

pub found_there : (F : List Feature) (h i : ℕ) (f : Feature) → IsAscending F → i < length F → f ≡ get_or F i f
    → HoldsAt (λ x. handle_order h x ≡ Equal) F i → feature_at F h ≡ Some f
unfolding handle_order feature_at
found_there F h i f u l is o = searches.found_there by_handle handles F h i f u l is o

pub not_there : (F : List Feature) (h i : ℕ) → IsPartitionPoint (λ f. handle_order h f ≡ Less) (λ f. handle_order h f ≡ Greater) F i
    → feature_at F h ≡ None
unfolding handle_order feature_at
not_there F h i p = searches.not_there by_handle handles F h i p
