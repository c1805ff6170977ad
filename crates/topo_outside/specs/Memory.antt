-- Sources, sinks and shelves in memory, and the calls of theirs that fail by a list of their numbers.
--
-- counted n              one call more; the count stays at the greatest u64
-- is_failing n failing   the call after n calls is one of those that fail
-- is_idle n failing idle the call after n calls is one of those that take nothing, and none of those that fail
-- held_in map            what stands in the map under each name
use Rattle.std.specs.Prelude.{ℕ, ◌+◌, ◌-◌, ◌^◌, ◌==◌, min, Bool, not, ◌&&◌, List, String, option_map}
use Rattle.std.specs.BTreeMap.{BTreeMap, get_by_text}
use Rattle.std.specs.List.{list_any}
use Rattle.std.specs.declared.alloc.Global.{Global}
use Rattle.std.specs.declared.vec.Vec.{Vec}
use Rattle.outside_terms.specs.Shelves.{Held}

abbrev pub counted : ℕ → ℕ
counted n = min (n + 1) (2 ^ 64 - 1)

abbrev pub is_failing : ℕ → List ℕ → Bool
is_failing n failing = list_any (λ k. k == counted n) failing

abbrev pub is_idle : ℕ → List ℕ → List ℕ → Bool
is_idle n failing idle = is_failing n idle && not (is_failing n failing)

abbrev pub held_in : BTreeMap (String Global) (Vec ℕ Global) → Held
held_in map name = option_map (λ v. v.items) (get_by_text map name)
