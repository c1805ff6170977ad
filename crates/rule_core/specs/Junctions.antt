-- The handles of features that are kept for places where many meet.
--
-- most_places       handles are kept for so many places, at most
-- handles_at js q    the handles that are kept for the place q, none where nothing is; js has the pairs of a place and its handles, the most
--                   recently used first
-- after_ask js q     after the handles for the place q were asked for: where there are any, their pair goes to the front
-- after_put js q hs  once these are kept for the place q: they go first, and what was used least recently goes where there is too much
use Rattle.std.specs.Prelude.{ℕ, List, []}
use Rattle.std.specs.Global.{Vec}
use Rattle.std.specs.Map.{lookup}
use Rattle.std.specs.Option.{option_map_or}
use Rattle.lru.specs.LruCache.{lru_cache, promoted, put_entries}
use Rattle.plane_terms.specs.Point.{Place, same_place}

abbrev pub most_places : ℕ
most_places = 1024

abbrev pub handles_at : List (Place × Vec ℕ) → Place → List ℕ
handles_at js q = option_map_or (λ (v : Vec ℕ). v.items) (lookup (same_place q) js) []

abbrev pub after_ask : List (Place × Vec ℕ) → Place → List (Place × Vec ℕ)
after_ask js q = promoted (same_place q) js

abbrev pub after_put : List (Place × Vec ℕ) → Place → Vec ℕ → List (Place × Vec ℕ)
after_put js q hs = put_entries same_place (lru_cache js most_places) q hs
