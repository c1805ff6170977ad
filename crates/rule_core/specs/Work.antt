-- What a work is seen as, and what a look makes of it.
--
-- Work             how many judgements were counted, how often a look found cells, and of each region what is kept: the pairs of a handle
--                  and what was made of its polygon, the most recently used first; and the handles that are kept for places
-- unused           nothing was judged or found, and nothing is kept
-- kept_of r w      the pairs of the region r
-- entries_of o     those of one region, none where nothing was ever kept of it
-- found_again r w h    after a look for the region r that found cells for the handle h: it is counted, up to the greatest number of 64
--                  bits, and the pair went to the front
-- after_look r b w h   after any look: where it found nothing, nothing changed
-- places_of o      the handles kept for places, none where none ever were
-- asked_at q w     after the handles for the place q were asked for
-- kept_for q hs w  once these handles are kept for the place q
use Rattle.std.specs.Prelude.{ℕ, Bool, true, false, List, [], Option, nat_eq}
use Rattle.std.specs.Global.{Vec}
use Rattle.std.specs.Option.{option_map_or}
use Rattle.plane_terms.specs.Point.{Place}
use Rattle.lru.specs.LruCache.{promoted}
use Rattle.topology_terms.specs.Counts.{raised}
use Rattle.rule_core.specs.Junctions.{after_ask, after_put}
use Rattle.rule_core.specs.Kept.{Keeping, KeptCells}
use Rattle.rule_core.specs.declared.region.Region.{Region}
use Rattle.rule_core.specs.declared.region.Region.TheVariants.{Inside, Outside}

pub record Work : Type 0 where
  pub judged : ℕ
  pub hits : ℕ
  pub insides : List (ℕ × KeptCells)
  pub outsides : List (ℕ × KeptCells)
  pub junctions : List (Place × Vec ℕ)

abbrev pub unused : Work
unused = record { judged = 0; hits = 0; insides = []; outsides = []; junctions = [] }

abbrev pub kept_of : Region → Work → List (ℕ × KeptCells)
kept_of Inside w = w.insides
kept_of Outside w = w.outsides

abbrev pub entries_of : Option Keeping → List (ℕ × KeptCells)
entries_of o = option_map_or (λ (k : Keeping). k.entries) o []

abbrev pub found_again : Region → Work → ℕ → Work
found_again Inside w h = record { judged = w.judged; hits = raised w.hits 1; insides = promoted (nat_eq h) w.insides; outsides = w.outsides; junctions = w.junctions }
found_again Outside w h = record { judged = w.judged; hits = raised w.hits 1; insides = w.insides; outsides = promoted (nat_eq h) w.outsides; junctions = w.junctions }

abbrev pub after_look : Region → Bool → Work → ℕ → Work
after_look r true w h = found_again r w h
after_look r false w h = w

abbrev pub places_of : Option (List (Place × Vec ℕ)) → List (Place × Vec ℕ)
places_of o = option_map_or (λ (js : List (Place × Vec ℕ)). js) o []

abbrev pub asked_at : Place → Work → Work
asked_at q w = record { judged = w.judged; hits = w.hits; insides = w.insides; outsides = w.outsides; junctions = after_ask w.junctions q }

abbrev pub kept_for : Place → Vec ℕ → Work → Work
kept_for q hs w = record { judged = w.judged; hits = w.hits; insides = w.insides; outsides = w.outsides; junctions = after_put w.junctions q hs }
