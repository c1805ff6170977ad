use Rattle.std.proofs.Common.{◌∙◌, ℕ, ap}
use Rattle.std.specs.Global.{Vec}
use Rattle.lru.specs.LruCache.{LruCache, lru_cache, put_entries}
use Rattle.plane_terms.specs.Point.{Place, same_place}
use Rattle.rule_core.proofs.junctions.Junctions.keep.Goals as goal

pub returns-clause-kept : goal.returns-clause-kept
returns-clause-kept c =
    let cache = c.self.inside.cache in
    let hs = c.args.handles in
    rw (← c.self.view_is) (ap (λ (d : LruCache Place (Vec ℕ)). d.entries) c.in_ok-put.ensures.entries
    ∙ (ap (λ k. put_entries same_place cache k hs) c.key_of.ensures
    ∙ ap (λ n. put_entries same_place (lru_cache cache.entries n) c.args.place hs) c.self.invariant))
