-- What a cache has once a pair is put into a front of it.
use Rattle.std.proofs.Common.{◌≡◌, ℕ, List, Some, sym, ◌∙◌, ap, nat_eq}
use Rattle.std.specs.Cmp.{nat_eq_equiv}
use Rattle.std.specs.Map.{lookup}
use Rattle.plane_terms.specs.Point.{Place}
use Rattle.plane_terms.specs.Shape.{Shape}
use Rattle.plane_terms.specs.declared.kind.Kind.TheVariants as kind
use Rattle.lru.specs.LruCache.{LruCache, lru_cache, put_entries}
use Rattle.lru.proofs.CallerLemmas.{lookup-put_entries}
use Rattle.rule_core.specs.Kept.{KeptCells, size_of, most_features, LeavesRoom, KeepsMost, IsPut}
use Rattle.rule_core.specs.declared.region.Region.{Region}

-- a polygon by its kind and its parts
pub polygon_is : (s t : Shape) (ps : List (List (List Place))) → t ≡ s → s.kind ≡ kind.Polygon → ps ≡ t.parts
    → record { kind = kind.Polygon; parts = ps } ≡ s
polygon_is s t ps h e f = ap (λ k. record { kind = k; parts = ps }) (sym e)
    ∙ ap (λ q. record { kind = s.kind; parts = q }) (f ∙ ap (λ (x : Shape). x.parts) h)

module _ (c : LruCache ℕ KeptCells) (h k : ℕ) (v w : KeptCells) (new : List (ℕ × KeptCells)) where
  pub is_found : new ≡ put_entries nat_eq c h v → h ≡ k → v ≡ w → lookup (nat_eq k) new ≡ Some w
  is_found e hk vw = ap (λ es. lookup (nat_eq k) es) e
      ∙ (ap (λ j. lookup (nat_eq j) (put_entries nat_eq c h v)) (sym hk) ∙ (lookup-put_entries nat_eq c h v nat_eq_equiv ∙ ap Some vw))

  pub is_put : (r : Region) (old : List (ℕ × KeptCells)) → LeavesRoom r (size_of w) c.entries → KeepsMost r (size_of w) old c.entries
      → c.cap ≡ most_features r → new ≡ put_entries nat_eq c h v → h ≡ k → v ≡ w → IsPut r old k w new
  is_put r old room most cap e hk vw =
      let whole : c ≡ lru_cache c.entries (most_features r) = ap (λ n. lru_cache c.entries n) cap in
      record {
        left = c.entries;
        room = room;
        most = most;
        put = e ∙ (ap (λ d. put_entries nat_eq d h v) whole ∙ (ap (λ j. put_entries nat_eq (lru_cache c.entries (most_features r)) j v) hk
            ∙ ap (λ x. put_entries nat_eq (lru_cache c.entries (most_features r)) k x) vw));
      }
