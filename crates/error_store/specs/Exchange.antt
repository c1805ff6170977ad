-- The runs of some subjects that give way to fresh ones.
--
-- IsRemarkedFrom old f n    n is the fresh entry f, with its mark as a replacement of old leaves it
-- HasRoom fresh m           the map m has each pair of the map fresh
-- over o w                  o; or w, where there is none
-- IsSetAt p o old new       at the pair p there is o, and at each other pair what there was
-- KeepsBeside ps old new    at each pair that is none of ps there is what there was
-- AreDropped ps fresh old new   the runs of the pairs ps are gone, but for those at whose pair there is a fresh one; all others stay
-- ArePutIn fresh old new    at each pair there is the fresh run; or the old one, where there is no fresh one
use Rattle.std.specs.Prelude.{◌≡◌, List, Option, None, Some, cond, Contains, IsSome}
use Rattle.std.specs.BTreeMap.{BTreeMap, get, is_at}
use Rattle.std.specs.Global.{Vec}
use Rattle.topology_terms.specs.Entry.{Entry, entry_at}
use Rattle.validation_laws.specs.Replaced.{IsRemarked}
use Rattle.error_store.specs.Pairs.{pair_cmp}
use Rattle.error_store.specs.declared.pair.Pair.{Pair}

abbrev pub IsRemarkedFrom : List Entry → Entry → Entry → Type 0
IsRemarkedFrom old f n = IsRemarked (entry_at old f.rule f.subject f.other) f n

abbrev pub HasRoom : BTreeMap Pair (Vec Entry) → BTreeMap Pair (Vec Entry) → Type 0
HasRoom fresh m = (p : Pair) → IsSome (get pair_cmp fresh p) → IsSome (get pair_cmp m p)

abbrev pub over : Option (Vec Entry) → Option (Vec Entry) → Option (Vec Entry)
over None w = w
over (Some v) w = Some v

abbrev pub IsSetAt : Pair → Option (Vec Entry) → BTreeMap Pair (Vec Entry) → BTreeMap Pair (Vec Entry) → Type 0
IsSetAt p o old new = (q : Pair) → get pair_cmp new q ≡ cond (is_at (pair_cmp p) q) o (get pair_cmp old q)

abbrev pub KeepsBeside : List Pair → BTreeMap Pair (Vec Entry) → BTreeMap Pair (Vec Entry) → Type 0
KeepsBeside ps old new = (p : Pair) → ¬ (Contains ps p) → get pair_cmp new p ≡ get pair_cmp old p

pub record AreDropped (ps : List Pair) (fresh old new : BTreeMap Pair (Vec Entry)) : Type 0 where
  pub kept : KeepsBeside ps old new
  pub left : (p : Pair) → IsSome (get pair_cmp fresh p) → get pair_cmp new p ≡ get pair_cmp old p
  pub gone : (p : Pair) → Contains ps p → get pair_cmp fresh p ≡ None → get pair_cmp new p ≡ None

abbrev pub ArePutIn : BTreeMap Pair (Vec Entry) → BTreeMap Pair (Vec Entry) → BTreeMap Pair (Vec Entry) → Type 0
ArePutIn fresh old new = (p : Pair) → get pair_cmp new p ≡ over (get pair_cmp fresh p) (get pair_cmp old p)
