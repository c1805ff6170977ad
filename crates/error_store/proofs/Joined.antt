-- Runs put in behind all others, one after another.
use Rattle.std.proofs.Common.{◌≡◌, List, [], ◌∷◌, ◌++◌, append_assoc, refl, sym, ◌∙◌, ap}
use Rattle.std.specs.BTreeMap.{insert_entry}
use Rattle.std.specs.Global.{Vec}
use Rattle.std.specs.List.Sorted.{IsStrictlySortedBy}
use Rattle.std.specs.Map.{keys_of, values_of}
use Rattle.std.specs.Ordering.{ordering_reverse}
use Rattle.std.specs.declared.cmp.Ordering.TheVariants.{Less, Greater}
use Rattle.std.proofs.lemmas.List.{append-nil}
use Rattle.std.proofs.lemmas.Map.Keys.{sorted_head, sorted_tail}
use Rattle.plane_terms.specs.Lists.{Every}
use Rattle.plane_terms.proofs.ListLemmas.{every_right}
use Rattle.topology_terms.specs.Entry.{Entry}
use Rattle.error_store.specs.Pairs.{pair_cmp, entries_in}
use Rattle.error_store.specs.declared.pair.Pair.{Pair}
use Rattle.error_store.proofs.Pairs.{Run, pairs_total}

-- the pair stands behind all of these
abbrev pub IsAbove : Pair → List Pair → Type 0
IsAbove p ps = Every (λ (q : Pair). pair_cmp q p ≡ Less) ps

pub keys_above : (rs : List Run) (p : Pair) → Every (λ (q : Run). pair_cmp q.0 p ≡ Less) rs → IsAbove p (keys_of rs)
keys_above [] p h = tt
keys_above (q ∷ rs) p h = (h.0, keys_above rs p h.1)

above : (p q : Pair) → pair_cmp q p ≡ Less → pair_cmp p q ≡ Greater
above p q l = pairs_total.antisymm p q ∙ ap ordering_reverse l

-- what is put in behind all stands last
pub insert_above : (rs : List Run) (p : Pair) (v : Vec Entry) → IsAbove p (keys_of rs) → insert_entry pair_cmp rs p v ≡ rs ++ (p, v) ∷ []
insert_above [] p v l = refl
insert_above (q ∷ rs) p v l = rw (above p q.0 l.0) (ap (λ xs. q ∷ xs) (insert_above rs p v l.1))

pub joined_more : (rs : List Run) (p : Pair) (v : Vec Entry) → entries_in (values_of (rs ++ (p, v) ∷ [])) ≡ entries_in (values_of rs) ++ v.items
joined_more [] p v = append-nil v.items
joined_more (q ∷ rs) p v = ap (λ es. q.1.items ++ es) (joined_more rs p v) ∙ sym (append_assoc q.1.items (entries_in (values_of rs)) v.items)

pub keys_more : (rs : List Run) (p : Pair) (v : Vec Entry) → keys_of (rs ++ (p, v) ∷ []) ≡ keys_of rs ++ p ∷ []
keys_more [] p v = refl
keys_more (q ∷ rs) p v = ap (λ ps. q.0 ∷ ps) (keys_more rs p v)

-- of pairs in order each is behind those before it
pub above_front : (ps : List Pair) (p : Pair) (qs : List Pair) → IsStrictlySortedBy pair_cmp (ps ++ p ∷ qs) → IsAbove p ps
above_front [] p qs s = tt
above_front (q ∷ ps) p qs s = (
  (every_right (λ (x : Pair). pair_cmp q x ≡ Less) ps (p ∷ qs) (sorted_head pair_cmp q (ps ++ p ∷ qs) s)).0,
  above_front ps p qs (sorted_tail pair_cmp q (ps ++ p ∷ qs) s),
)
