-- What a binary search by key finds in an ascending list.
use Rattle.std.proofs.Common.{◌≡◌, inl, inr, ℕ, ◌<◌, arith, List, Some, None, length, get_or, slice_get, ap, sym, ◌∙◌}
use Rattle.std.proofs.lemmas.Option.{slice_get_cases}
use Rattle.std.specs.Ordering.{MatchOrdering, ordering_index}
use Rattle.std.specs.declared.cmp.Ordering.{Ordering}
use Rattle.std.specs.declared.cmp.Ordering.TheVariants.{Less, Equal, Greater}
use Rattle.std.specs.List.{HoldsAt}
use Rattle.std.specs.List.Sorted.{IsPartitionPoint, IsNonDecreasingBy}
use Rattle.topology_terms.specs.Entry as terms
use Rattle.topology_terms.specs.Entry.{Entry, by_key, entry_at, IsAscending}
use Rattle.sound_laws.proofs.Searches as searches
use Rattle.sound_laws.proofs.Searches.{order_of}
use Rattle.sound_laws.proofs.Lists.{keys}
use Rattle.error_store.specs.Keys.{Key, key_of, IsBefore}

-- the key, as a list by keys has it
abbrev pub parts : Key → terms.Key
parts k = (k.rule, k.subject, k.other)

-- how an entry's key stands to this one
abbrev pub entry_order : Key → Entry → Ordering
entry_order k e = order_of by_key keys (parts (key_of e)) (parts k)

pub ordered_as : (o : Ordering) (j k : Key) → MatchOrdering o (IsBefore j k) (j ≡ k) (IsBefore k j)
    → o ≡ order_of by_key keys (parts j) (parts k)
ordered_as Less j k h = searches.ordered_as by_key keys Less (parts j) (parts k) h
ordered_as Equal j k h = searches.ordered_as by_key keys Equal (parts j) (parts k) (ap parts h)
ordered_as Greater j k h = searches.ordered_as by_key keys Greater (parts j) (parts k) h

pub rises : (es : List Entry) (k : Key) → IsAscending es → IsNonDecreasingBy (λ e. ordering_index (entry_order k e)) es
rises es k u = searches.rises by_key keys es (parts k) u

pub found_there : (es : List Entry) (k : Key) (i : ℕ) (e : Entry) → IsAscending es → i < length es → e ≡ get_or es i e
    → HoldsAt (λ x. entry_order k x ≡ Equal) es i
    → entry_at es k.rule k.subject k.other ≡ Some e
unfolding entry_at
found_there es k i e u l is o = searches.found_there by_key keys es (parts k) i e u l is o

pub place_found : (es : List Entry) (k : Key) (i : ℕ) → IsAscending es → i < length es → HoldsAt (λ x. entry_order k x ≡ Equal) es i
    → (i < length es) × (slice_get es i ≡ entry_at es k.rule k.subject k.other)
place_found es k i u l o = elim (slice_get_cases es i).1 [
  | inl z ↦ (l, z.2 ∙ sym (found_there es k i z.0 u l (sym z.3) o))
  | inr z ↦ absurd (omega (arith, l, z.0))
]

pub not_there : (es : List Entry) (k : Key) (i : ℕ) → IsPartitionPoint (λ e. entry_order k e ≡ Less) (λ e. entry_order k e ≡ Greater) es i
    → entry_at es k.rule k.subject k.other ≡ None
unfolding entry_at
not_there es k i p = searches.not_there by_key keys es (parts k) i p
