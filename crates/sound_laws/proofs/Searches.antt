-- What a binary search finds in a list that ascends by a key.
use Rattle.std.proofs.Common.{◌≡◌, ◌⊎◌, inl, inr, ℕ, zero, suc, ◌<◌, ◌≤◌, false, arith, refl, sym, subst, List, [], ◌∷◌, Some, None, length, get_or}
use Rattle.std.specs.Ordering.{MatchOrdering, ordering_index}
use Rattle.std.specs.declared.cmp.Ordering.{Ordering}
use Rattle.std.specs.declared.cmp.Ordering.TheVariants.{Less, Equal, Greater}
use Rattle.std.specs.List.{HoldsAt}
use Rattle.std.specs.List.Sorted.{IsPartitionPoint, IsNonDecreasingBy}
use Rattle.std.proofs.lemmas.Bool.{cases_lt}
use Rattle.plane_terms.proofs.ListLemmas.{every_at, every_by_index}
use Rattle.topology_terms.specs.Keyed.{Keyed, item_at, IsAscendingBy}
use Rattle.sound_laws.proofs.Keyed.{AreKeys, none_lacks, contained_found, apart_later}

module _ {A K : Type 0} (by : Keyed A K) (keys : AreKeys by) where
  never : (k : K) → by.IsBefore k k → ⊥
  never k h = let f = keys.apart k k h in let t = keys.own k in absurd cc

  not_both : (j k : K) → by.IsBefore j k → by.IsBefore k j → ⊥
  not_both j k h l = never j (keys.later j k j h l)

  not_equal : (j k : K) → j ≡ k → by.IsBefore j k → ⊥
  not_equal j k e h = never j (subst (by.IsBefore j) (sym e) h)

  not_equal_later : (j k : K) → j ≡ k → by.IsBefore k j → ⊥
  not_equal_later j k e h = never j (subst (λ i. by.IsBefore i j) (sym e) h)

  -- how the first key stands to the second
  abbrev pub Stands : Ordering → K → K → Type 0
  Stands o j k = MatchOrdering o (by.IsBefore j k) (j ≡ k) (by.IsBefore k j)

  abbrev told : {j k : K} → by.IsBefore j k ⊎ (by.IsBefore k j ⊎ (j ≡ k)) → Ordering
  told (inl l) = Less
  told (inr (inl l)) = Greater
  told (inr (inr e)) = Equal

  unfoldable pub order_of : K → K → Ordering
  order_of j k = told (keys.compare j k)

  stands : (j k : K) → Stands (order_of j k) j k
  unfolding order_of
  stands j k = each (keys.compare j k)
    where
      each : (c : by.IsBefore j k ⊎ (by.IsBefore k j ⊎ (j ≡ k))) → Stands (told c) j k
      each (inl l) = l
      each (inr (inl l)) = l
      each (inr (inr e)) = e

  one_order : (o p : Ordering) (j k : K) → Stands o j k → Stands p j k → o ≡ p
  one_order Less Less j k h l = refl
  one_order Less Equal j k h l = absurd (not_equal j k l h)
  one_order Less Greater j k h l = absurd (not_both j k h l)
  one_order Equal Less j k h l = absurd (not_equal j k h l)
  one_order Equal Equal j k h l = refl
  one_order Equal Greater j k h l = absurd (not_equal_later j k h l)
  one_order Greater Less j k h l = absurd (not_both j k l h)
  one_order Greater Equal j k h l = absurd (not_equal_later j k l h)
  one_order Greater Greater j k h l = refl

  -- whoever tells how two keys stand tells it alike
  pub ordered_as : (o : Ordering) (j k : K) → Stands o j k → o ≡ order_of j k
  ordered_as o j k h = one_order o (order_of j k) j k h (stands j k)

  rises_pair : (o p : Ordering) (i j k : K) → by.IsBefore i j → Stands o i k → Stands p j k → ordering_index o ≤ ordering_index p
  rises_pair Less p i j k h l m = omega arith
  rises_pair Equal Less i j k h l m = absurd (not_both i j h (subst (by.IsBefore j) (sym l) m))
  rises_pair Equal Equal i j k h l m = omega arith
  rises_pair Equal Greater i j k h l m = omega arith
  rises_pair Greater Less i j k h l m = absurd (not_both i j h (keys.later j k i m l))
  rises_pair Greater Equal i j k h l m = absurd (not_both i j h (subst (λ n. by.IsBefore n i) (sym m) l))
  rises_pair Greater Greater i j k h l m = omega arith

  -- the answers rise along the list
  pub rises : (xs : List A) (k : K) → IsAscendingBy by xs → IsNonDecreasingBy (λ x. ordering_index (order_of (by.key x) k)) xs
  rises [] k u i j d upto short = absurd (omega arith)
  rises (x ∷ xs) k u zero zero d upto short = omega arith
  rises (x ∷ xs) k u zero (suc j) d upto short =
      let y = get_or xs j d in
      rises_pair (order_of (by.key x) k) (order_of (by.key y) k) (by.key x) (by.key y) k
      (every_at (λ (z : A). by.IsBefore (by.key x) (by.key z)) xs j d u.0 (omega arith)) (stands (by.key x) k) (stands (by.key y) k)
  rises (x ∷ xs) k u (suc i) zero d upto short = absurd (omega arith)
  rises (x ∷ xs) k u (suc i) (suc j) d upto short = rises xs k u.1 i j d (omega arith) (omega arith)

  -- ---- there
  equal_keys : (j k : K) → order_of j k ≡ Equal → j ≡ k
  equal_keys j k e = subst (λ o. Stands o j k) e (stands j k)

  pub found_there : (xs : List A) (k : K) (i : ℕ) (x : A) → IsAscendingBy by xs → i < length xs → x ≡ get_or xs i x
      → HoldsAt (λ y. order_of (by.key y) k ≡ Equal) xs i → item_at by xs k ≡ Some x
  found_there xs k i x u l is o =
      let own : order_of (by.key x) k ≡ Equal = subst (λ (y : A). order_of (by.key y) k ≡ Equal) (sym is) (o x) in
      subst (λ j. item_at by xs j ≡ Some x) (equal_keys (by.key x) k own) (contained_found by keys xs x u (i, l, sym is))

  -- ---- not there
  pub not_there : (xs : List A) (k : K) (i : ℕ) → IsPartitionPoint (λ x. order_of (by.key x) k ≡ Less)
      (λ x. order_of (by.key x) k ≡ Greater) xs i → item_at by xs k ≡ None
  not_there xs k i p = none_lacks by keys k xs (every_by_index (λ (x : A). by.same (by.key x) k ≡ false) xs
      (λ j d l. elim (cases_lt j i) [
        | inl s ↦ keys.apart (by.key (get_or xs j d)) k (subst (λ o. Stands o (by.key (get_or xs j d)) k) (p.0 j d (omega arith) s)
            (stands (by.key (get_or xs j d)) k))
        | inr s ↦ apart_later by keys k (by.key (get_or xs j d)) (subst (λ o. Stands o (by.key (get_or xs j d)) k) (p.1 j d s l)
            (stands (by.key (get_or xs j d)) k))
      ]))
