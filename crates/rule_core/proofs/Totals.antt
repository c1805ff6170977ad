-- The total of a cache: of pairs that were put in, taken out, or moved to the front.
use Rattle.std.proofs.Common.{◌≡◌, ℕ, ◌+◌, ◌-◌, ◌<◌, Bool, true, false, List, [], ◌∷◌, Option, Some, None, refl, sym, ◌∙◌, ap, cond, take, length, get_or, nat_eq, arith}
use Rattle.std.specs.Prelude.{slice_get}
use Rattle.std.specs.List.{sum_by}
use Rattle.std.specs.Option.{option_map, option_map_or}
use Rattle.std.specs.Map.{lookup, lookup_entry, remove_entry}
use Rattle.std.proofs.lemmas.List.{length-take-le, take-take, take_all}
use Rattle.std.proofs.lemmas.List.Sums.{sum_by-cons, sum_by_more}
use Rattle.std.proofs.lemmas.Option.{get_or_from_slice_get, slice_get_within}
use Rattle.lru.specs.LruCache.{LruCache, promoted, put_entries}
use Rattle.lru.proofs.Pairs.{lookup-lookup_entry}

-- a front of a list, without its last
pub front_less : {X : Type 0} (es all : List X) → es ≡ take (length es) all
    → take (length es - 1) es ≡ take (length (take (length es - 1) es)) all
front_less es all h = rw (length-take-le (length es - 1) es (omega arith))
    (ap (take (length es - 1)) h ∙ take-take (length es - 1) (length es) all (omega arith))

module _ {V : Type 0} (size : V → ℕ) where
  abbrev weight : ℕ × V → ℕ
  weight e = size e.1

  abbrev weigh : List (ℕ × V) → ℕ
  weigh es = sum_by weight es

  -- ---- the last
  pub last_out : (es : List (ℕ × V)) (e : ℕ × V) → slice_get es (length es - 1) ≡ Some e
      → weigh (take (length es - 1) es) + size e.1 ≡ weigh es
  last_out es e h =
      let l : length es - 1 < length es = slice_get_within es (length es - 1) e h in
      let all : take (length es - 1 + 1) es ≡ es = take_all (length es - 1 + 1) es (omega (arith, l)) in
      let one : get_or es (length es - 1) e ≡ e = get_or_from_slice_get es (length es - 1) e e h in
      sym (ap (λ l. weigh l) (sym all) ∙ (sum_by_more weight es (length es - 1) e l
      ∙ ap (λ (x : ℕ × V). weigh (take (length es - 1) es) + size x.1) one))

  -- ---- one that a test finds
  module _ (test : ℕ → Bool) where
    first_out : (b : Bool) (d e : ℕ × V) (es : List (ℕ × V)) → cond b (Some d) (lookup_entry test es) ≡ Some e
        → (lookup_entry test es ≡ Some e → weigh es ≡ size e.1 + weigh (remove_entry test es))
        → weigh (d ∷ es) ≡ size e.1 + weigh (cond b es (d ∷ remove_entry test es))
    first_out true d e es h k =
        let same : d ≡ e = cc in
        sum_by-cons weight d es ∙ ap (λ (x : ℕ × V). size x.1 + weigh es) same
    first_out false d e es h k = omega (arith, sum_by-cons weight d es, sum_by-cons weight d (remove_entry test es), k h)

    taken_out : (es : List (ℕ × V)) (e : ℕ × V) → lookup_entry test es ≡ Some e → weigh es ≡ size e.1 + weigh (remove_entry test es)
    taken_out [] e h = cc
    taken_out (d ∷ es) e h = first_out (test d.0) d e es h (taken_out es e)

    moved : (es : List (ℕ × V)) (o : Option (ℕ × V)) → lookup_entry test es ≡ o
        → weigh (option_map_or (λ (e : ℕ × V). e ∷ remove_entry test es) o es) ≡ weigh es
    moved es None h = refl
    moved es (Some e) h = sum_by-cons weight e (remove_entry test es) ∙ sym (taken_out es e h)

    pub promoted_weigh : (es : List (ℕ × V)) → weigh (promoted test es) ≡ weigh es
    promoted_weigh es = moved es (lookup_entry test es) refl

  -- ---- one that is put in
  module _ (c : LruCache ℕ V) (k : ℕ) (v : V) where
    abbrev after : Option (ℕ × V) → List (ℕ × V)
    after o = option_map_or (λ (e : ℕ × V). (e.0, v) ∷ remove_entry (nat_eq k) c.entries) o ((k, v) ∷ take (c.cap - 1) c.entries)

    new_in : (o : Option (ℕ × V)) → option_map (λ (e : ℕ × V). e.1) o ≡ None → length c.entries < c.cap
        → weigh (after o) ≡ weigh c.entries + size v
    new_in None n l =
        let all : take (c.cap - 1) c.entries ≡ c.entries = take_all (c.cap - 1) c.entries (omega (arith, l)) in
        let one : weigh ((k, v) ∷ c.entries) ≡ size v + weigh c.entries = sum_by-cons weight (k, v) c.entries in
        ap (λ es. weigh ((k, v) ∷ es)) all ∙ omega (arith, one)
    new_in (Some e) n l = cc

    pub new_weighs : lookup (nat_eq k) c.entries ≡ None → length c.entries < c.cap
        → weigh (put_entries nat_eq c k v) ≡ weigh c.entries + size v
    new_weighs n l = new_in (lookup_entry (nat_eq k) c.entries) (lookup-lookup_entry (nat_eq k) c.entries ∙ n) l

    over : (o : Option (ℕ × V)) (w : V) → lookup_entry (nat_eq k) c.entries ≡ o → option_map (λ (e : ℕ × V). e.1) o ≡ Some w
        → weigh (after o) + size w ≡ weigh c.entries + size v
    over None w h n = cc
    over (Some e) w h n =
        let same : e.1 ≡ w = cc in
        let rest = remove_entry (nat_eq k) c.entries in
        let one : weigh ((e.0, v) ∷ rest) ≡ size v + weigh rest = sum_by-cons weight (e.0, v) rest in
        omega (arith, one, taken_out (nat_eq k) c.entries e h, ap size same)

    pub over_weighs : (w : V) → lookup (nat_eq k) c.entries ≡ Some w
        → weigh (put_entries nat_eq c k v) + size w ≡ weigh c.entries + size v
    over_weighs w n = over (lookup_entry (nat_eq k) c.entries) w refl (lookup-lookup_entry (nat_eq k) c.entries ∙ n)
