-- Rules in force by number: the laws of a list that ascends by a key, for `rule_at`.
use Rattle.std.proofs.Common.{◌≡◌, ◌≢◌, ℕ, true, false, List, ◌∷◌, Option, Some, None, refl, sym, ap, subst, ◌∙◌}
use Rattle.std.specs.Prelude.{◌==◌}
use Rattle.std.specs.Option.{option_map}
use Rattle.plane_terms.specs.Lists.{Every}
use Rattle.topology_terms.specs.Keyed.{item_at, without}
use Rattle.topology_terms.specs.Broken.{Row}
use Rattle.topology_terms.specs.Project.{InForce, by_number, rule_at, AreAscending}
use Rattle.sound_laws.proofs.Keyed as keyed
use Rattle.sound_laws.proofs.Keyed.{AreKeys, numbers}

pub rule_numbers : AreKeys by_number
rule_numbers = numbers (λ (q : InForce). q.number)

abbrev row_of : Option InForce → Option Row
row_of o = option_map (λ (q : InForce). q.row) o

pub at_number : (q : InForce) (qs : List InForce) (n : ℕ) → (q.number == n) ≡ true → rule_at (q ∷ qs) n ≡ Some q.row
unfolding rule_at
at_number q qs n t = ap row_of (keyed.at_first by_number rule_numbers q qs n t)

pub past_number : (q : InForce) (qs : List InForce) (n : ℕ) → (q.number == n) ≡ false → rule_at (q ∷ qs) n ≡ rule_at qs n
unfolding rule_at
past_number q qs n t = ap row_of (keyed.past_first by_number rule_numbers q qs n t)

-- a rule of the list is found under its number
pub rule_found : (rules : List InForce) (n : ℕ) (q : InForce) → item_at by_number rules n ≡ Some q → rule_at rules n ≡ Some q.row
unfolding rule_at
rule_found rules n q e = ap row_of e

-- what is found under a number is a rule of the list
pub record IsRule (rules : List InForce) (n : ℕ) (row : Row) : Type 0 where
  pub rule : InForce
  pub found : item_at by_number rules n ≡ Some rule
  pub row_is : rule.row ≡ row

pub found_rule : (rules : List InForce) (n : ℕ) (row : Row) → rule_at rules n ≡ Some row → IsRule rules n row
unfolding rule_at
found_rule rules n row e = by (item_at by_number rules n) refl e
  where
    by : (o : Option InForce) → item_at by_number rules n ≡ o → row_of o ≡ Some row → IsRule rules n row
    by None f e = cc
    by (Some q) f e = record { rule = q; found = f; row_is = cc }

-- what holds of every rule holds of the one of a number
pub rule_each : (P : Row → Type 0) (rules : List InForce) (n : ℕ) (row : Row) → Every (λ (q : InForce). P q.row) rules
    → rule_at rules n ≡ Some row → P row
rule_each P rules n row h e =
    let q = found_rule rules n row e in
    subst P q.row_is (keyed.every_found by_number rule_numbers (λ (q : InForce). P q.row) rules n q.rule h q.found)

-- and what holds of the one of each number holds of every rule
pub each_rule : (P : Row → Type 0) (rules : List InForce) → AreAscending rules → ((n : ℕ) (row : Row) → rule_at rules n ≡ Some row → P row)
    → Every (λ (q : InForce). P q.row) rules
each_rule P rules u h = keyed.each_found by_number rule_numbers (λ (q : InForce). P q.row) rules u
    (λ n q e. h n q.row (rule_found rules n q e))

-- ---- a rule taken out
pub without_here : (rules : List InForce) (n : ℕ) → rule_at (without by_number rules n) n ≡ None
unfolding rule_at
without_here rules n = ap row_of (keyed.without_here by_number rule_numbers rules n)

pub without_others : (rules : List InForce) (n k : ℕ) → k ≢ n → rule_at (without by_number rules n) k ≡ rule_at rules k
unfolding rule_at
without_others rules n k d = ap row_of (keyed.without_others by_number rule_numbers rules n k d)

-- ---- lists with the same row under each number are equal
rule_of : (rules : List InForce) (n : ℕ) (q : InForce) → item_at by_number rules n ≡ Some q → q ≡ record { number = n; row = q.row }
rule_of rules n q e = ap (λ m. record { number = m; row = q.row }) (keyed.key_found by_number rule_numbers rules n q e)

pub same_rules : (rules others : List InForce) → AreAscending rules → AreAscending others → ((n : ℕ) → rule_at rules n ≡ rule_at others n)
    → rules ≡ others
unfolding rule_at
same_rules rules others u v h = keyed.same_lists by_number rule_numbers rules others u v
    (λ n. by n (item_at by_number rules n) (item_at by_number others n) refl refl (h n))
  where
    by : (n : ℕ) (o p : Option InForce) → item_at by_number rules n ≡ o → item_at by_number others n ≡ p
        → option_map (λ (q : InForce). q.row) o ≡ option_map (λ (q : InForce). q.row) p
        → item_at by_number rules n ≡ item_at by_number others n
    by n None None e f s = e ∙ sym f
    by n None (Some q) e f s = absurd cc
    by n (Some q) None e f s = absurd cc
    by n (Some q) (Some r) e f s =
        let rows : q.row ≡ r.row = cc in
        let same : q ≡ r = rule_of rules n q e ∙ (ap (λ row. record { number = n; row = row }) rows ∙ sym (rule_of others n r f)) in
        e ∙ (ap (λ x. Some x) same ∙ sym f)
