-- What is left where the errors of one rule are taken out: of an ascending list, and of runs.
use Rattle.std.proofs.Common.{◌≡◌, ◌≢◌, inl, inr, ℕ, ◌+◌, ◌-◌, ◌≤◌, Bool, true, false, not, ◌==◌, refl, arith, ap, sym, ◌∙◌, List, [], ◌∷◌, ◌++◌, length, None}
use Rattle.std.specs.List.{filter}
use Rattle.std.specs.Map.{values_of}
use Rattle.std.proofs.lemmas.Bool.{cases_Bool, eqb-false, eqb-true, ne_eqb, not-true}
use Rattle.std.proofs.lemmas.List.{length-append}
use Rattle.std.proofs.lemmas.List.Elements.{filter-append}
use Rattle.plane_terms.specs.Lists.{Every}
use Rattle.plane_terms.proofs.ListLemmas.{every_of_all, every_map, every_passing}
use Rattle.topology_terms.specs.Entry.{Entry, by_key, has_key, entry_at}
use Rattle.sound_laws.proofs.Keyed.{filter_same}
use Rattle.sound_laws.proofs.Lists.{keys, Lacks, none_at, has_parts}
use Rattle.validation_laws.proofs.Joining.{of_other_rule}
use Rattle.error_store.specs.Pairs.{entries_in, IsOf}
use Rattle.error_store.proofs.Noted.{filter_whole, filter_nothing, is_under, all_under, none_under}
use Rattle.error_store.proofs.Pairs.{Run, AreRunsIn}

-- the error is of another rule
abbrev pub is_other : ℕ → Entry → Bool
is_other n e = not (e.rule == n)

pub none_left : (n : ℕ) (es : List Entry) (a b : ℕ) → entry_at (filter (is_other n) es) n a b ≡ None
none_left n es a b = none_at (filter (is_other n) es) n a b (every_passing (Lacks n a b) (is_other n)
    (λ e t. of_other_rule n a b e (eqb-false e.rule n (not-true (e.rule == n) t))) es)

pub others_left : (n : ℕ) (es : List Entry) (k a b : ℕ) → k ≢ n → entry_at (filter (is_other n) es) k a b ≡ entry_at es k a b
unfolding entry_at
others_left n es k a b d = filter_same by_key keys (is_other n) es (k, a, b)
    (every_of_all (λ (e : Entry). has_key e k a b ≡ true → is_other n e ≡ true) (λ e t. ap not
    (ne_eqb e.rule n (λ s. d (sym (has_parts e k a b t).0 ∙ s)))) es)

-- ---- runs
pub no_other : (n : ℕ) (es : List Entry) → Every (λ (e : Entry). is_under n e ≡ true) es → Every (λ (e : Entry). is_other n e ≡ false) es
no_other n es u = every_map (λ (e : Entry). is_under n e ≡ true) (λ (e : Entry). is_other n e ≡ false) (λ e t. ap not t) es u

pub all_other : (n : ℕ) (es : List Entry) → Every (λ (e : Entry). is_under n e ≡ false) es → Every (λ (e : Entry). is_other n e ≡ true) es
all_other n es u = every_map (λ (e : Entry). is_under n e ≡ false) (λ (e : Entry). is_other n e ≡ true) (λ e t. ap not t) es u

-- a run of the rule goes, and one of another stays
pub rule_goes : (n : ℕ) (q : Run) (rest : List Entry) → q.0.rule ≡ n → Every (IsOf q.0.rule q.0.subject) q.1.items
    → filter (is_other n) (q.1.items ++ rest) ≡ filter (is_other n) rest
rule_goes n q rest r o = filter-append (is_other n) q.1.items rest
    ∙ ap (λ es. es ++ filter (is_other n) rest) (filter_nothing (is_other n) q.1.items (no_other n q.1.items (all_under n q.0 q.1.items r o)))

pub rule_stays : (n : ℕ) (q : Run) (rest : List Entry) → q.0.rule ≢ n → Every (IsOf q.0.rule q.0.subject) q.1.items
    → filter (is_other n) (q.1.items ++ rest) ≡ q.1.items ++ filter (is_other n) rest
rule_stays n q rest d o = filter-append (is_other n) q.1.items rest
    ∙ ap (λ es. es ++ filter (is_other n) rest) (filter_whole (is_other n) q.1.items (all_other n q.1.items (none_under n q.0 q.1.items d o)))

abbrev pub other_run : ℕ → Run → Bool
other_run n q = not (q.0.rule == n)

pub others_in : (n : ℕ) (rs : List Run) → AreRunsIn rs → entries_in (values_of (filter (other_run n) rs)) ≡ filter (is_other n) (entries_in (values_of rs))
others_in n [] h = refl
others_in n (q ∷ rs) h = elim (cases_Bool (q.0.rule == n)) [
  | inl t ↦ rw t (others_in n rs h.1 ∙ sym (rule_goes n q (entries_in (values_of rs)) (eqb-true q.0.rule n t) h.0.1))
  | inr t ↦ rw t (ap (λ es. q.1.items ++ es) (others_in n rs h.1)
      ∙ sym (rule_stays n q (entries_in (values_of rs)) (eqb-false q.0.rule n t) h.0.1))
]

-- ---- their number
pub filter_shorter : (n : ℕ) (es : List Entry) → length (filter (is_other n) es) ≤ length es
filter_shorter n [] = omega arith
filter_shorter n (e ∷ es) = elim (cases_Bool (is_other n e)) [
  | inl t ↦ let l = filter_shorter n es in rw t (omega arith)
  | inr t ↦ let l = filter_shorter n es in rw t (omega arith)
]

pub goes_number : (n : ℕ) (q : Run) (rest : List Entry) (left all : ℕ) → q.0.rule ≡ n → Every (IsOf q.0.rule q.0.subject) q.1.items
    → left + length (filter (is_other n) (q.1.items ++ rest)) ≡ all + length (q.1.items ++ rest)
    → (length q.1.items ≤ left) × ((left - length q.1.items) + length (filter (is_other n) rest) ≡ all + length rest)
goes_number n q rest left all r o h =
    let goes = ap length (rule_goes n q rest r o) in
    let joined = length-append q.1.items rest in
    let shorter = filter_shorter n rest in (omega arith, omega arith)

pub stays_number : (n : ℕ) (q : Run) (rest : List Entry) (left all : ℕ) → q.0.rule ≢ n → Every (IsOf q.0.rule q.0.subject) q.1.items
    → left + length (filter (is_other n) (q.1.items ++ rest)) ≡ all + length (q.1.items ++ rest)
    → left + length (filter (is_other n) rest) ≡ all + length rest
stays_number n q rest left all d o h =
    let stays = ap length (rule_stays n q rest d o) ∙ length-append q.1.items (filter (is_other n) rest) in
    let joined = length-append q.1.items rest in
    omega arith
