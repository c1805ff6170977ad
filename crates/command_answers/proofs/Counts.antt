-- How often rules are tried at most.
use Rattle.std.proofs.Common.{◌≡◌, inl, inr, ℕ, suc, ◌+◌, ◌*◌, ◌≤◌, ◌<◌, Bool, true, false, List, [], ◌∷◌, length, arith}
use Rattle.std.specs.Prelude.{cond}
use Rattle.std.proofs.lemmas.List.Sums.{sum_by-cons}
use Rattle.plane_terms.specs.Lists.{Every, IsThose, how_many}
use Rattle.topology_terms.specs.Feature.{Feature, IsAscending}
use Rattle.topology_terms.specs.Project.{InForce}
use Rattle.topology_terms.specs.Broken.{judged}
use Rattle.topology_terms.specs.Counts.{judged_of}

pub few_of : {A : Type 0} (test : A → Bool) (xs : List A) → how_many test xs ≤ length xs
few_of test [] = omega arith
few_of test (x ∷ xs) = by (test x) (few_of test xs)
  where
    by : (t : Bool) → how_many test xs ≤ length xs → cond t (suc (how_many test xs)) (how_many test xs) ≤ suc (length xs)
    by true few = omega arith
    by false few = omega arith

pub fewer_chosen : {A : Type 0} (P : A → Type 0) (xs ys : List A) → IsThose P xs ys → length ys ≤ length xs
fewer_chosen P [] ys h = rw h (omega arith)
fewer_chosen P (x ∷ xs) ys h = elim h [
  | inl k ↦ (let rest = fewer_chosen P xs k.1.0 k.1.2 in rw k.1.1 (omega arith))
  | inr k ↦ (let rest = fewer_chosen P xs ys k.1 in omega arith)
]

-- handles from `low` up to `next`, each once
pub few_handles : (low next : ℕ) (F : List Feature) → low ≤ next → IsAscending F → Every (λ (f : Feature). low ≤ f.handle) F
    → Every (λ (f : Feature). f.handle < next) F → length F + low ≤ next
few_handles low next [] l a from below = omega arith
few_handles low next (f ∷ F) l a from below =
    let rest = few_handles (f.handle + 1) next F (omega (arith, below.0)) a.1 (above F a.0) below.1 in
    omega (arith, from.0, rest)
  where
    above : (G : List Feature) → Every (λ (g : Feature). f.handle < g.handle) G → Every (λ (g : Feature). f.handle + 1 ≤ g.handle) G
    above [] h = tt
    above (g ∷ G) h = (omega (arith, h.0), above G h.1)

-- n times at most for each rule
pub few_judged : (rules : List InForce) (fs : List Feature) (n : ℕ) → length fs ≤ n → judged_of rules fs ≤ length rules * n
few_judged [] fs n b = omega arith
few_judged (r ∷ rules) fs n b =
    let count : InForce → ℕ = λ (rule : InForce). how_many (judged rule.row) fs in
    rw (sum_by-cons count r rules) (by (how_many (judged r.row) fs) (judged_of rules fs) (few_of (judged r.row) fs)
    (few_judged rules fs n b))
  where
    once_more : (m : ℕ) → suc m * n ≡ n + m * n
    once_more m = grind arith

    by : (one rest : ℕ) → one ≤ length fs → rest ≤ length rules * n → one + rest ≤ suc (length rules) * n
    by one rest h k = rw (once_more (length rules)) (omega (arith, h, k, b))
