-- The steps of these handles, when one comes, goes, or keeps something else.
use Rattle.std.proofs.Common.{ℕ, zero, suc, ◌||◌, eqb, ◌<◌, ◌≤◌, ◌≡◌, ◌≢◌, Bool, true, false, List, [], ◌∷◌, ◌++◌, Option, None, refl, sym, ◌∙◌, ap, arith, length, take, get_or, nat_eq, ◌-◌, length-append}
use Rattle.std.specs.Prelude.{slice_set, cond}
use Rattle.std.specs.List.{list_any}
use Rattle.std.proofs.lemmas.Bool.Decides.{nat_tests}
use Rattle.plane_terms.specs.Lists.{Every}
use Rattle.topology_terms.specs.Feature.{Feature}
use Rattle.session_terms.specs.Kept.{KeptStep}
use Rattle.edit_session.specs.StepLists.{steps_of}
use Rattle.edit_session.proofs.Swaps.{before_seam}

pub step_count : (at : ℕ → Option Feature) (hs : List ℕ) → length (steps_of at hs) ≡ length hs
step_count at [] = refl
step_count at (h ∷ hs) = ap suc (step_count (λ i. at (suc i)) hs)

-- a step is of a handle of the list
pub steps_any : (at : ℕ → Option Feature) (hs : List ℕ) (h : ℕ)
    → list_any (λ (t : KeptStep). eqb t.handle h) (steps_of at hs) ≡ list_any (λ (o : ℕ). eqb o h) hs
steps_any at [] h = refl
steps_any at (g ∷ hs) h = ap (λ b. eqb g h || b) (steps_any (λ i. at (suc i)) hs h)

-- what stands at the end
pub steps_end : (at : ℕ → Option Feature) (hs : List ℕ) (h : ℕ)
    → steps_of at (hs ++ h ∷ []) ≡ steps_of at hs ++ record { handle = h; kept = at (length hs) } ∷ []
steps_end at [] h = refl
steps_end at (g ∷ hs) h = ap (λ (ts : List KeptStep). record { handle = g; kept = at 0 } ∷ ts) (steps_end (λ i. at (suc i)) hs h)

-- what is kept by other steps counts for nothing
pub steps_same : (at bt : ℕ → Option Feature) (hs : List ℕ) → ((i : ℕ) → i < length hs → bt i ≡ at i) → steps_of bt hs ≡ steps_of at hs
steps_same at bt [] e = refl
steps_same at bt (h ∷ hs) e =
    rw (e 0 (omega arith), steps_same (λ i. at (suc i)) (λ i. bt (suc i)) hs (λ i l. e (suc i) (omega (arith, l)))) refl

pub steps_set : (at bt : ℕ → Option Feature) (hs : List ℕ) (k d : ℕ) (x : Option Feature) → k < length hs → bt k ≡ x
    → ((i : ℕ) → i ≢ k → bt i ≡ at i) → steps_of bt hs ≡ slice_set (steps_of at hs) k (record { handle = get_or hs k d; kept = x })
steps_set at bt [] k d x l e o = absurd (omega (arith, l))
steps_set at bt (h ∷ hs) zero d x l e o =
    rw (e, steps_same (λ i. at (suc i)) (λ i. bt (suc i)) hs (λ i _. o (suc i) (λ f. absurd (omega (arith, f))))) refl
steps_set at bt (h ∷ hs) (suc k) d x l e o =
    rw (
      o 0 (λ f. absurd (omega (arith, f))),
      steps_set (λ i. at (suc i)) (λ i. bt (suc i)) hs k d x (omega (arith, l)) e (λ i n. o (suc i)
          (λ f. n (omega (arith, f)))),
    ) refl

pub steps_at : (at : ℕ → Option Feature) (hs : List ℕ) (k d : ℕ) (s : KeptStep) → k < length hs
    → record { handle = get_or hs k d; kept = at k } ≡ get_or (steps_of at hs) k s
steps_at at [] k d s l = absurd (omega (arith, l))
steps_at at (h ∷ hs) zero d s l = refl
steps_at at (h ∷ hs) (suc k) d s l = steps_at (λ i. at (suc i)) hs k d s (omega (arith, l))

pub each_at : (P : ℕ → Option Feature → Type 0) (at : ℕ → Option Feature) (hs : List ℕ) (k d : ℕ) → k < length hs
    → Every (λ (t : KeptStep). P t.handle t.kept) (steps_of at hs) → P (get_or hs k d) (at k)
each_at P at [] k d l m = absurd (omega (arith, l))
each_at P at (h ∷ hs) zero d l m = m.0
each_at P at (h ∷ hs) (suc k) d l m = each_at P (λ i. at (suc i)) hs k d (omega (arith, l)) m.1

-- the index k has x, and the others what they had
pub put_other : (at bt : ℕ → Option Feature) (k : ℕ) (x : Option Feature) → ((i : ℕ) → bt i ≡ cond (nat_eq k i) x (at i))
    → (i : ℕ) → i ≢ k → bt i ≡ at i
put_other at bt k x e i n = by (nat_eq k i) refl
  where
    by : (b : Bool) → nat_eq k i ≡ b → bt i ≡ at i
    by true t = let same : k ≡ i = grind (arith, nat_tests) in absurd (n (sym same))
    by false f = e i ∙ ap (λ b. cond b x (at i)) f

pub put_here : (at bt : ℕ → Option Feature) (k : ℕ) (x : Option Feature) → ((i : ℕ) → bt i ≡ cond (nat_eq k i) x (at i)) → bt k ≡ x
put_here at bt k x e = by (nat_eq k k) refl
  where
    by : (b : Bool) → nat_eq k k ≡ b → bt k ≡ x
    by true t = e k ∙ ap (λ b. cond b x (at k)) t
    by false f = absurd (grind (arith, nat_tests))

-- the step at the index k is exchanged: what it keeps is taken out, and then x is put in
pub swap_others : (at was less bt : ℕ → Option Feature) (k : ℕ) (x : Option Feature) → ((i : ℕ) → was i ≡ at i)
    → ((i : ℕ) → less i ≡ cond (nat_eq k i) None (was i)) → ((i : ℕ) → bt i ≡ cond (nat_eq k i) x (less i)) → (i : ℕ) → i ≢ k → bt i ≡ at i
swap_others at was less bt k x same taken put i n = put_other less bt k x put i n ∙ put_other was less k None taken i n ∙ same i

pub swap_set : (at was less bt : ℕ → Option Feature) (hs : List ℕ) (k d : ℕ) (x : Option Feature) → k < length hs
    → ((i : ℕ) → was i ≡ at i) → ((i : ℕ) → less i ≡ cond (nat_eq k i) None (was i)) → ((i : ℕ) → bt i ≡ cond (nat_eq k i) x (less i))
    → steps_of bt hs ≡ slice_set (steps_of at hs) k (record { handle = get_or hs k d; kept = x })
swap_set at was less bt hs k d x l same taken put =
    steps_set at bt hs k d x l (put_here less bt k x put) (swap_others at was less bt k x same taken put)

-- the last step goes
pub take_end : (ts : List KeptStep) (t : KeptStep) → ts ≡ take (length (ts ++ t ∷ []) - 1) (ts ++ t ∷ [])
take_end ts t =
    let e : length (ts ++ t ∷ []) - 1 ≡ length ts = omega (arith, length-append ts (t ∷ [])) in
    sym (ap (λ n. take n (ts ++ t ∷ [])) e ∙ before_seam (length ts) ts t [] refl)

pub less_none : (at bt : ℕ → Option Feature) (k : ℕ) → ((i : ℕ) → bt i ≡ cond (nat_eq k i) None (at i))
    → ((i : ℕ) → suc k ≤ i → at i ≡ None) → (i : ℕ) → k ≤ i → bt i ≡ None
less_none at bt k e none i l = by (nat_eq k i) refl
  where
    by : (b : Bool) → nat_eq k i ≡ b → bt i ≡ None
    by true t = e i ∙ ap (λ b. cond b None (at i)) t
    by false f = e i ∙ (ap (λ b. cond b None (at i)) f ∙ none i (grind (arith, nat_tests)))

-- a step comes at the end
pub more_none : (at bt : ℕ → Option Feature) (k : ℕ) (x : Option Feature) → ((i : ℕ) → bt i ≡ cond (nat_eq k i) x (at i))
    → ((i : ℕ) → k ≤ i → at i ≡ None) → (i : ℕ) → suc k ≤ i → bt i ≡ None
more_none at bt k x e none i l = put_other at bt k x e i (λ f. absurd (omega (arith, f, l))) ∙ none i (omega (arith, l))

pub steps_more : (at bt : ℕ → Option Feature) (hs : List ℕ) (h k : ℕ) (x : Option Feature) → length hs ≡ k
    → ((i : ℕ) → bt i ≡ cond (nat_eq k i) x (at i))
    → steps_of bt (hs ++ h ∷ []) ≡ steps_of at hs ++ record { handle = h; kept = x } ∷ []
steps_more at bt hs h k x n e =
    let same = steps_same at bt hs (λ i l. put_other at bt k x e i (λ f. absurd (omega (arith, f, l, n)))) in
    let here : bt (length hs) ≡ x = ap bt n ∙ put_here at bt k x e in
    steps_end bt hs h ∙ rw (same, here) refl
