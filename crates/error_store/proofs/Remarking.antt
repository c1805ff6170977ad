-- Fresh errors that are marked as the old ones of their keys were.
use Rattle.std.proofs.Common.{◌≡◌, inl, inr, ℕ, ◌+◌, ◌<◌, ◌≤◌, Bool, true, false, List, [], ◌∷◌, ◌++◌, Option, Some, length, get_or, set, take, drop, arith, refl, sym, ◌∙◌, ap, subst, Contains}
use Rattle.std.proofs.lemmas.Bool.{cases_Bool}
use Rattle.std.proofs.lemmas.List.{take_more, take_more_set, take_all, drop_all, append-nil, get_or-set_other}
use Rattle.plane_terms.specs.Lists.{Every, Paired}
use Rattle.topology_terms.specs.Changes.{KeepsMark}
use Rattle.topology_terms.specs.Entry.{Entry, Key, key_of, same_key, has_key, entry_at, IsKeyBelow, IsAscending, IsBefore}
use Rattle.sound_laws.proofs.Lists.{at_key, past_key, has_parts}
use Rattle.validation_laws.specs.Replaced.{AreRemarked, IsRemarked, AreFresh}
use Rattle.validation_laws.proofs.Joining.{paired_more}
use Rattle.error_store.specs.Exchange.{IsRemarkedFrom}

abbrev pub AreMarked : List Entry → List Entry → List Entry → Type 0
AreMarked old fresh marked = Paired (IsRemarkedFrom old) fresh marked

-- ---- one after another
pub record AreRemarkedUpto (old : List Entry) (i : ℕ) (fresh now : List Entry) : Type 0 where
  pub front : AreMarked old (take i fresh) (take i now)
  pub back : (k : ℕ) (d : Entry) → i ≤ k → get_or now k d ≡ get_or fresh k d

pub remarked_by : (old : List Entry) (f n : Entry) (on : Bool) → n ≡ record f { marked = on }
    → KeepsMark (entry_at old f.rule f.subject f.other) (record f { marked = on }) → IsRemarkedFrom old f n
remarked_by old f n on is k = rw is (record { same = refl; mark = k })

pub marking_goes_on : (old : List Entry) (i : ℕ) (fresh now : List Entry) (f n : Entry) → i < length fresh → i < length now
    → f ≡ get_or now i f → IsRemarkedFrom old f n → AreRemarkedUpto old i fresh now → AreRemarkedUpto old (i + 1) fresh (set now i n)
marking_goes_on old i fresh now f n l m e g h =
    let was : f ≡ get_or fresh i f = e ∙ h.back i f (omega arith) in
    record {
      front = rw (take_more fresh i f l, take_more_set now i n m, ← was)
          (paired_more (IsRemarkedFrom old) (take i fresh) (take i now) f n h.front g);
      back = λ k d low. get_or-set_other now i k n d (λ s. absurd (omega (arith, low, s))) ∙ h.back k d (omega (arith, low));
    }

-- ---- what is marked
one_key : (old : List Entry) (f n : Entry) → IsRemarkedFrom old f n → key_of n ≡ key_of f
one_key old f n h = let s = h.same in ap key_of s

at_marked : (old : List Entry) (f n : Entry) (r a b : ℕ) → (f.rule ≡ r) × (f.subject ≡ a) × (f.other ≡ b) → IsRemarkedFrom old f n
    → IsRemarked (entry_at old r a b) f n
at_marked old f n r a b z h =
    subst (λ m. IsRemarked (entry_at old r a m) f n) z.2
    (subst (λ m. IsRemarked (entry_at old r m f.other) f n) z.1
    (subst (λ m. IsRemarked (entry_at old m f.subject f.other) f n) z.0 h))

pub remarked_as : (o f n f' n' : Option Entry) → f' ≡ f → n' ≡ n → AreRemarked o f n → AreRemarked o f' n'
remarked_as o f n f' n' p q h = rw (p, q) h

-- of each key the marked error is the fresh one, with its mark
pub marked_at : (old fresh marked : List Entry) → AreMarked old fresh marked → (r a b : ℕ)
    → AreRemarked (entry_at old r a b) (entry_at fresh r a b) (entry_at marked r a b)
unfolding entry_at
marked_at old [] [] h r a b = tt
marked_at old [] (n ∷ ns) h r a b = absurd h
marked_at old (f ∷ fs) [] h r a b = absurd h
marked_at old (f ∷ fs) (n ∷ ns) h r a b =
    let same = one_key old f n h.0 in
    elim (cases_Bool (has_key f r a b)) [
      | inl t ↦
          let u : has_key n r a b ≡ true = ap (λ k. same_key k (r, a, b)) same ∙ t in
          remarked_as (entry_at old r a b) (Some f) (Some n) (entry_at (f ∷ fs) r a b) (entry_at (n ∷ ns) r a b) (at_key f fs r a b t)
          (at_key n ns r a b u) (at_marked old f n r a b (has_parts f r a b t) h.0)
      | inr t ↦
          let u : has_key n r a b ≡ false = ap (λ k. same_key k (r, a, b)) same ∙ t in
          remarked_as (entry_at old r a b) (entry_at fs r a b) (entry_at ns r a b) (entry_at (f ∷ fs) r a b) (entry_at (n ∷ ns) r a b)
          (past_key f fs r a b t) (past_key n ns r a b u) (marked_at old fs ns h.1 r a b)
    ]

above_marked : (old : List Entry) (e f : Entry) (fresh marked : List Entry) → key_of f ≡ key_of e → AreMarked old fresh marked
    → Every (IsKeyBelow e) fresh → Every (IsKeyBelow f) marked
above_marked old e f [] [] s h u = tt
above_marked old e f [] (n ∷ ns) s h u = absurd h
above_marked old e f (x ∷ xs) [] s h u = absurd h
above_marked old e f (x ∷ xs) (n ∷ ns) s h u = (
  subst (λ k. IsBefore k (key_of n)) (sym s) (subst (IsBefore (key_of e)) (sym (one_key old x n h.0)) u.0),
  above_marked old e f xs ns s h.1 u.1,
)

pub marked_ascend : (old fresh marked : List Entry) → AreMarked old fresh marked → IsAscending fresh → IsAscending marked
marked_ascend old [] [] h u = tt
marked_ascend old [] (n ∷ ns) h u = absurd h
marked_ascend old (f ∷ fs) [] h u = absurd h
marked_ascend old (f ∷ fs) (n ∷ ns) h u = (above_marked old f n fs ns (one_key old f n h.0) h.1 u.0, marked_ascend old fs ns h.1 u.1)

pub marked_chosen : (selected : List ℕ) (old fresh marked : List Entry) → AreMarked old fresh marked → AreFresh selected fresh
    → Every (λ (e : Entry). Contains selected e.subject) marked
marked_chosen selected old [] [] h u = tt
marked_chosen selected old [] (n ∷ ns) h u = absurd h
marked_chosen selected old (f ∷ fs) [] h u = absurd h
marked_chosen selected old (f ∷ fs) (n ∷ ns) h u = (
  subst (λ (k : Key). Contains selected k.1) (sym (one_key old f n h.0)) u.0.chosen,
  marked_chosen selected old fs ns h.1 u.1,
)

pub marked_length : (old fresh marked : List Entry) → AreMarked old fresh marked → length marked ≡ length fresh
marked_length old [] [] h = refl
marked_length old [] (n ∷ ns) h = absurd h
marked_length old (f ∷ fs) [] h = absurd h
marked_length old (f ∷ fs) (n ∷ ns) h = let m = marked_length old fs ns h.1 in omega (arith, m)

-- what is written back to a list of which all was lent
pub written_back : (n : ℕ) (xs ys : List Entry) → n ≡ length xs → length ys ≡ length xs → take n (ys ++ drop (length ys) xs) ≡ ys
written_back n xs ys e l =
    ap (λ zs. take n (ys ++ zs)) (drop_all (length ys) xs (omega (arith, l))) ∙ (ap (take n) (append-nil ys) ∙ take_all n ys (omega (arith, e, l)))
