-- An error whose mark is set, in a list that ascends by key.
use Rattle.std.proofs.Common.{◌≡◌, inl, inr, ℕ, ◌<◌, zero, suc, Bool, true, false, refl, sym, ◌∙◌, ap, subst, List, [], ◌∷◌, length, get_or, set, Option, Some, None}
use Rattle.std.specs.Prelude.{cond, not, slice_get, if◌then◌else◌}
use Rattle.std.proofs.Math.Bool.{beq}
use Rattle.std.proofs.lemmas.Bool.{cases_Bool}
use Rattle.std.proofs.lemmas.Option.{slice_get_read}
use Rattle.std.proofs.lemmas.List.{length-set, get_or-set_same}
use Rattle.plane_terms.specs.Lists.{Every}
use Rattle.topology_terms.specs.Changes.{SameButMark}
use Rattle.topology_terms.specs.Causes.{mark_cause, first_of, when, is_so}
use Rattle.topology_terms.specs.declared.cause.Cause.TheVariants.{NoError, AlreadySo}
use Rattle.topology_terms.specs.Entry.{Entry, key_of, by_key, has_key, entry_at, IsBefore, IsKeyBelow, IsAscending}
use Rattle.sound_laws.proofs.Keyed.{contained_found}
use Rattle.sound_laws.proofs.Lists.{keys, past_key, has_parts, entry_key}
use Rattle.error_store.specs.Marking.{IsMarkSet}

-- the entry with this mark
abbrev pub remark : Bool → Entry → Entry
remark on e = record e { marked = on }

pub same_all : (o : Option Entry) → SameButMark o o
same_all None = tt
same_all (Some e) = record { whole = refl; frame = refl; cells = refl }

same_pick : (b : Bool) (on : Bool) (e : Entry) (o : Option Entry) → SameButMark (cond b (Some e) o) (cond b (Some (remark on e)) o)
same_pick true on e o = record { whole = refl; frame = refl; cells = refl }
same_pick false on e o = same_all o

same_behind : (b : Bool) (e : Entry) (o p : Option Entry) → SameButMark o p → SameButMark (cond b (Some e) o) (cond b (Some e) p)
same_behind true e o p h = same_all (Some e)
same_behind false e o p h = h

pub alike : (es : List Entry) (i : ℕ) (e : Entry) (on : Bool) → e ≡ get_or es i e → (r a b : ℕ)
    → SameButMark (entry_at es r a b) (entry_at (set es i (remark on e)) r a b)
unfolding entry_at
alike [] i e on h r a b = tt
alike (x ∷ xs) zero e on h r a b = rw h (same_pick (has_key x r a b) on x (entry_at xs r a b))
alike (x ∷ xs) (suc i) e on h r a b =
    same_behind (has_key x r a b) x (entry_at xs r a b) (entry_at (set xs i (remark on e)) r a b) (alike xs i e on h r a b)

pick_same : (b : Bool) (e : Entry) (o p : Option Entry) → o ≡ p → cond b (Some e) o ≡ cond b (Some e) p
pick_same b e o p h = ap (λ (z : Option Entry). cond b (Some e) z) h

other : (es : List Entry) (i : ℕ) (e : Entry) (on : Bool) → e ≡ get_or es i e → (r a b : ℕ) → has_key e r a b ≡ false
    → entry_at (set es i (remark on e)) r a b ≡ entry_at es r a b
unfolding entry_at
other [] i e on h r a b t = refl
other (x ∷ xs) zero e on h r a b t = past_key (remark on e) xs r a b t ∙ sym (past_key x xs r a b (rw h at t))
other (x ∷ xs) (suc i) e on h r a b t =
    pick_same (has_key x r a b) x (entry_at (set xs i (remark on e)) r a b) (entry_at xs r a b) (other xs i e on h r a b t)

above : (x : Entry) (es : List Entry) (i : ℕ) (e : Entry) (on : Bool) → e ≡ get_or es i e → Every (IsKeyBelow x) es
    → Every (IsKeyBelow x) (set es i (remark on e))
above x [] i e on h u = tt
above x (y ∷ ys) zero e on h u = (subst (λ z. IsKeyBelow x z) (sym h) u.0, u.1)
above x (y ∷ ys) (suc i) e on h u = (u.0, above x ys i e on h u.1)

below : (x y : Entry) (es : List Entry) → key_of x ≡ key_of y → Every (IsKeyBelow x) es → Every (IsKeyBelow y) es
below x y es h u = subst (λ k. Every (λ (z : Entry). IsBefore k (key_of z)) es) h u

pub stays_ascending : (es : List Entry) (i : ℕ) (e : Entry) (on : Bool) → e ≡ get_or es i e → IsAscending es
    → IsAscending (set es i (remark on e))
stays_ascending [] i e on h u = tt
stays_ascending (x ∷ xs) zero e on h u = (below x (remark on e) xs (ap key_of (sym h)) u.0, u.1)
stays_ascending (x ∷ xs) (suc i) e on h u = (above x xs i e on h u.0, stays_ascending xs i e on h u.1)

-- the entry of the key is that at the place
here : (es : List Entry) (i : ℕ) (e : Entry) (on : Bool) → i < length es → e ≡ get_or es i e → IsAscending es
    → entry_at (set es i (remark on e)) e.rule e.subject e.other ≡ Some (remark on e)
unfolding entry_at
here es i e on l h u =
    let new = set es i (remark on e) in
    let long : i < length new = rw (length-set es i (remark on e)) l in
    contained_found by_key keys new (remark on e) (stays_ascending es i e on h u)
    (i, long, get_or-set_same es i (remark on e) (remark on e) l)

one : {d e : Entry} → Some d ≡ Some e → d ≡ e
one h = cc

at_own : (es : List Entry) (e : Entry) (r a b : ℕ) (x : Entry) → (e.rule ≡ r) × (e.subject ≡ a) × (e.other ≡ b)
    → entry_at es e.rule e.subject e.other ≡ Some x → entry_at es r a b ≡ Some x
at_own es e r a b x z h = rw (← z.0, ← z.1, ← z.2) h

lacks : (e : Entry) (r a b x c d : ℕ) → (e.rule ≡ r) × (e.subject ≡ a) × (e.other ≡ b) → ¬ ((x ≡ r) × (c ≡ a) × (d ≡ b))
    → has_key e x c d ≡ false
lacks e r a b x c d z n = elim (cases_Bool (has_key e x c d)) [
  | inl t ↦ let p = has_parts e x c d t in absurd (n (sym p.0 ∙ z.0, sym p.1 ∙ z.1, sym p.2 ∙ z.2))
  | inr t ↦ t
]

pub mark_set : (es : List Entry) (i : ℕ) (e : Entry) (on : Bool) (r a b : ℕ) → i < length es → e ≡ get_or es i e → IsAscending es
    → entry_at es r a b ≡ Some e
    → IsMarkSet r a b on es (set es i (remark on e))
mark_set es i e on r a b l h u k =
    let z = entry_key es r a b e k in
    record {
      entries = λ x c d. alike es i e on h x c d;
      here = λ x m.
          let same : Some (remark on e) ≡ Some x = sym (at_own (set es i (remark on e)) e r a b (remark on e) z (here es i e on l h u))
          ∙ m in
          ap (λ (y : Entry). y.marked) (sym (one same));
      others = λ x c d n. other es i e on h x c d (lacks e r a b x c d z n);
    }

pub no_error : (es : List Entry) (r a b : ℕ) (on : Bool) → entry_at es r a b ≡ None → mark_cause es r a b on ≡ Some NoError
no_error es r a b on h = rw h refl

is_so_told : (on : Bool) (e : Entry) → e.marked ≡ on → first_of (when (is_so (Some e) on) AlreadySo ∷ []) ≡ Some AlreadySo
is_so_told true e m = rw m refl
is_so_told false e m = rw m refl

pub already : (es : List Entry) (r a b : ℕ) (on : Bool) (e : Entry) → entry_at es r a b ≡ Some e → e.marked ≡ on
    → mark_cause es r a b on ≡ Some AlreadySo
already es r a b on e h m = rw h (is_so_told on e m)

not_so : (on m : Bool) → beq m on ≡ false → (if on then m else not m) ≡ false
not_so true true h = h
not_so true false h = refl
not_so false true h = refl
not_so false false h = h

-- the mark m of the entry is not so
pub may_mark : (es : List Entry) (r a b : ℕ) (on m : Bool) (e : Entry) → entry_at es r a b ≡ Some e → m ≡ e.marked → beq m on ≡ false
    → mark_cause es r a b on ≡ None
may_mark es r a b on m e h s n = let k = not_so on m n in rw (h, ← s, k) refl

-- what the place of a key says of the list that was looked through
pub placed : (es items shown : List Entry) (i r a b : ℕ) (e : Entry) → es ≡ items → shown ≡ items
    → (i < length shown) × (slice_get shown i ≡ entry_at shown r a b)
    → e ≡ get_or items i e → (i < length items) × (entry_at es r a b ≡ Some e)
placed es items shown i r a b e p q h k =
    let l : i < length items = rw q at h.0 in
    (l, rw p (sym (rw q at h.1) ∙ slice_get_read items (length items) i e refl l k))
