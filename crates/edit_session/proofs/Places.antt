-- The session of a name, by its index.
use Rattle.std.proofs.Common.{ℕ, zero, suc, ◌≡◌, ◌≢◌, ◌≤◌, ◌<◌, Bool, true, false, List, [], ◌∷◌, ◌++◌, Some, None, Option, refl, sym, subst, ◌∙◌, ap, arith, length, get_or, take, drop}
use Rattle.std.proofs.lemmas.Slice.Eq.{bytes_eq-Decides}
use Rattle.std.specs.Prelude.{if◌then◌else◌, bytes_eq, slice_set, is_some}
use Rattle.std.specs.Option.{MatchOption}
use Rattle.std.specs.List.{remove, insert, list_any}
use Rattle.std.proofs.lemmas.List.{take-append-drop}
use Rattle.plane_terms.specs.Lists.{Every}
use Rattle.session_terms.specs.Kept.{KeptStep, KeptSession}
use Rattle.session_terms.specs.KeptChanges.{kept_named, with_kept, without_kept, with_kept_opened, is_below, IsKeptChange}
use Rattle.edit_session.specs.Faults.{IsFirstNamed, IsIndexOf, IsPlaceFor, HasRoom}
use Rattle.session_terms.proofs.Seen.{same_name, other_name}

abbrev pub AreOthers : List ℕ → List KeptSession → Type 0
AreOthers name ss = Every (λ (o : KeptSession). bytes_eq o.name name ≡ false) ss

is_named : (m n : List ℕ) → m ≡ n → bytes_eq m n ≡ true
is_named m n e = (bytes_eq-Decides m n).1 e

pub none_named : (name : List ℕ) (ss : List KeptSession) → AreOthers name ss → kept_named ss name ≡ None
none_named name [] a = refl
none_named name (o ∷ ss) a = rw a.0 (none_named name ss a.1)

pub first_named : (name : List ℕ) (ss : List KeptSession) (i : ℕ) (d : KeptSession) → AreOthers name (take i ss) → i < length ss
    → bytes_eq (get_or ss i d).name name ≡ true → IsFirstNamed name ss i
first_named name [] i d a l e = absurd (omega arith)
first_named name (o ∷ ss) zero d a l e = same_name o.name name e
first_named name (o ∷ ss) (suc i) d a l e = (other_name o.name name a.0, first_named name ss i d a.1 (omega arith) e)

pub others_more : (name : List ℕ) (ss : List KeptSession) (i : ℕ) (d : KeptSession) → AreOthers name (take i ss) → i < length ss
    → bytes_eq (get_or ss i d).name name ≡ false → AreOthers name (take (suc i) ss)
others_more name [] i d a l e = absurd (omega arith)
others_more name (o ∷ ss) zero d a l e = (e, tt)
others_more name (o ∷ ss) (suc i) d a l e = (a.0, others_more name ss i d a.1 (omega arith) e)

pub named_at : (name : List ℕ) (ss : List KeptSession) (i : ℕ) (d : KeptSession) → IsFirstNamed name ss i
    → kept_named ss name ≡ Some (get_or ss i d)
named_at name [] i d f = absurd f
named_at name (o ∷ ss) zero d f = rw (is_named o.name name f) refl
named_at name (o ∷ ss) (suc i) d f = by (bytes_eq o.name name) refl (named_at name ss i d f.1)
  where
    by : (b : Bool) → bytes_eq o.name name ≡ b → kept_named ss name ≡ Some (get_or ss i d)
        → (if b then Some o else kept_named ss name) ≡ Some (get_or ss i d)
    by true e r = absurd (f.0 (same_name o.name name e))
    by false e r = r

pub within : (name : List ℕ) (ss : List KeptSession) (i : ℕ) → IsFirstNamed name ss i → i < length ss
within name [] i f = absurd f
within name (o ∷ ss) zero f = omega arith
within name (o ∷ ss) (suc i) f = let r = within name ss i f.1 in omega arith

name_at : (name : List ℕ) (ss : List KeptSession) (i : ℕ) (d : KeptSession) → IsFirstNamed name ss i → (get_or ss i d).name ≡ name
name_at name [] i d f = absurd f
name_at name (o ∷ ss) zero d f = f
name_at name (o ∷ ss) (suc i) d f = name_at name ss i d f.1

set_at : (name : List ℕ) (ss : List KeptSession) (i : ℕ) (u : KeptSession) → IsFirstNamed name ss i → u.name ≡ name
    → slice_set ss i u ≡ with_kept ss u
set_at name [] i u f e = absurd f
set_at name (o ∷ ss) zero u f e = rw (is_named o.name u.name (f ∙ sym e)) refl
set_at name (o ∷ ss) (suc i) u f e = by (bytes_eq o.name u.name) refl (set_at name ss i u f.1 e)
  where
    by : (b : Bool) → bytes_eq o.name u.name ≡ b → slice_set ss i u ≡ with_kept ss u
        → (o ∷ slice_set ss i u) ≡ (if b then u ∷ ss else o ∷ with_kept ss u)
    by true k r = absurd (f.0 (same_name o.name u.name k ∙ e))
    by false k r = ap (λ x. o ∷ x) r

-- the session at the index is another one now
pub changed_at : (name : List ℕ) (ss : List KeptSession) (i : ℕ) (s u : KeptSession) → IsFirstNamed name ss i → s ≡ get_or ss i s
    → u.name ≡ s.name → IsKeptChange name s u ss (slice_set ss i u)
changed_at name ss i s u f r e = record {
  there = named_at name ss i s f ∙ ap (λ x. Some x) (sym r);
  name = e;
  sessions = set_at name ss i u f (e ∙ (ap (λ (x : KeptSession). x.name) r ∙ name_at name ss i s f));
}

pub gone_at : (name : List ℕ) (ss : List KeptSession) (i : ℕ) → IsFirstNamed name ss i → remove ss i ≡ without_kept ss name
gone_at name [] i f = absurd f
gone_at name (o ∷ ss) zero f = rw (is_named o.name name f) refl
gone_at name (o ∷ ss) (suc i) f = by (bytes_eq o.name name) refl (gone_at name ss i f.1)
  where
    by : (b : Bool) → bytes_eq o.name name ≡ b → remove ss i ≡ without_kept ss name
        → (o ∷ remove ss i) ≡ (if b then ss else o ∷ without_kept ss name)
    by true k r = absurd (f.0 (same_name o.name name k))
    by false k r = ap (λ x. o ∷ x) r

pub none_all : (name : List ℕ) (ss : List KeptSession) (i : ℕ) → AreOthers name (take i ss) → length ss ≤ i → kept_named ss name ≡ None
none_all name [] i a l = refl
none_all name (o ∷ ss) zero a l = absurd (omega arith)
none_all name (o ∷ ss) (suc i) a l = rw a.0 (none_all name ss i a.1 (omega arith))

pub found : (name : List ℕ) (ss : List KeptSession) (i : ℕ) (x : KeptSession) (b : Bool) → AreOthers name (take i ss) → i < length ss
    → x ≡ get_or ss i x → b ≡ bytes_eq x.name name → b ≡ true → IsFirstNamed name ss i
found name ss i x b a l is test k = first_named name ss i x a l (ap (λ (y : KeptSession). bytes_eq y.name name) (sym is) ∙ (sym test ∙ k))

-- ---- in a list `items` that is the sessions' `old`, searched as `ss`
pub changed : (name : List ℕ) (old ss items : List KeptSession) (i : ℕ) (s u : KeptSession) → old ≡ items → ss ≡ items → IsIndexOf name ss i
    → s ≡ get_or items i s → u.name ≡ s.name → IsKeptChange name s u old (slice_set items i u)
changed name old ss items i s u e d f r n = rw (e, sym d) (changed_at name ss i s u f.first (rw d r) n)

pub there : (name : List ℕ) (old ss items : List KeptSession) (i : ℕ) (s : KeptSession) → old ≡ items → ss ≡ items → IsIndexOf name ss i
    → s ≡ get_or items i s → kept_named old name ≡ Some s
there name old ss items i s e d f r = rw (e, sym d) (named_at name ss i s f.first ∙ ap (λ x. Some x) (sym (rw d r)))

-- the session of the name, once the one at the index has changed
after : (name : List ℕ) (ss : List KeptSession) (i : ℕ) (u : KeptSession) → IsFirstNamed name ss i → u.name ≡ name
    → kept_named (slice_set ss i u) name ≡ Some u
after name [] i u f e = absurd f
after name (o ∷ ss) zero u f e = rw (is_named u.name name e) refl
after name (o ∷ ss) (suc i) u f e = by (bytes_eq o.name name) refl (after name ss i u f.1 e)
  where
    by : (b : Bool) → bytes_eq o.name name ≡ b → kept_named (slice_set ss i u) name ≡ Some u
        → (if b then Some o else kept_named (slice_set ss i u) name) ≡ Some u
    by true k r = absurd (f.0 (same_name o.name name k))
    by false k r = r

named_eq : (name : List ℕ) (ss items : List KeptSession) (i : ℕ) (s : KeptSession) → ss ≡ items → s ≡ get_or items i s
    → s.name ≡ (get_or ss i s).name
named_eq name ss items i s d r = ap (λ (x : KeptSession). x.name) (r ∙ ap (λ xs. get_or xs i s) (sym d))

pub named_after : (name : List ℕ) (ss items : List KeptSession) (i : ℕ) (s u : KeptSession) → ss ≡ items → IsIndexOf name ss i
    → s ≡ get_or items i s → u.name ≡ s.name → kept_named (slice_set items i u) name ≡ Some u
named_after name ss items i s u d f r n = rw (sym d) (after name ss i u f.first (n
    ∙ (named_eq name ss items i s d r ∙ name_at name ss i s f.first)))

pub room_there : (ss : List KeptSession) (name : List ℕ) (s : KeptSession) → HasRoom ss name → kept_named ss name ≡ Some s → 1 ≤ s.room
room_there ss name s r e = let t : Some r.session ≡ Some s = sym r.there ∙ e in let same : r.session ≡ s = cc
    in subst (λ (x : KeptSession). 1 ≤ x.room) same r.room

gone_after : (name : List ℕ) (ss : List KeptSession) (i : ℕ) (u : KeptSession) → IsFirstNamed name ss i
    → remove (slice_set ss i u) i ≡ without_kept ss name
gone_after name [] i u f = absurd f
gone_after name (o ∷ ss) zero u f = rw (is_named o.name name f) refl
gone_after name (o ∷ ss) (suc i) u f = by (bytes_eq o.name name) refl (gone_after name ss i u f.1)
  where
    by : (b : Bool) → bytes_eq o.name name ≡ b → remove (slice_set ss i u) i ≡ without_kept ss name
        → (o ∷ remove (slice_set ss i u) i) ≡ (if b then ss else o ∷ without_kept ss name)
    by true k r = absurd (f.0 (same_name o.name name k))
    by false k r = ap (λ x. o ∷ x) r

pub gone : (name : List ℕ) (old ss items : List KeptSession) (i : ℕ) (u : KeptSession) → old ≡ items → ss ≡ items → IsIndexOf name ss i
    → remove (slice_set items i u) i ≡ without_kept old name
gone name old ss items i u e d f = rw (e, sym d) (gone_after name ss i u f.first)

pub gone_whole : (name : List ℕ) (old ss items : List KeptSession) (i : ℕ) → old ≡ items → ss ≡ items → IsIndexOf name ss i
    → remove items i ≡ without_kept old name
gone_whole name old ss items i e d f = rw (e, sym d) (gone_at name ss i f.first)

some_at : (name : List ℕ) (ss : List KeptSession) (i : ℕ) → IsFirstNamed name ss i → is_some (kept_named ss name) ≡ true
some_at name [] i f = absurd f
some_at name (o ∷ ss) zero f = rw (is_named o.name name f) refl
some_at name (o ∷ ss) (suc i) f = by (bytes_eq o.name name) (some_at name ss i f.1)
  where
    by : (b : Bool) → is_some (kept_named ss name) ≡ true → is_some (if b then Some o else kept_named ss name) ≡ true
    by true r = refl
    by false r = r

pub is_there : (name : List ℕ) (old ss : List KeptSession) (o : Option ℕ) → ss ≡ old
    → MatchOption o (kept_named ss name ≡ None) (IsIndexOf name ss) → is_some o ≡ is_some (kept_named old name)
is_there name old ss None d m = rw (← d) (rw m refl)
is_there name old ss (Some i) d m = rw (← d) (sym (some_at name ss i m.first))

pub not_none : (name : List ℕ) (old ss : List KeptSession) (i : ℕ) → ss ≡ old → IsIndexOf name ss i → kept_named old name ≢ None
not_none name old ss i d f = λ n. let t : is_some (kept_named ss name) ≡ true = some_at name ss i f.first
    in let m : kept_named ss name ≡ None = rw d n in absurd cc

-- ---- where a new session stands
-- the name is below none of these
abbrev pub AreBelow : List ℕ → List KeptSession → Type 0
AreBelow name ss = Every (λ (o : KeptSession). is_below name o.name ≡ false) ss

pub place_found : (name : List ℕ) (ss : List KeptSession) (i : ℕ) (x : KeptSession) → AreBelow name (take i ss) → i < length ss
    → x ≡ get_or ss i x → is_below name x.name ≡ true → IsPlaceFor name ss i
place_found name ss i x a l is t = at ss i a l (ap (λ (y : KeptSession). is_below name y.name) (sym is) ∙ t)
  where
    at : (xs : List KeptSession) (j : ℕ) → AreBelow name (take j xs) → j < length xs → is_below name (get_or xs j x).name ≡ true
        → IsPlaceFor name xs j
    at [] j a l t = absurd (omega arith)
    at (o ∷ xs) zero a l t = t
    at (o ∷ xs) (suc j) a l t = (a.0, at xs j a.1 (omega arith) t)

pub place_end : (name : List ℕ) (ss : List KeptSession) (i n : ℕ) → AreBelow name (take i ss) → length ss ≤ i → n ≡ length ss
    → IsPlaceFor name ss n
place_end name [] i n a l e = tt
place_end name (o ∷ ss) zero n a l e = absurd (omega arith)
place_end name (o ∷ ss) (suc i) zero a l e = absurd (omega (arith, e))
place_end name (o ∷ ss) (suc i) (suc n) a l e = (a.0, place_end name ss i n a.1 (omega arith) (omega (arith, e)))

opened_at : (name : List ℕ) (ss : List KeptSession) (i : ℕ) (s : KeptSession) → IsPlaceFor name ss i → i ≤ length ss → s.name ≡ name
    → insert ss i s ≡ with_kept_opened ss s
opened_at name [] zero s p l e = refl
opened_at name [] (suc i) s p l e = absurd (omega arith)
opened_at name (o ∷ ss) zero s p l e = let q : is_below s.name o.name ≡ true = rw e p in rw q refl
opened_at name (o ∷ ss) (suc i) s p l e =
    let q : is_below s.name o.name ≡ false = rw e p.0 in
    let r : insert ss i s ≡ with_kept_opened ss s = opened_at name ss i s p.1 (omega arith) e in
    rw (q, ← r) refl

pub below_of : (name other own : List ℕ) (b : Bool) → other ≡ own → b ≡ is_below name other → b ≡ true → is_below name own ≡ true
below_of name other own b e t y = rw (← e) (sym t ∙ y)

pub begun_at : (name : List ℕ) (old items new : List KeptSession) (i : ℕ) (s : KeptSession) → old ≡ items → IsPlaceFor name items i
    → i ≤ length items → s.name ≡ name → new ≡ insert items i s → new ≡ with_kept_opened old s
begun_at name old items new i s e p l n q = q ∙ (opened_at name items i s p l n ∙ ap (λ xs. with_kept_opened xs s) (sym e))

pub none_open : (o : Option KeptSession) (b : Bool) → b ≡ is_some o → b ≡ false → o ≡ None
none_open None b e f = refl
none_open (Some x) b e f = cc

pub any_whole : (p : KeptStep → Bool) (n : ℕ) (ts : List KeptStep) → list_any p ts ≡ list_any p (take n ts ++ drop n ts)
any_whole p n ts = ap (list_any p) (sym (take-append-drop n ts))

pub fewer : (old items : List KeptSession) (n : ℕ) → old ≡ items → length items ≤ 16 → n ≡ length old → n ≢ 16 → length old < 16
fewer old items n e l k f = let m : length old ≤ 16 = rw e l in grind (arith, m, k, f)
