-- A project that is checked subject by subject, by the rules before the one that was found.
use Rattle.std.proofs.Common.{◌≡◌, ℕ, ◌<◌, ◌≤◌, ◌+◌, zero, suc, List, [], ◌∷◌, Option, Some, None, refl, sym, ◌∙◌, ap, subst, arith, take, length, get_or}
use Rattle.std.specs.Prelude.{MatchOption}
use Rattle.std.proofs.lemmas.List.{take_all, get_or_default}
use Rattle.plane_terms.specs.Lists.{Every, Paired}
use Rattle.plane_terms.specs.Rectangle.{Rectangle}
use Rattle.plane_terms.proofs.ListLemmas.{IsAmong}
use Rattle.topology_terms.specs.Feature.{Feature}
use Rattle.topology_terms.specs.Entry.{Entry}
use Rattle.topology_terms.specs.Meaning.{Meaning, Laws}
use Rattle.topology_terms.specs.Project.{Project, InForce, AreAscending}
use Rattle.topology_terms.specs.Sound.{IsSoundAt}
use Rattle.topology_terms.specs.Unsound.{IsFirstUnsound}
use Rattle.validation_laws.specs.Parts.{IsRising}
use Rattle.sound_check.proofs.Pairs.{every_more, every_there}
use Rattle.project_check.specs.Checked.{IsChecked}
use Rattle.project_check.specs.declared.check.Unsound.{Unsound}
use Rattle.project_check.specs.Subjects.{HasLists, HasSubjects, IsFirstNot, IsSoundFor, IsBroken}
use Rattle.project_check.proofs.Sound.{IsSoundBy, other_sound, all_hold, first_not, sound_under, first_unsound}

-- ---- two lists side by side
pub record IsThere {A B : Type 0} (P : A → B → Type 0) (xs : List A) (i : ℕ) (y : B) : Type 0 where
  pub x : A
  pub within : i < length xs
  pub is : x ≡ get_or xs i x
  pub holds : P x y

pub paired_there : {A B : Type 0} (P : A → B → Type 0) (xs : List A) (ys : List B) (i : ℕ) (y : B) → Paired P xs ys → i < length ys
    → y ≡ get_or ys i y → IsThere P xs i y
paired_there P [] [] i y h l e = absurd (omega arith)
paired_there P [] (z ∷ ys) i y h l e = absurd h
paired_there P (x ∷ xs) [] i y h l e = absurd h
paired_there P (x ∷ xs) (z ∷ ys) zero y h l e = record { x = x; within = omega arith; is = refl; holds = subst (P x) (sym e) h.0 }
paired_there P (x ∷ xs) (z ∷ ys) (suc i) y h l e =
    let t = paired_there P xs ys i y h.1 (omega arith) e in
    record { x = t.x; within = omega (arith, t.within); is = t.is; holds = t.holds }

pub paired_length : {A B : Type 0} (P : A → B → Type 0) (xs : List A) (ys : List B) → Paired P xs ys → length xs ≡ length ys
paired_length P [] [] h = refl
paired_length P [] (y ∷ ys) h = absurd h
paired_length P (x ∷ xs) [] h = absurd h
paired_length P (x ∷ xs) (y ∷ ys) h = ap suc (paired_length P xs ys h.1)

-- ---- the front of a list
both : {A : Type 0} (P Q R : A → Type 0) → ((x : A) → P x → Q x → R x) → (xs : List A) → Every P xs → Every Q xs → Every R xs
both P Q R f [] h k = tt
both P Q R f (x ∷ xs) h k = (f x h.0 k.0, both P Q R f xs h.1 k.1)

fewer : {A : Type 0} (P : A → Type 0) (xs : List A) (k n : ℕ) → k ≤ n → Every P (take n xs) → Every P (take k xs)
fewer P xs zero n l h = tt
fewer P [] (suc k) n l h = tt
fewer P (x ∷ xs) (suc k) zero l h = absurd (omega arith)
fewer P (x ∷ xs) (suc k) (suc n) l h = (h.0, fewer P xs k n (omega arith) h.1)

front_twice : {A : Type 0} (xs : List A) (k n : ℕ) → k ≤ n → take k (take n xs) ≡ take k xs
front_twice xs zero n l = refl
front_twice [] (suc k) zero l = refl
front_twice [] (suc k) (suc n) l = refl
front_twice (x ∷ xs) (suc k) zero l = absurd (omega arith)
front_twice (x ∷ xs) (suc k) (suc n) l = ap (λ ys. x ∷ ys) (front_twice xs k n (omega arith))

front_there : {A : Type 0} (xs : List A) (k n : ℕ) (d : A) → k < n → get_or (take n xs) k d ≡ get_or xs k d
front_there xs k zero d l = absurd (omega arith)
front_there [] k (suc n) d l = refl
front_there (x ∷ xs) zero (suc n) d l = refl
front_there (x ∷ xs) (suc k) (suc n) d l = front_there xs k n d (omega arith)

front_short : {A : Type 0} (xs : List A) (k n : ℕ) → k < length (take n xs) → (k < n) × (k < length xs)
front_short xs k zero l = absurd (omega arith)
front_short [] k (suc n) l = absurd (omega arith)
front_short (x ∷ xs) zero (suc n) l = (omega arith, omega arith)
front_short (x ∷ xs) (suc k) (suc n) l = let y = front_short xs k n (omega arith) in (omega (arith, y.0), omega (arith, y.1))

pub front_within : {A : Type 0} (xs : List A) (k n : ℕ) → k < length (take n xs) → k < length xs
front_within xs k n l = (front_short xs k n l).1

-- the element there is the element of the whole list
pub front_same : {A : Type 0} (xs : List A) (k n : ℕ) (x y : A) → k < length (take n xs) → x ≡ get_or (take n xs) k x → y ≡ get_or xs k y
    → y ≡ x
front_same xs k n x y l e d =
    let s = front_short xs k n l in
    d ∙ (get_or_default xs k y x s.1 ∙ (sym (front_there xs k n x s.0) ∙ sym e))

-- ---- so far
abbrev SoundOn : Meaning → Project → List ℕ → InForce → Type 0
SoundOn M p ns q = Every (λ a. IsSoundAt M p q.number q.row a) ns

pub record IsFound (M : Meaning) (p : Project) (rules : List InForce) (left : ℕ) (u : Unsound) : Type 0 where
  pub q : InForce
  pub within : left < length rules
  pub is : q ≡ get_or rules left q
  pub rule : u.rule ≡ q.number
  pub first : IsFirstNot (λ a. IsSoundAt M p q.number q.row a) u.subject

-- the rules before `left` are sound at these subjects, and what was found is where the next one is not first
pub record IsSeen (M : Meaning) (p : Project) (rules : List InForce) (ns : List ℕ) (left : ℕ) (u : Option Unsound) : Type 0 where
  pub sound : Every (λ (q : InForce). Every (λ a. IsSoundAt M p q.number q.row a) ns) (take left rules)
  pub found : MatchOption u (left ≡ length rules) (IsFound M p rules left)

nowhere : (M : Meaning) (p : Project) (rules : List InForce) → Every (SoundOn M p []) rules
nowhere M p [] = tt
nowhere M p (q ∷ rules) = (tt, nowhere M p rules)

pub seen_none : (M : Meaning) (p : Project) (rules : List InForce) (left : ℕ) → left ≡ length rules → IsSeen M p rules [] left None
seen_none M p rules left e = record { sound = nowhere M p (take left rules); found = e }

module _ (M : Meaning) (p : Project) (rules : List InForce) (ns : List ℕ) (i a left : ℕ) (found : Option Unsound) (l : i < length ns)
    (e : a ≡ get_or ns i a) (s : IsSeen M p rules (take i ns) left found) where
  more : (k : ℕ) → k ≤ left → Every (IsSoundFor M p a) (take k rules) → Every (SoundOn M p (take (i + 1) ns)) (take k rules)
  more k m h = both (SoundOn M p (take i ns)) (IsSoundFor M p a) (SoundOn M p (take (i + 1) ns))
      (λ q was now. every_more (λ b. IsSoundAt M p q.number q.row b) ns i a l e was now) (take k rules)
      (fewer (SoundOn M p (take i ns)) rules k left m s.sound) h

  pub seen_more : Every (IsSoundFor M p a) (take left rules) → IsSeen M p rules (take (i + 1) ns) left found
  seen_more h = record { sound = more left (omega arith) h; found = s.found }

  pub seen_found : (k : ℕ) (u : Unsound) (b : IsBroken M p (take left rules) a k) → IsRising ns
      → ((q : InForce) → q ≡ get_or rules k q → k < length rules → (n : ℕ) → ¬ (IsAmong n ns) → IsSoundAt M p q.number q.row n)
      → u.rule ≡ b.rule.number → u.subject ≡ a → IsSeen M p rules (take (i + 1) ns) k (Some u)
  seen_found k u b rising other r t =
      let q = b.rule in
      let y = front_short rules k left b.within in
      let is : q ≡ get_or rules k q = b.is ∙ front_there rules k left q y.0 in
      record {
        sound = more k (omega (arith, y.0)) (subst (Every (IsSoundFor M p a)) (front_twice rules k left (omega (arith, y.0))) b.before);
        found = record {
          q = q;
          within = y.1;
          is = is;
          rule = r;
          first = subst (IsFirstNot (λ n. IsSoundAt M p q.number q.row n)) (sym t) (first_not (λ n. IsSoundAt M p q.number q.row n) ns i a
              (other q is y.1) rising l e (every_there (SoundOn M p (take i ns)) (take left rules) k q s.sound b.within b.is) b.fails);
        };
      }

-- ---- at the end
module _ (M : Meaning) (L : Laws M) (p : Project) (F : List Feature) (d : List Rectangle) (es : List Entry) (rules : List InForce)
    (ns : List ℕ) (h : HasLists p F d es) (all : HasSubjects F es ns) where
  everywhere : (qs : List InForce) → Every (λ (q : InForce). M.Fits q.row F) qs → Every (SoundOn M p ns) qs → Every (IsSoundBy M p) qs
  everywhere qs fits s = both (λ (q : InForce). M.Fits q.row F) (SoundOn M p ns) (IsSoundBy M p)
      (λ q u k. all_hold (λ a. IsSoundAt M p q.number q.row a) ns (other_sound M L p F d es ns q.number q.row h all u) k) qs fits s

  pub checked : (left : ℕ) (found : Option Unsound) → p.rules ≡ rules → AreAscending rules → Every (λ (q : InForce). M.Fits q.row F) rules
      → IsSeen M p rules ns left found → IsChecked M p found
  checked left None is u fits s = sound_under M p rules is (everywhere rules fits
      (subst (Every (SoundOn M p ns)) (take_all left rules (omega (arith, s.found))) s.sound))
  checked left (Some x) is u fits s =
      let f = s.found in
      subst (λ r. IsFirstUnsound M p r x.subject) (sym f.rule) (first_unsound M p rules left f.q x.subject is u f.within f.is
      (everywhere (take left rules) (fewer (λ (q : InForce). M.Fits q.row F) rules left (length rules) (omega (arith, f.within))
      (subst (Every (λ (q : InForce). M.Fits q.row F)) (sym (take_all (length rules) rules (omega arith))) fits)) s.sound) f.first)
