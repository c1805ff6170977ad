-- The entries of a rule and a subject, stored and fresh.
use Rattle.std.proofs.Common.{◌≡◌, ◌↔◌, ◌∙◌, ℕ, ◌+◌, ◌<◌, length, get_or, Bool, true, false, IsTrue, List, [], ◌∷◌, take, Option, Some, None, refl, sym, subst}
use Rattle.std.proofs.lemmas.Bool.{false≢true}
use Rattle.std.proofs.lemmas.List.{take_more}
use Rattle.std.proofs.lemmas.Option.{same_Some, none-some}
use Rattle.plane_terms.specs.Lists.{Every}
use Rattle.plane_terms.proofs.ListLemmas.{every_append, every_map, every_at}
use Rattle.plane_terms.proofs.Truths.{same_by_truth}
use Rattle.plane_terms.specs.Point.{Point}
use Rattle.plane_terms.specs.Rectangle.{Rectangle}
use Rattle.plane_terms.specs.Cell.{InCells}
use Rattle.plane_terms.specs.Dirt.{Covers, MeetsDirt}
use Rattle.topology_terms.specs.Entry.{Entry, by_key, entry_at, HasCellsAt, HasWhole, IsAscending}
use Rattle.sound_laws.proofs.Keyed as keyed
use Rattle.sound_laws.proofs.Lists.{keys, entry_key, every_found}
use Rattle.sound_check.specs.Rest.{IsWithinOff}
use Rattle.error_store.specs.Pairs.{IsOf}
use Rattle.sound_check.specs.Pairs.{LiesIn, IsEntrySound, WholesAgree, IsSoundPair}

-- ---- lists
pub every_more : {A : Type 0} (P : A → Type 0) (xs : List A) (i : ℕ) (x : A) → i < length xs → x ≡ get_or xs i x → Every P (take i xs)
    → P x → Every P (take (i + 1) xs)
every_more P xs i x l e h k =
    subst (Every P) (sym (take_more xs i x l)) (every_append P (take i xs) (get_or xs i x ∷ []) h (subst P e k, tt))

pub every_there : {A : Type 0} (P : A → Type 0) (xs : List A) (i : ℕ) (x : A) → Every P xs → i < length xs → x ≡ get_or xs i x → P x
every_there P xs i x h l e = subst P (sym e) (every_at P xs i x h l)

each_entry : (P : Entry → Type 0) (es : List Entry) → IsAscending es
    → ((r a b : ℕ) (e : Entry) → entry_at es r a b ≡ Some e → P e) → Every P es
unfolding entry_at
each_entry P es u h = keyed.each_found by_key keys P es u (λ k e at. h k.0 k.1 k.2 e at)

-- ---- an entry
pub lies_there : (d : List Rectangle) (es : List Entry) (e x : Entry) → entry_at es e.rule e.subject e.other ≡ Some x
    → IsWithinOff d e.cells x.cells ↔ LiesIn d es e
lies_there d es e x at = (
  λ w q n i. (x, at, w q n i),
  λ l q n i. let h = l q n i in subst (λ (y : Entry). InCells y.cells q) (same_Some h.0 x (sym h.1 ∙ at)) h.2,
)

pub lies_nowhere : (d : List Rectangle) (es : List Entry) (e : Entry) → entry_at es e.rule e.subject e.other ≡ None
    → IsWithinOff d e.cells [] ↔ LiesIn d es e
lies_nowhere d es e at = (
  λ w q n i. absurd (w q n i),
  λ l q n i. let h = l q n i in absurd (none-some h.0 (sym at ∙ h.1)),
)

pub whole_there : (es : List Entry) (r a : ℕ) (x : Entry) → entry_at es r a 0 ≡ Some x → (x.whole ≡ true) ↔ HasWhole es r a
whole_there es r a x at = (
  λ w. (x, at, w),
  λ h. subst (λ (y : Entry). y.whole ≡ true) (same_Some h.0 x (sym h.1 ∙ at)) h.2,
)

pub whole_nowhere : (es : List Entry) (r a : ℕ) → entry_at es r a 0 ≡ None → ¬ (HasWhole es r a)
whole_nowhere es r a at h = none-some h.0 (sym at ∙ h.1)

-- where one list alone has a whole entry, both agree exactly if the envelope meets the dirt
pub wholes_apart : (d : List Rectangle) (o : Option Rectangle) (s : Rectangle) (fresh stored : List Entry) (r a : ℕ) (t u m : Bool)
    → o ≡ Some s → IsTrue t ↔ HasWhole stored r a → IsTrue u ↔ HasWhole fresh r a → ¬ (t ≡ u) → IsTrue m ↔ MeetsDirt d s
    → IsTrue m ↔ WholesAgree d o fresh stored r a
wholes_apart d o s fresh stored r a t u true is h k n meets = (
  λ yes x e clear. absurd (clear (subst (MeetsDirt d) (same_Some s x (sym is ∙ e)) (meets.0 refl))),
  λ w. refl,
)
wholes_apart d o s fresh stored r a t u false is h k n meets = (
  λ yes. absurd (false≢true yes),
  λ w.
      let both = w s is (λ x. false≢true (meets.1 x)) in
      absurd (n (same_by_truth t u (λ x. k.1 (both.0 (h.0 x))) (λ x. h.1 (both.1 (k.0 x))))),
)

-- ---- a rule and a subject
module _ (d : List Rectangle) (o : Option Rectangle) (fresh stored : List Entry) (r a : ℕ) where
  own_at : (es : List Entry) (k c b : ℕ) (e : Entry) → Every (IsOf r a) es → entry_at es k c b ≡ Some e → entry_at es r a b ≡ Some e
  own_at es k c b e u at =
      let i = every_found (IsOf r a) es k c b e u at in
      let j = entry_key es k c b e at in
      subst (λ n. entry_at es r n b ≡ Some e) (sym j.1 ∙ i.subject) (subst (λ n. entry_at es n c b ≡ Some e) (sym j.0 ∙ i.rule) at)

  -- the points of an entry, by its own key and by that of the pair
  by_pair : (es : List Entry) (e : Entry) (b : ℕ) (q : Point) → e.rule ≡ r → e.subject ≡ a → e.other ≡ b
      → HasCellsAt es e.rule e.subject e.other q → HasCellsAt es r a b q
  by_pair es e b q i j k h = rw (i, j, k) at h

  by_own : (es : List Entry) (e : Entry) (b : ℕ) (q : Point) → e.rule ≡ r → e.subject ≡ a → e.other ≡ b
      → HasCellsAt es r a b q → HasCellsAt es e.rule e.subject e.other q
  by_own es e b q i j k h = rw (i, j, k) h

  all_within : (es fs : List Entry) → IsAscending es → Every (IsOf r a) es
      → ((q : Point) → ¬ (Covers d q) → (b : ℕ) → HasCellsAt es r a b q → HasCellsAt fs r a b q) → (k c b : ℕ) (e : Entry)
      → entry_at es k c b ≡ Some e → LiesIn d fs e
  all_within es fs u v h k c b e at q n i =
      let own = own_at es k c b e v at in
      let j = entry_key es r a b e own in
      by_own fs e b q j.0 j.1 j.2 (h q n b (e, own, i))

  each_within : (es fs : List Entry) → Every (LiesIn d fs) es → (q : Point) → ¬ (Covers d q) → (b : ℕ) → HasCellsAt es r a b q
      → HasCellsAt fs r a b q
  each_within es fs v q n b h =
      let j = entry_key es r a b h.0 h.1 in
      by_pair fs h.0 b q j.0 j.1 j.2 (every_found (LiesIn d fs) es r a b h.0 v h.1 q n h.2)

  pub pair_sound : WholesAgree d o fresh stored r a → Every (LiesIn d stored) fresh → Every (IsEntrySound d o fresh) stored
      → IsSoundPair d o fresh stored r a
  pair_sound w f s = record {
    points = λ q n b. (
      each_within stored fresh (every_as s) q n b,
      each_within fresh stored f q n b,
    );
    whole = w;
    cells = λ b e at. (every_found (IsEntrySound d o fresh) stored r a b e s at).framed;
    frames = λ b e at. (every_found (IsEntrySound d o fresh) stored r a b e s at).stands;
  }
    where
      every_as : Every (IsEntrySound d o fresh) stored → Every (LiesIn d fresh) stored
      every_as h = every_map (IsEntrySound d o fresh) (LiesIn d fresh) (λ e k. k.within) stored h

  pub fresh_lie : IsAscending fresh → Every (IsOf r a) fresh → IsSoundPair d o fresh stored r a → Every (LiesIn d stored) fresh
  fresh_lie u v s = each_entry (LiesIn d stored) fresh u (all_within fresh stored u v (λ q n b. (s.points q n b).1))

  pub stored_sound : IsAscending stored → Every (IsOf r a) stored → IsSoundPair d o fresh stored r a → Every (IsEntrySound d o fresh) stored
  stored_sound u v s = each_entry (IsEntrySound d o fresh) stored u (λ k c b e at. record {
    stands = s.frames b e (own_at stored k c b e v at);
    framed = s.cells b e (own_at stored k c b e v at);
    within = all_within stored fresh u v (λ q n b. (s.points q n b).0) k c b e at;
  })
