-- Where each frame in the index is an error's, this stays so when errors go and others come.
use Rattle.std.proofs.Common.{◌≡◌, ◌⊎◌, ◌↔◌, map, inl, inr, ℕ, Bool, true, false, not, cond, ◌==◌, List, [], ◌∷◌, Option, Some, None, arith, refl, sym, ◌∙◌, ap, subst, Contains}
use Rattle.std.specs.List.{filter}
use Rattle.std.proofs.lemmas.Bool.{cases_Bool}
use Rattle.plane_terms.specs.Lists.{SomeOf}
use Rattle.plane_terms.proofs.ListLemmas.{every_filter}
use Rattle.topology_terms.specs.Entry.{Entry, by_key, entry_at, IsAscending}
use Rattle.sound_laws.proofs.Keyed.{some_found, found_some}
use Rattle.sound_laws.proofs.Lists.{keys, every_found, entry_key}
use Rattle.validation_laws.specs.Replaced.{AreRemarked, IsReplaced, IsNewOf, AreFresh}
use Rattle.grid_index.specs.declared.placed.Placed.{Placed}
use Rattle.error_store.specs.Runs.{is_of}
use Rattle.error_store.specs.Frames.{framed_of, frames_if, IsFrame, AreFramed, AreFrames, LosesRule}
use Rattle.error_store.proofs.Dropping.{is_other}
use Rattle.error_store.proofs.Framing.{these_frames, frame_of_these, framed_kept, frames_stand}
use Rattle.error_store.proofs.Leaving.{within, among, selected_or_not}

abbrev pub IsAt : Placed → Entry → Type 0
IsAt q e = framed_of e ≡ q

-- the frame of one that passes is noted, and the one stays where those that pass are kept
pub some_passed : (P : Entry → Type 0) (p : Entry → Bool) (es : List Entry) → SomeOf (λ (e : Entry). P e × (p e ≡ true)) es
    → SomeOf P (filter p es)
some_passed P p [] s = s
some_passed P p (x ∷ es) s = elim s [
  | inl k ↦ subst (λ b. SomeOf P (cond b (x ∷ filter p es) (filter p es))) (sym k.1) (inl k.0)
  | inr k ↦ behind (p x) (some_passed P p es k)
]
  where
    behind : (b : Bool) → SomeOf P (filter p es) → SomeOf P (cond b (x ∷ filter p es) (filter p es))
    behind true h = inr h
    behind false h = h

noted : (p : Entry → Bool) (es : List Entry) (q : Placed) → SomeOf (λ (e : Entry). IsAt q e × (p e ≡ true)) es → Contains (frames_if p es) q
noted p es q s = these_frames (filter p es) q (some_passed (IsAt q) p es s)

-- ---- after a replacement
at_new : (q : Placed) (o f : Option Entry) (g : Entry) (new : List Entry) (r a b : ℕ) (n : Option Entry) → entry_at new r a b ≡ n
    → f ≡ Some g → framed_of g ≡ q → AreRemarked o f n → IsFrame new q
unfolding entry_at
at_new q o f g new r a b None e t is h = absurd (subst (λ x. AreRemarked o x None) t h)
at_new q o f g new r a b (Some m) e t is h =
    let k = subst (λ x. AreRemarked o x (Some m)) t h in
    found_some by_key keys (IsAt q) new (r, a, b) m e (ap framed_of k.same ∙ is)

came : (selected : List ℕ) (old fresh new : List Entry) (q : Placed) → IsAscending fresh → AreFresh selected fresh
    → IsReplaced selected old fresh new → IsFrame fresh q → IsFrame new q
unfolding entry_at
came selected old fresh new q u v h s =
    let f = some_found by_key keys (IsAt q) fresh u s in
    let r = f.0.rule in
    let a = f.0.subject in
    let b = f.0.other in
    let chosen = every_found (IsNewOf selected) fresh r a b f.0 v f.1 in
    at_new q (entry_at old r a b) (entry_at fresh r a b) f.0 new r a b (entry_at new r a b) refl f.1 f.2 (h.came r a b chosen.chosen)

kept : (selected : List ℕ) (old fresh new : List Entry) (gone : List Placed) (q : Placed) → IsAscending old
    → IsReplaced selected old fresh new → gone ≡ frames_if (is_of selected) old → (Contains gone q → IsFrame new q) → IsFrame old q
    → IsFrame new q
unfolding entry_at
kept selected old fresh new gone q u h same left s =
    let f = some_found by_key keys (IsAt q) old u s in
    let r = f.0.rule in
    let a = f.0.subject in
    let b = f.0.other in
    elim (selected_or_not selected a) [
      | inl c ↦
          left (subst (λ ps. Contains ps q) (sym same) (noted (is_of selected) old q
          (found_some by_key keys (λ (e : Entry). IsAt q e × (is_of selected e ≡ true)) old (r, a, b) f.0 f.1 (f.2, among selected a c))))
      | inr out ↦ found_some by_key keys (IsAt q) new (r, a, b) f.0 (h.kept r a b out ∙ f.1) f.2
    ]

pub frames_replaced : (selected : List ℕ) (old fresh new : List Entry) (gone ps qs rs : List Placed) → IsAscending old → IsAscending fresh
    → AreFresh selected fresh → IsReplaced selected old fresh new → gone ≡ frames_if (is_of selected) old
    → ((q : Placed) → Contains qs q → Contains ps q ⊎ IsFrame fresh q)
    → ((q : Placed) → Contains rs q → Contains qs q × (Contains gone q → IsFrame fresh q))
    → AreFrames ps old → AreFrames rs new
frames_replaced selected old fresh new gone ps qs rs u v w h same only left before q c =
    let l = left q c in
    elim (only q l.0) [
      | inl k ↦ kept selected old fresh new gone q u h same (λ g. came selected old fresh new q v w h (l.1 g)) (before q k)
      | inr s ↦ came selected old fresh new q v w h s
    ]

-- a frame that comes and stood before is that of one that goes
its_subject : (selected : List ℕ) (fresh : List Entry) (q : Placed) → AreFresh selected fresh → IsFrame fresh q → Contains selected q.handle
its_subject selected [] q v s = absurd s
its_subject selected (x ∷ es) q v s = elim s [
  | inl e ↦ subst (Contains selected) (ap (λ (p : Placed). p.handle) e) v.0.chosen
  | inr k ↦ its_subject selected es q v.1 k
]

of_chosen : (selected : List ℕ) (es : List Entry) (q : Placed) → Contains selected q.handle → IsFrame es q
    → SomeOf (λ (e : Entry). IsAt q e × (is_of selected e ≡ true)) es
of_chosen selected [] q c s = absurd s
of_chosen selected (x ∷ es) q c s = elim s [
  | inl e ↦ inl (e, among selected x.subject (subst (Contains selected) (sym (ap (λ (p : Placed). p.handle) e)) c))
  | inr k ↦ inr (of_chosen selected es q c k)
]

pub came_of_gone : (selected : List ℕ) (old fresh : List Entry) (gone ps : List Placed) → AreFresh selected fresh
    → gone ≡ frames_if (is_of selected) old → AreFrames ps old → (q : Placed) → IsFrame fresh q → Contains ps q → Contains gone q
came_of_gone selected old fresh gone ps v same only q s c = subst (λ ps. Contains ps q) (sym same) (noted (is_of selected) old q
    (of_chosen selected old q (its_subject selected fresh q v s) (only q c)))

pub those_standing : (selected : List ℕ) (old fresh : List Entry) (gone came ps : List Placed) (S : Placed → Type 0) → AreFresh selected fresh
    → gone ≡ frames_if (is_of selected) old → came ≡ map framed_of fresh → AreFramed ps old → AreFrames ps old
    → ((q : Placed) → Contains came q → S q ↔ Contains gone q) → (q : Placed) → Contains came q → S q ↔ Contains ps q
those_standing selected old fresh gone came ps S v same these framed only h q m =
    let k = h q m in (
      λ s. frames_stand ps (is_of selected) old framed q (subst (λ xs. Contains xs q) same (k.0 s)),
      λ c. k.1 (came_of_gone selected old fresh gone ps v same only q (frame_of_these fresh q (subst (λ xs. Contains xs q) these m)) c),
    )

-- where no error goes and none comes all stay as they are
pub nothing_replaced : (selected : List ℕ) (old fresh : List Entry) → frames_if (is_of selected) old ≡ [] → fresh ≡ []
    → IsReplaced selected old fresh old
unfolding entry_at
nothing_replaced selected old fresh none empty = rw empty (record {
  kept = λ r a b out. refl;
  came = λ r a b c. by r a b c (entry_at old r a b) refl;
})
  where
    by : (r a b : ℕ) → Contains selected a → (o : Option Entry) → entry_at old r a b ≡ o → AreRemarked o (entry_at [] r a b) o
    by r a b c None e = tt
    by r a b c (Some e) k =
        let own = subst (Contains selected) (sym (entry_key old r a b e k).1) c in
        let q = framed_of e in
        let there = noted (is_of selected) old q (found_some by_key keys (λ (x : Entry). IsAt q x × (is_of selected x ≡ true)) old (r, a, b) e k
        (refl, among selected e.subject own)) in
        let l = (subst (λ ps. Contains ps q) none there).1 in
        absurd (omega (arith, l))

-- what is gone and not of a fresh error is the frame of no error
subject_of : (selected : List ℕ) (es : List Entry) (q : Placed) → IsFrame (filter (is_of selected) es) q → Contains selected q.handle
subject_of selected [] q s = absurd s
subject_of selected (x ∷ es) q s = elim (cases_Bool (is_of selected x)) [
  | inl t ↦ elim (subst (λ b. IsFrame (cond b (x ∷ filter (is_of selected) es) (filter (is_of selected) es)) q) t s) [
    | inl e ↦ subst (Contains selected) (ap (λ (p : Placed). p.handle) e) (within selected x.subject t)
    | inr k ↦ subject_of selected es q k
  ]
  | inr t ↦ subject_of selected es q (subst (λ b. IsFrame (cond b (x ∷ filter (is_of selected) es) (filter (is_of selected) es)) q) t s)
]

of_fresh : (q : Placed) (fresh : List Entry) (r a b : ℕ) (o f : Option Entry) (n : Entry) → entry_at fresh r a b ≡ f → framed_of n ≡ q
    → AreRemarked o f (Some n) → IsFrame fresh q
unfolding entry_at
of_fresh q fresh r a b o None n e is h = absurd h
of_fresh q fresh r a b o (Some g) n e is h = found_some by_key keys (IsAt q) fresh (r, a, b) g e (ap framed_of (sym h.same) ∙ is)

pub frames_stay : (selected : List ℕ) (old fresh new : List Entry) (gone : List Placed) → IsAscending new
    → IsReplaced selected old fresh new → gone ≡ frames_if (is_of selected) old
    → (q : Placed) → IsFrame new q → Contains gone q → IsFrame fresh q
unfolding entry_at
frames_stay selected old fresh new gone u h same q s g =
    let f = some_found by_key keys (IsAt q) new u s in
    let r = f.0.rule in
    let a = f.0.subject in
    let b = f.0.other in
    let own = subject_of selected old q (frame_of_these (filter (is_of selected) old) q (subst (λ ps. Contains ps q) same g)) in
    let chosen = subst (Contains selected) (sym (ap (λ (p : Placed). p.handle) f.2)) own in
    of_fresh q fresh r a b (entry_at old r a b) (entry_at fresh r a b) f.0 refl f.2
    (subst (AreRemarked (entry_at old r a b) (entry_at fresh r a b)) f.1 (h.came r a b chosen))

-- ---- after a rule was dropped
stays_or_goes : (n : ℕ) (q : Placed) (es : List Entry) → IsFrame es q
    → SomeOf (λ (e : Entry). IsAt q e × (is_other n e ≡ true)) es ⊎ SomeOf (λ (e : Entry). IsAt q e × ((e.rule == n) ≡ true)) es
stays_or_goes n q [] s = absurd s
stays_or_goes n q (x ∷ es) s = elim s [
  | inl e ↦ elim (cases_Bool (x.rule == n)) [ inl t ↦ inr (inl (e, t)) | inr t ↦ inl (inl (e, ap not t)) ]
  | inr k ↦ elim (stays_or_goes n q es k) [ inl h ↦ inl (inr h) | inr h ↦ inr (inr h) ]
]

pub framed_left : (n : ℕ) (old new : List Entry) (ps rs : List Placed) → new ≡ filter (is_other n) old → LosesRule n old ps rs
    → AreFramed ps old → AreFramed rs new
framed_left n old new ps rs is left f =
    let stay = filter (is_other n) old in
    subst (AreFramed rs) (sym is) (framed_kept ps rs stay (IsFrame stay) (λ q s. s) (λ q c s. (left q).1 (c, λ g. s))
    (every_filter (λ (e : Entry). Contains ps (framed_of e)) (is_other n) old f))

pub frames_dropped : (n : ℕ) (old new : List Entry) (ps rs : List Placed) → new ≡ filter (is_other n) old → LosesRule n old ps rs
    → AreFrames ps old → AreFrames rs new
frames_dropped n old new ps rs is left before q c =
    let l = (left q).0 c in
    subst (λ es. IsFrame es q) (sym is) (elim (stays_or_goes n q old (before q l.0)) [
      | inl h ↦ some_passed (IsAt q) (is_other n) old h
      | inr h ↦ l.1 (noted (λ (e : Entry). e.rule == n) old q h)
    ])
