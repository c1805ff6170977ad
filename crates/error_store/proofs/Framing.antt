-- The frames of errors stay in the index.
use Rattle.std.proofs.Common.{◌≡◌, ◌⊎◌, ◌↔◌, inl, inr, ℕ, ◌<◌, ◌≤◌, ◌+◌, zero, suc, List, [], ◌∷◌, ◌++◌, Option, Some, None, length, take, get_or, arith, refl, sym, ◌∙◌, ap, subst, Contains}
use Rattle.std.specs.Prelude.{OnOk, OnErr, Bool, map, filter}
use Rattle.std.specs.declared.result.Result.{Result}
use Rattle.std.specs.declared.result.Result.TheVariants.{Ok, Err}
use Rattle.std.proofs.lemmas.Bool.{cases_lt}
use Rattle.std.proofs.lemmas.List.{take_more, get_or_default}
use Rattle.std.proofs.lemmas.List.Elements.{Contains-append_left, Contains-append_right, Contains-append_cases, Contains-push_cases}
use Rattle.plane_terms.specs.Lists.{SomeOf}
use Rattle.plane_terms.proofs.ListLemmas.{every_map, every_append, every_filter, SomeOf-append_left, SomeOf-append_right, SomeOf-either}
use Rattle.plane_terms.specs.Rectangle.{Rectangle}
use Rattle.topology_terms.specs.Changes.{SameButMark, IsUnchanged}
use Rattle.topology_terms.specs.Entry.{Entry, by_key, entry_at, IsAscending}
use Rattle.sound_laws.proofs.Keyed.{each_found, some_found, found_some}
use Rattle.sound_laws.proofs.Lists.{keys, every_found, entry_key}
use Rattle.validation_laws.specs.Replaced.{AreRemarked, IsReplaced}
use Rattle.grid_index.specs.declared.placed.Placed.{Placed}
use Rattle.grid_index.specs.Near.{HoldsSame, Gains, Loses}
use Rattle.error_store.proofs.Leaving.{selected_or_not}
use Rattle.error_store.specs.Frames.{framed_of, frames_if, IsFrame, AreFramed, AreFrames, LosesThose}

abbrev pub Holds : List Placed → List Placed → Type 0
Holds ps qs = (q : Placed) → Contains ps q → Contains qs q

pub kept_of : {X Y : Type 0} (r : Result X Y) (ps qs : List Placed) (p : Placed) → OnOk r (Gains ps qs p) → OnErr r (HoldsSame ps qs)
    → Holds ps qs
kept_of (Ok x) ps qs p g h = λ q c. (g q).1 (inl c)
kept_of (Err y) ps qs p g h = λ q c. (h q).1 c

pub only_of : {X Y : Type 0} (r : Result X Y) (ps qs : List Placed) (p : Placed) → OnOk r (Gains ps qs p) → OnErr r (HoldsSame ps qs)
    → (q : Placed) → Contains qs q → Contains ps q ⊎ (p ≡ q)
only_of (Ok x) ps qs p g h q c = elim ((g q).0 c) [ inl k ↦ inl k | inr e ↦ inr (sym e) ]
only_of (Err y) ps qs p g h q c = inl ((h q).0 c)

pub framed_more : (ps qs : List Placed) (es : List Entry) → Holds ps qs → AreFramed ps es → AreFramed qs es
framed_more ps qs es h f = every_map (λ (e : Entry). Contains ps (framed_of e)) (λ (e : Entry). Contains qs (framed_of e))
    (λ e c. h (framed_of e) c) es f

pub framed_some : (ps : List Placed) (es : List Entry) (p : Placed) → AreFramed ps es → SomeOf (λ (e : Entry). framed_of e ≡ p) es
    → Contains ps p
framed_some ps [] p f s = absurd s
framed_some ps (e ∷ es) p f s = elim s [ inl q ↦ subst (Contains ps) q f.0 | inr q ↦ framed_some ps es p f.1 q ]

-- one after another
pub framed_next : (ps qs : List Placed) (es : List Entry) (i : ℕ) (e : Entry) → i < length es → e ≡ get_or es i e → Holds ps qs
    → AreFramed ps (take i es) → Contains qs (framed_of e) → AreFramed qs (take (i + 1) es)
framed_next ps qs es i e l is h f c = rw (take_more es i e l) (every_append (λ (x : Entry). Contains qs (framed_of x)) (take i es)
    (get_or es i e ∷ []) (framed_more ps qs (take i es) h f) (subst (λ (x : Entry). Contains qs (framed_of x)) is c, tt))

pub some_at : (P : Entry → Type 0) (es : List Entry) (i : ℕ) (e : Entry) → i < length es → e ≡ get_or es i e → P e → SomeOf P es
some_at P [] i e l is p = absurd (omega arith)
some_at P (x ∷ es) zero e l is p = inl (subst P is p)
some_at P (x ∷ es) (suc i) e l is p = inr (some_at P es i e (omega arith) is p)

-- ---- nothing else comes in
pub only_those : (ps qs rs : List Placed) (F : Placed → Type 0) (p : Placed) → F p → ((q : Placed) → Contains qs q → Contains ps q ⊎ F q)
    → ((q : Placed) → Contains rs q → Contains qs q ⊎ (p ≡ q))
    → (q : Placed) → Contains rs q → Contains ps q ⊎ F q
only_those ps qs rs F p f before more q c = elim (more q c) [ inl k ↦ before q k | inr e ↦ inr (subst F e f) ]

-- frame after frame
pub there_next : (ps qs frames : List Placed) (i : ℕ) (p : Placed) → i < length frames → p ≡ get_or frames i p → Holds ps qs
    → Holds (take i frames) ps → Contains qs p → Holds (take (i + 1) frames) qs
there_next ps qs frames i p l is h before there q c =
    let more : take (i + 1) frames ≡ take i frames ++ p ∷ [] = take_more frames i p l ∙ ap (λ x. take i frames ++ x ∷ []) (sym is) in
    elim (Contains-push_cases (take i frames) p q (subst (λ xs. Contains xs q) more c)) [
      | inl k ↦ h q (before q k)
      | inr e ↦ subst (Contains qs) e there
    ]

-- what came is taken out again, but for what stood
pub back_same : (ps mid back came : List Placed) (S : Placed → Type 0) → ((q : Placed) → Contains came q → S q ↔ Contains ps q)
    → Holds ps mid → ((q : Placed) → Contains mid q → Contains ps q ⊎ Contains came q)
    → ((q : Placed) → Contains back q → Contains mid q × (Contains came q → S q))
    → ((q : Placed) → Contains mid q → (Contains came q → S q) → Contains back q) → HoldsSame ps back
back_same ps mid back came S stand holds only left kept q = (
  λ c. let l = left q c in elim (only q l.0) [ inl k ↦ k | inr m ↦ (stand q m).0 (l.1 m) ],
  λ k. kept q (holds q k) (λ m. (stand q m).1 k),
)

pub err_of : {X Y : Type 0} (r : Result X Y) (P : Type 0) → P → OnErr r P
err_of (Ok x) P p = tt
err_of (Err y) P p = p

-- what goes step by step
pub loses_both : (F G S : Placed → Type 0) (ps qs rs : List Placed) → LosesThose F S ps qs → LosesThose G S qs rs
    → LosesThose (λ q. F q ⊎ G q) S ps rs
loses_both F G S ps qs rs f g q = (
  λ c. let l = (g q).0 c in let k = (f q).0 l.0 in (k.0, λ h. elim h [ inl x ↦ k.1 x | inr y ↦ l.1 y ]),
  λ h. (g q).1 ((f q).1 (h.0, λ x. h.1 (inl x)), λ y. h.1 (inr y)),
)

pub loses_like : (F G S : Placed → Type 0) (ps qs : List Placed) → ((q : Placed) → F q ↔ G q) → LosesThose F S ps qs → LosesThose G S ps qs
loses_like F G S ps qs same f q = (
  λ c. let k = (f q).0 c in (k.0, λ g. k.1 ((same q).1 g)),
  λ h. (f q).1 (h.0, λ x. h.1 ((same q).0 x)),
)

pub loses_none : (F S : Placed → Type 0) (ps : List Placed) → ((q : Placed) → ¬ (F q)) → LosesThose F S ps ps
loses_none F S ps none q = (λ c. (c, λ f. absurd (none q f)), λ h. h.0)

pub loses_one : (S : Placed → Type 0) (ps qs : List Placed) (p : Placed) → Loses ps qs p → ¬ (S p) → LosesThose (λ q. p ≡ q) S ps qs
loses_one S ps qs p l n q = (
  λ c. let k = (l q).0 c in (k.0, λ e. absurd (k.1 (sym e))),
  λ h. (l q).1 (h.0, λ e. n (subst S e (h.1 (sym e)))),
)

pub loses_these : (S T : Placed → Type 0) (ps qs gone : List Placed) → ((q : Placed) → Contains gone q → S q ↔ T q)
    → ((q : Placed) → Contains qs q → Contains ps q × (Contains gone q → S q))
    → ((q : Placed) → Contains ps q → (Contains gone q → S q) → Contains qs q) → LosesThose (Contains gone) T ps qs
loses_these S T ps qs gone same left kept q = (
  λ c. let l = left q c in (l.0, λ g. (same q g).0 (l.1 g)),
  λ h. kept q h.0 (λ g. (same q g).1 (h.1 g)),
)

pub frame_more : (es : List Entry) (i : ℕ) (e : Entry) → i < length es → e ≡ get_or es i e
    → (q : Placed) → (IsFrame (take i es) q ⊎ (framed_of e ≡ q)) ↔ IsFrame (take (i + 1) es) q
frame_more es i e l is q =
    let more : take (i + 1) es ≡ take i es ++ e ∷ [] = take_more es i e l ∙ ap (λ x. take i es ++ x ∷ []) (sym is) in
    rw more (
      λ h. elim h [
        | inl s ↦ SomeOf-append_left (λ (x : Entry). framed_of x ≡ q) (take i es) (e ∷ []) s
        | inr k ↦ SomeOf-append_right (λ (x : Entry). framed_of x ≡ q) (take i es) (e ∷ []) (inl k)
      ],
      λ s. elim (SomeOf-either (λ (x : Entry). framed_of x ≡ q) (take i es) (e ∷ []) s) [
        | inl k ↦ inl k
        | inr k ↦ elim k [ inl x ↦ inr x | inr x ↦ absurd x ]
      ],
    )

pub loses_run : (S : Placed → Type 0) (es : List Entry) (i : ℕ) (e : Entry) (ps qs rs : List Placed) → i < length es → e ≡ get_or es i e
    → LosesThose (IsFrame (take i es)) S ps qs → LosesThose (λ q. framed_of e ≡ q) S qs rs → LosesThose (IsFrame (take (i + 1) es)) S ps rs
loses_run S es i e ps qs rs l is f g = loses_like (λ q. IsFrame (take i es) q ⊎ (framed_of e ≡ q)) (IsFrame (take (i + 1) es)) S ps rs
    (frame_more es i e l is) (loses_both (IsFrame (take i es)) (λ q. framed_of e ≡ q) S ps qs rs f g)

-- what is taken out, but for what stays
abbrev pub AreGone : List Placed → List Placed → List Placed → (Placed → Type 0) → ℕ → Type 0
AreGone ps qs frames S i =
    (q : Placed) → Contains qs q → Contains ps q × ((j : ℕ) → j < i → get_or frames j q ≡ q → S q)

pub gone_next : (ps qs rs frames : List Placed) (S : Placed → Type 0) (i : ℕ) (p : Placed) → i < length frames → p ≡ get_or frames i p
    → AreGone ps qs frames S i → ((q : Placed) → Contains rs q → Contains qs q × (p ≡ q → S q))
    → AreGone ps rs frames S (i + 1)
gone_next ps qs rs frames S i p l is before more q c =
    let m = more q c in
    let b = before q m.0 in (
      b.0,
      λ j h e. elim (cases_lt j i) [
        | inl k ↦ b.1 j k e
        | inr k ↦
            let same : j ≡ i = omega arith in
            m.1 (is ∙ (get_or_default frames i p q l ∙ (ap (λ n. get_or frames n q) (sym same) ∙ e)))
      ],
    )

pub gone_all : (ps qs frames : List Placed) (S : Placed → Type 0) (i : ℕ) → length frames ≤ i → AreGone ps qs frames S i
    → (q : Placed) → Contains qs q → Contains ps q × (Contains frames q → S q)
gone_all ps qs frames S i l h q c = let b = h q c in (b.0, λ k. b.1 k.0 (omega (arith, k.1)) k.2)

pub left_of : (ps qs : List Placed) (S : Placed → Type 0) (p : Placed) → Loses ps qs p
    → (q : Placed) → Contains qs q → Contains ps q × (p ≡ q → S q)
left_of ps qs S p l q c = let k = (l q).0 c in (k.0, λ e. absurd (k.1 (sym e)))

-- each of the frames is there
pub contained_at : (frames : List Placed) (i : ℕ) (p : Placed) → i < length frames → p ≡ get_or frames i p → (q : Placed) → p ≡ q
    → Contains frames q
contained_at frames i p l is q e = (i, l, sym (get_or_default frames i p q l) ∙ (sym is ∙ e))

-- ---- by the frames
pub framed_each : (ps : List Placed) (es : List Entry) → ((q : Placed) → IsFrame es q → Contains ps q) → AreFramed ps es
framed_each ps [] h = tt
framed_each ps (e ∷ es) h = (h (framed_of e) (inl refl), framed_each ps es (λ q s. h q (inr s)))

pub frame_of_these : (es : List Entry) (q : Placed) → Contains (map framed_of es) q → IsFrame es q
frame_of_these [] q c = absurd (omega (arith, c.1))
frame_of_these (e ∷ es) q (zero, l, same) = inl same
frame_of_these (e ∷ es) q (suc i, l, same) = inr (frame_of_these es q (i, omega (arith, l), same))

pub these_frames : (es : List Entry) (q : Placed) → IsFrame es q → Contains (map framed_of es) q
these_frames [] q s = absurd s
these_frames (e ∷ es) q s = elim s [
  | inl same ↦ (0, omega arith, same)
  | inr k ↦ let c = these_frames es q k in (suc c.0, omega (arith, c.1), c.2)
]

pub loses_runs : (S : Placed → Type 0) (done : List Placed) (es : List Entry) (ps qs rs : List Placed) → LosesThose (Contains done) S ps qs
    → LosesThose (IsFrame es) S qs rs → LosesThose (Contains (done ++ map framed_of es)) S ps rs
loses_runs S done es ps qs rs f g = loses_like (λ q. Contains done q ⊎ IsFrame es q) (Contains (done ++ map framed_of es)) S ps rs (λ q. (
  λ h. elim h [
    | inl c ↦ Contains-append_left done (map framed_of es) q c
    | inr s ↦ Contains-append_right done (map framed_of es) q (these_frames es q s)
  ],
  λ c. elim (Contains-append_cases done (map framed_of es) q c) [ inl k ↦ inl k | inr k ↦ inr (frame_of_these es q k) ],
)) (loses_both (Contains done) (IsFrame es) S ps qs rs f g)

-- what holds of the errors holds of those that pass a test
pub frames_stand : (ps : List Placed) (p : Entry → Bool) (es : List Entry) → AreFramed ps es
    → (q : Placed) → Contains (frames_if p es) q → Contains ps q
frames_stand ps p es f q c = framed_some ps (filter p es) q (every_filter (λ (e : Entry). Contains ps (framed_of e)) p es f)
    (frame_of_these (filter p es) q c)

-- the frames of all errors stay
pub framed_kept : (ps qs : List Placed) (es : List Entry) (S : Placed → Type 0) → ((q : Placed) → IsFrame es q → S q)
    → ((q : Placed) → Contains ps q → S q → Contains qs q) → AreFramed ps es → AreFramed qs es
framed_kept ps qs es S stay kept f = framed_each qs es (λ q s. kept q (framed_some ps es q f s) (stay q s))

pub framed_these : (ps came : List Placed) (es : List Entry) → came ≡ map framed_of es → Holds came ps → AreFramed ps es
framed_these ps came es is h = framed_each ps es (λ q s. h q (subst (λ xs. Contains xs q) (sym is) (these_frames es q s)))

-- an index that holds the same
pub framed_same : (ps qs : List Placed) (es : List Entry) → HoldsSame ps qs → AreFramed ps es → AreFramed qs es
framed_same ps qs es h f = framed_more ps qs es (λ q c. (h q).1 c) f

pub frames_same : (ps qs : List Placed) (es : List Entry) → HoldsSame ps qs → AreFrames ps es → AreFrames qs es
frames_same ps qs es h f q c = f q ((h q).0 c)

-- after a replacement
came : (ps : List Placed) (fresh : List Entry) (r a b : ℕ) (o f : Option Entry) (n : Entry) → AreFramed ps fresh
    → entry_at fresh r a b ≡ f → AreRemarked o f (Some n) → Contains ps (framed_of n)
came ps fresh r a b o None n u e h = absurd h
came ps fresh r a b o (Some f) n u e h =
    subst (λ (x : Entry). Contains ps (framed_of x)) (sym h.same) (every_found (λ (x : Entry). Contains ps (framed_of x)) fresh r a b f u e)

pub framed_replaced : (ps : List Placed) (selected : List ℕ) (old fresh new : List Entry) → IsAscending new
    → IsReplaced selected old fresh new → AreFramed ps old → AreFramed ps fresh
    → AreFramed ps new
unfolding entry_at
framed_replaced ps selected old fresh new u h f g =
    each_found by_key keys (λ (e : Entry). Contains ps (framed_of e)) new u (λ k n e. elim (selected_or_not selected k.1) [
      | inl c ↦ came ps fresh k.0 k.1 k.2 (entry_at old k.0 k.1 k.2) (entry_at fresh k.0 k.1 k.2) n g refl (rw e at (h.came k.0 k.1 k.2 c))
      | inr c ↦ every_found (λ (x : Entry). Contains ps (framed_of x)) old k.0 k.1 k.2 n f (sym (h.kept k.0 k.1 k.2 c) ∙ e)
    ])

-- after marks
same_frame : (d e : Entry) → d.subject ≡ e.subject → IsUnchanged d e → framed_of d ≡ framed_of e
same_frame d e s h = made d.frame d.subject e.frame e.subject h.frame s
  where
    made : (r : Rectangle) (a : ℕ) (t : Rectangle) (b : ℕ) → r ≡ t → a ≡ b → let p : Placed = record { rect = r; handle = a } in let q : Placed = record { rect = t; handle = b } in p ≡ q
    made r a t b x y = rw (x, y) refl

pub framed_like : (ps : List Placed) (old new : List Entry) → IsAscending new
    → ((r a b : ℕ) → SameButMark (entry_at old r a b) (entry_at new r a b)) → AreFramed ps old → AreFramed ps new
unfolding entry_at
framed_like ps old new u same f = each_found by_key keys (λ (e : Entry). Contains ps (framed_of e)) new u (λ k n e.
    by k.0 k.1 k.2 n (entry_at old k.0 k.1 k.2) refl e (subst (λ o. SameButMark (entry_at old k.0 k.1 k.2) o) e (same k.0 k.1 k.2)))
  where
    by : (r a b : ℕ) (n : Entry) (o : Option Entry) → entry_at old r a b ≡ o → entry_at new r a b ≡ Some n → SameButMark (entry_at old r a b) (Some n)
        → Contains ps (framed_of n)
    by r a b n None e k h = absurd (subst (λ x. SameButMark x (Some n)) e h)
    by r a b n (Some d) e k h =
        let g = subst (λ x. SameButMark x (Some n)) e h in
        let c = every_found (λ (x : Entry). Contains ps (framed_of x)) old r a b d f e in
        subst (Contains ps) (same_frame d n ((entry_key old r a b d e).1 ∙ sym (entry_key new r a b n k).1) g) c

pub frames_like : (ps : List Placed) (old new : List Entry) → IsAscending old
    → ((r a b : ℕ) → SameButMark (entry_at old r a b) (entry_at new r a b)) → AreFrames ps old → AreFrames ps new
unfolding entry_at
frames_like ps old new u same f q c =
    let g = some_found by_key keys (λ (e : Entry). framed_of e ≡ q) old u (f q c) in
    let r = g.0.rule in
    let a = g.0.subject in
    let b = g.0.other in
    by r a b g.0 (entry_at new r a b) refl g.1 g.2 (subst (λ o. SameButMark o (entry_at new r a b)) g.1 (same r a b))
  where
    by : (r a b : ℕ) (d : Entry) (n : Option Entry) → entry_at new r a b ≡ n → entry_at old r a b ≡ Some d → framed_of d ≡ q
        → SameButMark (Some d) (entry_at new r a b) → IsFrame new q
    by r a b d None e k is h = absurd (subst (λ x. SameButMark (Some d) x) e h)
    by r a b d (Some n) e k is h =
        let g = subst (λ x. SameButMark (Some d) x) e h in
        found_some by_key keys (λ (x : Entry). framed_of x ≡ q) new (r, a, b) n e
        (sym (same_frame d n ((entry_key old r a b d k).1 ∙ sym (entry_key new r a b n e).1) g) ∙ is)
