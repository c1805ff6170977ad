-- What is left so far, split into the pieces round the window and what lies beside it.
use Rattle.std.proofs.Common.{arith, ◌≡◌, inl, inr, refl, sym, ap, ◌∙◌, subst, Bool, true, false, not, List, [], ◌∷◌, ◌++◌, Contains, Option, Some, None}
use Rattle.std.specs.Prelude.{◌||◌, IfSome, int_lt}
use Rattle.std.specs.Option.{option_to_list}
use Rattle.std.specs.Int.{int_max, int_min}
use Rattle.std.specs.List.{list_any, filter}
use Rattle.std.proofs.lemmas.Bool.{false≢true}
use Rattle.std.proofs.lemmas.List.Elements.{Contains-append_left, Contains-push, Contains-push_cases}
use Rattle.std.proofs.lemmas.List.Folds.{Any-from_list_any, list_any_at}
use Rattle.plane_terms.specs.Rectangle.{Rectangle, IsProper, IsWithin, is_within, rects_meet, rect_of, part_of}
use Rattle.plane_terms.specs.Dirt.{AreLoose, IsLoose, add_dirt, add_all, pieces, piece_if}
use Rattle.plane_terms.proofs.ListLemmas.{IsAmong, contains_among, every_among}
use Rattle.plane_terms.proofs.Truths.{same_by_truth}
use Rattle.grid_index.proofs.Members.{among, filtered_from, filtered_to}
use Rattle.dirty_area.specs.Parts.{IsApart, IsOther, IsSplit}
use Rattle.dirty_area.proofs.Calls.{add_dirt-held, add_dirt-loose, add_dirt-apart, add_all-four, pieces_round}
use Rattle.dirty_area.proofs.Beside.{part_loose, left_part, right_part, below_part, above_part}

pub split_none : (P : Rectangle → Type 0) → IsSplit [] [] P
split_none P = record { within = λ s m. m; others = λ s m. absurd (omega (arith, m.1)) }

pub split_weaker : (d ps : List Rectangle) (P Q : Rectangle → Type 0) → IsSplit d ps P → ((s : Rectangle) → P s → Q s) → IsSplit d ps Q
split_weaker d ps P Q h w = record { within = h.within; others = λ s m. elim (h.others s m) [ inl k ↦ inl k | inr k ↦ inr (w s k) ] }

-- a test that fails for the others
pub any_same : (f : Rectangle → Bool) (d ps : List Rectangle) (P : Rectangle → Type 0) → IsSplit d ps P
    → ((s : Rectangle) → P s → f s ≡ false) → list_any f d ≡ list_any f ps
any_same f d ps P h none = same_by_truth (list_any f d) (list_any f ps) to from
  where
    to : list_any f d ≡ true → list_any f ps ≡ true
    to e =
        let a = Any-from_list_any f d e in
        elim (h.others a.1 (a.0, a.2, a.3)) [
          | inl c ↦ list_any_at f ps c.0 a.1 c.1 (ap f c.2 ∙ a.4)
          | inr p ↦ absurd (false≢true (sym (none a.1 p) ∙ a.4))
        ]

    from : list_any f ps ≡ true → list_any f d ≡ true
    from e =
        let a = Any-from_list_any f ps e in
        let c = h.within a.1 (a.0, a.2, a.3) in
        list_any_at f d c.0 a.1 c.1 (ap f c.2 ∙ a.4)

nested_none : (r s : Rectangle) → AreLoose r s → (is_within r s || is_within s r) ≡ false
nested_none r s l = rw (l.left, l.right) refl

-- none of all is nested with a rectangle where none of the pieces is
pub none_nested : (d ps : List Rectangle) (r : Rectangle) → IsSplit d ps (λ s. AreLoose r s)
    → list_any (λ s. is_within r s || is_within s r) ps ≡ false → add_dirt d r ≡ d ++ r ∷ []
none_nested d ps r h e = add_dirt-apart d r
    (any_same (λ s. is_within r s || is_within s r) d ps (λ s. AreLoose r s) h (λ s l. nested_none r s l) ∙ e)

pub one_holds : (d ps : List Rectangle) (r : Rectangle) → IsSplit d ps (λ s. AreLoose r s) → list_any (λ s. is_within r s) ps ≡ true
    → add_dirt d r ≡ d
one_holds d ps r h e = add_dirt-held d r (any_same (λ s. is_within r s) d ps (λ s. AreLoose r s) h (λ s l. l.left) ∙ e)

pub none_holds : (d ps : List Rectangle) (r : Rectangle) → IsSplit d ps (λ s. AreLoose r s) → list_any (λ s. is_within r s) ps ≡ false
    → add_dirt d r ≡ filter (λ s. not (is_within s r)) d ++ r ∷ []
none_holds d ps r h e = add_dirt-loose d r (any_same (λ s. is_within r s) d ps (λ s. AreLoose r s) h (λ s l. l.left) ∙ e)

-- ---- one rectangle more
split_filter : (g : Rectangle → Bool) (d ps : List Rectangle) (P : Rectangle → Type 0) → IsSplit d ps P → IsSplit (filter g d) (filter g ps) P
split_filter g d ps P h = record {
  within = λ s m.
      let k = filtered_from g ps s (among _ s m) in
      contains_among _ s (filtered_to g d s (among d s (h.within s (contains_among ps s k.0))) k.1);
  others = λ s m.
      let k = filtered_from g d s (among _ s m) in
      elim (h.others s (contains_among d s k.0)) [
        | inl o ↦ inl (contains_among _ s (filtered_to g ps s (among ps s o) k.1))
        | inr o ↦ inr o
      ];
}

split_pushed : (d ps : List Rectangle) (P : Rectangle → Type 0) (r : Rectangle) → IsSplit d ps P → IsSplit (d ++ r ∷ []) (ps ++ r ∷ []) P
split_pushed d ps P r h = record {
  within = λ s m. elim (Contains-push_cases ps r s m) [
    | inl k ↦ Contains-append_left d (r ∷ []) s (h.within s k)
    | inr e ↦ subst (λ o. Contains (d ++ r ∷ []) o) e (Contains-push d r)
  ];
  others = λ s m. elim (Contains-push_cases d r s m) [
    | inl k ↦ elim (h.others s k) [ inl o ↦ inl (Contains-append_left ps (r ∷ []) s o) | inr o ↦ inr o ]
    | inr e ↦ inl (subst (λ o. Contains (ps ++ r ∷ []) o) e (Contains-push ps r))
  ];
}

pub split_added : (d ps : List Rectangle) (P : Rectangle → Type 0) (r : Rectangle) → IsSplit d ps P → ((s : Rectangle) → P s → AreLoose r s)
    → IsSplit (add_dirt d r) (add_dirt ps r) P
split_added d ps P r h apart = at (list_any (λ s. is_within r s) ps) refl
  where
    at : (b : Bool) → list_any (λ s. is_within r s) ps ≡ b → IsSplit (add_dirt d r) (add_dirt ps r) P
    at true t =
        let same = any_same (λ s. is_within r s) d ps P h (λ s p. (apart s p).left) in
        rw (add_dirt-held d r (same ∙ t), add_dirt-held ps r t) h
    at false t =
        let same = any_same (λ s. is_within r s) d ps P h (λ s p. (apart s p).left) in
        rw (add_dirt-loose d r (same ∙ t), add_dirt-loose ps r t)
        (split_pushed _ _ P r (split_filter (λ s. not (is_within s r)) d ps P h))

pub split_some : (d ps : List Rectangle) (P : Rectangle → Type 0) (o : Option Rectangle) → IsSplit d ps P
    → IfSome o (λ r. (s : Rectangle) → P s → AreLoose r s) → IsSplit (add_all d (option_to_list o)) (add_all ps (option_to_list o)) P
unfolding add_all
split_some d ps P None h apart = h
split_some d ps P (Some r) h apart = split_added d ps P r h apart

split_if : (d ps : List Rectangle) (P : Rectangle → Type 0) (b : Bool) (r : Rectangle) → IsSplit d ps P
    → ((s : Rectangle) → P s → AreLoose r s) → IsSplit (add_all d (piece_if b r)) (add_all ps (piece_if b r)) P
unfolding add_all
split_if d ps P true r h apart = split_added d ps P r h apart
split_if d ps P false r h apart = h

-- ---- the pieces of one
part_apart : (q r w s : Rectangle) → IsWithin q r → rects_meet q w ≡ true → IsApart r w s → AreLoose q s
part_apart q r w s i m a = part_loose q r s w i m a.beside a.loose

-- a piece that is there is loose from what lies apart
pub piece_apart : (o : Option Rectangle) (b : Bool) (q r w : Rectangle) → option_to_list o ≡ piece_if b q → IsWithin q r × (rects_meet q w ≡ true)
    → IfSome o (λ s. (x : Rectangle) → IsApart r w x → AreLoose s x)
piece_apart None b q r w e i = tt
piece_apart (Some s) false q r w e i = absurd cc
piece_apart (Some s) true q r w e i = λ x a. let same : s ≡ q = cc in rw same (part_apart q r w x i.0 i.1 a)

pub left_apart : (r w : Rectangle) (o : Option Rectangle) → IsProper w → rects_meet r w ≡ true
    → option_to_list o ≡ piece_if (int_lt r.x0 w.x0) (rect_of r.x0 r.y0 w.x0 r.y1)
    → IfSome o (λ s. (x : Rectangle) → IsApart r w x → AreLoose s x)
left_apart r w o v e h = piece_apart o (int_lt r.x0 w.x0) (rect_of r.x0 r.y0 w.x0 r.y1) r w h (left_part r w v e)

pub right_apart : (r w : Rectangle) (o : Option Rectangle) → IsProper w → rects_meet r w ≡ true
    → option_to_list o ≡ piece_if (int_lt w.x1 r.x1) (rect_of w.x1 r.y0 r.x1 r.y1)
    → IfSome o (λ s. (x : Rectangle) → IsApart r w x → AreLoose s x)
right_apart r w o v e h = piece_apart o (int_lt w.x1 r.x1) (rect_of w.x1 r.y0 r.x1 r.y1) r w h (right_part r w v e)

pub below_apart : (r w m : Rectangle) (o : Option Rectangle) → IsProper w → rects_meet r w ≡ true → m ≡ part_of r w
    → option_to_list o ≡ piece_if (int_lt r.y0 w.y0) (rect_of m.x0 r.y0 m.x1 w.y0)
    → IfSome o (λ s. (x : Rectangle) → IsApart r w x → AreLoose s x)
below_apart r w m o v e p h = piece_apart o (int_lt r.y0 w.y0) (rect_of (int_max r.x0 w.x0) r.y0 (int_min r.x1 w.x1) w.y0) r w
    (h ∙ ap (λ (t : Rectangle). piece_if (int_lt r.y0 w.y0) (rect_of t.x0 r.y0 t.x1 w.y0)) p) (below_part r w v e)

pub above_apart : (r w m : Rectangle) (o : Option Rectangle) → IsProper w → rects_meet r w ≡ true → m ≡ part_of r w
    → option_to_list o ≡ piece_if (int_lt w.y1 r.y1) (rect_of m.x0 w.y1 m.x1 r.y1)
    → IfSome o (λ s. (x : Rectangle) → IsApart r w x → AreLoose s x)
above_apart r w m o v e p h = piece_apart o (int_lt w.y1 r.y1) (rect_of (int_max r.x0 w.x0) w.y1 (int_min r.x1 w.x1) r.y1) r w
    (h ∙ ap (λ (t : Rectangle). piece_if (int_lt w.y1 r.y1) (rect_of t.x0 w.y1 t.x1 r.y1)) p) (above_part r w v e)

-- a call that adds a piece
pub split_step : (d e ps qs : List Rectangle) (P : Rectangle → Type 0) (o : Option Rectangle) → IsSplit d ps P
    → IfSome o (λ r. (s : Rectangle) → P s → AreLoose r s) → e ≡ add_all d (option_to_list o) → qs ≡ add_all ps (option_to_list o)
    → IsSplit e qs P
split_step d e ps qs P o h apart more most = rw (more, most) (split_some d ps P o h apart)

pub split_one : (d ps : List Rectangle) (P : Rectangle → Type 0) (o : Option Rectangle) → IsSplit d ps P
    → IfSome o (λ r. (s : Rectangle) → P s → AreLoose r s) → IfSome o (λ r. IsSplit d ps (λ s. AreLoose r s))
split_one d ps P None h apart = tt
split_one d ps P (Some r) h apart = split_weaker d ps P (λ s. AreLoose r s) h apart

pub split_pieces : (d ps : List Rectangle) (P : Rectangle → Type 0) (r w : Rectangle) → IsProper w → rects_meet r w ≡ true → IsSplit d ps P
    → ((s : Rectangle) → P s → IsApart r w s) → IsSplit (add_all d (pieces r w)) (add_all ps (pieces r w)) P
split_pieces d ps P r w v e h apart =
    let mx0 = int_max r.x0 w.x0 in
    let mx1 = int_min r.x1 w.x1 in
    let a = left_part r w v e in
    let b = right_part r w v e in
    let c = below_part r w v e in
    let f = above_part r w v e in
    rw (pieces_round r w (part_of r w) e refl, add_all-four d, add_all-four ps)
    (split_if _ _ P (int_lt w.y1 r.y1) (rect_of mx0 w.y1 mx1 r.y1)
    (split_if _ _ P (int_lt r.y0 w.y0) (rect_of mx0 r.y0 mx1 w.y0)
    (split_if _ _ P (int_lt w.x1 r.x1) (rect_of w.x1 r.y0 r.x1 r.y1)
    (split_if d ps P (int_lt r.x0 w.x0) (rect_of r.x0 r.y0 w.x0 r.y1) h (λ s p. part_apart _ r w s a.0 a.1 (apart s p)))
    (λ s p. part_apart _ r w s b.0 b.1 (apart s p)))
    (λ s p. part_apart _ r w s c.0 c.1 (apart s p)))
    (λ s p. part_apart _ r w s f.0 f.1 (apart s p)))

pub split_beside : (d ps : List Rectangle) (P : Rectangle → Type 0) (r : Rectangle) → IsSplit d ps P → P r → IsSplit (d ++ r ∷ []) ps P
split_beside d ps P r h p = record {
  within = λ s m. Contains-append_left d (r ∷ []) s (h.within s m);
  others = λ s m. elim (Contains-push_cases d r s m) [ inl k ↦ h.others s k | inr e ↦ inr (subst P e p) ];
}

-- ---- the rectangles of the list
loose_of : (xs : List Rectangle) (r s : Rectangle) → IsLoose xs → IsAmong r xs → IsAmong s xs → (r ≡ s → ⊥) → AreLoose r s
loose_of [] r s h a b n = absurd a
loose_of (x ∷ xs) r s h (inl a) (inl b) n = absurd (n (a ∙ sym b))
loose_of (x ∷ xs) r s h (inl a) (inr b) n = subst (λ o. AreLoose o s) (sym a) (every_among (AreLoose x) xs h.0 s b)
loose_of (x ∷ xs) r s h (inr a) (inl b) n =
    let l : AreLoose s r = subst (λ o. AreLoose o r) (sym b) (every_among (AreLoose x) xs h.0 r a) in
    record { left = l.right; right = l.left }
loose_of (x ∷ xs) r s h (inr a) (inr b) n = loose_of xs r s h.1 a b n

pub other_apart : (xs : List Rectangle) (r w s : Rectangle) → IsLoose xs → Contains xs r → rects_meet r w ≡ true → IsOther xs w s
    → IsApart r w s
other_apart xs r w s h of m o = record {
  beside = o.0;
  loose = loose_of xs r s h (among xs r of) (among xs s o.1) (λ e. false≢true (sym o.0 ∙ (ap (λ t. rects_meet t w) (sym e) ∙ m)));
}
