-- Rectangles that hold others, and what they do not reach.
use Rattle.std.proofs.Common.{◌≡◌, ◌≢◌, ◌⊎◌, inl, inr, refl, sym, ap, ◌∙◌, subst, ℕ, ◌+◌, ◌<◌, Bool, true, false, List, [], ◌∷◌, ◌++◌, take, length, get_or, Contains, Option, None, Some, arith}
use Rattle.std.specs.Option.{unwrap_or}
use Rattle.std.proofs.lemmas.Bool.{false≢true}
use Rattle.std.proofs.lemmas.Int.{ints}
use Rattle.std.proofs.lemmas.List.{append-nil, take_more}
use Rattle.std.proofs.lemmas.List.Elements.{Contains-append_left, Contains-append_right, Contains-append_cases}
use Rattle.plane_terms.specs.Rectangle.{Rectangle, IsWithin, is_within, join_of}
use Rattle.plane_terms.proofs.ListLemmas.{contains_among}
use Rattle.sound_laws.proofs.Planes.{within_self, within_trans}
use Rattle.validation_laws.proofs.Frames.{within_join_left, within_join_right}
use Rattle.grid_index.specs.declared.placed.Placed.{Placed}
use Rattle.grid_index.specs.Near.{HoldsSame, Gains, Loses, Adds}
use Rattle.grid_index.specs.Nodes.{NodeView, all_items, AreFilled, AreWithin, IsSnug, IsReach, reach_with, reach_of_both}
use Rattle.grid_index.proofs.Adding.{adds_none, adds_same, contains_none}
use Rattle.grid_index.proofs.Members.{among}
use Rattle.grid_index.proofs.Nodes.{items_more}
use Rattle.grid_index.proofs.Snugs.{snug_more, snug_one, snug_joined, snug_filled}

-- ---- what a rectangle holds
pub none_within : (r : Rectangle) (ps : List Placed) → ps ≡ [] → AreWithin r ps
none_within r ps e q h = absurd (contains_none q (subst (λ l. Contains l q) e h))

pub all_wider : (r s : Rectangle) (ps : List Placed) → IsWithin r s → AreWithin r ps → AreWithin s ps
all_wider r s ps w all q h = within_trans q.rect r s (all q h) w

pub all_joined : (r : Rectangle) (ps qs : List Placed) → AreWithin r ps → AreWithin r qs → AreWithin r (ps ++ qs)
all_joined r ps qs first second q h = elim (Contains-append_cases ps qs q h) [ inl k ↦ first q k | inr k ↦ second q k ]

pub all_gained : (r : Rectangle) (ps qs : List Placed) (p : Placed) → AreWithin r ps → IsWithin p.rect r → Gains ps qs p → AreWithin r qs
all_gained r ps qs p all one gains q h = elim ((gains q).0 h) [
  | inl k ↦ all q k
  | inr e ↦ subst (λ (o : Placed). IsWithin o.rect r) (sym e) one
]

pub all_same : (r : Rectangle) (ps qs : List Placed) → AreWithin r ps → HoldsSame ps qs → AreWithin r qs
all_same r ps qs all same q h = all q ((same q).0 h)

pub all_lost : (r : Rectangle) (ps qs : List Placed) (p : Placed) → AreWithin r ps → Loses ps qs p → AreWithin r qs
all_lost r ps qs p all loses q h = all q ((loses q).0 h).0

-- ---- what it does not hold, and what it does not meet
held_test : (r s : Rectangle) → IsWithin r s → is_within r s ≡ true
held_test r s w = grind (arith, ints)

pub adds_beyond : {A : Type 0} (f : Placed → A) (t : Rectangle → Bool) (s : Rectangle) (ps : List Placed) (xs : List A)
    → ((q r : Rectangle) → IsWithin q r → t q ≡ true → t r ≡ true) → AreWithin s ps → t s ≡ false → Adds f t (Contains ps) xs xs
adds_beyond f t s ps xs wider all apart = adds_same f t (λ p. ⊥) (Contains ps) xs xs (adds_none f t (λ p. ⊥) xs (λ p h. h))
    (λ p h. absurd h)
    (λ p h e. absurd (false≢true (sym apart ∙ wider p.rect s (all p h) e)))

-- ---- the reach of several
pub reach_more : (o : Option Rectangle) (r : Rectangle) (ps qs : List Placed) → IsReach o ps → AreWithin r qs → IsSnug r qs
    → IsReach (reach_with o r) (ps ++ qs)
reach_more None r ps qs e all snug = subst (λ l. AreWithin r (l ++ qs) × IsSnug r (l ++ qs)) (sym e) (all, snug)
reach_more (Some q) r ps qs first all snug = (
  all_joined (join_of q r) ps qs
      (all_wider q (join_of q r) ps (within_join_left q r) first.0)
      (all_wider r (join_of q r) qs (within_join_right q r) all),
  snug_joined q r (ps ++ qs)
      (snug_more q ps (ps ++ qs) (λ p h. Contains-append_left ps qs p h) first.1)
      (snug_more r qs (ps ++ qs) (λ p h. Contains-append_right ps qs p h) snug),
)

pub reach_both : (o u : Option Rectangle) (ps qs : List Placed) → IsReach o ps → IsReach u qs → IsReach (reach_of_both o u) (ps ++ qs)
reach_both o None ps qs first e = subst (λ l. IsReach o (ps ++ l)) (sym e) (subst (IsReach o) (sym (append-nil ps)) first)
reach_both o (Some r) ps qs first second = reach_more o r ps qs first second.0 second.1

pub reach_kept : (o : Option Rectangle) (r s : Rectangle) (ps : List Placed) → s ≡ unwrap_or o r → IsReach o ps
    → AreWithin s ps × ((ps ≡ []) ⊎ IsSnug s ps)
reach_kept None r s ps e none = (none_within s ps none, inl none)
reach_kept (Some q) r s ps e h = subst (λ t. AreWithin t ps × ((ps ≡ []) ⊎ IsSnug t ps)) (sym e) (h.0, inr h.1)

pub one_within : (p : Placed) → AreWithin p.rect (p ∷ [])
one_within p q h = elim (among (p ∷ []) q h) [ inl e ↦ subst (λ (o : Placed). IsWithin o.rect p.rect) (sym e) (within_self p.rect) | inr k ↦ absurd k ]

pub reach_placed : (o u : Option Rectangle) (ps : List Placed) (i : ℕ) (p : Placed) → i < length ps → p ≡ get_or ps i p → u ≡ reach_with o p.rect
    → IsReach o (take i ps) → IsReach u (take (i + 1) ps)
reach_placed o u ps i p l is e reach =
    let more : take (i + 1) ps ≡ take i ps ++ p ∷ [] = take_more ps i p l ∙ ap (λ q. take i ps ++ q ∷ []) (sym is) in
    subst (λ t. IsReach t (take (i + 1) ps)) (sym e)
    (subst (IsReach (reach_with o p.rect)) (sym more) (reach_more o p.rect (take i ps) (p ∷ []) reach (one_within p) (snug_one p (p ∷ []) (contains_among (p ∷ []) p (inl refl)))))

pub reach_node : (o u : Option Rectangle) (ns : List NodeView) (i : ℕ) (n : NodeView) (r : Rectangle) → i < length ns → n ≡ get_or ns i n
    → u ≡ reach_with o r → AreWithin r n.items → (n.items ≡ []) ⊎ IsSnug r n.items → AreFilled ns → IsReach o (all_items (take i ns))
    → IsReach u (all_items (take (i + 1) ns))
reach_node o u ns i n r l is e all snug filled reach =
    let some : n.items ≢ [] = subst (λ (m : NodeView). m.items ≢ []) (sym is) (filled i n l) in
    let more : all_items (take (i + 1) ns) ≡ all_items (take i ns) ++ n.items =
    items_more ns i n l ∙ ap (λ (m : NodeView). all_items (take i ns) ++ m.items) (sym is) in
    subst (λ t. IsReach t (all_items (take (i + 1) ns))) (sym e)
    (subst (IsReach (reach_with o r)) (sym more) (reach_more o r (all_items (take i ns)) n.items reach all (snug_filled r n.items some snug)))

-- ---- one rectangle more
pub reach_gained : (r j : Rectangle) (ps qs : List Placed) (p : Placed) → j ≡ join_of r p.rect → AreWithin r ps → (ps ≡ []) ⊎ IsSnug r ps → ps ≢ []
    → Gains ps qs p → AreWithin j qs × ((qs ≡ []) ⊎ IsSnug j qs)
reach_gained r j ps qs p is all snug some gains = subst (λ t. AreWithin t qs × ((qs ≡ []) ⊎ IsSnug t qs)) (sym is) (
  all_gained (join_of r p.rect) ps qs p (all_wider r (join_of r p.rect) ps (within_join_left r p.rect) all) (within_join_right r p.rect) gains,
  inr (snug_joined r p.rect qs
      (snug_more r ps qs (λ q h. (gains q).1 (inl h)) (snug_filled r ps some snug))
      (snug_one p qs ((gains p).1 (inr refl)))),
)
