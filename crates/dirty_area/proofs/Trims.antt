-- Blocks from which a rectangle takes those that it holds: at first from some, and at the end from all that have one near it.
use Rattle.std.proofs.Common.{◌≡◌, inl, inr, refl, sym, ap, ◌∙◌, subst, ℕ, ◌+◌, ◌<◌, ◌≤◌, Bool, true, false, not, List, [], ◌∷◌, ◌++◌, Contains, take, set, map, length, get_or, arith}
use Rattle.std.specs.Prelude.{◌↔◌}
use Rattle.std.specs.List.{filter}
use Rattle.std.proofs.Math.Seq.{map-set_same}
use Rattle.std.proofs.lemmas.Grind.{get_or-set_at}
use Rattle.std.proofs.lemmas.List.{take_all, take_more, get_or-set_other}
use Rattle.std.proofs.lemmas.List.Elements.{Contains-push_cases}
use Rattle.plane_terms.specs.Lists.{Every}
use Rattle.plane_terms.specs.Rectangle.{Rectangle, IsRectangle, is_within}
use Rattle.plane_terms.proofs.ListLemmas.{every_among, contains_among}
use Rattle.sound_laws.proofs.Edits.{same_or_not}
use Rattle.grid_index.proofs.Members.{among, filtered_from}
use Rattle.dirty_area.specs.Blocks.{joined}
use Rattle.dirty_area.specs.Indexed.{MeetsAt}
use Rattle.dirty_area.proofs.Changes.{without, joined_without, none_gone}
use Rattle.dirty_area.proofs.Indexes.{inner_meets, meets_back, at_joined, joined_at}
use Rattle.dirty_area.proofs.Kept.{every_from}

-- those that are left have none that goes
left_over : (r : Rectangle) (xs : List Rectangle) (s : Rectangle) → Contains (without r xs) s → Contains xs s × (is_within s r ≡ false)
left_over r xs s c =
    let k = filtered_from (λ o. not (is_within o r)) xs s (among _ s c) in
    (contains_among xs s k.0, opposite (is_within s r) k.1)
  where
    opposite : (b : Bool) → not b ≡ true → b ≡ false
    opposite false e = refl
    opposite true e = sym e

none_twice : (r : Rectangle) (xs : List Rectangle) → without r (without r xs) ≡ without r xs
none_twice r xs = none_gone r (without r xs) (every_from (λ s. is_within s r ≡ false) (without r xs)
    (λ s m. (left_over r xs s (contains_among _ s m)).1))

-- the blocks yss are xss after the first i of the places were trimmed
pub record AreTaken (r : Rectangle) (xss : List (List Rectangle)) (places : List ℕ) (i : ℕ) (yss : List (List Rectangle)) : Type 0 where
  pub same : map (without r) yss ≡ map (without r) xss
  pub of : (k : ℕ) (s : Rectangle) → Contains (get_or yss k []) s → Contains (get_or xss k []) s
  pub done : (k : ℕ) (s : Rectangle) → Contains (take i places) k → Contains (get_or yss k []) s → is_within s r ≡ false

module _ (r : Rectangle) (xss : List (List Rectangle)) (places : List ℕ) where
  pub none_taken : AreTaken r xss places 0 xss
  none_taken = record { same = refl; of = λ k s c. c; done = λ k s c d. absurd (omega (arith, c.1)) }

  module _ (yss : List (List Rectangle)) (p : ℕ) (l : p < length yss) where
    abbrev here : List Rectangle
    here = get_or yss p []

    -- a rectangle of a block once one was trimmed
    at_set : (k : ℕ) (s : Rectangle) → Contains (get_or (set yss p (without r here)) k []) s
        → Contains (get_or yss k []) s × ((k ≡ p → is_within s r ≡ false))
    at_set k s c = elim (same_or_not k p) [
      | inl e ↦
          let g = left_over r here s (subst (λ zs. Contains zs s) (get_or-set_at yss p k (without r here) [] e l) c) in
          (subst (λ j. Contains (get_or yss j []) s) (sym e) g.0, λ f. g.1)
      | inr n ↦ (subst (λ zs. Contains zs s) (get_or-set_other yss p k (without r here) [] n) c, λ e. absurd (n e))
    ]

    pub next_taken : (i : ℕ) (zss : List (List Rectangle)) → i < length places → p ≡ get_or places i 0 → AreTaken r xss places i yss
        → zss ≡ set yss p (without r here) → AreTaken r xss places (i + 1) zss
    next_taken i zss more is h e = rw e record {
      same = map-set_same (without r) yss p (without r here) [] (none_twice r here) ∙ h.same;
      of = λ k s c. h.of k s (at_set k s c).0;
      done = λ k s c d.
          let a = at_set k s d in
          let pushed : take (i + 1) places ≡ take i places ++ p ∷ [] = take_more places i 0 more ∙ ap (λ q. take i places ++ q ∷ []) (sym is) in
          elim (Contains-push_cases (take i places) p k (subst (λ v. Contains v k) pushed c)) [
            | inl o ↦ h.done k s o a.0
            | inr q ↦ a.1 (sym q)
          ];
    }

  -- all of them were trimmed
  pub all_taken : (i : ℕ) (yss : List (List Rectangle)) → length places ≤ i → Every IsRectangle (joined xss)
      → ((k : ℕ) → Contains places k ↔ MeetsAt xss r k) → AreTaken r xss places i yss
      → joined yss ≡ filter (λ s. not (is_within s r)) (joined xss)
  all_taken i yss l rects near h =
      sym (none_gone r (joined yss) none) ∙ (sym (joined_without r yss) ∙ (ap joined h.same ∙ joined_without r xss))
    where
      stays : (s : Rectangle) (k : ℕ) → Contains (get_or yss k []) s → (b : Bool) → is_within s r ≡ b → is_within s r ≡ false
      stays s k c false e = e
      stays s k c true e =
          let was = h.of k s c in
          let proper = (every_among IsRectangle (joined xss) rects s (among _ s (at_joined xss k s was))).proper in
          let meets = meets_back r s (inner_meets s r proper e) in
          let known = (near k).1 (s, was, meets) in
          h.done k s (subst (λ v. Contains v k) (sym (take_all i places l)) known) c

      none : Every (λ s. is_within s r ≡ false) (joined yss)
      none = every_from (λ s. is_within s r ≡ false) (joined yss) (λ s m.
          let at = joined_at yss s (contains_among _ s m) in stays s at.0 at.1 (is_within s r) refl)
