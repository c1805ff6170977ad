-- The words of the command line.
use Rattle.std.proofs.Common.{ℕ, List, [], ◌∷◌, ◌≡◌, length, get_or, map, ap, sym, ◌∙◌, refl, arith}
use Rattle.std.specs.Prelude.{◌↔◌}

-- one word, and what it is
pub one_word : {X : Type 0} (f : X → List ℕ) (ws : List X) (w : X) (text : List ℕ) → length ws ≡ 1 → w ≡ get_or ws 0 w
    → (map f ws ≡ text ∷ []) ↔ (f w ≡ text)
one_word f [] w text one is = absurd (omega arith)
one_word f (x ∷ []) w text one is = record { 0 = λ e. ap f is ∙ head_same e; 1 = λ e. ap (λ t. t ∷ []) (ap f (sym is) ∙ e) }
  where
    head_same : f x ∷ [] ≡ text ∷ [] → f x ≡ text
    head_same e = cc
one_word f (x ∷ y ∷ ws) w text one is = absurd (omega arith)

pub not_one : {X : Type 0} (f : X → List ℕ) (ws : List X) (text : List ℕ) → (length ws ≡ 1 → ⊥) → map f ws ≡ text ∷ [] → ⊥
not_one f [] text other e = cc
not_one f (x ∷ []) text other e = other refl
not_one f (x ∷ y ∷ ws) text other e = cc

pub ruleset words_tests = (one_word, not_one)
