-- Of texts one behind the other, one more.
use Rattle.std.proofs.Common.{ℕ, ◌≡◌, ◌+◌, List, ◌++◌, ap, ◌∙◌, append_assoc, add-one}
use Rattle.town_terms.specs.Town.{each_below}

pub one_more : (text : ℕ → List ℕ) (i : ℕ) (start old new : List ℕ) → old ≡ start ++ each_below i text → new ≡ old ++ text i
    → new ≡ start ++ each_below (i + 1) text
one_more text i start old new before more =
    rw add-one (more ∙ (ap (λ t. t ++ text i) before ∙ append_assoc start (each_below i text) (text i)))
