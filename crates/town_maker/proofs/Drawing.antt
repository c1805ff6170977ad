-- Words that are drawn one after the other.
use Rattle.std.proofs.Common.{ℕ, ◌≡◌, ◌+◌, List, [], ◌∷◌, ◌++◌, length, ap, ◌∙◌, arith, add-one}
use Rattle.std.proofs.lemmas.Grind.{common_steps}
use Rattle.rand_xoshiro.specs.SplitMix64.{next_state, mix_u64}
use Rattle.town_terms.specs.Words.{state_after, word}
use Rattle.town_maker.specs.Drawn.{AreWords}

pub word_is : (seed k s w t : ℕ) → s ≡ state_after seed k → (w, t) ≡ mix_u64 s → w ≡ word seed k
unfolding word
word_is seed k s w t at drawn = ap {A = ℕ × ℕ} (λ p. p.0) drawn ∙ ap (λ x. (mix_u64 x).0) at

pub state_is : (seed k s w t : ℕ) → s ≡ state_after seed k → (w, t) ≡ mix_u64 s → t ≡ state_after seed (k + 1)
unfolding state_after
state_is seed k s w t at drawn = rw add-one (ap {A = ℕ × ℕ} (λ p. p.1) drawn ∙ ap (λ x. next_state x) at)

pub no_words : (seed : ℕ) (ws : List ℕ) → ws ≡ [] → AreWords seed ws
no_words seed ws none k below = absurd (grind (arith, ap length none))

pub words_more : (seed k w : ℕ) (ws : List ℕ) → length ws ≡ k → AreWords seed ws → w ≡ word seed k → AreWords seed (ws ++ w ∷ [])
words_more seed n w ws many are is k below = grind (arith, common_steps, are k)
