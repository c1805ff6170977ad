-- The words that a seed gives.
--
-- state_after seed k   the state of SplitMix64 after k words, the seed being its first state
-- word seed k          its word number k, counted from 0: a number below 2 ^ 64
--
-- Source: Steele, Lea and Flood 2014, with the constants of the kit's crate rand_xoshiro.
use Rattle.std.specs.Prelude.{ℕ, zero, suc}
use Rattle.rand_xoshiro.specs.SplitMix64.{next_state, mix_u64}

unfoldable pub state_after : ℕ → ℕ → ℕ
state_after seed zero = seed
state_after seed (suc k) = next_state (state_after seed k)

unfoldable pub word : ℕ → ℕ → ℕ
word seed k = (mix_u64 (state_after seed k)).0
