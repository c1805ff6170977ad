-- A piece that is taken from the front, and what is left behind it.
use Rattle.std.proofs.Common.{◌≡◌, ℕ, ◌+◌, List, ◌++◌, drop, take, length, refl}
use Rattle.std.proofs.lemmas.List.{take-append-drop, drop-drop, take_at}

-- what was left is the piece, and then what is left now
pub copies_piece : (at n : ℕ) (from to given : List ℕ) → given ≡ take n (drop at from) → length given ≡ n → drop at from ≡ take n (given ++ drop n to) ++ drop (at + n) from
copies_piece at n from to given is len = rw (take_at given (drop n to) n len, is, ← drop-drop n at from, take-append-drop n (drop at from)) refl
