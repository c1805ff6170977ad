-- What holds of the empty text, and of a text behind any digit more, holds of a written number.
use Rattle.std.proofs.Common.{ℕ, zero, suc, ◌/◌, ◌%◌, Bool, true, false, List, [], ◌∷◌}
use Rattle.std.specs.Prelude.{decimal, ◌==◌, if◌then◌else◌}
use Rattle.std.specs.Fmt.{digits, digits_onto, digit_glyph}

onto : (P : List ℕ → Type 0) → ((d : ℕ) (bs : List ℕ) → P bs → P (digit_glyph false d ∷ bs)) → (k n : ℕ) (bs : List ℕ) → P bs
    → P (digits_onto k 10 false n bs)
onto P more zero n bs h = h
onto P more (suc k) n bs h =
    let all = digit_glyph false (n % 10) ∷ bs in
    let here : P all = more (n % 10) bs h in
    either (n / 10 == 0) all (digits_onto k 10 false (n / 10) all) here (onto P more k (n / 10) all here)
  where
    either : (t : Bool) (xs ys : List ℕ) → P xs → P ys → P (if t then xs else ys)
    either true xs ys h k = h
    either false xs ys h k = k

pub decimal_has : (P : List ℕ → Type 0) → ((d : ℕ) (bs : List ℕ) → P bs → P (digit_glyph false d ∷ bs)) → P [] → (n : ℕ) → P (decimal n)
unfolding digits
decimal_has P more none n = onto P more 64 n [] none
