-- Of a value that is there, what holds of it holds of what it is.
use Rattle.std.proofs.Common.{◌≡◌, subst, IfOk, Result, Ok, Err}

pub both_ok : {A E : Type 0} (r : Result A E) (x : A) (P : A → Type 0) → IfOk r (λ a. a ≡ x) → IfOk r P → IfOk r (λ a. P x)
both_ok (Ok a) x P e p = subst P e p
both_ok (Err f) x P e p = tt
