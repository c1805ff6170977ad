-- What is known of a result, and follows.
use Rattle.std.proofs.Common.{◌≡◌, sym, subst, Ok, Err}
use Rattle.std.specs.Prelude.{IfOk, IfErr, Result}
use Rattle.std.specs.Result.{IsErrAnd}

pub if_ok : {A E : Type 0} {P Q : A → Type 0} (r : Result A E) → ((a : A) → P a → Q a) → IfOk r P → IfOk r Q
if_ok (Ok a) f h = f a h
if_ok (Err e) f h = tt

pub if_err : {A E : Type 0} {P Q : E → Type 0} (r : Result A E) → ((e : E) → P e → Q e) → IfErr r P → IfErr r Q
if_err (Ok a) f h = tt
if_err (Err e) f h = f e h

pub err_from : {A E : Type 0} (r : Result A E) (a : E) (Q : E → Type 0) → IsErrAnd r (λ e. e ≡ a) → Q a → IfErr r Q
err_from (Ok b) a Q h q = tt
err_from (Err e) a Q h q = subst Q (sym h) q
