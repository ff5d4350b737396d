-- What holds at an exit of a call.
use Rattle.log_stream.proofs.Vocabulary.{◌≡◌, Result, Ok, Err, OnOk, IfOk, is_ok}

-- what holds on `Ok` of a call whose answer was passed on as `Ok`
pub on_ok_passed : {T E A B : Type 0} {P : Type 0} (r : Result T E) (s : Result A B) (x : A) → OnOk r P → is_ok s ≡ is_ok r → s ≡ Ok x → P
on_ok_passed (Ok y) s x p e is = p
on_ok_passed (Err y) (Ok z) x p e is = cc
on_ok_passed (Err y) (Err z) x p e is = cc

pub if_ok_passed : {T E A B : Type 0} {P : T → Type 0} (r : Result T E) (s : Result A B) (x : A) → IfOk r P → is_ok s ≡ is_ok r → s ≡ Ok x → (y : T) × P y
if_ok_passed (Ok y) s x p e is = (y, p)
if_ok_passed (Err y) (Ok z) x p e is = cc
if_ok_passed (Err y) (Err z) x p e is = cc
