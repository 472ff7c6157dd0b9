-- What is known of answers that may want memory.
use Rattle.std.proofs.Common.{◌≡◌, sym, subst, Option, Some, None, Result, Ok, Err, IfOk, IfSome, Bool, true, false, ◌&&◌, if◌then◌else◌}
use Rattle.std.proofs.lemmas.Bool.{cond-true, cond-false}

-- what follows of an answer
pub if-ok : {T E : Type 0} {P Q : T → Type 0} (r : Result T E) → IfOk r P → ((x : T) → P x → Q x) → IfOk r Q
if-ok (Ok x) h f = f x h
if-ok (Err e) h f = h

-- what holds of each value that a definition tells holds of the answer
pub if-some : {T E : Type 0} (told : Option T) (P : T → Type 0) (r : Result (Option T) E) → IfOk r (λ x. x ≡ told)
    → ((x : T) → told ≡ Some x → P x) → IfOk r (λ x. IfSome x P)
if-some told P (Ok (Some x)) is f = f x (sym is)
if-some told P (Ok None) is f = tt
if-some told P (Err e) is f = is

-- an answer that is the first of two by a test
pub chosen : {T E : Type 0} (b : Bool) (x y : T) (r : Result T E) → b ≡ true → IfOk r (λ v. v ≡ x) → IfOk r (λ v. v ≡ (if b then x else y))
chosen b x y r holds h = subst (λ w. IfOk r (λ v. v ≡ w)) (sym (cond-true b x y holds)) h

-- an answer that is the second of two by a test
pub passed : {T E : Type 0} (b : Bool) (x y : T) (r : Result T E) → b ≡ false → IfOk r (λ v. v ≡ y) → IfOk r (λ v. v ≡ (if b then x else y))
passed b x y r fails h = subst (λ w. IfOk r (λ v. v ≡ w)) (sym (cond-false b x y fails)) h

-- an answer that is the last of three tests
pub joined : {E : Type 0} (a b x : Bool) (r : Result Bool E) → a ≡ true → b ≡ true → IfOk r (λ v. v ≡ x) → IfOk r (λ v. v ≡ (a && (b && x)))
joined true true x r first second h = h
joined false b x r first second h = absurd (cc)
joined true false x r first second h = absurd (cc)
