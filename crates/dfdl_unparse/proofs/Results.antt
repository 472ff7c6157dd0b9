-- What holds at an answer, from what holds there.
use Rattle.std.proofs.Common.{◌≡◌, false, true, Option, Some, None, Result, Ok, Err, OnOk, Bor, sym}
use Rattle.std.specs.Option.{is_some, option_copied}
use Rattle.dfdl_unparse.specs.declared.stop.Refusal.{Refusal}
use Rattle.dfdl_unparse.specs.declared.stop.Refusal.TheVariants.{Limit, OutOfMemory}
use Rattle.dfdl_unparse.specs.Unparsers.{IfHeldBack}

pub on_ok : {T E A B : Type 0} (r : Result T E) → (A → B) → OnOk r A → OnOk r B
on_ok (Ok value) f a = f a
on_ok (Err fault) f a = tt

pub on_ok_both : {T E A B C : Type 0} (r : Result T E) → (A → B → C) → OnOk r A → OnOk r B → OnOk r C
on_ok_both (Ok value) f a b = f a b
on_ok_both (Err fault) f a b = tt

pub if_held : {A B : Type 0} (r : Result (Unit {0}) Refusal) → (A → B) → IfHeldBack A r → IfHeldBack B r
if_held (Ok done) f a = tt
if_held (Err (Limit cause)) f a = (a.0, f a.1)
if_held (Err OutOfMemory) f a = tt

pub copied_none : {X : Type 0} (o : Option (Bor X)) (p : Option X) → is_some o ≡ false → option_copied o ≡ p → p ≡ None
copied_none None p e is = sym is
copied_none (Some x) p e is = absurd (cc)

pub copied_some : {X : Type 0} (o : Option (Bor X)) (p : Option X) → is_some o ≡ true → option_copied o ≡ p → p ≡ None → ⊥
copied_some None p e is none = absurd (cc)
copied_some (Some x) p e is none = cc
